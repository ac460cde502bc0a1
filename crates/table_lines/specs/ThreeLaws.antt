-- An input has three lines exactly if it is three lines with a line end behind each, the last line
-- end perhaps left out.
use Rattle.std.specs.Prelude.{ℕ, zero, suc, ◌<◌, ◌≡◌, refl, Bool, true, false, cond, List, [], ◌∷◌, ◌++◌, ◌⊎◌, length}
use Rattle.std.proofs.Common.{arith, sym, ap, ◌∙◌, inl, inr, eqb-true}
use Rattle.std.proofs.Math.Option.{some, none-ne-some}
use Rattle.table_lines.specs.Lines.{is_end, line, behind, Three, unless_fourth, three_lines}
use Rattle.table_lines.specs.Kept.{ends_in}
use Rattle.table_lines.specs.LineLaws.{behind_none}
use Rattle.table_lines.specs.CallerLaws.{three_lines_lem}

-- a line, its end, and what comes after it

pub first_line : (a r : List ℕ) → ends_in a ≡ 0 → line 0 (a ++ (0x0A ∷ r)) ≡ a
first_line [] r h = refl
first_line (x ∷ a) r h = split (is_end x) h (first_line a r)
  where
    split : (c : Bool) → cond c (suc (ends_in a)) (ends_in a) ≡ 0 → (ends_in a ≡ 0 → line 0 (a ++ (0x0A ∷ r)) ≡ a)
        → cond c [] (x ∷ line 0 (a ++ (0x0A ∷ r))) ≡ x ∷ a
    split true g p = absurd (omega arith)
    split false g p = ap (λ (l : List ℕ). x ∷ l) (p g)

pub next_line : (k : ℕ) (a r : List ℕ) → ends_in a ≡ 0 → line (suc k) (a ++ (0x0A ∷ r)) ≡ line k r
next_line k [] r h = refl
next_line k (x ∷ a) r h = split (is_end x) h (next_line k a r)
  where
    split : (c : Bool) → cond c (suc (ends_in a)) (ends_in a) ≡ 0 → (ends_in a ≡ 0 → line (suc k) (a ++ (0x0A ∷ r)) ≡ line k r)
        → cond c (line k (a ++ (0x0A ∷ r))) (line (suc k) (a ++ (0x0A ∷ r))) ≡ line k r
    split true g p = absurd (omega arith)
    split false g p = p g

pub next_behind : (k : ℕ) (a r : List ℕ) → ends_in a ≡ 0 → behind (suc k) (a ++ (0x0A ∷ r)) ≡ behind k r
next_behind k [] r h = refl
next_behind k (x ∷ a) r h = split (is_end x) h (next_behind k a r)
  where
    split : (c : Bool) → cond c (suc (ends_in a)) (ends_in a) ≡ 0 → (ends_in a ≡ 0 → behind (suc k) (a ++ (0x0A ∷ r)) ≡ behind k r)
        → cond c (behind k (a ++ (0x0A ∷ r))) (behind (suc k) (a ++ (0x0A ∷ r))) ≡ behind k r
    split true g p = absurd (omega arith)
    split false g p = p g

-- without a line end there is one line
pub only_line : (a : List ℕ) → ends_in a ≡ 0 → line 0 a ≡ a
only_line [] h = refl
only_line (x ∷ a) h = split (is_end x) h (only_line a)
  where
    split : (c : Bool) → cond c (suc (ends_in a)) (ends_in a) ≡ 0 → (ends_in a ≡ 0 → line 0 a ≡ a) → cond c [] (x ∷ line 0 a) ≡ x ∷ a
    split true g p = absurd (omega arith)
    split false g p = ap (λ (l : List ℕ). x ∷ l) (p g)

abbrev three : List ℕ → List ℕ → List ℕ → Three
three a b c = record { set = a; scheme = b; last = c }

-- three lines, the third with a byte

found : (l : List ℕ) (t : Three) → 0 < length l → unless_fourth l [] t ≡ some t
found [] t h = absurd (omega arith)
found (x ∷ l) t h = refl

module _ (a b c : List ℕ) (first : ends_in a ≡ 0) (second : ends_in b ≡ 0) (third : ends_in c ≡ 0) (some_byte : 0 < length c) where
  pub three_open : three_lines (a ++ (0x0A ∷ (b ++ (0x0A ∷ c)))) ≡ some (three a b c)
  three_open =
      let none : ends_in c < 1 = omega arith in
      rw (
        next_behind 2 a (b ++ (0x0A ∷ c)) first,
        next_behind 1 b c second,
        behind_none 1 c none,
        first_line a (b ++ (0x0A ∷ c)) first,
        next_line 0 a (b ++ (0x0A ∷ c)) first,
        next_line 1 a (b ++ (0x0A ∷ c)) first,
        next_line 0 b c second,
        first_line b c second,
        only_line c third,
      )
      (found c (three a b c) some_byte)

  pub three_ended : three_lines (a ++ (0x0A ∷ (b ++ (0x0A ∷ (c ++ (0x0A ∷ [])))))) ≡ some (three a b c)
  three_ended =
      let r = c ++ (0x0A ∷ []) in
      rw (
        next_behind 2 a (b ++ (0x0A ∷ r)) first,
        next_behind 1 b r second,
        next_behind 0 c [] third,
        first_line a (b ++ (0x0A ∷ r)) first,
        next_line 0 a (b ++ (0x0A ∷ r)) first,
        next_line 1 a (b ++ (0x0A ∷ r)) first,
        next_line 0 b r second,
        first_line b r second,
        first_line c [] third,
      )
      (found c (three a b c) some_byte)

-- and nothing else has three lines

whole : (r : List ℕ) → behind 0 r ≡ r
whole [] = refl
whole (y ∷ r) = refl

-- what comes behind the first line end
one_behind : (k : ℕ) (s : List ℕ) → (line (suc k) s ≡ line k (behind 1 s)) × (behind (suc k) s ≡ behind k (behind 1 s))
one_behind k [] = (refl, refl)
one_behind k (x ∷ s) = split (is_end x) (one_behind k s)
  where
    split : (c : Bool) → (line (suc k) s ≡ line k (behind 1 s)) × (behind (suc k) s ≡ behind k (behind 1 s))
        → (cond c (line k s) (line (suc k) s) ≡ line k (cond c (behind 0 s) (behind 1 s)))
        × (cond c (behind k s) (behind (suc k) s) ≡ behind k (cond c (behind 0 s) (behind 1 s)))
    split true p = (ap (line k) (sym (whole s)), ap (behind k) (sym (whole s)))
    split false p = p

-- an input with a line end is its first line, the line end, and what comes behind it
at_end : (s : List ℕ) → 0 < ends_in s → (s ≡ line 0 s ++ (0x0A ∷ behind 1 s)) × (ends_in s ≡ suc (ends_in (behind 1 s)))
at_end [] h = absurd (omega arith)
at_end (x ∷ s) h = split (is_end x) refl h (at_end s)
  where
    split : (c : Bool) → is_end x ≡ c → 0 < cond c (suc (ends_in s)) (ends_in s)
        → (0 < ends_in s → (s ≡ line 0 s ++ (0x0A ∷ behind 1 s)) × (ends_in s ≡ suc (ends_in (behind 1 s))))
        → (x ∷ s ≡ cond c [] (x ∷ line 0 s) ++ (0x0A ∷ cond c (behind 0 s) (behind 1 s)))
        × (cond c (suc (ends_in s)) (ends_in s) ≡ suc (ends_in (cond c (behind 0 s) (behind 1 s))))
    split true e g p = rw (eqb-true x 0x0A e, whole s) (refl, refl)
    split false e g p = let q = p g in (ap (λ (l : List ℕ). x ∷ l) q.0, q.1)

-- a line that is not begun has no bytes
pub line_none : (k : ℕ) (s : List ℕ) → ends_in s < k → line k s ≡ []
line_none zero s h = absurd (omega arith)
line_none (suc k) [] h = refl
line_none (suc k) (x ∷ s) h = split (is_end x) h (line_none k s) (line_none (suc k) s)
  where
    split : (c : Bool) → cond c (suc (ends_in s)) (ends_in s) < suc k → (ends_in s < k → line k s ≡ []) →
        (ends_in s < suc k → line (suc k) s ≡ [])
        → cond c (line k s) (line (suc k) s) ≡ []
    split true g p q = p (omega arith)
    split false g p q = q g

abbrev pub written : Three → List ℕ
written t = t.set ++ (0x0A ∷ (t.scheme ++ (0x0A ∷ t.last)))

abbrev pub written_ended : Three → List ℕ
written_ended t = t.set ++ (0x0A ∷ (t.scheme ++ (0x0A ∷ (t.last ++ (0x0A ∷ [])))))

-- an input is one line, or one line and its end, where nothing comes behind that
last_only : (s : List ℕ) → behind 1 s ≡ [] → (s ≡ line 0 s) ⊎ (s ≡ line 0 s ++ (0x0A ∷ []))
last_only s h = split (ends_in s) refl
  where
    split : (n : ℕ) → ends_in s ≡ n → (s ≡ line 0 s) ⊎ (s ≡ line 0 s ++ (0x0A ∷ []))
    split zero e = inl (sym (only_line s e))
    split (suc n) e = inr ((at_end s (omega arith)).0 ∙ ap (λ (r : List ℕ). line 0 s ++ (0x0A ∷ r)) h)

-- what a third line with a byte and no fourth come to
third_there : (l r : List ℕ) (t u : Three) → unless_fourth l r t ≡ some u → (r ≡ []) × (l ≡ [] → ⊥)
third_there [] r t u e = absurd (none-ne-some u e)
third_there (x ∷ l) [] t u e = (refl, λ (p : x ∷ l ≡ []). let z : suc (length l) ≡ 0 = ap length p in omega arith)
third_there (x ∷ l) (y ∷ r) t u e = absurd (none-ne-some u e)

module _ (s : List ℕ) (t : Three) (e : three_lines s ≡ some t) where
  there : (behind 3 s ≡ []) × (line 2 s ≡ [] → ⊥)
  there = third_there (line 2 s) (behind 3 s) (three (line 0 s) (line 1 s) (line 2 s)) t e

  -- two line ends at least
  two_ends : (n : ℕ) → ends_in s ≡ n → 1 < n
  two_ends zero p = absurd (there.1 (line_none 2 s (omega arith)))
  two_ends (suc zero) p = absurd (there.1 (line_none 2 s (omega arith)))
  two_ends (suc (suc n)) p = omega arith

  first_cut : s ≡ line 0 s ++ (0x0A ∷ behind 1 s)
  first_cut = (at_end s (let k = two_ends (ends_in s) refl in omega arith)).0

  second_cut : behind 1 s ≡ line 1 s ++ (0x0A ∷ behind 2 s)
  second_cut =
      let k = two_ends (ends_in s) refl in
      let p = (at_end s (omega arith)).1 in
      let q : 0 < ends_in (behind 1 s) = omega arith in
      (at_end (behind 1 s) q).0
      ∙ ap (λ (l : List ℕ). l ++ (0x0A ∷ behind 1 (behind 1 s))) (sym (one_behind 0 s).0)
      ∙ ap (λ (r : List ℕ). line 1 s ++ (0x0A ∷ r)) (sym (one_behind 1 s).1)

  third_line : line 2 s ≡ line 0 (behind 2 s)
  third_line = (one_behind 1 s).0 ∙ (one_behind 0 (behind 1 s)).0 ∙ ap (line 0) (sym (one_behind 1 s).1)

  third_end : behind 1 (behind 2 s) ≡ []
  third_end = ap (behind 1) (one_behind 1 s).1 ∙ sym (one_behind 1 (behind 1 s)).1 ∙ sym (one_behind 2 s).1 ∙ there.0

  joined : (r : List ℕ) → behind 2 s ≡ r → s ≡ line 0 s ++ (0x0A ∷ (line 1 s ++ (0x0A ∷ r)))
  joined r p = first_cut ∙ ap (λ (l : List ℕ). line 0 s ++ (0x0A ∷ l)) (second_cut ∙ ap (λ (l : List ℕ). line 1 s ++ (0x0A ∷ l)) p)

  pub three_only : (s ≡ written t) ⊎ (s ≡ written_ended t)
  three_only = rw (three_lines_lem s t e) (cases (last_only (behind 2 s) third_end))
    where
      cases : (behind 2 s ≡ line 0 (behind 2 s)) ⊎ (behind 2 s ≡ line 0 (behind 2 s) ++ (0x0A ∷ []))
          → (s ≡ written (three (line 0 s) (line 1 s) (line 2 s))) ⊎ (s ≡ written_ended (three (line 0 s) (line 1 s) (line 2 s)))
      cases (inl p) = inl (joined (line 2 s) (p ∙ sym third_line))
      cases (inr p) = inr (joined (line 2 s ++ (0x0A ∷ [])) (p ∙ ap (λ (l : List ℕ). l ++ (0x0A ∷ [])) (sym third_line)))

-- no line holds a line end
pub line_endless : (k : ℕ) (s : List ℕ) → ends_in (line k s) ≡ 0
line_endless zero [] = refl
line_endless (suc k) [] = refl
line_endless zero (x ∷ s) = split (is_end x) refl (line_endless zero s)
  where
    split : (c : Bool) → is_end x ≡ c → ends_in (line 0 s) ≡ 0 → ends_in (cond c [] (x ∷ line 0 s)) ≡ 0
    split true e p = refl
    split false e p = rw e p
line_endless (suc k) (x ∷ s) = split (is_end x) (line_endless k s) (line_endless (suc k) s)
  where
    split : (c : Bool) → ends_in (line k s) ≡ 0 → ends_in (line (suc k) s) ≡ 0 → ends_in (cond c (line k s) (line (suc k) s)) ≡ 0
    split true p q = p
    split false p q = q
