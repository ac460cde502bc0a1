-- What is kept of an input holds the first bytes of its two lines.
use Rattle.std.specs.Prelude.{ℕ, zero, suc, ◌≤◌, ◌<◌, ◌≡◌, refl, Bool, true, false, not, ◌&&◌, ◌||◌, cond, List, [], ◌∷◌, take, eqb, ltb}
use Rattle.std.proofs.Common.{arith, sym, ap, ◌∙◌, lt-ltb, le-ltb, eq-eqb, ne_eqb}
use Rattle.std.proofs.Math.Option.{Option, none, some}
use Rattle.std.proofs.Math.Dec.{leb-suc-suc}
use Rattle.table_lines.specs.Lines.{is_end, line, behind}
use Rattle.table_lines.specs.Kept.{set_room, scheme_room, held_length, ends_in, up_to_three, has_bytes, kept_of}
use Rattle.table_lines.specs.declared.input.Lines.{Lines}
use Rattle.table_lines.specs.CallerLaws.{held_front}
use Rattle.avoider_lines.specs.TwoLines.{Two, unless_third, two_lines, is_two, held_two, two_in}

same_test : (m n : ℕ) → ltb (suc m) (suc n) ≡ ltb m n
same_test m n = leb-suc-suc (suc m) n

-- bytes behind the first k line ends: the line there has some, or a further line end comes
behind_line : (k : ℕ) (s : List ℕ) → has_bytes (behind k s) ≡ (has_bytes (line k s) || ltb k (ends_in s))
behind_line zero [] = refl
behind_line (suc k) [] = sym (le-ltb (suc k) 0 (omega arith))
behind_line zero (b ∷ s) = split (is_end b)
  where
    split : (c : Bool) → true ≡ (has_bytes (cond c [] (b ∷ line 0 s)) || ltb 0 (cond c (suc (ends_in s)) (ends_in s)))
    split true = sym (lt-ltb 0 (suc (ends_in s)) (omega arith))
    split false = refl
behind_line (suc k) (b ∷ s) = split (is_end b) (behind_line k s) (behind_line (suc k) s)
  where
    split : (c : Bool) → has_bytes (behind k s) ≡ (has_bytes (line k s) || ltb k (ends_in s)) →
        has_bytes (behind (suc k) s) ≡ (has_bytes (line (suc k) s) || ltb (suc k) (ends_in s)) →
        has_bytes (cond c (behind k s) (behind (suc k) s)) ≡
        (has_bytes (cond c (line k s) (line (suc k) s)) || ltb (suc k) (cond c (suc (ends_in s)) (ends_in s)))
    split true p q = p ∙ ap (λ (b : Bool). has_bytes (line k s) || b) (sym (same_test k (ends_in s)))
    split false p q = q

-- a line of which bytes are kept has some
held_bytes : (n : ℕ) (l : List ℕ) → eqb (held_length (suc n) l) 0 ≡ not (has_bytes l)
held_bytes n [] = refl
held_bytes n (b ∷ l) = ne_eqb (held_length (suc n) (b ∷ l)) 0 (λ (e : held_length (suc n) (b ∷ l) ≡ 0). omega arith)

few_ends : (e : ℕ) → ltb (up_to_three e) 3 ≡ not (ltb 2 e)
few_ends zero = refl
few_ends (suc zero) = refl
few_ends (suc (suc zero)) = refl
few_ends (suc (suc (suc e))) = ap not (sym (lt-ltb 2 (suc (suc (suc e))) (omega arith)))

-- what is kept says whether the two lines are there and no third
kept_complete : (s : List ℕ) → is_two (kept_of s).lines ≡ (has_bytes (line 1 s) && not (has_bytes (behind 2 s)))
unfolding kept_of
kept_complete s =
    rw (held_bytes 32768 (line 1 s), held_bytes 2 (line 2 s), few_ends (ends_in s), behind_line 2 s)
    (split (has_bytes (line 1 s)) (has_bytes (line 2 s)) (ltb 2 (ends_in s)))
  where
    split : (a b c : Bool) → (not (not a) && not b && not c) ≡ (a && not (b || c))
    split true true c = refl
    split true false c = refl
    split false b c = refl

-- as many bytes of each line as there is room for
abbrev pub fronts : Two → Two
fronts t = record { set = take set_room t.set; last = take scheme_room t.last }

abbrev pub fronts_if : Option Two → Option Two
fronts_if none = none
fronts_if (some t) = some (fronts t)

abbrev lines_of : List ℕ → Two
lines_of s = record { set = line 0 s; last = line 1 s }

-- the two lines in what is kept of an input are the first bytes of its two lines
pub kept_two : (s : List ℕ) → two_in (kept_of s) ≡ fronts_if (two_lines s)
unfolding kept_of
kept_two s = ap (λ (b : Bool). cond b (some (held_two (kept_of s))) none) (kept_complete s) ∙ split (line 1 s) (behind 2 s) same
  where
    same : held_two (kept_of s) ≡ fronts (lines_of s)
    same = rw (held_front set_room (line 0 s), held_front scheme_room (line 1 s)) refl

    split : (l r : List ℕ) → held_two (kept_of s) ≡ fronts (lines_of s) →
        cond (has_bytes l && not (has_bytes r)) (some (held_two (kept_of s))) none ≡ fronts_if (unless_third l r (lines_of s))
    split [] r e = refl
    split (b ∷ l) [] e = ap some e
    split (b ∷ l) (c ∷ r) e = refl

-- the tests, as the code makes them

module _ (k : Lines) where
  pub second_missing : k.scheme_length ≡ 0 → false ≡ is_two k
  second_missing e = rw (eq-eqb k.scheme_length 0 e) refl

  module _ (there : k.scheme_length ≡ 0 → ⊥) where
    pub third_begun : 0 < k.last_length → false ≡ is_two k
    third_begun h = rw (
      ne_eqb k.scheme_length 0 there,
      ne_eqb k.last_length 0 (λ (e : k.last_length ≡ 0). omega arith),
    ) refl

    pub ends_decide : k.last_length ≤ 0 → ltb k.ends 3 ≡ is_two k
    ends_decide h = let e : k.last_length ≡ 0 = omega arith in
        rw (ne_eqb k.scheme_length 0 there, eq-eqb k.last_length 0 e) refl
