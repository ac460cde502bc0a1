-- Laws of the lines of an input with one byte more.
use Rattle.std.specs.Prelude.{ℕ, zero, suc, ◌≤◌, ◌<◌, ◌≡◌, refl, Bool, true, false, cond, List, [], ◌∷◌, ◌++◌}
use Rattle.std.proofs.Common.{arith, ap, ap₂}
use Rattle.table_lines.specs.Lines.{is_end, line, behind}
use Rattle.table_lines.specs.Kept.{ends_in, has_bytes}

-- the number of line ends

pub ends_other : (s : List ℕ) (b : ℕ) → is_end b ≡ false → ends_in (s ++ (b ∷ [])) ≡ ends_in s
ends_other [] b e = rw e refl
ends_other (x ∷ s) b e = ap (λ (n : ℕ). cond (is_end x) (suc n) n) (ends_other s b e)

pub ends_end : (s : List ℕ) (b : ℕ) → is_end b ≡ true → ends_in (s ++ (b ∷ [])) ≡ suc (ends_in s)
ends_end [] b e = rw e refl
ends_end (x ∷ s) b e = split (is_end x) (ends_end s b e)
  where
    split : {m n : ℕ} (c : Bool) → m ≡ suc n → cond c (suc m) m ≡ suc (cond c (suc n) n)
    split true h = ap suc h
    split false h = h

-- a line end adds nothing to a line

pub line_end : (k : ℕ) (s : List ℕ) (b : ℕ) → is_end b ≡ true → line k (s ++ (b ∷ [])) ≡ line k s
line_end zero [] b e = rw e refl
line_end (suc k) [] b e = rw e refl
line_end zero (x ∷ s) b e = ap (λ (l : List ℕ). cond (is_end x) [] (x ∷ l)) (line_end zero s b e)
line_end (suc k) (x ∷ s) b e = ap₂ (λ (p q : List ℕ). cond (is_end x) p q) (line_end k s b e) (line_end (suc k) s b e)

-- a byte adds nothing to a line that is not the last

pub line_same : (k : ℕ) (s : List ℕ) (b : ℕ) → (ends_in s ≡ k → ⊥) → line k (s ++ (b ∷ [])) ≡ line k s
line_same zero [] b h = absurd (h refl)
line_same (suc k) [] b h = split (is_end b)
  where
    split : (c : Bool) → ◌≡◌ {A = List ℕ} (cond c [] []) []
    split true = refl
    split false = refl
line_same zero (x ∷ s) b h = split (is_end x) h (line_same zero s b)
  where
    split : (c : Bool) → (cond c (suc (ends_in s)) (ends_in s) ≡ 0 → ⊥) → ((ends_in s ≡ 0 → ⊥) → line 0 (s ++ (b ∷ [])) ≡ line 0 s)
        → cond c [] (x ∷ line 0 (s ++ (b ∷ []))) ≡ cond c [] (x ∷ line 0 s)
    split true g r = refl
    split false g r = ap (λ (l : List ℕ). x ∷ l) (r g)
line_same (suc k) (x ∷ s) b h = split (is_end x) h (line_same k s b) (line_same (suc k) s b)
  where
    split : (c : Bool) → (cond c (suc (ends_in s)) (ends_in s) ≡ suc k → ⊥) → ((ends_in s ≡ k → ⊥) → line k (s ++ (b ∷ [])) ≡ line k s)
        → ((ends_in s ≡ suc k → ⊥) → line (suc k) (s ++ (b ∷ [])) ≡ line (suc k) s)
        → cond c (line k (s ++ (b ∷ []))) (line (suc k) (s ++ (b ∷ []))) ≡ cond c (line k s) (line (suc k) s)
    split true g p q = p (λ (e : ends_in s ≡ k). g (ap suc e))
    split false g p q = q g

-- a byte that is no line end is one byte more of the last line

pub line_more : (k : ℕ) (s : List ℕ) (b : ℕ) → ends_in s ≡ k → is_end b ≡ false → line k (s ++ (b ∷ [])) ≡ line k s ++ (b ∷ [])
line_more zero [] b h e = rw e refl
line_more (suc k) [] b h e = absurd (omega arith)
line_more zero (x ∷ s) b h e = split (is_end x) h (λ (g : ends_in s ≡ 0). line_more zero s b g e)
  where
    split : (c : Bool) → cond c (suc (ends_in s)) (ends_in s) ≡ 0 → (ends_in s ≡ 0 → line 0 (s ++ (b ∷ [])) ≡ line 0 s ++ (b ∷ []))
        → cond c [] (x ∷ line 0 (s ++ (b ∷ []))) ≡ cond c [] (x ∷ line 0 s) ++ (b ∷ [])
    split true g r = absurd (omega arith)
    split false g r = ap (λ (l : List ℕ). x ∷ l) (r g)
line_more (suc k) (x ∷ s) b h e =
    split (is_end x) h (λ (g : ends_in s ≡ k). line_more k s b g e) (λ (g : ends_in s ≡ suc k). line_more (suc k) s b g e)
  where
    split : (c : Bool) → cond c (suc (ends_in s)) (ends_in s) ≡ suc k → (ends_in s ≡ k → line k (s ++ (b ∷ [])) ≡ line k s ++ (b ∷ []))
        → (ends_in s ≡ suc k → line (suc k) (s ++ (b ∷ [])) ≡ line (suc k) s ++ (b ∷ []))
        → cond c (line k (s ++ (b ∷ []))) (line (suc k) (s ++ (b ∷ []))) ≡ cond c (line k s) (line (suc k) s) ++ (b ∷ [])
    split true g p q = p (omega arith)
    split false g p q = q g

-- what stands behind k line ends

pub behind_none : (k : ℕ) (s : List ℕ) → ends_in s < k → behind k s ≡ []
behind_none zero s h = absurd (omega arith)
behind_none (suc k) [] h = refl
behind_none (suc k) (x ∷ s) h = split (is_end x) h (behind_none k s) (behind_none (suc k) s)
  where
    split : (c : Bool) → cond c (suc (ends_in s)) (ends_in s) < suc k → (ends_in s < k → behind k s ≡ []) →
        (ends_in s < suc k → behind (suc k) s ≡ [])
        → cond c (behind k s) (behind (suc k) s) ≡ []
    split true g p q = p (omega arith)
    split false g p q = q g

pub behind_last : (k : ℕ) (s : List ℕ) (b : ℕ) → ends_in s < k → behind k (s ++ (b ∷ [])) ≡ []
behind_last zero s b h = absurd (omega arith)
behind_last (suc k) [] b h = split (is_end b)
  where
    split : (c : Bool) → ◌≡◌ {A = List ℕ} (cond c [] []) []
    split true = refl
    split false = refl
behind_last (suc k) (x ∷ s) b h = split (is_end x) h (behind_last k s b) (behind_last (suc k) s b)
  where
    split : (c : Bool) → cond c (suc (ends_in s)) (ends_in s) < suc k → (ends_in s < k → behind k (s ++ (b ∷ [])) ≡ [])
        → (ends_in s < suc k → behind (suc k) (s ++ (b ∷ [])) ≡ []) →
        cond c (behind k (s ++ (b ∷ []))) (behind (suc k) (s ++ (b ∷ []))) ≡ []
    split true g p q = p (omega arith)
    split false g p q = q g

pub behind_some : (k : ℕ) (s : List ℕ) (b : ℕ) → k ≤ ends_in s → has_bytes (behind k (s ++ (b ∷ []))) ≡ true
behind_some zero [] b h = refl
behind_some zero (x ∷ s) b h = refl
behind_some (suc k) [] b h = absurd (omega arith)
behind_some (suc k) (x ∷ s) b h = split (is_end x) h (behind_some k s b) (behind_some (suc k) s b)
  where
    split : (c : Bool) → suc k ≤ cond c (suc (ends_in s)) (ends_in s) → (k ≤ ends_in s → has_bytes (behind k (s ++ (b ∷ []))) ≡ true)
        → (suc k ≤ ends_in s → has_bytes (behind (suc k) (s ++ (b ∷ []))) ≡ true)
        → has_bytes (cond c (behind k (s ++ (b ∷ []))) (behind (suc k) (s ++ (b ∷ [])))) ≡ true
    split true g p q = p (omega arith)
    split false g p q = q g
