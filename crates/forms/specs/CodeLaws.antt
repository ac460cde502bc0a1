-- Laws of codes: two lists of bytes have the same code exactly if they are the same list; a code of
-- at most PREFIX bytes fits 64 bits.
-- Assumes nothing.
use Rattle.std.specs.Prelude.{ℕ, zero, suc, ◌*◌, ◌≤◌, ◌<◌, ◌≡◌, refl, true, length, get_or, take, eqb}
use Rattle.std.proofs.Common.{arith, sym, ap, ap₂, ◌∙◌, eq-eqb, eqb-true}
use mathlib.Core.List.Memᴰ
use mathlib.Core.List.{List, [], ◌∷◌, map, map-map, Memᴰ}
use Rattle.word.specs.Ceilings.{PREFIX}
use Rattle.word.specs.Lists.{row}
use Rattle.word.specs.ListLaws.{same_test, map_same, row_out}
use Rattle.cell.specs.Basis.{same}
use Rattle.cell.proofs.BuiltCells.{same_refl, same_out}
use Rattle.forms.specs.Codes.{code_of, Bytes, IsCode, Codes}
use Rattle.forms.specs.MemoryLaws.{take_row}

code_positive : (p : List ℕ) → 0 < code_of p
unfolding code_of
code_positive [] = omega arith
code_positive (d ∷ p) = omega (arith, code_positive p)

pub code_one_one : (p q : List ℕ) → Bytes p → Bytes q → code_of p ≡ code_of q → p ≡ q
unfolding code_of
code_one_one [] [] b c e = refl
code_one_one [] (d ∷ q) b c e = absurd (omega (arith, code_positive q))
code_one_one (d ∷ p) [] b c e = absurd (omega (arith, code_positive p))
code_one_one (d ∷ p) (x ∷ q) (u, b) (v, c) e =
    let first : d ≡ x = omega arith in
    let rest : code_of p ≡ code_of q = omega arith in
    ap₂ (λ y l. y ∷ l) first (code_one_one p q b c rest)

-- comparing codes is comparing lists
pub code_same : (p q : List ℕ) → Bytes p → Bytes q → eqb (code_of p) (code_of q) ≡ same p q
code_same p q b c =
    same_test (eqb (code_of p) (code_of q)) (same p q)
    (λ (e : eqb (code_of p) (code_of q) ≡ true).
    let l = code_one_one p q b c (eqb-true (code_of p) (code_of q) e) in ap (same p) (sym l) ∙ same_refl p)
    (λ (e : same p q ≡ true). eq-eqb (code_of p) (code_of q) (ap code_of (same_out p q e)))

-- how large a code can be: below twice 256 to the number of digits
abbrev pub roof : ℕ → ℕ
roof zero = 2
roof (suc n) = 256 * roof n

roof_least : (n : ℕ) → 2 ≤ roof n
roof_least zero = omega arith
roof_least (suc n) = omega (arith, roof_least n)

pub code_below : (p : List ℕ) (n : ℕ) → Bytes p → length p ≤ n → code_of p < roof n
unfolding code_of
code_below [] n b h = omega (arith, roof_least n)
code_below (d ∷ p) zero b h = absurd (omega arith)
code_below (d ∷ p) (suc n) (u, b) h = omega (arith, code_below p n b (omega arith))

-- a code with room for one more digit; 2^41 is the roof of PREFIX - 1 digits
pub code_fits : (p : List ℕ) → Bytes p → length p < PREFIX → code_of p < 2199023255552
code_fits p b h = code_below p 5 b (omega arith)

-- the codes of the lists f 0 to f (n - 1), made place by place
pub codes_made : (f : ℕ → List ℕ) (n : ℕ) (l : List ℕ) → n ≤ length l → ((i : ℕ) → i < n → IsCode (f i) (get_or l i 0)) →
    Codes (map f (row 0 n)) (take n l)
codes_made f n l h each =
    record {
      each = take_row l 0 n h ∙ map_same (λ i. get_or l i 0) (λ i. code_of (f i)) (row 0 n)
          (λ (i : ℕ) (m : Memᴰ i (row 0 n)). (each i (omega (arith, row_out 0 n m))).is) ∙ sym (map-map code_of f (row 0 n));
      short = λ (p : List ℕ) (m : Memᴰ p (map f (row 0 n))). let (i, k, e) = Memᴰ.of_map f (row 0 n) m in
          rw (← e) (each i (omega (arith, row_out 0 n k))).short;
      bytes = λ (p : List ℕ) (m : Memᴰ p (map f (row 0 n))). let (i, k, e) = Memᴰ.of_map f (row 0 n) m in
          rw (← e) (each i (omega (arith, row_out 0 n k))).bytes;
    }
