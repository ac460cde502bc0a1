-- Whether a word contains no other pattern of a set in memory, and the basis as it is gathered.
-- Assumes nothing.
use Prim.Native.Nat.{ℕ, zero, suc, ◌+◌, ◌≤◌, ◌<◌, max}
use mathlib.Core.Path.{◌≡◌, refl, sym, ap, ap₂, ◌∙◌}
use mathlib.Core.Logic.{◌⊎◌, inl, inr}
use mathlib.Core.Bool.{Bool, true, false, not, ◌&&◌, ◌||◌, cond}
use mathlib.Core.List.{List, [], ◌∷◌, ◌++◌, map, append_assoc, append-nil}
use native.Mathlib.Nat.{zero-add}
use native.Mathlib.Numerals.{add-one}
use native.Mathlib.Omega.{arith}
use lib.ListN.{length, get_or, take, drop, drop_of_length-le, length-set}
use lib.ListN.{set as set_at}
use lib.Seq.{get_or-set_same, get_or-set_other, drop-cons}
use Rattle.std.specs.List.{list_all}
use Rattle.word.specs.Ceilings.{DIGITS}
use Rattle.word.specs.Lists.{keep, row}
use Rattle.word.specs.Word.{contains, longest}
use Rattle.word.specs.ListLaws.{same_or_not}
use Rattle.cell.specs.Basis.{same, basic, basis}
use Rattle.forms.specs.SchemeMemory.{padded, no_pattern, pattern_in}
use Rattle.forms.specs.SetMemory.{held, held_in}
use Rattle.forms.specs.HeldLaws.{held_few, padded_front}
use Rattle.forms.specs.declared.memory.Pattern.{Pattern}
use Rattle.basis.specs.BasisSet.{IsBasis}

-- whether each of the patterns is β or does not stand in it
pub basic_held : (s : List Pattern) (β : List ℕ) →
    list_all (λ p. same (held p) β || not (contains (held p) β)) s ≡ basic (held_in s) β
unfolding basic
basic_held [] β = refl
basic_held (p ∷ s) β = ap (λ (b : Bool). (same (held p) β || not (contains (held p) β)) && b) (basic_held s β)

-- the longest of those before place i, m, and of the rest
module _ (s : List Pattern) (m i : ℕ) (kept : longest (held_in s) ≡ max m (longest (held_in (drop i s)))) where
  pub longest_turn : (d : Pattern) → i < length s →
      longest (held_in s) ≡ max (max m (length (held (get_or s i d)))) (longest (held_in (drop (i + 1) s)))
  unfolding longest
  longest_turn d h =
      let e : longest (held_in (drop i s)) ≡ max (length (held (get_or s i d))) (longest (held_in (drop (i + 1) s))) =
      rw (drop-cons s i d h, add-one i) refl in
      omega (arith, kept, e)

  pub longest_end : length s ≤ i → m ≡ longest (held_in s)
  unfolding longest
  longest_end h =
      let e : longest (held_in (drop i s)) ≡ 0 = rw (drop_of_length-le s h) refl in
      omega (arith, kept, e)

-- a part that is cut again at its own length
pub take_again : (n : ℕ) (l : List ℕ) → take (length (take n l)) l ≡ take n l
take_again zero l = refl
take_again (suc n) [] = refl
take_again (suc n) (x ∷ l) = ap {B = List ℕ} (λ r. x ∷ r) (take_again n l)

-- the patterns of an array of them, by their index
abbrev item : List Pattern → ℕ → List ℕ
item items j = pattern_in (get_or items j no_pattern)

-- a pattern with as many digits as it has in memory
item_cut : (p : Pattern) (len : ℕ) → len ≡ length (held p) → padded len p.digits ≡ held p
item_cut p len e =
    sym (padded_front len DIGITS p.digits (omega (arith, e, held_few p))) ∙
    ap (λ (m : ℕ). take m (padded DIGITS p.digits)) e ∙ take_again p.length (padded DIGITS p.digits)

one_more : (f g : ℕ → List ℕ) (a n : ℕ) → ((j : ℕ) → a ≤ j → j < a + n → g j ≡ f j) → map g (row a (suc n)) ≡
    map f (row a n) ++ (g (a + n) ∷ [])
one_more f g a zero h = let e : a ≡ a + 0 = omega arith in ap {B = List (List ℕ)} (λ (m : ℕ). g m ∷ []) e
one_more f g a (suc n) h =
    ap₂ (λ (x : List ℕ) (l : List (List ℕ)). x ∷ l) (h a (omega arith) (omega arith))
    (one_more f g (suc a) n (λ (j : ℕ) (p : suc a ≤ j) (q : j < suc a + n). h j (omega arith) (omega arith)) ∙
    ap (λ (m : ℕ). map f (row (suc a) n) ++ (g m ∷ [])) (omega arith))

-- how far the basis is gathered: n patterns, and those that are basic from place i on
pub record Gathered (s : List Pattern) (items : List Pattern) (n i : ℕ) : Type 0 where
  pub parts :
      basis (held_in s) ≡ map (item items) (row 0 n) ++ keep (basic (held_in s)) (held_in (drop i s))
  pub behind : n ≤ i
  pub room : length items ≡ 24
  pub short : (j : ℕ) → j < n → (get_or items j no_pattern).length ≤ 8

module _ (s : List Pattern) where
  pub gathered_start : (items : List Pattern) → length items ≡ 24 → Gathered s items 0 0
  unfolding basis
  gathered_start items h = record {
    parts = refl;
    behind = omega arith;
    room = h;
    short = λ (j : ℕ) (q : j < 0). absurd (omega arith);
  }

  module _ (items : List Pattern) (n i : ℕ) (g : Gathered s items n i) where
    pub gathered_end : length s ≤ i → i ≤ length s → (few : length s ≤ 24) → IsBasis (held_in s) (record { items = items; count = n })
    gathered_end h k few = record {
      holds =
          sym (g.parts ∙
          ap (λ (l : List (List ℕ)). map (item items) (row 0 n) ++ l)
          (ap (λ (r : List Pattern). keep (basic (held_in s)) (held_in r)) (drop_of_length-le s h)) ∙
          append-nil (map (item items) (row 0 n)));
      few = omega (arith, g.behind);
      short = g.short;
    }

    module _ (h : i < length s) (few : length s ≤ 24) (t : Bool)
        (e : t ≡ basic (held_in s) (held (get_or s i no_pattern))) where
      next : keep (basic (held_in s)) (held_in (drop i s)) ≡
          cond t (held (get_or s i no_pattern) ∷ keep (basic (held_in s)) (held_in (drop (i + 1) s)))
          (keep (basic (held_in s)) (held_in (drop (i + 1) s)))
      next = rw (drop-cons s i no_pattern h, add-one i, e) refl

      pub gathered_skip : t ≡ false → Gathered s items n (i + 1)
      gathered_skip f = record {
        parts = g.parts ∙ ap (λ (l : List (List ℕ)). map (item items) (row 0 n) ++ l) (next ∙ rw f refl);
        behind = omega (arith, g.behind);
        room = g.room;
        short = g.short;
      }

      pub gathered_take : t ≡ true → (len : ℕ) → len ≡ length (held (get_or s i no_pattern)) → len ≤ 8 →
          Gathered s (set_at items n (record { digits = (get_or s i no_pattern).digits; length = len })) (n + 1) (i + 1)
      gathered_take f len cut low =
          let q : Pattern = get_or s i no_pattern in
          let p : Pattern = record { digits = q.digits; length = len } in
          let rest : List (List ℕ) = keep (basic (held_in s)) (held_in (drop (i + 1) s)) in
          let here : get_or (set_at items n p) n no_pattern ≡ p = get_or-set_same items n p no_pattern (omega (arith, g.behind, g.room)) in
          let more : map (item (set_at items n p)) (row 0 (n + 1)) ≡ map (item items) (row 0 n) ++ (held q ∷ []) =
          rw (add-one n)
          (one_more (item items) (item (set_at items n p)) 0 n
          (λ (j : ℕ) (a : 0 ≤ j) (b : j < 0 + n).
          ap pattern_in (get_or-set_other items n j p no_pattern (λ (z : j ≡ n). let y : j < n = omega arith in absurd (omega arith)))) ∙
          ap (λ (x : List ℕ). map (item items) (row 0 n) ++ (x ∷ []))
          (ap (item (set_at items n p)) (zero-add n) ∙ ap pattern_in here ∙ item_cut q len cut)) in
          record {
            parts =
                g.parts ∙
                ap (λ (l : List (List ℕ)). map (item items) (row 0 n) ++ l) (next ∙ rw f refl) ∙
                sym (append_assoc (map (item items) (row 0 n)) (held q ∷ []) rest) ∙
                ap (λ (l : List (List ℕ)). l ++ rest) (sym more);
            behind = omega (arith, g.behind);
            room = length-set items n p ∙ g.room;
            short = λ (j : ℕ) (b : j < n + 1). short_more p low j b (same_or_not j n) here;
          }
        where
          short_more : (p : Pattern) → p.length ≤ 8 → (j : ℕ) → j < n + 1 → (j ≡ n) ⊎ (j ≡ n → ⊥) →
              get_or (set_at items n p) n no_pattern ≡ p →
              (get_or (set_at items n p) j no_pattern).length ≤ 8
          short_more p low j q (inl z) here = rw (z, here) low
          short_more p low j q (inr z) here = rw (get_or-set_other items n j p no_pattern z) (g.short j (omega arith))
