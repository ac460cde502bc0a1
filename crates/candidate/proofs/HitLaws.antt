-- The hit of a pattern, by the lists that are looked up.
-- Assumes nothing.
use Prim.Native.Nat.{ℕ, zero, suc, ◌-◌, ◌≤◌, ◌<◌}
use mathlib.Core.Path.{◌≡◌, refl, sym, ap, ◌∙◌}
use mathlib.Core.Bool.{false}
use mathlib.Core.List.Memᴰ
use mathlib.Core.List.{List, [], ◌∷◌, map, Memᴰ}
use native.Mathlib.Omega.{arith}
use lib.ListN.{length, take, drop}
use borrow.Author.Tests.{lt-ltb, le-ltb}
use Rattle.word.specs.Word.{under, has, entry}
use Rattle.word.specs.PermLaws.{perm_bounds}
use Rattle.cell.specs.Cell.{total}
use Rattle.cell.specs.Built.{level}
use Rattle.cell.specs.Candidate.{head_length, place, hit}
use Rattle.placing.specs.Lookup.{entry_of, flagged}
use Rattle.candidate.specs.Ready.{Ready}
use Rattle.placing.proofs.PlacingState.{place_same}

-- a pattern that is no longer than the total hits nothing
pub hit_short : (p R g β : List ℕ) (t : ℕ) → total g ≡ t → length β ≤ t → hit p R g β ≡ false
unfolding hit
hit_short p R g β t e h = rw (e, le-ltb t (length β) h) refl

take_mem : (n : ℕ) (l : List ℕ) {x : ℕ} → Memᴰ x (take n l) → Memᴰ x l
take_mem zero l m = absurd (Memᴰ.not-nil m)
take_mem (suc n) [] m = absurd (Memᴰ.not-nil m)
take_mem (suc n) (y ∷ l) (Memᴰ.head e) = Memᴰ.head e
take_mem (suc n) (y ∷ l) (Memᴰ.tail m) = Memᴰ.tail (take_mem n l m)

pub hit_placed : (p R g β levels gone need : List ℕ) → Ready p R g β levels gone need → total g < length β →
    hit p R g β ≡ place (entry_of need) (entry_of levels) (flagged gone) false [] [] (take (length β - total g) β) p
unfolding hit
hit_placed p R g β levels gone need r h =
    rw (lt-ltb (total g) (length β) h)
    (place_same (under (drop (head_length β (total g)) β)) (entry_of need) (level g) (entry_of levels)
    (λ a. has a (map (entry p) R)) (flagged gone)
    (take (length β - total g) β) p
    (λ x m. sym (r.said_need (omega arith) x (digit x (take_mem (length β - total g) β m))))
    (λ a m. sym (r.said_levels a (value a m)))
    (λ a m. sym (r.said_gone a (flag a m))) false [] [])
  where
    digit : (x : ℕ) → Memᴰ x β → x < 9
    digit x m = let (low, high) = perm_bounds β r.pattern m in omega (arith, r.digits)

    value : (a : ℕ) → Memᴰ a p → a < suc (length p)
    value a m = let (low, high) = perm_bounds p r.perm m in omega arith

    flag : (a : ℕ) → Memᴰ a p → a < 9
    flag a m = let (low, high) = perm_bounds p r.perm m in omega (arith, r.short)

-- the same with a total that is known
pub hit_of : (p R g β : List ℕ) (t : ℕ) (levels gone need : List ℕ) → Ready p R g β levels gone need → total g ≡ t →
    t < length β → hit p R g β ≡ place (entry_of need) (entry_of levels) (flagged gone) false [] [] (take (length β - t) β) p
hit_of p R g β t levels gone need r e h =
    hit_placed p R g β levels gone need r (omega arith) ∙
    ap (λ (n : ℕ). place (entry_of need) (entry_of levels) (flagged gone) false [] [] (take (length β - n) β) p) e
