-- `witness::put_half` meets its contract: the three parts one after the other are the half.
-- Assumes nothing.
use Prim.Native.Nat.{ℕ, zero, suc, ◌-◌, ◌≤◌}
use mathlib.Core.Path.{◌≡◌, refl, sym, ap}
use mathlib.Core.List.{List, ◌∷◌, ◌++◌}
use native.Mathlib.Omega.{arith}
use lib.ListN.{length, take, replicate}
use lib.Seq.{length-take-le}
use Rattle.word.specs.Ceilings.{HALF}
use Rattle.text_page.specs.PageLaws.{writes_join, writes_as}
use Rattle.witness.proofs.put_half.Goals as goal

-- the first of some zeros
take-zeros : (n m : ℕ) → n ≤ m → take {A = ℕ} n (replicate m 0) ≡ replicate n 0
take-zeros zero m h = refl
take-zeros (suc n) zero h = absurd (omega arith)
take-zeros (suc n) (suc m) h = ap (λ (l : List ℕ). 0 ∷ l) (take-zeros n m (omega arith))

abbrev ITEMS : ℕ
ITEMS = HALF - 1

pub slice_bounds-put_bytes-end : goal.slice_bounds-put_bytes-end
slice_bounds-put_bytes-end c =
    sym (length-take-le {A = ℕ} (ITEMS - length c.args.items.now) (replicate ITEMS 0) (omega arith))

pub put_bytes-requires : goal.put_bytes-requires
put_bytes-requires c =
    let items = c.args.items.now in
    record {
      fits = omega (
        arith,
        length-take-le {A = ℕ} (ITEMS - length items) (replicate ITEMS 0) (omega arith),
        c.requires.0,
        c.requires.1,
        c.put-first.ensures.moved,
        c.put_bytes-next.ensures.moved,
      );
    }

pub returns : goal.returns
returns c =
    let items = c.args.items.now in
    writes_as (writes_join (writes_join c.put-first.ensures c.put_bytes-next.ensures) c.put_bytes.ensures)
    (ap (λ (zs : List ℕ). (length items ∷ items) ++ zs) (take-zeros (ITEMS - length items) ITEMS (omega arith)))
