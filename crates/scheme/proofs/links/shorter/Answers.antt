-- `scheme::links::shorter` meets its contract: what is left is the prefix without the positions
-- that were passed, of which the last was passed first.
-- Assumes nothing.
use Prim.Native.Nat.{ℕ, ◌-◌}
use mathlib.Core.Path.{◌≡◌, refl, sym, ap, ap₂, ◌∙◌}
use mathlib.Core.List.{List, [], ◌∷◌}
use native.Mathlib.Omega.{arith}
use borrow.Author.Rules.{rules}
use lib.ListN.{length, take, drop, replicate, drop_of_length-le, length-append, length-drop}
use lib.Seq.{length-take-le, take_all, take-append-le}
use Rattle.word.specs.Ceilings.{PREFIX}
use Rattle.word.specs.Word.{is_perm}
use Rattle.cell.specs.Cell.{deleted}
use Rattle.cell.proofs.DeletionLaws.{deleted_perm}
use Rattle.scheme.specs.DeletedLaws.{deleted_nothing}
use Rattle.scheme.proofs.PrefixLaws.{next_position}
use Rattle.scheme.proofs.links.shorter.Goals as goal
use Rattle.scheme.proofs.links.shorter.Goals.{After-from}

-- how many digits there are while t positions are to be left out
size : (c : After-from) → length (take c.loop-t.n c.loop-t.digits) ≡ c.loop-t.n
size c = length-take-le c.loop-t.n c.loop-t.digits (omega (arith, c.requires, c.loop-t.invariant.0, c.loop-t.invariant.1))

pub loop-t-init : goal.loop-t-init
loop-t-init c =
    let p = c.args.prefix.now in
    let R = c.args.positions.now in
    let copied : c.copy_from_slice.new.self ≡ p = search rules in (
      refl,
      omega (
        arith,
        ap length copied,
        length-append c.copy_from_slice.new.self (drop (length p) (replicate PREFIX 0)),
        length-drop {A = ℕ} (length p) (replicate PREFIX 0),
      ),
      rw copied (take-append-le (length p) p (drop (length p) (replicate PREFIX 0)) (omega arith)) ∙
          take_all (length p) p (omega arith) ∙
          sym (ap (λ (S : List ℕ). deleted S p) (drop_of_length-le R (omega arith)) ∙ deleted_nothing p c.requires.2),
    )

pub without_position-digits-requires : goal.without_position-digits-requires
without_position-digits-requires c =
    let p = c.args.prefix.now in
    let R = c.args.positions.now in
    let l = c.loop-t in
    let n = size (goal.at.without_position-digits-requires c).After-from in
    let (low, room, next) = next_position R p l.t c.requires.2 c.requires.3 (omega arith) (omega arith) in (
      omega (arith, c.from.ensures),
      omega (arith, c.from.ensures, l.invariant.0, n),
      omega (arith, n),
      ap is_perm l.invariant.2 ∙ deleted_perm (drop l.t R) p c.requires.2,
    )

pub loop-t-preserved : goal.loop-t-preserved
loop-t-preserved c =
    let p = c.args.prefix.now in
    let R = c.args.positions.now in
    let l = c.loop-t in
    let n = size (goal.at.loop-t-preserved c).After-from in
    let w = c.without_position-digits in
    let (low, room, next) = next_position R p l.t c.requires.2 c.requires.3 (omega arith) (omega arith) in (
      omega (arith, l.invariant.0),
      (search rules),
      ap (λ (m : ℕ). take (m - 1) w.result) (sym n) ∙ w.ensures ∙
          ap₂ (λ (r : ℕ) (u : List ℕ). deleted (r ∷ []) u) c.from.ensures l.invariant.2 ∙ next,
    )

pub returns : goal.returns
returns c =
    let l = c.loop-t in
    let none : l.t ≡ 0 = omega arith in
    let n : length c.args.prefix.now - length c.args.positions.now ≡ l.n = omega (arith, l.invariant.0) in
    ap (λ (m : ℕ). take m l.digits) n ∙ l.invariant.2 ∙
    ap (λ (m : ℕ). deleted (drop m c.args.positions.now) c.args.prefix.now) none
