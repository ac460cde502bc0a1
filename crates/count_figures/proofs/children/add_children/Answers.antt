-- `count_figures::children::add_children` meets its contract: what is added, and what is still to
-- come.
-- Assumes nothing.
use borrow.Author.Rules.{rules}
use native.Mathlib.Omega.{arith}
use native.Mathlib.Nat.{zero-add}
use Prim.Native.Nat.{ℕ, suc, ◌+◌, ◌*◌, ◌≤◌, ◌<◌}
use native.Mathlib.Numerals.{add-one}
use mathlib.Core.Path.{◌≡◌, refl, sym, ap, ◌∙◌, subst}
use mathlib.Core.List.{List, [], ◌++◌, map}
use lib.ListN.{length, get_or, take, drop, length-map}
use lib.Seq.{drop-cons}
use Rattle.word.specs.Ceilings.{COMPONENTS, LENGTH, COLUMNS, FIGURES}
use Rattle.word.specs.Lists.{row}
use Rattle.word.specs.ListLaws.{length_row}
use Rattle.cell.specs.Cell.{total}
use Rattle.cell.specs.Binomial.{binomial}
use Rattle.spacing.specs.PascalLaws.{binomial_small}
use Rattle.spacing.specs.Sizes.{CHOICES, RANKS}
use Rattle.count_step.specs.Sums.{part_places}
use Rattle.count_step.specs.Task.{REACH}
use Rattle.count_step.proofs.SumLaws.{spacing_size, component, last_component}
use Rattle.count_step.proofs.SumLaws.{coming_start, above_small, component_small, above_enough, coming_more, coming_end}
use Rattle.count_figures.specs.Figures.{spread_at}
use Rattle.count_figures.specs.Adding.{Adds}
use Rattle.count_figures.specs.Steps.{numbers_from, PartFits}
use Rattle.count_figures.specs.declared.children.Shape.{Shape}
use Rattle.count_figures.proofs.AddLaws.{left_part, left_end}
use Rattle.count_figures.proofs.children.add_children.Invariants.{whole, Kept, Going}
use Rattle.count_figures.proofs.children.add_children.Goals as goal

-- as many cells as the component has values
part_size : (at col z n : ℕ) → length (part_places at col z n) ≡ n
part_size at col z n = length-map (row z n) (λ y. at + binomial y col) ∙ length_row z n

-- the components from one on
rest_sum : (G : List ℕ) (i x : ℕ) → i < length G → x ≡ get_or G i 0 → total (drop i G) ≡ x + total (drop (i + 1) G)
unfolding total
rest_sum G i x h e =
    rw (add-one i) (ap total (drop-cons G i 0 h) ∙ ap (λ m. m + total (drop (suc i) G)) (sym e))

-- the figures of one component more
more : (s : Shape) (T links G before now next : List ℕ) (d at col z x : ℕ) (l : List ℕ) →
    Adds now next (spread_at d (map (numbers_from s T) (part_places at col z x))) →
    Kept s T links G before now d (part_places at col z x ++ l) → Kept s T links G before next (d + x) l
more s T links G before now next d at col z x l a k =
    subst (λ (n : ℕ). Kept s T links G before next (d + n) l) (part_size at col z x)
    (left_part (numbers_from s T) before (whole s T links G) now d next (part_places at col z x) l a k)

-- in a turn of the loop, at the spacing G
module _
    {s : Shape}
    {T links G : List ℕ}
    {k : ℕ}
    {before now : List ℕ}
    {above below moved z i : ℕ}
    (size : length G ≡ k + 1)
    (r : Going s T links G k before now above below moved z i)
  where
    above_fits : above ≤ RANKS + k * CHOICES
    above_fits = above_small links G k size (Kept s T links G before now moved) above below z i r.coming

    component_fits : (x : ℕ) → x ≡ get_or G i 0 → z + x ≤ LENGTH
    component_fits x e = component_small links G k size (Kept s T links G before now moved) above below z i r.coming x e

    -- what is left of the spacing bounds what is moved
    moved_low : (x : ℕ) → x ≡ get_or G i 0 → moved + x ≤ total G
    moved_low x e = omega (arith, r.sum, rest_sum G i x (omega (arith, size, r.coming.reach)) e)

    -- what the children in a component are given, which has x values
    part_fits : (x at col : ℕ) → x ≡ get_or G i 0 → at ≤ REACH → col < COLUMNS → s.numbers ≤ FIGURES →
        total G + s.figures ≤ suc (length before) →
        PartFits (record { at = at; col = col; first = z; values = x; moved = moved }) s (length now)
    part_fits x at col e near low few room =
        record {
          near = near;
          col = low;
          sum = omega (arith, component_fits x e);
          few = few;
          room = omega (arith, moved_low x e, room, r.size);
        }

pub rank_after-above-requires : goal.rank_after-above-requires
rank_after-above-requires c =
    (c.requires.0.fits.short, omega arith, omega (arith, c.requires.0.fits.sum, c.requires.0.whole), c.requires.1)

pub loop-i-init : goal.loop-i-init
loop-i-init c =
    let a = c.args in
    let seven : length a.g ≡ COMPONENTS = (let o = c.well_formed in search rules) in
    let G = take (a.task.length + 1) a.g in
    record {
      size = refl;
      sum = zero-add (total G);
      coming = coming_start a.task.links G a.task.length (spacing_size a.task.length a.g seven c.requires.0.fits.short)
          (Kept a.shape a.table.now a.task.links G a.figures.now a.figures.now 0)
          c.rank_after-above.result c.rank_after-above.ensures.0 (omega (arith, c.requires.0.fits.sum, c.requires.0.whole))
          (λ F h. h);
    }

pub overflow_add-part : goal.overflow_add-part
overflow_add-part c =
    let a = c.args in
    let l = c.loop-i in
    let seven : length a.g ≡ COMPONENTS = (let o = c.well_formed in search rules) in
    let size = spacing_size a.task.length a.g seven c.requires.0.fits.short in
    omega (arith, c.requires.0.fits.short, above_fits size l.invariant, l.invariant.coming.low, l.invariant.coming.reach)

pub overflow_add-part-in-loop-i : goal.overflow_add-part-in-loop-i
overflow_add-part-in-loop-i c =
    let a = c.args in
    let l = c.loop-i in
    let seven : length a.g ≡ COMPONENTS = (let o = c.well_formed in search rules) in
    let size = spacing_size a.task.length a.g seven c.requires.0.fits.short in
    omega (
      arith,
      c.requires.0.fits.short,
      above_fits size l.invariant,
      l.invariant.coming.low,
      l.invariant.coming.reach,
      c.requires.0.fits.near l.i,
    )

pub add_part-requires : goal.add_part-requires
add_part-requires c =
    let a = c.args in
    let p = c.requires in
    let l = c.loop-i in
    let seven : length a.g ≡ COMPONENTS = (let o = c.well_formed in search rules) in
    let size = spacing_size a.task.length a.g seven p.0.fits.short in
    let e = component a.task.length l.i c.from-x.result a.g c.from-x.ensures l.invariant.coming.reach in (
      part_fits size l.invariant c.from-x.result _ _ e
          (omega (
            arith,
            p.0.fits.short,
            above_fits size l.invariant,
            l.invariant.coming.low,
            l.invariant.coming.reach,
            p.0.fits.near l.i,
          ))
          (omega (arith, p.0.fits.short)) p.0.few p.0.room,
      p.1,
    )

pub overflow_add-moved : goal.overflow_add-moved
overflow_add-moved c =
    let a = c.args in
    let l = c.loop-i in
    let seven : length a.g ≡ COMPONENTS = (let o = c.well_formed in search rules) in
    let size = spacing_size a.task.length a.g seven c.requires.0.fits.short in
    let e = component a.task.length l.i c.from-x.result a.g c.from-x.ensures l.invariant.coming.reach in
    omega (arith, moved_low size l.invariant c.from-x.result e, c.requires.0.whole, c.requires.0.fits.sum)

pub overflow_add-z : goal.overflow_add-z
overflow_add-z c =
    let a = c.args in
    let l = c.loop-i in
    let seven : length a.g ≡ COMPONENTS = (let o = c.well_formed in search rules) in
    let size = spacing_size a.task.length a.g seven c.requires.0.fits.short in
    let e = component a.task.length l.i c.from-x.result a.g c.from-x.ensures l.invariant.coming.reach in
    omega (arith, component_fits size l.invariant c.from-x.result e)

pub choose-below-requires : goal.choose-below-requires
choose-below-requires c =
    let a = c.args in
    let l = c.loop-i in
    let seven : length a.g ≡ COMPONENTS = (let o = c.well_formed in search rules) in
    let size = spacing_size a.task.length a.g seven c.requires.0.fits.short in
    let e = component a.task.length l.i c.from-x.result a.g c.from-x.ensures l.invariant.coming.reach in (
      omega (arith, component_fits size l.invariant c.from-x.result e),
      omega (arith, c.requires.0.fits.short),
      c.requires.1,
    )

pub overflow_add-below : goal.overflow_add-below
overflow_add-below c =
    let a = c.args in
    let l = c.loop-i in
    let seven : length a.g ≡ COMPONENTS = (let o = c.well_formed in search rules) in
    let size = spacing_size a.task.length a.g seven c.requires.0.fits.short in
    let e = component a.task.length l.i c.from-x.result a.g c.from-x.ensures l.invariant.coming.reach in
    omega (
      arith,
      c.requires.0.fits.short,
      l.invariant.coming.low,
      l.invariant.coming.reach,
      c.choose-below.ensures,
      binomial_small (l.z + c.from-x.result) (l.i + 1) (component_fits size l.invariant c.from-x.result e),
    )

pub choose-above-requires : goal.choose-above-requires
choose-above-requires c =
    let a = c.args in
    let l = c.loop-i in
    let seven : length a.g ≡ COMPONENTS = (let o = c.well_formed in search rules) in
    let size = spacing_size a.task.length a.g seven c.requires.0.fits.short in
    let e = component a.task.length l.i c.from-x.result a.g c.from-x.ensures l.invariant.coming.reach in (
      omega (arith, component_fits size l.invariant c.from-x.result e),
      omega (arith, c.requires.0.fits.short),
      c.requires.1,
    )

pub overflow_sub-above : goal.overflow_sub-above
overflow_sub-above c =
    let a = c.args in
    let l = c.loop-i in
    let seven : length a.g ≡ COMPONENTS = (let o = c.well_formed in search rules) in
    let size = spacing_size a.task.length a.g seven c.requires.0.fits.short in
    let G = take (a.task.length + 1) a.g in
    let e = component a.task.length l.i c.from-x.result a.g c.from-x.ensures l.invariant.coming.reach in
    above_enough a.task.links G a.task.length size
    (Kept a.shape a.table.now a.task.links G a.figures.now l.figures l.moved) l.above
    l.below l.z l.i l.invariant.coming c.from-x.result e (omega arith)
    c.choose-above.result c.choose-above.ensures

pub overflow_add-z-in-loop-i : goal.overflow_add-z-in-loop-i
overflow_add-z-in-loop-i c =
    let a = c.args in
    let l = c.loop-i in
    let seven : length a.g ≡ COMPONENTS = (let o = c.well_formed in search rules) in
    let size = spacing_size a.task.length a.g seven c.requires.0.fits.short in
    let e = component a.task.length l.i c.from-x.result a.g c.from-x.ensures l.invariant.coming.reach in
    omega (arith, component_fits size l.invariant c.from-x.result e)

pub loop-i-preserved : goal.loop-i-preserved
loop-i-preserved c =
    let a = c.args in
    let l = c.loop-i in
    let seven : length a.g ≡ COMPONENTS = (let o = c.well_formed in search rules) in
    let size = spacing_size a.task.length a.g seven c.requires.0.fits.short in
    let G = take (a.task.length + 1) a.g in
    let x = c.from-x.result in
    let e = component a.task.length l.i x a.g c.from-x.ensures l.invariant.coming.reach in
    let next = c.add_part.new.figures in
    let len : length next ≡ length l.figures = search rules in
    record {
      size = len ∙ l.invariant.size;
      sum = omega (arith, l.invariant.sum, rest_sum G l.i x (omega (arith, size, l.invariant.coming.reach)) e);
      coming = coming_more a.task.links G a.task.length size
          (Kept a.shape a.table.now a.task.links G a.figures.now l.figures l.moved) l.above
          l.below l.z l.i l.invariant.coming x e (omega arith)
          (Kept a.shape a.table.now a.task.links G a.figures.now next (l.moved + x))
          c.choose-below.result c.choose-above.result
          (λ r h. more a.shape a.table.now a.task.links G a.figures.now l.figures next l.moved
          (get_or a.task.links l.i 0 + (l.below + l.above)) (l.i + 1) l.z x r c.add_part.ensures h)
          c.choose-below.ensures c.choose-above.ensures;
    }

pub overflow_add-end : goal.overflow_add-end
overflow_add-end c =
    let l = c.loop-i in
    omega (
      arith,
      c.requires.0.fits.short,
      l.invariant.coming.low,
      l.invariant.coming.reach,
      c.requires.0.fits.near c.args.task.length,
    )

pub add_part-requires-2 : goal.add_part-requires-2
add_part-requires-2 c =
    let a = c.args in
    let p = c.requires in
    let l = c.loop-i in
    let seven : length a.g ≡ COMPONENTS = (let o = c.well_formed in search rules) in
    let size = spacing_size a.task.length a.g seven p.0.fits.short in
    let q : a.task.length ≡ l.i = omega (arith, l.invariant.coming.reach) in
    let e = last_component a.task.length l.i c.from-last.result a.g c.from-last.ensures q in (
      part_fits size l.invariant c.from-last.result _ _ e
          (omega (
            arith,
            p.0.fits.short,
            l.invariant.coming.low,
            l.invariant.coming.reach,
            p.0.fits.near a.task.length,
          ))
          (omega (arith, p.0.fits.short)) p.0.few p.0.room,
      p.1,
    )

pub shape_of-figures : goal.shape_of-figures
shape_of-figures c =
    let l = c.loop-i in
    let len : length c.add_part-2.new.figures ≡ length l.figures = search rules in
    len ∙ l.invariant.size

pub returns : goal.returns
returns c =
    let a = c.args in
    let l = c.loop-i in
    let seven : length a.g ≡ COMPONENTS = (let o = c.well_formed in search rules) in
    let size = spacing_size a.task.length a.g seven c.requires.0.fits.short in
    let G = take (a.task.length + 1) a.g in
    let next = c.add_part-2.new.figures in
    let x = c.from-last.result in
    let q : a.task.length ≡ l.i = omega (arith, l.invariant.coming.reach) in
    let e = last_component a.task.length l.i x a.g c.from-last.ensures q in
    left_end (numbers_from a.shape a.table.now) a.figures.now (whole a.shape a.table.now a.task.links G) next
    (l.moved + x)
    (more a.shape a.table.now a.task.links G a.figures.now l.figures next l.moved
    (get_or a.task.links a.task.length 0 + l.below) (a.task.length + 1) l.z x [] c.add_part-2.ensures
    (coming_end a.task.links G a.task.length size
    (Kept a.shape a.table.now a.task.links G a.figures.now l.figures l.moved) l.above l.below l.z l.i l.invariant.coming
    x e (omega arith)))
