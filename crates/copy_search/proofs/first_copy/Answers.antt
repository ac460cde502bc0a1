-- `copy_search::first_copy` meets its contract: the walk keeps the first copy among what is
-- left to try, and what is left falls.
-- Assumes nothing.
use Prim.Native.Nat.{◌<◌}
use mathlib.Core.Path.{◌≡◌, sym, ap, ◌∙◌}
use mathlib.Core.Bool.{true, false}
use native.Mathlib.Omega.{arith}
use lib.ListN.{length, get_or, take}
use Rattle.copy_search.specs.Copy.{shown}
use Rattle.word.specs.Vocabulary.{fits}
use Rattle.copy_search.proofs.Search.{empty_copy, length_cut, walk_start, walk_skip, walk_on}
use Rattle.copy_search.proofs.Search.{walk_found, walk_back, walk_none, pairs_none, pair_passed, pair_failed}
use Rattle.copy_search.proofs.Search.{weight_skip, weight_place, weight_back}
use Rattle.copy_search.proofs.first_copy.Goals as goal
use Rattle.copy_search.proofs.first_copy.Goals.{After-pairs}

pub returns-then-k-eq0 : goal.returns-then-k-eq0
returns-then-k-eq0 c =
    let a = c.args in
    sym (empty_copy (take 8 a.pattern.now) a.w.now
    (length_cut a.pattern.now a.w.now c.min-k.result c.min-k.ensures ∙
    c.if-k-eq0.true))

pub copy-init : goal.copy-init
copy-init c =
    let a = c.args in
    walk_start a.pattern.now a.w.now c.min-k.result c.min-k.ensures c.if-k-eq0.false

pub positions-preserved : goal.positions-preserved
positions-preserved c =
    let a = c.args in
    let s = c.positions in
    let k = c.min-k in
    let W = s.invariant.0 in
    let more : s.i < length a.w.now = omega arith in
    let j : c.pairs.j < s.d = omega arith in
    let failed : fits (take s.d a.pattern.now) (get_or a.pattern.now s.d 0) (take s.d s.entries) (get_or a.w.now s.i 0) ≡ false =
    c.pairs.invariant ∙
    pair_failed a.pattern.now s.entries (get_or a.pattern.now s.d 0) (get_or a.w.now s.i 0) s.d c.pairs.j
    (omega (arith, W.inside, k.ensures)) (omega (arith, W.inside, W.values, k.ensures)) j c.if-below-found_below.true in (
      walk_skip a.pattern.now a.w.now k.result k.ensures s.at s.entries s.d s.i W more failed,
      omega (arith, s.invariant.1, weight_skip k.result (length a.w.now) s.at s.d s.i W.inside more),
    )

pub pairs-preserved : goal.pairs-preserved
pairs-preserved c =
    let a = c.args in
    let s = c.positions in
    let k = c.min-k in
    let W = s.invariant.0 in
    let j : c.pairs.j < s.d = omega arith in
    c.pairs.invariant ∙
    pair_passed a.pattern.now s.entries (get_or a.pattern.now s.d 0) (get_or a.w.now s.i 0) s.d c.pairs.j
    (omega (arith, W.inside, k.ensures)) (omega (arith, W.inside, W.values, k.ensures)) j c.if-below-found_below.false

pub copy-smaller-in-positions : goal.copy-smaller-in-positions
copy-smaller-in-positions c =
    let a = c.args in
    let s = c.positions in
    let k = c.min-k in
    let W = s.invariant.0 in
    let more : s.i < length a.w.now = omega arith in
    let less = weight_place k.result (length a.w.now) s.at s.d s.i W.inside more
    (omega (arith, W.inside, W.positions, k.ensures)) in
    omega (arith, s.invariant.1, less)

-- all pairs with the entries that stand were passed
passed : (c : After-pairs) → let s = c.positions in
    fits (take s.d c.args.pattern.now) (get_or c.args.pattern.now s.d 0) (take s.d s.entries) (get_or c.args.w.now s.i 0) ≡ true
passed c =
    let a = c.args in
    let s = c.positions in
    let k = c.min-k in
    let W = s.invariant.0 in
    c.pairs.invariant ∙
    pairs_none a.pattern.now s.entries (get_or a.pattern.now s.d 0) (get_or a.w.now s.i 0) s.d c.pairs.j
    (omega (arith, W.inside, k.ensures)) (omega (arith, W.inside, W.values, k.ensures)) (omega arith)

pub copy-preserved-in-positions : goal.copy-preserved-in-positions
copy-preserved-in-positions c =
    let a = c.args in
    let s = c.positions in
    let k = c.min-k in
    let more : s.i < length a.w.now = omega arith in
    walk_on a.pattern.now a.w.now k.result k.ensures s.at s.entries s.d s.i
    s.invariant.0 more (passed (goal.at.copy-preserved-in-positions c).After-pairs) c.if-d-k.false

pub returns-then-d-eq0 : goal.returns-then-d-eq0
returns-then-d-eq0 c =
    let a = c.args in
    let s = c.positions in
    let k = c.min-k in
    let none_left = walk_none a.pattern.now a.w.now k.result k.ensures s.at s.entries
    s.d s.i s.invariant.0 (omega arith) c.if-d-eq0.true in
    sym (ap shown none_left)

pub copy-smaller : goal.copy-smaller
copy-smaller c =
    let s = c.positions in
    let back = weight_back c.min-k.result (length c.args.w.now) s.at s.d s.i c.if-d-eq0.false in
    omega (arith, s.invariant.1, back)

pub copy-preserved : goal.copy-preserved
copy-preserved c =
    let a = c.args in
    let s = c.positions in
    let k = c.min-k in
    walk_back a.pattern.now a.w.now k.result k.ensures s.at s.entries s.d s.i
    s.invariant.0 (omega arith) c.if-d-eq0.false

pub returns : goal.returns
returns c =
    let a = c.args in
    let s = c.positions in
    let k = c.min-k in
    let more : s.i < length a.w.now = omega arith in
    walk_found a.pattern.now a.w.now k.result k.ensures s.at s.entries s.d s.i
    s.invariant.0 more (passed (goal.at.returns c).After-pairs) c.if-d-k.true
