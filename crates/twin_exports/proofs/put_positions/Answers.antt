-- `twin_exports::put_positions` meets its contract: the first positions, as bytes.
-- Assumes nothing.
use Prim.Native.Nat.{ℕ}
use mathlib.Core.Path.{◌≡◌, refl, sym, ap, ◌∙◌}
use mathlib.Core.List.{List}
use native.Mathlib.Omega.{arith}
use lib.ListN.{length, take}
use lib.Seq.{length-take-le}
use Rattle.word.specs.Ceilings.{DIGITS}
use Rattle.text_page.specs.Page.{overlay}
use borrow.Author.Rules.{rules}
use Rattle.twin_exports.proofs.put_positions.Goals as goal

pub slice_bounds-put_bytes-end : goal.slice_bounds-put_bytes-end
slice_bounds-put_bytes-end c =
    let eight : length c.bytes_of-bytes.result ≡ DIGITS =
    (let k = c.bytes_of-bytes.type_inv in search rules) in
    let first-bytes : length (take c.args.n c.bytes_of-bytes.result) ≡ c.args.n =
    let all = eight in
    length-take-le c.args.n c.bytes_of-bytes.result (omega (arith, c.requires)) in
    sym (first-bytes)

pub put_bytes-requires : goal.put_bytes-requires
put_bytes-requires c =
    let eight : length c.bytes_of-bytes.result ≡ DIGITS =
    (let k = c.bytes_of-bytes.type_inv in search rules) in
    let first-bytes : length (take c.args.n c.bytes_of-bytes.result) ≡ c.args.n =
    let all = eight in
    length-take-le c.args.n c.bytes_of-bytes.result (omega (arith, c.requires)) in
    record { fits = omega (arith, first-bytes, c.requires) }

pub returns : goal.returns
returns c =
    let a = c.args in
    (refl, c.put_bytes.ensures.page ∙ ap (λ (l : List ℕ). overlay 0 (take a.n l) a.page.now) c.bytes_of-bytes.ensures)
