-- `text_grammar::cursor::Cursor::step` meets its contract: past the spaces the end, a run of
-- digits, or a mark.
-- Assumes nothing.
use Prim.Native.Nat.{ℕ, ◌+◌}
use mathlib.Core.Path.{◌≡◌, sym, ap, ◌∙◌}
use mathlib.Core.List.{List}
use native.Mathlib.Omega.{arith}
use lib.ListN.{get_or, drop}
use Rattle.text_grammar.specs.Cursor.{mark_of}
use Rattle.text_grammar.proofs.CursorLaws.{tail_is, mark_inside, stepped_end, stepped_run, stepped_mark}
use Rattle.text_grammar.proofs.cursor.Cursor.step.Goals as goal

pub returns-then-s-at : goal.returns-then-s-at
returns-then-s-at c =
    let a = c.args in
    stepped_end a.s.now a.self.at c.past_spaces-c.result.at c.past_spaces-c.ensures c.if-s-at.true

pub returns-then-is_ascii_digit : goal.returns-then-is_ascii_digit
returns-then-is_ascii_digit c =
    let a = c.args in
    let p = c.past_spaces-c in
    stepped_run a.s.now a.self.at p.result.at p.ensures c.past_digits-behind.result c.if-s-at.false
    (sym c.is_ascii_digit.ensures.value ∙ c.if-is_ascii_digit.true) c.past_digits-behind.ensures

pub overflow_add-behind : goal.overflow_add-behind
overflow_add-behind c =
    let a = c.args in
    let p = c.past_spaces-c in
    let k : c.mark_at-kind.result ≡ mark_of (get_or a.s.now p.result.at 0) (drop p.result.at a.s.now) =
    c.mark_at-kind.ensures ∙ ap (λ (u : List ℕ). mark_of (get_or a.s.now p.result.at 0) u)
    (tail_is p.result.at a.s.now) in
    let b = mark_inside a.s.now a.self.at p.result.at p.ensures c.mark_at-kind.result
    c.if-s-at.false (sym c.is_ascii_digit.ensures.value ∙ c.if-is_ascii_digit.false) k in
    omega (arith, b, c.width.ensures)

pub returns : goal.returns
returns c =
    let a = c.args in
    let p = c.past_spaces-c in
    let k : c.mark_at-kind.result ≡ mark_of (get_or a.s.now p.result.at 0) (drop p.result.at a.s.now) =
    c.mark_at-kind.ensures ∙ ap (λ (u : List ℕ). mark_of (get_or a.s.now p.result.at 0) u)
    (tail_is p.result.at a.s.now) in
    stepped_mark a.s.now a.self.at p.result.at p.ensures c.mark_at-kind.result
    (p.result.at + c.width.result) c.if-s-at.false
    (sym c.is_ascii_digit.ensures.value ∙ c.if-is_ascii_digit.false) k (ap (λ (n : ℕ). p.result.at + n) c.width.ensures)
