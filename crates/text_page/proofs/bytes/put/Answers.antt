-- `text_page::bytes::put` meets its contract: a byte inside the page is one place set, and one
-- behind its end changes nothing.
-- Assumes nothing.
use borrow.Author.Rules.{rules}
use Rattle.text_page.specs.PageLaws.{one_inside, one_behind}
use Rattle.text_page.proofs.bytes.put.Goals as goal

pub returns-then-at-page : goal.returns-then-at-page
returns-then-at-page c = one_inside _ _ _

pub returns : goal.returns
returns c = one_behind _ _ _ (search rules)
