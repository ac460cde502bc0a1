-- `appending::followed` meets its contract: two entries are stored, one after the other.
-- Assumes nothing.
use Prim.Native.Nat.{ℕ, suc, ◌+◌}
use mathlib.Core.Path.{◌≡◌, ap, ◌∙◌}
use mathlib.Core.List.{List, [], ◌∷◌, ◌++◌, append_assoc}
use borrow.Author.Rules.{rules}
use native.Mathlib.Numerals.{add-one}
use native.Mathlib.Omega.{arith}
use lib.ListN.{length, take, set, length-set}
use lib.Seq.{take-suc-set}
use Rattle.word.specs.Ceilings.{WORD}
use Rattle.appending.proofs.followed.Goals as goal

pub returns : goal.returns
returns c =
    let a = c.args in
    let long : length a.word ≡ WORD = search rules in
    let w = set a.word a.len a.a in
    let one : take (a.len + 1) w ≡ take a.len a.word ++ (a.a ∷ []) =
    rw (add-one a.len) (take-suc-set a.word a.len a.a (omega arith)) in
    let two : a.len + 2 ≡ suc (a.len + 1) = omega arith in
    ap (λ (m : ℕ). take m (set w (a.len + 1) a.b)) two ∙
    take-suc-set w (a.len + 1) a.b (omega (arith, length-set a.word a.len a.a)) ∙
    ap (λ (t : List ℕ). t ++ (a.b ∷ [])) one ∙ append_assoc (take a.len a.word) (a.a ∷ []) (a.b ∷ [])
