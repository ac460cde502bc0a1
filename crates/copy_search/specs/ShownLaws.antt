-- What a search shows of a first copy.
use Rattle.std.specs.Prelude.{ℕ, ◌≡◌, refl, List, Option, is_some}
use Rattle.std.proofs.Common.{ap, ◌∙◌}
use Rattle.std.proofs.Math.Option.{Option as Maybe, none, some}
use Rattle.word.specs.Word.{contains, first_copy}
use Rattle.word.specs.CopyLaws.{found, copy_exactly}
use Rattle.copy_search.specs.Copy.{shown}

shown_found : (o : Maybe (List ℕ)) → is_some (shown o) ≡ found o
shown_found none = refl
shown_found (some l) = refl

-- a search finds a copy exactly if there is one
pub found_contains : (β w : List ℕ) (r : Option (List ℕ)) → r ≡ shown (first_copy β w) → is_some r ≡ contains β w
found_contains β w r e = ap is_some e ∙ shown_found (first_copy β w) ∙ copy_exactly β w
