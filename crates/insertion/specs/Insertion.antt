-- A value put into a word, and what the search that puts values in promises. Definitions only.
use Rattle.std.specs.Prelude.{ℕ, ◌≡◌, Bool, true, ◌||◌, length, take, drop, Option, is_none}
use mathlib.Core.List.{List, ◌∷◌, ◌++◌, Sublistᴰ}
use Rattle.word.specs.Word.{is_perm, avoids}
use Rattle.arrangement.specs.declared.searched.Searched.{Searched}
use Rattle.arrangement.specs.declared.searched.Searched.TheVariants.{Impossible}
use Rattle.arrangement.specs.Said.{said_yes, said_no, word_in}
use Rattle.arrangement.specs.Searching.{Completes}

-- x with v put in at a place, before the entry that stood there
abbrev pub put_in : ℕ → ℕ → List ℕ → List ℕ
put_in place v x = take place x ++ (v ∷ drop place x)

-- w is an avoider of length n that has x as a sublist and begins with the first `fixed` entries
-- of x
pub record Around (P : List (List ℕ)) (n fixed : ℕ) (x w : List ℕ) : Type 0 where
  pub perm : is_perm w ≡ true
  pub size : length w ≡ n
  pub avoids_all : avoids P w ≡ true
  pub front : take fixed w ≡ take fixed x
  pub part : Sublistᴰ x w

abbrev pub NoneAround : List (List ℕ) → ℕ → ℕ → List ℕ → Type 0
NoneAround P n fixed x = (w : List ℕ) → Around P n fixed x w → ⊥

-- a yes comes with an avoider of length n that begins with the first `fixed` entries of x; with a
-- no there is none around x; and without an end to the budget it is one of the two, and what is
-- left of the budget has no end either
pub record PutsIn (P : List (List ℕ)) (n fixed : ℕ) (x : List ℕ) (endless : Bool) (r : Searched) : Type 0 where
  pub yes : said_yes r ≡ true → Completes P n (take fixed x) (take n (word_in r))
  pub no : said_no r ≡ true → NoneAround P n fixed x
  pub ends : endless ≡ true → said_yes r || said_no r ≡ true
  pub left : (b : Option ℕ) → r ≡ Impossible b → is_none b ≡ endless
