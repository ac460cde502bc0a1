-- The witness of a refusal 11, in the words of order 1 of document 02. Definitions only.
use Rattle.std.specs.Prelude.{Ok, Err, ℕ, zero, suc, ◌+◌, ◌-◌, ◌<◌, ◌≡◌, Bool, true, false, not, ◌&&◌, cond, length, get_or, take}
use Rattle.std.specs.Prelude.{replicate, ltb}
use Rattle.std.specs.Prelude.{eqb}
use mathlib.Core.List.{List, [], ◌∷◌, ◌++◌, Memᴰ}
use Rattle.std.proofs.Math.Option.{Option, none, some}
use Rattle.word.specs.Ceilings.{PAGE, HALF}
use Rattle.word.specs.Lists.{first}
use Rattle.word.specs.Word.{contains, first_copy, avoids, reduce, is_perm, perms, before}
use Rattle.word.specs.Earliest.{earliest, positions_of}
use Rattle.word.specs.Refusal.{number_of}
use Rattle.cell.specs.Basis.{same}
use Rattle.cell.specs.Cell.{total, spacing, cell, deleted, merged, m_of, compared_to}
use Rattle.forms.specs.SchemeList.{Does, expands, deletes, EntryList}
use Rattle.forms.specs.SchemeMemory.{Fault}
use Rattle.scheme.specs.WellFormed.{listed}
use Rattle.verdict.specs.Verdict.{sizes_differ}

-- "Some permutation of the shorter prefix's cell has no partner; with the deleted position put back
-- it has the entry's prefix and spacing and contains a pattern" (02): w, the longer one, is lost at
-- the spacing g of the prefix p with the deleted positions R
unfoldable pub lost : List (List ℕ) → List ℕ → List ℕ → List ℕ → List ℕ → Bool
unfolding same reduce spacing cell deleted merged avoids
lost P p R g w =
    (same (reduce (take (length p) w)) p && same (spacing (length w) (take (length p) w)) g) &&
    (listed (cell P (deleted R p) (merged R p g)) (deleted R w) && not (avoids P w))

-- "Among the compared spacings, the one shown has the least total of spacing, then the least
-- spacing of the refused entry" (02): the compared spacings go by rising total and are
-- lexicographic within a total
unfoldable pub shown_spacing_under : ℕ → List (List ℕ) → List ℕ → List (List ℕ) → List ℕ → Option (List ℕ)
unfolding sizes_differ compared_to
shown_spacing_under m P p B R = first (sizes_differ P p R) (compared_to m (length p) B)

-- "then the least permutation, both lexicographic" (02)
unfoldable pub shown_at : List (List ℕ) → List ℕ → List ℕ → Option (List ℕ) → Option (List ℕ)
unfolding lost perms total
shown_at P p R none = none
shown_at P p R (some g) = first (lost P p R g) (perms (length p + total g))

unfoldable pub shown_word_under : ℕ → List (List ℕ) → List ℕ → List (List ℕ) → List ℕ → Option (List ℕ)
unfolding shown_spacing_under shown_at
shown_word_under m P p B R = shown_at P p R (shown_spacing_under m P p B R)

-- "The first 16 bytes hold its length, its entries and zeros; the next 16 hold the length of a copy
-- in it, the copy's positions and zeros" (02)
abbrev pub half : List ℕ → List ℕ
half u = length u ∷ (u ++ replicate (HALF - 1 - length u) 0)

abbrev pub witness_bytes : List (List ℕ) → Option (List ℕ) → List ℕ
witness_bytes P none = []
witness_bytes P (some w) = half w ++ half (positions_of (earliest P w))

-- the permutation that is shown for an entry; an expanding entry loses none
abbrev pub rule_word_under : ℕ → List (List ℕ) → List ℕ → List (List ℕ) → Does → Option (List ℕ)
rule_word_under m P p B expands = none
rule_word_under m P p B (deletes R) = shown_word_under m P p B R

-- the entry at an index, counted from 0
abbrev pub indexed_entry : List EntryList → ℕ → Option EntryList
indexed_entry [] i = none
indexed_entry (e ∷ E) zero = some e
indexed_entry (e ∷ E) (suc i) = indexed_entry E i

abbrev pub entry_word_under : ℕ → List (List ℕ) → Option EntryList → Option (List ℕ)
entry_word_under m P none = none
entry_word_under m P (some e) = rule_word_under m P e.prefix e.gaps e.rule

-- "With refusal 11 the judge's lent page .. receives a witness for the refused entry" (02): the
-- permutation that is shown with a finding; none without refusal 11
abbrev pub word_shown_under : ℕ → List (List ℕ) → List EntryList → Fault → Option (List ℕ)
word_shown_under m P E (Ok u) = none
word_shown_under m P E (Err e) = cond (eqb (number_of e.refusal) 11) (entry_word_under m P (indexed_entry E e.index)) none

-- the bytes that are written
abbrev pub bytes_shown_under : ℕ → List (List ℕ) → List EntryList → Fault → List ℕ
bytes_shown_under m P E f = witness_bytes P (word_shown_under m P E f)

-- All of these with the m of the set.
abbrev pub shown_spacing : List (List ℕ) → List ℕ → List (List ℕ) → List ℕ → Option (List ℕ)
shown_spacing P p B R = shown_spacing_under (m_of P) P p B R

abbrev pub shown_word : List (List ℕ) → List ℕ → List (List ℕ) → List ℕ → Option (List ℕ)
shown_word P p B R = shown_word_under (m_of P) P p B R

abbrev pub rule_word : List (List ℕ) → List ℕ → List (List ℕ) → Does → Option (List ℕ)
rule_word P p B rule = rule_word_under (m_of P) P p B rule

abbrev pub entry_word : List (List ℕ) → Option EntryList → Option (List ℕ)
entry_word P e = entry_word_under (m_of P) P e

abbrev pub word_shown : List (List ℕ) → List EntryList → Fault → Option (List ℕ)
word_shown P E f = word_shown_under (m_of P) P E f

abbrev pub bytes_shown : List (List ℕ) → List EntryList → Fault → List ℕ
bytes_shown P E f = bytes_shown_under (m_of P) P E f

-- The same as statements, for whoever reads a page.

-- w is lost at the spacing g
pub record IsLost (P : List (List ℕ)) (p R g w : List ℕ) : Type 0 where
  pub perm : is_perm w ≡ true
  pub prefix : reduce (take (length p) w) ≡ p
  pub spaced : spacing (length w) (take (length p) w) ≡ g
  pub shorter : Memᴰ (deleted R w) (cell P (deleted R p) (merged R p g))
  pub contains_one : avoids P w ≡ false

-- v at the spacing h comes before w at the spacing g: by the total, the spacing, the permutation
abbrev pub earlier : List ℕ → List ℕ → List ℕ → List ℕ → Bool
earlier h v g w =
    cond (ltb (total h) (total g)) true (eqb (total h) (total g) && cond (before h g) true (same h g && before v w))

-- the page begins with the least word that is lost at a compared spacing, and with the first copy
-- of the earliest pattern that has one in it
pub record WitnessesUnder (m : ℕ) (P : List (List ℕ)) (p : List ℕ) (B : List (List ℕ)) (R page : List ℕ) : Type 0 where
  pub at : List ℕ
  pub word : List ℕ
  pub pattern : ℕ
  pub copy : List ℕ
  pub bytes : take PAGE page ≡ half word ++ half copy
  pub at_compared : Memᴰ at (compared_to m (length p) B)
  pub is_lost : IsLost P p R at word
  pub least : (h v : List ℕ) → Memᴰ h (compared_to m (length p) B) → IsLost P p R h v → earlier h v at word ≡ false
  pub in_set_lem : pattern < length P
  pub copied : first_copy (get_or P pattern []) word ≡ some copy
  pub none_before : (j : ℕ) → j < pattern → contains (get_or P j []) word ≡ false

abbrev pub Witnesses : List (List ℕ) → List ℕ → List (List ℕ) → List ℕ → List ℕ → Type 0
Witnesses P p B R page = WitnessesUnder (m_of P) P p B R page
