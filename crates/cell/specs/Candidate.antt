-- The candidates for a violation of a deletion, one word for each pattern and spacing. Definitions
-- only.
use Rattle.std.specs.Prelude.{ℕ, ◌-◌, Bool, false, ◌&&◌, ◌||◌, cond, List, [], ◌∷◌, ◌++◌, map, length, take, drop, ltb, eqb}
use Rattle.std.proofs.Math.Option.{Option, none, some}
use Rattle.word.specs.Lists.{any, keep, first}
use Rattle.word.specs.Word.{avoids, under, reduce, has, entry, before}
use Rattle.word.specs.Vocabulary.{fits}
use Rattle.cell.specs.Cell.{total, without, compared_to}
use Rattle.cell.specs.Built.{level, built}

-- The head entries `hs` can be placed, in their order, at entries of `ps`: b of the head stands
-- already at the prefix values c, each new pair compares with these alike, and the level of the
-- prefix value is the one that the head entry needs. One of the prefix values is to be gone.
unfoldable pub place : (ℕ → ℕ) → (ℕ → ℕ) → (ℕ → Bool) → Bool → List ℕ → List ℕ → List ℕ → List ℕ → Bool
unfolding fits
place need lev gone used b c [] ps = used
place need lev gone used b c (x ∷ hs) [] = false
place need lev gone used b c (x ∷ hs) (a ∷ ps) =
    eqb (lev a) (need x) && (fits b x c a && place need lev gone (used || gone a) (b ++ (x ∷ [])) (c ++ (a ∷ [])) hs ps) ||
    place need lev gone used b c (x ∷ hs) ps

-- how many entries of the pattern stand in the prefix, where the other t stand in the rest
abbrev pub head_length : List ℕ → ℕ → ℕ
head_length β t = length β - t

-- the pattern's last t entries are the rest; the entries before them are placed in the prefix, a
-- deleted position among them
unfoldable pub hit : List ℕ → List ℕ → List ℕ → List ℕ → Bool
unfolding place under level total has entry
hit p R g β =
    let t = total g in
    ltb t (length β) &&
    place (under (drop (head_length β t) β)) (level g) (λ a. has a (map (entry p) R)) false [] [] (take (head_length β t) β) p

-- the pattern hits, and the word without the deleted positions avoids: a member of the shorter cell
-- has no partner
unfoldable pub violates : List (List ℕ) → List ℕ → List ℕ → List ℕ → List ℕ → Bool
unfolding hit avoids built without reduce
violates P p R g β = hit p R g β && avoids P (built (without R p) g (reduce (drop (head_length β (total g)) β)))

-- some pattern violates at g
unfoldable pub violated : List (List ℕ) → List ℕ → List ℕ → List ℕ → Bool
unfolding violates
violated P p R g = any (violates P p R g) P

-- some spacing that is compared under m has a violation
unfoldable pub irreversible : ℕ → List (List ℕ) → List ℕ → List (List ℕ) → List ℕ → Bool
unfolding violated compared_to
irreversible m P p B R = any (violated P p R) (compared_to m (length p) B)

-- the first spacing that is compared under m and has a violation
unfoldable pub violated_first : ℕ → List (List ℕ) → List ℕ → List (List ℕ) → List ℕ → Option (List ℕ)
unfolding violated compared_to
violated_first m P p B R = first (violated P p R) (compared_to m (length p) B)

-- the rest that the pattern's last t entries make
abbrev pub rest_of : List ℕ → ℕ → List ℕ
rest_of β t = reduce (drop (head_length β t) β)

-- the words of the patterns that violate at g, with the deleted positions put back
unfoldable pub lost_words : List (List ℕ) → List ℕ → List ℕ → List ℕ → List (List ℕ)
unfolding violates built reduce total
lost_words P p R g = map (λ β. built p g (rest_of β (total g))) (keep (violates P p R g) P)

-- the lesser of two words in lexicographic order, the first of which may be missing
abbrev pub lesser : Option (List ℕ) → List ℕ → Option (List ℕ)
lesser none w = some w
lesser (some v) w = cond (before w v) (some w) (some v)

-- the least of a word that may be missing and of the words of a list
unfoldable pub least_of : Option (List ℕ) → List (List ℕ) → Option (List ℕ)
least_of v [] = v
least_of v (w ∷ l) = least_of (lesser v w) l

-- the least word of the candidates that violate at a spacing
unfoldable pub least_at : List (List ℕ) → List ℕ → List ℕ → Option (List ℕ) → Option (List ℕ)
unfolding least_of lost_words
least_at P p R none = none
least_at P p R (some g) = least_of none (lost_words P p R g)

-- what the candidate search shows of a deletion: the least word at the first violated spacing
unfoldable pub least_candidate : ℕ → List (List ℕ) → List ℕ → List (List ℕ) → List ℕ → Option (List ℕ)
unfolding least_at violated_first
least_candidate m P p B R = least_at P p R (violated_first m P p B R)
