-- Crowded words: those with more unused values between the end of an increasing and the end of a
-- decreasing subsequence than a completion can take. Definitions only.
use Rattle.std.specs.Prelude.{ℕ, zero, suc, ◌-◌, ◌*◌, min, Bool, true, false, not, ◌&&◌, cond, List, [], ◌∷◌, length, ltb}
use Rattle.word.specs.Lists.{all, any, keep, row}

-- a direction is up (true) or down (false); x comes before y in it
unfoldable pub precedes : Bool → ℕ → ℕ → Bool
precedes true x y = ltb x y
precedes false x y = ltb y x

-- the entries increase (up) or decrease (down): each precedes all that stand behind it
unfoldable pub monotone : Bool → List ℕ → Bool
unfolding precedes
monotone up [] = true
monotone up (x ∷ w) = all (precedes up x) w && monotone up w

-- the length of a monotone pattern, 0 for any other
unfoldable pub monotone_length : Bool → List ℕ → ℕ
unfolding monotone
monotone_length up β = cond (monotone up β) (length β) 0

-- the smaller of two lengths, where 0 is none
unfoldable pub shorter : ℕ → ℕ → ℕ
shorter zero b = b
shorter (suc a) zero = suc a
shorter (suc a) (suc b) = min (suc a) (suc b)

-- the length of the shortest monotone pattern of the set, 0 for none
unfoldable pub shortest : Bool → List (List ℕ) → ℕ
unfolding monotone_length shorter
shortest up [] = 0
shortest up (β ∷ P) = shorter (monotone_length up β) (shortest up P)

-- the length of the shortest increasing pattern of the set, and that of the shortest decreasing one
abbrev pub shortest_rising : List (List ℕ) → ℕ
shortest_rising P = shortest true P

abbrev pub shortest_falling : List (List ℕ) → ℕ
shortest_falling P = shortest false P

-- the number that precedes all of 1 to n
unfoldable pub bound : Bool → ℕ → ℕ
bound true n = 0
bound false n = suc n

-- The end of a monotone subsequence of l entries, for each l, before the first entry of a word: of
-- no entries it is a number that every value can follow; of more entries there is none, which is
-- marked by a number that no value can follow
unfoldable pub start_ends : Bool → ℕ → ℕ → ℕ
unfolding bound
start_ends up n zero = bound up n
start_ends up n (suc l) = bound (not up) n

-- the ends after one entry more: x is the end for l + 1 if it follows the end for l and precedes
-- the end for l + 1
unfoldable pub next_ends : Bool → ℕ → (ℕ → ℕ) → ℕ → ℕ
unfolding precedes
next_ends up x e zero = e zero
next_ends up x e (suc l) = cond (precedes up (e l) x && precedes up x (e (suc l))) x (e (suc l))

-- the ends after the entries of u
unfoldable pub ends_after : Bool → (ℕ → ℕ) → List ℕ → ℕ → ℕ
unfolding next_ends
ends_after up e [] = e
ends_after up e (x ∷ u) = ends_after up (next_ends up x e) u

-- up: the least end of an increasing subsequence of l entries of u; down: the greatest end of a
-- decreasing one. The laws need only that it is an end.
unfoldable pub ends : Bool → ℕ → List ℕ → ℕ → ℕ
unfolding start_ends ends_after
ends up n u l = ends_after up (start_ends up n) u l

-- how many entries of w lie strictly between two numbers
unfoldable pub between : ℕ → ℕ → List ℕ → ℕ
between low high w = length (keep (λ v. ltb low v && ltb v high) w)

-- more unused values lie between the ends for l and m than can follow there: of two patterns with
-- `rises` and `falls` entries, rises - 1 - l may still increase and falls - 1 - m decrease
unfoldable pub crowded_at : ℕ → ℕ → ℕ → List ℕ → List ℕ → ℕ → ℕ → Bool
unfolding ends between
crowded_at rises falls n u rest l m =
    ltb ((rises - 1 - l) * (falls - 1 - m)) (between (ends true n u l) (ends false n u m) rest)

-- the word u of values of 1 to n, with the unused values `rest`, is crowded: for some l and m
unfoldable pub crowded : ℕ → ℕ → ℕ → List ℕ → List ℕ → Bool
unfolding crowded_at
crowded rises falls n u rest = any (λ l. any (crowded_at rises falls n u rest l) (row 0 falls)) (row 0 rises)
