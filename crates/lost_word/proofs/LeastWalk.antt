-- The walk over the patterns for the least word that is lost at a spacing.
-- Assumes nothing.
use Prim.Native.Nat.{ℕ, ◌+◌, ◌≤◌, ◌<◌}
use native.Mathlib.Numerals.{add-one}
use native.Mathlib.Omega.{arith}
use mathlib.Core.Path.{◌≡◌, refl, sym, ap, ◌∙◌}
use mathlib.Core.Bool.{Bool, true, false, ◌||◌, cond, or-false}
use mathlib.Core.List.{List, [], ◌∷◌, map}
use mathlib.Core.Option.{Option as Maybe, none, some}
use Rattle.std.specs.Prelude.{Option, Some, None, is_some}
use Rattle.placing.specs.declared.tables.Word.{Word}
use lib.ListN.{length, get_or, take, drop, replicate, drop_of_length-le}
use lib.Seq.{drop-cons}
use Rattle.word.specs.Lists.{any, keep}
use Rattle.word.specs.Word.{before, has}
use Rattle.word.specs.CopyLaws.{found}
use Rattle.word.specs.ListLaws.{true_not_false, first_some}
use Rattle.cell.specs.Cell.{total, without, compared_to}
use Rattle.cell.proofs.WithoutLaws.{without_from_lem, from_none}
use Rattle.cell.specs.Built.{built}
use Rattle.cell.specs.Candidate.{violates, violated, rest_of, violated_first, lost_words, least_of, least_at, least_candidate}
use Rattle.placing.specs.Lookup.{VALUES, need_at, flagged}
use Rattle.placing.specs.Tabled.{IsCandidate}
use Rattle.candidate.specs.Ready.{Looked, FoundAt, Violates}
use Rattle.lost_word.specs.Shown.{ShowsWord, IsShort, shown, lesser_shown, lost_by, WordAnswer}
use Rattle.candidate.specs.declared.search.Lost.{Lost}
use Rattle.placing.proofs.LookupLaws.{flag_none}
use Rattle.candidate.proofs.CandidateWalk.{word_made}

-- the words of a list of patterns that violate, with the deleted positions put back
abbrev pub lost_among : List (List ℕ) → List ℕ → List ℕ → List ℕ → List (List ℕ) → List (List ℕ)
lost_among P p R g l = map (λ β. built p g (rest_of β (total g))) (keep (violates P p R g) l)

-- one pattern more
least_cons : (P : List (List ℕ)) (p R g : List ℕ) (v : Maybe (List ℕ)) (β : List ℕ) (l : List (List ℕ)) →
    least_of v (lost_among P p R g (β ∷ l)) ≡ least_of (lesser_shown v (lost_by P p R g β)) (lost_among P p R g l)
unfolding lost_by least_of
least_cons P p R g v β l = go (violates P p R g β)
  where
    w : List ℕ
    w = built p g (rest_of β (total g))

    go : (c : Bool) →
        least_of v (map (λ γ. built p g (rest_of γ (total g))) (cond c (β ∷ keep (violates P p R g) l) (keep (violates P p R g) l))) ≡
        least_of (lesser_shown v (cond c (some (built p g (rest_of β (total g)))) none)) (lost_among P p R g l)
    go true = refl
    go false = refl

module _ (P : List (List ℕ)) (needs : List ℕ) (p gone levels : List ℕ) (t : ℕ) where
  -- the least word of all is that of the best so far and of the patterns from place i on
  abbrev pub Kept : Option Word → ℕ → Type 0
  Kept best i =
      (R g : List ℕ) → Looked P needs p gone levels t R g →
      least_of none (lost_words P p R g) ≡ least_of (shown best) (lost_among P p R g (drop i P))

  pub kept_start : Kept None 0
  unfolding lost_words
  kept_start R g L = refl

  pub kept_next : (best next r : Option Word) (i : ℕ) → Kept best i → i < length P →
      WordAnswer P needs p gone levels t i next → shown r ≡ lesser_shown (shown best) (shown next) → Kept r (i + 1)
  kept_next best next r i K h answer e R g L =
      let split : drop i P ≡ get_or P i [] ∷ drop (i + 1) P = rw (add-one i) (drop-cons P i [] h) in
      K R g L ∙
      ap (λ (l : List (List ℕ)). least_of (shown best) (lost_among P p R g l)) split ∙
      least_cons P p R g (shown best) (get_or P i []) (drop (i + 1) P) ∙
      ap (λ (o : Maybe (List ℕ)). least_of o (lost_among P p R g (drop (i + 1) P)))
      (ap (lesser_shown (shown best)) (sym (answer R g L)) ∙ sym e)

  pub kept_end : (best : Option Word) (i : ℕ) → Kept best i → length P ≤ i → IsShort best →
      (R g : List ℕ) → Looked P needs p gone levels t R g → ShowsWord (least_of none (lost_words P p R g)) best
  unfolding least_of
  kept_end best i K h low R g L =
      shows best low (least_of none (lost_words P p R g))
      (K R g L ∙ ap (λ (l : List (List ℕ)). least_of (shown best) (lost_among P p R g l)) (drop_of_length-le P h))
    where
      shows : (best : Option Word) → IsShort best → (o : Maybe (List ℕ)) → o ≡ shown best → ShowsWord o best
      shows None low none e = tt
      shows None low (some w) e = let z : ◌≡◌ {A = ℕ} 0 1 = cc in absurd (omega arith)
      shows (Some v) low none e = let z : ◌≡◌ {A = ℕ} 0 1 = cc in absurd (omega arith)
      shows (Some v) low (some w) e = (cc, low)

  -- the word of one pattern

  module _ (i : ℕ) where
    pub word_none : Violates P needs p gone levels t i false → WordAnswer P needs p gone levels t i None
    unfolding lost_by
    word_none v R g L = rw (v R g L) refl

    pub word_some : (r : Word) → Violates P needs p gone levels t i true →
        ((R g : List ℕ) → Looked P needs p gone levels t R g →
        take r.length r.entries ≡ built p g (rest_of (get_or P i []) (total g))) →
        WordAnswer P needs p gone levels t i (Some r)
    unfolding lost_by
    word_some r v w R g L = rw (v R g L) (ap some (w R g L))

-- nothing is left out
without_none : (p : List ℕ) → without [] p ≡ p
unfolding has
without_none p = without_from_lem [] p ∙ from_none [] 1 p (λ (j : ℕ) (l : 1 ≤ j). refl)

-- the word that was made with nothing gone has the deleted positions put back
module _ (P : List (List ℕ)) (needs p gone levels : List ℕ) (t i : ℕ) (hn : i < length P) (eight : length (get_or P i []) ≤ 8)
    (short : t ≤ length (get_or P i [])) (w : List ℕ)
    (made : IsCandidate p levels (replicate VALUES 0) (get_or P i []) t (need_at needs t i) w) where
  put_back : (R g : List ℕ) → Looked P needs p gone levels t R g → Looked P needs p (replicate VALUES 0) levels t [] g
  unfolding has
  put_back R g L =
      record {
        given = record {
          few = L.given.few;
          patterns = L.given.patterns;
          perm = L.given.perm;
          short = L.given.short;
          inside = refl;
        };
        flags = λ v b. sym (or-false (flagged (replicate VALUES 0) v)) ∙ flag_none VALUES v false;
        size = L.size;
        whole = L.whole;
        said = L.said;
        needed = L.needed;
      }

  pub whole_made : (R g : List ℕ) → Looked P needs p gone levels t R g → w ≡ built p g (rest_of (get_or P i []) (total g))
  whole_made R g L =
      word_made P needs p (replicate VALUES 0) levels t i hn eight short w made [] g (put_back R g L) ∙
      ap (λ (u : List ℕ). built u g (rest_of (get_or P i []) (total g))) (without_none p)

-- where a pattern violates, there is a least word

stays : (v : List ℕ) (l : List (List ℕ)) → found (least_of (some v) l) ≡ true
unfolding least_of
stays v [] = refl
stays v (w ∷ l) = go (before w v) (stays w l) (stays v l)
  where
    go : (b : Bool) → found (least_of (some w) l) ≡ true → found (least_of (some v) l) ≡ true →
        found (least_of (cond b (some w) (some v)) l) ≡ true
    go true x y = x
    go false x y = y

some_lost : (P : List (List ℕ)) (p R g : List ℕ) (Q : List (List ℕ)) → any (violates P p R g) Q ≡ true →
    found (least_of none (lost_among P p R g Q)) ≡ true
unfolding least_of
some_lost P p R g [] h = absurd (true_not_false (sym h))
some_lost P p R g (β ∷ Q) h = go (violates P p R g β) h (some_lost P p R g Q)
  where
    go : (c : Bool) → c || any (violates P p R g) Q ≡ true →
        (any (violates P p R g) Q ≡ true → found (least_of none (lost_among P p R g Q)) ≡ true) →
        found (least_of none (map (λ γ. built p g (rest_of γ (total g)))
        (cond c (β ∷ keep (violates P p R g) Q) (keep (violates P p R g) Q)))) ≡ true
    go true e ih = stays (built p g (rest_of β (total g))) (lost_among P p R g Q)
    go false e ih = ih e

pub least_found : (P : List (List ℕ)) (p R g : List ℕ) → violated P p R g ≡ true → found (least_of none (lost_words P p R g)) ≡ true
unfolding violated lost_words
least_found P p R g e = some_lost P p R g P e

-- what is shown of an entry, by where the first violation was found
module _ (m : ℕ) (P : List (List ℕ)) (p : List ℕ) (B : List (List ℕ)) (R : List ℕ) (k : ℕ) where
  pub candidate_none : FoundAt k (violated_first m P p B R) None → least_candidate m P p B R ≡ none
  unfolding least_candidate
  candidate_none at = go (violated_first m P p B R) at
    where
      go : (o : Maybe (List ℕ)) → FoundAt k o None → least_at P p R o ≡ none
      go none e = refl
      go (some g) e = absurd e

  module _ (l : Lost) (at : FoundAt k (violated_first m P p B R) (Some l)) where
    pub candidate_some : least_candidate m P p B R ≡ least_of none (lost_words P p R (take (k + 1) l.spacing))
    unfolding least_candidate
    candidate_some = go (violated_first m P p B R) at
      where
        go : (o : Maybe (List ℕ)) → FoundAt k o (Some l) → least_at P p R o ≡ least_of none (lost_words P p R (take (k + 1) l.spacing))
        go none e = absurd e
        go (some g) e = ap (λ (v : List ℕ). least_of none (lost_words P p R v)) (sym e.0)

    pub candidate_found : found (least_of none (lost_words P p R (take (k + 1) l.spacing))) ≡ true
    unfolding violated_first
    candidate_found = go (violated_first m P p B R) refl at
      where
        go : (o : Maybe (List ℕ)) → violated_first m P p B R ≡ o → FoundAt k o (Some l) →
            found (least_of none (lost_words P p R (take (k + 1) l.spacing))) ≡ true
        go none q e = absurd e
        go (some g) q e = rw e.0 (least_found P p R g (first_some (violated P p R) (compared_to m (length p) B) g q).1)

pub shows_found : (o : Maybe (List ℕ)) (r : Option Word) → ShowsWord o r → is_some r ≡ found o
shows_found none None e = refl
shows_found none (Some w) e = absurd e
shows_found (some v) None e = absurd e
shows_found (some v) (Some w) e = refl
