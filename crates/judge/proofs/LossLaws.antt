-- Laws of what is shown with a finding: the candidate search on the basis shows the word of the
-- definition, for the entry at fault.
-- Assumes nothing.
use Prim.Native.Nat.{ℕ, zero, suc, ◌+◌, ◌<◌}
use native.Mathlib.Nat.{add-zero}
use native.Mathlib.Omega.{arith}
use mathlib.Core.Path.{◌≡◌, refl, sym, ap, ◌∙◌}
use mathlib.Core.Bool.{Bool, true, false, cond}
use mathlib.Core.List.{List, [], ◌∷◌, map, Memᴰ}
use mathlib.Core.Option.{Option as Maybe, none, some}
use lib.ListN.{length, take}
use Rattle.word.specs.Lists.{row}
use Rattle.word.specs.Word.{is_perm}
use Rattle.word.specs.Finding.{fault}
use Rattle.word.specs.declared.refusal.Refusal.TheVariants.{LiveGap, Irreversible}
use Rattle.cell.specs.Basis.{basis}
use Rattle.forms.specs.SchemeList.{Does, expands, deletes, EntryList}
use Rattle.forms.specs.SchemeMemory.{scheme_in, entry_at, fault_of}
use Rattle.forms.specs.declared.memory.Scheme.{Scheme}
use Rattle.scheme.specs.WellFormed.{first_at, outside}
use Rattle.scheme.specs.Proper.{ProperEntry}
use Rattle.scheme.specs.PositionLaws.{positions_inside}
use Rattle.lost_word.specs.Shown.{ShowsWord, IsShort}
use Rattle.std.specs.Prelude.{Option, Some, None}
use Rattle.placing.specs.declared.tables.Word.{Word}
use Rattle.claims.specs.EntryMemory.{rule_candidate}
use Rattle.verdict.specs.Witness.{rule_word_under, indexed_entry, entry_word_under, word_shown_under}
use Rattle.verdict.proofs.WitnessLaws.{shown_candidate, indexed_member}
use Rattle.judge.specs.SetMemory.{entry_loss, loss_shown}

-- the entry of a scheme in memory at an index
indexed_row : (f : ℕ → EntryList) (a n i : ℕ) → i < n → indexed_entry (map f (row a n)) i ≡ some (f (a + i))
indexed_row f a zero i h = absurd (omega arith)
indexed_row f a (suc n) zero h = rw (add-zero a) refl
indexed_row f a (suc n) (suc i) h = indexed_row f (suc a) n i (omega arith) ∙ ap (λ (k : ℕ). some (f k)) (omega arith)

pub indexed_scheme : (s : Scheme) (i : ℕ) → i < s.count → indexed_entry (scheme_in s) i ≡ some (entry_at s i)
indexed_scheme s i h = indexed_row (entry_at s) 0 s.count i h ∙ ap (λ (k : ℕ). some (entry_at s k)) (omega arith)

-- a word that is shown is short
pub shows_short : (o : Maybe (List ℕ)) (word : Option Word) → ShowsWord o word → IsShort word
shows_short none None h = h
shows_short none (Some w) h = absurd h
shows_short (some v) None h = absurd h
shows_short (some v) (Some w) h = h.1

-- where there is no word nothing is shown
pub shows_nothing_lem : (o : Maybe (List ℕ)) → ShowsWord o None → o ≡ none
shows_nothing_lem none h = refl
shows_nothing_lem (some w) h = absurd h

-- a word that is there is the one that is shown
pub shows_some : (o : Maybe (List ℕ)) (word : Word) → ShowsWord o (Some word) → o ≡ some (take word.length word.entries)
shows_some none word h = absurd h
shows_some (some w) word h = ap some (sym h.0)

pub shows_none : (o : Maybe (List ℕ)) → o ≡ none → ShowsWord o None
shows_none o e = rw e tt

module _ (m : ℕ) (P : List (List ℕ)) (perms : (β : List ℕ) → Memᴰ β P → is_perm β ≡ true) where
  -- the word of the definition is what the candidate search shows on the basis
  rule_word_lem : (p : List ℕ) (B : List (List ℕ)) (rule : Does) → is_perm p ≡ true → outside (length p) rule ≡ false →
      rule_word_under m P p B rule ≡ rule_candidate m (basis P) p B rule
  unfolding rule_candidate
  rule_word_lem p B expands perm inside = refl
  rule_word_lem p B (deletes R) perm inside = shown_candidate m P perms p R perm (positions_inside (length p) R inside) B

  module _ (E : List EntryList) (each : (e : EntryList) → Memᴰ e E → ProperEntry e) where
    entry_word_lem : (i : ℕ) → entry_word_under m P (indexed_entry E i) ≡ entry_loss m (basis P) (indexed_entry E i)
    entry_word_lem i = go (indexed_entry E i) refl
      where
        go : (o : Maybe EntryList) → indexed_entry E i ≡ o → entry_word_under m P o ≡ entry_loss m (basis P) o
        go none q = refl
        go (some e) q = let p = each e (indexed_member E i e q) in rule_word_lem e.prefix e.gaps e.rule p.perm p.inside

    -- what test 11 finds is shown by the search on the basis
    pub loss_word : (f : EntryList → Bool) (i : ℕ) (l : List EntryList) →
        word_shown_under m P E (fault_of (first_at Irreversible f i l)) ≡ loss_shown m (basis P) E (fault_of (first_at Irreversible f i l))
    loss_word f i [] = refl
    loss_word f i (e ∷ l) = go (f e) (loss_word f (suc i) l)
      where
        go : (b : Bool) →
            word_shown_under m P E (fault_of (first_at Irreversible f (suc i) l)) ≡
            loss_shown m (basis P) E (fault_of (first_at Irreversible f (suc i) l)) →
            word_shown_under m P E (fault_of (cond b (fault Irreversible i) (first_at Irreversible f (suc i) l))) ≡
            loss_shown m (basis P) E (fault_of (cond b (fault Irreversible i) (first_at Irreversible f (suc i) l)))
        go true below = entry_word_lem i
        go false below = below

    -- what test 10 finds is shown by no word
    pub live_word : (f : EntryList → Bool) (i : ℕ) (l : List EntryList) → word_shown_under m P E (fault_of (first_at LiveGap f i l)) ≡ none
    live_word f i [] = refl
    live_word f i (e ∷ l) = go (f e) (live_word f (suc i) l)
      where
        go : (b : Bool) → word_shown_under m P E (fault_of (first_at LiveGap f (suc i) l)) ≡ none →
            word_shown_under m P E (fault_of (cond b (fault LiveGap i) (first_at LiveGap f (suc i) l))) ≡ none
        go true below = refl
        go false below = below
