-- Laws of the cards: an entry that is looked up is found by its index.
-- Assumes nothing.
use Prim.Native.Nat.{ℕ, zero, suc, ◌+◌, ◌≤◌, ◌<◌}
use native.Mathlib.Numerals.{add-one}
use native.Mathlib.Omega.{arith}
use mathlib.Core.Path.{◌≡◌, refl, sym, ap, ◌∙◌, subst}
use mathlib.Core.Bool.{Bool, true, false, cond}
use mathlib.Core.List.{List, map}
use mathlib.Core.Option.{Option, none, some}
use lib.ListN.{length, get_or, set, take, length-set}
use Rattle.word.specs.Ceilings.{PREFIX, LINKS}
use Rattle.word.specs.Lists.{row}
use Rattle.word.specs.Word.{is_perm}
use Rattle.word.specs.ListLaws.{true_not_false}
use Rattle.cell.specs.Basis.{same}
use Rattle.cell.proofs.BuiltCells.{same_out}
use Rattle.cell.specs.Child.{child_at}
use Rattle.forms.specs.SchemeList.{expands, deletes}
use Rattle.forms.specs.SchemeMemory.{no_entry, padded, positions_in, does_of, scheme_in}
use Rattle.scheme.specs.WellFormed.{listed, outside}
use Rattle.scheme.specs.Links.{find_from, find_in, found_of, present, prefixes_in, LinkedEntry}
use Rattle.forms.specs.MemoryLaws.{padded_within, rows_more}
use Rattle.forms.specs.declared.memory.Positions.{Positions}
use Rattle.forms.specs.declared.memory.Rule.{Rule}
use Rattle.forms.specs.declared.memory.Rule.TheVariants.{Expand, Delete}
use Rattle.forms.specs.declared.memory.Scheme.{Scheme}
use Rattle.scheme.proofs.LookupLaws.{listed_found, prefixes_at}
use Rattle.count_plan.specs.Layout.{entry_at, prefix_at, length_at}
use Rattle.count_plan.specs.LayoutLaws.{prefix_length, entry_proper, entry_short}
use Rattle.scheme.specs.Proper.{Proper}
use Rattle.count_plan.specs.Cards.{index_found, index_in, index_of, ChildLinks, Expands, Deletes, RuleCard}
use Rattle.count_plan.specs.SheetRows.{Names}
use Rattle.count_plan.specs.declared.cards.Card.{Card}

-- Looking up

-- the place that is found has the prefix
pub found_row : (f : ℕ → List ℕ) (q : List ℕ) (i n d : ℕ) → find_from i (map f (row i n)) q ≡ some d → (d < i + n) × (f d ≡ q)
unfolding find_from
found_row f q i zero d e = let z : ◌≡◌ {A = ℕ} 0 1 = cc in absurd (omega arith)
found_row f q i (suc n) d e = go (same q (f i)) refl e (found_row f q (suc i) n d)
  where
    go : (b : Bool) → same q (f i) ≡ b → cond b (some i) (find_from (suc i) (map f (row (suc i) n)) q) ≡ some d →
        (find_from (suc i) (map f (row (suc i) n)) q ≡ some d → (d < suc i + n) × (f d ≡ q)) → (d < i + suc n) × (f d ≡ q)
    go true s h ih = let k : i ≡ d = cc in (omega arith, ap f (sym k) ∙ sym (same_out q (f i) s))
    go false s h ih = let r = ih h in (omega (arith, r.0), r.1)

-- a list that is listed is the prefix of the entry with the index that is found
pub found_names : (s : Scheme) (q : List ℕ) → listed (prefixes_in s) q ≡ true → Names s q (index_in (prefixes_in s) q)
found_names s q l = go (find_in (prefixes_in s) q) refl
  where
    go : (o : Option ℕ) → find_in (prefixes_in s) q ≡ o → Names s q (index_in (prefixes_in s) q)
    go none e = absurd (true_not_false (sym l ∙ listed_found 0 (prefixes_in s) q ∙ ap present e))
    go (some d) e =
        let r = found_row (prefix_at s) q 0 s.count d (ap (λ (ps : List (List ℕ)). find_in ps q) (sym (prefixes_at s)) ∙ e) in
        let k : d < s.count = omega (arith, r.0) in
        let i : d ≡ index_of s q = sym (ap (λ (x : Option ℕ). index_found (found_of x)) e) in
        subst (λ (x : ℕ). Names s q x) i (record { inside = k; named = r.1; is = i })

-- The links of the children

pub links_start : (ps : List (List ℕ)) (p links : List ℕ) → length links ≡ LINKS → ChildLinks ps p 0 links
links_start ps p links e = record { size = e; at = λ (a : ℕ) (h : a < 0). absurd (omega arith) }

pub links_more : (ps : List (List ℕ)) (p links : List ℕ) (m x : ℕ) → m < LINKS → x ≡
    index_in ps (child_at p (m + 1)) → ChildLinks ps p m links →
    ChildLinks ps p (m + 1) (set links m x)
links_more ps p links m x h e c =
    record {
      size = length-set links m x ∙ c.size;
      at = rows_more (λ (a y : ℕ). y ≡ index_in ps (child_at p (suc a))) links 0 m x (omega (arith, c.size))
          (e ∙ ap (λ a. index_in ps (child_at p a)) (add-one m)) c.at;
    }

pub links_sized : (ps : List (List ℕ)) (p links : List ℕ) (k : ℕ) → length p ≡ k → ChildLinks ps p (k + 1) links →
    ChildLinks ps p (suc (length p)) links
links_sized ps p links k e c = let q : k + 1 ≡ suc (length p) = omega arith in rw (← q) c

-- What the tests say of an entry

module _ (s : Scheme) (proper : Proper (scheme_in s)) (i : ℕ) (h : i < s.count) where
  perm : is_perm (prefix_at s i) ≡ true
  perm = (entry_proper s proper i h).perm

  -- an expanding entry is shorter than PREFIX
  pub expands_short : (entry_at s i).rule ≡ expands → length_at s i < PREFIX
  expands_short r = omega (arith, (entry_proper s proper i h).shorter r, prefix_length s i)

  -- the positions that it deletes rise inside its prefix
  pub positions : (R : List ℕ) → (entry_at s i).rule ≡ deletes R → outside (length (prefix_at s i)) (deletes R) ≡ false
  positions R e = ap (outside (length (prefix_at s i))) (sym e) ∙ (entry_proper s proper i h).inside

  -- what the tests say of the entry in memory
  pub entry_linked : LinkedEntry (get_or s.entries i no_entry)
  entry_linked =
      let q = entry_proper s proper i h in
      record {
        short = entry_short s proper i h;
        perm = q.perm;
        inside =
            ap (λ n. outside n (entry_at s i).rule) (sym (prefix_length s i)) ∙ q.inside;
      }

-- an entry in memory
module _ (P ps : List (List ℕ)) (t : Card) (k : ℕ) (l : List ℕ) (rule : Rule) (h : k ≤ length l) where
  pub rule_expands : rule ≡ Expand → Expands P ps (take k l) t → RuleCard P ps (padded k l) (does_of rule) t
  rule_expands e x = rw (e, padded_within k l h) x

  pub rule_deletes : (d : Positions) (R : List ℕ) → rule ≡ Delete d → positions_in d ≡ R → Deletes ps (take k l) R t →
      RuleCard P ps (padded k l) (does_of rule) t
  rule_deletes d R e q x = rw (e, q, padded_within k l h) x

pub perm_memory : (k : ℕ) (l : List ℕ) → k ≤ length l → is_perm (padded k l) ≡ true → is_perm (take k l) ≡ true
perm_memory k l h e = ap is_perm (sym (padded_within k l h)) ∙ e
