-- Counting as a walk: one number a cell, and the sizes of cells as the values of an accepted
-- scheme.
use Rattle.std.specs.Prelude.{ℕ, suc, ◌+◌, ◌*◌, ◌≤◌, ◌<◌, ◌≡◌, refl, ◌⊎◌, Bool, true, false, cond, List, map, length, eqb}
use Rattle.std.proofs.Common.{arith, sym, ap, ◌∙◌, inl, inr, length-set, get_or-set_same, get_or-set_other}
use Rattle.std.proofs.lemmas.Simd.{map-map}
use Rattle.std.proofs.Math.Option.{some}
use Rattle.word.specs.Ceilings.{LENGTH}
use Rattle.word.specs.Lists.{one_to}
use Rattle.word.specs.Word.{avoids}
use Rattle.cell.specs.Cell.{total, free}
use Rattle.cell.specs.Child.{child_at, slot, split}
use Rattle.forms.specs.SchemeList.{Does, expands, deletes, EntryList}
use Rattle.forms.specs.SchemeMemory.{scheme_in}
use Rattle.forms.specs.declared.memory.Scheme.{Scheme}
use Rattle.verdict.specs.Truth.{WellFormed, AllTrue}
use Rattle.verdict.specs.Value.{rule_value, entry_value}
use Rattle.verdict.specs.Size.{size}
use Rattle.verdict.specs.ValueLaws.{size_fits, entry_solves}
use Rattle.count_step.specs.Feed.{CellOf, covered, alone, children, map_feed, rule_feed, feed_of}
use Rattle.count_step.specs.Step.{LARGEST, added_up}
use Rattle.count_step.specs.StepLaws.{below_cap}
use Rattle.count_plan.specs.Layout.{entry_at, prefix_at}
use Rattle.count_plan.specs.LayoutLaws.{prefix_length, entry_member}
use Rattle.count_walk.specs.Content.{Sound, single}
use Rattle.count_walk.specs.Walk.{count_makes, Solution}
use Rattle.count_walk.specs.Values.{Solves}

-- one number a cell
pub single_sound : Sound single
single_sound =
    record {
      size = length-set;
      same = λ t T i x f h. get_or-set_same T i x 0 (omega arith);
      other = λ t T i j x ne. get_or-set_other T i j x 0 ne;
      kept = λ T i x m o. get_or-set_other T i m x 0 (apart i m o);
    }
  where
    apart : (i m : ℕ) → (m < 1 * i) ⊎ (1 * i + 1 ≤ m) → m ≡ i → ⊥
    apart i m (inl h) e = omega arith
    apart i m (inr h) e = omega arith

-- The recursion of document 01 is the adding up of what feeds a cell.
pub value_fed : (v : List ℕ → List ℕ → ℕ) (P : List (List ℕ)) (e : EntryList) (g : List ℕ) → entry_value v P (some e) g ≤ LARGEST →
    entry_value v P (some e) g ≡ count_makes P e g (map_feed (λ (f : CellOf). v f.prefix f.spacing) (feed_of e g))
unfolding entry_value rule_value feed_of
value_fed v P e g small = go (free e.gaps g) e.rule small
  where
    summed : (b : Bool) → cond b (cond (avoids P e.prefix) 1 0)
        (total (map (λ s. v (child_at e.prefix (slot g s)) (split g s)) (one_to (total g)))) ≤ LARGEST →
        cond b (cond (avoids P e.prefix) 1 0) (total (map (λ s. v (child_at e.prefix (slot g s)) (split g s)) (one_to (total g)))) ≡
        added_up (cond (avoids P e.prefix) 1 0) (map_feed (λ (f : CellOf). v f.prefix f.spacing) (cond b
        alone (children
        (map (λ q. record { prefix = child_at e.prefix (slot g q); spacing = split g q }) (one_to (total g))))))
    summed true h = refl
    summed false h =
        sym (below_cap (total (map (λ s. v (child_at e.prefix (slot g s)) (split g s)) (one_to (total g)))) h) ∙
        ap (λ l. added_up (cond (avoids P e.prefix) 1 0) (children l))
        (sym (map-map (λ (f : CellOf). v f.prefix f.spacing)
        (λ (q : ℕ). record { prefix = child_at e.prefix (slot g q); spacing = split g q }) (one_to (total g))))

    go : (b : Bool) (rule : Does) → cond b (rule_value v P e.prefix g rule) 0 ≤ LARGEST →
        cond b (rule_value v P e.prefix g rule) 0 ≡
        added_up (cond (avoids P e.prefix) 1 0) (map_feed (λ (f : CellOf). v f.prefix f.spacing) (cond b (rule_feed
        e.prefix g rule) covered))
    go false rule h = refl
    go true expands h = summed (eqb (total g) 0) h
    go true (deletes R) h = refl

pub solution_of : (v : List ℕ → List ℕ → ℕ) (P : List (List ℕ)) (n : ℕ) (s : Scheme) → n ≤ LENGTH → Solves v P s →
    Solution single (count_makes P) n s v
solution_of v P n s small solved =
    record {
      makes = λ d inside g wide low.
          let is = solved.solves d inside g (wide ∙ ap suc (sym (prefix_length s d))) in
          is ∙ value_fed v P (entry_at s d) g (omega (arith, is, solved.fits (prefix_at s d) g (omega arith)));
      fits = λ d inside g wide low. solved.fits (prefix_at s d) g (omega arith);
    }

-- The sizes of cells solve the recursion of an accepted scheme.
pub sizes_solved : (P : List (List ℕ)) (s : Scheme) → WellFormed P (scheme_in s) → AllTrue P (scheme_in s) → Solves (size P) P s
sizes_solved P s formed truth =
    record {
      solves = λ (i : ℕ) (h : i < s.count) (g : List ℕ) (wide : length g ≡ suc (length (prefix_at s i))).
          entry_solves P (scheme_in s) formed truth _ (entry_member s i h) g wide;
      fits = λ (p g : List ℕ) (h : total g ≤ LENGTH). omega (arith, size_fits P p g h);
    }
