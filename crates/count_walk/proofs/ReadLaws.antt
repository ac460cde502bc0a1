-- A step reads exactly the places of the cells that feed its cell, so steps at the cells of an
-- entry are a part of the walk.
use Prim.Native.Nat.{ℕ, suc, ◌+◌, ◌-◌, ◌≤◌, ◌<◌}
use Rattle.std.proofs.Common.{arith, sym, ◌∙◌, eq-eqb, ne_eqb}
use Rattle.std.specs.Prelude.{◌≡◌, Bool, get_or, eqb}
use Rattle.std.proofs.Math.Path.{refl, ap}
use Rattle.std.proofs.Math.Bool.{true, false, cond}
use mathlib.Core.List.{List, [], ◌∷◌, map, map-map, Memᴰ}
use Rattle.std.proofs.Math.ListN.{length}
use Rattle.word.specs.Ceilings.{LINKS}
use Rattle.word.specs.Lists.{one_to}
use Rattle.word.specs.Word.{avoids, entry}
use Rattle.word.specs.ListLaws.{map_same, row_out}
use Rattle.cell.specs.Cell.{total, free, deleted, merged, merge_values}
use Rattle.cell.specs.Child.{slot, child_at, split}
use Rattle.cell.proofs.BuiltLaws.{get_d_map}
use Rattle.cell.proofs.ChildLaws.{slot_bounds, split_total, child_length}
use Rattle.cell.proofs.MergeLaws.{merged_total}
use Rattle.spacing.specs.Rank.{rank_of}
use Rattle.spacing.specs.RankLaws.{merge_same}
use Rattle.forms.specs.SchemeList.{Does, expands, deletes}
use Rattle.forms.specs.SchemeMemory.{scheme_in}
use Rattle.forms.specs.declared.memory.Scheme.{Scheme}
use Rattle.scheme.specs.WellFormed.{outside}
use Rattle.scheme.specs.Proper.{Proper}
use Rattle.scheme.specs.PositionLaws.{deleted_size}
use Rattle.count_step.specs.Feed.{Feed, covered, alone, target, children, map_feed, CellOf, rule_feed, feed_of, child_places, reads_of}
use Rattle.count_step.specs.Step.{held, added_up, step_of, stored_at}
use Rattle.count_plan.specs.Layout.{entry_at, prefix_at, length_at, place_at, block_of, HasCell}
use Rattle.count_plan.specs.LayoutLaws.{prefix_length, entry_proper, entry_short}
use Rattle.count_plan.specs.Cards.{index_of}
use Rattle.count_plan.specs.Plan.{LeadsTo, Item, SameValues, RulePlan, Planned}
use Rattle.count_walk.specs.Content.{Content, single}
use Rattle.count_walk.specs.Cells.{cells_at}
use Rattle.count_walk.specs.Walk.{place_of, Makes, step_at, walked, count_makes}

-- a content of a content
pub map_feed_map : {A B D : Type 0} (f : B → D) (h : A → B) (F : Feed A) → map_feed f (map_feed h F) ≡ map_feed (λ x. f (h x)) F
map_feed_map f h covered = refl
map_feed_map f h alone = refl
map_feed_map f h (target x) = refl
map_feed_map f h (children l) = ap children (map-map f h l)

-- The plan of the entry with index e, in the layout of n that keeps `rows` rows, at a spacing of a
-- cell of row j. Its links are counted from `offset`: the block of the row that is as many rows
-- back as the entry deletes positions, so that of this row where it expands.
module _ (rows n : ℕ) (P : List (List ℕ)) (s : Scheme) (proper : Proper (scheme_in s)) (e : ℕ) (t : Item) (planned : Planned n P s e t)
    (j offset : ℕ) (there : offset ≡ block_of rows n s (j - t.deleted))
  where
    abbrev links : List ℕ
    links = map (λ x. offset + x) t.links

    link : (a : ℕ) → a < LINKS → get_or (map (λ x. offset + x) t.links) a 0 ≡ offset + get_or t.links a 0
    link a h = get_d_map (λ x. offset + x) t.links a (omega (arith, planned.long))

    module _ (g : List ℕ) (c : HasCell n s j e g) where
      size : length (prefix_at s e) ≡ length_at s e
      size = prefix_length s e

      child_place : t.deleted ≡ 0 →
          ((a : ℕ) → a ≤ length (prefix_at s e) → LeadsTo n s (child_at (prefix_at s e) (suc a)) (get_or t.links a 0)) →
          (q : ℕ) → 1 ≤ q → q ≤ total g → get_or (map (λ x. offset + x) t.links) (slot g q - 1) 0 + rank_of (split g q) ≡
          place_of rows n s (record { prefix = child_at (prefix_at s e) (slot g q); spacing = split g q })
      child_place zero_is leads q low high =
          let (a, b) = slot_bounds g q low high in
          let this_row : j ≡ j - t.deleted = omega arith in
          let l = leads (slot g q - 1) (omega (arith, size, c.wide)) in
          let o : suc (slot g q - 1) ≡ slot g q = omega arith in
          let row : length (child_at (prefix_at s e) (slot g q)) + total (split g q) ≡ j =
          omega (arith, child_length (prefix_at s e) (slot g q), split_total g q low high, size, c.whole) in
          let place : get_or t.links (slot g q - 1) 0 ≡ place_at n s (index_of s (child_at (prefix_at s e) (slot g q))) =
          l.placed ∙ ap (λ x. place_at n s (index_of s (child_at (prefix_at s e) x))) o in
          let short = entry_short s proper (index_of s (child_at (prefix_at s e) (suc (slot g q - 1)))) l.inside in
          let len : length_at s (index_of s (child_at (prefix_at s e) (suc (slot g q - 1)))) ≡ suc (length_at s e) =
          sym (prefix_length s (index_of s (child_at (prefix_at s e) (suc (slot g q - 1))))) ∙ ap length l.named ∙
          child_length (prefix_at s e) (suc (slot g q - 1)) ∙ ap suc size in
          omega (
            arith,
            link (slot g q - 1) (omega (arith, c.wide)),
            place,
            there,
            ap (block_of rows n s) (row ∙ this_row),
          )

      target_place : (R : List ℕ) → (entry_at s e).rule ≡ deletes R → t.deleted ≡ length R →
          SameValues (length (prefix_at s e)) t.values (map (entry (prefix_at s e)) R) →
          LeadsTo n s (deleted R (prefix_at s e)) (get_or t.links 0 0) →
          get_or (map (λ x. offset + x) t.links) 0 0 + rank_of (merge_values t.values g) ≡
          place_of rows n s (record { prefix = deleted R (prefix_at s e); spacing = merged R (prefix_at s e) g })
      unfolding merged
      target_place R rule number same l =
          let o : outside (length (prefix_at s e)) (deletes R) ≡ false = ap (outside (length (prefix_at s e))) (sym rule) ∙
          (entry_proper s proper e c.inside).inside in
          let cut = deleted_size R (prefix_at s e) o in
          let row : length (deleted R (prefix_at s e)) + total (merged R (prefix_at s e) g) ≡ j - t.deleted =
          omega (arith, cut, number, merged_total R (prefix_at s e) g, size, c.whole) in
          let m : rank_of (merge_values t.values g) ≡ rank_of (merged R (prefix_at s e) g) =
          ap rank_of (merge_same t.values (map (entry (prefix_at s e)) R) g (length (prefix_at s e))
          (c.wide ∙ ap suc (sym size)) same) in
          omega (arith, link 0 (omega arith), l.placed, m, there, ap (block_of rows n s) row)

      -- where no gap vector covers the spacing
      rule_reads : (rule : Does) → (entry_at s e).rule ≡ rule → RulePlan n P s (prefix_at s e) rule t →
          cond (eqb t.deleted 0) (cond (eqb (total g) 0) alone (children (child_places (map (λ x. offset + x) t.links) g)))
          (target (get_or (map (λ x. offset + x) t.links) 0 0 + rank_of (merge_values t.values g))) ≡
          map_feed (place_of rows n s) (rule_feed (prefix_at s e) g rule)
      rule_reads expands r (zero_is, alone-is, leads) =
          ap (λ b. cond b (cond (eqb (total g) 0) alone (children (child_places (map (λ x. offset + x) t.links) g)))
          (target (get_or (map (λ x. offset + x) t.links) 0 0 + rank_of (merge_values t.values g)))) (eq-eqb
          t.deleted 0 zero_is) ∙
          go (eqb (total g) 0)
        where
          go : (b : Bool) → cond b alone (children (child_places (map (λ x. offset + x) t.links) g)) ≡
              map_feed (place_of rows n s) (cond b alone (children (map
              (λ q. record { prefix = child_at (prefix_at s e) (slot g q); spacing = split g q }) (one_to (total g)))))
          go true = refl
          go false =
              ap children (map_same (λ q. get_or (map (λ x. offset + x) t.links) (slot g q - 1) 0 + rank_of (split g q))
              (λ q. place_of rows n s (record { prefix = child_at (prefix_at s e) (slot g q); spacing = split g q })) (one_to (total g))
              (λ q m. let (low, high) = row_out 1 (total g) m in child_place zero_is leads q low (omega arith)) ∙
              sym (map-map (place_of rows n s) (λ (q : ℕ). record { prefix = child_at (prefix_at s e) (slot g q); spacing = split g q })
              (one_to (total g))))
      rule_reads (deletes R) q (number, low, same, leads) =
          ap (λ b. cond b (cond (eqb (total g) 0) alone (children (child_places (map (λ x. offset + x) t.links) g)))
          (target (get_or (map (λ x. offset + x) t.links) 0 0 + rank_of (merge_values t.values g))))
          (ne_eqb t.deleted 0 (λ (z : t.deleted ≡ 0). omega arith)) ∙
          ap target (target_place R q number same leads)

      -- a step reads exactly the places of the cells that feed its cell
      pub step_reads : reads_of t.gaps t.deleted t.values (map (λ x. offset + x) t.links) g ≡
          map_feed (place_of rows n s) (feed_of (entry_at s e) g)
      unfolding reads_of feed_of
      step_reads =
          ap (λ (B : List (List ℕ)). reads_of B t.deleted t.values (map (λ x. offset + x) t.links) g) planned.gaps ∙
          go (free (entry_at s e).gaps g) (rule_reads (entry_at s e).rule refl planned.rule)
        where
          go : (b : Bool) →
              cond (eqb t.deleted 0) (cond (eqb (total g) 0) alone (children (child_places (map (λ x. offset + x) t.links) g)))
              (target (get_or (map (λ x. offset + x) t.links) 0 0 + rank_of (merge_values t.values g))) ≡
              map_feed (place_of rows n s) (rule_feed (prefix_at s e) g (entry_at s e).rule) →
              cond b (cond (eqb t.deleted 0) (cond (eqb (total g) 0) alone (children (child_places (map (λ x. offset + x) t.links) g)))
              (target (get_or (map (λ x. offset + x) t.links) 0 0 + rank_of (merge_values t.values g)))) covered ≡
              map_feed (place_of rows n s) (cond b (rule_feed (prefix_at s e) g (entry_at s e).rule) covered)
          go true q = q
          go false q = refl

      -- what an entry has with nothing after the prefix is asked for where it expands, whatever is
      -- made of it
      pub made_alone : {A B : Type 0} (make : ℕ → Feed A → B) → ((x y : ℕ) → make x covered ≡ make y covered) →
          ((x y : ℕ) (z : A) → make x (target z) ≡ make y (target z)) → (f : CellOf → A) →
          make t.alone (map_feed f (feed_of (entry_at s e) g)) ≡ make (cond (avoids P (prefix_at s e)) 1 0)
          (map_feed f (feed_of (entry_at s e) g))
      unfolding feed_of
      made_alone make none one f = go (free (entry_at s e).gaps g) (entry_at s e).rule planned.rule
        where
          go : (b : Bool) (rule : Does) → RulePlan n P s (prefix_at s e) rule t →
              make t.alone (map_feed f (cond b (rule_feed (prefix_at s e) g rule) covered)) ≡
              make (cond (avoids P (prefix_at s e)) 1 0) (map_feed f (cond b (rule_feed (prefix_at s e) g rule) covered))
          go false rule plan = none t.alone (cond (avoids P (prefix_at s e)) 1 0)
          go true expands (zero_is, alone-is, leads) = ap (λ x. make x (map_feed f (rule_feed (prefix_at s e) g expands))) alone-is
          go true (deletes R) plan = one t.alone (cond (avoids P (prefix_at s e)) 1 0) (f (record {
            prefix = deleted R (prefix_at s e);
            spacing = merged R (prefix_at s e) g;
          }))

      -- so the step is the walk's step at the cell
      pub step_is : (T : List ℕ) → step_of T t.gaps t.deleted t.values t.alone (map (λ x. offset + x) t.links) g ≡
          step_at single (count_makes P) rows n s (record { row = j; entry = e; spacing = g }) T
      step_is T =
          ap (λ (F : Feed ℕ). added_up t.alone (map_feed (held T) F)) step_reads ∙
          ap (added_up t.alone) (map_feed_map (held T) (place_of rows n s) (feed_of (entry_at s e) g)) ∙
          made_alone added_up (λ x y. refl) (λ x y z. refl) (λ f. held T (place_of rows n s f))

-- Steps at some spacings of the entry with index e in row j, in turn, whose cells stand from `at`
-- on: where each is the walk's step at its cell, they are a part of the walk.
pub stored_walked : {A : Type 0} (C : Content A) (make : Makes A) (rows n : ℕ) (s : Scheme) (j e : ℕ) (step : List ℕ → List ℕ → A) →
    (at : ℕ) → at ≡ block_of rows n s j + place_at n s e → (gs : List (List ℕ)) →
    ((g : List ℕ) → Memᴰ g gs → (T : List ℕ) → step T g ≡ step_at C make rows n s (record { row = j; entry = e; spacing = g }) T) →
    (T : List ℕ) → stored_at C.put step at gs T ≡ walked C make rows n s (cells_at j e gs) T
unfolding stored_at walked
stored_walked C make rows n s j e step at is [] has T = refl
stored_walked C make rows n s j e step at is (g ∷ gs) has T =
    ap (stored_at C.put step at gs)
    (ap (λ x. C.put T (at + rank_of g) x) (has g (Memᴰ.head refl) T) ∙
    ap (λ m. C.put T (m + rank_of g) (step_at C make rows n s (record { row = j; entry = e; spacing = g }) T)) is) ∙
    stored_walked C make rows n s j e step at is gs (λ h m. has h (Memᴰ.tail m))
    (C.put T (block_of rows n s j + place_at n s e + rank_of g) (step_at C make rows n s (record { row = j; entry = e; spacing = g }) T))
