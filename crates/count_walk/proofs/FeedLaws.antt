-- Which cells feed which: each has a place in the table, comes before the cell that it feeds, and
-- is less rows back than the table keeps.
use Rattle.std.specs.Prelude.{ℕ, suc, ◌+◌, ◌≤◌, ◌≡◌, Bool, cond, length, eqb}
use Rattle.std.proofs.Common.{arith, sym, ap, ◌∙◌, inl, inr, ne_eqb}
use Rattle.std.proofs.Math.Path.{refl, subst}
use Rattle.std.proofs.Math.Bool.{true, false}
use mathlib.Core.List.Memᴰ
use mathlib.Core.List.{List, [], map, Memᴰ}
use Rattle.word.specs.Lists.{one_to}
use Rattle.word.specs.ListLaws.{row_out, row_in, map_same}
use Rattle.cell.specs.Cell.{total, free, deleted, merged}
use Rattle.cell.specs.Child.{slot, child_at, split}
use Rattle.cell.proofs.ChildLaws.{slot_bounds, split_length, split_total, child_length}
use Rattle.cell.proofs.MergeLaws.{merged_length, merged_total}
use Rattle.forms.specs.SchemeList.{Does, expands, deletes, EntryList}
use Rattle.forms.specs.SchemeMemory.{scheme_in}
use Rattle.forms.specs.declared.memory.Scheme.{Scheme}
use Rattle.scheme.specs.WellFormed.{outside}
use Rattle.scheme.specs.Proper.{Proper}
use Rattle.scheme.specs.PositionLaws.{positions_inside, positions_some, deleted_size}
use Rattle.verdict.specs.ValueLaws.{child_listed, target_listed}
use Rattle.count_step.specs.Feed.{Feed, covered, alone, target, children, map_feed, fed, CellOf, rule_feed, feed_of}
use Rattle.count_plan.specs.Layout.{entry_at, prefix_at, length_at, deleted_by, largest_set, HasCell}
use Rattle.count_plan.specs.LayoutLaws.{prefix_length, entry_member, entry_proper, set_at_most}
use Rattle.count_plan.specs.Cards.{index_of}
use Rattle.count_plan.specs.SheetRows.{Names}
use Rattle.count_plan.proofs.CardLaws.{found_names}
use Rattle.count_walk.specs.Feeds.{Feeds}

-- contents that agree at the cells that feed are the same feed
pub map_feed_same : {A B : Type 0} (f h : A → B) (F : Feed A) → ((x : A) → Memᴰ x (fed F) → f x ≡ h x) → map_feed f F ≡ map_feed h F
map_feed_same f h covered e = refl
map_feed_same f h alone e = refl
map_feed_same f h (target x) e = ap target (e x (Memᴰ.head refl))
map_feed_same f h (children l) e = ap children (map_same f h l e)

-- the children of an expanding entry feed it, at a spacing that no gap vector covers
pub child_fed : (e : EntryList) (g : List ℕ) → e.rule ≡ expands → free e.gaps g ≡ true → (q : ℕ) → 1 ≤ q → q ≤ total g →
    Memᴰ (record { prefix = child_at e.prefix (slot g q); spacing = split g q }) (fed (feed_of e g))
unfolding feed_of
child_fed e g r f q low high =
    rw (f, r, ne_eqb (total g) 0 (λ z. omega arith))
    (Memᴰ.map (λ (i : ℕ). record { prefix = child_at e.prefix (slot g i); spacing = split g i }) (row_in 1 (total g) q low (omega arith)))

module _ (n : ℕ) (s : Scheme) (proper : Proper (scheme_in s)) (j d : ℕ) (g : List ℕ) (c : HasCell n s j d g) where
  size : length (prefix_at s d) ≡ length_at s d
  size = prefix_length s d

  wide : length g ≡ suc (length (prefix_at s d))
  wide = c.wide ∙ ap suc (sym size)

  -- a listed prefix with a spacing of the right width, in row i
  fed_cell : (q h : List ℕ) (i : ℕ) → Names s q (index_of s q) → length h ≡ suc (length q) → length q + total h ≡ i → i ≤ j →
      HasCell n s (length q + total h) (index_of s q) h
  fed_cell q h i names w e low =
      let long : length_at s (index_of s q) ≡ length q = sym (prefix_length s (index_of s q)) ∙ ap length names.named in
      record {
        inside = names.inside;
        wide = w ∙ ap suc (sym long);
        whole = ap (λ m. m + total h) long;
        low = omega (arith, c.low);
      }

  child_feeds : (entry_at s d).rule ≡ expands → (q : ℕ) → 1 ≤ q → q ≤ total g →
      Feeds n s j d (record { prefix = child_at (prefix_at s d) (slot g q); spacing = split g q })
  child_feeds rule q low high =
      let (a, b) = slot_bounds g q low high in
      let p : List ℕ = child_at (prefix_at s d) (slot g q) in
      let names = found_names s (child_at (prefix_at s d) (slot g q))
      (child_listed [] (scheme_in s) proper (entry_at s d) (entry_member s d c.inside) rule (slot g q) a (omega (arith, wide))) in
      let longer : length (child_at (prefix_at s d) (slot g q)) ≡ suc (length (prefix_at s d)) = child_length (prefix_at s d) (slot g q) in
      let here : length (child_at (prefix_at s d) (slot g q)) + total (split g q) ≡ j =
      omega (arith, split_total g q low high, size, c.whole) in
      record {
        cell = fed_cell (child_at (prefix_at s d) (slot g q)) (split g q) j names
            (omega (arith, split_length g q low high, wide)) here (omega arith);
        named = names.named;
        before = inr (
          here,
          omega (
            arith,
            sym (prefix_length s (index_of s (child_at (prefix_at s d) (slot g q)))) ∙ ap length names.named,
            size,
          ),
        );
        near = omega arith;
      }

  target_feeds : (R : List ℕ) → (entry_at s d).rule ≡ deletes R →
      Feeds n s j d (record { prefix = deleted R (prefix_at s d); spacing = merged R (prefix_at s d) g })
  target_feeds R rule =
      let perm = (entry_proper s proper d c.inside).perm in
      let o : outside (length (prefix_at s d)) (deletes R) ≡ false = ap (outside (length (prefix_at s d))) (sym rule) ∙
      (entry_proper s proper d c.inside).inside in
      let cut = deleted_size R (prefix_at s d) o in
      let names = found_names s (deleted R (prefix_at s d))
      (target_listed [] (scheme_in s) proper (entry_at s d) (entry_member s d c.inside) R rule) in
      let back : length (deleted R (prefix_at s d)) + total (merged R (prefix_at s d) g) + length R ≡ j =
      omega (arith, merged_total R (prefix_at s d) g, size, c.whole) in
      let few : deleted_by (entry_at s d).rule ≤ largest_set (scheme_in s) =
      set_at_most (scheme_in s) (entry_at s d) (entry_member s d c.inside) in
      record {
        cell = fed_cell (deleted R (prefix_at s d)) (merged R (prefix_at s d) g)
            (length (deleted R (prefix_at s d)) + total (merged R (prefix_at s d) g)) names
            (merged_length R (prefix_at s d) g perm wide (positions_inside (length (prefix_at s d)) R o)) refl (omega arith);
        named = names.named;
        before = inl (omega (arith, positions_some (length (prefix_at s d)) R o));
        near = omega (arith, few, ap deleted_by rule);
      }

  -- what feeds a cell of the table
  pub feeds : (f : CellOf) → Memᴰ f (fed (feed_of (entry_at s d) g)) → Feeds n s j d f
  unfolding feed_of
  feeds f m = go (free (entry_at s d).gaps g) (entry_at s d).rule refl m
    where
      summed : (b : Bool) → (entry_at s d).rule ≡ expands →
          Memᴰ f (fed (cond b alone (children (map
          (λ q. record { prefix = child_at (prefix_at s d) (slot g q); spacing = split g q }) (one_to (total g)))))) → Feeds n s j d f
      summed true r m = absurd (Memᴰ.not-nil m)
      summed false r m =
          let (q, k, e) = Memᴰ.of_map (λ (q : ℕ). record { prefix = child_at (prefix_at s d) (slot g q); spacing = split g q })
          (one_to (total g)) m in
          let (low, high) = row_out 1 (total g) k in
          subst (λ (x : CellOf). Feeds n s j d x) e (child_feeds r q low (omega arith))

      go : (b : Bool) (rule : Does) → (entry_at s d).rule ≡ rule → Memᴰ f (fed (cond b (rule_feed (prefix_at s d) g rule) covered)) →
          Feeds n s j d f
      go false rule r m = absurd (Memᴰ.not-nil m)
      go true expands r m = summed (eqb (total g) 0) r m
      go true (deletes R) r m =
          subst (λ (x : CellOf). Feeds n s j d x) (sym (Memᴰ.eq_of_singleton m)) (target_feeds R r)
