-- Laws of the plain evaluation: the target, the sum over the next entries.
-- Assumes nothing.
use Prim.Native.Nat.{ℕ, suc, ◌+◌, ◌*◌, ◌-◌, ◌≤◌, ◌<◌}
use native.Mathlib.Nat.{zero-add}
use native.Mathlib.Numerals.{add-one}
use native.Mathlib.Omega.{arith}
use mathlib.Core.Path.{◌≡◌, refl, sym, ap, ap₂, ◌∙◌}
use mathlib.Core.Bool.{true, false, cond}
use mathlib.Core.List.{List, map}
use lib.ListN.{length, take}
use lib.Seq.{length-take-le}
use borrow.Author.Tests.{eq-eqb, ne_eqb}
use Rattle.word.specs.Ceilings.{ENTRIES, PREFIX, COMPONENTS, GAPS, PLAIN_LENGTH}
use Rattle.word.specs.Word.{avoids, entry}
use Rattle.cell.specs.Cell.{total, free, deleted, merged, merge_values}
use Rattle.cell.specs.Child.{slot, child_at, split}
use Rattle.cell.proofs.ChildLaws.{split_total, child_length}
use Rattle.cell.proofs.MergeLaws.{merged_length, merged_total}
use Rattle.spacing.specs.Flagged.{flagged}
use Rattle.spacing.specs.RankLaws.{merge_same}
use Rattle.forms.specs.SchemeList.{Does, expands, deletes}
use Rattle.scheme.specs.WellFormed.{outside}
use Rattle.scheme.specs.PositionLaws.{positions_inside, deleted_size}
use Rattle.verdict.specs.Value.{rule_value, entry_value}
use Rattle.forms.specs.declared.memory.Scheme.{Scheme}
use Rattle.count_plan.specs.Layout.{entry_at, prefix_at, length_at}
use Rattle.count_plan.specs.LayoutLaws.{prefix_length, entry_proper, entry_short, count_few}
use Rattle.count_plan.specs.SheetSizes.{FIELDS}
use Rattle.count_plan.specs.Plan.{SameValues}
use Rattle.count_plan.specs.SheetRows.{field_of, flags_at, gaps_at, Names, RuleRow, Row}
use Rattle.count_plan.proofs.CardLaws.{positions}
use Rattle.count_step.specs.Step.{LARGEST, capped}
use Rattle.count_step.specs.StepLaws.{below_cap}
use Rattle.count_step.proofs.SumLaws.{cap_more, cap_end}
use Rattle.count_walk.specs.Values.{Solves, sum_from}
use Rattle.count_plain.specs.Pieces.{split_at, Begins, HeldAt}
use Rattle.count_plain.specs.Reading.{CellAt, Evaluates, Sums}

-- twice the number that falls at each cell: "eight times the length less the prefix length falls at
-- each cell" (01)
abbrev pub measure_of : List ℕ → ℕ → ℕ → ℕ
measure_of sheet e t = 2 * (8 * (field_of sheet e 0 + t) - field_of sheet e 0)

-- What the sheet says of a rule

-- the entry deletes the positions R, n of them
record Deleting (s : Scheme) (e : ℕ) (sheet : List ℕ) (n : ℕ) : Type 0 where
  R : List ℕ
  rule : (entry_at s e).rule ≡ deletes R
  number : n ≡ length R
  same : SameValues (length (prefix_at s e)) (flagged (flags_at sheet e) (length (prefix_at s e))) (map (entry (prefix_at s e)) R)
  names : Names s (deleted R (prefix_at s e)) (field_of sheet e FIELDS)

module _ (P : List (List ℕ)) (s : Scheme) (sheet : List ℕ) (e : ℕ) (row-e : Row P s sheet e) where
  deleting : (n : ℕ) → n ≡ field_of sheet e 1 → (n ≡ 0 → ⊥) → Deleting s e sheet n
  deleting n q z = go (entry_at s e).rule refl row-e.rule
    where
      go : (rule : Does) → (entry_at s e).rule ≡ rule → RuleRow P s (prefix_at s e) rule sheet e → Deleting s e sheet n
      go expands r (x, a, b, l) = absurd (z (q ∙ x))
      go (deletes R) r (number, low, high, same, names) =
          record { R = R; rule = r; number = q ∙ number; same = same; names = names }

  expanding : field_of sheet e 1 ≡ 0 → ((entry_at s e).rule ≡ expands) × RuleRow P s (prefix_at s e) expands sheet e
  expanding q = go (entry_at s e).rule refl row-e.rule
    where
      go : (rule : Does) → (entry_at s e).rule ≡ rule → RuleRow P s (prefix_at s e) rule sheet e →
          ((entry_at s e).rule ≡ expands) × RuleRow P s (prefix_at s e) expands sheet e
      go expands r x = (r, x)
      go (deletes R) r (number, low, high, same, names) = absurd (omega (arith, number, q, low))

-- One cell

module _ (sheet : List ℕ) (e : ℕ) (g : List ℕ) (t : ℕ) (c : CellAt sheet e g t) where
  row_at : Row c.of.P c.of.s sheet e
  row_at = c.of.rows e c.inside

  pub index_small : e < ENTRIES
  index_small = omega (arith, c.inside, count_few c.of.s c.of.proper)

  pub few : field_of sheet e 3 ≤ GAPS
  few = row_at.few

  pub length_small : field_of sheet e 0 ≤ PREFIX
  length_small = omega (arith, row_at.size, entry_short c.of.s c.of.proper e c.inside)

  pub measure_room : field_of sheet e 0 + t ≤ PLAIN_LENGTH
  measure_room = omega (arith, row_at.size, c.fits)

  module _ (k : ℕ) (ke : k ≡ field_of sheet e 0) where
    k_is : k ≡ length_at c.of.s e
    k_is = ke ∙ row_at.size

    pub total_is : total (take (k + 1) g) ≡ t
    total_is = ap (λ m. total (take (m + 1) g)) k_is ∙ c.whole

    spacing_is : take (k + 1) g ≡ take (length_at c.of.s e + 1) g
    spacing_is = ap (λ m. take (m + 1) g) k_is

    -- the spacing is at least no gap vector, and the value is that of the rule
    module _ (v : List ℕ → List ℕ → ℕ) (solved : Solves v c.of.P c.of.s) where
      value_is : v (prefix_at c.of.s e) (take (length_at c.of.s e + 1) g) ≡
          cond (free (gaps_at sheet e k) (take (k + 1) g))
          (rule_value v c.of.P (prefix_at c.of.s e) (take (length_at c.of.s e + 1) g) (entry_at c.of.s e).rule) 0
      unfolding entry_value
      value_is =
          solved.solves e c.inside (take (length_at c.of.s e + 1) g)
          (length-take-le (length_at c.of.s e + 1) g (omega (arith, c.seven, entry_short c.of.s c.of.proper e c.inside)) ∙
          add-one (length_at c.of.s e) ∙ ap suc (sym (prefix_length c.of.s e))) ∙
          ap (λ b. cond b (rule_value v c.of.P (prefix_at c.of.s e) (take (length_at c.of.s e + 1) g)
          (entry_at c.of.s e).rule) 0)
          (ap₂ free (sym row_at.gaps ∙ ap (gaps_at sheet e) (sym k_is)) (sym spacing_is))

      pub covered_value : free (gaps_at sheet e k) (take (k + 1) g) ≡ false → 0 ≡
          v (prefix_at c.of.s e) (take (length_at c.of.s e + 1) g)
      covered_value f =
          sym (value_is ∙ ap
          (λ b. cond b (rule_value v c.of.P (prefix_at c.of.s e) (take (length_at c.of.s e + 1) g)
          (entry_at c.of.s e).rule) 0) f)

      rule_value_lem : free (gaps_at sheet e k) (take (k + 1) g) ≡ true → (rule : Does) → (entry_at c.of.s e).rule ≡ rule →
          v (prefix_at c.of.s e) (take (length_at c.of.s e + 1) g) ≡
          rule_value v c.of.P (prefix_at c.of.s e) (take (length_at c.of.s e + 1) g) rule
      rule_value_lem f rule r =
          value_is ∙ ap
          (λ b. cond b (rule_value v c.of.P (prefix_at c.of.s e) (take (length_at c.of.s e + 1) g)
          (entry_at c.of.s e).rule) 0) f ∙
          ap (rule_value v c.of.P (prefix_at c.of.s e) (take (length_at c.of.s e + 1) g)) r

      -- an expanding entry
      module _ (z : field_of sheet e 1 ≡ 0) (f : free (gaps_at sheet e k) (take (k + 1) g) ≡ true) where
        rest : ((entry_at c.of.s e).rule ≡ expands) × RuleRow c.of.P c.of.s (prefix_at c.of.s e) expands sheet e
        rest = expanding c.of.P c.of.s sheet e row_at z

        pub alone_value : (x : ℕ) → x ≡ field_of sheet e 2 → t ≡ 0 → x ≡ v (prefix_at c.of.s e) (take (length_at c.of.s e + 1) g)
        unfolding rule_value
        alone_value x q h =
            q ∙ rest.1.1 ∙ sym (rule_value_lem f expands rest.0 ∙
            ap (λ b. cond b (cond (avoids c.of.P (prefix_at c.of.s e)) 1 0)
            (sum_from v (prefix_at c.of.s e) (take (length_at c.of.s e + 1) g) 1 (total (take (length_at c.of.s e + 1) g))))
            (eq-eqb (total (take (length_at c.of.s e + 1) g)) 0 (c.whole ∙ h)))

        pub sum_value : (x : ℕ) → (t ≡ 0 → ⊥) → x ≡ capped (sum_from v (prefix_at c.of.s e) (take (length_at c.of.s e + 1) g) 1 t) →
            x ≡ v (prefix_at c.of.s e) (take (length_at c.of.s e + 1) g)
        unfolding rule_value
        sum_value x n q =
            let is : v (prefix_at c.of.s e) (take (length_at c.of.s e + 1) g) ≡
            sum_from v (prefix_at c.of.s e) (take (length_at c.of.s e + 1) g) 1 t =
            rule_value_lem f expands rest.0 ∙
            ap (λ b. cond b (cond (avoids c.of.P (prefix_at c.of.s e)) 1 0)
            (sum_from v (prefix_at c.of.s e) (take (length_at c.of.s e + 1) g) 1 (total (take (length_at c.of.s e + 1) g))))
            (ne_eqb (total (take (length_at c.of.s e + 1) g)) 0
            (λ (y : total (take (length_at c.of.s e + 1) g) ≡ 0). n (sym c.whole ∙ y))) ∙
            ap (sum_from v (prefix_at c.of.s e) (take (length_at c.of.s e + 1) g) 1) c.whole in
            q ∙ below_cap (sum_from v (prefix_at c.of.s e) (take (length_at c.of.s e + 1) g) 1 t)
            (omega (
              arith,
              solved.fits (prefix_at c.of.s e) (take (length_at c.of.s e + 1) g)
                  (omega (arith, c.whole, c.fits)),
              is,
            )) ∙ sym is

    -- the entry that deletes
    module _ (n : ℕ) (q : n ≡ field_of sheet e 1) (z : n ≡ 0 → ⊥) where
      del : Deleting c.of.s e sheet n
      del = deleting c.of.P c.of.s sheet e row_at n q z

      -- its positions pass the tests
      placed : outside (length (prefix_at c.of.s e)) (deletes del.R) ≡ false
      placed = positions c.of.s c.of.proper e c.inside del.R del.rule

      target_length : length_at c.of.s (field_of sheet e FIELDS) + n ≡ k
      target_length =
          omega (
            arith,
            sym (prefix_length c.of.s (field_of sheet e FIELDS)),
            ap length del.names.named,
            deleted_size del.R (prefix_at c.of.s e) placed,
            del.number,
            prefix_length c.of.s e,
            k_is,
          )

      module _ (gone : List ℕ) (flags : gone ≡ flags_at sheet e) (h : List ℕ) (long : length h ≡ COMPONENTS)
          (m : Begins (merge_values (flagged gone k) (take (k + 1) g)) h) where
        spacing_size : length (take (k + 1) g) ≡ suc (length (prefix_at c.of.s e))
        spacing_size =
            length-take-le (k + 1) g (omega (arith, c.seven, k_is, entry_short c.of.s c.of.proper e c.inside)) ∙
            add-one k ∙ ap suc (k_is ∙ sym (prefix_length c.of.s e))

        merged_is : merge_values (flagged gone k) (take (k + 1) g) ≡ merged del.R (prefix_at c.of.s e) (take (k + 1) g)
        unfolding merged
        merged_is =
            ap₂ (λ (l : List ℕ) (n : ℕ). merge_values (flagged l n) (take (k + 1) g)) flags
            (k_is ∙ sym (prefix_length c.of.s e)) ∙
            merge_same (flagged (flags_at sheet e) (length (prefix_at c.of.s e))) (map (entry (prefix_at c.of.s e)) del.R)
            (take (k + 1) g) (length (prefix_at c.of.s e)) spacing_size del.same

        target_spacing : take (length_at c.of.s (field_of sheet e FIELDS) + 1) h ≡
            merged del.R (prefix_at c.of.s e) (take (k + 1) g)
        target_spacing =
            let size : length (merge_values (flagged gone k) (take (k + 1) g)) ≡ suc (length (deleted del.R (prefix_at c.of.s e))) =
            ap length merged_is ∙ merged_length del.R (prefix_at c.of.s e) (take (k + 1) g)
            (entry_proper c.of.s c.of.proper e c.inside).perm spacing_size
            (positions_inside (length (prefix_at c.of.s e)) del.R placed) in
            let long_is : length_at c.of.s (field_of sheet e FIELDS) + 1 ≡ length (merge_values (flagged gone k) (take (k + 1) g)) =
            omega (arith, prefix_length c.of.s (field_of sheet e FIELDS), ap length del.names.named) in
            ap (λ x. take x h) long_is ∙ m ∙ merged_is

        pub target_at : CellAt sheet (field_of sheet e FIELDS) h t
        target_at =
            record {
              of = c.of;
              inside = del.names.inside;
              seven = long;
              whole = ap total target_spacing ∙ merged_total del.R (prefix_at c.of.s e) (take (k + 1) g) ∙ total_is;
              fits = omega (arith, target_length, k_is, c.fits);
            }

        -- one position less is enough for the measure to fall
        pub target_falls : 2 * (8 * (field_of sheet (field_of sheet e FIELDS) 0 + t) - field_of sheet
            (field_of sheet e FIELDS) 0) < 2 * (8 * (field_of sheet e 0 + t) - field_of sheet e 0)
        target_falls = omega (arith, (c.of.rows (field_of sheet e FIELDS) del.names.inside).size, target_length, ke, z)

        target_value : (v : List ℕ → List ℕ → ℕ) → Solves v c.of.P c.of.s →
            free (gaps_at sheet e k) (take (k + 1) g) ≡ true → (x : ℕ) →
            x ≡ v (prefix_at c.of.s (field_of sheet e FIELDS)) (take (length_at c.of.s (field_of sheet e FIELDS) + 1) h) →
            x ≡ v (prefix_at c.of.s e) (take (length_at c.of.s e + 1) g)
        unfolding rule_value
        target_value v solved f x y =
            y ∙ ap₂ v del.names.named (target_spacing ∙ ap (merged del.R (prefix_at c.of.s e)) spacing_is) ∙
            sym (rule_value_lem v solved f (deletes del.R) del.rule)

        pub target_evaluates : (v : List ℕ → List ℕ → ℕ) → Solves v c.of.P c.of.s →
            free (gaps_at sheet e k) (take (k + 1) g) ≡ true → (x : ℕ) →
            Evaluates sheet (field_of sheet e FIELDS) h t x → x ≡ v (prefix_at c.of.s e) (take (length_at c.of.s e + 1) g)
        unfolding target_at
        target_evaluates v solved f x ev = target_value v solved f x (ev target_at v solved)

    -- a child of an entry that expands
    module _ (z : field_of sheet e 1 ≡ 0) (q i l : ℕ) (one : 1 ≤ q) (reach : q ≤ t) (held : HeldAt (take (k + 1) g) k q i l) where
      row_child : RuleRow c.of.P c.of.s (prefix_at c.of.s e) expands sheet e
      row_child = (expanding c.of.P c.of.s sheet e row_at z).1

      pub length_less : k < PREFIX
      length_less = omega (arith, row_child.2, prefix_length c.of.s e, k_is)

      names : Names c.of.s (child_at (prefix_at c.of.s e) (suc i)) (field_of sheet e (FIELDS + i))
      names = row_child.3 i (omega (arith, held.reach, prefix_length c.of.s e, k_is))

      child_size : length_at c.of.s (field_of sheet e (FIELDS + i)) ≡ k + 1
      child_size =
          omega (
            arith,
            sym (prefix_length c.of.s (field_of sheet e (FIELDS + i))),
            ap length names.named,
            child_length (prefix_at c.of.s e) (suc i),
            prefix_length c.of.s e,
            k_is,
          )

      module _ (h : List ℕ) (long : length h ≡ COMPONENTS) (m : take (k + 2) h ≡ split_at (take (k + 1) g) i l) where
        child_spacing : take (length_at c.of.s (field_of sheet e (FIELDS + i)) + 1) h ≡ split (take (length_at c.of.s e + 1) g) q
        child_spacing =
            let o : length_at c.of.s (field_of sheet e (FIELDS + i)) + 1 ≡ k + 2 = omega (arith, child_size) in
            ap (λ x. take x h) o ∙ m ∙ sym held.split_is ∙ ap (λ (u : List ℕ). split u q) spacing_is

        pub child_at_lem : CellAt sheet (field_of sheet e (FIELDS + i)) h (t - 1)
        child_at_lem =
            record {
              of = c.of;
              inside = names.inside;
              seven = long;
              whole = ap total child_spacing ∙ less;
              fits = omega (arith, child_size, k_is, c.fits);
            }
          where
            less : total (split (take (length_at c.of.s e + 1) g) q) ≡ t - 1
            less = omega (arith, split_total (take (length_at c.of.s e + 1) g) q one (omega (arith, c.whole)), c.whole)

        pub child_falls : 2 * (8 * (field_of sheet (field_of sheet e (FIELDS + i)) 0 + (t - 1)) - field_of sheet
            (field_of sheet e (FIELDS + i)) 0) <
            2 * (8 * (field_of sheet e 0 + t) - field_of sheet e 0) - 1
        child_falls = omega (arith, (c.of.rows (field_of sheet e (FIELDS + i)) names.inside).size, child_size, ke)

        child_value : (v : List ℕ → List ℕ → ℕ) (x : ℕ) →
            x ≡ v (prefix_at c.of.s (field_of sheet e (FIELDS + i))) (take (length_at c.of.s (field_of sheet e (FIELDS + i)) + 1) h) →
            x ≡ v (child_at (prefix_at c.of.s e) (slot (take (length_at c.of.s e + 1) g) q))
            (split (take (length_at c.of.s e + 1) g) q)
        child_value v x y =
            let sl : slot (take (length_at c.of.s e + 1) g) q ≡ suc i = ap (λ (u : List ℕ). slot u q) (sym spacing_is) ∙ held.slot_is in
            y ∙ ap₂ v (names.named ∙ ap (child_at (prefix_at c.of.s e)) (sym sl)) child_spacing

        pub child_evaluates : (v : List ℕ → List ℕ → ℕ) → Solves v c.of.P c.of.s → (x : ℕ) →
            Evaluates sheet (field_of sheet e (FIELDS + i)) h (t - 1) x →
            x ≡ v (child_at (prefix_at c.of.s e) (slot (take (length_at c.of.s e + 1) g) q))
            (split (take (length_at c.of.s e + 1) g) q)
        unfolding child_at_lem
        child_evaluates v solved x ev = child_value v x (ev child_at_lem v solved)

-- The sum over the next entries: what is summed, and what is still to come

abbrev pub SumTo : List ℕ → ℕ → List ℕ → ℕ → ℕ → ℕ → Type 0
SumTo sheet e g t q sum =
    (c : CellAt sheet e g t) (v : List ℕ → List ℕ → ℕ) → Solves v c.of.P c.of.s → field_of sheet e 1 ≡ 0 →
    capped (sum + sum_from v (prefix_at c.of.s e) (take (length_at c.of.s e + 1) g) q (suc t - q)) ≡
    capped (sum_from v (prefix_at c.of.s e) (take (length_at c.of.s e + 1) g) 1 t)

module _ (sheet : List ℕ) (e : ℕ) (g : List ℕ) (t : ℕ) where
  pub sum_start : SumTo sheet e g t 1 0
  sum_start c v solved z =
      let o : suc t - 1 ≡ t = omega arith in
      ap (λ n. capped (0 + sum_from v (prefix_at c.of.s e) (take (length_at c.of.s e + 1) g) 1 n)) o ∙
      ap capped (zero-add (sum_from v (prefix_at c.of.s e) (take (length_at c.of.s e + 1) g) 1 t))

  pub sum_more : (q sum y : ℕ) (x : ℕ) → q ≤ t → SumTo sheet e g t q sum → y ≡ capped (sum + x) →
      ((c : CellAt sheet e g t) (v : List ℕ → List ℕ → ℕ) → Solves v c.of.P c.of.s → field_of sheet e 1 ≡ 0 →
      x ≡ v (child_at (prefix_at c.of.s e) (slot (take (length_at c.of.s e + 1) g) q))
      (split (take (length_at c.of.s e + 1) g) q)) →
      SumTo sheet e g t (q + 1) y
  unfolding total
  sum_more q sum y x h s ye is c v solved z =
      let p = prefix_at c.of.s e in
      let G = take (length_at c.of.s e + 1) g in
      let o : suc t - q ≡ suc (t - q) = omega arith in
      let r : suc t - (q + 1) ≡ t - q = omega arith in
      let step : sum_from v p G q (suc t - q) ≡ x + sum_from v p G (q + 1) (suc t - (q + 1)) =
      ap (sum_from v p G q) o ∙ ap₂ ◌+◌ (sym (is c v solved z)) (ap₂ (sum_from v p G) (sym (add-one q)) (sym r)) in
      cap_more LARGEST sum x (sum_from v p G (q + 1) (suc t - (q + 1))) y ye ∙ ap (λ n. capped (sum + n)) (sym step) ∙ s c v solved z

  pub sum_end : (q sum : ℕ) → t < q → sum ≤ LARGEST → SumTo sheet e g t q sum → Sums sheet e g t sum
  unfolding total
  sum_end q sum h low s c v solved z =
      let o : suc t - q ≡ 0 = omega arith in
      cap_end LARGEST sum (sum_from v (prefix_at c.of.s e) (take (length_at c.of.s e + 1) g) 1 t) low
      (ap (λ n. capped (sum + sum_from v (prefix_at c.of.s e) (take (length_at c.of.s e + 1) g) q n)) (sym o) ∙ s c v solved z)
