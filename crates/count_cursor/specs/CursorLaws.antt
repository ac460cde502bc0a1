-- Where the cursor moves, by the lists of cells.
use Prim.Native.Nat.{ℕ, zero, suc, ◌+◌, ◌-◌, ◌≤◌, ◌<◌}
use Rattle.std.proofs.Math.Numerals.{add-one}
use native.Mathlib.Omega.{arith}
use Rattle.std.specs.Prelude.{◌≡◌, ◌⊎◌, cond, take}
use Rattle.std.proofs.Math.Path.{refl, sym, ap, ap₂}
use Rattle.std.proofs.Common.{◌∙◌, inr, eq-eqb, ne_eqb, le-leb}
use Rattle.std.proofs.Math.Logic.{inl}
use mathlib.Core.List.{List, [], ◌∷◌, ◌++◌, append_assoc}
use Rattle.std.proofs.Math.ListN.{length}
use Rattle.std.proofs.lemmas.Bool.{lt-leb}
use Rattle.word.specs.Ceilings.{PREFIX}
use Rattle.word.specs.Lists.{each, row}
use Rattle.word.specs.ListLaws.{below_or_not, same_or_not}
use Rattle.cell.specs.Cell.{total}
use Rattle.cell.specs.Binomial.{binomial}
use Rattle.cell.proofs.BinomialLaws.{binomial_above}
use Rattle.spacing.specs.Following.{first_vector}
use Rattle.spacing.specs.SpacingOrder.{first_length, first_total}
use Rattle.spacing.specs.Rank.{rank_of, next_of}
use Rattle.spacing.specs.RankLaws.{rank_bound, rank_injective, next_rank, next_length, next_total, first_rank}
use Rattle.forms.specs.SchemeMemory.{scheme_in}
use Rattle.forms.specs.declared.memory.Scheme.{Scheme}
use Rattle.scheme.specs.Proper.{Proper}
use Rattle.count_step.specs.Step.{spacings_from}
use Rattle.count_plan.specs.Layout.{length_at}
use Rattle.count_plan.specs.LayoutLaws.{prefix_length}
use Rattle.count_plan.specs.SheetRows.{field_of, Names, Sheet}
use Rattle.count_plan.proofs.SheetRowLaws.{root_names}
use Rattle.count_plan.specs.Cards.{index_of}
use Rattle.count_walk.specs.Cells.{TableCell, cells_at, entry_cells, cells_if, length_cells, shorter_cells, row_cells, rows_from, row_rest}
use Rattle.count_cursor.specs.Cursor.{FirstFrom, FirstBelow, Top, Starts, spacing_of, cell_of, AtCell, later_of, rest_of}
use Rattle.count_cursor.specs.Cursor.{RowStart, NextEntry, MovedOn}
use Rattle.count_cursor.specs.declared.cursor.Cursor.{Cursor}

-- Lists of cells

module _ (s : Scheme) (j : ℕ) where
  -- the entry with index d, if it is of length k, and then the later ones
  length_step : (k d : ℕ) → d < s.count → length_cells s j k d ≡ cells_if s j k d ++ length_cells s j k (suc d)
  unfolding length_cells
  length_step k d h =
      let e : s.count - d ≡ suc (s.count - suc d) = omega arith in
      rw e refl

  length_end : (k d : ℕ) → s.count ≤ d → length_cells s j k d ≡ []
  unfolding length_cells
  length_end k d h = let e : s.count - d ≡ 0 = omega arith in rw e refl

  length_pass : (k d : ℕ) → d < s.count → (length_at s d ≡ k → ⊥) → length_cells s j k d ≡ length_cells s j k (suc d)
  length_pass k d h ne =
      length_step k d h ∙ ap (λ b. cond b (entry_cells s j d) [] ++ length_cells s j k (suc d)) (ne_eqb (length_at s d) k ne)

  length_here : (d : ℕ) → d < s.count → length_cells s j (length_at s d) d ≡ entry_cells s j d ++ length_cells s j (length_at s d) (suc d)
  length_here d h =
      length_step (length_at s d) d h ∙
      ap (λ b. cond b (entry_cells s j d) [] ++ length_cells s j (length_at s d) (suc d)) (eq-eqb (length_at s d) (length_at s d) refl)

  -- m entries of other lengths
  length_skips : (k m d : ℕ) → d + m ≤ s.count → ((i : ℕ) → d ≤ i → i < d + m → length_at s i ≡ k → ⊥) →
      length_cells s j k d ≡ length_cells s j k (d + m)
  length_skips k zero d h none = let e : d + 0 ≡ d = omega arith in rw e refl
  length_skips k (suc m) d h none =
      let e : suc d + m ≡ d + suc m = omega arith in
      length_pass k d (omega arith) (none d (omega arith) (omega arith)) ∙
      length_skips k m (suc d) (omega arith) (λ i a b. none i (omega arith) (omega arith)) ∙
      ap (length_cells s j k) e

  pub first_skips : (k from r : ℕ) → FirstFrom s k from r → length_cells s j k from ≡ length_cells s j k r
  first_skips k from r f =
      let e : from + (r - from) ≡ r = omega (arith, f.low) in
      length_skips k (r - from) from (omega (arith, f.low, f.high)) (λ i a b. f.none i a (omega (arith, f.low))) ∙
      ap (length_cells s j k) e

  -- no entry has the length k
  length_none : (k : ℕ) → ((d : ℕ) → d < s.count → length_at s d ≡ k → ⊥) → length_cells s j k 0 ≡ []
  length_none k none =
      let e : 0 + s.count ≡ s.count = omega arith in
      length_skips k s.count 0 (omega arith) (λ i a b. none i (omega arith)) ∙ ap (length_cells s j k) e ∙ length_end k s.count
      (omega arith)

  -- entries longer than the row have no cells in it
  entry_high : (d : ℕ) → j < length_at s d → entry_cells s j d ≡ []
  unfolding spacings_from
  entry_high d h = rw (binomial_above j (length_at s d) h) refl

  each_none : (k m d : ℕ) → j < k → each (cells_if s j k) (row d m) ≡ []
  each_none k zero d h = refl
  each_none k (suc m) d h = ap₂ ◌++◌ (go (same_or_not (length_at s d) k)) (each_none k m (suc d) h)
    where
      go : (length_at s d ≡ k) ⊎ (length_at s d ≡ k → ⊥) → cells_if s j k d ≡ []
      go (inl e) = ap (λ b. cond b (entry_cells s j d) []) (eq-eqb (length_at s d) k e) ∙ entry_high d (omega arith)
      go (inr ne) = ap (λ b. cond b (entry_cells s j d) []) (ne_eqb (length_at s d) k ne)

  length_high : (k : ℕ) → j < k → length_cells s j k 0 ≡ []
  unfolding length_cells
  length_high k h = each_none k (s.count - 0) 0 h

  -- lengths without cells
  shorter_skips : (l m : ℕ) → ((k : ℕ) → l ≤ k → k < l + m → length_cells s j k 0 ≡ []) → shorter_cells s j (l + m) ≡ shorter_cells s j l
  unfolding shorter_cells
  shorter_skips l zero none = let e : l + 0 ≡ l = omega arith in rw e refl
  shorter_skips l (suc m) none =
      let e : l + suc m ≡ suc (l + m) = omega arith in
      rw e (ap (λ (u : List TableCell). u ++ shorter_cells s j (l + m)) (none (l + m) (omega arith) (omega arith)) ∙
      shorter_skips l m (λ k a b. none k a (omega arith)))

  shorter_pass : (l k : ℕ) → l ≤ k → ((i : ℕ) → l ≤ i → i < k → length_cells s j i 0 ≡ []) → shorter_cells s j k ≡ shorter_cells s j l
  shorter_pass l k h none =
      let e : l + (k - l) ≡ k = omega arith in
      ap (shorter_cells s j) (sym e) ∙ shorter_skips l (k - l) (λ i a b. none i a (omega arith))

  -- what is left of the row at the first cell of an entry
  abbrev pub entry_rest : ℕ → List TableCell
  entry_rest d = entry_cells s j d ++ (length_cells s j (length_at s d) (suc d) ++ shorter_cells s j (length_at s d))

  pub below_first : (k r : ℕ) → FirstBelow s k r → r < s.count → shorter_cells s j k ≡ entry_rest r
  unfolding shorter_cells
  below_first k r f h =
      shorter_pass (suc (length_at s r)) k (f.less h)
      (λ i a b. length_none i (λ d l e. f.between h d l (omega arith) (omega arith))) ∙
      ap (λ (u : List TableCell). u ++ shorter_cells s j (length_at s r)) (first_skips (length_at s r) 0 r (f.first h) ∙ length_here r h) ∙
      append_assoc (entry_cells s j r) (length_cells s j (length_at s r) (suc r)) (shorter_cells s j (length_at s r))

  pub below_none : (k r : ℕ) → FirstBelow s k r → s.count ≤ r → shorter_cells s j k ≡ []
  unfolding shorter_cells
  below_none k r f h = shorter_pass 0 k (omega arith) (λ i a b. length_none i (λ d l e. f.none h d l (omega arith)))

  pub top_cells : (r : ℕ) → Top j r → row_cells s j ≡ shorter_cells s j r
  top_cells r t = shorter_pass r (suc PREFIX) (omega (arith, t.short)) (λ i a b. length_high i (go i a b t.all))
    where
      go : (i : ℕ) → r ≤ i → i < suc PREFIX → (PREFIX < r) ⊎ (j < r) → j < i
      go i a b (inl h) = absurd (omega arith)
      go i a b (inr h) = omega arith

-- The cursor

module _ (s : Scheme) (c : Cursor) where
  pub rest_here : (n : ℕ) → c.row ≤ n → rest_of s n c ≡ row_rest s c.row c.entry c.rank (spacing_of s c) ++ rows_from s
      (suc c.row) (n - c.row)
  rest_here n h = ap (λ b. cond b (row_rest s c.row c.entry c.rank (spacing_of s c) ++ rows_from s (suc c.row) (n - c.row)) [])
      (le-leb c.row n h)

  pub rest_none : (n : ℕ) → n < c.row → rest_of s n c ≡ []
  rest_none n h = ap (λ b. cond b (row_rest s c.row c.entry c.rank (spacing_of s c) ++ rows_from s (suc c.row) (n - c.row)) [])
      (lt-leb c.row n h)

  -- at rank 0 the spacing is the first one
  first_spacing : AtCell s c → c.rank ≡ 0 → spacing_of s c ≡ first_vector (length_at s c.entry) (c.row - length_at s c.entry)
  first_spacing a z =
      let k : ℕ = length_at s c.entry in
      rank_injective (spacing_of s c) (first_vector (length_at s c.entry) (c.row - length_at s c.entry))
      (a.cell.wide ∙ sym (first_length (length_at s c.entry) (c.row - length_at s c.entry)))
      (omega (arith, a.cell.whole, first_total (length_at s c.entry) (c.row - length_at s c.entry)))
      (a.ranked ∙ z ∙ sym (first_rank (length_at s c.entry) (c.row - length_at s c.entry)))

  -- at rank 0 what is left of the row begins with all cells of the entry
  row_rest_first : AtCell s c → c.rank ≡ 0 → row_rest s c.row c.entry c.rank (spacing_of s c) ≡ entry_rest s c.row c.entry
  row_rest_first a z =
      let m : binomial c.row (length_at s c.entry) - c.rank ≡ binomial c.row (length_at s c.entry) = omega arith in
      ap₂ (λ (x : ℕ) (g : List ℕ). cells_at c.row c.entry (spacings_from x g) ++
      (length_cells s c.row (length_at s c.entry) (suc c.entry) ++ shorter_cells s c.row (length_at s c.entry))) m
      (first_spacing a z)

  pub rest_entry : AtCell s c → c.rank ≡ 0 → (n : ℕ) → c.row ≤ n → rest_of s n c ≡ entry_cells s c.row c.entry ++ later_of s n c
  rest_entry a z n h =
      rest_here n h ∙ ap (λ (u : List TableCell). u ++ rows_from s (suc c.row) (n - c.row)) (row_rest_first a z) ∙
      append_assoc (entry_cells s c.row c.entry)
      (length_cells s c.row (length_at s c.entry) (suc c.entry) ++ shorter_cells s c.row (length_at s c.entry))
      (rows_from s (suc c.row) (n - c.row))

-- at the start of an entry
module _ (sheet : List ℕ) (o : Sheet sheet) (j e : ℕ) (inside : e < o.s.count) (low : length_at o.s e ≤ j) (c : Cursor)
    (f : Starts sheet j e c) where
  start_length : length_at o.s c.entry ≡ length_at o.s e
  start_length = ap (length_at o.s) f.entry

  start_spacing : spacing_of o.s c ≡ first_vector (length_at o.s e) (j - length_at o.s e)
  start_spacing =
      let q : field_of sheet e 0 ≡ length_at o.s e = (o.rows e inside).size in
      ap (λ k. take (k + 1) c.spacing) (start_length ∙ sym q) ∙ f.spacing ∙ ap (λ k. first_vector k (j - k)) q

  pub start_at : AtCell o.s c
  start_at =
      record {
        cell = record {
          inside = omega (arith, f.entry);
          wide = ap length start_spacing ∙ first_length (length_at o.s e) (j - length_at o.s e) ∙ ap suc (sym start_length);
          whole = omega (arith, start_length, ap total start_spacing, first_total (length_at o.s e) (j - length_at o.s e), f.here);
          low = omega arith;
        };
        ranked = ap rank_of start_spacing ∙ first_rank (length_at o.s e) (j - length_at o.s e) ∙ sym f.rank;
      }

  -- what is left from there on
  pub start_rest : (n : ℕ) → j ≤ n → rest_of o.s n c ≡ entry_rest o.s j e ++ rows_from o.s (suc j) (n - j)
  start_rest n h =
      rest_here o.s c n (omega (arith, f.here)) ∙
      ap (λ (u : List TableCell). u ++ rows_from o.s (suc c.row) (n - c.row)) (row_rest_first o.s c start_at f.rank) ∙
      ap₂ (λ (i d : ℕ). entry_rest o.s i d ++ rows_from o.s (suc i) (n - i)) f.here f.entry

-- The first entry of a row: there is one, since ε has one.

below_found : (s : Scheme) → Proper (scheme_in s) → (k r : ℕ) → 1 ≤ k → FirstBelow s k r → r < s.count
below_found s proper k r low f = go (below_or_not r s.count)
  where
    root : Names s [] (index_of s [])
    root = root_names s proper

    go : (r < s.count) ⊎ (s.count ≤ r) → r < s.count
    go (inl h) = h
    go (inr h) =
        let z : length_at s (index_of s []) ≡ 0 = sym (prefix_length s (index_of s [])) ∙ ap length root.named in
        absurd (f.none h (index_of s []) root.inside (omega arith))

module _ (sheet : List ℕ) (o : Sheet sheet) (j k e : ℕ) (top : Top j k) (f : FirstBelow o.s k e) where
  pub row_inside : e < o.s.count
  row_inside = below_found o.s o.proper k e top.low f

  pub row_reach : length_at o.s e ≤ j
  row_reach = omega (arith, f.less row_inside, top.reach)

  pub row_starts : (c : Cursor) → Starts sheet j e c → RowStart o.s j c
  unfolding rows_from
  row_starts c g =
      record {
        at = start_at sheet o j e row_inside row_reach c g;
        here = g.here;
        fresh = g.rank;
        rest = λ n h.
            let m : suc n - j ≡ suc (n - j) = omega arith in
            start_rest sheet o j e row_inside row_reach c g n h ∙
            ap (λ (u : List TableCell). u ++ rows_from o.s (suc j) (n - j))
            (sym (top_cells o.s j k top ∙ below_first o.s j k e f row_inside)) ∙
            rw m refl;
      }

-- The entry that comes next

module _ (sheet : List ℕ) (o : Sheet sheet) (c : Cursor) (at : AtCell o.s c) (e : ℕ)
    (f : FirstFrom o.s (length_at o.s c.entry) (suc c.entry) e) where
  -- one of this length
  pub next_same : (r : Cursor) → e < o.s.count → Starts sheet c.row e r → NextEntry o.s c r
  next_same r h g =
      let same : length_at o.s e ≡ length_at o.s c.entry = f.here h in
      let low : length_at o.s e ≤ c.row = omega (arith, at.cell.whole) in
      let now : length_cells o.s c.row (length_at o.s c.entry) (suc c.entry) ++
      shorter_cells o.s c.row (length_at o.s c.entry) ≡ entry_rest o.s c.row e =
      ap (λ (u : List TableCell). u ++ shorter_cells o.s c.row (length_at o.s c.entry))
      (first_skips o.s c.row (length_at o.s c.entry) (suc c.entry) e f ∙
      ap (λ k. length_cells o.s c.row k e) (sym same) ∙ length_here o.s c.row e h) ∙
      append_assoc (entry_cells o.s c.row e) (length_cells o.s c.row (length_at o.s e) (suc e))
      (shorter_cells o.s c.row (length_at o.s c.entry)) ∙
      ap (λ k. entry_cells o.s c.row e ++ (length_cells o.s c.row (length_at o.s e) (suc e) ++ shorter_cells o.s c.row k))
      (sym same) in
      record {
        at = start_at sheet o c.row e h low r g;
        fresh = g.rank;
        rest = λ n l.
            ap (λ (u : List TableCell). u ++ rows_from o.s (suc c.row) (n - c.row)) now ∙
            sym (start_rest sheet o c.row e h low r g n l);
        falls = inr (g.here, inr (ap (length_at o.s) g.entry ∙ same, omega (arith, g.entry, f.low)));
      }

  -- there is none: the next smaller length that has one
  module _ (end : o.s.count ≤ e) (d : ℕ) (b : FirstBelow o.s (length_at o.s c.entry) d) where
    none_same : length_cells o.s c.row (length_at o.s c.entry) (suc c.entry) ≡ []
    none_same =
        first_skips o.s c.row (length_at o.s c.entry) (suc c.entry) e f ∙
        length_end o.s c.row (length_at o.s c.entry) e end

    pub next_less : (r : Cursor) → d < o.s.count → Starts sheet c.row d r → NextEntry o.s c r
    next_less r h g =
        let less : length_at o.s d < length_at o.s c.entry = b.less h in
        let low : length_at o.s d ≤ c.row = omega (arith, at.cell.whole) in
        record {
          at = start_at sheet o c.row d h low r g;
          fresh = g.rank;
          rest = λ n l.
              ap (λ (u : List TableCell). u ++ shorter_cells o.s c.row (length_at o.s c.entry) ++ rows_from o.s
              (suc c.row) (n - c.row)) none_same ∙
              ap (λ (u : List TableCell). u ++ rows_from o.s (suc c.row) (n - c.row))
              (below_first o.s c.row (length_at o.s c.entry) d b h) ∙
              sym (start_rest sheet o c.row d h low r g n l);
          falls = inr (g.here, inl (omega (arith, ap (length_at o.s) g.entry)));
        }

    -- there is none: the next row
    pub next_row : (r : Cursor) → o.s.count ≤ d → RowStart o.s (c.row + 1) r → NextEntry o.s c r
    unfolding rows_from
    next_row r h g =
        record {
          at = g.at;
          fresh = g.fresh;
          rest = λ n l.
              ap (λ (u : List TableCell). u ++ shorter_cells o.s c.row (length_at o.s c.entry) ++ rows_from o.s
              (suc c.row) (n - c.row)) none_same ∙
              ap (λ (u : List TableCell). u ++ rows_from o.s (suc c.row) (n - c.row))
              (below_none o.s c.row (length_at o.s c.entry) d b h) ∙
              ends n l (below_or_not c.row n);
          falls = inl (g.here ∙ add-one c.row);
        }
      where
        ends : (n : ℕ) → c.row ≤ n → (c.row < n) ⊎ (n ≤ c.row) → rows_from o.s (suc c.row) (n - c.row) ≡ rest_of o.s n r
        ends n l (inl k) =
            let q : suc n - (c.row + 1) ≡ n - c.row = omega arith in
            ap₂ (rows_from o.s) (sym (add-one c.row)) (sym q) ∙ sym (g.rest n (omega arith))
        ends n l (inr k) =
            let z : n - c.row ≡ 0 = omega arith in
            ap (rows_from o.s (suc c.row)) z ∙ sym (rest_none o.s r n (omega (arith, g.here)))

-- The cell that comes next

module _ (s : Scheme) (c : Cursor) (at : AtCell s c) where
  below : c.rank < binomial c.row (length_at s c.entry)
  below = omega (arith, at.ranked, rank_bound (spacing_of s c) (length_at s c.entry) c.row at.cell.wide at.cell.whole)

  -- another of this entry
  pub moves_on : c.rank + 1 < binomial c.row (length_at s c.entry) → (r : Cursor) → r.row ≡ c.row → r.entry ≡ c.entry →
      r.rank ≡ c.rank + 1 → spacing_of s r ≡ next_of (spacing_of s c) → MovedOn s c r
  unfolding spacings_from
  moves_on more r row_is entry-is rank_is spacing_is =
      let len : length_at s r.entry ≡ length_at s c.entry = ap (length_at s) entry-is in
      let up : rank_of (next_of (spacing_of s c)) ≡ suc (rank_of (spacing_of s c)) =
      next_rank (spacing_of s c) (length_at s c.entry) c.row at.cell.wide at.cell.whole (omega (arith, at.ranked)) in
      record {
        at = record {
          cell = record {
            inside = omega (arith, entry-is, at.cell.inside);
            wide = ap length spacing_is ∙ next_length (spacing_of s c) ∙ at.cell.wide ∙ ap suc (sym len);
            whole = omega (arith, len, ap total spacing_is, next_total (spacing_of s c), at.cell.whole, row_is);
            low = omega arith;
          };
          ranked = omega (arith, ap rank_of spacing_is, up, at.ranked, rank_is);
        };
        rest = λ n l.
            let m : binomial c.row (length_at s c.entry) - c.rank ≡ suc (binomial c.row (length_at s c.entry) - (c.rank + 1)) =
            omega arith in
            rest_here s c n l ∙
            ap (λ x. (cells_at c.row c.entry (spacings_from x (spacing_of s c)) ++ (length_cells s c.row (length_at s c.entry)
            (suc c.entry) ++ shorter_cells s c.row (length_at s c.entry))) ++ rows_from s (suc c.row) (n - c.row)) m ∙
            ap (λ (u : List TableCell). cell_of s c ∷ u) (sym (rest_here s r n (omega (arith, row_is)) ∙ same n));
      }
    where
      same : (n : ℕ) → row_rest s r.row r.entry r.rank (spacing_of s r) ++ rows_from s (suc r.row) (n - r.row) ≡
          row_rest s c.row c.entry (c.rank + 1) (next_of (spacing_of s c)) ++ rows_from s (suc c.row) (n - c.row)
      same n = rw (spacing_is, row_is, entry-is, rank_is) refl

  -- this was the last one of the entry
  pub moves_entry : binomial c.row (length_at s c.entry) ≤ c.rank + 1 → (r : Cursor) → NextEntry s c r → MovedOn s c r
  unfolding spacings_from
  moves_entry last r f =
      record {
        at = f.at;
        rest = λ n l.
            let m : binomial c.row (length_at s c.entry) - c.rank ≡ 1 = omega (arith, below) in
            rest_here s c n l ∙
            ap (λ x. (cells_at c.row c.entry (spacings_from x (spacing_of s c)) ++ (length_cells s c.row (length_at s c.entry)
            (suc c.entry) ++ shorter_cells s c.row (length_at s c.entry))) ++ rows_from s (suc c.row) (n - c.row)) m ∙
            ap (λ (u : List TableCell). cell_of s c ∷ u) (f.rest n l);
      }
