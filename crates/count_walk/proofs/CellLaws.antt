-- The cells in the order in which they are filled: each cell of the rows is among them, rows come
-- in turn, longer entries first in each.
use Prim.Native.Nat.{ℕ, zero, suc, ◌+◌, ◌-◌, ◌≤◌, ◌<◌}
use native.Mathlib.Omega.{arith}
use Rattle.std.specs.Prelude.{◌≡◌, ◌⊎◌, Bool, cond}
use Rattle.std.proofs.Math.Path.{refl, sym, ap, subst}
use Rattle.std.proofs.Common.{◌∙◌, inl, inr}
use Rattle.std.proofs.Math.Bool.{true, false}
use mathlib.Core.List.Memᴰ
use mathlib.Core.List.{List, [], ◌∷◌, ◌++◌, Memᴰ}
use Rattle.std.proofs.Math.ListN.{length}
use Rattle.std.proofs.Math.Dec.{eqb}
use borrow.Author.Tests.{eq-eqb, eqb-true}
use Rattle.word.specs.Ceilings.{PREFIX}
use Rattle.word.specs.Lists.{each, row}
use Rattle.word.specs.ListLaws.{below_or_not, same_or_not, each_out, each_in, each_append, row_out, row_in}
use Rattle.cell.specs.Cell.{total}
use Rattle.cell.specs.Binomial.{binomial}
use Rattle.cell.proofs.BinomialLaws.{binomial_above}
use Rattle.spacing.specs.Following.{first_vector}
use Rattle.spacing.specs.SpacingOrder.{first_length, first_total}
use Rattle.spacing.specs.Rank.{rank_of, next_of}
use Rattle.spacing.specs.RankLaws.{rank_injective, rank_bound, next_rank, next_length, next_total, first_rank}
use Rattle.spacing.specs.TotalLaws.{row_cut}
use Rattle.forms.specs.SchemeMemory.{scheme_in}
use Rattle.forms.specs.declared.memory.Scheme.{Scheme}
use Rattle.scheme.specs.Proper.{Proper}
use Rattle.count_step.specs.Step.{spacings_from}
use Rattle.count_plan.specs.Layout.{length_at, HasCell}
use Rattle.count_plan.specs.LayoutLaws.{entry_short}
use Rattle.count_walk.specs.Cells.{TableCell, cells_at, entry_cells, cells_if, length_cells, shorter_cells, row_cells, rows_from, cells_of}

-- The spacings from one on

pub spacings_out : (m : ℕ) (g : List ℕ) {u : List ℕ} → Memᴰ u (spacings_from m g) → (length u ≡ length g) × (total u ≡ total g)
unfolding spacings_from
spacings_out zero g k = absurd (Memᴰ.not-nil k)
spacings_out (suc m) g {u} k = go (λ h. spacings_out m (next_of g) h) (Memᴰ.cases_cons k)
  where
    go : (Memᴰ u (spacings_from m (next_of g)) → (length u ≡ length (next_of g)) × (total u ≡ total (next_of g))) →
        (u ≡ g) ⊎ Memᴰ u (spacings_from m (next_of g)) → (length u ≡ length g) × (total u ≡ total g)
    go ih (inl e) = (ap length e, ap total e)
    go ih (inr h) = let (a, b) = ih h in (a ∙ next_length g, b ∙ next_total g)

-- each spacing of the same length and total whose rank is among the next m ranks
spacings_in : (m : ℕ) (g u : List ℕ) (k n : ℕ) → length g ≡ suc k → k + total g ≡ n → length u ≡ length g → total u ≡ total g →
    rank_of g ≤ rank_of u → rank_of u < rank_of g + m → Memᴰ u (spacings_from m g)
unfolding spacings_from
spacings_in zero g u k n l t a b low high = absurd (omega arith)
spacings_in (suc m) g u k n l t a b low high =
    go (spacings_in m (next_of g) u k n (next_length g ∙ l) (ap (λ x. k + x) (next_total g) ∙ t) (a ∙ sym (next_length g))
    (b ∙ sym (next_total g))) (same_or_not (rank_of u) (rank_of g))
  where
    go : (rank_of (next_of g) ≤ rank_of u → rank_of u < rank_of (next_of g) + m → Memᴰ u (spacings_from m (next_of g))) →
        (rank_of u ≡ rank_of g) ⊎ (rank_of u ≡ rank_of g → ⊥) → Memᴰ u (g ∷ spacings_from m (next_of g))
    go ih (inl e) = Memᴰ.head (rank_injective u g a b e)
    go ih (inr ne) =
        let more : rank_of g < rank_of u = omega arith in
        let next : rank_of (next_of g) ≡ suc (rank_of g) =
        next_rank g k n l t (omega (arith, rank_bound u k n (a ∙ l) (ap (λ x. k + x) b ∙ t))) in
        Memᴰ.tail (ih (omega arith) (omega arith))

pub spacings_length : (m : ℕ) (g : List ℕ) → length (spacings_from m g) ≡ m
unfolding spacings_from
spacings_length zero g = refl
spacings_length (suc m) g = ap suc (spacings_length m (next_of g))

-- Which cells are in the lists

-- a cell of an entry of a length within some bounds, in row j
pub record Among (n : ℕ) (s : Scheme) (j : ℕ) (c : TableCell) : Type 0 where
  pub here : c.row ≡ j
  pub cell : HasCell n s j c.entry c.spacing

module _ (n : ℕ) (s : Scheme) where
  entry_out : (j d : ℕ) → d < s.count → j ≤ n → {c : TableCell} → Memᴰ c (entry_cells s j d) → (c.entry ≡ d) × Among n s j c
  unfolding spacings_from
  entry_out j d inside low {c} m = go (below_or_not j (length_at s d))
    where
      go : (j < length_at s d) ⊎ (length_at s d ≤ j) → (c.entry ≡ d) × Among n s j c
      go (inl h) =
          let none : binomial j (length_at s d) ≡ 0 = binomial_above j (length_at s d) h in
          absurd (Memᴰ.not-nil (subst (λ (b : ℕ). Memᴰ c (cells_at j d (spacings_from b (first_vector (length_at s d)
          (j - length_at s d))))) none m))
      go (inr h) =
          let (g, k, e) = Memᴰ.of_map (λ (g : List ℕ). record { row = j; entry = d; spacing = g })
          (spacings_from (binomial j (length_at s d)) (first_vector (length_at s d) (j - length_at s d))) m in
          let (a, b) = spacings_out (binomial j (length_at s d)) (first_vector (length_at s d) (j - length_at s d)) k in
          let at : c.entry ≡ d = sym (ap (λ (x : TableCell). x.entry) e) in
          let spacing : c.spacing ≡ g = sym (ap (λ (x : TableCell). x.spacing) e) in
          let size : length_at s c.entry ≡ length_at s d = ap (length_at s) at in (
            at,
            record {
              here = sym (ap (λ (x : TableCell). x.row) e);
              cell = record {
                inside = omega arith;
                wide = ap length spacing ∙ a ∙ first_length (length_at s d) (j - length_at s d) ∙ ap suc (sym size);
                whole = omega (arith, size, ap total spacing, b, first_total (length_at s d) (j - length_at s d));
                low = low;
              };
            },
          )

  entry_in_lem : (j d : ℕ) (g : List ℕ) → HasCell n s j d g → Memᴰ (record { row = j; entry = d; spacing = g }) (entry_cells s j d)
  entry_in_lem j d g c =
      let t : total (first_vector (length_at s d) (j - length_at s d)) ≡ total g =
      omega (arith, first_total (length_at s d) (j - length_at s d), c.whole) in
      let l : length (first_vector (length_at s d) (j - length_at s d)) ≡ suc (length_at s d) =
      first_length (length_at s d) (j - length_at s d) in
      Memᴰ.map (λ (g : List ℕ). record { row = j; entry = d; spacing = g })
      (spacings_in (binomial j (length_at s d)) (first_vector (length_at s d) (j - length_at s d)) g (length_at s d) j l (omega
      (arith, c.whole))
      (c.wide ∙ sym l) (sym t) (omega (arith, first_rank (length_at s d) (j - length_at s d)))
      (omega (arith, rank_bound g (length_at s d) j c.wide c.whole)))

  length_out : (j k d : ℕ) → j ≤ n → {c : TableCell} → Memᴰ c (length_cells s j k d) → (length_at s c.entry ≡ k) × Among n s j c
  unfolding length_cells
  length_out j k d low {c} m =
      let (i, a, b) = each_out (cells_if s j k) (row d (s.count - d)) m in
      let (e, f) = row_out d (s.count - d) a in
      go i (omega arith) (eqb (length_at s i) k) refl b
    where
      go : (i : ℕ) → i < s.count → (t : Bool) → eqb (length_at s i) k ≡ t → Memᴰ c (cond t (entry_cells s j i) []) →
          (length_at s c.entry ≡ k) × Among n s j c
      go i h true q b =
          let (at, among) = entry_out j i h low b in
          (ap (length_at s) at ∙ eqb-true (length_at s i) k q, among)
      go i h false q b = absurd (Memᴰ.not-nil b)

  length_in : (j d : ℕ) (g : List ℕ) → HasCell n s j d g →
      Memᴰ (record { row = j; entry = d; spacing = g }) (length_cells s j (length_at s d) 0)
  unfolding length_cells
  length_in j d g c =
      each_in (cells_if s j (length_at s d)) (row_in 0 (s.count - 0) d (omega arith) (omega (arith, c.inside)))
      (subst (λ (b : Bool). Memᴰ (record { row = j; entry = d; spacing = g }) (cond b (entry_cells s j d) []))
      (sym (eq-eqb (length_at s d) (length_at s d) refl)) (entry_in_lem j d g c))

  shorter_out : (j k : ℕ) → j ≤ n → {c : TableCell} → Memᴰ c (shorter_cells s j k) → (length_at s c.entry < k) × Among n s j c
  unfolding shorter_cells
  shorter_out j zero low m = absurd (Memᴰ.not-nil m)
  shorter_out j (suc k) low {c} m = go (λ h. shorter_out j k low h) (Memᴰ.append_cases (length_cells s j k 0) m)
    where
      go : (Memᴰ c (shorter_cells s j k) → (length_at s c.entry < k) × Among n s j c) →
          Memᴰ c (length_cells s j k 0) ⊎ Memᴰ c (shorter_cells s j k) → (length_at s c.entry < suc k) × Among n s j c
      go ih (inl h) = let (e, a) = length_out j k 0 low h in (omega arith, a)
      go ih (inr h) = let (e, a) = ih h in (omega arith, a)

  shorter_in : (j k d : ℕ) (g : List ℕ) → HasCell n s j d g → length_at s d < k →
      Memᴰ (record { row = j; entry = d; spacing = g }) (shorter_cells s j k)
  unfolding shorter_cells
  shorter_in j zero d g c h = absurd (omega arith)
  shorter_in j (suc k) d g c h = go (shorter_in j k d g c) (same_or_not (length_at s d) k)
    where
      go : (length_at s d < k → Memᴰ (record { row = j; entry = d; spacing = g }) (shorter_cells s j k)) →
          (length_at s d ≡ k) ⊎ (length_at s d ≡ k → ⊥) →
          Memᴰ (record { row = j; entry = d; spacing = g }) (length_cells s j k 0 ++ shorter_cells s j k)
      go ih (inl e) =
          Memᴰ.append_left (shorter_cells s j k)
          (subst (λ (l : ℕ). Memᴰ (record { row = j; entry = d; spacing = g }) (length_cells s j l 0)) e (length_in j d g c))
      go ih (inr ne) = Memᴰ.append_right (length_cells s j k 0) (ih (omega arith))

  pub rows_out : (j m : ℕ) → j + m ≤ suc n → {c : TableCell} → Memᴰ c (rows_from s j m) →
      (j ≤ c.row) × (c.row < j + m) × HasCell n s c.row c.entry c.spacing
  unfolding rows_from
  rows_out j m low {c} k =
      let (i, a, b) = each_out (row_cells s) (row j m) k in
      let (e, f) = row_out j m a in
      let (l, among) = shorter_out i (suc PREFIX) (omega arith) b in (
        omega (arith, among.here),
        omega (arith, among.here),
        subst (λ (x : ℕ). HasCell n s x c.entry c.spacing) (sym among.here) among.cell,
      )

  pub rows_in : (j m : ℕ) → Proper (scheme_in s) → (c : TableCell) → j ≤ c.row → c.row < j + m →
      HasCell n s c.row c.entry c.spacing → Memᴰ c (rows_from s j m)
  unfolding rows_from
  rows_in j m proper c low high h =
      each_in (row_cells s) (row_in j m c.row low high)
      (shorter_in c.row (suc PREFIX) c.entry c.spacing h (omega (arith, entry_short s proper c.entry h.inside)))

-- rows one after the other
pub rows_append : (s : Scheme) (i j m : ℕ) → rows_from s i j ++ rows_from s (i + j) m ≡ rows_from s i (j + m)
unfolding rows_from
rows_append s i j m = sym (ap (each (row_cells s)) (row_cut i j m) ∙ each_append (row_cells s) (row i j) (row (i + j) m))

pub rows_cut : (s : Scheme) (j m : ℕ) → cells_of s j ++ rows_from s (suc j) m ≡ cells_of s (j + m)
rows_cut s j m =
    let a : 0 + suc j ≡ suc j = omega arith in
    let b : suc j + m ≡ suc (j + m) = omega arith in
    ap (λ i. cells_of s j ++ rows_from s i m) (sym a) ∙ rows_append s 0 (suc j) m ∙ ap (rows_from s 0) b

-- The order

-- x may come before y: its row is no later, and in the same row its entry is no shorter
abbrev pub Turn : Scheme → TableCell → TableCell → Type 0
Turn s x y = (x.row ≤ y.row) × (x.row ≡ y.row → length_at s y.entry ≤ length_at s x.entry)

unfoldable InTurn : Scheme → List TableCell → Type 0
InTurn s [] = Unit {0}
InTurn s (x ∷ l) = ((y : TableCell) → Memᴰ y l → Turn s x y) × InTurn s l

module _ (s : Scheme) where
  -- where any two may come in turn
  turn_all : (l : List TableCell) → ((x y : TableCell) → Memᴰ x l → Memᴰ y l → Turn s x y) → InTurn s l
  unfolding InTurn
  turn_all [] h = tt
  turn_all (x ∷ l) h =
      (λ y m. h x y (Memᴰ.head refl) (Memᴰ.tail m), turn_all l (λ a b m k. h a b (Memᴰ.tail m) (Memᴰ.tail k)))

  turn_append : (k l : List TableCell) → InTurn s k → InTurn s l → ((x y : TableCell) → Memᴰ x k → Memᴰ y l → Turn s x y) →
      InTurn s (k ++ l)
  unfolding InTurn
  turn_append [] l a b h = b
  turn_append (x ∷ k) l (p, a) b h =
      (λ y m. go y (Memᴰ.append_cases k m), turn_append k l a b (λ u v m n. h u v (Memᴰ.tail m) n))
    where
      go : (y : TableCell) → Memᴰ y k ⊎ Memᴰ y l → Turn s x y
      go y (inl m) = p y m
      go y (inr m) = h x y (Memᴰ.head refl) m

  -- what comes before a cell, and what after it
  turn_split : (k : List TableCell) (c : TableCell) (l : List TableCell) → InTurn s (k ++ (c ∷ l)) →
      ((x : TableCell) → Memᴰ x k → Turn s x c) × ((y : TableCell) → Memᴰ y l → Turn s c y)
  unfolding InTurn
  turn_split [] c l (p, a) = (λ x m. absurd (Memᴰ.not-nil m), p)
  turn_split (z ∷ k) c l (p, a) =
      let (before, after) = turn_split k c l a in
      (λ x m. go before x (Memᴰ.cases_cons m), after)
    where
      go : ((x : TableCell) → Memᴰ x k → Turn s x c) → (x : TableCell) → (x ≡ z) ⊎ Memᴰ x k → Turn s x c
      go before x (inl e) = subst (λ (u : TableCell). Turn s u c) (sym e) (p c (Memᴰ.append_right k (Memᴰ.head refl)))
      go before x (inr m) = before x m

  shorter_turn : (j k : ℕ) → InTurn s (shorter_cells s j k)
  unfolding shorter_cells InTurn
  shorter_turn j zero = tt
  shorter_turn j (suc k) =
      turn_append (length_cells s j k 0) (shorter_cells s j k) (turn_all (length_cells s j k 0) same) (shorter_turn j k) less
    where
      same : (x y : TableCell) → Memᴰ x (length_cells s j k 0) → Memᴰ y (length_cells s j k 0) → Turn s x y
      same x y m h =
          let (a, p) = length_out j s j k 0 (omega arith) m in
          let (b, q) = length_out j s j k 0 (omega arith) h in
          (omega (arith, p.here, q.here), λ e. omega arith)

      less : (x y : TableCell) → Memᴰ x (length_cells s j k 0) → Memᴰ y (shorter_cells s j k) → Turn s x y
      less x y m h =
          let (a, p) = length_out j s j k 0 (omega arith) m in
          let (b, q) = shorter_out j s j k (omega arith) h in
          (omega (arith, p.here, q.here), λ e. omega arith)

  rows_turn : (j m : ℕ) → InTurn s (rows_from s j m)
  unfolding rows_from InTurn
  rows_turn j zero = tt
  rows_turn j (suc m) = turn_append (row_cells s j) (rows_from s (suc j) m) (shorter_turn j (suc PREFIX)) (rows_turn (suc j) m) later
    where
      later : (x y : TableCell) → Memᴰ x (row_cells s j) → Memᴰ y (rows_from s (suc j) m) → Turn s x y
      later x y a b =
          let (l, p) = shorter_out j s j (suc PREFIX) (omega arith) a in
          let (low, high, c) = rows_out (j + m) s (suc j) m (omega arith) b in
          (omega (arith, p.here), λ e. absurd (omega (arith, p.here)))

  -- the cells before one of the cells, and those after it
  pub cells_turn : (n : ℕ) (k : List TableCell) (c : TableCell) (l : List TableCell) → k ++ (c ∷ l) ≡ cells_of s n →
      ((x : TableCell) → Memᴰ x k → Turn s x c) × ((y : TableCell) → Memᴰ y l → Turn s c y)
  cells_turn n k c l e = turn_split k c l (subst (InTurn s) (sym e) (rows_turn 0 (suc n)))
