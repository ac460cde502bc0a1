-- Filling the cells one after the other leaves in each its value, as long as its row is kept:
-- whatever a cell holds, and however many rows are kept.
use Rattle.std.specs.Prelude.{ℕ, suc, ◌+◌, ◌*◌, ◌-◌, ◌≤◌, ◌<◌, ◌≡◌, ◌⊎◌, length, get_or}
use native.Mathlib.Omega.{arith}
use Rattle.std.proofs.Math.Path.{refl, subst}
use Rattle.std.proofs.Common.{sym, ap, ap₂, ◌∙◌, inl, inr}
use mathlib.Core.List.Memᴰ
use mathlib.Core.List.{List, [], ◌∷◌, ◌++◌, append-nil, append_assoc, Memᴰ}
use Rattle.word.specs.ListLaws.{same_or_not}
use Rattle.cell.specs.Cell.{total}
use Rattle.forms.specs.SchemeMemory.{scheme_in}
use Rattle.forms.specs.declared.memory.Scheme.{Scheme}
use Rattle.scheme.specs.Proper.{Proper}
use Rattle.count_step.specs.Feed.{CellOf, fed, feed_of}
use Rattle.count_plan.specs.Layout.{entry_at, prefix_at, length_at, width_of, rows_of, cell_at, number_at, HasCell}
use Rattle.count_plan.specs.ApartLaws.{cell_inside, cells_apart, numbers_apart}
use Rattle.count_plan.specs.Cards.{index_of}
use Rattle.count_walk.specs.Content.{Content, Sound}
use Rattle.count_walk.specs.Cells.{TableCell, rows_from, cells_of}
use Rattle.count_walk.specs.Walk.{row_of, place_of, place_in, Makes, step_at, stepped, walked, Solution, Hold}
use Rattle.count_walk.specs.Feeds.{Feeds}
use Rattle.count_walk.proofs.FeedLaws.{map_feed_same, feeds}
use Rattle.count_walk.proofs.CellLaws.{rows_out, rows_in, rows_cut, cells_turn}

module _ {A : Type 0} (C : Content A) (sound : Sound C) (make : Makes A) (rows n : ℕ) (s : Scheme) where
  pub walked_append : (k l : List TableCell) (T : List ℕ) → walked C make rows n s (k ++ l) T ≡
      walked C make rows n s l (walked C make rows n s k T)
  unfolding walked
  walked_append [] l T = refl
  walked_append (c ∷ k) l T = walked_append k l (stepped C make rows n s c T)

  pub walked_size : (k : List TableCell) (T : List ℕ) → length (walked C make rows n s k T) ≡ length T
  unfolding walked
  walked_size [] T = refl
  walked_size (c ∷ k) T =
      walked_size k (stepped C make rows n s c T) ∙ sound.size T (place_in rows n s c) (step_at C make rows n s c T)

  -- no number behind those that are needed is changed
  pub walked_kept : 0 < rows → (k : List TableCell) (T : List ℕ) →
      ((c : TableCell) → Memᴰ c k → HasCell n s c.row c.entry c.spacing) →
      (m : ℕ) → number_at C.numbers (rows * width_of n s) ≤ m → get_or (walked C make rows n s k T) m 0 ≡ get_or T m 0
  unfolding walked
  walked_kept pos [] T has m h = refl
  walked_kept pos (c ∷ k) T has m h =
      walked_kept pos k (stepped C make rows n s c T) (λ x l. has x (Memᴰ.tail l)) m h ∙
      sound.kept T (place_in rows n s c) (step_at C make rows n s c T) m
      (inr (omega (
        arith,
        numbers_apart C.numbers (place_in rows n s c) (rows * width_of n s)
            (cell_inside n s rows pos c.row c.entry c.spacing (has c (Memᴰ.head refl))),
      )))

  module _ (v : List ℕ → List ℕ → A) (solves : Solution C make n s v) (proper : Proper (scheme_in s)) (pos : 0 < rows)
      (enough : rows_of (scheme_in s) ≤ rows) where
    -- one cell more
    module _ (k : List TableCell) (c : TableCell) (l : List TableCell) (all : k ++ (c ∷ l) ≡ cells_of s n) (T : List ℕ)
        (room : number_at C.numbers (rows * width_of n s) ≤ length T) (hold : Hold C rows n s v k T) where
      among : (x : TableCell) → Memᴰ x (k ++ (c ∷ l)) → HasCell n s x.row x.entry x.spacing
      among x m = (rows_out n s 0 (suc n) (omega arith) (subst (Memᴰ x) all m)).2

      has : HasCell n s c.row c.entry c.spacing
      has = among c (Memᴰ.append_right k (Memᴰ.head refl))

      reach : length_at s c.entry + total c.spacing ≤ n
      reach = omega (arith, has.whole, has.low)

      before : (x : TableCell) → Memᴰ x k → x.row ≤ c.row
      before x m = ((cells_turn s n k c l all).0 x m).0

      -- what feeds the cell has been filled, and its row is kept
      agree : (f : CellOf) → Memᴰ f (fed (feed_of (entry_at s c.entry) c.spacing)) →
          C.holds (total f.spacing) T (place_of rows n s f) ≡ v f.prefix f.spacing
      agree f m =
          hold x (filled (Memᴰ.append_cases k (subst (Memᴰ x) (sym all) (rows_in n s 0 (suc n) proper x (omega arith)
          (omega (arith, w.cell.low)) w.cell)))) (λ y h. omega (arith, before y h, w.near, enough)) ∙
          ap (λ (p : List ℕ). v p f.spacing) w.named
        where
          x : TableCell
          x = record { row = row_of f; entry = index_of s f.prefix; spacing = f.spacing }

          w : Feeds n s c.row c.entry f
          w = feeds n s proper c.row c.entry c.spacing has f m

          late : (x ≡ c) ⊎ Memᴰ x l →
              (row_of f < c.row) ⊎ ((row_of f ≡ c.row) × (length_at s c.entry < length_at s (index_of s f.prefix))) → ⊥
          late (inl e) (inl h) = omega (arith, ap (λ (y : TableCell). y.row) e)
          late (inl e) (inr (q, h)) = omega (arith, ap (λ (y : TableCell). length_at s y.entry) e)
          late (inr h) (inl q) = omega (arith, ((cells_turn s n k c l all).1 x h).0)
          late (inr h) (inr (q, g)) = omega (arith, ((cells_turn s n k c l all).1 x h).1 (sym q))

          filled : Memᴰ x k ⊎ Memᴰ x (c ∷ l) → Memᴰ x k
          filled (inl h) = h
          filled (inr h) = absurd (late (Memᴰ.cases_cons h) w.before)

      -- the step puts the value there
      pub step_value : step_at C make rows n s c T ≡ v (prefix_at s c.entry) c.spacing
      step_value =
          ap (make (entry_at s c.entry) c.spacing)
          (map_feed_same (λ f. C.holds (total f.spacing) T (place_of rows n s f)) (λ f. v f.prefix f.spacing)
          (feed_of (entry_at s c.entry)
          c.spacing)
          agree) ∙
          sym (solves.makes c.entry has.inside c.spacing has.wide reach)

      fresh : C.holds (total c.spacing) (stepped C make rows n s c T) (place_in rows n s c) ≡ v (prefix_at s c.entry) c.spacing
      fresh =
          sound.same (total c.spacing) T (place_in rows n s c) (step_at C make rows n s c T)
          (subst (C.fits (total c.spacing)) (sym step_value) (solves.fits c.entry has.inside c.spacing has.wide reach))
          (omega (
            arith,
            room,
            numbers_apart C.numbers (place_in rows n s c) (rows * width_of n s)
                (cell_inside n s rows pos c.row c.entry c.spacing has),
          )) ∙ step_value

      pub hold_step : Hold C rows n s v (k ++ (c ∷ [])) (stepped C make rows n s c T)
      hold_step x m kept = go (Memᴰ.append_cases k m)
        where
          at_cell : x ≡ c → C.holds (total x.spacing) (stepped C make rows n s c T) (place_in rows n s x) ≡
              v (prefix_at s x.entry) x.spacing
          at_cell e = subst (λ (y : TableCell). C.holds (total y.spacing) (stepped C make rows n s c T) (place_in rows n s y) ≡
              v (prefix_at s y.entry) y.spacing) (sym e) fresh

          other : Memᴰ x k → (place_in rows n s x ≡ place_in rows n s c) ⊎ (place_in rows n s x ≡ place_in rows n s c → ⊥) →
              C.holds (total x.spacing) (stepped C make rows n s c T) (place_in rows n s x) ≡ v (prefix_at s x.entry) x.spacing
          other h (inl q) =
              let (a, b, d) = cells_apart n s rows pos x.row c.row x.entry c.entry x.spacing c.spacing
              (among x (Memᴰ.append_left (c ∷ l) h)) has (before x h) (kept c (Memᴰ.append_right k (Memᴰ.head refl))) q in
              ap₂ (λ (t i : ℕ). C.holds t (stepped C make rows n s c T) i) (ap total d) q ∙ fresh ∙ ap₂ v (ap (prefix_at s) (sym b)) (sym d)
          other h (inr ne) =
              sound.other (total x.spacing) T (place_in rows n s c) (place_in rows n s x) (step_at C make rows n s c T) ne ∙
              hold x h (λ y g. kept y (Memᴰ.append_left (c ∷ []) g))

          go : Memᴰ x k ⊎ Memᴰ x (c ∷ []) →
              C.holds (total x.spacing) (stepped C make rows n s c T) (place_in rows n s x) ≡ v (prefix_at s x.entry) x.spacing
          go (inl h) = other h (same_or_not (place_in rows n s x) (place_in rows n s c))
          go (inr h) = at_cell (Memᴰ.eq_of_singleton h)

    hold_walk : (k z l : List TableCell) → k ++ (z ++ l) ≡ cells_of s n → (T : List ℕ) →
        number_at C.numbers (rows * width_of n s) ≤ length T →
        Hold C rows n s v k T → Hold C rows n s v (k ++ z) (walked C make rows n s z T)
    unfolding walked
    hold_walk k [] l all T room hold = subst (λ (u : List TableCell). Hold C rows n s v u T) (sym (append-nil k)) hold
    hold_walk k (c ∷ z) l all T room hold =
        subst (λ (u : List TableCell). Hold C rows n s v u (walked C make rows n s z (stepped C make rows n s c T)))
        (append_assoc k (c ∷ []) z)
        (hold_walk (k ++ (c ∷ [])) z l (append_assoc k (c ∷ []) (z ++ l) ∙ all) (stepped C make rows n s c T)
        (omega (arith, room, sound.size T (place_in rows n s c) (step_at C make rows n s c T)))
        (hold_step k c (z ++ l) all T room hold))

    -- "the cells before the cursor, of the rows that are kept, hold their values"
    pub walk_holds : (z l : List TableCell) → z ++ l ≡ cells_of s n → (T : List ℕ) → number_at C.numbers (rows * width_of n s) ≤ length T →
        Hold C rows n s v z (walked C make rows n s z T)
    walk_holds z l all T room = hold_walk [] z l all T room (λ c m kept. absurd (Memᴰ.not-nil m))

    -- what a step reads: each cell that feeds the cell that comes next holds its value
    pub fed_value : (k : List TableCell) (c : TableCell) (l : List TableCell) → k ++ (c ∷ l) ≡ cells_of s n → (T : List ℕ) →
        number_at C.numbers (rows * width_of n s) ≤ length T →
        (f : CellOf) → Memᴰ f (fed (feed_of (entry_at s c.entry) c.spacing)) →
        C.holds (total f.spacing) (walked C make rows n s k T) (place_of rows n s f) ≡ v f.prefix f.spacing
    fed_value k c l all T room =
        agree k c l all (walked C make rows n s k T) (omega (arith, room, walked_size k T)) (walk_holds k (c ∷ l) all T room)

    -- after the rows up to j, every row less than `rows` back is there
    pub row_value : (j : ℕ) → j ≤ n → (T : List ℕ) → number_at C.numbers (rows * width_of n s) ≤ length T →
        (i d : ℕ) (g : List ℕ) → HasCell n s i d g → i ≤ j → j < i + rows →
        C.holds (total g) (walked C make rows n s (cells_of s j) T) (cell_at rows n s i d g) ≡ v (prefix_at s d) g
    row_value j low T room i d g c here kept =
        walk_holds (cells_of s j) (rows_from s (suc j) (n - j)) (rows_cut s j (n - j) ∙ ap (λ m. rows_from s 0 (suc m)) whole) T room
        (record { row = i; entry = d; spacing = g })
        (rows_in n s 0 (suc j) proper (record { row = i; entry = d; spacing = g }) (omega arith) (omega arith) c)
        (λ x m. omega (arith, (rows_out n s 0 (suc j) (omega arith) m).1))
      where
        whole : j + (n - j) ≡ n
        whole = omega arith
