-- The figures of cells solve the recursion of an accepted scheme, and those of the whole are the
-- figures of the patterns.
use Prim.Native.Nat.{ℕ, zero, suc, ◌+◌, ◌-◌, ◌≤◌, ◌<◌}
use Rattle.std.proofs.Common.{arith, sym, ◌∙◌, inl, inr, length-append, drop_at, eqb-true, eq-eqb, ne_eqb, le-leb, leb-true}
use Rattle.std.specs.Prelude.{◌≡◌, ◌⊎◌, cond, length, get_or, drop, replicate, leb, eqb}
use Rattle.std.proofs.Math.Path.{refl, ap, ap₂, fun_ext}
use Rattle.std.proofs.Math.Bool.{Bool, true, false, not}
use mathlib.Core.List.Memᴰ
use mathlib.Core.List.{List, [], ◌∷◌, ◌++◌, map, map-map, map-id, Memᴰ}
use Rattle.std.proofs.lemmas.List.{length-map}
use Rattle.std.proofs.Math.ListN.{get_or-eq_default}
use Rattle.std.proofs.lemmas.Bool.{lt-leb, not-false}
use Rattle.word.specs.Ceilings.{LENGTH}
use Rattle.word.specs.Lists.{all, keep, each, row, one_to}
use Rattle.word.specs.Word.{avoids, within, is_perm, bump, perms, avoiders}
use Rattle.word.specs.Inversions.{inversions, pairs, inverted, figure_count, tally, figures}
use Rattle.word.specs.ListLaws.{same_test, below_or_not, all_fails, keep_out, map_same}
use Rattle.word.specs.Vocabulary.{factorial}
use Rattle.word.specs.PermLaws.{perms_are, perm_bounds, length_perms}
use Rattle.word.proofs.InversionLaws.{pairs_mono, inversions_at_most, inversions_map, inversions_first, tally_length}
use Rattle.cell.specs.Cell.{total, cell, without, deleted, merged, at_least, free}
use Rattle.cell.specs.Claim.{DeletionClaim}
use Rattle.cell.specs.Built.{val, lift, built}
use Rattle.cell.specs.Child.{slot, child_at, split}
use Rattle.cell.proofs.EachLaws.{keep_append, keep_map}
use Rattle.cell.proofs.BinomialLaws.{keep_shorter}
use Rattle.cell.proofs.SpacingWalk.{keep_same}
use Rattle.cell.proofs.BuiltLaws.{lift_keeps}
use Rattle.cell.proofs.BuiltWords.{lift_low}
use Rattle.cell.proofs.BuiltCells.{cell_built, cell_size}
use Rattle.cell.proofs.ChildLaws.{split_total, built_child, cell_zero}
use Rattle.cell.proofs.MergeLaws.{merged_total}
use Rattle.cell.proofs.FiniteTest.{Agrees}
use Rattle.cell.proofs.FigureLaws.{tally_at}
use Rattle.cell.proofs.Theorems.{agrees_test, agrees_of_claim}
use Rattle.forms.specs.SchemeList.{Does, expands, deletes, EntryList}
use Rattle.forms.specs.SchemeMemory.{scheme_in}
use Rattle.forms.specs.declared.memory.Scheme.{Scheme}
use Rattle.scheme.specs.WellFormed.{outside}
use Rattle.scheme.specs.PositionLaws.{positions_inside}
use Rattle.scheme.specs.ProperLaws.{proper}
use Rattle.verdict.specs.Truth.{WellFormed, RuleClaim, AllTrue}
use Rattle.verdict.specs.Size.{HIGHEST}
use Rattle.verdict.specs.ValueLaws.{at_most, factorial_at_most}
use Rattle.count_step.specs.Feed.{CellOf, covered, alone, children, map_feed, rule_feed, feed_of}
use Rattle.count_step.specs.Step.{LARGEST, capped}
use Rattle.count_step.specs.StepLaws.{below_cap}
use Rattle.count_plan.specs.Layout.{entry_at, prefix_at}
use Rattle.count_plan.specs.LayoutLaws.{prefix_length, entry_member}
use Rattle.count_walk.specs.Walk.{Solution}
use Rattle.count_figures.specs.Figures.{cell_figures, moved_at, spread_at, spread_over, added_figures, figures_makes, several}

-- Words by their number of inversions

inverted_append : (u v : List (List ℕ)) (q : ℕ) → inverted (u ++ v) q ≡ inverted u q + inverted v q
unfolding inverted
inverted_append u v q = ap length (keep_append (λ w. eqb (inversions w) q) u v) ∙
    length-append (keep (λ w. eqb (inversions w) q) u) (keep (λ w. eqb (inversions w) q) v)

-- no word has q inversions
inverted_none : (l : List (List ℕ)) (q : ℕ) → ((w : List ℕ) → Memᴰ w l → inversions w ≡ q → ⊥) → inverted l q ≡ 0
unfolding inverted
inverted_none [] q h = refl
inverted_none (w ∷ l) q h =
    rw (ne_eqb (inversions w) q (h w (Memᴰ.head refl))) (inverted_none l q (λ v m. h v (Memᴰ.tail m)))

-- where f w has q inversions just if w has r
inverted_as : (f : List ℕ → List ℕ) (l : List (List ℕ)) (q r : ℕ) →
    ((w : List ℕ) → Memᴰ w l → eqb (inversions (f w)) q ≡ eqb (inversions w) r) → inverted (map f l) q ≡ inverted l r
unfolding inverted
inverted_as f l q r h =
    ap length (keep_map (λ w. eqb (inversions w) q) f l) ∙ length-map (keep (λ w. eqb (inversions (f w)) q) l) f ∙
    ap length (keep_same (λ w. eqb (inversions (f w)) q) (λ w. eqb (inversions w) r) l h)

-- words that each get d inversions more
inverted_moved : (f : List ℕ → List ℕ) (d : ℕ) (l : List (List ℕ)) (q : ℕ) →
    ((w : List ℕ) → Memᴰ w l → inversions (f w) ≡ d + inversions w) →
    inverted (map f l) q ≡ cond (leb d q) (inverted l (q - d)) 0
inverted_moved f d l q h = go (below_or_not q d)
  where
    fewer : q < d → (v : List ℕ) → Memᴰ v (map f l) → inversions v ≡ q → ⊥
    fewer k v m e = let (w, i, o) = Memᴰ.of_map f l m in omega (arith, h w i, ap inversions o)

    same : d ≤ q → (w : List ℕ) → Memᴰ w l → eqb (inversions (f w)) q ≡ eqb (inversions w) (q - d)
    same k w m =
        let more : inversions (f w) ≡ d + inversions w = h w m in
        same_test (eqb (inversions (f w)) q) (eqb (inversions w) (q - d))
        (λ e. eq-eqb (inversions w) (q - d) (omega (arith, eqb-true (inversions (f w)) q e)))
        (λ e. eq-eqb (inversions (f w)) q (omega (arith, eqb-true (inversions w) (q - d) e)))

    go : (q < d) ⊎ (d ≤ q) → inverted (map f l) q ≡ cond (leb d q) (inverted l (q - d)) 0
    go (inl k) = rw (lt-leb d q k) (inverted_none (map f l) q (fewer k))
    go (inr k) = rw (le-leb d q k) (inverted_as f l q (q - d) (same k))

-- Figures

-- the figure at any place, where no word has more inversions than there are figures
tally_figure : (n : ℕ) (l : List (List ℕ)) (q : ℕ) → ((w : List ℕ) → Memᴰ w l → inversions w ≤ pairs n) →
    get_or (tally n l) q 0 ≡ inverted l q
unfolding tally figure_count
tally_figure n l q h = go (below_or_not q (figure_count n))
  where
    go : (q < figure_count n) ⊎ (figure_count n ≤ q) → get_or (tally n l) q 0 ≡ inverted l q
    go (inl k) = tally_at n l q k
    go (inr k) =
        get_or-eq_default (tally n l) 0 {n = q} (omega (arith, tally_length n l)) ∙
        sym (inverted_none l q (λ (w : List ℕ) (m : Memᴰ w l) (e : inversions w ≡ q). omega (arith, h w m)))

-- of no words
tally_none : (n : ℕ) → tally n [] ≡ replicate (figure_count n) 0
unfolding tally inverted
tally_none n = go 0 (figure_count n)
  where
    go : (a k : ℕ) → map (inverted []) (row a k) ≡ replicate k 0
    go a zero = refl
    go a (suc k) = ap (λ (l : List ℕ). 0 ∷ l) (go (suc a) k)

-- of words with as many inversions
tally_map : (n : ℕ) (f : List ℕ → List ℕ) (l : List (List ℕ)) → ((w : List ℕ) → Memᴰ w l → inversions (f w) ≡ inversions w) →
    tally n (map f l) ≡ tally n l
unfolding tally
tally_map n f l h =
    map_same (inverted (map f l)) (inverted l) (row 0 (figure_count n))
    (λ q m. inverted_as f l q q (λ w i. ap (λ k. eqb k q) (h w i)))

-- The rests of the members of a cell

abbrev rests : List (List ℕ) → List ℕ → List ℕ → ℕ → List (List ℕ)
rests P p g t = keep (λ σ. avoids P (built p g σ)) (perms t)

rests_are : (P : List (List ℕ)) (p g : List ℕ) (t : ℕ) {σ : List ℕ} → Memᴰ σ (rests P p g t) → (is_perm σ ≡ true) × (length σ ≡ t)
rests_are P p g t m = perms_are t (keep_out (λ σ. avoids P (built p g σ)) (perms t) m).0

-- the figure of a cell at a place
figure_of : (P : List (List ℕ)) (p g : List ℕ) (t q : ℕ) → total g ≡ t → get_or (cell_figures P p g) q 0 ≡ inverted (rests P p g t) q
unfolding cell_figures
figure_of P p g t q e =
    ap (λ (n : ℕ). get_or (tally n (rests P p g n)) q 0) e ∙ tally_figure t (rests P p g t) q bound
  where
    bound : (w : List ℕ) → Memᴰ w (rests P p g t) → inversions w ≤ pairs t
    bound w m = let (o, l) = rests_are P p g t m in rw (← l) (inversions_at_most w)

-- how many figures a cell has
figures_number : (P : List (List ℕ)) (p g : List ℕ) → length (cell_figures P p g) ≡ figure_count (total g)
unfolding cell_figures
figures_number P p g = tally_length (total g) (rests P p g (total g))

-- each is a number of 64 bits, at totals up to LENGTH
figure_fits : (P : List (List ℕ)) (p g : List ℕ) (q : ℕ) → total g ≤ LENGTH → inverted (rests P p g (total g)) q ≤ LARGEST
unfolding inverted
figure_fits P p g q h =
    let t : ℕ = total g in
    let l : List (List ℕ) = rests P p g t in
    let most : inverted l q ≤ factorial t =
    at_most (inverted l q) (length l) (factorial t) (keep_shorter (λ w. eqb (inversions w) q) l)
    (rw (← length_perms t) (keep_shorter (λ σ. avoids P (built p g σ)) (perms t))) in
    at_most (inverted l q) HIGHEST LARGEST (at_most (inverted l q) (factorial t) HIGHEST most (factorial_at_most t h))
    (leb-true HIGHEST LARGEST refl)

-- One step, by the cells that feed a cell

-- a cell without members
figures_none : (P : List (List ℕ)) (p g : List ℕ) → is_perm p ≡ true → length g ≡ suc (length p) → cell P p g ≡ [] →
    cell_figures P p g ≡ replicate (figure_count (total g)) 0
unfolding cell_figures
figures_none P p g e l none =
    ap (tally (total g)) (empty (rests P p g (total g)) (sym (cell_size P p g e l) ∙ ap length none)) ∙ tally_none (total g)
  where
    empty : (l : List (List ℕ)) → length l ≡ 0 → l ≡ []
    empty [] q = refl
    empty (w ∷ l) q = absurd (omega arith)

-- no entry follows the prefix: the one rest has no inversions
figures_alone : (P : List (List ℕ)) (p g : List ℕ) → is_perm p ≡ true → length g ≡ suc (length p) → total g ≡ 0 →
    cell_figures P p g ≡ cond (avoids P p) 1 0 ∷ []
unfolding cell_figures tally inverted inversions figure_count pairs perms
figures_alone P p g e l t =
    ap (λ (n : ℕ). tally n (rests P p g n)) t ∙
    ap (λ (k : ℕ). k ∷ []) (one (avoids P (built p g [])) ∙ ap (λ (n : ℕ). length (rests P p g n)) (sym t) ∙
    sym (cell_size P p g e l) ∙ ap length (cell_zero P p g e l t) ∙ size (avoids P p))
  where
    one : (b : Bool) → inverted (cond b ([] ∷ []) []) 0 ≡ length {A = List ℕ} (cond b ([] ∷ []) [])
    one true = refl
    one false = refl

    size : (b : Bool) → length (cond b (p ∷ []) []) ≡ cond b 1 0
    size true = refl
    size false = refl

-- the figures of one cell, moved up by nothing
spread_one : (x : List ℕ) (q : ℕ) → spread_at 0 (x ∷ []) q ≡ get_or x q 0
unfolding spread_at
spread_one x q = let e : q - 0 ≡ q = omega arith in rw (le-leb 0 q (omega arith), e) (omega arith)

-- sums that are the figures of a cell are below the cap
figures_capped : (P : List (List ℕ)) (p g : List ℕ) (f : ℕ → ℕ) → total g ≤ LENGTH →
    ((q : ℕ) → inverted (rests P p g (total g)) q ≡ f q) → cell_figures P p g ≡ map (λ q. capped (f q)) (row 0 (figure_count (total g)))
unfolding cell_figures tally
figures_capped P p g f small h =
    map_same (inverted (rests P p g (total g))) (λ q. capped (f q)) (row 0 (figure_count (total g)))
    (λ q m. sym (below_cap (inverted (rests P p g (total g)) q) (figure_fits P p g q small)) ∙ ap capped (h q))

-- a deletion leaves the rests as they are
figures_same : (P : List (List ℕ)) (p R g : List ℕ) → is_perm p ≡ true → all (within (length p)) R ≡ true →
    length g ≡ suc (length p) → Agrees P p (without R p) g → cell_figures P p g ≡ cell_figures P (deleted R p) (merged R p g)
unfolding cell_figures
figures_same P p R g e inside l agree =
    ap (tally (total g)) (keep_same (λ σ. avoids P (built p g σ)) (λ σ. avoids P (built (deleted R p) (merged R p g) σ))
    (perms (total g)) (agrees_test P p R e inside g l agree)) ∙
    ap (λ (t : ℕ). tally t (rests P (deleted R p) (merged R p g) t)) (sym (merged_total R p g))

-- so the figures are those of the target
figures_target : (P : List (List ℕ)) (p R g : List ℕ) → is_perm p ≡ true → all (within (length p)) R ≡ true →
    length g ≡ suc (length p) → total g ≤ LENGTH → Agrees P p (without R p) g →
    cell_figures P p g ≡ spread_over (total g) (cell_figures P (deleted R p) (merged R p g) ∷ [])
figures_target P p R g e inside l small agree =
    figures_capped P p g (spread_at 0 (cell_figures P p g ∷ [])) small
    (λ q. sym (spread_one (cell_figures P p g) q ∙ figure_of P p g (total g) q refl)) ∙
    ap (λ (x : List ℕ). spread_over (total g) (x ∷ [])) (figures_same P p R g e inside l agree)

-- the cells of next entries
module _ (P : List (List ℕ)) (p g : List ℕ) (n : ℕ) (t : total g ≡ suc n) (q : ℕ) where
  -- the rests whose first entry is s
  abbrev block : ℕ → List (List ℕ)
  block s = map (λ τ. s ∷ map (bump s) τ) (perms n)

  -- those of one next entry
  child_figure : (d : ℕ) → d ≤ n →
      inverted (keep (λ σ. avoids P (built p g σ)) (block (suc d))) q ≡
      moved_at d (cell_figures P (child_at p (slot g (suc d))) (split g (suc d))) q
  child_figure d h =
      let s : ℕ = suc d in
      let low : s ≤ total g = omega arith in
      let c : List ℕ = child_at p (slot g s) in
      let less : total (split g s) ≡ n = omega (arith, split_total g s (omega arith) low) in
      ap (λ (l : List (List ℕ)). inverted l q) (keep_map (λ σ. avoids P (built p g σ)) (λ τ. s ∷ map (bump s) τ) (perms n) ∙
      ap (λ (f : List ℕ → List ℕ). map (λ τ. s ∷ map (bump s) τ) (keep (λ τ. avoids P (f τ)) (perms n)))
      (fun_ext (λ τ. built_child p g s τ (omega arith) low))) ∙
      inverted_moved (λ τ. s ∷ map (bump s) τ) d (rests P c (split g s) n) q more ∙
      ap (λ (k : ℕ). cond (leb d q) k 0) (sym (figure_of P c (split g s) n (q - d) less))
    where
      more : (τ : List ℕ) → Memᴰ τ (rests P (child_at p (slot g (suc d))) (split g (suc d)) n) →
          inversions (suc d ∷ map (bump (suc d)) τ) ≡ d + inversions τ
      more τ m =
          let (o, k) = rests_are P (child_at p (slot g (suc d))) (split g (suc d)) n m in
          omega (arith, inversions_first (suc d) n τ o k (omega arith) (omega arith))

  -- those of m next entries from the one behind the d-th on
  spread_figure : (d m : ℕ) → d + m ≤ suc n →
      inverted (keep (λ σ. avoids P (built p g σ)) (each block (row (suc d) m))) q ≡
      spread_at d (map (λ s. cell_figures P (child_at p (slot g s)) (split g s)) (row (suc d) m)) q
  unfolding inverted spread_at
  spread_figure d zero h = refl
  spread_figure d (suc m) h =
      let A : List ℕ → Bool = λ σ. avoids P (built p g σ) in
      ap (λ (l : List (List ℕ)). inverted l q) (keep_append A (block (suc d)) (each block (row (suc (suc d)) m))) ∙
      inverted_append (keep A (block (suc d))) (keep A (each block (row (suc (suc d)) m))) q ∙
      ap₂ ◌+◌ (child_figure d (omega arith)) (spread_figure (suc d) m (omega arith))

-- an entry follows: each figure is the sum of those of the next entries
figures_children : (P : List (List ℕ)) (p g : List ℕ) (n : ℕ) → total g ≡ suc n → total g ≤ LENGTH →
    cell_figures P p g ≡ spread_over (total g) (map (λ s. cell_figures P (child_at p (slot g s)) (split g s)) (one_to (total g)))
unfolding perms
figures_children P p g n t small =
    figures_capped P p g (spread_at 0 (map (λ s. cell_figures P (child_at p (slot g s)) (split g s)) (one_to (total g)))) small
    (λ q. ap (λ (m : ℕ). inverted (rests P p g m) q) t ∙ spread_figure P p g n t q 0 (suc n) (omega arith) ∙
    ap (λ (m : ℕ). spread_at 0 (map (λ s. cell_figures P (child_at p (slot g s)) (split g s)) (one_to m)) q) (sym t))

-- The figures at an entry of an accepted scheme

module _ (P : List (List ℕ)) (E : List EntryList) (formed : WellFormed P E) (truth : AllTrue P E) (e : EntryList) (m : Memᴰ e E)
    (g : List ℕ) (wide : length g ≡ suc (length e.prefix)) (small : total g ≤ LENGTH) where
  -- the figure at total 0
  abbrev one : ℕ
  one = cond (avoids P e.prefix) 1 0

  -- the figures of a cell that feeds another
  abbrev of_cell : CellOf → List ℕ
  of_cell f = cell_figures P f.prefix f.spacing

  perm : is_perm e.prefix ≡ true
  perm = ((proper E formed.scheme).each e m).perm

  -- a spacing at or above a listed vector
  figures_covered : free e.gaps g ≡ false → cell_figures P e.prefix g ≡ added_figures (total g) one covered
  unfolding free
  figures_covered f =
      let (b, i, n) = all_fails (λ (x : List ℕ). not (at_least g x)) e.gaps f in
      figures_none P e.prefix g perm wide ((truth e m).gaps b i g (not-false (at_least g b) n))

  -- a spacing that the rule speaks of
  figures_ruled : free e.gaps g ≡ true → (rule : Does) → e.rule ≡ rule →
      cell_figures P e.prefix g ≡ added_figures (total g) one (map_feed of_cell (rule_feed e.prefix g rule))
  figures_ruled f expands r = go (total g) refl
    where
      next : ℕ → CellOf
      next s = record { prefix = child_at e.prefix (slot g s); spacing = split g s }

      made : Bool → List ℕ
      made b = added_figures (total g) one (map_feed of_cell (cond b alone (children (map next (one_to (total g))))))

      go : (t : ℕ) → total g ≡ t → cell_figures P e.prefix g ≡ made (eqb (total g) 0)
      go zero t = figures_alone P e.prefix g perm wide t ∙ ap made (sym (eq-eqb (total g) 0 t))
      go (suc n) t =
          figures_children P e.prefix g n t small ∙ ap (spread_over (total g)) (sym (map-map of_cell next (one_to (total g)))) ∙
          ap made (sym (ne_eqb (total g) 0 (λ (z : total g ≡ 0). omega arith)))
  figures_ruled f (deletes R) r =
      let inside = positions_inside (length e.prefix) R
      (sym (ap (outside (length e.prefix)) r) ∙ ((proper E formed.scheme).each e m).inside) in
      let claim : DeletionClaim P e.prefix e.gaps R = claimed e.rule R r (truth e m).rule in
      figures_target P e.prefix R g perm inside wide small
      (agrees_of_claim P e.prefix R perm inside e.gaps claim g wide f)
    where
      claimed : (d : Does) (R : List ℕ) → d ≡ deletes R → RuleClaim P e.prefix e.gaps d →
          DeletionClaim P e.prefix e.gaps R
      claimed d R q c = rw q at c

  -- the figures are made from those of the cells that feed the cell
  figures_fed : cell_figures P e.prefix g ≡ figures_makes P e g (map_feed of_cell (feed_of e g))
  unfolding feed_of
  figures_fed = go (free e.gaps g) refl
    where
      go : (b : Bool) → free e.gaps g ≡ b → cell_figures P e.prefix g ≡
          added_figures (total g) one (map_feed of_cell (cond b (rule_feed e.prefix g e.rule) covered))
      go true f = figures_ruled f e.rule refl
      go false f = figures_covered f

-- The figures of cells solve the recursion of an accepted scheme.
pub figures_solution : (P : List (List ℕ)) (n : ℕ) (s : Scheme) → n ≤ LENGTH → WellFormed P (scheme_in s) → AllTrue P (scheme_in s) →
    Solution (several (figure_count n)) (figures_makes P) n s (cell_figures P)
unfolding figure_count
figures_solution P n s small formed truth =
    record {
      makes = λ d inside g wide low.
          figures_fed P (scheme_in s) formed truth (entry_at s d) (entry_member s d inside) g (wide ∙ ap suc (sym (prefix_length s d)))
          (omega arith);
      fits = λ d inside g wide low. (
        figures_number P (prefix_at s d) g,
        omega (arith, pairs_mono (total g) n (omega arith)),
      );
    }

-- The cell of ε with spacing (n) has the figures of the patterns for n.
pub root_figures_lem : (P : List (List ℕ)) (n : ℕ) → cell_figures P [] (n ∷ []) ≡ figures P n
unfolding cell_figures figures avoiders total built
root_figures_lem P n =
    ap (λ (t : ℕ). tally t (rests P [] (n ∷ []) t)) whole ∙
    ap (tally n) (keep_same (λ σ. avoids P (built [] (n ∷ []) σ)) (avoids P) (perms n) (λ σ i. ap (avoids P) (rest σ i)))
  where
    whole : total (n ∷ []) ≡ n
    whole = omega arith

    rest : (σ : List ℕ) → Memᴰ σ (perms n) → built [] (n ∷ []) σ ≡ σ
    rest σ i =
        let (perm, len) = perms_are n i in
        map_same (lift (n ∷ [])) (λ x. x) σ (λ x k. let (low, high) = perm_bounds σ perm k in lift_low n [] x (omega arith)) ∙ map-id σ

-- The figures of a cell are those of its members by the inversions among the entries behind the
-- prefix.
pub cell_figures_lem : (P : List (List ℕ)) (p g : List ℕ) → is_perm p ≡ true → length g ≡ suc (length p) →
    cell_figures P p g ≡ tally (total g) (map (drop (length p)) (cell P p g))
unfolding cell_figures built
cell_figures_lem P p g e l =
    sym (ap (λ (c : List (List ℕ)). tally (total g) (map (drop (length p)) c)) (cell_built P p g e l) ∙
    ap (tally (total g)) (map-map (drop (length p)) (built p g) (rests P p g (total g))) ∙
    tally_map (total g) (λ σ. drop (length p) (built p g σ)) (rests P p g (total g)) (λ σ m. behind σ))
  where
    behind : (σ : List ℕ) → inversions (drop (length p) (built p g σ)) ≡ inversions σ
    behind σ = ap inversions (drop_at (map (val g) p) (map (lift g) σ) (length p) (length-map p (val g))) ∙
        inversions_map (lift g) (lift_keeps g) σ
