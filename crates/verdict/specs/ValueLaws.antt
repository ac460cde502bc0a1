-- The theorem on values: in a well-formed scheme whose claims are all true, the value at each
-- listed prefix and spacing is the size of the cell.
use Prim.Native.Nat.{ℕ, zero, suc, ◌+◌, ◌*◌, ◌-◌, ◌≤◌, ◌<◌}
use Rattle.std.proofs.Common.{add-zero, suc-mul, ◌∙◌, subst, eq-eqb, ne_eqb, ltb-true}
use native.Mathlib.Omega.{arith}
use Rattle.std.specs.Prelude.{◌≡◌, Bool, ◌||◌, eqb}
use Rattle.std.proofs.Math.Path.{refl, sym, ap}
use Rattle.std.proofs.Math.Bool.{true, false, not, cond}
use mathlib.Core.List.{List, [], ◌∷◌, map, map-id, Memᴰ}
use Rattle.std.proofs.Math.Option.{some}
use Rattle.std.proofs.Math.ListN.{length}
use Rattle.std.proofs.lemmas.Bool.{not-false}
use Rattle.word.specs.Ceilings.{LENGTH}
use Rattle.word.specs.Lists.{keep, one_to}
use Rattle.word.specs.Word.{avoids, is_perm, perms, avoiders}
use Rattle.word.specs.ListLaws.{true_not_false, all_fails, map_same, row_out}
use Rattle.word.specs.Vocabulary.{factorial}
use Rattle.word.specs.PermLaws.{perms_are, perm_bounds}
use Rattle.cell.specs.Basis.{same}
use Rattle.cell.specs.Cell.{total, cell, deleted, merged, free, at_least}
use Rattle.cell.specs.Claim.{DeletionClaim}
use Rattle.cell.specs.Child.{slot, child_at, split}
use Rattle.cell.specs.Built.{built, lift}
use Rattle.cell.proofs.BuiltWords.{lift_low}
use Rattle.cell.proofs.SpacingWalk.{keep_same}
use Rattle.cell.proofs.BuiltCells.{same_out, cell_size, cell_at_most}
use Rattle.cell.proofs.ChildLaws.{slot_bounds, split_length, split_total, child_length, children_all, size_children, cell_zero}
use Rattle.cell.proofs.MergeLaws.{merged_length, merged_total}
use Rattle.cell.proofs.Theorems.{agrees_of_claim, sizes_of_agrees}
use Rattle.forms.specs.SchemeList.{Does, expands, deletes, EntryList}
use Rattle.scheme.specs.WellFormed.{listed, outside, lacks_child, lacks_target, prefixes}
use Rattle.scheme.specs.PositionLaws.{positions_inside, positions_some, deleted_size}
use Rattle.verdict.specs.Truth.{WellFormed, RuleClaim, AllTrue}
use Rattle.scheme.specs.FindingLaws.{none_out}
use Rattle.scheme.specs.Proper.{Proper}
use Rattle.scheme.specs.ProperLaws.{proper as left}
use Rattle.verdict.specs.Size.{size, Listed, measure, HIGHEST, VALUES}
use Rattle.verdict.specs.Value.{entry_for, rule_value, entry_value, value, count_of}

-- the entry of a listed prefix
pub entry_found : (E : List EntryList) (p : List ℕ) → Listed E p →
    (e : EntryList) × Memᴰ e E × (entry_for E p ≡ some e) × (e.prefix ≡ p)
unfolding entry_for
entry_found [] p h = absurd (true_not_false (sym h))
entry_found (d ∷ E) p h = go (same p d.prefix) refl h (entry_found E p)
  where
    go : (b : Bool) → same p d.prefix ≡ b → b || listed (map (λ (e : EntryList). e.prefix) E) p ≡ true →
        (Listed E p → (e : EntryList) × Memᴰ e E × (entry_for E p ≡ some e) × (e.prefix ≡ p)) →
        (e : EntryList) × Memᴰ e (d ∷ E) × (entry_for (d ∷ E) p ≡ some e) × (e.prefix ≡ p)
    go true q h ih = (d, Memᴰ.head refl, rw q refl, sym (same_out p d.prefix q))
    go false q h ih = let (e, m, f, s) = ih h in (e, Memᴰ.tail m, rw q f, s)

-- One step of the recursion, where two functions agree on the listed prefixes of a smaller measure

module _ (P : List (List ℕ)) (E : List EntryList) (proper : Proper E) where
  -- the children of an expanding entry are listed
  pub child_listed : (e : EntryList) → Memᴰ e E → e.rule ≡ expands → (a : ℕ) → 1 ≤ a →
      a ≤ suc (length e.prefix) → Listed E (child_at e.prefix a)
  child_listed e m r a low high =
      not-false (listed (prefixes E) (child_at e.prefix a))
      (none_out (λ (q : List ℕ). not (listed (prefixes E) q)) (sym (ap (lacks_child (prefixes E) e.prefix) r) ∙ proper.child e m)
      (children_all e.prefix a (proper.each e m).perm low high))

  -- the target of a deleting entry is listed
  pub target_listed : (e : EntryList) → Memᴰ e E → (R : List ℕ) → e.rule ≡ deletes R → Listed E (deleted R e.prefix)
  target_listed e m R q =
      not-false (listed (prefixes E) (deleted R e.prefix))
      (sym (ap (lacks_target (prefixes E) e.prefix) q) ∙ proper.target e m)

  -- one step at an entry of E
  module _ (v w : List ℕ → List ℕ → ℕ) (e : EntryList) (m : Memᴰ e E) (g : List ℕ) (wide : length g ≡ suc (length e.prefix))
      (agree : (q h : List ℕ) → Listed E q → length h ≡ suc (length q) → measure q h < measure e.prefix g → v q h ≡ w q h) where
    rule_agrees : (rule : Does) → e.rule ≡ rule → rule_value v P e.prefix g rule ≡ rule_value w P e.prefix g rule
    unfolding rule_value
    rule_agrees expands r = ap (λ n. cond (eqb (total g) 0) (cond (avoids P e.prefix) 1 0) n)
        (ap total (map_same (λ s. v (child_at e.prefix (slot g s)) (split g s))
        (λ s. w (child_at e.prefix (slot g s)) (split g s)) (one_to (total g)) child))
      where
        child : (s : ℕ) → Memᴰ s (one_to (total g)) → v (child_at e.prefix (slot g s)) (split g s) ≡
            w (child_at e.prefix (slot g s)) (split g s)
        child s i =
            let (low, high) = row_out 1 (total g) i in
            let (a, b) = slot_bounds g s low (omega arith) in
            let l = child_length e.prefix (slot g s) in
            let n = split_length g s low (omega arith) in
            let t = split_total g s low (omega arith) in
            agree (child_at e.prefix (slot g s)) (split g s) (child_listed e m r (slot g s) a (omega arith)) (omega arith) (omega arith)
    rule_agrees (deletes R) r =
        let q = proper.each e m in
        let inside = sym (ap (outside (length e.prefix)) r) ∙ q.inside in
        let some = positions_some (length e.prefix) R inside in
        let d = deleted_size R e.prefix inside in
        let t = merged_total R e.prefix g in
        agree (deleted R e.prefix) (merged R e.prefix g) (target_listed e m R r)
        (merged_length R e.prefix g q.perm wide (positions_inside (length e.prefix) R inside)) (omega arith)

    pub entry_agrees : entry_value v P (some e) g ≡ entry_value w P (some e) g
    unfolding entry_value
    entry_agrees = ap (λ n. cond (free e.gaps g) n 0) (rule_agrees e.rule refl)

-- Factorials grow, and that of LENGTH is a value.

factorial_step : (n : ℕ) → factorial n ≤ factorial (suc n)
unfolding factorial
factorial_step n = omega (arith, suc-mul n (factorial n))

factorial_grows : (n d : ℕ) → factorial n ≤ factorial (n + d)
factorial_grows n zero = rw (add-zero n) (omega arith)
factorial_grows n (suc d) = let e : n + suc d ≡ suc (n + d) = omega arith in
    rw e (omega (arith, factorial_grows n d, factorial_step (n + d)))

-- steps between numbers, so that no law has to count with the largest ones
pub at_most : (a b c : ℕ) → a ≤ b → b ≤ c → a ≤ c
at_most a b c h k = omega arith

pub stays_below : (a b c : ℕ) → a ≤ b → b < c → a < c
stays_below a b c h k = omega arith

pub factorial_at_most : (n : ℕ) → n ≤ LENGTH → factorial n ≤ HIGHEST
unfolding factorial
factorial_at_most n h =
    let e : n + (LENGTH - n) ≡ LENGTH = omega arith in
    let t : factorial LENGTH ≡ HIGHEST = refl in
    subst (λ (m : ℕ). factorial n ≤ m) (ap factorial e ∙ t) (factorial_grows n (LENGTH - n))

pub highest_fits : HIGHEST < VALUES
highest_fits = ltb-true HIGHEST VALUES refl

pub factorial_fits : (n : ℕ) → n ≤ LENGTH → factorial n < VALUES
factorial_fits n h = stays_below (factorial n) HIGHEST VALUES (factorial_at_most n h) highest_fits

-- the size of a cell of at most LENGTH further entries is a value
pub size_fits : (P : List (List ℕ)) (p g : List ℕ) → total g ≤ LENGTH → size P p g < VALUES
unfolding size
size_fits P p g h = stays_below (size P p g) (factorial (total g)) VALUES (cell_at_most P p g) (factorial_fits (total g) h)

-- Sizes solve the recursion

module _ (P : List (List ℕ)) (E : List EntryList) (formed : WellFormed P E) (truth : AllTrue P E) where
  module _ (e : EntryList) (m : Memᴰ e E) (g : List ℕ) (wide : length g ≡ suc (length e.prefix)) where
    -- a spacing at or above a listed vector
    covered : free e.gaps g ≡ false → size P e.prefix g ≡ 0
    unfolding free size
    covered f =
        let (b, i, n) = all_fails (λ (x : List ℕ). not (at_least g x)) e.gaps f in
        ap length ((truth e m).gaps b i g (not-false (at_least g b) n))

    -- a spacing that the rule speaks of
    spoken : free e.gaps g ≡ true → (rule : Does) → e.rule ≡ rule → size P e.prefix g ≡ rule_value (size P) P e.prefix g rule
    unfolding rule_value size
    spoken f expands r = go (total g) refl
      where
        perm : is_perm e.prefix ≡ true
        perm = ((left E formed.scheme).each e m).perm

        one : (b : Bool) → length (cond b (e.prefix ∷ []) []) ≡ cond b 1 0
        one true = refl
        one false = refl

        go : (t : ℕ) → total g ≡ t → length (cell P e.prefix g) ≡
            cond (eqb (total g) 0) (cond (avoids P e.prefix) 1 0)
            (total (map (λ s. length (cell P (child_at e.prefix (slot g s)) (split g s))) (one_to (total g))))
        go zero t = ap length (cell_zero P e.prefix g perm wide t) ∙ one (avoids P e.prefix) ∙
            ap (λ b. cond b (cond (avoids P e.prefix) 1 0)
            (total (map (λ s. length (cell P (child_at e.prefix (slot g s)) (split g s))) (one_to (total g)))))
            (sym (eq-eqb (total g) 0 t))
        go (suc n) t = size_children P e.prefix g n perm wide t ∙
            ap (λ b. cond b (cond (avoids P e.prefix) 1 0)
            (total (map (λ s. length (cell P (child_at e.prefix (slot g s)) (split g s))) (one_to (total g)))))
            (sym (ne_eqb (total g) 0 (λ (z : total g ≡ 0). omega arith)))
    spoken f (deletes R) r =
        let q = (left E formed.scheme).each e m in
        let inside = positions_inside (length e.prefix) R (sym (ap (outside (length e.prefix)) r) ∙ q.inside) in
        let claim : DeletionClaim P e.prefix e.gaps R = cast_rule e.rule R r (truth e m).rule in
        sizes_of_agrees P e.prefix R q.perm inside g wide
        (agrees_of_claim P e.prefix R q.perm inside e.gaps claim g wide f)
      where
        cast_rule : (d : Does) (R : List ℕ) → d ≡ deletes R → RuleClaim P e.prefix e.gaps d →
            DeletionClaim P e.prefix e.gaps R
        cast_rule d R q c = rw q at c

    -- at an entry of the scheme
    pub entry_solves : size P e.prefix g ≡ entry_value (size P) P (some e) g
    unfolding entry_value
    entry_solves = go (free e.gaps g) refl
      where
        go : (b : Bool) → free e.gaps g ≡ b → size P e.prefix g ≡
            cond (free e.gaps g) (rule_value (size P) P e.prefix g e.rule) 0
        go true f = rw f (spoken f e.rule refl)
        go false f = rw f (covered f)

  -- The sizes solve the recursion at each listed prefix.
  pub sizes_solve : (p : List ℕ) → Listed E p → (g : List ℕ) → length g ≡ suc (length p) → size P p g ≡
      entry_value (size P) P (entry_for E p) g
  sizes_solve p l g wide =
      let (e, m, f, s) = entry_found E p l in
      rw f (go e m s)
    where
      go : (e : EntryList) → Memᴰ e E → e.prefix ≡ p → size P p g ≡ entry_value (size P) P (some e) g
      go e m s = ap (λ q. size P q g) (sym s) ∙ entry_solves e m g (wide ∙ ap (λ (q : List ℕ). suc (length q)) (sym s))

  -- The value at a listed prefix and a spacing is the size of the cell.
  pub value_size : (f : ℕ) (p g : List ℕ) → Listed E p → length g ≡ suc (length p) → measure p g < f → value f P E p g ≡ length (cell P p g)
  unfolding value size
  value_size zero p g l wide h = absurd (omega arith)
  value_size (suc f) p g l wide h =
      let (e, m, o, s) = entry_found E p l in
      go (λ (q i : List ℕ) (k : Listed E q) (w : length i ≡ suc (length q)) (less : measure q i < f). value_size f q i k w less) e m o s ∙
      sym (sizes_solve p l g wide)
    where
      go : ((q i : List ℕ) → Listed E q → length i ≡ suc (length q) → measure q i < f → value f P E q i ≡ length (cell P q i)) →
          (e : EntryList) → Memᴰ e E → entry_for E p ≡ some e → e.prefix ≡ p →
          entry_value (value f P E) P (entry_for E p) g ≡ entry_value (size P) P (entry_for E p) g
      go ih e m o s = rw o
          (entry_agrees P E (left E formed.scheme) (value f P E) (size P) e m g (wide ∙ ap (λ (q : List ℕ). suc (length q)) (sym s))
          (λ (q i : List ℕ) (k : Listed E q) (w : length i ≡ suc (length q)) (less : measure q i < measure e.prefix g).
          ih q i k w (omega (arith, less, h, ap length s))))

  -- no value exceeds the factorial of the total
  pub value_at_most : (f : ℕ) (p g : List ℕ) → Listed E p → length g ≡ suc (length p) → measure p g < f →
      value f P E p g ≤ factorial (total g)
  value_at_most f p g l wide h = omega (arith, value_size f p g l wide h, cell_at_most P p g)

  -- "No value exceeds 20! = 2432902008176640000" (01): at every listed prefix, for every spacing of
  -- a length that is counted
  pub value_at_most_twenty_factorial : (f : ℕ) (p g : List ℕ) → Listed E p → length g ≡ suc (length p) →
      measure p g < f → length p + total g ≤ LENGTH →
      value f P E p g ≤ HIGHEST
  value_at_most_twenty_factorial f p g l wide h few =
      at_most (value f P E p g) (factorial (total g)) HIGHEST (value_at_most f p g l wide h) (factorial_at_most (total g) (omega arith))

  -- The count for n is the size of the cell of ε with spacing (n).
  pub count_size : (n : ℕ) → count_of P E n ≡ size P [] (n ∷ [])
  unfolding count_of size total
  count_size n = value_size (suc (8 * n)) [] (n ∷ []) (left E formed.scheme).root refl (omega arith)

  -- The count for n is the number of avoiders of length n.
  pub count_avoiders : (n : ℕ) → count_of P E n ≡ length (avoiders P n)
  unfolding avoiders total built is_perm size
  count_avoiders n =
      count_size n ∙ cell_size P [] (n ∷ []) refl refl ∙
      ap length (ap (λ (t : ℕ). keep (λ σ. avoids P (built [] (n ∷ []) σ)) (perms t)) whole ∙
      keep_same (λ σ. avoids P (built [] (n ∷ []) σ)) (avoids P) (perms n) (λ σ i. ap (avoids P) (rest σ i)))
    where
      whole : total (n ∷ []) ≡ n
      whole = omega arith

      rest : (σ : List ℕ) → Memᴰ σ (perms n) → built [] (n ∷ []) σ ≡ σ
      rest σ i =
          let (perm, len) = perms_are n i in
          map_same (lift (n ∷ [])) (λ x. x) σ (λ x k. let (low, high) = perm_bounds σ perm k in lift_low n [] x (omega arith)) ∙ map-id σ
