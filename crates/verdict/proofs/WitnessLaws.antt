-- Laws of the witness: sizes differ exactly if a word is lost, the candidate search shows the word
-- of the definition, and what is shown is lost and the least.
use Rattle.std.specs.Prelude.{Err, ℕ, zero, suc, ◌+◌, ◌-◌, ◌≤◌, ◌<◌, ◌≡◌, ◌↔◌, ◌⊎◌, Bool, cond, ◌&&◌, length, take, drop}
use Rattle.std.specs.Prelude.{replicate, ltb, eqb}
use Rattle.std.proofs.Common.{arith, ap₂, ◌∙◌, inl, inr, length-take, length-append}
use Rattle.std.proofs.Math.Path.{refl, sym, ap}
use Rattle.std.proofs.Math.Bool.{true, false, not}
use mathlib.Core.List.{List, [], ◌∷◌, ◌++◌, map, Memᴰ}
use Rattle.std.proofs.Math.Option.{Option, none, some}
use Rattle.std.proofs.lemmas.List.{length-replicate}
use Rattle.word.specs.Lists.{any, all, keep, first}
use Rattle.word.specs.Word.{avoids, reduce, within, distinct, is_perm, perms, before}
use Rattle.word.specs.ListLaws.{true_not_false, below_or_not, and_left, and_right, and_in, any_out, any_in, first_some}
use Rattle.word.specs.ListLaws.{keep_out, keep_in}
use Rattle.word.specs.PermLaws.{perms_are, perms_all, perm_distinct, length_reduce}
use Rattle.word.specs.CopyLaws.{found, first_found, before_larger, first_least}
use Rattle.word.specs.AscendLaws.{ascends, before_first, perms_ascend}
use Rattle.word.specs.FirstLaws.{first_agree, none_first, first_is, first_ordered}
use Rattle.word.specs.FirstLaws.{ascends_behind, ascends_in_order}
use Rattle.word.specs.Earliest.{Earliest, positions_of}
use Rattle.word.proofs.EarliestLaws.{fails_stands, earliest_is}
use Rattle.word.specs.Ceilings.{PAGE, HALF}
use Rattle.cell.specs.Basis.{same, basis}
use Rattle.cell.specs.Cell.{total, spacing, cell, without, deleted, merged, free, compared_to}
use Rattle.cell.specs.Built.{built}
use Rattle.cell.specs.Candidate.{violates, violated, violated_first, rest_of, lost_words, least_of, least_at, least_candidate}
use Rattle.cell.proofs.SpacingWalk.{compared_are, compared_all}
use Rattle.cell.proofs.BuiltWords.{built_length, built_perm, built_prefix, built_reduces, built_spacing, rest_perm, rest_length, built_onto}
use Rattle.cell.proofs.BuiltCells.{same_out, same_in, cell_are}
use Rattle.cell.proofs.FiniteTest.{Agrees}
use Rattle.cell.proofs.DeletionLaws.{built_deleted_avoids}
use Rattle.cell.proofs.Theorems.{shorter_in, removed, agrees_of_sizes, sizes_of_agrees}
use Rattle.cell.proofs.CandidateLaws.{violates_out, candidates_of_agrees}
use Rattle.cell.proofs.LeastLaws.{CleanBelow, agrees_first, lost_candidate, least_is}
use Rattle.cell.proofs.ListedLaws.{totalled, compared_ascend, spacing_total}
use Rattle.cell.proofs.BasisLaws.{basis_in, basis_avoids, basis_agrees}
use Rattle.word.specs.declared.refusal.Refusal.TheVariants.{LiveGap, Irreversible}
use Rattle.forms.specs.SchemeList.{EntryList}
use Rattle.word.specs.Refusal.{refused_at}
use Rattle.scheme.specs.FindingLaws.{same_failure}
use Rattle.scheme.specs.WellFormed.{listed}
use Rattle.verdict.specs.Verdict.{sizes_differ}
use Rattle.verdict.specs.VerdictLaws.{sizes_same, same_sizes}
use Rattle.verdict.specs.Witness.{lost, shown_spacing_under, shown_at, shown_word_under, half, witness_bytes}
use Rattle.verdict.specs.Witness.{indexed_entry, entry_word, word_shown, IsLost, earlier, WitnessesUnder}

-- what stands in a list is listed
listed_out : (l : List (List ℕ)) (x : List ℕ) → listed l x ≡ true → Memᴰ x l
listed_out l x h = let (y, m, e) = any_out (same x) l h in mathlib.Core.List.Memᴰ.cast (same_out x y e) m

listed_in : (l : List (List ℕ)) (x : List ℕ) → Memᴰ x l → listed l x ≡ true
listed_in l x m = any_in (same x) m (same_in x x refl)

-- the test for a lost word says what the statement says

module _ (P : List (List ℕ)) (p R g w : List ℕ) where
  prefixed : Bool
  prefixed = same (reduce (take (length p) w)) p

  spread : Bool
  spread = same (spacing (length w) (take (length p) w)) g

  member : Bool
  member = listed (cell P (deleted R p) (merged R p g)) (deleted R w)

  pub lost_out : Memᴰ w (perms (length p + total g)) → lost P p R g w ≡ true → IsLost P p R g w
  unfolding lost prefixed spread member
  lost_out m e =
      let front : prefixed && spread ≡ true = and_left (prefixed && spread) (member && not (avoids P w)) e in
      let back : member && not (avoids P w) ≡ true = and_right (prefixed && spread) (member && not (avoids P w)) e in
      record {
        perm = (perms_are (length p + total g) m).0;
        prefix = same_out (reduce (take (length p) w)) p (and_left prefixed spread front);
        spaced = same_out (spacing (length w) (take (length p) w)) g (and_right prefixed spread front);
        shorter = listed_out (cell P (deleted R p) (merged R p g)) (deleted R w) (and_left member (not (avoids P w)) back);
        contains_one = fails (avoids P w) (and_right member (not (avoids P w)) back);
      }
    where
      fails : (b : Bool) → not b ≡ true → b ≡ false
      fails true h = sym h
      fails false h = refl

  -- its length is that of the prefix and the total of the spacing
  lost_length : IsLost P p R g w → length w ≡ length p + total g
  lost_length i = go (below_or_not (length w) (length p))
    where
      prefix_length : length (take (length p) w) ≡ length p
      prefix_length = sym (length_reduce (take (length p) w)) ∙ ap length i.prefix

      go : (length w < length p) ⊎ (length p ≤ length w) → length w ≡ length p + total g
      go (inl l) = absurd (omega (arith, prefix_length, length-take (length p) w))
      go (inr l) = omega (arith, spacing_total (length p) w i.perm l, ap total i.spaced)

  pub lost_in : IsLost P p R g w → Memᴰ w (perms (length p + total g)) × (lost P p R g w ≡ true)
  unfolding lost prefixed spread member
  lost_in i = (
    perms_all (length p + total g) w i.perm (lost_length i),
    and_in (prefixed && spread) (member && not (avoids P w))
        (and_in prefixed spread (same_in (reduce (take (length p) w)) p i.prefix)
        (same_in (spacing (length w) (take (length p) w)) g i.spaced))
        (and_in member (not (avoids P w))
        (listed_in (cell P (deleted R p) (merged R p g)) (deleted R w) i.shorter) (ap not i.contains_one)),
  )

-- a rest that is lost: it avoids without the deleted positions, and not with them
pub record LostRest (P : List (List ℕ)) (p R g σ : List ℕ) : Type 0 where
  pub perm : is_perm σ ≡ true
  pub size : length σ ≡ total g
  pub avoiding : avoids P (built (without R p) g σ) ≡ true
  pub fails : avoids P (built p g σ) ≡ false

module _ (P : List (List ℕ)) (p R : List ℕ) (perm : is_perm p ≡ true) (inside : all (within (length p)) R ≡ true) where
  module _ (g : List ℕ) (size : length g ≡ suc (length p)) where
    -- a lost word is built from a lost rest ..
    pub rest_of_lost : (w : List ℕ) → IsLost P p R g w → (σ : List ℕ) × (w ≡ built p g σ) × LostRest P p R g σ
    rest_of_lost w i =
        let n = lost_length P p R g w i in
        go (reduce (drop (length p) w)) (built_onto p g w perm i.perm n size i.prefix i.spaced)
        (rest_perm p g w perm i.perm n size i.prefix i.spaced)
        (rest_length p g w perm i.perm n size i.prefix i.spaced)
      where
        go : (σ : List ℕ) → w ≡ built p g σ → is_perm σ ≡ true → length σ ≡ total g →
            (σ : List ℕ) × (w ≡ built p g σ) × LostRest P p R g σ
        go σ e sp sl = (
          σ,
          e,
          record {
            perm = sp;
            size = sl;
            avoiding =
                sym (built_deleted_avoids R p g perm size inside σ P) ∙
                ap (avoids P) (sym (removed P p R perm inside g size σ (perms_all (total g) σ sp sl)) ∙ ap (deleted R) (sym e)) ∙
                (cell_are P (deleted R p) (merged R p g) i.shorter).avoiding;
            fails = ap (avoids P) (sym e) ∙ i.contains_one;
          },
        )

    -- .. and a lost rest builds a lost word.
    pub lost_of_rest : (σ : List ℕ) → LostRest P p R g σ → IsLost P p R g (built p g σ)
    lost_of_rest σ r =
        let long : length (built p g σ) ≡ length p + total g = built_length p g σ ∙ ap (λ (n : ℕ). length p + n) r.size in
        let m = perms_all (total g) σ r.perm r.size in
        record {
          perm = built_perm p g σ perm size r.perm r.size;
          prefix = ap reduce (built_prefix p g σ) ∙ built_reduces p g perm;
          spaced = ap₂ spacing long (built_prefix p g σ) ∙ built_spacing p g perm size;
          shorter = mathlib.Core.List.Memᴰ.cast (removed P p R perm inside g size σ m)
              (shorter_in P p R perm inside g size σ m (built_deleted_avoids R p g perm size inside σ P ∙ r.avoiding));
          contains_one = r.fails;
        }

    -- no rest is lost exactly if the sizes do not differ
    pub sizes_agree_here : (sizes_differ P p R g ≡ false) ↔ Agrees P p (without R p) g
    sizes_agree_here = (
      λ e. agrees_of_sizes P p R perm inside g size (sizes_same P p R g e),
      λ a. same_sizes P p R g (sizes_of_agrees P p R perm inside g size a),
    )

    -- Sizes differ at a spacing exactly if some word is lost there.
    pub sizes_lost : (sizes_differ P p R g ≡ true) ↔ ((w : List ℕ) × IsLost P p R g w)
    sizes_lost = (
      λ e. some_lost (any (lost P p R g) (perms (length p + total g))) refl e,
      λ l. differ l.0 l.1 (sizes_differ P p R g) refl,
    )
      where
        agree : any (lost P p R g) (perms (length p + total g)) ≡ false → Agrees P p (without R p) g
        agree none-lost σ sp sl a = go (avoids P (built p g σ)) refl
          where
            go : (b : Bool) → avoids P (built p g σ) ≡ b → b ≡ true
            go true e = refl
            go false e =
                let (m, l) = lost_in P p R g (built p g σ)
                (lost_of_rest σ (record { perm = sp; size = sl; avoiding = a; fails = e })) in
                absurd (true_not_false (sym (any_in (lost P p R g) m l) ∙ none-lost))

        some_lost : (b : Bool) → any (lost P p R g) (perms (length p + total g)) ≡ b → sizes_differ P p R g ≡ true →
            (w : List ℕ) × IsLost P p R g w
        some_lost true e h =
            let (w, m, l) = any_out (lost P p R g) (perms (length p + total g)) e in (w, lost_out P p R g w m l)
        some_lost false e h = absurd (true_not_false (sym h ∙ sizes_agree_here.1 (agree e)))

        differ : (w : List ℕ) → IsLost P p R g w → (b : Bool) → sizes_differ P p R g ≡ b → b ≡ true
        differ w i true e = refl
        differ w i false e =
            let (σ, q, r) = rest_of_lost w i in
            absurd (true_not_false (sym (sizes_agree_here.0 e σ r.perm r.size r.avoiding) ∙ r.fails))

-- The candidate search on the basis shows the spacing and the word of the definition, under every
-- m.
module _ (m : ℕ) (P : List (List ℕ)) (each_perm : (β : List ℕ) → Memᴰ β P → is_perm β ≡ true) (p R : List ℕ) (perm : is_perm p ≡ true)
    (inside : all (within (length p)) R ≡ true) (B : List (List ℕ)) where
  Q : List (List ℕ)
  Q = basis P

  apart : (β : List ℕ) → Memᴰ β Q → distinct β ≡ true
  unfolding Q
  apart β m = perm_distinct β (each_perm β (basis_in P m))

  -- at a spacing below which nothing is violated
  differs_violated : (g : List ℕ) → length g ≡ suc (length p) → free B g ≡ true → CleanBelow Q p R perm apart B g →
      sizes_differ P p R g ≡ violated Q p R g
  unfolding Q
  differs_violated g size open-here below =
      let (forth, back) = basis_agrees P each_perm p (without R p) g in
      same_failure (sizes_differ P p R g) (violated Q p R g) (sizes_agree_here P p R perm inside g size) (
        λ e. back (agrees_first Q p R perm apart B g size open-here below e),
        λ a. candidates_of_agrees Q p R perm apart g size (forth a),
      )

  -- a spacing of a smaller total stands before one of a larger
  stands_before : (u : List (List ℕ)) (x : List ℕ) (v : List (List ℕ)) → compared_to m (length p) B ≡ u ++ (x ∷ v) →
      (b : List ℕ) → length b ≡ suc (length p) → free B b ≡ true → total b < total x → Memᴰ b u
  stands_before u x v q b size open-b less =
      let d : Memᴰ x (u ++ (x ∷ v)) = mathlib.Core.List.Memᴰ.append_right u (mathlib.Core.List.Memᴰ.head refl) in
      let (sx, tx, fx) = compared_are m (length p) B (rw (← q) at d) in
      go (mathlib.Core.List.Memᴰ.append_cases u (rw q at (compared_all m (length p) B b size (omega arith) open-b)))
    where
      ascending : ascends (map totalled (u ++ (x ∷ v))) ≡ true
      ascending = rw (← q) (compared_ascend m (length p) B)

      behind : (b ≡ x) ⊎ Memᴰ b v → Memᴰ b u
      behind (inl e) = let t : total b ≡ total x = ap total e in absurd (omega arith)
      behind (inr n) =
          absurd (true_not_false (sym (ascends_behind totalled u x v ascending n) ∙ before_larger (total b) (total x) x b less))

      go : Memᴰ b u ⊎ Memᴰ b (x ∷ v) → Memᴰ b u
      go (inl n) = n
      go (inr n) = behind (mathlib.Core.List.Memᴰ.cases_cons n)

  first_same : first (sizes_differ P p R) (compared_to m (length p) B) ≡ first (violated Q p R) (compared_to m (length p) B)
  first_same =
      first_agree (sizes_differ P p R) (violated Q p R) (compared_to m (length p) B)
      (λ u x v q clean. let d : Memᴰ x (u ++ (x ∷ v)) = mathlib.Core.List.Memᴰ.append_right u (mathlib.Core.List.Memᴰ.head refl) in
      let (size, t, f) = compared_are m (length p) B (rw (← q) at d) in
      differs_violated x size f (λ b sb fb less. clean b (stands_before u x v q b sb fb less)))

  pub shown_spacing_lem : shown_spacing_under m P p B R ≡ violated_first m (basis P) p B R
  unfolding shown_spacing_under violated_first Q
  shown_spacing_lem = first_same

  -- at the first violated spacing the least of the candidates is the least lost word
  module _ (g : List ℕ) (shows : first (violated Q p R) (compared_to m (length p) B) ≡ some g) where
    at_compared : Memᴰ g (compared_to m (length p) B) × (violated Q p R g ≡ true)
    at_compared = first_some (violated Q p R) (compared_to m (length p) B) g shows

    spaced : (length g ≡ suc (length p)) × (total g < m) × (free B g ≡ true)
    spaced = compared_are m (length p) B at_compared.0

    clean_below : CleanBelow Q p R perm apart B g
    clean_below b size open-b less = go (violated Q p R b) refl
      where
        go : (t : Bool) → violated Q p R b ≡ t → t ≡ false
        go true e = absurd (true_not_false (sym (before_first (total b) (total g) b g less) ∙
            first_ordered totalled (violated Q p R) (compared_to m (length p) B) g b (compared_ascend m (length p) B) shows
            (compared_all m (length p) B b size (omega (arith, spaced.1)) open-b) e))
        go false e = refl

    -- the rests that the candidates make are the lost rests
    candidate_lost : (β : List ℕ) → Memᴰ β Q → violates Q p R g β ≡ true → LostRest P p R g (rest_of β (total g))
    unfolding Q
    candidate_lost β m e =
        let (sp, sl, a, f) = violates_out Q p R perm apart g spaced.0 β m e in
        record {
          perm = sp;
          size = sl;
          avoiding = basis_avoids P each_perm (built (without R p) g (rest_of β (total g))) ∙ a;
          fails = basis_avoids P each_perm (built p g (rest_of β (total g))) ∙ f;
        }

    lost_among_lem : (v : List ℕ) → IsLost P p R g v → Memᴰ v (lost_words Q p R g)
    unfolding lost_words Q
    lost_among_lem v i =
        let (σ, q, r) = rest_of_lost P p R perm inside g spaced.0 v i in
        let (β, m, e, s) = lost_candidate Q p R perm apart B g spaced.0 spaced.2 clean_below σ r.perm r.size
        (sym (basis_avoids P each_perm (built (without R p) g σ)) ∙ r.avoiding)
        (sym (basis_avoids P each_perm (built p g σ)) ∙ r.fails) in
        mathlib.Core.List.Memᴰ.cast (q ∙ ap (built p g) s)
        (mathlib.Core.List.Memᴰ.map (λ (γ : List ℕ). built p g (rest_of γ (total g))) (keep_in (violates Q p R g) m e))

    among_lost : (v : List ℕ) → Memᴰ v (lost_words Q p R g) → IsLost P p R g v
    unfolding lost_words
    among_lost v n =
        let (β, m, q) = mathlib.Core.List.Memᴰ.of_map (λ (γ : List ℕ). built p g (rest_of γ (total g))) (keep (violates Q p R g) Q) n in
        let (k, e) = keep_out (violates Q p R g) Q m in
        rw (← q) (lost_of_rest P p R perm inside g spaced.0 (rest_of β (total g)) (candidate_lost β k e))

    -- there is one
    some_word : (w : List ℕ) × Memᴰ w (lost_words Q p R g)
    unfolding violated lost_words
    some_word =
        let (β, m, e) = any_out (violates Q p R g) Q at_compared.1 in (
          built p g (rest_of β (total g)),
          mathlib.Core.List.Memᴰ.map (λ (γ : List ℕ). built p g (rest_of γ (total g)))
              (keep_in (violates Q p R g) m e),
        )

    least_lost : (l : List (List ℕ)) → lost_words Q p R g ≡ l → first (lost P p R g) (perms (length p + total g)) ≡ least_of none l
    unfolding least_of
    least_lost [] e = absurd (mathlib.Core.List.Memᴰ.not-nil (rw e at some_word.1))
    least_lost (v ∷ l) e =
        let (w, q, m, least) = least_is v l in
        let (n, t) = lost_in P p R g w (among_lost w (rw (← e) at m)) in
        first_is (lost P p R g) (perms (length p + total g)) w (perms_ascend (length p + total g)) n t
        (λ x k h. least x (rw e at (lost_among_lem x (lost_out P p R g x k h)))) ∙
        sym q

  -- The permutation shown is the least of the candidates.
  pub shown_candidate : shown_word_under m P p B R ≡ least_candidate m (basis P) p B R
  unfolding shown_word_under least_candidate shown_at least_at violated_first Q
  shown_candidate = ap (shown_at P p R) shown_spacing_lem ∙ go (first (violated Q p R) (compared_to m (length p) B)) refl
    where
      go : (o : Option (List ℕ)) → first (violated Q p R) (compared_to m (length p) B) ≡ o → shown_at P p R o ≡ least_at Q p R o
      go none e = refl
      go (some g) e = least_lost g e (lost_words Q p R g) refl

-- a word that is there
some_not_none : {A : Type 0} (x : A) → none ≡ some x → ⊥
some_not_none x e = let z : ◌≡◌ {A = ℕ} 0 1 = cc in absurd (omega arith)

module _ (m : ℕ) (P : List (List ℕ)) (p R : List ℕ) (perm : is_perm p ≡ true) (inside : all (within (length p)) R ≡ true)
    (B : List (List ℕ)) where
  -- what is shown is lost at a compared spacing, and no word that is lost at one comes before it
  record Shown (w : List ℕ) : Type 0 where
    at : List ℕ
    at_compared : Memᴰ at (compared_to m (length p) B)
    is_lost : IsLost P p R at w
    least : (h v : List ℕ) → Memᴰ h (compared_to m (length p) B) → IsLost P p R h v → earlier h v at w ≡ false

  -- the order of spacings and words
  not_earlier : (h v g w : List ℕ) → before (totalled h) (totalled g) ≡ false → (h ≡ g → before v w ≡ false) → earlier h v g w ≡ false
  unfolding before
  not_earlier h v g w ordered last = go (ltb (total h) (total g)) ordered
    where
      same_place : (s : Bool) → same h g ≡ s → s && before v w ≡ false
      same_place true e = last (same_out h g e)
      same_place false e = refl

      within_total : (t b : Bool) → t && b ≡ false → t && cond b true (same h g && before v w) ≡ false
      within_total true true e = e
      within_total true false e = same_place (same h g) refl
      within_total false b e = refl

      go : (t : Bool) → cond t true (eqb (total h) (total g) && before h g) ≡ false →
          cond t true (eqb (total h) (total g) && cond (before h g) true (same h g && before v w)) ≡ false
      go true e = e
      go false e = within_total (eqb (total h) (total g)) (before h g) e

  shown_at_lem : (g w : List ℕ) → first (sizes_differ P p R) (compared_to m (length p) B) ≡ some g →
      first (lost P p R g) (perms (length p + total g)) ≡ some w → Shown w
  shown_at_lem g w s e =
      let (c, d) = first_some (sizes_differ P p R) (compared_to m (length p) B) g s in
      let (n, l) = first_some (lost P p R g) (perms (length p + total g)) w e in
      record {
        at = g;
        at_compared = c;
        is_lost = lost_out P p R g w n l;
        least = λ h v k i. not_earlier h v g w
            (first_ordered totalled (sizes_differ P p R) (compared_to m (length p) B) g h (compared_ascend m (length p) B) s k
            ((sizes_lost P p R perm inside h (compared_are m (length p) B k).0).1 (v, i)))
            (λ q. let (x, y) = lost_in P p R g v (rw q at i) in
            first_least (lost P p R g) (perms (length p + total g)) w v
            (ascends_in_order (perms (length p + total g)) (perms_ascend (length p + total g))) e x y);
      }

  shown_is : (w : List ℕ) → shown_word_under m P p B R ≡ some w → Shown w
  unfolding shown_word_under shown_at shown_spacing_under
  shown_is w e = go (first (sizes_differ P p R) (compared_to m (length p) B)) refl e
    where
      go : (o : Option (List ℕ)) → first (sizes_differ P p R) (compared_to m (length p) B) ≡ o → shown_at P p R o ≡ some w → Shown w
      go none s q = absurd (some_not_none w q)
      go (some g) s q = shown_at_lem g w s q

  -- Where some compared sizes differ, a word is shown: the definition never shows nothing.
  pub shown_there : any (sizes_differ P p R) (compared_to m (length p) B) ≡ true → (w : List ℕ) × (shown_word_under m P p B R ≡ some w)
  unfolding shown_word_under shown_at shown_spacing_under
  shown_there d = go (first (sizes_differ P p R) (compared_to m (length p) B)) refl
    where
      lost_there : (g : List ℕ) (o : Option (List ℕ)) → first (lost P p R g) (perms (length p + total g)) ≡ o →
          (w : List ℕ) × IsLost P p R g w → (w : List ℕ) × (first (lost P p R g) (perms (length p + total g)) ≡ some w)
      lost_there g none e (w, i) =
          let (m, l) = lost_in P p R g w i in
          absurd (true_not_false (sym l ∙ none_first (lost P p R g) (perms (length p + total g)) e w m))
      lost_there g (some w) e i = (w, e)

      go : (o : Option (List ℕ)) → first (sizes_differ P p R) (compared_to m (length p) B) ≡ o → (w : List ℕ) ×
          (shown_at P p R (first (sizes_differ P p R) (compared_to m (length p) B)) ≡ some w)
      go none e = absurd (true_not_false (sym d ∙ sym (first_found (sizes_differ P p R) (compared_to m (length p) B)) ∙ ap found e))
      go (some g) e =
          let (c, t) = first_some (sizes_differ P p R) (compared_to m (length p) B) g e in
          let (w, q) = lost_there g (first (lost P p R g) (perms (length p + total g))) refl
          ((sizes_lost P p R perm inside g (compared_are m (length p) B c).0).0 t) in
          (w, ap (shown_at P p R) e ∙ q)

  -- A page that begins with the bytes of what is shown is a witness.
  pub witnesses : (w page : List ℕ) → shown_word_under m P p B R ≡ some w → take PAGE page ≡ witness_bytes P (some w) →
      WitnessesUnder m P p B R page
  witnesses w page e q =
      let s = shown_is w e in
      let (i, copy, c) = fails_stands P w s.is_lost.contains_one in
      let (inside, first, earlier-none) = earliest_is P w i copy c in
      record {
        at = s.at;
        word = w;
        pattern = i;
        copy = copy;
        bytes = q ∙ ap (λ (x : Earliest). half w ++ half (positions_of x)) c;
        at_compared = s.at_compared;
        is_lost = s.is_lost;
        least = s.least;
        in_set_lem = inside;
        copied = first;
        none_before = earlier-none;
      }

  -- what is shown is as long as its prefix and the total of a compared spacing
  pub shown_length : (w : List ℕ) → shown_word_under m P p B R ≡ some w → length w < length p + m
  shown_length w e =
      let s = shown_is w e in
      let (size, t, f) = compared_are m (length p) B s.at_compared in
      omega (arith, lost_length P p R s.at w s.is_lost, t)

-- a half has HALF bytes
pub half_length : (u : List ℕ) → length u < HALF → length (half u) ≡ HALF
half_length u h =
    omega (arith, length-append u (replicate (HALF - 1 - length u) 0), length-replicate {A = ℕ} (HALF - 1 - length u) 0)

-- "With refusal 11 the judge's lent page .. receives a witness for the refused entry" (02): with
-- test 11 the word of the entry at fault is shown, with test 10 none
pub shown_with_eleven : (P : List (List ℕ)) (E : List EntryList) (i : ℕ) →
    word_shown P E (Err (refused_at Irreversible i)) ≡ entry_word P (indexed_entry E i)
shown_with_eleven P E i = refl

pub none_with_ten : (P : List (List ℕ)) (E : List EntryList) (i : ℕ) → word_shown P E (Err (refused_at LiveGap i)) ≡ none
none_with_ten P E i = refl

-- the entry at an index is one of the list
pub indexed_member : (E : List EntryList) (i : ℕ) (e : EntryList) → indexed_entry E i ≡ some e → Memᴰ e E
indexed_member [] i e q = let z : ◌≡◌ {A = ℕ} 0 1 = cc in absurd (omega arith)
indexed_member (d ∷ E) zero e q = let same : e ≡ d = cc in mathlib.Core.List.Memᴰ.head same
indexed_member (d ∷ E) (suc i) e q = mathlib.Core.List.Memᴰ.tail (indexed_member E i e q)
