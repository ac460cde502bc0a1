-- Laws of merging by a walk over the components, which are added up around the flagged values.
use Rattle.std.specs.Prelude.{ℕ, zero, suc, ◌+◌, ◌-◌, ◌≤◌, ◌<◌, ◌≡◌, refl, ◌⊎◌, Bool, true, false, cond, List, [], ◌∷◌, ◌++◌, length}
use Rattle.std.specs.Prelude.{get_or, take, drop, set, replicate, eqb}
use Rattle.std.proofs.Common.{add-one, arith, sym, ap, ◌∙◌, subst, inl, inr, length-set, drop_of_length-le, drop-cons, take-suc}
use Rattle.std.proofs.Common.{length-take-le, get_or-set_same, get_or-set_other, eqb-true}
use Rattle.std.proofs.Math.Seq.{append_snoc}
use Rattle.std.proofs.lemmas.List.{take-set-le}
use Rattle.std.proofs.lemmas.Bool.{eqb-false}
use Rattle.word.specs.Ceilings.{COMPONENTS}
use Rattle.word.specs.Word.{has}
use Rattle.word.specs.ListLaws.{get_or_zeros}
use Rattle.cell.specs.Cell.{total, merge_from, merge_values}
use Rattle.spacing.specs.Flagged.{flagged}
use Rattle.spacing.specs.FlaggedLaws.{flag_there, flag_missing}
use Rattle.count_plain.specs.Pieces.{Begins}

-- The components before v stand in r up to `at`, merged around the values vs; those from v on are
-- still to come.
pub record Merging (vs G r : List ℕ) (v at : ℕ) : Type 0 where
  pub size : length r ≡ COMPONENTS
  pub low : at < v
  pub same : take at r ++ merge_from vs v (get_or r at 0) (drop v G) ≡ merge_values vs G
  pub room : get_or r at 0 + total (drop v G) ≤ total G
  pub none : (i : ℕ) → at < i → get_or r i 0 ≡ 0

pub merging_start : (vs g : List ℕ) (k : ℕ) → 0 < length g →
    Merging vs (take (k + 1) g) (set (replicate COMPONENTS 0) 0 (get_or g 0 0)) 1 0
unfolding merge_values total
merging_start vs [] k h = absurd (omega arith)
merging_start vs (x ∷ g) k h =
    let e : take (k + 1) (x ∷ g) ≡ x ∷ take k g = rw (add-one k) refl in
    rw e (record {
      size = refl;
      low = omega arith;
      same = refl;
      room = omega arith;
      none = λ (i : ℕ) (l : 0 < i). later i l;
    })
  where
    later : (i : ℕ) → 0 < i → ◌≡◌ {A = ℕ} (get_or (set (replicate COMPONENTS 0) 0 x) i 0) 0
    later zero l = absurd (omega arith)
    later (suc i) l = get_or_zeros 6 i

-- one component more of what is still to come
joins : (vs : List ℕ) (v x y : ℕ) (l : List ℕ) → has v vs ≡ true → merge_from vs v x (y ∷ l) ≡ merge_from vs (suc v) (x + y) l
unfolding merge_from
joins vs v x y l e = rw e refl

opens : (vs : List ℕ) (v x y : ℕ) (l : List ℕ) → has v vs ≡ false → merge_from vs v x (y ∷ l) ≡ x ∷ merge_from vs (suc v) y l
unfolding merge_from
opens vs v x y l e = rw e refl

total_next : (G : List ℕ) (v : ℕ) → v < length G → total (drop v G) ≡ get_or G v 0 + total (drop (suc v) G)
unfolding total
total_next G v h = ap total (drop-cons G v 0 h)

module _ (vs G r : List ℕ) (v at : ℕ) (m : Merging vs G r v at) (inside : v < length G) (short : v < COMPONENTS) where
  -- around a value of the list it is added to the last one
  join_more : (y : ℕ) → y ≡ get_or G v 0 → has v vs ≡ true → Merging vs G (set r at (get_or r at 0 + y)) (v + 1) at
  join_more y e f =
      let here : get_or (set r at (get_or r at 0 + y)) at 0 ≡ get_or r at 0 + y = get_or-set_same r at (get_or r at 0 + y) 0
      (omega (arith, m.size, m.low)) in
      let rest : drop (v + 1) G ≡ drop (suc v) G = ap (λ n. drop n G) (add-one v) in
      record {
        size = length-set r at (get_or r at 0 + y) ∙ m.size;
        low = omega (arith, m.low);
        same = rw (add-one v, here, take-set-le at r at (get_or r at 0 + y) (omega arith), e) (ap (λ (l : List ℕ). take at r ++ l)
            (sym (joins vs v (get_or r at 0) (get_or G v 0) (drop (suc v) G) f) ∙
            ap (merge_from vs v (get_or r at 0)) (sym (drop-cons G v 0 inside))) ∙ m.same);
        room = omega (arith, here, m.room, total_next G v inside, ap total rest);
        none = λ (i : ℕ) (l : at < i). get_or-set_other r at i (get_or r at 0 + y) 0 (λ (q : i ≡ at). omega arith) ∙ m.none i l;
      }

  -- else it opens a new one
  open_more : (y : ℕ) → y ≡ get_or G v 0 → has v vs ≡ false →
      Merging vs G (set r (suc at) (get_or r (suc at) 0 + y)) (v + 1) (suc at)
  open_more y e f =
      let empty : get_or r (suc at) 0 ≡ 0 = m.none (suc at) (omega arith) in
      let new : get_or r (suc at) 0 + y ≡ y = omega arith in
      let here : get_or (set r (suc at) (get_or r (suc at) 0 + y)) (suc at) 0 ≡ y = get_or-set_same r (suc at) (get_or r (suc at) 0 + y) 0
      (omega (arith, m.size, m.low)) ∙ new in
      let rest : drop (v + 1) G ≡ drop (suc v) G = ap (λ n. drop n G) (add-one v) in
      record {
        size = length-set r (suc at) (get_or r (suc at) 0 + y) ∙ m.size;
        low = omega (arith, m.low);
        same =
            rw (
              add-one v,
              here,
              take-set-le (suc at) r (suc at) (get_or r (suc at) 0 + y) (omega arith),
              take-suc r at 0 (omega (arith, m.size, m.low)),
              e,
            )
            (append_snoc (take at r) (get_or r at 0) (merge_from vs (suc v) (get_or G v 0) (drop (suc v) G)) ∙
            ap (λ (l : List ℕ). take at r ++ l)
            (sym (opens vs v (get_or r at 0) (get_or G v 0) (drop (suc v) G) f) ∙
            ap (merge_from vs v (get_or r at 0)) (sym (drop-cons G v 0 inside))) ∙ m.same);
        room = omega (arith, here, e, m.room, total_next G v inside, ap total rest);
        none = λ (i : ℕ) (l : suc at < i).
            get_or-set_other r (suc at) i (get_or r (suc at) 0 + y) 0 (λ (q : i ≡ suc at). omega arith) ∙ m.none i (omega arith);
      }

  -- what is added up fits
  pub join_room : (y : ℕ) → y ≡ get_or G v 0 → get_or r at 0 + y ≤ total G
  join_room y e = omega (arith, m.room, total_next G v inside)

  pub open_room : (y : ℕ) → y ≡ get_or G v 0 → get_or r (suc at) 0 + y ≤ total G
  open_room y e = omega (arith, m.none (suc at) (omega arith), m.room, total_next G v inside)

-- One turn: n of the values before v are flagged, and c up to v.
module _ (gone G r : List ℕ) (k v n c y : ℕ) (m : Merging (flagged gone k) G r v (v - 1 - n)) (low : 1 ≤ v) (high : v ≤ k) (few : n < v)
    (inside : v < length G) (short : v < COMPONENTS) (e : c ≡ cond (eqb (get_or gone v 0) 0) n (n + 1)) (ye : y ≡ get_or G v 0) where
  -- it stays at the last place, or goes to the next
  abbrev Turn : Type 0
  Turn = ((c ≡ n) × (has v (flagged gone k) ≡ false)) ⊎ ((c ≡ n + 1) × (has v (flagged gone k) ≡ true))

  turn : Turn
  turn = go (eqb (get_or gone v 0) 0) refl
    where
      go : (b : Bool) → eqb (get_or gone v 0) 0 ≡ b → Turn
      go true q = inl (e ∙ ap (λ (b : Bool). cond b n (n + 1)) q, flag_missing gone k v low high (eqb-true (get_or gone v 0) 0 q))
      go false q = inr (e ∙ ap (λ (b : Bool). cond b n (n + 1)) q, flag_there gone k v low high (eqb-false (get_or gone v 0) 0 q))

  pub turn_low : c ≤ v
  turn_low = go turn
    where
      go : Turn → c ≤ v
      go (inl (q, f)) = omega arith
      go (inr (q, f)) = omega arith

  pub turn_room : get_or r (v - c) 0 + y ≤ total G
  turn_room = go turn
    where
      go : Turn → get_or r (v - c) 0 + y ≤ total G
      go (inl (q, f)) =
          let at : v - c ≡ suc (v - 1 - n) = omega arith in
          rw at (open_room (flagged gone k) G r v (v - 1 - n) m inside short y ye)
      go (inr (q, f)) =
          let at : v - c ≡ v - 1 - n = omega arith in
          rw at (join_room (flagged gone k) G r v (v - 1 - n) m inside short y ye)

  pub turn_more : Merging (flagged gone k) G (set r (v - c) (get_or r (v - c) 0 + y)) (v + 1) (v + 1 - 1 - c)
  turn_more =
      let next : v + 1 - 1 - c ≡ v - c = omega arith in
      subst (λ (x : ℕ). Merging (flagged gone k) G (set r (v - c) (get_or r (v - c) 0 + y)) (v + 1) x) (sym next) (go turn)
    where
      go : Turn → Merging (flagged gone k) G (set r (v - c) (get_or r (v - c) 0 + y)) (v + 1) (v - c)
      go (inl (q, f)) =
          let at : v - c ≡ suc (v - 1 - n) = omega arith in
          subst (λ (x : ℕ). Merging (flagged gone k) G (set r x (get_or r x 0 + y)) (v + 1) x) (sym at)
          (open_more (flagged gone k) G r v (v - 1 - n) m inside short y ye f)
      go (inr (q, f)) =
          let at : v - c ≡ v - 1 - n = omega arith in
          subst (λ (x : ℕ). Merging (flagged gone k) G (set r x (get_or r x 0 + y)) (v + 1) x) (sym at)
          (join_more (flagged gone k) G r v (v - 1 - n) m inside short y ye f)

-- all components are there
pub merging_end : (vs G r : List ℕ) (v at : ℕ) → Merging vs G r v at → length G ≤ v → v ≤ COMPONENTS → Begins (merge_values vs G) r
unfolding merge_from
merging_end vs G r v at m h short =
    let fits : at < length r = omega (arith, m.size, m.low) in
    let is : take (suc at) r ≡ merge_values vs G = take-suc r at 0 fits ∙
    ap (λ (l : List ℕ). take at r ++ merge_from vs v (get_or r at 0) l) (sym (drop_of_length-le G h)) ∙ m.same in
    let size : length (merge_values vs G) ≡ suc at = ap length (sym is) ∙ length-take-le (suc at) r fits in
    ap (λ n. take n r) size ∙ is
