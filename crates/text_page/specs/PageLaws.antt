-- Laws of a page with bytes written over it, and of writing one part after another.
use Rattle.std.specs.Prelude.{ℕ, zero, suc, ◌+◌, ◌≤◌, ◌<◌, ◌≡◌, refl, ◌⊎◌, List, [], ◌∷◌, ◌++◌, length, get_or, take, drop, set}
use Rattle.std.proofs.Common.{suc-add, add-suc, zero-add, arith, sym, ap, ◌∙◌, inl, inr, length-append}
use Rattle.std.proofs.Math.Seq.{set_out}
use Rattle.text_page.specs.Page.{overlay, Writes, Room}

pub overlay_none : (at : ℕ) (t : List ℕ) → overlay at [] t ≡ t
overlay_none at [] = refl
overlay_none zero (y ∷ t) = refl
overlay_none (suc at) (y ∷ t) = ap (λ (l : List ℕ). y ∷ l) (overlay_none at t)

-- a part after a part is the two together
pub overlay_join : (at : ℕ) (xs ys t : List ℕ) → overlay (at + length xs) ys (overlay at xs t) ≡ overlay at (xs ++ ys) t
overlay_join at xs ys [] = refl
overlay_join zero [] ys (y ∷ t) = refl
overlay_join zero (x ∷ xs) ys (y ∷ t) = rw (add-suc 0 (length xs)) (ap (λ (l : List ℕ). x ∷ l) (overlay_join zero xs ys t))
overlay_join (suc at) xs ys (y ∷ t) = rw (suc-add at (length xs)) (ap (λ (l : List ℕ). y ∷ l) (overlay_join at xs ys t))

pub overlay_length : (at : ℕ) (xs t : List ℕ) → length (overlay at xs t) ≡ length t
overlay_length at xs [] = refl
overlay_length zero [] (y ∷ t) = refl
overlay_length zero (x ∷ xs) (y ∷ t) = ap suc (overlay_length zero xs t)
overlay_length (suc at) xs (y ∷ t) = ap suc (overlay_length at xs t)

-- one byte over a page is one place set; a place behind the end is not there
pub overlay_one : (at b : ℕ) (t : List ℕ) → overlay at (b ∷ []) t ≡ set t at b
overlay_one at b [] = refl
overlay_one zero b (y ∷ t) = ap (λ (l : List ℕ). b ∷ l) (overlay_none zero t)
overlay_one (suc at) b (y ∷ t) = ap (λ (l : List ℕ). y ∷ l) (overlay_one at b t)

-- where the page is long enough, the bytes stand whole, and what is before and behind them stays
pub overlay_whole : (at : ℕ) (xs t : List ℕ) → at + length xs ≤ length t → overlay at xs t ≡ take at t ++ (xs ++ drop (at + length xs) t)
overlay_whole zero [] [] h = refl
overlay_whole zero (x ∷ xs) [] h = absurd (omega arith)
overlay_whole (suc at) xs [] h = absurd (omega arith)
overlay_whole zero [] (y ∷ t) h = refl
overlay_whole zero (x ∷ xs) (y ∷ t) h = rw (add-suc 0 (length xs)) (ap (λ (l : List ℕ). x ∷ l) (overlay_whole zero xs t (omega arith)))
overlay_whole (suc at) xs (y ∷ t) h = rw (suc-add at (length xs)) (ap (λ (l : List ℕ). y ∷ l) (overlay_whole at xs t (omega arith)))

-- no number before the bytes or behind them is changed
pub overlay_other : (at : ℕ) (xs t : List ℕ) (k : ℕ) → (k < at) ⊎ (at + length xs ≤ k) → get_or (overlay at xs t) k 0 ≡ get_or t k 0
overlay_other at xs [] k h = refl
overlay_other zero [] (y ∷ t) k h = refl
overlay_other zero (x ∷ xs) (y ∷ t) zero (inl h) = absurd (omega arith)
overlay_other zero (x ∷ xs) (y ∷ t) zero (inr h) = absurd (omega arith)
overlay_other zero (x ∷ xs) (y ∷ t) (suc k) (inl h) = absurd (omega arith)
overlay_other zero (x ∷ xs) (y ∷ t) (suc k) (inr h) = overlay_other zero xs t k (inr (omega arith))
overlay_other (suc at) xs (y ∷ t) zero h = refl
overlay_other (suc at) xs (y ∷ t) (suc k) (inl h) = overlay_other at xs t k (inl (omega arith))
overlay_other (suc at) xs (y ∷ t) (suc k) (inr h) = overlay_other at xs t k (inr (omega arith))

-- one byte

pub one_inside : (at b : ℕ) (t : List ℕ) → Writes (b ∷ []) at t (set t at b) (at + 1)
one_inside at b t = record { moved = refl; page = sym (overlay_one at b t) }

pub one_behind : (at b : ℕ) (t : List ℕ) → length t ≤ at → Writes (b ∷ []) at t t (at + 1)
one_behind at b t h = record { moved = refl; page = sym (overlay_one at b t ∙ set_out t at b h) }

-- the same bytes, in other words

pub room_as : {xs ys : List ℕ} {at : ℕ} → Room xs at → xs ≡ ys → Room ys at
room_as r e = rw e at r

pub writes_as : {xs ys : List ℕ} {at next : ℕ} {t u : List ℕ} → Writes xs at t u next → xs ≡ ys → Writes ys at t u next
writes_as w e = rw e at w

pub room_byte : {x : ℕ} (y : ℕ) {at : ℕ} → Room (x ∷ []) at → Room (y ∷ []) at
room_byte y r = record { fits = r.fits }

-- a byte before others, and then the others
pub room_first : {x : ℕ} {xs : List ℕ} {at : ℕ} → Room (x ∷ xs) at → Room (x ∷ []) at
room_first r = record { fits = omega (arith, r.fits) }

pub room_rest : {x : ℕ} {xs : List ℕ} {at next : ℕ} {t u : List ℕ} → Room (x ∷ xs) at → Writes (x ∷ []) at t u next → Room xs next
room_rest r w = record { fits = omega (arith, r.fits, w.moved) }

pub writes_byte : {x y at next : ℕ} {t u : List ℕ} → Writes (x ∷ []) at t u next → x ≡ y → Writes (y ∷ []) at t u next
writes_byte w e = rw e at w

-- two parts one after the other

pub writes_join : {xs ys : List ℕ} {at mid next : ℕ} {t u w : List ℕ} → Writes xs at t u mid →
    Writes ys mid u w next → Writes (xs ++ ys) at t w next
writes_join {xs} {ys} {at} {mid} {next} {t} {u} {w} a b =
    record {
      moved = rw (length-append xs ys) (let p = a.moved in let q = b.moved in omega arith);
      page = b.page ∙ rw (a.page, a.moved) (overlay_join at xs ys t);
    }

-- written from the start of a page: the length is the next place, and on a page that is long enough
-- the bytes stand first and the others stay

pub length_after : {xs t u : List ℕ} {next : ℕ} → Writes xs 0 t u next → next ≡ length xs
length_after w = let p = w.moved in omega arith

pub page_after_lem : {xs t u : List ℕ} {next : ℕ} → Writes xs 0 t u next → length xs ≤ length t → u ≡ xs ++ drop (length xs) t
page_after_lem {xs} {t} w h = w.page ∙ overlay_whole 0 xs t (omega arith) ∙ rw (zero-add (length xs)) refl

-- Of `total`, to be written at `at` on the page `before`, what is still to come: `rest`, to be
-- written at `next` on the page as it is now.
pub record ToCome (total : List ℕ) (at : ℕ) (before rest : List ℕ) (next : ℕ) (now : List ℕ) : Type 0 where
  pub place : at + length total ≡ next + length rest
  pub same : overlay at total before ≡ overlay next rest now

pub start : (total : List ℕ) (at : ℕ) (t : List ℕ) → ToCome total at t total at t
start total at t = record { place = refl; same = refl }

-- the same start, the text given in other words
pub start_as : (total other : List ℕ) (at : ℕ) (t : List ℕ) → total ≡ other → ToCome total at t other at t
start_as total other at t e = rw e (start other at t)

module _ {total : List ℕ} {at : ℕ} {before : List ℕ} where
  pub step : {xs rest : List ℕ} {next after : ℕ} {t u : List ℕ} → ToCome total at before (xs ++ rest) next t →
      Writes xs next t u after → ToCome total at before rest after u
  step {xs} {rest} {next} {after} {t} {u} c w =
      record {
        place = c.place ∙ rw (length-append xs rest, w.moved) (omega arith);
        same = c.same ∙ sym (rw (w.page, w.moved) (overlay_join next xs rest t));
      }

  -- what is to come, in other words
  pub again : {rest other : List ℕ} {next : ℕ} {t : List ℕ} → ToCome total at before rest next t → rest ≡ other →
      ToCome total at before other next t
  again c e = rw e at c

  pub finish : {next : ℕ} {t : List ℕ} → ToCome total at before [] next t → Writes total at before t next
  finish {next} {t} c =
      record {
        moved = let p = c.place in omega arith;
        page = sym (c.same ∙ overlay_none next t);
      }

  -- the last part
  pub finish_by : {xs : List ℕ} {next after : ℕ} {t u : List ℕ} → ToCome total at before xs next t →
      Writes xs next t u after → Writes total at before u after
  finish_by {xs} {next} {after} {t} {u} c w =
      record {
        moved = let p = c.place in let q = w.moved in omega arith;
        page = w.page ∙ sym c.same;
      }

  -- the page keeps its length
  pub same_size : {rest : List ℕ} {next : ℕ} {t : List ℕ} → ToCome total at before rest next t → length t ≡ length before
  same_size {rest} {next} {t} c = sym (overlay_length next rest t) ∙ sym (ap length c.same) ∙ overlay_length at total before

  -- the room for the whole is room for each part
  pub room_next : (xs other : List ℕ) {rest : List ℕ} {next : ℕ} {t : List ℕ} → Room total at →
      ToCome total at before rest next t → rest ≡ xs ++ other → Room xs next
  room_next xs other {rest} {next} r c e =
      let p = c.place in
      let q = r.fits in
      record { fits = omega (arith, ap length e, length-append xs other) }

  pub room_last : {xs : List ℕ} {next : ℕ} {t : List ℕ} → Room total at → ToCome total at before xs next t → Room xs next
  room_last {xs} {next} r c =
      let p = c.place in
      let q = r.fits in
      record { fits = omega arith }
