-- Laws of a prefix in memory: its digits, its children, and the shorter prefix.
-- Assumes nothing.
use Prim.Native.Nat.{ℕ, suc, ◌+◌, ◌-◌, ◌≤◌, ◌<◌}
use native.Mathlib.Numerals.{add-one}
use native.Mathlib.Omega.{arith}
use mathlib.Core.Path.{◌≡◌, refl, sym, ap, ◌∙◌}
use mathlib.Core.Bool.{Bool, true, false}
use mathlib.Core.List.Memᴰ
use mathlib.Core.List.{List, [], ◌∷◌, ◌++◌, map, map-append, Memᴰ}
use lib.ListN.{length, get_or, take, drop, set, length-append, length-drop, get_or-append}
use lib.Seq.{length-take-le, take-suc, take-suc-set, drop-cons, get_or-append-add, get_or-take, get_or-drop}
use borrow.Author.Tests.{lt-leb, le-ltb}
use Rattle.word.specs.Lists.{any, row}
use Rattle.word.specs.Word.{is_perm, bump}
use Rattle.word.specs.ListLaws.{get_or_mem, any_map, row_out, row_in}
use Rattle.word.specs.Vocabulary.{unbump}
use Rattle.word.specs.BumpLaws.{Bumped, stays, moves, bumped}
use Rattle.word.specs.PermLaws.{perm_bounds}
use Rattle.cell.specs.Cell.{deleted, children}
use Rattle.cell.proofs.BuiltLaws.{get_d_map}
use Rattle.cell.specs.Child.{child_at}
use Rattle.cell.proofs.ChildLaws.{children_all, children_are}
use Rattle.forms.specs.SchemeList.{deletes}
use Rattle.scheme.specs.TestLaws.{any_members}
use Rattle.scheme.specs.WellFormed.{outside}
use Rattle.scheme.specs.PositionLaws.{rising_at, positions_rise, deleted_size}
use Rattle.scheme.specs.DeletedLaws.{deleted_one, deleted_first}

-- the digits of a permutation
pub digit_bounds : (p : List ℕ) (i : ℕ) → is_perm p ≡ true → i < length p → (1 ≤ get_or p i 0) × (get_or p i 0 ≤ length p)
digit_bounds p i e j = perm_bounds p e (get_or_mem p i 0 j)

-- Children

-- one digit more of a child
pub child_more : (digits l : List ℕ) (j a x : ℕ) → j < length digits → j < length l → x ≡ bump a (get_or l j 0) →
    take j digits ≡ map (bump a) (take j l) → take (j + 1) (set digits j x) ≡ map (bump a) (take (j + 1) l)
child_more digits l j a x hd hl b e =
    rw (add-one, take-suc-set digits j x hd, take-suc l j 0 hl, map-append, e, b) refl

pub child_whole : (digits p : List ℕ) (k a : ℕ) → k < length digits → take k digits ≡ map (bump a) p →
    take (k + 1) (set digits k a) ≡ child_at p a
unfolding child_at
child_whole digits p k a h e = rw (add-one, take-suc-set digits k a h, e) refl

-- a test of some child, by its last entry
pub any_child : (t : List ℕ → Bool) (p : List ℕ) → is_perm p ≡ true → any t (children p) ≡
    any (λ a. t (child_at p a)) (row 1 (suc (length p)))
any_child t p e =
    any_members t (children p) (map (child_at p) (row 1 (suc (length p)))) out back ∙ any_map t (child_at p) (row 1 (suc (length p)))
  where
    out : (q : List ℕ) → Memᴰ q (children p) → Memᴰ q (map (child_at p) (row 1 (suc (length p))))
    out q m =
        let (a, low, high, s) = children_are p e m in
        Memᴰ.cast s (Memᴰ.map (child_at p) (row_in 1 (suc (length p)) a low (omega arith)))

    back : (q : List ℕ) → Memᴰ q (map (child_at p) (row 1 (suc (length p)))) → Memᴰ q (children p)
    back q m =
        let (a, n, s) = Memᴰ.of_map (child_at p) (row 1 (suc (length p))) m in
        let (low, high) = row_out 1 (suc (length p)) n in
        Memᴰ.cast (sym s) (children_all p a e low (omega arith))

-- The shorter prefix

cut_length : (m : ℕ) (w : List ℕ) → m < length w → length (take m w ++ drop (suc m) w) + 1 ≡ length w
cut_length m w h = omega (arith, length-append (take m w) (drop (suc m) w), length-take-le m w (omega arith), length-drop (suc m) w)

cut_at : (m j : ℕ) (w : List ℕ) → m < length w → get_or (take m w ++ drop (suc m) w) j 0 ≡ get_or w (bump m j) 0
cut_at m j w h = go (bumped m j)
  where
    size : length (take m w) ≡ m
    size = length-take-le m w (omega arith)

    go : Bumped m j → get_or (take m w ++ drop (suc m) w) j 0 ≡ get_or w (bump m j) 0
    go (stays b e) = get_or-append (take m w) (drop (suc m) w) 0 j (omega (arith, size)) ∙ get_or-take m w j 0 b ∙
        ap (λ n. get_or w n 0) (sym e)
    go (moves b e) =
        let at : j ≡ length (take m w) + (j - m) = omega (arith, size) in
        let to : suc m + (j - m) ≡ bump m j = omega arith in
        ap (λ n. get_or (take m w ++ drop (suc m) w) n 0) at ∙ get_or-append-add (take m w) (drop (suc m) w) (j - m) 0 ∙
        get_or-drop (suc m) w (j - m) 0 ∙ ap (λ n. get_or w n 0) to

-- each entry that is left without the one with index m
one_at : (m : ℕ) (p : List ℕ) → is_perm p ≡ true → (j : ℕ) → j + 1 < length p → m < length p →
    get_or (deleted (suc m ∷ []) p) j 0 ≡ unbump (get_or p m 0) (get_or p (bump m j) 0)
one_at m p perm j k h =
    ap (λ (l : List ℕ). get_or l j 0) (deleted_one m p perm h) ∙
    get_d_map (unbump (get_or p m 0)) (take m p ++ drop (suc m) p) j (omega (arith, cut_length m p h)) ∙
    ap (unbump (get_or p m 0)) (cut_at m j p h)

pub bump_inside : (m j n : ℕ) → j + 1 < n → bump m j < n
bump_inside m j n h = go (bumped m j)
  where
    go : Bumped m j → bump m j < n
    go (stays b e) = omega arith
    go (moves b e) = omega arith

-- the same by the position r
module _ (p : List ℕ) (r : ℕ) (perm : is_perm p ≡ true) (low : 1 ≤ r) (high : r ≤ length p) where
  index : suc (r - 1) ≡ r
  index = omega arith

  inside : outside (length p) (deletes (r ∷ [])) ≡ false
  inside = rw (lt-leb r 0 low, le-ltb (length p) r high) refl

  pub one_size : length (deleted (r ∷ []) p) ≡ length p - 1
  one_size = omega (arith, deleted_size (r ∷ []) p inside)

  digit_at : (j : ℕ) → j < length p - 1 → get_or (deleted (r ∷ []) p) j 0 ≡ unbump (get_or p (r - 1) 0) (get_or p (bump (r - 1) j) 0)
  digit_at j h =
      ap (λ n. get_or (deleted (n ∷ []) p) j 0) (sym index) ∙
      one_at (r - 1) p perm j (omega arith) (omega arith)

  -- one digit more
  pub one_more : (digits : List ℕ) (j x : ℕ) → j < length p - 1 → j < length digits → x ≡
      unbump (get_or p (r - 1) 0) (get_or p (bump (r - 1) j) 0) →
      take j digits ≡ take j (deleted (r ∷ []) p) → take (j + 1) (set digits j x) ≡ take (j + 1) (deleted (r ∷ []) p)
  one_more digits j x h d b e =
      rw (
        add-one,
        take-suc-set digits j x d,
        take-suc (deleted (r ∷ []) p) j 0 (omega (arith, one_size)),
        e,
        b,
        digit_at j h,
      ) refl

-- Positions are left out from the last on: while t of them are there, the next one is that with the
-- index t - 1
pub next_position : (R p : List ℕ) (t : ℕ) → is_perm p ≡ true →
    outside (length p) (deletes R) ≡ false → 1 ≤ t → t ≤ length R →
    (1 ≤ get_or R (t - 1) 0) × (get_or R (t - 1) 0 + length R ≤ length p + t) ×
    (deleted (get_or R (t - 1) 0 ∷ []) (deleted (drop t R) p) ≡ deleted (drop (t - 1) R) p)
next_position R p t perm inside some high =
    let here : suc (t - 1) ≡ t = omega arith in
    let (low, rise, room) = rising_at (length p) 0 (t - 1) R (positions_rise (length p) R inside) (omega arith) in (
      omega arith,
      omega (arith, length-drop (suc (t - 1)) R),
      sym (ap (λ (S : List ℕ). deleted S p) (drop-cons R (t - 1) 0 (omega arith)) ∙
          deleted_first (length p) (get_or R (t - 1) 0) (drop (suc (t - 1)) R) p perm low rise ∙
          ap (λ (m : ℕ). deleted (get_or R (t - 1) 0 ∷ []) (deleted (drop m R) p)) here),
    )
