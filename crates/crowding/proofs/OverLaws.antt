-- The test in numbers of following values: walks over rows, and that it is whether a word is
-- crowded.
-- Assumes nothing.
use Prim.Native.Nat.{ℕ, suc, ◌+◌, ◌-◌, ◌*◌, ◌≤◌, ◌<◌}
use mathlib.Core.Path.{◌≡◌, refl, sym, ap, ap₂, ◌∙◌}
use mathlib.Core.Logic.{◌⊎◌, inl, inr}
use mathlib.Core.Bool.{Bool, true, false, ◌||◌}
use mathlib.Core.List.{List, [], ◌∷◌, Memᴰ}
use native.Mathlib.Nat.{sub-zero}
use native.Mathlib.Numerals.{add-one}
use native.Mathlib.Omega.{arith}
use lib.ListN.{length, get_or}
use lib.Dec.{ltb}
use borrow.Author.Tests.{lt-ltb, le-ltb}
use Rattle.word.specs.Lists.{any, row}
use Rattle.word.specs.ListLaws.{below_or_not, row_out}
use Rattle.crowding.specs.Crowding.{ends, between, crowded_at, crowded}
use Rattle.crowding.specs.Followers.{followers_of, Holds, over_at, over_row, over_some}
use Rattle.crowding.specs.CountLaws.{between_is}

-- the numbers from m to below b
module _ (f : ℕ → Bool) (m b : ℕ) where
  row_cons : m < b → row m (b - m) ≡ m ∷ row (m + 1) (b - (m + 1))
  row_cons h = go (b - m) (b - (m + 1)) (omega arith)
    where
      go : (i j : ℕ) → i ≡ suc j → row m i ≡ m ∷ row (m + 1) j
      go i j e = rw (e, add-one m) refl

  pub any_here : m < b → f m ≡ true → any f (row m (b - m)) ≡ true
  any_here h e = rw (row_cons h, e) refl

  pub any_later : m < b → f m ≡ false → any f (row m (b - m)) ≡ any f (row (m + 1) (b - (m + 1)))
  any_later h e = rw (row_cons h, e) refl

  pub any_none : b ≤ m → any f (row m (b - m)) ≡ false
  any_none h = go (b - m) (omega arith)
    where
      go : (i : ℕ) → i ≡ 0 → any f (row m i) ≡ false
      go i e = rw e refl

pub any_start : (f : ℕ → Bool) (b : ℕ) → any f (row 0 b) ≡ any f (row 0 (b - 0))
any_start f b = ap (λ (k : ℕ). any f (row 0 k)) (sym (sub-zero b))

any_same : (f g : ℕ → Bool) (l : List ℕ) → ((x : ℕ) → Memᴰ x l → f x ≡ g x) → any f l ≡ any g l
any_same f g [] h = refl
any_same f g (x ∷ l) h =
    ap₂ ◌||◌ (h x (Memᴰ.head refl)) (any_same f g l (λ (y : ℕ) (m : Memᴰ y l). h y (Memᴰ.tail m)))

any_row : (f g : ℕ → Bool) (b : ℕ) → ((x : ℕ) → x < b → f x ≡ g x) → any f (row 0 b) ≡ any g (row 0 b)
any_row f g b h = any_same f g (row 0 b) (λ (x : ℕ) (m : Memᴰ x (row 0 b)). h x (omega (arith, row_out 0 b m)))

-- one comparison
module _ (room high unused : ℕ) (lows : List ℕ) (falls m : ℕ) where
  pub over_here : room * (falls - 1 - m) + unused < high + get_or lows m 0 → over_at room high unused lows falls m ≡ true
  over_here h = lt-ltb (room * (falls - 1 - m) + unused) (high + get_or lows m 0) h

  pub over_not : high + get_or lows m 0 ≤ room * (falls - 1 - m) + unused → over_at room high unused lows falls m ≡ false
  over_not h = le-ltb (room * (falls - 1 - m) + unused) (high + get_or lows m 0) h

below_difference : (p k s : ℕ) → ltb (p + k) s ≡ ltb p (s - k)
below_difference p k s = go (below_or_not (p + k) s)
  where
    go : (p + k < s) ⊎ (s ≤ p + k) → ltb (p + k) s ≡ ltb p (s - k)
    go (inl h) = lt-ltb (p + k) s h ∙ sym (lt-ltb p (s - k) (omega arith))
    go (inr h) = le-ltb (p + k) s h ∙ sym (le-ltb p (s - k) (omega arith))

-- the numbers in memory say whether the word is crowded
pub over_crowded : (rises falls n unused : ℕ) (u rest highs lows : List ℕ) → length rest ≡ unused →
    Holds rises (followers_of true n u rest) highs → Holds falls (followers_of false n u rest) lows →
    over_some unused highs rises lows falls ≡ crowded rises falls n u rest
unfolding crowded crowded_at
over_crowded rises falls n unused u rest highs lows q e f =
    any_row (λ l. over_row (rises - 1 - l) (get_or highs l 0) unused lows falls)
    (λ l. any (crowded_at rises falls n u rest l) (row 0 falls))
    rises
    (λ (l : ℕ) (h : l < rises). any_row (over_at (rises - 1 - l) (get_or highs l 0) unused lows falls) (crowded_at rises falls n u rest l)
    falls (λ (m : ℕ) (k : m < falls). here l m (get_or highs l 0) (get_or lows m 0) (e l h) (f m k)))
  where
    here : (l m a b : ℕ) → a ≡ followers_of true n u rest l → b ≡ followers_of false n u rest m →
        ltb ((rises - 1 - l) * (falls - 1 - m) + unused) (a + b) ≡
        ltb ((rises - 1 - l) * (falls - 1 - m)) (between (ends true n u l) (ends false n u m) rest)
    here l m a b i j =
        let s : a + b - unused ≡ between (ends true n u l) (ends false n u m) rest =
        omega (arith, between_is (ends true n u l) (ends false n u m) rest) in
        below_difference ((rises - 1 - l) * (falls - 1 - m)) unused (a + b) ∙ ap (ltb ((rises - 1 - l) * (falls - 1 - m))) s

-- without an increasing pattern, or without a decreasing one, no word is crowded
pub none_rising : (rises falls n : ℕ) (u rest : List ℕ) → rises ≡ 0 → crowded rises falls n u rest ≡ false
unfolding crowded
none_rising rises falls n u rest e = rw e refl

pub none_falling : (rises falls n : ℕ) (u rest : List ℕ) → falls ≡ 0 → crowded rises falls n u rest ≡ false
unfolding crowded
none_falling rises falls n u rest e = rw e (never (row 0 rises))
  where
    never : (s : List ℕ) → any (λ l. any (crowded_at rises 0 n u rest l) []) s ≡ false
    never [] = refl
    never (x ∷ s) = never s
