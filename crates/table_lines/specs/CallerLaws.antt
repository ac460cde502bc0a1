-- What is kept of an input holds the first bytes of its three lines.
use Rattle.std.specs.Prelude.{ℕ, zero, suc, min, ◌≤◌, ◌<◌, ◌≡◌, refl, false, not, ◌&&◌, cond, List, [], ◌∷◌, ◌⊎◌, length, take, eqb}
use Rattle.std.proofs.Common.{sym, ap, ◌∙◌, arith, inl, inr, take_all, ne_eqb}
use Rattle.std.proofs.Math.Option.{Option, none, some, some-injective, none-ne-some}
use Rattle.word.specs.ListLaws.{below_or_not}
use Rattle.table_lines.specs.Lines.{line, behind, Three, unless_fourth, three_lines}
use Rattle.table_lines.specs.Kept.{set_room, scheme_room, last_room, held, held_length, has_bytes, kept_of, held_lines, three_in}

-- as many bytes of a buffer as are asked for, or all
pub take_least : (l : List ℕ) (a : ℕ) → take (min a (length l)) l ≡ take a l
take_least l a = go (below_or_not a (length l))
  where
    go : (a < length l) ⊎ (length l ≤ a) → take (min a (length l)) l ≡ take a l
    go (inl h) = let k : min a (length l) ≡ a = omega arith in ap (λ (m : ℕ). take m l) k
    go (inr h) =
        let k : min a (length l) ≡ length l = omega arith in
        ap (λ (m : ℕ). take m l) k ∙ take_all (length l) l (omega arith) ∙ sym (take_all a l (omega arith))

-- the kept bytes of a line are its first bytes
pub held_front : (n : ℕ) (l : List ℕ) → take (held_length n l) (held n l) ≡ take n l
unfolding held
held_front zero l = refl
held_front (suc n) [] = refl
held_front (suc n) (b ∷ l) = ap (λ (r : List ℕ). b ∷ r) (held_front n l)

abbrev lines_of : List ℕ → Three
lines_of s = record { set = line 0 s; scheme = line 1 s; last = line 2 s }

-- where there are three lines, they are these
pub three_lines_lem : (s : List ℕ) (t : Three) → three_lines s ≡ some t → t ≡ lines_of s
three_lines_lem s t e = sym (split (line 2 s) (behind 3 s) e)
  where
    split : (l r : List ℕ) → unless_fourth l r (lines_of s) ≡ some t → lines_of s ≡ t
    split [] r p = absurd (none-ne-some t p)
    split (b ∷ l) [] p = some-injective _ _ p
    split (b ∷ l) (c ∷ r) p = absurd (none-ne-some t p)

-- as many bytes of each line as there is room for
abbrev pub fronts : Three → Three
fronts t =
    record {
      set = take set_room t.set;
      scheme = take scheme_room t.scheme;
      last = take last_room t.last;
    }

abbrev pub fronts_if : Option Three → Option Three
fronts_if none = none
fronts_if (some t) = some (fronts t)

held_some : (b : ℕ) (l : List ℕ) → eqb (held_length last_room (b ∷ l)) 0 ≡ false
held_some b l = ne_eqb (held_length last_room (b ∷ l)) 0 (λ (e : held_length last_room (b ∷ l) ≡ 0). omega arith)

-- the three lines in what is kept of an input are the first bytes of its three lines
pub kept_three : (s : List ℕ) → three_in (kept_of s) ≡ fronts_if (three_lines s)
unfolding kept_of
kept_three s = split (line 2 s) (behind 3 s) same
  where
    same : held_lines (kept_of s) ≡ fronts (lines_of s)
    same = rw (held_front set_room (line 0 s), held_front scheme_room (line 1 s), held_front last_room (line 2 s)) refl

    split : (l r : List ℕ) → held_lines (kept_of s) ≡ fronts (lines_of s)
        → cond (not (eqb (held_length last_room l) 0) && not (has_bytes r)) (some (held_lines (kept_of s))) none ≡
        fronts_if (unless_fourth l r (lines_of s))
    split [] r e = refl
    split (b ∷ l) [] e = rw (held_some b l) (ap some e)
    split (b ∷ l) (c ∷ r) e = rw (held_some b l) refl
