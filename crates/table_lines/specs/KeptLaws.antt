-- What is kept of an input grows byte by byte.
use Rattle.std.specs.Prelude.{ℕ, zero, suc, ◌+◌, ◌≤◌, ◌<◌, min, ◌≡◌, Bool, true, false, cond, List, [], ◌∷◌, ◌++◌, length, drop, set}
use Rattle.std.specs.Prelude.{get_or, replicate, ltb}
use Rattle.std.proofs.Common.{arith, add-one, ap₂, ◌∙◌, append-nil, append_assoc, drop_of_length-le, drop-cons, ltb-true, ltb-false}
use Rattle.std.proofs.Common.{lt-ltb, le-ltb, eq-eqb, ne_eqb}
use Rattle.std.proofs.Math.Path.{refl, sym, ap}
use Rattle.std.proofs.Math.Seq.{take-nil}
use Rattle.table_lines.specs.declared.input.Lines.{Lines}
use Rattle.table_lines.specs.Lines.{is_end, line, behind}
use Rattle.table_lines.specs.Kept.{set_room, scheme_room, last_room, held, held_length, ends_in, up_to_three}
use Rattle.table_lines.specs.Kept.{has_bytes, Memory, memory_of, kept_of}
use Rattle.table_lines.specs.KeptWalk.{made, ended, with_fourth, stored, next_place, room_in, in_set, in_scheme}
use Rattle.table_lines.specs.KeptWalk.{in_last, byte_at, kept_byte, kept_on}
use Rattle.table_lines.specs.LineLaws.{ends_other, ends_end, line_end, line_same, line_more, behind_none, behind_last, behind_some}

-- the kept bytes of one line

pub held_none : (n : ℕ) → replicate n 0 ≡ held n []
unfolding held
held_none zero = refl
held_none (suc n) = ap (λ (l : List ℕ). 0 ∷ l) (held_none n)

-- by whether there is room
stored_split : (c : Bool) (n : ℕ) (l : List ℕ) (b : ℕ) → ltb (held_length n l) n ≡ c
    → (cond c (set (held n l) (held_length n l) b) (held n l) ≡ held n (l ++ (b ∷ []))) ×
    (cond c (held_length n l + 1) (held_length n l) ≡ held_length n (l ++ (b ∷ [])))
unfolding held
stored_split true n l b h = (more n l (ltb-true (held_length n l) n h), longer n l (ltb-true (held_length n l) n h))
  where
    more : (m : ℕ) (r : List ℕ) → held_length m r < m → set (held m r) (held_length m r) b ≡ held m (r ++ (b ∷ []))
    more zero r k = absurd (omega arith)
    more (suc m) [] k = refl
    more (suc m) (x ∷ r) k = ap (λ (q : List ℕ). x ∷ q) (more m r (omega arith))

    longer : (m : ℕ) (r : List ℕ) → held_length m r < m → held_length m r + 1 ≡ held_length m (r ++ (b ∷ []))
    longer zero r k = absurd (omega arith)
    longer (suc m) [] k = ap (λ (r : List ℕ). suc (length r)) (sym (take-nil m))
    longer (suc m) (x ∷ r) k = let j = longer m r (omega arith) in omega arith
stored_split false n l b h = (full n l (ltb-false (held_length n l) n h), same n l (ltb-false (held_length n l) n h))
  where
    full : (m : ℕ) (r : List ℕ) → m ≤ held_length m r → held m r ≡ held m (r ++ (b ∷ []))
    full zero r k = refl
    full (suc m) [] k = absurd (omega arith)
    full (suc m) (x ∷ r) k = ap (λ (q : List ℕ). x ∷ q) (full m r (omega arith))

    same : (m : ℕ) (r : List ℕ) → m ≤ held_length m r → held_length m r ≡ held_length m (r ++ (b ∷ []))
    same zero r k = refl
    same (suc m) [] k = absurd (omega arith)
    same (suc m) (x ∷ r) k = ap suc (same m r (omega arith))

stored_held : (n : ℕ) (l : List ℕ) (b : ℕ) → stored n (held n l) (held_length n l) b ≡ held n (l ++ (b ∷ []))
stored_held n l b = (stored_split (ltb (held_length n l) n) n l b refl).0

next_held : (n : ℕ) (l : List ℕ) (b : ℕ) → next_place n (held_length n l) ≡ held_length n (l ++ (b ∷ []))
next_held n l b = (stored_split (ltb (held_length n l) n) n l b refl).1

-- a buffer of n places has room for n
held_length_lem : (n : ℕ) (l : List ℕ) → length (held n l) ≡ n
unfolding held
held_length_lem zero l = refl
held_length_lem (suc n) [] = ap suc (held_length_lem n [])
held_length_lem (suc n) (b ∷ l) = ap suc (held_length_lem n l)

room_held : (n : ℕ) (l : List ℕ) → room_in (held n l) n ≡ n
room_held n l = omega (arith, held_length_lem n l)

-- one byte more

-- the same memory, part by part
same_made : {a a' : List ℕ} {n n' : ℕ} {b b' : List ℕ} {m m' : ℕ} {c c' : List ℕ} {l l' : ℕ} {e e' : ℕ} {f f' : Bool}
    → a ≡ a' → n ≡ n' → b ≡ b' → m ≡ m' → c ≡ c' → l ≡ l' → e ≡ e' → f ≡ f' → made a n b m c l e f ≡ made a' n' b' m' c' l' e' f'
same_made p q r s t u v w = rw (p, q, r, s, t, u, v, w) refl

module _ (s : List ℕ) (b : ℕ) where
  -- a line as it was
  held_same : (n k : ℕ) → line k (s ++ (b ∷ [])) ≡ line k s → held n (line k s) ≡ held n (line k (s ++ (b ∷ [])))
  held_same n k e = ap (held n) (sym e)

  length_same : (n k : ℕ) → line k (s ++ (b ∷ [])) ≡ line k s → held_length n (line k s) ≡ held_length n (line k (s ++ (b ∷ [])))
  length_same n k e = ap (held_length n) (sym e)

  -- the line with the byte
  held_grown : (n k : ℕ) → ends_in s ≡ k → is_end b ≡ false →
      stored n (held n (line k s)) (held_length n (line k s)) b ≡ held n (line k (s ++ (b ∷ [])))
  held_grown n k p q = stored_held n (line k s) b ∙ ap (held n) (sym (line_more k s b p q))

  length_grown : (n k : ℕ) → ends_in s ≡ k → is_end b ≡ false →
      next_place n (held_length n (line k s)) ≡ held_length n (line k (s ++ (b ∷ [])))
  length_grown n k p q = next_held n (line k s) b ∙ ap (held_length n) (sym (line_more k s b p q))

  -- a buffer with the byte
  buffer_grown : (n k : ℕ) → ends_in s ≡ k → is_end b ≡ false →
      stored (room_in (held n (line k s)) n) (held n (line k s)) (held_length n (line k s)) b ≡
      held n (line k (s ++ (b ∷ [])))
  buffer_grown n k p q = ap (λ (m : ℕ). stored m (held n (line k s)) (held_length n (line k s)) b)
      (room_held n (line k s)) ∙ held_grown n k p q

  place_grown : (n k : ℕ) → ends_in s ≡ k → is_end b ≡ false →
      next_place (room_in (held n (line k s)) n) (held_length n (line k s)) ≡ held_length n (line k (s ++ (b ∷ [])))
  place_grown n k p q = ap (λ (m : ℕ). next_place m (held_length n (line k s))) (room_held n (line k s)) ∙ length_grown n k p q

  no_fourth : ends_in s < 3 → has_bytes (behind 3 s) ≡ has_bytes (behind 3 (s ++ (b ∷ [])))
  no_fourth k = ap has_bytes (behind_none 3 s k ∙ sym (behind_last 3 s b k))

  ends_same : is_end b ≡ false → up_to_three (ends_in s) ≡ up_to_three (ends_in (s ++ (b ∷ [])))
  ends_same q = ap up_to_three (sym (ends_other s b q))

  -- a line end
  end_kept : (e : ℕ) → ends_in s ≡ e → is_end b ≡ true → e < 3 → up_to_three e + 1 ≡ up_to_three (suc e) →
      ended (kept_of s) ≡ kept_of (s ++ (b ∷ []))
  unfolding kept_of
  end_kept e p q h u =
      let first = line_end 0 s b q in
      let second = line_end 1 s b q in
      let third = line_end 2 s b q in
      same_made (held_same set_room 0 first) (length_same set_room 0 first) (held_same scheme_room 1 second)
      (length_same scheme_room 1 second) (held_same last_room 2 third) (length_same last_room 2 third)
      (ap (λ (x : ℕ). up_to_three x + 1) p ∙ u ∙ ap (λ (x : ℕ). up_to_three (suc x)) (sym p) ∙ ap up_to_three (sym (ends_end s b q)))
      (no_fourth (omega arith))

  -- a byte of the first, of the second, of the third line

  set_kept : ends_in s ≡ 0 → is_end b ≡ false → in_set (kept_of s) b ≡ kept_of (s ++ (b ∷ []))
  unfolding kept_of
  set_kept p q =
      let second = line_same 1 s b (λ (e : ends_in s ≡ 1). omega arith) in
      let third = line_same 2 s b (λ (e : ends_in s ≡ 2). omega arith) in
      same_made (buffer_grown set_room 0 p q) (place_grown set_room 0 p q) (held_same scheme_room 1 second)
      (length_same scheme_room 1 second) (held_same last_room 2 third) (length_same last_room 2 third)
      (ends_same q) (no_fourth (omega arith))

  scheme_kept : ends_in s ≡ 1 → is_end b ≡ false → in_scheme (kept_of s) b ≡ kept_of (s ++ (b ∷ []))
  unfolding kept_of
  scheme_kept p q =
      let first = line_same 0 s b (λ (e : ends_in s ≡ 0). omega arith) in
      let third = line_same 2 s b (λ (e : ends_in s ≡ 2). omega arith) in
      same_made (held_same set_room 0 first) (length_same set_room 0 first) (buffer_grown scheme_room 1 p q)
      (place_grown scheme_room 1 p q) (held_same last_room 2 third) (length_same last_room 2 third)
      (ends_same q) (no_fourth (omega arith))

  last_kept : ends_in s ≡ 2 → is_end b ≡ false → in_last (kept_of s) b ≡ kept_of (s ++ (b ∷ []))
  unfolding kept_of
  last_kept p q =
      let first = line_same 0 s b (λ (e : ends_in s ≡ 0). omega arith) in
      let second = line_same 1 s b (λ (e : ends_in s ≡ 1). omega arith) in
      same_made (held_same set_room 0 first) (length_same set_room 0 first) (held_same scheme_room 1 second)
      (length_same scheme_room 1 second) (held_grown last_room 2 p q) (length_grown last_room 2 p q)
      (ends_same q) (no_fourth (omega arith))

  -- a byte after the third line end
  three_more : (c : Bool) → is_end b ≡ c → (n : ℕ) → ends_in s ≡ suc (suc (suc n)) → up_to_three (ends_in (s ++ (b ∷ []))) ≡ 3
  three_more true q n p = ap up_to_three (ends_end s b q ∙ ap suc p)
  three_more false q n p = ap up_to_three (ends_other s b q ∙ p)

  fourth_kept : (n : ℕ) → ends_in s ≡ suc (suc (suc n)) → with_fourth (kept_of s) ≡ kept_of (s ++ (b ∷ []))
  unfolding kept_of
  fourth_kept n p =
      let first = line_same 0 s b (λ (e : ends_in s ≡ 0). omega arith) in
      let second = line_same 1 s b (λ (e : ends_in s ≡ 1). omega arith) in
      let third = line_same 2 s b (λ (e : ends_in s ≡ 2). omega arith) in
      same_made (held_same set_room 0 first) (length_same set_room 0 first) (held_same scheme_room 1 second)
      (length_same scheme_room 1 second) (held_same last_room 2 third) (length_same last_room 2 third)
      (ap up_to_three p ∙ sym (three_more (is_end b) refl n p)) (sym (behind_some 3 s b (omega arith)))

  by_place : (e : ℕ) → ends_in s ≡ e → (c : Bool) → is_end b ≡ c → byte_at (up_to_three e) c (kept_of s) b ≡ kept_of (s ++ (b ∷ []))
  by_place zero p true q = end_kept 0 p q (omega arith) refl
  by_place zero p false q = set_kept p q
  by_place (suc zero) p true q = end_kept 1 p q (omega arith) refl
  by_place (suc zero) p false q = scheme_kept p q
  by_place (suc (suc zero)) p true q = end_kept 2 p q (omega arith) refl
  by_place (suc (suc zero)) p false q = last_kept p q
  by_place (suc (suc (suc n))) p c q = fourth_kept n p

  pub step_kept : kept_byte (kept_of s) b ≡ kept_of (s ++ (b ∷ []))
  unfolding kept_of
  step_kept = by_place (ends_in s) refl (is_end b) refl

-- a chunk more
pub kept_on_lem : (s chunk : List ℕ) → kept_on (kept_of s) chunk ≡ kept_of (s ++ chunk)
kept_on_lem s [] = ap kept_of (sym (append-nil s))
kept_on_lem s (b ∷ l) =
    ap (λ (m : Memory). kept_on m l) (step_kept s b) ∙ kept_on_lem (s ++ (b ∷ [])) l ∙ ap kept_of (append_assoc s (b ∷ []) l)

pub lines_none : (made [] 0 [] 0 (replicate last_room 0) 0 0 false).lines ≡ (kept_of []).lines
unfolding kept_of
lines_none = ap (λ (l : List ℕ). (made [] 0 [] 0 l 0 0 false).lines) (held_none last_room)

-- two buffers of zeros hold what is kept of no bytes
pub kept_none : memory_of (kept_of []).lines (replicate set_room 0) (replicate scheme_room 0) ≡ kept_of []
unfolding kept_of
kept_none = ap₂ (λ (a b : List ℕ). memory_of (kept_of []).lines a b) (held_none set_room) (held_none scheme_room)

-- The loop over a chunk: what is to come is the chunk from the index on, and the buffers have the
-- room that they had.
pub record Walk (start : Memory) (chunk : List ℕ) (sets schemes : ℕ) (m : Memory) (i : ℕ) : Type 0 where
  pub within : i ≤ length chunk
  pub set_size : length m.set ≡ length start.set
  pub scheme_size : length m.scheme ≡ length start.scheme
  pub set_known : sets ≡ room_in m.set set_room
  pub scheme_known : schemes ≡ room_in m.scheme scheme_room
  pub rest : kept_on m (drop i chunk) ≡ kept_on start chunk

module _ {start : Memory} {chunk : List ℕ} {n k : ℕ} {m : Memory} {i : ℕ} (w : Walk start chunk n k m i) where
  pub turn : (next : Memory) → i < length chunk → length next.set ≡ length m.set → length next.scheme ≡ length m.scheme
      → kept_byte m (get_or chunk i 0) ≡ next → Walk start chunk n k next (i + 1)
  turn next h a b e =
      record {
        within = omega arith;
        set_size = a ∙ w.set_size;
        scheme_size = b ∙ w.scheme_size;
        set_known = w.set_known ∙ ap (λ (l : ℕ). min l set_room) (sym a);
        scheme_known = w.scheme_known ∙ ap (λ (l : ℕ). min l scheme_room) (sym b);
        rest =
            ap (λ (x : Memory). kept_on x (drop (i + 1) chunk)) (sym e)
            ∙ ap (λ (j : ℕ). kept_on (kept_byte m (get_or chunk i 0)) (drop j chunk)) (add-one i)
            ∙ ap (kept_on m) (sym (drop-cons chunk i 0 h)) ∙ w.rest;
      }

  pub chunk_end : length chunk ≤ i → m ≡ kept_on start chunk
  chunk_end h = ap (kept_on m) (sym (drop_of_length-le chunk {i = i} h)) ∙ w.rest

-- the turns, as the code takes them

module _ (k : Lines) (xs ys : List ℕ) (b : ℕ) where
  abbrev memory : Memory
  memory = memory_of k xs ys

  at_place : (e : ℕ) (c : Bool) → k.ends ≡ e → is_end b ≡ c → kept_byte memory b ≡ byte_at e c memory b
  at_place e c p q = rw (p, q) refl

  pub turn_fourth : 3 ≤ k.ends → kept_byte memory b ≡ with_fourth memory
  turn_fourth h = by k.ends refl h
    where
      by : (e : ℕ) → k.ends ≡ e → 3 ≤ e → kept_byte memory b ≡ with_fourth memory
      by zero p g = absurd (omega arith)
      by (suc zero) p g = absurd (omega arith)
      by (suc (suc zero)) p g = absurd (omega arith)
      by (suc (suc (suc n))) p g = at_place (suc (suc (suc n))) (is_end b) p refl

  pub turn_end : k.ends < 3 → b ≡ 0x0A → kept_byte memory b ≡ ended memory
  turn_end h e = by k.ends refl h
    where
      by : (n : ℕ) → k.ends ≡ n → n < 3 → kept_byte memory b ≡ ended memory
      by zero p g = at_place 0 true p (eq-eqb b 0x0A e)
      by (suc zero) p g = at_place 1 true p (eq-eqb b 0x0A e)
      by (suc (suc zero)) p g = at_place 2 true p (eq-eqb b 0x0A e)
      by (suc (suc (suc n))) p g = absurd (omega arith)

  -- a byte is stored where there is room, and dropped where there is none

  pub turn_set : k.ends ≡ 0 → (b ≡ 0x0A → ⊥) → k.set_length < room_in xs set_room
      → kept_byte memory b ≡ made (set xs k.set_length b) (k.set_length + 1) ys k.scheme_length
      k.last k.last_length k.ends k.fourth
  turn_set p q h = at_place 0 false p (ne_eqb b 0x0A q) ∙ rw (lt-ltb k.set_length (room_in xs set_room) h) refl

  pub drop_set : k.ends ≡ 0 → (b ≡ 0x0A → ⊥) → room_in xs set_room ≤ k.set_length → kept_byte memory b ≡ memory
  drop_set p q h = at_place 0 false p (ne_eqb b 0x0A q) ∙ rw (le-ltb k.set_length (room_in xs set_room) h) refl

  pub turn_scheme : k.ends ≡ 1 → (b ≡ 0x0A → ⊥) → k.scheme_length < room_in ys scheme_room
      → kept_byte memory b ≡ made xs k.set_length (set ys k.scheme_length b) (k.scheme_length + 1)
      k.last k.last_length k.ends k.fourth
  turn_scheme p q h = at_place 1 false p (ne_eqb b 0x0A q) ∙ rw (lt-ltb k.scheme_length (room_in ys scheme_room) h) refl

  pub drop_scheme : k.ends ≡ 1 → (b ≡ 0x0A → ⊥) → room_in ys scheme_room ≤ k.scheme_length → kept_byte memory b ≡ memory
  drop_scheme p q h = at_place 1 false p (ne_eqb b 0x0A q) ∙ rw (le-ltb k.scheme_length (room_in ys scheme_room) h) refl

  pub turn_last : k.ends ≡ 2 → (b ≡ 0x0A → ⊥) → k.last_length < last_room
      → kept_byte memory b ≡ made xs k.set_length ys k.scheme_length (set k.last k.last_length b)
      (k.last_length + 1) k.ends k.fourth
  turn_last p q h = at_place 2 false p (ne_eqb b 0x0A q) ∙ rw (lt-ltb k.last_length last_room h) refl

  pub drop_last : k.ends ≡ 2 → (b ≡ 0x0A → ⊥) → last_room ≤ k.last_length → kept_byte memory b ≡ memory
  drop_last p q h = at_place 2 false p (ne_eqb b 0x0A q) ∙ rw (le-ltb k.last_length last_room h) refl
