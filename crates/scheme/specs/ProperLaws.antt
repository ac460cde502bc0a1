-- What the tests 2 to 9 leave: of each pattern, and of each entry by itself.
use Rattle.std.specs.Prelude.{ℕ, suc, ◌≤◌, ◌<◌, ◌≡◌, refl, Bool, true, false, not, cond, ◌||◌, ◌⊎◌, length, ltb, eqb}
use Rattle.std.proofs.Common.{arith, sym, ap, ◌∙◌, inl, inr, ltb-false, eqb-true}
use mathlib.Core.List.Memᴰ
use mathlib.Core.List.{List, [], ◌∷◌, Memᴰ}
use Rattle.word.specs.Ceilings.{DIGITS, PATTERNS, ENTRIES, PREFIX, COMPONENTS, GAPS, TOTAL}
use Rattle.word.specs.Lists.{any}
use Rattle.word.specs.Word.{is_perm}
use Rattle.word.specs.ListLaws.{true_not_false, any_in, row_in, below_or_not}
use Rattle.word.specs.Patterns.{is_pattern}
use Rattle.word.specs.Finding.{clean, first_fault}
use Rattle.word.specs.declared.refusal.Refusal.TheVariants.{Oversize, NoPermutation, Rootless, Width, NoPosition, Childless, NoTarget}
use Rattle.cell.specs.Basis.{same}
use Rattle.cell.specs.Cell.{total, children}
use Rattle.cell.proofs.BuiltCells.{same_out}
use Rattle.cell.specs.Child.{child_at}
use Rattle.cell.proofs.ChildLaws.{child_length, children_all}
use Rattle.forms.specs.SchemeList.{expands, EntryList}
use Rattle.forms.specs.SchemeMemory.{entry_at, scheme_in}
use Rattle.forms.specs.declared.memory.Scheme.{Scheme}
use Rattle.scheme.specs.WellFormed.{listed, large_gap, large_entry, wrong_width, outside, lacks_child}
use Rattle.scheme.specs.WellFormed.{lacks_target, pattern_tests, scheme_tests, prefixes}
use Rattle.scheme.specs.WellFormed.{count_test, size_test, permutation_test, twin_test, root_test, width_test}
use Rattle.scheme.specs.WellFormed.{position_test, child_test, target_test}
use Rattle.scheme.specs.TestLaws.{or_left, or_right, clean_cons, single, length_items}
use Rattle.scheme.specs.Proper.{ProperPattern, ProperEntry, Proper}
use Rattle.scheme.specs.FindingLaws.{clean_in, clean_test, first_out, none_out, none_in}

-- a negated test that fails
not_false : (b : Bool) → not b ≡ false → b ≡ true
not_false true e = refl
not_false false e = sym e

pattern_perm : (β : List ℕ) → is_pattern β ≡ true → is_perm β ≡ true
pattern_perm β e = go (eqb (length β) 0) e
  where
    go : (b : Bool) → cond b false (is_perm β) ≡ true → is_perm β ≡ true
    go true h = absurd (true_not_false (sym h))
    go false h = h

module _ (P : List (List ℕ)) (e : first_fault (pattern_tests P) ≡ clean) where
  pub few_patterns : length P ≤ PATTERNS
  few_patterns = ltb-false PATTERNS (length P) (clean_test Oversize (ltb PATTERNS (length P))
      (clean_in (pattern_tests P) (Memᴰ.head refl) e))

  pub proper_pattern : (β : List ℕ) → Memᴰ β P → ProperPattern β
  proper_pattern β m =
      let long = first_out Oversize (λ (α : List ℕ). ltb DIGITS (length α)) 0
      (clean_in (pattern_tests P) (Memᴰ.tail (Memᴰ.head refl)) e) m in
      let none = first_out NoPermutation (λ (α : List ℕ). not (is_pattern α)) 0
      (clean_in (pattern_tests P) (Memᴰ.tail (Memᴰ.tail (Memᴰ.head refl))) e) m in
      record {
        perm = pattern_perm β (not_false (is_pattern β) none);
        short = ltb-false DIGITS (length β) long;
      }

-- Of a scheme list: each test, by its name, finds nothing

record Passed (E : List EntryList) : Type 0 where
  pub count : count_test E ≡ clean
  pub size : size_test E ≡ clean
  pub permutation : permutation_test E ≡ clean
  pub root : root_test E ≡ clean
  pub width : width_test E ≡ clean
  pub position : position_test E ≡ clean
  pub child : child_test E ≡ clean
  pub target : target_test E ≡ clean

passed : (E : List EntryList) → first_fault (scheme_tests E) ≡ clean → Passed E
passed E e =
    let links = child_test E ∷ target_test E ∷ [] in
    let (a, e₁) = clean_cons (count_test E) (size_test E ∷ permutation_test E ∷ twin_test E ∷ root_test E ∷ width_test
    E ∷ position_test E ∷ links) e in
    let (b, e₂) = clean_cons (size_test E) (permutation_test E ∷ twin_test E ∷ root_test E ∷ width_test E ∷ position_test E ∷ links) e₁ in
    let (c, e₃) = clean_cons (permutation_test E) (twin_test E ∷ root_test E ∷ width_test E ∷ position_test E ∷ links) e₂ in
    let (d, e₄) = clean_cons (twin_test E) (root_test E ∷ width_test E ∷ position_test E ∷ links) e₃ in
    let (f, e₅) = clean_cons (root_test E) (width_test E ∷ position_test E ∷ links) e₄ in
    let (g, e₆) = clean_cons (width_test E) (position_test E ∷ links) e₅ in
    let (h, e₇) = clean_cons (position_test E) links e₆ in
    let (i, e₈) = clean_cons (child_test E) (target_test E ∷ []) e₇ in
    record {
      count = a;
      size = b;
      permutation = c;
      root = f;
      width = g;
      position = h;
      child = i;
      target = sym (single (target_test E)) ∙ e₈;
    }

-- no list of prefixes has a longer one than all of them
module _ (ps : List (List ℕ)) (short : (p : List ℕ) → Memᴰ p ps → length p ≤ PREFIX) where
  long_unlisted : (q : List ℕ) → PREFIX < length q → listed ps q ≡ false
  long_unlisted q h = none_in (same q) ps (λ (p : List ℕ) (m : Memᴰ p ps). other p (short p m))
    where
      other : (p : List ℕ) → length p ≤ PREFIX → same q p ≡ false
      other p k = go (same q p) refl
        where
          go : (b : Bool) → same q p ≡ b → b ≡ false
          go true t = let size : length q ≡ length p = ap length (same_out q p t) in absurd (omega arith)
          go false t = refl

  -- so a prefix of length PREFIX lacks its children
  pub all_childless : (p : List ℕ) → is_perm p ≡ true → length p ≡ PREFIX → any (λ q. not (listed ps q)) (children p) ≡ true
  all_childless p e h =
      any_in (λ q. not (listed ps q)) (children_all p 1 e (omega arith) (omega arith))
      (ap not (long_unlisted (child_at p 1) (omega (arith, child_length p 1))))

module _ (E : List EntryList) (e : first_fault (scheme_tests E) ≡ clean) where
  tests : Passed E
  tests = passed E e

  module _ (d : EntryList) (m : Memᴰ d E) where
    large : large_entry d ≡ false
    large = first_out Oversize large_entry 0 tests.size m

    gaps : ltb GAPS (length d.gaps) || any large_gap d.gaps ≡ false
    gaps = or_right (ltb PREFIX (length d.prefix)) (ltb GAPS (length d.gaps) || any large_gap d.gaps) large

    short : length d.prefix ≤ PREFIX
    short =
        ltb-false PREFIX (length d.prefix)
        (or_left (ltb PREFIX (length d.prefix)) (ltb GAPS (length d.gaps) || any large_gap d.gaps) large)

    perm : is_perm d.prefix ≡ true
    perm = not_false (is_perm d.prefix) (first_out NoPermutation (λ (x : EntryList). not (is_perm x.prefix)) 0 tests.permutation m)

    childless : lacks_child (prefixes E) d.prefix d.rule ≡ false
    childless = first_out Childless (λ (x : EntryList). lacks_child (prefixes E) x.prefix x.rule) 0 tests.child m

  all_short : (p : List ℕ) → Memᴰ p (prefixes E) → length p ≤ PREFIX
  all_short p m = let (d, n, q) = Memᴰ.of_map (λ (x : EntryList). x.prefix) E m in rw (← q) (short d n)

  shorter : (d : EntryList) → Memᴰ d E → d.rule ≡ expands → length d.prefix < PREFIX
  shorter d m r = go (below_or_not (length d.prefix) PREFIX)
    where
      go : (length d.prefix < PREFIX) ⊎ (PREFIX ≤ length d.prefix) → length d.prefix < PREFIX
      go (inl h) = h
      go (inr h) =
          let lacks : lacks_child (prefixes E) d.prefix expands ≡ false = rw r at (childless d m) in
          let long : length d.prefix ≡ PREFIX = omega (arith, short d m) in
          absurd (true_not_false (sym (all_childless (prefixes E) all_short d.prefix (perm d m) long) ∙ lacks))

  proper_entry : (d : EntryList) → Memᴰ d E → ProperEntry d
  proper_entry d m =
      let sizes = or_right (ltb GAPS (length d.gaps)) (any large_gap d.gaps) (gaps d m) in
      let wrong = first_out Width wrong_width 0 tests.width m in
      record {
        perm = perm d m;
        short = short d m;
        few = ltb-false GAPS (length d.gaps) (or_left (ltb GAPS (length d.gaps)) (any large_gap d.gaps) (gaps d m));
        wide = λ (b : List ℕ) (n : Memᴰ b d.gaps).
            eqb-true (length b) (suc (length d.prefix))
            (not_false (eqb (length b) (suc (length d.prefix)))
            (none_out (λ (x : List ℕ). not (eqb (length x) (suc (length d.prefix)))) wrong n));
        small = λ (b : List ℕ) (n : Memᴰ b d.gaps).
            ltb-false TOTAL (total b) (or_right (ltb COMPONENTS (length b)) (ltb TOTAL (total b)) (none_out large_gap sizes n));
        inside = first_out NoPosition (λ (x : EntryList). outside (length x.prefix) x.rule) 0 tests.position m;
        shorter = shorter d m;
      }

  -- what the tests leave, made once
  pub proper : Proper E
  proper =
      record {
        few = ltb-false ENTRIES (length E) (clean_test Oversize (ltb ENTRIES (length E)) tests.count);
        each = proper_entry;
        root = not_false (listed (prefixes E) []) (clean_test Rootless (not (listed (prefixes E) [])) tests.root);
        child = childless;
        target = λ (d : EntryList) (m : Memᴰ d E).
            first_out NoTarget (λ (x : EntryList). lacks_target (prefixes E) x.prefix x.rule) 0 tests.target m;
      }

-- the same in memory
module _ (s : Scheme) (h : Proper (scheme_in s)) where
  pub proper_count : s.count ≤ ENTRIES
  proper_count = omega (arith, h.few, length_items (entry_at s) s.count)

  entry_in_lem : (i : ℕ) → i < s.count → Memᴰ (entry_at s i) (scheme_in s)
  entry_in_lem i k = Memᴰ.map (entry_at s) (row_in 0 s.count i (omega arith) (omega arith))

  pub proper_at : (i : ℕ) → i < s.count → ProperEntry (entry_at s i)
  proper_at i k = h.each (entry_at s i) (entry_in_lem i k)
