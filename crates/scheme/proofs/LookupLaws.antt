-- Laws of looking a prefix up, and of the tests 8 and 9 on one entry.
-- Assumes nothing.
use Prim.Native.Nat.{ℕ, suc, ◌+◌, ◌-◌, ◌≤◌, ◌<◌}
use native.Mathlib.Numerals.{add-one}
use native.Mathlib.Omega.{arith}
use mathlib.Core.Path.{◌≡◌, refl, sym, ap, ◌∙◌}
use mathlib.Core.Bool.{Bool, true, false, not, ◌||◌, cond}
use mathlib.Core.List.{List, [], ◌∷◌, map, map-map, Memᴰ}
use mathlib.Core.Option.{Option, none, some}
use lib.ListN.{length, get_or, take, drop, drop_of_length-le}
use lib.Seq.{drop-cons}
use lib.Dec.{ltb, eqb}
use borrow.Author.Tests.{not-false, ltb-false, eq-eqb, ne_eqb}
use Rattle.word.specs.Ceilings.{ENTRIES, PREFIX}
use Rattle.word.specs.Lists.{any, row}
use Rattle.word.specs.Word.{is_perm}
use Rattle.word.specs.Finding.{clean}
use Rattle.word.specs.declared.refusal.Refusal.TheVariants.{Oversize, NoPermutation, NoPosition}
use Rattle.cell.specs.Basis.{same}
use Rattle.cell.specs.Cell.{deleted, children}
use Rattle.cell.specs.Child.{child_at}
use Rattle.forms.specs.SchemeList.{deletes, EntryList}
use Rattle.forms.specs.SchemeMemory.{padded, no_entry, six_of, positions_in, entry_in, does_of, scheme_in}
use Rattle.scheme.specs.WellFormed.{first_at, listed, large_entry, outside, lacks_child, lacks_target}
use Rattle.scheme.specs.Links.{find_from, find_in, find_code_from, find_code, found_of, present, prefixes_in, FindsIn, Linked}
use Rattle.forms.specs.declared.memory.Positions.{Positions}
use Rattle.forms.specs.declared.memory.Rule.{Rule}
use Rattle.forms.specs.declared.memory.Rule.TheVariants.{Expand, Delete}
use Rattle.forms.specs.declared.memory.Scheme.{Scheme}
use Rattle.std.specs.Prelude.{Option as Found, is_some}
use Rattle.scheme.specs.TestLaws.{first_clean, any_from, or_left}
use Rattle.scheme.specs.PositionLaws.{positions_few}
use Rattle.forms.specs.MemoryLaws.{padded_within, length_padded}
use Rattle.forms.specs.Codes.{code_of, Bytes, IsCode}
use Rattle.forms.specs.CodeLaws.{code_same}
use Rattle.scheme.proofs.PrefixLaws.{any_child}

-- Looking up

-- a list is listed exactly if it is found
pub listed_found : (i : ℕ) (ps : List (List ℕ)) (q : List ℕ) → listed ps q ≡ present (find_from i ps q)
unfolding find_from
listed_found i [] q = refl
listed_found i (p ∷ ps) q = go (same q p) (listed_found (suc i) ps q)
  where
    go : (b : Bool) → listed ps q ≡ present (find_from (suc i) ps q) → b || listed ps q ≡ present (cond b (some i) (find_from (suc i) ps q))
    go true e = refl
    go false e = e

pub found_listed : (ps : List (List ℕ)) (q : List ℕ) → is_some (found_of (find_in ps q)) ≡ listed ps q
found_listed ps q = go (find_in ps q) ∙ sym (listed_found 0 ps q)
  where
    go : (o : Option ℕ) → is_some (found_of o) ≡ present o
    go none = refl
    go (some i) = refl

-- the entry with index i, and its prefix
abbrev pub entry_at : Scheme → ℕ → EntryList
entry_at s i = entry_in (get_or s.entries i no_entry)

abbrev pub prefix_at : Scheme → ℕ → List ℕ
prefix_at s i = padded (get_or s.entries i no_entry).length (get_or s.entries i no_entry).prefix

pub prefixes_at : (s : Scheme) → prefixes_in s ≡ map (prefix_at s) (row 0 s.count)
prefixes_at s = map-map (λ (e : EntryList). e.prefix) (entry_at s) (row 0 s.count)

-- the codes from place i on
module _ (codes : List ℕ) (c : ℕ) where
  unfoldable pub code_from : ℕ → Option ℕ
  unfolding find_code_from
  code_from i = find_code_from i (drop i codes) c

  pub code_start : find_code codes c ≡ code_from 0
  unfolding code_from
  code_start = refl

  code_cons : (i : ℕ) → i < length codes → code_from i ≡ cond (eqb c (get_or codes i 0)) (some i) (code_from (i + 1))
  unfolding code_from find_code_from
  code_cons i h = rw (drop-cons codes i 0 h, add-one i) refl

  pub code_here : (i : ℕ) → i < length codes → c ≡ get_or codes i 0 → code_from i ≡ some i
  code_here i h e = code_cons i h ∙ rw (eq-eqb c (get_or codes i 0) e) refl

  pub code_later : (i : ℕ) → i < length codes → (c ≡ get_or codes i 0 → ⊥) → code_from i ≡ code_from (i + 1)
  code_later i h e = code_cons i h ∙ rw (ne_eqb c (get_or codes i 0) e) refl

  pub code_end : (i : ℕ) → length codes ≤ i → code_from i ≡ none
  unfolding code_from find_code_from
  code_end i h = rw (drop_of_length-le codes h) refl

-- looking a code up is looking the prefix up
find_each : (i : ℕ) (ps : List (List ℕ)) (q : List ℕ) → Bytes q → ((p : List ℕ) → Memᴰ p ps → Bytes p) →
    find_code_from i (map code_of ps) (code_of q) ≡ find_from i ps q
unfolding find_code_from find_from
find_each i [] q b h = refl
find_each i (p ∷ ps) q b h =
    rw (
      code_same q p b (h p (Memᴰ.head refl)),
      find_each (suc i) ps q b (λ (x : List ℕ) (m : Memᴰ x ps). h x (Memᴰ.tail m)),
    ) refl

pub find_coded : (codes q : List ℕ) (c : ℕ) → IsCode q c → (r : Found ℕ) → r ≡ found_of (find_code codes c) → FindsIn codes q r
find_coded codes q c k r e ps w =
    let there : find_code codes c ≡ find_in ps q = rw (w.each, k.is) (find_each 0 ps q k.bytes w.bytes) in
    e ∙ ap found_of there

-- Children

-- a prefix is not among these
abbrev pub unlisted : List (List ℕ) → List ℕ → Bool
unlisted ps q = not (listed ps q)

-- the same, by the child's last entry
abbrev pub missing : List (List ℕ) → List ℕ → ℕ → Bool
missing ps p a = unlisted ps (child_at p a)

-- the children of a prefix, by their last entries from 1 on
pub children_start : (t : List ℕ → Bool) (p : List ℕ) → is_perm p ≡ true →
    any t (children p) ≡ any_from (λ a. t (child_at p a)) (length p + 2) 1
unfolding any_from
children_start t p e =
    let n : suc (length p) ≡ (length p + 2) - 1 = omega arith in
    any_child t p e ∙ ap (λ n. any (λ a. t (child_at p a)) (row 1 n)) n

-- The tests on one entry

module _ (ps : List (List ℕ)) (l : List ℕ) (k : ℕ) (rule : Rule) where
  pub expand_child : k ≤ length l → rule ≡ Expand → lacks_child ps (padded k l) (does_of rule) ≡
      any (λ q. not (listed ps q)) (children (take k l))
  expand_child h e = rw (e, padded_within k l h) refl

  pub delete_target : (d : Positions) → k ≤ length l → rule ≡ Delete d →
      lacks_target ps (padded k l) (does_of rule) ≡ not (listed ps (deleted (positions_in d) (take k l)))
  delete_target d h e = rw (e, padded_within k l h) refl

-- a set of positions that passes test 7
pub set_inside : (k : ℕ) (d : Positions) (rule : Rule) → outside k (does_of rule) ≡ false → rule ≡ Delete d →
    outside k (deletes (positions_in d)) ≡ false
set_inside k d rule h e = sym (ap (λ (x : Rule). outside k (does_of x)) e) ∙ h

-- there are no more of them than have a name
pub set_named : (k : ℕ) (d : Positions) → k ≤ PREFIX → outside k (deletes (positions_in d)) ≡ false →
    (d.count ≤ k) × (positions_in d ≡ take d.count (six_of d))
set_named k d short h =
    let few : d.count ≤ k = omega (arith, positions_few k (positions_in d) h, length_padded d.count (six_of d)) in
    (few, padded_within d.count (six_of d) (omega (arith, length_padded PREFIX d.positions)))

-- What the tests 2, 3 and 7 leave

-- a scheme in which they find nothing
pub linked_clean : (s : Scheme) → s.count ≤ ENTRIES → first_at Oversize large_entry 0 (scheme_in s) ≡ clean →
    first_at NoPermutation (λ (e : EntryList). not (is_perm e.prefix)) 0 (scheme_in s) ≡ clean →
    first_at NoPosition (λ (e : EntryList). outside (length e.prefix) e.rule) 0 (scheme_in s) ≡ clean → Linked s
linked_clean s h large none-perm none_out =
    record {
      counted = h;
      linked = λ (i : ℕ) (k : i < s.count). record {
        short = small i (first_clean (entry_at s) Oversize large_entry s.count i large k);
        perm = not-false (is_perm (prefix_at s i))
            (first_clean (entry_at s) NoPermutation (λ (e : EntryList). not (is_perm e.prefix)) s.count i none-perm k);
        inside = inner i (first_clean (entry_at s) NoPosition
            (λ (e : EntryList). outside (length e.prefix) e.rule) s.count i none_out k);
      };
    }
  where
    size : (i : ℕ) → length (prefix_at s i) ≡ (get_or s.entries i no_entry).length
    size i = length_padded (get_or s.entries i no_entry).length (get_or s.entries i no_entry).prefix

    small : (i : ℕ) → large_entry (entry_at s i) ≡ false → (get_or s.entries i no_entry).length ≤ PREFIX
    small i e = omega (arith, size i, ltb-false PREFIX (length (prefix_at s i)) (or_left (ltb PREFIX (length (prefix_at s i))) _ e))

    inner : (i : ℕ) → outside (length (prefix_at s i)) (entry_at s i).rule ≡ false →
        outside (get_or s.entries i no_entry).length (entry_at s i).rule ≡ false
    inner i e = ap (λ (n : ℕ). outside n (entry_at s i).rule) (sym (size i)) ∙ e
