-- Laws of the pass over all entries: what it keeps from entry to entry. A code that stands before
-- its place is the code of an earlier entry with the same prefix.
-- Assumes nothing.
use Prim.Native.Nat.{ℕ, zero, suc, ◌+◌, ◌-◌, ◌≤◌, ◌<◌}
use native.Mathlib.Omega.{arith}
use mathlib.Core.Path.{◌≡◌, refl, sym, ap, ap₂, ◌∙◌}
use mathlib.Core.Bool.{Bool, true, false, ◌||◌}
use mathlib.Core.List.{List, map}
use lib.ListN.{length, get_or, take, set, length-set}
use lib.Dec.{eqb}
use Rattle.word.specs.Ceilings.{ENTRIES}
use Rattle.word.specs.Finding.{clean, fault}
use Rattle.word.specs.declared.refusal.Refusal.{Refusal}
use Rattle.word.specs.declared.refusal.Refusal.TheVariants.{Oversize, NoPermutation, Repeated, Width, NoPosition}
use Rattle.word.specs.Lists.{any}
use Rattle.cell.specs.Basis.{same}
use Rattle.forms.specs.SchemeList.{EntryList}
use Rattle.forms.specs.SchemeMemory.{Fault, entry_at, scheme_in, fault_of, or_else, fault_if}
use Rattle.forms.specs.Codes.{IsCode, Codes}
use Rattle.forms.specs.CodeLaws.{code_same, codes_made}
use Rattle.forms.specs.MemoryLaws.{rows_more}
use Rattle.forms.specs.declared.memory.Scheme.{Scheme}
use Rattle.scheme.specs.WellFormed.{first_at, listed, repeats, large_entry, twin_entry, wrong_width}
use Rattle.scheme.specs.TestOrder.{seen}
use Rattle.scheme.specs.WellFormed.{permutation_test, twin_test, width_test, position_test}
use Rattle.scheme.specs.TestLaws.{from, first_from, first_here, first_later, first_end, first_step, twin_from}
use Rattle.scheme.specs.TestLaws.{twin_start, twin_end, twin_step, noted_start, noted_more, noted_end}
use Rattle.scheme.specs.Links.{prefixes_in}
use Rattle.scheme.proofs.LookupLaws.{prefix_at, prefixes_at}
use Rattle.wellformed.specs.EntryPass.{no_faults, twin_by, no_perm, misplaced, WithEntry, EntryFindings}
use Rattle.wellformed.proofs.EntryTestLaws.{large_finding, scheme_by_entries}
use Rattle.wellformed.specs.declared.entry_pass.EntryFaults.{EntryFaults}

-- a test on the items before a place, one place further down
module _ {A : Type 0} (t : A → Bool) (g : ℕ → A) where
  pub seen_here : (j : ℕ) → 0 < j → t (g (j - 1)) ≡ true → any t (seen g j) ≡ true
  seen_here j h e = go j (j - 1) (omega arith) e
    where
      go : (a b : ℕ) → a ≡ suc b → t (g b) ≡ true → any t (seen g a) ≡ true
      go a b q e = rw (q, e) refl

  pub seen_later : (j : ℕ) → 0 < j → t (g (j - 1)) ≡ false → any t (seen g j) ≡ any t (seen g (j - 1))
  seen_later j h e = go j (j - 1) (omega arith) e
    where
      go : (a b : ℕ) → a ≡ suc b → t (g b) ≡ false → any t (seen g a) ≡ any t (seen g b)
      go a b q e = rw (q, e) refl

  pub seen_none : (j : ℕ) → j ≤ 0 → any t (seen g j) ≡ false
  seen_none j h = let e : j ≡ 0 = omega arith in rw e refl

-- the codes of the entries up to the place i
module _ (s : Scheme) (codes : List ℕ) (i : ℕ) (w : (j : ℕ) → j ≤ i → IsCode (prefix_at s j) (get_or codes j 0)) where
  code_compared : (j : ℕ) → j ≤ i → eqb (get_or codes i 0) (get_or codes j 0) ≡ same (prefix_at s i) (prefix_at s j)
  code_compared j k =
      let here = w i (omega arith) in
      let there = w j k in
      rw (here.is, there.is) (code_same (prefix_at s i) (prefix_at s j) here.bytes there.bytes)

  earlier_listed : (j : ℕ) → j ≤ i →
      any (eqb (get_or codes i 0)) (seen (λ n. get_or codes n 0) j) ≡
      listed (map (λ (d : EntryList). d.prefix) (seen (entry_at s) j)) (prefix_at s i)
  earlier_listed zero k = refl
  earlier_listed (suc j) k = ap₂ ◌||◌ (code_compared j (omega arith)) (earlier_listed j (omega arith))

  -- test 4 of an entry, told by the codes
  pub twin_coded : twin_by codes i (entry_at s i) ≡ twin_entry (seen (entry_at s) i) (entry_at s i)
  twin_coded = ap (λ (b : Bool). b || repeats (entry_at s i).gaps) (earlier_listed i (omega arith))

-- the findings so far, and what the entries from place i on add
pub record Findings (s : Scheme) (f : EntryFaults) (i : ℕ) : Type 0 where
  pub none : fault_of (permutation_test (scheme_in s)) ≡ or_else f.none (fault_of (first_from NoPermutation no_perm (entry_at s) s.count i))
  pub twin : fault_of (twin_test (scheme_in s)) ≡ or_else f.twin (fault_of (twin_from twin_entry (entry_at s) s.count i))
  pub width : fault_of (width_test (scheme_in s)) ≡ or_else f.width (fault_of (first_from Width wrong_width (entry_at s) s.count i))
  pub position : fault_of (position_test (scheme_in s)) ≡
      or_else f.position (fault_of (first_from NoPosition misplaced (entry_at s) s.count i))

pub findings_start : (s : Scheme) → Findings s no_faults 0
findings_start s =
    record {
      none = noted_start NoPermutation no_perm (entry_at s) s.count;
      twin = ap fault_of (twin_start twin_entry (entry_at s) s.count);
      width = noted_start Width wrong_width (entry_at s) s.count;
      position = noted_start NoPosition misplaced (entry_at s) s.count;
    }

module _ (s : Scheme) (f : EntryFaults) (i : ℕ) (w : Findings s f i) where
  pub findings_more : (codes : List ℕ) (r : EntryFaults) → ((j : ℕ) → j ≤ i → IsCode (prefix_at s j) (get_or codes j 0)) → i < s.count →
      WithEntry f codes (entry_at s i) i r → Findings s r (i + 1)
  findings_more codes r k h e =
      record {
        none = first NoPermutation no_perm (fault_of (permutation_test (scheme_in s))) f.none r.none w.none e.none;
        twin = noted_more Repeated (λ n. twin_entry (seen (entry_at s) n) (entry_at s n)) s.count
            (twin_from twin_entry (entry_at s) s.count)
            (twin_step (entry_at s) s.count twin_entry) (fault_of (twin_test (scheme_in s))) i f.twin r.twin
            (twin_by codes i (entry_at s i)) h
            w.twin (twin_coded s codes i k) e.twin;
        width = first Width wrong_width (fault_of (width_test (scheme_in s))) f.width r.width w.width e.width;
        position = first NoPosition misplaced (fault_of (position_test (scheme_in s))) f.position r.position w.position e.position;
      }
    where
      first : (q : Refusal) (t : EntryList → Bool) (whole found next : Fault) →
          whole ≡ or_else found (fault_of (first_from q t (entry_at s) s.count i)) →
          next ≡ or_else found (fault_if (t (entry_at s i)) q i) →
          whole ≡ or_else next (fault_of (first_from q t (entry_at s) s.count (i + 1)))
      first q t whole found next a b =
          noted_more q (λ n. t (entry_at s n)) s.count (first_from q t (entry_at s) s.count)
          (first_step (entry_at s) s.count q t) whole i found
          next (t (entry_at s i)) h a refl b

  pub findings_end : s.count ≤ i → EntryFindings (scheme_in s) f
  findings_end h =
      record {
        none = noted_end f.none _ _ (first_end NoPermutation no_perm (entry_at s) s.count i h) w.none;
        twin = noted_end f.twin _ _ (twin_end twin_entry (entry_at s) s.count i h) w.twin;
        width = noted_end f.width _ _ (first_end Width wrong_width (entry_at s) s.count i h) w.width;
        position = noted_end f.position _ _ (first_end NoPosition misplaced (entry_at s) s.count i h) w.position;
      }

-- the pass so far: no entry before the place i is too large, their codes are stored, and the
-- findings are theirs
pub record Pass (s : Scheme) (f : EntryFaults) (codes : List ℕ) (i : ℕ) : Type 0 where
  pub few : s.count ≤ ENTRIES
  pub room : length codes ≡ ENTRIES
  pub inside : i ≤ s.count
  pub large : large_finding (scheme_in s) ≡ first_at Oversize large_entry i (from (entry_at s) s.count i)
  pub coded : (j : ℕ) → j < i → IsCode (prefix_at s j) (get_or codes j 0)
  pub findings : Findings s f i

pub pass_start : (s : Scheme) (f : EntryFaults) (codes : List ℕ) → s.count ≤ ENTRIES → length codes ≡ ENTRIES → f ≡
    no_faults → Pass s f codes 0
pass_start s f codes few room is =
    record {
      few = few;
      room = room;
      inside = omega arith;
      large = scheme_by_entries s few;
      coded = λ j h. absurd (omega arith);
      findings = rw is (findings_start s);
    }

module _ (s : Scheme) (f : EntryFaults) (codes : List ℕ) (i : ℕ) (w : Pass s f codes i) where
  module _ (h : i < s.count) where
    -- the entry at the place is the first that is too large
    pub pass_large : large_entry (entry_at s i) ≡ true → fault Oversize i ≡ large_finding (scheme_in s)
    pass_large e = sym (w.large ∙ first_here Oversize large_entry (entry_at s) s.count i h e)

    module _ (code : ℕ) (is : IsCode (prefix_at s i) code) where
      stored : (j : ℕ) → j < i + 1 → IsCode (prefix_at s j) (get_or (set codes i code) j 0)
      stored = rows_more (λ (j y : ℕ). IsCode (prefix_at s j) y) codes 0 i code
          (let few = w.few in let room = w.room in omega arith) is w.coded

      -- the pass with one entry more
      pub pass_more : (r : EntryFaults) → large_entry (entry_at s i) ≡ false →
          WithEntry f (set codes i code) (entry_at s i) i r → Pass s r (set codes i code) (i + 1)
      pass_more r e more =
          record {
            few = w.few;
            room = length-set codes i code ∙ w.room;
            inside = omega arith;
            large = w.large ∙ first_later Oversize large_entry (entry_at s) s.count i h e;
            coded = stored;
            findings = findings_more s f i w.findings (set codes i code) r (λ j k. stored j (omega arith)) h more;
          }

  -- all entries are looked at
  module _ (h : s.count ≤ i) where
    pub pass_sized : clean ≡ large_finding (scheme_in s)
    pass_sized = sym (w.large ∙ first_end Oversize large_entry (entry_at s) s.count i h)

    pub pass_codes : Codes (prefixes_in s) (take s.count codes)
    pass_codes =
        let made = codes_made (prefix_at s) s.count codes (let few = w.few in let room = w.room in omega arith)
        (λ (j : ℕ) (k : j < s.count). w.coded j (omega arith)) in
        rw (prefixes_at s) made

    pub pass_findings : EntryFindings (scheme_in s) f
    pass_findings = findings_end s f i w.findings h
