-- What a scheme list that passes its tests fits: the writer's bounds in memory, numbers that can be
-- written, a text within its ceiling.
-- Assumes nothing.
use Prim.Native.Nat.{ℕ, suc, ◌+◌, ◌*◌, ◌≤◌, ◌<◌}
use native.Mathlib.Omega.{arith}
use mathlib.Core.Path.{◌≡◌, refl, sym, subst}
use mathlib.Core.Bool.{true, false, not}
use mathlib.Core.List.{List, [], ◌∷◌, map, Memᴰ}
use lib.ListN.{length, get_or, length-append}
use lib.Dec.{leb, eqb}
use borrow.Author.Tests.{le-leb, ne_eqb}
use Rattle.word.specs.Ceilings.{PREFIX, COMPONENTS, GAPS, TOTAL, SCHEME_TEXT}
use Rattle.word.specs.Lists.{all}
use Rattle.word.specs.ListLaws.{and_in, all_in, all_out, row_in}
use Rattle.word.specs.Word.{within}
use Rattle.word.specs.PermLaws.{within_out}
use Rattle.word.specs.Finding.{clean, first_fault}
use Rattle.cell.specs.Cell.{total}
use Rattle.forms.specs.SchemeList.{Does, expands, deletes, EntryList}
use Rattle.scheme.specs.WellFormed.{outside, scheme_tests}
use Rattle.scheme.specs.Proper.{ProperEntry}
use Rattle.scheme.specs.ProperLaws.{proper}
use Rattle.forms.specs.SchemeMemory.{no_entry, gap_in, six_of, positions_in, entry_in, scheme_in}
use Rattle.forms.specs.MemoryLaws.{length_padded}
use Rattle.scheme.specs.TestLaws.{length_items}
use Rattle.forms.specs.declared.memory.Positions.{Positions}
use Rattle.forms.specs.declared.memory.Rule.TheVariants.{Delete}
use Rattle.forms.specs.declared.memory.Entry.{Entry}
use Rattle.forms.specs.declared.memory.Scheme.{Scheme}
use Rattle.forms.specs.SchemeMemory.{gap_at, entry_at}
use Rattle.forms.specs.GapForm.{entry_gap}
use Rattle.scheme.specs.PositionLaws.{positions_inside, positions_some, positions_few}
use Rattle.scheme.proofs.LookupLaws.{set_inside, set_named}
use Rattle.text_grammar.specs.Spelling.{byte, right, digits, numeral, separated, vector_pieces, rule_pieces, entry_pieces}
use Rattle.text_grammar.specs.Spelling.{digit_run, writable_vector, writable_rule, writable_entry, written_scheme}
use Rattle.text_grammar.specs.GrammarLaws.{numeral_one}
use Rattle.text_writer.specs.Writable.{EntryFits, SchemeFits, text}
use Rattle.text_writer.specs.WrittenLaws.{text_one, text_entry}
use Rattle.text_writer.specs.RoomLaws.{component, text_append, bound_separated, bound_braced, bound_perm}
use Rattle.text_writer.proofs.FitLaws.{perm_digits, perm_places}

-- a component is at most the total
part_of_total : {n : ℕ} {b : List ℕ} → Memᴰ n b → n ≤ total b
unfolding total
part_of_total (mathlib.Core.List.Memᴰ.head {x = y} {xs = b} e) = omega arith
part_of_total (mathlib.Core.List.Memᴰ.tail {x = y} {xs = b} m) = let k = part_of_total m in omega arith

-- what the tests leave of an entry in memory is enough for the writer

entry_fits : (e : Entry) → ProperEntry (entry_in e) → EntryFits e
entry_fits e h =
    let a = h.short in
    let c = h.few in
    let size = length_padded e.length e.prefix in
    let short : e.length ≤ PREFIX = omega (arith, a, size) in
    record {
      short = short;
      small = perm_places e.length e.prefix h.perm (omega arith);
      few = omega (arith, c, length_items (gap_at e) e.gap_count);
      fit = λ (i : ℕ) (k : i < e.gap_count).
          let b = entry_gap e i in
          let m : Memᴰ (gap_in b) (entry_in e).gaps =
          mathlib.Core.List.Memᴰ.map (gap_at e) (row_in 0 e.gap_count i (omega arith) (omega arith)) in
          let w = h.wide (gap_in b) m in
          let n : b.width ≡ suc e.length = omega (arith, w, size, length_padded b.width b.parts) in
          record { some = omega arith; narrow = omega arith };
      rule = record {
        fit = λ (d : Positions) (told : e.rule ≡ Delete d).
            let k = length (entry_in e).prefix in
            let inside = set_inside k d e.rule h.inside told in
            record {
              some = omega (arith, positions_some k (positions_in d) inside, length_padded d.count (six_of d));
              few = omega (arith, a, (set_named k d a inside).0);
            };
      };
    }

-- a scheme in memory that passes its tests fits what the writer requires
pub scheme_fit : (s : Scheme) → first_fault (scheme_tests (scheme_in s)) ≡ clean → SchemeFits s
scheme_fit s e =
    let h = proper (scheme_in s) e in
    let few = h.few in
    record {
      few = omega (arith, few, length_items (entry_at s) s.count);
      fit = λ (i : ℕ) (k : i < s.count).
          entry_fits (get_or s.entries i no_entry)
          (h.each (entry_at s i) (mathlib.Core.List.Memᴰ.map (entry_at s) (row_in 0 s.count i (omega arith) (omega arith))));
    }

-- what can be written

-- each position is at most k
position_most : (k : ℕ) (R : List ℕ) → outside k (deletes R) ≡ false → {n : ℕ} → Memᴰ n R → n ≤ k
position_most k R o {n} m = (within_out k n (all_out (within k) m (positions_inside k R o))).1

vector_writable : (k : ℕ) (b : List ℕ) → length b ≡ suc k → total b ≤ TOTAL → writable_vector b ≡ true
vector_writable k b w l =
    and_in (not (eqb (length b) 0)) (all (λ (n : ℕ). leb n 999) b)
    (rw (ne_eqb (length b) 0 (λ (q : length b ≡ 0). omega arith)) refl)
    (all_in (λ (n : ℕ). leb n 999) b (λ (n : ℕ) (m : Memᴰ n b). le-leb n 999 (omega (arith, part_of_total m))))

rule_writable : (k : ℕ) (r : Does) → k ≤ PREFIX → outside k r ≡ false → writable_rule r ≡ true
rule_writable k expands h o = refl
rule_writable k (deletes R) h o =
    and_in (not (eqb (length R) 0)) (all (λ (n : ℕ). leb n 999) R)
    (rw (ne_eqb (length R) 0 (λ (q : length R ≡ 0). omega (arith, positions_some k R o))) refl)
    (all_in (λ (n : ℕ). leb n 999) R (λ (n : ℕ) (m : Memᴰ n R). le-leb n 999 (omega (arith, h, position_most k R o m))))

entry_writable : (e : EntryList) → ProperEntry e → writable_entry e ≡ true
entry_writable e h =
    let short = h.short in
    and_in (digit_run e.prefix) _ (perm_digits e.prefix h.perm (omega arith))
    (and_in (all writable_vector e.gaps) (writable_rule e.rule)
    (all_in writable_vector e.gaps (λ (b : List ℕ) (m : Memᴰ b e.gaps). vector_writable
    (length e.prefix) b (h.wide b m) (h.small b m)))
    (rule_writable (length e.prefix) e.rule short h.inside))

pub scheme_writable : (E : List EntryList) → first_fault (scheme_tests E) ≡ clean → all writable_entry E ≡ true
scheme_writable E e =
    let h = proper E e in
    all_in writable_entry E (λ (x : EntryList) (m : Memᴰ x E). entry_writable x (h.each x m))

-- the length of the text

-- how many bytes fewer than which a vector and an entry have: two for each component or position,
-- and the marks
abbrev VECTOR : ℕ
VECTOR = 2 * COMPONENTS + 7

abbrev ENTRY : ℕ
ENTRY = VECTOR * GAPS + 2 * PREFIX + 19

-- each component and each position is one digit
numbers_short : (b : List ℕ) → ((n : ℕ) → Memᴰ n b → n < 10) → length (text (separated (map component b))) ≤ length b * 2
numbers_short b small =
    bound_separated component 2 b (λ (n : ℕ) (m : Memᴰ n b).
    rw (text_one (digits (numeral n)), numeral_one n (small n m)) (omega arith))

vector_short : (k : ℕ) (b : List ℕ) → k ≤ PREFIX → length b ≡ suc k → total b ≤ TOTAL → length (text (vector_pieces b)) < VECTOR
vector_short k b short w l =
    let parts = numbers_short b (λ (n : ℕ) (m : Memᴰ n b). omega (arith, part_of_total m)) in
    omega (arith, text_append (separated (map component b)) (right ∷ []))

rule_short : (k : ℕ) (r : Does) → k ≤ PREFIX → outside k r ≡ false → length (text (rule_pieces r)) ≤ 2 * PREFIX + 2
rule_short k expands h o = omega arith
rule_short k (deletes R) h o =
    let parts = numbers_short R (λ (n : ℕ) (m : Memᴰ n R). omega (arith, h, position_most k R o m)) in
    omega (arith, positions_few k R o, text_append (separated (map component R)) (byte 0x7D ∷ []))

entry_short : (e : EntryList) → ProperEntry e → length (text (entry_pieces e)) < ENTRY
entry_short e h =
    let short = h.short in
    let few = h.few in
    let gaps = bound_braced vector_pieces VECTOR e.gaps
    (λ (b : List ℕ) (m : Memᴰ b e.gaps). vector_short (length e.prefix) b short (h.wide b m) (h.small b m)) in
    subst
    (λ (t : List ℕ). length t < ENTRY)
    (sym (text_entry e))
    (simp length-append (omega (arith, gaps, bound_perm e.prefix, rule_short (length e.prefix) e.rule short h.inside)))

-- all entries with a comma for each, and two braces
pub scheme_short : (E : List EntryList) → first_fault (scheme_tests E) ≡ clean → length (written_scheme E) ≤ SCHEME_TEXT
scheme_short E e =
    let h = proper E e in
    let few = h.few in
    let whole = bound_braced entry_pieces ENTRY E (λ (x : EntryList) (m : Memᴰ x E). entry_short x (h.each x m)) in
    omega arith
