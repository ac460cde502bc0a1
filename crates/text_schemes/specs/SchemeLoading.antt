-- A scheme list in memory has the first fault of the list itself, and where there is none it stands
-- for that list.
use Rattle.std.specs.Prelude.{ℕ, suc, ◌+◌, ◌≤◌, ◌<◌, ◌≡◌, refl, ◌⊎◌, Bool, true, false, not, cond, ◌||◌, length, get_or, replicate, ltb}
use Rattle.std.proofs.Common.{arith, sym, ap, ap₂, ◌∙◌, inl, inr, ltb-false, lt-ltb}
use mathlib.Core.List.{List, [], ◌∷◌, ◌++◌, map, map-map, Memᴰ}
use Rattle.std.proofs.lemmas.List.{length-map}
use Rattle.word.specs.Ceilings.{ENTRIES, PREFIX, COMPONENTS, GAPS, TOTAL}
use Rattle.word.specs.Lists.{row, any}
use Rattle.word.specs.ListLaws.{below_or_not}
use Rattle.word.specs.Word.{is_perm}
use Rattle.word.specs.Finding.{Finding, clean, fault, test, first_fault}
use Rattle.word.specs.declared.refusal.Refusal.{Refusal}
use Rattle.word.specs.declared.refusal.Refusal.TheVariants.{NoPermutation, Repeated, Rootless, Width, NoPosition, Childless, NoTarget}
use Rattle.cell.specs.Cell.{total}
use Rattle.forms.specs.SchemeList.{Does, EntryList}
use Rattle.scheme.specs.WellFormed.{first_at, first_twin, listed, repeats, large_gap, large_entry, twin_entry, wrong_width}
use Rattle.scheme.specs.WellFormed.{outside, lacks_child, lacks_target, scheme_tests}
use Rattle.forms.specs.SchemeMemory.{padded, parts_at, no_entry, entry_in, scheme_in}
use Rattle.text_patterns.specs.PatternMemory.{filled}
use Rattle.text_patterns.specs.PatternLoading.{places_same, places_length, places_kept, take_filled}
use Rattle.text_patterns.specs.PatternLoading.{first_kept, all_kept, NoneLarge, sized_faults, sized_same}
use Rattle.text_gaps.specs.GapMemory.{part_of, parts_of, parts_of_all, widths_of}
use Rattle.text_gaps.specs.GapMemoryLaws.{part_same, part_most, kept_parts, kept_width}
use Rattle.text_schemes.specs.SchemeLoaded.{entry_of, plain_entry, loaded_scheme}
use Rattle.text_schemes.specs.RuleLoading.{few_kept, many_kept, kept_rule, outside_kept, rule_kept}
use Rattle.forms.specs.MemoryLaws.{length_padded}
use Rattle.scheme.specs.TestLaws.{or_left, or_right, length_items}
use Rattle.scheme.specs.FindingLaws.{clean_in, clean_right, first_out}

-- components as bytes

-- all components are kept, or both totals are beyond every bound that is tested
capped : (b : List ℕ) → (map part_of b ≡ b) ⊎ ((255 ≤ total (map part_of b)) × (255 ≤ total b))
unfolding total
capped [] = inl refl
capped (x ∷ b) = step (below_or_not 255 x) (capped b)
  where
    Result : Type 0
    Result = (map part_of (x ∷ b) ≡ x ∷ b) ⊎ ((255 ≤ part_of x + total (map part_of b)) × (255 ≤ x + total b))

    step : (255 < x) ⊎ (x ≤ 255) → (map part_of b ≡ b) ⊎ ((255 ≤ total (map part_of b)) × (255 ≤ total b)) → Result
    step (inl h) r = inr (omega (arith, part_most x h), omega arith)
    step (inr h) (inl e) = inl (ap₂ ◌∷◌ (part_same x h) e)
    step (inr h) (inr (p, q)) = inr (omega arith, omega arith)

-- one vector in memory: up to 7 components all are there as bytes, and of more the number is large

abbrev kept_gap : List ℕ → List ℕ
kept_gap b = padded (part_of (length b)) (parts_of b)

short_gap : (b : List ℕ) → length b ≤ COMPONENTS → kept_gap b ≡ map part_of b
short_gap b h = few_kept COMPONENTS b (omega arith) h

large_part : (b : List ℕ) → ltb TOTAL (total (map part_of b)) ≡ ltb TOTAL (total b)
large_part b = step (capped b)
  where
    step : (map part_of b ≡ b) ⊎ ((255 ≤ total (map part_of b)) × (255 ≤ total b)) → ltb TOTAL (total (map part_of b)) ≡ ltb TOTAL (total b)
    step (inl e) = ap (λ (c : List ℕ). ltb TOTAL (total c)) e
    step (inr (p, q)) = lt-ltb TOTAL (total (map part_of b)) (omega arith) ∙ sym (lt-ltb TOTAL (total b) (omega arith))

large_gap_kept : (b : List ℕ) → large_gap (kept_gap b) ≡ large_gap b
large_gap_kept b = step (below_or_not COMPONENTS (length b))
  where
    long : (c : List ℕ) → COMPONENTS < length c → large_gap c ≡ true
    long c h = ap (λ (t : Bool). t || ltb TOTAL (total c)) (lt-ltb COMPONENTS (length c) h)

    step : (COMPONENTS < length b) ⊎ (length b ≤ COMPONENTS) → large_gap (kept_gap b) ≡ large_gap b
    step (inl h) = long (kept_gap b) (many_kept COMPONENTS b (parts_of b) (omega arith) h) ∙ sym (long b h)
    step (inr h) = ap large_gap (short_gap b h) ∙ ap₂ ◌||◌ (ap (ltb COMPONENTS) (length-map b part_of)) (large_part b)

small_gap_same : (b : List ℕ) → large_gap b ≡ false → kept_gap b ≡ b
small_gap_same b e = short_gap b (ltb-false COMPONENTS (length b)
    (or_left (ltb COMPONENTS (length b)) (ltb TOTAL (total b)) e)) ∙ step (capped b)
  where
    small : total b ≤ TOTAL
    small = ltb-false TOTAL (total b) (or_right (ltb COMPONENTS (length b)) (ltb TOTAL (total b)) e)

    step : (map part_of b ≡ b) ⊎ ((255 ≤ total (map part_of b)) × (255 ≤ total b)) → map part_of b ≡ b
    step (inl k) = k
    step (inr (p, q)) = absurd (omega (arith, small))

-- the vectors of one entry

any_large_kept : (B : List (List ℕ)) → any large_gap (map kept_gap B) ≡ any large_gap B
any_large_kept [] = refl
any_large_kept (b ∷ B) = ap₂ ◌||◌ (large_gap_kept b) (any_large_kept B)

none_large_same : (B : List (List ℕ)) → any large_gap B ≡ false → map kept_gap B ≡ B
none_large_same [] e = refl
none_large_same (b ∷ B) e =
    ap₂ ◌∷◌ (small_gap_same b (or_left (large_gap b) (any large_gap B) e)) (none_large_same B (or_right (large_gap b) (any large_gap B) e))

abbrev kept_at : List (List ℕ) → ℕ → List ℕ
kept_at B j = padded (get_or (widths_of B) j 0) (parts_at (parts_of_all B) j)

abbrev kept_gaps : List (List ℕ) → List (List ℕ)
kept_gaps B = map (kept_at B) (row 0 (length B))

length_gaps : (B : List (List ℕ)) → length (kept_gaps B) ≡ length B
length_gaps B = length_items (kept_at B) (length B)

few_gaps : (B : List (List ℕ)) → length B ≤ GAPS → kept_gaps B ≡ map kept_gap B
few_gaps B h =
    places_same (kept_at B) kept_gap [] B (λ (j : ℕ) (k : j < length B). ap₂ padded (kept_width B j k (omega arith))
    (kept_parts B j k (omega arith)))

abbrev large_gaps : List (List ℕ) → Bool
large_gaps B = ltb GAPS (length B) || any large_gap B

large_gaps_kept : (B : List (List ℕ)) → large_gaps (kept_gaps B) ≡ large_gaps B
large_gaps_kept B = step (below_or_not GAPS (length B))
  where
    many : (C : List (List ℕ)) → GAPS < length C → large_gaps C ≡ true
    many C h = ap (λ (t : Bool). t || any large_gap C) (lt-ltb GAPS (length C) h)

    step : (GAPS < length B) ⊎ (length B ≤ GAPS) → large_gaps (kept_gaps B) ≡ large_gaps B
    step (inl h) = many (kept_gaps B) (omega (arith, length_gaps B)) ∙ sym (many B h)
    step (inr h) = ap₂ ◌||◌ (ap (ltb GAPS) (length_gaps B)) (ap (any large_gap) (few_gaps B h) ∙ any_large_kept B)

small_gaps_same : (B : List (List ℕ)) → large_gaps B ≡ false → kept_gaps B ≡ B
small_gaps_same B e =
    few_gaps B (ltb-false GAPS (length B) (or_left (ltb GAPS (length B)) (any large_gap B) e))
    ∙ none_large_same B (or_right (ltb GAPS (length B)) (any large_gap B) e)

-- one entry in memory

abbrev kept_entry : EntryList → EntryList
kept_entry e = entry_in (entry_of e)

large_entry_kept : (e : EntryList) → large_entry (kept_entry e) ≡ large_entry e
large_entry_kept e =
    ap₂ ◌||◌ (ap (ltb PREFIX) (length_padded (length e.prefix) (filled PREFIX 0 e.prefix))) (large_gaps_kept e.gaps)

-- its prefix and its gap vectors are there as they are where it is not large, and its rule as
-- memory has it
abbrev known_entry : EntryList → EntryList
known_entry e = record { prefix = e.prefix; gaps = e.gaps; rule = kept_rule e.rule }

short_prefix : (e : EntryList) → large_entry e ≡ false → length e.prefix ≤ PREFIX
short_prefix e h = ltb-false PREFIX (length e.prefix) (or_left (ltb PREFIX (length e.prefix)) (large_gaps e.gaps) h)

small_entry_known : (e : EntryList) → large_entry e ≡ false → kept_entry e ≡ known_entry e
small_entry_known e h =
    let p : padded (length e.prefix) (filled PREFIX 0 e.prefix) ≡ e.prefix =
    take_filled PREFIX e.prefix (replicate (length e.prefix) 0) (short_prefix e h) in
    let g : kept_gaps e.gaps ≡ e.gaps = small_gaps_same e.gaps (or_right (ltb PREFIX (length e.prefix)) (large_gaps e.gaps) h) in
    rw (p, g) refl

-- the entries in memory: their number is true, and up to ENTRIES all are there

loaded_length : (E : List EntryList) → length (scheme_in (loaded_scheme E)) ≡ length E
unfolding loaded_scheme
loaded_length E = places_length entry_of entry_in (entry_of plain_entry) no_entry ENTRIES E

loaded_kept : (E : List EntryList) → length E ≤ ENTRIES → scheme_in (loaded_scheme E) ≡ map kept_entry E
unfolding loaded_scheme
loaded_kept E h = places_kept entry_of entry_in (entry_of plain_entry) no_entry ENTRIES E h

-- the tests after those of the size: before that of the positions, that one, and those behind it
abbrev front_tests : List EntryList → List Finding
front_tests E =
    first_at NoPermutation (λ e. not (is_perm e.prefix)) 0 E ∷ first_twin twin_entry 0 [] E ∷
    test Rootless (not (listed (map (λ e. e.prefix) E) [])) ∷ first_at Width wrong_width 0 E ∷ []

abbrev outside_entry : EntryList → Bool
outside_entry e = outside (length e.prefix) e.rule

abbrev link_tests : List EntryList → List Finding
link_tests E =
    let ps = map (λ e. e.prefix) E in
    first_at Childless (λ e. lacks_child ps e.prefix e.rule) 0 E ∷ first_at NoTarget (λ e. lacks_target ps e.prefix e.rule) 0 E ∷ []

abbrev scheme_rest : List EntryList → List Finding
scheme_rest E = front_tests E ++ (first_at NoPosition outside_entry 0 E ∷ link_tests E)

-- what stands behind a fault is not seen
fault_hides : (l x y : List Finding) (r : Refusal) (i : ℕ) → first_fault (l ++ (fault r i ∷ x)) ≡ first_fault (l ++ (fault r i ∷ y))
fault_hides [] x y r i = refl
fault_hides (clean ∷ l) x y r i = fault_hides l x y r i
fault_hides (fault s j ∷ l) x y r i = refl

-- the tests before that of the positions see no rule
prefixes_known : (E : List EntryList) → map (λ e. e.prefix) (map known_entry E) ≡ map (λ e. e.prefix) E
prefixes_known E = map-map (λ (e : EntryList). e.prefix) known_entry E

twins_known : (i : ℕ) (seen E : List EntryList) →
    first_twin twin_entry i (map known_entry seen) (map known_entry E) ≡ first_twin twin_entry i seen E
twins_known i seen [] = refl
twins_known i seen (e ∷ E) =
    ap₂ (λ (b : Bool) (f : Finding). cond b (fault Repeated i) f)
    (ap (λ (ps : List (List ℕ)). listed ps e.prefix || repeats e.gaps) (prefixes_known seen)) (twins_known (suc i) (e ∷ seen) E)

front_known : (E : List EntryList) → front_tests (map known_entry E) ≡ front_tests E
front_known E =
    joined (first_kept known_entry NoPermutation (λ e. not (is_perm e.prefix)) 0 E (λ _ _. refl)) (twins_known 0 [] E)
    (ap (λ (ps : List (List ℕ)). test Rootless (not (listed ps []))) (prefixes_known E))
    (first_kept known_entry Width wrong_width 0 E (λ _ _. refl))
  where
    joined : {a b c d p q r s : Finding} → a ≡ p → b ≡ q → c ≡ r → d ≡ s → (a ∷ b ∷ c ∷ d ∷ []) ≡ (p ∷ q ∷ r ∷ s ∷ [])
    joined e f g h = cc

entries_known : (F : List EntryList) → NoneLarge large_entry F → map kept_entry F ≡ map known_entry F
entries_known [] h = refl
entries_known (e ∷ F) h =
    ap₂ ◌∷◌ (small_entry_known e (h e (Memᴰ.head refl)))
    (entries_known F (λ (d : EntryList) (m : Memᴰ d F). h d (Memᴰ.tail m)))

-- a list of entries none of which is large
module _ (E : List EntryList) (small : NoneLarge large_entry E) where
  position_known : first_at NoPosition outside_entry 0 (map known_entry E) ≡ first_at NoPosition outside_entry 0 E
  position_known =
      first_kept known_entry NoPosition outside_entry 0 E
      (λ (e : EntryList) (m : Memᴰ e E). outside_kept (length e.prefix) e.rule (short_prefix e (small e m)))

  -- where no position lies outside, the entries are in memory as they are
  known_same : first_at NoPosition outside_entry 0 E ≡ clean → map known_entry E ≡ E
  known_same h =
      all_kept known_entry E (λ (e : EntryList) (m : Memᴰ e E).
      ap (λ (r : Does). record { prefix = e.prefix; gaps = e.gaps; rule = r })
      (rule_kept (length e.prefix) e.rule (short_prefix e (small e m)) (first_out NoPosition outside_entry 0 h m)))

  rest_kept : first_fault (scheme_rest (map kept_entry E)) ≡ first_fault (scheme_rest E)
  rest_kept =
      ap (λ (F : List EntryList). first_fault (scheme_rest F)) (entries_known E small)
      ∙ step (first_at NoPosition outside_entry 0 E) refl
    where
      step : (f : Finding) → first_at NoPosition outside_entry 0 E ≡ f
          → first_fault (scheme_rest (map known_entry E)) ≡ first_fault (scheme_rest E)
      step clean e = ap (λ (F : List EntryList). first_fault (scheme_rest F)) (known_same e)
      step (fault r i) e =
          ap₂ (λ (l : List Finding) (f : Finding). first_fault (l ++ (f ∷ link_tests (map known_entry E)))) (front_known E)
          (position_known ∙ e)
          ∙ fault_hides (front_tests E) (link_tests (map known_entry E)) (link_tests E) r i
          ∙ ap (λ (f : Finding). first_fault (front_tests E ++ (f ∷ link_tests E))) (sym e)

  rest_same : first_fault (scheme_rest E) ≡ clean → map kept_entry E ≡ E
  rest_same h =
      let behind = clean_right (front_tests E) (first_at NoPosition outside_entry 0 E ∷ link_tests E) h in
      entries_known E small
      ∙ known_same (clean_in (first_at NoPosition outside_entry 0 E ∷ link_tests E) (Memᴰ.head refl) behind)

-- the first fault of the entries in memory is that of the list
pub loaded_scheme_faults : (E : List EntryList) → first_fault (scheme_tests (scheme_in (loaded_scheme E))) ≡ first_fault (scheme_tests E)
loaded_scheme_faults E =
    sized_faults large_entry kept_entry large_entry_kept ENTRIES scheme_rest E
    (scheme_in (loaded_scheme E)) (loaded_length E) (loaded_kept E) (rest_kept E)

-- a list with no fault is in memory as it is
pub loaded_scheme_same : (E : List EntryList) → first_fault (scheme_tests E) ≡ clean → scheme_in (loaded_scheme E) ≡ E
loaded_scheme_same E =
    sized_same large_entry kept_entry large_entry_kept ENTRIES scheme_rest E
    (scheme_in (loaded_scheme E)) (loaded_length E) (loaded_kept E) (rest_same E)
