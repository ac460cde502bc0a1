-- The sheet that was written is the sheet that is read, and it is a plan with the places of the
-- entries.
-- Assumes nothing.
use Prim.Native.Nat.{ℕ, zero, suc, ◌+◌, ◌*◌, ◌%◌, ◌≤◌, ◌<◌}
use native.Mathlib.Nat.{mod-eq_of_lt}
use native.Mathlib.Omega.{arith}
use mathlib.Core.Path.{◌≡◌, refl, sym, ap, ap₂, ◌∙◌, subst}
use mathlib.Core.Bool.{Bool, true, false, not, cond}
use mathlib.Core.List.{List, [], ◌∷◌, map}
use lib.ListN.{length, get_or, drop, length-drop}
use lib.Seq.{length-take-le, get_or-take, get_or-drop, ext_get_or}
use lib.Dec.{eqb}
use Rattle.word.specs.Ceilings.{ENTRIES, PREFIX, COMPONENTS, PARTS, LINKS}
use Rattle.word.specs.Lists.{row}
use Rattle.word.specs.Word.{avoids, has, entry}
use Rattle.cell.specs.Cell.{deleted}
use Rattle.cell.specs.Child.{child_at}
use Rattle.spacing.specs.Sizes.{NEAR}
use Rattle.spacing.specs.Flagged.{flagged}
use Rattle.forms.specs.SchemeList.{Does, expands, deletes}
use Rattle.forms.specs.SchemeMemory.{no_entry, scheme_in}
use Rattle.forms.specs.GapRows.{gaps_of}
use Rattle.forms.specs.GapRowLaws.{gaps_stand}
use Rattle.forms.specs.declared.memory.Scheme.{Scheme}
use Rattle.scheme.specs.Links.{prefixes_in}
use Rattle.scheme.specs.PositionLaws.{positions_some, positions_few}
use Rattle.placing.specs.Lookup.{VALUES, Flags}
use Rattle.spacing.specs.FlaggedLaws.{flagged_has}
use Rattle.verdict.specs.ValueLaws.{child_listed, target_listed}
use Rattle.count_plan.specs.Layout.{entry_at, prefix_at, length_at, place_at}
use Rattle.count_plan.specs.LayoutLaws.{prefix_length, entry_member, entry_short, gaps_few, gap_width, count_few}
use Rattle.count_plan.specs.Plan.{LeadsTo, SameValues, RulePlan, Planned, Plan, Places}
use Rattle.scheme.specs.Proper.{Proper}
use Rattle.count_plan.specs.Cards.{index_in, RuleCard}
use Rattle.count_plan.specs.SheetSizes.{FLAGS, FIELDS, HEAD, CARD, SHEET}
use Rattle.count_plan.specs.SheetForm.{head_of, CardFor, SheetTo}
use Rattle.count_plan.specs.SheetRows.{field_of, parts_at, flags_at, gaps_at, Names, RuleRow, Row, Sheet, link_at, links_at, item_of}
use Rattle.count_plan.specs.declared.cards.Card.{Card}
use Rattle.count_plan.proofs.CardLaws.{found_names, expands_short, positions}

-- the links in the first bytes
head_link : (t : Card) (n a : ℕ) → a < LINKS → get_or (head_of t n) (FIELDS + a) 0 ≡ get_or t.links a 0 % 256
head_link t n zero h = refl
head_link t n (suc zero) h = refl
head_link t n (suc (suc zero)) h = refl
head_link t n (suc (suc (suc zero))) h = refl
head_link t n (suc (suc (suc (suc zero)))) h = refl
head_link t n (suc (suc (suc (suc (suc zero))))) h = refl
head_link t n (suc (suc (suc (suc (suc (suc zero)))))) h = refl
head_link t n (suc (suc (suc (suc (suc (suc (suc zero))))))) h = refl
head_link t n (suc (suc (suc (suc (suc (suc (suc (suc a)))))))) h = absurd (omega arith)

-- the flags in the first bytes
head_flag : (t : Card) (n v : ℕ) → v < COMPONENTS → get_or (head_of t n) (FLAGS + v) 0 ≡ get_or t.gone v 0
head_flag t n zero h = refl
head_flag t n (suc zero) h = refl
head_flag t n (suc (suc zero)) h = refl
head_flag t n (suc (suc (suc zero))) h = refl
head_flag t n (suc (suc (suc (suc zero)))) h = refl
head_flag t n (suc (suc (suc (suc (suc zero))))) h = refl
head_flag t n (suc (suc (suc (suc (suc (suc zero)))))) h = refl
head_flag t n (suc (suc (suc (suc (suc (suc (suc v))))))) h = absurd (omega arith)

-- the part of the sheet that holds the flags of an entry
pub flags_long : (sheet : List ℕ) (e : ℕ) → e < ENTRIES → length sheet ≡ SHEET → length (flags_at sheet e) ≡ COMPONENTS
flags_long sheet e h long =
    length-take-le COMPONENTS (drop (CARD * e + FLAGS) sheet) (omega (arith, length-drop (CARD * e + FLAGS) sheet))

-- the part of the sheet that holds the gap vectors of an entry
pub parts_long : (sheet : List ℕ) (e : ℕ) → e < ENTRIES → length sheet ≡ SHEET → length (parts_at sheet e) ≡ PARTS
parts_long sheet e h long =
    length-take-le PARTS (drop (CARD * e + HEAD) sheet) (omega (arith, length-drop (CARD * e + HEAD) sheet))

module _ (P : List (List ℕ)) (s : Scheme) (proper : Proper (scheme_in s)) (sheet : List ℕ) (long : length sheet ≡ SHEET) (e : ℕ)
    (inside : e < s.count) (c : CardFor P s e sheet) where
  count_is_lem : field_of sheet e 3 ≡ (get_or s.entries e no_entry).gap_count
  count_is_lem = c.written.head 3 (omega arith) ∙ mod-eq_of_lt (let h = gaps_few s proper e inside in omega arith)

  parts_are : parts_at sheet e ≡ (get_or s.entries e no_entry).gaps
  parts_are =
      let size = parts_long sheet e (omega (arith, count_few s proper)) long in
      ext_get_or 0 (parts_at sheet e) (get_or s.entries e no_entry).gaps (size ∙ sym c.written.long)
      (λ (f : ℕ) (h : f < length (parts_at sheet e)). at f (omega arith))
    where
      at : (f : ℕ) → f < PARTS → get_or (parts_at sheet e) f 0 ≡ get_or (get_or s.entries e no_entry).gaps f 0
      at f h = get_or-take PARTS (drop (CARD * e + HEAD) sheet) f 0 h ∙ get_or-drop (CARD * e + HEAD) sheet f 0 ∙ c.written.gaps f h

  gaps_are : gaps_at sheet e (length_at s e) ≡ (entry_at s e).gaps
  gaps_are =
      ap₂ (λ (parts : List ℕ) (n : ℕ). gaps_of parts (length_at s e + 1) n) parts_are count_is_lem ∙
      gaps_stand (get_or s.entries e no_entry) (length_at s e + 1) (get_or s.entries e no_entry).gap_count c.written.long
      (omega (arith, entry_short s proper e inside)) (gaps_few s proper e inside) (gap_width s proper e inside)

  link_is : (a d : ℕ) → a < LINKS → get_or c.card.links a 0 ≡ d → d < ENTRIES → field_of sheet e (FIELDS + a) ≡ d
  link_is a d h q l =
      c.written.head (FIELDS + a) (omega arith) ∙
      head_link c.card (get_or s.entries e no_entry).gap_count a h ∙ ap (λ n. n % 256) q ∙
      mod-eq_of_lt (omega arith)

  -- the flags are those of the card, so they are of the values at the deleted positions
  flags_gone : (R : List ℕ) → Flags c.card.gone VALUES (λ v. has v (map (entry (prefix_at s e)) R)) →
      length (prefix_at s e) ≤ PREFIX →
      SameValues (length (prefix_at s e)) (flagged (flags_at sheet e) (length (prefix_at s e))) (map (entry (prefix_at s e)) R)
  flags_gone R x short v low high =
      flagged_has (flags_at sheet e) (length (prefix_at s e)) v low high ∙ ap (λ n. not (eqb n 0)) (at v (omega arith)) ∙
      x v (omega arith)
    where
      moved : (v : ℕ) → CARD * e + FLAGS + v ≡ CARD * e + (FLAGS + v)
      moved v = omega arith

      at : (v : ℕ) → v < COMPONENTS → get_or (flags_at sheet e) v 0 ≡ get_or c.card.gone v 0
      at v h =
          get_or-take COMPONENTS (drop (CARD * e + FLAGS) sheet) v 0 h ∙ get_or-drop (CARD * e + FLAGS) sheet v 0 ∙
          ap (λ n. get_or sheet n 0) (moved v) ∙ c.written.head (FLAGS + v) (omega arith) ∙
          head_flag c.card (get_or s.entries e no_entry).gap_count v h

  small : (x y : ℕ) → x ≡ y → y ≤ PREFIX → x % 256 ≡ y
  small x y q h = mod-eq_of_lt (omega arith) ∙ q

  rule_row : (rule : Does) → (entry_at s e).rule ≡ rule → RuleCard P (prefixes_in s) (prefix_at s e) rule c.card →
      (field_of sheet e 0 ≡ length_at s e) × RuleRow P s (prefix_at s e) rule sheet e
  rule_row expands r x =
      let short = expands_short s proper e inside r in
      let pl = prefix_length s e in (
        c.written.head 0 (omega arith) ∙ small c.card.length (length_at s e) (x.size ∙ pl) (omega arith),
        (
          c.written.head 1 (omega arith) ∙ small c.card.deleted 0 x.none (omega arith),
          c.written.head 2 (omega arith) ∙ mod-eq_of_lt (one (avoids P (prefix_at s e)) x.alone) ∙ x.alone,
          omega arith,
          λ (a : ℕ) (h : a ≤ length (prefix_at s e)). child a h,
        ),
      )
    where
      one : (b : Bool) → c.card.alone ≡ cond b 1 0 → c.card.alone < 256
      one true q = omega arith
      one false q = omega arith

      child : (a : ℕ) → a ≤ length (prefix_at s e) → Names s (child_at (prefix_at s e) (suc a)) (field_of sheet e (FIELDS + a))
      child a h =
          let short = expands_short s proper e inside r in
          let names = found_names s (child_at (prefix_at s e) (suc a))
          (child_listed [] (scheme_in s) proper (entry_at s e) (entry_member s e inside) r (suc a) (omega arith) (omega arith)) in
          subst (λ (d : ℕ). Names s (child_at (prefix_at s e) (suc a)) d)
          (sym (link_is a _ (omega (arith, prefix_length s e)) (x.links.at a (omega arith))
          (omega (arith, names.inside, count_few s proper)))) names
  rule_row (deletes R) r x =
      let short = entry_short s proper e inside in
      let pl = prefix_length s e in
      let o = positions s proper e inside R r in
      let few = positions_few (length (prefix_at s e)) R o in
      let names = found_names s (deleted R (prefix_at s e))
      (target_listed [] (scheme_in s) proper (entry_at s e) (entry_member s e inside) R r) in (
        c.written.head 0 (omega arith) ∙ small c.card.length (length_at s e) (x.size ∙ pl) short,
        (
          c.written.head 1 (omega arith) ∙ small c.card.deleted (length R) x.number (omega arith),
          positions_some (length (prefix_at s e)) R o,
          few,
          flags_gone R x.gone (omega arith),
          subst (λ (d : ℕ). Names s (deleted R (prefix_at s e)) d) (sym
              (link_is 0 _ (omega arith) x.link (omega (arith, names.inside, count_few s proper)))) names,
        ),
      )

  pub row_of : Row P s sheet e
  row_of =
      let (size, rule) = rule_row (entry_at s e).rule refl c.is in
      record { size = size; few = omega (arith, count_is_lem, gaps_few s proper e inside); gaps = gaps_are; rule = rule }

-- the sheet of a scheme, by what was written
abbrev pub sheet_of : (P : List (List ℕ)) (s : Scheme) (sheet : List ℕ) → Proper (scheme_in s) → SheetTo P s s.count sheet → Sheet sheet
sheet_of P s sheet proper t =
    record {
      P = P;
      s = s;
      proper = proper;
      long = t.long;
      rows =
          λ (e : ℕ) (h : e < s.count). row_of P s proper sheet t.long e h (t.cards e h);
    }

-- the entry for ε
pub root_names : (s : Scheme) → Proper (scheme_in s) → Names s [] (index_in (prefixes_in s) [])
root_names s proper = found_names s [] proper.root

-- The plan

-- an index with its place
pub names_lead : (n : ℕ) (s : Scheme) (places q : List ℕ) (d : ℕ) → Places n s places → Names s q d → LeadsTo n s q (get_or places d 0)
names_lead n s places q d p names =
    record {
      inside = omega (arith, names.inside, names.is);
      named = ap (prefix_at s) (sym names.is) ∙ names.named;
      placed = p.at d (omega (arith, names.inside)) ∙ ap (place_at n s) names.is;
    }

module _ (sheet places : List ℕ) (e : ℕ) where
  pub link_at_lem : (a : ℕ) → a < LINKS → get_or (links_at sheet places e) a 0 ≡ link_at sheet places e a
  link_at_lem zero h = refl
  link_at_lem (suc zero) h = refl
  link_at_lem (suc (suc zero)) h = refl
  link_at_lem (suc (suc (suc zero))) h = refl
  link_at_lem (suc (suc (suc (suc zero)))) h = refl
  link_at_lem (suc (suc (suc (suc (suc zero))))) h = refl
  link_at_lem (suc (suc (suc (suc (suc (suc zero)))))) h = refl
  link_at_lem (suc (suc (suc (suc (suc (suc (suc zero))))))) h = refl
  link_at_lem (suc (suc (suc (suc (suc (suc (suc (suc a)))))))) h = absurd (omega arith)

  pub links_near : ((i : ℕ) → get_or places i 0 ≤ NEAR) → (a : ℕ) → get_or (links_at sheet places e) a 0 ≤ NEAR
  links_near near a = go (row 0 LINKS) a
    where
      go : (l : List ℕ) (a : ℕ) → get_or (map (link_at sheet places e) l) a 0 ≤ NEAR
      go [] a = omega arith
      go (x ∷ l) zero = near (field_of sheet e (FIELDS + x))
      go (x ∷ l) (suc a) = go l a

module _ (n : ℕ) (P : List (List ℕ)) (s : Scheme) (sheet places : List ℕ) (e : ℕ) (inside : e < s.count) (p : Places n s places) where
  rule_plan : (rule : Does) → field_of sheet e 0 ≡ length (prefix_at s e) → RuleRow P s (prefix_at s e) rule sheet e →
      RulePlan n P s (prefix_at s e) rule (item_of sheet places e)
  rule_plan expands size (none, alone, short, names) = (
    none,
    alone,
    λ (a : ℕ) (h : a ≤ length (prefix_at s e)).
        subst (λ (x : ℕ). LeadsTo n s (child_at (prefix_at s e) (suc a)) x) (sym (link_at_lem sheet places e a (omega arith)))
        (names_lead n s places (child_at (prefix_at s e) (suc a)) (field_of sheet e (FIELDS + a)) p (names a h)),
  )
  rule_plan (deletes R) size (number, low, high, same, names) = (
    number,
    low,
    subst (λ (k : ℕ). SameValues (length (prefix_at s e)) (flagged (flags_at sheet e) k) (map (entry (prefix_at s e)) R)) (sym size) same,
    names_lead n s places (deleted R (prefix_at s e)) (field_of sheet e FIELDS) p names,
  )

  pub planned_row : Row P s sheet e → Planned n P s e (item_of sheet places e)
  planned_row r =
      record {
        size = r.size;
        placed = p.at e (omega arith);
        rule = rule_plan (entry_at s e).rule (r.size ∙ sym (prefix_length s e)) r.rule;
        near = links_near sheet places e p.near;
        long = refl;
        gaps = ap (gaps_at sheet e) r.size ∙ r.gaps;
      }

-- the sheet of a scheme and the places of its entries are the plan of a count
pub sheet_plan : (n : ℕ) (sheet places : List ℕ) (o : Sheet sheet) → Places n o.s places → Plan n o.P o.s (item_of sheet places)
sheet_plan n sheet places o p e inside = planned_row n o.P o.s sheet places e inside p (o.rows e inside)
