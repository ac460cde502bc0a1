-- Laws of the answers: what is refused, what is put on the page, and what that says of the first
-- and of the next avoider.
use Prim.Native.Nat.{ℕ, ◌≤◌}
use Rattle.std.proofs.Common.{zero-add, ◌∙◌, arith}
use Rattle.std.specs.Prelude.{◌≡◌, refl, Bool, true, false, length, take, drop, Ok, Err}
use Rattle.std.proofs.Math.Path.{sym, ap, fun_ext}
use mathlib.Core.List.{List, ◌++◌, Memᴰ}
use Rattle.std.proofs.Math.Option.{Option, none, some}
use Rattle.std.proofs.Math.Seq.{take-append_seam, drop-append_seam}
use Rattle.word.specs.Lists.{keep, first}
use Rattle.word.specs.ListLaws.{true_not_false}
use Rattle.word.specs.Word.{is_perm, avoiders, perms, before}
use Rattle.word.specs.Listing.{head_of, first_avoider, next_avoider}
use Rattle.word.specs.ListingLaws.{first_given, first_none_avoids, next_given, next_none}
use Rattle.word.specs.Finding.{Finding, clean, fault, first_fault}
use Rattle.cell.specs.Basis.{basis}
use Rattle.cell.proofs.BasisLaws.{basis_avoids}
use Rattle.forms.specs.SchemeMemory.{Fault, fault_of, faulty}
use Rattle.text_page.specs.Page.{overlay}
use Rattle.text_page.specs.PageLaws.{overlay_whole}
use Rattle.lexicographic.specs.Answers.{Listed, first_tests, next_tests, answered, listed_or, Puts, Lists, ListsFirst, ListsNext}

-- a refused call: the page is as it was
pub lists_refused : (f : Finding) (o : Option (List ℕ)) (n : ℕ) (page : List ℕ) (r : Listed) →
    r ≡ listed_or (fault_of f) → faulty (fault_of f) ≡ true → Lists f o n page page r
lists_refused clean o n page r e h = absurd (true_not_false (sym h))
lists_refused (fault v i) o n page r e h = record {
  answer = e;
  numbers = rw e refl;
  written = refl;
  front = λ g. cc;
  rest = λ g. cc;
}

-- an avoider put on the page, or nothing
pub puts_some : (o : Option (List ℕ)) (w page after : List ℕ) → o ≡ some w → after ≡ overlay 0 w page → Puts o page after (Ok true)
puts_some o w page after e q = rw e (record { answer = refl; written = q })

pub puts_none : (o : Option (List ℕ)) (page after : List ℕ) → o ≡ none → after ≡ page → Puts o page after (Ok false)
puts_none o page after e q = rw e (record { answer = refl; written = q })

-- two answers that differ
other : ◌≡◌ {A = Listed} (Ok false) (Ok true) → ⊥
other e = cc

-- what was put on the page
pub lists_put : (f : Finding) (o : Option (List ℕ)) (n : ℕ) (page after : List ℕ) (r : Listed) → f ≡ clean → Puts o page after r →
    ((w : List ℕ) → o ≡ some w → length w ≡ n) → n ≤ length page → Lists f o n page after r
lists_put f none n page after r e p size room = record {
  answer = rw e p.answer;
  numbers = rw (p.answer, e) refl;
  written = rw e p.written;
  front = λ g. absurd (other (sym p.answer ∙ g));
  rest = λ g. absurd (other (sym p.answer ∙ g));
}
lists_put f (some w) n page after r e p size room =
    let l : length w ≡ n = size w refl in
    let whole : after ≡ w ++ drop (length w) page =
    p.written ∙ overlay_whole 0 w page (omega (arith, l, room)) ∙ rw (zero-add (length w)) refl in
    record {
      answer = rw e p.answer;
      numbers = rw (p.answer, e) refl;
      written = rw e p.written;
      front = λ g. ap some (sym (rw (← l, whole) (take-append_seam w (drop (length w) page))));
      rest = λ g. rw (← l, whole) (drop-append_seam w (drop (length w) page));
    }

-- where the answer is that there is none
none_there : (f : Fault) (o : Option (List ℕ)) → Ok false ≡ answered f o → o ≡ none
none_there (Ok u) none e = refl
none_there (Ok u) (some w) e = absurd (other e)
none_there (Err r) o e = cc

pub lists_first : (P : List (List ℕ)) (n : ℕ) (page after : List ℕ) (r : Listed) →
    Lists (first_fault (first_tests P n (length page))) (first_avoider P n) n page after r → ListsFirst P n page after r
lists_first P n page after r l = record {
  lists = l;
  least = λ g. first_given P n (take n after) (l.front g);
  empty = λ e x p k a. first_none_avoids P n x
      (none_there (fault_of (first_fault (first_tests P n (length page)))) (first_avoider P n) (sym e ∙ l.answer)) p k a;
}

pub lists_next : (P : List (List ℕ)) (w page after : List ℕ) (r : Listed) →
    Lists (first_fault (next_tests P w (length page))) (next_avoider P w) (length w) page after r → ListsNext P w page after r
lists_next P w page after r l = record {
  lists = l;
  next = λ g. next_given P w (take (length w) after) (l.front g);
  last = λ e x p k a. next_none P w x
      (none_there (fault_of (first_fault (next_tests P w (length page)))) (next_avoider P w) (sym e ∙ l.answer)) p k a;
}

-- patterns that contain another change no avoider
module _ (P : List (List ℕ)) (each_perm : (β : List ℕ) → Memᴰ β P → is_perm β ≡ true) where
  pub basis_avoiders : (n : ℕ) → avoiders (basis P) n ≡ avoiders P n
  unfolding avoiders
  basis_avoiders n = ap (λ (f : List ℕ → Bool). keep f (perms n)) (fun_ext (λ w. sym (basis_avoids P each_perm w)))

  pub basis_first : (n : ℕ) → first_avoider (basis P) n ≡ first_avoider P n
  unfolding first_avoider
  basis_first n = ap head_of (basis_avoiders n)

  pub basis_next : (w : List ℕ) → next_avoider (basis P) w ≡ next_avoider P w
  unfolding next_avoider
  basis_next w = ap (first (before w)) (basis_avoiders (length w))
