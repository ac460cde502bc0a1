-- Laws of one read of the input.
use Rattle.std.specs.Prelude.{ℕ, zero, suc, ◌≡◌, refl, Bool, true, false, cond, List, ◌++◌, ℤ, pos, negsuc, Result, Ok, Err, IfOk, IfErr}
use Rattle.std.proofs.Common.{arith, sym, ap, ◌∙◌, true≢false, lt-ltb, ne_eqb}
use Rattle.std.specs.Int.Signed.{lt_z}
use Rattle.table_reading.specs.declared.State.TheVariants.{More, End, Failed}
use Rattle.table_lines.specs.Kept.{Memory}
use Rattle.table_lines.specs.KeptWalk.{kept_on}
use Rattle.table_lines.specs.KeptLaws.{kept_on_lem}
use Rattle.table_reading.specs.declared.State.{State}
use Rattle.table_reading.specs.Reads.{AfterRead, interrupted, state_after, bytes_got, taken_of, ReadsSome, ReadsAll}

-- the state by what `read` answered

pub state_more : (got error : ℤ) → lt_z (pos 0) got ≡ true → More ≡ state_after got error
state_more (pos zero) error h = absurd (true≢false (sym h))
state_more (pos (suc n)) error h = refl
state_more (negsuc n) error h = absurd (true≢false (sym h))

pub state_end : (got error : ℤ) → got ≡ pos 0 → End ≡ state_after got error
state_end got error e = rw e refl

module _ (error : ℤ) where
  -- neither more than no bytes nor none
  pub state_again : (got : ℤ) → lt_z (pos 0) got ≡ false → (got ≡ pos 0 → ⊥) → error ≡ pos 4 → More ≡ state_after got error
  state_again (pos zero) h k e = absurd (k refl)
  state_again (pos (suc n)) h k e = absurd (true≢false (sym (lt-ltb 0 (suc n) (omega arith)) ∙ h))
  state_again (negsuc n) h k e = rw e refl

  pub state_failed : (got : ℤ) → lt_z (pos 0) got ≡ false → (got ≡ pos 0 → ⊥) → (error ≡ pos 4 → ⊥) → Failed ≡ state_after got error
  state_failed (pos zero) h k d = absurd (k refl)
  state_failed (pos (suc n)) h k d = absurd (true≢false (sym (lt-ltb 0 (suc n) (omega arith)) ∙ h))
  state_failed (negsuc n) h k d = by error d
    where
      by : (e : ℤ) → (e ≡ pos 4 → ⊥) → Failed ≡ state_after (negsuc n) e
      by (pos m) p = rw (ne_eqb m 4 (λ (q : m ≡ 4). p (ap pos q))) refl
      by (negsuc m) p = refl

-- a read that failed does not end the input
fails_on : (got error : ℤ) → got ≡ negsuc 0 → state_after got error ≡ End → ⊥
fails_on got error h e = by (interrupted error) (sym (ap (λ (z : ℤ). state_after z error) h) ∙ e)
  where
    is_end : State → Bool
    is_end More = false
    is_end End = true
    is_end Failed = false

    by : (b : Bool) → cond b More Failed ≡ End → ⊥
    by true q = true≢false (sym (ap is_end q))
    by false q = true≢false (sym (ap is_end q))

-- so where it ended there is no error: of the answer of std, as the two numbers
pub end_clean : {E : Type 0} (r : Result ℕ E) (F : E → ℤ) (got error : ℤ) → IfOk r (λ n. (got ≡ pos n) × (error ≡ pos 0)) →
    IfErr r (λ e. (got ≡ negsuc 0) × (error ≡ F e)) → state_after got error ≡ End → error ≡ pos 0
end_clean (Ok n) F got error k f e = k.1
end_clean (Err x) F got error k f e = absurd (fails_on got error f.0 e)

-- what is taken of a chunk is kept of the input so far and its bytes
pub reads_some : (before : Memory) (chunk : List ℕ) (got error : ℤ) (r : AfterRead) → r ≡
    taken_of before chunk got error → ReadsSome before r
unfolding taken_of
reads_some before chunk got error r e =
    record {
      chunk = chunk;
      got = got;
      error = error;
      taken = e;
      kept = λ input k.
          ap (λ (x : AfterRead). x.memory) e
          ∙ ap (λ (m : Memory). kept_on m (bytes_got chunk got)) k ∙ kept_on_lem input (bytes_got chunk got);
    }

-- so all that is read is kept of some input
pub reads_on : (before after : AfterRead) → ReadsAll before → ReadsSome before.memory after → ReadsAll after
reads_on before after all some =
    record {
      input = all.input ++ bytes_got some.chunk some.got;
      kept = some.kept all.input all.kept;
    }
