-- What one read of the input comes to, and what is read in all. Definitions only.
use Rattle.std.specs.Prelude.{ℕ, zero, suc, ◌≡◌, Bool, true, false, cond, List, ◌++◌, ℤ, pos, negsuc, length, take, eqb}
use Rattle.io.specs.Counts.{clamp_len}
use Rattle.table_reading.specs.declared.State.{State}
use Rattle.table_reading.specs.declared.State.TheVariants.{More, End, Failed}
use Rattle.table_reading.specs.declared.Reading.{Reading}
use Rattle.table_lines.specs.Kept.{Memory, memory_of, kept_of}
use Rattle.table_lines.specs.KeptWalk.{kept_on}

-- the error of a call that a signal interrupts, EINTR
abbrev pub interrupted : ℤ → Bool
interrupted (pos n) = eqb n 4
interrupted (negsuc n) = false

-- `read` answers how many bytes it put at the start of the chunk, 0 at the end of the input, and a
-- negative number where it fails
abbrev pub state_after : ℤ → ℤ → State
state_after (pos zero) error = End
state_after (pos (suc n)) error = More
state_after (negsuc n) error = cond (interrupted error) More Failed

abbrev pub has_more : State → Bool
has_more More = true
has_more End = false
has_more Failed = false

-- the bytes of the chunk that were read
abbrev pub bytes_got : List ℕ → ℤ → List ℕ
bytes_got chunk got = take (clamp_len got (length chunk)) chunk

-- the state and the memory after a read
pub record AfterRead : Type 0 where
  pub state : State
  pub memory : Memory

abbrev pub after_of : Reading → List ℕ → List ℕ → AfterRead
after_of r a b = record { state = r.state; memory = memory_of r.lines a b }

-- what is kept after a read
unfoldable pub taken_of : Memory → List ℕ → ℤ → ℤ → AfterRead
taken_of m chunk got error = record { state = state_after got error; memory = kept_on m (bytes_got chunk got) }

-- One read. No contract of the library says which bytes a read finds: they are some bytes, and
-- what holds of the result is that it is what is kept of the input so far and these bytes.
pub record ReadsSome (before : Memory) (r : AfterRead) : Type 0 where
  pub chunk : List ℕ
  pub got : ℤ
  pub error : ℤ
  pub taken : r ≡ taken_of before chunk got error
  pub kept : (input : List ℕ) → before ≡ kept_of input → r.memory ≡ kept_of (input ++ bytes_got chunk got)

-- All reads: what is kept is kept of some input, of which the same holds.
pub record ReadsAll (r : AfterRead) : Type 0 where
  pub input : List ℕ
  pub kept : r.memory ≡ kept_of input
