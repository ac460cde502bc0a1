-- The invariant of the loop of `table_reading::read_all`.
use Prim.Native.Nat.{ℕ}
use mathlib.Core.Path.{◌≡◌}
use mathlib.Core.List.{List}
use lib.ListN.{length}
use lib.IntN.{pos}
use Rattle.table_reading.specs.declared.State.TheVariants.{End}
use Rattle.table_reading.specs.declared.Reading.{Reading}
use Rattle.table_reading.specs.Reads.{after_of, ReadsAll}
use Rattle.table_reading.proofs.read_all.Given as goal

-- what was read so far, and the buffers as long as they were
pub record ReadOn (set₀ scheme₀ set scheme : List ℕ) (r : Reading) (chunk : List ℕ) : Type 0 where
  pub reads : ReadsAll (after_of r set scheme)
  pub clean : r.state ≡ End → r.error ≡ pos 0
  pub set_size : length set ≡ length set₀
  pub scheme_size : length scheme ≡ length scheme₀
  pub chunk_size : length chunk ≡ 65536

abbrev pub invariant-loop : goal.invariant-loop
invariant-loop l = ReadOn l.initial.set l.initial.scheme l.set l.scheme l.reading l.chunk
