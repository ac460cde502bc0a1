-- `test_inversions::calls::run` is safe: the pages have as many cells as is said.
use Rattle.std.proofs.Common.{ℕ, sym}
use Rattle.std.proofs.lemmas.List.{length-replicate}
use Rattle.test_inversions.proofs.calls.run.Goals as goal

pub slice_bounds-lent-end : goal.slice_bounds-lent-end
slice_bounds-lent-end c = sym (length-replicate {0} {A = ℕ} 560000 9876543210123456789)
