-- The values behind the first entries of a permutation are not used by them.
use Rattle.std.specs.Prelude.{ℕ, suc, ◌-◌, ◌≤◌, ◌<◌, ◌≡◌, true, false, List, length, get_or, take, drop}
use Rattle.std.proofs.Common.{sym, ap, ◌∙◌, length-take-le}
use Rattle.word.specs.Word.{is_perm, has}
use Rattle.completion.specs.Completion.{begun}
use Rattle.completion.specs.CompletionLaws.{begun_last}
use Rattle.completion.proofs.Values.{front_cut}

-- the value behind the first `len` entries of a permutation is new
pub next_value : (n len : ℕ) (w : List ℕ) → len < n → n ≤ length w → is_perm (take n w) ≡ true →
    (1 ≤ get_or w len 0) × (get_or w len 0 ≤ n) × (has (get_or w len 0) (take len w) ≡ false)
unfolding is_perm begun
next_value n len w h k p =
    begun_last n (take len w) (get_or w len 0) (take (n - suc len) (drop (suc len) w))
    (ap (begun n) (sym (front_cut w len n h k)) ∙ ap (λ (m : ℕ). begun m (take n w)) (sym (length-take-le n w k)) ∙ p)
