-- Laws of a copy in memory: its positions as bytes are the positions.
-- Assumes nothing.
use Prim.Native.Nat.{ℕ, ◌-◌, ◌≤◌, min}
use native.Mathlib.Omega.{arith}
use mathlib.Core.Path.{◌≡◌, refl, sym, ap, ◌∙◌}
use mathlib.Core.List.Memᴰ
use mathlib.Core.List.{List, [], ◌++◌, map, map-append, map-id, Memᴰ}
use lib.ListN.{length, take, replicate, length-append, length-map, length-replicate}
use lib.Seq.{take-append_seam}
use Rattle.word.specs.Ceilings.{DIGITS}
use Rattle.word.specs.Earliest.{Earliest, nowhere, stands, earliest, positions_of}
use Rattle.copy_search.specs.Copy.{placed}
use Rattle.std.specs.Prelude.{Some, None}
use Rattle.containment.specs.declared.SetCopy.{SetCopy}
use Rattle.containment.specs.SetCopies.{shown_in}
use Rattle.word.specs.ListLaws.{map_same}
use Rattle.word.proofs.EarliestLaws.{earliest_is, copy_within}

-- a number as a byte
abbrev pub byte : ℕ → ℕ
byte x = min x 255

-- a copy in memory has at most DIGITS positions
pub shown_short : (e : Earliest) (r : SetCopy) → Some r ≡ shown_in e → length r.at ≡ DIGITS → r.length ≤ DIGITS
shown_short nowhere r q h = let z : ◌≡◌ {A = ℕ} 0 1 = cc in absurd (omega arith)
shown_short (stands i at) r q h =
    let same : r ≡ record { pattern = i; length = length at; at = placed at } = cc in
    omega (
      arith,
      h,
      ap (λ (x : SetCopy). x.length) same,
      ap (λ (x : SetCopy). length x.at) same,
      length-append at (replicate (DIGITS - length at) 0),
      length-replicate {A = ℕ} (DIGITS - length at) 0,
    )

-- positions in a short word are bytes
bytes_same : (l : List ℕ) → ((x : ℕ) → Memᴰ x l → x ≤ 255) → map byte l ≡ l
bytes_same l h = map_same byte (λ x. x) l (λ x m. let small = h x m in omega arith) ∙ map-id l

-- the positions of a copy in memory, as bytes
pub placed_bytes : (at : List ℕ) → ((x : ℕ) → Memᴰ x at → x ≤ 255) → take (length at) (map byte (placed at)) ≡ at
placed_bytes at h =
    let zs = map byte (replicate (DIGITS - length at) 0) in
    ap (take (length at)) (map-append byte at (replicate (DIGITS - length at) 0)) ∙
    ap (λ (n : ℕ). take n (map byte at ++ zs)) (sym (length-map at byte)) ∙ take-append_seam (map byte at) zs ∙ bytes_same at h

shown_bytes : (e : Earliest) (r : SetCopy) → Some r ≡ shown_in e → ((x : ℕ) → Memᴰ x (positions_of e) → x ≤ 255) →
    take r.length (map byte r.at) ≡ positions_of e
shown_bytes nowhere r q h = let z : ◌≡◌ {A = ℕ} 0 1 = cc in absurd (omega arith)
shown_bytes (stands i at) r q h =
    let same : r ≡ record { pattern = i; length = length at; at = placed at } = cc in
    ap (λ (x : SetCopy). take x.length (map byte x.at)) same ∙ placed_bytes at h

positions_within : (P : List (List ℕ)) (w : List ℕ) (x : ℕ) → Memᴰ x (positions_of (earliest P w)) → x ≤ length w
positions_within P w x m = go (earliest P w) refl m
  where
    go : (e : Earliest) → earliest P w ≡ e → Memᴰ x (positions_of e) → x ≤ length w
    go nowhere q n = absurd (Memᴰ.not-nil n)
    go (stands i at) q n = (copy_within _ w at (earliest_is P w i at q).1 n).1

pub shown_positions : (P : List (List ℕ)) (w : List ℕ) (r : SetCopy) → Some r ≡ shown_in (earliest P w) → length w ≤ 255 →
    take r.length (map byte r.at) ≡ positions_of (earliest P w)
shown_positions P w r q h = shown_bytes (earliest P w) r q (λ x m. let low = positions_within P w x m in omega arith)

-- without a copy there are no positions
pub none_positions : (P : List (List ℕ)) (w : List ℕ) → None ≡ shown_in (earliest P w) → positions_of (earliest P w) ≡ []
none_positions P w q = go (earliest P w) q
  where
    go : (e : Earliest) → None ≡ shown_in e → positions_of e ≡ []
    go nowhere q = refl
    go (stands i at) q = let z : ◌≡◌ {A = ℕ} 0 1 = cc in absurd (omega arith)
