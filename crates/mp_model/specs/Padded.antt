-- A list that lies in the front of an array, with blanks behind it.
use Rattle.std.specs.Prelude.{◌≡◌, ℕ, ◌-◌, ◌≤◌, List, ◌++◌, length, take, drop, replicate}
use Rattle.std.proofs.Common.{arith}
use Rattle.std.proofs.lemmas.List.{length-take-le, take-append-drop}

-- the cells beyond the first len of n are blank
pub record IsPadded {T : Type 0} (n : ℕ) (blank : T) (len : ℕ) (cells : List T) : Type 0 where
  pub room : len ≤ n
  pub whole : length cells ≡ n
  pub rest : drop len cells ≡ replicate (n - len) blank

-- the array that has this list in its front
abbrev pub padded : {T : Type 0} → ℕ → T → List T → List T
padded n blank items = items ++ replicate (n - length items) blank

-- so the first cells say all of the array
pub length_again : {T : Type 0} {n : ℕ} {blank : T} {len : ℕ} {cells : List T} → IsPadded n blank len cells → length (take len cells) ≡ len
length_again {T} {n} {blank} {len} {cells} h = length-take-le len cells (omega (arith, h.room, h.whole))

pub cells_again : {T : Type 0} {n : ℕ} {blank : T} {len : ℕ} {cells : List T} → IsPadded n blank len cells → padded n blank (take len cells) ≡ cells
cells_again {T} {n} {blank} {len} {cells} h = rw (length_again h, ← h.rest) (take-append-drop len cells)
