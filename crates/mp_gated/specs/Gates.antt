-- A body behind a gate. The gate is one byte, and open where it is 165. A body counts only where its gate is open, so the body is written and made safe first.
use Rattle.std.specs.Prelude.{◌≡◌, ◌⊎◌, ℕ, ◌+◌, ◌-◌, ◌^◌, ◌≤◌, min, List, ◌∷◌, length}
use Rattle.mp_outside.specs.Disks.{written, Torn}

-- the count of calls after so many more; at a u64's end it stands still
abbrev pub calls_after : ℕ → ℕ → ℕ
calls_after made calls = min (calls + made) (2 ^ 64 - 1)

-- at least one call was made, and at most so many
pub record CallsMade (most old new : ℕ) : Type 0 where
  pub made : ℕ
  pub some : 1 ≤ made
  pub within : made ≤ most
  pub counted : new ≡ calls_after made old

-- the body's part holds any bytes; the gate and all else are as they were
abbrev pub BodyTorn : ℕ → List ℕ → List ℕ → List ℕ → Type 0
BodyTorn gate body = Torn (gate + 1) (gate + 1 + length body)

-- the body is in the file; the gate holds any byte, and all else is as it was
abbrev pub GateTorn : ℕ → List ℕ → List ℕ → List ℕ → Type 0
GateTorn gate body file = Torn gate (gate + 1) (written (gate + 1) body file)

-- the file with this body behind an open gate
abbrev pub gated : ℕ → List ℕ → List ℕ → List ℕ
gated gate body file = written gate (165 ∷ body) file

-- each image is one from before with the body's part torn, or what was read then with the body in it and any byte at the gate
abbrev pub Gating : ℕ → List ℕ → List ℕ → (List ℕ → Type 0) → (List ℕ → Type 0) → Type 0
Gating gate body seen old new =
    (c : List ℕ) → new c → ((d : List ℕ) × old d × BodyTorn gate body d c) ⊎ GateTorn gate body seen c
