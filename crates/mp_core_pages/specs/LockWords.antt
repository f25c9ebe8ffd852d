-- The word of a page's lock: bit n - 1 for each node n that reads, or 256 times the node that writes.
use Rattle.std.specs.Prelude.{◌≡◌, ℕ, ◌+◌, ◌-◌, ◌*◌, ◌/◌, ◌^◌, ◌<◌, ◌≤◌, ◌==◌, if◌then◌else◌, ◌⊎◌, bit_or}
use Rattle.std.specs.Int.{bit_at}
use Rattle.mp_core_pages.specs.declared.page_lock.Held.{Held}
use Rattle.mp_core_pages.specs.declared.page_lock.Held.TheVariants.{No, Read, Write}

-- how a node holds a lock whose word this is
abbrev pub holder : ℕ → ℕ → Held
holder word n = if word / 256 == n then Write else (if bit_at word (n - 1) == 1 then Read else No)

-- the words that a lock may have: readers alone, or one writer
abbrev pub IsLockWord : ℕ → Type 0
IsLockWord word = (word < 256) ⊎ ((n : ℕ) × (1 ≤ n) × (n ≤ 8) × (word ≡ 256 * n))

-- nobody writes, and node n does not read
abbrev pub LacksReader : ℕ → ℕ → Type 0
LacksReader word n = (word < 256) × (bit_at word (n - 1) ≡ 0)

-- node n comes to read
abbrev pub TakesShared : ℕ → ℕ → ℕ → Type 0
TakesShared n old new = LacksReader old n × (new ≡ old + 2 ^ (n - 1))

-- node n comes to write: nobody held the lock, or n alone read
abbrev pub TakesExclusive : ℕ → ℕ → ℕ → Type 0
TakesExclusive n old new = ((old ≡ 0) ⊎ (old ≡ 2 ^ (n - 1))) × (new ≡ 256 * n)

-- the bits that a word keeps as node n lets the lock go: all but its own bit and the writer's number
abbrev pub mask_of : ℕ → ℕ
mask_of n = 2 ^ 64 - 1 - bit_or (2 ^ (n - 1)) 3840
