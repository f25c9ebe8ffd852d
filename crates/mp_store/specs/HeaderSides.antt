-- A header's side: a gate, and 63 bytes of body.
use Rattle.std.specs.Prelude.{ℕ, ◌+◌, ◌^◌, ◌≤◌, ◌<◌, ◌==◌, ◌&&◌, ◌||◌, not, nat_le, nat_lt, if◌then◌else◌, List, [], ◌∷◌, ◌++◌, drop, replicate, Option}
use Rattle.byteorder.specs.Endian.{little_bytes}
use Rattle.mp_cells.specs.Numbers.{number_at}
use Rattle.mp_store.specs.declared.headers.Header.{Header}
use Rattle.mp_store.specs.declared.sides.Side.{Side}
use Rattle.mp_store.specs.declared.sides.Side.TheVariants.{First, Second}
use Rattle.mp_store.specs.Checks.{unless, only_if, first_of, fixed_fault}
use Rattle.mp_store.specs.Layout.{is_open}

-- bytes 1..16 of a header's side: MPSTORE, the format 1, and zeros
abbrev pub header_mark : List ℕ
header_mark = 77 ∷ 80 ∷ 83 ∷ 84 ∷ 79 ∷ 82 ∷ 69 ∷ 1 ∷ 0 ∷ 0 ∷ 0 ∷ 0 ∷ 0 ∷ 0 ∷ 0 ∷ []

-- a header that a side may have
pub record IsHeader (header : Header) : Type 0 where
  pub generation_least : 1 ≤ header.generation
  pub generation : header.generation < 2 ^ 64
  pub base : header.base < 2 ^ 38
  pub llsn : header.llsn < 2 ^ 62
  pub version : header.version < 2 ^ 24

-- the bytes of a header behind its gate
unfoldable pub header_body : Header → List ℕ
header_body header =
    header_mark ++ (little_bytes 8 header.generation ++ (little_bytes 8 header.base ++ (little_bytes 8 header.llsn ++ (little_bytes 8 header.version ++ replicate 16 0))))

abbrev pub header_generation : List ℕ → ℕ
header_generation side = number_at 16 8 side

-- the header that a side is read as, whatever its bytes are
unfoldable pub header_of : List ℕ → Header
header_of side = record { generation = header_generation side; base = number_at 24 8 side; llsn = number_at 32 8 side; version = number_at 40 8 side }

-- the first fault of the numbers of a side that lies at a place
abbrev pub numbers_fault : ℕ → List ℕ → Option ℕ
numbers_fault place side = first_of (
    unless (nat_le 1 (header_generation side)) (place + 16)
    ∷ unless (nat_lt (number_at 24 8 side) (2 ^ 38)) (place + 24)
    ∷ unless (nat_lt (number_at 32 8 side) (2 ^ 62)) (place + 32)
    ∷ unless (nat_lt (number_at 40 8 side) (2 ^ 24)) (place + 40)
    ∷ [])

-- the first fault of a side that lies at a place: in its mark, its numbers, or the zeros at its end
unfoldable pub header_fault : ℕ → List ℕ → Option ℕ
header_fault place side = first_of (
    fixed_fault (place + 1) header_mark (drop 1 side)
    ∷ numbers_fault place side
    ∷ fixed_fault (place + 48) (replicate 16 0) (drop 48 side)
    ∷ [])

-- the first fault of the two sides: neither is open, an open one has a fault, or both are open with one generation
unfoldable pub headers_fault : List ℕ → List ℕ → Option ℕ
headers_fault first second = first_of (
    unless (is_open first || is_open second) 0
    ∷ only_if (is_open first) (header_fault 0 first)
    ∷ only_if (is_open second) (header_fault 64 second)
    ∷ unless (not (is_open first && is_open second && header_generation first == header_generation second)) 64
    ∷ [])

-- the side in force is the open one with the greater generation
abbrev pub header_in : List ℕ → List ℕ → Side
header_in first second = if is_open second && (not (is_open first) || nat_lt (header_generation first) (header_generation second)) then Second else First
