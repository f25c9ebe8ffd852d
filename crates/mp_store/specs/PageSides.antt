-- A page's side: a gate, and 1,039 bytes of body.
use Rattle.std.specs.Prelude.{ℕ, ◌+◌, ◌==◌, ◌&&◌, ◌||◌, not, nat_le, nat_lt, if◌then◌else◌, Bool, List, [], ◌∷◌, ◌++◌, drop, replicate, Option, Some, None}
use Rattle.byteorder.specs.Endian.{little_bytes}
use Rattle.mp_cells.specs.Numbers.{number_at}
use Rattle.mp_cells.specs.declared.faults.PageFault.{PageFault}
use Rattle.mp_cells.specs.PageView.{PageView, blank_page}
use Rattle.mp_page.specs.Grammar as grammar
use Rattle.mp_store.specs.declared.sides.Side.{Side}
use Rattle.mp_store.specs.declared.sides.Side.TheVariants.{First, Second}
use Rattle.mp_store.specs.Checks.{unless, only_if, first_of, fixed_fault}
use Rattle.mp_store.specs.Layout.{is_open, pick, other}

-- the bytes of a page's side behind its gate: seven zeros, the generation, the page
unfoldable pub page_body : ℕ → PageView → List ℕ
page_body generation page = replicate 7 0 ++ (little_bytes 8 generation ++ grammar.spelling page)

abbrev pub page_generation : List ℕ → ℕ
page_generation side = number_at 8 8 side

-- the LLSN of the page, bytes 8..16 of it
abbrev pub page_llsn : List ℕ → ℕ
page_llsn side = number_at 24 8 side

-- the page that a side is read as, whatever its bytes are
abbrev pub page_in : List ℕ → PageView
page_in side = grammar.page_of (drop 16 side)

-- a side counts in a store of a generation: it is open, and not of a later one
abbrev pub counts : ℕ → List ℕ → Bool
counts generation side = is_open side && nat_le (page_generation side) generation

-- one side's pair of generation and LLSN is greater than the other's
abbrev pub outranks : List ℕ → List ℕ → Bool
outranks side than = nat_lt (page_generation than) (page_generation side) || (page_generation than == page_generation side && nat_lt (page_llsn than) (page_llsn side))

-- the side in force, where there is one: of those that count the one with the greatest pair, the first of two equal ones
unfoldable pub side_in_force : ℕ → List ℕ → List ℕ → Option Side
side_in_force generation first second =
    if counts generation second && (not (counts generation first) || outranks second first) then Some Second else (if counts generation first then Some First else None)

-- the side to be written next: the one that isn't in force, or the first where neither is
abbrev pub idle : Option Side → Side
idle None = First
idle (Some side) = other side

-- the page of a home: that of the side in force, or else the blank page
abbrev pub shown_page : Option Side → List ℕ → List ℕ → PageView
shown_page None first second = blank_page 0
shown_page (Some side) first second = page_in (pick side first second)

-- the first fault of a page's bytes that lie at a place
abbrev pub page_fault : ℕ → List ℕ → Option ℕ
page_fault place bytes = fault_place (grammar.page_bytes_fault bytes)
  where
    fault_place : Option PageFault → Option ℕ
    fault_place None = None
    fault_place (Some fault) = Some (place + fault.offset)

-- the first fault of a side that lies at a place: in its zeros, its generation, or its page
unfoldable pub side_fault : ℕ → List ℕ → Option ℕ
side_fault place side = first_of (
    fixed_fault (place + 1) (replicate 7 0) (drop 1 side)
    ∷ unless (nat_le 1 (page_generation side)) (place + 8)
    ∷ page_fault (place + 16) (drop 16 side)
    ∷ [])

-- the first fault of the sides of a home at a place that count in a store of a generation
unfoldable pub sides_fault : ℕ → ℕ → List ℕ → List ℕ → Option ℕ
sides_fault generation place first second = first_of (
    only_if (counts generation first) (side_fault place first)
    ∷ only_if (counts generation second) (side_fault (place + 1040) second)
    ∷ [])

-- the first fault of the side in force of a home at a place
abbrev pub in_force_fault : Option Side → ℕ → List ℕ → List ℕ → Option ℕ
in_force_fault None place first second = None
in_force_fault (Some First) place first second = side_fault place first
in_force_fault (Some Second) place first second = side_fault (place + 1040) second
