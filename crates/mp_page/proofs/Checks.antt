-- A list of checks finds nothing where each of them finds nothing.
use Rattle.std.proofs.Common.{◌≡◌, ℕ, ◌^◌, ◌≤◌, ◌==◌, nat_le, nat_lt, Bool, true, false, List, ◌∷◌, take, drop, get_or, Option, Some, None, refl, arith}
use Rattle.std.proofs.lemmas.Bool.{and_parts, leb-true}
use Rattle.mp_cells.specs.declared.kinds.Kind.{Kind}
use Rattle.mp_cells.specs.declared.kinds.Kind.TheVariants.{Blank, Meta, Leaf, Inner, Undo}
use Rattle.mp_cells.specs.declared.faults.Fault.{Fault}
use Rattle.mp_cells.specs.declared.faults.PageFault.{PageFault}
use Rattle.mp_cells.specs.Numbers.{number_at}
use Rattle.mp_page.specs.Grammar.{unless, first_of, padding_fault, is_page_count, has_fences, kind_numbered, cells_length, header_fault, page_format}

-- a test that passes, and the checks after it
pub passes : (test : Bool) (fault : Fault) (offset : ℕ) (checks : List (Option PageFault)) → first_of (unless test fault offset ∷ checks) ≡ None → (test ≡ true) × (first_of checks ≡ None)
passes true fault offset checks h = (refl, h)
passes false fault offset checks h = absurd cc

pub finds_none : (check : Option PageFault) (checks : List (Option PageFault)) → first_of (check ∷ checks) ≡ None → (check ≡ None) × (first_of checks ≡ None)
finds_none None checks h = (refl, h)
finds_none (Some fault) checks h = absurd cc

-- and back
pub passed : (test : Bool) (fault : Fault) (offset : ℕ) (checks : List (Option PageFault)) → test ≡ true → first_of checks ≡ None → first_of (unless test fault offset ∷ checks) ≡ None
passed test fault offset checks t h = rw t h

pub found_none : (check : Option PageFault) (checks : List (Option PageFault)) → check ≡ None → first_of checks ≡ None → first_of (check ∷ checks) ≡ None
found_none check checks t h = rw t h

-- a header without a fault
pub record HeaderSound (bytes : List ℕ) : Type 0 where
  pub kind : nat_le (get_or bytes 0 0) 4 ≡ true
  pub format : (get_or bytes 1 0 == page_format) ≡ true
  pub count : is_page_count (kind_numbered (get_or bytes 0 0)) (number_at 2 2 bytes) (drop 32 bytes) ≡ true
  pub zeros : padding_fault 4 (take 4 (drop 4 bytes)) ≡ None
  pub llsn : nat_lt (number_at 8 8 bytes) (2 ^ 62) ≡ true
  pub fences : has_fences (kind_numbered (get_or bytes 0 0)) (number_at 16 8 bytes) (number_at 24 8 bytes) ≡ true

pub header_sound : (bytes : List ℕ) → header_fault bytes ≡ None → HeaderSound bytes
unfolding header_fault
header_sound bytes h =
    let a = passes _ _ _ _ h in
    let b = passes _ _ _ _ a.1 in
    let c = passes _ _ _ _ b.1 in
    let d = finds_none _ _ c.1 in
    let e = passes _ _ _ _ d.1 in
    let f = passes _ _ _ _ e.1 in
    record { kind = a.0; format = b.0; count = c.0; zeros = d.0; llsn = e.0; fences = f.0 }

pub header_none : (bytes : List ℕ) → HeaderSound bytes → header_fault bytes ≡ None
unfolding header_fault
header_none bytes h =
    passed _ _ _ _ h.kind (passed _ _ _ _ h.format (passed _ _ _ _ h.count (found_none _ _ h.zeros (passed _ _ _ _ h.llsn (passed _ _ _ _ h.fences refl)))))

-- the cells of a page end within it
pub cells_end : (kind : Kind) (count : ℕ) (body : List ℕ) → is_page_count kind count body ≡ true → cells_length kind count ≤ 992
cells_end Blank count body h = omega arith
cells_end Meta count body h = omega arith
cells_end Leaf count body h = omega (arith, leb-true count 15 h)
cells_end Inner count body h = omega (arith, leb-true count 124 (and_parts _ _ h).1)
cells_end Undo count body h = omega (arith, leb-true count 15 h)
