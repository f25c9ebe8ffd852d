-- The two halves of a part of a file are parts of it.
use Rattle.std.proofs.Common.{◌≡◌, ℕ, ◌+◌, ◌<◌, ◌≤◌, List, length, take, drop, eqb, ap, ◌∙◌, drop-drop, length-take, length-drop, arith}
use Rattle.std.proofs.lemmas.List.{take-take, drop-take, get_or-take}
use Rattle.mp_store.specs.declared.sides.Side.{Side}
use Rattle.mp_store.specs.declared.sides.Side.TheVariants.{First, Second}
use Rattle.mp_store.specs.Layout.{part, is_open, pick, header_place, page_place, header_side, page_side}

pub front_half : (width place : ℕ) (file home : List ℕ) → home ≡ take (width + width) (drop place file) → take width home ≡ part place width file
front_half width place file home is = ap (take width) is ∙ take-take width (width + width) (drop place file) (omega arith)

pub back_half : (width place : ℕ) (file home : List ℕ) → home ≡ take (width + width) (drop place file) → drop width home ≡ part (place + width) width file
back_half width place file home is = ap (drop width) is ∙ drop-take width width (drop place file) ∙ ap (take width) (drop-drop width place file)

-- what was read whole is there
pub enough : (n place : ℕ) (file into : List ℕ) → 0 < n → length into ≡ n → into ≡ take n (drop place file) → place + n ≤ length file
enough n place file into some long is = omega (arith, ap length is, length-take n (drop place file), length-drop place file)

-- the gate of a part is the byte at its place
pub gate_of_part : (place width : ℕ) (file : List ℕ) → 0 < width → is_open (part place width file) ≡ is_open (drop place file)
gate_of_part place width file some = ap (λ byte. eqb byte 165) (get_or-take width (drop place file) 0 0 some)

-- the gate of one of two sides, by its place
pub header_gate : (side : Side) (first second file : List ℕ) → first ≡ header_side First file → second ≡ header_side Second file
    → is_open (pick side first second) ≡ is_open (drop (header_place side) file)
header_gate First first second file f s = ap is_open f ∙ gate_of_part (header_place First) 64 file (omega arith)
header_gate Second first second file f s = ap is_open s ∙ gate_of_part (header_place Second) 64 file (omega arith)

pub page_gate : (number : ℕ) (side : Side) (first second file : List ℕ) → first ≡ page_side number First file → second ≡ page_side number Second file
    → is_open (pick side first second) ≡ is_open (drop (page_place number side) file)
page_gate number First first second file f s = ap is_open f ∙ gate_of_part (page_place number First) 1040 file (omega arith)
page_gate number Second first second file f s = ap is_open s ∙ gate_of_part (page_place number Second) 1040 file (omega arith)

-- the first side lies before the second
pub header_place_most : (side : Side) → header_place side ≤ 64
header_place_most First = omega arith
header_place_most Second = omega arith

pub page_place_most : (number : ℕ) (side : Side) → page_place number side ≤ page_place number Second
page_place_most number First = omega arith
page_place_most number Second = omega arith
