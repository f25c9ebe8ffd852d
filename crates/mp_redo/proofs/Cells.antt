-- The cells of a Make record: what they are read as is spelled so, and what is spelled so is read.
use Rattle.std.proofs.Common.{◌≡◌, ℕ, zero, suc, ◌+◌, ◌-◌, ◌*◌, ◌%◌, ◌^◌, ◌<◌, ◌≤◌, ◌&&◌, nat_le, nat_lt, true, List, [], ◌∷◌, ◌++◌, length, drop, Ok, refl, sym, ap, subst, ◌∙◌, arith}
use Rattle.std.specs.List.{flat_map, AllByRecursion}
use Rattle.std.proofs.lemmas.Bool.{and_parts, and_from, leb-true, ltb-true}
use Rattle.std.proofs.lemmas.List.{append_assoc, length-append}
use Rattle.byteorder.specs.Endian.{little_bytes}
use Rattle.mp_cells.specs.Keys.{rises}
use Rattle.mp_cells.specs.PageView.{are_fences}
use Rattle.mp_redo.specs.Reading.{Read, and_then, field, number, cell_in, cells_in, fences_at}
use Rattle.mp_redo.proofs.Fields.{AreBytes, IsField, InRange, both_read, both_again, field_read, field_again, number_field}

-- a part behind a part
pub part_after : (part rest all more : List ℕ) → all ≡ part ++ rest → rest ≡ more → all ≡ part ++ more
part_after part rest all more h e = h ∙ ap (λ (x : List ℕ). part ++ x) e

-- so many cells, once they are read
pub record AreCells {X : Type 0} (width : ℕ) (spell : X → List ℕ) (Good : X → Type 0) (key : X → ℕ) (n least high : ℕ) (bytes : List ℕ) (at : ℕ) (cells : List X) : Type 0 where
  pub number : length cells ≡ n
  pub rising : rises key least high cells ≡ true
  pub kept : AllByRecursion Good cells
  pub room : at + width * n ≤ length bytes
  pub spelled : drop at bytes ≡ flat_map spell cells ++ drop (at + width * n) bytes

module _ {X : Type 0} (cell_at : List ℕ → ℕ → Read X) (width : ℕ) (spell : X → List ℕ) (Good : X → Type 0) (key : X → ℕ) (is_field : IsField cell_at width spell Good) where
  -- a cell with a key in a range
  pub cell_reads : (least high at : ℕ) (bytes : List ℕ) (x : X) → AreBytes bytes → cell_in cell_at key least high bytes at ≡ Ok x
      → Good x × (at + width ≤ length bytes) × (drop at bytes ≡ spell x ++ drop (at + width) bytes) × ((nat_le least (key x) && nat_lt (key x) high) ≡ true)
  cell_reads least high at bytes x fits h =
      let a = both_read (cell_at bytes at) (λ cell. field at (nat_le least (key cell) && nat_lt (key cell) high) cell) x h in
      let b = field_read at (nat_le least (key a.0) && nat_lt (key a.0) high) a.0 x a.2 in
      let c = is_field.reads bytes at x fits (a.1 ∙ ap Ok b.1) in
      (c.0, c.1, c.2, ap (λ (y : X). nat_le least (key y) && nat_lt (key y) high) (sym b.1) ∙ b.0)

  pub cell_again : (least high at : ℕ) (bytes rest : List ℕ) (x : X) → Good x → (nat_le least (key x) && nat_lt (key x) high) ≡ true → drop at bytes ≡ spell x ++ rest
      → (cell_in cell_at key least high bytes at ≡ Ok x) × (drop (at + width) bytes ≡ rest)
  cell_again least high at bytes rest x kept ranged h =
      let a = is_field.again bytes rest at x kept h in
      (both_again (cell_at bytes at) (λ cell. field at (nat_le least (key cell) && nat_lt (key cell) high) cell) x (Ok x) a.0 (field_again at (nat_le least (key x) && nat_lt (key x) high) x x ranged refl), a.1)

  pub cells_read : (n least high at : ℕ) (bytes : List ℕ) (cells : List X) → at ≤ length bytes → AreBytes bytes → cells_in cell_at width key n least high bytes at ≡ Ok cells
      → AreCells width spell Good key n least high bytes at cells
  cells_read zero least high at bytes cells long fits h =
      let none : at + width * 0 ≡ at = omega arith in
      let e : [] ≡ cells = cc in
      subst (AreCells width spell Good key 0 least high bytes at) e (record { number = refl; rising = refl; kept = tt; room = omega (arith, none); spelled = ap (λ (k : ℕ). drop k bytes) (sym none) })
  cells_read (suc n) least high at bytes cells long fits h =
      let a = both_read (cell_in cell_at key least high bytes at) (λ cell. and_then (cells_in cell_at width key n (key cell + 1) high bytes (at + width)) (λ xs. Ok (cell ∷ xs))) cells h in
      let b = both_read (cells_in cell_at width key n (key a.0 + 1) high bytes (at + width)) (λ xs. Ok (a.0 ∷ xs)) cells a.2 in
      let c = cell_reads least high at bytes a.0 fits a.1 in
      let d = cells_read n (key a.0 + 1) high (at + width) bytes b.0 c.1 fits b.1 in
      let e : a.0 ∷ b.0 ≡ cells = cc in
      let place : at + width + width * n ≡ at + width * suc n = omega arith in
      subst (AreCells width spell Good key (suc n) least high bytes at) e (record {
        number = ap suc d.number;
        rising = and_from _ _ c.3 d.rising;
        kept = (c.0, d.kept);
        room = subst (λ (k : ℕ). k ≤ length bytes) place d.room;
        spelled = part_after (spell a.0) (drop (at + width) bytes) (drop at bytes) (flat_map spell b.0 ++ drop (at + width * suc n) bytes) c.2 (d.spelled ∙ ap (λ (k : ℕ). flat_map spell b.0 ++ drop k bytes) place) ∙ sym (append_assoc (spell a.0) (flat_map spell b.0) (drop (at + width * suc n) bytes));
      })

  pub cells_again : (least high at : ℕ) (bytes rest : List ℕ) (cells : List X) → rises key least high cells ≡ true → AllByRecursion Good cells → drop at bytes ≡ flat_map spell cells ++ rest
      → (cells_in cell_at width key (length cells) least high bytes at ≡ Ok cells) × (drop (at + width * length cells) bytes ≡ rest)
  cells_again least high at bytes rest [] rising kept h = let none : at + width * 0 ≡ at = omega arith in (refl, ap (λ (k : ℕ). drop k bytes) none ∙ h)
  cells_again least high at bytes rest (x ∷ xs) rising kept h =
      let r = and_parts (nat_le least (key x) && nat_lt (key x) high) (rises key (key x + 1) high xs) rising in
      let a = cell_again least high at bytes (flat_map spell xs ++ rest) x kept.0 r.0 (h ∙ append_assoc (spell x) (flat_map spell xs) rest) in
      let b = cells_again (key x + 1) high (at + width) bytes rest xs r.1 kept.1 a.1 in
      let place : at + width * suc (length xs) ≡ at + width + width * length xs = omega arith in (
        both_again (cell_in cell_at key least high bytes at) (λ cell. and_then (cells_in cell_at width key (length xs) (key cell + 1) high bytes (at + width)) (λ ys. Ok (cell ∷ ys))) x (Ok (x ∷ xs)) a.0
            (both_again (cells_in cell_at width key (length xs) (key x + 1) high bytes (at + width)) (λ ys. Ok (x ∷ ys)) xs (Ok (x ∷ xs)) b.0 refl),
        ap (λ (k : ℕ). drop k bytes) place ∙ b.1,
      )

  -- the first of some cells
  pub first_cell : (n least high at : ℕ) (bytes : List ℕ) (cells : List X) → 1 ≤ n → cells_in cell_at width key n least high bytes at ≡ Ok cells → (x : X) × (xs : List X) × (cells ≡ x ∷ xs) × (cell_in cell_at key least high bytes at ≡ Ok x)
  first_cell zero least high at bytes cells some h = absurd (omega arith)
  first_cell (suc n) least high at bytes cells some h =
      let a = both_read (cell_in cell_at key least high bytes at) (λ cell. and_then (cells_in cell_at width key n (key cell + 1) high bytes (at + width)) (λ xs. Ok (cell ∷ xs))) cells h in
      let b = both_read (cells_in cell_at width key n (key a.0 + 1) high bytes (at + width)) (λ xs. Ok (a.0 ∷ xs)) cells a.2 in
      (a.0, b.0, cc, a.1)

  -- a cell that has a key in one range and in another is one cell
  pub same_cell : (least high least' high' at : ℕ) (bytes : List ℕ) (x y : X) → cell_in cell_at key least high bytes at ≡ Ok x → cell_in cell_at key least' high' bytes at ≡ Ok y → x ≡ y
  same_cell least high least' high' at bytes x y h k =
      let a = both_read (cell_at bytes at) (λ cell. field at (nat_le least (key cell) && nat_lt (key cell) high) cell) x h in
      let b = both_read (cell_at bytes at) (λ cell. field at (nat_le least' (key cell) && nat_lt (key cell) high') cell) y k in
      let c = field_read at (nat_le least (key a.0) && nat_lt (key a.0) high) a.0 x a.2 in
      let d = field_read at (nat_le least' (key b.0) && nat_lt (key b.0) high') b.0 y b.2 in
      let e : a.0 ≡ b.0 = let f = sym a.1 ∙ b.1 in cc in
      sym c.1 ∙ e ∙ d.1

  pub cells_count : (cells : List X) → AllByRecursion Good cells → length (flat_map spell cells) ≡ width * length cells
  cells_count [] kept = omega arith
  cells_count (x ∷ xs) kept =
      let here = is_field.count x kept.0 in
      let rest = cells_count xs kept.1 in
      omega (arith, length-append (spell x) (flat_map spell xs), here, rest)

-- the numbers of a Make record
pub fence_field : IsField (number 8 0 (2 ^ 64 - 1)) 8 (little_bytes 8) (InRange 0 (2 ^ 64 - 1))
fence_field = number_field 8 0 (2 ^ 64 - 1) (omega arith) (omega arith)

-- a number of one byte
pub one_byte : (n : ℕ) → n < 256 → little_bytes 1 n ≡ n ∷ []
one_byte n h = let e : n % 256 ≡ n = omega arith in ap (λ (b : ℕ). b ∷ []) e

abbrev pub fence_bytes : ℕ × ℕ → List ℕ
fence_bytes fences = little_bytes 8 fences.0 ++ little_bytes 8 fences.1

fence_ranges : (low high : ℕ) → are_fences low high ≡ true → (low < high) × (high ≤ 2 ^ 32)
fence_ranges low high h = let a = and_parts (nat_lt low high) (nat_le high (2 ^ 32)) h in (ltb-true low high a.0, leb-true high (2 ^ 32) a.1)

fences_read : (bytes : List ℕ) (at : ℕ) (fences : ℕ × ℕ) → AreBytes bytes → fences_at bytes at ≡ Ok fences → (are_fences fences.0 fences.1 ≡ true) × (at + 16 ≤ length bytes) × (drop at bytes ≡ fence_bytes fences ++ drop (at + 16) bytes)
fences_read bytes at fences fits h =
    let a = both_read (number 8 0 (2 ^ 64 - 1) bytes at) (λ low. and_then (number 8 0 (2 ^ 64 - 1) bytes (at + 8)) (λ high. field at (are_fences low high) (low, high))) fences h in
    let b = both_read (number 8 0 (2 ^ 64 - 1) bytes (at + 8)) (λ high. field at (are_fences a.0 high) (a.0, high)) fences a.2 in
    let c = field_read at (are_fences a.0 b.0) (a.0, b.0) fences b.2 in
    let low = fence_field.reads bytes at a.0 fits a.1 in
    let high = fence_field.reads bytes (at + 8) b.0 fits b.1 in
    let place : at + 8 + 8 ≡ at + 16 = omega arith in
    let spelled : drop at bytes ≡ fence_bytes (a.0, b.0) ++ drop (at + 16) bytes =
    part_after (little_bytes 8 a.0) (drop (at + 8) bytes) (drop at bytes) (little_bytes 8 b.0 ++ drop (at + 16) bytes) low.2 (high.2 ∙ ap (λ (k : ℕ). little_bytes 8 b.0 ++ drop k bytes) place)
    ∙ sym (append_assoc (little_bytes 8 a.0) (little_bytes 8 b.0) (drop (at + 16) bytes)) in
    subst (λ (f : ℕ × ℕ). (are_fences f.0 f.1 ≡ true) × (at + 16 ≤ length bytes) × (drop at bytes ≡ fence_bytes f ++ drop (at + 16) bytes)) c.1 (c.0, omega (arith, high.1), spelled)

fences_again : (bytes rest : List ℕ) (at : ℕ) (fences : ℕ × ℕ) → are_fences fences.0 fences.1 ≡ true → drop at bytes ≡ fence_bytes fences ++ rest → (fences_at bytes at ≡ Ok fences) × (drop (at + 16) bytes ≡ rest)
fences_again bytes rest at fences good h =
    let low = fences.0 in
    let high = fences.1 in
    let r = fence_ranges low high good in
    let a = fence_field.again bytes (little_bytes 8 high ++ rest) at low (record { from = omega arith; until = omega (arith, r.0, r.1) }) (h ∙ append_assoc (little_bytes 8 low) (little_bytes 8 high) rest) in
    let b = fence_field.again bytes rest (at + 8) high (record { from = omega arith; until = omega (arith, r.1) }) a.1 in
    let place : at + 16 ≡ at + 8 + 8 = omega arith in (
      both_again (number 8 0 (2 ^ 64 - 1) bytes at) (λ l. and_then (number 8 0 (2 ^ 64 - 1) bytes (at + 8)) (λ u. field at (are_fences l u) (l, u))) low (Ok fences) a.0
          (both_again (number 8 0 (2 ^ 64 - 1) bytes (at + 8)) (λ u. field at (are_fences low u) (low, u)) high (Ok fences) b.0 (field_again at (are_fences low high) (low, high) fences good refl)),
      ap (λ (k : ℕ). drop k bytes) place ∙ b.1,
    )

pub fences_field : IsField fences_at 16 fence_bytes (λ fences. are_fences fences.0 fences.1 ≡ true)
fences_field = record { reads = fences_read; again = fences_again; count = λ fences good. refl }
