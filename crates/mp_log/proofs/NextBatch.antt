-- The next batch, from what was read of it.
use Rattle.std.proofs.Common.{◌≡◌, ℕ, zero, suc, ◌+◌, ◌<◌, ◌≤◌, ◌==◌, ◌&&◌, nat_le, nat_lt, cond, Bool, true, false, List, [], ◌∷◌, ◌++◌, length, get_or, take, drop, Option, Some, None, Ok, Err, refl, sym, ap, ◌∙◌, arith}
use Rattle.std.proofs.lemmas.Bool.{and_parts, leb-true, ltb-true, eqb-true}
use Rattle.std.proofs.lemmas.List.{append_assoc, length-drop, length-take-le, take-append-drop, drop-drop}
use Rattle.byteorder.specs.Endian.{little_bytes}
use Rattle.mp_redo.specs.Reading.{Read, and_then}
use Rattle.mp_redo.proofs.Fields.{both_read, both_again, field_read}
use Rattle.mp_log.specs.Logs.{open_gate, most_batch_bytes, batch_bytes}
use Rattle.mp_log.specs.Reading.{gate_at, is_batch_count, count_at, open_at, mtrs_at, batch_at, batch_behind, AreChecked, IsNextBatch}
use Rattle.mp_log.proofs.Forced.{some_pending}

-- the byte at a place and those behind it
pub drop_byte : (place : ℕ) (file : List ℕ) → place < length file → drop place file ≡ get_or file place 0 ∷ drop (place + 1) file
drop_byte place [] lt = absurd (omega arith)
drop_byte zero (byte ∷ file) lt = refl
drop_byte (suc place) (byte ∷ file) lt =
    let same : suc place + 1 ≡ suc (place + 1) = omega arith in
    drop_byte place file (omega arith) ∙ ap (λ (n : ℕ). get_or file place 0 ∷ drop n (byte ∷ file)) (sym same)

-- the gate that was read
pub gate_read : (file : List ℕ) (gate : ℕ) (is_open : Bool) → gate_at file gate ≡ Ok is_open → (gate < length file) × ((get_or file gate 0 == open_gate) ≡ is_open)
gate_read file gate is_open h = let a = field_read gate (nat_lt gate (length file)) (get_or file gate 0 == open_gate) is_open h in (ltb-true gate (length file) a.0, a.1)

-- a count is there only behind an open gate
pub open_read : (file : List ℕ) (gate : ℕ) (found : Option ℕ) → open_at file gate ≡ Ok found → (is_open : Bool) × (gate_at file gate ≡ Ok is_open) × (cond is_open (and_then (count_at file gate) (λ count. Ok (Some count))) (Ok None) ≡ Ok found)
open_read file gate found h = both_read (gate_at file gate) (λ is_open. cond is_open (and_then (count_at file gate) (λ count. Ok (Some count))) (Ok None)) found h

pub is_opened : (file : List ℕ) (gate count : ℕ) → open_at file gate ≡ Ok (Some count) → (gate < length file) × (get_or file gate 0 ≡ open_gate)
is_opened file gate count h = let a = open_read file gate (Some count) h in by_test a.0 a.1 a.2
  where
    by_test : (b : Bool) → gate_at file gate ≡ Ok b → cond b (and_then (count_at file gate) (λ n. Ok (Some n))) (Ok None) ≡ Ok (Some count) → (gate < length file) × (get_or file gate 0 ≡ open_gate)
    by_test true g h = let a = gate_read file gate true g in (a.0, eqb-true (get_or file gate 0) open_gate a.1)
    by_test false g h = absurd cc

-- none is found only behind a closed gate
pub is_closed : (file : List ℕ) (gate : ℕ) → open_at file gate ≡ Ok None → (gate < length file) × ((get_or file gate 0 == open_gate) ≡ false)
is_closed file gate h = let a = open_read file gate None h in by_test a.0 a.1 a.2
  where
    none_read : (r : Read ℕ) → and_then {B = Option ℕ} r (λ n. Ok (Some n)) ≡ Ok None → ⊥
    none_read (Ok n) h = cc
    none_read (Err place) h = cc

    by_test : (b : Bool) → gate_at file gate ≡ Ok b → cond b (and_then (count_at file gate) (λ n. Ok (Some n))) (Ok None) ≡ Ok None → (gate < length file) × ((get_or file gate 0 == open_gate) ≡ false)
    by_test true g h = absurd (none_read (count_at file gate) h)
    by_test false g h = gate_read file gate false g

pub next_is : (node last gate count end size : ℕ) (file bytes old new : List ℕ) → size ≡ length file → open_at file gate ≡ Ok (Some count) → take 4 (drop (gate + 1) file) ≡ little_bytes 4 count → is_batch_count size gate count ≡ true
    → bytes ≡ take count (drop (gate + 5) file) → AreChecked (mtrs_at (length bytes) node last bytes (gate + 5)) bytes node last old new end → IsNextBatch node last file gate old new count end
next_is node last gate count end size file bytes old new same is_open head fits is_bytes checked =
    let batch = checked.mtrs in
    let a = and_parts (nat_le 1 count && nat_le count most_batch_bytes) (nat_le (gate + (6 + count)) size) fits in
    let b = and_parts (nat_le 1 count) (nat_le count most_batch_bytes) a.0 in
    let least : 1 ≤ count = leb-true 1 count b.0 in
    let most : count ≤ most_batch_bytes = leb-true count most_batch_bytes b.1 in
    let within : gate + (6 + count) ≤ size = leb-true (gate + (6 + count)) size a.1 in
    let left : count ≤ length (drop (gate + 5) file) = omega (arith, length-drop (gate + 5) file, within, same) in
    let size_is : length bytes ≡ count = ap length is_bytes ∙ length-take-le count (drop (gate + 5) file) left in
    let count_is : count ≡ length (batch_bytes batch) = sym size_is ∙ ap length checked.spelled in
    let read : batch_at node last file gate count ≡ Ok batch =
    ap (λ (n : ℕ). mtrs_at n node last (take count (drop (gate + 5) file)) (gate + 5)) (sym size_is) ∙ ap (λ (x : List ℕ). mtrs_at (length bytes) node last x (gate + 5)) (sym is_bytes) ∙ checked.is in
    let opened = is_opened file gate count is_open in
    let four : gate + 1 + 4 ≡ gate + 5 = omega arith in
    let ends : gate + 5 + count ≡ gate + (5 + count) = omega arith in
    let more = drop (gate + (5 + count)) file in
    let behind : drop (gate + 5) file ≡ batch_bytes batch ++ more =
    sym (take-append-drop count (drop (gate + 5) file)) ∙ ap (λ (x : List ℕ). x ++ drop count (drop (gate + 5) file)) (sym is_bytes ∙ checked.spelled)
    ∙ ap (λ (x : List ℕ). batch_bytes batch ++ x) (drop-drop count (gate + 5) file ∙ ap (λ (n : ℕ). drop n file) ends) in
    let inner : drop (gate + 1) file ≡ little_bytes 4 count ++ (batch_bytes batch ++ more) =
    sym (take-append-drop 4 (drop (gate + 1) file)) ∙ ap (λ (x : List ℕ). x ++ drop 4 (drop (gate + 1) file)) head
    ∙ ap (λ (x : List ℕ). little_bytes 4 count ++ x) (drop-drop 4 (gate + 1) file ∙ ap (λ (n : ℕ). drop n file) four ∙ behind) in
    let whole : drop gate file ≡ open_gate ∷ (little_bytes 4 count ++ (batch_bytes batch ++ more)) =
    drop_byte gate file opened.0 ∙ ap (λ (g : ℕ). g ∷ drop (gate + 1) file) opened.1 ∙ ap (λ (x : List ℕ). open_gate ∷ x) inner in
    record {
      batch = batch;
      is = both_again (open_at file gate) (λ n. batch_behind node last file gate n) (Some count) (Ok (Some (batch, count))) is_open (both_again (batch_at node last file gate count) (λ mtrs. Ok (Some (mtrs, count))) batch (Ok (Some (batch, count))) read refl);
      spelled = whole ∙ ap (λ (n : ℕ). open_gate ∷ (little_bytes 4 n ++ (batch_bytes batch ++ more))) count_is
          ∙ ap (λ (x : List ℕ). open_gate ∷ x) (sym (append_assoc (little_bytes 4 (length (batch_bytes batch))) (batch_bytes batch) more));
      count_is = count_is;
      sized = (some_pending batch (omega (arith, count_is, least)), omega (arith, count_is, most));
      each = checked.each;
      rising = checked.rising;
      end_is = checked.end_is;
      added = checked.added;
    }
