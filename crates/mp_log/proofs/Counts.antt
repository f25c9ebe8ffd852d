-- The count of a batch, from the bytes that were read.
use Rattle.std.proofs.Common.{◌≡◌, ℕ, ◌+◌, ◌^◌, ◌<◌, ◌≤◌, ◌&&◌, nat_le, Bool, true, false, List, ◌++◌, length, take, drop, Err, sym, ap, ◌∙◌, arith}
use Rattle.std.proofs.lemmas.Bool.{le-leb}
use Rattle.std.proofs.lemmas.Bool.Decides.{nat_tests}
use Rattle.std.proofs.lemmas.List.{take-append-drop}
use Rattle.byteorder.specs.Endian.{little_bytes, little_number}
use Rattle.byteorder.specs.Numbers.{little_number-reads_back}
use Rattle.mp_cells.specs.Numbers.{number_at}
use Rattle.mp_redo.specs.Reading.{field}
use Rattle.mp_log.specs.Reading.{is_batch_count, count_at}

pub number_is : (file : List ℕ) (place count : ℕ) → count < 256 ^ 4 → take 4 (drop place file) ≡ little_bytes 4 count → number_at place 4 file ≡ count
unfolding number_at
number_is file place count fits h =
    ap (little_number 4) (sym (take-append-drop 4 (drop place file)) ∙ ap (λ (x : List ℕ). x ++ drop 4 (drop place file)) h) ∙ little_number-reads_back 4 count (drop 4 (drop place file)) fits

pub no_count : (file : List ℕ) (gate size : ℕ) → size ≡ length file → size < gate + 5 → count_at file gate ≡ Err (gate + 1)
no_count file gate size same lt =
    let test : nat_le (gate + 5) (length file) ≡ false = grind (arith, nat_tests, same, lt) in
    ap (λ (b : Bool). field (gate + 1) (b && is_batch_count (length file) gate (number_at (gate + 1) 4 file)) (number_at (gate + 1) 4 file)) test

pub is_field : (file : List ℕ) (gate size count : ℕ) (test : Bool) → size ≡ length file → gate + 5 ≤ size → count < 256 ^ 4 → take 4 (drop (gate + 1) file) ≡ little_bytes 4 count → test ≡ is_batch_count size gate count → count_at file gate ≡ field (gate + 1) test count
is_field file gate size count test same le fits spelled is_test =
    let whole : nat_le (gate + 5) (length file) ≡ true = le-leb (gate + 5) (length file) (omega (arith, same, le)) in
    let number = number_is file (gate + 1) count fits spelled in
    ap (λ (n : ℕ). field (gate + 1) (nat_le (gate + 5) (length file) && is_batch_count (length file) gate n) n) number
    ∙ ap (λ (b : Bool). field (gate + 1) (b && is_batch_count (length file) gate count) count) whole
    ∙ ap (λ (n : ℕ). field (gate + 1) (is_batch_count n gate count) count) (sym same)
    ∙ ap (λ (b : Bool). field (gate + 1) b count) (sym is_test)
