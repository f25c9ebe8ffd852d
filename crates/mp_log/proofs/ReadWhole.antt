-- A file of bytes that is read without a fault is the text of the batches that were read.
use Rattle.std.proofs.Common.{◌≡◌, ℕ, zero, suc, ◌+◌, ◌^◌, ◌≤◌, ◌<◌, ◌==◌, ◌&&◌, nat_le, nat_lt, cond, Bool, true, false, List, [], ◌∷◌, ◌++◌, length, map, take, drop, Option, Some, None, Ok, Err, refl, sym, ap, subst, ◌∙◌, arith}
use Rattle.std.specs.List.{AllByRecursion}
use Rattle.std.proofs.lemmas.Bool.{and_parts, and_from, le-leb, lt-ltb, leb-true, ltb-true, eqb-true}
use Rattle.std.proofs.lemmas.List.{length-drop, length-take-le, take-append-drop}
use Rattle.byteorder.specs.Endian.{little_bytes}
use Rattle.mp_cells.specs.declared.records.Mtr.{Mtr}
use Rattle.mp_cells.specs.Keys.{rises}
use Rattle.mp_cells.specs.Mtrs.{IsMtr}
use Rattle.mp_cells.specs.Numbers.{number_at}
use Rattle.mp_cells.proofs.NumberBytes.{written_again}
use Rattle.mp_redo.specs.Spelling.{mtr_bytes}
use Rattle.mp_redo.specs.Reading.{Read, and_then, field, mtr_at, fault_of}
use Rattle.mp_redo.proofs.Fields.{AreBytes, AreBytes-drop, both_read, field_read}
use Rattle.mp_redo.proofs.MtrSpelling.{mtr_read}
use Rattle.mp_log.specs.Logs.{batch_bytes, mtrs_of, last_after, most_batch_bytes, IsOf, IsLog, IsText}
use Rattle.mp_log.specs.Reading.{from_place, is_batch_count, count_at, open_at, mtrs_at, batch_at, batch_behind, next_at, batches_from, batches_at, log_at, log_fault, AreChecked, IsNextBatch}
use Rattle.mp_log.specs.Readers.{given_from, given_at, log_mtrs}
use Rattle.mp_log.proofs.Appended.{llsn_of}
use Rattle.mp_log.proofs.Given.{text_given}
use Rattle.mp_log.proofs.NextBatch.{open_read, next_is}
use Rattle.mp_log.proofs.Opened.{BatchesSoFar, batches_first, batches_spent, batches_stop, batches_end, batches_more}

-- what a reader calls the first fault is the first fault
given_fault : (fuel node last : ℕ) (file : List ℕ) (gate : ℕ) → (given_at fuel node last file gate).1 ≡ fault_of (batches_at fuel node last file gate)
given_fault zero node last file gate = refl
given_fault (suc fuel) node last file gate = by_next (next_at node last file gate) (λ l g. given_fault fuel node l file g) where
  by_rest : (batch : List Mtr) (rest : Read (List (List Mtr) × ℕ)) → fault_of rest ≡ fault_of (and_then {B = List (List Mtr) × ℕ} rest (λ more. Ok (batch ∷ more.0, more.1)))
  by_rest batch (Ok rest) = refl
  by_rest batch (Err place) = refl

  by_next : (next : Read (Option (List Mtr × ℕ))) → ((l g : ℕ) → (given_at fuel node l file g).1 ≡ fault_of (batches_at fuel node l file g))
      → (given_from last gate (λ l g. given_at fuel node l file g) next).1 ≡ fault_of (and_then next (λ found. batches_from last gate (λ l g. batches_at fuel node l file g) found))
  by_next (Err place) same = refl
  by_next (Ok None) same = refl
  by_next (Ok (Some next)) same =
      same (last_after last next.0) (gate + (5 + next.1)) ∙ by_rest next.0 (batches_at fuel node (last_after last next.0) file (gate + (5 + next.1)))

pub same_fault : (node : ℕ) (file : List ℕ) → (log_mtrs node file).1 ≡ log_fault node file
same_fault node file = given_fault (length file + 1) node 0 file 0

-- the mtrs that bytes are read as spell them
record AreRead (node last : ℕ) (bytes : List ℕ) (mtrs : List Mtr) : Type 0 where
  spelled : bytes ≡ batch_bytes mtrs
  each : AllByRecursion (IsOf node) mtrs
  rising : rises llsn_of (last + 1) (2 ^ 62) mtrs ≡ true

-- what is read is one thing
abbrev as_read : {A : Type 0} → A → Read A
as_read x = Ok x

read_same : {A : Type 0} (x y : A) → as_read x ≡ as_read y → x ≡ y
read_same x y h = cc

some_same : {A : Type 0} (x y : A) → Some x ≡ Some y → x ≡ y
some_same x y h = cc

from_read : (place : ℕ) (r : Read (Mtr × ℕ)) (found : Mtr × ℕ) → from_place place r ≡ Ok found → r ≡ Ok found
from_read place (Ok x) found h = h
from_read place (Err fault) found h = absurd cc

mtrs_read : (fuel node last : ℕ) (bytes : List ℕ) (place : ℕ) (mtrs : List Mtr) → AreBytes bytes → mtrs_at fuel node last bytes place ≡ Ok mtrs → AreRead node last bytes mtrs
mtrs_read fuel node last [] place mtrs fits h =
    subst (AreRead node last []) (read_same [] mtrs h) (record { spelled = refl; each = tt; rising = refl })
mtrs_read zero node last (byte ∷ bytes) place mtrs fits h = absurd cc
mtrs_read (suc fuel) node last (byte ∷ bytes) place mtrs fits h =
    let all = byte ∷ bytes in
    let a = both_read (from_place place (mtr_at all)) (λ found.
    and_then (field place (found.0.node == node && nat_lt last found.0.llsn) found.0) (λ mtr.
    and_then (mtrs_at fuel node mtr.llsn (drop found.1 all) (place + found.1)) (λ more. Ok (mtr ∷ more)))) mtrs h in
    let found = a.0 in
    let b = both_read (field place (found.0.node == node && nat_lt last found.0.llsn) found.0) (λ mtr.
    and_then (mtrs_at fuel node mtr.llsn (drop found.1 all) (place + found.1)) (λ more. Ok (mtr ∷ more))) mtrs a.2 in
    let tested = field_read place (found.0.node == node && nat_lt last found.0.llsn) found.0 b.0 b.1 in
    let c = both_read (mtrs_at fuel node b.0.llsn (drop found.1 all) (place + found.1)) (λ more. Ok (b.0 ∷ more)) mtrs b.2 in
    let read = mtr_read all found fits (from_read place (mtr_at all) found a.1) in
    let rest = mtrs_read fuel node b.0.llsn (drop found.1 all) (place + found.1) c.0 (AreBytes-drop found.1 all fits) c.1 in
    let parts = and_parts (found.0.node == node) (nat_lt last found.0.llsn) tested.0 in
    let sound : IsMtr b.0 = subst IsMtr tested.1 read.1 in
    let own : b.0.node ≡ node = ap (λ (m : Mtr). m.node) (sym tested.1) ∙ eqb-true found.0.node node parts.0 in
    let above : last < b.0.llsn = subst (λ (m : Mtr). last < m.llsn) tested.1 (ltb-true last found.0.llsn parts.1) in
    let front : take found.1 all ≡ mtr_bytes b.0 = read.2 ∙ ap mtr_bytes tested.1 in
    subst (AreRead node last all) (read_same (b.0 ∷ c.0) mtrs c.2) (record {
      spelled = sym (take-append-drop found.1 all) ∙ ap (λ (x : List ℕ). x ++ drop found.1 all) front ∙ ap (λ (x : List ℕ). mtr_bytes b.0 ++ x) rest.spelled;
      each = ((sound, own), rest.each);
      rising = and_from (nat_le (last + 1) b.0.llsn && nat_lt b.0.llsn (2 ^ 62)) (rises llsn_of (b.0.llsn + 1) (2 ^ 62) c.0)
          (and_from (nat_le (last + 1) b.0.llsn) (nat_lt b.0.llsn (2 ^ 62)) (le-leb (last + 1) b.0.llsn (omega (arith, above))) (lt-ltb b.0.llsn (2 ^ 62) sound.llsn)) rest.rising;
    })

-- the next batch that bytes are read as, and that its count is spelled before it
AreBytes-take : (n : ℕ) (bytes : List ℕ) → AreBytes bytes → AreBytes (take n bytes)
AreBytes-take zero bytes fits i = omega arith
AreBytes-take (suc n) [] fits i = omega arith
AreBytes-take (suc n) (byte ∷ bytes) fits zero = fits zero
AreBytes-take (suc n) (byte ∷ bytes) fits (suc i) = AreBytes-take n bytes (λ k. fits (suc k)) i

some_count : (file : List ℕ) (gate count : ℕ) → open_at file gate ≡ Ok (Some count) → count_at file gate ≡ Ok count
some_count file gate count h = let a = open_read file gate (Some count) h in by_test a.0 a.2
  where
    by_count : (r : Read ℕ) → and_then {B = Option ℕ} r (λ n. Ok (Some n)) ≡ Ok (Some count) → r ≡ Ok count
    by_count (Ok n) h = cc
    by_count (Err place) h = absurd cc

    by_test : (b : Bool) → cond b (and_then (count_at file gate) (λ n. Ok (Some n))) (Ok None) ≡ Ok (Some count) → count_at file gate ≡ Ok count
    by_test true h = by_count (count_at file gate) h
    by_test false h = absurd cc

batch_read : (node last : ℕ) (file : List ℕ) (gate : ℕ) (found : Option ℕ) (batch : List Mtr) (count : ℕ) → batch_behind node last file gate found ≡ Ok (Some (batch, count))
    → (found ≡ Some count) × (batch_at node last file gate count ≡ Ok batch)
batch_read node last file gate None batch count h = absurd cc
batch_read node last file gate (Some n) batch count h = by_batch (batch_at node last file gate n) refl h
  where
    by_batch : (r : Read (List Mtr)) → batch_at node last file gate n ≡ r → and_then {B = Option (List Mtr × ℕ)} r (λ mtrs. Ok (Some (mtrs, n))) ≡ Ok (Some (batch, count))
        → (Some n ≡ Some count) × (batch_at node last file gate count ≡ Ok batch)
    by_batch (Ok mtrs) is h =
        let both = some_same (mtrs, n) (batch, count) (read_same (Some (mtrs, n)) (Some (batch, count)) h) in
        let same : n ≡ count = ap (λ (p : List Mtr × ℕ). p.1) both in
        let mtrs_are : mtrs ≡ batch = ap (λ (p : List Mtr × ℕ). p.0) both in
        (ap Some same, subst (λ (k : ℕ). batch_at node last file gate k ≡ Ok batch) same (is ∙ ap Ok mtrs_are))
    by_batch (Err place) is h = absurd cc

count_spelled : (file : List ℕ) (gate count : ℕ) → AreBytes file → gate + 5 ≤ length file → number_at (gate + 1) 4 file ≡ count → take 4 (drop (gate + 1) file) ≡ little_bytes 4 count
unfolding number_at
count_spelled file gate count fits room is =
    sym (written_again 4 (drop (gate + 1) file) (AreBytes-drop (gate + 1) file fits) (omega (arith, length-drop (gate + 1) file))) ∙ ap (little_bytes 4) is

next_read : (node last gate : ℕ) (file old : List ℕ) (batch : List Mtr) (count : ℕ) → AreBytes file → next_at node last file gate ≡ Ok (Some (batch, count))
    → IsNextBatch node last file gate old (old ++ map llsn_of batch) count (last_after last batch)
next_read node last gate file old batch count fits h =
    let a = both_read (open_at file gate) (λ found. batch_behind node last file gate found) (Some (batch, count)) h in
    let b = batch_read node last file gate a.0 batch count a.2 in
    let is_open : open_at file gate ≡ Ok (Some count) = a.1 ∙ ap Ok b.0 in
    let number = number_at (gate + 1) 4 file in
    let f = field_read (gate + 1) (nat_le (gate + 5) (length file) && is_batch_count (length file) gate number) number count (some_count file gate count is_open) in
    let parts = and_parts (nat_le (gate + 5) (length file)) (is_batch_count (length file) gate number) f.0 in
    let counted : is_batch_count (length file) gate count ≡ true = subst (λ (n : ℕ). is_batch_count (length file) gate n ≡ true) f.1 parts.1 in
    let room : gate + 5 ≤ length file = leb-true (gate + 5) (length file) parts.0 in
    let within : gate + (6 + count) ≤ length file = leb-true (gate + (6 + count)) (length file) (and_parts (nat_le 1 count && nat_le count most_batch_bytes) (nat_le (gate + (6 + count)) (length file)) counted).1 in
    let bytes = take count (drop (gate + 5) file) in
    let long : length bytes ≡ count = length-take-le count (drop (gate + 5) file) (omega (arith, length-drop (gate + 5) file, within)) in
    let read : mtrs_at (length bytes) node last bytes (gate + 5) ≡ Ok batch = ap (λ (n : ℕ). mtrs_at n node last bytes (gate + 5)) long ∙ b.1 in
    let mtrs = mtrs_read (length bytes) node last bytes (gate + 5) batch (AreBytes-take count (drop (gate + 5) file) (AreBytes-drop (gate + 5) file fits)) read in
    let checked : AreChecked (mtrs_at (length bytes) node last bytes (gate + 5)) bytes node last old (old ++ map llsn_of batch) (last_after last batch) = record {
      mtrs = batch;
      is = read;
      spelled = mtrs.spelled;
      each = mtrs.each;
      rising = mtrs.rising;
      end_is = refl;
      added = refl;
    } in
    let same : checked.mtrs ≡ batch = refl in
    next_is node last gate count (last_after last batch) (length file) file bytes old (old ++ map llsn_of batch) refl is_open (count_spelled file gate count fits room f.1) counted refl checked

-- the whole log
whole : (fuel node gate last : ℕ) (file now : List ℕ) (r : List (List Mtr) × ℕ) → AreBytes file → log_at node file ≡ Ok r → BatchesSoFar node file [] fuel gate last now
    → (batches : List (List Mtr)) × IsLog node batches × IsText batches file
whole zero node gate last file now r fits read so = let stopped = batches_spent node file [] zero gate last now refl so in absurd cc
whole (suc fuel) node gate last file now r fits read so =
    by_next (next_at node last file gate) refl (λ g l n more. whole fuel node g l file n r fits read more) where
      by_next : (next : Read (Option (List Mtr × ℕ))) → next_at node last file gate ≡ next
          → ((g l : ℕ) (n : List ℕ) → BatchesSoFar node file [] fuel g l n → (batches : List (List Mtr)) × IsLog node batches × IsText batches file)
          → (batches : List (List Mtr)) × IsLog node batches × IsText batches file
      by_next (Err place) is go = let stopped = batches_stop node file [] (suc fuel) fuel gate last now so refl place is in absurd cc
      by_next (Ok None) is go = let all = batches_end node file [] (suc fuel) fuel gate last now so refl is now refl in (all.batches, all.log, all.text)
      by_next (Ok (Some next)) is go =
          let more = next_read node last gate file now next.0 next.1 fits is in
          go (gate + (5 + next.1)) (last_after last next.0) (now ++ map llsn_of next.0)
          (batches_more node file [] (suc fuel) fuel gate last now so refl next.1 (last_after last next.0) (gate + (5 + next.1)) (now ++ map llsn_of next.0) more refl)

no_fault_read : (r : Read (List (List Mtr) × ℕ)) → fault_of r ≡ None → (x : List (List Mtr) × ℕ) × (r ≡ Ok x)
no_fault_read (Ok x) none = (x, refl)
no_fault_read (Err place) none = absurd cc

pub text_read : (node : ℕ) (file : List ℕ) → AreBytes file → (log_mtrs node file).1 ≡ None
    → (batches : List (List Mtr)) × IsLog node batches × IsText batches file × ((log_mtrs node file).0 ≡ mtrs_of batches)
text_read node file fits none =
    let read = no_fault_read (log_at node file) (sym (same_fault node file) ∙ none) in
    let all = whole (length file + 1) node 0 0 file [] read.0 fits read.1 (batches_first node (length file + 1) file [] refl) in
    (all.0, all.1, all.2, ap (λ (given : List Mtr × Option ℕ). given.0) (text_given node all.0 file all.1 all.2))
