-- The text of a log's batches is read as these batches.
use Rattle.std.proofs.Common.{◌≡◌, ◌≢◌, ℕ, zero, suc, ◌+◌, ◌^◌, ◌<◌, ◌≤◌, ◌==◌, ◌&&◌, nat_le, nat_lt, cond, Bool, true, false, List, [], ◌∷◌, ◌++◌, length, get_or, take, drop, Some, None, Ok, Err, refl, sym, ap, subst, ◌∙◌, arith}
use Rattle.std.specs.List.{AllByRecursion}
use Rattle.std.proofs.lemmas.Bool.{and_parts, and_from, leb-true, le-leb, lt-ltb, eq-eqb}
use Rattle.std.proofs.lemmas.Bool.Decides.{nat_tests}
use Rattle.std.proofs.lemmas.List.{append_assoc, length-append, length-drop, take_at, drop_at, drop-drop, get_or-drop}
use Rattle.byteorder.specs.Endian.{little_bytes, little_number}
use Rattle.byteorder.specs.Numbers.{little_number-reads_back}
use Rattle.mp_cells.specs.declared.records.Mtr.{Mtr}
use Rattle.mp_cells.specs.Keys.{rises}
use Rattle.mp_cells.specs.Numbers.{number_at}
use Rattle.mp_redo.specs.Spelling.{mtr_bytes}
use Rattle.mp_redo.specs.Reading.{and_then, field, mtr_at}
use Rattle.mp_redo.proofs.Fields.{both_again, field_again}
use Rattle.mp_redo.proofs.MtrSpelling.{mtr_again}
use Rattle.mp_redo.proofs.Puts.{mtr_length}
use Rattle.mp_log.specs.Logs.{open_gate, most_batch_bytes, batch_bytes, batch_text, batches_text, mtrs_of, last_after, IsOf, IsBatch, IsLog, IsText}
use Rattle.mp_log.specs.Reading.{gate_at, is_batch_count, count_at, open_at, from_place, mtrs_at, batch_at, batch_behind, next_at, batches_from, batches_at, log_at}
use Rattle.mp_log.specs.declared.refusals.LogRefusal.{LogRefusal}
use Rattle.mp_log.specs.declared.refusals.LogRefusal.TheVariants.{Fault}
use Rattle.mp_log.specs.Opening.{OpensLog}
use Rattle.mp_log.proofs.Appended.{llsn_of}
use Rattle.mp_log.proofs.Checked.{step}

-- mtrs of a batch
pub mtrs_again : (fuel node last place : ℕ) (mtrs : List Mtr) → length (batch_bytes mtrs) ≤ fuel → AllByRecursion (IsOf node) mtrs → rises llsn_of (last + 1) (2 ^ 62) mtrs ≡ true → mtrs_at fuel node last (batch_bytes mtrs) place ≡ Ok mtrs
mtrs_again fuel node last place [] enough each rising = refl
mtrs_again zero node last place (mtr ∷ mtrs) enough each rising = absurd (omega (arith, enough, length-append (mtr_bytes mtr) (batch_bytes mtrs), mtr_length mtr))
mtrs_again (suc fuel) node last place (mtr ∷ mtrs) enough each rising =
    let bytes = batch_bytes (mtr ∷ mtrs) in
    let size = length (mtr_bytes mtr) in
    let count = length-append (mtr_bytes mtr) (batch_bytes mtrs) in
    let long = mtr_length mtr in
    let a = and_parts (nat_le (last + 1) mtr.llsn && nat_lt mtr.llsn (2 ^ 62)) (rises llsn_of (mtr.llsn + 1) (2 ^ 62) mtrs) rising in
    let b = and_parts (nat_le (last + 1) mtr.llsn) (nat_lt mtr.llsn (2 ^ 62)) a.0 in
    let above : last < mtr.llsn = omega (arith, leb-true (last + 1) mtr.llsn b.0) in
    let test : (mtr.node == node && nat_lt last mtr.llsn) ≡ true = and_from _ _ (eq-eqb mtr.node node each.0.1) (lt-ltb last mtr.llsn above) in
    let read : from_place place (mtr_at bytes) ≡ Ok (mtr, size) = ap (from_place place) (mtr_again mtr (batch_bytes mtrs) each.0.0) in
    let rest : drop size bytes ≡ batch_bytes mtrs = drop_at (mtr_bytes mtr) (batch_bytes mtrs) size refl in
    let more : mtrs_at fuel node mtr.llsn (drop size bytes) (place + size) ≡ Ok mtrs =
    ap (λ (r : List ℕ). mtrs_at fuel node mtr.llsn r (place + size)) rest ∙ mtrs_again fuel node mtr.llsn (place + size) mtrs (omega (arith, enough, count, long)) each.1 a.1 in
    let some : 1 ≤ length bytes = omega (arith, count, long) in
    step fuel node last place bytes some
    ∙ both_again (from_place place (mtr_at bytes)) (λ found. and_then (field place (found.0.node == node && nat_lt last found.0.llsn) found.0) (λ m. and_then (mtrs_at fuel node m.llsn (drop found.1 bytes) (place + found.1)) (λ ms. Ok (m ∷ ms)))) (mtr, size) (Ok (mtr ∷ mtrs)) read
    (both_again (field place (mtr.node == node && nat_lt last mtr.llsn) mtr) (λ m. and_then (mtrs_at fuel node m.llsn (drop size bytes) (place + size)) (λ ms. Ok (m ∷ ms))) mtr (Ok (mtr ∷ mtrs)) (field_again place _ mtr mtr test refl)
    (both_again (mtrs_at fuel node mtr.llsn (drop size bytes) (place + size)) (λ ms. Ok (mtr ∷ ms)) mtrs (Ok (mtr ∷ mtrs)) more refl))

-- a gate at a place
gate_again : (file : List ℕ) (gate byte : ℕ) (rest : List ℕ) → drop gate file ≡ byte ∷ rest → gate_at file gate ≡ Ok (byte == open_gate)
gate_again file gate byte rest h =
    let within : gate < length file = omega (arith, length-drop gate file, ap length h) in
    let zero_more : gate + 0 ≡ gate = omega arith in
    let here : get_or file gate 0 ≡ byte = ap (λ (n : ℕ). get_or file n 0) (sym zero_more) ∙ sym (get_or-drop gate file 0 0) ∙ ap (λ (xs : List ℕ). get_or xs 0 0) h in
    field_again gate (nat_lt gate (length file)) (get_or file gate 0 == open_gate) (byte == open_gate) (lt-ltb gate (length file) within) (ap (λ (b : ℕ). b == open_gate) here)

count_again : (file : List ℕ) (gate count : ℕ) (rest : List ℕ) → drop (gate + 1) file ≡ little_bytes 4 count ++ rest → 1 ≤ count → count ≤ most_batch_bytes → count + 1 ≤ length rest → count_at file gate ≡ Ok count
unfolding number_at
count_again file gate count rest h least most room =
    let head : length (little_bytes 4 count) ≡ 4 = refl in
    let long = length-drop (gate + 1) file in
    let parts = ap length h ∙ length-append (little_bytes 4 count) rest in
    let number : little_number 4 (drop (gate + 1) file) ≡ count = ap (little_number 4) h ∙ little_number-reads_back 4 count rest (omega (arith, most)) in
    let whole : nat_le (gate + 5) (length file) ≡ true = le-leb (gate + 5) (length file) (omega (arith, long, parts, head)) in
    let ends : nat_le (gate + (6 + count)) (length file) ≡ true = le-leb (gate + (6 + count)) (length file) (omega (arith, long, parts, head, room)) in
    let fits : is_batch_count (length file) gate count ≡ true = and_from _ _ (and_from _ _ (le-leb 1 count least) (le-leb count most_batch_bytes most)) ends in
    field_again (gate + 1) _ (little_number 4 (drop (gate + 1) file)) count (and_from _ _ whole (ap (is_batch_count (length file) gate) number ∙ fits)) number

-- the next batch at a place
next_again : (node last gate : ℕ) (file : List ℕ) (batch : List Mtr) (rest : List ℕ) → drop gate file ≡ batch_text batch ++ rest → 1 ≤ length rest → IsBatch batch → AllByRecursion (IsOf node) batch → rises llsn_of (last + 1) (2 ^ 62) batch ≡ true
    → next_at node last file gate ≡ Ok (Some (batch, length (batch_bytes batch)))
next_again node last gate file batch rest h some sized each rising =
    let bytes = batch_bytes batch in
    let n = length bytes in
    let least : 1 ≤ n = has_bytes batch sized.0 in
    let opened : drop gate file ≡ open_gate ∷ (little_bytes 4 n ++ (bytes ++ rest)) = h ∙ ap (λ (x : List ℕ). open_gate ∷ x) (append_assoc (little_bytes 4 n) bytes rest) in
    let behind : drop (gate + 1) file ≡ little_bytes 4 n ++ (bytes ++ rest) = sym (drop-drop 1 gate file) ∙ ap (drop 1) opened in
    let five : gate + 1 + 4 ≡ gate + 5 = omega arith in
    let part : drop (gate + 5) file ≡ bytes ++ rest = ap (λ (k : ℕ). drop k file) (sym five) ∙ sym (drop-drop 4 (gate + 1) file) ∙ ap (drop 4) behind in
    let room : n + 1 ≤ length (bytes ++ rest) = omega (arith, length-append bytes rest, some) in
    let is_open : open_at file gate ≡ Ok (Some n) =
    both_again (gate_at file gate) (λ o. cond o (and_then (count_at file gate) (λ c. Ok (Some c))) (Ok None)) true (Ok (Some n)) (gate_again file gate open_gate (little_bytes 4 n ++ (bytes ++ rest)) opened)
    (both_again (count_at file gate) (λ c. Ok (Some c)) n (Ok (Some n)) (count_again file gate n (bytes ++ rest) behind least sized.1 room) refl) in
    let same : take n (drop (gate + 5) file) ≡ bytes = ap (take n) part ∙ take_at bytes rest n refl in
    let read : batch_at node last file gate n ≡ Ok batch = ap (λ (x : List ℕ). mtrs_at n node last x (gate + 5)) same ∙ mtrs_again n node last (gate + 5) batch (omega arith) each rising in
    both_again (open_at file gate) (λ c. batch_behind node last file gate c) (Some n) (Ok (Some (batch, n))) is_open (both_again (batch_at node last file gate n) (λ b. Ok (Some (b, n))) batch (Ok (Some (batch, n))) read refl)
  where
    has_bytes : (b : List Mtr) → 1 ≤ length b → 1 ≤ length (batch_bytes b)
    has_bytes [] h = absurd (omega arith)
    has_bytes (mtr ∷ mtrs) h = omega (arith, length-append (mtr_bytes mtr) (batch_bytes mtrs), mtr_length mtr)

-- the parts of conditions on the mtrs of batches
all_left : (P : Mtr → Type 0) (xs ys : List Mtr) → AllByRecursion P (xs ++ ys) → AllByRecursion P xs
all_left P [] ys h = tt
all_left P (x ∷ xs) ys h = (h.0, all_left P xs ys h.1)

all_right : (P : Mtr → Type 0) (xs ys : List Mtr) → AllByRecursion P (xs ++ ys) → AllByRecursion P ys
all_right P [] ys h = h
all_right P (x ∷ xs) ys h = all_right P xs ys h.1

rises_parts : (low : ℕ) (xs ys : List Mtr) → rises llsn_of (low + 1) (2 ^ 62) (xs ++ ys) ≡ true → (rises llsn_of (low + 1) (2 ^ 62) xs ≡ true) × (rises llsn_of (last_after low xs + 1) (2 ^ 62) ys ≡ true)
rises_parts low [] ys h = (refl, h)
rises_parts low (x ∷ xs) ys h =
    let a = and_parts (nat_le (low + 1) x.llsn && nat_lt x.llsn (2 ^ 62)) (rises llsn_of (x.llsn + 1) (2 ^ 62) (xs ++ ys)) h in
    let rest = rises_parts x.llsn xs ys a.1 in
    (and_from _ _ a.0 rest.0, rest.1)

pub batches_again : (fuel node last gate : ℕ) (file : List ℕ) (batches : List (List Mtr)) (byte : ℕ) (rest : List ℕ) → length batches < fuel → drop gate file ≡ batches_text batches ++ byte ∷ rest → byte ≢ open_gate
    → AllByRecursion IsBatch batches → AllByRecursion (IsOf node) (mtrs_of batches) → rises llsn_of (last + 1) (2 ^ 62) (mtrs_of batches) ≡ true → batches_at fuel node last file gate ≡ Ok (batches, gate + length (batches_text batches))
batches_again zero node last gate file batches byte rest enough h closed sizes each rising = absurd (omega arith)
batches_again (suc fuel) node last gate file [] byte rest enough h closed sizes each rising =
    let test : (byte == open_gate) ≡ false = grind (arith, nat_tests, closed) in
    let none : open_at file gate ≡ Ok None = both_again (gate_at file gate) (λ o. cond o (and_then (count_at file gate) (λ c. Ok (Some c))) (Ok None)) (byte == open_gate) (Ok None) (gate_again file gate byte rest h) (ap (λ (t : Bool). cond t (and_then (count_at file gate) (λ c. Ok (Some c))) (Ok None)) test) in
    let next : next_at node last file gate ≡ Ok None = both_again (open_at file gate) (λ c. batch_behind node last file gate c) None (Ok None) none refl in
    let end : gate + 0 ≡ gate = omega arith in
    both_again (next_at node last file gate) (λ n. batches_from last gate (λ l g. batches_at fuel node l file g) n) None (Ok ([], gate)) next refl ∙ ap (λ (g : ℕ). Ok ([], g)) (sym end)
batches_again (suc fuel) node last gate file (batch ∷ batches) byte rest enough h closed sizes each rising =
    let n = length (batch_bytes batch) in
    let r = rises_parts last batch (mtrs_of batches) rising in
    let more = batches_text batches ++ byte ∷ rest in
    let front : drop gate file ≡ batch_text batch ++ more = h ∙ append_assoc (batch_text batch) (batches_text batches) (byte ∷ rest) in
    let some : 1 ≤ length more = omega (arith, length-append (batches_text batches) (byte ∷ rest)) in
    let next = next_again node last gate file batch more front some sizes.0 (all_left (IsOf node) batch (mtrs_of batches) each) r.0 in
    let head : length (little_bytes 4 n) ≡ 4 = refl in
    let size : length (batch_text batch) ≡ 5 + n = omega (arith, head, length-append (little_bytes 4 n) (batch_bytes batch)) in
    let behind : drop (gate + (5 + n)) file ≡ more = sym (drop-drop (5 + n) gate file) ∙ ap (drop (5 + n)) front ∙ drop_at (batch_text batch) more (5 + n) size in
    let others = batches_again fuel node (last_after last batch) (gate + (5 + n)) file batches byte rest (omega (arith, enough)) behind closed sizes.1 (all_right (IsOf node) batch (mtrs_of batches) each) r.1 in
    let end : gate + (5 + n) + length (batches_text batches) ≡ gate + length (batches_text (batch ∷ batches)) = omega (arith, size, length-append (batch_text batch) (batches_text batches)) in
    both_again (next_at node last file gate) (λ x. batches_from last gate (λ l g. batches_at fuel node l file g) x) (Some (batch, n)) (Ok (batch ∷ batches, gate + (5 + n) + length (batches_text batches))) next
    (both_again (batches_at fuel node (last_after last batch) file (gate + (5 + n))) (λ x. Ok (batch ∷ x.0, x.1)) (batches, gate + (5 + n) + length (batches_text batches)) (Ok (batch ∷ batches, gate + (5 + n) + length (batches_text batches))) others refl)
    ∙ ap (λ (g : ℕ). Ok (batch ∷ batches, g)) end

count_batches : (batches : List (List Mtr)) → length batches ≤ length (batches_text batches)
count_batches [] = omega arith
count_batches (batch ∷ batches) = omega (arith, count_batches batches, length-append (batch_text batch) (batches_text batches))

pub log_again : (node : ℕ) (batches : List (List Mtr)) (file : List ℕ) → IsLog node batches → IsText batches file → log_at node file ≡ Ok (batches, length (batches_text batches))
log_again node batches file log text =
    let long : length batches < length file + 1 = omega (arith, ap length text.whole, length-append (batches_text batches) (text.gate ∷ text.rest), count_batches batches) in
    let end : 0 + length (batches_text batches) ≡ length (batches_text batches) = omega arith in
    batches_again (length file + 1) node 0 0 file batches text.gate text.rest long text.whole text.closed log.sizes log.mtrs.each log.mtrs.rising ∙ ap (λ (n : ℕ). Ok (batches, n)) end

-- so no fault is found in it
pub no_fault : (node : ℕ) (batches : List (List Mtr)) (file seen : List ℕ) (image : List ℕ → Type 0) (refusal : LogRefusal) (place : ℕ) → IsLog node batches → IsText batches file → OpensLog node file seen image (Err refusal) → refusal ≡ Fault place → ⊥
no_fault node batches file seen image refusal place log text opens is_fault =
    let fault : log_at node file ≡ Err place = subst (λ (r : LogRefusal). OpensLog node file seen image (Err r)) is_fault opens in
    let again = sym fault ∙ log_again node batches file log text in
    absurd cc
