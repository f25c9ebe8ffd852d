-- The text of batches in a file, and what a write behind its gate leaves of it.
use Rattle.std.proofs.Common.{◌≡◌, ◌≢◌, ℕ, ◌+◌, ◌-◌, ◌<◌, ◌≤◌, ◌==◌, min, Bool, true, false, List, [], ◌∷◌, ◌++◌, length, take, drop, replicate, refl, sym, ap, ◌∙◌, inl, inr, arith}
use mathlib.Core.Logic.{◌⊎◌}
use mathlib.Core.Bool.{false≢true}
use Rattle.std.proofs.lemmas.Bool.{eqb-true, eq-eqb}
use Rattle.std.proofs.lemmas.List.{append_assoc, append-nil, length-append, length-drop, take_at, drop_at, take-append-drop, drop-drop}
use Rattle.std.proofs.lemmas.List.Concat.{flat_map-append}
use Rattle.byteorder.specs.Endian.{little_bytes}
use Rattle.mp_cells.specs.declared.records.Mtr.{Mtr}
use Rattle.mp_outside.specs.Disks.{written}
use Rattle.mp_gated.specs.Gates.{BodyTorn, GateTorn, gated}
use Rattle.mp_log.specs.Logs.{open_gate, batch_bytes, batch_text, batches_text, IsText}

-- the bytes behind a gate, as they are written
abbrev pub body_of : List Mtr → List ℕ
body_of batch = little_bytes 4 (length (batch_bytes batch)) ++ (batch_bytes batch ++ 0 ∷ [])

-- a file in three parts: a front, a gate, and what is behind
pub record AtGate (front : List ℕ) (gate : ℕ) (rest : List ℕ) (file : List ℕ) : Type 0 where
  pub whole : file ≡ front ++ gate ∷ rest

gate_front : (front rest file : List ℕ) (gate : ℕ) → file ≡ front ++ gate ∷ rest → take (length front + 1) file ≡ front ++ gate ∷ []
gate_front front rest file gate h =
    let whole : file ≡ (front ++ gate ∷ []) ++ rest = h ∙ sym (append_assoc front (gate ∷ []) rest) in
    let count : length (front ++ gate ∷ []) ≡ length front + 1 = length-append front (gate ∷ []) in
    ap (take (length front + 1)) whole ∙ take_at (front ++ gate ∷ []) rest (length front + 1) count

gate_count : (front rest file : List ℕ) (gate : ℕ) → file ≡ front ++ gate ∷ rest → length front + 1 ≤ length file
gate_count front rest file gate h = omega (arith, ap length h ∙ length-append front (gate ∷ rest))

-- a file whose front as far as the gate is another's
same_front : (front file : List ℕ) (gate : ℕ) → take (length front + 1) file ≡ front ++ gate ∷ [] → file ≡ front ++ gate ∷ drop (length front + 1) file
same_front front file gate h =
    sym (take-append-drop (length front + 1) file) ∙ ap (λ (x : List ℕ). x ++ drop (length front + 1) file) h ∙ append_assoc front (gate ∷ []) (drop (length front + 1) file)

min_left : (a b : ℕ) → a ≤ b → min a b ≡ a
min_left a b h = omega arith

-- the body's part alone is torn: the gate stays closed
pub body_torn : (batches : List (List Mtr)) (place : ℕ) (body d c : List ℕ) → place ≡ length (batches_text batches) → IsText batches d → BodyTorn place body d c → IsText batches c
body_torn batches place body d c at text torn =
    let front = batches_text batches in
    let h : d ≡ front ++ text.gate ∷ text.rest = text.whole in
    let room = gate_count front text.rest d text.gate h in
    let reach : min (place + 1) (length d) ≡ length front + 1 = omega (arith, at, room) in
    let same : place + 1 ≡ length front + 1 = ap (λ (n : ℕ). n + 1) at in
    let kept : take (length front + 1) c ≡ front ++ text.gate ∷ [] =
    ap (λ (n : ℕ). take n c) (sym reach) ∙ torn.before ∙ ap (λ (n : ℕ). take n d) same ∙ gate_front front text.rest d text.gate h in
    record { gate = text.gate; rest = drop (length front + 1) c; closed = text.closed; whole = same_front front c text.gate kept }

-- the file with a body written behind its gate
body_written : (front rest file body : List ℕ) (gate place : ℕ) → place ≡ length front → file ≡ front ++ gate ∷ rest
    → written (place + 1) body file ≡ front ++ gate ∷ (body ++ drop (place + 1 + length body) file)
body_written front rest file body gate place at h =
    let room = gate_count front rest file gate h in
    let none : (place + 1) - length file ≡ 0 = omega (arith, at, room) in
    let same : place + 1 ≡ length front + 1 = ap (λ (n : ℕ). n + 1) at in
    let front_is : take (place + 1) file ≡ front ++ gate ∷ [] = ap (λ (n : ℕ). take n file) same ∙ gate_front front rest file gate h in
    let back = body ++ drop (place + 1 + length body) file in
    ap (λ (n : ℕ). take (place + 1) file ++ (replicate n 0 ++ back)) none
    ∙ ap (λ (x : List ℕ). x ++ back) front_is ∙ append_assoc front (gate ∷ []) back

-- the text of batches with one more
pub log_text_more : (batches : List (List Mtr)) (batch : List Mtr) → batches_text (batches ++ batch ∷ []) ≡ batches_text batches ++ batch_text batch
log_text_more batches batch = flat_map-append batch_text batches (batch ∷ []) ∙ ap (λ (x : List ℕ). batches_text batches ++ x) (append-nil (batch_text batch))

-- an open gate with the body behind it
opened : (batches : List (List Mtr)) (batch : List Mtr) (more : List ℕ) → batches_text batches ++ open_gate ∷ (body_of batch ++ more) ≡ batches_text (batches ++ batch ∷ []) ++ 0 ∷ more
opened batches batch more =
    let bytes = batch_bytes batch in
    let head = little_bytes 4 (length bytes) in
    let inner : body_of batch ++ more ≡ (head ++ bytes) ++ 0 ∷ more =
    append_assoc head (bytes ++ 0 ∷ []) more ∙ ap (λ (x : List ℕ). head ++ x) (append_assoc bytes (0 ∷ []) more) ∙ sym (append_assoc head bytes (0 ∷ more)) in
    ap (λ (x : List ℕ). batches_text batches ++ open_gate ∷ x) inner
    ∙ sym (append_assoc (batches_text batches) (batch_text batch) (0 ∷ more))
    ∙ ap (λ (x : List ℕ). x ++ 0 ∷ more) (sym (log_text_more batches batch))

closed_zero : 0 ≢ open_gate
closed_zero e = absurd (omega (arith, e))

pub text_more : (batches : List (List Mtr)) (batch : List Mtr) (more file : List ℕ) → file ≡ batches_text batches ++ open_gate ∷ (body_of batch ++ more) → IsText (batches ++ batch ∷ []) file
text_more batches batch more file h = record { gate = 0; rest = more; closed = closed_zero; whole = h ∙ opened batches batch more }

-- any byte at the gate: it is closed or open
any_gate : (batches : List (List Mtr)) (batch : List Mtr) (gate : ℕ) (more file : List ℕ) → file ≡ batches_text batches ++ gate ∷ (body_of batch ++ more) → IsText batches file ⊎ IsText (batches ++ batch ∷ []) file
any_gate batches batch gate more file h = by_test (gate == open_gate) refl
  where
    by_test : (b : Bool) → (gate == open_gate) ≡ b → IsText batches file ⊎ IsText (batches ++ batch ∷ []) file
    by_test true e = inr (text_more batches batch more file (h ∙ ap (λ (g : ℕ). batches_text batches ++ g ∷ (body_of batch ++ more)) (eqb-true gate open_gate e)))
    by_test false e = inl (record { gate = gate; rest = body_of batch ++ more; closed = λ same. absurd (false≢true (sym e ∙ eq-eqb gate open_gate same)); whole = h })

-- the byte at a place and what is behind it
at_place : (place : ℕ) (file : List ℕ) → place < length file → (byte : ℕ) × (drop place file ≡ byte ∷ drop (place + 1) file)
at_place place file lt = first (drop place file) (omega (arith, length-drop place file)) (drop-drop 1 place file)
  where
    first : (rest : List ℕ) → 1 ≤ length rest → drop 1 rest ≡ drop (place + 1) file → (byte : ℕ) × (rest ≡ byte ∷ drop (place + 1) file)
    first [] some e = absurd (omega arith)
    first (byte ∷ rest) some e = (byte, ap (λ (xs : List ℕ). byte ∷ xs) e)

-- the gate alone is torn, over the body
pub gate_torn : (batches : List (List Mtr)) (batch : List Mtr) (place : ℕ) (file c : List ℕ) → place ≡ length (batches_text batches) → IsText batches file → GateTorn place (body_of batch) file c → IsText batches c ⊎ IsText (batches ++ batch ∷ []) c
gate_torn batches batch place file c at text torn =
    let front = batches_text batches in
    let body = body_of batch in
    let more = drop (place + 1 + length body) file in
    let now = written (place + 1) body file in
    let h : now ≡ front ++ text.gate ∷ (body ++ more) = body_written front text.rest file body text.gate place at text.whole in
    let count = gate_count front (body ++ more) now text.gate h in
    let reach : min place (length now) ≡ length front = omega (arith, at, count) in
    let c_front : take (length front) c ≡ front = ap (λ (n : ℕ). take n c) (sym reach) ∙ torn.before ∙ ap (λ (n : ℕ). take n now) at ∙ ap (take (length front)) h ∙ take_at front (text.gate ∷ (body ++ more)) (length front) refl in
    let same : place + 1 ≡ length front + 1 = ap (λ (n : ℕ). n + 1) at in
    let whole : now ≡ (front ++ text.gate ∷ []) ++ (body ++ more) = h ∙ sym (append_assoc front (text.gate ∷ []) (body ++ more)) in
    let c_back : drop (length front + 1) c ≡ body ++ more =
    ap (λ (n : ℕ). drop n c) (sym same) ∙ torn.after ∙ ap (λ (n : ℕ). drop n now) same ∙ ap (drop (length front + 1)) whole ∙ drop_at (front ++ text.gate ∷ []) (body ++ more) (length front + 1) (length-append front (text.gate ∷ [])) in
    let byte = at_place (length front) c (omega (arith, torn.no_shorter, count)) in
    let c_whole : c ≡ front ++ byte.0 ∷ (body ++ more) =
    sym (take-append-drop (length front) c) ∙ ap (λ (x : List ℕ). x ++ drop (length front) c) c_front ∙ ap (λ (x : List ℕ). front ++ x) (byte.1 ∙ ap (λ (x : List ℕ). byte.0 ∷ x) c_back) in
    any_gate batches batch byte.0 more c c_whole

-- the gate is open over the body
pub gate_opened : (batches : List (List Mtr)) (batch : List Mtr) (place : ℕ) (file : List ℕ) → place ≡ length (batches_text batches) → IsText batches file → IsText (batches ++ batch ∷ []) (gated place (body_of batch) file)
gate_opened batches batch place file at text =
    let front = batches_text batches in
    let body = body_of batch in
    let more = drop (place + length (open_gate ∷ body)) file in
    let room = gate_count front text.rest file text.gate text.whole in
    let none : place - length file ≡ 0 = omega (arith, at, room) in
    let front_is : take place file ≡ front = ap (λ (n : ℕ). take n file) at ∙ ap (take (length front)) text.whole ∙ take_at front (text.gate ∷ text.rest) (length front) refl in
    let whole : gated place body file ≡ front ++ open_gate ∷ (body ++ more) =
    ap (λ (n : ℕ). take place file ++ (replicate n 0 ++ (open_gate ∷ (body ++ more)))) none ∙ ap (λ (x : List ℕ). x ++ open_gate ∷ (body ++ more)) front_is in
    text_more batches batch more (gated place body file) whole

-- the gate lies within the file
pub gate_within : (batches : List (List Mtr)) (place : ℕ) (file : List ℕ) → place ≡ length (batches_text batches) → IsText batches file → place < length file
gate_within batches place file at text = omega (arith, at, gate_count (batches_text batches) text.rest file text.gate text.whole)
