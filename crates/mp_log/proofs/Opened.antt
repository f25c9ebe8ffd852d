-- A log that is read batch by batch.
use Rattle.std.proofs.Common.{◌≡◌, ℕ, suc, ◌+◌, ◌^◌, ◌&&◌, nat_le, nat_lt, true, List, [], ◌∷◌, ◌++◌, length, map, get_or, drop, Option, Some, None, Ok, Err, refl, sym, ap, subst, ◌∙◌, arith}
use mathlib.Core.Bool.{false≢true}
use Rattle.std.proofs.lemmas.Bool.{and_parts, and_from, eq-eqb}
use Rattle.std.proofs.lemmas.List.{append_assoc, append-nil, length-append, map-append}
use Rattle.std.proofs.lemmas.List.Concat.{flat_map-append}
use Rattle.byteorder.specs.Endian.{little_bytes}
use Rattle.mp_cells.specs.declared.records.Mtr.{Mtr}
use Rattle.mp_cells.specs.Keys.{rises}
use Rattle.mp_cells.proofs.KeyEdits.{All-append}
use Rattle.mp_redo.specs.Reading.{Read, and_then}
use Rattle.mp_redo.proofs.Fields.{both_read}
use Rattle.mp_log.specs.Logs.{open_gate, batch_bytes, batch_text, batches_text, mtrs_of, last_after, IsOf, AreLogged, IsBatch, IsText}
use Rattle.mp_log.specs.Reading.{open_at, next_at, batch_behind, batch_at, batches_from, batches_at, log_at, AreBefore, IsNextBatch, Nexts, IsReadLog, ReadsLog}
use Rattle.mp_log.specs.declared.refusals.LogRefusal.{LogRefusal}
use Rattle.mp_log.specs.declared.refusals.LogRefusal.TheVariants.{Fault, Disk, Memory}
use Rattle.mp_log.specs.Tails.{TailView, LogStands}
use Rattle.mp_log.specs.Opening.{IsOpened, OpensLog}
use Rattle.mp_outside.specs.Disks.{Only}
use Rattle.mp_log.proofs.Appended.{llsn_of}
use Rattle.mp_log.proofs.NextBatch.{drop_byte, is_closed}

-- batches that were read before the rest
abbrev pub with_front : List (List Mtr) → Read (List (List Mtr) × ℕ) → Read (List (List Mtr) × ℕ)
with_front front (Ok rest) = Ok (front ++ rest.0, rest.1)
with_front front (Err place) = Err place

with_none : (r : Read (List (List Mtr) × ℕ)) → with_front [] r ≡ r
with_none (Ok rest) = refl
with_none (Err place) = refl

with_one : (front : List (List Mtr)) (batch : List Mtr) (rest : Read (List (List Mtr) × ℕ)) → with_front (front ++ batch ∷ []) rest ≡ with_front front (and_then rest (λ more. Ok (batch ∷ more.0, more.1)))
with_one front batch (Ok rest) = ap (λ (bs : List (List Mtr)). Ok (bs, rest.1)) (append_assoc front (batch ∷ []) rest.0)
with_one front batch (Err place) = refl

-- the batches so far
pub record BatchesSoFar (node : ℕ) (file old : List ℕ) (fuel gate last : ℕ) (now : List ℕ) : Type 0 where
  pub before : AreBefore node last gate file
  pub reads : with_front before.batches (batches_at fuel node last file gate) ≡ log_at node file
  pub added : now ≡ old ++ map llsn_of (mtrs_of before.batches)

pub none_before : (node : ℕ) (file : List ℕ) → AreBefore node 0 0 file
none_before node file = record {
  batches = [];
  log = record { mtrs = record { each = tt; rising = refl }; sizes = tt };
  split = refl;
  gate_is = refl;
  last_is = refl;
}

pub batches_first : (node fuel : ℕ) (file old : List ℕ) → fuel ≡ length file + 1 → BatchesSoFar node file old fuel 0 0 old
unfolding none_before
batches_first node fuel file old e = record {
  before = none_before node file;
  reads = with_none (batches_at fuel node 0 file 0) ∙ ap (λ (n : ℕ). batches_at n node 0 file 0) e;
  added = sym (append-nil old);
}

-- keys that rise behind others
rises_both : (low : ℕ) (xs ys : List Mtr) → rises llsn_of (low + 1) (2 ^ 62) xs ≡ true → rises llsn_of (last_after low xs + 1) (2 ^ 62) ys ≡ true → rises llsn_of (low + 1) (2 ^ 62) (xs ++ ys) ≡ true
rises_both low [] ys h k = k
rises_both low (x ∷ xs) ys h k =
    let a = and_parts (nat_le (low + 1) x.llsn && nat_lt x.llsn (2 ^ 62)) (rises llsn_of (x.llsn + 1) (2 ^ 62) xs) h in
    and_from _ _ a.0 (rises_both x.llsn xs ys a.1 k)

last_both : (low : ℕ) (xs ys : List Mtr) → last_after low (xs ++ ys) ≡ last_after (last_after low xs) ys
last_both low [] ys = refl
last_both low (x ∷ xs) ys = last_both x.llsn xs ys

pub mtrs_more : (front : List (List Mtr)) (batch : List Mtr) → mtrs_of (front ++ batch ∷ []) ≡ mtrs_of front ++ batch
mtrs_more front batch = flat_map-append (λ (b : List Mtr). b) front (batch ∷ []) ∙ ap (λ (x : List Mtr). mtrs_of front ++ x) (append-nil batch)

text_more : (front : List (List Mtr)) (batch : List Mtr) → batches_text (front ++ batch ∷ []) ≡ batches_text front ++ batch_text batch
text_more front batch = flat_map-append batch_text front (batch ∷ []) ∙ ap (λ (x : List ℕ). batches_text front ++ x) (append-nil (batch_text batch))

-- one more
pub before_more : (node last gate count end start : ℕ) (file old new : List ℕ) → AreBefore node last gate file → (next : IsNextBatch node last file gate old new count end) → start ≡ gate + (5 + count)
    → AreBefore node end start file
before_more node last gate count end start file old new so next is_start =
    let batch = next.batch in
    let head : length (little_bytes 4 (length (batch_bytes batch))) ≡ 4 = refl in
    let longer : gate + (5 + count) ≡ length (batches_text (so.batches ++ batch ∷ [])) =
    omega (arith, so.gate_is, next.count_is, head, ap length (text_more so.batches batch), length-append (batches_text so.batches) (batch_text batch), length-append (little_bytes 4 (length (batch_bytes batch))) (batch_bytes batch)) in
    record {
      batches = so.batches ++ batch ∷ [];
      log = record {
        mtrs = subst (AreLogged node) (sym (mtrs_more so.batches batch)) (record {
          each = All-append (IsOf node) (mtrs_of so.batches) batch so.log.mtrs.each next.each;
          rising = rises_both 0 (mtrs_of so.batches) batch so.log.mtrs.rising (subst (λ (l : ℕ). rises llsn_of (l + 1) (2 ^ 62) batch ≡ true) so.last_is next.rising);
        });
        sizes = All-append IsBatch so.batches (batch ∷ []) so.log.sizes (next.sized, tt);
      };
      split = so.split ∙ ap (λ (x : List ℕ). batches_text so.batches ++ x) (next.spelled ∙ ap (λ (g : ℕ). batch_text batch ++ drop g file) (sym is_start))
          ∙ sym (append_assoc (batches_text so.batches) (batch_text batch) (drop start file)) ∙ ap (λ (x : List ℕ). x ++ drop start file) (sym (text_more so.batches batch));
      gate_is = is_start ∙ longer;
      last_is = next.end_is ∙ ap (λ (l : ℕ). last_after l batch) so.last_is ∙ sym (last_both 0 (mtrs_of so.batches) batch) ∙ ap (last_after 0) (sym (mtrs_more so.batches batch));
    }

-- behind them stands a closed gate
pub before_end : (node last gate : ℕ) (file : List ℕ) → (so : AreBefore node last gate file) → next_at node last file gate ≡ Ok None → IsText so.batches file
before_end node last gate file so e =
    let a = both_read (open_at file gate) (λ count. batch_behind node last file gate count) None e in
    let none : open_at file gate ≡ Ok None = a.1 ∙ ap Ok (nothing a.0 a.2) in
    let closed = is_closed file gate none in
    record {
      gate = get_or file gate 0;
      rest = drop (gate + 1) file;
      closed = λ e. absurd (false≢true (sym closed.1 ∙ eq-eqb (get_or file gate 0) open_gate e));
      whole = so.split ∙ ap (λ (x : List ℕ). batches_text so.batches ++ x) (drop_byte gate file closed.0);
    }
  where
    some_read : (r : Read (List Mtr)) (count : ℕ) → and_then {B = Option (List Mtr × ℕ)} r (λ batch. Ok (Some (batch, count))) ≡ Ok None → ⊥
    some_read (Ok batch) count h = cc
    some_read (Err place) count h = cc

    nothing : (found : Option ℕ) → batch_behind node last file gate found ≡ Ok None → found ≡ None
    nothing None h = refl
    nothing (Some count) h = absurd (some_read (batch_at node last file gate count) count h)

-- no fuel is left
pub batches_spent : (node : ℕ) (file old : List ℕ) (fuel gate last : ℕ) (now : List ℕ) → fuel ≡ 0 → BatchesSoFar node file old fuel gate last now → log_at node file ≡ Err gate
batches_spent node file old fuel gate last now none so = sym so.reads ∙ ap (λ (n : ℕ). with_front so.before.batches (batches_at n node last file gate)) none

module _ (node : ℕ) (file old : List ℕ) (left fuel gate last : ℕ) (now : List ℕ) (so : BatchesSoFar node file old left gate last now) (one_more : left ≡ suc fuel) where
  opened : log_at node file ≡ with_front so.before.batches (and_then (next_at node last file gate) (λ next. batches_from last gate (λ l g. batches_at fuel node l file g) next))
  opened = sym so.reads ∙ ap (λ (n : ℕ). with_front so.before.batches (batches_at n node last file gate)) one_more

  -- the next batch has a fault
  pub batches_stop : (place : ℕ) → next_at node last file gate ≡ Err place → log_at node file ≡ Err place
  batches_stop place e = opened ∙ ap (λ (r : Read (Option (List Mtr × ℕ))). with_front so.before.batches (and_then r (λ next. batches_from last gate (λ l g. batches_at fuel node l file g) next))) e

  pub batches_refused : (refusal : LogRefusal) (before after new : List ℕ) → Nexts node last file gate before after (Err refusal) → ReadsLog node file old new (Err refusal)
  batches_refused (Fault place) before after new h = batches_stop place h
  batches_refused Disk before after new h = tt
  batches_refused Memory before after new h = tt

  -- there is none
  pub batches_end : next_at node last file gate ≡ Ok None → (new : List ℕ) → new ≡ now → IsReadLog node file old new gate last
  batches_end e new same = record {
    batches = so.before.batches;
    log = so.before.log;
    text = before_end node last gate file so.before e;
    place_is = so.before.gate_is;
    last_is = so.before.last_is;
    added = same ∙ so.added;
  }

  -- it is one more
  pub batches_more : (count end start : ℕ) (new : List ℕ) → IsNextBatch node last file gate now new count end → start ≡ gate + (5 + count) → BatchesSoFar node file old fuel start end new
  unfolding before_more
  batches_more count end start new next is_start =
      let batch = next.batch in
      let front = so.before.batches in
      record {
        before = before_more node last gate count end start file now new so.before next is_start;
        reads = with_one front batch (batches_at fuel node end file start)
            ∙ ap (λ (l : ℕ). with_front front (and_then (batches_at fuel node l file start) (λ more. Ok (batch ∷ more.0, more.1)))) next.end_is
            ∙ ap (λ (g : ℕ). with_front front (and_then (batches_at fuel node (last_after last batch) file g) (λ more. Ok (batch ∷ more.0, more.1)))) is_start
            ∙ sym (opened ∙ ap (λ (r : Read (Option (List Mtr × ℕ))). with_front front (and_then r (λ n. batches_from last gate (λ l g. batches_at fuel node l file g) n))) next.is);
        added = next.added ∙ ap (λ (x : List ℕ). x ++ map llsn_of batch) so.added ∙ append_assoc old (map llsn_of (mtrs_of front)) (map llsn_of batch)
            ∙ ap (λ (x : List ℕ). old ++ x) (sym (map-append llsn_of (mtrs_of front) batch) ∙ ap (map llsn_of) (sym (mtrs_more front batch)));
      }

-- what an opened log stands for
pub is_opened : (node place last : ℕ) (seen old llsns : List ℕ) (image : List ℕ → Type 0) (tail : TailView) → IsReadLog node seen old llsns place last → old ≡ [] → tail ≡ record { node = node; place = place; last = last; live = true; bytes = [] } → Only seen image → IsOpened node tail llsns seen image
is_opened node place last seen old llsns image tail read none is_tail only =
    let behind : mtrs_of read.batches ++ [] ≡ mtrs_of read.batches = append-nil (mtrs_of read.batches) in
    let here : LogStands read.batches [] (record { node = node; place = place; last = last; live = true; bytes = [] }) seen image = record {
      reads = read.text;
      images = λ c left. subst (IsText read.batches) (sym (only c left)) read.text;
      mtrs = subst (AreLogged node) (sym behind) read.log.mtrs;
      sizes = read.log.sizes;
      place = read.place_is;
      last = read.last_is ∙ ap (last_after 0) (sym behind);
      bytes = refl;
    } in
    record {
      batches = read.batches;
      log = read.log;
      stands = subst (λ (t : TailView). LogStands read.batches [] t seen image) (sym is_tail) here;
      llsns_are = read.added ∙ ap (λ (x : List ℕ). x ++ map llsn_of (mtrs_of read.batches)) none;
    }

pub opens_refused : (node : ℕ) (file old new seen : List ℕ) (image : List ℕ → Type 0) (refusal : LogRefusal) → ReadsLog node file old new (Err refusal) → OpensLog node file seen image (Err refusal)
opens_refused node file old new seen image (Fault place) h = h
opens_refused node file old new seen image Disk h = tt
opens_refused node file old new seen image Memory h = tt
