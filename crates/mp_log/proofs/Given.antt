-- What a reader gives, batch by batch.
use Rattle.std.proofs.Common.{◌≡◌, ℕ, zero, suc, ◌+◌, ◌<◌, ◌≤◌, ◌==◌, nat_lt, cond, Bool, true, false, List, [], ◌∷◌, ◌++◌, length, get_or, take, drop, Option, Some, None, Result, Ok, Err, refl, sym, ap, subst, ◌∙◌, arith}
use Rattle.std.specs.List.{AllByRecursion}
use Rattle.std.proofs.lemmas.Bool.Decides.{nat_tests}
use Rattle.std.proofs.lemmas.List.{length-append, take_at, drop-drop}
use Rattle.mp_cells.specs.declared.records.Mtr.{Mtr}
use Rattle.mp_cells.specs.Mtrs.{IsMtr}
use Rattle.mp_redo.specs.Spelling.{mtr_bytes}
use Rattle.mp_redo.specs.Reading.{and_then, field}
use Rattle.mp_redo.proofs.Fields.{both_read}
use Rattle.mp_redo.proofs.Puts.{mtr_length}
use Rattle.mp_log.specs.declared.batches.LogPlace.{LogPlace}
use Rattle.mp_log.specs.declared.refusals.LogRefusal.{LogRefusal}
use Rattle.mp_log.specs.declared.refusals.LogRefusal.TheVariants as refusals
use Rattle.mp_log.specs.Logs.{open_gate, batch_bytes, batches_text, mtrs_of, last_after, IsOf, IsLog, IsText}
use Rattle.mp_log.proofs.ReadAgain.{log_again}
use Rattle.mp_log.specs.Reading.{count_at, open_at, batch_behind, next_at, batches_from, batches_at, AreBefore, IsNextBatch}
use Rattle.mp_log.specs.Readers.{given_from, given_at, log_mtrs, fresh_reader, ReaderView, Remains, IsLoaded, LoadsNext, Fills, Advances, TakesNext, GivesNext}
use Rattle.mp_log.specs.declared.readers.State.TheVariants.{Ended, Refused}
use Rattle.mp_log.proofs.NextBatch.{is_opened, is_closed}
use Rattle.mp_log.proofs.Forced.{none_pending}
use Rattle.mp_log.proofs.Opened.{none_before, before_more, before_end}

all_mtrs : (node : ℕ) (mtrs : List Mtr) → AllByRecursion (IsOf node) mtrs → AllByRecursion IsMtr mtrs
all_mtrs node [] h = tt
all_mtrs node (mtr ∷ mtrs) h = (h.0.0, all_mtrs node mtrs h.1)

-- the batch that was read, and its bytes
pub is_loaded : (file before after : List ℕ) (old new : ReaderView) (count end : ℕ) → IsNextBatch old.place.node old.place.last file old.place.gate before after count end → new.bytes ≡ take count (drop (old.place.gate + 5) file)
    → new.place ≡ record { node = old.place.node; gate = old.place.gate + (5 + count); last = end } → IsLoaded file old new
is_loaded file before after old new count end next bytes place =
    let batch = next.batch in
    let more = drop (old.place.gate + (5 + count)) file in
    let whole : drop (old.place.gate + 5) file ≡ batch_bytes batch ++ more = sym (drop-drop 5 old.place.gate file) ∙ ap (drop 5) next.spelled in
    record {
      batch = batch;
      count = count;
      is = next.is;
      some = next.sized.0;
      sound = all_mtrs old.place.node batch next.each;
      bytes = bytes ∙ ap (take count) whole ∙ take_at (batch_bytes batch) more count (sym next.count_is);
      place = place ∙ ap (λ (l : ℕ). record { node = old.place.node; gate = old.place.gate + (5 + count); last = l }) next.end_is;
      before = λ so. subst (λ (p : LogPlace). AreBefore p.node p.last p.gate file) (sym place)
          (before_more old.place.node old.place.last old.place.gate count end (old.place.gate + (5 + count)) file before after so next refl);
    }

-- a gate that was read lies within the file
some_within : (node last : ℕ) (file : List ℕ) (gate : ℕ) (next : Option (List Mtr × ℕ)) → next_at node last file gate ≡ Ok next → gate < length file
some_within node last file gate next h = let a = both_read (open_at file gate) (λ count. batch_behind node last file gate count) next h in by_found a.0 a.1
  where
    by_found : (found : Option ℕ) → open_at file gate ≡ Ok found → gate < length file
    by_found None e = (is_closed file gate e).0
    by_found (Some count) e = (is_opened file gate count e).0

-- behind the file there is no gate
past_end : (node last : ℕ) (file : List ℕ) (gate : ℕ) → length file < gate → next_at node last file gate ≡ Err gate
past_end node last file gate past =
    let test : nat_lt gate (length file) ≡ false = grind (arith, nat_tests, past) in
    ap (λ (b : Bool). and_then (and_then (field gate b (get_or file gate 0 == open_gate)) (λ is_open. cond is_open (and_then (count_at file gate) (λ count. Ok (Some count))) (Ok None))) (λ count. batch_behind node last file gate count)) test

nothing_left : (fuel : ℕ) (reader : ReaderView) (batch : List Mtr) → reader.bytes ≡ batch_bytes batch → reader.bytes ≡ [] → batch ≡ []
nothing_left fuel reader batch bytes none = none_pending batch (sym bytes ∙ none)

has_bytes : (batch : List Mtr) → 1 ≤ length batch → 1 ≤ length (batch_bytes batch)
has_bytes [] h = absurd (omega arith)
has_bytes (mtr ∷ mtrs) h = omega (arith, length-append (mtr_bytes mtr) (batch_bytes mtrs), mtr_length mtr)

module _ (file : List ℕ) (mtrs : List Mtr) (fault : Option ℕ) (old : ReaderView) (remains : Remains old file mtrs fault) (none : old.bytes ≡ []) where
  abbrev given : ℕ → List Mtr × Option ℕ
  given fuel = given_at fuel old.place.node old.place.last file old.place.gate

  left : mtrs ≡ (given remains.fuel).0
  left = remains.mtrs_are ∙ ap (λ (b : List Mtr). b ++ (given remains.fuel).0) (nothing_left remains.fuel old remains.batch remains.bytes none)

  -- another batch
  pub filled : (new : ReaderView) → new.state ≡ old.state → IsLoaded file old new → Remains new file mtrs fault × (1 ≤ length new.bytes)
  filled new state loaded = by_fuel remains.fuel refl
    where
      within : old.place.gate < length file
      within = some_within old.place.node old.place.last file old.place.gate (Some (loaded.batch, loaded.count)) loaded.is

      by_fuel : (fuel : ℕ) → remains.fuel ≡ fuel → Remains new file mtrs fault × (1 ≤ length new.bytes)
      by_fuel zero e = absurd (omega (arith, remains.enough, e, within))
      by_fuel (suc fuel) e =
          let more = given_at fuel old.place.node (last_after old.place.last loaded.batch) file (old.place.gate + (5 + loaded.count)) in
          let all : given remains.fuel ≡ (loaded.batch ++ more.0, more.1) = ap given e ∙ ap (given_from old.place.last old.place.gate (λ l g. given_at fuel old.place.node l file g)) loaded.is in
          let same : given_at fuel new.place.node new.place.last file new.place.gate ≡ more = ap (λ (p : LogPlace). given_at fuel p.node p.last file p.gate) loaded.place in
          let gate_is : new.place.gate ≡ old.place.gate + (5 + loaded.count) = ap (λ (p : LogPlace). p.gate) loaded.place in (
            record {
              reading = state ∙ remains.reading;
              fuel = fuel;
              enough = omega (arith, remains.enough, e, gate_is);
              batch = loaded.batch;
              bytes = loaded.bytes;
              sound = loaded.sound;
              before = loaded.before remains.before;
              mtrs_are = left ∙ ap (λ (p : List Mtr × Option ℕ). p.0) all ∙ ap (λ (p : List Mtr × Option ℕ). loaded.batch ++ p.0) (sym same);
              fault_is = remains.fault_is ∙ ap (λ (p : List Mtr × Option ℕ). p.1) all ∙ ap (λ (p : List Mtr × Option ℕ). p.1) (sym same);
            },
            subst (λ (bytes : List ℕ). 1 ≤ length bytes) (sym loaded.bytes) (has_bytes loaded.batch loaded.some),
          )

  -- the end
  pub ends : next_at old.place.node old.place.last file old.place.gate ≡ Ok None → (mtrs ≡ []) × (fault ≡ None)
  ends h = by_fuel remains.fuel refl
    where
      by_fuel : (fuel : ℕ) → remains.fuel ≡ fuel → (mtrs ≡ []) × (fault ≡ None)
      by_fuel zero e = absurd (omega (arith, remains.enough, e, some_within old.place.node old.place.last file old.place.gate None h))
      by_fuel (suc fuel) e =
          let all : given remains.fuel ≡ ([], None) = ap given e ∙ ap (given_from old.place.last old.place.gate (λ l g. given_at fuel old.place.node l file g)) h in
          (left ∙ ap (λ (p : List Mtr × Option ℕ). p.0) all, remains.fault_is ∙ ap (λ (p : List Mtr × Option ℕ). p.1) all)

  -- a fault
  pub faults : (place : ℕ) → next_at old.place.node old.place.last file old.place.gate ≡ Err place → (mtrs ≡ []) × (fault ≡ Some place)
  faults place h = by_fuel remains.fuel refl
    where
      by_fuel : (fuel : ℕ) → remains.fuel ≡ fuel → (mtrs ≡ []) × (fault ≡ Some place)
      by_fuel zero e =
          let past = past_end old.place.node old.place.last file old.place.gate (omega (arith, remains.enough, e)) in
          let same : old.place.gate ≡ place = let both = sym past ∙ h in cc in
          let all : given remains.fuel ≡ ([], Some place) = ap given e ∙ ap (λ (n : ℕ). ([], Some n)) same in
          (left ∙ ap (λ (p : List Mtr × Option ℕ). p.0) all, remains.fault_is ∙ ap (λ (p : List Mtr × Option ℕ). p.1) all)
      by_fuel (suc fuel) e =
          let all : given remains.fuel ≡ ([], Some place) = ap given e ∙ ap (given_from old.place.last old.place.gate (λ l g. given_at fuel old.place.node l file g)) h in
          (left ∙ ap (λ (p : List Mtr × Option ℕ). p.0) all, remains.fault_is ∙ ap (λ (p : List Mtr × Option ℕ). p.1) all)

  pub fills : (new : ReaderView) (result : Result Bool LogRefusal) → new.state ≡ old.state → LoadsNext file old new result → Fills file mtrs fault new result
  fills new (Ok true) state h = filled new state h
  fills new (Ok false) state h = ends h
  fills new (Err (refusals.Fault place)) state h = faults place h
  fills new (Err refusals.Disk) state h = tt
  fills new (Err refusals.Memory) state h = tt

-- the first mtr of a batch is given
pub takes : (file : List ℕ) (mtrs : List Mtr) (fault : Option ℕ) (old new : ReaderView) (given : Mtr) → Remains old file mtrs fault → 1 ≤ length old.bytes → new.place ≡ old.place → new.state ≡ old.state
    → ((mtr : Mtr) (rest : List Mtr) → IsMtr mtr → old.bytes ≡ mtr_bytes mtr ++ batch_bytes rest → (given ≡ mtr) × (new.bytes ≡ batch_bytes rest))
    → (rest : List Mtr) × (mtrs ≡ given ∷ rest) × Remains new file rest fault
takes file mtrs fault old new given remains some place state taken = by_batch remains.batch refl
  where
    by_batch : (batch : List Mtr) → remains.batch ≡ batch → (rest : List Mtr) × (mtrs ≡ given ∷ rest) × Remains new file rest fault
    by_batch [] e = let none : old.bytes ≡ [] = remains.bytes ∙ ap batch_bytes e in absurd (omega (arith, some, ap length none))
    by_batch (mtr ∷ batch) e =
        let sound = subst (AllByRecursion IsMtr) e remains.sound in
        let t = taken mtr batch sound.0 (remains.bytes ∙ ap batch_bytes e) in
        let more = given_at remains.fuel old.place.node old.place.last file old.place.gate in
        let same : given_at remains.fuel new.place.node new.place.last file new.place.gate ≡ more = ap (λ (p : LogPlace). given_at remains.fuel p.node p.last file p.gate) place in
        let gate_is : new.place.gate ≡ old.place.gate = ap (λ (p : LogPlace). p.gate) place in (
          batch ++ more.0,
          remains.mtrs_are ∙ ap (λ (b : List Mtr). b ++ more.0) e ∙ ap (λ (m : Mtr). m ∷ (batch ++ more.0)) (sym t.0),
          record {
            reading = state ∙ remains.reading;
            fuel = remains.fuel;
            enough = omega (arith, remains.enough, gate_is);
            batch = batch;
            bytes = t.1;
            sound = sound.1;
            before = subst (λ (p : LogPlace). AreBefore p.node p.last p.gate file) (sym place) remains.before;
            mtrs_are = ap (λ (p : List Mtr × Option ℕ). batch ++ p.0) (sym same);
            fault_is = remains.fault_is ∙ ap (λ (p : List Mtr × Option ℕ). p.1) (sym same);
          },
        )

pub not_taken : (file : List ℕ) (mtrs : List Mtr) (fault : Option ℕ) (old new : ReaderView) (refusal : LogRefusal) → Remains old file mtrs fault → 1 ≤ length old.bytes
    → ((mtr : Mtr) (rest : List Mtr) → IsMtr mtr → old.bytes ≡ mtr_bytes mtr ++ batch_bytes rest → TakesNext mtr rest new (Err refusal)) → Advances file mtrs fault new (Err refusal)
not_taken file mtrs fault old new refusal remains some taken = by_batch remains.batch refl refusal taken
  where
    by_batch : (batch : List Mtr) → remains.batch ≡ batch → (r : LogRefusal) → ((mtr : Mtr) (rest : List Mtr) → IsMtr mtr → old.bytes ≡ mtr_bytes mtr ++ batch_bytes rest → TakesNext mtr rest new (Err r)) → Advances file mtrs fault new (Err r)
    by_batch [] e r t = let none : old.bytes ≡ [] = remains.bytes ∙ ap batch_bytes e in absurd (omega (arith, some, ap length none))
    by_batch (mtr ∷ batch) e (refusals.Fault place) t = absurd (t mtr batch (subst (AllByRecursion IsMtr) e remains.sound).0 (remains.bytes ∙ ap batch_bytes e))
    by_batch (mtr ∷ batch) e refusals.Disk t = tt
    by_batch (mtr ∷ batch) e refusals.Memory t = tt

-- where nothing is left and the gate is closed, the file is the text of batches
pub whole_read : (file : List ℕ) (mtrs : List Mtr) (fault : Option ℕ) (reader : ReaderView) → Remains reader file mtrs fault
    → next_at reader.place.node reader.place.last file reader.place.gate ≡ Ok None → (batches : List (List Mtr)) × IsLog reader.place.node batches × IsText batches file
whole_read file mtrs fault reader remains closed =
    let so = remains.before in
    (so.batches, so.log, before_end reader.place.node reader.place.last reader.place.gate file so closed)

-- a reader that has ended has nothing that remains
pub not_ended : (file : List ℕ) (mtrs : List Mtr) (fault : Option ℕ) (reader : ReaderView) → Remains reader file mtrs fault → reader.state ≡ Ended → ⊥
not_ended file mtrs fault reader remains ended = let both = sym remains.reading ∙ ended in cc

-- a refusal is kept
pub refused_so : (file : List ℕ) (mtrs : List Mtr) (fault : Option ℕ) (before new : ReaderView) (refusal : LogRefusal) → Advances file mtrs fault before (Err refusal) → new.state ≡ Refused refusal → GivesNext file mtrs fault new (Err refusal)
refused_so file mtrs fault before new (refusals.Fault place) h state = (h.0, h.1, state)
refused_so file mtrs fault before new refusals.Disk h state = state
refused_so file mtrs fault before new refusals.Memory h state = state

-- ---- a whole log
pub fresh_remains : (node : ℕ) (file : List ℕ) → Remains (fresh_reader node) file (log_mtrs node file).0 (log_mtrs node file).1
fresh_remains node file = record { reading = refl; fuel = length file + 1; enough = omega arith; batch = []; bytes = refl; sound = tt; before = none_before node file; mtrs_are = refl; fault_is = refl }

-- batches that are read give their mtrs
given_all : (fuel node last : ℕ) (file : List ℕ) (gate : ℕ) (found : List (List Mtr) × ℕ) → batches_at fuel node last file gate ≡ Ok found → given_at fuel node last file gate ≡ (mtrs_of found.0, None)
given_all zero node last file gate found h = absurd cc
given_all (suc fuel) node last file gate found h =
    let a = both_read (next_at node last file gate) (λ next. batches_from last gate (λ l g. batches_at fuel node l file g) next) found h in
    by_next a.0 a.1 a.2 (λ next. given_all fuel node (last_after last next.0) file (gate + (5 + next.1)))
  where
    by_next : (next : Option (List Mtr × ℕ)) → next_at node last file gate ≡ Ok next → batches_from last gate (λ l g. batches_at fuel node l file g) next ≡ Ok found
        → ((n : List Mtr × ℕ) (rest : List (List Mtr) × ℕ) → batches_at fuel node (last_after last n.0) file (gate + (5 + n.1)) ≡ Ok rest → given_at fuel node (last_after last n.0) file (gate + (5 + n.1)) ≡ (mtrs_of rest.0, None))
        → given_from last gate (λ l g. given_at fuel node l file g) (next_at node last file gate) ≡ (mtrs_of found.0, None)
    by_next None e k more =
        let same : ([], gate) ≡ found = cc in
        ap (given_from last gate (λ l g. given_at fuel node l file g)) e ∙ ap (λ (f : List (List Mtr) × ℕ). (mtrs_of f.0, None)) same
    by_next (Some next) e k more =
        let b = both_read (batches_at fuel node (last_after last next.0) file (gate + (5 + next.1))) (λ rest. Ok (next.0 ∷ rest.0, rest.1)) found k in
        let same : (next.0 ∷ b.0.0, b.0.1) ≡ found = let f = b.2 in cc in
        ap (given_from last gate (λ l g. given_at fuel node l file g)) e ∙ ap (λ (p : List Mtr × Option ℕ). (next.0 ++ p.0, p.1)) (more next b.0 b.1) ∙ ap (λ (f : List (List Mtr) × ℕ). (mtrs_of f.0, None)) same

pub text_given : (node : ℕ) (batches : List (List Mtr)) (file : List ℕ) → IsLog node batches → IsText batches file → log_mtrs node file ≡ (mtrs_of batches, None)
text_given node batches file log text = given_all (length file + 1) node 0 file 0 (batches, length (batches_text batches)) (log_again node batches file log text)
