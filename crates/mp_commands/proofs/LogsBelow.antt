-- The logs are printed one after another.
use Rattle.std.proofs.Common.{◌≡◌, ◌≢◌, ◌∙◌, ℕ, suc, ◌+◌, ◌++◌, ◌<◌, ◌≤◌, List, [], length, Some, None, slice_get, Result, Ok, Err, refl, sym, ap, subst, inl, inr, zero, arith}
use Rattle.std.proofs.lemmas.Bool.{cases_lt}
use Rattle.mp_outside.specs.declared.disks.Disk.{Ghosts}
use Rattle.mp_files.specs.Nine.{At, seen_of, seen_at, EachTells, KeptLogs}
use Rattle.mp_files.proofs.Nines.{KeptLogs-one}
use Rattle.mp_files.proofs.Places.{at_place}
use Rattle.mp_log.specs.Readers.{log_mtrs}
use Rattle.mp_log.specs.declared.refusals.LogRefusal.{LogRefusal}
use Rattle.mp_log.specs.declared.refusals.LogRefusal.TheVariants.{Fault, Disk, Memory}
use Rattle.mp_commands.specs.declared.refusals.LogsRefusal.{LogsRefusal}
use Rattle.mp_commands.specs.LogTexts.{log_text, read_at, texts_below, mtrs_below, or_next, LogFault, fault_below, TellBelow, Did, FindsLogs, IsRefused}

one_more : (n : ℕ) → n + 1 ≡ suc n
one_more n = omega arith

-- one log more
texts_more : (files : ℕ → List ℕ) (place : ℕ) → texts_below files (place + 1) ≡ texts_below files place ++ log_text (place + 1) (read_at files place).0
unfolding texts_below
texts_more files place = ap (λ n. texts_below files n) (one_more place)

mtrs_more : (files : ℕ → List ℕ) (place : ℕ) → mtrs_below files (place + 1) ≡ mtrs_below files place + length (read_at files place).0
unfolding mtrs_below
mtrs_more files place = ap (λ n. mtrs_below files n) (one_more place)

fault_more : (files : ℕ → List ℕ) (place : ℕ) → fault_below files (place + 1) ≡ or_next (fault_below files place) (place + 1) (read_at files place).1
unfolding fault_below
fault_more files place = ap (λ n. fault_below files n) (one_more place)

-- no log
pub texts_none : (files : ℕ → List ℕ) → texts_below files 0 ≡ []
unfolding texts_below
texts_none files = refl

pub mtrs_none : (files : ℕ → List ℕ) → mtrs_below files 0 ≡ 0
unfolding mtrs_below
mtrs_none files = refl

pub fault_none : (files : ℕ → List ℕ) → fault_below files 0 ≡ None
unfolding fault_below
fault_none files = refl

-- a fault stays the first
pub fault_stays : (files : ℕ → List ℕ) (n m : ℕ) (fault : LogFault) → fault_below files n ≡ Some fault → n ≤ m → fault_below files m ≡ Some fault
fault_stays files n zero fault h le = subst (λ k. fault_below files k ≡ Some fault) (omega (arith, le)) h
fault_stays files n (suc m) fault h le = elim (cases_lt n (suc m)) [
  | inl below ↦ ap (λ k. fault_below files k) (sym (one_more m)) ∙ fault_more files m ∙ ap (λ x. or_next x (m + 1) (read_at files m).1) (fault_stays files n m fault h (omega (arith, below)))
  | inr above ↦ subst (λ k. fault_below files k ≡ Some fault) (omega (arith, le, above)) h
]

module _ {D : Type 0} (g : Ghosts D) where
  -- which logs tell their bytes
  pub all_below : (bound : ℕ) (logs : List D) → EachTells g logs → TellBelow g bound logs
  all_below bound logs tell = λ place log lt at. tell place log at

  fewer : (place : ℕ) (logs : List D) → TellBelow g (place + 1) logs → TellBelow g place logs
  fewer place logs tell = λ k log lt at. tell k log (omega (arith, lt)) at

  -- what was done with one log, of the logs as they were at first
  pub did_first : (primary place : ℕ) (old mid new : List D) (text text_after : List ℕ) (result : Result ℕ LogRefusal) → slice_get mid place ≡ slice_get old place
      → At (Did g primary text text_after result) mid new place → At (Did g primary text text_after result) old new place
  did_first primary place old mid new text text_after result same did = λ before after was now. did before after (same ∙ was) now

  pub all_on : (primary place : ℕ) (old mid new : List D) (text text_after : List ℕ) (result : Result ℕ LogRefusal) → KeptLogs g old mid → length new ≡ length mid
      → ((k : ℕ) → k ≢ place → slice_get new k ≡ slice_get mid k) → At (Did g primary text text_after result) old new place → KeptLogs g old new
  all_on primary place old mid new text text_after result so_far count others did =
      KeptLogs-one g old mid new place so_far count others (λ before after was now. (did before after was now).kept)

  -- a log that was printed is one log more
  pub one_printed : (place count : ℕ) (old new : List D) (text text_after : List ℕ) (total total_after : ℕ) → place < length old → length new ≡ length old
      → At (Did g (place + 1) text text_after (Ok count)) old new place → total_after ≡ total + count
      → (TellBelow g place old → (text ≡ texts_below (seen_at g old) place) × (total ≡ mtrs_below (seen_at g old) place) × (fault_below (seen_at g old) place ≡ None))
      → TellBelow g (place + 1) old
      → (text_after ≡ texts_below (seen_at g old) (place + 1)) × (total_after ≡ mtrs_below (seen_at g old) (place + 1)) × (fault_below (seen_at g old) (place + 1) ≡ None)
  one_printed place count old new text text_after total total_after lt same did sum so_far tells =
      let files = seen_at g old in
      let before = at_place old place lt in
      let after = at_place new place (subst (λ n. place < n) (sym same) lt) in
      let this = did before.0 after.0 before.1 after.1 in
      let told = tells place before.0 (omega arith) before.1 in
      let file : g.seen before.0 ≡ files place = sym (ap (seen_of g) before.1) in
      let printed = this.printed told in
      let sofar = so_far (fewer place old tells) in (
        printed.0 ∙ ap (λ t. t ++ log_text (place + 1) (log_mtrs (place + 1) (g.seen before.0)).0) sofar.0 ∙ ap (λ f. texts_below files place ++ log_text (place + 1) (log_mtrs (place + 1) f).0) file ∙ sym (texts_more files place),
        sum ∙ ap (λ t. t + count) sofar.1 ∙ ap (λ k. mtrs_below files place + k) (printed.1 ∙ ap (λ f. length (log_mtrs (place + 1) f).0) file) ∙ sym (mtrs_more files place),
        fault_more files place ∙ ap (λ x. or_next x (place + 1) (read_at files place).1) sofar.2 ∙ ap (λ y. or_next None (place + 1) y) (ap (λ f. (log_mtrs (place + 1) f).1) (sym file) ∙ this.finds told),
      )

  -- the refusal of a log is that of all, for its reason
  pub one_refused : (T : Type 0) (place : ℕ) (old new : List D) (text text_after : List ℕ) (refusal : LogRefusal) (refused : LogsRefusal) → place < length old → length new ≡ length old
      → At (Did g (place + 1) text text_after (Err refusal)) old new place → IsRefused (place + 1) refusal refused
      → (TellBelow g place old → fault_below (seen_at g old) place ≡ None) → FindsLogs g {T = T} (Err refused) old new
  one_refused T place old new text text_after (Fault at) refused lt same did is none =
      let files = seen_at g old in
      let before = at_place old place lt in
      let after = at_place new place (subst (λ n. place < n) (sym same) lt) in
      let this = did before.0 after.0 before.1 after.1 in
      subst (λ r. FindsLogs g {T = T} (Err r) old new) (sym is) (record {
        at = place;
        its = refl;
        there = lt;
        first = λ tells. fault_more files place ∙ ap (λ x. or_next x (place + 1) (read_at files place).1) (none (fewer place old tells))
            ∙ ap (λ y. or_next None (place + 1) y) (ap (λ f. (log_mtrs (place + 1) f).1) (ap (seen_of g) before.1) ∙ this.finds (tells place before.0 (omega arith) before.1));
      })
  one_refused T place old new text text_after Disk refused lt same did is none =
      let before = at_place old place lt in
      let after = at_place new place (subst (λ n. place < n) (sym same) lt) in
      subst (λ r. FindsLogs g {T = T} (Err r) old new) (sym is) (record {
        rose = (place, refl, record { before = before.0; after = after.0; was = before.1; now = after.1; rose = (did before.0 after.0 before.1 after.1).cause });
        before = none;
      })
  one_refused T place old new text text_after Memory refused lt same did is none = subst (λ r. FindsLogs g {T = T} (Err r) old new) (sym is) tt
