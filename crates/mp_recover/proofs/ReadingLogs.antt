-- Logs are read one after another.
use Rattle.std.proofs.Common.{◌≡◌, ◌≢◌, ℕ, ◌+◌, ◌<◌, List, length, slice_get, Option, None, Result, Ok, Err, IsTrue, refl, sym, ap, subst, ◌∙◌, inl, inr, arith}
use Rattle.mp_outside.specs.declared.disks.Disk.{Ghosts}
use Rattle.mp_cells.specs.declared.records.Mtr.{Mtr}
use Rattle.mp_files.specs.Nine.{At, seen_of, seen_at, EachTells, KeptDisk, KeptLogs}
use Rattle.mp_files.proofs.Places.{at_place}
use Rattle.mp_files.proofs.Nines.{KeptLogs-refl, KeptLogs-one, KeptLogs-trans, KeptDisk-still, RoseOf-later}
use Rattle.mp_log.specs.declared.refusals.LogRefusal.{LogRefusal}
use Rattle.mp_log.specs.declared.refusals.LogRefusal.TheVariants as refusals
use Rattle.mp_log.specs.Reading.{LogCause}
use Rattle.mp_log.specs.Readers.{ReaderView, Remains, GivesNext, log_mtrs}
use Rattle.mp_recover.specs.Merging.{fault_at, refused_as, MergeCause}
use Rattle.mp_recover.specs.ReadingLogs.{DidRead, ReadsToEnd, SoundBelow, RefusesFirst}
use Rattle.mp_recover.proofs.Filling.{here_or_not, cutting, seen_same, tells_same}

-- a reader's refusal is that of reading to the end
pub reader_refuses : (file : List ℕ) (mtrs : List Mtr) (fault : Option ℕ) (new : ReaderView) (refusal : LogRefusal) → GivesNext file mtrs fault new (Err refusal) → ReadsToEnd fault (Err refusal)
reader_refuses file mtrs fault new (refusals.Fault place) h = h.1
reader_refuses file mtrs fault new refusals.Disk h = tt
reader_refuses file mtrs fault new refusals.Memory h = tt

-- what a reader gives of a disk that reads as at first
pub reader_gives : {D : Type 0} (g : Ghosts D) (old mid : D) (reader new : ReaderView) (left : List Mtr) (fault : Option ℕ) (result : Result (Option Mtr) LogRefusal) → KeptDisk g old mid
    → ((mtrs : List Mtr) (f : Option ℕ) → IsTrue (g.tells mid) → Remains reader (g.seen mid) mtrs f → GivesNext (g.seen mid) mtrs f new result)
    → IsTrue (g.tells old) → Remains reader (g.seen old) left fault → GivesNext (g.seen old) left fault new result
reader_gives g old mid reader new left fault result kept gives tells remains =
    subst (λ (file : List ℕ). GivesNext file left fault new result) kept.quiet.same
    (gives left fault (subst (λ b. IsTrue b) (sym kept.tells) tells) (subst (λ (file : List ℕ). Remains reader file left fault) (sym kept.quiet.same) remains))

module _ {D : Type 0} (g : Ghosts D) (first mid new : List D) (place : ℕ) (result : Result (Unit {0}) LogRefusal)
    (kept : KeptLogs g first mid) (there : place < length mid) (count : length new ≡ length mid)
    (others : (k : ℕ) → k ≢ place → slice_get new k ≡ slice_get mid k)
    (did : At (DidRead g (place + 1) result) mid new place) where
  pub read_kept : KeptLogs g first new
  read_kept = KeptLogs-trans g first mid new kept
      (KeptLogs-one g mid mid new place (KeptLogs-refl g mid) count others (λ old after was now. (did old after was now).kept))

  found : EachTells g first → ReadsToEnd (fault_at (seen_at g first) place) result
  found tell =
      let old = at_place mid place there in
      let after = at_place new place (omega (arith, there, count)) in
      let file : g.seen old.0 ≡ seen_at g first place = sym (ap (seen_of g) old.1) ∙ seen_same g first mid kept place in
      subst (λ (f : List ℕ). ReadsToEnd (log_mtrs (place + 1) f).1 result) file
      ((did old.0 after.0 old.1 after.1).finds (tells_same g first mid kept tell place old.0 old.1))

  pub read_more : result ≡ Ok tt → EachTells g first → SoundBelow (seen_at g first) place → SoundBelow (seen_at g first) (place + 1)
  read_more ok tell sound k lt = elim (here_or_not k place) [
    | inl e ↦ subst (λ (n : ℕ). fault_at (seen_at g first) n ≡ None) (sym e) (subst (ReadsToEnd (fault_at (seen_at g first) place)) ok (found tell))
    | inr apart ↦ sound k (cutting k place lt apart)
  ]

  pub read_refuses : (refusal : LogRefusal) → place < 8 → result ≡ Err refusal → EachTells g first → SoundBelow (seen_at g first) place → RefusesFirst (seen_at g first) (refused_as (place + 1) refusal)
  read_refuses (refusals.Fault fault) most err tell sound = ((place, most, refl, subst (ReadsToEnd (fault_at (seen_at g first) place)) err (found tell)), sound)
  read_refuses refusals.Disk most err tell sound = (place, refl, sound)
  read_refuses refusals.Memory most err tell sound = tt

  pub read_cause : (refusal : LogRefusal) → result ≡ Err refusal → MergeCause g first new (refused_as (place + 1) refusal)
  read_cause (refusals.Fault fault) err = tt
  read_cause refusals.Disk err =
      let old = at_place mid place there in
      let after = at_place new place (omega (arith, there, count)) in
      RoseOf-later g (place + 1) first mid new kept.count (λ k before later was now. KeptDisk-still g before later (kept.each k before later was now)) (
        place,
        refl,
        record {
          before = old.0;
          after = after.0;
          was = old.1;
          now = after.1;
          rose = subst (LogCause (g.faults old.0) (g.faults after.0)) err (did old.0 after.0 old.1 after.1).cause;
        },
      )
  read_cause refusals.Memory err = tt
