-- What logs that were opened on disks, one after another, say of the disks.
use Rattle.std.proofs.Common.{◌≡◌, ℕ, zero, suc, ◌+◌, ◌<◌, List, [], ◌∷◌, ◌++◌, length, map, slice_get, Option, Some, None, IsTrue, refl, sym, ap, subst, ◌∙◌, arith}
use Rattle.std.proofs.lemmas.List.{length-map}
use Rattle.std.proofs.lemmas.Option.{slice_get_within}
use Rattle.mp_outside.specs.declared.disks.Disk.{Ghosts}
use Rattle.mp_cells.specs.declared.records.Mtr.{Mtr}
use Rattle.mp_files.specs.Nine.{At, seen_of, seen_at, EachTells, KeptDisk, KeptLogs}
use Rattle.mp_files.proofs.Nines.{KeptLogs-refl}
use Rattle.mp_files.proofs.Places.{same_some, at_place}
use Rattle.mp_log.specs.declared.refusals.LogRefusal.{LogRefusal}
use Rattle.mp_log.specs.declared.refusals.LogRefusal.TheVariants as refusals
use Rattle.mp_log.specs.Logs.{mtrs_of}
use Rattle.mp_log.specs.Readers.{log_mtrs}
use Rattle.mp_log.specs.Tails.{LogView}
use Rattle.mp_log.proofs.Given.{text_given}
use Rattle.mp_log.proofs.ReadWhole.{same_fault}
use Rattle.mp_recover.specs.Merging.{fault_at}
use Rattle.mp_recover.specs.ReadingLogs.{SoundBelow}
use Rattle.mp_opening.specs.declared.refusals.ClusterRefusal.{ClusterRefusal}
use Rattle.mp_opening.specs.BeginningChecks.{llsns_in_log}
use Rattle.mp_opening.specs.OpeningLogs.{run_refused_by_log, OpensLogOn, RefusedFor, OpensFirst, RefusesAtFirst, AreOpenedOn, TakesOut, StopsAt, LogsRefuse, LogsCause}

-- ---- places in lists that were appended

at_end : {X : Type 0} (xs : List X) (y : X) (ys : List X) → slice_get (xs ++ y ∷ ys) (length xs) ≡ Some y
at_end [] y ys = refl
at_end (x ∷ xs) y ys = at_end xs y ys

before_end : {X : Type 0} (xs ys : List X) (k : ℕ) → k < length xs → slice_get (xs ++ ys) k ≡ slice_get xs k
before_end [] ys k lt = absurd (omega (arith, lt))
before_end (x ∷ xs) ys zero lt = refl
before_end (x ∷ xs) ys (suc k) lt = before_end xs ys k (omega (arith, lt))

append_assoc : {X : Type 0} (xs : List X) (y : X) (ys : List X) → (xs ++ y ∷ []) ++ ys ≡ xs ++ y ∷ ys
append_assoc [] y ys = refl
append_assoc (x ∷ xs) y ys = ap (λ (zs : List _). x ∷ zs) (append_assoc xs y ys)

pub append_none : {X : Type 0} (xs : List X) → xs ++ [] ≡ xs
append_none [] = refl
append_none (x ∷ xs) = ap (λ (zs : List _). x ∷ zs) (append_none xs)

length_more : {X : Type 0} (xs ys : List X) → length (xs ++ ys) ≡ length xs + length ys
length_more [] ys = omega arith
length_more (x ∷ xs) ys = omega (arith, length_more xs ys)

pub length_last : {X : Type 0} (xs : List X) (x : X) → length (xs ++ x ∷ []) ≡ length xs + 1
length_last xs x = length_more xs (x ∷ [])

-- ---- lists of disks of which each is kept

module _ {D : Type 0} (g : Ghosts D) where
  kept_cons : (old new : D) (olds news : List D) → KeptDisk g old new → KeptLogs g olds news → KeptLogs g (old ∷ olds) (new ∷ news)
  kept_cons old new olds news first rest = record { count = ap (λ (n : ℕ). suc n) rest.count; each = each }
    where
      each : (place : ℕ) → At (KeptDisk g) (old ∷ olds) (new ∷ news) place
      each zero = λ x y was now. subst (λ (z : D). KeptDisk g z y) (same_some old x was) (subst (λ (z : D). KeptDisk g old z) (same_some new y now) first)
      each (suc place) = rest.each place

  pub opened_count : (primary : ℕ) (disks : List D) (logs : List (LogView D)) → AreOpenedOn g primary disks logs → length logs ≡ length disks
  opened_count primary [] [] all = refl
  opened_count primary [] (log ∷ logs) all = absurd all
  opened_count primary (disk ∷ disks) [] all = absurd all
  opened_count primary (disk ∷ disks) (log ∷ logs) all = ap (λ (n : ℕ). suc n) (opened_count (primary + 1) disks logs all.1)

  opened_more : (primary : ℕ) (disks : List D) (logs : List (LogView D)) (disk : D) (log : LogView D) → AreOpenedOn g primary disks logs
      → OpensLogOn g (primary + length logs) disk log → AreOpenedOn g primary (disks ++ disk ∷ []) (logs ++ log ∷ [])
  opened_more primary [] [] disk log all here = (subst (λ (n : ℕ). OpensLogOn g n disk log) (omega arith) here, tt)
  opened_more primary [] (l ∷ logs) disk log all here = absurd all
  opened_more primary (d ∷ disks) [] disk log all here = absurd all
  opened_more primary (d ∷ disks) (l ∷ logs) disk log all here =
      let next : primary + suc (length logs) ≡ primary + 1 + length logs = omega arith in
      (all.0, opened_more (primary + 1) disks logs disk log all.1 (subst (λ (n : ℕ). OpensLogOn g n disk log) next here))

  -- the disks that the logs have, with others behind them, are those that were there
  pub kept_behind : (primary : ℕ) (disks : List D) (logs : List (LogView D)) (olds news : List D) → AreOpenedOn g primary disks logs → KeptLogs g olds news
      → KeptLogs g (disks ++ olds) (map (λ (l : LogView D). l.disk) logs ++ news)
  kept_behind primary [] [] olds news all kept = kept
  kept_behind primary [] (l ∷ logs) olds news all kept = absurd all
  kept_behind primary (d ∷ disks) [] olds news all kept = absurd all
  kept_behind primary (d ∷ disks) (l ∷ logs) olds news all kept =
      kept_cons d l.disk (disks ++ olds) (map (λ (l : LogView D). l.disk) logs ++ news) all.0.kept (kept_behind (primary + 1) disks logs olds news all.1 kept)

  pub kept_all : (disks : List D) (logs : List (LogView D)) → AreOpenedOn g 1 disks logs → KeptLogs g disks (map (λ (l : LogView D). l.disk) logs)
  kept_all disks logs all =
      subst (λ (ds : List D). KeptLogs g ds (map (λ (l : LogView D). l.disk) logs)) (append_none disks)
      (subst (λ (ds : List D). KeptLogs g (disks ++ []) ds) (append_none (map (λ (l : LogView D). l.disk) logs)) (kept_behind 1 disks logs [] [] all (KeptLogs-refl g [])))

  opened_from : (primary place : ℕ) (disks : List D) (logs : List (LogView D)) → AreOpenedOn g primary disks logs
      → At (λ (d : D) (l : LogView D). OpensLogOn g (primary + place) d l) disks logs place
  opened_from primary place [] logs all = λ x y was now. absurd (omega (arith, slice_get_within [] place x was))
  opened_from primary place (d ∷ disks) [] all = absurd all
  opened_from primary zero (d ∷ disks) (l ∷ logs) all = λ x y was now.
      subst (λ (n : ℕ). OpensLogOn g n x y) (omega arith)
      (subst (λ (z : D). OpensLogOn g primary z y) (same_some d x was) (subst (λ (z : LogView D). OpensLogOn g primary d z) (same_some l y now) all.0))
  opened_from primary (suc place) (d ∷ disks) (l ∷ logs) all = λ x y was now.
      let next : primary + 1 + place ≡ primary + suc place = omega arith in
      subst (λ (n : ℕ). OpensLogOn g n x y) next (opened_from (primary + 1) place disks logs all.1 x y was now)

  -- the log at each place
  pub opened_at : (disks : List D) (logs : List (LogView D)) → AreOpenedOn g 1 disks logs → (place : ℕ) → At (λ (d : D) (l : LogView D). OpensLogOn g (place + 1) d l) disks logs place
  opened_at disks logs all place = λ x y was now.
      let next : 1 + place ≡ place + 1 = omega arith in
      subst (λ (n : ℕ). OpensLogOn g n x y) next (opened_from 1 place disks logs all x y was now)

  -- what reads give of an opened log is what its batches are
  pub read_of : (primary : ℕ) (disk : D) (log : LogView D) → IsTrue (g.tells disk) → OpensLogOn g primary disk log
      → (mtrs : List Mtr) × (log_mtrs primary (g.seen disk) ≡ (mtrs, None)) × (log.llsns ≡ map (λ (m : Mtr). m.llsn) mtrs)
  read_of primary disk log tells on =
      let is = on.holds tells in
      let text = subst (λ (file : List ℕ). log_mtrs primary file ≡ (mtrs_of is.batches, None)) on.kept.quiet.same
      (text_given primary is.batches (g.seen log.disk) is.log is.stands.reads) in
      (mtrs_of is.batches, text, is.llsns_are)

  -- a log that was opened has no fault, and it is known what its mtrs are
  pub read_at : (disks : List D) (logs : List (LogView D)) → AreOpenedOn g 1 disks logs → EachTells g disks → (place : ℕ) → place < length disks
      → (mtrs : List Mtr) × (log_mtrs (place + 1) (seen_at g disks place) ≡ (mtrs, None)) × (llsns_in_log (slice_get logs place) ≡ map (λ (m : Mtr). m.llsn) mtrs)
  read_at disks logs all tell place lt =
      let disk = at_place disks place lt in
      let log = at_place logs place (omega (arith, lt, opened_count 1 disks logs all)) in
      let read = read_of (place + 1) disk.0 log.0 (tell place disk.0 disk.1) (opened_at disks logs all place disk.0 log.0 disk.1 log.1) in (
        read.0,
        subst (λ (file : List ℕ). log_mtrs (place + 1) file ≡ (read.0, None)) (sym (ap (seen_of g) disk.1)) read.1,
        ap (λ (l : Option (LogView D)). llsns_in_log l) log.1 ∙ read.2,
      )

  pub sound_all : (disks : List D) (logs : List (LogView D)) → AreOpenedOn g 1 disks logs → EachTells g disks → SoundBelow (seen_at g disks) (length disks)
  sound_all disks logs all tell place lt =
      ap (λ (x : List Mtr × Option ℕ). x.1) (read_at disks logs all tell place lt).1

  -- ---- one log after another

  pub takes_none : (disks : List D) → TakesOut g disks disks []
  takes_none disks = record { taken = []; split = refl; opened = tt }

  pub takes_more : (old rest new : List D) (logs : List (LogView D)) (log : LogView D) → TakesOut g old rest logs → OpensFirst g (length logs + 1) rest new log → TakesOut g old new (logs ++ log ∷ [])
  takes_more old rest new logs log out first = record {
    taken = out.taken ++ first.disk ∷ [];
    split = out.split ∙ ap (λ (ds : List D). out.taken ++ ds) first.split ∙ sym (append_assoc out.taken first.disk new);
    opened =
        (let next : length logs + 1 ≡ 1 + length logs = omega arith in
        opened_more 1 out.taken logs first.disk log out.opened (subst (λ (n : ℕ). OpensLogOn g n first.disk log) next first.opened));
  }

  -- as many as were there, less those that were taken out
  pub takes_count : (old rest : List D) (logs : List (LogView D)) → TakesOut g old rest logs → length old ≡ length logs + length rest
  takes_count old rest logs out =
      ap (λ (ds : List D). length ds) out.split ∙ length_more out.taken rest ∙ ap (λ (n : ℕ). n + length rest) (sym (opened_count 1 out.taken logs out.opened))

  no_items : {X : Type 0} (xs : List X) → length xs ≡ 0 → xs ≡ []
  no_items [] none = refl
  no_items (x ∷ xs) none = absurd (omega (arith, none))

  pub takes_all : (old rest : List D) (logs : List (LogView D)) → TakesOut g old rest logs → length old ≡ length logs → (rest ≡ []) × AreOpenedOn g 1 old logs
  takes_all old rest logs out count =
      let none : rest ≡ [] = no_items rest (omega (arith, count, takes_count old rest logs out)) in
      let all : old ≡ out.taken = out.split ∙ ap (λ (ds : List D). out.taken ++ ds) none ∙ append_none out.taken in
      (none, subst (λ (ds : List D). AreOpenedOn g 1 ds logs) (sym all) out.opened)

  -- ---- the log that was refused

  module _ (refusal : ClusterRefusal) (old rest : List D) (logs : List (LogView D)) (stops : StopsAt g refusal old rest logs) where
    abbrev first : RefusesAtFirst g (length logs + 1) stops.before rest stops.why
    first = stops.refused

    abbrev taken : List D
    taken = stops.opened.taken

    split : old ≡ taken ++ first.disk ∷ first.behind
    split = stops.opened.split ∙ ap (λ (ds : List D). taken ++ ds) first.split

    same_count : length logs ≡ length taken
    same_count = opened_count 1 taken logs stops.opened.opened

    -- the list with all disks in it again
    abbrev back : List D
    back = map (λ (l : LogView D). l.disk) logs ++ rest

    back_is : back ≡ map (λ (l : LogView D). l.disk) logs ++ first.after ∷ first.behind
    back_is = ap (λ (ds : List D). map (λ (l : LogView D). l.disk) logs ++ ds) first.now

    pub stops_room : length logs + length rest ≡ length old
    stops_room =
        let a = ap (λ (ds : List D). length ds) split ∙ length_more taken (first.disk ∷ first.behind) in
        let b = ap (λ (ds : List D). length ds) first.now in
        omega (arith, a, b, same_count)

    pub stops_kept : KeptLogs g old (map (λ (l : LogView D). l.disk) logs ++ rest)
    stops_kept =
        subst (λ (ds : List D). KeptLogs g ds back) (sym split)
        (subst (λ (ds : List D). KeptLogs g (taken ++ first.disk ∷ first.behind) ds) (sym back_is)
        (kept_behind 1 taken logs (first.disk ∷ first.behind) (first.after ∷ first.behind) stops.opened.opened (kept_cons first.disk first.after first.behind first.behind first.kept (KeptLogs-refl g first.behind))))

    was : slice_get old (length logs) ≡ Some first.disk
    was = ap (λ (ds : List D). slice_get ds (length logs)) split ∙ ap (λ (n : ℕ). slice_get (taken ++ first.disk ∷ first.behind) n) same_count ∙ at_end taken first.disk first.behind

    now : slice_get back (length logs) ≡ Some first.after
    now =
        let count : length logs ≡ length (map (λ (l : LogView D). l.disk) logs) = sym (length-map logs (λ (l : LogView D). l.disk)) in
        ap (λ (ds : List D). slice_get ds (length logs)) back_is
        ∙ ap (λ (n : ℕ). slice_get (map (λ (l : LogView D). l.disk) logs ++ first.after ∷ first.behind) n) count
        ∙ at_end (map (λ (l : LogView D). l.disk) logs) first.after first.behind

    sound_before : EachTells g old → SoundBelow (seen_at g old) (length logs)
    sound_before tell place lt =
        let lt' : place < length taken = omega (arith, lt, same_count) in
        let same : slice_get old place ≡ slice_get taken place = ap (λ (ds : List D). slice_get ds place) split ∙ before_end taken (first.disk ∷ first.behind) place lt' in
        let tell' : EachTells g taken = (λ k disk is.
        tell k disk (ap (λ (ds : List D). slice_get ds k) split ∙ before_end taken (first.disk ∷ first.behind) k (slice_get_within taken k disk is) ∙ is)) in
        subst (λ (file : List ℕ). (log_mtrs (place + 1) file).1 ≡ None) (sym (ap (seen_of g) same)) (sound_all taken logs stops.opened.opened tell' place lt')

    finds_why : (why : LogRefusal) → length old ≡ 8 → EachTells g old → RefusedFor g (length logs + 1) first.disk first.after why → LogsRefuse (seen_at g old) (run_refused_by_log (length logs + 1) why)
    finds_why (refusals.Fault place) eight tell refused =
        let file : seen_at g old (length logs) ≡ g.seen first.disk = ap (seen_of g) was in
        let fault : fault_at (seen_at g old) (length logs) ≡ Some place =
        ap (λ (f : List ℕ). (log_mtrs (length logs + 1) f).1) file ∙ same_fault (length logs + 1) (g.seen first.disk) ∙ refused (tell (length logs) first.disk was) in
        ((length logs, omega (arith, eight, slice_get_within old (length logs) first.disk was), refl, fault), sound_before tell)
    finds_why refusals.Disk eight tell refused = tt
    finds_why refusals.Memory eight tell refused = tt

    pub stops_finds : length old ≡ 8 → EachTells g old → LogsRefuse (seen_at g old) refusal
    stops_finds eight tell =
        subst (λ (r : ClusterRefusal). LogsRefuse (seen_at g old) r) (sym stops.refusal_is) (finds_why stops.why eight tell first.why)

    cause_why : (why : LogRefusal) → RefusedFor g (length logs + 1) first.disk first.after why → LogsCause g old back (run_refused_by_log (length logs + 1) why)
    cause_why (refusals.Fault place) refused = tt
    cause_why refusals.Disk refused = (length logs, refl, record { before = first.disk; after = first.after; was = was; now = now; rose = refused })
    cause_why refusals.Memory refused = tt

    pub stops_cause : LogsCause g old (map (λ (l : LogView D). l.disk) logs ++ rest) refusal
    stops_cause = subst (λ (r : ClusterRefusal). LogsCause g old back r) (sym stops.refusal_is) (cause_why stops.why first.why)
