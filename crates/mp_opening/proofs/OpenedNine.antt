-- What was read of nine disks, and what it says of a run.
use Rattle.std.proofs.Common.{◌≡◌, ℕ, ◌+◌, ◌*◌, ◌^◌, ◌<◌, Bool, true, false, cond, List, [], length, map, slice_get, Option, Some, None, Err, IsTrue, refl, sym, ap, subst, ◌∙◌, arith}
use Rattle.std.proofs.lemmas.Bool.{leb-false}
use Rattle.std.proofs.lemmas.Option.{slice_get_within}
use Rattle.mp_cells.specs.declared.records.Mtr.{Mtr}
use Rattle.mp_cells.specs.Trees.{PageMap, IsClean}
use Rattle.mp_outside.specs.declared.disks.Disk.{Ghosts}
use Rattle.mp_files.specs.declared.disks.Disks.{Disks}
use Rattle.mp_files.specs.Nine.{Image, At, as_read, seen_at, AllTell, KeptDisk}
use Rattle.mp_files.proofs.Places.{at_place}
use Rattle.mp_log.specs.Logs.{mtrs_of}
use Rattle.mp_log.specs.Opening.{first_above}
use Rattle.mp_log.specs.Readers.{log_mtrs}
use Rattle.mp_log.specs.Tails.{LogView}
use Rattle.mp_store.specs.declared.headers.Header.{Header}
use Rattle.mp_store.specs.StoreFiles.{header_in_force, store_fault}
use Rattle.mp_store.specs.CleanStores.{stored_pages}
use Rattle.mp_recover.specs.Images.{base_llsn, logged_above, CleanImage}
use Rattle.mp_recover.specs.Recovering.{log_files, HasNoFault}
use Rattle.mp_recover.proofs.LoadingNine.{files_are}
use Rattle.mp_opening.specs.declared.contents.StoreContent.{StoreContent}
use Rattle.mp_opening.specs.declared.refusals.ClusterRefusal.{ClusterRefusal}
use Rattle.mp_opening.specs.declared.refusals.ClusterRefusal.TheVariants as cluster
use Rattle.mp_opening.specs.Openings.{first_spent, least_above, IsFirstAbove, RefusesRun, MayBegin, IsLogFromAt}
use Rattle.mp_opening.specs.ReadingContents.{IsContent}
use Rattle.mp_opening.specs.OpeningLogs.{OpensLogOn, AreOpenedOn, LogsRefuse}
use Rattle.mp_opening.specs.BeginningChecks.{llsns_in_log, above_at, NoneAboveBelow, IsFirstToHave, AllMayBegin, IsCleanContent}
use Rattle.mp_opening.proofs.OpenedLogs.{opened_count, opened_at, read_at, sound_all}
use Rattle.mp_opening.proofs.NothingAbove.{sound_logs, none_above, nothing_above}

-- ---- refusals on the way

pub logs_refuse_run : (image : Image) (begins : ℕ) (refusal : ClusterRefusal) → store_fault image.store ≡ None → LogsRefuse (log_files image) refusal → RefusesRun image begins refusal
logs_refuse_run image begins (cluster.Store place) none h = absurd h
logs_refuse_run image begins cluster.StoreDisk none h = tt
logs_refuse_run image begins (cluster.Log primary place) none h = (none, h)
logs_refuse_run image begins (cluster.LogDisk primary) none h = tt
logs_refuse_run image begins (cluster.NeedsRecover primary llsn) none h = absurd h
logs_refuse_run image begins cluster.NotClean none h = absurd h
logs_refuse_run image begins (cluster.Spent what base add) none h = absurd h
logs_refuse_run image begins cluster.Memory none h = tt

-- what opening the logs refused is so of the files as they were read
pub finds_in_image : {D : Type 0} (g : Ghosts D) (disks : Disks D) (refusal : ClusterRefusal) → LogsRefuse (seen_at g disks.logs.items) refusal → LogsRefuse (log_files (as_read g disks)) refusal
finds_in_image g disks refusal refuses = subst (λ (files : ℕ → List ℕ). LogsRefuse files refusal) (files_are g disks) refuses

-- ---- numbers that fit

none_of : (b : Bool) (x : ClusterRefusal) (y : Option ClusterRefusal) → cond b (Some x) y ≡ None → (b ≡ false) × (y ≡ None)
none_of true x y h = absurd cc
none_of false x y h = (refl, h)

pub unspent_fits : (header : Header) (begins : ℕ) → first_spent header begins ≡ None
    → (header.version + begins < 2 ^ 24) × (header.base + 8 * begins < 2 ^ 38) × (header.llsn + 240000 < 2 ^ 62)
unspent_fits header begins none =
    let past = none_of _ _ _ none in
    let versions = none_of _ _ _ past.1 in
    let timestamps = none_of _ _ _ versions.1 in
    let llsns = none_of _ _ _ timestamps.1 in
    (leb-false (2 ^ 24) (header.version + begins) versions.0, leb-false (2 ^ 38) (header.base + 8 * begins) timestamps.0, leb-false (2 ^ 62) (header.llsn + 240000) llsns.0)

-- ---- the logs that are handed out

module _ {D : Type 0} (g : Ghosts D) (base : ℕ) (disks : List D) (logs : List (LogView D)) (all : AreOpenedOn g 1 disks logs) where
  pub kept_at : (place : ℕ) → At (λ (d : D) (l : LogView D). KeptDisk g d l.disk) disks logs place
  kept_at place = λ disk log was now. (opened_at g disks logs all place disk log was now).kept

  pub log_from : length disks ≡ 8 → NoneAboveBelow (above_at base logs) 8 → (place : ℕ) → IsLogFromAt g base logs place
  log_from eight none place log is =
      let count = opened_count g 1 disks logs all in
      let lt = slice_get_within logs place log is in
      let disk = at_place disks place (omega (arith, lt, count)) in
      let on : OpensLogOn g (place + 1) disk.0 log = opened_at g disks logs all place disk.0 log disk.1 is in
      let nothing : first_above base log.llsns ≡ None =
      sym (ap (λ (l : Option (LogView D)). first_above base (llsns_in_log l)) is) ∙ none place (omega (arith, lt, count, eight)) in record {
        live = on.live;
        node = on.node;
        nothing = on.nothing;
        last = on.last base nothing;
        stands = λ tells.
            (let held = on.holds (subst (λ b. IsTrue b) on.kept.tells tells) in
            (held.batches, held.stands, none_above base (mtrs_of held.batches) (sym (ap (λ (ls : List ℕ). first_above base ls) held.llsns_are) ∙ nothing)));
      }

-- ---- what was read of nine disks

module _ {D : Type 0} (g : Ghosts D) (old : Disks D) (content : StoreContent) (logs : List (LogView D)) (begins : ℕ)
    (eight : length old.logs.items ≡ 8) (tell : AllTell g old) (is : IsContent (g.seen old.store) content) (all : AreOpenedOn g 1 old.logs.items logs) where
  abbrev image : Image
  image = as_read g old

  abbrev above : ℕ → Option ℕ
  above = above_at content.header.llsn logs

  base_is : content.header.llsn ≡ base_llsn image
  base_is = ap (λ (h : Header). h.llsn) is.header_is

  file_is : (place : ℕ) → seen_at g old.logs.items place ≡ log_files image place
  file_is place = ap (λ (files : ℕ → List ℕ). files place) (files_are g old)

  above_is : (place : ℕ) → place < 8 → above place ≡ least_above image place
  above_is place lt =
      let read = read_at g old.logs.items logs all tell.logs place (omega (arith, lt, eight)) in
      let mtrs : (log_mtrs (place + 1) (log_files image place)).0 ≡ read.0 =
      ap (λ (f : List ℕ). (log_mtrs (place + 1) f).0) (sym (file_is place)) ∙ ap (λ (x : List Mtr × Option ℕ). x.0) read.1 in
      ap (λ (n : ℕ). first_above n (llsns_in_log (slice_get logs place))) base_is
      ∙ ap (λ (ls : List ℕ). first_above (base_llsn image) ls) (read.2 ∙ ap (λ (ms : List Mtr). map (λ (m : Mtr). m.llsn) ms) (sym mtrs))

  no_fault : HasNoFault image
  no_fault = record {
    store = is.sound;
    logs = λ place lt. subst (λ (f : List ℕ). (log_mtrs (place + 1) f).1 ≡ None) (file_is place) (sound_all g old.logs.items logs all tell.logs place (omega (arith, lt, eight)));
  }

  nothing : NoneAboveBelow above 8 → logged_above image ≡ []
  nothing none = nothing_above image (λ place lt. sym (above_is place lt) ∙ none place lt)

  clean_to : IsCleanContent content → IsClean (base_llsn image) (stored_pages image.store)
  clean_to clean =
      subst (λ (n : ℕ). IsClean n (stored_pages image.store)) base_is (subst (λ (pages : PageMap). IsClean content.header.llsn pages) is.pages clean)

  clean_back : IsClean (base_llsn image) (stored_pages image.store) → IsCleanContent content
  clean_back clean =
      subst (λ (pages : PageMap). IsClean content.header.llsn pages) (sym is.pages) (subst (λ (n : ℕ). IsClean n (stored_pages image.store)) (sym base_is) clean)

  spent_is : first_spent content.header begins ≡ first_spent (header_in_force image.store) begins
  spent_is = ap (λ (h : Header). first_spent h begins) is.header_is

  clean_image : NoneAboveBelow above 8 → IsCleanContent content → CleanImage image
  clean_image none clean = record { store = record { sound = is.sound; clean = clean_to clean }; logs = sound_logs image no_fault.logs; none = nothing none }

  pub may_begin : NoneAboveBelow above 8 → IsCleanContent content → first_spent content.header begins ≡ None → MayBegin image begins
  may_begin none clean unspent = record { clean = clean_image none clean; unspent = sym spent_is ∙ unspent }

  first_is : (primary llsn : ℕ) → IsFirstToHave above primary llsn → IsFirstAbove image primary llsn
  first_is primary llsn first = record {
    place = first.place;
    primary_is = first.primary_is;
    within = first.within;
    least = sym (above_is first.place first.within) ∙ first.least;
    before = λ other lt. sym (above_is other (omega (arith, lt, first.within))) ∙ first.before other lt;
  }

  pub checks_refuse : (refusal : ClusterRefusal) → AllMayBegin above (IsCleanContent content) (first_spent content.header begins) (Err refusal) → RefusesRun image begins refusal
  checks_refuse (cluster.Store place) h = absurd h
  checks_refuse cluster.StoreDisk h = tt
  checks_refuse (cluster.Log primary place) h = absurd h
  checks_refuse (cluster.LogDisk primary) h = tt
  checks_refuse (cluster.NeedsRecover primary llsn) h = (no_fault, first_is primary llsn h)
  checks_refuse cluster.NotClean h = (no_fault, nothing h.0, λ clean. h.1 (clean_back clean))
  checks_refuse (cluster.Spent what base add) h = (clean_image h.0 h.1, sym spent_is ∙ h.2)
  checks_refuse cluster.Memory h = tt
