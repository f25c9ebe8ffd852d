-- What is read of nine disks, step by step.
use Rattle.std.proofs.Common.{◌≡◌, ℕ, ◌+◌, ◌-◌, ◌<◌, Bool, cond, List, [], length, map, slice_get, get_or, option_map, Option, Some, None, Result, Ok, Err, IsTrue, refl, sym, ap, subst, ◌∙◌, inl, inr, arith}
use Rattle.std.specs.Prelude.{nat_lt}
use Rattle.std.proofs.lemmas.Bool.{cases_lt, lt-ltb, le-ltb}
use Rattle.std.proofs.lemmas.List.{length-map, same_lists}
use Rattle.std.proofs.lemmas.Option.{slice_get_within, slice_get-map, get_or_from_slice_get}
use Rattle.std.specs.List.{AllByRecursion}
use Rattle.mp_cells.specs.declared.records.Mtr.{Mtr}
use Rattle.mp_cells.specs.Mtrs.{IsMtr}
use Rattle.mp_cells.specs.PageMaps.{page_at}
use Rattle.mp_cells.specs.PageView.{PageView, blank_page}
use Rattle.mp_cells.specs.Trees.{PageMap}
use Rattle.mp_cells.proofs.KeyEdits.{All-filter}
use Rattle.mp_outside.specs.declared.disks.Disk.{Ghosts}
use Rattle.mp_files.specs.declared.disks.Disks.{Disks}
use Rattle.mp_files.specs.Nine.{Image, as_read, seen_at, AllTell, KeptLogs, KeptNine}
use Rattle.mp_files.proofs.Places.{at_place}
use Rattle.mp_store.specs.declared.headers.Header.{Header}
use Rattle.mp_store.specs.declared.refusals.StoreRefusal.{StoreRefusal}
use Rattle.mp_store.specs.declared.refusals.StoreRefusal.TheVariants as refusals
use Rattle.mp_store.specs.Answers.{StoreFinds, StoreCause}
use Rattle.mp_store.specs.StoreFiles.{header_in_force, page_in_force, store_fault}
use Rattle.mp_store.specs.CleanStores.{stored_pages}
use Rattle.mp_recover.specs.declared.found.Found.{Found}
use Rattle.mp_recover.specs.declared.loading.Loaded.{Loaded}
use Rattle.mp_recover.specs.declared.loading.Stored.{Stored}
use Rattle.mp_recover.specs.declared.refusals.RecoverRefusal.{RecoverRefusal}
use Rattle.mp_recover.specs.declared.refusals.RecoverRefusal.TheVariants as recover
use Rattle.mp_recover.specs.Checkpoints.{refused_by_store, RecoverCause}
use Rattle.mp_recover.specs.Finding.{FoundIn}
use Rattle.mp_recover.specs.Images.{base_llsn, all_logged, logged_above}
use Rattle.mp_recover.specs.Loading.{IsStored, StoredFinds, RollsBack}
use Rattle.mp_recover.specs.Merging.{IsOffAt}
use Rattle.mp_recover.specs.ReadingLogs.{SoundBelow, RefusesFirst, ReadsAll}
use Rattle.mp_recover.specs.Recovering.{log_files, redone_by, HasNoFault, IsSpent, RefusesBy, IsLoaded}
use Rattle.mp_recover.specs.Redoing.{mtrs_above, ids_in, RedoesAll}
use Rattle.mp_recover.specs.SavingLoaded.{HeaderSpent, SaveRefuses}
use Rattle.mp_recover.specs.Settling.{trx_ids, pages_settled, undone_below}
use Rattle.mp_recover.proofs.GivenRises.{seen_is}
use Rattle.mp_recover.proofs.Redone.{same_maps}
use Rattle.mp_recover.proofs.RecoveredClean.{page_past}
use Rattle.mp_recover.proofs.RecoveredImages.{not_flipped, is_flipped}

-- ---- the store

pub stored_refused : (file : List ℕ) (refusal : StoreRefusal) → StoreFinds {T = Unit {0}} (store_fault file) (Err refusal) → StoredFinds file (Err (refused_by_store refusal))
stored_refused file (refusals.NotStore place) h = h
stored_refused file refusals.Disk h = tt
stored_refused file refusals.Memory h = tt

pub pages_refused : (T : Type 0) (file : List ℕ) (refusal : StoreRefusal) → StoreFinds {T = T} None (Err refusal) → StoredFinds file (Err (refused_by_store refusal))
pages_refused T file (refusals.NotStore place) h = absurd cc
pages_refused T file refusals.Disk h = tt
pages_refused T file refusals.Memory h = tt

pub pages_cause : (T : Type 0) {D : Type 0} (g : Ghosts D) (old new : Disks D) (refusal : StoreRefusal) → StoreCause {T = T} (g.faults old.store) (g.faults new.store) (Err refusal) → RecoverCause g old new (refused_by_store refusal)
pages_cause T g old new (refusals.NotStore place) h = tt
pages_cause T g old new refusals.Disk h = h
pages_cause T g old new refusals.Memory h = tt

pub all_stored : (items : List PageView) (file : List ℕ) → length items ≡ 4096 → ((n : ℕ) → n < 4096 → page_at items n ≡ page_in_force (header_in_force file).generation n file) → page_at items ≡ stored_pages file
all_stored items file count each = same_maps (page_at items) (stored_pages file) (λ n. elim (cases_lt n 4096) [
  | inl lt ↦ each n lt ∙ sym (ap (λ (b : Bool). cond b (page_in_force (header_in_force file).generation n file) (blank_page 0)) (lt-ltb n 4096 lt))
  | inr ge ↦ page_past items n (omega (arith, count, ge)) ∙ sym (ap (λ (b : Bool). cond b (page_in_force (header_in_force file).generation n file) (blank_page 0)) (le-ltb n 4096 ge))
])

-- ---- nine disks that were only looked at

module _ {D : Type 0} (g : Ghosts D) where
  logs_read : (old new : List D) → KeptLogs g old new → map g.seen new ≡ map g.seen old
  logs_read old new kept = same_lists (map g.seen new) (map g.seen old) (length-map new g.seen ∙ kept.count ∙ sym (length-map old g.seen)) (λ k d lt.
      (let lt' : k < length new = omega (arith, lt, length-map new g.seen) in
      let before = at_place old k (omega (arith, lt', kept.count)) in
      let after = at_place new k lt' in
      seen_of new k d after.0 after.1 ∙ (kept.each k before.0 after.0 before.1 after.1).quiet.same ∙ sym (seen_of old k d before.0 before.1)))
    where
      seen_of : (xs : List D) (k : ℕ) (d : List ℕ) (x : D) → slice_get xs k ≡ Some x → get_or (map g.seen xs) k d ≡ g.seen x
      seen_of xs k d x is = get_or_from_slice_get (map g.seen xs) k (g.seen x) d (slice_get-map g.seen xs k ∙ mapped is)
        where
          mapped : slice_get xs k ≡ Some x → option_map g.seen (slice_get xs k) ≡ Some (g.seen x)
          mapped e = rw e refl

  pub kept_reads : (old new : Disks D) → KeptNine g old new → as_read g new ≡ as_read g old
  kept_reads old new kept =
      ap (λ (s : List ℕ). record { store = s; logs = map g.seen new.logs.items }) kept.store.quiet.same
      ∙ ap (λ (ls : List (List ℕ)). record { store = g.seen old.store; logs = ls }) (logs_read old.logs.items new.logs.items kept.logs)

  pub kept_tells : (old new : Disks D) → KeptNine g old new → AllTell g old → AllTell g new
  kept_tells old new kept tell = record {
    store = subst (λ b. IsTrue b) (sym kept.store.tells) tell.store;
    logs = λ place disk is.
        (let before = at_place old.logs.items place (let lt : place < length new.logs.items = slice_get_within new.logs.items place disk is in omega (arith, lt, kept.logs.count)) in
        subst (λ b. IsTrue b) (sym (kept.logs.each place before.0 disk before.1 is).tells) (tell.logs place before.0 before.1));
  }

  pub files_are : (disks : Disks D) → seen_at g disks.logs.items ≡ log_files (as_read g disks)
  files_are disks = λ i. λ place. (sym (ap (λ (n : ℕ). get_or (map g.seen disks.logs.items) n []) (back place) ∙ seen_is g disks.logs.items place)) i
    where
      back : (place : ℕ) → place + 1 - 1 ≡ place
      back place = omega arith

-- what reading and redoing the logs say of nine disks that were only looked at since
module _ {D : Type 0} (g : Ghosts D) (old new : Disks D) (kept : KeptNine g old new) where
  files_before : seen_at g new.logs.items ≡ log_files (as_read g old)
  files_before = files_are g new ∙ ap log_files (kept_reads g old new kept)

  logged_before : all_logged (as_read g new) ≡ all_logged (as_read g old)
  logged_before = ap all_logged (kept_reads g old new kept)

  base_before : (stored : Stored) → IsStored (g.seen old.store) stored → stored.header.llsn ≡ base_llsn (as_read g old)
  base_before stored is = ap (λ (h : Header). h.llsn) is.header_is

  pub logs_before : (result : Result (Unit {0}) RecoverRefusal) → ReadsAll (seen_at g new.logs.items) result → ReadsAll (log_files (as_read g old)) result
  logs_before result reads = subst (λ (files : ℕ → List ℕ). ReadsAll files result) files_before reads

  pub redone_before : (stored : Stored) (pages : PageMap) (result : Result Found RecoverRefusal) → IsStored (g.seen old.store) stored
      → RedoesAll (seen_at g new.logs.items) stored.header.llsn (all_logged (as_read g new)) (page_at stored.pages.items) pages result
      → RedoesAll (log_files (as_read g old)) (base_llsn (as_read g old)) (all_logged (as_read g old)) (stored_pages (g.seen old.store)) pages result
  redone_before stored pages result is redone =
      subst (λ (files : ℕ → List ℕ). RedoesAll files (base_llsn (as_read g old)) (all_logged (as_read g old)) (stored_pages (g.seen old.store)) pages result) files_before
      (subst (λ (base : ℕ). RedoesAll (seen_at g new.logs.items) base (all_logged (as_read g old)) (stored_pages (g.seen old.store)) pages result) (base_before stored is)
      (subst (λ (mtrs : List Mtr). RedoesAll (seen_at g new.logs.items) stored.header.llsn mtrs (stored_pages (g.seen old.store)) pages result) logged_before
      (subst (λ (from : PageMap). RedoesAll (seen_at g new.logs.items) stored.header.llsn (all_logged (as_read g new)) from pages result) is.pages redone)))

  pub found_before : (stored : Stored) (found : Found) → IsStored (g.seen old.store) stored
      → FoundIn stored.header.llsn stored.header.version (mtrs_above stored.header.llsn (all_logged (as_read g new))) found
      → FoundIn (header_in_force (g.seen old.store)).llsn (header_in_force (g.seen old.store)).version (logged_above (as_read g old)) found
  found_before stored found is in_ =
      subst (λ (h : Header). FoundIn h.llsn h.version (mtrs_above h.llsn (all_logged (as_read g old))) found) is.header_is
      (subst (λ (mtrs : List Mtr). FoundIn stored.header.llsn stored.header.version (mtrs_above stored.header.llsn mtrs) found) logged_before in_)

  pub mtrs_before : AllByRecursion IsMtr (all_logged (as_read g new)) → AllByRecursion IsMtr (all_logged (as_read g old))
  mtrs_before are = subst (AllByRecursion IsMtr) logged_before are

-- ---- which refusal comes

pub store_refuses : (image : Image) (refusal : RecoverRefusal) → StoredFinds image.store (Err refusal) → RefusesBy image refusal
store_refuses image (recover.Store place) h = h
store_refuses image recover.StoreDisk h = tt
store_refuses image (recover.Log primary place) h = absurd h
store_refuses image (recover.LogDisk primary) h = tt
store_refuses image (recover.Gap page wanted found) h = absurd h
store_refuses image (recover.NotApplicable page llsn) h = absurd h
store_refuses image (recover.Spent last) h = absurd h
store_refuses image recover.Memory h = tt

pub logs_refuse : (image : Image) (refusal : RecoverRefusal) → store_fault image.store ≡ None → RefusesFirst (log_files image) refusal → RefusesBy image refusal
logs_refuse image (recover.Store place) none h = absurd h
logs_refuse image recover.StoreDisk none h = tt
logs_refuse image (recover.Log primary place) none h = (none, h)
logs_refuse image (recover.LogDisk primary) none h = tt
logs_refuse image (recover.Gap page wanted found) none h = absurd h
logs_refuse image (recover.NotApplicable page llsn) none h = absurd h
logs_refuse image (recover.Spent last) none h = absurd h
logs_refuse image recover.Memory none h = tt

not_off : (files : ℕ → List ℕ) (primary fault : ℕ) → SoundBelow files 8 → IsOffAt files primary fault → ⊥
not_off files primary fault sound off = (let both : ◌≡◌ {A = Option ℕ} None (Some fault) = sym (sound off.0 off.1) ∙ off.3 in absurd cc)

pub redo_refuses : (image : Image) (new : PageMap) (refusal : RecoverRefusal) → HasNoFault image → RedoesAll (log_files image) (base_llsn image) (all_logged image) (stored_pages image.store) new (Err refusal) → RefusesBy image refusal
redo_refuses image new (recover.Store place) sound h = absurd h
redo_refuses image new recover.StoreDisk sound h = tt
redo_refuses image new (recover.Log primary place) sound h = absurd (not_off (log_files image) primary place sound.logs h)
redo_refuses image new (recover.LogDisk primary) sound h = tt
redo_refuses image new (recover.Gap page wanted found) sound h = (sound, ap (λ (x : PageMap × Option RecoverRefusal). x.1) h)
redo_refuses image new (recover.NotApplicable page llsn) sound h = (sound, ap (λ (x : PageMap × Option RecoverRefusal). x.1) h)
redo_refuses image new (recover.Spent last) sound h = absurd h
redo_refuses image new recover.Memory sound h = tt

-- ---- what was loaded

pub is_loaded : (image : Image) (stored : Stored) (pages : PageMap) (found : Found) (loaded : Loaded) → HasNoFault image → stored.header ≡ header_in_force image.store
    → RedoesAll (log_files image) (base_llsn image) (all_logged image) (stored_pages image.store) (page_at stored.pages.items) (Ok found)
    → FoundIn (header_in_force image.store).llsn (header_in_force image.store).version (logged_above image) found → AllByRecursion IsMtr (all_logged image) → RollsBack stored found loaded → IsLoaded image loaded
is_loaded image stored pages found loaded sound header redone in_ are rolled =
    let last : redone_by image ≡ (page_at stored.pages.items, None) = redone.0 in record {
      no_fault = sound;
      header_is = rolled.header_is ∙ header;
      not_refused = ap (λ (x : PageMap × Option RecoverRefusal). x.1) last;
      mtrs = All-filter IsMtr (λ (m : Mtr). nat_lt (base_llsn image) m.llsn) (all_logged image) are;
      ids = ap (λ (f : Found). f.ids.items) rolled.found_is ∙ redone.1;
      found = subst (FoundIn (header_in_force image.store).llsn (header_in_force image.store).version (logged_above image)) (sym rolled.found_is) in_;
      pages = rolled.pages ∙ ap (λ ids. pages_settled (trx_ids ids) (page_at stored.pages.items)) redone.1 ∙ ap (λ (x : PageMap × Option RecoverRefusal). pages_settled (trx_ids (ids_in (logged_above image))) x.0) (sym last);
      undone = rolled.undone ∙ ap (λ ids. undone_below 4096 (trx_ids ids) (page_at stored.pages.items)) redone.1 ∙ ap (λ (x : PageMap × Option RecoverRefusal). undone_below 4096 (trx_ids (ids_in (logged_above image))) x.0) (sym last);
      rows = rolled.rows;
    }

-- ---- the last refusals

spent_so : (image : Image) (loaded : Loaded) → IsLoaded image loaded → HeaderSpent loaded → IsSpent image
spent_so image loaded is spent = record { some_mtr = λ none. spent.0 (not_flipped image loaded is none); last = sym (ap (λ (h : Header). h.generation) is.header_is) ∙ spent.1 }

pub save_refuses : (image : Image) (loaded : Loaded) (file : List ℕ) (refusal : RecoverRefusal) → IsLoaded image loaded → file ≡ image.store → SaveRefuses file loaded (Err refusal) → RefusesBy image refusal
save_refuses image loaded file (recover.Store place) is same h = (let both : ◌≡◌ {A = Option ℕ} None (Some place) = sym is.no_fault.store ∙ ap store_fault (sym same) ∙ h in absurd cc)
save_refuses image loaded file recover.StoreDisk is same h = tt
save_refuses image loaded file (recover.Log primary place) is same h = absurd h
save_refuses image loaded file (recover.LogDisk primary) is same h = tt
save_refuses image loaded file (recover.Gap page wanted found) is same h = absurd h
save_refuses image loaded file (recover.NotApplicable page llsn) is same h = absurd h
save_refuses image loaded file (recover.Spent last) is same h = (is.no_fault, is.not_refused, spent_so image loaded is h.0, h.1 ∙ ap (λ (x : Header). x.generation) is.header_is)
save_refuses image loaded file recover.Memory is same h = tt

pub not_spent : (image : Image) (loaded : Loaded) → IsLoaded image loaded → (HeaderSpent loaded → ⊥) → IsSpent image → ⊥
not_spent image loaded is none spent = none (is_flipped image loaded is spent.some_mtr, ap (λ (h : Header). h.generation) is.header_is ∙ spent.last)
