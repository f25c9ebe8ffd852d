-- A checkpoint: first the store, then the logs.
use Rattle.std.proofs.Common.{◌≡◌, ◌≢◌, ◌⊎◌, ℕ, ◌<◌, List, length, slice_get, Option, Some, Err, sym, ap, subst, ◌∙◌, inl, inr, arith}
use Rattle.std.proofs.lemmas.Option.{slice_get_within}
use Rattle.mp_cells.specs.Trees.{PageMap}
use Rattle.mp_outside.specs.declared.disks.Disk.{Ghosts}
use Rattle.mp_outside.specs.Disks.{Quiet}
use Rattle.mp_files.specs.declared.disks.Disks.{Disks}
use Rattle.mp_files.specs.Nine.{Image, At, AreImages, IsImage, EachTells, StillDisk, StillNine, RoseOf, LogRose}
use Rattle.mp_files.proofs.Places.{at_place, At-refl}
use Rattle.mp_files.proofs.Nines.{StillDisk-refl, KeptNine-store}
use Rattle.mp_store.specs.declared.headers.Header.{Header}
use Rattle.mp_store.specs.declared.refusals.StoreRefusal.{StoreRefusal}
use Rattle.mp_store.specs.declared.refusals.StoreRefusal.TheVariants as refusals
use Rattle.mp_store.specs.Answers.{StoreFinds, StoreCause}
use Rattle.mp_checkpoint.specs.Saving.{ShowsSame, ShowsNew}
use Rattle.mp_checkpoint.specs.Emptying.{MayEmpty, DidEmpty}
use Rattle.mp_recover.specs.Checkpoints.{refused_by_store, CheckpointFinds, LeavesAll, RecoverCause, LogsMayBeEmpty, CheckpointLeft, AreEmpty}

-- ---- refusals of the store

pub store_finds : (fault : Option ℕ) (refusal : StoreRefusal) → StoreFinds {T = Unit {0}} fault (Err refusal) → CheckpointFinds fault (Err (refused_by_store refusal))
store_finds fault (refusals.NotStore place) h = h
store_finds fault refusals.Disk h = tt
store_finds fault refusals.Memory h = tt

module _ {D : Type 0} (g : Ghosts D) where
  -- ---- the same nine disks

  pub still_store : (old new : Disks D) → StillDisk g old.store new.store → new.logs.items ≡ old.logs.items → StillNine g old new
  still_store old new store same = record {
    count = ap length same;
    store = store;
    each = λ place. subst (λ (logs : List D). At (StillDisk g) old.logs.items logs place) (sym same) (At-refl (StillDisk g) (StillDisk-refl g) old.logs.items place);
  }

  pub still_logs : (old mid new : Disks D) → StillDisk g old.store mid.store → mid.logs.items ≡ old.logs.items → new.store ≡ mid.store → length new.logs.items ≡ length mid.logs.items
      → ((place : ℕ) → At (MayEmpty g) mid.logs.items new.logs.items place) → StillNine g old new
  still_logs old mid new store same same_store count may = record {
    count = count ∙ ap length same;
    store = subst (StillDisk g old.store) (sym same_store) store;
    each = λ place before after was now. (may place before after (subst (λ (logs : List D). slice_get logs place ≡ Some before) (sym same) was) now).still;
  }

  -- a refusal of the store other than by its disk leaves all as it was
  pub store_leaves : (old new : Disks D) (refusal : StoreRefusal) → StillDisk g old.store new.store → new.logs.items ≡ old.logs.items
      → (refusal ≢ refusals.Disk → Quiet (g.seen old.store) (g.image old.store) (g.seen new.store) (g.image new.store)) → LeavesAll g old new (refused_by_store refusal)
  store_leaves old new (refusals.NotStore place) still same quiet = KeptNine-store g old new (record { tells = still.tells; quiet = quiet (λ e. absurd cc); count = still.count }) same
  store_leaves old new refusals.Disk still same quiet = tt
  store_leaves old new refusals.Memory still same quiet = KeptNine-store g old new (record { tells = still.tells; quiet = quiet (λ e. absurd cc); count = still.count }) same

  pub store_cause : (old new : Disks D) (refusal : StoreRefusal) → StoreCause {T = Unit {0}} (g.faults old.store) (g.faults new.store) (Err refusal) → RecoverCause g old new (refused_by_store refusal)
  store_cause old new (refusals.NotStore place) h = tt
  store_cause old new refusals.Disk h = h
  store_cause old new refusals.Memory h = tt

  -- ---- what a crash leaves

  -- each image of logs is one in which they have their batches
  logs_may : (logs : List D) (files : List (List ℕ)) → AreImages g logs files → LogsMayBeEmpty g logs files
  logs_may logs files are = record { count = are.count; each = λ place disk file was now batches tells only. inl (only file (are.each place disk file was now)) }

  pub store_left : (header : Header) (pages : PageMap) (old new : Disks D) (c : Image) → new.logs.items ≡ old.logs.items → IsImage g new c
      → g.image old.store c.store ⊎ (ShowsSame (g.seen old.store) c.store ⊎ ShowsNew header pages (g.seen old.store) c.store) → CheckpointLeft g header pages old c
  store_left header pages old new c same is left = by_store left
    where
      logs : AreImages g old.logs.items c.logs
      logs = subst (λ (xs : List D). AreImages g xs c.logs) same is.logs

      by_store : g.image old.store c.store ⊎ (ShowsSame (g.seen old.store) c.store ⊎ ShowsNew header pages (g.seen old.store) c.store) → CheckpointLeft g header pages old c
      by_store (inl before) = inl (logs, inl before)
      by_store (inr (inl shows)) = inl (logs, inr shows)
      by_store (inr (inr shows)) = inr (shows, logs_may old.logs.items c.logs logs)

  pub logs_left : (header : Header) (pages : PageMap) (old mid new : Disks D) (c : Image) → mid.logs.items ≡ old.logs.items → length new.logs.items ≡ length mid.logs.items
      → ((place : ℕ) → At (MayEmpty g) mid.logs.items new.logs.items place) → IsImage g new c → ShowsNew header pages (g.seen old.store) c.store → CheckpointLeft g header pages old c
  logs_left header pages old mid new c same count may is shows = inr (
    shows,
    record {
      count = is.logs.count ∙ count ∙ ap length same;
      each = λ place disk file was now batches tells only.
          (let there = at_place new.logs.items place (let lt : place < length old.logs.items = slice_get_within old.logs.items place disk was in omega (arith, lt, ap length same, count)) in
          (may place disk there.0 (subst (λ (logs : List D). slice_get logs place ≡ Some disk) (sym same) was) there.1).either batches tells only file (is.logs.each place there.0 file there.1 now));
    },
  )

  -- ---- the end

  pub all_empty : (old new : List D) (c : Image) → length old ≡ 8 → length new ≡ length old → EachTells g old → ((place : ℕ) → At (DidEmpty g) old new place) → AreImages g new c.logs → AreEmpty c
  all_empty old new c eight count tell did are = record {
    count = are.count ∙ count ∙ eight;
    logs = λ place file now.
        (let lt : place < length c.logs = slice_get_within c.logs place file now in
        let after = at_place new place (omega (arith, lt, are.count)) in
        let before = at_place old place (omega (arith, lt, are.count, count)) in
        (did place before.0 after.0 before.1 after.1).emptied (tell place before.0 before.1) file (are.each place after.0 file after.1 now));
  }

  -- the count of a log's disk that rose at the end rose in all
  pub rose_after : (primary : ℕ) (old mid new : Disks D) → mid.logs.items ≡ old.logs.items → RoseOf g primary mid.logs.items new.logs.items → LogRose g primary old new
  rose_after primary old mid new same rose = subst (λ (logs : List D). RoseOf g primary logs new.logs.items) same rose
