-- Logs that are synced, or emptied, one after another.
use Rattle.std.proofs.Common.{◌≡◌, ◌≢◌, ℕ, zero, suc, ◌+◌, ◌<◌, ◌≤◌, List, [], ◌∷◌, length, Some, slice_get, slice_set, IsTrue, Result, Ok, Err, OnOk, OnErr, true, false, refl, sym, subst, ◌∙◌, inl, inr, arith}
use Rattle.std.specs.Result.{is_err}
use Rattle.std.proofs.lemmas.Bool.{cases_lt, cases_eq}
use Rattle.std.proofs.lemmas.Option.{slice_get_within}
use Rattle.mp_outside.specs.declared.disks.Disk.{Ghosts}
use Rattle.mp_outside.specs.Disks.{Only}
use Rattle.mp_files.specs.Nine.{At, KeptDisk, KeptLogs, DiskRose, RoseAt, RoseOf}
use Rattle.mp_files.proofs.Places.{same_some, at_place, At-refl}
use Rattle.mp_files.proofs.Nines.{StillDisk-refl, KeptDisk-still, KeptLogs-refl, KeptLogs-one, KeptLogs-trans, RoseOf-later}
use Rattle.mp_checkpoint.specs.Emptying.{MayEmpty, DidEmpty, EmptiedBelow, IsSynced, SyncedBelow}

-- what stands where an element was put
at_set : {D : Type 0} (xs : List D) (place : ℕ) (put after : D) → slice_get (slice_set xs place put) place ≡ Some after → put ≡ after
at_set [] zero put after h = absurd (cc)
at_set [] (suc place) put after h = absurd (cc)
at_set (x ∷ xs) zero put after h = same_some put after h
at_set (x ∷ xs) (suc place) put after h = at_set xs place put after h

put_there : {D : Type 0} (xs : List D) (place : ℕ) (put was : D) → slice_get xs place ≡ Some was → slice_get (slice_set xs place put) place ≡ Some put
put_there [] zero put was h = absurd (cc)
put_there [] (suc place) put was h = absurd (cc)
put_there (x ∷ xs) zero put was h = refl
put_there (x ∷ xs) (suc place) put was h = put_there xs place put was h

-- an element that was replaced, and what holds of it before and after
pub replaced : {D : Type 0} (holds : D → D → Type 0) (xs : List D) (place : ℕ) (was put : D) → slice_get xs place ≡ Some was → holds was put → At holds xs (slice_set xs place put) place
replaced holds xs place was put is h = λ before after at_before at_after.
    subst (λ b. holds b after) (same_some was before (sym is ∙ at_before)) (subst (λ a. holds was a) (at_set xs place put after at_after) h)

pub rose_there : {D : Type 0} (g : Ghosts D) (xs : List D) (place : ℕ) (was put : D) → slice_get xs place ≡ Some was → DiskRose g was put → RoseAt g place xs (slice_set xs place put)
rose_there g xs place was put is rose = record { before = was; after = put; was = is; now = put_there xs place put was is; rose = rose }

-- what holds of an answer, from what its call says
pub failed_so : {T E : Type 0} (r : Result T E) (P Q : Type 0) → (P → Q) → OnErr r P → OnErr r Q
failed_so (Ok x) P Q f h = h
failed_so (Err e) P Q f h = f h

pub done_so : {T E : Type 0} (r : Result T E) (P Q : Type 0) → (P → Q) → OnOk r P → OnOk r Q
done_so (Ok x) P Q f h = f h
done_so (Err e) P Q f h = h

pub done_when : {T E : Type 0} (r : Result T E) (A P : Type 0) → (A → OnOk r P) → OnOk r (A → P)
done_when (Ok x) A P f = f
done_when (Err e) A P f = tt

-- what a call that wasn't refused did
pub done : {T E : Type 0} (r : Result T E) (P : Type 0) → is_err r ≡ false → OnOk r P → P
done (Ok x) P is h = h
done (Err e) P is h = absurd (cc)

-- and one that was
pub refused : {T E : Type 0} (r : Result T E) (P : Type 0) → is_err r ≡ true → OnErr r P → P
refused (Ok x) P is h = absurd (cc)
refused (Err e) P is h = h

-- what holds at a place of the lists, where others are the same there
at_places : {D : Type 0} (holds : D → D → Type 0) (old old' new new' : List D) (k : ℕ) → slice_get old k ≡ slice_get old' k → slice_get new k ≡ slice_get new' k → At holds old new k → At holds old' new' k
at_places holds old old' new new' k same same' h = λ before after was now. h before after (same ∙ was) (same' ∙ now)

module _ {D : Type 0} (g : Ghosts D) where
  -- ---- syncing

  pub none_synced : (logs : List D) → SyncedBelow g 0 logs logs
  none_synced logs = record { kept = KeptLogs-refl g logs; each = λ k disk lt is. absurd (omega (arith, lt)) }

  pub more_kept : (place : ℕ) (old mid new : List D) → KeptLogs g old mid → length new ≡ length mid → ((k : ℕ) → k ≢ place → slice_get new k ≡ slice_get mid k)
      → At (KeptDisk g) mid new place → KeptLogs g old new
  more_kept place old mid new kept count others this =
      KeptLogs-trans g old mid new kept (KeptLogs-one g mid mid new place (KeptLogs-refl g mid) count others this)

  pub one_synced : (place : ℕ) (old mid new : List D) → SyncedBelow g place old mid → length new ≡ length mid → place < length mid → ((k : ℕ) → k ≢ place → slice_get new k ≡ slice_get mid k)
      → At (KeptDisk g) mid new place → At (λ before after. IsSynced g after) mid new place → SyncedBelow g (place + 1) old new
  one_synced place old mid new so_far count there others kept this = record {
    kept = more_kept place old mid new so_far.kept count others kept;
    each = λ k disk lt is. elim (cases_eq k place) [
      | inl e ↦ (let was = at_place mid place there in this was.0 disk was.1 (subst (λ (n : ℕ). slice_get new n ≡ Some disk) e is))
      | inr apart ↦ so_far.each k disk (omega (arith, lt, apart)) (sym (others k apart) ∙ is)
    ];
  }

  pub sync_refused : (place : ℕ) (old mid new : List D) → SyncedBelow g place old mid → RoseAt g place mid new → RoseOf g (place + 1) old new
  sync_refused place old mid new so_far rose =
      RoseOf-later g (place + 1) old mid new so_far.kept.count (λ k before after was now. KeptDisk-still g before after (so_far.kept.each k before after was now)) (place, refl, rose)

  -- ---- emptying

  untouched : (disk : D) → MayEmpty g disk disk
  untouched disk = record { still = StillDisk-refl g disk; either = λ batches tells only c is. inl (only c is) }

  pub none_emptied : (logs : List D) → EmptiedBelow g 0 logs logs
  none_emptied logs = record { count = refl; each = λ k lt. absurd (omega (arith, lt)); others = λ k least. refl }

  pub one_emptied : (place : ℕ) (old mid new : List D) → EmptiedBelow g place old mid → length new ≡ length mid
      → ((k : ℕ) → k ≢ place → slice_get new k ≡ slice_get mid k) → At (DidEmpty g) mid new place → EmptiedBelow g (place + 1) old new
  one_emptied place old mid new so_far count others this = record {
    count = count ∙ so_far.count;
    each = λ k lt. elim (cases_lt k place) [
      | inl below ↦ at_places (DidEmpty g) old old mid new k refl (sym (others k (λ e. absurd (omega (arith, e, below))))) (so_far.each k below)
      | inr above ↦ (let e : place ≡ k = omega (arith, lt, above) in subst (λ n. At (DidEmpty g) old new n) e (at_places (DidEmpty g) mid old new new place (so_far.others place (omega arith)) refl this))
    ];
    others = λ k least. others k (λ e. absurd (omega (arith, e, least))) ∙ so_far.others k (omega (arith, least));
  }

  pub all_emptied : (place : ℕ) (old new : List D) → length old ≡ 8 → 8 ≤ place → EmptiedBelow g place old new → (k : ℕ) → At (DidEmpty g) old new k
  all_emptied place old new eight all done k = λ before after was now. done.each k (let lt : k < length old = slice_get_within old k before was in omega (arith, eight, lt, all)) before after was now

  pub all_may : (old new : List D) → ((k : ℕ) → At (DidEmpty g) old new k) → (k : ℕ) → At (MayEmpty g) old new k
  all_may old new did k = λ before after was now. (did k before after was now).may

  pub some_may : (place : ℕ) (old mid new : List D) → EmptiedBelow g place old mid → ((k : ℕ) → k ≢ place → slice_get new k ≡ slice_get mid k)
      → At (MayEmpty g) mid new place → (k : ℕ) → At (MayEmpty g) old new k
  some_may place old mid new so_far others this k = elim (cases_eq k place) [
    | inl e ↦ subst (λ n. At (MayEmpty g) old new n) (sym e) (at_places (MayEmpty g) mid old new new place (so_far.others place (omega arith)) refl this)
    | inr apart ↦ elim (cases_lt k place) [
      | inl below ↦ at_places (MayEmpty g) old old mid new k refl (sym (others k apart)) (λ before after was now. (so_far.each k below before after was now).may)
      | inr above ↦ at_places (MayEmpty g) old old old new k refl (sym (others k apart ∙ so_far.others k above)) (At-refl (MayEmpty g) untouched old k)
    ]
  ]

  pub empty_refused : (place : ℕ) (old mid new : List D) → EmptiedBelow g place old mid → RoseAt g place mid new → RoseOf g (place + 1) old new
  empty_refused place old mid new so_far rose =
      (place, refl, record { before = rose.before; after = rose.after; was = sym (so_far.others place (omega arith)) ∙ rose.was; now = rose.now; rose = rose.rose })

  -- a disk that was synced reads as before
  pub synced_now : (was put : D) → KeptDisk g was put → (IsTrue (g.tells was) → Only (g.seen was) (g.image put)) → IsSynced g put
  synced_now was put kept safe tells c is = safe (subst (λ b. IsTrue b) kept.tells tells) c is ∙ sym kept.quiet.same
