-- Logs that are made one after another.
use Rattle.std.proofs.Common.{◌≡◌, ◌≢◌, ℕ, zero, suc, ◌+◌, List, [], ◌∷◌, length, Some, slice_get, slice_set, refl, sym, ◌∙◌, inl, inr, subst, arith, true, false, Result, Ok, Err, OnOk, OnErr}
use Rattle.std.specs.Result.{is_err}
use Rattle.std.proofs.lemmas.Bool.{cases_lt}
use Rattle.std.proofs.lemmas.Option.{slice_get_within}
use Rattle.mp_outside.specs.declared.disks.Disk.{Ghosts}
use Rattle.mp_files.specs.Nine.{At, StillDisk, DiskRose, RoseAt}
use Rattle.mp_files.proofs.Places.{At-refl, At-one}
use Rattle.mp_files.proofs.Nines.{StillDisk-refl}
use Rattle.mp_commands.specs.Fresh.{MadeLog, MadeBelow}

some_same : {D : Type 0} (a b : D) → Some a ≡ Some b → a ≡ b
some_same a b h = cc

-- what stands where an element was put
at_set : {D : Type 0} (xs : List D) (place : ℕ) (put after : D) → slice_get (slice_set xs place put) place ≡ Some after → put ≡ after
at_set [] zero put after h = absurd (cc)
at_set [] (suc place) put after h = absurd (cc)
at_set (x ∷ xs) zero put after h = some_same put after h
at_set (x ∷ xs) (suc place) put after h = at_set xs place put after h

-- an element that was replaced, and what holds of it before and after
pub replaced : {D : Type 0} (holds : D → D → Type 0) (xs : List D) (place : ℕ) (was put : D) → slice_get xs place ≡ Some was → holds was put → At holds xs (slice_set xs place put) place
replaced holds xs place was put is h = λ before after at_before at_after.
    subst (λ b. holds b after) (some_same was before (sym is ∙ at_before)) (subst (λ a. holds was a) (at_set xs place put after at_after) h)

put_there : {D : Type 0} (xs : List D) (place : ℕ) (put was : D) → slice_get xs place ≡ Some was → slice_get (slice_set xs place put) place ≡ Some put
put_there [] zero put was h = absurd (cc)
put_there [] (suc place) put was h = absurd (cc)
put_there (x ∷ xs) zero put was h = refl
put_there (x ∷ xs) (suc place) put was h = put_there xs place put was h

pub none_made : {D : Type 0} (g : Ghosts D) (logs : List D) → MadeBelow g 0 logs logs
none_made g logs = record { count = refl; each = λ k lt. absurd (omega (arith, lt)); others = λ k least. refl }

-- what holds at a place of the lists, where others are the same there
at_places : {D : Type 0} (holds : D → D → Type 0) (old old' new new' : List D) (k : ℕ) → slice_get old k ≡ slice_get old' k → slice_get new k ≡ slice_get new' k → At holds old new k → At holds old' new' k
at_places holds old old' new new' k same same' h = λ before after was now. h before after (same ∙ was) (same' ∙ now)

pub one_made : {D : Type 0} (g : Ghosts D) (place : ℕ) (old mid new : List D) → MadeBelow g place old mid → length new ≡ length mid
    → ((k : ℕ) → k ≢ place → slice_get new k ≡ slice_get mid k) → At (MadeLog g) mid new place → MadeBelow g (place + 1) old new
one_made g place old mid new so_far count others this = record {
  count = count ∙ so_far.count;
  each = λ k lt. elim (cases_lt k place) [
    | inl below ↦ at_places (MadeLog g) old old mid new k refl (sym (others k (λ e. absurd (omega (arith, e, below))))) (so_far.each k below)
    | inr above ↦ let e : place ≡ k = omega (arith, lt, above) in subst (λ n. At (MadeLog g) old new n) e (at_places (MadeLog g) mid old new new place (so_far.others place (omega arith)) refl this)
  ];
  others = λ k least. others k (λ e. absurd (omega (arith, e, least))) ∙ so_far.others k (omega (arith, least));
}

-- the fault of one log, of the logs as they were
pub one_failed : {D : Type 0} (g : Ghosts D) (place : ℕ) (old mid new : List D) → MadeBelow g place old mid → RoseAt g place mid new → RoseAt g place old new
one_failed g place old mid new so_far this = record { before = this.before; after = this.after; was = sym (so_far.others place (omega arith)) ∙ this.was; now = this.now; rose = this.rose }

-- it is still there
pub one_still : {D : Type 0} (g : Ghosts D) (place : ℕ) (old mid new : List D) → MadeBelow g place old mid → ((k : ℕ) → At (StillDisk g) old mid k)
    → ((k : ℕ) → k ≢ place → slice_get new k ≡ slice_get mid k) → At (StillDisk g) mid new place → (k : ℕ) → At (StillDisk g) old new k
one_still g place old mid new so_far still others this =
    At-one (StillDisk g) old mid new place others still (at_places (StillDisk g) mid old new new place (so_far.others place (omega arith)) refl this)

pub all_still : {D : Type 0} (g : Ghosts D) (logs : List D) (k : ℕ) → At (StillDisk g) logs logs k
all_still g logs = At-refl (StillDisk g) (StillDisk-refl g) logs

-- where an element was put there was one, and there is one
pub rose_there : {D : Type 0} (g : Ghosts D) (xs : List D) (place : ℕ) (was put : D) → slice_get xs place ≡ Some was → DiskRose g was put → RoseAt g place xs (slice_set xs place put)
rose_there g xs place was put is rose = record { before = was; after = put; was = is; now = put_there xs place put was is; rose = rose }

-- all of them
pub all_made : {D : Type 0} (g : Ghosts D) (old new : List D) → MadeBelow g (length old) old new → (k : ℕ) → At (MadeLog g) old new k
all_made g old new made k = λ before after was now. made.each k (slice_get_within old k before was) before after was now

-- what holds after a good call, of two promises under one premise
pub both_done : {T E : Type 0} (r : Result T E) (P A B : Type 0) → (P → OnOk r A) → (P → OnOk r B) → OnOk r (P → A × B)
both_done (Ok x) P A B a b = λ p. (a p, b p)
both_done (Err e) P A B a b = tt

pub failed_so : {T E : Type 0} (r : Result T E) (P Q : Type 0) → (P → Q) → OnErr r P → OnErr r Q
failed_so (Ok x) P Q f h = h
failed_so (Err e) P Q f h = f h

pub done_so : {T E : Type 0} (r : Result T E) (P Q : Type 0) → (P → Q) → OnOk r P → OnOk r Q
done_so (Ok x) P Q f h = f h
done_so (Err e) P Q f h = h

-- what a call that wasn't refused did
pub done : {T E : Type 0} (r : Result T E) (P : Type 0) → is_err r ≡ false → OnOk r P → P
done (Ok x) P is h = h
done (Err e) P is h = absurd (cc)

-- and one that was
pub refused : {T E : Type 0} (r : Result T E) (P : Type 0) → is_err r ≡ true → OnErr r P → P
refused (Ok x) P is h = absurd (cc)
refused (Err e) P is h = h
