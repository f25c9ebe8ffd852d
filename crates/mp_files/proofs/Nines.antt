-- What calls on nine disks left, one after another.
use Rattle.std.proofs.Common.{◌≡◌, ◌≢◌, ℕ, List, length, slice_get, option_map, refl, sym, ap, subst, ◌∙◌, arith}
use Rattle.std.proofs.lemmas.List.{length-map}
use Rattle.std.proofs.lemmas.Option.{slice_get_within, slice_get-map}
use Rattle.mp_outside.specs.declared.disks.Disk.{Ghosts}
use Rattle.mp_outside.specs.Looks.{Looks}
use Rattle.mp_outside.proofs.Quiets.{Quiet-refl, Quiet-trans}
use Rattle.mp_files.specs.declared.disks.Disks.{Disks}
use Rattle.mp_files.specs.Nine.{At, IsImage, as_read, AllTell, KeptDisk, KeptLogs, KeptNine, StillDisk, StillNine, RoseOf}
use Rattle.mp_files.proofs.Places.{same_some, at_place, At-refl, At-trans, At-one}

module _ {D : Type 0} (g : Ghosts D) where
  -- calls that only looked
  pub KeptDisk-refl : (disk : D) → KeptDisk g disk disk
  KeptDisk-refl disk = record { tells = refl; quiet = Quiet-refl; count = omega arith }

  pub Looks-kept : (old new : D) → Looks g old new → KeptDisk g old new
  Looks-kept old new looked = record { tells = looked.tells; quiet = looked.quiet; count = looked.count }

  pub KeptDisk-trans : (old mid new : D) → KeptDisk g old mid → KeptDisk g mid new → KeptDisk g old new
  KeptDisk-trans old mid new first then_ = record {
    tells = then_.tells ∙ first.tells;
    quiet = Quiet-trans first.quiet then_.quiet;
    count = omega (arith, first.count, then_.count);
  }

  pub KeptLogs-refl : (logs : List D) → KeptLogs g logs logs
  KeptLogs-refl logs = record { count = refl; each = At-refl (KeptDisk g) KeptDisk-refl logs }

  pub KeptLogs-trans : (old mid new : List D) → KeptLogs g old mid → KeptLogs g mid new → KeptLogs g old new
  KeptLogs-trans old mid new first then_ = record {
    count = then_.count ∙ first.count;
    each = λ place. At-trans (KeptDisk g) KeptDisk-trans old mid new first.count place (first.each place) (then_.each place);
  }

  -- one log more, of the logs as they were at first
  pub KeptLogs-one : (old mid new : List D) (changed : ℕ) → KeptLogs g old mid → length new ≡ length mid
      → ((place : ℕ) → place ≢ changed → slice_get new place ≡ slice_get mid place) → At (KeptDisk g) old new changed → KeptLogs g old new
  KeptLogs-one old mid new changed so_far count others this = record {
    count = count ∙ so_far.count;
    each = At-one (KeptDisk g) old mid new changed others so_far.each this;
  }

  pub KeptNine-refl : (disks : Disks D) → KeptNine g disks disks
  KeptNine-refl disks = record { store = KeptDisk-refl disks.store; logs = KeptLogs-refl disks.logs.items }

  pub KeptNine-trans : (old mid new : Disks D) → KeptNine g old mid → KeptNine g mid new → KeptNine g old new
  KeptNine-trans old mid new first then_ = record {
    store = KeptDisk-trans old.store mid.store new.store first.store then_.store;
    logs = KeptLogs-trans old.logs.items mid.logs.items new.logs.items first.logs then_.logs;
  }

  -- where the store alone was looked at, or the logs alone
  pub KeptNine-store : (old new : Disks D) → KeptDisk g old.store new.store → new.logs.items ≡ old.logs.items → KeptNine g old new
  KeptNine-store old new store same =
      record { store = store; logs = subst (λ logs. KeptLogs g old.logs.items logs) (sym same) (KeptLogs-refl old.logs.items) }

  pub KeptNine-logs : (old new : Disks D) → KeptLogs g old.logs.items new.logs.items → new.store ≡ old.store → KeptNine g old new
  KeptNine-logs old new logs same =
      record { store = subst (λ store. KeptDisk g old.store store) (sym same) (KeptDisk-refl old.store); logs = logs }

  -- the same disks
  pub StillDisk-refl : (disk : D) → StillDisk g disk disk
  StillDisk-refl disk = record { tells = refl; count = omega arith }

  pub StillDisk-trans : (old mid new : D) → StillDisk g old mid → StillDisk g mid new → StillDisk g old new
  StillDisk-trans old mid new first then_ = record { tells = then_.tells ∙ first.tells; count = omega (arith, first.count, then_.count) }

  pub StillNine-refl : (disks : Disks D) → StillNine g disks disks
  StillNine-refl disks = record {
    count = refl;
    store = StillDisk-refl disks.store;
    each = At-refl (StillDisk g) StillDisk-refl disks.logs.items;
  }

  pub StillNine-trans : (old mid new : Disks D) → StillNine g old mid → StillNine g mid new → StillNine g old new
  StillNine-trans old mid new first then_ = record {
    count = then_.count ∙ first.count;
    store = StillDisk-trans old.store mid.store new.store first.store then_.store;
    each = λ place. At-trans (StillDisk g) StillDisk-trans old.logs.items mid.logs.items new.logs.items first.count place (first.each place) (then_.each place);
  }

  -- what was only looked at is still there
  pub KeptDisk-still : (old new : D) → KeptDisk g old new → StillDisk g old new
  KeptDisk-still old new kept = record { tells = kept.tells; count = kept.count }

  pub KeptNine-still : (old new : Disks D) → KeptNine g old new → StillNine g old new
  KeptNine-still old new kept = record {
    count = kept.logs.count;
    store = KeptDisk-still old.store new.store kept.store;
    each = λ place before after was now. KeptDisk-still before after (kept.logs.each place before after was now);
  }

  -- a count that rose in a part of a call rose in it
  pub RoseOf-later : (primary : ℕ) (old mid new : List D) → length mid ≡ length old → ((place : ℕ) → At (StillDisk g) old mid place)
      → RoseOf g primary mid new → RoseOf g primary old new
  RoseOf-later primary old mid new count still rose =
      let at = rose.2 in
      let before = at_place old rose.0 (omega (arith, slice_get_within mid rose.0 at.before at.was, count)) in
      let this = still rose.0 before.0 at.before before.1 at.was in
      (rose.0, rose.1, record { before = before.0; after = at.after; was = before.1; now = at.now; rose = omega (arith, this.count, at.rose) })

  pub RoseOf-earlier : (primary : ℕ) (old mid new : List D) → length new ≡ length mid → ((place : ℕ) → At (StillDisk g) mid new place)
      → RoseOf g primary old mid → RoseOf g primary old new
  RoseOf-earlier primary old mid new count still rose =
      let at = rose.2 in
      let after = at_place new rose.0 (omega (arith, slice_get_within mid rose.0 at.after at.now, count)) in
      let this = still rose.0 at.after after.0 at.now after.1 in
      (rose.0, rose.1, record { before = at.before; after = after.0; was = at.was; now = after.1; rose = omega (arith, this.count, at.rose) })

  -- what reads give is an image
  pub read_image : (disks : Disks D) → AllTell g disks → IsImage g disks (as_read g disks)
  read_image disks told = record {
    store = g.seen_is_image disks.store told.store;
    logs = record {
      count = length-map disks.logs.items g.seen;
      each = λ place disk file was now.
          let is : file ≡ g.seen disk = sym (same_some (g.seen disk) file (sym (slice_get-map g.seen disks.logs.items place ∙ ap (λ found. option_map g.seen found) was) ∙ now)) in
          subst (λ bytes. g.image disk bytes) (sym is) (g.seen_is_image disk (told.logs place disk was));
    };
  }
