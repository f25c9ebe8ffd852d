-- Mtr by mtr.
use Rattle.std.proofs.Common.{◌≡◌, ℕ, Option, Ok, Err, List, ◌++◌, append-nil, refl, sym, ap, subst, ◌∙◌, inr}
use Rattle.mp_cells.specs.declared.records.Mtr.{Mtr}
use Rattle.std.specs.Prelude.{IfSome}
use Rattle.std.specs.List.{AllByRecursion}
use Rattle.mp_cells.specs.Mtrs.{IsMtr}
use Rattle.mp_cells.specs.PageMaps.{page_at}
use Rattle.mp_files.specs.Nine.{as_read, seen_at}
use Rattle.mp_files.proofs.Nines.{KeptLogs-refl, KeptLogs-trans}
use Rattle.mp_recover.specs.Images.{all_logged}
use Rattle.mp_recover.specs.Merging.{LaneGoes, GivesMerged}
use Rattle.mp_recover.specs.Finding.{greatest_of, llsns_in, versions_in}
use Rattle.mp_recover.specs.Redoing.{mtrs_redone, mtrs_above, ids_in}
use Rattle.mp_recover.proofs.GivenRises.{all_to_merge}
use Rattle.mp_recover.proofs.RedoneAbove.{one_cause, refused_all, merge_refused, gives_on, cause_later, left_after}
use Rattle.mp_recover.proofs.FoundMore.{tells_after}
use Rattle.mp_recover.proofs.redoing_logs.redo_logs.Goals as goal

pub loop-init : goal.loop-init
loop-init g c =
    let d = g.D.Disk in
    let disks = c.args.disks.now in (
      refl,
      KeptLogs-refl d disks.logs.items,
      c.requires.pages,
      λ place lane is. subst LaneGoes (sym (c.in-Ok.ensures.fresh place lane is)) (inr refl),
      λ tell. (
        all_logged (as_read d disks),
        all_to_merge d c.in-Ok.fronts disks c.in-Ok.ensures.fresh,
        refl,
        ap (λ (ids : List _). ids ++ ids_in (mtrs_above c.args.header.now.llsn (all_logged (as_read d disks)))) c.new-found.ensures.ids,
        ap (λ (n : ℕ). greatest_of n (llsns_in (mtrs_above c.args.header.now.llsn (all_logged (as_read d disks))))) c.new-found.ensures.llsn,
        ap (λ (n : ℕ). greatest_of n (versions_in (mtrs_above c.args.header.now.llsn (all_logged (as_read d disks))))) c.new-found.ensures.version,
        λ all. all,
      ),
      c.new-found.ensures.fits,
    )

pub returns-in-Err-redo_above-clause-kept : goal.returns-in-Err-redo_above-clause-kept
returns-in-Err-redo_above-clause-kept g c = KeptLogs-trans g.D.Disk _ _ _ c.loop.invariant.1 c.in-Ok-Some.ensures.kept

pub returns-in-Ok-None-clause-kept : goal.returns-in-Ok-None-clause-kept
returns-in-Ok-None-clause-kept g c = KeptLogs-trans g.D.Disk _ _ _ c.loop.invariant.1 c.in-Ok-None.ensures.kept

pub returns-in-Err-next_front-clause-kept : goal.returns-in-Err-next_front-clause-kept
returns-in-Err-next_front-clause-kept g c = KeptLogs-trans g.D.Disk _ _ _ c.loop.invariant.1 c.in-Err-next_front.ensures.kept

pub returns-in-Err-next_front-clause-cause : goal.returns-in-Err-next_front-clause-cause
returns-in-Err-next_front-clause-cause g c =
    cause_later g.D.Disk c.args.disks.now.logs.items c.loop.disks.logs.items c.next_front.new.disks.logs.items c.in-Err-next_front.refusal c.loop.invariant.1 (c.in-Err-next_front.ensures.cause c.loop.invariant.3)

pub returns-in-Err-next_front-clause-redone : goal.returns-in-Err-next_front-clause-redone
returns-in-Err-next_front-clause-redone g c = λ tell.
    let d = g.D.Disk in
    let disks = c.args.disks.now in
    let left = c.loop.invariant.4 tell in
    merge_refused (seen_at d disks.logs.items) c.args.header.now.llsn (all_logged (as_read d disks)) (page_at c.args.pages.now.items) (page_at c.loop.pages.items) c.in-Err-next_front.refusal
    (gives_on d disks.logs.items c.loop.disks.logs.items c.loop.fronts c.next_front.new.fronts left.0 (Err c.in-Err-next_front.refusal) c.loop.invariant.1 tell c.in-Err-next_front.ensures.gives left.1)

pub returns-in-Ok-None-clause-redone : goal.returns-in-Ok-None-clause-redone
returns-in-Ok-None-clause-redone g c = λ tell.
    let d = g.D.Disk in
    let disks = c.args.disks.now in
    let base = c.args.header.now.llsn in
    let all = all_logged (as_read d disks) in
    let left = c.loop.invariant.4 tell in
    let end = subst (λ (found : Option Mtr). GivesMerged (seen_at d disks.logs.items) left.0 c.next_front.new.fronts (Ok found)) c.in-Ok-None.field-0-is
    (gives_on d disks.logs.items c.loop.disks.logs.items c.loop.fronts c.next_front.new.fronts left.0 (Ok c.in-Ok-None.field-0) c.loop.invariant.1 tell c.in-Ok-None.ensures.gives left.1) in (
      sym left.2 ∙ ap (λ (ms : List Mtr). mtrs_redone (mtrs_above base ms) (page_at c.loop.pages.items)) end.0,
      sym (append-nil c.loop.found.ids.items) ∙ sym (ap (λ (ms : List Mtr). c.loop.found.ids.items ++ ids_in (mtrs_above base ms)) end.0) ∙ left.3,
    )

pub returns-in-Err-redo_above-clause-redone : goal.returns-in-Err-redo_above-clause-redone
returns-in-Err-redo_above-clause-redone g c = λ tell.
    let d = g.D.Disk in
    let disks = c.args.disks.now in
    let base = c.args.header.now.llsn in
    let all = all_logged (as_read d disks) in
    let left = c.loop.invariant.4 tell in
    let given = subst (λ (found : Option Mtr). GivesMerged (seen_at d disks.logs.items) left.0 c.next_front.new.fronts (Ok found)) c.in-Ok-Some.field-0-is
    (gives_on d disks.logs.items c.loop.disks.logs.items c.loop.fronts c.next_front.new.fronts left.0 (Ok c.in-Ok-Some.field-0) c.loop.invariant.1 tell c.in-Ok-Some.ensures.gives left.1) in
    let rest = subst (λ (ms : List Mtr). mtrs_redone (mtrs_above base ms) (page_at c.loop.pages.items) ≡ mtrs_redone (mtrs_above base all) (page_at c.args.pages.now.items)) given.1 left.2 in
    refused_all (seen_at d disks.logs.items) base all c.in-Ok-Some.mtr given.0 (page_at c.args.pages.now.items) (page_at c.loop.pages.items) (page_at c.redo_above.new.pages.items)
    c.loop.found.ids.items c.redo_above.new.found.ids.items c.in-Err-redo_above.refusal c.in-Err-redo_above.ensures.redone rest

pub loop-preserved : goal.loop-preserved
loop-preserved g c =
    let d = g.D.Disk in
    let disks = c.args.disks.now in
    let base = c.args.header.now.llsn in
    let all = all_logged (as_read d disks) in
    let inv = c.loop.invariant in (
      c.in-Ok-Some.ensures.store ∙ inv.0,
      KeptLogs-trans d _ _ _ inv.1 c.in-Ok-Some.ensures.kept,
      c.in-Ok-redo_above.ensures.count,
      c.in-Ok-Some.ensures.goes inv.3,
      λ tell.
          let left = inv.4 tell in
          let given = subst (λ (found : Option Mtr). GivesMerged (seen_at d disks.logs.items) left.0 c.next_front.new.fronts (Ok found)) c.in-Ok-Some.field-0-is
          (gives_on d disks.logs.items c.loop.disks.logs.items c.loop.fronts c.next_front.new.fronts left.0 (Ok c.in-Ok-Some.field-0) inv.1 tell c.in-Ok-Some.ensures.gives left.1) in
          let after = left_after base c.in-Ok-Some.mtr given.0 (page_at c.loop.pages.items) (page_at c.redo_above.new.pages.items) c.loop.found.ids.items c.redo_above.new.found.ids.items
          (ids_in (mtrs_above base all)) (mtrs_redone (mtrs_above base all) (page_at c.args.pages.now.items)) c.in-Ok-redo_above.ensures.redone
          (subst (λ (ms : List Mtr). mtrs_redone (mtrs_above base ms) (page_at c.loop.pages.items) ≡ mtrs_redone (mtrs_above base all) (page_at c.args.pages.now.items)) given.1 left.2)
          (subst (λ (ms : List Mtr). c.loop.found.ids.items ++ ids_in (mtrs_above base ms) ≡ ids_in (mtrs_above base all)) given.1 left.3) in
          let told = tells_after base base c.args.header.now.version c.in-Ok-Some.mtr given.0 c.loop.found c.redo_above.new.found all (c.in-Ok-redo_above.ensures.llsn, c.in-Ok-redo_above.ensures.version) (
            subst (λ (ms : List Mtr). greatest_of c.loop.found.llsn (llsns_in (mtrs_above base ms)) ≡ greatest_of base (llsns_in (mtrs_above base all))) given.1 left.4,
            subst (λ (ms : List Mtr). greatest_of c.loop.found.version (versions_in (mtrs_above base ms)) ≡ greatest_of c.args.header.now.version (versions_in (mtrs_above base all))) given.1 left.5,
          ) in
          (given.0, given.2, after.0, after.1, told.0, told.1, λ rest. left.6 (subst (AllByRecursion IsMtr) (sym given.1) (subst (λ (o : Option Mtr). IfSome o (λ m. IsMtr m)) c.in-Ok-Some.field-0-is c.in-Ok-Some.ensures.is_mtr, rest))),
      c.in-Ok-redo_above.ensures.fits,
    )

pub returns-in-Ok-None-clause-found : goal.returns-in-Ok-None-clause-found
returns-in-Ok-None-clause-found g c = λ tell.
    let d = g.D.Disk in
    let disks = c.args.disks.now in
    let base = c.args.header.now.llsn in
    let left = c.loop.invariant.4 tell in
    let end = subst (λ (found : Option Mtr). GivesMerged (seen_at d disks.logs.items) left.0 c.next_front.new.fronts (Ok found)) c.in-Ok-None.field-0-is
    (gives_on d disks.logs.items c.loop.disks.logs.items c.loop.fronts c.next_front.new.fronts left.0 (Ok c.in-Ok-None.field-0) c.loop.invariant.1 tell c.in-Ok-None.ensures.gives left.1) in
    record {
      llsn_is = sym (ap (λ (ms : List Mtr). greatest_of c.loop.found.llsn (llsns_in (mtrs_above base ms))) end.0) ∙ left.4;
      version_is = sym (ap (λ (ms : List Mtr). greatest_of c.loop.found.version (versions_in (mtrs_above base ms))) end.0) ∙ left.5;
    }

pub returns-in-Ok-None-clause-mtrs : goal.returns-in-Ok-None-clause-mtrs
returns-in-Ok-None-clause-mtrs g c = λ tell.
    let d = g.D.Disk in
    let disks = c.args.disks.now in
    let left = c.loop.invariant.4 tell in
    let end = subst (λ (found : Option Mtr). GivesMerged (seen_at d disks.logs.items) left.0 c.next_front.new.fronts (Ok found)) c.in-Ok-None.field-0-is
    (gives_on d disks.logs.items c.loop.disks.logs.items c.loop.fronts c.next_front.new.fronts left.0 (Ok c.in-Ok-None.field-0) c.loop.invariant.1 tell c.in-Ok-None.ensures.gives left.1) in
    left.6 (subst (AllByRecursion IsMtr) (sym end.0) tt)

pub returns-in-Err-redo_above-clause-cause : goal.returns-in-Err-redo_above-clause-cause
returns-in-Err-redo_above-clause-cause g c =
    one_cause g.D.Disk c.args.disks.now.logs.items _ c.args.header.now.llsn c.in-Ok-Some.mtr (page_at c.loop.pages.items) (page_at c.redo_above.new.pages.items) c.loop.found.ids.items c.redo_above.new.found.ids.items c.in-Err-redo_above.refusal c.in-Err-redo_above.ensures.redone
