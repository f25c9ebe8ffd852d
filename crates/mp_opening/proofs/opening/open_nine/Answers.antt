-- Step by step: the store, the logs, and whether a run may begin from them.
use Rattle.std.proofs.Common.{◌≡◌, ℕ, List, length, sym, ap, subst, ◌∙◌}
use Rattle.mp_cells.specs.PageMaps.{page_at}
use Rattle.mp_cells.specs.PageView.{PageView}
use Rattle.mp_core_trx.specs.declared.opening.Base.{Base}
use Rattle.mp_core.specs.Invariant.{NumbersFit}
use Rattle.mp_files.specs.Nine.{At, KeptDisk, KeptLogs, as_read}
use Rattle.mp_log.specs.Tails.{LogView}
use Rattle.mp_opening.specs.Openings.{base_of, IsLogFromAt}
use Rattle.mp_opening.proofs.OpenedLogs.{kept_all}
use Rattle.mp_opening.proofs.OpenedNine.{logs_refuse_run, unspent_fits, kept_at, log_from, may_begin, checks_refuse, finds_in_image}
use Rattle.mp_opening.proofs.opening.open_nine.Goals as goal

pub returns-in-Err-open_logs-clause-finds : goal.returns-in-Err-open_logs-clause-finds
returns-in-Err-open_logs-clause-finds g c = λ tell.
    logs_refuse_run (as_read g.D.Disk c.args.disks.now) c.args.begins c.in-Err-open_logs.refusal (c.in-Ok.ensures.finds tell.store).sound
    (finds_in_image g.D.Disk c.args.disks.now c.in-Err-open_logs.refusal (c.in-Err-open_logs.ensures.finds tell.logs))

pub returns-in-Ok-check_all-clause-finds : goal.returns-in-Ok-check_all-clause-finds
returns-in-Ok-check_all-clause-finds g c = λ tell.
    let is = c.in-Ok.ensures.finds tell.store in
    let may = c.in-Ok-check_all.ensures in
    let out = c.hand_out.ensures in (
      may_begin g.D.Disk c.args.disks.now c.in-Ok.content c.in-Ok-open_logs.logs.items c.args.begins c.requires.eight tell is c.in-Ok-open_logs.ensures.opened may.0 may.1 may.2,
      out.base ∙ ap base_of is.header_is,
      ap (λ pages. page_at pages.items) out.pages ∙ is.pages,
    )

pub returns-in-Ok-check_all-clause-opened : goal.returns-in-Ok-check_all-clause-opened
returns-in-Ok-check_all-clause-opened g c =
    let d = g.D.Disk in
    let base = c.in-Ok.content.header.llsn in
    let disks = c.args.disks.now.logs.items in
    let logs = c.in-Ok-open_logs.logs.items in
    let on = c.in-Ok-open_logs.ensures in
    let out = c.hand_out.ensures in
    let same : c.hand_out.result.logs.items ≡ logs = ap (λ v. v.items) out.logs in
    let from : c.hand_out.result.base.llsn ≡ base = ap (λ (b : Base). b.llsn) out.base in record {
      store = c.in-Ok.ensures.kept;
      synced = c.in-Ok.ensures.synced;
      none = on.emptied;
      room = on.room;
      count = ap (λ (ls : List _). length ls) same ∙ on.count;
      kept = λ place. subst (λ (ls : List (LogView _)). At (λ disk (log : LogView _). KeptDisk d disk log.disk) disks ls place) (sym same) (kept_at d base disks logs on.opened place);
      logs = λ place.
          subst (λ (ls : List (LogView _)). IsLogFromAt d c.hand_out.result.base.llsn ls place) (sym same)
          (subst (λ (n : ℕ). IsLogFromAt d n logs place) (sym from) (log_from d base disks logs on.opened c.requires.eight c.in-Ok-check_all.ensures.0 place));
    }

pub returns-in-Ok-check_all-clause-fit : goal.returns-in-Ok-check_all-clause-fit
returns-in-Ok-check_all-clause-fit g c = λ primaries least most.
    let content = c.in-Ok.content in
    let may = c.in-Ok-check_all.ensures in
    let out = c.hand_out.ensures in
    let fits = unspent_fits content.header c.args.begins may.2 in
    let fit : NumbersFit (record { trx = record { base = base_of content.header; primaries = primaries; begins = c.args.begins }; pages = content.pages.items }) =
    record { trx = record { some_primaries = (least, most); versions_fit = fits.0; timestamps_fit = fits.1 }; llsns_fit = fits.2; count = c.in-Ok.ensures.count; clean = may.1 } in
    subst (λ (b : Base). NumbersFit (record { trx = record { base = b; primaries = primaries; begins = c.args.begins }; pages = c.hand_out.result.pages.items })) (sym out.base)
    (subst (λ (ps : List PageView). NumbersFit (record { trx = record { base = base_of content.header; primaries = primaries; begins = c.args.begins }; pages = ps }))
    (sym (ap (λ pages. pages.items) out.pages)) fit)

pub returns-in-Err-check_all-clause-finds : goal.returns-in-Err-check_all-clause-finds
returns-in-Err-check_all-clause-finds g c = λ tell.
    checks_refuse g.D.Disk c.args.disks.now c.in-Ok.content c.in-Ok-open_logs.logs.items c.args.begins c.requires.eight tell (c.in-Ok.ensures.finds tell.store) c.in-Ok-open_logs.ensures.opened
    c.in-Err-check_all.refusal c.in-Err-check_all.ensures

pub returns-in-Err-check_all-clause-untouched : goal.returns-in-Err-check_all-clause-untouched
returns-in-Err-check_all-clause-untouched g c = record {
  store = c.in-Ok.ensures.kept;
  logs = subst (λ (ds : List _). KeptLogs g.D.Disk c.args.disks.now.logs.items ds) (sym c.put_back.ensures) (kept_all g.D.Disk c.args.disks.now.logs.items c.in-Ok-open_logs.logs.items c.in-Ok-open_logs.ensures.opened);
}
