-- The rows below the place were counted.
use Rattle.std.proofs.Common.{◌≡◌, ◌≤◌, length, take}
use Rattle.std.specs.Prelude.{filter, not}
use Rattle.mp_recover.specs.Settled.{is_counted}
use Rattle.mp_recover.specs.Settling.{trx_ids}
use Rattle.mp_recover.proofs.versions.count_undone.Given as goal

abbrev pub invariant-loop-i : goal.invariant-loop-i
invariant-loop-i l = record {
  undone : l.undone ≡ length (filter (λ row. not (is_counted (trx_ids l.ids.items) row.writer)) (take l.i l.page.rows));
  most : l.undone ≤ l.i;
}
