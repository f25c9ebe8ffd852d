use Rattle.std.proofs.Common.{ℕ, ◌≤◌, List, length, sym, subst, ◌∙◌, arith}
use Rattle.mp_log.specs.Logs.{most_batch_bytes}
use Rattle.mp_desk_tests.proofs.handover.first_log.Goals as goal

pub returns-in-None : goal.returns-in-None
returns-in-None g c =
    let o = c.in-Ok.ensures in
    let none = sym c.first_above.ensures ∙ c.in-None.is in
    record {
      takes = record { live = o.live; node = o.node; last = o.last 0 none; fits = subst (λ (b : List ℕ). length b ≤ most_batch_bytes) (sym o.nothing) (omega arith) };
      nothing = o.nothing;
      opened = λ tells. o.opened (sym o.tells ∙ tells);
      none = none;
    }
