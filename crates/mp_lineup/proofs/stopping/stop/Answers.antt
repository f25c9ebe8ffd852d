use Rattle.std.proofs.Common.{◌++◌, map, sym, ap, ◌∙◌}
use Rattle.mp_lineup.proofs.LogsAndIdle.{map_of_both}
use Rattle.mp_lineup.proofs.stopping.stop.Goals as goal

pub returns-clause-put_back : goal.returns-clause-put_back
returns-clause-put_back g c =
    let idle = map (λ log. log.disk) c.args.members.idle.items in
    let its = map (λ pr. pr.media.log.disk) c.args.members.primaries.items in
    c.put_logs.ensures ∙ ap (λ l. l ++ idle) (c.end_all-lists.ensures.items ∙ ap (λ l. l ++ its) c.requires.none)
    ∙ sym (map_of_both (λ log. log.disk) (λ pr. pr.media.log) c.args.members.primaries.items c.args.members.idle.items)
