use Rattle.std.proofs.Common.{[], ◌∷◌, ◌++◌, map, sym, ap, ◌∙◌, append_assoc}
use Rattle.mp_lineup.proofs.LogsAndIdle.{map_of_both}
use Rattle.mp_lineup.proofs.making.put_all.Goals as goal

pub returns : goal.returns
returns g c =
    let its = map (λ pr. pr.media.log.disk) c.args.primaries.items in
    let rest = map (λ log. log.disk) c.args.rest.items in
    let first = c.put_primaries.ensures.items ∙ ap (λ l. l ++ its) c.requires.none in
    let second = c.push_reserved.ensures.items ∙ ap (λ l. l ++ c.into_disk.result ∷ []) first ∙ ap (λ disk. its ++ disk ∷ []) c.into_disk.ensures in
    c.put_logs.ensures ∙ ap (λ l. l ++ rest) second ∙ append_assoc its (c.args.log.disk ∷ []) rest
    ∙ sym (map_of_both (λ log. log.disk) (λ pr. pr.media.log) c.args.primaries.items (c.args.log ∷ c.args.rest.items))
