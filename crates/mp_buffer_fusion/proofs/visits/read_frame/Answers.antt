use Rattle.std.proofs.Common.{rules, ◌≡◌, refl, sym, ap, ◌∙◌}
use Rattle.mp_core_pages.specs.declared.page_lock.Held.TheVariants.{No}
use Rattle.mp_core_pages.specs.PageParts.{held_at}
use Rattle.mp_shared.specs.PageSteps.{TookFrame}
use Rattle.mp_shared.proofs.Holding.{held_part}
use Rattle.mp_buffer_fusion.proofs.Visiting.{held_is, kept_read, read_below, gives_same, visits, newest_after, in_frame_after}
use Rattle.mp_buffer_fusion.proofs.visits.read_frame.Goals as goal

pub give_frame-requires-clause-step : goal.give_frame-requires-clause-step
give_frame-requires-clause-step c =
    let before = c.args.node.now in
    let mid = c.take_frame.new.node in
    let p = c.args.p in
    let k = c.args.number in
    let y = c.in_ok-found.found in
    let took : TookFrame p k y before mid = search rules in
    let held = held_part before p c.requires.part in
    let locked : ¬ (held_at held.0.pages.locks k ≡ No) = λ none. c.requires.lock (held_is before p k held.0 held.1 ∙ none) in
    let kept = kept_read before mid p k y y held.0 held.1 held.2 took locked (c.requires.in_frame held.0 held.1) in
    gives_same before mid p k y y held.0 held.1 held.2 took kept c.requires.page locked refl

pub returns-clause-read : goal.returns-clause-read
returns-clause-read c =
    let before = c.args.node.now in
    let mid = c.take_frame.new.node in
    let after = c.give_frame.new.node in
    let p = c.args.p in
    let k = c.args.number in
    let y = c.in_ok-found.found in
    let took : TookFrame p k y before mid = search rules in
    let held = held_part before p c.requires.part in
    let locked : ¬ (held_at held.0.pages.locks k ≡ No) = λ none. c.requires.lock (held_is before p k held.0 held.1 ∙ none) in
    let in_frame = c.requires.in_frame held.0 held.1 in
    let kept = kept_read before mid p k y y held.0 held.1 held.2 took locked in_frame in (
      visits before mid p k y y held.0 held.1 held.2 took kept c.requires.page locked after c.give_frame.ensures,
      newest_after before mid p k y y held.0 held.1 held.2 took kept c.requires.page locked after c.give_frame.ensures,
      in_frame_after before mid p k y y held.0 held.1 held.2 took kept c.requires.page locked after c.give_frame.ensures (read_below before mid p k y y held.0 held.1 held.2 took locked in_frame),
    )
