use Rattle.std.proofs.Common.{◌≡◌, ◌≤◌, ℕ, false, List, length, refl, ap, ◌∙◌, arith}
use Rattle.std.proofs.lemmas.Result.{err_from_is_err_and}
use Rattle.mp_core.specs.CoreExtends.{durable_of}
use Rattle.mp_shared.proofs.Holding.{held_part}
use Rattle.mp_supports.specs.Agreement.{last_made_llsn}
use Rattle.mp_desk.proofs.ForcedMedia.{has_forced, forced_part, step_forced, now_durable, moves_forced, forced_at_desk, not_forced, durable_below}
use Rattle.mp_desk.proofs.MediaMoved.{not_zero, media_not_forced, media_forced_on}
use Rattle.mp_desk.proofs.media.Media.force.Goals as goal

pub returns-then-not-self-clause-forced : goal.returns-then-not-self-clause-forced
returns-then-not-self-clause-forced g c = not_forced c.args.p c.args.node.now (λ q has. ((c.requires.agrees.1 q has).on_disk.forced c.if-not-self.true).0)

pub returns-then-not-self-clause-room : goal.returns-then-not-self-clause-room
returns-then-not-self-clause-room g c =
    let held = held_part c.args.node.now c.args.p c.requires.part in
    let none = ap (λ (l : List ℕ). length l) ((c.requires.agrees.1 held.0 held.1).on_disk.forced c.if-not-self.true).1 in
    omega (arith, none)

pub returns-in_err-force-clause-agrees : goal.returns-in_err-force-clause-agrees
returns-in_err-force-clause-agrees g c work agree =
    let returned = err_from_is_err_and c.from_residual.result c.from_residual.ensures.1 in
    let node = (held_part c.args.node.now c.args.p c.requires.part).2 in
    let kept = media_not_forced g.D.Disk work c.args.p c.args.self.now (record { log = c.force.new.self; unforced = c.args.self.now.unforced }) c.args.node.now c.requires.reached c.requires.log.1.live c.in_err-force.ensures.tells c.in_err-force.ensures.node c.in_err-force.ensures.last agree
    c.args.p (not_zero c.args.p node.0) c.requires.log.1.fits c.if-not-self.false c.if-not-self.false c.in_err-force.ensures.closed c.in_err-force.ensures.either in
    rw (returned.1) (tt, kept)

pub store_durable-requires-clause-step : goal.store_durable-requires-clause-step
store_durable-requires-clause-step g c =
    let held = held_part c.args.node.now c.args.p c.requires.part in
    let h = c.requires.agrees.1 held.0 held.1 in
    let last : c.last.result ≡ last_made_llsn held.0 = c.last.ensures ∙ c.in_ok-force.ensures.last ∙ h.on_disk.last (h.some_made c.if-not-self.false) in
    let durable : durable_of held.0 ≤ last_made_llsn held.0 = durable_below c.args.node.now c.requires.reached c.args.p held.0 held.1 in
    (held.0, held.1, (held.2, (omega (arith, last, durable), omega (arith, last)), tt))

pub returns-clause-forced : goal.returns-clause-forced
returns-clause-forced g c =
    let held = held_part c.args.node.now c.args.p c.requires.part in
    let h = c.requires.agrees.1 held.0 held.1 in
    let last : c.last.result ≡ last_made_llsn held.0 = c.last.ensures ∙ c.in_ok-force.ensures.last ∙ h.on_disk.last (h.some_made c.if-not-self.false) in
    let durable : durable_of held.0 ≤ last_made_llsn held.0 = durable_below c.args.node.now c.requires.reached c.args.p held.0 held.1 in
    moves_forced c.args.node.now c.store_durable.new.node c.args.p c.last.result held.0 held.1 last (omega (arith, last, durable)) c.store_durable.ensures

pub returns-clause-desk : goal.returns-clause-desk
returns-clause-desk g c desk at =
    let held = held_part c.args.node.now c.args.p c.requires.part in
    let h = c.requires.agrees.1 held.0 held.1 in
    let last : c.last.result ≡ last_made_llsn held.0 = c.last.ensures ∙ c.in_ok-force.ensures.last ∙ h.on_disk.last (h.some_made c.if-not-self.false) in
    let durable : durable_of held.0 ≤ last_made_llsn held.0 = durable_below c.args.node.now c.requires.reached c.args.p held.0 held.1 in
    forced_at_desk c.args.node.now c.store_durable.new.node c.args.p c.last.result held.0 held.1 last (omega (arith, last, durable)) c.store_durable.ensures c.args.shared.now desk at c.store_durable.ensures.1.reached

pub returns-clause-agrees : goal.returns-clause-agrees
returns-clause-agrees g c work agree =
    let held = held_part c.args.node.now c.args.p c.requires.part in
    let h = c.requires.agrees.1 held.0 held.1 in
    let last : c.last.result ≡ last_made_llsn held.0 = c.last.ensures ∙ c.in_ok-force.ensures.last ∙ h.on_disk.last (h.some_made c.if-not-self.false) in
    let durable : durable_of held.0 ≤ last_made_llsn held.0 = durable_below c.args.node.now c.requires.reached c.args.p held.0 held.1 in
    let before = c.args.node.now in
    let after = c.store_durable.new.node in
    let v = c.last.result in
    let more : durable_of held.0 ≤ v = omega (arith, last, durable) in
    let took = c.store_durable.ensures in (
      media_forced_on g.D.Disk work c.args.p c.args.self.now (record { log = c.force.new.self; unforced = false }) before c.requires.reached c.requires.log.1.live c.in_ok-force.ensures.tells c.in_ok-force.ensures.node c.in_ok-force.ensures.last agree
          after held.0 held.1 (forced_part before after c.args.p v held.0 held.1 last more took) (has_forced before after c.args.p v held.0 held.1 last more took)
          (step_forced before after c.args.p v held.0 held.1 last more took) (now_durable before after c.args.p v held.0 held.1 last more took) refl c.in_ok-force.ensures.live c.in_ok-force.ensures.emptied c.in_ok-force.ensures.forced,
      tt,
    )
