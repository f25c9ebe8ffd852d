use Rattle.std.proofs.Common.{rules, ◌≡◌, None}
use Rattle.mp_shared.specs.PageSteps.{with_ops, MissedFrame}
use Rattle.mp_buffer_fusion.specs.declared.buffer.Buffer.{Buffer}
use Rattle.mp_buffer_fusion.specs.Buffers.{buffer_of, StandsAt}
use Rattle.mp_buffer_fusion.specs.Agreement.{IsInFrame}
use Rattle.mp_buffer_fusion.specs.Visits.{Visits, IsNewest}
use Rattle.mp_buffer_fusion.proofs.Agreeing.{in_frame_lacking}
use Rattle.mp_buffer_fusion.proofs.Fetches.{fetched_buffered, fetched_new, agrees_read, agrees_missed}
use Rattle.mp_buffer_fusion.proofs.pool.Pool.fetch.Goals as goal

pub returns-in-Some-clause-fetched : goal.returns-in-Some-clause-fetched
returns-in-Some-clause-fetched g c =
    let at : (b : Buffer) × StandsAt c.args.self.now c.args.number c.in-Some.i b = search rules in
    fetched_buffered c.args.self.now c.args.node.now c.args.p c.args.number c.in-Some.i c.args.steps.now at.0 at.1 c.requires.reached c.requires.part c.requires.agrees

pub read_frame-requires-clause-in_frame : goal.read_frame-requires-clause-in_frame
read_frame-requires-clause-in_frame g c =
    let lacks : buffer_of c.args.self.now c.args.number ≡ None = search rules in
    in_frame_lacking c.args.self.now c.args.node.now c.args.p c.args.number c.requires.agrees lacks

pub returns-in_default-read_frame-clause-agrees : goal.returns-in_default-read_frame-clause-agrees
returns-in_default-read_frame-clause-agrees g c =
    let told : MissedFrame c.args.p c.args.number c.args.node.now c.read_frame.new.node × (c.read_frame.new.node ≡ with_ops c.args.node.now c.args.p 1) = search rules in
    agrees_missed c.args.self.now c.args.node.now c.read_frame.new.node c.args.p told.1 c.requires.part c.requires.agrees

pub returns-clause-fetched : goal.returns-clause-fetched
returns-clause-fetched g c =
    let before = c.args.node.now in
    let after = c.read_frame.new.node in
    let y = c.in-Some-read_frame.page in
    let lacks : buffer_of c.args.self.now c.args.number ≡ None = search rules in
    let told : Visits c.args.p c.args.number y y before after × IsNewest after c.args.number y × IsInFrame after c.args.p c.args.number = search rules in
    fetched_new c.args.self.now c.add.new.self before after c.args.p c.args.number y told.0 c.requires.part lacks c.add.ensures.added c.add.result c.args.steps.now c.tick.new.self c.add.ensures.place told.1 c.tick.ensures

pub returns-clause-agrees : goal.returns-clause-agrees
returns-clause-agrees g c =
    let before = c.args.node.now in
    let after = c.read_frame.new.node in
    let y = c.in-Some-read_frame.page in
    let lacks : buffer_of c.args.self.now c.args.number ≡ None = search rules in
    let told : Visits c.args.p c.args.number y y before after × IsNewest after c.args.number y × IsInFrame after c.args.p c.args.number = search rules in
    agrees_read c.args.self.now c.add.new.self before after c.args.p c.args.number y told.0 c.requires.part lacks c.add.ensures.added told.2 c.requires.agrees
