-- What was read tells the side, and whether its gate is open.
use Rattle.std.proofs.Common.{ℕ, ◌≤◌, IsTrue, List, length, sym, ap, ◌∙◌, subst, arith}
use Rattle.mp_store.specs.declared.sides.Side.TheVariants.{First, Second}
use Rattle.mp_store.specs.Layout.{is_open, store_length, page_side}
use Rattle.mp_store.specs.PageSides.{idle}
use Rattle.mp_store.specs.Passes.{PassDone, PassedBelow}
use Rattle.mp_store.proofs.PassedSides.{idle_read, picked_page, quiet_passed, below_more, both_ok}
use Rattle.mp_store.proofs.passes.change_idle.Goals as goal

pub returns-clause-kept : goal.returns-clause-kept
returns-clause-kept g c = λ tells. λ marks. λ bodies. λ file. λ marked. λ later. λ all.
    let n = c.args.number in
    let seen = g.D.Disk.seen c.args.disk.now in
    let now = g.D.Disk.seen c.read_home.new.disk in
    let read = c.in_ok-home.ensures in
    let told : IsTrue (g.D.Disk.tells c.read_home.new.disk) = subst (λ b. IsTrue b) (sym read.tells) tells in
    let first = c.split_at.ensures.front ∙ read.first tells in
    let second = c.split_at.ensures.back ∙ read.second tells in
    let side_is = c.idle-side.ensures ∙ ap idle c.side_in_force.ensures ∙ idle_read c.args.pass c.args.store marks bodies file seen n _ _ marked later all.reads first second in
    let was = c.is_gate_open-was_open.ensures
    ∙ ap is_open (picked_page c.idle-side.result n _ _ now (first ∙ ap (page_side n First) (sym read.quiet.same)) (second ∙ ap (page_side n Second) (sym read.quiet.same))) in
    let all_now = quiet_passed c.args.pass c.args.store marks bodies file seen now (g.D.Disk.image c.args.disk.now) (g.D.Disk.image c.read_home.new.disk) read.quiet all in
    c.change_side.ensures.kept told c.args.store marks bodies file marked side_is was all_now

pub returns-clause-done : goal.returns-clause-done
returns-clause-done g c = λ tells. λ marks. λ bodies. λ file. λ marked. λ body_is. λ later. λ all. λ below.
    let n = c.args.number in
    let seen = g.D.Disk.seen c.args.disk.now in
    let now = g.D.Disk.seen c.read_home.new.disk in
    let read = c.in_ok-home.ensures in
    let told : IsTrue (g.D.Disk.tells c.read_home.new.disk) = subst (λ b. IsTrue b) (sym read.tells) tells in
    let first = c.split_at.ensures.front ∙ read.first tells in
    let second = c.split_at.ensures.back ∙ read.second tells in
    let side_is = c.idle-side.ensures ∙ ap idle c.side_in_force.ensures ∙ idle_read c.args.pass c.args.store marks bodies file seen n _ _ marked later all.reads first second in
    let was = c.is_gate_open-was_open.ensures
    ∙ ap is_open (picked_page c.idle-side.result n _ _ now (first ∙ ap (page_side n First) (sym read.quiet.same)) (second ∙ ap (page_side n Second) (sym read.quiet.same))) in
    let all_now = quiet_passed c.args.pass c.args.store marks bodies file seen now (g.D.Disk.image c.args.disk.now) (g.D.Disk.image c.read_home.new.disk) read.quiet all in
    let room : store_length ≤ length now = omega (arith, all_now.room, all_now.reads.long) in
    let new = g.D.Disk.seen c.change_side.new.disk in
    let so_far = subst (λ (f : List ℕ). PassedBelow n c.args.pass c.args.store marks bodies file f) (sym read.quiet.same) below in
    both_ok c.change_side.result (c.change_side.ensures.done told room was) (λ m t differ. c.change_side.ensures.others told room m t differ) (λ done kept.
    below_more c.args.pass c.args.store marks bodies file now new n c.idle-side.result side_is so_far kept
    (subst (λ (b : List ℕ). PassDone c.args.pass b (page_side n c.idle-side.result new)) (sym body_is) done))
