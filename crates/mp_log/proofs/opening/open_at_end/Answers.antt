-- The log is read after the sync, when what a read gives is all that a crash may leave.
use Rattle.std.proofs.Common.{◌≡◌, IsTrue, List, [], ℕ, length, sym, ap, subst, ◌∙◌}
use Rattle.mp_outside.proofs.Quiets.{Quiet-trans}
use Rattle.mp_log.specs.Tails.{TailView}
use Rattle.mp_log.specs.Reading.{IsReadLog}
use Rattle.mp_log.proofs.Opened.{is_opened}
use Rattle.mp_log.proofs.Tied.{tied_first}
use Rattle.mp_log.proofs.opening.open_at_end.Goals as goal

pub returns-in-Ok-read_batches-clause-quiet : goal.returns-in-Ok-read_batches-clause-quiet
returns-in-Ok-read_batches-clause-quiet g c = Quiet-trans c.in-Ok-safe_size.ensures.quiet c.in-Ok-read_batches.ensures.quiet

pub returns-in-Ok-read_batches-clause-tied : goal.returns-in-Ok-read_batches-clause-tied
returns-in-Ok-read_batches-clause-tied g c =
    rw c.move_to.ensures (c.in-Ok-read_batches.ensures.tied (rw c.in-Ok-new.ensures.llsns (tied_first [])))

pub returns-in-Ok-read_batches-clause-exact : goal.returns-in-Ok-read_batches-clause-exact
returns-in-Ok-read_batches-clause-exact g c = λ tells.
    let synced = c.in-Ok-safe_size.ensures in
    let read = c.in-Ok-read_batches.ensures in
    let still : IsTrue (g.D.Disk.tells c.safe_size.new.disk) = rw synced.tells tells in
    let size : c.in-Ok-safe_size.size ≡ length (g.D.Disk.seen c.safe_size.new.disk) = synced.is tells ∙ ap length (sym synced.quiet.same) in
    let log = subst (λ (file : List ℕ). IsReadLog c.args.node file c.in-Ok-new.opened.llsns.items c.read_batches.new.llsns.items c.in-Ok-read_batches.place c.in-Ok-read_batches.last) (sym read.quiet.same) (read.exact still size) in
    is_opened c.args.node c.in-Ok-read_batches.place c.in-Ok-read_batches.last (g.D.Disk.seen c.read_batches.new.disk) c.in-Ok-new.opened.llsns.items c.read_batches.new.llsns.items (g.D.Disk.image c.read_batches.new.disk) c.move_to.new.self log c.in-Ok-new.ensures.llsns
    (c.move_to.ensures ∙ ap (λ (tail : TailView). record tail { place = c.in-Ok-read_batches.place; last = c.in-Ok-read_batches.last }) c.in-Ok-new.ensures.tail)
    (λ left is_left. synced.safe tells left (read.quiet.no_new left is_left) ∙ sym (read.quiet.same ∙ synced.quiet.same))
