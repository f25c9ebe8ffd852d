use Rattle.std.proofs.Common.{None, refl, ap, sym, ◌∙◌}
use Rattle.mp_model.specs.declared.waiting.Turn.TheVariants as turns
use Rattle.mp_book.specs.Through.{have_no_task}
use Rattle.mp_primary.specs.Primaries.{PrimaryView}
use Rattle.mp_primary.proofs.QuietTurns.{stopped_turn, done_turn, resting_turn}
use Rattle.mp_primary.proofs.TakenTurns.{taken_still}
use Rattle.mp_primary.proofs.primary.Primary.rest.Goals as goal

pub returns-then-self-ne0 : goal.returns-then-self-ne0
returns-then-self-ne0 g c = λ run n stands told.
    taken_still g.D.Disk run c.args.self.now c.args.self.now n None (turns.Stopped c.self.inside.down) stands told
    (stopped_turn g.D.Disk run c.args.self.now n stands None tt c.self.inside.down (ap (λ (v : PrimaryView g.row.D.Denot). v.down) c.self.view_is) c.if-self-ne0.true tt) refl tt

pub returns-then-is_through : goal.returns-then-is_through
returns-then-is_through g c = λ run n stands told.
    let view = c.self.view_is in
    taken_still g.D.Disk run c.args.self.now c.args.self.now n None turns.Done stands told
    (done_turn g.D.Disk run c.args.self.now n stands None tt (sym (ap (λ (v : PrimaryView g.row.D.Denot). v.down) view) ∙ c.if-self-ne0.false)
    (sym (ap (λ (v : PrimaryView g.row.D.Denot). have_no_task v.book.sessions.items) view) ∙ sym c.if-is_through.ensures)) refl tt

pub returns-else-is_through : goal.returns-else-is_through
returns-else-is_through g c = λ run n stands told.
    let view = c.self.view_is in
    taken_still g.D.Disk run c.args.self.now c.args.self.now n None turns.Answered stands told
    (resting_turn g.D.Disk run c.args.self.now n stands (sym (ap (λ (v : PrimaryView g.row.D.Denot). v.down) view) ∙ c.if-self-ne0.false)
    (sym (ap (λ (v : PrimaryView g.row.D.Denot). have_no_task v.book.sessions.items) view) ∙ sym c.if-is_through.ensures)) refl tt
