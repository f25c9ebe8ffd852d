use Rattle.std.proofs.Common.{Some, refl, ap, sym, ◌∙◌}
use Rattle.mp_model.specs.declared.waiting.Turn.TheVariants as turns
use Rattle.mp_primary.specs.Primaries.{PrimaryView}
use Rattle.mp_primary.proofs.QuietTurns.{stopped_turn, done_turn, no_statement, nothing_left}
use Rattle.mp_primary.proofs.TakenTurns.{taken_still}
use Rattle.mp_primary.proofs.primary.Primary.nothing_left.Goals as goal

pub returns-then-self-ne0 : goal.returns-then-self-ne0
returns-then-self-ne0 g c = λ run n number s stands told found nothing may.
    taken_still g.D.Disk run c.args.self.now c.args.self.now n (Some number) (turns.Stopped c.self.inside.down) stands told
    (stopped_turn g.D.Disk run c.args.self.now n stands (Some number) may c.self.inside.down (ap (λ (v : PrimaryView g.row.D.Denot). v.down) c.self.view_is) c.if-self-ne0.true (no_statement g.D.Disk c.args.self.now number s found nothing)) refl tt

pub returns-else-self-ne0 : goal.returns-else-self-ne0
returns-else-self-ne0 g c = λ run n number s stands told found nothing may.
    taken_still g.D.Disk run c.args.self.now c.args.self.now n (Some number) turns.Done stands told
    (done_turn g.D.Disk run c.args.self.now n stands (Some number) may (sym (ap (λ (v : PrimaryView g.row.D.Denot). v.down) c.self.view_is) ∙ c.if-self-ne0.false) (nothing_left g.D.Disk c.args.self.now number s found nothing)) refl tt
