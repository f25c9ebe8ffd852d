use Rattle.std.proofs.Common.{refl, arith}
use Rattle.std.proofs.lemmas.Grind.{common_steps}
use Rattle.mp_book.specs.declared.stage.Stage.TheVariants.{Closed, Open, Refused, Leaving, Skipping, Outside}
use Rattle.mp_primary.proofs.StagedTurns.{place_below, its_stage, goes_back}
use Rattle.mp_primary.proofs.primary.Primary.try_stage.Goals as goal

pub index-requires : goal.index-requires
index-requires g c =
    let own = c.requires.comes in
    let below = place_below _ c.args.self.now c.self.view_is c.args.number own.0 own.1.next.found in
    grind (arith, common_steps, below)

pub begin_trx-requires-clause-comes : goal.begin_trx-requires-clause-comes
begin_trx-requires-clause-comes g c =
    let own = c.requires.comes in
    (own.0, own.1, its_stage _ c.args.self.now c.self.view_is c.args.number own.0 own.1.next.found c.index.result.now c.index.ensures Closed c.in-Closed.is)

pub go_on-requires : goal.go_on-requires
go_on-requires g c =
    let own = c.requires.comes in
    record {
      tries = record {
        session = own.0;
        line = c.args.line;
        comes = own.1;
        up = c.requires.up;
        stage = its_stage _ c.args.self.now c.self.view_is c.args.number own.0 own.1.next.found c.index.result.now c.index.ensures (Open c.in-Open.trx) c.in-Open.is;
        stmt_is = refl;
      };
    }

pub take_back-requires-clause-comes : goal.take_back-requires-clause-comes
take_back-requires-clause-comes g c =
    let own = c.requires.comes in (
      own.0,
      c.args.line,
      own.1,
      (goes_back _ c.args.self.now c.self.view_is c.args.number own.0 own.1.next.found c.index.result.now c.index.ensures (Refused c.in-Refused.field-0 c.in-Refused.field-1) c.in-Refused.is tt, own.1.inside),
    )

pub take_back-requires-in-Leaving-clause-comes : goal.take_back-requires-in-Leaving-clause-comes
take_back-requires-in-Leaving-clause-comes g c =
    let own = c.requires.comes in (
      own.0,
      c.args.line,
      own.1,
      (goes_back _ c.args.self.now c.self.view_is c.args.number own.0 own.1.next.found c.index.result.now c.index.ensures (Leaving c.in-Leaving.field-0) c.in-Leaving.is tt, own.1.inside),
    )

pub skip-requires-clause-comes : goal.skip-requires-clause-comes
skip-requires-clause-comes g c =
    let own = c.requires.comes in
    (c.args.shared.now, c.args.node.now, own.0, c.args.line, own.1, its_stage _ c.args.self.now c.self.view_is c.args.number own.0 own.1.next.found c.index.result.now c.index.ensures Skipping c.in-Skipping.is)

pub unreachable-requires : goal.unreachable-requires
unreachable-requires g c =
    let own = c.requires.comes in
    own.1.inside c.in-Outside.field-0 (its_stage _ c.args.self.now c.self.view_is c.args.number own.0 own.1.next.found c.index.result.now c.index.ensures (Outside c.in-Outside.field-0) c.in-Outside.is)

pub returns-in-Skipping-clause-turn : goal.returns-in-Skipping-clause-turn
returns-in-Skipping-clause-turn g c = let own = c.requires.comes in c.skip.ensures c.args.shared.now c.args.node.now own.0 c.args.line own.1
