use Rattle.std.proofs.Common.{false, Some, refl, sym, subst}
use Rattle.mp_desk.specs.Making.{IsOpenLog}
use Rattle.mp_desk_tests.proofs.FirstParts.{at_first_desk}
use Rattle.mp_desk_tests.proofs.FirstMedia.{media_first}
use Rattle.mp_changes.specs.Changing.{changed_text}
use Rattle.mp_changes.proofs.FirstTurns.{none_put, none_held, nothing_done}
use Rattle.mp_changes.proofs.change_runs.changes_of.Goals as goal

pub change_in_turn-turns-requires-clause-may : goal.change_in_turn-turns-requires-clause-may
change_in_turn-turns-requires-clause-may g c =
    let new = c.in-Ok.ensures in
    let begun = c.begin_one-trx.ensures in
    record {
      at_desk = at_first_desk c.begin_one-trx.new.node c.args.p c.in-Ok.desk begun.fresh new.0 c.args.shared.now begun.node.0 begun.node.1
          begun.reached new.1 new.2;
      own = new.4;
      empty = new.0;
      reads = begun.reads;
      left = none_held c.begin_one-trx.new.node c.args.p begun.fresh;
      log = subst (λ llsn. IsOpenLog c.args.p llsn c.in-Some.log) (sym new.1) c.in-Some.ensures.takes;
      agrees = media_first g.D.Disk (record { log = c.in-Some.log; unforced = false }) c.args.p c.begin_one-trx.new.node begun.fresh
          c.in-Some.ensures refl;
    }

pub change_in_turn-turns-requires-clause-none : goal.change_in_turn-turns-requires-clause-none
change_in_turn-turns-requires-clause-none g c =
    none_put c.begin_one-trx.new.node c.args.p c.begin_one-trx.ensures.fresh c.args.key (Some changed_text)

-- where it stopped before the first put

pub returns-in_default : goal.returns-in_default
returns-in_default g c = nothing_done c.args.p c.args.key c.args.count c.begin_one-trx.new.node
    (none_put c.begin_one-trx.new.node c.args.p c.begin_one-trx.ensures.fresh c.args.key (Some changed_text))

pub returns-in_default-new : goal.returns-in_default-new
returns-in_default-new g c = nothing_done c.args.p c.args.key c.args.count c.begin_one-trx.new.node
    (none_put c.begin_one-trx.new.node c.args.p c.begin_one-trx.ensures.fresh c.args.key (Some changed_text))

-- what its turns came to

pub returns : goal.returns
returns g c =
    let turns = c.change_in_turn-turns.ensures in
    c.ended_of.ensures c.args.p c.args.key c.args.count turns.most turns.put turns.all (λ again. (turns.may again).left) turns.cause
