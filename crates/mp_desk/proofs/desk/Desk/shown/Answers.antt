use Rattle.std.proofs.Common.{arith}
use Rattle.mp_desk.proofs.AtDesk.{wait_later}
use Rattle.mp_desk.proofs.Moving.{looks_go}
use Rattle.mp_desk.proofs.Looking.{look_both}
use Rattle.mp_desk.proofs.ShownWalk.{passed_none, passed_reads, passed_writer, passed_few, sight_looks, sight_seen, sight_prep, hidden_lies, hidden_afresh, passed_more}
use Rattle.mp_desk.proofs.desk.Desk.shown.Goals as goal

pub loop-passed-init : goal.loop-passed-init
loop-passed-init g c = passed_none c.args.shared.now c.args.p c.args.trx c.args.newest c.args.self.now c.args.node.now c.requires.desk c.requires.newest c.requires.kept

pub sight-requires-clause-reader : goal.sight-requires-clause-reader
sight-requires-clause-reader g c = passed_reads c.args.shared.now c.args.p c.args.trx c.args.newest c.args.self.now c.args.node.now c.requires.desk c.requires.newest c.loop-passed.row c.loop-passed._passed c.loop-passed.self c.loop-passed.node c.loop-passed.invariant c.requires.reader

pub sight-requires-clause-begun : goal.sight-requires-clause-begun
sight-requires-clause-begun g c = passed_writer c.args.shared.now c.args.p c.args.trx c.args.newest c.args.self.now c.args.node.now c.requires.desk c.requires.newest c.loop-passed.row c.loop-passed._passed c.loop-passed.self c.loop-passed.node c.loop-passed.invariant

pub returns-in-Seen-clause-looks : goal.returns-in-Seen-clause-looks
returns-in-Seen-clause-looks g c = sight_looks c.args.shared.now c.args.p c.args.trx c.args.newest c.args.self.now c.args.node.now c.requires.desk c.requires.newest c.loop-passed.row c.loop-passed._passed c.loop-passed.self c.loop-passed.node c.loop-passed.invariant c.sight.new.node c.sight.ensures.desk c.sight.ensures.brings

pub returns-in-Seen-clause-seen : goal.returns-in-Seen-clause-seen
returns-in-Seen-clause-seen g c = sight_seen c.args.shared.now c.args.p c.args.trx c.args.newest c.args.self.now c.args.node.now c.requires.desk c.requires.newest c.loop-passed.row c.loop-passed._passed c.loop-passed.self c.loop-passed.node c.loop-passed.invariant c.sight.new.node c.sight.ensures.desk c.sight.ensures.brings c.in-Seen.ensures.sight

pub returns-in-Prep-clause-looks : goal.returns-in-Prep-clause-looks
returns-in-Prep-clause-looks g c = sight_looks c.args.shared.now c.args.p c.args.trx c.args.newest c.args.self.now c.args.node.now c.requires.desk c.requires.newest c.loop-passed.row c.loop-passed._passed c.loop-passed.self c.loop-passed.node c.loop-passed.invariant c.sight.new.node c.sight.ensures.desk c.sight.ensures.brings

pub returns-in-Prep-clause-cause : goal.returns-in-Prep-clause-cause
returns-in-Prep-clause-cause g c = sight_prep c.args.shared.now c.args.p c.args.trx c.args.newest c.args.self.now c.args.node.now c.requires.desk c.requires.newest c.loop-passed.row c.loop-passed._passed c.loop-passed.self c.loop-passed.node c.loop-passed.invariant c.sight.new.node c.sight.ensures.desk c.sight.ensures.brings c.in-Prep.id c.in-Prep.ensures.sight

pub older-requires-clause-afresh : goal.older-requires-clause-afresh
older-requires-clause-afresh g c = hidden_afresh c.args.shared.now c.args.p c.args.trx c.args.newest c.args.self.now c.args.node.now c.requires.desk c.requires.newest c.loop-passed.row c.loop-passed._passed c.loop-passed.self c.loop-passed.node c.loop-passed.invariant c.sight.new.node c.sight.ensures.desk c.sight.ensures.brings c.in-Hidden.ensures.sight c.requires.afresh

pub older-requires-clause-lies : goal.older-requires-clause-lies
older-requires-clause-lies g c = hidden_lies c.args.shared.now c.args.p c.args.trx c.args.newest c.args.self.now c.args.node.now c.requires.desk c.requires.newest c.loop-passed.row c.loop-passed._passed c.loop-passed.self c.loop-passed.node c.loop-passed.invariant c.sight.new.node c.sight.ensures.desk c.sight.ensures.brings c.in-Hidden.ensures.sight c.in-Some.link c.in-Some.is

pub returns-in-Err-clause-looks : goal.returns-in-Err-clause-looks
returns-in-Err-clause-looks g c = look_both c.args.p c.args.self.now c.loop-passed.self c.older.new.self c.args.node.now c.sight.new.node c.older.new.node (sight_looks c.args.shared.now c.args.p c.args.trx c.args.newest c.args.self.now c.args.node.now c.requires.desk c.requires.newest c.loop-passed.row c.loop-passed._passed c.loop-passed.self c.loop-passed.node c.loop-passed.invariant c.sight.new.node c.sight.ensures.desk c.sight.ensures.brings) c.older.ensures.looks

pub returns-in-Err-clause-cause : goal.returns-in-Err-clause-cause
returns-in-Err-clause-cause g c = wait_later c.args.p c.args.node.now c.sight.new.node c.older.new.node c.in-Err.wait (looks_go c.args.p c.args.node.now c.sight.new.node (sight_looks c.args.shared.now c.args.p c.args.trx c.args.newest c.args.self.now c.args.node.now c.requires.desk c.requires.newest c.loop-passed.row c.loop-passed._passed c.loop-passed.self c.loop-passed.node c.loop-passed.invariant c.sight.new.node c.sight.ensures.desk c.sight.ensures.brings).looked) c.in-Err.ensures.cause

pub loop-passed-preserved : goal.loop-passed-preserved
loop-passed-preserved g c = passed_more c.args.shared.now c.args.p c.args.trx c.args.newest c.args.self.now c.args.node.now c.requires.desk c.requires.newest c.loop-passed.row c.loop-passed._passed c.loop-passed.self c.loop-passed.node c.loop-passed.invariant c.sight.new.node c.sight.ensures.desk c.sight.ensures.brings c.in-Hidden.ensures.sight c.in-Some.link c.in-Some.is c.in-Ok.next c.older.new.self c.older.new.node c.older.ensures.desk c.older.ensures.looks c.in-Ok.ensures.kept c.in-Ok.ensures.record

pub unreachable-requires-2 : goal.unreachable-requires-2
unreachable-requires-2 g c = let few = passed_few c.args.shared.now c.args.p c.args.trx c.args.newest c.args.self.now c.args.node.now c.requires.desk c.requires.newest c.loop-passed.row c.loop-passed._passed c.loop-passed.self c.loop-passed.node c.loop-passed.invariant in let past = c.loop-passed-test.false in absurd (omega (arith, few, past))
