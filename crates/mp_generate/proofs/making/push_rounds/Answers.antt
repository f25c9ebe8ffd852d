use Rattle.std.proofs.Common.{◌++◌, arith}
use Rattle.mp_generate.specs.Generated.{round_lines, generated_lines}
use Rattle.mp_generate.proofs.Filling.{extended}
use Rattle.mp_generate.proofs.making.push_rounds.Goals as goal

pub loop-round-preserved : goal.loop-round-preserved
loop-round-preserved c =
    let f = round_lines c.args.number in
    let all = c.args.lines.now.items ++ generated_lines c.args.number in
    let items = c.loop-round.lines.items in
    record {
      positive = omega arith;
      within = omega (arith, c.loop-round-test.true);
      added = extended f c.loop-round.round 48 items c.push_round.new.lines.items all c.loop-round-test.true
          c.in_ok-push_round.ensures c.loop-round.invariant.added;
    }
