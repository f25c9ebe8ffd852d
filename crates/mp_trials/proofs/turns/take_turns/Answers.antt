use Rattle.std.proofs.Common.{refl, ◌∙◌}
use Rattle.mp_trials.proofs.Forced.{keeps_same, keeps_then}
use Rattle.mp_trials.proofs.Tries.{forced_kept}
use Rattle.mp_trials.proofs.turns.take_turns.Goals as goal

pub loop-turn-init : goal.loop-turn-init
loop-turn-init g c = record {
  run = c.requires.run;
  frames = c.requires.frames;
  keeps = keeps_same c.args.p c.args.node.now c.args.node.now refl;
  pool = c.requires.pool;
  agrees = c.requires.agrees;
}

pub take_turn-requires-clause-forced : goal.take_turn-requires-clause-forced
take_turn-requires-clause-forced g c = forced_kept c.args.p c.args.node.now c.loop-turn.node c.loop-turn.invariant.keeps c.requires.forced

pub loop-turn-preserved : goal.loop-turn-preserved
loop-turn-preserved g c =
    let i = c.loop-turn.invariant in
    let turn = c.take_turn.ensures in
    record {
      run = turn.keeps.run ∙ i.run;
      frames = turn.keeps.frames ∙ i.frames;
      keeps = keeps_then c.args.p c.args.node.now c.loop-turn.node _ i.keeps turn.keeps;
      pool = turn.pool c.if-not-take_turn.false;
      agrees = turn.agrees c.if-not-take_turn.false;
    }
