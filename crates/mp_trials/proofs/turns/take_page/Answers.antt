use Rattle.std.proofs.Common.{List, length, refl, ap, ◌∙◌, arith}
use Rattle.mp_buffer_fusion.specs.declared.buffer.Buffer.{Buffer}
use Rattle.mp_trials.proofs.Forced.{keeps_same, keeps_then}
use Rattle.mp_trials.proofs.Tries.{forced_kept}
use Rattle.mp_trials.proofs.turns.take_page.Goals as goal

pub loop-init : goal.loop-init
loop-init g c = record {
  run = c.requires.run;
  frames = refl;
  keeps = keeps_same c.args.p c.args.node.now c.args.node.now refl;
  same = refl;
  agrees = c.requires.agrees;
  others = λ k has. has;
}

pub try_page-requires-clause-forced : goal.try_page-requires-clause-forced
try_page-requires-clause-forced g c = forced_kept c.args.p c.args.node.now c.loop.node c.loop.invariant.keeps c.requires.forced

pub try_page-requires-clause-room : goal.try_page-requires-clause-room
try_page-requires-clause-room g c = let len = ap (λ (l : List Buffer). length l) c.loop.invariant.same in omega (arith, len, c.requires.room)

pub returns-in_default-clause-keeps : goal.returns-in_default-clause-keeps
returns-in_default-clause-keeps g c = keeps_then c.args.p c.args.node.now c.loop.node _ c.loop.invariant.keeps c.in_default.ensures.keeps

pub returns-in_default-clause-others : goal.returns-in_default-clause-others
returns-in_default-clause-others g c k has = c.in_default.ensures.others k (c.loop.invariant.others k has)

pub returns-in_default-clause-room : goal.returns-in_default-clause-room
returns-in_default-clause-room g c = let len = ap (λ (l : List Buffer). length l) c.loop.invariant.same in let room = c.in_default.ensures.room in omega (arith, len, room)

pub loop-preserved : goal.loop-preserved
loop-preserved g c =
    let i = c.loop.invariant in
    let tried = c.in-Err.ensures in
    record {
      run = tried.keeps.run ∙ i.run;
      frames = tried.keeps.frames ∙ i.frames;
      keeps = keeps_then c.args.p c.args.node.now c.loop.node _ i.keeps tried.keeps;
      same = tried.refused ∙ i.same;
      agrees = tried.agrees;
      others = λ k has. tried.others k (i.others k has);
    }

pub try_page-requires-2-clause-forced : goal.try_page-requires-2-clause-forced
try_page-requires-2-clause-forced g c = forced_kept c.args.p c.args.node.now c.loop.node c.loop.invariant.keeps c.requires.forced

pub try_page-requires-2-clause-room : goal.try_page-requires-2-clause-room
try_page-requires-2-clause-room g c = let len = ap (λ (l : List Buffer). length l) c.loop.invariant.same in omega (arith, len, c.requires.room)

pub returns-clause-keeps : goal.returns-clause-keeps
returns-clause-keeps g c = keeps_then c.args.p c.args.node.now c.loop.node _ c.loop.invariant.keeps c.try_page-2.ensures.keeps

pub returns-clause-others : goal.returns-clause-others
returns-clause-others g c k has = c.try_page-2.ensures.others k (c.loop.invariant.others k has)

pub returns-clause-room : goal.returns-clause-room
returns-clause-room g c = let len = ap (λ (l : List Buffer). length l) c.loop.invariant.same in let room = c.try_page-2.ensures.room in omega (arith, len, room)
