-- The first batch with a fault decides; without one the rest goes on.
use Rattle.std.proofs.Common.{◌≡◌, ◌+◌, ◌-◌, ◌≤◌, Option, suc, List, ℕ, IsTrue, length, subst, Ok, Err, refl, ◌∙◌, sym, ap, arith}
use Rattle.std.specs.Prelude.{IfSome}
use Rattle.mp_outside.proofs.Quiets.{Quiet-refl, Quiet-trans}
use Rattle.mp_log.specs.Opening.{last_or, IsTied}
use Rattle.mp_log.specs.Reading.{Nexts, IsNextBatch}
use Rattle.mp_log.proofs.Opened.{batches_first, batches_refused, batches_more}
use Rattle.mp_log.proofs.opening.read_batches.Goals as goal

pub returns-in-Err-clause-exact : goal.returns-in-Err-clause-exact
returns-in-Err-clause-exact g c = λ tells same.
    let file = g.D.Disk.seen c.args.disk.now in
    let before = c.loop.invariant in
    let still : IsTrue (g.D.Disk.tells c.loop.disk) = rw before.tells tells in
    let left : c.args.size + 1 - c.loop.counter ≡ suc (c.args.size + 1 - (c.loop.counter + 1)) = omega (arith, c.loop-test.true) in
    let found = subst (λ (f : List ℕ). Nexts c.args.node c.loop.last f c.loop.gate c.loop.llsns.items c.next_batch.new.llsns.items (Err c.in-Err.refusal)) before.quiet.same (c.in-Err.ensures.exact still (same ∙ ap length (sym before.quiet.same))) in
    batches_refused c.args.node file c.args.llsns.now.items (c.args.size + 1 - c.loop.counter) (c.args.size + 1 - (c.loop.counter + 1)) c.loop.gate c.loop.last c.loop.llsns.items (before.so_far tells same) left c.in-Err.refusal c.loop.llsns.items c.next_batch.new.llsns.items c.next_batch.new.llsns.items found

pub loop-preserved : goal.loop-preserved
loop-preserved g c = let before = c.loop.invariant in record {
  tells = c.in-Ok-Some.ensures.tells ∙ before.tells;
  quiet = Quiet-trans before.quiet c.in-Ok-Some.ensures.quiet;
  so_far = λ tells same.
      let file = g.D.Disk.seen c.args.disk.now in
      let still : IsTrue (g.D.Disk.tells c.loop.disk) = rw before.tells tells in
      let left : c.args.size + 1 - c.loop.counter ≡ suc (c.args.size + 1 - (c.loop.counter + 1)) = omega (arith, c.loop-test.true) in
      let told = subst (λ (next : Option (ℕ × ℕ)). Nexts c.args.node c.loop.last (g.D.Disk.seen c.loop.disk) c.loop.gate c.loop.llsns.items c.next_batch.new.llsns.items (Ok next)) c.in-Ok-Some.field-0-is (c.in-Ok-Some.ensures.exact still (same ∙ ap length (sym before.quiet.same))) in
      let found = subst (λ (f : List ℕ). IsNextBatch c.args.node c.loop.last f c.loop.gate c.loop.llsns.items c.next_batch.new.llsns.items c.in-Ok-Some.count c.in-Ok-Some.end) before.quiet.same told in
      batches_more c.args.node file c.args.llsns.now.items (c.args.size + 1 - c.loop.counter) (c.args.size + 1 - (c.loop.counter + 1)) c.loop.gate c.loop.last c.loop.llsns.items (before.so_far tells same) left c.in-Ok-Some.count c.in-Ok-Some.end _ c.next_batch.new.llsns.items found refl;
  within =
      let fits : c.loop.gate + (6 + c.in-Ok-Some.count) ≤ c.args.size = subst (λ (found : Option (ℕ × ℕ)). IfSome found (λ next. c.loop.gate + (6 + next.0) ≤ c.args.size)) c.in-Ok-Some.field-0-is c.in-Ok-Some.ensures.within in
      omega (arith, fits);
  room = c.in-Ok-Some.ensures.whole;
  known = c.in-Ok-Some.ensures.known ∙ before.known;
  tied = λ first. subst (λ (next : Option (ℕ × ℕ)). IsTied (last_or c.loop.last next) c.next_batch.new.llsns.items) c.in-Ok-Some.field-0-is (c.in-Ok-Some.ensures.tied (before.tied first));
  counted = omega (arith, before.counted, c.in-Ok-Some.ensures.count);
}

pub loop-init : goal.loop-init
loop-init g c = record {
  tells = refl;
  quiet = Quiet-refl;
  so_far = λ tells same. batches_first c.args.node (c.args.size + 1 - 0) (g.D.Disk.seen c.args.disk.now) c.args.llsns.now.items (omega (arith, same));
  within = omega arith;
  room = c.requires.room;
  known = refl;
  tied = λ tied. tied;
  counted = omega arith;
}
