use Rattle.std.proofs.Common.{◌≡◌, ℕ, ◌+◌, ap, arith}
use Rattle.mp_model.specs.declared.transcripts.Part.{Part}
use Rattle.mp_lineup.proofs.MoreMembers.{first_and_rest}
use Rattle.mp_cluster.proofs.PartsOfLists.{numbers_push, parts_push}
use Rattle.mp_cluster.proofs.transcripts.parts_of.Goals as goal

pub loop-place-preserved : goal.loop-place-preserved
loop-place-preserved c =
    let l = c.loop-place in
    let first = first_and_rest l.lists.items c.remove-answers.new.self.items c.remove-answers.result (grind arith) c.remove-answers.ensures.value c.remove-answers.ensures.items in
    let next : l.primary + 1 ≡ l._place + 1 = ap (λ (n : ℕ). n + 1) l.invariant.numbered in
    let part : Part = record { primary = l.primary + 1; answers = c.remove-answers.result } in
    record {
      left = let len = c.remove-answers.ensures.len in let left = l.invariant.left in omega (arith, len, left);
      numbered = next;
      primaries = numbers_push l.parts.items c.push.new.self.items l._place part l.invariant.primaries next c.in_ok-push.ensures.ok;
      answers = parts_push l.parts.items c.push.new.self.items c.args.lists.items l.lists.items c.remove-answers.new.self.items part l.invariant.answers first c.in_ok-push.ensures.ok;
    }
