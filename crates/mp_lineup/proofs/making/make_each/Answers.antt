use Rattle.std.proofs.Common.{ℕ, ◌+◌, ◌≤◌, ◌∷◌, ◌++◌, map, sym, ap, subst, ◌∙◌, arith}
use Rattle.mp_book.proofs.Spelled.{orderly_spelled}
use Rattle.mp_lineup.specs.LiningUp.{work_over}
use Rattle.mp_lineup.specs.NewMembers.{AreNewMembers, IsNewMember}
use Rattle.mp_lineup.proofs.FirstLogs.{first_log, few_lines}
use Rattle.mp_lineup.proofs.MoreMembers.{first_and_rest, members_push, with_first, logs_push, log_from}
use Rattle.mp_lineup.proofs.making.make_each.Goals as goal

pub new-requires-clause-orderly : goal.new-requires-clause-orderly
new-requires-clause-orderly g c = orderly_spelled c.args.script.now c.requires.spelled

pub new-requires-clause-few : goal.new-requires-clause-few
new-requires-clause-few g c = few_lines c.args.script.now c.requires.spelled

pub new-requires-clause-log : goal.new-requires-clause-log
new-requires-clause-log g c =
    let l = c.loop-place in
    let first = first_and_rest l.logs.items c.remove-log.new.self.items c.remove-log.result (grind arith) c.remove-log.ensures.value c.remove-log.ensures.items in
    let count = sym l.primaries.ok.0 ∙ l.invariant.count in
    first_log g.D.Disk (work_over c.args.script.now c.args.base) (l.place + 1) c.remove-log.result
    (log_from l.primaries.items c.args.logs.now.items l.logs.items c.remove-log.new.self.items c.remove-log.result l.invariant.logs first g.D.Disk c.args.base.llsn l.place count (c.requires.logs l.place))

pub returns-in-Err-clause-unmade : goal.returns-in-Err-clause-unmade
returns-in-Err-clause-unmade g c =
    let l = c.loop-place in
    let first = first_and_rest l.logs.items c.remove-log.new.self.items c.remove-log.result (grind arith) c.remove-log.ensures.value c.remove-log.ensures.items in
    ap (λ log. map (λ pr. pr.media.log) l.primaries.items ++ log ∷ c.remove-log.new.self.items) c.in-Err.ensures.unmade
    ∙ with_first l.primaries.items c.args.logs.now.items l.logs.items c.remove-log.new.self.items c.remove-log.result l.invariant.logs first

pub loop-place-preserved : goal.loop-place-preserved
loop-place-preserved g c =
    let l = c.loop-place in
    let first = first_and_rest l.logs.items c.remove-log.new.self.items c.remove-log.result (grind arith) c.remove-log.ensures.value c.remove-log.ensures.items in
    let count = sym l.primaries.ok.0 ∙ l.invariant.count in
    let work = work_over c.args.script.now c.args.base in
    let new : IsNewMember g.D.Disk work (l.place + 1) c.in-Ok.primary = record {
      number = c.in-Ok.ensures.number;
      work_is = c.in-Ok.ensures.work;
      up = c.in-Ok.ensures.up;
      primary = c.in-Ok.ensures.primary;
      none = c.in-Ok.ensures.none;
      agrees = c.in-Ok.ensures.agrees;
      told = c.in-Ok.ensures.told;
      may_turn = c.in-Ok.ensures.sessions;
    } in
    record {
      made = subst (λ primaries. AreNewMembers g.D.Disk work primaries) (sym c.push_reserved.ensures.items)
          (members_push g.D.Disk work l.primaries.items c.in-Ok.primary l.invariant.made (subst (λ (k : ℕ). IsNewMember g.D.Disk work (k + 1) c.in-Ok.primary) (sym count) new));
      count = c.push_reserved.ensures.len ∙ ap (λ (k : ℕ). k + 1) l.invariant.count;
      left = let len = c.remove-log.ensures.len in let left = l.invariant.left in omega (arith, len, left);
      logs = ap (λ primaries. map (λ pr. pr.media.log) primaries ++ c.remove-log.new.self.items) c.push_reserved.ensures.items
          ∙ logs_push l.primaries.items c.args.logs.now.items l.logs.items c.remove-log.new.self.items c.remove-log.result l.invariant.logs first c.in-Ok.primary c.in-Ok.ensures.disk;
      room = subst (λ (k : ℕ). c.args.script.now.primaries ≤ k) (sym c.push_reserved.ensures.capacity) l.invariant.room;
    }
