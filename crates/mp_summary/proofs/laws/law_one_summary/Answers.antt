use Rattle.mp_summary.proofs.OneSummary.{one_summary}
use Rattle.mp_summary.proofs.laws.law_one_summary.Goals as goal

pub returns : goal.returns
returns c = λ number script opening transcript made legal none_down room.
    one_summary number script opening transcript (record { made = made; legal = legal; none_down = none_down; room = room; spelled = c.law_generated.ensures.spelled number script made; own = c.law_generated.ensures.own_keys number })
    (c.law_generated.ensures.count number) (c.law_generated.ensures.each_key number)
