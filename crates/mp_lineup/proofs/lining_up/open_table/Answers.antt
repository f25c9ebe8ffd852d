use Rattle.std.proofs.Common.{◌≤◌, length, sym, subst}
use Rattle.mp_lineup.proofs.FirstLogs.{few_lines}
use Rattle.mp_lineup.proofs.lining_up.open_table.Goals as goal

pub count_begins-begins-requires : goal.count_begins-begins-requires
count_begins-begins-requires c = subst (λ lines. length lines ≤ 10000) (sym c.as_slice.ensures) (few_lines c.args.script.now c.requires.spelled)
