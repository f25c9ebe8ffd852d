-- One row more.
use Rattle.std.proofs.Common.{arith}
use Rattle.mp_recover.specs.Settling.{trx_ids}
use Rattle.mp_recover.proofs.SettledPages.{leaf_count, leaf_most, counted_next}
use Rattle.mp_recover.proofs.versions.count_undone.Goals as goal

pub loop-i-preserved : goal.loop-i-preserved
loop-i-preserved c = record {
  undone = counted_next (trx_ids c.args.ids.now.items) c.args.page.now.rows c.loop-i.i c.loop-i.undone c.undone_one-undone.result c.row.result c.row.ensures.value c.loop-i.invariant.undone c.undone_one-undone.ensures.one;
  most = omega (arith, c.loop-i.invariant.most, c.undone_one-undone.ensures.most);
}

pub returns-clause-most : goal.returns-clause-most
returns-clause-most c =
    omega (arith, c.loop-i.invariant.most, c.loop-i.auto.i-end, c.count-i-end.ensures, leaf_count c.args.page.now c.requires.leaf, leaf_most c.args.page.now c.requires.page c.requires.leaf)
