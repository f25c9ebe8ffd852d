-- One record more.
use Rattle.mp_recover.proofs.FoundMore.{versions_next}
use Rattle.mp_recover.proofs.found.newest_version.Goals as goal

pub loop-item-preserved : goal.loop-item-preserved
loop-item-preserved c =
    versions_next c.args.most c.loop-item.newest c.version_in_record-newest.result c.args.items.now c.loop-item.item-index c.item-item.result c.loop-item-test.true c.item-item.is c.version_in_record-newest.ensures c.loop-item.invariant
