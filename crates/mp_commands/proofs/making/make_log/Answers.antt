-- The log at the place was replaced by the fresh one.
use Rattle.std.proofs.Common.{◌≡◌, [], ◌∷◌, IsTrue, Some, length, slice_get, slice_set, refl}
use Rattle.std.proofs.lemmas.Option.{slice_get_read}
use Rattle.mp_outside.specs.Disks.{Only}
use Rattle.mp_files.specs.Nine.{At, StillDisk, DiskRose, RoseAt}
use Rattle.mp_commands.specs.Fresh.{MadeLog}
use Rattle.mp_commands.proofs.MadeLogs.{replaced, rose_there, both_done, failed_so, done_so}
use Rattle.mp_commands.proofs.making.make_log.Goals as goal

pub returns-clause-made : goal.returns-clause-made
returns-clause-made g c =
    let disk = g.D.Disk in
    let logs = c.args.logs.now.items in
    let was = c.index_mut.result.now in
    let put = c.init.new.disk in
    let at : slice_get logs c.args.place ≡ Some was = slice_get_read logs (length logs) c.args.place was refl c.requires c.index_mut.ensures.value in
    done_so c.init.result (MadeLog disk was put) (At (MadeLog disk) logs (slice_set logs c.args.place put) c.args.place) (replaced (MadeLog disk) logs c.args.place was put at)
    (both_done c.init.result (IsTrue (disk.tells was)) (disk.seen put ≡ 0 ∷ []) (Only (disk.seen put) (disk.image put)) c.init.ensures.fresh c.init.ensures.safe)

pub returns-clause-cause : goal.returns-clause-cause
returns-clause-cause g c =
    let disk = g.D.Disk in
    let logs = c.args.logs.now.items in
    let was = c.index_mut.result.now in
    let put = c.init.new.disk in
    let at : slice_get logs c.args.place ≡ Some was = slice_get_read logs (length logs) c.args.place was refl c.requires c.index_mut.ensures.value in
    failed_so c.init.result (DiskRose disk was put) (RoseAt disk c.args.place logs (slice_set logs c.args.place put)) (rose_there disk logs c.args.place was put at) c.init.ensures.counts.cause

pub returns-clause-still : goal.returns-clause-still
returns-clause-still g c =
    let disk = g.D.Disk in
    let logs = c.args.logs.now.items in
    let was = c.index_mut.result.now in
    let at : slice_get logs c.args.place ≡ Some was = slice_get_read logs (length logs) c.args.place was refl c.requires c.index_mut.ensures.value in
    replaced (StillDisk disk) logs c.args.place was c.init.new.disk at (record { tells = c.init.ensures.tells; count = c.init.ensures.counts.no_fall })
