-- The log at the place was replaced by the emptied one.
use Rattle.std.proofs.Common.{◌≡◌, IsTrue, [], Some, length, slice_get, slice_set, refl}
use Rattle.std.proofs.lemmas.Option.{slice_get_read}
use Rattle.mp_files.specs.Nine.{At, DiskRose, RoseAt}
use Rattle.mp_log.specs.Logs.{HoldsOnly}
use Rattle.mp_checkpoint.specs.Emptying.{MayEmpty, DidEmpty}
use Rattle.mp_checkpoint.proofs.Logs.{replaced, rose_there, done_when, failed_so, done_so}
use Rattle.mp_checkpoint.proofs.emptying.reset_at.Goals as goal

pub returns-clause-may : goal.returns-clause-may
returns-clause-may g c =
    let disk = g.D.Disk in
    let logs = c.args.logs.now.items in
    let was = c.index_mut.result.now in
    let at : slice_get logs c.args.place ≡ Some was = slice_get_read logs (length logs) c.args.place was refl c.requires c.index_mut.ensures.value in
    replaced (MayEmpty disk) logs c.args.place was c.reset.new.disk at
    (record { still = record { tells = c.reset.ensures.tells; count = c.reset.ensures.counts.no_fall }; either = c.reset.ensures.either })

pub returns-clause-did : goal.returns-clause-did
returns-clause-did g c =
    let disk = g.D.Disk in
    let logs = c.args.logs.now.items in
    let was = c.index_mut.result.now in
    let put = c.reset.new.disk in
    let at : slice_get logs c.args.place ≡ Some was = slice_get_read logs (length logs) c.args.place was refl c.requires c.index_mut.ensures.value in
    let may : MayEmpty disk was put = record { still = record { tells = c.reset.ensures.tells; count = c.reset.ensures.counts.no_fall }; either = c.reset.ensures.either } in
    done_so c.reset.result (IsTrue (disk.tells was) → HoldsOnly [] (disk.image put)) (At (DidEmpty disk) logs (slice_set logs c.args.place put) c.args.place)
    (λ emptied. replaced (DidEmpty disk) logs c.args.place was put at (record { may = may; emptied = emptied }))
    (done_when c.reset.result (IsTrue (disk.tells was)) (HoldsOnly [] (disk.image put)) c.reset.ensures.emptied)

pub returns-clause-cause : goal.returns-clause-cause
returns-clause-cause g c =
    let disk = g.D.Disk in
    let logs = c.args.logs.now.items in
    let was = c.index_mut.result.now in
    let put = c.reset.new.disk in
    let at : slice_get logs c.args.place ≡ Some was = slice_get_read logs (length logs) c.args.place was refl c.requires c.index_mut.ensures.value in
    failed_so c.reset.result (DiskRose disk was put) (RoseAt disk c.args.place logs (slice_set logs c.args.place put)) (rose_there disk logs c.args.place was put at) c.reset.ensures.counts.cause
