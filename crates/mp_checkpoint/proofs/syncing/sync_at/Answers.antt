-- The disk at the place was replaced by the synced one.
use Rattle.std.proofs.Common.{◌≡◌, IsTrue, Some, length, slice_get, slice_set, refl}
use Rattle.std.proofs.lemmas.Option.{slice_get_read}
use Rattle.mp_outside.specs.Disks.{Only}
use Rattle.mp_files.specs.Nine.{At, KeptDisk, DiskRose, RoseAt}
use Rattle.mp_checkpoint.specs.Emptying.{IsSynced}
use Rattle.mp_checkpoint.proofs.Logs.{replaced, rose_there, done_when, failed_so, done_so, synced_now}
use Rattle.mp_checkpoint.proofs.syncing.sync_at.Goals as goal

pub returns-clause-kept : goal.returns-clause-kept
returns-clause-kept g c =
    let disk = g.D.Disk in
    let logs = c.args.logs.now.items in
    let was = c.index_mut.result.now in
    let at : slice_get logs c.args.place ≡ Some was = slice_get_read logs (length logs) c.args.place was refl c.requires c.index_mut.ensures.value in
    replaced (KeptDisk disk) logs c.args.place was c.sync.new.self at
    (record { tells = c.sync.ensures.tells; quiet = c.sync.ensures.quiet; count = c.sync.ensures.counts.no_fall })

pub returns-clause-synced : goal.returns-clause-synced
returns-clause-synced g c =
    let disk = g.D.Disk in
    let logs = c.args.logs.now.items in
    let was = c.index_mut.result.now in
    let put = c.sync.new.self in
    let at : slice_get logs c.args.place ≡ Some was = slice_get_read logs (length logs) c.args.place was refl c.requires c.index_mut.ensures.value in
    let kept : KeptDisk disk was put = record { tells = c.sync.ensures.tells; quiet = c.sync.ensures.quiet; count = c.sync.ensures.counts.no_fall } in
    done_so c.sync.result (IsTrue (disk.tells was) → Only (disk.seen was) (disk.image put)) (At (λ old new. IsSynced disk new) logs (slice_set logs c.args.place put) c.args.place)
    (λ safe. replaced (λ old new. IsSynced disk new) logs c.args.place was put at (synced_now disk was put kept safe))
    (done_when c.sync.result (IsTrue (disk.tells was)) (Only (disk.seen was) (disk.image put)) c.sync.ensures.safe)

pub returns-clause-cause : goal.returns-clause-cause
returns-clause-cause g c =
    let disk = g.D.Disk in
    let logs = c.args.logs.now.items in
    let was = c.index_mut.result.now in
    let put = c.sync.new.self in
    let at : slice_get logs c.args.place ≡ Some was = slice_get_read logs (length logs) c.args.place was refl c.requires c.index_mut.ensures.value in
    failed_so c.sync.result (DiskRose disk was put) (RoseAt disk c.args.place logs (slice_set logs c.args.place put)) (rose_there disk logs c.args.place was put at) c.sync.ensures.counts.cause
