-- Neither gate of the header lies in the part.
use Rattle.std.proofs.Common.{IsTrue, length}
use Rattle.mp_store.proofs.FreshImages.{part_kept}
use Rattle.mp_store.proofs.fresh.write_part.Goals as goal

pub returns-clause-kept : goal.returns-clause-kept
returns-clause-kept g c = λ tells. λ all.
    let still : IsTrue (g.D.Disk.tells c.write_at.new.self) = rw (c.write_at.ensures.tells) tells in
    part_kept c.args.place (length c.args.bytes.now) (g.D.Disk.seen c.args.disk.now) (g.D.Disk.seen c.write_at.new.self) (g.D.Disk.image c.args.disk.now) (g.D.Disk.image c.write_at.new.self)
    c.requires.first c.requires.second c.requires.within all (c.write_at.ensures.images tells) (g.D.Disk.seen_is_image c.write_at.new.self still)
