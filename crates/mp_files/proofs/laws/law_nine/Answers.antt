-- By the places.
use Rattle.std.proofs.Common.{refl, arith}
use Rattle.std.proofs.lemmas.Option.{slice_get_within}
use Rattle.mp_files.proofs.Nines.{StillNine-refl, StillNine-trans, KeptNine-still, read_image}
use Rattle.mp_files.proofs.laws.law_nine.Goals as goal

pub returns-clause-rose : goal.returns-clause-rose
returns-clause-rose g c = λ others first before after rose.
    (1, refl, record { before = before; after = after; was = refl; now = refl; rose = rose })

pub returns-clause-zero : goal.returns-clause-zero
returns-clause-zero g c = λ old new rose. absurd (omega (arith, rose.1))

pub returns-clause-nine : goal.returns-clause-nine
returns-clause-nine g c = λ old new eight rose.
    absurd (omega (arith, rose.1, eight, slice_get_within old.logs.items rose.0 rose.2.before rose.2.was))

pub returns-clause-same : goal.returns-clause-same
returns-clause-same g c = StillNine-refl g.D.Disk

pub returns-clause-then_ : goal.returns-clause-then_
returns-clause-then_ g c = StillNine-trans g.D.Disk

pub returns-clause-kept : goal.returns-clause-kept
returns-clause-kept g c = KeptNine-still g.D.Disk

pub returns-clause-read : goal.returns-clause-read
returns-clause-read g c = read_image g.D.Disk

pub returns-clause-short : goal.returns-clause-short
returns-clause-short g c = λ disks file eight image. absurd (omega (arith, eight, image.logs.count))
