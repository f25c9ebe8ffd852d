-- By the places.
use Rattle.std.proofs.Common.{refl, arith}
use Rattle.std.proofs.lemmas.Option.{slice_get_within}
use Rattle.mp_commands.proofs.examples.law_blamed_disks.Goals as goal

pub returns-clause-rose : goal.returns-clause-rose
returns-clause-rose g c = λ others before after rose. (0, refl, record { before = before; after = after; was = refl; now = refl; rose = rose })

pub returns-clause-nine : goal.returns-clause-nine
returns-clause-nine g c = λ old new eight explained.
    let rose = explained.0 in
    absurd (omega (arith, rose.1, eight, slice_get_within old.logs.items rose.0 rose.2.before rose.2.was))

pub returns-clause-failed : goal.returns-clause-failed
returns-clause-failed g c = λ old new eight failed.
    let rose = failed.rose in
    absurd (omega (arith, rose.1, eight, slice_get_within old rose.0 rose.2.before rose.2.was))

pub returns-clause-fault : goal.returns-clause-fault
returns-clause-fault g c = λ place logs eight fault. absurd (omega (arith, fault.its, fault.there, eight))
