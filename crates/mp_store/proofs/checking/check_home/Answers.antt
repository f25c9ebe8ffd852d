-- What a check finds needs no fault of the disk.
use Rattle.mp_store.proofs.checking.check_home.Goals as goal

pub returns-clause-cause : goal.returns-clause-cause
returns-clause-cause g c = λ long. c.found.ensures.cause _ _
