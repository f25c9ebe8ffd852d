use Rattle.mp_core_pages.specs.Briefs.{llsn_ops}
use Rattle.mp_core_pages.proofs.Growth.{pages_after_extends}
use Rattle.mp_core_pages.proofs.laws.law_pages_grow.Goals as goal

pub returns : goal.returns
returns c = λ known w e n. pages_after_extends llsn_ops known w e n
