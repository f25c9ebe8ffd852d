-- What is read is spelled so, and what is spelled so is read.
use Rattle.std.proofs.Common.{◌≡◌, Ok, Option, Some, None, sym, ap, ◌∙◌, arith}
use Rattle.mp_cells.specs.declared.faults.PageFault.{PageFault}
use Rattle.mp_cells.specs.PageView.{PageView}
use Rattle.mp_page.proofs.PageSpelling.{page_of-sound}
use Rattle.mp_page.proofs.PageAgain.{spelled_so}
use Rattle.mp_page.proofs.reading.read.Goals as goal

pub returns-in-Some-clause-only : goal.returns-in-Some-clause-only
returns-in-Some-clause-only c = λ page is_page spelled.
    let none : ◌≡◌ {A = Option PageFault} (Some c.in-Some.fault) None = c.in-Some.ensures ∙ (spelled_so c.args.bytes.now page is_page spelled).0 in
    cc

pub returns-in-None-clause-found : goal.returns-in-None-clause-found
returns-in-None-clause-found c = rw c.page_of.ensures (page_of-sound c.args.bytes.now c.requires (λ i. omega (arith, c.type_inv.bytes i)) (sym c.in-None.ensures))

pub returns-in-None-clause-only : goal.returns-in-None-clause-only
returns-in-None-clause-only c = λ page is_page spelled. ap (λ (p : PageView). Ok p) (c.page_of.ensures ∙ (spelled_so c.args.bytes.now page is_page spelled).1)
