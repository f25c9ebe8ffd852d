-- Without a fault the count fits the kind, and what is read is a page.
use Rattle.std.proofs.Common.{◌≡◌, refl, ◌∙◌, arith}
use Rattle.mp_page.specs.Shown.{page_shown}
use Rattle.mp_page.specs.Grammar.{page_of}
use Rattle.mp_page.proofs.PageSpelling.{faults_none, page_of-sound}
use Rattle.mp_page.proofs.reading.page_of.Goals as goal

pub body_of-body-requires-clause-count : goal.body_of-body-requires-clause-count
body_of-body-requires-clause-count c = rw (c.kind_numbered-kind.ensures, c.u16_at.ensures, c.split_at.ensures.back) (faults_none c.args.bytes.now c.requires.sound).0.count

pub new-requires : goal.new-requires
unfolding page_of
new-requires c =
    let whole : page_shown c.u64_at.result c.body_of-body.result ≡ page_of c.args.bytes.now =
    c.body_of-body.ensures c.u64_at.result ∙ rw (c.kind_numbered-kind.ensures, c.u16_at.ensures, c.u64_at.ensures, c.u64_at-low.ensures, c.u64_at-high.ensures, c.split_at.ensures.back) refl in
    rw whole (page_of-sound c.args.bytes.now c.requires.long (λ i. omega (arith, c.type_inv.bytes i)) c.requires.sound).0

pub returns : goal.returns
unfolding page_of
returns c =
    c.new.ensures ∙ c.body_of-body.ensures c.u64_at.result ∙ rw (c.kind_numbered-kind.ensures, c.u16_at.ensures, c.u64_at.ensures, c.u64_at-low.ensures, c.u64_at-high.ensures, c.split_at.ensures.back) refl
