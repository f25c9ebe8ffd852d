-- What is read is spelled so, and what is spelled so is read.
use Rattle.std.proofs.Common.{inl, ap, sym, ◌∙◌, arith}
use Rattle.mp_redo.specs.Reading.{mtr_at}
use Rattle.mp_redo.proofs.MtrSpelling.{mtr_read, mtr_again}
use Rattle.mp_redo.proofs.reading.decode.Goals as goal

pub returns-in-Ok-mtr_at-clause-found : goal.returns-in-Ok-mtr_at-clause-found
returns-in-Ok-mtr_at-clause-found c =
    let h = mtr_read c.args.bytes.now c.in-Ok-mtr_at.found (λ i. omega (arith, c.type_inv.bytes i)) (sym c.in-Ok-mtr_at.ensures.exact) in
    (h.0, (h.1, h.2))

pub returns-in-Ok-mtr_at-clause-only : goal.returns-in-Ok-mtr_at-clause-only
returns-in-Ok-mtr_at-clause-only c = λ mtr rest is_mtr spelled.
    let h = c.in-Ok-mtr_at.ensures.exact ∙ ap mtr_at spelled ∙ mtr_again mtr rest is_mtr in
    inl cc

pub returns-in-Err-clause-only : goal.returns-in-Err-clause-only
returns-in-Err-clause-only c = λ mtr rest is_mtr spelled.
    let h = c.in-Err.ensures.exact ∙ ap mtr_at spelled ∙ mtr_again mtr rest is_mtr in
    absurd cc
