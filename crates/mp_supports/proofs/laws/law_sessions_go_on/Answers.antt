use Rattle.std.proofs.Common.{◌≡◌, List, [], ◌∷◌, ◌+◌, None, Some, refl, sym, ap, subst, ◌∙◌, inl, inr, ◌⊎◌}
use Rattle.mp_machine.specs.Lists.{IsIn}
use Rattle.mp_cells.specs.declared.records.Mtr.{Mtr}
use Rattle.mp_cells.specs.PageView.{PageView}
use Rattle.mp_core_trx.specs.declared.part.Begun.{Begun}
use Rattle.mp_core_trx.specs.declared.part.SlotRow.{SlotRow}
use Rattle.mp_core_trx.specs.declared.part.TrxPart.{TrxPart}
use Rattle.mp_core_trx.specs.Events.{ended}
use Rattle.mp_core_trx.specs.Parts.{shown_at}
use Rattle.mp_core_pages.specs.declared.part.PagesPart.{PagesPart}
use Rattle.mp_core_pages.specs.declared.part.Placed.{Placed}
use Rattle.mp_core.specs.declared.part.CorePart.{CorePart}
use Rattle.mp_core.specs.OwnMtrs.{first_former, trx_mtrs}
use Rattle.mp_supports.proofs.OpenSteps.{row_here, row_else, opens_begun, opens_put, opens_back, opens_ended}
use Rattle.mp_supports.proofs.Unchanged.{former_neither, neither_back}
use Rattle.mp_supports.proofs.laws.law_sessions_go_on.Goals as goal

pub returns-clause-begun : goal.returns-clause-begun
returns-clause-begun c = λ work p q down number sessions s after b step begun rows usable fresh none numbered found closed named goes h.
    opens_begun work p q down step.extends sessions number s after found numbered h b begun rows (ap (λ (l : PagesPart PageView Mtr). l.made) step.pages) usable fresh none closed named goes

pub returns-clause-put : goal.returns-clause-put
returns-clause-put c = λ work p q down number sessions s after x trx row kept former step none put writer keeps_row numbered found stage whole no_begin keeps from goes h.
    opens_put work p q down step.extends sessions number s after found numbered h x trx row kept former (ap (λ (t : TrxPart). t.begun) step.trx) (ap (λ (t : TrxPart). t.rows) step.trx) step.made none put writer keeps_row stage whole no_begin keeps from goes

pub returns-clause-put_back : goal.returns-clause-put_back
returns-clause-put_back c = λ work p q down number sessions s x trx row former step back no_put of numbered found stage at its_key once h.
    opens_back work p q down step.extends sessions number s (record s { restored = s.restored + 1 }) found numbered h x trx row former (ap (λ (t : TrxPart). t.begun) step.trx) (ap (λ (t : TrxPart). t.rows) step.trx) step.made back no_put of stage at its_key once refl

pub returns-clause-freed : goal.returns-clause-freed
returns-clause-freed c = λ work p q down number sessions s after trx step begun rows opened numbered found stage over waits h.
    let made = ap (λ (l : PagesPart PageView Mtr). l.made) step.pages in
    opens_ended work p q down step.extends sessions number s after found numbered h trx None begun
    (λ slot ne. ap (λ (l : List SlotRow). shown_at l slot) rows ∙ row_else trx.id.slot slot (ended trx.id None) p.trx.rows ne)
    (ap (λ (l : List SlotRow). shown_at l trx.id.slot) rows ∙ row_here trx.id.slot (ended trx.id None) p.trx.rows)
    (λ b key. ap (λ (l : List (Placed Mtr)). first_former l b.id key) made)
    (λ m there. inl (subst (λ (l : List (Placed Mtr)). IsIn m (trx_mtrs l)) made there))
    opened stage over waits

pub returns-clause-published : goal.returns-clause-published
returns-clause-published c = λ work p q down number cts sessions s after trx x extends begun slots its_slot made no_put no_back opened numbered found stage over waits h.
    opens_ended work p q down extends sessions number s after found numbered h trx (Some cts) begun slots its_slot
    (λ b key. former_neither p q x made no_put no_back b key)
    (λ m there. neither_back p q x made no_back m there)
    opened stage over waits
