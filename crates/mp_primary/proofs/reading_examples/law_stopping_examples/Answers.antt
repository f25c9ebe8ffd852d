use Rattle.std.proofs.Common.{◌≡◌, ℕ, ◌+◌, true, List, [], length, Option, None, Some, IfSome, refl, subst, inl, inr, arith}
use Rattle.mp_machine.specs.View.{part_in}
use Rattle.mp_model.specs.declared.ids.TrxName.{TrxName}
use Rattle.mp_model.specs.declared.replies.Answer.{Answer}
use Rattle.mp_script.specs.declared.statements.Line.{Line}
use Rattle.mp_script.specs.declared.statements.Stmt.{Stmt}
use Rattle.mp_script.specs.Transactions.{target_of}
use Rattle.mp_cells.specs.declared.rows.Row.{Row}
use Rattle.mp_core.specs.declared.part.CorePart.{CorePart}
use Rattle.mp_book.specs.Answered.{execution_above, HasWrittenHere}
use Rattle.mp_buffer_fusion.proofs.Visiting.{one_part}
use Rattle.mp_desk.proofs.PutBackRows.{moves_quiet_none}
use Rattle.mp_primary.specs.AtWork.{LeavesAtMostOne}
use Rattle.mp_primary.proofs.Stops.{quiet_stop}
use Rattle.mp_primary.proofs.reading_examples.law_stopping_examples.Goals as goal

some_row : (row : Row) → Some row ≡ None → ⊥
some_row row e = cc

none_key : (key : ℕ) → ◌≡◌ {A = Option ℕ} None (Some key) → ⊥
none_key key e = cc

-- a row is kept only of an mtr
no_row : (line : Line) (q : CorePart) (row : Row) → LeavesAtMostOne line (Some row) q q → ⊥
no_row line q row h = elim h.few [
  | inl none ↦ some_row row none.0
  | inr one ↦ let more = one.1 in absurd (omega (arith, more))
]

pub returns-clause-leaves_none : goal.returns-clause-leaves_none
returns-clause-leaves_none c = λ line q. record { begun = refl; rows = refl; few = inl (refl, refl) }

pub returns-clause-leaves_a_row : goal.returns-clause-leaves_a_row
returns-clause-leaves_a_row c = no_row

pub returns-clause-may_stop : goal.returns-clause-may_stop
returns-clause-may_stop c = λ pr line n. quiet_stop pr line n n (moves_quiet_none pr.number n)

pub returns-clause-may_not_stop : goal.returns-clause-may_not_stop
returns-clause-may_not_stop c = λ pr line n q row has h.
    let now = h.left.mine q has in
    no_row line q row (subst (λ (r : CorePart). LeavesAtMostOne line (Some row) q r) (one_part (part_in n.parts pr.number) now.0 q now.1 has) now.2)

pub returns-clause-wrote_nothing : goal.returns-clause-wrote_nothing
returns-clause-wrote_nothing c = λ pr line name none is runs h.
    let told = subst (λ (x : Stmt). IfSome (target_of x) (λ target. HasWrittenHere (execution_above pr.work.lines pr.work.sessions pr.book.answers.items) pr.number target.key name)) is h in
    let written = subst (λ (l : List Answer). HasWrittenHere (execution_above pr.work.lines pr.work.sessions l) pr.number 7 name) none told runs in
    none_key 7 written.written
