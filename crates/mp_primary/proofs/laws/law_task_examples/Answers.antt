use Rattle.std.proofs.Common.{◌≡◌, ℕ, List, [], ◌∷◌, slice_get, Option, None, Some, refl, sym, ap, ◌∙◌}
use Rattle.mp_script.specs.declared.statements.Line.{Line}
use Rattle.mp_script.specs.declared.statements.Stmt.TheVariants.{Begin}
use Rattle.mp_script.proofs.Options.{not_some}
use Rattle.mp_book.specs.declared.session.Session.{Session}
use Rattle.mp_book.specs.declared.stage.Stage.TheVariants.{Closed, Open, Skipping, Outside}
use Rattle.mp_book.specs.declared.stage.Task.TheVariants.{Statement, Unprinted}
use Rattle.mp_book.specs.SmallBooks.{its_begun, session_with, stated_as}
use Rattle.mp_book.specs.Stages.{next_line, task_of}
use Rattle.mp_book.specs.Through.{have_no_task}
use Rattle.mp_primary.specs.Turns.{no_task_in}
use Rattle.mp_primary.proofs.OpenSessions.{one_of}
use Rattle.mp_primary.proofs.SmallPrimaries.{something_is_none, closed_not_outside, leaving_not_outside}
use Rattle.mp_primary.proofs.laws.law_task_examples.Goals as goal

stated_not_unprinted : (line : Line) → Statement line ≡ Unprinted → ⊥
stated_not_unprinted line e = cc

-- the first session
first_of : (sessions : List Session) (s : Session) → sessions ≡ s ∷ [] → slice_get sessions 0 ≡ Some s
first_of sessions s is = ap (λ (l : List Session). slice_get l 0) is

pub returns-clause-no_session : goal.returns-clause-no_session
returns-clause-no_session c = refl

pub returns-clause-a_task : goal.returns-clause-a_task
returns-clause-a_task c = refl

pub returns-clause-deletes : goal.returns-clause-deletes
returns-clause-deletes c = (refl, refl, refl)

pub returns-clause-not_empty : goal.returns-clause-not_empty
returns-clause-not_empty c = λ h. something_is_none [] h.2

pub returns-clause-in_turns : goal.returns-clause-in_turns
returns-clause-in_turns c = λ trx e. closed_not_outside trx e

pub returns-clause-not_in_turns : goal.returns-clause-not_in_turns
returns-clause-not_in_turns c = λ inside. inside None refl

pub returns-clause-taken_back : goal.returns-clause-taken_back
returns-clause-taken_back c = (tt, λ trx e. leaving_not_outside its_begun trx e)

pub returns-clause-not_in_a_turn : goal.returns-clause-not_in_a_turn
returns-clause-not_in_a_turn c = λ h. h.1 (Some its_begun) refl

pub returns-clause-a_session : goal.returns-clause-a_session
returns-clause-a_session c = λ pr is. first_of pr.book.sessions.items (session_with 0 Closed []) is

pub returns-clause-not_a_session : goal.returns-clause-not_a_session
returns-clause-not_a_session c = λ pr s is h. not_some s (sym (ap (λ (l : List Session). slice_get l 1) is) ∙ h)

pub returns-clause-may_take : goal.returns-clause-may_take
returns-clause-may_take c = λ pr is. record { session = session_with 0 Closed []; found = first_of pr.book.sessions.items (session_with 0 Closed []) is; inside = λ trx e. closed_not_outside trx e }

pub returns-clause-may_not_take : goal.returns-clause-may_not_take
returns-clause-may_not_take c = λ pr is h.
    h.inside None (ap (λ (s : Session). s.stage) (one_of (slice_get pr.book.sessions.items 0) (session_with 0 (Outside None) []) h.session (first_of pr.book.sessions.items (session_with 0 (Outside None) []) is) h.found))

pub returns-clause-may_leave : goal.returns-clause-may_leave
returns-clause-may_leave c = λ pr is. record { session = session_with 3 (Open its_begun) []; found = first_of pr.book.sessions.items (session_with 3 (Open its_begun) []) is; task = refl }

pub returns-clause-may_not_leave : goal.returns-clause-may_not_leave
returns-clause-may_not_leave c = λ pr is h.
    let same = one_of (slice_get pr.book.sessions.items 0) (session_with 1 (Open its_begun) []) h.session (first_of pr.book.sessions.items (session_with 1 (Open its_begun) []) is) h.found in
    stated_not_unprinted _ (sym (ap (λ (s : Session). task_of s) same) ∙ h.task)

pub returns-clause-nothing_left : goal.returns-clause-nothing_left
returns-clause-nothing_left c = λ pr is. ap (λ (l : List Session). have_no_task l) is

pub returns-clause-something_left : goal.returns-clause-something_left
returns-clause-something_left c = λ pr is. ap (λ (l : List Session). no_task_in (slice_get l 0)) is

pub returns-clause-no_statement : goal.returns-clause-no_statement
returns-clause-no_statement c = λ pr is s found.
    ap (λ (v : Session). next_line v) (one_of (slice_get pr.book.sessions.items 0) (session_with 3 Skipping []) s (first_of pr.book.sessions.items (session_with 3 Skipping []) is) found)

pub returns-clause-a_statement : goal.returns-clause-a_statement
returns-clause-a_statement c = λ pr is h. something_is_none (stated_as 1 Begin) (h (session_with 0 Closed []) (first_of pr.book.sessions.items (session_with 0 Closed []) is))
