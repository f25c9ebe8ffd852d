-- An execution whose answers are those that the primaries of a run kept.
use Rattle.std.specs.Prelude.{◌≡◌, ℕ, List, Some}
use Rattle.mp_machine.specs.Lists.{IsIn}
use Rattle.mp_model.specs.declared.histories.Opening.{Opening}
use Rattle.mp_model.specs.declared.replies.Answer.{Answer}
use Rattle.mp_model.specs.declared.transcripts.Down.{Down}
use Rattle.mp_script.specs.Execution.{Execution}
use Rattle.mp_core_trx.specs.Events.{IsNode}
use Rattle.mp_core.specs.declared.opening.CoreOpening.{CoreOpening}
use Rattle.mp_supports.specs.Work.{Work}
use Rattle.mp_supports.specs.Kept.{Entry}

-- The execution is of the run's statements over its opening, and its answers are those of the primaries' entries
pub record IsToldBy (work : Work) (opening : Opening) (o : CoreOpening) (entries : ℕ → List Entry) (downs : List Down) (run : Execution) : Type 0 where
  pub primaries : run.primaries ≡ o.trx.primaries
  pub sessions : run.sessions ≡ work.sessions
  pub lines : run.lines ≡ work.lines
  pub opening_is : run.opening ≡ opening
  pub downs_are : run.downs ≡ downs
  pub has : (n : ℕ) (e : Entry) (a : Answer) → IsNode o.trx n → IsIn e (entries n) → e.answer ≡ Some a → IsIn a run.answers
  pub only : (a : Answer) → IsIn a run.answers → (n : ℕ) × IsNode o.trx n × ((e : Entry) × IsIn e (entries n) × (e.answer ≡ Some a))
