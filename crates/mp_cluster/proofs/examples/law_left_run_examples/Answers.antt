-- An image without an mtr above its store keeps no commit.
use Rattle.std.proofs.Common.{◌≡◌, true, false, List, [], refl, sym, ap, subst, ◌∙◌, arith}
use Rattle.mp_model.specs.declared.histories.Opening.{Opening}
use Rattle.mp_script.specs.declared.statements.Script.{Script}
use Rattle.mp_script.specs.Execution.{execution_of}
use Rattle.mp_cells.specs.declared.records.Mtr.{Mtr}
use Rattle.mp_recover.specs.Closed.{KeptAreClosed}
use Rattle.mp_recover.specs.Images.{logged_above}
use Rattle.mp_recover.specs.KeptCommits.{kept_commits}
use Rattle.mp_store.specs.declared.headers.Header.{Header}
use Rattle.mp_cluster.specs.SmallRuns.{step_transcript, acknowledging_transcript, opening_as}
use Rattle.mp_cluster.specs.StepTranscripts.{first_opening}
use Rattle.mp_cluster.proofs.AnsweredRuns.{opened_first}
use Rattle.mp_cluster.proofs.examples.law_left_run_examples.Goals as goal

kept_none : (script : Script) (opening : Opening) (mtrs : List Mtr) → mtrs ≡ [] → KeptAreClosed (execution_of script opening (step_transcript 0 0)) (kept_commits mtrs)
kept_none script opening mtrs none = subst (λ (ms : List Mtr). KeptAreClosed (execution_of script opening (step_transcript 0 0)) (kept_commits ms)) (sym none) (record { acknowledged = tt; committed = tt; rests = tt })

lost : (script : Script) (opening : Opening) (mtrs : List Mtr) → mtrs ≡ [] → KeptAreClosed (execution_of script opening (acknowledging_transcript 8)) (kept_commits mtrs) → ⊥
lost script opening mtrs none closed =
    let kept : false ≡ true = (subst (λ (ms : List Mtr). KeptAreClosed (execution_of script opening (acknowledging_transcript 8)) (kept_commits ms)) none closed).acknowledged.0 8 refl in
    absurd cc

pub returns-clause-nothing : goal.returns-clause-nothing
returns-clause-nothing g c = λ opened image script store sound none. record { store = store; sound = sound; closed = λ opening its. kept_none script opening (logged_above image) none }

pub returns-clause-not_lost : goal.returns-clause-not_lost
returns-clause-not_lost g c = λ opened image script none left.
    lost script (opening_as opened 0) (logged_above image) none (left.closed (opening_as opened 0) (record { base = omega arith; taken = refl; rows = refl }))

pub returns-clause-not_another : goal.returns-clause-not_another
returns-clause-not_another g c = λ opened image script transcript other left. other (ap (λ (h : Header). h.llsn) left.store.header)

pub returns-clause-closed : goal.returns-clause-closed
returns-clause-closed g c = λ o image script sound none. record { sound = sound; closed = λ opening its. kept_none script opening (logged_above image) none }

pub returns-clause-not_closed : goal.returns-clause-not_closed
returns-clause-not_closed g c = λ o image script none closed. lost script (first_opening o) (logged_above image) none (closed.closed (first_opening o) (opened_first o))

pub returns-clause-untold : goal.returns-clause-untold
returns-clause-untold g c = λ o script transcript disk untold tells. let told : g.D.Disk.tells disk ≡ true = tells 0 disk refl in let no : true ≡ false = sym told ∙ untold in absurd cc

pub returns-clause-not_left_so : goal.returns-clause-not_left_so
returns-clause-not_left_so g c = λ o image script disks tells over images none leaves.
    lost script (first_opening o) (logged_above image) none ((leaves tells image over images).closed (first_opening o) (opened_first o))
