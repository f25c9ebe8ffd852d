use Rattle.std.proofs.Common.{◌≡◌, ℕ, true, List, [], ◌∷◌, Some}
use Rattle.std.specs.List.{AllByRecursion}
use Rattle.mp_model.specs.declared.replies.Answer.{Answer}
use Rattle.mp_script.specs.Execution.{Execution, answer_at}
use Rattle.mp_script.specs.Transactions.{cts_of, acknowledged_cts}
use Rattle.mp_script.proofs.Looking.{answer_is}
use Rattle.mp_script.proofs.Ordered.{all_in}
use Rattle.mp_recover.specs.KeptCommits.{KeptCommit}
use Rattle.mp_recover.specs.Closed.{is_kept, RestsOn}
use Rattle.mp_cuts.proofs.laws.law_kept_closed.Goals as goal

rests_all : (run : Execution) (commits : List KeptCommit) → AllByRecursion (λ answer. (number : ℕ) → acknowledged_cts answer.reply ≡ Some number → is_kept commits number ≡ true) run.answers
    → (some : List KeptCommit) → AllByRecursion (λ k. (answer : Answer) → answer_at run.answers answer.session answer.index ≡ Some answer → cts_of answer.reply ≡ Some k.cts
    → (number : ℕ) → RestsOn run answer k.cts number → is_kept commits number ≡ true) some
rests_all run commits all [] = tt
rests_all run commits all (k ∷ some) = (
  λ answer told its number r.
      all_in (λ (a : Answer). (n : ℕ) → acknowledged_cts a.reply ≡ Some n → is_kept commits n ≡ true) r.other run.answers all
      (answer_is run.answers r.other.session r.other.index r.other r.told).0 number r.acknowledged.shows,
  rests_all run commits all some,
)

pub returns : goal.returns
returns c = λ run commits all committed. record { acknowledged = all; committed = committed; rests = rests_all run commits all commits }
