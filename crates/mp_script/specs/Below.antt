-- What stands above what in a list of answers.
use Rattle.std.specs.Prelude.{ℕ, max, Bool, ◌==◌, if◌then◌else◌, List, [], ◌∷◌, ◌++◌, map, filter}
use Rattle.std.specs.List.{filter_map, AllByRecursion}
use Rattle.mp_model.specs.declared.replies.Answer.{Answer}
use Rattle.mp_script.specs.declared.statements.Line.{Line}
use Rattle.mp_script.specs.Execution.{Execution}
use Rattle.mp_script.specs.Transactions.{cts_of}

-- P holds of each item with those that stand above it; `above` stand above all
abbrev pub EachBelow : {T : Type 0} → (List T → T → Type 0) → List T → List T → Type 0
EachBelow P above [] = Unit {0}
EachBelow P above (item ∷ items) = P above item × EachBelow P (above ++ item ∷ []) items

-- P holds of each answer, by the primary of its part and with those that stand above it in its part
abbrev pub EachInItsPart : Execution → (ℕ → List Answer → Answer → Type 0) → Type 0
EachInItsPart run P = AllByRecursion (λ part. EachBelow (P part.primary) [] part.answers.items) run.parts

-- the answers from the first on that passes a test
abbrev pub from_first : (Answer → Bool) → List Answer → List Answer
from_first test [] = []
from_first test (answer ∷ answers) = if test answer then answer ∷ answers else from_first test answers

-- the commit numbers that answers show
abbrev pub numbers : List Answer → List ℕ
numbers answers = filter_map (λ answer. cts_of answer.reply) answers

-- the greatest of some numbers and the base
abbrev pub greatest_cts : ℕ → List ℕ → ℕ
greatest_cts base [] = base
greatest_cts base (number ∷ others) = max number (greatest_cts base others)

-- the numbers of a session's statements, as answers and as the script have them
abbrev pub answered : ℕ → List Answer → List ℕ
answered session answers = map (λ answer. answer.index) (filter (λ answer. answer.session == session) answers)

abbrev pub stated : ℕ → List Line → List ℕ
stated session lines = map (λ line. line.index) (filter (λ line. line.session == session) lines)
