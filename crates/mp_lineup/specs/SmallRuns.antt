-- Small runs, on which the words of lining up are tried.
use Rattle.std.specs.Prelude.{ℕ, true, List, [], ◌∷◌, Some}
use Rattle.mp_model.specs.declared.replies.Answer.{Answer}
use Rattle.mp_log.specs.Tails.{LogView}
use Rattle.mp_supports.specs.Supports.{no_trace}
use Rattle.mp_verdict.specs.Orders.{NodeEntry}

-- an answer that a primary gave, of a statement that left nothing in its part
abbrev pub answered_by : ℕ → Answer → NodeEntry
answered_by n answer = record { node = n; entry = record { answer = Some answer; trace = no_trace } }

-- an empty log of a primary
abbrev pub empty_log : {D : Type 0} → D → ℕ → LogView D
empty_log disk n = record { disk = disk; tail = record { node = n; place = 0; last = 0; live = true; bytes = [] }; llsns = [] }

-- the empty logs of eight primaries
abbrev pub eight_logs : {D : Type 0} → D → List (LogView D)
eight_logs disk = empty_log disk 1 ∷ empty_log disk 2 ∷ empty_log disk 3 ∷ empty_log disk 4 ∷ empty_log disk 5 ∷ empty_log disk 6 ∷ empty_log disk 7 ∷ empty_log disk 8 ∷ []
