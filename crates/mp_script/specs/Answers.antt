-- Words on answers and on the parts of a transcript.
use Rattle.std.specs.Prelude.{◌≡◌, ◌≢◌, ◌⊎◌, ◌+◌, ℕ, List, [], ◌∷◌, Option, suc, ◌++◌, length, Some}
use Rattle.mp_machine.specs.Lists.{IsIn}
use Rattle.mp_model.specs.declared.replies.Answer.{Answer}
use Rattle.mp_model.specs.declared.key_value.KeyValue.{KeyValue}
use Rattle.mp_model.specs.declared.replies.Reply.{Reply}
use Rattle.mp_model.specs.declared.replies.Reply.TheVariants.{Got, Scanned, Held}
use Rattle.mp_model.specs.declared.histories.Opening.{Opening}
use Rattle.mp_model.specs.declared.ids.TrxName.{TrxName}
use Rattle.mp_model.specs.declared.transcripts.Down.{Down}
use Rattle.mp_model.specs.declared.transcripts.Mode.{Mode}
use Rattle.mp_model.specs.declared.transcripts.Part.{Part}
use Rattle.mp_model.specs.declared.transcripts.Transcript.{Transcript}
use Rattle.mp_model.specs.Listed.{Listed}
use Rattle.mp_script.specs.Execution.{Execution, all_answers}
use Rattle.mp_script.specs.Below.{EachBelow, numbers}
use Rattle.mp_script.specs.Transactions.{wrote_at}
use Rattle.mp_script.specs.Numbered.{IfShowsView, CoversAbove}

-- the reply shows a value or rows
abbrev pub IsReadReply : Reply → Type 0
IsReadReply reply = ((value : Option (List ℕ)) × (reply ≡ Got value)) ⊎ ((rows : Listed KeyValue) × (reply ≡ Scanned rows))

-- no statement is answered twice
abbrev pub AreApartAnswers : List Answer → Type 0
AreApartAnswers [] = Unit {0}
AreApartAnswers (answer ∷ answers) = ((other : Answer) → IsIn other answers → answer.session ≡ other.session → answer.index ≢ other.index) × AreApartAnswers answers

-- the transactions that a reply names, and those that its statement waited for
abbrev pub names_of_reply : Reply → List TrxName
names_of_reply (Held verb name) = name ∷ []
names_of_reply reply = []

abbrev pub names_of : Answer → List TrxName
names_of answer = names_of_reply answer.reply ++ answer.waits.items

-- the statement of a transaction with this place behind its `begin` was a write of the key that was answered ok
abbrev pub WroteKey : Execution → TrxName → ℕ → ℕ → Type 0
WroteKey run trx place key = wrote_at run trx.session (trx.first + suc place) ≡ Some key

-- each view that is shown covers the commits above it
abbrev pub ViewsCover : Mode → ℕ → List Answer → Type 0
ViewsCover mode base answers = EachBelow (λ above answer. IfShowsView answer (CoversAbove mode base above)) [] answers

-- what the two transcripts have in common
pub record IsTranscriptOver (opening : Opening) (downs : List Down) (mode : Mode) (transcript : Transcript) : Type 0 where
  pub mode_is : transcript.mode ≡ mode
  pub base : transcript.base ≡ opening.base
  pub downs_are : transcript.downs.items ≡ downs
  pub commits : transcript.commits ≡ length (numbers (all_answers transcript))

-- one part, of primary 0, has these answers
abbrev pub IsWholePart : List Answer → List Part → Type 0
IsWholePart answers [] = ⊥
IsWholePart answers (part ∷ parts) = (part.primary ≡ 0) × (part.answers.items ≡ answers) × (parts ≡ [])
