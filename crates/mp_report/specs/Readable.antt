-- Which transcripts have a text that can be read again.
use Rattle.std.specs.Prelude.{◌≡◌, ℕ, ◌+◌, ◌^◌, ◌<◌, ◌≤◌, ⊤, true, false, Bool, List, [], ◌∷◌, length, Option, Some, None, count_by}
use Rattle.std.specs.List.{AllByRecursion, flat_map}
use Rattle.mp_model.specs.Values.{is_value}
use Rattle.mp_model.specs.declared.ids.TrxName.{TrxName}
use Rattle.mp_model.specs.declared.replies.Reply.{Reply}
use Rattle.mp_model.specs.declared.replies.Reply.TheVariants.{Began, Got, Scanned, Wrote, Committed, CommittedNone, Unknown, RolledBack, Conflict, Held, Full, Skipped, Stopped}
use Rattle.mp_model.specs.declared.replies.Answer.{Answer}
use Rattle.mp_model.specs.declared.transcripts.Mode.{Mode}
use Rattle.mp_model.specs.declared.transcripts.Mode.TheVariants.{Step, Run}
use Rattle.mp_model.specs.declared.transcripts.Part.{Part}
use Rattle.mp_model.specs.declared.transcripts.Down.{Down}
use Rattle.mp_model.specs.declared.transcripts.Transcript.{Transcript}
use Rattle.mp_script.specs.SpelledLines.{IsRowInRange}

-- a timestamp
abbrev pub IsStamp : ℕ → Type 0
IsStamp stamp = stamp < 2 ^ 38

-- a primary
abbrev pub IsPrimary : ℕ → Type 0
IsPrimary primary = (1 ≤ primary) × (primary ≤ 8)

-- a statement, by its session and its number there
pub record IsStatement (session index : ℕ) : Type 0 where
  pub some_session : 1 ≤ session
  pub most_sessions : session ≤ 64
  pub some_index : 1 ≤ index
  pub most_statements : index ≤ 10000

-- a transaction, by its `begin`
abbrev pub IsName : TrxName → Type 0
IsName name = IsStatement name.session name.first

-- a reply's numbers, values and names
abbrev pub IsReply : Reply → Type 0
IsReply (Began view) = IsStamp view
IsReply (Got value) = found value
  where
    found : Option (List ℕ) → Type 0
    found (Some value) = is_value value ≡ true
    found None = ⊤
IsReply (Scanned rows) = (length rows.items < 2 ^ 64) × AllByRecursion IsRowInRange rows.items
IsReply (Wrote verb) = ⊤
IsReply (Committed cts) = IsStamp cts
IsReply CommittedNone = ⊤
IsReply (Unknown cts) = IsStamp cts
IsReply RolledBack = ⊤
IsReply (Conflict verb cts) = IsStamp cts
IsReply (Held verb name) = IsName name
IsReply (Full verb) = ⊤
IsReply Skipped = ⊤
IsReply (Stopped by) = IsPrimary by

-- an answer
pub record IsAnswer (answer : Answer) : Type 0 where
  pub statement : IsStatement answer.session answer.index
  pub reply : IsReply answer.reply
  pub waits : AllByRecursion IsName answer.waits.items

-- a primary that went down
pub record IsDown (down : Down) : Type 0 where
  pub primary : IsPrimary down.primary
  pub by : IsPrimary down.by

-- the parts are of the primaries from this number on, in order
abbrev pub PartsInOrder : ℕ → List Part → Type 0
PartsInOrder next [] = ⊤
PartsInOrder next (part ∷ parts) = (part.primary ≡ next) × PartsInOrder (next + 1) parts

-- in mode Step there is one part, of primary 0; in mode Run one of each primary from 1 on, 1 to 8 of them
abbrev pub HasParts : Mode → List Part → Type 0
HasParts Step parts = (length parts ≡ 1) × AllByRecursion (λ part. part.primary ≡ 0) parts
HasParts Run parts = (1 ≤ length parts) × (length parts ≤ 8) × PartsInOrder 1 parts

-- the answer is a commit, maybe of unknown end
abbrev pub is_commit : Reply → Bool
is_commit (Committed cts) = true
is_commit (Unknown cts) = true
is_commit other = false

-- how many commits the parts have, those of unknown end included
abbrev pub commit_count : List Part → ℕ
commit_count parts = count_by (λ answer. is_commit answer.reply) (flat_map (λ part. part.answers.items) parts)

-- the text of the transcript can be read again
pub record IsReadable (transcript : Transcript) : Type 0 where
  pub base : IsStamp transcript.base
  pub parts : HasParts transcript.mode transcript.parts.items
  pub answers : AllByRecursion (λ part. AllByRecursion IsAnswer part.answers.items) transcript.parts.items
  pub downs : AllByRecursion IsDown transcript.downs.items
  pub count : transcript.commits < 2 ^ 64
  pub commits : transcript.commits ≡ commit_count transcript.parts.items
