-- The commands, and the words that name them.
use Rattle.std.specs.Prelude.{◌≡◌, ◌<◌, ◌^◌, ℕ, List, [], ◌∷◌, codes, decimal, Option, Some, None, Result, Ok, Err}
use Rattle.mp_model.specs.declared.transcripts.Mode.{Mode}
use Rattle.mp_model.specs.declared.transcripts.Mode.TheVariants as mode
use Rattle.mp_app.specs.declared.commands.Command.{Command}
use Rattle.mp_app.specs.declared.commands.Command.TheVariants.{Session, Plain}
use Rattle.mp_app.specs.declared.commands.PlainCommand.TheVariants.{Init, Recover, Dump, Logs, Gen}
use Rattle.mp_app.specs.declared.commands.SessionCommand.{SessionCommand}
use Rattle.mp_app.specs.declared.commands.SessionCommand.TheVariants.{Step, Run}
use Rattle.mp_app.specs.declared.commands.WordsRefusal.{WordsRefusal}
use Rattle.mp_app.specs.declared.commands.WordsRefusal.TheVariants.{Usage, Memory}

-- the command that runs in a mode the script that is read, or that of a number
abbrev pub command_in : Mode → Option ℕ → SessionCommand
command_in mode.Step number = Step number
command_in mode.Run number = Run number

-- the words of a command, which may be several
abbrev pub command_words : Command → List (List ℕ)
command_words (Session (Step None)) = codes "step" ∷ []
command_words (Session (Step (Some number))) = codes "step" ∷ decimal number ∷ []
command_words (Session (Run None)) = codes "run" ∷ []
command_words (Session (Run (Some number))) = codes "run" ∷ decimal number ∷ []
command_words (Plain Init) = codes "init" ∷ []
command_words (Plain Recover) = codes "recover" ∷ []
command_words (Plain Dump) = codes "dump" ∷ []
command_words (Plain Logs) = codes "logs" ∷ []
command_words (Plain (Gen number)) = codes "gen" ∷ decimal number ∷ []

-- a number is 0 to 2^64 - 1
abbrev pub HasItsNumber : Command → Type 0
HasItsNumber (Session (Step (Some number))) = number < 2 ^ 64
HasItsNumber (Session (Run (Some number))) = number < 2 ^ 64
HasItsNumber (Plain (Gen number)) = number < 2 ^ 64
HasItsNumber command = Unit {0}

-- the words name this command: they are its own, and a number stands there as its decimal text
abbrev pub Names : List (List ℕ) → Command → Type 0
Names words command = (words ≡ command_words command) × HasItsNumber command

-- the words name none
abbrev pub NoCommand : List (List ℕ) → Type 0
NoCommand words = (command : Command) → Names words command → ⊥

-- what reading the words says
abbrev pub ReadsWords : List (List ℕ) → Result Command WordsRefusal → Type 0
ReadsWords words (Ok command) = Names words command
ReadsWords words (Err Usage) = NoCommand words
ReadsWords words (Err Memory) = (command : Command) × Names words command
