-- The words of one command are no other's.
use Rattle.std.proofs.Common.{◌≡◌, ◌∙◌, ◌==◌, ◌+◌, if◌then◌else◌, ℕ, List, [], ◌∷◌, length, Option, Some, None, refl, sym, ap}
use Rattle.std.specs.Str.Parse.{digits_value}
use Rattle.std.proofs.lemmas.Fmt.{decimal_is_IsNumeral}
use Rattle.mp_app.specs.declared.commands.Command.{Command}
use Rattle.mp_app.specs.declared.commands.Command.TheVariants.{Session, Plain}
use Rattle.mp_app.specs.declared.commands.PlainCommand.{PlainCommand}
use Rattle.mp_app.specs.declared.commands.PlainCommand.TheVariants.{Init, Recover, Dump, Logs, Gen}
use Rattle.mp_app.specs.declared.commands.SessionCommand.{SessionCommand}
use Rattle.mp_app.specs.declared.commands.SessionCommand.TheVariants.{Step, Run}
use Rattle.mp_app.specs.Commands.{command_words, HasItsNumber, Names}

-- the first letter of the first word, and how many come behind it, summed up
letter : List (List ℕ) → ℕ
letter [] = 0
letter ([] ∷ words) = 0
letter ((c ∷ cs) ∷ words) = c + length cs

-- the number that the second word is
number_in : List (List ℕ) → Option ℕ
number_in [] = None
number_in (word ∷ []) = None
number_in (word ∷ (digits ∷ words)) = Some (digits_value 10 digits)

gen_of : Option ℕ → Command
gen_of None = Plain Logs
gen_of (Some number) = Plain (Gen number)

-- the command with such a sum and a number
command_by : ℕ → Option ℕ → Command
command_by c number = if c == 118 then Session (Step number) else (if c == 116 then Session (Run number) else (if c == 108 then Plain Init
    else (if c == 120 then Plain Recover else (if c == 103 then Plain Dump else (if c == 111 then Plain Logs else gen_of number)))))

by_words : (command : Command) → HasItsNumber command → command_by (letter (command_words command)) (number_in (command_words command)) ≡ command
unfolding letter number_in gen_of command_by
by_words (Session (Step None)) has = refl
by_words (Session (Step (Some number))) has = ap (λ n. Session (Step (Some n))) (decimal_is_IsNumeral number has).1
by_words (Session (Run None)) has = refl
by_words (Session (Run (Some number))) has = ap (λ n. Session (Run (Some n))) (decimal_is_IsNumeral number has).1
by_words (Plain Init) has = refl
by_words (Plain Recover) has = refl
by_words (Plain Dump) has = refl
by_words (Plain Logs) has = refl
by_words (Plain (Gen number)) has = ap (λ n. Plain (Gen n)) (decimal_is_IsNumeral number has).1

pub named_once : (words : List (List ℕ)) (one other : Command) → Names words one → Names words other → one ≡ other
named_once words one other is is_too = sym (by_words one is.1) ∙ ap (λ w. command_by (letter w) (number_in w)) (sym is.0 ∙ is_too.0) ∙ by_words other is_too.1

plain_of : Command → PlainCommand
plain_of (Session command) = Dump
plain_of (Plain command) = command

pub plain_once : (words : List (List ℕ)) (one other : PlainCommand) → Names words (Plain one) → Names words (Plain other) → one ≡ other
unfolding plain_of
plain_once words one other is is_too = ap plain_of {x = Plain one} {y = Plain other} (named_once words (Plain one) (Plain other) is is_too)

differ : (one : SessionCommand) (other : PlainCommand) → Session one ≡ Plain other → ⊥
differ one other e = cc

pub session_not_plain : (words : List (List ℕ)) (one : SessionCommand) (other : PlainCommand) → Names words (Session one) → Names words (Plain other) → {P : Type 0} → P
session_not_plain words one other is is_too = absurd (differ one other (named_once words (Session one) (Plain other) is is_too))
