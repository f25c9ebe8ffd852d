-- The count of answers tells what a turn added that answered for a session: an answer, or the end of an unprinted rollback.
use Rattle.std.proofs.Common.{◌≡◌, ◌≢◌, ℕ, ◌+◌, List, [], ◌∷◌, ◌++◌, length, Some, sym, ap, ◌∙◌, ⊎_elim, arith, length-append}
use Rattle.std.proofs.lemmas.List.{append-nil}
use Rattle.mp_machine.specs.View.{part_in}
use Rattle.mp_model.specs.declared.replies.Answer.{Answer}
use Rattle.mp_model.specs.declared.waiting.Turn.TheVariants as turns
use Rattle.mp_core.specs.declared.part.CorePart.{CorePart}
use Rattle.mp_outside.specs.declared.disks.Disk.{Ghosts}
use Rattle.mp_shared.specs.Nodes.{Run, NodeView}
use Rattle.mp_shared.proofs.Holding.{held_part}
use Rattle.mp_supports.specs.Kept.{Entry, answers_in}
use Rattle.mp_primary.specs.Primaries.{PrimaryView, PrimaryAgreesIn, StandsWith}
use Rattle.mp_primary.specs.Turns.{Adds, AddsAnswer, EndsUnprinted, GoesOnBy, TakesTurn}
use Rattle.mp_primary.proofs.AnsweredTurns.{entry_of, answers_more}

-- an entry with an answer adds it
entry_more : (entries : List Entry) (e : Entry) (a : Answer) → e.answer ≡ Some a → answers_in (entries ++ e ∷ []) ≡ answers_in entries ++ a ∷ []
entry_more entries e a has =
    let same : e ≡ entry_of a e.trace = λ i. record { answer = has i; trace = e.trace } in
    ap (λ (x : Entry). answers_in (entries ++ x ∷ [])) same ∙ answers_more entries a e.trace

-- what a primary goes on to agree with tells what it added
module _ {D : Type 0} (g : Ghosts D) (old new : PrimaryView D) (before after : NodeView) (number : ℕ) (entries : List Entry) (agrees : PrimaryAgreesIn g old entries before)
    (by : GoesOnBy g old new before after (Some number) entries turns.Answered) (q r : CorePart) (has : part_in before.parts old.number ≡ Some q) (there : part_in after.parts new.number ≡ Some r) where
  answers_before : answers_in entries ≡ old.book.answers.items
  answers_before = (agrees q has).answers

  answers_after : answers_in (entries ++ by.more) ≡ new.book.answers.items
  answers_after = (by.agrees r there).answers

  pub added : (h : AddsAnswer old number by.more) → Adds old new h.answer
  added h =
      sym answers_after ∙ ap (λ (l : List Entry). answers_in (entries ++ l)) h.one
      ∙ entry_more entries h.entry h.answer h.has
      ∙ ap (λ (l : List Answer). l ++ h.answer ∷ []) answers_before

  pub added_none : EndsUnprinted old new number by.more → length new.book.answers.items ≡ length old.book.answers.items
  added_none h =
      ap (λ (l : List Answer). length l)
      (sym answers_after ∙ ap (λ (l : List Entry). answers_in (entries ++ l)) h.none ∙ ap (λ (l : List Entry). answers_in l) (append-nil entries) ∙ answers_before)

module _ {D : Type 0} (g : Ghosts D) (run : Run) (old new : PrimaryView D) (before after : NodeView) (number : ℕ) (stands : StandsWith g run old before)
    (turn : TakesTurn g run old new before after (Some number) turns.Answered) (entries : List Entry) (agrees : PrimaryAgreesIn g old entries before) where
  abbrev by : GoesOnBy g old new before after (Some number) entries turns.Answered
  by = turn.goes_on entries agrees

  abbrev q : (x : CorePart) × (part_in before.parts old.number ≡ Some x)
  q = let has = held_part before old.number stands.desk.part in (has.0, has.1)

  abbrev r : (x : CorePart) × (part_in after.parts new.number ≡ Some x)
  r = let now = turn.went.mine q.0 q.1 in (now.0, ap (part_in after.parts) turn.number ∙ now.1)

  pub its_answer : (h : AddsAnswer old number by.more) → Adds old new h.answer
  its_answer = added g old new before after number entries agrees by q.0 r.0 q.1 r.1

  adds_one : AddsAnswer old number by.more → length new.book.answers.items ≡ length old.book.answers.items + 1
  adds_one h = ap (λ (l : List Answer). length l) (its_answer h) ∙ length-append old.book.answers.items (h.answer ∷ [])

  adds_none : EndsUnprinted old new number by.more → length new.book.answers.items ≡ length old.book.answers.items
  adds_none = added_none g old new before after number entries agrees by q.0 r.0 q.1 r.1

  pub one_more : length new.book.answers.items ≡ length old.book.answers.items + 1 → AddsAnswer old number by.more
  one_more counted = ⊎_elim (λ (h : AddsAnswer old number by.more). h) (λ (h : EndsUnprinted old new number by.more). let same = adds_none h in absurd (omega (arith, same, counted))) by.adds

  pub none_more : length new.book.answers.items ≢ length old.book.answers.items + 1 → EndsUnprinted old new number by.more
  none_more other = ⊎_elim (λ (h : AddsAnswer old number by.more). absurd (other (adds_one h))) (λ (h : EndsUnprinted old new number by.more). h) by.adds
