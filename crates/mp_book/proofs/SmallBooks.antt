-- What the small session has answered.
use Rattle.std.proofs.Common.{◌≡◌, ℕ, ◌<◌, ◌==◌, ◌&&◌, Bool, true, false, cond, if◌then◌else◌, List, [], ◌∷◌, Option, None, Some, option_map, refl, sym, ap, ◌∙◌, inl, inr, arith}
use Rattle.std.proofs.lemmas.Bool.{cases_Bool, eqb-true}
use Rattle.mp_model.specs.declared.replies.Answer.{Answer}
use Rattle.mp_model.specs.declared.replies.Reply.{Reply}
use Rattle.mp_model.specs.declared.replies.Reply.TheVariants.{Began}
use Rattle.mp_script.specs.Execution.{stmt_in, answer_at}
use Rattle.mp_script.specs.Transactions.{is_wrote, target_key}
use Rattle.mp_script.specs.Right.{HasWritten}
use Rattle.mp_core_trx.specs.declared.part.Begun.{Begun}
use Rattle.mp_book.specs.declared.session.Session.{Session}
use Rattle.mp_book.specs.declared.stage.Stage.{Stage}
use Rattle.mp_book.specs.declared.stage.Stage.TheVariants.{Closed, Open, Leaving, Skipping}
use Rattle.mp_book.specs.Answered.{execution_above}
use Rattle.mp_book.specs.Books.{TrxStands}
use Rattle.mp_book.specs.SmallBooks.{three_lines, one_on_one, its_name, its_begun, session_with, answered_as, began_alone}
use Rattle.mp_book.proofs.Items.{none_some}

-- the reply to a statement, by whether it is the first
abbrev reply_if : Bool → Option Reply
reply_if b = option_map (λ (a : Answer). a.reply) (if b then Some (answered_as 1 (Began 0)) else None)

pub nothing_written : HasWritten (execution_above three_lines one_on_one began_alone) its_name 7 → ⊥
nothing_written h = none_some 7 (sym (none (1 == h.index)) ∙ h.written)
  where
    none : (b : Bool) → (if is_wrote (reply_if b) then target_key (stmt_in three_lines 1 h.index) else None) ≡ None
    none true = refl
    none false = refl

pub only_first : (index : ℕ) → 1 < index → answer_at began_alone 1 index ≡ None
only_first index above = elim (cases_Bool (1 == index)) [
  | inl t ↦ let is : 1 ≡ index = eqb-true 1 index t in absurd (omega (arith, is, above))
  | inr f ↦ ap (λ (b : Bool). if b then Some (answered_as 1 (Began 0)) else None) f
]

pub its_trx_stands : TrxStands (execution_above three_lines one_on_one began_alone) 1 (session_with 1 (Open its_begun) []) its_begun
its_trx_stands = record { began = refl; unrefused = refl; wrote = λ key. refl; once = tt; next_fits = tt }

pub closed_open : (trx : Begun) → Closed ≡ Open trx → ⊥
closed_open trx e = cc

pub leaving_skipping : (trx : Begun) → Leaving trx ≡ Skipping → ⊥
leaving_skipping trx e = cc

pub same_first : (x y : Session) → x ∷ [] ≡ y ∷ [] → x ≡ y
same_first x y e = cc
