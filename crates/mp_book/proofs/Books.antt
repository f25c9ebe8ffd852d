-- A book stays one once a session's next statement is answered.
use Rattle.std.proofs.Common.{◌≡◌, ℕ, ◌==◌, ◌⊎◌, Bool, true, false, List, [], ◌∷◌, ◌++◌, length, Some, slice_get, slice_set, inl, inr, ⊎_elim, refl, sym, ap, subst, ◌∙◌, arith}
use Rattle.std.proofs.lemmas.List.{length-set}
use Rattle.std.proofs.lemmas.Bool.Decides.{nat_tests}
use Rattle.mp_model.specs.declared.replies.Answer.{Answer}
use Rattle.mp_model.specs.declared.replies.Reply.{Reply}
use Rattle.mp_script.specs.declared.statements.Line.{Line}
use Rattle.mp_script.specs.declared.statements.SessionOn.{SessionOn}
use Rattle.mp_script.specs.Below.{EachBelow}
use Rattle.mp_script.specs.WentDown.{is_stopped}
use Rattle.mp_cells.specs.declared.rows.Row.{Row}
use Rattle.mp_book.specs.declared.stage.Stage.{Stage}
use Rattle.mp_book.specs.declared.session.Session.{Session}
use Rattle.mp_book.specs.declared.book.Book.{Book}
use Rattle.mp_book.specs.Answered.{NoneShowsDown, IsPlaced}
use Rattle.mp_book.specs.Books.{SessionStands, IsBook, IsNext, MayAnswer, IsAnswered}
use Rattle.mp_book.proofs.Items.{each_below_one, IsElse, after_set}
use Rattle.mp_book.proofs.Others.{stands_other}
use Rattle.mp_book.proofs.NextAnswer.{session_answered, answer_placed}

module _ (lines : List Line) (sessions : List SessionOn) (primary : ℕ) (old new : Book) (number : ℕ) (s : Session) (line : Line) (reply : Reply) (stage : Stage) (formers : List Row) (restored : ℕ)
    (book : IsBook lines sessions primary old) (next : IsNext old number s line) (may : MayAnswer s line reply stage formers restored) (calm : (is_stopped reply ≡ true) ⊎ NoneShowsDown old.answers.items) (is : IsAnswered old new number s line reply stage formers restored) where
  own : SessionStands lines sessions primary old.answers.items is.answer.session s
  own = subst (λ n. SessionStands lines sessions primary old.answers.items n s) (sym is.session) (book.each number s next.found)

  may_now : MayAnswer s line is.answer.reply stage formers restored
  may_now = subst (λ r. MayAnswer s line r stage formers restored) (sym is.reply_is) may

  calm_now : (is_stopped is.answer.reply ≡ true) ⊎ NoneShowsDown old.answers.items
  calm_now = subst (λ r. (is_stopped r ≡ true) ⊎ NoneShowsDown old.answers.items) (sym is.reply_is) calm

  placed : IsPlaced lines sessions primary old.answers.items is.answer
  placed = answer_placed lines sessions primary old.answers.items is.answer s line book.orderly own next.next is.index stage formers restored may_now calm_now is.waits

  all_placed : EachBelow (IsPlaced lines sessions primary) [] (old.answers.items ++ is.answer ∷ [])
  all_placed = each_below_one (IsPlaced lines sessions primary) [] old.answers.items is.answer book.placed placed

  stands_at : (k : ℕ) (z : Session) → ((number ≡ k) × (z ≡ is.after)) ⊎ IsElse old.sessions.items number k z → SessionStands lines sessions primary (old.answers.items ++ is.answer ∷ []) k z
  stands_at k z (inl h) =
      let here : SessionStands lines sessions primary (old.answers.items ++ is.answer ∷ []) is.answer.session is.after = session_answered lines sessions primary old.answers.items is.answer s line book.orderly own next.next is.index is.after stage formers restored is.goes may_now in
      subst (λ n. SessionStands lines sessions primary (old.answers.items ++ is.answer ∷ []) n z) (is.session ∙ h.0) (subst (λ (x : Session). SessionStands lines sessions primary (old.answers.items ++ is.answer ∷ []) is.answer.session x) (sym h.1) here)
  stands_at k z (inr h) =
      let its = is.session in
      let apart : (number ≡ k) → ⊥ = h.other in
      let other : (is.answer.session == k) ≡ false = grind (arith, nat_tests) in
      stands_other lines sessions primary old.answers.items is.answer k z other (book.each k z h.stood)

  pub book_answered : IsBook lines sessions primary new
  book_answered = record {
    orderly = book.orderly;
    placed = subst (λ l. EachBelow (IsPlaced lines sessions primary) [] l) (sym is.answers) all_placed;
    whole = ap (λ (l : List Session). length l) is.sessions ∙ length-set old.sessions.items number is.after ∙ book.whole;
    each = λ k z at.
        let there : slice_get (slice_set old.sessions.items number is.after) k ≡ Some z = subst (λ (l : List Session). slice_get l k ≡ Some z) is.sessions at in
        subst (λ l. SessionStands lines sessions primary l k z) (sym is.answers) (stands_at k z (after_set old.sessions.items number is.after k z there));
  }
