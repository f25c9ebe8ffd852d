-- A session stands as it did once another session's statement is answered.
use Rattle.std.proofs.Common.{◌≡◌, ℕ, ◌+◌, ◌≤◌, ◌==◌, ◌&&◌, Bool, true, false, List, [], ◌∷◌, ◌++◌, Option, None, Some, option_map, refl, sym, ap, ◌∙◌}
use Rattle.std.specs.Option.{IfSome}
use Rattle.std.specs.List.{list_any}
use Rattle.std.proofs.lemmas.List.Folds.{list_any-append}
use Rattle.mp_model.specs.declared.replies.Answer.{Answer}
use Rattle.mp_script.specs.declared.statements.Line.{Line}
use Rattle.mp_script.specs.declared.statements.SessionOn.{SessionOn}
use Rattle.mp_script.specs.declared.statements.Stmt.{Stmt}
use Rattle.mp_script.specs.Execution.{Execution, reply_at}
use Rattle.mp_script.specs.Transactions.{Target, target_of, trx_at}
use Rattle.mp_script.specs.WentDown.{shows_down}
use Rattle.mp_core_trx.specs.declared.part.Begun.{Begun}
use Rattle.mp_book.specs.declared.stage.Refusal.{Refusal}
use Rattle.mp_book.specs.declared.stage.Refusal.TheVariants.{Conflict, Held, Full}
use Rattle.mp_book.specs.declared.stage.Stage.{Stage}
use Rattle.mp_book.specs.declared.stage.Stage.TheVariants.{Closed, Open, Refused, Leaving, Skipping, Outside}
use Rattle.mp_book.specs.declared.session.Session.{Session}
use Rattle.mp_book.specs.Stages.{next_line}
use Rattle.mp_book.specs.Answered.{execution_above, NoneShowsDown, HasWrittenHere, WaitsStand}
use Rattle.mp_book.specs.Books.{statements_upto, TrxStands, RefusalStands, StageStands, SessionStands}
use Rattle.mp_book.proofs.Items.{if_some_map, or_left}
use Rattle.mp_book.proofs.Above.{answer_other, count_other, refused_same, wrote_same, here_more, waits_more}

-- no answer showed the primary down before the last
pub calm_before : (answers : List Answer) (a : Answer) → NoneShowsDown (answers ++ a ∷ []) → NoneShowsDown answers
calm_before answers a calm = or_left (list_any (λ (x : Answer). shows_down x.reply) answers) (list_any (λ (x : Answer). shows_down x.reply) (a ∷ [])) (sym (list_any-append (λ (x : Answer). shows_down x.reply) answers (a ∷ [])) ∙ calm)

module _ (lines : List Line) (sessions : List SessionOn) (primary : ℕ) (answers : List Answer) (a : Answer) where
  abbrev old : Execution
  old = execution_above lines sessions answers

  abbrev new : Execution
  new = execution_above lines sessions (answers ++ a ∷ [])

  module _ (number : ℕ) (s : Session) (same : (index : ℕ) → reply_at new number index ≡ reply_at old number index) where
    trx_same : (trx : Begun) → TrxStands old number s trx → TrxStands new number s trx
    trx_same trx h = record {
      began = same (trx_at old number s.next).first ∙ h.began;
      unrefused = refused_same lines sessions answers (answers ++ a ∷ []) (trx_at old number s.next) (statements_upto old number s.next) (λ j le. same ((trx_at old number s.next).first + j)) ∙ h.unrefused;
      wrote = λ key. wrote_same lines sessions answers (answers ++ a ∷ []) (trx_at old number s.next) (statements_upto old number s.next) key (λ j le. same ((trx_at old number s.next).first + j)) ∙ h.wrote key;
      once = h.once;
      next_fits = h.next_fits;
    }

    refusal_more : (stmt : Stmt) (refusal : Refusal) → RefusalStands old primary stmt refusal → RefusalStands new primary stmt refusal
    refusal_more stmt (Conflict cts) h = h
    refusal_more stmt (Held name) h = if_some_map (λ (target : Target). HasWrittenHere old primary target.key name) (λ (target : Target). HasWrittenHere new primary target.key name) (target_of stmt) (λ target. here_more lines sessions answers a primary target.key name) h
    refusal_more stmt Full h = h

    stage_same : (stage : Stage) → StageStands old primary number s stage → StageStands new primary number s stage
    stage_same Closed h = h
    stage_same (Open trx) h = (trx_same trx h.0, h.1)
    stage_same (Refused trx refusal) h = (trx_same trx h.0, (h.1.0, h.1.1, h.1.2, refusal_more h.1.0.stmt refusal h.1.3))
    stage_same (Leaving trx) h = (trx_same trx h.0, h.1)
    stage_same Skipping h = (refused_same lines sessions answers (answers ++ a ∷ []) (trx_at old number s.next) (statements_upto old number s.next) (λ j le. same ((trx_at old number s.next).first + j)) ∙ h.0, h.1)
    stage_same (Outside trx) h = h

  pub stands_other : (number : ℕ) (s : Session) → (a.session == number) ≡ false → SessionStands lines sessions primary answers number s → SessionStands lines sessions primary (answers ++ a ∷ []) number s
  stands_other number s other h = record {
    number_is = h.number_is;
    lines_are = h.lines_are;
    next = count_other number answers a other ∙ h.next;
    within = h.within;
    unanswered = λ index above. answer_other answers a number index (apart index) ∙ h.unanswered index above;
    restored = h.restored;
    waits = if_some_map (λ (line : Line). WaitsStand old primary line.stmt s.waits.items) (λ (line : Line). WaitsStand new primary line.stmt s.waits.items) (next_line s) (λ line. waits_more lines sessions answers a primary line.stmt s.waits.items) h.waits;
    stage = λ calm. stage_same number s (λ index. ap (λ (found : Option Answer). option_map (λ (x : Answer). x.reply) found) (answer_other answers a number index (apart index))) s.stage (h.stage (calm_before answers a calm));
  }
    where
      apart : (index : ℕ) → (a.session == number && a.index == index) ≡ false
      apart index = rw other refl
