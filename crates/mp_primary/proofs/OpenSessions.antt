-- The open transactions are the sessions' still, where a session goes on and its transaction is as it was.
use Rattle.std.proofs.Common.{◌≡◌, ◌≢◌, ℕ, suc, ◌+◌, ◌⊎◌, Bool, true, false, List, [], slice_get, slice_set, drop, Option, None, Some, IfSome, MatchOption, if◌then◌else◌, refl, sym, ap, subst, ◌∙◌, inl, inr, arith}
use Rattle.mp_machine.specs.Lists.{IsIn}
use Rattle.mp_model.specs.declared.ids.TrxName.{TrxName}
use Rattle.mp_script.specs.declared.statements.Line.{Line}
use Rattle.mp_script.specs.Execution.{stmt_in}
use Rattle.mp_script.specs.Transactions.{Target, target_of, begins, begin_in, trx_in_lines}
use Rattle.mp_script.specs.Right.{IsWithoutRepeat}
use Rattle.mp_core_trx.specs.declared.part.Begun.{Begun}
use Rattle.mp_core_trx.specs.Parts.{IsOpen}
use Rattle.mp_core.specs.declared.part.CorePart.{CorePart}
use Rattle.mp_book.specs.declared.session.Session.{Session}
use Rattle.mp_book.specs.declared.stage.Stage.{Stage}
use Rattle.mp_book.specs.Stages.{next_line, trx_of_stage}
use Rattle.mp_supports.specs.Work.{Work}
use Rattle.mp_supports.specs.Supports.{SupportsWaits}
use Rattle.mp_supports.specs.Agreement.{IsOpenAs, RefusalSupported, Opens}
use Rattle.mp_primary.specs.Primaries.{AreSessions, AreWaitsSupported}
use Rattle.mp_supports.proofs.Places.{in_set, set_in, still_in, at_place}

pub one_of : {T : Type 0} (o : Option T) (x y : T) → o ≡ Some x → o ≡ Some y → y ≡ x
one_of o x y a b = let both : Some y ≡ Some x = sym b ∙ a in cc

-- nothing is waited for
pub waits_none : (work : Work) (q : CorePart) (line : Line) → SupportsWaits work q line []
waits_none work q line = go (target_of line.stmt)
  where
    go : (o : Option Target) → MatchOption o (◌≡◌ {A = List TrxName} [] []) (λ target. IsWithoutRepeat [] × Unit {0})
    go None = refl
    go (Some target) = (tt, tt)

pub waits_ended : (work : Work) (q : CorePart) (s : Session) → s.waits.items ≡ [] → IfSome (next_line s) (λ line. SupportsWaits work q line s.waits.items)
waits_ended work q s none = go (next_line s)
  where
    go : (o : Option Line) → IfSome o (λ line. SupportsWaits work q line s.waits.items)
    go None = tt
    go (Some line) = subst (λ (l : List TrxName). SupportsWaits work q line l) (sym none) (waits_none work q line)

module _ (work : Work) (q : CorePart) (sessions : List Session) (number : ℕ) (s after : Session) (found : slice_get sessions number ≡ Some s) where
  -- a session that keeps its transaction, or has none
  pub sessions_set : trx_of_stage after.stage ≡ trx_of_stage s.stage → AreSessions q sessions → AreSessions q (slice_set sessions number after)
  sessions_set same h = λ b there opened.
      let x = h b there opened in
      elim (still_in sessions number after x.0 x.1) [
        | inl still ↦ (x.0, still, x.2)
        | inr at ↦ (after, set_in sessions number s after found, same ∙ ap (λ (v : Session). trx_of_stage v.stage) (one_of (slice_get sessions number) x.0 s at found) ∙ x.2)
      ]

  pub waits_set : IfSome (next_line after) (λ line. SupportsWaits work q line after.waits.items) → AreWaitsSupported work q sessions → AreWaitsSupported work q (slice_set sessions number after)
  waits_set its h = λ x there. elim (in_set sessions number after x there) [
    | inl is ↦ subst (λ (v : Session). IfSome (next_line v) (λ line. SupportsWaits work q line v.waits.items)) (sym is) its
    | inr at ↦ h x (at_place sessions at.0 x at.2)
  ]

  pub opens_set : trx_of_stage after.stage ≡ trx_of_stage s.stage → IfSome (trx_of_stage after.stage) (IsOpenAs work q 0 after) → IfSome (next_line after) (λ line. SupportsWaits work q line after.waits.items) → RefusalSupported work q 0 after.stage (next_line after)
      → Opens work q 0 sessions → Opens work q 0 (slice_set sessions number after)
  opens_set same its waits refused h = record {
    each = λ x there. elim (in_set sessions number after x there) [
      | inl is ↦ subst (λ (v : Session). IfSome (trx_of_stage v.stage) (IsOpenAs work q 0 v)) (sym is) its
      | inr at ↦ h.each x (at_place sessions at.0 x at.2)
    ];
    only = sessions_set same h.only;
    waits = waits_set waits h.waits;
    refused = λ x there. elim (in_set sessions number after x there) [
      | inl is ↦ subst (λ (v : Session). RefusalSupported work q 0 v.stage (next_line v)) (sym is) refused
      | inr at ↦ h.refused x (at_place sessions at.0 x at.2)
    ];
  }
