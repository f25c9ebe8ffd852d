-- Each reply of a finished run that refuses nothing is right, and follows its transaction's refusals.
use Rattle.std.proofs.Common.{◌≡◌, ◌≢◌, ℕ, ◌==◌, ◌&&◌, Bool, true, false, List, [], Some, is_some, refl, sym, ap, subst, ◌∙◌, inl, inr, arith, eq-eqb}
use mathlib.Core.Bool.{false≢true}
use Rattle.std.proofs.lemmas.Bool.{and_from}
use Rattle.mp_machine.specs.Lists.{IsIn}
use Rattle.mp_model.specs.declared.histories.Opening.{Opening}
use Rattle.mp_model.specs.declared.replies.Answer.{Answer}
use Rattle.mp_model.specs.declared.replies.Reply.{Reply}
use Rattle.mp_model.specs.declared.replies.Reply.TheVariants.{Began, Got, Scanned, Wrote, Committed, CommittedNone, Unknown, RolledBack, Conflict, Held, Full, Skipped, Stopped}
use Rattle.mp_model.specs.declared.transcripts.Down.{Down}
use Rattle.mp_script.specs.declared.statements.Line.{Line}
use Rattle.mp_script.specs.declared.statements.Script.{Script}
use Rattle.mp_script.specs.declared.statements.SessionOn.{SessionOn}
use Rattle.mp_script.specs.Execution.{Execution, line_at, is_session_on}
use Rattle.mp_script.specs.Right.{IsRightReply, FollowsRefusal, HasOwnWrite, HasNoOwnWrite, went_down}
use Rattle.mp_script.specs.Spelling.{IsSpelled}
use Rattle.mp_script.specs.Transactions.{cts_of, is_refusal, wrote_before, refused_before}
use Rattle.mp_script.proofs.Options.{some_is}
use Rattle.mp_script.proofs.Looking.{line_is, any_in}
use Rattle.mp_script.proofs.ItemsAbove.{IsPlacedIn}
use Rattle.mp_script.proofs.ReplyForms.{not_begins}
use Rattle.mp_script.proofs.DownLines.{line_of_down}
use Rattle.mp_core_trx.specs.Events.{IsNode}
use Rattle.mp_core.specs.declared.opening.CoreOpening.{CoreOpening}
use Rattle.mp_core.specs.World.{CoreWorld, core_part}
use Rattle.mp_supports.specs.Work.{Work}
use Rattle.mp_supports.specs.Supports.{SupportsReply}
use Rattle.mp_supports.specs.Kept.{Entry, answers_in}
use Rattle.mp_verdict.specs.Counting.{CountsCommits}
use Rattle.mp_verdict.specs.Finished.{Finished}
use Rattle.mp_verdict.specs.Told.{IsToldBy}
use Rattle.mp_verdict.proofs.ToldAnswers.{IsKeptBy, on_node, supported, kept_answer}
use Rattle.mp_verdict.proofs.ReadsRight.{read_right}
use Rattle.mp_verdict.proofs.SoFar.{place_of, wrote_so_far, refused_so_far}
use Rattle.mp_verdict.proofs.NextInOrder.{IsAnsweredNext, answered_so_far}

module _ (script : Script) (spelled : IsSpelled script) (work : Work) (opening : Opening) (o : CoreOpening) (w : CoreWorld) (down : ℕ → ℕ) (entries : ℕ → List Entry) (downs : List Down)
    (f : Finished work script opening o w down entries downs) (run : Execution) (told : IsToldBy work opening o entries downs run) where
  -- a session whose primary is down has its line
  pub went : (n : ℕ) (session : ℕ) → IsNode o.trx n → is_session_on work.sessions session n ≡ true → down n ≢ 0 → went_down run session (down n) ≡ true
  went n session node on ne =
      let low = node.0 in
      let high = node.1 in
      let there : IsIn (record { primary = n; by = down n }) run.downs = subst (IsIn (record { primary = n; by = down n })) (sym (told.downs_are ∙ f.downs_are)) (line_of_down down n 1 o.trx.primaries low (omega (arith, high)) ne) in
      any_in (λ (d : Down). d.by == down n && is_session_on run.sessions session d.primary) (record { primary = n; by = down n }) run.downs there
      (and_from (down n == down n) (is_session_on run.sessions session n) (eq-eqb (down n) (down n) refl) (subst (λ (s : List SessionOn). is_session_on s session n ≡ true) (sym told.sessions) on))

  module _ (n : ℕ) (e : Entry) (a : Answer) (k : IsKeptBy script spelled work opening o w down entries downs f run told n e a) (line : Line) (found : line_at work.lines a.session a.index ≡ Some line) where
    place : IsPlacedIn (IsAnsweredNext work n) [] (answers_in (entries n)) a
    place = place_of script spelled work opening o w down entries downs f run told n e a k

    at_line : (key : ℕ) → wrote_before run line.session line.index key ≡ wrote_before run a.session a.index key
    at_line key = let at = line_is work.lines a.session a.index line found in ap (λ (s : ℕ). wrote_before run s line.index key) at.1 ∙ ap (λ (i : ℕ). wrote_before run a.session i key) at.2

    so_far : (key : ℕ) → wrote_before run line.session line.index key ≡ wrote_before (answered_so_far work place.over) a.session a.index key
    so_far key = at_line key ∙ wrote_so_far script spelled work opening o w down entries downs f run told n e a k place.over place.rest place.split_is key

    own_write : is_some (cts_of a.reply) ≡ true → HasOwnWrite run line
    own_write shows = let own = place.holds.wrote shows in (own.0, so_far own.0 ∙ own.1)

    no_own_write : a.reply ≡ CommittedNone → HasNoOwnWrite run line
    no_own_write is = λ key. so_far key ∙ place.holds.wrote_none is key

    pub follows : FollowsRefusal (refused_before run a.session a.index) a.reply
    follows = subst (λ (b : Bool). FollowsRefusal b a.reply) (sym (refused_so_far script spelled work opening o w down entries downs f run told n e a k place.over place.rest place.split_is)) place.holds.follows

    by_reply : CountsCommits w run → IsIn a run.answers → (reply : Reply) → a.reply ≡ reply → SupportsReply work (core_part w n) (down n) e.trace line reply → is_refusal (Some reply) ≡ false → IsRightReply run line reply
    by_reply counted there (Began view) is s ok = s.1
    by_reply counted there (Got value) is s ok = subst (IsRightReply run line) is (read_right script spelled work opening o w down entries downs f run told counted a line there (ap (λ (ls : List Line). line_at ls a.session a.index) told.lines ∙ found) (inl (value, is)))
    by_reply counted there (Scanned rows) is s ok = subst (IsRightReply run line) is (read_right script spelled work opening o w down entries downs f run told counted a line there (ap (λ (ls : List Line). line_at ls a.session a.index) told.lines ∙ found) (inr (rows, is)))
    by_reply counted there (Wrote verb) is s ok = (s.3.0, s.3.2)
    by_reply counted there (Committed cts) is s ok = (s.3.1, own_write (ap (λ (r : Reply). is_some (cts_of r)) is))
    by_reply counted there CommittedNone is s ok = (s.0, no_own_write is)
    by_reply counted there (Unknown cts) is s ok = (s.3.1, own_write (ap (λ (r : Reply). is_some (cts_of r)) is))
    by_reply counted there RolledBack is s ok = s.0
    by_reply counted there (Conflict verb cts) is s ok = absurd (false≢true (sym ok))
    by_reply counted there (Held verb name) is s ok = absurd (false≢true (sym ok))
    by_reply counted there (Full verb) is s ok = absurd (false≢true (sym ok))
    by_reply counted there Skipped is s ok = not_begins line.stmt s.0
    by_reply counted there (Stopped by) is s ok =
        let at = line_is work.lines a.session a.index line found in
        let on : is_session_on work.sessions line.session n ≡ true = ap (λ (x : ℕ). is_session_on work.sessions x n) at.1 ∙ on_node script spelled work opening o w down entries downs f run told n e a k in
        subst (λ (b : ℕ). went_down run line.session b ≡ true) s.0 (went n line.session k.node on (λ none. s.1 (sym s.0 ∙ none)))

  pub reply_right : CountsCommits w run → (a : Answer) (line : Line) → IsIn a run.answers → line_at run.lines a.session a.index ≡ Some line → is_refusal (Some a.reply) ≡ false → IsRightReply run line a.reply
  reply_right counted a line there found ok =
      let k = kept_answer script spelled work opening o w down entries downs f run told a there in
      let s = supported script spelled work opening o w down entries downs f run told k.0 k.1 a k.2 in
      let here : line_at work.lines a.session a.index ≡ Some line = ap (λ (ls : List Line). line_at ls a.session a.index) (sym told.lines) ∙ found in
      let same : s.line ≡ line = some_is s.line line (sym s.found ∙ here) in
      by_reply k.0 k.1 a k.2 line here counted there a.reply refl (subst (λ (l : Line). SupportsReply work (core_part w k.0) (down k.0) (k.1).trace l a.reply) same s.reply) ok

  pub follows_right : (a : Answer) → IsIn a run.answers → FollowsRefusal (refused_before run a.session a.index) a.reply
  follows_right a there =
      let k = kept_answer script spelled work opening o w down entries downs f run told a there in
      let s = supported script spelled work opening o w down entries downs f run told k.0 k.1 a k.2 in
      follows k.0 k.1 a k.2 s.line s.found
