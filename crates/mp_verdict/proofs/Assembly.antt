-- All rules together.
use Rattle.std.proofs.Common.{◌≡◌, ◌≢◌, ℕ, ◌==◌, ◌&&◌, true, false, List, Some, refl, sym, ap, subst, ◌∙◌, inl, inr, arith, eq-eqb}
use mathlib.Core.Bool.{false≢true}
use Rattle.std.specs.List.{AllByRecursion}
use Rattle.std.proofs.lemmas.Bool.{eqb-true, and_from}
use Rattle.mp_machine.specs.Lists.{IsIn}
use Rattle.mp_model.specs.declared.histories.Opening.{Opening}
use Rattle.mp_model.specs.declared.ids.TrxId.{TrxId}
use Rattle.mp_model.specs.declared.ids.TrxName.{TrxName}
use Rattle.mp_model.specs.declared.replies.Answer.{Answer}
use Rattle.mp_model.specs.declared.replies.Reply.{Reply}
use Rattle.mp_model.specs.declared.replies.Reply.TheVariants.{Began, Got, Scanned, Wrote, Committed, CommittedNone, Unknown, RolledBack, Conflict, Held, Full, Skipped, Stopped}
use Rattle.mp_model.specs.declared.replies.WriteVerb.{WriteVerb}
use Rattle.mp_model.specs.declared.transcripts.Down.{Down}
use Rattle.mp_model.specs.declared.transcripts.Transcript.{Transcript}
use Rattle.mp_script.specs.declared.statements.Line.{Line}
use Rattle.mp_script.specs.declared.statements.Script.{Script}
use Rattle.mp_script.specs.declared.statements.SessionOn.{SessionOn}
use Rattle.mp_script.specs.Execution.{Execution, line_at, is_session_on}
use Rattle.mp_script.specs.InTheirPart.{BeginsAtOpening, AnswersEachStatement}
use Rattle.mp_script.specs.Legal.{ViewsAreRight, WritesSeeEarlierCommits, KeysAreHeld, RepliesAreRight, IsLegal, Legal}
use Rattle.mp_script.specs.Numbered.{AreNumbered}
use Rattle.mp_script.specs.Right.{IsRightReply, IsRightAnswer}
use Rattle.mp_script.specs.Spelling.{IsSpelled}
use Rattle.mp_script.specs.Transactions.{trx_of, view_at, statements_before, is_refusal}
use Rattle.mp_script.specs.WentDown.{IsNamedDown, StaysDown}
use Rattle.mp_script.specs.Below.{EachInItsPart}
use Rattle.mp_script.proofs.Options.{some_is}
use Rattle.mp_script.proofs.Looking.{line_is, any_in}
use Rattle.mp_script.proofs.ItemsAbove.{all_of}
use Rattle.mp_script.proofs.DownLines.{line_of_down}
use Rattle.mp_script.proofs.AmongWrites.{some_wrote}
use Rattle.mp_core_trx.specs.Parts.{trx, begun_of}
use Rattle.mp_histories.proofs.Writers.{decided}
use Rattle.mp_core.specs.declared.opening.CoreOpening.{CoreOpening}
use Rattle.mp_core.specs.World.{CoreWorld, core_part}
use Rattle.mp_facts.specs.Facts.{IsForced}
use Rattle.mp_supports.specs.Work.{Work}
use Rattle.mp_supports.specs.Supports.{IsTrxOf, IsNameOf, SupportsTrxReply, SupportsReply}
use Rattle.mp_supports.specs.Kept.{Entry}
use Rattle.mp_verdict.specs.Counting.{CountsCommits}
use Rattle.mp_verdict.specs.Finished.{Finished}
use Rattle.mp_verdict.specs.Orders.{NodeEntry, IsMerged, StepOrder, RunOrder, IsStepTranscript, IsRunTranscript}
use Rattle.mp_verdict.specs.Told.{IsToldBy}
use Rattle.mp_verdict.proofs.ShownChains.{id_of}
use Rattle.mp_verdict.proofs.ToldAnswers.{IsKeptBy, one_node, on_node, supported, kept_answer}
use Rattle.mp_verdict.proofs.Telling.{IsCommitEntryOn, entry_of_forced, acknowledged_by, in_all}
use Rattle.mp_verdict.proofs.CommitEntries.{name_by, view_by}
use Rattle.mp_verdict.proofs.KeyConflicts.{first_committers_win}
use Rattle.mp_verdict.proofs.RunTold.{run_mode, run_told, run_sees_earlier, run_holds_keys}
use Rattle.mp_verdict.proofs.StepTold.{step_mode, step_told, step_sees_earlier, step_holds_keys}
use Rattle.mp_verdict.proofs.RunRules.{run_counts, run_numbered, run_begins, run_views, run_answered}
use Rattle.mp_verdict.proofs.StepRules.{step_counts, step_numbered, step_begins, step_views, step_answered}
use Rattle.mp_verdict.proofs.RepliesRight.{reply_right, follows_right}
use Rattle.mp_verdict.proofs.Blocked.{shown_put, held_in_run, waits_in_run}
use Rattle.mp_verdict.proofs.FullRight.{full_right}
use Rattle.mp_verdict.proofs.DownsRight.{downs_rise, have_causes, run_stays, step_stays}

module _ (script : Script) (spelled : IsSpelled script) (work : Work) (opening : Opening) (o : CoreOpening) (w : CoreWorld) (down : ℕ → ℕ) (entries : ℕ → List Entry) (downs : List Down)
    (f : Finished work script opening o w down entries downs) (run : Execution) (told : IsToldBy work opening o entries downs run) where
  -- a commit that refused a write is of another session
  other_session : (n : ℕ) (e : Entry) (a : Answer) (line : Line) (id : TrxId) (view : ℕ) (holder : TrxId) (cts : ℕ) (b : Answer) (name : TrxName) → IsKeptBy script spelled work opening o w down entries downs f run told n e a → line_at work.lines a.session a.index ≡ Some line → IsTrxOf work (core_part w n) line id view
      → IsCommitEntryOn script spelled work opening o w down entries downs f run told holder.node holder cts b → IsNameOf work line id holder name → b.session ≢ line.session
  other_session n e a line id view holder cts b name k found its c of_name = elim (decided (holder.node == n)) [
    | inl same ↦
        let is : holder.node ≡ n = eqb-true holder.node n same in
        let own : id.node ≡ n = f.facts.inv.trx.ids.own n (begun_of id view) its.begun in
        let its_name : name ≡ trx_of run b = some_is name (trx_of run b) (sym of_name.named ∙ name_by script spelled work opening o w down entries downs f run told holder.node holder c.view b c.line c.found c.trx) in
        λ session. of_name.apart (is ∙ sym own) (ap (λ (y : TrxName). y.session) its_name ∙ session)
    | inr apart ↦ λ session.
        let at = line_is work.lines a.session a.index line found in
        let is = one_node script spelled work opening o w down entries downs f run told a.session holder.node n (subst (λ (s : ℕ). is_session_on work.sessions s holder.node ≡ true) (session ∙ at.1) (on_node script spelled work opening o w down entries downs f run told holder.node c.entry b c.kept)) (on_node script spelled work opening o w down entries downs f run told n e a k) in
        false≢true (sym apart ∙ eq-eqb holder.node n is)
  ]

  conflict_right : (n : ℕ) (e : Entry) (a : Answer) (line : Line) (id : TrxId) (view : ℕ) (verb : WriteVerb) (cts : ℕ) → IsKeptBy script spelled work opening o w down entries downs f run told n e a → line_at work.lines a.session a.index ≡ Some line → IsTrxOf work (core_part w n) line id view → a.reply ≡ Conflict verb cts
      → SupportsTrxReply work (core_part w n) e.trace line id view (Conflict verb cts) → IsRightReply run line (Conflict verb cts)
  conflict_right n e a line id view verb cts k found its reply s =
      let blocked = s.3 in
      let holder : TrxId = s.1 in
      let is : trx blocked.load.of blocked.load.slot holder.version ≡ holder = id_of holder blocked.load.of blocked.load.slot blocked.is_load.of blocked.is_load.slot in
      let forced : IsForced o w holder cts = subst (λ (i : TrxId). IsForced o w i cts) is (f.facts.of_notes.committed n blocked.load holder.version cts blocked.is_load.loaded blocked.shown) in
      let c = entry_of_forced script spelled work opening o w down entries downs f run told holder cts forced in
      let shown = shown_put script spelled work opening o w down entries downs f run told n blocked.leaf s.0 blocked.newest holder blocked.its_newest blocked.writer in
      let i = (in_all script spelled work opening o w down entries downs f run told holder cts c.0 c.1).all s.0 shown.mtr blocked.newest shown.put in
      let at = line_is work.lines a.session a.index line found in
      let view_is = view_by script spelled work opening o w down entries downs f run told n e id view a line k found its in
      let view_here : view_at run line.session line.index ≡ view = ap (λ (x : ℕ). view_at run x line.index) at.1 ∙ ap (view_at run a.session) at.2 ∙ view_is in
      let above = s.4 in (
        s.0,
        s.2,
        record {
          answer = c.0;
          acknowledged = acknowledged_by script spelled work opening o w down entries downs f run told holder cts c.0 c.1;
          other = other_session n e a line id view holder cts c.0 s.6.0 k found its c.1 s.6.1;
          above = omega (arith, view_here, above);
          written = some_wrote run (trx_of run c.0) (statements_before (trx_of run c.0) (c.0).index) s.0 i.0 i.1 i.2;
        },
      )

  conflict_in_run : (a : Answer) (line : Line) (verb : WriteVerb) (cts : ℕ) → IsIn a run.answers → line_at run.lines a.session a.index ≡ Some line → a.reply ≡ Conflict verb cts → IsRightReply run line (Conflict verb cts)
  conflict_in_run a line verb cts there found reply =
      let k = kept_answer script spelled work opening o w down entries downs f run told a there in
      let s = supported script spelled work opening o w down entries downs f run told k.0 k.1 a k.2 in
      let here : line_at work.lines a.session a.index ≡ Some line = ap (λ (lines : List Line). line_at lines a.session a.index) (sym told.lines) ∙ found in
      let same : s.line ≡ line = some_is s.line line (sym s.found ∙ here) in
      let h = subst (SupportsReply work (core_part w k.0) (down k.0) (k.1).trace line) reply (subst (λ (l : Line). SupportsReply work (core_part w k.0) (down k.0) (k.1).trace l a.reply) same s.reply) in
      conflict_right k.0 k.1 a line h.0 h.1 verb cts k.2 here h.2 reply h.3

  full_in_run : (a : Answer) (line : Line) (verb : WriteVerb) → IsIn a run.answers → line_at run.lines a.session a.index ≡ Some line → a.reply ≡ Full verb → IsRightReply run line (Full verb)
  full_in_run a line verb there found reply =
      let k = kept_answer script spelled work opening o w down entries downs f run told a there in
      let s = supported script spelled work opening o w down entries downs f run told k.0 k.1 a k.2 in
      let here : line_at work.lines a.session a.index ≡ Some line = ap (λ (lines : List Line). line_at lines a.session a.index) (sym told.lines) ∙ found in
      let same : s.line ≡ line = some_is s.line line (sym s.found ∙ here) in
      let h = subst (SupportsReply work (core_part w k.0) (down k.0) (k.1).trace line) reply (subst (λ (l : Line). SupportsReply work (core_part w k.0) (down k.0) (k.1).trace l a.reply) same s.reply) in
      (h.3.0, h.3.1, full_right script spelled work opening o w down entries downs f run told a verb there reply)

  module _ (counted : CountsCommits w run) where
    any_reply : (a : Answer) (line : Line) → IsIn a run.answers → line_at run.lines a.session a.index ≡ Some line → (r : Reply) → a.reply ≡ r → IsRightReply run line r
    any_reply a line there found (Conflict verb cts) is = conflict_in_run a line verb cts there found is
    any_reply a line there found (Held verb name) is = held_in_run script spelled work opening o w down entries downs f run told a line verb name there found is
    any_reply a line there found (Full verb) is = full_in_run a line verb there found is
    any_reply a line there found (Began view) is = subst (IsRightReply run line) is (reply_right script spelled work opening o w down entries downs f run told counted a line there found (ap (λ (r : Reply). is_refusal (Some r)) is))
    any_reply a line there found (Got value) is = subst (IsRightReply run line) is (reply_right script spelled work opening o w down entries downs f run told counted a line there found (ap (λ (r : Reply). is_refusal (Some r)) is))
    any_reply a line there found (Scanned rows) is = subst (IsRightReply run line) is (reply_right script spelled work opening o w down entries downs f run told counted a line there found (ap (λ (r : Reply). is_refusal (Some r)) is))
    any_reply a line there found (Wrote verb) is = subst (IsRightReply run line) is (reply_right script spelled work opening o w down entries downs f run told counted a line there found (ap (λ (r : Reply). is_refusal (Some r)) is))
    any_reply a line there found (Committed cts) is = subst (IsRightReply run line) is (reply_right script spelled work opening o w down entries downs f run told counted a line there found (ap (λ (r : Reply). is_refusal (Some r)) is))
    any_reply a line there found CommittedNone is = subst (IsRightReply run line) is (reply_right script spelled work opening o w down entries downs f run told counted a line there found (ap (λ (r : Reply). is_refusal (Some r)) is))
    any_reply a line there found (Unknown cts) is = subst (IsRightReply run line) is (reply_right script spelled work opening o w down entries downs f run told counted a line there found (ap (λ (r : Reply). is_refusal (Some r)) is))
    any_reply a line there found RolledBack is = subst (IsRightReply run line) is (reply_right script spelled work opening o w down entries downs f run told counted a line there found (ap (λ (r : Reply). is_refusal (Some r)) is))
    any_reply a line there found Skipped is = subst (IsRightReply run line) is (reply_right script spelled work opening o w down entries downs f run told counted a line there found (ap (λ (r : Reply). is_refusal (Some r)) is))
    any_reply a line there found (Stopped by) is = subst (IsRightReply run line) is (reply_right script spelled work opening o w down entries downs f run told counted a line there found (ap (λ (r : Reply). is_refusal (Some r)) is))

    pub replies_right : RepliesAreRight run
    replies_right = all_of (IsRightAnswer run) run.answers (λ a there.
        let k = kept_answer script spelled work opening o w down entries downs f run told a there in
        let s = supported script spelled work opening o w down entries downs f run told k.0 k.1 a k.2 in
        let found : line_at run.lines a.session a.index ≡ Some s.line = ap (λ (lines : List Line). line_at lines a.session a.index) told.lines ∙ s.found in
        record {
          line = s.line;
          found = found;
          reply = any_reply a s.line there found a.reply refl;
          follows = follows_right script spelled work opening o w down entries downs f run told a there;
          waits = waits_in_run script spelled work opening o w down entries downs f run told a s.line there found;
        })

    named_down : AllByRecursion (IsNamedDown run) run.answers
    named_down = all_of (IsNamedDown run) run.answers (λ a there number unknown.
        let k = kept_answer script spelled work opening o w down entries downs f run told a there in
        let node = k.2.node in
        let low = node.0 in
        let high = node.1 in
        let s = supported script spelled work opening o w down entries downs f run told k.0 k.1 a k.2 in
        let h = subst (SupportsReply work (core_part w k.0) (down k.0) (k.1).trace s.line) unknown s.reply in
        let own : down k.0 ≡ k.0 = h.4 ∙ f.facts.inv.trx.ids.own k.0 (begun_of h.0 h.1) h.2.begun in
        let line : IsIn (record { primary = k.0; by = down k.0 }) run.downs = subst (IsIn (record { primary = k.0; by = down k.0 })) (sym (told.downs_are ∙ f.downs_are)) (line_of_down down k.0 1 o.trx.primaries low (omega (arith, high)) (λ none. absurd (omega (arith, none, own, low)))) in
        let on : is_session_on run.sessions a.session k.0 ≡ true = subst (λ (ss : List SessionOn). is_session_on ss a.session k.0 ≡ true) (sym told.sessions) (on_node script spelled work opening o w down entries downs f run told k.0 k.1 a k.2) in
        any_in (λ (d : Down). d.by == d.primary && is_session_on run.sessions a.session d.primary) (record { primary = k.0; by = down k.0 }) run.downs line (and_from (down k.0 == k.0) (is_session_on run.sessions a.session k.0) (eq-eqb (down k.0) k.0 own) on))

    pub legal_where : BeginsAtOpening run → AnswersEachStatement run → AreNumbered run → ViewsAreRight run → WritesSeeEarlierCommits run → KeysAreHeld run → EachInItsPart run (λ primary. StaysDown run) → IsLegal run
    legal_where begins answered numbered views earlier held stay = record {
      begins = begins;
      answered = answered;
      right = replies_right;
      numbered = numbered;
      views = views;
      first_wins = first_committers_win script spelled work opening o w down entries downs f run told;
      earlier_commits = earlier;
      held_keys = held;
      downs = record {
        rise = downs_rise script spelled work opening o w down entries downs f run told;
        causes = have_causes script spelled work opening o w down entries downs f run told;
        named = named_down;
        stay = stay;
      };
    }

pub run_legal : (script : Script) (spelled : IsSpelled script) (work : Work) (opening : Opening) (o : CoreOpening) (w : CoreWorld) (down : ℕ → ℕ) (entries : ℕ → List Entry) (downs : List Down) (f : Finished work script opening o w down entries downs) (transcript : Transcript) (t : IsRunTranscript opening o.trx.primaries entries downs transcript) → RunOrder o.trx entries → Legal script opening transcript
run_legal script spelled work opening o w down entries downs f transcript t order =
    legal_where script spelled work opening o w down entries downs f (run_mode script spelled work opening o w down entries downs f transcript t) (run_told script spelled work opening o w down entries downs f transcript t)
    (run_counts script spelled work opening o w down entries downs f transcript t)
    (run_begins script spelled work opening o w down entries downs f transcript t) (run_answered script spelled work opening o w down entries downs f transcript t) (run_numbered script spelled work opening o w down entries downs f transcript t)
    (run_views script spelled work opening o w down entries downs f transcript t order) (run_sees_earlier script spelled work opening o w down entries downs f transcript t) (run_holds_keys script spelled work opening o w down entries downs f transcript t)
    (run_stays script spelled work opening o w down entries downs f transcript t)

pub step_legal : (script : Script) (spelled : IsSpelled script) (work : Work) (opening : Opening) (o : CoreOpening) (w : CoreWorld) (down : ℕ → ℕ) (entries : ℕ → List Entry) (downs : List Down) (f : Finished work script opening o w down entries downs) (given : List NodeEntry) (merged : IsMerged o.trx entries given) (order : StepOrder opening.base given) (transcript : Transcript) (t : IsStepTranscript opening given downs transcript) → Legal script opening transcript
step_legal script spelled work opening o w down entries downs f given merged order transcript t =
    legal_where script spelled work opening o w down entries downs f (step_mode script spelled work opening o w down entries downs f given merged order transcript t) (step_told script spelled work opening o w down entries downs f given merged order transcript t)
    (step_counts script spelled work opening o w down entries downs f given merged order transcript t)
    (step_begins script spelled work opening o w down entries downs f given merged order transcript t) (step_answered script spelled work opening o w down entries downs f given merged order transcript t) (step_numbered script spelled work opening o w down entries downs f given merged order transcript t)
    (step_views script spelled work opening o w down entries downs f given merged order transcript t) (step_sees_earlier script spelled work opening o w down entries downs f given merged order transcript t) (step_holds_keys script spelled work opening o w down entries downs f given merged order transcript t)
    (step_stays script spelled work opening o w down entries downs f given merged order transcript t)
