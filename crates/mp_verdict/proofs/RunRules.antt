-- The rules of a legal transcript that speak of parts, numbers and views, in mode Run.
use Rattle.std.proofs.Common.{◌≡◌, ◌≢◌, ℕ, ◌<◌, ◌==◌, ◌||◌, Bool, true, false, cond, List, [], length, sym, ap, subst, ◌∙◌, inl, inr, arith, ne_eqb}
use mathlib.Core.Bool.{false≢true}
use Rattle.mp_machine.specs.Lists.{IsIn}
use Rattle.mp_model.specs.Folded.{KeysAscend}
use Rattle.mp_model.specs.declared.histories.Opening.{Opening}
use Rattle.mp_model.specs.declared.replies.Answer.{Answer}
use Rattle.mp_model.specs.declared.transcripts.Down.{Down}
use Rattle.mp_model.specs.declared.transcripts.Mode.{Mode}
use Rattle.mp_model.specs.declared.transcripts.Mode.TheVariants.{Run}
use Rattle.mp_model.specs.declared.transcripts.Part.{Part}
use Rattle.mp_model.specs.declared.transcripts.Transcript.{Transcript}
use Rattle.mp_script.specs.declared.statements.Script.{Script}
use Rattle.mp_script.specs.declared.statements.SessionOn.{SessionOn}
use Rattle.mp_script.specs.Below.{EachBelow, numbers, answered, stated}
use Rattle.mp_script.specs.Execution.{Execution, is_session_on}
use Rattle.mp_script.specs.InTheirPart.{count_from, part_primaries, BeginsAtOpening, belongs, IsNextStatement, LeavesNone, AnswersEachStatement, AnswersEachOnce}
use Rattle.mp_script.specs.Legal.{ViewsAreRight}
use Rattle.mp_script.specs.Numbered.{AreNumbered, IfShowsView, IsRightView}
use Rattle.mp_script.specs.Spelling.{IsSpelled}
use Rattle.mp_script.specs.Standing.{StandsAbove}
use Rattle.mp_script.specs.Answers.{AreApartAnswers, ViewsCover}
use Rattle.mp_script.proofs.InTurn.{once-next, once-none_left}
use Rattle.mp_script.proofs.Ordered.{pair_above, above_in, in_flat, from_found, from_above_found, above_map, from_above_flat}
use Rattle.mp_script.proofs.ItemsAbove.{all_of, pairs_by, ascend_pairs}
use Rattle.mp_script.proofs.CountedAnswers.{none_answered, apart_by}
use Rattle.mp_script.proofs.ScriptLines.{count_rises}
use Rattle.mp_core_trx.specs.Events.{IsNode}
use Rattle.mp_histories.proofs.Writers.{decided}
use Rattle.mp_core.specs.declared.opening.CoreOpening.{CoreOpening}
use Rattle.mp_core.specs.World.{CoreWorld}
use Rattle.mp_facts.specs.Facts.{opening_pages}
use Rattle.mp_supports.specs.Work.{Work}
use Rattle.mp_supports.specs.Kept.{Entry, answers_in}
use Rattle.mp_verdict.specs.Counting.{CountsCommits}
use Rattle.mp_verdict.specs.Finished.{Finished}
use Rattle.mp_verdict.specs.Orders.{RunOrder, IsRunTranscript}
use Rattle.mp_verdict.specs.Told.{IsToldBy}
use Rattle.mp_verdict.proofs.OpeningRows.{opening_ascend}
use Rattle.mp_verdict.proofs.KeptOrder.{index_up, session_here}
use Rattle.mp_verdict.proofs.ToldAnswers.{one_node}
use Rattle.mp_verdict.proofs.Numbering.{counts, are_numbered, views_right}
use Rattle.mp_verdict.proofs.RunTold.{run_mode, part_node, part_answers, run_told}
use Rattle.mp_verdict.proofs.NextInOrder.{next_in_order}

module _ (script : Script) (spelled : IsSpelled script) (work : Work) (opening : Opening) (o : CoreOpening) (w : CoreWorld) (down : ℕ → ℕ) (entries : ℕ → List Entry) (downs : List Down)
    (f : Finished work script opening o w down entries downs) (transcript : Transcript) (t : IsRunTranscript opening o.trx.primaries entries downs transcript) where
  abbrev its_run : Execution
  its_run = run_mode script spelled work opening o w down entries downs f transcript t

  abbrev its_told : IsToldBy work opening o entries downs its_run
  its_told = run_told script spelled work opening o w down entries downs f transcript t

  node_of : (part : Part) → IsIn part transcript.parts.items → IsNode o.trx part.primary
  node_of = part_node script spelled work opening o w down entries downs f transcript t

  answers_of : (part : Part) → IsIn part transcript.parts.items → part.answers.items ≡ answers_in (entries part.primary)
  answers_of = part_answers script spelled work opening o w down entries downs f transcript t

  -- an answer of a part is of a session of its primary
  session_of : (part : Part) (a : Answer) → IsIn part transcript.parts.items → IsIn a part.answers.items → is_session_on work.sessions a.session part.primary ≡ true
  session_of part a here there =
      let e = from_found (λ (x : Entry). x.answer) (entries part.primary) a (subst (IsIn a) (answers_of part here) there) in
      let n = node_of part here in
      session_here work o w f.facts part.primary (down part.primary) (entries part.primary) (f.kept part.primary n) (f.all part.primary n) (next_in_order script spelled work opening o w down entries downs f part.primary n) e.0 a e.1 e.2

  pub run_apart : AreApartAnswers its_run.answers
  run_apart = apart_by its_run.answers (pairs_by (λ (x y : Answer). x.session ≡ y.session → x.index ≢ y.index) its_run.answers (λ a b above session index.
      elim (from_above_flat (λ (p : Part). p.answers.items) transcript.parts.items a b above) [
        | inl one ↦
            let n = node_of one.0 one.1 in
            let p = (one.0).primary in
            let at = from_above_found (λ (y : Entry). y.answer) (entries p) a b (subst (StandsAbove a b) (answers_of one.0 one.1) one.2) in
            let lt = index_up work o w f.facts p (down p) (entries p) (f.kept p n) (f.all p n) (next_in_order script spelled work opening o w down entries downs f p n) at.0 at.1 a b at.2 at.3 at.4 session in
            omega (arith, lt, index)
        | inr two ↦
            let both = above_in two.0 two.1 transcript.parts.items two.2 in
            let on_first = session_of two.0 a both.0 two.3 in
            let on_second = session_of two.1 b both.1 two.4 in
            let same = one_node script spelled work opening o w down entries downs f its_run its_told b.session (two.0).primary (two.1).primary (subst (λ (s : ℕ). is_session_on work.sessions s (two.0).primary ≡ true) session on_first) on_second in
            let rises = pair_above (λ (x y : ℕ). x < y) (two.0).primary (two.1).primary (count_from 1 o.trx.primaries) (ascend_pairs (λ (n : ℕ). n) 1 (count_from 1 o.trx.primaries) (count_rises 1 o.trx.primaries))
            (subst (StandsAbove (two.0).primary (two.1).primary) t.primaries_are (above_map (λ (p : Part). p.primary) two.0 two.1 transcript.parts.items two.2)) in
            omega (arith, same, rises)
      ]))

  many_is : length (numbers its_run.answers) ≡ its_run.commits
  many_is = sym t.over_opening.commits

  pub run_counts : CountsCommits w its_run
  run_counts = counts script spelled work opening o w down entries downs f its_run its_told run_apart many_is

  pub run_numbered : AreNumbered its_run
  run_numbered = are_numbered script spelled work opening o w down entries downs f its_run its_told run_apart many_is

  pub run_begins : BeginsAtOpening its_run
  run_begins = record {
    base = t.over_opening.base;
    rows = subst KeysAscend (sym f.opened.rows) (opening_ascend (opening_pages o) f.fit.clean.tree);
    parts = t.primaries_are ∙ ap (count_from 1) (sym f.work_of.primaries) ∙ sym (ap (λ (m : Mode). part_primaries m script.primaries) t.over_opening.mode_is);
  }

  pub run_views : RunOrder o.trx entries → ViewsAreRight its_run
  run_views order = all_of (λ (part : Part). EachBelow (λ above answer. IfShowsView answer (IsRightView its_run above)) [] part.answers.items) transcript.parts.items (λ part here.
      let covers : ViewsCover Run o.trx.base.ts (answers_in (entries part.primary)) = order part.primary (node_of part here) in
      let of_part : ViewsCover Run o.trx.base.ts part.answers.items = subst (ViewsCover Run o.trx.base.ts) (sym (answers_of part here)) covers in
      let of_mode : ViewsCover transcript.mode o.trx.base.ts part.answers.items = subst (λ (m : Mode). ViewsCover m o.trx.base.ts part.answers.items) (sym t.over_opening.mode_is) of_part in
      let of_base : ViewsCover transcript.mode opening.base part.answers.items = subst (λ (b : ℕ). ViewsCover transcript.mode b part.answers.items) (sym f.opened.base) of_mode in
      views_right script spelled work opening o w down entries downs f its_run its_told run_apart many_is [] part.answers.items (λ a there. in_flat (λ (p : Part). p.answers.items) part transcript.parts.items a here there) of_base)

  once_of : (part : Part) → IsIn part transcript.parts.items → AnswersEachOnce its_run part
  once_of part here session =
      let node = node_of part here in
      let low = node.0 in
      let no_zero : (part.primary == 0) ≡ false = ne_eqb part.primary 0 (λ e. absurd (omega (arith, e, low))) in
      let on_script : is_session_on script.sessions.items session part.primary ≡ is_session_on work.sessions session part.primary = ap (λ (s : List SessionOn). is_session_on s session part.primary) (sym f.work_of.sessions) in
      let its_part : belongs its_run part.primary session ≡ is_session_on work.sessions session part.primary = ap (λ (b : Bool). b || is_session_on script.sessions.items session part.primary) no_zero ∙ on_script in
      elim (decided (is_session_on work.sessions session part.primary)) [
        | inl on ↦
            ap (answered session) (answers_of part here) ∙ f.none_left part.primary session node on ∙ ap (stated session) f.work_of.lines
            ∙ sym (ap (λ (b : Bool). cond b (stated session script.lines.items) []) (its_part ∙ on))
        | inr off ↦
            none_answered session part.answers.items (λ a there same. false≢true (sym off ∙ ap (λ (s : ℕ). is_session_on work.sessions s part.primary) (sym same) ∙ session_of part a here there))
            ∙ sym (ap (λ (b : Bool). cond b (stated session script.lines.items) []) (its_part ∙ off))
      ]

  pub run_answered : AnswersEachStatement its_run
  run_answered = record {
    in_order = all_of (λ (part : Part). EachBelow (IsNextStatement its_run part.primary) [] part.answers.items) transcript.parts.items (λ part here. once-next its_run part.primary [] part.answers.items (once_of part here));
    none_left = all_of (LeavesNone its_run) transcript.parts.items (λ part here. once-none_left its_run part (once_of part here));
  }
