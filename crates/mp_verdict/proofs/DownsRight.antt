-- The `down` lines of a finished run rise and have their causes, and what is down stays down.
use Rattle.std.proofs.Common.{◌≡◌, ℕ, ◌==◌, ◌&&◌, true, List, [], refl, sym, subst, ◌∙◌, arith, eq-eqb}
use Rattle.std.specs.List.{list_any, AllByRecursion}
use Rattle.std.proofs.lemmas.Bool.{and_from, and_parts}
use Rattle.mp_machine.specs.Lists.{IsIn}
use Rattle.mp_model.specs.declared.histories.Opening.{Opening}
use Rattle.mp_model.specs.declared.replies.Answer.{Answer}
use Rattle.mp_model.specs.declared.transcripts.Down.{Down}
use Rattle.mp_model.specs.declared.transcripts.Part.{Part}
use Rattle.mp_model.specs.declared.transcripts.Transcript.{Transcript}
use Rattle.mp_script.specs.declared.statements.Script.{Script}
use Rattle.mp_script.specs.declared.statements.SessionOn.{SessionOn}
use Rattle.mp_script.specs.Below.{EachBelow}
use Rattle.mp_script.specs.Execution.{Execution, runs_on, is_session_on}
use Rattle.mp_script.specs.Spelling.{IsSpelled}
use Rattle.mp_script.specs.WentDown.{DownsRise, HaveTheirCause, same_primary, shows_down, is_stopped, StaysDown}
use Rattle.mp_script.specs.Standing.{StandsAbove}
use Rattle.mp_script.specs.DownLines.{down_lines}
use Rattle.mp_script.proofs.Ordered.{above_in, in_flat, from_above_found}
use Rattle.mp_script.proofs.ItemsAbove.{all_of, each_split, over_above, in_over, last_in}
use Rattle.mp_script.proofs.DownLines.{line_of_down, lines_rise, line_is_of}
use Rattle.mp_script.proofs.Looking.{any_in, any_is}
use Rattle.mp_core.specs.declared.opening.CoreOpening.{CoreOpening}
use Rattle.mp_core.specs.World.{CoreWorld}
use Rattle.mp_supports.specs.Work.{Work}
use Rattle.mp_supports.specs.Kept.{Entry, answers_in}
use Rattle.mp_verdict.specs.Finished.{Finished}
use Rattle.mp_verdict.specs.Orders.{NodeEntry, entries_given, IsMerged, StepOrder, IsStepTranscript, IsRunTranscript}
use Rattle.mp_verdict.specs.Told.{IsToldBy}
use Rattle.mp_verdict.proofs.KeptOrder.{stopped_below}
use Rattle.mp_verdict.proofs.ToldAnswers.{IsKeptBy, one_node, on_node, kept_answer, one_entry}
use Rattle.mp_verdict.proofs.RunTold.{run_mode, part_node, part_answers, run_told}
use Rattle.mp_verdict.proofs.StepTold.{step_mode, all_are, step_told, in_its_part}
use Rattle.mp_verdict.proofs.StepRules.{step_up}
use Rattle.mp_verdict.proofs.NextInOrder.{next_in_order}

module _ (script : Script) (spelled : IsSpelled script) (work : Work) (opening : Opening) (o : CoreOpening) (w : CoreWorld) (down : ℕ → ℕ) (entries : ℕ → List Entry) (downs : List Down)
    (f : Finished work script opening o w down entries downs) (run : Execution) (told : IsToldBy work opening o entries downs run) where
  its_lines : run.downs ≡ down_lines down 1 o.trx.primaries
  its_lines = told.downs_are ∙ f.downs_are

  pub downs_rise : DownsRise 0 run.downs
  downs_rise = subst (DownsRise 0) (sym its_lines) (lines_rise down 0 1 o.trx.primaries (omega arith))

  pub have_causes : HaveTheirCause run.downs
  have_causes = all_of (λ d. list_any (λ cause. cause.primary == d.by && cause.by == d.by) run.downs ≡ true) run.downs (λ d there.
      let x = line_is_of down 1 o.trx.primaries d (subst (IsIn d) its_lines there) in
      let high = x.high in
      let cause = f.cause d.primary (x.low, omega (arith, high)) x.is_down in
      let low_by = cause.0.0 in
      let high_by = cause.0.1 in
      let by_is : d.by ≡ down d.primary = x.by_is in
      let own : down (down d.primary) ≡ down d.primary = cause.1 in
      let line : IsIn (record { primary = down d.primary; by = down (down d.primary) }) run.downs = subst (IsIn (record { primary = down d.primary; by = down (down d.primary) })) (sym its_lines) (line_of_down down (down d.primary) 1 o.trx.primaries low_by (omega (arith, high_by)) (λ none. x.is_down (sym own ∙ none))) in
      any_in (λ (c : Down). c.primary == d.by && c.by == d.by) (record { primary = down d.primary; by = down (down d.primary) }) run.downs line
      (and_from (down d.primary == d.by) (down (down d.primary) == d.by) (eq-eqb (down d.primary) d.by (sym by_is)) (eq-eqb (down (down d.primary)) d.by (own ∙ sym by_is))))

  -- answers of one node stand in a list as they do in the node's
  pub record InNodeOrder (answers : List Answer) : Type 0 where
    pub within : (a : Answer) → IsIn a answers → IsIn a run.answers
    pub up : (a b : Answer) (n : ℕ) (e x : Entry) → StandsAbove a b answers → IsKeptBy script spelled work opening o w down entries downs f run told n e a → IsKeptBy script spelled work opening o w down entries downs f run told n x b → StandsAbove e x (entries n)

  stays_one : (answers : List Answer) → InNodeOrder answers → (a b : Answer) → StandsAbove a b answers → IsIn a answers → IsIn b answers → (same_primary run a.session b.session && shows_down a.reply) ≡ true → is_stopped b.reply ≡ true
  stays_one answers ordered a b above here there both_so =
      let both = and_parts (same_primary run a.session b.session) (shows_down a.reply) both_so in
      let k = kept_answer script spelled work opening o w down entries downs f run told a (ordered.within a here) in
      let l = kept_answer script spelled work opening o w down entries downs f run told b (ordered.within b there) in
      let on = any_is (λ (s : SessionOn). s.session == a.session && runs_on run b.session s.primary) run.sessions both.0 in
      let parts = and_parts ((on.0).session == a.session) (runs_on run b.session (on.0).primary) on.2 in
      let a_on : is_session_on work.sessions a.session (on.0).primary ≡ true =
      subst (λ (ss : List SessionOn). is_session_on ss a.session (on.0).primary ≡ true) told.sessions
      (any_in (λ (s : SessionOn). s.session == a.session && s.primary == (on.0).primary) on.0 run.sessions on.1 (and_from ((on.0).session == a.session) ((on.0).primary == (on.0).primary) parts.0 (eq-eqb (on.0).primary (on.0).primary refl))) in
      let b_on : is_session_on work.sessions b.session (on.0).primary ≡ true = subst (λ (ss : List SessionOn). is_session_on ss b.session (on.0).primary ≡ true) told.sessions parts.1 in
      let node_a = one_node script spelled work opening o w down entries downs f run told a.session k.0 (on.0).primary (on_node script spelled work opening o w down entries downs f run told k.0 k.1 a k.2) a_on in
      let node_b = one_node script spelled work opening o w down entries downs f run told b.session l.0 (on.0).primary (on_node script spelled work opening o w down entries downs f run told l.0 l.1 b l.2) b_on in
      let kept : IsKeptBy script spelled work opening o w down entries downs f run told k.0 l.1 b = subst (λ (i : ℕ). IsKeptBy script spelled work opening o w down entries downs f run told i l.1 b) (node_b ∙ sym node_a) l.2 in
      let n = k.2.node in
      stopped_below work o w f.facts k.0 (down k.0) (entries k.0) (f.kept k.0 n) (f.all k.0 n) (next_in_order script spelled work opening o w down entries downs f k.0 n) k.1 l.1 a b (ordered.up a b k.0 k.1 l.1 above k.2 kept) k.2.is kept.is both.1

  pub stays : (answers : List Answer) → InNodeOrder answers → EachBelow (StaysDown run) [] answers
  stays answers ordered = each_split (StaysDown run) answers [] answers refl (λ over y rest split any.
      let x = any_is (λ (other : Answer). same_primary run other.session y.session && shows_down other.reply) over any in
      stays_one answers ordered x.0 y (subst (StandsAbove x.0 y) (sym split) (over_above over y rest x.0 x.1)) (subst (IsIn x.0) (sym split) (in_over over y rest x.0 x.1)) (subst (IsIn y) (sym split) (last_in over y rest)) x.2)

module _ (script : Script) (spelled : IsSpelled script) (work : Work) (opening : Opening) (o : CoreOpening) (w : CoreWorld) (down : ℕ → ℕ) (entries : ℕ → List Entry) (downs : List Down)
    (f : Finished work script opening o w down entries downs) (transcript : Transcript) (t : IsRunTranscript opening o.trx.primaries entries downs transcript) where
  abbrev its_run : Execution
  its_run = run_mode script spelled work opening o w down entries downs f transcript t

  abbrev its_told : IsToldBy work opening o entries downs its_run
  its_told = run_told script spelled work opening o w down entries downs f transcript t

  run_order : (part : Part) → IsIn part transcript.parts.items → InNodeOrder script spelled work opening o w down entries downs f its_run its_told part.answers.items
  run_order part here = record {
    within = λ a there. in_flat (λ (p : Part). p.answers.items) part transcript.parts.items a here there;
    up = λ a b n e x above k l.
        let at = from_above_found (λ (y : Entry). y.answer) (entries part.primary) a b (subst (StandsAbove a b) (part_answers script spelled work opening o w down entries downs f transcript t part here) above) in
        let both = above_in at.0 at.1 (entries part.primary) at.2 in
        let node = part_node script spelled work opening o w down entries downs f transcript t part here in
        let first : IsKeptBy script spelled work opening o w down entries downs f its_run its_told part.primary at.0 a = record { node = node; there = both.0; is = at.3 } in
        let second : IsKeptBy script spelled work opening o w down entries downs f its_run its_told part.primary at.1 b = record { node = node; there = both.1; is = at.4 } in
        let is : part.primary ≡ n = one_node script spelled work opening o w down entries downs f its_run its_told a.session part.primary n (on_node script spelled work opening o w down entries downs f its_run its_told part.primary at.0 a first) (on_node script spelled work opening o w down entries downs f its_run its_told n e a k) in
        let one = one_entry script spelled work opening o w down entries downs f its_run its_told part.primary at.0 e a a first (subst (λ (i : ℕ). IsKeptBy script spelled work opening o w down entries downs f its_run its_told i e a) (sym is) k) refl refl in
        let two = one_entry script spelled work opening o w down entries downs f its_run its_told part.primary at.1 x b b second (subst (λ (i : ℕ). IsKeptBy script spelled work opening o w down entries downs f its_run its_told i x b) (sym is) l) refl refl in
        subst (λ (i : ℕ). StandsAbove e x (entries i)) is (subst (λ (y : Entry). StandsAbove y x (entries part.primary)) one (subst (λ (y : Entry). StandsAbove at.0 y (entries part.primary)) two at.2));
  }

  pub run_stays : AllByRecursion (λ part. EachBelow (StaysDown its_run) [] part.answers.items) transcript.parts.items
  run_stays = all_of (λ (part : Part). EachBelow (StaysDown its_run) [] part.answers.items) transcript.parts.items (λ part here. stays script spelled work opening o w down entries downs f its_run its_told part.answers.items (run_order part here))

module _ (script : Script) (spelled : IsSpelled script) (work : Work) (opening : Opening) (o : CoreOpening) (w : CoreWorld) (down : ℕ → ℕ) (entries : ℕ → List Entry) (downs : List Down)
    (f : Finished work script opening o w down entries downs) (given : List NodeEntry) (merged : IsMerged o.trx entries given) (order : StepOrder opening.base given)
    (transcript : Transcript) (t : IsStepTranscript opening given downs transcript) where
  abbrev this_run : Execution
  this_run = step_mode script spelled work opening o w down entries downs f given merged order transcript t

  abbrev this_told : IsToldBy work opening o entries downs this_run
  this_told = step_told script spelled work opening o w down entries downs f given merged order transcript t

  step_in_order : InNodeOrder script spelled work opening o w down entries downs f this_run this_told (answers_in (entries_given given))
  step_in_order = record {
    within = λ a there. subst (IsIn a) (sym (all_are script spelled work opening o w down entries downs f given merged order transcript t)) there;
    up = λ a b n e x above k l. step_up script spelled work opening o w down entries downs f given merged order transcript t a b n e x above k l;
  }

  pub step_stays : AllByRecursion (λ part. EachBelow (StaysDown this_run) [] part.answers.items) transcript.parts.items
  step_stays = in_its_part script spelled work opening o w down entries downs f given merged order transcript t (StaysDown this_run) (stays script spelled work opening o w down entries downs f this_run this_told (answers_in (entries_given given)) step_in_order)
