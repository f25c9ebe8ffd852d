-- The rules of a legal transcript that speak of parts, numbers and views, in mode Step.
use Rattle.std.proofs.Common.{◌≡◌, ◌≢◌, ℕ, ◌==◌, Bool, true, false, cond, List, [], ◌∷◌, length, map, filter, Some, refl, sym, ap, subst, ◌∙◌, inl, inr, arith, eq-eqb}
use mathlib.Core.Bool.{false≢true}
use Rattle.std.specs.List.{AllByRecursion}
use Rattle.mp_machine.specs.Lists.{IsIn}
use Rattle.mp_model.specs.Folded.{KeysAscend}
use Rattle.mp_model.specs.declared.histories.Opening.{Opening}
use Rattle.mp_model.specs.declared.replies.Answer.{Answer}
use Rattle.mp_model.specs.declared.transcripts.Down.{Down}
use Rattle.mp_model.specs.declared.transcripts.Mode.{Mode}
use Rattle.mp_model.specs.declared.transcripts.Part.{Part}
use Rattle.mp_model.specs.declared.transcripts.Transcript.{Transcript}
use Rattle.mp_script.specs.declared.statements.Script.{Script}
use Rattle.mp_script.specs.declared.statements.SessionOn.{SessionOn}
use Rattle.mp_script.specs.Below.{EachBelow, numbers, answered, stated}
use Rattle.mp_script.specs.Entries.{is_declared}
use Rattle.mp_script.specs.Execution.{Execution, is_session_on}
use Rattle.mp_script.specs.InTheirPart.{part_primaries, BeginsAtOpening, belongs, IsNextStatement, LeavesNone, AnswersEachStatement, AnswersEachOnce}
use Rattle.mp_script.specs.Legal.{ViewsAreRight}
use Rattle.mp_script.specs.Numbered.{AreNumbered, IfShowsView, IsRightView}
use Rattle.mp_script.specs.Spelling.{IsSpelled}
use Rattle.mp_script.specs.Standing.{StandsAbove}
use Rattle.mp_script.specs.Answers.{AreApartAnswers, ViewsCover}
use Rattle.mp_script.proofs.InTurn.{once-next, once-none_left}
use Rattle.mp_script.proofs.Ordered.{above_in, from_above_found, from_above_map, above_filter, above_map}
use Rattle.mp_script.proofs.ItemsAbove.{pairs_by}
use Rattle.mp_script.proofs.CountedAnswers.{apart_by, none_answered, one_part, same_answered, other_answered}
use Rattle.mp_script.proofs.Declared.{on_declared, declared_on, undeclared_states}
use Rattle.mp_core_trx.specs.Events.{IsNode}
use Rattle.mp_histories.proofs.Writers.{decided}
use Rattle.mp_core.specs.declared.opening.CoreOpening.{CoreOpening}
use Rattle.mp_core.specs.World.{CoreWorld}
use Rattle.mp_facts.specs.Facts.{opening_pages}
use Rattle.mp_supports.specs.Work.{Work}
use Rattle.mp_supports.specs.Kept.{Entry, answers_in}
use Rattle.mp_verdict.specs.Counting.{CountsCommits}
use Rattle.mp_verdict.specs.Finished.{Finished}
use Rattle.mp_verdict.specs.Orders.{NodeEntry, entries_given, given_by, IsMerged, StepOrder, IsStepTranscript}
use Rattle.mp_verdict.specs.Told.{IsToldBy}
use Rattle.mp_verdict.proofs.OpeningRows.{opening_ascend}
use Rattle.mp_verdict.proofs.KeptOrder.{index_up}
use Rattle.mp_verdict.proofs.ToldAnswers.{IsKeptBy, one_node, on_node, kept_answer, same_node, one_entry}
use Rattle.mp_verdict.proofs.Numbering.{counts, are_numbered, views_right}
use Rattle.mp_verdict.proofs.StepTold.{step_mode, all_are, kept_given, step_told, in_its_part}
use Rattle.mp_verdict.proofs.NextInOrder.{next_in_order}

-- the answers of a session are those of its node
answered_by : (session n : ℕ) (given : List NodeEntry) → ((x : NodeEntry) (a : Answer) → IsIn x given → x.entry.answer ≡ Some a → a.session ≡ session → (x.node == n) ≡ true) → answered session (answers_in (entries_given given)) ≡ answered session (answers_in (given_by n given))
answered_by session n [] h = refl
answered_by session n (x ∷ given) h =
    let rest = answered_by session n given (λ y a there. h y a (inr there)) in
    elim (decided (x.node == n)) [
      | inl t ↦
          same_answered session x.entry.answer (answers_in (entries_given given)) (answers_in (given_by n given)) rest
          ∙ sym (ap (λ (b : Bool). answered session (answers_in (entries_given (cond b (x ∷ filter (λ (y : NodeEntry). y.node == n) given) (filter (λ (y : NodeEntry). y.node == n) given))))) t)
      | inr t ↦
          other_answered session x.entry.answer (answers_in (entries_given given)) (λ a is same. false≢true (sym t ∙ h x a (inl refl) is same))
          ∙ rest
          ∙ sym (ap (λ (b : Bool). answered session (answers_in (entries_given (cond b (x ∷ filter (λ (y : NodeEntry). y.node == n) given) (filter (λ (y : NodeEntry). y.node == n) given))))) t)
    ]

module _ (script : Script) (spelled : IsSpelled script) (work : Work) (opening : Opening) (o : CoreOpening) (w : CoreWorld) (down : ℕ → ℕ) (entries : ℕ → List Entry) (downs : List Down)
    (f : Finished work script opening o w down entries downs) (given : List NodeEntry) (merged : IsMerged o.trx entries given) (order : StepOrder opening.base given)
    (transcript : Transcript) (t : IsStepTranscript opening given downs transcript) where
  abbrev its_run : Execution
  its_run = step_mode script spelled work opening o w down entries downs f given merged order transcript t

  abbrev its_told : IsToldBy work opening o entries downs its_run
  its_told = step_told script spelled work opening o w down entries downs f given merged order transcript t

  abbrev its_answers : List Answer
  its_answers = answers_in (entries_given given)

  are_all : its_run.answers ≡ its_answers
  are_all = all_are script spelled work opening o w down entries downs f given merged order transcript t

  kept_so : (x : NodeEntry) (a : Answer) → IsIn x given → x.entry.answer ≡ Some a → IsKeptBy script spelled work opening o w down entries downs f its_run its_told x.node x.entry a
  kept_so x a there is = let k = kept_given script spelled work opening o w down entries downs f given merged order transcript t x there in record { node = k.0; there = k.1; is = is }

  -- two answers of one node stand in its list as in all
  pub step_up : (a b : Answer) (n : ℕ) (e x : Entry) → StandsAbove a b its_answers → IsKeptBy script spelled work opening o w down entries downs f its_run its_told n e a → IsKeptBy script spelled work opening o w down entries downs f its_run its_told n x b → StandsAbove e x (entries n)
  step_up a b n e x above k l =
      let at = from_above_found (λ (y : Entry). y.answer) (entries_given given) a b above in
      let up = from_above_map (λ (y : NodeEntry). y.entry) given at.0 at.1 at.2 in
      let both = above_in up.0 up.1 given up.2 in
      let first = kept_so up.0 a both.0 (ap (λ (y : Entry). y.answer) up.3 ∙ at.3) in
      let second = kept_so up.1 b both.1 (ap (λ (y : Entry). y.answer) up.4 ∙ at.4) in
      let node_a = one_node script spelled work opening o w down entries downs f its_run its_told a.session (up.0).node n (on_node script spelled work opening o w down entries downs f its_run its_told (up.0).node (up.0).entry a first) (on_node script spelled work opening o w down entries downs f its_run its_told n e a k) in
      let node_b = one_node script spelled work opening o w down entries downs f its_run its_told b.session (up.1).node n (on_node script spelled work opening o w down entries downs f its_run its_told (up.1).node (up.1).entry b second) (on_node script spelled work opening o w down entries downs f its_run its_told n x b l) in
      let one = one_entry script spelled work opening o w down entries downs f its_run its_told n (up.0).entry e a a (subst (λ (i : ℕ). IsKeptBy script spelled work opening o w down entries downs f its_run its_told i (up.0).entry a) node_a first) k refl refl in
      let two = one_entry script spelled work opening o w down entries downs f its_run its_told n (up.1).entry x b b (subst (λ (i : ℕ). IsKeptBy script spelled work opening o w down entries downs f its_run its_told i (up.1).entry b) node_b second) l refl refl in
      let stands : StandsAbove (up.0).entry (up.1).entry (given_by n given) =
      above_map (λ (y : NodeEntry). y.entry) up.0 up.1 (filter (λ (y : NodeEntry). y.node == n) given) (above_filter (λ (y : NodeEntry). y.node == n) up.0 up.1 given up.2 (eq-eqb (up.0).node n node_a) (eq-eqb (up.1).node n node_b)) in
      subst (λ (y : Entry). StandsAbove y x (entries n)) one (subst (λ (y : Entry). StandsAbove (up.0).entry y (entries n)) two (subst (StandsAbove (up.0).entry (up.1).entry) (merged.each n k.node) stands))

  pub step_apart : AreApartAnswers its_run.answers
  step_apart = apart_by its_run.answers (pairs_by (λ (x y : Answer). x.session ≡ y.session → x.index ≢ y.index) its_run.answers (λ a b above session index.
      let both = above_in a b its_run.answers above in
      let k = kept_answer script spelled work opening o w down entries downs f its_run its_told a both.0 in
      let l = kept_answer script spelled work opening o w down entries downs f its_run its_told b both.1 in
      let kept = same_node script spelled work opening o w down entries downs f its_run its_told k.0 l.0 k.1 l.1 a b k.2 l.2 session in
      let up = step_up a b k.0 k.1 l.1 (subst (StandsAbove a b) are_all above) k.2 kept in
      let n = k.2.node in
      let lt = index_up work o w f.facts k.0 (down k.0) (entries k.0) (f.kept k.0 n) (f.all k.0 n) (next_in_order script spelled work opening o w down entries downs f k.0 n) k.1 l.1 a b up k.2.is kept.is session in
      omega (arith, lt, index)))

  many_is : length (numbers its_run.answers) ≡ its_run.commits
  many_is = sym t.over_opening.commits

  pub step_counts : CountsCommits w its_run
  step_counts = counts script spelled work opening o w down entries downs f its_run its_told step_apart many_is

  pub step_numbered : AreNumbered its_run
  step_numbered = are_numbered script spelled work opening o w down entries downs f its_run its_told step_apart many_is

  pub step_begins : BeginsAtOpening its_run
  step_begins = record {
    base = t.over_opening.base;
    rows = subst KeysAscend (sym f.opened.rows) (opening_ascend (opening_pages o) f.fit.clean.tree);
    parts =
        let part = one_part its_answers transcript.parts.items t.part in
        ap (map (λ (p : Part). p.primary)) part.1 ∙ ap (λ (n : ℕ). n ∷ []) part.2 ∙ sym (ap (λ (m : Mode). part_primaries m script.primaries) t.over_opening.mode_is);
  }

  pub step_views : ViewsAreRight its_run
  step_views =
      let of_mode : ViewsCover transcript.mode opening.base its_answers = subst (λ (m : Mode). ViewsCover m opening.base its_answers) (sym t.over_opening.mode_is) order.views in
      in_its_part script spelled work opening o w down entries downs f given merged order transcript t (λ above answer. IfShowsView answer (IsRightView its_run above))
      (views_right script spelled work opening o w down entries downs f its_run its_told step_apart many_is [] its_answers (λ a there. subst (IsIn a) (sym are_all) there) of_mode)

  -- a session's statements are all answered, in its order
  all_stated : (session : ℕ) → answered session its_answers ≡ stated session script.lines.items
  all_stated session = elim (decided (is_declared script.sessions.items session)) [
    | inl declared ↦
        let on = declared_on script spelled session declared in
        let low = on.1 in
        let high = on.2 in
        let primaries = f.work_of.primaries in
        let node : IsNode o.trx on.0 = (low, omega (arith, high, primaries)) in
        let here : is_session_on work.sessions session on.0 ≡ true = subst (λ (s : List SessionOn). is_session_on s session on.0 ≡ true) (sym f.work_of.sessions) on.3 in
        answered_by session on.0 given (λ x a there is same. eq-eqb (x.node) on.0 (one_node script spelled work opening o w down entries downs f its_run its_told session x.node on.0 (subst (λ (s : ℕ). is_session_on work.sessions s x.node ≡ true) same (on_node script spelled work opening o w down entries downs f its_run its_told x.node x.entry a (kept_so x a there is))) here))
        ∙ ap (λ (es : List Entry). answered session (answers_in es)) (merged.each on.0 node)
        ∙ f.none_left on.0 session node here ∙ ap (stated session) f.work_of.lines
    | inr undeclared ↦
        none_answered session its_answers (λ a there same.
        let k = kept_answer script spelled work opening o w down entries downs f its_run its_told a (subst (IsIn a) (sym are_all) there) in
        let on : is_session_on script.sessions.items session k.0 ≡ true = subst (λ (s : List SessionOn). is_session_on s session k.0 ≡ true) f.work_of.sessions (subst (λ (s : ℕ). is_session_on work.sessions s k.0 ≡ true) same (on_node script spelled work opening o w down entries downs f its_run its_told k.0 k.1 a k.2)) in
        false≢true (sym undeclared ∙ on_declared script.sessions.items session k.0 on))
        ∙ sym (undeclared_states script spelled session undeclared)
  ]

  pub step_answered : AnswersEachStatement its_run
  step_answered =
      let part = one_part its_answers transcript.parts.items t.part in
      let once : AnswersEachOnce its_run part.0 = λ session.
      let its_part : belongs its_run (part.0).primary session ≡ true = ap (λ (n : ℕ). belongs its_run n session) part.2 in
      ap (answered session) part.3 ∙ all_stated session ∙ sym (ap (λ (b : Bool). cond b (stated session script.lines.items) []) its_part) in
      record {
        in_order = subst (AllByRecursion (λ (p : Part). EachBelow (IsNextStatement its_run p.primary) [] p.answers.items)) (sym part.1) (once-next its_run (part.0).primary [] (part.0).answers.items once, tt);
        none_left = subst (AllByRecursion (LeavesNone its_run)) (sym part.1) (once-none_left its_run part.0 once, tt);
      }
