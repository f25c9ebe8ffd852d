-- The transcript of a run in mode Step: its execution has the answers of all primaries in the order in which they were given,
-- and in it the mtrs rise.
use Rattle.std.proofs.Common.{◌≡◌, ℕ, ◌<◌, ◌==◌, List, [], filter, refl, sym, ap, subst, ◌∙◌, eq-eqb, append-nil}
use Rattle.std.specs.List.{filter_map, flat_map, AllByRecursion}
use Rattle.mp_machine.specs.Lists.{IsIn}
use Rattle.mp_model.specs.declared.histories.Opening.{Opening}
use Rattle.mp_model.specs.declared.replies.Answer.{Answer}
use Rattle.mp_model.specs.declared.transcripts.Down.{Down}
use Rattle.mp_model.specs.declared.transcripts.Part.{Part}
use Rattle.mp_model.specs.declared.transcripts.Transcript.{Transcript}
use Rattle.mp_script.specs.declared.statements.Script.{Script}
use Rattle.mp_script.specs.Below.{EachBelow}
use Rattle.mp_script.specs.Conflicts.{SeesEarlierCommits, HoldsItsKeys}
use Rattle.mp_script.specs.Execution.{Execution, execution_of}
use Rattle.mp_script.specs.Legal.{WritesSeeEarlierCommits, KeysAreHeld}
use Rattle.mp_script.specs.Spelling.{IsSpelled}
use Rattle.mp_script.proofs.Ordered.{pair_above, all_in, above_in, in_found, from_found, above_found, from_above_found, in_map, from_map, from_above_map, in_filter, from_filter}
use Rattle.mp_script.proofs.ItemsAbove.{ascend_pairs}
use Rattle.mp_script.proofs.CountedAnswers.{one_part}
use Rattle.mp_core_trx.specs.Events.{IsNode}
use Rattle.mp_core.specs.declared.opening.CoreOpening.{CoreOpening}
use Rattle.mp_core.specs.World.{CoreWorld}
use Rattle.mp_core.specs.OwnMtrs.{TrxMtr}
use Rattle.mp_supports.specs.Work.{Work}
use Rattle.mp_supports.specs.Kept.{Entry, answers_in}
use Rattle.mp_verdict.specs.Finished.{Finished}
use Rattle.mp_verdict.specs.Orders.{NodeEntry, entries_given, IsMerged, StepOrder, IsStepTranscript}
use Rattle.mp_verdict.specs.Told.{IsToldBy}
use Rattle.mp_verdict.proofs.ToldAnswers.{IsKeptBy, same_node, one_entry}
use Rattle.mp_verdict.proofs.KeyConflicts.{MtrsRise, see_earlier, hold_keys}

module _ (script : Script) (spelled : IsSpelled script) (work : Work) (opening : Opening) (o : CoreOpening) (w : CoreWorld) (down : ℕ → ℕ) (entries : ℕ → List Entry) (downs : List Down)
    (f : Finished work script opening o w down entries downs) (given : List NodeEntry) (merged : IsMerged o.trx entries given) (order : StepOrder opening.base given)
    (transcript : Transcript) (t : IsStepTranscript opening given downs transcript) where
  abbrev pub step_mode : Execution
  step_mode = execution_of script opening transcript

  abbrev pub given_answers : List Answer
  given_answers = answers_in (entries_given given)

  pub all_are : step_mode.answers ≡ given_answers
  all_are =
      let part = one_part given_answers transcript.parts.items t.part in
      ap (flat_map (λ (p : Part). p.answers.items)) part.1 ∙ append-nil (part.0).answers.items ∙ part.3

  -- what was given is kept by its node
  pub kept_given : (x : NodeEntry) → IsIn x given → IsNode o.trx x.node × IsIn x.entry (entries x.node)
  kept_given x there =
      let node = all_in (λ (y : NodeEntry). IsNode o.trx y.node) x given merged.of_nodes there in (
        node,
        subst (IsIn x.entry) (merged.each x.node node) (in_map (λ (y : NodeEntry). y.entry) x (filter (λ (y : NodeEntry). y.node == x.node) given) (in_filter (λ (y : NodeEntry). y.node == x.node) x given there (eq-eqb x.node x.node refl))),
      )

  pub step_told : IsToldBy work opening o entries downs step_mode
  step_told = record {
    primaries = f.work_of.primaries;
    sessions = sym f.work_of.sessions;
    lines = sym f.work_of.lines;
    opening_is = refl;
    downs_are = t.over_opening.downs_are;
    has = λ n e a node there is.
        let x = from_map (λ (y : NodeEntry). y.entry) (filter (λ (y : NodeEntry). y.node == n) given) e (subst (IsIn e) (sym (merged.each n node)) there) in
        let here : IsIn e (entries_given given) = subst (λ (y : Entry). IsIn y (entries_given given)) x.2 (in_map (λ (y : NodeEntry). y.entry) x.0 given (from_filter (λ (y : NodeEntry). y.node == n) x.0 given x.1)) in
        subst (IsIn a) (sym all_are) (in_found (λ (y : Entry). y.answer) e (entries_given given) a here is);
    only = λ a there.
        let e = from_found (λ (y : Entry). y.answer) (entries_given given) a (subst (IsIn a) all_are there) in
        let x = from_map (λ (y : NodeEntry). y.entry) given e.0 e.1 in
        let kept = kept_given x.0 x.1 in
        ((x.0).node, kept.0, ((x.0).entry, kept.1, ap (λ (y : Entry). y.answer) x.2 ∙ e.2));
  }

  pub step_rises : MtrsRise script spelled work opening o w down entries downs f step_mode step_told given_answers
  step_rises = record {
    within = λ a there. subst (IsIn a) (sym all_are) there;
    rises = λ a b n m e x j k above kept also made later.
        let at = from_above_found (λ (y : Entry). y.answer) (entries_given given) a b above in
        let up = from_above_map (λ (y : NodeEntry). y.entry) given at.0 at.1 at.2 in
        let both = above_in up.0 up.1 given up.2 in
        let lower = kept_given up.0 both.0 in
        let upper = kept_given up.1 both.1 in
        let first : IsKeptBy script spelled work opening o w down entries downs f step_mode step_told (up.0).node (up.0).entry a = record { node = lower.0; there = lower.1; is = ap (λ (y : Entry). y.answer) up.3 ∙ at.3 } in
        let second : IsKeptBy script spelled work opening o w down entries downs f step_mode step_told (up.1).node (up.1).entry b = record { node = upper.0; there = upper.1; is = ap (λ (y : Entry). y.answer) up.4 ∙ at.4 } in
        let one = one_entry script spelled work opening o w down entries downs f step_mode step_told (up.0).node (up.0).entry e a a first (same_node script spelled work opening o w down entries downs f step_mode step_told (up.0).node n (up.0).entry e a a first kept refl) refl refl in
        let two = one_entry script spelled work opening o w down entries downs f step_mode step_told (up.1).node (up.1).entry x b b second (same_node script spelled work opening o w down entries downs f step_mode step_told (up.1).node m (up.1).entry x b b second also refl) refl refl in
        pair_above (λ (c d : TrxMtr). c.at < d.at) j k (filter_map (λ (y : NodeEntry). y.entry.trace.mtr) given) (ascend_pairs (λ (c : TrxMtr). c.at) 0 (filter_map (λ (y : NodeEntry). y.entry.trace.mtr) given) order.rising)
        (above_found (λ (y : NodeEntry). y.entry.trace.mtr) up.0 up.1 given j k up.2 (ap (λ (y : Entry). y.trace.mtr) one ∙ made) (ap (λ (y : Entry). y.trace.mtr) two ∙ later));
  }

  -- what holds of the answers in the order in which they were given holds in their one part
  pub in_its_part : (P : List Answer → Answer → Type 0) → EachBelow P [] given_answers → AllByRecursion (λ part. EachBelow P [] part.answers.items) transcript.parts.items
  in_its_part P each =
      let part = one_part given_answers transcript.parts.items t.part in
      subst (AllByRecursion (λ (p : Part). EachBelow P [] p.answers.items)) (sym part.1) (subst (EachBelow P []) (sym part.3) each, tt)

  pub step_sees_earlier : WritesSeeEarlierCommits step_mode
  step_sees_earlier = in_its_part (SeesEarlierCommits step_mode) (see_earlier script spelled work opening o w down entries downs f step_mode step_told given_answers step_rises)

  pub step_holds_keys : KeysAreHeld step_mode
  step_holds_keys = in_its_part (HoldsItsKeys step_mode) (hold_keys script spelled work opening o w down entries downs f step_mode step_told given_answers step_rises)
