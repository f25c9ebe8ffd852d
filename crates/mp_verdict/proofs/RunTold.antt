-- The transcript of a run in mode Run: its execution has the answers of the primaries, and in each part the mtrs rise.
use Rattle.std.proofs.Common.{◌≡◌, ℕ, List, [], refl, sym, ap, subst, ◌∙◌, arith}
use Rattle.mp_machine.specs.Lists.{IsIn}
use Rattle.mp_script.specs.Below.{EachBelow}
use Rattle.mp_model.specs.declared.histories.Opening.{Opening}
use Rattle.mp_model.specs.declared.transcripts.Down.{Down}
use Rattle.mp_model.specs.declared.transcripts.Part.{Part}
use Rattle.mp_model.specs.declared.transcripts.Transcript.{Transcript}
use Rattle.mp_script.specs.declared.statements.Script.{Script}
use Rattle.mp_script.specs.Conflicts.{SeesEarlierCommits, HoldsItsKeys}
use Rattle.mp_script.specs.Execution.{Execution, execution_of}
use Rattle.mp_script.specs.Legal.{WritesSeeEarlierCommits, KeysAreHeld}
use Rattle.mp_script.specs.Spelling.{IsSpelled}
use Rattle.mp_script.specs.Standing.{StandsAbove}
use Rattle.mp_script.proofs.Ordered.{all_in, above_in, in_found, from_found, from_above_found, in_map, from_map, in_flat, from_flat}
use Rattle.mp_script.proofs.ItemsAbove.{all_of}
use Rattle.mp_script.proofs.CountedAnswers.{in_count, from_count}
use Rattle.mp_core_trx.specs.Events.{IsNode}
use Rattle.mp_core.specs.declared.opening.CoreOpening.{CoreOpening}
use Rattle.mp_core.specs.World.{CoreWorld}
use Rattle.mp_supports.specs.Work.{Work}
use Rattle.mp_supports.specs.Kept.{Entry, answers_in}
use Rattle.mp_verdict.specs.Finished.{Finished}
use Rattle.mp_verdict.specs.Orders.{IsRunTranscript}
use Rattle.mp_verdict.specs.Told.{IsToldBy}
use Rattle.mp_verdict.proofs.KeptOrder.{mtrs_up}
use Rattle.mp_verdict.proofs.ToldAnswers.{IsKeptBy, same_node, one_entry}
use Rattle.mp_verdict.proofs.KeyConflicts.{MtrsRise, see_earlier, hold_keys}
use Rattle.mp_verdict.proofs.NextInOrder.{next_in_order}

module _ (script : Script) (spelled : IsSpelled script) (work : Work) (opening : Opening) (o : CoreOpening) (w : CoreWorld) (down : ℕ → ℕ) (entries : ℕ → List Entry) (downs : List Down)
    (f : Finished work script opening o w down entries downs) (transcript : Transcript) (t : IsRunTranscript opening o.trx.primaries entries downs transcript) where
  abbrev pub run_mode : Execution
  run_mode = execution_of script opening transcript

  -- a part's primary is a node, and its answers are those that the node kept
  pub part_node : (part : Part) → IsIn part transcript.parts.items → IsNode o.trx part.primary
  part_node part there =
      let bounds = from_count part.primary 1 o.trx.primaries (subst (IsIn part.primary) t.primaries_are (in_map (λ (p : Part). p.primary) part transcript.parts.items there)) in
      let high = bounds.1 in
      (bounds.0, omega (arith, high))

  pub part_answers : (part : Part) → IsIn part transcript.parts.items → part.answers.items ≡ answers_in (entries part.primary)
  part_answers part there = all_in (λ (p : Part). p.answers.items ≡ answers_in (entries p.primary)) part transcript.parts.items t.answers_are there

  pub run_told : IsToldBy work opening o entries downs run_mode
  run_told = record {
    primaries = f.work_of.primaries;
    sessions = sym f.work_of.sessions;
    lines = sym f.work_of.lines;
    opening_is = refl;
    downs_are = t.over_opening.downs_are;
    has = λ n e a node there is.
        let low = node.0 in
        let high = node.1 in
        let part = from_map (λ (p : Part). p.primary) transcript.parts.items n (subst (IsIn n) (sym t.primaries_are) (in_count n 1 o.trx.primaries low (omega (arith, high)))) in
        let here : IsIn a (answers_in (entries n)) = in_found (λ (x : Entry). x.answer) e (entries n) a there is in
        in_flat (λ (p : Part). p.answers.items) part.0 transcript.parts.items a part.1
        (subst (IsIn a) (sym (part_answers part.0 part.1)) (subst (λ (k : ℕ). IsIn a (answers_in (entries k))) (sym part.2) here));
    only = λ a there.
        let part = from_flat (λ (p : Part). p.answers.items) transcript.parts.items a there in
        let e = from_found (λ (x : Entry). x.answer) (entries (part.0).primary) a (subst (IsIn a) (part_answers part.0 part.1) part.2) in
        ((part.0).primary, part_node part.0 part.1, (e.0, e.1, e.2));
  }

  pub run_rises : (part : Part) → IsIn part transcript.parts.items → MtrsRise script spelled work opening o w down entries downs f run_mode run_told part.answers.items
  run_rises part here = record {
    within = λ a there. in_flat (λ (p : Part). p.answers.items) part transcript.parts.items a here there;
    rises = λ a b n m e x j k above kept also made later.
        let at = from_above_found (λ (y : Entry). y.answer) (entries part.primary) a b (subst (StandsAbove a b) (part_answers part here) above) in
        let both = above_in at.0 at.1 (entries part.primary) at.2 in
        let node = part_node part here in
        let first : IsKeptBy script spelled work opening o w down entries downs f run_mode run_told part.primary at.0 a = record { node = node; there = both.0; is = at.3 } in
        let second : IsKeptBy script spelled work opening o w down entries downs f run_mode run_told part.primary at.1 b = record { node = node; there = both.1; is = at.4 } in
        let one = one_entry script spelled work opening o w down entries downs f run_mode run_told part.primary at.0 e a a first (same_node script spelled work opening o w down entries downs f run_mode run_told part.primary n at.0 e a a first kept refl) refl refl in
        let two = one_entry script spelled work opening o w down entries downs f run_mode run_told part.primary at.1 x b b second (same_node script spelled work opening o w down entries downs f run_mode run_told part.primary m at.1 x b b second also refl) refl refl in
        mtrs_up work o w f.facts part.primary (down part.primary) (entries part.primary) (f.kept part.primary node) (f.all part.primary node) (next_in_order script spelled work opening o w down entries downs f part.primary node) at.0 at.1 j k at.2
        (ap (λ (y : Entry). y.trace.mtr) one ∙ made) (ap (λ (y : Entry). y.trace.mtr) two ∙ later);
  }

  pub run_sees_earlier : WritesSeeEarlierCommits run_mode
  run_sees_earlier = all_of (λ (part : Part). EachBelow (SeesEarlierCommits run_mode) [] part.answers.items) transcript.parts.items (λ part here. see_earlier script spelled work opening o w down entries downs f run_mode run_told part.answers.items (run_rises part here))

  pub run_holds_keys : KeysAreHeld run_mode
  run_holds_keys = all_of (λ (part : Part). EachBelow (HoldsItsKeys run_mode) [] part.answers.items) transcript.parts.items (λ part here. hold_keys script spelled work opening o w down entries downs f run_mode run_told part.answers.items (run_rises part here))
