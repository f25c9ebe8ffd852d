-- A commit that its node recorded was answered, and what its transaction's statements set last is what the puts of its id left.
use Rattle.std.proofs.Common.{◌≡◌, ◌≢◌, ℕ, ◌+◌, ◌≤◌, false, List, Some, None, sym, ap, subst, ◌∙◌, inl, inr, arith}
use Rattle.std.proofs.lemmas.Bool.{cases_lt}
use Rattle.mp_machine.specs.Lists.{IsIn}
use Rattle.mp_model.specs.declared.histories.Opening.{Opening}
use Rattle.mp_model.specs.declared.ids.TrxId.{TrxId}
use Rattle.mp_model.specs.declared.ids.TrxName.{TrxName}
use Rattle.mp_model.specs.declared.replies.Answer.{Answer}
use Rattle.mp_model.specs.declared.replies.Reply.{Reply}
use Rattle.mp_model.specs.declared.transcripts.Down.{Down}
use Rattle.mp_script.specs.declared.statements.Line.{Line}
use Rattle.mp_script.specs.declared.statements.Script.{Script}
use Rattle.mp_script.specs.Execution.{Execution, line_at}
use Rattle.mp_script.specs.Spelling.{IsSpelled}
use Rattle.mp_script.specs.Transactions.{trx_in_lines, trx_of, view_of, statements_before, cts_of}
use Rattle.mp_script.specs.WentDown.{is_stopped}
use Rattle.mp_script.specs.LastValues.{last_value, first_writes}
use Rattle.mp_script.proofs.Options.{some_is, not_some}
use Rattle.mp_cells.specs.declared.rows.Row.{Row}
use Rattle.mp_core_trx.specs.declared.part.Draw.{Draw}
use Rattle.mp_core_trx.specs.Parts.{draw_of}
use Rattle.mp_core_trx.specs.Events.{IsNode}
use Rattle.mp_histories.specs.Histories.{entry_at}
use Rattle.mp_core.specs.declared.opening.CoreOpening.{CoreOpening}
use Rattle.mp_core.specs.World.{CoreWorld, core_part}
use Rattle.mp_core.specs.OwnMtrs.{row_put_by, row_restored_by, commit_by_mtr, TrxMtr}
use Rattle.mp_facts.specs.Facts.{IsRecorded}
use Rattle.mp_supports.specs.Work.{Work}
use Rattle.mp_supports.specs.Supports.{IsTrxOf, RecordsCommit}
use Rattle.mp_supports.specs.Kept.{Entry}
use Rattle.mp_verdict.specs.Counting.{CountsCommits}
use Rattle.mp_verdict.specs.Finished.{Finished}
use Rattle.mp_verdict.specs.Told.{IsToldBy}
use Rattle.mp_verdict.specs.Reads.{PutBelow, PutOf, LastPutOf}
use Rattle.mp_verdict.specs.Writers.{IsWriter}
use Rattle.mp_verdict.proofs.PlacesOf.{put_of}
use Rattle.mp_verdict.proofs.WhichTraces.{IsCommitBy, which_mtr}
use Rattle.mp_verdict.proofs.KeptOrder.{answer_of, entry_of_mtr, mtrs_up}
use Rattle.mp_verdict.proofs.ToldAnswers.{IsKeptBy, supported, in_run}
use Rattle.mp_verdict.proofs.WriterOf.{writer_is}
use Rattle.mp_verdict.proofs.Telling.{node_of_mtr, tells_of}
use Rattle.mp_verdict.proofs.CommitEntries.{IsRecordEntry, view_by, ends_at}
use Rattle.mp_verdict.proofs.ReadsRight.{view_bounds}
use Rattle.mp_verdict.proofs.NextInOrder.{next_in_order}
use Rattle.mp_outcome.proofs.OwnPuts.{last_set as last_set_by, none_set as none_set_by}

module _ (script : Script) (spelled : IsSpelled script) (work : Work) (opening : Opening) (o : CoreOpening) (w : CoreWorld) (down : ℕ → ℕ) (entries : ℕ → List Entry) (downs : List Down)
    (f : Finished work script opening o w down entries downs) (run : Execution) (told : IsToldBy work opening o entries downs run) where
  -- an answer that shows a commit's number, with the entry that recorded it
  pub record IsAnswerOf (id : TrxId) (cts : ℕ) : Type 0 where
    pub answer : Answer
    pub there : IsIn answer run.answers
    pub shows : cts_of answer.reply ≡ Some cts
    pub entry : IsRecordEntry script spelled work opening o w down entries downs f run told id.node id cts answer

  module _ (id : TrxId) (cts : ℕ) (r : IsRecorded w id cts) where
    node : IsNode o.trx id.node
    node = node_of_mtr script spelled work opening o w down entries downs f run told id.node r.made r.was_made

    not_put : (row : Row) → row_put_by r.made.mtr ≡ Some row → ⊥
    not_put row is = not_some (draw_of id cts) (sym (put_of o w f.facts id.node r.made row r.was_made is).commit ∙ r.commit)

    not_back : row_restored_by r.made.mtr ≡ None
    not_back = elim (f.facts.of_history.kinds id.node r.made r.was_made) [
      | inl p ↦ p.1.restored
      | inr (inl b) ↦ absurd (not_some (draw_of id cts) (sym b.1.commit ∙ r.commit))
      | inr (inr k) ↦ k.2.restored
    ]

    by_commit : (e : Entry) (a : Answer) → IsKeptBy script spelled work opening o w down entries downs f run told id.node e a
        → e.trace.mtr ≡ Some r.made → (line : Line) → line_at work.lines a.session a.index ≡ Some line → (c : ℕ)
        → IsCommitBy work (core_part w id.node) line c r.made → cts_of a.reply ≡ Some c → is_stopped a.reply ≡ false → IsAnswerOf id cts
    by_commit e a kept made line found c q shows up =
        let same : draw_of q.id c ≡ draw_of id cts = some_is (draw_of q.id c) (draw_of id cts) (sym q.records.commit ∙ r.commit) in
        let is_id : q.id ≡ id = ap (λ (d : Draw). d.id) same in
        let is_cts : c ≡ cts = ap (λ (d : Draw). d.cts) same in
        record {
          answer = a;
          there = in_run script spelled work opening o w down entries downs f run told id.node e a kept;
          shows = shows ∙ ap (λ (n : ℕ). Some n) is_cts;
          entry = record {
            entry = e;
            kept = kept;
            line = line;
            found = found;
            view = q.view;
            trx = subst (λ (i : TrxId). IsTrxOf work (core_part w id.node) line i q.view) is_id q.trx;
            mtr = r.made;
            made = made;
            records = subst (λ (i : TrxId). RecordsCommit (core_part w id.node) i q.view cts r.made) is_id (subst (λ (n : ℕ). RecordsCommit (core_part w id.node) q.id q.view n r.made) is_cts q.records);
            up = up;
          };
        }

    -- the record's entry has an answer, which shows the number
    pub answered : IsAnswerOf id cts
    answered =
        let x = entry_of_mtr work o w f.facts id.node (down id.node) (entries id.node) (f.kept id.node node) (f.all id.node node) (next_in_order script spelled work opening o w down entries downs f id.node node) r.made r.was_made not_back in
        let a = answer_of work o w f.facts id.node (down id.node) (entries id.node) (f.kept id.node node) (f.all id.node node) (next_in_order script spelled work opening o w down entries downs f id.node node) x.0 x.1 in
        let kept : IsKeptBy script spelled work opening o w down entries downs f run told id.node x.0 a.0 = record { node = node; there = x.1; is = a.1 } in
        let s = supported script spelled work opening o w down entries downs f run told id.node x.0 a.0 kept in
        elim (which_mtr work (core_part w id.node) (x.0).trace s.line (down id.node) (a.0).reply r.made s.reply x.2) [
          | inl q ↦ absurd (not_put q.2.over.row q.2.over.put)
          | inr (inl q) ↦ absurd (not_put q.2.over.row q.2.over.put)
          | inr (inr (inl q)) ↦ by_commit x.0 a.0 kept x.2 s.line s.found q.0 q.2 (ap cts_of q.1) (ap (λ (y : Reply). is_stopped y) q.1)
          | inr (inr (inr q)) ↦ by_commit x.0 a.0 kept x.2 s.line s.found q.0 q.2 (ap cts_of q.1) (ap (λ (y : Reply). is_stopped y) q.1)
        ]

  module _ (counted : CountsCommits w run) (id : TrxId) (cts : ℕ) (a : Answer) (c : IsRecordEntry script spelled work opening o w down entries downs f run told id.node id cts a) where
    abbrev its_name : TrxName
    its_name = trx_in_lines work.lines a.session a.index

    name_is : its_name ≡ trx_of run a
    name_is = ap (λ (lines : List Line). trx_in_lines lines a.session a.index) (sym told.lines)

    its_writes : IsWriter o w run (trx_of run a) id (statements_before (trx_of run a) a.index) c.mtr.at
    its_writes =
        let n = c.kept.node in
        subst (λ (name : TrxName). IsWriter o w run name id (statements_before name a.index) c.mtr.at) name_is
        (writer_is script spelled work opening o w down entries downs f run told id c.view c.entry a c.kept c.line c.found c.trx c.mtr.at
        (λ x m above made. mtrs_up work o w f.facts id.node (down id.node) (entries id.node) (f.kept id.node n) (f.all id.node n) (next_in_order script spelled work opening o w down entries downs f id.node n) x c.entry m c.mtr above made c.made)
        c.up
        (λ x m above made. let lt = mtrs_up work o w f.facts id.node (down id.node) (entries id.node) (f.kept id.node n) (f.all id.node n) (next_in_order script spelled work opening o w down entries downs f id.node n) c.entry x c.mtr m above c.made made in omega (arith, lt))
        (λ m made. let at : c.mtr.at ≡ m.at = ap (λ (k : TrxMtr). k.at) (some_is c.mtr m (sym c.made ∙ made)) in omega (arith, at)))

    -- its puts stand below its record
    put_before : (key : ℕ) (m : TrxMtr) (row : Row) → PutOf w id key m row → PutBelow w id key c.mtr.at m row
    put_before key m row p =
        let upto = (ends_at script spelled work opening o w down entries downs f run told id cts a c m p.was_made p.of).0 in
        let apart : m.at ≢ c.mtr.at = λ same.
        let one : m.mtr ≡ c.mtr.mtr = some_is m.mtr c.mtr.mtr (sym (f.facts.of_history.placed id.node m p.was_made).1 ∙ ap (λ (k : ℕ). entry_at k w.pages.history) same ∙ (f.facts.of_history.placed id.node c.mtr c.records.was_made).1) in
        not_some (draw_of id cts) (sym (put_of o w f.facts id.node m row p.was_made p.put).commit ∙ ap commit_by_mtr one ∙ c.records.commit) in
        elim (cases_lt m.at c.mtr.at) [
          | inl lt ↦ record { was_made = p.was_made; of = p.of; put = p.put; its_key = p.its_key; below = lt }
          | inr ge ↦ absurd (apart (omega (arith, upto, ge)))
        ]

    within : (run.opening.base ≤ view_of run (trx_of run a)) × (view_of run (trx_of run a) ≤ run.opening.base + run.commits)
    within =
        let view = view_by script spelled work opening o w down entries downs f run told id.node c.entry id c.view a c.line c.kept c.found c.trx in
        subst (λ (v : ℕ). (run.opening.base ≤ v) × (v ≤ run.opening.base + run.commits)) (sym view) (view_bounds script spelled work opening o w down entries downs f run told counted id.node id c.view c.trx.begun)

    pub last_set : (key : ℕ) (row : Row) → LastPutOf w id key row
        → last_value key (first_writes run (trx_of run a) (statements_before (trx_of run a) a.index)) ≡ Some row.value
    last_set key row last = last_set_by o w f.facts run (tells_of script spelled work opening o w down entries downs f run told) (trx_of run a) id (statements_before (trx_of run a) a.index) c.mtr.at its_writes within.0 within.1 put_before key row last

    pub none_set : (key : ℕ) → ((m : TrxMtr) (row : Row) → PutOf w id key m row → ⊥)
        → last_value key (first_writes run (trx_of run a) (statements_before (trx_of run a) a.index)) ≡ None
    none_set key nothing = none_set_by o w f.facts run (tells_of script spelled work opening o w down entries downs f run told) (trx_of run a) id (statements_before (trx_of run a) a.index) c.mtr.at its_writes within.0 within.1 put_before key nothing
