-- The entries of commits and of ok writes: each has its mtr, over what its transaction may replace.
use Rattle.std.proofs.Common.{◌≡◌, ◌⊎◌, ℕ, ◌≤◌, true, false, List, Option, Some, None, is_some, refl, sym, ap, subst, ◌∙◌, inl, inr, arith}
use Rattle.mp_machine.specs.Lists.{IsIn}
use Rattle.mp_machine.proofs.Lists.{same_item}
use Rattle.mp_model.specs.declared.histories.Opening.{Opening}
use Rattle.mp_model.specs.declared.ids.TrxId.{TrxId}
use Rattle.mp_model.specs.declared.ids.TrxName.{TrxName}
use Rattle.mp_model.specs.declared.replies.Answer.{Answer}
use Rattle.mp_model.specs.declared.replies.Reply.{Reply}
use Rattle.mp_model.specs.declared.replies.Reply.TheVariants.{Wrote}
use Rattle.mp_model.specs.declared.transcripts.Down.{Down}
use Rattle.mp_script.specs.declared.statements.Line.{Line}
use Rattle.mp_script.specs.declared.statements.Script.{Script}
use Rattle.mp_script.specs.Execution.{Execution, line_at}
use Rattle.mp_script.specs.Spelling.{IsSpelled}
use Rattle.mp_script.specs.Transactions.{trx_in_lines, trx_of, view_at, statements_before, target_key, cts_of, wrote_at, wrote_among, wrote_before}
use Rattle.mp_script.specs.WentDown.{is_stopped}
use Rattle.mp_script.proofs.Options.{some_is, not_some}
use Rattle.mp_script.proofs.Looking.{line_is}
use Rattle.mp_script.proofs.ReplyForms.{target_same, shows_cts}
use Rattle.mp_script.proofs.AmongWrites.{one_wrote}
use Rattle.mp_cells.specs.declared.rows.Row.{Row}
use Rattle.mp_core_trx.specs.declared.part.Begun.{Begun}
use Rattle.mp_core_trx.specs.declared.part.Draw.{Draw}
use Rattle.mp_core_trx.specs.Parts.{begun_of, draw_of}
use Rattle.mp_core_trx.specs.World.{begun_in}
use Rattle.mp_core.specs.declared.opening.CoreOpening.{CoreOpening}
use Rattle.mp_core.specs.World.{CoreWorld, core_part}
use Rattle.mp_core.specs.OwnMtrs.{row_kept_by, row_restored_by, commit_by_mtr, TrxMtr}
use Rattle.mp_supports.specs.Seeing.{IsSettledFor}
use Rattle.mp_facts.specs.Facts.{made_in}
use Rattle.mp_supports.specs.Work.{Work, name_of}
use Rattle.mp_supports.specs.Supports.{Trace, IsTrxOf, Overwrites, RecordsCommit, SupportsReply}
use Rattle.mp_supports.specs.Kept.{Entry}
use Rattle.mp_verdict.specs.Finished.{Finished}
use Rattle.mp_verdict.specs.Told.{IsToldBy}
use Rattle.mp_verdict.specs.Reads.{PutOf}
use Rattle.mp_verdict.specs.WriteOrder.{PutsOverSettled, IsWholeBelow}
use Rattle.mp_verdict.specs.Writers.{IsWriter}
use Rattle.mp_verdict.proofs.PlacesOf.{put_of, of_its_node}
use Rattle.mp_verdict.proofs.WhichTraces.{which_mtr, IsPutBy}
use Rattle.mp_verdict.proofs.KeptOrder.{answer_of, entry_of_mtr, mtrs_up}
use Rattle.mp_verdict.proofs.ToldAnswers.{IsKeptBy, supported, kept_answer, one_answer, view_is, wrote_is, stmt_here}
use Rattle.mp_verdict.proofs.WriterOf.{wrote_put, writer_is}
use Rattle.mp_verdict.proofs.Telling.{node_of_mtr}
use Rattle.mp_verdict.proofs.NextInOrder.{next_in_order}

module _ (script : Script) (spelled : IsSpelled script) (work : Work) (opening : Opening) (o : CoreOpening) (w : CoreWorld) (down : ℕ → ℕ) (entries : ℕ → List Entry) (downs : List Down)
    (f : Finished work script opening o w down entries downs) (run : Execution) (told : IsToldBy work opening o entries downs run) where
  -- the entry of a commit, whatever its end
  pub record IsRecordEntry (n : ℕ) (id : TrxId) (cts : ℕ) (a : Answer) : Type 0 where
    pub entry : Entry
    pub kept : IsKeptBy script spelled work opening o w down entries downs f run told n entry a
    pub line : Line
    pub found : line_at work.lines a.session a.index ≡ Some line
    pub view : ℕ
    pub trx : IsTrxOf work (core_part w n) line id view
    pub mtr : TrxMtr
    pub made : entry.trace.mtr ≡ Some mtr
    pub records : RecordsCommit (core_part w n) id view cts mtr
    pub up : is_stopped a.reply ≡ false

  pub record_entry : (a : Answer) (cts : ℕ) → IsIn a run.answers → cts_of a.reply ≡ Some cts → (id : TrxId) × IsRecordEntry id.node id cts a
  record_entry a cts there shows =
      let k = kept_answer script spelled work opening o w down entries downs f run told a there in
      let s = supported script spelled work opening o w down entries downs f run told k.0 k.1 a k.2 in
      let up : is_stopped a.reply ≡ false = elim (shows_cts a.reply cts shows) [
        | inl is ↦ ap (λ (r : Reply). is_stopped r) is
        | inr is ↦ ap (λ (r : Reply). is_stopped r) is
      ] in
      let on_node : (id : TrxId) × IsRecordEntry k.0 id cts a = elim (shows_cts a.reply cts shows) [
        | inl is ↦
            let h = subst (SupportsReply work (core_part w k.0) (down k.0) (k.1).trace s.line) is s.reply in
            (h.0, record { entry = k.1; kept = k.2; line = s.line; found = s.found; view = h.1; trx = h.2; mtr = h.3.0; made = ap (λ (t : Trace). t.mtr) h.3.2; records = h.3.3; up = up })
        | inr is ↦
            let h = subst (SupportsReply work (core_part w k.0) (down k.0) (k.1).trace s.line) is s.reply in
            (h.0, record { entry = k.1; kept = k.2; line = s.line; found = s.found; view = h.1; trx = h.2; mtr = h.3.0; made = ap (λ (t : Trace). t.mtr) h.3.2; records = h.3.3; up = up })
      ] in
      let node : (on_node.0).node ≡ k.0 = of_its_node o w f.facts k.0 on_node.1.mtr on_node.0 on_node.1.records.was_made on_node.1.records.of in
      (on_node.0, subst (λ (n : ℕ). IsRecordEntry n on_node.0 cts a) (sym node) on_node.1)

  -- the entry of a write that was answered ok
  pub record IsPutEntry (n : ℕ) (id : TrxId) (key : ℕ) (a : Answer) : Type 0 where
    pub entry : Entry
    pub kept : IsKeptBy script spelled work opening o w down entries downs f run told n entry a
    pub line : Line
    pub found : line_at work.lines a.session a.index ≡ Some line
    pub view : ℕ
    pub trx : IsTrxOf work (core_part w n) line id view
    pub mtr : TrxMtr
    pub made : entry.trace.mtr ≡ Some mtr
    pub over : Overwrites (core_part w n) entry.trace.pages id view key line.stmt mtr

  pub put_entry : (a : Answer) (key : ℕ) → IsIn a run.answers → wrote_at run a.session a.index ≡ Some key → (id : TrxId) × IsPutEntry id.node id key a
  put_entry a key there wrote =
      let x = wrote_is script spelled work opening o w down entries downs f run told a.session a.index key wrote in
      let k = kept_answer script spelled work opening o w down entries downs f run told a there in
      let s = supported script spelled work opening o w down entries downs f run told k.0 k.1 a k.2 in
      let same : x.answer ≡ a = one_answer script spelled work opening o w down entries downs f run told x.answer a x.there there x.session_is x.index_is in
      let reply : a.reply ≡ Wrote x.verb = ap (λ (y : Answer). y.reply) (sym same) ∙ x.wrote in
      let p = wrote_put work (core_part w k.0) (down k.0) (k.1).trace s.line x.verb (subst (SupportsReply work (core_part w k.0) (down k.0) (k.1).trace s.line) reply s.reply) in
      let node : p.2.id.node ≡ k.0 = of_its_node o w f.facts k.0 p.0 p.2.id p.2.over.was_made p.2.over.of in
      let its_key : p.2.key ≡ key = some_is p.2.key key (sym (target_same s.line.stmt p.2.verb p.2.key p.2.writes) ∙ ap target_key (sym (stmt_here script spelled work opening o w down entries downs f run told a s.line s.found)) ∙ x.target) in (
        p.2.id,
        subst (λ (n : ℕ). IsPutEntry n p.2.id key a) (sym node) (record {
          entry = k.1;
          kept = k.2;
          line = s.line;
          found = s.found;
          view = p.2.view;
          trx = p.2.trx;
          mtr = p.0;
          made = p.1;
          over = subst (λ (i : ℕ). Overwrites (core_part w k.0) (k.1).trace.pages p.2.id p.2.view i s.line.stmt p.0) its_key p.2.over;
        }),
      )

  pub put_of_entry : (id : TrxId) (key : ℕ) (a : Answer) (x : IsPutEntry id.node id key a) → PutOf w id key x.mtr x.over.row
  put_of_entry id key a x = record { was_made = x.over.was_made; of = x.over.of; put = x.over.put; its_key = x.over.its_key; below = (f.facts.of_history.placed id.node x.mtr x.over.was_made).0 }

  -- a transaction's name, and its view, by the line of an answer
  pub name_by : (n : ℕ) (id : TrxId) (view : ℕ) (a : Answer) (line : Line) → line_at work.lines a.session a.index ≡ Some line → IsTrxOf work (core_part w n) line id view → name_of work id ≡ Some (trx_of run a)
  name_by n id view a line found trx =
      let at = line_is work.lines a.session a.index line found in
      trx.named ∙ ap (λ (s : ℕ). Some (trx_in_lines work.lines s line.index)) at.1 ∙ ap (λ (i : ℕ). Some (trx_in_lines work.lines a.session i)) at.2
      ∙ ap (λ (lines : List Line). Some (trx_in_lines lines a.session a.index)) (sym told.lines)

  pub view_by : (n : ℕ) (e : Entry) (id : TrxId) (view : ℕ) (a : Answer) (line : Line) → IsKeptBy script spelled work opening o w down entries downs f run told n e a → line_at work.lines a.session a.index ≡ Some line → IsTrxOf work (core_part w n) line id view → view_at run a.session a.index ≡ view
  view_by n e id view a line kept found trx = view_is script spelled work opening o w down entries downs f run told n id view (trx_of run a) kept.node trx.begun (name_by n id view a line found trx)

  -- a transaction has one view
  one_view : (id : TrxId) (view shown : ℕ) → IsIn (begun_of id view) (begun_in w.trx id.node) → IsIn (begun_of id shown) (begun_in w.trx id.node) → view ≡ shown
  one_view id view shown h k = ap (λ (b : Begun). b.view) (same_item (λ (b : Begun). b.id.version) (begun_in w.trx id.node) (f.facts.inv.trx.ids.differ id.node) (begun_of id view) (begun_of id shown) h k refl)

  -- all puts of a transaction came over what it may replace
  pub puts_over : (id : TrxId) (view : ℕ) → IsIn (begun_of id view) (begun_in w.trx id.node) → PutsOverSettled w id view
  puts_over id view begun m row there of puts =
      let n = node_of_mtr script spelled work opening o w down entries downs f run told id.node m there in
      let only = put_of o w f.facts id.node m row there puts in
      let x = entry_of_mtr work o w f.facts id.node (down id.node) (entries id.node) (f.kept id.node n) (f.all id.node n) (next_in_order script spelled work opening o w down entries downs f id.node n) m there only.restored in
      let a = answer_of work o w f.facts id.node (down id.node) (entries id.node) (f.kept id.node n) (f.all id.node n) (next_in_order script spelled work opening o w down entries downs f id.node n) x.0 x.1 in
      let kept : IsKeptBy script spelled work opening o w down entries downs f run told id.node x.0 a.0 = record { node = n; there = x.1; is = a.1 } in
      let s = supported script spelled work opening o w down entries downs f run told id.node x.0 a.0 kept in
      let no_commit : (d : Draw) → commit_by_mtr m.mtr ≡ Some d → ⊥ = λ d is. not_some d (sym only.commit ∙ is) in
      let by_put : IsPutBy work (core_part w id.node) (x.0).trace s.line m → (former : Row) × (row_kept_by m.mtr ≡ Some former) × ((former.writer ≡ Some id) ⊎ IsSettledFor (core_part w id.node) view former) = λ q.
      let is_id : q.id ≡ id = some_is q.id id (sym q.over.of ∙ of) in
      let is_view : q.view ≡ view = one_view id q.view view (subst (λ (i : TrxId). IsIn (begun_of i q.view) (begun_in w.trx id.node)) is_id q.trx.begun) begun in (
        q.over.former,
        q.over.kept,
        subst (λ (v : ℕ). (q.over.former.writer ≡ Some id) ⊎ IsSettledFor (core_part w id.node) v q.over.former) is_view
            (subst (λ (i : TrxId). (q.over.former.writer ≡ Some i) ⊎ IsSettledFor (core_part w id.node) q.view q.over.former) is_id q.over.over),
      ) in
      elim (which_mtr work (core_part w id.node) (x.0).trace s.line (down id.node) (a.0).reply m s.reply x.2) [
        | inl q ↦ by_put q.2
        | inr (inl q) ↦ by_put q.2
        | inr (inr (inl q)) ↦ absurd (no_commit (draw_of q.2.id q.0) q.2.records.commit)
        | inr (inr (inr q)) ↦ absurd (no_commit (draw_of q.2.id q.0) q.2.records.commit)
      ]

  module _ (id : TrxId) (cts : ℕ) (a : Answer) (c : IsRecordEntry id.node id cts a) where
    its_record : c.mtr.of ≡ Some id
    its_record = c.records.of

    -- its mtrs stand at or below its record, and none put back
    pub ends_at : (m : TrxMtr) → IsIn m (made_in w id.node) → m.of ≡ Some id → (m.at ≤ c.mtr.at) × (row_restored_by m.mtr ≡ None)
    ends_at m there of = f.facts.of_versions.commit_last id.node c.mtr m c.records.was_made (ap (λ (x : Option Draw). is_some x) c.records.commit) there (of ∙ sym its_record)

    pub whole_of : (height : ℕ) → IsWholeBelow w id height
    whole_of height m there of below = (ends_at m there of).1

    its_writes : IsWriter o w run (trx_in_lines work.lines a.session a.index) id (statements_before (trx_in_lines work.lines a.session a.index) a.index) c.mtr.at
    its_writes =
        let n = c.kept.node in
        writer_is script spelled work opening o w down entries downs f run told id c.view c.entry a c.kept c.line c.found c.trx c.mtr.at
        (λ x m above made. mtrs_up work o w f.facts id.node (down id.node) (entries id.node) (f.kept id.node n) (f.all id.node n) (next_in_order script spelled work opening o w down entries downs f id.node n) x c.entry m c.mtr above made c.made)
        c.up
        (λ x m above made. let lt = mtrs_up work o w f.facts id.node (down id.node) (entries id.node) (f.kept id.node n) (f.all id.node n) (next_in_order script spelled work opening o w down entries downs f id.node n) c.entry x c.mtr m above c.made made in omega (arith, lt))
        (λ m made. let at : c.mtr.at ≡ m.at = ap (λ (k : TrxMtr). k.at) (some_is c.mtr m (sym c.made ∙ made)) in omega (arith, at))

    -- where its transaction wrote the key before it, it put a row of the key
    pub wrote_put_of : (key : ℕ) → wrote_before run a.session a.index key ≡ true → (m : TrxMtr) × (row : Row) × PutOf w id key m row
    wrote_put_of key wrote =
        let name : TrxName = trx_in_lines work.lines a.session a.index in
        let here : wrote_among run name (statements_before name a.index) key ≡ true = subst (λ (lines : List Line). wrote_among run (trx_in_lines lines a.session a.index) (statements_before (trx_in_lines lines a.session a.index) a.index) key ≡ true) told.lines wrote in
        let i = one_wrote run name (statements_before name a.index) key here in
        (its_writes.mtrs i.0, its_writes.rows i.0, its_writes.put i.0 key i.1 i.2)
