-- The value that a `get` was answered is the one that its transaction sees, and the rows of a `scan` the first that it sees.
use Rattle.std.proofs.Common.{◌≡◌, ◌⊎◌, ℕ, ◌+◌, ◌<◌, ◌≤◌, false, List, [], ◌∷◌, length, Option, Some, None, refl, sym, ap, subst, ◌∙◌, inl, inr, arith}
use Rattle.std.specs.Option.{IfSome}
use Rattle.std.specs.List.{AllByRecursion}
use Rattle.std.proofs.lemmas.Bool.Decides.{nat_tests}
use Rattle.mp_machine.specs.Lists.{IsIn}
use Rattle.mp_model.specs.Listed.{Listed}
use Rattle.mp_model.specs.Folded.{over, writes_up_to, value_at, KeysAscend}
use Rattle.mp_model.specs.declared.histories.Opening.{Opening}
use Rattle.mp_model.specs.declared.ids.TrxId.{TrxId}
use Rattle.mp_model.specs.declared.ids.TrxName.{TrxName}
use Rattle.mp_model.specs.declared.key_value.KeyValue.{KeyValue}
use Rattle.mp_model.specs.declared.replies.Answer.{Answer}
use Rattle.mp_model.specs.declared.replies.Reply.{Reply}
use Rattle.mp_model.specs.declared.replies.Reply.TheVariants.{Got, Scanned}
use Rattle.mp_model.specs.declared.transcripts.Down.{Down}
use Rattle.mp_script.specs.declared.statements.Line.{Line}
use Rattle.mp_script.specs.declared.statements.Script.{Script}
use Rattle.mp_script.specs.Execution.{Execution, line_at}
use Rattle.mp_script.specs.Right.{first_rows_from, IsRightReply}
use Rattle.mp_script.specs.Seen.{history, rows_of_view, seen}
use Rattle.mp_script.specs.Spelling.{IsSpelled}
use Rattle.mp_script.specs.SpelledLines.{IsLineInRange, IsRowInRange}
use Rattle.mp_script.specs.Transactions.{trx_in_lines, statements_before, view_of}
use Rattle.mp_script.specs.WentDown.{is_stopped}
use Rattle.mp_script.specs.Standing.{StandsAbove}
use Rattle.mp_script.specs.Answers.{IsReadReply}
use Rattle.mp_script.specs.LastValues.{first_writes}
use Rattle.mp_script.proofs.Lists.{all_map}
use Rattle.mp_script.proofs.SeenRows.{seen_within}
use Rattle.mp_script.proofs.Options.{some_is, not_some}
use Rattle.mp_script.proofs.Ordered.{all_in}
use Rattle.mp_script.proofs.Looking.{line_is}
use Rattle.mp_script.proofs.ScriptLines.{lines_within}
use Rattle.mp_script.proofs.RisingRows.{over_ascends}
use Rattle.mp_cells.specs.declared.rows.Row.{Row}
use Rattle.mp_cells.specs.PageView.{PageView}
use Rattle.mp_cells.specs.Trees.{top}
use Rattle.mp_core_trx.specs.Parts.{begun_of, greatest_seen}
use Rattle.mp_core_trx.specs.World.{begun_in, tso_seen_in}
use Rattle.mp_core_pages.specs.declared.part.GivenPage.{GivenPage}
use Rattle.mp_core.specs.declared.opening.CoreOpening.{CoreOpening}
use Rattle.mp_core.specs.World.{CoreWorld, core_part}
use Rattle.mp_core.specs.OwnMtrs.{TrxMtr}
use Rattle.mp_facts.specs.Facts.{opening_pages}
use Rattle.mp_supports.specs.Work.{Work, name_of}
use Rattle.mp_supports.specs.Seeing.{Sees, ScansTo}
use Rattle.mp_supports.specs.Supports.{Trace, IsTrxOf, SupportsTrxReply, SupportsReply}
use Rattle.mp_supports.specs.Kept.{Entry}
use Rattle.mp_verdict.specs.Counting.{CountsCommits}
use Rattle.mp_verdict.specs.Finished.{Finished}
use Rattle.mp_verdict.specs.Told.{IsToldBy}
use Rattle.mp_verdict.specs.Reads.{ShowsReader}
use Rattle.mp_verdict.proofs.OpeningRows.{opening_ascend, opening_range}
use Rattle.mp_verdict.proofs.Reading.{read_shows}
use Rattle.mp_verdict.proofs.Scanning.{scanned}
use Rattle.mp_verdict.proofs.SeenValues.{seen_values}
use Rattle.mp_verdict.proofs.KeptOrder.{precedes_of}
use Rattle.mp_verdict.proofs.ToldAnswers.{IsKeptBy, supported, kept_answer, view_is}
use Rattle.mp_verdict.proofs.WriterOf.{writer_is, all_under}
use Rattle.mp_verdict.proofs.Telling.{tells_of, base_is}
use Rattle.mp_verdict.proofs.NextInOrder.{next_in_order}

seen_upto : (base bound : ℕ) (seen_values : List ℕ) → base ≤ bound → ((v : ℕ) → IsIn v seen_values → v ≤ bound) → greatest_seen base seen_values ≤ bound
seen_upto base bound [] le all = le
seen_upto base bound (v ∷ vs) le all =
    let here = all v (inl refl) in
    let rest = seen_upto base bound vs le (λ x there. all x (inr there)) in
    grind (arith, nat_tests, here, rest)

module _ (script : Script) (spelled : IsSpelled script) (work : Work) (opening : Opening) (o : CoreOpening) (w : CoreWorld) (down : ℕ → ℕ) (entries : ℕ → List Entry) (downs : List Down)
    (f : Finished work script opening o w down entries downs) (run : Execution) (told : IsToldBy work opening o entries downs run) (counted : CountsCommits w run) where
  -- a view lies between the base and the last commit
  pub view_bounds : (n : ℕ) (id : TrxId) (view : ℕ) → IsIn (begun_of id view) (begun_in w.trx n) → (run.opening.base ≤ view) × (view ≤ run.opening.base + run.commits)
  view_bounds n id view there =
      let sight = f.facts.inv.trx.sight in
      let views = sight.views n (begun_of id view) there in
      let low = views.0 in
      let high = views.1 in
      let most = seen_upto o.trx.base.ts w.trx.tso (tso_seen_in w.trx n) sight.from_base (λ v h. (sight.values n v h).1) in
      let base = base_is script spelled work opening o w down entries downs f run told in
      (omega (arith, base, low), omega (arith, high, most, counted))

  module _ (id : TrxId) (view : ℕ) (e : Entry) (a : Answer) (kept : IsKeptBy script spelled work opening o w down entries downs f run told id.node e a) (line : Line) (found : line_at work.lines a.session a.index ≡ Some line)
      (trx : IsTrxOf work (core_part w id.node) line id view) (up : is_stopped a.reply ≡ false) (looked : e.trace.mtr ≡ None) where
    abbrev its_name : TrxName
    its_name = trx_in_lines work.lines a.session a.index

    named_so : name_of work id ≡ Some its_name
    named_so =
        let at = line_is work.lines a.session a.index line found in
        trx.named ∙ ap (λ (s : ℕ). Some (trx_in_lines work.lines s line.index)) at.1 ∙ ap (λ (i : ℕ). Some (trx_in_lines work.lines a.session i)) at.2

    view_here : view_of run its_name ≡ view
    view_here = view_is script spelled work opening o w down entries downs f run told id.node id view its_name kept.node trx.begun named_so

    -- what it is shown at a page that it read is what it sees
    pub shown_seen : (g : GivenPage PageView) → IsIn g e.trace.pages → (key : ℕ) (row : Row) → ShowsReader o w id g.height view key row → value_at key (seen run a.session a.index) ≡ row.value
    shown_seen g there key row shows =
        let n = kept.node in
        let before : (x : Entry) (m : TrxMtr) → StandsAbove x e (entries id.node) → x.trace.mtr ≡ Some m → m.at < g.height = λ x m above made.
        let p = precedes_of work o w f.facts id.node (down id.node) (entries id.node) (f.kept id.node n) (f.all id.node n) (next_in_order script spelled work opening o w down entries downs f id.node n) x e above in
        subst (λ (y : Option TrxMtr). IfSome y (λ k. k.at < g.height)) made (all_in (λ (h : GivenPage PageView). IfSome x.trace.mtr (λ k. k.at < h.height)) g e.trace.pages p.below there) in
        let after : (x : Entry) (m : TrxMtr) → StandsAbove e x (entries id.node) → x.trace.mtr ≡ Some m → g.height ≤ m.at = λ x m below made.
        let p = precedes_of work o w f.facts id.node (down id.node) (entries id.node) (f.kept id.node n) (f.all id.node n) (next_in_order script spelled work opening o w down entries downs f id.node n) e x below in
        subst (λ (y : Option TrxMtr). IfSome y (λ k. g.height ≤ k.at)) made (all_in (λ (h : GivenPage PageView). IfSome x.trace.mtr (λ k. h.height ≤ k.at)) g e.trace.pages p.above there) in
        let here : (m : TrxMtr) → e.trace.mtr ≡ Some m → g.height ≤ m.at = λ m made. absurd (not_some m (sym looked ∙ made)) in
        let bounds = view_bounds id.node id view trx.begun in
        let low = bounds.0 in
        let high = bounds.1 in
        subst (λ (lines : List Line). value_at key (over (rows_of_view run (trx_in_lines lines a.session a.index)) (first_writes run (trx_in_lines lines a.session a.index) (statements_before (trx_in_lines lines a.session a.index) a.index))) ≡ row.value) (sym told.lines)
        (seen_values o w f.facts run (tells_of script spelled work opening o w down entries downs f run told) its_name id (statements_before its_name a.index) g.height
        (writer_is script spelled work opening o w down entries downs f run told id view e a kept line found trx g.height before up after here)
        (omega (arith, low, view_here)) (omega (arith, high, view_here)) (statements_before its_name a.index) g.height key row (omega arith) (omega arith)
        (all_under script spelled work opening o w down entries downs f run told id view e a kept line found trx g.height before)
        (subst (λ (v : ℕ). ShowsReader o w id g.height v key row) (sym view_here) shows))

    pub sees_right : (key : ℕ) (row : Row) → Sees (core_part w id.node) e.trace.pages id view key row → value_at key (seen run a.session a.index) ≡ row.value
    sees_right key row sees = shown_seen sees.leaf sees.rests key row (read_shows o w f.fit f.facts e.trace.pages id view key row sees)

    seen_ascends : KeysAscend (seen run a.session a.index)
    seen_ascends =
        over_ascends (rows_of_view run (trx_in_lines run.lines a.session a.index)) (first_writes run (trx_in_lines run.lines a.session a.index) (statements_before (trx_in_lines run.lines a.session a.index) a.index))
        (over_ascends run.opening.rows.items (writes_up_to (history run run.commits) (view_of run (trx_in_lines run.lines a.session a.index))) (subst KeysAscend (sym (ap (λ (x : Opening). x.rows.items) told.opening_is ∙ f.opened.rows)) (opening_ascend (opening_pages o) f.fit.clean.tree)))

    seen_below : AllByRecursion (λ row. row.key < top) (seen run a.session a.index)
    seen_below = all_map IsRowInRange (λ (row : KeyValue). row.key < top) (seen run a.session a.index) (λ row range. range.key)
        (seen_within run (subst (AllByRecursion IsLineInRange) (sym (told.lines ∙ f.work_of.lines)) (lines_within script spelled))
        (subst (AllByRecursion IsRowInRange) (sym (ap (λ (x : Opening). x.rows.items) told.opening_is ∙ f.opened.rows)) (opening_range (opening_pages o) f.fit.clean.tree)) a.session a.index)

    pub scan_right : (count low high most : ℕ) (rows : List KeyValue) → ScansTo (core_part w id.node) e.trace.pages id view count low high rows → length rows ≤ most → (high ≡ top) ⊎ (length rows ≡ most) → rows ≡ first_rows_from low most (seen run a.session a.index)
    scan_right count low high most rows scans le end = scanned o w f.fit f.facts e.trace.pages id view (seen run a.session a.index) sees_right count low high most rows seen_ascends seen_below scans le end

  -- the transaction of a statement is of its primary
  pub node_is : (n : ℕ) (line : Line) (id : TrxId) (view : ℕ) → IsTrxOf work (core_part w n) line id view → id.node ≡ n
  node_is n line id view trx = f.facts.inv.trx.ids.own n (begun_of id view) trx.begun

  at_line : (a : Answer) (line : Line) → line_at work.lines a.session a.index ≡ Some line → seen run a.session a.index ≡ seen run line.session line.index
  at_line a line found = let at = line_is work.lines a.session a.index line found in ap (λ (s : ℕ). seen run s a.index) (sym at.1) ∙ ap (seen run line.session) (sym at.2)

  got_here : (id : TrxId) (view : ℕ) (e : Entry) (a : Answer) (value : Option (List ℕ)) (line : Line) → IsKeptBy script spelled work opening o w down entries downs f run told id.node e a → line_at work.lines a.session a.index ≡ Some line → IsTrxOf work (core_part w id.node) line id view → a.reply ≡ Got value
      → SupportsTrxReply work (core_part w id.node) e.trace line id view (Got value) → IsRightReply run line (Got value)
  got_here id view e a value line kept found trx reply s = (
    s.0,
    s.2,
    s.4 ∙ sym (sees_right id view e a kept line found trx (ap (λ (r : Reply). is_stopped r) reply) (ap (λ (t : Trace). t.mtr) s.5) s.0 s.1 s.3) ∙ ap (value_at s.0) (at_line a line found),
  )

  scanned_here : (id : TrxId) (view : ℕ) (e : Entry) (a : Answer) (rows : Listed KeyValue) (line : Line) → IsKeptBy script spelled work opening o w down entries downs f run told id.node e a → line_at work.lines a.session a.index ≡ Some line → IsTrxOf work (core_part w id.node) line id view → a.reply ≡ Scanned rows
      → SupportsTrxReply work (core_part w id.node) e.trace line id view (Scanned rows) → IsRightReply run line (Scanned rows)
  scanned_here id view e a rows line kept found trx reply s = (
    s.0,
    s.1,
    s.4,
    scan_right id view e a kept line found trx (ap (λ (r : Reply). is_stopped r) reply) (ap (λ (t : Trace). t.mtr) s.8) s.3 s.0 s.2 s.1 rows.items s.5 s.6 s.7 ∙ ap (first_rows_from s.0 s.1) (at_line a line found),
  )

  pub got_right : (n : ℕ) (e : Entry) (a : Answer) (value : Option (List ℕ)) (line : Line) → IsKeptBy script spelled work opening o w down entries downs f run told n e a → line_at work.lines a.session a.index ≡ Some line → a.reply ≡ Got value → SupportsReply work (core_part w n) (down n) e.trace line (Got value) → IsRightReply run line (Got value)
  got_right n e a value line kept found reply h =
      let node = node_is n line h.0 h.1 h.2 in
      got_here h.0 h.1 e a value line (subst (λ (k : ℕ). IsKeptBy script spelled work opening o w down entries downs f run told k e a) (sym node) kept) found (subst (λ (k : ℕ). IsTrxOf work (core_part w k) line h.0 h.1) (sym node) h.2) reply
      (subst (λ (k : ℕ). SupportsTrxReply work (core_part w k) e.trace line h.0 h.1 (Got value)) (sym node) h.3)

  pub scanned_right : (n : ℕ) (e : Entry) (a : Answer) (rows : Listed KeyValue) (line : Line) → IsKeptBy script spelled work opening o w down entries downs f run told n e a → line_at work.lines a.session a.index ≡ Some line → a.reply ≡ Scanned rows → SupportsReply work (core_part w n) (down n) e.trace line (Scanned rows) → IsRightReply run line (Scanned rows)
  scanned_right n e a rows line kept found reply h =
      let node = node_is n line h.0 h.1 h.2 in
      scanned_here h.0 h.1 e a rows line (subst (λ (k : ℕ). IsKeptBy script spelled work opening o w down entries downs f run told k e a) (sym node) kept) found (subst (λ (k : ℕ). IsTrxOf work (core_part w k) line h.0 h.1) (sym node) h.2) reply
      (subst (λ (k : ℕ). SupportsTrxReply work (core_part w k) e.trace line h.0 h.1 (Scanned rows)) (sym node) h.3)

  -- a `get` or a `scan` that was answered, in the execution
  pub read_right : (a : Answer) (line : Line) → IsIn a run.answers → line_at run.lines a.session a.index ≡ Some line → IsReadReply a.reply → IsRightReply run line a.reply
  read_right a line there found is =
      let k = kept_answer script spelled work opening o w down entries downs f run told a there in
      let s = supported script spelled work opening o w down entries downs f run told k.0 k.1 a k.2 in
      let found_here : line_at work.lines a.session a.index ≡ Some line = ap (λ (lines : List Line). line_at lines a.session a.index) (sym told.lines) ∙ found in
      let same : s.line ≡ line = some_is s.line line (sym s.found ∙ found_here) in
      elim is [
        | inl g ↦
            subst (IsRightReply run line) (sym g.1)
            (got_right k.0 k.1 a g.0 line k.2 found_here g.1 (subst (SupportsReply work (core_part w k.0) (down k.0) (k.1).trace line) g.1 (subst (λ (l : Line). SupportsReply work (core_part w k.0) (down k.0) (k.1).trace l a.reply) same s.reply)))
        | inr g ↦
            subst (IsRightReply run line) (sym g.1)
            (scanned_right k.0 k.1 a g.0 line k.2 found_here g.1 (subst (SupportsReply work (core_part w k.0) (down k.0) (k.1).trace line) g.1 (subst (λ (l : Line). SupportsReply work (core_part w k.0) (down k.0) (k.1).trace l a.reply) same s.reply)))
      ]
