-- The execution of a finished run tells of its world: its acknowledged commits are the durable ones.
use Rattle.std.proofs.Common.{◌≡◌, ◌≢◌, ℕ, suc, ◌+◌, ◌<◌, ◌≤◌, List, length, Option, Some, None, is_some, refl, sym, ap, subst, ◌∙◌, inl, inr, arith, eq-eqb}
use Rattle.std.proofs.lemmas.Bool.{cases_lt}
use Rattle.mp_machine.specs.Lists.{IsIn}
use Rattle.mp_model.specs.declared.histories.Opening.{Opening}
use Rattle.mp_model.specs.declared.ids.TrxId.{TrxId}
use Rattle.mp_model.specs.declared.ids.TrxName.{TrxName}
use Rattle.mp_model.specs.declared.replies.Answer.{Answer}
use Rattle.mp_model.specs.declared.replies.Reply.{Reply}
use Rattle.mp_model.specs.declared.replies.Reply.TheVariants.{Committed}
use Rattle.mp_model.specs.declared.transcripts.Down.{Down}
use Rattle.mp_model.specs.Folded.{value_at}
use Rattle.mp_script.specs.declared.statements.Line.{Line}
use Rattle.mp_script.specs.declared.statements.Script.{Script}
use Rattle.mp_script.specs.declared.statements.Stmt.{Stmt}
use Rattle.mp_script.specs.declared.statements.Stmt.TheVariants.{Begin, Get, Put, Del, Copy, Scan, Commit, Rollback}
use Rattle.mp_script.specs.Execution.{Execution, line_at, stmt_at}
use Rattle.mp_script.specs.Seen.{acknowledgement}
use Rattle.mp_script.specs.Spelling.{IsSpelled}
use Rattle.mp_script.specs.Transactions.{trx_in_lines, trx_of, view_of, statements_before, acknowledged_cts, is_number}
use Rattle.mp_script.specs.WentDown.{shows_down, is_stopped}
use Rattle.mp_script.specs.Standing.{StandsAbove}
use Rattle.mp_script.specs.LastValues.{CommitsAboveViews}
use Rattle.mp_script.proofs.Options.{some_is, not_some}
use Rattle.mp_script.proofs.Ordered.{above_or}
use Rattle.mp_script.proofs.Looking.{line_is, find_one, found_is}
use Rattle.mp_script.proofs.ReplyForms.{acknowledges}
use Rattle.mp_cells.specs.declared.rows.Row.{Row}
use Rattle.mp_core_trx.specs.declared.opening.TrxOpening.{TrxOpening}
use Rattle.mp_core_trx.specs.declared.part.Draw.{Draw}
use Rattle.mp_core_trx.specs.Parts.{draw_of, begun_of}
use Rattle.mp_core_trx.specs.Events.{IsNode}
use Rattle.mp_core_pages.specs.PageParts.{durable_llsn}
use Rattle.mp_histories.specs.Histories.{entry_at}
use Rattle.mp_core.specs.declared.opening.CoreOpening.{CoreOpening}
use Rattle.mp_core.specs.CoreExtends.{durable_of}
use Rattle.mp_core.specs.World.{CoreWorld, core_part}
use Rattle.mp_core.specs.OwnMtrs.{row_put_by, row_restored_by, commit_by_mtr, TrxMtr}
use Rattle.mp_facts.specs.Facts.{opening_pages, made_in, IsForced}
use Rattle.mp_supports.specs.Work.{Work, name_of}
use Rattle.mp_supports.specs.Supports.{Trace, commit_trace, IsTrxOf, RecordsCommit, SupportsReply}
use Rattle.mp_supports.specs.Kept.{Entry}
use Rattle.mp_verdict.specs.Finished.{Finished}
use Rattle.mp_verdict.specs.Told.{IsToldBy}
use Rattle.mp_verdict.specs.Reads.{PutBelow, PutOf}
use Rattle.mp_verdict.specs.Writers.{IsValueOf, IsWriter, TellsOfWorld}
use Rattle.mp_verdict.proofs.OpeningRows.{opening_values}
use Rattle.mp_verdict.proofs.PlacesOf.{put_of, of_its_node}
use Rattle.mp_verdict.proofs.OthersFit.{forced_drew}
use Rattle.mp_verdict.proofs.WhichTraces.{which_mtr}
use Rattle.mp_verdict.proofs.KeptOrder.{answer_of, doubt_of, entry_of_mtr, mtrs_up}
use Rattle.mp_verdict.proofs.ToldAnswers.{IsKeptBy, supported, kept_answer, in_run, view_is}
use Rattle.mp_verdict.proofs.WriterOf.{writer_is}
use Rattle.mp_verdict.proofs.NextInOrder.{next_in_order}

-- a value that is right up to a limit is so up to a higher one
value_wider : (o : CoreOpening) (w : CoreWorld) (run : Execution) (trx : TrxName) (id : TrxId) (mtrs : ℕ → TrxMtr) (count limit more place : ℕ) → limit ≤ more → (stmt : Option Stmt) (value : Option (List ℕ)) → IsValueOf o w run trx id mtrs count limit place stmt value → IsValueOf o w run trx id mtrs count more place stmt value
value_wider o w run trx id mtrs count limit more place le None value v = v
value_wider o w run trx id mtrs count limit more place le (Some Begin) value v = v
value_wider o w run trx id mtrs count limit more place le (Some (Get key)) value v = v
value_wider o w run trx id mtrs count limit more place le (Some (Put key set)) value v = v
value_wider o w run trx id mtrs count limit more place le (Some (Del key)) value v = v
value_wider o w run trx id mtrs count limit more place le (Some (Copy source key)) value v =
    let within = v.within in
    record { height = v.height; found = v.found; within = omega (arith, within, le); between = v.between; shows = v.shows; value_is = v.value_is }
value_wider o w run trx id mtrs count limit more place le (Some (Scan low most)) value v = v
value_wider o w run trx id mtrs count limit more place le (Some Commit) value v = v
value_wider o w run trx id mtrs count limit more place le (Some Rollback) value v = v

module _ (script : Script) (spelled : IsSpelled script) (work : Work) (opening : Opening) (o : CoreOpening) (w : CoreWorld) (down : ℕ → ℕ) (entries : ℕ → List Entry) (downs : List Down)
    (f : Finished work script opening o w down entries downs) (run : Execution) (told : IsToldBy work opening o entries downs run) where
  -- how far a node's log is durable
  pub durable_is : (n : ℕ) → durable_of (core_part w n) ≡ durable_llsn o.trx.base.llsn (w.pages.durables n)
  durable_is n = ap (λ (x : TrxOpening). durable_llsn x.base.llsn (w.pages.durables n)) (f.facts.inv.trx.carried n)

  -- the node of a transaction that made an mtr is one of the run's
  pub node_of_mtr : (n : ℕ) (m : TrxMtr) → IsIn m (made_in w n) → IsNode o.trx n
  node_of_mtr n m there = let placed = f.facts.of_history.placed n m there in f.facts.inv.trx.ids.nodes n (begun_of placed.3.0 placed.3.3.0) placed.3.3.1

  -- the entry that answered a commit, with its record
  pub record IsCommitEntryOn (n : ℕ) (id : TrxId) (cts : ℕ) (a : Answer) : Type 0 where
    pub entry : Entry
    pub kept : IsKeptBy script spelled work opening o w down entries downs f run told n entry a
    pub line : Line
    pub found : line_at work.lines a.session a.index ≡ Some line
    pub view : ℕ
    pub trx : IsTrxOf work (core_part w n) line id view
    pub mtr : TrxMtr
    pub made : entry.trace.mtr ≡ Some mtr
    pub records : RecordsCommit (core_part w n) id view cts mtr
    pub reply : a.reply ≡ Committed cts
    pub durable : mtr.mtr.llsn ≤ durable_of (core_part w n)

  abbrev pub IsCommitEntry : TrxId → ℕ → Answer → Type 0
  IsCommitEntry id cts a = IsCommitEntryOn id.node id cts a

  pub forced_by : (id : TrxId) (cts : ℕ) (a : Answer) → IsCommitEntry id cts a → IsForced o w id cts
  forced_by id cts a c = record {
    recorded = record { made = c.mtr; was_made = c.records.was_made; commit = c.records.commit };
    durable = subst (λ (l : ℕ). c.mtr.mtr.llsn ≤ l) (durable_is id.node) c.durable;
  }

  -- an acknowledged commit has one
  pub commit_entry : (a : Answer) (cts : ℕ) → IsIn a run.answers → a.reply ≡ Committed cts → (id : TrxId) × IsCommitEntry id cts a
  commit_entry a cts there reply =
      let k = kept_answer script spelled work opening o w down entries downs f run told a there in
      let s = supported script spelled work opening o w down entries downs f run told k.0 k.1 a k.2 in
      let h : (id : TrxId) × (view : ℕ) × IsTrxOf work (core_part w k.0) s.line id view × ((m : TrxMtr) × _ × ((k.1).trace ≡ commit_trace (draw_of id cts) m) × RecordsCommit (core_part w k.0) id view cts m × (m.mtr.llsn ≤ durable_of (core_part w k.0))) =
      subst (SupportsReply work (core_part w k.0) (down k.0) (k.1).trace s.line) reply s.reply in
      let node : (h.0).node ≡ k.0 = of_its_node o w f.facts k.0 h.3.0 h.0 h.3.3.was_made h.3.3.of in (
        h.0,
        subst (λ (n : ℕ). IsCommitEntryOn n h.0 cts a) (sym node) (record {
          entry = k.1;
          kept = k.2;
          line = s.line;
          found = s.found;
          view = h.1;
          trx = h.2;
          mtr = h.3.0;
          made = ap (λ (t : Trace). t.mtr) h.3.2;
          records = h.3.3;
          reply = reply;
          durable = h.3.4;
        }),
      )

  -- two entries of one commit are one
  same_entry : (id : TrxId) (cts : ℕ) (a b : Answer) → IsCommitEntry id cts a → IsCommitEntry id cts b → a ≡ b
  same_entry id cts a b c d =
      let n = c.kept.node in
      let upto = (f.facts.of_versions.commit_last id.node d.mtr c.mtr d.records.was_made (ap (λ (x : Option Draw). is_some x) d.records.commit) c.records.was_made (c.records.of ∙ sym d.records.of)).0 in
      let down_to = (f.facts.of_versions.commit_last id.node c.mtr d.mtr c.records.was_made (ap (λ (x : Option Draw). is_some x) c.records.commit) d.records.was_made (d.records.of ∙ sym c.records.of)).0 in
      elim (above_or c.entry d.entry (entries id.node) c.kept.there d.kept.there) [
        | inl same ↦ some_is a b (sym c.kept.is ∙ ap (λ (e : Entry). e.answer) same ∙ d.kept.is)
        | inr (inl above) ↦
            let lt = mtrs_up work o w f.facts id.node (down id.node) (entries id.node) (f.kept id.node n) (f.all id.node n) (next_in_order script spelled work opening o w down entries downs f id.node n) c.entry d.entry c.mtr d.mtr above c.made d.made in
            absurd (omega (arith, lt, down_to))
        | inr (inr below) ↦
            let lt = mtrs_up work o w f.facts id.node (down id.node) (entries id.node) (f.kept id.node n) (f.all id.node n) (next_in_order script spelled work opening o w down entries downs f id.node n) d.entry c.entry d.mtr c.mtr below d.made c.made in
            absurd (omega (arith, lt, upto))
      ]

  one_id : (id other : TrxId) (cts : ℕ) → IsForced o w id cts → IsForced o w other cts → id ≡ other
  one_id id other cts g h = ap (λ (d : Draw). d.id) (f.facts.inv.trx.draws.by_one id.node other.node (draw_of id cts) (draw_of other cts) (forced_drew o w f.facts id cts g) (forced_drew o w f.facts other cts h) refl).1

  -- a number is acknowledged by one answer
  pub acknowledged_by : (id : TrxId) (cts : ℕ) (a : Answer) → IsCommitEntry id cts a → acknowledgement run.answers cts ≡ Some a
  acknowledged_by id cts a c =
      find_one (λ (x : Answer). is_number cts (acknowledged_cts x.reply)) run.answers a (in_run script spelled work opening o w down entries downs f run told id.node c.entry a c.kept)
      (ap (λ (r : Reply). is_number cts (acknowledged_cts r)) c.reply ∙ eq-eqb cts cts refl)
      (λ b there passes.
      let d = commit_entry b cts there (acknowledges b.reply cts passes) in
      let same : d.0 ≡ id = one_id d.0 id cts (forced_by d.0 cts b d.1) (forced_by id cts a c) in
      same_entry id cts b a (subst (λ (x : TrxId). IsCommitEntry x cts b) same d.1) c)

  -- a durable commit was answered
  pub entry_of_forced : (id : TrxId) (cts : ℕ) → IsForced o w id cts → (a : Answer) × IsCommitEntry id cts a
  entry_of_forced id cts g =
      let c = g.recorded.made in
      let n = node_of_mtr id.node c g.recorded.was_made in
      let not_put : (row : Row) → row_put_by c.mtr ≡ Some row → ⊥ = λ row is. not_some (draw_of id cts) (sym (put_of o w f.facts id.node c row g.recorded.was_made is).commit ∙ g.recorded.commit) in
      let whole : row_restored_by c.mtr ≡ None = elim (f.facts.of_history.kinds id.node c g.recorded.was_made) [
        | inl p ↦ p.1.restored
        | inr (inl b) ↦ absurd (not_some (draw_of id cts) (sym b.1.commit ∙ g.recorded.commit))
        | inr (inr k) ↦ k.2.restored
      ] in
      let x = entry_of_mtr work o w f.facts id.node (down id.node) (entries id.node) (f.kept id.node n) (f.all id.node n) (next_in_order script spelled work opening o w down entries downs f id.node n) c g.recorded.was_made whole in
      let a = answer_of work o w f.facts id.node (down id.node) (entries id.node) (f.kept id.node n) (f.all id.node n) (next_in_order script spelled work opening o w down entries downs f id.node n) x.0 x.1 in
      let kept : IsKeptBy script spelled work opening o w down entries downs f run told id.node x.0 a.0 = record { node = n; there = x.1; is = a.1 } in
      let s = supported script spelled work opening o w down entries downs f run told id.node x.0 a.0 kept in
      let durable : c.mtr.llsn ≤ durable_of (core_part w id.node) = subst (λ (l : ℕ). c.mtr.llsn ≤ l) (sym (durable_is id.node)) g.durable in
      elim (which_mtr work (core_part w id.node) (x.0).trace s.line (down id.node) (a.0).reply c s.reply x.2) [
        | inl q ↦ absurd (not_put q.2.over.row q.2.over.put)
        | inr (inl q) ↦ absurd (not_put q.2.over.row q.2.over.put)
        | inr (inr (inl q)) ↦
            let same : draw_of q.2.id q.0 ≡ draw_of id cts = some_is (draw_of q.2.id q.0) (draw_of id cts) (sym q.2.records.commit ∙ g.recorded.commit) in
            let is_id : q.2.id ≡ id = ap (λ (d : Draw). d.id) same in
            let is_cts : q.0 ≡ cts = ap (λ (d : Draw). d.cts) same in (
              a.0,
              subst (λ (i : TrxId). IsCommitEntryOn id.node i cts a.0) is_id
                  (subst (λ (k : ℕ). IsCommitEntryOn id.node q.2.id k a.0) is_cts (record {
                    entry = x.0;
                    kept = kept;
                    line = s.line;
                    found = s.found;
                    view = q.2.view;
                    trx = q.2.trx;
                    mtr = c;
                    made = x.2;
                    records = q.2.records;
                    reply = q.1;
                    durable = durable;
                  })),
            )
        | inr (inr (inr q)) ↦
            let doubt = doubt_of work o w f.facts id.node (down id.node) (entries id.node) (f.kept id.node n) (f.all id.node n) (next_in_order script spelled work opening o w down entries downs f id.node n) x.0 a.0 x.1 a.1 (ap (λ (r : Reply). shows_down r) q.1) c x.2 in
            absurd (omega (arith, doubt, durable))
      ]

  -- the writes of an acknowledged commit are its puts
  module _ (id : TrxId) (cts : ℕ) (a : Answer) (c : IsCommitEntry id cts a) where
    up_to : (x : Entry) (m : TrxMtr) → StandsAbove x c.entry (entries id.node) → x.trace.mtr ≡ Some m → m.at < c.mtr.at
    up_to x m above made = let n = c.kept.node in mtrs_up work o w f.facts id.node (down id.node) (entries id.node) (f.kept id.node n) (f.all id.node n) (next_in_order script spelled work opening o w down entries downs f id.node n) x c.entry m c.mtr above made c.made

    from_on : (x : Entry) (m : TrxMtr) → StandsAbove c.entry x (entries id.node) → x.trace.mtr ≡ Some m → c.mtr.at ≤ m.at
    from_on x m above made = let n = c.kept.node in let lt = mtrs_up work o w f.facts id.node (down id.node) (entries id.node) (f.kept id.node n) (f.all id.node n) (next_in_order script spelled work opening o w down entries downs f id.node n) c.entry x c.mtr m above c.made made in omega (arith, lt)

    here_on : (m : TrxMtr) → c.entry.trace.mtr ≡ Some m → c.mtr.at ≤ m.at
    here_on m made = let same : c.mtr ≡ m = some_is c.mtr m (sym c.made ∙ made) in let at : c.mtr.at ≡ m.at = ap (λ (k : TrxMtr). k.at) same in omega (arith, at)

    abbrev commit_name : TrxName
    commit_name = trx_in_lines work.lines a.session a.index

    until_commit : IsWriter o w run commit_name id (statements_before commit_name a.index) c.mtr.at
    until_commit = writer_is script spelled work opening o w down entries downs f run told id c.view c.entry a c.kept c.line c.found c.trx c.mtr.at up_to (ap (λ (r : Reply). is_stopped r) c.reply) from_on here_on

    -- a transaction puts nothing after its commit record
    put_before : (key : ℕ) (m : TrxMtr) (row : Row) → PutOf w id key m row → PutBelow w id key c.mtr.at m row
    put_before key m row p =
        let its = (f.facts.of_versions.commits id.node c.mtr id cts c.records.was_made c.records.commit).0 in
        let upto = (f.facts.of_versions.commit_last id.node c.mtr m c.records.was_made (ap (λ (x : Option Draw). is_some x) c.records.commit) p.was_made (p.of ∙ sym its)).0 in
        let apart : m.at ≢ c.mtr.at = λ same.
        let one : m.mtr ≡ c.mtr.mtr = some_is m.mtr c.mtr.mtr (sym (f.facts.of_history.placed id.node m p.was_made).1 ∙ ap (λ (k : ℕ). entry_at k w.pages.history) same ∙ (f.facts.of_history.placed id.node c.mtr c.records.was_made).1) in
        not_some (draw_of id cts) (sym (put_of o w f.facts id.node m row p.was_made p.put).commit ∙ ap commit_by_mtr one ∙ c.records.commit) in
        elim (cases_lt m.at c.mtr.at) [
          | inl lt ↦ record { was_made = p.was_made; of = p.of; put = p.put; its_key = p.its_key; below = lt }
          | inr ge ↦ absurd (apart (omega (arith, upto, ge)))
        ]

    name_is : commit_name ≡ trx_of run a
    name_is = ap (λ (lines : List Line). trx_in_lines lines a.session a.index) (sym told.lines)

    widened : IsWriter o w run commit_name id (statements_before commit_name a.index) c.mtr.at → IsWriter o w run commit_name id (statements_before commit_name a.index) (length w.pages.history)
    widened x =
        let at = (f.facts.of_history.placed id.node c.mtr c.records.was_made).0 in
        record {
          mtrs = x.mtrs;
          rows = x.rows;
          put = x.put;
          rising = x.rising;
          all = λ key m row p. x.all key m row (put_before key m row p);
          value = λ i key lt wrote. value_wider o w run commit_name id x.mtrs (statements_before commit_name a.index) c.mtr.at (length w.pages.history) i (omega (arith, at)) (stmt_at run commit_name.session (commit_name.first + suc i)) (x.rows i).value (x.value i key lt wrote);
        }

    pub in_all : IsWriter o w run (trx_of run a) id (statements_before (trx_of run a) a.index) (length w.pages.history)
    in_all = subst (λ (name : TrxName). IsWriter o w run name id (statements_before name a.index) (length w.pages.history)) name_is (widened until_commit)

    commit_named : name_of work id ≡ Some commit_name
    commit_named =
        let line = line_is work.lines a.session a.index c.line c.found in
        c.trx.named ∙ ap (λ (s : ℕ). Some (trx_in_lines work.lines s c.line.index)) line.1 ∙ ap (λ (i : ℕ). Some (trx_in_lines work.lines a.session i)) line.2

    pub commit_view : view_of run (trx_of run a) ≡ c.view
    commit_view = ap (view_of run) (sym name_is) ∙ view_is script spelled work opening o w down entries downs f run told id.node id c.view commit_name c.kept.node c.trx.begun commit_named

  pub base_is : run.opening.base ≡ o.trx.base.ts
  base_is = ap (λ (x : Opening). x.base) told.opening_is ∙ f.opened.base

  above_views : CommitsAboveViews run
  above_views number answer found =
      let it = found_is (λ (x : Answer). is_number number (acknowledged_cts x.reply)) run.answers answer found in
      let c = commit_entry answer number it.0 (acknowledges answer.reply number it.1) in
      let view = commit_view c.0 number answer c.1 in
      let from = (f.facts.inv.trx.sight.views (c.0).node (begun_of c.0 c.1.view) c.1.trx.begun).0 in
      let above = c.1.records.above in
      (omega (arith, base_is, view, from), omega (arith, view, above))

  pub tells_of : TellsOfWorld o w run
  tells_of = record {
    rows = λ key. ap (λ (x : Opening). value_at key x.rows.items) told.opening_is ∙ ap (value_at key) f.opened.rows ∙ opening_values (opening_pages o) f.fit.clean.tree key;
    forced = λ id cts g.
        let c = entry_of_forced id cts g in
        let within = (f.facts.inv.trx.draws.within id.node (draw_of id cts) (forced_drew o w f.facts id cts g)).0 in
        record { above_base = omega (arith, base_is, within); answer = c.0; found = acknowledged_by id cts c.0 c.1; writer = in_all id cts c.0 c.1 };
    acknowledged = λ cts answer found.
        let it = found_is (λ (x : Answer). is_number cts (acknowledged_cts x.reply)) run.answers answer found in
        let c = commit_entry answer cts it.0 (acknowledges answer.reply cts it.1) in
        (c.0, forced_by c.0 cts answer c.1);
    views = above_views;
  }
