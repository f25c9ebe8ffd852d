-- The ok writes of a transaction before one of its answers are the puts of its id below what that answer rests on.
use Rattle.std.proofs.Common.{if◌then◌else◌, ◌≡◌, ◌≢◌, ℕ, suc, ◌+◌, ◌-◌, ◌<◌, ◌≤◌, ◌==◌, ◌&&◌, Bool, true, false, cond, List, [], ◌∷◌, Option, Some, None, refl, sym, ap, subst, ◌∙◌, inl, inr, arith, eq-eqb}
use mathlib.Core.Bool.{false≢true}
use Rattle.std.specs.Option.{IfSome, option_map}
use Rattle.std.proofs.lemmas.Bool.{cases_lt, eqb-true, and_from, and_parts}
use Rattle.mp_machine.specs.Lists.{IsIn}
use Rattle.mp_model.specs.declared.histories.Opening.{Opening}
use Rattle.mp_model.specs.declared.ids.TrxId.{TrxId}
use Rattle.mp_model.specs.declared.ids.TrxName.{TrxName}
use Rattle.mp_model.specs.declared.replies.Answer.{Answer}
use Rattle.mp_model.specs.declared.replies.Reply.{Reply}
use Rattle.mp_model.specs.declared.replies.Reply.TheVariants.{Wrote}
use Rattle.mp_model.specs.declared.replies.WriteVerb.{WriteVerb}
use Rattle.mp_model.specs.declared.transcripts.Down.{Down}
use Rattle.mp_script.specs.declared.statements.Line.{Line}
use Rattle.mp_script.specs.declared.statements.Script.{Script}
use Rattle.mp_script.specs.declared.statements.Stmt.{Stmt}
use Rattle.mp_script.specs.declared.statements.Stmt.TheVariants.{Begin, Get, Put, Del, Copy, Scan, Commit, Rollback}
use Rattle.mp_script.specs.Execution.{Execution, line_at, stmt_in, stmt_at}
use Rattle.mp_script.specs.Spelling.{IsSpelled}
use Rattle.mp_script.specs.SpelledLines.{HaveTheirBegin}
use Rattle.mp_script.specs.Transactions.{target_key, begins, begin_in, trx_in_lines, statements_before, wrote_at}
use Rattle.mp_script.specs.WentDown.{shows_down, is_stopped}
use Rattle.mp_script.specs.Standing.{StandsAbove}
use Rattle.mp_script.specs.Answers.{WroteKey}
use Rattle.mp_script.proofs.Options.{some_is, not_some}
use Rattle.mp_script.proofs.Ordered.{above_or, all_in}
use Rattle.mp_script.proofs.Looking.{line_is}
use Rattle.mp_script.proofs.ScriptLines.{begin_between, begin_upto, have_begins}
use Rattle.mp_script.proofs.ReplyForms.{target_same, no_begin_writes}
use Rattle.mp_cells.specs.declared.rows.Row.{Row}
use Rattle.mp_cells.specs.Writes.{version_of}
use Rattle.mp_cells.specs.PageView.{PageView}
use Rattle.mp_core_trx.specs.declared.part.Draw.{Draw}
use Rattle.mp_core_trx.specs.Parts.{draw_of, begun_of}
use Rattle.mp_core_trx.specs.World.{begun_in}
use Rattle.mp_core_pages.specs.declared.part.GivenPage.{GivenPage}
use Rattle.mp_histories.proofs.Writers.{decided}
use Rattle.mp_core.specs.declared.opening.CoreOpening.{CoreOpening}
use Rattle.mp_core.specs.World.{CoreWorld, core_part}
use Rattle.mp_core.specs.OwnMtrs.{row_put_by, commit_by_mtr, TrxMtr}
use Rattle.mp_supports.specs.Work.{Work, name_of}
use Rattle.mp_supports.specs.Supports.{Trace, IsTrxOf, IsValueWritten, Overwrites, SupportsReply}
use Rattle.mp_supports.specs.Kept.{Entry}
use Rattle.mp_verdict.specs.Finished.{Finished}
use Rattle.mp_verdict.specs.Told.{IsToldBy}
use Rattle.mp_verdict.specs.Reads.{PutBelow, PutOf, ShowsReader}
use Rattle.mp_verdict.specs.Writers.{LiesBetween, IsValueOf, IsWriter}
use Rattle.mp_verdict.proofs.PlacesOf.{put_of}
use Rattle.mp_verdict.proofs.Reading.{read_shows}
use Rattle.mp_verdict.proofs.WhichTraces.{IsPutBy, which_mtr}
use Rattle.mp_verdict.proofs.KeptOrder.{answer_of, entry_of_mtr, mtrs_up, precedes_of, index_up, stopped_below}
use Rattle.mp_verdict.proofs.ToldAnswers.{IsKeptBy, supported, kept_answer, in_run, same_node, above_by_index, one_entry, stmt_here, wrote_there, wrote_is, one_trx, view_is}
use Rattle.mp_verdict.proofs.NextInOrder.{next_in_order}

-- ---- the entry that answers a statement

abbrev pub answers_stmt : Option Answer → ℕ → ℕ → Bool
answers_stmt None session index = false
answers_stmt (Some a) session index = a.session == session && a.index == index

abbrev pub stmt_entry : List Entry → ℕ → ℕ → Option Entry
stmt_entry [] session index = None
stmt_entry (e ∷ entries) session index = if answers_stmt e.answer session index then Some e else stmt_entry entries session index

answers_it : (x : Option Answer) (session index : ℕ) → answers_stmt x session index ≡ true → (a : Answer) × (x ≡ Some a) × (a.session ≡ session) × (a.index ≡ index)
answers_it None session index e = absurd (false≢true e)
answers_it (Some a) session index e = let both = and_parts (a.session == session) (a.index == index) e in (a, refl, eqb-true a.session session both.0, eqb-true a.index index both.1)

entry_found : (entries : List Entry) (e : Entry) (a : Answer) → IsIn e entries → e.answer ≡ Some a → ((x : Entry) (b : Answer) → IsIn x entries → x.answer ≡ Some b → b.session ≡ a.session → b.index ≡ a.index → x ≡ e) → stmt_entry entries a.session a.index ≡ Some e
entry_found [] e a there is one = absurd there
entry_found (x ∷ entries) e a there is one = elim (decided (answers_stmt x.answer a.session a.index)) [
  | inl t ↦
      let it = answers_it x.answer a.session a.index t in
      ap (λ (b : Bool). cond b (Some x) (stmt_entry entries a.session a.index)) t ∙ ap (λ (y : Entry). Some y) (one x it.0 (inl refl) it.1 it.2 it.3)
  | inr t ↦ elim there [
    | inl same ↦
        let test : answers_stmt x.answer a.session a.index ≡ true =
        ap (λ (y : Entry). answers_stmt y.answer a.session a.index) (sym same) ∙ ap (λ (y : Option Answer). answers_stmt y a.session a.index) is
        ∙ and_from (a.session == a.session) (a.index == a.index) (eq-eqb a.session a.session refl) (eq-eqb a.index a.index refl) in
        absurd (false≢true (sym t ∙ test))
    | inr h ↦ ap (λ (b : Bool). cond b (Some x) (stmt_entry entries a.session a.index)) t ∙ entry_found entries e a h is (λ y b k. one y b (inr k))
  ]
]

-- the mtr of an entry, where there is one
abbrev pub no_trx_mtr : TrxMtr
no_trx_mtr = record { at = 0; of = None; mtr = record { node = 0; llsn = 0; records = [] } }

abbrev pub mtr_or : Option TrxMtr → TrxMtr
mtr_or None = no_trx_mtr
mtr_or (Some m) = m

abbrev pub mtr_of_entry : Option Entry → TrxMtr
mtr_of_entry None = no_trx_mtr
mtr_of_entry (Some e) = mtr_or e.trace.mtr

abbrev pub put_or : Option Row → Row
put_or None = version_of 0 None
put_or (Some row) = row

-- a write that was answered ok made an mtr
pub wrote_put : (work : Work) (p : _) (down : ℕ) (trace : Trace) (line : Line) (verb : WriteVerb) → SupportsReply work p down trace line (Wrote verb) → (m : TrxMtr) × (trace.mtr ≡ Some m) × IsPutBy work p trace line m
wrote_put work p down trace line verb h = (h.3.1, ap (λ (t : Trace). t.mtr) h.3.3, record { id = h.0; view = h.1; key = h.3.0; verb = verb; trx = h.2; writes = h.3.2; over = h.3.4 })

module _ (script : Script) (spelled : IsSpelled script) (work : Work) (opening : Opening) (o : CoreOpening) (w : CoreWorld) (down : ℕ → ℕ) (entries : ℕ → List Entry) (downs : List Down)
    (f : Finished work script opening o w down entries downs) (run : Execution) (told : IsToldBy work opening o entries downs run)
    (id : TrxId) (view : ℕ) (last : Entry) (last_answer : Answer) (last_kept : IsKeptBy script spelled work opening o w down entries downs f run told id.node last last_answer)
    (last_line : Line) (last_found : line_at work.lines last_answer.session last_answer.index ≡ Some last_line) (last_trx : IsTrxOf work (core_part w id.node) last_line id view) where
  abbrev Keeps : Entry → Answer → Type 0
  Keeps e a = IsKeptBy script spelled work opening o w down entries downs f run told id.node e a

  -- the transaction's name, and how many statements stand between its `begin` and its last answer
  abbrev pub name : TrxName
  name = trx_in_lines work.lines last_answer.session last_answer.index

  abbrev pub count : ℕ
  count = statements_before name last_answer.index

  named : name_of work id ≡ Some name
  named =
      let line = line_is work.lines last_answer.session last_answer.index last_line last_found in
      last_trx.named ∙ ap (λ (s : ℕ). Some (trx_in_lines work.lines s last_line.index)) line.1 ∙ ap (λ (i : ℕ). Some (trx_in_lines work.lines last_answer.session i)) line.2

  -- the statements from its `begin` to that answer are its own
  in_name : (index : ℕ) → name.first ≤ index → index ≤ last_answer.index → trx_in_lines work.lines last_answer.session index ≡ name
  in_name index low high = ap (λ (k : ℕ). record { session = last_answer.session; first = k }) (begin_between work.lines last_answer.session last_answer.index index low high)

  -- a transaction with this name is the one
  same_id : (other : TrxId) (shown : ℕ) → IsIn (begun_of other shown) (begun_in w.trx id.node) → name_of work other ≡ Some name → (id ≡ other) × (view ≡ shown)
  same_id other shown there is = one_trx script spelled work opening o w down entries downs f run told id.node id other view shown name last_trx.begun there named is

  abbrev pub mtrs : ℕ → TrxMtr
  mtrs i = mtr_of_entry (stmt_entry (entries id.node) name.session (name.first + suc i))

  abbrev pub rows : ℕ → Row
  rows i = put_or (row_put_by (mtrs i).mtr)

  -- the entry of a write
  record IsWritten (i key : ℕ) : Type 0 where
    entry : Entry
    answer : Answer
    kept : Keeps entry answer
    session_is : answer.session ≡ name.session
    index_is : answer.index ≡ name.first + suc i
    above : StandsAbove entry last (entries id.node)
    line : Line
    found : line_at work.lines answer.session answer.index ≡ Some line
    mtr : TrxMtr
    made : entry.trace.mtr ≡ Some mtr
    over : Overwrites (core_part w id.node) entry.trace.pages id view key line.stmt mtr

  mtrs_are : (i : ℕ) (entry : Entry) (answer : Answer) (mtr : TrxMtr) → Keeps entry answer → answer.session ≡ name.session → answer.index ≡ name.first + suc i → entry.trace.mtr ≡ Some mtr → mtrs i ≡ mtr
  mtrs_are i entry answer mtr kept session index made =
      let found = entry_found (entries id.node) entry answer kept.there kept.is (λ x b there is s k. one_entry script spelled work opening o w down entries downs f run told id.node x entry b answer (record { node = kept.node; there = there; is = is }) kept s k) in
      ap (λ (s : ℕ). mtr_of_entry (stmt_entry (entries id.node) s (name.first + suc i))) (sym session)
      ∙ ap (λ (k : ℕ). mtr_of_entry (stmt_entry (entries id.node) answer.session k)) (sym index)
      ∙ ap mtr_of_entry found ∙ ap mtr_or made

  written : (i key : ℕ) → i < count → WroteKey run name i key → IsWritten i key
  written i key lt wrote =
      let at = wrote_is script spelled work opening o w down entries downs f run told name.session (name.first + suc i) key wrote in
      let k = kept_answer script spelled work opening o w down entries downs f run told at.answer at.there in
      let kept = same_node script spelled work opening o w down entries downs f run told id.node k.0 last k.1 last_answer at.answer last_kept k.2 (sym at.session_is) in
      let index = at.index_is in
      let below : at.answer.index < last_answer.index = omega (arith, index, lt) in
      let s = supported script spelled work opening o w down entries downs f run told id.node k.1 at.answer kept in
      let p = wrote_put work (core_part w id.node) (down id.node) (k.1).trace s.line at.verb (subst (SupportsReply work (core_part w id.node) (down id.node) (k.1).trace s.line) at.wrote s.reply) in
      let line = line_is work.lines at.answer.session at.answer.index s.line s.found in
      let its_name : trx_in_lines work.lines s.line.session s.line.index ≡ name =
      ap (λ (x : ℕ). trx_in_lines work.lines x s.line.index) (line.1 ∙ at.session_is) ∙ ap (λ (x : ℕ). trx_in_lines work.lines last_answer.session x) line.2 ∙ in_name at.answer.index (omega (arith, index)) (omega (arith, below)) in
      let same = same_id p.2.id p.2.view p.2.trx.begun (p.2.trx.named ∙ ap (λ (x : TrxName). Some x) its_name) in
      let stmt : stmt_at run name.session (name.first + suc i) ≡ Some s.line.stmt =
      ap (λ (x : ℕ). stmt_at run x (name.first + suc i)) (sym at.session_is) ∙ ap (stmt_at run at.answer.session) (sym at.index_is) ∙ stmt_here script spelled work opening o w down entries downs f run told at.answer s.line s.found in
      let its_key : p.2.key ≡ key = some_is p.2.key key (sym (target_same s.line.stmt p.2.verb p.2.key p.2.writes) ∙ ap target_key (sym stmt) ∙ at.target) in
      record {
        entry = k.1;
        answer = at.answer;
        kept = kept;
        session_is = at.session_is;
        index_is = at.index_is;
        above = above_by_index script spelled work opening o w down entries downs f run told id.node k.1 last at.answer last_answer kept last_kept at.session_is below;
        line = s.line;
        found = s.found;
        mtr = p.0;
        made = p.1;
        over =
            subst (λ (x : ℕ). Overwrites (core_part w id.node) (k.1).trace.pages id view x s.line.stmt p.0) its_key
            (subst (λ (x : ℕ). Overwrites (core_part w id.node) (k.1).trace.pages id x p.2.key s.line.stmt p.0) (sym same.1)
            (subst (λ (x : TrxId). Overwrites (core_part w id.node) (k.1).trace.pages x p.2.view p.2.key s.line.stmt p.0) (sym same.0) p.2.over));
      }

  mtr_here : (i key : ℕ) (x : IsWritten i key) → mtrs i ≡ x.mtr
  mtr_here i key x = mtrs_are i x.entry x.answer x.mtr x.kept x.session_is x.index_is x.made

  row_here : (i key : ℕ) (x : IsWritten i key) → rows i ≡ x.over.row
  row_here i key x = ap (λ (m : TrxMtr). put_or (row_put_by m.mtr)) (mtr_here i key x) ∙ ap put_or x.over.put

  pub put_is : (i key : ℕ) → i < count → WroteKey run name i key → PutOf w id key (mtrs i) (rows i)
  put_is i key lt wrote =
      let x = written i key lt wrote in
      subst (λ (m : TrxMtr). PutOf w id key m (rows i)) (sym (mtr_here i key x))
      (subst (PutOf w id key x.mtr) (sym (row_here i key x)) (record {
        was_made = x.over.was_made;
        of = x.over.of;
        put = x.over.put;
        its_key = x.over.its_key;
        below = (f.facts.of_history.placed id.node x.mtr x.over.was_made).0;
      }))

  -- one write's entry stands above a later one's
  entries_up : (i j key other : ℕ) (x : IsWritten i key) (y : IsWritten j other) → i < j → StandsAbove x.entry y.entry (entries id.node)
  entries_up i j key other x y lt =
      let a = x.index_is in
      let b = y.index_is in
      above_by_index script spelled work opening o w down entries downs f run told id.node x.entry y.entry x.answer y.answer x.kept y.kept (x.session_is ∙ sym y.session_is) (omega (arith, a, b, lt))

  pub rising_is : (i j key other : ℕ) → i < j → j < count → WroteKey run name i key → WroteKey run name j other → (mtrs i).at < (mtrs j).at
  rising_is i j key other lt upto wrote later =
      let x = written i key (omega (arith, lt, upto)) wrote in
      let y = written j other upto later in
      let n = last_kept.node in
      let up = mtrs_up work o w f.facts id.node (down id.node) (entries id.node) (f.kept id.node n) (f.all id.node n) (next_in_order script spelled work opening o w down entries downs f id.node n) x.entry y.entry x.mtr y.mtr (entries_up i j key other x y lt) x.made y.made in
      let at : (mtrs i).at ≡ x.mtr.at = ap (λ (m : TrxMtr). m.at) (mtr_here i key x) in
      let at_later : (mtrs j).at ≡ y.mtr.at = ap (λ (m : TrxMtr). m.at) (mtr_here j other y) in
      omega (arith, up, at, at_later)

  -- what an entry read lies above the mtrs of those before it, and not above its own or those after it
  read_between : (e : Entry) (g : GivenPage PageView) → IsIn g e.trace.pages → (x : Entry) (m : TrxMtr) → x.trace.mtr ≡ Some m → (StandsAbove x e (entries id.node) → m.at < g.height) × (StandsAbove e x (entries id.node) → g.height ≤ m.at)
  read_between e g there x m made =
      let n = last_kept.node in (
        λ above.
            let p = precedes_of work o w f.facts id.node (down id.node) (entries id.node) (f.kept id.node n) (f.all id.node n) (next_in_order script spelled work opening o w down entries downs f id.node n) x e above in
            subst (λ (y : Option TrxMtr). IfSome y (λ k. k.at < g.height)) made (all_in (λ (h : GivenPage PageView). IfSome x.trace.mtr (λ k. k.at < h.height)) g e.trace.pages p.below there),
        λ below.
            let p = precedes_of work o w f.facts id.node (down id.node) (entries id.node) (f.kept id.node n) (f.all id.node n) (next_in_order script spelled work opening o w down entries downs f id.node n) e x below in
            subst (λ (y : Option TrxMtr). IfSome y (λ k. g.height ≤ k.at)) made (all_in (λ (h : GivenPage PageView). IfSome x.trace.mtr (λ k. h.height ≤ k.at)) g e.trace.pages p.above there),
      )

  module _ (limit : ℕ) (before : (x : Entry) (m : TrxMtr) → StandsAbove x last (entries id.node) → x.trace.mtr ≡ Some m → m.at < limit) where
    between_is : (i key : ℕ) (x : IsWritten i key) (g : GivenPage PageView) → IsIn g x.entry.trace.pages → LiesBetween run name mtrs count i g.height
    between_is i key x g there = λ j other lt wrote.
        let y = written j other lt wrote in
        let at : (mtrs j).at ≡ y.mtr.at = ap (λ (m : TrxMtr). m.at) (mtr_here j other y) in
        let own = all_in (λ (h : GivenPage PageView). h.height ≤ x.mtr.at) g x.entry.trace.pages x.over.read_before there in
        let reads = read_between x.entry g there y.entry y.mtr y.made in (
          λ under. let below = reads.0 (entries_up j i other key y x under) in omega (arith, below, at),
          λ upto. elim (cases_lt i j) [
            | inl past ↦ let above = reads.1 (entries_up i j key other x y past) in omega (arith, above, at)
            | inr ge ↦
                let same : i ≡ j = omega (arith, upto, ge) in
                let at_i : (mtrs i).at ≡ x.mtr.at = ap (λ (m : TrxMtr). m.at) (mtr_here i key x) in
                let at_j : (mtrs i).at ≡ (mtrs j).at = ap (λ (k : ℕ). (mtrs k).at) same in
                omega (arith, own, at_i, at_j)
          ],
        )

    by_stmt : (i key : ℕ) (x : IsWritten i key) (stmt : Stmt) (value : Option (List ℕ)) → IsValueWritten (core_part w id.node) x.entry.trace.pages id view stmt value → IsValueOf o w run name id mtrs count limit i (Some stmt) value
    by_stmt i key x Begin value v = v
    by_stmt i key x (Get k) value v = v
    by_stmt i key x (Put k set) value v = v
    by_stmt i key x (Del k) value v = v
    by_stmt i key x (Copy source k) value v =
        let sees = v.1 in
        let own = all_in (λ (h : GivenPage PageView). h.height ≤ x.mtr.at) sees.leaf x.entry.trace.pages x.over.read_before sees.rests in
        let under = before x.entry x.mtr x.above x.made in
        record {
          height = sees.leaf.height;
          found = v.0;
          within = omega (arith, own, under);
          between = between_is i key x sees.leaf sees.rests;
          shows = subst (λ (k' : ℕ). ShowsReader o w id sees.leaf.height k' source v.0) (sym (view_is script spelled work opening o w down entries downs f run told id.node id view name last_kept.node last_trx.begun named)) (read_shows o w f.fit f.facts x.entry.trace.pages id view source v.0 sees);
          value_is = v.2;
        }
    by_stmt i key x (Scan low most) value v = v
    by_stmt i key x Commit value v = v
    by_stmt i key x Rollback value v = v

    pub value_is : (i key : ℕ) → i < count → WroteKey run name i key → IsValueOf o w run name id mtrs count limit i (stmt_at run name.session (name.first + suc i)) (rows i).value
    value_is i key lt wrote =
        let x = written i key lt wrote in
        let stmt : stmt_at run name.session (name.first + suc i) ≡ Some x.line.stmt =
        ap (λ (s : ℕ). stmt_at run s (name.first + suc i)) (sym x.session_is) ∙ ap (stmt_at run x.answer.session) (sym x.index_is) ∙ stmt_here script spelled work opening o w down entries downs f run told x.answer x.line x.found in
        subst (λ (s : Option Stmt). IsValueOf o w run name id mtrs count limit i s (rows i).value) (sym stmt)
        (subst (λ (r : Row). IsValueOf o w run name id mtrs count limit i (Some x.line.stmt) r.value) (sym (row_here i key x)) (by_stmt i key x x.line.stmt x.over.row.value x.over.value))

    module _ (up : is_stopped last_answer.reply ≡ false) (after : (x : Entry) (m : TrxMtr) → StandsAbove last x (entries id.node) → x.trace.mtr ≡ Some m → limit ≤ m.at) (here : (m : TrxMtr) → last.trace.mtr ≡ Some m → limit ≤ m.at) where
      -- which write of the transaction made a put below the limit
      abbrev pub IsMadeBy : ℕ → TrxMtr → Row → Type 0
      IsMadeBy key m row = (i : ℕ) × (i < count) × WroteKey run name i key × ((mtrs i).at ≡ m.at) × (rows i ≡ row)

      -- the entry of a put below the limit stands above the last one
      entry_above : (e : Entry) (m : TrxMtr) → IsIn e (entries id.node) → e.trace.mtr ≡ Some m → m.at < limit → StandsAbove e last (entries id.node)
      entry_above e m there made lt = elim (above_or e last (entries id.node) there last_kept.there) [
        | inl same ↦ let not_below = here m (ap (λ (x : Entry). x.trace.mtr) (sym same) ∙ made) in absurd (omega (arith, not_below, lt))
        | inr (inl above) ↦ above
        | inr (inr below) ↦ let not_below = after e m below made in absurd (omega (arith, not_below, lt))
      ]

      by_write : (key : ℕ) (m : TrxMtr) (row : Row) → PutBelow w id key limit m row → (e : Entry) (a : Answer) → Keeps e a → e.trace.mtr ≡ Some m → (verb : WriteVerb) → a.reply ≡ Wrote verb → (line : Line) → line_at work.lines a.session a.index ≡ Some line → IsPutBy work (core_part w id.node) e.trace line m → IsMadeBy key m row
      by_write key m row p e a kept made verb wrote line found q =
          let above = entry_above e m kept.there made p.below in
          let is_id : q.id ≡ id = some_is q.id id (sym q.over.of ∙ p.of) in
          let at = line_is work.lines a.session a.index line found in
          let its_name : name ≡ trx_in_lines work.lines a.session a.index =
          some_is name (trx_in_lines work.lines a.session a.index)
          (sym named ∙ ap (name_of work) (sym is_id) ∙ q.trx.named ∙ ap (λ (s : ℕ). Some (trx_in_lines work.lines s line.index)) at.1 ∙ ap (λ (k : ℕ). Some (trx_in_lines work.lines a.session k)) at.2) in
          let session : a.session ≡ last_answer.session = ap (λ (x : TrxName). x.session) (sym its_name) in
          let first : name.first ≡ begin_in work.lines a.session a.index = ap (λ (x : TrxName). x.first) its_name in
          let n = last_kept.node in
          let below = index_up work o w f.facts id.node (down id.node) (entries id.node) (f.kept id.node n) (f.all id.node n) (next_in_order script spelled work opening o w down entries downs f id.node n) e last a last_answer above kept.is last_kept.is session in
          let from = begin_upto work.lines a.session a.index in
          let no_begin : a.index ≢ name.first = λ same.
          let here_begins : begins (stmt_in work.lines a.session (begin_in work.lines a.session a.index)) ≡ true = subst HaveTheirBegin (sym f.work_of.lines) (have_begins script spelled) a.session a.index line found in
          let stmt_begins : begins (stmt_in work.lines a.session a.index) ≡ true = ap (λ (k : ℕ). begins (stmt_in work.lines a.session k)) (same ∙ first) ∙ here_begins in
          no_begin_writes line.stmt q.verb q.key q.writes (ap (λ (x : Option Line). begins (option_map (λ (l : Line). l.stmt) x)) (sym found) ∙ stmt_begins) in
          let past : name.first < a.index = elim (cases_lt name.first a.index) [
            | inl lt ↦ lt
            | inr ge ↦ absurd (no_begin (omega (arith, ge, from, first)))
          ] in
          let i : ℕ = a.index - name.first - 1 in
          let index : a.index ≡ name.first + suc i = omega (arith, past) in
          let mtr_is : mtrs i ≡ m = mtrs_are i e a m kept session index made in
          let row_is : q.over.row ≡ row = some_is q.over.row row (sym q.over.put ∙ p.put) in
          let key_is : q.key ≡ key = sym q.over.its_key ∙ ap (λ (r : Row). r.key) row_is ∙ p.its_key in
          let wrote_here = wrote_there script spelled work opening o w down entries downs f run told a line verb q.verb q.key (in_run script spelled work opening o w down entries downs f run told id.node e a kept) wrote found q.writes in (
            i,
            omega (arith, below, index, past),
            subst (λ (k : ℕ). WroteKey run name i k) key_is (subst (λ (s : ℕ). wrote_at run s (name.first + suc i) ≡ Some q.key) session (subst (λ (k : ℕ). wrote_at run a.session k ≡ Some q.key) index wrote_here)),
            ap (λ (x : TrxMtr). x.at) mtr_is,
            ap (λ (x : TrxMtr). put_or (row_put_by x.mtr)) mtr_is ∙ ap put_or p.put,
          )

      pub all_is : (key : ℕ) (m : TrxMtr) (row : Row) → PutBelow w id key limit m row → IsMadeBy key m row
      all_is key m row p =
          let n = last_kept.node in
          let only_put = put_of o w f.facts id.node m row p.was_made p.put in
          let x = entry_of_mtr work o w f.facts id.node (down id.node) (entries id.node) (f.kept id.node n) (f.all id.node n) (next_in_order script spelled work opening o w down entries downs f id.node n) m p.was_made only_put.restored in
          let a = answer_of work o w f.facts id.node (down id.node) (entries id.node) (f.kept id.node n) (f.all id.node n) (next_in_order script spelled work opening o w down entries downs f id.node n) x.0 x.1 in
          let kept : Keeps x.0 a.0 = record { node = n; there = x.1; is = a.1 } in
          let s = supported script spelled work opening o w down entries downs f run told id.node x.0 a.0 kept in
          let no_commit : (d : Draw) → commit_by_mtr m.mtr ≡ Some d → ⊥ = λ d is. not_some d (sym only_put.commit ∙ is) in
          elim (which_mtr work (core_part w id.node) (x.0).trace s.line (down id.node) (a.0).reply m s.reply x.2) [
            | inl q ↦ by_write key m row p x.0 a.0 kept x.2 q.0 q.1 s.line s.found q.2
            | inr (inl q) ↦
                let above = entry_above x.0 m x.1 x.2 p.below in
                let stopped = stopped_below work o w f.facts id.node (down id.node) (entries id.node) (f.kept id.node n) (f.all id.node n) (next_in_order script spelled work opening o w down entries downs f id.node n) x.0 last a.0 last_answer above a.1 last_kept.is (ap (λ (r : Reply). shows_down r) q.1) in
                absurd (false≢true (sym up ∙ stopped))
            | inr (inr (inl q)) ↦ absurd (no_commit (draw_of q.2.id q.0) q.2.records.commit)
            | inr (inr (inr q)) ↦ absurd (no_commit (draw_of q.2.id q.0) q.2.records.commit)
          ]

      abbrev pub writer_is : IsWriter o w run name id count limit
      writer_is = record {
        mtrs = mtrs;
        rows = rows;
        put = put_is;
        rising = rising_is;
        all = all_is;
        value = value_is;
      }

    -- a height above the mtrs of the entries before lies between the writes before and none
    pub all_under : LiesBetween run name mtrs count count limit
    all_under = λ i key lt wrote.
        let x = written i key lt wrote in
        let at : (mtrs i).at ≡ x.mtr.at = ap (λ (m : TrxMtr). m.at) (mtr_here i key x) in
        let below = before x.entry x.mtr x.above x.made in
        (λ under. omega (arith, at, below), λ past. absurd (omega (arith, lt, past)))
