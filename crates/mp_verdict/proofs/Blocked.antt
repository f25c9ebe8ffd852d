-- A write that was held, that waited, or that met a commit: the other transaction has written the key.
use Rattle.std.proofs.Common.{◌≡◌, ◌≢◌, ℕ, ◌<◌, ◌≤◌, ◌==◌, Bool, true, false, cond, List, [], ◌∷◌, slice_get, Option, Some, None, refl, sym, ap, subst, ◌∙◌, inl, inr, arith, eq-eqb}
use mathlib.Core.Bool.{false≢true}
use Rattle.std.specs.Prelude.{MatchOption}
use Rattle.std.specs.Option.{option_map}
use Rattle.std.specs.List.{AllByRecursion}
use Rattle.std.proofs.lemmas.Bool.{eqb-true, cases_lt}
use Rattle.mp_machine.specs.Lists.{IsIn}
use Rattle.mp_model.specs.declared.histories.Opening.{Opening}
use Rattle.mp_model.specs.declared.ids.TrxId.{TrxId}
use Rattle.mp_model.specs.declared.ids.TrxName.{TrxName}
use Rattle.mp_model.specs.declared.replies.Answer.{Answer}
use Rattle.mp_model.specs.declared.replies.Reply.{Reply}
use Rattle.mp_model.specs.declared.replies.Reply.TheVariants.{Wrote, Held}
use Rattle.mp_model.specs.declared.replies.WriteVerb.{WriteVerb}
use Rattle.mp_model.specs.declared.transcripts.Down.{Down}
use Rattle.mp_script.specs.declared.statements.Line.{Line}
use Rattle.mp_script.specs.declared.statements.Script.{Script}
use Rattle.mp_script.specs.Execution.{Execution, line_at, stmt_in, stmt_at, answer_at, reply_at, is_session_on}
use Rattle.mp_script.specs.Right.{WritesKey, BeginsBefore, HasWritten, WaitedFor, AreRightWaits, IsWithoutRepeat, IsRightReply}
use Rattle.mp_script.specs.Spelling.{IsSpelled}
use Rattle.mp_script.specs.Transactions.{Target, target_of, target_key, begins, line_place, trx_in_lines, trx_at, trx_of, is_wrote, wrote_at}
use Rattle.mp_script.specs.WentDown.{shows_down}
use Rattle.mp_script.specs.Answers.{names_of_reply, names_of}
use Rattle.mp_script.proofs.Options.{some_is, not_some}
use Rattle.mp_script.proofs.Ordered.{all_in, in_left, in_right}
use Rattle.mp_script.proofs.Looking.{line_is, answer_is}
use Rattle.mp_script.proofs.ReplyForms.{target_same}
use Rattle.mp_cells.specs.declared.rows.Row.{Row}
use Rattle.mp_cells.specs.PageView.{PageView}
use Rattle.mp_core_trx.specs.declared.slot.Shown.{Shown}
use Rattle.mp_core_trx.specs.declared.part.Draw.{Draw}
use Rattle.mp_core_trx.specs.Parts.{begun_of, draw_of}
use Rattle.mp_core_trx.specs.Events.{IsNode}
use Rattle.mp_core_trx.specs.World.{begun_in}
use Rattle.mp_core_pages.specs.declared.part.GivenPage.{GivenPage}
use Rattle.mp_histories.specs.Histories.{older, Version, rows_of_versions, entry_at}
use Rattle.mp_histories.specs.Chains.{row_over, row_of_key, IsPutAt}
use Rattle.mp_histories.proofs.Writers.{decided}
use Rattle.mp_histories.proofs.CleanRows.{clean_plain}
use Rattle.mp_histories.proofs.LiveRows.{live_put_at}
use Rattle.mp_histories.proofs.Noting.{older_first}
use Rattle.mp_core.specs.declared.opening.CoreOpening.{CoreOpening}
use Rattle.mp_core.specs.CoreExtends.{durable_of}
use Rattle.mp_core.specs.World.{CoreWorld, core_part}
use Rattle.mp_core.specs.OwnMtrs.{row_put_by, commit_by_mtr, TrxMtr}
use Rattle.mp_facts.specs.Facts.{opening_pages, live_at_height}
use Rattle.mp_supports.specs.Work.{Work, name_of}
use Rattle.mp_supports.specs.Seeing.{ShowsNewest}
use Rattle.mp_supports.specs.Supports.{IsTrxOf, IsBlocked, IsHeldBy, IsNameOf, IsWaitFor, SupportsWaits, SupportsTrxReply, SupportsReply}
use Rattle.mp_supports.specs.Kept.{Entry}
use Rattle.mp_supports.proofs.ShownRows.{runs_at, newest_row}
use Rattle.mp_verdict.specs.Finished.{Finished}
use Rattle.mp_verdict.specs.Told.{IsToldBy}
use Rattle.mp_verdict.specs.Reads.{PutOf}
use Rattle.mp_verdict.proofs.PlacesOf.{put_of, in_its_node}
use Rattle.mp_verdict.proofs.Covering.{entry_stays}
use Rattle.mp_verdict.proofs.ShownChains.{chain_at}
use Rattle.mp_verdict.proofs.WhichTraces.{which_mtr, which_begin, IsPutBy}
use Rattle.mp_verdict.proofs.KeptOrder.{answer_of, doubt_of, entry_of_mtr, entry_of_begin}
use Rattle.mp_verdict.proofs.ToldAnswers.{rise, IsKeptBy, on_node, one_node, supported, kept_answer, in_run, answer_here, wrote_there}
use Rattle.mp_verdict.proofs.Telling.{durable_is, node_of_mtr}
use Rattle.mp_verdict.proofs.CommitEntries.{name_by}
use Rattle.mp_verdict.proofs.SoFar.{place_of, over_in}
use Rattle.mp_verdict.proofs.NamesOfIds.{older_above, named_begins}
use Rattle.mp_verdict.proofs.NextInOrder.{next_in_order, answered_so_far}

module _ (script : Script) (spelled : IsSpelled script) (work : Work) (opening : Opening) (o : CoreOpening) (w : CoreWorld) (down : ℕ → ℕ) (entries : ℕ → List Entry) (downs : List Down)
    (f : Finished work script opening o w down entries downs) (run : Execution) (told : IsToldBy work opening o entries downs run) where
  -- the newest version that a leaf shows was put by its writer, and is durable where that is of another node
  pub record IsShownPut (n key : ℕ) (holder : TrxId) (newest : Row) : Type 0 where
    pub mtr : TrxMtr
    pub put : PutOf w holder key mtr newest
    pub durable : holder.node ≢ n → mtr.mtr.llsn ≤ durable_of (core_part w holder.node)

  pub shown_put : (n : ℕ) (leaf : GivenPage PageView) (key : ℕ) (newest : Row) (holder : TrxId) → ShowsNewest (core_part w n) leaf key newest → newest.writer ≡ Some holder → IsShownPut n key holder newest
  shown_put n leaf key newest holder shows writer = by_live (live_at_height w leaf.height key) refl
    where
      first : newest ≡ row_over (rows_of_versions (live_at_height w leaf.height key)) (row_of_key (opening_pages o) key)
      first = newest_row o w f.fit f.facts n leaf key newest shows ∙ (chain_at o w f.fit f.facts leaf.height key).head

      puts : AllByRecursion (IsPutAt (older leaf.height w.pages.history) key) (live_at_height w leaf.height key)
      puts = live_put_at o.trx.base.llsn (opening_pages o) f.fit.clean (older leaf.height w.pages.history) (runs_at o w f.fit f.facts leaf.height) key

      by_live : (vs : List Version) → live_at_height w leaf.height key ≡ vs → IsShownPut n key holder newest
      by_live [] is =
          let last : newest ≡ row_of_key (opening_pages o) key = first ∙ ap (λ (vs : List Version). row_over (rows_of_versions vs) (row_of_key (opening_pages o) key)) is in
          absurd (not_some holder (sym (clean_plain o.trx.base.llsn (opening_pages o) f.fit.clean key).0 ∙ ap (λ (r : Row). r.writer) (sym last) ∙ writer))
      by_live (v ∷ rest) is =
          let row : newest ≡ v.row = first ∙ ap (λ (vs : List Version). row_over (rows_of_versions vs) (row_of_key (opening_pages o) key)) is in
          let p = (subst (AllByRecursion (IsPutAt (older leaf.height w.pages.history) key)) is puts).0 in
          let split = older_first leaf.height w.pages.history in
          let entry : entry_at v.at w.pages.history ≡ Some p.mtr = ap (entry_at v.at) split.split_is ∙ entry_stays split.newer (older leaf.height w.pages.history) v.at p.before ∙ p.entry in
          let made = f.facts.of_history.all_made v.at p.mtr entry in
          let put : row_put_by (made.0).mtr ≡ Some newest = ap row_put_by made.3 ∙ ap (λ (rows : List Row). slice_get rows 0) p.puts ∙ ap (λ (r : Row). Some r) (sym row) in
          let of : (made.0).of ≡ Some holder = sym (put_of o w f.facts p.mtr.node made.0 newest made.1 put).writer ∙ writer in
          let there = in_its_node o w f.facts p.mtr.node made.0 holder made.1 of in
          record {
            mtr = made.0;
            put = record { was_made = there; of = of; put = put; its_key = ap (λ (r : Row). r.key) row ∙ p.key_is; below = (f.facts.of_history.placed holder.node made.0 there).0 };
            durable = λ other.
                subst (λ (l : ℕ). (made.0).mtr.llsn ≤ l) (sym (durable_is script spelled work opening o w down entries downs f run told holder.node))
                (f.facts.of_notes.shown_forced n leaf shows.given key shows.its_leaf v rest is holder.node made.0 other there made.2);
          }

  -- a transaction that put a row was begun
  begun_of_put : (id : TrxId) (key : ℕ) (m : TrxMtr) (row : Row) → PutOf w id key m row → (view : ℕ) × IsIn (begun_of id view) (begun_in w.trx id.node)
  begun_of_put id key m row p =
      let placed = f.facts.of_history.placed id.node m p.was_made in
      let same : placed.3.0 ≡ id = some_is placed.3.0 id (sym placed.3.1 ∙ p.of) in
      (placed.3.3.0, subst (λ (i : TrxId). IsIn (begun_of i placed.3.3.0) (begun_in w.trx id.node)) same placed.3.3.1)

  -- its name's session is on its node
  name_on : (id : TrxId) (view : ℕ) (name : TrxName) → IsNode o.trx id.node → IsIn (begun_of id view) (begun_in w.trx id.node) → name_of work id ≡ Some name → is_session_on work.sessions name.session id.node ≡ true
  name_on id view name node begun named =
      let x = entry_of_begin work o w f.facts id.node (down id.node) (entries id.node) (f.kept id.node node) (f.all id.node node) (next_in_order script spelled work opening o w down entries downs f id.node node) (begun_of id view) begun in
      let a = answer_of work o w f.facts id.node (down id.node) (entries id.node) (f.kept id.node node) (f.all id.node node) (next_in_order script spelled work opening o w down entries downs f id.node node) x.0 x.1 in
      let kept : IsKeptBy script spelled work opening o w down entries downs f run told id.node x.0 a.0 = record { node = node; there = x.1; is = a.1 } in
      let s = supported script spelled work opening o w down entries downs f run told id.node x.0 a.0 kept in
      let b = which_begin work (core_part w id.node) (x.0).trace s.line (down id.node) (a.0).reply (begun_of id view) s.reply x.2 in
      let at = line_is work.lines (a.0).session (a.0).index s.line s.found in
      let is : trx_in_lines work.lines s.line.session s.line.index ≡ name = some_is (trx_in_lines work.lines s.line.session s.line.index) name (sym b.named ∙ named) in
      let session : (a.0).session ≡ name.session = sym at.1 ∙ ap (λ (y : TrxName). y.session) is in
      subst (λ (i : ℕ). is_session_on work.sessions i id.node ≡ true) session (on_node script spelled work opening o w down entries downs f run told id.node x.0 a.0 kept)

  -- a write that was answered ok is its transaction's
  written_by_ok : (id : TrxId) (name : TrxName) (key : ℕ) (e : Entry) (a : Answer) (verb : WriteVerb) (line : Line) (m : TrxMtr) → IsKeptBy script spelled work opening o w down entries downs f run told id.node e a → a.reply ≡ Wrote verb → line_at work.lines a.session a.index ≡ Some line → (q : IsPutBy work (core_part w id.node) e.trace line m) → q.id ≡ id → q.key ≡ key → name_of work id ≡ Some name → HasWritten run name key
  written_by_ok id name key e a verb line m kept reply found q is_id is_key named =
      let its : name ≡ trx_of run a = some_is name (trx_of run a) (sym named ∙ ap (name_of work) (sym is_id) ∙ name_by script spelled work opening o w down entries downs f run told id.node q.id q.view a line found q.trx) in
      let session : a.session ≡ name.session = ap (λ (y : TrxName). y.session) (sym its) in
      let wrote = wrote_there script spelled work opening o w down entries downs f run told a line verb q.verb q.key (in_run script spelled work opening o w down entries downs f run told id.node e a kept) reply found q.writes in
      record {
        index = a.index;
        its = ap (λ (s : ℕ). trx_at run s a.index) (sym session) ∙ sym its;
        written = ap (λ (s : ℕ). wrote_at run s a.index) (sym session) ∙ wrote ∙ ap (λ (k : ℕ). Some k) is_key;
      }

  -- a transaction of another node whose row is shown has written the key
  foreign_written : (n key : ℕ) (holder : TrxId) (newest : Row) (name : TrxName) → IsShownPut n key holder newest → holder.node ≢ n → name_of work holder ≡ Some name → HasWritten run name key
  foreign_written n key holder newest name shown other named =
      let m = shown.mtr in
      let p = shown.put in
      let node = node_of_mtr script spelled work opening o w down entries downs f run told holder.node m p.was_made in
      let only = put_of o w f.facts holder.node m newest p.was_made p.put in
      let x = entry_of_mtr work o w f.facts holder.node (down holder.node) (entries holder.node) (f.kept holder.node node) (f.all holder.node node) (next_in_order script spelled work opening o w down entries downs f holder.node node) m p.was_made only.restored in
      let a = answer_of work o w f.facts holder.node (down holder.node) (entries holder.node) (f.kept holder.node node) (f.all holder.node node) (next_in_order script spelled work opening o w down entries downs f holder.node node) x.0 x.1 in
      let kept : IsKeptBy script spelled work opening o w down entries downs f run told holder.node x.0 a.0 = record { node = node; there = x.1; is = a.1 } in
      let s = supported script spelled work opening o w down entries downs f run told holder.node x.0 a.0 kept in
      let no_commit : (d : Draw) → commit_by_mtr m.mtr ≡ Some d → ⊥ = λ d is. not_some d (sym only.commit ∙ is) in
      elim (which_mtr work (core_part w holder.node) (x.0).trace s.line (down holder.node) (a.0).reply m s.reply x.2) [
        | inl q ↦
            let is_id : q.2.id ≡ holder = some_is q.2.id holder (sym q.2.over.of ∙ p.of) in
            let row : q.2.over.row ≡ newest = some_is q.2.over.row newest (sym q.2.over.put ∙ p.put) in
            written_by_ok holder name key x.0 a.0 q.0 s.line m kept q.1 s.found q.2 is_id (sym q.2.over.its_key ∙ ap (λ (r : Row). r.key) row ∙ p.its_key) named
        | inr (inl q) ↦
            let doubt = doubt_of work o w f.facts holder.node (down holder.node) (entries holder.node) (f.kept holder.node node) (f.all holder.node node) (next_in_order script spelled work opening o w down entries downs f holder.node node) x.0 a.0 x.1 a.1 (ap (λ (r : Reply). shows_down r) q.1) m x.2 in
            let durable = shown.durable other in
            absurd (omega (arith, doubt, durable))
        | inr (inr (inl q)) ↦ absurd (no_commit (draw_of q.2.id q.0) q.2.records.commit)
        | inr (inr (inr q)) ↦ absurd (no_commit (draw_of q.2.id q.0) q.2.records.commit)
      ]

  -- what was written by the answers above was written
  lifted : (over : List Answer) → ((b : Answer) → IsIn b over → IsIn b run.answers) → (name : TrxName) (key : ℕ) → HasWritten (answered_so_far work over) name key → HasWritten run name key
  lifted over within name key x = record {
    index = x.index;
    its = ap (λ (lines : List Line). trx_in_lines lines name.session x.index) told.lines ∙ x.its;
    written = by_answer (answer_at over name.session x.index) refl;
  }
    where
      by_answer : (y : Option Answer) → answer_at over name.session x.index ≡ y → wrote_at run name.session x.index ≡ Some key
      by_answer None is =
          let not_ok : is_wrote (reply_at (answered_so_far work over) name.session x.index) ≡ false = ap (λ (y : Option Answer). is_wrote (option_map (λ (a : Answer). a.reply) y)) is in
          absurd (not_some key (sym (ap (λ (b : Bool). cond b (target_key (stmt_in work.lines name.session x.index)) None) not_ok) ∙ x.written))
      by_answer (Some b) is =
          let at = answer_is over name.session x.index b is in
          let found = answer_here script spelled work opening o w down entries downs f run told b (within b at.0) in
          let same : reply_at run name.session x.index ≡ reply_at (answered_so_far work over) name.session x.index =
          ap (option_map (λ (a : Answer). a.reply)) (ap (λ (s : ℕ). answer_at run.answers s x.index) (sym at.1) ∙ ap (answer_at run.answers b.session) (sym at.2) ∙ found ∙ sym is) in
          ap (λ (r : Option Reply). cond (is_wrote r) (target_key (stmt_at run name.session x.index)) None) same
          ∙ ap (λ (lines : List Line). cond (is_wrote (reply_at (answered_so_far work over) name.session x.index)) (target_key (stmt_in lines name.session x.index)) None) told.lines
          ∙ x.written

  module _ (n : ℕ) (e : Entry) (a : Answer) (k : IsKeptBy script spelled work opening o w down entries downs f run told n e a) (line : Line) (found : line_at work.lines a.session a.index ≡ Some line) (id : TrxId) (view : ℕ) (trx : IsTrxOf work (core_part w n) line id view) where
    its_node : id.node ≡ n
    its_node = f.facts.inv.trx.ids.own n (begun_of id view) trx.begun

    -- another transaction whose row blocked the write: it is of another session, and has written the key
    blocked_by : (key : ℕ) (holder : TrxId) (name : TrxName) (x : Shown) → IsBlocked (core_part w n) id key holder x → IsNameOf work line id holder name → target_key (stmt_in work.lines a.session a.index) ≡ Some key → IsIn name (names_of a) → (name.session ≢ line.session) × HasWritten run name key
    blocked_by key holder name x blocked of_name target listed =
        let shown = shown_put n blocked.leaf key blocked.newest holder blocked.its_newest blocked.writer in
        let node = node_of_mtr script spelled work opening o w down entries downs f run told holder.node shown.mtr shown.put.was_made in
        let begun = begun_of_put holder key shown.mtr blocked.newest shown.put in
        let on = name_on holder begun.0 name node begun.1 of_name.named in
        let at = line_is work.lines a.session a.index line found in
        elim (decided (holder.node == n)) [
          | inl same ↦
              let is : holder.node ≡ n = eqb-true holder.node n same in
              let place = place_of script spelled work opening o w down entries downs f run told n e a k in
              let here = all_in (λ (y : TrxName). (i : ℕ) → is_session_on work.sessions y.session n ≡ true → target_key (stmt_in work.lines a.session a.index) ≡ Some i → HasWritten (answered_so_far work place.over) y i) name (names_of a) place.holds.names listed key (subst (λ (i : ℕ). is_session_on work.sessions name.session i ≡ true) is on) target in
              (of_name.apart (is ∙ sym its_node), lifted place.over (over_in script spelled work opening o w down entries downs f run told n e a k place.over place.rest place.split_is) name key here)
          | inr apart ↦
              let other : holder.node ≢ n = λ (same : holder.node ≡ n). false≢true (sym apart ∙ eq-eqb holder.node n same) in (
                λ same. other (one_node script spelled work opening o w down entries downs f run told name.session holder.node n on (subst (λ (s : ℕ). is_session_on work.sessions s n ≡ true) (sym at.1 ∙ sym same) (on_node script spelled work opening o w down entries downs f run told n e a k))),
                foreign_written n key holder blocked.newest name shown other of_name.named,
              )
        ]

    held_by : (key : ℕ) (holder : TrxId) (name : TrxName) → IsHeldBy (core_part w n) id key holder → IsNameOf work line id holder name → target_key (stmt_in work.lines a.session a.index) ≡ Some key → IsIn name (names_of a) → (name.session ≢ line.session) × HasWritten run name key
    held_by key holder name held of_name target listed = elim held [
      | inl active ↦ blocked_by key holder name _ active of_name target listed
      | inr prep ↦ blocked_by key holder name _ prep of_name target listed
    ]

    before : (first second : TrxId) (name other : TrxName) → name_of work first ≡ Some name → name_of work second ≡ Some other → first.version < second.version → BeginsBefore run name other
    before first second name other e' g lt = record {
      begun = ap (λ (lines : List Line). begins (stmt_in lines name.session name.first)) told.lines ∙ named_begins work (rise script spelled work opening o w down entries downs f run told) first name e';
      above =
          subst (λ (lines : List Line). line_place lines name.session name.first < line_place lines other.session other.first) (sym told.lines)
          (older_above work (rise script spelled work opening o w down entries downs f run told) first second name other e' g lt);
    }

    own_named : name_of work id ≡ Some (trx_at run line.session line.index)
    own_named = trx.named ∙ ap (λ (lines : List Line). Some (trx_in_lines lines line.session line.index)) (sym told.lines)

    stmt_target : (verb : WriteVerb) (key : ℕ) → WritesKey line verb key → target_key (stmt_in work.lines a.session a.index) ≡ Some key
    stmt_target verb key writes = ap (λ (x : Option Line). target_key (option_map (λ (l : Line). l.stmt) x)) found ∙ target_same line.stmt verb key writes

    pub held_right : (verb : WriteVerb) (name : TrxName) → a.reply ≡ Held verb name → SupportsTrxReply work (core_part w n) e.trace line id view (Held verb name) → IsRightReply run line (Held verb name)
    held_right verb name reply s =
        let listed : IsIn name (names_of a) = in_left name (names_of_reply a.reply) a.waits.items (subst (λ (r : Reply). IsIn name (names_of_reply r)) (sym reply) (inl refl)) in
        let both = held_by s.0 s.1 name s.3 s.5 (stmt_target verb s.0 s.2) listed in
        (s.0, s.2, record { other = both.0; older = before s.1 id name (trx_at run line.session line.index) s.5.named own_named s.4; written = both.1 })

    -- a transaction of another session has another name, so another version
    younger : (holder : TrxId) (name : TrxName) → name_of work holder ≡ Some name → name.session ≢ line.session → id.version ≤ holder.version → id.version < holder.version
    younger holder name named other no_older = elim (cases_lt id.version holder.version) [
      | inl lt ↦ lt
      | inr no_younger ↦
          let one : id.version ≡ holder.version = omega (arith, no_older, no_younger) in
          let one_name : name_of work id ≡ name_of work holder = ap (λ (v : ℕ). name_of work record { node = 0; slot = 0; version = v }) one in
          let same : trx_in_lines work.lines line.session line.index ≡ name = some_is (trx_in_lines work.lines line.session line.index) name (sym trx.named ∙ one_name ∙ named) in
          absurd (other (ap (λ (y : TrxName). y.session) (sym same)))
    ]

    pub wait_right : (verb : WriteVerb) (key : ℕ) (name : TrxName) → WritesKey line verb key → IsIn name a.waits.items → IsWaitFor work (core_part w n) line id key name → WaitedFor run line key name
    wait_right verb key name writes there x =
        let both = held_by key x.0 name x.1 x.3 (stmt_target verb key writes) (in_right name (names_of_reply a.reply) a.waits.items there) in
        record { other = both.0; younger = before id x.0 (trx_at run line.session line.index) name own_named x.3.named (younger x.0 name x.3.named both.0 x.2); written = both.1 }

  -- the waits of an answer are right
  all_right : (P Q : TrxName → Type 0) (names : List TrxName) → ((y : TrxName) → IsIn y names → P y → Q y) → AllByRecursion P names → AllByRecursion Q names
  all_right P Q [] h all = tt
  all_right P Q (y ∷ names) h all = (h y (inl refl) all.0, all_right P Q names (λ z there. h z (inr there)) all.1)

  pub waits_right : (n : ℕ) (e : Entry) (a : Answer) → IsKeptBy script spelled work opening o w down entries downs f run told n e a → (line : Line) → line_at work.lines a.session a.index ≡ Some line → SupportsWaits work (core_part w n) line a.waits.items → AreRightWaits run line a.waits.items
  waits_right n e a k line found waits = by_target (target_of line.stmt) refl waits
    where
      by_target : (target : Option Target) → target_of line.stmt ≡ target
          → MatchOption target (a.waits.items ≡ []) (λ t. IsWithoutRepeat a.waits.items × AllByRecursion (λ name. (id : TrxId) × (view : ℕ) × IsTrxOf work (core_part w n) line id view × IsWaitFor work (core_part w n) line id t.key name) a.waits.items)
          → MatchOption (target_of line.stmt) (a.waits.items ≡ []) (λ t. IsWithoutRepeat a.waits.items × AllByRecursion (WaitedFor run line t.key) a.waits.items)
      by_target None is h = subst (λ (t : Option Target). MatchOption t (a.waits.items ≡ []) (λ t. IsWithoutRepeat a.waits.items × AllByRecursion (WaitedFor run line t.key) a.waits.items)) (sym is) h
      by_target (Some target) is h =
          subst (λ (t : Option Target). MatchOption t (a.waits.items ≡ []) (λ t. IsWithoutRepeat a.waits.items × AllByRecursion (WaitedFor run line t.key) a.waits.items)) (sym is) (
            h.0,
            all_right (λ name. (id : TrxId) × (view : ℕ) × IsTrxOf work (core_part w n) line id view × IsWaitFor work (core_part w n) line id target.key name) (WaitedFor run line target.key) a.waits.items
                (λ name there x. wait_right n e a k line found x.0 x.1 x.2 target.verb target.key name is there x.3) h.1,
          )

  -- the same in the execution
  pub held_in_run : (a : Answer) (line : Line) (verb : WriteVerb) (name : TrxName) → IsIn a run.answers → line_at run.lines a.session a.index ≡ Some line → a.reply ≡ Held verb name → IsRightReply run line (Held verb name)
  held_in_run a line verb name there found reply =
      let k = kept_answer script spelled work opening o w down entries downs f run told a there in
      let s = supported script spelled work opening o w down entries downs f run told k.0 k.1 a k.2 in
      let here : line_at work.lines a.session a.index ≡ Some line = ap (λ (lines : List Line). line_at lines a.session a.index) (sym told.lines) ∙ found in
      let same : s.line ≡ line = some_is s.line line (sym s.found ∙ here) in
      let h = subst (SupportsReply work (core_part w k.0) (down k.0) (k.1).trace line) reply (subst (λ (l : Line). SupportsReply work (core_part w k.0) (down k.0) (k.1).trace l a.reply) same s.reply) in
      held_right k.0 k.1 a k.2 line here h.0 h.1 h.2 verb name reply h.3

  pub waits_in_run : (a : Answer) (line : Line) → IsIn a run.answers → line_at run.lines a.session a.index ≡ Some line → AreRightWaits run line a.waits.items
  waits_in_run a line there found =
      let k = kept_answer script spelled work opening o w down entries downs f run told a there in
      let s = supported script spelled work opening o w down entries downs f run told k.0 k.1 a k.2 in
      let here : line_at work.lines a.session a.index ≡ Some line = ap (λ (lines : List Line). line_at lines a.session a.index) (sym told.lines) ∙ found in
      let same : s.line ≡ line = some_is s.line line (sym s.found ∙ here) in
      waits_right k.0 k.1 a k.2 line here (subst (λ (l : Line). SupportsWaits work (core_part w k.0) l a.waits.items) same s.waits)
