-- Of two commits of a key the first wins; a write sees the commits of its key that were recorded before; and no write of
-- another transaction comes between a write and its commit.
use Rattle.std.proofs.Common.{◌≡◌, ◌≢◌, ℕ, ◌<◌, ◌≤◌, ◌&&◌, true, List, [], Option, Some, is_some, refl, sym, ap, subst, ◌∙◌, inl, inr, arith}
use Rattle.std.specs.List.{AllByRecursion}
use Rattle.std.proofs.lemmas.Bool.{cases_lt, and_parts}
use Rattle.mp_machine.specs.Lists.{IsIn}
use Rattle.mp_model.specs.declared.histories.Opening.{Opening}
use Rattle.mp_model.specs.declared.ids.TrxId.{TrxId}
use Rattle.mp_model.specs.declared.ids.TrxName.{TrxName}
use Rattle.mp_model.specs.declared.replies.Answer.{Answer}
use Rattle.mp_model.specs.declared.transcripts.Down.{Down}
use Rattle.mp_script.specs.declared.statements.Line.{Line}
use Rattle.mp_script.specs.declared.statements.Script.{Script}
use Rattle.mp_script.specs.Below.{EachBelow}
use Rattle.mp_script.specs.Conflicts.{AcknowledgesKey, FirstCommitterWins, SeesEarlierCommits, since_first_write, HoldsItsKeys}
use Rattle.mp_script.specs.Execution.{Execution, line_at, is_session_on}
use Rattle.mp_script.specs.Spelling.{IsSpelled}
use Rattle.mp_script.specs.Transactions.{trx_of, view_at, same_trx, acknowledged_cts, is_number, wrote_at}
use Rattle.mp_script.specs.Standing.{StandsAbove}
use Rattle.mp_script.proofs.Options.{some_is}
use Rattle.mp_script.proofs.Ordered.{above_in}
use Rattle.mp_script.proofs.ReplyForms.{numbered_so, same_trx_is, acknowledged_shows}
use Rattle.mp_script.proofs.ItemsAbove.{all_of, each_split, last_in, over_above, in_over, still_above}
use Rattle.mp_script.proofs.CountedAnswers.{from_first_is}
use Rattle.mp_cells.specs.declared.rows.Row.{Row}
use Rattle.mp_core_trx.specs.declared.part.Draw.{Draw}
use Rattle.mp_core_trx.specs.Parts.{begun_of, draw_of}
use Rattle.mp_core_trx.specs.World.{begun_in, drawn_in}
use Rattle.mp_histories.specs.KeyOps.{same_writer}
use Rattle.mp_histories.specs.Histories.{entry_at}
use Rattle.mp_histories.proofs.Writers.{decided, same_is, other_is}
use Rattle.mp_core.specs.declared.opening.CoreOpening.{CoreOpening}
use Rattle.mp_core.specs.World.{CoreWorld, core_part}
use Rattle.mp_core.specs.OwnMtrs.{row_put_by, TrxMtr}
use Rattle.mp_supports.specs.Work.{Work, name_of}
use Rattle.mp_supports.specs.Supports.{IsTrxOf}
use Rattle.mp_supports.specs.Kept.{Entry}
use Rattle.mp_verdict.specs.Finished.{Finished}
use Rattle.mp_verdict.specs.Told.{IsToldBy}
use Rattle.mp_verdict.specs.Reads.{PutOf}
use Rattle.mp_verdict.specs.WriteOrder.{CommittedBefore}
use Rattle.mp_verdict.proofs.PlacesOf.{put_of}
use Rattle.mp_verdict.proofs.OthersFit.{forced_drew, drew_once}
use Rattle.mp_verdict.proofs.Covering.{covered}
use Rattle.mp_verdict.proofs.ToldAnswers.{IsKeptBy, one_node, on_node, one_trx}
use Rattle.mp_verdict.proofs.CommitEntries.{IsRecordEntry, record_entry, IsPutEntry, put_entry, put_of_entry, name_by, view_by, puts_over, ends_at, whole_of, wrote_put_of}

module _ (script : Script) (spelled : IsSpelled script) (work : Work) (opening : Opening) (o : CoreOpening) (w : CoreWorld) (down : ℕ → ℕ) (entries : ℕ → List Entry) (downs : List Down)
    (f : Finished work script opening o w down entries downs) (run : Execution) (told : IsToldBy work opening o entries downs run) where
  abbrev Records : TrxId → ℕ → Answer → Type 0
  Records id cts a = IsRecordEntry script spelled work opening o w down entries downs f run told id.node id cts a

  abbrev Puts : TrxId → ℕ → Answer → Type 0
  Puts id key a = IsPutEntry script spelled work opening o w down entries downs f run told id.node id key a

  -- two puts at one place are one transaction's
  one_place : (t u : TrxId) (key : ℕ) (m k : TrxMtr) (row other : Row) → PutOf w t key m row → PutOf w u key k other → m.at ≡ k.at → Some t ≡ Some u
  one_place t u key m k row other p q at =
      let mtr : m.mtr ≡ k.mtr = some_is m.mtr k.mtr (sym (f.facts.of_history.placed t.node m p.was_made).1 ∙ ap (λ (i : ℕ). entry_at i w.pages.history) at ∙ (f.facts.of_history.placed u.node k q.was_made).1) in
      let same : row ≡ other = some_is row other (sym p.put ∙ ap row_put_by mtr ∙ q.put) in
      sym p.of ∙ sym (put_of o w f.facts t.node m row p.was_made p.put).writer ∙ ap (λ (r : Row). r.writer) same ∙ (put_of o w f.facts u.node k other q.was_made q.put).writer ∙ q.of

  -- a transaction's commit in another's view is the one with its number
  in_view : (u : TrxId) (between view height : ℕ) (b : Answer) → Records u between b → CommittedBefore o w u view height → between ≤ view
  in_view u between view height b c before =
      let same = drew_once o w f.facts u between before.cts c.records.drawn (forced_drew o w f.facts u before.cts before.forced) in
      let within = before.in_view in
      omega (arith, same, within)

  pub first_wins : (answer other : Answer) → IsIn answer run.answers → IsIn other run.answers → FirstCommitterWins run answer other
  first_wins answer other there also key number between c d above below =
      let x = record_entry script spelled work opening o w down entries downs f run told answer number there c.shows in
      let y = record_entry script spelled work opening o w down entries downs f run told other between also d.shows in
      let view = view_by script spelled work opening o w down entries downs f run told (x.0).node x.1.entry x.0 x.1.view answer x.1.line x.1.kept x.1.found x.1.trx in
      let p = wrote_put_of script spelled work opening o w down entries downs f run told x.0 number answer x.1 key c.wrote in
      let q = wrote_put_of script spelled work opening o w down entries downs f run told y.0 between other y.1 key d.wrote in
      elim (decided (same_writer (Some x.0) (Some y.0))) [
        | inl same ↦
            let is : x.0 ≡ y.0 = some_is x.0 y.0 (same_is (Some x.0) (Some y.0) same) in
            let once = drew_once o w f.facts y.0 number between (subst (λ (i : TrxId). IsIn (draw_of i number) (drawn_in w.trx i.node)) is x.1.records.drawn) y.1.records.drawn in
            omega (arith, once, below)
        | inr apart ↦
            let ne : Some x.0 ≢ Some y.0 = other_is (Some x.0) (Some y.0) apart in
            elim (cases_lt (q.0).at (p.0).at) [
              | inl lt ↦
                  let before = covered o w f.fit f.facts x.0 y.0 key x.1.view (λ (e : y.0 ≡ x.0). ne (ap (λ (i : TrxId). Some i) (sym e)))
                  (puts_over script spelled work opening o w down entries downs f run told x.0 x.1.view x.1.trx.begun) p.0 p.1 p.2 q.0 q.1 q.2 lt
                  (whole_of script spelled work opening o w down entries downs f run told y.0 between other y.1 (p.0).at) in
                  let within = in_view y.0 between x.1.view (p.0).at other y.1 before in
                  omega (arith, within, view, above)
              | inr ge ↦ elim (cases_lt (p.0).at (q.0).at) [
                | inl lt ↦
                    let before = covered o w f.fit f.facts y.0 x.0 key y.1.view (λ (e : x.0 ≡ y.0). ne (ap (λ (i : TrxId). Some i) e))
                    (puts_over script spelled work opening o w down entries downs f run told y.0 y.1.view y.1.trx.begun) q.0 q.1 q.2 p.0 p.1 p.2 lt
                    (whole_of script spelled work opening o w down entries downs f run told x.0 number answer x.1 (q.0).at) in
                    let within = in_view x.0 number y.1.view (q.0).at answer x.1 before in
                    let higher = y.1.records.above in
                    omega (arith, within, higher, below)
                | inr le ↦ absurd (ne (one_place x.0 y.0 key p.0 q.0 p.1 q.1 p.2 q.2 (omega (arith, ge, le))))
              ]
            ]
      ]

  pub first_committers_win : AllByRecursion (λ answer. AllByRecursion (FirstCommitterWins run answer) run.answers) run.answers
  first_committers_win = all_of (λ answer. AllByRecursion (FirstCommitterWins run answer) run.answers) run.answers (λ answer there. all_of (FirstCommitterWins run answer) run.answers (λ other also. first_wins answer other there also))

  -- ---- in a list of answers whose mtrs rise

  pub record MtrsRise (answers : List Answer) : Type 0 where
    pub within : (a : Answer) → IsIn a answers → IsIn a run.answers
    pub rises : (a b : Answer) (n m : ℕ) (e x : Entry) (j k : TrxMtr) → StandsAbove a b answers → IsKeptBy script spelled work opening o w down entries downs f run told n e a → IsKeptBy script spelled work opening o w down entries downs f run told m x b → e.trace.mtr ≡ Some j → x.trace.mtr ≡ Some k → j.at < k.at

  -- answers of one transaction have one id
  same_trx_id : (n m : ℕ) (e x : Entry) (a b : Answer) (t u : TrxId) (view shown : ℕ) (line other : Line) → IsKeptBy script spelled work opening o w down entries downs f run told n e a → IsKeptBy script spelled work opening o w down entries downs f run told m x b
      → line_at work.lines a.session a.index ≡ Some line → line_at work.lines b.session b.index ≡ Some other → IsTrxOf work (core_part w n) line t view → IsTrxOf work (core_part w m) other u shown → n ≡ t.node → m ≡ u.node → trx_of run a ≡ trx_of run b → t ≡ u
  same_trx_id n m e x a b t u view shown line other k l found also trx its nt mu same =
      let session : a.session ≡ b.session = ap (λ (y : TrxName). y.session) same in
      let is : n ≡ m = one_node script spelled work opening o w down entries downs f run told b.session n m (subst (λ (s : ℕ). is_session_on work.sessions s n ≡ true) session (on_node script spelled work opening o w down entries downs f run told n e a k)) (on_node script spelled work opening o w down entries downs f run told m x b l) in
      (one_trx script spelled work opening o w down entries downs f run told n t u view shown (trx_of run a) trx.begun (subst (λ (i : ℕ). IsIn (begun_of u shown) (begun_in w.trx i)) (sym is) its.begun)
      (name_by script spelled work opening o w down entries downs f run told n t view a line found trx)
      (name_by script spelled work opening o w down entries downs f run told m u shown b other also its ∙ ap (λ (y : TrxName). Some y) (sym same))).0

  same_name : (t u : TrxId) (n m : ℕ) (a b : Answer) (view shown : ℕ) (line other : Line) → line_at work.lines a.session a.index ≡ Some line → line_at work.lines b.session b.index ≡ Some other → IsTrxOf work (core_part w n) line t view → IsTrxOf work (core_part w m) other u shown → t ≡ u → trx_of run a ≡ trx_of run b
  same_name t u n m a b view shown line other found also trx its same =
      some_is (trx_of run a) (trx_of run b)
      (sym (name_by script spelled work opening o w down entries downs f run told n t view a line found trx) ∙ ap (name_of work) same ∙ name_by script spelled work opening o w down entries downs f run told m u shown b other also its)

  module _ (answers : List Answer) (rising : MtrsRise answers) where
    -- a write sees a commit of its key that stands above it
    sees_one : (a b : Answer) (key number : ℕ) → StandsAbove a b answers → IsIn a answers → IsIn b answers → wrote_at run b.session b.index ≡ Some key → AcknowledgesKey run a key number → trx_of run a ≢ trx_of run b → number ≤ view_at run b.session b.index
    sees_one a b key number stands here there wrote ack apart =
        let x = put_entry script spelled work opening o w down entries downs f run told b key (rising.within b there) wrote in
        let y = record_entry script spelled work opening o w down entries downs f run told a number (rising.within a here) (acknowledged_shows a.reply number ack.shows) in
        let q = wrote_put_of script spelled work opening o w down entries downs f run told y.0 number a y.1 key ack.wrote in
        let lt = rising.rises a b (y.0).node (x.0).node y.1.entry x.1.entry y.1.mtr x.1.mtr stands y.1.kept x.1.kept y.1.made x.1.made in
        let upto = (ends_at script spelled work opening o w down entries downs f run told y.0 number a y.1 q.0 q.2.was_made q.2.of).0 in
        let other : y.0 ≢ x.0 = λ e. apart (same_name y.0 x.0 (y.0).node (x.0).node a b y.1.view x.1.view y.1.line x.1.line y.1.found x.1.found y.1.trx x.1.trx e) in
        let before = covered o w f.fit f.facts x.0 y.0 key x.1.view other (puts_over script spelled work opening o w down entries downs f run told x.0 x.1.view x.1.trx.begun)
        x.1.mtr x.1.over.row (put_of_entry script spelled work opening o w down entries downs f run told x.0 key b x.1) q.0 q.1 q.2 (omega (arith, lt, upto))
        (whole_of script spelled work opening o w down entries downs f run told y.0 number a y.1 x.1.mtr.at) in
        let within = in_view y.0 number x.1.view x.1.mtr.at a y.1 before in
        let view = view_by script spelled work opening o w down entries downs f run told (x.0).node x.1.entry x.0 x.1.view b x.1.line x.1.kept x.1.found x.1.trx in
        omega (arith, within, view)

    pub see_earlier : EachBelow (SeesEarlierCommits run) [] answers
    see_earlier = each_split (SeesEarlierCommits run) answers [] answers refl (λ over y rest split key wrote.
        all_of (λ other. (number : ℕ) → AcknowledgesKey run other key number → trx_of run other ≢ trx_of run y → number ≤ view_at run y.session y.index) over
        (λ x there number ack apart.
        sees_one x y key number (subst (StandsAbove x y) (sym split) (over_above over y rest x there)) (subst (IsIn x) (sym split) (in_over over y rest x there)) (subst (IsIn y) (sym split) (last_in over y rest)) wrote ack apart))

    -- between a transaction's write of a key and its commit there is no other's
    holds_one : (first other answer : Answer) (key number : ℕ) → StandsAbove first other answers → StandsAbove other answer answers → IsIn first answers → IsIn other answers → IsIn answer answers
        → trx_of run first ≡ trx_of run answer → wrote_at run first.session first.index ≡ Some key → wrote_at run other.session other.index ≡ Some key → acknowledged_cts answer.reply ≡ Some number → trx_of run other ≡ trx_of run answer
    holds_one first other answer key number above below a b c same wrote also ack =
        let z = put_entry script spelled work opening o w down entries downs f run told first key (rising.within first a) wrote in
        let x = put_entry script spelled work opening o w down entries downs f run told other key (rising.within other b) also in
        let y = record_entry script spelled work opening o w down entries downs f run told answer number (rising.within answer c) (acknowledged_shows answer.reply number ack) in
        let is : z.0 ≡ y.0 = same_trx_id (z.0).node (y.0).node z.1.entry y.1.entry first answer z.0 y.0 z.1.view y.1.view z.1.line y.1.line z.1.kept y.1.kept z.1.found y.1.found z.1.trx y.1.trx refl refl same in
        let lower = rising.rises first other (z.0).node (x.0).node z.1.entry x.1.entry z.1.mtr x.1.mtr above z.1.kept x.1.kept z.1.made x.1.made in
        let upper = rising.rises other answer (x.0).node (y.0).node x.1.entry y.1.entry x.1.mtr y.1.mtr below x.1.kept y.1.kept x.1.made y.1.made in
        elim (decided (same_writer (Some x.0) (Some y.0))) [
          | inl one ↦ same_name x.0 y.0 (x.0).node (y.0).node other answer x.1.view y.1.view x.1.line y.1.line x.1.found y.1.found x.1.trx y.1.trx (some_is x.0 y.0 (same_is (Some x.0) (Some y.0) one))
          | inr apart ↦
              let ne : Some x.0 ≢ Some y.0 = other_is (Some x.0) (Some y.0) apart in
              let put_first : PutOf w y.0 key z.1.mtr z.1.over.row = subst (λ (i : TrxId). PutOf w i key z.1.mtr z.1.over.row) is (put_of_entry script spelled work opening o w down entries downs f run told z.0 key first z.1) in
              let before = covered o w f.fit f.facts x.0 y.0 key x.1.view (λ (e : y.0 ≡ x.0). ne (ap (λ (i : TrxId). Some i) (sym e))) (puts_over script spelled work opening o w down entries downs f run told x.0 x.1.view x.1.trx.begun)
              x.1.mtr x.1.over.row (put_of_entry script spelled work opening o w down entries downs f run told x.0 key other x.1) z.1.mtr z.1.over.row put_first lower
              (whole_of script spelled work opening o w down entries downs f run told y.0 number answer y.1 x.1.mtr.at) in
              let made = before.forced.recorded.made in
              let its = (f.facts.of_versions.commits (y.0).node made y.0 before.cts before.forced.recorded.was_made before.forced.recorded.commit).0 in
              let upto = (f.facts.of_versions.commit_last (y.0).node made y.1.mtr before.forced.recorded.was_made (ap (λ (d : Option Draw). is_some d) before.forced.recorded.commit) y.1.records.was_made (y.1.records.of ∙ sym its)).0 in
              let early = before.early in
              absurd (omega (arith, upto, early, upper))
        ]

    pub hold_keys : EachBelow (HoldsItsKeys run) [] answers
    hold_keys = each_split (HoldsItsKeys run) answers [] answers refl (λ over y rest split key number ack.
        all_of (λ other. wrote_at run other.session other.index ≡ Some key → trx_of run other ≡ trx_of run y) (since_first_write run (trx_of run y) key over)
        (λ x there also.
        let from = from_first_is (λ (other : Answer). same_trx (trx_of run other) (trx_of run y) && is_number key (wrote_at run other.session other.index)) over x there in
        let both = and_parts (same_trx (trx_of run from.0) (trx_of run y)) (is_number key (wrote_at run (from.0).session (from.0).index)) from.1 in
        let same : trx_of run from.0 ≡ trx_of run y = same_trx_is (trx_of run from.0) (trx_of run y) both.0 in
        elim from.3 [
          | inl e ↦ ap (trx_of run) (sym e) ∙ same
          | inr above ↦
              let parts = above_in from.0 x over above in
              holds_one from.0 x y key number (subst (StandsAbove from.0 x) (sym split) (still_above over y rest from.0 x above)) (subst (StandsAbove x y) (sym split) (over_above over y rest x parts.1))
              (subst (IsIn from.0) (sym split) (in_over over y rest from.0 parts.0)) (subst (IsIn x) (sym split) (in_over over y rest x parts.1)) (subst (IsIn y) (sym split) (last_in over y rest))
              same (numbered_so key (wrote_at run (from.0).session (from.0).index) both.1) also ack
        ]))
