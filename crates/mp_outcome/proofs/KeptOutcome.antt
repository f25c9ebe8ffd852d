-- The commits that a valid cut keeps are closed for what a finished run told.
use Rattle.std.proofs.Common.{◌≡◌, ℕ, true, false, cond, Bool, List, [], ◌∷◌, ◌==◌, length, map, Option, Some, None, refl, sym, ap, subst, ◌∙◌, inl, inr}
use Rattle.std.specs.Option.{option_map}
use Rattle.std.specs.List.{AllByRecursion}
use Rattle.mp_machine.specs.Lists.{IsIn}
use Rattle.mp_model.specs.Folded.{value_at}
use Rattle.mp_model.specs.declared.histories.Opening.{Opening}
use Rattle.mp_model.specs.declared.ids.TrxId.{TrxId}
use Rattle.mp_model.specs.declared.key_value.KeyWrite.{KeyWrite}
use Rattle.mp_model.specs.declared.replies.Answer.{Answer}
use Rattle.mp_model.specs.declared.transcripts.Down.{Down}
use Rattle.mp_script.specs.declared.statements.Script.{Script}
use Rattle.mp_script.specs.Execution.{Execution}
use Rattle.mp_script.specs.Spelling.{IsSpelled}
use Rattle.mp_script.specs.Transactions.{trx_of, statements_before, acknowledged_cts}
use Rattle.mp_script.specs.LastValues.{or_else_value, last_value, value_over, first_writes}
use Rattle.mp_script.proofs.ItemsAbove.{all_of}
use Rattle.mp_script.proofs.LastValues.{value_at-over}
use Rattle.mp_cells.specs.declared.records.Mtr.{Mtr}
use Rattle.mp_cells.specs.declared.rows.Row.{Row}
use Rattle.mp_cells.proofs.KeyEdits.{All-append}
use Rattle.mp_histories.specs.KeyOps.{put_last}
use Rattle.mp_histories.specs.Commits.{Stamp, HasStamp}
use Rattle.mp_histories.specs.Histories.{Version, by_version, ops_on, commit_records}
use Rattle.mp_core.specs.declared.opening.CoreOpening.{CoreOpening}
use Rattle.mp_core.specs.World.{CoreWorld}
use Rattle.mp_supports.specs.Work.{Work}
use Rattle.mp_supports.specs.Kept.{Entry}
use Rattle.mp_recover.specs.KeptCommits.{KeptCommit, puts_by, kept_from, kept_commits, last_or_none, last_put, write_of}
use Rattle.mp_recover.specs.Closed.{is_kept, SameWrites, writes_of_answer, WasCommitted, KeptAreClosed}
use Rattle.mp_verdict.specs.Counting.{CountsCommits}
use Rattle.mp_verdict.specs.Finished.{Finished}
use Rattle.mp_verdict.specs.Told.{IsToldBy}
use Rattle.mp_verdict.proofs.LastPuts.{Says, put_last_says}
use Rattle.mp_verdict.proofs.ToldAnswers.{supported, kept_answer, answer_here}
use Rattle.mp_cuts.specs.ValidCuts.{IsValidCut, mtrs_of_cut}
use Rattle.mp_cuts.proofs.Acknowledged.{has_number, acknowledged_forced}
use Rattle.mp_cuts.proofs.Recoverable.{forced_kept}
use Rattle.mp_cuts.proofs.RowsStand.{row_of_version}
use Rattle.mp_outcome.proofs.RecordedAnswers.{IsAnswerOf, answered, last_set, none_set}
use Rattle.mp_outcome.proofs.CutPuts.{IsKeptRecord, kept_record, last_kept}

-- what law_kept_closed says
abbrev pub ClosesKept : Type 0
ClosesKept = (run : Execution) (commits : List KeptCommit) → AllByRecursion (λ answer. (number : ℕ) → acknowledged_cts answer.reply ≡ Some number → is_kept commits number ≡ true) run.answers
    → AllByRecursion (WasCommitted run) commits → KeptAreClosed run commits

-- ---- the commits of mtrs, one by one

module _ (P : KeptCommit → Type 0) (all : List Mtr) where
  abbrev kept_by : Mtr → Stamp → KeptCommit
  kept_by m s = record { id = s.id; cts = s.cts; puts = puts_by s.id m.node all }

  each_stamp : (m : Mtr) (stamps : List Stamp) → ((s : Stamp) → HasStamp stamps (Some s.id) s.cts → P (kept_by m s))
      → AllByRecursion P (map (kept_by m) stamps)
  each_stamp m [] each = tt
  each_stamp m (s ∷ stamps) each = (each s (inl (refl, refl)), each_stamp m stamps (λ x has. each x (inr has)))

  each_kept : (mtrs : List Mtr)
      → ((m : Mtr) (s : Stamp) → IsIn m mtrs → HasStamp (commit_records m.records) (Some s.id) s.cts → P (kept_by m s))
      → AllByRecursion P (kept_from all mtrs)
  each_kept [] each = tt
  each_kept (m ∷ mtrs) each =
      All-append P (map (kept_by m) (commit_records m.records)) (kept_from all mtrs)
      (each_stamp m (commit_records m.records) (λ s has. each m s (inl refl) has))
      (each_kept mtrs (λ x s has. each x s (inr has)))

-- ---- the writes that rows are

abbrev value_of : Option Row → Option (Option (List ℕ))
value_of row = option_map (λ (r : Row). r.value) row

last_written : (key : ℕ) (rows : List Row) → last_value key (map write_of rows) ≡ value_of (last_put key rows)
last_written key [] = refl
last_written key (row ∷ rows) =
    ap (λ (x : Option (Option (List ℕ))). or_else_value x (cond (row.key == key) (Some row.value) None)) (last_written key rows)
    ∙ either (last_put key rows) (row.key == key)
  where
    either : (x : Option Row) (b : Bool)
        → or_else_value (value_of x) (cond b (Some row.value) None) ≡ value_of (last_or_none x (cond b (Some row) None))
    either (Some later) b = refl
    either None true = refl
    either None false = refl

module _ (script : Script) (spelled : IsSpelled script) (work : Work) (opening : Opening) (o : CoreOpening) (w : CoreWorld) (down : ℕ → ℕ) (entries : ℕ → List Entry) (downs : List Down)
    (f : Finished work script opening o w down entries downs) (run : Execution) (told : IsToldBy work opening o entries downs run) (counted : CountsCommits w run) (count : ℕ → ℕ) (valid : IsValidCut o w count) where
  abbrev mtrs : List Mtr
  mtrs = mtrs_of_cut w count

  -- ---- each kept commit was committed

  module _ (m : Mtr) (id : TrxId) (cts : ℕ) (r : IsKeptRecord o f.fit w f.facts count m id cts) where
    its : IsAnswerOf script spelled work opening o w down entries downs f run told id cts
    its = answered script spelled work opening o w down entries downs f run told id cts (record { made = r.made; was_made = r.was_made; commit = r.commit })

    abbrev its_writes : List KeyWrite
    its_writes = first_writes run (trx_of run its.answer) (statements_before (trx_of run its.answer) its.answer.index)

    last_of : (key : ℕ) (x : Option Version) → Says o w f.facts id key (length w.pages.history) x
        → last_value key its_writes ≡ value_of (row_of_version x)
    last_of key None says = none_set script spelled work opening o w down entries downs f run told counted id cts its.answer its.entry key says
    last_of key (Some v) says = last_set script spelled work opening o w down entries downs f run told counted id cts its.answer its.entry key v.row says

    same_last : (key : ℕ) → last_value key (map write_of (puts_by id id.node mtrs)) ≡ last_value key its_writes
    same_last key =
        last_written key (puts_by id id.node mtrs)
        ∙ ap value_of (last_kept o f.fit w f.facts count m id cts r key)
        ∙ sym (last_of key (put_last by_version (Some id) (ops_on key w.pages.history)) (put_last_says o w f.facts id key [] w.pages.history refl))

    same_writes : SameWrites (map write_of (puts_by id id.node mtrs)) (writes_of_answer run its.answer)
    same_writes rows key =
        value_at-over key rows (map write_of (puts_by id id.node mtrs))
        ∙ ap (λ (x : Option (Option (List ℕ))). value_over x (value_at key rows)) (same_last key)
        ∙ sym (value_at-over key rows its_writes)

    was_committed : WasCommitted run (record { id = id; cts = cts; puts = puts_by id m.node mtrs })
    was_committed = record {
      answer = its.answer;
      told = answer_here script spelled work opening o w down entries downs f run told its.answer its.there;
      number = its.shows;
      writes = subst (λ (n : ℕ). SameWrites (map write_of (puts_by id n mtrs)) (writes_of_answer run its.answer)) (sym r.node) same_writes;
    }

  committed : AllByRecursion (WasCommitted run) (kept_commits mtrs)
  committed = each_kept (WasCommitted run) mtrs mtrs (λ m s has stamp. was_committed m s.id s.cts (kept_record o f.fit w f.facts count m s.id s.cts has stamp))

  -- ---- each acknowledged one is kept

  acknowledged : AllByRecursion (λ answer. (number : ℕ) → acknowledged_cts answer.reply ≡ Some number → is_kept (kept_commits mtrs) number ≡ true) run.answers
  acknowledged = all_of (λ (a : Answer). (number : ℕ) → acknowledged_cts a.reply ≡ Some number → is_kept (kept_commits mtrs) number ≡ true) run.answers (λ a there number shows.
      let k = kept_answer script spelled work opening o w down entries downs f run told a there in
      let s = supported script spelled work opening o w down entries downs f run told k.0 k.1 a k.2 in
      let forced = acknowledged_forced o w f.facts work k.0 (down k.0) (k.1).trace s.line number a.reply s.reply shows in
      has_number (kept_commits mtrs) (Some forced.0) number (forced_kept o f.fit w f.facts count valid forced.0 number forced.1))

  pub kept_closed : ClosesKept → KeptAreClosed run (kept_commits mtrs)
  kept_closed closes = closes run (kept_commits mtrs) acknowledged committed
