-- Where a run of a spelled script has answered all, the transcript of its answers and of the primaries that are down is legal and
-- readable, and what a crash may leave of it is closed for the transcript: in mode Step and in mode Run.
use Rattle.std.proofs.Common.{◌≡◌, ◌≢◌, ℕ, ◌+◌, ◌<◌, ◌^◌, true, List, [], ◌∷◌, suc, length, ◌==◌, map, filter, slice_get, Some, is_some, refl, sym, ap, subst, ◌∙◌, append-nil, arith}
use Rattle.std.specs.List.{flat_map, AllByRecursion}
use Rattle.mp_model.specs.declared.histories.Opening.{Opening}
use Rattle.mp_model.specs.declared.replies.Answer.{Answer}
use Rattle.mp_model.specs.declared.transcripts.Down.{Down}
use Rattle.mp_model.specs.declared.transcripts.Mode.TheVariants.{Run}
use Rattle.mp_model.specs.declared.transcripts.Part.{Part}
use Rattle.mp_model.specs.declared.transcripts.Transcript.{Transcript}
use Rattle.mp_script.specs.declared.statements.Script.{Script}
use Rattle.mp_script.specs.Answers.{ViewsCover}
use Rattle.mp_script.specs.Below.{EachBelow, numbers, answered, stated}
use Rattle.mp_script.specs.DownLines.{down_lines}
use Rattle.mp_script.specs.Execution.{all_answers, execution_of, is_session_on}
use Rattle.mp_script.specs.InTheirPart.{count_from}
use Rattle.mp_script.specs.Legal.{Legal}
use Rattle.mp_script.specs.Spelling.{IsSpelled}
use Rattle.mp_script.specs.SpelledLines.{IsRowInRange}
use Rattle.mp_script.proofs.CountedAnswers.{one_part}
use Rattle.mp_script.proofs.DownLines.{line_is_of}
use Rattle.mp_script.proofs.ItemsAbove.{all_of}
use Rattle.mp_script.proofs.SeenRows.{all_filter}
use Rattle.mp_core_trx.specs.declared.opening.Base.{Base}
use Rattle.mp_core_trx.specs.declared.opening.TrxOpening.{TrxOpening}
use Rattle.mp_core_trx.specs.Events.{IsNode}
use Rattle.mp_core_trx.proofs.Bounds.{tso_fits}
use Rattle.mp_core.specs.declared.opening.CoreOpening.{CoreOpening}
use Rattle.mp_core.specs.Invariant.{NumbersFit}
use Rattle.mp_core.specs.World.{CoreWorld, core_part}
use Rattle.mp_facts.specs.Facts.{opening_pages, Facts}
use Rattle.mp_book.specs.Answered.{IsPlaced}
use Rattle.mp_histories.proofs.Lists.{heads_same, tails_same}
use Rattle.mp_report.specs.Readable.{IsDown, IsReadable}
use Rattle.mp_report.proofs.LegalReadable.{legal_readable}
use Rattle.mp_supports.specs.Work.{Work}
use Rattle.mp_supports.specs.Kept.{Entry, answers_in, Kept}
use Rattle.mp_verdict.specs.Finished.{BeginsWith, IsWorkOf, Finished}
use Rattle.mp_verdict.specs.Orders.{NodeEntry, entries_given, given_by, IsMerged, StepOrder, RunOrder, IsStepTranscript, IsRunTranscript}
use Rattle.mp_verdict.proofs.Assembly.{run_legal, step_legal}
use Rattle.mp_verdict.proofs.OpeningRows.{opening_range}
use Rattle.mp_verdict.proofs.RunRules.{run_counts}
use Rattle.mp_verdict.proofs.StepRules.{step_counts}
use Rattle.mp_files.specs.Nine.{Image}
use Rattle.mp_recover.specs.Closed.{KeptAreClosed}
use Rattle.mp_recover.specs.Images.{logged_above}
use Rattle.mp_recover.specs.KeptCommits.{kept_commits}
use Rattle.mp_cuts.specs.LeftBehind.{IsOpenedOver, IsLeftBehind}
use Rattle.mp_cluster.specs.RunTranscripts.{IsRunOver}
use Rattle.mp_cluster.specs.StepTranscripts.{first_opening, IsStepOver}

-- what law_left_outcome says of mode Step
abbrev pub ClosesLeft : Type 0
ClosesLeft = (script : Script) (work : Work) (opening : Opening) (o : CoreOpening) (w : CoreWorld) (down : ℕ → ℕ) (entries : ℕ → List Entry) (downs : List Down) (given : List NodeEntry) (transcript : Transcript) (opened : List ℕ) (image : Image)
    → IsSpelled script → Finished work script opening o w down entries downs → IsMerged o.trx entries given → StepOrder opening.base given → IsStepTranscript opening given downs transcript
    → IsOpenedOver opened o → IsLeftBehind o w opened image → KeptAreClosed (execution_of script opening transcript) (kept_commits (logged_above image))

-- and of mode Run
abbrev pub ClosesApart : Type 0
ClosesApart = (script : Script) (work : Work) (opening : Opening) (o : CoreOpening) (w : CoreWorld) (down : ℕ → ℕ) (entries : ℕ → List Entry) (downs : List Down) (transcript : Transcript) (opened : List ℕ) (image : Image)
    → IsSpelled script → Finished work script opening o w down entries downs → IsRunTranscript opening o.trx.primaries entries downs transcript
    → IsOpenedOver opened o → IsLeftBehind o w opened image → KeptAreClosed (execution_of script opening transcript) (kept_commits (logged_above image))

-- What all members of such a run together know at its end, where these are the numbers with which they are down
pub record AnswersAll (work : Work) (script : Script) (o : CoreOpening) (w : CoreWorld) (down : ℕ → ℕ) (given : List NodeEntry) : Type 0 where
  pub fit : NumbersFit o
  pub facts : Facts o w
  pub work_of : IsWorkOf work script o
  pub kept : (n : ℕ) → IsNode o.trx n → Kept work (core_part w n) (down n) (given_by n given)
  pub in_order : (n : ℕ) → IsNode o.trx n → EachBelow (IsPlaced work.lines work.sessions n) [] (answers_in (given_by n given))
  pub none_left : (n session : ℕ) → IsNode o.trx n → is_session_on work.sessions session n ≡ true → answered session (answers_in (given_by n given)) ≡ stated session work.lines
  pub cause : (n : ℕ) → IsNode o.trx n → down n ≢ 0 → IsNode o.trx (down n) × (down (down n) ≡ down n)
  pub answered_all : AllByRecursion (λ x. is_some x.entry.answer ≡ true) given
  pub of_nodes : AllByRecursion (λ x. IsNode o.trx x.node) given

-- these lists, that of primary n at place n - 1 of so many, have the answers of what was given
pub record AreListsOf (primaries : ℕ) (given : List NodeEntry) (lists : List (List Answer)) : Type 0 where
  pub count : length lists ≡ primaries
  pub lists_are : (place : ℕ) (answers : List Answer) → slice_get lists place ≡ Some answers → answers ≡ answers_in (given_by (place + 1) given)

all_entries : (given : List NodeEntry) → AllByRecursion (λ x. is_some x.entry.answer ≡ true) given → AllByRecursion (λ e. is_some e.answer ≡ true) (entries_given given)
all_entries [] all = tt
all_entries (x ∷ given) all = (all.0, all_entries given all.1)

-- all answers of a transcript are those of its one part
whole_answers : (base : ℕ) (answers : List Answer) (downs : List Down) (transcript : Transcript) → IsStepOver base answers downs transcript → all_answers transcript ≡ answers
whole_answers base answers downs transcript t =
    let part = one_part answers transcript.parts.items t.part in
    ap (flat_map (λ (p : Part). p.answers.items)) part.1 ∙ append-nil (part.0).answers.items ∙ part.3

-- parts that are numbered from one on have what their lists have
parts_have : (its : ℕ → List Answer) (first : ℕ) (lists : List (List Answer)) (parts : List Part) → map (λ part. part.primary) parts ≡ count_from first (length lists)
    → map (λ part. part.answers.items) parts ≡ lists → ((place : ℕ) (answers : List Answer) → slice_get lists place ≡ Some answers → answers ≡ its (place + first))
    → AllByRecursion (λ part. part.answers.items ≡ its part.primary) parts
parts_have its first lists [] numbered have are = tt
parts_have its first [] (part ∷ parts) numbered have are = absurd cc
parts_have its first (list ∷ lists) (part ∷ parts) numbered have are = (
  heads_same part.answers.items list (map (λ (p : Part). p.answers.items) parts) lists have
      ∙ are 0 list refl
      ∙ ap its (omega arith)
      ∙ ap its (sym (heads_same part.primary first (map (λ (p : Part). p.primary) parts) (count_from (first + 1) (length lists)) numbered)),
  parts_have its (first + 1) lists parts
      (tails_same part.primary first (map (λ (p : Part). p.primary) parts) (count_from (first + 1) (length lists)) numbered)
      (tails_same part.answers.items list (map (λ (p : Part). p.answers.items) parts) lists have)
      (λ place answers at. are (suc place) answers at ∙ ap its (omega arith)),
)

-- each line is of a primary, down with one
lines_of_primaries : (o : TrxOpening) (down : ℕ → ℕ) → o.primaries < 9 → ((n : ℕ) → IsNode o n → down n ≢ 0 → IsNode o (down n)) → AllByRecursion IsDown (down_lines down 1 o.primaries)
lines_of_primaries o down few cause = all_of IsDown (down_lines down 1 o.primaries) (λ line there.
    let is = line_is_of down 1 o.primaries line there in
    let low = is.low in
    let high = is.high in
    let by = is.by_is in
    let with = cause line.primary (low, omega (arith, high)) is.is_down in
    let some = with.0 in
    let most = with.1 in
    record { primary = (low, omega (arith, high, few)); by = (omega (arith, by, some), omega (arith, by, most, few)) })

module _ (work : Work) (script : Script) (o : CoreOpening) (w : CoreWorld) (down : ℕ → ℕ) (given : List NodeEntry) (spelled : IsSpelled script) (a : AnswersAll work script o w down given) (opening : Opening) (begins : BeginsWith o opening) where
  abbrev its_downs : List Down
  its_downs = down_lines down 1 o.trx.primaries

  -- what the work is over is what the table was opened with
  table_base : work.base.ts ≡ o.trx.base.ts
  table_base = ap (λ (b : Base). b.ts) a.work_of.base

  base_is : work.base.ts ≡ opening.base
  base_is = table_base ∙ sym begins.base

  finished : Finished work script opening o w down (λ n. given_by n given) its_downs
  finished = record {
    fit = a.fit;
    facts = a.facts;
    opened = begins;
    work_of = a.work_of;
    kept = a.kept;
    in_order = a.in_order;
    all = λ n node. all_entries (filter (λ (x : NodeEntry). x.node == n) given) (all_filter (λ (x : NodeEntry). is_some x.entry.answer ≡ true) (λ (x : NodeEntry). x.node == n) given a.answered_all);
    none_left = a.none_left;
    cause = a.cause;
    downs_are = refl;
  }

  -- a legal transcript that counts what was drawn is readable
  readable_where : (transcript : Transcript) → transcript.downs.items ≡ its_downs → w.trx.tso ≡ opening.base + transcript.commits → Legal script opening transcript → IsReadable transcript
  readable_where transcript downs_are counts legal =
      let fits : w.trx.tso < 2 ^ 38 = tso_fits o.trx w.trx a.facts.inv.trx a.fit.trx in
      let most = a.fit.trx.some_primaries.1 in
      legal_readable script opening transcript spelled
      (subst (AllByRecursion IsRowInRange) (sym begins.rows) (opening_range (opening_pages o) a.fit.clean.tree))
      (omega (arith, counts, fits))
      (subst (AllByRecursion IsDown) (sym downs_are) (lines_of_primaries o.trx down (omega (arith, most)) (λ n node ne. (a.cause n node ne).0)))
      legal

  -- ---- in mode Step

  module _ (order : StepOrder work.base.ts given) (transcript : Transcript) (t : IsStepOver work.base.ts (answers_in (entries_given given)) its_downs transcript) where
    merged : IsMerged o.trx (λ n. given_by n given) given
    merged = record { of_nodes = a.of_nodes; each = λ n node. refl }

    step_order : StepOrder opening.base given
    step_order = subst (λ (base : ℕ). StepOrder base given) base_is order

    step_transcript : IsStepTranscript opening given its_downs transcript
    step_transcript = record {
      over_opening = record {
        mode_is = t.mode;
        base = t.base_is ∙ base_is;
        downs_are = t.downs;
        commits = t.commits ∙ ap (λ (answers : List Answer). length (numbers answers)) (sym (whole_answers work.base.ts (answers_in (entries_given given)) its_downs transcript t));
      };
      part = t.part;
    }

    pub answered_legal : Legal script opening transcript
    answered_legal = step_legal script spelled work opening o w down (λ n. given_by n given) its_downs finished given merged step_order transcript step_transcript

    pub answered_readable : IsReadable transcript
    answered_readable = readable_where transcript t.downs (step_counts script spelled work opening o w down (λ n. given_by n given) its_downs finished given merged step_order transcript step_transcript) answered_legal

    pub answered_closed : ClosesLeft → (opened : List ℕ) → IsOpenedOver opened o → (image : Image) → IsLeftBehind o w opened image → KeptAreClosed (execution_of script opening transcript) (kept_commits (logged_above image))
    answered_closed closes opened over image left = closes script work opening o w down (λ n. given_by n given) its_downs given transcript opened image spelled finished merged step_order step_transcript over left

  -- ---- in mode Run

  module _ (views : (n : ℕ) → IsNode o.trx n → ViewsCover Run work.base.ts (answers_in (given_by n given))) (lists : List (List Answer)) (listed : AreListsOf o.trx.primaries given lists)
      (transcript : Transcript) (t : IsRunOver work.base.ts lists its_downs transcript) where
    run_order : RunOrder o.trx (λ n. given_by n given)
    run_order n node = subst (λ (base : ℕ). ViewsCover Run base (answers_in (given_by n given))) table_base (views n node)

    run_transcript : IsRunTranscript opening o.trx.primaries (λ n. given_by n given) its_downs transcript
    run_transcript = record {
      over_opening = record { mode_is = t.mode; base = t.base_is ∙ base_is; downs_are = t.downs; commits = t.commits };
      primaries_are = t.primaries ∙ ap (count_from 1) listed.count;
      answers_are = parts_have (λ n. answers_in (given_by n given)) 1 lists transcript.parts.items t.primaries t.answers listed.lists_are;
    }

    pub apart_legal : Legal script opening transcript
    apart_legal = run_legal script spelled work opening o w down (λ n. given_by n given) its_downs finished transcript run_transcript run_order

    pub apart_readable : IsReadable transcript
    apart_readable = readable_where transcript t.downs (run_counts script spelled work opening o w down (λ n. given_by n given) its_downs finished transcript run_transcript) apart_legal

    pub apart_closed : ClosesApart → (opened : List ℕ) → IsOpenedOver opened o → (image : Image) → IsLeftBehind o w opened image → KeptAreClosed (execution_of script opening transcript) (kept_commits (logged_above image))
    apart_closed closes opened over image left = closes script work opening o w down (λ n. given_by n given) its_downs transcript opened image spelled finished run_transcript over left

pub opened_first : (o : CoreOpening) → BeginsWith o (first_opening o)
opened_first o = record { base = refl; taken = refl; rows = refl }
