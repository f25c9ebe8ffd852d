-- The facts of a world, group by group, from what is kept.
use Rattle.std.proofs.Common.{◌≡◌, ◌≢◌, ℕ, ◌<◌, ◌≤◌, ◌⊎◌, List, ◌∷◌, [], ◌++◌, length, slice_get, Some, refl, sym, ap, subst, ◌∙◌, inl, inr, arith}
use Rattle.mp_machine.specs.Lists.{IsIn}
use Rattle.mp_model.specs.declared.ids.TrxId.{TrxId}
use Rattle.mp_cells.specs.declared.records.Mtr.{Mtr}
use Rattle.mp_cells.specs.declared.rows.Row.{Row}
use Rattle.mp_cells.specs.declared.kinds.Kind.TheVariants.{Undo}
use Rattle.mp_cells.specs.PageView.{PageView}
use Rattle.mp_histories.proofs.Lists.{some_same}
use Rattle.mp_core_trx.specs.declared.part.SlotLoad.{SlotLoad}
use Rattle.mp_core_trx.specs.declared.slot.Shown.{Shown}
use Rattle.mp_core_trx.specs.declared.slot.SlotTag.TheVariants.{Free, Committed}
use Rattle.mp_core_trx.specs.Words.{tag_number, shows, shown_of}
use Rattle.mp_core_trx.specs.Parts.{trx, begun_of, draw_of, shown_at, unused, HasBegun, HasDrawnNothing, IsOpen}
use Rattle.mp_core_trx.specs.World.{begun_in, slot_rows_in, drawn_in, loaded_in}
use Rattle.mp_core_pages.specs.declared.part.GivenPage.{GivenPage}
use Rattle.mp_core_pages.specs.declared.part.Placed.{Placed}
use Rattle.mp_core_pages.specs.Histories.{placed, oldest}
use Rattle.mp_core_pages.specs.PageParts.{content_at, durable_llsn}
use Rattle.mp_core_pages.proofs.Bounds.{history_bounded}
use Rattle.mp_histories.specs.Histories.{History, older, entry_at, pages_after, Version, by_version, ops_on, live_on}
use Rattle.mp_histories.proofs.MoreStamps.{fits_more}
use Rattle.mp_core.specs.declared.opening.CoreOpening.{CoreOpening}
use Rattle.mp_core.specs.Commits.{HasDurableRecord}
use Rattle.mp_core.specs.Contents.{page_ops, pages_opening}
use Rattle.mp_core.specs.OwnMtrs.{commit_told, commit_by_mtr, owner_of, TrxMtr}
use Rattle.mp_core.specs.World.{CoreWorld}
use Rattle.mp_core.specs.Invariant.{NumbersFit, CoreInv}
use Rattle.mp_core.proofs.Pages.{pages_fit}
use Rattle.mp_facts.specs.Facts.{opening_pages, pages_at_height, pages_now, live_at_height, made_in, IsForced, CommittedStamp, DrewStamp, MadeUndo, HistoryFacts, VersionFacts, NoteFacts, PresentFacts, Facts}
use Rattle.mp_facts.proofs.MadeLists.{as_made}
use Rattle.mp_facts.proofs.Entries.{StandsAt, made_at, made_falls, entry_stays}
use Rattle.mp_facts.proofs.Bridges.{folded_is, folded_within, older_oldest, content_is, stands_in}
use Rattle.mp_facts.proofs.RunEntries.{entry_runs, put_replaced, made_undo, entry_in}
use Rattle.mp_facts.proofs.LiveSteps.{all_in}
use Rattle.mp_plans.specs.Fitting.{IsLeafOf}
use Rattle.std.specs.List.{AllByRecursion}
use Rattle.mp_histories.specs.Chains.{RunsFrom, IsPutAt}
use Rattle.mp_histories.proofs.Noting.{older_first}
use Rattle.mp_histories.proofs.Standing.{runs_before}
use Rattle.mp_histories.proofs.LiveRows.{live_put_at}
use Rattle.mp_facts.proofs.Room.{room}
use Rattle.mp_facts.proofs.Joint.{DurableStamp, DrawnStamp, CommittedBefore, EachCovers, Joint}

module _ (o : CoreOpening) (fair : NumbersFit o) (w : CoreWorld) (i : CoreInv o w) (j : Joint o w) where
  stands : (n : ℕ) (t : TrxMtr) → IsIn t (made_in w n) → StandsAt n w.pages.history (placed t.at t.mtr)
  stands n t has = stands_in o w i n t has

  pub history_facts : HistoryFacts o w
  history_facts = record {
    placed = λ n m has. let s = stands n m has in (s.before, s.entry, s.maker, j.of_begun n m has);
    all_made = λ at mtr is. as_made (w.pages.made mtr.node) (placed at mtr) (subst (λ (l : List (Placed Mtr)). IsIn (placed at mtr) l) (sym (i.pages.mtr_history.own mtr.node)) (made_at w.pages.history at mtr is));
    in_order = λ n. made_falls o.trx.base.llsn n w.pages.history (w.pages.made n) (i.pages.mtr_history.own n) (i.pages.mtr_logs.ascend n);
    kinds = j.kinds;
    put_back = λ n m row has is. j.put_back n m has row is;
    replaced = λ at mtr row former is put kept. put_replaced o.trx.base.llsn (opening_pages o) fair.clean (older at w.pages.history) mtr row former (entry_runs (opening_pages o) w.pages.history at mtr j.runs is) put kept;
    few = (let most = history_bounded page_ops (pages_opening o) (pages_fit o fair) w.pages i.pages in omega (arith, most));
  }

  -- a durable record as the facts have it
  pub forced : (id : TrxId) (cts : ℕ) → HasDurableRecord o.trx.base.llsn (w.pages.made id.node) (w.pages.durables id.node) id cts → IsForced o w id cts
  forced id cts r =
      let t = as_made (w.pages.made id.node) r.commit r.is_made in
      record {
        recorded = record { made = t.0; was_made = t.1; commit = ap (λ (x : Mtr). commit_by_mtr x) t.3 ∙ ap commit_told r.records };
        durable = (let below = r.durable in let same = ap (λ (x : Mtr). x.llsn) t.3 in omega (arith, below, same));
      }

  -- the first mtrs are well made as well
  early_runs : (height : ℕ) → RunsFrom (opening_pages o) (older height w.pages.history)
  early_runs height =
      let split = older_first height w.pages.history in
      runs_before (opening_pages o) split.newer (older height w.pages.history) (subst (RunsFrom (opening_pages o)) split.split_is j.runs)

  pub version_facts : VersionFacts o w
  version_facts = record {
    runs = j.runs;
    fits = λ key. fits_more (DurableStamp o.trx.base.llsn w.pages.made w.pages.durables) (DrawnStamp (drawn_in w.trx)) (CommittedStamp o w) (DrewStamp w)
        (λ writer cts has. (has.0, has.1, forced has.0 cts has.2)) (λ writer c drew. inl drew) by_version (ops_on key w.pages.history) (j.fits key);
    covers_earlier = λ key over under upper rest height is differ. covered (live_at_height w height key) (j.covers height key) upper over under rest is differ;
    commit_last = λ n c m has told there same. j.last n c m has told there same;
    commits = λ n m id cts has told. j.commits n m id cts has told;
    room = λ height. room o.trx.base.llsn (opening_pages o) fair.clean (older height w.pages.history) (early_runs height);
  }
    where
      split : (upper : List Version) (over under : Version) (rest : List Version) → EachCovers w.pages.made (upper ++ over ∷ under ∷ rest) → over.row.writer ≢ under.row.writer → CommittedBefore w.pages.made over under
      split [] over under rest each differ = each.0 differ
      split (v ∷ upper) over under rest each differ = split upper over under rest each.1 differ

      covered : (vs : List Version) → EachCovers w.pages.made vs → (upper : List Version) (over under : Version) (rest : List Version) → vs ≡ upper ++ over ∷ under ∷ rest → over.row.writer ≢ under.row.writer → CommittedBefore w.pages.made over under
      covered vs each upper over under rest is differ = split upper over under rest (subst (EachCovers w.pages.made) is each) differ

  -- ---- notes

  given_is : (n : ℕ) (g : GivenPage PageView) → IsIn g (w.pages.given n) → (g.number < 4096) × (g.height ≤ length w.pages.history) × (g.page ≡ pages_at_height o w g.height g.number) × (o.trx.base.ts ≤ g.known) × (g.known ≤ w.trx.tso)
  given_is n g has =
      let r = i.pages.given_pages n g has in
      let range = folded_within o (oldest g.height w.pages.history) g.number g.page r.is_folded in (
        (let count = fair.count in omega (arith, range, count)),
        r.within,
        sym (folded_is o (oldest g.height w.pages.history) g.number g.page r.is_folded) ∙ ap (λ (h : History). pages_after (opening_pages o) h g.number) (sym (older_oldest o g.height w.pages.history)),
        (j.known n g has).0,
        (j.known n g has).1,
      )

  ended_shown : (n : ℕ) (l : SlotLoad) (x : Shown) → IsIn l (loaded_in w.trx n) → shown_of l.word ≡ x → (tag_number x.tag ≢ 1) → (tag_number x.tag ≢ 2) → (x ≡ unused) ⊎ (shown_at (slot_rows_in w.trx l.of) l.slot ≡ x)
  ended_shown n l x has is not_active not_prep =
      let tag : tag_number (shown_of l.word).tag ≡ tag_number x.tag = ap (λ (y : Shown). tag_number y.tag) is in
      elim (j.ended n l has (λ e. not_active (sym tag ∙ e)) (λ e. not_prep (sym tag ∙ e))) [
        | inl none ↦ inl (sym is ∙ none)
        | inr still ↦ inr (still ∙ is)
      ]

  committed_is : (n : ℕ) (l : SlotLoad) (version cts : ℕ) → IsIn l (loaded_in w.trx n) → shown_of l.word ≡ shows Committed version cts → IsForced o w (trx l.of l.slot version) cts
  committed_is n l version cts has is = elim (ended_shown n l (shows Committed version cts) has is (λ e. absurd (omega (arith, e))) (λ e. absurd (omega (arith, e)))) [
    | inl none ↦ absurd (let tag = ap (λ (y : Shown). tag_number y.tag) none in omega (arith, tag))
    | inr still ↦ forced (trx l.of l.slot version) cts (i.records l.of l.slot version cts still)
  ]

  freed_is : (n : ℕ) (l : SlotLoad) (version : ℕ) → IsIn l (loaded_in w.trx n) → shown_of l.word ≡ shows Free version 0 → HasDrawnNothing (drawn_in w.trx l.of) (trx l.of l.slot version)
  freed_is n l version has is cts drew =
      let began : HasBegun (begun_in w.trx l.of) (trx l.of l.slot version) = i.trx.drawers.had_begun l.of (draw_of (trx l.of l.slot version) cts) drew in
      elim (ended_shown n l (shows Free version 0) has is (λ e. absurd (omega (arith, e))) (λ e. absurd (omega (arith, e)))) [
        | inl none ↦ absurd (let zero : version ≡ 0 = ap (λ (y : Shown). y.version) none in let above = (i.trx.ids.versions l.of (begun_of (trx l.of l.slot version) began.0) began.1).0 in omega (arith, zero, above))
        | inr still ↦ (i.trx.slots l.of l.slot).free (trx l.of l.slot version) began refl still cts drew
      ]

  -- ---- now

  owns_is : (n key : ℕ) (id : TrxId) → IsOpen (w.trx.part n) id → owner_of (w.pages.made n) key ≡ Some id → (v : Version) × (rest : List Version) × (live_on key w.pages.history ≡ v ∷ rest) × (v.row.writer ≡ Some id)
  owns_is n key id is_open owner =
      let node : id.node ≡ n = i.trx.ids.own n (begun_of id is_open.0.0) is_open.0.1 in
      let here : IsOpen (w.trx.part id.node) id = subst (λ (k : ℕ). IsOpen (w.trx.part k) id) (sym node) is_open in
      elim (j.own id key here.0 here.1) [
        | inl own ↦ (own.newest, own.rest, own.live, own.by)
        | inr other ↦ absurd (other.owner (ap (λ (k : ℕ). owner_of (w.pages.made k) key) node ∙ owner))
      ]

  held_is : (key : ℕ) (v : Version) (id : TrxId) → IsIn v (live_on key w.pages.history) → v.row.writer ≡ Some id → IsOpen (w.trx.part id.node) id → owner_of (w.pages.made id.node) key ≡ Some id
  held_is key v id standing by is_open = elim (j.own id key is_open.0 is_open.1) [
    | inl own ↦ own.owner
    | inr other ↦ absurd (all_in (λ (x : Version). x.row.writer ≢ Some id) (live_on key w.pages.history) other.none v standing by)
  ]

  undo_is : (n number : ℕ) → MadeUndo (made_in w n) number → (pages_now o w number).kind ≡ Undo
  undo_is n number made = made_undo o.trx.base.llsn (opening_pages o) fair.clean w.pages.history made.0.mtr number j.runs (entry_in made.0.at w.pages.history made.0.mtr (stands n made.0 made.1).entry) made.2

  pub contents_are : (n number : ℕ) (page : PageView) → content_at page_ops (w.pages.contents n) number ≡ Some page → (number < 4096) × (page ≡ pages_now o w number)
  contents_are n number page has =
      let range = folded_within o w.pages.history number page (i.pages.page_frames.contents_whole n number page has).1 in
      ((let count = fair.count in omega (arith, range, count)), content_is o w i n number page has)

  -- a version that stood after the first mtrs was put by one of them, at its place of the history
  shown_is : (n : ℕ) (g : GivenPage PageView) → IsIn g (w.pages.given n) → (key : ℕ) → IsLeafOf key g.page → (v : Version) (rest : List Version) → live_at_height w g.height key ≡ v ∷ rest
      → (k : ℕ) (m : TrxMtr) → k ≢ n → IsIn m (made_in w k) → m.at ≡ v.at → m.mtr.llsn ≤ durable_llsn o.trx.base.llsn (w.pages.durables k)
  shown_is n g has key leaf v rest live k m other made at =
      let split = older_first g.height w.pages.history in
      let early = early_runs g.height in
      let put = (subst (AllByRecursion (IsPutAt (older g.height w.pages.history) key)) live (live_put_at o.trx.base.llsn (opening_pages o) fair.clean (older g.height w.pages.history) early key)).0 in
      let s = stands k m made in
      let entry : entry_at v.at w.pages.history ≡ Some put.mtr = ap (entry_at v.at) split.split_is ∙ entry_stays split.newer (older g.height w.pages.history) v.at put.before ∙ put.entry in
      let same : m.mtr ≡ put.mtr = some_same m.mtr put.mtr (sym s.entry ∙ ap (λ (p : ℕ). entry_at p w.pages.history) at ∙ entry) in
      let maker : put.mtr.node ≡ k = ap (λ (x : Mtr). x.node) (sym same) ∙ s.maker in
      let forced = j.shown n g has key put.mtr v.row leaf (entry_in v.at (older g.height w.pages.history) put.mtr put.entry) (ap (λ (rows : List Row). slice_get rows 0) put.puts) put.key_is (λ e. other (sym maker ∙ e)) in
      let llsn = ap (λ (x : Mtr). x.llsn) same in
      let durable = ap (λ (p : ℕ). durable_llsn o.trx.base.llsn (w.pages.durables p)) maker in
      omega (arith, forced, llsn, durable)

  pub note_facts : NoteFacts o w
  note_facts = record {
    given = given_is;
    later_puts = λ n g has k m row made above is id cts of drawn. j.later n g has k m made row above is id cts of drawn;
    shown_forced = shown_is;
    committed = committed_is;
    freed = freed_is;
  }

  pub present_facts : PresentFacts o w
  present_facts = record {
    contents = contents_are;
    writers = j.writers;
    owns = owns_is;
    held_by_open = held_is;
    undo_kind = undo_is;
  }

  pub facts : Facts o w
  facts = record { inv = i; of_history = history_facts; of_versions = version_facts; of_notes = note_facts; of_present = present_facts }
