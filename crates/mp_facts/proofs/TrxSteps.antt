-- The steps of transactions keep what is kept.
use Rattle.std.proofs.Common.{◌≡◌, ◌≢◌, ℕ, ◌+◌, ◌⊎◌, List, Option, Some, None, refl, sym, ap, subst, ◌∙◌, inl, inr, arith}
use Rattle.mp_machine.specs.Lists.{IsIn, pushed}
use Rattle.mp_machine.proofs.Lists.{in_pushed, in_more, each_pushed}
use Rattle.mp_model.specs.declared.ids.TrxId.{TrxId}
use Rattle.mp_histories.proofs.Lists.{some_same}
use Rattle.mp_core_trx.specs.declared.slot.Shown.{Shown}
use Rattle.mp_core_trx.specs.declared.slot.SlotTag.TheVariants.{Free, Active, Prep, Committed}
use Rattle.mp_core_trx.specs.declared.part.Begun.{Begun}
use Rattle.mp_core_trx.specs.declared.part.Draw.{Draw}
use Rattle.mp_core_trx.specs.declared.part.SlotRow.{SlotRow}
use Rattle.mp_core_trx.specs.declared.event.TrxEvent.{TrxEvent}
use Rattle.mp_core_trx.specs.declared.event.TrxEvent.TheVariants.{LoadTso, StoreActive, StorePrep, DrawTso, StoreEnd, LoadTit}
use Rattle.mp_core_trx.specs.Words.{tag_number, shows, shown_of, word_showing}
use Rattle.mp_core_trx.specs.Parts.{begun_of, draw_of, unused, shown_at, HasBegun, Shows, newest}
use Rattle.mp_core_trx.specs.Events.{ended, slot_row, load_of, trx_node_of, MayStoreActive}
use Rattle.mp_core_trx.specs.World.{trx_after, tso_after, begun_in, slot_rows_in, drawn_in, loaded_in}
use Rattle.mp_core_trx.proofs.Frames.{begun_after, begun_are, rows_after, rows_are, drawn_after, drawn_are, loaded_after, loaded_are}
use Rattle.mp_core_trx.proofs.Ids.{begun_more, begun_cases}
use Rattle.mp_core_trx.proofs.SlotWords.{two_tags, shown_pushed, one_slot}
use Rattle.mp_core_trx.proofs.Words.{shown_again}
use Rattle.mp_core_trx.proofs.Reliable.{version_fits}
use Rattle.mp_histories.specs.Histories.{Version, by_version, ops_on, live_on}
use Rattle.mp_histories.proofs.MoreStamps.{fits_more}
use Rattle.mp_core.specs.declared.opening.CoreOpening.{CoreOpening}
use Rattle.mp_core.specs.declared.event.CoreEvent.TheVariants.{Trx}
use Rattle.mp_core.specs.OwnMtrs.{TrxMtr, trx_mtrs, owner_of}
use Rattle.mp_core.specs.World.{CoreWorld, core_after, core_part, CoreAllowed}
use Rattle.mp_core.specs.Invariant.{NumbersFit, CoreInv}
use Rattle.mp_facts.specs.Facts.{opening_pages}
use Rattle.mp_facts.proofs.LiveSteps.{all_in, all_of_in}
use Rattle.mp_facts.proofs.Nobody.{owner_made, no_former}
use Rattle.mp_facts.proofs.WriteSteps.{are_stamps}
use Rattle.mp_facts.proofs.Joint.{EndedStays, EndedStay, DurableStamp, DrawnStamp, KeysFit, ShowsOpen, NotOwned, OwnKeys, LiveWriters, PutsLater, Holds, Joint}

-- the transactions' components after an event
abbrev HoldsAfter : CoreOpening → CoreWorld → TrxEvent → Type 0
HoldsAfter o w e = Holds o (tso_after e w.trx.tso) (begun_after w.trx e) (rows_after w.trx e) (drawn_after w.trx e) (loaded_after w.trx e) w.pages.history w.pages.made w.pages.durables w.pages.given

of_components : (o : CoreOpening) (w : CoreWorld) (e : TrxEvent) → HoldsAfter o w e → Joint o (core_after w (Trx e))
of_components o w e h =
    let v = trx_after w.trx e in
    let tso = tso_after e w.trx.tso in
    subst (λ x. Holds o tso (begun_in v) (slot_rows_in v) (drawn_in v) x w.pages.history w.pages.made w.pages.durables w.pages.given) (sym (loaded_are w.trx e))
    (subst (λ x. Holds o tso (begun_in v) (slot_rows_in v) x (loaded_after w.trx e) w.pages.history w.pages.made w.pages.durables w.pages.given) (sym (drawn_are w.trx e))
    (subst (λ x. Holds o tso (begun_in v) x (drawn_after w.trx e) (loaded_after w.trx e) w.pages.history w.pages.made w.pages.durables w.pages.given) (sym (rows_are w.trx e))
    (subst (λ x. Holds o tso x (rows_after w.trx e) (drawn_after w.trx e) (loaded_after w.trx e) w.pages.history w.pages.made w.pages.durables w.pages.given) (sym (begun_are w.trx e)) h)))

module _ (o : CoreOpening) (fair : NumbersFit o) (w : CoreWorld) (i : CoreInv o w) (j : Joint o w) where
  abbrev begun : ℕ → List Begun
  begun = begun_in w.trx

  abbrev rows : ℕ → List SlotRow
  rows = slot_rows_in w.trx

  -- a slot that showed the end of a transaction is not stored in again
  ended_store : (n : ℕ) (id : TrxId) (x : Shown) → (shown_at (rows n) id.slot ≡ unused) ⊎ ((tag_number (shown_at (rows n) id.slot).tag ≡ 1) ⊎ (tag_number (shown_at (rows n) id.slot).tag ≡ 2)) → EndedStay (pushed rows n (slot_row id x)) (loaded_in w.trx)
  ended_store n id x now k l has not_active not_prep = elim (j.ended k l has not_active not_prep) [
    | inl none ↦ inl none
    | inr still ↦ elim (shown_pushed rows n (slot_row id x) l.of l.slot) [
      | inl here ↦
          let was : shown_at (rows n) id.slot ≡ shown_of l.word = ap (λ (k : ℕ). shown_at (rows k) id.slot) (sym here.0) ∙ ap (λ (s : ℕ). shown_at (rows l.of) s) (sym here.1) ∙ still in
          elim now [
            | inl free ↦ inl (sym was ∙ free)
            | inr (inl active) ↦ absurd (not_active (ap (λ (y : Shown). tag_number y.tag) (sym was) ∙ active))
            | inr (inr prep) ↦ absurd (not_prep (ap (λ (y : Shown). tag_number y.tag) (sym was) ∙ prep))
          ]
      | inr same ↦ inr (same ∙ still)
    ]
  ]

  ended_load : (n whose slot : ℕ) → EndedStay rows (pushed (loaded_in w.trx) n (load_of whose slot (word_showing (shown_at (rows whose) slot)) (newest (w.trx.part n))))
  ended_load n whose slot = each_pushed (λ k l. EndedStays rows l) (loaded_in w.trx) n (load_of whose slot (word_showing (shown_at (rows whose) slot)) (newest (w.trx.part n))) j.ended
      (λ not_active not_prep. inr (sym (shown_again (shown_at (rows whose) slot) (version_fits o.trx fair.trx begun i.trx.ids (drawn_in w.trx whose) whose slot (shown_at (rows whose) slot) (i.trx.slots whose slot)))))

  -- ---- stores in the slot of a transaction that is open
  module _ (n : ℕ) (id : TrxId) (has : HasBegun (begun n) id) (shown : ShowsOpen (rows n) id) (x : Shown) where
    own_node : id.node ≡ n
    own_node = i.trx.ids.own n (begun_of id has.0) has.1

    -- the one that has this slot
    in_slot : (other : TrxId) → HasBegun (begun other.node) other → other.node ≡ n → other.slot ≡ id.slot → other ≡ id
    in_slot other began node slot = one_slot o.trx begun rows i.trx.ids i.trx.once n other id (subst (λ (k : ℕ). HasBegun (begun k) other) node began) has slot

    open_here : ShowsOpen (rows id.node) id
    open_here = subst (λ (k : ℕ). ShowsOpen (rows k) id) (sym own_node) shown

    open_before : (other : TrxId) → HasBegun (begun other.node) other → ShowsOpen (pushed rows n (slot_row id x) other.node) other → ShowsOpen (rows other.node) other
    open_before other began is_open = elim (shown_pushed rows n (slot_row id x) other.node other.slot) [
      | inl here ↦ subst (λ (y : TrxId). ShowsOpen (rows y.node) y) (sym (in_slot other began here.0 here.1)) open_here
      | inr same ↦ elim is_open [
        | inl active ↦ inl (sym same ∙ active)
        | inr prep ↦ inr (sym same ∙ prep)
      ]
    ]

    own_store : OwnKeys (opening_pages o) w.pages.history w.pages.made begun (pushed rows n (slot_row id x))
    own_store other key began is_open = j.own other key began (open_before other began is_open)

    now_open : (tag_number (shown_at (rows n) id.slot).tag ≡ 1) ⊎ (tag_number (shown_at (rows n) id.slot).tag ≡ 2)
    now_open = elim shown [
      | inl active ↦ inl (ap (λ (y : Shown). tag_number y.tag) active)
      | inr prep ↦ inr (ap (λ (y : Shown). tag_number y.tag) prep)
    ]

    -- where the transaction isn't freed, or has no version
    writers_store : ((key : ℕ) (v : Version) → IsIn v (live_on key w.pages.history) → v.row.writer ≡ Some id → ¬ (x ≡ shows Free id.version 0)) → LiveWriters w.pages.history begun (pushed rows n (slot_row id x))
    writers_store kept key v other standing by =
        let was = j.writers key v other standing by in (
          was.0,
          elim (shown_pushed rows n (slot_row id x) other.node other.slot) [
            | inl here ↦
                let same : other ≡ id = in_slot other was.0 here.0 here.1 in
                λ free. kept key v standing (by ∙ ap (λ (y : TrxId). Some y) same) (sym here.2 ∙ free ∙ ap (λ (y : TrxId). shows Free y.version 0) same)
            | inr same ↦ λ free. was.1 (sym same ∙ free)
          ],
        )

  store_prep : (n : ℕ) (id : TrxId) → HasBegun (begun n) id → Shows (rows n) id Active → HoldsAfter o w (StorePrep n id)
  store_prep n id has active = record {
    of_begun = j.of_begun;
    kinds = j.kinds;
    commits = j.commits;
    last = j.last;
    ended = ended_store n id (shows Prep id.version 0) (inr (now_open n id has (inl active) (shows Prep id.version 0)));
    runs = j.runs;
    fits = j.fits;
    own = own_store n id has (inl active) (shows Prep id.version 0);
    writers = writers_store n id has (inl active) (shows Prep id.version 0) (λ key v standing by. λ free. two_tags (shows Prep id.version 0) (shows Free id.version 0) free (λ e. absurd (omega (arith, e))));
    covers = j.covers;
    put_back = j.put_back;
    known = j.known;
    later = j.later;
    leaf_puts = j.leaf_puts;
    shown = j.shown;
  }

  store_end : (n : ℕ) (id : TrxId) (cts : Option ℕ) → HasBegun (begun n) id → ShowsOpen (rows n) id → ((key : ℕ) (v : Version) → IsIn v (live_on key w.pages.history) → v.row.writer ≡ Some id → ¬ (ended id cts ≡ shows Free id.version 0)) → HoldsAfter o w (StoreEnd n id cts)
  store_end n id cts has shown kept = record {
    of_begun = j.of_begun;
    kinds = j.kinds;
    commits = j.commits;
    last = j.last;
    ended = ended_store n id (ended id cts) (inr (now_open n id has shown (ended id cts)));
    runs = j.runs;
    fits = j.fits;
    own = own_store n id has shown (ended id cts);
    writers = writers_store n id has shown (ended id cts) kept;
    covers = j.covers;
    put_back = j.put_back;
    known = j.known;
    later = j.later;
    leaf_puts = j.leaf_puts;
    shown = j.shown;
  }

  -- who owns no key has no version
  no_version : (n : ℕ) (id : TrxId) → HasBegun (begun n) id → ShowsOpen (rows n) id → ((key : ℕ) → owner_of (w.pages.made n) key ≡ Some id → ⊥) → (key : ℕ) (v : Version) → IsIn v (live_on key w.pages.history) → v.row.writer ≡ Some id → ⊥
  no_version n id has shown none key v standing by =
      let node : id.node ≡ n = i.trx.ids.own n (begun_of id has.0) has.1 in
      elim (j.own id key (subst (λ (k : ℕ). HasBegun (begun k) id) (sym node) has) (subst (λ (k : ℕ). ShowsOpen (rows k) id) (sym node) shown)) [
        | inl own ↦ none key (ap (λ (k : ℕ). owner_of (w.pages.made k) key) (sym node) ∙ own.owner)
        | inr other ↦ all_in (λ (x : Version). x.row.writer ≢ Some id) (live_on key w.pages.history) other.none v standing by
      ]

  -- ---- a transaction begins
  module _ (n : ℕ) (id : TrxId) (may : MayStoreActive (w.trx.part n) n id) where
    abbrev one_more : Begun
    one_more = begun_of id (newest (w.trx.part n))

    abbrev active_row : SlotRow
    active_row = slot_row id (shows Active id.version 0)

    not_begun : HasBegun (begun n) id → ⊥
    not_begun has = may.fresh (begun_of id has.0) has.1 refl

    nobody : (t : TrxMtr) → IsIn t (trx_mtrs (w.pages.made n)) → t.of ≢ Some id
    nobody t has = λ (of : t.of ≡ Some id).
        let its = j.of_begun n t has in
        not_begun (subst (λ (x : TrxId). HasBegun (begun n) x) (some_same its.0 id (sym its.1 ∙ of)) its.3)

    new_key : (key : ℕ) → NotOwned w.pages.history (w.pages.made n) id key
    new_key key = record {
      owner = λ is. let t = owner_made (w.pages.made n) id key is in nobody t.0 t.1 t.2;
      none = all_of_in (λ (x : Version). x.row.writer ≢ Some id) (live_on key w.pages.history) (λ v standing. λ (by : v.row.writer ≡ Some id).
          not_begun (subst (λ (k : ℕ). HasBegun (begun k) id) may.own (j.writers key v id standing by).0));
      former = no_former (w.pages.made n) id key nobody;
    }

    -- who began before has another slot
    else_slot : (other : TrxId) → HasBegun (begun other.node) other → other.node ≡ n → other.slot ≡ id.slot → ⊥
    else_slot other has node slot =
        let version : (shown_at (rows other.node) other.slot).version ≡ other.version = i.trx.once other.node other has in
        let zero : (shown_at (rows other.node) other.slot).version ≡ 0 = ap (λ (k : ℕ). (shown_at (rows k) other.slot).version) node ∙ ap (λ (s : ℕ). (shown_at (rows n) s).version) slot ∙ ap (λ (y : Shown). y.version) may.usable in
        let above = (i.trx.ids.versions other.node (begun_of other has.0) has.1).0 in
        absurd (omega (arith, version, zero, above))

    stays_shown : (other : TrxId) → HasBegun (begun other.node) other → shown_at (pushed rows n active_row other.node) other.slot ≡ shown_at (rows other.node) other.slot
    stays_shown other has = elim (shown_pushed rows n active_row other.node other.slot) [
      | inl here ↦ absurd (else_slot other has here.0 here.1)
      | inr same ↦ same
    ]

    own_begin : OwnKeys (opening_pages o) w.pages.history w.pages.made (pushed begun n one_more) (pushed rows n active_row)
    own_begin other key has is_open = elim (begun_cases begun n one_more other.node other has) [
      | inl new ↦ inr (subst (λ (x : TrxId). NotOwned w.pages.history (w.pages.made x.node) x key) (sym new.1) (subst (λ (k : ℕ). NotOwned w.pages.history (w.pages.made k) id key) (sym may.own) (new_key key)))
      | inr old ↦ j.own other key old (elim is_open [
        | inl active ↦ inl (sym (stays_shown other old) ∙ active)
        | inr prep ↦ inr (sym (stays_shown other old) ∙ prep)
      ])
    ]

    writers_begin : LiveWriters w.pages.history (pushed begun n one_more) (pushed rows n active_row)
    writers_begin key v other standing by =
        let was = j.writers key v other standing by in
        (begun_more begun n one_more other.node other was.0, λ free. was.1 (sym (stays_shown other was.0) ∙ free))

    store_active : HoldsAfter o w (StoreActive n id)
    store_active = record {
      of_begun = λ k t has. let was = j.of_begun k t has in (was.0, was.1, was.2, begun_more begun n one_more k was.0 was.3);
      kinds = j.kinds;
      commits = j.commits;
      last = j.last;
      ended = ended_store n id (shows Active id.version 0) (inl may.usable);
      runs = j.runs;
      fits = j.fits;
      own = own_begin;
      writers = writers_begin;
      covers = j.covers;
      put_back = j.put_back;
      known = j.known;
      later = j.later;
      leaf_puts = j.leaf_puts;
      shown = j.shown;
    }

  -- ---- a draw: the next timestamp is above all that were drawn and known
  module _ (n : ℕ) (id : TrxId) where
    abbrev next_draw : Draw
    next_draw = draw_of id (w.trx.tso + 1)

    abbrev drew_then : ℕ → List Draw
    drew_then = pushed (drawn_in w.trx) n next_draw

    fits_draw : KeysFit o.trx.base.llsn w.pages.made w.pages.durables drew_then w.pages.history
    fits_draw key =
        fits_more (DurableStamp o.trx.base.llsn w.pages.made w.pages.durables) (DrawnStamp (drawn_in w.trx)) (DurableStamp o.trx.base.llsn w.pages.made w.pages.durables) (DrawnStamp drew_then) (λ writer cts has. has)
        (λ writer c drew. elim (in_pushed (drawn_in w.trx) n next_draw drew.0.node (draw_of drew.0 c) drew.2) [
          | inl new ↦ inr (λ other cts committed.
              let drawn = (are_stamps o w i j).drawn other cts committed in
              let within = (i.trx.draws.within drawn.0.node (draw_of drawn.0 cts) drawn.2).1 in
              let next : c ≡ w.trx.tso + 1 = ap (λ (d : Draw). d.cts) new.1 in
              omega (arith, within, next))
          | inr old ↦ inl (drew.0, drew.1, old)
        ])
        by_version (ops_on key w.pages.history) (j.fits key)

    later_draw : PutsLater w.pages.made drew_then w.pages.given
    later_draw k g has m t made row above is by cts of drawn = elim (in_pushed (drawn_in w.trx) n next_draw m (draw_of by cts) drawn) [
      | inl new ↦
          let known = (j.known k g has).1 in
          let next : cts ≡ w.trx.tso + 1 = ap (λ (d : Draw). d.cts) new.1 in
          omega (arith, known, next)
      | inr old ↦ j.later k g has m t made row above is by cts of old
    ]

    draw : HoldsAfter o w (DrawTso n id)
    draw = record {
      of_begun = j.of_begun;
      kinds = j.kinds;
      commits = λ k t by cts has told. let was = j.commits k t by cts has told in (was.0, in_more (drawn_in w.trx) n next_draw k (draw_of by cts) was.1);
      last = j.last;
      ended = j.ended;
      runs = j.runs;
      fits = fits_draw;
      own = j.own;
      writers = j.writers;
      covers = j.covers;
      put_back = j.put_back;
      known = λ k g has. let was = j.known k g has in (was.0, (let known = was.1 in omega (arith, known)));
      later = later_draw;
      leaf_puts = j.leaf_puts;
      shown = j.shown;
    }

  load_tit : (n whose slot : ℕ) → HoldsAfter o w (LoadTit n whose slot)
  load_tit n whose slot = record {
    of_begun = j.of_begun;
    kinds = j.kinds;
    commits = j.commits;
    last = j.last;
    ended = ended_load n whose slot;
    runs = j.runs;
    fits = j.fits;
    own = j.own;
    writers = j.writers;
    covers = j.covers;
    put_back = j.put_back;
    known = j.known;
    later = j.later;
    leaf_puts = j.leaf_puts;
    shown = j.shown;
  }

  holds_after : (e : TrxEvent) → CoreAllowed (core_part w (trx_node_of e)) (Trx e) → HoldsAfter o w e
  holds_after (LoadTso n) may = j
  holds_after (StoreActive n id) may = store_active n id may.0.1
  holds_after (StorePrep n id) may = store_prep n id may.0.1.0 may.0.1.1
  holds_after (DrawTso n id) may = draw n id
  holds_after (StoreEnd n id (Some cts)) may = store_end n id (Some cts) may.0.1.0.0 may.0.1.0.1 (λ key v standing by. λ free. two_tags (shows Committed id.version cts) (shows Free id.version 0) free (λ e. absurd (omega (arith, e))))
  holds_after (StoreEnd n id None) may = store_end n id None may.0.1.0.0 may.0.1.0.1 (λ key v standing by. λ free. no_version n id may.0.1.0.0 may.0.1.0.1 may.1 key v standing by)
  holds_after (LoadTit n whose slot) may = load_tit n whose slot

-- the step theorem for transactions
pub keeps_trx : (o : CoreOpening) → NumbersFit o → (w : CoreWorld) (e : TrxEvent) → CoreInv o w → Joint o w → CoreAllowed (core_part w (trx_node_of e)) (Trx e) → Joint o (core_after w (Trx e))
keeps_trx o fair w e i j may = of_components o w e (holds_after o fair w i j e may)
