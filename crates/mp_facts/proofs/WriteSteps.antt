-- One mtr more: the history goes on well made, puts fit still, and versions cover committed ones.
use Rattle.std.proofs.Common.{◌≡◌, ℕ, ◌^◌, ◌<◌, ◌⊎◌, true, List, ◌∷◌, length, Option, Some, None, is_some, sym, ap, subst, ◌∙◌, inl, inr, arith}
use Rattle.std.specs.List.{AllByRecursion}
use Rattle.mp_machine.specs.Lists.{IsIn}
use Rattle.mp_machine.proofs.Lists.{in_more}
use Rattle.mp_model.specs.declared.ids.TrxId.{TrxId}
use Rattle.mp_cells.specs.declared.records.Mtr.{Mtr}
use Rattle.mp_cells.specs.declared.rows.Row.{Row}
use Rattle.mp_cells.specs.Plans.{Plan, plan_of}
use Rattle.mp_cells.specs.Writes.{rows_put}
use Rattle.mp_histories.proofs.Lists.{some_same}
use Rattle.mp_core_trx.specs.declared.part.Draw.{Draw}
use Rattle.mp_core_trx.specs.declared.slot.Shown.{Shown}
use Rattle.mp_core_trx.specs.declared.slot.SlotTag.TheVariants.{Active, Committed}
use Rattle.mp_core_trx.specs.Words.{tag_number, shows, shown_of}
use Rattle.mp_core_trx.specs.Parts.{draw_of, shown_at, HasBegun, Shows}
use Rattle.mp_core_trx.specs.World.{begun_in, slot_rows_in, drawn_in, loaded_in}
use Rattle.mp_core_pages.specs.declared.part.Placed.{Placed}
use Rattle.mp_core_pages.specs.Histories.{placed}
use Rattle.mp_histories.specs.KeyOps.{Together}
use Rattle.mp_histories.specs.Commits.{MayCover, Includes, AreStamps}
use Rattle.mp_histories.specs.Histories.{by_version, ops_on, live_on}
use Rattle.mp_histories.specs.Chains.{row_of_key, MakesCommit, WellMade, CoversRows}
use Rattle.mp_histories.proofs.WriterSteps.{fits_step}
use Rattle.mp_histories.proofs.MoreStamps.{fits_more}
use Rattle.mp_histories.proofs.Live.{together_live}
use Rattle.mp_histories.proofs.Falling.{fit_orderly}
use Rattle.mp_core_trx.proofs.Timestamps.{one_timestamp}
use Rattle.mp_core.specs.declared.opening.CoreOpening.{CoreOpening}
use Rattle.mp_core.specs.Commits.{HasDurableRecord}
use Rattle.mp_core.specs.MtrKinds.{SawCommitted}
use Rattle.mp_core.specs.OwnMtrs.{commit_told, commit_by_mtr, TrxMtr, trx_mtrs}
use Rattle.mp_core.specs.World.{CoreWorld, core_part}
use Rattle.mp_core.specs.Invariant.{NumbersFit, CoreInv}
use Rattle.mp_facts.specs.Facts.{opening_pages, pages_now}
use Rattle.mp_facts.proofs.MadeLists.{with_next, as_made}
use Rattle.mp_facts.proofs.Entries.{stands_at}
use Rattle.mp_facts.proofs.MtrShapes.{commit_alone}
use Rattle.mp_facts.proofs.NewMtrs.{NewPut, NewRestore, NewMtr}
use Rattle.mp_facts.proofs.Joint.{Joint, EndedStay, CommitsDrew, Owned, OwnKey, DurableStamp, DrawnStamp, KeysFit}

-- what an mtr that tells a commit makes
pub makes_commit : (m : Mtr) (d : Draw) → commit_by_mtr m ≡ Some d → MakesCommit m
makes_commit m d told = record { id = d.id; cts = d.cts; alone = commit_alone m.records d told }

module _ (o : CoreOpening) (w : CoreWorld) (i : CoreInv o w) where
  -- who was seen committed is so still
  pub still_committed : EndedStay (slot_rows_in w.trx) (loaded_in w.trx) → (n : ℕ) (other : TrxId) (saw : SawCommitted (core_part w n) other) → shown_at (slot_rows_in w.trx other.node) other.slot ≡ shows Committed other.version saw.cts
  still_committed ended n other saw =
      let tag : tag_number (shown_of saw.load.word).tag ≡ 3 = ap (λ (x : Shown). tag_number x.tag) saw.showed in
      elim (ended n saw.load saw.loaded (λ e. absurd (omega (arith, e, tag))) (λ e. absurd (omega (arith, e, tag)))) [
        | inl none ↦ absurd (let free : tag_number (shown_of saw.load.word).tag ≡ 0 = ap (λ (x : Shown). tag_number x.tag) none in omega (arith, free, tag))
        | inr still ↦ ap (λ (k : ℕ). shown_at (slot_rows_in w.trx other.node) k) (sym saw.slot) ∙ ap (λ (k : ℕ). shown_at (slot_rows_in w.trx k) saw.load.slot) (sym saw.of) ∙ still ∙ saw.showed
      ]

  -- and the record of it is durable
  pub seen_durable : EndedStay (slot_rows_in w.trx) (loaded_in w.trx) → (n : ℕ) (other : TrxId) (saw : SawCommitted (core_part w n) other) → HasDurableRecord o.trx.base.llsn (w.pages.made other.node) (w.pages.durables other.node) other saw.cts
  seen_durable ended n other saw = i.records other.node other.slot other.version saw.cts (still_committed ended n other saw)

  -- a durable record came before
  pub record_before : CommitsDrew (drawn_in w.trx) w.pages.made → (id : TrxId) (cts : ℕ) → HasDurableRecord o.trx.base.llsn (w.pages.made id.node) (w.pages.durables id.node) id cts
      → (t : TrxMtr) × IsIn t (trx_mtrs (w.pages.made id.node)) × (is_some (commit_by_mtr t.mtr) ≡ true) × (t.of ≡ Some id) × (t.at < length w.pages.history)
  record_before commits id cts r =
      let t = as_made (w.pages.made id.node) r.commit r.is_made in
      let told : commit_by_mtr t.0.mtr ≡ Some (draw_of id cts) = ap (λ (x : Mtr). commit_by_mtr x) t.3 ∙ ap commit_told r.records in
      let stands = stands_at id.node w.pages.history r.commit (subst (λ (l : List (Placed Mtr)). IsIn r.commit l) (i.pages.mtr_history.own id.node) r.is_made) in
      (t.0, t.1, ap (λ (x : Option Draw). is_some x) told, (commits id.node t.0 id cts t.1 told).0, (let before = stands.before in let at = t.2 in omega (arith, before, at)))

module _ (o : CoreOpening) (w : CoreWorld) (i : CoreInv o w) (j : Joint o w) where
  -- who committed drew, and who drew did so once
  pub are_stamps : AreStamps (DurableStamp o.trx.base.llsn w.pages.made w.pages.durables) (DrawnStamp (drawn_in w.trx))
  are_stamps = record {
    drawn = λ writer cts has.
        let t = as_made (w.pages.made has.0.node) has.2.commit has.2.is_made in
        (has.0, has.1, (j.commits has.0.node t.0 has.0 cts t.1 (ap (λ (x : Mtr). commit_by_mtr x) t.3 ∙ ap commit_told has.2.records)).1);
    once = λ writer a b one other.
        one_timestamp (begun_in w.trx) (drawn_in w.trx) i.trx.drawers one.0.node one.0 a b one.2
        (subst (λ (x : TrxId). IsIn (draw_of x b) (drawn_in w.trx x.node)) (some_same other.0 one.0 (sym other.1 ∙ one.1)) other.2);
  }

  -- the versions of each writer stand together
  pub stand_together : (key : ℕ) → Together by_version (live_on key w.pages.history)
  stand_together key = together_live by_version (ops_on key w.pages.history)
      (fit_orderly by_version (DurableStamp o.trx.base.llsn w.pages.made w.pages.durables) (DrawnStamp (drawn_in w.trx)) are_stamps (ops_on key w.pages.history) (j.fits key))

module _ (o : CoreOpening) (fair : NumbersFit o) (w : CoreWorld) (i : CoreInv o w) (j : Joint o w) (n : ℕ) (m : Mtr) (new : NewMtr o w n m) where
  abbrev pub after : ℕ → List (Placed Mtr)
  after = with_next w.pages.made n (length w.pages.history) m

  -- the state of a restored key
  pub restored_own : (p : NewRestore o w n m) → Owned (opening_pages o) w.pages.history (w.pages.made n) p.id p.row.key
  restored_own p =
      let state : OwnKey (opening_pages o) w.pages.history (w.pages.made n) p.id p.row.key =
      subst (λ (k : ℕ). OwnKey (opening_pages o) w.pages.history (w.pages.made k) p.id p.row.key) p.own
      (j.own p.id p.row.key (subst (λ (k : ℕ). HasBegun (begun_in w.trx k) p.id) (sym p.own) p.begun) (inl (subst (λ (k : ℕ). Shows (slot_rows_in w.trx k) p.id Active) (sym p.own) p.active))) in
      elim state [
        | inl owned ↦ owned
        | inr other ↦ absurd (other.owner p.owner)
      ]

  pub well_made : m.llsn < 2 ^ 62 → WellMade (opening_pages o) w.pages.history m
  well_made llsn = record {
    llsn = llsn;
    kind = elim new [
      | inl p ↦ inl (record { row = p.row; writer = ap (λ (x : Option TrxId). is_some x) p.by; well = p.well; no_commit = p.no_commit })
      | inr (inl p) ↦ inr (inl (record { row = p.row; well = p.well; former = some_same _ _ (sym p.former ∙ (restored_own p).former); no_commit = p.no_commit }))
      | inr (inr p) ↦ inr (inr (makes_commit m (draw_of p.id p.cts) p.shape.commit))
    ];
  }

  -- a put comes over what it may cover
  put_covers : (p : NewPut o w n m) → (p.kept.writer ≡ None) ⊎ MayCover (DurableStamp o.trx.base.llsn w.pages.made w.pages.durables) (DrawnStamp (drawn_in w.trx)) p.kept.writer p.row.writer
  put_covers p = elim p.over [
    | inl none ↦ inl none
    | inr (inl own) ↦ inr (inl (own ∙ sym p.by))
    | inr (inr saw) ↦ inr (inr (record {
      cts = saw.2.cts;
      commit = (saw.0, saw.1, seen_durable o w i j.ended n saw.0 saw.2);
      lower = λ c drew. absurd (none_drawn (drew.0) c (some_same _ _ (sym drew.1 ∙ p.by)) drew.2);
    }))
  ]
    where
      none_drawn : (id : TrxId) (c : ℕ) → id ≡ p.id → IsIn (draw_of id c) (drawn_in w.trx id.node) → ⊥
      none_drawn id c same drew = p.drew_nothing c (subst (λ (k : ℕ). IsIn (draw_of p.id c) (drawn_in w.trx k)) p.own (subst (λ (x : TrxId). IsIn (draw_of x c) (drawn_in w.trx x.node)) same drew))

  abbrev Covered : Row → Type 0
  Covered row = ((row_of_key (pages_now o w) row.key).writer ≡ None) ⊎ MayCover (DurableStamp o.trx.base.llsn w.pages.made w.pages.durables) (DrawnStamp (drawn_in w.trx)) (row_of_key (pages_now o w) row.key).writer row.writer

  covers_rows : CoversRows (DurableStamp o.trx.base.llsn w.pages.made w.pages.durables) (DrawnStamp (drawn_in w.trx)) (pages_now o w) m
  covers_rows = elim new [
    | inl p ↦ subst (AllByRecursion Covered) (sym p.well.puts) (subst (λ (r : Row). (r.writer ≡ None) ⊎ MayCover (DurableStamp o.trx.base.llsn w.pages.made w.pages.durables) (DrawnStamp (drawn_in w.trx)) r.writer p.row.writer) p.replaced (put_covers p), tt)
    | inr (inl p) ↦ subst (AllByRecursion Covered) (sym (ap (λ (plan : Plan). rows_put plan) p.one)) tt
    | inr (inr p) ↦ subst (AllByRecursion Covered) (sym (ap (λ (plan : Plan). rows_put plan) (ap plan_of (makes_commit m (draw_of p.id p.cts) p.shape.commit).alone))) tt
  ]

  more_records : Includes (DurableStamp o.trx.base.llsn w.pages.made w.pages.durables) (DurableStamp o.trx.base.llsn after w.pages.durables)
  more_records writer cts has = (has.0, has.1, record { commit = has.2.commit; is_made = in_more w.pages.made n (placed (length w.pages.history) m) has.0.node has.2.commit has.2.is_made; records = has.2.records; durable = has.2.durable })

  pub fits_made : m.llsn < 2 ^ 62 → KeysFit o.trx.base.llsn after w.pages.durables (drawn_in w.trx) (m ∷ w.pages.history)
  fits_made llsn key =
      fits_more (DurableStamp o.trx.base.llsn w.pages.made w.pages.durables) (DrawnStamp (drawn_in w.trx)) (DurableStamp o.trx.base.llsn after w.pages.durables) (DrawnStamp (drawn_in w.trx)) more_records (λ writer c drew. inl drew) by_version (ops_on key (m ∷ w.pages.history))
      (fits_step (DurableStamp o.trx.base.llsn w.pages.made w.pages.durables) (DrawnStamp (drawn_in w.trx)) o.trx.base.llsn (opening_pages o) fair.clean w.pages.history m (well_made llsn, j.runs) covers_rows key (j.fits key))
