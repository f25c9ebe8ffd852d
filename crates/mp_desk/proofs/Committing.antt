-- What the steps of a commit leave of the primary's part.
use Rattle.std.proofs.Common.{if◌then◌else◌, ◌≡◌, ◌≢◌, ℕ, ◌+◌, ◌<◌, ◌≤◌, ◌⊎◌, List, [], ◌∷◌, length, None, Some, refl, sym, ap, subst, ◌∙◌, inl, inr, ⊎_elim, arith, eq-eqb}
use Rattle.mp_machine.specs.Lists.{IsIn}
use Rattle.mp_machine.specs.View.{part_in}
use Rattle.mp_model.specs.declared.ids.TrxId.{TrxId}
use Rattle.mp_cells.specs.declared.records.Mtr.{Mtr}
use Rattle.mp_core_trx.specs.declared.opening.TrxOpening.{TrxOpening}
use Rattle.mp_core_trx.specs.declared.part.Begun.{Begun}
use Rattle.mp_core_trx.specs.declared.part.SlotRow.{SlotRow}
use Rattle.mp_core_trx.specs.declared.part.TrxPart.{TrxPart}
use Rattle.mp_core_trx.specs.declared.slot.Shown.{Shown}
use Rattle.mp_core_trx.specs.declared.slot.SlotTag.TheVariants.{Active, Prep, Committed}
use Rattle.mp_core_trx.specs.Events.{IsNode, slot_row, with_prep, with_draw, with_end}
use Rattle.mp_core_trx.specs.declared.event.TrxEvent.TheVariants.{StorePrep, StoreEnd}
use Rattle.mp_core_trx.specs.Parts.{PartExtends, draw_of, shown_at, HasDrawnNothing, IsOpen, Shows, newest}
use Rattle.mp_core_trx.specs.Words.{shows}
use Rattle.mp_core_pages.specs.declared.part.Placed.{Placed}
use Rattle.mp_core_pages.specs.PageInvariant.{Ascends}
use Rattle.mp_core_pages.specs.PageParts.{last_llsn, held_at}
use Rattle.mp_core_pages.proofs.Choices.{if_differs}
use Rattle.mp_core.specs.declared.part.CorePart.{CorePart}
use Rattle.mp_core.specs.declared.event.CoreEvent.TheVariants.{Trx}
use Rattle.mp_core.specs.Commits.{HasDurableRecord}
use Rattle.mp_core.specs.Contents.{page_ops}
use Rattle.mp_core.specs.CoreExtends.{durable_of, CoreExtends}
use Rattle.mp_core.specs.OwnMtrs.{row_put_by, row_restored_by, commit_by_mtr, first_former, trx_of_mtr, TrxMtr, trx_mtrs}
use Rattle.mp_core.specs.MtrKinds.{MayRecordCommit}
use Rattle.mp_facts.proofs.MtrShapes.{commit_alone}
use Rattle.mp_outside.specs.declared.disks.Disk.{Ghosts}
use Rattle.mp_shared.specs.Nodes.{Run, NodeView, HoldsPart, HoldsAll, MayTake, Reached}
use Rattle.mp_shared.proofs.Holding.{held_part, holds_the_part}
use Rattle.mp_trx_fusion.specs.Calls.{with_trx, KnowsLess, tso_of}
use Rattle.mp_trx_fusion.proofs.Callers.{drew_nothing}
use Rattle.mp_buffer_fusion.proofs.Visiting.{one_part, held_is}
use Rattle.mp_supports.specs.Work.{Work}
use Rattle.mp_supports.specs.Supports.{no_trace, commit_trace}
use Rattle.mp_supports.specs.Agreement.{last_made_llsn}
use Rattle.mp_supports.specs.Kept.{lasting, Did}
use Rattle.mp_supports.specs.Steps.{MadeOne, Forced, trx_mtr_of}
use Rattle.mp_supports.proofs.Classes.{did_forced, did_trx, did_draw, did_make, did_then, did_after, did_commit}
use Rattle.mp_supports.proofs.Extending.{core_extends_refl, core_extends_trans, made_in, drawn_in, placed_of}
use Rattle.mp_supports.proofs.Unchanged.{former_neither}
use Rattle.mp_desk.specs.declared.desk.Desk.{Desk}
use Rattle.mp_desk.specs.declared.media.Media.{Media}
use Rattle.mp_desk.specs.Desks.{Moves, IsAtDesk, KeepsLocks}
use Rattle.mp_desk.specs.Making.{MediaAgree, mtr_of_commit, AllForced, SomeForced}
use Rattle.mp_desk.specs.Statements.{IsReader, ReadsIn}
use Rattle.mp_desk.specs.Writes.{CommitsAt, IsPublished, IsInTheBalance}
use Rattle.mp_desk.proofs.ReachedFacts.{KnownWorld, known_world}
use Rattle.mp_desk.proofs.Moving.{moves_both, moves_as, locks_same, locks_both}
use Rattle.mp_desk.proofs.LoadedWords.{view_known}
use Rattle.mp_desk.proofs.ForcedMedia.{forced_extends as all_forced_extends, durable_below}
use Rattle.mp_desk.proofs.GivenBack.{part_ascends}
use Rattle.mp_desk.proofs.TrxStepped.{trx_changed, trx_step, extends_prep, extends_draw, extends_end, trx_there, moves_trx, trx_locks, trx_at_desk, trx_media, knows_less_before, DrewTheSame, tso_same, holds_all}

-- ---- what a slot shows

pub shown_now : (id : TrxId) (x : Shown) (rows : List SlotRow) → shown_at (slot_row id x ∷ rows) id.slot ≡ x
shown_now id x rows = ap (λ b. if b then x else shown_at rows id.slot) (eq-eqb id.slot id.slot refl)

pub shown_else : (id : TrxId) (x : Shown) (rows : List SlotRow) (slot : ℕ) → slot ≢ id.slot → shown_at (slot_row id x ∷ rows) slot ≡ shown_at rows slot
shown_else id x rows slot other = if_differs slot id.slot x (shown_at rows slot) other

-- ---- before the commit began, and behind its record

module _ (trx : Begun) (cts : ℕ) where
  -- more became durable before it began
  module _ (q r s : CorePart) (llsn : ℕ) (forced : Forced llsn q r) where
    commits_forced : CommitsAt trx cts r s → CommitsAt trx cts q s
    commits_forced c = record {
      mtr = c.mtr;
      did = did_after q r s (commit_trace (draw_of trx.id cts) c.mtr) (did_forced q r llsn forced) c.did;
      recorded = c.recorded;
      begun = c.begun ∙ ap (λ (t : TrxPart). t.begun) forced.trx;
      counted = let count = c.counted in let same = ap (λ (l : List (Placed Mtr)). length l) forced.made in omega (arith, count, same);
      formers = λ id key. c.formers id key ∙ ap (λ (l : List (Placed Mtr)). first_former l id key) forced.made;
      other_slots = λ slot other. c.other_slots slot other ∙ ap (λ (t : TrxPart). shown_at t.rows slot) forced.trx;
      its = λ m there. ⊎_elim (λ old. inl (subst (λ (l : List (Placed Mtr)). IsIn m (trx_mtrs l)) forced.made old)) (λ new. inr new) (c.its m there);
    }

  pub balance_forced : (q r s : CorePart) → SomeForced q r → IsInTheBalance trx cts r s → IsInTheBalance trx cts q s
  unfolding commits_forced
  balance_forced q r s (inl same) b = subst (λ (x : CorePart). IsInTheBalance trx cts x s) same b
  balance_forced q r s (inr forced) b = record { commits = commits_forced q r s (last_made_llsn q) forced b.commits; not_durable = b.not_durable; shown = b.shown }

  -- what neither draws nor makes leaves the commit recorded
  module _ (q r s : CorePart) (e : CoreExtends r s) (begun : s.trx.begun ≡ r.trx.begun) (drew : s.trx.drew ≡ r.trx.drew) (made : s.pages.made ≡ r.pages.made)
      (slots : (slot : ℕ) → slot ≢ trx.id.slot → shown_at s.trx.rows slot ≡ shown_at r.trx.rows slot) where
    did_nothing : Did r s no_trace
    did_nothing = record {
      extends = e;
      traced = record { pages = tt; began = tt; drew = tt; mtr = tt };
      began = begun;
      drew = drew;
      made = ap (λ (l : List (Placed Mtr)). lasting (trx_mtrs l)) made;
      since = tt;
      later = tt;
    }

    commits_then : CommitsAt trx cts q r → CommitsAt trx cts q s
    commits_then c =
        let k = c.recorded in
        record {
          mtr = c.mtr;
          did = did_then q r s (commit_trace (draw_of trx.id cts) c.mtr) c.did did_nothing;
          recorded = record {
            above = k.above;
            drawn = drawn_in r s e (draw_of trx.id cts) k.drawn;
            was_made = made_in r s e c.mtr k.was_made;
            of = k.of;
            commit = k.commit;
            whole = λ m there. k.whole m (subst (λ (l : List (Placed Mtr)). IsIn m (trx_mtrs l)) made there);
          };
          begun = begun ∙ c.begun;
          counted = let count = c.counted in let same = ap (λ (l : List (Placed Mtr)). length l) made in omega (arith, count, same);
          formers = λ id key. ap (λ (l : List (Placed Mtr)). first_former l id key) made ∙ c.formers id key;
          other_slots = λ slot other. slots slot other ∙ c.other_slots slot other;
          its = λ m there. c.its m (subst (λ (l : List (Placed Mtr)). IsIn m (trx_mtrs l)) made there);
        }

-- ---- the record is made

-- of a prepared transaction that drew
abbrev prepared_part : TrxId → CorePart → CorePart
prepared_part id q = trx_changed (with_prep id) 1 q

abbrev pub drawn_part : TrxId → ℕ → CorePart → CorePart
drawn_part id cts q = trx_changed (with_draw id cts) 1 (prepared_part id q)

module _ (p : ℕ) (trx : Begun) (cts llsn : ℕ) (q r : CorePart) (reads : IsReader p trx q) (view : trx.view ≤ newest q.trx) (above : newest q.trx < cts) (below : durable_of q ≤ llsn)
    (x : Placed Mtr) (its : x.mtr ≡ mtr_of_commit p (llsn + 1) trx.id cts) (made : MadeOne x (drawn_part trx.id cts q) r) where
  abbrev id : TrxId
  id = trx.id

  abbrev m : TrxMtr
  m = trx_mtr_of (drawn_part id cts q) x

  none_back : row_restored_by x.mtr ≡ None
  none_back = ap (λ (y : Mtr). row_restored_by y) its

  commit_is : commit_by_mtr x.mtr ≡ Some (draw_of id cts)
  commit_is = ap (λ (y : Mtr). commit_by_mtr y) its

  its_trx : trx_of_mtr q.pages.made x.mtr ≡ Some id
  its_trx = ap (λ (y : Mtr). trx_of_mtr q.pages.made y) its

  all_mtrs : trx_mtrs r.pages.made ≡ m ∷ trx_mtrs q.pages.made
  all_mtrs = ap (λ (l : List (Placed Mtr)). trx_mtrs l) made.made

  is_new : (k : TrxMtr) → IsIn k (trx_mtrs r.pages.made) → IsIn k (trx_mtrs q.pages.made) ⊎ ((k ≡ m) × (row_restored_by m.mtr ≡ None))
  is_new k there = ⊎_elim (λ same. inr (same, none_back)) (λ old. inl old) (subst (λ (l : List TrxMtr). IsIn k l) all_mtrs there)

  did_it : Did q r (commit_trace (draw_of id cts) m)
  did_it =
      let one = prepared_part id q in
      let two = drawn_part id cts q in
      did_after q one r (commit_trace (draw_of id cts) m) (did_trx q one (trx_step q (with_prep id) 1 (extends_prep id q.trx)) refl refl)
      (did_commit one two r (draw_of id cts) m (did_draw one two (draw_of id cts) (trx_step one (with_draw id cts) 1 (extends_draw id cts one.trx)) refl refl) (did_make two r x made none_back))

  commits : CommitsAt trx cts q r
  commits = record {
    mtr = m;
    did = did_it;
    recorded = record {
      above = omega (arith, view, above);
      drawn = subst (λ (t : TrxPart). IsIn (draw_of id cts) t.drew) (sym made.trx) (inl refl);
      was_made = subst (λ (l : List TrxMtr). IsIn m l) (sym all_mtrs) (inl refl);
      of = its_trx;
      commit = commit_is;
      whole = λ k there of at. ⊎_elim (λ old. reads.whole k old of) (λ new. ap (λ (y : TrxMtr). row_restored_by y.mtr) new.0 ∙ new.1) (is_new k there);
    };
    begun = ap (λ (t : TrxPart). t.begun) made.trx;
    counted = let count = ap (λ (l : List (Placed Mtr)). length l) made.made in omega (arith, count);
    formers = λ of key. former_same of key;
    other_slots = λ slot other. ap (λ (t : TrxPart). shown_at t.rows slot) made.trx ∙ shown_else id (shows Prep id.version 0) q.trx.rows slot other;
    its = is_new;
  }
    where
      former_same : (of : TrxId) (key : ℕ) → first_former r.pages.made of key ≡ first_former q.pages.made of key
      former_same of key = former_neither q r x made.made (ap (λ (y : Mtr). row_put_by y) its) none_back (record { id = of; view = 0 }) key

  pub in_the_balance : IsInTheBalance trx cts q r
  unfolding commits
  in_the_balance = record {
    commits = commits;
    not_durable =
        let same : durable_of r ≡ durable_of q = ap (λ (o : TrxOpening). durable_of (record r { trx = record (r.trx) { opening = o } })) made.extends.trx.same_opening ∙ ap (λ l. durable_of (record q { pages = record (q.pages) { durables = l } })) made.durables in
        let its_llsn = ap (λ (y : Mtr). y.llsn) its in
        omega (arith, same, its_llsn, below);
    shown = ap (λ (t : TrxPart). shown_at t.rows id.slot) made.trx ∙ shown_now id (shows Prep id.version 0) q.trx.rows;
  }

-- ---- when each step may be taken

-- an mtr that was made, with its transaction
pub mtr_in : (made : List (Placed Mtr)) (x : Placed Mtr) → IsIn x made → (k : TrxMtr) × IsIn k (trx_mtrs made) × (k.mtr ≡ x.mtr)
mtr_in [] x there = absurd there
mtr_in (y ∷ made) x (inl same) = (record { at = y.at; of = trx_of_mtr made y.mtr; mtr = y.mtr }, inl refl, ap (λ (z : Placed Mtr). z.mtr) (sym same))
mtr_in (y ∷ made) x (inr there) = let rest = mtr_in made x there in (rest.0, inr rest.1, rest.2)

module _ (n : NodeView) (reached : Reached n) (p : ℕ) (trx : Begun) (q : CorePart) (has : part_in n.parts p ≡ Some q) (node : IsNode q.trx.opening p) (reads : IsReader p trx q) where
  abbrev known : KnownWorld n
  known = known_world n reached

  pub may_prepare : MayTake (Trx (StorePrep p trx.id)) n
  may_prepare = (q, has, ((node, ((trx.view, reads.begun), reads.active)), tt))

  nothing_drawn : HasDrawnNothing q.trx.drew trx.id
  unfolding may_prepare
  nothing_drawn = drew_nothing n p trx.id reached may_prepare

  no_commit_yet : (x : Placed Mtr) (c : ℕ) → IsIn x q.pages.made → commit_by_mtr x.mtr ≡ Some (draw_of trx.id c) → ⊥
  no_commit_yet x c there commit =
      let k = mtr_in q.pages.made x there in
      let in_world = subst (λ (r : CorePart). IsIn k.0 (trx_mtrs r.pages.made)) (sym (known.agrees p q has)) k.1 in
      let drawn = (known.facts.of_versions.commits p k.0 trx.id c in_world (ap (λ (y : Mtr). commit_by_mtr y) k.2 ∙ commit)).1 in
      nothing_drawn c (subst (λ (r : CorePart). IsIn (draw_of trx.id c) r.trx.drew) (known.agrees p q has) drawn)

  pub may_record : (llsn cts : ℕ) → MayRecordCommit (drawn_part trx.id cts q) (mtr_of_commit p llsn trx.id cts)
  may_record llsn cts = record {
    id = trx.id;
    cts = cts;
    records = refl;
    begun = (trx.view, reads.begun);
    prepared = shown_now trx.id (shows Prep trx.id.version 0) q.trx.rows;
    drawn = inl refl;
    first = no_commit_yet;
    whole = reads.whole;
  }

-- ---- the record is durable, and the slot shows the commit

made_below_last : (base : ℕ) (made : List (Placed Mtr)) (x : Placed Mtr) → Ascends page_ops base made → IsIn x made → x.mtr.llsn ≤ last_llsn page_ops base made
made_below_last base [] x up there = absurd there
made_below_last base (y ∷ made) x up (inl same) = let llsn = ap (λ (z : Placed Mtr). z.mtr.llsn) same in omega (arith, llsn)
made_below_last base (y ∷ made) x up (inr there) = let rest = made_below_last base made x up.1 there in let above = up.0 in omega (arith, rest, above)

all_forced_trx : (r s : CorePart) → AllForced r s → (s.trx ≡ r.trx) × (s.pages.made ≡ r.pages.made) × (s.pages.locks ≡ r.pages.locks)
all_forced_trx r s (durable, inl same) = (ap (λ (x : CorePart). x.trx) same, ap (λ (x : CorePart). x.pages.made) same, ap (λ (x : CorePart). x.pages.locks) same)
all_forced_trx r s (durable, inr forced) = (forced.trx, forced.made, forced.locks)

pub some_forced_trx : (r s : CorePart) → SomeForced r s → (s.trx ≡ r.trx) × (s.pages.locks ≡ r.pages.locks)
some_forced_trx r s (inl same) = (ap (λ (x : CorePart). x.trx) same, ap (λ (x : CorePart). x.pages.locks) same)
some_forced_trx r s (inr forced) = (forced.trx, forced.locks)

module _ (trx : Begun) (cts : ℕ) (q r s : CorePart) (balance : IsInTheBalance trx cts q r) (forced : AllForced r s) (up : Ascends page_ops s.trx.opening.base.llsn s.pages.made) where
  abbrev same : (s.trx ≡ r.trx) × (s.pages.made ≡ r.pages.made) × (s.pages.locks ≡ r.pages.locks)
  same = all_forced_trx r s forced

  abbrev c : CommitsAt trx cts q r
  c = balance.commits

  there_still : IsIn c.mtr (trx_mtrs s.pages.made)
  there_still = subst (λ (l : List (Placed Mtr)). IsIn c.mtr (trx_mtrs l)) (sym same.1) c.recorded.was_made

  record_durable : c.mtr.mtr.llsn ≤ durable_of s
  record_durable =
      let x = placed_of s.pages.made c.mtr there_still in
      let below = made_below_last s.trx.opening.base.llsn s.pages.made x.0 up x.1 in
      let llsn = ap (λ (y : Mtr). y.llsn) x.3 in
      let durable = forced.0 in
      omega (arith, below, llsn, durable)

  pub ends_in_log : HasDurableRecord s.trx.opening.base.llsn s.pages.made s.pages.durables trx.id cts
  ends_in_log =
      let x = placed_of s.pages.made c.mtr there_still in
      record {
        commit = x.0;
        is_made = x.1;
        records = commit_alone (x.0).mtr.records (draw_of trx.id cts) (ap (λ (y : Mtr). commit_by_mtr y) x.3 ∙ c.recorded.commit);
        durable = let llsn = ap (λ (y : Mtr). y.llsn) x.3 in let durable = record_durable in omega (arith, llsn, durable);
      }

  pub open_still : (p : ℕ) → IsReader p trx q → IsOpen s.trx trx.id
  open_still p reads = (
    (trx.view, subst (λ (l : List Begun). IsIn trx l) (sym (ap (λ (t : TrxPart). t.begun) same.0 ∙ c.begun)) reads.begun),
    inr (ap (λ (t : TrxPart). shown_at t.rows trx.id.slot) same.0 ∙ balance.shown),
  )

  pub drawn_still : IsIn (draw_of trx.id cts) s.trx.drew
  drawn_still = subst (λ (t : TrxPart). IsIn (draw_of trx.id cts) t.drew) (sym same.0) c.recorded.drawn

  abbrev pub published_part : CorePart
  published_part = trx_changed (with_end trx.id (Some cts)) 1 s

  pub published : IsPublished trx cts q published_part
  unfolding commits_then
  published = record {
    commits =
        commits_then trx cts q r published_part
        (core_extends_trans r s published_part (all_forced_extends r s forced) (trx_step s (with_end trx.id (Some cts)) 1 (extends_end trx.id (Some cts) s.trx)).extends)
        (ap (λ (t : TrxPart). t.begun) same.0) (ap (λ (t : TrxPart). t.drew) same.0) same.1
        (λ slot other. shown_else trx.id (shows Committed trx.id.version cts) s.trx.rows slot other ∙ ap (λ (t : TrxPart). shown_at t.rows slot) same.0)
        c;
    durable = record_durable;
    shown = shown_now trx.id (shows Committed trx.id.version cts) s.trx.rows;
  }

-- ---- nodes

pub kept_locks : (So : CorePart → CorePart → Type 0) → ((q r : CorePart) → So q r → r.pages.locks ≡ q.pages.locks) → (p : ℕ) (a b : NodeView) → HoldsPart a p → Moves So p a b → KeepsLocks p a b
kept_locks So same p a b held moves =
    let has = held_part a p held in
    let now = moves.mine has.0 has.1 in
    locks_same p a b (λ j. held_is b p j now.0 now.1 ∙ ap (λ rows. held_at rows j) (same has.0 now.0 now.2) ∙ sym (held_is a p j has.0 has.1))

pub some_forced_extends : (q r : CorePart) → SomeForced q r → CoreExtends q r
some_forced_extends q r (inl same) = subst (CoreExtends q) (sym same) (core_extends_refl q)
some_forced_extends q r (inr forced) = forced.extends

-- an open transaction of which more became durable
pub reads_forced : (p : ℕ) (trx : Begun) (q r : CorePart) → SomeForced q r → IsReader p trx q → IsReader p trx r
reads_forced p trx q r (inl same) reads = subst (IsReader p trx) (sym same) reads
reads_forced p trx q r (inr forced) reads = record {
  node = reads.node;
  begun = subst (λ (t : TrxPart). IsIn trx t.begun) (sym forced.trx) reads.begun;
  active = subst (λ (t : TrxPart). Shows t.rows trx.id Active) (sym forced.trx) reads.active;
  whole = subst (λ (l : List (Placed Mtr)). (m : TrxMtr) → IsIn m (trx_mtrs l) → m.of ≡ Some trx.id → row_restored_by m.mtr ≡ None) (sym forced.made) reads.whole;
}

module _ (p : ℕ) (a b : NodeView) (held : HoldsPart a p) (moves : Moves SomeForced p a b) where
  abbrev before : CorePart
  before = (held_part a p held).0

  abbrev now : (r : CorePart) × (part_in b.parts p ≡ Some r) × SomeForced before r × (r.downs ≡ before.downs)
  now = moves.mine before (held_part a p held).1

  pub reads_on : (trx : Begun) → ReadsIn p trx a → ReadsIn p trx b
  reads_on trx reads r there = subst (IsReader p trx) (one_part (part_in b.parts p) now.0 r now.1 there) (reads_forced p trx before now.0 now.2 (reads before (held_part a p held).1))

module _ (p : ℕ) (trx : Begun) (cts : ℕ) (a b c : NodeView) (held : HoldsPart a p) (reads : ReadsIn p trx a) (one : Moves (IsInTheBalance trx cts) p a b) (two : Moves AllForced p b c) (reached : Reached c) where
  abbrev q : CorePart
  q = (held_part a p held).0

  abbrev has : part_in a.parts p ≡ Some q
  has = (held_part a p held).1

  abbrev r : (x : CorePart) × (part_in b.parts p ≡ Some x) × IsInTheBalance trx cts q x × (x.downs ≡ q.downs)
  r = one.mine q has

  abbrev s : (x : CorePart) × (part_in c.parts p ≡ Some x) × AllForced r.0 x × (x.downs ≡ r.0.downs)
  s = two.mine r.0 r.1

  s_up : Ascends page_ops s.0.trx.opening.base.llsn s.0.pages.made
  s_up = part_ascends c reached p s.0 s.1

  s_node : IsNode s.0.trx.opening p
  s_node =
      let forced = all_forced_extends r.0 s.0 s.2 in
      subst (λ (o : TrxOpening). IsNode o p) (sym (forced.trx.same_opening ∙ r.2.commits.did.extends.trx.same_opening)) (held_part a p held).2

  pub may_publish : MayTake (Trx (StoreEnd p trx.id (Some cts))) c
  may_publish = (
    s.0,
    s.1,
    ((s_node, (open_still trx cts q r.0 s.0 r.2 s.2 s_up p (reads q has), drawn_still trx cts q r.0 s.0 r.2 s.2 s_up)), ends_in_log trx cts q r.0 s.0 r.2 s.2 s_up),
  )

  module _ (d : NodeView) (is : d ≡ with_trx c p (with_end trx.id (Some cts)) 1) where
    s_ends : PartExtends s.0.trx (with_end trx.id (Some cts) s.0.trx)
    s_ends = extends_end trx.id (Some cts) s.0.trx

    pub moves_published : Moves (IsPublished trx cts) p a d
    moves_published =
        let three = moves_trx p c d (with_end trx.id (Some cts)) 1 is s.0 s.1 s_ends (λ x y. Unit {0}) tt in
        record {
          run = three.run ∙ two.run ∙ one.run;
          frames = three.frames ∙ two.frames ∙ one.frames;
          others = λ k other. three.others k other ∙ two.others k other ∙ one.others k other;
          mine = λ x there.
              let same = one_part (part_in a.parts p) q x has there in (
                trx_changed (with_end trx.id (Some cts)) 1 s.0,
                trx_there p c d (with_end trx.id (Some cts)) 1 is s.0 s.1 s_ends,
                subst (λ (y : CorePart). IsPublished trx cts y (trx_changed (with_end trx.id (Some cts)) 1 s.0)) same (published trx cts q r.0 s.0 r.2 s.2 s_up),
                s.3 ∙ r.3 ∙ ap (λ (y : CorePart). y.downs) same,
              );
        }

    pub published_at_desk : (run : Run) (desk : Desk) → IsAtDesk run desk p c → Reached d → IsAtDesk run desk p d
    published_at_desk run desk at reached_d = trx_at_desk p c d (with_end trx.id (Some cts)) 1 is s.0 s.1 s_ends run desk at reached_d

    pub published_locks : KeepsLocks p c d
    published_locks = locks_same p c d (trx_locks p c d (with_end trx.id (Some cts)) 1 is s.0 s.1 s_ends)

    pub published_media : {D : Type 0} (g : Ghosts D) (work : Work) (media : Media D) → MediaAgree g work 0 media p c → MediaAgree g work 0 media p d
    published_media g work media agree = trx_media p c d (with_end trx.id (Some cts)) 1 is s.0 s.1 s_ends g work 0 media (holds_the_part c p s.0 s.1 s_node) agree

-- ---- the first steps, up to the record

module _ (run : Run) (desk : Desk) (p : ℕ) (trx : Begun) (cts : ℕ) (a b c : NodeView) (at : IsAtDesk run desk p a) (reads : ReadsIn p trx a)
    (is : b ≡ with_trx a p (with_prep trx.id) 1) (reached : Reached b) (then_is : c ≡ with_trx b p (with_draw trx.id cts) 1) (later : Reached c) (above : KnowsLess b p cts) where
  abbrev q0 : CorePart
  q0 = (held_part a p at.part).0

  abbrev has0 : part_in a.parts p ≡ Some q0
  has0 = (held_part a p at.part).1

  abbrev q1 : CorePart
  q1 = trx_changed (with_prep trx.id) 1 q0

  abbrev more0 : PartExtends q0.trx q1.trx
  more0 = extends_prep trx.id q0.trx

  has1 : part_in b.parts p ≡ Some q1
  has1 = trx_there p a b (with_prep trx.id) 1 is q0 has0 more0

  abbrev q2 : CorePart
  q2 = drawn_part trx.id cts q0

  abbrev more1 : PartExtends q1.trx q2.trx
  more1 = extends_draw trx.id cts q1.trx

  has2 : part_in c.parts p ≡ Some q2
  has2 = trx_there p b c (with_draw trx.id cts) 1 then_is q1 has1 more1

  pub drawn_at_desk : IsAtDesk run desk p c
  drawn_at_desk =
      trx_at_desk p b c (with_draw trx.id cts) 1 then_is q1 has1 more1 run desk
      (trx_at_desk p a b (with_prep trx.id) 1 is q0 has0 more0 run desk at reached) later

  drawn_locks : KeepsLocks p a c
  drawn_locks = locks_both p a b c (locks_same p a b (trx_locks p a b (with_prep trx.id) 1 is q0 has0 more0)) (locks_same p b c (trx_locks p b c (with_draw trx.id cts) 1 then_is q1 has1 more1))

  pub locks_recorded : (d : NodeView) → KeepsLocks p c d → KeepsLocks p a d
  locks_recorded d kept = locks_both p a c d drawn_locks kept

  pub drawn_may : (x : CorePart) → part_in c.parts p ≡ Some x → MayRecordCommit x (mtr_of_commit p (desk.llsn + 1) trx.id cts)
  drawn_may x there =
      subst (λ (y : CorePart). MayRecordCommit y (mtr_of_commit p (desk.llsn + 1) trx.id cts)) (one_part (part_in c.parts p) q2 x has2 there)
      (may_record a at.reached p trx q0 has0 (held_part a p at.part).2 (reads q0 has0) (desk.llsn + 1) cts)

  pub drawn_few : (most : ℕ) → ((x : CorePart) → part_in a.parts p ≡ Some x → length x.pages.made < most) → (x : CorePart) → part_in c.parts p ≡ Some x → length x.pages.made < most
  drawn_few most few x there = subst (λ (y : CorePart). length y.pages.made < most) (one_part (part_in c.parts p) q2 x has2 there) (few q0 has0)

  pub drawn_media : {D : Type 0} (g : Ghosts D) (work : Work) (media : Media D) → MediaAgree g work 0 media p a → MediaAgree g work 0 media p c
  drawn_media g work media agree =
      trx_media p b c (with_draw trx.id cts) 1 then_is q1 has1 more1 g work 0 media (holds_the_part b p q1 has1 (held_part a p at.part).2)
      (trx_media p a b (with_prep trx.id) 1 is q0 has0 more0 g work 0 media at.part agree)

  pub above_before : KnowsLess a p cts
  above_before = knows_less_before p cts a b (moves_trx p a b (with_prep trx.id) 1 is q0 has0 more0 CoreExtends (trx_step q0 (with_prep trx.id) 1 more0).extends) above

  pub exact_before : (HoldsAll b → cts ≡ tso_of b + 1) → HoldsAll a → cts ≡ tso_of a + 1
  exact_before exact all =
      let moves = moves_trx p a b (with_prep trx.id) 1 is q0 has0 more0 DrewTheSame refl in
      exact (holds_all p a b at.part moves all) ∙ ap (λ (n : ℕ). n + 1) (tso_same p a b at.part moves)

  pub moves_recorded : (x : Placed Mtr) → x.mtr ≡ mtr_of_commit p (desk.llsn + 1) trx.id cts → (d : NodeView) → Moves (MadeOne x) p c d → Moves (IsInTheBalance trx cts) p a d
  moves_recorded x its d moves =
      let one = moves_trx p a b (with_prep trx.id) 1 is q0 has0 more0 (λ x y. Unit {0}) tt in
      let two = moves_trx p b c (with_draw trx.id cts) 1 then_is q1 has1 more1 (λ x y. Unit {0}) tt in
      let now = moves.mine q2 has2 in
      let made = durable_below a at.reached p q0 has0 in
      let not_below = (at.agrees q0 has0).not_below in
      record {
        run = moves.run ∙ two.run ∙ one.run;
        frames = moves.frames ∙ two.frames ∙ one.frames;
        others = λ k other. moves.others k other ∙ two.others k other ∙ one.others k other;
        mine = λ y there. (
          now.0,
          now.1,
          subst (λ (z : CorePart). IsInTheBalance trx cts z now.0) (one_part (part_in a.parts p) q0 y has0 there)
              (in_the_balance p trx cts desk.llsn q0 now.0 (reads q0 has0) (view_known a at.reached p q0 has0 trx (reads q0 has0).begun) (above_before q0 has0) (omega (arith, made, not_below)) x its now.2),
          now.3 ∙ ap (λ (z : CorePart). z.downs) (one_part (part_in a.parts p) q0 y has0 there),
        );
      }

-- what is known of the timestamp before more became durable
one_stamp : (one other : ℕ) → Some one ≡ Some other → one ≡ other
one_stamp one other e = cc

module _ (p : ℕ) (a b : NodeView) (held : HoldsPart a p) (moves : Moves SomeForced p a b) (drawn cts : ℕ) (is : Some drawn ≡ Some cts) where
  pub stamp_above : KnowsLess b p drawn → KnowsLess a p cts
  stamp_above above = subst (KnowsLess a p) (one_stamp drawn cts is) (knows_less_before p drawn a b (moves_as p SomeForced CoreExtends some_forced_extends a b moves) above)

  pub stamp_exact : (HoldsAll b → drawn ≡ tso_of b + 1) → HoldsAll a → cts ≡ tso_of a + 1
  stamp_exact exact all =
      let drew = moves_as p SomeForced DrewTheSame (λ q r f. ap (λ (t : TrxPart). t.drew) (some_forced_trx q r f).0) a b moves in
      sym (one_stamp drawn cts is) ∙ exact (holds_all p a b held drew all) ∙ ap (λ (n : ℕ). n + 1) (tso_same p a b held drew)

-- the locks, and what the commit left, over what was forced before
module _ (p : ℕ) (trx : Begun) (cts : ℕ) (a b c : NodeView) (held : HoldsPart a p) (moves : Moves SomeForced p a b) where
  pub forced_then_locks : KeepsLocks p b c → KeepsLocks p a c
  forced_then_locks kept = locks_both p a b c (kept_locks SomeForced (λ q r f. (some_forced_trx q r f).1) p a b held moves) kept

  pub forced_then_balance : Moves (IsInTheBalance trx cts) p b c → Moves (IsInTheBalance trx cts) p a c
  forced_then_balance balance = moves_both p SomeForced (IsInTheBalance trx cts) (IsInTheBalance trx cts) (balance_forced trx cts) a b c moves balance

pub all_forced_locks : (p : ℕ) (a b : NodeView) → HoldsPart a p → Moves AllForced p a b → KeepsLocks p a b
all_forced_locks p a b held moves = kept_locks AllForced (λ q r f. (all_forced_trx q r f).2) p a b held moves
