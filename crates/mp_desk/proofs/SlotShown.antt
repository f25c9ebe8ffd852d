-- What a load of a slot's word shows a reader of a version.
use Rattle.std.proofs.Common.{◌≡◌, ◌≢◌, ℕ, ◌+◌, ◌<◌, ◌≤◌, ◌==◌, ◌⊎◌, Bool, true, false, if◌then◌else◌, Option, Some, refl, sym, ap, subst, ◌∙◌, inl, inr, arith, eqb-true}
use Rattle.mp_machine.specs.Machine.{run}
use Rattle.mp_machine.specs.Lists.{IsIn}
use Rattle.mp_machine.specs.View.{part_in}
use Rattle.mp_machine.proofs.Lists.{grows_refl, grows_one}
use Rattle.mp_model.specs.declared.ids.TrxId.{TrxId}
use Rattle.mp_cells.specs.declared.rows.Row.{Row}
use Rattle.mp_core_trx.specs.declared.opening.TrxOpening.{TrxOpening}
use Rattle.mp_core_trx.specs.declared.part.Begun.{Begun}
use Rattle.mp_core_trx.specs.declared.part.SlotLoad.{SlotLoad}
use Rattle.mp_core_trx.specs.declared.slot.Shown.{Shown}
use Rattle.mp_core_trx.specs.declared.slot.SlotTag.{SlotTag}
use Rattle.mp_core_trx.specs.declared.slot.SlotTag.TheVariants as tags
use Rattle.mp_core_trx.specs.Words.{shows, shown_of}
use Rattle.mp_core_trx.specs.Parts.{begun_of, newest}
use Rattle.mp_core_trx.specs.Events.{IsNode, load_of, with_slot_load}
use Rattle.mp_core_pages.proofs.Growth.{pages_extends_refl}
use Rattle.mp_core.specs.declared.part.CorePart.{CorePart}
use Rattle.mp_core.specs.World.{core_part}
use Rattle.mp_core.proofs.Downs.{downs_extend_refl}
use Rattle.mp_shared.specs.Nodes.{Run, NodeView, Reached}
use Rattle.mp_shared.specs.PageSteps.{held_by_part}
use Rattle.mp_shared.proofs.Holding.{held_part}
use Rattle.mp_trx_fusion.specs.Calls.{with_trx, MayLook}
use Rattle.mp_trx_fusion.specs.Statuses.{status_by, status_of, Stood}
use Rattle.mp_trx_fusion.specs.declared.slot_status.SlotStatus.{SlotStatus}
use Rattle.mp_trx_fusion.specs.declared.slot_status.SlotStatus.TheVariants.{Active, Prep, Committed, Free, Other}
use Rattle.mp_trx_fusion.proofs.Callers.{part_here, part_else}
use Rattle.mp_buffer_fusion.proofs.Visiting.{one_part}
use Rattle.mp_supports.specs.Seeing.{IsLoadOf, IsHidden, IsSeenBy}
use Rattle.mp_desk.specs.declared.desk.Desk.{Desk}
use Rattle.mp_desk.specs.Desks.{Moves, KeepsLocks, IsAtDesk, Brings}
use Rattle.mp_desk.specs.Statements.{ReadsIn, HasBegunWriter, IsInPrep}
use Rattle.mp_desk.proofs.Moving.{LookedAway, away_looks, locks_same}
use Rattle.mp_desk.proofs.ReachedFacts.{known_world, run_facts}
use Rattle.mp_desk.proofs.AtDesk.{at_desk_away, brings_away}
use Rattle.mp_desk.proofs.LoadedWords.{IsStamped, load_stamped, view_known}

-- what a word shows, by what it says of a transaction
abbrev pub ShowsAs : TrxId → Shown → SlotStatus → Type 0
ShowsAs id x Active = x ≡ shows tags.Active id.version 0
ShowsAs id x Prep = x ≡ shows tags.Prep id.version 0
ShowsAs id x (Committed cts) = x ≡ shows tags.Committed id.version cts
ShowsAs id x Free = x ≡ shows tags.Free id.version 0
ShowsAs id x Other = Unit {0}

both_same : (id : TrxId) (tag : SlotTag) (version cts stamp : ℕ) → version ≡ id.version → cts ≡ stamp → shows tag version cts ≡ shows tag id.version stamp
both_same id tag version cts stamp v c = ap (λ (k : ℕ). shows tag k cts) v ∙ ap (shows tag id.version) c

unstamped : (tag : SlotTag) (cts : ℕ) → tag ≢ tags.Committed → (cts ≡ 0) ⊎ (tag ≡ tags.Committed) → cts ≡ 0
unstamped tag cts other (inl none) = none
unstamped tag cts other (inr is) = absurd (other is)

as_tag : (id : TrxId) (tag : SlotTag) (version cts : ℕ) → version ≡ id.version → (cts ≡ 0) ⊎ (tag ≡ tags.Committed) → ShowsAs id (shows tag version cts) (status_by tag cts)
as_tag id tags.Free version cts same stamped = both_same id tags.Free version cts 0 same (unstamped tags.Free cts (λ e. absurd cc) stamped)
as_tag id tags.Active version cts same stamped = both_same id tags.Active version cts 0 same (unstamped tags.Active cts (λ e. absurd cc) stamped)
as_tag id tags.Prep version cts same stamped = both_same id tags.Prep version cts 0 same (unstamped tags.Prep cts (λ e. absurd cc) stamped)
as_tag id tags.Committed version cts same stamped = both_same id tags.Committed version cts cts same refl

as_version : (id : TrxId) (x : Shown) (b : Bool) → (x.version == id.version) ≡ b → IsStamped x → ShowsAs id x (if b then status_by x.tag x.cts else Other)
as_version id x true is stamped = as_tag id x.tag x.version x.cts (eqb-true x.version id.version is) stamped
as_version id x false is stamped = tt

shows_as : (id : TrxId) (x : Shown) → IsStamped x → ShowsAs id x (status_of id x)
shows_as id x stamped = as_version id x (x.version == id.version) refl stamped

-- the writer of a version, begun in each world, may be looked at
pub may_look : (run : Run) (desk : Desk) (p : ℕ) (n : NodeView) (row : Row) (id : TrxId) → IsAtDesk run desk p n → HasBegunWriter n row → row.writer ≡ Some id → MayLook n p id
may_look run desk p n row id at begun is =
    let has = held_part n p at.part in
    let known = known_world n at.reached in
    let b = begun id is known.world known.facts known.agrees in
    let ids = known.facts.inv.trx.ids in
    let same : core_part known.world p ≡ has.0 = known.agrees p has.0 has.1 in
    let opening : has.0.trx.opening ≡ n.run.opening.trx = sym (ap (λ (r : CorePart). r.trx.opening) same) ∙ known.facts.inv.trx.carried p in
    (has.0, has.1, has.2, subst (λ (o : TrxOpening). IsNode o id.node) (sym opening) (ids.nodes id.node (begun_of id b.0) b.1), ids.slots id.node (begun_of id b.0) b.1)

-- and stood somewhere
pub not_other : (n : NodeView) (row : Row) (id : TrxId) (status : SlotStatus) → Reached n → HasBegunWriter n row → row.writer ≡ Some id → Stood n id status → status ≡ Other → ⊥
not_other n row id status reached begun is stood other =
    let here = subst (Stood n id) other stood in
    here.3 (begun id is _ (run_facts n.run.opening reached.fair here.0 here.1) here.2)

module _ (run : Run) (desk : Desk) (p : ℕ) (a b : NodeView) (at : IsAtDesk run desk p a) (id : TrxId) (word : ℕ) (becomes : b ≡ with_trx a p (with_slot_load id.node id.slot word) 1) (reached : Reached b) where
  away_load : (q : CorePart) → LookedAway q (record q { trx = with_slot_load id.node id.slot word q.trx; ops = q.ops + 1 })
  away_load q = record {
    looked = record {
      extends = record {
        trx = record {
          same_opening = refl;
          more_begun = grows_refl q.trx.begun;
          more_rows = grows_refl q.trx.rows;
          more_drawn = grows_refl q.trx.drew;
          more_seen = grows_refl q.trx.seen;
          more_loaded = grows_one q.trx.loaded (load_of id.node id.slot word (newest q.trx));
        };
        pages = pages_extends_refl q.pages;
        durable = omega arith;
        made_later = λ x there. inl there;
        given_later = λ g there. inl there;
        downs = downs_extend_refl q.downs;
      };
      begun = refl;
      rows = refl;
      drew = refl;
      made = refl;
      durables = refl;
    };
    contents = refl;
    gave = refl;
  }

  here_now : (q : CorePart) → part_in a.parts p ≡ Some q → part_in b.parts p ≡ Some (record q { trx = with_slot_load id.node id.slot word q.trx; ops = q.ops + 1 })
  here_now q has = part_here a b p (with_slot_load id.node id.slot word) 1 becomes q has

  moves_load : Moves LookedAway p a b
  moves_load = record {
    run = ap (λ (n : NodeView). n.run) becomes;
    frames = ap (λ (n : NodeView). n.frames) becomes;
    others = λ k other. part_else a b p (with_slot_load id.node id.slot word) 1 becomes k other;
    mine = λ q has. (record q { trx = with_slot_load id.node id.slot word q.trx; ops = q.ops + 1 }, here_now q has, away_load q, refl);
  }

  locks_load : KeepsLocks p a b
  locks_load =
      let has = held_part a p at.part in
      locks_same p a b (λ j. ap (λ (o : Option CorePart). held_by_part o j) (here_now has.0 has.1) ∙ sym (ap (λ (o : Option CorePart). held_by_part o j) has.1))

  pub load_desk : IsAtDesk run desk p b
  load_desk = at_desk_away run desk p a b at moves_load locks_load reached

  pub load_brings : Brings 0 p desk desk a b
  load_brings = brings_away p desk a b (away_looks p a b moves_load) locks_load

  module _ (trx : Begun) (reads : ReadsIn p trx a) (row : Row) (is : row.writer ≡ Some id) (other : id ≢ trx.id) (r : CorePart) (now : part_in b.parts p ≡ Some r) where
    -- the load
    pub record Loaded : Type 0 where
      pub load : SlotLoad
      pub is_load : IsLoadOf r id load
      pub word_is : load.word ≡ word
      pub knew : trx.view ≤ load.after

    pub the_load : Loaded
    the_load =
        let has = held_part a p at.part in
        let q = has.0 in
        let same : record q { trx = with_slot_load id.node id.slot word q.trx; ops = q.ops + 1 } ≡ r = one_part (part_in b.parts p) _ r (here_now q has.1) now in
        let load = load_of id.node id.slot word (newest q.trx) in
        record {
          load = load;
          is_load = record { loaded = subst (λ (x : CorePart). IsIn load x.trx.loaded) same (inl refl); of = refl; slot = refl };
          word_is = refl;
          knew = view_known a at.reached p q has.1 trx ((reads q has.1).begun);
        }

    pub shown_as : (status : SlotStatus) → status ≡ status_of id (shown_of word) → ShowsAs id (shown_of word) status
    shown_as status shown =
        let l = the_load in
        let stamped : IsStamped (shown_of word) = subst (λ (k : ℕ). IsStamped (shown_of k)) l.word_is (load_stamped b reached p r now l.load l.is_load.loaded) in
        subst (ShowsAs id (shown_of word)) (sym shown) (shows_as id (shown_of word) stamped)

    pub as_shown : (x : Shown) → shown_of word ≡ x → shown_of (the_load.load).word ≡ x
    as_shown x shown = ap shown_of the_load.word_is ∙ shown

    pub hidden_active : Active ≡ status_of id (shown_of word) → IsHidden r trx.id trx.view row
    hidden_active shown = record {
      writer = id;
      its_writer = is;
      other = other;
      load = the_load.load;
      is_load = the_load.is_load;
      hides = inl (as_shown (shows tags.Active id.version 0) (shown_as Active shown), the_load.knew);
    }

    pub hidden_free : Free ≡ status_of id (shown_of word) → IsHidden r trx.id trx.view row
    hidden_free shown = record {
      writer = id;
      its_writer = is;
      other = other;
      load = the_load.load;
      is_load = the_load.is_load;
      hides = inr (inr (as_shown (shows tags.Free id.version 0) (shown_as Free shown)));
    }

    pub in_prep : Prep ≡ status_of id (shown_of word) → IsInPrep r trx.id row id
    in_prep shown = record {
      writer = is;
      other = other;
      load = the_load.load;
      is_load = the_load.is_load;
      shown = as_shown (shows tags.Prep id.version 0) (shown_as Prep shown);
    }

    pub hidden_above : (cts : ℕ) → Committed cts ≡ status_of id (shown_of word) → trx.view < cts → IsHidden r trx.id trx.view row
    hidden_above cts shown above = record {
      writer = id;
      its_writer = is;
      other = other;
      load = the_load.load;
      is_load = the_load.is_load;
      hides = inr (inl (cts, as_shown (shows tags.Committed id.version cts) (shown_as (Committed cts) shown), above));
    }

    pub seen_below : (cts : ℕ) → Committed cts ≡ status_of id (shown_of word) → cts ≤ trx.view → IsSeenBy r trx.id trx.view row
    seen_below cts shown within = inr (inr record {
      writer = id;
      its_writer = is;
      load = the_load.load;
      is_load = the_load.is_load;
      cts = cts;
      committed = as_shown (shows tags.Committed id.version cts) (shown_as (Committed cts) shown);
      within = within;
    })
