-- A session's open transaction, as its primary's part has it.
use Rattle.std.proofs.Common.{◌≡◌, ℕ, Bool, true, false, List, [], drop, length, slice_get, get_or, Option, None, Some, IfSome, refl, sym, ap, subst, ◌∙◌, inl, ⊎_elim}
use Rattle.std.proofs.lemmas.Option.{slice_get_read, slice_get_within}
use Rattle.mp_machine.specs.Lists.{IsIn}
use Rattle.mp_machine.specs.Machine.{run, AllAllowed}
use Rattle.mp_machine.specs.View.{part_in}
use Rattle.mp_machine.proofs.Time.{forward}
use Rattle.mp_cells.specs.declared.rows.Row.{Row}
use Rattle.mp_cells.specs.Trees.{row_at}
use Rattle.mp_core_trx.specs.declared.part.Begun.{Begun}
use Rattle.mp_core_trx.specs.declared.slot.SlotTag.TheVariants.{Active}
use Rattle.mp_core_trx.specs.declared.event.TrxEvent.TheVariants.{StoreEnd}
use Rattle.mp_core_trx.specs.Events.{IsNode}
use Rattle.mp_core_trx.specs.Parts.{HasBegun, Shows}
use Rattle.mp_core_trx.specs.World.{begun_in, slot_rows_in}
use Rattle.mp_core.specs.declared.part.CorePart.{CorePart}
use Rattle.mp_core.specs.declared.opening.CoreOpening.{CoreOpening}
use Rattle.mp_core.specs.declared.event.CoreEvent.{CoreEvent}
use Rattle.mp_core.specs.declared.event.CoreEvent.TheVariants.{Trx}
use Rattle.mp_core.specs.Invariant.{NumbersFit}
use Rattle.mp_core.specs.OwnMtrs.{owner_of, first_former}
use Rattle.mp_core.specs.World.{CoreWorld, core_part, core}
use Rattle.mp_facts.specs.Facts.{opening_pages}
use Rattle.mp_facts.proofs.Joint.{Joint, OwnKey}
use Rattle.mp_facts.proofs.Kept.{joint_in_time}
use Rattle.mp_book.specs.declared.session.Session.{Session}
use Rattle.mp_book.specs.declared.stage.Stage.TheVariants.{Open}
use Rattle.mp_book.specs.Stages.{trx_of_stage}
use Rattle.mp_book.specs.Answered.{execution_above, NoneShowsDown}
use Rattle.mp_book.specs.Books.{StageStands}
use Rattle.mp_outside.specs.declared.disks.Disk.{Ghosts}
use Rattle.mp_shared.specs.Nodes.{Run, NodeView, MayTake, Reached}
use Rattle.mp_shared.proofs.Holding.{held_part}
use Rattle.mp_trx_fusion.proofs.Callers.{drew_nothing}
use Rattle.mp_buffer_fusion.proofs.Visiting.{one_part}
use Rattle.mp_supports.specs.Agreement.{IsOpenAs}
use Rattle.mp_supports.proofs.Places.{at_place}
use Rattle.mp_desk.specs.Statements.{IsReader, ReadsIn}
use Rattle.mp_desk.proofs.ReachedFacts.{KnownWorld, known_world}
use Rattle.mp_primary.specs.Primaries.{PrimaryView, StandsWith}
use Rattle.mp_primary.specs.Turns.{IsSessionOf}
use Rattle.mp_primary.specs.OutsideCalls.{HasOpen}
use Rattle.mp_primary.proofs.OpenSessions.{one_of}
use Rattle.mp_primary.proofs.AnsweredTurns.{calm}

module _ {D : Type 0} (g : Ghosts D) (run_of : Run) (pr : PrimaryView D) (n : NodeView) (stands : StandsWith g run_of pr n) (up : pr.down ≡ 0) where
  -- the part that it agrees with
  abbrev pub open_part : CorePart
  open_part = (held_part n pr.number stands.desk.part).0

  abbrev pub open_has : part_in n.parts pr.number ≡ Some open_part
  open_has = (held_part n pr.number stands.desk.part).1

  abbrev pub open_node : IsNode open_part.trx.opening pr.number
  open_node = (held_part n pr.number stands.desk.part).2

  pub open_calm : NoneShowsDown pr.book.answers.items
  open_calm =
      let was = stands.agrees.1 open_part open_has in
      subst NoneShowsDown was.answers (calm stands.agrees.0 (was.kept.up up))

  module _ (number : ℕ) (trx : Begun) (s : Session) (found : IsSessionOf pr number s) (stage : s.stage ≡ Open trx) where
    pub not_back : s.restored ≡ 0
    not_back =
        let stood = (stands.primary.book.each number s found).stage open_calm in
        (subst (StageStands (execution_above pr.work.lines pr.work.sessions pr.book.answers.items) pr.number number s) stage stood).1

    pub opened : IsOpenAs pr.work open_part 0 s trx
    opened =
        let each = ((stands.agrees.1 open_part open_has).opens up).each s (at_place pr.book.sessions.items number s found) in
        subst (λ (o : Option Begun). IfSome o (IsOpenAs pr.work open_part 0 s)) (ap trx_of_stage stage) each

    pub is_active : Shows open_part.trx.rows trx.id Active
    is_active = ⊎_elim (λ shown. shown) (λ down. absurd (down refl)) opened.active

    abbrev known : KnownWorld n
    known = known_world n stands.desk.reached

    pub its_node : trx.id.node ≡ pr.number
    its_node =
        let there = subst (λ (r : CorePart). IsIn trx r.trx.begun) (sym (known.agrees pr.number open_part open_has)) opened.begun in
        known.facts.inv.trx.ids.own pr.number trx there

    pub reader : IsReader pr.number trx open_part
    reader = record { node = its_node; begun = opened.begun; active = is_active; whole = opened.whole not_back }

    pub reads_in : ReadsIn pr.number trx n
    reads_in q has = subst (IsReader pr.number trx) (one_part (part_in n.parts pr.number) open_part q open_has has) reader

    -- where it wrote nothing, no row is kept of it
    pub no_formers : s.formers.items ≡ [] → (key : ℕ) → first_former open_part.pages.made trx.id key ≡ None
    no_formers none key =
        opened.formers key
        ∙ ap (λ (i : ℕ). row_at key (drop i s.formers.items)) not_back
        ∙ ap (λ (l : List Row). row_at key l) none

-- ---- what a method sees of its primary inside

module _ {D : Type 0} (g : Ghosts D) (run_of : Run) (inside old : PrimaryView D) (view : inside ≡ old) (n : NodeView) where
  pub stands_inside : StandsWith g run_of old n → StandsWith g run_of inside n
  stands_inside stands = subst (λ (v : PrimaryView D). StandsWith g run_of v n) (sym view) stands

  pub up_inside : old.down ≡ 0 → inside.down ≡ 0
  up_inside up = ap (λ (v : PrimaryView D). v.down) view ∙ up

  pub open_inside : (number : ℕ) (trx : Begun) → HasOpen old number trx → HasOpen inside number trx
  open_inside number trx has = subst (λ (v : PrimaryView D). HasOpen v number trx) (sym view) has

-- ---- what indexing gave of a session

module _ (sessions : List Session) (place : ℕ) (s x : Session) (found : slice_get sessions place ≡ Some s) (is : x ≡ get_or sessions place x) where
  indexed_is : x ≡ s
  indexed_is = one_of (slice_get sessions place) s x found (slice_get_read sessions (length sessions) place x refl (slice_get_within sessions place s found) is)

  pub indexed_none : x.formers.items ≡ [] → s.formers.items ≡ []
  indexed_none none = ap (λ (v : Session). v.formers.items) (sym indexed_is) ∙ none

  pub indexed_some : (x.formers.items ≡ [] → ⊥) → s.formers.items ≡ [] → ⊥
  indexed_some some none = some (ap (λ (v : Session). v.formers.items) indexed_is ∙ none)

  pub indexed_stage : x.stage ≡ s.stage
  indexed_stage = ap (λ (v : Session). v.stage) indexed_is

pub true_not_false : {b : Bool} → b ≡ true → b ≡ false → ⊥
true_not_false is isnt = let both : true ≡ false = sym is ∙ isnt in cc
