-- A session's open transaction, whose statement is tried, reads: it was begun by its own primary, and the part knows its view.
use Rattle.std.proofs.Common.{◌≡◌, ℕ, suc, ◌+◌, ◌<◌, ◌≤◌, true, false, List, Option, Some, IfSome, refl, sym, ap, subst, ◌∙◌, inl, inr, arith}
use Rattle.mp_machine.specs.Lists.{IsIn}
use Rattle.mp_machine.specs.View.{part_in}
use Rattle.mp_model.specs.declared.ids.TrxId.{TrxId}
use Rattle.mp_model.specs.declared.ids.TrxName.{TrxName}
use Rattle.mp_script.specs.declared.statements.Line.{Line}
use Rattle.mp_script.specs.declared.statements.Stmt.{Stmt}
use Rattle.mp_script.specs.declared.statements.Stmt.TheVariants.{Begin, Get, Put, Del, Copy, Scan, Commit, Rollback}
use Rattle.mp_script.specs.Spelling.{MayStand}
use Rattle.mp_script.specs.Execution.{line_at}
use Rattle.mp_script.specs.Transactions.{begins, trx_in_lines}
use Rattle.mp_core_trx.specs.declared.opening.TrxOpening.{TrxOpening}
use Rattle.mp_core_trx.specs.declared.part.Begun.{Begun}
use Rattle.mp_core_trx.specs.declared.part.SlotLoad.{SlotLoad}
use Rattle.mp_core_trx.specs.declared.slot.Shown.{Shown}
use Rattle.mp_core_trx.specs.declared.slot.SlotTag.TheVariants.{Free, Prep}
use Rattle.mp_core_trx.specs.Parts.{trx, unused, newest, greatest_seen, begun_of}
use Rattle.mp_core_trx.specs.Words.{shows, shown_of}
use Rattle.mp_core.specs.declared.part.CorePart.{CorePart}
use Rattle.mp_core.specs.World.{core_part}
use Rattle.mp_book.specs.declared.session.Session.{Session}
use Rattle.mp_book.specs.declared.stage.Stage.{Stage}
use Rattle.mp_book.specs.declared.stage.Stage.TheVariants.{Open}
use Rattle.mp_book.specs.Stages.{trx_of_stage}
use Rattle.mp_book.specs.Answered.{execution_above}
use Rattle.mp_book.specs.Books.{StageStands}
use Rattle.mp_outside.specs.declared.disks.Disk.{Ghosts}
use Rattle.mp_shared.specs.Nodes.{Run, NodeView, Reached}
use Rattle.mp_supports.specs.Supports.{IsTrxOf}
use Rattle.mp_supports.specs.Seeing.{IsLoadOf}
use Rattle.mp_supports.specs.Agreement.{IsOpenAs}
use Rattle.mp_supports.proofs.Extending.{core_extends_refl}
use Rattle.mp_supports.proofs.Places.{at_place}
use Rattle.mp_buffer_fusion.specs.declared.buffer.Buffer.{Buffer}
use Rattle.mp_desk.specs.Desks.{AreGivenSince, IsReadAfresh}
use Rattle.mp_desk.specs.Statements.{IsReader, ReadsIn, KnowsView}
use Rattle.mp_desk.proofs.ReachedFacts.{KnownWorld, known_world}
use Rattle.mp_primary.specs.Primaries.{PrimaryView, PrimaryAgrees}
use Rattle.mp_primary.specs.Turns.{ComesTo}
use Rattle.mp_primary.proofs.AnsweredTurns.{found_here}
use Rattle.mp_primary.proofs.QuietSides.{named_on}
use Rattle.mp_primary.proofs.TurnEnds.{none_down_before}

prep_not_free : Prep ≡ Free → ⊥
prep_not_free e = cc

prep_not_unused : (version : ℕ) → shows Prep version 0 ≡ unused → ⊥
prep_not_unused version e = prep_not_free (ap (λ (x : Shown). x.tag) e)

-- ---- what the worlds that can be reached tell of a part

module _ (n : NodeView) (reached : Reached n) (p : ℕ) (q : CorePart) (there : part_in n.parts p ≡ Some q) where
  world : KnownWorld n
  world = known_world n reached

  is_part : core_part world.world p ≡ q
  is_part = world.agrees p q there

  -- who was begun is of the primary that began it
  pub begun_here : (b : Begun) → IsIn b q.trx.begun → b.id.node ≡ p
  begun_here b began = world.facts.inv.trx.ids.own p b (subst (λ (x : CorePart). IsIn b x.trx.begun) (sym is_part) began)

  -- the part knows each view with which it began a transaction
  pub view_known : (b : Begun) → IsIn b q.trx.begun → KnowsView q b
  view_known b began = subst (λ (x : CorePart). b.view ≤ newest x.trx) is_part
      (subst (λ (o : TrxOpening). b.view ≤ greatest_seen o.base.ts (core_part world.world p).trx.seen) (sym (world.facts.inv.trx.carried p))
      (world.facts.inv.trx.sight.views p b (subst (λ (x : CorePart). IsIn b x.trx.begun) (sym is_part) began)).1)

  -- the part began as the run did
  same_opening : q.trx.opening ≡ n.run.opening.trx
  same_opening = sym (ap (λ (x : CorePart). x.trx.opening) is_part) ∙ world.facts.inv.trx.carried p

  -- a transaction whose slot was loaded in PREP has a version of the run
  pub prep_version : (id : TrxId) (load : SlotLoad) → IsLoadOf q id load → shown_of load.word ≡ shows Prep id.version 0
      → (q.trx.opening.base.version < id.version) × (id.version ≤ q.trx.opening.base.version + q.trx.opening.begins)
  prep_version id load is shown =
      let known = (world.facts.inv.trx.reliable p load (subst (λ (x : CorePart). IsIn load x.trx.loaded) (sym is_part) is.loaded)).known in
      elim known [
        | inl none ↦ absurd (prep_not_unused id.version (sym shown ∙ none))
        | inr begun ↦
            let version : (shown_of load.word).version ≡ id.version = ap (λ (x : Shown). x.version) shown in
            let b = begun_of (trx load.of load.slot (shown_of load.word).version) begun.0 in
            let range = world.facts.inv.trx.ids.versions load.of b begun.1 in
            subst (λ (o : TrxOpening). (o.base.version < id.version) × (id.version ≤ o.base.version + o.begins)) (sym same_opening)
            (let low = range.0 in let high = range.1 in (omega (arith, version, low), omega (arith, version, high)))
      ]

-- a statement that may stand in a transaction begins none
no_begin_within : (stmt : Stmt) → MayStand true stmt → begins (Some stmt) ≡ false
no_begin_within Begin may = absurd may
no_begin_within (Get key) may = refl
no_begin_within (Put key value) may = refl
no_begin_within (Del key) may = refl
no_begin_within (Copy from to) may = refl
no_begin_within (Scan low most) may = refl
no_begin_within Commit may = refl
no_begin_within Rollback may = refl

module _ {D : Type 0} (g : Ghosts D) (run : Run) (old : PrimaryView D) (before : NodeView) (number : ℕ) (s : Session) (line : Line)
    (comes : ComesTo g run old before number s line) (up : old.down ≡ 0) where
  -- the buffers are empty
  pub starts_given : (q : CorePart) → AreGivenSince q q old.desk.pool
  starts_given q b there = absurd (subst (λ (l : List Buffer). IsIn b l) (comes.stands.primary.up up).1 there)

  pub starts_afresh : IsReadAfresh old.desk old.number before
  starts_afresh q has = (q, core_extends_refl q, starts_given q)

  module _ (trx : Begun) (stage : s.stage ≡ Open trx) where
    stands_open : StageStands (execution_above old.work.lines old.work.sessions old.book.answers.items) old.number number s (Open trx)
    stands_open =
        let stands = comes.stands.primary.book.each number s comes.next.found in
        subst (λ (t : Stage). StageStands (execution_above old.work.lines old.work.sessions old.book.answers.items) old.number number s t)
        stage (stands.stage (none_down_before g run old before before number s line comes up))

    pub none_back : s.restored ≡ 0
    none_back = stands_open.1

    -- its next statement begins none
    pub open_no_begin : begins (Some line.stmt) ≡ false
    open_no_begin = no_begin_within line.stmt
        (subst (λ (o : Option Line). IfSome o (λ l. MayStand true l.stmt)) comes.next.next stands_open.0.next_fits)

    module _ (q : CorePart) (has : part_in before.parts old.number ≡ Some q) where
      was : PrimaryAgrees g old comes.stands.agrees.0 q
      was = comes.stands.agrees.1 q has

      pub is_open : IsOpenAs old.work q 0 s trx
      is_open = subst (λ (o : Option Begun). IfSome o (IsOpenAs old.work q 0 s)) (ap trx_of_stage stage)
          ((was.opens up).each s (at_place old.book.sessions.items number s comes.next.found))

      reader : IsReader old.number trx q
      reader = record {
        node = begun_here before comes.stands.desk.reached old.number q has trx is_open.begun;
        begun = is_open.begun;
        active = elim is_open.active [
          | inl active ↦ active
          | inr down ↦ absurd (down refl)
        ];
        whole = is_open.whole none_back;
      }

      pub knows_view : KnowsView q trx
      knows_view = view_known before comes.stands.desk.reached old.number q has trx is_open.begun

      -- the statement is one of the transaction
      pub is_trx_of : begins (Some line.stmt) ≡ false → IsTrxOf old.work q line trx.id trx.view
      is_trx_of no_begin =
          let at = found_here old.work.lines old.work.sessions old.number number old.book s line comes.stands.primary.book comes.next in
          let here : s.number ≡ number = (comes.stands.primary.book.each number s comes.next.found).number_is in
          let next : line.index ≡ s.next + 1 = (let is = at.index_is in omega (arith, is)) in
          record {
            begun = is_open.begun;
            named = is_open.named
                ∙ ap (λ (k : ℕ). Some (trx_in_lines old.work.lines k s.next)) (here ∙ sym at.session_is)
                ∙ sym (ap (λ (name : TrxName). Some name)
                (named_on old.work.lines line.session s.next line.index line next
                (ap (λ (k : ℕ). line_at old.work.lines k (suc s.next)) at.session_is ∙ at.found) no_begin));
          }

    pub reads_in : ReadsIn old.number trx before
    reads_in q has = reader q has
