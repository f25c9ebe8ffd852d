-- A transaction whose slot's word a part loaded, and that showed it open or committed, has a name in the script.
use Rattle.std.proofs.Common.{◌≡◌, ◌≢◌, ℕ, ◌+◌, ◌<◌, ◌≤◌, ◌⊎◌, List, length, Some, sym, ap, subst, ◌∙◌, inl, inr, arith}
use Rattle.mp_machine.specs.Lists.{IsIn}
use Rattle.mp_machine.specs.View.{part_in}
use Rattle.mp_model.specs.declared.ids.TrxId.{TrxId}
use Rattle.mp_script.specs.BeginNames.{begin_names}
use Rattle.mp_core_trx.specs.declared.opening.Base.{Base}
use Rattle.mp_core_trx.specs.declared.opening.TrxOpening.{TrxOpening}
use Rattle.mp_core_trx.specs.declared.part.Begun.{Begun}
use Rattle.mp_core_trx.specs.declared.part.SlotLoad.{SlotLoad}
use Rattle.mp_core_trx.specs.declared.slot.Shown.{Shown}
use Rattle.mp_core_trx.specs.declared.slot.SlotTag.{SlotTag}
use Rattle.mp_core_trx.specs.declared.slot.SlotTag.TheVariants.{Free, Active, Prep, Committed}
use Rattle.mp_core_trx.specs.Words.{shows, shown_of}
use Rattle.mp_core_trx.specs.Parts.{trx, begun_of, unused, HasBegun}
use Rattle.mp_core_trx.specs.World.{begun_in}
use Rattle.mp_core.specs.declared.part.CorePart.{CorePart}
use Rattle.mp_core.specs.CoreExtends.{CoreExtends}
use Rattle.mp_outside.specs.declared.disks.Disk.{Ghosts}
use Rattle.mp_shared.specs.Nodes.{Run, NodeView, Reached}
use Rattle.mp_shared.proofs.Holding.{held_part}
use Rattle.mp_supports.specs.Seeing.{IsLoadOf}
use Rattle.mp_supports.specs.Supports.{IsBlocked, IsHeldBy}
use Rattle.mp_desk.specs.Desks.{Moves}
use Rattle.mp_desk.specs.Statements.{IsPreparing}
use Rattle.mp_desk.proofs.ReachedFacts.{known_world}
use Rattle.mp_primary.specs.Primaries.{PrimaryView, StandsWith}
use Rattle.mp_primary.proofs.TurnEnds.{moved}

-- a version that the script gave to one of its transactions
abbrev pub IsVersionOf : {D : Type 0} → PrimaryView D → TrxId → Type 0
IsVersionOf pr id = (pr.work.base.version < id.version) × (id.version ≤ pr.work.base.version + length (begin_names pr.work.lines))

shown_begun : (l : SlotLoad) (id : TrxId) (begun : List Begun) (tag : SlotTag) (cts : ℕ) → tag ≢ Free → l.of ≡ id.node → l.slot ≡ id.slot → shown_of l.word ≡ shows tag id.version cts
    → (shown_of l.word ≡ unused) ⊎ HasBegun begun (trx l.of l.slot (shown_of l.word).version) → HasBegun begun id
shown_begun l id begun tag cts opened of slot is (inl never) = absurd (opened (ap (λ (x : Shown). x.tag) (sym is ∙ never)))
shown_begun l id begun tag cts opened of slot is (inr known) =
    subst (HasBegun begun) (ap (λ (k : ℕ). trx k l.slot (shown_of l.word).version) of ∙ ap (λ (k : ℕ). trx id.node k (shown_of l.word).version) slot ∙ ap (λ (x : Shown). trx id.node id.slot x.version) is) known

module _ {D : Type 0} (g : Ghosts D) (run : Run) (old : PrimaryView D) (before n : NodeView) (stands : StandsWith g run old before) (moves : Moves CoreExtends old.number before n) (reached : Reached n) (r : CorePart) (there : part_in n.parts old.number ≡ Some r) where
  -- the transaction of a word that was loaded
  pub load_named : (id : TrxId) (load : SlotLoad) (tag : SlotTag) (cts : ℕ) → tag ≢ Free → IsLoadOf r id load → shown_of load.word ≡ shows tag id.version cts → IsVersionOf old id
  load_named id load tag cts opened is shown =
      let known = known_world n reached in
      let same = known.agrees old.number r there in
      let loaded = subst (λ (x : CorePart). IsIn load x.trx.loaded) (sym same) is.loaded in
      let begun = shown_begun load id (begun_in known.world.trx load.of) tag cts opened is.of is.slot shown (known.facts.inv.trx.reliable old.number load loaded).known in
      let fits = known.facts.inv.trx.ids.versions load.of (begun_of id begun.0) begun.1 in
      let before_part = held_part before old.number stands.desk.part in
      let was = stands.agrees.1 before_part.0 before_part.1 in
      let grown = moved CoreExtends old.number before n moves before_part.0 r before_part.1 there in
      let opening : n.run.opening.trx ≡ before_part.0.trx.opening = sym (known.facts.inv.trx.carried old.number) ∙ ap (λ (x : CorePart). x.trx.opening) same ∙ grown.trx.same_opening in
      let base : n.run.opening.trx.base.version ≡ old.work.base.version = ap (λ (o : TrxOpening). o.base.version) opening ∙ ap (λ (b : Base). b.version) was.bounds.base in
      let begins : n.run.opening.trx.begins ≡ length (begin_names old.work.lines) = ap (λ (o : TrxOpening). o.begins) opening ∙ was.exact in
      let above = fits.0 in
      let within = fits.1 in
      (omega (arith, above, base), omega (arith, within, base, begins))

  -- of a row that blocks a write
  pub held_named : (own : TrxId) (key : ℕ) (id : TrxId) → IsHeldBy r own key id → IsVersionOf old id
  held_named own key id (inl h) = load_named id h.load Active 0 (λ e. absurd cc) h.is_load h.shown
  held_named own key id (inr h) = load_named id h.load Prep 0 (λ e. absurd cc) h.is_load h.shown

  pub committed_named : (own : TrxId) (key : ℕ) (id : TrxId) (cts : ℕ) → IsBlocked r own key id (shows Committed id.version cts) → IsVersionOf old id
  committed_named own key id cts h = load_named id h.load Committed cts (λ e. absurd cc) h.is_load h.shown

  -- and of one that a read met
  pub prep_named : (own : TrxId) (view key : ℕ) (id : TrxId) → IsPreparing r own view key id → IsVersionOf old id
  prep_named own view key id h = load_named id (h.in_prep).load Prep 0 (λ e. absurd cc) (h.in_prep).is_load (h.in_prep).shown
