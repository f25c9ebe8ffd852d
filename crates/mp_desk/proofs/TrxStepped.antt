-- What a step of transactions leaves of a node.
use Rattle.std.proofs.Common.{◌≡◌, ℕ, ◌+◌, List, length, Option, Some, refl, sym, ap, subst, ◌∙◌, inl, arith}
use mathlib.Core.Logic.{dite}
use native.Mathlib.Decide.{ℕ_discrete}
use Rattle.mp_machine.specs.View.{part_in}
use Rattle.mp_machine.specs.Lists.{total}
use Rattle.mp_machine.proofs.Lists.{grows_refl, grows_one, total_same}
use Rattle.mp_model.specs.declared.ids.TrxId.{TrxId}
use Rattle.mp_core_trx.specs.declared.opening.TrxOpening.{TrxOpening}
use Rattle.mp_core_trx.specs.declared.part.Draw.{Draw}
use Rattle.mp_core_trx.specs.declared.part.TrxPart.{TrxPart}
use Rattle.mp_core_trx.specs.declared.slot.SlotTag.TheVariants.{Prep}
use Rattle.mp_core_trx.specs.Events.{IsNode, slot_row, ended, with_prep, with_draw, with_end}
use Rattle.mp_core_trx.specs.Parts.{PartExtends, draw_of, drawn_by}
use Rattle.mp_core_trx.specs.Words.{shows}
use Rattle.mp_core_pages.proofs.Growth.{pages_extends_refl}
use Rattle.mp_core.specs.declared.part.CorePart.{CorePart}
use Rattle.mp_core.specs.CoreExtends.{durable_of, CoreExtends}
use Rattle.mp_outside.specs.declared.disks.Disk.{Ghosts}
use Rattle.mp_core.proofs.Downs.{downs_extend_refl}
use Rattle.mp_shared.specs.Nodes.{Run, NodeView, HoldsPart, HoldsAll, Reached}
use Rattle.mp_shared.specs.PageSteps.{held_in}
use Rattle.mp_shared.proofs.Holding.{held_part}
use Rattle.mp_trx_fusion.specs.Calls.{with_trx, trx_in, tso_of, KnowsLess}
use Rattle.mp_trx_fusion.proofs.Callers.{part_here, part_else}
use Rattle.mp_buffer_fusion.proofs.Visiting.{one_part, held_is}
use Rattle.mp_supports.specs.Work.{Work}
use Rattle.mp_supports.specs.Steps.{TrxStep}
use Rattle.mp_desk.specs.declared.desk.Desk.{Desk}
use Rattle.mp_desk.specs.declared.media.Media.{Media}
use Rattle.mp_desk.specs.Desks.{Moves, IsAtDesk}
use Rattle.mp_desk.specs.Making.{MediaAgree}
use Rattle.mp_desk.proofs.TrxAlong.{at_desk_trx, media_trx}
use Rattle.mp_desk.proofs.AtDesk.{newest_grows}

-- ---- the parts

pub extends_prep : (id : TrxId) (q : TrxPart) → PartExtends q (with_prep id q)
extends_prep id q = record {
  same_opening = refl;
  more_begun = grows_refl q.begun;
  more_rows = grows_one q.rows (slot_row id (shows Prep id.version 0));
  more_drawn = grows_refl q.drew;
  more_seen = grows_refl q.seen;
  more_loaded = grows_refl q.loaded;
}

pub extends_draw : (id : TrxId) (cts : ℕ) (q : TrxPart) → PartExtends q (with_draw id cts q)
extends_draw id cts q = record {
  same_opening = refl;
  more_begun = grows_refl q.begun;
  more_rows = grows_refl q.rows;
  more_drawn = grows_one q.drew (draw_of id cts);
  more_seen = grows_one q.seen cts;
  more_loaded = grows_refl q.loaded;
}

pub extends_end : (id : TrxId) (cts : Option ℕ) (q : TrxPart) → PartExtends q (with_end id cts q)
extends_end id cts q = record {
  same_opening = refl;
  more_begun = grows_refl q.begun;
  more_rows = grows_one q.rows (slot_row id (ended id cts));
  more_drawn = grows_refl q.drew;
  more_seen = grows_refl q.seen;
  more_loaded = grows_refl q.loaded;
}

-- the part after a change of its transactions
abbrev pub trx_changed : (TrxPart → TrxPart) → ℕ → CorePart → CorePart
trx_changed f steps q = record q { trx = f q.trx; ops = q.ops + steps }

pub trx_step : (q : CorePart) (f : TrxPart → TrxPart) (steps : ℕ) → PartExtends q.trx (f q.trx) → TrxStep q (trx_changed f steps q)
trx_step q f steps more = record {
  extends = record {
    trx = more;
    pages = pages_extends_refl q.pages;
    durable = let same = ap (λ (o : TrxOpening). durable_of (record q { trx = record (q.trx) { opening = o } })) more.same_opening in omega (arith, same);
    made_later = λ x there. inl there;
    given_later = λ g there. inl there;
    downs = downs_extend_refl q.downs;
  };
  pages = refl;
}

-- ---- the node

module _ (p : ℕ) (a b : NodeView) (f : TrxPart → TrxPart) (steps : ℕ) (is : b ≡ with_trx a p f steps) (q : CorePart) (has : part_in a.parts p ≡ Some q) (more : PartExtends q.trx (f q.trx)) where
  pub trx_there : part_in b.parts p ≡ Some (trx_changed f steps q)
  trx_there = part_here a b p f steps is q has

  pub moves_trx : (So : CorePart → CorePart → Type 0) → So q (trx_changed f steps q) → Moves So p a b
  moves_trx So so = record {
    run = ap (λ (n : NodeView). n.run) is;
    frames = ap (λ (n : NodeView). n.frames) is;
    others = λ k other. part_else a b p f steps is k other;
    mine = λ r there.
        let same : q ≡ r = one_part (part_in a.parts p) q r has there in
        (trx_changed f steps q, trx_there, subst (λ (x : CorePart). So x (trx_changed f steps q)) same so, ap (λ (x : CorePart). x.downs) same);
  }

  pub trx_locks : (k : ℕ) → held_in b p k ≡ held_in a p k
  trx_locks k = held_is b p k (trx_changed f steps q) trx_there ∙ sym (held_is a p k q has)

  moves_step : Moves TrxStep p a b
  moves_step = moves_trx TrxStep (trx_step q f steps more)

  pub trx_at_desk : (run : Run) (desk : Desk) → IsAtDesk run desk p a → Reached b → IsAtDesk run desk p b
  trx_at_desk run desk at reached = at_desk_trx run desk p a b at moves_step reached

  pub trx_media : {D : Type 0} (g : Ghosts D) (work : Work) (down : ℕ) (media : Media D) → HoldsPart a p → MediaAgree g work down media p a → MediaAgree g work down media p b
  trx_media g work down media held agree = media_trx g work p down media a b held moves_step agree

-- ---- what was drawn

-- a timestamp above all that a part knows then is above all that it knew
pub knows_less_before : (p cts : ℕ) (a b : NodeView) → Moves CoreExtends p a b → KnowsLess b p cts → KnowsLess a p cts
knows_less_before p cts a b moves less q has =
    let now = moves.mine q has in
    let more = newest_grows q.trx (now.0).trx now.2.trx in
    let above = less now.0 now.1 in
    omega (arith, more, above)

-- the part drew what it had drawn
abbrev pub DrewTheSame : CorePart → CorePart → Type 0
DrewTheSame q r = r.trx.drew ≡ q.trx.drew

module _ (p : ℕ) (a b : NodeView) (held : HoldsPart a p) (moves : Moves DrewTheSame p a b) where
  drawn_same : (k : ℕ) → drawn_by (trx_in (part_in b.parts k)) ≡ drawn_by (trx_in (part_in a.parts k))
  drawn_same k =
      dite (ℕ_discrete k p)
      (λ same.
      let has = held_part a p held in
      let now = moves.mine has.0 has.1 in
      ap (λ (o : Option CorePart). drawn_by (trx_in o)) (ap (part_in b.parts) same ∙ now.1)
      ∙ ap (λ (l : List Draw). length l) now.2
      ∙ sym (ap (λ (o : Option CorePart). drawn_by (trx_in o)) (ap (part_in a.parts) same ∙ has.1)))
      (λ other. ap (λ (o : Option CorePart). drawn_by (trx_in o)) (moves.others k other))

  pub tso_same : tso_of b ≡ tso_of a
  tso_same =
      ap (λ (r : Run). r.opening.trx.base.ts + total (λ k. drawn_by (trx_in (part_in b.parts k))) (r.opening.trx.primaries + 1)) moves.run
      ∙ ap (λ (n : ℕ). a.run.opening.trx.base.ts + n)
      (total_same (λ k. drawn_by (trx_in (part_in b.parts k))) (λ k. drawn_by (trx_in (part_in a.parts k))) (a.run.opening.trx.primaries + 1) (λ k below. drawn_same k))

  pub holds_all : HoldsAll a → HoldsAll b
  holds_all all k node =
      dite (ℕ_discrete k p)
      (λ same.
      let has = held_part a p held in
      let now = moves.mine has.0 has.1 in
      (now.0, ap (part_in b.parts) same ∙ now.1))
      (λ other.
      let has = all k (subst (λ (r : Run). IsNode r.opening.trx k) moves.run node) in
      (has.0, moves.others k other ∙ has.1))
