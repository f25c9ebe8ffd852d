-- A commit record may be made, and the log has room for it.
use Rattle.std.proofs.Common.{◌≡◌, ℕ, ◌+◌, ◌^◌, ◌<◌, ◌≤◌, true, length, Some, refl, sym, ap, subst, inr, arith}
use Rattle.std.proofs.lemmas.Bool.{le-leb, lt-ltb, false≢true}
use Rattle.mp_machine.specs.Lists.{IsIn}
use Rattle.mp_machine.specs.View.{part_in}
use Rattle.mp_model.specs.declared.ids.TrxId.{TrxId}
use Rattle.mp_cells.specs.declared.records.Mtr.{Mtr}
use Rattle.mp_cells.specs.Rows.{is_writer}
use Rattle.mp_cells.specs.Mtrs.{IsMtr}
use Rattle.mp_redo.specs.Spelling.{mtr_bytes}
use Rattle.mp_core_trx.specs.declared.part.Draw.{Draw}
use Rattle.mp_core_trx.specs.Events.{IsNode}
use Rattle.mp_core_trx.specs.Parts.{draw_of, begun_of, HasBegun}
use Rattle.mp_core_trx.specs.Invariant.{TrxInv}
use Rattle.mp_core_trx.proofs.Bounds.{tso_fits}
use Rattle.mp_core_pages.specs.declared.opening.TheConstants.{MOST_MTRS}
use Rattle.mp_core_pages.specs.declared.event.PagesEvent.TheVariants.{StoreLlsn}
use Rattle.mp_core_pages.specs.PageEvents.{MayMake}
use Rattle.mp_core.specs.declared.part.CorePart.{CorePart}
use Rattle.mp_core.specs.declared.event.CoreEvent.TheVariants.{Pages}
use Rattle.mp_core.specs.Contents.{page_ops}
use Rattle.mp_core.specs.MtrKinds.{MayRecordCommit, MayLog}
use Rattle.mp_shared.specs.Nodes.{Run, NodeView, MayTake}
use Rattle.mp_shared.proofs.Holding.{held_part}
use Rattle.mp_shared.proofs.Numbered.{numbered}
use Rattle.mp_desk.specs.declared.desk.Desk.{Desk}
use Rattle.mp_desk.specs.Desks.{IsAtDesk}
use Rattle.mp_desk.specs.Making.{mtr_of_commit}
use Rattle.mp_desk.proofs.ReachedFacts.{KnownWorld, known_world}
use Rattle.mp_desk.proofs.MtrMade.{llsn_fits}

-- its bytes
pub commit_size : (p llsn : ℕ) (id : TrxId) (cts : ℕ) → length (mtr_bytes (mtr_of_commit p llsn id cts)) ≡ 27
unfolding mtr_bytes
commit_size p llsn id cts = refl

pub ranges_writer : (id : TrxId) → 1 ≤ id.node → id.node ≤ 8 → id.slot < 8192 → 1 ≤ id.version → id.version < 2 ^ 24 → is_writer id ≡ true
ranges_writer id a b c d e =
    rw (le-leb 1 id.node a) (rw (le-leb id.node 8 b) (rw (lt-ltb id.slot 8192 c) (rw (le-leb 1 id.version d) (rw (lt-ltb id.version (2 ^ 24) e) refl))))

same_draw : (id other : TrxId) (cts at : ℕ) → Some (draw_of id cts) ≡ Some (draw_of other at) → draw_of id cts ≡ draw_of other at
same_draw id other cts at e = cc

module _ (run : Run) (desk : Desk) (p : ℕ) (n : NodeView) (at : IsAtDesk run desk p n) (id : TrxId) (cts : ℕ)
    (may : (q : CorePart) → part_in n.parts p ≡ Some q → MayRecordCommit q (mtr_of_commit p (desk.llsn + 1) id cts))
    (few : (q : CorePart) → part_in n.parts p ≡ Some q → length q.pages.made < MOST_MTRS) where
  abbrev m : Mtr
  m = mtr_of_commit p (desk.llsn + 1) id cts

  abbrev q : CorePart
  q = (held_part n p at.part).0

  has : part_in n.parts p ≡ Some q
  has = (held_part n p at.part).1

  node : IsNode q.trx.opening p
  node = (held_part n p at.part).2

  abbrev known : KnownWorld n
  known = known_world n at.reached

  make : MayMake page_ops q.trx.opening.base.llsn q.pages p m
  make =
      let agrees = at.agrees q has in
      record {
        own = refl;
        above = let below = agrees.not_below in omega (arith, below);
        next = let most = agrees.not_above in omega (arith, most);
        few = few q has;
        touched = λ k touch. absurd (false≢true touch);
        prevs = tt;
      }

  pub commit_llsn : desk.llsn + 1 < 2 ^ 62
  commit_llsn = llsn_fits n.run.opening at.reached.fair known.world known.facts.inv p q (known.agrees p q has) m node make

  most_node : p ≤ 8
  most_node = numbered n at.reached p q has node

  record_is : draw_of id cts ≡ draw_of (may q has).id (may q has).cts
  record_is = same_draw id (may q has).id cts (may q has).cts (may q has).records

  begun : HasBegun (known.world.trx.part p).begun id
  begun =
      subst (λ (r : CorePart). HasBegun r.trx.begun id) (sym (known.agrees p q has))
      (subst (HasBegun q.trx.begun) (sym (ap (λ (d : Draw). d.id) record_is)) (may q has).begun)

  drawn : IsIn (draw_of id cts) (known.world.trx.part p).drew
  drawn =
      subst (λ (r : CorePart). IsIn (draw_of id cts) r.trx.drew) (sym (known.agrees p q has))
      (subst (λ (d : Draw). IsIn d q.trx.drew) (sym record_is) (may q has).drawn)

  trx : TrxInv n.run.opening.trx known.world.trx
  trx = known.facts.inv.trx

  writer : is_writer id ≡ true
  writer =
      let b = begun_of id begun.0 in
      let own = trx.ids.own p b begun.1 in
      let versions = trx.ids.versions p b begun.1 in
      let slot = trx.ids.slots p b begun.1 in
      let fits = at.reached.fair.trx.versions_fit in
      ranges_writer id (let one = node.0 in omega (arith, one, own)) (let most = most_node in omega (arith, most, own)) (omega (arith, slot))
      (let above = versions.0 in omega (arith, above)) (let below = versions.1 in omega (arith, below, fits))

  commit_is_mtr : IsMtr m
  commit_is_mtr = record {
    node_least = node.0;
    node_most = most_node;
    llsn_least = omega arith;
    llsn = commit_llsn;
    records =
        let within = trx.draws.within p (draw_of id cts) drawn in
        let above = within.0 in
        let below = within.1 in
        let fits = tso_fits n.run.opening.trx known.world.trx trx at.reached.fair.trx in
        (writer, omega (arith, above), omega (arith, below, fits));
  }

  commit_may_log : MayLog q m
  commit_may_log = record { mtr = commit_is_mtr; meets = tt; kind = inr (inr (may q has)) }

  pub may_store_commit : MayTake (Pages (StoreLlsn p m)) n
  may_store_commit = (q, has, (node, make, commit_may_log))
