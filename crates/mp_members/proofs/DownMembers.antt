-- Members that are down: with whose number, and whose log failed.
use Rattle.std.proofs.Common.{◌≡◌, ◌≢◌, ℕ, ◌+◌, ◌-◌, List, slice_get, Some, sym, ap, subst, ◌∙◌, ⊎_elim, arith}
use Rattle.std.proofs.lemmas.Option.{slice_get_within}
use Rattle.mp_machine.specs.Machine.{run}
use Rattle.mp_machine.specs.View.{part_in}
use Rattle.mp_core_trx.specs.Events.{IsNode}
use Rattle.mp_core.specs.declared.opening.CoreOpening.{CoreOpening}
use Rattle.mp_core.specs.declared.part.CorePart.{CorePart}
use Rattle.mp_core.specs.Downs.{down_of, DownsInv}
use Rattle.mp_core.specs.World.{CoreWorld, core_part, core}
use Rattle.mp_core.proofs.Law.{law}
use Rattle.mp_outside.specs.declared.disks.Disk.{Ghosts}
use Rattle.mp_files.specs.Nine.{DiskRose}
use Rattle.mp_files.proofs.Places.{at_place}
use Rattle.mp_shared.specs.Nodes.{Run}
use Rattle.mp_supports.specs.Work.{Work}
use Rattle.mp_verdict.specs.Orders.{NodeEntry}
use Rattle.mp_primary.specs.Primaries.{PrimaryView}
use Rattle.mp_members.specs.declared.members.Members.{Members}
use Rattle.mp_members.specs.Running.{downs_in, IsMember, AreMembers, AreSameMembers, MemberFailed}
use Rattle.mp_members.proofs.DownAt.{down_there}

module _ {D : Type 0} (g : Ghosts D) (work : Work) (m : Members D) (given : List NodeEntry) (runs : AreMembers g work m given) where
  its_opening : m.node.run.opening ≡ m.shared.opening
  its_opening = ap (λ (r : Run). r.opening) runs.run

  -- each primary of the run is a member
  pub member_of : (n : ℕ) → IsNode m.shared.opening.trx n → (pr : PrimaryView D) × (slice_get m.primaries.items (n - 1) ≡ Some pr) × IsMember g work m given n pr
  member_of n node =
      let low = node.0 in
      let high = node.1 in
      let count = runs.count in
      let at = at_place m.primaries.items (n - 1) (omega (arith, low, high, count)) in
      let here : n - 1 + 1 ≡ n = omega (arith, low) in
      (at.0, at.1, subst (λ (k : ℕ). IsMember g work m given k at.0) here (runs.each (n - 1) at.0 at.1))

  -- a world that has the parts of all primaries
  abbrev its_world : CoreWorld
  its_world = run (core m.node.run.opening) runs.reached.backed.0

  downs_inv : DownsInv m.shared.opening.trx its_world.downs
  downs_inv = subst (λ (o : CoreOpening). DownsInv o.trx its_world.downs) its_opening (law m.node.run.opening runs.reached.fair runs.reached.backed.0 runs.reached.backed.1).downs

  -- a primary is down as the world tells
  as_in_world : (n : ℕ) → IsNode m.shared.opening.trx n → (its_world.downs n).own ≡ downs_in m n
  as_in_world n node =
      let low = node.0 in
      let x = member_of n node in
      let q = runs.holds n (subst (λ (o : CoreOpening). IsNode o.trx n) (sym its_opening) node) in
      let its : core_part its_world n ≡ q.0 = runs.reached.backed.2 n q.0 q.1 in
      let told : down_of q.0 ≡ (x.0).down = x.2.told q.0 (ap (part_in m.node.parts) x.2.number ∙ q.1) in
      ap (λ (p : CorePart). down_of p) its ∙ told ∙ sym (down_there m.primaries.items (n - 1) n x.0 (omega (arith, low)) x.1)

  pub down_by_another : (n : ℕ) → IsNode m.shared.opening.trx n → downs_in m n ≢ 0 → IsNode m.shared.opening.trx (downs_in m n) × (downs_in m (downs_in m n) ≡ downs_in m n)
  down_by_another n node down =
      let here = as_in_world n node in
      let by = downs_inv.held n (λ up. down (sym here ∙ up)) in
      let its : IsNode m.shared.opening.trx (downs_in m n) = subst (IsNode m.shared.opening.trx) here by.0 in
      (its, sym (as_in_world (downs_in m n) its) ∙ ap (λ (k : ℕ). (its_world.downs k).own) (sym here) ∙ by.1 ∙ here)

-- a primary that was up, and is down with its own number, failed
pub failed_where_down : {D : Type 0} (g : Ghosts D) (work : Work) (old new : Members D) (given : List NodeEntry) (n : ℕ) → AreMembers g work new given → AreSameMembers g old new
    → IsNode new.shared.opening.trx n → downs_in old n ≡ 0 → downs_in new n ≡ n → MemberFailed g n old new
failed_where_down g work old new given n runs same node up down =
    let low = node.0 in
    let x = member_of g work new given runs n node in
    let within = slice_get_within new.primaries.items (n - 1) x.0 x.1 in
    let was = at_place old.primaries.items (n - 1) (omega (arith, within, same.count)) in
    let still = same.each (n - 1) was.0 x.0 was.1 x.1 in
    let number : n ≡ n - 1 + 1 = omega (arith, low) in
    let now : (x.0).down ≡ (x.0).number = sym (down_there new.primaries.items (n - 1) n x.0 number x.1) ∙ down ∙ sym x.2.number in
    let before : (was.0).down ≡ 0 = sym (down_there old.primaries.items (n - 1) n was.0 number was.1) ∙ up in
    record {
      place = n - 1;
      number_is = number;
      before = was.0;
      after = x.0;
      was = was.1;
      now = x.1;
      rose = ⊎_elim
          (λ (fell : (was.0).down ≡ (x.0).number). let its = x.2.number in absurd (omega (arith, fell, before, its, low)))
          (λ (rose : DiskRose g (was.0).media.log.disk (x.0).media.log.disk). rose)
          (still.fell now);
    }
