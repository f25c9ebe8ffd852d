-- New primaries stand with the node that has the parts of all before any step, so they are the members of a run.
use Rattle.std.proofs.Common.{◌≡◌, ℕ, zero, suc, ◌+◌, ◌<◌, List, [], length, slice_get, Option, None, Some, refl, sym, ap, subst, ◌∙◌, arith}
use Rattle.std.proofs.lemmas.Option.{slice_get_within}
use Rattle.mp_machine.specs.Lists.{total}
use Rattle.mp_machine.specs.View.{part_in}
use Rattle.mp_machine.proofs.Views.{part_in-whole}
use Rattle.mp_script.specs.BeginNames.{begin_names}
use Rattle.mp_core_trx.specs.declared.opening.Base.{Base}
use Rattle.mp_core_trx.specs.Events.{IsNode}
use Rattle.mp_core_trx.specs.Parts.{drawn_by}
use Rattle.mp_core.specs.declared.part.CorePart.{CorePart}
use Rattle.mp_core.specs.World.{core_start, core_part}
use Rattle.mp_outside.specs.declared.disks.Disk.{Ghosts}
use Rattle.mp_shared.specs.Nodes.{Run, NodeView, Reached, HoldsAll, first_node}
use Rattle.mp_shared.proofs.FreshStores.{first_part, first_holds_all}
use Rattle.mp_shared.proofs.Holding.{holds_the_part}
use Rattle.mp_trx_fusion.specs.Calls.{tso_of, trx_in}
use Rattle.mp_buffer_fusion.specs.declared.buffer.Buffer.{Buffer}
use Rattle.mp_buffer_fusion.specs.Buffers.{buffer_of}
use Rattle.mp_buffer_fusion.specs.Agreement.{AgreesWith}
use Rattle.mp_buffer_fusion.proofs.Visiting.{one_part}
use Rattle.mp_supports.specs.Work.{Work}
use Rattle.mp_desk.specs.Desks.{DeskAgrees, IsAtDesk}
use Rattle.mp_primary.specs.Primaries.{PrimaryView, PrimaryAgrees, PrimaryAgreesIn, StandsWith}
use Rattle.mp_primary.specs.Downs.{IsDownAsTold}
use Rattle.mp_members.specs.declared.members.Members.{Members}
use Rattle.mp_members.specs.Running.{down_in, downs_of, IsMember, Runs}
use Rattle.mp_lineup.specs.NewMembers.{IsNewMember, AreNewMembers}

total_none : (f : ℕ → ℕ) (count : ℕ) → ((n : ℕ) → n < count → f n ≡ 0) → total f count ≡ 0
total_none f zero none = refl
total_none f (suc count) none =
    let here : f count ≡ 0 = none count (omega arith) in
    let below : total f count ≡ 0 = total_none f count (λ n less. none n (omega (arith, less))) in
    omega (arith, here, below)

-- nobody has drawn a timestamp
module _ (run : Run) where
  drawn_none : (n : ℕ) → n < run.opening.trx.primaries + 1 → drawn_by (trx_in (part_in (first_node run).parts n)) ≡ 0
  drawn_none n within = ap (λ (o : Option CorePart). drawn_by (trx_in o)) (part_in-whole (core_part (core_start run.opening)) (run.opening.trx.primaries + 1) n within)

  pub first_clock : tso_of (first_node run) ≡ run.opening.trx.base.ts
  first_clock = let none = total_none (λ n. drawn_by (trx_in (part_in (first_node run).parts n))) (run.opening.trx.primaries + 1) drawn_none in omega (arith, none)

-- new primaries are all up
pub all_up : {D : Type 0} (g : Ghosts D) (work : Work) (primaries : List (PrimaryView D)) → AreNewMembers g work primaries → (n : ℕ) → downs_of primaries n ≡ 0
all_up g work primaries new zero = refl
all_up {D} g work primaries new (suc place) = is_up (slice_get primaries place) refl
  where
    is_up : (o : Option (PrimaryView D)) → slice_get primaries place ≡ o → down_in (slice_get primaries place) ≡ 0
    is_up None is = ap (λ (o : Option (PrimaryView D)). down_in o) is
    is_up (Some pr) is = ap (λ (o : Option (PrimaryView D)). down_in o) is ∙ (new place pr is).up

module _ {D : Type 0} (g : Ghosts D) (run : Run) (reached : Reached (first_node run)) (work : Work) (p : ℕ) (pr : PrimaryView D) (new : IsNewMember g work p pr)
    (node : IsNode run.opening.trx p) (base : run.opening.trx.base ≡ work.base) (begins : run.opening.trx.begins ≡ length (begin_names work.lines)) where
  pub agrees_first : PrimaryAgreesIn g pr [] (first_node run)
  agrees_first = new.agrees run node base begins

  abbrev its_part : CorePart
  its_part = core_part (core_start run.opening) p

  has_part : part_in (first_node run).parts pr.number ≡ Some its_part
  has_part = ap (λ (k : ℕ). part_in (first_node run).parts k) new.number ∙ first_part run (first_node run) refl p node

  agrees_so : PrimaryAgrees g pr [] its_part
  agrees_so = agrees_first its_part has_part

  empty : pr.desk.pool ≡ []
  empty = (new.primary.up new.up).1

  lacks : {A : Type 0} (k : ℕ) (b : Buffer) → buffer_of pr.desk.pool k ≡ Some b → A
  lacks k b is = let none : None ≡ Some b = sym (ap (λ (l : List Buffer). buffer_of l k) empty) ∙ is in cc

  no_buffers : AgreesWith [] its_part.pages
  no_buffers = record { shows = λ k b is. absurd (cc); keeps = λ k less. absurd (omega (arith, less)) }

  desk_agrees : DeskAgrees pr.desk its_part
  desk_agrees = record {
    pool = subst (λ (l : List Buffer). AgreesWith l its_part.pages) (sym empty) no_buffers;
    not_below = agrees_so.mirrors.not_below;
    not_above = agrees_so.mirrors.not_above;
    seen = λ k b is. lacks k b is;
    undo_page = agrees_so.mirrors.undo_page;
  }

  at_first : IsAtDesk run pr.desk pr.number (first_node run)
  at_first = record {
    its_run = refl;
    reached = reached;
    part = holds_the_part (first_node run) pr.number its_part has_part (subst (IsNode run.opening.trx) (sym new.number) node);
    frames = refl;
    agrees = λ q has. subst (DeskAgrees pr.desk) (one_part (part_in (first_node run).parts pr.number) its_part q has_part has) desk_agrees;
    written = λ k b is. lacks k b is;
  }

  pub stands_first : StandsWith g run pr (first_node run)
  stands_first = record { primary = new.primary; desk = at_first; agrees = ([], agrees_first) }

module _ {D : Type 0} (g : Ghosts D) (work : Work) (m : Members D) (node : m.node ≡ first_node m.shared) (reached : Reached m.node)
    (base : m.shared.opening.trx.base ≡ work.base) (begins : m.shared.opening.trx.begins ≡ length (begin_names work.lines))
    (count : length m.primaries.items ≡ m.shared.opening.trx.primaries) (new : AreNewMembers g work m.primaries.items) where
  at_first_node : Reached (first_node m.shared)
  at_first_node = subst Reached node reached

  is_member : (place : ℕ) (pr : PrimaryView D) → slice_get m.primaries.items place ≡ Some pr → IsMember g work m [] (place + 1) pr
  is_member place pr at =
      let its = new place pr at in
      let within = slice_get_within m.primaries.items place pr at in
      let is_node : IsNode m.shared.opening.trx (place + 1) = (omega arith, omega (arith, within, count)) in
      record {
        number = its.number;
        work_is = its.work_is;
        stands = subst (StandsWith g m.shared pr) (sym node) (stands_first g m.shared at_first_node work (place + 1) pr its is_node base begins);
        agrees = subst (PrimaryAgreesIn g pr []) (sym node) (agrees_first g m.shared at_first_node work (place + 1) pr its is_node base begins);
        told = subst (IsDownAsTold pr) (sym node) (its.told m.shared is_node);
        may_turn = its.may_turn;
      }

  pub runs_first : m.order.items ≡ [] → Runs g work m []
  runs_first order = record {
    members = record {
      run = ap (λ (n : NodeView). n.run) node;
      base = base;
      begins = begins;
      holds = subst HoldsAll (sym node) (first_holds_all m.shared (first_node m.shared) refl);
      reached = reached;
      frames = ap (λ (n : NodeView). n.frames) node;
      count = count;
      each = is_member;
      answered = tt;
      of_nodes = tt;
    };
    order = order;
    rising = tt;
    views = tt;
    clock = let first = ap (λ (n : NodeView). tso_of n) node ∙ first_clock m.shared in let ts = ap (λ (b : Base). b.ts) base in omega (arith, first, ts);
    greatest = let first = ap (λ (n : NodeView). tso_of n) node ∙ first_clock m.shared in let ts = ap (λ (b : Base). b.ts) base in omega (arith, first, ts);
  }
