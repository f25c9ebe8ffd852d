-- A transaction begins: it may, and what the node is then.
use Rattle.std.proofs.Common.{◌≡◌, ℕ, ◌+◌, ◌<◌, ◌≤◌, List, ◌∷◌, length, Option, Some, None, Bool, true, false, nat_lt, if◌then◌else◌, refl, sym, ap, ◌∙◌, subst, arith}
use Rattle.std.proofs.lemmas.Bool.{ltb-true, ltb-false}
use Rattle.mp_machine.specs.Machine.{run}
use Rattle.mp_machine.specs.View.{part_in, with_part}
use Rattle.mp_machine.proofs.Views.{part_in-with_here}
use Rattle.mp_core_trx.specs.declared.opening.TheConstants.{SLOTS}
use Rattle.mp_core_trx.specs.declared.opening.TrxOpening.{TrxOpening}
use Rattle.mp_core_trx.specs.declared.part.Begun.{Begun}
use Rattle.mp_core_trx.specs.declared.event.TrxEvent.TheVariants.{LoadTso, StoreActive}
use Rattle.mp_machine.specs.Lists.{IsIn}
use Rattle.mp_core_trx.specs.Parts.{trx, begun_of, newest}
use Rattle.mp_core_trx.specs.World.{begun_in}
use Rattle.mp_core_trx.proofs.Bounds.{room_to_begin}
use Rattle.mp_core.specs.declared.part.CorePart.{CorePart}
use Rattle.mp_core.specs.declared.event.CoreEvent.TheVariants.{Trx}
use Rattle.mp_core.specs.World.{core_part, core_made, core}
use Rattle.mp_core.proofs.Law.{law}
use Rattle.mp_shared.specs.Nodes.{NodeView, Reached, MayTake, changed_part, Took, TookUnseen}
use Rattle.mp_shared.proofs.PageCalls.{with_part_twice}
use Rattle.mp_shared.specs.Slots.{used_by, slot_after, next_slot, CanUse}
use Rattle.mp_trx_fusion.specs.Calls.{with_trx, with_begin, MayBeginTrx}
use Rattle.mp_trx_fusion.proofs.Sights.{newest_seen}

slot_below : (b : Bool) (count slot : ℕ) → nat_lt count SLOTS ≡ b → (if b then Some count else None) ≡ Some slot → slot < SLOTS
slot_below true count slot is e = let same : count ≡ slot = cc in let below = ltb-true count SLOTS is in omega (arith, below)
slot_below false count slot is e = absurd (cc)

none_left : (b : Bool) (count : ℕ) → nat_lt count SLOTS ≡ b → (if b then Some count else None) ≡ None → SLOTS ≤ count
none_left true count is e = absurd (cc)
none_left false count is e = ltb-false count SLOTS is

-- the next slot is one of the primary's
pub next_in_range : (x : Option ℕ) (slot : ℕ) → slot_after x ≡ Some slot → slot < SLOTS
next_in_range (Some count) slot e = slot_below (nat_lt count SLOTS) count slot refl e
next_in_range None slot e = absurd (cc)

-- where there is none, as many transactions were begun as there are slots
all_used : (x : Option CorePart) (q : CorePart) → x ≡ Some q → slot_after (used_by x) ≡ None → SLOTS ≤ length q.trx.begun
all_used x q has e = let count = length q.trx.begun in none_left (nat_lt count SLOTS) count refl (sym (ap (λ y. slot_after (used_by y)) has) ∙ e)

-- which can't be where the run begins no more than that
pub some_left : (v : NodeView) (p version : ℕ) → Reached v → MayBeginTrx v p version → next_slot v p ≡ None → ¬ (v.run.opening.trx.begins ≤ SLOTS)
some_left v p version r may none few =
    let o = v.run.opening in
    let w = run (core o) r.backed.0 in
    let i = law o r.fair r.backed.0 r.backed.1 in
    let q = may.mine in
    let is : core_part w p ≡ q = r.backed.2 p q may.holds in
    let carries : q.trx.opening ≡ o.trx = sym (ap (λ (x : CorePart). x.trx.opening) is) ∙ i.trx.carried p in
    let begun : q.trx.begun ≡ begun_in w.trx p = sym (ap (λ (x : CorePart). x.trx.begun) is) in
    let room = room_to_begin o.trx w.trx i.trx p (trx p 0 version)
    (subst (λ (x : TrxOpening). x.base.version < version) carries may.above)
    (subst (λ (x : TrxOpening). version ≤ x.base.version + x.begins) carries may.within)
    (subst (λ (l : List Begun). (b : Begun) → IsIn b l → ¬ (b.id.version ≡ version)) begun may.fresh) in
    let all = all_used (part_in v.parts p) q may.holds none in
    let count : length q.trx.begun ≡ length (begun_in w.trx p) = ap length begun in
    absurd (omega (arith, room, all, count, few))

module _ (p version slot view : ℕ) (before mid : NodeView) (may : MayBeginTrx before p version) (load : Took (Trx (LoadTso p)) before view mid) where
  -- its part once it loaded the TSO
  abbrev loaded_part : CorePart
  loaded_part = core_made (Trx (LoadTso p)) view load.note may.mine

  mid_parts : mid.parts ≡ with_part before.parts p loaded_part
  mid_parts = ap (λ (x : NodeView). x.parts) load.becomes ∙ ap (changed_part before.parts p (core_made (Trx (LoadTso p)) view load.note)) may.holds

  mid_holds : part_in mid.parts p ≡ Some loaded_part
  mid_holds = ap (λ v. part_in v p) mid_parts ∙ part_in-with_here before.parts p loaded_part may.mine may.holds

  pub may_store : next_slot before p ≡ Some slot → CanUse before p slot → MayTake (Trx (StoreActive p (trx p slot version))) mid
  may_store is usable = (
    loaded_part,
    mid_holds,
    ((may.node, record { own = refl; above = may.above; within = may.within; fresh = may.fresh; in_range = next_in_range (used_by (part_in before.parts p)) slot is; usable = usable may.mine may.holds }), tt),
  )

  pub next_stays : next_slot before p ≡ Some slot → next_slot mid p ≡ Some slot
  next_stays is = ap (λ x. slot_after (used_by x)) mid_holds ∙ sym (ap (λ x. slot_after (used_by x)) may.holds) ∙ is

  -- the view is the TSO as it was loaded
  view_is : newest loaded_part.trx ≡ view
  view_is = let below = newest_seen p before mid view load may.mine may.holds in omega arith

  pub becomes : (after : NodeView) → TookUnseen (Trx (StoreActive p (trx p slot version))) mid after → after ≡ with_trx before p (with_begin (begun_of (trx p slot version) view)) 2
  becomes after store =
      let e = Trx (StoreActive p (trx p slot version)) in
      let f = core_made e store.0 store.1.note in
      let now : CorePart = record (may.mine) { trx = with_begin (begun_of (trx p slot version) view) may.mine.trx; ops = may.mine.ops + 2 } in
      let two : may.mine.ops + 1 + 1 ≡ may.mine.ops + 2 = omega arith in
      let same : f loaded_part ≡ now = λ i. record (may.mine) { trx = record (with_begin (begun_of (trx p slot version) view) may.mine.trx) { begun = begun_of (trx p slot version) (view_is i) ∷ may.mine.trx.begun }; ops = two i } in
      let parts : after.parts ≡ with_part before.parts p now =
      ap (λ (x : NodeView). x.parts) store.1.becomes ∙ ap (changed_part mid.parts p f) mid_holds ∙ ap (λ v. with_part v p (f loaded_part)) mid_parts ∙ with_part_twice before.parts p loaded_part (f loaded_part) ∙ ap (with_part before.parts p) same in
      let goal_parts : with_part before.parts p now ≡ (with_trx before p (with_begin (begun_of (trx p slot version) view)) 2).parts =
      sym (ap (changed_part before.parts p (λ q. record q { trx = with_begin (begun_of (trx p slot version) view) q.trx; ops = q.ops + 2 })) may.holds) in
      let run_is : after.run ≡ before.run = ap (λ (x : NodeView). x.run) store.1.becomes ∙ ap (λ (x : NodeView). x.run) load.becomes in
      let frames_are : after.frames ≡ before.frames = ap (λ (x : NodeView). x.frames) store.1.becomes ∙ ap (λ (x : NodeView). x.frames) load.becomes in
      λ i. record { run = run_is i; parts = (parts ∙ goal_parts) i; frames = frames_are i }
