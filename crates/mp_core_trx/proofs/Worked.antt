-- What the small lists of steps show.
use Rattle.std.proofs.Common.{◌≡◌, ℕ, ◌+◌, ◌^◌, List, [], ◌∷◌, None, Some, inl, inr, ⊎_elim, refl, arith, lit≤, lit<, ap}
use Rattle.mp_machine.specs.Machine.{run_from}
use Rattle.mp_machine.specs.Lists.{IsIn}
use Rattle.mp_core_trx.specs.declared.slot.SlotTag.TheVariants.{Active, Prep}
use Rattle.mp_core_trx.specs.declared.part.Begun.{Begun}
use Rattle.mp_core_trx.specs.declared.part.Draw.{Draw}
use Rattle.mp_core_trx.specs.declared.event.TrxEvent.{TrxEvent}
use Rattle.mp_core_trx.specs.declared.event.TrxEvent.TheVariants.{LoadTso, StoreActive, StorePrep, DrawTso, StoreEnd, LoadTit}
use Rattle.mp_core_trx.specs.declared.slot.Shown.{Shown}
use Rattle.mp_core_trx.specs.Words.{shows, shown_of}
use Rattle.mp_core_trx.specs.Parts.{trx, begun_of, draw_of}
use Rattle.mp_core_trx.specs.Events.{at_tso, at_slot, IsNode, MayStoreActive}
use Rattle.mp_core_trx.specs.World.{TrxWorld, trx_content, trx_start, transactions}
use Rattle.mp_core_trx.specs.Examples.{two_primaries, MayRun, first_trx, begun_then, drawn_then, one_commit}

abbrev to : List TrxEvent → TrxWorld
to events = run_from (transactions two_primaries) (trx_start two_primaries) events

-- primary 1 begins with version 1: its id is 1.0.1, and its view 0
its_view : ((to (begun_then [])).part 1).begun ≡ begun_of first_trx 0 ∷ []
its_view = refl

shows_active : shown_of (trx_content (to (begun_then [])) (at_slot 1 0)) ≡ shows Active 1 0
shows_active = refl

-- its slot shows PREP, and later COMMITTED at 1, and primary 2 sees 1
shows_prep : trx_content (to (begun_then (StorePrep 1 first_trx ∷ []))) (at_slot 1 0) ≡ 6
shows_prep = refl

shows_committed : trx_content (to one_commit) (at_slot 1 0) ≡ 3 + 4 + 2 ^ 26
shows_committed = refl

sees_one : ((to one_commit).part 2).seen ≡ 1 ∷ []
sees_one = refl

counts_one : trx_content (to one_commit) at_tso ≡ 1
counts_one = refl

first_is_node : IsNode two_primaries 1
first_is_node = (lit≤ tt, lit≤ tt)

second_is_node : IsNode two_primaries 2
second_is_node = (lit≤ tt, lit≤ tt)

begins_first : MayStoreActive ((to (LoadTso 1 ∷ [])).part 1) 1 first_trx
begins_first = record { own = refl; above = lit< tt; within = lit≤ tt; fresh = λ b h. absurd h; in_range = lit< tt; usable = refl }

pub commit : MayRun one_commit
commit = (
  ([], (first_is_node, tt)),
  (
    ([], (first_is_node, begins_first)),
    (
      ([], (first_is_node, ((0, inl refl), refl))),
      (
        ([], (first_is_node, ((0, inl refl), refl, λ cts h. h))),
        (
          ([], (first_is_node, (((0, inl refl), inr refl), inl refl))),
          (
            ([], (second_is_node, (first_is_node, lit< tt))),
            (
              ([], (second_is_node, tt)),
              tt,
            ),
          ),
        ),
      ),
    ),
  ),
)

pub free : MayRun (begun_then (StoreEnd 1 first_trx None ∷ []))
free = (
  ([], (first_is_node, tt)),
  (
    ([], (first_is_node, begins_first)),
    (
      ([], (first_is_node, (((0, inl refl), inl refl), λ cts h. h))),
      tt,
    ),
  ),
)

-- the first one's version isn't 2
is_other : (b : Begun) → IsIn b (begun_of first_trx 0 ∷ []) → ¬ (b.id.version ≡ 2)
is_other b h same =
    ⊎_elim
    (λ (is : b ≡ begun_of first_trx 0). let v : b.id.version ≡ 1 = ap (λ (x : Begun). x.id.version) is in absurd (omega arith))
    (λ (none : ⊥). none)
    h

pub two : MayRun (begun_then (StoreActive 1 (trx 1 1 2) ∷ []))
two = (
  ([], (first_is_node, tt)),
  (
    ([], (first_is_node, begins_first)),
    (
      ([], (first_is_node, record { own = refl; above = lit< tt; within = lit≤ tt; fresh = λ b h. is_other b h; in_range = lit< tt; usable = refl })),
      tt,
    ),
  ),
)

active_is_not_prep : Active ≡ Prep → ⊥
active_is_not_prep e = cc

pub no_early_draw : ¬ MayRun (begun_then (DrawTso 1 first_trx ∷ []))
no_early_draw h = let may = h.1.1.0.1.1 in active_is_not_prep (ap (λ (x : Shown). x.tag) may.1)

prep_is_not_active : Prep ≡ Active → ⊥
prep_is_not_active e = cc

pub no_second_prep : ¬ MayRun (begun_then (StorePrep 1 first_trx ∷ StorePrep 1 first_trx ∷ []))
no_second_prep h = let may = h.1.1.1.0.1.1 in prep_is_not_active (ap (λ (x : Shown). x.tag) may.1)

pub no_second_draw : ¬ MayRun (drawn_then (DrawTso 1 first_trx ∷ []))
no_second_draw h = let may = h.1.1.1.1.0.1.1 in may.2 1 (inl refl)

pub no_foreign_timestamp : ¬ MayRun (drawn_then (StoreEnd 1 first_trx (Some 2) ∷ []))
no_foreign_timestamp h =
    let may = h.1.1.1.1.0.1.1 in
    ⊎_elim
    (λ (e : draw_of first_trx 2 ≡ draw_of first_trx 1). let c : ◌≡◌ {A = ℕ} 2 1 = ap (λ (d : Draw). d.cts) e in absurd (omega arith))
    (λ (none : ⊥). none)
    may.1

pub no_end_without : ¬ MayRun (drawn_then (StoreEnd 1 first_trx None ∷ []))
no_end_without h = let may = h.1.1.1.1.0.1.1 in may.1 1 (inl refl)

pub no_slot_twice : ¬ MayRun (begun_then (StoreActive 1 (trx 1 0 2) ∷ []))
no_slot_twice h =
    let may = h.1.1.0.1.1 in
    let v : ◌≡◌ {A = ℕ} 1 0 = ap (λ (x : Shown). x.version) may.usable in
    absurd (omega arith)

pub no_version_twice : ¬ MayRun (begun_then (StoreActive 1 (trx 1 1 1) ∷ []))
no_version_twice h = let may = h.1.1.0.1.1 in may.fresh (begun_of first_trx 0) (inl refl) refl

pub no_begin_for_another : ¬ MayRun (StoreActive 2 first_trx ∷ [])
no_begin_for_another h =
    let may = h.0.1.1 in
    let v : ◌≡◌ {A = ℕ} 1 2 = may.own in
    absurd (omega arith)

pub no_slot_beyond : ¬ MayRun (LoadTit 1 2 5032 ∷ [])
no_slot_beyond h = let may = h.0.1.1 in let below = may.1 in absurd (omega arith)
