-- The invariant holds wherever allowed events lead, and who holds all parts knows the timestamp oracle.
use Rattle.std.proofs.Common.{◌≡◌, ℕ, zero, suc, ◌+◌, ◌*◌, ◌<◌, ◌≤◌, Option, None, Some, List, [], ◌∷◌, length, refl, sym, ap, ◌∙◌, subst, inl, arith}
use mathlib.Core.Logic.{dite}
use native.Mathlib.Decide.{ℕ_discrete}
use Rattle.mp_machine.specs.Machine.{run, AllAllowed, run_from, AllowedFrom}
use Rattle.mp_machine.proofs.Time.{kept, in_time}
use Rattle.mp_core_trx.specs.declared.opening.TrxOpening.{TrxOpening}
use Rattle.mp_core_trx.specs.declared.slot.SlotTag.TheVariants.{Committed}
use Rattle.mp_core_trx.specs.declared.part.TrxPart.{TrxPart}
use Rattle.mp_core_trx.specs.declared.event.TrxEvent.{TrxEvent}
use Rattle.mp_core_trx.specs.declared.event.TrxEvent.TheVariants.{LoadTso}
use Rattle.mp_machine.specs.Lists.{total}
use Rattle.mp_core_trx.specs.Words.{shows}
use Rattle.mp_core_trx.specs.Parts.{greatest_seen, newest, unused, drawn_by, drawn_by_all}
use Rattle.mp_core_trx.specs.Events.{IsNode}
use Rattle.mp_core_trx.specs.World.{TrxWorld, trx_part_after, begun_in, tso_seen_in, loaded_in, trx_start, TrxNumbersFit, transactions, drawn_in}
use Rattle.mp_core_trx.specs.Invariant.{SlotIsRight, TrxInv}
use Rattle.mp_machine.proofs.Lists.{total_same}
use Rattle.mp_core_trx.proofs.Sight.{greatest_at_load}
use Rattle.mp_core_trx.proofs.SlotWords.{two_tags}
use Rattle.mp_core_trx.proofs.Keeps.{keeps_inv}
use Rattle.mp_core_trx.proofs.Bounds.{none_drawn_by_nobody, tso_within}

total_zero : (count : ℕ) → total (λ _. 0) count ≡ 0
total_zero zero = refl
total_zero (suc count) = let rest = total_zero count in omega arith

unused_is_right : (n slot : ℕ) → SlotIsRight n slot [] [] unused
unused_is_right n slot = record {
  known = inl refl;
  active = λ id h at is. absurd h.1;
  free = λ id h at is. absurd h.1;
  committed = λ version cts is. two_tags unused (shows Committed version cts) is (λ e. absurd (omega arith));
  stamped = inl refl;
}

pub inv_start : (o : TrxOpening) → TrxInv o (trx_start o)
inv_start o = record {
  carried = λ n. refl;
  ids = record { nodes = λ n b h. absurd h; own = λ n b h. absurd h; slots = λ n b h. absurd h; versions = λ n b h. absurd h; differ = λ n. tt };
  draws = record {
    within = λ n d h. absurd h;
    none_missing = λ cts above at. absurd (omega arith);
    by_one = λ n m d e h g same. absurd h;
    counted = let none = total_zero (o.primaries + 1) in omega arith;
  };
  drawers = record { had_begun = λ n d h. absurd h; once = λ n. tt };
  sight = record { from_base = omega arith; values = λ n v h. absurd h; views = λ n b h. absurd h; loads = λ n l h. absurd h };
  slots = unused_is_right;
  once = λ n id h. absurd h.1;
  reliable = λ n l h. absurd h;
}

module _ (o : TrxOpening) (fair : TrxNumbersFit o) where
  -- with the last event first
  pub law : (es : List TrxEvent) → AllAllowed (transactions o) es → TrxInv o (run (transactions o) es)
  law = kept (transactions o) (TrxInv o) (inv_start o) (λ es e all i. keeps_inv o fair (run (transactions o) es) e i all.0.1)

  -- and in the order of time
  pub law_in_time : (events : List TrxEvent) → AllowedFrom (transactions o) (trx_start o) events → TrxInv o (run_from (transactions o) (trx_start o) events)
  law_in_time = in_time (transactions o) (TrxInv o) law

  pub bound_in_time : (events : List TrxEvent) → AllowedFrom (transactions o) (trx_start o) events → (run_from (transactions o) (trx_start o) events).tso ≤ o.base.ts + 8 * o.begins
  bound_in_time events all = tso_within o (run_from (transactions o) (trx_start o) events) (law_in_time events all) fair

held_of_nobody : (o : TrxOpening) (w : TrxWorld) → TrxInv o w → (held : Option TrxPart) → ((p : TrxPart) → held ≡ Some p → w.part 0 ≡ p) → length (drawn_in w 0) ≡ drawn_by held
held_of_nobody o w i None agrees = none_drawn_by_nobody o w i
held_of_nobody o w i (Some p) agrees = ap (λ (q : TrxPart). length q.drew) (agrees p refl)

-- who holds the parts of all nodes knows how many timestamps were drawn
pub tso_exact : (o : TrxOpening) (w : TrxWorld) → TrxInv o w → (held : ℕ → Option TrxPart) → ((n : ℕ) (p : TrxPart) → held n ≡ Some p → w.part n ≡ p) → ((n : ℕ) → IsNode o n → (p : TrxPart) × (held n ≡ Some p))
    → w.tso ≡ o.base.ts + drawn_by_all o held
tso_exact o w i held agrees all =
    let each : (n : ℕ) → n < o.primaries + 1 → length (drawn_in w n) ≡ drawn_by (held n) =
    λ n below.
    dite (ℕ_discrete n 0)
    (λ nobody. subst (λ k. length (drawn_in w k) ≡ drawn_by (held k)) (sym nobody) (held_of_nobody o w i (held 0) (agrees 0)))
    (λ some. let has = all n (omega arith, omega arith) in ap (λ (p : TrxPart). length p.drew) (agrees n has.0 has.1) ∙ ap drawn_by (sym has.1)) in
    i.draws.counted ∙ ap (λ k. o.base.ts + k) (total_same (λ n. length (drawn_in w n)) (λ n. drawn_by (held n)) (o.primaries + 1) each)

-- the view of a transaction that begins after a load of the TSO is the TSO as it was loaded
pub newest_after_load : (o : TrxOpening) (w : TrxWorld) → TrxInv o w → (n : ℕ) → newest (trx_part_after w (LoadTso n)) ≡ w.tso
newest_after_load o w i n =
    ap (λ (x : TrxOpening). greatest_seen x.base.ts (w.tso ∷ tso_seen_in w n)) (i.carried n) ∙ greatest_at_load o.base.ts w.tso (begun_in w) (tso_seen_in w) (loaded_in w) i.sight n
