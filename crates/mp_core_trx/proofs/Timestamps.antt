-- A draw gives the next timestamp, to a transaction that had none.
use Rattle.std.proofs.Common.{◌≡◌, ℕ, ◌+◌, ◌<◌, ◌≤◌, List, refl, sym, ap, ◌∙◌, subst, ⊎_elim, arith}
use mathlib.Core.Logic.{dite}
use native.Mathlib.Decide.{ℕ_discrete}
use Rattle.mp_model.specs.declared.ids.TrxId.{TrxId}
use Rattle.mp_core_trx.specs.declared.opening.TrxOpening.{TrxOpening}
use Rattle.mp_core_trx.specs.declared.part.Begun.{Begun}
use Rattle.mp_core_trx.specs.declared.part.Draw.{Draw}
use Rattle.mp_machine.specs.Lists.{IsIn, pushed}
use Rattle.mp_core_trx.specs.Parts.{draw_of, HasBegun, HasDrawnNothing}
use Rattle.mp_core_trx.specs.Events.{IsNode}
use Rattle.mp_core_trx.specs.Invariant.{Ids, Draws, Drawers}
use Rattle.mp_machine.proofs.Lists.{in_pushed, in_more, in_new, each_pushed, differ_pushed, same_item, total_length_pushed}
use Rattle.mp_core_trx.proofs.Ids.{begun_more, same_id}

pub draws_draw : (o : TrxOpening) (tso : ℕ) (drew : ℕ → List Draw) (n : ℕ) (id : TrxId) → Draws o tso drew → IsNode o n → Draws o (tso + 1) (pushed drew n (draw_of id (tso + 1)))
draws_draw o tso drew n id d node =
    let new = draw_of id (tso + 1) in
    let count = d.counted in
    record {
      within = each_pushed (λ _ x. (o.base.ts < x.cts) × (x.cts ≤ tso + 1)) drew n new (λ k x h. let was = d.within k x h in (was.0, omega arith)) (omega arith, omega arith);
      none_missing = λ cts above at.
          dite (ℕ_discrete cts (tso + 1))
          (λ last. (n, id, subst (λ c. IsIn (draw_of id c) (pushed drew n new n)) (sym last) (in_new drew n new)))
          (λ other. let was = d.none_missing cts above (omega arith) in (was.0, was.1, in_more drew n new was.0 (draw_of was.1 cts) was.2));
      by_one = λ k m x y h g same.
          ⊎_elim
          (λ (a : (k ≡ n) × (x ≡ new)).
          ⊎_elim
          (λ (b : (m ≡ n) × (y ≡ new)). (a.0 ∙ sym b.0, a.1 ∙ sym b.1))
          (λ (b : IsIn y (drew m)). let old = d.within m y b in let is = ap (λ (z : Draw). z.cts) a.1 in absurd (omega arith))
          (in_pushed drew n new m y g))
          (λ (a : IsIn x (drew k)).
          ⊎_elim
          (λ (b : (m ≡ n) × (y ≡ new)). let old = d.within k x a in let is = ap (λ (z : Draw). z.cts) b.1 in absurd (omega arith))
          (λ (b : IsIn y (drew m)). d.by_one k m x y a b same)
          (in_pushed drew n new m y g))
          (in_pushed drew n new k x h);
      counted = let more = total_length_pushed drew n new (o.primaries + 1) (omega arith) in omega arith;
    }

pub drawers_draw : (o : TrxOpening) (begun : ℕ → List Begun) (drew : ℕ → List Draw) (n : ℕ) (id : TrxId) (cts : ℕ) → Ids o begun → Drawers begun drew → HasBegun (begun n) id → HasDrawnNothing (drew n) id
    → Drawers begun (pushed drew n (draw_of id cts))
drawers_draw o begun drew n id cts i d has nothing =
    let new = draw_of id cts in
    record {
      had_begun = each_pushed (λ k x. HasBegun (begun k) x.id) drew n new d.had_begun has;
      once = differ_pushed (λ (x : Draw). x.id.version) drew n new d.once
          (λ y h e. nothing y.cts (subst (λ j. IsIn (draw_of j y.cts) (drew n)) (same_id o begun i n y.id id (d.had_begun n y h) has e) h));
    }

pub drawers_begin : (begun : ℕ → List Begun) (drew : ℕ → List Draw) (n : ℕ) (b : Begun) → Drawers begun drew → Drawers (pushed begun n b) drew
drawers_begin begun drew n b d = record { had_begun = λ k x h. begun_more begun n b k x.id (d.had_begun k x h); once = d.once }

-- who hasn't begun has drawn nothing
pub fresh_drew_nothing : (begun : ℕ → List Begun) (drew : ℕ → List Draw) (n : ℕ) (id : TrxId) → Drawers begun drew → ((b : Begun) → IsIn b (begun n) → ¬ (b.id.version ≡ id.version)) → HasDrawnNothing (drew n) id
fresh_drew_nothing begun drew n id d fresh cts h = let was = d.had_begun n (draw_of id cts) h in fresh record { id = id; view = was.0 } was.1 refl

-- a transaction has at most one timestamp
pub one_timestamp : (begun : ℕ → List Begun) (drew : ℕ → List Draw) → Drawers begun drew → (n : ℕ) (id : TrxId) (a b : ℕ) → IsIn (draw_of id a) (drew n) → IsIn (draw_of id b) (drew n) → a ≡ b
one_timestamp begun drew d n id a b h k = ap (λ (x : Draw). x.cts) (same_item (λ (x : Draw). x.id.version) (drew n) (d.once n) (draw_of id a) (draw_of id b) h k refl)
