-- What a node knows of its own writer by its own operations.
use Rattle.std.proofs.Common.{◌≡◌, ℕ, ◌==◌, Bool, true, false, cond, List, [], ◌∷◌, ◌++◌, length, map, filter, Option, Some, None, refl, sym, ap, subst, ◌∙◌, inl, inr}
use mathlib.Core.Bool.{false≢true}
use Rattle.std.specs.List.{AllByRecursion}
use Rattle.mp_model.specs.declared.ids.TrxId.{TrxId}
use Rattle.mp_cells.specs.Plans.{plan_of}
use Rattle.mp_histories.specs.KeyOps.{KeyOp, put, restore, live, is_top, kept_version, Orderly, IsOwnRun}
use Rattle.mp_histories.specs.Histories.{History, Version, ops_of, ops_on}
use Rattle.mp_histories.specs.OwnOps.{MarkedOp, all_ops, own_ops, marked_on, OwnsOp, OwnsWriter, EndsElse}
use Rattle.mp_histories.proofs.Writers.{decided, same_from, other_from}
use Rattle.mp_histories.proofs.Kept.{kept-same, kept-other, kept-spared, kept_newest, none_newest}
use Rattle.mp_histories.proofs.Lists.{none_some, heads_same, tails_same, nothing_there}

-- the marked operations of a history are all of them
marked-append : (own : Bool) (ops rest : List (KeyOp Version)) (marked : List (MarkedOp Version)) → all_ops marked ≡ rest → all_ops (map (λ (op : KeyOp Version). record { own = own; op = op }) ops ++ marked) ≡ ops ++ rest
marked-append own [] rest marked e = e
marked-append own (op ∷ ops) rest marked e = ap (λ (xs : List (KeyOp Version)). op ∷ xs) (marked-append own ops rest marked e)

pub marked_all : (key node : ℕ) (made : History) → all_ops (marked_on key node made) ≡ ops_on key made
marked_all key node [] = refl
marked_all key node (mtr ∷ made) = marked-append (mtr.node == node) (ops_of key (length made) (plan_of mtr.records)) (ops_on key made) (marked_on key node made) (marked_all key node made)

module _ {T : Type 0} (by : T → Option TrxId) where
  own-in : (m : MarkedOp T) (marked : List (MarkedOp T)) → m.own ≡ true → own_ops (m ∷ marked) ≡ m.op ∷ own_ops marked
  own-in m marked e = ap (λ (b : Bool). map (λ (x : MarkedOp T). x.op) (cond b (m ∷ filter (λ (x : MarkedOp T). x.own) marked) (filter (λ (x : MarkedOp T). x.own) marked))) e

  own-out : (m : MarkedOp T) (marked : List (MarkedOp T)) → m.own ≡ false → own_ops (m ∷ marked) ≡ own_ops marked
  own-out m marked e = ap (λ (b : Bool). map (λ (x : MarkedOp T). x.op) (cond b (m ∷ filter (λ (x : MarkedOp T). x.own) marked) (filter (λ (x : MarkedOp T). x.own) marked))) e

  -- what isn't the node's leaves what its writer keeps
  not_own : (w : Option TrxId) (own : Bool) (op : KeyOp T) (ops : List (KeyOp T)) → own ≡ false → OwnsOp by w own op ops → kept_version by w (op ∷ ops) ≡ kept_version by w ops
  not_own w own (put v) ops not owns = kept-other by w v ops (other_from (by v) w (λ (e : by v ≡ w). absurd (false≢true (sym not ∙ owns e))))
  not_own w own restore ops not owns = elim (decided (is_top by w (live by ops))) [
    | inl e ↦ absurd (false≢true (sym not ∙ owns e))
    | inr e ↦ kept-spared by w ops e
  ]

  pub keeps_own : (w : Option TrxId) (marked : List (MarkedOp T)) (v : T) (earlier : List (KeyOp T)) → OwnsWriter by w marked → own_ops marked ≡ put v ∷ earlier → by v ≡ w → kept_version by w (all_ops marked) ≡ Some v
  keeps_own w [] v earlier owns e is = absurd (nothing_there (put v) earlier e)
  keeps_own w (m ∷ marked) v earlier owns e is = elim (decided (m.own)) [
    | inl mine ↦
        let same : m.op ≡ put v = heads_same m.op (put v) (own_ops marked) earlier (sym (own-in m marked mine) ∙ e) in
        ap (λ (op : KeyOp T). kept_version by w (op ∷ all_ops marked)) same ∙ kept-same by w v (all_ops marked) (same_from (by v) w is)
    | inr not ↦ not_own w m.own m.op (all_ops marked) not owns.0 ∙ keeps_own w marked v earlier owns.1 (sym (own-out m marked not) ∙ e) is
  ]

  -- a run of the writer's puts is all the node's
  record OwnRest (w : Option TrxId) (marked : List (MarkedOp T)) (vs : List T) (earlier : List (KeyOp T)) : Type 0 where
    rest : List (MarkedOp T)
    split_is : own_ops marked ≡ map put vs ++ own_ops rest
    all : all_ops rest ≡ earlier
    owns : OwnsWriter by w rest

  own_rest : (w : Option TrxId) (marked : List (MarkedOp T)) (vs : List T) (earlier : List (KeyOp T)) → OwnsWriter by w marked → all_ops marked ≡ map put vs ++ earlier → AllByRecursion (λ v. by v ≡ w) vs → OwnRest w marked vs earlier
  own_rest w marked [] earlier owns e own = record { rest = marked; split_is = refl; all = e; owns = owns }
  own_rest w [] (v ∷ vs) earlier owns e own = absurd (nothing_there (put v) (map put vs ++ earlier) e)
  own_rest w (m ∷ marked) (v ∷ vs) earlier owns e own =
      let op : m.op ≡ put v = heads_same m.op (put v) (all_ops marked) (map put vs ++ earlier) e in
      let more = own_rest w marked vs earlier owns.1 (tails_same m.op (put v) (all_ops marked) (map put vs ++ earlier) e) own.1 in
      let its : OwnsOp by w m.own (put v) (all_ops marked) = subst (λ (o : KeyOp T). OwnsOp by w m.own o (all_ops marked)) op owns.0 in
      record {
        rest = more.rest;
        split_is = own-in m marked (its own.0) ∙ ap (λ (o : KeyOp T). o ∷ own_ops marked) op ∙ ap (λ (xs : List (KeyOp T)). put v ∷ xs) more.split_is;
        all = more.all;
        owns = more.owns;
      }

  ends_else : (w : Option TrxId) (rest : List (MarkedOp T)) (ops : List (KeyOp T)) → own_ops rest ≡ ops → OwnsWriter by w rest → kept_version by w (all_ops rest) ≡ None → EndsElse by w ops
  ends_else w rest [] e owns none = tt
  ends_else w rest (put v ∷ ops) e owns none = λ (is : by v ≡ w). none_some v (sym none ∙ keeps_own w rest v ops owns e is)
  ends_else w rest (restore ∷ ops) e owns none = tt

  orderly_before : (vs : List T) (earlier : List (KeyOp T)) → Orderly by (map put vs ++ earlier) → Orderly by earlier
  orderly_before [] earlier o = o
  orderly_before (v ∷ vs) earlier o = orderly_before vs earlier o.1

  pub run_own : (w : Option TrxId) (marked : List (MarkedOp T)) (v : T) → OwnsWriter by w marked → Orderly by (all_ops marked) → (run : IsOwnRun by w (all_ops marked) v) → (rest : List (KeyOp T)) × (own_ops marked ≡ map put (v ∷ run.older) ++ rest) × EndsElse by w rest
  run_own w marked v owns orderly run =
      let r = own_rest w marked (v ∷ run.older) run.earlier owns run.split_is run.own in
      let before : Orderly by run.earlier = orderly_before (v ∷ run.older) run.earlier (subst (Orderly by) run.split_is orderly) in
      let none : kept_version by w run.earlier ≡ None = kept_newest by w run.earlier before ∙ none_newest by w (live by run.earlier) run.none_before in
      (own_ops r.rest, r.split_is, ends_else w r.rest (own_ops r.rest) refl r.owns (ap (kept_version by w) r.all ∙ none))
