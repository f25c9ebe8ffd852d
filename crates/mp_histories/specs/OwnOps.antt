-- The operations on a key of which one node did some: those that are its own.
use Rattle.std.specs.Prelude.{◌≡◌, ◌≢◌, ℕ, ◌==◌, Bool, true, List, [], ◌∷◌, ◌++◌, map, filter, length, Option}
use Rattle.mp_model.specs.declared.ids.TrxId.{TrxId}
use Rattle.mp_cells.specs.Plans.{plan_of}
use Rattle.mp_histories.specs.KeyOps.{KeyOp, put, restore, live, is_top}
use Rattle.mp_histories.specs.Histories.{History, Version, ops_of}

-- an operation, and whether it is the node's own
pub record MarkedOp (T : Type 0) : Type 0 where
  pub own : Bool
  pub op : KeyOp T

abbrev pub all_ops : {T : Type 0} → List (MarkedOp T) → List (KeyOp T)
all_ops marked = map (λ m. m.op) marked

abbrev pub own_ops : {T : Type 0} → List (MarkedOp T) → List (KeyOp T)
own_ops marked = map (λ m. m.op) (filter (λ m. m.own) marked)

-- what a history did to a key, marked where it was this node
abbrev pub marked_on : ℕ → ℕ → History → List (MarkedOp Version)
marked_on key node [] = []
marked_on key node (mtr ∷ made) = map (λ op. record { own = mtr.node == node; op = op }) (ops_of key (length made) (plan_of mtr.records)) ++ marked_on key node made

module _ {T : Type 0} (by : T → Option TrxId) where
  -- a put of this writer's is the node's own, and so is a restore that finds this writer on top
  abbrev pub OwnsOp : Option TrxId → Bool → KeyOp T → List (KeyOp T) → Type 0
  OwnsOp writer own (put v) ops = by v ≡ writer → own ≡ true
  OwnsOp writer own restore ops = is_top by writer (live by ops) ≡ true → own ≡ true

  -- the node itself does what is done to this writer's versions
  abbrev pub OwnsWriter : Option TrxId → List (MarkedOp T) → Type 0
  OwnsWriter writer [] = Unit {0}
  OwnsWriter writer (m ∷ marked) = OwnsOp writer m.own m.op (all_ops marked) × OwnsWriter writer marked

  -- the last operation isn't a put of this writer's
  abbrev pub EndsElse : Option TrxId → List (KeyOp T) → Type 0
  EndsElse writer [] = Unit {0}
  EndsElse writer (put v ∷ ops) = by v ≢ writer
  EndsElse writer (restore ∷ ops) = Unit {0}
