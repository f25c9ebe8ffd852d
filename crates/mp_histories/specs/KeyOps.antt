-- What is done to the versions of one key, in order, and which versions stand after it.
use Rattle.std.specs.Prelude.{◌≡◌, ◌≢◌, ◌==◌, ◌&&◌, ◌⊎◌, Bool, true, false, List, [], ◌∷◌, ◌++◌, map, Option, Some, None, if◌then◌else◌}
use Rattle.std.specs.List.{AllByRecursion}
use Rattle.mp_model.specs.declared.ids.TrxId.{TrxId}

-- a version is put above the others, or the versions of the newest one's writer are taken off again
pub data KeyOp (T : Type 0) : Type 0 where
  put : T → KeyOp T
  restore : KeyOp T

-- two versions have one writer, or neither has any
abbrev pub same_writer : Option TrxId → Option TrxId → Bool
same_writer None None = true
same_writer None (Some b) = false
same_writer (Some a) None = false
same_writer (Some a) (Some b) = a.node == b.node && a.slot == b.slot && a.version == b.version

-- it holds of the first, if there is one
abbrev pub FirstIs : {T : Type 0} → (T → Type 0) → List T → Type 0
FirstIs P [] = Unit {0}
FirstIs P (x ∷ xs) = P x

-- the oldest of some versions, the newest first
abbrev pub oldest_of : {T : Type 0} → T → List T → T
oldest_of newest [] = newest
oldest_of newest (v ∷ vs) = oldest_of v vs

-- versions of any kind that tell their writer; lists of operations and of versions have the last one first
module _ {T : Type 0} (by : T → Option TrxId) where
  -- the versions without the leading ones of a writer
  abbrev pub without_leading : Option TrxId → List T → List T
  without_leading writer [] = []
  without_leading writer (v ∷ vs) = if same_writer (by v) writer then without_leading writer vs else v ∷ vs

  -- the versions below those of the newest one's writer
  abbrev pub below_top : List T → List T
  below_top [] = []
  below_top (v ∷ vs) = without_leading (by v) vs

  -- the versions that stand: a put adds one, and a restore takes off those of the newest one's writer
  abbrev pub live : List (KeyOp T) → List T
  live [] = []
  live (put v ∷ ops) = v ∷ live ops
  live (restore ∷ ops) = below_top (live ops)

  -- the newest version is this writer's
  abbrev pub is_top : Option TrxId → List T → Bool
  is_top writer [] = false
  is_top writer (v ∷ vs) = same_writer (by v) writer

  -- no version is this writer's
  abbrev pub NoneBy : Option TrxId → List T → Type 0
  NoneBy writer versions = AllByRecursion (λ v. by v ≢ writer) versions

  -- the newest version of a writer
  abbrev pub newest_by : Option TrxId → List T → Option T
  newest_by writer [] = None
  newest_by writer (v ∷ vs) = if same_writer (by v) writer then Some v else newest_by writer vs

  -- the version that a writer put last, where it wasn't taken off since
  abbrev pub kept_version : Option TrxId → List (KeyOp T) → Option T
  kept_version writer [] = None
  kept_version writer (put v ∷ ops) = if same_writer (by v) writer then Some v else kept_version writer ops
  kept_version writer (restore ∷ ops) = if is_top writer (live ops) then None else kept_version writer ops

  -- the version that a writer put last
  abbrev pub put_last : Option TrxId → List (KeyOp T) → Option T
  put_last writer [] = None
  put_last writer (put v ∷ ops) = if same_writer (by v) writer then Some v else put_last writer ops
  put_last writer (restore ∷ ops) = put_last writer ops

  -- no restore takes off versions of this writer
  abbrev pub NeverBack : Option TrxId → List (KeyOp T) → Type 0
  NeverBack writer [] = Unit {0}
  NeverBack writer (put v ∷ ops) = NeverBack writer ops
  NeverBack writer (restore ∷ ops) = (is_top writer (live ops) ≡ false) × NeverBack writer ops

  -- each put comes above versions of its own writer, or where that writer has none
  abbrev pub Orderly : List (KeyOp T) → Type 0
  Orderly [] = Unit {0}
  Orderly (put v ∷ ops) = ((is_top (by v) (live ops) ≡ true) ⊎ NoneBy (by v) (live ops)) × Orderly ops
  Orderly (restore ∷ ops) = Orderly ops

  -- the versions of each writer stand together
  abbrev pub Together : List T → Type 0
  Together [] = Unit {0}
  Together (v ∷ vs) = NoneBy (by v) (without_leading (by v) vs) × Together vs

  -- the newest version of each writer, of versions that stand together below those of a writer
  abbrev pub newest_below : Option TrxId → List T → List T
  newest_below writer [] = []
  newest_below writer (v ∷ vs) = if same_writer (by v) writer then newest_below writer vs else v ∷ newest_below (by v) vs

  -- the newest version of each writer, of versions that stand together
  abbrev pub newest_each : List T → List T
  newest_each [] = []
  newest_each (v ∷ vs) = v ∷ newest_below (by v) vs

  -- no restore among later operations finds this writer's version on top
  abbrev pub Spares : Option TrxId → List (KeyOp T) → List (KeyOp T) → Type 0
  Spares writer [] ops = Unit {0}
  Spares writer (put v ∷ later) ops = Spares writer later ops
  Spares writer (restore ∷ later) ops = (is_top writer (live (later ++ ops)) ≡ false) × Spares writer later ops

  -- later operations leave what a writer has: they put none of its versions, and no restore finds one on top
  abbrev pub LeavesKept : Option TrxId → List (KeyOp T) → List (KeyOp T) → Type 0
  LeavesKept writer [] ops = Unit {0}
  LeavesKept writer (put v ∷ later) ops = (by v ≢ writer) × LeavesKept writer later ops
  LeavesKept writer (restore ∷ later) ops = (is_top writer (live (later ++ ops)) ≡ false) × LeavesKept writer later ops

  -- the last operations are puts of this writer, the newest of them this one; before them it had no version, and what
  -- lies below its versions is what stood then
  pub record IsOwnRun (writer : Option TrxId) (ops : List (KeyOp T)) (newest : T) : Type 0 where
    pub older : List T
    pub earlier : List (KeyOp T)
    pub split_is : ops ≡ map put (newest ∷ older) ++ earlier
    pub own : AllByRecursion (λ v. by v ≡ writer) (newest ∷ older)
    pub none_before : NoneBy writer (live earlier)
    pub lower : below_top (live ops) ≡ live earlier
