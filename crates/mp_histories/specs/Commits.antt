-- Who may put a version over whose, by timestamps; and what a list of versions says of the commits behind it.
use Rattle.std.specs.Prelude.{◌≡◌, ℕ, ◌<◌, ◌⊎◌, List, [], ◌∷◌, ◌++◌, Option, Some, None}
use Rattle.std.specs.List.{AllByRecursion}
use Rattle.mp_model.specs.declared.ids.TrxId.{TrxId}
use Rattle.mp_cells.specs.declared.rows.Row.{Row}
use Rattle.mp_histories.specs.KeyOps.{KeyOp, put, restore, FirstIs, live, newest_by, newest_each, Together}

-- a transaction and a timestamp: its own, drawn or committed
pub record Stamp : Type 0 where
  pub id : TrxId
  pub cts : ℕ

-- a writer has this timestamp in a list
abbrev pub HasStamp : List Stamp → Option TrxId → ℕ → Type 0
HasStamp [] writer cts = ⊥
HasStamp (stamp ∷ stamps) writer cts = ((Some stamp.id ≡ writer) × (stamp.cts ≡ cts)) ⊎ HasStamp stamps writer cts

-- a relation of writers and timestamps
abbrev pub Stamps : Type 1
Stamps = Option TrxId → ℕ → Type 0

-- a writer has committed, at a timestamp below any that another one draws
pub record IsUnder (committed drew : Stamps) (under over : Option TrxId) : Type 0 where
  pub cts : ℕ
  pub commit : committed under cts
  pub lower : (c : ℕ) → drew over c → cts < c

-- a writer may put a version over one of its own, or of one that lies under it
abbrev pub MayCover : Stamps → Stamps → Option TrxId → Option TrxId → Type 0
MayCover committed drew lower upper = (lower ≡ upper) ⊎ IsUnder committed drew lower upper

-- what the one relates, the other does
abbrev pub Includes : Stamps → Stamps → Type 0
Includes small large = (writer : Option TrxId) (cts : ℕ) → small writer cts → large writer cts

-- each new draw is above all commits
abbrev pub DrawsAbove : Stamps → Stamps → Stamps → Type 0
DrawsAbove committed old new = (writer : Option TrxId) (c : ℕ) → new writer c → old writer c ⊎ ((other : Option TrxId) (cts : ℕ) → committed other cts → cts < c)

-- commits draw; each writer draws one timestamp
pub record AreStamps (committed drew : Stamps) : Type 0 where
  pub drawn : Includes committed drew
  pub once : (writer : Option TrxId) (a b : ℕ) → drew writer a → drew writer b → a ≡ b

module _ {T : Type 0} (by : T → Option TrxId) where
  -- each put comes over nothing or over what it may cover
  abbrev pub PutsFit : Stamps → Stamps → List (KeyOp T) → Type 0
  PutsFit committed drew [] = Unit {0}
  PutsFit committed drew (put v ∷ ops) = FirstIs (λ top. MayCover committed drew (by top) (by v)) (live by ops) × PutsFit committed drew ops
  PutsFit committed drew (restore ∷ ops) = PutsFit committed drew ops

  -- down these versions each writer lies under the one before
  abbrev pub Falls : Stamps → Stamps → List T → Type 0
  Falls committed drew [] = Unit {0}
  Falls committed drew (v ∷ vs) = FirstIs (λ lower. IsUnder committed drew (by lower) (by v)) vs × Falls committed drew vs

  -- versions of a key, above a last one, stand for commits: those of at most one writer that isn't listed come first,
  -- the versions of each writer stand together, the newest of each listed one is what it wrote (or there is none where
  -- it wrote none), and the greatest timestamp comes first; the last version has no writer
  pub record StandsFor (listed : Stamps) (wrote : Option TrxId → Option T) (last : Row) (versions : List T) : Type 0 where
    pub unlisted : List T
    pub rest : List T
    pub split_is : versions ≡ unlisted ++ rest
    pub writer : Option TrxId
    pub of_one : AllByRecursion (λ v. by v ≡ writer) unlisted
    pub not_listed : (cts : ℕ) → listed writer cts → ⊥
    pub each_listed : AllByRecursion (λ v. (cts : ℕ) × listed (by v) cts) rest
    pub together : Together by versions
    pub newest_wrote : (id : Option TrxId) (cts : ℕ) → listed id cts → newest_by by id versions ≡ wrote id
    pub falls : Falls listed listed (newest_each by rest)
    pub ends : last.writer ≡ None
