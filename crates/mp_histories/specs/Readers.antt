-- What a reader takes of the versions of a key, and which commit that is.
use Rattle.std.specs.Prelude.{◌≡◌, ℕ, ◌≤◌, ◌⊎◌, List, [], ◌∷◌, Option, Some, None}
use Rattle.mp_model.specs.declared.ids.TrxId.{TrxId}
use Rattle.mp_histories.specs.Commits.{Stamps}

module _ {T : Type 0} (by : T → Option TrxId) (committed : Stamps) (reader : Option TrxId) (view : ℕ) where
  -- a version shows to a reader with a view: it is the reader's own, or its writer committed at or below the view
  abbrev pub ShowsTo : T → Type 0
  ShowsTo v = (by v ≡ reader) ⊎ ((cts : ℕ) × committed (by v) cts × (cts ≤ view))

  -- the reader takes the first that shows; none where it comes to the last version, below all of these
  abbrev pub Takes : List T → Option T → Type 0
  Takes [] found = found ≡ None
  Takes (v ∷ vs) found = (ShowsTo v × (found ≡ Some v)) ⊎ ((ShowsTo v → ⊥) × Takes vs found)

  -- no writer of the key committed at or below the view
  abbrev pub NobodyAt : (Option TrxId → Option T) → Type 0
  NobodyAt wrote = (writer : Option TrxId) (cts : ℕ) (v : T) → wrote writer ≡ Some v → committed writer cts → cts ≤ view → ⊥

  -- of the writers of the key that committed at or below the view, the last one wrote this
  pub record IsLatestAt (wrote : Option TrxId → Option T) (found : T) : Type 0 where
    pub cts : ℕ
    pub commit : committed (by found) cts
    pub in_view : cts ≤ view
    pub its : wrote (by found) ≡ Some found
    pub latest : (writer : Option TrxId) (c : ℕ) (v : T) → wrote writer ≡ Some v → committed writer c → c ≤ view → c ≤ cts

  -- what a read should give: the reader's own last version, where it has one; else that of the latest commit at or
  -- below the view; else the last version
  abbrev pub IsReadAt : (Option TrxId → Option T) → Option T → Type 0
  IsReadAt wrote found =
      ((v : T) × (found ≡ Some v) × (wrote reader ≡ Some v))
      ⊎ ((wrote reader ≡ None) × (((v : T) × (found ≡ Some v) × IsLatestAt wrote v) ⊎ ((found ≡ None) × NobodyAt wrote)))
