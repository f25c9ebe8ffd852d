-- Writes folded in one after another, and commits.
use Rattle.std.proofs.Common.{◌≡◌, ℕ, nat_le, true, false, List, [], ◌∷◌, ◌++◌, ◌<◌, ◌≤◌, refl, sym, arith}
use Rattle.std.proofs.lemmas.Bool.Decides.{nat_tests}
use Rattle.mp_model.specs.declared.key_value.KeyValue.{KeyValue}
use Rattle.mp_model.specs.declared.key_value.KeyWrite.{KeyWrite}
use Rattle.mp_model.specs.declared.histories.Commit.{Commit}
use Rattle.mp_model.specs.Folded.{written, over, writes_up_to, before}

-- more writes go over those before
pub over_append : (rows : List KeyValue) (first more : List KeyWrite) → over rows (first ++ more) ≡ over (over rows first) more
over_append rows [] more = refl
over_append rows (write ∷ first) more = over_append (written rows write) first more

-- the writes of a commit that the view shows, and then the other commits
pub before_shown : (rows : List KeyValue) (commit : Commit) (commits : List Commit) (view : ℕ) → commit.cts ≤ view → before (over rows commit.writes.items) commits view ≡ before rows (commit ∷ commits) view
before_shown rows commit commits view shown = let e : nat_le commit.cts view ≡ true = grind (arith, nat_tests) in rw e (sym (over_append rows commit.writes.items (writes_up_to commits view)))

-- a commit above the view isn't shown
pub before_hidden : (rows : List KeyValue) (commit : Commit) (commits : List Commit) (view : ℕ) → view < commit.cts → before rows commits view ≡ before rows (commit ∷ commits) view
before_hidden rows commit commits view hidden = let e : nat_le commit.cts view ≡ false = grind (arith, nat_tests) in rw e refl
