-- All pages with all mtrs applied: a tree whose chains stand for the commits with a record.
use Rattle.std.specs.Prelude.{◌≡◌, ℕ, Some}
use Rattle.mp_model.specs.declared.ids.TrxId.{TrxId}
use Rattle.mp_histories.specs.KeyOps.{kept_version, put_last}
use Rattle.mp_histories.specs.Commits.{HasStamp}
use Rattle.mp_histories.specs.Histories.{by_version, ops_on, commits_in}
use Rattle.mp_histories.specs.Chains.{row_of_key, HasChains}
use Rattle.mp_histories.specs.Stamped.{OpsStandFor}
use Rattle.mp_core.specs.declared.opening.CoreOpening.{CoreOpening}
use Rattle.mp_core.specs.World.{CoreWorld}
use Rattle.mp_facts.specs.Facts.{opening_pages}

-- each key's row heads the chain of its versions that stand, above the opening's row; these stand for the commits with a
-- record, and what such a transaction keeps of a key is what it put last
pub record CommitsStand (o : CoreOpening) (w : CoreWorld) : Type 0 where
  pub chains : HasChains (opening_pages o) w.pages.history
  pub stands : (key : ℕ) → OpsStandFor (commits_in w.pages.history) (row_of_key (opening_pages o) key) (ops_on key w.pages.history)
  pub wrote : (id : TrxId) (cts key : ℕ) → HasStamp (commits_in w.pages.history) (Some id) cts → kept_version by_version (Some id) (ops_on key w.pages.history) ≡ put_last by_version (Some id) (ops_on key w.pages.history)
