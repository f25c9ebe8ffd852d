-- The header to come is one that a store may have.
use Rattle.std.proofs.Common.{ℕ, ◌-◌, ◌<◌, ◌^◌, List, [], ◌∷◌, map, arith}
use Rattle.std.specs.List.{AllByRecursion}
use Rattle.mp_store.specs.HeaderSides.{IsHeader}
use Rattle.mp_recover.specs.declared.commits.CommitId.{CommitId}
use Rattle.mp_recover.specs.declared.loading.Loaded.{Loaded}
use Rattle.mp_recover.specs.Finding.{newest_base}
use Rattle.mp_recover.specs.Recovering.{LoadedFits}
use Rattle.mp_recover.specs.SavingLoaded.{next_header}
use Rattle.mp_recover.proofs.FoundMore.{greatest_below}

timestamps_below : (ids : List CommitId) → AllByRecursion (λ (c : CommitId). c.cts < 2 ^ 38) ids → AllByRecursion (λ n. n < 2 ^ 38) (map (λ (c : CommitId). c.cts) ids)
timestamps_below [] all = tt
timestamps_below (c ∷ ids) all = (all.0, timestamps_below ids all.1)

base_below : (old : ℕ) (ids : List CommitId) → old < 2 ^ 38 → AllByRecursion (λ (c : CommitId). c.cts < 2 ^ 38) ids → newest_base old ids < 2 ^ 38
base_below old [] small all = small
base_below old (c ∷ ids) small all = greatest_below (2 ^ 38) 0 (map (λ (x : CommitId). x.cts) (c ∷ ids)) (omega arith) (timestamps_below (c ∷ ids) all)

pub next_is_header : (loaded : Loaded) → LoadedFits loaded → loaded.header.generation < 2 ^ 64 - 1 → IsHeader (next_header loaded)
next_is_header loaded fits lt = record {
  generation_least = omega arith;
  generation = omega (arith, lt);
  base = base_below loaded.header.base loaded.found.ids.items fits.header.base fits.found.timestamps;
  llsn = fits.found.llsn;
  version = fits.found.version;
}
