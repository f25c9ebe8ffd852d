-- A refusal by a call of the store is the command's, of whatever type its good answer is.
use Rattle.std.proofs.Common.{ℕ, Option, Err}
use Rattle.mp_store.specs.declared.refusals.StoreRefusal.{StoreRefusal}
use Rattle.mp_store.specs.declared.refusals.StoreRefusal.TheVariants.{NotStore, Disk, Memory}
use Rattle.mp_store.specs.Answers.{StoreFinds, StoreCause}

pub still_found : (T U : Type 0) (fault : Option ℕ) (refusal : StoreRefusal) → StoreFinds {T = T} fault (Err refusal) → StoreFinds {T = U} fault (Err refusal)
still_found T U fault (NotStore place) h = h
still_found T U fault Disk h = tt
still_found T U fault Memory h = tt

pub still_caused : (T U : Type 0) (old new : ℕ) (refusal : StoreRefusal) → StoreCause {T = T} old new (Err refusal) → StoreCause {T = U} old new (Err refusal)
still_caused T U old new (NotStore place) h = tt
still_caused T U old new Disk h = h
still_caused T U old new Memory h = tt
