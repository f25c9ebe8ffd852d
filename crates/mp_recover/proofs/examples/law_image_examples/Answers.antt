-- The fresh store is clean, and its logs have no mtr; an open gate alone is off the grammar.
use Rattle.std.proofs.Common.{refl}
use Rattle.mp_store.proofs.CleanFiles.{fresh_is_clean_store}
use Rattle.mp_recover.proofs.examples.law_image_examples.Goals as goal

pub returns-clause-fresh : goal.returns-clause-fresh
returns-clause-fresh c = λ store fresh. record {
  store = fresh_is_clean_store store fresh;
  logs = (refl, (refl, (refl, (refl, (refl, (refl, (refl, (refl, tt))))))));
  none = refl;
}
