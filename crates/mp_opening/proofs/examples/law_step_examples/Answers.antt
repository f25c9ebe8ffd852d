-- An empty file ends where a store begins; and what a refusal stops at.
use Rattle.std.proofs.Common.{◌≡◌, ℕ, [], ◌∷◌, Option, Some, None, refl, sym, ◌∙◌}
use Rattle.mp_files.proofs.Nines.{KeptDisk-refl}
use Rattle.mp_log.specs.declared.refusals.LogRefusal.TheVariants as refusals
use Rattle.mp_store.specs.StoreFiles.{store_fault}
use Rattle.mp_opening.proofs.OpenedLogs.{takes_none}
use Rattle.mp_opening.proofs.examples.law_step_examples.Goals as goal

empty_fault : store_fault [] ≡ Some 0
unfolding store_fault
empty_fault = refl

pub returns-clause-no_content : goal.returns-clause-no_content
returns-clause-no_content g c = λ content is. let no : ◌≡◌ {A = Option ℕ} None (Some 0) = sym is.sound ∙ empty_fault in absurd cc

pub returns-clause-faults : goal.returns-clause-faults
returns-clause-faults g c = empty_fault

pub returns-clause-not_elsewhere : goal.returns-clause-not_elsewhere
returns-clause-not_elsewhere g c = λ fault. let no : ◌≡◌ {A = Option ℕ} (Some 0) (Some 1) = sym empty_fault ∙ fault in absurd cc

pub returns-clause-stops : goal.returns-clause-stops
returns-clause-stops g c = λ disk. record {
  before = disk ∷ [];
  opened = takes_none g.D.Disk (disk ∷ []);
  why = refusals.Memory;
  refused = record { disk = disk; after = disk; behind = []; split = refl; now = refl; kept = KeptDisk-refl g.D.Disk disk; why = tt };
  refusal_is = refl;
}
