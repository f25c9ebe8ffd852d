-- What is in order is redone.
use Rattle.mp_recover.proofs.SoundRedone.{sound_no_fault, sound_not_refused}
use Rattle.mp_recover.proofs.laws.law_sound_redone.Goals as goal

pub returns-clause-no_fault : goal.returns-clause-no_fault
returns-clause-no_fault c = sound_no_fault

pub returns-clause-redone : goal.returns-clause-redone
returns-clause-redone c = sound_not_refused
