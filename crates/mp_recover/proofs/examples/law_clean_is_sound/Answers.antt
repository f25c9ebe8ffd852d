-- Without mtrs nothing is redone.
use Rattle.mp_recover.proofs.CleanSound.{clean_is_sound}
use Rattle.mp_recover.proofs.examples.law_clean_is_sound.Goals as goal

pub returns : goal.returns
returns c = record { sound = clean_is_sound }
