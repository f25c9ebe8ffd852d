use Rattle.mp_cuts.proofs.KeptImages.{own_image, idle_log}
use Rattle.mp_cuts.proofs.laws.law_kept_image.Goals as goal

pub returns-clause-own : goal.returns-clause-own
returns-clause-own c = own_image

pub returns-clause-idle : goal.returns-clause-idle
returns-clause-idle c = idle_log
