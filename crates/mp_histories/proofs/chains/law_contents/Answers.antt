-- Agreement goes on from map to map.
use Rattle.mp_histories.proofs.Contents.{put_else, restore_else}
use Rattle.mp_histories.proofs.chains.law_contents.Goals as goal

pub returns-clause-put : goal.returns-clause-put
returns-clause-put c = put_else

pub returns-clause-restore : goal.returns-clause-restore
returns-clause-restore c = restore_else
