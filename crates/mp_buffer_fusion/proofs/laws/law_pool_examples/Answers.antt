use Rattle.mp_buffer_fusion.proofs.WorkedPools.{content_agrees, owing_agrees, other_differs, clean_differs, dropped_differs}
use Rattle.mp_buffer_fusion.proofs.laws.law_pool_examples.Goals as goal

pub returns-clause-content : goal.returns-clause-content
returns-clause-content c = content_agrees

pub returns-clause-owing : goal.returns-clause-owing
returns-clause-owing c = owing_agrees

pub returns-clause-other_content : goal.returns-clause-other_content
returns-clause-other_content c = other_differs

pub returns-clause-clean_owing : goal.returns-clause-clean_owing
returns-clause-clean_owing c = clean_differs

pub returns-clause-dropped_owing : goal.returns-clause-dropped_owing
returns-clause-dropped_owing c = dropped_differs
