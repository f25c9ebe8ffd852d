use Rattle.mp_supports.proofs.Classes.{did_looked, did_forced, did_trx, did_begin, did_draw, did_make, did_restore, did_with_pages, did_then, did_after, did_commit}
use Rattle.mp_supports.proofs.laws.law_steps_leave.Goals as goal

pub returns-clause-looked : goal.returns-clause-looked
returns-clause-looked c = did_looked

pub returns-clause-forced : goal.returns-clause-forced
returns-clause-forced c = did_forced

pub returns-clause-trx : goal.returns-clause-trx
returns-clause-trx c = did_trx

pub returns-clause-began : goal.returns-clause-began
returns-clause-began c = did_begin

pub returns-clause-drew : goal.returns-clause-drew
returns-clause-drew c = did_draw

pub returns-clause-made : goal.returns-clause-made
returns-clause-made c = did_make

pub returns-clause-put_back : goal.returns-clause-put_back
returns-clause-put_back c = λ p q x row made. did_restore p q x made row

pub returns-clause-with_pages : goal.returns-clause-with_pages
returns-clause-with_pages c = did_with_pages

pub returns-clause-then_nothing : goal.returns-clause-then_nothing
returns-clause-then_nothing c = did_then

pub returns-clause-after_nothing : goal.returns-clause-after_nothing
returns-clause-after_nothing c = did_after

pub returns-clause-commit : goal.returns-clause-commit
returns-clause-commit c = did_commit
