use Rattle.mp_core_trx.proofs.Worked.{commit, free, two, no_early_draw, no_second_prep, no_second_draw, no_foreign_timestamp, no_end_without, no_slot_twice, no_version_twice, no_begin_for_another, no_slot_beyond}
use Rattle.mp_core_trx.proofs.laws.law_trx_examples.Goals as goal

pub returns-clause-commit : goal.returns-clause-commit
returns-clause-commit c = commit

pub returns-clause-free : goal.returns-clause-free
returns-clause-free c = free

pub returns-clause-two : goal.returns-clause-two
returns-clause-two c = two

pub returns-clause-no_early_draw : goal.returns-clause-no_early_draw
returns-clause-no_early_draw c = no_early_draw

pub returns-clause-no_second_prep : goal.returns-clause-no_second_prep
returns-clause-no_second_prep c = no_second_prep

pub returns-clause-no_second_draw : goal.returns-clause-no_second_draw
returns-clause-no_second_draw c = no_second_draw

pub returns-clause-no_foreign_timestamp : goal.returns-clause-no_foreign_timestamp
returns-clause-no_foreign_timestamp c = no_foreign_timestamp

pub returns-clause-no_end_without : goal.returns-clause-no_end_without
returns-clause-no_end_without c = no_end_without

pub returns-clause-no_slot_twice : goal.returns-clause-no_slot_twice
returns-clause-no_slot_twice c = no_slot_twice

pub returns-clause-no_version_twice : goal.returns-clause-no_version_twice
returns-clause-no_version_twice c = no_version_twice

pub returns-clause-no_begin_for_another : goal.returns-clause-no_begin_for_another
returns-clause-no_begin_for_another c = no_begin_for_another

pub returns-clause-no_slot_beyond : goal.returns-clause-no_slot_beyond
returns-clause-no_slot_beyond c = no_slot_beyond
