-- The binary search ends where the lower keys do.
use Rattle.std.proofs.Common.{Ok, Err, rules}
use Rattle.std.proofs.lemmas.List.Sorted.{answers_always}
use Rattle.mp_model.specs.declared.key_value.KeyValue.{KeyValue}
use Rattle.mp_model.proofs.SortedRows.{searched, front_below, rest_above}
use Rattle.mp_model.proofs.key_value.place_of.Goals as goal

pub returns-in-Ok-clause-below : goal.returns-in-Ok-clause-below
returns-in-Ok-clause-below c = front_below _ _ _ (searched c.args.rows.now c.args.key c.requires (Ok c.in-Ok.i) c.in-Ok.ensures.bound (c.in-Ok.ensures.position (λ (row : KeyValue). row.key) (answers_always _ _ _ (λ f a r g called. search rules))))

pub returns-in-Ok-clause-above : goal.returns-in-Ok-clause-above
returns-in-Ok-clause-above c = rest_above _ _ _ (searched c.args.rows.now c.args.key c.requires (Ok c.in-Ok.i) c.in-Ok.ensures.bound (c.in-Ok.ensures.position (λ (row : KeyValue). row.key) (answers_always _ _ _ (λ f a r g called. search rules))))

pub returns-in-Err-clause-below : goal.returns-in-Err-clause-below
returns-in-Err-clause-below c = front_below _ _ _ (searched c.args.rows.now c.args.key c.requires (Err c.in-Err.i) c.in-Err.ensures.bound (c.in-Err.ensures.position (λ (row : KeyValue). row.key) (answers_always _ _ _ (λ f a r g called. search rules))))

pub returns-in-Err-clause-above : goal.returns-in-Err-clause-above
returns-in-Err-clause-above c = rest_above _ _ _ (searched c.args.rows.now c.args.key c.requires (Err c.in-Err.i) c.in-Err.ensures.bound (c.in-Err.ensures.position (λ (row : KeyValue). row.key) (answers_always _ _ _ (λ f a r g called. search rules))))
