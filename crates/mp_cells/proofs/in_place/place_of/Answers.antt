-- The binary search ends where the lower keys do.
use Rattle.std.proofs.Common.{Ok, Err, ◌^◌, rules}
use Rattle.std.proofs.lemmas.List.Sorted.{answers_always}
use Rattle.mp_cells.proofs.KeyOrder.{Rises-from_test, searched, front_below, rest_above}
use Rattle.mp_cells.proofs.in_place.place_of.Goals as goal

pub returns-in-Ok-clause-below : goal.returns-in-Ok-clause-below
returns-in-Ok-clause-below g c =
    let key = g.T.Keyed.key_of in
    front_below key c.args.cells.now c.args.key c.in-Ok.i (searched key 0 (2 ^ 32) c.args.cells.now c.args.key (Rises-from_test key 0 (2 ^ 32) c.args.cells.now c.requires) (Ok c.in-Ok.i) c.in-Ok.ensures.bound (c.in-Ok.ensures.position key (answers_always _ _ _ (λ f a r h called. search rules))))

pub returns-in-Ok-clause-above : goal.returns-in-Ok-clause-above
returns-in-Ok-clause-above g c =
    let key = g.T.Keyed.key_of in
    rest_above key c.args.cells.now c.args.key c.in-Ok.i (searched key 0 (2 ^ 32) c.args.cells.now c.args.key (Rises-from_test key 0 (2 ^ 32) c.args.cells.now c.requires) (Ok c.in-Ok.i) c.in-Ok.ensures.bound (c.in-Ok.ensures.position key (answers_always _ _ _ (λ f a r h called. search rules))))

pub returns-in-Err-clause-below : goal.returns-in-Err-clause-below
returns-in-Err-clause-below g c =
    let key = g.T.Keyed.key_of in
    front_below key c.args.cells.now c.args.key c.in-Err.i (searched key 0 (2 ^ 32) c.args.cells.now c.args.key (Rises-from_test key 0 (2 ^ 32) c.args.cells.now c.requires) (Err c.in-Err.i) c.in-Err.ensures.bound (c.in-Err.ensures.position key (answers_always _ _ _ (λ f a r h called. search rules))))

pub returns-in-Err-clause-above : goal.returns-in-Err-clause-above
returns-in-Err-clause-above g c =
    let key = g.T.Keyed.key_of in
    rest_above key c.args.cells.now c.args.key c.in-Err.i (searched key 0 (2 ^ 32) c.args.cells.now c.args.key (Rises-from_test key 0 (2 ^ 32) c.args.cells.now c.requires) (Err c.in-Err.i) c.in-Err.ensures.bound (c.in-Err.ensures.position key (answers_always _ _ _ (λ f a r h called. search rules))))
