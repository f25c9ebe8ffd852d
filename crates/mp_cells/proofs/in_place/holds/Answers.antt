-- What stands at the key's place has the key, or no cell has.
use Rattle.std.proofs.Common.{◌^◌, ◌∙◌, sym, ap}
use Rattle.mp_cells.specs.Keys.{holds_first}
use Rattle.mp_cells.proofs.KeyOrder.{Rises-from_test, split_at_key}
use Rattle.mp_cells.proofs.in_place.holds.Goals as goal

pub returns : goal.returns
returns g c =
    let key = g.T.Keyed.key_of in
    let split = split_at_key key c.args.key 0 (2 ^ 32) c.args.cells.now (Rises-from_test key 0 (2 ^ 32) c.args.cells.now c.requires) in
    c.holds_at.ensures ∙ ap (holds_first key c.args.key) c.place_of-i.ensures.above ∙ sym split.held
