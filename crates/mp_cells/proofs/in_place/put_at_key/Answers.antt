-- At its key's place the cell replaces one, or goes in before the next.
use Rattle.std.proofs.Common.{◌^◌, ◌∙◌, sym, take, length, arith}
use Rattle.std.proofs.lemmas.List.{length-take-le}
use Rattle.mp_cells.proofs.KeyOrder.{Rises-from_test, replaced, inserted, take-set_front, room_left}
use Rattle.mp_cells.proofs.in_place.put_at_key.Goals as goal

pub returns-then-holds_at-clause-cells : goal.returns-then-holds_at-clause-cells
returns-then-holds_at-clause-cells g c =
    let key = g.T.Keyed.key_of in
    let cells = take c.args.len c.args.cells.now in
    let done = replaced key 0 (2 ^ 32) c.key-key.result cells c.args.cell c.place_of-i.result c.key-key.ensures (Rises-from_test key 0 (2 ^ 32) cells c.requires.rises) c.place_of-i.ensures.below c.place_of-i.ensures.above (sym c.holds_at.ensures ∙ c.if-holds_at.true) in
    take-set_front c.args.len c.place_of-i.result c.args.cells.now c.args.cell c.requires.within (omega (arith, done.0, length-take-le c.args.len c.args.cells.now c.requires.within)) ∙ done.1

pub insert_at-requires-clause-room : goal.insert_at-requires-clause-room
insert_at-requires-clause-room g c =
    let key = g.T.Keyed.key_of in
    let cells = take c.args.len c.args.cells.now in
    let done = inserted key 0 (2 ^ 32) c.key-key.result cells c.args.cell c.place_of-i.result c.key-key.ensures (Rises-from_test key 0 (2 ^ 32) cells c.requires.rises) c.place_of-i.ensures.below c.place_of-i.ensures.above (sym c.holds_at.ensures ∙ c.if-holds_at.false) in
    room_left _ c.args.len (length c.args.cells.now) c.requires.room done.0

pub returns-clause-cells : goal.returns-clause-cells
returns-clause-cells g c =
    let key = g.T.Keyed.key_of in
    let cells = take c.args.len c.args.cells.now in
    let done = inserted key 0 (2 ^ 32) c.key-key.result cells c.args.cell c.place_of-i.result c.key-key.ensures (Rises-from_test key 0 (2 ^ 32) cells c.requires.rises) c.place_of-i.ensures.below c.place_of-i.ensures.above (sym c.holds_at.ensures ∙ c.if-holds_at.false) in
    c.insert_at.ensures.front ∙ done.1
