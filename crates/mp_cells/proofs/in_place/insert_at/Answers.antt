-- The cells from the place on make room by turning the new last one to their front.
use Rattle.std.proofs.Common.{refl}
use Rattle.mp_cells.proofs.InPlace.{rotated, inserted_front, inserted_rest}
use Rattle.mp_cells.proofs.in_place.insert_at.Goals as goal

pub returns-clause-front : goal.returns-clause-front
returns-clause-front g c = inserted_front c.args.cells.now c.args.len c.args.i c.args.cell c.rotate_right.new.self c.requires.within c.requires.room (rotated c.args.cells.now c.args.len c.args.i c.args.cell _ c.rotate_right.new.self c.requires.within c.requires.room refl c.rotate_right.ensures.after)

pub returns-clause-rest : goal.returns-clause-rest
returns-clause-rest g c = inserted_rest c.args.cells.now c.args.len c.args.i c.args.cell c.rotate_right.new.self c.requires.within c.requires.room (rotated c.args.cells.now c.args.len c.args.i c.args.cell _ c.rotate_right.new.self c.requires.within c.requires.room refl c.rotate_right.ensures.after)
