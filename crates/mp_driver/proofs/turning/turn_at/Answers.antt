-- The primary at the place is a member, and took the turn.
use Rattle.std.proofs.Common.{◌≡◌, length, slice_get, Some, refl}
use Rattle.std.proofs.lemmas.Option.{slice_get_read}
use Rattle.mp_members.proofs.Turns.{may_named}
use Rattle.mp_driver.proofs.Turned.{same_members_at, turn_so}
use Rattle.mp_driver.proofs.turning.turn_at.Goals as goal

pub take_turn-requires-clause-stands : goal.take_turn-requires-clause-stands
take_turn-requires-clause-stands g c =
    let m = c.args.members.now in
    let pr = c.index_mut.result.now in
    let at : slice_get m.primaries.items c.args.place ≡ Some pr = slice_get_read m.primaries.items (length m.primaries.items) c.args.place pr refl c.requires.place c.index_mut.ensures.value in
    ((c.requires.runs.2).members.each c.args.place pr at).stands

pub take_turn-requires-clause-session : goal.take_turn-requires-clause-session
take_turn-requires-clause-session g c =
    let m = c.args.members.now in
    let pr = c.index_mut.result.now in
    let at : slice_get m.primaries.items c.args.place ≡ Some pr = slice_get_read m.primaries.items (length m.primaries.items) c.args.place pr refl c.requires.place c.index_mut.ensures.value in
    may_named pr c.args.session ((c.requires.runs.2).members.each c.args.place pr at).may_turn c.requires.session

pub take_turn-requires-clause-told : goal.take_turn-requires-clause-told
take_turn-requires-clause-told g c =
    let m = c.args.members.now in
    let pr = c.index_mut.result.now in
    let at : slice_get m.primaries.items c.args.place ≡ Some pr = slice_get_read m.primaries.items (length m.primaries.items) c.args.place pr refl c.requires.place c.index_mut.ensures.value in
    ((c.requires.runs.2).members.each c.args.place pr at).told

pub returns-clause-turn : goal.returns-clause-turn
returns-clause-turn g c =
    let m = c.args.members.now in
    let pr = c.index_mut.result.now in
    let at : slice_get m.primaries.items c.args.place ≡ Some pr = slice_get_read m.primaries.items (length m.primaries.items) c.args.place pr refl c.requires.place c.index_mut.ensures.value in
    turn_so g.D.Disk c.args.place c.args.session m _ pr c.take_turn.new.primary at refl refl
    (same_members_at g.D.Disk c.args.place m _ pr c.take_turn.new.primary at refl refl refl c.take_turn.ensures.same)
    c.take_turn.result c.take_turn.ensures.turn c.take_turn.ensures.order

pub returns-clause-same : goal.returns-clause-same
returns-clause-same g c =
    let m = c.args.members.now in
    let pr = c.index_mut.result.now in
    let at : slice_get m.primaries.items c.args.place ≡ Some pr = slice_get_read m.primaries.items (length m.primaries.items) c.args.place pr refl c.requires.place c.index_mut.ensures.value in
    same_members_at g.D.Disk c.args.place m _ pr c.take_turn.new.primary at refl refl refl c.take_turn.ensures.same
