use Rattle.std.proofs.Common.{sym, ◌∙◌}
use Rattle.mp_primary.proofs.NamePlaces.{place_found, place_there}
use Rattle.mp_primary.proofs.beginning.place_of.Goals as goal

pub unreachable-requires : goal.unreachable-requires
unreachable-requires c = place_there c.args.names.now c.args.name c.requires (sym c.find_name.ensures ∙ c.in-None.is)

pub returns-clause-within : goal.returns-clause-within
returns-clause-within c = (place_found c.args.names.now c.args.name c.in-Some.place (sym c.find_name.ensures ∙ c.in-Some.is)).0

pub returns-clause-its : goal.returns-clause-its
returns-clause-its c = (place_found c.args.names.now c.args.name c.in-Some.place (sym c.find_name.ensures ∙ c.in-Some.is)).1
