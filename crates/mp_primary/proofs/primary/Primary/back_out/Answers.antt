use Rattle.std.proofs.Common.{rules, refl, sym, ◌∙◌}
use Rattle.std.proofs.lemmas.Option.{slice_get_within}
use Rattle.mp_primary.proofs.OutsideBacks.{found_out, read_out, its_trx_is, out_quietly, out, out_up, out_back, out_calls, out_halted, out_may, done_inside, freed_calls, freed_ended}
use Rattle.mp_primary.proofs.primary.Primary.back_out.Goals as goal

pub index-requires : goal.index-requires
index-requires g c = let within = slice_get_within c.self.inside.book.sessions.items c.args.session _ (found_out g.D.Disk c.args.shared.now _ c.args.self.now c.self.view_is c.args.node.now c.args.session c.requires.stands c.requires.up c.requires.has) in search rules

pub unreachable-requires : goal.unreachable-requires
unreachable-requires g c = let is = sym c.in_default.is ∙ (read_out g.D.Disk c.args.shared.now _ c.args.self.now c.self.view_is c.args.node.now c.args.session c.requires.stands c.requires.up c.requires.has c.index.result.now c.index.ensures c.trx_at.result c.trx_at.ensures) in absurd cc

pub take_out-requires : goal.take_out-requires
take_out-requires g c = (_, found_out g.D.Disk c.args.shared.now _ c.args.self.now c.self.view_is c.args.node.now c.args.session c.requires.stands c.requires.up c.requires.has)

pub go_back-requires-clause-stands : goal.go_back-requires-clause-stands
go_back-requires-clause-stands g c = (out_quietly g.D.Disk c.args.shared.now _ c.args.self.now c.self.view_is c.args.node.now c.args.session c.requires.stands c.requires.up c.requires.has c.in-Some.trx (its_trx_is g.D.Disk c.args.shared.now _ c.args.self.now c.self.view_is c.args.node.now c.args.session c.requires.stands c.requires.up c.requires.has c.trx_at.result c.in-Some.trx (read_out g.D.Disk c.args.shared.now _ c.args.self.now c.self.view_is c.args.node.now c.args.session c.requires.stands c.requires.up c.requires.has c.index.result.now c.index.ensures c.trx_at.result c.trx_at.ensures) c.in-Some.is) c.take_out.new.self c.take_out.ensures.set (c.take_out.ensures.book _ _ _)).stands

pub go_back-requires-clause-up : goal.go_back-requires-clause-up
go_back-requires-clause-up g c = out_up g.D.Disk c.args.shared.now _ c.args.self.now c.self.view_is c.args.node.now c.args.session c.requires.stands c.requires.up c.requires.has c.in-Some.trx (its_trx_is g.D.Disk c.args.shared.now _ c.args.self.now c.self.view_is c.args.node.now c.args.session c.requires.stands c.requires.up c.requires.has c.trx_at.result c.in-Some.trx (read_out g.D.Disk c.args.shared.now _ c.args.self.now c.self.view_is c.args.node.now c.args.session c.requires.stands c.requires.up c.requires.has c.index.result.now c.index.ensures c.trx_at.result c.trx_at.ensures) c.in-Some.is) c.take_out.new.self c.take_out.ensures.set (c.take_out.ensures.book _ _ _)

pub go_back-requires-clause-back : goal.go_back-requires-clause-back
go_back-requires-clause-back g c = (out g.D.Disk c.args.shared.now _ c.args.self.now c.self.view_is c.args.node.now c.args.session c.requires.stands c.requires.up c.requires.has c.in-Some.trx (its_trx_is g.D.Disk c.args.shared.now _ c.args.self.now c.self.view_is c.args.node.now c.args.session c.requires.stands c.requires.up c.requires.has c.trx_at.result c.in-Some.trx (read_out g.D.Disk c.args.shared.now _ c.args.self.now c.self.view_is c.args.node.now c.args.session c.requires.stands c.requires.up c.requires.has c.index.result.now c.index.ensures c.trx_at.result c.trx_at.ensures) c.in-Some.is) c.take_out.new.self c.take_out.ensures.set (c.take_out.ensures.book _ _ _), c.in-Some.trx, out_back g.D.Disk c.args.shared.now _ c.args.self.now c.self.view_is c.args.node.now c.args.session c.requires.stands c.requires.up c.requires.has c.in-Some.trx (its_trx_is g.D.Disk c.args.shared.now _ c.args.self.now c.self.view_is c.args.node.now c.args.session c.requires.stands c.requires.up c.requires.has c.trx_at.result c.in-Some.trx (read_out g.D.Disk c.args.shared.now _ c.args.self.now c.self.view_is c.args.node.now c.args.session c.requires.stands c.requires.up c.requires.has c.index.result.now c.index.ensures c.trx_at.result c.trx_at.ensures) c.in-Some.is) c.take_out.new.self c.take_out.ensures.set (c.take_out.ensures.book _ _ _), refl)

pub free-requires-clause-may : goal.free-requires-clause-may
free-requires-clause-may g c = out_may g.D.Disk c.args.shared.now _ c.args.self.now c.self.view_is c.args.node.now c.args.session c.requires.stands c.requires.up c.requires.has c.in-Some.trx (its_trx_is g.D.Disk c.args.shared.now _ c.args.self.now c.self.view_is c.args.node.now c.args.session c.requires.stands c.requires.up c.requires.has c.trx_at.result c.in-Some.trx (read_out g.D.Disk c.args.shared.now _ c.args.self.now c.self.view_is c.args.node.now c.args.session c.requires.stands c.requires.up c.requires.has c.index.result.now c.index.ensures c.trx_at.result c.trx_at.ensures) c.in-Some.is) c.take_out.new.self c.take_out.ensures.set (c.take_out.ensures.book _ _ _) c.go_back.new.self c.go_back.new.node c.go_back.ensures.quiet c.go_back.ensures.counts _ c.self-2.view_is c.in-Ok.ensures.up c.in-Ok.ensures.all

pub take_out-requires-in-Ok : goal.take_out-requires-in-Ok
take_out-requires-in-Ok g c = (_, done_inside g.D.Disk c.args.shared.now _ c.args.self.now c.self.view_is c.args.node.now c.args.session c.requires.stands c.requires.up c.requires.has c.in-Some.trx (its_trx_is g.D.Disk c.args.shared.now _ c.args.self.now c.self.view_is c.args.node.now c.args.session c.requires.stands c.requires.up c.requires.has c.trx_at.result c.in-Some.trx (read_out g.D.Disk c.args.shared.now _ c.args.self.now c.self.view_is c.args.node.now c.args.session c.requires.stands c.requires.up c.requires.has c.index.result.now c.index.ensures c.trx_at.result c.trx_at.ensures) c.in-Some.is) c.take_out.new.self c.take_out.ensures.set (c.take_out.ensures.book _ _ _) c.go_back.new.self c.go_back.new.node c.go_back.ensures.quiet c.go_back.ensures.counts _ c.self-2.view_is c.in-Ok.ensures.up c.in-Ok.ensures.all)

pub returns-in-Ok-clause-calls : goal.returns-in-Ok-clause-calls
returns-in-Ok-clause-calls g c = freed_calls g.D.Disk c.args.shared.now _ c.args.self.now c.self.view_is c.args.node.now c.args.session c.requires.stands c.requires.up c.requires.has c.in-Some.trx (its_trx_is g.D.Disk c.args.shared.now _ c.args.self.now c.self.view_is c.args.node.now c.args.session c.requires.stands c.requires.up c.requires.has c.trx_at.result c.in-Some.trx (read_out g.D.Disk c.args.shared.now _ c.args.self.now c.self.view_is c.args.node.now c.args.session c.requires.stands c.requires.up c.requires.has c.index.result.now c.index.ensures c.trx_at.result c.trx_at.ensures) c.in-Some.is) c.take_out.new.self c.take_out.ensures.set (c.take_out.ensures.book _ _ _) c.go_back.new.self c.go_back.new.node c.go_back.ensures.quiet c.go_back.ensures.counts _ c.self-2.view_is c.in-Ok.ensures.up c.in-Ok.ensures.all c.free.new.node c.free.ensures.becomes c.free.ensures.reached c.take_out-in-Ok.new.self c.take_out-in-Ok.ensures.set (c.take_out-in-Ok.ensures.book _ _ _)

pub returns-in-Ok-clause-ended : goal.returns-in-Ok-clause-ended
returns-in-Ok-clause-ended g c = freed_ended g.D.Disk c.args.shared.now _ c.args.self.now c.self.view_is c.args.node.now c.args.session c.requires.stands c.requires.up c.requires.has c.in-Some.trx (its_trx_is g.D.Disk c.args.shared.now _ c.args.self.now c.self.view_is c.args.node.now c.args.session c.requires.stands c.requires.up c.requires.has c.trx_at.result c.in-Some.trx (read_out g.D.Disk c.args.shared.now _ c.args.self.now c.self.view_is c.args.node.now c.args.session c.requires.stands c.requires.up c.requires.has c.index.result.now c.index.ensures c.trx_at.result c.trx_at.ensures) c.in-Some.is) c.take_out.new.self c.take_out.ensures.set (c.take_out.ensures.book _ _ _) c.go_back.new.self c.go_back.new.node c.go_back.ensures.quiet c.go_back.ensures.counts _ c.self-2.view_is c.in-Ok.ensures.up c.in-Ok.ensures.all c.free.new.node c.free.ensures.becomes c.free.ensures.reached c.take_out-in-Ok.new.self c.take_out-in-Ok.ensures.set (c.take_out-in-Ok.ensures.book _ _ _)

pub returns-in-Err-clause-calls : goal.returns-in-Err-clause-calls
returns-in-Err-clause-calls g c = out_calls g.D.Disk c.args.shared.now _ c.args.self.now c.self.view_is c.args.node.now c.args.session c.requires.stands c.requires.up c.requires.has c.in-Some.trx (its_trx_is g.D.Disk c.args.shared.now _ c.args.self.now c.self.view_is c.args.node.now c.args.session c.requires.stands c.requires.up c.requires.has c.trx_at.result c.in-Some.trx (read_out g.D.Disk c.args.shared.now _ c.args.self.now c.self.view_is c.args.node.now c.args.session c.requires.stands c.requires.up c.requires.has c.index.result.now c.index.ensures c.trx_at.result c.trx_at.ensures) c.in-Some.is) c.take_out.new.self c.take_out.ensures.set (c.take_out.ensures.book _ _ _) c.go_back.new.self c.go_back.new.node c.go_back.ensures.quiet c.go_back.ensures.counts

pub returns-in-Err-clause-ended : goal.returns-in-Err-clause-ended
returns-in-Err-clause-ended g c = λ trx has. out_halted g.D.Disk c.args.shared.now _ c.args.self.now c.self.view_is c.args.node.now c.args.session c.requires.stands c.requires.up c.requires.has c.in-Some.trx (its_trx_is g.D.Disk c.args.shared.now _ c.args.self.now c.self.view_is c.args.node.now c.args.session c.requires.stands c.requires.up c.requires.has c.trx_at.result c.in-Some.trx (read_out g.D.Disk c.args.shared.now _ c.args.self.now c.self.view_is c.args.node.now c.args.session c.requires.stands c.requires.up c.requires.has c.index.result.now c.index.ensures c.trx_at.result c.trx_at.ensures) c.in-Some.is) c.take_out.new.self c.take_out.ensures.set (c.take_out.ensures.book _ _ _) c.go_back.new.self c.go_back.new.node c.go_back.ensures.quiet c.go_back.ensures.counts c.in-Err.halt c.in-Err.ensures.cause trx has
