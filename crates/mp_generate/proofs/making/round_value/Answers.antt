use Rattle.std.proofs.Common.{arith}
use Rattle.mp_generate.proofs.Values.{value_made, value_read}
use Rattle.mp_generate.proofs.making.round_value.Goals as goal

pub unreachable-requires : goal.unreachable-requires
unreachable-requires c =
    value_read c.args.session c.args.round c.as_slice.result.now c.read.result (omega (arith, c.requires.session)) (omega (arith, c.requires.last))
    (value_made c.args.session c.args.round c.from.result c.from-2.result c.new-text.result.items c.push_numbered.new.text.items c.push_numbered-2.new.text.items c.as_slice.result.now
    c.from.ensures c.from-2.ensures c.new-text.ensures c.in_ok-push_numbered.ensures c.in_ok-push_numbered-2.ensures c.as_slice.ensures)
    c.read.ensures c.in-None.is
