-- The header to come is one that a store may have.
use Rattle.std.proofs.Common.{sym, subst, arith}
use Rattle.mp_store.specs.HeaderSides.{IsHeader}
use Rattle.mp_recover.proofs.NextHeader.{next_is_header}
use Rattle.mp_recover.proofs.recovering.header_behind.Goals as goal

pub returns : goal.returns
returns c = (
  c.next_of.ensures,
  subst IsHeader (sym c.next_of.ensures) (next_is_header c.args.loaded.now c.requires (omega (arith, c.if-loaded.false, c.requires.header.generation))),
)
