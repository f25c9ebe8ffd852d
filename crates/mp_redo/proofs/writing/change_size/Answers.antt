-- A cell of a row has 64 bytes, one of a child 8.
use Rattle.std.proofs.Common.{◌+◌, ◌*◌, ap, sym, ◌∙◌}
use Rattle.mp_redo.proofs.Puts.{change_length, change_is_long}
use Rattle.mp_redo.proofs.writing.change_size.Goals as goal

pub returns-in-MakeLeaf-clause-exact : goal.returns-in-MakeLeaf-clause-exact
returns-in-MakeLeaf-clause-exact c = ap (λ n. 17 + 64 * n) c.len.ensures.count ∙ ap change_length (sym c.in-MakeLeaf.is) ∙ change_is_long c.args.change.now c.requires

pub returns-in-MakeInner-clause-exact : goal.returns-in-MakeInner-clause-exact
returns-in-MakeInner-clause-exact c = ap (λ n. 17 + 8 * n) c.len-in-MakeInner.ensures.count ∙ ap change_length (sym c.in-MakeInner.is) ∙ change_is_long c.args.change.now c.requires

pub returns-in-PutRow-clause-exact : goal.returns-in-PutRow-clause-exact
returns-in-PutRow-clause-exact c = ap change_length (sym c.in-PutRow.is) ∙ change_is_long c.args.change.now c.requires

pub returns-in-RestoreRow-clause-exact : goal.returns-in-RestoreRow-clause-exact
returns-in-RestoreRow-clause-exact c = ap change_length (sym c.in-RestoreRow.is) ∙ change_is_long c.args.change.now c.requires

pub returns-in-PutChild-clause-exact : goal.returns-in-PutChild-clause-exact
returns-in-PutChild-clause-exact c = ap change_length (sym c.in-PutChild.is) ∙ change_is_long c.args.change.now c.requires

pub returns-in-PutUndo-clause-exact : goal.returns-in-PutUndo-clause-exact
returns-in-PutUndo-clause-exact c = ap change_length (sym c.in-PutUndo.is) ∙ change_is_long c.args.change.now c.requires
