-- The front of an mtr has ten bytes.
use Rattle.mp_redo.proofs.Puts.{mtr_length}
use Rattle.std.proofs.Common.{sym, ap, length, ◌+◌, ◌∙◌}
use Rattle.std.specs.List.{flat_map}
use Rattle.mp_redo.specs.Spelling.{record_bytes}
use Rattle.mp_redo.proofs.writing.size.Goals as goal

pub returns-clause-exact : goal.returns-clause-exact
returns-clause-exact c = ap (λ n. 10 + n) (c.records_size.ensures.exact ∙ ap (λ items. length (flat_map record_bytes items)) c.as_slice.ensures.value) ∙ sym (mtr_length c.args.mtr.now)
