-- What is behind the head is left of the zeros.
use Rattle.std.proofs.Common.{length, refl, ◌∙◌}
use Rattle.std.proofs.lemmas.List.{drop-replicate}
use Rattle.mp_store.proofs.fresh.filled.Goals as goal

pub returns : goal.returns
returns c = let rest = c.split_at_mut-front.ensures.back ∙ drop-replicate (length c.args.head.now) 1024 0 in rw (c.copy_from_slice.ensures.after, rest) refl
