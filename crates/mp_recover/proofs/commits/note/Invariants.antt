-- The commits so far, and those of the records behind them, are all.
use Rattle.std.proofs.Common.{◌≡◌, ◌++◌, drop}
use Rattle.mp_recover.specs.Redoing.{commit_ids}
use Rattle.mp_recover.proofs.commits.note.Given as goal

abbrev pub invariant-loop-item : goal.invariant-loop-item
invariant-loop-item l = l.ids.items ++ commit_ids (drop l.item-index l.items) ≡ l.initial.ids.items ++ commit_ids l.items
