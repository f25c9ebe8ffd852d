use Rattle.std.proofs.Common.{List, length, slice_get, sym, ap, ◌∙◌}
use Rattle.mp_script.specs.DownLines.{down_lines}
use Rattle.mp_primary.specs.Primaries.{PrimaryView}
use Rattle.mp_members.specs.Running.{downs_of}
use Rattle.mp_cluster.proofs.running.end_run.Goals as goal

pub list_downs-listed-requires : goal.list_downs-listed-requires
list_downs-listed-requires g c = λ place pr at. c.requires.numbers place pr (ap (λ (ps : List (PrimaryView _)). slice_get ps place) (sym c.as_slice.ensures.value) ∙ at)

pub returns-clause-downs : goal.returns-clause-downs
returns-clause-downs g c = c.in_ok-downs.ensures ∙ ap (λ (ps : List (PrimaryView _)). down_lines (downs_of ps) 1 (length ps)) c.as_slice.ensures.value
