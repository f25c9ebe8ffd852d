use Rattle.mp_machine_example.specs.Numbers.{is_second}
use Rattle.mp_machine_example.proofs.desk.Desk.split.Given as goal

abbrev pub ghosts-split : goal.ghosts-split
ghosts-split a = record { moves = is_second }
