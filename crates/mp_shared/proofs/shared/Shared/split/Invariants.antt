use Rattle.std.proofs.Common.{◌==◌}
use Rattle.mp_shared.proofs.shared.Shared.split.Given as goal

abbrev pub ghosts-part_off : goal.ghosts-part_off
ghosts-part_off a = record { moves = λ n. n == a._about.now }
