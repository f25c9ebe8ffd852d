-- Small parts of a primary that made one mtr, on which the words of contracts are tried.
use Rattle.std.specs.Prelude.{[]}
use Rattle.mp_core.specs.declared.part.CorePart.{CorePart}
use Rattle.mp_supports.specs.SmallParts.{small_part, made_at_four, put_over, commit_mtr}
use Rattle.mp_desk.specs.SmallDesks.{unwritten_row, own_row}

-- it put the value 98 at key 5
abbrev pub one_put_part : CorePart
one_put_part = small_part [] [] (made_at_four (put_over unwritten_row own_row))

-- it recorded a commit
abbrev pub one_commit_part : CorePart
one_commit_part = small_part [] [] (made_at_four (commit_mtr 1))
