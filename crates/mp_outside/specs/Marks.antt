-- What a write leaves behind of a byte that isn't synced yet, for a crash to choose from.
use Rattle.std.specs.Prelude.{ℕ, ◌+◌, ◌-◌, ◌/◌, ◌==◌, List, ◌++◌, take, drop, replicate, slice_index_or, min, if◌then◌else◌}
use Rattle.mp_outside.specs.declared.marks.Mark.{Mark}
use Rattle.mp_outside.specs.declared.marks.Mark.TheVariants.{Untouched, Gap, Front, Back}

-- the mark of a place
abbrev pub mark_at : List Mark → ℕ → Mark
mark_at marks place = slice_index_or marks place Untouched

-- the marks after a write of so many bytes at a place, in a file of this length: the first half of what was written, rounded down, is its front
abbrev pub marked : ℕ → ℕ → ℕ → List Mark → List Mark
marked place count size marks =
    take (min place size) marks ++ (replicate (place - size) Gap ++ (replicate (count / 2) Front ++ (replicate (count - count / 2) Back ++ drop (place + count) marks)))

-- what a crash of choice 1, 2 or 3 leaves of a byte that reads so now and read so at the last sync
abbrev pub left_of : Mark → ℕ → ℕ → ℕ → ℕ
left_of Untouched choice now was = now
left_of Gap choice now was = now
left_of Front choice now was = if choice == 3 then 165 else now
left_of Back choice now was = if choice == 3 then 165 else (if choice == 2 then was else now)
