-- The buffer's front is what was copied there, and nothing is marked.
use Rattle.std.proofs.Common.{◌∙◌}
use Rattle.mp_outside.proofs.mem_disk.MemDisk.new.Goals as goal

pub returns : goal.returns
returns c =
    let synced = c.in_ok-synced.ensures.items ∙ c.deref.ensures.value in
    let marks = c.in_ok-marks.ensures.items_if_clones_equal (λ y e. e) in
    rw (synced, marks, c.in_ok-content.ensures.front, c.in_ok-content.ensures.room, c.in_ok-calls.ensures)
