use Rattle.std.proofs.Common.{◌≡◌, ◌++◌, map, take, drop}
use Rattle.mp_buffer_fusion.specs.Buffers.{unpinned_buffer}
use Rattle.mp_buffer_fusion.proofs.changing.unpin.Given as goal

-- those before this one are not pinned
abbrev pub invariant-loop-buffer : goal.invariant-loop-buffer
invariant-loop-buffer l = l.buffer-items ≡ map unpinned_buffer (take l.buffer-index l.fn.buffers.items) ++ drop l.buffer-index l.fn.buffers.items
