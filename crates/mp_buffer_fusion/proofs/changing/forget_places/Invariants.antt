use Rattle.mp_buffer_fusion.proofs.Listing.{ForgotUpTo}
use Rattle.mp_buffer_fusion.proofs.changing.forget_places.Given as goal

-- the places of the buffers before this one are forgotten
abbrev pub invariant-loop-buffer : goal.invariant-loop-buffer
invariant-loop-buffer l = ForgotUpTo l.buffers l.places l.buffer-index
