use Rattle.mp_buffer_fusion.proofs.Listing.{ListsUpTo}
use Rattle.mp_buffer_fusion.proofs.changing.list_places.Given as goal

-- the places of the buffers before this one are listed
abbrev pub invariant-loop-i : goal.invariant-loop-i
invariant-loop-i l = ListsUpTo l.buffers l.places l.i
