-- The sessions of the entries so far.
use Rattle.std.proofs.Common.{◌≡◌, take}
use Rattle.mp_script.specs.Drafts.{sessions_of}
use Rattle.mp_script.proofs.drafts.sessions_in.Given as goal

abbrev pub invariant-loop-i : goal.invariant-loop-i
invariant-loop-i l = l.sessions.items ≡ sessions_of (take l.i l.map.entries)
