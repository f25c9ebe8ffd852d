-- What the steps on down words make of a node.
use Rattle.std.specs.Prelude.{ℕ, ◌+◌}
use Rattle.mp_core.specs.declared.part.DownPart.{DownPart}
use Rattle.mp_shared.specs.Nodes.{NodeView, node_with}

-- the node after a change of what one primary knows of those that are down, by so many operations on words
abbrev pub with_downs : NodeView → ℕ → (DownPart → DownPart) → ℕ → NodeView
with_downs n p f steps = node_with n p (λ q. record q { downs = f q.downs; ops = q.ops + steps })
