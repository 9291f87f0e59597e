-- What is known of a resource type: the agent that carries out its methods, which methods it has, and its two properties:
-- that a cluster allows one resource of it alone, and that a group with one may be online on one node at most. Both are kept
-- here, and tested where resources are made.
use Rattle.std.specs.Prelude.{ℕ, Bool, List}

pub record TypeFields : Type 0 where
  pub agent : List ℕ
  pub methods : ℕ
  pub single : Bool
  pub failover : Bool
