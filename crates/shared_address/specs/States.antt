-- What the requests for a shared address have left: whose turn it is, and which clients are kept with which nodes.
use Rattle.std.specs.Prelude.{ℕ, List, []}
use Rattle.shared_address.specs.declared.choice.Client.{Client}
use Rattle.shared_address.specs.declared.choice.Target.{Target}

-- The targets at the last request, and how many turns of the round that is under way were taken.
pub record TurnState : Type 0 where
  pub targets : List Target
  pub taken : ℕ

-- The turns, and each kept client with its node, in the order in which they were kept.
pub record AddressState : Type 0 where
  pub turns : TurnState
  pub kept : List (Client × ℕ)

-- before the first request
abbrev pub no_turns : TurnState
no_turns = record { targets = []; taken = 0 }

abbrev pub fresh : AddressState
fresh = record { turns = no_turns; kept = [] }
