-- Who has votes: what each node counts for, node n at place n - 1, and each device of the header, device d at place d - 1.
use Rattle.std.specs.Prelude.{List, Option}
use Rattle.quorum_votes.specs.declared.state.NodeState.{NodeState}
use Rattle.quorum_votes.specs.declared.state.VoteDevice.{VoteDevice}

pub record VoteTable : Type 0 where
  pub nodes : List NodeState
  pub devices : List (Option VoteDevice)
