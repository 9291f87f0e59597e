-- Refusals of commands on votes and nodes.
use Rattle.std.specs.Prelude.{ℕ, ◌==◌, nat_lt, Bool, true, false, not, ◌&&◌, Option, Some, None, if◌then◌else◌}
use Rattle.cl_base.specs.Sets.{has}
use Rattle.cl_base.specs.declared.refusal.Refusal.{Refusal}
use Rattle.cl_base.specs.declared.refusal.Refusal.TheVariants.{NodeIsMember, DeviceNotHeld, LoseQuorum, NodeHasVote}
use Rattle.quorum_votes.specs.Tables.{VoteTable}
use Rattle.quorum_votes.specs.Votes.{held_of, needed_of, vote_of}
use Rattle.ccr_tables.specs.declared.update.DeviceChange.{DeviceChange}
use Rattle.ccr_tables.specs.declared.update.DeviceChange.TheVariants.{Add, Remove, Enable, Disable}
use Rattle.ccr_tables.specs.declared.update.Update.{Update}
use Rattle.ccr_tables.specs.declared.update.Update.TheVariants.{Device, NodeVote, RemoveNode}
use Rattle.ccr_tables.specs.Changes.{changed}
use Rattle.ccr_tables.specs.State.{ConfigState}
use Rattle.admin_commands.specs.Cases.{where_so}

-- 21: the node that is to lose its vote, or to be taken out, is a member
abbrev pub node_is_member : ℕ → Update → Option Refusal
node_is_member members (NodeVote n vote) = where_so (not vote && has members n) NodeIsMember
node_is_member members (RemoveNode n) = where_so (has members n) NodeIsMember
node_is_member members _ = None

-- the device is to have votes
abbrev pub gives_votes : DeviceChange → Bool
gives_votes Add = true
gives_votes Enable = true
gives_votes Remove = false
gives_votes Disable = false

-- 22: the membership does not hold the device that is to have votes
abbrev pub device_not_held : ℕ → Update → Option Refusal
device_not_held held (Device d change) = where_so (gives_votes change && not (has held d)) DeviceNotHeld
device_not_held held _ = None

-- the members and the devices held have less votes than are needed
abbrev pub lacking : VoteTable → ℕ → ℕ → Option Refusal
lacking v members held =
    if nat_lt (held_of v members held) (needed_of v)
    then Some (LoseQuorum (held_of v members held) (needed_of v)) else None

-- 23: under the new votes the membership would have no majority
abbrev pub lose_quorum : ConfigState → ℕ → ℕ → Update → Option Refusal
lose_quorum s members held (Device d change) = lacking (changed s (Device d change)).votes members held
lose_quorum s members held (NodeVote n vote) = lacking (changed s (NodeVote n vote)).votes members held
lose_quorum s members held _ = None

-- 25: the node that is to be taken out has a vote
abbrev pub node_has_vote : ConfigState → Update → Option Refusal
node_has_vote s (RemoveNode n) = where_so (vote_of s.votes n == 1) NodeHasVote
node_has_vote s _ = None
