-- Votes are few, and each refusal that rests on more than the configuration has operands that are names and numbers.
use Rattle.std.specs.Prelude.{ℕ, ◌+◌, ◌-◌, ◌/◌, ◌^◌, ◌≤◌, ◌<◌, min, nat_lt, length, find, Option, None, Some, IfSome}
use Rattle.std.proofs.Common.{arith}
use Rattle.admin_commands.specs.Managing.{managed, not_listed, too_many, unmanaged}
use Rattle.admin_commands.specs.Orders.{single}
use Rattle.admin_commands.specs.Records.{length_with, most_bytes, record_full}
use Rattle.admin_commands.specs.Votes.{device_not_held, lacking, lose_quorum, node_has_vote, node_is_member}
use Rattle.answer_words.specs.Laws.{IsRefusal}
use Rattle.ccr_tables.specs.Changes.{changed}
use Rattle.ccr_tables.specs.State.{ConfigState}
use Rattle.ccr_tables.specs.declared.update.Update.{Update}
use Rattle.ccr_tables.specs.declared.update.Update.TheVariants.{DeleteGroup, ChangeGroup, SwitchGroup, CreateResource, DeleteResource, Device, NodeVote, RemoveNode}
use Rattle.cl_base.specs.declared.header.Version.{Version}
use Rattle.cl_base.specs.declared.refusal.Refusal.TheVariants as refusal
use Rattle.cl_base.specs.Sets.{has}
use Rattle.cmm_attempt.proofs.Basics.{if_either}
use Rattle.quorum_votes.proofs.SumLemmas.{sum_to_le}
use Rattle.quorum_votes.specs.Sums.{sum_to}
use Rattle.quorum_votes.specs.Tables.{VoteTable}
use Rattle.quorum_votes.specs.Votes.{device_share, device_votes_in, device_votes_of, held_of, needed_of, node_share, node_votes_of, vote_in, vote_of, votes_of_device}
use Rattle.quorum_votes.specs.declared.state.DevState.{DevState}
use Rattle.quorum_votes.specs.declared.state.DevState.TheVariants.{Absent, Enabled, Disabled}
use Rattle.quorum_votes.specs.declared.state.NodeState.{NodeState}
use Rattle.quorum_votes.specs.declared.state.NodeState.TheVariants.{Maintenance, Unconfigured, Voting}
use Rattle.quorum_votes.specs.declared.state.VoteDevice.{VoteDevice}
use Rattle.row_laws.proofs.Keys.{each_weaker}
use Rattle.run_history.proofs.Lists.{found}
use Rattle.word_laws.specs.Spelled.{IsNodeOf, IsSpelled}
use Rattle.run_packets.proofs.admitted.Made.{few_nodes, of_map, of_where}

-- ---- votes

vote_few : (s : NodeState) → vote_in s ≤ 1
vote_few Voting = omega arith
vote_few Maintenance = omega arith
vote_few Unconfigured = omega arith

share_few : (v : VoteTable) (set n : ℕ) → node_share v set n ≤ 1
share_few v set n = if_either (λ k. k ≤ 1) (has set n) (vote_of v n) 0 (vote_few _) (omega arith)

ones : sum_to (λ n. 1) 32 ≤ 32
unfolding sum_to
ones = omega arith

many : sum_to (λ d. 32) 16 ≤ 512
unfolding sum_to
many = omega arith

nodes_few : (v : VoteTable) (set : ℕ) → node_votes_of v set ≤ 32
nodes_few v set = omega (arith, sum_to_le (node_share v set) (λ n. 1) (share_few v set) 32, ones)

all_nodes_few : (v : VoteTable) → sum_to (vote_of v) 32 ≤ 32
all_nodes_few v = omega (arith, sum_to_le (vote_of v) (λ n. 1) (λ n. vote_few _) 32, ones)

state_few : (v : VoteTable) (s : DevState) (attached : ℕ) → device_votes_in v s attached ≤ 32
state_few v Enabled attached = omega (arith, nodes_few v attached)
state_few v Disabled attached = omega arith
state_few v Absent attached = omega arith

found_few : (v : VoteTable) (o : Option VoteDevice) → votes_of_device v o ≤ 32
found_few v None = omega arith
found_few v (Some d) = state_few v d.state d.attached

device_few : (v : VoteTable) (d : ℕ) → device_votes_of v d ≤ 32
device_few v d = found_few v _

held_few : (v : VoteTable) (set d : ℕ) → device_share v set d ≤ 32
held_few v set d = if_either (λ k. k ≤ 32) (has set d) (device_votes_of v d) 0 (device_few v d) (omega arith)

held_small : (v : VoteTable) (members held : ℕ) → held_of v members held < 2 ^ 64
held_small v members held = omega (arith, nodes_few v members, sum_to_le (device_share v held) (λ d. 32) (held_few v held) 16, many)

half_small : (total : ℕ) → total ≤ 544 → total / 2 + 1 < 2 ^ 64
half_small total h = omega (arith, h)

needed_small : (v : VoteTable) → needed_of v < 2 ^ 64
needed_small v = half_small _ (omega (arith, all_nodes_few v, sum_to_le (device_votes_of v) (λ d. 32) (device_few v) 16, many))

lacking_good : (v : VoteTable) (members held : ℕ) → IfSome (lacking v members held) IsRefusal
lacking_good v members held =
    if_either (λ o. IfSome o IsRefusal) (nat_lt (held_of v members held) (needed_of v)) (Some (refusal.LoseQuorum (held_of v members held) (needed_of v))) None
    (held_small v members held, needed_small v) tt

-- ---- each of the refusals

pub quorum_good : (s : ConfigState) (members held : ℕ) (u : Update) → IfSome (lose_quorum s members held u) IsRefusal
quorum_good s members held (Device d change) = lacking_good (changed s (Device d change)).votes members held
quorum_good s members held (NodeVote n vote) = lacking_good (changed s (NodeVote n vote)).votes members held
quorum_good s members held _ = tt

told_small : (a : ℕ) → min a (2 ^ 64 - 1) < 2 ^ 64
told_small a = grind arith

pub full_good : (s : ConfigState) (length : ℕ) (u : Update) → IfSome (record_full s length u) IsRefusal
full_good s length u =
    if_either (λ o. IfSome o IsRefusal) (nat_lt most_bytes (length_with s length u)) (Some (refusal.RecordFull (min (length_with s length u) (2 ^ 64 - 1)))) None (told_small _) tt

pub single_good : (s : ConfigState) (u : Update) → IfSome (single s u) IsRefusal
single_good s (CreateResource name of_group of_type) = of_where _ refusal.Single tt
single_good s _ = tt

pub member_good : (members : ℕ) (u : Update) → IfSome (node_is_member members u) IsRefusal
member_good members (NodeVote n vote) = of_where _ refusal.NodeIsMember tt
member_good members (RemoveNode n) = of_where _ refusal.NodeIsMember tt
member_good members _ = tt

pub held_good : (held : ℕ) (u : Update) → IfSome (device_not_held held u) IsRefusal
held_good held (Device d change) = of_where _ refusal.DeviceNotHeld tt
held_good held _ = tt

pub vote_good : (s : ConfigState) (u : Update) → IfSome (node_has_vote s u) IsRefusal
vote_good s (RemoveNode n) = of_where _ refusal.NodeHasVote tt
vote_good s _ = tt

pub managed_good : (s : ConfigState) (u : Update) → IfSome (managed s u) IsRefusal
managed_good s (DeleteGroup name) = of_where _ refusal.Managed tt
managed_good s (DeleteResource name) = of_where _ refusal.Managed tt
managed_good s _ = tt

pub unmanaged_good : (s : ConfigState) (u : Update) → IfSome (unmanaged s u) IsRefusal
unmanaged_good s (ChangeGroup name change) = of_where _ refusal.Unmanaged tt
unmanaged_good s (SwitchGroup name nodes) = of_where _ refusal.Unmanaged tt
unmanaged_good s _ = tt

pub listed_good : (v : Version) (s : ConfigState) (u : Update) → IsSpelled v u → IfSome (not_listed s u) IsRefusal
listed_good v s (SwitchGroup name nodes) p =
    let inside : ℕ → Type 0 = λ n. (1 ≤ n) × (n ≤ 32) in
    of_map inside IsRefusal (λ n. refusal.NotListed n) (find _ nodes) (λ n k. k) (found inside _ nodes (each_weaker (IsNodeOf v) inside (few_nodes v) nodes p.1.each))
listed_good v s _ p = tt

pub many_good : (s : ConfigState) (u : Update) → IfSome (too_many s u) IsRefusal
many_good s (SwitchGroup name nodes) = of_where _ refusal.TooMany tt
many_good s _ = tt
