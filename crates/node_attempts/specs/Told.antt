-- What is saved and told on the way of an attempt, part by part.
use Rattle.std.specs.Prelude.{ℕ, Bool, List, [], Option, None, Some, length, if◌then◌else◌}
use Rattle.std.specs.Option.{unwrap_or}
use Rattle.cmm_attempt.specs.declared.step.AttemptEnd.{AttemptEnd}
use Rattle.cmm_attempt.specs.declared.step.Step.{Step}
use Rattle.cmm_attempt.specs.Attempts.{AttemptState, Turn, newest_installed, own_readying, voting}
use Rattle.cmm_member.specs.Nodes.{NodeState}
use Rattle.request_queue.specs.Queue.{ended}
use Rattle.status_report.specs.declared.entry.Entry.TheVariants as entry
use Rattle.status_report.specs.declared.node_entry.NodeEntry.TheVariants as node
use Rattle.wire.specs.declared.message.Install.{Install}
use Rattle.node_model.specs.declared.cluster.Cluster.{Cluster}
use Rattle.node_model.specs.declared.node.UpNode.{UpNode}
use Rattle.node_model.specs.declared.seat.Seat.TheVariants.{Member}
use Rattle.node_model.specs.Attempts.{adopted_of, base_lines, ended_entry, excluding, installed_so, is_choosing, joining_from, keeping_if, left_out_by, started_entry, under_way, votes_in}
use Rattle.node_model.specs.Configurations.{in_force}
use Rattle.node_model.specs.Entries.{telling, telling_of}
use Rattle.node_model.specs.Plans.{Plan}
use Rattle.node_model.specs.Plans.Plan.{Stays, Says}
use Rattle.node_model.specs.Presidents.{tidied}
use Rattle.node_model.specs.Seats.{record_of, state_of}

-- nobody waits for an answer any more
abbrev pub asking_none : UpNode → UpNode
asking_none x = record x { requests = ended x.requests }

-- how the attempt ended, and who is left out
abbrev pub end_told : ℕ → UpNode → AttemptState → AttemptEnd → Plan
end_told me x a e = telling (entry.Attempt (ended_entry a.plan.epoch e)) (excluding me x a.plan.epoch (unwrap_or (newest_installed a) 0) (left_out_by e))

-- the node of this record has installed it: it has devices to join, and keeps nothing of what is deleted
abbrev pub settled : Cluster → ℕ → UpNode → Install → UpNode
settled c me y i = tidied c (record y { tasks = joining_from c me i.epoch (state_of y.seat).joined [] i.readings })

abbrev pub settling : Cluster → ℕ → UpNode → Install → Plan
settling c me y i = installed_so me (settled c me y i) i.epoch (Stays (settled c me y i))

-- the turn, with the votes where they are wanted
abbrev pub voted : Cluster → Turn → Turn
voted c t = if is_choosing t.after.phase then voting t.after (votes_in c t.after) else t

-- the node and its attempt's steps, once its own part is done
abbrev pub readied : UpNode → Option AttemptState → UpNode
readied x None = x
readied x (Some a) = under_way x (own_readying a).after

abbrev pub readied_steps : Option AttemptState → Option (List Step)
readied_steps None = None
readied_steps (Some a) = Some (own_readying a).steps

-- by the node after it: the membership, its base, what it adopts, and that the node is a member
abbrev pub start_told : Cluster → ℕ → AttemptState → UpNode → Plan
start_told c me a y =
    telling (entry.Start (started_entry a (length (record_of y).entries.committed)))
    (Says (base_lines a.plan.epoch 0 (record_of y).entries.committed)
    (Says (adopted_of a.plan.epoch (in_force c y) y.presidency) (telling_of me (node.Member a.plan.epoch) (Stays y))))

abbrev pub membership_told : Cluster → ℕ → AttemptState → Bool → UpNode → Plan
membership_told c me a changed y = keeping_if changed me y (start_told c me a y)

-- the node as a member, where it is one
abbrev pub seated : UpNode → Option (NodeState × Bool) → UpNode
seated x None = x
seated x (Some p) = record x { seat = Member p.0 }
