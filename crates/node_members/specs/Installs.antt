-- What a node does that is to install a membership of its session, before it answers.
use Rattle.std.specs.Prelude.{ℕ, if◌then◌else◌}
use Rattle.wire.specs.declared.message.Install.{Install}
use Rattle.node_model.specs.declared.cluster.Cluster.{Cluster}
use Rattle.node_model.specs.declared.node.UpNode.{UpNode}
use Rattle.node_model.specs.declared.seat.Seat.{Seat}
use Rattle.node_model.specs.declared.seat.Seat.TheVariants.{Forming, Member}
use Rattle.node_model.specs.Attempts.{installed_so, installing, installs_now, joining_from}
use Rattle.node_model.specs.Plans.{Plan}
use Rattle.node_model.specs.Plans.Plan.{Stays}
use Rattle.node_model.specs.Presidents.{tidied}
use Rattle.node_model.specs.Seats.{state_of}

-- what it has installed it does not install again
abbrev pub installing_members : Cluster → ℕ → UpNode → Install → Seat → Plan
installing_members c me x i (Member s) = Stays x
installing_members c me x i (Forming s) =
    if installs_now s i
    then installed_so me (installing c me x s x.tasks i) i.epoch (Stays (installing c me x s x.tasks i))
    else Stays x

-- the node of this record has installed it: it has devices to join, and keeps nothing of what is deleted
abbrev pub settled : Cluster → ℕ → UpNode → Install → UpNode
settled c me y i = tidied c (record y { tasks = joining_from c me i.epoch (state_of y.seat).joined y.tasks i.readings })

abbrev pub settling : Cluster → ℕ → UpNode → Install → Plan
settling c me y i = installed_so me (settled c me y i) i.epoch (Stays (settled c me y i))
