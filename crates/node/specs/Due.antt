-- What is left to do of a step, and what comes of it.
use Rattle.std.specs.Prelude.{ℕ, ◌≡◌, ◌<◌, ◌/◌, ◌^◌, ◌++◌, Bool, true, false, List, [], Option, Some, None, Ok}
use Rattle.cl_base.specs.Sets.{has}
use Rattle.cl_base.specs.declared.method.Outcome as method
use Rattle.cmm_attempt.specs.Attempts.{AttemptState, ticking}
use Rattle.cmm_member.specs.Records.{NodeRecord}
use Rattle.record_disk.specs.Savings.{Saving}
use Rattle.wire.specs.declared.message.Message.{Message}
use Rattle.node_model.specs.declared.cluster.Cluster.{Cluster}
use Rattle.node_model.specs.declared.input.Input.{Input}
use Rattle.node_model.specs.declared.input.Input.TheVariants.{Boot, Crash, Tick, Packet, CommandDue, Answered, Wrote, Commanded, Reported, Client}
use Rattle.node_model.specs.declared.node.Node.{Node}
use Rattle.node_model.specs.declared.node.Node.TheVariants as node
use Rattle.node_model.specs.declared.node.UpNode.{UpNode}
use Rattle.node_model.specs.declared.output.Output.{Output}
use Rattle.node_model.specs.Attempts.{going_on, leading}
use Rattle.node_model.specs.Deciding.{deciding}
use Rattle.node_model.specs.Groups.{own_order, own_turn}
use Rattle.node_model.specs.Members.{on_packet}
use Rattle.node_model.specs.Plans.{Gives, Plan, and_then}
use Rattle.node_model.specs.Plans.Plan.{Stays, Says}
use Rattle.node_model.specs.Steps.{DiskRules, Outcome, at_second, carried, down_stepped, plan_of}
use Rattle.node_model.specs.Ticks.{attempt_ticked}
use Rattle.node_groups.specs.Again.{orders_again_at}
use Rattle.node_updates.specs.declared.again.Again.{Again}
use Rattle.node.specs.declared.due.AttemptDue.{AttemptDue}
use Rattle.node.specs.declared.due.AttemptDue.TheVariants.{Nothing, GoesOn, Begins}
use Rattle.node.specs.declared.due.Due.{Due}
use Rattle.node.specs.declared.due.Due.TheVariants.{Attempt, Govern, All}

-- the node at this second of the clock
abbrev pub at_second_of : ℕ → Node → Node
at_second_of now node.Down = node.Down
at_second_of now (node.Up x) = node.Up (at_second now x)

-- the step of a node that stands at the second of the clock
abbrev pub moved : {K : Type 0} → DiskRules K → Cluster → ℕ → method.Outcome → Node → K → Input → Outcome K
moved rules c me outcome node.Down disk input = down_stepped rules c me disk input
moved rules c me outcome (node.Up x) disk input = carried rules.saving me (plan_of c me outcome x input) [] disk

abbrev pub going_on_with : Cluster → ℕ → UpNode → Option AttemptState → Plan
going_on_with c me x None = Stays x
going_on_with c me x (Some a) = going_on c me x (ticking a)

-- a tick is begun before anything is left of it
abbrev pub untouched : Cluster → ℕ → method.Outcome → UpNode → Input → Plan
untouched c me outcome x Tick = Stays x
untouched c me outcome x Boot = plan_of c me outcome x Boot
untouched c me outcome x Crash = plan_of c me outcome x Crash
untouched c me outcome x (Packet from message) = plan_of c me outcome x (Packet from message)
untouched c me outcome x CommandDue = plan_of c me outcome x CommandDue
untouched c me outcome x (Answered a) = plan_of c me outcome x (Answered a)
untouched c me outcome x (Wrote d value a) = plan_of c me outcome x (Wrote d value a)
untouched c me outcome x (Commanded words) = plan_of c me outcome x (Commanded words)
untouched c me outcome x (Reported r good) = plan_of c me outcome x (Reported r good)
untouched c me outcome x (Client address client port) = plan_of c me outcome x (Client address client port)

-- What a president does at a tick: its own order is carried out, this goes again, and it decides.

abbrev pub again_of : Again → UpNode → List Output
again_of again x = again.prepares.items ++ orders_again_at again.orders x.presidency

abbrev pub sent_and_decided : Cluster → ℕ → Again → UpNode → Plan
sent_and_decided c me again x = Says (again_of again x) (deciding c me x)

abbrev pub presided : Cluster → ℕ → method.Outcome → Again → UpNode → Plan
presided c me outcome again x = and_then (own_turn c me outcome x (own_order me x)) (sent_and_decided c me again)

-- .. and then its attempt has a tick
abbrev pub attempt_of : Cluster → ℕ → UpNode → Plan
attempt_of c me x = attempt_ticked c me x x.attempt

abbrev pub governed : Cluster → ℕ → method.Outcome → Again → UpNode → Plan
governed c me outcome again x = and_then (presided c me outcome again x) (attempt_of c me)

-- what is due of attempts is done
abbrev pub attempt_rest : Cluster → ℕ → UpNode → AttemptDue → Plan
attempt_rest c me x Nothing = Stays x
attempt_rest c me x GoesOn = going_on_with c me x x.attempt
attempt_rest c me x (Begins members) = leading c me x members

abbrev pub rest_of : Cluster → ℕ → method.Outcome → UpNode → Input → Due → Plan
rest_of c me outcome x input (Attempt due) = attempt_rest c me x due
rest_of c me outcome x input (Govern again) = governed c me outcome again x
rest_of c me outcome x input All = untouched c me outcome x input

-- an attempt is begun only where its epochs do not end, and by one of its members
abbrev pub MayBegin : ℕ → UpNode → AttemptDue → Type 0
MayBegin me x Nothing = Unit {0}
MayBegin me x GoesOn = Unit {0}
MayBegin me x (Begins members) = (has members me ≡ true) × (x.greatest / 64 < 2 ^ 56)

abbrev pub MayFollow : ℕ → UpNode → Due → Type 0
MayFollow me x (Attempt due) = MayBegin me x due
MayFollow me x (Govern again) = Unit {0}
MayFollow me x All = Unit {0}

abbrev pub IsDueAt : ℕ → Node → Due → Type 0
IsDueAt me node.Down due = Unit {0}
IsDueAt me (node.Up x) due = MayFollow me x due

abbrev pub finished : {K : Type 0} → (K → NodeRecord → Saving K) → Cluster → ℕ → method.Outcome → Node → Input → Due → List Output → K → Outcome K
finished saving c me outcome node.Down input due given disk = record { after = node.Down; given = given; disk = disk }
finished saving c me outcome (node.Up x) input due given disk = carried saving me (rest_of c me outcome x input due) given disk

-- A heartbeat is heard: by any configuration of the cluster that is what the node does with the packet, which calls nothing. Of any
-- other packet nothing is done yet.
abbrev pub HearsUp : ℕ → UpNode → ℕ → Message → List Output → Bool → UpNode → List Output → Type 0
HearsUp me x from m given true after told = (c : Cluster) (outcome : method.Outcome) → Gives (on_packet c me outcome x from m) given (Ok after) told
HearsUp me x from m given false after told = (after ≡ x) × (told ≡ given)

abbrev pub Hears : ℕ → Node → ℕ → Message → List Output → Bool → Node → List Output → Type 0
Hears me node.Down from m given done after told = (done ≡ false) × (after ≡ node.Down) × (told ≡ given)
Hears me (node.Up x) from m given true node.Down told = ⊥
Hears me (node.Up x) from m given true (node.Up after) told = (c : Cluster) (outcome : method.Outcome) → Gives (on_packet c me outcome x from m) given (Ok after) told
Hears me (node.Up x) from m given false after told = (after ≡ node.Up x) × (told ≡ given)
