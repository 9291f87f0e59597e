-- Every node of every run is bounded, so that each of its steps sends few messages.
use Rattle.std.specs.Prelude.{ℕ, ◌≡◌, ◌≢◌, ◌≤◌, ◌⊎◌, ◌++◌, List, [], ◌∷◌, length}
use Rattle.std.proofs.Common.{sym, subst, inl, inr}
use Rattle.std.specs.List.{AllByRecursion}
use Rattle.cl_base.specs.declared.method.Outcome as method
use Rattle.machine_base.specs.Put.{put}
use Rattle.machine_base.proofs.Puts.{put_here, put_there, same_or_not}
use Rattle.record_disk.specs.Disks.{DiskState}
use Rattle.wire.specs.declared.message.Body.{Body}
use Rattle.wire.specs.Spelling.{IsNode}
use Rattle.node_model.specs.declared.cluster.Cluster.{Cluster}
use Rattle.node_model.specs.declared.input.Input.{Input}
use Rattle.node_model.specs.declared.input.Input.TheVariants.{Boot, Crash, Tick, Packet, CommandDue, Answered, Wrote, Commanded, Reported, Client}
use Rattle.node_model.specs.declared.node.Node.{Node}
use Rattle.node_model.specs.declared.output.Output.{Output}
use Rattle.node_model.specs.declared.output.Output.TheVariants.{Tells, Sends}
use Rattle.node_model.specs.Steps.{Outcome, stepped}
use Rattle.refinement.specs.node_bounds.Bounded.{IsFromNode, NodeIsBounded}
use Rattle.refinement.proofs.node_bounds.Steps.{StepIs, stepped_few}
use Rattle.refinement.specs.Runs.{IsAmong, Letter, MayMove, Move, Moves, Nodes, WasSent, first_nodes, letters_of, moved}
use Rattle.refinement.specs.Runs.Move.{Arms, Takes}
use Rattle.refinement.specs.Sends.{RunsSendFew}
use Rattle.refinement.specs.Steps.{disk_rules}

-- each node is bounded, and each message was sent by a node
pub record RunIsBounded (v : Nodes) : Type 0 where
  pub nodes : (n : ℕ) → NodeIsBounded (v.node n)
  pub sent : AllByRecursion (λ (l : Letter). IsNode l.from) v.sent

from_node : (from : ℕ) (b : Body) (letters : List Letter) → IsAmong from b letters → AllByRecursion (λ (l : Letter). IsNode l.from) letters → IsNode from
from_node from b [] h all = absurd h
from_node from b (l ∷ letters) (inl e) all = subst IsNode e.0 all.0
from_node from b (l ∷ letters) (inr h) all = from_node from b letters h all.1

arrives_from : (v : Nodes) (i : Input) → WasSent v i → AllByRecursion (λ (l : Letter). IsNode l.from) v.sent → IsFromNode i
arrives_from v (Packet from m) h all = from_node from m.body v.sent h all
arrives_from v Boot h all = tt
arrives_from v Crash h all = tt
arrives_from v Tick h all = tt
arrives_from v CommandDue h all = tt
arrives_from v (Answered a) h all = tt
arrives_from v (Wrote d value a) h all = tt
arrives_from v (Commanded words) h all = tt
arrives_from v (Reported r good) h all = tt
arrives_from v (Client name client port) h all = tt

letters_from : (n : ℕ) (os : List Output) (old : List Letter) → IsNode n → AllByRecursion (λ (l : Letter). IsNode l.from) old → AllByRecursion (λ (l : Letter). IsNode l.from) (letters_of n os ++ old)
letters_from n [] old is h = h
letters_from n (Tells e ∷ os) old is h = letters_from n os old is h
letters_from n (Sends to b ∷ os) old is h = (is, letters_from n os old is h)

put_bounded : (v : Nodes) (n : ℕ) (node : Node) → NodeIsBounded node → ((k : ℕ) → NodeIsBounded (v.node k)) → (k : ℕ) → NodeIsBounded (put v.node n node k)
put_bounded v n node here there k = go (same_or_not k n)
  where
    go : (k ≡ n) ⊎ (k ≢ n) → NodeIsBounded (put v.node n node k)
    go (inl e) = subst (λ j. NodeIsBounded (put v.node n node j)) (sym e) (subst NodeIsBounded (sym (put_here v.node n node)) here)
    go (inr ne) = subst NodeIsBounded (sym (put_there v.node n node k ne)) (there k)

step_is : (c : Cluster) (v : Nodes) (n now : ℕ) (ends : method.Outcome) (i : Input) → length c.attached ≤ 16 → MayMove v (Takes n now ends i) → RunIsBounded v
    → StepIs 4096 (stepped disk_rules c n now ends (v.node n) (v.disk n) i)
step_is c v n now ends i few may h = stepped_few disk_rules c n now ends (v.node n) (v.disk n) i few (may.0, may.1) (arrives_from v i may.2 h.sent) (h.nodes n)

one_move : (c : Cluster) (v : Nodes) (m : Move) → length c.attached ≤ 16 → MayMove v m → RunIsBounded v → RunIsBounded (moved c v m)
one_move c v (Takes n now ends i) few may h =
    let o : Outcome DiskState = stepped disk_rules c n now ends (v.node n) (v.disk n) i in
    record { nodes = put_bounded v n o.after (step_is c v n now ends i few may h).1 h.nodes; sent = letters_from n o.given v.sent (may.0, may.1) h.sent }
one_move c v (Arms n calls choice) few may h = record { nodes = h.nodes; sent = h.sent }

all_moves : (c : Cluster) (v : Nodes) (moves : List Move) (w : Nodes) → length c.attached ≤ 16 → Moves c v moves w → RunIsBounded v → RunIsBounded w
all_moves c v [] w few run h = subst (λ u. RunIsBounded u) (sym run) h
all_moves c v (m ∷ moves) w few run h = all_moves c (moved c v m) moves w few run.1 (one_move c v m few run.0 h)

pub run_is_bounded : (c : Cluster) (moves : List Move) (v : Nodes) → length c.attached ≤ 16 → Moves c (first_nodes c) moves v → RunIsBounded v
run_is_bounded c moves v few run = all_moves c (first_nodes c) moves v few run (record { nodes = λ n. tt; sent = tt })

pub runs_send_few : RunsSendFew
runs_send_few c moves v n now ends i few run may = (step_is c v n now ends i few may (run_is_bounded c moves v few run)).0
