-- Most outputs of a node tell neither that it is up or down, nor that it has saved.
use Rattle.std.specs.Prelude.{ℕ, ◌+◌, List, [], ◌∷◌, Option, None, Some, Ok}
use Rattle.std.specs.List.{AllByRecursion}
use Rattle.ccr_commit.specs.Entries.{all_committed}
use Rattle.ccr_tables.specs.State.{ConfigState}
use Rattle.cl_base.specs.Limits.{most_nodes}
use Rattle.cl_base.specs.Numbers.{numbers_to}
use Rattle.cmm_attempt.specs.Attempts.{AttemptState}
use Rattle.cmm_attempt.specs.Calls.{turn}
use Rattle.cmm_attempt.proofs.Basics.{if_either}
use Rattle.cmm_member.specs.Nodes.{NodeState}
use Rattle.pgr_device.specs.declared.command.PrAnswer.TheVariants as given
use Rattle.request_queue.specs.Queue as queue
use Rattle.request_queue.specs.declared.request.Request.{Request}
use Rattle.rg_props.specs.declared.group.Resource.{Resource}
use Rattle.rg_view.specs.States as states
use Rattle.rg_view.specs.declared.states.ResourceAt.{ResourceAt}
use Rattle.rg_view.specs.declared.view.GroupView.{GroupView}
use Rattle.seize.specs.Answers.{Answer}
use Rattle.status_report.specs.declared.entry.Entry.{Entry}
use Rattle.status_report.specs.declared.entry.Entry.TheVariants as entry
use Rattle.wire.specs.declared.message.Body.{Body}
use Rattle.node_model.specs.Attempts.{adopted_line, adopted_lines, adopted_of, adopted_on, base_lines, is_adopted, starting_as}
use Rattle.node_model.specs.Configurations.{in_force}
use Rattle.node_model.specs.declared.cluster.Cluster.{Cluster}
use Rattle.node_model.specs.declared.node.UpNode.{UpNode}
use Rattle.node_model.specs.declared.output.Output.{Output}
use Rattle.node_model.specs.declared.output.Output.TheVariants.{Tells, Sends}
use Rattle.node_model.specs.declared.presidency.Presidency.{Presidency}
use Rattle.node_model.specs.Entries.{unknown_line, unknown_lines}
use Rattle.node_model.specs.Presidents.{sent_to}
use Rattle.node_model.specs.Seats.{coordinator_of}
use Rattle.node_model.specs.Ticks.{heartbeat_of, heartbeats_to, later, ticked_output}
use Rattle.node_model.specs.Updates.{request_again, request_again_by, request_again_to}
use Rattle.refinement.specs.Doings.{Act, Change, adopted_by, first_lines, last_lines, said, start_lines, superseded_lines, write_lines}
use Rattle.refinement.specs.Doings.Act.{Accepts, Dates, Ends, Gives, Goes_on, Hears, Makes, Minds, Notes, Queues, Spreads, Stores, Takes, Ticks, Waits, Works, Writes}
use Rattle.refinement.specs.Doings.Change.{Acks, Admits, Commits, Counts, Distrusts, Installs, Leads, Prepares, Promises, Proposes, Sits, Starts}
use Rattle.run_downs.specs.Calls.{AllSteady, IsSteady}
use Rattle.run_history.proofs.Lists.{both, mapped, of_each}
use Rattle.run_history.proofs.Ordinary.{GivesAside, IsAside}

-- Asides are steady.

steady_entry : (e : Entry) → IsAside e → IsSteady (Tells e)
steady_entry (entry.Command e) h = tt
steady_entry (entry.Status e) h = tt
steady_entry (entry.Call e) h = tt
steady_entry (entry.Address e) h = tt
steady_entry (entry.Answered e) h = absurd h
steady_entry entry.Powered h = absurd h
steady_entry (entry.Node n e) h = absurd h
steady_entry (entry.Packet e) h = absurd h
steady_entry (entry.Device e) h = absurd h
steady_entry (entry.Attempt e) h = absurd h
steady_entry (entry.Start e) h = absurd h
steady_entry (entry.Update e) h = absurd h
steady_entry (entry.Schedule e) h = absurd h

asides_steady : (os : List Output) → AllByRecursion GivesAside os → AllSteady os
asides_steady [] h = tt
asides_steady (Tells e ∷ os) h = (steady_entry e h.0, asides_steady os h.1)
asides_steady (Sends to b ∷ os) h = (tt, asides_steady os h.1)

-- The lines of changes.

superseded_steady : (p : ℕ) (o : Option AttemptState) → AllSteady (superseded_lines p o)
superseded_steady p None = tt
superseded_steady p (Some a) = (tt, tt)

unknown_steady : (me : ℕ) (rs : List Request) → AllSteady (unknown_lines me rs)
unknown_steady me [] = tt
unknown_steady me (r ∷ rs) = both IsSteady (unknown_line me r) (unknown_lines me rs) (if_either AllSteady r.told _ [] (tt, tt) tt) (unknown_steady me rs)

base_steady : (e before : ℕ) (texts : List (List ℕ)) → AllSteady (base_lines e before texts)
base_steady e before [] = tt
base_steady e before (text ∷ texts) = (tt, base_steady e (before + 1) texts)

line_steady : (e n : ℕ) (r : List ℕ) (s : ResourceAt) → AllSteady (adopted_line e n r s)
line_steady e n r s = if_either AllSteady (is_adopted s) _ [] (tt, tt) tt

adopted_steady : (e : ℕ) (v : GroupView) (resources : List (List ℕ × Resource)) → AllSteady (adopted_lines e v resources)
unfolding adopted_lines
adopted_steady e v resources =
    of_each IsSteady (adopted_on e v resources) (numbers_to v.members most_nodes)
    (λ n. of_each IsSteady (λ x. adopted_line e n x.0 (states.state_of v.resources x.0 n)) resources (λ x. line_steady e n x.0 (states.state_of v.resources x.0 n)))

adopted_of_steady : (e : ℕ) (s : ConfigState) (o : Option Presidency) → AllSteady (adopted_of e s o)
adopted_of_steady e s None = tt
adopted_of_steady e s (Some p) = adopted_steady e p.groups.view s.groups.resources

starts_steady : (a : AttemptState) (s : NodeState) → AllSteady (start_lines a s)
starts_steady a s = (tt, base_steady a.plan.epoch 0 (all_committed s.saved.entries).committed)

pub last_steady : (c : Cluster) (me : ℕ) (x : UpNode) (change : Change) → AllSteady (last_lines c me x change)
last_steady c me x (Promises p) = both IsSteady (superseded_lines p x.attempt) (unknown_lines me x.requests.waiting) (superseded_steady p x.attempt) (unknown_steady me x.requests.waiting)
last_steady c me x (Leads p members) = (tt, unknown_steady me x.requests.waiting)
last_steady c me x (Counts a k s i) = (tt, tt)
last_steady c me x (Installs s i) = (tt, tt)
last_steady c me x (Starts a k s) =
    let t : AttemptState = (turn a k).after in
    let y : UpNode = starting_as c me x t s in
    both IsSteady (start_lines t s) _ (starts_steady t s)
    (both IsSteady (adopted_by c t y) _ (adopted_of_steady t.plan.epoch (in_force c y) y.presidency) (tt, tt))
last_steady c me x (Sits s e) = (tt, tt)
last_steady c me x (Distrusts d) = tt
last_steady c me x (Admits at command a d) = tt
last_steady c me x (Proposes s p text) = tt
last_steady c me x (Acks s p q left text) = (tt, tt)
last_steady c me x (Prepares s text) = tt
last_steady c me x (Commits s) = tt

pub first_steady : (me : ℕ) (change : Change) → AllSteady (first_lines me change)
first_steady me (Admits at command a d) = (tt, tt)
first_steady me (Proposes s p text) = (tt, tt)
first_steady me (Promises p) = tt
first_steady me (Leads p members) = tt
first_steady me (Counts a k s i) = tt
first_steady me (Installs s i) = tt
first_steady me (Starts a k s) = tt
first_steady me (Sits s e) = tt
first_steady me (Distrusts d) = tt
first_steady me (Acks s p q left text) = tt
first_steady me (Prepares s text) = tt
first_steady me (Commits s) = tt

-- The lines of acts.

again_to_steady : (x : UpNode) (r : Option Request) (o : Option ℕ) → AllSteady (request_again_to x r o)
again_to_steady x (Some r) (Some president) = (tt, tt)
again_to_steady x None president = tt
again_to_steady x (Some r) None = tt

again_by_steady : (x : UpNode) (o : Option Presidency) → AllSteady (request_again_by x o)
again_by_steady x None =
    if_either AllSteady (queue.goes_again x.requests) (request_again_to x (queue.oldest x.requests) (coordinator_of x)) []
    (again_to_steady x (queue.oldest x.requests) (coordinator_of x)) tt
again_by_steady x (Some p) = tt

heartbeats_steady : (x : UpNode) (receivers : ℕ) → AllSteady (heartbeats_to x receivers)
unfolding heartbeats_to
heartbeats_steady x receivers = mapped IsSteady (λ n. Sends n (heartbeat_of x)) (numbers_to receivers most_nodes) (λ n. tt)

ticked_steady : (c : Cluster) (before x : UpNode) → AllSteady (ticked_output c before x)
ticked_steady c before x = both IsSteady (heartbeats_to x _) (request_again before) (heartbeats_steady x _) (again_by_steady before before.presidency)

spread_steady : (receivers : ℕ) (b : Body) → AllSteady (sent_to receivers b)
unfolding sent_to
spread_steady receivers b = mapped IsSteady (λ n. Sends n b) (numbers_to receivers most_nodes) (λ n. tt)

write_steady : (me : ℕ) (x : UpNode) (d value : ℕ) (a : Answer) → AllSteady (write_lines me x d value a)
write_steady me x d value (Ok given.Good) = (tt, tt)
write_steady me x d value (Ok given.Conflict) = (tt, tt)
write_steady me x d value _ = (tt, tt)

-- what is given beside lines of its own is aside
abbrev pub GivesAsides : Act → Type 0
GivesAsides (Gives os) = AllByRecursion GivesAside os
GivesAsides _ = Unit {0}

pub said_steady : (c : Cluster) (me : ℕ) (x : UpNode) (a : Act) → GivesAsides a → AllSteady (said c me x a)
said_steady c me x (Hears from b) h = tt
said_steady c me x Ticks h = (tt, ticked_steady c x (later c x))
said_steady c me x Waits h = tt
said_steady c me x (Goes_on a k) h = tt
said_steady c me x (Ends a e) h = (tt, tt)
said_steady c me x (Queues a d kind) h = tt
said_steady c me x (Accepts kind e members d) h = tt
said_steady c me x (Takes at command a) h = (tt, tt)
said_steady c me x (Stores d value a) h = (tt, write_steady me x d value a)
said_steady c me x (Writes to b) h = (tt, tt)
said_steady c me x (Makes change) h = both IsSteady (first_lines me change) (last_lines c me x change) (first_steady me change) (last_steady c me x change)
said_steady c me x (Gives os) h = asides_steady os h
said_steady c me x (Spreads receivers b) h = spread_steady receivers b
said_steady c me x (Minds q p) h = tt
said_steady c me x (Notes from place p) h = tt
said_steady c me x (Dates now) h = tt
said_steady c me x (Works w) h = tt
