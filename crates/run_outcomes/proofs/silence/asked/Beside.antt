-- What a node gives beside the messages of its attempt holds no Collect and no Install.
use Rattle.std.specs.Prelude.{ℕ, ◌+◌, ◌++◌, List, [], ◌∷◌, Option, None, Some, Ok}
use Rattle.std.specs.List.{AllByRecursion}
use Rattle.ccr_commit.specs.Entries.{all_committed}
use Rattle.ccr_tables.specs.State.{ConfigState}
use Rattle.cl_base.specs.Limits.{most_nodes}
use Rattle.cl_base.specs.Numbers.{numbers_to}
use Rattle.cmm_attempt.proofs.Basics.{if_either}
use Rattle.cmm_attempt.specs.Attempts.{AttemptState}
use Rattle.cmm_attempt.specs.Calls.{turn}
use Rattle.node_model.specs.Attempts.{adopted_line, adopted_lines, adopted_of, adopted_on, base_lines, is_adopted, starting_as}
use Rattle.node_model.specs.Configurations.{in_force}
use Rattle.node_model.specs.Entries.{unknown_line, unknown_lines}
use Rattle.node_model.specs.Presidents.{sent_to}
use Rattle.node_model.specs.Seats.{coordinator_of}
use Rattle.node_model.specs.Ticks.{heartbeat_of, heartbeats_to, ticked_output}
use Rattle.node_model.specs.Updates.{request_again, request_again_by, request_again_to}
use Rattle.node_model.specs.declared.cluster.Cluster.{Cluster}
use Rattle.node_model.specs.declared.node.UpNode.{UpNode}
use Rattle.node_model.specs.declared.output.Output.{Output}
use Rattle.node_model.specs.declared.output.Output.TheVariants.{Sends, Tells}
use Rattle.node_model.specs.declared.presidency.Presidency.{Presidency}
use Rattle.pgr_device.specs.declared.command.PrAnswer.TheVariants as given
use Rattle.refinement.specs.Doings.{Change, adopted_by, first_lines, gone_line, last_lines, saved_lines, start_lines, superseded_lines, write_lines}
use Rattle.refinement.specs.Doings.Change.{Acks, Admits, Commits, Counts, Distrusts, Installs, Leads, Prepares, Promises, Proposes, Sits, Starts}
use Rattle.refinement.specs.Guards.{TellNothing, TellsNothing}
use Rattle.request_queue.specs.Queue as queue
use Rattle.request_queue.specs.declared.request.Request.{Request}
use Rattle.rg_props.specs.declared.group.Resource.{Resource}
use Rattle.rg_view.specs.States as states
use Rattle.rg_view.specs.declared.states.ResourceAt.{ResourceAt}
use Rattle.rg_view.specs.declared.view.GroupView.{GroupView}
use Rattle.run_history.proofs.Lists.{both, mapped, of_each}
use Rattle.seize.specs.Answers.{Answer}
use Rattle.wire.specs.declared.message.Body.{Body}
use Rattle.wire.specs.declared.message.Body.TheVariants as body
use Rattle.cmm_member.specs.Nodes.{NodeState}
use Rattle.status_report.specs.declared.node_entry.DownCause.{DownCause}

-- ---- no Collect and no Install

abbrev pub IsElse : Body → Type 0
IsElse (body.Collect p members) = ⊥
IsElse (body.Install i) = ⊥
IsElse _ = Unit {0}

abbrev SendsElse : Output → Type 0
SendsElse (Tells e) = Unit {0}
SendsElse (Sends to b) = IsElse b

abbrev pub AllElse : List Output → Type 0
AllElse os = AllByRecursion SendsElse os

superseded_else : (p : ℕ) (o : Option AttemptState) → AllElse (superseded_lines p o)
superseded_else p None = tt
superseded_else p (Some a) = (tt, tt)

pub unknown_else : (me : ℕ) (rs : List Request) → AllElse (unknown_lines me rs)
unknown_else me [] = tt
unknown_else me (r ∷ rs) = both SendsElse (unknown_line me r) (unknown_lines me rs) (if_either AllElse r.told _ [] (tt, tt) tt) (unknown_else me rs)

base_else : (e before : ℕ) (texts : List (List ℕ)) → AllElse (base_lines e before texts)
base_else e before [] = tt
base_else e before (text ∷ texts) = (tt, base_else e (before + 1) texts)

line_else : (e n : ℕ) (r : List ℕ) (s : ResourceAt) → AllElse (adopted_line e n r s)
line_else e n r s = if_either AllElse (is_adopted s) _ [] (tt, tt) tt

adopted_else : (e : ℕ) (v : GroupView) (resources : List (List ℕ × Resource)) → AllElse (adopted_lines e v resources)
unfolding adopted_lines
adopted_else e v resources =
    of_each SendsElse (adopted_on e v resources) (numbers_to v.members most_nodes)
    (λ n. of_each SendsElse (λ x. adopted_line e n x.0 (states.state_of v.resources x.0 n)) resources (λ x. line_else e n x.0 (states.state_of v.resources x.0 n)))

adopted_of_else : (e : ℕ) (s : ConfigState) (o : Option Presidency) → AllElse (adopted_of e s o)
adopted_of_else e s None = tt
adopted_of_else e s (Some p) = adopted_else e p.groups.view s.groups.resources

starts_else : (a : AttemptState) (s : NodeState) → AllElse (start_lines a s)
starts_else a s = (tt, base_else a.plan.epoch 0 (all_committed s.saved.entries).committed)

last_else : (c : Cluster) (me : ℕ) (x : UpNode) (change : Change) → AllElse (last_lines c me x change)
last_else c me x (Promises p) = both SendsElse (superseded_lines p x.attempt) (unknown_lines me x.requests.waiting) (superseded_else p x.attempt) (unknown_else me x.requests.waiting)
last_else c me x (Leads p members) = (tt, unknown_else me x.requests.waiting)
last_else c me x (Counts a k s i) = (tt, tt)
last_else c me x (Installs s i) = (tt, tt)
last_else c me x (Starts a k s) =
    let t : AttemptState = (turn a k).after in
    let y : UpNode = starting_as c me x t s in
    both SendsElse (start_lines t s) _ (starts_else t s) (both SendsElse (adopted_by c t y) _ (adopted_of_else t.plan.epoch (in_force c y) y.presidency) (tt, tt))
last_else c me x (Sits s e) = (tt, tt)
last_else c me x (Distrusts d) = tt
last_else c me x (Admits at command a d) = tt
last_else c me x (Proposes s p text) = tt
last_else c me x (Acks s p q left text) = (tt, tt)
last_else c me x (Prepares s text) = tt
last_else c me x (Commits s) = tt

pub first_else : (me : ℕ) (change : Change) → AllElse (first_lines me change)
first_else me (Admits at command a d) = (tt, tt)
first_else me (Proposes s p text) = (tt, tt)
first_else me _ = tt

pub saved_else : (c : Cluster) (me : ℕ) (x : UpNode) (change : Change) → AllElse (first_lines me change ++ saved_lines c me x change)
saved_else c me x change = both SendsElse (first_lines me change) (saved_lines c me x change) (first_else me change) (tt, last_else c me x change)

pub made_else : (c : Cluster) (me : ℕ) (x : UpNode) (change : Change) → AllElse (first_lines me change ++ last_lines c me x change)
made_else c me x change = both SendsElse (first_lines me change) (last_lines c me x change) (first_else me change) (last_else c me x change)

again_to_else : (x : UpNode) (r : Option Request) (o : Option ℕ) → AllElse (request_again_to x r o)
again_to_else x (Some r) (Some president) = (tt, tt)
again_to_else x None president = tt
again_to_else x (Some r) None = tt

again_by_else : (x : UpNode) (o : Option Presidency) → AllElse (request_again_by x o)
again_by_else x None =
    if_either AllElse (queue.goes_again x.requests) (request_again_to x (queue.oldest x.requests) (coordinator_of x)) []
    (again_to_else x (queue.oldest x.requests) (coordinator_of x)) tt
again_by_else x (Some p) = tt

beats_else : (x : UpNode) (receivers : ℕ) → AllElse (heartbeats_to x receivers)
unfolding heartbeats_to
beats_else x receivers = mapped SendsElse (λ n. Sends n (heartbeat_of x)) (numbers_to receivers most_nodes) (λ n. tt)

pub ticked_else : (c : Cluster) (before x : UpNode) → AllElse (ticked_output c before x)
ticked_else c before x = both SendsElse (heartbeats_to x _) (request_again before) (beats_else x _) (again_by_else before before.presidency)

pub write_else : (me : ℕ) (x : UpNode) (d value : ℕ) (a : Answer) → AllElse (write_lines me x d value a)
write_else me x d value (Ok given.Good) = (tt, tt)
write_else me x d value (Ok given.Conflict) = (tt, tt)
write_else me x d value _ = (tt, tt)

pub spread_else : (receivers : ℕ) (b : Body) → IsElse b → AllElse (sent_to receivers b)
unfolding sent_to
spread_else receivers b h = mapped SendsElse (λ n. Sends n b) (numbers_to receivers most_nodes) (λ n. h)

nothing_else : (to : ℕ) (b : Body) → TellsNothing (Sends to b) → IsElse b
nothing_else to (body.Collect p members) h = absurd h
nothing_else to (body.Install i) h = absurd h
nothing_else to _ h = tt

pub given_else : (os : List Output) → TellNothing os → AllElse os
given_else [] h = tt
given_else (Tells x ∷ os) h = (tt, given_else os h.1)
given_else (Sends to b ∷ os) h = (nothing_else to b h.0, given_else os h.1)

-- a save that is lost
pub lost_else : (me : ℕ) (change : Change) (why : DownCause) → AllElse (first_lines me change ++ gone_line me why)
lost_else me change why = both SendsElse (first_lines me change) (gone_line me why) (first_else me change) (tt, tt)
