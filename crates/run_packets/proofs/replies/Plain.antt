-- Lines, and messages that are neither orders nor Prepares.
use Rattle.std.specs.Prelude.{ℕ, ◌+◌, ◌++◌, List, [], ◌∷◌, Option, None, Some, Ok}
use Rattle.std.proofs.Common.{refl}
use Rattle.std.specs.List.{AllByRecursion}
use Rattle.ccr_commit.specs.Entries.{all_committed}
use Rattle.ccr_tables.specs.State.{ConfigState}
use Rattle.cl_base.specs.Limits.{most_nodes}
use Rattle.cl_base.specs.Numbers.{numbers_to}
use Rattle.cmm_attempt.proofs.Basics.{if_either}
use Rattle.cmm_attempt.specs.Attempts.{AttemptState}
use Rattle.cmm_attempt.specs.Calls.{turn}
use Rattle.heartbeats.specs.Views.{receivers_of}
use Rattle.node_model.specs.Attempts.{adopted_line, adopted_lines, adopted_of, adopted_on, base_lines, is_adopted, starting_as}
use Rattle.node_model.specs.Configurations.{configured_at, in_force}
use Rattle.node_model.specs.Entries.{unknown_line, unknown_lines}
use Rattle.node_model.specs.Presidents.{sent_to}
use Rattle.node_model.specs.Seats.{coordinator_of}
use Rattle.node_model.specs.Ticks.{heartbeat_of, heartbeats_to, ticked_output}
use Rattle.node_model.specs.Updates.{request_again, request_again_by, request_again_to}
use Rattle.node_model.specs.declared.cluster.Cluster.{Cluster}
use Rattle.node_model.specs.declared.node.UpNode.{UpNode}
use Rattle.node_model.specs.declared.output.Output.TheVariants.{Sends}
use Rattle.node_model.specs.declared.presidency.Presidency.{Presidency}
use Rattle.pgr_device.specs.declared.command.PrAnswer.TheVariants as given
use Rattle.refinement.specs.Doings.Change.{Acks, Admits, Commits, Counts, Distrusts, Installs, Leads, Prepares, Promises, Proposes, Sits, Starts}
use Rattle.refinement.specs.Doings.{Change, adopted_by, first_lines, last_lines, saved_lines, start_lines, superseded_lines, write_lines}
use Rattle.request_queue.specs.Queue as requests
use Rattle.request_queue.specs.declared.request.Request.{Request}
use Rattle.rg_props.specs.declared.group.Resource.{Resource}
use Rattle.rg_view.specs.States as states
use Rattle.rg_view.specs.declared.view.GroupView.{GroupView}
use Rattle.run_history.proofs.Lists.{both, mapped, of_each}
use Rattle.run_packets.proofs.replies.Sending.{IsSendOf}
use Rattle.run_packets.specs.replies.Orders.{NoOrderOut, NoOrders}
use Rattle.seize.specs.Answers.{Answer}
use Rattle.wire.specs.declared.message.Body.{Body}

-- ---- changes

superseded_none : (p : ℕ) (o : Option AttemptState) → NoOrders (superseded_lines p o)
superseded_none p None = tt
superseded_none p (Some a) = (tt, tt)

unknown_none : (n : ℕ) (rs : List Request) → NoOrders (unknown_lines n rs)
unknown_none n [] = tt
unknown_none n (r ∷ rs) = both NoOrderOut (unknown_line n r) (unknown_lines n rs) (if_either NoOrders r.told _ [] (tt, tt) tt) (unknown_none n rs)

bases_none : (e before : ℕ) (texts : List (List ℕ)) → NoOrders (base_lines e before texts)
bases_none e before [] = tt
bases_none e before (text ∷ texts) = (tt, bases_none e (before + 1) texts)

adopted_lines_none : (e : ℕ) (v : GroupView) (resources : List (List ℕ × Resource)) → NoOrders (adopted_lines e v resources)
unfolding adopted_lines
adopted_lines_none e v resources =
    of_each NoOrderOut (adopted_on e v resources) (numbers_to v.members most_nodes)
    (λ k. of_each NoOrderOut (λ x. adopted_line e k x.0 (states.state_of v.resources x.0 k)) resources
    (λ x. if_either NoOrders (is_adopted (states.state_of v.resources x.0 k)) _ [] (tt, tt) tt))

adopted_none : (e : ℕ) (s : ConfigState) (o : Option Presidency) → NoOrders (adopted_of e s o)
adopted_none e s None = tt
adopted_none e s (Some p) = adopted_lines_none e p.groups.view s.groups.resources

pub first_none : (n : ℕ) (change : Change) → NoOrders (first_lines n change)
first_none n (Admits at command a d) = (tt, tt)
first_none n (Proposes s p text) = (tt, tt)
first_none n _ = tt

pub last_none : (c : Cluster) (n : ℕ) (x : UpNode) (change : Change) → NoOrders (last_lines c n x change)
last_none c n x (Promises p) = both NoOrderOut (superseded_lines p x.attempt) (unknown_lines n x.requests.waiting) (superseded_none p x.attempt) (unknown_none n x.requests.waiting)
last_none c n x (Leads p members) = (tt, unknown_none n x.requests.waiting)
last_none c n x (Counts a k s i) = (tt, tt)
last_none c n x (Installs s i) = (tt, tt)
last_none c n x (Starts a k s) =
    let t : AttemptState = (turn a k).after in
    let y : UpNode = starting_as c n x t s in
    both NoOrderOut (start_lines t s) _ (tt, bases_none t.plan.epoch 0 (all_committed s.saved.entries).committed)
    (both NoOrderOut (adopted_by c t y) _ (adopted_none t.plan.epoch (in_force c y) y.presidency) (tt, tt))
last_none c n x (Sits s e) = (tt, tt)
last_none c n x (Distrusts d) = tt
last_none c n x (Admits at command a d) = tt
last_none c n x (Proposes s p text) = tt
last_none c n x (Acks s p q left text) = (tt, tt)
last_none c n x (Prepares s text) = tt
last_none c n x (Commits s) = tt

pub made_none : (c : Cluster) (n : ℕ) (x : UpNode) (change : Change) → NoOrders (first_lines n change ++ last_lines c n x change)
made_none c n x change = both NoOrderOut (first_lines n change) (last_lines c n x change) (first_none n change) (last_none c n x change)

pub saved_none : (c : Cluster) (n : ℕ) (x : UpNode) (change : Change) → NoOrders (first_lines n change ++ saved_lines c n x change)
saved_none c n x change = both NoOrderOut (first_lines n change) (saved_lines c n x change) (first_none n change) (tt, last_none c n x change)

-- ---- acts

pub write_none : (n : ℕ) (x : UpNode) (d value : ℕ) (a : Answer) → NoOrders (write_lines n x d value a)
write_none n x d value (Ok given.Good) = (tt, tt)
write_none n x d value (Ok given.Conflict) = (tt, tt)
write_none n x d value _ = (tt, tt)

pub spread_sends : (receivers : ℕ) (b : Body) → AllByRecursion (IsSendOf b) (sent_to receivers b)
unfolding sent_to
spread_sends receivers b = mapped (IsSendOf b) (λ k. Sends k b) (numbers_to receivers most_nodes) (λ k. refl)

again_to_none : (x : UpNode) (r : Option Request) (o : Option ℕ) → NoOrders (request_again_to x r o)
again_to_none x (Some r) (Some president) = (tt, tt)
again_to_none x None president = tt
again_to_none x (Some r) None = tt

again_by_none : (x : UpNode) (o : Option Presidency) → NoOrders (request_again_by x o)
again_by_none x None =
    if_either NoOrders (requests.goes_again x.requests) (request_again_to x (requests.oldest x.requests) (coordinator_of x)) []
    (again_to_none x (requests.oldest x.requests) (coordinator_of x)) tt
again_by_none x (Some p) = tt

beats_none : (x : UpNode) (receivers : ℕ) → NoOrders (heartbeats_to x receivers)
unfolding heartbeats_to
beats_none x receivers = mapped NoOrderOut (λ k. Sends k (heartbeat_of x)) (numbers_to receivers most_nodes) (λ k. tt)

pub ticked_none : (c : Cluster) (x y : UpNode) → NoOrders (ticked_output c x y)
ticked_none c x y =
    both NoOrderOut (heartbeats_to y (receivers_of y.beats (configured_at c y))) (request_again x) (beats_none y (receivers_of y.beats (configured_at c y))) (again_by_none x x.presidency)
