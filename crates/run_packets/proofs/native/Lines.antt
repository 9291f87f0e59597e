-- Lines, and messages about requests, orders and the clock, name no members and bring no list of updates.
use Rattle.std.specs.Prelude.{ℕ, ◌+◌, ◌++◌, List, [], ◌∷◌, Option, None, Some, Ok, Err}
use Rattle.ccr_commit.specs.Entries.{all_committed}
use Rattle.cl_base.specs.Limits.{most_nodes}
use Rattle.cl_base.specs.Numbers.{numbers_to}
use Rattle.cmm_attempt.proofs.Basics.{if_either}
use Rattle.cmm_attempt.specs.Attempts.{AttemptState}
use Rattle.cmm_attempt.specs.Calls.{turn}
use Rattle.heartbeats.specs.Views.{receivers_of}
use Rattle.node_model.specs.Attempts.{adopted_line, adopted_lines, adopted_of, adopted_on, base_lines, is_adopted, starting_as}
use Rattle.node_model.specs.Configurations.{configured_at, in_force}
use Rattle.node_model.specs.Entries.{unknown_line, unknown_lines}
use Rattle.node_model.specs.Presidents.{sent_to}
use Rattle.node_model.specs.Seats.{coordinator_of}
use Rattle.node_model.specs.Ticks.{heartbeat_of, heartbeats_to, later, ticked_output}
use Rattle.node_model.specs.Updates.{request_again, request_again_by, request_again_to}
use Rattle.node_model.specs.declared.cluster.Cluster.{Cluster}
use Rattle.node_model.specs.declared.node.UpNode.{UpNode}
use Rattle.node_model.specs.declared.output.Output.{Output}
use Rattle.node_model.specs.declared.output.Output.TheVariants.{Sends, Tells}
use Rattle.node_model.specs.declared.presidency.Presidency.{Presidency}
use Rattle.pgr_device.specs.declared.command.PrAnswer.TheVariants as given
use Rattle.refinement.specs.Doings.{Change, adopted_by, first_lines, last_lines, saved_lines, start_lines, superseded_lines, write_lines}
use Rattle.refinement.specs.Doings.Change.{Acks, Admits, Commits, Counts, Distrusts, Installs, Leads, Prepares, Promises, Proposes, Sits, Starts}
use Rattle.refinement.specs.Guards.{TellNothing, TellsNothing}
use Rattle.request_queue.specs.Queue.{goes_again, oldest}
use Rattle.request_queue.specs.declared.request.Request.{Request}
use Rattle.rg_view.specs.States as states
use Rattle.run_history.proofs.Lists.{both, mapped, of_each}
use Rattle.seize.specs.Answers.{Answer}
use Rattle.wire.specs.declared.message.Body.{Body}
use Rattle.wire.specs.declared.message.Body.TheVariants as body
use Rattle.run_packets.specs.native.Named.{AllNamed, BodyNamed, BodyTo, OutputNamed}

pub named_append : (c : Cluster) (os more : List Output) → AllNamed c os → AllNamed c more → AllNamed c (os ++ more)
named_append c os more h k = both (OutputNamed c) os more h k

-- ---- lines

base_named : (c : Cluster) (e before : ℕ) (texts : List (List ℕ)) → AllNamed c (base_lines e before texts)
base_named c e before [] = tt
base_named c e before (text ∷ texts) = (tt, base_named c e (before + 1) texts)

superseded_named : (c : Cluster) (p : ℕ) (o : Option AttemptState) → AllNamed c (superseded_lines p o)
superseded_named c p None = tt
superseded_named c p (Some a) = (tt, tt)

unknown_named : (c : Cluster) (n : ℕ) (rs : List Request) → AllNamed c (unknown_lines n rs)
unknown_named c n [] = tt
unknown_named c n (r ∷ rs) = named_append c (unknown_line n r) (unknown_lines n rs) (if_either (AllNamed c) r.told _ [] (tt, tt) tt) (unknown_named c n rs)

adopted_named : (c : Cluster) (a : AttemptState) (y : UpNode) → AllNamed c (adopted_by c a y)
unfolding adopted_lines
adopted_named c a y = by_presidency y.presidency
  where
    by_presidency : (o : Option Presidency) → AllNamed c (adopted_of a.plan.epoch (in_force c y) o)
    by_presidency None = tt
    by_presidency (Some p) =
        of_each (OutputNamed c) (adopted_on a.plan.epoch p.groups.view (in_force c y).groups.resources) (numbers_to p.groups.view.members most_nodes)
        (λ m. of_each (OutputNamed c) (λ r. adopted_line a.plan.epoch m r.0 (states.state_of p.groups.view.resources r.0 m)) (in_force c y).groups.resources
        (λ r. if_either (AllNamed c) (is_adopted (states.state_of p.groups.view.resources r.0 m)) _ [] (tt, tt) tt))

pub first_named : (c : Cluster) (n : ℕ) (ch : Change) → AllNamed c (first_lines n ch)
first_named c n (Admits at command a d) = (tt, tt)
first_named c n (Proposes s p text) = (tt, tt)
first_named c n (Acks s p q left text) = tt
first_named c n (Prepares s text) = tt
first_named c n (Commits s) = tt
first_named c n (Promises p) = tt
first_named c n (Leads p members) = tt
first_named c n (Counts a k s i) = tt
first_named c n (Installs s i) = tt
first_named c n (Starts a k s) = tt
first_named c n (Sits s e) = tt
first_named c n (Distrusts d) = tt

pub last_named : (c : Cluster) (n : ℕ) (x : UpNode) (ch : Change) → AllNamed c (last_lines c n x ch)
last_named c n x (Promises p) =
    named_append c (superseded_lines p x.attempt) (unknown_lines n x.requests.waiting) (superseded_named c p x.attempt) (unknown_named c n x.requests.waiting)
last_named c n x (Leads p members) = (tt, unknown_named c n x.requests.waiting)
last_named c n x (Counts a k s i) = (tt, tt)
last_named c n x (Installs s i) = (tt, tt)
last_named c n x (Starts a k s) =
    let t : AttemptState = (turn a k).after in
    let adopted : List Output = adopted_by c t (starting_as c n x t s) in
    named_append c (start_lines t s) (adopted ++ _) (tt, base_named c t.plan.epoch 0 (all_committed s.saved.entries).committed)
    (named_append c adopted _ (adopted_named c t (starting_as c n x t s)) (tt, tt))
last_named c n x (Sits s e) = (tt, tt)
last_named c n x (Distrusts d) = tt
last_named c n x (Admits at command a d) = tt
last_named c n x (Proposes s p text) = tt
last_named c n x (Acks s p q left text) = (tt, tt)
last_named c n x (Prepares s text) = tt
last_named c n x (Commits s) = tt

pub saved_named : (c : Cluster) (n : ℕ) (x : UpNode) (ch : Change) → AllNamed c (first_lines n ch ++ saved_lines c n x ch)
saved_named c n x ch = named_append c (first_lines n ch) (saved_lines c n x ch) (first_named c n ch) (tt, last_named c n x ch)

pub write_named : (c : Cluster) (n : ℕ) (x : UpNode) (d value : ℕ) (a : Answer) → AllNamed c (write_lines n x d value a)
write_named c n x d value (Ok given.Good) = (tt, tt)
write_named c n x d value (Ok given.Conflict) = (tt, tt)
write_named c n x d value (Ok given.InvalidRelease) = (tt, tt)
write_named c n x d value (Ok given.NoPath) = (tt, tt)
write_named c n x d value (Ok (given.Keys keys)) = (tt, tt)
write_named c n x d value (Ok (given.Holder holder)) = (tt, tt)
write_named c n x d value (Ok (given.Word w)) = (tt, tt)
write_named c n x d value (Ok (given.Value v)) = (tt, tt)
write_named c n x d value (Ok (given.Miscompare w)) = (tt, tt)
write_named c n x d value (Err e) = (tt, tt)

-- ---- messages

pub sent_named : (c : Cluster) (receivers : ℕ) (b : Body) → BodyNamed c b → ((k : ℕ) → BodyTo c k b) → AllNamed c (sent_to receivers b)
unfolding sent_to
sent_named c receivers b h to = mapped (OutputNamed c) (λ k. Sends k b) (numbers_to receivers most_nodes) (λ k. (h, to k))

one_named : (c : Cluster) (to : ℕ) (b : Body) → TellsNothing (Sends to b) → BodyNamed c b × BodyTo c to b
one_named c to (body.Request p number text) h = (tt, tt)
one_named c to (body.Answer p number text) h = (tt, tt)
one_named c to (body.Order o) h = (tt, tt)
one_named c to _ h = absurd h

pub nothing_named : (c : Cluster) (os : List Output) → TellNothing os → AllNamed c os
nothing_named c [] h = tt
nothing_named c (Tells e ∷ os) h = (tt, nothing_named c os h.1)
nothing_named c (Sends to b ∷ os) h = (one_named c to b h.0, nothing_named c os h.1)

heartbeats_named : (c : Cluster) (x : UpNode) (receivers : ℕ) → AllNamed c (heartbeats_to x receivers)
unfolding heartbeats_to
heartbeats_named c x receivers = mapped (OutputNamed c) (λ k. Sends k (heartbeat_of x)) (numbers_to receivers most_nodes) (λ k. (tt, tt))

again_to_named : (c : Cluster) (x : UpNode) (r : Option Request) (o : Option ℕ) → AllNamed c (request_again_to x r o)
again_to_named c x (Some r) (Some president) = ((tt, tt), tt)
again_to_named c x None o = tt
again_to_named c x (Some r) None = tt

again_named : (c : Cluster) (x : UpNode) (o : Option Presidency) → AllNamed c (request_again_by x o)
again_named c x None =
    if_either (AllNamed c) (goes_again x.requests) (request_again_to x (oldest x.requests) (coordinator_of x)) [] (again_to_named c x (oldest x.requests) (coordinator_of x)) tt
again_named c x (Some p) = tt

pub tick_named : (c : Cluster) (x : UpNode) → AllNamed c (ticked_output c x (later c x))
tick_named c x =
    let receivers : ℕ = receivers_of (later c x).beats (configured_at c (later c x)) in
    named_append c (heartbeats_to (later c x) receivers) (request_again x) (heartbeats_named c (later c x) receivers) (again_named c x x.presidency)
