-- Most of what a node gives is no Promise, no request to seize and no Install.
use Rattle.std.specs.Prelude.{ℕ, ◌+◌, ◌++◌, List, None, Ok, Option, Some, [], ◌∷◌}
use Rattle.ccr_commit.specs.Entries.{all_committed}
use Rattle.cl_base.specs.Limits.{most_nodes}
use Rattle.cl_base.specs.Numbers.{numbers_to}
use Rattle.cmm_attempt.proofs.Basics.{if_either}
use Rattle.cmm_attempt.specs.Attempts.{AttemptState}
use Rattle.cmm_attempt.specs.Calls.{turn}
use Rattle.heartbeats.specs.Views.{receivers_of}
use Rattle.node_model.specs.Attempts.{adopted_line, adopted_lines, adopted_of, adopted_on, base_lines, is_adopted, starting_as}
use Rattle.node_model.specs.Configurations.{configured_at, in_force}
use Rattle.node_model.specs.Entries.{unknown_line, unknown_lines}
use Rattle.node_model.specs.Presidents.{sent_to}
use Rattle.node_model.specs.Seats.{coordinator_of}
use Rattle.node_model.specs.Ticks.{heartbeat_of, heartbeats_to, later, ticked_output}
use Rattle.node_model.specs.Updates.{request_again, request_again_by, request_again_to}
use Rattle.node_model.specs.declared.cluster.Cluster.{Cluster}
use Rattle.node_model.specs.declared.node.UpNode.{UpNode}
use Rattle.node_model.specs.declared.output.Output.{Output}
use Rattle.node_model.specs.declared.output.Output.TheVariants.{Sends, Tells}
use Rattle.node_model.specs.declared.presidency.Presidency.{Presidency}
use Rattle.pgr_device.specs.declared.command.PrAnswer.TheVariants as given
use Rattle.refinement.specs.Doings.{Change, adopted_by, first_lines, gone_line, last_lines, saved_lines, start_lines, superseded_lines, write_lines}
use Rattle.refinement.specs.Doings.Change.{Acks, Admits, Commits, Counts, Distrusts, Installs, Leads, Prepares, Promises, Proposes, Sits, Starts}
use Rattle.refinement.specs.Guards.{TellNothing, TellsNothing}
use Rattle.request_queue.specs.Queue.{goes_again, oldest}
use Rattle.request_queue.specs.declared.request.Request.{Request}
use Rattle.rg_view.specs.States as states
use Rattle.run_history.proofs.Lists.{both, mapped, of_each}
use Rattle.run_history.specs.Guards as guards
use Rattle.seize.specs.Answers.{Answer}
use Rattle.status_report.specs.declared.node_entry.DownCause.{DownCause}
use Rattle.wire.specs.declared.message.Body.{Body}
use Rattle.wire.specs.declared.message.Body.TheVariants as body
use Rattle.run_outcomes.proofs.shown.Letters.{AllAside, IsAside, OutAside}

pub write_aside : (n : ℕ) (x : UpNode) (d value : ℕ) (a : Answer) → AllAside (write_lines n x d value a)
write_aside n x d value (Ok given.Good) = (tt, tt)
write_aside n x d value (Ok given.Conflict) = (tt, tt)
write_aside n x d value _ = (tt, tt)

pub spread_aside : (receivers : ℕ) (b : Body) → IsAside b → AllAside (sent_to receivers b)
unfolding sent_to
spread_aside receivers b k = mapped OutAside (λ n. Sends n b) (numbers_to receivers most_nodes) (λ n. k)

pub plain_aside : (b : Body) → guards.IsPlainBody b → IsAside b
plain_aside (body.Promise epoch newest members valid flagged committed pending) k = absurd k
plain_aside (body.SeizeQuorum e members d) k = absurd k
plain_aside (body.SeizeData e members d) k = absurd k
plain_aside (body.Seized e d r) k = absurd k
plain_aside (body.Install i) k = absurd k
plain_aside _ k = tt

heartbeats_aside : (x : UpNode) (receivers : ℕ) → AllAside (heartbeats_to x receivers)
unfolding heartbeats_to
heartbeats_aside x receivers = mapped OutAside (λ n. Sends n (heartbeat_of x)) (numbers_to receivers most_nodes) (λ n. tt)

request_aside : (x : UpNode) (r : Option Request) (o : Option ℕ) → AllAside (request_again_to x r o)
request_aside x (Some r) (Some president) = (tt, tt)
request_aside x None o = tt
request_aside x (Some r) None = tt

request_by : (x : UpNode) (o : Option Presidency) → AllAside (request_again_by x o)
request_by x None =
    if_either AllAside (goes_again x.requests) (request_again_to x (oldest x.requests) (coordinator_of x)) [] (request_aside x (oldest x.requests) (coordinator_of x)) tt
request_by x (Some p) = tt

pub tick_aside : (c : Cluster) (x : UpNode) → AllAside (ticked_output c x (later c x))
tick_aside c x =
    let beats : List Output = heartbeats_to (later c x) (receivers_of (later c x).beats (configured_at c (later c x))) in
    both OutAside beats (request_again x) (heartbeats_aside (later c x) (receivers_of (later c x).beats (configured_at c (later c x)))) (request_by x x.presidency)

nothing_aside : (to : ℕ) (b : Body) → TellsNothing (Sends to b) → IsAside b
nothing_aside to (body.Request p number text) k = tt
nothing_aside to (body.Answer p number text) k = tt
nothing_aside to (body.Order o) k = tt
nothing_aside to _ k = absurd k

pub minor_aside : (os : List Output) → TellNothing os → AllAside os
minor_aside [] l = tt
minor_aside (Tells e ∷ os) l = (tt, minor_aside os l.1)
minor_aside (Sends to b ∷ os) l = (nothing_aside to b l.0, minor_aside os l.1)

-- ---- lines

superseded_aside : (p : ℕ) (o : Option AttemptState) → AllAside (superseded_lines p o)
superseded_aside p None = tt
superseded_aside p (Some a) = (tt, tt)

unknown_aside : (n : ℕ) (rs : List Request) → AllAside (unknown_lines n rs)
unknown_aside n [] = tt
unknown_aside n (r ∷ rs) = both OutAside (unknown_line n r) (unknown_lines n rs) (if_either AllAside r.told _ [] (tt, tt) tt) (unknown_aside n rs)

bases_aside : (e k : ℕ) (texts : List (List ℕ)) → AllAside (base_lines e k texts)
bases_aside e k [] = tt
bases_aside e k (text ∷ texts) = (tt, bases_aside e (k + 1) texts)

adopted_aside : (c : Cluster) (a : AttemptState) (y : UpNode) → AllAside (adopted_by c a y)
unfolding adopted_lines
adopted_aside c a y = by_presidency y.presidency
  where
    by_presidency : (o : Option Presidency) → AllAside (adopted_of a.plan.epoch (in_force c y) o)
    by_presidency None = tt
    by_presidency (Some p) =
        of_each OutAside (adopted_on a.plan.epoch p.groups.view (in_force c y).groups.resources) (numbers_to p.groups.view.members most_nodes)
        (λ m. of_each OutAside (λ r. adopted_line a.plan.epoch m r.0 (states.state_of p.groups.view.resources r.0 m)) (in_force c y).groups.resources
        (λ r. if_either AllAside (is_adopted (states.state_of p.groups.view.resources r.0 m)) _ [] (tt, tt) tt))

last_aside : (c : Cluster) (n : ℕ) (x : UpNode) (change : Change) → AllAside (last_lines c n x change)
last_aside c n x (Promises p) = both OutAside (superseded_lines p x.attempt) (unknown_lines n x.requests.waiting) (superseded_aside p x.attempt) (unknown_aside n x.requests.waiting)
last_aside c n x (Leads p members) = (tt, unknown_aside n x.requests.waiting)
last_aside c n x (Counts a k s i) = (tt, tt)
last_aside c n x (Installs s i) = (tt, tt)
last_aside c n x (Starts a k s) =
    let t : AttemptState = (turn a k).after in
    let y : UpNode = starting_as c n x t s in
    both OutAside (start_lines t s) _ (tt, bases_aside t.plan.epoch 0 (all_committed s.saved.entries).committed) (both OutAside (adopted_by c t y) _ (adopted_aside c t y) (tt, tt))
last_aside c n x (Sits s e) = (tt, tt)
last_aside c n x (Distrusts d) = tt
last_aside c n x (Admits at command a d) = tt
last_aside c n x (Proposes s p text) = tt
last_aside c n x (Acks s p q left text) = (tt, tt)
last_aside c n x (Prepares s text) = tt
last_aside c n x (Commits s) = tt

first_aside : (n : ℕ) (change : Change) → AllAside (first_lines n change)
first_aside n (Admits at command a d) = (tt, tt)
first_aside n (Proposes s p text) = (tt, tt)
first_aside n _ = tt

pub saved_aside : (c : Cluster) (n : ℕ) (x : UpNode) (change : Change) → AllAside (first_lines n change ++ saved_lines c n x change)
saved_aside c n x change = both OutAside (first_lines n change) (saved_lines c n x change) (first_aside n change) (tt, last_aside c n x change)

pub made_aside : (c : Cluster) (n : ℕ) (x : UpNode) (change : Change) → AllAside (first_lines n change ++ last_lines c n x change)
made_aside c n x change = both OutAside (first_lines n change) (last_lines c n x change) (first_aside n change) (last_aside c n x change)

pub lost_aside : (n : ℕ) (change : Change) (why : DownCause) → AllAside (first_lines n change ++ gone_line n why)
lost_aside n change why = both OutAside (first_lines n change) (gone_line n why) (first_aside n change) (tt, tt)
