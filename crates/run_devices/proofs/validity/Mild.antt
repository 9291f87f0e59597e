-- Which outputs of a node change nothing.
use Rattle.std.specs.Prelude.{ℕ, ◌+◌, List, [], ◌∷◌, map, Option, None, Some, Ok, Err}
use Rattle.std.specs.List.{flat_map}
use Rattle.cl_base.specs.Limits.{most_nodes}
use Rattle.cl_base.specs.Numbers.{numbers_to}
use Rattle.cmm_attempt.proofs.Basics.{if_either}
use Rattle.cmm_attempt.specs.Attempts.{AttemptState}
use Rattle.cmm_attempt.specs.declared.step.AttemptEnd.{AttemptEnd}
use Rattle.cmm_attempt.specs.declared.step.AttemptEnd.TheVariants as end
use Rattle.heartbeats.specs.Views.{receivers_of}
use Rattle.pgr_device.specs.declared.command.PrAnswer.TheVariants as given
use Rattle.request_queue.specs.Queue.{goes_again, oldest}
use Rattle.request_queue.specs.declared.request.Request.{Request}
use Rattle.rg_view.specs.States as states
use Rattle.seize.specs.Answers.{Answer}
use Rattle.status_report.specs.declared.entry.Entry.{Entry}
use Rattle.status_report.specs.declared.entry.Entry.TheVariants as entry
use Rattle.wire.specs.declared.message.Body.{Body}
use Rattle.wire.specs.declared.message.Body.TheVariants as body
use Rattle.node_model.specs.Attempts.{adopted_line, adopted_lines, adopted_of, adopted_on, base_lines, ended_entry, is_adopted}
use Rattle.node_model.specs.Configurations.{configured_at, in_force}
use Rattle.node_model.specs.Entries.{unknown_line, unknown_lines}
use Rattle.node_model.specs.Presidents.{sent_to}
use Rattle.node_model.specs.Seats.{coordinator_of}
use Rattle.node_model.specs.Ticks.{heartbeat_of, heartbeats_to, later, ticked_output}
use Rattle.node_model.specs.Updates.{request_again, request_again_by, request_again_to}
use Rattle.node_model.specs.declared.cluster.Cluster.{Cluster}
use Rattle.node_model.specs.declared.node.UpNode.{UpNode}
use Rattle.node_model.specs.declared.output.Output.{Output}
use Rattle.node_model.specs.declared.output.Output.TheVariants.{Sends, Tells}
use Rattle.node_model.specs.declared.presidency.Presidency.{Presidency}
use Rattle.refinement.specs.Doings.{adopted_by, superseded_lines, write_lines}
use Rattle.refinement.specs.Guards.{TellNothing, TellsNothing}
use Rattle.run_history.specs.Guards.{IsPlainBody}
use Rattle.run_history.specs.Marks.{AreMinor, IsMinor}
use Rattle.run_devices.proofs.validity.Goes.{AreMild, IsMild, IsNoPromise, mild_append}

pub ended_mild : (e : ℕ) (end : AttemptEnd) → IsMild (entry.Attempt (ended_entry e end))
ended_mild e (end.Votes have need lacking) = tt
ended_mild e (end.Superseded p) = tt
ended_mild e (end.Silent n) = tt
ended_mild e (end.Foreign n) = tt
ended_mild e (end.Excluded n) = tt

pub write_mild : (n : ℕ) (x : UpNode) (d value : ℕ) (a : Answer) → AreMild (write_lines n x d value a)
write_mild n x d value (Ok given.Good) = (tt, tt)
write_mild n x d value (Ok given.Conflict) = (tt, tt)
write_mild n x d value (Ok given.InvalidRelease) = (tt, tt)
write_mild n x d value (Ok given.NoPath) = (tt, tt)
write_mild n x d value (Ok (given.Keys keys)) = (tt, tt)
write_mild n x d value (Ok (given.Holder holder)) = (tt, tt)
write_mild n x d value (Ok (given.Word word)) = (tt, tt)
write_mild n x d value (Ok (given.Value v)) = (tt, tt)
write_mild n x d value (Ok (given.Miscompare word)) = (tt, tt)
write_mild n x d value (Err e) = (tt, tt)

each_mild : (b : Body) (ns : List ℕ) → IsNoPromise b → AreMild (map (λ k. Sends k b) ns)
each_mild b [] k = tt
each_mild b (m ∷ ns) k = (k, each_mild b ns k)

plain_no : (b : Body) → IsPlainBody b → IsNoPromise b
plain_no (body.Promise epoch newest members valid flagged committed pending) k = absurd k
plain_no _ k = tt

pub spread_mild : (receivers : ℕ) (b : Body) → IsPlainBody b → AreMild (sent_to receivers b)
unfolding sent_to
spread_mild receivers b k = each_mild b (numbers_to receivers most_nodes) (plain_no b k)

heartbeats_mild : (x : UpNode) (receivers : ℕ) → AreMild (heartbeats_to x receivers)
unfolding heartbeats_to
heartbeats_mild x receivers = each_mild (heartbeat_of x) (numbers_to receivers most_nodes) tt

request_mild : (x : UpNode) (r : Option Request) (o : Option ℕ) → AreMild (request_again_to x r o)
request_mild x (Some r) (Some president) = (tt, tt)
request_mild x None o = tt
request_mild x (Some r) None = tt

request_by : (x : UpNode) (o : Option Presidency) → AreMild (request_again_by x o)
request_by x None =
    if_either AreMild (goes_again x.requests) (request_again_to x (oldest x.requests) (coordinator_of x)) [] (request_mild x (oldest x.requests) (coordinator_of x)) tt
request_by x (Some p) = tt

pub tick_mild : (c : Cluster) (x : UpNode) → AreMild (ticked_output c x (later c x))
tick_mild c x =
    let beats : List Output = heartbeats_to (later c x) (receivers_of (later c x).beats (configured_at c (later c x))) in
    mild_append beats (request_again x) (heartbeats_mild (later c x) (receivers_of (later c x).beats (configured_at c (later c x)))) (request_by x x.presidency)

minor_mild : (e : Entry) → IsMinor e → IsMild e
minor_mild (entry.Command e) k = tt
minor_mild (entry.Call e) k = tt
minor_mild (entry.Status e) k = tt
minor_mild (entry.Address e) k = tt
minor_mild (entry.Answered e) k = absurd k
minor_mild entry.Powered k = absurd k
minor_mild (entry.Node n e) k = absurd k
minor_mild (entry.Packet e) k = absurd k
minor_mild (entry.Device e) k = absurd k
minor_mild (entry.Attempt e) k = absurd k
minor_mild (entry.Start e) k = absurd k
minor_mild (entry.Update e) k = absurd k
minor_mild (entry.Schedule e) k = absurd k

nothing_mild : (to : ℕ) (b : Body) → TellsNothing (Sends to b) → IsNoPromise b
nothing_mild to (body.Promise e newest members valid flagged committed pending) k = absurd k
nothing_mild to _ k = tt

pub minors_mild : (os : List Output) → AreMinor os → TellNothing os → AreMild os
minors_mild [] k l = tt
minors_mild (Tells e ∷ os) k l = (minor_mild e k.0, minors_mild os k.1 l.1)
minors_mild (Sends to b ∷ os) k l = (nothing_mild to b l.0, minors_mild os k l.1)

pub superseded_mild : (p : ℕ) (o : Option AttemptState) → AreMild (superseded_lines p o)
superseded_mild p None = tt
superseded_mild p (Some a) = (tt, tt)

pub unknown_mild : (n : ℕ) (rs : List Request) → AreMild (unknown_lines n rs)
unknown_mild n [] = tt
unknown_mild n (r ∷ rs) = mild_append (unknown_line n r) (unknown_lines n rs) (if_either AreMild r.told _ [] (tt, tt) tt) (unknown_mild n rs)

pub bases_mild : (e k : ℕ) (texts : List (List ℕ)) → AreMild (base_lines e k texts)
bases_mild e k [] = tt
bases_mild e k (text ∷ texts) = (tt, bases_mild e (k + 1) texts)

flat_mild : {X : Type 0} (f : X → List Output) (xs : List X) → ((x : X) → AreMild (f x)) → AreMild (flat_map f xs)
flat_mild f [] k = tt
flat_mild f (x ∷ xs) k = mild_append (f x) (flat_map f xs) (k x) (flat_mild f xs k)

pub adopted_mild : (c : Cluster) (a : AttemptState) (y : UpNode) → AreMild (adopted_by c a y)
unfolding adopted_lines
adopted_mild c a y = by_presidency y.presidency
  where
    by_presidency : (o : Option Presidency) → AreMild (adopted_of a.plan.epoch (in_force c y) o)
    by_presidency None = tt
    by_presidency (Some p) =
        flat_mild (adopted_on a.plan.epoch p.groups.view (in_force c y).groups.resources) (numbers_to p.groups.view.members most_nodes)
        (λ m. flat_mild (λ r. adopted_line a.plan.epoch m r.0 (states.state_of p.groups.view.resources r.0 m)) (in_force c y).groups.resources
        (λ r. if_either AreMild (is_adopted (states.state_of p.groups.view.resources r.0 m)) _ [] (tt, tt) tt))
