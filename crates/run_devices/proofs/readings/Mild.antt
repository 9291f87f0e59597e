-- Which outputs of a node change nothing of its seizings.
use Rattle.std.specs.Prelude.{Err, List, None, Ok, Option, Some, [], map, ℕ, ◌∷◌}
use Rattle.cl_base.specs.Limits.{most_nodes}
use Rattle.cl_base.specs.Numbers.{numbers_to}
use Rattle.cl_base.specs.declared.header.Header.{Header}
use Rattle.cmm_attempt.proofs.Basics.{if_either}
use Rattle.cmm_attempt.specs.declared.step.AttemptEnd.{AttemptEnd}
use Rattle.cmm_attempt.specs.declared.step.AttemptEnd.TheVariants as end
use Rattle.heartbeats.specs.Views.{receivers_of}
use Rattle.history.specs.Moment.{Moment}
use Rattle.node_model.specs.Attempts.{ended_entry}
use Rattle.node_model.specs.Configurations.{configured_at}
use Rattle.node_model.specs.Presidents.{sent_to}
use Rattle.node_model.specs.Seats.{coordinator_of}
use Rattle.node_model.specs.Ticks.{heartbeat_of, heartbeats_to, later, ticked_output}
use Rattle.node_model.specs.Updates.{request_again, request_again_by, request_again_to}
use Rattle.node_model.specs.declared.cluster.Cluster.{Cluster}
use Rattle.node_model.specs.declared.node.UpNode.{UpNode}
use Rattle.node_model.specs.declared.output.Output.{Output}
use Rattle.node_model.specs.declared.output.Output.TheVariants.{Sends, Tells}
use Rattle.node_model.specs.declared.presidency.Presidency.{Presidency}
use Rattle.pgr_device.specs.declared.command.PrAnswer.TheVariants as given
use Rattle.refinement.specs.Doings.{write_lines}
use Rattle.refinement.specs.Guards.{TellNothing, TellsNothing}
use Rattle.request_queue.specs.Queue.{goes_again, oldest}
use Rattle.request_queue.specs.declared.request.Request.{Request}
use Rattle.run_history.specs.Marks.{AreMinor, IsMinor}
use Rattle.seize.specs.Answers.{Answer}
use Rattle.status_report.specs.declared.entry.Entry.{Entry}
use Rattle.status_report.specs.declared.entry.Entry.TheVariants as entry
use Rattle.wire.specs.declared.message.Body.{Body}
use Rattle.wire.specs.declared.message.Body.TheVariants as body
use Rattle.run_devices.proofs.readings.Goes.{CanPass, IsMild, can_append}
use Rattle.run_devices.specs.readings.Readings.{SentSo, StandsSo}

-- ---- lines that change nothing

pub ended_mild : (e : ℕ) (end : AttemptEnd) → IsMild (entry.Attempt (ended_entry e end))
ended_mild e (end.Votes have need lacking) = tt
ended_mild e (end.Superseded p) = tt
ended_mild e (end.Silent n) = tt
ended_mild e (end.Foreign n) = tt
ended_mild e (end.Excluded n) = tt

pub write_can : (h : Header) (before : List Moment) (n : ℕ) (x : UpNode) (d value : ℕ) (a : Answer) → CanPass h before n (write_lines n x d value a)
write_can h before n x d value (Ok given.Good) = (tt, tt)
write_can h before n x d value (Ok given.Conflict) = (tt, tt)
write_can h before n x d value (Ok given.InvalidRelease) = (tt, tt)
write_can h before n x d value (Ok given.NoPath) = (tt, tt)
write_can h before n x d value (Ok (given.Keys keys)) = (tt, tt)
write_can h before n x d value (Ok (given.Holder holder)) = (tt, tt)
write_can h before n x d value (Ok (given.Word word)) = (tt, tt)
write_can h before n x d value (Ok (given.Value v)) = (tt, tt)
write_can h before n x d value (Ok (given.Miscompare word)) = (tt, tt)
write_can h before n x d value (Err e) = (tt, tt)

each_can : (h : Header) (before : List Moment) (n : ℕ) (b : Body) (ns : List ℕ) → SentSo before n b × StandsSo h before n b → CanPass h before n (map (λ k. Sends k b) ns)
each_can h before n b [] k = tt
each_can h before n b (m ∷ ns) k = (k, each_can h before n b ns k)

pub spread_can : (h : Header) (before : List Moment) (n receivers : ℕ) (b : Body) → SentSo before n b × StandsSo h before n b → CanPass h before n (sent_to receivers b)
unfolding sent_to
spread_can h before n receivers b k = each_can h before n b (numbers_to receivers most_nodes) k

heartbeats_can : (h : Header) (before : List Moment) (n : ℕ) (x : UpNode) (receivers : ℕ) → CanPass h before n (heartbeats_to x receivers)
unfolding heartbeats_to
heartbeats_can h before n x receivers = beats (numbers_to receivers most_nodes)
  where
    beats : (ns : List ℕ) → CanPass h before n (map (λ k. Sends k (heartbeat_of x)) ns)
    beats [] = tt
    beats (k ∷ ns) = ((tt, tt), beats ns)

request_can : (h : Header) (before : List Moment) (n : ℕ) (x : UpNode) (r : Option Request) (o : Option ℕ) → CanPass h before n (request_again_to x r o)
request_can h before n x (Some r) (Some president) = ((tt, tt), tt)
request_can h before n x None o = tt
request_can h before n x (Some r) None = tt

request_by : (h : Header) (before : List Moment) (n : ℕ) (x : UpNode) (o : Option Presidency) → CanPass h before n (request_again_by x o)
request_by h before n x None =
    if_either (λ os. CanPass h before n os) (goes_again x.requests) (request_again_to x (oldest x.requests) (coordinator_of x)) []
    (request_can h before n x (oldest x.requests) (coordinator_of x)) tt
request_by h before n x (Some p) = tt

pub tick_can : (h : Header) (c : Cluster) (before : List Moment) (n : ℕ) (x : UpNode) → CanPass h before n (ticked_output c x (later c x))
tick_can h c before n x =
    let beats : List Output = heartbeats_to (later c x) (receivers_of (later c x).beats (configured_at c (later c x))) in
    can_append h before n beats (request_again x) (heartbeats_can h before n (later c x) (receivers_of (later c x).beats (configured_at c (later c x))))
    (request_by h before n x x.presidency)

minor_mild : (e : Entry) → IsMinor e → IsMild e
minor_mild (entry.Command e) k = tt
minor_mild (entry.Call e) k = tt
minor_mild (entry.Status e) k = tt
minor_mild (entry.Address e) k = tt
minor_mild (entry.Answered e) k = absurd k
minor_mild entry.Powered k = absurd k
minor_mild (entry.Node n e) k = absurd k
minor_mild (entry.Packet e) k = absurd k
minor_mild (entry.Device e) k = absurd k
minor_mild (entry.Attempt e) k = absurd k
minor_mild (entry.Start e) k = absurd k
minor_mild (entry.Update e) k = absurd k
minor_mild (entry.Schedule e) k = absurd k

nothing_so : (h : Header) (before : List Moment) (n to : ℕ) (b : Body) → TellsNothing (Sends to b) → SentSo before n b × StandsSo h before n b
nothing_so h before n to (body.Request p number text) k = (tt, tt)
nothing_so h before n to (body.Answer p number text) k = (tt, tt)
nothing_so h before n to (body.Order o) k = (tt, tt)
nothing_so h before n to (body.Promise e newest members valid flagged committed pending) k = absurd k
nothing_so h before n to (body.Heartbeat promised session is_one) k = absurd k
nothing_so h before n to (body.Collect e members) k = absurd k
nothing_so h before n to (body.Nack e promised) k = absurd k
nothing_so h before n to (body.SeizeQuorum e members d) k = absurd k
nothing_so h before n to (body.SeizeData e members d) k = absurd k
nothing_so h before n to (body.Seized e d outcome) k = absurd k
nothing_so h before n to (body.Install j) k = absurd k
nothing_so h before n to (body.Ready e joined report) k = absurd k
nothing_so h before n to (body.Start e) k = absurd k
nothing_so h before n to (body.Prepare e place text) k = absurd k
nothing_so h before n to (body.Prepared e place) k = absurd k
nothing_so h before n to (body.Commit e place) k = absurd k
nothing_so h before n to (body.Done e number outcome) k = absurd k
nothing_so h before n to (body.Excluded e newest) k = absurd k

pub minor_can : (h : Header) (before : List Moment) (n : ℕ) (os : List Output) → AreMinor os → TellNothing os → CanPass h before n os
minor_can h before n [] k l = tt
minor_can h before n (Tells e ∷ os) k l = (minor_mild e k.0, minor_can h before n os k.1 l.1)
minor_can h before n (Sends to b ∷ os) k l = (nothing_so h before n to b l.0, minor_can h before n os k l.1)
