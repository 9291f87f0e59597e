-- Lines name no devices, nor do messages about requests, orders and the clock.
use Rattle.std.specs.Prelude.{ℕ, ◌++◌, List, [], ◌∷◌, Option, None, Some, Ok, Err}
use Rattle.std.specs.List.{AllByRecursion}
use Rattle.cl_base.specs.Limits.{most_nodes}
use Rattle.cl_base.specs.Numbers.{numbers_to}
use Rattle.cmm_attempt.proofs.Basics.{if_either}
use Rattle.heartbeats.specs.Views.{receivers_of}
use Rattle.node_model.specs.Configurations.{configured_at}
use Rattle.node_model.specs.Presidents.{sent_to}
use Rattle.node_model.specs.Seats.{coordinator_of}
use Rattle.node_model.specs.Ticks.{heartbeat_of, heartbeats_to, later, ticked_output}
use Rattle.node_model.specs.Updates.{request_again, request_again_by, request_again_to}
use Rattle.node_model.specs.declared.cluster.Cluster.{Cluster}
use Rattle.node_model.specs.declared.node.UpNode.{UpNode}
use Rattle.node_model.specs.declared.output.Output.{Output}
use Rattle.node_model.specs.declared.output.Output.TheVariants.{Sends, Tells}
use Rattle.node_model.specs.declared.presidency.Presidency.{Presidency}
use Rattle.pgr_device.specs.declared.command.PrAnswer.TheVariants as given
use Rattle.refinement.specs.Doings.{Change, first_lines, gone_line, last_lines, saved_lines, write_lines}
use Rattle.refinement.specs.Guards.{TellNothing, TellsNothing}
use Rattle.request_queue.specs.Queue.{goes_again, oldest}
use Rattle.request_queue.specs.declared.request.Request.{Request}
use Rattle.run_history.proofs.Lists.{both, mapped}
use Rattle.run_commands.proofs.carried.Carried.{IsMute}
use Rattle.run_commands.proofs.carried.Mute.{first_mute, last_mute}
use Rattle.seize.specs.Answers.{Answer}
use Rattle.status_report.specs.declared.node_entry.DownCause.{DownCause}
use Rattle.wire.specs.declared.message.Body.{Body}
use Rattle.wire.specs.declared.message.Body.TheVariants as body
use Rattle.run_packets.specs.admitted.Guards.{AllGood, BodyGood}
use Rattle.run_packets.specs.admitted.Known.{AllKnown, BodyKnown, BodyTo, OutputKnown}

pub append_known : (c : Cluster) (os more : List Output) → AllKnown c os → AllKnown c more → AllKnown c (os ++ more)
append_known c os more h k = both (OutputKnown c) os more h k

-- ---- lines

-- what sends nothing
mute_known : (c : Cluster) (os : List Output) → AllByRecursion IsMute os → AllKnown c os
mute_known c [] h = tt
mute_known c (Tells e ∷ os) h = (tt, mute_known c os h.1)
mute_known c (Sends to b ∷ os) h = absurd h.0

first_known : (c : Cluster) (n : ℕ) (ch : Change) → AllKnown c (first_lines n ch)
first_known c n ch = mute_known c (first_lines n ch) (first_mute n ch)

last_known : (c : Cluster) (n : ℕ) (x : UpNode) (ch : Change) → AllKnown c (last_lines c n x ch)
last_known c n x ch = mute_known c (last_lines c n x ch) (last_mute c n x ch)

pub made_known : (c : Cluster) (n : ℕ) (x : UpNode) (ch : Change) → AllKnown c (first_lines n ch ++ last_lines c n x ch)
made_known c n x ch = append_known c (first_lines n ch) (last_lines c n x ch) (first_known c n ch) (last_known c n x ch)

pub saved_known : (c : Cluster) (n : ℕ) (x : UpNode) (ch : Change) → AllKnown c (first_lines n ch ++ saved_lines c n x ch)
saved_known c n x ch = append_known c (first_lines n ch) (saved_lines c n x ch) (first_known c n ch) (tt, last_known c n x ch)

pub gone_known : (c : Cluster) (n : ℕ) (ch : Change) (why : DownCause) → AllKnown c (first_lines n ch ++ gone_line n why)
gone_known c n ch why = append_known c (first_lines n ch) (gone_line n why) (first_known c n ch) (tt, tt)

pub write_known : (c : Cluster) (n : ℕ) (x : UpNode) (d value : ℕ) (a : Answer) → AllKnown c (write_lines n x d value a)
write_known c n x d value (Ok given.Good) = (tt, tt)
write_known c n x d value (Ok given.Conflict) = (tt, tt)
write_known c n x d value (Ok given.InvalidRelease) = (tt, tt)
write_known c n x d value (Ok given.NoPath) = (tt, tt)
write_known c n x d value (Ok (given.Keys keys)) = (tt, tt)
write_known c n x d value (Ok (given.Holder holder)) = (tt, tt)
write_known c n x d value (Ok (given.Word w)) = (tt, tt)
write_known c n x d value (Ok (given.Value v)) = (tt, tt)
write_known c n x d value (Ok (given.Miscompare w)) = (tt, tt)
write_known c n x d value (Err e) = (tt, tt)

-- ---- messages

pub sent_known : (c : Cluster) (receivers : ℕ) (b : Body) → ((k : ℕ) → BodyKnown c b × BodyTo k b) → AllKnown c (sent_to receivers b)
unfolding sent_to
sent_known c receivers b h = mapped (OutputKnown c) (λ k. Sends k b) (numbers_to receivers most_nodes) h

one_known : (c : Cluster) (to : ℕ) (b : Body) → TellsNothing (Sends to b) → BodyGood b → BodyKnown c b × BodyTo to b
one_known c to (body.Request p number text) h good = (tt, tt)
one_known c to (body.Answer p number text) h good = (good, tt)
one_known c to (body.Order o) h good = (tt, tt)
one_known c to _ h good = absurd h

pub nothing_known : (c : Cluster) (os : List Output) → TellNothing os → AllGood os → AllKnown c os
nothing_known c [] h good = tt
nothing_known c (Tells e ∷ os) h good = (tt, nothing_known c os h.1 good.1)
nothing_known c (Sends to b ∷ os) h good = (one_known c to b h.0 good.0, nothing_known c os h.1 good.1)

heartbeats_known : (c : Cluster) (x : UpNode) (receivers : ℕ) → AllKnown c (heartbeats_to x receivers)
unfolding heartbeats_to
heartbeats_known c x receivers = mapped (OutputKnown c) (λ k. Sends k (heartbeat_of x)) (numbers_to receivers most_nodes) (λ k. (tt, tt))

again_to_known : (c : Cluster) (x : UpNode) (r : Option Request) (o : Option ℕ) → AllKnown c (request_again_to x r o)
again_to_known c x (Some r) (Some president) = ((tt, tt), tt)
again_to_known c x None o = tt
again_to_known c x (Some r) None = tt

again_known : (c : Cluster) (x : UpNode) (o : Option Presidency) → AllKnown c (request_again_by x o)
again_known c x None =
    if_either (AllKnown c) (goes_again x.requests) (request_again_to x (oldest x.requests) (coordinator_of x)) [] (again_to_known c x (oldest x.requests) (coordinator_of x)) tt
again_known c x (Some p) = tt

pub tick_known : (c : Cluster) (x : UpNode) → AllKnown c (ticked_output c x (later c x))
tick_known c x =
    let receivers : ℕ = receivers_of (later c x).beats (configured_at c (later c x)) in
    append_known c (heartbeats_to (later c x) receivers) (request_again x) (heartbeats_known c (later c x) receivers) (again_known c x x.presidency)
