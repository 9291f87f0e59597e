-- Most of what a node gives is no Answer of a president.
use Rattle.std.specs.Prelude.{ℕ, List, [], ◌∷◌, Option, None, Some, Ok}
use Rattle.cl_base.specs.Limits.{most_nodes}
use Rattle.cl_base.specs.Numbers.{numbers_to}
use Rattle.cmm_attempt.proofs.Basics.{if_either}
use Rattle.heartbeats.specs.Views.{receivers_of}
use Rattle.pgr_device.specs.declared.command.PrAnswer.TheVariants as given
use Rattle.request_queue.specs.Queue as queue
use Rattle.request_queue.specs.declared.request.Request.{Request}
use Rattle.seize.specs.Answers.{Answer as DeviceAnswer}
use Rattle.status_report.specs.declared.command_entry.Answer.{Answer}
use Rattle.wire.specs.declared.message.Body.{Body}
use Rattle.wire.specs.declared.message.Body.TheVariants as body
use Rattle.node_model.specs.Configurations.{configured_at}
use Rattle.node_model.specs.Presidents.{own_line, sent_to}
use Rattle.node_model.specs.Seats.{coordinator_of}
use Rattle.node_model.specs.Ticks.{heartbeat_of, heartbeats_to, later, ticked_output}
use Rattle.node_model.specs.Updates.{request_again, request_again_by, request_again_to}
use Rattle.node_model.specs.declared.cluster.Cluster.{Cluster}
use Rattle.node_model.specs.declared.node.UpNode.{UpNode}
use Rattle.node_model.specs.declared.output.Output.{Output}
use Rattle.node_model.specs.declared.output.Output.TheVariants.{Sends, Tells}
use Rattle.node_model.specs.declared.presidency.Presidency.{Presidency}
use Rattle.refinement.specs.Doings.{write_lines}
use Rattle.run_history.proofs.Lists.{both, mapped}
use Rattle.run_commands.proofs.carried.Mute.{AreMute}
use Rattle.run_commands.specs.acknowledged.AnsweringGuards.{AreStill, IsNoAnswer, IsStill}
use Rattle.run_commands.proofs.acknowledged.Quiet.{NoAnswerOutput, NoAnswers}

pub still_body : (to : ℕ) (b : Body) → IsStill (Sends to b) → IsNoAnswer b
still_body to (body.Answer e q text) h = absurd h
still_body to _ h = tt

pub still_no : (os : List Output) → AreStill os → NoAnswers os
still_no [] h = tt
still_no (Tells e ∷ os) h = (tt, still_no os h.1)
still_no (Sends to b ∷ os) h = (still_body to b h.0, still_no os h.1)

pub mutes_no : (os : List Output) → AreMute os → NoAnswers os
mutes_no [] h = tt
mutes_no (Tells e ∷ os) h = (tt, mutes_no os h.1)
mutes_no (Sends to b ∷ os) h = absurd h.0

pub spread_no : (receivers : ℕ) (b : Body) → IsNoAnswer b → NoAnswers (sent_to receivers b)
unfolding sent_to
spread_no receivers b h = mapped NoAnswerOutput (λ k. Sends k b) (numbers_to receivers most_nodes) (λ k. h)

beats_no : (receivers : ℕ) (x : UpNode) → NoAnswers (heartbeats_to x receivers)
unfolding heartbeats_to
beats_no receivers x = mapped NoAnswerOutput (λ k. Sends k (heartbeat_of x)) (numbers_to receivers most_nodes) (λ k. tt)

again_to_no : (x : UpNode) (r : Option Request) (to : Option ℕ) → NoAnswers (request_again_to x r to)
again_to_no x (Some r) (Some president) = (tt, tt)
again_to_no x None president = tt
again_to_no x (Some r) None = tt

again_no : (x : UpNode) (p : Option Presidency) → NoAnswers (request_again_by x p)
again_no x None = if_either NoAnswers (queue.goes_again x.requests) (request_again_to x (queue.oldest x.requests) (coordinator_of x)) [] (again_to_no x (queue.oldest x.requests) (coordinator_of x)) tt
again_no x (Some p) = tt

pub ticked_no : (c : Cluster) (x : UpNode) → NoAnswers (ticked_output c x (later c x))
ticked_no c x =
    both NoAnswerOutput (heartbeats_to (later c x) (receivers_of (later c x).beats (configured_at c (later c x)))) (request_again x)
    (beats_no (receivers_of (later c x).beats (configured_at c (later c x))) (later c x)) (again_no x x.presidency)

pub write_no : (n : ℕ) (x : UpNode) (d value : ℕ) (a : DeviceAnswer) → NoAnswers (write_lines n x d value a)
write_no n x d value (Ok given.Good) = (tt, tt)
write_no n x d value (Ok given.Conflict) = (tt, tt)
write_no n x d value _ = (tt, tt)

pub own_no : (n : ℕ) (reply : Answer) (o : Option Request) → NoAnswers (own_line n reply o)
own_no n reply None = tt
own_no n reply (Some r) = if_either NoAnswers r.told _ [] (tt, tt) tt
