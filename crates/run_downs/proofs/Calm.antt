-- What a node gives beside its changes tells neither of a proposal nor that a node goes down.
use Rattle.std.specs.Prelude.{ℕ, List, [], ◌∷◌, Option, None, Some, Ok}
use Rattle.std.specs.List.{AllByRecursion}
use Rattle.cl_base.specs.Limits.{most_nodes}
use Rattle.cl_base.specs.Numbers.{numbers_to}
use Rattle.cmm_attempt.proofs.Basics.{if_either}
use Rattle.pgr_device.specs.declared.command.PrAnswer.TheVariants as given
use Rattle.request_queue.specs.Queue as queue
use Rattle.request_queue.specs.declared.request.Request.{Request}
use Rattle.seize.specs.Answers.{Answer}
use Rattle.status_report.specs.declared.entry.Entry.{Entry}
use Rattle.status_report.specs.declared.entry.Entry.TheVariants as entry
use Rattle.wire.specs.declared.message.Body.{Body}
use Rattle.node_model.specs.declared.cluster.Cluster.{Cluster}
use Rattle.node_model.specs.declared.node.UpNode.{UpNode}
use Rattle.node_model.specs.declared.output.Output.{Output}
use Rattle.node_model.specs.declared.output.Output.TheVariants.{Tells, Sends}
use Rattle.node_model.specs.declared.presidency.Presidency.{Presidency}
use Rattle.node_model.specs.Presidents.{sent_to}
use Rattle.node_model.specs.Seats.{coordinator_of}
use Rattle.node_model.specs.Ticks.{heartbeat_of, heartbeats_to, later, ticked_output}
use Rattle.node_model.specs.Updates.{request_again, request_again_by, request_again_to}
use Rattle.refinement.specs.Doings.{Act, said, write_lines}
use Rattle.refinement.specs.Doings.Act.{Accepts, Dates, Ends, Gives, Goes_on, Hears, Makes, Minds, Notes, Queues, Spreads, Stores, Takes, Ticks, Waits, Works, Writes}
use Rattle.run_history.proofs.Lists.{both, mapped}
use Rattle.run_history.proofs.Ordinary.{GivesAside, IsAside}
use Rattle.status_report.specs.declared.node_entry.NodeEntry.TheVariants as note
use Rattle.status_report.specs.declared.update_entry.UpdateEntry.TheVariants as update
use Rattle.node_model.specs.declared.node.Node.{Node}
use Rattle.node_model.specs.declared.node.Node.TheVariants.{Down, Up}
use Rattle.refinement.specs.Doings.{said_in}
use Rattle.run_history.proofs.Small.{IsSmallAct}
use Rattle.run_downs.proofs.Proposing.{IsNoMake}

abbrev pub IsCalm : Output → Type 0
IsCalm (Tells (entry.Update (update.Proposed e v words))) = ⊥
IsCalm (Tells (entry.Node m (note.Down why))) = ⊥
IsCalm _ = Unit {0}

abbrev pub AllCalm : List Output → Type 0
AllCalm os = AllByRecursion IsCalm os

calm_entry : (e : Entry) → IsAside e → IsCalm (Tells e)
calm_entry (entry.Command e) h = tt
calm_entry (entry.Status e) h = tt
calm_entry (entry.Call e) h = tt
calm_entry (entry.Address e) h = tt
calm_entry (entry.Answered e) h = absurd h
calm_entry entry.Powered h = absurd h
calm_entry (entry.Node n e) h = absurd h
calm_entry (entry.Packet e) h = absurd h
calm_entry (entry.Device e) h = absurd h
calm_entry (entry.Attempt e) h = absurd h
calm_entry (entry.Start e) h = absurd h
calm_entry (entry.Update e) h = absurd h
calm_entry (entry.Schedule e) h = absurd h

asides_calm : (os : List Output) → AllByRecursion GivesAside os → AllCalm os
asides_calm [] h = tt
asides_calm (Tells e ∷ os) h = (calm_entry e h.0, asides_calm os h.1)
asides_calm (Sends to b ∷ os) h = (tt, asides_calm os h.1)

again_to_calm : (x : UpNode) (r : Option Request) (o : Option ℕ) → AllCalm (request_again_to x r o)
again_to_calm x (Some r) (Some president) = (tt, tt)
again_to_calm x None president = tt
again_to_calm x (Some r) None = tt

again_by_calm : (x : UpNode) (o : Option Presidency) → AllCalm (request_again_by x o)
again_by_calm x None =
    if_either AllCalm (queue.goes_again x.requests) (request_again_to x (queue.oldest x.requests) (coordinator_of x)) []
    (again_to_calm x (queue.oldest x.requests) (coordinator_of x)) tt
again_by_calm x (Some p) = tt

heartbeats_calm : (x : UpNode) (receivers : ℕ) → AllCalm (heartbeats_to x receivers)
unfolding heartbeats_to
heartbeats_calm x receivers = mapped IsCalm (λ n. Sends n (heartbeat_of x)) (numbers_to receivers most_nodes) (λ n. tt)

ticked_calm : (c : Cluster) (before x : UpNode) → AllCalm (ticked_output c before x)
ticked_calm c before x = both IsCalm (heartbeats_to x _) (request_again before) (heartbeats_calm x _) (again_by_calm before before.presidency)

spread_calm : (receivers : ℕ) (b : Body) → AllCalm (sent_to receivers b)
unfolding sent_to
spread_calm receivers b = mapped IsCalm (λ n. Sends n b) (numbers_to receivers most_nodes) (λ n. tt)

write_calm : (me : ℕ) (x : UpNode) (d value : ℕ) (a : Answer) → AllCalm (write_lines me x d value a)
write_calm me x d value (Ok given.Good) = (tt, tt)
write_calm me x d value (Ok given.Conflict) = (tt, tt)
write_calm me x d value _ = (tt, tt)

said_calm : (c : Cluster) (me : ℕ) (x : UpNode) (a : Act) → IsNoMake a → IsSmallAct a → AllCalm (said c me x a)
said_calm c me x (Hears from b) other h = tt
said_calm c me x Ticks other h = (tt, ticked_calm c x (later c x))
said_calm c me x Waits other h = tt
said_calm c me x (Goes_on a k) other h = tt
said_calm c me x (Ends a e) other h = (tt, tt)
said_calm c me x (Queues a d kind) other h = tt
said_calm c me x (Accepts kind e members d) other h = tt
said_calm c me x (Takes at command a) other h = (tt, tt)
said_calm c me x (Stores d value a) other h = (tt, write_calm me x d value a)
said_calm c me x (Writes to b) other h = (tt, tt)
said_calm c me x (Makes change) other h = absurd other
said_calm c me x (Gives os) other h = asides_calm os h
said_calm c me x (Spreads receivers b) other h = spread_calm receivers b
said_calm c me x (Minds q p) other h = tt
said_calm c me x (Notes from place p) other h = tt
said_calm c me x (Dates now) other h = tt
said_calm c me x (Works w) other h = tt

pub said_in_calm : (c : Cluster) (me : ℕ) (a : Act) (node : Node) → IsNoMake a → IsSmallAct a → AllCalm (said_in c me a node)
said_in_calm c me a Down other h = tt
said_in_calm c me a (Up x) other h = said_calm c me x a other h
