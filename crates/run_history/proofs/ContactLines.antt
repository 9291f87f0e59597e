-- Which lines a node's small steps give that are of no attempt, start or install.
use Rattle.std.specs.Prelude.{ℕ, ◌+◌, ◌++◌, List, [], ◌∷◌, flat_map, map, Option, None, Some, Ok, Err}
use Rattle.cl_base.specs.Limits.{most_nodes}
use Rattle.cl_base.specs.Numbers.{numbers_to}
use Rattle.cmm_attempt.specs.Attempts.{AttemptState}
use Rattle.cmm_attempt.specs.declared.step.AttemptEnd.{AttemptEnd}
use Rattle.cmm_attempt.specs.declared.step.AttemptEnd.TheVariants as end
use Rattle.cmm_attempt.proofs.Basics.{if_either}
use Rattle.heartbeats.specs.Views.{receivers_of}
use Rattle.pgr_device.specs.declared.command.PrAnswer.TheVariants as given
use Rattle.request_queue.specs.Queue.{goes_again, oldest}
use Rattle.request_queue.specs.declared.request.Request.{Request}
use Rattle.rg_view.specs.States as states
use Rattle.seize.specs.Answers.{Answer}
use Rattle.status_report.specs.declared.entry.Entry.{Entry}
use Rattle.status_report.specs.declared.entry.Entry.TheVariants as entry
use Rattle.wire.specs.declared.message.Body.{Body}
use Rattle.wire.specs.declared.message.Body.TheVariants as body
use Rattle.history.specs.Moment.{Moment}
use Rattle.node_model.specs.Attempts.{adopted_line, adopted_lines, adopted_of, adopted_on, base_lines, ended_entry, is_adopted}
use Rattle.node_model.specs.Configurations.{configured_at, in_force}
use Rattle.node_model.specs.Entries.{unknown_line, unknown_lines}
use Rattle.node_model.specs.Presidents.{sent_to}
use Rattle.node_model.specs.Seats.{coordinator_of}
use Rattle.node_model.specs.Ticks.{heartbeat_of, heartbeats_to, later, ticked_output}
use Rattle.node_model.specs.Updates.{request_again, request_again_by, request_again_to}
use Rattle.node_model.specs.declared.cluster.Cluster.{Cluster}
use Rattle.node_model.specs.declared.node.UpNode.{UpNode}
use Rattle.node_model.specs.declared.output.Output.{Output}
use Rattle.node_model.specs.declared.output.Output.TheVariants.{Sends, Tells}
use Rattle.node_model.specs.declared.presidency.Presidency.{Presidency}
use Rattle.refinement.specs.Doings.{adopted_by, superseded_lines, write_lines}
use Rattle.refinement.specs.Guards.{TellNothing, TellsNothing}
use Rattle.run_history.specs.Marks.{AreMinor, IsMinor}
use Rattle.run_history.specs.Causes.{Caused}
use Rattle.run_history.proofs.ContactCalm.{IsCalm, IsCalmAttempt}
use Rattle.run_history.proofs.Walk.{CanPass, Sendable}

-- lines alone
abbrev pub AllCalm : List Output → Type 0
AllCalm [] = Unit {0}
AllCalm (Tells e ∷ os) = IsCalm e × AllCalm os
AllCalm (Sends to b ∷ os) = ⊥

pub calm_can : (before : List Moment) (n : ℕ) (os : List Output) → AllCalm os → CanPass before n os
calm_can before n [] h = tt
calm_can before n (Tells e ∷ os) h = (h.0, calm_can before n os h.1)
calm_can before n (Sends to b ∷ os) h = absurd h

pub calm_append : (os more : List Output) → AllCalm os → AllCalm more → AllCalm (os ++ more)
calm_append [] more h k = k
calm_append (Tells e ∷ os) more h k = (h.0, calm_append os more h.1 k)
calm_append (Sends to b ∷ os) more h k = absurd h

calm_each : {X : Type 0} → (f : X → List Output) (xs : List X) → ((x : X) → AllCalm (f x)) → AllCalm (flat_map f xs)
calm_each f [] h = tt
calm_each f (x ∷ xs) h = calm_append (f x) (flat_map f xs) (h x) (calm_each f xs h)

pub superseded_calm : (p : ℕ) (o : Option AttemptState) → AllCalm (superseded_lines p o)
superseded_calm p None = tt
superseded_calm p (Some a) = (tt, tt)

pub unknown_calm : (n : ℕ) (rs : List Request) → AllCalm (unknown_lines n rs)
unknown_calm n [] = tt
unknown_calm n (r ∷ rs) = calm_append (unknown_line n r) (unknown_lines n rs) (if_either AllCalm r.told _ [] (tt, tt) tt) (unknown_calm n rs)

pub bases_calm : (e before : ℕ) (texts : List (List ℕ)) → AllCalm (base_lines e before texts)
bases_calm e before [] = tt
bases_calm e before (text ∷ texts) = (tt, bases_calm e (before + 1) texts)

pub adopted_calm : (c : Cluster) (a : AttemptState) (y : UpNode) → AllCalm (adopted_by c a y)
unfolding adopted_lines
adopted_calm c a y = by_presidency y.presidency
  where
    by_presidency : (o : Option Presidency) → AllCalm (adopted_of a.plan.epoch (in_force c y) o)
    by_presidency None = tt
    by_presidency (Some p) =
        calm_each (adopted_on a.plan.epoch p.groups.view (in_force c y).groups.resources) (numbers_to p.groups.view.members most_nodes)
        (λ m. calm_each (λ r. adopted_line a.plan.epoch m r.0 (states.state_of p.groups.view.resources r.0 m)) (in_force c y).groups.resources
        (λ r. if_either AllCalm (is_adopted (states.state_of p.groups.view.resources r.0 m)) _ [] (tt, tt) tt))

pub ended_calm : (e : ℕ) (end : AttemptEnd) → IsCalmAttempt (ended_entry e end)
ended_calm e (end.Votes have need lacking) = tt
ended_calm e (end.Superseded p) = tt
ended_calm e (end.Silent n) = tt
ended_calm e (end.Foreign n) = tt
ended_calm e (end.Excluded n) = tt

pub write_calm : (n : ℕ) (x : UpNode) (d value : ℕ) (a : Answer) → AllCalm (write_lines n x d value a)
write_calm n x d value (Ok given.Good) = (tt, tt)
write_calm n x d value (Ok given.Conflict) = (tt, tt)
write_calm n x d value (Ok given.InvalidRelease) = (tt, tt)
write_calm n x d value (Ok given.NoPath) = (tt, tt)
write_calm n x d value (Ok (given.Keys keys)) = (tt, tt)
write_calm n x d value (Ok (given.Holder holder)) = (tt, tt)
write_calm n x d value (Ok (given.Word word)) = (tt, tt)
write_calm n x d value (Ok (given.Value v)) = (tt, tt)
write_calm n x d value (Ok (given.Miscompare word)) = (tt, tt)
write_calm n x d value (Err e) = (tt, tt)

-- ---- messages

pub sendable_append : (before : List Moment) (n : ℕ) (os more : List Output) → Sendable before n os → Sendable before n more → Sendable before n (os ++ more)
sendable_append before n [] more h k = k
sendable_append before n (Tells e ∷ os) more h k = (h.0, sendable_append before n os more h.1 k)
sendable_append before n (Sends to b ∷ os) more h k = (h.0, sendable_append before n os more h.1 k)

each_sendable : (before : List Moment) (n : ℕ) (b : Body) (ns : List ℕ) → Caused before n b → Sendable before n (map (λ k. Sends k b) ns)
each_sendable before n b [] h = tt
each_sendable before n b (k ∷ ns) h = (h, each_sendable before n b ns h)

pub spread_sendable : (before : List Moment) (n receivers : ℕ) (b : Body) → Caused before n b → Sendable before n (sent_to receivers b)
unfolding sent_to
spread_sendable before n receivers b h = each_sendable before n b (numbers_to receivers most_nodes) h

beats_sendable : (before : List Moment) (n : ℕ) (x : UpNode) (ns : List ℕ) → Sendable before n (map (λ k. Sends k (heartbeat_of x)) ns)
beats_sendable before n x [] = tt
beats_sendable before n x (k ∷ ns) = (tt, beats_sendable before n x ns)

heartbeats_sendable : (before : List Moment) (n : ℕ) (x : UpNode) (receivers : ℕ) → Sendable before n (heartbeats_to x receivers)
unfolding heartbeats_to
heartbeats_sendable before n x receivers = beats_sendable before n x (numbers_to receivers most_nodes)

request_sendable : (before : List Moment) (n : ℕ) (x : UpNode) (r : Option Request) (o : Option ℕ) → Sendable before n (request_again_to x r o)
request_sendable before n x (Some r) (Some president) = (tt, tt)
request_sendable before n x None o = tt
request_sendable before n x (Some r) None = tt

request_by : (before : List Moment) (n : ℕ) (x : UpNode) (o : Option Presidency) → Sendable before n (request_again_by x o)
request_by before n x None =
    if_either (λ os. Sendable before n os) (goes_again x.requests) (request_again_to x (oldest x.requests) (coordinator_of x)) [] (request_sendable before n x (oldest x.requests) (coordinator_of x)) tt
request_by before n x (Some p) = tt

pub tick_sendable : (c : Cluster) (before : List Moment) (n : ℕ) (x : UpNode) → Sendable before n (ticked_output c x (later c x))
tick_sendable c before n x =
    let beats : List Output = heartbeats_to (later c x) (receivers_of (later c x).beats (configured_at c (later c x))) in
    sendable_append before n beats (request_again x) (heartbeats_sendable before n (later c x) (receivers_of (later c x).beats (configured_at c (later c x)))) (request_by before n x x.presidency)

minor_calm : (e : Entry) → IsMinor e → IsCalm e
minor_calm (entry.Command e) h = tt
minor_calm (entry.Call e) h = tt
minor_calm (entry.Status e) h = tt
minor_calm (entry.Address e) h = tt
minor_calm (entry.Answered e) h = absurd h
minor_calm entry.Powered h = absurd h
minor_calm (entry.Node n e) h = absurd h
minor_calm (entry.Packet e) h = absurd h
minor_calm (entry.Device e) h = absurd h
minor_calm (entry.Attempt e) h = absurd h
minor_calm (entry.Start e) h = absurd h
minor_calm (entry.Update e) h = absurd h
minor_calm (entry.Schedule e) h = absurd h

nothing_caused : (before : List Moment) (n to : ℕ) (b : Body) → TellsNothing (Sends to b) → Caused before n b
nothing_caused before n to (body.Request p number text) h = tt
nothing_caused before n to (body.Answer p number text) h = tt
nothing_caused before n to (body.Order o) h = tt
nothing_caused before n to (body.Promise e newest members valid flagged committed pending) h = absurd h
nothing_caused before n to (body.Heartbeat promised session is_one) h = absurd h
nothing_caused before n to (body.Collect e members) h = absurd h
nothing_caused before n to (body.Nack e promised) h = absurd h
nothing_caused before n to (body.SeizeQuorum e members d) h = absurd h
nothing_caused before n to (body.SeizeData e members d) h = absurd h
nothing_caused before n to (body.Seized e d outcome) h = absurd h
nothing_caused before n to (body.Install j) h = absurd h
nothing_caused before n to (body.Ready e joined report) h = absurd h
nothing_caused before n to (body.Start e) h = absurd h
nothing_caused before n to (body.Prepare e place text) h = absurd h
nothing_caused before n to (body.Prepared e place) h = absurd h
nothing_caused before n to (body.Commit e place) h = absurd h
nothing_caused before n to (body.Done e number outcome) h = absurd h
nothing_caused before n to (body.Excluded e newest) h = absurd h

pub minor_sendable : (before : List Moment) (n : ℕ) (os : List Output) → AreMinor os → TellNothing os → Sendable before n os
minor_sendable before n [] h k = tt
minor_sendable before n (Tells e ∷ os) h k = (minor_calm e h.0, minor_sendable before n os h.1 k.1)
minor_sendable before n (Sends to b ∷ os) h k = (nothing_caused before n to b k.0, minor_sendable before n os h k.1)
