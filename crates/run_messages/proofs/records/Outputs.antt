-- Which lines a node's small steps give that say nothing of records, and which messages show none.
use Rattle.std.specs.Prelude.{ℕ, ◌≡◌, ◌++◌, List, [], ◌∷◌, flat_map, map, Option, None, Some, Ok, Err}
use Rattle.std.proofs.Common.{refl, ◌∙◌}
use Rattle.cl_base.specs.Limits.{most_nodes}
use Rattle.cl_base.specs.Numbers.{numbers_to}
use Rattle.cmm_attempt.specs.Attempts.{AttemptState}
use Rattle.cmm_attempt.specs.declared.step.AttemptEnd.{AttemptEnd}
use Rattle.cmm_attempt.specs.declared.step.AttemptEnd.TheVariants as end
use Rattle.cmm_attempt.proofs.Basics.{if_either}
use Rattle.heartbeats.specs.Views.{receivers_of}
use Rattle.pgr_device.specs.declared.command.PrAnswer.TheVariants as given
use Rattle.request_queue.specs.Queue.{goes_again, oldest}
use Rattle.request_queue.specs.declared.request.Request.{Request}
use Rattle.rg_view.specs.States as states
use Rattle.seize.specs.Answers.{Answer}
use Rattle.status_report.specs.declared.entry.Entry.{Entry}
use Rattle.status_report.specs.declared.entry.Entry.TheVariants as entry
use Rattle.wire.specs.declared.message.Body.{Body}
use Rattle.wire.specs.declared.message.Body.TheVariants as body
use Rattle.node_model.specs.Attempts.{adopted_line, adopted_lines, adopted_of, adopted_on, ended_entry, is_adopted}
use Rattle.node_model.specs.Configurations.{configured_at, in_force}
use Rattle.node_model.specs.Entries.{unknown_line, unknown_lines}
use Rattle.node_model.specs.Presidents.{sent_to}
use Rattle.node_model.specs.Seats.{coordinator_of}
use Rattle.node_model.specs.Ticks.{heartbeat_of, heartbeats_to, later, ticked_output}
use Rattle.node_model.specs.Updates.{request_again, request_again_by, request_again_to}
use Rattle.node_model.specs.declared.cluster.Cluster.{Cluster}
use Rattle.node_model.specs.declared.node.UpNode.{UpNode}
use Rattle.node_model.specs.declared.output.Output.{Output}
use Rattle.node_model.specs.declared.output.Output.TheVariants.{Sends, Tells}
use Rattle.node_model.specs.declared.presidency.Presidency.{Presidency}
use Rattle.refinement.specs.Doings.{adopted_by, superseded_lines, write_lines}
use Rattle.refinement.specs.Guards.{TellNothing, TellsNothing}
use Rattle.run_history.specs.Marks.{AreMinor, IsMinor}
use Rattle.refinement.specs.Worlds.{AllFit}
use Rattle.run_history.specs.Scenes.{Scene, passing, telling}
use Rattle.history.specs.Records.{record_of}
use Rattle.run_messages.specs.records.Answers.{IsOrdinary}
use Rattle.run_messages.proofs.records.Sends.{AllStill}
use Rattle.run_messages.proofs.records.Still.{IsStill, IsStillAttempt, still_so}

-- lines alone
abbrev pub AreStillLines : List Output → Type 0
AreStillLines [] = Unit {0}
AreStillLines (Tells e ∷ os) = IsStill e × AreStillLines os
AreStillLines (Sends to b ∷ os) = ⊥

pub still_lines : (n : ℕ) (os : List Output) → AreStillLines os → AllStill n os
still_lines n [] h = tt
still_lines n (Tells e ∷ os) h = (h.0, still_lines n os h.1)
still_lines n (Sends to b ∷ os) h = absurd h

pub lines_record : (n : ℕ) (os : List Output) (s : Scene) → AreStillLines os → record_of n (passing n os s).moments ≡ record_of n s.moments
lines_record n [] s h = refl
lines_record n (Tells e ∷ os) s h = lines_record n os (telling e s) h.1 ∙ (still_so s.moments e h.0).still.record_so n
lines_record n (Sends to b ∷ os) s h = absurd h

-- and messages
abbrev pub Ordinary : List Output → Type 0
Ordinary [] = Unit {0}
Ordinary (Tells e ∷ os) = IsStill e × Ordinary os
Ordinary (Sends to b ∷ os) = IsOrdinary b × Ordinary os

pub ordinary_still : (n : ℕ) (os : List Output) → AllFit n os → Ordinary os → AllStill n os
ordinary_still n [] fits h = tt
ordinary_still n (Tells e ∷ os) fits h = (h.0, ordinary_still n os fits h.1)
ordinary_still n (Sends to b ∷ os) fits h = (h.0, fits.1, ordinary_still n os fits.2 h.1)

pub lines_ordinary : (os : List Output) → AreStillLines os → Ordinary os
lines_ordinary [] h = tt
lines_ordinary (Tells e ∷ os) h = (h.0, lines_ordinary os h.1)
lines_ordinary (Sends to b ∷ os) h = absurd h

pub still_append : (os more : List Output) → AreStillLines os → AreStillLines more → AreStillLines (os ++ more)
still_append [] more h k = k
still_append (Tells e ∷ os) more h k = (h.0, still_append os more h.1 k)
still_append (Sends to b ∷ os) more h k = absurd h

still_each : {X : Type 0} → (f : X → List Output) (xs : List X) → ((x : X) → AreStillLines (f x)) → AreStillLines (flat_map f xs)
still_each f [] h = tt
still_each f (x ∷ xs) h = still_append (f x) (flat_map f xs) (h x) (still_each f xs h)

pub superseded_still : (p : ℕ) (o : Option AttemptState) → AreStillLines (superseded_lines p o)
superseded_still p None = tt
superseded_still p (Some a) = (tt, tt)

pub unknown_still : (n : ℕ) (rs : List Request) → AreStillLines (unknown_lines n rs)
unknown_still n [] = tt
unknown_still n (r ∷ rs) = still_append (unknown_line n r) (unknown_lines n rs) (if_either AreStillLines r.told _ [] (tt, tt) tt) (unknown_still n rs)

pub adopted_still : (c : Cluster) (a : AttemptState) (y : UpNode) → AreStillLines (adopted_by c a y)
unfolding adopted_lines
adopted_still c a y = by_presidency y.presidency
  where
    by_presidency : (o : Option Presidency) → AreStillLines (adopted_of a.plan.epoch (in_force c y) o)
    by_presidency None = tt
    by_presidency (Some p) =
        still_each (adopted_on a.plan.epoch p.groups.view (in_force c y).groups.resources) (numbers_to p.groups.view.members most_nodes)
        (λ m. still_each (λ r. adopted_line a.plan.epoch m r.0 (states.state_of p.groups.view.resources r.0 m)) (in_force c y).groups.resources
        (λ r. if_either AreStillLines (is_adopted (states.state_of p.groups.view.resources r.0 m)) _ [] (tt, tt) tt))

pub ended_still : (e : ℕ) (end : AttemptEnd) → IsStillAttempt (ended_entry e end)
ended_still e (end.Votes have need lacking) = tt
ended_still e (end.Superseded p) = tt
ended_still e (end.Silent n) = tt
ended_still e (end.Foreign n) = tt
ended_still e (end.Excluded n) = tt

pub write_still : (n : ℕ) (x : UpNode) (d value : ℕ) (a : Answer) → AreStillLines (write_lines n x d value a)
write_still n x d value (Ok given.Good) = (tt, tt)
write_still n x d value (Ok given.Conflict) = (tt, tt)
write_still n x d value (Ok given.InvalidRelease) = (tt, tt)
write_still n x d value (Ok given.NoPath) = (tt, tt)
write_still n x d value (Ok (given.Keys keys)) = (tt, tt)
write_still n x d value (Ok (given.Holder holder)) = (tt, tt)
write_still n x d value (Ok (given.Word word)) = (tt, tt)
write_still n x d value (Ok (given.Value v)) = (tt, tt)
write_still n x d value (Ok (given.Miscompare word)) = (tt, tt)
write_still n x d value (Err e) = (tt, tt)

-- ---- messages

pub ordinary_append : (os more : List Output) → Ordinary os → Ordinary more → Ordinary (os ++ more)
ordinary_append [] more h k = k
ordinary_append (Tells e ∷ os) more h k = (h.0, ordinary_append os more h.1 k)
ordinary_append (Sends to b ∷ os) more h k = (h.0, ordinary_append os more h.1 k)

each_ordinary : (b : Body) (ns : List ℕ) → IsOrdinary b → Ordinary (map (λ k. Sends k b) ns)
each_ordinary b [] h = tt
each_ordinary b (k ∷ ns) h = (h, each_ordinary b ns h)

pub spread_ordinary : (receivers : ℕ) (b : Body) → IsOrdinary b → Ordinary (sent_to receivers b)
unfolding sent_to
spread_ordinary receivers b h = each_ordinary b (numbers_to receivers most_nodes) h

beats_ordinary : (x : UpNode) (ns : List ℕ) → Ordinary (map (λ k. Sends k (heartbeat_of x)) ns)
beats_ordinary x [] = tt
beats_ordinary x (k ∷ ns) = (tt, beats_ordinary x ns)

heartbeats_ordinary : (x : UpNode) (receivers : ℕ) → Ordinary (heartbeats_to x receivers)
unfolding heartbeats_to
heartbeats_ordinary x receivers = beats_ordinary x (numbers_to receivers most_nodes)

request_ordinary : (x : UpNode) (r : Option Request) (o : Option ℕ) → Ordinary (request_again_to x r o)
request_ordinary x (Some r) (Some president) = (tt, tt)
request_ordinary x None o = tt
request_ordinary x (Some r) None = tt

request_by : (x : UpNode) (o : Option Presidency) → Ordinary (request_again_by x o)
request_by x None =
    if_either (λ os. Ordinary os) (goes_again x.requests) (request_again_to x (oldest x.requests) (coordinator_of x)) [] (request_ordinary x (oldest x.requests) (coordinator_of x)) tt
request_by x (Some p) = tt

pub tick_ordinary : (c : Cluster) (x : UpNode) → Ordinary (ticked_output c x (later c x))
tick_ordinary c x =
    let beats : List Output = heartbeats_to (later c x) (receivers_of (later c x).beats (configured_at c (later c x))) in
    ordinary_append beats (request_again x) (heartbeats_ordinary (later c x) (receivers_of (later c x).beats (configured_at c (later c x)))) (request_by x x.presidency)

minor_still : (e : Entry) → IsMinor e → IsStill e
minor_still (entry.Command e) h = tt
minor_still (entry.Call e) h = tt
minor_still (entry.Status e) h = tt
minor_still (entry.Address e) h = tt
minor_still (entry.Answered e) h = absurd h
minor_still entry.Powered h = absurd h
minor_still (entry.Node n e) h = absurd h
minor_still (entry.Packet e) h = absurd h
minor_still (entry.Device e) h = absurd h
minor_still (entry.Attempt e) h = absurd h
minor_still (entry.Start e) h = absurd h
minor_still (entry.Update e) h = absurd h
minor_still (entry.Schedule e) h = absurd h

nothing_ordinary : (to : ℕ) (b : Body) → TellsNothing (Sends to b) → IsOrdinary b
nothing_ordinary to (body.Request p number text) h = tt
nothing_ordinary to (body.Answer p number text) h = tt
nothing_ordinary to (body.Order o) h = tt
nothing_ordinary to (body.Promise e newest members valid flagged committed pending) h = absurd h
nothing_ordinary to (body.Heartbeat promised session is_one) h = absurd h
nothing_ordinary to (body.Collect e members) h = absurd h
nothing_ordinary to (body.Nack e promised) h = absurd h
nothing_ordinary to (body.SeizeQuorum e members d) h = absurd h
nothing_ordinary to (body.SeizeData e members d) h = absurd h
nothing_ordinary to (body.Seized e d outcome) h = absurd h
nothing_ordinary to (body.Install j) h = absurd h
nothing_ordinary to (body.Ready e joined report) h = absurd h
nothing_ordinary to (body.Start e) h = absurd h
nothing_ordinary to (body.Prepare e place text) h = absurd h
nothing_ordinary to (body.Prepared e place) h = absurd h
nothing_ordinary to (body.Commit e place) h = absurd h
nothing_ordinary to (body.Done e number outcome) h = absurd h
nothing_ordinary to (body.Excluded e newest) h = absurd h

pub minor_ordinary : (os : List Output) → AreMinor os → TellNothing os → Ordinary os
minor_ordinary [] h k = tt
minor_ordinary (Tells e ∷ os) h k = (minor_still e h.0, minor_ordinary os h.1 k.1)
minor_ordinary (Sends to b ∷ os) h k = (nothing_ordinary to b k.0, minor_ordinary os h k.1)
