-- Most of what a node gives tells of no panic for an exclusion, and is no Excluded.
use Rattle.std.specs.Prelude.{ℕ, ◌+◌, ◌++◌, List, [], ◌∷◌, Option, None, Some, Ok}
use Rattle.std.specs.List.{AllByRecursion}
use Rattle.ccr_commit.specs.Entries.{all_committed}
use Rattle.ccr_tables.specs.State.{ConfigState}
use Rattle.cl_base.specs.Limits.{most_nodes}
use Rattle.cl_base.specs.declared.panic.Panic.TheVariants as panic
use Rattle.cl_base.specs.Numbers.{numbers_to}
use Rattle.cmm_attempt.proofs.Basics.{if_either}
use Rattle.cmm_attempt.specs.Attempts.{AttemptState}
use Rattle.cmm_attempt.specs.Calls.{turn}
use Rattle.node_model.specs.Attempts.{adopted_line, adopted_lines, adopted_of, adopted_on, base_lines, is_adopted, starting_as}
use Rattle.node_model.specs.Configurations.{in_force}
use Rattle.node_model.specs.Entries.{unknown_line, unknown_lines}
use Rattle.node_model.specs.Presidents.{sent_to}
use Rattle.node_model.specs.Seats.{coordinator_of}
use Rattle.node_model.specs.Ticks.{heartbeat_of, heartbeats_to, later, ticked_output}
use Rattle.node_model.specs.Updates.{request_again, request_again_by, request_again_to}
use Rattle.node_model.specs.declared.cluster.Cluster.{Cluster}
use Rattle.node_model.specs.declared.node.UpNode.{UpNode}
use Rattle.node_model.specs.declared.output.Output.{Output}
use Rattle.node_model.specs.declared.output.Output.TheVariants.{Sends, Tells}
use Rattle.node_model.specs.declared.presidency.Presidency.{Presidency}
use Rattle.pgr_device.specs.declared.command.PrAnswer.TheVariants as given
use Rattle.refinement.specs.Doings.{Act, Change, adopted_by, first_lines, gone_line, last_lines, said, saved_lines, superseded_lines, write_lines}
use Rattle.refinement.specs.Doings.Act.{Accepts, Dates, Ends, Gives, Goes_on, Hears, Makes, Minds, Notes, Queues, Spreads, Stores, Takes, Ticks, Waits, Works, Writes}
use Rattle.refinement.specs.Doings.Change.{Acks, Admits, Commits, Counts, Distrusts, Installs, Leads, Prepares, Promises, Proposes, Sits, Starts}
use Rattle.refinement.specs.Guards.{MayAct, TellNothing}
use Rattle.refinement.specs.Ties.{Delivered}
use Rattle.request_queue.specs.Queue as queue
use Rattle.request_queue.specs.declared.request.Request.{Request}
use Rattle.rg_props.specs.declared.group.Resource.{Resource}
use Rattle.rg_view.specs.States as states
use Rattle.rg_view.specs.declared.states.ResourceAt.{ResourceAt}
use Rattle.rg_view.specs.declared.view.GroupView.{GroupView}
use Rattle.run_history.proofs.Lists.{both, mapped, of_each}
use Rattle.run_history.specs.Marks.{ActSo, AreMinor, IsMinor}
use Rattle.run_messages.specs.records.Losses.{IsLoss}
use Rattle.seize.specs.Answers.{Answer}
use Rattle.status_report.specs.declared.entry.Entry.{Entry}
use Rattle.status_report.specs.declared.entry.Entry.TheVariants as entry
use Rattle.status_report.specs.declared.node_entry.DownCause.{DownCause}
use Rattle.status_report.specs.declared.node_entry.DownCause.TheVariants as cause
use Rattle.status_report.specs.declared.node_entry.NodeEntry.TheVariants as note
use Rattle.wire.specs.declared.message.Body.{Body}
use Rattle.wire.specs.declared.message.Body.TheVariants as body
use Rattle.run_outcomes.specs.panics.Notices.{FreeAct, FreeFall, NoNotice}

abbrev pub IsCalmLine : Entry → Type 0
IsCalmLine (entry.Node m (note.Down why)) = FreeFall why
IsCalmLine _ = Unit {0}

abbrev pub IsCalm : Output → Type 0
IsCalm (Tells e) = IsCalmLine e
IsCalm (Sends to b) = NoNotice b

abbrev pub AreCalm : List Output → Type 0
AreCalm os = AllByRecursion IsCalm os

-- ---- lines

minor_calm : (e : Entry) → IsMinor e → IsCalmLine e
minor_calm (entry.Node m e) h = absurd h
minor_calm (entry.Attempt e) h = absurd h
minor_calm _ h = tt

given_calm : (os : List Output) → AreMinor os → TellNothing os → AreCalm os
given_calm [] h k = tt
given_calm (Tells e ∷ os) h k = (minor_calm e h.0, given_calm os h.1 k.1)
given_calm (Sends to (body.Request p number text) ∷ os) h k = (tt, given_calm os h k.1)
given_calm (Sends to (body.Answer p number text) ∷ os) h k = (tt, given_calm os h k.1)
given_calm (Sends to (body.Order o) ∷ os) h k = (tt, given_calm os h k.1)
given_calm (Sends to b ∷ os) h k = absurd k.0

superseded_calm : (p : ℕ) (o : Option AttemptState) → AreCalm (superseded_lines p o)
superseded_calm p None = tt
superseded_calm p (Some a) = (tt, tt)

unknown_calm : (me : ℕ) (rs : List Request) → AreCalm (unknown_lines me rs)
unknown_calm me [] = tt
unknown_calm me (r ∷ rs) = both IsCalm (unknown_line me r) (unknown_lines me rs) (if_either AreCalm r.told _ [] (tt, tt) tt) (unknown_calm me rs)

base_calm : (e before : ℕ) (texts : List (List ℕ)) → AreCalm (base_lines e before texts)
base_calm e before [] = tt
base_calm e before (text ∷ texts) = (tt, base_calm e (before + 1) texts)

line_calm : (e n : ℕ) (r : List ℕ) (s : ResourceAt) → AreCalm (adopted_line e n r s)
line_calm e n r s = if_either AreCalm (is_adopted s) _ [] (tt, tt) tt

lines_calm : (e : ℕ) (v : GroupView) (resources : List (List ℕ × Resource)) → AreCalm (adopted_lines e v resources)
unfolding adopted_lines
lines_calm e v resources =
    of_each IsCalm (adopted_on e v resources) (numbers_to v.members most_nodes)
    (λ n. of_each IsCalm (λ x. adopted_line e n x.0 (states.state_of v.resources x.0 n)) resources (λ x. line_calm e n x.0 (states.state_of v.resources x.0 n)))

adopted_calm : (e : ℕ) (s : ConfigState) (o : Option Presidency) → AreCalm (adopted_of e s o)
adopted_calm e s None = tt
adopted_calm e s (Some p) = lines_calm e p.groups.view s.groups.resources

pub first_calm : (me : ℕ) (change : Change) → AreCalm (first_lines me change)
first_calm me (Admits at command a d) = (tt, tt)
first_calm me (Proposes s p text) = (tt, tt)
first_calm me _ = tt

last_calm : (c : Cluster) (me : ℕ) (x : UpNode) (change : Change) → AreCalm (last_lines c me x change)
last_calm c me x (Promises p) = both IsCalm (superseded_lines p x.attempt) (unknown_lines me x.requests.waiting) (superseded_calm p x.attempt) (unknown_calm me x.requests.waiting)
last_calm c me x (Leads p members) = (tt, unknown_calm me x.requests.waiting)
last_calm c me x (Counts a k s i) = (tt, tt)
last_calm c me x (Installs s i) = (tt, tt)
last_calm c me x (Starts a k s) =
    let after : AttemptState = (turn a k).after in
    let y : UpNode = starting_as c me x after s in (
      tt,
      both IsCalm (base_lines after.plan.epoch 0 (all_committed s.saved.entries).committed) _ (base_calm after.plan.epoch 0 (all_committed s.saved.entries).committed)
          (both IsCalm (adopted_by c after y) _ (adopted_calm after.plan.epoch (in_force c y) y.presidency) (tt, tt)),
    )
last_calm c me x (Sits s e) = (tt, tt)
last_calm c me x (Distrusts d) = tt
last_calm c me x (Admits at command a d) = tt
last_calm c me x (Proposes s p text) = tt
last_calm c me x (Acks s p q left text) = (tt, tt)
last_calm c me x (Prepares s text) = tt
last_calm c me x (Commits s) = tt

pub saved_calm : (c : Cluster) (n : ℕ) (x : UpNode) (change : Change) → AreCalm (first_lines n change ++ saved_lines c n x change)
saved_calm c n x change = both IsCalm (first_lines n change) (saved_lines c n x change) (first_calm n change) (tt, last_calm c n x change)

pub loss_free : (why : DownCause) → IsLoss why → FreeFall why
loss_free cause.Crash h = absurd h
loss_free cause.Stopped h = tt
loss_free (cause.Panic (panic.Excluded f)) h = absurd h
loss_free (cause.Panic p) h = tt

pub gone_calm : (n : ℕ) (change : Change) (why : DownCause) → IsLoss why → AreCalm (first_lines n change ++ gone_line n why)
gone_calm n change why loss = both IsCalm (first_lines n change) (gone_line n why) (first_calm n change) (loss_free why loss, tt)

write_calm : (me : ℕ) (x : UpNode) (d value : ℕ) (a : Answer) → AreCalm (write_lines me x d value a)
write_calm me x d value (Ok given.Good) = (tt, tt)
write_calm me x d value (Ok given.Conflict) = (tt, tt)
write_calm me x d value _ = (tt, tt)

-- ---- messages

spread_calm : (receivers : ℕ) (b : Body) → NoNotice b → AreCalm (sent_to receivers b)
unfolding sent_to
spread_calm receivers b h = mapped IsCalm (λ n. Sends n b) (numbers_to receivers most_nodes) (λ n. h)

again_to_calm : (x : UpNode) (r : Option Request) (o : Option ℕ) → AreCalm (request_again_to x r o)
again_to_calm x (Some r) (Some president) = (tt, tt)
again_to_calm x None president = tt
again_to_calm x (Some r) None = tt

again_calm : (x : UpNode) (o : Option Presidency) → AreCalm (request_again_by x o)
again_calm x None =
    if_either AreCalm (queue.goes_again x.requests) (request_again_to x (queue.oldest x.requests) (coordinator_of x)) [] (again_to_calm x (queue.oldest x.requests) (coordinator_of x)) tt
again_calm x (Some p) = tt

beats_calm : (x : UpNode) (receivers : ℕ) → AreCalm (heartbeats_to x receivers)
unfolding heartbeats_to
beats_calm x receivers = mapped IsCalm (λ n. Sends n (heartbeat_of x)) (numbers_to receivers most_nodes) (λ n. tt)

ticked_calm : (c : Cluster) (before x : UpNode) → AreCalm (ticked_output c before x)
ticked_calm c before x = both IsCalm (heartbeats_to x _) (request_again before) (beats_calm x _) (again_calm before before.presidency)

-- ---- acts

pub said_calm : (c : Cluster) (n : ℕ) (told : Delivered) (x : UpNode) (a : Act) → FreeAct a → ActSo a → MayAct c n told x a → AreCalm (said c n x a)
said_calm c n told x (Ends a why) free so may = (tt, tt)
said_calm c n told x (Writes to b) free so may = (free, tt)
said_calm c n told x (Makes change) free so may = both IsCalm (first_lines n change) (last_lines c n x change) (first_calm n change) (last_calm c n x change)
said_calm c n told x (Hears from b) free so may = tt
said_calm c n told x Ticks free so may = (tt, ticked_calm c x (later c x))
said_calm c n told x Waits free so may = tt
said_calm c n told x (Goes_on a k) free so may = tt
said_calm c n told x (Queues a d kind) free so may = tt
said_calm c n told x (Accepts kind e members d) free so may = tt
said_calm c n told x (Takes at command a) free so may = (tt, tt)
said_calm c n told x (Stores d value a) free so may = (tt, write_calm n x d value a)
said_calm c n told x (Gives os) free so may = given_calm os so may
said_calm c n told x (Spreads receivers b) free so may = spread_calm receivers b free
said_calm c n told x (Minds q p) free so may = tt
said_calm c n told x (Notes from place p) free so may = tt
said_calm c n told x (Dates now) free so may = tt
said_calm c n told x (Works w) free so may = tt
