-- Most of what a node gives tells neither of what is installed nor of who is excluded, and it is no Promise.
use Rattle.std.specs.Prelude.{ℕ, ◌+◌, ◌++◌, List, [], ◌∷◌, Option, None, Some, Ok}
use Rattle.std.specs.List.{AllByRecursion}
use Rattle.ccr_commit.specs.Entries.{all_committed}
use Rattle.ccr_tables.specs.State.{ConfigState}
use Rattle.cl_base.specs.Limits.{most_nodes}
use Rattle.cl_base.specs.Numbers.{numbers_to}
use Rattle.cmm_attempt.proofs.Basics.{if_either}
use Rattle.cmm_attempt.specs.Attempts.{AttemptState}
use Rattle.cmm_attempt.specs.Calls.{turn}
use Rattle.node_model.specs.Attempts.{adopted_line, adopted_lines, adopted_of, adopted_on, base_lines, is_adopted, starting_as}
use Rattle.node_model.specs.Configurations.{in_force}
use Rattle.node_model.specs.Entries.{unknown_line, unknown_lines}
use Rattle.node_model.specs.Presidents.{sent_to}
use Rattle.node_model.specs.Seats.{coordinator_of}
use Rattle.node_model.specs.Ticks.{heartbeat_of, heartbeats_to, later, ticked_output}
use Rattle.node_model.specs.Updates.{request_again, request_again_by, request_again_to}
use Rattle.node_model.specs.declared.cluster.Cluster.{Cluster}
use Rattle.node_model.specs.declared.node.UpNode.{UpNode}
use Rattle.node_model.specs.declared.output.Output.{Output}
use Rattle.node_model.specs.declared.output.Output.TheVariants.{Sends, Tells}
use Rattle.node_model.specs.declared.presidency.Presidency.{Presidency}
use Rattle.pgr_device.specs.declared.command.PrAnswer.TheVariants as given
use Rattle.refinement.specs.Doings.{Act, Change, adopted_by, first_lines, gone_line, last_lines, said, saved_lines, superseded_lines, write_lines}
use Rattle.refinement.specs.Doings.Act.{Accepts, Dates, Ends, Gives, Goes_on, Hears, Makes, Minds, Notes, Queues, Spreads, Stores, Takes, Ticks, Waits, Works, Writes}
use Rattle.refinement.specs.Doings.Change.{Acks, Admits, Commits, Counts, Distrusts, Installs, Leads, Prepares, Promises, Proposes, Sits, Starts}
use Rattle.refinement.specs.Guards.{MayAct, TellNothing}
use Rattle.refinement.specs.Ties.{Delivered}
use Rattle.request_queue.specs.Queue as queue
use Rattle.request_queue.specs.declared.request.Request.{Request}
use Rattle.rg_props.specs.declared.group.Resource.{Resource}
use Rattle.rg_view.specs.States as states
use Rattle.rg_view.specs.declared.states.ResourceAt.{ResourceAt}
use Rattle.rg_view.specs.declared.view.GroupView.{GroupView}
use Rattle.run_history.proofs.Lists.{both, mapped, of_each}
use Rattle.run_history.specs.Marks.{ActSo, AreMinor, IsMinor}
use Rattle.run_messages.specs.records.Answers.{ActTold, IsOrdinary}
use Rattle.seize.specs.Answers.{Answer}
use Rattle.status_report.specs.declared.attempt_entry.AttemptEntry.TheVariants as attempt
use Rattle.status_report.specs.declared.entry.Entry.{Entry}
use Rattle.status_report.specs.declared.entry.Entry.TheVariants as entry
use Rattle.status_report.specs.declared.node_entry.DownCause.{DownCause}
use Rattle.status_report.specs.declared.node_entry.NodeEntry.TheVariants as note
use Rattle.wire.specs.declared.message.Body.{Body}
use Rattle.wire.specs.declared.message.Body.TheVariants as body

abbrev pub IsPlainLine : Entry → Type 0
IsPlainLine (entry.Node m (note.Installed e)) = ⊥
IsPlainLine (entry.Attempt (attempt.Excluded e m)) = ⊥
IsPlainLine _ = Unit {0}

abbrev pub NoPromise : Body → Type 0
NoPromise (body.Promise e newest members valid flagged committed pending) = ⊥
NoPromise _ = Unit {0}

abbrev pub IsPlain : Output → Type 0
IsPlain (Tells e) = IsPlainLine e
IsPlain (Sends to b) = NoPromise b

abbrev pub ArePlain : List Output → Type 0
ArePlain os = AllByRecursion IsPlain os

-- ---- lines

minor_plain : (e : Entry) → IsMinor e → IsPlainLine e
minor_plain (entry.Node m e) h = absurd h
minor_plain (entry.Attempt e) h = absurd h
minor_plain _ h = tt

given_plain : (os : List Output) → AreMinor os → TellNothing os → ArePlain os
given_plain [] h k = tt
given_plain (Tells e ∷ os) h k = (minor_plain e h.0, given_plain os h.1 k.1)
given_plain (Sends to (body.Request p number text) ∷ os) h k = (tt, given_plain os h k.1)
given_plain (Sends to (body.Answer p number text) ∷ os) h k = (tt, given_plain os h k.1)
given_plain (Sends to (body.Order o) ∷ os) h k = (tt, given_plain os h k.1)
given_plain (Sends to b ∷ os) h k = absurd k.0

superseded_plain : (p : ℕ) (o : Option AttemptState) → ArePlain (superseded_lines p o)
superseded_plain p None = tt
superseded_plain p (Some a) = (tt, tt)

unknown_plain : (me : ℕ) (rs : List Request) → ArePlain (unknown_lines me rs)
unknown_plain me [] = tt
unknown_plain me (r ∷ rs) = both IsPlain (unknown_line me r) (unknown_lines me rs) (if_either ArePlain r.told _ [] (tt, tt) tt) (unknown_plain me rs)

base_plain : (e before : ℕ) (texts : List (List ℕ)) → ArePlain (base_lines e before texts)
base_plain e before [] = tt
base_plain e before (text ∷ texts) = (tt, base_plain e (before + 1) texts)

line_plain : (e n : ℕ) (r : List ℕ) (s : ResourceAt) → ArePlain (adopted_line e n r s)
line_plain e n r s = if_either ArePlain (is_adopted s) _ [] (tt, tt) tt

lines_plain : (e : ℕ) (v : GroupView) (resources : List (List ℕ × Resource)) → ArePlain (adopted_lines e v resources)
unfolding adopted_lines
lines_plain e v resources =
    of_each IsPlain (adopted_on e v resources) (numbers_to v.members most_nodes)
    (λ n. of_each IsPlain (λ x. adopted_line e n x.0 (states.state_of v.resources x.0 n)) resources (λ x. line_plain e n x.0 (states.state_of v.resources x.0 n)))

adopted_plain : (e : ℕ) (s : ConfigState) (o : Option Presidency) → ArePlain (adopted_of e s o)
adopted_plain e s None = tt
adopted_plain e s (Some p) = lines_plain e p.groups.view s.groups.resources

pub first_plain : (me : ℕ) (change : Change) → ArePlain (first_lines me change)
first_plain me (Admits at command a d) = (tt, tt)
first_plain me (Proposes s p text) = (tt, tt)
first_plain me _ = tt

-- all changes but those that install
abbrev pub IsBare : Change → Type 0
IsBare (Counts a k s i) = ⊥
IsBare (Installs s i) = ⊥
IsBare _ = Unit {0}

last_plain : (c : Cluster) (me : ℕ) (x : UpNode) (change : Change) → IsBare change → ArePlain (last_lines c me x change)
last_plain c me x (Promises p) h = both IsPlain (superseded_lines p x.attempt) (unknown_lines me x.requests.waiting) (superseded_plain p x.attempt) (unknown_plain me x.requests.waiting)
last_plain c me x (Leads p members) h = (tt, unknown_plain me x.requests.waiting)
last_plain c me x (Counts a k s i) h = absurd h
last_plain c me x (Installs s i) h = absurd h
last_plain c me x (Starts a k s) h =
    let after : AttemptState = (turn a k).after in
    let y : UpNode = starting_as c me x after s in (
      tt,
      both IsPlain (base_lines after.plan.epoch 0 (all_committed s.saved.entries).committed) _ (base_plain after.plan.epoch 0 (all_committed s.saved.entries).committed)
          (both IsPlain (adopted_by c after y) _ (adopted_plain after.plan.epoch (in_force c y) y.presidency) (tt, tt)),
    )
last_plain c me x (Sits s e) h = (tt, tt)
last_plain c me x (Distrusts d) h = tt
last_plain c me x (Admits at command a d) h = tt
last_plain c me x (Proposes s p text) h = tt
last_plain c me x (Acks s p q left text) h = (tt, tt)
last_plain c me x (Prepares s text) h = tt
last_plain c me x (Commits s) h = tt

pub saved_plain : (c : Cluster) (n : ℕ) (x : UpNode) (change : Change) → IsBare change → ArePlain (first_lines n change ++ saved_lines c n x change)
saved_plain c n x change bare = both IsPlain (first_lines n change) (saved_lines c n x change) (first_plain n change) (tt, last_plain c n x change bare)

pub gone_plain : (n : ℕ) (change : Change) (why : DownCause) → ArePlain (first_lines n change ++ gone_line n why)
gone_plain n change why = both IsPlain (first_lines n change) (gone_line n why) (first_plain n change) (tt, tt)

write_plain : (me : ℕ) (x : UpNode) (d value : ℕ) (a : Answer) → ArePlain (write_lines me x d value a)
write_plain me x d value (Ok given.Good) = (tt, tt)
write_plain me x d value (Ok given.Conflict) = (tt, tt)
write_plain me x d value _ = (tt, tt)

-- ---- messages

ordinary_plain : (b : Body) → IsOrdinary b → NoPromise b
ordinary_plain (body.Promise e newest members valid flagged committed pending) h = absurd h
ordinary_plain _ h = tt

spread_plain : (receivers : ℕ) (b : Body) → NoPromise b → ArePlain (sent_to receivers b)
unfolding sent_to
spread_plain receivers b h = mapped IsPlain (λ n. Sends n b) (numbers_to receivers most_nodes) (λ n. h)

again_to_plain : (x : UpNode) (r : Option Request) (o : Option ℕ) → ArePlain (request_again_to x r o)
again_to_plain x (Some r) (Some president) = (tt, tt)
again_to_plain x None president = tt
again_to_plain x (Some r) None = tt

again_plain : (x : UpNode) (o : Option Presidency) → ArePlain (request_again_by x o)
again_plain x None =
    if_either ArePlain (queue.goes_again x.requests) (request_again_to x (queue.oldest x.requests) (coordinator_of x)) [] (again_to_plain x (queue.oldest x.requests) (coordinator_of x)) tt
again_plain x (Some p) = tt

beats_plain : (x : UpNode) (receivers : ℕ) → ArePlain (heartbeats_to x receivers)
unfolding heartbeats_to
beats_plain x receivers = mapped IsPlain (λ n. Sends n (heartbeat_of x)) (numbers_to receivers most_nodes) (λ n. tt)

ticked_plain : (c : Cluster) (before x : UpNode) → ArePlain (ticked_output c before x)
ticked_plain c before x = both IsPlain (heartbeats_to x _) (request_again before) (beats_plain x _) (again_plain before before.presidency)

-- ---- acts

-- a change that is made in memory alone installs nothing
abbrev pub IsMild : Act → Type 0
IsMild (Ends a why) = ⊥
IsMild (Writes to b) = ⊥
IsMild _ = Unit {0}

pub made_bare : (told : Delivered) (x : UpNode) (change : Change) → ActTold told x (Makes change) → IsBare change
made_bare told x (Counts a k s i) h = absurd h
made_bare told x (Installs s i) h = absurd h
made_bare told x _ h = tt

pub said_plain : (c : Cluster) (n : ℕ) (told : Delivered) (x : UpNode) (a : Act) → IsMild a → ActSo a → ActTold told x a → MayAct c n told x a → ArePlain (said c n x a)
said_plain c n told x (Ends a why) mild so tells may = absurd mild
said_plain c n told x (Writes to b) mild so tells may = absurd mild
said_plain c n told x (Makes change) mild so tells may =
    both IsPlain (first_lines n change) (last_lines c n x change) (first_plain n change) (last_plain c n x change (made_bare told x change tells))
said_plain c n told x (Hears from b) mild so tells may = tt
said_plain c n told x Ticks mild so tells may = (tt, ticked_plain c x (later c x))
said_plain c n told x Waits mild so tells may = tt
said_plain c n told x (Goes_on a k) mild so tells may = tt
said_plain c n told x (Queues a d kind) mild so tells may = tt
said_plain c n told x (Accepts kind e members d) mild so tells may = tt
said_plain c n told x (Takes at command a) mild so tells may = (tt, tt)
said_plain c n told x (Stores d value a) mild so tells may = (tt, write_plain n x d value a)
said_plain c n told x (Gives os) mild so tells may = given_plain os so may
said_plain c n told x (Spreads receivers b) mild so tells may = spread_plain receivers b (ordinary_plain b tells)
said_plain c n told x (Minds q p) mild so tells may = tt
said_plain c n told x (Notes from place p) mild so tells may = tt
said_plain c n told x (Dates now) mild so tells may = tt
said_plain c n told x (Works w) mild so tells may = tt
