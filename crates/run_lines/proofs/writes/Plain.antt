-- What small steps give says nothing of what the node has joined, but for the answers to its commands, its installs, and the messages of its attempt.
use Rattle.std.specs.Prelude.{ℕ, ◌+◌, List, [], ◌∷◌, Option, None, Some, Ok}
use Rattle.std.specs.List.{AllByRecursion}
use Rattle.ccr_commit.specs.Entries.{all_committed}
use Rattle.ccr_tables.specs.State.{ConfigState}
use Rattle.cl_base.specs.Limits.{most_nodes}
use Rattle.cl_base.specs.Numbers.{numbers_to}
use Rattle.cmm_attempt.proofs.Basics.{if_either}
use Rattle.cmm_attempt.specs.Attempts.{AttemptState}
use Rattle.cmm_attempt.specs.Calls.{turn}
use Rattle.node_model.specs.Attempts.{adopted_line, adopted_lines, adopted_of, adopted_on, base_lines, is_adopted, starting_as}
use Rattle.node_model.specs.Configurations.{in_force}
use Rattle.node_model.specs.Entries.{unknown_line, unknown_lines}
use Rattle.node_model.specs.Presidents.{sent_to}
use Rattle.node_model.specs.Seats.{coordinator_of}
use Rattle.node_model.specs.Ticks.{heartbeat_of, heartbeats_to, later, ticked_output}
use Rattle.node_model.specs.Updates.{request_again, request_again_by, request_again_to}
use Rattle.node_model.specs.declared.cluster.Cluster.{Cluster}
use Rattle.node_model.specs.declared.node.UpNode.{UpNode}
use Rattle.node_model.specs.declared.output.Output.{Output}
use Rattle.node_model.specs.declared.output.Output.TheVariants.{Sends, Tells}
use Rattle.node_model.specs.declared.presidency.Presidency.{Presidency}
use Rattle.pgr_device.specs.declared.command.PrAnswer.TheVariants as given
use Rattle.refinement.specs.Doings.{Act, Change, adopted_by, first_lines, last_lines, said, superseded_lines, write_lines}
use Rattle.refinement.specs.Doings.Act.{Accepts, Dates, Ends, Gives, Goes_on, Hears, Makes, Minds, Notes, Queues, Spreads, Stores, Takes, Ticks, Waits, Works, Writes}
use Rattle.refinement.specs.Doings.Change.{Acks, Admits, Commits, Counts, Distrusts, Installs, Leads, Prepares, Promises, Proposes, Sits, Starts}
use Rattle.refinement.specs.Guards.{TellNothing}
use Rattle.request_queue.specs.Queue as queue
use Rattle.request_queue.specs.declared.request.Request.{Request}
use Rattle.rg_props.specs.declared.group.Resource.{Resource}
use Rattle.rg_view.specs.States as states
use Rattle.rg_view.specs.declared.states.ResourceAt.{ResourceAt}
use Rattle.rg_view.specs.declared.view.GroupView.{GroupView}
use Rattle.run_history.proofs.Lists.{both, mapped, of_each}
use Rattle.run_history.specs.Marks.{AreMinor, IsMinor}
use Rattle.seize.specs.Answers.{Answer}
use Rattle.status_report.specs.declared.entry.Entry.{Entry}
use Rattle.status_report.specs.declared.entry.Entry.TheVariants as entry
use Rattle.wire.specs.declared.message.Body.{Body}
use Rattle.wire.specs.declared.message.Body.TheVariants as body
use Rattle.run_lines.specs.writes.Sites.{ArePlain, IsPlain, PlainEntry}

-- ---- lines

superseded_plain : (p : ℕ) (o : Option AttemptState) → ArePlain (superseded_lines p o)
superseded_plain p None = tt
superseded_plain p (Some a) = (tt, tt)

unknown_plain : (me : ℕ) (rs : List Request) → ArePlain (unknown_lines me rs)
unknown_plain me [] = tt
unknown_plain me (r ∷ rs) = both IsPlain (unknown_line me r) (unknown_lines me rs) (if_either ArePlain r.told _ [] (tt, tt) tt) (unknown_plain me rs)

base_plain : (e before : ℕ) (texts : List (List ℕ)) → ArePlain (base_lines e before texts)
base_plain e before [] = tt
base_plain e before (text ∷ texts) = (tt, base_plain e (before + 1) texts)

line_plain : (e n : ℕ) (r : List ℕ) (s : ResourceAt) → ArePlain (adopted_line e n r s)
line_plain e n r s = if_either ArePlain (is_adopted s) _ [] (tt, tt) tt

lines_plain : (e : ℕ) (v : GroupView) (resources : List (List ℕ × Resource)) → ArePlain (adopted_lines e v resources)
unfolding adopted_lines
lines_plain e v resources =
    of_each IsPlain (adopted_on e v resources) (numbers_to v.members most_nodes)
    (λ n. of_each IsPlain (λ x. adopted_line e n x.0 (states.state_of v.resources x.0 n)) resources (λ x. line_plain e n x.0 (states.state_of v.resources x.0 n)))

adopted_plain : (e : ℕ) (s : ConfigState) (o : Option Presidency) → ArePlain (adopted_of e s o)
adopted_plain e s None = tt
adopted_plain e s (Some p) = lines_plain e p.groups.view s.groups.resources

-- no answer is taken by it
abbrev pub NoAnswer : Change → Type 0
NoAnswer (Admits at command a d) = ⊥
NoAnswer change = Unit {0}

abbrev pub NoInstall : Change → Type 0
NoInstall (Counts a k s i) = ⊥
NoInstall (Installs s i) = ⊥
NoInstall change = Unit {0}

pub first_plain : (me : ℕ) (change : Change) → NoAnswer change → ArePlain (first_lines me change)
first_plain me (Admits at command a d) never = absurd never
first_plain me (Proposes s p text) never = (tt, tt)
first_plain me _ never = tt

pub last_plain : (c : Cluster) (me : ℕ) (x : UpNode) (change : Change) → NoInstall change → ArePlain (last_lines c me x change)
last_plain c me x (Promises p) never = both IsPlain (superseded_lines p x.attempt) (unknown_lines me x.requests.waiting) (superseded_plain p x.attempt) (unknown_plain me x.requests.waiting)
last_plain c me x (Leads p members) never = (tt, unknown_plain me x.requests.waiting)
last_plain c me x (Counts a k s i) never = absurd never
last_plain c me x (Installs s i) never = absurd never
last_plain c me x (Starts a k s) never =
    let after : AttemptState = (turn a k).after in
    let y : UpNode = starting_as c me x after s in (
      tt,
      both IsPlain (base_lines after.plan.epoch 0 (all_committed s.saved.entries).committed) _ (base_plain after.plan.epoch 0 (all_committed s.saved.entries).committed)
          (both IsPlain (adopted_by c after y) _ (adopted_plain after.plan.epoch (in_force c y) y.presidency) (tt, tt)),
    )
last_plain c me x (Sits s e) never = (tt, tt)
last_plain c me x (Distrusts d) never = tt
last_plain c me x (Admits at command a d) never = tt
last_plain c me x (Proposes s p text) never = tt
last_plain c me x (Acks s p q left text) never = (tt, tt)
last_plain c me x (Prepares s text) never = tt
last_plain c me x (Commits s) never = tt

write_plain : (me : ℕ) (x : UpNode) (d value : ℕ) (a : Answer) → ArePlain (write_lines me x d value a)
write_plain me x d value (Ok given.Good) = (tt, tt)
write_plain me x d value (Ok given.Conflict) = (tt, tt)
write_plain me x d value _ = (tt, tt)

-- ---- messages

again_to_plain : (x : UpNode) (r : Option Request) (o : Option ℕ) → ArePlain (request_again_to x r o)
again_to_plain x (Some r) (Some president) = (tt, tt)
again_to_plain x None president = tt
again_to_plain x (Some r) None = tt

again_plain : (x : UpNode) (o : Option Presidency) → ArePlain (request_again_by x o)
again_plain x None =
    if_either ArePlain (queue.goes_again x.requests) (request_again_to x (queue.oldest x.requests) (coordinator_of x)) [] (again_to_plain x (queue.oldest x.requests) (coordinator_of x)) tt
again_plain x (Some p) = tt

beats_plain : (x : UpNode) (receivers : ℕ) → ArePlain (heartbeats_to x receivers)
unfolding heartbeats_to
beats_plain x receivers = mapped IsPlain (λ n. Sends n (heartbeat_of x)) (numbers_to receivers most_nodes) (λ n. tt)

ticked_plain : (c : Cluster) (before x : UpNode) → ArePlain (ticked_output c before x)
ticked_plain c before x = both IsPlain (heartbeats_to x _) (request_again before) (beats_plain x _) (again_plain before before.presidency)

minor_plain : (e : Entry) → IsMinor e → PlainEntry e
minor_plain (entry.Command e) is = tt
minor_plain (entry.Call e) is = tt
minor_plain (entry.Status e) is = tt
minor_plain (entry.Address e) is = tt
minor_plain _ is = absurd is

given_plain : (os : List Output) → TellNothing os → AreMinor os → ArePlain os
given_plain [] h minor = tt
given_plain (Tells e ∷ os) h minor = (minor_plain e minor.0, given_plain os h.1 minor.1)
given_plain (Sends to (body.Request p number text) ∷ os) h minor = (tt, given_plain os h.1 minor)
given_plain (Sends to (body.Answer p number text) ∷ os) h minor = (tt, given_plain os h.1 minor)
given_plain (Sends to (body.Order o) ∷ os) h minor = (tt, given_plain os h.1 minor)
given_plain (Sends to b ∷ os) h minor = absurd h.0

pub spread_all : (P : Output → Type 0) (receivers : ℕ) (b : Body) → ((n : ℕ) → P (Sends n b)) → AllByRecursion P (sent_to receivers b)
unfolding sent_to
spread_all P receivers b all = mapped P (λ n. Sends n b) (numbers_to receivers most_nodes) all

-- ---- each act, but for an answer that is taken, and messages

abbrev pub SaysPlain : Act → Type 0
SaysPlain (Takes at command a) = ⊥
SaysPlain (Writes to b) = ⊥
SaysPlain (Spreads receivers b) = ⊥
SaysPlain (Makes change) = ⊥
SaysPlain (Gives os) = TellNothing os × AreMinor os
SaysPlain a = Unit {0}

pub act_plain : (c : Cluster) (n : ℕ) (x : UpNode) (a : Act) → SaysPlain a → ArePlain (said c n x a)
act_plain c n x (Hears from b) is = tt
act_plain c n x Ticks is = (tt, ticked_plain c x (later c x))
act_plain c n x Waits is = tt
act_plain c n x (Goes_on a k) is = tt
act_plain c n x (Ends a e) is = (tt, tt)
act_plain c n x (Queues a d kind) is = tt
act_plain c n x (Accepts kind e members d) is = tt
act_plain c n x (Takes at command a) is = absurd is
act_plain c n x (Stores d value a) is = (tt, write_plain n x d value a)
act_plain c n x (Writes to b) is = absurd is
act_plain c n x (Makes change) is = absurd is
act_plain c n x (Gives os) is = given_plain os is.0 is.1
act_plain c n x (Spreads receivers b) is = absurd is
act_plain c n x (Minds q p) is = tt
act_plain c n x (Notes from place p) is = tt
act_plain c n x (Dates now) is = tt
act_plain c n x (Works w) is = tt
