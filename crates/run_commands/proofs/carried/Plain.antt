-- Which outputs of a node say nothing of what a node asked, and of what was proposed: for all nodes alike.
use Rattle.std.specs.Prelude.{ℕ, ◌+◌, List, [], ◌∷◌, Option, None, Some, Ok}
use Rattle.std.specs.List.{AllByRecursion}
use Rattle.ccr_tables.specs.State.{ConfigState}
use Rattle.cl_base.specs.Limits.{most_nodes}
use Rattle.cl_base.specs.Numbers.{numbers_to}
use Rattle.cmm_attempt.specs.Attempts.{AttemptState}
use Rattle.cmm_attempt.specs.declared.step.AttemptEnd.{AttemptEnd}
use Rattle.cmm_attempt.specs.declared.step.AttemptEnd.TheVariants as end
use Rattle.cmm_attempt.proofs.Basics.{if_either}
use Rattle.heartbeats.specs.Views.{receivers_of}
use Rattle.node_model.specs.Attempts.{adopted_line, adopted_lines, adopted_of, adopted_on, base_lines, ended_entry, is_adopted}
use Rattle.node_model.specs.Configurations.{configured_at}
use Rattle.node_model.specs.declared.cluster.Cluster.{Cluster}
use Rattle.node_model.specs.declared.node.UpNode.{UpNode}
use Rattle.node_model.specs.declared.output.Output.{Output}
use Rattle.node_model.specs.declared.output.Output.TheVariants.{Sends, Tells}
use Rattle.node_model.specs.declared.presidency.Presidency.{Presidency}
use Rattle.node_model.specs.Entries.{unknown_line, unknown_lines}
use Rattle.node_model.specs.Presidents.{sent_to}
use Rattle.node_model.specs.Seats.{coordinator_of}
use Rattle.node_model.specs.Ticks.{heartbeat_of, heartbeats_to, later, ticked_output}
use Rattle.node_model.specs.Updates.{request_again, request_again_by, request_again_to}
use Rattle.pgr_device.specs.declared.command.PrAnswer.TheVariants as given
use Rattle.refinement.specs.Doings.{Change, first_lines, superseded_lines, write_lines}
use Rattle.refinement.specs.Doings.Change.{Acks, Admits, Commits, Counts, Distrusts, Installs, Leads, Prepares, Promises, Proposes, Sits, Starts}
use Rattle.request_queue.specs.Queue as queue
use Rattle.request_queue.specs.declared.request.Request.{Request}
use Rattle.rg_props.specs.declared.group.Resource.{Resource}
use Rattle.rg_view.specs.States as states
use Rattle.rg_view.specs.declared.states.ResourceAt.{ResourceAt}
use Rattle.rg_view.specs.declared.view.GroupView.{GroupView}
use Rattle.run_history.proofs.Lists.{both, mapped, of_each}
use Rattle.run_history.proofs.Ordinary.{GivesAside, IsAside}
use Rattle.seize.specs.Answers.{Answer}
use Rattle.status_report.specs.declared.entry.Entry.{Entry}
use Rattle.status_report.specs.declared.entry.Entry.TheVariants as entry
use Rattle.wire.specs.declared.message.Body.{Body}
use Rattle.status_report.specs.declared.command_entry.CommandEntry.TheVariants as command
use Rattle.status_report.specs.declared.update_entry.UpdateEntry.TheVariants as update
use Rattle.status_report.specs.declared.node_entry.NodeEntry.TheVariants as note
use Rattle.cmm_attempt.specs.Calls.{turn}
use Rattle.node_model.specs.Attempts.{starting_as}
use Rattle.ccr_commit.specs.Entries.{all_committed}
use Rattle.node_model.specs.Configurations.{in_force}
use Rattle.node_model.specs.declared.input.Input.{Input}
use Rattle.refinement.specs.Doings.{last_lines, start_lines, adopted_by}
use Rattle.run_commands.specs.carried.Guards.{Command, OutputAsk}
use Rattle.run_commands.proofs.carried.Lines.{AreApart, IsApart}

-- neither a boot nor a command, nor an update that is proposed, nor of a packet
abbrev pub IsPlain : Entry → Type 0
IsPlain (entry.Node m note.Up) = ⊥
IsPlain (entry.Command (command.Asked m q)) = ⊥
IsPlain (entry.Update (update.Proposed e v words)) = ⊥
IsPlain (entry.Packet e) = ⊥
IsPlain _ = Unit {0}

abbrev pub IsPlainOutput : Output → Type 0
IsPlainOutput (Tells e) = IsPlain e
IsPlainOutput (Sends to b) = Unit {0}

abbrev pub ArePlain : List Output → Type 0
ArePlain os = AllByRecursion IsPlainOutput os

plain_apart : (k : ℕ) (e : Entry) → IsPlain e → IsApart k e
plain_apart k (entry.Node m note.Up) h = absurd h
plain_apart k (entry.Node m note.Ticked) h = tt
plain_apart k (entry.Node m note.Saved) h = tt
plain_apart k (entry.Node m (note.Down why)) h = tt
plain_apart k (entry.Node m (note.Member e)) h = tt
plain_apart k (entry.Node m (note.Installed e)) h = tt
plain_apart k (entry.Command (command.Asked m q)) h = absurd h
plain_apart k (entry.Command (command.Answered m q reply)) h = tt
plain_apart k (entry.Update (update.Proposed e v words)) h = absurd h
plain_apart k (entry.Update (update.Acknowledged e v words)) h = tt
plain_apart k (entry.Packet e) h = absurd h
plain_apart k _ h = tt

pub plains_apart : (k : ℕ) (os : List Output) → ArePlain os → AreApart k os
plains_apart k [] h = tt
plains_apart k (Tells e ∷ os) h = (plain_apart k e h.0, plains_apart k os h.1)
plains_apart k (Sends to b ∷ os) h = (tt, plains_apart k os h.1)

-- ---- lists

aside_plain : (me : ℕ) (i : Input) (o : Option Command) (h : Option ℕ) (x : UpNode) (e : Entry) → IsAside e → OutputAsk me i o h x (Tells e) → IsPlain e
aside_plain me i o h x (entry.Command (command.Asked m q)) a b = absurd b
aside_plain me i o h x (entry.Command (command.Answered m q reply)) a b = tt
aside_plain me i o h x (entry.Status e) a b = tt
aside_plain me i o h x (entry.Call e) a b = tt
aside_plain me i o h x (entry.Address e) a b = tt
aside_plain me i o h x _ a b = absurd a

pub given_plain : (me : ℕ) (i : Input) (o : Option Command) (h : Option ℕ) (x : UpNode) (os : List Output) → AllByRecursion GivesAside os → AllByRecursion (OutputAsk me i o h x) os → ArePlain os
given_plain me i o h x [] a b = tt
given_plain me i o h x (Tells e ∷ os) a b = (aside_plain me i o h x e a.0 b.0, given_plain me i o h x os a.1 b.1)
given_plain me i o h x (Sends to c ∷ os) a b = (tt, given_plain me i o h x os a.1 b.1)

superseded_plain : (p : ℕ) (o : Option AttemptState) → ArePlain (superseded_lines p o)
superseded_plain p None = tt
superseded_plain p (Some a) = (tt, tt)

unknown_plain : (me : ℕ) (rs : List Request) → ArePlain (unknown_lines me rs)
unknown_plain me [] = tt
unknown_plain me (r ∷ rs) = both IsPlainOutput (unknown_line me r) (unknown_lines me rs) (if_either ArePlain r.told _ [] (tt, tt) tt) (unknown_plain me rs)

base_plain : (e before : ℕ) (texts : List (List ℕ)) → ArePlain (base_lines e before texts)
base_plain e before [] = tt
base_plain e before (text ∷ texts) = (tt, base_plain e (before + 1) texts)

line_plain : (e n : ℕ) (r : List ℕ) (s : ResourceAt) → ArePlain (adopted_line e n r s)
line_plain e n r s = if_either ArePlain (is_adopted s) _ [] (tt, tt) tt

lines_plain : (e : ℕ) (v : GroupView) (resources : List (List ℕ × Resource)) → ArePlain (adopted_lines e v resources)
unfolding adopted_lines
lines_plain e v resources =
    of_each IsPlainOutput (adopted_on e v resources) (numbers_to v.members most_nodes)
    (λ n. of_each IsPlainOutput (λ x. adopted_line e n x.0 (states.state_of v.resources x.0 n)) resources (λ x. line_plain e n x.0 (states.state_of v.resources x.0 n)))

adopted_plain : (e : ℕ) (s : ConfigState) (o : Option Presidency) → ArePlain (adopted_of e s o)
adopted_plain e s None = tt
adopted_plain e s (Some p) = lines_plain e p.groups.view s.groups.resources

pub ended_plain : (e : ℕ) (ended : AttemptEnd) → IsPlain (entry.Attempt (ended_entry e ended))
ended_plain e (end.Votes have need lacking) = tt
ended_plain e (end.Superseded p) = tt
ended_plain e (end.Silent n) = tt
ended_plain e (end.Foreign n) = tt
ended_plain e (end.Excluded n) = tt

pub write_plain : (me : ℕ) (x : UpNode) (d value : ℕ) (a : Answer) → ArePlain (write_lines me x d value a)
write_plain me x d value (Ok given.Good) = (tt, tt)
write_plain me x d value (Ok given.Conflict) = (tt, tt)
write_plain me x d value _ = (tt, tt)

pub spread_plain : (receivers : ℕ) (b : Body) → ArePlain (sent_to receivers b)
unfolding sent_to
spread_plain receivers b = mapped IsPlainOutput (λ n. Sends n b) (numbers_to receivers most_nodes) (λ n. tt)

again_to_plain : (x : UpNode) (r : Option Request) (o : Option ℕ) → ArePlain (request_again_to x r o)
again_to_plain x (Some r) (Some president) = (tt, tt)
again_to_plain x None president = tt
again_to_plain x (Some r) None = tt

again_by_plain : (x : UpNode) (o : Option Presidency) → ArePlain (request_again_by x o)
again_by_plain x None =
    if_either ArePlain (queue.goes_again x.requests) (request_again_to x (queue.oldest x.requests) (coordinator_of x)) [] (again_to_plain x (queue.oldest x.requests) (coordinator_of x)) tt
again_by_plain x (Some p) = tt

beats_plain : (x : UpNode) (receivers : ℕ) → ArePlain (heartbeats_to x receivers)
unfolding heartbeats_to
beats_plain x receivers = mapped IsPlainOutput (λ n. Sends n (heartbeat_of x)) (numbers_to receivers most_nodes) (λ n. tt)

pub ticked_plain : (c : Cluster) (x : UpNode) → ArePlain (ticked_output c x (later c x))
ticked_plain c x =
    both IsPlainOutput (heartbeats_to (later c x) (receivers_of (later c x).beats (configured_at c (later c x)))) (request_again x)
    (beats_plain (later c x) (receivers_of (later c x).beats (configured_at c (later c x)))) (again_by_plain x x.presidency)

-- ---- changes

pub last_plain : (c : Cluster) (me : ℕ) (x : UpNode) (change : Change) → ArePlain (last_lines c me x change)
last_plain c me x (Promises p) = both IsPlainOutput (superseded_lines p x.attempt) (unknown_lines me x.requests.waiting) (superseded_plain p x.attempt) (unknown_plain me x.requests.waiting)
last_plain c me x (Leads p members) = (tt, unknown_plain me x.requests.waiting)
last_plain c me x (Counts a k s i) = (tt, tt)
last_plain c me x (Installs s i) = (tt, tt)
last_plain c me x (Starts a k s) =
    let t : AttemptState = (turn a k).after in
    let y : UpNode = starting_as c me x t s in
    both IsPlainOutput (start_lines t s) _ (tt, base_plain t.plan.epoch 0 (all_committed s.saved.entries).committed)
    (both IsPlainOutput (adopted_by c t y) _ (adopted_plain t.plan.epoch (in_force c y) y.presidency) (tt, tt))
last_plain c me x (Sits s e) = (tt, tt)
last_plain c me x (Distrusts d) = tt
last_plain c me x (Admits at command a d) = tt
last_plain c me x (Proposes s p text) = tt
last_plain c me x (Acks s p q left text) = (tt, tt)
last_plain c me x (Prepares s text) = tt
last_plain c me x (Commits s) = tt

-- an update that is proposed has its line before the save
abbrev pub IsSilent : Change → Type 0
IsSilent (Proposes s p text) = ⊥
IsSilent _ = Unit {0}

pub first_plain : (me : ℕ) (change : Change) → IsSilent change → ArePlain (first_lines me change)
first_plain me (Admits at command a d) h = (tt, tt)
first_plain me (Proposes s p text) h = absurd h
first_plain me (Promises p) h = tt
first_plain me (Leads p members) h = tt
first_plain me (Counts a k s i) h = tt
first_plain me (Installs s i) h = tt
first_plain me (Starts a k s) h = tt
first_plain me (Sits s e) h = tt
first_plain me (Distrusts d) h = tt
first_plain me (Acks s p q left text) h = tt
first_plain me (Prepares s text) h = tt
first_plain me (Commits s) h = tt
