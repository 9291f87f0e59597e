-- Most outputs of a node say nothing of whether it is up, or a member, and are no Start.
use Rattle.std.specs.Prelude.{ℕ, ◌+◌, List, [], ◌∷◌, Option, None, Some, Ok}
use Rattle.std.specs.List.{AllByRecursion}
use Rattle.ccr_tables.specs.State.{ConfigState}
use Rattle.cl_base.specs.Limits.{most_nodes}
use Rattle.cl_base.specs.Numbers.{numbers_to}
use Rattle.cmm_attempt.specs.Attempts.{AttemptState}
use Rattle.cmm_attempt.proofs.Basics.{if_either}
use Rattle.pgr_device.specs.declared.command.PrAnswer.TheVariants as given
use Rattle.request_queue.specs.Queue as queue
use Rattle.request_queue.specs.declared.request.Request.{Request}
use Rattle.rg_props.specs.declared.group.Resource.{Resource}
use Rattle.rg_view.specs.States as states
use Rattle.rg_view.specs.declared.states.ResourceAt.{ResourceAt}
use Rattle.rg_view.specs.declared.view.GroupView.{GroupView}
use Rattle.seize.specs.Answers.{Answer}
use Rattle.status_report.specs.declared.entry.Entry.{Entry}
use Rattle.status_report.specs.declared.entry.Entry.TheVariants as entry
use Rattle.status_report.specs.declared.node_entry.NodeEntry.TheVariants as note
use Rattle.wire.specs.declared.message.Body.{Body}
use Rattle.wire.specs.declared.message.Body.TheVariants as body
use Rattle.run_history.proofs.Lists.{both, mapped, of_each}
use Rattle.run_history.proofs.Ordinary.{GivesAside, IsAside}
use Rattle.node_model.specs.Attempts.{adopted_line, adopted_lines, adopted_of, adopted_on, base_lines, is_adopted}
use Rattle.node_model.specs.declared.cluster.Cluster.{Cluster}
use Rattle.node_model.specs.declared.node.UpNode.{UpNode}
use Rattle.node_model.specs.declared.output.Output.{Output}
use Rattle.node_model.specs.declared.output.Output.TheVariants.{Tells, Sends}
use Rattle.node_model.specs.declared.presidency.Presidency.{Presidency}
use Rattle.node_model.specs.Entries.{unknown_line, unknown_lines}
use Rattle.node_model.specs.Seats.{coordinator_of}
use Rattle.node_model.specs.Ticks.{heartbeat_of, heartbeats_to, ticked_output}
use Rattle.node_model.specs.Updates.{request_again, request_again_by, request_again_to}
use Rattle.refinement.specs.Doings.{Change, first_lines, superseded_lines, write_lines}
use Rattle.refinement.specs.Doings.Change.{Acks, Admits, Commits, Counts, Distrusts, Installs, Leads, Prepares, Promises, Proposes, Sits, Starts}
use Rattle.refinement.specs.Guards.{TellNothing}
use Rattle.run_history.specs.Members.{BodyLines}
use Rattle.run_history.proofs.Idle.{IdleFor, IdleOut}
use Rattle.history.specs.Moment.{Moment}

abbrev pub IsMinor : Entry → Type 0
IsMinor (entry.Node m note.Up) = ⊥
IsMinor (entry.Node m (note.Down why)) = ⊥
IsMinor (entry.Node m (note.Member e)) = ⊥
IsMinor _ = Unit {0}

abbrev pub NoStart : Body → Type 0
NoStart (body.Start e) = ⊥
NoStart _ = Unit {0}

abbrev pub MinorOut : Output → Type 0
MinorOut (Tells e) = IsMinor e
MinorOut (Sends to b) = NoStart b

abbrev pub AllMinor : List Output → Type 0
AllMinor os = AllByRecursion MinorOut os

-- They are idle for every node, and no Start is among them.

entry_idle : (k : ℕ) (e : Entry) → IsMinor e → IdleFor k e
entry_idle k (entry.Node m note.Up) h = absurd h
entry_idle k (entry.Node m (note.Down why)) h = absurd h
entry_idle k (entry.Node m (note.Member e)) h = absurd h
entry_idle k _ h = tt

pub minor_idle : (k : ℕ) (os : List Output) → AllMinor os → AllByRecursion (IdleOut k) os
minor_idle k [] h = tt
minor_idle k (Tells e ∷ os) h = (entry_idle k e h.0, minor_idle k os h.1)
minor_idle k (Sends to b ∷ os) h = (tt, minor_idle k os h.1)

-- what is sent is a Start only of a membership that has its line
abbrev pub OutLines : List Moment → Output → Type 0
OutLines ms (Tells e) = Unit {0}
OutLines ms (Sends to b) = BodyLines ms b

body_minor : (ms : List Moment) (b : Body) → NoStart b → BodyLines ms b
body_minor ms (body.Start e) h = absurd h
body_minor ms _ h = tt

pub minor_letters : (ms : List Moment) (os : List Output) → AllMinor os → AllByRecursion (OutLines ms) os
minor_letters ms [] h = tt
minor_letters ms (Tells e ∷ os) h = (tt, minor_letters ms os h.1)
minor_letters ms (Sends to b ∷ os) h = (body_minor ms b h.0, minor_letters ms os h.1)

-- Which they are.

aside_minor : (e : Entry) → IsAside e → IsMinor e
aside_minor (entry.Command e) h = tt
aside_minor (entry.Status e) h = tt
aside_minor (entry.Call e) h = tt
aside_minor (entry.Address e) h = tt
aside_minor _ h = absurd h

pub given_minor : (os : List Output) → AllByRecursion GivesAside os → TellNothing os → AllMinor os
given_minor [] h k = tt
given_minor (Tells e ∷ os) h k = (aside_minor e h.0, given_minor os h.1 k.1)
given_minor (Sends to (body.Request p number text) ∷ os) h k = (tt, given_minor os h.1 k.1)
given_minor (Sends to (body.Answer p number text) ∷ os) h k = (tt, given_minor os h.1 k.1)
given_minor (Sends to (body.Order o) ∷ os) h k = (tt, given_minor os h.1 k.1)
given_minor (Sends to b ∷ os) h k = absurd k.0

pub superseded_minor : (p : ℕ) (o : Option AttemptState) → AllMinor (superseded_lines p o)
superseded_minor p None = tt
superseded_minor p (Some a) = (tt, tt)

pub unknown_minor : (me : ℕ) (rs : List Request) → AllMinor (unknown_lines me rs)
unknown_minor me [] = tt
unknown_minor me (r ∷ rs) = both MinorOut (unknown_line me r) (unknown_lines me rs) (if_either AllMinor r.told _ [] (tt, tt) tt) (unknown_minor me rs)

pub base_minor : (e before : ℕ) (texts : List (List ℕ)) → AllMinor (base_lines e before texts)
base_minor e before [] = tt
base_minor e before (text ∷ texts) = (tt, base_minor e (before + 1) texts)

line_minor : (e n : ℕ) (r : List ℕ) (s : ResourceAt) → AllMinor (adopted_line e n r s)
line_minor e n r s = if_either AllMinor (is_adopted s) _ [] (tt, tt) tt

lines_minor : (e : ℕ) (v : GroupView) (resources : List (List ℕ × Resource)) → AllMinor (adopted_lines e v resources)
unfolding adopted_lines
lines_minor e v resources =
    of_each MinorOut (adopted_on e v resources) (numbers_to v.members most_nodes)
    (λ n. of_each MinorOut (λ x. adopted_line e n x.0 (states.state_of v.resources x.0 n)) resources (λ x. line_minor e n x.0 (states.state_of v.resources x.0 n)))

pub adopted_minor : (e : ℕ) (s : ConfigState) (o : Option Presidency) → AllMinor (adopted_of e s o)
adopted_minor e s None = tt
adopted_minor e s (Some p) = lines_minor e p.groups.view s.groups.resources

pub first_minor : (me : ℕ) (change : Change) → AllMinor (first_lines me change)
first_minor me (Admits at command a d) = (tt, tt)
first_minor me (Proposes s p text) = (tt, tt)
first_minor me (Promises p) = tt
first_minor me (Leads p members) = tt
first_minor me (Counts a k s i) = tt
first_minor me (Installs s i) = tt
first_minor me (Starts a k s) = tt
first_minor me (Sits s e) = tt
first_minor me (Distrusts d) = tt
first_minor me (Acks s p q left text) = tt
first_minor me (Prepares s text) = tt
first_minor me (Commits s) = tt

again_to_minor : (x : UpNode) (r : Option Request) (o : Option ℕ) → AllMinor (request_again_to x r o)
again_to_minor x (Some r) (Some president) = (tt, tt)
again_to_minor x None president = tt
again_to_minor x (Some r) None = tt

again_by_minor : (x : UpNode) (o : Option Presidency) → AllMinor (request_again_by x o)
again_by_minor x None =
    if_either AllMinor (queue.goes_again x.requests) (request_again_to x (queue.oldest x.requests) (coordinator_of x)) []
    (again_to_minor x (queue.oldest x.requests) (coordinator_of x)) tt
again_by_minor x (Some p) = tt

beats_minor : (x : UpNode) (receivers : ℕ) → AllMinor (heartbeats_to x receivers)
unfolding heartbeats_to
beats_minor x receivers = mapped MinorOut (λ n. Sends n (heartbeat_of x)) (numbers_to receivers most_nodes) (λ n. tt)

pub ticked_minor : (c : Cluster) (before x : UpNode) → AllMinor (ticked_output c before x)
ticked_minor c before x = both MinorOut (heartbeats_to x _) (request_again before) (beats_minor x _) (again_by_minor before before.presidency)

pub write_minor : (me : ℕ) (x : UpNode) (d value : ℕ) (a : Answer) → AllMinor (write_lines me x d value a)
write_minor me x d value (Ok given.Good) = (tt, tt)
write_minor me x d value (Ok given.Conflict) = (tt, tt)
write_minor me x d value _ = (tt, tt)
