-- Most of what a node gives tells of no attempt, no start and no install, and of no node that goes down.
use Rattle.std.specs.Prelude.{ℕ, ◌+◌, List, [], ◌∷◌, Option, None, Some, Ok}
use Rattle.ccr_commit.specs.Entries.{all_committed}
use Rattle.ccr_tables.specs.State.{ConfigState}
use Rattle.cl_base.specs.Limits.{most_nodes}
use Rattle.cl_base.specs.Numbers.{numbers_to}
use Rattle.cmm_attempt.proofs.Basics.{if_either}
use Rattle.cmm_attempt.specs.Attempts.{AttemptState}
use Rattle.cmm_attempt.specs.Calls.{turn}
use Rattle.node_model.specs.Attempts.{adopted_line, adopted_lines, adopted_of, adopted_on, base_lines, is_adopted, starting_as}
use Rattle.node_model.specs.Configurations.{in_force}
use Rattle.node_model.specs.Entries.{unknown_line, unknown_lines}
use Rattle.node_model.specs.Presidents.{sent_to}
use Rattle.node_model.specs.Seats.{coordinator_of}
use Rattle.node_model.specs.Ticks.{heartbeat_of, heartbeats_to, later, ticked_output}
use Rattle.node_model.specs.Updates.{request_again, request_again_by, request_again_to}
use Rattle.node_model.specs.declared.cluster.Cluster.{Cluster}
use Rattle.node_model.specs.declared.node.UpNode.{UpNode}
use Rattle.node_model.specs.declared.output.Output.{Output}
use Rattle.node_model.specs.declared.output.Output.TheVariants.{Sends, Tells}
use Rattle.node_model.specs.declared.presidency.Presidency.{Presidency}
use Rattle.pgr_device.specs.declared.command.PrAnswer.TheVariants as given
use Rattle.refinement.specs.Doings.{Act, Change, adopted_by, first_lines, last_lines, said, superseded_lines, write_lines}
use Rattle.refinement.specs.Doings.Act.{Accepts, Dates, Ends, Gives, Goes_on, Hears, Makes, Minds, Notes, Queues, Spreads, Stores, Takes, Ticks, Waits, Works, Writes}
use Rattle.refinement.specs.Doings.Change.{Acks, Admits, Commits, Counts, Distrusts, Installs, Leads, Prepares, Promises, Proposes, Sits, Starts}
use Rattle.request_queue.specs.Queue as queue
use Rattle.request_queue.specs.declared.request.Request.{Request}
use Rattle.rg_props.specs.declared.group.Resource.{Resource}
use Rattle.rg_view.specs.States as states
use Rattle.rg_view.specs.declared.states.ResourceAt.{ResourceAt}
use Rattle.rg_view.specs.declared.view.GroupView.{GroupView}
use Rattle.run_history.proofs.Lists.{both, mapped, of_each}
use Rattle.run_history.specs.Marks.{ActSo, AreMinor, IsMinor}
use Rattle.seize.specs.Answers.{Answer}
use Rattle.status_report.specs.declared.entry.Entry.{Entry}
use Rattle.status_report.specs.declared.entry.Entry.TheVariants as entry
use Rattle.run_outcomes.proofs.led.Lines.{AllMild, AllStill, IsMild, IsStill, IsStillLine, still_mild}

minor_still : (e : Entry) → IsMinor e → IsStillLine e
minor_still (entry.Command e) h = tt
minor_still (entry.Call e) h = tt
minor_still (entry.Status e) h = tt
minor_still (entry.Address e) h = tt
minor_still _ h = absurd h

given_still : (os : List Output) → AreMinor os → AllStill os
given_still [] h = tt
given_still (Tells e ∷ os) h = (minor_still e h.0, given_still os h.1)
given_still (Sends to b ∷ os) h = (tt, given_still os h)

pub unknown_still : (me : ℕ) (rs : List Request) → AllStill (unknown_lines me rs)
unknown_still me [] = tt
unknown_still me (r ∷ rs) = both IsStill (unknown_line me r) (unknown_lines me rs) (if_either AllStill r.told _ [] (tt, tt) tt) (unknown_still me rs)

base_still : (e before : ℕ) (texts : List (List ℕ)) → AllStill (base_lines e before texts)
base_still e before [] = tt
base_still e before (text ∷ texts) = (tt, base_still e (before + 1) texts)

line_still : (e n : ℕ) (r : List ℕ) (s : ResourceAt) → AllStill (adopted_line e n r s)
line_still e n r s = if_either AllStill (is_adopted s) _ [] (tt, tt) tt

lines_still : (e : ℕ) (v : GroupView) (resources : List (List ℕ × Resource)) → AllStill (adopted_lines e v resources)
unfolding adopted_lines
lines_still e v resources =
    of_each IsStill (adopted_on e v resources) (numbers_to v.members most_nodes)
    (λ n. of_each IsStill (λ x. adopted_line e n x.0 (states.state_of v.resources x.0 n)) resources (λ x. line_still e n x.0 (states.state_of v.resources x.0 n)))

adopted_still : (e : ℕ) (s : ConfigState) (o : Option Presidency) → AllStill (adopted_of e s o)
adopted_still e s None = tt
adopted_still e s (Some p) = lines_still e p.groups.view s.groups.resources

pub first_still : (me : ℕ) (change : Change) → AllStill (first_lines me change)
first_still me (Admits at command a d) = (tt, tt)
first_still me (Proposes s p text) = (tt, tt)
first_still me _ = tt

-- a change that neither promises nor starts
abbrev pub IsCalm : Change → Type 0
IsCalm (Promises p) = ⊥
IsCalm (Leads p members) = ⊥
IsCalm (Counts a k s i) = ⊥
IsCalm (Installs s i) = ⊥
IsCalm (Starts a k s) = ⊥
IsCalm _ = Unit {0}

pub last_still : (c : Cluster) (me : ℕ) (x : UpNode) (change : Change) → IsCalm change → AllStill (last_lines c me x change)
last_still c me x (Promises p) h = absurd h
last_still c me x (Leads p members) h = absurd h
last_still c me x (Counts a k s i) h = absurd h
last_still c me x (Installs s i) h = absurd h
last_still c me x (Starts a k s) h = absurd h
last_still c me x (Sits s e) h = (tt, tt)
last_still c me x (Distrusts d) h = tt
last_still c me x (Admits at command a d) h = tt
last_still c me x (Proposes s p text) h = tt
last_still c me x (Acks s p q left text) h = (tt, tt)
last_still c me x (Prepares s text) h = tt
last_still c me x (Commits s) h = tt

superseded_mild : (p : ℕ) (o : Option AttemptState) → AllMild (superseded_lines p o)
superseded_mild p None = tt
superseded_mild p (Some a) = (tt, tt)

-- all changes but those that install
abbrev pub IsBare : Change → Type 0
IsBare (Counts a k s i) = ⊥
IsBare (Installs s i) = ⊥
IsBare _ = Unit {0}

pub last_mild : (c : Cluster) (me : ℕ) (x : UpNode) (change : Change) → IsBare change → AllMild (last_lines c me x change)
last_mild c me x (Promises p) h =
    both IsMild (superseded_lines p x.attempt) (unknown_lines me x.requests.waiting) (superseded_mild p x.attempt) (still_mild (unknown_lines me x.requests.waiting) (unknown_still me x.requests.waiting))
last_mild c me x (Leads p members) h = (tt, still_mild (unknown_lines me x.requests.waiting) (unknown_still me x.requests.waiting))
last_mild c me x (Counts a k s i) h = absurd h
last_mild c me x (Installs s i) h = absurd h
last_mild c me x (Starts a k s) h =
    let after : AttemptState = (turn a k).after in
    let y : UpNode = starting_as c me x after s in
    let base : List Output = base_lines after.plan.epoch 0 (all_committed s.saved.entries).committed in
    let adopted : List Output = adopted_by c after y in (
      tt,
      both IsMild base _ (still_mild base (base_still after.plan.epoch 0 (all_committed s.saved.entries).committed))
          (both IsMild adopted _ (still_mild adopted (adopted_still after.plan.epoch (in_force c y) y.presidency)) (tt, tt)),
    )
last_mild c me x change h = still_mild (last_lines c me x change) (last_still c me x change tt)

write_still : (me : ℕ) (x : UpNode) (d value : ℕ) (a : Answer) → AllStill (write_lines me x d value a)
write_still me x d value (Ok given.Good) = (tt, tt)
write_still me x d value (Ok given.Conflict) = (tt, tt)
write_still me x d value _ = (tt, tt)

again_to_still : (x : UpNode) (r : Option Request) (o : Option ℕ) → AllStill (request_again_to x r o)
again_to_still x (Some r) (Some president) = (tt, tt)
again_to_still x None president = tt
again_to_still x (Some r) None = tt

again_still : (x : UpNode) (o : Option Presidency) → AllStill (request_again_by x o)
again_still x None =
    if_either AllStill (queue.goes_again x.requests) (request_again_to x (queue.oldest x.requests) (coordinator_of x)) [] (again_to_still x (queue.oldest x.requests) (coordinator_of x)) tt
again_still x (Some p) = tt

beats_still : (x : UpNode) (receivers : ℕ) → AllStill (heartbeats_to x receivers)
unfolding heartbeats_to
beats_still x receivers = mapped IsStill (λ n. Sends n (heartbeat_of x)) (numbers_to receivers most_nodes) (λ n. tt)

ticked_still : (c : Cluster) (before x : UpNode) → AllStill (ticked_output c before x)
ticked_still c before x = both IsStill (heartbeats_to x _) (request_again before) (beats_still x _) (again_still before before.presidency)

-- no end, and no change
abbrev pub IsQuiet : Act → Type 0
IsQuiet (Ends a why) = ⊥
IsQuiet (Makes change) = ⊥
IsQuiet _ = Unit {0}

pub said_still : (c : Cluster) (n : ℕ) (x : UpNode) (a : Act) → IsQuiet a → ActSo a → AllStill (said c n x a)
unfolding sent_to
said_still c n x (Ends a why) quiet so = absurd quiet
said_still c n x (Makes change) quiet so = absurd quiet
said_still c n x (Hears from b) quiet so = tt
said_still c n x Ticks quiet so = (tt, ticked_still c x (later c x))
said_still c n x Waits quiet so = tt
said_still c n x (Goes_on a k) quiet so = tt
said_still c n x (Queues a d kind) quiet so = tt
said_still c n x (Accepts kind e members d) quiet so = tt
said_still c n x (Takes at command a) quiet so = (tt, tt)
said_still c n x (Stores d value a) quiet so = (tt, write_still n x d value a)
said_still c n x (Writes to b) quiet so = (tt, tt)
said_still c n x (Gives os) quiet so = given_still os so
said_still c n x (Spreads receivers b) quiet so = mapped IsStill (λ m. Sends m b) (numbers_to receivers most_nodes) (λ m. tt)
said_still c n x (Minds q p) quiet so = tt
said_still c n x (Notes from place p) quiet so = tt
said_still c n x (Dates now) quiet so = tt
said_still c n x (Works w) quiet so = tt
