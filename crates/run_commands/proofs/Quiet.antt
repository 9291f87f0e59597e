-- Which outputs of a node are of no boot, no command and no packet.
use Rattle.std.specs.Prelude.{ℕ, ◌+◌, List, [], ◌∷◌, Option, None, Some, Ok}
use Rattle.ccr_tables.specs.State.{ConfigState}
use Rattle.cl_base.specs.Limits.{most_nodes}
use Rattle.cl_base.specs.Numbers.{numbers_to}
use Rattle.cmm_attempt.specs.Attempts.{AttemptState}
use Rattle.cmm_attempt.specs.declared.step.AttemptEnd.{AttemptEnd}
use Rattle.cmm_attempt.specs.declared.step.AttemptEnd.TheVariants as end
use Rattle.cmm_attempt.proofs.Basics.{if_either}
use Rattle.heartbeats.specs.Views.{receivers_of}
use Rattle.node_model.specs.Attempts.{adopted_line, adopted_lines, adopted_of, adopted_on, base_lines, ended_entry, is_adopted}
use Rattle.node_model.specs.Configurations.{configured_at}
use Rattle.node_model.specs.declared.cluster.Cluster.{Cluster}
use Rattle.node_model.specs.declared.node.UpNode.{UpNode}
use Rattle.node_model.specs.declared.output.Output.TheVariants.{Sends}
use Rattle.node_model.specs.declared.presidency.Presidency.{Presidency}
use Rattle.node_model.specs.Presidents.{sent_to}
use Rattle.node_model.specs.Seats.{coordinator_of}
use Rattle.node_model.specs.Ticks.{heartbeat_of, heartbeats_to, later, ticked_output}
use Rattle.node_model.specs.Updates.{request_again, request_again_by, request_again_to}
use Rattle.pgr_device.specs.declared.command.PrAnswer.TheVariants as given
use Rattle.refinement.specs.Doings.{Change, first_lines, superseded_lines, write_lines}
use Rattle.refinement.specs.Doings.Change.{Acks, Admits, Commits, Counts, Distrusts, Installs, Leads, Prepares, Promises, Proposes, Sits, Starts}
use Rattle.request_queue.specs.Queue as queue
use Rattle.request_queue.specs.declared.request.Request.{Request}
use Rattle.rg_props.specs.declared.group.Resource.{Resource}
use Rattle.rg_view.specs.States as states
use Rattle.rg_view.specs.declared.states.ResourceAt.{ResourceAt}
use Rattle.rg_view.specs.declared.view.GroupView.{GroupView}
use Rattle.run_history.proofs.Lists.{both, mapped, of_each}
use Rattle.seize.specs.Answers.{Answer}
use Rattle.status_report.specs.declared.entry.Entry.TheVariants as entry
use Rattle.wire.specs.declared.message.Body.{Body}
use Rattle.cmm_attempt.specs.Calls.{turn}
use Rattle.node_model.specs.Attempts.{starting_as}
use Rattle.ccr_commit.specs.Entries.{all_committed}
use Rattle.node_model.specs.Configurations.{in_force}
use Rattle.refinement.specs.Doings.{last_lines, start_lines, adopted_by}
use Rattle.run_commands.specs.Guards.{AreQuiet, IsQuiet, IsQuietOutput}

pub superseded_quiet : (p : ℕ) (o : Option AttemptState) → AreQuiet (superseded_lines p o)
superseded_quiet p None = tt
superseded_quiet p (Some a) = (tt, tt)

base_quiet : (e before : ℕ) (texts : List (List ℕ)) → AreQuiet (base_lines e before texts)
base_quiet e before [] = tt
base_quiet e before (text ∷ texts) = (tt, base_quiet e (before + 1) texts)

line_quiet : (e n : ℕ) (r : List ℕ) (s : ResourceAt) → AreQuiet (adopted_line e n r s)
line_quiet e n r s = if_either AreQuiet (is_adopted s) _ [] (tt, tt) tt

lines_quiet : (e : ℕ) (v : GroupView) (resources : List (List ℕ × Resource)) → AreQuiet (adopted_lines e v resources)
unfolding adopted_lines
lines_quiet e v resources =
    of_each IsQuietOutput (adopted_on e v resources) (numbers_to v.members most_nodes)
    (λ n. of_each IsQuietOutput (λ x. adopted_line e n x.0 (states.state_of v.resources x.0 n)) resources (λ x. line_quiet e n x.0 (states.state_of v.resources x.0 n)))

adopted_quiet : (e : ℕ) (s : ConfigState) (o : Option Presidency) → AreQuiet (adopted_of e s o)
adopted_quiet e s None = tt
adopted_quiet e s (Some p) = lines_quiet e p.groups.view s.groups.resources

pub ended_quiet : (e : ℕ) (ended : AttemptEnd) → IsQuiet (entry.Attempt (ended_entry e ended))
ended_quiet e (end.Votes have need lacking) = tt
ended_quiet e (end.Superseded p) = tt
ended_quiet e (end.Silent n) = tt
ended_quiet e (end.Foreign n) = tt
ended_quiet e (end.Excluded n) = tt

pub write_quiet : (me : ℕ) (x : UpNode) (d value : ℕ) (a : Answer) → AreQuiet (write_lines me x d value a)
write_quiet me x d value (Ok given.Good) = (tt, tt)
write_quiet me x d value (Ok given.Conflict) = (tt, tt)
write_quiet me x d value _ = (tt, tt)

pub spread_quiet : (receivers : ℕ) (b : Body) → AreQuiet (sent_to receivers b)
unfolding sent_to
spread_quiet receivers b = mapped IsQuietOutput (λ n. Sends n b) (numbers_to receivers most_nodes) (λ n. tt)

again_to_quiet : (x : UpNode) (r : Option Request) (o : Option ℕ) → AreQuiet (request_again_to x r o)
again_to_quiet x (Some r) (Some president) = (tt, tt)
again_to_quiet x None president = tt
again_to_quiet x (Some r) None = tt

again_by_quiet : (x : UpNode) (o : Option Presidency) → AreQuiet (request_again_by x o)
again_by_quiet x None =
    if_either AreQuiet (queue.goes_again x.requests) (request_again_to x (queue.oldest x.requests) (coordinator_of x)) [] (again_to_quiet x (queue.oldest x.requests) (coordinator_of x)) tt
again_by_quiet x (Some p) = tt

beats_quiet : (x : UpNode) (receivers : ℕ) → AreQuiet (heartbeats_to x receivers)
unfolding heartbeats_to
beats_quiet x receivers = mapped IsQuietOutput (λ n. Sends n (heartbeat_of x)) (numbers_to receivers most_nodes) (λ n. tt)

pub ticked_quiet : (c : Cluster) (x : UpNode) → AreQuiet (ticked_output c x (later c x))
ticked_quiet c x =
    both IsQuietOutput (heartbeats_to (later c x) (receivers_of (later c x).beats (configured_at c (later c x)))) (request_again x)
    (beats_quiet (later c x) (receivers_of (later c x).beats (configured_at c (later c x)))) (again_by_quiet x x.presidency)

-- ---- changes

-- a change in which the node leaves no membership
abbrev pub GoesOn : Change → Type 0
GoesOn (Promises p) = ⊥
GoesOn (Leads p members) = ⊥
GoesOn _ = Unit {0}

pub last_quiet : (c : Cluster) (me : ℕ) (x : UpNode) (change : Change) → GoesOn change → AreQuiet (last_lines c me x change)
last_quiet c me x (Promises p) on = absurd on
last_quiet c me x (Leads p members) on = absurd on
last_quiet c me x (Counts a k s i) on = (tt, tt)
last_quiet c me x (Installs s i) on = (tt, tt)
last_quiet c me x (Starts a k s) on =
    let t : AttemptState = (turn a k).after in
    let y : UpNode = starting_as c me x t s in
    both IsQuietOutput (start_lines t s) _ (tt, base_quiet t.plan.epoch 0 (all_committed s.saved.entries).committed)
    (both IsQuietOutput (adopted_by c t y) _ (adopted_quiet t.plan.epoch (in_force c y) y.presidency) (tt, tt))
last_quiet c me x (Sits s e) on = (tt, tt)
last_quiet c me x (Distrusts d) on = tt
last_quiet c me x (Admits at command a d) on = tt
last_quiet c me x (Proposes s p text) on = tt
last_quiet c me x (Acks s p q left text) on = (tt, tt)
last_quiet c me x (Prepares s text) on = tt
last_quiet c me x (Commits s) on = tt

pub first_quiet : (me : ℕ) (change : Change) → AreQuiet (first_lines me change)
first_quiet me (Admits at command a d) = (tt, tt)
first_quiet me (Proposes s p text) = (tt, tt)
first_quiet me (Promises p) = tt
first_quiet me (Leads p members) = tt
first_quiet me (Counts a k s i) = tt
first_quiet me (Installs s i) = tt
first_quiet me (Starts a k s) = tt
first_quiet me (Sits s e) = tt
first_quiet me (Distrusts d) = tt
first_quiet me (Acks s p q left text) = tt
first_quiet me (Prepares s text) = tt
first_quiet me (Commits s) = tt
