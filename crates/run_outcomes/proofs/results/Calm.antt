-- Most of what a node gives tells of no end for want of votes, of no start, of no command at a device but a write, and neither asks for a seizing nor says how one ended.
use Rattle.std.specs.Prelude.{ℕ, ◌+◌, ◌++◌, List, [], ◌∷◌, Option, None, Some, Ok}
use Rattle.std.specs.List.{AllByRecursion}
use Rattle.ccr_commit.specs.Entries.{all_committed}
use Rattle.ccr_tables.specs.State.{ConfigState}
use Rattle.cl_base.specs.Limits.{most_nodes}
use Rattle.cl_base.specs.Numbers.{numbers_to}
use Rattle.cmm_attempt.proofs.Basics.{if_either}
use Rattle.cmm_attempt.specs.Attempts.{AttemptState}
use Rattle.cmm_attempt.specs.Calls.{turn}
use Rattle.cmm_member.specs.Nodes.{NodeState}
use Rattle.node_model.specs.Attempts.{adopted_line, adopted_lines, adopted_of, adopted_on, base_lines, is_adopted, starting_as}
use Rattle.node_model.specs.Configurations.{in_force}
use Rattle.node_model.specs.Entries.{unknown_line, unknown_lines}
use Rattle.node_model.specs.Presidents.{sent_to}
use Rattle.node_model.specs.Seats.{coordinator_of}
use Rattle.node_model.specs.Ticks.{heartbeat_of, heartbeats_to, ticked_output}
use Rattle.node_model.specs.Updates.{request_again, request_again_by, request_again_to}
use Rattle.node_model.specs.declared.cluster.Cluster.{Cluster}
use Rattle.node_model.specs.declared.node.UpNode.{UpNode}
use Rattle.node_model.specs.declared.output.Output.{Output}
use Rattle.node_model.specs.declared.output.Output.TheVariants.{Sends, Tells}
use Rattle.node_model.specs.declared.presidency.Presidency.{Presidency}
use Rattle.pgr_device.specs.declared.command.PrAnswer.TheVariants as given
use Rattle.pgr_device.specs.declared.command.PrCommand.{PrCommand}
use Rattle.pgr_device.specs.declared.command.PrCommand.TheVariants as command
use Rattle.refinement.specs.Doings.{Change, adopted_by, first_lines, gone_line, last_lines, saved_lines, superseded_lines, write_lines}
use Rattle.refinement.specs.Doings.Change.{Acks, Admits, Commits, Counts, Distrusts, Installs, Leads, Prepares, Promises, Proposes, Sits, Starts}
use Rattle.refinement.specs.Guards.{TellNothing, TellsNothing}
use Rattle.request_queue.specs.Queue as queue
use Rattle.request_queue.specs.declared.request.Request.{Request}
use Rattle.rg_props.specs.declared.group.Resource.{Resource}
use Rattle.rg_view.specs.States as states
use Rattle.rg_view.specs.declared.states.ResourceAt.{ResourceAt}
use Rattle.rg_view.specs.declared.view.GroupView.{GroupView}
use Rattle.run_history.proofs.Lists.{both, mapped, of_each}
use Rattle.run_history.specs.Marks.{AreMinor, IsMinor}
use Rattle.seize.specs.Answers.{Answer}
use Rattle.status_report.specs.declared.attempt_entry.AttemptEntry.TheVariants as attempt_entry
use Rattle.status_report.specs.declared.device_entry.DeviceEntry.TheVariants as device_entry
use Rattle.status_report.specs.declared.entry.Entry.{Entry}
use Rattle.status_report.specs.declared.entry.Entry.TheVariants as entry
use Rattle.status_report.specs.declared.node_entry.NodeEntry.TheVariants as note
use Rattle.status_report.specs.declared.node_entry.DownCause.{DownCause}
use Rattle.status_report.specs.declared.start_entry.StartEntry.TheVariants as start_entry
use Rattle.wire.specs.declared.message.Body.{Body}
use Rattle.wire.specs.declared.message.Body.TheVariants as body

abbrev pub IsWrite : PrCommand → Type 0
IsWrite (command.Write value) = Unit {0}
IsWrite _ = ⊥

abbrev pub IsCalm : Entry → Type 0
IsCalm (entry.Device (device_entry.Command m d c a)) = IsWrite c
IsCalm (entry.Attempt (attempt_entry.Votes e have need lacking)) = ⊥
IsCalm (entry.Start (start_entry.Started e members held count)) = ⊥
IsCalm (entry.Start (start_entry.Base e v words)) = ⊥
IsCalm (entry.Packet e) = ⊥
IsCalm _ = Unit {0}

abbrev pub IsMute : Body → Type 0
IsMute (body.Seized e d r) = ⊥
IsMute (body.Promise e last members valid flagged committed pending) = ⊥
IsMute (body.SeizeQuorum e members d) = ⊥
IsMute (body.SeizeData e members d) = ⊥
IsMute _ = Unit {0}

abbrev pub GivesCalm : Output → Type 0
GivesCalm (Tells e) = IsCalm e
GivesCalm (Sends to b) = IsMute b

abbrev pub AllCalm : List Output → Type 0
AllCalm os = AllByRecursion GivesCalm os

-- what is said alone
abbrev pub GivesMute : Output → Type 0
GivesMute (Tells e) = Unit {0}
GivesMute (Sends to b) = IsMute b

abbrev pub AllMute : List Output → Type 0
AllMute os = AllByRecursion GivesMute os

pub all_mute : (os : List Output) → AllCalm os → AllMute os
all_mute [] k = tt
all_mute (Tells e ∷ os) k = (tt, all_mute os k.1)
all_mute (Sends to b ∷ os) k = (k.0, all_mute os k.1)

-- ---- the lines of changes

superseded_calm : (p : ℕ) (o : Option AttemptState) → AllCalm (superseded_lines p o)
superseded_calm p None = tt
superseded_calm p (Some a) = (tt, tt)

pub unknown_calm : (me : ℕ) (rs : List Request) → AllCalm (unknown_lines me rs)
unknown_calm me [] = tt
unknown_calm me (r ∷ rs) = both GivesCalm (unknown_line me r) (unknown_lines me rs) (if_either AllCalm r.told _ [] (tt, tt) tt) (unknown_calm me rs)

base_mute : (e before : ℕ) (texts : List (List ℕ)) → AllMute (base_lines e before texts)
base_mute e before [] = tt
base_mute e before (text ∷ texts) = (tt, base_mute e (before + 1) texts)

line_calm : (e n : ℕ) (r : List ℕ) (s : ResourceAt) → AllCalm (adopted_line e n r s)
line_calm e n r s = if_either AllCalm (is_adopted s) _ [] (tt, tt) tt

adopted_calm : (e : ℕ) (v : GroupView) (resources : List (List ℕ × Resource)) → AllCalm (adopted_lines e v resources)
unfolding adopted_lines
adopted_calm e v resources =
    of_each GivesCalm (adopted_on e v resources) (numbers_to v.members most_nodes)
    (λ n. of_each GivesCalm (λ x. adopted_line e n x.0 (states.state_of v.resources x.0 n)) resources (λ x. line_calm e n x.0 (states.state_of v.resources x.0 n)))

adopted_of_calm : (e : ℕ) (s : ConfigState) (o : Option Presidency) → AllCalm (adopted_of e s o)
adopted_of_calm e s None = tt
adopted_of_calm e s (Some p) = adopted_calm e p.groups.view s.groups.resources

-- what follows the lines of a start
abbrev pub opened_lines : Cluster → ℕ → UpNode → AttemptState → NodeState → List Output
opened_lines c me x t s = adopted_by c t (starting_as c me x t s) ++ Tells (entry.Node me (note.Member t.plan.epoch)) ∷ []

pub opened_calm : (c : Cluster) (me : ℕ) (x : UpNode) (t : AttemptState) (s : NodeState) → AllCalm (opened_lines c me x t s)
opened_calm c me x t s =
    let y : UpNode = starting_as c me x t s in
    both GivesCalm (adopted_by c t y) _ (adopted_of_calm t.plan.epoch (in_force c y) y.presidency) (tt, tt)

-- a change that starts no membership
abbrev pub IsStill : Change → Type 0
IsStill (Starts a k s) = ⊥
IsStill _ = Unit {0}

pub last_calm : (c : Cluster) (me : ℕ) (x : UpNode) (change : Change) → IsStill change → AllCalm (last_lines c me x change)
last_calm c me x (Promises p) still = both GivesCalm (superseded_lines p x.attempt) (unknown_lines me x.requests.waiting) (superseded_calm p x.attempt) (unknown_calm me x.requests.waiting)
last_calm c me x (Leads p members) still = (tt, unknown_calm me x.requests.waiting)
last_calm c me x (Counts a k s i) still = (tt, tt)
last_calm c me x (Installs s i) still = (tt, tt)
last_calm c me x (Starts a k s) still = absurd still
last_calm c me x (Sits s e) still = (tt, tt)
last_calm c me x (Distrusts d) still = tt
last_calm c me x (Admits at command a d) still = tt
last_calm c me x (Proposes s p text) still = tt
last_calm c me x (Acks s p q left text) still = (tt, tt)
last_calm c me x (Prepares s text) still = tt
last_calm c me x (Commits s) still = tt

pub last_mute : (c : Cluster) (me : ℕ) (x : UpNode) (change : Change) → AllMute (last_lines c me x change)
last_mute c me x (Starts a k s) = (
  tt,
  both GivesMute (base_lines (turn a k).after.plan.epoch 0 (all_committed s.saved.entries).committed) _ (base_mute (turn a k).after.plan.epoch 0 (all_committed s.saved.entries).committed)
      (all_mute (opened_lines c me x (turn a k).after s) (opened_calm c me x (turn a k).after s)),
)
last_mute c me x change = all_mute (last_lines c me x change) (last_calm c me x change tt)

-- a change of which no answer of a device is told
abbrev pub IsPlain : Change → Type 0
IsPlain (Admits at command a d) = ⊥
IsPlain _ = Unit {0}

pub first_calm : (me : ℕ) (change : Change) → IsPlain change → AllCalm (first_lines me change)
first_calm me (Admits at command a d) h = absurd h
first_calm me (Proposes s p text) h = (tt, tt)
first_calm me (Promises p) h = tt
first_calm me (Leads p members) h = tt
first_calm me (Counts a k s i) h = tt
first_calm me (Installs s i) h = tt
first_calm me (Starts a k s) h = tt
first_calm me (Sits s e) h = tt
first_calm me (Distrusts d) h = tt
first_calm me (Acks s p q left text) h = tt
first_calm me (Prepares s text) h = tt
first_calm me (Commits s) h = tt

pub saved_calm : (c : Cluster) (me : ℕ) (x : UpNode) (change : Change) → IsPlain change → IsStill change → AllCalm (first_lines me change ++ saved_lines c me x change)
saved_calm c me x change plain still = both GivesCalm (first_lines me change) (saved_lines c me x change) (first_calm me change plain) (tt, last_calm c me x change still)

pub made_calm : (c : Cluster) (me : ℕ) (x : UpNode) (change : Change) → IsPlain change → IsStill change → AllCalm (first_lines me change ++ last_lines c me x change)
made_calm c me x change plain still = both GivesCalm (first_lines me change) (last_lines c me x change) (first_calm me change plain) (last_calm c me x change still)

pub saved_mute : (c : Cluster) (me : ℕ) (x : UpNode) (change : Change) → IsPlain change → AllMute (first_lines me change ++ saved_lines c me x change)
saved_mute c me x change plain = both GivesMute (first_lines me change) (saved_lines c me x change) (all_mute (first_lines me change) (first_calm me change plain)) (tt, last_mute c me x change)

pub made_mute : (c : Cluster) (me : ℕ) (x : UpNode) (change : Change) → IsPlain change → AllMute (first_lines me change ++ last_lines c me x change)
made_mute c me x change plain = both GivesMute (first_lines me change) (last_lines c me x change) (all_mute (first_lines me change) (first_calm me change plain)) (last_mute c me x change)

pub lost_calm : (me : ℕ) (change : Change) (why : DownCause) → IsPlain change → AllCalm (first_lines me change ++ gone_line me why)
lost_calm me change why plain = both GivesCalm (first_lines me change) (gone_line me why) (first_calm me change plain) (tt, tt)

-- ---- what acts give

pub write_calm : (n : ℕ) (x : UpNode) (d value : ℕ) (a : Answer) → AllCalm (write_lines n x d value a)
write_calm n x d value (Ok given.Good) = (tt, tt)
write_calm n x d value (Ok given.Conflict) = (tt, tt)
write_calm n x d value _ = (tt, tt)

again_to_calm : (x : UpNode) (r : Option Request) (o : Option ℕ) → AllCalm (request_again_to x r o)
again_to_calm x (Some r) (Some president) = (tt, tt)
again_to_calm x None president = tt
again_to_calm x (Some r) None = tt

pub again_by_calm : (x : UpNode) (o : Option Presidency) → AllCalm (request_again_by x o)
again_by_calm x None =
    if_either AllCalm (queue.goes_again x.requests) (request_again_to x (queue.oldest x.requests) (coordinator_of x)) []
    (again_to_calm x (queue.oldest x.requests) (coordinator_of x)) tt
again_by_calm x (Some p) = tt

heartbeats_calm : (x : UpNode) (receivers : ℕ) → AllCalm (heartbeats_to x receivers)
unfolding heartbeats_to
heartbeats_calm x receivers = mapped GivesCalm (λ n. Sends n (heartbeat_of x)) (numbers_to receivers most_nodes) (λ n. tt)

pub ticked_calm : (c : Cluster) (before x : UpNode) → AllCalm (ticked_output c before x)
ticked_calm c before x = both GivesCalm (heartbeats_to x _) (request_again before) (heartbeats_calm x _) (again_by_calm before before.presidency)

pub spread_calm : (receivers : ℕ) (b : Body) → IsMute b → AllCalm (sent_to receivers b)
unfolding sent_to
spread_calm receivers b mute = mapped GivesCalm (λ n. Sends n b) (numbers_to receivers most_nodes) (λ n. mute)

minor_line : (e : Entry) → IsMinor e → IsCalm e
minor_line (entry.Command e) k = tt
minor_line (entry.Call e) k = tt
minor_line (entry.Status e) k = tt
minor_line (entry.Address e) k = tt
minor_line (entry.Answered e) k = absurd k
minor_line entry.Powered k = absurd k
minor_line (entry.Node n e) k = absurd k
minor_line (entry.Packet e) k = absurd k
minor_line (entry.Device e) k = absurd k
minor_line (entry.Attempt e) k = absurd k
minor_line (entry.Start e) k = absurd k
minor_line (entry.Update e) k = absurd k
minor_line (entry.Schedule e) k = absurd k

nothing_mute : (to : ℕ) (b : Body) → TellsNothing (Sends to b) → IsMute b
nothing_mute to (body.Seized e d r) k = absurd k
nothing_mute to (body.Promise e last members valid flagged committed pending) k = absurd k
nothing_mute to (body.SeizeQuorum e members d) k = absurd k
nothing_mute to (body.SeizeData e members d) k = absurd k
nothing_mute to _ k = tt

pub minor_calm : (os : List Output) → AreMinor os → TellNothing os → AllCalm os
minor_calm [] k l = tt
minor_calm (Tells e ∷ os) k l = (minor_line e k.0, minor_calm os k.1 l.1)
minor_calm (Sends to b ∷ os) k l = (nothing_mute to b l.0, minor_calm os k l.1)
