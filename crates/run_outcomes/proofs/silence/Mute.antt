-- What a node gives tells no end for want of an answer, but for such an end itself.
use Rattle.std.specs.Prelude.{ℕ, ◌+◌, ◌++◌, false, List, [], ◌∷◌, Option, None, Some, Ok}
use Rattle.std.specs.List.{AllByRecursion}
use Rattle.ccr_tables.specs.State.{ConfigState}
use Rattle.cl_base.specs.Limits.{most_nodes}
use Rattle.cl_base.specs.Numbers.{numbers_to}
use Rattle.cmm_attempt.proofs.Basics.{false_true, if_either}
use Rattle.cmm_attempt.specs.Attempts.{AttemptState}
use Rattle.cmm_attempt.specs.Calls.{turn}
use Rattle.cmm_attempt.specs.declared.step.AttemptEnd.{AttemptEnd}
use Rattle.cmm_attempt.specs.declared.step.AttemptEnd.TheVariants as end
use Rattle.cmm_member.specs.Nodes.{NodeState}
use Rattle.cmm_member.specs.Records.{NodeRecord}
use Rattle.ccr_commit.specs.Entries.{all_committed}
use Rattle.node_model.specs.Attempts.{adopted_line, adopted_lines, adopted_of, adopted_on, base_lines, ended_entry, is_adopted, starting_as}
use Rattle.node_model.specs.Configurations.{in_force}
use Rattle.node_model.specs.Entries.{unknown_line, unknown_lines}
use Rattle.node_model.specs.Presidents.{sent_to}
use Rattle.node_model.specs.Seats.{coordinator_of}
use Rattle.node_model.specs.Ticks.{heartbeat_of, heartbeats_to, later, ticked_output}
use Rattle.node_model.specs.Updates.{request_again, request_again_by, request_again_to}
use Rattle.node_model.specs.declared.cluster.Cluster.{Cluster}
use Rattle.node_model.specs.declared.node.Node.{Node}
use Rattle.node_model.specs.declared.node.Node.TheVariants.{Down, Up}
use Rattle.node_model.specs.declared.node.UpNode.{UpNode}
use Rattle.node_model.specs.declared.output.Output.{Output}
use Rattle.node_model.specs.declared.output.Output.TheVariants.{Sends, Tells}
use Rattle.node_model.specs.declared.presidency.Presidency.{Presidency}
use Rattle.pgr_device.specs.declared.command.PrAnswer.TheVariants as given
use Rattle.refinement.specs.Doings.{Act, Change, Doing, Site, adopted_by, effect, first_lines, given_all, gives, gone_line, last_lines, of_node, said, saved_lines, start_lines, superseded_lines, write_lines}
use Rattle.refinement.specs.Doings.Act.{Ends, Gives, Makes, Spreads, Stores, Takes, Ticks, Writes}
use Rattle.refinement.specs.Doings.Change.{Acks, Admits, Counts, Installs, Leads, Promises, Proposes, Sits, Starts}
use Rattle.refinement.specs.Doings.Doing.{Comes_up, Does, Forgets, Goes_down, Loses, Saves}
use Rattle.request_queue.specs.Queue as queue
use Rattle.request_queue.specs.declared.request.Request.{Request}
use Rattle.rg_props.specs.declared.group.Resource.{Resource}
use Rattle.rg_view.specs.States as states
use Rattle.rg_view.specs.declared.states.ResourceAt.{ResourceAt}
use Rattle.rg_view.specs.declared.view.GroupView.{GroupView}
use Rattle.run_attempts.specs.endings.Steps.{AllFit, DoingFits, EndSo}
use Rattle.refinement.specs.Ties.{Delivered}
use Rattle.run_history.proofs.Lists.{both, mapped, of_each}
use Rattle.run_history.specs.Marks.{ActSo, AllSo, AreMinor, DoingSo, IsMinor}
use Rattle.seize.specs.Answers.{Answer}
use Rattle.status_report.specs.declared.attempt_entry.AttemptEntry.TheVariants as attempt
use Rattle.status_report.specs.declared.entry.Entry.{Entry}
use Rattle.status_report.specs.declared.entry.Entry.TheVariants as entry
use Rattle.status_report.specs.declared.node_entry.NodeEntry.TheVariants as note
use Rattle.wire.specs.declared.message.Body.{Body}

abbrev pub NotSilent : Entry → Type 0
NotSilent (entry.Attempt (attempt.Silent e m)) = ⊥
NotSilent _ = Unit {0}

abbrev pub IsMute : Output → Type 0
IsMute (Tells e) = NotSilent e
IsMute (Sends to b) = Unit {0}

abbrev pub AreMute : List Output → Type 0
AreMute os = AllByRecursion IsMute os

-- ---- which are so

minor_entry : (e : Entry) → IsMinor e → NotSilent e
minor_entry (entry.Command e) h = tt
minor_entry (entry.Call e) h = tt
minor_entry (entry.Status e) h = tt
minor_entry (entry.Address e) h = tt
minor_entry _ h = absurd h

given_mute : (os : List Output) → AreMinor os → AreMute os
given_mute [] h = tt
given_mute (Tells e ∷ os) h = (minor_entry e h.0, given_mute os h.1)
given_mute (Sends to b ∷ os) h = (tt, given_mute os h)

superseded_mute : (p : ℕ) (o : Option AttemptState) → AreMute (superseded_lines p o)
superseded_mute p None = tt
superseded_mute p (Some a) = (tt, tt)

unknown_mute : (me : ℕ) (rs : List Request) → AreMute (unknown_lines me rs)
unknown_mute me [] = tt
unknown_mute me (r ∷ rs) = both IsMute (unknown_line me r) (unknown_lines me rs) (if_either (λ os. AllByRecursion IsMute os) r.told _ [] (tt, tt) tt) (unknown_mute me rs)

base_mute : (e before : ℕ) (texts : List (List ℕ)) → AreMute (base_lines e before texts)
base_mute e before [] = tt
base_mute e before (text ∷ texts) = (tt, base_mute e (before + 1) texts)

line_mute : (e n : ℕ) (r : List ℕ) (s : ResourceAt) → AreMute (adopted_line e n r s)
line_mute e n r s = if_either (λ os. AllByRecursion IsMute os) (is_adopted s) _ [] (tt, tt) tt

lines_mute : (e : ℕ) (v : GroupView) (resources : List (List ℕ × Resource)) → AreMute (adopted_lines e v resources)
unfolding adopted_lines
lines_mute e v resources =
    of_each IsMute (adopted_on e v resources) (numbers_to v.members most_nodes)
    (λ n. of_each IsMute (λ x. adopted_line e n x.0 (states.state_of v.resources x.0 n)) resources (λ x. line_mute e n x.0 (states.state_of v.resources x.0 n)))

adopted_mute : (e : ℕ) (s : ConfigState) (o : Option Presidency) → AreMute (adopted_of e s o)
adopted_mute e s None = tt
adopted_mute e s (Some p) = lines_mute e p.groups.view s.groups.resources

first_mute : (me : ℕ) (change : Change) → AreMute (first_lines me change)
first_mute me (Admits at command a d) = (tt, tt)
first_mute me (Proposes s p text) = (tt, tt)
first_mute me _ = tt

started_mute : (c : Cluster) (me : ℕ) (x : UpNode) (a : AttemptState) (s : NodeState) → AreMute (start_lines a s ++ (adopted_by c a (starting_as c me x a s) ++ of_node me (note.Member a.plan.epoch) ∷ []))
started_mute c me x a s =
    both IsMute (start_lines a s) _ (tt, base_mute a.plan.epoch 0 (all_committed s.saved.entries).committed)
    (both IsMute (adopted_by c a (starting_as c me x a s)) _ (adopted_mute a.plan.epoch (in_force c (starting_as c me x a s)) (starting_as c me x a s).presidency) (tt, tt))

last_mute : (c : Cluster) (me : ℕ) (x : UpNode) (change : Change) → AreMute (last_lines c me x change)
last_mute c me x (Promises p) = both IsMute (superseded_lines p x.attempt) (unknown_lines me x.requests.waiting) (superseded_mute p x.attempt) (unknown_mute me x.requests.waiting)
last_mute c me x (Leads p members) = (tt, unknown_mute me x.requests.waiting)
last_mute c me x (Counts a k s i) = (tt, tt)
last_mute c me x (Installs s i) = (tt, tt)
last_mute c me x (Starts a k s) = started_mute c me x (turn a k).after s
last_mute c me x (Sits s e) = (tt, tt)
last_mute c me x (Acks s p q left text) = (tt, tt)
last_mute c me x _ = tt

saved_mute : (c : Cluster) (me : ℕ) (x : UpNode) (change : Change) → AreMute (first_lines me change ++ saved_lines c me x change)
saved_mute c me x change = both IsMute (first_lines me change) (saved_lines c me x change) (first_mute me change) (tt, last_mute c me x change)

again_to_mute : (x : UpNode) (r : Option Request) (o : Option ℕ) → AreMute (request_again_to x r o)
again_to_mute x (Some r) (Some president) = (tt, tt)
again_to_mute x None president = tt
again_to_mute x (Some r) None = tt

again_by_mute : (x : UpNode) (o : Option Presidency) → AreMute (request_again_by x o)
again_by_mute x None =
    if_either (λ os. AllByRecursion IsMute os) (queue.goes_again x.requests) (request_again_to x (queue.oldest x.requests) (coordinator_of x)) []
    (again_to_mute x (queue.oldest x.requests) (coordinator_of x)) tt
again_by_mute x (Some p) = tt

beats_mute : (x : UpNode) (receivers : ℕ) → AreMute (heartbeats_to x receivers)
unfolding heartbeats_to
beats_mute x receivers = mapped IsMute (λ n. Sends n (heartbeat_of x)) (numbers_to receivers most_nodes) (λ n. tt)

pub ticked_mute : (c : Cluster) (before x : UpNode) → AreMute (ticked_output c before x)
ticked_mute c before x = both IsMute (heartbeats_to x _) (request_again before) (beats_mute x _) (again_by_mute before before.presidency)

write_mute : (me : ℕ) (x : UpNode) (d value : ℕ) (a : Answer) → AreMute (write_lines me x d value a)
write_mute me x d value (Ok given.Good) = (tt, tt)
write_mute me x d value (Ok given.Conflict) = (tt, tt)
write_mute me x d value _ = (tt, tt)

spread_mute : (receivers : ℕ) (b : Body) → AreMute (sent_to receivers b)
unfolding sent_to
spread_mute receivers b = mapped IsMute (λ n. Sends n b) (numbers_to receivers most_nodes) (λ n. tt)

-- ---- each act, but for such an end

abbrev pub EndsElse : AttemptEnd → Type 0
EndsElse (end.Silent m) = ⊥
EndsElse _ = Unit {0}

abbrev pub ActElse : Act → Type 0
ActElse (Ends a e) = EndsElse e
ActElse _ = Unit {0}

ended_mute : (a : AttemptState) (e : AttemptEnd) → EndsElse e → NotSilent (entry.Attempt (ended_entry a.plan.epoch e))
ended_mute a (end.Silent m) h = absurd h
ended_mute a (end.Votes have need lacking) h = tt
ended_mute a (end.Superseded q) h = tt
ended_mute a (end.Foreign m) h = tt
ended_mute a (end.Excluded m) h = tt

act_mute : (c : Cluster) (me : ℕ) (x : UpNode) (a : Act) → ActSo a → ActElse a → AreMute (said c me x a)
act_mute c me x Ticks so else = (tt, ticked_mute c x (later c x))
act_mute c me x (Ends a e) so else = (ended_mute a e else, tt)
act_mute c me x (Takes at command a) so else = (tt, tt)
act_mute c me x (Stores d value a) so else = (tt, write_mute me x d value a)
act_mute c me x (Writes to b) so else = (tt, tt)
act_mute c me x (Makes change) so else = both IsMute (first_lines me change) (last_lines c me x change) (first_mute me change) (last_mute c me x change)
act_mute c me x (Gives os) so else = given_mute os so
act_mute c me x (Spreads receivers b) so else = spread_mute receivers b
act_mute c me x _ so else = tt

-- ---- and each doing

abbrev pub DoingElse : Doing → Type 0
DoingElse (Does a) = ActElse a
DoingElse _ = Unit {0}

pub doing_mute : (c : Cluster) (me : ℕ) (node : Node) (disk : NodeRecord) (d : Doing) → DoingSo d → DoingElse d → AreMute (gives c me (record { node = node; disk = disk }) d)
doing_mute c me node disk Comes_up so else = (tt, tt)
doing_mute c me node disk (Goes_down why) so else = (tt, tt)
doing_mute c me Down disk (Does a) so else = tt
doing_mute c me (Up x) disk (Does a) so else = act_mute c me x a so else
doing_mute c me Down disk (Saves change) so else = tt
doing_mute c me (Up x) disk (Saves change) so else = saved_mute c me x change
doing_mute c me node disk (Loses change why) so else = both IsMute (first_lines me change) (gone_line me why) (first_mute me change) (tt, tt)
doing_mute c me node disk (Forgets change why) so else = both IsMute (first_lines me change) (gone_line me why) (first_mute me change) (tt, tt)

abbrev pub AllElse : List Doing → Type 0
AllElse ds = AllByRecursion DoingElse ds

pub all_mute : (c : Cluster) (me : ℕ) (x : Site) (ds : List Doing) → AllSo ds → AllElse ds → AreMute (given_all c me x ds)
all_mute c me x [] so else = tt
all_mute c me x (d ∷ ds) so else = both IsMute (gives c me x d) (given_all c me (effect c me x d) ds) (doing_mute c me x.node x.disk d so.0 else.0) (all_mute c me (effect c me x d) ds so.1 else.1)

-- ---- where no tick has come, none ends so

end_else : (told : Delivered) (a : AttemptState) (e : AttemptEnd) → EndSo told false a e → EndsElse e
end_else told a (end.Silent m) h = false_true h.0
end_else told a (end.Votes have need lacking) h = tt
end_else told a (end.Superseded q) h = tt
end_else told a (end.Foreign m) h = tt
end_else told a (end.Excluded m) h = tt

act_else : (told : Delivered) (node : Node) (disk : NodeRecord) (a : Act) → DoingFits told false (record { node = node; disk = disk }) (Does a) → ActElse a
act_else told Down disk a h = absurd h
act_else told (Up x) disk (Ends a e) h = end_else told a e h.1
act_else told (Up x) disk _ h = tt

doing_else : (told : Delivered) (x : Site) (d : Doing) → DoingFits told false x d → DoingElse d
doing_else told x (Does a) h = act_else told x.node x.disk a h
doing_else told x _ h = tt

pub all_else : (c : Cluster) (me : ℕ) (told : Delivered) (x : Site) (ds : List Doing) → AllFit c me told false x ds → AllElse ds
all_else c me told x [] h = tt
all_else c me told x (d ∷ ds) h = (doing_else told x d h.0, all_else c me told (effect c me x d) ds h.1)
