-- What a node gives in an ordinary course is quiet, and it names known devices after it.
use Rattle.std.specs.Prelude.{ℕ, ◌+◌, ◌≡◌, ◌++◌, List, [], ◌∷◌, Option, None, Some}
use Rattle.std.proofs.Common.{refl, ap, ◌∙◌}
use Rattle.std.specs.List.{AllByRecursion}
use Rattle.ccr_commit.specs.Entries.{all_committed}
use Rattle.ccr_tables.specs.State.{ConfigState}
use Rattle.cl_base.specs.Limits.{most_nodes}
use Rattle.cl_base.specs.Numbers.{numbers_to}
use Rattle.cmm_attempt.specs.Attempts.{AttemptState}
use Rattle.cmm_attempt.specs.Calls.{turn}
use Rattle.cmm_attempt.proofs.Basics.{if_either}
use Rattle.cmm_member.specs.Nodes.{NodeState}
use Rattle.cmm_member.specs.Records.{NodeRecord}
use Rattle.pgr_device.specs.declared.command.PrCommand.{PrCommand}
use Rattle.request_queue.specs.Queue as queue
use Rattle.request_queue.specs.declared.request.Request.{Request}
use Rattle.rg_props.specs.declared.group.Resource.{Resource}
use Rattle.rg_view.specs.States as states
use Rattle.rg_view.specs.declared.states.ResourceAt.{ResourceAt}
use Rattle.rg_view.specs.declared.view.GroupView.{GroupView}
use Rattle.seize.specs.Answers.{Answer}
use Rattle.status_report.specs.declared.entry.Entry.TheVariants as entry
use Rattle.wire.specs.declared.message.Body.{Body}
use Rattle.node_model.specs.Attempts.{adopted_line, adopted_lines, adopted_of, adopted_on, base_lines, is_adopted, starting_as}
use Rattle.node_model.specs.Configurations.{in_force}
use Rattle.node_model.specs.declared.cluster.Cluster.{Cluster}
use Rattle.node_model.specs.declared.node.Node.TheVariants.{Up}
use Rattle.node_model.specs.declared.node.UpNode.{UpNode}
use Rattle.node_model.specs.declared.output.Output.{Output}
use Rattle.node_model.specs.declared.output.Output.TheVariants.{Tells, Sends}
use Rattle.node_model.specs.declared.presidency.Presidency.{Presidency}
use Rattle.node_model.specs.Entries.{unknown_line, unknown_lines}
use Rattle.node_model.specs.Presidents.{sent_to}
use Rattle.node_model.specs.Seats.{coordinator_of, record_of}
use Rattle.node_model.specs.Ticks.{heartbeat_of, heartbeats_to, later, ticked_output}
use Rattle.node_model.specs.Updates.{request_again, request_again_by, request_again_to}
use Rattle.refinement.specs.Courses.{Course, Reply, under}
use Rattle.refinement.specs.Courses.Course.{Acts, Falls, Keeps, Stops}
use Rattle.refinement.specs.Courses.Reply.{Done, Lost_new, Lost_old}
use Rattle.refinement.specs.Doings.{Act, Change, acted, adopted_by, after_all, changed, command_line, first_lines, given_all, gone_line, last_lines, said, saved_lines, site, start_lines, superseded_lines}
use Rattle.refinement.specs.Doings.Act.{Accepts, Dates, Ends, Gives, Goes_on, Hears, Makes, Minds, Notes, Queues, Spreads, Stores, Takes, Ticks, Waits, Works, Writes}
use Rattle.refinement.specs.Doings.Change.{Acks, Admits, Commits, Counts, Distrusts, Installs, Leads, Prepares, Promises, Proposes, Sits, Starts}
use Rattle.run_history.specs.CommandLines.{AllQuiet, CommandFirst, GivesQuiet}
use Rattle.run_history.specs.Names.{NodeNames, UpNames}
use Rattle.run_history.proofs.Handlers.{IsAnswer}
use Rattle.run_history.proofs.Kept.{act_names, change_names, taken_names}
use Rattle.run_history.proofs.Lists.{both, mapped, of_each}
use Rattle.run_history.proofs.Ordinary.{ActsSo, ChangesSo, GivesAside, IsAside, IsOrdinary, Knows}

-- Asides are quiet.

quiet_entry : (e : _) → IsAside e → GivesQuiet (Tells e)
quiet_entry (entry.Command e) h = tt
quiet_entry (entry.Status e) h = tt
quiet_entry (entry.Call e) h = tt
quiet_entry (entry.Address e) h = tt
quiet_entry (entry.Answered e) h = absurd h
quiet_entry entry.Powered h = absurd h
quiet_entry (entry.Node n e) h = absurd h
quiet_entry (entry.Packet e) h = absurd h
quiet_entry (entry.Device e) h = absurd h
quiet_entry (entry.Attempt e) h = absurd h
quiet_entry (entry.Start e) h = absurd h
quiet_entry (entry.Update e) h = absurd h
quiet_entry (entry.Schedule e) h = absurd h

asides_quiet : (os : List Output) → AllByRecursion GivesAside os → AllQuiet os
asides_quiet [] h = tt
asides_quiet (Tells e ∷ os) h = (quiet_entry e h.0, asides_quiet os h.1)
asides_quiet (Sends to b ∷ os) h = (tt, asides_quiet os h.1)

-- The lines of changes.

superseded_quiet : (p : ℕ) (o : Option AttemptState) → AllQuiet (superseded_lines p o)
superseded_quiet p None = tt
superseded_quiet p (Some a) = (tt, tt)

unknown_quiet : (me : ℕ) (rs : List Request) → AllQuiet (unknown_lines me rs)
unknown_quiet me [] = tt
unknown_quiet me (r ∷ rs) = both GivesQuiet (unknown_line me r) (unknown_lines me rs) (if_either AllQuiet r.told _ [] (tt, tt) tt) (unknown_quiet me rs)

base_quiet : (e before : ℕ) (texts : List (List ℕ)) → AllQuiet (base_lines e before texts)
base_quiet e before [] = tt
base_quiet e before (text ∷ texts) = (tt, base_quiet e (before + 1) texts)

line_quiet : (e n : ℕ) (r : List ℕ) (s : ResourceAt) → AllQuiet (adopted_line e n r s)
line_quiet e n r s = if_either AllQuiet (is_adopted s) _ [] (tt, tt) tt

adopted_quiet : (e : ℕ) (v : GroupView) (resources : List (List ℕ × Resource)) → AllQuiet (adopted_lines e v resources)
unfolding adopted_lines
adopted_quiet e v resources =
    of_each GivesQuiet (adopted_on e v resources) (numbers_to v.members most_nodes)
    (λ n. of_each GivesQuiet (λ x. adopted_line e n x.0 (states.state_of v.resources x.0 n)) resources (λ x. line_quiet e n x.0 (states.state_of v.resources x.0 n)))

adopted_of_quiet : (e : ℕ) (s : ConfigState) (o : Option Presidency) → AllQuiet (adopted_of e s o)
adopted_of_quiet e s None = tt
adopted_of_quiet e s (Some p) = adopted_quiet e p.groups.view s.groups.resources

starts_quiet : (a : AttemptState) (s : NodeState) → AllQuiet (start_lines a s)
starts_quiet a s = (tt, base_quiet a.plan.epoch 0 (all_committed s.saved.entries).committed)

last_quiet : (c : Cluster) (me : ℕ) (x : UpNode) (change : Change) → AllQuiet (last_lines c me x change)
last_quiet c me x (Promises p) = both GivesQuiet (superseded_lines p x.attempt) (unknown_lines me x.requests.waiting) (superseded_quiet p x.attempt) (unknown_quiet me x.requests.waiting)
last_quiet c me x (Leads p members) = (tt, unknown_quiet me x.requests.waiting)
last_quiet c me x (Counts a k s i) = (tt, tt)
last_quiet c me x (Installs s i) = (tt, tt)
last_quiet c me x (Starts a k s) =
    let t : AttemptState = (turn a k).after in
    let y : UpNode = starting_as c me x t s in
    both GivesQuiet (start_lines t s) _ (starts_quiet t s)
    (both GivesQuiet (adopted_by c t y) _ (adopted_of_quiet t.plan.epoch (in_force c y) y.presidency) (tt, tt))
last_quiet c me x (Sits s e) = (tt, tt)
last_quiet c me x (Distrusts d) = tt
last_quiet c me x (Admits at command a d) = tt
last_quiet c me x (Proposes s p text) = tt
last_quiet c me x (Acks s p q left text) = (tt, tt)
last_quiet c me x (Prepares s text) = tt
last_quiet c me x (Commits s) = tt

first_quiet : (D : ℕ → Type 0) (me : ℕ) (change : Change) → ChangesSo D change → AllQuiet (first_lines me change)
first_quiet D me (Admits at command a d) h = absurd h
first_quiet D me (Proposes s p text) h = (tt, tt)
first_quiet D me (Promises p) h = tt
first_quiet D me (Leads p members) h = tt
first_quiet D me (Counts a k s i) h = tt
first_quiet D me (Installs s i) h = tt
first_quiet D me (Starts a k s) h = tt
first_quiet D me (Sits s e) h = tt
first_quiet D me (Distrusts d) h = tt
first_quiet D me (Acks s p q left text) h = tt
first_quiet D me (Prepares s text) h = tt
first_quiet D me (Commits s) h = tt

saved_quiet : (c : Cluster) (me : ℕ) (x : UpNode) (change : Change) → AllQuiet (saved_lines c me x change)
saved_quiet c me x change = (tt, last_quiet c me x change)

-- The lines of acts.

again_to_quiet : (x : UpNode) (r : Option Request) (o : Option ℕ) → AllQuiet (request_again_to x r o)
again_to_quiet x (Some r) (Some president) = (tt, tt)
again_to_quiet x None president = tt
again_to_quiet x (Some r) None = tt

again_by_quiet : (x : UpNode) (o : Option Presidency) → AllQuiet (request_again_by x o)
again_by_quiet x None =
    if_either AllQuiet (queue.goes_again x.requests) (request_again_to x (queue.oldest x.requests) (coordinator_of x)) []
    (again_to_quiet x (queue.oldest x.requests) (coordinator_of x)) tt
again_by_quiet x (Some p) = tt

heartbeats_quiet : (x : UpNode) (receivers : ℕ) → AllQuiet (heartbeats_to x receivers)
unfolding heartbeats_to
heartbeats_quiet x receivers = mapped GivesQuiet (λ n. Sends n (heartbeat_of x)) (numbers_to receivers most_nodes) (λ n. tt)

ticked_quiet : (c : Cluster) (before x : UpNode) → AllQuiet (ticked_output c before x)
ticked_quiet c before x = both GivesQuiet (heartbeats_to x _) (request_again before) (heartbeats_quiet x _) (again_by_quiet before before.presidency)

spread_quiet : (receivers : ℕ) (b : Body) → AllQuiet (sent_to receivers b)
unfolding sent_to
spread_quiet receivers b = mapped GivesQuiet (λ n. Sends n b) (numbers_to receivers most_nodes) (λ n. tt)

said_quiet : (D : ℕ → Type 0) (c : Cluster) (me : ℕ) (x : UpNode) (a : Act) → ActsSo D a → AllQuiet (said c me x a)
said_quiet D c me x (Hears from b) h = tt
said_quiet D c me x Ticks h = (tt, ticked_quiet c x (later c x))
said_quiet D c me x Waits h = tt
said_quiet D c me x (Goes_on a k) h = tt
said_quiet D c me x (Ends a e) h = (tt, tt)
said_quiet D c me x (Queues a d kind) h = tt
said_quiet D c me x (Accepts kind e members d) h = tt
said_quiet D c me x (Takes at command a) h = absurd h
said_quiet D c me x (Stores d value a) h = absurd h
said_quiet D c me x (Writes to b) h = (tt, tt)
said_quiet D c me x (Makes change) h = both GivesQuiet (first_lines me change) (last_lines c me x change) (first_quiet D me change h) (last_quiet c me x change)
said_quiet D c me x (Gives os) h = asides_quiet os h
said_quiet D c me x (Spreads receivers b) h = spread_quiet receivers b
said_quiet D c me x (Minds q p) h = tt
said_quiet D c me x (Notes from place p) h = tt
said_quiet D c me x (Dates now) h = tt
said_quiet D c me x (Works w) h = tt

-- Courses.

lost_quiet : (D : ℕ → Type 0) (me : ℕ) (change : Change) (why : _) → ChangesSo D change → AllQuiet ((first_lines me change ++ gone_line me why) ++ [])
lost_quiet D me change why h = both GivesQuiet (first_lines me change ++ gone_line me why) [] (both GivesQuiet (first_lines me change) (gone_line me why) (first_quiet D me change h) (tt, tt)) tt

pub course_quiet : (D : ℕ → Type 0) (c : Cluster) (me : ℕ) (x : UpNode) (disk : NodeRecord) (replies : List Reply) (k : Course) → IsOrdinary D k
    → AllQuiet (given_all c me (site (Up x) disk) (under replies k))
course_quiet D c me x disk replies Stops h = tt
course_quiet D c me x disk replies (Acts a rest) h =
    both GivesQuiet (said c me x a) (given_all c me (site (Up (acted c me x a)) disk) (under replies rest)) (said_quiet D c me x a h.0)
    (course_quiet D c me (acted c me x a) disk replies rest h.1)
course_quiet D c me x disk [] (Keeps change rest) h = lost_quiet D me change _ h.0
course_quiet D c me x disk (Done ∷ replies) (Keeps change rest) h =
    let y : UpNode = changed c me x change in
    both GivesQuiet (first_lines me change ++ saved_lines c me x change) (given_all c me (site (Up y) (record_of y)) (under replies rest))
    (both GivesQuiet (first_lines me change) (saved_lines c me x change) (first_quiet D me change h.0) (saved_quiet c me x change))
    (course_quiet D c me y (record_of y) replies rest h.1)
course_quiet D c me x disk (Lost_new why ∷ replies) (Keeps change rest) h = lost_quiet D me change why h.0
course_quiet D c me x disk (Lost_old why ∷ replies) (Keeps change rest) h = lost_quiet D me change why h.0
course_quiet D c me x disk replies (Falls why) h = (tt, tt)

pub course_names : (D : ℕ → Type 0) (c : Cluster) (me : ℕ) (x : UpNode) (disk : NodeRecord) (replies : List Reply) (k : Course) → Knows c D → UpNames D x → IsOrdinary D k
    → NodeNames D (after_all c me (site (Up x) disk) (under replies k)).node
course_names D c me x disk replies Stops K n h = n
course_names D c me x disk replies (Acts a rest) K n h = course_names D c me (acted c me x a) disk replies rest K (act_names D c me x a K h.0 n) h.1
course_names D c me x disk [] (Keeps change rest) K n h = tt
course_names D c me x disk (Done ∷ replies) (Keeps change rest) K n h =
    course_names D c me (changed c me x change) (record_of (changed c me x change)) replies rest K (change_names D c me x change K h.0 n) h.1
course_names D c me x disk (Lost_new why ∷ replies) (Keeps change rest) K n h = tt
course_names D c me x disk (Lost_old why ∷ replies) (Keeps change rest) K n h = tt
course_names D c me x disk replies (Falls why) K n h = tt

-- The command whose answer comes.

first_of : (me d at : ℕ) (k command : PrCommand) (a b : Answer) (others os : List Output) → at ≡ d → command ≡ k → b ≡ a → AllQuiet others → os ≡ command_line me at command b ++ others
    → CommandFirst me d k a os
first_of me d at k command a b others os d_is k_is a_is quiet is = record {
  others = others;
  first = is ∙ ap (λ z. command_line me z command b ++ others) d_is ∙ ap (λ z. command_line me d z b ++ others) k_is ∙ ap (λ z. command_line me d k z ++ others) a_is;
  quiet = quiet;
}

pub answer_first : (D : ℕ → Type 0) (c : Cluster) (me : ℕ) (x : UpNode) (disk : NodeRecord) (replies : List Reply) (d : ℕ) (k : PrCommand) (a : Answer) (course : Course)
    → IsAnswer D d k a course → CommandFirst me d k a (given_all c me (site (Up x) disk) (under replies course))
answer_first D c me x disk replies d k a (Acts (Takes at command b) rest) h =
    let y : UpNode = acted c me x (Takes at command b) in
    first_of me d at k command a b (given_all c me (site (Up y) disk) (under replies rest)) _ h.0 h.1 h.2 (course_quiet D c me y disk replies rest h.3) refl
answer_first D c me x disk [] d k a (Keeps (Admits at command b e) rest) h = first_of me d at k command a b (gone_line me _) _ h.0 h.1 h.2 (tt, tt) refl
answer_first D c me x disk (Done ∷ replies) d k a (Keeps (Admits at command b e) rest) h =
    let y : UpNode = changed c me x (Admits at command b e) in
    let quiet : AllQuiet (given_all c me (site (Up y) (record_of y)) (under replies rest)) = course_quiet D c me y (record_of y) replies rest h.3 in
    first_of me d at k command a b (saved_lines c me x (Admits at command b e) ++ given_all c me (site (Up y) (record_of y)) (under replies rest)) _ h.0 h.1 h.2 (tt, quiet) refl
answer_first D c me x disk (Lost_new why ∷ replies) d k a (Keeps (Admits at command b e) rest) h =
    first_of me d at k command a b (gone_line me why) _ h.0 h.1 h.2 (tt, tt) refl
answer_first D c me x disk (Lost_old why ∷ replies) d k a (Keeps (Admits at command b e) rest) h =
    first_of me d at k command a b (gone_line me why) _ h.0 h.1 h.2 (tt, tt) refl
answer_first D c me x disk replies d k a _ h = absurd h

pub answer_names : (D : ℕ → Type 0) (c : Cluster) (me : ℕ) (x : UpNode) (disk : NodeRecord) (replies : List Reply) (d : ℕ) (k : PrCommand) (a : Answer) (course : Course) → Knows c D
    → UpNames D x → IsAnswer D d k a course → NodeNames D (after_all c me (site (Up x) disk) (under replies course)).node
answer_names D c me x disk replies d k a (Acts (Takes at command b) rest) K n h = course_names D c me (acted c me x (Takes at command b)) disk replies rest K (taken_names D x b n) h.3
answer_names D c me x disk [] d k a (Keeps (Admits at command b e) rest) K n h = tt
answer_names D c me x disk (Done ∷ replies) d k a (Keeps (Admits at command b e) rest) K n h =
    let y : UpNode = changed c me x (Admits at command b e) in
    course_names D c me y (record_of y) replies rest K (taken_names D x b n) h.3
answer_names D c me x disk (Lost_new why ∷ replies) d k a (Keeps (Admits at command b e) rest) K n h = tt
answer_names D c me x disk (Lost_old why ∷ replies) d k a (Keeps (Admits at command b e) rest) K n h = tt
answer_names D c me x disk replies d k a _ K n h = absurd h
