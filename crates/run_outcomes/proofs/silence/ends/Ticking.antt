-- A node tells a tick where its clock ticks, first of all, and nowhere else.
use Rattle.std.specs.Prelude.{ℕ, ◌++◌, nat_le, nat_lt, List, [], ◌∷◌, Option, None, Some}
use Rattle.std.specs.List.{AllByRecursion}
use Rattle.cl_base.specs.Limits.{most_nodes}
use Rattle.cl_base.specs.Numbers.{numbers_to}
use Rattle.cl_base.specs.declared.method.Outcome as method
use Rattle.cmm_attempt.proofs.Basics.{if_either}
use Rattle.cmm_attempt.specs.Attempts.{AttemptState}
use Rattle.cmm_attempt.specs.Calls.{Tick as Call_tick}
use Rattle.cmm_member.specs.Records.{NodeRecord}
use Rattle.device_queue.specs.Queue.{begins_plainly, due_device, next_of}
use Rattle.node_model.specs.Members.{hearing, is_foreign}
use Rattle.node_model.specs.Presidents.{sent_to}
use Rattle.node_model.specs.Seats.{promised_of}
use Rattle.node_model.specs.Ticks.{members_to_form, ticked_output, waiting_less}
use Rattle.node_model.specs.Ticks as clock
use Rattle.node_model.specs.declared.cluster.Cluster.{Cluster}
use Rattle.node_model.specs.declared.input.Input.{Input}
use Rattle.node_model.specs.declared.input.Input.TheVariants.{Answered, Boot, Client, CommandDue, Commanded, Crash, Packet, Reported, Tick, Wrote}
use Rattle.node_model.specs.declared.node.Node.TheVariants.{Up}
use Rattle.node_model.specs.declared.node.UpNode.{UpNode}
use Rattle.node_model.specs.declared.output.Output.{Output}
use Rattle.node_model.specs.declared.output.Output.TheVariants.{Sends, Tells}
use Rattle.refinement.specs.Courses.{Course, Reply, joined, under}
use Rattle.refinement.specs.Courses.Course.{Acts, Falls, Keeps, Stops}
use Rattle.refinement.specs.Courses.Reply.{Done, Lost_new, Lost_old}
use Rattle.refinement.specs.Cuts as cuts
use Rattle.refinement.specs.Doings.{Act, Change, acted, changed, first_lines, given_all, gone_line, last_lines, said, saved_lines, site, write_lines}
use Rattle.refinement.specs.Doings.Act.{Accepts, Dates, Ends, Gives, Goes_on, Hears, Makes, Minds, Notes, Queues, Spreads, Stores, Takes, Ticks, Waits, Works, Writes}
use Rattle.refinement.specs.Doings.Change.{Acks, Admits, Commits, Counts, Distrusts, Installs, Leads, Prepares, Promises, Proposes, Sits, Starts}
use Rattle.run_attempts.proofs.Courses.{answer_taken_calm, begun_calm, body_calm, client_calm, command_calm, distrusting_calm, fenced_calm, going_calm, report_calm}
use Rattle.run_attempts.proofs.Mild.{AreMild, IsMild, first_mild, last_mild, unknown_mild}
use Rattle.run_attempts.proofs.Staid.{governing_staid}
use Rattle.run_attempts.specs.Steps.{CalmAct, CalmChange, IsCalm, IsStaid, StaidAct}
use Rattle.run_history.proofs.Lists.{both, mapped}
use Rattle.run_history.specs.Marks.{ActSo, AllSo, AreMinor, IsMinor}
use Rattle.seize.specs.Answers.{Answer}
use Rattle.pgr_device.specs.declared.command.PrAnswer.TheVariants as given
use Rattle.std.specs.Prelude.{Ok}
use Rattle.status_report.specs.declared.entry.Entry.{Entry}
use Rattle.status_report.specs.declared.entry.Entry.TheVariants as entry
use Rattle.status_report.specs.declared.node_entry.NodeEntry.TheVariants as note
use Rattle.wire.specs.declared.message.Body.{Body}

-- ---- courses in which no clock ticks

abbrev NoClock : Act → Type 0
NoClock Ticks = ⊥
NoClock _ = Unit {0}

abbrev pub Clockless : Course → Type 0
Clockless Stops = Unit {0}
Clockless (Acts a rest) = NoClock a × Clockless rest
Clockless (Keeps change rest) = Clockless rest
Clockless (Falls why) = Unit {0}

calm_act : (a : Act) → CalmAct a → NoClock a
calm_act Ticks h = h
calm_act _ h = tt

calm_clock : (k : Course) → IsCalm k → Clockless k
calm_clock Stops h = tt
calm_clock (Acts a rest) h = (calm_act a h.0, calm_clock rest h.1)
calm_clock (Keeps change rest) h = calm_clock rest h.1
calm_clock (Falls why) h = tt

staid_act : (a : Act) → StaidAct a → NoClock a
staid_act Ticks h = h
staid_act _ h = tt

staid_clock : (k : Course) → IsStaid k → Clockless k
staid_clock Stops h = tt
staid_clock (Acts a rest) h = (staid_act a h.0, staid_clock rest h.1)
staid_clock (Keeps change rest) h = staid_clock rest h.1
staid_clock (Falls why) h = tt

then_clock : (c : Cluster) (me : ℕ) (x : UpNode) (k : Course) (next : UpNode → Course) → Clockless k → ((y : UpNode) → Clockless (next y)) → Clockless (joined c me x k next)
then_clock c me x Stops next h f = f x
then_clock c me x (Acts a rest) next h f = (h.0, then_clock c me (acted c me x a) rest next h.1 f)
then_clock c me x (Keeps change rest) next h f = then_clock c me (changed c me x change) rest next h f
then_clock c me x (Falls why) next h f = tt

leading_clock : (c : Cluster) (me : ℕ) (x : UpNode) (p members : ℕ) → Clockless (cuts.leading_course c me x p members)
leading_clock c me x p members =
    if_either Clockless (nat_lt (promised_of x) p) (Keeps (Leads p members) (cuts.begun_course c me (changed c me x (Leads p members)) (cuts.first_turn c me x p members))) Stops
    (calm_clock (cuts.begun_course c me (changed c me x (Leads p members)) (cuts.first_turn c me x p members)) (begun_calm c me (changed c me x (Leads p members)) (cuts.first_turn c me x p members))) tt

forming_clock : (c : Cluster) (me : ℕ) (x : UpNode) (o : Option ℕ) → Clockless (cuts.forming_course c me x o)
forming_clock c me x None = tt
forming_clock c me x (Some members) = leading_clock c me x _ members

ticked_clock : (c : Cluster) (me : ℕ) (x : UpNode) (o : Option AttemptState) → Clockless (cuts.ticked_course c me x o)
ticked_clock c me x (Some a) = calm_clock (cuts.ticked_course c me x (Some a)) (going_calm c me x a Call_tick)
ticked_clock c me x None =
    let y : UpNode = waiting_less x in
    if_either Clockless (nat_le 1 x.beats.wait) (Acts Waits Stops) (Acts Waits (cuts.forming_course c me y (members_to_form c me y))) (tt, tt) (tt, forming_clock c me y (members_to_form c me y))

-- what follows where the clock has ticked
pub behind_tick : (c : Cluster) (me : ℕ) (ends : method.Outcome) (x : UpNode)
    → Clockless (joined c me (clock.later c x) (cuts.governing_course c me ends x (clock.later c x)) (λ y. cuts.ticked_course c me y y.attempt))
behind_tick c me ends x =
    let y : UpNode = clock.later c x in
    then_clock c me y (cuts.governing_course c me ends x y) (λ z. cuts.ticked_course c me z z.attempt) (staid_clock (cuts.governing_course c me ends x y) (governing_staid c me ends x y)) (λ z. ticked_clock c me z z.attempt)

abbrev pub NoTick : Input → Type 0
NoTick Tick = ⊥
NoTick _ = Unit {0}

pub course_clock : (c : Cluster) (me : ℕ) (ends : method.Outcome) (x : UpNode) (i : Input) → NoTick i → Clockless (cuts.course_of c me ends x i)
course_clock c me ends x Tick none = absurd none
course_clock c me ends x Boot none = tt
course_clock c me ends x Crash none = tt
course_clock c me ends x (Packet from m) none =
    let y : UpNode = hearing x from m.body in
    if_either Clockless (is_foreign c me x m.body) Stops (Acts (Hears from m.body) (cuts.body_course c me ends y from m m.body)) tt (tt, calm_clock (cuts.body_course c me ends y from m m.body) (body_calm c me ends y from m m.body))
course_clock c me ends x CommandDue none = calm_clock (cuts.distrusting_course x (begins_plainly x.tasks)) (distrusting_calm x (begins_plainly x.tasks))
course_clock c me ends x (Answered a) none = calm_clock (cuts.answered_course c me x a (due_device x.tasks) (next_of x.tasks)) (answer_taken_calm c me x a (due_device x.tasks) (next_of x.tasks))
course_clock c me ends x (Wrote d value a) none = (tt, calm_clock (cuts.fenced_course d a) (fenced_calm d a))
course_clock c me ends x (Commanded words) none = calm_clock (cuts.command_course c me x words) (command_calm c me x words)
course_clock c me ends x (Reported r good) none = calm_clock (cuts.report_course c me x r good) (report_calm c me x r good)
course_clock c me ends x (Client name client port) none = calm_clock (cuts.client_course c x name client port) (client_calm c x name client port)

-- ---- lines that tell no tick

abbrev NoneTicked : Entry → Type 0
NoneTicked (entry.Node m note.Ticked) = ⊥
NoneTicked _ = Unit {0}

abbrev pub Untold : Output → Type 0
Untold (Tells e) = NoneTicked e
Untold (Sends to b) = Unit {0}

abbrev pub AreUntold : List Output → Type 0
AreUntold os = AllByRecursion Untold os

mild_line : (e : Entry) → IsMild (Tells e) → NoneTicked e
mild_line (entry.Node m note.Ticked) h = h
mild_line _ h = tt

mild_untold : (os : List Output) → AreMild os → AreUntold os
mild_untold [] h = tt
mild_untold (Tells e ∷ os) h = (mild_line e h.0, mild_untold os h.1)
mild_untold (Sends to b ∷ os) h = (tt, mild_untold os h.1)

minor_line : (e : Entry) → IsMinor e → NoneTicked e
minor_line (entry.Node m note.Ticked) h = absurd h
minor_line _ h = tt

minor_untold : (os : List Output) → AreMinor os → AreUntold os
minor_untold [] h = tt
minor_untold (Tells e ∷ os) h = (minor_line e h.0, minor_untold os h.1)
minor_untold (Sends to b ∷ os) h = (tt, minor_untold os h)

spread_untold : (receivers : ℕ) (b : Body) → AreUntold (sent_to receivers b)
unfolding sent_to
spread_untold receivers b = mapped Untold (λ n. Sends n b) (numbers_to receivers most_nodes) (λ n. tt)

first_untold : (n : ℕ) (change : Change) → AreUntold (first_lines n change)
first_untold n change = mild_untold (first_lines n change) (first_mild n change)

calm_untold : (c : Cluster) (n : ℕ) (x : UpNode) (change : Change) → CalmChange change → AreUntold (last_lines c n x change)
calm_untold c n x change calm = mild_untold (last_lines c n x change) (last_mild c n x change calm)

last_untold : (c : Cluster) (n : ℕ) (x : UpNode) (change : Change) → AreUntold (last_lines c n x change)
last_untold c n x (Leads p members) = (tt, mild_untold _ (unknown_mild n x.requests.waiting))
last_untold c n x (Promises p) = calm_untold c n x (Promises p) tt
last_untold c n x (Counts a q s i) = calm_untold c n x (Counts a q s i) tt
last_untold c n x (Installs s i) = calm_untold c n x (Installs s i) tt
last_untold c n x (Starts a q s) = calm_untold c n x (Starts a q s) tt
last_untold c n x (Sits s e) = calm_untold c n x (Sits s e) tt
last_untold c n x (Distrusts d) = calm_untold c n x (Distrusts d) tt
last_untold c n x (Admits at q a d) = calm_untold c n x (Admits at q a d) tt
last_untold c n x (Proposes s p text) = calm_untold c n x (Proposes s p text) tt
last_untold c n x (Acks s p q left text) = calm_untold c n x (Acks s p q left text) tt
last_untold c n x (Prepares s text) = calm_untold c n x (Prepares s text) tt
last_untold c n x (Commits s) = calm_untold c n x (Commits s) tt

saved_untold : (c : Cluster) (n : ℕ) (x : UpNode) (change : Change) → AreUntold (first_lines n change ++ saved_lines c n x change)
saved_untold c n x change = both Untold (first_lines n change) (saved_lines c n x change) (first_untold n change) (tt, last_untold c n x change)

write_untold : (n : ℕ) (x : UpNode) (d value : ℕ) (a : Answer) → AreUntold (write_lines n x d value a)
write_untold n x d value (Ok given.Good) = (tt, tt)
write_untold n x d value (Ok given.Conflict) = (tt, tt)
write_untold n x d value _ = (tt, tt)

said_untold : (c : Cluster) (n : ℕ) (x : UpNode) (a : Act) → ActSo a → NoClock a → AreUntold (said c n x a)
said_untold c n x Ticks so none = absurd none
said_untold c n x (Ends a e) so none = (tt, tt)
said_untold c n x (Takes at q a) so none = (tt, tt)
said_untold c n x (Stores d value a) so none = (tt, write_untold n x d value a)
said_untold c n x (Writes to b) so none = (tt, tt)
said_untold c n x (Makes change) so none = both Untold (first_lines n change) (last_lines c n x change) (first_untold n change) (last_untold c n x change)
said_untold c n x (Gives os) so none = minor_untold os so
said_untold c n x (Spreads receivers b) so none = spread_untold receivers b
said_untold c n x (Hears from b) so none = tt
said_untold c n x Waits so none = tt
said_untold c n x (Goes_on a q) so none = tt
said_untold c n x (Queues a d kind) so none = tt
said_untold c n x (Accepts kind e members d) so none = tt
said_untold c n x (Minds q p) so none = tt
said_untold c n x (Notes from place p) so none = tt
said_untold c n x (Dates now) so none = tt
said_untold c n x (Works w) so none = tt

gone_untold : (n : ℕ) (change : Change) (why : _) → AreUntold ((first_lines n change ++ gone_line n why) ++ [])
gone_untold n change why = both Untold (first_lines n change ++ gone_line n why) [] (both Untold (first_lines n change) (gone_line n why) (first_untold n change) (tt, tt)) tt

-- a course, under all replies of the disk
pub course_untold : (c : Cluster) (n : ℕ) (replies : List Reply) (disk : NodeRecord) (x : UpNode) (q : Course) → AllSo (under replies q) → Clockless q → AreUntold (given_all c n (site (Up x) disk) (under replies q))
course_untold c n replies disk x Stops so none = tt
course_untold c n replies disk x (Acts a rest) so none =
    both Untold (said c n x a) _ (said_untold c n x a so.0 none.0) (course_untold c n replies disk (acted c n x a) rest so.1 none.1)
course_untold c n [] disk x (Keeps change rest) so none = gone_untold n change _
course_untold c n (Done ∷ replies) disk x (Keeps change rest) so none =
    both Untold (first_lines n change ++ saved_lines c n x change) _ (saved_untold c n x change) (course_untold c n replies _ (changed c n x change) rest so.1 none)
course_untold c n (Lost_new why ∷ replies) disk x (Keeps change rest) so none = gone_untold n change why
course_untold c n (Lost_old why ∷ replies) disk x (Keeps change rest) so none = gone_untold n change why
course_untold c n replies disk x (Falls why) so none = (tt, tt)
