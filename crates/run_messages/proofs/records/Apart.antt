-- What a node does with a Prepare or a Commit changes nothing else, and what a lost save ends in.
use Rattle.std.specs.Prelude.{ℕ, Bool, true, false, List, [], ◌∷◌, None, Some, length, if◌then◌else◌, ◌&&◌}
use Rattle.ccr_commit.specs.Entries.{answer_for, texts_of}
use Rattle.ccr_commit.specs.declared.entries.Prepared.{Prepared}
use Rattle.ccr_commit.specs.declared.entries.Prepared.TheVariants.{Taken, Already, Gap}
use Rattle.cl_base.specs.declared.method.Outcome.{Outcome}
use Rattle.cmm_member.specs.Nodes.{NodeState}
use Rattle.node_model.specs.Members.{hearing, is_foreign}
use Rattle.node_model.specs.Seats.{is_in}
use Rattle.node_model.specs.Steps.{at_second}
use Rattle.node_model.specs.Updates.{commits_now}
use Rattle.node_model.specs.declared.cluster.Cluster.{Cluster}
use Rattle.node_model.specs.declared.input.Input.{Input}
use Rattle.node_model.specs.declared.input.Input.TheVariants.{Boot, Crash, Tick, Packet, CommandDue, Answered, Wrote, Commanded, Reported, Client}
use Rattle.node_model.specs.declared.node.Node.{Node}
use Rattle.node_model.specs.declared.node.Node.TheVariants.{Down, Up}
use Rattle.node_model.specs.declared.node.UpNode.{UpNode}
use Rattle.node_model.specs.declared.seat.Seat.{Seat}
use Rattle.node_model.specs.declared.seat.Seat.TheVariants.{Forming, Member}
use Rattle.refinement.proofs.Handlers.{delivered_by}
use Rattle.refinement.specs.Courses.{Course, Reply, under}
use Rattle.refinement.specs.Courses.Course.{Acts, Falls, Keeps, Stops}
use Rattle.refinement.specs.Courses.Reply.{Done, Lost_new, Lost_old}
use Rattle.refinement.specs.Cuts as cuts
use Rattle.refinement.specs.Doings.{Act, Change}
use Rattle.refinement.specs.Doings.Act.{Accepts, Dates, Ends, Gives, Goes_on, Hears, Makes, Minds, Notes, Queues, Spreads, Stores, Takes, Ticks, Waits, Works, Writes}
use Rattle.refinement.specs.Doings.Change.{Acks, Admits, Commits, Counts, Distrusts, Installs, Leads, Prepares, Promises, Proposes, Sits, Starts}
use Rattle.refinement.specs.Ties.{Delivered}
use Rattle.wire.specs.declared.message.Body.{Body}
use Rattle.wire.specs.declared.message.Body.TheVariants as body
use Rattle.wire.specs.declared.message.Message.{Message}
use Rattle.run_messages.specs.records.Losses.{ActApart, AllApart, AreLosses, ChangeApart, GoesApart, IsNoUpdate, NoUpdate}

change_apart : (told : Delivered) (ch : Change) → NoUpdate told → ChangeApart told ch
change_apart told (Prepares s text) h = tt
change_apart told (Commits s) h = tt
change_apart told (Promises p) h = h
change_apart told (Leads p members) h = h
change_apart told (Counts a k s i) h = h
change_apart told (Installs s i) h = h
change_apart told (Starts a k s) h = h
change_apart told (Sits s e) h = h
change_apart told (Distrusts d) h = h
change_apart told (Admits at command a d) h = h
change_apart told (Proposes s p text) h = h
change_apart told (Acks s p q left text) h = h

act_apart : (told : Delivered) (a : Act) → NoUpdate told → ActApart told a
act_apart told (Makes ch) h = change_apart told ch h
act_apart told (Hears from b) h = tt
act_apart told Ticks h = tt
act_apart told Waits h = tt
act_apart told (Goes_on a k) h = tt
act_apart told (Ends a e) h = tt
act_apart told (Queues a d kind) h = tt
act_apart told (Accepts kind e members d) h = tt
act_apart told (Takes at command a) h = tt
act_apart told (Stores d value a) h = tt
act_apart told (Writes to b) h = tt
act_apart told (Gives os) h = tt
act_apart told (Spreads receivers b) h = tt
act_apart told (Minds q p) h = tt
act_apart told (Notes from place p) h = tt
act_apart told (Dates now) h = tt
act_apart told (Works w) h = tt

goes_apart : (told : Delivered) (k : Course) → NoUpdate told → GoesApart told k
goes_apart told Stops h = tt
goes_apart told (Acts a rest) h = (act_apart told a h, goes_apart told rest h)
goes_apart told (Keeps change rest) h = (change_apart told change h, goes_apart told rest h)
goes_apart told (Falls why) h = tt

either : (told : Delivered) (b : Bool) (k l : Course) → GoesApart told k → GoesApart told l → GoesApart told (if b then k else l)
either told true k l h i = h
either told false k l h i = i

preparing : (told : Delivered) (from e place : ℕ) (s : NodeState) (text : List ℕ) (o : Prepared) → GoesApart told (cuts.preparing_course from e place s text o)
preparing told from e place s text Taken = (tt, (tt, tt))
preparing told from e place s text Already = (tt, tt)
preparing told from e place s text (Gap k) = tt

prepare : (told : Delivered) (x : UpNode) (from e place : ℕ) (text : List ℕ) (seat : Seat) → GoesApart told (cuts.prepare_course x from e place text seat)
prepare told x from e place text (Forming s) = tt
prepare told x from e place text (Member s) = either told (is_in x e) _ _ (preparing told from e place s text (answer_for (length (texts_of s.saved.entries)) place)) tt

commit : (told : Delivered) (x : UpNode) (e place : ℕ) (seat : Seat) → GoesApart told (cuts.commit_course x e place seat)
commit told x e place (Forming s) = tt
commit told x e place (Member s) = either told (is_in x e && commits_now s place) _ _ (tt, tt) tt

by_body : (c : Cluster) (me : ℕ) (outcome : Outcome) (x : UpNode) (from : ℕ) (m : Message) (told : Delivered) (b : Body) → (IsNoUpdate b → NoUpdate told) → GoesApart told (cuts.body_course c me outcome x from m b)
by_body c me outcome x from m told (body.Prepare e place text) none = prepare told x from e place text x.seat
by_body c me outcome x from m told (body.Commit e place) none = commit told x e place x.seat
by_body c me outcome x from m told (body.Heartbeat promised session is_one) none = goes_apart told (cuts.body_course c me outcome x from m (body.Heartbeat promised session is_one)) (none tt)
by_body c me outcome x from m told (body.Collect p members) none = goes_apart told (cuts.body_course c me outcome x from m (body.Collect p members)) (none tt)
by_body c me outcome x from m told (body.Promise p newest members valid flagged committed pending) none = goes_apart told (cuts.body_course c me outcome x from m (body.Promise p newest members valid flagged committed pending)) (none tt)
by_body c me outcome x from m told (body.Nack p promised) none = goes_apart told (cuts.body_course c me outcome x from m (body.Nack p promised)) (none tt)
by_body c me outcome x from m told (body.SeizeQuorum p members d) none = goes_apart told (cuts.body_course c me outcome x from m (body.SeizeQuorum p members d)) (none tt)
by_body c me outcome x from m told (body.SeizeData p members d) none = goes_apart told (cuts.body_course c me outcome x from m (body.SeizeData p members d)) (none tt)
by_body c me outcome x from m told (body.Seized p d ended) none = goes_apart told (cuts.body_course c me outcome x from m (body.Seized p d ended)) (none tt)
by_body c me outcome x from m told (body.Install i) none = goes_apart told (cuts.body_course c me outcome x from m (body.Install i)) (none tt)
by_body c me outcome x from m told (body.Ready p joined report) none = goes_apart told (cuts.body_course c me outcome x from m (body.Ready p joined report)) (none tt)
by_body c me outcome x from m told (body.Start p) none = goes_apart told (cuts.body_course c me outcome x from m (body.Start p)) (none tt)
by_body c me outcome x from m told (body.Prepared p place) none = goes_apart told (cuts.body_course c me outcome x from m (body.Prepared p place)) (none tt)
by_body c me outcome x from m told (body.Order o) none = goes_apart told (cuts.body_course c me outcome x from m (body.Order o)) (none tt)
by_body c me outcome x from m told (body.Done p number ended) none = goes_apart told (cuts.body_course c me outcome x from m (body.Done p number ended)) (none tt)
by_body c me outcome x from m told (body.Request p number text) none = goes_apart told (cuts.body_course c me outcome x from m (body.Request p number text)) (none tt)
by_body c me outcome x from m told (body.Answer p number text) none = goes_apart told (cuts.body_course c me outcome x from m (body.Answer p number text)) (none tt)
by_body c me outcome x from m told (body.Excluded p newest) none = goes_apart told (cuts.body_course c me outcome x from m (body.Excluded p newest)) (none tt)

course_apart : (c : Cluster) (me now : ℕ) (outcome : Outcome) (x : UpNode) (i : Input) → GoesApart (delivered_by i) (cuts.course_at c me now outcome x i)
course_apart c me now outcome x (Packet from m) =
    let y : UpNode = at_second now x in
    (tt, either (Some (from, m)) (is_foreign c me y m.body) _ _ tt (tt, by_body c me outcome (hearing y from m.body) from m (Some (from, m)) m.body (λ is. is)))
course_apart c me now outcome x Boot = goes_apart None (cuts.course_at c me now outcome x Boot) tt
course_apart c me now outcome x Crash = goes_apart None (cuts.course_at c me now outcome x Crash) tt
course_apart c me now outcome x Tick = goes_apart None (cuts.course_at c me now outcome x Tick) tt
course_apart c me now outcome x CommandDue = goes_apart None (cuts.course_at c me now outcome x CommandDue) tt
course_apart c me now outcome x (Answered a) = goes_apart None (cuts.course_at c me now outcome x (Answered a)) tt
course_apart c me now outcome x (Wrote d value a) = goes_apart None (cuts.course_at c me now outcome x (Wrote d value a)) tt
course_apart c me now outcome x (Commanded words) = goes_apart None (cuts.course_at c me now outcome x (Commanded words)) tt
course_apart c me now outcome x (Reported r good) = goes_apart None (cuts.course_at c me now outcome x (Reported r good)) tt
course_apart c me now outcome x (Client name client port) = goes_apart None (cuts.course_at c me now outcome x (Client name client port)) tt

-- ---- under replies of the disk

under_apart : (told : Delivered) (replies : List Reply) (k : Course) → AreLosses replies → GoesApart told k → AllApart told (under replies k)
under_apart told replies Stops l h = tt
under_apart told replies (Acts a rest) l h = (h.0, under_apart told replies rest l h.1)
under_apart told [] (Keeps change rest) l h = (tt, tt)
under_apart told (Done ∷ replies) (Keeps change rest) l h = (h.0, under_apart told replies rest l h.1)
under_apart told (Lost_new why ∷ replies) (Keeps change rest) l h = (l.0, tt)
under_apart told (Lost_old why ∷ replies) (Keeps change rest) l h = (l.0, tt)
under_apart told replies (Falls why) l h = (tt, tt)

boot_apart : (told : Delivered) (replies : List Reply) → AllApart told (cuts.boot_doings replies)
boot_apart told [] = (tt, (tt, tt))
boot_apart told (Done ∷ replies) = (tt, tt)
boot_apart told (Lost_new why ∷ replies) = (tt, (tt, tt))
boot_apart told (Lost_old why ∷ replies) = (tt, (tt, tt))

pub doings_apart : (c : Cluster) (me now : ℕ) (ends : Outcome) (replies : List Reply) (i : Input) (node : Node) → AreLosses replies → AllApart (delivered_by i) (cuts.doings c me now ends replies i node)
doings_apart c me now ends replies i (Up x) l = under_apart (delivered_by i) replies (cuts.course_at c me now ends x i) l (course_apart c me now ends x i)
doings_apart c me now ends replies Boot Down l = boot_apart None replies
doings_apart c me now ends replies Crash Down l = tt
doings_apart c me now ends replies Tick Down l = tt
doings_apart c me now ends replies (Packet from m) Down l = tt
doings_apart c me now ends replies CommandDue Down l = tt
doings_apart c me now ends replies (Answered a) Down l = tt
doings_apart c me now ends replies (Wrote d value a) Down l = tt
doings_apart c me now ends replies (Commanded words) Down l = tt
doings_apart c me now ends replies (Reported r good) Down l = tt
doings_apart c me now ends replies (Client name client port) Down l = tt
