-- A course of a node that is up, under all replies of its disk, leaves each answer explained.
use Rattle.std.specs.Prelude.{ℕ, ◌≡◌, ◌==◌, ◌&&◌, ◌++◌, Bool, true, false, List, [], ◌∷◌, Option, None, Some, Ok}
use Rattle.std.specs.List.{AllByRecursion}
use Rattle.std.proofs.Common.{sym, ap, subst, ◌∙◌, arith}
use Rattle.cl_base.specs.Limits.{most_nodes}
use Rattle.cl_base.specs.Numbers.{numbers_to}
use Rattle.cl_base.specs.Sets.{has}
use Rattle.cl_base.specs.declared.header.Version.{Version}
use Rattle.cmm_attempt.proofs.Basics.{if_either}
use Rattle.cmm_attempt.specs.Attempts.{AttemptState}
use Rattle.cmm_member.specs.Records.{NodeRecord}
use Rattle.device_queue.specs.Queue.{after_seize}
use Rattle.heartbeats.specs.Views.{receivers_of}
use Rattle.pgr_device.specs.declared.command.PrAnswer.TheVariants as given
use Rattle.request_queue.specs.Queue as queue
use Rattle.request_queue.specs.declared.request.Request.{Request}
use Rattle.seize.specs.Answers.{Answer}
use Rattle.seize.specs.Seizing as seizing
use Rattle.status_report.specs.declared.attempt_entry.AttemptEntry.TheVariants as attempt
use Rattle.status_report.specs.declared.entry.Entry.{Entry}
use Rattle.status_report.specs.declared.entry.Entry.TheVariants as entry
use Rattle.status_report.specs.declared.node_entry.DownCause.{DownCause}
use Rattle.status_report.specs.declared.node_entry.NodeEntry.TheVariants as note
use Rattle.wire.specs.declared.message.Body.{Body}
use Rattle.history.specs.Letters.{Letter, arrived, passes}
use Rattle.history.specs.Member.{in_collect, member_of}
use Rattle.history.specs.Moment.{Moment, Told}
use Rattle.history.specs.Names as name
use Rattle.history.specs.Names.{same_name}
use Rattle.history.specs.Setting.{Setting, coordinator}
use Rattle.node_model.specs.Configurations.{configured_at}
use Rattle.node_model.specs.Entries.{unknown_lines}
use Rattle.node_model.specs.Members.{promised_so, rested_by}
use Rattle.node_model.specs.Presidents.{sent_to}
use Rattle.node_model.specs.Seats.{coordinator_of, promising, record_of, version_of}
use Rattle.node_model.specs.Ticks.{heartbeat_of, heartbeats_to, later, ticked_output}
use Rattle.node_model.specs.Updates.{later_presidency, request_again, request_again_by, request_again_to}
use Rattle.node_model.specs.declared.cluster.Cluster.{Cluster}
use Rattle.node_model.specs.declared.input.Input.{Input}
use Rattle.node_model.specs.declared.node.Node.{Node}
use Rattle.node_model.specs.declared.node.Node.TheVariants.{Down, Up}
use Rattle.node_model.specs.declared.node.UpNode.{UpNode}
use Rattle.node_model.specs.declared.output.Output.{Output}
use Rattle.node_model.specs.declared.output.Output.TheVariants.{Sends, Tells}
use Rattle.node_model.specs.declared.presidency.Presidency.{Presidency}
use Rattle.refinement.specs.Courses.{Course, Reply, under}
use Rattle.refinement.specs.Courses.Course.{Acts, Falls, Keeps, Stops}
use Rattle.refinement.specs.Courses.Reply.{Done, Lost_new, Lost_old}
use Rattle.refinement.specs.Doings.{Act, Change, acted, after_all, changed, effect, first_lines, given_all, gone_line, last_lines, of_node, said, saved_lines, site, superseded_lines, write_lines}
use Rattle.refinement.specs.Doings.Act.{Accepts, Dates, Ends, Gives, Goes_on, Hears, Makes, Minds, Notes, Queues, Spreads, Stores, Takes, Ticks, Waits, Works, Writes}
use Rattle.refinement.specs.Doings.Change.{Acks, Admits, Commits, Counts, Distrusts, Installs, Leads, Prepares, Promises, Proposes, Sits, Starts}
use Rattle.refinement.specs.Doings.Doing.{Saves}
use Rattle.run_history.proofs.Idle.{if_true, passing_append}
use Rattle.run_history.proofs.Lists.{both, mapped}
use Rattle.run_history.specs.Scenes.{Scene, passing, telling}
use Rattle.run_commands.proofs.carried.Carried.{IsMute}
use Rattle.run_commands.proofs.carried.Mute.{first_mute, last_mute}
use Rattle.run_commands.specs.Answers.{AreReasoned}
use Rattle.run_commands.specs.Guards.{AreQuiet, IsQuietOutput}
use Rattle.run_commands.specs.Reads.{ActReads, AllSo, BodySo, ChangeReads, GoesRead, IsStarting, LineSo, OfficeReads, OutputSo, OwnReplies, ReadsIn, collects}
use Rattle.run_commands.proofs.Explained.{Gone, Now, SendsSo, gone_all, line_gone, promised_gone}
use Rattle.run_commands.proofs.Offices.{nothing_reads}
use Rattle.run_commands.proofs.Quiet.{GoesOn, first_quiet, last_quiet}

-- what is known between two small steps of a node that is up
pub record Between (S : Setting) (n : ℕ) (i : Input) (o : OwnReplies) (v : Version) (x : UpNode) (s : Scene) : Type 0 where
  pub reads : ReadsIn v x
  pub now : Now S n o s.moments
  pub at : in_collect n s.moments ≡ collects i
  pub explained : AreReasoned S s.moments

-- after an act or a change
record Shown (S : Setting) (n : ℕ) (o : OwnReplies) (v : Version) (y : UpNode) (os : List Output) (s : Scene) : Type 0 where
  reads : ReadsIn v y
  gone : Gone S n o os s

collects_same : (n : ℕ) (before after : List Moment) → arrived after ≡ arrived before → in_collect n after ≡ in_collect n before
collects_same n before after same = ap (λ (k : Option Letter). passes (λ l. same_name l.name name.Collect && (l.to == n)) k) same

shown_all : (S : Setting) (n : ℕ) (i : Input) (o : OwnReplies) (v : Version) (x y : UpNode) (os : List Output) (s : Scene) → AllSo n o os → ReadsIn v y → Between S n i o v x s → Shown S n o v y os s
shown_all S n i o v x y os s so reads b = record { reads = reads; gone = gone_all S n o os s so b.now b.explained }

-- ---- lines and messages

write_so : (n : ℕ) (o : OwnReplies) (x : UpNode) (d value : ℕ) (a : Answer) → AllSo n o (write_lines n x d value a)
write_so n o x d value (Ok given.Good) = (tt, tt)
write_so n o x d value (Ok given.Conflict) = (tt, tt)
write_so n o x d value _ = (tt, tt)

spread_so : (n : ℕ) (o : OwnReplies) (receivers : ℕ) (b : Body) → BodySo b → AllSo n o (sent_to receivers b)
unfolding sent_to
spread_so n o receivers b so = mapped (OutputSo n o) (λ k. Sends k b) (numbers_to receivers most_nodes) (λ k. so)

beats_so : (n : ℕ) (o : OwnReplies) (x : UpNode) (receivers : ℕ) → AllSo n o (heartbeats_to x receivers)
unfolding heartbeats_to
beats_so n o x receivers = mapped (OutputSo n o) (λ k. Sends k (heartbeat_of x)) (numbers_to receivers most_nodes) (λ k. tt)

again_to_so : (n : ℕ) (o : OwnReplies) (x : UpNode) (r : Option Request) (to : Option ℕ) → AllSo n o (request_again_to x r to)
again_to_so n o x (Some r) (Some president) = (tt, tt)
again_to_so n o x None president = tt
again_to_so n o x (Some r) None = tt

again_by_so : (n : ℕ) (o : OwnReplies) (x : UpNode) (p : Option Presidency) → AllSo n o (request_again_by x p)
again_by_so n o x None =
    if_either (AllSo n o) (queue.goes_again x.requests) (request_again_to x (queue.oldest x.requests) (coordinator_of x)) [] (again_to_so n o x (queue.oldest x.requests) (coordinator_of x)) tt
again_by_so n o x (Some p) = tt

ticked_so : (n : ℕ) (o : OwnReplies) (c : Cluster) (x : UpNode) → AllSo n o (ticked_output c x (later c x))
ticked_so n o c x =
    both (OutputSo n o) (heartbeats_to (later c x) (receivers_of (later c x).beats (configured_at c (later c x)))) (request_again x)
    (beats_so n o (later c x) (receivers_of (later c x).beats (configured_at c (later c x)))) (again_by_so n o x x.presidency)

later_reads : (v : Version) (o : Option Presidency) → OfficeReads v o → OfficeReads v (later_presidency o)
later_reads v None h = tt
later_reads v (Some p) h = h

-- a line of no command
quiet_line : (n : ℕ) (o : OwnReplies) (e : Entry) → IsQuietOutput (Tells e) → LineSo n o e
quiet_line n o (entry.Command e) quiet = absurd quiet
quiet_line n o (entry.Packet e) quiet = absurd quiet
quiet_line n o _ quiet = tt

lines_so : (n : ℕ) (o : OwnReplies) (os : List Output) → AreQuiet os → AllByRecursion IsMute os → AllSo n o os
lines_so n o [] quiet mute = tt
lines_so n o (Tells e ∷ os) quiet mute = (quiet_line n o e quiet.0, lines_so n o os quiet.1 mute.1)
lines_so n o (Sends to b ∷ os) quiet mute = absurd mute.0

-- ---- changes

change_so : (c : Cluster) (n : ℕ) (o : OwnReplies) (x : UpNode) (change : Change) (middle : List Output) → GoesOn change → AllSo n o middle → AllSo n o (first_lines n change ++ (middle ++ last_lines c n x change))
change_so c n o x change middle on so =
    both (OutputSo n o) (first_lines n change) _ (lines_so n o (first_lines n change) (first_quiet n change) (first_mute n change))
    (both (OutputSo n o) middle (last_lines c n x change) so (lines_so n o (last_lines c n x change) (last_quiet c n x change on) (last_mute c n x change)))

same_is : (k : ℕ) → (k == k) ≡ true
same_is k = grind arith

both_true : (a b : Bool) → a ≡ true → b ≡ true → (a && b) ≡ true
both_true true b g h = h
both_true false b g h = cc

rested_reads : (v : Version) (x : UpNode) (p : ℕ) (a : Option AttemptState) → ReadsIn v (rested_by (promising x p) a)
rested_reads v x p None = record { waiting_read = tt; office_read = tt }
rested_reads v x p (Some a) = record { waiting_read = tt; office_read = tt }

-- what is promised for a Collect ends the membership as it is saved
promised_shown : (S : Setting) (n p : ℕ) (i : Input) (o : OwnReplies) (v : Version) (x : UpNode) (s : Scene) → collects i ≡ true → Between S n i o v x s
    → Shown S n o v (promised_so x p) (of_node n note.Saved ∷ (superseded_lines p x.attempt ++ unknown_lines n x.requests.waiting)) s
promised_shown S n p i o v x s is b = record {
  reads = rested_reads v x p x.attempt;
  gone = promised_gone S n o (entry.Node n note.Saved) p x.attempt x.requests.waiting s tt
      (if_true ((n == n) && in_collect n s.moments) None (member_of n s.moments) (both_true (n == n) (in_collect n s.moments) (same_is n) (b.at ∙ is))) b.now b.explained;
}

-- an attempt of its own ends it as it begins
led_shown : (S : Setting) (c : Cluster) (n p members : ℕ) (i : Input) (o : OwnReplies) (v : Version) (x : UpNode) (s : Scene) → coordinator p ≡ n → Between S n i o v x s
    → Shown S n o v (changed c n x (Leads p members)) (of_node n note.Saved ∷ Tells (entry.Attempt (attempt.Begun p members)) ∷ unknown_lines n x.requests.waiting) s
led_shown S c n p members i o v x s own b =
    let e : Entry = entry.Node n note.Saved in
    let g : Gone S n o (of_node n note.Saved ∷ []) s = gone_all S n o (of_node n note.Saved ∷ []) s (tt, tt) b.now b.explained in
    let l : Gone S n o (Tells (entry.Attempt (attempt.Begun p members)) ∷ unknown_lines n x.requests.waiting) (telling e s) =
    line_gone S n o (entry.Attempt (attempt.Begun p members)) x.requests.waiting (telling e s) tt
    (if_true (coordinator p == n) None (member_of n (Told e ∷ s.moments)) (ap (λ k. k == n) own ∙ same_is n)) g.now g.explained in
    record { reads = record { waiting_read = tt; office_read = tt }; gone = record { now = l.now; same = l.same ∙ g.same; explained = l.explained; sends = (tt, l.sends) } }

steady_shown : (S : Setting) (c : Cluster) (n : ℕ) (i : Input) (o : OwnReplies) (x : UpNode) (change : Change) (middle : List Output) (s : Scene) → GoesOn change → AllSo n o middle
    → ReadsIn (version_of c) (changed c n x change) → Between S n i o (version_of c) x s → Shown S n o (version_of c) (changed c n x change) (first_lines n change ++ (middle ++ last_lines c n x change)) s
steady_shown S c n i o x change middle s on so reads b = shown_all S n i o (version_of c) x (changed c n x change) _ s (change_so c n o x change middle on so) reads b

started_reads : (c : Cluster) (n : ℕ) (x : UpNode) (change : Change) → IsStarting change → ReadsIn (version_of c) x → ReadsIn (version_of c) (changed c n x change)
started_reads c n x (Starts a k t) is r = record { waiting_read = r.waiting_read; office_read = nothing_reads (version_of c) }
started_reads c n x (Sits t e) is r = record { waiting_read = r.waiting_read; office_read = r.office_read }
started_reads c n x (Promises p) is r = absurd is
started_reads c n x (Leads p members) is r = absurd is
started_reads c n x (Counts a k t j) is r = absurd is
started_reads c n x (Installs t j) is r = absurd is
started_reads c n x (Distrusts d) is r = absurd is
started_reads c n x (Admits at command a d) is r = absurd is
started_reads c n x (Proposes t p text) is r = absurd is
started_reads c n x (Acks t p q left text) is r = absurd is
started_reads c n x (Prepares t text) is r = absurd is
started_reads c n x (Commits t) is r = absurd is

starting_on : (change : Change) → IsStarting change → GoesOn change
starting_on (Starts a k t) is = tt
starting_on (Sits t e) is = tt
starting_on (Promises p) is = absurd is
starting_on (Leads p members) is = absurd is
starting_on (Counts a k t j) is = absurd is
starting_on (Installs t j) is = absurd is
starting_on (Distrusts d) is = absurd is
starting_on (Admits at command a d) is = absurd is
starting_on (Proposes t p text) is = absurd is
starting_on (Acks t p q left text) is = absurd is
starting_on (Prepares t text) is = absurd is
starting_on (Commits t) is = absurd is

saved_shown : (S : Setting) (c : Cluster) (n : ℕ) (i : Input) (o : OwnReplies) (x : UpNode) (change : Change) (s : Scene) → ChangeReads c n i x change → Between S n i o (version_of c) x s
    → Shown S n o (version_of c) (changed c n x change) (first_lines n change ++ saved_lines c n x change) s
saved_shown S c n i o x (Promises p) s so b = promised_shown S n p i o (version_of c) x s so b
saved_shown S c n i o x (Leads p members) s so b = led_shown S c n p members i o (version_of c) x s so b
saved_shown S c n i o x (Counts a k t j) s so b = steady_shown S c n i o x (Counts a k t j) (of_node n note.Saved ∷ []) s tt (tt, tt) b.reads b
saved_shown S c n i o x (Installs t j) s so b = steady_shown S c n i o x (Installs t j) (of_node n note.Saved ∷ []) s tt (tt, tt) b.reads b
saved_shown S c n i o x (Starts a k t) s so b = steady_shown S c n i o x (Starts a k t) (of_node n note.Saved ∷ []) s tt (tt, tt) (started_reads c n x (Starts a k t) tt b.reads) b
saved_shown S c n i o x (Sits t e) s so b = steady_shown S c n i o x (Sits t e) (of_node n note.Saved ∷ []) s tt (tt, tt) (started_reads c n x (Sits t e) tt b.reads) b
saved_shown S c n i o x (Distrusts d) s so b = steady_shown S c n i o x (Distrusts d) (of_node n note.Saved ∷ []) s tt (tt, tt) b.reads b
saved_shown S c n i o x (Admits at command a d) s so b = steady_shown S c n i o x (Admits at command a d) (of_node n note.Saved ∷ []) s tt (tt, tt) b.reads b
saved_shown S c n i o x (Proposes t p text) s so b = steady_shown S c n i o x (Proposes t p text) (of_node n note.Saved ∷ []) s tt (tt, tt) so b
saved_shown S c n i o x (Acks t p q left text) s so b = steady_shown S c n i o x (Acks t p q left text) (of_node n note.Saved ∷ []) s tt (tt, tt) so b
saved_shown S c n i o x (Prepares t text) s so b = steady_shown S c n i o x (Prepares t text) (of_node n note.Saved ∷ []) s tt (tt, tt) b.reads b
saved_shown S c n i o x (Commits t) s so b = steady_shown S c n i o x (Commits t) (of_node n note.Saved ∷ []) s tt (tt, tt) b.reads b

-- ---- acts

abbrev ActShown : Setting → Cluster → ℕ → OwnReplies → UpNode → Act → Scene → Type 0
ActShown S c n o x a s = Shown S n o (version_of c) (acted c n x a) (said c n x a) s

act_shown : (S : Setting) (c : Cluster) (n : ℕ) (i : Input) (o : OwnReplies) (x : UpNode) (a : Act) (s : Scene) → ActReads c n o x a → Between S n i o (version_of c) x s → ActShown S c n o x a s
act_shown S c n i o x (Hears from m) s so b = shown_all S n i o (version_of c) x (acted c n x (Hears from m)) [] s tt b.reads b
act_shown S c n i o x Ticks s so b =
    shown_all S n i o (version_of c) x (acted c n x Ticks) (said c n x Ticks) s (tt, ticked_so n o c x)
    (record { waiting_read = b.reads.waiting_read; office_read = later_reads (version_of c) x.presidency b.reads.office_read }) b
act_shown S c n i o x Waits s so b = shown_all S n i o (version_of c) x (acted c n x Waits) [] s tt b.reads b
act_shown S c n i o x (Goes_on a k) s so b = shown_all S n i o (version_of c) x (acted c n x (Goes_on a k)) [] s tt b.reads b
act_shown S c n i o x (Ends a e) s so b = shown_all S n i o (version_of c) x (acted c n x (Ends a e)) (said c n x (Ends a e)) s (tt, tt) b.reads b
act_shown S c n i o x (Queues a d kind) s so b =
    let y : UpNode = record x { tasks = after_seize x.tasks d (seizing.begun kind a.plan.epoch a.plan.members n c.id (has (record_of x).valid d)) } in
    if_either (λ (z : UpNode). Shown S n o (version_of c) z [] s) (has a.plan.members n) y x (shown_all S n i o (version_of c) x y [] s tt b.reads b) (shown_all S n i o (version_of c) x x [] s tt b.reads b)
act_shown S c n i o x (Accepts kind e members d) s so b = shown_all S n i o (version_of c) x (acted c n x (Accepts kind e members d)) [] s tt b.reads b
act_shown S c n i o x (Takes at command a) s so b = shown_all S n i o (version_of c) x (acted c n x (Takes at command a)) (said c n x (Takes at command a)) s (tt, tt) b.reads b
act_shown S c n i o x (Stores d value a) s so b = shown_all S n i o (version_of c) x x (said c n x (Stores d value a)) s (tt, write_so n o x d value a) b.reads b
act_shown S c n i o x (Writes to m) s so b = shown_all S n i o (version_of c) x x (said c n x (Writes to m)) s (so, tt) b.reads b
act_shown S c n i o x (Makes change) s so b = steady_shown S c n i o x change [] s (starting_on change so) tt (started_reads c n x change so b.reads) b
act_shown S c n i o x (Gives os) s so b = shown_all S n i o (version_of c) x x os s so b.reads b
act_shown S c n i o x (Spreads receivers m) s so b = shown_all S n i o (version_of c) x x (said c n x (Spreads receivers m)) s (spread_so n o receivers m so) b.reads b
act_shown S c n i o x (Minds q p) s so b = shown_all S n i o (version_of c) x (acted c n x (Minds q p)) [] s tt so b
act_shown S c n i o x (Notes from place p) s so b = shown_all S n i o (version_of c) x (acted c n x (Notes from place p)) [] s tt so b
act_shown S c n i o x (Dates now) s so b = shown_all S n i o (version_of c) x (acted c n x (Dates now)) [] s tt b.reads b
act_shown S c n i o x (Works w) s so b = shown_all S n i o (version_of c) x (acted c n x (Works w)) [] s tt b.reads b

-- ---- a course

abbrev pub NodeReads : Version → Node → Type 0
NodeReads v Down = Unit {0}
NodeReads v (Up x) = ReadsIn v x

-- after all outputs of a step
pub record Ends_so (S : Setting) (n : ℕ) (v : Version) (node : Node) (os : List Output) (s : Scene) : Type 0 where
  pub reads : NodeReads v node
  pub explained : AreReasoned S (passing n os s).moments
  pub sends : AllByRecursion SendsSo os

pub then_so : (S : Setting) (n : ℕ) (o : OwnReplies) (v : Version) (node : Node) (os more : List Output) (s : Scene) → Gone S n o os s → Ends_so S n v node more (passing n os s) → Ends_so S n v node (os ++ more) s
then_so S n o v node os more s g e = record {
  reads = e.reads;
  explained = subst (λ (z : Scene). AreReasoned S z.moments) (sym (passing_append n os more s)) e.explained;
  sends = both SendsSo os more g.sends e.sends;
}

pub down_so : (S : Setting) (n : ℕ) (o : OwnReplies) (v : Version) (os : List Output) (s : Scene) → AllSo n o os → Now S n o s.moments → AreReasoned S s.moments → Ends_so S n v Down os s
down_so S n o v os s so now explained = let g : Gone S n o os s = gone_all S n o os s so now explained in record { reads = tt; explained = g.explained; sends = g.sends }

falls_so : (S : Setting) (n : ℕ) (o : OwnReplies) (v : Version) (change : Change) (why : DownCause) (s : Scene) → Now S n o s.moments → AreReasoned S s.moments
    → Ends_so S n v Down ((first_lines n change ++ gone_line n why) ++ []) s
falls_so S n o v change why s now explained =
    down_so S n o v ((first_lines n change ++ gone_line n why) ++ []) s
    (both (OutputSo n o) (first_lines n change ++ gone_line n why) []
    (both (OutputSo n o) (first_lines n change) (gone_line n why) (lines_so n o (first_lines n change) (first_quiet n change) (first_mute n change)) (tt, tt)) tt) now explained

pub read_walk : (S : Setting) (c : Cluster) (n : ℕ) (i : Input) (o : OwnReplies) (replies : List Reply) (k : Course) (x : UpNode) (disk : NodeRecord) (s : Scene) → GoesRead c n i o x k → Between S n i o (version_of c) x s
    → Ends_so S n (version_of c) (after_all c n (site (Up x) disk) (under replies k)).node (given_all c n (site (Up x) disk) (under replies k)) s
read_walk S c n i o replies Stops x disk s goes b = record { reads = b.reads; explained = b.explained; sends = tt }
read_walk S c n i o replies (Acts a rest) x disk s goes b =
    let os : List Output = said c n x a in
    let y : UpNode = acted c n x a in
    let l : Shown S n o (version_of c) y os s = act_shown S c n i o x a s (goes.0 b.reads) b in
    then_so S n o (version_of c) (after_all c n (site (Up y) disk) (under replies rest)).node os (given_all c n (site (Up y) disk) (under replies rest)) s l.gone
    (read_walk S c n i o replies rest y disk (passing n os s) goes.1
    (record { reads = l.reads; now = l.gone.now; at = collects_same n s.moments (passing n os s).moments l.gone.same ∙ b.at; explained = l.gone.explained }))
read_walk S c n i o [] (Keeps change rest) x disk s goes b = falls_so S n o (version_of c) change _ s b.now b.explained
read_walk S c n i o (Done ∷ replies) (Keeps change rest) x disk s goes b =
    let os : List Output = first_lines n change ++ saved_lines c n x change in
    let y : UpNode = changed c n x change in
    let l : Shown S n o (version_of c) y os s = saved_shown S c n i o x change s (goes.0 b.reads) b in
    then_so S n o (version_of c) (after_all c n (effect c n (site (Up x) disk) (Saves change)) (under replies rest)).node os
    (given_all c n (effect c n (site (Up x) disk) (Saves change)) (under replies rest)) s l.gone
    (read_walk S c n i o replies rest y _ (passing n os s) goes.1
    (record { reads = l.reads; now = l.gone.now; at = collects_same n s.moments (passing n os s).moments l.gone.same ∙ b.at; explained = l.gone.explained }))
read_walk S c n i o (Lost_new why ∷ replies) (Keeps change rest) x disk s goes b = falls_so S n o (version_of c) change why s b.now b.explained
read_walk S c n i o (Lost_old why ∷ replies) (Keeps change rest) x disk s goes b = falls_so S n o (version_of c) change why s b.now b.explained
read_walk S c n i o replies (Falls why) x disk s goes b = down_so S n o (version_of c) (gone_line n why ++ []) s (tt, tt) b.now b.explained
