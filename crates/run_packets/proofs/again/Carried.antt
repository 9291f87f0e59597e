-- While fewer than 2^63 lines are said each Answer to another node is to a Request that had come, and each new membership has no Request yet.
use Rattle.std.specs.Prelude.{ℕ, List, [], ◌∷◌, None, Option}
use Rattle.std.proofs.Common.{refl}
use Rattle.admin_words.specs.Commands.{command_of}
use Rattle.cl_base.specs.declared.header.Header.{Header}
use Rattle.cl_base.specs.declared.method.Outcome as method
use Rattle.history.specs.Moment.{Moment}
use Rattle.history.specs.Setting.{Setting}
use Rattle.history_setting.specs.Settings.{setting_of}
use Rattle.node_model.specs.Groups.{monitor_asked}
use Rattle.node_model.specs.Requests.{is_idle, numbered}
use Rattle.node_model.specs.Seats.{version_of}
use Rattle.node_model.specs.Steps.{at_second}
use Rattle.node_model.specs.declared.cluster.Cluster.{Cluster}
use Rattle.node_model.specs.declared.input.Input.{Input}
use Rattle.node_model.specs.declared.input.Input.TheVariants.{Commanded}
use Rattle.node_model.specs.declared.input.Input.TheVariants as input
use Rattle.node_model.specs.declared.node.UpNode.{UpNode}
use Rattle.refinement.specs.Courses.{Course}
use Rattle.refinement.specs.Courses.Course.{Acts, Falls, Keeps, Stops}
use Rattle.refinement.specs.Cuts as cuts
use Rattle.refinement.specs.Doings.{Act, Change, acted, changed, gone_line, of_node}
use Rattle.refinement.specs.Doings.Act.{Makes}
use Rattle.refinement.specs.Doings.Change.{Starts}
use Rattle.request_queue.specs.Queue.{next_number}
use Rattle.run_commands.proofs.acknowledged.AnsweringCourses.{course_goes}
use Rattle.run_commands.proofs.acknowledged.AnsweringLaws.{NoNext}
use Rattle.run_commands.proofs.acknowledged.AnsweringRuns.{carried_in_each}
use Rattle.run_commands.proofs.acknowledged.Carrying.{Carries, EachGoes, GoesAlso, asked_line}
use Rattle.run_commands.proofs.acknowledged.Laws.{reads}
use Rattle.run_commands.proofs.acknowledged.Pendings.{acks_pending_in_each}
use Rattle.run_commands.proofs.carried.Runs.{FewLines}
use Rattle.run_commands.specs.acknowledged.AnsweringGuards.{Due}
use Rattle.run_commands.specs.acknowledged.AnsweringGuards.Due.{Even}
use Rattle.run_history.specs.Happenings.{Happening, MayAllHappen, all_happened}
use Rattle.run_history.specs.Scenes.{first_scene}
use Rattle.run_messages.proofs.Reaching.{IsSmall}
use Rattle.run_messages.specs.Laws.{membership_in}
use Rattle.status_report.specs.declared.node_entry.NodeEntry.TheVariants as note
use Rattle.world_model.specs.First.{first_cluster}
use Rattle.run_packets.specs.again.Asking.{ActAgain, ChangeAgain, GoesAgain, Heard, heard_of}
use Rattle.run_packets.specs.again.Coming.{Knows, ToldWell}
use Rattle.run_packets.proofs.again.Changing.{StartsInSession, change_knows, falls_told}
use Rattle.run_packets.proofs.again.Coming.{change_passing, knows_more, knows_passing, outside_told}
use Rattle.run_packets.proofs.again.Courses.{course_at_so, tick_so}
use Rattle.run_packets.proofs.again.Giving.{act_knows}
use Rattle.run_packets.proofs.again.Queues.{idle_age}
use Rattle.run_packets.proofs.again.Requesting.{asking_if_so, worded_so}

-- ---- an attempt starts in the session of its node

abbrev MakesInSession : Input → ℕ → Option ℕ → UpNode → Act → Type 0
MakesInSession i me v x (Makes change) = StartsInSession i me v x change
MakesInSession i me v x _ = Unit {0}

change_also : (i : Input) (n : ℕ) (v : Option ℕ) (heard : Option Heard) (x : UpNode) (change : Change) → ChangeAgain heard change → StartsInSession i n v x change
change_also i n v heard x (Starts a k s) h = h.1
change_also i n v heard x _ h = tt

act_also : (i : Input) (n : ℕ) (v : Option ℕ) (heard : Option Heard) (x : UpNode) (a : Act) → ActAgain heard x a → MakesInSession i n v x a
act_also i n v heard x (Makes change) h = change_also i n v heard x change h
act_also i n v heard x _ h = tt

also_of : (c : Cluster) (i : Input) (n : ℕ) (v : Option ℕ) (heard : Option Heard) (x : UpNode) (k : Course) → GoesAgain c n heard x k → GoesAlso MakesInSession StartsInSession c i n v x k
also_of c i n v heard x Stops h = tt
also_of c i n v heard x (Acts a rest) h = (act_also i n v heard x a h.0, also_of c i n v heard (acted c n x a) rest h.1)
also_of c i n v heard x (Keeps change rest) h = (change_also i n v heard x change h.0, also_of c i n v heard (changed c n x change) rest h.1)
also_of c i n v heard x (Falls why) h = tt

course_also : (c : Cluster) (n now : ℕ) (ends : method.Outcome) (x : UpNode) (i : Input) → GoesAlso MakesInSession StartsInSession c i n (membership_in x.seat) x (cuts.course_at c n now ends x i)
course_also c n now ends x input.Tick =
    (tt, (tt, also_of c input.Tick n (membership_in x.seat) None _ _ (tick_so c n None ends (at_second now x) refl)))
course_also c n now ends x (input.Boot) = also_of c (input.Boot) n (membership_in x.seat) (heard_of (input.Boot)) x (cuts.course_at c n now ends x (input.Boot)) (course_at_so c n (heard_of (input.Boot)) now ends x (input.Boot) tt refl)
course_also c n now ends x (input.Crash) = also_of c (input.Crash) n (membership_in x.seat) (heard_of (input.Crash)) x (cuts.course_at c n now ends x (input.Crash)) (course_at_so c n (heard_of (input.Crash)) now ends x (input.Crash) tt refl)
course_also c n now ends x (input.Packet from message) = also_of c (input.Packet from message) n (membership_in x.seat) (heard_of (input.Packet from message)) x (cuts.course_at c n now ends x (input.Packet from message)) (course_at_so c n (heard_of (input.Packet from message)) now ends x (input.Packet from message) tt refl)
course_also c n now ends x (input.CommandDue) = also_of c (input.CommandDue) n (membership_in x.seat) (heard_of (input.CommandDue)) x (cuts.course_at c n now ends x (input.CommandDue)) (course_at_so c n (heard_of (input.CommandDue)) now ends x (input.CommandDue) tt refl)
course_also c n now ends x (input.Answered a) = also_of c (input.Answered a) n (membership_in x.seat) (heard_of (input.Answered a)) x (cuts.course_at c n now ends x (input.Answered a)) (course_at_so c n (heard_of (input.Answered a)) now ends x (input.Answered a) tt refl)
course_also c n now ends x (input.Wrote d value a) = also_of c (input.Wrote d value a) n (membership_in x.seat) (heard_of (input.Wrote d value a)) x (cuts.course_at c n now ends x (input.Wrote d value a)) (course_at_so c n (heard_of (input.Wrote d value a)) now ends x (input.Wrote d value a) tt refl)
course_also c n now ends x (input.Commanded words) = also_of c (input.Commanded words) n (membership_in x.seat) (heard_of (input.Commanded words)) x (cuts.course_at c n now ends x (input.Commanded words)) (course_at_so c n (heard_of (input.Commanded words)) now ends x (input.Commanded words) tt refl)
course_also c n now ends x (input.Reported r good) = also_of c (input.Reported r good) n (membership_in x.seat) (heard_of (input.Reported r good)) x (cuts.course_at c n now ends x (input.Reported r good)) (course_at_so c n (heard_of (input.Reported r good)) now ends x (input.Reported r good) tt refl)
course_also c n now ends x (input.Client name client port) = also_of c (input.Client name client port) n (membership_in x.seat) (heard_of (input.Client name client port)) x (cuts.course_at c n now ends x (input.Client name client port)) (course_at_so c n (heard_of (input.Client name client port)) now ends x (input.Client name client port) tt refl)

guards : (c : Cluster) → EachGoes c NoNext MakesInSession StartsInSession
guards c = record {
  plain = λ n now ends x i none. course_also c n now ends x i;
  words = λ n x words next.
      also_of c (Commanded words) n (membership_in x.seat) None (numbered x) (cuts.worded_course c n (numbered x) (next_number x.requests) (command_of (version_of c) words))
      (worded_so c n None (numbered x) (next_number x.requests) (command_of (version_of c) words));
  reports = λ n i x r how. tt;
  works = λ n i x w. tt;
  monitors = λ n i x ask.
      also_of c i n (membership_in x.seat) None (monitor_asked x ask) (cuts.asking_if_course (is_idle x.requests.waiting) c n (monitor_asked x ask))
      (asking_if_so c n None (is_idle x.requests.waiting) (monitor_asked x ask) (idle_age x.requests.waiting x.requests.age));
}

-- ---- what is carried

abbrev P : ℕ → ℕ → Due → UpNode → ℕ → List Moment → Type 0
P n promised d x next ms = Knows n d x ms

abbrev Q : ℕ → ℕ → List Moment → Type 0
Q n promised ms = Unit {0}

carries : (S : Setting) (c : Cluster) → Carries S c P Q ToldWell NoNext MakesInSession StartsInSession
carries S c = record {
  acts = λ n i v o h promised x a d g s k st also inside told. act_knows S c n i v o h promised x d g s k inside told a st.none st.may st.small st.so st.good;
  changes = λ n i v o h promised x change d g middle s k saving st to also inside told. change_knows S c n i v o h promised x s k change d g middle saving st to also inside told;
  falls = λ n i v o h promised after x change d g why s k st low inside told. (tt, falls_told n change why s told);
  stops = λ n promised x d why s inside told. (tt, change_passing n (gone_line n why) s (tt, tt) told);
  boots = λ n disk s inside told. (record { hand = tt; owed = tt }, change_passing n (of_node n note.Up ∷ []) s (tt, tt) told);
  fails = λ n promised why s inside told. (tt, change_passing n (of_node n note.Up ∷ gone_line n why) s (tt, (tt, tt)) told);
  others = λ k n promised x os s ne apart good president inside. knows_passing k n Even x os s inside;
  others_down = λ k n promised os s ne apart good inside. tt;
  outside = λ k promised next more x m ms out low seated bound president inside. knows_more k Even x m ms inside;
  outside_down = λ k promised m ms out seated inside. tt;
  outside_told = λ m ms out told. outside_told m ms out told;
  dates = λ n promised now next x ms inside. record { hand = inside.hand; owed = inside.owed };
  asks = λ n promised next words x ms is said seated bound president holds inside told.
      (let z : Knows n Even x (asked_line n (next_number x.requests) ∷ ms) = knows_more n Even x (asked_line n (next_number x.requests)) ms inside in
      (record { hand = z.hand; owed = z.owed }, record { answers = (tt, told.answers); fresh = (tt, told.fresh) }));
  nexts = λ n promised next x ms is inside. tt;
  monitors = λ n promised next x ask ms is member calm inside. record { hand = inside.hand; owed = inside.owed };
  makes = λ n i v x change also. also;
  first = λ n promised. tt;
  first_told = record { answers = tt; fresh = tt };
}

pub told_in_each : (h : Header) (cells : ℕ) (hs : List Happening) → IsSmall h → MayAllHappen (first_cluster h) (first_scene h cells) hs → FewLines (all_happened (first_cluster h) (first_scene h cells) hs).moments
    → ToldWell (all_happened (first_cluster h) (first_scene h cells) hs).moments
told_in_each h cells hs size may few =
    carried_in_each (setting_of h) h cells P Q ToldWell NoNext MakesInSession StartsInSession (carries (setting_of h) (first_cluster h)) (guards (first_cluster h)) (course_goes (first_cluster h)) (reads h) size hs may few
    (acks_pending_in_each h cells hs size.few size.small may)
