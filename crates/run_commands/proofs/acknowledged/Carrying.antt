-- What is carried through each run beside what run_commands and run_commands carry: what one small step is told, and what it must leave.
use Rattle.std.specs.Prelude.{ℕ, ◌+◌, ◌≡◌, ◌≢◌, ◌≤◌, ◌<◌, ◌⊎◌, ◌++◌, true, List, [], ◌∷◌, Option, None, Some, Ok, is_some, slice_get}
use Rattle.admin_words.specs.Commands.{command_of, request_of}
use Rattle.admin_words.specs.declared.request.Request.TheVariants as wish
use Rattle.ccr_tables.specs.declared.update.Update.{Update}
use Rattle.cl_base.specs.declared.command.Ask.{Ask}
use Rattle.cl_base.specs.declared.method.Outcome as method
use Rattle.cmm_member.specs.Records.{NodeRecord}
use Rattle.proposals.specs.declared.arrived.Proposed.{Proposed}
use Rattle.request_queue.specs.Queue.{next_number}
use Rattle.rgm_member.specs.State.{WorkerState}
use Rattle.schedule_text.specs.declared.event.Event.TheVariants as event
use Rattle.schedule_text.specs.declared.line.Line.TheVariants as line
use Rattle.status_report.specs.declared.call_entry.ProbeResult.{ProbeResult}
use Rattle.status_report.specs.declared.command_entry.CommandEntry.TheVariants as command
use Rattle.status_report.specs.declared.entry.Entry.TheVariants as entry
use Rattle.status_report.specs.declared.node_entry.DownCause.{DownCause}
use Rattle.status_report.specs.declared.node_entry.NodeEntry.TheVariants as note
use Rattle.status_report.specs.declared.packet_entry.PacketEntry.TheVariants as packet
use Rattle.update_words.specs.Words.{ask_words_of}
use Rattle.wire.specs.declared.message.Message.{Message}
use Rattle.history.specs.Letters.{Letter, arrived, says}
use Rattle.history.specs.Member.{member_of}
use Rattle.history.specs.Moment.{Moment, Part, Said, Told}
use Rattle.history.specs.Setting.{Setting}
use Rattle.node_model.specs.Clusters.{first_valid_of}
use Rattle.node_model.specs.Groups.{monitor_asked, report_told}
use Rattle.node_model.specs.Presidents.{last_place}
use Rattle.node_model.specs.Requests.{is_idle, numbered}
use Rattle.node_model.specs.Seats.{is_member, promised_of, session_of, up_with, version_of}
use Rattle.node_model.specs.Steps.{at_second}
use Rattle.node_model.specs.declared.cluster.Cluster.{Cluster}
use Rattle.node_model.specs.declared.input.Input.{Input}
use Rattle.node_model.specs.declared.input.Input.TheVariants.{Commanded, Packet, Reported}
use Rattle.node_model.specs.declared.node.Node.{Node}
use Rattle.node_model.specs.declared.node.Node.TheVariants.{Down, Up}
use Rattle.node_model.specs.declared.node.UpNode.{UpNode}
use Rattle.node_model.specs.declared.output.Output.{Output}
use Rattle.node_model.specs.declared.presidency.Presidency.{Presidency}
use Rattle.refinement.proofs.Handlers.{delivered_by}
use Rattle.refinement.specs.Courses.{Course}
use Rattle.refinement.specs.Cuts as cuts
use Rattle.refinement.specs.Courses.Course.{Acts, Falls, Keeps, Stops}
use Rattle.refinement.specs.Doings.{Act, Change, acted, changed, first_lines, gone_line, last_lines, of_node, said}
use Rattle.refinement.specs.Doings.Act.{Gives, Makes, Works}
use Rattle.refinement.specs.Guards.{MayAct, MayChange}
use Rattle.run_history.proofs.Small.{IsSmallAct}
use Rattle.run_history.specs.Scenes.{Scene, passing}
use Rattle.run_messages.specs.Laws.{membership_in}
use Rattle.run_messages.specs.Outputs.{AreGood}
use Rattle.run_commands.specs.carried.Guards.{ActAsk, ChangeAsk, Command}
use Rattle.run_commands.proofs.carried.Acts.{Before, NoMakes}
use Rattle.run_commands.proofs.carried.Causes.{PresidentAt}
use Rattle.run_commands.proofs.carried.Lines.{AreApart}
use Rattle.run_commands.specs.acknowledged.Guards.{ActHand, ChangeHand}
use Rattle.run_commands.proofs.acknowledged.Acts.{Holding}
use Rattle.run_commands.proofs.acknowledged.Changes.{Bound}
use Rattle.run_commands.specs.acknowledged.AnsweringGuards.{ActSo, ChangeSo, Due}
use Rattle.run_commands.specs.acknowledged.AnsweringGuards.Due.{Even}
use Rattle.run_commands.proofs.acknowledged.Own.{Elsewhere, NowAsked}
use Rattle.run_commands.proofs.acknowledged.Settled.{AcksArePending}

-- ---- around a small step

-- the packet that came is the letter of its sender
pub record FromLetter (from : ℕ) (m : Message) (ms : List Moment) : Type 0 where
  pub letter : Letter
  pub here : arrived ms ≡ Some letter
  pub sender : letter.from ≡ from
  pub says_so : says letter.bytes ≡ Some m.body

abbrev pub CameFrom : Input → List Moment → Type 0
CameFrom (Packet from m) ms = FromLetter from m ms
CameFrom _ ms = Unit {0}

-- what a president proposed has its last place
abbrev pub PlaceSo : UpNode → Type 0
PlaceSo x = (p : Presidency) (pr : Proposed) → x.presidency ≡ Some p → p.proposals.proposed ≡ Some pr → pr.place ≡ last_place x

-- what is known of node n before a small step
pub record Around (S : Setting) (c : Cluster) (n : ℕ) (i : Input) (v : Option ℕ) (o : Option Command) (h : Option ℕ) (promised : ℕ) (x : UpNode) (s : Scene) : Type 0 where
  pub range : (1 ≤ n) × (n ≤ 32)
  pub before : Before S n i o h x s
  pub holds : Holding S c n i v promised x s.moments
  pub bound : Bound promised x
  pub seated : member_of n s.moments ≡ membership_in x.seat
  pub place : PlaceSo x
  pub from : CameFrom i s.moments
  pub now : NowAsked S n i x.requests.asked s.moments

-- an act that makes no change
pub record ActStep (c : Cluster) (n : ℕ) (i : Input) (v : Option ℕ) (o : Option Command) (h : Option ℕ) (x : UpNode) (a : Act) (d g : Due) (s : Scene) : Type 0 where
  pub none : NoMakes a
  pub may : MayAct c n (delivered_by i) x a
  pub small : IsSmallAct a
  pub ask : ActAsk n i o h x a
  pub hand : ActHand c i n v x a
  pub so : ActSo c i n v x d a g
  pub good : AreGood n (said c n x a)
  pub acks : AcksArePending (passing n (said c n x a) s).moments

-- a change has the line that it was saved in the middle of its lines, or none
abbrev pub IsSaving : ℕ → List Output → Type 0
IsSaving n middle = (middle ≡ []) ⊎ (middle ≡ of_node n note.Saved ∷ [])

abbrev pub change_lines : Cluster → ℕ → UpNode → Change → List Output → List Output
change_lines c n x change middle = first_lines n change ++ (middle ++ last_lines c n x change)

pub record ChangeStep (c : Cluster) (n : ℕ) (i : Input) (v : Option ℕ) (o : Option Command) (x : UpNode) (change : Change) (d g : Due) (os : List Output) (s : Scene) : Type 0 where
  pub may : MayChange c n (delivered_by i) x change
  pub ask : ChangeAsk o x change
  pub hand : ChangeHand c i n v x change
  pub so : ChangeSo c i n v x d change g
  pub elsewhere : Elsewhere n change
  pub good : AreGood n os
  pub acks : AcksArePending (passing n os s).moments

-- the node after it
pub record ChangedTo (n : ℕ) (y : UpNode) : Type 0 where
  pub president : is_some y.presidency ≡ true → PresidentAt y n
  pub session : (e : ℕ) → membership_in y.seat ≡ Some e → 0 < session_of y
  pub place : PlaceSo y

-- a moment in which no node does anything
abbrev pub IsOutside : Moment → Type 0
IsOutside (Said l) = Unit {0}
IsOutside (Part e) = Unit {0}
IsOutside (Told (entry.Schedule e)) = Unit {0}
IsOutside (Told (entry.Device e)) = Unit {0}
IsOutside (Told (entry.Packet (packet.Sent p from to called bytes))) = ⊥
IsOutside (Told (entry.Packet e)) = Unit {0}
IsOutside (Told e) = ⊥

-- the line of a command
abbrev pub asked_line : ℕ → ℕ → Moment
asked_line n q = Told (entry.Command (command.Asked n q))

-- ---- what each must leave

-- of node n with this promise, what is due, the node, the number of the next packet, and what was told
abbrev pub At : (ℕ → ℕ → Due → UpNode → ℕ → List Moment → Type 0) → ℕ → ℕ → Due → UpNode → Scene → Type 0
At P n promised d x s = P n promised d x s.links.next s.moments

-- a node that is up has P, one that is down Q
abbrev pub OfNode : (ℕ → ℕ → Due → UpNode → ℕ → List Moment → Type 0) → (ℕ → ℕ → List Moment → Type 0) → ℕ → ℕ → Node → ℕ → List Moment → Type 0
OfNode P Q n promised Down next ms = Q n promised ms
OfNode P Q n promised (Up x) next ms = P n promised Even x next ms

abbrev pub NodeAt : (ℕ → ℕ → Due → UpNode → ℕ → List Moment → Type 0) → (ℕ → ℕ → List Moment → Type 0) → ℕ → ℕ → Node → Scene → Type 0
NodeAt P Q n promised node s = OfNode P Q n promised node s.links.next s.moments

-- P of a node that is up, Q of one that is down, and W of what was told are carried; A and B are further guards, of acts and of changes
pub record Carries (S : Setting) (c : Cluster) (P : ℕ → ℕ → Due → UpNode → ℕ → List Moment → Type 0) (Q : ℕ → ℕ → List Moment → Type 0) (W : List Moment → Type 0)
    (N : ℕ → UpNode → Type 0) (A : Input → ℕ → Option ℕ → UpNode → Act → Type 0) (B : Input → ℕ → Option ℕ → UpNode → Change → Type 0) : Type 0 where
  pub acts : (n : ℕ) (i : Input) (v : Option ℕ) (o : Option Command) (h : Option ℕ) (promised : ℕ) (x : UpNode) (a : Act) (d g : Due) (s : Scene) → Around S c n i v o h promised x s → ActStep c n i v o h x a d g s → A i n v x a
      → At P n promised d x s → W s.moments → At P n promised g (acted c n x a) (passing n (said c n x a) s) × W (passing n (said c n x a) s).moments
  pub changes : (n : ℕ) (i : Input) (v : Option ℕ) (o : Option Command) (h : Option ℕ) (promised : ℕ) (x : UpNode) (change : Change) (d g : Due) (middle : List Output) (s : Scene) → Around S c n i v o h promised x s
      → IsSaving n middle → ChangeStep c n i v o x change d g (change_lines c n x change middle) s → ChangedTo n (changed c n x change) → B i n v x change → At P n promised d x s → W s.moments
      → At P n (promised_of (changed c n x change)) g (changed c n x change) (passing n (change_lines c n x change middle) s) × W (passing n (change_lines c n x change middle) s).moments
  -- it goes down in the save of a change
  pub falls : (n : ℕ) (i : Input) (v : Option ℕ) (o : Option Command) (h : Option ℕ) (promised after : ℕ) (x : UpNode) (change : Change) (d g : Due) (why : DownCause) (s : Scene) → Around S c n i v o h promised x s
      → ChangeStep c n i v o x change d g (first_lines n change ++ gone_line n why) s → promised ≤ after → At P n promised d x s → W s.moments
      → Q n after (passing n (first_lines n change ++ gone_line n why) s).moments × W (passing n (first_lines n change ++ gone_line n why) s).moments
  -- .. or else
  pub stops : (n promised : ℕ) (x : UpNode) (d : Due) (why : DownCause) (s : Scene) → At P n promised d x s → W s.moments → Q n promised (passing n (gone_line n why) s).moments × W (passing n (gone_line n why) s).moments
  pub boots : (n : ℕ) (disk : NodeRecord) (s : Scene) → Q n disk.promised s.moments → W s.moments
      → At P n disk.promised Even (up_with n (first_valid_of c n) disk) (passing n (of_node n note.Up ∷ []) s) × W (passing n (of_node n note.Up ∷ []) s).moments
  -- it comes up, and goes down at once
  pub fails : (n promised : ℕ) (why : DownCause) (s : Scene) → Q n promised s.moments → W s.moments
      → Q n promised (passing n (of_node n note.Up ∷ gone_line n why) s).moments × W (passing n (of_node n note.Up ∷ gone_line n why) s).moments
  -- another node gives this
  pub others : (k n promised : ℕ) (x : UpNode) (os : List Output) (s : Scene) → k ≢ n → AreApart k os → AreGood n os → (is_some x.presidency ≡ true → PresidentAt x k) → At P k promised Even x s
      → At P k promised Even x (passing n os s)
  pub others_down : (k n promised : ℕ) (os : List Output) (s : Scene) → k ≢ n → AreApart k os → AreGood n os → Q k promised s.moments → Q k promised (passing n os s).moments
  -- no node does anything
  pub outside : (k promised next more : ℕ) (x : UpNode) (m : Moment) (ms : List Moment) → IsOutside m → next ≤ more → member_of k ms ≡ membership_in x.seat → Bound promised x
      → (is_some x.presidency ≡ true → PresidentAt x k) → P k promised Even x next ms → P k promised Even x more (m ∷ ms)
  pub outside_down : (k promised : ℕ) (m : Moment) (ms : List Moment) → IsOutside m → member_of k ms ≡ None → Q k promised ms → Q k promised (m ∷ ms)
  pub outside_told : (m : Moment) (ms : List Moment) → IsOutside m → W ms → W (m ∷ ms)
  -- a step begins
  pub dates : (n promised now next : ℕ) (x : UpNode) (ms : List Moment) → P n promised Even x next ms → P n promised Even (at_second now x) next ms
  -- a command has its line and its number
  pub asks : (n promised next : ℕ) (words : List ℕ) (x : UpNode) (ms : List Moment) → next_number x.requests ≡ x.requests.asked + 1 → slice_get ms 0 ≡ Some (Said (line.Event (event.Command n words)))
      → member_of n ms ≡ membership_in x.seat → Bound promised x → (is_some x.presidency ≡ true → PresidentAt x n) → Holding S c n (Commanded words) (membership_in x.seat) promised x ms → P n promised Even x next ms → W ms
      → P n promised Even (numbered x) next (asked_line n (next_number x.requests) ∷ ms) × W (asked_line n (next_number x.requests) ∷ ms)
  -- .. which is as N says
  pub nexts : (n promised next : ℕ) (x : UpNode) (ms : List Moment) → next_number x.requests ≡ x.requests.asked + 1 → P n promised Even x next ms → N n x
  -- what a monitor asks waits
  pub monitors : (n promised next : ℕ) (x : UpNode) (ask : Ask) (ms : List Moment) → next_number x.requests ≡ x.requests.asked + 1 → is_member x.seat ≡ true
      → ((u : Update) → request_of (version_of c) (ask_words_of ask) ≡ Ok (wish.Change u) → ⊥) → P n promised Even x next ms → P n promised Even (monitor_asked x ask) next ms
  -- a change that is made without a save has the guard of a change
  pub makes : (n : ℕ) (i : Input) (v : Option ℕ) (x : UpNode) (change : Change) → A i n v x (Makes change) → B i n v x change
  pub first : (n promised : ℕ) → Q n promised []
  pub first_told : W []

-- the further guards of a course
abbrev pub GoesAlso : (Input → ℕ → Option ℕ → UpNode → Act → Type 0) → (Input → ℕ → Option ℕ → UpNode → Change → Type 0) → Cluster → Input → ℕ → Option ℕ → UpNode → Course → Type 0
GoesAlso A B c i me v x Stops = Unit {0}
GoesAlso A B c i me v x (Acts a rest) = A i me v x a × GoesAlso A B c i me v (acted c me x a) rest
GoesAlso A B c i me v x (Keeps change rest) = B i me v x change × GoesAlso A B c i me v (changed c me x change) rest
GoesAlso A B c i me v x (Falls why) = Unit {0}

abbrev pub IsNoCommand : Input → Type 0
IsNoCommand (Commanded words) = ⊥
IsNoCommand (Reported r good) = ⊥
IsNoCommand _ = Unit {0}

-- the further guards of each course, but for the acts by which a request of its own takes its number; N is so of the node as a command comes
pub record EachGoes (c : Cluster) (N : ℕ → UpNode → Type 0) (A : Input → ℕ → Option ℕ → UpNode → Act → Type 0) (B : Input → ℕ → Option ℕ → UpNode → Change → Type 0) : Type 0 where
  pub plain : (n now : ℕ) (ends : method.Outcome) (x : UpNode) (i : Input) → IsNoCommand i → GoesAlso A B c i n (membership_in x.seat) x (cuts.course_at c n now ends x i)
  pub words : (n : ℕ) (x : UpNode) (words : List ℕ) → N n x
      → GoesAlso A B c (Commanded words) n (membership_in x.seat) (numbered x) (cuts.worded_course c n (numbered x) (next_number x.requests) (command_of (version_of c) words))
  pub reports : (n : ℕ) (i : Input) (x : UpNode) (r : List ℕ) (how : ProbeResult) → A i n (membership_in x.seat) x (Gives (report_told n r how ∷ []))
  pub works : (n : ℕ) (i : Input) (x : UpNode) (w : WorkerState) → A i n (membership_in x.seat) x (Works w)
  pub monitors : (n : ℕ) (i : Input) (x : UpNode) (ask : Ask) → GoesAlso A B c i n (membership_in x.seat) (monitor_asked x ask) (cuts.asking_if_course (is_idle x.requests.waiting) c n (monitor_asked x ask))
