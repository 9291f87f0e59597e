-- A whole step of a node, whatever comes to it, answers commands that wait.
use Rattle.std.specs.Prelude.{ℕ, ◌+◌, ◌-◌, ◌^◌, ◌≡◌, ◌≢◌, ◌≤◌, ◌<◌, ◌==◌, ◌&&◌, not, Bool, true, false, List, [], ◌∷◌, length, Option, None, Some, IfSome, slice_get, if◌then◌else◌}
use Rattle.std.proofs.Common.{refl, sym, arith}
use Rattle.admin_words.specs.Commands.{command_of}
use Rattle.cl_base.specs.declared.command.Ask.{Ask}
use Rattle.cl_base.specs.declared.method.Outcome as method
use Rattle.cmm_member.specs.Records.{NodeRecord}
use Rattle.history.specs.Moment.{Moment, Said, Told, lines_of}
use Rattle.node_model.specs.Clusters.{first_valid_of}
use Rattle.node_model.specs.Configurations.{own_config}
use Rattle.node_model.specs.Groups.{asked_by, monitor_asked, report_told, reported, result_of}
use Rattle.node_model.specs.Requests.{is_idle, numbered}
use Rattle.node_model.specs.Seats.{is_member, up_with, version_of}
use Rattle.node_model.specs.Steps.{at_second}
use Rattle.node_model.specs.declared.cluster.Cluster.{Cluster}
use Rattle.node_model.specs.declared.input.Input.{Input}
use Rattle.node_model.specs.declared.input.Input.TheVariants as input
use Rattle.node_model.specs.declared.node.Node.{Node}
use Rattle.node_model.specs.declared.node.Node.TheVariants.{Down, Up}
use Rattle.node_model.specs.declared.node.UpNode.{UpNode}
use Rattle.node_model.specs.declared.output.Output.{Output}
use Rattle.node_model.specs.declared.output.Output.TheVariants.{Tells}
use Rattle.refinement.specs.Courses.{Course, Reply, under}
use Rattle.refinement.specs.Courses.Course.{Acts, Stops}
use Rattle.refinement.specs.Courses.Reply.{Done, Lost_new, Lost_old}
use Rattle.refinement.specs.Cuts as cuts
use Rattle.refinement.specs.Cuts.{course_at, down_doings}
use Rattle.refinement.specs.Doings.{Doing, after_all, given_all, gone_line, of_node, site}
use Rattle.refinement.specs.Doings.Act.{Minds}
use Rattle.request_queue.specs.Queue.{is_full, next_number}
use Rattle.request_queue.specs.declared.request.Request.{Request}
use Rattle.restart_policy.specs.declared.policy.ProbeAction.{ProbeAction}
use Rattle.restart_policy.specs.declared.policy.ProbeAction.TheVariants as action
use Rattle.rgm_member.specs.Probes.{probed}
use Rattle.update_words.specs.Words.{ask_words_of}
use Rattle.rgm_member.specs.declared.probed.Probed.{Probed}
use Rattle.rgm_member.specs.declared.probed.Probed.TheVariants as probe
use Rattle.schedule_text.specs.declared.event.Event.TheVariants as event
use Rattle.schedule_text.specs.declared.line.Line.{Line}
use Rattle.schedule_text.specs.declared.line.Line.TheVariants as line
use Rattle.status_report.specs.declared.call_entry.CallEntry.TheVariants as call
use Rattle.status_report.specs.declared.call_entry.ProbeResult.TheVariants as result
use Rattle.status_report.specs.declared.command_entry.CommandEntry.TheVariants as command
use Rattle.status_report.specs.declared.entry.Entry.{Entry}
use Rattle.status_report.specs.declared.entry.Entry.TheVariants as entry
use Rattle.status_report.specs.declared.node_entry.DownCause.{DownCause}
use Rattle.status_report.specs.declared.node_entry.DownCause.TheVariants as down
use Rattle.status_report.specs.declared.node_entry.NodeEntry.TheVariants as note
use Rattle.run_history.specs.Happenings.{IsSaid}
use Rattle.run_history.specs.Scenes.{Scene, passing, telling}
use Rattle.run_commands.specs.carried.Steps.{Counted, used_lines}
use Rattle.run_commands.proofs.carried.Commands.{next_is}
use Rattle.run_commands.proofs.carried.Counts.{next_low, passing_used, room_left, then_le, told_uses}
use Rattle.run_commands.specs.Guards.{IsLed}
use Rattle.run_commands.specs.Guards.Hand.{Free, Held}
use Rattle.run_commands.specs.Answers.{AnswersWait}
use Rattle.run_commands.proofs.Asides.{quiet_gives}
use Rattle.run_commands.proofs.Courses.{IsNoCommand, course_at_so}
use Rattle.run_commands.proofs.Requesting.{asking_if_so, worded_so}
use Rattle.run_commands.proofs.Doings.{Was}
use Rattle.run_commands.proofs.Numbers.{Numbers, apart_numbers, asked_numbered, asked_numbers, boot_numbers, monitor_numbers, passing_steady}
use Rattle.run_commands.proofs.Askings.{owed_added, owed_asked}
use Rattle.run_commands.proofs.Owed.{is_untold, owed_none, owed_stays}
use Rattle.run_commands.proofs.Tallies.{boot_none, tally}
use Rattle.run_commands.proofs.Waiting.{AreApart, Leaves, boot_unanswered, monitors_of, probed_more, quiet_leaves}
use Rattle.run_commands.proofs.Walk.{Ends, NodeOwes, then_ends, walk}

abbrev pub NodeNumbers : ℕ → ℕ → Node → List Moment → Type 0
NodeNumbers n last Down ms = Unit {0}
NodeNumbers n last (Up x) ms = Numbers n ms last

-- what a step leaves: the numbers of the node are within the lines used
pub record Stepped (n : ℕ) (node : Node) (os : List Output) (s : Scene) : Type 0 where
  pub last : ℕ
  pub own : NodeOwes n last node (passing n os s).moments
  pub said : AnswersWait (passing n os s).moments
  pub apart : (k : ℕ) → k ≢ n → AreApart k os
  pub numbers : NodeNumbers n last node (passing n os s).moments
  pub low : last ≤ used_lines (passing n os s).moments

abbrev SteppedBy : Cluster → ℕ → UpNode → NodeRecord → List Doing → Scene → Type 0
SteppedBy c n x disk ds s = Stepped n (after_all c n (site (Up x) disk) ds).node (given_all c n (site (Up x) disk) ds) s

low_next : (a b : ℕ) → b ≡ a + 1 → b ≤ a + 1
low_next a b is = grind arith

low_same : (a : ℕ) → a ≤ a + 1
low_same a = omega arith

none_used : (k : ℕ) → 0 ≤ k
none_used k = omega arith

-- ---- a step that takes no number

any_node : (n last : ℕ) (node : Node) (ms : List Moment) → Numbers n ms last → NodeNumbers n last node ms
any_node n last Down ms h = tt
any_node n last (Up x) ms h = h

stays_counted : (n asked : ℕ) (node : Node) (os : List Output) (s : Scene) → Counted asked s.moments → Numbers n s.moments asked → Ends n asked node os s → Stepped n node os s
stays_counted n asked node os s k num e = record {
  last = asked;
  own = e.own;
  said = e.said;
  apart = e.apart;
  numbers = any_node n asked node (passing n os s).moments (passing_steady n n os s e.steady asked num);
  low = then_le asked (used_lines s.moments) (used_lines (passing n os s).moments) k.low (passing_used n os s).used;
}

plain_step : (c : Cluster) (n now : ℕ) (ends : method.Outcome) (i : Input) (replies : List Reply) (x : UpNode) (disk : NodeRecord) (s : Scene) → IsNoCommand i → Was n Free x.requests s
    → Counted x.requests.asked s.moments → Numbers n s.moments x.requests.asked → SteppedBy c n x disk (under replies (course_at c n now ends x i)) s
plain_step c n now ends i replies x disk s plain w k num =
    stays_counted n x.requests.asked _ _ s k num (walk c n replies (course_at c n now ends x i) Free x.requests.asked x disk s (course_at_so c n now ends x i plain) refl w)

-- ---- a command

command_step : (c : Cluster) (n : ℕ) (replies : List Reply) (x : UpNode) (disk : NodeRecord) (words : List ℕ) (s : Scene) → IsLed x → slice_get s.moments 0 ≡ Some (Said (line.Event (event.Command n words)))
    → Was n Free x.requests s → Counted x.requests.asked s.moments → Numbers n s.moments x.requests.asked → SteppedBy c n x disk (under replies (cuts.command_course c n x words)) s
command_step c n replies x disk words s led said w k num =
    let q : ℕ = next_number x.requests in
    let is : q ≡ x.requests.asked + 1 = next_is x.requests.asked x refl (room_left x.requests.asked s.moments k) in
    let y : UpNode = numbered x in
    let told : Entry = entry.Command (command.Asked n q) in
    let t : Scene = telling told s in
    let rest : Course = cuts.worded_course c n y q (command_of (version_of c) words) in
    let more : List Output = given_all c n (site (Up y) disk) (under replies rest) in
    let e : Ends n q (after_all c n (site (Up y) disk) (under replies rest)).node more t =
    walk c n replies rest (Held q) q y disk t (worded_so c n y q (command_of (version_of c) words) led) refl
    (record { owed = owed_asked n s.moments x.requests.asked q x.requests.waiting is w.owed; said = (asked_numbered n q x.requests.asked s.moments is num, w.said) }) in
    record {
      last = q;
      own = e.own;
      said = e.said;
      apart = λ j ne. ((λ same. ne (sym same)), e.apart j ne);
      numbers = any_node n q (after_all c n (site (Up y) disk) (under replies rest)).node (passing n more t).moments (passing_steady n n more t e.steady q (asked_numbers n q s.moments));
      low = then_le q (length (lines_of s.moments)) (used_lines (passing n (Tells told ∷ more) s).moments)
          (next_low x.requests.asked q (line.Event (event.Command n words)) s.moments (low_next x.requests.asked q is) said k) (told_uses n told more s);
    }

-- ---- a monitor's report

-- at most one number more
record Rises (n asked : ℕ) (node : Node) (os : List Output) (s : Scene) : Type 0 where
  last : ℕ
  ends : Ends n last node os s
  numbers : Numbers n s.moments last
  low : last ≤ asked + 1

abbrev RisesBy : Cluster → ℕ → UpNode → NodeRecord → List Doing → Scene → Type 0
RisesBy c n x disk ds s = Rises n x.requests.asked (after_all c n (site (Up x) disk) ds).node (given_all c n (site (Up x) disk) ds) s

nothing_asked : (c : Cluster) (n : ℕ) (replies : List Reply) (x : UpNode) (disk : NodeRecord) (s : Scene) → Numbers n s.moments x.requests.asked → Was n Free x.requests s
    → RisesBy c n x disk (under replies Stops) s
nothing_asked c n replies x disk s num w =
    record { last = x.requests.asked; ends = walk c n replies Stops Free x.requests.asked x disk s tt refl w; numbers = num; low = low_same x.requests.asked }

-- .. and this is so of the next number
abbrev NextNumbers : ℕ → List Moment → ℕ → Type 0
NextNumbers n ms last = (q : ℕ) → q ≡ last + 1 → Numbers n ms q

asking_when : (c : Cluster) (n : ℕ) (replies : List Reply) (x : UpNode) (disk : NodeRecord) (ask : Ask) (s : Scene) (b : Bool) → x.requests.asked < 2 ^ 64 - 1
    → 1 + tally is_untold x.requests.waiting ≤ monitors_of n s.moments → Numbers n s.moments x.requests.asked → NextNumbers n s.moments x.requests.asked → Was n Free x.requests s
    → (let k : Course = if b then Acts (Minds (monitor_asked x ask).requests x.presidency) (cuts.asking_if_course (is_idle x.requests.waiting) c n (monitor_asked x ask)) else Stops in
    RisesBy c n x disk (under replies k) s)
asking_when c n replies x disk ask s false room more num next w = nothing_asked c n replies x disk s num w
asking_when c n replies x disk ask s true room more num next w =
    let y : UpNode = monitor_asked x ask in
    let q : ℕ = next_number x.requests in
    let is : q ≡ x.requests.asked + 1 = next_is x.requests.asked x refl room in
    let rest : Course = cuts.asking_if_course (is_idle x.requests.waiting) c n y in
    record {
      last = q;
      ends = walk c n replies rest Free q y disk s (asking_if_so c n (is_idle x.requests.waiting) y) refl
          (record { owed = owed_added n s.moments x.requests.asked x.requests.waiting (record { number = q; text = ask_words_of ask; told = false; second = x.second }) is refl more w.owed; said = w.said });
      numbers = next q is;
      low = low_next x.requests.asked q is;
    }

asking_this : (c : Cluster) (n : ℕ) (replies : List Reply) (x : UpNode) (disk : NodeRecord) (o : Option Ask) (s : Scene) → x.requests.asked < 2 ^ 64 - 1
    → IfSome o (λ ask. (1 + tally is_untold x.requests.waiting ≤ monitors_of n s.moments) × NextNumbers n s.moments x.requests.asked) → Numbers n s.moments x.requests.asked → Was n Free x.requests s
    → RisesBy c n x disk (under replies (cuts.asking_this_course c n x o)) s
asking_this c n replies x disk None s room more num w = nothing_asked c n replies x disk s num w
asking_this c n replies x disk (Some ask) s room more num w = asking_when c n replies x disk ask s (is_member x.seat && not (is_full x.requests)) room more.0 num more.1 w

same_is : (k : ℕ) → (k == k) ≡ true
same_is k = grind arith

one_more : (a b c : ℕ) → a ≤ b → c ≡ 1 + b → 1 + a ≤ c
one_more a b c h is = grind arith

-- the line of a monitor that asks makes room for its request, and for its number
asked_room : (n : ℕ) (r : List ℕ) (a : ProbeAction) (ms : List Moment) (waiting : List Request) (last : ℕ) → tally is_untold waiting ≤ monitors_of n ms → Numbers n ms last
    → IfSome (asked_by a r) (λ ask. (1 + tally is_untold waiting ≤ monitors_of n (Told (entry.Call (call.Probed n r (result_of a))) ∷ ms)) × NextNumbers n (Told (entry.Call (call.Probed n r (result_of a))) ∷ ms) last)
asked_room n r action.Restart ms waiting last h num =
    (one_more (tally is_untold waiting) (monitors_of n ms) _ h (probed_more n r result.Restart ms (same_is n)), λ q is. monitor_numbers n q last r result.Restart ms (same_is n) is num)
asked_room n r action.Move ms waiting last h num =
    (one_more (tally is_untold waiting) (monitors_of n ms) _ h (probed_more n r result.Move ms (same_is n)), λ q is. monitor_numbers n q last r result.Move ms (same_is n) is num)
asked_room n r action.Logged ms waiting last h num = tt

report_step : (c : Cluster) (n : ℕ) (replies : List Reply) (x : UpNode) (disk : NodeRecord) (r : List ℕ) (p : Probed) (said_line : Line) (s : Scene) → slice_get s.moments 0 ≡ Some (Said said_line)
    → Was n Free x.requests s → Counted x.requests.asked s.moments → Numbers n s.moments x.requests.asked → SteppedBy c n x disk (under replies (cuts.reporting_course c n x r p)) s
report_step c n replies x disk r probe.NoMonitor said_line s said w k num = stays_counted n x.requests.asked _ _ s k num (walk c n replies Stops Free x.requests.asked x disk s tt refl w)
report_step c n replies x disk r probe.Good said_line s said w k num =
    stays_counted n x.requests.asked _ _ s k num
    (walk c n replies (cuts.reporting_course c n x r probe.Good) Free x.requests.asked x disk s
    (Free, quiet_gives n Free x.requests.waiting (report_told n r result.Ok ∷ []) (tt, tt), (Free, refl, tt)) refl w)
report_step c n replies x disk r (probe.Failed a) said_line s said w k num =
    let told : Entry = entry.Call (call.Probed n r (result_of a)) in
    let t : Scene = telling told s in
    let y : UpNode = reported x c r (probe.Failed a) in
    let ds : List Doing = under replies (cuts.asking_this_course c n y (asked_by a r)) in
    let l : Leaves s.moments t.moments = quiet_leaves told s.moments tt in
    let e : RisesBy c n y disk ds t =
    asking_this c n replies y disk (asked_by a r) t (room_left x.requests.asked s.moments k) (asked_room n r a s.moments x.requests.waiting x.requests.asked w.owed.monitors num)
    (apart_numbers n told s.moments tt x.requests.asked num)
    (record { owed = owed_stays n s.moments t.moments Free x.requests.asked x.requests.waiting (l.wait n) w.owed; said = l.said w.said }) in
    let f : Ends n e.last (after_all c n (site (Up y) disk) ds).node (Tells told ∷ given_all c n (site (Up y) disk) ds) s =
    then_ends n e.last (after_all c n (site (Up y) disk) ds).node (Tells told ∷ []) (given_all c n (site (Up y) disk) ds) s (λ j ne. (tt, tt)) (tt, tt) e.ends in
    record {
      last = e.last;
      own = f.own;
      said = f.said;
      apart = f.apart;
      numbers = any_node n e.last (after_all c n (site (Up y) disk) ds).node (passing n (given_all c n (site (Up y) disk) ds) t).moments
          (passing_steady n n (given_all c n (site (Up y) disk) ds) t e.ends.steady e.last e.numbers);
      low = then_le e.last (length (lines_of s.moments)) _ (next_low x.requests.asked e.last said_line s.moments e.low said k) (told_uses n told (given_all c n (site (Up y) disk) ds) s);
    }

-- ---- a node that is up

pub up_step : (c : Cluster) (n now : ℕ) (ends : method.Outcome) (i : Input) (replies : List Reply) (x : UpNode) (disk : NodeRecord) (s : Scene) → IsLed x → IsSaid s.moments n i → Was n Free x.requests s
    → Counted x.requests.asked s.moments → Numbers n s.moments x.requests.asked → SteppedBy c n x disk (under replies (course_at c n now ends x i)) s
up_step c n now ends (input.Commanded words) replies x disk s led said w k num = command_step c n replies (at_second now x) disk words s led said w k num
up_step c n now ends (input.Reported p good) replies x disk s led said w k num =
    let y : UpNode = at_second now x in
    report_step c n replies y disk p (probed y.worker (own_config c y) p good y.second) (line.Event (event.Probe n p good)) s said w k num
up_step c n now ends input.Boot replies x disk s led said w k num = plain_step c n now ends input.Boot replies x disk s tt w k num
up_step c n now ends input.Crash replies x disk s led said w k num = plain_step c n now ends input.Crash replies x disk s tt w k num
up_step c n now ends input.Tick replies x disk s led said w k num = plain_step c n now ends input.Tick replies x disk s tt w k num
up_step c n now ends (input.Packet from m) replies x disk s led said w k num = plain_step c n now ends (input.Packet from m) replies x disk s tt w k num
up_step c n now ends input.CommandDue replies x disk s led said w k num = plain_step c n now ends input.CommandDue replies x disk s tt w k num
up_step c n now ends (input.Answered a) replies x disk s led said w k num = plain_step c n now ends (input.Answered a) replies x disk s tt w k num
up_step c n now ends (input.Wrote d value a) replies x disk s led said w k num = plain_step c n now ends (input.Wrote d value a) replies x disk s tt w k num
up_step c n now ends (input.Client name client port) replies x disk s led said w k num = plain_step c n now ends (input.Client name client port) replies x disk s tt w k num

-- ---- a node that is down

boot_ends : (n : ℕ) (why : DownCause) (s : Scene) → AnswersWait s.moments → Stepped n Down (of_node n note.Up ∷ gone_line n why) s
boot_ends n why s said = record {
  last = 0;
  own = tt;
  said = (tt, (tt, said));
  apart = λ k ne. ((λ same. ne (sym same)), (tt, tt));
  numbers = tt;
  low = none_used (used_lines (passing n (of_node n note.Up ∷ gone_line n why) s).moments);
}

boots : (c : Cluster) (n : ℕ) (disk : NodeRecord) (s : Scene) → AnswersWait s.moments → Stepped n (Up (up_with n (first_valid_of c n) disk)) (of_node n note.Up ∷ []) s
boots c n disk s said = record {
  last = 0;
  own = (refl, owed_none n _ 0 [] refl (λ k above. boot_unanswered n k s.moments) (boot_none n s.moments));
  said = (tt, said);
  apart = λ k ne. ((λ same. ne (sym same)), tt);
  numbers = boot_numbers n s.moments;
  low = none_used (used_lines (passing n (of_node n note.Up ∷ []) s).moments);
}

booted : (c : Cluster) (n : ℕ) (replies : List Reply) (disk : NodeRecord) (s : Scene) → AnswersWait s.moments
    → Stepped n (after_all c n (site Down disk) (cuts.boot_doings replies)).node (given_all c n (site Down disk) (cuts.boot_doings replies)) s
booted c n [] disk s said = boot_ends n down.Stopped s said
booted c n (Done ∷ replies) disk s said = boots c n disk s said
booted c n (Lost_new why ∷ replies) disk s said = boot_ends n why s said
booted c n (Lost_old why ∷ replies) disk s said = boot_ends n why s said

nothing_taken : (n : ℕ) (s : Scene) → AnswersWait s.moments → Stepped n Down [] s
nothing_taken n s said = record { last = 0; own = tt; said = said; apart = λ k ne. tt; numbers = tt; low = none_used (used_lines s.moments) }

pub down_step : (c : Cluster) (n : ℕ) (i : Input) (replies : List Reply) (disk : NodeRecord) (s : Scene) → AnswersWait s.moments
    → Stepped n (after_all c n (site Down disk) (down_doings replies i)).node (given_all c n (site Down disk) (down_doings replies i)) s
down_step c n input.Boot replies disk s said = booted c n replies disk s said
down_step c n input.Crash replies disk s said = nothing_taken n s said
down_step c n input.Tick replies disk s said = nothing_taken n s said
down_step c n (input.Packet from m) replies disk s said = nothing_taken n s said
down_step c n input.CommandDue replies disk s said = nothing_taken n s said
down_step c n (input.Answered a) replies disk s said = nothing_taken n s said
down_step c n (input.Wrote d value a) replies disk s said = nothing_taken n s said
down_step c n (input.Commanded words) replies disk s said = nothing_taken n s said
down_step c n (input.Reported r good) replies disk s said = nothing_taken n s said
down_step c n (input.Client name client port) replies disk s said = nothing_taken n s said
