-- Which steps of a node ask no command: all but that in which a command comes, where its line stands first.
use Rattle.std.specs.Prelude.{ℕ, ◌&&◌, not, ◌++◌, Bool, true, false, if◌then◌else◌, List, [], ◌∷◌, Option, None, Some}
use Rattle.std.specs.List.{AllByRecursion}
use Rattle.std.proofs.Common.{refl}
use Rattle.cl_base.specs.declared.command.Ask.{Ask}
use Rattle.cl_base.specs.declared.method.Outcome as method
use Rattle.cmm_member.specs.Records.{NodeRecord}
use Rattle.request_queue.specs.Queue.{is_full}
use Rattle.rgm_member.specs.Probes.{probed}
use Rattle.rgm_member.specs.declared.probed.Probed.{Probed}
use Rattle.rgm_member.specs.declared.probed.Probed.TheVariants as probe
use Rattle.status_report.specs.declared.command_entry.CommandEntry.TheVariants as command
use Rattle.status_report.specs.declared.entry.Entry.TheVariants as entry
use Rattle.status_report.specs.declared.node_entry.DownCause.{DownCause}
use Rattle.node_model.specs.Configurations.{own_config}
use Rattle.node_model.specs.Groups.{asked_by, monitor_asked, reported}
use Rattle.node_model.specs.Requests.{is_idle}
use Rattle.node_model.specs.Seats.{is_member}
use Rattle.node_model.specs.Steps.{at_second}
use Rattle.node_model.specs.declared.cluster.Cluster.{Cluster}
use Rattle.node_model.specs.declared.input.Input.{Input}
use Rattle.node_model.specs.declared.input.Input.TheVariants as input
use Rattle.node_model.specs.declared.node.Node.TheVariants.{Down, Up}
use Rattle.node_model.specs.declared.node.UpNode.{UpNode}
use Rattle.node_model.specs.declared.output.Output.{Output}
use Rattle.node_model.specs.declared.output.Output.TheVariants.{Tells}
use Rattle.refinement.specs.Courses.{Course, Reply, under}
use Rattle.refinement.specs.Courses.Course.{Acts, Falls, Keeps, Stops}
use Rattle.refinement.specs.Courses.Reply.{Done, Lost_new, Lost_old}
use Rattle.refinement.specs.Cuts as cuts
use Rattle.refinement.specs.Cuts.{course_at, down_doings}
use Rattle.refinement.specs.Doings.{Act, Change, acted, changed, effect, first_lines, given_all, gone_line, last_lines, said, saved_lines, site}
use Rattle.refinement.specs.Doings.Act.{Makes, Minds}
use Rattle.refinement.specs.Doings.Change.{Acks, Admits, Commits, Counts, Distrusts, Installs, Leads, Prepares, Promises, Proposes, Sits, Starts}
use Rattle.refinement.specs.Doings.Doing.{Saves}
use Rattle.run_history.proofs.Lists.{both}
use Rattle.run_history.proofs.Small.{AllSmall, IsSmallAct}
use Rattle.run_commands.specs.carried.Guards.{ActAsk, Command, GoesAsk, hand_act, hand_change}
use Rattle.run_commands.proofs.carried.Courses as asks
use Rattle.run_commands.proofs.carried.Doings.{plain_act}
use Rattle.run_commands.proofs.carried.Plain.{ArePlain, IsPlainOutput, IsSilent, first_plain, last_plain}

-- no command is asked
abbrev pub IsUnasked : Output → Type 0
IsUnasked (Tells (entry.Command (command.Asked n q))) = ⊥
IsUnasked _ = Unit {0}

abbrev pub AreUnasked : List Output → Type 0
AreUnasked os = AllByRecursion IsUnasked os

plain_unasked : (o : Output) → IsPlainOutput o → IsUnasked o
plain_unasked (Tells (entry.Command (command.Asked n q))) h = absurd h
plain_unasked _ h = tt

plains_unasked : (os : List Output) → ArePlain os → AreUnasked os
plains_unasked [] h = tt
plains_unasked (o ∷ os) h = (plain_unasked o h.0, plains_unasked os h.1)

-- ---- a small step

silent_unasked : (n : ℕ) (change : Change) → IsSilent change → AreUnasked (first_lines n change)
silent_unasked n change silent = plains_unasked (first_lines n change) (first_plain n change silent)

first_unasked : (n : ℕ) (change : Change) → AreUnasked (first_lines n change)
first_unasked n (Proposes s p text) = (tt, tt)
first_unasked n (Promises p) = silent_unasked n (Promises p) tt
first_unasked n (Leads p members) = silent_unasked n (Leads p members) tt
first_unasked n (Counts a k s i) = silent_unasked n (Counts a k s i) tt
first_unasked n (Installs s i) = silent_unasked n (Installs s i) tt
first_unasked n (Starts a k s) = silent_unasked n (Starts a k s) tt
first_unasked n (Sits s e) = silent_unasked n (Sits s e) tt
first_unasked n (Distrusts d) = silent_unasked n (Distrusts d) tt
first_unasked n (Admits at word a d) = silent_unasked n (Admits at word a d) tt
first_unasked n (Acks s p q left text) = silent_unasked n (Acks s p q left text) tt
first_unasked n (Prepares s text) = silent_unasked n (Prepares s text) tt
first_unasked n (Commits s) = silent_unasked n (Commits s) tt

change_unasked : (c : Cluster) (n : ℕ) (x : UpNode) (change : Change) → AreUnasked (first_lines n change ++ last_lines c n x change)
change_unasked c n x change = both IsUnasked (first_lines n change) (last_lines c n x change) (first_unasked n change) (plains_unasked (last_lines c n x change) (last_plain c n x change))

saved_unasked : (c : Cluster) (n : ℕ) (x : UpNode) (change : Change) → AreUnasked (first_lines n change ++ saved_lines c n x change)
saved_unasked c n x change =
    both IsUnasked (first_lines n change) (saved_lines c n x change) (first_unasked n change) (tt, plains_unasked (last_lines c n x change) (last_plain c n x change))

falls_unasked : (n : ℕ) (change : Change) (why : DownCause) → AreUnasked ((first_lines n change ++ gone_line n why) ++ [])
falls_unasked n change why = both IsUnasked (first_lines n change ++ gone_line n why) [] (both IsUnasked (first_lines n change) (gone_line n why) (first_unasked n change) (tt, tt)) tt

said_unasked : (c : Cluster) (n : ℕ) (i : Input) (o : Option Command) (h : Option ℕ) (x : UpNode) (a : Act) → IsSmallAct a → ActAsk n i o h x a → AreUnasked (said c n x a)
said_unasked c n i o h x (Makes change) small ask = change_unasked c n x change
said_unasked c n i o h x a small ask = plains_unasked (said c n x a) (plain_act c n i o h x a tt small ask)

-- ---- a course

pub course_unasked : (c : Cluster) (n : ℕ) (i : Input) (o : Option Command) (replies : List Reply) (k : Course) (h : Option ℕ) (x : UpNode) (disk : NodeRecord) → GoesAsk c n i o h x k → AllSmall (under replies k)
    → AreUnasked (given_all c n (site (Up x) disk) (under replies k))
course_unasked c n i o replies Stops h x disk goes small = tt
course_unasked c n i o replies (Acts a rest) h x disk goes small =
    both IsUnasked (said c n x a) (given_all c n (site (Up (acted c n x a)) disk) (under replies rest)) (said_unasked c n i o h x a small.0 goes.0) (course_unasked c n i o replies rest (hand_act x h a) (acted c n x a) disk goes.1 small.1)
course_unasked c n i o [] (Keeps change rest) h x disk goes small = falls_unasked n change _
course_unasked c n i o (Done ∷ replies) (Keeps change rest) h x disk goes small =
    both IsUnasked (first_lines n change ++ saved_lines c n x change) (given_all c n (effect c n (site (Up x) disk) (Saves change)) (under replies rest)) (saved_unasked c n x change)
    (course_unasked c n i o replies rest (hand_change x h change) (changed c n x change) (effect c n (site (Up x) disk) (Saves change)).disk goes.1 small.1)
course_unasked c n i o (Lost_new why ∷ replies) (Keeps change rest) h x disk goes small = falls_unasked n change why
course_unasked c n i o (Lost_old why ∷ replies) (Keeps change rest) h x disk goes small = falls_unasked n change why
course_unasked c n i o replies (Falls why) h x disk goes small = (tt, tt)

-- ---- what a monitor asks takes a number, and no line

asking_unasked : (c : Cluster) (n : ℕ) (i : Input) (replies : List Reply) (x : UpNode) (disk : NodeRecord) (ask : Ask) (b : Bool)
    → (let k : Course = if b then Acts (Minds (monitor_asked x ask).requests x.presidency) (cuts.asking_if_course (is_idle x.requests.waiting) c n (monitor_asked x ask)) else Stops in
    AllSmall (under replies k) → AreUnasked (given_all c n (site (Up x) disk) (under replies k)))
asking_unasked c n i replies x disk ask false small = tt
asking_unasked c n i replies x disk ask true small =
    let y : UpNode = monitor_asked x ask in
    course_unasked c n i None replies (cuts.asking_if_course (is_idle x.requests.waiting) c n y) None y disk (asks.asking_if_so c n i None None (is_idle x.requests.waiting) y) small.1

asking_this_unasked : (c : Cluster) (n : ℕ) (i : Input) (replies : List Reply) (x : UpNode) (disk : NodeRecord) (o : Option Ask) → AllSmall (under replies (cuts.asking_this_course c n x o))
    → AreUnasked (given_all c n (site (Up x) disk) (under replies (cuts.asking_this_course c n x o)))
asking_this_unasked c n i replies x disk None small = tt
asking_this_unasked c n i replies x disk (Some ask) small = asking_unasked c n i replies x disk ask (is_member x.seat && not (is_full x.requests)) small

reporting_unasked : (c : Cluster) (n : ℕ) (i : Input) (replies : List Reply) (x : UpNode) (disk : NodeRecord) (r : List ℕ) (p : Probed) → AllSmall (under replies (cuts.reporting_course c n x r p))
    → AreUnasked (given_all c n (site (Up x) disk) (under replies (cuts.reporting_course c n x r p)))
reporting_unasked c n i replies x disk r probe.NoMonitor small = tt
reporting_unasked c n i replies x disk r probe.Good small = course_unasked c n i None replies (cuts.reporting_course c n x r probe.Good) None x disk ((tt, tt), (tt, tt)) small
reporting_unasked c n i replies x disk r (probe.Failed a) small = (tt, asking_this_unasked c n i replies (reported x c r (probe.Failed a)) disk (asked_by a r) small.1.1)

-- ---- a step

-- a command comes
abbrev pub IsNoCommand : Input → Type 0
IsNoCommand (input.Commanded words) = ⊥
IsNoCommand _ = Unit {0}

plain_unasked_at : (c : Cluster) (n now : ℕ) (ends : method.Outcome) (i : Input) (replies : List Reply) (x : UpNode) (disk : NodeRecord) → asks.IsNoCommand c n i None i → AllSmall (under replies (course_at c n now ends x i))
    → AreUnasked (given_all c n (site (Up x) disk) (under replies (course_at c n now ends x i)))
plain_unasked_at c n now ends i replies x disk plain small = course_unasked c n i None replies (course_at c n now ends x i) None x disk (asks.course_at_so c n i None now ends x i refl plain) small

pub up_unasked : (c : Cluster) (n now : ℕ) (ends : method.Outcome) (i : Input) (replies : List Reply) (x : UpNode) (disk : NodeRecord) → IsNoCommand i → AllSmall (under replies (course_at c n now ends x i))
    → AreUnasked (given_all c n (site (Up x) disk) (under replies (course_at c n now ends x i)))
up_unasked c n now ends (input.Commanded words) replies x disk none small = absurd none
up_unasked c n now ends (input.Reported p good) replies x disk none small =
    let y : UpNode = at_second now x in
    reporting_unasked c n (input.Reported p good) replies y disk p (probed y.worker (own_config c y) p good y.second) small.1
up_unasked c n now ends input.Boot replies x disk none small = plain_unasked_at c n now ends input.Boot replies x disk tt small
up_unasked c n now ends input.Crash replies x disk none small = plain_unasked_at c n now ends input.Crash replies x disk tt small
up_unasked c n now ends input.Tick replies x disk none small = plain_unasked_at c n now ends input.Tick replies x disk tt small
up_unasked c n now ends (input.Packet from m) replies x disk none small = plain_unasked_at c n now ends (input.Packet from m) replies x disk tt small
up_unasked c n now ends input.CommandDue replies x disk none small = plain_unasked_at c n now ends input.CommandDue replies x disk tt small
up_unasked c n now ends (input.Answered a) replies x disk none small = plain_unasked_at c n now ends (input.Answered a) replies x disk tt small
up_unasked c n now ends (input.Wrote d value a) replies x disk none small = plain_unasked_at c n now ends (input.Wrote d value a) replies x disk tt small
up_unasked c n now ends (input.Client name client port) replies x disk none small = plain_unasked_at c n now ends (input.Client name client port) replies x disk tt small

boot_unasked : (c : Cluster) (n : ℕ) (replies : List Reply) (disk : NodeRecord) → AreUnasked (given_all c n (site Down disk) (cuts.boot_doings replies))
boot_unasked c n [] disk = (tt, (tt, tt))
boot_unasked c n (Done ∷ replies) disk = (tt, tt)
boot_unasked c n (Lost_new why ∷ replies) disk = (tt, (tt, tt))
boot_unasked c n (Lost_old why ∷ replies) disk = (tt, (tt, tt))

pub down_unasked : (c : Cluster) (n : ℕ) (i : Input) (replies : List Reply) (disk : NodeRecord) → AreUnasked (given_all c n (site Down disk) (down_doings replies i))
down_unasked c n input.Boot replies disk = boot_unasked c n replies disk
down_unasked c n _ replies disk = tt
