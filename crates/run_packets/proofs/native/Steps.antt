-- A step of a node, by what comes to it.
use Rattle.std.specs.Prelude.{ℕ, ◌≡◌, All, Bool, true, false, List, [], ◌∷◌, None, Some, if◌then◌else◌}
use Rattle.cl_base.specs.Sets.{has}
use Rattle.cl_base.specs.declared.header.Header.{Header}
use Rattle.cl_base.specs.declared.method.Outcome.{Outcome}
use Rattle.cmm_attempt.specs.Calls.{IsDevice}
use Rattle.cmm_member.specs.Records.{NodeRecord}
use Rattle.device_queue.specs.Queue.{begins_plainly, due_device, next_of}
use Rattle.node_model.specs.Configurations.{configured_at}
use Rattle.node_model.specs.Members.{hearing, is_foreign}
use Rattle.node_model.specs.Steps.{at_second}
use Rattle.node_model.specs.Ticks.{later, membership_of}
use Rattle.node_model.specs.declared.cluster.Cluster.{Cluster}
use Rattle.node_model.specs.declared.input.Input.{Input}
use Rattle.node_model.specs.declared.input.Input.TheVariants.{Answered, Boot, Client, CommandDue, Commanded, Crash, Packet, Reported, Tick, Wrote}
use Rattle.node_model.specs.declared.node.Node.{Node}
use Rattle.node_model.specs.declared.node.Node.TheVariants.{Down, Up}
use Rattle.node_model.specs.declared.node.UpNode.{UpNode}
use Rattle.refinement.proofs.Handlers.{delivered_by}
use Rattle.refinement.specs.Courses.{Course, Reply, joined, under}
use Rattle.refinement.specs.Courses.Course.{Acts, Falls, Stops}
use Rattle.refinement.specs.Courses.Reply.{Done, Lost_new, Lost_old}
use Rattle.refinement.specs.Cuts as cuts
use Rattle.refinement.specs.Cuts.{doings}
use Rattle.refinement.specs.Doings.{Act, Change, Doing, Site, effect, gone_line, site}
use Rattle.refinement.specs.Doings.Act.{Dates, Hears, Makes, Ticks}
use Rattle.refinement.specs.Doings.Change.{Leads}
use Rattle.refinement.specs.Doings.Doing.{Comes_up, Does, Forgets, Goes_down, Loses, Saves}
use Rattle.refinement.specs.Ties.{Delivered}
use Rattle.run_attempts.proofs.Courses.{answer_taken_calm, body_calm, client_calm, command_calm, distrusting_calm, fenced_calm, report_calm}
use Rattle.run_attempts.proofs.Views.{calm_goes, tick_so, under_so}
use Rattle.run_attempts.proofs.Walk.{under_up}
use Rattle.run_attempts.specs.Steps.{ActSo, AllSo, ChangeSo, DoingSo, IsCalm, IsDue, Wish}
use Rattle.status_report.specs.declared.node_entry.DownCause.{DownCause}
use Rattle.status_report.specs.declared.node_entry.DownCause.TheVariants.{Stopped}
use Rattle.wire.specs.declared.message.Message.{Message}
use Rattle.run_packets.specs.native.Named.{AttachedKnown, HandNamed, WithView}
use Rattle.run_packets.proofs.native.Beats.{boot_named, hearing_named, later_named}
use Rattle.run_packets.proofs.native.Lines.{tick_named}
use Rattle.run_packets.proofs.native.Walk.{AllLeave, OneLeaves, all_leave, down_leaves, more_leave, none_leave}

-- ---- a wish that is more

more_change : (P Q : Wish) → ((x : UpNode) (p members : ℕ) → P x p members → Q x p members) → (x : UpNode) (ch : Change) → ChangeSo P x ch → ChangeSo Q x ch
more_change P Q f x (Leads p members) h = f x p members h
more_change P Q f x _ h = tt

more_act : (P Q : Wish) → ((x : UpNode) (p members : ℕ) → P x p members → Q x p members) → (x : UpNode) (a : Act) → ActSo P x a → ActSo Q x a
more_act P Q f x Ticks h = absurd h
more_act P Q f x (Hears from b) h = absurd h
more_act P Q f x (Makes change) h = more_change P Q f x change h
more_act P Q f x _ h = tt

more_doing : (P Q : Wish) → ((x : UpNode) (p members : ℕ) → P x p members → Q x p members) → (node : Node) (d : Doing) → DoingSo P node d → DoingSo Q node d
more_doing P Q f (Up x) (Does a) h = more_act P Q f x a h
more_doing P Q f (Up x) (Saves change) h = more_change P Q f x change h
more_doing P Q f Down (Does a) h = tt
more_doing P Q f Down (Saves change) h = tt
more_doing P Q f node Comes_up h = tt
more_doing P Q f node (Goes_down why) h = tt
more_doing P Q f node (Loses change why) h = tt
more_doing P Q f node (Forgets change why) h = tt

more_all : (P Q : Wish) → ((x : UpNode) (p members : ℕ) → P x p members → Q x p members) → (c : Cluster) (n : ℕ) (x : Site) (ds : List Doing) → AllSo P c n x ds → AllSo Q c n x ds
more_all P Q f c n x [] h = tt
more_all P Q f c n x (d ∷ ds) h = (more_doing P Q f x.node d h.0, more_all P Q f c n (effect c n x d) ds h.1)

-- ---- a node that is up

calm_leave : (h : Header) (c : Cluster) (n : ℕ) (told : Delivered) (replies : List Reply) (x : UpNode) (disk : NodeRecord) (k : Course) → All IsDevice c.attached → IsCalm k → HandNamed c told
    → AllLeave h c n told (site (Up x) disk) None (under replies k)
calm_leave h c n told replies x disk k fits calm hand =
    all_leave h c n told (site (Up x) disk) None (under replies k) fits (under_so WithView c n replies disk x k (calm_goes WithView c n x k calm)) (under_up replies k) hand

dates_leave : (h : Header) (c : Cluster) (n now : ℕ) (told : Delivered) (x : UpNode) (disk : NodeRecord) → OneLeaves h c n told (site (Up x) disk) None (Does (Dates now))
dates_leave h c n now told x disk M i known tied may guard gave k = record { site_so = record { disk_so = k.disk_so; node_so = k.node_so }; turn_so = tt; outputs_so = tt }

hears_leave : (h : Header) (c : Cluster) (n from : ℕ) (m : Message) (x : UpNode) (disk : NodeRecord) → HandNamed c (Some (from, m))
    → OneLeaves h c n (Some (from, m)) (site (Up x) disk) None (Does (Hears from m.body))
hears_leave h c n from m x disk hand M i known tied may guard gave k =
    record { site_so = record { disk_so = k.disk_so; node_so = hearing_named c n x from m.body hand.0 k.node_so }; turn_so = tt; outputs_so = tt }

packet_leave : (h : Header) (c : Cluster) (n now : ℕ) (ends : Outcome) (replies : List Reply) (from : ℕ) (m : Message) (x : UpNode) (disk : NodeRecord) → All IsDevice c.attached
    → HandNamed c (Some (from, m)) → AllLeave h c n (Some (from, m)) (site (Up x) disk) None (under replies (cuts.packet_course c n ends x from m))
packet_leave h c n now ends replies from m x disk fits hand = by_test (is_foreign c n x m.body)
  where
    y : UpNode
    y = hearing x from m.body

    rest : Course
    rest = cuts.body_course c n ends y from m m.body

    by_test : (t : Bool) → AllLeave h c n (Some (from, m)) (site (Up x) disk) None (under replies (if t then Stops else Acts (Hears from m.body) rest))
    by_test true = none_leave h c n (Some (from, m)) (site (Up x) disk) None
    by_test false =
        more_leave h c n (Some (from, m)) (site (Up x) disk) None (Does (Hears from m.body)) (under replies rest) fits (hears_leave h c n from m x disk hand)
        (calm_leave h c n (Some (from, m)) replies y disk rest fits (body_calm c n ends y from m m.body) hand)

ticks_leave : (h : Header) (c : Cluster) (n : ℕ) (x : UpNode) (disk : NodeRecord) → OneLeaves h c n None (site (Up x) disk) None (Does Ticks)
ticks_leave h c n x disk M i known tied may guard gave k =
    record { site_so = record { disk_so = k.disk_so; node_so = later_named c n x k.node_so }; turn_so = tt; outputs_so = (tt, tick_named c x) }

tick_leave : (h : Header) (c : Cluster) (n : ℕ) (ends : Outcome) (replies : List Reply) (x : UpNode) (disk : NodeRecord) → All IsDevice c.attached
    → AllLeave h c n None (site (Up x) disk) None (under replies (cuts.tick_course c n ends x))
tick_leave h c n ends replies x disk fits =
    let y : UpNode = later c x in
    let rest : Course = joined c n y (cuts.governing_course c n ends x y) (λ z. cuts.ticked_course c n z z.attempt) in
    let due : Wish = IsDue c (configured_at c x) (membership_of x.seat) in
    more_leave h c n None (site (Up x) disk) None (Does Ticks) (under replies rest) fits (ticks_leave h c n x disk)
    (all_leave h c n None (site (Up y) disk) None (under replies rest) fits
    (more_all due WithView (λ z p members is. is.view) c n (site (Up y) disk) (under replies rest) (under_so due c n replies disk y rest (tick_so c n ends x))) (under_up replies rest) tt)

course_leave : (h : Header) (c : Cluster) (n now : ℕ) (ends : Outcome) (replies : List Reply) (i : Input) (x : UpNode) (disk : NodeRecord) → All IsDevice c.attached → HandNamed c (delivered_by i)
    → AllLeave h c n (delivered_by i) (site (Up x) disk) None (under replies (cuts.course_of c n ends x i))
course_leave h c n now ends replies Tick x disk fits hand = tick_leave h c n ends replies x disk fits
course_leave h c n now ends replies (Packet from m) x disk fits hand = packet_leave h c n now ends replies from m x disk fits hand
course_leave h c n now ends replies Boot x disk fits hand = calm_leave h c n None replies x disk Stops fits tt tt
course_leave h c n now ends replies Crash x disk fits hand = calm_leave h c n None replies x disk (Falls _) fits tt tt
course_leave h c n now ends replies CommandDue x disk fits hand =
    calm_leave h c n None replies x disk (cuts.course_of c n ends x CommandDue) fits (distrusting_calm x (begins_plainly x.tasks)) tt
course_leave h c n now ends replies (Answered a) x disk fits hand =
    calm_leave h c n None replies x disk (cuts.course_of c n ends x (Answered a)) fits (answer_taken_calm c n x a (due_device x.tasks) (next_of x.tasks)) tt
course_leave h c n now ends replies (Wrote d value a) x disk fits hand = calm_leave h c n None replies x disk (cuts.course_of c n ends x (Wrote d value a)) fits (tt, fenced_calm d a) tt
course_leave h c n now ends replies (Commanded words) x disk fits hand = calm_leave h c n None replies x disk (cuts.command_course c n x words) fits (command_calm c n x words) tt
course_leave h c n now ends replies (Reported r good) x disk fits hand = calm_leave h c n None replies x disk (cuts.report_course c n x r good) fits (report_calm c n x r good) tt
course_leave h c n now ends replies (Client name client port) x disk fits hand =
    calm_leave h c n None replies x disk (cuts.client_course c x name client port) fits (client_calm c x name client port) tt

-- ---- a node that is down

-- a node that boots is one of the cluster
abbrev pub BootNamed : Cluster → ℕ → Input → Type 0
BootNamed c n Boot = (has c.nodes n ≡ true) × AttachedKnown c c.attached
BootNamed c n i = Unit {0}

comes_leave : (h : Header) (c : Cluster) (n : ℕ) (disk : NodeRecord) → BootNamed c n Boot → OneLeaves h c n None (site Down disk) None Comes_up
comes_leave h c n disk is M i known tied may guard gave k = record {
  site_so = record {
    disk_so = k.disk_so;
    node_so = record { node = is.0; attached_known = is.1; members_so = k.disk_so; attempt_so = tt; me_so = is.0; peers_so = boot_named c; view_so = tt };
  };
  turn_so = tt;
  outputs_so = (tt, tt);
}

falls_leave : (h : Header) (c : Cluster) (n : ℕ) (x : Site) (why : DownCause) → OneLeaves h c n None x None (Goes_down why)
falls_leave h c n x why M i known tied may guard gave k = down_leaves c n x.disk None (gone_line n why) k.disk_so tt (tt, tt)

up_and_down : (h : Header) (c : Cluster) (n : ℕ) (disk : NodeRecord) (why : DownCause) → All IsDevice c.attached → BootNamed c n Boot
    → AllLeave h c n None (site Down disk) None (Comes_up ∷ Goes_down why ∷ [])
up_and_down h c n disk why fits is =
    let x : Site = effect c n (site Down disk) Comes_up in
    more_leave h c n None (site Down disk) None Comes_up (Goes_down why ∷ []) fits (comes_leave h c n disk is)
    (more_leave h c n None x None (Goes_down why) [] fits (falls_leave h c n x why) (none_leave h c n None (effect c n x (Goes_down why)) None))

boot_leave : (h : Header) (c : Cluster) (n : ℕ) (replies : List Reply) (disk : NodeRecord) → All IsDevice c.attached → BootNamed c n Boot
    → AllLeave h c n None (site Down disk) None (cuts.boot_doings replies)
boot_leave h c n [] disk fits is = up_and_down h c n disk Stopped fits is
boot_leave h c n (Lost_new why ∷ replies) disk fits is = up_and_down h c n disk why fits is
boot_leave h c n (Lost_old why ∷ replies) disk fits is = up_and_down h c n disk why fits is
boot_leave h c n (Done ∷ replies) disk fits is =
    more_leave h c n None (site Down disk) None Comes_up [] fits (comes_leave h c n disk is) (none_leave h c n None (effect c n (site Down disk) Comes_up) None)

-- ---- whatever comes

pub step_leave : (h : Header) (c : Cluster) (n now : ℕ) (ends : Outcome) (replies : List Reply) (i : Input) (node : Node) (disk : NodeRecord) → All IsDevice c.attached → HandNamed c (delivered_by i)
    → BootNamed c n i → AllLeave h c n (delivered_by i) (site node disk) None (doings c n now ends replies i node)
step_leave h c n now ends replies i (Up x) disk fits hand boots =
    more_leave h c n (delivered_by i) (site (Up x) disk) None (Does (Dates now)) (under replies (cuts.course_of c n ends (at_second now x) i)) fits
    (dates_leave h c n now (delivered_by i) x disk) (course_leave h c n now ends replies i (at_second now x) disk fits hand)
step_leave h c n now ends replies Boot Down disk fits hand boots = boot_leave h c n replies disk fits boots
step_leave h c n now ends replies Crash Down disk fits hand boots = none_leave h c n None (site Down disk) None
step_leave h c n now ends replies Tick Down disk fits hand boots = none_leave h c n None (site Down disk) None
step_leave h c n now ends replies (Packet from m) Down disk fits hand boots = none_leave h c n (Some (from, m)) (site Down disk) None
step_leave h c n now ends replies CommandDue Down disk fits hand boots = none_leave h c n None (site Down disk) None
step_leave h c n now ends replies (Answered a) Down disk fits hand boots = none_leave h c n None (site Down disk) None
step_leave h c n now ends replies (Wrote d value a) Down disk fits hand boots = none_leave h c n None (site Down disk) None
step_leave h c n now ends replies (Commanded words) Down disk fits hand boots = none_leave h c n None (site Down disk) None
step_leave h c n now ends replies (Reported r good) Down disk fits hand boots = none_leave h c n None (site Down disk) None
step_leave h c n now ends replies (Client name client port) Down disk fits hand boots = none_leave h c n None (site Down disk) None
