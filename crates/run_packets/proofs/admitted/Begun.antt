-- An attempt begins with the view of its coordinator, in a step of it.
use Rattle.std.specs.Prelude.{ℕ, ◌≡◌, ◌++◌, Bool, true, false, List, [], ◌∷◌, Option, None, Some, IfSome, if◌then◌else◌}
use Rattle.std.proofs.Common.{refl, sym, subst, ◌∙◌}
use Rattle.cl_base.specs.Limits.{most_nodes}
use Rattle.cl_base.specs.Numbers.{numbers_to}
use Rattle.cl_base.specs.declared.method.Outcome.{Outcome}
use Rattle.cmm_member.specs.Records.{NodeRecord}
use Rattle.device_queue.specs.Queue.{begins_plainly, due_device, next_of}
use Rattle.heartbeats.specs.Views.{receivers_of}
use Rattle.node_model.specs.Configurations.{configured_at}
use Rattle.node_model.specs.Members.{hearing, is_foreign}
use Rattle.node_model.specs.Steps.{at_second}
use Rattle.node_model.specs.Ticks.{heartbeat_of, heartbeats_to, later, membership_of, ticked_output}
use Rattle.node_model.specs.Updates.{request_again}
use Rattle.node_model.specs.declared.cluster.Cluster.{Cluster}
use Rattle.node_model.specs.declared.input.Input.{Input}
use Rattle.node_model.specs.declared.input.Input.TheVariants.{Answered, Boot, Client, CommandDue, Commanded, Crash, Packet, Reported, Tick, Wrote}
use Rattle.node_model.specs.declared.node.Node.{Node}
use Rattle.node_model.specs.declared.node.Node.TheVariants.{Down, Up}
use Rattle.node_model.specs.declared.node.UpNode.{UpNode}
use Rattle.node_model.specs.declared.output.Output.{Output}
use Rattle.node_model.specs.declared.output.Output.TheVariants.{Sends, Tells}
use Rattle.refinement.proofs.Handlers.{delivered_by}
use Rattle.refinement.specs.Courses.{Course, Reply, joined, under}
use Rattle.refinement.specs.Courses.Course.{Acts, Stops}
use Rattle.refinement.specs.Courses.Reply.{Done, Lost_new, Lost_old}
use Rattle.refinement.specs.Cuts as cuts
use Rattle.refinement.specs.Cuts.{doings}
use Rattle.refinement.specs.Doings.{Change, Doing, Site, effect, first_lines, given_all, gives, gone_line, said, saved_lines, site}
use Rattle.refinement.specs.Doings.Act.{Hears}
use Rattle.refinement.specs.Doings.Change.{Acks, Admits, Commits, Counts, Distrusts, Installs, Leads, Prepares, Promises, Proposes, Sits, Starts}
use Rattle.refinement.specs.Doings.Doing.{Comes_up, Does, Forgets, Goes_down, Loses, Saves}
use Rattle.refinement.specs.Guards.{May, MayAll}
use Rattle.refinement.specs.Ties.{Delivered}
use Rattle.run_attempts.proofs.Courses.{answer_taken_calm, body_calm, client_calm, command_calm, distrusting_calm, fenced_calm, report_calm}
use Rattle.run_attempts.proofs.Mild.{AreMild, IsMildLine, again_mild, first_mild, last_mild, said_mild, unknown_mild}
use Rattle.run_attempts.proofs.Views.{act_same, calm_goes, change_same, tick_so, under_so}
use Rattle.run_attempts.proofs.Walk.{AreUpSteps, IsUpStep, act_calm, under_up}
use Rattle.run_attempts.specs.Steps.{AllSo, CalmChange, ChangeSo, DoingSo, IsCalm, IsDue, Never, SoIn, Wish}
use Rattle.run_history.proofs.Lists.{both, mapped}
use Rattle.run_history.proofs.Small.{AllSmall, IsSmall}
use Rattle.status_report.specs.declared.entry.Entry.{Entry}
use Rattle.status_report.specs.declared.entry.Entry.TheVariants as entry
use Rattle.status_report.specs.declared.attempt_entry.AttemptEntry.TheVariants as attempt_entry
use Rattle.status_report.specs.declared.node_entry.DownCause.{DownCause}
use Rattle.wire.specs.declared.message.Message.{Message}
use Rattle.run_packets.specs.admitted.Begun.{AllBegun, LineBegun, OutputBegun}

-- ---- lines

mild_line : (Ok : ℕ → Type 0) (e : Entry) → IsMildLine e → LineBegun Ok e
mild_line Ok (entry.Attempt (attempt_entry.Begun e members)) h = absurd h
mild_line Ok _ h = tt

mild_begun : (Ok : ℕ → Type 0) (os : List Output) → AreMild os → AllBegun Ok os
mild_begun Ok [] h = tt
mild_begun Ok (Tells e ∷ os) h = (mild_line Ok e h.0, mild_begun Ok os h.1)
mild_begun Ok (Sends to b ∷ os) h = (tt, mild_begun Ok os h.1)

append_begun : (Ok : ℕ → Type 0) (os more : List Output) → AllBegun Ok os → AllBegun Ok more → AllBegun Ok (os ++ more)
append_begun Ok os more h k = both (OutputBegun Ok) os more h k

gone_begun : (Ok : ℕ → Type 0) (n : ℕ) (ch : Change) (why : DownCause) → AllBegun Ok (first_lines n ch ++ gone_line n why)
gone_begun Ok n ch why = append_begun Ok (first_lines n ch) (gone_line n why) (mild_begun Ok (first_lines n ch) (first_mild n ch)) (tt, tt)

calm_begun : (Ok : ℕ → Type 0) (c : Cluster) (n : ℕ) (x : UpNode) (ch : Change) → CalmChange ch → AllBegun Ok (first_lines n ch ++ saved_lines c n x ch)
calm_begun Ok c n x ch calm = append_begun Ok (first_lines n ch) (saved_lines c n x ch) (mild_begun Ok (first_lines n ch) (first_mild n ch)) (tt, mild_begun Ok _ (last_mild c n x ch calm))

heartbeats_begun : (Ok : ℕ → Type 0) (x : UpNode) (receivers : ℕ) → AllBegun Ok (heartbeats_to x receivers)
unfolding heartbeats_to
heartbeats_begun Ok x receivers = mapped (OutputBegun Ok) (λ k. Sends k (heartbeat_of x)) (numbers_to receivers most_nodes) (λ k. tt)

tick_begun : (Ok : ℕ → Type 0) (c : Cluster) (x : UpNode) → AllBegun Ok (ticked_output c x (later c x))
tick_begun Ok c x =
    let receivers : ℕ = receivers_of (later c x).beats (configured_at c (later c x)) in
    append_begun Ok (heartbeats_to (later c x) receivers) (request_again x) (heartbeats_begun Ok (later c x) receivers) (mild_begun Ok (request_again x) (again_mild x))

-- ---- small steps that leave the view as it is

-- an attempt that begins where P holds, with this view, is so
abbrev Begins : (ℕ → Type 0) → Wish → Option ℕ → Type 0
Begins Ok P view = (x : UpNode) (p members : ℕ) → P x p members → x.beats.view ≡ view → Ok members

abbrev WithView : Option ℕ → Node → Type 0
WithView view node = SoIn (λ x. x.beats.view ≡ view) node

saved_begun : (Ok : ℕ → Type 0) (P : Wish) (view : Option ℕ) (c : Cluster) (n : ℕ) (x : UpNode) (ch : Change) → Begins Ok P view → ChangeSo P x ch → x.beats.view ≡ view
    → AllBegun Ok (first_lines n ch ++ saved_lines c n x ch)
saved_begun Ok P view c n x (Leads p members) f so at = (tt, (f x p members so at, mild_begun Ok _ (unknown_mild n x.requests.waiting)))
saved_begun Ok P view c n x (Promises p) f so at = calm_begun Ok c n x (Promises p) tt
saved_begun Ok P view c n x (Counts a call t i) f so at = calm_begun Ok c n x (Counts a call t i) tt
saved_begun Ok P view c n x (Installs t i) f so at = calm_begun Ok c n x (Installs t i) tt
saved_begun Ok P view c n x (Starts a call t) f so at = calm_begun Ok c n x (Starts a call t) tt
saved_begun Ok P view c n x (Sits t e) f so at = calm_begun Ok c n x (Sits t e) tt
saved_begun Ok P view c n x (Distrusts d) f so at = calm_begun Ok c n x (Distrusts d) tt
saved_begun Ok P view c n x (Admits on command a d) f so at = calm_begun Ok c n x (Admits on command a d) tt
saved_begun Ok P view c n x (Proposes t p text) f so at = calm_begun Ok c n x (Proposes t p text) tt
saved_begun Ok P view c n x (Acks t p q left text) f so at = calm_begun Ok c n x (Acks t p q left text) tt
saved_begun Ok P view c n x (Prepares t text) f so at = calm_begun Ok c n x (Prepares t text) tt
saved_begun Ok P view c n x (Commits t) f so at = calm_begun Ok c n x (Commits t) tt

one_begun : (Ok : ℕ → Type 0) (P : Wish) (view : Option ℕ) (c : Cluster) (n : ℕ) (told : Delivered) (node : Node) (disk : NodeRecord) (d : Doing) → Begins Ok P view → May c n told (site node disk) d → IsSmall d
    → DoingSo P node d → IsUpStep d → WithView view node → AllBegun Ok (gives c n (site node disk) d) × WithView view (effect c n (site node disk) d).node
one_begun Ok P view c n told node disk Comes_up f may small so ups at = absurd ups
one_begun Ok P view c n told node disk (Goes_down why) f may small so ups at = ((tt, tt), tt)
one_begun Ok P view c n told Down disk (Does a) f may small so ups at = absurd may
one_begun Ok P view c n told (Up x) disk (Does a) f may small so ups at =
    (mild_begun Ok (said c n x a) (said_mild c n told P x a may small so (act_calm c n told x a may)), (act_same P c n x a so).view ∙ at)
one_begun Ok P view c n told Down disk (Saves ch) f may small so ups at = absurd may
one_begun Ok P view c n told (Up x) disk (Saves ch) f may small so ups at = (saved_begun Ok P view c n x ch f so at, (change_same c n x ch).view ∙ at)
one_begun Ok P view c n told node disk (Loses ch why) f may small so ups at = (gone_begun Ok n ch why, tt)
one_begun Ok P view c n told node disk (Forgets ch why) f may small so ups at = (gone_begun Ok n ch why, tt)

all_begun : (Ok : ℕ → Type 0) (P : Wish) (view : Option ℕ) (c : Cluster) (n : ℕ) (told : Delivered) (x : Site) (ds : List Doing) → Begins Ok P view → MayAll c n told x ds → AllSmall ds → AllSo P c n x ds
    → AreUpSteps ds → WithView view x.node → AllBegun Ok (given_all c n x ds)
all_begun Ok P view c n told x [] f may small so ups at = tt
all_begun Ok P view c n told x (d ∷ ds) f may small so ups at =
    let one : AllBegun Ok (gives c n x d) × WithView view (effect c n x d).node = one_begun Ok P view c n told x.node x.disk d f may.0 small.0 so.0 ups.0 at in
    append_begun Ok (gives c n x d) (given_all c n (effect c n x d) ds) one.0 (all_begun Ok P view c n told (effect c n x d) ds f may.1 small.1 so.1 ups.1 one.1)

-- ---- by what comes

calm_goes_on : (Ok : ℕ → Type 0) (c : Cluster) (n : ℕ) (told : Delivered) (replies : List Reply) (x : UpNode) (disk : NodeRecord) (k : Course) → IsCalm k → MayAll c n told (site (Up x) disk) (under replies k)
    → AllSmall (under replies k) → AllBegun Ok (given_all c n (site (Up x) disk) (under replies k))
calm_goes_on Ok c n told replies x disk k calm may small =
    all_begun Ok Never x.beats.view c n told (site (Up x) disk) (under replies k) (λ y p members h at. absurd h) may small (under_so Never c n replies disk x k (calm_goes Never c n x k calm)) (under_up replies k) refl

packet_goes : (Ok : ℕ → Type 0) (c : Cluster) (n : ℕ) (ends : Outcome) (replies : List Reply) (from : ℕ) (m : Message) (x : UpNode) (disk : NodeRecord)
    → MayAll c n (Some (from, m)) (site (Up x) disk) (under replies (cuts.packet_course c n ends x from m)) → AllSmall (under replies (cuts.packet_course c n ends x from m))
    → AllBegun Ok (given_all c n (site (Up x) disk) (under replies (cuts.packet_course c n ends x from m)))
packet_goes Ok c n ends replies from m x disk = by_test (is_foreign c n x m.body)
  where
    y : UpNode
    y = hearing x from m.body

    rest : Course
    rest = cuts.body_course c n ends y from m m.body

    Goal : Course → Type 0
    Goal k = MayAll c n (Some (from, m)) (site (Up x) disk) (under replies k) → AllSmall (under replies k) → AllBegun Ok (given_all c n (site (Up x) disk) (under replies k))

    by_test : (t : Bool) → Goal (if t then Stops else Acts (Hears from m.body) rest)
    by_test true may small = tt
    by_test false may small = calm_goes_on Ok c n (Some (from, m)) replies y disk rest (body_calm c n ends y from m m.body) may.1 small.1

viewed : (Ok : ℕ → Type 0) (o : Option ℕ) (members : ℕ) → o ≡ Some members → IfSome o Ok → Ok members
viewed Ok o members at h = subst (λ z. IfSome z Ok) at h

tick_goes : (Ok : ℕ → Type 0) (c : Cluster) (n : ℕ) (ends : Outcome) (replies : List Reply) (x : UpNode) (disk : NodeRecord) → IfSome (later c x).beats.view Ok
    → MayAll c n None (site (Up x) disk) (under replies (cuts.tick_course c n ends x)) → AllSmall (under replies (cuts.tick_course c n ends x))
    → AllBegun Ok (given_all c n (site (Up x) disk) (under replies (cuts.tick_course c n ends x)))
tick_goes Ok c n ends replies x disk view may small =
    let y : UpNode = later c x in
    let rest : Course = joined c n y (cuts.governing_course c n ends x y) (λ z. cuts.ticked_course c n z z.attempt) in
    let due : Wish = IsDue c (configured_at c x) (membership_of x.seat) in (
      tt,
      append_begun Ok (ticked_output c x y) (given_all c n (site (Up y) disk) (under replies rest)) (tick_begun Ok c x)
          (all_begun Ok due y.beats.view c n None (site (Up y) disk) (under replies rest) (λ z p members is at. viewed Ok y.beats.view members (sym at ∙ is.view) view) may.1 small.1
          (under_so due c n replies disk y rest (tick_so c n ends x)) (under_up replies rest) refl),
    )

abbrev pub TickView : (ℕ → Type 0) → Cluster → ℕ → Node → Input → Type 0
TickView Ok c now (Up x) Tick = IfSome (later c (at_second now x)).beats.view Ok
TickView Ok c now node i = Unit {0}

boot_goes : (Ok : ℕ → Type 0) (c : Cluster) (n : ℕ) (replies : List Reply) (disk : NodeRecord) → AllBegun Ok (given_all c n (site Down disk) (cuts.boot_doings replies))
boot_goes Ok c n [] disk = (tt, (tt, tt))
boot_goes Ok c n (Done ∷ replies) disk = (tt, tt)
boot_goes Ok c n (Lost_new why ∷ replies) disk = (tt, (tt, tt))
boot_goes Ok c n (Lost_old why ∷ replies) disk = (tt, (tt, tt))

pub step_begun : (Ok : ℕ → Type 0) (c : Cluster) (n now : ℕ) (ends : Outcome) (replies : List Reply) (i : Input) (node : Node) (disk : NodeRecord) → TickView Ok c now node i
    → MayAll c n (delivered_by i) (site node disk) (doings c n now ends replies i node) → AllSmall (doings c n now ends replies i node)
    → AllBegun Ok (given_all c n (site node disk) (doings c n now ends replies i node))
step_begun Ok c n now ends replies Boot Down disk view may small = boot_goes Ok c n replies disk
step_begun Ok c n now ends replies Tick (Up x) disk view may small = tick_goes Ok c n ends replies (at_second now x) disk view may.1 small.1
step_begun Ok c n now ends replies (Packet from m) (Up x) disk view may small = packet_goes Ok c n ends replies from m (at_second now x) disk may.1 small.1
step_begun Ok c n now ends replies Boot (Up x) disk view may small = calm_goes_on Ok c n None replies (at_second now x) disk Stops tt may.1 small.1
step_begun Ok c n now ends replies Crash (Up x) disk view may small = calm_goes_on Ok c n None replies (at_second now x) disk (cuts.course_of c n ends (at_second now x) Crash) tt may.1 small.1
step_begun Ok c n now ends replies CommandDue (Up x) disk view may small =
    calm_goes_on Ok c n None replies (at_second now x) disk (cuts.course_of c n ends (at_second now x) CommandDue) (distrusting_calm (at_second now x) (begins_plainly x.tasks)) may.1 small.1
step_begun Ok c n now ends replies (Answered a) (Up x) disk view may small =
    calm_goes_on Ok c n None replies (at_second now x) disk (cuts.course_of c n ends (at_second now x) (Answered a)) (answer_taken_calm c n (at_second now x) a (due_device x.tasks) (next_of x.tasks)) may.1 small.1
step_begun Ok c n now ends replies (Wrote d value a) (Up x) disk view may small =
    calm_goes_on Ok c n None replies (at_second now x) disk (cuts.course_of c n ends (at_second now x) (Wrote d value a)) (tt, fenced_calm d a) may.1 small.1
step_begun Ok c n now ends replies (Commanded words) (Up x) disk view may small =
    calm_goes_on Ok c n None replies (at_second now x) disk (cuts.command_course c n (at_second now x) words) (command_calm c n (at_second now x) words) may.1 small.1
step_begun Ok c n now ends replies (Reported r good) (Up x) disk view may small =
    calm_goes_on Ok c n None replies (at_second now x) disk (cuts.report_course c n (at_second now x) r good) (report_calm c n (at_second now x) r good) may.1 small.1
step_begun Ok c n now ends replies (Client name client port) (Up x) disk view may small =
    calm_goes_on Ok c n None replies (at_second now x) disk (cuts.client_course c (at_second now x) name client port) (client_calm c (at_second now x) name client port) may.1 small.1
step_begun Ok c n now ends replies Crash Down disk view may small = tt
step_begun Ok c n now ends replies Tick Down disk view may small = tt
step_begun Ok c n now ends replies (Packet from m) Down disk view may small = tt
step_begun Ok c n now ends replies CommandDue Down disk view may small = tt
step_begun Ok c n now ends replies (Answered a) Down disk view may small = tt
step_begun Ok c n now ends replies (Wrote d value a) Down disk view may small = tt
step_begun Ok c n now ends replies (Commanded words) Down disk view may small = tt
step_begun Ok c n now ends replies (Reported r good) Down disk view may small = tt
step_begun Ok c n now ends replies (Client name client port) Down disk view may small = tt
