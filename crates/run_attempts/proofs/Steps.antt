-- A step of a node, by what comes to it.
use Rattle.std.specs.Prelude.{ℕ, ◌≡◌, ◌≢◌, ◌≤◌, ◌==◌, Bool, true, false, List, [], ◌∷◌, Option, None, Some, IfSome, if◌then◌else◌}
use Rattle.std.proofs.Common.{refl, sym, subst, ap}
use Rattle.cl_base.specs.declared.method.Outcome.{Outcome}
use Rattle.cmm_attempt.proofs.Basics.{false_true}
use Rattle.cmm_member.specs.Records.{NodeRecord}
use Rattle.heartbeats.specs.Peers.{heard}
use Rattle.device_queue.specs.Queue.{begins_plainly, due_device, next_of}
use Rattle.history.specs.Attempts.{age_of, before_tick, configured_for, last_heartbeat}
use Rattle.history.specs.Letters.{arrived}
use Rattle.history.specs.Moment.{Moment}
use Rattle.history.specs.Order.{under_way}
use Rattle.history.specs.Setting.{Setting}
use Rattle.history.specs.Trace.{ticked, up}
use Rattle.node_model.specs.Clusters.{first_valid_of}
use Rattle.node_model.specs.Configurations.{configured_at}
use Rattle.node_model.specs.Members.{beat_in, hearing, is_foreign}
use Rattle.node_model.specs.Seats.{record_of, up_with}
use Rattle.node_model.specs.Steps.{at_second}
use Rattle.heartbeats.specs.declared.due.Membership.{Membership}
use Rattle.node_model.specs.Ticks.{later, membership_of, ticked_output}
use Rattle.node_model.specs.declared.cluster.Cluster.{Cluster}
use Rattle.node_model.specs.declared.input.Input.{Input}
use Rattle.node_model.specs.declared.input.Input.TheVariants.{Answered, Boot, Client, CommandDue, Commanded, Crash, Packet, Reported, Tick, Wrote}
use Rattle.node_model.specs.declared.node.Node.{Node}
use Rattle.node_model.specs.declared.node.Node.TheVariants.{Down, Up}
use Rattle.node_model.specs.declared.node.UpNode.{UpNode}
use Rattle.node_model.specs.declared.output.Output.{Output}
use Rattle.refinement.proofs.Handlers.{delivered_by}
use Rattle.refinement.specs.Courses.{Course, Reply, joined, under}
use Rattle.refinement.specs.Courses.Course.{Acts, Falls, Stops}
use Rattle.refinement.specs.Courses.Reply.{Done, Lost_new, Lost_old}
use Rattle.refinement.specs.Cuts as cuts
use Rattle.refinement.specs.Cuts.{doings}
use Rattle.refinement.specs.Doings.{Doing, after_all, given_all, gone_line, of_node, site}
use Rattle.refinement.specs.Doings.Act.{Hears}
use Rattle.refinement.specs.Guards.{MayAll}
use Rattle.run_history.proofs.Idle.{passing_append}
use Rattle.run_history.proofs.Small.{AllSmall}
use Rattle.run_history.specs.Scenes.{Scene, passing, telling}
use Rattle.schedule_text.specs.declared.event.Event.TheVariants as event
use Rattle.status_report.specs.declared.entry.Entry.TheVariants as entry
use Rattle.status_report.specs.declared.node_entry.DownCause.{DownCause}
use Rattle.status_report.specs.declared.node_entry.NodeEntry.TheVariants as note
use Rattle.wire.specs.declared.message.Body.{Body}
use Rattle.wire.specs.declared.message.Body.TheVariants as body
use Rattle.wire.specs.declared.message.Message.{Message}
use Rattle.run_attempts.specs.Heard.{BeatsSo, NodeSo, is_beat}
use Rattle.run_attempts.specs.Judged.{AllJudged, InTick, IsSetOf, SeatTold}
use Rattle.run_attempts.specs.Laws.{beat_age_of}
use Rattle.run_attempts.specs.Steps.{IsCalm, IsDue, Never}
use Rattle.run_attempts.proofs.Ages.{beats_boot, beats_tick, if_false, if_true, not_same, same_self}
use Rattle.run_attempts.proofs.Alike.{SameHeard, beats_stay, heard_then, passing_alike, mild_judged, tick_stays}
use Rattle.run_attempts.proofs.Begins.{judges_tick}
use Rattle.run_attempts.proofs.Courses.{answer_taken_calm, body_calm, client_calm, command_calm, distrusting_calm, fenced_calm, report_calm}
use Rattle.run_attempts.proofs.Ticks.{Here, Ticked, tick_goes}
use Rattle.run_attempts.proofs.Views.{calm_goes, tick_so, under_so}
use Rattle.run_attempts.proofs.Walk.{Judges, Went, all_go, under_up}

pub record Stepped (S : Setting) (n : ℕ) (before : List Moment) (node : Node) (after : List Moment) : Type 0 where
  pub so : AllJudged S after
  pub own : NodeSo after n node
  pub others : (k : ℕ) → k ≢ n → SameHeard k before after

went_stepped : (S : Setting) (n : ℕ) (before : List Moment) (node : Node) (after : List Moment) → Went S n before node after → Stepped S n before node after
went_stepped S n before node after h = record { so = h.so; own = h.node; others = λ k ne. h.alike.heard k }

-- ---- a boot

up_elsewhere : (n k : ℕ) (ms : List Moment) → k ≢ n → SameHeard k ms (up n ∷ ms)
up_elsewhere n k ms ne =
    let other : (n == k) ≡ false = not_same n k (λ e. ne (sym e)) in
    record { ages = λ m. if_false (n == k) None _ other; near = λ m. if_false (n == k) None _ other; beats = λ m. if_false (n == k) None _ other }

up_stepped : (S : Setting) (c : Cluster) (n : ℕ) (disk : NodeRecord) (s : Scene) → AllJudged S s.moments → Stepped S n s.moments (Up (up_with n (first_valid_of c n) disk)) (passing n (of_node n note.Up ∷ []) s).moments
up_stepped S c n disk s so = record {
  so = (record { in_tick = tt; due = tt; begins_so = tt }, so);
  own = beats_boot s.moments n;
  others = λ k ne. up_elsewhere n k s.moments ne;
}

up_and_down : (S : Setting) (n : ℕ) (why : DownCause) (s : Scene) → AllJudged S s.moments → Stepped S n s.moments Down (passing n (of_node n note.Up ∷ gone_line n why) s).moments
up_and_down S n why s so =
    let t : Scene = telling (entry.Node n note.Up) s in
    record {
      so = mild_judged S n (gone_line n why) t (tt, tt) (record { in_tick = tt; due = tt; begins_so = tt }, so);
      own = tt;
      others = λ k ne. heard_then k s.moments t.moments (passing n (gone_line n why) t).moments (up_elsewhere n k s.moments ne) ((passing_alike n (gone_line n why) t (tt, tt)).heard k);
    }

boot_stepped : (S : Setting) (c : Cluster) (n : ℕ) (disk : NodeRecord) (replies : List Reply) (s : Scene) → AllJudged S s.moments
    → Stepped S n s.moments (after_all c n (site Down disk) (cuts.boot_doings replies)).node (passing n (given_all c n (site Down disk) (cuts.boot_doings replies)) s).moments
boot_stepped S c n disk [] s so = up_and_down S n _ s so
boot_stepped S c n disk (Done ∷ replies) s so = up_stepped S c n disk s so
boot_stepped S c n disk (Lost_new why ∷ replies) s so = up_and_down S n why s so
boot_stepped S c n disk (Lost_old why ∷ replies) s so = up_and_down S n why s so

none_stepped : (S : Setting) (n : ℕ) (s : Scene) → AllJudged S s.moments → Stepped S n s.moments Down s.moments
none_stepped S n s so = record { so = so; own = tt; others = λ k ne. record { ages = λ m. refl; near = λ m. refl; beats = λ m. refl } }

-- ---- a node that is up, to which neither a tick nor a packet comes

never_judges : (S : Setting) (n : ℕ) → Judges S n Never (λ ms. Unit {0})
never_judges S n = record { stays = λ before after alike k. tt; begins_so = λ ms x p members k h own wish. absurd wish }

calm_stepped : (S : Setting) (c : Cluster) (n : ℕ) (replies : List Reply) (i : Input) (x : UpNode) (disk : NodeRecord) (k : Course) (s : Scene) → IsCalm k → (let ds : List Doing = under replies k in
    MayAll c n (delivered_by i) (site (Up x) disk) ds → AllSmall ds → AllJudged S s.moments → BeatsSo s.moments n x.beats
    → Stepped S n s.moments (after_all c n (site (Up x) disk) ds).node (passing n (given_all c n (site (Up x) disk) ds) s).moments)
calm_stepped S c n replies i x disk k s calm may small so h =
    let ds : List Doing = under replies k in
    went_stepped S n s.moments _ _
    (all_go S Never (λ ms. Unit {0}) c n (delivered_by i) (site (Up x) disk) ds s (never_judges S n) may small (under_so Never c n replies disk x k (calm_goes Never c n x k calm)) (under_up replies k) tt so h)

-- ---- a packet

packet_stepped : (S : Setting) (c : Cluster) (n : ℕ) (ends : Outcome) (replies : List Reply) (from : ℕ) (m : Message) (x : UpNode) (disk : NodeRecord) (s : Scene)
    → (let ds : List Doing = under replies (cuts.packet_course c n ends x from m) in
    MayAll c n (Some (from, m)) (site (Up x) disk) ds → AllSmall ds → AllJudged S s.moments → BeatsSo s.moments n (heard x.beats from (beat_in m.body)) → (is_beat m.body ≡ false → BeatsSo s.moments n x.beats)
    → Stepped S n s.moments (after_all c n (site (Up x) disk) ds).node (passing n (given_all c n (site (Up x) disk) ds) s).moments)
packet_stepped S c n ends replies from m x disk s = by_test (is_foreign c n x m.body) refl
  where
    y : UpNode
    y = hearing x from m.body

    body_course : Course
    body_course = cuts.body_course c n ends y from m m.body

    Goal : Course → Type 0
    Goal k = MayAll c n (Some (from, m)) (site (Up x) disk) (under replies k) → AllSmall (under replies k) → AllJudged S s.moments → BeatsSo s.moments n (heard x.beats from (beat_in m.body))
        → (is_beat m.body ≡ false → BeatsSo s.moments n x.beats)
        → Stepped S n s.moments (after_all c n (site (Up x) disk) (under replies k)).node (passing n (given_all c n (site (Up x) disk) (under replies k)) s).moments

    no_beat : (b : Body) → is_foreign c n x b ≡ true → is_beat b ≡ false
    no_beat (body.Heartbeat promised session is_one) is = absurd (false_true is)
    no_beat _ is = refl

    by_test : (t : Bool) → is_foreign c n x m.body ≡ t → Goal (if t then Stops else Acts (Hears from m.body) body_course)
    by_test true foreign may small so new old = record { so = so; own = old (no_beat m.body foreign); others = λ k ne. record { ages = λ m. refl; near = λ m. refl; beats = λ m. refl } }
    by_test false known may small so new old = calm_stepped S c n replies (Packet from m) y disk body_course s (body_calm c n ends y from m m.body) may.1 small.1 so new

-- ---- a tick

-- what is so where a tick comes to node n
pub record TickReady (S : Setting) (c : Cluster) (n : ℕ) (x : UpNode) (moments : List Moment) : Type 0 where
  pub way : under_way moments ≡ Some (event.Tick n)
  pub none : arrived moments ≡ None
  pub known : (y : UpNode) → record_of y ≡ record_of x → IfSome (configured_for S n moments) (IsSetOf (configured_at c y))
  pub seat : SeatTold moments n (membership_of x.seat)

tick_elsewhere : (n k : ℕ) (ms : List Moment) → k ≢ n → SameHeard k ms (ticked n ∷ ms)
tick_elsewhere n k ms ne =
    let other : (n == k) ≡ false = not_same n k (λ e. ne (sym e)) in
    record { ages = λ m. if_false (n == k) _ (age_of k m ms) other; near = λ m. if_false (n == k) _ (beat_age_of k m ms) other; beats = λ m. refl }

tick_stepped : (S : Setting) (c : Cluster) (n : ℕ) (ends : Outcome) (replies : List Reply) (x : UpNode) (disk : NodeRecord) (s : Scene) → 1 ≤ n → n ≤ 32
    → (let ds : List Doing = under replies (cuts.tick_course c n ends x) in
    MayAll c n None (site (Up x) disk) ds → AllSmall ds → AllJudged S s.moments → BeatsSo s.moments n x.beats → TickReady S c n x s.moments
    → Stepped S n s.moments (after_all c n (site (Up x) disk) ds).node (passing n (given_all c n (site (Up x) disk) ds) s).moments)
tick_stepped S c n ends replies x disk s low high may small so h ready =
    let y : UpNode = later c x in
    let rest : Course = joined c n y (cuts.governing_course c n ends x y) (λ z. cuts.ticked_course c n z z.attempt) in
    let ds : List Doing = under replies rest in
    let os : List Output = of_node n note.Ticked ∷ ticked_output c x y in
    let more : List Output = given_all c n (site (Up y) disk) ds in
    let t : Scene = passing n os s in
    let here : Here S n (configured_at c y) y (ticked n ∷ s.moments) = record { way = ready.way; known = ready.known y refl; beats = beats_tick s.moments n (configured_at c x) x.beats h; so = (record { in_tick = tt; due = tt; begins_so = tt }, so) } in
    let done : Ticked S n (configured_at c x) x s.moments t.moments = tick_goes S c n x s low high here in
    let start : before_tick n (ticked n ∷ s.moments) ≡ s.moments = if_true (n == n) s.moments (before_tick n s.moments) (same_self n) in
    let member : Option Membership = membership_of x.seat in
    let began : InTick S n (configured_at c x) member (ticked n ∷ s.moments) = record {
      way = ready.way;
      none = ready.none;
      known = subst (λ ms. IfSome (configured_for S n ms) (IsSetOf (configured_at c x))) (sym start) (ready.known x refl);
      seat = subst (λ ms. SeatTold ms n member) (sym start) ready.seat;
      beats = λ m. ap (λ ms. last_heartbeat n m ms) (sym start);
    } in
    let went : Went S n t.moments (after_all c n (site (Up y) disk) ds).node (passing n more t).moments =
    all_go S (IsDue c (configured_at c x) member) (InTick S n (configured_at c x) member) c n None (site (Up y) disk) ds t (judges_tick S c n (configured_at c x) member low high) may.1 small.1
    (under_so (IsDue c (configured_at c x) member) c n replies disk y rest (tick_so c n ends x)) (under_up replies rest) (tick_stays S n (configured_at c x) member (ticked n ∷ s.moments) t.moments done.alike began) done.so
    (beats_stay (ticked n ∷ s.moments) t.moments n y.beats (done.alike.heard n) here.beats) in
    subst (λ (z : Scene). Stepped S n s.moments (after_all c n (site (Up y) disk) ds).node z.moments) (sym (passing_append n os more s))
    (record {
      so = went.so;
      own = went.node;
      others = λ k ne. heard_then k s.moments (ticked n ∷ s.moments) (passing n more t).moments (tick_elsewhere n k s.moments ne)
          (heard_then k (ticked n ∷ s.moments) t.moments (passing n more t).moments (done.alike.heard k) (went.alike.heard k));
    })

-- ---- whatever comes

abbrev pub UpReady : Setting → Cluster → ℕ → UpNode → Input → List Moment → Type 0
UpReady S c n x (Packet from m) moments = BeatsSo moments n (heard x.beats from (beat_in m.body)) × (is_beat m.body ≡ false → BeatsSo moments n x.beats)
UpReady S c n x Tick moments = BeatsSo moments n x.beats × TickReady S c n x moments
UpReady S c n x i moments = BeatsSo moments n x.beats

abbrev pub Ready : Setting → Cluster → ℕ → Node → Input → List Moment → Type 0
Ready S c n Down i moments = Unit {0}
Ready S c n (Up x) i moments = UpReady S c n x i moments

pub step_goes : (S : Setting) (c : Cluster) (n now : ℕ) (ends : Outcome) (replies : List Reply) (i : Input) (node : Node) (disk : NodeRecord) (s : Scene) → 1 ≤ n → n ≤ 32
    → (let ds : List Doing = doings c n now ends replies i node in
    MayAll c n (delivered_by i) (site node disk) ds → AllSmall ds → AllJudged S s.moments → Ready S c n node i s.moments
    → Stepped S n s.moments (after_all c n (site node disk) ds).node (passing n (given_all c n (site node disk) ds) s).moments)
step_goes S c n now ends replies Boot Down disk s low high may small so h = boot_stepped S c n disk replies s so
step_goes S c n now ends replies Crash Down disk s low high may small so h = none_stepped S n s so
step_goes S c n now ends replies Tick Down disk s low high may small so h = none_stepped S n s so
step_goes S c n now ends replies (Packet from m) Down disk s low high may small so h = none_stepped S n s so
step_goes S c n now ends replies CommandDue Down disk s low high may small so h = none_stepped S n s so
step_goes S c n now ends replies (Answered a) Down disk s low high may small so h = none_stepped S n s so
step_goes S c n now ends replies (Wrote d value a) Down disk s low high may small so h = none_stepped S n s so
step_goes S c n now ends replies (Commanded words) Down disk s low high may small so h = none_stepped S n s so
step_goes S c n now ends replies (Reported r good) Down disk s low high may small so h = none_stepped S n s so
step_goes S c n now ends replies (Client name client port) Down disk s low high may small so h = none_stepped S n s so
step_goes S c n now ends replies Tick (Up x) disk s low high may small so h =
    tick_stepped S c n ends replies (at_second now x) disk s low high may.1 small.1 so h.0 (record { way = h.1.way; none = h.1.none; known = λ y same. h.1.known y same; seat = h.1.seat })
step_goes S c n now ends replies (Packet from m) (Up x) disk s low high may small so h = packet_stepped S c n ends replies from m (at_second now x) disk s may.1 small.1 so h.0 h.1
step_goes S c n now ends replies Boot (Up x) disk s low high may small so h = calm_stepped S c n replies Boot (at_second now x) disk Stops s tt may.1 small.1 so h
step_goes S c n now ends replies Crash (Up x) disk s low high may small so h = calm_stepped S c n replies Crash (at_second now x) disk (Falls _) s tt may.1 small.1 so h
step_goes S c n now ends replies CommandDue (Up x) disk s low high may small so h =
    calm_stepped S c n replies CommandDue (at_second now x) disk (cuts.course_of c n ends (at_second now x) CommandDue) s (distrusting_calm (at_second now x) (begins_plainly x.tasks)) may.1 small.1 so h
step_goes S c n now ends replies (Answered a) (Up x) disk s low high may small so h =
    calm_stepped S c n replies (Answered a) (at_second now x) disk (cuts.course_of c n ends (at_second now x) (Answered a)) s (answer_taken_calm c n (at_second now x) a (due_device x.tasks) (next_of x.tasks)) may.1 small.1 so h
step_goes S c n now ends replies (Wrote d value a) (Up x) disk s low high may small so h =
    calm_stepped S c n replies (Wrote d value a) (at_second now x) disk (cuts.course_of c n ends (at_second now x) (Wrote d value a)) s (tt, fenced_calm d a) may.1 small.1 so h
step_goes S c n now ends replies (Commanded words) (Up x) disk s low high may small so h =
    calm_stepped S c n replies (Commanded words) (at_second now x) disk (cuts.command_course c n (at_second now x) words) s (command_calm c n (at_second now x) words) may.1 small.1 so h
step_goes S c n now ends replies (Reported r good) (Up x) disk s low high may small so h =
    calm_stepped S c n replies (Reported r good) (at_second now x) disk (cuts.report_course c n (at_second now x) r good) s (report_calm c n (at_second now x) r good) may.1 small.1 so h
step_goes S c n now ends replies (Client name client port) (Up x) disk s low high may small so h =
    calm_stepped S c n replies (Client name client port) (at_second now x) disk (cuts.client_course c (at_second now x) name client port) s (client_calm c (at_second now x) name client port) may.1 small.1 so h
