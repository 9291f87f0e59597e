-- A step of a node, by what comes to it.
use Rattle.std.specs.Prelude.{ℕ, ◌≡◌, ◌≢◌, ◌≤◌, ◌==◌, Bool, true, false, List, [], ◌∷◌, Option, None, Some, IfSome, if◌then◌else◌}
use Rattle.std.proofs.Common.{refl, sym, subst, ◌∙◌}
use Rattle.cl_base.specs.Limits.{most_nodes}
use Rattle.cl_base.specs.Numbers.{numbers_to}
use Rattle.cl_base.specs.declared.method.Outcome.{Outcome}
use Rattle.cmm_member.specs.Records.{NodeRecord}
use Rattle.device_queue.specs.Queue.{begins_plainly, due_device, next_of}
use Rattle.heartbeats.specs.Peers.{heard}
use Rattle.heartbeats.specs.Views.{receivers_of}
use Rattle.heartbeats.specs.declared.due.Membership.{Membership}
use Rattle.history.specs.Attempts.{before_tick, configured_for}
use Rattle.history.specs.Moment.{Moment}
use Rattle.history.specs.Setting.{Setting}
use Rattle.history.specs.Trace.{ticked, up}
use Rattle.node_model.specs.Clusters.{first_valid_of}
use Rattle.node_model.specs.Configurations.{configured_at}
use Rattle.node_model.specs.Members.{beat_in, hearing, is_foreign}
use Rattle.node_model.specs.Seats.{record_of, up_with}
use Rattle.node_model.specs.Steps.{at_second}
use Rattle.node_model.specs.Ticks.{heartbeat_of, heartbeats_to, later, membership_of, ticked_output}
use Rattle.node_model.specs.Updates.{request_again}
use Rattle.node_model.specs.declared.cluster.Cluster.{Cluster}
use Rattle.node_model.specs.declared.input.Input.{Input}
use Rattle.node_model.specs.declared.input.Input.TheVariants.{Answered, Boot, Client, CommandDue, Commanded, Crash, Packet, Reported, Tick, Wrote}
use Rattle.node_model.specs.declared.node.Node.{Node}
use Rattle.node_model.specs.declared.node.Node.TheVariants.{Down, Up}
use Rattle.node_model.specs.declared.node.UpNode.{UpNode}
use Rattle.node_model.specs.declared.output.Output.{Output}
use Rattle.node_model.specs.declared.output.Output.TheVariants.{Sends}
use Rattle.refinement.proofs.Handlers.{delivered_by}
use Rattle.refinement.specs.Courses.{Course, Reply, joined, under}
use Rattle.refinement.specs.Courses.Course.{Acts, Falls, Stops}
use Rattle.refinement.specs.Courses.Reply.{Done, Lost_new, Lost_old}
use Rattle.refinement.specs.Cuts as cuts
use Rattle.refinement.specs.Cuts.{doings}
use Rattle.refinement.specs.Doings.{Doing, after_all, given_all, gone_line, of_node, site}
use Rattle.refinement.specs.Doings.Act.{Hears}
use Rattle.refinement.specs.Guards.{MayAll}
use Rattle.run_attempts.proofs.Ages.{if_false, if_true, not_same, same_self}
use Rattle.run_attempts.proofs.Courses.{answer_taken_calm, body_calm, client_calm, command_calm, distrusting_calm, fenced_calm, report_calm}
use Rattle.run_attempts.proofs.Mild.{again_mild}
use Rattle.run_attempts.proofs.Views.{calm_goes, tick_so, under_so}
use Rattle.run_attempts.proofs.Walk.{under_up}
use Rattle.run_attempts.specs.Judged.{IsSetOf}
use Rattle.run_attempts.specs.Steps.{IsCalm, IsDue, Never}
use Rattle.run_history.proofs.Idle.{passing_append}
use Rattle.run_history.proofs.Lists.{both, mapped}
use Rattle.run_history.proofs.Small.{AllSmall}
use Rattle.run_history.specs.Scenes.{Scene, passing, telling}
use Rattle.status_report.specs.declared.entry.Entry.TheVariants as entry
use Rattle.status_report.specs.declared.node_entry.DownCause.{DownCause}
use Rattle.status_report.specs.declared.node_entry.NodeEntry.TheVariants as note
use Rattle.wire.specs.declared.message.Body.{Body}
use Rattle.wire.specs.declared.message.Body.TheVariants as body
use Rattle.wire.specs.declared.message.Message.{Message}
use Rattle.run_packets.specs.views.Heard.{AllViews, BeatsAre, NodeIs}
use Rattle.run_packets.specs.views.Laws.{Account, heard_age_of}
use Rattle.run_packets.proofs.views.Ages.{beats_boot, beats_tick}
use Rattle.run_packets.proofs.views.Alone.{Governs, KeptWish, both_go, tick_kept}
use Rattle.run_packets.proofs.views.Begins.{DueWish, InTick, judges_tick}
use Rattle.run_packets.proofs.views.Same.{AreStill, IsStill, Passed, SameAges, ages_then, beats_stay, mild_still, still_passed}
use Rattle.run_packets.proofs.views.Walk.{Here, Judges, Went, all_go}

pub record Stepped (S : Setting) (f : Account) (n : ℕ) (before : List Moment) (node : Node) (after : List Moment) : Type 0 where
  pub so : AllViews S f after
  pub own : NodeIs f after n node
  pub others : (k : ℕ) → k ≢ n → SameAges f k before after

went_stepped : (S : Setting) (f : Account) (n : ℕ) (before : List Moment) (node : Node) (after : List Moment) → Went S f n before node after → Stepped S f n before node after
went_stepped S f n before node after h = record { so = h.so; own = h.node; others = λ k ne. h.alike.ages k }

-- ---- a boot

up_elsewhere : (f : Account) (n k : ℕ) (ms : List Moment) → k ≢ n → SameAges f k ms (up n ∷ ms)
up_elsewhere f n k ms ne m = if_false (n == k) None _ (not_same n k (λ e. ne (sym e)))

up_stepped : (S : Setting) (f : Account) (c : Cluster) (n : ℕ) (disk : NodeRecord) (s : Scene) → AllViews S f s.moments
    → Stepped S f n s.moments (Up (up_with n (first_valid_of c n) disk)) (passing n (of_node n note.Up ∷ []) s).moments
up_stepped S f c n disk s so = record { so = (record { view = tt; alone = tt }, so); own = beats_boot f s.moments n; others = λ k ne. up_elsewhere f n k s.moments ne }

up_and_down : (S : Setting) (f : Account) (n : ℕ) (why : DownCause) (s : Scene) → AllViews S f s.moments → Stepped S f n s.moments Down (passing n (of_node n note.Up ∷ gone_line n why) s).moments
up_and_down S f n why s so =
    let t : Scene = telling (entry.Node n note.Up) s in
    let passed : Passed S f t.moments (passing n (gone_line n why) t).moments = still_passed S f n (gone_line n why) t (tt, tt) (record { view = tt; alone = tt }, so) in
    record {
      so = passed.so;
      own = tt;
      others = λ k ne. ages_then f k s.moments t.moments (passing n (gone_line n why) t).moments (up_elsewhere f n k s.moments ne) (passed.alike.ages k);
    }

boot_stepped : (S : Setting) (f : Account) (c : Cluster) (n : ℕ) (disk : NodeRecord) (replies : List Reply) (s : Scene) → AllViews S f s.moments
    → Stepped S f n s.moments (after_all c n (site Down disk) (cuts.boot_doings replies)).node (passing n (given_all c n (site Down disk) (cuts.boot_doings replies)) s).moments
boot_stepped S f c n disk [] s so = up_and_down S f n _ s so
boot_stepped S f c n disk (Done ∷ replies) s so = up_stepped S f c n disk s so
boot_stepped S f c n disk (Lost_new why ∷ replies) s so = up_and_down S f n why s so
boot_stepped S f c n disk (Lost_old why ∷ replies) s so = up_and_down S f n why s so

none_stepped : (S : Setting) (f : Account) (n : ℕ) (s : Scene) → AllViews S f s.moments → Stepped S f n s.moments Down s.moments
none_stepped S f n s so = record { so = so; own = tt; others = λ k ne m. refl }

-- ---- a node that is up, to which neither a tick nor a packet comes

never_judges : (S : Setting) (f : Account) (n : ℕ) → Judges S f n Never (λ ms. Unit {0})
never_judges S f n = record { stays = λ before after alike k. tt; begins_so = λ ms x p members k h own wish. absurd wish }

calm_stepped : (S : Setting) (f : Account) (c : Cluster) (n : ℕ) (replies : List Reply) (i : Input) (x : UpNode) (disk : NodeRecord) (k : Course) (s : Scene) → IsCalm k → (let ds : List Doing = under replies k in
    MayAll c n (delivered_by i) (site (Up x) disk) ds → AllSmall ds → AllViews S f s.moments → BeatsAre f s.moments n x.beats
    → Stepped S f n s.moments (after_all c n (site (Up x) disk) ds).node (passing n (given_all c n (site (Up x) disk) ds) s).moments)
calm_stepped S f c n replies i x disk k s calm may small so h =
    let ds : List Doing = under replies k in
    went_stepped S f n s.moments _ _
    (all_go S f Never (λ ms. Unit {0}) c n (delivered_by i) (site (Up x) disk) ds s (never_judges S f n) may small (under_so Never c n replies disk x k (calm_goes Never c n x k calm)) (under_up replies k) tt
    (record { so = so; node = h }))

-- ---- a packet

-- what is so where a packet has come: it counts unless it is foreign
abbrev pub PacketReady : Account → Cluster → ℕ → UpNode → ℕ → Body → List Moment → Type 0
PacketReady f c n x from b moments =
    (is_foreign c n x b ≡ false → BeatsAre f moments n (heard x.beats from (beat_in b))) × (is_foreign c n x b ≡ true → BeatsAre f moments n x.beats)

packet_stepped : (S : Setting) (f : Account) (c : Cluster) (n : ℕ) (ends : Outcome) (replies : List Reply) (from : ℕ) (m : Message) (x : UpNode) (disk : NodeRecord) (s : Scene)
    → (let ds : List Doing = under replies (cuts.packet_course c n ends x from m) in
    MayAll c n (Some (from, m)) (site (Up x) disk) ds → AllSmall ds → AllViews S f s.moments → PacketReady f c n x from m.body s.moments
    → Stepped S f n s.moments (after_all c n (site (Up x) disk) ds).node (passing n (given_all c n (site (Up x) disk) ds) s).moments)
packet_stepped S f c n ends replies from m x disk s may small so ready = by_test (is_foreign c n x m.body) refl may small
  where
    y : UpNode
    y = hearing x from m.body

    body_course : Course
    body_course = cuts.body_course c n ends y from m m.body

    Goal : Course → Type 0
    Goal k = MayAll c n (Some (from, m)) (site (Up x) disk) (under replies k) → AllSmall (under replies k)
        → Stepped S f n s.moments (after_all c n (site (Up x) disk) (under replies k)).node (passing n (given_all c n (site (Up x) disk) (under replies k)) s).moments

    by_test : (t : Bool) → is_foreign c n x m.body ≡ t → Goal (if t then Stops else Acts (Hears from m.body) body_course)
    by_test true foreign may small = record { so = so; own = ready.1 foreign; others = λ k ne j. refl }
    by_test false known may small = calm_stepped S f c n replies (Packet from m) y disk body_course s (body_calm c n ends y from m m.body) may.1 small.1 so (ready.0 known)

-- the second of the clock makes nothing foreign
second_foreign : (c : Cluster) (n now : ℕ) (x : UpNode) (b : Body) → is_foreign c n (at_second now x) b ≡ is_foreign c n x b
second_foreign c n now x (body.Prepare e place text) = refl
second_foreign c n now x _ = refl

packet_ready : (f : Account) (c : Cluster) (n now : ℕ) (x : UpNode) (from : ℕ) (b : Body) (ms : List Moment) → PacketReady f c n x from b ms → PacketReady f c n (at_second now x) from b ms
packet_ready f c n now x from b ms h = (λ known. h.0 (sym (second_foreign c n now x b) ∙ known), λ foreign. h.1 (sym (second_foreign c n now x b) ∙ foreign))

-- ---- a tick

-- what is configured where a tick comes to node n, and how it governs
pub record TickReady (S : Setting) (c : Cluster) (n : ℕ) (x : UpNode) (moments : List Moment) : Type 0 where
  pub known : (y : UpNode) → record_of y ≡ record_of x → IfSome (configured_for S n moments) (IsSetOf (configured_at c y))
  pub governs : Governs n x.seat x.presidency

tick_elsewhere : (f : Account) (n k : ℕ) (ms : List Moment) → k ≢ n → SameAges f k ms (ticked n ∷ ms)
tick_elsewhere f n k ms ne m = if_false (n == k) _ (heard_age_of f k m ms) (not_same n k (λ e. ne (sym e)))

heartbeats_still : (x : UpNode) (receivers : ℕ) → AreStill (heartbeats_to x receivers)
unfolding heartbeats_to
heartbeats_still x receivers = mapped IsStill (λ n. Sends n (heartbeat_of x)) (numbers_to receivers most_nodes) (λ n. tt)

output_still : (c : Cluster) (x y : UpNode) → AreStill (ticked_output c x y)
output_still c x y =
    both IsStill (heartbeats_to y (receivers_of y.beats (configured_at c y))) (request_again x) (heartbeats_still y (receivers_of y.beats (configured_at c y))) (mild_still (request_again x) (again_mild x))

tick_stepped : (S : Setting) (f : Account) (c : Cluster) (n : ℕ) (ends : Outcome) (replies : List Reply) (x : UpNode) (disk : NodeRecord) (s : Scene) → 1 ≤ n → n ≤ 32
    → (let ds : List Doing = under replies (cuts.tick_course c n ends x) in
    MayAll c n None (site (Up x) disk) ds → AllSmall ds → AllViews S f s.moments → BeatsAre f s.moments n x.beats → TickReady S c n x s.moments
    → Stepped S f n s.moments (after_all c n (site (Up x) disk) ds).node (passing n (given_all c n (site (Up x) disk) ds) s).moments)
tick_stepped S f c n ends replies x disk s low high may small so h ready =
    let y : UpNode = later c x in
    let rest : Course = joined c n y (cuts.governing_course c n ends x y) (λ z. cuts.ticked_course c n z z.attempt) in
    let ds : List Doing = under replies rest in
    let os : List Output = of_node n note.Ticked ∷ ticked_output c x y in
    let more : List Output = given_all c n (site (Up y) disk) ds in
    let first : Scene = telling (entry.Node n note.Ticked) s in
    let t : Scene = passing n os s in
    let done : Passed S f first.moments t.moments = still_passed S f n (ticked_output c x y) first (output_still c x y) (record { view = tt; alone = tt }, so) in
    let start : before_tick n first.moments ≡ s.moments = if_true (n == n) s.moments (before_tick n s.moments) (same_self n) in
    let configured : ℕ = configured_at c x in
    let member : Option Membership = membership_of x.seat in
    let began : InTick S n configured t.moments = record {
      known = subst (λ ms. IfSome (configured_for S n ms) (IsSetOf configured)) (sym (done.alike.ticks n ∙ start)) (ready.known x refl);
    } in
    let here : Here S f n t.moments (Up y) = record {
      so = done.so;
      node = beats_stay f first.moments t.moments n y.beats (done.alike.ages n) (beats_tick f s.moments n configured x.beats h);
    } in
    let went : Went S f n t.moments (after_all c n (site (Up y) disk) ds).node (passing n more t).moments =
    all_go S f (DueWish c n configured member) (InTick S n configured) c n None (site (Up y) disk) ds t (judges_tick S f c n configured member low high) may.1 small.1
    (under_so (DueWish c n configured member) c n replies disk y rest (both_go (IsDue c configured member) (KeptWish c n configured member) c n y rest (tick_so c n ends x) (tick_kept c n ends x low high ready.governs)))
    (under_up replies rest) began here in
    subst (λ (z : Scene). Stepped S f n s.moments (after_all c n (site (Up y) disk) ds).node z.moments) (sym (passing_append n os more s))
    (record {
      so = went.so;
      own = went.node;
      others = λ k ne. ages_then f k s.moments first.moments (passing n more t).moments (tick_elsewhere f n k s.moments ne)
          (ages_then f k first.moments t.moments (passing n more t).moments (done.alike.ages k) (went.alike.ages k));
    })

-- ---- whatever comes

abbrev pub UpReady : Setting → Account → Cluster → ℕ → UpNode → Input → List Moment → Type 0
UpReady S f c n x (Packet from m) moments = PacketReady f c n x from m.body moments
UpReady S f c n x Tick moments = BeatsAre f moments n x.beats × TickReady S c n x moments
UpReady S f c n x i moments = BeatsAre f moments n x.beats

abbrev pub Ready : Setting → Account → Cluster → ℕ → Node → Input → List Moment → Type 0
Ready S f c n Down i moments = Unit {0}
Ready S f c n (Up x) i moments = UpReady S f c n x i moments

pub step_goes : (S : Setting) (f : Account) (c : Cluster) (n now : ℕ) (ends : Outcome) (replies : List Reply) (i : Input) (node : Node) (disk : NodeRecord) (s : Scene) → 1 ≤ n → n ≤ 32
    → (let ds : List Doing = doings c n now ends replies i node in
    MayAll c n (delivered_by i) (site node disk) ds → AllSmall ds → AllViews S f s.moments → Ready S f c n node i s.moments
    → Stepped S f n s.moments (after_all c n (site node disk) ds).node (passing n (given_all c n (site node disk) ds) s).moments)
step_goes S f c n now ends replies Boot Down disk s low high may small so h = boot_stepped S f c n disk replies s so
step_goes S f c n now ends replies Crash Down disk s low high may small so h = none_stepped S f n s so
step_goes S f c n now ends replies Tick Down disk s low high may small so h = none_stepped S f n s so
step_goes S f c n now ends replies (Packet from m) Down disk s low high may small so h = none_stepped S f n s so
step_goes S f c n now ends replies CommandDue Down disk s low high may small so h = none_stepped S f n s so
step_goes S f c n now ends replies (Answered a) Down disk s low high may small so h = none_stepped S f n s so
step_goes S f c n now ends replies (Wrote d value a) Down disk s low high may small so h = none_stepped S f n s so
step_goes S f c n now ends replies (Commanded words) Down disk s low high may small so h = none_stepped S f n s so
step_goes S f c n now ends replies (Reported r good) Down disk s low high may small so h = none_stepped S f n s so
step_goes S f c n now ends replies (Client name client port) Down disk s low high may small so h = none_stepped S f n s so
step_goes S f c n now ends replies Tick (Up x) disk s low high may small so h =
    tick_stepped S f c n ends replies (at_second now x) disk s low high may.1 small.1 so h.0 (record { known = λ y same. h.1.known y same; governs = h.1.governs })
step_goes S f c n now ends replies (Packet from m) (Up x) disk s low high may small so h =
    packet_stepped S f c n ends replies from m (at_second now x) disk s may.1 small.1 so (packet_ready f c n now x from m.body s.moments h)
step_goes S f c n now ends replies Boot (Up x) disk s low high may small so h = calm_stepped S f c n replies Boot (at_second now x) disk Stops s tt may.1 small.1 so h
step_goes S f c n now ends replies Crash (Up x) disk s low high may small so h = calm_stepped S f c n replies Crash (at_second now x) disk (Falls _) s tt may.1 small.1 so h
step_goes S f c n now ends replies CommandDue (Up x) disk s low high may small so h =
    calm_stepped S f c n replies CommandDue (at_second now x) disk (cuts.course_of c n ends (at_second now x) CommandDue) s (distrusting_calm (at_second now x) (begins_plainly x.tasks)) may.1 small.1 so h
step_goes S f c n now ends replies (Answered a) (Up x) disk s low high may small so h =
    calm_stepped S f c n replies (Answered a) (at_second now x) disk (cuts.course_of c n ends (at_second now x) (Answered a)) s (answer_taken_calm c n (at_second now x) a (due_device x.tasks) (next_of x.tasks)) may.1 small.1 so h
step_goes S f c n now ends replies (Wrote d value a) (Up x) disk s low high may small so h =
    calm_stepped S f c n replies (Wrote d value a) (at_second now x) disk (cuts.course_of c n ends (at_second now x) (Wrote d value a)) s (tt, fenced_calm d a) may.1 small.1 so h
step_goes S f c n now ends replies (Commanded words) (Up x) disk s low high may small so h =
    calm_stepped S f c n replies (Commanded words) (at_second now x) disk (cuts.command_course c n (at_second now x) words) s (command_calm c n (at_second now x) words) may.1 small.1 so h
step_goes S f c n now ends replies (Reported r good) (Up x) disk s low high may small so h =
    calm_stepped S f c n replies (Reported r good) (at_second now x) disk (cuts.report_course c n (at_second now x) r good) s (report_calm c n (at_second now x) r good) may.1 small.1 so h
step_goes S f c n now ends replies (Client name client port) (Up x) disk s low high may small so h =
    calm_stepped S f c n replies (Client name client port) (at_second now x) disk (cuts.client_course c (at_second now x) name client port) s (client_calm c (at_second now x) name client port) may.1 small.1 so h
