-- Where the promise of an attempt is to be saved, the same run with a later stop has the line of the attempt: so what is proved of that line tells of
-- the node here.
use Rattle.std.specs.Prelude.{ℕ, ◌^◌, ◌≡◌, ◌≤◌, ◌<◌, ◌==◌, ◌&&◌, ◌||◌, ◌++◌, not, Bool, true, List, [], ◌∷◌, length, Option, None, Some, IfSome}
use Rattle.std.proofs.Common.{refl, sym, ap, subst, ◌∙◌}
use Rattle.cl_base.specs.Limits.{most_devices, most_nodes}
use Rattle.cl_base.specs.declared.header.Header.{Header}
use Rattle.cl_base.specs.declared.method.Outcome as method
use Rattle.cl_base.specs.declared.packet.DropCause.{DropCause}
use Rattle.cmm_attempt.proofs.Basics.{if_either}
use Rattle.history.specs.Attempts as attempts
use Rattle.history.specs.Attempts.{IsSeen, IsWanted, before_tick, configured_for, has_reason, is_recent, sees, view_of}
use Rattle.history.specs.Member as history
use Rattle.history.specs.Member.{member_of}
use Rattle.history.specs.Moment.{Moment}
use Rattle.history.specs.Order.{Always, under_way}
use Rattle.history.specs.Setting.{Setting, all_to, coordinator, nodes_of}
use Rattle.history.specs.Trace.{attempt, saved, ticked}
use Rattle.history_setting.specs.Settings.{setting_of}
use Rattle.interconnect.specs.Links as net
use Rattle.interconnect.specs.Links.{sending}
use Rattle.machine_base.proofs.Puts.{put_here}
use Rattle.machine_base.specs.Put.{put}
use Rattle.node_model.specs.Steps.{Outcome, at_second, carried, stepped}
use Rattle.node_model.specs.Ticks.{later, ticked_output}
use Rattle.node_model.specs.declared.cluster.Cluster.{Cluster}
use Rattle.node_model.specs.declared.input.Input.TheVariants as input
use Rattle.node_model.specs.declared.node.Node.{Node}
use Rattle.node_model.specs.declared.node.Node.TheVariants.{Up}
use Rattle.node_model.specs.declared.node.UpNode.{UpNode}
use Rattle.node_model.specs.declared.output.Output.{Output}
use Rattle.node_model.specs.declared.output.Output.TheVariants.{Sends, Tells}
use Rattle.record_disk.specs.Disks.{DiskState, armed, saving}
use Rattle.refinement.proofs.Cuts.{step_of_node_is_its_course}
use Rattle.refinement.specs.Courses.{Course, plan_from}
use Rattle.refinement.specs.Cuts.{course_at}
use Rattle.refinement.specs.Doings.{of_node}
use Rattle.refinement.specs.Runs.{moved}
use Rattle.refinement.specs.Runs.Move.{Takes as Takes_in}
use Rattle.refinement.specs.Steps.{disk_rules}
use Rattle.schedule_text.specs.declared.event.Event.TheVariants as event
use Rattle.schedule_text.specs.declared.event.StopChoice.TheVariants as choice
use Rattle.status_report.specs.declared.attempt_entry.AttemptEntry.TheVariants as attempt_entry
use Rattle.status_report.specs.declared.entry.Entry.TheVariants as entry
use Rattle.status_report.specs.declared.node_entry.NodeEntry.TheVariants as note
use Rattle.status_report.specs.declared.packet_entry.PacketEntry.TheVariants as packet
use Rattle.wire.specs.Spelling.{spelling}
use Rattle.wire.specs.declared.message.Message.{Message}
use Rattle.world_model.specs.First.{first_cluster}
use Rattle.world_model.specs.Lines.{left_by}
use Rattle.world_model.specs.Sends.{is_sent, name_of}
use Rattle.run_history.specs.Happenings.{IsNode, Speaks, Takes, given_by, happened}
use Rattle.run_history.specs.Scenes.{Scene, dropped_so, passing, posting, sent_as, telling, with_links}
use Rattle.run_history.proofs.Idle.{if_true, passing_append}
use Rattle.run_history.proofs.Lists.{both}
use Rattle.run_packets.specs.admitted.Laws.{AttemptsBeginAsWanted, BeginsAsHistory}
use Rattle.run_downs.proofs.Courses.{GoesFine}
use Rattle.run_outcomes.specs.stops.Courses.{Lead, first_said, lead_at}
use Rattle.run_outcomes.specs.stops.Known.{AreStill, IsLed, IsStillOut, StillOn, Traced}
use Rattle.run_outcomes.proofs.stops.Behind.{same_self, same_tick}
use Rattle.run_outcomes.proofs.stops.Firsts.{LedOn, can_save, lead_record, led_on}
use Rattle.run_outcomes.proofs.stops.Still.{passing_still, ticked_still}
use Rattle.run_outcomes.proofs.stops.Ticks.{tick_rest}
use Rattle.run_outcomes.proofs.stops.Traces.{traced_more}
use Rattle.run_outcomes.proofs.stops.Wanted.{agreeing, same_reason}

-- ---- what always holds held before

dropped_before : (P : List Moment → Moment → Type 0) (o : Option (ℕ × DropCause)) (s : Scene) → Always P (dropped_so o s).moments → Always P s.moments
dropped_before P None s h = h
dropped_before P (Some x) s h = h.1

posted_before : (P : List Moment → Moment → Type 0) (from to : ℕ) (m : Message) (s : Scene) → Always P (posting from to m s).moments → Always P s.moments
posted_before P from to m s =
    let o : net.Outcome = sending s.links from to (spelling m) in
    if_either (λ (z : Scene). Always P z.moments → Always P s.moments) (is_sent s.links m) (sent_as from to m o s) s
    (λ h. (dropped_before P o.sent.dropped (telling (entry.Packet (packet.Sent s.links.next from to (name_of m.body) (spelling m))) (with_links s o.after)) h).1) (λ h. h)

passed_before : (P : List Moment → Moment → Type 0) (n : ℕ) (os : List Output) (s : Scene) → Always P (passing n os s).moments → Always P s.moments
passed_before P n [] s h = h
passed_before P n (Tells e ∷ os) s h = (passed_before P n os (telling e s) h).1
passed_before P n (Sends to b ∷ os) s h =
    let m : Message = record { sender = n; body = b } in
    posted_before P n to m s (passed_before P n os (posting n to m s) h)

-- so it holds of the line of an attempt
at_attempt : (P : List Moment → Moment → Type 0) (n p members : ℕ) (os more : List Output) (s : Scene)
    → Always P (passing n (os ++ of_node n note.Saved ∷ Tells (entry.Attempt (attempt_entry.Begun p members)) ∷ more) s).moments → P (saved n ∷ (passing n os s).moments) (attempt p members)
at_attempt P n p members os more s h =
    let t : Scene = telling (entry.Attempt (attempt_entry.Begun p members)) (telling (entry.Node n note.Saved) (passing n os s)) in
    (passed_before P n more t (subst (λ (z : Scene). Always P z.moments) (passing_append n os (of_node n note.Saved ∷ Tells (entry.Attempt (attempt_entry.Begun p members)) ∷ more) s) h)).0

-- ---- what the line of an attempt tells

if_some_with : (o : Option (ℕ → Bool)) (P Q : (ℕ → Bool) → Type 0) → ((test : ℕ → Bool) → P test → Q test) → IfSome o P → IfSome o Q
if_some_with None P Q f h = tt
if_some_with (Some test) P Q f h = f test h

-- the lines go on from a tick of node n to the save before its attempt
led_by : (S : Setting) (n p members : ℕ) (start ms vs : List Moment) → configured_for S n ms ≡ configured_for S n start → member_of n ms ≡ member_of n start → ((e : ℕ) → history.members_of e ms ≡ history.members_of e start)
    → ((m : ℕ) → attempts.last_heartbeat n m ms ≡ attempts.last_heartbeat n m start) → ((m : ℕ) → attempts.age_of n m vs ≡ attempts.age_of n m ms) → before_tick n vs ≡ start → under_way vs ≡ Some (event.Tick n)
    → IsWanted S (saved n ∷ vs) p members → IsLed S n members ms
led_by S n p members start ms vs conf seat tried beats ages tick way b =
    let own : coordinator p ≡ n = same_tick (coordinator p) n (sym b.in_a_tick ∙ way) in
    let view : IfSome (configured_for S n (before_tick n vs)) (IsSeen S (saved n ∷ vs) n members) =
    subst (λ j. IfSome (configured_for S j (before_tick j (saved n ∷ vs))) (IsSeen S (saved n ∷ vs) j members)) own b.seen in
    let why : has_reason n members (before_tick n vs) (member_of n (before_tick n vs)) ≡ true =
    subst (λ j. has_reason j members (before_tick j (saved n ∷ vs)) (member_of j (before_tick j (saved n ∷ vs))) ≡ true) own b.reason in
    record {
      least = b.least ∙ ap (λ j. Some j) own;
      view = subst (λ o. IfSome o (λ configured. nodes_of members ≡ view_of S.header.nodes configured n ms)) (ap (λ z. configured_for S n z) tick ∙ sym conf)
          (if_some_with (configured_for S n (before_tick n vs)) (IsSeen S (saved n ∷ vs) n members) (λ configured. nodes_of members ≡ view_of S.header.nodes configured n ms)
          (λ configured is. is.view ∙ agreeing (sees configured n (saved n ∷ vs)) (sees configured n ms) (all_to S.header.nodes) (λ m. ap (λ o. (m == n) || (is_recent o && (configured m || not (configured n)))) (ages m))) view);
      reason = subst (λ o. has_reason n members ms o ≡ true) (sym seat)
          (same_reason n members ms start (member_of n start) tried beats ∙ subst (λ z. has_reason n members z (member_of n z) ≡ true) tick why);
    }

-- ---- the other run

-- calls of its disk that no first save takes
abbrev many : ℕ
many = 100

pub led_where_it_saves : AttemptsBeginAsWanted → (h : Header) (cells : ℕ) (s : Scene) (n now : ℕ) (ends : method.Outcome) (x : UpNode) (l : Lead) → h.nodes ≤ most_nodes → length h.devices ≤ most_devices → h.cluster < 2 ^ 32 → Traced h cells s → IsNode n → now < 2 ^ 64 → s.nodes.node n ≡ Up x
    → (let c : Cluster = first_cluster h in let z : UpNode = later c (at_second now x) in let k : Course = tick_rest c n ends (at_second now x) in GoesFine true (course_at c n now ends x input.Tick) → lead_at c n z k ≡ Some l
    → can_save (s.nodes.disk n) (lead_record c n l) ≡ true → AreStill (first_said c n z k) → IsLed (setting_of h) n l.members (ticked n ∷ s.moments))
led_where_it_saves law h cells s n now ends x l nodes few small traced is_node in_time at fine is can still =
    led_by S n l.epoch l.members start (ticked n ∷ s.moments) vs refl refl (λ e. refl) (λ m. refl) (λ m. (on.alike.heard n).ages m)
    (on.alike.ticks n ∙ if_true (n == n) start _ (same_self n)) on.alike.way
    (at_attempt (BeginsAsHistory S) n l.epoch l.members os led.more u (subst (λ given. Always (BeginsAsHistory S) (passing n given u).moments) (sym all) begins))
  where
    c : Cluster
    c = first_cluster h

    S : Setting
    S = setting_of h

    y : UpNode
    y = at_second now x

    z : UpNode
    z = later c y

    first : Scene
    first = happened c s (Speaks (event.CrashAt n many choice.Old))

    second : Scene
    second = happened c first (Speaks (event.Tick n))

    third : Scene
    third = happened c second (Takes n now ends input.Tick)

    u : Scene
    u = record second { nodes = moved c second.nodes (Takes_in n now ends input.Tick) }

    start : List Moment
    start = second.moments

    traced_so : Traced h cells third
    traced_so =
        traced_more h cells second (Takes n now ends input.Tick)
        (traced_more h cells first (Speaks (event.Tick n)) (traced_more h cells s (Speaks (event.CrashAt n many choice.Old)) traced tt tt) tt tt) (is_node, tt, in_time, refl, tt, refl) tt

    begins : Always (BeginsAsHistory S) third.moments
    begins = subst (λ (w : Scene). Always (BeginsAsHistory S) w.moments) traced_so.is (law h cells traced_so.happenings nodes few small traced_so.may traced_so.boots)

    disk : DiskState
    disk = armed (s.nodes.disk n) many (left_by choice.Old)

    rest : List Output
    rest = ticked_output c y z ++ first_said c n z (tick_rest c n ends y)

    os : List Output
    os = of_node n note.Ticked ∷ rest

    vs : List Moment
    vs = (passing n os u).moments

    on : StillOn n (ticked n ∷ start) vs
    on = passing_still n n rest (telling (entry.Node n note.Ticked) u) (both IsStillOut (ticked_output c y z) (first_said c n z (tick_rest c n ends y)) (ticked_still c y z) still)

    led : LedOn c n x (course_at c n now ends x input.Tick) [] l (carried saving n (plan_from c n x (course_at c n now ends x input.Tick)) [] disk)
    led = led_on c n x (course_at c n now ends x input.Tick) [] disk l fine is can refl

    same_step : (node : Node) (d : DiskState) → node ≡ Up x → d ≡ disk → (stepped disk_rules c n now ends node d input.Tick).given ≡ (stepped disk_rules c n now ends (Up x) disk input.Tick).given
    same_step node d e f = ap (λ w. (stepped disk_rules c n now ends w d input.Tick).given) e ∙ ap (λ w. (stepped disk_rules c n now ends (Up x) w input.Tick).given) f

    all : os ++ of_node n note.Saved ∷ Tells (entry.Attempt (attempt_entry.Begun l.epoch l.members)) ∷ led.more ≡ given_by c n now ends input.Tick second.nodes
    all =
        led.given ∙ (ap (λ (o : Outcome DiskState). o.given) (sym ((step_of_node_is_its_course saving c n now ends x input.Tick).is [] disk))
        ∙ sym (same_step (s.nodes.node n) (put s.nodes.disk n disk n) at (put_here s.nodes.disk n disk)))
