-- In each run an attempt has the Ready of each other member whose Ready came for it: none comes before the attempt installs.
use Rattle.std.specs.Prelude.{ℕ, ◌-◌, ◌≡◌, ◌≢◌, ◌≤◌, Bool, true, false, List, [], ◌∷◌, Option, None, Some, slice_get}
use Rattle.std.specs.List.{AllByRecursion}
use Rattle.std.proofs.Common.{refl, sym, ap, subst, ◌∙◌, inl, inr}
use Rattle.attempt_laws.specs.Staying.{IsBefore}
use Rattle.cl_base.specs.declared.header.Header.{Header}
use Rattle.cl_base.specs.declared.method.Outcome as method
use Rattle.cl_base.specs.declared.packet.DropCause.{DropCause}
use Rattle.cl_base.specs.declared.packet.DropCause.TheVariants as drop
use Rattle.cmm_attempt.proofs.Basics.{false_true, same_number}
use Rattle.cmm_attempt.specs.Attempts.{AttemptState, is_of, is_over}
use Rattle.cmm_attempt.specs.Calls.{Take, turn}
use Rattle.cmm_attempt.specs.declared.phase.Phase.{Phase}
use Rattle.cmm_attempt.specs.declared.phase.Phase.TheVariants.{Choosing, Collecting, Installing, Over, SeizingOthers, SeizingVotes}
use Rattle.history.specs.Attempts.{readies}
use Rattle.history.specs.Moment.{Moment, Part, Said, Told}
use Rattle.history.specs.Setting.{coordinator}
use Rattle.history.specs.Trace.{delivered}
use Rattle.interconnect.specs.Links as net
use Rattle.interconnect.specs.Links.{Packet, packet_of, sending}
use Rattle.machine_base.specs.Epochs as epochs
use Rattle.membership_machine.specs.Invariant.{Holds}
use Rattle.membership_machine.specs.State.{Memberships}
use Rattle.node_model.specs.Members.{is_foreign}
use Rattle.node_model.specs.Steps.{stepped}
use Rattle.node_model.specs.declared.cluster.Cluster.{Cluster}
use Rattle.node_model.specs.declared.input.Input.{Input}
use Rattle.node_model.specs.declared.input.Input.TheVariants as input
use Rattle.node_model.specs.declared.node.Node.TheVariants.{Down, Up}
use Rattle.node_model.specs.declared.node.UpNode.{UpNode}
use Rattle.pgr_device.specs.Device.{Device}
use Rattle.pgr_device.specs.declared.command.PrCommand.{PrCommand}
use Rattle.pgr_device.specs.declared.command.PrCommand.TheVariants as command
use Rattle.refinement.specs.Guards.{OfUp}
use Rattle.refinement.specs.Runs.{IsAmong, Letter, Nodes, moved}
use Rattle.refinement.specs.Runs.Move.{Arms}
use Rattle.refinement.specs.Steps.{disk_rules}
use Rattle.refinement.specs.Ties.{MessageTold, setting_of}
use Rattle.schedule_text.specs.declared.event.Event.{Event}
use Rattle.schedule_text.specs.declared.event.Event.TheVariants as event
use Rattle.schedule_text.specs.declared.line.Line.TheVariants as line
use Rattle.status_report.specs.declared.device_entry.DeviceEntry.TheVariants as device
use Rattle.status_report.specs.declared.entry.Entry.TheVariants as entry
use Rattle.status_report.specs.declared.packet_entry.PacketEntry.TheVariants as packet
use Rattle.wire.specs.Kinds.{is_ready}
use Rattle.wire.specs.Reads.{whole_of}
use Rattle.wire.specs.declared.message.Body.{Body}
use Rattle.wire.specs.declared.message.Body.TheVariants as body
use Rattle.wire.specs.declared.message.Message.{Message}
use Rattle.world_model.specs.First.{first_cluster}
use Rattle.world_model.specs.Lines.{left_by}
use Rattle.run_history.proofs.Reached.{reached_more}
use Rattle.run_history.specs.Happenings.{Arrives, Begins, Commands, Happening, Loses, MayAllHappen, MayHappen, Misses, Notes, Refuses, Repeats, Speaks, Strays, Takes as Takes_plain, Writes, all_happened, armed_by, commanded, commanded_at, happened, removed}
use Rattle.run_history.specs.Scenes.{Scene, adding, dropped_so, first_scene, telling, with_links}
use Rattle.run_messages.proofs.Reaching.{IsReached, IsSmall}
use Rattle.run_messages.proofs.records.Arrivals.{arrived_kept}
use Rattle.run_messages.specs.records.Kept.{Came}
use Rattle.run_packets.proofs.views.Strays.{no_stray}
use Rattle.run_packets.specs.views.Laws.{NoneForeign, TellsHere, is_foreign_to}
use Rattle.run_outcomes.specs.saves.Kept.{IsAt}
use Rattle.run_outcomes.specs.silence.Readied.{AllHave, CameIn, Has_all, Has_of}
use Rattle.run_outcomes.specs.tasks.Said.{installed_in}
use Rattle.run_outcomes.proofs.phases.Leading.{Has}
use Rattle.run_outcomes.proofs.phases.LiveRuns.{none_is_over}
use Rattle.run_outcomes.proofs.phases.Runs.{Knows, knows_at, none_at, plain_comes, ways_at}
use Rattle.run_outcomes.proofs.phases.Steps.{Comes, ComesBody, step_has}
use Rattle.run_outcomes.proofs.phases.Taken.{Ways}
use Rattle.run_outcomes.proofs.results.Freed.{inst, tied_installed}
use Rattle.run_outcomes.proofs.seized.Scenes.{Scened, scened_at}
use Rattle.run_outcomes.proofs.silence.ReadyCalls.{Or, call_has, ready_has}
use Rattle.run_outcomes.proofs.silence.ReadyLines.{comes_from, copied_follows, elsewhere, follows_one}
use Rattle.run_outcomes.proofs.silence.ReadySteps.{Comes_to, same_has, step_ready, still, taking_has}

-- ---- what is known of a scene

record Known (c : Cluster) (s : Scene) : Type 0 where
  scened : Scened c s
  live : (n : ℕ) (x : UpNode) (a : AttemptState) → s.nodes.node n ≡ Up x → x.attempt ≡ Some a → is_over a.phase ≡ false

known_of : (h : Header) (cells : ℕ) (s : Scene) → IsSmall h → IsReached h cells s → Known (first_cluster h) s
known_of h cells s size r = record { scened = scened_at h cells s size r; live = live }
  where
    t : Scene
    t = all_happened (first_cluster h) (first_scene h cells) r.happenings

    Live : Scene → Type 0
    Live z = (n : ℕ) (x : UpNode) (a : AttemptState) → z.nodes.node n ≡ Up x → x.attempt ≡ Some a → is_over a.phase ≡ false

    live : Live s
    live = subst Live r.is (λ n x a up has. none_is_over h cells r.happenings size.few size.small r.may n a (subst (OfUp (λ y. y.attempt ≡ Some a)) (sym up) has))

-- ---- a Ready says that its attempt is installed

among_told : (M : Memberships) (from : ℕ) (b : Body) (letters : List Letter) → IsAmong from b letters → AllByRecursion (λ (l : Letter). MessageTold M l.from l.body) letters → MessageTold M from b
among_told M from b [] among told = absurd among
among_told M from b (l ∷ letters) (inl here) told = subst (λ f. MessageTold M f b) here.0 (subst (MessageTold M l.from) here.1 told.0)
among_told M from b (l ∷ letters) (inr there) told = among_told M from b letters there told.1

ready_told : (M : Memberships) (e from : ℕ) (b : Body) → readies e (Some b) ≡ true → MessageTold M from b → (M.node from).ready e ≡ true
ready_told M e from (body.Ready f joined report) is told = subst (λ k. (M.node from).ready k ≡ true) (same_number f e is) told
ready_told M e from _ is told = absurd (false_true is)

ready_body : (e : ℕ) (b : Body) → readies e (Some b) ≡ true → (is_ready b ≡ true) × (is_of e b ≡ true)
ready_body e (body.Ready f joined report) is = (refl, is)
ready_body e _ is = absurd (false_true is)

installed_by : (c : Cluster) (M : Memberships) (e from n : ℕ) → Holds (setting_of c) M → (M.node from).ready e ≡ true → coordinator e ≡ n → e ≤ inst M n
unfolding epochs.coordinator
installed_by c M e from n holds ready own = subst (λ k. e ≤ inst M k) own ((holds.epoch e).counted_installed ((holds.node from).ready_counted e ready))

late_phase : (p : Phase) → is_over p ≡ false → (IsBefore p → ⊥) → p ≡ Installing
late_phase Collecting live f = absurd (f tt)
late_phase Choosing live f = absurd (f tt)
late_phase SeizingVotes live f = absurd (f tt)
late_phase SeizingOthers live f = absurd (f tt)
late_phase Installing live f = refl
late_phase Over live f = absurd (false_true (sym live))

-- ---- what comes

-- what is no packet comes to node n
plainly : (c : Cluster) (s : Scene) (n : ℕ) (i : Input) → ((x : UpNode) (a : AttemptState) (I : AttemptState → Type 0) → I a → Comes I c n x a i) → Knows c s → AllHave s.nodes s.moments → Comes_to c n i s.nodes s.moments
plainly c s n i f k h = record {
  here = λ now ends x a up has.
      let I : AttemptState → Type 0 = Has_of a.plan.epoch (CameIn a.plan.epoch s.moments) in
      step_has I c n now ends x a (s.nodes.disk n) i (λ b q may. call_has a.plan.epoch (CameIn a.plan.epoch s.moments) b q may) has (none_at c s n x a k up has) (f x a I (h n x a up has));
  there = λ j x a ne up has. h j x a up has;
}

still_comes : (e : ℕ) (Due : ℕ → Type 0) (a : AttemptState) (from : ℕ) (m : Message) (b : Body) → Has_of e Due a → ComesBody (Has_of e Due) a from m b
still_comes e Due a from m (body.Promise f newest members valid flagged committed pending) h = call_has e Due a (Take from m) tt h
still_comes e Due a from m _ h = h

-- a packet comes to node n
packet_in : (c : Cluster) (s : Scene) (number : ℕ) (x : Packet) (m : Message) → packet_of s.links.packets number ≡ Some x → whole_of x.bytes ≡ Some m → IsAmong x.from m.body s.nodes.sent
    → false ≡ is_foreign_to c x.to (s.nodes.node x.to) m.body → Known c s → AllHave s.nodes s.moments → Comes_to c x.to (input.Packet x.from m) s.nodes (delivered number x.from x.to ∷ s.moments)
packet_in c s number x m at read among native k h = record { here = here; there = there }
  where
    after : List Moment
    after = delivered number x.from x.to ∷ s.moments

    came : Came after x.to x.from m.body
    came = arrived_kept c s number x m at read k.scened.knows.known

    w : Ways s.nodes s.moments
    w = ways_at c s k.scened.knows

    M : Memberships
    M = k.scened.knows.known.stage.machine

    there : (j : ℕ) (y : UpNode) (a : AttemptState) → j ≢ x.to → s.nodes.node j ≡ Up y → y.attempt ≡ Some a → Has_all after a
    there j y a ne up has =
        same_has s.moments after a (elsewhere a.plan.epoch number x.from x.to s.moments came.letter m.body came.here came.read came.receiver (λ own is. ne (sym (w.own j y a up has) ∙ own))) (h j y a up has)

    here : (now : ℕ) (ends : method.Outcome) (y : UpNode) (a : AttemptState) → s.nodes.node x.to ≡ Up y → y.attempt ≡ Some a
        → IsAt (Has (Has_of a.plan.epoch (CameIn a.plan.epoch after))) (stepped disk_rules c x.to now ends (Up y) (s.nodes.disk x.to) (input.Packet x.from m)).after
    here now ends y a up has = by_value (readies e (Some m.body)) refl
      where
        e : ℕ
        e = a.plan.epoch

        I : AttemptState → Type 0
        I = Has_of e (CameIn e after)

        same : is_foreign c x.to y m.body ≡ false
        same = sym (native ∙ ap (λ z. is_foreign_to c x.to z m.body) up)

        own : coordinator e ≡ x.to
        own = w.own x.to y a up has

        by_value : (b : Bool) → readies e (Some m.body) ≡ b → IsAt (Has I) (stepped disk_rules c x.to now ends (Up y) (s.nodes.disk x.to) (input.Packet x.from m)).after
        by_value true is =
            let low : e ≤ installed_in s.nodes x.to = subst (λ z. e ≤ z) (tied_installed c M x.to (s.nodes.node x.to) (s.nodes.disk x.to).kept (k.scened.knows.known.stage.stands x.to).tied)
            (installed_by c M e x.from x.to k.scened.knows.known.stage.holds (ready_told M e x.from m.body is (among_told M x.from m.body s.nodes.sent among k.scened.knows.known.stage.sent)) own) in
            let phase : a.phase ≡ Installing = late_phase a.phase (k.live x.to y a up has) (λ before. (k.scened.attempts x.to y a up has).early before low) in
            let taken : Has_of e (Or (CameIn e s.moments) x.from) (turn a (Take x.from m)).after = ready_has e (CameIn e s.moments) x.from m a phase (ready_body e m.body is).0 (ready_body e m.body is).1 (h x.to y a up has) in
            step_ready I c x.to now ends y a (s.nodes.disk x.to) x.from m (λ b q may. call_has e (CameIn e after) b q may) has (ready_body e m.body is).0 same
            (taken.0, λ j other due. taken.1 j other (comes_from e number x.from x.to s.moments came.letter came.here came.sender j due))
        by_value false is =
            let kept : I a = same_has s.moments after a (elsewhere e number x.from x.to s.moments came.letter m.body came.here came.read came.receiver (λ at_own of. false_true (sym is ∙ of))) (h x.to y a up has) in
            step_has I c x.to now ends y a (s.nodes.disk x.to) (input.Packet x.from m) (λ b q may. call_has e (CameIn e after) b q may) has (none_at c s x.to y a k.scened.knows up has) (still_comes e (CameIn e after) a x.from m m.body kept, same)

-- ---- each thing that happens

speaks_in : (c : Cluster) (e : Event) (s : Scene) → (let t : Scene = armed_by c e (adding (Said (line.Event e)) s) in Ways t.nodes t.moments → AllHave s.nodes s.moments → AllHave t.nodes t.moments)
speaks_in c (event.Fault n d done) s w h = still s.nodes s.moments _ w (follows_one (Said (line.Event (event.Fault n d done))) s.moments refl) h
speaks_in c (event.CrashAt n calls choice) s w h = still (moved c s.nodes (Arms n calls (left_by choice))) s.moments _ w (follows_one (Said (line.Event (event.CrashAt n calls choice))) s.moments refl) h
speaks_in c e s w h = still s.nodes s.moments _ w (follows_one (Said (line.Event e)) s.moments refl) h

commanded_so : (P : Nodes → List Moment → Type 0) (s : Scene) (n d : ℕ) (o : Option Device) (k : PrCommand) → P s.nodes s.moments → P (commanded_at s n d o k).scene.nodes (commanded_at s n d o k).scene.moments
commanded_so P s n d None k h = h
commanded_so P s n d (Some x) k h = h

copied_in : (number : ℕ) (o : net.Outcome) (s : Scene) → (let t : Scene = dropped_so o.sent.dropped (telling (entry.Packet (packet.Repeated number s.links.next)) (with_links s o.after)) in Ways t.nodes t.moments → AllHave s.nodes s.moments → AllHave t.nodes t.moments)
copied_in number o s u h =
    let q : Scene = telling (entry.Packet (packet.Repeated number s.links.next)) (with_links s o.after) in
    let t : Scene = dropped_so o.sent.dropped q in
    let same : t.nodes ≡ s.nodes = dropped_nodes o.sent.dropped q in
    subst (λ v. AllHave v t.moments) (sym same) (still s.nodes s.moments t.moments (subst (λ v. Ways v t.moments) same u) (copied_follows number o s) h)
  where
    dropped_nodes : (drop : Option (ℕ × DropCause)) (z : Scene) → (dropped_so drop z).nodes ≡ z.nodes
    dropped_nodes None z = refl
    dropped_nodes (Some x) z = refl

happening_in : (c : Cluster) (s : Scene) (x : Happening) → MayHappen c s x → TellsHere c s (λ before. false) x → Known c s → Ways (happened c s x).nodes (happened c s x).moments → AllHave s.nodes s.moments → AllHave (happened c s x).nodes (happened c s x).moments
happening_in c s (Speaks e) may native k u h = speaks_in c e s u h
happening_in c s (Begins e) may native k u h = still s.nodes s.moments _ u (follows_one (Part e) s.moments refl) h
happening_in c s (Notes e) may native k u h = still s.nodes s.moments _ u (follows_one (Told (entry.Schedule e)) s.moments refl) h
happening_in c s (Takes_plain n now ends i) may native k u h =
    taking_has c n now ends i s (ways_at c s k.scened.knows) u (plainly c s n i (λ x a I here. plain_comes I c n x a i may.1 here) k.scened.knows h)
happening_in c s (Arrives number x m now ends) may native k u h =
    let w : Ways s.nodes s.moments = ways_at c s k.scened.knows in
    let t : Scene = telling (entry.Packet (packet.Delivered number x.from x.to)) (removed s number) in
    taking_has c x.to now ends (input.Packet x.from m) t (record { theirs = w.theirs; own = w.own }) u (packet_in c s number x m may.0 may.1 may.4 native k h)
happening_in c s (Strays number x) may native k u h = absurd (no_stray c s number x may.0 may.1 k.scened.knows.known k.scened.knows.spelled)
happening_in c s (Misses number x) may native k u h = still s.nodes s.moments _ u (follows_one (Told (entry.Packet (packet.Dropped number drop.Down))) s.moments refl) h
happening_in c s (Loses number x) may native k u h = still s.nodes s.moments _ u (follows_one (Told (entry.Packet (packet.Lost number))) s.moments refl) h
happening_in c s (Repeats number x) may native k u h = copied_in number (sending s.links x.from x.to x.bytes) s u h
happening_in c s (Commands n d q now ends) may native k u h =
    let o : Option Device = slice_get s.devices (d - 1) in
    let i : Input = input.Answered (commanded s n d q).answer in
    taking_has c n now ends i (commanded s n d q).scene (commanded_so Ways s n d o q (ways_at c s k.scened.knows)) u (commanded_so (Comes_to c n i) s n d o q (plainly c s n i (λ x a I here. here) k.scened.knows h))
happening_in c s (Writes n d value now ends) may native k u h =
    let o : Option Device = slice_get s.devices (d - 1) in
    let q : PrCommand = command.Write value in
    let i : Input = input.Wrote d value (commanded s n d q).answer in
    taking_has c n now ends i (commanded s n d q).scene (commanded_so Ways s n d o q (ways_at c s k.scened.knows)) u (commanded_so (Comes_to c n i) s n d o q (plainly c s n i (λ x a I here. here) k.scened.knows h))
happening_in c s (Refuses n d value why) may native k u h = still s.nodes s.moments _ u (follows_one (Told (entry.Device (device.Refused n d value why))) s.moments refl) h

-- ---- runs

run_on : (h : Header) (cells : ℕ) (s : Scene) (hs : List Happening) → IsSmall h → IsReached h cells s → MayAllHappen (first_cluster h) s hs → NoneForeign (first_cluster h) s hs → AllHave s.nodes s.moments
    → AllHave (all_happened (first_cluster h) s hs).nodes (all_happened (first_cluster h) s hs).moments
run_on h cells s [] size at may native so = so
run_on h cells s (x ∷ hs) size at may native so =
    let c : Cluster = first_cluster h in
    let more : IsReached h cells (happened c s x) = reached_more c (first_scene h cells) s x at may.0 in
    run_on h cells (happened c s x) hs size more may.1 native.1 (happening_in c s x may.0 native.0 (known_of h cells s size at) (ways_at c (happened c s x) (knows_at h cells (happened c s x) size more)) so)

none_up : (x : UpNode) → Down ≡ Up x → ⊥
none_up x is = subst (IsAt (λ y. ⊥)) is tt

first_have : (h : Header) (cells : ℕ) → AllHave (first_scene h cells).nodes (first_scene h cells).moments
unfolding first_scene
first_have h cells n x a up has = absurd (none_up x up)

pub run_readied : (h : Header) (cells : ℕ) (hs : List Happening) → IsSmall h → MayAllHappen (first_cluster h) (first_scene h cells) hs → NoneForeign (first_cluster h) (first_scene h cells) hs
    → (let s : Scene = all_happened (first_cluster h) (first_scene h cells) hs in AllHave s.nodes s.moments)
run_readied h cells hs size may native = run_on h cells (first_scene h cells) hs size (record { happenings = []; may = tt; is = refl }) may native (first_have h cells)
