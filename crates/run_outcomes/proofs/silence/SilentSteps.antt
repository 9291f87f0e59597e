-- Each step in which an attempt ends for want of an answer is a tick of its coordinator, and only beats come before the end.
use Rattle.std.specs.Prelude.{ℕ, ◌-◌, ◌++◌, ◌&&◌, ◌≡◌, ◌≤◌, ◌⊎◌, nat_le, All, Bool, true, false, List, [], ◌∷◌, Option, None, Some, slice_get}
use Rattle.std.specs.List.{AllByRecursion}
use Rattle.std.proofs.Common.{arith, refl, sym, ap, subst, ◌∙◌, inl, inr}
use Rattle.attempt_laws.specs.Machine.{is_member}
use Rattle.cl_base.specs.Sets.{has}
use Rattle.cl_base.specs.declared.method.Outcome as method
use Rattle.cl_base.specs.declared.packet.DropCause.{DropCause}
use Rattle.cmm_attempt.proofs.Basics.{false_true}
use Rattle.cmm_attempt.specs.Attempts.{AttemptState, is_over}
use Rattle.cmm_attempt.specs.Calls.{IsDevice}
use Rattle.history.specs.Moment.{Moment, Part, Said, Told}
use Rattle.history.specs.Setting.{coordinator}
use Rattle.history.specs.Trace.{delivered, ended_silent, ticked}
use Rattle.interconnect.specs.Links as net
use Rattle.interconnect.specs.Links.{sending}
use Rattle.membership_machine.specs.State.{Memberships}
use Rattle.node_model.specs.Attempts.{is_choosing}
use Rattle.node_model.specs.Seats.{promised_of, state_of}
use Rattle.node_model.specs.Steps.{Outcome, at_second, stepped}
use Rattle.node_model.specs.Ticks.{later}
use Rattle.node_model.specs.declared.cluster.Cluster.{Cluster}
use Rattle.node_model.specs.declared.input.Input.{Input}
use Rattle.node_model.specs.declared.input.Input.TheVariants as input
use Rattle.node_model.specs.declared.node.Node.{Node}
use Rattle.node_model.specs.declared.node.Node.TheVariants.{Down, Up}
use Rattle.node_model.specs.declared.node.UpNode.{UpNode}
use Rattle.node_model.specs.declared.output.Output.{Output}
use Rattle.node_model.specs.declared.output.Output.TheVariants.{Tells}
use Rattle.pgr_device.specs.Device.{Device}
use Rattle.pgr_device.specs.declared.command.PrCommand.{PrCommand}
use Rattle.pgr_device.specs.declared.command.PrCommand.TheVariants as command
use Rattle.record_disk.specs.Disks.{DiskState}
use Rattle.refinement.proofs.Changes.{Sees, sees}
use Rattle.refinement.proofs.Disks.{disks_keep_rules}
use Rattle.refinement.proofs.Facts.{step_may}
use Rattle.refinement.proofs.Handlers.{delivered_by}
use Rattle.refinement.specs.Courses.{Course, joined, under}
use Rattle.refinement.specs.Cuts as cuts
use Rattle.refinement.specs.Cuts.{doings}
use Rattle.refinement.specs.Doings.{Doing, Site, site}
use Rattle.refinement.specs.Guards.{MayAll}
use Rattle.refinement.specs.Runs.{IsAmong, Letter as Sent, Nodes, moved}
use Rattle.refinement.specs.Runs.Move.{Takes as Takes_in}
use Rattle.refinement.specs.Steps.{disk_rules}
use Rattle.refinement.specs.Facts.{JoinsIn}
use Rattle.refinement.specs.Ties.{InstallTold, MessageTold, NodeTied}
use Rattle.run_attempts.proofs.Views.{tick_so, under_so}
use Rattle.run_attempts.proofs.endings.Courses.{BoundsIn, doings_fit}
use Rattle.run_attempts.proofs.endings.Once.{doings_once}
use Rattle.run_attempts.specs.endings.Once.{AllOnce}
use Rattle.run_attempts.specs.endings.Steps.{AllFit, ticks_in}
use Rattle.run_history.proofs.Courses.{doings_so}
use Rattle.run_history.specs.Happenings.{Happening, IsPlain, MayHappen, armed_by, commanded, commanded_at, given_by, happened, removed, taking}
use Rattle.run_history.specs.Happenings.Happening.{Arrives, Begins, Commands, Loses, Misses, Notes, Refuses, Repeats, Speaks, Strays, Takes, Writes}
use Rattle.run_history.specs.Scenes.{Scene, adding, dropped_so, passing, telling, with_links}
use Rattle.run_messages.proofs.records.Replies.{CutSo, steps_are_cut_so}
use Rattle.run_messages.specs.records.Kept.{KnownScene}
use Rattle.run_lines.proofs.Adds.{onto}
use Rattle.schedule_text.specs.declared.event.Event.{Event}
use Rattle.schedule_text.specs.declared.event.Event.TheVariants as event
use Rattle.schedule_text.specs.declared.line.Line.TheVariants as line
use Rattle.status_report.specs.declared.attempt_entry.AttemptEntry.TheVariants as attempt
use Rattle.status_report.specs.declared.entry.Entry.TheVariants as entry
use Rattle.status_report.specs.declared.node_entry.NodeEntry.TheVariants as note
use Rattle.status_report.specs.declared.packet_entry.PacketEntry.TheVariants as packet
use Rattle.wire.specs.declared.message.Body.{Body}
use Rattle.wire.specs.declared.message.Body.TheVariants as body
use Rattle.wire.specs.declared.message.Install.{Install}
use Rattle.wire.specs.declared.message.Message.{Message}
use Rattle.run_history.proofs.Idle.{passing_append}
use Rattle.run_outcomes.specs.phases.Laws.{HasAttempt}
use Rattle.run_outcomes.specs.silence.Beats.{AllBehind, Behind, IsBeat, StepBehind}
use Rattle.run_outcomes.proofs.silence.Beating.{Silences, tick_shape}
use Rattle.run_outcomes.proofs.silence.Fresh.{FreshAt, fresh_else}
use Rattle.run_outcomes.proofs.silence.GivenLines.{Lined, NoEnd, append_behind, beats_lined, last_behind, mute_lined, none_behind, onto_both}
use Rattle.run_outcomes.proofs.silence.Mute.{AllElse, AreMute, all_else, all_mute}
use Rattle.run_outcomes.proofs.silence.TickSteps.{up_has}

-- ---- what is known of a scene

pub record Ready (c : Cluster) (s : Scene) : Type 0 where
  pub known : KnownScene c s
  pub devices : All IsDevice c.attached
  pub alone : (n : ℕ) (x : UpNode) (a : AttemptState) → s.nodes.node n ≡ Up x → x.attempt ≡ Some a → x.presidency ≡ None
  pub live : (n : ℕ) (a : AttemptState) → HasAttempt s n a → is_over a.phase ≡ false
  pub rests : (n : ℕ) (x : UpNode) (a : AttemptState) → s.nodes.node n ≡ Up x → x.attempt ≡ Some a → is_choosing a.phase ≡ false
  pub own : (n : ℕ) (x : UpNode) (a : AttemptState) → s.nodes.node n ≡ Up x → x.attempt ≡ Some a → coordinator a.plan.epoch ≡ n

-- ---- what a node gives, by its doings

else_mute : (c : Cluster) (v : Nodes) (n now : ℕ) (ends : method.Outcome) (i : Input)
    → ((cut : CutSo disk_rules c n now ends (v.node n) (v.disk n) i [] (stepped disk_rules c n now ends (v.node n) (v.disk n) i)) → AllElse (doings c n now ends cut.replies i (v.node n))) → AreMute (given_by c n now ends i v)
else_mute c v n now ends i else =
    let o : Outcome DiskState = stepped disk_rules c n now ends (v.node n) (v.disk n) i in
    let cut : CutSo disk_rules c n now ends (v.node n) (v.disk n) i [] o = steps_are_cut_so disk_rules disks_keep_rules c n now ends (v.node n) (v.disk n) i in
    let x : Site = site (v.node n) (v.disk n).kept in
    let ds : List Doing = doings c n now ends cut.replies i (v.node n) in
    subst (λ os. AreMute os) cut.comes.given (all_mute c n x ds (doings_so c n now ends cut.replies i (v.node n)) (else cut))

-- with no tick
untimed_mute : (c : Cluster) (v : Nodes) (n now : ℕ) (ends : method.Outcome) (i : Input) → ticks_in i ≡ false → BoundsIn n (v.node n) i → AreMute (given_by c n now ends i v)
untimed_mute c v n now ends i none bounds =
    else_mute c v n now ends i (λ cut.
    let x : Site = site (v.node n) (v.disk n).kept in
    let ds : List Doing = doings c n now ends cut.replies i (v.node n) in
    all_else c n (delivered_by i) x ds (subst (λ t. AllFit c n (delivered_by i) t x ds) none (doings_fit c n now ends cut.replies i (v.disk n).kept (v.node n) bounds)))

-- in a tick, with no attempt before it
begun_mute : (c : Cluster) (s : Scene) (n now : ℕ) (ends : method.Outcome) (x : UpNode) → n ≤ 32 → Ready c s → s.nodes.node n ≡ Up x → x.attempt ≡ None → AreMute (stepped disk_rules c n now ends (Up x) (s.nodes.disk n) input.Tick).given
begun_mute c s n now ends x high k up none =
    let disk : DiskState = s.nodes.disk n in
    let o : Outcome DiskState = stepped disk_rules c n now ends (Up x) disk input.Tick in
    let cut : CutSo disk_rules c n now ends (Up x) disk input.Tick [] o = steps_are_cut_so disk_rules disks_keep_rules c n now ends (Up x) disk input.Tick in
    let z : Site = site (Up x) disk.kept in
    let ds : List Doing = doings c n now ends cut.replies input.Tick (Up x) in
    let w : UpNode = at_second now x in
    let y : UpNode = later c w in
    let rest : Course = joined c n y (cuts.governing_course c n ends w y) (λ u. cuts.ticked_course c n u u.attempt) in
    let may : MayAll c n None z ds = step_may c k.known.stage.machine n now ends (Up x) disk.kept input.Tick cut.replies high k.devices k.known.stage.holds
    (subst (λ e. NodeTied c k.known.stage.machine n disk.kept e) up (k.known.stage.stands n).tied) (subst JoinsIn up (k.known.stage.stands n).joins) in
    let once : AllOnce false ds = doings_once c n now ends cut.replies input.Tick (Up x) tt in
    let fits : AllFit c n None true z ds = doings_fit c n now ends cut.replies input.Tick disk.kept (Up x) tt in
    let else : AllElse (under cut.replies rest) = fresh_else _ c n None true (site (Up y) disk.kept) (under cut.replies rest) may.1.1 once.1.1 fits.1.1
    (under_so _ c n cut.replies disk.kept y rest (tick_so c n ends w)) (subst (λ a. FreshAt true (Up (record y { attempt = a }))) (sym none) tt) in
    subst (λ os. AreMute os) cut.comes.given (all_mute c n z ds (doings_so c n now ends cut.replies input.Tick (Up x)) (tt, (tt, else)))

-- ---- the lines

mute_step : (c : Cluster) (s u : Scene) (n now : ℕ) (ends : method.Outcome) (i : Input) (older : List Moment) → onto older s.moments ≡ u.moments → AllBehind s [] older → AreMute (given_by c n now ends i u.nodes) → StepBehind s (taking c n now ends i u)
mute_step c s u n now ends i older is all mute =
    let l : Lined (λ x. NoEnd x) u.moments (taking c n now ends i u).moments = mute_lined n (given_by c n now ends i u.nodes) (record u { nodes = moved c u.nodes (Takes_in n now ends i) }) mute in
    record { newer = older ++ l.xs; is = onto_both older l.xs s.moments ∙ (ap (onto l.xs) is ∙ l.is); all = append_behind s [] older l.xs all (none_behind s older l.xs l.are) }

silent_step : (c : Cluster) (s : Scene) (n now : ℕ) (ends : method.Outcome) (x : UpNode) (a : AttemptState) → Ready c s → s.nodes.node n ≡ Up x → x.attempt ≡ Some a → Silences n a (given_by c n now ends input.Tick s.nodes) → StepBehind s (taking c n now ends input.Tick s)
silent_step c s n now ends x a k up has e =
    let u : Scene = record s { nodes = moved c s.nodes (Takes_in n now ends input.Tick) } in
    let first : Scene = telling (entry.Node n note.Ticked) u in
    let last : Output = Tells (entry.Attempt (attempt.Silent a.plan.epoch e.m)) in
    let l : Lined (λ z. IsBeat z) first.moments (passing n e.beats first).moments = beats_lined n e.beats first e.are in
    let own : coordinator a.plan.epoch ≡ n = k.own n x a up has in
    let b : Behind s a.plan.epoch e.m (ticked n ∷ l.xs) = record {
      attempt = a;
      has = subst (λ j. HasAttempt s j a) (sym own) (up_has s n x a up has);
      number = refl;
      least = e.least;
      late = e.late;
      beats = l.xs;
      begins = ap (λ j. ticked j ∷ l.xs) (sym own);
      are = l.are;
    } in
    record {
      newer = ticked n ∷ (l.xs ++ ended_silent a.plan.epoch e.m ∷ []);
      is = onto_both l.xs (ended_silent a.plan.epoch e.m ∷ []) (ticked n ∷ s.moments)
          ∙ (ap (λ ms. ended_silent a.plan.epoch e.m ∷ ms) l.is
          ∙ (ap (λ (z : Scene). z.moments) (sym (passing_append n e.beats (last ∷ []) first)) ∙ ap (λ os. (passing n os u).moments) (sym e.is)));
      all = last_behind s n l.xs (ended_silent a.plan.epoch e.m) l.are b;
    }

-- ---- a tick

tick_step : (c : Cluster) (s : Scene) (n now : ℕ) (ends : method.Outcome) → n ≤ 32 → Ready c s → StepBehind s (taking c n now ends input.Tick s)
tick_step c s n now ends high k = by_node (s.nodes.node n) refl
  where
    mute : AreMute (given_by c n now ends input.Tick s.nodes) → StepBehind s (taking c n now ends input.Tick s)
    mute m = mute_step c s s n now ends input.Tick [] refl tt m

    by_shape : (x : UpNode) (a : AttemptState) → s.nodes.node n ≡ Up x → x.attempt ≡ Some a
        → AreMute (stepped disk_rules c n now ends (Up x) (s.nodes.disk n) input.Tick).given ⊎ Silences n a (stepped disk_rules c n now ends (Up x) (s.nodes.disk n) input.Tick).given → StepBehind s (taking c n now ends input.Tick s)
    by_shape x a up has (inl m) = mute (subst (λ node. AreMute (stepped disk_rules c n now ends node (s.nodes.disk n) input.Tick).given) (sym up) m)
    by_shape x a up has (inr e) = silent_step c s n now ends x a k up has (subst (λ node. Silences n a (stepped disk_rules c n now ends node (s.nodes.disk n) input.Tick).given) (sym up) e)

    by_attempt : (x : UpNode) (o : Option AttemptState) → s.nodes.node n ≡ Up x → x.attempt ≡ o → StepBehind s (taking c n now ends input.Tick s)
    by_attempt x None up has = mute (subst (λ node. AreMute (stepped disk_rules c n now ends node (s.nodes.disk n) input.Tick).given) (sym up) (begun_mute c s n now ends x high k up has))
    by_attempt x (Some a) up has = by_shape x a up has (tick_shape c n ends (at_second now x) a (s.nodes.disk n) (k.alone n x a up has) has (k.live n a (up_has s n x a up has)) (k.rests n x a up has))

    by_node : (node : Node) → s.nodes.node n ≡ node → StepBehind s (taking c n now ends input.Tick s)
    by_node Down is = mute (subst (λ node. AreMute (stepped disk_rules c n now ends node (s.nodes.disk n) input.Tick).given) (sym is) tt)
    by_node (Up x) is = by_attempt x x.attempt is refl

-- ---- what else comes to a node

plain_bounds : (n : ℕ) (node : Node) (i : Input) → IsPlain i → BoundsIn n node i
plain_bounds n Down i plain = tt
plain_bounds n (Up x) (input.Packet from m) plain = absurd plain
plain_bounds n (Up x) input.Boot plain = tt
plain_bounds n (Up x) input.Crash plain = tt
plain_bounds n (Up x) input.Tick plain = tt
plain_bounds n (Up x) input.CommandDue plain = tt
plain_bounds n (Up x) (input.Answered a) plain = tt
plain_bounds n (Up x) (input.Wrote d value a) plain = tt
plain_bounds n (Up x) (input.Commanded words) plain = tt
plain_bounds n (Up x) (input.Reported r good) plain = tt
plain_bounds n (Up x) (input.Client name client port) plain = tt

device_bounds : (n : ℕ) (node : Node) (i : Input) → ((x : UpNode) → BoundsIn n (Up x) i) → BoundsIn n node i
device_bounds n Down i h = tt
device_bounds n (Up x) i h = h x

told_among : (M : Memberships) (from : ℕ) (b : Body) (letters : List Sent) → IsAmong from b letters → AllByRecursion (λ (l : Sent). MessageTold M l.from l.body) letters → MessageTold M from b
told_among M from b [] among told = absurd among
told_among M from b (l ∷ letters) (inl here) told = subst (λ f. MessageTold M f b) here.0 (subst (MessageTold M l.from) here.1 told.0)
told_among M from b (l ∷ letters) (inr there) told = told_among M from b letters there told.1

member_so : (members n : ℕ) → n ≤ 32 → has members n ≡ true → is_member members n ≡ true
member_so members n high is = by_test (nat_le n 32) (most n high) is
  where
    most : (k : ℕ) → k ≤ 32 → nat_le k 32 ≡ true
    most k h = grind arith

    by_test : (t : Bool) → t ≡ true → has members n ≡ true → (t && has members n) ≡ true
    by_test true h k = k
    by_test false h k = absurd (false_true h)

install_bounds : (c : Cluster) (s : Scene) (n from : ℕ) (m : Message) (i : Install) (x : UpNode) → n ≤ 32 → KnownScene c s → s.nodes.node n ≡ Up x → IsAmong from m.body s.nodes.sent → m.body ≡ body.Install i → has i.members n ≡ true → i.epoch ≤ promised_of x
install_bounds c s n from m i x high k up among is member =
    let M : Memberships = k.stage.machine in
    let told : InstallTold M i = subst (MessageTold M from) is (told_among M from m.body s.nodes.sent among k.stage.sent) in
    let tied : NodeTied c M n (s.nodes.disk n).kept (Up x) = subst (NodeTied c M n (s.nodes.disk n).kept) up (k.stage.stands n).tied in
    let sight : Sees M n (s.nodes.disk n).kept (state_of x.seat) = sees c M n (s.nodes.disk n).kept x.attempt x.seat tied.0 in
    subst (λ q. i.epoch ≤ q) sight.promised ((k.stage.holds.node n).answered_promised i.epoch ((k.stage.holds.epoch i.epoch).counted_answered told.counted n (told.members n ∙ member_so i.members n high member)))

packet_bounds : (c : Cluster) (s : Scene) (n from : ℕ) (m : Message) (node : Node) → n ≤ 32 → KnownScene c s → s.nodes.node n ≡ node → IsAmong from m.body s.nodes.sent → BoundsIn n node (input.Packet from m)
packet_bounds c s n from m Down high k at among = tt
packet_bounds c s n from m (Up x) high k at among = λ i is member. install_bounds c s n from m i x high k at among is member

timed : (i : Input) → (ticks_in i ≡ false) ⊎ (i ≡ input.Tick)
timed input.Tick = inr refl
timed _ = inl refl

plain_step : (c : Cluster) (s : Scene) (n now : ℕ) (ends : method.Outcome) (i : Input) → n ≤ 32 → IsPlain i → Ready c s → StepBehind s (taking c n now ends i s)
plain_step c s n now ends i high plain k = by_input (timed i)
  where
    by_input : (ticks_in i ≡ false) ⊎ (i ≡ input.Tick) → StepBehind s (taking c n now ends i s)
    by_input (inl none) = mute_step c s s n now ends i [] refl tt (untimed_mute c s.nodes n now ends i none (plain_bounds n (s.nodes.node n) i plain))
    by_input (inr is) = subst (λ j. StepBehind s (taking c n now ends j s)) (sym is) (tick_step c s n now ends high k)

-- at a device
done_step : (c : Cluster) (s : Scene) (n d now : ℕ) (ends : method.Outcome) (o : Option Device) (q : PrCommand) (i : Input) → ticks_in i ≡ false → ((x : UpNode) → BoundsIn n (Up x) i) → StepBehind s (taking c n now ends i (commanded_at s n d o q).scene)
done_step c s n d now ends None q i none bounds = mute_step c s s n now ends i [] refl tt (untimed_mute c s.nodes n now ends i none (device_bounds n (s.nodes.node n) i bounds))
done_step c s n d now ends (Some x) q i none bounds =
    let u : Scene = (commanded_at s n d (Some x) q).scene in
    mute_step c s u n now ends i [] refl tt (untimed_mute c u.nodes n now ends i none (device_bounds n (u.nodes.node n) i bounds))

-- ---- each thing that happens

one_line : (s t : Scene) (x : Moment) → NoEnd x → t.moments ≡ x ∷ s.moments → StepBehind s t
one_line s t x none is = record { newer = x ∷ []; is = sym is; all = none_behind s [] (x ∷ []) (none, tt) }

armed_step : (c : Cluster) (e : Event) (s : Scene) → StepBehind s (armed_by c e (adding (Said (line.Event e)) s))
armed_step c (event.Fault n d done) s = one_line s _ (Said (line.Event (event.Fault n d done))) tt refl
armed_step c (event.CrashAt n calls choice) s = one_line s _ (Said (line.Event (event.CrashAt n calls choice))) tt refl
armed_step c _ s = one_line s _ _ tt refl

dropped_step : (o : Option (ℕ × DropCause)) (x : Moment) (s u : Scene) → u.moments ≡ x ∷ s.moments → NoEnd x → StepBehind s (dropped_so o u)
dropped_step None x s u is none = one_line s u x none is
dropped_step (Some z) x s u is none =
    let y : Moment = Told (entry.Packet (packet.Dropped z.0 z.1)) in
    record { newer = x ∷ y ∷ []; is = ap (λ ms. y ∷ ms) (sym is); all = none_behind s [] (x ∷ y ∷ []) (none, (tt, tt)) }

pub happening_step : (c : Cluster) (s : Scene) (x : Happening) → MayHappen c s x → Ready c s → StepBehind s (happened c s x)
happening_step c s (Speaks e) may k = armed_step c e s
happening_step c s (Begins e) may k = one_line s _ (Part e) tt refl
happening_step c s (Notes e) may k = one_line s _ (Told (entry.Schedule e)) tt refl
happening_step c s (Takes n now ends i) may k = plain_step c s n now ends i may.0.1 may.1 k
happening_step c s (Arrives number x m now ends) may k =
    let u : Scene = telling (entry.Packet (packet.Delivered number x.from x.to)) (removed s number) in
    mute_step c s u x.to now ends (input.Packet x.from m) (delivered number x.from x.to ∷ []) refl (none_behind s [] (delivered number x.from x.to ∷ []) (tt, tt))
    (untimed_mute c u.nodes x.to now ends (input.Packet x.from m) refl (packet_bounds c s x.to x.from m (s.nodes.node x.to) may.3.1 k.known refl may.4))
happening_step c s (Strays number x) may k = one_line s _ (delivered number x.from x.to) tt refl
happening_step c s (Misses number x) may k = one_line s _ _ tt refl
happening_step c s (Loses number x) may k = one_line s _ _ tt refl
happening_step c s (Repeats number x) may k =
    let o : net.Outcome = sending s.links x.from x.to x.bytes in
    dropped_step o.sent.dropped (Told (entry.Packet (packet.Repeated number s.links.next))) s (telling (entry.Packet (packet.Repeated number s.links.next)) (with_links s o.after)) refl tt
happening_step c s (Commands n d q now ends) may k = done_step c s n d now ends (slice_get s.devices (d - 1)) q (input.Answered (commanded s n d q).answer) refl (λ x. tt)
happening_step c s (Writes n d value now ends) may k = done_step c s n d now ends (slice_get s.devices (d - 1)) (command.Write value) (input.Wrote d value (commanded s n d (command.Write value)).answer) refl (λ x. tt)
happening_step c s (Refuses n d value cause) may k = one_line s _ _ tt refl
