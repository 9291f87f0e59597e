-- In each run each attempt that its coordinator has installed has sent its Installs.
use Rattle.std.specs.Prelude.{ℕ, ◌+◌, ◌-◌, ◌^◌, ◌≡◌, ◌≤◌, List, [], ◌∷◌, Option, None, Some, length, slice_get}
use Rattle.std.specs.List.{AllByRecursion}
use Rattle.std.proofs.Common.{arith, refl, sym, subst}
use Rattle.cl_base.specs.Limits.{most_nodes}
use Rattle.cl_base.specs.declared.header.Header.{Header}
use Rattle.cl_base.specs.declared.header.HeaderDevice.{HeaderDevice}
use Rattle.cl_base.specs.declared.method.Outcome as method
use Rattle.cl_base.specs.declared.packet.DropCause.{DropCause}
use Rattle.cmm_attempt.proofs.Basics.{false_true}
use Rattle.cmm_attempt.specs.Attempts.{AttemptState}
use Rattle.history.specs.Moment.{Said}
use Rattle.history.specs.Names as name
use Rattle.history.specs.Trace.{delivered}
use Rattle.interconnect.specs.Links as net
use Rattle.interconnect.specs.Links.{sending}
use Rattle.node_model.specs.Seats.{session_of}
use Rattle.node_model.specs.declared.cluster.Cluster.{Cluster}
use Rattle.node_model.specs.declared.input.Input.{Input}
use Rattle.node_model.specs.declared.input.Input.TheVariants as input
use Rattle.node_model.specs.declared.node.Node.{Node}
use Rattle.node_model.specs.declared.node.Node.TheVariants.{Down, Up}
use Rattle.node_model.specs.declared.node.UpNode.{UpNode}
use Rattle.pgr_device.specs.Device.{Device}
use Rattle.pgr_device.specs.declared.command.PrCommand.{PrCommand}
use Rattle.pgr_device.specs.declared.command.PrCommand.TheVariants as command
use Rattle.refinement.specs.Guards.{OfUp}
use Rattle.run_history.proofs.Reached.{reached_more}
use Rattle.run_history.specs.Happenings.{Happening, MayAllHappen, MayHappen, all_happened, armed_by, commanded, commanded_at, happened, removed, taking}
use Rattle.run_history.specs.Happenings.Happening.{Arrives, Begins, Commands, Loses, Misses, Notes, Refuses, Repeats, Speaks, Strays, Takes, Writes}
use Rattle.run_history.specs.Noted.{LinesTried}
use Rattle.run_history.specs.Scenes.{Scene, adding, dropped_so, first_scene, telling, with_links}
use Rattle.run_history.specs.Sites.{OwnIn}
use Rattle.run_history.specs.Stages.{Stage}
use Rattle.run_history.specs.Wholes.{IsWhole}
use Rattle.run_messages.proofs.Reaching.{IsReached, IsSmall, stage_of}
use Rattle.run_packets.proofs.installs.Known.{Bound, Takeable, arrives_so, bound_at, commands_so, devices_known, first_known, happening_known, takes_so, writes_so}
use Rattle.run_packets.proofs.installs.Mine.{MeIn}
use Rattle.run_packets.proofs.installs.Steps.{node_listed}
use Rattle.run_packets.proofs.installs.Taking.{Stand}
use Rattle.run_packets.proofs.waiting.Numbers.{left_before, sending_next}
use Rattle.run_packets.specs.installs.Passing.{NodeListed}
use Rattle.run_packets.proofs.fits.Runs.{Fitting, first_fits, happening_fits, sized}
use Rattle.run_packets.proofs.fits.Steps.{Grown}
use Rattle.run_packets.proofs.native.Runs.{Known as Bounded, first_named, happening_named, whole_at}
use Rattle.run_packets.specs.admitted.Known.{SceneKnown}
use Rattle.run_packets.specs.native.Laws.{BootsInHeader}
use Rattle.run_packets.specs.native.Named.{SceneNamed}
use Rattle.run_seizings.proofs.Runs.{run_seizes}
use Rattle.run_seizings.specs.Seized.{AttemptIn}
use Rattle.run_seizings.specs.Sites.{UpIn, UpSo}
use Rattle.schedule_text.specs.declared.event.Event.{Event}
use Rattle.schedule_text.specs.declared.event.Event.TheVariants as event
use Rattle.schedule_text.specs.declared.line.Line.TheVariants as line
use Rattle.status_report.specs.declared.entry.Entry.TheVariants as entry
use Rattle.status_report.specs.declared.packet_entry.PacketEntry.TheVariants as packet
use Rattle.world_model.specs.First.{attached_from, first_cluster}
use Rattle.run_outcomes.proofs.asks.Firsts.{coordinator_is}
use Rattle.run_outcomes.proofs.phases.LiveRuns.{none_is_over}
use Rattle.run_outcomes.proofs.phases.Runs.{knows_at, ways_at}
use Rattle.run_outcomes.proofs.silence.Outgoing.{asked_one}
use Rattle.run_outcomes.proofs.silence.Outgone.{Of, Seen, taking_gone}
use Rattle.run_outcomes.proofs.silence.Runs.{run_told}
use Rattle.run_outcomes.specs.silence.Asked.{Query}
use Rattle.run_outcomes.specs.silence.AskedCourses.{to_install}
use Rattle.run_outcomes.specs.silence.Gone.{Outward}
use Rattle.run_outcomes.specs.tasks.AsksGiven.{IsLeft}

-- ---- what is known of a scene

many_attached : (k : ℕ) (ds : List HeaderDevice) → length (attached_from k ds) ≡ length ds
many_attached k [] = refl
many_attached k (d ∷ ds) = omega (arith, many_attached (k + 1) ds)

me_of : (c : Cluster) (s : Scene) (w : IsWhole c s) (n : ℕ) → MeIn n (s.nodes.node n)
me_of c s w n = by_node (s.nodes.node n) (w.sites n).own
  where
    by_node : (node : Node) → OwnIn w.machine n node → MeIn n node
    by_node Down h = tt
    by_node (Up x) h = h.me

stand_of : (h : Header) (s : Scene) → IsSmall h → Bound h s → SceneKnown (first_cluster h) s → Stand h (first_cluster h) s.nodes
stand_of h s size b k = record {
  fits = b.whole.cluster.fits.devices.attached;
  small = subst (λ j. j ≤ 16) (sym (many_attached 1 h.devices)) size.few;
  fixed = devices_known h size;
  ground = record { machine = b.stage.machine; holds = b.stage.holds; stands = b.stage.stands; sent = b.stage.sent; fits = b.stage.fits };
  known = k.nodes;
  mine = me_of (first_cluster h) s b.whole;
}

seen_of : (h : Header) (cells : ℕ) (s : Scene) → IsSmall h → (r : IsReached h cells s) → (let t : Scene = all_happened (first_cluster h) (first_scene h cells) r.happenings in Seen h t)
seen_of h cells s size r = record { ways = ways_at (first_cluster h) t (knows_at h cells t size here); once = (stage_of h cells t size here).laws.once; attempts = attempts }
  where
    t : Scene
    t = all_happened (first_cluster h) (first_scene h cells) r.happenings

    here : IsReached h cells t
    here = record { happenings = r.happenings; may = r.may; is = refl }

    attempts : IsLeft t.links.next → (n : ℕ) (x : UpNode) (a : AttemptState) → t.nodes.node n ≡ Up x → x.attempt ≡ Some a → Of h t.moments n x a
    attempts left n x a up has =
        let seizing : UpSo h t.moments n x = subst (UpIn h t.moments n) up ((run_seizes h cells r.happenings size.few size.small r.may).seizing.sites n).up in
        let q : Query = record { to = 0; called = name.SeizeData 0 } in
        record {
          so = subst (AttemptIn h t.moments n (session_of x)) has seizing.attempt;
          live = none_is_over h cells r.happenings size.few size.small r.may n a (subst (OfUp (λ y. y.attempt ≡ Some a)) (sym up) has);
          coordinates = coordinator_is h cells t size here n x a up has;
          nodes = ((run_told h cells r.happenings size r.may left n x a up has).0 q).sound.nodes;
        }

pub seen_at : (h : Header) (cells : ℕ) (s : Scene) → IsSmall h → IsReached h cells s → Seen h s
seen_at h cells s size r = subst (Seen h) r.is (seen_of h cells s size r)

-- ---- each thing that happens

armed_out : (c : Cluster) (e : Event) (s : Scene) → Outward c (adding (Said (line.Event e)) s) → Outward c (armed_by c e (adding (Said (line.Event e)) s))
armed_out c (event.Fault n d done) s k = record { fine = k.fine; gone = k.gone }
armed_out c (event.CrashAt n calls choice) s k = record { fine = k.fine; gone = k.gone }
armed_out c _ s k = k

dropped_out : (c : Cluster) (o : Option (ℕ × DropCause)) (s : Scene) → Outward c s → Outward c (dropped_so o s)
dropped_out c None s k = k
dropped_out c (Some x) s k = record { fine = k.fine; gone = k.gone }

delivered_out : (c : Cluster) (s : Scene) (number from to : ℕ) → Outward c s → Outward c (telling (entry.Packet (packet.Delivered number from to)) (removed s number))
delivered_out c s number from to k = record { fine = k.fine; gone = λ left e m way inst member. asked_one e (to_install m) (delivered number from to) s.moments refl (k.gone left e m way inst member) }

record Ready (h : Header) (s : Scene) : Type 0 where
  bound : Bound h s
  stand : Stand h (first_cluster h) s.nodes
  tried : LinesTried stand.ground.machine s.moments
  listed : (k : ℕ) → NodeListed s.moments (s.nodes.node k)

done_out : (h : Header) (s : Scene) (n d now : ℕ) (ends : method.Outcome) (o : Option Device) (q : PrCommand) (i : Input) → Takeable h (first_cluster h) (commanded_at s n d o q).scene.nodes n now ends i → Ready h s
    → Grown (first_cluster h) (taking (first_cluster h) n now ends i (commanded_at s n d o q).scene).nodes → Seen h (taking (first_cluster h) n now ends i (commanded_at s n d o q).scene) → Outward (first_cluster h) s
    → Outward (first_cluster h) (taking (first_cluster h) n now ends i (commanded_at s n d o q).scene)
done_out h s n d now ends None q i can r g seen k = taking_gone h (first_cluster h) s n now ends i r.stand can r.tried r.listed g seen k
done_out h s n d now ends (Some x) q i can r g seen k = taking_gone h (first_cluster h) (commanded_at s n d (Some x) q).scene n now ends i r.stand can r.tried r.listed g seen (record { fine = k.fine; gone = k.gone })

happening_out : (h : Header) (s : Scene) (x : Happening) → IsSmall h → MayHappen (first_cluster h) s x → Ready h s → Grown (first_cluster h) (happened (first_cluster h) s x).nodes → Seen h (happened (first_cluster h) s x)
    → Outward (first_cluster h) s → Outward (first_cluster h) (happened (first_cluster h) s x)
happening_out h s (Speaks e) size may r g seen k = armed_out (first_cluster h) e s (record { fine = k.fine; gone = k.gone })
happening_out h s (Begins e) size may r g seen k = record { fine = k.fine; gone = k.gone }
happening_out h s (Notes e) size may r g seen k = record { fine = k.fine; gone = k.gone }
happening_out h s (Takes n now ends i) size may r g seen k = taking_gone h (first_cluster h) s n now ends i r.stand (takes_so h s n now ends i may r.bound) r.tried r.listed g seen k
happening_out h s (Arrives number x m now ends) size may r g seen k =
    let t : Scene = telling (entry.Packet (packet.Delivered number x.from x.to)) (removed s number) in
    taking_gone h (first_cluster h) t x.to now ends (input.Packet x.from m) r.stand (arrives_so h s number x m now ends may r.bound r.stand.known) r.tried r.listed g seen (delivered_out (first_cluster h) s number x.from x.to k)
happening_out h s (Strays number x) size may r g seen k = delivered_out (first_cluster h) s number x.from x.to k
happening_out h s (Misses number x) size may r g seen k = record { fine = k.fine; gone = k.gone }
happening_out h s (Loses number x) size may r g seen k = record { fine = k.fine; gone = k.gone }
happening_out h s (Repeats number x) size may r g seen k =
    let o : net.Outcome = sending s.links x.from x.to x.bytes in
    dropped_out (first_cluster h) o.sent.dropped (telling (entry.Packet (packet.Repeated number s.links.next)) (with_links s o.after))
    (record { fine = k.fine; gone = λ left. k.gone (left_before s.links.next o.after.next (2 ^ 63) (sending_next s.links x.from x.to x.bytes) left) })
happening_out h s (Commands n d q now ends) size may r g seen k =
    done_out h s n d now ends (slice_get s.devices (d - 1)) q (input.Answered (commanded s n d q).answer) (commands_so h s n d q now ends size may r.bound) r g seen k
happening_out h s (Writes n d value now ends) size may r g seen k =
    done_out h s n d now ends (slice_get s.devices (d - 1)) (command.Write value) (input.Wrote d value (commanded s n d (command.Write value)).answer) (writes_so h s n d value now ends may r.bound) r g seen k
happening_out h s (Refuses n d value cause) size may r g seen k = record { fine = k.fine; gone = k.gone }

-- ---- runs

along : (h : Header) (cells : ℕ) (s : Scene) (hs : List Happening) → h.nodes ≤ 32 → IsSmall h → IsReached h cells s → MayAllHappen (first_cluster h) s hs → AllByRecursion (BootsInHeader h) hs → SceneNamed (first_cluster h) s
    → Fitting (first_cluster h) s.nodes s.moments → SceneKnown (first_cluster h) s → Outward (first_cluster h) s → Outward (first_cluster h) (all_happened (first_cluster h) s hs)
unfolding stand_of
along h cells s [] nodes size at may boots named f known k = k
along h cells s (x ∷ hs) nodes size at may boots named f known k =
    let c : Cluster = first_cluster h in
    let stage : Stage c s = stage_of h cells s size at in
    let b : Bound h s = bound_at h cells s size stage at in
    let next : IsReached h cells (happened c s x) = reached_more c (first_scene h cells) s x at may.0 in
    let then : Stage c (happened c s x) = stage_of h cells (happened c s x) size next in
    let w : Bounded h s x = record { stage = stage; whole = whole_at h cells s size at; next = then } in
    let fits : Fitting c (happened c s x).nodes (happened c s x).moments = happening_fits c s x (sized h size) may.0 named f in
    let r : Ready h s = record { bound = b; stand = stand_of h s size b known; tried = b.stage.tried; listed = λ j. node_listed s.moments j (s.nodes.node j) (b.stage.notes j).up } in
    along h cells (happened c s x) hs nodes size next may.1 boots.1 (happening_named h s x nodes size may.0 boots.0 w named) fits (happening_known h s x size may.0 b then known)
    (happening_out h s x size may.0 r fits.grown (seen_at h cells (happened c s x) size next) k)

first_out : (h : Header) (cells : ℕ) → Outward (first_cluster h) (first_scene h cells)
unfolding first_scene
first_out h cells = record { fine = λ k. (tt, tt); gone = λ left e m way inst member. absurd (false_true inst) }

pub installs_went_out : (h : Header) (cells : ℕ) (hs : List Happening) → h.nodes ≤ most_nodes → IsSmall h → MayAllHappen (first_cluster h) (first_scene h cells) hs → AllByRecursion (BootsInHeader h) hs
    → Outward (first_cluster h) (all_happened (first_cluster h) (first_scene h cells) hs)
installs_went_out h cells hs nodes size may boots =
    along h cells (first_scene h cells) hs nodes size (record { happenings = []; may = tt; is = refl }) may boots (first_named h cells) (first_fits h cells size) (first_known h cells size) (first_out h cells)
