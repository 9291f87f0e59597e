-- In each run a node has installed its session, which another coordinates, exactly where an Install of it came since the node went up.
use Rattle.std.specs.Prelude.{ℕ, ◌-◌, ◌++◌, ◌&&◌, ◌≡◌, not, is_some, false, List, [], ◌∷◌, Option, None, Some, slice_get}
use Rattle.std.proofs.Common.{refl, sym, ap, subst, ◌∙◌}
use Rattle.cl_base.specs.declared.header.Header.{Header}
use Rattle.cl_base.specs.declared.packet.DropCause.{DropCause}
use Rattle.cmm_attempt.proofs.Basics.{false_true, none_some}
use Rattle.history.specs.Contents.{IsSpelled}
use Rattle.history.specs.Letters.{Letter, is_letter, letter_of, reached_since}
use Rattle.history.specs.Member.{number_of}
use Rattle.history.specs.Member as member
use Rattle.history.specs.Messages.{are_same, is_install_of}
use Rattle.history.specs.Moment.{Moment, Said}
use Rattle.history.specs.Names as name
use Rattle.history.specs.Seizing.{is_boot}
use Rattle.history.specs.Trace.{delivered}
use Rattle.interconnect.specs.Links.{Packet, packet_of, sending}
use Rattle.interconnect.specs.Links as links
use Rattle.node_model.specs.Seats.{is_member, session_of}
use Rattle.node_model.specs.declared.cluster.Cluster.{Cluster}
use Rattle.node_model.specs.declared.input.Input.TheVariants as input
use Rattle.node_model.specs.declared.node.UpNode.{UpNode}
use Rattle.node_model.specs.declared.seat.Seat.{Seat}
use Rattle.node_model.specs.declared.seat.Seat.TheVariants.{Forming, Member}
use Rattle.pgr_device.specs.Device.{Device}
use Rattle.pgr_device.specs.declared.command.PrCommand.{PrCommand}
use Rattle.pgr_device.specs.declared.command.PrCommand.TheVariants as command
use Rattle.run_history.specs.Happenings.{Happening, MayAllHappen, MayHappen, all_happened, armed_by, commanded, commanded_at, happened, removed, Commanded}
use Rattle.run_history.specs.Happenings.Happening.{Arrives, Begins, Commands, Loses, Misses, Notes, Refuses, Repeats, Speaks, Strays, Takes, Writes}
use Rattle.run_history.specs.Scenes.{Scene, adding, dropped_so, first_scene, telling, with_links}
use Rattle.run_history.specs.Stages.{Sized, Stage}
use Rattle.run_messages.proofs.Reaching.{IsReached, IsSmall, stage_of, taking_good}
use Rattle.run_messages.proofs.records.Sizes.{header_sized}
use Rattle.run_messages.specs.Laws.{IsSeated, membership_in}
use Rattle.run_packets.proofs.replies.Delivered.{Known, known_of, OfLine, letter_bytes, line_of}
use Rattle.run_packets.specs.views.Laws.{NoneForeign, TellsHere}
use Rattle.run_seizings.proofs.Moments.{plain_sent}
use Rattle.run_seizings.proofs.Steps.{Ground, ground_of}
use Rattle.run_seizings.specs.Sites.{UpIn, UpSo}
use Rattle.schedule_text.specs.declared.event.Event.{Event}
use Rattle.schedule_text.specs.declared.event.Event.TheVariants as event
use Rattle.schedule_text.specs.declared.line.Line.TheVariants as line
use Rattle.status_report.specs.declared.entry.Entry.TheVariants as entry
use Rattle.status_report.specs.declared.packet_entry.PacketEntry.TheVariants as packet
use Rattle.wire.proofs.Messages.{whole_again}
use Rattle.wire.specs.Reads.{whole_of}
use Rattle.world_model.specs.First.{first_cluster}
use Rattle.run_outcomes.proofs.installed.Arriving.{none_ready, others_then, packet_ready, plain_none}
use Rattle.run_outcomes.proofs.installed.Lines.{none_come}
use Rattle.run_outcomes.proofs.installed.Taking.{AllInstalled, SoAt, came_so, taking_installed}
use Rattle.run_outcomes.proofs.others.Ends.{last_may}
use Rattle.run_outcomes.proofs.others.Native.{last_native}
use Rattle.run_outcomes.proofs.own_tasks.Grounds.{seizing_at}
use Rattle.run_outcomes.proofs.told_tasks.Prefixes.{by_last, happened_last, may_before, native_before}
use Rattle.run_outcomes.specs.reports.Installs.{InstallsSo, has_come}
use Rattle.run_outcomes.specs.reports.Laws.{InstallsHaveCome}

-- ---- each thing that happens

armed_installed : (c : Cluster) (e : Event) (s : Scene) → AllInstalled s → AllInstalled (armed_by c e s)
armed_installed c (event.CrashAt n calls choice) s k = k
armed_installed c (event.Fault n d done) s k = k
armed_installed c _ s k = k

dropped_installed : (o : Option (ℕ × DropCause)) (s : Scene) → AllInstalled s → AllInstalled (dropped_so o s)
dropped_installed None s k = k
dropped_installed (Some drop) s k = k

-- what a command at a device leaves
record Left (c : Cluster) (s : Scene) (o : Commanded) : Type 0 where
  so : AllInstalled o.scene
  ground : Ground c o.scene.nodes

left_at : (c : Cluster) (s : Scene) (n d : ℕ) (k : PrCommand) (o : Option Device) → Ground c s.nodes → AllInstalled s → Left c s (commanded_at s n d o k)
left_at c s n d k None g z = record { so = z; ground = g }
left_at c s n d k (Some x) g z = record { so = z; ground = g }

-- a packet that holds no message has no letter
strayed_installed : (c : Cluster) (s : Scene) (number : ℕ) (x : Packet) → Known c s → packet_of s.links.packets number ≡ Some x → whole_of x.bytes ≡ None → AllInstalled s
    → AllInstalled (telling (entry.Packet (packet.Delivered number x.from x.to)) (removed s number))
strayed_installed c s number x known at none k n =
    came_so n (λ e. has_come n e s.moments) (λ e. has_come n e (delivered number x.from x.to ∷ s.moments)) (s.nodes.node n)
    (λ e. none_come n e number x.from x.to s.moments (λ l found. absurd (no_letter l found))) (k n)
  where
    no_letter : (l : Letter) → letter_of number s.moments ≡ Some l → ⊥
    no_letter l found =
        let line : OfLine IsSpelled l = line_of IsSpelled number s.moments l known.spelled found in
        none_some line.line_so.message
        (sym (ap whole_of (letter_bytes s number x l known.bytes at found) ∙ none) ∙ (ap whole_of (sym line.line_so.spelled) ∙ whole_again line.line_so.message line.line_so.fits))

happening_installed : (h : Header) (s : Scene) (x : Happening) → MayHappen (first_cluster h) s x → TellsHere (first_cluster h) s (λ before. false) x → Sized (first_cluster h) → Known (first_cluster h) s → Stage (first_cluster h) (happened (first_cluster h) s x)
    → AllInstalled s → AllInstalled (happened (first_cluster h) s x)
happening_installed h s (Speaks e) may native sized known more k = armed_installed (first_cluster h) e (adding (Said (line.Event e)) s) k
happening_installed h s (Begins e) may native sized known more k = k
happening_installed h s (Notes e) may native sized known more k = k
happening_installed h s (Takes n now ends i) may native sized known more k =
    let c : Cluster = first_cluster h in
    taking_installed c n now ends i s sized (ground_of c s known.stage) may.0 (plain_sent s.nodes i may.1) (taking_good c s n now ends i more)
    (none_ready c n now ends i s (s.nodes.node n) (plain_none i may.1) (k n)) (λ j ne. k j)
happening_installed h s (Arrives number x m now ends) may native sized known more k =
    let c : Cluster = first_cluster h in
    let t : Scene = telling (entry.Packet (packet.Delivered number x.from x.to)) (removed s number) in
    taking_installed c x.to now ends (input.Packet x.from m) t sized (ground_of c s known.stage) may.3 may.4 (taking_good c t x.to now ends (input.Packet x.from m) more)
    (packet_ready c s number now ends x m (s.nodes.node x.to) known.stage may.3 may.4 refl may.0 may.1 native (k x.to)) (λ j ne. others_then c s number x m known.stage may.0 may.1 j ne (k j))
happening_installed h s (Strays number x) may native sized known more k = strayed_installed (first_cluster h) s number x known may.0 may.1 k
happening_installed h s (Misses number x) may native sized known more k = k
happening_installed h s (Loses number x) may native sized known more k = k
happening_installed h s (Repeats number x) may native sized known more k =
    let o : links.Outcome = sending s.links x.from x.to x.bytes in
    dropped_installed o.sent.dropped (telling (entry.Packet (packet.Repeated number s.links.next)) (with_links s o.after)) k
happening_installed h s (Commands n d q now ends) may native sized known more k =
    let c : Cluster = first_cluster h in
    let o : Commanded = commanded s n d q in
    let l : Left c s o = left_at c s n d q (slice_get s.devices (d - 1)) (ground_of c s known.stage) k in
    taking_installed c n now ends (input.Answered o.answer) o.scene sized l.ground may.0 tt (taking_good c o.scene n now ends (input.Answered o.answer) more)
    (none_ready c n now ends (input.Answered o.answer) o.scene (o.scene.nodes.node n) refl (l.so n)) (λ j ne. l.so j)
happening_installed h s (Writes n d value now ends) may native sized known more k =
    let c : Cluster = first_cluster h in
    let o : Commanded = commanded s n d (command.Write value) in
    let l : Left c s o = left_at c s n d (command.Write value) (slice_get s.devices (d - 1)) (ground_of c s known.stage) k in
    taking_installed c n now ends (input.Wrote d value o.answer) o.scene sized l.ground may.0 tt (taking_good c o.scene n now ends (input.Wrote d value o.answer) more)
    (none_ready c n now ends (input.Wrote d value o.answer) o.scene (o.scene.nodes.node n) refl (l.so n)) (λ j ne. l.so j)
happening_installed h s (Refuses n d value cause) may native sized known more k = k

-- ---- runs

first_installed : (h : Header) (cells : ℕ) → AllInstalled (first_scene h cells)
unfolding first_scene
first_installed h cells n = tt

all_installed : (h : Header) (cells : ℕ) (hs : List Happening) → IsSmall h → MayAllHappen (first_cluster h) (first_scene h cells) hs → NoneForeign (first_cluster h) (first_scene h cells) hs
    → AllInstalled (all_happened (first_cluster h) (first_scene h cells) hs)
all_installed h cells hs size = by_last P (λ may native. first_installed h cells) next hs
  where
    c : Cluster
    c = first_cluster h

    first : Scene
    first = first_scene h cells

    P : List Happening → Type 0
    P xs = MayAllHappen c first xs → NoneForeign c first xs → AllInstalled (all_happened c first xs)

    next : (xs : List Happening) (x : Happening) → P xs → P (xs ++ x ∷ [])
    next xs x k may native =
        let s : Scene = all_happened c first xs in
        let before : MayAllHappen c first xs = may_before c first xs (x ∷ []) may in
        let same : all_happened c first (xs ++ x ∷ []) ≡ happened c s x = happened_last c first xs x in
        subst AllInstalled (sym same)
        (happening_installed h s x (last_may c first xs x may) (last_native c first xs x native) (header_sized h size.few size.small)
        (known_of h cells size s (record { happenings = xs; may = before; is = refl }))
        (stage_of h cells (happened c s x) size (record { happenings = xs ++ x ∷ []; may = may; is = same })) (k before (native_before c first xs (x ∷ []) native)))

-- ---- as `history` has it

-- where its session is told, and it is no member
same_test : (n e : ℕ) (ms : List Moment) (o p : Option ℕ) → o ≡ Some e → p ≡ None
    → reached_since (is_boot n) (λ l. is_letter name.Install l.from n l && (are_same o (number_of l) && not (is_some p))) ms ≡ has_come n e ms
same_test n e ms o p session none =
    ap (λ z. reached_since (is_boot n) (λ l. is_letter name.Install l.from n l && (are_same z (number_of l) && not (is_some p))) ms) session
    ∙ ap (λ z. reached_since (is_boot n) (λ l. is_letter name.Install l.from n l && (are_same (Some e) (number_of l) && not (is_some z))) ms) none

no_member : (x : UpNode) → is_member x.seat ≡ false → membership_in x.seat ≡ None
no_member x off = by_seat x.seat off
  where
    by_seat : (seat : Seat) → is_member seat ≡ false → membership_in seat ≡ None
    by_seat (Forming s) is = refl
    by_seat (Member s) is = absurd (false_true (sym is))

pub installs_have_come : InstallsHaveCome
installs_have_come h cells hs last few small disks may shaped native n x at off some other =
    let s : Scene = all_happened (first_cluster h) (first_scene h cells) hs in
    let size : IsSmall h = record { few = few; small = small } in
    let r : IsReached h cells s = record { happenings = hs; may = may; is = refl } in
    let so : InstallsSo (λ e. has_come n e s.moments) n x = subst (SoAt n s.moments) at (all_installed h cells hs size may native n) in
    let up : UpSo h s.moments n x = subst (UpIn h s.moments n) at ((seizing_at h cells s size r).sites n).up in
    let none : member.member_of n s.moments ≡ None = subst (IsSeated s.moments n) at ((known_of h cells size s r).seated n) ∙ no_member x off in
    let same : reached_since (is_boot n) (is_install_of n s.moments) s.moments ≡ has_come n (session_of x) s.moments =
    same_test n (session_of x) s.moments (member.session_of n s.moments) (member.member_of n s.moments) (up.session some) none in
    ((λ came. so.forth some other (sym same ∙ came)), (λ installed. same ∙ so.back some other installed))
