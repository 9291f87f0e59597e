-- Each run: a coordinator that installs sends its Install to each other member.
use Rattle.std.specs.Prelude.{ℕ, ◌+◌, ◌-◌, slice_get, Option, None, Some, ◌≡◌, ◌≢◌, ◌≤◌, ◌<◌, nat_le, suc, ◌==◌, ◌&&◌, ◌||◌, ◌^◌, not, nat_lt, Bool, true, false, List, [], ◌∷◌, length}
use Rattle.std.specs.List.{AllByRecursion, list_all, list_any}
use Rattle.std.proofs.Common.{refl, sym, subst, ◌∙◌, inr, arith}
use Rattle.attempt_laws.proofs.Told.{is_among}
use Rattle.cl_base.specs.Limits.{most_devices, most_nodes}
use Rattle.cl_base.specs.Sets.{has}
use Rattle.cl_base.specs.declared.header.Header.{Header}
use Rattle.cl_base.specs.declared.header.HeaderDevice.{HeaderDevice}
use Rattle.cl_base.specs.declared.method.Outcome as method
use Rattle.cmm_attempt.proofs.Basics.{false_true, same_number}
use Rattle.history.specs.Contact.{others}
use Rattle.history.specs.Letters.{sends}
use Rattle.history.specs.Links.{links_after}
use Rattle.history.specs.Member.{members_of}
use Rattle.history.specs.Messages as messages
use Rattle.history.specs.Moment.{Moment, Said}
use Rattle.history.specs.Names as name
use Rattle.history.specs.Order.{EachEvent}
use Rattle.history.specs.Setting.{Setting, coordinator, nodes_of}
use Rattle.history.specs.Trace.{installed}
use Rattle.cl_base.specs.declared.packet.DropCause.{DropCause}
use Rattle.interconnect.specs.Links as net
use Rattle.interconnect.specs.Links.{Links, Packet, sending}
use Rattle.node_model.specs.declared.cluster.Cluster.{Cluster}
use Rattle.node_model.specs.declared.input.Input.{Input}
use Rattle.node_model.specs.declared.input.Input.TheVariants as input
use Rattle.node_model.specs.declared.node.Node.{Node}
use Rattle.node_model.specs.declared.node.Node.TheVariants.{Down, Up}
use Rattle.run_history.specs.Shapes.{IsShaped}
use Rattle.run_history.specs.Sites.{OwnIn}
use Rattle.run_history.specs.Wholes.{IsWhole}
use Rattle.pgr_device.specs.Device.{Device}
use Rattle.pgr_device.specs.declared.command.PrCommand.{PrCommand}
use Rattle.pgr_device.specs.declared.command.PrCommand.TheVariants as command
use Rattle.refinement.specs.Runs.{Nodes}
use Rattle.run_history.proofs.Heard.{in_others}
use Rattle.run_history.proofs.LinksRun.{links_of_each_run}
use Rattle.run_history.proofs.Reached.{reached_more}
use Rattle.run_history.specs.Happenings.{Happening, MayAllHappen, MayHappen, all_happened, armed_by, commanded, commanded_at, happened, removed, taking}
use Rattle.run_history.specs.Happenings.Happening.{Arrives, Begins, Commands, Loses, Misses, Notes, Refuses, Repeats, Speaks, Strays, Takes, Writes}
use Rattle.run_history.specs.Scenes.{Scene, adding, dropped_so, first_scene, telling, with_links}
use Rattle.run_history.specs.Stages.{Stage}
use Rattle.run_lines.proofs.Adds.{onto}
use Rattle.run_messages.proofs.Reaching.{IsReached, IsSmall, stage_of}
use Rattle.run_packets.proofs.fits.Runs.{Fitting, first_fits, happening_fits, sized}
use Rattle.run_packets.proofs.fits.Steps.{Grown}
use Rattle.run_packets.proofs.native.Runs.{Known as Bounded, first_named, happening_named, whole_at}
use Rattle.run_packets.specs.admitted.Known.{SceneKnown}
use Rattle.run_packets.specs.native.Laws.{BootsInHeader}
use Rattle.run_packets.specs.native.Named.{SceneNamed}
use Rattle.schedule_text.specs.declared.event.Event.{Event}
use Rattle.schedule_text.specs.declared.event.Event.TheVariants as event
use Rattle.schedule_text.specs.declared.line.Line.TheVariants as line
use Rattle.status_report.specs.declared.entry.Entry.TheVariants as entry
use Rattle.status_report.specs.declared.packet_entry.PacketEntry.TheVariants as packet
use Rattle.world_model.specs.First.{attached_from, first_cluster}
use Rattle.run_packets.specs.repeats.Events.{AlongRun}
use Rattle.run_packets.specs.waiting.Events.{Way}
use Rattle.run_packets.specs.waiting.Sendings.{IsLeft, IsLeftAfter}
use Rattle.run_packets.specs.installs.Laws.{EachGoesOut, HasInstalls, InstallsOfEachRun, goes_to}
use Rattle.run_packets.specs.installs.Passing.{AllGoOut, IsMember, NoMember, NodeListed, starts_or_fails}
use Rattle.run_packets.proofs.waiting.Events.{each_along_run, events_so}
use Rattle.run_packets.proofs.installs.Known.{Bound, Takeable, arrives_so, bound_at, commands_so, devices_known, first_known, happening_known, takes_so, writes_so}
use Rattle.run_packets.proofs.installs.Attempts.{AreTried}
use Rattle.run_packets.proofs.installs.Mine.{MeIn}
use Rattle.run_packets.proofs.installs.Steps.{Passing, line_passing, node_listed, part_passing, step_passing}
use Rattle.run_packets.proofs.installs.Turns.{any_passing}
use Rattle.run_packets.proofs.installs.Taking.{NodeFine, Stand, lined_of, taken_out}

-- ---- what is known of a scene

record Known (h : Header) (cells : ℕ) (s : Scene) : Type 0 where
  bound : Bound h s
  scene : SceneKnown (first_cluster h) s
  grown : Grown (first_cluster h) s.nodes
  fine : (k : ℕ) → NodeFine (first_cluster h) (s.nodes.node k)
  linked : s.links ≡ links_after cells s.moments

many_attached : (k : ℕ) (ds : List HeaderDevice) → length (attached_from k ds) ≡ length ds
many_attached k [] = refl
many_attached k (d ∷ ds) = omega (arith, many_attached (k + 1) ds)

me_of : (c : Cluster) (s : Scene) (w : IsWhole c s) (n : ℕ) → MeIn n (s.nodes.node n)
me_of c s w n = by_node (s.nodes.node n) (w.sites n).own
  where
    by_node : (node : Node) → OwnIn w.machine n node → MeIn n node
    by_node Down h = tt
    by_node (Up x) h = h.me

stand_of : (h : Header) (s : Scene) → IsSmall h → Bound h s → SceneKnown (first_cluster h) s → Stand h (first_cluster h) s.nodes
stand_of h s size b k = record {
  fits = b.whole.cluster.fits.devices.attached;
  small = subst (λ j. j ≤ 16) (sym (many_attached 1 h.devices)) size.few;
  fixed = devices_known h size;
  ground = record { machine = b.stage.machine; holds = b.stage.holds; stands = b.stage.stands; sent = b.stage.sent; fits = b.stage.fits };
  known = k.nodes;
  mine = me_of (first_cluster h) s b.whole;
}

linked_at : (h : Header) (cells : ℕ) (s : Scene) → IsReached h cells s → s.links ≡ links_after cells s.moments
linked_at h cells s r = subst (λ (t : Scene). t.links ≡ links_after cells t.moments) r.is (links_of_each_run h cells r.happenings r.may).links

-- ---- the attempts of nodes

-- what stood before these moments has its lines in them
record Aware (h : Header) (c : Cluster) (v : Nodes) (ms : List Moment) : Type 0 where
  stand : Stand h c v
  tried : AreTried ms stand.ground.machine
  listed : (k : ℕ) → NodeListed ms (v.node k)

taking_fine : (h : Header) (c : Cluster) (s : Scene) (ms : List Moment) (n now : ℕ) (ends : method.Outcome) (i : Input) → Aware h c s.nodes ms → Takeable h c s.nodes n now ends i → ((k : ℕ) → NodeFine c (s.nodes.node k)) → (k : ℕ)
    → NodeFine c ((taking c n now ends i s).nodes.node k)
taking_fine h c s ms n now ends i z can fine = (taken_out h c s ms n now ends i z.stand can z.tried (λ k. inr (z.listed k)) (λ k. lined_of ms (s.nodes.node k) (z.listed k)) fine).fine

done_fine : (h : Header) (c : Cluster) (s : Scene) (ms : List Moment) (n d now : ℕ) (ends : method.Outcome) (o : Option Device) (q : PrCommand) (i : Input) → Aware h c s.nodes ms → Takeable h c (commanded_at s n d o q).scene.nodes n now ends i
    → ((k : ℕ) → NodeFine c (s.nodes.node k)) → (k : ℕ) → NodeFine c ((taking c n now ends i (commanded_at s n d o q).scene).nodes.node k)
done_fine h c s ms n d now ends None q i z can fine = taking_fine h c s ms n now ends i z can fine
done_fine h c s ms n d now ends (Some x) q i z can fine = taking_fine h c (commanded_at s n d (Some x) q).scene ms n now ends i (record { stand = z.stand; tried = z.tried; listed = z.listed }) can fine

armed_node : (c : Cluster) (s : Scene) (e : Event) (n : ℕ) → (armed_by c e s).nodes.node n ≡ s.nodes.node n
armed_node c s (event.Fault k d done) n = refl
armed_node c s (event.CrashAt k calls choice) n = refl
armed_node c s _ n = refl

dropped_fine : (c : Cluster) (o : Option (ℕ × DropCause)) (s : Scene) → ((k : ℕ) → NodeFine c (s.nodes.node k)) → (k : ℕ) → NodeFine c ((dropped_so o s).nodes.node k)
dropped_fine c None s fine = fine
dropped_fine c (Some x) s fine = fine

happening_fine : (h : Header) (s : Scene) (x : Happening) → IsSmall h → MayHappen (first_cluster h) s x → Bound h s → Aware h (first_cluster h) s.nodes s.moments → ((k : ℕ) → NodeFine (first_cluster h) (s.nodes.node k)) → (k : ℕ)
    → NodeFine (first_cluster h) ((happened (first_cluster h) s x).nodes.node k)
happening_fine h s (Speaks e) size may b z fine k = subst (NodeFine (first_cluster h)) (sym (armed_node (first_cluster h) (adding (Said (line.Event e)) s) e k)) (fine k)
happening_fine h s (Begins e) size may b z fine k = fine k
happening_fine h s (Notes e) size may b z fine k = fine k
happening_fine h s (Takes n now ends i) size may b z fine k = taking_fine h (first_cluster h) s s.moments n now ends i z (takes_so h s n now ends i may b) fine k
happening_fine h s (Arrives number x m now ends) size may b z fine k =
    taking_fine h (first_cluster h) (telling (entry.Packet (packet.Delivered number x.from x.to)) (removed s number)) s.moments x.to now ends (input.Packet x.from m) (record { stand = z.stand; tried = z.tried; listed = z.listed }) (arrives_so h s number x m now ends may b z.stand.known) fine k
happening_fine h s (Strays number x) size may b z fine k = fine k
happening_fine h s (Misses number x) size may b z fine k = fine k
happening_fine h s (Loses number x) size may b z fine k = fine k
happening_fine h s (Repeats number x) size may b z fine k =
    let o : net.Outcome = sending s.links x.from x.to x.bytes in
    dropped_fine (first_cluster h) o.sent.dropped (telling (entry.Packet (packet.Repeated number s.links.next)) (with_links s o.after)) fine k
happening_fine h s (Commands n d q now ends) size may b z fine k =
    done_fine h (first_cluster h) s s.moments n d now ends (slice_get s.devices (d - 1)) q (input.Answered (commanded s n d q).answer) z (commands_so h s n d q now ends size may b) fine k
happening_fine h s (Writes n d value now ends) size may b z fine k =
    done_fine h (first_cluster h) s s.moments n d now ends (slice_get s.devices (d - 1)) (command.Write value) (input.Wrote d value (commanded s n d (command.Write value)).answer) z (writes_so h s n d value now ends may b) fine k
happening_fine h s (Refuses n d value cause) size may b z fine k = fine k

-- ---- along a run

along : (h : Header) (cells : ℕ) (s : Scene) (hs : List Happening) → h.nodes ≤ 32 → IsSmall h → IsReached h cells s → MayAllHappen (first_cluster h) s hs → AllByRecursion (BootsInHeader h) hs → SceneNamed (first_cluster h) s
    → Fitting (first_cluster h) s.nodes s.moments → SceneKnown (first_cluster h) s → ((k : ℕ) → NodeFine (first_cluster h) (s.nodes.node k)) → AlongRun (Known h cells) (first_cluster h) s hs
unfolding stand_of
along h cells s [] nodes size at may boots named f k fine = record { bound = bound_at h cells s size (stage_of h cells s size at) at; scene = k; grown = f.grown; fine = fine; linked = linked_at h cells s at }
along h cells s (x ∷ hs) nodes size at may boots named f k fine =
    let c : Cluster = first_cluster h in
    let stage : Stage c s = stage_of h cells s size at in
    let b : Bound h s = bound_at h cells s size stage at in
    let next : IsReached h cells (happened c s x) = reached_more c (first_scene h cells) s x at may.0 in
    let then : Stage c (happened c s x) = stage_of h cells (happened c s x) size next in
    let w : Bounded h s x = record { stage = stage; whole = whole_at h cells s size at; next = then } in (
      record { bound = b; scene = k; grown = f.grown; fine = fine; linked = linked_at h cells s at },
      along h cells (happened c s x) hs nodes size next may.1 boots.1 (happening_named h s x nodes size may.0 boots.0 w named) (happening_fits c s x (sized h size) may.0 named f) (happening_known h s x size may.0 b then k)
          (happening_fine h s x size may.0 b (record { stand = stand_of h s size b k; tried = b.stage.tried; listed = λ j. node_listed s.moments j (s.nodes.node j) (b.stage.notes j).up }) fine),
    )

first_fine : (h : Header) (cells : ℕ) (k : ℕ) → NodeFine (first_cluster h) ((first_scene h cells).nodes.node k)
unfolding first_scene
first_fine h cells k = (tt, tt)

-- ---- an event ends

or_first : (a b : Bool) → a ≡ true → (a || b) ≡ true
or_first true b h = refl
or_first false b h = absurd (false_true h)

or_later : (a b : Bool) → b ≡ true → (a || b) ≡ true
or_later true b h = refl
or_later false b h = h

both_true : (a b : Bool) → a ≡ true → b ≡ true → (a && b) ≡ true
both_true a b h k = cc

all_true : {X : Type 0} (test : X → Bool) (xs : List X) → AllByRecursion (λ x. test x ≡ true) xs → list_all test xs ≡ true
all_true test [] h = refl
all_true test (x ∷ xs) h = both_true (test x) (list_all test xs) h.0 (all_true test xs h.1)

no_others : (before : List Moment) (e : ℕ) → (length (others e (members_of e before)) == 0) ≡ true → NoMember before e
no_others before e none m member =
    by_list (others e (members_of e before)) none
    (any_passing (λ k. not (k == coordinator e)) (nodes_of (members_of e before)) m (not_same m (coordinator e) member.2) (is_among (members_of e before) most_nodes m ∙ both_true (nat_le m most_nodes) (has (members_of e before) m) (low m member.0) member.1))
  where
    not_same : (a b : ℕ) → a ≢ b → not (a == b) ≡ true
    not_same a b ne = by_test (a == b) refl
      where
        by_test : (t : Bool) → (a == b) ≡ t → not t ≡ true
        by_test true is = absurd (ne (same_number a b is))
        by_test false is = refl

    low : (k : ℕ) → k ≤ most_nodes → nat_le k most_nodes ≡ true
    low k h = grind arith

    by_list : (ns : List ℕ) → (length ns == 0) ≡ true → list_any (λ k. k == m) ns ≡ true → ⊥
    by_list [] none is = false_true is
    by_list (k ∷ ns) none is = false_true (many (length ns) ∙ none)
      where
        many : (j : ℕ) → false ≡ (suc j == 0)
        many j = grind arith

goes_out : (before whole later : List Moment) (n e : ℕ) → ((test : Moment → Bool) → list_any test later ≡ true → list_any test whole ≡ true) → (n ≡ coordinator e → (m : ℕ) → IsMember before e m → list_any (sends n m name.Install) later ≡ true)
    → (not (n == coordinator e) || goes_to n (others e (members_of e before)) whole) ≡ true
goes_out before whole later n e lifts h = by_own (n == coordinator e) refl
  where
    by_own : (own : Bool) → (n == coordinator e) ≡ own → (not own || goes_to n (others e (members_of e before)) whole) ≡ true
    by_own false is = refl
    by_own true is =
        all_true (λ m. list_any (sends n m name.Install) whole) (others e (members_of e before))
        (in_others (λ m. list_any (sends n m name.Install) whole ≡ true) e (members_of e before) most_nodes
        (λ m low member other. lifts (sends n m name.Install) (h (same_number n (coordinator e) is) m (low, member, other))))

-- where it has no other member it starts, or stops, or its disk fails
begins : (before whole later : List Moment) (n e : ℕ) → ((test : Moment → Bool) → list_any test later ≡ true → list_any test whole ≡ true) → (n ≡ coordinator e → NoMember before e → list_any (starts_or_fails n e) later ≡ true)
    → (not (n == coordinator e) || not (length (others e (members_of e before)) == 0) || list_any (starts_or_fails n e) whole) ≡ true
begins before whole later n e lifts h = by_own (n == coordinator e) refl
  where
    by_none : (none : Bool) → (length (others e (members_of e before)) == 0) ≡ none → n ≡ coordinator e → (not none || list_any (starts_or_fails n e) whole) ≡ true
    by_none false is own = refl
    by_none true is own = lifts (starts_or_fails n e) (h own (no_others before e is))

    by_own : (own : Bool) → (n == coordinator e) ≡ own → (not own || not (length (others e (members_of e before)) == 0) || list_any (starts_or_fails n e) whole) ≡ true
    by_own false is = refl
    by_own true is = by_none (length (others e (members_of e before)) == 0) refl (same_number n (coordinator e) is)

goes_each : (before whole later : List Moment) → ((test : Moment → Bool) → list_any test later ≡ true → list_any test whole ≡ true) → AllGoOut before later → EachGoesOut before whole later
goes_each before whole [] lifts h = tt
goes_each before whole (installed n e ∷ later) lifts h =
    (goes_out before whole later n e (λ test is. lifts test (or_later (test (installed n e)) (list_any test later) is)) (λ own. (h.0 own).0), goes_each before whole later (λ test is. lifts test (or_later (test (installed n e)) (list_any test later) is)) h.1)
goes_each before whole (x ∷ later) lifts h = goes_each before whole later (λ test is. lifts test (or_later (test x) (list_any test later) is)) h.1

abbrev pub EachBegins : List Moment → List Moment → List Moment → Type 0
EachBegins before whole [] = Unit {0}
EachBegins before whole (installed n e ∷ later) =
    ((not (n == coordinator e) || not (length (others e (members_of e before)) == 0) || list_any (starts_or_fails n e) whole) ≡ true) × EachBegins before whole later
EachBegins before whole (x ∷ later) = EachBegins before whole later

begins_each : (before whole later : List Moment) → ((test : Moment → Bool) → list_any test later ≡ true → list_any test whole ≡ true) → AllGoOut before later → EachBegins before whole later
begins_each before whole [] lifts h = tt
begins_each before whole (installed n e ∷ later) lifts h =
    (begins before whole later n e (λ test is. lifts test (or_later (test (installed n e)) (list_any test later) is)) (λ own. (h.0 own).1), begins_each before whole later (λ test is. lifts test (or_later (test (installed n e)) (list_any test later) is)) h.1)
begins_each before whole (x ∷ later) lifts h = begins_each before whole later (λ test is. lifts test (or_later (test x) (list_any test later) is)) h.1

-- the law, by the links that the lines leave
abbrev pub GoesIn : ℕ → List Moment → Moment → List Moment → Type 0
GoesIn cells before x entries = IsLeftAfter cells (messages.onto (x ∷ before) entries) → EachGoesOut before entries entries × EachBegins before entries entries

same_onto : (xs ms : List Moment) → onto xs ms ≡ messages.onto ms xs
same_onto [] ms = refl
same_onto (x ∷ xs) ms = same_onto xs (x ∷ ms)

ends_so : (h : Header) (cells : ℕ) (before s : Scene) (first : Moment) (entries : List Moment) → Known h cells s → onto entries (first ∷ before.moments) ≡ s.moments → Passing before entries s → GoesIn cells before.moments first entries
ends_so h cells before s first entries known is p left =
    let same : messages.onto (first ∷ before.moments) entries ≡ s.moments = sym (same_onto entries (first ∷ before.moments)) ∙ is in
    let out : AllGoOut before.moments entries = p.out (subst (λ (l : Links). IsLeft l.next) (sym known.linked) (subst (IsLeftAfter cells) same left)) in
    (goes_each before.moments entries entries (λ test found. found) out, begins_each before.moments entries entries (λ test found. found) out)

-- ---- the run

way : (h : Header) (cells : ℕ) → IsSmall h → Way (first_cluster h) (Known h cells) Passing (GoesIn cells)
unfolding stand_of
way h cells size = record {
  line_so = λ s e k. line_passing (first_cluster h) s e k.bound.stage;
  part_so = λ s e k. part_passing (first_cluster h) s e k.bound.stage;
  step_so = λ b s entries x within may k next so. step_passing h b s entries x size within may k.bound (stand_of h s size k.bound k.scene) k.bound.stage.tried k.fine next.grown so;
  ends_so = λ b s first entries before after is so. ends_so h cells b s first entries after is so;
}

installs_so : (S : Setting) (cells : ℕ) → S.cells ≡ cells → (before : List Moment) (x : Moment) (entries : List Moment) → GoesIn cells before x entries → HasInstalls S before x entries
installs_so S cells same before x entries h left = (h (subst (λ k. nat_lt (links_after k (messages.onto (x ∷ before) entries)).next (2 ^ 63) ≡ true) same left)).0

pub goes_in_each_run : (h : Header) (cells : ℕ) (hs : List Happening) → h.nodes ≤ most_nodes → length h.devices ≤ most_devices → h.cluster < 2 ^ 32
    → MayAllHappen (first_cluster h) (first_scene h cells) hs → IsShaped (first_cluster h) (first_scene h cells) hs → AllByRecursion (BootsInHeader h) hs
    → EachEvent (GoesIn cells) (all_happened (first_cluster h) (first_scene h cells) hs).moments
goes_in_each_run h cells hs nodes few small may shaped boots =
    let size : IsSmall h = record { few = few; small = small } in
    each_along_run h cells (Known h cells) Passing (GoesIn cells) (way h cells size) hs may shaped
    (along h cells (first_scene h cells) hs nodes size (record { happenings = []; may = tt; is = refl }) may boots (first_named h cells) (first_fits h cells size) (first_known h cells size) (first_fine h cells))

pub installs_of_each_run : InstallsOfEachRun
installs_of_each_run h cells hs S nodes few small same may shaped boots =
    events_so (GoesIn cells) (HasInstalls S) (installs_so S cells same) [] (all_happened (first_cluster h) (first_scene h cells) hs).moments (goes_in_each_run h cells hs nodes few small may shaped boots)
