-- Where fewer than 2^63 moments are told, a packet number is left, and one was left at each point before.
use Rattle.std.specs.Prelude.{ℕ, suc, ◌+◌, ◌-◌, ◌≡◌, ◌≤◌, ◌<◌, ◌⊎◌, ◌^◌, nat_lt, true, List, [], ◌∷◌, length, Option, None, Some, slice_get}
use Rattle.std.proofs.Common.{arith, refl, sym, subst, inl, inr}
use Rattle.cl_base.specs.Limits.{most_devices}
use Rattle.cl_base.specs.declared.header.Header.{Header}
use Rattle.cl_base.specs.declared.method.Outcome as method
use Rattle.cl_base.specs.declared.packet.DropCause.TheVariants.{Down}
use Rattle.cmm_attempt.proofs.Basics.{if_either}
use Rattle.history.specs.Links.{links_after}
use Rattle.history.specs.Moment.{Moment, Said, Part}
use Rattle.history.specs.Order.{OfEvents}
use Rattle.history.specs.Trace.{sent, delivered, lost, repeated, dropped, rounds_done}
use Rattle.history_setting.specs.Settings.{setting_of}
use Rattle.interconnect.specs.Links as net
use Rattle.interconnect.specs.Links.{Links, Packet, appending, crowding, packet_of, refusing, sending}
use Rattle.node_model.specs.declared.cluster.Cluster.{Cluster}
use Rattle.node_model.specs.declared.input.Input.{Input}
use Rattle.node_model.specs.declared.input.Input.TheVariants as input
use Rattle.pgr_device.specs.Device.{Device}
use Rattle.pgr_device.specs.declared.command.PrCommand.{PrCommand}
use Rattle.pgr_device.specs.declared.command.PrCommand.TheVariants as command
use Rattle.refinement.specs.Runs.{moved}
use Rattle.refinement.specs.Runs.Move.{Takes as Takes_in}
use Rattle.run_history.proofs.LinksRun.{links_of_each_run}
use Rattle.run_history.specs.Happenings.{Happening, MayAllHappen, all_happened, armed_by, commanded, commanded_at, given_by, happened, removed, taking}
use Rattle.run_history.specs.Happenings.Happening.{Arrives, Begins, Commands, Loses, Misses, Notes, Refuses, Repeats, Speaks, Strays, Takes, Writes}
use Rattle.run_history.specs.Scenes.{Scene, adding, first_scene, telling, with_links}
use Rattle.run_history.specs.Shapes.{IsShaped}
use Rattle.run_lines.proofs.Runs.{lines_of_each_run}
use Rattle.run_lines.specs.Laws.{IsAnswered}
use Rattle.run_packets.specs.fits.Laws.{IsShort}
use Rattle.schedule_text.specs.declared.event.Event.{Event}
use Rattle.schedule_text.specs.declared.event.Event.TheVariants as event
use Rattle.schedule_text.specs.declared.line.Line.TheVariants as line
use Rattle.status_report.specs.declared.entry.Entry.TheVariants as entry
use Rattle.status_report.specs.declared.packet_entry.PacketEntry.TheVariants as packet
use Rattle.world_model.specs.First.{first_cluster}
use Rattle.run_outcomes.specs.tasks.AsksGiven.{IsLeft}
use Rattle.run_outcomes.proofs.asks.Lines.{crowding_next, dropped_next, left_before, passing_next, sending_next}

same : (a : ℕ) → a ≤ a
same a = omega arith

up : (a b c : ℕ) → a ≤ b → b ≤ c → a ≤ c
up a b c h k = omega (arith, h, k)

is_le : (a b k : ℕ) → k ≡ b → b ≤ a → k ≤ a
is_le a b k e h = omega (arith, e, h)

one_above : (a : ℕ) → a ≤ a + 1
one_above a = omega arith

-- ---- each point before

taking_next : (c : Cluster) (n now : ℕ) (ends : method.Outcome) (i : Input) (s : Scene) → s.links.next ≤ (taking c n now ends i s).links.next
taking_next c n now ends i s = passing_next n (given_by c n now ends i s.nodes) (record s { nodes = moved c s.nodes (Takes_in n now ends i) })

commanded_next : (s : Scene) (n d : ℕ) (o : Option Device) (k : PrCommand) → s.links.next ≤ (commanded_at s n d o k).scene.links.next
commanded_next s n d None k = same s.links.next
commanded_next s n d (Some x) k = same s.links.next

armed_next : (c : Cluster) (e : Event) (s : Scene) → s.links.next ≤ (armed_by c e s).links.next
armed_next c (event.Fault n d done) s = same s.links.next
armed_next c (event.CrashAt n calls choice) s = same s.links.next
armed_next c _ s = same s.links.next

pub happened_next : (c : Cluster) (s : Scene) (x : Happening) → s.links.next ≤ (happened c s x).links.next
happened_next c s (Speaks e) = armed_next c e (adding (Said (line.Event e)) s)
happened_next c s (Begins e) = same s.links.next
happened_next c s (Notes e) = same s.links.next
happened_next c s (Takes n now ends i) = taking_next c n now ends i s
happened_next c s (Arrives number x m now ends) = taking_next c x.to now ends (input.Packet x.from m) (telling (entry.Packet (packet.Delivered number x.from x.to)) (removed s number))
happened_next c s (Strays number x) = same s.links.next
happened_next c s (Misses number x) = same s.links.next
happened_next c s (Loses number x) = same s.links.next
happened_next c s (Repeats number x) =
    let o : net.Outcome = sending s.links x.from x.to x.bytes in
    dropped_next s.links.next o.sent.dropped (telling (entry.Packet (packet.Repeated number s.links.next)) (with_links s o.after)) (sending_next s.links x.from x.to x.bytes)
happened_next c s (Commands n d k now ends) =
    let t : Scene = (commanded s n d k).scene in
    up s.links.next t.links.next (taking c n now ends (input.Answered (commanded s n d k).answer) t).links.next (commanded_next s n d (slice_get s.devices (d - 1)) k)
    (taking_next c n now ends (input.Answered (commanded s n d k).answer) t)
happened_next c s (Writes n d value now ends) =
    let k : PrCommand = command.Write value in
    let t : Scene = (commanded s n d k).scene in
    up s.links.next t.links.next (taking c n now ends (input.Wrote d value (commanded s n d k).answer) t).links.next (commanded_next s n d (slice_get s.devices (d - 1)) k)
    (taking_next c n now ends (input.Wrote d value (commanded s n d k).answer) t)
happened_next c s (Refuses n d value why) = same s.links.next

all_next : (c : Cluster) (s : Scene) (xs : List Happening) → s.links.next ≤ (all_happened c s xs).links.next
all_next c s [] = same s.links.next
all_next c s (x ∷ xs) = up s.links.next (happened c s x).links.next (all_happened c (happened c s x) xs).links.next (happened_next c s x) (all_next c (happened c s x) xs)

-- where one is left in the end, one was left at this point
pub left_here : (c : Cluster) (s : Scene) (xs : List Happening) → IsLeft (all_happened c s xs).links.next → IsLeft s.links.next
left_here c s xs left = left_before s.links.next (all_happened c s xs).links.next (all_next c s xs) left

-- ---- a moment takes one number at most

sending_most : (l : Links) (from to : ℕ) (bytes : List ℕ) → (sending l from to bytes).after.next ≤ l.next + 1
sending_most l from to bytes =
    if_either (λ (o : net.Outcome). o.after.next ≤ l.next + 1) _ (refusing l) (crowding (appending l from to bytes) l.next from to) (same (l.next + 1))
    (is_le (l.next + 1) (l.next + 1) _ (crowding_next (appending l from to bytes) l.next from to) (same (l.next + 1)))

resent_most : (l : Links) (o : Option Packet) → (net.resending l o).next ≤ l.next + 1
resent_most l None = one_above l.next
resent_most l (Some p) = sending_most l p.from p.to p.bytes

line_most : (cells : ℕ) (m : Moment) (ms : List Moment) → (links_after cells (m ∷ ms)).next ≤ (links_after cells ms).next + 1
line_most cells (sent p a b message bytes) ms = sending_most (links_after cells ms) a b bytes
line_most cells (repeated p copy) ms = resent_most (links_after cells ms) (packet_of (links_after cells ms).packets p)
line_most cells (delivered p a b) ms = one_above (links_after cells ms).next
line_most cells (lost p) ms = one_above (links_after cells ms).next
line_most cells (dropped p Down) ms = one_above (links_after cells ms).next
line_most cells _ ms = one_above (links_after cells ms).next

resent_next : (l : Links) (o : Option Packet) → l.next ≤ (net.resending l o).next
resent_next l None = same l.next
resent_next l (Some p) = sending_next l p.from p.to p.bytes

-- .. and gives none back
pub line_next : (cells : ℕ) (m : Moment) (ms : List Moment) → (links_after cells ms).next ≤ (links_after cells (m ∷ ms)).next
line_next cells (sent p a b message bytes) ms = sending_next (links_after cells ms) a b bytes
line_next cells (repeated p copy) ms = resent_next (links_after cells ms) (packet_of (links_after cells ms).packets p)
line_next cells (delivered p a b) ms = same (links_after cells ms).next
line_next cells (lost p) ms = same (links_after cells ms).next
line_next cells (dropped p Down) ms = same (links_after cells ms).next
line_next cells _ ms = same (links_after cells ms).next

-- ---- the first moment, a line, takes none

abbrev Counted : ℕ → List Moment → Type 0
Counted cells ms = (ms ≡ []) ⊎ ((links_after cells ms).next ≤ length ms)

-- a line, a part and the end of rounds take none
opens_counted : (cells : ℕ) (m : Moment) (ms : List Moment) → (links_after cells (m ∷ ms)).next ≡ (links_after cells ms).next → Counted cells ms → Counted cells (m ∷ ms)
opens_counted cells m ms is (inl none) = inr (first (links_after cells (m ∷ ms)).next (length ms) (subst (λ (k : List Moment). (links_after cells (m ∷ ms)).next ≡ (links_after cells k).next) none is))
  where
    first : (a b : ℕ) → a ≡ 1 → a ≤ suc b
    first a b h = omega (arith, h)
opens_counted cells m ms is (inr few) = inr (more (links_after cells (m ∷ ms)).next (links_after cells ms).next (length ms) is few)
  where
    more : (a b k : ℕ) → a ≡ b → b ≤ k → a ≤ suc k
    more a b k h f = omega (arith, h, f)

-- an entry stands after a line
entry_counted : (P : List Moment → Moment → List Moment → Type 0) (cells : ℕ) (m : Moment) (later ms : List Moment) → OfEvents P (m ∷ later) ms → Counted cells ms → Counted cells (m ∷ ms)
entry_counted P cells m later ms events (inl none) = absurd (nothing_first (subst (λ (k : List Moment). OfEvents P (m ∷ later) k) none events))
  where
    IsSome : List Moment → Type 0
    IsSome [] = ⊥
    IsSome (x ∷ xs) = Unit {0}

    nothing_first : m ∷ later ≡ [] → ⊥
    nothing_first is = subst IsSome is tt
entry_counted P cells m later ms events (inr few) = inr (more (links_after cells (m ∷ ms)).next (links_after cells ms).next (length ms) (line_most cells m ms) few)
  where
    more : (a b k : ℕ) → a ≤ b + 1 → b ≤ k → a ≤ suc k
    more a b k h f = omega (arith, h, f)

counted : (P : List Moment → Moment → List Moment → Type 0) (cells : ℕ) (later ms : List Moment) → OfEvents P later ms → Counted cells ms
counted P cells later [] events = inl refl
counted P cells later (Said x ∷ ms) events = opens_counted cells (Said x) ms refl (counted P cells [] ms events.1)
counted P cells later (Part x ∷ ms) events = opens_counted cells (Part x) ms refl (counted P cells [] ms events.1)
counted P cells later (rounds_done ∷ ms) events = opens_counted cells rounds_done ms refl (counted P cells [] ms events.1)
counted P cells later (x ∷ ms) events = entry_counted P cells x later ms events (counted P cells (x ∷ later) ms events)

-- ---- each run

short_left : (cells : ℕ) (ms : List Moment) → IsShort ms → Counted cells ms → IsLeft (links_after cells ms).next
short_left cells ms short (inl none) = subst (λ (k : List Moment). IsLeft (links_after cells k).next) (sym none) refl
short_left cells ms short (inr few) = lower (links_after cells ms).next (length ms) (2 ^ 63) few short
  where
    lower : (a b most : ℕ) → a ≤ b → b < most → nat_lt a most ≡ true
    lower a b most h k = grind arith

-- by the lines
pub told_left : (h : Header) (cells : ℕ) (hs : List Happening) → length h.devices ≤ most_devices → h.cluster < 2 ^ 32 → (setting_of h).cells ≡ cells
    → MayAllHappen (first_cluster h) (first_scene h cells) hs → IsShaped (first_cluster h) (first_scene h cells) hs
    → (let ms : List Moment = (all_happened (first_cluster h) (first_scene h cells) hs).moments in IsShort ms → IsLeft (links_after cells ms).next)
told_left h cells hs few small at may shaped short =
    let ms : List Moment = (all_happened (first_cluster h) (first_scene h cells) hs).moments in
    short_left cells ms short (counted (IsAnswered (setting_of h)) cells [] ms (lines_of_each_run h cells hs (setting_of h) few small at may shaped))

-- and in the scene
pub run_left : (h : Header) (cells : ℕ) (hs : List Happening) → length h.devices ≤ most_devices → h.cluster < 2 ^ 32 → (setting_of h).cells ≡ cells
    → MayAllHappen (first_cluster h) (first_scene h cells) hs → IsShaped (first_cluster h) (first_scene h cells) hs
    → (let s : Scene = all_happened (first_cluster h) (first_scene h cells) hs in IsShort s.moments → IsLeft s.links.next)
run_left h cells hs few small at may shaped short =
    subst (λ (l : Links). IsLeft l.next) (sym (links_of_each_run h cells hs may).links) (told_left h cells hs few small at may shaped short)
