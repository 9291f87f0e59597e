-- In an event that delivers no packet no entry of a delivery stands first.
use Rattle.std.specs.Prelude.{ℕ, ◌++◌, ◌^◌, nat_lt, Bool, true, false, List, [], ◌∷◌, Option, None, Some, Result, Ok, Err, is_some, if◌then◌else◌}
use Rattle.std.proofs.Common.{sym, subst}
use Rattle.history.specs.Moment.{Moment}
use Rattle.history.specs.Trace.{delivered}
use Rattle.interconnect.specs.Links.{Packet, oldest_on, packet_of}
use Rattle.node_model.specs.Addresses.{refusal_at}
use Rattle.node_model.specs.Devices.{may_write_as}
use Rattle.node_model.specs.declared.cluster.Cluster.{Cluster}
use Rattle.node_model.specs.declared.input.Input.TheVariants as input
use Rattle.node_model.specs.declared.node.Node.{Node}
use Rattle.node_model.specs.declared.node.Node.TheVariants.{Down, Up}
use Rattle.node_model.specs.declared.node.UpNode.{UpNode}
use Rattle.pgr_device.specs.declared.command.PrCommand.{PrCommand}
use Rattle.run_history.specs.Happenings.{Happening, happened}
use Rattle.run_history.specs.Happenings.Happening.{Commands, Loses, Misses, Notes, Refuses, Repeats, Takes, Writes}
use Rattle.run_history.specs.Scenes.{Scene}
use Rattle.run_history.specs.Shapes.{IsThis, Want, asking, booting, brings, commanding, if_up, losing, of_oldest, of_packet, probing, repeating, still, writing}
use Rattle.run_history.specs.Shapes as want
use Rattle.run_packets.proofs.replies.Others.{IsNoDelivery}
use Rattle.run_packets.specs.repeats.Events.{StartsElse}
use Rattle.schedule_text.specs.declared.event.Event.{Event}
use Rattle.schedule_text.specs.declared.event.Event.TheVariants as event
use Rattle.status_report.specs.declared.device_entry.WriteRefusal.{WriteRefusal}
use Rattle.status_report.specs.declared.schedule_entry.SkipCause.{SkipCause}
use Rattle.world_model.specs.Devices.{due_at}
use Rattle.world_model.specs.Lines.{monitors}
use Rattle.run_outcomes.specs.reports.Events.{Ends, Leaves, LeftBy}

-- it is no packet that comes to a node
abbrev pub IsElse : Want → Type 0
IsElse (want.Deliver number x) = ⊥
IsElse _ = Unit {0}

abbrev pub AreElse : List Want → Type 0
AreElse [] = Unit {0}
AreElse (w ∷ ws) = IsElse w × AreElse ws

-- ---- what it leaves

pub else_left : (cells : ℕ) (c : Cluster) (s : Scene) (w : Want) (g : Happening) (later : List Moment) → IsElse w → IsThis w g → LeftBy cells c s g later → StartsElse later
else_left cells c s (want.Note e) (Notes f) later none this left = subst StartsElse (sym left) tt
else_left cells c s (want.Take n i) (Takes m now ends j) later none this left = left.0
else_left cells c s (want.Miss number x) (Misses j y) later none this left = left
else_left cells c s (want.Lose number x) (Loses j y) later none this left = left
else_left cells c s (want.Repeat number x) (Repeats j y) later none this left = left
else_left cells c s (want.Command n) (Commands m d q now ends) later none this left = left.0
else_left cells c s (want.Write n d value) (Writes m e v now ends) later none this left = left
else_left cells c s (want.Refuse n d value why) (Refuses m e v w) later none this left = left
else_left cells c s (want.Deliver number x) g later none this left = absurd none
else_left cells c s w g later none this left = absurd this

both_else : (xs ys : List Moment) → StartsElse xs → StartsElse ys → StartsElse (xs ++ ys)
both_else [] ys h k = k
both_else (delivered p a b ∷ xs) ys h k = absurd h
both_else (x ∷ xs) ys h k = tt

ends_else : (cells : ℕ) (c : Cluster) (s : Scene) (ws : List Want) (later : List Moment) (t : Scene) → AreElse ws → Ends cells c s ws later t → StartsElse later
ends_else cells c s [] later t none h = subst StartsElse (sym h.0) tt
ends_else cells c s (w ∷ ws) later t none h = else_left cells c s w h.happening later none.0 h.this h.left

still_else : (u : Scene) (v : Want) → IsElse v → AreElse (still u (v ∷ []))
still_else u (want.Command n) none = by_test (is_some (due_at (Some (u.nodes.node n))))
  where
    by_test : (b : Bool) → AreElse (if b then want.Command n ∷ [] else [])
    by_test true = (tt, tt)
    by_test false = tt
still_else u (want.Deliver number x) none = absurd none
still_else u _ none = (tt, tt)

pub leaves_else : (cells : ℕ) (c : Cluster) (s : Scene) (ws : List Want) (later : List Moment) (t : Scene) → AreElse ws → Leaves cells c s ws later t → StartsElse later
leaves_else cells c s [] later t none h = ends_else cells c s [] later t none h
leaves_else cells c s (w ∷ []) later t none h = ends_else cells c s (w ∷ []) later t none h
leaves_else cells c s (w ∷ v ∷ ws) later t none h =
    let u : Scene = happened c s h.happening in
    subst StartsElse (sym h.is)
    (both_else h.some h.rest (else_left cells c s w h.happening h.some none.0 h.this h.left) (ends_else cells c u (still u (v ∷ [])) h.rest t (still_else u v none.1.0) h.behind))

-- ---- what an event brings

boot_else : (n : ℕ) (z : Node) → AreElse (booting n z)
boot_else n Down = (tt, tt)
boot_else n (Up x) = (tt, tt)

up_else : (z : Node) (f : UpNode → List Want) → ((x : UpNode) → AreElse (f x)) → AreElse (if_up z f)
up_else Down f all = (tt, tt)
up_else (Up x) f all = all x

command_else : (n : ℕ) (o : Option (ℕ × PrCommand)) → AreElse (commanding n o)
command_else n None = (tt, tt)
command_else n (Some due) = (tt, (tt, tt))

write_else : (n d value : ℕ) (r : Result ℕ WriteRefusal) → AreElse (writing n d value r)
write_else n d value (Ok e) = (tt, tt)
write_else n d value (Err why) = (tt, tt)

probe_else : (n : ℕ) (resource : List ℕ) (good b : Bool) → AreElse (probing n resource good b)
probe_else n resource good true = (tt, tt)
probe_else n resource good false = (tt, tt)

client_else : (n : ℕ) (address : List ℕ) (client port : ℕ) (o : Option SkipCause) → AreElse (asking n (input.Client address client port) o)
client_else n address client port None = (tt, tt)
client_else n address client port (Some why) = (tt, tt)

packet_else : (o : Option Packet) (f : Packet → List Want) → ((x : Packet) → AreElse (f x)) → AreElse (of_packet o f)
packet_else None f all = (tt, tt)
packet_else (Some x) f all = all x

link_else : (o : Option ℕ) (f : ℕ → List Want) → ((k : ℕ) → AreElse (f k)) → AreElse (of_oldest o f)
link_else None f all = (tt, tt)
link_else (Some k) f all = all k

copy_else : (b : Bool) (number : ℕ) (x : Packet) → AreElse (if b then want.Repeat number x ∷ [] else [])
copy_else true number x = (tt, tt)
copy_else false number x = tt

lose_else : (u : Scene) (number : ℕ) → AreElse (losing u number)
lose_else u number = packet_else (packet_of u.links.packets number) (λ x. want.Lose number x ∷ []) (λ x. (tt, tt))

repeat_else : (u : Scene) (number : ℕ) → AreElse (repeating u number)
repeat_else u number = packet_else (packet_of u.links.packets number) (λ x. if nat_lt u.links.next (2 ^ 63) then want.Repeat number x ∷ [] else []) (λ x. copy_else (nat_lt u.links.next (2 ^ 63)) number x)

pub brings_else : (c : Cluster) (u : Scene) (e : Event) → IsNoDelivery e → AreElse (brings c u e)
brings_else c u (event.Boot n) none = boot_else n (u.nodes.node n)
brings_else c u (event.Crash n) none = up_else (u.nodes.node n) (λ x. want.Take n input.Crash ∷ []) (λ x. (tt, tt))
brings_else c u (event.CrashAt n calls choice) none = (tt, tt)
brings_else c u (event.Tick n) none = up_else (u.nodes.node n) (λ x. want.Take n input.Tick ∷ []) (λ x. (tt, tt))
brings_else c u (event.Disk n) none = up_else (u.nodes.node n) (λ x. commanding n (due_at (Some (u.nodes.node n)))) (λ x. command_else n (due_at (Some (u.nodes.node n))))
brings_else c u (event.Fault n d done) none = (tt, tt)
brings_else c u (event.Write n d value) none = up_else (u.nodes.node n) (λ x. writing n d value (may_write_as c n d x.seat)) (λ x. write_else n d value (may_write_as c n d x.seat))
brings_else c u (event.Command n words) none = up_else (u.nodes.node n) (λ x. want.Take n (input.Commanded words) ∷ []) (λ x. (tt, tt))
brings_else c u (event.Outcome n resource method outcome) none = (tt, tt)
brings_else c u (event.Probe n resource good) none =
    up_else (u.nodes.node n) (λ x. probing n resource good (monitors resource (Some (u.nodes.node n)))) (λ x. probe_else n resource good (monitors resource (Some (u.nodes.node n))))
brings_else c u (event.Client n address client port) none =
    up_else (u.nodes.node n) (λ x. asking n (input.Client address client port) (refusal_at c address (u.nodes.node n))) (λ x. client_else n address client port (refusal_at c address (u.nodes.node n)))
brings_else c u (event.Clock second) none = (tt, tt)
brings_else c u (event.Deliver number) none = absurd none
brings_else c u (event.Lose number) none = lose_else u number
brings_else c u (event.Repeat number) none = repeat_else u number
brings_else c u (event.Next a b) none = absurd none
brings_else c u (event.Drop a b) none = link_else (oldest_on u.links.packets a b) (λ k. losing u k) (λ k. lose_else u k)
brings_else c u (event.Again a b) none = link_else (oldest_on u.links.packets a b) (λ k. repeating u k) (λ k. repeat_else u k)
brings_else c u (event.Rounds count nodes) none = tt
