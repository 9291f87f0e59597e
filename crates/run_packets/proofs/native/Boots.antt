-- Where each line names a node of the header, and what happens is what is due, a node that boots is one of the header.
use Rattle.std.specs.Prelude.{ℕ, zero, suc, ◌-◌, ◌≡◌, ◌≤◌, ◌^◌, Bool, true, false, List, [], ◌∷◌, Option, None, Some, Result, Ok, Err, IfSome, is_some, nat_lt, if◌then◌else◌}
use Rattle.std.specs.List.{AllByRecursion}
use Rattle.std.specs.Option.{option_map, option_or}
use Rattle.std.proofs.Common.{refl, sym, subst}
use Rattle.cl_base.specs.declared.header.Header.{Header}
use Rattle.cl_base.specs.declared.method.Outcome.{Outcome}
use Rattle.cmm_attempt.proofs.Basics.{if_either, none_some, same_some}
use Rattle.interconnect.specs.Links.{Links, Packet, oldest_on, packet_of}
use Rattle.node_model.specs.Addresses.{refusal_at}
use Rattle.node_model.specs.Devices.{may_write_as}
use Rattle.node_model.specs.declared.cluster.Cluster.{Cluster}
use Rattle.node_model.specs.declared.input.Input.{Input}
use Rattle.node_model.specs.declared.input.Input.TheVariants as input
use Rattle.node_model.specs.declared.node.Node.{Node}
use Rattle.node_model.specs.declared.node.Node.TheVariants.{Down, Up}
use Rattle.node_model.specs.declared.node.UpNode.{UpNode}
use Rattle.pgr_device.specs.declared.command.PrCommand.{PrCommand}
use Rattle.refinement.specs.Runs.{Nodes}
use Rattle.run_history.specs.Happenings.{Arrives, Begins, Commands, Happening, Loses, Misses, Notes, Refuses, Repeats, Speaks, Strays, Takes, Writes, happened}
use Rattle.run_history.specs.Rounds.{Stage}
use Rattle.run_history.specs.Rounds.Stage.{Delivering, Ticking, Working}
use Rattle.run_history.specs.Rounds.{Progress, at, has_turn, listed, most_commands, next_at, next_delivery, next_from, next_in, next_part, next_tick, next_work, round_of}
use Rattle.run_history.specs.Scenes.{Scene, first_scene}
use Rattle.run_history.specs.Shapes.{Comes, Due, IsDue, Opens, ShapedFrom, Want, asking, booting, brings, coming_to, commanding, delivering, due_after, if_up, left, losing, nothing, of_oldest, of_packet, opened, probing, repeating, still, taking_this, writing}
use Rattle.run_history.specs.Shapes.Want.{Command, Deliver, Lose, Miss, Note, Refuse, Repeat, Take, Write}
use Rattle.run_history.specs.Telling.{IsInHeader}
use Rattle.schedule_text.specs.declared.event.Event.{Event}
use Rattle.schedule_text.specs.declared.event.Event.TheVariants as event
use Rattle.status_report.specs.declared.device_entry.WriteRefusal.{WriteRefusal}
use Rattle.status_report.specs.declared.schedule_entry.SkipCause.{SkipCause}
use Rattle.world_model.specs.Devices.{due_at}
use Rattle.world_model.specs.Lines.{monitors}
use Rattle.world_model.specs.Rounds.{is_between}
use Rattle.world_model.specs.Worlds.{is_up_node}
use Rattle.world_model.specs.First.{first_cluster}
use Rattle.run_packets.specs.native.Laws.{BootsAreOfTheHeader, BootsInHeader, SpeaksInHeader}

-- ---- what is due

abbrev WantIn : Header → Want → Type 0
WantIn h (Take n input.Boot) = n ≤ h.nodes
WantIn h w = Unit {0}

abbrev WantsIn : Header → List Want → Type 0
WantsIn h ws = AllByRecursion (WantIn h) ws

up_in : (h : Header) (node : Node) (f : UpNode → List Want) → ((x : UpNode) → WantsIn h (f x)) → WantsIn h (if_up node f)
up_in h Down f k = (tt, tt)
up_in h (Up x) f k = k x

boot_in : (h : Header) (n : ℕ) (node : Node) → n ≤ h.nodes → WantsIn h (booting n node)
boot_in h n Down le = (le, tt)
boot_in h n (Up x) le = (tt, tt)

command_in : (h : Header) (n : ℕ) (o : Option (ℕ × PrCommand)) → WantsIn h (commanding n o)
command_in h n None = (tt, tt)
command_in h n (Some due) = (tt, (tt, tt))

write_in : (h : Header) (n d value : ℕ) (r : Result ℕ WriteRefusal) → WantsIn h (writing n d value r)
write_in h n d value (Ok e) = (tt, tt)
write_in h n d value (Err cause) = (tt, tt)

probe_in : (h : Header) (n : ℕ) (resource : List ℕ) (good monitored : Bool) → WantsIn h (probing n resource good monitored)
probe_in h n resource good true = (tt, tt)
probe_in h n resource good false = (tt, tt)

client_in : (h : Header) (n : ℕ) (name : List ℕ) (client port : ℕ) (o : Option SkipCause) → WantsIn h (asking n (input.Client name client port) o)
client_in h n name client port None = (tt, tt)
client_in h n name client port (Some why) = (tt, tt)

packet_in : (h : Header) (o : Option Packet) (f : Packet → List Want) → ((x : Packet) → WantsIn h (f x)) → WantsIn h (of_packet o f)
packet_in h None f k = (tt, tt)
packet_in h (Some x) f k = k x

oldest_in : (h : Header) (o : Option ℕ) (f : ℕ → List Want) → ((number : ℕ) → WantsIn h (f number)) → WantsIn h (of_oldest o f)
oldest_in h None f k = (tt, tt)
oldest_in h (Some number) f k = k number

come_in : (h : Header) (node : Node) (number : ℕ) (x : Packet) → WantsIn h (coming_to node number x)
come_in h Down number x = (tt, tt)
come_in h (Up y) number x = (tt, tt)

deliver_in : (h : Header) (s : Scene) (number : ℕ) → WantsIn h (delivering s number)
deliver_in h s number = packet_in h (packet_of s.links.packets number) (λ x. coming_to (s.nodes.node x.to) number x) (λ x. come_in h (s.nodes.node x.to) number x)

lose_in : (h : Header) (s : Scene) (number : ℕ) → WantsIn h (losing s number)
lose_in h s number = packet_in h (packet_of s.links.packets number) (λ x. Lose number x ∷ []) (λ x. (tt, tt))

repeat_in : (h : Header) (s : Scene) (number : ℕ) → WantsIn h (repeating s number)
repeat_in h s number =
    packet_in h (packet_of s.links.packets number) (λ x. if nat_lt s.links.next (2 ^ 63) then Repeat number x ∷ [] else [])
    (λ x. if_either (WantsIn h) (nat_lt s.links.next (2 ^ 63)) (Repeat number x ∷ []) [] (tt, tt) tt)

brings_in : (h : Header) (c : Cluster) (s : Scene) (e : Event) → IsInHeader h e → WantsIn h (brings c s e)
brings_in h c s (event.Boot n) is = boot_in h n (s.nodes.node n) is
brings_in h c s (event.Crash n) is = up_in h (s.nodes.node n) (λ x. taking_this n input.Crash) (λ x. (tt, tt))
brings_in h c s (event.CrashAt n calls choice) is = (tt, tt)
brings_in h c s (event.Tick n) is = up_in h (s.nodes.node n) (λ x. taking_this n input.Tick) (λ x. (tt, tt))
brings_in h c s (event.Disk n) is = up_in h (s.nodes.node n) (λ x. commanding n (due_at (Some (s.nodes.node n)))) (λ x. command_in h n (due_at (Some (s.nodes.node n))))
brings_in h c s (event.Fault n d done) is = (tt, tt)
brings_in h c s (event.Write n d value) is = up_in h (s.nodes.node n) (λ x. writing n d value (may_write_as c n d x.seat)) (λ x. write_in h n d value (may_write_as c n d x.seat))
brings_in h c s (event.Command n words) is = up_in h (s.nodes.node n) (λ x. taking_this n (input.Commanded words)) (λ x. (tt, tt))
brings_in h c s (event.Outcome n resource method outcome) is = (tt, tt)
brings_in h c s (event.Probe n resource good) is = up_in h (s.nodes.node n) (λ x. probing n resource good (monitors resource (Some (s.nodes.node n)))) (λ x. probe_in h n resource good (monitors resource (Some (s.nodes.node n))))
brings_in h c s (event.Client n address client port) is = up_in h (s.nodes.node n) (λ x. asking n (input.Client address client port) (refusal_at c address (s.nodes.node n))) (λ x. client_in h n address client port (refusal_at c address (s.nodes.node n)))
brings_in h c s (event.Clock second) is = (tt, tt)
brings_in h c s (event.Deliver number) is = deliver_in h s number
brings_in h c s (event.Lose number) is = lose_in h s number
brings_in h c s (event.Repeat number) is = repeat_in h s number
brings_in h c s (event.Next from to) is = oldest_in h (oldest_on s.links.packets from to) (λ number. delivering s number) (λ number. deliver_in h s number)
brings_in h c s (event.Drop from to) is = oldest_in h (oldest_on s.links.packets from to) (λ number. losing s number) (λ number. lose_in h s number)
brings_in h c s (event.Again from to) is = oldest_in h (oldest_on s.links.packets from to) (λ number. repeating s number) (λ number. repeat_in h s number)
brings_in h c s (event.Rounds count nodes) is = tt

-- ---- the parts of rounds

abbrev PartIn : {X : Type 0} → Header → Option (Event × X) → Type 0
PartIn h o = IfSome o (λ next. IsInHeader h next.0)

tick_in : (h : Header) (v : Nodes) (ns : List ℕ) → PartIn h (next_tick v ns)
tick_in h v [] = tt
tick_in h v (n ∷ ns) = if_either (PartIn h) (is_up_node (Some (v.node n))) (Some (event.Tick n, Ticking ns)) (next_tick v ns) tt (tick_in h v ns)

work_in : (h : Header) (v : Nodes) (nodes commands : ℕ) (ns : List ℕ) → PartIn h (next_work v nodes commands ns)
work_in h v nodes commands [] = tick_in h v (listed nodes)
work_in h v nodes commands (n ∷ ns) =
    if_either (PartIn h) (has_turn v commands n) (Some (event.Disk n, Working (commands - 1) (n ∷ ns))) (next_work v nodes most_commands ns) tt (work_in h v nodes most_commands ns)

delivery_in : (h : Header) (v : Nodes) (l : Links) (nodes : ℕ) (ks : List ℕ) → PartIn h (next_delivery v l nodes ks)
delivery_in h v l nodes [] = work_in h v nodes most_commands (listed nodes)
delivery_in h v l nodes (k ∷ ks) =
    if_either (PartIn h) (is_between nodes (packet_of l.packets k)) (Some (event.Deliver k, Delivering ks)) (next_delivery v l nodes ks) tt (delivery_in h v l nodes ks)

at_in : (h : Header) (v : Nodes) (l : Links) (nodes : ℕ) (stage : Stage) → PartIn h (next_at v l nodes stage)
at_in h v l nodes (Delivering numbers) = delivery_in h v l nodes numbers
at_in h v l nodes (Working commands ns) = work_in h v nodes commands ns
at_in h v l nodes (Ticking ns) = tick_in h v ns

map_in : {X Y : Type 0} (h : Header) (o : Option (Event × X)) (f : Event × X → Event × Y) → ((next : Event × X) → (f next).0 ≡ next.0) → PartIn h o → PartIn h (option_map f o)
map_in h None f same k = tt
map_in h (Some next) f same k = subst (IsInHeader h) (sym (same next)) k

or_in : {X : Type 0} (h : Header) (a b : Option (Event × X)) → PartIn h a → PartIn h b → PartIn h (option_or a b)
or_in h None b k l = l
or_in h (Some next) b k l = k

progress_in : (h : Header) (v : Nodes) (l : Links) (p : Progress) → PartIn h (next_in v l p)
progress_in h v l p = map_in h (next_at v l p.nodes p.stage) (λ (next : Event × Stage). (next.0, at p next.1)) (λ next. refl) (at_in h v l p.nodes p.stage)

from_in : (h : Header) (v : Nodes) (l : Links) (k nodes : ℕ) → PartIn h (next_from v l k nodes)
from_in h v l zero nodes = tt
from_in h v l (suc k) nodes = or_in h (next_in v l (round_of l (suc k) nodes)) (next_from v l k nodes) (progress_in h v l (round_of l (suc k) nodes)) (from_in h v l k nodes)

part_in : (h : Header) (s : Scene) (p : Progress) (e : Event) → option_map (λ (next : Event × Progress). next.0) (next_part s p) ≡ Some e → IsInHeader h e
part_in h s p e is =
    by_part (next_part s p) (or_in h (next_in s.nodes s.links p) (next_from s.nodes s.links (p.left - 1) p.nodes) (progress_in h s.nodes s.links p) (from_in h s.nodes s.links (p.left - 1) p.nodes)) is
  where
    by_part : (o : Option (Event × Progress)) → PartIn h o → option_map (λ (next : Event × Progress). next.0) o ≡ Some e → IsInHeader h e
    by_part None k same = absurd (none_some e same)
    by_part (Some next) k same = subst (IsInHeader h) (same_some next.0 e same) k

-- ---- one after another

still_in : (h : Header) (s : Scene) (ws : List Want) → WantsIn h ws → WantsIn h (still s ws)
still_in h s [] k = tt
still_in h s (Command n ∷ ws) k = if_either (WantsIn h) (is_some (due_at (Some (s.nodes.node n)))) (Command n ∷ ws) ws k k.1
still_in h s (Note e ∷ ws) k = k
still_in h s (Take n i ∷ ws) k = k
still_in h s (Deliver number x ∷ ws) k = k
still_in h s (Miss number x ∷ ws) k = k
still_in h s (Lose number x ∷ ws) k = k
still_in h s (Repeat number x ∷ ws) k = k
still_in h s (Write n d value ∷ ws) k = k
still_in h s (Refuse n d value cause ∷ ws) k = k

opens_in : (h : Header) (c : Cluster) (before s : Scene) (o : Option Progress) (x : Happening) → Opens before o x → SpeaksInHeader h x → WantsIn h (opened c s o x).wants
opens_in h c before s o (Speaks e) opens speaks = brings_in h c s e speaks
opens_in h c before s None (Begins e) opens speaks = absurd opens
opens_in h c before s (Some p) (Begins e) opens speaks = brings_in h c s e (part_in h before p e opens)
opens_in h c before s o _ opens speaks = tt

after_in : (h : Header) (c : Cluster) (before s : Scene) (ws : List Want) (o : Option Progress) (x : Happening) → Comes before ws o x → SpeaksInHeader h x → WantsIn h ws
    → WantsIn h (left c s ws o x).wants
after_in h c before s [] o x comes speaks k = opens_in h c before s o x comes speaks
after_in h c before s (w ∷ ws) o x comes speaks k = still_in h s ws k.1

takes_in : (h : Header) (before : Scene) (n now : ℕ) (ends : Outcome) (i : Input) (ws : List Want) (o : Option Progress) → Comes before ws o (Takes n now ends i) → WantsIn h ws
    → BootsInHeader h (Takes n now ends i)
takes_in h before n now ends i [] None comes k = absurd comes
takes_in h before n now ends i [] (Some p) comes k = absurd comes
takes_in h before n now ends i (Take m j ∷ ws) o comes k = subst (λ z. BootsInHeader h (Takes z now ends i)) (sym comes.0) (subst (λ z. BootsInHeader h (Takes m now ends z)) (sym comes.1) (want_in m j k.0))
  where
    want_in : (m : ℕ) (j : Input) → WantIn h (Take m j) → BootsInHeader h (Takes m now ends j)
    want_in m input.Boot is = is
    want_in m _ is = tt
takes_in h before n now ends i (Note e ∷ ws) o comes k = absurd comes
takes_in h before n now ends i (Deliver number x ∷ ws) o comes k = absurd comes
takes_in h before n now ends i (Miss number x ∷ ws) o comes k = absurd comes
takes_in h before n now ends i (Lose number x ∷ ws) o comes k = absurd comes
takes_in h before n now ends i (Repeat number x ∷ ws) o comes k = absurd comes
takes_in h before n now ends i (Command m ∷ ws) o comes k = absurd comes
takes_in h before n now ends i (Write m d value ∷ ws) o comes k = absurd comes
takes_in h before n now ends i (Refuse m d value cause ∷ ws) o comes k = absurd comes

happening_in : (h : Header) (before : Scene) (x : Happening) (d : Due) → IsDue before d x → WantsIn h d.wants → BootsInHeader h x
happening_in h before (Takes n now ends i) d comes k = takes_in h before n now ends i d.wants d.rounds comes k
happening_in h before _ d comes k = tt

all_in : (h : Header) (c : Cluster) (s : Scene) (d last : Due) (hs : List Happening) → ShapedFrom c s d hs last → AllByRecursion (SpeaksInHeader h) hs → WantsIn h d.wants
    → AllByRecursion (BootsInHeader h) hs
all_in h c s d last [] shaped speaks k = tt
all_in h c s d last (x ∷ hs) shaped speaks k = (
  happening_in h s x d shaped.0 k,
  all_in h c (happened c s x) (due_after c (happened c s x) d x) last hs shaped.1 speaks.1 (after_in h c s (happened c s x) d.wants d.rounds x shaped.0 speaks.0 k),
)

pub boots_are_of_the_header : BootsAreOfTheHeader
boots_are_of_the_header h cells hs shaped speaks = all_in h (first_cluster h) (first_scene h cells) nothing nothing hs shaped speaks tt
