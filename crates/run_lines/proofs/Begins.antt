-- The part of a round that comes next is not skipped.
use Rattle.std.specs.Prelude.{ℕ, zero, suc, ◌-◌, ◌≡◌, ◌&&◌, nat_lt, Bool, true, false, List, [], ◌∷◌, Option, None, Some, is_some}
use Rattle.std.specs.Option.{option_map, option_or}
use Rattle.std.proofs.Common.{refl, subst}
use Rattle.std.proofs.lemmas.Bool.{cond_both}
use Rattle.cmm_attempt.proofs.Basics.{false_true, none_some, same_some}
use Rattle.interconnect.specs.Links.{Packet, packet_of}
use Rattle.schedule_text.specs.declared.event.Event.{Event}
use Rattle.schedule_text.specs.declared.event.Event.TheVariants as event
use Rattle.node_model.specs.declared.node.Node.{Node}
use Rattle.node_model.specs.declared.node.Node.TheVariants.{Down, Up}
use Rattle.world_model.specs.Devices.{due_at}
use Rattle.world_model.specs.Rounds.{is_between}
use Rattle.world_model.specs.Worlds.{is_up_node}
use Rattle.run_history.specs.Happenings.{IsUp}
use Rattle.run_history.specs.Rounds.{Progress, Stage, at, has_turn, listed, most_commands, next_at, next_delivery, next_from, next_in, next_part, next_tick, next_work, round_of}
use Rattle.run_history.specs.Rounds.Stage.{Delivering, Ticking, Working}
use Rattle.run_history.specs.Scenes.{Scene}
use Rattle.run_lines.specs.Entries.{MayBegin}

-- what comes, if anything does, is so
abbrev Comes : {X : Type 0} → (Event → Type 0) → Option (Event × X) → Type 0
Comes P None = Unit {0}
Comes P (Some next) = P next.0

up_there : (z : Node) → is_up_node (Some z) ≡ true → IsUp z
up_there Down e = absurd (false_true e)
up_there (Up x) e = tt

second_true : (a b : Bool) → (a && b) ≡ true → b ≡ true
second_true true b e = e
second_true false b e = absurd (false_true e)

between_flies : (nodes : ℕ) (o : Option Packet) → is_between nodes o ≡ true → is_some o ≡ true
between_flies nodes None e = absurd (false_true e)
between_flies nodes (Some x) e = refl

-- ---- in a round

tick_may : (s : Scene) (ns : List ℕ) → Comes (MayBegin s) (next_tick s.nodes ns)
tick_may s [] = tt
tick_may s (n ∷ ns) =
    cond_both (is_up_node (Some (s.nodes.node n))) (Some (event.Tick n, Ticking ns)) (next_tick s.nodes ns) (λ o. Comes (MayBegin s) o) (λ up. up_there (s.nodes.node n) up) (λ down. tick_may s ns)

work_may : (s : Scene) (nodes k : ℕ) (ns : List ℕ) → Comes (MayBegin s) (next_work s.nodes nodes k ns)
work_may s nodes k [] = tick_may s (listed nodes)
work_may s nodes k (n ∷ ns) =
    cond_both (has_turn s.nodes k n) (Some (event.Disk n, Working (k - 1) (n ∷ ns))) (next_work s.nodes nodes most_commands ns) (λ o. Comes (MayBegin s) o)
    (λ turn. second_true (nat_lt 0 k) (is_some (due_at (Some (s.nodes.node n)))) turn) (λ none. work_may s nodes most_commands ns)

packet_may : (s : Scene) (nodes : ℕ) (ks : List ℕ) → Comes (MayBegin s) (next_delivery s.nodes s.links nodes ks)
packet_may s nodes [] = work_may s nodes most_commands (listed nodes)
packet_may s nodes (k ∷ ks) =
    cond_both (is_between nodes (packet_of s.links.packets k)) (Some (event.Deliver k, Delivering ks)) (next_delivery s.nodes s.links nodes ks) (λ o. Comes (MayBegin s) o)
    (λ there. between_flies nodes (packet_of s.links.packets k) there) (λ none. packet_may s nodes ks)

at_may : (s : Scene) (nodes : ℕ) (stage : Stage) → Comes (MayBegin s) (next_at s.nodes s.links nodes stage)
at_may s nodes (Delivering ks) = packet_may s nodes ks
at_may s nodes (Working k ns) = work_may s nodes k ns
at_may s nodes (Ticking ns) = tick_may s ns

-- ---- in rounds

mapped : (P : Event → Type 0) (p : Progress) (o : Option (Event × Stage)) → Comes P o → Comes P (option_map (λ (next : Event × Stage). (next.0, at p next.1)) o)
mapped P p None h = tt
mapped P p (Some next) h = h

in_may : (s : Scene) (p : Progress) → Comes (MayBegin s) (next_in s.nodes s.links p)
in_may s p = mapped (MayBegin s) p (next_at s.nodes s.links p.nodes p.stage) (at_may s p.nodes p.stage)

either : (P : Event → Type 0) (o q : Option (Event × Progress)) → Comes P o → Comes P q → Comes P (option_or o q)
either P None q h k = k
either P (Some next) q h k = h

from_may : (s : Scene) (k nodes : ℕ) → Comes (MayBegin s) (next_from s.nodes s.links k nodes)
from_may s zero nodes = tt
from_may s (suc k) nodes =
    either (MayBegin s) (next_in s.nodes s.links (round_of s.links (suc k) nodes)) (next_from s.nodes s.links k nodes) (in_may s (round_of s.links (suc k) nodes)) (from_may s k nodes)

comes_so : (P : Event → Type 0) (o : Option (Event × Progress)) (e : Event) → option_map (λ (next : Event × Progress). next.0) o ≡ Some e → Comes P o → P e
comes_so P None e is h = absurd (none_some e is)
comes_so P (Some next) e is h = subst P (same_some next.0 e is) h

pub next_may : (s : Scene) (p : Progress) (e : Event) → option_map (λ (next : Event × Progress). next.0) (next_part s p) ≡ Some e → MayBegin s e
next_may s p e is =
    comes_so (MayBegin s) (next_part s p) e is
    (either (MayBegin s) (next_in s.nodes s.links p) (next_from s.nodes s.links (p.left - 1) p.nodes) (in_may s p) (from_may s (p.left - 1) p.nodes))
