-- Rounds.
use Rattle.std.specs.Prelude.{ℕ, zero, suc, ◌&&◌, Bool, false, List, [], ◌∷◌, Option, None, Some, if◌then◌else◌}
use Rattle.cl_base.specs.Limits.{most_nodes}
use Rattle.cl_base.specs.Numbers.{numbers_to}
use Rattle.cl_base.specs.Sets.{has}
use Rattle.interconnect.specs.Links.{Packet, packet_of}
use Rattle.pgr_device.specs.declared.command.PrCommand.{PrCommand}
use Rattle.node_model.specs.declared.input.Input.TheVariants as input
use Rattle.world_model.specs.Worlds.{Play, is_up}
use Rattle.world_model.specs.Sends.{giving}
use Rattle.world_model.specs.Packets.{delivering}
use Rattle.world_model.specs.Devices.{doing_command, due}

-- A packet between these nodes arrives.

abbrev pub is_between : ℕ → Option Packet → Bool
is_between nodes None = false
is_between nodes (Some x) = has nodes x.from && has nodes x.to

abbrev pub bringing : ℕ → ℕ → Play → Play
bringing nodes number p = if is_between nodes (packet_of p.world.links.packets number) then delivering number p else p

-- those of the numbers below this one, in their order
abbrev pub bringing_below : ℕ → ℕ → Play → Play
bringing_below nodes zero p = p
bringing_below nodes (suc number) p = bringing nodes number (bringing_below nodes number p)

-- all that are in flight now; what is sent meanwhile has greater numbers
abbrev pub bringing_all : ℕ → Play → Play
bringing_all nodes p = bringing_below nodes p.world.links.next p

-- A node does its queued commands until none is left; no node has so many.

abbrev pub doing_one : ℕ → Option (ℕ × PrCommand) → Play → Play
doing_one n None p = p
doing_one n (Some due) p = doing_command n p

unfoldable pub doing_some : ℕ → ℕ → Play → Play
doing_some n zero p = p
doing_some n (suc k) p = (λ (q : Play). doing_one n (due q.world n) q) (doing_some n k p)

unfoldable pub doing_all : ℕ → Play → Play
doing_all n p = doing_some n 4096 p

abbrev pub ticking_one : ℕ → Play → Play
ticking_one n p = if is_up p.world n then giving n input.Tick p else p

abbrev pub for_each : (ℕ → Play → Play) → List ℕ → Play → Play
for_each act [] p = p
for_each act (n ∷ ns) p = for_each act ns (act n p)

-- One round: packets, then commands, then ticks, each node by node ascending.
abbrev pub round_of : ℕ → List ℕ → Play → Play
round_of nodes listed p = for_each ticking_one listed (for_each doing_all listed (bringing_all nodes p))

abbrev pub rounds_of : ℕ → List ℕ → ℕ → Play → Play
rounds_of nodes listed zero p = p
rounds_of nodes listed (suc k) p = round_of nodes listed (rounds_of nodes listed k p)

unfoldable pub rounds : ℕ → ℕ → Play → Play
rounds nodes count p = rounds_of nodes (numbers_to nodes most_nodes) count p
