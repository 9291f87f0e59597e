-- The parts of rounds. `rounds K G` is K times this: every packet that is in flight between nodes of G as the round begins is delivered, in the order of
-- numbers; then each node of G, ascending, does its device commands until none is due, or it has done the most that the world lets it do; then each node
-- of G that is up ticks, ascending. What has nothing to do is passed over.
use Rattle.std.specs.Prelude.{ℕ, zero, suc, ◌-◌, ◌&&◌, nat_lt, Bool, List, [], ◌∷◌, ◌++◌, Option, None, Some, is_some, if◌then◌else◌}
use Rattle.std.specs.Option.{option_map, option_or}
use Rattle.cl_base.specs.Limits.{most_nodes}
use Rattle.cl_base.specs.Numbers.{numbers_to}
use Rattle.interconnect.specs.Links.{Links, packet_of}
use Rattle.schedule_text.specs.declared.event.Event.{Event}
use Rattle.schedule_text.specs.declared.event.Event.TheVariants as event
use Rattle.world_model.specs.Devices.{due_at}
use Rattle.world_model.specs.Rounds.{is_between}
use Rattle.world_model.specs.Worlds.{is_up_node}
use Rattle.refinement.specs.Runs.{Nodes}
use Rattle.run_history.specs.Scenes.{Scene}

-- what is left of a round
pub data Stage : Type 0 where
  Delivering : (numbers : List ℕ) → Stage  -- the packets of these numbers are to come, then the nodes work
  Working : (commands : ℕ) (nodes : List ℕ) → Stage  -- these nodes are to do their commands, the first of them so many yet at most; then the nodes tick
  Ticking : (nodes : List ℕ) → Stage  -- these nodes are to tick

pub record Progress : Type 0 where
  pub left : ℕ  -- how many rounds are left, this one included
  pub nodes : ℕ
  pub stage : Stage

abbrev pub at : Progress → Stage → Progress
at p stage = record p { stage = stage }

-- the nodes of a set, ascending
unfoldable pub listed : ℕ → List ℕ
listed nodes = numbers_to nodes most_nodes

-- so many commands a node does in one round at most
unfoldable pub most_commands : ℕ
most_commands = 4096

-- the numbers of all packets that were sent before the one of this number
abbrev pub numbers_below : ℕ → List ℕ
numbers_below zero = []
numbers_below (suc k) = numbers_below k ++ k ∷ []

-- a round that begins: what is sent meanwhile has greater numbers
abbrev pub round_of : Links → ℕ → ℕ → Progress
round_of links left nodes = record { left = left; nodes = nodes; stage = Delivering (numbers_below links.next) }

-- ---- the part that comes next, and what is left then

abbrev pub next_tick : Nodes → List ℕ → Option (Event × Stage)
next_tick v [] = None
next_tick v (n ∷ ns) = if is_up_node (Some (v.node n)) then Some (event.Tick n, Ticking ns) else next_tick v ns

-- a command of n is due, and it may do so many yet
abbrev pub has_turn : Nodes → ℕ → ℕ → Bool
has_turn v commands n = nat_lt 0 commands && is_some (due_at (Some (v.node n)))

abbrev pub next_work : Nodes → ℕ → ℕ → List ℕ → Option (Event × Stage)
next_work v nodes commands [] = next_tick v (listed nodes)
next_work v nodes commands (n ∷ ns) =
    if has_turn v commands n then Some (event.Disk n, Working (commands - 1) (n ∷ ns)) else next_work v nodes most_commands ns

abbrev pub next_delivery : Nodes → Links → ℕ → List ℕ → Option (Event × Stage)
next_delivery v links nodes [] = next_work v nodes most_commands (listed nodes)
next_delivery v links nodes (k ∷ ks) =
    if is_between nodes (packet_of links.packets k) then Some (event.Deliver k, Delivering ks) else next_delivery v links nodes ks

abbrev pub next_at : Nodes → Links → ℕ → Stage → Option (Event × Stage)
next_at v links nodes (Delivering numbers) = next_delivery v links nodes numbers
next_at v links nodes (Working commands ns) = next_work v nodes commands ns
next_at v links nodes (Ticking ns) = next_tick v ns

-- in this round
abbrev pub next_in : Nodes → Links → Progress → Option (Event × Progress)
next_in v links p = option_map (λ (next : Event × Stage). (next.0, at p next.1)) (next_at v links p.nodes p.stage)

-- in so many rounds that are to come
abbrev pub next_from : Nodes → Links → ℕ → ℕ → Option (Event × Progress)
next_from v links zero nodes = None
next_from v links (suc k) nodes = option_or (next_in v links (round_of links (suc k) nodes)) (next_from v links k nodes)

abbrev pub next_part : Scene → Progress → Option (Event × Progress)
next_part s p = option_or (next_in s.nodes s.links p) (next_from s.nodes s.links (p.left - 1) p.nodes)

-- what is left once a line has come that asks for rounds, in the scene then
abbrev pub starting : Links → ℕ → ℕ → Progress
starting links zero nodes = record { left = 0; nodes = nodes; stage = Ticking [] }
starting links (suc k) nodes = round_of links (suc k) nodes

abbrev pub begun_by : Scene → Event → Option Progress
begun_by s (event.Rounds count nodes) = Some (starting s.links count nodes)
begun_by s _ = None
