-- How what is left of rounds in the world's scenes stands to what is left by the lines.
use Rattle.std.specs.Prelude.{ℕ, suc, ◌+◌, ◌-◌, ◌≡◌, ◌≢◌, ◌≤◌, ◌<◌, ◌⊎◌, Bool, false, List, [], ◌∷◌, filter, Option, None, Some}
use Rattle.std.specs.List.{AllByRecursion}
use Rattle.std.specs.Option.{option_or}
use Rattle.interconnect.specs.Links.{Links, Packet, packet_of}
use Rattle.schedule_text.specs.declared.event.Event.{Event}
use Rattle.history.specs.Moment.{Moment}
use Rattle.history.specs.Round.{Progress, Stage}
use Rattle.history.specs.Round.Stage.{Delivering, Working, Ticking}
use Rattle.refinement.specs.Runs.{Nodes}
use Rattle.world_model.specs.Rounds.{is_between}
use Rattle.run_history.specs.Rounds as world
use Rattle.run_history.specs.Rounds.{has_turn, listed, most_commands, next_at, next_from, next_in, numbers_below}
use Rattle.run_lines.specs.rounds.Laws.{in_a_row}

-- ---- numbers

-- n is among these
abbrev pub IsIn : ℕ → List ℕ → Type 0
IsIn n [] = ⊥
IsIn n (m ∷ ms) = (m ≡ n) ⊎ IsIn n ms

abbrev pub Lacks : ℕ → List ℕ → Type 0
Lacks n ms = AllByRecursion (λ m. m ≢ n) ms

-- none stands twice
abbrev pub Differ : List ℕ → Type 0
Differ [] = Unit {0}
Differ (n ∷ ns) = Lacks n ns × Differ ns

-- nodes of the set, none of them twice
pub record AreOf (nodes : ℕ) (ns : List ℕ) : Type 0 where
  pub differ : Differ ns
  pub among : AllByRecursion (λ n. IsIn n (listed nodes)) ns

-- ---- what is left

-- Of all numbers from here on those are kept whose packet was in flight between the nodes as the round began; a packet that is in flight now was so then.
pub record SamePackets (l : Links) (nodes : ℕ) (all kept : List ℕ) : Type 0 where
  pub test : ℕ → Bool
  pub bound : ℕ
  pub below : AllByRecursion (λ k. k < bound) all
  pub old : bound ≤ l.next
  pub are : kept ≡ filter test all
  pub right : (k : ℕ) (x : Packet) → k < bound → packet_of l.packets k ≡ Some x → test k ≡ is_between nodes (Some x)

-- what the first of the nodes may do yet, and what it did, are all that it may do in a round
abbrev pub Reckons : ℕ → List ℕ → List Moment → Type 0
Reckons commands [] moments = Unit {0}
Reckons commands (n ∷ ns) moments = most_commands ≤ commands + in_a_row n moments

abbrev pub SameStage : Links → List Moment → ℕ → world.Stage → Stage → Type 0
SameStage l moments nodes (world.Delivering all) (Delivering kept) = SamePackets l nodes all kept
SameStage l moments nodes (world.Working commands ns) (Working ms) = (ms ≡ ns) × AreOf nodes ns × Reckons commands ns moments
SameStage l moments nodes (world.Ticking ns) (Ticking ms) = ms ≡ ns
SameStage l moments nodes _ _ = ⊥

pub record SameLeft (l : Links) (moments : List Moment) (p : world.Progress) (q : Progress) : Type 0 where
  pub left : q.left ≡ p.left
  pub nodes : q.nodes ≡ p.nodes
  pub stage : SameStage l moments p.nodes p.stage q.stage

abbrev pub SameRounds : Links → List Moment → Option world.Progress → Option Progress → Type 0
SameRounds l moments None None = Unit {0}
SameRounds l moments (Some p) (Some q) = SameLeft l moments p q
SameRounds l moments _ _ = ⊥

-- ---- which nodes have work

-- it is told of these nodes, one after another, up to the first that has a turn
abbrev pub TellsWork : (ℕ → Bool) → Nodes → ℕ → List ℕ → Type 0
TellsWork W v commands [] = Unit {0}
TellsWork W v commands (n ∷ ns) = (has_turn v commands n ≡ W n) × (has_turn v commands n ≡ false → TellsWork W v most_commands ns)

-- no packet of these numbers is in flight between the nodes
abbrev pub AllPassed : Links → ℕ → List ℕ → Type 0
AllPassed l nodes ks = AllByRecursion (λ k. is_between nodes (packet_of l.packets k) ≡ false) ks

-- .. of the nodes that come next
abbrev pub TellsStage : (ℕ → Bool) → Nodes → Links → ℕ → world.Stage → Type 0
TellsStage W v l nodes (world.Delivering ks) = AllPassed l nodes ks → TellsWork W v most_commands (listed nodes)
TellsStage W v l nodes (world.Working commands ns) = TellsWork W v commands ns
TellsStage W v l nodes (world.Ticking ns) = Unit {0}

-- .. in this round, and in the next, where nothing is left of this one
pub record TellsPart (W : ℕ → Bool) (v : Nodes) (l : Links) (p : world.Progress) : Type 0 where
  pub here : TellsStage W v l p.nodes p.stage
  pub later : (k : ℕ) → (p.left - 1) ≡ suc k → next_at v l p.nodes p.stage ≡ None → TellsStage W v l p.nodes (world.Delivering (numbers_below l.next))

-- the part that comes next in the world
abbrev pub next_of : Nodes → Links → world.Progress → Option (Event × world.Progress)
next_of v l p = option_or (next_in v l p) (next_from v l (p.left - 1) p.nodes)
