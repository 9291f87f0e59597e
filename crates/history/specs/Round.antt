-- Round: `rounds K G` is K times this: every packet that is in flight between nodes of G when the round begins is delivered, in the order
-- of numbers; then each node of G, ascending, does its device commands until none is queued; then each running node of G ticks,
-- ascending. Each of these is a part. After the last one comes `rounds done`.
use Rattle.std.specs.Prelude.{◌≡◌, ℕ, ◌-◌, ◌==◌, ◌&&◌, nat_lt, Bool, true, false, if◌then◌else◌, List, [], ◌∷◌, map, Option, Some, None, option_map, is_some}
use Rattle.std.specs.List.{filter}
use Rattle.std.specs.Option.{option_and_then, option_or}
use Rattle.cl_base.specs.Sets.{has}
use Rattle.interconnect.specs.Links.{Packet}
use Rattle.schedule_text.specs.declared.event.Event.{Event}
use Rattle.schedule_text.specs.declared.event.Event.TheVariants.{Deliver, Disk, Tick}
use Rattle.history.specs.Moment.{Moment, Said, Part, Told}
use Rattle.history.specs.Trace.{rounds, rounds_done}
use Rattle.history.specs.Order.{Always}
use Rattle.history.specs.Setting.{Setting, nodes_of}
use Rattle.history.specs.Links.{links_after, in_flight}
use Rattle.history.specs.Member.{is_up}
use Rattle.history.specs.Queue.{has_work, queue_is_open}

-- what is left of a round
pub data Stage : Type 0 where
  -- these packets are to be delivered, then the nodes work
  Delivering : (packets : List ℕ) → Stage
  -- these nodes are to do their device commands, then the nodes tick
  Working : (nodes : List ℕ) → Stage
  -- these nodes are to tick
  Ticking : (nodes : List ℕ) → Stage

pub record Progress : Type 0 where
  -- how many rounds are left, this one included
  pub left : ℕ
  pub nodes : ℕ
  pub stage : Stage

-- a part that comes next, and what is left then
pub record Next : Type 0 where
  pub event : Event
  pub after : Progress

abbrev pub is_between : ℕ → Packet → Bool
is_between nodes p = has nodes p.from && has nodes p.to

-- the packets in flight between nodes of the set, in the order of numbers
abbrev pub between : Setting → ℕ → List Moment → List ℕ
between S nodes moments = map (λ p. p.number) (filter (is_between nodes) (links_after S.cells moments).packets)

abbrev pub round_of : Setting → ℕ → ℕ → List Moment → Progress
round_of S left nodes moments = record { left = left; nodes = nodes; stage = Delivering (between S nodes moments) }

-- what passes over those that have nothing to do
abbrev pub next_tick : List Moment → Progress → List ℕ → Option Next
next_tick moments p [] = None
next_tick moments p (n ∷ others) =
    if is_up n moments then Some (record { event = Tick n; after = record p { stage = Ticking others } }) else next_tick moments p others

abbrev pub is_disk_of : ℕ → Option Event → Bool
is_disk_of n (Some (Disk m)) = m == n
is_disk_of n _ = false

-- where the tasks of a node are not told, the part that comes shows whether it has one
abbrev pub works : Setting → Option Event → ℕ → List Moment → Bool
works S coming n moments = if queue_is_open S n moments then is_disk_of n coming else has_work S n moments

abbrev pub next_work : Setting → Option Event → List Moment → Progress → List ℕ → Option Next
next_work S coming moments p [] = next_tick moments p (nodes_of p.nodes)
next_work S coming moments p (n ∷ others) =
    if works S coming n moments then Some (record { event = Disk n; after = record p { stage = Working (n ∷ others) } }) else next_work S coming moments p others

abbrev pub next_delivery : Setting → Option Event → List Moment → Progress → List ℕ → Option Next
next_delivery S coming moments p [] = next_work S coming moments p (nodes_of p.nodes)
next_delivery S coming moments p (k ∷ others) =
    if is_some (in_flight S.cells k moments) then Some (record { event = Deliver k; after = record p { stage = Delivering others } })
    else next_delivery S coming moments p others

-- the part that comes next in this round
abbrev pub next_at : Setting → Option Event → List Moment → Progress → Stage → Option Next
next_at S coming moments p (Delivering packets) = next_delivery S coming moments p packets
next_at S coming moments p (Working nodes) = next_work S coming moments p nodes
next_at S coming moments p (Ticking nodes) = next_tick moments p nodes

abbrev pub next_in : Setting → Option Event → List Moment → Progress → Option Next
next_in S coming moments p = next_at S coming moments p p.stage

-- the same, or the first part of another round, where one is left
abbrev pub next_part : Setting → Option Event → List Moment → Progress → Option Next
next_part S coming moments p =
    option_or (next_in S coming moments p) (if nat_lt 1 p.left then next_in S coming moments (round_of S (p.left - 1) p.nodes moments) else None)

-- what is left of the rounds that are under way after these moments; None outside of rounds
abbrev pub progress_of : Setting → List Moment → Option Progress
progress_of S [] = None
progress_of S (rounds count nodes ∷ before) = Some (round_of S count nodes before)
progress_of S (Said line ∷ before) = None
progress_of S (rounds_done ∷ before) = None
progress_of S (Part event ∷ before) = option_and_then (λ p. option_map (λ next. next.after) (next_part S (Some event) before p)) (progress_of S before)
progress_of S (Told entry ∷ before) = progress_of S before

-- the part that is to come next
abbrev pub part_due : Setting → Option Event → List Moment → Option Event
part_due S coming before = option_and_then (λ p. option_map (λ next. next.event) (next_part S coming before p)) (progress_of S before)

abbrev pub KeepsRound : Setting → List Moment → Moment → Type 0
KeepsRound S before (Said line) = progress_of S before ≡ None
KeepsRound S before (Part event) = part_due S (Some event) before ≡ Some event
KeepsRound S before rounds_done = (is_some (progress_of S before) ≡ true) × (part_due S None before ≡ None)
KeepsRound S before _ = Unit {0}

abbrev pub Rounds : Setting → List Moment → Type 0
Rounds S moments = Always (KeepsRound S) moments
