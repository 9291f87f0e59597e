-- The parts of rounds as `history` has them, over any way to tell which nodes have work. What does not ask for that is `history`'s own.
use Rattle.std.specs.Prelude.{◌≡◌, ℕ, ◌-◌, nat_lt, Bool, true, if◌then◌else◌, List, [], ◌∷◌, Option, Some, None, option_map, is_some}
use Rattle.std.specs.Option.{option_and_then, option_or}
use Rattle.schedule_text.specs.declared.event.Event.{Event}
use Rattle.schedule_text.specs.declared.event.Event.TheVariants.{Deliver, Disk}
use Rattle.history.specs.Links.{in_flight}
use Rattle.history.specs.Moment.{Moment, Said, Part, Told}
use Rattle.history.specs.Order.{Always}
use Rattle.history.specs.Round.{Next, Progress, Stage, is_disk_of, next_tick, round_of}
use Rattle.history.specs.Round.Stage.{Delivering, Working, Ticking}
use Rattle.history.specs.Setting.{Setting, nodes_of}
use Rattle.history.specs.Trace.{rounds, rounds_done}

-- whether a node has work, by the part that comes and by what was before
abbrev pub Works : Type 0
Works = Option Event → ℕ → List Moment → Bool

-- the part that comes alone shows it
abbrev pub shown : Works
shown coming n moments = is_disk_of n coming

abbrev pub next_work : Works → Option Event → List Moment → Progress → List ℕ → Option Next
next_work works coming moments p [] = next_tick moments p (nodes_of p.nodes)
next_work works coming moments p (n ∷ others) =
    if works coming n moments then Some (record { event = Disk n; after = record p { stage = Working (n ∷ others) } }) else next_work works coming moments p others

abbrev pub next_delivery : Setting → Works → Option Event → List Moment → Progress → List ℕ → Option Next
next_delivery S works coming moments p [] = next_work works coming moments p (nodes_of p.nodes)
next_delivery S works coming moments p (k ∷ others) =
    if is_some (in_flight S.cells k moments) then Some (record { event = Deliver k; after = record p { stage = Delivering others } })
    else next_delivery S works coming moments p others

-- the part that comes next in this round
abbrev pub next_at : Setting → Works → Option Event → List Moment → Progress → Stage → Option Next
next_at S works coming moments p (Delivering packets) = next_delivery S works coming moments p packets
next_at S works coming moments p (Working nodes) = next_work works coming moments p nodes
next_at S works coming moments p (Ticking nodes) = next_tick moments p nodes

abbrev pub next_in : Setting → Works → Option Event → List Moment → Progress → Option Next
next_in S works coming moments p = next_at S works coming moments p p.stage

-- the same, or the first part of another round, where one is left
abbrev pub next_part : Setting → Works → Option Event → List Moment → Progress → Option Next
next_part S works coming moments p =
    option_or (next_in S works coming moments p) (if nat_lt 1 p.left then next_in S works coming moments (round_of S (p.left - 1) p.nodes moments) else None)

-- what is left of the rounds that are under way after these moments; None outside of rounds
abbrev pub progress_of : Setting → Works → List Moment → Option Progress
progress_of S works [] = None
progress_of S works (rounds count nodes ∷ before) = Some (round_of S count nodes before)
progress_of S works (Said line ∷ before) = None
progress_of S works (rounds_done ∷ before) = None
progress_of S works (Part event ∷ before) =
    option_and_then (λ p. option_map (λ next. next.after) (next_part S works (Some event) before p)) (progress_of S works before)
progress_of S works (Told entry ∷ before) = progress_of S works before

-- the part that is to come next
abbrev pub part_due : Setting → Works → Option Event → List Moment → Option Event
part_due S works coming before = option_and_then (λ p. option_map (λ next. next.event) (next_part S works coming before p)) (progress_of S works before)

-- a line comes only outside of rounds, every part is the one that is due, and `rounds done` comes where no part is left
abbrev pub KeepsParts : Setting → Works → List Moment → Moment → Type 0
KeepsParts S works before (Said line) = progress_of S works before ≡ None
KeepsParts S works before (Part event) = part_due S works (Some event) before ≡ Some event
KeepsParts S works before rounds_done = (is_some (progress_of S works before) ≡ true) × (part_due S works None before ≡ None)
KeepsParts S works before _ = Unit {0}

abbrev pub PartsInOrder : Setting → Works → List Moment → Type 0
PartsInOrder S works moments = Always (KeepsParts S works) moments
