-- The events that the lines of a seed mean, from the first line behind the header on.
use Rattle.std.specs.Prelude.{ℕ, zero, suc, ◌+◌, ◌-◌, ◌%◌, min, max, nat_lt, if◌then◌else◌, List, [], ◌∷◌, ◌++◌, codes}
use Rattle.std.specs.Fmt.{decimal}
use Rattle.cl_base.specs.Numbers.{first_numbers}
use Rattle.cl_base.specs.Sets.{set_with}
use Rattle.schedule_text.specs.declared.event.Event.{Event}
use Rattle.schedule_text.specs.declared.event.Event.TheVariants as event
use Rattle.schedule_gen.specs.declared.draw.Form.{Form}
use Rattle.schedule_gen.specs.declared.draw.Form.TheVariants.{Tick, Next, Drop, Again, Disk, Write, Crash, Boot, RoundOfAll, Create, RoundOfTwo, Clock}
use Rattle.schedule_gen.specs.Draws.{drawn, first_node, second_node, form_of}

-- the event of a form, of the nodes a and b, in the i-th line after the opening, from 0
abbrev pub event_meant : Form → ℕ → ℕ → ℕ → Event
event_meant Tick a b i = event.Tick a
event_meant Next a b i = event.Next a b
event_meant Drop a b i = event.Drop a b
event_meant Again a b i = event.Again a b
event_meant Disk a b i = event.Disk a
event_meant Write a b i = event.Write a 2 i
event_meant Crash a b i = event.Crash a
event_meant Boot a b i = event.Boot a
event_meant RoundOfAll a b i = event.Rounds 1 (first_numbers 4)
event_meant Create a b i = event.Command a (codes "clrg create g" ++ decimal (i % 16) ++ codes " 1,2,3,4")
event_meant RoundOfTwo a b i = event.Rounds 1 (set_with (set_with 0 (min a b)) (max a b))
event_meant Clock a b i = event.Clock i

-- the four nodes start and have twelve rounds; then comes one event for each draw
abbrev pub event_at : ℕ → ℕ → Event
event_at seed k =
    if nat_lt k 9 then event.Boot (k - 4)
    else if nat_lt k 10 then event.Rounds 12 (first_numbers 4)
    else (let x = drawn seed (k - 10 + 1) in event_meant (form_of x) (first_node x) (second_node x) (k - 10))

-- so many of them, from that of the line with this number on
abbrev pub events_from : ℕ → ℕ → ℕ → List Event
events_from seed first zero = []
events_from seed first (suc events) = event_at seed first ∷ events_from seed (first + 1) events
