-- The lines that a seed gives are lines of the grammar.
use Rattle.std.proofs.Common.{◌≡◌, ℕ, zero, suc, ◌+◌, ◌-◌, ◌/◌, ◌%◌, ◌^◌, ◌<◌, ◌≤◌, ◌==◌, Bool, true, false, if◌then◌else◌, min, max, nat_lt, List, [], ◌∷◌, Ok, refl, arith, le-ltb}
use Rattle.cl_base.specs.Sets.{set_with}
use Rattle.schedule_text.specs.declared.event.Event.{Event}
use Rattle.schedule_text.specs.declared.header.Head.{Head}
use Rattle.schedule_text.specs.declared.header.Head.TheVariants as head
use Rattle.schedule_text.specs.declared.header.HeaderState.TheVariants.{Opening, Devices}
use Rattle.schedule_text.specs.declared.line.Line.TheVariants as line
use Rattle.schedule_text.specs.declared.line.SoFar.{SoFar}
use Rattle.schedule_text.specs.Choices.{device_kind_in}
use Rattle.schedule_text.specs.EventNames.{event_in}
use Rattle.schedule_text.specs.Fields.{node_in, rounds_in}
use Rattle.schedule_text.specs.Headers.{Over, header_step}
use Rattle.schedule_text.specs.Lines.{line_of, so_far_after}
use Rattle.schedule_gen.specs.declared.draw.Form.{Form}
use Rattle.schedule_gen.specs.declared.draw.Form.TheVariants.{Tick, Next, Drop, Again, Disk, Write, Crash, Boot, RoundOfAll, Create, RoundOfTwo, Clock}
use Rattle.schedule_gen.specs.Draws.{drawn, first_node, second_node, form_of}
use Rattle.schedule_gen.specs.Grammar.{four_nodes, start, lines_from, Leads, AreRead, AreReadAs}
use Rattle.schedule_gen.specs.Events.{event_meant, event_at, events_from}
use Rattle.schedule_gen.specs.Lines.{line_at, event_words, spaced}
use Rattle.schedule_gen.proofs.EventLemmas.{IsOneOfFour, tick_read, next_read, drop_read, again_read, disk_read, write_read, crash_read, boot_read, round_of_all_read, create_read, round_of_two_read, clock_read}
use Rattle.schedule_gen.proofs.ProgressLemmas.{line_at-event}

pub header_leads : (seed : ℕ) → Leads Opening (lines_from seed 0 5) (Devices four_nodes)
unfolding set_with device_kind_in
header_leads seed = (_, refl, (_, refl, (_, refl, (_, refl, (_, refl, refl)))))

pub header_over : (seed : ℕ) → header_step (Devices four_nodes) (line_at seed 5) ≡ Over
header_over seed = refl

-- the draw names two of the four nodes
first_is : (x : ℕ) → IsOneOfFour (first_node x)
first_is x = record { low = omega arith; high = omega arith }

other_of_four : (a b : ℕ) → IsOneOfFour a → IsOneOfFour b → (same : Bool) → IsOneOfFour (if same then a % 4 + 1 else b)
other_of_four a b is too true = record { low = omega arith; high = omega arith }
other_of_four a b is too false = too

second_is : (x : ℕ) → IsOneOfFour (second_node x)
second_is x = other_of_four (first_node x) ((x / 2 ^ 48) % 4 + 1) (first_is x) (record { low = omega arith; high = omega arith }) ((x / 2 ^ 48) % 4 + 1 == first_node x)

lesser_is : (a b : ℕ) → IsOneOfFour a → IsOneOfFour b → IsOneOfFour (min a b)
lesser_is a b is too =
    let al : 1 ≤ a = is.low in let ah : a ≤ 4 = is.high in let bl : 1 ≤ b = too.low in let bh : b ≤ 4 = too.high in
    record { low = omega arith; high = omega arith }

greater_is : (a b : ℕ) → IsOneOfFour a → IsOneOfFour b → IsOneOfFour (max a b)
greater_is a b is too =
    let al : 1 ≤ a = is.low in let ah : a ≤ 4 = is.high in let bl : 1 ≤ b = too.low in let bh : b ≤ 4 = too.high in
    record { low = omega arith; high = omega arith }

-- a line is read as this event; the clock stands at most at this second then, and there are at most so many rounds
record IsRead (s : SoFar) (bytes : List ℕ) (meant : Event) (clock rounds : ℕ) : Type 0 where
  is : line_of (head.Cluster four_nodes) s bytes ≡ Ok (line.Event meant)
  clock_at : (so_far_after s (line.Event meant)).clock ≤ clock
  rounds_then : (so_far_after s (line.Event meant)).rounds ≤ rounds

form_read : (form : Form) (a b i : ℕ) (s : SoFar) → IsOneOfFour a → IsOneOfFour b → s.clock ≤ i → s.rounds ≤ 12 + i → i < 90000
    → IsRead s (spaced (event_words form a b i)) (event_meant form a b i) (i + 1) (12 + (i + 1))
form_read Tick a b i s is too later room low = record { is = tick_read s a is; clock_at = omega arith; rounds_then = omega arith }
form_read Next a b i s is too later room low = record { is = next_read s a b is too; clock_at = omega arith; rounds_then = omega arith }
form_read Drop a b i s is too later room low = record { is = drop_read s a b is too; clock_at = omega arith; rounds_then = omega arith }
form_read Again a b i s is too later room low = record { is = again_read s a b is too; clock_at = omega arith; rounds_then = omega arith }
form_read Disk a b i s is too later room low = record { is = disk_read s a is; clock_at = omega arith; rounds_then = omega arith }
form_read Write a b i s is too later room low = record { is = write_read s a i is (omega arith); clock_at = omega arith; rounds_then = omega arith }
form_read Crash a b i s is too later room low = record { is = crash_read s a is; clock_at = omega arith; rounds_then = omega arith }
form_read Boot a b i s is too later room low = record { is = boot_read s a is; clock_at = omega arith; rounds_then = omega arith }
form_read RoundOfAll a b i s is too later room low = record { is = round_of_all_read s (omega arith); clock_at = omega arith; rounds_then = omega arith }
form_read Create a b i s is too later room low = record { is = create_read s a (i % 16) is (omega arith); clock_at = omega arith; rounds_then = omega arith }
form_read RoundOfTwo a b i s is too later room low =
    record { is = round_of_two_read s (min a b) (max a b) (lesser_is a b is too) (greater_is a b is too) (omega arith); clock_at = omega arith; rounds_then = omega arith }
form_read Clock a b i s is too later room low = record { is = clock_read s i later (omega arith); clock_at = omega arith; rounds_then = omega arith }

event_at-event : (seed n : ℕ) → event_at seed (10 + n) ≡ (let x = drawn seed (n + 1) in event_meant (form_of x) (first_node x) (second_node x) n)
event_at-event seed n =
    let late : nat_lt (10 + n) 9 ≡ false = le-ltb (10 + n) 9 (omega arith) in
    let later : nat_lt (10 + n) 10 ≡ false = le-ltb (10 + n) 10 (omega arith) in
    let index : (10 + n) - 10 ≡ n = omega arith in
    rw (late, later, index) refl

event_line_read : (seed i : ℕ) (s : SoFar) → s.clock ≤ i → s.rounds ≤ 12 + i → i < 90000 → IsRead s (line_at seed (10 + i)) (event_at seed (10 + i)) (i + 1) (12 + (i + 1))
event_line_read seed i s later room low =
    let x : ℕ = drawn seed (i + 1) in
    rw (line_at-event seed i, event_at-event seed i) (form_read (form_of x) (first_node x) (second_node x) i s (first_is x) (second_is x) later room low)

events_read : (seed : ℕ) (lines first i : ℕ) (s : SoFar) → first ≡ 10 + i → s.clock ≤ i → s.rounds ≤ 12 + i → i + lines ≤ 90000
    → AreReadAs (head.Cluster four_nodes) s (lines_from seed first lines) (events_from seed first lines)
events_read seed zero first i s at later room most = tt
events_read seed (suc lines) first i s at later room most =
    let line_read : IsRead s (line_at seed first) (event_at seed first) (i + 1) (12 + (i + 1)) = rw at (event_line_read seed i s later room (omega arith)) in
    (line_read.is, events_read seed lines (first + 1) (i + 1) (so_far_after s (line.Event (event_at seed first))) (omega arith) line_read.clock_at line_read.rounds_then (omega arith))

opening_read : (seed count : ℕ) → count ≤ 90000
    → AreReadAs (head.Cluster four_nodes) start (lines_from seed 5 (suc (suc (suc (suc (suc count)))))) (events_from seed 5 (suc (suc (suc (suc (suc count))))))
unfolding set_with event_in node_in rounds_in
opening_read seed count most =
    (refl, (refl, (refl, (refl, (refl, events_read seed count 10 0 (record { clock = 0; rounds = 12 }) refl (omega arith) (omega arith) (omega arith))))))

pub lines_read_as : (seed count : ℕ) → count ≤ 90000 → AreReadAs (head.Cluster four_nodes) start (lines_from seed 5 (5 + count)) (events_from seed 5 (5 + count))
lines_read_as seed count most =
    let five : 5 + count ≡ suc (suc (suc (suc (suc count)))) = omega arith in
    rw five (opening_read seed count most)

-- lines that are read as events are read
are_read : (h : Head) (s : SoFar) (lines : List (List ℕ)) (events : List Event) → AreReadAs h s lines events → AreRead h s lines
are_read h s [] events are = tt
are_read h s (bytes ∷ lines) [] are = absurd are
are_read h s (bytes ∷ lines) (event ∷ events) are = (line.Event event, are.0, are_read h (so_far_after s (line.Event event)) lines events are.1)

pub lines_read : (seed count : ℕ) → count ≤ 90000 → AreRead (head.Cluster four_nodes) start (lines_from seed 5 (5 + count))
lines_read seed count most =
    are_read (head.Cluster four_nodes) start (lines_from seed 5 (5 + count)) (events_from seed 5 (5 + count)) (lines_read_as seed count most)
