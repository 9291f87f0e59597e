-- The draws, and what each chooses: a form, and two nodes of four.
use Rattle.std.specs.Prelude.{ℕ, suc, zero, ◌+◌, ◌*◌, ◌/◌, ◌%◌, ◌^◌, ◌==◌, if◌then◌else◌}
use Rattle.schedule_gen.specs.declared.draw.Form.{Form}
use Rattle.schedule_gen.specs.declared.draw.Form.TheVariants.{Tick, Next, Drop, Again, Disk, Write, Crash, Boot, RoundOfAll, Create, RoundOfTwo, Clock}

abbrev pub draw : ℕ → ℕ
draw x = (x * 6364136223846793005 + 1442695040888963407) % 2 ^ 64

-- the state after so many draws
unfoldable pub drawn : ℕ → ℕ → ℕ
drawn seed zero = seed
drawn seed (suc draws) = draw (drawn seed draws)

abbrev pub first_node : ℕ → ℕ
first_node x = (x / 2 ^ 40) % 4 + 1

-- another than the first
abbrev pub second_node : ℕ → ℕ
second_node x = if (x / 2 ^ 48) % 4 + 1 == first_node x then first_node x % 4 + 1 else (x / 2 ^ 48) % 4 + 1

abbrev pub form_numbered : ℕ → Form
form_numbered k =
    if k == 0 then Tick
    else if k == 1 then Next
    else if k == 2 then Drop
    else if k == 3 then Again
    else if k == 4 then Disk
    else if k == 5 then Write
    else if k == 6 then Crash
    else if k == 7 then Boot
    else if k == 8 then RoundOfAll
    else if k == 9 then Create
    else if k == 10 then RoundOfTwo
    else Clock

abbrev pub form_of : ℕ → Form
form_of x = form_numbered ((x / 2 ^ 33) % 12)
