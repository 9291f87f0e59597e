-- The lines that a seed gives: ten to open, then one for each draw.
use Rattle.std.specs.Prelude.{ℕ, ◌+◌, ◌-◌, ◌%◌, min, max, nat_lt, if◌then◌else◌, List, [], ◌∷◌, ◌++◌, slice_index_or, codes}
use Rattle.std.specs.Fmt.{decimal}
use Rattle.std.specs.List.{join_with_byte}
use Rattle.schedule_gen.specs.declared.draw.Form.{Form}
use Rattle.schedule_gen.specs.declared.draw.Form.TheVariants.{Tick, Next, Drop, Again, Disk, Write, Crash, Boot, RoundOfAll, Create, RoundOfTwo, Clock}
use Rattle.schedule_gen.specs.Draws.{drawn, first_node, second_node, form_of}

-- four nodes, which share a device that votes and one that does not, start and have twelve rounds
abbrev pub opening_lines : List (List ℕ)
opening_lines =
    codes "schedule cluster 1" ∷ codes "cluster 2a" ∷ codes "nodes 4"
    ∷ codes "device 1 quorum 1 2 3 4" ∷ codes "device 2 data 1 2 3 4"
    ∷ codes "boot 1" ∷ codes "boot 2" ∷ codes "boot 3" ∷ codes "boot 4"
    ∷ codes "rounds 12 1 2 3 4" ∷ []

-- the opening line with this number, from 0 to 9
abbrev pub opening : ℕ → List ℕ
opening i = slice_index_or opening_lines i []

-- a command that makes one of sixteen groups
abbrev pub create_words : ℕ → ℕ → List (List ℕ)
create_words a group = codes "cmd" ∷ decimal a ∷ codes "clrg" ∷ codes "create" ∷ (codes "g" ++ decimal group) ∷ codes "1,2,3,4" ∷ []

-- a round of two nodes, the lesser first
abbrev pub round_words : ℕ → ℕ → List (List ℕ)
round_words a b = codes "rounds" ∷ codes "1" ∷ decimal (min a b) ∷ decimal (max a b) ∷ []

-- the words of a form, of the nodes a and b, in the i-th line after the opening, from 0
abbrev pub event_words : Form → ℕ → ℕ → ℕ → List (List ℕ)
event_words Tick a b i = codes "tick" ∷ decimal a ∷ []
event_words Next a b i = codes "next" ∷ decimal a ∷ decimal b ∷ []
event_words Drop a b i = codes "drop" ∷ decimal a ∷ decimal b ∷ []
event_words Again a b i = codes "again" ∷ decimal a ∷ decimal b ∷ []
event_words Disk a b i = codes "disk" ∷ decimal a ∷ []
event_words Write a b i = codes "write" ∷ decimal a ∷ codes "2" ∷ decimal i ∷ []
event_words Crash a b i = codes "crash" ∷ decimal a ∷ []
event_words Boot a b i = codes "boot" ∷ decimal a ∷ []
event_words RoundOfAll a b i = codes "rounds" ∷ codes "1" ∷ codes "1" ∷ codes "2" ∷ codes "3" ∷ codes "4" ∷ []
event_words Create a b i = create_words a (i % 16)
event_words RoundOfTwo a b i = round_words a b
event_words Clock a b i = codes "clock" ∷ decimal i ∷ []

-- words with one space (32) between each two
abbrev pub spaced : List (List ℕ) → List ℕ
spaced words = join_with_byte 32 words

-- the line of a draw
abbrev pub event_line : ℕ → ℕ → List ℕ
event_line x i = spaced (event_words (form_of x) (first_node x) (second_node x) i)

-- the line with this number, from 0, that the seed gives
abbrev pub line_at : ℕ → ℕ → List ℕ
line_at seed k = if nat_lt k 10 then opening k else event_line (drawn seed (k - 10 + 1)) (k - 10)
