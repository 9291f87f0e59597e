-- Each line that a draw gives is read as an event of four nodes.
use Rattle.std.proofs.Common.{◌≡◌, ℕ, ◌+◌, ◌^◌, ◌<◌, ◌≤◌, ◌==◌, true, false, List, [], ◌∷◌, ◌++◌, length, slice_index, drop, Some, Ok, codes, refl, arith, le-leb}
use Rattle.std.specs.Char.{is_ascii_digit}
use Rattle.std.specs.Fmt.{decimal}
use Rattle.std.specs.List.{list_all, list_any}
use Rattle.std.specs.Str.{bytes_eq}
use Rattle.std.proofs.lemmas.Bool.Decides.{nat_tests}
use Rattle.cl_base.specs.Numbers.{first_numbers}
use Rattle.cl_base.specs.Sets.{set_with}
use Rattle.schedule_text.specs.declared.event.Event.{Event}
use Rattle.schedule_text.specs.declared.event.Event.TheVariants as event
use Rattle.schedule_text.specs.declared.event_name.EventName.TheVariants as name
use Rattle.schedule_text.specs.declared.header.Head.TheVariants.{Cluster}
use Rattle.schedule_text.specs.declared.line.Line.TheVariants as line
use Rattle.schedule_text.specs.declared.line.SoFar.{SoFar}
use Rattle.schedule_text.specs.EventNames.{event_in}
use Rattle.schedule_text.specs.Events.{event_line}
use Rattle.schedule_text.specs.Fields.{node_in, device_in, number_in, second_in, rounds_in}
use Rattle.schedule_text.specs.Lines.{line_of, is_blank}
use Rattle.schedule_text.specs.Words.{is_word}
use Rattle.schedule_gen.specs.Grammar.{four_nodes}
use Rattle.schedule_gen.specs.Lines.{spaced, create_words}
use Rattle.schedule_text.proofs.PrintedLemmas.{has_no_space, decimal_is_word, decimal_in_decimal, decimal_digits, first, second}
use Rattle.schedule_gen.proofs.WordLemmas.{AreWords, words_of_spaced}

-- the first words
tick_named : event_in (codes "tick") ≡ Some name.Tick
unfolding event_in
tick_named = refl

next_named : event_in (codes "next") ≡ Some name.Next
unfolding event_in
next_named = refl

drop_named : event_in (codes "drop") ≡ Some name.Drop
unfolding event_in
drop_named = refl

again_named : event_in (codes "again") ≡ Some name.Again
unfolding event_in
again_named = refl

disk_named : event_in (codes "disk") ≡ Some name.Disk
unfolding event_in
disk_named = refl

write_named : event_in (codes "write") ≡ Some name.Write
unfolding event_in
write_named = refl

crash_named : event_in (codes "crash") ≡ Some name.Crash
unfolding event_in
crash_named = refl

boot_named : event_in (codes "boot") ≡ Some name.Boot
unfolding event_in
boot_named = refl

rounds_named : event_in (codes "rounds") ≡ Some name.Rounds
unfolding event_in
rounds_named = refl

command_named : event_in (codes "cmd") ≡ Some name.Command
unfolding event_in
command_named = refl

clock_named : event_in (codes "clock") ≡ Some name.Clock
unfolding event_in
clock_named = refl

not_blank : (b : ℕ) (bytes : List ℕ) → (b == 35) ≡ false → is_blank (b ∷ bytes) ≡ false
not_blank b bytes h = grind (arith, nat_tests)

blank_no : (b : ℕ) (w : List ℕ) (fields : List (List ℕ)) → (b == 35) ≡ false → is_blank (spaced ((b ∷ w) ∷ fields)) ≡ false
blank_no b w [] h = not_blank b w h
blank_no b w (field ∷ fields) h = not_blank b (w ++ 32 ∷ spaced (field ∷ fields)) h

end_no : (b : ℕ) (w : List ℕ) (fields : List (List ℕ)) → (b == 101) ≡ false → bytes_eq (spaced ((b ∷ w) ∷ fields)) (codes "end") ≡ false
end_no b w [] h = rw h refl
end_no b w (field ∷ fields) h = rw h refl

-- a line of words, of which the first begins neither a comment (35) nor the line that ends a schedule (101)
event_read : (s : SoFar) (b : ℕ) (w : List ℕ) (fields : List (List ℕ)) (read : Event) → (b == 35) ≡ false → (b == 101) ≡ false
    → AreWords ((b ∷ w) ∷ fields) → event_line four_nodes s ((b ∷ w) ∷ fields) ≡ Ok read
    → line_of (Cluster four_nodes) s (spaced ((b ∷ w) ∷ fields)) ≡ Ok (line.Event read)
event_read s b w fields read no_comment no_end words is =
    rw (blank_no b w fields no_comment, end_no b w fields no_end, words_of_spaced (b ∷ w) fields words, is) refl

-- one of the four nodes
pub record IsOneOfFour (n : ℕ) : Type 0 where
  pub low : 1 ≤ n
  pub high : n ≤ 4

small : (n : ℕ) → IsOneOfFour n → n < 2 ^ 64
small n is = let high : n ≤ 4 = is.high in omega arith

node_word : (n : ℕ) → IsOneOfFour n → has_no_space (decimal n) ≡ true
node_word n is = decimal_is_word n (small n is)

node_read : (n : ℕ) → IsOneOfFour n → node_in four_nodes (decimal n) ≡ Ok n
unfolding node_in
node_read n is =
    let high : n ≤ 4 = is.high in
    rw (decimal_in_decimal n (small n is), le-leb 1 n is.low, le-leb n 16 (omega arith), le-leb n 4 high) refl

pub tick_read : (s : SoFar) (a : ℕ) → IsOneOfFour a → line_of (Cluster four_nodes) s (spaced (codes "tick" ∷ decimal a ∷ [])) ≡ Ok (line.Event (event.Tick a))
tick_read s a is =
    event_read s (slice_index (codes "tick") 0) (drop 1 (codes "tick")) (decimal a ∷ []) (event.Tick a) refl refl (refl, (node_word a is, tt)) (rw (tick_named, node_read a is) refl)

pub disk_read : (s : SoFar) (a : ℕ) → IsOneOfFour a → line_of (Cluster four_nodes) s (spaced (codes "disk" ∷ decimal a ∷ [])) ≡ Ok (line.Event (event.Disk a))
disk_read s a is =
    event_read s (slice_index (codes "disk") 0) (drop 1 (codes "disk")) (decimal a ∷ []) (event.Disk a) refl refl (refl, (node_word a is, tt)) (rw (disk_named, node_read a is) refl)

pub crash_read : (s : SoFar) (a : ℕ) → IsOneOfFour a → line_of (Cluster four_nodes) s (spaced (codes "crash" ∷ decimal a ∷ [])) ≡ Ok (line.Event (event.Crash a))
crash_read s a is =
    event_read s (slice_index (codes "crash") 0) (drop 1 (codes "crash")) (decimal a ∷ []) (event.Crash a) refl refl (refl, (node_word a is, tt)) (rw (crash_named, node_read a is) refl)

pub boot_read : (s : SoFar) (a : ℕ) → IsOneOfFour a → line_of (Cluster four_nodes) s (spaced (codes "boot" ∷ decimal a ∷ [])) ≡ Ok (line.Event (event.Boot a))
boot_read s a is =
    event_read s (slice_index (codes "boot") 0) (drop 1 (codes "boot")) (decimal a ∷ []) (event.Boot a) refl refl (refl, (node_word a is, tt)) (rw (boot_named, node_read a is) refl)

pub next_read : (s : SoFar) (a b : ℕ) → IsOneOfFour a → IsOneOfFour b → line_of (Cluster four_nodes) s (spaced (codes "next" ∷ decimal a ∷ decimal b ∷ [])) ≡ Ok (line.Event (event.Next a b))
next_read s a b is too =
    event_read s (slice_index (codes "next") 0) (drop 1 (codes "next")) (decimal a ∷ decimal b ∷ []) (event.Next a b) refl refl (refl, (node_word a is, (node_word b too, tt)))
    (rw (next_named, node_read a is, node_read b too) refl)

pub drop_read : (s : SoFar) (a b : ℕ) → IsOneOfFour a → IsOneOfFour b → line_of (Cluster four_nodes) s (spaced (codes "drop" ∷ decimal a ∷ decimal b ∷ [])) ≡ Ok (line.Event (event.Drop a b))
drop_read s a b is too =
    event_read s (slice_index (codes "drop") 0) (drop 1 (codes "drop")) (decimal a ∷ decimal b ∷ []) (event.Drop a b) refl refl (refl, (node_word a is, (node_word b too, tt)))
    (rw (drop_named, node_read a is, node_read b too) refl)

pub again_read : (s : SoFar) (a b : ℕ) → IsOneOfFour a → IsOneOfFour b → line_of (Cluster four_nodes) s (spaced (codes "again" ∷ decimal a ∷ decimal b ∷ [])) ≡ Ok (line.Event (event.Again a b))
again_read s a b is too =
    event_read s (slice_index (codes "again") 0) (drop 1 (codes "again")) (decimal a ∷ decimal b ∷ []) (event.Again a b) refl refl (refl, (node_word a is, (node_word b too, tt)))
    (rw (again_named, node_read a is, node_read b too) refl)

-- the second device of two
second_device : device_in four_nodes (codes "2") ≡ Ok 2
unfolding device_in
second_device = refl

number_read : (n : ℕ) → n < 2 ^ 64 → number_in (decimal n) ≡ Ok n
unfolding number_in
number_read n low = rw (decimal_in_decimal n low) refl

pub write_read : (s : SoFar) (a i : ℕ) → IsOneOfFour a → i < 2 ^ 64
    → line_of (Cluster four_nodes) s (spaced (codes "write" ∷ decimal a ∷ codes "2" ∷ decimal i ∷ [])) ≡ Ok (line.Event (event.Write a 2 i))
write_read s a i is low =
    event_read s 119 (drop 1 (codes "write")) (decimal a ∷ codes "2" ∷ decimal i ∷ []) (event.Write a 2 i) refl refl
    (refl, (node_word a is, (refl, (decimal_is_word i low, tt))))
    (rw (write_named, node_read a is, second_device, number_read i low) refl)

later_second : (s : SoFar) (i : ℕ) → s.clock ≤ i → i < 2 ^ 64 → second_in s (decimal i) ≡ Ok i
unfolding second_in
later_second s i later low = rw (decimal_in_decimal i low, le-leb s.clock i later) refl

pub clock_read : (s : SoFar) (i : ℕ) → s.clock ≤ i → i < 2 ^ 64
    → line_of (Cluster four_nodes) s (spaced (codes "clock" ∷ decimal i ∷ [])) ≡ Ok (line.Event (event.Clock i))
clock_read s i later low =
    event_read s 99 (drop 1 (codes "clock")) (decimal i ∷ []) (event.Clock i) refl refl
    (refl, (decimal_is_word i low, tt))
    (rw (clock_named, later_second s i later low) refl)

-- one more round
one_round : (s : SoFar) → s.rounds + 1 ≤ 100000 → rounds_in s (codes "1") ≡ Ok 1
unfolding rounds_in
one_round s room = rw (le-leb (s.rounds + 1) 100000 room) refl

pub round_of_all_read : (s : SoFar) → s.rounds + 1 ≤ 100000
    → line_of (Cluster four_nodes) s (spaced (codes "rounds" ∷ codes "1" ∷ codes "1" ∷ codes "2" ∷ codes "3" ∷ codes "4" ∷ [])) ≡ Ok (line.Event (event.Rounds 1 (first_numbers 4)))
unfolding set_with node_in
round_of_all_read s room =
    event_read s 114 (drop 1 (codes "rounds")) (codes "1" ∷ codes "1" ∷ codes "2" ∷ codes "3" ∷ codes "4" ∷ []) (event.Rounds 1 (first_numbers 4)) refl refl
    (refl, (refl, (refl, (refl, (refl, (refl, tt))))))
    (rw (rounds_named, one_round s room) refl)

pub round_of_two_read : (s : SoFar) (a b : ℕ) → IsOneOfFour a → IsOneOfFour b → s.rounds + 1 ≤ 100000
    → line_of (Cluster four_nodes) s (spaced (codes "rounds" ∷ codes "1" ∷ decimal a ∷ decimal b ∷ [])) ≡ Ok (line.Event (event.Rounds 1 (set_with (set_with 0 a) b)))
round_of_two_read s a b is too room =
    event_read s 114 (drop 1 (codes "rounds")) (codes "1" ∷ decimal a ∷ decimal b ∷ []) (event.Rounds 1 (set_with (set_with 0 a) b)) refl refl
    (refl, (refl, (node_word a is, (node_word b too, tt))))
    (rw (rounds_named, one_round s room, node_read a is, node_read b too) refl)

-- the name of a group is a word of a command
digit_no_newline : (b : ℕ) → is_ascii_digit b ≡ true → (b == 10) ≡ false
digit_no_newline b is = grind (arith, nat_tests)

digits_no_newline : (w : List ℕ) → list_all is_ascii_digit w ≡ true → list_any (λ b. b == 10) w ≡ false
digits_no_newline [] all = refl
digits_no_newline (b ∷ w) all =
    rw (digit_no_newline b (first (is_ascii_digit b) (list_all is_ascii_digit w) all), digits_no_newline w (second (is_ascii_digit b) (list_all is_ascii_digit w) all)) refl

some_length : (b : ℕ) (w : List ℕ) → (length (b ∷ w) == 0) ≡ false
some_length b w = grind (arith, nat_tests)

group_word : (group : ℕ) → group < 2 ^ 64 → is_word (codes "g" ++ decimal group) ≡ true
group_word group low = rw (some_length 103 (decimal group), digits_no_newline (decimal group) (decimal_digits group low)) refl

pub create_read : (s : SoFar) (a group : ℕ) → IsOneOfFour a → group < 2 ^ 64
    → line_of (Cluster four_nodes) s (spaced (create_words a group))
    ≡ Ok (line.Event (event.Command a (spaced (codes "clrg" ∷ codes "create" ∷ (codes "g" ++ decimal group) ∷ codes "1,2,3,4" ∷ []))))
create_read s a group is low =
    event_read s 99 (drop 1 (codes "cmd")) (decimal a ∷ codes "clrg" ∷ codes "create" ∷ (codes "g" ++ decimal group) ∷ codes "1,2,3,4" ∷ [])
    (event.Command a (spaced (codes "clrg" ∷ codes "create" ∷ (codes "g" ++ decimal group) ∷ codes "1,2,3,4" ∷ []))) refl refl
    (refl, (node_word a is, (refl, (refl, (decimal_is_word group low, (refl, tt))))))
    (rw (command_named, group_word group low, node_read a is) refl)
