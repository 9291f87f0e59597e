-- The words of each command, behind a sender, are read as that command.
use Rattle.std.proofs.Common.{◌≡◌, ◌≢◌, ℕ, ◌^◌, ◌<◌, ◌≤◌, ◌==◌, ◌&&◌, Bool, true, false, List, [], ◌∷◌, ◌++◌, length, slice_index, Option, Some, Ok, codes, refl, ap, ◌∙◌, arith, le-leb}
use Rattle.std.specs.Char.{is_ascii_digit}
use Rattle.std.specs.Fmt.{decimal}
use Rattle.std.specs.List.{list_all}
use Rattle.std.proofs.lemmas.Bool.Decides.{nat_tests}
use Rattle.std.proofs.lemmas.Fmt.{decimal_nonempty}
use Rattle.cl_base.specs.Limits.{most_nodes_at_first}
use Rattle.pgr_device.specs.Allowed.{IsAllowed}
use Rattle.pgr_device.specs.declared.kind.PrKind.{PrKind}
use Rattle.pgr_device.specs.declared.kind.PrKind.TheVariants.{WriteExclusive, ExclusiveAccess, WriteExclusiveRegistrantsOnly, ExclusiveAccessRegistrantsOnly}
use Rattle.pgr_device.specs.declared.command.PrCommand.{PrCommand}
use Rattle.pgr_device.specs.declared.command.PrCommand.TheVariants as command
use Rattle.schedule_text.specs.declared.command_name.CommandName.{CommandName}
use Rattle.schedule_text.specs.declared.command_name.CommandName.TheVariants as name
use Rattle.schedule_text.specs.declared.line.PrLine.TheVariants as line
use Rattle.schedule_text.specs.declared.number.Numeral.TheVariants.{Within}
use Rattle.schedule_text.specs.Commands.{command_of, kind_of}
use Rattle.schedule_text.specs.Lines.{pr_line_of, words_line}
use Rattle.schedule_text.specs.Names.{name_text, name_in}
use Rattle.schedule_text.specs.Words.{words_of, decimal_in}
use Rattle.schedule_text.proofs.NameLemmas.{name_known}
use Rattle.schedule_text.proofs.PrintedLemmas.{has_no_space, first, words_of_one, words_of_more, decimal_digits, decimal_is_word, decimal_in_decimal, hex_is_word, key_in_hex}
use Rattle.status_report.specs.Entries.{IsNumber, IsPrCommand}
use Rattle.status_report.specs.PrAnswers.{command_text, kind_text}
use Rattle.status_report.specs.Words.{hex, spaced}

-- ---- the words of a line

abbrev AreWords : List (List ℕ) → Type 0
AreWords [] = Unit {0}
AreWords (word ∷ words) = (has_no_space word ≡ true) × AreWords words

words_of_spaced : (word : List ℕ) (words : List (List ℕ)) → AreWords (word ∷ words) → words_of (spaced (word ∷ words)) ≡ word ∷ words
words_of_spaced word [] are = words_of_one word are.0
words_of_spaced word (next ∷ words) are =
    words_of_more word (spaced (next ∷ words)) are.0
    ∙ ap (λ (rest : List (List ℕ)). word ∷ rest) (words_of_spaced next words are.1)

-- ---- a line that begins with a digit is neither empty nor a comment nor a word of its own

begins : (b : ℕ) (w : List ℕ) → is_ascii_digit b ≡ true → pr_line_of (b ∷ w) ≡ words_line (words_of (b ∷ w))
begins b w is =
    let full : (length (b ∷ w) == 0) ≡ false = grind (arith, nat_tests) in
    let no_comment : (b == 35) ≡ false = grind (arith, nat_tests) in
    let no_end : (b == 101) ≡ false = grind (arith, nat_tests) in
    let no_power : (b == 112) ≡ false = grind (arith, nat_tests) in
    rw (full, no_comment, no_end, no_power) refl

numbered : (digits rest : List ℕ) → 0 < length digits → list_all is_ascii_digit digits ≡ true → pr_line_of (digits ++ rest) ≡ words_line (words_of (digits ++ rest))
numbered [] rest some all = absurd (omega (arith, some))
numbered (b ∷ digits) rest some all = begins b (digits ++ rest) (first (is_ascii_digit b) (list_all is_ascii_digit digits) all)

-- ---- a command of a name and fields

low_sender : (sender : ℕ) → sender ≤ 16 → sender < 2 ^ 64
low_sender sender high = omega (arith, high)

read : (sender : ℕ) (k : CommandName) (fields : List (List ℕ)) (c : PrCommand) → 1 ≤ sender → sender ≤ 16
    → AreWords (name_text k ∷ fields) → command_of k fields ≡ Ok c
    → pr_line_of (decimal sender ++ 32 ∷ spaced (name_text k ∷ fields)) ≡ Ok (line.Command sender c)
read sender k fields c low high words is =
    let small : sender < 2 ^ 64 = low_sender sender high in
    let spelled : words_of (decimal sender ++ 32 ∷ spaced (name_text k ∷ fields)) ≡ decimal sender ∷ name_text k ∷ fields =
    words_of_more (decimal sender) (spaced (name_text k ∷ fields)) (decimal_is_word sender small)
    ∙ ap (λ (rest : List (List ℕ)). decimal sender ∷ rest) (words_of_spaced (name_text k) fields words) in
    numbered (decimal sender) (32 ∷ spaced (name_text k ∷ fields)) (decimal_nonempty sender small) (decimal_digits sender small)
    ∙ rw (spelled, decimal_in_decimal sender small, name_known (name_text k) k refl, is, le-leb 1 sender low, le-leb sender 16 high) refl

-- ---- types

abbrev number_of : PrKind → ℕ
number_of WriteExclusive = 1
number_of ExclusiveAccess = 3
number_of WriteExclusiveRegistrantsOnly = 5
number_of ExclusiveAccessRegistrantsOnly = 6

kind_word : (kind : PrKind) → has_no_space (kind_text kind) ≡ true
kind_word WriteExclusive = refl
kind_word ExclusiveAccess = refl
kind_word WriteExclusiveRegistrantsOnly = refl
kind_word ExclusiveAccessRegistrantsOnly = refl

kind_number : (kind : PrKind) → decimal_in (kind_text kind) ≡ Some (Within (number_of kind))
kind_number WriteExclusive = refl
kind_number ExclusiveAccess = refl
kind_number WriteExclusiveRegistrantsOnly = refl
kind_number ExclusiveAccessRegistrantsOnly = refl

kind_known : (kind : PrKind) → kind_of (Within (number_of kind)) ≡ Some kind
kind_known WriteExclusive = refl
kind_known ExclusiveAccess = refl
kind_known WriteExclusiveRegistrantsOnly = refl
kind_known ExclusiveAccessRegistrantsOnly = refl

-- ---- the commands

differs : (a b : ℕ) → a ≢ b → (a == b) ≡ false
differs a b other = grind (arith, nat_tests)

pub command_read : (sender : ℕ) (c : PrCommand) → 1 ≤ sender → sender ≤ most_nodes_at_first → IsAllowed c → IsPrCommand c
    → pr_line_of (decimal sender ++ 32 ∷ command_text c) ≡ Ok (line.Command sender c)
command_read s (command.Register key new) low high allowed numbers =
    read s name.Register (hex key ∷ hex new ∷ []) (command.Register key new) low high (refl, (hex_is_word key, (hex_is_word new, tt))) (rw (key_in_hex key numbers.0, key_in_hex new numbers.1) refl)
command_read s (command.Ignore new) low high allowed numbers =
    read s name.Ignore (hex new ∷ []) (command.Ignore new) low high (refl, (hex_is_word new, tt)) (rw (key_in_hex new numbers) refl)
command_read s (command.Reserve kind key) low high allowed numbers =
    read s name.Reserve (kind_text kind ∷ hex key ∷ []) (command.Reserve kind key) low high (refl, (kind_word kind, (hex_is_word key, tt)))
    (rw (kind_number kind, key_in_hex key numbers, kind_known kind) refl)
command_read s (command.Release kind key) low high allowed numbers =
    read s name.Release (kind_text kind ∷ hex key ∷ []) (command.Release kind key) low high (refl, (kind_word kind, (hex_is_word key, tt)))
    (rw (kind_number kind, key_in_hex key numbers, kind_known kind) refl)
command_read s (command.Clear key) low high allowed numbers =
    read s name.Clear (hex key ∷ []) (command.Clear key) low high (refl, (hex_is_word key, tt)) (rw (key_in_hex key numbers) refl)
command_read s (command.Preempt kind key victim) low high allowed numbers =
    read s name.Preempt (kind_text kind ∷ hex key ∷ hex victim ∷ []) (command.Preempt kind key victim) low high
    (refl, (kind_word kind, (hex_is_word key, (hex_is_word victim, tt))))
    (rw (kind_number kind, key_in_hex key numbers.0, key_in_hex victim numbers.1, differs victim 0 allowed.0, differs victim key allowed.1, kind_known kind) refl)
command_read s command.Keys low high allowed numbers = read s name.Keys [] command.Keys low high (refl, tt) refl
command_read s command.Holder low high allowed numbers = read s name.Holder [] command.Holder low high (refl, tt) refl
command_read s command.Read low high allowed numbers = read s name.Read [] command.Read low high (refl, tt) refl
command_read s (command.Write value) low high allowed numbers =
    read s name.Write (decimal value ∷ []) (command.Write value) low high (refl, (decimal_is_word value numbers, tt)) (rw (decimal_in_decimal value numbers) refl)
command_read s command.Word low high allowed numbers = read s name.Word [] command.Word low high (refl, tt) refl
command_read s (command.Swap expect new) low high allowed numbers =
    read s name.Swap (decimal expect ∷ decimal new ∷ []) (command.Swap expect new) low high (refl, (decimal_is_word expect numbers.0, (decimal_is_word new numbers.1, tt)))
    (rw (decimal_in_decimal expect numbers.0, decimal_in_decimal new numbers.1) refl)
