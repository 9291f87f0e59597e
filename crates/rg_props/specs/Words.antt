-- The words of a value: numbers, names, and a few that stand for one of a few.
use Rattle.std.specs.Prelude.{ℕ, ◌^◌, ◌==◌, nat_lt, nat_le, Bool, true, false, not, ◌&&◌, ◌||◌, if◌then◌else◌, List, length, slice_index, Option, Some, None, codes}
use Rattle.std.specs.List.{slice_split, list_all}
use Rattle.std.specs.Char.{is_ascii_digit}
use Rattle.std.specs.Str.{bytes_eq}
use Rattle.std.specs.Str.Parse.{digits_value}
use Rattle.cl_base.specs.Names.{is_letter, is_name_byte}
use Rattle.cl_base.specs.declared.history.FailoverMode.{FailoverMode}
use Rattle.cl_base.specs.declared.history.FailoverMode.TheVariants as mode

-- no digit 0 (48) leads, unless it is the only one
abbrev pub has_no_leading_zero : List ℕ → Bool
has_no_leading_zero word = not (slice_index word 0 == 48) || (length word == 1)

-- a decimal number: digits without a leading zero
abbrev pub is_decimal : List ℕ → Bool
is_decimal word = not (length word == 0) && has_no_leading_zero word && list_all is_ascii_digit word

-- the number that a word is, if it is one of those that 64 bits hold
abbrev pub decimal_in : List ℕ → Option ℕ
decimal_in word = if is_decimal word && nat_lt (digits_value 10 word) (2 ^ 64) then Some (digits_value 10 word) else None

abbrev pub within : ℕ → ℕ → Option ℕ → Option ℕ
within least most None = None
within least most (Some n) = if nat_le least n && nat_le n most then Some n else None

-- the number that a word is, if it is one from the least to the most
unfoldable pub number_in : ℕ → ℕ → List ℕ → Option ℕ
number_in least most word = within least most (decimal_in word)

-- the name that a word is, if it is one
abbrev pub is_name : List ℕ → Bool
is_name word = nat_le 1 (length word) && nat_le (length word) 32 && is_letter (slice_index word 0) && list_all is_name_byte word

unfoldable pub name_in : List ℕ → Option (List ℕ)
name_in word = if is_name word then Some word else None

-- TRUE or FALSE
unfoldable pub choice_in : List ℕ → Option Bool
choice_in word =
    if bytes_eq word (codes "TRUE") then Some true
    else if bytes_eq word (codes "FALSE") then Some false
    else None

-- the failover mode that a word names
unfoldable pub mode_in : List ℕ → Option FailoverMode
mode_in word =
    if bytes_eq word (codes "NONE") then Some mode.None
    else if bytes_eq word (codes "SOFT") then Some mode.Soft
    else if bytes_eq word (codes "HARD") then Some mode.Hard
    else if bytes_eq word (codes "RESTART_ONLY") then Some mode.RestartOnly
    else if bytes_eq word (codes "LOG_ONLY") then Some mode.LogOnly
    else None

-- the parts between the separators
abbrev pub parts_at : ℕ → List ℕ → List (List ℕ)
parts_at separator bytes = slice_split (λ b. b == separator) bytes
