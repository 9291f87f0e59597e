-- The words of a line, and the numbers and keys among them.
use Rattle.std.specs.Prelude.{ℕ, ◌+◌, ◌*◌, ◌^◌, ◌==◌, nat_lt, nat_le, Bool, not, ◌&&◌, ◌||◌, if◌then◌else◌, List, length, slice_index, Option, Some, None}
use Rattle.std.specs.List.{slice_split, list_all, list_any}
use Rattle.std.specs.Char.{is_ascii_digit}
use Rattle.std.specs.Str.Parse.{digits_value}
use Rattle.schedule_text.specs.declared.number.Numeral.{Numeral}
use Rattle.schedule_text.specs.declared.number.Numeral.TheVariants.{Within, Beyond}

-- words are separated by one space (32)
abbrev pub words_of : List ℕ → List (List ℕ)
words_of line = slice_split (λ b. b == 32) line

-- no digit 0 (48) leads, unless it is the only one
abbrev pub has_no_leading_zero : List ℕ → Bool
has_no_leading_zero word = not (slice_index word 0 == 48) || (length word == 1)

-- a decimal number: digits without a leading zero
abbrev pub is_decimal : List ℕ → Bool
is_decimal word = not (length word == 0) && has_no_leading_zero word && list_all is_ascii_digit word

-- a lower-case hexadecimal digit
abbrev pub is_key_digit : ℕ → Bool
is_key_digit b = is_ascii_digit b || (nat_le 97 b && nat_le b 102)

-- a key: 1 to 16 lower-case hexadecimal digits without a leading zero
abbrev pub is_key : List ℕ → Bool
is_key word = not (length word == 0) && nat_le (length word) 16 && has_no_leading_zero word && list_all is_key_digit word

-- a number as far as 64 bits hold it
abbrev pub numeral_of : ℕ → Numeral
numeral_of n = if nat_lt n (2 ^ 64) then Within n else Beyond

-- the number that one more digit behind it makes
abbrev pub followed_by : Numeral → ℕ → Numeral
followed_by (Within n) digit = numeral_of (n * 10 + digit)
followed_by Beyond digit = Beyond

-- the number that a word is, if it is one
abbrev pub decimal_in : List ℕ → Option Numeral
decimal_in word = if is_decimal word then Some (numeral_of (digits_value 10 word)) else None

-- the key that a word is, if it is one
abbrev pub key_in : List ℕ → Option ℕ
key_in word = if is_key word then Some (digits_value 16 word) else None

-- what is there, unless it is zero
abbrev pub unless_zero : Option ℕ → Option ℕ
unless_zero None = None
unless_zero (Some n) = if n == 0 then None else Some n

-- the id of a cluster: a key of at most 8 digits that is not zero
abbrev pub cluster_in : List ℕ → Option ℕ
cluster_in word = if nat_le (length word) 8 then unless_zero (key_in word) else None

-- a word of a command: any bytes but the space and the newline (10), and at least one; a word of a line has no space
abbrev pub is_word : List ℕ → Bool
is_word word = not (length word == 0) && not (list_any (λ b. b == 10) word)
