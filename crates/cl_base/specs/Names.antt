-- A name has 1 to 32 bytes of `a` to `z`, digits, `_` and `-`, and begins with a letter.
use Rattle.std.specs.Prelude.{◌≡◌, ℕ, ◌≤◌, nat_le, ◌==◌, Bool, true, ◌&&◌, ◌||◌, List, length, slice_index}
use Rattle.std.specs.List.{AllPass}

abbrev pub is_letter : ℕ → Bool
is_letter b = nat_le 97 b && nat_le b 122

abbrev pub is_name_byte : ℕ → Bool
is_name_byte b = is_letter b || (nat_le 48 b && nat_le b 57) || (b == 95) || (b == 45)

abbrev pub IsName : List ℕ → Type 0
IsName bytes = (1 ≤ length bytes) × (length bytes ≤ 32) × (is_letter (slice_index bytes 0) ≡ true) × AllPass is_name_byte bytes
