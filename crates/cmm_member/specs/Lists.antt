-- Which numbers a text lists.
use Rattle.std.specs.Prelude.{ℕ, ◌==◌, Bool, List, nat_eq}
use Rattle.std.specs.List.{list_any, slice_split}
use Rattle.std.specs.Fmt.{decimal}
use Rattle.std.specs.Cmp.Lexicographic.{pointwise}

-- one of the words between commas is the number in decimal digits
abbrev pub is_listed : List ℕ → ℕ → Bool
is_listed text n = list_any (λ word. pointwise nat_eq word (decimal n)) (slice_split (λ b. b == 44) text)
