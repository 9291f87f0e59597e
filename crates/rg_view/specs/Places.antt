-- A name at a node, and lists with one entry for each.
use Rattle.std.specs.Prelude.{ℕ, ◌==◌, ◌&&◌, Bool, List}
use Rattle.std.specs.Str.{bytes_eq}
use Rattle.rg_view.specs.declared.name_at.NameAt.{NameAt}

-- whether both are of one name and one node
abbrev pub same_place : NameAt → NameAt → Bool
same_place a b = bytes_eq a.name b.name && (a.node == b.node)

abbrev pub place : List ℕ → ℕ → NameAt
place name n = record { name = name; node = n }
