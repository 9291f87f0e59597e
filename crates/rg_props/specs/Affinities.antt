-- The affinities that a group declares to others.
use Rattle.std.specs.Prelude.{ℕ, Bool, true, false, ◌&&◌, List, Option, find, codes}
use Rattle.std.specs.List.{list_any}
use Rattle.std.specs.Option.{option_map}
use Rattle.std.specs.Str.{bytes_eq}
use Rattle.rg_props.specs.declared.affinity.Affinity.{Affinity}
use Rattle.rg_props.specs.declared.affinity.Affinity.TheVariants.{PlusPlus, Plus, Minus, MinusMinus, PlusPlusPlus}
use Rattle.rg_props.specs.declared.affinity.Affine.{Affine}

-- its sign
abbrev pub affinity_sign : Affinity → List ℕ
affinity_sign PlusPlus = codes "++"
affinity_sign Plus = codes "+"
affinity_sign Minus = codes "-"
affinity_sign MinusMinus = codes "--"
affinity_sign PlusPlusPlus = codes "+++"

-- whether the two groups are to be on the same node
abbrev pub is_close : Affinity → Bool
is_close PlusPlus = true
is_close Plus = false
is_close Minus = false
is_close MinusMinus = false
is_close PlusPlusPlus = true

-- whether it is the one that a group declares once at most
abbrev pub is_best : Affinity → Bool
is_best PlusPlus = false
is_best Plus = false
is_best Minus = false
is_best MinusMinus = false
is_best PlusPlusPlus = true

abbrev pub same_affinity : Affinity → Affinity → Bool
same_affinity PlusPlus PlusPlus = true
same_affinity Plus Plus = true
same_affinity Minus Minus = true
same_affinity MinusMinus MinusMinus = true
same_affinity PlusPlusPlus PlusPlusPlus = true
same_affinity _ _ = false

-- the affinity to this group: the first that is declared
abbrev pub first_affinity : List Affine → List ℕ → Option Affinity
first_affinity declared to = option_map (λ a. a.affinity) (find (λ a. bytes_eq a.group to) declared)

-- whether this affinity to this group is declared, first or not
abbrev pub declares : List Affine → List ℕ → Affinity → Bool
declares declared to affinity = list_any (λ a. bytes_eq a.group to && same_affinity a.affinity affinity) declared

-- whether one is declared that puts both groups on the same node
abbrev pub declares_close : List Affine → List ℕ → Bool
declares_close declared to = list_any (λ a. bytes_eq a.group to && is_close a.affinity) declared
