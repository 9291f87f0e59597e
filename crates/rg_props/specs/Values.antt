-- What the value of a property spells: lists of nodes, names, affinities and load factors. Items stand with commas (44) between.
use Rattle.std.specs.Prelude.{ℕ, ◌==◌, nat_le, Bool, true, not, ◌&&◌, if◌then◌else◌, List, [], ◌∷◌, ◌++◌, length, take, drop, Option, Some, None, codes}
use Rattle.std.specs.List.{list_all, list_any}
use Rattle.std.specs.Option.{option_map}
use Rattle.std.specs.Str.{bytes_eq}
use Rattle.cl_base.specs.Limits.{most_nodes, most_nodes_at_first}
use Rattle.cl_base.specs.declared.header.Version.{Version}
use Rattle.cl_base.specs.declared.header.Version.TheVariants.{One, Two}
use Rattle.load_limits.specs.declared.limits.Factor.{Factor}
use Rattle.rg_props.specs.declared.affinity.Affinity.{Affinity}
use Rattle.rg_props.specs.declared.affinity.Affinity.TheVariants.{PlusPlus, Plus, Minus, MinusMinus, PlusPlusPlus}
use Rattle.rg_props.specs.declared.affinity.Affine.{Affine}
use Rattle.rg_props.specs.Affinities.{affinity_sign}
use Rattle.rg_props.specs.Words.{number_in, name_in, parts_at}

-- the greatest number of a node under each version, and the greatest of Maximum_primaries
abbrev pub most_of : Version → ℕ
most_of One = most_nodes_at_first
most_of Two = most_nodes

-- what comes of something where it is there
abbrev pub and_then : {A B : Type 0} → Option A → (A → Option B) → Option B
and_then None go = None
and_then (Some x) go = go x

-- what is there, where it passes the test
abbrev pub kept_if : {A : Type 0} → (A → Bool) → Option A → Option A
kept_if test None = None
kept_if test (Some x) = if test x then Some x else None

-- the items that the parts are behind those before them, where each part is one
abbrev pub items_from : {A : Type 0} → (List ℕ → Option A) → List A → List (List ℕ) → Option (List A)
items_from read before [] = Some before
items_from read before (part ∷ parts) = and_then (read part) (λ x. items_from read (before ++ x ∷ []) parts)

abbrev pub are_few : List (List ℕ) → Bool
are_few parts = nat_le (length parts) 32

-- at most 32 items with commas between
abbrev pub items_in : {A : Type 0} → (List ℕ → Option A) → List ℕ → Option (List A)
items_in read value = if are_few (parts_at 44 value) then items_from read [] (parts_at 44 value) else None

-- the same, or `none` for no items
abbrev pub list_in : {A : Type 0} → (List ℕ → Option A) → List ℕ → Option (List A)
list_in read value = if bytes_eq value (codes "none") then Some [] else items_in read value

-- no two of them are equal
abbrev pub are_distinct : {A : Type 0} → (A → A → Bool) → List A → Bool
are_distinct same [] = true
are_distinct same (x ∷ xs) = not (list_any (same x) xs) && are_distinct same xs

-- N,N,..: nodes with numbers from 1 to the most, each of them once; there is at least one
abbrev pub same_node : ℕ → ℕ → Bool
same_node n m = n == m

abbrev pub nodes_in : ℕ → List ℕ → Option (List ℕ)
nodes_in most value = kept_if (are_distinct same_node) (items_in (number_in 1 most) value)

-- NAME,NAME,..
abbrev pub names_in : List ℕ → Option (List (List ℕ))
names_in value = list_in name_in value

-- a sign and the name of a group
abbrev pub signed : Affinity → List ℕ → Option Affine
signed affinity part =
    if bytes_eq (take (length (affinity_sign affinity)) part) (affinity_sign affinity)
    then option_map (λ name. record { affinity = affinity; group = name }) (name_in (drop (length (affinity_sign affinity)) part))
    else None

abbrev pub or_else : {A : Type 0} → Option A → Option A → Option A
or_else None other = other
or_else (Some x) other = Some x

-- one of the five signs and the name of a group; a name begins with a letter, so one sign fits at most
unfoldable pub affine_in : List ℕ → Option Affine
affine_in part =
    or_else (signed PlusPlusPlus part) (or_else (signed PlusPlus part) (or_else (signed Plus part) (or_else (signed MinusMinus part) (signed Minus part))))

-- +NAME,--NAME,..
abbrev pub affinities_in : List ℕ → Option (List Affine)
affinities_in value = list_in affine_in value

-- NAME@NUMBER, with a load of at most 1,000,000
abbrev pub factor_of : List (List ℕ) → Option Factor
factor_of (name ∷ number ∷ []) = and_then (name_in name) (λ n. option_map (λ load. record { name = n; load = load }) (number_in 0 1000000 number))
factor_of _ = None

unfoldable pub factor_in : List ℕ → Option Factor
factor_in part = factor_of (parts_at 64 part)

abbrev pub same_limit : Factor → Factor → Bool
same_limit f g = bytes_eq f.name g.name

-- NAME@NUMBER,NAME@NUMBER,..: each limit once
abbrev pub factors_in : List ℕ → Option (List Factor)
factors_in value = kept_if (are_distinct same_limit) (list_in factor_in value)
