-- What operands spell.
use Rattle.std.specs.Prelude.{ℕ, List, [], ◌∷◌, Option, Some, None}
use Rattle.std.specs.Option.{option_map}
use Rattle.cl_base.specs.Limits.{most_nodes}
use Rattle.cl_base.specs.declared.refusal.Thing.{Thing}
use Rattle.cl_base.specs.declared.refusal.Thing.TheVariants.{Named, Numbered}
use Rattle.rg_props.specs.Values.{and_then, items_from}
use Rattle.rg_props.specs.Words.{decimal_in, name_in, parts_at, within}

-- one operand alone, and what is made of it
abbrev pub one : {A C : Type 0} → (List ℕ → Option A) → (A → C) → List (List ℕ) → Option C
one read make (word ∷ []) = option_map make (read word)
one read make _ = None

-- two operands, and what is made of them
abbrev pub two : {A B C : Type 0} → (List ℕ → Option A) → (List ℕ → Option B) → (A → B → C) → List (List ℕ) → Option C
two first second make (word ∷ next ∷ []) = and_then (first word) (λ a. option_map (λ b. make a b) (second next))
two first second make _ = None

-- a node, by its number
unfoldable pub node_in : List ℕ → Option ℕ
node_in word = within 1 most_nodes (decimal_in word)

-- a number, or else a name
abbrev pub numbered_or_named : Option ℕ → Option (List ℕ) → Option Thing
numbered_or_named (Some number) name = Some (Numbered number)
numbered_or_named None name = option_map (λ bytes. Named bytes) name

-- what is unknown
unfoldable pub thing_in : List ℕ → Option Thing
thing_in word = numbered_or_named (decimal_in word) (name_in word)

-- NAME,NAME,..: at least one (44 stands between)
unfoldable pub names_in : List ℕ → Option (List (List ℕ))
names_in word = items_from name_in [] (parts_at 44 word)
