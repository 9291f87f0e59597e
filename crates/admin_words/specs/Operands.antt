-- What operands spell: one reading for each operand, as many operands as readings.
use Rattle.std.specs.Prelude.{ℕ, true, false, List, [], ◌∷◌, Option, Some, None, codes, if◌then◌else◌, ◌&&◌}
use Rattle.std.specs.Option.{option_map}
use Rattle.std.specs.Str.{bytes_eq}
use Rattle.cl_base.specs.Limits.{most_devices}
use Rattle.cl_base.specs.declared.command.Policy.{Policy}
use Rattle.cl_base.specs.declared.command.Policy.TheVariants.{Weighted, Sticky, StickyPort}
use Rattle.cl_base.specs.declared.header.Version.{Version}
use Rattle.rg_props.specs.Values.{and_then, items_in, most_of}
use Rattle.rg_props.specs.Words.{number_in, parts_at}
use Rattle.ccr_tables.specs.declared.address.Weight.{Weight}
use Rattle.admin_words.specs.declared.types.Flags.{Flags}

abbrev pub one : {A C : Type 0} → (List ℕ → Option A) → (A → C) → List (List ℕ) → Option C
one read make (v ∷ []) = option_map make (read v)
one read make _ = None

abbrev pub two : {A B C : Type 0} → (List ℕ → Option A) → (List ℕ → Option B) → (A → B → C) → List (List ℕ) → Option C
two first second make (v ∷ w ∷ []) = and_then (first v) (λ a. option_map (λ b. make a b) (second w))
two first second make _ = None

abbrev pub three : {A B C D : Type 0} → (List ℕ → Option A) → (List ℕ → Option B) → (List ℕ → Option C) → (A → B → C → D) → List (List ℕ) → Option D
three first second third make (v ∷ w ∷ x ∷ []) = and_then (first v) (λ a. and_then (second w) (λ b. option_map (λ c. make a b c) (third x)))
three first second third make _ = None

-- no operand, and what the command is
abbrev pub none : {C : Type 0} → C → List (List ℕ) → Option C
none command [] = Some command
none command _ = None

-- any word
abbrev pub word_in : List ℕ → Option (List ℕ)
word_in word = Some word

abbrev pub node_in : Version → List ℕ → Option ℕ
node_in version word = number_in 1 (most_of version) word

abbrev pub device_in : List ℕ → Option ℕ
device_in word = number_in 1 most_devices word

abbrev pub load_in : List ℕ → Option ℕ
load_in word = number_in 0 1000000 word

unfoldable pub policy_in : List ℕ → Option Policy
policy_in word =
    if bytes_eq word (codes "LB_WEIGHTED") then Some Weighted
    else if bytes_eq word (codes "LB_STICKY") then Some Sticky
    else if bytes_eq word (codes "STICKY_PORT") then Some StickyPort
    else None

-- W@N, a weight of at most 1000; 64 is the sign between
abbrev pub weight_of : Version → List (List ℕ) → Option Weight
weight_of version (weight ∷ node ∷ []) = and_then (number_in 0 1000 weight) (λ w. option_map (λ n. record { node = n; weight = w }) (node_in version node))
weight_of version _ = None

unfoldable pub weight_in : Version → List ℕ → Option Weight
weight_in version word = weight_of version (parts_at 64 word)

-- W@N,W@N,..: 1 to 32 of them
abbrev pub weights_in : Version → List ℕ → Option (List Weight)
weights_in version word = items_in (weight_in version) word

-- `single` and `failover`, each at most once, in this order
unfoldable pub flag_in : List ℕ → Option Flags
flag_in word =
    if bytes_eq word (codes "single") then Some (record { single = true; failover = false })
    else if bytes_eq word (codes "failover") then Some (record { single = false; failover = true })
    else None

unfoldable pub both_flags_in : List ℕ → List ℕ → Option Flags
both_flags_in v w = if bytes_eq v (codes "single") && bytes_eq w (codes "failover") then Some (record { single = true; failover = true }) else None

abbrev pub flags_in : List (List ℕ) → Option Flags
flags_in [] = Some (record { single = false; failover = false })
flags_in (v ∷ []) = flag_in v
flags_in (v ∷ w ∷ []) = both_flags_in v w
flags_in _ = None
