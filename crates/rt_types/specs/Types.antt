-- Resource types: which methods one must have, and the named types in order of creation.
use Rattle.std.specs.Prelude.{◌≡◌, ◌≢◌, ℕ, true, false, List, Option, if◌then◌else◌}
use Rattle.std.specs.Map.{lookup, remove_entry}
use Rattle.std.specs.Str.{bytes_eq}
use Rattle.cl_base.specs.Methods.{has_method}
use Rattle.cl_base.specs.declared.method.Method.TheVariants.{Start, Stop, MonitorStart, MonitorStop}
use Rattle.rt_types.specs.Fields.{TypeFields}
use Rattle.rt_types.specs.declared.resource_type.TypeError.{TypeError}
use Rattle.rt_types.specs.declared.resource_type.TypeError.TheVariants.{NoStart, NoStop, MonitorPair}

-- A type can start and stop a resource, and can start a monitor exactly where it can stop it.
pub record IsComplete (methods : ℕ) : Type 0 where
  pub start : has_method methods Start ≡ true
  pub stop : has_method methods Stop ≡ true
  pub monitor : has_method methods MonitorStart ≡ has_method methods MonitorStop

-- The first of these that is missing.
abbrev pub IsTypeError : ℕ → TypeError → Type 0
IsTypeError methods NoStart = has_method methods Start ≡ false
IsTypeError methods NoStop = (has_method methods Start ≡ true) × (has_method methods Stop ≡ false)
IsTypeError methods MonitorPair = (has_method methods Start ≡ true) × (has_method methods Stop ≡ true) × (has_method methods MonitorStart ≢ has_method methods MonitorStop)

-- the type of this name, among named types in order of creation
abbrev pub type_of : List (List ℕ × TypeFields) → List ℕ → Option TypeFields
type_of types name = lookup (bytes_eq name) types

-- the others, in their order
abbrev pub types_without : List (List ℕ × TypeFields) → List ℕ → List (List ℕ × TypeFields)
types_without types name = remove_entry (bytes_eq name) types

-- Looking a name up afterwards: at this name it gives `found`, at each other name what it gave before.
abbrev pub FindsAt : List (List ℕ × TypeFields) → List ℕ → Option TypeFields → List (List ℕ × TypeFields) → Type 0
FindsAt old name found new = (other : List ℕ) → type_of new other ≡ (if bytes_eq name other then found else type_of old other)
