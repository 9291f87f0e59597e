-- The set of methods that a word spells.
use Rattle.std.specs.Prelude.{ℕ, ◌==◌, ◌&&◌, Bool, List, Option, find}
use Rattle.std.specs.List.{filter, fold, list_any}
use Rattle.std.specs.Option.{option_map}
use Rattle.std.specs.Str.{bytes_eq}
use Rattle.cl_base.specs.Methods.{place_of}
use Rattle.cl_base.specs.Sets.{set_with}
use Rattle.cl_base.specs.declared.method.Method.{Method}
use Rattle.cl_base.specs.declared.method.Method.TheVariants.{Start, Stop, MonitorStart, MonitorStop}
use Rattle.rg_props.specs.Values.{items_in, kept_if}
use Rattle.ccr_tables.specs.Refusals.{both_or_neither}
use Rattle.update_words.specs.Methods.{all_methods, listed, method_text}

-- the method that a word names
unfoldable pub method_in : List ℕ → Option Method
method_in word = find (λ m. bytes_eq (method_text m) word) all_methods

-- whether the method is one of them
abbrev pub lists : List Method → Method → Bool
lists methods m = list_any (λ k. place_of m == place_of k) methods

-- those of them in the order of listing, each once
unfoldable pub in_order : List Method → List Method
in_order methods = filter (lists methods) all_methods

-- the set of them
abbrev pub set_of : List Method → ℕ
set_of methods = fold (λ set m. set_with set (place_of m)) 0 methods

-- Which methods it has is all that is known of a set: this is the set of just these.
abbrev pub plain_set : ℕ → ℕ
plain_set set = set_of (listed set)

-- START and STOP are there, and MONITOR_START exactly with MONITOR_STOP
abbrev pub are_complete : List Method → Bool
are_complete methods = lists methods Start && lists methods Stop && both_or_neither (lists methods MonitorStart) (lists methods MonitorStop)

-- METHOD,METHOD,..: 1 to 32 of them, in any order; one that is there twice counts once
abbrev pub methods_in : List ℕ → Option ℕ
methods_in word = option_map (λ methods. set_of (in_order methods)) (kept_if are_complete (items_in method_in word))
