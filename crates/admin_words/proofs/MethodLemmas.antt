-- Sets of methods by the methods that they have.
use Rattle.std.proofs.Common.{◌≡◌, ℕ, ◌&&◌, Bool, true, List, Some, None, ap, if◌then◌else◌}
use Rattle.std.specs.List.{filter}
use Rattle.std.specs.Option.{option_map}
use Rattle.cl_base.specs.Methods.{has_method}
use Rattle.cl_base.specs.declared.method.Method.{Method}
use Rattle.cl_base.specs.declared.method.Method.TheVariants.{Start, Stop, MonitorStart, MonitorStop}
use Rattle.ccr_tables.specs.Refusals.{both_or_neither}
use Rattle.update_words.specs.Methods.{all_methods, listed}
use Rattle.admin_words.specs.Methods.{are_complete, in_order, lists, plain_set, set_of}

module _ (set : ℕ) (methods : List Method) (has : (m : Method) → has_method set m ≡ lists methods m) where
  -- a set that has just the methods of a list is as the set of them
  pub set_told : plain_set set ≡ set_of (in_order methods)
  unfolding listed in_order
  set_told = ap (λ (test : Method → Bool). set_of (filter test all_methods)) (λ i m. has m i)

  complete : (has_method set Start && has_method set Stop && both_or_neither (has_method set MonitorStart) (has_method set MonitorStop)) ≡ true → are_complete methods ≡ true
  complete is = rw (← has Start, ← has Stop, ← has MonitorStart, ← has MonitorStop) is

  pub complete_kept : (has_method set Start && has_method set Stop && both_or_neither (has_method set MonitorStart) (has_method set MonitorStop)) ≡ true
      → Some (plain_set set) ≡ option_map (λ ms. set_of (in_order ms)) (if are_complete methods then Some methods else None)
  complete_kept is = rw (complete is) (ap Some set_told)
