use Rattle.std.proofs.Common.{◌≡◌, take}
use Rattle.std.specs.List.{filter}
use Rattle.cl_base.specs.Methods.{has_method}
use Rattle.ccr_rows.proofs.resource_types.methods_among.Given as goal

abbrev pub invariant-loop-method : goal.invariant-loop-method
invariant-loop-method l = l.among.items ≡ filter (has_method l.t.methods) (take l.method-index l.methods)
