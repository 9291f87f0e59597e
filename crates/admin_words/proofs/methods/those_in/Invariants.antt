use Rattle.std.proofs.Common.{◌≡◌, take}
use Rattle.std.specs.List.{filter}
use Rattle.cl_base.specs.Methods.{has_method}
use Rattle.admin_words.specs.Methods.{set_of}
use Rattle.admin_words.proofs.methods.those_in.Given as goal

abbrev pub invariant-loop-method : goal.invariant-loop-method
invariant-loop-method l = l.those ≡ set_of (filter (has_method l.set) (take l.method-index l.among))
