use Rattle.std.proofs.Common.{◌≡◌, take}
use Rattle.std.specs.List.{filter}
use Rattle.cl_base.specs.Methods.{has_method}
use Rattle.update_words.proofs.method.having.Given as goal

abbrev pub invariant-loop-method : goal.invariant-loop-method
invariant-loop-method l = l.found.items ≡ filter (has_method l.methods) (take l.method-index l.among)
