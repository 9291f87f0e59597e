use Rattle.std.proofs.Common.{◌≡◌, take}
use Rattle.cl_base.specs.Methods.{has_method}
use Rattle.cl_base.specs.declared.method.Method.{Method}
use Rattle.admin_words.specs.Methods.{lists}
use Rattle.admin_words.proofs.methods.set_of.Given as goal

abbrev pub invariant-loop-method : goal.invariant-loop-method
invariant-loop-method l = (m : Method) → has_method l.set m ≡ lists (take l.method-index l.methods) m
