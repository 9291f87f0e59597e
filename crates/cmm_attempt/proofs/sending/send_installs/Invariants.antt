use Rattle.std.proofs.Common.{◌≡◌, take, map}
use Rattle.cmm_attempt.specs.Installs.{send_install}
use Rattle.cmm_attempt.proofs.sending.send_installs.Given as goal

abbrev pub invariant-loop-n : goal.invariant-loop-n
invariant-loop-n l = l.steps.items ≡ map (send_install l.plan l.i) (take l.n-index l.to)
