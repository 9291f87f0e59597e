use Rattle.std.proofs.Common.{◌≤◌}
use Rattle.cmm_member.proofs.ListLemmas.{Read}
use Rattle.cmm_member.proofs.numbers.devices_of.Given as goal

abbrev pub invariant-loop-n : goal.invariant-loop-n
invariant-loop-n l = record { low : 1 ≤ l.n; read : Read l.text l.n l.devices }
