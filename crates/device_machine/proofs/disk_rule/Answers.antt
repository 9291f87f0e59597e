use Rattle.std.proofs.Common.{◌∙◌}
use Rattle.device_machine.proofs.Reached.{reached, reached_later, never_back}
use Rattle.device_machine.proofs.Laws
use Rattle.device_machine.proofs.disk_rule.Goals as goal

pub returns-clause-session : goal.returns-clause-session
returns-clause-session c = λ registered before later s t n f r x h w. Laws.disk_rule t (reached_later registered before later s t r x) n f w ((never_back registered before later s t r x).holds f h)

pub returns-clause-left_out : goal.returns-clause-left_out
returns-clause-left_out c = λ registered before later s t n f r x h out w. Laws.left_out t (reached_later registered before later s t r x) n f w ((never_back registered before later s t r x).holds f h) ((never_back registered before later s t r x).members f n (((reached registered before s r).attempt f).collected_counted h.0) ∙ out)
