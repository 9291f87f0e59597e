use Rattle.std.proofs.Common.{IfOk, sym, subst}
use Rattle.schedule_text.specs.Allowed.{IsAllowedLine}
use Rattle.schedule_text.specs.declared.header.Head.{Head}
use Rattle.schedule_text.proofs.reading.read_line.Goals as goal

pub returns-in-Pr-clause-allowed : goal.returns-in-Pr-clause-allowed
returns-in-Pr-clause-allowed c = subst (λ (h : Head). IfOk c.pr_line.result (IsAllowedLine h c.args.so_far)) (sym c.in-Pr.is) (c.pr_line.ensures.allowed c.in-Pr.field-0 c.args.so_far)
