use Rattle.std.proofs.Common.{◌≡◌, ◌==◌, false, sym, subst, ◌∙◌}
use Rattle.interpreter.proofs.Ends.{last_taken}
use Rattle.interpreter.proofs.reader.Reader.last_line.Goals as goal

pub returns : goal.returns
returns c = last_taken _ c.args.task c.args.self.now c.take_line.new.self c.take_line.result c.requires (subst (λ n. (n == 0) ≡ false) c.args.self.now.held.ok.0 (sym c.is_empty.ensures ∙ c.if-is_empty.false)) c.take_line.ensures.taken c.take_line.ensures.whole
