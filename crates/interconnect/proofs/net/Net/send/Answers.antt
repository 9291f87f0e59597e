use Rattle.std.proofs.Common.{◌+◌, ◌∙◌, ap}
use Rattle.interconnect.specs.Links.{Links}
use Rattle.interconnect.proofs.Sends.{sending_next}
use Rattle.interconnect.proofs.Crowds.{sending_uncrowded}
use Rattle.interconnect.proofs.net.Net.send.Goals as goal

pub returns-clause-next : goal.returns-clause-next
returns-clause-next c =
    ap (λ (l : Links). l.next) c.send.ensures.after ∙ sending_next c.self.inside.flight c.args.from c.args.to c.args.bytes.now
    ∙ ap (λ (l : Links). l.next + 1) c.self.view_is

pub invariant_of-self : goal.invariant_of-self
invariant_of-self c =
    let k = c.self.invariant in
    (k.0, rw c.send.ensures.after (sending_uncrowded c.self.inside.flight c.args.from c.args.to c.args.bytes.now k.1))
