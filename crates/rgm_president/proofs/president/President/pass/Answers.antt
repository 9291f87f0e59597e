use Rattle.rgm_president.specs.State.{PresidentState}
use Rattle.rgm_president.proofs.Rests.{stands_later}
use Rattle.rgm_president.proofs.president.President.pass.Goals as goal

pub invariant_of-self : goal.invariant_of-self
invariant_of-self c =
    let before : PresidentState = record { epoch = c.self.inside.epoch; given = c.self.inside.given; view = c.self.inside.view } in
    stands_later c.self.inside.steady c.self.inside.basis before c.args.now c.self.invariant
