use Rattle.std.proofs.Common.{arith}
use Rattle.wire.proofs.Messages.{decoded}
use Rattle.wire.proofs.decoding.decode.Goals as goal

pub returns-clause-found : goal.returns-clause-found
returns-clause-found c = decoded c.args.bytes.now c.whole.result (λ i. omega (arith, c.type_inv.bytes i)) c.whole.ensures
