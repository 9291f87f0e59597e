use Rattle.std.proofs.Common.{rules}
use Rattle.cl_base.proofs.FirstNumbers.{first_done}
use Rattle.cl_base.proofs.node_set.NodeSet.first.Goals as goal

pub returns-clause-members : goal.returns-clause-members
returns-clause-members c = λ m. first_done _ c.args.n m (search rules) c.requires
