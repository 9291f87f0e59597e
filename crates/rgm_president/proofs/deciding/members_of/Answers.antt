use Rattle.std.proofs.Common.{◌≡◌, ◌≤◌, ℕ, List, length, sym, subst}
use Rattle.cl_base.specs.Limits.{most_nodes}
use Rattle.cl_base.specs.Numbers.{numbers_to}
use Rattle.rgm_president.specs.Decisions.{members_of}
use Rattle.rgm_president.proofs.Turns.{few_numbers}
use Rattle.rgm_president.proofs.deciding.members_of.Goals as goal

pub returns-clause-members : goal.returns-clause-members
unfolding members_of
returns-clause-members c = c.in_ok-nodes.ensures.value

pub returns-clause-few : goal.returns-clause-few
returns-clause-few c =
    let same : c.in_ok-nodes.nodes.items ≡ numbers_to c.args.members most_nodes = c.in_ok-nodes.ensures.value in
    subst (λ (ns : List ℕ). length ns ≤ 32) (sym same) (few_numbers c.args.members 32)
