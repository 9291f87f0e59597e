use Rattle.config_cache.proofs.Makes.{taken, untaken}
use Rattle.config_cache.proofs.made.change.Goals as goal

pub returns-then-not-branch-clause-ok : goal.returns-then-not-branch-clause-ok
returns-then-not-branch-clause-ok c = rw c.in-Some.is (untaken _ c.in_ok-add.field-0 c.in_ok-add.ensures.taken c.if-not-branch.true)

pub returns-else-not-branch-clause-ok : goal.returns-else-not-branch-clause-ok
returns-else-not-branch-clause-ok c =
    rw c.in-Some.is (taken _ c.in-Some.made c.add.new.config c.in_ok-add.field-0 c.in_ok-add.ensures.taken c.if-not-branch.false c.in_ok-add.ensures.after)
