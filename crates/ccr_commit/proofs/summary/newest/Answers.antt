use Rattle.std.proofs.Common.{rules}
use Rattle.ccr_commit.proofs.NewestLemmas.{begins, better, keeps, ends}
use Rattle.ccr_commit.proofs.summary.newest.Goals as goal
use Rattle.ccr_commit.proofs.summary.newest.Goals.{then-is_newer, else-is_newer}

pub loop-index-init : goal.loop-index-init
loop-index-init c = begins c.args.summaries.now c.requires.some

pub loop-index-preserved : goal.loop-index-preserved
loop-index-preserved c =
    let a = c.index-summaries-index in
    let b = c.index-summaries-best in
    elim c.if-is_newer.branch [
      | then-is_newer w ↦ rw w.best-is (better _ _ _ a.result b.result c.loop-index.invariant c.loop-index-test.true a.is b.is (search rules))
      | else-is_newer w ↦ rw w.best-is (keeps _ _ _ a.result b.result c.loop-index.invariant c.loop-index-test.true a.is b.is (search rules))
    ]

pub returns-clause-newest : goal.returns-clause-newest
returns-clause-newest c = ends _ _ _ c.loop-index.invariant c.loop-index-test.false
