use Rattle.std.proofs.Common.{sym}
use Rattle.update_log.proofs.LogSteps.{votes_taken, votes_untaken}
use Rattle.update_log.proofs.votes.votes_with.Goals as goal

pub returns-then-not-branch : goal.returns-then-not-branch
returns-then-not-branch c = sym (votes_untaken c.args.config c.args.text.now c.in_ok-add.field-0 c.in_ok-add.ensures.taken c.if-not-branch.true)

pub returns : goal.returns
returns c =
    votes_taken c.args.config c.add.new.config c.votes-committed.result.now c.votes.result.now c.args.text.now c.in_ok-add.field-0
    c.votes-committed.ensures.value c.votes.ensures.value c.in_ok-add.ensures.taken c.if-not-branch.false c.in_ok-add.ensures.after
