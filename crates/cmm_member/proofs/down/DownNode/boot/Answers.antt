use Rattle.std.proofs.Common.{◌∙◌}
use Rattle.cmm_member.specs.Views.{kept}
use Rattle.cmm_member.proofs.NodeLemmas.{booted_as}
use Rattle.cmm_member.proofs.down.DownNode.boot.Goals as goal

pub returns-clause-read : goal.returns-clause-read
returns-clause-read c = λ saves r form table.
    c.new-node.ensures ∙ booted_as c.args.self c.self.inside.me c.self.inside.first_valid (kept c.in_ok-found.found.record) r c.zero.result c.empty.result c.self.view_is (c.in_ok-found.ensures.read saves r form table) c.zero.ensures.value c.empty.ensures.value
