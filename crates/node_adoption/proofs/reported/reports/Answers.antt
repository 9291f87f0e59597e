use Rattle.std.proofs.Common.{rules, ap, ◌∙◌, ◌++◌}
use Rattle.cl_base.specs.Limits.{most_nodes}
use Rattle.cl_base.specs.Numbers.{numbers_to}
use Rattle.node_model.specs.Attempts.{report_for}
use Rattle.node_adoption.proofs.Lists.{one_more}
use Rattle.node_adoption.proofs.Whole.{all_reported}
use Rattle.node_adoption.proofs.reported.reports.Goals as goal

pub loop-member-preserved : goal.loop-member-preserved
loop-member-preserved c =
    let f = report_for c.args.me c.args.own.now c.args.attempt.now in
    c.in_ok-add_report.ensures ∙ ap (λ rs. rs ++ f c.member-item.result) c.loop-member.invariant
    ∙ one_more f c.deref-member-items.result.now c.loop-member.member-index c.member-item.result c.loop-member-test.true c.member-item.is

pub returns : goal.returns
returns c =
    record {
      value = all_reported c.args.me c.args.own.now c.args.attempt.now c.deref-member-items.result.now c.loop-member.member-index c.loop-member.reports.items
          (c.deref-member-items.ensures.value ∙ c.in_ok-members.ensures.value ∙ ap (λ set. numbers_to set most_nodes) c.members.ensures.value) (search rules) c.loop-member.invariant;
    }
