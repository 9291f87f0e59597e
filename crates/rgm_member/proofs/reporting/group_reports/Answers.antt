use Rattle.std.proofs.Common.{rules}
use Rattle.rgm_member.specs.State.{past_of}
use Rattle.rgm_member.specs.Reports.{group_report}
use Rattle.rgm_member.proofs.Reports.{one_more, no_more}
use Rattle.rgm_member.proofs.reporting.group_reports.Goals as goal
use Rattle.rgm_member.proofs.reporting.group_reports.Goals.{in-Some+in_ok-add_group, in_default}

pub loop-place-preserved : goal.loop-place-preserved
loop-place-preserved c = elim c.match-group_at.branch [
  | in-Some+in_ok-add_group w ↦
      let more = one_more (λ e. group_report e.0 (past_of c.args.kept.now.entries e.0)) c.args.groups.now.groups c.loop-place.place (w.in-Some.g.now, w.in-Some.field-0-1.now) (search rules) in
      search rules
  | in_default w ↦
      let more = no_more (λ e. group_report e.0 (past_of c.args.kept.now.entries e.0)) c.args.groups.now.groups c.loop-place.place (search rules) in
      search rules
]
