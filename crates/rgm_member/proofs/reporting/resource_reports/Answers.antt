use Rattle.std.proofs.Common.{rules}
use Rattle.rgm_member.specs.State.{marks_of}
use Rattle.rgm_member.specs.Reports.{resource_report}
use Rattle.rgm_member.proofs.Reports.{one_more, no_more}
use Rattle.rgm_member.proofs.reporting.resource_reports.Goals as goal
use Rattle.rgm_member.proofs.reporting.resource_reports.Goals.{in-Some+in_ok-add_resource, in_default}

pub loop-place-preserved : goal.loop-place-preserved
loop-place-preserved c = elim c.match-resource_at.branch [
  | in-Some+in_ok-add_resource w ↦
      let more = one_more (λ e. resource_report e.0 (marks_of c.args.resources.now.entries e.0)) c.args.groups.now.resources c.loop-place.place (w.in-Some.r.now, w.in-Some.field-0-1.now) (search rules) in
      search rules
  | in_default w ↦
      let more = no_more (λ e. resource_report e.0 (marks_of c.args.resources.now.entries e.0)) c.args.groups.now.resources c.loop-place.place (search rules) in
      search rules
]
