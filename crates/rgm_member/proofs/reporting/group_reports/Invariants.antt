use Rattle.std.proofs.Common.{◌≡◌, take}
use Rattle.rgm_member.specs.Reports.{group_reports}
use Rattle.rgm_member.proofs.reporting.group_reports.Given as goal

abbrev pub invariant-loop-place : goal.invariant-loop-place
invariant-loop-place l = l.reports.items ≡ group_reports l.kept.entries (take l.place l.groups.groups)
