use Rattle.std.proofs.Common.{◌≡◌, take}
use Rattle.rgm_member.specs.Reports.{resource_reports}
use Rattle.rgm_member.proofs.reporting.resource_reports.Given as goal

abbrev pub invariant-loop-place : goal.invariant-loop-place
invariant-loop-place l = l.reports.items ≡ resource_reports l.resources.entries (take l.place l.groups.resources)
