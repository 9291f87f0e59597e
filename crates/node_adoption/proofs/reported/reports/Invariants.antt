use Rattle.std.proofs.Common.{◌≡◌, take}
use Rattle.std.specs.List.{flat_map}
use Rattle.node_model.specs.Attempts.{report_for}
use Rattle.node_adoption.proofs.reported.reports.Given as goal

-- what the first of them report
abbrev pub invariant-loop-member : goal.invariant-loop-member
invariant-loop-member l = l.reports.items ≡ flat_map (report_for l.me l.own l.attempt) (take l.member-index l.member-items)
