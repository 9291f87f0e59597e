-- A Ready has a packet's size where the updates of its node have room on a disk.
use Rattle.std.specs.Prelude.{ℕ, ◌+◌, ◌≤◌, Bool, true, false, List, [], ◌∷◌, Option, None, Some, length, if◌then◌else◌}
use Rattle.std.specs.List.{sum_by}
use Rattle.std.specs.Option.{option_to_list}
use Rattle.std.proofs.Common.{arith}
use Rattle.std.proofs.lemmas.List.Sums.{sum_by-append, sum_by-cons}
use Rattle.ccr_commit.specs.Entries.{texts_of}
use Rattle.ccr_tables.specs.State.{ConfigState}
use Rattle.node_model.specs.Configurations.{own_config}
use Rattle.node_model.specs.Members.{ready_of}
use Rattle.node_model.specs.Seats.{record_of}
use Rattle.node_model.specs.declared.cluster.Cluster.{Cluster}
use Rattle.node_model.specs.declared.node.UpNode.{UpNode}
use Rattle.rg_props.specs.declared.group.Group.{Group}
use Rattle.rg_props.specs.declared.group.Resource.{Resource}
use Rattle.rgm_member.specs.Reports.{group_report, group_reports, has_mark, has_past, report_of, resource_report, resource_reports}
use Rattle.rgm_member.specs.State.{WorkerState, marks_of, past_of}
use Rattle.rgm_member.specs.declared.past.Past.{Past}
use Rattle.run_packets.proofs.replies.Promising.{le_test, texts_shorter}
use Rattle.run_packets.specs.prepares.Proposals.{IsShort}
use Rattle.run_packets.specs.fits.Rooms.{HasRoom}
use Rattle.wire.proofs.Lengths.{spellings}
use Rattle.wire.specs.Lengths.{group_length, report_length, resource_length}
use Rattle.wire.specs.Spelling.{seconds_of}
use Rattle.wire.specs.declared.report.GroupReport.{GroupReport}
use Rattle.wire.specs.declared.report.LastFailures.{LastFailures}
use Rattle.wire.specs.declared.report.LastFailures.TheVariants.{Never, Once, Twice}
use Rattle.wire.specs.declared.report.Marks.{Marks}
use Rattle.wire.specs.declared.report.ResourceReport.{ResourceReport}
use Rattle.run_outcomes.proofs.readies.Tables.{config_size, names_size, table_size}

-- ---- one thing

seconds_few : (f : LastFailures) → length (seconds_of f) ≤ 2
seconds_few Never = omega arith
seconds_few (Once first) = omega arith
seconds_few (Twice first second) = omega arith

moved_few : (o : Option ℕ) → length (option_to_list o) ≤ 1
moved_few None = omega arith
moved_few (Some second) = omega arith

one_group : (g : List ℕ) (p : Past) → sum_by group_length (group_report g p) ≤ 32 + length g
one_group g p = by_test (has_past p)
  where
    r : GroupReport
    r = record { group = g; failures = p.failures; moved = p.moved }

    by_test : (b : Bool) → sum_by group_length (if b then r ∷ [] else []) ≤ 32 + length g
    by_test true = omega (arith, sum_by-cons group_length r [], seconds_few p.failures, moved_few p.moved)
    by_test false = omega arith

one_resource : (name : List ℕ) (m : Marks) → sum_by resource_length (resource_report name m) ≤ 5 + length name
one_resource name m = by_test (has_mark m)
  where
    r : ResourceReport
    r = record { resource = name; marks = m }

    by_test : (b : Bool) → sum_by resource_length (if b then r ∷ [] else []) ≤ 5 + length name
    by_test true = omega (arith, sum_by-cons resource_length r [])
    by_test false = omega arith

-- ---- all of them

groups_size : (groups : List (List ℕ × Past)) (things : List (List ℕ × Group)) → sum_by group_length (group_reports groups things) ≤ names_size 32 things
groups_size groups [] = omega arith
groups_size groups (e ∷ es) =
    omega (arith, sum_by-append group_length (group_report e.0 (past_of groups e.0)) (group_reports groups es), one_group e.0 (past_of groups e.0), groups_size groups es)

resources_size : (resources : List (List ℕ × Marks)) (things : List (List ℕ × Resource)) → sum_by resource_length (resource_reports resources things) ≤ names_size 5 things
resources_size resources [] = omega arith
resources_size resources (e ∷ es) =
    omega (arith, sum_by-append resource_length (resource_report e.0 (marks_of resources e.0)) (resource_reports resources es), one_resource e.0 (marks_of resources e.0), resources_size resources es)

report_size : (w : WorkerState) (s : ConfigState) → report_length (report_of w s) ≤ 4 + table_size s.groups
report_size w s = omega (arith, groups_size w.groups s.groups.groups, resources_size w.resources s.groups.resources)

-- ---- a Ready

pub ready_short : (c : Cluster) (n : ℕ) (x : UpNode) → HasRoom c.nodes c.devices (texts_of (record_of x).entries) → IsShort n (ready_of c x)
ready_short c n x h =
    le_test _ 131072
    (omega (
      arith,
      spellings (record { sender = n; body = ready_of c x }),
      report_size x.worker (own_config c x),
      config_size c.header (texts_of (record_of x).entries),
      texts_shorter 0 (texts_of (record_of x).entries),
      h.most,
    ))
