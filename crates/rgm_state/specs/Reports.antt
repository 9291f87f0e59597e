-- What the reports of the members tell.
use Rattle.std.specs.Prelude.{ℕ, List, [], ◌∷◌, Option, None, Some, fold}
use Rattle.std.specs.Option.{option_to_list}
use Rattle.rg_props.specs.Words.{name_in}
use Rattle.rg_view.specs.declared.histories.GroupAt.{GroupAt}
use Rattle.rg_view.specs.declared.states.ResourceAt.{ResourceAt}
use Rattle.rg_view.specs.Histories.{histories_with}
use Rattle.rg_view.specs.States.{states_with}
use Rattle.wire.specs.declared.report.GroupReport.{GroupReport}
use Rattle.wire.specs.declared.report.LastFailures.{LastFailures}
use Rattle.wire.specs.declared.report.LastFailures.TheVariants.{Never, Once, Twice}
use Rattle.wire.specs.declared.report.Marks.{Marks}
use Rattle.wire.specs.declared.report.Report.{Report}
use Rattle.wire.specs.declared.report.ResourceReport.{ResourceReport}

-- the resource with these flags and marks on the node
abbrev pub state_from : List ℕ → ℕ → Marks → ResourceAt
state_from r n m = record {
  resource = r;
  node = n;
  pre = m.pre;
  run = m.run;
  mon = m.mon;
  faulted = m.faulted;
  stop_failed = m.stop_failed;
  monitor_failed = m.monitor_failed;
}

-- A text that is no name tells nothing.
abbrev pub with_state_from : ℕ → Marks → List ResourceAt → Option (List ℕ) → List ResourceAt
with_state_from n m states None = states
with_state_from n m states (Some r) = states_with states (state_from r n m)

abbrev pub with_resource : ℕ → List ResourceAt → ResourceReport → List ResourceAt
with_resource n states x = with_state_from n x.marks states (name_in x.resource)

abbrev pub with_resources_on : ℕ → List ResourceAt → List ResourceReport → List ResourceAt
with_resources_on n states reports = fold (with_resource n) states reports

-- what one member tells of resources, and what all do
abbrev pub with_resources : List ResourceAt → ℕ × Report → List ResourceAt
with_resources states e = with_resources_on e.0 states e.1.resources

abbrev pub reported_states : List (ℕ × Report) → List ResourceAt
reported_states reports = fold with_resources [] reports

abbrev pub seconds_of : LastFailures → List ℕ
seconds_of Never = []
seconds_of (Once first) = first ∷ []
seconds_of (Twice first second) = first ∷ second ∷ []

-- what is told of a group on the node
abbrev pub history_from : List ℕ → ℕ → GroupReport → GroupAt
history_from g n x = record { group = g; node = n; failures = seconds_of x.failures; moves = option_to_list x.moved }

abbrev pub with_history_from : ℕ → GroupReport → List GroupAt → Option (List ℕ) → List GroupAt
with_history_from n x histories None = histories
with_history_from n x histories (Some g) = histories_with histories (history_from g n x)

abbrev pub with_group : ℕ → List GroupAt → GroupReport → List GroupAt
with_group n histories x = with_history_from n x histories (name_in x.group)

abbrev pub with_groups_on : ℕ → List GroupAt → List GroupReport → List GroupAt
with_groups_on n histories reports = fold (with_group n) histories reports

-- what one member tells of groups, and what all do
abbrev pub with_groups : List GroupAt → ℕ × Report → List GroupAt
with_groups histories e = with_groups_on e.0 histories e.1.groups

abbrev pub reported_histories : List (ℕ × Report) → List GroupAt
reported_histories reports = fold with_groups [] reports
