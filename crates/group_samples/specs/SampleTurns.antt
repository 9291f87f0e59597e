-- Turns of two nodes: the group of the address is online on both, and node 1 has twice the weight of node 2.
use Rattle.std.specs.Prelude.{ℕ, List, [], ◌∷◌, Some}
use Rattle.ccr_tables.specs.State.{ConfigState}
use Rattle.cl_base.specs.declared.command.Policy.TheVariants.{Weighted}
use Rattle.cl_base.specs.declared.history.FailoverMode.TheVariants as mode
use Rattle.cl_base.specs.declared.method.Method.TheVariants.{Start}
use Rattle.cl_base.specs.declared.method.Outcome.TheVariants.{Success}
use Rattle.history.specs.Moment.{Moment}
use Rattle.history.specs.Trace.{member, served}
use Rattle.history_samples.specs.SampleContents.{no_device}
use Rattle.group_history.specs.Setting.{Groups}
use Rattle.group_history.specs.Doings.{called, done}
use Rattle.group_samples.specs.SampleConfigurations.{a, configured_on, g, moving, table_on}
use Rattle.group_samples.specs.SampleMaps.{adopted_as_told}
use Rattle.group_samples.specs.SampleStatus.{client, tick, x}

abbrev pub weighted : ConfigState
weighted = record (configured_on no_device (1 ∷ 2 ∷ []) (table_on (1 ∷ 2 ∷ []) mode.Soft)) {
  addresses = (x, record { group = g; policy = Weighted; weights = (record { node = 1; weight = 2 }) ∷ [] }) ∷ [];
}

abbrev pub weighing : Groups
weighing = record moving { configured = λ updates. weighted }

abbrev pub both_online : List Moment
both_online = done 65 1 Start a Success ∷ called 65 1 Start a ∷ tick (member 1 65 ∷ adopted_as_told)

abbrev pub served_by : ℕ → List Moment → List Moment
served_by n before = served x 10 80 (Some n) ∷ client before

abbrev pub by_weight : List Moment
by_weight = served_by 2 (served_by 1 (served_by 1 both_online))

abbrev pub always_the_first : List Moment
always_the_first = served_by 1 (served_by 1 (served_by 1 both_online))

abbrev pub as_if_weighted_otherwise : List Moment
as_if_weighted_otherwise = served_by 2 (served_by 2 (served_by 1 both_online))
