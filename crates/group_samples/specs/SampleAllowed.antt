-- Which calls are allowed where: the resource `a` of group `g` on node 1, and a resource `b` that depends on it, in `g` or in a group `h` that
-- stays away from `g` or close to it.
use Rattle.std.specs.Prelude.{ℕ, true, false, List, [], ◌∷◌}
use Rattle.cl_base.specs.declared.header.Version.TheVariants.{One}
use Rattle.cl_base.specs.declared.history.FailoverMode.TheVariants as mode
use Rattle.cl_base.specs.declared.method.Method.TheVariants.{Start, Stop, MonitorStart}
use Rattle.cl_base.specs.declared.method.Outcome.TheVariants.{Success, Failure}
use Rattle.rg_props.specs.declared.affinity.Affinity.{Affinity}
use Rattle.rg_props.specs.declared.affinity.Affinity.TheVariants.{PlusPlus, MinusMinus}
use Rattle.status_report.specs.declared.start_entry.AdoptedFlags.{AdoptedFlags}
use Rattle.history.specs.Moment.{Moment}
use Rattle.history.specs.Trace.{start, adopt}
use Rattle.history_samples.specs.SampleContents.{no_device}
use Rattle.group_history.specs.Setting.{Groups}
use Rattle.group_history.specs.Doings.{called, done}
use Rattle.group_samples.specs.SampleConfigurations.{a, g, group_on, resource_under, groups_on}

abbrev pub b : List ℕ
b = 98 ∷ []

abbrev pub h : List ℕ
h = 104 ∷ []

abbrev pub both : List ℕ
both = 1 ∷ 2 ∷ []

-- ---- what is configured

-- `b` depends on `a`, both in `g`
abbrev pub dependent : Groups
dependent = groups_on no_device both (record {
  version = One;
  groups = (g, group_on both) ∷ [];
  resources = (a, resource_under mode.None) ∷ (b, record (resource_under mode.None) { strong = a ∷ [] }) ∷ [];
})

-- `b` is of a group `h` that declares this affinity to `g`
abbrev pub declaring : Affinity → Groups
declaring affinity = groups_on no_device both (record {
  version = One;
  groups = (g, group_on both) ∷ (h, record (group_on both) { affinities = record { affinity = affinity; group = g } ∷ [] }) ∷ [];
  resources = (a, resource_under mode.None) ∷ (b, record (resource_under mode.None) { group = h }) ∷ [];
})

abbrev pub apart : Groups
apart = declaring MinusMinus

abbrev pub close : Groups
close = declaring PlusPlus

-- ---- what runs

abbrev pub running : AdoptedFlags
running = record { pre = false; run = true; mon = false; faulted = false; stop_failed = false }

-- a membership of both nodes in which nothing runs
abbrev pub empty : List Moment
empty = start 65 3 0 0 ∷ []

-- `a` runs on node 1
abbrev pub up : List Moment
up = adopt 65 1 a running ∷ empty

-- and `b` beside it, or on node 2
abbrev pub beside : List Moment
beside = adopt 65 1 b running ∷ up

abbrev pub elsewhere : List Moment
elsewhere = adopt 65 2 b running ∷ up

-- `a` runs on both nodes
abbrev pub up_twice : List Moment
up_twice = adopt 65 2 a running ∷ up

-- ---- calls

-- `b` before `a`, and after it
abbrev pub started_before_its_dependency : List Moment
started_before_its_dependency = called 65 1 Start b ∷ empty

abbrev pub started_after_a_failure : List Moment
started_after_a_failure = called 65 1 Start b ∷ done 65 1 Start a Failure ∷ empty

abbrev pub started_after_its_dependency : List Moment
started_after_its_dependency = called 65 1 Start b ∷ done 65 1 Start a Success ∷ empty

-- `a` stops while `b` runs
abbrev pub stopped_before_its_dependent : List Moment
stopped_before_its_dependent = called 65 1 Stop a ∷ beside

-- `g` has one node at most
abbrev pub started_twice : List Moment
started_twice = called 65 2 Start a ∷ up

-- `h` is up on node 1, and `g` comes there
abbrev pub started_beside : List Moment
started_beside = called 65 1 Start a ∷ adopt 65 1 b running ∷ empty

-- `g` is up on node 1, and `h` comes there, or to node 2
abbrev pub started_there : List Moment
started_there = called 65 1 Start b ∷ up

abbrev pub started_away : List Moment
started_away = called 65 2 Start b ∷ up

-- what does not run is stopped; a type without monitor gets one
abbrev pub stopped_without_running : List Moment
stopped_without_running = called 65 1 Stop a ∷ empty

abbrev pub monitored_without_a_method : List Moment
monitored_without_a_method = called 65 1 MonitorStart a ∷ up

-- on a node that is no member
abbrev pub started_outside : List Moment
started_outside = called 65 2 Start a ∷ start 65 1 0 0 ∷ []
