-- The own map of a node: the flags and marks of resources there, with the past of groups and the restarts of resources, as the lines tell them
-- since the node went up.
use Rattle.std.specs.Prelude.{ℕ, ◌==◌, ◌&&◌, Bool, false, if◌then◌else◌, List, [], ◌∷◌, Option, Some, None}
use Rattle.ccr_tables.specs.State.{ConfigState}
use Rattle.status_report.specs.declared.call_entry.ProbeResult.TheVariants as result
use Rattle.wire.specs.declared.report.Marks.{Marks}
use Rattle.wire.specs.declared.report.Report.{Report}
use Rattle.rgm_member.specs.declared.past.Past.{Past}
use Rattle.rgm_member.specs.Keeping.{resources_kept, those_in}
use Rattle.rgm_member.specs.Outcomes.{groups_after, resources_after, resources_cleared, with_move}
use Rattle.rgm_member.specs.Probes.{restarts_with}
use Rattle.rgm_member.specs.Reports.{group_reports, resource_reports}
use Rattle.rgm_member.specs.Settings.{charged}
use Rattle.history.specs.Moment.{Moment}
use Rattle.history.specs.Names as name
use Rattle.history.specs.Names.{Name}
use Rattle.history.specs.Trace.{up, saved, installed, propose, ticked, delivered}
use Rattle.history.specs.Setting.{coordinator}
use Rattle.history.specs.Letters.{arrived, passes}
use Rattle.group_history.specs.Setting.{Groups, second_of, config_of, config_at}
use Rattle.group_history.specs.Doings.{done, probed}
use Rattle.group_history.specs.Clears.{cleared_at}

pub record Own : Type 0 where
  -- the flags and marks of resources
  pub marks : List (List ℕ × Marks)
  -- the last start failures and the last move of groups
  pub past : List (List ℕ × Past)
  -- the seconds of restarts
  pub restarts : List (List ℕ × List ℕ)

abbrev pub nothing : Own
nothing = record { marks = []; past = []; restarts = [] }

-- what is kept under a configuration: nothing of what is deleted
abbrev pub kept_under : ConfigState → Own → Own
kept_under c o = record {
  marks = resources_kept c.groups.resources o.marks;
  past = those_in c.groups.groups o.past;
  restarts = those_in c.groups.resources o.restarts;
}

abbrev pub cleared : Option (List ℕ) → Own → Own
cleared None o = o
cleared (Some r) o = record o { marks = resources_cleared (Some r) o.marks }

abbrev pub is_prepare : Name → Bool
is_prepare (name.Prepare v) = Bool.true
is_prepare _ = false

-- the event under way is that of a Prepare delivered to n
abbrev pub in_prepare : ℕ → List Moment → Bool
in_prepare n before = passes (λ l. is_prepare l.name && (l.to == n)) (arrived before)

-- what a node has since it went up, from where it changes in the trace: at the end of a call, a clear or a failed probe; and where its
-- updates change, what is deleted goes
abbrev pub own_of : Groups → ℕ → List Moment → Own
own_of S n [] = nothing
own_of S n (up m ∷ before) = if m == n then nothing else own_of S n before
own_of S n (done e m method r outcome ∷ before) =
    if m == n
    then record (own_of S n before) {
      marks = resources_after (config_of S e before) (Some r) method outcome (own_of S n before).marks;
      past = groups_after (config_of S e before) (Some r) method outcome (second_of before) (own_of S n before).past;
    }
    else own_of S n before
own_of S n (probed m r result.Restart ∷ before) =
    if m == n then record (own_of S n before) { restarts = restarts_with (own_of S n before).restarts r (second_of before) } else own_of S n before
own_of S n (probed m r result.Move ∷ before) =
    if m == n
    then record (own_of S n before) { past = with_move (own_of S n before).past (second_of before) (charged (config_at S n before) r) }
    else own_of S n before
own_of S n (installed m e ∷ before) = if m == n then kept_under (config_at S n (installed m e ∷ before)) (own_of S n before) else own_of S n before
own_of S n (saved m ∷ before) =
    if (m == n) && in_prepare n before then kept_under (config_at S n (saved m ∷ before)) (own_of S n before) else own_of S n before
own_of S n (propose e v words ∷ before) =
    if coordinator e == n then kept_under (config_at S n (propose e v words ∷ before)) (own_of S n before) else own_of S n before
own_of S n (ticked m ∷ before) = cleared (cleared_at S n before (ticked m)) (own_of S n before)
own_of S n (delivered p a b ∷ before) = cleared (cleared_at S n before (delivered p a b)) (own_of S n before)
own_of S n (_ ∷ before) = own_of S n before

-- what n reports: of the things that its updates configure, those with a flag, a mark or a second
abbrev pub report_of : Groups → ℕ → List Moment → Report
report_of S n before = record {
  resources = resource_reports (own_of S n before).marks (config_at S n before).groups.resources;
  groups = group_reports (own_of S n before).past (config_at S n before).groups.groups;
}
