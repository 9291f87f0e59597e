-- What was done for each member was done for all.
use Rattle.std.proofs.Common.{◌≡◌, ℕ, ◌≤◌, List, ◌++◌, length, take, refl, ◌∙◌}
use Rattle.std.specs.List.{flat_map}
use Rattle.std.proofs.lemmas.List.{take_all}
use Rattle.cl_base.specs.Limits.{most_nodes}
use Rattle.cl_base.specs.Numbers.{numbers_to}
use Rattle.cmm_attempt.specs.Attempts.{AttemptState}
use Rattle.rg_props.specs.declared.group.Resource.{Resource}
use Rattle.rg_view.specs.declared.view.GroupView.{GroupView}
use Rattle.wire.specs.declared.report.Report.{Report}
use Rattle.node_model.specs.declared.output.Output.{Output}
use Rattle.node_model.specs.Attempts.{adopted_lines, adopted_on, report_for, reports_of}

pub all_reported : (me : ℕ) (own : Report) (a : AttemptState) (nodes : List ℕ) (i : ℕ) (reports : List (ℕ × Report)) → nodes ≡ numbers_to a.plan.members most_nodes → length nodes ≤ i
    → reports ≡ flat_map (report_for me own a) (take i nodes) → reports ≡ reports_of me own a
unfolding reports_of
all_reported me own a nodes i reports are past so = so ∙ (rw (take_all i nodes past, are) refl)

pub all_told : (e : ℕ) (v : GroupView) (resources : List (List ℕ × Resource)) (nodes : List ℕ) (i : ℕ) (before out : List Output) → nodes ≡ numbers_to v.members most_nodes → length nodes ≤ i
    → out ≡ before ++ flat_map (adopted_on e v resources) (take i nodes) → out ≡ before ++ adopted_lines e v resources
unfolding adopted_lines
all_told e v resources nodes i before out are past so = so ∙ (rw (take_all i nodes past, are) refl)
