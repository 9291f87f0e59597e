-- A message that has its widths, and is no longer than a packet, can be spelled.
use Rattle.std.specs.Prelude.{ℕ, ◌*◌, ◌≤◌, List, [], ◌∷◌, Option, None, Some, IfSome, length}
use Rattle.std.proofs.Common.{arith}
use Rattle.std.specs.List.{AllByRecursion, sum_by}
use Rattle.std.specs.Option.{option_to_list}
use Rattle.std.proofs.lemmas.List.Sums.{sum_by-cons}
use Rattle.wire.specs.declared.message.Body.{Body}
use Rattle.wire.specs.declared.message.Body.TheVariants as body
use Rattle.wire.specs.declared.report.GroupReport.{GroupReport}
use Rattle.wire.specs.declared.report.Report.{Report}
use Rattle.wire.specs.declared.report.ResourceReport.{ResourceReport}
use Rattle.wire.specs.Lengths.{fields_length, group_length, list_length, report_length, resource_length, text_length}
use Rattle.wire.specs.Spelling.{FitsBody, FitsGroup, FitsReport, IsShortList, IsShortResource, IsShortText}
use Rattle.wire.proofs.Lengths.{spellings}
use Rattle.refinement.specs.node_widths.Widths.{BodyFits, GroupFits, ReportFits, SentMessagesFit}

-- A text has its length in 4 bytes.
count_most : (texts : List (List ℕ)) → 4 * length texts ≤ sum_by text_length texts
count_most [] = omega arith
count_most (text ∷ texts) = omega (arith, sum_by-cons text_length text texts, count_most texts)

each_short : (texts : List (List ℕ)) → sum_by text_length texts ≤ 131072 → AllByRecursion IsShortText texts
each_short [] le = tt
each_short (text ∷ texts) le =
    (omega (arith, sum_by-cons text_length text texts, le), each_short texts (omega (arith, sum_by-cons text_length text texts, le)))

texts_short : (texts : List (List ℕ)) → list_length text_length texts ≤ 131072 → IsShortList IsShortText texts
texts_short texts le = (omega (arith, count_most texts, le), each_short texts (omega (arith, le)))

pending_short : (pending : Option (List ℕ)) → list_length text_length (option_to_list pending) ≤ 131072 → IfSome pending IsShortText
pending_short None le = tt
pending_short (Some text) le = omega (arith, le)

-- A report has a resource in 5 bytes at least, and a group in 8.

resources_most : (rs : List ResourceReport) → 5 * length rs ≤ sum_by resource_length rs
resources_most [] = omega arith
resources_most (r ∷ rs) = omega (arith, sum_by-cons resource_length r rs, resources_most rs)

resources_short : (rs : List ResourceReport) → sum_by resource_length rs ≤ 131072 → AllByRecursion IsShortResource rs
resources_short [] le = tt
resources_short (r ∷ rs) le =
    (omega (arith, sum_by-cons resource_length r rs, le), resources_short rs (omega (arith, sum_by-cons resource_length r rs, le)))

groups_most : (gs : List GroupReport) → 8 * length gs ≤ sum_by group_length gs
groups_most [] = omega arith
groups_most (g ∷ gs) = omega (arith, sum_by-cons group_length g gs, groups_most gs)

groups_short : (gs : List GroupReport) → AllByRecursion GroupFits gs → sum_by group_length gs ≤ 131072 → AllByRecursion FitsGroup gs
groups_short [] h le = tt
groups_short (g ∷ gs) h le =
    ((omega (arith, sum_by-cons group_length g gs, le), h.0.0, h.0.1), groups_short gs h.1 (omega (arith, sum_by-cons group_length g gs, le)))

report_fits : (r : Report) → ReportFits r → report_length r ≤ 131072 → FitsReport r
report_fits r h le = (
  (omega (arith, resources_most r.resources, le), resources_short r.resources (omega (arith, le))),
  (omega (arith, groups_most r.groups, le), groups_short r.groups h (omega (arith, le))),
)

fields_fit : (b : Body) → BodyFits b → fields_length b ≤ 131072 → FitsBody b
fields_fit (body.Promise epoch installed members valid flagged committed pending) h le =
    (h.0, h.1, h.2, h.3, texts_short committed (omega (arith, le)), pending_short pending (omega (arith, le)))
fields_fit (body.Install i) h le = (h.0, h.1, texts_short i.committed (omega (arith, le)), pending_short i.pending (omega (arith, le)), h.3)
fields_fit (body.Ready epoch joined report) h le = (h.0, h.1, report_fits report h.2 (omega (arith, le)))
fields_fit (body.Prepare epoch place text) h le = (h.0, h.1, omega (arith, le))
fields_fit (body.Order o) h le = (h.0, h.1, omega (arith, h.2.1))
fields_fit (body.Request epoch number text) h le = (h.0, h.1, omega (arith, le))
fields_fit (body.Answer epoch number text) h le = (h.0, h.1, omega (arith, le))
fields_fit _ h le = h

pub sent_messages_fit : SentMessagesFit
sent_messages_fit m from h le = (from, fields_fit m.body h (omega (arith, spellings m, le)))
