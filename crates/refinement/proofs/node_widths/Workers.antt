-- What a worker keeps, and what it reports, has its widths.
use Rattle.std.specs.Prelude.{ℕ, zero, suc, ◌-◌, nat_eq, Bool, List, [], ◌∷◌, ◌++◌, Option, None, Some, IfSome, drop, filter, length}
use Rattle.std.specs.List.{AllByRecursion}
use Rattle.std.specs.Option.{unwrap_or}
use Rattle.std.specs.Str.{bytes_eq}
use Rattle.cl_base.specs.declared.method.Method.{Method}
use Rattle.cl_base.specs.declared.method.Outcome.{Outcome}
use Rattle.cl_base.specs.declared.method.Outcome.TheVariants.{Success}
use Rattle.ccr_tables.specs.State.{ConfigState}
use Rattle.cmm_attempt.proofs.Basics.{if_either}
use Rattle.indexmap.specs.IndexMap.{insert_entry}
use Rattle.restart_policy.specs.declared.policy.ProbeAction.{ProbeAction}
use Rattle.restart_policy.specs.declared.policy.ProbeAction.TheVariants.{Restart, Move, Logged}
use Rattle.rg_props.specs.declared.group.Group.{Group}
use Rattle.rg_props.specs.Lookups.{named}
use Rattle.rg_props.specs.Words.{name_in}
use Rattle.rgm_member.specs.declared.carried.Carried.{Carried}
use Rattle.rgm_member.specs.declared.carried.Carried.TheVariants.{Called, Cleared, Kept, Old}
use Rattle.rgm_member.specs.declared.past.Past.{Past}
use Rattle.rgm_member.specs.declared.probed.Probed.{Probed}
use Rattle.rgm_member.specs.declared.probed.Probed.TheVariants.{NoMonitor, Good, Failed}
use Rattle.rgm_member.specs.Keeping.{kept_under}
use Rattle.rgm_member.specs.Orders.{after_order, done, with_outcome}
use Rattle.rgm_member.specs.Outcomes.{groups_after, is_start_failure, one_more, with_failure, with_move}
use Rattle.rgm_member.specs.Probes.{after_probe, most_restarts, one_more_restart, recorded, restarts_with}
use Rattle.rgm_member.specs.Reports.{group_report, group_reports, has_past, report_of}
use Rattle.rgm_member.specs.Settings.{charged}
use Rattle.rgm_member.specs.State.{WorkerState, no_past, past_of, put, restarts_of}
use Rattle.wire.specs.declared.message.Order.{Order}
use Rattle.wire.specs.declared.report.GroupReport.{GroupReport}
use Rattle.wire.specs.declared.report.LastFailures.{LastFailures}
use Rattle.wire.specs.declared.report.LastFailures.TheVariants.{Never, Once, Twice}
use Rattle.wire.specs.Spelling.{IsWord, seconds_of}
use Rattle.refinement.specs.node_widths.Widths.{EntryFits, GroupFits, OutcomeFits, PastFits, ReportFits, RestartsFit, WorkerFits}
use Rattle.refinement.proofs.node_widths.Tasks.{all_and_one}

-- What is kept of groups.

abbrev Entries : Type 0
Entries = List (List ℕ × Past)

abbrev AllPast : Entries → Type 0
AllPast es = AllByRecursion EntryFits es

put_fits : (es : Entries) (g : List ℕ) (p : Past) → PastFits p.failures p.moved → AllPast es → AllPast (put es g p)
put_fits [] g p f h = (f, tt)
put_fits (e ∷ es) g p f h = if_either AllPast (bytes_eq g e.0) ((e.0, p) ∷ es) (e ∷ put es g p) (f, h.1) (h.0, put_fits es g p f h.1)

named_fits : (es : Entries) (g : List ℕ) → AllPast es → IfSome (named es g) (λ (p : Past). PastFits p.failures p.moved)
named_fits [] g h = tt
named_fits (e ∷ es) g h =
    if_either (λ o. IfSome o (λ (p : Past). PastFits p.failures p.moved)) (bytes_eq g e.0) (Some e.1) (named es g) h.0 (named_fits es g h.1)

unwrapped_fits : (o : Option Past) → IfSome o (λ (p : Past). PastFits p.failures p.moved) → PastFits (unwrap_or o no_past).failures (unwrap_or o no_past).moved
unwrapped_fits None h = (tt, tt)
unwrapped_fits (Some p) h = h

past_fits : (es : Entries) (g : List ℕ) → AllPast es → PastFits (past_of es g).failures (past_of es g).moved
past_fits es g h = unwrapped_fits (named es g) (named_fits es g h)

more_fits : (now : ℕ) (failures : LastFailures) → IsWord now → AllByRecursion IsWord (seconds_of failures) → AllByRecursion IsWord (seconds_of (one_more now failures))
more_fits now Never small h = (small, tt)
more_fits now (Once first) small h = (h.0, (small, tt))
more_fits now (Twice first second) small h = (h.1.0, (small, tt))

failure_fits : (es : Entries) (now : ℕ) (o : Option (List ℕ)) → IsWord now → AllPast es → AllPast (with_failure es now o)
failure_fits es now None small h = h
failure_fits es now (Some g) small h = put_fits es g _ (more_fits now (past_of es g).failures small (past_fits es g h).0, (past_fits es g h).1) h

move_fits : (es : Entries) (now : ℕ) (o : Option (List ℕ)) → IsWord now → AllPast es → AllPast (with_move es now o)
move_fits es now None small h = h
move_fits es now (Some g) small h = put_fits es g _ ((past_fits es g h).0, small) h

-- An order is carried out.

groups_fit : (c : ConfigState) (name : Option (List ℕ)) (method : Method) (outcome : Outcome) (now : ℕ) (es : Entries) → IsWord now → AllPast es
    → AllPast (groups_after c name method outcome now es)
groups_fit c None method outcome now es small h = h
groups_fit c (Some r) method outcome now es small h =
    if_either AllPast (is_start_failure c r method outcome) (with_failure es now (charged c r)) es (failure_fits es now (charged c r) small h) h

done_fits : (w : WorkerState) (c : ConfigState) (name : Option (List ℕ)) (method : Option Method) (outcome : Outcome) (now : ℕ) → IsWord now → WorkerFits w
    → WorkerFits (done w c name method outcome now)
done_fits w c name None outcome now small h = h
done_fits w c name (Some method) outcome now small h = (h.0, h.1, groups_fit c name method outcome now w.groups small h.2, h.3)

numbered_fits : (es : List (ℕ × Outcome)) (number : ℕ) (outcome : Outcome) → IsWord number → AllByRecursion OutcomeFits es → AllByRecursion OutcomeFits (insert_entry nat_eq es number outcome)
numbered_fits [] number outcome small h = (small, tt)
numbered_fits (e ∷ es) number outcome small h =
    if_either (AllByRecursion OutcomeFits) (nat_eq number e.0) ((e.0, outcome) ∷ es) (e ∷ insert_entry nat_eq es number outcome) (h.0, h.1) (h.0, numbered_fits es number outcome small h.1)

outcome_fits : (w : WorkerState) (number : ℕ) (outcome : Outcome) → IsWord number → WorkerFits w → WorkerFits (with_outcome w number outcome)
outcome_fits w number outcome small h = (h.0, numbered_fits w.outcomes number outcome small h.1, h.2, h.3)

pub after_order_fits : (w : WorkerState) (c : ConfigState) (o : Order) (now : ℕ) (k : Carried) → IsWord o.number → IsWord now → WorkerFits w → WorkerFits (after_order w c o now k)
after_order_fits w c o now (Called outcome) number small h =
    outcome_fits (done w c (name_in o.resource) o.method outcome now) o.number outcome number (done_fits w c (name_in o.resource) o.method outcome now small h)
after_order_fits w c o now Cleared number small h =
    outcome_fits (done w c (name_in o.resource) o.method Success now) o.number Success number (done_fits w c (name_in o.resource) o.method Success now small h)
after_order_fits w c o now (Kept outcome) number small h = h
after_order_fits w c o now Old number small h = h

-- A monitor reports.

abbrev AllRestarts : List (List ℕ × List ℕ) → Type 0
AllRestarts es = AllByRecursion RestartsFit es

last_words : (k : ℕ) (xs : List ℕ) → AllByRecursion IsWord xs → AllByRecursion IsWord (drop k xs)
last_words zero xs h = h
last_words (suc k) [] h = tt
last_words (suc k) (x ∷ xs) h = last_words k xs h.1

seconds_fit : (es : List (List ℕ × List ℕ)) (r : List ℕ) → AllRestarts es → IfSome (named es r) (AllByRecursion IsWord)
seconds_fit [] r h = tt
seconds_fit (e ∷ es) r h = if_either (λ o. IfSome o (AllByRecursion IsWord)) (bytes_eq r e.0) (Some e.1) (named es r) h.0 (seconds_fit es r h.1)

unwrapped_words : (o : Option (List ℕ)) → IfSome o (AllByRecursion IsWord) → AllByRecursion IsWord (unwrap_or o [])
unwrapped_words None h = tt
unwrapped_words (Some xs) h = h

one_restart : (xs : List ℕ) (now : ℕ) → IsWord now → AllByRecursion IsWord xs → AllByRecursion IsWord (one_more_restart xs now)
one_restart xs now small h = all_and_one IsWord _ now (last_words (length xs - (most_restarts - 1)) xs h) small

put_restarts : (es : List (List ℕ × List ℕ)) (r xs : List ℕ) → AllByRecursion IsWord xs → AllRestarts es → AllRestarts (put es r xs)
put_restarts [] r xs f h = (f, tt)
put_restarts (e ∷ es) r xs f h = if_either AllRestarts (bytes_eq r e.0) ((e.0, xs) ∷ es) (e ∷ put es r xs) (f, h.1) (h.0, put_restarts es r xs f h.1)

restarts_fit : (es : List (List ℕ × List ℕ)) (r : List ℕ) (now : ℕ) → IsWord now → AllRestarts es → AllRestarts (restarts_with es r now)
restarts_fit es r now small h =
    put_restarts es r (one_more_restart (restarts_of es r) now) (one_restart (restarts_of es r) now small (unwrapped_words (named es r) (seconds_fit es r h))) h

recorded_fits : (w : WorkerState) (c : ConfigState) (r : List ℕ) (now : ℕ) (a : ProbeAction) → IsWord now → WorkerFits w → WorkerFits (recorded w c r now a)
recorded_fits w c r now Restart small h = (h.0, h.1, h.2, restarts_fit w.restarts r now small h.3)
recorded_fits w c r now Move small h = (h.0, h.1, move_fits w.groups now (charged c r) small h.2, h.3)
recorded_fits w c r now Logged small h = h

pub after_probe_fits : (w : WorkerState) (c : ConfigState) (r : List ℕ) (now : ℕ) (p : Probed) → IsWord now → WorkerFits w → WorkerFits (after_probe w c r now p)
after_probe_fits w c r now NoMonitor small h = h
after_probe_fits w c r now Good small h = h
after_probe_fits w c r now (Failed a) small h = recorded_fits w c r now a small h

-- It keeps no more than what the configuration has.

some_fit : {X : Type 0} (P : List ℕ × X → Type 0) (test : List ℕ × X → Bool) (es : List (List ℕ × X)) → AllByRecursion P es → AllByRecursion P (filter test es)
some_fit P test [] h = tt
some_fit P test (e ∷ es) h =
    if_either (AllByRecursion P) (test e) (e ∷ filter test es) (filter test es) (h.0, some_fit P test es h.1) (some_fit P test es h.1)

pub kept_fits : (c : ConfigState) (w : WorkerState) → WorkerFits w → WorkerFits (kept_under c w)
kept_fits c w h = (h.0, h.1, some_fit EntryFits _ w.groups h.2, some_fit RestartsFit _ w.restarts h.3)

-- It reports.

both_reports : (xs ys : List GroupReport) → AllByRecursion GroupFits xs → AllByRecursion GroupFits ys → AllByRecursion GroupFits (xs ++ ys)
both_reports [] ys h k = k
both_reports (x ∷ xs) ys h k = (h.0, both_reports xs ys h.1 k)

one_report : (g : List ℕ) (p : Past) → PastFits p.failures p.moved → AllByRecursion GroupFits (group_report g p)
one_report g p h = if_either (AllByRecursion GroupFits) (has_past p) (record { group = g; failures = p.failures; moved = p.moved } ∷ []) [] (h, tt) tt

reports_fit : (es : Entries) (things : List (List ℕ × Group)) → AllPast es → AllByRecursion GroupFits (group_reports es things)
reports_fit es [] h = tt
reports_fit es (x ∷ things) h = both_reports (group_report x.0 (past_of es x.0)) (group_reports es things) (one_report x.0 (past_of es x.0) (past_fits es x.0 h)) (reports_fit es things h)

pub report_fits : (w : WorkerState) (c : ConfigState) → WorkerFits w → ReportFits (report_of w c)
report_fits w c h = reports_fit w.groups c.groups.groups h.2
