-- What holds of all orders and outcomes.
use Rattle.std.specs.Prelude.{◌≡◌, ℕ, ◌≤◌, false, List, None, Some, length, if◌then◌else◌}
use Rattle.std.specs.Str.{bytes_eq}
use Rattle.cl_base.specs.declared.method.Method.{Method}
use Rattle.cl_base.specs.declared.method.Outcome.{Outcome}
use Rattle.wire.specs.declared.message.Order.{Order}
use Rattle.wire.specs.declared.report.Marks.{Marks}
use Rattle.ccr_tables.specs.State.{ConfigState}
use Rattle.rgm_member.specs.declared.carried.Carried.TheVariants.{Called, Kept}
use Rattle.rgm_member.specs.declared.due.Due.{Due}
use Rattle.rgm_member.specs.Dues.{due_of}
use Rattle.rgm_member.specs.Orders.{after_order, answer_to, kept_outcome, outcome_in}
use Rattle.rgm_member.specs.Outcomes.{is_success, marks_after, resources_after}
use Rattle.rgm_member.specs.Probes.{one_more_restart, most_restarts}
use Rattle.rgm_member.specs.State.{WorkerState, marks_of}

-- An order number of a membership calls once: an order of the same number that comes after it gets the outcome of the first.
abbrev pub CallOnce : Type 0
CallOnce = (w : WorkerState) (c : ConfigState) (o again : Order) (now : ℕ) (x y : Outcome) → o.epoch ≡ w.epoch
    → again.epoch ≡ o.epoch → again.number ≡ o.number
    → answer_to (after_order w c o now (answer_to w o x)) again y ≡ Kept (outcome_in (answer_to w o x))

-- What is kept of an order stays, whichever order comes after it.
abbrev pub OutcomesStay : Type 0
OutcomesStay = (w : WorkerState) (c : ConfigState) (o : Order) (now number : ℕ) (x kept : Outcome) → kept_outcome w number ≡ Some kept
    → kept_outcome (after_order w c o now (answer_to w o x)) number ≡ Some kept

-- What is due of an order is called where the order is carried out.
abbrev pub DueIsCalled : Type 0
DueIsCalled = (w : WorkerState) (c : ConfigState) (o : Order) (now : ℕ) (outcome : Outcome) (due : Due) → due_of w c o now ≡ Some due
    → answer_to w o outcome ≡ Called outcome

-- Of an order number that was carried out nothing is due any more, whatever the configuration is then.
abbrev pub DueOnce : Type 0
DueOnce = (w : WorkerState) (c later : ConfigState) (o again : Order) (now second : ℕ) (x : Outcome) → o.epoch ≡ w.epoch
    → again.epoch ≡ o.epoch → again.number ≡ o.number
    → due_of (after_order w c o now (answer_to w o x)) later again second ≡ None

-- Flags change by success alone.
abbrev pub SuccessAlone : Type 0
SuccessAlone = (c : ConfigState) (r : List ℕ) (method : Method) (outcome : Outcome) (m : Marks) → is_success outcome ≡ false
    → ((marks_after c r method outcome m).pre ≡ m.pre) × ((marks_after c r method outcome m).run ≡ m.run) × ((marks_after c r method outcome m).mon ≡ m.mon)

-- A call changes the flags and marks of its resource alone.
abbrev pub OthersStay : Type 0
OthersStay = (c : ConfigState) (r other : List ℕ) (method : Method) (outcome : Outcome) (resources : List (List ℕ × Marks))
    → marks_of (resources_after c (Some r) method outcome resources) other
    ≡ (if bytes_eq r other then marks_after c r method outcome (marks_of resources r) else marks_of resources other)

-- Few restarts are kept, however many there were.
abbrev pub RestartsAreFew : Type 0
RestartsAreFew = (restarts : List ℕ) (now : ℕ) → length (one_more_restart restarts now) ≤ most_restarts
