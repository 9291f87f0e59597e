-- What becomes of an order.
use Rattle.std.specs.Prelude.{◌≡◌, ℕ, ◌==◌, List, Option, None, Some, if◌then◌else◌, nat_eq}
use Rattle.std.specs.Map.{lookup}
use Rattle.indexmap.specs.IndexMap.{insert_entry}
use Rattle.cl_base.specs.declared.method.Method.{Method}
use Rattle.cl_base.specs.declared.method.Outcome.{Outcome}
use Rattle.cl_base.specs.declared.method.Outcome.TheVariants.{Success, Failure}
use Rattle.wire.specs.declared.message.Order.{Order}
use Rattle.rg_props.specs.Words.{name_in}
use Rattle.ccr_tables.specs.State.{ConfigState}
use Rattle.rgm_member.specs.declared.carried.Carried.{Carried}
use Rattle.rgm_member.specs.declared.carried.Carried.TheVariants.{Called, Cleared, Kept, Old}
use Rattle.rgm_member.specs.Outcomes.{after_outcome, resources_cleared}
use Rattle.rgm_member.specs.State.{WorkerState}

-- the outcome that is kept of the order of this number, if it was carried out in the membership
abbrev pub kept_outcome : WorkerState → ℕ → Option Outcome
kept_outcome w number = lookup (nat_eq number) w.outcomes

-- of this membership, and not carried out so far
pub record IsNew (w : WorkerState) (o : Order) : Type 0 where
  pub member : o.epoch ≡ w.epoch
  pub first : kept_outcome w o.number ≡ None

-- the outcome that an answer tells
abbrev pub outcome_in : Carried → Outcome
outcome_in (Called outcome) = outcome
outcome_in Cleared = Success
outcome_in (Kept outcome) = outcome
outcome_in Old = Failure

abbrev pub answer_by_method : Option Method → Outcome → Carried
answer_by_method None outcome = Cleared
answer_by_method (Some method) outcome = Called outcome

abbrev pub answer_by_kept : Option Outcome → Option Method → Outcome → Carried
answer_by_kept (Some kept) method outcome = Kept kept
answer_by_kept None method outcome = answer_by_method method outcome

-- Of another membership: old. Carried out before: the kept outcome. Without a method: cleared. Else it is called, and ends so.
abbrev pub answer_to : WorkerState → Order → Outcome → Carried
answer_to w o outcome = if o.epoch == w.epoch then answer_by_kept (kept_outcome w o.number) o.method outcome else Old

-- what an order does that is carried out now
abbrev pub done : WorkerState → ConfigState → Option (List ℕ) → Option Method → Outcome → ℕ → WorkerState
done w c name None outcome now = record w { resources = resources_cleared name w.resources }
done w c name (Some method) outcome now = after_outcome w c name method outcome now

-- the order of this number ended so
abbrev pub with_outcome : WorkerState → ℕ → Outcome → WorkerState
with_outcome w number outcome = record w { outcomes = insert_entry nat_eq w.outcomes number outcome }

-- An order that is called or cleared is done and its outcome kept; otherwise nothing changes.
abbrev pub after_order : WorkerState → ConfigState → Order → ℕ → Carried → WorkerState
after_order w c o now (Called outcome) = with_outcome (done w c (name_in o.resource) o.method outcome now) o.number outcome
after_order w c o now Cleared = with_outcome (done w c (name_in o.resource) o.method Success now) o.number Success
after_order w c o now (Kept outcome) = w
after_order w c o now Old = w
