-- The call that an order asks for.
use Rattle.std.specs.Prelude.{ℕ, ◌==◌, List, Option, None, Some, if◌then◌else◌}
use Rattle.cl_base.specs.declared.method.Method.{Method}
use Rattle.cl_base.specs.declared.method.Outcome.{Outcome}
use Rattle.wire.specs.declared.message.Order.{Order}
use Rattle.rg_props.specs.Words.{name_in}
use Rattle.ccr_tables.specs.State.{ConfigState}
use Rattle.rgm_member.specs.declared.due.Due.{Due}
use Rattle.rgm_member.specs.Orders.{kept_outcome}
use Rattle.rgm_member.specs.Settings.{agent_of}
use Rattle.rgm_member.specs.State.{WorkerState}

-- A method of the resource of this name is called now, of the agent that the type of the resource names.
abbrev pub due_call : ℕ → ConfigState → Option Method → Option (List ℕ) → ℕ → Option Due
due_call me c None name now = None
due_call me c (Some method) None now = None
due_call me c (Some method) (Some r) now = Some (record { agent = agent_of c r; call = record { node = me; resource = r; method = method; second = now } })

abbrev pub due_by_kept : Option Outcome → Option Due → Option Due
due_by_kept (Some kept) due = None
due_by_kept None due = due

-- An order of this membership that was not carried out before asks for a call of its method, where it has one and its text is a name.
abbrev pub due_of : WorkerState → ConfigState → Order → ℕ → Option Due
due_of w c o now = if o.epoch == w.epoch then due_by_kept (kept_outcome w o.number) (due_call w.me c o.method (name_in o.resource) now) else None
