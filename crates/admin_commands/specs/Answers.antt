-- What a command is answered: the first refusal in the order of their numbers, or acceptance.
use Rattle.std.specs.Prelude.{ℕ, List, Option, Some, None, Result, Ok, Err}
use Rattle.cl_base.specs.declared.command.Query.TheVariants as question
use Rattle.cl_base.specs.declared.command.Table.{Table}
use Rattle.cl_base.specs.declared.refusal.Refusal.{Refusal}
use Rattle.cl_base.specs.declared.refusal.Refusal.TheVariants.{Unknown}
use Rattle.cl_base.specs.declared.refusal.Thing.TheVariants.{Named}
use Rattle.rg_props.specs.Values.{or_else}
use Rattle.rg_view.specs.declared.view.GroupView.{GroupView}
use Rattle.ccr_tables.specs.declared.command.AdminCommand.{AdminCommand}
use Rattle.ccr_tables.specs.declared.command.AdminCommand.TheVariants.{Change, Act, Status, Rows}
use Rattle.ccr_tables.specs.declared.update.Update.{Update}
use Rattle.ccr_tables.specs.Refusals.{refusal_of}
use Rattle.ccr_tables.specs.State.{ConfigState}
use Rattle.ccr_tables.specs.Updates.{table_named}
use Rattle.admin_commands.specs.declared.accepted.Accepted.{Accepted}
use Rattle.admin_commands.specs.declared.accepted.Accepted.TheVariants as accepted
use Rattle.admin_commands.specs.declared.error.CheckError.{CheckError}
use Rattle.admin_commands.specs.declared.error.CheckError.TheVariants.{Refused}
use Rattle.admin_commands.specs.Asks.{refusal_of_ask}
use Rattle.admin_commands.specs.Cases.{before}
use Rattle.admin_commands.specs.Managing.{managed, unmanaged, not_listed, too_many}
use Rattle.admin_commands.specs.Orders.{cycle, single}
use Rattle.admin_commands.specs.Records.{record_full}
use Rattle.admin_commands.specs.Standing.{still_up}
use Rattle.admin_commands.specs.Votes.{node_is_member, device_not_held, lose_quorum, node_has_vote}

-- the numbers 17 to 25
abbrev pub late_refusal : ConfigState → GroupView → ℕ → ℕ → ℕ → Update → Option Refusal
late_refusal s v members held length u =
    or_else (still_up s v members u)
    (or_else (cycle s u)
    (or_else (single s u)
    (or_else (node_is_member members u)
    (or_else (device_not_held held u)
    (or_else (lose_quorum s members held u)
    (or_else (record_full s length u)
    (node_has_vote s u)))))))

-- The first of the numbers 7 to 25. Of these `told` is what the configuration alone tells: one of
-- 7, 8, 9, 12, 15 and 16.
abbrev pub first_refusal : Option Refusal → ConfigState → GroupView → ℕ → ℕ → ℕ → Update → Option Refusal
first_refusal told s v members held length u =
    before 10 told
    (or_else (managed s u)
    (or_else (unmanaged s u)
    (before 13 told
    (or_else (not_listed s u)
    (or_else (too_many s u)
    (before 17 told
    (late_refusal s v members held length u)))))))

abbrev pub refusal_in : ConfigState → GroupView → ℕ → ℕ → ℕ → Update → Option Refusal
refusal_in s v members held length u = first_refusal (refusal_of s u) s v members held length u

abbrev pub unless_refused : Option Refusal → Accepted → Result Accepted CheckError
unless_refused None accepted = Ok accepted
unless_refused (Some refusal) accepted = Err (Refused refusal)

-- a table that is there, or that it is not
abbrev pub rows_of : Option Table → List ℕ → Result Accepted CheckError
rows_of None name = Err (Refused (Unknown (Named name)))
rows_of (Some table) name = Ok (accepted.Query (question.Rows table))

-- What a command is answered over a configuration, with what is known of groups, in a membership
-- of these nodes that holds these devices, where the record has this length without the command.
abbrev pub answer_to : ConfigState → GroupView → ℕ → ℕ → ℕ → AdminCommand → Result Accepted CheckError
answer_to s v members held length (Change u) =
    unless_refused (refusal_in s v members held length u) (accepted.Change u)
answer_to s v members held length (Act ask) =
    unless_refused (refusal_of_ask s v ask) (accepted.Act ask)
answer_to s v members held length (Status query) = Ok (accepted.Query query)
answer_to s v members held length (Rows name) = rows_of (table_named s.groups.version name) name
