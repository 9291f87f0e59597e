-- The forms of what is read as a command and is no update: its operands are names and nodes.
use Rattle.std.specs.Prelude.{Ok, Err}
use Rattle.cl_base.specs.Names.{IsName}
use Rattle.cl_base.specs.declared.command.Ask.{Ask}
use Rattle.cl_base.specs.declared.command.Ask.TheVariants.{Restart, Move, Remaster, Evacuate, Clear}
use Rattle.cl_base.specs.declared.command.Query.{Query}
use Rattle.cl_base.specs.declared.command.Query.TheVariants as query
use Rattle.cl_base.specs.declared.header.Version.{Version}
use Rattle.ccr_tables.specs.declared.command.AdminCommand.{AdminCommand}
use Rattle.ccr_tables.specs.declared.command.AdminCommand.TheVariants.{Change, Act, Status, Rows}
use Rattle.admin_words.specs.Answers.{Spelled}
use Rattle.word_laws.specs.Spelled.{IsNodeOf}

-- a node alone asks for a restart and for a move
abbrev pub AskForm : Version → Ask → Type 0
AskForm v (Restart r) = ⊥
AskForm v (Move r) = ⊥
AskForm v (Remaster g) = IsName g
AskForm v (Evacuate n) = IsNodeOf v n
AskForm v (Clear r n) = IsName r × IsNodeOf v n

-- a table is asked for by its name
abbrev pub QueryForm : Query → Type 0
QueryForm query.GroupStatus = Unit {0}
QueryForm query.ResourceStatus = Unit {0}
QueryForm query.QuorumStatus = Unit {0}
QueryForm (query.Rows t) = ⊥

abbrev pub CommandForm : Version → AdminCommand → Type 0
CommandForm v (Change u) = Unit {0}
CommandForm v (Act a) = AskForm v a
CommandForm v (Status q) = QueryForm q
CommandForm v (Rows name) = IsName name

abbrev pub AnswerForm : Version → Spelled → Type 0
AnswerForm v (Ok command) = CommandForm v command
AnswerForm v (Err e) = Unit {0}
