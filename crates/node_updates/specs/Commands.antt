-- What an administrator's words come to, and the text of the request that a command makes.
use Rattle.std.specs.Prelude.{ℕ, Bool, true, false, List, [], ◌∷◌, Option, None, Some, Result, Ok, Err}
use Rattle.admin_words.specs.declared.error.WordError.{WordError}
use Rattle.ccr_tables.specs.declared.command.AdminCommand.{AdminCommand}
use Rattle.ccr_tables.specs.declared.command.AdminCommand.TheVariants.{Change, Act, Status, Rows}
use Rattle.status_report.specs.declared.command_entry.Answer.{Answer}
use Rattle.status_report.specs.declared.command_entry.Answer.TheVariants.{NotMember}
use Rattle.status_report.specs.declared.command_entry.CommandEntry.TheVariants.{Asked}
use Rattle.status_report.specs.declared.entry.Entry.TheVariants as entry
use Rattle.update_words.specs.Words.{ask_words_of, words_of}
use Rattle.node_model.specs.declared.cluster.Cluster.{Cluster}
use Rattle.node_model.specs.declared.node.UpNode.{UpNode}
use Rattle.node_model.specs.declared.output.Output.{Output}
use Rattle.node_model.specs.declared.output.Output.TheVariants.{Tells}
use Rattle.node_model.specs.Entries.{replying}
use Rattle.node_model.specs.Plans.{Plan}
use Rattle.node_model.specs.Presidents.{word_answer}
use Rattle.node_model.specs.Requests.{commanded}

-- a query makes none
abbrev pub request_text : AdminCommand → Option (List ℕ)
request_text (Change u) = Some (words_of u)
request_text (Act a) = Some (ask_words_of a)
request_text (Status q) = None
request_text (Rows table) = None

-- a command is told to be asked
abbrev pub asked_line : ℕ → ℕ → List Output
asked_line me number = Tells (entry.Command (Asked me number)) ∷ []

-- the command of words that were read, which a member carries out, or what they are answered
unfoldable pub read_as : Bool → Result AdminCommand WordError → Result AdminCommand Answer
read_as member (Err e) = Err (word_answer e)
read_as true (Ok command) = Ok command
read_as false (Ok command) = Err NotMember

-- what comes of that
abbrev pub obeyed : Cluster → ℕ → UpNode → ℕ → Result AdminCommand Answer → Plan
obeyed c me x number (Ok command) = commanded c me x number command
obeyed c me x number (Err told) = replying me number told x
