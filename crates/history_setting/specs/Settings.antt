-- The setting of a header: what the layers say of votes, of the words of commands, and of refusals.
use Rattle.std.specs.Prelude.{ℕ, Bool, true, false, List, [], ◌∷◌, Option, Some, None, Ok, Err, codes}
use Rattle.cl_base.specs.declared.command.Query.{Query}
use Rattle.cl_base.specs.declared.command.Query.TheVariants as query
use Rattle.cl_base.specs.declared.command.Table.{Table}
use Rattle.cl_base.specs.declared.command.Table.TheVariants as table
use Rattle.cl_base.specs.declared.header.Header.{Header}
use Rattle.ccr_tables.specs.declared.command.AdminCommand.{AdminCommand}
use Rattle.ccr_tables.specs.declared.command.AdminCommand.TheVariants.{Change, Act, Status, Rows}
use Rattle.update_words.specs.Joined.{spaced}
use Rattle.update_words.specs.Words.{ask_words_of, words_of}
use Rattle.admin_words.specs.Answers.{Spelled}
use Rattle.admin_words.specs.Commands.{command_of}
use Rattle.update_log.specs.Logs.{is_update}
use Rattle.config_cache.specs.InForce.{config_under}
use Rattle.status_report.specs.declared.command_entry.Answer.{Answer}
use Rattle.status_report.specs.declared.command_entry.Answer.TheVariants as answer
use Rattle.status_report.specs.CommandLines.{refusal_text}
use Rattle.node_model.specs.Presidents.{word_answer}
use Rattle.history.specs.Setting.{Setting}

-- ---- the canonical words of a command: those of an update, those of what else is asked for, and those of a query

abbrev pub table_word : Table → List ℕ
table_word table.Infrastructure = codes "infrastructure"
table_word table.Types = codes "types"
table_word table.Groups = codes "groups"
table_word table.Resources = codes "resources"
table_word table.Addresses = codes "addresses"

abbrev pub rows_words : List ℕ → List (List ℕ)
rows_words name = codes "ccr" ∷ name ∷ []

abbrev pub query_words : Query → List (List ℕ)
query_words query.GroupStatus = codes "clrg" ∷ codes "status" ∷ []
query_words query.ResourceStatus = codes "clrs" ∷ codes "status" ∷ []
query_words query.QuorumStatus = codes "clq" ∷ codes "status" ∷ []
query_words (query.Rows t) = rows_words (table_word t)

abbrev pub canonical_words : AdminCommand → List ℕ
canonical_words (Change u) = words_of u
canonical_words (Act a) = ask_words_of a
canonical_words (Status q) = spaced (query_words q)
canonical_words (Rows name) = spaced (rows_words name)

-- ---- what words are read as

-- where they are a command's, its canonical words
abbrev pub canonical_in : Spelled → Option (List ℕ)
canonical_in (Ok command) = Some (canonical_words command)
canonical_in (Err e) = None

-- what a node answers to words that are no command's; to a command's it has no such answer
abbrev pub error_in : Spelled → Answer
error_in (Ok command) = answer.Ok
error_in (Err e) = word_answer e

abbrev pub is_asked : AdminCommand → Bool
is_asked (Change u) = false
is_asked (Act a) = false
is_asked (Status q) = true
is_asked (Rows name) = true

abbrev pub is_query_in : Spelled → Bool
is_query_in (Ok command) = is_asked command
is_query_in (Err e) = false

-- ---- The setting: votes are those of the configuration that the updates make of the header's, words are read under its version, and a
-- refusal has the text that its line shows.

abbrev pub setting_of : Header → Setting
setting_of h = record {
  header = h;
  cells = 65536;
  votes = λ updates. (config_under h updates).votes;
  canonical = λ words. canonical_in (command_of h.version words);
  word_error = λ words. error_in (command_of h.version words);
  is_update = is_update h.version;
  is_query = λ words. is_query_in (command_of h.version words);
  refusal_text = refusal_text;
}
