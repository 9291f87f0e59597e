-- The configuration that a list of updates makes of the header's, and the votes under it.
use Rattle.std.specs.Prelude.{ℕ, ◌&&◌, not, Bool, false, List, [], ◌∷◌, Option, Some, None, Result, Ok, Err, if◌then◌else◌}
use Rattle.std.specs.Option.{is_some, option_and_then, option_map}
use Rattle.std.specs.Str.{bytes_eq}
use Rattle.cl_base.specs.declared.header.Header.{Header}
use Rattle.cl_base.specs.declared.header.Version.{Version}
use Rattle.ccr_tables.specs.declared.command.AdminCommand.{AdminCommand}
use Rattle.ccr_tables.specs.declared.command.AdminCommand.TheVariants.{Change, Act, Status, Rows}
use Rattle.ccr_tables.specs.declared.update.Update.{Update}
use Rattle.ccr_tables.specs.Changes.{applied}
use Rattle.ccr_tables.specs.Refusals.{refusal_of}
use Rattle.ccr_tables.specs.State.{ConfigState, first_config}
use Rattle.update_words.specs.Words.{words_of}
use Rattle.admin_words.specs.declared.error.WordError.{WordError}
use Rattle.admin_words.specs.Commands.{command_of}
use Rattle.admin_commands.specs.Orders.{cycle}
use Rattle.update_log.specs.declared.votes.LogVotes.{LogVotes}

-- whether the update may come, and in these words: they are its canonical ones, it is not refused, and it makes no cycle
abbrev pub may_come : ConfigState → List ℕ → Update → Bool
may_come s text u = bytes_eq (words_of u) text && not (is_some (cycle s u)) && not (is_some (refusal_of s u))

-- the configuration after one more update, if it may come
abbrev pub with_update : ConfigState → List ℕ → Update → Option ConfigState
with_update s text u = if may_come s text u then Some (applied s u) else None

-- a command that is no update changes no configuration
abbrev pub with_command : ConfigState → List ℕ → Result AdminCommand WordError → Option ConfigState
with_command s text (Ok (Change u)) = with_update s text u
with_command s text (Ok (Act a)) = None
with_command s text (Ok (Status q)) = None
with_command s text (Ok (Rows name)) = None
with_command s text (Err e) = None

-- whether the text is the canonical words of an update
abbrev pub is_update_in : List ℕ → Result AdminCommand WordError → Bool
is_update_in text (Ok (Change u)) = bytes_eq (words_of u) text
is_update_in text (Ok (Act a)) = false
is_update_in text (Ok (Status q)) = false
is_update_in text (Ok (Rows name)) = false
is_update_in text (Err e) = false

unfoldable pub is_update : Version → List ℕ → Bool
is_update version text = is_update_in text (command_of version text)

-- the configuration after one more text, if it is an update that may come
abbrev pub with_text : ConfigState → List ℕ → Option ConfigState
with_text s text = with_command s text (command_of s.groups.version text)

-- the configuration after these texts, each of which is an update that may come after those before it
abbrev pub with_texts : ConfigState → List (List ℕ) → Option ConfigState
with_texts s [] = Some s
with_texts s (text ∷ texts) = option_and_then (λ next. with_texts next texts) (with_text s text)

-- the configuration that a list of updates makes of the header's; none where the list is bad
unfoldable pub config_after : Header → List (List ℕ) → Option ConfigState
config_after h texts = with_texts (first_config h) texts

-- the votes of a configuration, and those with the pending update, if there is one
abbrev pub votes_beside : ConfigState → Option (List ℕ) → Option LogVotes
votes_beside s None = Some (record { committed = s.votes; pending = None })
votes_beside s (Some text) = option_map (λ next. record { committed = s.votes; pending = Some next.votes }) (with_text s text)

-- the votes under the committed updates, and under these with the pending one; none where a list is bad
unfoldable pub votes_after : Header → List (List ℕ) → Option (List ℕ) → Option LogVotes
votes_after h committed pending = option_and_then (λ s. votes_beside s pending) (config_after h committed)

-- a list of committed updates, and the pending one behind them, that is not bad
abbrev pub is_log : Header → List (List ℕ) → Option (List ℕ) → Bool
is_log h committed pending = is_some (votes_after h committed pending)
