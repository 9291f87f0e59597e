-- What the words of an update are read as.
use Rattle.std.specs.Prelude.{ℕ, ◌≡◌, List, Ok}
use Rattle.cl_base.specs.declared.header.Version.{Version}
use Rattle.ccr_tables.specs.declared.command.AdminCommand.TheVariants.{Change}
use Rattle.ccr_tables.specs.declared.update.Update.{Update}
use Rattle.update_words.specs.Words.{words_of}
use Rattle.admin_words.specs.Commands.{command_of}
use Rattle.word_laws.specs.Spelled.{IsSpelled}

-- the canonical words of an update are read as this update
abbrev pub WordsAreRead : Type 0
WordsAreRead = (version : Version) (u : Update) → IsSpelled version u → command_of version (words_of u) ≡ Ok (Change u)

-- and no two updates have the same words
abbrev pub SameWordsSameUpdate : Type 0
SameWordsSameUpdate = (version : Version) (u w : Update) → IsSpelled version u → IsSpelled version w → words_of u ≡ words_of w → u ≡ w

-- what is read as an update has such operands
abbrev pub UpdatesAreSpelled : Type 0
UpdatesAreSpelled = (version : Version) (text : List ℕ) (u : Update) → command_of version text ≡ Ok (Change u) → IsSpelled version u
