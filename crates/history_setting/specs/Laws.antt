-- What is proved of the setting of a header.
use Rattle.std.specs.Prelude.{ℕ, ◌≡◌, ◌≤◌, ◌<◌, ◌^◌, ◌↔◌, ◌++◌, Bool, true, false, List, length, Some, None, Ok, Err, codes}
use Rattle.cl_base.specs.Limits.{most_devices}
use Rattle.cl_base.specs.declared.header.Header.{Header}
use Rattle.cl_base.specs.declared.header.Version.{Version}
use Rattle.cl_base.specs.declared.refusal.Refusal.{Refusal}
use Rattle.ccr_tables.specs.declared.command.AdminCommand.{AdminCommand}
use Rattle.ccr_tables.specs.declared.command.AdminCommand.TheVariants.{Change, Act, Status, Rows}
use Rattle.admin_words.specs.Commands.{command_of}
use Rattle.admin_words.specs.declared.error.WordError.{WordError}
use Rattle.answer_words.specs.Answers.{answer_in}
use Rattle.answer_words.specs.Laws.{IsRefusal}
use Rattle.status_report.specs.CommandLines.{refusal_text}
use Rattle.status_report.specs.declared.command_entry.Answer.TheVariants.{Refused}
use Rattle.history.specs.Commands.{is_word_error}
use Rattle.history.specs.Contact.{HasVotes}
use Rattle.history.specs.Moment.{Moment}
use Rattle.history.specs.Setting.{Setting}
use Rattle.world_model.specs.First.{first_cluster}
use Rattle.run_history.specs.Happenings.{Happening, MayAllHappen, all_happened}
use Rattle.run_history.specs.Scenes.{first_scene}
use Rattle.run_history.specs.VoteRuns.{CountsVotes}
use Rattle.history_setting.specs.Settings.{canonical_words, is_asked, setting_of}

-- the votes are those that the nodes count
abbrev pub SettingCountsVotes : Type 0
SettingCountsVotes = (h : Header) → CountsVotes h (setting_of h)

-- P holds of the setting of a header and of what was said and told in each run from its first scene on
abbrev pub OfEachRunIn : (Setting → List Moment → Type 0) → Type 0
OfEachRunIn P = (h : Header) (cells : ℕ) (hs : List Happening) → length h.devices ≤ most_devices → h.cluster < 2 ^ 32
    → MayAllHappen (first_cluster h) (first_scene h cells) hs
    → P (setting_of h) (all_happened (first_cluster h) (first_scene h cells) hs).moments

-- the members of a start and the devices that it holds have a majority
abbrev pub SettingVotesOfEachRun : Type 0
SettingVotesOfEachRun = OfEachRunIn HasVotes

-- canonical words are read as the command whose they are
abbrev pub CanonicalWordsAreRead : Type 0
CanonicalWordsAreRead = (version : Version) (words : List ℕ) (command : AdminCommand) → command_of version words ≡ Ok command
    → command_of version (canonical_words command) ≡ Ok command

-- so they have themselves as canonical words
abbrev pub CanonicalWordsStay : Type 0
CanonicalWordsStay = (h : Header) (words canonical : List ℕ) → (setting_of h).canonical words ≡ Some canonical
    → (setting_of h).canonical canonical ≡ Some canonical

abbrev pub is_change : AdminCommand → Bool
is_change (Change u) = true
is_change (Act a) = false
is_change (Status q) = false
is_change (Rows name) = false

-- whether a command is an update, and whether it is a query, is told by its canonical words
pub record IsOfKind (S : Setting) (canonical : List ℕ) (command : AdminCommand) : Type 0 where
  pub update : S.is_update canonical ≡ is_change command
  pub query : S.is_query canonical ≡ is_asked command

-- Words are read as the nodes read them: what is a command has its canonical words, which tell its kind, and nothing else has any. Refusals
-- are printed as the nodes print them.
pub record ReadsWords (h : Header) (S : Setting) : Type 0 where
  pub canonical : (words : List ℕ) (command : AdminCommand) → command_of h.version words ≡ Ok command → S.canonical words ≡ Some (canonical_words command)
  pub none : (words : List ℕ) (e : WordError) → command_of h.version words ≡ Err e → S.canonical words ≡ None
  pub kind : (words : List ℕ) (command : AdminCommand) → command_of h.version words ≡ Ok command → IsOfKind S (canonical_words command) command
  pub refusal : (refusal : Refusal) → S.refusal_text refusal ≡ refusal_text refusal

abbrev pub SettingReadsWords : Type 0
SettingReadsWords = (h : Header) → ReadsWords h (setting_of h)

-- no words are both
abbrev pub NoUpdateIsAQuery : Type 0
NoUpdateIsAQuery = (h : Header) (words : List ℕ) → (setting_of h).is_update words ≡ true → (setting_of h).is_query words ≡ false

-- words have an error exactly where they are no command's
abbrev pub WordsHaveErrors : Type 0
WordsHaveErrors = (h : Header) (words : List ℕ) → (setting_of h).canonical words ≡ None ↔ is_word_error ((setting_of h).word_error words) ≡ true

-- the text of a refusal is read as this refusal
abbrev pub RefusalsAreRead : Type 0
RefusalsAreRead = (h : Header) (refusal : Refusal) → IsRefusal refusal
    → answer_in (codes "refused " ++ (setting_of h).refusal_text refusal) ≡ Some (Refused refusal)
