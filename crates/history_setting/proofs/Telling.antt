-- By its canonical words a command is an update, a query or neither; words with an error are no command's; refusals are read.
use Rattle.std.proofs.Common.{◌≡◌, ◌↔◌, ℕ, true, false, List, None, Ok, Err, refl, ap, ◌∙◌}
use Rattle.std.specs.Str.{bytes_eq}
use Rattle.std.proofs.lemmas.Slice.Eq.{bytes_eq-Decides}
use Rattle.cl_base.specs.declared.header.Header.{Header}
use Rattle.ccr_tables.specs.declared.command.AdminCommand.{AdminCommand}
use Rattle.ccr_tables.specs.declared.command.AdminCommand.TheVariants.{Change, Act, Status, Rows}
use Rattle.admin_words.specs.Answers.{Spelled}
use Rattle.admin_words.specs.Commands.{command_of}
use Rattle.admin_words.specs.declared.error.WordError.{WordError}
use Rattle.admin_words.specs.declared.error.WordError.TheVariants as word
use Rattle.answer_words.proofs.Replies.{refusal_read}
use Rattle.history.specs.Commands.{is_word_error}
use Rattle.node_model.specs.Presidents.{word_answer}
use Rattle.update_log.specs.Logs.{is_update, is_update_in}
use Rattle.history_setting.specs.Laws.{IsOfKind, NoUpdateIsAQuery, RefusalsAreRead, SettingReadsWords, WordsHaveErrors, is_change}
use Rattle.history_setting.specs.Settings.{canonical_in, canonical_words, error_in, is_query_in, setting_of}
use Rattle.history_setting.proofs.Canonical.{canonical_words_are_read}

-- ---- kinds

same_bytes : (text : List ℕ) → bytes_eq text text ≡ true
same_bytes text = (bytes_eq-Decides text text).1 refl

update_in : (command : AdminCommand) → is_update_in (canonical_words command) (Ok command) ≡ is_change command
update_in (Change u) = same_bytes (canonical_words (Change u))
update_in (Act a) = refl
update_in (Status q) = refl
update_in (Rows name) = refl

of_kind : (h : Header) (words : List ℕ) (command : AdminCommand) → command_of h.version words ≡ Ok command → IsOfKind (setting_of h) (canonical_words command) command
unfolding is_update
of_kind h words command e =
    let read : command_of h.version (canonical_words command) ≡ Ok command = canonical_words_are_read h.version words command e in
    record {
      update = ap (λ (found : Spelled). is_update_in (canonical_words command) found) read ∙ update_in command;
      query = ap is_query_in read;
    }

pub setting_reads_words : SettingReadsWords
setting_reads_words h = record {
  canonical = λ words command e. ap canonical_in e;
  none = λ words error e. ap canonical_in e;
  kind = of_kind h;
  refusal = λ refusal. refl;
}

not_both : (words : List ℕ) (found : Spelled) → is_update_in words found ≡ true → is_query_in found ≡ false
not_both words (Ok (Change u)) is = refl
not_both words (Ok (Act a)) is = refl
not_both words (Ok (Status q)) is = absurd (cc)
not_both words (Ok (Rows name)) is = absurd (cc)
not_both words (Err e) is = refl

pub no_update_is_a_query : NoUpdateIsAQuery
unfolding is_update
no_update_is_a_query h words is = not_both words (command_of h.version words) is

-- ---- errors

is_error : (e : WordError) → is_word_error (word_answer e) ≡ true
is_error word.UnknownCommand = refl
is_error word.MissingOperand = refl
is_error word.BadValue = refl
is_error word.NoMemory = refl

have_errors : (found : Spelled) → (canonical_in found ≡ None) ↔ (is_word_error (error_in found) ≡ true)
have_errors (Ok command) = (λ is. absurd (cc), λ is. absurd (cc))
have_errors (Err e) = (λ is. is_error e, λ is. refl)

pub words_have_errors : WordsHaveErrors
words_have_errors h words = have_errors (command_of h.version words)

-- ---- refusals

pub refusals_are_read : RefusalsAreRead
refusals_are_read h refusal is = refusal_read refusal is
