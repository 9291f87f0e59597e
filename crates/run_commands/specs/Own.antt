-- What a node answers by itself fits its command, as it was when the command was asked.
use Rattle.std.specs.Prelude.{◌≡◌, ℕ, Bool, true, false, List, MatchOption}
use Rattle.status_report.specs.declared.command_entry.Answer.{Answer}
use Rattle.status_report.specs.declared.command_entry.Answer.TheVariants as answer
use Rattle.history.specs.Commands.{Own, is_own_answer, own_case}
use Rattle.history.specs.Commands.Own.{BadWords, Elsewhere, Full, MayBeFull, Stranger, Taken}
use Rattle.history.specs.Member.{member_of}
use Rattle.history.specs.Moment.{Moment}
use Rattle.history.specs.Order.{Always}
use Rattle.history.specs.Requests.{before_asking, words_before}
use Rattle.history.specs.Setting.{Setting}
use Rattle.history.specs.Trace.{answered}

-- the answer of each case
abbrev pub FitsCase : Setting → List ℕ → Own → Answer → Type 0
FitsCase S words BadWords reply = reply ≡ S.word_error words
FitsCase S words Stranger reply = reply ≡ answer.NotMember
FitsCase S words (Elsewhere c) reply = reply ≡ answer.Ask c
FitsCase S words Full reply = reply ≡ answer.QueueFull
FitsCase S words MayBeFull reply = reply ≡ answer.QueueFull
FitsCase S words Taken reply = ⊥

-- the case of the command that n asks behind these moments: the first that fits (`own_case` of `history`)
abbrev pub case_of : Setting → List Moment → ℕ → List ℕ → Own
case_of S moments n words = own_case S moments n (S.canonical words) (member_of n moments)

-- an answer of the node itself fits the command that it asked behind these moments
abbrev pub FitsOwnAnswer : Setting → List Moment → ℕ → Answer → Bool → Type 0
FitsOwnAnswer S moments n reply false = Unit {0}
FitsOwnAnswer S moments n reply true = MatchOption (words_before moments) ⊥ (λ words. FitsCase S words (case_of S moments n words) reply)

abbrev pub IsOwnAnswer : Setting → List Moment → Moment → Type 0
IsOwnAnswer S before (answered n q reply) = FitsOwnAnswer S (before_asking n q before) n reply (is_own_answer reply)
IsOwnAnswer S before _ = Unit {0}

abbrev pub OwnAnswersFit : Setting → List Moment → Type 0
OwnAnswersFit S moments = Always (IsOwnAnswer S) moments
