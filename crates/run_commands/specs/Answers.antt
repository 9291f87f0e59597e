-- What is so at each answer: the command waits; and it is answered so for a reason.
use Rattle.std.specs.Prelude.{◌≡◌, ◌⊎◌, List, true, false}
use Rattle.std.specs.List.{list_any}
use Rattle.status_report.specs.declared.command_entry.Answer.TheVariants as answer
use Rattle.history.specs.Commands.{IsNumbered, differs, is_own_answer, waits}
use Rattle.history.specs.Member.{member_of}
use Rattle.history.specs.Moment.{Moment}
use Rattle.history.specs.Order.{Always, so_far}
use Rattle.history.specs.Requests.{before_asking, is_asking}
use Rattle.history.specs.Setting.{Setting}
use Rattle.history.specs.Trace.{answered, asked}
use Rattle.run_commands.specs.Own.{IsOwnAnswer}

-- the command that is answered waits, and one that is asked is numbered
abbrev pub AnswerWaits : List Moment → Moment → Type 0
AnswerWaits before (answered n q reply) = waits n q before ≡ true
AnswerWaits before (asked n q) = IsNumbered n q before
AnswerWaits before _ = Unit {0}

abbrev pub AnswersWait : List Moment → Type 0
AnswersWait moments = Always AnswerWaits moments

-- its membership has ended where the answer is `unknown`; an answer of the node itself stands in the event of the command
abbrev pub IsExplained : List Moment → Moment → Type 0
IsExplained before (answered n q answer.Unknown) = differs (member_of n (before_asking n q before)) (member_of n before) ≡ true
IsExplained before (answered n q reply) = (is_own_answer reply ≡ false) ⊎ (list_any (is_asking n q) (so_far before) ≡ true)
IsExplained before _ = Unit {0}

-- .. and fits its command
abbrev pub IsReasoned : Setting → List Moment → Moment → Type 0
IsReasoned S before m = IsExplained before m × IsOwnAnswer S before m

abbrev pub AreReasoned : Setting → List Moment → Type 0
AreReasoned S moments = Always (IsReasoned S) moments
