-- Who answers a command `ok`: a member, in the membership in which it was asked; who is not its president repeats the president's Answer.
use Rattle.std.specs.Prelude.{ℕ, ◌≡◌, ◌⊎◌, List, Some}
use Rattle.answer_words.specs.Answers.{answer_in}
use Rattle.status_report.specs.declared.command_entry.Answer.TheVariants as answer
use Rattle.wire.specs.declared.message.Body.TheVariants as body
use Rattle.history.specs.Letters.{Letter, arrived, says}
use Rattle.history.specs.Member.{member_of}
use Rattle.history.specs.Moment.{Moment}
use Rattle.history.specs.Order.{Always}
use Rattle.history.specs.Requests.{before_asking}
use Rattle.history.specs.Setting.{coordinator}
use Rattle.history.specs.Trace.{answered}

-- the Answer of its president that has just come to n
pub record IsRepeated (n q e : ℕ) (before : List Moment) : Type 0 where
  pub letter : Letter
  pub came : arrived before ≡ Some letter
  pub to : letter.to ≡ n
  pub from : letter.from ≡ coordinator e
  pub text : List ℕ
  pub says_so : says letter.bytes ≡ Some (body.Answer e q text)
  pub ok : answer_in text ≡ Some answer.Ok

-- what is answered `ok` was asked as a member, of the same membership still; who is not its president repeats the president's Answer
pub record IsOfMember (n q : ℕ) (before : List Moment) : Type 0 where
  pub epoch : ℕ
  pub member : member_of n before ≡ Some epoch
  pub asked_so : member_of n (before_asking n q before) ≡ Some epoch
  pub told : (coordinator epoch ≡ n) ⊎ IsRepeated n q epoch before

abbrev pub IsMembers : List Moment → Moment → Type 0
IsMembers before (answered n q answer.Ok) = IsOfMember n q before
IsMembers before _ = Unit {0}

abbrev pub AnswersAreMembers : List Moment → Type 0
AnswersAreMembers moments = Always IsMembers moments
