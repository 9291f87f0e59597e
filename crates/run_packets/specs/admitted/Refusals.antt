-- What a president answers to a request can be read: the operands of a refusal are names and numbers.
use Rattle.std.specs.Prelude.{ℕ, ◌≡◌, true, List, Result, Ok, Err, is_some}
use Rattle.admin_commands.specs.declared.accepted.Accepted.{Accepted}
use Rattle.admin_commands.specs.declared.error.CheckError.{CheckError}
use Rattle.admin_commands.specs.declared.error.CheckError.TheVariants as because
use Rattle.admin_words.specs.declared.error.WordError.{WordError}
use Rattle.admin_words.specs.declared.request.Request.{Request}
use Rattle.admin_words.specs.declared.request.Request.TheVariants as asked
use Rattle.answer_words.specs.Answers.{answer_in}
use Rattle.answer_words.specs.Laws.{IsRefusal}
use Rattle.cl_base.specs.Names.{IsName}
use Rattle.cl_base.specs.declared.command.Ask.{Ask}
use Rattle.cl_base.specs.declared.command.Ask.TheVariants.{Clear, Evacuate, Move, Remaster, Restart}
use Rattle.cl_base.specs.declared.header.Version.{Version}
use Rattle.order_laws.specs.Laws.{ToldCyclesHaveNames}
use Rattle.word_laws.specs.Spelled.{IsNodeOf, IsSpelled}

-- the text can be read as an answer, since a cycle that is told has a name
abbrev pub IsReadable : List ℕ → Type 0
IsReadable text = ToldCyclesHaveNames → is_some (answer_in text) ≡ true

-- what is asked without an update has the forms of operands
abbrev pub AskGood : Version → Ask → Type 0
AskGood v (Restart r) = IsName r
AskGood v (Move r) = IsName r
AskGood v (Remaster g) = IsName g
AskGood v (Evacuate n) = IsNodeOf v n
AskGood v (Clear r n) = IsName r × IsNodeOf v n

-- .. and so has what is read as a request
abbrev pub RequestGood : Version → Result Request WordError → Type 0
RequestGood v (Ok (asked.Change u)) = IsSpelled v u
RequestGood v (Ok (asked.Act a)) = AskGood v a
RequestGood v (Err e) = Unit {0}

-- the operands of a refusal do
abbrev pub ResultGood : Result Accepted CheckError → Type 0
ResultGood (Err (because.Refused r)) = ToldCyclesHaveNames → IsRefusal r
ResultGood _ = Unit {0}
