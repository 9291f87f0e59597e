-- Which answers have a text, and what it is read as.
use Rattle.std.specs.Prelude.{◌≡◌, ℕ, ◌^◌, ◌<◌, ◌≤◌, List, length, Some}
use Rattle.std.specs.List.{AllByRecursion}
use Rattle.cl_base.specs.Limits.{most_nodes}
use Rattle.cl_base.specs.Names.{IsName}
use Rattle.cl_base.specs.declared.refusal.Thing.{Thing}
use Rattle.cl_base.specs.declared.refusal.Thing.TheVariants.{Named, Numbered}
use Rattle.cl_base.specs.declared.refusal.Refusal.{Refusal}
use Rattle.cl_base.specs.declared.refusal.Refusal.TheVariants as refusal
use Rattle.status_report.specs.declared.command_entry.Answer.{Answer}
use Rattle.status_report.specs.declared.command_entry.Answer.TheVariants as answer
use Rattle.status_report.specs.CommandLines.{reply_text}
use Rattle.answer_words.specs.Answers.{answer_in}

-- the number of a node
abbrev pub IsNode : ℕ → Type 0
IsNode node = (1 ≤ node) × (node ≤ most_nodes)

-- a name, or a number of 64 bits
abbrev pub IsThing : Thing → Type 0
IsThing (Named name) = IsName name
IsThing (Numbered number) = number < 2 ^ 64

-- at least one name
abbrev pub AreNames : List (List ℕ) → Type 0
AreNames names = (1 ≤ length names) × AllByRecursion IsName names

-- the operands of a refusal have the forms of operands
abbrev pub IsRefusal : Refusal → Type 0
IsRefusal (refusal.Unknown thing) = IsThing thing
IsRefusal refusal.Exists = Unit {0}
IsRefusal (refusal.InUse by) = IsName by
IsRefusal refusal.Managed = Unit {0}
IsRefusal refusal.Unmanaged = Unit {0}
IsRefusal refusal.SameValue = Unit {0}
IsRefusal (refusal.NotListed node) = IsNode node
IsRefusal refusal.TooMany = Unit {0}
IsRefusal refusal.BadProperty = Unit {0}
IsRefusal refusal.BadSetting = Unit {0}
IsRefusal refusal.StillUp = Unit {0}
IsRefusal (refusal.Cycle names) = AreNames names
IsRefusal refusal.Single = Unit {0}
IsRefusal refusal.NoMark = Unit {0}
IsRefusal refusal.NodeIsMember = Unit {0}
IsRefusal refusal.DeviceNotHeld = Unit {0}
IsRefusal refusal.NodeHasVote = Unit {0}
IsRefusal (refusal.LoseQuorum have need) = (have < 2 ^ 64) × (need < 2 ^ 64)
IsRefusal (refusal.RecordFull length) = length < 2 ^ 64

-- and so have those of an answer
abbrev pub IsAnswer : Answer → Type 0
IsAnswer answer.Ok = Unit {0}
IsAnswer answer.Unknown = Unit {0}
IsAnswer answer.UnknownCommand = Unit {0}
IsAnswer answer.MissingOperand = Unit {0}
IsAnswer answer.BadValue = Unit {0}
IsAnswer answer.NotMember = Unit {0}
IsAnswer (answer.Ask node) = IsNode node
IsAnswer answer.QueueFull = Unit {0}
IsAnswer (answer.Refused why) = IsRefusal why

-- the text of an answer is read as this answer
abbrev pub AnswersAreRead : Type 0
AnswersAreRead = (a : Answer) → IsAnswer a → answer_in (reply_text a) ≡ Some a
