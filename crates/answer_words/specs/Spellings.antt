-- The words that answers are made of.
use Rattle.std.specs.Prelude.{ℕ, List, Option, Some, None, codes, if◌then◌else◌}
use Rattle.std.specs.Str.{bytes_eq}
use Rattle.cl_base.specs.declared.refusal.Refusal.{Refusal}
use Rattle.cl_base.specs.declared.refusal.Refusal.TheVariants as refusal
use Rattle.status_report.specs.declared.command_entry.Answer.{Answer}
use Rattle.status_report.specs.declared.command_entry.Answer.TheVariants as answer
use Rattle.answer_words.specs.declared.spelling.OperandWord.{OperandWord}
use Rattle.answer_words.specs.declared.spelling.OperandWord.TheVariants as reason

-- the answers of one word
unfoldable pub whole_answer_in : List ℕ → Option Answer
whole_answer_in word =
    if bytes_eq word (codes "ok") then Some answer.Ok
    else if bytes_eq word (codes "unknown") then Some answer.Unknown
    else None

-- one word behind `refused`, whatever the configuration
unfoldable pub refused_command_in : List ℕ → Option Answer
refused_command_in word =
    if bytes_eq word (codes "unknown-command") then Some answer.UnknownCommand
    else if bytes_eq word (codes "missing-operand") then Some answer.MissingOperand
    else if bytes_eq word (codes "bad-value") then Some answer.BadValue
    else if bytes_eq word (codes "not-member") then Some answer.NotMember
    else if bytes_eq word (codes "queue-full") then Some answer.QueueFull
    else None

-- one word behind `refused`, over the configuration
unfoldable pub plain_refusal_in : List ℕ → Option Refusal
plain_refusal_in word =
    if bytes_eq word (codes "exists") then Some refusal.Exists
    else if bytes_eq word (codes "managed") then Some refusal.Managed
    else if bytes_eq word (codes "unmanaged") then Some refusal.Unmanaged
    else if bytes_eq word (codes "same-value") then Some refusal.SameValue
    else if bytes_eq word (codes "too-many") then Some refusal.TooMany
    else if bytes_eq word (codes "bad-property") then Some refusal.BadProperty
    else if bytes_eq word (codes "bad-setting") then Some refusal.BadSetting
    else if bytes_eq word (codes "still-up") then Some refusal.StillUp
    else if bytes_eq word (codes "single") then Some refusal.Single
    else if bytes_eq word (codes "no-mark") then Some refusal.NoMark
    else if bytes_eq word (codes "node-is-member") then Some refusal.NodeIsMember
    else if bytes_eq word (codes "device-not-held") then Some refusal.DeviceNotHeld
    else if bytes_eq word (codes "node-has-vote") then Some refusal.NodeHasVote
    else None

-- a word behind `refused` that operands follow
unfoldable pub operand_word_in : List ℕ → Option OperandWord
operand_word_in word =
    if bytes_eq word (codes "ask") then Some reason.Ask
    else if bytes_eq word (codes "unknown") then Some reason.Unknown
    else if bytes_eq word (codes "in-use") then Some reason.InUse
    else if bytes_eq word (codes "not-listed") then Some reason.NotListed
    else if bytes_eq word (codes "cycle") then Some reason.Cycle
    else if bytes_eq word (codes "lose-quorum") then Some reason.LoseQuorum
    else if bytes_eq word (codes "record-full") then Some reason.RecordFull
    else None
