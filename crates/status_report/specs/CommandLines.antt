-- Commands of administrators and their answers.
use Rattle.std.specs.Prelude.{ℕ, List, codes, [], ◌∷◌}
use Rattle.std.specs.Fmt.{decimal}
use Rattle.cl_base.specs.declared.refusal.Thing.{Thing}
use Rattle.cl_base.specs.declared.refusal.Thing.TheVariants.{Named, Numbered}
use Rattle.cl_base.specs.declared.refusal.Refusal.{Refusal}
use Rattle.cl_base.specs.declared.refusal.Refusal.TheVariants as refusal
use Rattle.status_report.specs.declared.command_entry.Answer.{Answer}
use Rattle.status_report.specs.declared.command_entry.Answer.TheVariants as answer
use Rattle.status_report.specs.declared.command_entry.CommandEntry.{CommandEntry}
use Rattle.status_report.specs.declared.command_entry.CommandEntry.TheVariants.{Asked, Answered}
use Rattle.status_report.specs.Words.{joined, spaced}

abbrev pub thing_text : Thing → List ℕ
thing_text (Named name) = name
thing_text (Numbered number) = decimal number

-- the names of a cycle stand with commas (44) between
abbrev pub refusal_text : Refusal → List ℕ
refusal_text (refusal.Unknown thing) = spaced (codes "unknown" ∷ thing_text thing ∷ [])
refusal_text refusal.Exists = codes "exists"
refusal_text (refusal.InUse by) = spaced (codes "in-use" ∷ by ∷ [])
refusal_text refusal.Managed = codes "managed"
refusal_text refusal.Unmanaged = codes "unmanaged"
refusal_text refusal.SameValue = codes "same-value"
refusal_text (refusal.NotListed node) = spaced (codes "not-listed" ∷ decimal node ∷ [])
refusal_text refusal.TooMany = codes "too-many"
refusal_text refusal.BadProperty = codes "bad-property"
refusal_text refusal.BadSetting = codes "bad-setting"
refusal_text refusal.StillUp = codes "still-up"
refusal_text (refusal.Cycle names) = spaced (codes "cycle" ∷ joined 44 (λ name. name) names ∷ [])
refusal_text refusal.Single = codes "single"
refusal_text refusal.NoMark = codes "no-mark"
refusal_text refusal.NodeIsMember = codes "node-is-member"
refusal_text refusal.DeviceNotHeld = codes "device-not-held"
refusal_text refusal.NodeHasVote = codes "node-has-vote"
refusal_text (refusal.LoseQuorum have need) = spaced (codes "lose-quorum" ∷ decimal have ∷ decimal need ∷ [])
refusal_text (refusal.RecordFull length) = spaced (codes "record-full" ∷ decimal length ∷ [])

-- what follows the number of the command
abbrev pub reply_text : Answer → List ℕ
reply_text answer.Ok = codes "ok"
reply_text answer.Unknown = codes "unknown"
reply_text answer.UnknownCommand = codes "refused unknown-command"
reply_text answer.MissingOperand = codes "refused missing-operand"
reply_text answer.BadValue = codes "refused bad-value"
reply_text answer.NotMember = codes "refused not-member"
reply_text (answer.Ask node) = spaced (codes "refused" ∷ codes "ask" ∷ decimal node ∷ [])
reply_text answer.QueueFull = codes "refused queue-full"
reply_text (answer.Refused refusal) = spaced (codes "refused" ∷ refusal_text refusal ∷ [])

abbrev pub asked_text : CommandEntry → List ℕ
asked_text (Asked node number) = spaced (codes "asked" ∷ decimal node ∷ decimal number ∷ [])
asked_text (Answered node number answer) = spaced (codes "answer" ∷ decimal node ∷ decimal number ∷ reply_text answer ∷ [])
