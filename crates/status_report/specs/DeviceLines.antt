-- A node at a device.
use Rattle.std.specs.Prelude.{ℕ, List, codes, [], ◌∷◌}
use Rattle.std.specs.Fmt.{decimal}
use Rattle.status_report.specs.declared.device_entry.DeviceAnswer.{DeviceAnswer}
use Rattle.status_report.specs.declared.device_entry.DeviceAnswer.TheVariants.{Given, Failed}
use Rattle.status_report.specs.declared.device_entry.WriteRefusal.{WriteRefusal}
use Rattle.status_report.specs.declared.device_entry.WriteRefusal.TheVariants.{NotMember, NoPath, NotHeld, Fenced, Fault}
use Rattle.status_report.specs.declared.device_entry.DeviceEntry.{DeviceEntry}
use Rattle.status_report.specs.declared.device_entry.DeviceEntry.TheVariants.{Command, Accepted, Refused}
use Rattle.status_report.specs.PrAnswers.{answer_text, command_text}
use Rattle.status_report.specs.Words.{spaced}

abbrev pub given_text : DeviceAnswer → List ℕ
given_text (Given answer) = answer_text answer
given_text Failed = codes "failed"

abbrev pub write_refusal_text : WriteRefusal → List ℕ
write_refusal_text NotMember = codes "not-member"
write_refusal_text NoPath = codes "no-path"
write_refusal_text NotHeld = codes "not-held"
write_refusal_text Fenced = codes "fenced"
write_refusal_text Fault = codes "fault"

abbrev pub device_text : DeviceEntry → List ℕ
device_text (Command node device command answer) =
    spaced (codes "device" ∷ decimal node ∷ decimal device ∷ command_text command ∷ codes "=" ∷ given_text answer ∷ [])
device_text (Accepted epoch node device value) =
    spaced (codes "write" ∷ decimal epoch ∷ decimal node ∷ decimal device ∷ decimal value ∷ codes "accepted" ∷ [])
device_text (Refused node device value cause) =
    spaced (codes "write" ∷ decimal node ∷ decimal device ∷ decimal value ∷ codes "refused" ∷ write_refusal_text cause ∷ [])
