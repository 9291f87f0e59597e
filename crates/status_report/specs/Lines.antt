-- The line that an entry prints as.
use Rattle.std.specs.Prelude.{ℕ, List, [], ◌∷◌, ◌++◌, codes}
use Rattle.status_report.specs.declared.entry.Entry.{Entry}
use Rattle.status_report.specs.declared.entry.Entry.TheVariants.{Answered, Powered, Node, Packet, Device, Attempt, Start, Update, Call, Command, Status, Address, Schedule}
use Rattle.status_report.specs.PrAnswers.{answer_text}
use Rattle.status_report.specs.NodeLines.{node_text}
use Rattle.status_report.specs.PacketLines.{packet_text}
use Rattle.status_report.specs.DeviceLines.{device_text}
use Rattle.status_report.specs.AddressLines.{address_text}
use Rattle.status_report.specs.AttemptLines.{attempt_text}
use Rattle.status_report.specs.StartLines.{start_text}
use Rattle.status_report.specs.UpdateLines.{update_text}
use Rattle.status_report.specs.CallLines.{call_text}
use Rattle.status_report.specs.CommandLines.{asked_text}
use Rattle.status_report.specs.StatusLines.{status_text}
use Rattle.status_report.specs.ScheduleLines.{schedule_text}

abbrev pub entry_text : Entry → List ℕ
entry_text (Answered answer) = answer_text answer
entry_text Powered = codes "powered"
entry_text (Node node entry) = node_text node entry
entry_text (Packet entry) = packet_text entry
entry_text (Device entry) = device_text entry
entry_text (Attempt entry) = attempt_text entry
entry_text (Start entry) = start_text entry
entry_text (Update entry) = update_text entry
entry_text (Call entry) = call_text entry
entry_text (Command entry) = asked_text entry
entry_text (Status entry) = status_text entry
entry_text (Address entry) = address_text entry
entry_text (Schedule entry) = schedule_text entry

-- with its newline
abbrev pub printed : Entry → List ℕ
printed entry = entry_text entry ++ 10 ∷ []
