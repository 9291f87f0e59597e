-- What becomes of a packet.
use Rattle.std.specs.Prelude.{ℕ, List, codes, [], ◌∷◌, Option, Some, None}
use Rattle.std.specs.Fmt.{decimal}
use Rattle.hex.specs.Hex.{encode_lower}
use Rattle.cl_base.specs.declared.packet.MessageKind.{MessageKind}
use Rattle.cl_base.specs.declared.packet.MessageKind.TheVariants as message
use Rattle.cl_base.specs.declared.packet.MessageName.{MessageName}
use Rattle.cl_base.specs.declared.packet.DropCause.{DropCause}
use Rattle.cl_base.specs.declared.packet.DropCause.TheVariants.{Link, Pool, Down}
use Rattle.status_report.specs.declared.packet_entry.PacketEntry.{PacketEntry}
use Rattle.status_report.specs.declared.packet_entry.PacketEntry.TheVariants.{Sent, Delivered, Lost, Repeated, Dropped}
use Rattle.status_report.specs.Words.{spaced}

abbrev pub kind_text : MessageKind → List ℕ
kind_text message.Heartbeat = codes "Heartbeat"
kind_text message.Collect = codes "Collect"
kind_text message.Promise = codes "Promise"
kind_text message.Nack = codes "Nack"
kind_text message.SeizeQuorum = codes "SeizeQuorum"
kind_text message.SeizeData = codes "SeizeData"
kind_text message.Seized = codes "Seized"
kind_text message.Install = codes "Install"
kind_text message.Ready = codes "Ready"
kind_text message.Start = codes "Start"
kind_text message.Prepare = codes "Prepare"
kind_text message.Prepared = codes "Prepared"
kind_text message.Commit = codes "Commit"
kind_text message.Order = codes "Order"
kind_text message.Done = codes "Done"
kind_text message.Request = codes "Request"
kind_text message.Answer = codes "Answer"
kind_text message.Excluded = codes "Excluded"

-- the kind of the message, and its device, place or number where it has one
abbrev pub numbered_text : List ℕ → Option ℕ → List ℕ
numbered_text kind None = kind
numbered_text kind (Some number) = spaced (kind ∷ decimal number ∷ [])

abbrev pub message_text : MessageName → List ℕ
message_text name = numbered_text (kind_text name.kind) name.number

abbrev pub drop_text : DropCause → List ℕ
drop_text Link = codes "link"
drop_text Pool = codes "pool"
drop_text Down = codes "down"

-- the bytes of a sent packet stand at the end, each as two lower-case hexadecimal digits
abbrev pub packet_text : PacketEntry → List ℕ
packet_text (Sent number from to message bytes) =
    spaced (codes "sent" ∷ decimal number ∷ decimal from ∷ decimal to ∷ message_text message ∷ encode_lower bytes ∷ [])
packet_text (Delivered number from to) = spaced (codes "delivered" ∷ decimal number ∷ decimal from ∷ decimal to ∷ [])
packet_text (Lost number) = spaced (codes "lost" ∷ decimal number ∷ [])
packet_text (Repeated number copy) = spaced (codes "repeated" ∷ decimal number ∷ decimal copy ∷ [])
packet_text (Dropped number cause) = spaced (codes "dropped" ∷ decimal number ∷ drop_text cause ∷ [])
