-- The kinds of messages.
use Rattle.std.specs.Prelude.{Bool, true, false}
use Rattle.cl_base.specs.declared.packet.MessageKind.{MessageKind}
use Rattle.cl_base.specs.declared.packet.MessageKind.TheVariants as kind
use Rattle.wire.specs.declared.message.Body.{Body}
use Rattle.wire.specs.declared.message.Body.TheVariants as body

abbrev pub kind_of : Body → MessageKind
kind_of (body.Heartbeat promised session member) = kind.Heartbeat
kind_of (body.Collect epoch members) = kind.Collect
kind_of (body.Promise epoch installed members valid flagged committed pending) = kind.Promise
kind_of (body.Nack epoch promised) = kind.Nack
kind_of (body.SeizeQuorum epoch members device) = kind.SeizeQuorum
kind_of (body.SeizeData epoch members device) = kind.SeizeData
kind_of (body.Seized epoch device outcome) = kind.Seized
kind_of (body.Install install) = kind.Install
kind_of (body.Ready epoch joined report) = kind.Ready
kind_of (body.Start epoch) = kind.Start
kind_of (body.Prepare epoch place text) = kind.Prepare
kind_of (body.Prepared epoch place) = kind.Prepared
kind_of (body.Commit epoch place) = kind.Commit
kind_of (body.Order order) = kind.Order
kind_of (body.Done epoch number outcome) = kind.Done
kind_of (body.Request epoch number text) = kind.Request
kind_of (body.Answer epoch number text) = kind.Answer
kind_of (body.Excluded epoch newest) = kind.Excluded

abbrev pub is_promise : Body → Bool
is_promise (body.Promise epoch installed members valid flagged committed pending) = true
is_promise _ = false

abbrev pub is_ready : Body → Bool
is_ready (body.Ready epoch joined report) = true
is_ready _ = false

-- the kinds that the phases of an attempt have beside the installing
abbrev pub is_of_attempt : Body → Bool
is_of_attempt (body.Promise epoch installed members valid flagged committed pending) = true
is_of_attempt (body.SeizeQuorum epoch members device) = true
is_of_attempt (body.SeizeData epoch members device) = true
is_of_attempt (body.Seized epoch device outcome) = true
is_of_attempt _ = false
