-- What is sent to the members: Collect, Install and Start.
use Rattle.std.specs.Prelude.{ℕ, List, [], Option, Some, None}
use Rattle.std.specs.List.{find, filter_map}
use Rattle.wire.specs.declared.message.Body.{Body}
use Rattle.wire.specs.declared.message.Body.TheVariants as body
use Rattle.wire.specs.declared.message.Install.{Install}
use Rattle.wire.specs.declared.lists.Reading.{Reading}
use Rattle.cmm_attempt.specs.declared.plan.Plan.{Plan}
use Rattle.cmm_attempt.specs.declared.promised.Promised.{Promised}
use Rattle.cmm_attempt.specs.declared.seizing.Seizing.{Seizing}
use Rattle.cmm_attempt.specs.declared.step.Step.{Step}
use Rattle.cmm_attempt.specs.declared.step.Step.TheVariants.{Send}
use Rattle.cmm_attempt.specs.Promises.{is_from}
use Rattle.cmm_attempt.specs.Seizings.{reading_of}

-- the updates that a Promise shows
abbrev pub committed_in : Body → List (List ℕ)
committed_in (body.Promise epoch installed members valid flagged committed pending) = committed
committed_in _ = []

abbrev pub pending_in : Body → Option (List ℕ)
pending_in (body.Promise epoch installed members valid flagged committed pending) = pending
pending_in _ = None

abbrev pub install_by : Plan → List Reading → Option Promised → Install
install_by plan readings None =
    record { epoch = plan.epoch; members = plan.members; committed = []; pending = None; readings = readings }
install_by plan readings (Some p) =
    record { epoch = plan.epoch; members = plan.members; committed = committed_in p.message.body; pending = pending_in p.message.body; readings = readings }

-- the membership with the updates of the newest record, and what was read on the devices that are held
abbrev pub install_of : Plan → List Promised → ℕ → List Seizing → Install
install_of plan promises newest devices = install_by plan (filter_map (reading_of devices) plan.attached) (find (is_from newest) promises)

-- the message to this member
abbrev pub send_to : Plan → Body → ℕ → Step
send_to plan b n = Send n (record { sender = plan.coordinator; body = b })

abbrev pub send_collect : Plan → ℕ → Step
send_collect plan n = send_to plan (body.Collect plan.epoch plan.members) n

abbrev pub send_install : Plan → Install → ℕ → Step
send_install plan i n = send_to plan (body.Install i) n

abbrev pub send_start : Plan → ℕ → Step
send_start plan n = send_to plan (body.Start plan.epoch) n
