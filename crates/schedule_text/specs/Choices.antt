-- The words of an event that stand for one of a few values.
use Rattle.std.specs.Prelude.{ℕ, Bool, true, false, ◌||◌, if◌then◌else◌, List, Option, Some, None, codes}
use Rattle.std.specs.Str.{bytes_eq}
use Rattle.cl_base.specs.declared.header.DeviceKind.{DeviceKind}
use Rattle.cl_base.specs.declared.header.DeviceKind.TheVariants as device
use Rattle.cl_base.specs.declared.header.Version.{Version}
use Rattle.cl_base.specs.declared.header.Version.TheVariants.{One, Two}
use Rattle.cl_base.specs.declared.method.Outcome.{Outcome}
use Rattle.cl_base.specs.declared.method.Outcome.TheVariants as outcome
use Rattle.schedule_text.specs.declared.event.StopChoice.{StopChoice}
use Rattle.schedule_text.specs.declared.event.StopChoice.TheVariants as choice

-- what becomes of what is not synced
unfoldable pub choice_in : List ℕ → Option StopChoice
choice_in word =
    if bytes_eq word (codes "old") then Some choice.Old
    else if bytes_eq word (codes "new") then Some choice.New
    else if bytes_eq word (codes "zero") then Some choice.Zero
    else None

-- whether a command that fails is done all the same
unfoldable pub done_in : List ℕ → Option Bool
done_in word =
    if bytes_eq word (codes "done") then Some true
    else if bytes_eq word (codes "undone") then Some false
    else None

-- whether a monitor finds the resource well
unfoldable pub good_in : List ℕ → Option Bool
good_in word =
    if bytes_eq word (codes "ok") then Some true
    else if bytes_eq word (codes "fail") then Some false
    else None

-- servers are there from version 2 on
abbrev pub server_under : Version → Option DeviceKind
server_under One = None
server_under Two = Some device.Server

-- what a device of the header is
unfoldable pub device_kind_in : Version → List ℕ → Option DeviceKind
device_kind_in version word =
    if bytes_eq word (codes "quorum") then Some device.Quorum
    else if bytes_eq word (codes "data") then Some device.Data
    else if bytes_eq word (codes "server") then server_under version
    else None

-- what becomes of one ask of an exchange with a server
unfoldable pub is_ask : List ℕ → Bool
is_ask word =
    bytes_eq word (codes "ok") || bytes_eq word (codes "ask-lost") || bytes_eq word (codes "reply-lost") || bytes_eq word (codes "ask-twice")

-- how a method call ends
unfoldable pub outcome_in : List ℕ → Option Outcome
outcome_in word =
    if bytes_eq word (codes "success") then Some outcome.Success
    else if bytes_eq word (codes "failure") then Some outcome.Failure
    else if bytes_eq word (codes "timeout") then Some outcome.Timeout
    else None
