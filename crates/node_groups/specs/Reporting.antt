-- A monitor reports. What stands here unfolds only where it is named.
use Rattle.std.specs.Prelude.{ℕ, ◌&&◌, Bool, not, List, [], ◌∷◌, Option, None}
use Rattle.cl_base.specs.declared.command.Ask.{Ask}
use Rattle.request_queue.specs.Queue.{is_full}
use Rattle.rgm_member.specs.Probes.{probed}
use Rattle.rgm_member.specs.declared.probed.Probed.{Probed}
use Rattle.rgm_member.specs.declared.probed.Probed.TheVariants as probe
use Rattle.status_report.specs.declared.call_entry.ProbeResult.TheVariants as come
use Rattle.node_model.specs.declared.cluster.Cluster.{Cluster}
use Rattle.node_model.specs.declared.node.UpNode.{UpNode}
use Rattle.node_model.specs.declared.output.Output.{Output}
use Rattle.node_model.specs.Configurations.{own_config}
use Rattle.node_model.specs.Groups.{asked_by, asking_this, monitor_asked, report_told, reported, result_of}
use Rattle.node_model.specs.Plans.{Plan}
use Rattle.node_model.specs.Requests.{asking_if, is_idle}
use Rattle.node_model.specs.Seats.{is_member}

-- what the report comes to
unfoldable pub probed_so : Cluster → UpNode → List ℕ → Bool → Probed
probed_so c x r good = probed x.worker (own_config c x) r good x.second

-- what the node then keeps
unfoldable pub reported_so : UpNode → Cluster → List ℕ → Probed → UpNode
reported_so x c r p = reported x c r p

-- what it tells
abbrev pub told_after : ℕ → List ℕ → Probed → List Output
told_after me r probe.NoMonitor = []
told_after me r probe.Good = report_told me r come.Ok ∷ []
told_after me r (probe.Failed a) = report_told me r (result_of a) ∷ []

-- what it asks
abbrev pub ask_after : Probed → List ℕ → Option Ask
ask_after probe.NoMonitor r = None
ask_after probe.Good r = None
ask_after (probe.Failed a) r = asked_by a r

-- whether it can
abbrev pub may_ask : UpNode → Bool
may_ask x = is_member x.seat && not (is_full x.requests)

-- the node that has asked it
unfoldable pub asked_so : UpNode → Ask → UpNode
asked_so x ask = monitor_asked x ask

-- what follows
unfoldable pub goes_on : Bool → Cluster → ℕ → UpNode → Plan
goes_on alone c me x = asking_if alone c me x

unfoldable pub asks_this : Cluster → ℕ → UpNode → Ask → Plan
asks_this c me x ask = asking_if (is_idle x.requests.waiting) c me (monitor_asked x ask)

unfoldable pub asks_for : Cluster → ℕ → UpNode → Option Ask → Plan
asks_for c me x ask = asking_this c me x ask
