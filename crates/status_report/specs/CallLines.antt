-- Calls of methods and reports of monitors.
use Rattle.std.specs.Prelude.{ℕ, List, codes, [], ◌∷◌}
use Rattle.std.specs.Fmt.{decimal}
use Rattle.cl_base.specs.declared.method.Method.{Method}
use Rattle.cl_base.specs.declared.method.Method.TheVariants as method
use Rattle.cl_base.specs.declared.method.Outcome.{Outcome}
use Rattle.cl_base.specs.declared.method.Outcome.TheVariants.{Success, Failure, Timeout}
use Rattle.status_report.specs.declared.call_entry.ProbeResult.{ProbeResult}
use Rattle.status_report.specs.declared.call_entry.ProbeResult.TheVariants as probe
use Rattle.status_report.specs.declared.call_entry.CallEntry.{CallEntry}
use Rattle.status_report.specs.declared.call_entry.CallEntry.TheVariants.{Called, Done, Probed}
use Rattle.status_report.specs.Words.{spaced}

abbrev pub method_text : Method → List ℕ
method_text method.PrenetStart = codes "PRENET_START"
method_text method.Start = codes "START"
method_text method.MonitorStart = codes "MONITOR_START"
method_text method.MonitorCheck = codes "MONITOR_CHECK"
method_text method.MonitorStop = codes "MONITOR_STOP"
method_text method.Stop = codes "STOP"
method_text method.PostnetStop = codes "POSTNET_STOP"
method_text method.Validate = codes "VALIDATE"
method_text method.Init = codes "INIT"
method_text method.Fini = codes "FINI"
method_text method.Boot = codes "BOOT"
method_text method.Update = codes "UPDATE"

abbrev pub outcome_text : Outcome → List ℕ
outcome_text Success = codes "success"
outcome_text Failure = codes "failure"
outcome_text Timeout = codes "timeout"

abbrev pub probe_text : ProbeResult → List ℕ
probe_text probe.Ok = codes "ok"
probe_text probe.Restart = codes "restart"
probe_text probe.Move = codes "move"
probe_text probe.Logged = codes "logged"

abbrev pub call_text : CallEntry → List ℕ
call_text (Called epoch node method resource) =
    spaced (codes "call" ∷ decimal epoch ∷ decimal node ∷ method_text method ∷ resource ∷ [])
call_text (Done epoch node method resource outcome) =
    spaced (codes "done" ∷ decimal epoch ∷ decimal node ∷ method_text method ∷ resource ∷ outcome_text outcome ∷ [])
call_text (Probed node resource result) = spaced (codes "probe" ∷ decimal node ∷ resource ∷ probe_text result ∷ [])
