use Rattle.schedule_text.proofs.event_words.named_event.Goals as goal

pub returns-in_ok-crash_at-in-CrashAt-clause-allowed : goal.returns-in_ok-crash_at-in-CrashAt-clause-allowed
returns-in_ok-crash_at-in-CrashAt-clause-allowed c = c.in_ok-crash_at-in-CrashAt.ensures.allowed c.args.so_far

pub returns-in_ok-next_packet-in-Next-clause-allowed : goal.returns-in_ok-next_packet-in-Next-clause-allowed
returns-in_ok-next_packet-in-Next-clause-allowed c = c.in_ok-next_packet-in-Next.ensures.allowed c.args.so_far

pub returns-in_ok-drop_packet-in-Drop-clause-allowed : goal.returns-in_ok-drop_packet-in-Drop-clause-allowed
returns-in_ok-drop_packet-in-Drop-clause-allowed c = c.in_ok-drop_packet-in-Drop.ensures.allowed c.args.so_far

pub returns-in_ok-again-in-Again-clause-allowed : goal.returns-in_ok-again-in-Again-clause-allowed
returns-in_ok-again-in-Again-clause-allowed c = c.in_ok-again-in-Again.ensures.allowed c.args.so_far

pub returns-in_ok-fault-in-Fault-clause-allowed : goal.returns-in_ok-fault-in-Fault-clause-allowed
returns-in_ok-fault-in-Fault-clause-allowed c = c.in_ok-fault-in-Fault.ensures.allowed c.args.so_far

pub returns-in_ok-write-in-Write-clause-allowed : goal.returns-in_ok-write-in-Write-clause-allowed
returns-in_ok-write-in-Write-clause-allowed c = c.in_ok-write-in-Write.ensures.allowed c.args.so_far

pub returns-in_ok-call_outcome-in-Outcome-clause-allowed : goal.returns-in_ok-call_outcome-in-Outcome-clause-allowed
returns-in_ok-call_outcome-in-Outcome-clause-allowed c = c.in_ok-call_outcome-in-Outcome.ensures.allowed c.args.so_far

pub returns-in_ok-probe-in-Probe-clause-allowed : goal.returns-in_ok-probe-in-Probe-clause-allowed
returns-in_ok-probe-in-Probe-clause-allowed c = c.in_ok-probe-in-Probe.ensures.allowed c.args.so_far

pub returns-in_ok-clock-in-Clock-clause-allowed : goal.returns-in_ok-clock-in-Clock-clause-allowed
returns-in_ok-clock-in-Clock-clause-allowed c = c.in_ok-clock-in-Clock.ensures.allowed c.args.header.now

pub returns-in-Command-clause-allowed : goal.returns-in-Command-clause-allowed
returns-in-Command-clause-allowed c = c.command.ensures.allowed c.args.so_far

pub returns-in_ok-client_since_two-in-Client-clause-allowed : goal.returns-in_ok-client_since_two-in-Client-clause-allowed
returns-in_ok-client_since_two-in-Client-clause-allowed c = c.in_ok-client_since_two-in-Client.ensures.allowed c.args.so_far
