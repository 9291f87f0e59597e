-- The rounds of a schedule stay within their type.
use Rattle.std.proofs.Common.{◌<◌, arith}
use Rattle.cl_base.specs.declared.header.Header.{Header}
use Rattle.schedule_text.specs.declared.event.Event.{Event}
use Rattle.schedule_text.specs.declared.event.Event.TheVariants as event
use Rattle.schedule_text.specs.declared.line.SoFar.{SoFar}
use Rattle.schedule_text.specs.Allowed.{IsAllowedEvent}
use Rattle.schedule_text.specs.Lines.{so_far_after_event}

pub rounds_fit : (h : Header) (s : SoFar) (e : Event) → IsAllowedEvent h s e → s.rounds < 18446744073709551616 → (so_far_after_event s e).rounds < 18446744073709551616
rounds_fit h s (event.Boot node) allowed fits = fits
rounds_fit h s (event.Crash node) allowed fits = fits
rounds_fit h s (event.CrashAt node calls choice) allowed fits = fits
rounds_fit h s (event.Tick node) allowed fits = fits
rounds_fit h s (event.Deliver number) allowed fits = fits
rounds_fit h s (event.Lose number) allowed fits = fits
rounds_fit h s (event.Repeat number) allowed fits = fits
rounds_fit h s (event.Next from to) allowed fits = fits
rounds_fit h s (event.Drop from to) allowed fits = fits
rounds_fit h s (event.Again from to) allowed fits = fits
rounds_fit h s (event.Disk node) allowed fits = fits
rounds_fit h s (event.Fault node device done) allowed fits = fits
rounds_fit h s (event.Write node device value) allowed fits = fits
rounds_fit h s (event.Command node words) allowed fits = fits
rounds_fit h s (event.Outcome node resource method outcome) allowed fits = fits
rounds_fit h s (event.Probe node resource good) allowed fits = fits
rounds_fit h s (event.Clock second) allowed fits = fits
rounds_fit h s (event.Rounds count nodes) allowed fits = omega (arith, allowed.2)
rounds_fit h s (event.Client node address client port) allowed fits = fits
