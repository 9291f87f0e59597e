-- What a coordinator tells in a tick before its attempt ends: the tick, and packets that ask nothing of members.
use Rattle.std.specs.Prelude.{ℕ, ◌≡◌, ◌≤◌, false, List, [], ◌∷◌, ◌++◌, Some, find}
use Rattle.std.specs.List.{AllByRecursion}
use Rattle.cmm_attempt.specs.Attempts.{AttemptState, is_missing}
use Rattle.history.specs.Attempts.{is_question}
use Rattle.history.specs.Moment.{Moment, Told}
use Rattle.history.specs.Names.{named}
use Rattle.history.specs.Setting.{coordinator}
use Rattle.history.specs.Trace.{ended_silent, sent, ticked}
use Rattle.run_history.specs.Scenes.{Scene}
use Rattle.status_report.specs.declared.entry.Entry.TheVariants as entry
use Rattle.status_report.specs.declared.packet_entry.PacketEntry.TheVariants as packet
use Rattle.run_lines.proofs.Adds.{onto}
use Rattle.run_outcomes.specs.phases.Laws.{HasAttempt}

-- a tick, or a packet of a beat
abbrev pub IsBeat : Moment → Type 0
IsBeat (ticked n) = Unit {0}
IsBeat (sent p a b called bytes) = is_question (named called) ≡ false
IsBeat (Told (entry.Packet (packet.Dropped p cause))) = Unit {0}
IsBeat _ = ⊥

-- The lines of a step, oldest first, before the one that ends the attempt e for want of m: a tick and beats, and the node waited for m for seven ticks before them.
pub record Behind (s : Scene) (e m : ℕ) (older : List Moment) : Type 0 where
  pub attempt : AttemptState
  pub has : HasAttempt s (coordinator e) attempt
  pub number : attempt.plan.epoch ≡ e
  pub least : find (is_missing attempt) attempt.plan.nodes ≡ Some m
  pub late : 7 ≤ attempt.ticks
  pub beats : List Moment
  pub begins : older ≡ ticked (coordinator e) ∷ beats
  pub are : AllByRecursion IsBeat beats

-- .. each line of a step, where it tells such an end
abbrev pub EndBehind : Scene → List Moment → Moment → Type 0
EndBehind s older (ended_silent e m) = Behind s e m older
EndBehind s older _ = Unit {0}

abbrev pub AllBehind : Scene → List Moment → List Moment → Type 0
AllBehind s older [] = Unit {0}
AllBehind s older (x ∷ later) = EndBehind s older x × AllBehind s (older ++ x ∷ []) later

pub record StepBehind (s t : Scene) : Type 0 where
  pub newer : List Moment
  pub is : onto newer s.moments ≡ t.moments
  pub all : AllBehind s [] newer
