-- The calls on an attempt, the attempts that they lead to, and what is among the steps that they give.
use Rattle.std.specs.Prelude.{ℕ, ◌≡◌, ◌≤◌, Bool, true, false, List, [], ◌∷◌, Option, Some, None, All}
use Rattle.cl_base.specs.Seizings.{SeizeResult}
use Rattle.wire.specs.declared.message.Install.{Install}
use Rattle.wire.specs.declared.message.Message.{Message}
use Rattle.cmm_attempt.specs.declared.attached.AttachedDevice.{AttachedDevice}
use Rattle.cmm_attempt.specs.declared.counting.BothVotes.{BothVotes}
use Rattle.cmm_attempt.specs.declared.phase.Phase.TheVariants.{Choosing}
use Rattle.cmm_attempt.specs.declared.step.Step.{Step}
use Rattle.cmm_attempt.specs.declared.step.Step.TheVariants.{Send, SeizeHere, NeedVotes, InstallHere, StartHere, Ended}
use Rattle.cmm_attempt.specs.declared.step.AttemptEnd.{AttemptEnd}
use Rattle.cmm_attempt.specs.Attempts.{AttemptState, Turn, beginning, taking, voting, own_answering, own_readying, ticking}

pub data Call : Type 0 where
  Take : (from : ℕ) (m : Message) → Call
  With_votes : (both : BothVotes) → Call
  Own_seized : (d : ℕ) (r : SeizeResult) → Call
  Own_ready : Call
  Tick : Call

abbrev pub turn : AttemptState → Call → Turn
turn s (Take from m) = taking s from m
turn s (With_votes both) = voting s both
turn s (Own_seized d r) = own_answering s d r
turn s Own_ready = own_readying s
turn s Tick = ticking s

-- votes are given where they were asked for
abbrev pub May : AttemptState → Call → Type 0
May s (With_votes both) = s.phase ≡ Choosing
May s (Take from m) = Unit {0}
May s (Own_seized d r) = Unit {0}
May s Own_ready = Unit {0}
May s Tick = Unit {0}

-- these calls lead from s to t
abbrev pub Run : AttemptState → List Call → AttemptState → Type 0
Run s [] t = t ≡ s
Run s (c ∷ calls) t = May s c × Run (turn s c).after calls t

-- the devices of the header have the numbers from 1 to 16
abbrev pub IsDevice : AttachedDevice → Type 0
IsDevice a = (1 ≤ a.device) × (a.device ≤ 16)

-- an attempt that began so comes to s by these calls
pub record IsReached (s : AttemptState) : Type 0 where
  pub p : ℕ
  pub members : ℕ
  pub own : Message
  pub attached : List AttachedDevice
  pub cluster : ℕ
  pub devices : All IsDevice attached
  pub calls : List Call
  pub run : Run (beginning p members own attached cluster).after calls s

-- What is among steps: an end, a start, a wish for the votes under a node's record, an install.

abbrev pub end_in : List Step → Option AttemptEnd
end_in [] = None
end_in (Ended e ∷ steps) = Some e
end_in (Send to message ∷ steps) = end_in steps
end_in (SeizeHere d kind ∷ steps) = end_in steps
end_in (NeedVotes n ∷ steps) = end_in steps
end_in (InstallHere i ∷ steps) = end_in steps
end_in (StartHere ∷ steps) = end_in steps

abbrev pub starts_in : List Step → Bool
starts_in [] = false
starts_in (StartHere ∷ steps) = true
starts_in (Ended e ∷ steps) = starts_in steps
starts_in (Send to message ∷ steps) = starts_in steps
starts_in (SeizeHere d kind ∷ steps) = starts_in steps
starts_in (NeedVotes n ∷ steps) = starts_in steps
starts_in (InstallHere i ∷ steps) = starts_in steps

abbrev pub wish_in : List Step → Option ℕ
wish_in [] = None
wish_in (NeedVotes n ∷ steps) = Some n
wish_in (Ended e ∷ steps) = wish_in steps
wish_in (Send to message ∷ steps) = wish_in steps
wish_in (SeizeHere d kind ∷ steps) = wish_in steps
wish_in (InstallHere i ∷ steps) = wish_in steps
wish_in (StartHere ∷ steps) = wish_in steps

abbrev pub installs_in : List Step → Option Install
installs_in [] = None
installs_in (InstallHere i ∷ steps) = Some i
installs_in (Ended e ∷ steps) = installs_in steps
installs_in (Send to message ∷ steps) = installs_in steps
installs_in (SeizeHere d kind ∷ steps) = installs_in steps
installs_in (NeedVotes n ∷ steps) = installs_in steps
installs_in (StartHere ∷ steps) = installs_in steps
