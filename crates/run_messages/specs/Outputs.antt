-- What the lines and messages of a node say of members.
use Rattle.std.specs.Prelude.{ℕ, ◌≡◌, ◌≢◌, List, Option, is_some}
use Rattle.std.specs.List.{AllByRecursion}
use Rattle.history.specs.Setting.{coordinator}
use Rattle.node_model.specs.declared.output.Output.{Output}
use Rattle.node_model.specs.declared.output.Output.TheVariants.{Sends, Tells}
use Rattle.refinement.specs.Widths.{LetterFits}
use Rattle.status_report.specs.declared.attempt_entry.AttemptEntry.TheVariants as attempt
use Rattle.status_report.specs.declared.entry.Entry.{Entry}
use Rattle.status_report.specs.declared.entry.Entry.TheVariants as entry
use Rattle.status_report.specs.declared.node_entry.NodeEntry.TheVariants as note
use Rattle.wire.specs.declared.message.Body.{Body}
use Rattle.wire.specs.declared.message.Body.TheVariants as body

-- a line about no packet
abbrev pub NoPacket : Entry → Type 0
NoPacket (entry.Packet e) = ⊥
NoPacket _ = Unit {0}

-- what node n gives is no packet line, and a message that keeps its widths
abbrev pub IsGood : ℕ → Output → Type 0
IsGood n (Tells e) = NoPacket e
IsGood n (Sends to b) = LetterFits (record { from = n; body = b })

abbrev pub AreGood : ℕ → List Output → Type 0
AreGood n os = AllByRecursion (IsGood n) os

-- the line changes nothing of whether node k is a member, whatever event is under way
abbrev pub IsStill : ℕ → Entry → Type 0
IsStill k (entry.Node m note.Up) = m ≢ k
IsStill k (entry.Node m (note.Down why)) = m ≢ k
IsStill k (entry.Node m note.Saved) = m ≢ k
IsStill k (entry.Node m (note.Member e)) = m ≢ k
IsStill k (entry.Attempt (attempt.Begun e members)) = coordinator e ≢ k
IsStill k (entry.Packet e) = ⊥
IsStill k _ = Unit {0}

abbrev pub IsStillOutput : ℕ → Output → Type 0
IsStillOutput k (Tells e) = IsStill k e
IsStillOutput k (Sends to b) = Unit {0}

abbrev pub AreStill : ℕ → List Output → Type 0
AreStill k os = AllByRecursion (IsStillOutput k) os

-- a line that changes nothing for any node
abbrev pub IsEven : Entry → Type 0
IsEven (entry.Node m note.Up) = ⊥
IsEven (entry.Node m (note.Down why)) = ⊥
IsEven (entry.Node m note.Saved) = ⊥
IsEven (entry.Node m (note.Member e)) = ⊥
IsEven (entry.Attempt (attempt.Begun e members)) = ⊥
IsEven (entry.Packet e) = ⊥
IsEven _ = Unit {0}

-- .. and a message that is no Heartbeat
abbrev pub NoBeat : Body → Type 0
NoBeat (body.Heartbeat promised session member) = ⊥
NoBeat _ = Unit {0}

abbrev pub IsEvenOutput : Output → Type 0
IsEvenOutput (Tells e) = IsEven e
IsEvenOutput (Sends to b) = NoBeat b

abbrev pub AreEven : List Output → Type 0
AreEven os = AllByRecursion IsEvenOutput os

-- a Heartbeat that says so of a node with this membership
abbrev pub BeatSays : Option ℕ → Body → Type 0
BeatSays membership (body.Heartbeat promised session member) = member ≡ is_some membership
BeatSays membership _ = Unit {0}

abbrev pub IsTruthful : Option ℕ → Output → Type 0
IsTruthful membership (Tells e) = Unit {0}
IsTruthful membership (Sends to b) = BeatSays membership b

abbrev pub AreTruthful : Option ℕ → List Output → Type 0
AreTruthful membership os = AllByRecursion (IsTruthful membership) os
