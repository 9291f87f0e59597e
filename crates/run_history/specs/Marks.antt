-- What a node's small steps tell, but for the deeds of memberships; and the deed that each has.
use Rattle.std.specs.Prelude.{ℕ, ◌+◌, ◌≡◌, ◌++◌, List, [], ◌∷◌, length, Some}
use Rattle.ccr_commit.specs.Entries.{all_committed, texts_of}
use Rattle.cmm_attempt.specs.Attempts.{AttemptState}
use Rattle.cmm_attempt.specs.Calls.{turn}
use Rattle.cmm_attempt.specs.Seizings.{held_set}
use Rattle.cmm_member.specs.Nodes.{NodeState}
use Rattle.status_report.specs.declared.entry.Entry.{Entry}
use Rattle.status_report.specs.declared.entry.Entry.TheVariants as entry
use Rattle.history.specs.Deeds.{Acked, Deed, Proposed, Started}
use Rattle.node_model.specs.declared.output.Output.{Output}
use Rattle.node_model.specs.declared.output.Output.TheVariants.{Tells, Sends}
use Rattle.refinement.specs.Courses.{Course}
use Rattle.refinement.specs.Courses.Course.{Acts, Falls as Course_falls, Keeps, Stops}
use Rattle.refinement.specs.Doings.{Act, Change, Doing}
use Rattle.refinement.specs.Doings.Act.{Gives, Makes}
use Rattle.refinement.specs.Doings.Change.{Acks, Proposes, Starts}
use Rattle.refinement.specs.Doings.Doing.{Comes_up, Does, Forgets, Goes_down, Loses, Saves}

-- a line of commands, calls, queries or addresses
abbrev pub IsMinor : Entry → Type 0
IsMinor (entry.Command e) = Unit {0}
IsMinor (entry.Call e) = Unit {0}
IsMinor (entry.Status e) = Unit {0}
IsMinor (entry.Address e) = Unit {0}
IsMinor _ = ⊥

abbrev pub AreMinor : List Output → Type 0
AreMinor [] = Unit {0}
AreMinor (Tells e ∷ os) = IsMinor e × AreMinor os
AreMinor (Sends to b ∷ os) = AreMinor os

-- What the guards of `refinement` do not say: an acknowledgement is of what is pending, and what is given besides are minor lines and messages.

abbrev pub IsPending : Change → Type 0
IsPending (Acks s p q left text) = s.saved.entries.pending ≡ Some text
IsPending _ = Unit {0}

abbrev pub ActSo : Act → Type 0
ActSo (Gives os) = AreMinor os
ActSo (Makes change) = IsPending change
ActSo _ = Unit {0}

abbrev pub GoesSo : Course → Type 0
GoesSo Stops = Unit {0}
GoesSo (Acts a rest) = ActSo a × GoesSo rest
GoesSo (Keeps change rest) = IsPending change × GoesSo rest
GoesSo (Course_falls why) = Unit {0}

abbrev pub DoingSo : Doing → Type 0
DoingSo Comes_up = Unit {0}
DoingSo (Goes_down why) = Unit {0}
DoingSo (Does a) = ActSo a
DoingSo (Saves change) = IsPending change
DoingSo (Loses change why) = IsPending change
DoingSo (Forgets change why) = IsPending change

abbrev pub AllSo : List Doing → Type 0
AllSo [] = Unit {0}
AllSo (d ∷ ds) = DoingSo d × AllSo ds

-- The deed of a small step. What is told before a save is told where the save is lost.

-- what is pending in the coordinator's record is of the base
abbrev pub base_of : NodeState → List (List ℕ)
base_of s = (all_committed s.saved.entries).committed

abbrev pub start_of : AttemptState → NodeState → Deed
start_of a s =
    Started (record { epoch = a.plan.epoch; members = a.plan.members; held = held_set a.devices; count = length (base_of s) }) (base_of s)

abbrev pub first_deed : Change → List Deed
first_deed (Proposes s p text) = Proposed (record { epoch = s.session; place = length (texts_of s.saved.entries) + 1; words = text }) ∷ []
first_deed _ = []

abbrev pub deed_in : Change → List Deed
deed_in (Starts a k s) = start_of (turn a k).after s ∷ []
deed_in (Proposes s p text) = Proposed (record { epoch = s.session; place = length (texts_of s.saved.entries) + 1; words = text }) ∷ []
deed_in (Acks s p q left text) = Acked (record { epoch = s.session; place = length (texts_of s.saved.entries); words = text }) ∷ []
deed_in _ = []

abbrev pub deed_of_act : Act → List Deed
deed_of_act (Makes change) = deed_in change
deed_of_act _ = []

abbrev pub deed_of : Doing → List Deed
deed_of Comes_up = []
deed_of (Goes_down why) = []
deed_of (Does a) = deed_of_act a
deed_of (Saves change) = deed_in change
deed_of (Loses change why) = first_deed change
deed_of (Forgets change why) = first_deed change

-- those of small steps one after another, newest first, on these
abbrev pub deeds_on : List Deed → List Doing → List Deed
deeds_on before [] = before
deeds_on before (d ∷ ds) = deeds_on (deed_of d ++ before) ds
