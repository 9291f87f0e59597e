-- Which events of the machine of memberships a small step is.
use Rattle.std.specs.Prelude.{ℕ, List, [], ◌∷◌, ◌++◌}
use Rattle.cmm_attempt.specs.Calls.{turn}
use Rattle.membership_machine.specs.Events.{Acknowledge, Begin, Commit, Count, Crash, Event, Install, Join, Prepare, Promise, Propose, Propose_lost, Start}
use Rattle.attempt_laws.specs.Laws.{is_held_in}
use Rattle.attempt_laws.specs.Machine.{is_member}
use Rattle.refinement.specs.Doings.{Act, Change, Doing}
use Rattle.refinement.specs.Doings.Act.{Makes}
use Rattle.refinement.specs.Doings.Change.{Acks, Admits, Commits, Counts, Distrusts, Installs, Leads, Prepares, Promises, Proposes, Sits, Starts}
use Rattle.refinement.specs.Doings.Doing.{Comes_up, Does, Forgets, Goes_down, Loses, Saves}

abbrev pub of_change : ℕ → Change → List Event
of_change me (Promises p) = Promise me p ∷ []
of_change me (Leads p members) = Begin p (is_member members) ∷ []
of_change me (Counts a k s i) = Count (turn a k).after.plan.epoch (turn a k).after.newest (is_held_in (turn a k).after.devices) ∷ []
of_change me (Installs s i) = Install me i.epoch ∷ []
of_change me (Starts a k s) = Start (turn a k).after.plan.epoch ∷ []
of_change me (Sits s e) = Join me e ∷ []
of_change me (Distrusts d) = []
of_change me (Admits at command a d) = []
of_change me (Proposes s p text) = Propose s.session text ∷ []
of_change me (Acks s p q left text) = Acknowledge s.session ∷ []
of_change me (Prepares s text) = Prepare me s.session text ∷ []
of_change me (Commits s) = Commit me s.session ∷ []

-- where the save has left the old record: what was told before it stays so
abbrev pub of_forgotten : ℕ → Change → List Event
of_forgotten me (Proposes s p text) = Propose_lost s.session text ∷ []
of_forgotten me _ = Crash me ∷ []

abbrev pub of_act : ℕ → Act → List Event
of_act me (Makes change) = of_change me change
of_act me _ = []

abbrev pub of_doing : ℕ → Doing → List Event
of_doing me Comes_up = []
of_doing me (Goes_down why) = Crash me ∷ []
of_doing me (Does a) = of_act me a
of_doing me (Saves change) = of_change me change
of_doing me (Loses change why) = of_change me change ++ Crash me ∷ []
of_doing me (Forgets change why) = of_forgotten me change

abbrev pub of_doings : ℕ → List Doing → List Event
of_doings me [] = []
of_doings me (d ∷ ds) = of_doing me d ++ of_doings me ds
