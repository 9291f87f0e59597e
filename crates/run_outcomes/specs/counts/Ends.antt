-- What the guards of `refinement` do not say of ends: the attempt that ends is the node's own, as its last call left it, and that call gave the end.
use Rattle.std.specs.Prelude.{ℕ, ◌≡◌, List, [], ◌∷◌, Option, None, Some}
use Rattle.cmm_attempt.specs.Attempts.{AttemptState}
use Rattle.cmm_attempt.specs.Calls.{Call, end_in, turn}
use Rattle.cmm_attempt.specs.declared.step.AttemptEnd.{AttemptEnd}
use Rattle.node_model.specs.declared.cluster.Cluster.{Cluster}
use Rattle.node_model.specs.declared.node.UpNode.{UpNode}
use Rattle.refinement.specs.Courses.{Course}
use Rattle.refinement.specs.Courses.Course.{Acts, Falls, Keeps, Stops}
use Rattle.refinement.specs.Doings.{Act, Change, Doing, Site, acted, changed, effect}
use Rattle.refinement.specs.Doings.Act.{Ends, Goes_on, Makes, Queues, Writes}
use Rattle.refinement.specs.Doings.Change.{Counts, Starts}
use Rattle.refinement.specs.Doings.Doing.{Does, Saves}
use Rattle.refinement.specs.Guards.{OfUp}

-- the last call of the node's attempt, whose steps are done, and the attempt that took it
abbrev pub Last : Type 0
Last = Option (AttemptState × Call)

abbrev pub last_by_change : Last → Change → Last
last_by_change last (Counts a k s i) = Some (a, k)
last_by_change last (Starts a k s) = Some (a, k)
last_by_change last _ = None

abbrev pub last_by : Last → Act → Last
last_by last (Goes_on a k) = Some (a, k)
last_by last (Queues a d kind) = last
last_by last (Writes to b) = last
last_by last (Makes change) = last_by_change last change
last_by last _ = None

-- the last call has left the attempt so, and gave this end
abbrev pub IsGivenBy : Last → AttemptState → AttemptEnd → Type 0
IsGivenBy None a why = ⊥
IsGivenBy (Some l) a why = (a ≡ (turn l.0 l.1).after) × (end_in (turn l.0 l.1).steps ≡ Some why)

abbrev pub ActFits : Last → UpNode → Act → Type 0
ActFits last x (Ends a why) = (x.attempt ≡ Some a) × IsGivenBy last a why
ActFits last x _ = Unit {0}

abbrev pub GoesFit : Cluster → ℕ → Last → UpNode → Course → Type 0
GoesFit c me last x Stops = Unit {0}
GoesFit c me last x (Acts a rest) = ActFits last x a × GoesFit c me (last_by last a) (acted c me x a) rest
GoesFit c me last x (Keeps change rest) = Unit {0} × GoesFit c me (last_by_change last change) (changed c me x change) rest
GoesFit c me last x (Falls why) = Unit {0}

abbrev pub DoingFits : Last → Site → Doing → Type 0
DoingFits last x (Does a) = OfUp (λ y. ActFits last y a) x.node
DoingFits last x _ = Unit {0}

abbrev pub last_after : Last → Doing → Last
last_after last (Does a) = last_by last a
last_after last (Saves change) = last_by_change last change
last_after last _ = None

abbrev pub AllFit : Cluster → ℕ → Last → Site → List Doing → Type 0
AllFit c me last x [] = Unit {0}
AllFit c me last x (d ∷ ds) = DoingFits last x d × AllFit c me (last_after last d) (effect c me x d) ds
