-- Whose doing the lines of a step are, and what the guards of `refinement` do not say of that and of proposals.
use Rattle.std.specs.Prelude.{ℕ, ◌≡◌, true, List, [], ◌∷◌, Some}
use Rattle.history.specs.Messages.{actor_of, is_of}
use Rattle.history.specs.Moment.{Told}
use Rattle.node_model.specs.Presidents.{next_place, others_of}
use Rattle.node_model.specs.Seats.{session_of}
use Rattle.node_model.specs.declared.cluster.Cluster.{Cluster}
use Rattle.node_model.specs.declared.node.UpNode.{UpNode}
use Rattle.node_model.specs.declared.output.Output.{Output}
use Rattle.node_model.specs.declared.output.Output.TheVariants.{Sends, Tells}
use Rattle.refinement.specs.Courses.{Course}
use Rattle.refinement.specs.Courses.Course.{Acts, Falls, Keeps, Stops}
use Rattle.refinement.specs.Doings.{Act, Change, Doing, Site, acted, changed, effect}
use Rattle.refinement.specs.Doings.Act.{Ends, Gives, Makes, Spreads}
use Rattle.refinement.specs.Doings.Change.{Proposes}
use Rattle.refinement.specs.Doings.Doing.{Does, Saves}
use Rattle.refinement.specs.Guards.{OfUp}
use Rattle.status_report.specs.declared.entry.Entry.{Entry}
use Rattle.status_report.specs.declared.entry.Entry.TheVariants as entry
use Rattle.status_report.specs.declared.update_entry.UpdateEntry.TheVariants as update
use Rattle.wire.specs.declared.message.Body.{Body}
use Rattle.wire.specs.declared.message.Body.TheVariants as body

-- the entry is node n's, or nobody's, and no proposal
abbrev pub IsOf : ℕ → Entry → Type 0
IsOf n (entry.Update (update.Proposed e v text)) = ⊥
IsOf n e = is_of n (actor_of (Told e)) ≡ true

-- so is each line that these outputs tell
abbrev pub AreOf : ℕ → List Output → Type 0
AreOf n [] = Unit {0}
AreOf n (Tells e ∷ os) = IsOf n e × AreOf n os
AreOf n (Sends to b ∷ os) = AreOf n os

-- ---- courses

abbrev pub NoProposal : Change → Type 0
NoProposal (Proposes s p text) = ⊥
NoProposal _ = Unit {0}

-- an attempt that ends is the one that the node has, what is told besides is of the node, and each proposal is saved
abbrev pub ActIs : ℕ → UpNode → Act → Type 0
ActIs n x (Ends a why) = x.attempt ≡ Some a
ActIs n x (Gives os) = AreOf n os
ActIs n x (Makes change) = NoProposal change
ActIs n x _ = Unit {0}

-- the Prepares of this text, to the other members
abbrev pub ArePrepares : ℕ → UpNode → List ℕ → ℕ → Body → Type 0
ArePrepares n x text receivers b = (receivers ≡ others_of n x) × (b ≡ body.Prepare (session_of x) (next_place x) text)

-- once a proposal is saved, its Prepares are sent
abbrev pub Follows : ℕ → UpNode → Change → Course → Type 0
Follows n x (Proposes s p text) (Acts (Spreads receivers b) rest) = ArePrepares n x text receivers b
Follows n x (Proposes s p text) rest = ⊥
Follows n x _ rest = Unit {0}

abbrev pub GoesOwn : Cluster → ℕ → UpNode → Course → Type 0
GoesOwn c n x Stops = Unit {0}
GoesOwn c n x (Acts a rest) = ActIs n x a × GoesOwn c n (acted c n x a) rest
GoesOwn c n x (Keeps change rest) = Follows n x change rest × GoesOwn c n (changed c n x change) rest
GoesOwn c n x (Falls why) = Unit {0}

-- ---- small steps

abbrev pub FollowsIn : ℕ → UpNode → Change → List Doing → Type 0
FollowsIn n x (Proposes s p text) (Does (Spreads receivers b) ∷ ds) = ArePrepares n x text receivers b
FollowsIn n x (Proposes s p text) ds = ⊥
FollowsIn n x _ ds = Unit {0}

abbrev pub DoingIs : ℕ → Site → Doing → List Doing → Type 0
DoingIs n x (Does a) ds = OfUp (λ y. ActIs n y a) x.node
DoingIs n x (Saves change) ds = OfUp (λ y. FollowsIn n y change ds) x.node
DoingIs n x _ ds = Unit {0}

-- .. one after another
abbrev pub AllDoOwn : Cluster → ℕ → Site → List Doing → Type 0
AllDoOwn c n x [] = Unit {0}
AllDoOwn c n x (d ∷ ds) = DoingIs n x d ds × AllDoOwn c n (effect c n x d) ds
