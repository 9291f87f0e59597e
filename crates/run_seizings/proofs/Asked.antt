-- What the small steps of a node ask.
use Rattle.std.specs.Prelude.{ℕ, ◌⊎◌, List, [], ◌∷◌}
use Rattle.std.specs.List.{AllByRecursion}
use Rattle.std.proofs.Common.{inr}
use Rattle.cl_base.specs.declared.header.Header.{Header}
use Rattle.node_model.specs.declared.cluster.Cluster.{Cluster}
use Rattle.node_model.specs.declared.node.Node.{Node}
use Rattle.node_model.specs.declared.node.Node.TheVariants.{Down, Up}
use Rattle.node_model.specs.declared.node.UpNode.{UpNode}
use Rattle.refinement.specs.Doings.{Act, Change, Doing, Site, effect}
use Rattle.refinement.specs.Doings.Act.{Accepts, Dates, Ends, Gives, Goes_on, Hears, Makes, Minds, Notes, Queues, Spreads, Stores, Takes, Ticks, Waits, Works, Writes}
use Rattle.refinement.specs.Doings.Change.{Acks, Admits, Commits, Counts, Distrusts, Installs, Leads, Prepares, Promises, Proposes, Sits, Starts}
use Rattle.refinement.specs.Doings.Doing.{Comes_up, Does, Forgets, Goes_down, Loses, Saves}
use Rattle.refinement.specs.Guards.{OfUp}
use Rattle.refinement.specs.Ties.{Delivered}
use Rattle.run_history.specs.Guards.{AtAct, AtAll, AtChange, AtDoing, Hand, hand_after}
use Rattle.run_seizings.proofs.Acts.{ActMay}
use Rattle.run_seizings.proofs.Promising.{ChangeMay}
use Rattle.run_seizings.proofs.Changes.{IsPromise, NoCollect}

-- ---- what each asks

abbrev pub SavesSo : Delivered → Change → Type 0
SavesSo told change = (IsPromise change) ⊎ NoCollect told

abbrev pub DoingMay : Header → ℕ → Delivered → Hand → Site → Doing → Type 0
DoingMay h me told g x (Does a) = OfUp (λ y. ActMay h me told g y a) x.node
DoingMay h me told g x (Saves change) = OfUp (λ y. ChangeMay h y change) x.node × SavesSo told change
DoingMay h me told g x _ = Unit {0}

abbrev pub AllMay : Header → Cluster → ℕ → Delivered → Hand → Site → List Doing → Type 0
AllMay h c me told g x [] = Unit {0}
AllMay h c me told g x (d ∷ ds) = DoingMay h me told g x d × AllMay h c me told (hand_after g d) (effect c me x d) ds

-- ---- what is asked of small steps that no answer of a device begins

act_may : (h : Header) (n : ℕ) (told : Delivered) (g : Hand) (x : UpNode) (a : Act) → AtAct n told g x a → ActMay h n told g x a
act_may h n told g x (Takes at command a) k = absurd k
act_may h n told g x (Hears from b) k = k
act_may h n told g x Ticks k = k
act_may h n told g x Waits k = k
act_may h n told g x (Goes_on a q) k = k
act_may h n told g x (Ends a e) k = k
act_may h n told g x (Queues a d kind) k = k
act_may h n told g x (Accepts kind e members d) k = k
act_may h n told g x (Stores d value a) k = k
act_may h n told g x (Writes to b) k = k
act_may h n told g x (Makes change) k = k
act_may h n told g x (Gives os) k = k
act_may h n told g x (Spreads receivers b) k = k
act_may h n told g x (Minds q p) k = k
act_may h n told g x (Notes from place p) k = k
act_may h n told g x (Dates now) k = k
act_may h n told g x (Works w) k = k

change_may : (h : Header) (x : UpNode) (ch : Change) → AtChange x ch → ChangeMay h x ch
change_may h x (Admits on command a d) k = absurd k
change_may h x (Promises p) k = k
change_may h x (Leads p members) k = k
change_may h x (Counts a q y i) k = k
change_may h x (Installs y i) k = k
change_may h x (Starts a q y) k = k
change_may h x (Sits y e) k = k
change_may h x (Distrusts d) k = k
change_may h x (Proposes y p text) k = k
change_may h x (Acks y p q left text) k = k
change_may h x (Prepares y text) k = k
change_may h x (Commits y) k = k

-- what is saved while a Collect is in hand is a promise
abbrev pub SavedSo : Delivered → Doing → Type 0
SavedSo told (Saves change) = SavesSo told change
SavedSo told _ = Unit {0}

of_up : (node : Node) (P Q : UpNode → Type 0) → ((x : UpNode) → P x → Q x) → OfUp P node → OfUp Q node
of_up Down P Q f k = k
of_up (Up x) P Q f k = f x k

doing_may : (h : Header) (n : ℕ) (told : Delivered) (g : Hand) (x : Site) (d : Doing) → AtDoing n told g x d → SavedSo told d → DoingMay h n told g x d
doing_may h n told g x (Does a) k saves = of_up x.node (λ y. AtAct n told g y a) (λ y. ActMay h n told g y a) (λ y q. act_may h n told g y a q) k
doing_may h n told g x (Saves ch) k saves = (of_up x.node (λ y. AtChange y ch) (λ y. ChangeMay h y ch) (λ y q. change_may h y ch q) k, saves)
doing_may h n told g x Comes_up k saves = tt
doing_may h n told g x (Goes_down why) k saves = tt
doing_may h n told g x (Loses ch why) k saves = tt
doing_may h n told g x (Forgets ch why) k saves = tt

pub all_may : (h : Header) (c : Cluster) (n : ℕ) (told : Delivered) (g : Hand) (x : Site) (ds : List Doing) → AtAll c n told g x ds
    → AllByRecursion (SavedSo told) ds → AllMay h c n told g x ds
all_may h c n told g x [] k saves = tt
all_may h c n told g x (d ∷ ds) k saves = (doing_may h n told g x d k.0 saves.0, all_may h c n told (hand_after g d) (effect c n x d) ds k.1 saves.1)

saved_calm : (told : Delivered) (d : Doing) → NoCollect told → SavedSo told d
saved_calm told (Saves ch) calm = inr calm
saved_calm told Comes_up calm = tt
saved_calm told (Goes_down why) calm = tt
saved_calm told (Does a) calm = tt
saved_calm told (Loses ch why) calm = tt
saved_calm told (Forgets ch why) calm = tt

pub all_calm : (told : Delivered) (ds : List Doing) → NoCollect told → AllByRecursion (SavedSo told) ds
all_calm told [] calm = tt
all_calm told (d ∷ ds) calm = (saved_calm told d calm, all_calm told ds calm)
