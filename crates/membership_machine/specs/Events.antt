-- The events, when each may come, and what it does. A run is any list of events each of which may come where it stands.
-- A node that goes down inside a save is the event followed by Crash, where the new text is durable, or Crash alone, where it is not.
use Rattle.std.specs.Prelude.{ℕ, ◌≡◌, ◌≢◌, ◌<◌, ◌≤◌, Bool, true, false, List, [], ◌∷◌, length, take, slice_get, Some}
use Rattle.machine_base.specs.Put.{put}
use Rattle.machine_base.specs.Epochs.{coordinator}
use Rattle.membership_machine.specs.Records.{Update, Saved, IsBehind}
use Rattle.membership_machine.specs.Votes.{Setting, IsMajority}
use Rattle.membership_machine.specs.State.{Node, Epoch, Memberships}
use Rattle.membership_machine.specs.Steps.{promising, installing, joining, appending, committing, crashing, beginning, counting, starting, proposing, acknowledging}

-- An epoch in an event is that of the attempt or membership meant; where no node is named, its coordinator acts.
pub data Event : Type 0 where
  -- the coordinator of q begins an attempt among these nodes
  Begin : (q : ℕ) (members : ℕ → Bool) → Event
  -- node m handles the Collect of q
  Promise : (m q : ℕ) → Event
  -- with every Promise in hand, node n's record being the newest, and these devices held, the coordinator counts a majority and installs
  Count : (q n : ℕ) (devices : ℕ → Bool) → Event
  -- node m handles the Install of q
  Install : (m q : ℕ) → Event
  -- with every Ready in hand the coordinator starts the membership
  Start : (q : ℕ) → Event
  -- node m handles the Start of q
  Join : (m q : ℕ) → Event
  -- the president of q proposes an update and saves it as pending
  Propose : (q : ℕ) (u : Update) → Event
  -- the president of q proposes an update and goes down before it is saved
  Propose_lost : (q : ℕ) (u : Update) → Event
  -- node m handles a Prepare of q with this update at the next place
  Prepare : (m q : ℕ) (u : Update) → Event
  -- with every Prepared in hand the president of q acknowledges what it proposed
  Acknowledge : (q : ℕ) → Event
  -- node m handles a Commit of q for the last place that it has
  Commit : (m q : ℕ) → Event
  -- node m goes down
  Crash : (m : ℕ) → Event

abbrev pub at_node : Memberships → ℕ → Node → Memberships
at_node w m n = record w { node = put w.node m n }

abbrev pub at_both : Memberships → ℕ → Node → ℕ → Epoch → Memberships
at_both w m n q e = record { node = put w.node m n; epoch = put w.epoch q e }

-- Attempt q may be counted with these devices: they and its members are a majority under the committed updates of the newest record,
-- and under all its updates with the pending one. Both are asked for, since a vote change that is pending may or may not be acknowledged.
pub record IsCounted (S : Setting) (newest : Saved) (members devices : ℕ → Bool) : Type 0 where
  pub under_committed : IsMajority S (S.config (take newest.committed newest.entries)) members devices
  pub under_pending : IsMajority S (S.config newest.entries) members devices

-- every member of q answered, and node n, one of them, showed a record that none exceeds
pub record HasNewest (w : Memberships) (q n : ℕ) : Type 0 where
  pub all_answered : (m : ℕ) → (w.epoch q).members m ≡ true → (w.node m).answered q ≡ true
  pub of_member : (w.epoch q).members n ≡ true
  pub none_newer : (m : ℕ) → (w.epoch q).members m ≡ true → IsBehind ((w.node m).showed q) ((w.node n).showed q)

-- every member of q installed its record
abbrev pub AllReady : Memberships → ℕ → Type 0
AllReady w q = (m : ℕ) → (w.epoch q).members m ≡ true → (w.node m).ready q ≡ true

-- every member of q has saved all that was proposed in it
abbrev pub AllPrepared : Memberships → ℕ → Type 0
AllPrepared w q = (m : ℕ) → (w.epoch q).members m ≡ true → length (w.epoch q).log ≤ (w.node m).reached q

-- node n is a member in session q
abbrev pub Sits : Node → ℕ → Type 0
Sits n q = (n.member ≡ true) × (n.session ≡ q)

abbrev pub Allowed : Setting → Memberships → Event → Type 0
-- the number is the coordinator's own, above its promise, and it is among its nodes
Allowed S w (Begin q members) = ((w.node (coordinator q)).promised < q) × (members (coordinator q) ≡ true)
Allowed S w (Promise m q) = ((w.epoch q).tried ≡ true) × ((w.node m).promised < q)
Allowed S w (Count q n devices) =
    ((w.node (coordinator q)).session ≡ q) × ((w.node (coordinator q)).seeking ≡ true)
    × HasNewest w q n × IsCounted S ((w.node n).showed q) (w.epoch q).members devices
-- in its session, and not installed before: what came between would be undone
Allowed S w (Install m q) =
    ((w.epoch q).counted ≡ true) × ((w.epoch q).members m ≡ true)
    × ((w.node m).session ≡ q) × ((w.node m).saved.installed < q)
Allowed S w (Start q) =
    ((w.epoch q).counted ≡ true) × ((w.node (coordinator q)).session ≡ q) × ((w.node (coordinator q)).member ≡ false) × AllReady w q
Allowed S w (Join m q) =
    ((w.epoch q).started ≡ true) × ((w.node m).session ≡ q) × ((w.node m).saved.installed ≡ q) × ((w.node m).member ≡ false)
-- one update at a time: nothing is pending at the president
Allowed S w (Propose q u) =
    Sits (w.node (coordinator q)) q × ((w.node (coordinator q)).saved.committed ≡ length (w.node (coordinator q)).saved.entries)
Allowed S w (Propose_lost q u) =
    Sits (w.node (coordinator q)) q × ((w.node (coordinator q)).saved.committed ≡ length (w.node (coordinator q)).saved.entries)
Allowed S w (Prepare m q u) =
    Sits (w.node m) q × (m ≢ coordinator q) × (slice_get (w.epoch q).log (length (w.node m).saved.entries) ≡ Some u)
Allowed S w (Acknowledge q) = Sits (w.node (coordinator q)) q × AllPrepared w q
Allowed S w (Commit m q) = Sits (w.node m) q × (m ≢ coordinator q) × (length (w.node m).saved.entries ≤ (w.epoch q).acked)
Allowed S w (Crash m) = Unit

abbrev pub after : Memberships → Event → Memberships
after w (Begin q members) = at_both w (coordinator q) (promising (w.node (coordinator q)) q true) q (beginning (w.epoch q) members)
after w (Promise m q) = at_node w m (promising (w.node m) q false)
after w (Count q n devices) =
    at_both w (coordinator q) (installing (w.node (coordinator q)) q ((w.node n).showed q).entries ((w.node n).showed q).committed) q (counting (w.epoch q) n devices ((w.node n).showed q))
after w (Install m q) = at_node w m (installing (w.node m) q (w.epoch q).base (w.epoch q).settled)
after w (Start q) = at_both w (coordinator q) (joining (w.node (coordinator q))) q (starting (w.epoch q))
after w (Join m q) = at_node w m (joining (w.node m))
after w (Propose q u) = at_both w (coordinator q) (appending (w.node (coordinator q)) q u) q (proposing (w.epoch q) u)
after w (Propose_lost q u) = at_both w (coordinator q) (crashing (w.node (coordinator q))) q (proposing (w.epoch q) u)
after w (Prepare m q u) = at_node w m (appending (w.node m) q u)
after w (Acknowledge q) = at_both w (coordinator q) (committing (w.node (coordinator q))) q (acknowledging (w.epoch q))
after w (Commit m q) = at_node w m (committing (w.node m))
after w (Crash m) = at_node w m (crashing (w.node m))

-- v is reached from w by these events
abbrev pub Run : Setting → Memberships → List Event → Memberships → Type 0
Run S w [] v = v ≡ w
Run S w (e ∷ es) v = Allowed S w e × Run S (after w e) es v
