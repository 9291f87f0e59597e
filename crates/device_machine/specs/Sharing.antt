-- The whole machine of one device: the events, when each may come, and what it does. A run is any list of events each of which may
-- come where it stands. Each event is one command at the device, or one step of a node between commands.
--
-- A command is done and answered, or refused (then the task goes on or ends as its rule says), or it fails: not done, which is Fail or Late,
-- or done while its answer is lost, which is the event's twin in `_lost`. A node that goes down inside a save is the event followed by Crash,
-- where the new text is durable, or Crash alone, where it is not.
use Rattle.std.specs.Prelude.{ℕ, Bool, true, false, ◌≡◌, ◌<◌, ◌≤◌, ◌⊎◌, List, [], ◌∷◌}
use Rattle.machine_base.specs.Put.{put}
use Rattle.device_machine.specs.Phase.{Phase, IsSeizing, IsJoining, AsksWord}
use Rattle.device_machine.specs.Device.{Device, LetsWrite, registering, wording, reserving, preempting, storing, first_device}
use Rattle.device_machine.specs.Initiator.{Initiator, first_initiator, promising, crashing, to_phase, seizing, unvalidated, expecting, marking, marking_lost, aiming, holding, rejecting, ending, installing, admitted, joining}
use Rattle.device_machine.specs.Attempt.{Attempt, no_attempt, collecting, asking_node, holding_for, counting}

pub record Sharing : Type 0 where
  pub node : ℕ → Initiator
  pub attempt : ℕ → Attempt
  pub device : Device
  -- the greatest number for which a seizing ended held, or 0
  pub top : ℕ

-- Where the device has votes, the nodes attached to it are registered and validated at first; else no node is.
abbrev pub first_sharing : (ℕ → Bool) → Sharing
first_sharing registered = record { node = λ n. first_initiator (registered n); attempt = λ _. no_attempt; device = first_device registered; top = 0 }

-- Where an event names a node alone, the attempt is that of its session.
pub data Event : Type 0 where
  -- node n promises attempt q
  Promise : (n q : ℕ) → Event
  -- node n goes down
  Crash : (n : ℕ) → Event
  -- attempt q has the promises of all of its members
  Collected : (q : ℕ) (members : ℕ → Bool) → Event
  -- attempt q asks node n to seize the device, as a quorum device or as one without votes
  Ask : (q n : ℕ) (quorum : Bool) → Event
  -- node n begins to seize
  Seize : (n : ℕ) → Event
  -- quorum device: it reads its own key, which is validated
  Check : (n : ℕ) → Event
  -- quorum device: its own key is absent, or not validated
  Reject : (n : ℕ) → Event
  -- no votes: its record says that the key is not validated
  Distrust : (n : ℕ) → Event
  -- no votes: it registers
  Register : (n : ℕ) → Event
  Register_lost : (n : ℕ) → Event
  -- it is told a word below its session, or its session
  Word_less : (n : ℕ) → Event
  Word_same : (n : ℕ) → Event
  -- it swaps the word for its session
  Swap : (n : ℕ) → Event
  Swap_lost : (n : ℕ) → Event
  -- it reserves
  Reserve : (n : ℕ) → Event
  Reserve_lost : (n : ℕ) → Event
  -- it reads the keys: there is that of k, no member
  Look : (n k : ℕ) → Event
  -- it preempts that key
  Preempt : (n : ℕ) → Event
  Preempt_lost : (n : ℕ) → Event
  -- it reads the keys: its own, and besides members' alone
  Clear : (n : ℕ) → Event
  -- it reads the word, which is still its session: the device is held
  Confirm : (n : ℕ) → Event
  -- its seizing ends: greater word, expelled, contended, or a fault
  Fail : (n : ℕ) → Event
  -- attempt q counts a majority, and holds the device, or does without it (what a majority is, is no concern of one device)
  Count_with : (q : ℕ) → Event
  Count_without : (q : ℕ) → Event
  -- node n installs, and joins nothing
  Install_apart : (n : ℕ) → Event
  -- .. and has joined, as the seizer
  Install_seizer : (n : ℕ) → Event
  -- .. and has joined, its key being validated
  Install_known : (n : ℕ) → Event
  -- .. and begins to join
  Install_new : (n : ℕ) → Event
  -- joining, it registers
  Enter : (n : ℕ) → Event
  Enter_lost : (n : ℕ) → Event
  -- joining, it reads the word, which is its session
  Admit : (n : ℕ) → Event
  -- its joining ends: another word, or a fault
  Late : (n : ℕ) → Event
  -- having joined, it writes x, and the device takes it, be that answered or lost
  Write : (n x : ℕ) → Event

-- node n is in a session, and a member of that attempt, whose members all promised
abbrev pub InSession : Sharing → ℕ → Type 0
InSession s n =
    (0 < (s.node n).session) × ((s.attempt (s.node n).session).collected ≡ true) × ((s.attempt (s.node n).session).members n ≡ true)

-- node n may install the attempt of its session, which it has not done yet
abbrev pub MayInstall : Sharing → ℕ → Type 0
MayInstall s n =
    (0 < (s.node n).session) × ((s.attempt (s.node n).session).counted ≡ true)
    × ((s.attempt (s.node n).session).members n ≡ true) × ((s.node n).installed < (s.node n).session)

-- no one was asked for attempt q, or the one asked last ended its seizing
abbrev pub AllAnswered : Sharing → ℕ → Type 0
AllAnswered s q = ((s.attempt q).asking ≡ false) ⊎ ((s.node (s.attempt q).seizer).past.ended q ≡ true)

-- node n joined the device in the membership that it installed in this session, and the device lets it write
abbrev pub Writes : Sharing → ℕ → Type 0
Writes s n = ((s.node n).joined ≡ true) × LetsWrite s.device n

abbrev pub Allowed : Sharing → Event → Type 0
Allowed s (Promise n q) = (s.node n).promised < q
Allowed s (Crash n) = Unit
Allowed s (Collected q members) =
    (0 < q) × ((s.attempt q).collected ≡ false) × ((m : ℕ) → members m ≡ true → q ≤ (s.node m).promised)
-- one node at a time: another is asked only after the last one ended not-registered, and as a quorum device again
Allowed s (Ask q n quorum) =
    ((s.attempt q).collected ≡ true) × ((s.attempt q).counted ≡ false) × ((s.attempt q).members n ≡ true) × ((s.attempt q).asked n ≡ false)
    × (((s.attempt q).asking ≡ false) ⊎ (((s.node (s.attempt q).seizer).past.unregistered q ≡ true) × ((s.attempt q).quorum ≡ quorum)))
-- nothing was begun in this session, and the attempt is not installed
Allowed s (Seize n) =
    InSession s n × ((s.attempt (s.node n).session).asked n ≡ true) × ((s.node n).installed < (s.node n).session) × ((s.node n).phase ≡ Phase.Idle)
Allowed s (Check n) =
    ((s.node n).phase ≡ Phase.Asked) × ((s.node n).quorum ≡ true) × (s.device.keys n ≡ true) × ((s.node n).valid ≡ true)
Allowed s (Reject n) =
    ((s.node n).phase ≡ Phase.Asked) × ((s.node n).quorum ≡ true) × ((s.device.keys n ≡ false) ⊎ ((s.node n).valid ≡ false))
Allowed s (Distrust n) = ((s.node n).phase ≡ Phase.Asked) × ((s.node n).quorum ≡ false)
Allowed s (Register n) = (s.node n).phase ≡ Phase.Untrusted
Allowed s (Register_lost n) = (s.node n).phase ≡ Phase.Untrusted
Allowed s (Word_less n) = AsksWord (s.node n).phase × (s.device.word < (s.node n).session)
Allowed s (Word_same n) = AsksWord (s.node n).phase × (s.device.word ≡ (s.node n).session)
Allowed s (Swap n) = ((s.node n).phase ≡ Phase.Swapping) × (s.device.word ≡ (s.node n).expected) × LetsWrite s.device n
Allowed s (Swap_lost n) = ((s.node n).phase ≡ Phase.Swapping) × (s.device.word ≡ (s.node n).expected) × LetsWrite s.device n
Allowed s (Reserve n) = (s.node n).phase ≡ Phase.Marked
Allowed s (Reserve_lost n) = (s.node n).phase ≡ Phase.Marked
Allowed s (Look n k) =
    ((s.node n).phase ≡ Phase.Reserved) × (s.device.keys n ≡ true) × (s.device.keys k ≡ true) × ((s.attempt (s.node n).session).members k ≡ false)
Allowed s (Preempt n) = (s.node n).phase ≡ Phase.Preempting
Allowed s (Preempt_lost n) = (s.node n).phase ≡ Phase.Preempting
-- the last reading of the keys shows members' alone ..
Allowed s (Clear n) =
    ((s.node n).phase ≡ Phase.Reserved) × (s.device.keys n ≡ true)
    × ((k : ℕ) → s.device.keys k ≡ true → (s.attempt (s.node n).session).members k ≡ true)
-- .. and the word read after it is equal
Allowed s (Confirm n) = ((s.node n).phase ≡ Phase.Cleared) × (s.device.word ≡ (s.node n).session)
Allowed s (Fail n) = IsSeizing (s.node n).phase
Allowed s (Count_with q) =
    ((s.attempt q).collected ≡ true) × ((s.attempt q).counted ≡ false) × ((s.attempt q).asking ≡ true)
    × ((s.node (s.attempt q).seizer).past.seized q ≡ true)
-- whoever was asked has answered, so no seizing for the attempt goes on after its votes are counted
Allowed s (Count_without q) = ((s.attempt q).collected ≡ true) × ((s.attempt q).counted ≡ false) × AllAnswered s q
Allowed s (Install_apart n) = MayInstall s n
Allowed s (Install_seizer n) =
    MayInstall s n × ((s.attempt (s.node n).session).holds ≡ true) × ((s.attempt (s.node n).session).seizer ≡ n)
-- that its key was seen in the last reading is a rule too, which the laws do without
Allowed s (Install_known n) = MayInstall s n × ((s.attempt (s.node n).session).holds ≡ true) × ((s.node n).valid ≡ true)
Allowed s (Install_new n) = MayInstall s n × ((s.attempt (s.node n).session).holds ≡ true)
Allowed s (Enter n) = (s.node n).phase ≡ Phase.Joining
Allowed s (Enter_lost n) = (s.node n).phase ≡ Phase.Joining
Allowed s (Admit n) = ((s.node n).phase ≡ Phase.Entered) × (s.device.word ≡ (s.node n).session)
Allowed s (Late n) = IsJoining (s.node n).phase
Allowed s (Write n x) = Writes s n

abbrev pub at_node : Sharing → ℕ → Initiator → Sharing
at_node s n v = record s { node = put s.node n v }

abbrev pub at_device : Sharing → ℕ → Initiator → Device → Sharing
at_device s n v d = record s { node = put s.node n v; device = d }

abbrev pub at_attempt : Sharing → ℕ → Attempt → Sharing
at_attempt s q e = record s { attempt = put s.attempt q e }

-- node n holds the device for the attempt of its session
abbrev pub at_held : Sharing → ℕ → Sharing
at_held s n =
    record s {
      node = put s.node n (holding (s.node n));
      attempt = put s.attempt (s.node n).session (holding_for (s.attempt (s.node n).session));
      top = (s.node n).session;
    }

abbrev pub after : Sharing → Event → Sharing
after s (Promise n q) = at_node s n (promising (s.node n) q)
after s (Crash n) = at_node s n (crashing (s.node n))
after s (Collected q members) = at_attempt s q (collecting (s.attempt q) members)
after s (Ask q n quorum) = at_attempt s q (asking_node (s.attempt q) n quorum)
after s (Seize n) = at_node s n (seizing (s.node n) (s.attempt (s.node n).session).quorum)
after s (Check n) = at_node s n (to_phase (s.node n) Phase.Keyed)
after s (Reject n) = at_node s n (rejecting (s.node n))
after s (Distrust n) = at_node s n (unvalidated (s.node n))
after s (Register n) = at_device s n (to_phase (s.node n) Phase.Keyed) (registering s.device n)
after s (Register_lost n) = at_device s n (ending (s.node n)) (registering s.device n)
after s (Word_less n) = at_node s n (expecting (s.node n) s.device.word)
after s (Word_same n) = at_node s n (to_phase (s.node n) Phase.Marked)
after s (Swap n) = at_device s n (marking (s.node n)) (wording s.device (s.node n).session)
after s (Swap_lost n) = at_device s n (marking_lost (s.node n)) (wording s.device (s.node n).session)
after s (Reserve n) = at_device s n (to_phase (s.node n) Phase.Reserved) (reserving s.device n)
after s (Reserve_lost n) = at_device s n (ending (s.node n)) (reserving s.device n)
after s (Look n k) = at_node s n (aiming (s.node n) k)
after s (Preempt n) = at_device s n (to_phase (s.node n) Phase.Reserved) (preempting s.device n (s.node n).target)
after s (Preempt_lost n) = at_device s n (ending (s.node n)) (preempting s.device n (s.node n).target)
after s (Clear n) = at_node s n (to_phase (s.node n) Phase.Cleared)
after s (Confirm n) = at_held s n
after s (Fail n) = at_node s n (ending (s.node n))
after s (Count_with q) = at_attempt s q (counting (s.attempt q) true)
after s (Count_without q) = at_attempt s q (counting (s.attempt q) false)
after s (Install_apart n) = at_node s n (installing (s.node n))
after s (Install_seizer n) = at_node s n (admitted (installing (s.node n)))
after s (Install_known n) = at_node s n (admitted (installing (s.node n)))
after s (Install_new n) = at_node s n (joining (s.node n))
after s (Enter n) = at_device s n (to_phase (s.node n) Phase.Entered) (registering s.device n)
after s (Enter_lost n) = at_device s n (to_phase (s.node n) Phase.Over) (registering s.device n)
after s (Admit n) = at_node s n (admitted (s.node n))
after s (Late n) = at_node s n (to_phase (s.node n) Phase.Over)
after s (Write n x) = record s { device = storing s.device x }

-- t is reached from s by these events
abbrev pub Run : Sharing → List Event → Sharing → Type 0
Run s [] t = t ≡ s
Run s (e ∷ es) t = Allowed s e × Run (after s e) es t
