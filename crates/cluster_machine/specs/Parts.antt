-- What holds of the whole after every list of events, in nine parts.
use Rattle.std.specs.Prelude.{ℕ, ◌≡◌, ◌<◌, ◌≤◌, ◌⊎◌, Bool, true, false, take}
use Rattle.machine_base.specs.Epochs.{coordinator}
use Rattle.membership_machine.specs.Votes.{Votes, Setting}
use Rattle.membership_machine.specs.State.{Epoch}
use Rattle.membership_machine.specs.Events as membership
use Rattle.membership_machine.specs.Parts as inside
use Rattle.membership_machine.specs.Parts.{ShareMember}
use Rattle.device_machine.specs.Phase.{Phase}
use Rattle.device_machine.specs.Sharing as sharing
use Rattle.device_machine.specs.Sharing.{Sharing}
use Rattle.cluster_machine.specs.Cluster.{Cluster, Event, Allowed, after}

-- 1. What a node has promised on disk only rises, and its installed epoch is never above it. A session is the promise or none (0).
-- Of a member the promise, the session and the installed epoch are one number, which started.
pub record PromisesHold (S : Setting) (w : Cluster) : Type 0 where
  pub never_falls : (e : Event) (m : ℕ) → Allowed S w e → (w.memberships.node m).promised ≤ ((after w e).memberships.node m).promised
  pub memberships : inside.PromisesHold S w.memberships

-- 2. No number is attempted twice: only its coordinator may begin it, and has it on disk as its promise before it does.
pub record AttemptsDiffer (S : Setting) (w : Cluster) : Type 0 where
  pub promised : (q : ℕ) → (w.memberships.epoch q).tried ≡ true → q ≤ (w.memberships.node (coordinator q)).promised
  pub once : (q : ℕ) (members : ℕ → Bool) → (w.memberships.epoch q).tried ≡ true → membership.Allowed S w.memberships (membership.Begin q members) → ⊥

-- 3. The epoch word of a device only rises. It is 0 until an attempt writes its number there, and for each number only one node does.
pub record WordsHold (S : Setting) (w : Cluster) : Type 0 where
  pub never_falls : (e : Event) (d : ℕ) → Allowed S w e → (w.device d).device.word ≤ ((after w e).device d).device.word
  pub of_attempt : (d : ℕ) → ((w.device d).device.word ≡ 0) ⊎ ((w.memberships.epoch (w.device d).device.word).tried ≡ true)
  pub one_writer : (d q n m : ℕ) → ((w.device d).node n).past.wrote q ≡ true → ((w.device d).node m).past.wrote q ≡ true → n ≡ m

-- 4. A reservation of type 5h stays once it is there, with a registered holder; and it is there once a seizing has ended held.
pub record ReservationsHold (S : Setting) (w : Cluster) : Type 0 where
  pub stays : (e : Event) (d : ℕ) → Allowed S w e → (w.device d).device.reserved ≡ true → ((after w e).device d).device.reserved ≡ true
  pub holder : (d : ℕ) → (w.device d).device.reserved ≡ true → (w.device d).device.keys (w.device d).device.holder ≡ true
  pub held : (d q : ℕ) → ((w.device d).attempt q).held ≡ true → (w.device d).device.reserved ≡ true

-- 5. A node begins no second seizing and no second joining of a device in a session, however often it is asked; and once it has
-- joined, nothing is left to do in its queue for that device.
pub record TasksHold (w : Cluster) : Type 0 where
  pub one_seizing : (d n q : ℕ) → ((w.device d).node n).past.seizings q ≤ 1
  pub one_joining : (d n q : ℕ) → ((w.device d).node n).past.joinings q ≤ 1
  pub no_second_seizing : (d n : ℕ) → 0 < ((w.device d).node n).past.seizings ((w.device d).node n).session → sharing.Allowed (w.device d) (sharing.Seize n) → ⊥
  pub no_second_joining : (d n : ℕ) → 0 < ((w.device d).node n).past.joinings ((w.device d).node n).session → sharing.Allowed (w.device d) (sharing.Install_new n) → ⊥
  pub none_queued : (d n : ℕ) → ((w.device d).node n).joined ≡ true → ((w.device d).node n).phase ≡ Phase.Over

-- no seizing of the device for a number above p ended held, and one for p did
pub record IsGreatestHeld (s : Sharing) (p : ℕ) : Type 0 where
  pub held : (s.attempt p).held ≡ true
  pub greatest : (q : ℕ) → (s.attempt q).held ≡ true → q ≤ p

-- 6. Who is registered on a device and is no member of the greatest attempt that held it has no claim on it: its record does not call
-- the device valid, and it has not joined it.
pub record OutsidersHold (w : Cluster) : Type 0 where
  pub not_valid : (d p n : ℕ) → IsGreatestHeld (w.device d) p → (w.memberships.epoch p).members n ≡ false → (w.device d).device.keys n ≡ true → ((w.device d).node n).valid ≡ false
  pub not_joined : (d p n : ℕ) → IsGreatestHeld (w.device d) p → (w.memberships.epoch p).members n ≡ false → (w.device d).device.keys n ≡ true → ((w.device d).node n).joined ≡ false

-- 7. Who is registered and calls the device valid is a member of that greatest attempt, and so has promised it; and of every smaller
-- attempt that held the device it was a member too, or has installed something greater since.
pub record ValidNodesHold (w : Cluster) : Type 0 where
  pub member : (d p n : ℕ) → IsGreatestHeld (w.device d) p → ((w.device d).node n).valid ≡ true → (w.device d).device.keys n ≡ true → (w.memberships.epoch p).members n ≡ true
  pub promised : (d p n : ℕ) → IsGreatestHeld (w.device d) p → ((w.device d).node n).valid ≡ true → (w.device d).device.keys n ≡ true → p ≤ (w.memberships.node n).promised
  pub above : (d e n : ℕ) → ((w.device d).attempt e).held ≡ true → ((w.device d).node n).valid ≡ true → (w.device d).device.keys n ≡ true
      → ((w.memberships.epoch e).members n ≡ true) ⊎ (e < (w.memberships.node n).saved.installed)

-- the votes under which an attempt counted: those of the committed updates of its base, and those with the pending one
abbrev pub CountedUnder : Setting → Epoch → Votes → Type 0
CountedUnder S e v = (v ≡ S.config (take e.settled e.base)) ⊎ (v ≡ S.config e.base)

-- Both attempts held a device with votes, and whoever seized it for the later one belonged to the earlier, or showed at its promise that it
-- had installed something greater.
pub record MeetAtDevice (w : Cluster) (v : Votes) (p q : ℕ) : Type 0 where
  pub device : ℕ
  pub has_votes : 0 < v.of_device device
  pub first : (w.memberships.epoch p).holds device ≡ true
  pub second : (w.memberships.epoch q).holds device ≡ true
  pub seizer : ℕ
  pub seized : ((w.device device).node seizer).past.seized q ≡ true
  pub member : (w.memberships.epoch q).members seizer ≡ true
  pub knows : ((w.memberships.epoch p).members seizer ≡ true) ⊎ (p < ((w.memberships.node seizer).showed q).installed)

-- 8. Where two attempts counted a majority of one and the same configuration, some node is a member of both, or they meet at a device
-- that has votes there.
pub record AttemptsMeet (S : Setting) (w : Cluster) : Type 0 where
  pub meet : (p q : ℕ) (v : Votes) → p < q → (w.memberships.epoch p).counted ≡ true → (w.memberships.epoch q).counted ≡ true
      → CountedUnder S (w.memberships.epoch p) v → CountedUnder S (w.memberships.epoch q) v
      → ShareMember (w.memberships.epoch p).members (w.memberships.epoch q).members ⊎ MeetAtDevice w v p q

-- 9. Two records of one installed epoch never differ at a place that both have, and what is committed comes first. What every member of a
-- start has saved stands in the base of all later attempts that count a majority.
abbrev pub RecordsAgree : Cluster → Type 0
RecordsAgree w = inside.RecordsAgree w.memberships

-- A write of node n to device d that the device takes: n is a member, in its session e, of a membership e that started and holds d, and
-- no attempt with a greater number counted a majority with d held.
pub record WriteIsSafe (w : Cluster) (d n : ℕ) : Type 0 where
  pub started : (w.memberships.epoch (w.memberships.node n).session).started ≡ true
  pub member : (w.memberships.epoch (w.memberships.node n).session).members n ≡ true
  pub holds : (w.memberships.epoch (w.memberships.node n).session).holds d ≡ true
  pub none_greater : (f : ℕ) → (w.memberships.epoch f).counted ≡ true → (w.memberships.epoch f).holds d ≡ true → f ≤ (w.memberships.node n).session
  pub left_out_by_none : (f : ℕ) → (w.memberships.epoch f).counted ≡ true → (w.memberships.epoch f).holds d ≡ true → (w.memberships.epoch f).members n ≡ false → f < (w.memberships.node n).session
