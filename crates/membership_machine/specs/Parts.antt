-- What holds of the state after every list of events: of promises and sessions, of numbers of attempts, and of records.
use Rattle.std.specs.Prelude.{ℕ, ◌+◌, ◌≡◌, ◌<◌, ◌≤◌, ◌⊎◌, Bool, true, length, take}
use Rattle.machine_base.specs.Epochs.{coordinator}
use Rattle.membership_machine.specs.Votes.{Votes, Setting, IsMajority}
use Rattle.membership_machine.specs.State.{Memberships}
use Rattle.membership_machine.specs.Events.{Event, Begin, Allowed, after}
use Rattle.membership_machine.specs.Starts.{Alike}

-- Promises only grow, and what is installed was promised. A session that is open is the one last promised. A member is in the epoch of its
-- session, has installed it, and that epoch started.
pub record PromisesHold (S : Setting) (w : Memberships) : Type 0 where
  pub never_falls : (e : Event) (m : ℕ) → Allowed S w e → (w.node m).promised ≤ ((after w e).node m).promised
  pub installed : (m : ℕ) → (w.node m).saved.installed ≤ (w.node m).promised
  pub session : (m : ℕ) → ((w.node m).session ≡ 0) ⊎ ((w.node m).session ≡ (w.node m).promised)
  pub member_session : (m : ℕ) → (w.node m).member ≡ true → (w.node m).session ≡ (w.node m).promised
  pub member_installed : (m : ℕ) → (w.node m).member ≡ true → (w.node m).saved.installed ≡ (w.node m).promised
  pub member_started : (m : ℕ) → (w.node m).member ≡ true → (w.epoch (w.node m).promised).started ≡ true

-- A number has at most one attempt, since its coordinator, the one node that may begin it, saved it as its promise first.
pub record AttemptsDiffer (S : Setting) (w : Memberships) : Type 0 where
  pub promised : (q : ℕ) → (w.epoch q).tried ≡ true → q ≤ (w.node (coordinator q)).promised
  pub once : (q : ℕ) (members : ℕ → Bool) → (w.epoch q).tried ≡ true → Allowed S w (Begin q members) → ⊥

-- Nobody promises a number that no coordinator has begun: a promise is 0, or a number that was tried, and so is each number whose Collect
-- was ever answered.
pub record PromisesAreTried (w : Memberships) : Type 0 where
  pub promised : (m : ℕ) → ((w.node m).promised ≡ 0) ⊎ ((w.epoch (w.node m).promised).tried ≡ true)
  pub answered : (m q : ℕ) → (w.node m).answered q ≡ true → (w.epoch q).tried ≡ true

-- A start was counted. An attempt that counted was answered by every member, and its members with the devices that it held are a majority
-- under the committed entries of its base and under all of it. A start was installed by every member, and its base is acknowledged.
pub record StartsAreCounted (S : Setting) (w : Memberships) : Type 0 where
  pub counted : (q : ℕ) → (w.epoch q).started ≡ true → (w.epoch q).counted ≡ true
  pub answered : (q m : ℕ) → (w.epoch q).counted ≡ true → (w.epoch q).members m ≡ true → (w.node m).answered q ≡ true
  pub under_committed : (q : ℕ) → (w.epoch q).counted ≡ true → IsMajority S (S.config (take (w.epoch q).settled (w.epoch q).base)) (w.epoch q).members (w.epoch q).holds
  pub under_pending : (q : ℕ) → (w.epoch q).counted ≡ true → IsMajority S (S.config (w.epoch q).base) (w.epoch q).members (w.epoch q).holds
  pub ready : (q m : ℕ) → (w.epoch q).started ≡ true → (w.epoch q).members m ≡ true → (w.node m).ready q ≡ true
  pub base : (q : ℕ) → (w.epoch q).started ≡ true → length (w.epoch q).base ≤ (w.epoch q).acked

-- the first v entries are on the disks of all the members of q, by what each did in q: installing, preparing or proposing
abbrev pub AllSaved : Memberships → ℕ → ℕ → Type 0
AllSaved w q v = (m : ℕ) → (w.epoch q).members m ≡ true → v ≤ (w.node m).reached q

-- Two records of one installed epoch have equal entries as far as both go. A record is its committed entries and at most one that is pending.
-- No attempt that counted begins from less than an earlier started membership had on all its disks.
pub record RecordsAgree (w : Memberships) : Type 0 where
  pub place_by_place : (m k v : ℕ) → (w.node m).saved.installed ≡ (w.node k).saved.installed → v ≤ length (w.node m).saved.entries → v ≤ length (w.node k).saved.entries
      → Alike v (w.node m).saved.entries (w.node k).saved.entries
  pub committed_first : (m : ℕ) → (w.node m).saved.committed ≤ length (w.node m).saved.entries
  pub one_pending : (m : ℕ) → length (w.node m).saved.entries ≤ (w.node m).saved.committed + 1
  pub saved_by_all : (e q v : ℕ) → (w.epoch e).started ≡ true → e < q → (w.epoch q).counted ≡ true → AllSaved w e v → Alike v (w.epoch e).log (w.epoch q).base

-- Two sets of members with devices share a member, or a device that has votes.
pub record ShareMember (a b : ℕ → Bool) : Type 0 where
  pub member : ℕ
  pub first : a member ≡ true
  pub second : b member ≡ true

pub record ShareDevice (v : Votes) (a b : ℕ → Bool) : Type 0 where
  pub device : ℕ
  pub first : a device ≡ true
  pub second : b device ≡ true
  pub has_votes : 0 < v.of_device device
