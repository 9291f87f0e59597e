-- What every event keeps. Clauses on a node read epochs, clauses on an epoch read nodes; those of `Leads` read what a coordinator still changes.
-- Each clause is worded so that it stays true when others go on: promises, installed epochs and logs only grow.
use Rattle.std.specs.Prelude.{ℕ, ◌+◌, ◌≡◌, ◌<◌, ◌≤◌, true, false, [], length, take}
use Rattle.machine_base.specs.Epochs.{coordinator}
use Rattle.membership_machine.specs.Records.{Saved, IsBehind}
use Rattle.membership_machine.specs.Votes.{Setting, IsMajority}
use Rattle.membership_machine.specs.State.{Node, Epoch, Memberships}

-- A record and the epoch that it was installed in: it holds the base of that epoch and perhaps more of its log, and nothing else.
pub record Fits (r : Saved) (e : Epoch) : Type 0 where
  pub counted : 0 < r.installed → e.counted ≡ true
  pub entries : r.entries ≡ take (length r.entries) e.log
  pub within : length r.entries ≤ length e.log
  pub base : length e.base ≤ length r.entries

-- At most one entry is pending, and what is committed was acknowledged, or was committed in the base of an epoch that has not started.
pub record Commits (r : Saved) (e : Epoch) : Type 0 where
  pub within : r.committed ≤ length r.entries
  pub one_pending : length r.entries ≤ r.committed + 1
  pub acked : e.started ≡ true → r.committed ≤ e.acked
  pub settled : e.started ≡ false → r.committed ≤ e.settled

pub record NodeOk (E : ℕ → Epoch) (m : ℕ) (n : Node) : Type 0 where
  -- a session is the promise, and an installed epoch is at most that
  pub session : 0 < n.session → n.session ≡ n.promised
  pub installed : n.saved.installed ≤ n.promised
  -- a member's session is its installed epoch, which started
  pub member_sits : n.member ≡ true → 0 < n.session
  pub member_installed : n.member ≡ true → n.session ≡ n.saved.installed
  pub member_started : n.member ≡ true → (E n.session).started ≡ true
  -- an attempt under way is the node's own promise, begun and not installed
  pub seeking_session : n.seeking ≡ true → n.session ≡ n.promised
  pub seeking_own : n.seeking ≡ true → coordinator n.promised ≡ m
  pub seeking_tried : n.seeking ≡ true → (E n.promised).tried ≡ true
  pub seeking_installs : n.seeking ≡ true → n.saved.installed < n.promised
  -- the record
  pub fits : Fits n.saved (E n.saved.installed)
  pub commits : Commits n.saved (E n.saved.installed)
  -- installs
  pub ready_last : 0 < n.saved.installed → n.ready n.saved.installed ≡ true
  pub reached_last : n.reached n.saved.installed ≡ length n.saved.entries
  pub ready_installed : (f : ℕ) → n.ready f ≡ true → f ≤ n.saved.installed
  pub ready_counted : (f : ℕ) → n.ready f ≡ true → (E f).counted ≡ true
  pub ready_member : (f : ℕ) → n.ready f ≡ true → (E f).members m ≡ true
  pub ready_base : (f : ℕ) → n.ready f ≡ true → length (E f).base ≤ n.reached f
  -- what is installed and not joined is the base
  pub installed_alone : 0 < n.session → n.session ≡ n.saved.installed → n.member ≡ false → length n.saved.entries ≡ length (E n.saved.installed).base
  -- promises that were answered, and the records that they showed
  pub answered_promised : (q : ℕ) → n.answered q ≡ true → q ≤ n.promised
  pub answered_session : 0 < n.session → n.answered n.session ≡ true
  pub showed_again : 0 < n.session → n.saved.installed < n.session → n.showed n.session ≡ n.saved
  pub showed_installed : (q : ℕ) → n.answered q ≡ true → (n.showed q).installed < q
  pub showed_fits : (q : ℕ) → n.answered q ≡ true → Fits (n.showed q) (E (n.showed q).installed)
  pub showed_commits : (q : ℕ) → n.answered q ≡ true → Commits (n.showed q) (E (n.showed q).installed)
  pub showed_ready : (q : ℕ) → n.answered q ≡ true → 0 < (n.showed q).installed → n.ready (n.showed q).installed ≡ true
  -- The heart: after a promise of q nothing is installed or saved under a smaller epoch, so what the Promise showed is all that the node ever had there.
  pub showed_greatest : (q f : ℕ) → n.answered q ≡ true → n.ready f ≡ true → f < q → f ≤ (n.showed q).installed
  pub showed_all : (q : ℕ) → n.answered q ≡ true → 0 < (n.showed q).installed → n.reached (n.showed q).installed ≤ length (n.showed q).entries

-- A coordinator in the session of an epoch of its own.
pub record Leads (E : ℕ → Epoch) (m : ℕ) (n : Node) : Type 0 where
  pub sits : 0 < n.session → coordinator n.session ≡ m → (E n.session).started ≡ true → n.member ≡ true
  pub log : n.member ≡ true → coordinator n.session ≡ m → length n.saved.entries ≡ length (E n.session).log
  pub acked : n.member ≡ true → coordinator n.session ≡ m → n.saved.committed ≡ (E n.session).acked

pub record EpochOk (S : Setting) (N : ℕ → Node) (q : ℕ) (e : Epoch) : Type 0 where
  -- the coordinator promised its attempt first, is one of its members, and installed it when it counted
  pub tried_positive : e.tried ≡ true → 0 < q
  pub tried_promised : e.tried ≡ true → q ≤ (N (coordinator q)).promised
  pub tried_member : e.tried ≡ true → e.members (coordinator q) ≡ true
  pub counted_tried : e.counted ≡ true → e.tried ≡ true
  pub counted_installed : e.counted ≡ true → q ≤ (N (coordinator q)).saved.installed
  pub started_counted : e.started ≡ true → e.counted ≡ true
  -- the base is the newest record that the members showed, and the votes under it are a majority
  pub counted_answered : e.counted ≡ true → (m : ℕ) → e.members m ≡ true → (N m).answered q ≡ true
  pub newest_member : e.counted ≡ true → e.members e.newest ≡ true
  pub newest_base : e.counted ≡ true → e.base ≡ ((N e.newest).showed q).entries
  pub newest_settled : e.counted ≡ true → e.settled ≡ ((N e.newest).showed q).committed
  pub newest_behind : e.counted ≡ true → (m : ℕ) → e.members m ≡ true → IsBehind ((N m).showed q) ((N e.newest).showed q)
  pub majority_settled : e.counted ≡ true → IsMajority S (S.config (take e.settled e.base)) e.members e.holds
  pub majority_base : e.counted ≡ true → IsMajority S (S.config e.base) e.members e.holds
  -- a membership started with every member, and each has saved all that is acknowledged
  pub started_ready : e.started ≡ true → (m : ℕ) → e.members m ≡ true → (N m).ready q ≡ true
  pub started_reached : e.started ≡ true → (m : ℕ) → e.members m ≡ true → e.acked ≤ (N m).reached q
  -- base, log and what is acknowledged of it
  pub one_proposed : e.started ≡ true → length e.log ≤ e.acked + 1
  pub base_acked : e.started ≡ true → length e.base ≤ e.acked
  pub acked_log : e.acked ≤ length e.log
  pub settled_base : e.settled ≤ length e.base
  pub one_pending : length e.base ≤ e.settled + 1
  pub base_log : e.base ≡ take (length e.base) e.log
  pub base_within : length e.base ≤ length e.log
  pub unstarted_log : e.started ≡ false → e.log ≡ e.base
  pub unstarted_acked : e.started ≡ false → e.acked ≡ 0
  pub uncounted_base : e.counted ≡ false → e.base ≡ []

pub record Holds (S : Setting) (w : Memberships) : Type 0 where
  pub node : (m : ℕ) → NodeOk w.epoch m (w.node m)
  pub leads : (m : ℕ) → Leads w.epoch m (w.node m)
  pub epoch : (q : ℕ) → EpochOk S w.node q (w.epoch q)
