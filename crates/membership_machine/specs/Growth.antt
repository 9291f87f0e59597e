-- What only grows. A message tells facts of its sender that are among these, so what it tells is true whenever it comes:
-- a Collect that an attempt was begun among its members, a Promise what was answered and shown, an Install the base,
-- a Ready what was installed, a Prepare the log, a Prepared what was reached, a Commit what is acknowledged.
use Rattle.std.specs.Prelude.{ℕ, ◌≡◌, ◌≤◌, true, length, take}
use Rattle.membership_machine.specs.State.{Node, Epoch, Memberships}

pub record NodeGrows (n n' : Node) : Type 0 where
  pub promised : n.promised ≤ n'.promised
  pub installed : n.saved.installed ≤ n'.saved.installed
  pub answered : (q : ℕ) → n.answered q ≡ true → n'.answered q ≡ true
  pub showed : (q : ℕ) → n.answered q ≡ true → n'.showed q ≡ n.showed q
  pub ready : (f : ℕ) → n.ready f ≡ true → n'.ready f ≡ true
  pub reached : (f : ℕ) → n.ready f ≡ true → n.reached f ≤ n'.reached f

pub record EpochGrows (e e' : Epoch) : Type 0 where
  pub tried : e.tried ≡ true → e'.tried ≡ true
  pub members : e.tried ≡ true → (m : ℕ) → e'.members m ≡ e.members m
  pub counted : e.counted ≡ true → e'.counted ≡ true
  pub holds : e.counted ≡ true → (d : ℕ) → e'.holds d ≡ e.holds d
  pub base : e.counted ≡ true → e'.base ≡ e.base
  pub settled : e.counted ≡ true → e'.settled ≡ e.settled
  pub started : e.started ≡ true → e'.started ≡ true
  pub acked : e.acked ≤ e'.acked
  -- the log is extended at its end
  pub log : e.log ≡ take (length e.log) e'.log
  pub log_length : length e.log ≤ length e'.log
  -- once started, what was committed in the base is acknowledged
  pub covered : e'.started ≡ true → e'.settled ≤ e'.acked

pub record Grows (w v : Memberships) : Type 0 where
  pub node : (m : ℕ) → NodeGrows (w.node m) (v.node m)
  pub epoch : (q : ℕ) → EpochGrows (w.epoch q) (v.epoch q)
