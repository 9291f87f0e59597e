-- What is known of a coordinator in a session of its own, after each step of a node.
use Rattle.std.proofs.Common.{ℕ, ◌≡◌, ◌≢◌, true, false, length, arith}
use Rattle.machine_base.specs.Epochs.{coordinator}
use Rattle.membership_machine.specs.State.{Node, Epoch}
use Rattle.membership_machine.specs.Invariant.{Leads}

-- a node in a session that it does not coordinate leads nothing
pub follows_other : (E : ℕ → Epoch) (m : ℕ) (n : Node) → coordinator n.session ≢ m → Leads E m n
follows_other E m n ne = record { sits = λ p c s. absurd (ne c); log = λ h c. absurd (ne c); acked = λ h c. absurd (ne c) }

-- no node leads in an epoch that has not started
pub leads_unstarted : (E : ℕ → Epoch) (m : ℕ) (n : Node) → n.member ≡ false → (E n.session).started ≡ false → Leads E m n
leads_unstarted E m n mem s = record { sits = λ p c t. absurd (cc); log = λ h. absurd (cc); acked = λ h. absurd (cc) }

-- no node leads without a session
pub leads_down : (E : ℕ → Epoch) (m : ℕ) (n : Node) → n.member ≡ false → n.session ≡ 0 → Leads E m n
leads_down E m n mem s = record { sits = λ p. absurd (omega arith); log = λ h. absurd (cc); acked = λ h. absurd (cc) }

-- a member leads where it has all of the log, and has committed what is acknowledged
pub leads_member : (E : ℕ → Epoch) (m : ℕ) (n : Node) → n.member ≡ true → length n.saved.entries ≡ length (E n.session).log → n.saved.committed ≡ (E n.session).acked → Leads E m n
leads_member E m n mem l a = record { sits = λ p c s. mem; log = λ h c. l; acked = λ h c. a }
