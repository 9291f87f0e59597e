-- A command at a device changes nothing of what stands in both machines.
use Rattle.std.proofs.Common.{ℕ, ◌≡◌, refl, true, false}
use Rattle.machine_base.specs.Put.{put}
use Rattle.machine_base.proofs.Puts.{put_cases}
use Rattle.device_machine.specs.Initiator.{Initiator}
use Rattle.device_machine.specs.Attempt.{Attempt}
use Rattle.device_machine.specs.Sharing.{Sharing}
use Rattle.device_machine.specs.Sharing as sharing
use Rattle.cluster_machine.specs.Cluster.{is_command}

pub record Unmoved (v v' : Initiator) : Type 0 where
  pub promised : v'.promised ≡ v.promised
  pub session : v'.session ≡ v.session
  pub installed : v'.installed ≡ v.installed
  pub showed : (q : ℕ) → v'.past.showed q ≡ v.past.showed q

pub record Unchanged (a a' : Attempt) : Type 0 where
  pub collected : a'.collected ≡ a.collected
  pub members : (m : ℕ) → a'.members m ≡ a.members m
  pub counted : a'.counted ≡ a.counted
  pub holds : a'.holds ≡ a.holds
  pub quorum : a.counted ≡ true → a'.quorum ≡ a.quorum

unmoved : (v : Initiator) → Unmoved v v
unmoved v = record { promised = refl; session = refl; installed = refl; showed = λ q. refl }

unchanged : (a : Attempt) → Unchanged a a
unchanged a = record { collected = refl; members = λ m. refl; counted = refl; holds = refl; quorum = λ c. refl }

pub record Still (s t : Sharing) : Type 0 where
  pub node : (n : ℕ) → Unmoved (s.node n) (t.node n)
  pub attempt : (q : ℕ) → Unchanged (s.attempt q) (t.attempt q)

-- one node goes on with its task
at_node : (s t : Sharing) (n : ℕ) (v : Initiator) → Unmoved (s.node n) v → ((k : ℕ) → t.node k ≡ put s.node n v k) → ((q : ℕ) → t.attempt q ≡ s.attempt q) → Still s t
at_node s t n v u e f = record {
  node = λ k. rw (e k) (put_cases (λ j x. Unmoved (s.node j) x) s.node n v u (λ j ne. unmoved (s.node j)) k);
  attempt = λ q. rw (f q) (unchanged (s.attempt q));
}

pub command_still : (s : Sharing) (e : sharing.Event) → is_command e ≡ true → sharing.Allowed s e → Still s (sharing.after s e)
command_still s (sharing.Promise n q) c a = absurd (cc)
command_still s (sharing.Crash n) c a = absurd (cc)
command_still s (sharing.Collected q members) c a = absurd (cc)
command_still s (sharing.Ask q n quorum) c a = record {
  node = λ k. unmoved (s.node k);
  attempt = put_cases (λ j x. Unchanged (s.attempt j) x) s.attempt q _ (record { collected = refl; members = λ m. refl; counted = refl; holds = refl; quorum = λ k. let f : (s.attempt q).counted ≡ false = a.1 in absurd (cc) }) (λ j ne. unchanged (s.attempt j));
}
command_still s (sharing.Seize n) c a = at_node s _ n _ (record { promised = refl; session = refl; installed = refl; showed = λ q. refl }) (λ k. refl) (λ q. refl)
command_still s (sharing.Check n) c a = at_node s _ n _ (record { promised = refl; session = refl; installed = refl; showed = λ q. refl }) (λ k. refl) (λ q. refl)
command_still s (sharing.Reject n) c a = at_node s _ n _ (record { promised = refl; session = refl; installed = refl; showed = λ q. refl }) (λ k. refl) (λ q. refl)
command_still s (sharing.Distrust n) c a = at_node s _ n _ (record { promised = refl; session = refl; installed = refl; showed = λ q. refl }) (λ k. refl) (λ q. refl)
command_still s (sharing.Register n) c a = at_node s _ n _ (record { promised = refl; session = refl; installed = refl; showed = λ q. refl }) (λ k. refl) (λ q. refl)
command_still s (sharing.Register_lost n) c a = at_node s _ n _ (record { promised = refl; session = refl; installed = refl; showed = λ q. refl }) (λ k. refl) (λ q. refl)
command_still s (sharing.Word_less n) c a = at_node s _ n _ (record { promised = refl; session = refl; installed = refl; showed = λ q. refl }) (λ k. refl) (λ q. refl)
command_still s (sharing.Word_same n) c a = at_node s _ n _ (record { promised = refl; session = refl; installed = refl; showed = λ q. refl }) (λ k. refl) (λ q. refl)
command_still s (sharing.Swap n) c a = at_node s _ n _ (record { promised = refl; session = refl; installed = refl; showed = λ q. refl }) (λ k. refl) (λ q. refl)
command_still s (sharing.Swap_lost n) c a = at_node s _ n _ (record { promised = refl; session = refl; installed = refl; showed = λ q. refl }) (λ k. refl) (λ q. refl)
command_still s (sharing.Reserve n) c a = at_node s _ n _ (record { promised = refl; session = refl; installed = refl; showed = λ q. refl }) (λ k. refl) (λ q. refl)
command_still s (sharing.Reserve_lost n) c a = at_node s _ n _ (record { promised = refl; session = refl; installed = refl; showed = λ q. refl }) (λ k. refl) (λ q. refl)
command_still s (sharing.Look n t) c a = at_node s _ n _ (record { promised = refl; session = refl; installed = refl; showed = λ q. refl }) (λ k. refl) (λ q. refl)
command_still s (sharing.Preempt n) c a = at_node s _ n _ (record { promised = refl; session = refl; installed = refl; showed = λ q. refl }) (λ k. refl) (λ q. refl)
command_still s (sharing.Preempt_lost n) c a = at_node s _ n _ (record { promised = refl; session = refl; installed = refl; showed = λ q. refl }) (λ k. refl) (λ q. refl)
command_still s (sharing.Clear n) c a = at_node s _ n _ (record { promised = refl; session = refl; installed = refl; showed = λ q. refl }) (λ k. refl) (λ q. refl)
command_still s (sharing.Confirm n) c a = record {
  node = put_cases (λ j x. Unmoved (s.node j) x) s.node n _ (record { promised = refl; session = refl; installed = refl; showed = λ q. refl }) (λ j ne. unmoved (s.node j));
  attempt = put_cases (λ j x. Unchanged (s.attempt j) x) s.attempt (s.node n).session _ (record { collected = refl; members = λ m. refl; counted = refl; holds = refl; quorum = λ k. refl }) (λ j ne. unchanged (s.attempt j));
}
command_still s (sharing.Fail n) c a = at_node s _ n _ (record { promised = refl; session = refl; installed = refl; showed = λ q. refl }) (λ k. refl) (λ q. refl)
command_still s (sharing.Count_with q) c a = absurd (cc)
command_still s (sharing.Count_without q) c a = absurd (cc)
command_still s (sharing.Install_apart n) c a = absurd (cc)
command_still s (sharing.Install_seizer n) c a = absurd (cc)
command_still s (sharing.Install_known n) c a = absurd (cc)
command_still s (sharing.Install_new n) c a = absurd (cc)
command_still s (sharing.Enter n) c a = at_node s _ n _ (record { promised = refl; session = refl; installed = refl; showed = λ q. refl }) (λ k. refl) (λ q. refl)
command_still s (sharing.Enter_lost n) c a = at_node s _ n _ (record { promised = refl; session = refl; installed = refl; showed = λ q. refl }) (λ k. refl) (λ q. refl)
command_still s (sharing.Admit n) c a = at_node s _ n _ (record { promised = refl; session = refl; installed = refl; showed = λ q. refl }) (λ k. refl) (λ q. refl)
command_still s (sharing.Late n) c a = at_node s _ n _ (record { promised = refl; session = refl; installed = refl; showed = λ q. refl }) (λ k. refl) (λ q. refl)
command_still s (sharing.Write n x) c a = record { node = λ k. unmoved (s.node k); attempt = λ q. unchanged (s.attempt q) }
