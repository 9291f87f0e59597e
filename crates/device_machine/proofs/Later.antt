-- What no step takes back, and so no run.
use Rattle.std.proofs.Common.{◌≡◌, ℕ, ◌≤◌, true, refl, sym, ap, subst, ◌∙◌, List, [], ◌∷◌, arith}
use Rattle.machine_base.proofs.Puts.{put_cases}
use Rattle.device_machine.specs.Phase.{Phase, rank}
use Rattle.device_machine.specs.Device.{Device, reserving, preempting}
use Rattle.device_machine.specs.Initiator.{Initiator, holding}
use Rattle.device_machine.specs.Attempt.{Attempt, holding_for}
use Rattle.device_machine.specs.Sharing.{Sharing, Event, Allowed, after, Run, at_node, at_device, at_attempt, at_held}
use Rattle.device_machine.specs.Laws.{Later}
use Rattle.device_machine.proofs.Invariant.{NodeOk, Inv}
use Rattle.device_machine.proofs.Kept.{kept}

pub later_same : (s : Sharing) → Later s s
later_same s = record { word = grind arith; top = grind arith; reserved = λ h. h; promised = λ n. grind arith; collected = λ q h. h; members = λ q m c. refl; holds = λ q h. h }

pub later_trans : (s t u : Sharing) → Later s t → Later t u → Later s u
later_trans s t u a b = record {
  word = let x = a.word in let y = b.word in omega arith;
  top = let x = a.top in let y = b.top in omega arith;
  reserved = λ h. b.reserved (a.reserved h);
  promised = λ n. let x = a.promised n in let y = b.promised n in omega arith;
  collected = λ q h. b.collected q (a.collected q h);
  members = λ q m h. b.members q m (a.collected q h) ∙ a.members q m h;
  holds = λ q h. b.holds q (a.holds q h);
}

at_node_later : (s : Sharing) (n : ℕ) (v' : Initiator) → (s.node n).promised ≤ v'.promised → Later s (at_node s n v')
at_node_later s n v' le = record {
  word = grind arith;
  top = grind arith;
  reserved = λ h. h;
  promised = put_cases (λ k x. (s.node k).promised ≤ x.promised) s.node n v' le (λ k ne. omega arith);
  collected = λ q h. h;
  members = λ q m c. refl;
  holds = λ q h. h;
}

at_device_later : (s : Sharing) (n : ℕ) (v' : Initiator) (d' : Device) → (s.node n).promised ≤ v'.promised → s.device.word ≤ d'.word → (s.device.reserved ≡ true → d'.reserved ≡ true) → Later s (at_device s n v' d')
at_device_later s n v' d' le up stays = record {
  word = up;
  top = grind arith;
  reserved = stays;
  promised = put_cases (λ k x. (s.node k).promised ≤ x.promised) s.node n v' le (λ k ne. omega arith);
  collected = λ q h. h;
  members = λ q m c. refl;
  holds = λ q h. h;
}

at_attempt_later : (s : Sharing) (q : ℕ) (e : Attempt) → ((s.attempt q).collected ≡ true → e.collected ≡ true) → ((m : ℕ) → (s.attempt q).collected ≡ true → e.members m ≡ (s.attempt q).members m)
    → (((s.attempt q).counted ≡ true) × ((s.attempt q).holds ≡ true) → (e.counted ≡ true) × (e.holds ≡ true)) → Later s (at_attempt s q e)
at_attempt_later s q e collected members holds = record {
  word = grind arith;
  top = grind arith;
  reserved = λ h. h;
  promised = λ n. grind arith;
  collected = put_cases (λ k x. (s.attempt k).collected ≡ true → x.collected ≡ true) s.attempt q e collected (λ k ne h. h);
  members = λ p m. put_cases (λ k x. (s.attempt k).collected ≡ true → x.members m ≡ (s.attempt k).members m) s.attempt q e (members m) (λ k ne c. refl) p;
  holds = put_cases (λ k x. ((s.attempt k).counted ≡ true) × ((s.attempt k).holds ≡ true) → (x.counted ≡ true) × (x.holds ≡ true)) s.attempt q e holds (λ k ne h. h);
}

at_held_later : (s : Sharing) (n : ℕ) → s.top ≤ (s.node n).session → Later s (at_held s n)
at_held_later s n low = record {
  word = grind arith;
  top = low;
  reserved = λ h. h;
  promised = put_cases (λ k x. (s.node k).promised ≤ x.promised) s.node n (holding (s.node n)) (omega arith) (λ k ne. omega arith);
  collected = put_cases (λ k x. (s.attempt k).collected ≡ true → x.collected ≡ true) s.attempt (s.node n).session (holding_for (s.attempt (s.node n).session)) (λ h. h) (λ k ne h. h);
  members = λ p m. put_cases (λ k x. (s.attempt k).collected ≡ true → x.members m ≡ (s.attempt k).members m) s.attempt (s.node n).session (holding_for (s.attempt (s.node n).session)) (λ c. refl) (λ k ne c. refl) p;
  holds = put_cases (λ k x. ((s.attempt k).counted ≡ true) × ((s.attempt k).holds ≡ true) → (x.counted ≡ true) × (x.holds ≡ true)) s.attempt (s.node n).session (holding_for (s.attempt (s.node n).session)) (λ h. h) (λ k ne h. h);
}

reserving_stays : (d : Device) (n : ℕ) → d.reserved ≡ true → (reserving d n).reserved ≡ true
reserving_stays d n h = grind arith

reserving_word : (d : Device) (n : ℕ) → d.word ≤ (reserving d n).word
reserving_word d n = grind arith

preempting_stays : (d : Device) (n t : ℕ) → d.reserved ≡ true → (preempting d n t).reserved ≡ true
preempting_stays d n t h = grind arith

preempting_word : (d : Device) (n t : ℕ) → d.word ≤ (preempting d n t).word
preempting_word d n t = grind arith

-- a swap finds the word that it expects, which is smaller than the session
swap_rises : (A : ℕ → Attempt) (n : ℕ) (v : Initiator) (w : ℕ) → NodeOk A n v → v.phase ≡ Phase.Swapping → w ≡ v.expected → w ≤ v.session
swap_rises A n v w i at found = let l = i.less (ap rank at) in omega arith

pub step_later : (s : Sharing) (e : Event) → Inv s → Allowed s e → Later s (after s e)
step_later s (Event.Promise n q) i g = at_node_later s n _ (omega (arith, g))
step_later s (Event.Crash n) i g = at_node_later s n _ (omega arith)
step_later s (Event.Collected q members) i g = at_attempt_later s q _ (λ h. refl) (λ m c. let none = g.1 in absurd (cc)) (λ h. h)
step_later s (Event.Ask q n quorum) i g = at_attempt_later s q _ (λ h. h) (λ m c. refl) (λ h. h)
step_later s (Event.Seize n) i g = at_node_later s n _ (omega arith)
step_later s (Event.Check n) i g = at_node_later s n _ (omega arith)
step_later s (Event.Reject n) i g = at_node_later s n _ (omega arith)
step_later s (Event.Distrust n) i g = at_node_later s n _ (omega arith)
step_later s (Event.Register n) i g = at_device_later s n _ _ (omega arith) (omega arith) (λ h. h)
step_later s (Event.Register_lost n) i g = at_device_later s n _ _ (omega arith) (omega arith) (λ h. h)
step_later s (Event.Word_less n) i g = at_node_later s n _ (omega arith)
step_later s (Event.Word_same n) i g = at_node_later s n _ (omega arith)
step_later s (Event.Swap n) i g = at_device_later s n _ _ (omega arith) (swap_rises s.attempt n (s.node n) s.device.word (i.node n) g.0 g.1) (λ h. h)
step_later s (Event.Swap_lost n) i g = at_device_later s n _ _ (omega arith) (swap_rises s.attempt n (s.node n) s.device.word (i.node n) g.0 g.1) (λ h. h)
step_later s (Event.Reserve n) i g = at_device_later s n _ _ (omega arith) (reserving_word s.device n) (reserving_stays s.device n)
step_later s (Event.Reserve_lost n) i g = at_device_later s n _ _ (omega arith) (reserving_word s.device n) (reserving_stays s.device n)
step_later s (Event.Look n k) i g = at_node_later s n _ (omega arith)
step_later s (Event.Preempt n) i g = at_device_later s n _ _ (omega arith) (preempting_word s.device n (s.node n).target) (preempting_stays s.device n (s.node n).target)
step_later s (Event.Preempt_lost n) i g = at_device_later s n _ _ (omega arith) (preempting_word s.device n (s.node n).target) (preempting_stays s.device n (s.node n).target)
step_later s (Event.Clear n) i g = at_node_later s n _ (omega arith)
step_later s (Event.Confirm n) i g = at_held_later s n (let t = i.device.top_word in let w = g.1 in omega arith)
step_later s (Event.Fail n) i g = at_node_later s n _ (omega arith)
step_later s (Event.Count_with q) i g = at_attempt_later s q _ (λ h. h) (λ m c. refl) (λ h. let none = g.1 in absurd (cc (h.0)))
step_later s (Event.Count_without q) i g = at_attempt_later s q _ (λ h. h) (λ m c. refl) (λ h. let none = g.1 in absurd (cc (h.0)))
step_later s (Event.Install_apart n) i g = at_node_later s n _ (omega arith)
step_later s (Event.Install_seizer n) i g = at_node_later s n _ (omega arith)
step_later s (Event.Install_known n) i g = at_node_later s n _ (omega arith)
step_later s (Event.Install_new n) i g = at_node_later s n _ (omega arith)
step_later s (Event.Enter n) i g = at_device_later s n _ _ (omega arith) (omega arith) (λ h. h)
step_later s (Event.Enter_lost n) i g = at_device_later s n _ _ (omega arith) (omega arith) (λ h. h)
step_later s (Event.Admit n) i g = at_node_later s n _ (omega arith)
step_later s (Event.Late n) i g = at_node_later s n _ (omega arith)
step_later s (Event.Write n x) i g = record { word = omega arith; top = omega arith; reserved = λ h. h; promised = λ k. omega arith; collected = λ q h. h; members = λ q m c. refl; holds = λ q h. h }

pub run_later : (s t : Sharing) (events : List Event) → Inv s → Run s events t → Later s t
run_later s t [] i r = subst (λ x. Later s x) (sym r) (later_same s)
run_later s t (e ∷ es) i r = later_trans s (after s e) t (step_later s e i r.0) (run_later (after s e) t es (kept s e i r.0) r.1)
