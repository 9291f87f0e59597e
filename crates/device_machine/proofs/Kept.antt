-- Each event keeps the invariant, so it holds in every state of every run, and takes nothing back.
use Rattle.std.proofs.Common.{◌≡◌, ◌≢◌, ℕ, ◌≤◌, inr, Bool, true, false, refl, sym, ap, subst, List, [], ◌∷◌, arith}
use Rattle.device_machine.specs.Phase.{Phase, rank}
use Rattle.device_machine.specs.Device.{registering, wording, reserving, preempting, storing, first_device}
use Rattle.device_machine.specs.Initiator.{Initiator, no_past, first_initiator}
use Rattle.device_machine.specs.Attempt.{no_attempt}
use Rattle.device_machine.specs.Sharing.{Sharing, Event, MayInstall, Allowed, after, Run, first_sharing}
use Rattle.device_machine.specs.Sharing
use Rattle.device_machine.specs.Growth.{Grows}
use Rattle.device_machine.proofs.Invariant.{PastOk, NodeOk, OnDevice, AttemptOk, Inv}
use Rattle.device_machine.proofs.Growth.{attempt_same, node_same, on_stays, alone_stays}
use Rattle.device_machine.proofs.Frames.{Goes, NodeSteps, kept_at_device, kept_at_node, kept_at_attempt}
use Rattle.device_machine.proofs.Devices
use Rattle.device_machine.proofs.Steps
use Rattle.device_machine.proofs.Commands
use Rattle.device_machine.proofs.Attempts
use Rattle.device_machine.proofs.Held.{confirm_kept}

-- The facts of an installing node that its attempt adds.
collected_of : (s : Sharing) (n : ℕ) → Inv s → MayInstall s n → (s.attempt (s.node n).session).collected ≡ true
collected_of s n i g = (i.attempt (s.node n).session).collected_counted g.1

held_of : (s : Sharing) (q : ℕ) → Inv s → (s.attempt q).counted ≡ true → (s.attempt q).holds ≡ true → (s.attempt q).held ≡ true
held_of s q i c h = (i.attempt q).holds_held c h

-- The seizer of an attempt that holds the device is still in the phase Seized when it installs.
seizer_phase : (s : Sharing) (n : ℕ) → Inv s → MayInstall s n → (s.attempt (s.node n).session).holds ≡ true → (s.attempt (s.node n).session).seizer ≡ n → rank (s.node n).phase ≡ 9
seizer_phase s n i g h e = (i.node n).seized_phase g.0 (subst (λ k. (s.node k).past.seized (s.node n).session ≡ true) e ((i.attempt (s.node n).session).holds_seized g.1 h)) g.3

is_seized : (p : Phase) → rank p ≡ 9 → p ≡ Phase.Seized
is_seized p h = grind arith

unregistered_past : (s : Sharing) → Inv s → (m r : ℕ) → (s.node m).past.unregistered r ≡ true → (s.node m).past.ended r ≡ true
unregistered_past s i m r h = (i.past m).unregistered_ended r h

write_kept : (s : Sharing) (x : ℕ) → Inv s → Goes s (record s { device = storing s.device x })
write_kept s x i = record {
  inv = record {
    past = i.past;
    node = i.node;
    on = λ n. on_stays s.attempt s.attempt (λ q. attempt_same (s.attempt q)) (λ e. refl) s.node s.device (storing s.device x) s.top n (s.node n) (Devices.storing_leaves s.device x n) i.attempt i.device (i.past n) (i.on n);
    alone = λ n k. alone_stays s.attempt s.attempt s.device (storing s.device x) s.top n k (s.node n) (s.node k) (λ q. attempt_same (s.attempt q)) (Devices.storing_leaves s.device x k) (i.node n) (i.on n) (i.alone n k);
    attempt = i.attempt;
    device = Devices.storing_device s.attempt s.device s.top x i.device;
  };
  grows = record { node = λ n. node_same (s.node n); attempt = λ q. attempt_same (s.attempt q) };
}

-- Each event, in three families: of a node alone, of a node with a command that changes the device, of an attempt.
module _ (s : Sharing) (n : ℕ) (i : Inv s) where
  at : (v' : Initiator) → NodeSteps s.attempt s.device s.device s.top n (s.node n) v' → Goes s (Sharing.at_node s n v')
  at v' t = kept_at_node s n v' i t

  registers : (v' : Initiator) → NodeSteps s.attempt s.device (registering s.device n) s.top n (s.node n) v' → Goes s (Sharing.at_device s n v' (registering s.device n))
  registers v' t = kept_at_device s n v' (registering s.device n) i (λ k ne. Devices.registering_leaves s.device n k ne) t (Devices.registering_device s.attempt s.device s.top n i.device)

  words : (v' : Initiator) → s.device.word ≤ (s.node n).session → (s.attempt (s.node n).session).collected ≡ true
      → NodeSteps s.attempt s.device (wording s.device (s.node n).session) s.top n (s.node n) v' → Goes s (Sharing.at_device s n v' (wording s.device (s.node n).session))
  words v' le c t = kept_at_device s n v' (wording s.device (s.node n).session) i (λ k ne. Devices.wording_leaves s.device (s.node n).session k le) t
      (Devices.wording_device s.attempt s.device s.top (s.node n).session le c i.device)

  reserves : (v' : Initiator) → NodeSteps s.attempt s.device (reserving s.device n) s.top n (s.node n) v' → Goes s (Sharing.at_device s n v' (reserving s.device n))
  reserves v' t = kept_at_device s n v' (reserving s.device n) i (λ k ne. Devices.reserving_leaves s.device n k) t (Devices.reserving_device s.attempt s.device s.top n i.device)

  preempts : (v' : Initiator) → n ≢ (s.node n).target → NodeSteps s.attempt s.device (preempting s.device n (s.node n).target) s.top n (s.node n) v'
      → Goes s (Sharing.at_device s n v' (preempting s.device n (s.node n).target))
  preempts v' ne t = kept_at_device s n v' (preempting s.device n (s.node n).target) i (λ k off. Devices.preempting_leaves s.device n (s.node n).target k) t
      (Devices.preempting_device s.attempt s.device s.top n (s.node n).target ne i.device)

goes : (s : Sharing) (e : Event) → Inv s → Allowed s e → Goes s (after s e)
goes s (Event.Promise n q) i g = at s n i _ (Steps.promising_steps s.attempt s.device s.top n (s.node n) (i.past n) (i.node n) (i.on n) q g)
goes s (Event.Crash n) i g = at s n i _ (Steps.crashing_steps s.attempt s.device s.top n (s.node n) (i.past n) (i.node n) (i.on n))
goes s (Event.Collected q members) i g = kept_at_attempt s q _ i (Attempts.collecting_grows s.node q (s.attempt q) (i.attempt q) members g.1) refl
    (Attempts.collecting_ok s.node q (s.attempt q) (i.attempt q) members g.1 g.0 g.2)
goes s (Event.Ask q n quorum) i g = kept_at_attempt s q _ i (Attempts.asking_grows s.node q (s.attempt q) (i.attempt q) n quorum g.0 g.1 g.2 g.4) refl
    (Attempts.asking_ok s.node q (s.attempt q) (i.attempt q) n quorum g.0 g.1 g.2 g.4)
goes s (Event.Seize n) i g = at s n i _ (Steps.seizing_steps s.attempt s.device s.top n (s.node n) (i.past n) (i.node n) (i.on n) g.0.0 g.0.1 g.0.2 g.1 g.2 g.3)
goes s (Event.Check n) i g = at s n i _ (Steps.checked_steps s.attempt s.device s.top n (s.node n) (i.past n) (i.node n) (i.on n) g.0 g.3)
goes s (Event.Reject n) i g = at s n i _ (Steps.rejecting_steps s.attempt s.device s.top n (s.node n) (i.past n) (i.node n) (i.on n) g.0)
goes s (Event.Distrust n) i g = at s n i _ (Steps.unvalidated_steps s.attempt s.device s.top n (s.node n) (i.past n) (i.node n) (i.on n) g.0 g.1)
goes s (Event.Register n) i g = registers s n i _ (Commands.registered_steps s.attempt s.node s.device s.top n (s.node n) i.attempt i.device (i.past n) (i.node n) (i.on n) g)
goes s (Event.Register_lost n) i g = registers s n i _ (Commands.registered_lost_steps s.attempt s.node s.device s.top n (s.node n) i.attempt i.device (i.past n) (i.node n) (i.on n) g)
goes s (Event.Word_less n) i g = at s n i _ (Steps.expecting_steps s.attempt s.device s.top n (s.node n) (i.past n) (i.node n) (i.on n) s.device.word g.0 g.1)
goes s (Event.Word_same n) i g = at s n i _ (Steps.marked_steps s.attempt s.device s.top n (s.node n) (i.past n) (i.node n) (i.on n) g.0 g.1)
goes s (Event.Swap n) i g = words s n i _
    (Commands.rises s.attempt s.node s.device s.top n (s.node n) i.attempt i.device (i.past n) (i.node n) (i.on n) g.0 g.1)
    (Commands.writes s.attempt s.node s.device s.top n (s.node n) i.attempt i.device (i.past n) (i.node n) (i.on n) g.0 g.1)
    (Commands.marking_steps s.attempt s.node s.device s.top n (s.node n) i.attempt i.device (i.past n) (i.node n) (i.on n) g.0 g.1)
goes s (Event.Swap_lost n) i g = words s n i _
    (Commands.rises s.attempt s.node s.device s.top n (s.node n) i.attempt i.device (i.past n) (i.node n) (i.on n) g.0 g.1)
    (Commands.writes s.attempt s.node s.device s.top n (s.node n) i.attempt i.device (i.past n) (i.node n) (i.on n) g.0 g.1)
    (Commands.marking_lost_steps s.attempt s.node s.device s.top n (s.node n) i.attempt i.device (i.past n) (i.node n) (i.on n) g.0 g.1)
goes s (Event.Reserve n) i g = reserves s n i _ (Commands.reserved_steps s.attempt s.node s.device s.top n (s.node n) i.attempt i.device (i.past n) (i.node n) (i.on n) g)
goes s (Event.Reserve_lost n) i g = reserves s n i _ (Commands.reserved_lost_steps s.attempt s.node s.device s.top n (s.node n) i.attempt i.device (i.past n) (i.node n) (i.on n) g)
goes s (Event.Look n k) i g = at s n i _ (Steps.aiming_steps s.attempt s.device s.top n (s.node n) (i.past n) (i.node n) (i.on n) k g.0 g.3)
goes s (Event.Preempt n) i g = preempts s n i _
    (Commands.other_key s.attempt s.node s.device s.top n (s.node n) i.attempt i.device (i.past n) (i.node n) (i.on n) g)
    (Commands.preempted_steps s.attempt s.node s.device s.top n (s.node n) i.attempt i.device (i.past n) (i.node n) (i.on n) g)
goes s (Event.Preempt_lost n) i g = preempts s n i _
    (Commands.other_key s.attempt s.node s.device s.top n (s.node n) i.attempt i.device (i.past n) (i.node n) (i.on n) g)
    (Commands.preempted_lost_steps s.attempt s.node s.device s.top n (s.node n) i.attempt i.device (i.past n) (i.node n) (i.on n) g)
goes s (Event.Clear n) i g = at s n i _ (Steps.cleared_steps s.attempt s.device s.top n (s.node n) (i.past n) (i.node n) (i.on n) g.0 g.1 g.2)
goes s (Event.Confirm n) i g = confirm_kept s n i g.0 g.1
goes s (Event.Fail n) i g = at s n i _ (Steps.ending_steps s.attempt s.device s.top n (s.node n) (i.past n) (i.node n) (i.on n) g)
goes s (Event.Count_with q) i g = kept_at_attempt s q _ i
    (Attempts.counting_grows s.node q (s.attempt q) (i.attempt q) true g.0 g.1 ended (λ h. (g.2, (i.past (s.attempt q).seizer).seized_held q g.3, g.3))) refl
    (Attempts.counting_ok s.node q (s.attempt q) (i.attempt q) true g.0 g.1 ended (λ h. (g.2, (i.past (s.attempt q).seizer).seized_held q g.3, g.3)))
  where
    ended : (m : ℕ) → (s.attempt q).asked m ≡ true → (s.node m).past.ended q ≡ true
    ended = Attempts.all_ended s.node q (s.attempt q) (i.attempt q) (unregistered_past s i) (inr ((i.past (s.attempt q).seizer).seized_ended q g.3))
goes s (Event.Count_without q) i g = kept_at_attempt s q _ i
    (Attempts.counting_grows s.node q (s.attempt q) (i.attempt q) false g.0 g.1 ended (λ h. absurd (cc))) refl
    (Attempts.counting_ok s.node q (s.attempt q) (i.attempt q) false g.0 g.1 ended (λ h. absurd (cc)))
  where
    ended : (m : ℕ) → (s.attempt q).asked m ≡ true → (s.node m).past.ended q ≡ true
    ended = Attempts.all_ended s.node q (s.attempt q) (i.attempt q) (unregistered_past s i) g.2
goes s (Event.Install_apart n) i g = at s n i _
    (Steps.installing_steps s.attempt s.device s.top n (s.node n) (i.past n) (i.node n) (i.on n) g.0 g.1 (collected_of s n i g) g.2 g.3)
goes s (Event.Install_seizer n) i g = at s n i _
    (Steps.seized_steps s.attempt s.device s.top n (s.node n) (i.past n) (i.node n) (i.on n) g.0.0 g.0.1 (collected_of s n i g.0) g.0.2 g.0.3 g.1
    (is_seized (s.node n).phase (seizer_phase s n i g.0 g.1 g.2)))
goes s (Event.Install_known n) i g = at s n i _
    (Steps.known_steps s.attempt s.device s.top n (s.node n) (i.past n) (i.node n) (i.on n) g.0.0 g.0.1 (collected_of s n i g.0) g.0.2 g.0.3 g.1 g.2)
goes s (Event.Install_new n) i g = at s n i _
    (Steps.joining_steps s.attempt s.device s.top n (s.node n) (i.past n) (i.node n) (i.on n) g.0.0 g.0.1 (collected_of s n i g.0) g.0.2 g.0.3 g.1)
goes s (Event.Enter n) i g = registers s n i _ (Commands.entered_steps s.attempt s.node s.device s.top n (s.node n) i.attempt i.device (i.past n) (i.node n) (i.on n) g)
goes s (Event.Enter_lost n) i g = registers s n i _ (Commands.entered_lost_steps s.attempt s.node s.device s.top n (s.node n) i.attempt i.device (i.past n) (i.node n) (i.on n) g)
goes s (Event.Admit n) i g = at s n i _ (Steps.admitted_steps s.attempt s.device s.top n (s.node n) (i.past n) (i.node n) (i.on n) i.device
    (held_of s (s.node n).session i ((i.node n).joining_counted joins) ((i.node n).joining_held joins)) g.0 g.1)
  where
    joins : 11 ≤ rank (s.node n).phase
    joins = let r : rank (s.node n).phase ≡ 12 = ap rank g.0 in omega arith
goes s (Event.Late n) i g = at s n i _ (Steps.late_steps s.attempt s.device s.top n (s.node n) (i.past n) (i.node n) (i.on n) g)
goes s (Event.Write n x) i g = write_kept s x i

pub kept : (s : Sharing) (e : Event) → Inv s → Allowed s e → Inv (after s e)
kept s e i a = (goes s e i a).inv

pub step_grows : (s : Sharing) (e : Event) → Inv s → Allowed s e → Grows s (after s e)
step_grows s e i a = (goes s e i a).grows

-- The first state: no history, no task, no attempt.
first_past : (n : ℕ) → PastOk (λ _. no_attempt) n 0 no_past
first_past n = record {
  seized_held = λ q. grind arith;
  seized_asked = λ q. grind arith;
  seized_ended = λ q. grind arith;
  unregistered_ended = λ q. grind arith;
  unregistered_unwritten = λ q. grind arith;
  unregistered_unseized = λ q. grind arith;
  ended_low = λ q. grind arith;
  wrote_asked = λ q. grind arith;
  wrote_low = λ q. grind arith;
  seizings = λ q. grind arith;
  seizings_low = λ q. grind arith;
  joinings = λ q. grind arith;
  joinings_low = λ q. grind arith;
}

first_node : (n : ℕ) (valid : Bool) → NodeOk (λ _. no_attempt) n (first_initiator valid)
first_node n valid = record {
  session = grind arith;
  installed = grind arith;
  showed = grind arith;
  busy = grind arith;
  collected = grind arith;
  member = grind arith;
  asked = grind arith;
  kind = grind arith;
  before = grind arith;
  running = grind arith;
  untrusted = grind arith;
  plain = grind arith;
  trusted = grind arith;
  less = grind arith;
  outside = grind arith;
  unwritten = grind arith;
  distrusted = grind arith;
  joining = grind arith;
  joining_counted = grind arith;
  joining_held = grind arith;
  joined = grind arith;
  joined_valid = grind arith;
  joined_installed = grind arith;
  joined_counted = grind arith;
  joined_held = grind arith;
  seized_phase = grind arith;
  unregistered_over = grind arith;
  seizings_none = grind arith;
  joinings_none = grind arith;
}

first_on : (registered : ℕ → Bool) (n : ℕ) → OnDevice (λ _. no_attempt) (first_device registered) 0 n (first_initiator (registered n))
first_on registered n = record {
  word = grind arith;
  reserved_own = grind arith;
  reserved = grind arith;
  valid_top = grind arith;
  seized_top = grind arith;
  valid_held = λ e. grind arith;
  seized_held = λ e. grind arith;
  quorum_held = λ e. grind arith;
  seized_showed = λ q e. grind arith;
}

first_attempt : (N : ℕ → Initiator) (q : ℕ) → AttemptOk N q no_attempt
first_attempt N q = record {
  positive = grind arith;
  promised = λ m. grind arith;
  collected_asking = grind arith;
  collected_held = grind arith;
  collected_counted = grind arith;
  asking = λ m. grind arith;
  asked_member = λ m. grind arith;
  asked_seizer = grind arith;
  asked_last = λ m. grind arith;
  answered = λ m. grind arith;
  holds_asking = grind arith;
  holds_held = grind arith;
  holds_seized = grind arith;
}

pub first_ok : (registered : ℕ → Bool) → Inv (first_sharing registered)
first_ok registered = record {
  past = first_past;
  node = λ n. first_node n (registered n);
  on = first_on registered;
  alone = λ n k. record { valid = grind arith; seized = grind arith };
  attempt = λ q. first_attempt (λ n. first_initiator (registered n)) q;
  device = record { held_top = λ e. grind arith; top_held = grind arith; top_word = grind arith; word = grind arith; reserved = λ e. grind arith; holder = grind arith };
}

-- Every state that a run reaches.
pub runs : (s t : Sharing) (events : List Event) → Inv s → Run s events t → Inv t
runs s t [] i r = subst Inv (sym r) i
runs s t (e ∷ es) i r = runs (after s e) t es (kept s e i r.0) r.1
