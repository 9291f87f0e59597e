-- Each command that changes the device, as a step of its sender.
use Rattle.std.proofs.Common.{◌≡◌, ◌≢◌, ℕ, ◌<◌, ◌≤◌, inl, inr, true, false, refl, sym, ap, subst, arith}
use Rattle.machine_base.proofs.Puts.{put_true_stays}
use Rattle.device_machine.specs.Phase.{Phase, rank}
use Rattle.device_machine.specs.Device.{Device, registering, wording, reserving, preempting}
use Rattle.device_machine.specs.Initiator.{Initiator, to_phase, marking, marking_lost, ending}
use Rattle.device_machine.specs.Attempt.{Attempt}
use Rattle.device_machine.proofs.Invariant.{PastOk, NodeOk, OnDevice, AttemptOk, DeviceOk}
use Rattle.device_machine.proofs.Growth.{Leaves, attempt_same, on_stays}
use Rattle.device_machine.proofs.Frames.{NodeSteps}
use Rattle.device_machine.proofs.NodeSession
use Rattle.device_machine.proofs.NodeAsking
use Rattle.device_machine.proofs.NodeHolding
use Rattle.device_machine.proofs.Pasts
use Rattle.device_machine.proofs.OnSession
use Rattle.device_machine.proofs.OnSeizing
use Rattle.device_machine.proofs.Devices.{wording_leaves, reserving_leaves, reserving_own, preempting_leaves}
use Rattle.device_machine.proofs.Claims.{Had, quiet_steps}
use Rattle.device_machine.proofs.Steps.{keeps, ending_grows, session_low, not_true}

module _ (A : ℕ → Attempt) (N : ℕ → Initiator) (d : Device) (top n : ℕ) (v : Initiator) (attempts : (q : ℕ) → AttemptOk N q (A q)) (dev : DeviceOk A d top) (past : PastOk A n v.promised v.past) (ok : NodeOk A n v) (on : OnDevice A d top n v) where
  -- the sender at the device that its command left, where its own key did not come
  left : (d' : Device) → Leaves d d' n → OnDevice A d' top n v
  left d' l = on_stays A A (λ q. attempt_same (A q)) (λ e. refl) N d d' top n v l attempts dev past on

  low : 0 < rank v.phase → v.session ≤ v.promised
  low h = session_low A d top n v past ok on h

  -- no command brings the sender a claim
  still : (d' : Device) → Leaves d d' n → d'.keys n ≡ true → v.valid ≡ true → Had d n v
  still d' l key c = record { key = l.keys key; claim = inl c }

  pub registered_steps : v.phase ≡ Phase.Untrusted → NodeSteps A d (registering d n) top n v (to_phase v Phase.Keyed)
  registered_steps at = quiet_steps A d (registering d n) top n v (to_phase v Phase.Keyed) (grind arith) (grind arith) (grind arith) (grind arith) (keeps v (to_phase v Phase.Keyed) refl refl) past
      (NodeAsking.registered_node A n v ok at) (OnSeizing.checked_on A (registering d n) top n v ok (OnSession.registering_on A d top n v ok on (inl (ap rank at))) (grind arith))

  pub registered_lost_steps : v.phase ≡ Phase.Untrusted → NodeSteps A d (registering d n) top n v (ending v)
  registered_lost_steps at = quiet_steps A d (registering d n) top n v (ending v) (grind arith) (grind arith) (grind arith) (grind arith) (ending_grows v)
      (Pasts.ending_past A n v past (low (grind arith))) (NodeHolding.ending_node A n v ok (grind arith))
      (OnSeizing.ending_on A (registering d n) top n v ok (OnSession.registering_on A d top n v ok on (inl (ap rank at))))

  pub entered_steps : v.phase ≡ Phase.Joining → NodeSteps A d (registering d n) top n v (to_phase v Phase.Entered)
  entered_steps at = quiet_steps A d (registering d n) top n v (to_phase v Phase.Entered) (grind arith) (grind arith) (grind arith) (grind arith) (keeps v (to_phase v Phase.Entered) refl refl) past
      (NodeSession.entered_node A n v ok at) (OnSession.entered_on A (registering d n) top n v ok (OnSession.registering_on A d top n v ok on (inr (grind arith))) at)

  pub entered_lost_steps : v.phase ≡ Phase.Joining → NodeSteps A d (registering d n) top n v (to_phase v Phase.Over)
  entered_lost_steps at = quiet_steps A d (registering d n) top n v (to_phase v Phase.Over) (grind arith) (grind arith) (grind arith) (grind arith) (keeps v (to_phase v Phase.Over) refl refl) past
      (NodeSession.late_node A n v ok (grind arith)) (OnSession.late_on A (registering d n) top n v ok (OnSession.registering_on A d top n v ok on (inr (grind arith))) (grind arith))

  -- The word that it expects is smaller than its session.
  module _ (at : v.phase ≡ Phase.Swapping) (found : d.word ≡ v.expected) where
    pub rises : d.word ≤ v.session
    rises = let l = ok.less (ap rank at) in omega arith

    pub writes : (A v.session).collected ≡ true
    writes = ok.collected (grind arith)

    unregistered : v.past.unregistered v.session ≡ false
    unregistered = not_true (v.past.unregistered v.session) (λ h. let l = ok.unregistered_over (ok.busy (grind arith)) h in let r : rank v.phase ≡ 4 = ap rank at in omega arith)

    new : OnDevice A (wording d v.session) top n v
    new = left (wording d v.session) (wording_leaves d v.session n rises)

    marking_past : PastOk A n (marking v).promised (marking v).past
    marking_past = Pasts.marking_past A n v past (low (grind arith)) (ok.asked (grind arith) (grind arith)) unregistered

    pub marking_steps : NodeSteps A d (wording d v.session) top n v (marking v)
    marking_steps = quiet_steps A d (wording d v.session) top n v (marking v) rises (still (wording d v.session) (wording_leaves d v.session n rises)) (grind arith) (grind arith)
        (record { promised = grind arith; seized = λ q h. h; unregistered = λ q h. h; ended = λ q h. h; wrote = λ q h. put_true_stays v.past.wrote v.session q h; seized_settled = λ q h. refl; unregistered_settled = λ q h. refl })
        marking_past (NodeHolding.marking_node A n v ok at) (OnSeizing.marking_on A (wording d v.session) top n v ok new refl)

    pub marking_lost_steps : NodeSteps A d (wording d v.session) top n v (marking_lost v)
    marking_lost_steps = quiet_steps A d (wording d v.session) top n v (marking_lost v) rises (still (wording d v.session) (wording_leaves d v.session n rises)) (grind arith) (grind arith)
        (record { promised = grind arith; seized = λ q h. h; unregistered = λ q h. h; ended = λ q h. put_true_stays v.past.ended v.session q h; wrote = λ q h. put_true_stays v.past.wrote v.session q h; seized_settled = λ q h. refl; unregistered_settled = λ q h. refl })
        (Pasts.ending_past A n (marking v) marking_past (low (grind arith))) (NodeHolding.marking_lost_node A n v ok at) (OnSeizing.marking_lost_on A (wording d v.session) top n v ok new)

  pub reserved_steps : v.phase ≡ Phase.Marked → NodeSteps A d (reserving d n) top n v (to_phase v Phase.Reserved)
  reserved_steps at = quiet_steps A d (reserving d n) top n v (to_phase v Phase.Reserved) (grind arith) (still (reserving d n) (reserving_leaves d n n)) (grind arith) (grind arith)
      (keeps v (to_phase v Phase.Reserved) refl refl) past (NodeHolding.reserved_node A n v ok (inl at))
      (OnSeizing.reserved_on A (reserving d n) top n v ok (left (reserving d n) (reserving_leaves d n n)) (grind arith) (grind arith) (reserving_own d n))

  pub reserved_lost_steps : v.phase ≡ Phase.Marked → NodeSteps A d (reserving d n) top n v (ending v)
  reserved_lost_steps at = quiet_steps A d (reserving d n) top n v (ending v) (grind arith) (still (reserving d n) (reserving_leaves d n n)) (grind arith) (grind arith)
      (ending_grows v) (Pasts.ending_past A n v past (low (grind arith))) (NodeHolding.ending_node A n v ok (grind arith))
      (OnSeizing.ending_on A (reserving d n) top n v ok (left (reserving d n) (reserving_leaves d n n)))

  -- The key to be preempted is that of no member, so not the sender's own.
  pub other_key : v.phase ≡ Phase.Preempting → n ≢ v.target
  other_key at e = let out = ok.outside (ap rank at) in let m = ok.member (grind arith) in let w : (A v.session).members n ≡ false = subst (λ k. (A v.session).members k ≡ false) (sym e) out in absurd (cc)

  pub preempted_steps : v.phase ≡ Phase.Preempting → NodeSteps A d (preempting d n v.target) top n v (to_phase v Phase.Reserved)
  preempted_steps at = quiet_steps A d (preempting d n v.target) top n v (to_phase v Phase.Reserved) (grind arith) (still (preempting d n v.target) gone) (grind arith) (grind arith)
      (keeps v (to_phase v Phase.Reserved) refl refl) past (NodeHolding.reserved_node A n v ok (inr at))
      (OnSeizing.reserved_on A (preempting d n v.target) top n v ok there (grind arith) (grind arith) (there.reserved_own (grind arith) (grind arith)))
    where
      gone : Leaves d (preempting d n v.target) n
      gone = preempting_leaves d n v.target n

      there : OnDevice A (preempting d n v.target) top n v
      there = left (preempting d n v.target) gone

  pub preempted_lost_steps : v.phase ≡ Phase.Preempting → NodeSteps A d (preempting d n v.target) top n v (ending v)
  preempted_lost_steps at = quiet_steps A d (preempting d n v.target) top n v (ending v) (grind arith) (still (preempting d n v.target) gone) (grind arith) (grind arith)
      (ending_grows v) (Pasts.ending_past A n v past (low (grind arith))) (NodeHolding.ending_node A n v ok (grind arith))
      (OnSeizing.ending_on A (preempting d n v.target) top n v ok (left (preempting d n v.target) gone))
    where
      gone : Leaves d (preempting d n v.target) n
      gone = preempting_leaves d n v.target n
