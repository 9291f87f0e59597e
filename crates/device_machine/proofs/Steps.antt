-- Each step of a node that neither seizes nor joins with a command that changes the device: what has to be shown of it.
use Rattle.std.proofs.Common.{◌≡◌, ◌≢◌, ℕ, ◌<◌, ◌≤◌, inl, inr, Bool, true, false, refl, sym, ap, subst, arith}
use Rattle.machine_base.proofs.Puts.{put_there, put_true_stays}
use Rattle.device_machine.specs.Phase.{Phase, rank, IsSeizing, IsJoining, AsksWord}
use Rattle.device_machine.specs.Device.{Device}
use Rattle.device_machine.specs.Initiator.{Past, Initiator, promising, crashing, to_phase, seizing, unvalidated, expecting, aiming, rejecting, ending, installing, admitted, joining}
use Rattle.device_machine.specs.Attempt.{Attempt}
use Rattle.device_machine.proofs.Invariant.{PastOk, NodeOk, OnDevice, DeviceOk}
use Rattle.device_machine.specs.Growth.{NodeGrows}
use Rattle.device_machine.proofs.Frames.{NodeSteps}
use Rattle.device_machine.proofs.NodeSession
use Rattle.device_machine.proofs.NodeAsking
use Rattle.device_machine.proofs.NodeHolding
use Rattle.device_machine.proofs.Pasts
use Rattle.device_machine.proofs.OnSession
use Rattle.device_machine.proofs.OnSeizing
use Rattle.device_machine.proofs.Claims.{Had, quiet_steps, claims_stay, claims_member, not_alone}

pub not_true : (b : Bool) → (b ≡ true → ⊥) → b ≡ false
not_true true h = absurd (h refl)
not_true false h = refl

-- an epoch whose seizing has ended is not one whose seizing goes on
pub ended_other : (f : ℕ → Bool) (p q : ℕ) → f q ≡ true → f p ≡ false → q ≢ p
ended_other f p q h h' e = let g : f p ≡ true = subst (λ k. f k ≡ true) e h in absurd {A = ⊥} (cc)

-- a step that leaves promise and history
pub keeps : (v v' : Initiator) → v'.promised ≡ v.promised → v'.past ≡ v.past → NodeGrows v v'
keeps v v' p e = record {
  promised = omega (arith, p);
  seized = λ q h. subst (λ x. x.seized q ≡ true) (sym e) h;
  unregistered = λ q h. subst (λ x. x.unregistered q ≡ true) (sym e) h;
  ended = λ q h. subst (λ x. x.ended q ≡ true) (sym e) h;
  wrote = λ q h. subst (λ x. x.wrote q ≡ true) (sym e) h;
  seized_settled = λ q h. ap (λ (x : Past). x.seized q) e;
  unregistered_settled = λ q h. ap (λ (x : Past). x.unregistered q) e;
}

pub ending_grows : (v : Initiator) → NodeGrows v (ending v)
ending_grows v = record { promised = grind arith; seized = λ q h. h; unregistered = λ q h. h; ended = λ q h. put_true_stays v.past.ended v.session q h; wrote = λ q h. h; seized_settled = λ q h. refl; unregistered_settled = λ q h. refl }

module _ (A : ℕ → Attempt) (d : Device) (top n : ℕ) (v : Initiator) (past : PastOk A n v.promised v.past) (ok : NodeOk A n v) (on : OnDevice A d top n v) where
  -- a claim by the valid mark was there before, where the mark was
  still : d.keys n ≡ true → v.valid ≡ true → Had d n v
  still key c = record { key = key; claim = inl c }

  -- a task is one of a session, which is the promise
  pub session_low : 0 < rank v.phase → v.session ≤ v.promised
  session_low h = let p : 0 < v.session = ok.busy h in let e : v.session ≡ v.promised = ok.session p in omega arith

  pub promising_steps : (q : ℕ) → v.promised < q → NodeSteps A d d top n v (promising v q)
  promising_steps q lt = quiet_steps A d d top n v (promising v q) (grind arith) still (grind arith) (grind arith)
      (record { promised = grind arith; seized = λ p h. h; unregistered = λ p h. h; ended = λ p h. h; wrote = λ p h. h; seized_settled = λ p h. refl; unregistered_settled = λ p h. refl })
      (Pasts.promising_past A n v q past lt)
      (NodeSession.promising_node A n v q ok lt fresh (not_true (v.past.wrote q) (λ h. let l = past.wrote_low q h in omega arith)) unseized
      (not_true (v.past.unregistered q) (λ h. let l = past.ended_low q (past.unregistered_ended q h) in omega arith)) (past.seizings_low q lt) (past.joinings_low q lt))
      (OnSession.promising_on A d top n v q ok on unseized)
    where
      fresh : v.past.ended q ≡ false
      fresh = not_true (v.past.ended q) (λ h. let l = past.ended_low q h in omega arith)

      unseized : v.past.seized q ≡ false
      unseized = not_true (v.past.seized q) (λ h. let l = past.ended_low q (past.seized_ended q h) in omega arith)

  pub crashing_steps : NodeSteps A d d top n v (crashing v)
  crashing_steps = quiet_steps A d d top n v (crashing v) (grind arith) still (grind arith) (grind arith) (keeps v (crashing v) refl refl) past
      (NodeSession.crashing_node A n v ok) (OnSession.crashing_on A d top n v ok on)

  pub seizing_steps : 0 < v.session → (A v.session).collected ≡ true → (A v.session).members n ≡ true → (A v.session).asked n ≡ true → v.installed < v.session → v.phase ≡ Phase.Idle
      → NodeSteps A d d top n v (seizing v (A v.session).quorum)
  seizing_steps p c m a lt idle = quiet_steps A d d top n v (seizing v (A v.session).quorum) (grind arith) still (grind arith) (grind arith)
      (record { promised = grind arith; seized = λ q h. h; unregistered = λ q h. h; ended = λ q h. h; wrote = λ q h. h; seized_settled = λ q h. refl; unregistered_settled = λ q h. refl })
      (Pasts.seizing_past A n v (A v.session).quorum past (let e : v.session ≡ v.promised = ok.session p in omega arith) (ok.seizings_none p (ap rank idle)))
      (NodeAsking.seizing_node A n v (A v.session).quorum ok p c m a refl lt idle) (OnSeizing.seizing_on A d top n v (A v.session).quorum ok on)

  pub checked_steps : v.phase ≡ Phase.Asked → v.valid ≡ true → NodeSteps A d d top n v (to_phase v Phase.Keyed)
  checked_steps at c = quiet_steps A d d top n v (to_phase v Phase.Keyed) (grind arith) still (grind arith) (grind arith) (keeps v (to_phase v Phase.Keyed) refl refl) past
      (NodeAsking.checked_node A n v ok at c) (OnSeizing.checked_on A d top n v ok on (grind arith))

  unended : 0 < v.session → rank v.phase ≤ 8 → v.past.seized v.session ≡ true → ⊥
  unended p r h = let e = past.seized_ended v.session h in let f = ok.running p r in absurd {A = ⊥} (cc)

  pub rejecting_steps : v.phase ≡ Phase.Asked → NodeSteps A d d top n v (rejecting v)
  rejecting_steps at = quiet_steps A d d top n v (rejecting v) (grind arith) still (grind arith) (grind arith)
      (record {
        promised = grind arith;
        seized = λ q h. h;
        unregistered = λ q h. put_true_stays v.past.unregistered v.session q h;
        ended = λ q h. put_true_stays v.past.ended v.session q h;
        wrote = λ q h. h;
        seized_settled = λ q h. refl;
        unregistered_settled = λ q h. put_there v.past.unregistered v.session true q (ended_other v.past.ended v.session q h (ok.running (ok.busy (grind arith)) (grind arith)));
      })
      (Pasts.rejecting_past A n v past (session_low (grind arith)) (ok.unwritten (ok.busy (grind arith)) (grind arith))
      (not_true (v.past.seized v.session) (unended (ok.busy (grind arith)) (grind arith))))
      (NodeAsking.rejecting_node A n v ok at) (OnSeizing.rejecting_on A d top n v ok on)

  pub unvalidated_steps : v.phase ≡ Phase.Asked → v.quorum ≡ false → NodeSteps A d d top n v (unvalidated v)
  unvalidated_steps at k = quiet_steps A d d top n v (unvalidated v) (grind arith) (grind arith) (grind arith) (grind arith) (keeps v (unvalidated v) refl refl) past
      (NodeAsking.unvalidated_node A n v ok at k) (OnSeizing.unvalidated_on A d top n v ok on)

  pub expecting_steps : (w : ℕ) → AsksWord v.phase → w < v.session → NodeSteps A d d top n v (expecting v w)
  expecting_steps w at lt = quiet_steps A d d top n v (expecting v w) (grind arith) still (grind arith) (grind arith) (keeps v (expecting v w) refl refl) past
      (NodeAsking.expecting_node A n v w ok at lt) (OnSeizing.expecting_on A d top n v w ok on)

  pub marked_steps : AsksWord v.phase → d.word ≡ v.session → NodeSteps A d d top n v (to_phase v Phase.Marked)
  marked_steps at e = quiet_steps A d d top n v (to_phase v Phase.Marked) (grind arith) still (grind arith) (grind arith) (keeps v (to_phase v Phase.Marked) refl refl) past
      (NodeAsking.marked_node A n v ok at) (OnSeizing.marked_on A d top n v ok on e)

  pub aiming_steps : (k : ℕ) → v.phase ≡ Phase.Reserved → (A v.session).members k ≡ false → NodeSteps A d d top n v (aiming v k)
  aiming_steps k at m = quiet_steps A d d top n v (aiming v k) (grind arith) still (grind arith) (grind arith) (keeps v (aiming v k) refl refl) past
      (NodeHolding.aiming_node A n v k ok at m) (OnSeizing.aiming_on A d top n v k ok on at)

  pub ending_steps : IsSeizing v.phase → NodeSteps A d d top n v (ending v)
  ending_steps at = quiet_steps A d d top n v (ending v) (grind arith) still (grind arith) (grind arith) (ending_grows v)
      (Pasts.ending_past A n v past (session_low (grind arith))) (NodeHolding.ending_node A n v ok at) (OnSeizing.ending_on A d top n v ok on)

  -- the one step after which the node knows that members alone are registered
  pub cleared_steps : v.phase ≡ Phase.Reserved → d.keys n ≡ true → ((k : ℕ) → d.keys k ≡ true → (A v.session).members k ≡ true) → NodeSteps A d d top n v (to_phase v Phase.Cleared)
  cleared_steps at key all = record {
    grows = keeps v (to_phase v Phase.Cleared) refl refl;
    past = past;
    node = NodeHolding.cleared_node A n v ok at;
    on = OnSeizing.cleared_on A d top n v ok on at key;
    alone = λ k u. record { valid = λ h w own c. all k own; seized = λ h w own c. all k own };
    claims = claims_stay A d d top n v (to_phase v Phase.Cleared) (grind arith) still (grind arith);
  }

  pub late_steps : IsJoining v.phase → NodeSteps A d d top n v (to_phase v Phase.Over)
  late_steps at = quiet_steps A d d top n v (to_phase v Phase.Over) (grind arith) still (grind arith) (grind arith) (keeps v (to_phase v Phase.Over) refl refl) past
      (NodeSession.late_node A n v ok at) (OnSession.late_on A d top n v ok on at)

  -- A node whose joining reads that the word is its session: no greater attempt holds the device, and of that one it is a member.
  pub admitted_steps : DeviceOk A d top → (A v.session).held ≡ true → v.phase ≡ Phase.Entered → d.word ≡ v.session → NodeSteps A d d top n v (admitted v)
  admitted_steps dev held at w = record {
    grows = keeps v (admitted v) refl refl;
    past = past;
    node = NodeSession.admitted_node A n v ok at;
    on = OnSession.admitted_on A d top n v ok on at (let a = dev.held_top v.session held in let b = dev.top_word in omega arith) dev.held_top;
    alone = not_alone A d (admitted v) (grind arith);
    claims = λ j u o x. claims_member A d n (admitted v) w (ok.member (grind arith)) u;
  }

  module _ (p : 0 < v.session) (counted : (A v.session).counted ≡ true) (collected : (A v.session).collected ≡ true) (member : (A v.session).members n ≡ true) (lt : v.installed < v.session) where
    pub installing_steps : NodeSteps A d d top n v (installing v)
    installing_steps = quiet_steps A d d top n v (installing v) (grind arith) still (grind arith) (grind arith) (keeps v (installing v) refl refl) past
        (NodeSession.installing_node A n v ok p counted collected member lt) (OnSession.installing_on A d top n v ok on lt)

    pub seized_steps : (A v.session).holds ≡ true → v.phase ≡ Phase.Seized → NodeSteps A d d top n v (admitted (installing v))
    seized_steps holds at = quiet_steps A d d top n v (admitted (installing v)) (grind arith) (λ key c. record { key = key; claim = inr (ap rank at) }) (grind arith) (grind arith)
        (keeps v (admitted (installing v)) refl refl) past
        (NodeSession.joined_node A n v ok p counted collected member lt holds) (OnSession.seized_on A d top n v ok on lt at)

    pub known_steps : (A v.session).holds ≡ true → v.valid ≡ true → NodeSteps A d d top n v (admitted (installing v))
    known_steps holds c = quiet_steps A d d top n v (admitted (installing v)) (grind arith) (λ key _. still key c) (grind arith) (grind arith)
        (keeps v (admitted (installing v)) refl refl) past
        (NodeSession.joined_node A n v ok p counted collected member lt holds) (OnSession.known_on A d top n v ok on lt c)

    pub joining_steps : (A v.session).holds ≡ true → NodeSteps A d d top n v (joining v)
    joining_steps holds = quiet_steps A d d top n v (joining v) (grind arith) (grind arith) (grind arith) (grind arith)
        (record { promised = grind arith; seized = λ q h. h; unregistered = λ q h. h; ended = λ q h. h; wrote = λ q h. h; seized_settled = λ q h. refl; unregistered_settled = λ q h. refl })
        (Pasts.joining_past A n v past (let e : v.session ≡ v.promised = ok.session p in omega arith) (ok.joinings_none p lt))
        (NodeSession.joining_node A n v ok p counted collected member lt holds) (OnSession.joining_on A d top n v ok on)
