-- A step of one node, with the device or without, and a step of one attempt: what has to be shown of the one that steps, so that all else stays.
use Rattle.std.proofs.Common.{◌≡◌, ◌≢◌, ℕ, refl}
use Rattle.machine_base.specs.Put.{put}
use Rattle.machine_base.proofs.Puts.{put_cases}
use Rattle.device_machine.specs.Device.{Device}
use Rattle.device_machine.specs.Initiator.{Initiator}
use Rattle.device_machine.specs.Attempt.{Attempt}
use Rattle.device_machine.specs.Sharing.{Sharing, at_node, at_device, at_attempt}
use Rattle.device_machine.specs.Growth.{AttemptGrows, NodeGrows, Grows}
use Rattle.device_machine.proofs.Invariant.{PastOk, NodeOk, OnDevice, Alone, AttemptOk, DeviceOk, Inv}
use Rattle.device_machine.proofs.Growth.{Leaves, attempt_same, node_same, leaves_same, past_stays, node_stays, on_stays, device_stays, alone_stays, attempt_stays}

-- an event led from s to t: t is in order, and s grew to it
pub record Goes (s t : Sharing) : Type 0 where
  pub inv : Inv t
  pub grows : Grows s t

-- What is to be shown of node n, which becomes v' while the device becomes d'.
pub record NodeSteps (A : ℕ → Attempt) (d d' : Device) (top : ℕ) (n : ℕ) (v v' : Initiator) : Type 0 where
  pub grows : NodeGrows v v'
  pub past : PastOk A n v'.promised v'.past
  pub node : NodeOk A n v'
  pub on : OnDevice A d' top n v'
  -- it has read nobody's keys but members', or this step is that reading
  pub alone : (k : ℕ) (u : Initiator) → Alone A d' v' k u
  -- to any other node, past its reading, it is a member, or claims no more than before
  pub claims : (j : ℕ) (u : Initiator) → OnDevice A d top j u → Alone A d u n v → Alone A d' u n v'

pub kept_at_device : (s : Sharing) (n : ℕ) (v' : Initiator) (d' : Device) → Inv s → ((k : ℕ) → k ≢ n → Leaves s.device d' k)
    → NodeSteps s.attempt s.device d' s.top n (s.node n) v' → DeviceOk s.attempt d' s.top → Goes s (at_device s n v' d')
kept_at_device s n v' d' i l t dev = record {
  inv = record {
    past = put_cases (λ k x. PastOk s.attempt k x.promised x.past) s.node n v' t.past (λ k ne. i.past k);
    node = put_cases (λ k x. NodeOk s.attempt k x) s.node n v' t.node (λ k ne. i.node k);
    on = put_cases (λ k x. OnDevice s.attempt d' s.top k x) s.node n v' t.on
        (λ k ne. on_stays s.attempt s.attempt same_attempts (λ e. refl) s.node s.device d' s.top k (s.node k) (l k ne) i.attempt i.device (i.past k) (i.on k));
    alone = λ j k. put_cases (λ m x. Alone s.attempt d' x k (put s.node n v' k)) s.node n v' (t.alone k (put s.node n v' k))
        (λ m ne. put_cases (λ h y. Alone s.attempt d' (s.node m) h y) s.node n v'
        (t.claims m (s.node m) (i.on m) (i.alone m n))
        (λ h off. alone_stays s.attempt s.attempt s.device d' s.top m h (s.node m) (s.node h) same_attempts (l h off) (i.node m) (i.on m) (i.alone m h)) k) j;
    attempt = λ q. attempt_stays s.node (put s.node n v') q (s.attempt q) grown (i.attempt q);
    device = dev;
  };
  grows = record { node = grown; attempt = same_attempts };
}
  where
    grown : (k : ℕ) → NodeGrows (s.node k) (put s.node n v' k)
    grown = put_cases (λ k x. NodeGrows (s.node k) x) s.node n v' t.grows (λ k ne. node_same (s.node k))

    same_attempts : (q : ℕ) → AttemptGrows (s.attempt q) (s.attempt q)
    same_attempts q = attempt_same (s.attempt q)

pub kept_at_node : (s : Sharing) (n : ℕ) (v' : Initiator) → Inv s → NodeSteps s.attempt s.device s.device s.top n (s.node n) v' → Goes s (at_node s n v')
kept_at_node s n v' i t = kept_at_device s n v' s.device i (λ k ne. leaves_same s.device k) t i.device

pub kept_at_attempt : (s : Sharing) (q : ℕ) (e : Attempt) → Inv s → AttemptGrows (s.attempt q) e → e.held ≡ (s.attempt q).held → AttemptOk s.node q e → Goes s (at_attempt s q e)
kept_at_attempt s q e i g same ok = record {
  inv = record {
    past = λ n. past_stays s.attempt (put s.attempt q e) n (s.node n).promised (s.node n).past grows (i.past n);
    node = λ n. node_stays s.attempt (put s.attempt q e) n (s.node n) grows (i.node n);
    on = λ n. on_stays s.attempt (put s.attempt q e) grows held_same s.node s.device s.device s.top n (s.node n) (leaves_same s.device n) i.attempt i.device (i.past n) (i.on n);
    alone = λ n k. alone_stays s.attempt (put s.attempt q e) s.device s.device s.top n k (s.node n) (s.node k) grows (leaves_same s.device k) (i.node n) (i.on n) (i.alone n k);
    attempt = put_cases (λ k x. AttemptOk s.node k x) s.attempt q e ok (λ k ne. i.attempt k);
    device = device_stays s.attempt (put s.attempt q e) grows held_same s.node s.device s.top i.attempt i.device;
  };
  grows = record { node = λ n. node_same (s.node n); attempt = grows };
}
  where
    grows : (k : ℕ) → AttemptGrows (s.attempt k) (put s.attempt q e k)
    grows = put_cases (λ k x. AttemptGrows (s.attempt k) x) s.attempt q e g (λ k ne. attempt_same (s.attempt k))

    held_same : (k : ℕ) → (put s.attempt q e k).held ≡ (s.attempt k).held
    held_same = put_cases (λ k x. x.held ≡ (s.attempt k).held) s.attempt q e same (λ k ne. refl)
