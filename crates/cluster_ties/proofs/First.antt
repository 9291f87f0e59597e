-- The first state is in order, and so is each that is reached.
use Rattle.std.specs.Prelude.{ℕ, Bool, false, []}
use Rattle.std.proofs.Common.{refl, arith}
use Rattle.cluster_machine.specs.Cluster.{Cluster as Whole}
use Rattle.cluster_machine.proofs.Whole.{InOrder, run_goes}
use Rattle.device_machine.specs.Attempt.{no_attempt}
use Rattle.device_machine.specs.Device.{first_device}
use Rattle.device_machine.specs.Initiator.{first_initiator}
use Rattle.device_machine.proofs.Invariant.{Inv, OnDevice}
use Rattle.device_machine.proofs.Kept.{first_ok}
use Rattle.membership_machine.specs.Votes.{Setting}
use Rattle.membership_machine.proofs.Preserved.{first_holds}
use Rattle.device_ties.proofs.FirstKeys.{first_keys_tied}
use Rattle.device_ties.proofs.Others.{first_tied}
use Rattle.pgr_device.specs.Device as pgr
use Rattle.cl_base.specs.declared.header.DeviceKind.TheVariants.{Data, Quorum, Server}
use Rattle.cluster_ties.specs.Moves.{IsReached, first_whole}
use Rattle.cluster_ties.specs.Laws.{FirstDevicesAreTied, FirstIsTied}

first_on : (registered : ℕ → Bool) (n : ℕ) (valid : Bool) → OnDevice (λ _. no_attempt) (first_device registered) 0 n (first_initiator valid)
first_on registered n valid = record {
  word = grind arith;
  reserved_own = grind arith;
  reserved = grind arith;
  valid_top = grind arith;
  seized_top = grind arith;
  valid_held = λ e. grind arith;
  seized_held = λ e. grind arith;
  quorum_held = λ e. grind arith;
  seized_showed = λ q e. grind arith;
}

first_device_ok : (registered valid : ℕ → ℕ → Bool) (d : ℕ) → Inv ((first_whole registered valid).device d)
first_device_ok registered valid d = record {
  past = (first_ok (registered d)).past;
  node = (first_ok (valid d)).node;
  on = λ n. first_on (registered d) n (valid d n);
  alone = λ n k. record { valid = grind arith; seized = grind arith };
  attempt = (first_ok (valid d)).attempt;
  device = (first_ok (registered d)).device;
}

first_in_order : (S : Setting) (registered valid : ℕ → ℕ → Bool) → InOrder S (first_whole registered valid)
first_in_order S registered valid = record {
  memberships = first_holds S;
  device = first_device_ok registered valid;
  agrees = λ d. record {
    node = λ n. record { promised = refl; session = refl; installed = refl; showed = λ q. refl };
    attempt = λ q. record { tried = λ c. c; members = λ c m. refl; counted = refl; holds = λ c. refl; quorum = λ c. absurd (cc) };
  };
}

pub in_order : (S : Setting) (W : Whole) → IsReached S W → InOrder S W
in_order S W r = (run_goes S (first_whole r.registered r.valid) r.events W (first_in_order S r.registered r.valid) r.run).in_order

-- The nodes and the devices at first.

pub first_devices_are_tied : FirstDevicesAreTied
first_devices_are_tied Quorum attached configured cluster = first_keys_tied cluster attached configured
first_devices_are_tied Data attached configured cluster = first_tied cluster (pgr.fresh attached) (λ n. false) tt (λ n. refl) refl refl refl
first_devices_are_tied Server attached configured cluster = first_tied cluster (pgr.fresh attached) (λ n. false) tt (λ n. refl) refl refl refl

pub first_is_tied : FirstIsTied
first_is_tied S c registered valid devices disk tied marks = record {
  reached = record { registered = registered; valid = valid; events = []; run = refl };
  devices_so = tied;
  at = λ n d. record { valid = marks d n; joined = refl };
}
