-- The cluster of a header has the numbers that it may have.
use Rattle.cl_base.specs.Limits.{most_devices}
use Rattle.cl_base.specs.declared.header.Header.{Header}
use Rattle.cl_base.specs.declared.header.HeaderDevice.{HeaderDevice}
use Rattle.cmm_attempt.specs.Calls.{IsDevice}
use Rattle.refinement.proofs.Lines.{few_attached}
use Rattle.run_history.specs.Stages.{Sized}
use Rattle.std.proofs.Common.{arith}
use Rattle.std.proofs.lemmas.List.Elements.{All-cons, All-nil}
use Rattle.std.specs.Prelude.{ℕ, suc, ◌+◌, ◌≤◌, ◌<◌, ◌^◌, All, List, [], ◌∷◌, length}
use Rattle.world_model.specs.First.{attached_from, first_cluster}

-- the devices of the header
attached_fit : (number : ℕ) (ds : List HeaderDevice) → 1 ≤ number → number + length ds ≤ 17 → All IsDevice (attached_from number ds)
attached_fit number [] low high = All-nil IsDevice
attached_fit number (d ∷ ds) low high =
    All-cons IsDevice _ _ (low, below number (length ds) high) (attached_fit (number + 1) ds (more number) (same number (length ds) high))
  where
    below : (a b : ℕ) → a + suc b ≤ 17 → a ≤ 16
    below a b h = omega arith

    more : (a : ℕ) → 1 ≤ a + 1
    more a = omega arith

    same : (a b : ℕ) → a + suc b ≤ 17 → (a + 1) + b ≤ 17
    same a b h = omega arith

pub header_sized : (h : Header) → length h.devices ≤ most_devices → h.cluster < 2 ^ 32 → Sized (first_cluster h)
header_sized h devices small = record {
  fits = record {
    devices = record { few = few_attached 1 h.devices devices; attached = attached_fit 1 h.devices one_is_low (numbers_high (length h.devices) devices) };
  };
  small = small;
}
  where
    one_is_low : 1 ≤ 1
    one_is_low = omega arith

    numbers_high : (k : ℕ) → k ≤ 16 → 1 + k ≤ 17
    numbers_high k l = omega arith
