-- The four calls of a mounting or a save, and the stop that may come in one of them.
use Rattle.std.proofs.Common.{◌≡◌, ℕ, ◌-◌, List, Bool, true, false, refl, sym, ◌∙◌, ap}
use Rattle.std.specs.Prelude.{Option, Some, None, if◌then◌else◌, nat_le, ◌==◌, unwrap_or}
use Rattle.std.proofs.lemmas.Bool.{lt-leb, le-leb, eq-eqb}
use Rattle.local_disk.specs.declared.memory.Choice.{Choice}
use Rattle.local_disk.specs.declared.memory.Stop.{Stop}
use Rattle.local_disk.specs.LocalDisk.{TakesCalls}
use Rattle.local_disk.specs.Memory.{calls_of, choice_of, has_stopped, still_armed}
use Rattle.record_store.specs.Images.{other_slot}
use Rattle.record_store.specs.Store.{Held, Gives, LeavesBy, replaced}
use Rattle.record_disk.specs.Disks.{stops_in_four, after_four, stands_after}

abbrev stop_of : ℕ → Choice → Option Stop
stop_of calls choice = Some (record { calls = calls; choice = choice })

-- where all succeed
pub record Good (before after : Option Stop) : Type 0 where
  pub none : stops_in_four before ≡ false
  pub left : after ≡ after_four before

pub good : (before after : Option Stop) → TakesCalls false 4 (calls_of before) (calls_of after) true → choice_of after ≡ choice_of before → Good before after
good None None is same = record { none = refl; left = refl }
good None (Some stop) is same = absurd (cc (is))
good (Some stop) None is same = absurd (cc (is.1))
good (Some stop) (Some now) is same =
    let late : nat_le stop.calls 4 ≡ false = lt-leb stop.calls 4 is.0 in
    let calls : now.calls ≡ stop.calls - 4 = ap (λ (o : Option ℕ). unwrap_or o 0) is.1 in
    record {
      none = late;
      left = ap (λ (n : ℕ). stop_of n now.choice) calls ∙ ap (stop_of (stop.calls - 4)) same ∙ sym (ap (λ (b : Bool). if b then None else stop_of (stop.calls - 4) stop.choice) late);
    }

-- where one fails; a crash follows
pub record Bad (before stop : Option Stop) : Type 0 where
  pub comes : stops_in_four before ≡ true
  pub stopped : has_stopped stop ≡ true
  pub left : still_armed stop ≡ after_four before

pub bad : (before stop : Option Stop) → TakesCalls false 4 (calls_of before) (calls_of stop) false → Bad before stop
bad None stop is = absurd (cc (is.0))
bad (Some first) None is = absurd (cc (is.1))
bad (Some first) (Some stop) is =
    let soon : nat_le first.calls 4 ≡ true = le-leb first.calls 4 is.0 in
    let none : stop.calls ≡ 0 = ap (λ (o : Option ℕ). unwrap_or o 0) is.1 in
    let came : (stop.calls == 0) ≡ true = eq-eqb stop.calls 0 none in
    record {
      comes = soon;
      stopped = came;
      left = ap (λ (b : Bool). if b then None else Some stop) came ∙ sym (ap (λ (b : Bool). if b then None else stop_of (first.calls - 4) first.choice) soon);
    }

-- what the stop leaves, where it came
pub gives_after : (stop : Option Stop) (held : Held) (text image : List ℕ) → stops_in_four stop ≡ true → LeavesBy (calls_of stop) (choice_of stop) held (replaced held text) image
    → Gives (if stands_after stop (other_slot held.slot) then replaced held text else held) image
gives_after None held text image comes leaves = absurd (cc (comes))
gives_after (Some stop) held text image comes leaves = leaves
