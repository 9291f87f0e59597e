-- The line of a command shows nothing of a number that its node has not promised.
use Rattle.std.specs.Prelude.{Bool, List, None, Option, Some, false, not, suc, true, zero, ℕ, ◌&&◌, ◌<◌, ◌==◌, ◌∷◌, ◌≡◌, ◌≤◌}
use Rattle.std.proofs.Common.{ap, arith, refl, subst, sym, ◌∙◌}
use Rattle.cl_base.specs.declared.header.Header.{Header}
use Rattle.history.specs.Member as member
use Rattle.history.specs.Moment.{Moment, Told}
use Rattle.history.specs.Seizing.{Begun, acts_for, is_number, progress_of}
use Rattle.node_model.specs.Seats.{session_of}
use Rattle.node_model.specs.declared.node.UpNode.{UpNode}
use Rattle.pgr_device.specs.declared.command.PrCommand.{PrCommand}
use Rattle.status_report.specs.declared.device_entry.DeviceAnswer.{DeviceAnswer}
use Rattle.status_report.specs.declared.device_entry.DeviceEntry.TheVariants as device_entry
use Rattle.status_report.specs.declared.entry.Entry.TheVariants as entry
use Rattle.run_seizings.proofs.Progress.{not_same}
use Rattle.run_seizings.specs.Seized.{has_installed}
use Rattle.run_devices.proofs.readings.Aside.{apart_shows}
use Rattle.run_devices.specs.readings.Sites.{UpSo}

-- ---- a node acts for no number that it has not promised

not_for : (e : ℕ) (o : Option ℕ) (ms : List Moment) (n : ℕ) → member.session_of n ms ≡ o → is_number e o ≡ false → acts_for n e ms ≡ false
not_for e o ms n is none = ap (λ z. is_number e z && not (has_installed n e ms)) is ∙ ap (λ b. b && not (has_installed n e ms)) none

pub acts_not : (h : Header) (ms : List Moment) (n e promised : ℕ) (x : UpNode) → UpSo h ms n x → (0 < session_of x → session_of x ≤ promised) → promised < e
    → acts_for n e ms ≡ false
acts_not h ms n e promised x up low above = by_session (session_of x) refl
  where
    other : (q : ℕ) → q ≤ promised → (q == e) ≡ false
    other q k = not_same q e (λ same. too_low q promised e k above same)
      where
        too_low : (a b f : ℕ) → a ≤ b → b < f → a ≡ f → ⊥
        too_low a b f l m same = grind arith

    some_of : (k : ℕ) → 0 < suc k
    some_of k = omega arith

    by_session : (q : ℕ) → session_of x ≡ q → acts_for n e ms ≡ false
    by_session zero is = not_for e None ms n (up.outside is) refl
    by_session (suc k) is =
        let some : 0 < session_of x = subst (λ z. 0 < z) (sym is) (some_of k) in
        not_for e (Some (session_of x)) ms n (up.session some) (other (session_of x) (low some))

-- the line of a command shows nothing of it
pub line_unseen : (h : Header) (ms : List Moment) (n at e d promised : ℕ) (x : UpNode) (k : PrCommand) (a : DeviceAnswer) → UpSo h ms n x
    → (0 < session_of x → session_of x ≤ promised) → promised < e → progress_of h n e d ms ≡ Begun
    → progress_of h n e d (Told (entry.Device (device_entry.Command n at k a)) ∷ ms) ≡ Begun
line_unseen h ms n at e d promised x k a up low above begun =
    apart_shows h ms n e d n at k a (second (at == d) (acts_for n e ms) (acts_not h ms n e promised x up low above)) ∙ begun
  where
    second : (b c : Bool) → c ≡ false → (b && c) ≡ false
    second true c is = is
    second false c is = refl
