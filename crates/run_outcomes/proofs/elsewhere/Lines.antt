-- What lines of other nodes leave of the tasks of a node, of whether its queue is open, and of whether it leads.
use Rattle.std.specs.Prelude.{ℕ, ◌≡◌, ◌≢◌, ◌==◌, false, List, [], ◌∷◌, ◌++◌, Option, None, Some}
use Rattle.std.specs.List.{AllByRecursion}
use Rattle.std.proofs.Common.{refl, ap, ◌∙◌}
use Rattle.history.specs.Letters.{letter_of}
use Rattle.history.specs.Member.{attempt_of}
use Rattle.history.specs.Messages.{onto}
use Rattle.history.specs.Moment.{Moment}
use Rattle.history.specs.Queue as told
use Rattle.history.specs.Setting.{Setting}
use Rattle.history.specs.Trace.{delivered}
use Rattle.run_devices.specs.queues.Told.{leads, leads_for}
use Rattle.run_outcomes.specs.tasks.Lasting.{drops, lasts_open}
use Rattle.run_outcomes.specs.tasks.Quiet.{AreQuiet, IsQuiet}
use Rattle.run_outcomes.proofs.told_tasks.Closed.{closed_all, closed_before, quiet_clears, same_acts}
use Rattle.run_outcomes.proofs.told_tasks.Quiet.{differs, if_off, quiet_tasks, same_number_of, same_tasks}

-- it is quiet for node n, or a packet comes to another node
abbrev pub IsElsewhere : ℕ → List Moment → Moment → Type 0
IsElsewhere n ms (delivered p a m) = m ≢ n
IsElsewhere n ms x = IsQuiet n ms x

-- ---- one line

elsewhere_tasks : (S : Setting) (n : ℕ) (ms : List Moment) (x : Moment) → IsElsewhere n ms x → told.tasks_of S n (x ∷ ms) ≡ told.tasks_of S n ms
elsewhere_tasks S n ms (delivered p a m) k =
    if_off (m == n) (told.with_own S n (attempt_of n ms) (delivered p a m ∷ ms) (told.requested S n (letter_of p ms) ms (told.tasks_of S n ms))) (told.tasks_of S n ms) (differs m n k)
elsewhere_tasks S n ms x k = quiet_tasks S n ms x k

elsewhere_drops : (n : ℕ) (ms : List Moment) (x : Moment) → IsElsewhere n ms x → drops n ms x ≡ false
elsewhere_drops n ms (delivered p a m) k = refl
elsewhere_drops n ms x k = quiet_clears n ms x k

pub leads_quiet : (n : ℕ) (ms newer : List Moment) → AreQuiet n ms newer → leads n (newer ++ ms) ≡ leads n ms
leads_quiet n ms newer k = ap (λ o. leads_for n o (newer ++ ms)) (same_number_of n ms newer k) ∙ by_number (attempt_of n ms)
  where
    by_number : (o : Option ℕ) → leads_for n o (newer ++ ms) ≡ leads_for n o ms
    by_number None = refl
    by_number (Some e) = same_acts n e ms newer k

delivered_leads : (n p a m : ℕ) (ms : List Moment) (o : Option ℕ) → leads_for n o (delivered p a m ∷ ms) ≡ leads_for n o ms
delivered_leads n p a m ms None = refl
delivered_leads n p a m ms (Some e) = refl

elsewhere_leads : (n : ℕ) (ms : List Moment) (x : Moment) → IsElsewhere n ms x → leads n (x ∷ ms) ≡ leads n ms
elsewhere_leads n ms (delivered p a m) k = delivered_leads n p a m ms (attempt_of n ms)
elsewhere_leads n ms x k = leads_quiet n ms (x ∷ []) (k, tt)

-- ---- lines, one after another

-- n has its tasks still, its queue is no longer open than it was, and it leads where it did
pub record Leaves (S : Setting) (n : ℕ) (before after : List Moment) : Type 0 where
  pub tasks : told.tasks_of S n after ≡ told.tasks_of S n before
  pub closed : lasts_open S n after ≡ false → lasts_open S n before ≡ false
  pub leading : leads n after ≡ leads n before

pub none_leaves : (S : Setting) (n : ℕ) (ms : List Moment) → Leaves S n ms ms
none_leaves S n ms = record { tasks = refl; closed = λ k. k; leading = refl }

pub leaves_on : (S : Setting) (n : ℕ) (a b d : List Moment) → Leaves S n a b → Leaves S n b d → Leaves S n a d
leaves_on S n a b d h k = record { tasks = k.tasks ∙ h.tasks; closed = λ shut. h.closed (k.closed shut); leading = k.leading ∙ h.leading }

pub one_leaves : (S : Setting) (n : ℕ) (ms : List Moment) (x : Moment) → IsElsewhere n ms x → Leaves S n ms (x ∷ ms)
one_leaves S n ms x k = record {
  tasks = elsewhere_tasks S n ms x k;
  closed = λ shut. closed_before S n ms x (elsewhere_drops n ms x k) shut;
  leading = elsewhere_leads n ms x k;
}

-- each of them is elsewhere, the first one first
abbrev pub AreElsewhere : ℕ → List Moment → Type 0
AreElsewhere n entries = AllByRecursion (λ x. (ms : List Moment) → IsElsewhere n ms x) entries

pub all_leave : (S : Setting) (n : ℕ) (ms entries : List Moment) → AreElsewhere n entries → Leaves S n ms (onto ms entries)
all_leave S n ms [] k = none_leaves S n ms
all_leave S n ms (x ∷ entries) k = leaves_on S n ms (x ∷ ms) (onto (x ∷ ms) entries) (one_leaves S n ms x (k.0 ms)) (all_leave S n (x ∷ ms) entries k.1)

-- the newest first, and quiet
pub quiet_leave : (S : Setting) (n : ℕ) (ms newer : List Moment) → AreQuiet n ms newer → Leaves S n ms (newer ++ ms)
quiet_leave S n ms newer k = record { tasks = same_tasks S n ms newer k; closed = λ shut. closed_all S n ms newer k shut; leading = leads_quiet n ms newer k }
