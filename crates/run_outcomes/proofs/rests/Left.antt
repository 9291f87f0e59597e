-- What a step of a node leaves of its tasks, where it has no attempt after it.
use Rattle.std.specs.Prelude.{ℕ, ◌≡◌, ◌⊎◌, ◌++◌, true, false, List, ◌∷◌, None, Some}
use Rattle.std.proofs.Common.{sym, ap, subst, ◌∙◌, append_assoc, inl, inr}
use Rattle.cmm_attempt.proofs.Basics.{false_true, none_some}
use Rattle.cmm_attempt.specs.Attempts.{AttemptState}
use Rattle.cmm_attempt.specs.declared.step.AttemptEnd.{AttemptEnd}
use Rattle.cmm_attempt.specs.declared.step.AttemptEnd.TheVariants as end
use Rattle.device_queue.specs.declared.task.Task.{Task}
use Rattle.history.specs.Setting.{coordinator}
use Rattle.node_model.specs.Attempts.{ended_entry}
use Rattle.node_model.specs.Seats.{installed_of, session_of, state_of}
use Rattle.node_model.specs.declared.node.UpNode.{UpNode}
use Rattle.node_model.specs.declared.output.Output.{Output}
use Rattle.node_model.specs.declared.output.Output.TheVariants.{Tells}
use Rattle.node_model.specs.declared.seat.Seat.{Seat}
use Rattle.run_history.proofs.Lists.{both}
use Rattle.status_report.specs.declared.attempt_entry.AttemptEntry.TheVariants as tried
use Rattle.status_report.specs.declared.entry.Entry.{Entry}
use Rattle.status_report.specs.declared.entry.Entry.TheVariants as entry
use Rattle.run_outcomes.specs.tasks.Onward.{AreStill, IsStill, StillEntry}
use Rattle.run_outcomes.proofs.rests.Drops.{NoneQueued, is_dropping}

-- with this line `history` drops the tasks of n, whose attempt ends so
abbrev pub DropsEntry : ℕ → Entry → Type 0
DropsEntry n (entry.Attempt (tried.Votes e have need lacking)) = coordinator e ≡ n
DropsEntry n (entry.Attempt (tried.Excluded e m)) = coordinator e ≡ n
DropsEntry n (entry.Attempt (tried.Foreign e m)) = coordinator e ≡ n
DropsEntry n _ = ⊥

-- it is given, and behind it nothing that changes the tasks
pub record Dropped (n : ℕ) (all : List Output) : Type 0 where
  pub before : List Output
  pub line : Entry
  pub after : List Output
  pub parts : all ≡ before ++ Tells line ∷ after
  pub drops : DropsEntry n line
  pub still : AreStill n after

-- the node has installed its session
abbrev pub IsInstalled : UpNode → Type 0
IsInstalled y = installed_of y ≡ session_of y

-- Either it has these tasks, and nothing that was given changes them, for the reason C; or `history` drops its tasks, and none is queued; or it has installed its session.
abbrev pub Left : ℕ → Type 0 → List Task → UpNode → List Output → Type 0
Left n C ts y all = (C × (y.tasks ≡ ts) × AreStill n all) ⊎ ((NoneQueued y.tasks × Dropped n all) ⊎ IsInstalled y)

abbrev pub IsLeft : ℕ → Type 0 → List Task → UpNode → List Output → Type 0
IsLeft n C ts y all = y.attempt ≡ None → Left n C ts y all

-- ---- an attempt is under way yet

pub alive_left : (n : ℕ) (C : Type 0) (ts : List Task) (y : UpNode) (all : List Output) (a : AttemptState) → y.attempt ≡ Some a → IsLeft n C ts y all
alive_left n C ts y all a at none = absurd (none_some a (sym none ∙ at))

-- ---- more is given

dropped_more : (n : ℕ) (all more : List Output) → AreStill n more → Dropped n all → Dropped n (all ++ more)
dropped_more n all more still d = record {
  before = d.before;
  line = d.line;
  after = d.after ++ more;
  parts = ap (λ os. os ++ more) d.parts ∙ append_assoc d.before (Tells d.line ∷ d.after) more;
  drops = d.drops;
  still = both (IsStill n) d.after more d.still still;
}

pub dropped_behind : (n : ℕ) (os all : List Output) → Dropped n all → Dropped n (os ++ all)
dropped_behind n os all d = record {
  before = os ++ d.before;
  line = d.line;
  after = d.after;
  parts = ap (λ more. os ++ more) d.parts ∙ sym (append_assoc os d.before (Tells d.line ∷ d.after));
  drops = d.drops;
  still = d.still;
}

pub left_more : (n : ℕ) (C : Type 0) (ts : List Task) (y z : UpNode) (all more : List Output) → z.attempt ≡ y.attempt → z.tasks ≡ y.tasks → z.seat ≡ y.seat → AreStill n more → IsLeft n C ts y all → IsLeft n C ts z (all ++ more)
left_more n C ts y z all more attempt tasks seat still h none = by_way (h (sym attempt ∙ none))
  where
    by_way : Left n C ts y all → Left n C ts z (all ++ more)
    by_way (inl k) = inl (k.0, tasks ∙ k.1, both (IsStill n) all more k.2 still)
    by_way (inr (inl k)) = inr (inl (subst NoneQueued (sym tasks) k.0, dropped_more n all more still k.1))
    by_way (inr (inr k)) = inr (inr (subst (λ (s : Seat). (state_of s).saved.installed ≡ (state_of s).session) (sym seat) k))

pub left_behind : (n : ℕ) (C : Type 0) (ts : List Task) (y : UpNode) (os all : List Output) → AreStill n os → IsLeft n C ts y all → IsLeft n C ts y (os ++ all)
left_behind n C ts y os all still h none = by_way (h none)
  where
    by_way : Left n C ts y all → Left n C ts y (os ++ all)
    by_way (inl k) = inl (k.0, k.1, both (IsStill n) os all still k.2)
    by_way (inr (inl k)) = inr (inl (k.0, dropped_behind n os all k.1))
    by_way (inr (inr k)) = inr (inr k)

-- ---- the line of an end

pub leaving_still : (n e : ℕ) (x : AttemptEnd) → is_dropping x ≡ false → StillEntry n (entry.Attempt (ended_entry e x))
leaving_still n e (end.Votes have need lacking) leaves = absurd (false_true (sym leaves))
leaving_still n e (end.Foreign m) leaves = absurd (false_true (sym leaves))
leaving_still n e (end.Excluded m) leaves = absurd (false_true (sym leaves))
leaving_still n e (end.Superseded q) leaves = tt
leaving_still n e (end.Silent m) leaves = tt

pub dropping_line : (n e : ℕ) (x : AttemptEnd) → is_dropping x ≡ true → coordinator e ≡ n → DropsEntry n (entry.Attempt (ended_entry e x))
dropping_line n e (end.Votes have need lacking) drops own = own
dropping_line n e (end.Foreign m) drops own = own
dropping_line n e (end.Excluded m) drops own = own
dropping_line n e (end.Superseded q) drops own = absurd (false_true drops)
dropping_line n e (end.Silent m) drops own = absurd (false_true drops)
