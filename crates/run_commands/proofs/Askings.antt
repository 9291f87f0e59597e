-- A command, or a monitor, takes the next number: it waits, and so do those that waited.
use Rattle.std.specs.Prelude.{ℕ, ◌≡◌, ◌≢◌, ◌≤◌, ◌<◌, ◌+◌, ◌++◌, true, false, List, [], ◌∷◌}
use Rattle.std.proofs.Common.{sym, subst, ◌∙◌, arith}
use Rattle.request_queue.specs.declared.request.Request.{Request}
use Rattle.history.specs.Moment.{Moment}
use Rattle.history.specs.Trace.{asked}
use Rattle.run_history.proofs.Lists.{all_and}
use Rattle.run_commands.specs.Guards.Hand.{Free, Held}
use Rattle.run_commands.proofs.Owed.{AreLow, IsDue, Others, Owed, due_by, is_told, is_untold, not_told, once_and, tally_and}
use Rattle.run_commands.proofs.Tallies.{asked_more, le_then, tally, waiting_of}
use Rattle.run_commands.proofs.Waiting.{asked_here, asked_monitors, asked_still, monitors_of}

above : (k a q : ℕ) → q ≡ a + 1 → k ≤ a → k ≢ q
above k a q is low = grind arith

less_up : (k a q : ℕ) → q ≡ a + 1 → k ≤ a → k ≤ q
less_up k a q is low = grind arith

no_more : (k : ℕ) → k ≤ k
no_more k = omega arith

others_above : (top q : ℕ) (rs : List Request) → q ≡ top + 1 → AreLow top rs → Others q rs
others_above top q [] is low = tt
others_above top q (r ∷ rs) is low = (above r.number top q is low.0, others_above top q rs is low.1)

low_up : (top q : ℕ) (rs : List Request) → q ≡ top + 1 → AreLow top rs → AreLow q rs
low_up top q [] is low = tt
low_up top q (r ∷ rs) is low = (less_up r.number top q is low.0, low_up top q rs is low.1)

-- by a command
next_above : (a q k : ℕ) → q ≡ a + 1 → q < k → a < k
next_above a q k is above = grind arith

next_is_above : (a q : ℕ) → q ≡ a + 1 → a < q
next_is_above a q is = grind arith

up_one : (a b : ℕ) → a ≤ b → 1 + a ≤ 1 + b
up_one a b h = omega (arith, h)

pub owed_asked : (n : ℕ) (ms : List Moment) (before q : ℕ) (waiting : List Request) → q ≡ before + 1 → Owed n ms Free before waiting → Owed n (asked n q ∷ ms) (Held q) q waiting
owed_asked n ms before q waiting is d = record {
  due = due_by n ms (asked n q ∷ ms) waiting (λ k h. asked_still n n q k ms h) d.due;
  once = d.once;
  low = low_up before q waiting is d.low;
  fresh = λ k above. d.fresh k (next_above before q k is above);
  monitors = le_then (tally is_untold waiting) (monitors_of n ms) (monitors_of n (asked n q ∷ ms)) d.monitors (asked_monitors n n q ms);
  most = le_then (waiting_of n (asked n q ∷ ms)) (1 + waiting_of n ms) (1 + tally is_told waiting) (asked_more n q ms) (up_one (waiting_of n ms) (tally is_told waiting) d.most);
  hand = (asked_here n q ms (d.fresh q (next_is_above before q is)), no_more q, others_above before q waiting is d.low);
}

-- by a monitor, whose request waits
pub owed_added : (n : ℕ) (ms : List Moment) (before : ℕ) (waiting : List Request) (r : Request) → r.number ≡ before + 1 → r.told ≡ false → 1 + tally is_untold waiting ≤ monitors_of n ms
    → Owed n ms Free before waiting
    → Owed n ms Free r.number (waiting ++ r ∷ [])
owed_added n ms before waiting r is told spare d = record {
  due = all_and (IsDue n ms) waiting r d.due (λ so. absurd (true_not_false (sym so ∙ told)));
  once = once_and waiting r d.once (others_above before r.number waiting is d.low);
  low = all_and (λ (y : Request). y.number ≤ r.number) waiting r (low_up before r.number waiting is d.low) (no_more r.number);
  fresh = λ k above. d.fresh k (next_above before r.number k is above);
  monitors = subst (λ k. k ≤ monitors_of n ms) (sym (tally_and is_untold waiting r true (not_told r false told))) spare;
  most = subst (λ k. waiting_of n ms ≤ k) (sym (tally_and is_told waiting r false told)) d.most;
  hand = tt;
}
  where
    true_not_false : true ≡ false → ⊥
    true_not_false e = cc
