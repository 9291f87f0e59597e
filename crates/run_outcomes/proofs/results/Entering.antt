-- A node enters a session by a promise that it saves, or by its own attempt; what its record does not hold valid then it did not hold where it entered.
use Rattle.std.specs.Prelude.{ℕ, ◌≡◌, ◌≢◌, ◌==◌, ◌&&◌, ◌++◌, not, Bool, true, false, if◌then◌else◌, List, ◌∷◌, Some}
use Rattle.std.specs.List.{list_any}
use Rattle.std.proofs.Common.{refl, sym, ap, subst, ◌∙◌, arith}
use Rattle.cl_base.specs.Sets.{has}
use Rattle.cl_base.specs.declared.header.Header.{Header}
use Rattle.cmm_member.specs.Records.{NodeRecord}
use Rattle.history.specs.Attempts.{promised_invalid}
use Rattle.history.specs.Contact.{AttemptsDiffer}
use Rattle.history.specs.Member.{in_collect, promised_to}
use Rattle.history.specs.Moment.{Moment}
use Rattle.history.specs.Order.{before_last}
use Rattle.history.specs.Seizing.{is_attempt, is_number}
use Rattle.history.specs.Setting.{coordinator}
use Rattle.history.specs.Trace.{attempt, saved}
use Rattle.history.specs.Validated.{Lapsed, Open, Valid, Validity, is_valid, validity}
use Rattle.node_model.specs.Entries.{unknown_lines}
use Rattle.node_model.specs.Seats.{record_of}
use Rattle.node_model.specs.declared.cluster.Cluster.{Cluster}
use Rattle.node_model.specs.declared.node.Node.TheVariants.{Up}
use Rattle.node_model.specs.declared.node.UpNode.{UpNode}
use Rattle.refinement.specs.Doings.{Change, first_lines, last_lines, saved_lines, site}
use Rattle.refinement.specs.Doings.Change.{Leads, Promises}
use Rattle.refinement.specs.Doings.Doing.{Saves}
use Rattle.run_devices.specs.validity.Kept.{DoingAgrees, RecordAgrees}
use Rattle.run_devices.specs.validity.Laws.{Agrees}
use Rattle.run_history.specs.Scenes.{Scene, passing, telling}
use Rattle.run_seizings.proofs.Progress.{if_so, no_truth, not_same, or_left, same_is}
use Rattle.status_report.specs.declared.attempt_entry.AttemptEntry.TheVariants as attempt_entry
use Rattle.status_report.specs.declared.entry.Entry.TheVariants as entry
use Rattle.status_report.specs.declared.node_entry.NodeEntry.TheVariants as note
use Rattle.run_outcomes.proofs.results.Calm.{last_calm, unknown_calm}
use Rattle.run_outcomes.proofs.results.Held.{barred_stays}
use Rattle.run_outcomes.proofs.results.Passing.{passing_lasts}
use Rattle.run_outcomes.proofs.results.Stays.{both_true}
use Rattle.run_outcomes.proofs.results.Changed.{Entered, Enters}
use Rattle.run_outcomes.specs.results.Tried.{Without}

-- what a record does not hold is not valid by the lines
pub not_valid : (told : Validity) (held : Bool) → Agrees told held → held ≡ false → not (is_valid told) ≡ true
not_valid Valid held agrees none = absurd (no_truth (sym none ∙ agrees))
not_valid Lapsed held agrees none = refl
not_valid Open held agrees none = refl

if_other : (b y z : Bool) → b ≡ false → z ≡ true → (if b then y else z) ≡ true
if_other false y z is k = k
if_other true y z is k = absurd (no_truth (sym is))

if_own : (b y z : Bool) → b ≡ true → y ≡ true → (if b then y else z) ≡ true
if_own true y z is k = k
if_own false y z is k = absurd (no_truth is)

same_so : (a b : ℕ) → a ≡ b → (a == b) ≡ true
same_so a b k = grind arith

-- ---- a promise

promised_so : (h : Header) (n p d : ℕ) (ms : List Moment) → n ≢ coordinator p → in_collect n ms ≡ true → promised_to ms ≡ Some p → not (is_valid (validity h n d ms)) ≡ true
    → Without h p d (saved n ∷ ms) n
promised_so h n p d ms other came asked lapsed = record {
  unheld = if_other (n == coordinator p) (not (is_valid (validity h n d (before_last (is_attempt p) (saved n ∷ ms))))) (promised_invalid h p d n (saved n ∷ ms)) (not_same n (coordinator p) other)
      (or_left ((n == n) && in_collect n ms && is_number p (promised_to ms) && not (is_valid (validity h n d ms))) (promised_invalid h p d n ms)
      (both_true ((n == n) && in_collect n ms && is_number p (promised_to ms)) (not (is_valid (validity h n d ms)))
      (both_true ((n == n) && in_collect n ms) (is_number p (promised_to ms)) (both_true (n == n) (in_collect n ms) (same_is n) came) (ap (is_number p) asked ∙ same_is p)) lapsed));
  begun = λ own. absurd (other own);
}

promises_enter : (h : Header) (c : Cluster) (n : ℕ) (x : UpNode) (p : ℕ) (s : Scene) → n ≢ coordinator p → in_collect n s.moments ≡ true → promised_to s.moments ≡ Some p
    → RecordAgrees h n s.moments (record_of x) → AttemptsDiffer (passing n (first_lines n (Promises p) ++ saved_lines c n x (Promises p)) s).moments
    → Entered h (passing n (first_lines n (Promises p) ++ saved_lines c n x (Promises p)) s).moments n p x
promises_enter h c n x p s other came asked agrees differ d is none =
    passing_lasts (λ ms. AttemptsDiffer ms → Without h p d ms n) (λ y ms idle k after. barred_stays h p d n y ms after.0 (k after.1)) n (last_lines c n x (Promises p))
    (telling (entry.Node n note.Saved) s) (last_calm c n x (Promises p) tt)
    (λ after. promised_so h n p d s.moments other came asked (not_valid (validity h n d s.moments) (has (record_of x).valid d) (agrees d is) none)) differ

-- ---- an attempt

abbrev attempt_line : ℕ → ℕ → Moment
attempt_line p members = attempt p members

led_so : (h : Header) (n p members d : ℕ) (ms : List Moment) → n ≡ coordinator p → not (is_valid (validity h n d ms)) ≡ true
    → Without h p d (attempt_line p members ∷ saved n ∷ ms) n
led_so h n p members d ms own lapsed = record {
  unheld = if_own (n == coordinator p) (not (is_valid (validity h n d (before_last (is_attempt p) (attempt_line p members ∷ saved n ∷ ms))))) (promised_invalid h p d n (attempt_line p members ∷ saved n ∷ ms))
      (same_so n (coordinator p) own)
      (subst (λ z. not (is_valid (validity h n d z)) ≡ true) (sym (if_so (p == p) (saved n ∷ ms) (before_last (is_attempt p) (saved n ∷ ms)) (same_is p))) lapsed);
  begun = λ is. or_left (p == p) (list_any (is_attempt p) (saved n ∷ ms)) (same_is p);
}

leads_enter : (h : Header) (c : Cluster) (n : ℕ) (x : UpNode) (p members : ℕ) (s : Scene) → n ≡ coordinator p → RecordAgrees h n s.moments (record_of x)
    → AttemptsDiffer (passing n (first_lines n (Leads p members) ++ saved_lines c n x (Leads p members)) s).moments
    → Entered h (passing n (first_lines n (Leads p members) ++ saved_lines c n x (Leads p members)) s).moments n p x
leads_enter h c n x p members s own agrees differ d is none =
    passing_lasts (λ ms. AttemptsDiffer ms → Without h p d ms n) (λ y ms idle k after. barred_stays h p d n y ms after.0 (k after.1)) n (unknown_lines n x.requests.waiting)
    (telling (entry.Attempt (attempt_entry.Begun p members)) (telling (entry.Node n note.Saved) s)) (unknown_calm n x.requests.waiting)
    (λ after. led_so h n p members d s.moments own (not_valid (validity h n d s.moments) (has (record_of x).valid d) (agrees d is) none)) differ

-- ---- either

pub enters : (h : Header) (c : Cluster) (n : ℕ) (x : UpNode) (disk : NodeRecord) (ch : Change) (s : Scene) → disk ≡ record_of x → ((p : ℕ) → ch ≡ Promises p → n ≢ coordinator p)
    → ((p members : ℕ) → ch ≡ Leads p members → n ≡ coordinator p) → DoingAgrees h n (site (Up x) disk) s.moments (Saves ch)
    → AttemptsDiffer (passing n (first_lines n ch ++ saved_lines c n x ch) s).moments → (p : ℕ) → Enters p ch → Entered h (passing n (first_lines n ch ++ saved_lines c n x ch) s).moments n p x
enters h c n x disk (Promises q) s same others own agrees differ p is =
    subst (λ r. Entered h (passing n (first_lines n (Promises q) ++ saved_lines c n x (Promises q)) s).moments n r x) (sym is)
    (promises_enter h c n x q s (others q refl) agrees.0 agrees.1 (subst (λ r. RecordAgrees h n s.moments r) same agrees.2) differ)
enters h c n x disk (Leads q members) s same others own agrees differ p is =
    subst (λ r. Entered h (passing n (first_lines n (Leads q members) ++ saved_lines c n x (Leads q members)) s).moments n r x) (sym is)
    (leads_enter h c n x q members s (own q members refl) (subst (λ r. RecordAgrees h n s.moments r) same agrees) differ)
enters h c n x disk _ s same others own agrees differ p is = absurd is
