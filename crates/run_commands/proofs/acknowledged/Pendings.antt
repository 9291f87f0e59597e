-- What is acknowledged is in hand: by the places of updates and the lines of starts, in each trace and so in each run.
use Rattle.std.specs.Prelude.{ℕ, ◌≡◌, ◌≢◌, ◌≤◌, ◌<◌, ◌^◌, ◌⊎◌, ◌++◌, false, List, [], ◌∷◌, Option, None, Some, length}
use Rattle.std.proofs.Common.{refl, sym, ap, subst, ◌∙◌, inl, inr}
use Rattle.cl_base.specs.Limits.{most_devices}
use Rattle.cl_base.specs.declared.header.Header.{Header}
use Rattle.cmm_attempt.proofs.Basics.{false_true, none_some, same_some}
use Rattle.machine_base.proofs.Puts.{same_or_not}
use Rattle.history.specs.Deeds.{Deed, OfEach, Started, deeds, has_started, once_complete}
use Rattle.history.specs.History.{Repository}
use Rattle.history.specs.Lineage.{Lineage}
use Rattle.history.specs.Moment.{Moment}
use Rattle.history.specs.Placed.{IsAcked, Placed}
use Rattle.history.specs.Requests.{is_ack}
use Rattle.history.specs.Starts.{Start, StartLines, base_due, base_so_far, completed, start_so_far}
use Rattle.history.specs.Trace.{ack, base, propose, start}
use Rattle.world_model.specs.First.{first_cluster}
use Rattle.run_history.proofs.DeedRuns.{start_lines_of_each_run}
use Rattle.run_history.proofs.WholeEachRun.{repositories_are_kept}
use Rattle.run_history.specs.Happenings.{Happening, MayAllHappen, all_happened}
use Rattle.run_history.specs.Scenes.{Scene, first_scene}
use Rattle.run_messages.proofs.Reaching.{IsReached, IsSmall}
use Rattle.run_commands.proofs.acknowledged.Pending.{IsPending}
use Rattle.run_commands.proofs.acknowledged.Settled.{AcksArePending}
use Rattle.run_commands.proofs.acknowledged.Begun.{IsDue, IsLast, base_goes, complete_at, due_at, lineage_below, placed_below, start_goes}
use Rattle.run_commands.proofs.acknowledged.Hand.{StandsSo, ack_stands, beside_stands, fresh_stands, nothing_stands, one_longer, other_stands, propose_stands}

-- no `base` line of e is due: that of another start may be
abbrev NotDue : ℕ → List Moment → Type 0
NotDue e ms = (v : ℕ) → base_due ms ≡ Some (e, v) → ⊥

none_due : (e : ℕ) (ms : List Moment) → None ≡ base_due ms → NotDue e ms
none_due e ms none v due = none_some (e, v) (none ∙ due)

due_of : (e f v : ℕ) (ms : List Moment) → Some (f, v) ≡ base_due ms → f ≢ e → NotDue e ms
due_of e f v ms is other u due = other (ap (λ (p : ℕ × ℕ). p.0) (same_some (f, v) (e, u) (is ∙ due)))

-- ---- a line of a start

-- the start of f goes on with x: it is complete, or a line of it is due
goes_stands : (e f : ℕ) (o : Option Start) (k : ℕ) (updates : List (List ℕ)) (x : Moment) (ms : List Moment) → IsLast f o k ⊎ IsDue f o k → ((v : ℕ) → due_at o k ≡ Some (e, v) → ⊥)
    → Placed (once_complete (complete_at o k) updates (deeds ms)) → OfEach Lineage (once_complete (complete_at o k) updates (deeds ms)) → ((w : ℕ) → is_ack e w x ≡ false)
    → (f ≢ e → StandsSo e (deeds ms) (x ∷ ms)) → StandsSo e (once_complete (complete_at o k) updates (deeds ms)) (x ∷ ms)
goes_stands e f o k updates x ms (inr due) none placed lineage unacked rest = by (same_or_not f e)
  where
    by : (f ≡ e) ⊎ (f ≢ e) → StandsSo e (once_complete (complete_at o k) updates (deeds ms)) (x ∷ ms)
    by (inl same) = absurd (none due.place (due.due ∙ ap (λ g. Some (g, due.place)) same))
    by (inr other) = subst (λ (z : Option Start). StandsSo e (once_complete z updates (deeds ms)) (x ∷ ms)) (sym due.none) (rest other)
goes_stands e f o k updates x ms (inl last) none placed lineage unacked rest =
    subst (λ (z : Option Start). StandsSo e (once_complete z updates (deeds ms)) (x ∷ ms)) (sym last.complete) (by (same_or_not f e))
  where
    new : has_started last.whole.epoch (deeds ms) ≡ false
    new = (subst (λ (z : Option Start). OfEach Lineage (once_complete z updates (deeds ms))) last.complete lineage).0.once.0

    by : (f ≡ e) ⊎ (f ≢ e) → StandsSo e (Started last.whole updates ∷ deeds ms) (x ∷ ms)
    by (inl same) = fresh_stands e last.whole updates x ms (last.epoch ∙ same) (placed_below (complete_at o k) updates (deeds ms) placed) new unacked
    by (inr other) = beside_stands e (Some last.whole) updates (deeds ms) (x ∷ ms) (λ s is at. other (sym last.epoch ∙ (ap (λ (z : Start). z.epoch) (same_some last.whole s is) ∙ at))) (rest other)

-- ---- a trace

stands : (e : ℕ) (ms : List Moment) → StartLines ms → Placed (deeds ms) → OfEach Lineage (deeds ms) → NotDue e ms → StandsSo e (deeds ms) ms
stands e [] lines placed lineage due = nothing_stands e [] 0 0 [] refl (λ w is. false_true is)
stands e (start f members held count ∷ ms) lines placed lineage due =
    let s : Start = record { epoch = f; members = members; held = held; count = count } in
    goes_stands e f (Some s) 0 [] (start f members held count) ms (start_goes s) due placed lineage (λ w. refl)
    (λ other. other_stands e _ _ _ (start f members held count) ms other (stands e ms lines.1 (placed_below (complete_at (Some s) 0) [] (deeds ms) placed) (lineage_below (complete_at (Some s) 0) [] (deeds ms) lineage) (none_due e ms lines.0)))
stands e (base f v words ∷ ms) lines placed lineage due =
    let o : Option Start = start_so_far ms in
    let all : List (List ℕ) = base_so_far ms ++ words ∷ [] in
    goes_stands e f o (length all) all (base f v words) ms (subst (λ k. IsLast f o k ⊎ IsDue f o k) (sym (one_longer (base_so_far ms) words)) (base_goes f v o (length (base_so_far ms)) (sym lines.0))) due placed lineage (λ w. refl)
    (λ other. other_stands e _ _ _ (base f v words) ms tt (stands e ms lines.1 (placed_below (complete_at o (length all)) all (deeds ms) placed) (lineage_below (complete_at o (length all)) all (deeds ms) lineage) (due_of e f v ms lines.0 other)))
stands e (propose f v words ∷ ms) lines placed lineage due = propose_stands e f v words (deeds ms) ms placed.0 (stands e ms lines.1 placed.1 lineage.1 (none_due e ms lines.0))
stands e (ack f v words ∷ ms) lines placed lineage due = ack_stands e f v words (deeds ms) ms placed.0 (stands e ms lines.1 placed.1 lineage.1 (none_due e ms lines.0))
stands e (x ∷ ms) lines placed lineage due = other_stands e _ _ _ x ms tt (stands e ms lines.1 placed lineage (none_due e ms lines.0))

ack_pending : (e v : ℕ) (words : List ℕ) (ds : List Deed) (ms : List Moment) → IsAcked ds (record { epoch = e; place = v; words = words }) → StandsSo e ds ms → IsPending e (record { place = v; words = words }) ms
ack_pending e v words ds ms is h = subst (λ (k : ℕ). IsPending e (record { place = k; words = words }) ms) (sym is.place) (h.pending words is.words)

pub acks_pending : (ms : List Moment) → StartLines ms → Placed (deeds ms) → OfEach Lineage (deeds ms) → AcksArePending ms
acks_pending [] lines placed lineage = tt
acks_pending (start f members held count ∷ ms) lines placed lineage =
    let o : Option Start = completed (start f members held count ∷ ms) in
    (tt, acks_pending ms lines.1 (placed_below o [] (deeds ms) placed) (lineage_below o [] (deeds ms) lineage))
acks_pending (base f v words ∷ ms) lines placed lineage =
    let o : Option Start = completed (base f v words ∷ ms) in
    let all : List (List ℕ) = base_so_far (base f v words ∷ ms) in
    (tt, acks_pending ms lines.1 (placed_below o all (deeds ms) placed) (lineage_below o all (deeds ms) lineage))
acks_pending (propose f v words ∷ ms) lines placed lineage = (tt, acks_pending ms lines.1 placed.1 lineage.1)
acks_pending (ack f v words ∷ ms) lines placed lineage =
    (ack_pending f v words (deeds ms) ms placed.0 (stands f ms lines.1 placed.1 lineage.1 (none_due f ms lines.0)), acks_pending ms lines.1 placed.1 lineage.1)
acks_pending (_ ∷ ms) lines placed lineage = (tt, acks_pending ms lines.1 placed lineage)

-- ---- each run

pub acks_pending_in_each : (h : Header) (cells : ℕ) (hs : List Happening) → length h.devices ≤ most_devices → h.cluster < 2 ^ 32 → MayAllHappen (first_cluster h) (first_scene h cells) hs
    → AcksArePending (all_happened (first_cluster h) (first_scene h cells) hs).moments
acks_pending_in_each h cells hs few small may =
    let r : Repository (all_happened (first_cluster h) (first_scene h cells) hs).moments = repositories_are_kept h cells hs few small may in
    acks_pending (all_happened (first_cluster h) (first_scene h cells) hs).moments (start_lines_of_each_run h cells hs few may) r.placed r.lineage

-- .. and each scene that a run comes to
pub acks_of : (h : Header) (cells : ℕ) (s : Scene) → IsSmall h → IsReached h cells s → AcksArePending s.moments
acks_of h cells s size r = subst (λ (z : Scene). AcksArePending z.moments) r.is (acks_pending_in_each h cells r.happenings size.few size.small r.may)
