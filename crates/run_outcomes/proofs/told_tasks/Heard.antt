-- The entries of quorum devices come first, and what a call does to them is done to those alone.
use Rattle.std.specs.Prelude.{ℕ, ◌≡◌, ◌≢◌, ◌⊎◌, ◌==◌, ◌||◌, Bool, true, false, if◌then◌else◌, List, [], ◌∷◌, ◌++◌, map, Option, Some}
use Rattle.std.specs.List.{AllByRecursion, list_any}
use Rattle.std.specs.Option.{option_and_then}
use Rattle.std.proofs.Common.{refl, sym, ap, ◌∙◌, arith, append-nil, inl, inr}
use Rattle.cl_base.specs.Seizings.{SeizeResult}
use Rattle.cmm_attempt.proofs.Basics.{false_true}
use Rattle.cmm_attempt.specs.Attempts.{AttemptState}
use Rattle.cmm_attempt.specs.Calls.{Call}
use Rattle.cmm_attempt.specs.Seizings.{all_settled}
use Rattle.cmm_attempt.specs.declared.counting.BothVotes.{BothVotes}
use Rattle.cmm_attempt.specs.declared.plan.Plan.{Plan}
use Rattle.cmm_attempt.specs.declared.promised.Promised.{Promised}
use Rattle.cmm_attempt.specs.declared.seizing.Seizing.{Seizing}
use Rattle.device_queue.specs.declared.task.Task.{Task}
use Rattle.attempt_laws.proofs.Walk.{TellsResult}
use Rattle.attempt_laws.specs.Asking.{AreApart, entry_of, numbers_of}
use Rattle.history.specs.Moment.{Moment}
use Rattle.history.specs.Queue as told
use Rattle.run_outcomes.specs.tasks.Entries.{AreBoth, AreVotes, devices_in}
use Rattle.run_outcomes.specs.tasks.Laws.{has_asked, other_seizer, own_result}
use Rattle.run_outcomes.specs.tasks.OwnTasks.{was_asked}
use Rattle.run_outcomes.proofs.told_tasks.Calls.{devices_kept, map_both, next_attached, result_attached}
use Rattle.run_outcomes.proofs.told_tasks.Moves.{Answer, Asks, Moved}

-- ---- the entries of quorum devices come first

pub record Quorum (plan : Plan) (promises : List Promised) (given : Option BothVotes) (es : List Seizing) : Type 0 where
  pub votes : List Seizing
  pub behind : List Seizing
  pub parts : es ≡ votes ++ behind
  pub first : AreVotes plan promises given votes
  pub alone : (behind ≡ []) ⊎ (all_settled votes ≡ true)

abbrev pub of_votes : (plan : Plan) (promises : List Promised) (given : Option BothVotes) (es : List Seizing) → AreVotes plan promises given es → Quorum plan promises given es
of_votes plan promises given es h = record { votes = es; behind = []; parts = sym (append-nil es); first = h; alone = inl refl }

abbrev pub of_both : (plan : Plan) (promises : List Promised) (given : Option BothVotes) (es : List Seizing) → AreBoth plan promises given es → Quorum plan promises given es
of_both plan promises given es h = record { votes = h.votes; behind = h.others; parts = h.parts; first = h.first; alone = inr h.settled }

first_same : (x y : Seizing) (xs ys : List Seizing) → x ∷ xs ≡ y ∷ ys → x ≡ y
first_same x y xs ys e = cc

rest_same : (x y : Seizing) (xs ys : List Seizing) → x ∷ xs ≡ y ∷ ys → xs ≡ ys
rest_same x y xs ys e = cc

pub prefix_same : (xs vs ys ws : List Seizing) → xs ++ ys ≡ vs ++ ws → devices_in xs ≡ devices_in vs → xs ≡ vs
prefix_same [] [] ys ws e d = refl
prefix_same [] (v ∷ vs) ys ws e d = absurd (cc)
prefix_same (x ∷ xs) [] ys ws e d = absurd (cc)
prefix_same (x ∷ xs) (v ∷ vs) ys ws e d =
    ap (λ z. z ∷ xs) (first_same x v (xs ++ ys) (vs ++ ws) e) ∙ ap (λ zs. v ∷ zs) (prefix_same xs vs ys ws (rest_same x v (xs ++ ys) (vs ++ ws) e) (cc))

append_entries : (xs ys zs : List Seizing) → (xs ++ ys) ++ zs ≡ xs ++ (ys ++ zs)
append_entries [] ys zs = refl
append_entries (x ∷ xs) ys zs = ap (λ ws. x ∷ ws) (append_entries xs ys zs)

change_keeps : (a : AttemptState) (c : Call) (es : List Seizing) (m : Moved a c es) (e : Seizing) → (m.change e).attached ≡ e.attached
change_keeps a c es m e = by_how m.how
  where
    by_how : ((x : Seizing) → m.change x ≡ x) ⊎ (Answer a c m.change ⊎ Asks a c m.change) → (m.change e).attached ≡ e.attached
    by_how (inl same) = ap (λ (x : Seizing). x.attached) (same e)
    by_how (inr (inl k)) = ap (λ (x : Seizing). x.attached) (k.is e) ∙ result_attached k.device k.result e
    by_how (inr (inr k)) = ap (λ (x : Seizing). x.attached) (k.is e) ∙ next_attached k.device k.next e

-- what was done to them is done to those alone
pub quorum_moved : (a : AttemptState) (c : Call) (es : List Seizing) (m : Moved a c es) (q : Quorum a.plan a.promises a.votes a.devices) (p : Quorum a.plan a.promises a.votes es)
    → p.votes ≡ map m.change q.votes
quorum_moved a c es m q p =
    prefix_same p.votes (map m.change q.votes) p.behind (map m.change q.behind ++ m.more)
    (sym p.parts ∙ (m.parts ∙ (ap (λ ys. map m.change ys ++ m.more) q.parts ∙ (ap (λ ys. ys ++ m.more) (map_both m.change q.votes q.behind)
    ∙ append_entries (map m.change q.votes) (map m.change q.behind) m.more))))
    (p.first.devices ∙ (sym q.first.devices ∙ sym (devices_kept m.change (change_keeps a c es m) q.votes)))

-- ---- the entry of a device

neither : (p q : Bool) → (p || q) ≡ false → (p ≡ false) × (q ≡ false)
neither true q k = absurd (false_true (sym k))
neither false q k = (refl, k)

pub entries_found : (vs ws : List Seizing) → AreApart (numbers_of (devices_in vs)) → AllByRecursion (λ (e : Seizing). entry_of (vs ++ ws) e.attached.device ≡ Some e) vs
entries_found [] ws apart = tt
entries_found (v ∷ vs) ws apart = (
  ap (λ b. if b then Some v else entry_of (vs ++ ws) v.attached.device) (itself v.attached.device),
  behind vs apart.0 (entries_found vs ws apart.1),
)
  where
    itself : (n : ℕ) → (n == n) ≡ true
    itself n = grind arith

    swapped : (m n : ℕ) → (m == n) ≡ false → (n == m) ≡ false
    swapped m n k = grind arith

    behind : (es : List Seizing) → list_any (λ x. x == v.attached.device) (numbers_of (devices_in es)) ≡ false
        → AllByRecursion (λ (e : Seizing). entry_of (vs ++ ws) e.attached.device ≡ Some e) es → AllByRecursion (λ (e : Seizing). entry_of (v ∷ (vs ++ ws)) e.attached.device ≡ Some e) es
    behind [] none k = tt
    behind (e ∷ es) none k =
        let two : ((e.attached.device == v.attached.device) ≡ false) × (list_any (λ x. x == v.attached.device) (numbers_of (devices_in es)) ≡ false) =
        neither (e.attached.device == v.attached.device) (list_any (λ x. x == v.attached.device) (numbers_of (devices_in es))) none in (
          ap (λ b. if b then Some v else entry_of (vs ++ ws) e.attached.device) (swapped e.attached.device v.attached.device two.0) ∙ k.0,
          behind es two.1 k.1,
        )

-- ---- what the lines show of the attempt before the call, and of what the call tells

pub record Hears (a : AttemptState) (c : Call) (votes : List Seizing) (tasks : List Task) (ms : List Moment) : Type 0 where
  pub last : (d : ℕ) → told.asked_last a.plan.epoch d ms ≡ option_and_then (other_seizer a) (entry_of a.devices d)
  pub asked : (d m : ℕ) → was_asked a.plan.epoch d m ms ≡ has_asked a m (entry_of a.devices d)
  pub now : AllByRecursion (λ (e : Seizing). (m : ℕ) → e.seizer ≡ Some m → m ≢ a.plan.coordinator → told.seized_by a.plan.epoch e.attached.device m ms ≡ e.result) votes
  pub own : AllByRecursion (λ (e : Seizing). e.seizer ≡ Some a.plan.coordinator → own_result e.attached.device tasks ≡ e.result) votes
  pub told_other : (d from : ℕ) (r : SeizeResult) → TellsResult c a d from r → from ≢ a.plan.coordinator → told.seized_by a.plan.epoch d from ms ≡ Some r
  pub told_own : (d from : ℕ) (r : SeizeResult) → TellsResult c a d from r → from ≡ a.plan.coordinator → own_result d tasks ≡ Some r
