-- Of the records that its members have shown none is newer than that of the node which the attempt names, from its choice on.
use Rattle.std.specs.Prelude.{ℕ, ◌+◌, ◌≡◌, ◌<◌, ◌≤◌, ◌==◌, ◌||◌, ◌⊎◌, All, Bool, true, false, Contains, List, [], ◌∷◌, length, Option, None, Some, if◌then◌else◌}
use Rattle.std.specs.List.{find, list_all, list_any}
use Rattle.std.specs.Option.{option_map}
use Rattle.std.proofs.Common.{refl, sym, ap, subst, ◌∙◌, arith}
use Rattle.std.proofs.lemmas.List.{length-append}
use Rattle.std.proofs.lemmas.List.Elements.{All-cons, All-contains, All-head, All-nil, All-tail}
use Rattle.attempt_laws.proofs.Goes.{IsChosen}
use Rattle.attempt_laws.proofs.MachineLemmas.{of_all, of_any}
use Rattle.attempt_laws.proofs.NewestTaken.{newest_is_taken}
use Rattle.attempt_laws.proofs.Told.{member_of_plan}
use Rattle.attempt_laws.specs.Machine.{IsAnswer, MachineHas, is_member, record_in}
use Rattle.ccr_commit.specs.Entries.{listed}
use Rattle.ccr_commit.specs.declared.summary.Summary.{Summary}
use Rattle.cmm_attempt.proofs.Basics.{false_true, none_some, same_number, same_some}
use Rattle.cmm_attempt.proofs.NewestLemmas.{IsNotBehind}
use Rattle.cmm_attempt.specs.Attempts.{AttemptState}
use Rattle.cmm_attempt.specs.Promises.{has_promised, is_from, newest_shown, pending_count, promised_by, shown_by}
use Rattle.cmm_attempt.specs.declared.promised.Promised.{Promised}
use Rattle.cmm_attempt.specs.declared.promised.Shown.{Shown}
use Rattle.membership_machine.specs.Events.{HasNewest}
use Rattle.membership_machine.specs.Records.{IsBehind, Saved}
use Rattle.membership_machine.specs.State.{Memberships}
use Rattle.wire.specs.declared.message.Body.{Body}
use Rattle.wire.specs.declared.message.Body.TheVariants as body
use Rattle.wire.specs.declared.message.Message.{Message}

-- ---- a Promise and the record that it shows

-- the summary of this record
record IsSummary (x : Summary) (r : Saved) : Type 0 where
  installed : x.installed ≡ r.installed
  all : x.all ≡ length r.entries
  committed : x.committed ≡ r.committed

counted_pending : (o : Option (List ℕ)) → pending_count o ≡ length (listed o)
counted_pending None = refl
counted_pending (Some text) = refl

is_summary : (m : Message) (n : ℕ) (b : Body) (p : Promised) → promised_by m (shown_by n b) ≡ Some p → IsSummary p.shown.summary (record_in b)
is_summary m n (body.Promise epoch installed members valid flagged committed pending) p h =
    let b : Body = body.Promise epoch installed members valid flagged committed pending in
    subst (λ x. IsSummary x.shown.summary (record_in b)) (same_some _ p h) (record {
      installed = refl;
      all = ap (λ k. length committed + k) (counted_pending pending) ∙ sym (length-append committed (listed pending));
      committed = refl;
    })
is_summary m n _ p h = absurd (none_some p h)

behind : (a b : Summary) (r s : Saved) → IsSummary a r → IsSummary b s → IsNotBehind b a → IsBehind r s
behind a b r s x y h = behind_by r.installed (length r.entries) r.committed s.installed (length s.entries) s.committed a b x.installed x.all x.committed y.installed y.all y.committed h
  where
    behind_by : (ri ra rc si sa sc : ℕ) (a b : Summary) → a.installed ≡ ri → a.all ≡ ra → a.committed ≡ rc → b.installed ≡ si → b.all ≡ sa → b.committed ≡ sc → IsNotBehind b a
        → (ri < si) ⊎ ((ri ≡ si) × ((ra < sa) ⊎ ((ra ≡ sa) × (rc ≤ sc))))
    behind_by ri ra rc si sa sc a b e1 e2 e3 e4 e5 e6 h = grind arith

showed_behind : (M : Memberships) (q members : ℕ) (best p : Promised) → IsAnswer M q members best → IsAnswer M q members p → IsNotBehind best.shown.summary p.shown.summary
    → IsBehind ((M.node p.shown.summary.node).showed q) ((M.node best.shown.summary.node).showed q)
showed_behind M q members best p b a h =
    subst (λ r. IsBehind r ((M.node best.shown.summary.node).showed q)) (sym a.showed)
    (subst (λ r. IsBehind (record_in p.message.body) r) (sym b.showed)
    (behind p.shown.summary best.shown.summary (record_in p.message.body) (record_in best.message.body)
    (is_summary p.message p.shown.summary.node p.message.body p a.shown) (is_summary best.message best.shown.summary.node best.message.body best b.shown) h))

-- ---- the members

promised : (M : Memberships) (a : AttemptState) (m : ℕ) → MachineHas M a → list_all (has_promised a.promises) a.plan.nodes ≡ true → (M.epoch a.plan.epoch).members m ≡ true → has_promised a.promises m ≡ true
promised M a m h all member = of_all (has_promised a.promises) m a.plan.nodes all (member_of_plan M a m h ∙ (sym (h.members m) ∙ member))

all_two : {X : Type 0} (P Q : X → Type 0) (xs : List X) → All P xs → All Q xs → All (λ x. P x × Q x) xs
all_two P Q [] h k = All-nil (λ x. P x × Q x)
all_two P Q (x ∷ xs) h k = All-cons (λ y. P y × Q y) x xs (All-head P x xs h, All-head Q x xs k) (all_two P Q xs (All-tail P x xs h) (All-tail Q x xs k))

-- a Promise that none exceeds is of the node that is named
record Best (a : AttemptState) : Type 0 where
  best : Promised
  node : best.shown.summary.node ≡ a.newest
  taken : Contains a.promises best
  first : All (λ p. IsNotBehind best.shown.summary p.shown.summary) a.promises

best_by : (a : AttemptState) (o : Option Shown) → newest_shown a.promises ≡ o → option_map (λ x. x.summary.node) o ≡ Some a.newest → Best a
best_by a None is h = absurd (none_some a.newest h)
best_by a (Some newest) is h =
    let two : ((p : Promised) × Contains a.promises p × (p.shown ≡ newest)) × All (λ p. IsNotBehind newest.summary p.shown.summary) a.promises = newest_is_taken a.promises newest is in
    record {
      best = two.0.0;
      node = ap (λ x. x.summary.node) two.0.2 ∙ same_some newest.summary.node a.newest h;
      taken = two.0.1;
      first = subst (λ x. All (λ p. IsNotBehind x.summary p.shown.summary) a.promises) (sym two.0.2) two.1;
    }

pub has_newest : (M : Memberships) (a : AttemptState) → MachineHas M a → IsChosen a.promises a.plan.nodes a.newest → HasNewest M a.plan.epoch a.newest
has_newest M a h chosen =
    let q : ℕ = a.plan.epoch in
    let b : Best a = best_by a (newest_shown a.promises) refl chosen.1 in
    let best : IsAnswer M q a.plan.members b.best = All-contains (IsAnswer M q a.plan.members) a.promises b.best h.answers b.taken in
    record {
      all_answered = λ m member.
          of_any (λ p. p.shown.summary.node == m) (IsAnswer M q a.plan.members) ((M.node m).answered q ≡ true) a.promises (promised M a m h chosen.0 member) h.answers
          (λ p e k. subst (λ j. (M.node j).answered q ≡ true) (same_number p.shown.summary.node m e) k.answered);
      of_member = h.members a.newest ∙ (ap (is_member a.plan.members) (sym b.node) ∙ best.member);
      none_newer = λ m member.
          of_any (λ p. p.shown.summary.node == m) (λ p. IsAnswer M q a.plan.members p × IsNotBehind b.best.shown.summary p.shown.summary)
          (IsBehind ((M.node m).showed q) ((M.node a.newest).showed q)) a.promises (promised M a m h chosen.0 member)
          (all_two (IsAnswer M q a.plan.members) (λ p. IsNotBehind b.best.shown.summary p.shown.summary) a.promises h.answers b.first)
          (λ p e k. subst (λ j. IsBehind ((M.node m).showed q) ((M.node j).showed q)) b.node
          (subst (λ j. IsBehind ((M.node j).showed q) ((M.node b.best.shown.summary.node).showed q)) (same_number p.shown.summary.node m e)
          (showed_behind M q a.plan.members b.best p best k.0 k.1)));
    }

-- ---- it is found

pub record Found (a : AttemptState) : Type 0 where
  pub promise : Promised
  pub found : find (is_from a.newest) a.promises ≡ Some promise

same_self : (m : ℕ) → (m == m) ≡ true
same_self m = grind arith

pub newest_found : (M : Memberships) (a : AttemptState) → MachineHas M a → IsChosen a.promises a.plan.nodes a.newest → Found a
newest_found M a h chosen = by_find (find (is_from a.newest) a.promises) refl
  where
    some : list_any (is_from a.newest) a.promises ≡ true
    some = promised M a a.newest h chosen.0 (has_newest M a h chosen).of_member

    not_none : (ps : List Promised) → list_any (is_from a.newest) ps ≡ true → find (is_from a.newest) ps ≡ None → ⊥
    not_none [] any none = false_true any
    not_none (p ∷ ps) any none = by_test (is_from a.newest p) any none (not_none ps)
      where
        by_test : (t : Bool) → (t || list_any (is_from a.newest) ps) ≡ true → (if t then Some p else find (is_from a.newest) ps) ≡ None → (list_any (is_from a.newest) ps ≡ true → find (is_from a.newest) ps ≡ None → ⊥) → ⊥
        by_test true any none next = none_some p (sym none)
        by_test false any none next = next any none

    by_find : (o : Option Promised) → find (is_from a.newest) a.promises ≡ o → Found a
    by_find None is = absurd (not_none a.promises some is)
    by_find (Some p) is = record { promise = p; found = is }
