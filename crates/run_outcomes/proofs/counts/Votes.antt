-- Where a call ends an attempt by what it counts, its votes are those of the newest record that its members have shown.
use Rattle.std.specs.Prelude.{ℕ, ◌≡◌, ◌++◌, ◌⊎◌, Bool, true, false, List, [], ◌∷◌, length, take, Option, None, Some, unwrap_or, option_map, if◌then◌else◌}
use Rattle.std.specs.List.{AllByRecursion, cons_option, filter_map, find}
use Rattle.std.proofs.Common.{refl, sym, ap, subst, ◌∙◌, inl, inr}
use Rattle.attempt_laws.proofs.Causes.{caused_by_call}
use Rattle.attempt_laws.proofs.Goes.{ChosenIn, IsChosen, chosen_reached}
use Rattle.attempt_laws.proofs.Stays.{newest_stays, plan_stays}
use Rattle.attempt_laws.specs.Laws.{IsForeign, IsShort}
use Rattle.attempt_laws.specs.Machine.{IsAnswer, record_in}
use Rattle.attempt_laws.specs.Staying.{IsKnown}
use Rattle.ccr_commit.specs.Entries.{listed}
use Rattle.cl_base.specs.declared.seizing.Lack.{Lack}
use Rattle.cmm_attempt.proofs.Basics.{none_some, same_number, same_some}
use Rattle.cmm_attempt.specs.Attempts.{AttemptState}
use Rattle.cmm_attempt.specs.Calls.{Call, May, With_votes, end_in, turn}
use Rattle.cmm_attempt.specs.Counts.{first_short, is_enabled, is_foreign, is_short, lack_of, lack_under, short_pending}
use Rattle.cmm_attempt.specs.Promises.{is_from, promised_by, shown_by}
use Rattle.cmm_attempt.specs.declared.attached.AttachedDevice.{AttachedDevice}
use Rattle.cmm_attempt.specs.declared.counting.BothVotes.{BothVotes}
use Rattle.cmm_attempt.specs.declared.plan.Plan.{Plan}
use Rattle.cmm_attempt.specs.declared.promised.Promised.{Promised}
use Rattle.cmm_attempt.specs.declared.seizing.Seizing.{Seizing}
use Rattle.cmm_attempt.specs.declared.step.AttemptEnd.{AttemptEnd}
use Rattle.cmm_attempt.specs.declared.step.AttemptEnd.TheVariants as end
use Rattle.cmm_member.specs.Nodes.{NodeState}
use Rattle.membership_machine.specs.Events.{HasNewest}
use Rattle.membership_machine.specs.Invariant.{Holds}
use Rattle.membership_machine.specs.State.{Memberships}
use Rattle.node_model.specs.Attempts.{votes_in, votes_of as votes_of_message, votes_shown}
use Rattle.node_model.specs.declared.cluster.Cluster.{Cluster}
use Rattle.quorum_votes.specs.Tables.{VoteTable}
use Rattle.refinement.proofs.Attempts.{may_be_called, seeking_not_counted}
use Rattle.refinement.proofs.Given.{found_all}
use Rattle.refinement.proofs.Logs.{committed_votes, pending_votes}
use Rattle.refinement.specs.Guards.{MayCall}
use Rattle.refinement.specs.Ties.{Coordinates, Delivered, GivenIn, Seeks, ShowsLog, setting_of, votes_under}
use Rattle.wire.specs.declared.message.Body.{Body}
use Rattle.wire.specs.declared.message.Body.TheVariants as body
use Rattle.wire.specs.declared.message.Message.{Message}
use Rattle.run_outcomes.specs.counts.Facts.{AreOf, Foretold, Known, NeedsOf, NeedsUnder}
use Rattle.run_outcomes.proofs.counts.Given.{AreFrom, call_ends_so}
use Rattle.run_outcomes.proofs.counts.Newest.{Found, has_newest, newest_found}
use Rattle.run_outcomes.proofs.counts.Lacks.{told_device}
use Rattle.run_outcomes.proofs.counts.Short.{call_short}

-- ---- the votes that a Promise shows are those of its record

take_front : (xs ys : List (List ℕ)) → take (length xs) (xs ++ ys) ≡ xs
take_front [] ys = refl
take_front (x ∷ xs) ys = ap (λ (zs : List (List ℕ)). x ∷ zs) (take_front xs ys)

shown_of : (c : Cluster) (n : ℕ) (m : Message) (p : Promised) (b : Body) → promised_by m (shown_by n b) ≡ Some p → ShowsLog c b → AreOf c (record_in b) (votes_shown c b)
shown_of c n m p (body.Promise e installed members valid flagged committed pending) shown log = record {
  committed = sym (ap (votes_under c) (take_front committed (listed pending)) ∙ committed_votes c committed pending log);
  all = sym (pending_votes c committed pending log);
}
shown_of c n m p _ shown log = absurd (none_some p shown)

-- ---- an attempt that counts

not_true : (b : Bool) → (b ≡ true → ⊥) → b ≡ false
not_true true h = absurd (h refl)
not_true false h = refl

-- it has chosen the newest record, and seeks a majority
record Counting (M : Memberships) (n : ℕ) (a : AttemptState) : Type 0 where
  known : IsKnown a.phase
  chosen : IsChosen a.promises a.plan.nodes a.newest
  seeks : (M.node n).seeking ≡ true

knows : (c : Cluster) (M : Memberships) (n : ℕ) (s : NodeState) (a : AttemptState) → Holds (setting_of c) M → (M.node n).session ≡ s.session → Coordinates c M n s a → Counting M n a → Known c M a (votes_in c a)
knows c M n s a holds session co h =
    let f : Found a = newest_found M a co.has h.chosen in
    let p : Promised = f.promise in
    let answer : IsAnswer M a.plan.epoch a.plan.members p × (is_from a.newest p ≡ true) = found_all (IsAnswer M a.plan.epoch a.plan.members) a.promises a.newest p f.found co.has.answers in
    let log : ShowsLog c p.message.body × (is_from a.newest p ≡ true) = found_all (λ q. ShowsLog c q.message.body) a.promises a.newest p f.found co.logs in
    let showed : (M.node a.newest).showed a.plan.epoch ≡ record_in p.message.body =
    subst (λ k. (M.node k).showed a.plan.epoch ≡ record_in p.message.body) (same_number p.shown.summary.node a.newest answer.1) answer.0.showed in
    let votes : votes_in c a ≡ votes_shown c p.message.body = ap (λ (o : Option Promised). votes_of_message c (option_map (λ q. q.message) o)) f.found in
    record {
      uncounted = not_true (M.epoch a.plan.epoch).counted (seeking_not_counted c M n s a holds session co h.seeks);
      newest = has_newest M a co.has h.chosen;
      promise = p;
      found = f.found;
      votes = subst (λ r. AreOf c r (votes_in c a)) (sym showed) (subst (AreOf c (record_in p.message.body)) (sym votes) (shown_of c p.shown.summary.node p.message p p.message.body answer.0.shown log.0));
    }

-- what the call leaves has the same plan, newest record and Promises
known_by : (c : Cluster) (M : Memberships) (a b : AttemptState) (both : BothVotes) → b.plan ≡ a.plan → b.newest ≡ a.newest → b.promises ≡ a.promises → Known c M a both → Known c M b both
known_by c M a b both plan named promises h = record {
  uncounted = subst (λ (p : Plan). (M.epoch p.epoch).counted ≡ false) (sym plan) h.uncounted;
  newest = subst (λ (p : Plan). HasNewest M p.epoch b.newest) (sym plan) (subst (λ j. HasNewest M a.plan.epoch j) (sym named) h.newest);
  promise = h.promise;
  found = subst (λ ps. find (is_from b.newest) ps ≡ Some h.promise) (sym promises) (subst (λ j. find (is_from j) a.promises ≡ Some h.promise) (sym named) h.found);
  votes = subst (λ (p : Plan). AreOf c ((M.node b.newest).showed p.epoch) both) (sym plan) (subst (λ j. AreOf c ((M.node j).showed a.plan.epoch) both) (sym named) h.votes);
}

-- the votes by which it ends, and what is known of them
record Under (c : Cluster) (M : Memberships) (t : AttemptState) : Type 0 where
  both : BothVotes
  given : t.votes ≡ Some both
  known : Known c M t both

ends_under : (c : Cluster) (M : Memberships) (n : ℕ) (told : Delivered) (s : NodeState) (a : AttemptState) (k : Call) → Holds (setting_of c) M → (M.node n).session ≡ s.session → Coordinates c M n s a → MayCall c told a k
    → AreFrom a k (turn a k).after.votes → Under c M (turn a k).after
ends_under c M n told s a k holds session co may from = by_source from
  where
    calls : May a k
    calls = may_be_called c told a k may

    chosen : ChosenIn a a.phase
    chosen = chosen_reached a co.reached

    by_counting : Counting M n a → (turn a k).after.votes ≡ Some (votes_in c a) → Under c M (turn a k).after
    by_counting h votes =
        let stays : ((turn a k).after.newest ≡ a.newest) × ((turn a k).after.promises ≡ a.promises) = newest_stays a k calls h.known in
        record { both = votes_in c a; given = votes; known = known_by c M a (turn a k).after (votes_in c a) (plan_stays a k calls) stays.0 stays.1 (knows c M n s a holds session co h) }

    by_source : AreFrom a k (turn a k).after.votes → Under c M (turn a k).after
    by_source (inl (both, is, votes)) =
        let call : MayCall c told a (With_votes both) = subst (MayCall c told a) is may in
        by_counting
        (record { known = subst IsKnown (sym call.1) tt; chosen = subst (ChosenIn a) call.1 chosen; seeks = subst (Seeks (M.node n).seeking) call.1 co.seeks })
        (votes ∙ ap (λ (b : BothVotes). Some b) call.0)
    by_source (inr (is, votes)) =
        by_counting (record { known = subst IsKnown (sym is) tt; chosen = subst (ChosenIn a) is chosen; seeks = subst (Seeks (M.node n).seeking) is co.seeks })
        (votes ∙ subst (GivenIn a.votes (votes_in c a)) is co.votes)

-- ---- what it tells

first_one : (both : BothVotes) (members devices : ℕ) (v : VoteTable) → first_short both members devices ≡ Some v → (v ≡ both.committed) ⊎ (v ≡ unwrap_or both.pending both.committed)
first_one both members devices v is = by_test (is_short both.committed members devices) is
  where
    by_pending : (o : Option VoteTable) → short_pending o members devices ≡ Some v → v ≡ unwrap_or o both.committed
    by_pending None is = absurd (none_some v is)
    by_pending (Some w) is = by_short (is_short w members devices) is
      where
        by_short : (t : Bool) → (if t then Some w else None) ≡ Some v → v ≡ w
        by_short true is = sym (same_some w v is)
        by_short false is = absurd (none_some v is)

    by_test : (t : Bool) → (if t then Some both.committed else short_pending both.pending members devices) ≡ Some v → (v ≡ both.committed) ⊎ (v ≡ unwrap_or both.pending both.committed)
    by_test true is = inl (sym (same_some both.committed v is))
    by_test false is = inr (by_pending both.pending is)

abbrev HasVotes : VoteTable → Lack → Type 0
HasVotes v x = is_enabled v x.device ≡ true

-- each device that is lacking has votes
lacks_enabled : (v : VoteTable) (plan : Plan) (devices : List Seizing) (attached : List AttachedDevice) → AllByRecursion (HasVotes v) (filter_map (lack_under v plan devices) attached)
lacks_enabled v plan devices [] = tt
lacks_enabled v plan devices (a ∷ attached) = by_test (is_enabled v a.device) refl (lacks_enabled v plan devices attached)
  where
    with_lack : (o : Option Lack) → ((x : Lack) → o ≡ Some x → HasVotes v x) → AllByRecursion (HasVotes v) (filter_map (lack_under v plan devices) attached) → AllByRecursion (HasVotes v) (cons_option o (filter_map (lack_under v plan devices) attached))
    with_lack None h rest = rest
    with_lack (Some x) h rest = (h x refl, rest)

    by_test : (t : Bool) → is_enabled v a.device ≡ t → AllByRecursion (HasVotes v) (filter_map (lack_under v plan devices) attached)
        → AllByRecursion (HasVotes v) (cons_option (if t then lack_of plan devices a else None) (filter_map (lack_under v plan devices) attached))
    by_test true enabled rest = with_lack (lack_of plan devices a) (λ x is. ap (is_enabled v) (told_device plan devices a x is) ∙ enabled) rest
    by_test false enabled rest = rest

need_in : AttemptEnd → ℕ
need_in (end.Votes have need lacking) = need
need_in _ = 0

lacking_in : AttemptEnd → List Lack
lacking_in (end.Votes have need lacking) = lacking
lacking_in _ = []

needs_so : (t : AttemptState) (both : BothVotes) (have need : ℕ) (lacking : List Lack) → t.votes ≡ Some both → IsShort t (end.Votes have need lacking) → NeedsOf both need lacking
unfolding need_in lacking_in
needs_so t both have need lacking given h = by_first (first_one both t.plan.members h.devices h.v (subst (λ (b : BothVotes). first_short b t.plan.members h.devices ≡ Some h.v) (same_some h.both both (sym h.given ∙ given)) h.short))
  where
    under : NeedsUnder h.v need lacking
    under = (sym (ap need_in h.is), subst (AllByRecursion (HasVotes h.v)) (sym (ap lacking_in h.is)) (lacks_enabled h.v t.plan t.devices t.plan.attached))

    by_first : (h.v ≡ both.committed) ⊎ (h.v ≡ unwrap_or both.pending both.committed) → NeedsOf both need lacking
    by_first (inl is) = inl (subst (λ v. NeedsUnder v need lacking) is under)
    by_first (inr is) = inr (subst (λ v. NeedsUnder v need lacking) is under)

-- where a call ends the attempt, this is so of what it leaves
pub foretells : (c : Cluster) (M : Memberships) (n : ℕ) (told : Delivered) (s : NodeState) (a : AttemptState) (k : Call) (why : AttemptEnd) → Holds (setting_of c) M → (M.node n).session ≡ s.session → Coordinates c M n s a → MayCall c told a k
    → end_in (turn a k).steps ≡ Some why → Foretold c M (turn a k).after why
foretells c M n told s a k (end.Foreign m) holds session co may is =
    let u : Under c M (turn a k).after = ends_under c M n told s a k holds session co may ((call_ends_so a k (end.Foreign m) is).votes tt) in
    let cause : IsForeign (turn a k).after m = (caused_by_call a k).end (end.Foreign m) is in
    record { both = u.both; known = u.known; least = subst (λ b. find (is_foreign b) (turn a k).after.plan.nodes ≡ Some m) (same_some cause.both u.both (sym cause.given ∙ u.given)) cause.least }
foretells c M n told s a k (end.Votes have need lacking) holds session co may is =
    let u : Under c M (turn a k).after = ends_under c M n told s a k holds session co may ((call_ends_so a k (end.Votes have need lacking) is).votes tt) in
    record {
      both = u.both;
      known = u.known;
      needs = needs_so (turn a k).after u.both have need lacking u.given ((caused_by_call a k).end (end.Votes have need lacking) is);
      given = u.given;
      short = call_short a k (end.Votes have need lacking) co.reached is tt;
    }
foretells c M n told s a k (end.Superseded q) holds session co may is = tt
foretells c M n told s a k (end.Silent m) holds session co may is = tt
foretells c M n told s a k (end.Excluded m) holds session co may is = tt
