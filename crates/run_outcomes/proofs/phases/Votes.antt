-- The votes that an attempt was given are those of the newest record in hand, by the lines.
use Rattle.std.specs.Prelude.{ℕ, ◌==◌, ◌&&◌, ◌||◌, ◌≡◌, not, nat_lt, Bool, true, false, List, [], ◌∷◌, length, take, Option, None, Some, IfSome, unwrap_or, option_map, if◌then◌else◌}
use Rattle.std.specs.List.{AllByRecursion, find, list_any}
use Rattle.std.specs.Option.{option_and_then}
use Rattle.std.proofs.Common.{arith, refl, sym, ap, subst, ◌∙◌, inl, inr}
use Rattle.attempt_laws.proofs.Goes.{ChosenIn, IsChosen, chosen_reached}
use Rattle.attempt_laws.specs.Machine.{IsAnswer, record_in}
use Rattle.cmm_attempt.proofs.Basics.{false_true, none_some, same_number, same_some}
use Rattle.cmm_attempt.specs.Attempts.{AttemptState}
use Rattle.cmm_attempt.specs.Counts.{is_enabled, is_enabled_pending}
use Rattle.cmm_attempt.specs.Promises.{is_from}
use Rattle.cmm_attempt.specs.declared.counting.BothVotes.{BothVotes}
use Rattle.cmm_attempt.specs.declared.phase.Phase.{Phase}
use Rattle.cmm_attempt.specs.declared.phase.Phase.TheVariants.{Choosing, Collecting, Installing, Over, SeizingOthers, SeizingVotes}
use Rattle.cmm_attempt.specs.declared.promised.Promised.{Promised}
use Rattle.cmm_member.specs.Records as kept
use Rattle.history.specs.Moment.{Moment}
use Rattle.history.specs.Queue as told
use Rattle.history.specs.Records.{NodeRecord, committed_of, exceeds, is_newest, own_record, promises, records_told}
use Rattle.history.specs.Setting.{Setting}
use Rattle.history_setting.specs.Settings as settings
use Rattle.history_setting.proofs.Votes.{setting_counts_votes}
use Rattle.membership_machine.specs.Events.{HasNewest}
use Rattle.membership_machine.specs.Invariant.{Fits, Holds}
use Rattle.membership_machine.specs.Records.{Saved}
use Rattle.membership_machine.specs.State.{Memberships}
use Rattle.node_model.specs.Attempts.{votes_in, votes_of as votes_of_message, votes_shown}
use Rattle.node_model.specs.Seats.{record_of}
use Rattle.node_model.specs.declared.cluster.Cluster.{Cluster}
use Rattle.quorum_votes.specs.Tables.{VoteTable}
use Rattle.quorum_votes.specs.Votes.{device_at, state_of}
use Rattle.refinement.proofs.Attempts.{seeking_not_counted}
use Rattle.refinement.proofs.Given.{found_all}
use Rattle.refinement.specs.Ties.{GivenIn, NodeTied, Seeks, ShowsLog, setting_of, votes_under}
use Rattle.run_outcomes.specs.counts.Facts.{AreOf}
use Rattle.run_outcomes.proofs.accounts.Votes.{enabled_so, shown_of}
use Rattle.run_outcomes.proofs.counts.Ended.{Tied, tied_of}
use Rattle.run_outcomes.proofs.counts.InHand.{HasNewestOf, committed_is, in_hand}
use Rattle.run_outcomes.proofs.counts.Newest.{Found, has_newest, newest_found}
use Rattle.run_history.specs.Happenings.{all_happened}
use Rattle.run_history.specs.Scenes.{Scene, first_scene}
use Rattle.run_messages.proofs.records.Letters.{Shows, promises_had, told_records}
use Rattle.run_messages.specs.records.Kept.{AttemptIn, AttemptKept, HeardFrom, KnownScene, NodeKept}
use Rattle.run_messages.specs.records.Shown.{IsOf, ShownBy}
use Rattle.run_messages.specs.records.Sound.{ShowsSo}
use Rattle.world_model.specs.First.{first_cluster}
use Rattle.run_outcomes.proofs.phases.Promised.{HasIt, has_it}
use Rattle.run_outcomes.proofs.phases.Runs.{knows_at}
use Rattle.run_outcomes.specs.phases.Laws.{CountsFor, NewestCounts, VotesAreTold, is_seizing}

-- ---- the votes of a record

pending_so : (v : VoteTable) (o : Option VoteTable) (d : ℕ) → (is_enabled v d || is_enabled (unwrap_or o v) d) ≡ (is_enabled v d || is_enabled_pending o d)
pending_so v (Some w) d = refl
pending_so v None d = twice (is_enabled v d)
  where
    twice : (b : Bool) → (b || b) ≡ (b || false)
    twice true = refl
    twice false = refl

counts_for : (S : Setting) (both : BothVotes) (r : NodeRecord) → S.votes (take (committed_of r) r.texts) ≡ both.committed → S.votes r.texts ≡ unwrap_or both.pending both.committed → CountsFor S both r
counts_for S both r first all = record {
  committed = first;
  all = all;
  devices = λ d.
      ap (λ b. b || told.is_enabled (state_of (device_at (S.votes r.texts) d))) (enabled_so (S.votes (take (committed_of r) r.texts)) both.committed d first)
      ∙ (ap (λ b. is_enabled both.committed d || b) (enabled_so (S.votes r.texts) (unwrap_or both.pending both.committed) d all) ∙ pending_so both.committed both.pending d);
}

record_counts : (S : Setting) (c : Cluster) (r : NodeRecord) (s : Saved) (both : BothVotes) → ((updates : List (List ℕ)) → S.votes updates ≡ votes_under c updates) → IsOf r s → AreOf c s both → CountsFor S both r
record_counts S c r s both votes h of =
    counts_for S both r (votes (take (committed_of r) r.texts) ∙ (ap (votes_under c) (ap (λ k. take k r.texts) (committed_is r s h) ∙ ap (λ xs. take s.committed xs) h.texts) ∙ sym of.committed))
    (votes r.texts ∙ (ap (votes_under c) h.texts ∙ sym of.all))

-- ---- two records of which neither exceeds the other

record Level (a b : NodeRecord) : Type 0 where
  installed : a.installed ≡ b.installed
  all : length a.texts ≡ length b.texts
  committed : committed_of a ≡ committed_of b

level : (a b : NodeRecord) → exceeds a b ≡ false → exceeds b a ≡ false → Level a b
level a b h k = record {
  installed = one a.installed b.installed (length a.texts) (length b.texts) (committed_of a) (committed_of b) h k;
  all = two a.installed b.installed (length a.texts) (length b.texts) (committed_of a) (committed_of b) h k;
  committed = three a.installed b.installed (length a.texts) (length b.texts) (committed_of a) (committed_of b) h k;
}
  where
    one : (ai bi al bl ac bc : ℕ) → ((nat_lt bi ai || ((ai == bi) && nat_lt bl al)) || (not (nat_lt ai bi || ((bi == ai) && nat_lt al bl)) && nat_lt bc ac)) ≡ false
        → ((nat_lt ai bi || ((bi == ai) && nat_lt al bl)) || (not (nat_lt bi ai || ((ai == bi) && nat_lt bl al)) && nat_lt ac bc)) ≡ false → ai ≡ bi
    one ai bi al bl ac bc h k = grind arith

    two : (ai bi al bl ac bc : ℕ) → ((nat_lt bi ai || ((ai == bi) && nat_lt bl al)) || (not (nat_lt ai bi || ((bi == ai) && nat_lt al bl)) && nat_lt bc ac)) ≡ false
        → ((nat_lt ai bi || ((bi == ai) && nat_lt al bl)) || (not (nat_lt bi ai || ((ai == bi) && nat_lt bl al)) && nat_lt ac bc)) ≡ false → al ≡ bl
    two ai bi al bl ac bc h k = grind arith

    three : (ai bi al bl ac bc : ℕ) → ((nat_lt bi ai || ((ai == bi) && nat_lt bl al)) || (not (nat_lt ai bi || ((bi == ai) && nat_lt al bl)) && nat_lt bc ac)) ≡ false
        → ((nat_lt ai bi || ((bi == ai) && nat_lt al bl)) || (not (nat_lt bi ai || ((ai == bi) && nat_lt bl al)) && nat_lt ac bc)) ≡ false → ac ≡ bc
    three ai bi al bl ac bc h k = grind arith

-- both are of one log
same_texts : (S : _) (M : Memberships) (e k j : ℕ) (a b : NodeRecord) → Holds S M → (M.node k).answered e ≡ true → (M.node j).answered e ≡ true → IsOf a ((M.node k).showed e) → IsOf b ((M.node j).showed e) → Level a b → a.texts ≡ b.texts
same_texts S M e k j a b holds answered also is of h =
    let x : Saved = (M.node k).showed e in
    let y : Saved = (M.node j).showed e in
    let f : Fits x (M.epoch x.installed) = (holds.node k).showed_fits e answered in
    let g : Fits y (M.epoch y.installed) = (holds.node j).showed_fits e also in
    let counts : length x.entries ≡ length y.entries = ap length (sym is.texts) ∙ (h.all ∙ ap length of.texts) in
    let epochs : x.installed ≡ y.installed = sym is.installed ∙ (h.installed ∙ of.installed) in
    is.texts ∙ (f.entries ∙ (ap (λ q. take (length x.entries) (M.epoch q).log) epochs ∙ (ap (λ q. take q (M.epoch y.installed).log) counts ∙ (sym g.entries ∙ sym of.texts))))

-- ---- the newest in hand

record FoundIn (P : NodeRecord → Type 0) (test : NodeRecord → Bool) (r : NodeRecord) : Type 0 where
  so : P r
  passes : test r ≡ true

found_in : (P : NodeRecord → Type 0) (test : NodeRecord → Bool) (rs : List NodeRecord) (r : NodeRecord) → AllByRecursion P rs → find test rs ≡ Some r → FoundIn P test r
found_in P test [] r all is = absurd (none_some r is)
found_in P test (x ∷ rs) r all is = by_test (test x) refl is (λ rest. found_in P test rs r all.1 rest)
  where
    by_test : (b : Bool) → test x ≡ b → (if b then Some x else find test rs) ≡ Some r → (find test rs ≡ Some r → FoundIn P test r) → FoundIn P test r
    by_test true at here next = subst (FoundIn P test) (same_some x r here) (record { so = all.0; passes = at })
    by_test false at here next = next here

either_not : (a b : Bool) → (a || b) ≡ false → (a ≡ false) × (b ≡ false)
either_not true b h = absurd (false_true (sym h))
either_not false b h = (refl, h)

none_of : (test other : NodeRecord → Bool) (rs : List NodeRecord) (r : NodeRecord) → find test rs ≡ Some r → list_any other rs ≡ false → other r ≡ false
none_of test other [] r is none = absurd (none_some r is)
none_of test other (x ∷ rs) r is none = by_test (test x) is (λ rest. none_of test other rs r rest (either_not (other x) (list_any other rs) none).1)
  where
    by_test : (b : Bool) → (if b then Some x else find test rs) ≡ Some r → (find test rs ≡ Some r → other r ≡ false) → other r ≡ false
    by_test true here next = subst (λ z. other z ≡ false) (same_some x r here) (either_not (other x) (list_any other rs) none).0
    by_test false here next = next here

not_any : (b : Bool) → not b ≡ true → b ≡ false
not_any true h = absurd (false_true h)
not_any false h = refl

true_false : true ≡ false → ⊥
true_false h = false_true (sym h)

shown_in : (M : Memberships) (e : ℕ) (rs : List NodeRecord) → (M.epoch e).counted ≡ false → AllByRecursion (Shows M e) rs → AllByRecursion (ShownBy M e) rs
shown_in M e [] uncounted h = tt
shown_in M e (r ∷ rs) uncounted h = (record { node = h.0.node; member = h.0.promise.member; answered = h.0.promise.answered; is = by_shows h.0.promise.shows }, shown_in M e rs uncounted h.1)
  where
    by_shows : ShowsSo M e h.0.node h.0.saved → IsOf r ((M.node h.0.node).showed e)
    by_shows (inl at) = subst (λ z. IsOf r z) (sym at) h.0.is
    by_shows (inr at) = absurd (true_false (sym at.1 ∙ uncounted))

-- the one that is found has the texts of the newest node's
found_counts : (S : Setting) (c : Cluster) (M : Memberships) (e k : ℕ) (records : List NodeRecord) (both : BothVotes) (r : NodeRecord) → Holds (setting_of c) M → ((updates : List (List ℕ)) → S.votes updates ≡ votes_under c updates) → AllByRecursion (ShownBy M e) records → HasNewestOf M e k records
    → (M.node k).answered e ≡ true → AreOf c ((M.node k).showed e) both → find (is_newest records) records ≡ Some r → CountsFor S both r
found_counts S c M e k records both r holds votes all best answered of is =
    let f : FoundIn (ShownBy M e) (is_newest records) r = found_in (ShownBy M e) (is_newest records) records r all is in
    let one : exceeds best.best r ≡ false = best.among (λ other. exceeds other r) (not_any (list_any (λ other. exceeds other r) records) f.passes) in
    let two : exceeds r best.best ≡ false = none_of (is_newest records) (λ other. exceeds other best.best) records r is (not_any (list_any (λ other. exceeds other best.best) records) best.newest) in
    let l : Level best.best r = level best.best r one two in
    let texts : best.best.texts ≡ r.texts = same_texts (setting_of c) M e k f.so.node best.best r holds answered f.so.answered best.is f.so.is l in
    let b : CountsFor S both best.best = record_counts S c best.best ((M.node k).showed e) both votes best.is of in
    counts_for S both r
    (ap S.votes (sym (ap (λ q. take q best.best.texts) l.committed ∙ ap (λ xs. take (committed_of r) xs) texts)) ∙ b.committed)
    (ap S.votes (sym texts) ∙ b.all)

-- ---- an attempt that seizes

seizing_phase : (P : Phase → Type 0) (p : Phase) → is_seizing p ≡ true → (p ≡ SeizingVotes → P SeizingVotes) → (p ≡ SeizingOthers → P SeizingOthers) → P p
seizing_phase P SeizingVotes is f g = f refl
seizing_phase P SeizingOthers is f g = g refl
seizing_phase P Collecting is f g = absurd (false_true is)
seizing_phase P Choosing is f g = absurd (false_true is)
seizing_phase P Installing is f g = absurd (false_true is)
seizing_phase P Over is f g = absurd (false_true is)

given_so : (a : AttemptState) (both : BothVotes) → is_seizing a.phase ≡ true → GivenIn a.votes both a.phase → a.votes ≡ Some both
given_so a both is = seizing_phase (λ p. GivenIn a.votes both p → a.votes ≡ Some both) a.phase is (λ at h. h) (λ at h. h)

seeks_so : (seeking : Bool) (p : Phase) → is_seizing p ≡ true → Seeks seeking p → seeking ≡ true
seeks_so seeking p is = seizing_phase (λ q. Seeks seeking q → seeking ≡ true) p is (λ at h. h) (λ at h. h)

chosen_so : (a : AttemptState) → is_seizing a.phase ≡ true → ChosenIn a a.phase → IsChosen a.promises a.plan.nodes a.newest
chosen_so a is = seizing_phase (λ p. ChosenIn a p → IsChosen a.promises a.plan.nodes a.newest) a.phase is (λ at h. h) (λ at h. h)

heard_newest : (M : Memberships) (n : ℕ) (ms : List Moment) (r : kept.NodeRecord) (a : AttemptState) (f : Found a) → AttemptKept M ms n r a → HeardFrom ms n a.plan.epoch a.newest
heard_newest M n ms r a f h =
    let found : HeardFrom ms n a.plan.epoch f.promise.shown.summary.node × (is_from a.newest f.promise ≡ true) = found_all (λ p. HeardFrom ms n a.plan.epoch p.shown.summary.node) a.promises a.newest f.promise f.found h.heard in
    subst (λ k. HeardFrom ms n a.plan.epoch k) (same_number f.promise.shown.summary.node a.newest found.1) found.0

counts_newest : (S : Setting) (c : Cluster) (s : Scene) (n : ℕ) (r : kept.NodeRecord) (a : AttemptState) → ((updates : List (List ℕ)) → S.votes updates ≡ votes_under c updates) → (k : KnownScene c s) → (t : Tied c k.stage.machine n a) → AttemptKept k.stage.machine s.moments n r a → is_seizing a.phase ≡ true
    → NewestCounts S a s.moments
counts_newest S c s n r a votes k t h is = record { both = votes_in c a; given = given_so a (votes_in c a) is t.co.votes; newest = by_own (own_record e s.moments) h.first }
  where
    M : Memberships
    M = k.stage.machine

    e : ℕ
    e = a.plan.epoch

    uncounted : (M.epoch e).counted ≡ false
    uncounted = by_value (M.epoch e).counted refl
      where
        by_value : (b : Bool) → (M.epoch e).counted ≡ b → b ≡ false
        by_value true at = absurd (seeking_not_counted c M n t.state a k.stage.holds t.session t.co (seeks_so (M.node n).seeking a.phase is t.co.seeks) at)
        by_value false at = refl

    chosen : IsChosen a.promises a.plan.nodes a.newest
    chosen = chosen_so a is (chosen_reached a t.co.reached)

    newest : HasNewest M e a.newest
    newest = has_newest M a t.co.has chosen

    f : Found a
    f = newest_found M a t.co.has chosen

    member : (M.epoch e).members n ≡ true
    member = subst (λ j. (M.epoch e).members j ≡ true) (sym t.co.has.coordinator ∙ t.co.coordinator) ((k.stage.holds.epoch e).tried_member t.co.has.tried)

    of : AreOf c ((M.node a.newest).showed e) (votes_in c a)
    of =
        let p : Promised = f.promise in
        let answer : IsAnswer M e a.plan.members p × (is_from a.newest p ≡ true) = found_all (IsAnswer M e a.plan.members) a.promises a.newest p f.found t.co.has.answers in
        let log : ShowsLog c p.message.body × (is_from a.newest p ≡ true) = found_all (λ q. ShowsLog c q.message.body) a.promises a.newest p f.found t.co.logs in
        let showed : (M.node a.newest).showed e ≡ record_in p.message.body = subst (λ j. (M.node j).showed e ≡ record_in p.message.body) (same_number p.shown.summary.node a.newest answer.1) answer.0.showed in
        let same : votes_in c a ≡ votes_shown c p.message.body = ap (λ (o : Option Promised). votes_of_message c (option_map (λ q. q.message) o)) f.found in
        subst (λ z. AreOf c z (votes_in c a)) (sym showed) (subst (AreOf c (record_in p.message.body)) (sym same) (shown_of c p.shown.summary.node p.message p p.message.body answer.0.shown log.0))

    by_own : (o : Option NodeRecord) → IfSome o (λ z. IsOf z ((M.node n).showed e)) → IfSome (option_and_then (λ (records : List NodeRecord). find (is_newest records) records) (option_map (λ z. z ∷ records_told (promises e s.moments)) o)) (CountsFor S (votes_in c a))
    by_own None h1 = tt
    by_own (Some z) h1 =
        let records : List NodeRecord = z ∷ records_told (promises e s.moments) in
        let best : HasNewestOf M e a.newest records = in_hand M n e a.newest s.moments z uncounted k.sound newest member h.answered h1 (heard_newest M n s.moments r a f h) in
        let all : AllByRecursion (ShownBy M e) records = (record { node = n; member = member; answered = h.answered; is = h1 }, shown_in M e (records_told (promises e s.moments)) uncounted (told_records M e (promises e s.moments) (promises_had M e s.moments k.sound))) in
        by_found (find (is_newest records) records) (λ q at. found_counts S c M e a.newest records (votes_in c a) q k.stage.holds votes all best (newest.all_answered a.newest newest.of_member) of at)
      where
        by_found : (o : Option NodeRecord) → ((q : NodeRecord) → o ≡ Some q → CountsFor S (votes_in c a) q) → IfSome o (CountsFor S (votes_in c a))
        by_found None g = tt
        by_found (Some q) g = g q refl

pub votes_are_told : VotesAreTold
votes_are_told h cells hs few small may n a at is =
    let s : Scene = all_happened (first_cluster h) (first_scene h cells) hs in
    let k : KnownScene (first_cluster h) s = (knows_at h cells s (record { few = few; small = small }) (record { happenings = hs; may = may; is = refl })).known in
    let it : HasIt (s.nodes.node n) a = has_it (s.nodes.node n) a at in
    counts_newest (settings.setting_of h) (first_cluster h) s n (record_of it.x) a (setting_counts_votes h) k
    (tied_of (first_cluster h) k.stage.machine n (s.nodes.disk n).kept it.x a (subst (NodeTied (first_cluster h) k.stage.machine n (s.nodes.disk n).kept) it.up (k.stage.stands n).tied) it.has)
    (subst (AttemptIn k.stage.machine s.moments n (record_of it.x)) it.has (subst (NodeKept k.stage.machine s.moments n) it.up (k.at n).up).attempt) is
