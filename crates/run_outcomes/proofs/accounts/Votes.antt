-- The votes that an attempt was given are those of the base that it has installed.
use Rattle.std.specs.Prelude.{ℕ, ◌+◌, ◌-◌, ◌≡◌, ◌<◌, ◌≤◌, ◌==◌, ◌||◌, ◌++◌, ◌⊎◌, Bool, true, false, List, [], ◌∷◌, length, take, Option, None, Some, option_map, unwrap_or}
use Rattle.std.specs.List.{filter_map}
use Rattle.std.proofs.Common.{arith, refl, sym, ap, subst, ◌∙◌, inl, inr}
use Rattle.attempt_laws.proofs.Goes.{ChosenIn, chosen_reached}
use Rattle.attempt_laws.specs.Machine.{IsAnswer, record_in}
use Rattle.ccr_commit.specs.Entries.{listed, texts_of}
use Rattle.cmm_attempt.proofs.Basics.{false_true, none_some}
use Rattle.cmm_attempt.specs.Attempts.{AttemptState, install_in}
use Rattle.cmm_attempt.specs.Counts.{is_enabled, is_enabled_pending, is_enabled_state, is_quorum}
use Rattle.cmm_attempt.specs.Installs.{committed_in, install_by, pending_in}
use Rattle.cmm_attempt.specs.Promises.{is_from, promised_by, shown_by}
use Rattle.cmm_attempt.specs.Seizings.{reading_of}
use Rattle.cmm_attempt.specs.declared.counting.BothVotes.{BothVotes}
use Rattle.cmm_attempt.specs.declared.phase.Phase.TheVariants.{Installing}
use Rattle.cmm_attempt.specs.declared.promised.Promised.{Promised}
use Rattle.cmm_member.specs.Machine.{ShowsForming}
use Rattle.cmm_member.specs.Nodes.{NodeState}
use Rattle.history.specs.Attempts.{is_enabled_for}
use Rattle.history.specs.Queue as told
use Rattle.history.specs.Setting.{Setting}
use Rattle.membership_machine.specs.Invariant.{Fits, Holds}
use Rattle.membership_machine.specs.Records.{Saved}
use Rattle.membership_machine.specs.State.{Memberships}
use Rattle.node_model.specs.Attempts.{votes_in, votes_of as votes_of_message, votes_shown}
use Rattle.node_model.specs.declared.cluster.Cluster.{Cluster}
use Rattle.quorum_votes.specs.Tables.{VoteTable}
use Rattle.quorum_votes.specs.Votes.{device_at, state_of}
use Rattle.quorum_votes.specs.declared.state.DevState.{DevState}
use Rattle.quorum_votes.specs.declared.state.DevState.TheVariants.{Absent, Disabled, Enabled}
use Rattle.refinement.proofs.Attempts.{install_epoch}
use Rattle.refinement.proofs.Given.{found_all}
use Rattle.refinement.proofs.Logs.{committed_votes, pending_votes}
use Rattle.refinement.specs.Ties.{Coordinates, CountedIn, GivenIn, InstallTold, ShowsLog, setting_of, votes_under}
use Rattle.run_outcomes.proofs.counts.Newest.{Found, newest_found}
use Rattle.run_outcomes.specs.counts.Facts.{AreOf}
use Rattle.wire.specs.declared.message.Body.{Body}
use Rattle.wire.specs.declared.message.Body.TheVariants as body
use Rattle.wire.specs.declared.message.Message.{Message}

-- ---- the votes of a record

pub take_front : (xs ys : List (List ℕ)) → take (length xs) (xs ++ ys) ≡ xs
take_front [] ys = refl
take_front (x ∷ xs) ys = ap (λ (zs : List (List ℕ)). x ∷ zs) (take_front xs ys)

-- what a Promise shows
pub shown_of : (c : Cluster) (n : ℕ) (m : Message) (p : Promised) (b : Body) → promised_by m (shown_by n b) ≡ Some p → ShowsLog c b → AreOf c (record_in b) (votes_shown c b)
shown_of c n m p (body.Promise e installed members valid flagged committed pending) shown log = record {
  committed = sym (ap (votes_under c) (take_front committed (listed pending)) ∙ committed_votes c committed pending log);
  all = sym (pending_votes c committed pending log);
}
shown_of c n m p _ shown log = absurd (none_some p shown)

same_enabled : (s : DevState) → told.is_enabled s ≡ is_enabled_state s
same_enabled Enabled = refl
same_enabled Disabled = refl
same_enabled Absent = refl

pub enabled_so : (v w : VoteTable) (d : ℕ) → v ≡ w → told.is_enabled (state_of (device_at v d)) ≡ is_enabled w d
enabled_so v w d is = same_enabled (state_of (device_at v d)) ∙ ap (λ z. is_enabled z d) is

-- ---- the base

-- both votes are those of these updates, of all of them and of the first so many, which are all or all but the last
pub record BaseVotes (S : Setting) (both : BothVotes) (texts : List (List ℕ)) : Type 0 where
  pub first : ℕ
  pub committed : S.votes (take first texts) ≡ both.committed
  pub all : S.votes texts ≡ unwrap_or both.pending both.committed
  pub within : first ≤ length texts
  pub last : length texts ≤ first + 1

-- the updates that it installs are those that the newest Promise shows
shown_texts : (n : ℕ) (m : Message) (p : Promised) (b : Body) → promised_by m (shown_by n b) ≡ Some p → (committed_in b ++ listed (pending_in b) ≡ (record_in b).entries) × (length (committed_in b) ≡ (record_in b).committed)
shown_texts n m p (body.Promise e installed members valid flagged committed pending) shown = (refl, refl)
shown_texts n m p _ shown = absurd (none_some p shown)

pub record Installed (S : Setting) (c : Cluster) (a : AttemptState) (texts : List (List ℕ)) : Type 0 where
  pub given : a.votes ≡ Some (votes_in c a)
  pub base : BaseVotes S (votes_in c a) texts

pub installed_votes : (S : Setting) (c : Cluster) (M : Memberships) (n : ℕ) (y : NodeState) (a : AttemptState) → ((updates : List (List ℕ)) → S.votes updates ≡ votes_under c updates) → Holds (setting_of c) M → ShowsForming y (M.node n)
    → Coordinates c M n y a → a.phase ≡ Installing → Installed S c a (texts_of y.saved.entries)
installed_votes S c M n y a votes holds shows co at = record {
  given = subst (GivenIn a.votes (votes_in c a)) at co.votes;
  base = record {
    first = k;
    committed = votes (take k texts) ∙ (ap (votes_under c) (ap (λ j. take j texts) counts.1 ∙ ap (λ xs. take (record_in p.message.body).committed xs) (whole ∙ counts.0)) ∙ sym of.committed);
    all = votes texts ∙ (ap (votes_under c) (whole ∙ counts.0) ∙ sym of.all);
    within = subst (λ j. j ≤ length texts) settled (subst (λ xs. (M.epoch q).settled ≤ length xs) (sym base) (holds.epoch q).settled_base);
    last = subst (λ j. length texts ≤ j + 1) settled (subst (λ xs. length xs ≤ (M.epoch q).settled + 1) (sym base) (holds.epoch q).one_pending);
  };
}
  where
    texts : List (List ℕ)
    texts = texts_of y.saved.entries

    w : Saved
    w = (M.node n).saved

    q : ℕ
    q = w.installed

    counted_in : (y.saved.installed ≡ a.plan.epoch) × InstallTold M (install_in a) × (y.saved.members ≡ a.plan.members)
    counted_in = subst (CountedIn M y a) at co.counted

    number : q ≡ (install_in a).epoch
    number = ap (λ (r : Saved). r.installed) shows.saved ∙ (counted_in.0 ∙ sym (install_epoch a))

    epoch : q ≡ a.plan.epoch
    epoch = ap (λ (r : Saved). r.installed) shows.saved ∙ counted_in.0

    session : (M.node n).session ≡ q
    session = shows.session ∙ (sym co.epoch ∙ sym epoch)

    some : 0 < (M.node n).session
    some = subst (λ z. 0 < z) (sym (session ∙ epoch)) ((holds.epoch a.plan.epoch).tried_positive co.has.tried)

    fits : Fits w (M.epoch q)
    fits = (holds.node n).fits

    base : texts ≡ (M.epoch q).base
    base =
        sym (ap (λ (r : Saved). r.entries) shows.saved)
        ∙ (fits.entries ∙ (ap (λ j. take j (M.epoch q).log) ((holds.node n).installed_alone some session shows.member) ∙ sym (holds.epoch q).base_log))

    f : Found a
    f = newest_found M a co.has (subst (λ z. ChosenIn a z) at (chosen_reached a co.reached))

    p : Promised
    p = f.promise

    answer : IsAnswer M a.plan.epoch a.plan.members p × (is_from a.newest p ≡ true)
    answer = found_all (IsAnswer M a.plan.epoch a.plan.members) a.promises a.newest p f.found co.has.answers

    log : ShowsLog c p.message.body × (is_from a.newest p ≡ true)
    log = found_all (λ z. ShowsLog c z.message.body) a.promises a.newest p f.found co.logs

    of : AreOf c (record_in p.message.body) (votes_in c a)
    of =
        subst (AreOf c (record_in p.message.body)) (sym (ap (λ (o : Option Promised). votes_of_message c (option_map (λ z. z.message) o)) f.found))
        (shown_of c p.shown.summary.node p.message p p.message.body answer.0.shown log.0)

    k : ℕ
    k = length (committed_in p.message.body)

    counts : (committed_in p.message.body ++ listed (pending_in p.message.body) ≡ (record_in p.message.body).entries) × (k ≡ (record_in p.message.body).committed)
    counts = shown_texts p.shown.summary.node p.message p p.message.body answer.0.shown

    whole : texts ≡ committed_in p.message.body ++ listed (pending_in p.message.body)
    whole =
        base ∙ (ap (λ z. (M.epoch z).base) number
        ∙ (counted_in.1.base ∙ ap (λ (o : Option Promised). (install_by a.plan (filter_map (reading_of a.devices) a.plan.attached) o).committed ++ listed (install_by a.plan (filter_map (reading_of a.devices) a.plan.attached) o).pending) f.found))

    settled : (M.epoch q).settled ≡ k
    settled = ap (λ z. (M.epoch z).settled) number ∙ (counted_in.1.settled ∙ ap (λ (o : Option Promised). length (install_by a.plan (filter_map (reading_of a.devices) a.plan.attached) o).committed) f.found)

-- ---- devices with votes

all_or_but_one : (first n : ℕ) → first ≤ n → n ≤ first + 1 → (first ≡ n) ⊎ (first ≡ n - 1)
all_or_but_one first n i j = by_test (first == n) refl
  where
    same : (a b : ℕ) → (a == b) ≡ true → a ≡ b
    same a b k = grind arith

    less : (a b : ℕ) → (a == b) ≡ false → a ≤ b → b ≤ a + 1 → a ≡ b - 1
    less a b k l m = grind arith

    by_test : (b : Bool) → (first == n) ≡ b → (first ≡ n) ⊎ (first ≡ n - 1)
    by_test true is = inl (same first n is)
    by_test false is = inr (less first n is i j)

take_all : (xs : List (List ℕ)) → take (length xs) xs ≡ xs
take_all [] = refl
take_all (x ∷ xs) = ap (λ (zs : List (List ℕ)). x ∷ zs) (take_all xs)

or_one : (a b : Bool) → (a ≡ true) ⊎ (b ≡ true) → (a || b) ≡ true
or_one true b k = refl
or_one false b (inl k) = absurd (false_true k)
or_one false b (inr k) = k

or_two : (a b : Bool) → (a || b) ≡ true → (a ≡ true) ⊎ (b ≡ true)
or_two true b k = inl refl
or_two false b k = inr k

-- a quorum device has votes by the base, with or without its last update
pub quorum_enabled : (S : Setting) (both : BothVotes) (texts : List (List ℕ)) (d : ℕ) → BaseVotes S both texts → is_quorum both d ≡ true → is_enabled_for S d texts ≡ true
quorum_enabled S both texts d v is =
    or_one (told.is_enabled (state_of (device_at (S.votes texts) d))) (told.is_enabled (state_of (device_at (S.votes (take (length texts - 1) texts)) d)))
    (by_either (or_two (is_enabled both.committed d) (is_enabled_pending both.pending d) is))
  where
    by_first : is_enabled both.committed d ≡ true → (v.first ≡ length texts) ⊎ (v.first ≡ length texts - 1)
        → (told.is_enabled (state_of (device_at (S.votes texts) d)) ≡ true) ⊎ (told.is_enabled (state_of (device_at (S.votes (take (length texts - 1) texts)) d)) ≡ true)
    by_first k (inl whole) = inl (enabled_so (S.votes texts) both.committed d (ap S.votes (sym (ap (λ j. take j texts) whole ∙ take_all texts)) ∙ v.committed) ∙ k)
    by_first k (inr less) = inr (enabled_so (S.votes (take (length texts - 1) texts)) both.committed d (ap (λ j. S.votes (take j texts)) (sym less) ∙ v.committed) ∙ k)

    by_pending : (o : Option VoteTable) → both.pending ≡ o → is_enabled_pending o d ≡ true → told.is_enabled (state_of (device_at (S.votes texts) d)) ≡ true
    by_pending None at k = absurd (false_true k)
    by_pending (Some w) at k = enabled_so (S.votes texts) w d (v.all ∙ ap (λ o. unwrap_or o both.committed) at) ∙ k

    by_either : (is_enabled both.committed d ≡ true) ⊎ (is_enabled_pending both.pending d ≡ true)
        → (told.is_enabled (state_of (device_at (S.votes texts) d)) ≡ true) ⊎ (told.is_enabled (state_of (device_at (S.votes (take (length texts - 1) texts)) d)) ≡ true)
    by_either (inl k) = by_first k (all_or_but_one v.first (length texts) v.within v.last)
    by_either (inr k) = inl (by_pending both.pending refl k)
