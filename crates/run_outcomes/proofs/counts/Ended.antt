-- The line of an attempt that ends by what it counts tells it by the newest record in hand.
use Rattle.std.specs.Prelude.{ℕ, ◌≡◌, ◌==◌, ◌&&◌, ◌||◌, not, Bool, true, false, List, [], ◌∷◌, take, Option, None, Some, IfSome, option_map, filter, unwrap_or, if◌then◌else◌}
use Rattle.std.specs.List.{AllByRecursion, find, list_all, list_any}
use Rattle.std.proofs.Common.{refl, sym, ap, subst, ◌∙◌, arith, inl, inr}
use Rattle.cl_base.specs.Limits.{most_nodes}
use Rattle.cl_base.specs.Numbers.{numbers_to}
use Rattle.cl_base.specs.declared.seizing.Lack.{Lack}
use Rattle.cmm_attempt.proofs.Basics.{false_true, none_some, same_number}
use Rattle.cmm_attempt.specs.Attempts.{AttemptState}
use Rattle.cmm_attempt.specs.Counts.{first_foreign, is_enabled as is_counted, is_enabled_state, is_foreign as is_foreign_by, is_foreign_pending}
use Rattle.cmm_attempt.specs.Promises.{is_from}
use Rattle.cmm_attempt.specs.declared.counting.BothVotes.{BothVotes}
use Rattle.cmm_attempt.specs.declared.step.AttemptEnd.{AttemptEnd}
use Rattle.cmm_attempt.specs.declared.step.AttemptEnd.TheVariants as end
use Rattle.cmm_member.specs.Nodes.{NodeState}
use Rattle.cmm_member.specs.Records.{NodeRecord}
use Rattle.history.specs.Attempts.{counts, counts_for, is_foreign_to, may_be_enough}
use Rattle.history.specs.Member.{members_of}
use Rattle.history.specs.Moment.{Told}
use Rattle.history.specs.Queue.{is_enabled}
use Rattle.history.specs.Records.{NodeRecord as Shown, committed_of, is_newest, own_record, promises, records_told}
use Rattle.history.specs.Seizing.{is_number}
use Rattle.history.specs.Setting.{Setting, nodes_of}
use Rattle.machine_base.specs.Epochs.{coordinator}
use Rattle.membership_machine.specs.Invariant.{Holds}
use Rattle.membership_machine.specs.Records.{Saved}
use Rattle.membership_machine.specs.State.{Memberships}
use Rattle.node_model.specs.Attempts.{ended_entry}
use Rattle.node_model.specs.Seats.{record_of}
use Rattle.node_model.specs.declared.cluster.Cluster.{Cluster}
use Rattle.node_model.specs.declared.node.Node.TheVariants.{Up}
use Rattle.node_model.specs.declared.node.UpNode.{UpNode}
use Rattle.node_model.specs.declared.seat.Seat.{Seat}
use Rattle.node_model.specs.declared.seat.Seat.TheVariants.{Forming, Member}
use Rattle.quorum_votes.specs.Tables.{VoteTable}
use Rattle.quorum_votes.specs.Votes.{device_at, is_configured, needed_of, state_of}
use Rattle.quorum_votes.specs.declared.state.DevState.{DevState}
use Rattle.quorum_votes.specs.declared.state.DevState.TheVariants.{Absent, Disabled, Enabled}
use Rattle.refinement.proofs.Given.{found_all}
use Rattle.refinement.specs.Doings.{site}
use Rattle.refinement.specs.Runs.{Nodes}
use Rattle.refinement.specs.Ties.{AttemptTied, Coordinates, Delivered, NodeTied, SeatTied, setting_of, votes_under}
use Rattle.run_history.specs.Noted as noted
use Rattle.run_history.specs.Noted.{Notes}
use Rattle.run_history.specs.Scenes.{Scene}
use Rattle.run_messages.specs.records.Kept.{AttemptIn, AttemptKept, Goes, HeardFrom}
use Rattle.run_messages.specs.records.Shown.{IsOf}
use Rattle.status_report.specs.declared.entry.Entry.TheVariants as entry
use Rattle.run_outcomes.specs.counts.Ends.{IsGivenBy, Last}
use Rattle.run_outcomes.specs.counts.Facts.{AreOf, CountsIn, ForeignTo, Foretold, IsDue, Known, LastTied, NeedsOf, NeedsUnder, ShortOf}
use Rattle.run_outcomes.specs.counts.Laws.{AreNamed, needs_for, needs_under}
use Rattle.run_outcomes.specs.counts.Shorts.{AttemptPlanned, IsPlaced, NodePlanned}
use Rattle.run_outcomes.proofs.counts.InHand.{HasNewestOf, committed_is, in_hand, newest_passes}
use Rattle.run_outcomes.proofs.counts.Places.{OfHeader}
use Rattle.run_outcomes.proofs.counts.Stages.{CountsUnder, short_counts, short_names}

-- ---- the attempt of a node that is up is tied

pub record Tied (c : Cluster) (M : Memberships) (n : ℕ) (a : AttemptState) : Type 0 where
  pub state : NodeState
  pub session : (M.node n).session ≡ state.session
  pub co : Coordinates c M n state a

pub tied_of : (c : Cluster) (M : Memberships) (n : ℕ) (disk : NodeRecord) (x : UpNode) (a : AttemptState) → NodeTied c M n disk (Up x) → x.attempt ≡ Some a → Tied c M n a
tied_of c M n disk x a tied is = by_seat x.seat x.attempt is tied.0
  where
    by_seat : (seat : Seat) (o : Option AttemptState) → o ≡ Some a → SeatTied c M n disk o seat → Tied c M n a
    by_seat (Forming s) o is h = record { state = s; session = h.0.session; co = subst (AttemptTied c M n s) is h.2 }
    by_seat (Member s) o is h = absurd (none_some a (sym h.2 ∙ is))

-- ---- the votes of a record are those that were given

-- the record's, as the setting counts them
record Counted (S : Setting) (r : Shown) (both : BothVotes) : Type 0 where
  committed : S.votes (take (committed_of r) r.texts) ≡ both.committed
  all : S.votes r.texts ≡ unwrap_or both.pending both.committed

counted_so : (S : Setting) (c : Cluster) (r : Shown) (s : Saved) (both : BothVotes) → CountsIn S c → IsOf r s → AreOf c s both → Counted S r both
counted_so S c r s both counts h of = record {
  committed = counts.votes (take (committed_of r) r.texts) ∙ (ap (votes_under c) (ap (λ k. take k r.texts) (committed_is r s h) ∙ ap (λ xs. take s.committed xs) h.texts) ∙ sym of.committed);
  all = counts.votes r.texts ∙ (ap (votes_under c) h.texts ∙ sym of.all);
}

-- ---- a foreign member

-- where no update is pending both votes are the committed ones
foreign_under : (v : VoteTable) (o : Option VoteTable) (j : ℕ) → (not (is_configured v j) && not (is_configured (unwrap_or o v) j)) ≡ (not (is_configured v j) && is_foreign_pending o j)
foreign_under v (Some w) j = refl
foreign_under v None j = twice (not (is_configured v j))
  where
    twice : (b : Bool) → (b && b) ≡ (b && true)
    twice true = refl
    twice false = refl

foreign_same : (S : Setting) (r : Shown) (both : BothVotes) (j : ℕ) → Counted S r both → is_foreign_to S r j ≡ is_foreign_by both j
foreign_same S r both j h =
    ap (λ (v : VoteTable). not (is_configured v j) && not (is_configured (S.votes r.texts) j)) h.committed
    ∙ (ap (λ (v : VoteTable). not (is_configured both.committed j) && not (is_configured v j)) h.all ∙ foreign_under both.committed both.pending j)

same_find : (f g : ℕ → Bool) (ns : List ℕ) → ((j : ℕ) → f j ≡ g j) → find f ns ≡ find g ns
same_find f g [] h = refl
same_find f g (n ∷ ns) h = ap (λ b. if b then Some n else find f ns) (h n) ∙ ap (λ (o : Option ℕ). if g n then Some n else o) (same_find f g ns h)

same_self : (m : ℕ) → (m == m) ≡ true
same_self m = grind arith

-- the least member that is foreign to the record
names_least : (S : Setting) (r : Shown) (both : BothVotes) (nodes : List ℕ) (m : ℕ) → Counted S r both → first_foreign both nodes ≡ Some m → is_number m (find (is_foreign_to S r) nodes) ≡ true
names_least S r both nodes m h least =
    ap (is_number m) (same_find (is_foreign_to S r) (is_foreign_by both) nodes (λ j. foreign_same S r both j h) ∙ least) ∙ same_self m

-- ---- what is needed

and_both : (a b : Bool) → a ≡ true → b ≡ true → (a && b) ≡ true
and_both true b h k = k
and_both false b h k = absurd (false_true h)

enabled_same : (s : DevState) → is_enabled_state s ≡ true → is_enabled s ≡ true
enabled_same Enabled h = refl
enabled_same Disabled h = absurd (false_true h)
enabled_same Absent h = absurd (false_true h)

all_enabled : (v : VoteTable) (lacking : List Lack) → AllByRecursion (λ (x : Lack). is_counted v x.device ≡ true) lacking → list_all (λ (x : Lack). is_enabled (state_of (device_at v x.device))) lacking ≡ true
all_enabled v [] h = refl
all_enabled v (x ∷ xs) h = and_both (is_enabled (state_of (device_at v x.device))) _ (enabled_same (state_of (device_at v x.device)) h.0) (all_enabled v xs h.1)

same_is : (a b : ℕ) → a ≡ b → (a == b) ≡ true
same_is a b h = grind arith

needs_so : (v w : VoteTable) (need : ℕ) (lacking : List Lack) → w ≡ v → NeedsUnder v need lacking → needs_under w need lacking ≡ true
needs_so v w need lacking is h =
    subst (λ z. needs_under z need lacking ≡ true) (sym is) (and_both (needed_of v == need) (list_all (λ (x : Lack). is_enabled (state_of (device_at v x.device))) lacking) (same_is (needed_of v) need h.0) (all_enabled v lacking h.1))

or_first : (a b : Bool) → a ≡ true → (a || b) ≡ true
or_first true b h = refl
or_first false b h = absurd (false_true h)

or_second : (a b : Bool) → b ≡ true → (a || b) ≡ true
or_second true b h = refl
or_second false b h = h

needs_of_record : (S : Setting) (r : Shown) (both : BothVotes) (need : ℕ) (lacking : List Lack) → Counted S r both → NeedsOf both need lacking → needs_for S r need lacking ≡ true
needs_of_record S r both need lacking h (inl under) = or_first _ (needs_under (S.votes r.texts) need lacking) (needs_so both.committed (S.votes (take (committed_of r) r.texts)) need lacking h.committed under)
needs_of_record S r both need lacking h (inr under) =
    or_second (needs_under (S.votes (take (committed_of r) r.texts)) need lacking) _ (needs_so (unwrap_or both.pending both.committed) (S.votes r.texts) need lacking h.all under)

-- ---- what is counted

counts_of_record : (S : Setting) (r : Shown) (both : BothVotes) (members have need : ℕ) (lacking : List Lack) → Counted S r both → CountsUnder S.header both members have need lacking → counts_for S r members have need lacking ≡ true
counts_of_record S r both members have need lacking h (inl under) =
    or_first (counts S.header (S.votes (take (committed_of r) r.texts)) members have need lacking) _ (subst (λ v. counts S.header v members have need lacking ≡ true) (sym h.committed) under)
counts_of_record S r both members have need lacking h (inr under) =
    or_second (counts S.header (S.votes (take (committed_of r) r.texts)) members have need lacking) _
    (and_both (may_be_enough S.header (S.votes (take (committed_of r) r.texts)) members lacking) _ (subst (λ v. may_be_enough S.header v members lacking ≡ true) (sym h.committed) under.0)
    (subst (λ v. counts S.header v members have need lacking ≡ true) (sym h.all) under.1))

of_header : (S : Setting) (c : Cluster) (a : AttemptState) → CountsIn S c → a.plan.attached ≡ c.attached → a.plan.nodes ≡ nodes_of a.plan.members → OfHeader S.header a.plan
of_header S c a counted planned nodes = record { few = counted.few; attached = planned ∙ counted.attached; nodes = nodes }

-- what the attempt counts is counted under the votes of the record
counted_of_record : (S : Setting) (c : Cluster) (M : Memberships) (r : Shown) (a : AttemptState) (have need : ℕ) (lacking : List Lack) → CountsIn S c → a.plan.attached ≡ c.attached → a.plan.nodes ≡ nodes_of a.plan.members
    → (f : ShortOf c M a have need lacking) → Counted S r f.both → counts_for S r a.plan.members have need lacking ≡ true
counted_of_record S c M r a have need lacking counted planned nodes f h =
    counts_of_record S r f.both a.plan.members have need lacking h
    (short_counts S.header a f.both have need lacking (of_header S c a counted planned nodes) (subst (IsPlaced S.header) h.committed (counted.placed (take (committed_of r) r.texts)))
    (subst (IsPlaced S.header) h.all (counted.placed r.texts)) f.given f.short)

-- ---- the records in hand

-- the newest of them has the votes that the attempt was given; so what they pass is passed by one of the newest
counts_newest : (S : Setting) (c : Cluster) (M : Memberships) (n : ℕ) (told : Delivered) (v : Nodes) (x : UpNode) (disk r : NodeRecord) (a : AttemptState) (both : BothVotes) (test : Shown → Bool) (s : Scene) → CountsIn S c → Holds (setting_of c) M
    → Tied c M n a → Known c M a both → AttemptKept M s.moments n r a → Goes n told v M (site (Up x) disk) s → ((z : Shown) → Counted S z both → test z ≡ true)
    → IfSome (option_map (λ o. o ∷ records_told (promises a.plan.epoch s.moments)) (own_record a.plan.epoch s.moments)) (λ records. list_any test (filter (is_newest records) records) ≡ true)
counts_newest S c M n told v x disk kept_record a both test s counts holds tied f kept goes passes = by_own (own_record e s.moments) kept.first
  where
    e : ℕ
    e = a.plan.epoch

    own : coordinator e ≡ n
    own = sym tied.co.has.coordinator ∙ tied.co.coordinator

    member : (M.epoch e).members n ≡ true
    member = subst (λ k. (M.epoch e).members k ≡ true) own ((holds.epoch e).tried_member tied.co.has.tried)

    heard : HeardFrom s.moments n e a.newest
    heard =
        let found : HeardFrom s.moments n e f.promise.shown.summary.node × (is_from a.newest f.promise ≡ true) = found_all (λ p. HeardFrom s.moments n e p.shown.summary.node) a.promises a.newest f.promise f.found kept.heard in
        subst (λ k. HeardFrom s.moments n e k) (same_number f.promise.shown.summary.node a.newest found.1) found.0

    by_own : (o : Option Shown) → IfSome o (λ z. IsOf z ((M.node n).showed e)) → IfSome (option_map (λ z. z ∷ records_told (promises e s.moments)) o) (λ records. list_any test (filter (is_newest records) records) ≡ true)
    by_own None h = tt
    by_own (Some z) h =
        let best : HasNewestOf M e a.newest (z ∷ records_told (promises e s.moments)) = in_hand M n e a.newest s.moments z f.uncounted goes.sound f.newest member kept.answered h heard in
        newest_passes M e a.newest (z ∷ records_told (promises e s.moments)) test best (passes best.best (counted_so S c best.best ((M.node a.newest).showed e) both counts best.is f.votes))

foretold_of : (c : Cluster) (M : Memberships) (last : Last) (a : AttemptState) (why : AttemptEnd) → LastTied c M last → IsGivenBy last a why → Foretold c M a why
foretold_of c M None a why h given = absurd given
foretold_of c M (Some l) a why h given = subst (λ z. Foretold c M z why) (sym given.0) (h why given.1)

-- ---- the line

pub ends_due : (S : Setting) (c : Cluster) (M : Memberships) (n : ℕ) (told : Delivered) (v : Nodes) (x : UpNode) (disk : NodeRecord) (a : AttemptState) (why : AttemptEnd) (last : Last) (s : Scene) → CountsIn S c → Holds (setting_of c) M
    → NodeTied c M n disk (Up x) → NodePlanned c (Up x) → x.attempt ≡ Some a → LastTied c M last → IsGivenBy last a why → Notes s.moments n (site (Up x) disk) → Goes n told v M (site (Up x) disk) s → IsDue S s.moments (Told (entry.Attempt (ended_entry a.plan.epoch why)))
ends_due S c M n told v x disk a (end.Foreign m) last s counts holds tied planned is h given notes goes =
    let t : Tied c M n a = tied_of c M n disk x a tied is in
    let f : ForeignTo c M a m = foretold_of c M last a (end.Foreign m) h given in
    let note : noted.AttemptNoted s.moments n a = subst (noted.AttemptIn s.moments n) is notes.up.attempt in
    let kept : AttemptKept M s.moments n (record_of x) a = subst (AttemptIn M s.moments n (record_of x)) is goes.here.up.attempt in
    let nodes : a.plan.nodes ≡ nodes_of (members_of a.plan.epoch s.moments) = t.co.has.nodes ∙ ap (λ set. numbers_to set most_nodes) (sym note.members) in
    counts_newest S c M n told v x disk (record_of x) a f.both (λ z. is_number m (find (is_foreign_to S z) (nodes_of (members_of a.plan.epoch s.moments)))) s counts holds t f.known kept goes
    (λ z counted. names_least S z f.both (nodes_of (members_of a.plan.epoch s.moments)) m counted (subst (λ ns. first_foreign f.both ns ≡ Some m) nodes f.least))
ends_due S c M n told v x disk a (end.Votes have need lacking) last s counts holds tied planned is h given notes goes =
    let t : Tied c M n a = tied_of c M n disk x a tied is in
    let f : ShortOf c M a have need lacking = foretold_of c M last a (end.Votes have need lacking) h given in
    let note : noted.AttemptNoted s.moments n a = subst (noted.AttemptIn s.moments n) is notes.up.attempt in
    let kept : AttemptKept M s.moments n (record_of x) a = subst (AttemptIn M s.moments n (record_of x)) is goes.here.up.attempt in
    let own : a.plan.attached ≡ c.attached = subst (AttemptPlanned c) is planned in (
      counts_newest S c M n told v x disk (record_of x) a f.both (λ z. counts_for S z (members_of a.plan.epoch s.moments) have need lacking) s counts holds t f.known kept goes
          (λ z counted. subst (λ set. counts_for S z set have need lacking ≡ true) (sym note.members) (counted_of_record S c M z a have need lacking counts own t.co.has.nodes f counted)),
      counts_newest S c M n told v x disk (record_of x) a f.both (λ z. needs_for S z need lacking) s counts holds t f.known kept goes (λ z counted. needs_of_record S z f.both need lacking counted f.needs),
      subst (λ set. AreNamed S.header set lacking) (sym note.members) (short_names S.header a have need lacking (of_header S c a counts own t.co.has.nodes) f.short),
    )
ends_due S c M n told v x disk a (end.Superseded q) last s counts holds tied planned is h given notes goes = tt
ends_due S c M n told v x disk a (end.Silent m) last s counts holds tied planned is h given notes goes = tt
ends_due S c M n told v x disk a (end.Excluded m) last s counts holds tied planned is h given notes goes = tt
