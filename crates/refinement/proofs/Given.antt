-- The votes of an attempt are those that were given: those under the newest record that it was shown.
use Rattle.std.specs.Prelude.{ℕ, ◌≡◌, ◌==◌, ◌++◌, All, Bool, true, false, Contains, List, [], ◌∷◌, length, take, Option, None, Some, if◌then◌else◌}
use Rattle.std.specs.List.{filter_map, find}
use Rattle.std.specs.Option.{option_map}
use Rattle.std.proofs.Common.{refl, sym, subst, ap, ◌∙◌, inl, inr, arith}
use Rattle.std.proofs.lemmas.List.Elements.{All-append, All-cons, All-contains, All-head, All-nil, All-tail}
use Rattle.ccr_commit.specs.Entries.{listed}
use Rattle.membership_machine.specs.State.{Memberships}
use Rattle.wire.specs.declared.message.Body.{Body}
use Rattle.wire.specs.declared.message.Body.TheVariants as body
use Rattle.wire.specs.declared.message.Message.{Message}
use Rattle.cmm_attempt.specs.declared.attached.AttachedDevice.{AttachedDevice}
use Rattle.cmm_attempt.specs.declared.counting.BothVotes.{BothVotes}
use Rattle.cmm_attempt.specs.declared.phase.Phase.{Phase}
use Rattle.cmm_attempt.specs.declared.phase.Phase.TheVariants.{Collecting, Choosing, SeizingVotes, SeizingOthers, Installing, Over}
use Rattle.cmm_attempt.specs.declared.promised.Promised.{Promised}
use Rattle.cmm_attempt.specs.declared.promised.Shown.{Shown}
use Rattle.cmm_attempt.specs.Attempts.{AttemptState, asked_next, beginning, first_state, install_in, installing, promises_of}
use Rattle.cmm_attempt.specs.Calls.{Call, May, Own_ready, Own_seized, Take, Tick, With_votes, turn}
use Rattle.cmm_attempt.specs.Installs.{committed_in, install_by, pending_in}
use Rattle.cmm_attempt.specs.Seizings.{reading_of}
use Rattle.cmm_attempt.specs.Promises.{is_from, newest_shown, promised_by, shown_by}
use Rattle.cmm_attempt.proofs.Basics.{false_true, none_some, same_number, same_some}
use Rattle.cmm_attempt.proofs.NewestLemmas.{IsNotBehind}
use Rattle.attempt_laws.specs.Machine.{AreVotesOf, IsAnswer, MachineHas, record_in}
use Rattle.attempt_laws.specs.Staying.{IsKnown}
use Rattle.attempt_laws.proofs.NewestTaken.{newest_is_taken}
use Rattle.attempt_laws.proofs.Stays.{newest_stays}
use Rattle.attempt_laws.proofs.Steady.{Steady, begun_keeps, call_keeps}
use Rattle.attempt_laws.proofs.Walk.{IsSeizing, Walk, walks}
use Rattle.node_model.specs.declared.cluster.Cluster.{Cluster}
use Rattle.node_model.specs.Attempts.{votes_in, votes_of as votes_of_message, votes_shown}
use Rattle.refinement.specs.Guards.{MayCall}
use Rattle.refinement.specs.Ties.{Delivered, GivenIn, IsLog, ShowsLog, setting_of, votes_under}
use Rattle.refinement.proofs.Logs.{committed_votes, pending_votes, votes_agree}

abbrev Given : BothVotes → AttemptState → Type 0
Given both s = GivenIn s.votes both s.phase

-- where the call gives votes, they are these
abbrev pub Gives : BothVotes → Call → Type 0
Gives both (With_votes b) = b ≡ both
Gives both (Take from m) = Unit {0}
Gives both (Own_seized d r) = Unit {0}
Gives both Own_ready = Unit {0}
Gives both Tick = Unit {0}

seizing_given : (both : BothVotes) (s : AttemptState) → IsSeizing s.phase → Given both s → s.votes ≡ Some both
seizing_given both s (inl h) g = subst (GivenIn s.votes both) h g
seizing_given both s (inr h) g = subst (GivenIn s.votes both) h g

at : (both : BothVotes) (s : AttemptState) (phase : Phase) → s.phase ≡ phase → Given both s → GivenIn s.votes both phase
at both s phase is g = subst (GivenIn s.votes both) is g

back : (both : BothVotes) (s : AttemptState) (phase : Phase) → s.phase ≡ phase → GivenIn s.votes both phase → Given both s
back both s phase is g = subst (GivenIn s.votes both) (sym is) g

votes_are : (both b : BothVotes) (c : Call) → Gives both c → c ≡ With_votes b → b ≡ both
votes_are both b c gives is = subst (Gives both) is gives

walk : (both : BothVotes) (c : Call) → Gives both c → Walk c (Given both) (Given both) (λ t. Given both t.after)
unfolding asked_next installing
walk both c gives = record {
  within = λ s i. i;
  rests = λ s i. i;
  passes = λ s is e i. i;
  again = λ s is e i. i;
  silent = λ s n is late least i. tt;
  superseded = λ s from m q is nack i. tt;
  promise = λ s from m p is awaited of promised i. i;
  collects = λ s is e k. k;
  collecting = λ s is e k. k;
  no_newest = λ s is all none k. k;
  chosen = λ s newest is all some k. tt;
  votes = λ s b is i. ap (λ v. Some v) (votes_are both b c gives is);
  foreign = λ s b n is given least k. tt;
  excluded = λ s n is least k. tt;
  impossible = λ s e is short k. tt;
  entries = λ s is enough k. k;
  requests = λ s is e k. k;
  result = λ s d from r e is tells found none i. i;
  next = λ s d from n r e is tells found next i. i;
  seizing = λ s is e k. k;
  short = λ s e is all few k. tt;
  others = λ s is all enough some k. at both s SeizingVotes is k;
  installs_at_once = λ s is all enough none k. at both s SeizingVotes is k;
  installs = λ s is all k. at both s SeizingOthers is k;
  ready = λ s from m is here of ready_body i. i;
  own = λ s is here i. i;
  installing = λ s here e k. k;
  starts = λ s here e k. tt;
}

pub given_stays : (both : BothVotes) (s : AttemptState) (c : Call) → Gives both c → GivenIn s.votes both s.phase → GivenIn (turn s c).after.votes both (turn s c).after.phase
given_stays both s c gives given = walks (Given both) (Given both) (λ t. Given both t.after) s c (walk both c gives) given

-- once all have promised, the newest record stays, and so do its votes
pub votes_same : (c : Cluster) (a : AttemptState) (k : Call) → May a k → IsKnown a.phase → votes_in c (turn a k).after ≡ votes_in c a
votes_same c a k may known =
    let stays : ((turn a k).after.newest ≡ a.newest) × ((turn a k).after.promises ≡ a.promises) = newest_stays a k may known in
    ap (λ n. votes_from n (turn a k).after.promises) stays.0 ∙ ap (votes_from a.newest) stays.1
  where
    votes_from : ℕ → List Promised → BothVotes
    votes_from n promises = votes_of_message c (option_map (λ p. p.message) (find (is_from n) promises))

given_for : (c : Cluster) (a : AttemptState) (both : BothVotes) (phase : Phase) → (IsKnown phase → both ≡ votes_in c a) → GivenIn a.votes (votes_in c a) phase → GivenIn a.votes both phase
given_for c a both Collecting same h = tt
given_for c a both Choosing same h = tt
given_for c a both SeizingVotes same h = subst (λ b. a.votes ≡ Some b) (sym (same tt)) h
given_for c a both SeizingOthers same h = subst (λ b. a.votes ≡ Some b) (sym (same tt)) h
given_for c a both Installing same h = subst (λ b. a.votes ≡ Some b) (sym (same tt)) h
given_for c a both Over same h = tt

gives_newest : (c : Cluster) (told : Delivered) (a : AttemptState) (k : Call) → May a k → MayCall c told a k → (IsKnown a.phase → votes_in c (turn a k).after ≡ votes_in c a)
    → Gives (votes_in c (turn a k).after) k
gives_newest c told a (Take from m) may h same = tt
gives_newest c told a (With_votes both) may h same = h.0 ∙ sym (same (subst IsKnown (sym h.1) tt))
gives_newest c told a (Own_seized d r) may h same = tt
gives_newest c told a Own_ready may h same = tt
gives_newest c told a Tick may h same = tt

-- after a call the votes are still those under the newest record
pub votes_kept : (c : Cluster) (told : Delivered) (a : AttemptState) (k : Call) → May a k → MayCall c told a k → GivenIn a.votes (votes_in c a) a.phase
    → GivenIn (turn a k).after.votes (votes_in c (turn a k).after) (turn a k).after.phase
votes_kept c told a k may call h =
    let both : BothVotes = votes_in c (turn a k).after in
    given_stays both a k (gives_newest c told a k may call (votes_same c a k may)) (given_for c a both a.phase (votes_same c a k may) h)

-- No Promise that an attempt has taken shows a bad list.

abbrev pub Logged : Cluster → AttemptState → Type 0
Logged c s = All (λ p. ShowsLog c p.message.body) s.promises

abbrev ShowsGood : Cluster → Call → Type 0
ShowsGood c (Take from m) = ShowsLog c m.body
ShowsGood c (With_votes both) = Unit {0}
ShowsGood c (Own_seized d r) = Unit {0}
ShowsGood c Own_ready = Unit {0}
ShowsGood c Tick = Unit {0}

shows_good : (c : Cluster) (told : Delivered) (a : AttemptState) (k : Call) → MayCall c told a k → ShowsGood c k
shows_good c told a (Take from m) h = h.1
shows_good c told a (With_votes both) h = tt
shows_good c told a (Own_seized d r) h = tt
shows_good c told a Own_ready h = tt
shows_good c told a Tick h = tt

message_of : (m : Message) (o : Option Shown) (p : Promised) → promised_by m o ≡ Some p → p.message ≡ m
message_of m None p h = absurd (none_some p h)
message_of m (Some shown) p h = ap (λ q. q.message) (sym (same_some (record { shown = shown; message = m }) p h))

good_promise : (c : Cluster) (m : Message) (o : Option Shown) (p : Promised) → promised_by m o ≡ Some p → ShowsLog c m.body → ShowsLog c p.message.body
good_promise c m o p h good = subst (λ (z : Message). ShowsLog c z.body) (sym (message_of m o p h)) good

one_good : (c : Cluster) (p : Promised) → ShowsLog c p.message.body → All (λ q. ShowsLog c q.message.body) (p ∷ [])
one_good c p h = All-cons (λ q. ShowsLog c q.message.body) p [] h (All-nil (λ q. ShowsLog c q.message.body))

logs_steady : (c : Cluster) (k : Call) → ShowsGood c k → Steady k (Logged c) (Logged c)
logs_steady c k good = record {
  within = λ s i. i;
  ticked = λ s i. i;
  over = λ s j. j;
  promise = λ s from m p is awaited of promised i.
      All-append (λ q. ShowsLog c q.message.body) s.promises (p ∷ []) i
      (one_good c p (good_promise c m (shown_by from m.body) p promised (subst (ShowsGood c) is good)));
  collecting = λ s is e j. j;
  no_newest = λ s is all none j. j;
  chosen = λ s newest is all some j. j;
  votes = λ s both is i. i;
  entries = λ s is j. j;
  result = λ s d from r is tells i. i;
  next = λ s d n e kind r is found i. i;
  seizing = λ s is e j. j;
  counted = λ s is h j. j;
  others = λ s is ne j. j;
  installs = λ s is j. j;
  ready = λ s from m is at of ready_body i. i;
  own = λ s is at i. i;
  installing = λ s at e j. j;
}

pub logs_kept : (c : Cluster) (told : Delivered) (a : AttemptState) (k : Call) → May a k → MayCall c told a k → Logged c a → Logged c (turn a k).after
logs_kept c told a k may call h = call_keeps (Logged c) (Logged c) a k (logs_steady c k (shows_good c told a k call)) may h

first_logged : (c : Cluster) (m : Message) (o : Option Shown) → ShowsLog c m.body → All (λ q. ShowsLog c q.message.body) (promises_of (promised_by m o))
first_logged c m None good = All-nil (λ q. ShowsLog c q.message.body)
first_logged c m (Some shown) good = one_good c (record { shown = shown; message = m }) good

pub logs_begin : (c : Cluster) (p members : ℕ) (own : Message) (attached : List AttachedDevice) (cluster : ℕ) → ShowsLog c own.body → Logged c (beginning p members own attached cluster).after
unfolding beginning
logs_begin c p members own attached cluster good =
    begun_keeps Tick (Logged c) (Logged c) (logs_steady c Tick tt) (first_state p members own attached cluster (promises_of (promised_by own (shown_by own.sender own.body)))) refl
    (first_logged c own (shown_by own.sender own.body) good)

-- The votes that are given are those under the record that was shown.

abbrev IsPromiseBody : Body → Type 0
IsPromiseBody (body.Promise e installed members valid flagged committed pending) = Unit {0}
IsPromiseBody _ = ⊥

is_promise : (n : ℕ) (m : Message) (p : Promised) (b : Body) → promised_by m (shown_by n b) ≡ Some p → IsPromiseBody b
is_promise n m p (body.Promise e installed members valid flagged committed pending) h = tt
is_promise n m p (body.Heartbeat promised session member) h = absurd (none_some p h)
is_promise n m p (body.Collect e members) h = absurd (none_some p h)
is_promise n m p (body.Nack e promised) h = absurd (none_some p h)
is_promise n m p (body.SeizeQuorum e members d) h = absurd (none_some p h)
is_promise n m p (body.SeizeData e members d) h = absurd (none_some p h)
is_promise n m p (body.Seized e d outcome) h = absurd (none_some p h)
is_promise n m p (body.Install i) h = absurd (none_some p h)
is_promise n m p (body.Ready e joined report) h = absurd (none_some p h)
is_promise n m p (body.Start e) h = absurd (none_some p h)
is_promise n m p (body.Prepare e place text) h = absurd (none_some p h)
is_promise n m p (body.Prepared e place) h = absurd (none_some p h)
is_promise n m p (body.Commit e place) h = absurd (none_some p h)
is_promise n m p (body.Order o) h = absurd (none_some p h)
is_promise n m p (body.Done e number outcome) h = absurd (none_some p h)
is_promise n m p (body.Request e number text) h = absurd (none_some p h)
is_promise n m p (body.Answer e number text) h = absurd (none_some p h)
is_promise n m p (body.Excluded e newest) h = absurd (none_some p h)

take_front : (xs ys : List (List ℕ)) → take (length xs) (xs ++ ys) ≡ xs
take_front [] ys = refl
take_front (x ∷ xs) ys = ap (λ (zs : List (List ℕ)). x ∷ zs) (take_front xs ys)

of_promise : (P : Body → Type 0)
    → ((e installed members valid : ℕ) (flagged : Bool) (committed : List (List ℕ)) (pending : Option (List ℕ)) → P (body.Promise e installed members valid flagged committed pending))
    → (b : Body) → IsPromiseBody b → P b
of_promise P f (body.Promise e installed members valid flagged committed pending) is = f e installed members valid flagged committed pending
of_promise P f (body.Heartbeat promised session member) is = absurd is
of_promise P f (body.Collect e members) is = absurd is
of_promise P f (body.Nack e promised) is = absurd is
of_promise P f (body.SeizeQuorum e members d) is = absurd is
of_promise P f (body.SeizeData e members d) is = absurd is
of_promise P f (body.Seized e d outcome) is = absurd is
of_promise P f (body.Install i) is = absurd is
of_promise P f (body.Ready e joined report) is = absurd is
of_promise P f (body.Start e) is = absurd is
of_promise P f (body.Prepare e place text) is = absurd is
of_promise P f (body.Prepared e place) is = absurd is
of_promise P f (body.Commit e place) is = absurd is
of_promise P f (body.Order o) is = absurd is
of_promise P f (body.Done e number outcome) is = absurd is
of_promise P f (body.Request e number text) is = absurd is
of_promise P f (body.Answer e number text) is = absurd is
of_promise P f (body.Excluded e newest) is = absurd is

shown_votes : (c : Cluster) (b : Body) → IsPromiseBody b → ShowsLog c b → AreVotesOf (setting_of c) (record_in b) (votes_shown c b)
shown_votes c b is =
    of_promise (λ x. ShowsLog c x → AreVotesOf (setting_of c) (record_in x) (votes_shown c x))
    (λ e installed members valid flagged committed pending good. record {
      nodes = refl;
      devices = refl;
      committed = votes_agree _ _ (ap (votes_under c) (take_front committed (listed pending)) ∙ committed_votes c committed pending good);
      pending = votes_agree _ _ (pending_votes c committed pending good);
    }) b is

shown_log : (c : Cluster) (b : Body) → IsPromiseBody b → ShowsLog c b → IsLog c (committed_in b) (pending_in b)
shown_log c b is = of_promise (λ x. ShowsLog c x → IsLog c (committed_in x) (pending_in x)) (λ e installed members valid flagged committed pending good. good) b is

-- the newest Promise is among those that were taken
pub found_all : (P : Promised → Type 0) (ps : List Promised) (n : ℕ) (p : Promised) → find (is_from n) ps ≡ Some p → All P ps → P p × (is_from n p ≡ true)
found_all P [] n p h all = absurd (none_some p h)
found_all P (first ∷ ps) n p h all = by_test (is_from n first) refl h (λ f. found_all P ps n p f (All-tail P first ps all))
  where
    by_test : (b : Bool) → is_from n first ≡ b → (if b then Some first else find (is_from n) ps) ≡ Some p → (find (is_from n) ps ≡ Some p → P p × (is_from n p ≡ true))
        → P p × (is_from n p ≡ true)
    by_test true e f rest = (subst P (same_some first p f) (All-head P first ps all), subst (λ q. is_from n q ≡ true) (same_some first p f) e)
    by_test false e f rest = rest f

found_or_none : (R : Type 0) (ps : List Promised) (n : ℕ) → (All (λ p. is_from n p ≡ false) ps → R) → ((p : Promised) → find (is_from n) ps ≡ Some p → R) → R
found_or_none R [] n none some = none (All-nil (λ p. is_from n p ≡ false))
found_or_none R (first ∷ ps) n none some = by_test (is_from n first) refl (λ rest more. found_or_none R ps n rest more)
  where
    by_test : (b : Bool) → is_from n first ≡ b → ((All (λ p. is_from n p ≡ false) ps → R) → ((p : Promised) → find (is_from n) ps ≡ Some p → R) → R) → R
    by_test true e go = some first (ap (λ z. if z then Some first else find (is_from n) ps) e)
    by_test false e go =
        go (λ all. none (All-cons (λ p. is_from n p ≡ false) first ps e all))
        (λ p f. some p (ap (λ z. if z then Some first else find (is_from n) ps) e ∙ f))

same_is : (x y : ℕ) → x ≡ y → (x == y) ≡ true
same_is x y h = grind arith

-- the node that is named newest is one that promised
newest_found : (R : Type 0) (s : AttemptState) (o : Option Shown) → newest_shown s.promises ≡ o → option_map (λ x. x.summary.node) o ≡ Some s.newest
    → ((p : Promised) → find (is_from s.newest) s.promises ≡ Some p → R) → R
newest_found R s None is h f = absurd (none_some s.newest h)
newest_found R s (Some newest) is h f =
    let taken : ((p : Promised) × Contains s.promises p × (p.shown ≡ newest)) × All (λ p. IsNotBehind newest.summary p.shown.summary) s.promises = newest_is_taken s.promises newest is in
    let node : taken.0.0.shown.summary.node ≡ s.newest = ap (λ x. x.summary.node) taken.0.2 ∙ same_some newest.summary.node s.newest h in
    found_or_none R s.promises s.newest
    (λ none. absurd (false_true (sym (All-contains (λ p. is_from s.newest p ≡ false) s.promises taken.0.0 none taken.0.1) ∙ same_is taken.0.0.shown.summary.node s.newest node)))
    f

-- so what is given to it are the votes under the record that the node showed
pub votes_of_newest : (c : Cluster) (M : Memberships) (s : AttemptState) → MachineHas M s → Logged c s → option_map (λ x. x.summary.node) (newest_shown s.promises) ≡ Some s.newest
    → AreVotesOf (setting_of c) ((M.node s.newest).showed s.plan.epoch) (votes_in c s)
votes_of_newest c M s has logs chosen =
    newest_found (AreVotesOf (setting_of c) ((M.node s.newest).showed s.plan.epoch) (votes_in c s)) s (newest_shown s.promises) refl chosen (λ p found.
    let told : IsAnswer M s.plan.epoch s.plan.members p × (is_from s.newest p ≡ true) = found_all (IsAnswer M s.plan.epoch s.plan.members) s.promises s.newest p found has.answers in
    let good : ShowsLog c p.message.body × (is_from s.newest p ≡ true) = found_all (λ q. ShowsLog c q.message.body) s.promises s.newest p found logs in
    let node : p.shown.summary.node ≡ s.newest = same_number p.shown.summary.node s.newest told.1 in
    let showed : (M.node s.newest).showed s.plan.epoch ≡ record_in p.message.body = subst (λ k. (M.node k).showed s.plan.epoch ≡ record_in p.message.body) node told.0.showed in
    let votes : votes_in c s ≡ votes_shown c p.message.body = ap (λ (o : Option Promised). votes_of_message c (option_map (λ q. q.message) o)) found in
    subst (λ r. AreVotesOf (setting_of c) r (votes_in c s)) (sym showed)
    (subst (λ b. AreVotesOf (setting_of c) (record_in p.message.body) b) (sym votes)
    (shown_votes c p.message.body (is_promise p.shown.summary.node p.message p p.message.body told.0.shown) good.0)))

-- and the install carries no bad list
pub install_log : (c : Cluster) (M : Memberships) (s : AttemptState) → MachineHas M s → Logged c s → option_map (λ x. x.summary.node) (newest_shown s.promises) ≡ Some s.newest
    → IsLog c (install_in s).committed (install_in s).pending
install_log c M s has logs chosen =
    newest_found (IsLog c (install_in s).committed (install_in s).pending) s (newest_shown s.promises) refl chosen (λ p found.
    let told : IsAnswer M s.plan.epoch s.plan.members p × (is_from s.newest p ≡ true) = found_all (IsAnswer M s.plan.epoch s.plan.members) s.promises s.newest p found has.answers in
    let good : ShowsLog c p.message.body × (is_from s.newest p ≡ true) = found_all (λ q. ShowsLog c q.message.body) s.promises s.newest p found logs in
    subst (λ o. IsLog c (install_by s.plan (filter_map (reading_of s.devices) s.plan.attached) o).committed (install_by s.plan (filter_map (reading_of s.devices) s.plan.attached) o).pending)
    (sym found)
    (shown_log c p.message.body (is_promise p.shown.summary.node p.message p p.message.body told.0.shown) good.0))
