-- Who is excluded was left out by the attempt whose epoch is the newest in hand; it knows of nothing newer as long as it is in the session of the attempt.
use Rattle.std.specs.Prelude.{ℕ, ◌<◌, ◌≡◌, ◌≢◌, ◌≤◌, ◌⊎◌, ◌==◌, ◌&&◌, ◌||◌, nat_le, nat_lt, not, All, Bool, Contains, true, false, List, [], ◌∷◌, Option, None, Some, if◌then◌else◌, option_map}
use Rattle.std.specs.List.{AllByRecursion, find, list_any}
use Rattle.std.specs.Option.{unwrap_or}
use Rattle.std.proofs.Common.{refl, sym, ap, subst, ◌∙◌, arith, inl, inr}
use Rattle.std.proofs.lemmas.List.Elements.{All-cons, All-contains, All-nil}
use Rattle.attempt_laws.proofs.Asks.{found_among}
use Rattle.attempt_laws.proofs.Causes.{caused_by_call}
use Rattle.attempt_laws.proofs.Goes.{IsChosen}
use Rattle.attempt_laws.proofs.MachineLemmas.{of_any}
use Rattle.attempt_laws.proofs.NewestTaken.{newest_is_taken}
use Rattle.attempt_laws.proofs.Told.{member_of_plan}
use Rattle.attempt_laws.specs.Laws.{IsExcluded}
use Rattle.attempt_laws.specs.Machine.{IsAnswer, record_in}
use Rattle.cl_base.specs.Limits.{most_nodes}
use Rattle.cl_base.specs.Numbers.{numbers_to}
use Rattle.cl_base.specs.Sets.{has}
use Rattle.cmm_attempt.proofs.Basics.{and_cases, false_true, none_some, same_number, same_some}
use Rattle.cmm_attempt.specs.Attempts.{AttemptState, newest_installed}
use Rattle.cmm_attempt.specs.Promises.{is_from, is_left_out_by, promised_by, shown_by}
use Rattle.cmm_attempt.specs.declared.promised.Promised.{Promised}
use Rattle.cmm_attempt.specs.declared.promised.Shown.{Shown}
use Rattle.cmm_attempt.specs.declared.step.AttemptEnd.TheVariants as end
use Rattle.cmm_member.specs.Records.{NodeRecord}
use Rattle.history.specs.Attempts.{leaves_out}
use Rattle.history.specs.Downs.{is_excluded_by, is_own_exclusion, is_the_one}
use Rattle.history.specs.Member.{last_installed, members_of}
use Rattle.history.specs.Moment.{Moment}
use Rattle.history.specs.Order.{so_far}
use Rattle.history.specs.Seizing.{is_attempt}
use Rattle.history.specs.Setting.{coordinator, nodes_of}
use Rattle.history.specs.Trace.{attempt, ended_excluded}
use Rattle.machine_base.proofs.Puts.{same_or_not}
use Rattle.membership_machine.specs.Invariant.{Holds, NodeOk}
use Rattle.membership_machine.specs.Records.{Saved}
use Rattle.membership_machine.specs.State.{Memberships}
use Rattle.node_model.specs.Seats.{session_of, state_of}
use Rattle.node_model.specs.declared.cluster.Cluster.{Cluster}
use Rattle.node_model.specs.declared.node.Node.{Node}
use Rattle.node_model.specs.declared.node.Node.TheVariants.{Down, Up}
use Rattle.node_model.specs.declared.node.UpNode.{UpNode}
use Rattle.node_model.specs.declared.seat.Seat.{Seat}
use Rattle.node_model.specs.declared.seat.Seat.TheVariants.{Forming, Member}
use Rattle.refinement.proofs.Given.{found_all}
use Rattle.refinement.specs.Doings.{Site, site}
use Rattle.refinement.specs.Ties.{NodeTied, SeatTied, SiteTied, setting_of}
use Rattle.run_attempts.specs.Laws.{IsTried}
use Rattle.run_outcomes.specs.counts.Ends.{IsGivenBy, Last}
use Rattle.run_outcomes.proofs.counts.Ended.{Tied, tied_of}
use Rattle.run_outcomes.proofs.counts.Newest.{Found, newest_found}
use Rattle.run_outcomes.specs.exclusions.Sites as sites
use Rattle.run_outcomes.specs.exclusions.Sites.{IsTold, LastTied, PromiseSo, SiteSo}
use Rattle.run_outcomes.proofs.exclusions.Excluded.{tied_installed}
use Rattle.run_history.specs.Noted as noted
use Rattle.run_history.specs.Noted.{Notes}
use Rattle.run_outcomes.specs.panics.Sites.{IsPast, LastNamed}
use Rattle.wire.specs.declared.message.Body.{Body}
use Rattle.wire.specs.declared.message.Body.TheVariants as body
use Rattle.wire.specs.declared.message.Message.{Message}

and_both : (a b : Bool) → a ≡ true → b ≡ true → (a && b) ≡ true
and_both true b h k = k
and_both false b h k = absurd (false_true h)

or_first : (a b : Bool) → a ≡ true → (a || b) ≡ true
or_first true b h = refl
or_first false b h = absurd (false_true h)

or_second : (a b : Bool) → b ≡ true → (a || b) ≡ true
or_second true b h = refl
or_second false b h = h

itself : (a b : ℕ) → a ≡ b → (a == b) ≡ true
itself a b e = grind arith

below : (a b : ℕ) → a < b → nat_lt a b ≡ true
below a b h = grind arith

less : (a b : ℕ) → nat_lt a b ≡ true → a < b
less a b h = grind arith

up_to : (a b k : ℕ) → a ≤ b → b < k → a < k
up_to a b k h i = omega (arith, h, i)

some_below : (a b : ℕ) → a < b → 0 < b
some_below a b h = omega (arith, h)

-- ---- the line of an attempt

find_line : (test : Moment → Bool) (f members : ℕ) (ms : List Moment) → IsTried ms f members → test (attempt f members) ≡ true → list_any test ms ≡ true
find_line test f members [] h is = absurd (false_true h.0)
find_line test f members (attempt p others ∷ ms) h is = by_test (p == f) refl h (λ k. find_line test f members ms k is)
  where
    by_test : (t : Bool) → (p == f) ≡ t → ((t || list_any (is_attempt f) ms) ≡ true) × ((if t then others else members_of f ms) ≡ members) → (IsTried ms f members → list_any test ms ≡ true) → (test (attempt p others) || list_any test ms) ≡ true
    by_test true same k next = or_first _ _ (subst (λ z. test (attempt z others) ≡ true) (sym (same_number p f same)) (subst (λ z. test (attempt f z) ≡ true) (sym k.1) is))
    by_test false other k next = or_second _ _ (next k)
find_line test f members (_ ∷ ms) h is = or_second _ _ (find_line test f members ms h is)

any_at : (test : ℕ → Bool) (k : ℕ) (ns : List ℕ) → list_any (λ j. j == k) ns ≡ true → test k ≡ true → list_any test ns ≡ true
any_at test k [] among is = absurd (false_true among)
any_at test k (n ∷ ns) among is = by_test (n == k) refl among (λ h. any_at test k ns h is)
  where
    by_test : (t : Bool) → (n == k) ≡ t → (t || list_any (λ j. j == k) ns) ≡ true → (list_any (λ j. j == k) ns ≡ true → list_any test ns ≡ true) → (test n || list_any test ns) ≡ true
    by_test true same h next = or_first _ _ (subst (λ z. test z ≡ true) (sym (same_number n k same)) is)
    by_test false other h next = or_second _ _ (next h)

-- Attempt f, below e, has the line and left m out, with node k of e among its members; and m had shown less to e, which is not counted.
pub record Leaves (M : Memberships) (ms : List Moment) (e m f : ℕ) : Type 0 where
  pub some : 0 < e
  pub uncounted : (M.epoch e).counted ≡ false
  pub answered : (M.node m).answered e ≡ true
  pub newer : ((M.node m).showed e).installed < f
  pub members : ℕ
  pub k : ℕ
  pub line : IsTried ms f members
  pub earlier : f < e
  pub without : has members m ≡ false
  pub with : has members k ≡ true
  pub among : list_any (λ j. j == k) (nodes_of (members_of e ms)) ≡ true

-- right after the line of the exclusion
told_out : (M : Memberships) (ms : List Moment) (e m f : ℕ) → Leaves M ms e m f → last_installed m ms < f → (let now : List Moment = ended_excluded e m ∷ ms in is_excluded_by f e m (so_far now) now ≡ true)
told_out M ms e m f h newer =
    and_both _ _ (or_first _ _ (and_both (e == e) (m == m) (itself e e refl) (itself m m refl)))
    (find_line (λ x. is_the_one f x && leaves_out e (members_of e ms) m (last_installed m ms) x) f h.members ms h.line
    (and_both _ _ (itself f f refl)
    (and_both _ _ (and_both _ _ (and_both _ _ (below f e h.earlier) (below (last_installed m ms) f newer)) (ap not h.without)) (any_at (λ j. has h.members j) h.k (nodes_of (members_of e ms)) h.among h.with))))

-- ---- where its receiver is

pub session_tied : (c : Cluster) (M : Memberships) (m : ℕ) (disk : NodeRecord) (x : UpNode) → NodeTied c M m disk (Up x) → (M.node m).session ≡ session_of x
session_tied c M m disk x h = by_seat x.seat x.attempt h.0
  where
    by_seat : (seat : Seat) (o : Option AttemptState) → SeatTied c M m disk o seat → (M.node m).session ≡ (state_of seat).session
    by_seat (Forming s) o k = k.0.session
    by_seat (Member s) o k = k.0.session

promised_tied : (c : Cluster) (M : Memberships) (m : ℕ) (disk : NodeRecord) (node : Node) → NodeTied c M m disk node → (M.node m).promised ≡ disk.promised
promised_tied c M m disk Down h = h.0.promised
promised_tied c M m disk (Up x) h = by_seat x.seat x.attempt h.0
  where
    by_seat : (seat : Seat) (o : Option AttemptState) → SeatTied c M m disk o seat → (M.node m).promised ≡ disk.promised
    by_seat (Forming s) o k = k.0.promised ∙ sym (ap (λ (r : NodeRecord). r.promised) k.1)
    by_seat (Member s) o k = k.0.promised ∙ sym (ap (λ (r : NodeRecord). r.promised) k.1)

strictly : (a b : ℕ) → a ≤ b → a ≢ b → a < b
strictly a b h ne = grind arith

-- in the session of an attempt that is not counted it has what it showed
has_shown : (c : Cluster) (M : Memberships) (n e : ℕ) → Holds (setting_of c) M → (M.node n).session ≡ e → 0 < e → (M.epoch e).counted ≡ false → (M.node n).saved.installed ≡ ((M.node n).showed e).installed
has_shown c M n e holds session some uncounted =
    let ok : NodeOk M.epoch n (M.node n) = holds.node n in
    let some_session : 0 < (M.node n).session = subst (λ k. 0 < k) (sym session) some in
    let most : (M.node n).saved.installed ≤ e = subst (λ k. (M.node n).saved.installed ≤ k) (sym (ok.session some_session) ∙ session) ok.installed in
    let differ : (M.node n).saved.installed ≢ e =
    λ same. false_true (sym uncounted ∙ subst (λ k. (M.epoch k).counted ≡ true) same (ok.fits.counted (subst (λ k. 0 < k) (sym same) some))) in
    let before : (M.node n).saved.installed < (M.node n).session = subst (λ k. (M.node n).saved.installed < k) (sym session) (strictly (M.node n).saved.installed e most differ) in
    ap (λ (r : Saved). r.installed) (sym (ok.showed_again some_session before)) ∙ ap (λ k. ((M.node n).showed k).installed) session

-- in the session of the attempt it has installed nothing since its Promise
still_older : (c : Cluster) (M : Memberships) (ms : List Moment) (e m f : ℕ) (disk : NodeRecord) (x : UpNode) → Holds (setting_of c) M → NodeTied c M m disk (Up x) → SiteSo ms m (site (Up x) disk) → Leaves M ms e m f → session_of x ≡ e → last_installed m ms < f
still_older c M ms e m f disk x holds tied so h at =
    up_to (last_installed m ms) ((M.node m).showed e).installed f
    (subst (λ j. last_installed m ms ≤ j) (tied_installed c M m disk (Up x) tied ∙ has_shown c M m e holds (session_tied c M m disk x tied ∙ at) h.some h.uncounted) so.last) h.newer

is_past : (c : Cluster) (M : Memberships) (ms : List Moment) (e m f : ℕ) (y : Site) → Holds (setting_of c) M → SiteTied c M m y → Leaves M ms e m f → e ≤ y.disk.promised
is_past c M ms e m f y holds tied h = subst (λ k. e ≤ k) (promised_tied c M m y.disk y.node tied) ((holds.node m).answered_promised e h.answered)

pub tells_so : (c : Cluster) (M : Memberships) (ms : List Moment) (e m f : ℕ) (node : Node) (disk : NodeRecord) → Holds (setting_of c) M → NodeTied c M m disk node → SiteSo ms m (site node disk) → Leaves M ms e m f
    → (let now : List Moment = ended_excluded e m ∷ ms in (is_excluded_by f e m (so_far now) now ≡ true) ⊎ IsPast (site node disk) e)
tells_so c M ms e m f Down disk holds tied so h = inr (record { some = h.some; promised = is_past c M ms e m f (site Down disk) holds tied h; elsewhere = tt })
tells_so c M ms e m f (Up x) disk holds tied so h = by_session (same_or_not (session_of x) e)
  where
    by_session : (session_of x ≡ e) ⊎ (session_of x ≢ e) → (let now : List Moment = ended_excluded e m ∷ ms in (is_excluded_by f e m (so_far now) now ≡ true) ⊎ IsPast (site (Up x) disk) e)
    by_session (inl at) = inl (told_out M ms e m f h (still_older c M ms e m f disk x holds tied so h at))
    by_session (inr elsewhere) = inr (record { some = h.some; promised = is_past c M ms e m f (site (Up x) disk) holds tied h; elsewhere = elsewhere })

-- the coordinator is in the session of its attempt
pub excludes_itself : (c : Cluster) (M : Memberships) (ms : List Moment) (e n f : ℕ) (disk : NodeRecord) (x : UpNode) → Holds (setting_of c) M → NodeTied c M n disk (Up x) → SiteSo ms n (site (Up x) disk) → Leaves M ms e n f → session_of x ≡ e → coordinator e ≡ n
    → (let now : List Moment = ended_excluded e n ∷ ms in list_any (is_own_exclusion n f now) (so_far now) ≡ true)
excludes_itself c M ms e n f disk x holds tied so h at own =
    or_first _ _
    (and_both _ _ (and_both (n == n) (coordinator e == n) (itself n n refl) (itself (coordinator e) n own)) (told_out M ms e n f h (still_older c M ms e n f disk x holds tied so h at)))

-- ---- the newest record in hand

shown_installed : (from : ℕ) (m : Message) (p : Promised) (b : Body) → promised_by m (shown_by from b) ≡ Some p → p.shown.summary.installed ≡ (record_in b).installed
shown_installed from m p (body.Promise e newest members valid flagged committed pending) is = ap (λ (q : Promised). q.shown.summary.installed) (sym (same_some _ p is))
shown_installed from m p _ is = absurd (none_some p is)

answer_installed : (M : Memberships) (e members : ℕ) (p : Promised) → IsAnswer M e members p → ((M.node p.shown.summary.node).showed e).installed ≡ p.shown.summary.installed
answer_installed M e members p h = ap (λ (r : Saved). r.installed) h.showed ∙ sym (shown_installed p.shown.summary.node p.message p p.message.body h.shown)

to_all : (P : Promised → Type 0) (ps : List Promised) → AllByRecursion P ps → All P ps
to_all P [] h = All-nil P
to_all P (p ∷ ps) h = All-cons P p ps h.0 (to_all P ps h.1)

not_has : (b : Bool) → not b ≡ true → b ≡ false
not_has true h = absurd (false_true h)
not_has false h = refl

-- the end that was given, and what is known of the attempt then
record Cause (M : Memberships) (a : AttemptState) (m : ℕ) : Type 0 where
  excluded : IsExcluded a m
  uncounted : (M.epoch a.plan.epoch).counted ≡ false
  named : IsChosen a.promises a.plan.nodes a.newest

cause_of : (M : Memberships) (last : Last) (a : AttemptState) (m : ℕ) → LastTied M last → LastNamed last → IsGivenBy last a (end.Excluded m) → Cause M a m
cause_of M None a m h named given = absurd given
cause_of M (Some l) a m h named given =
    subst (λ z. Cause M z m) (sym given.0) (record { excluded = (caused_by_call l.0 l.1).end (end.Excluded m) given.1; uncounted = h m given.1; named = named m given.1 })

-- the epoch that the Excluded names is that of the newest record
names_newest : (M : Memberships) (a : AttemptState) (newest : Shown) (best p : Promised) → best.shown ≡ newest → p.shown.summary.node ≡ newest.summary.node → IsAnswer M a.plan.epoch a.plan.members best → IsAnswer M a.plan.epoch a.plan.members p
    → find (is_from a.newest) a.promises ≡ Some p → unwrap_or (newest_installed a) 0 ≡ newest.summary.installed
names_newest M a newest best p is node h k found =
    ap (λ (o : Option Promised). unwrap_or (option_map (λ (q : Promised). q.shown.summary.installed) o) 0) found
    ∙ (sym (answer_installed M a.plan.epoch a.plan.members p k)
    ∙ (ap (λ j. ((M.node j).showed a.plan.epoch).installed) (node ∙ ap (λ (z : Shown). z.summary.node) (sym is))
    ∙ (answer_installed M a.plan.epoch a.plan.members best h ∙ ap (λ (z : Shown). z.summary.installed) is)))

pub leaves_so : (c : Cluster) (M : Memberships) (n : ℕ) (x : UpNode) (disk : NodeRecord) (a : AttemptState) (m : ℕ) (last : Last) (ms : List Moment) → Holds (setting_of c) M → NodeTied c M n disk (Up x) → x.attempt ≡ Some a
    → LastTied M last → LastNamed last → IsGivenBy last a (end.Excluded m) → Notes ms n (site (Up x) disk) → SiteSo ms n (site (Up x) disk) → Leaves M ms a.plan.epoch m (unwrap_or (newest_installed a) 0)
leaves_so c M n x disk a m last ms holds tied is latest named given notes here =
    subst (Leaves M ms e m) (sym names)
    (of_any (λ p. (p.shown.summary.node == m) && is_left_out_by newest p.shown) (IsAnswer M e a.plan.members) (Leaves M ms e m f) a.promises
    (found_among (λ j. list_any (λ p. (p.shown.summary.node == j) && is_left_out_by newest p.shown) a.promises) a.plan.nodes m cause.excluded.least).0
    t.co.has.answers by_promise)
  where
    e : ℕ
    e = a.plan.epoch

    t : Tied c M n a
    t = tied_of c M n disk x a tied is

    cause : Cause M a m
    cause = cause_of M last a m latest named given

    newest : Shown
    newest = cause.excluded.newest

    note : noted.AttemptNoted ms n a
    note = subst (noted.AttemptIn ms n) is notes.up.attempt

    f : ℕ
    f = newest.summary.installed

    best : ((p : Promised) × Contains a.promises p × (p.shown ≡ newest))
    best = (newest_is_taken a.promises newest cause.excluded.is_newest).0

    k : ℕ
    k = best.0.shown.summary.node

    answer : IsAnswer M e a.plan.members best.0
    answer = All-contains (IsAnswer M e a.plan.members) a.promises best.0 t.co.has.answers best.1

    tells : IsTold ms k f newest.summary.members
    tells =
        subst (λ (z : Shown). IsTold ms k z.summary.installed z.summary.members) best.2
        (All-contains (PromiseSo ms) a.promises best.0 (to_all (PromiseSo ms) a.promises (subst (sites.AttemptIn ms) is here.node)) best.1)

    nodes : a.plan.nodes ≡ nodes_of (members_of e ms)
    nodes = t.co.has.nodes ∙ ap (λ set. numbers_to set most_nodes) (sym note.members)

    -- the record that is named is the newest
    found : Found a
    found = newest_found M a t.co.has cause.named

    known : IsAnswer M e a.plan.members found.promise × (is_from a.newest found.promise ≡ true)
    known = found_all (IsAnswer M e a.plan.members) a.promises a.newest found.promise found.found t.co.has.answers

    named_node : newest.summary.node ≡ a.newest
    named_node = same_some newest.summary.node a.newest (ap (λ (o : Option Shown). option_map (λ (z : Shown). z.summary.node) o) (sym cause.excluded.is_newest) ∙ cause.named.1)

    names : unwrap_or (newest_installed a) 0 ≡ f
    names = names_newest M a newest best.0 found.promise best.2 (same_number found.promise.shown.summary.node a.newest known.1 ∙ sym named_node) answer known.0 found.found

    by_promise : (p : Promised) → ((p.shown.summary.node == m) && is_left_out_by newest p.shown) ≡ true → IsAnswer M e a.plan.members p → Leaves M ms e m f
    by_promise p out shows =
        let parts : ((p.shown.summary.node == m) ≡ true) × (is_left_out_by newest p.shown ≡ true) = and_cases (p.shown.summary.node == m) (is_left_out_by newest p.shown) out in
        let at : p.shown.summary.node ≡ m = same_number p.shown.summary.node m parts.0 in
        let two : ((p.shown.flagged && nat_lt p.shown.summary.installed f) ≡ true) × (not (has newest.summary.members p.shown.summary.node) ≡ true) = and_cases (p.shown.flagged && nat_lt p.shown.summary.installed f) (not (has newest.summary.members p.shown.summary.node)) parts.1 in
        let older : p.shown.summary.installed < f = less p.shown.summary.installed f (and_cases p.shown.flagged (nat_lt p.shown.summary.installed f) two.0).1 in
        let some_f : 0 < f = some_below p.shown.summary.installed f older in
        record {
          some = (holds.epoch e).tried_positive t.co.has.tried;
          uncounted = cause.uncounted;
          answered = subst (λ j. (M.node j).answered e ≡ true) at shows.answered;
          newer = subst (λ j. ((M.node j).showed e).installed < f) at (subst (λ j. j < f) (sym (answer_installed M e a.plan.members p shows)) older);
          members = newest.summary.members;
          k = k;
          line = (tells some_f).0;
          earlier = subst (λ j. j < e) (answer_installed M e a.plan.members best.0 answer ∙ ap (λ (z : Shown). z.summary.installed) best.2) ((holds.node k).showed_installed e answer.answered);
          without = subst (λ j. has newest.summary.members j ≡ false) at (not_has (has newest.summary.members p.shown.summary.node) two.1);
          with = (and_cases (nat_le k 32) (has newest.summary.members k) (tells some_f).1).1;
          among = subst (λ ns. list_any (λ j. j == k) ns ≡ true) nodes (member_of_plan M a k t.co.has ∙ answer.member);
        }
