-- Who is excluded was left out by the attempt whose membership is that of the newest record in hand.
use Rattle.std.specs.Prelude.{ℕ, ◌<◌, ◌≡◌, ◌≢◌, ◌≤◌, ◌==◌, ◌&&◌, ◌||◌, nat_le, nat_lt, not, All, Bool, Contains, true, false, List, [], ◌∷◌, Option, None, Some, if◌then◌else◌, is_some}
use Rattle.std.specs.List.{AllByRecursion, list_any}
use Rattle.std.proofs.Common.{refl, sym, ap, subst, ◌∙◌, arith, inl, inr}
use Rattle.std.proofs.lemmas.List.Elements.{All-cons, All-contains, All-head, All-nil, All-tail}
use Rattle.attempt_laws.proofs.Asks.{found_among}
use Rattle.attempt_laws.proofs.Causes.{caused_by_call}
use Rattle.attempt_laws.proofs.MachineLemmas.{of_any}
use Rattle.attempt_laws.proofs.NewestTaken.{newest_is_taken}
use Rattle.attempt_laws.proofs.Told.{member_of_plan}
use Rattle.attempt_laws.specs.Laws.{IsExcluded}
use Rattle.attempt_laws.specs.Machine.{IsAnswer, record_in}
use Rattle.cl_base.specs.Limits.{most_nodes}
use Rattle.cl_base.specs.Numbers.{numbers_to}
use Rattle.cl_base.specs.Sets.{has}
use Rattle.cmm_attempt.proofs.Basics.{and_cases, false_true, none_some, same_number, same_some}
use Rattle.cmm_attempt.specs.Attempts.{AttemptState}
use Rattle.cmm_attempt.specs.Promises.{is_left_out_by, promised_by, shown_by}
use Rattle.cmm_attempt.specs.declared.promised.Promised.{Promised}
use Rattle.cmm_attempt.specs.declared.promised.Shown.{Shown}
use Rattle.cmm_attempt.specs.declared.step.AttemptEnd.TheVariants as end
use Rattle.cmm_member.specs.Records.{NodeRecord}
use Rattle.history.specs.Attempts.{is_excluded, is_left_out, leaves_out}
use Rattle.history.specs.Contact.{AttemptsDiffer}
use Rattle.history.specs.Letters.{Letter, says}
use Rattle.history.specs.Member.{last_installed, members_of}
use Rattle.history.specs.Moment.{Moment}
use Rattle.history.specs.Records.{promises, record_in as history_record}
use Rattle.history.specs.Seizing.{is_attempt}
use Rattle.history.specs.Setting.{coordinator, nodes_of}
use Rattle.history.specs.Trace.{attempt}
use Rattle.membership_machine.specs.Invariant.{Holds, NodeOk}
use Rattle.membership_machine.specs.Records.{Saved}
use Rattle.membership_machine.specs.State.{Memberships}
use Rattle.node_model.specs.Seats.{record_of}
use Rattle.node_model.specs.declared.cluster.Cluster.{Cluster}
use Rattle.node_model.specs.declared.node.Node.{Node}
use Rattle.node_model.specs.declared.node.Node.TheVariants.{Down, Up}
use Rattle.node_model.specs.declared.node.UpNode.{UpNode}
use Rattle.node_model.specs.declared.seat.Seat.{Seat}
use Rattle.node_model.specs.declared.seat.Seat.TheVariants.{Forming, Member}
use Rattle.refinement.specs.Doings.{site}
use Rattle.refinement.specs.Runs.{Nodes}
use Rattle.refinement.specs.Ties.{Delivered, NodeTied, SeatTied, setting_of}
use Rattle.run_attempts.specs.Laws.{IsTried}
use Rattle.run_outcomes.specs.counts.Ends.{IsGivenBy, Last}
use Rattle.run_outcomes.proofs.counts.Ended.{Tied, tied_of}
use Rattle.run_history.specs.Noted as noted
use Rattle.run_history.specs.Noted.{Notes}
use Rattle.run_history.specs.Scenes.{Scene}
use Rattle.run_messages.proofs.records.Letters.{Had, promises_had}
use Rattle.run_messages.specs.records.Kept.{AttemptIn, AttemptKept, Goes, HeardFrom, shows_from}
use Rattle.wire.specs.declared.message.Body.{Body}
use Rattle.wire.specs.declared.message.Body.TheVariants as body
use Rattle.wire.specs.declared.message.Message.{Message}
use Rattle.run_outcomes.specs.exclusions.Sites as sites
use Rattle.run_outcomes.specs.exclusions.Sites.{AllJudged, IsTold, LastTied, PromiseSo, SiteSo}
use Rattle.run_outcomes.proofs.exclusions.Letters.{LetterSo, letter_last, promises_so}

and_both : (a b : Bool) → a ≡ true → b ≡ true → (a && b) ≡ true
and_both true b h k = k
and_both false b h k = absurd (false_true h)

or_first : (a b : Bool) → a ≡ true → (a || b) ≡ true
or_first true b h = refl
or_first false b h = absurd (false_true h)

or_second : (a b : Bool) → b ≡ true → (a || b) ≡ true
or_second true b h = refl
or_second false b h = h

-- ---- the line of an attempt

find_line : (test : Moment → Bool) (f members : ℕ) (ms : List Moment) → IsTried ms f members → test (attempt f members) ≡ true → list_any test ms ≡ true
find_line test f members [] h is = absurd (false_true h.0)
find_line test f members (attempt p others ∷ ms) h is = by_test (p == f) refl h (λ k. find_line test f members ms k is)
  where
    by_test : (t : Bool) → (p == f) ≡ t → ((t || list_any (is_attempt f) ms) ≡ true) × ((if t then others else members_of f ms) ≡ members) → (IsTried ms f members → list_any test ms ≡ true) → (test (attempt p others) || list_any test ms) ≡ true
    by_test true same k next = or_first _ _ (subst (λ z. test (attempt z others) ≡ true) (sym (same_number p f same)) (subst (λ z. test (attempt f z) ≡ true) (sym k.1) is))
    by_test false other k next = or_second _ _ (next k)
find_line test f members (_ ∷ ms) h is = or_second _ _ (find_line test f members ms h is)

any_at : (test : ℕ → Bool) (k : ℕ) (ns : List ℕ) → list_any (λ j. j == k) ns ≡ true → test k ≡ true → list_any test ns ≡ true
any_at test k [] among is = absurd (false_true among)
any_at test k (n ∷ ns) among is = by_test (n == k) refl among (λ h. any_at test k ns h is)
  where
    by_test : (t : Bool) → (n == k) ≡ t → (t || list_any (λ j. j == k) ns) ≡ true → (list_any (λ j. j == k) ns ≡ true → list_any test ns ≡ true) → (test n || list_any test ns) ≡ true
    by_test true same h next = or_first _ _ (subst (λ z. test z ≡ true) (sym (same_number n k same)) is)
    by_test false other h next = or_second _ _ (next h)

below : (a b : ℕ) → a < b → nat_lt a b ≡ true
below a b h = grind arith

less : (a b : ℕ) → nat_lt a b ≡ true → a < b
less a b h = grind arith

up_to : (a b k : ℕ) → a ≤ b → b < k → a < k
up_to a b k h i = omega (arith, h, i)

strictly : (a b : ℕ) → a ≤ b → a ≢ b → a < b
strictly a b h ne = grind arith

itself : (a b : ℕ) → a ≡ b → (a == b) ≡ true
itself a b e = grind arith

some_below : (a b : ℕ) → a < b → 0 < b
some_below a b h = omega (arith, h)

-- An attempt f, below e, that has the line and left m out, with node k of e among its members.
record Leaver (ms : List Moment) (e m f : ℕ) : Type 0 where
  members : ℕ
  k : ℕ
  line : IsTried ms f members
  earlier : f < e
  without : has members m ≡ false
  with : has members k ≡ true
  among : list_any (λ j. j == k) (nodes_of (members_of e ms)) ≡ true

left_out : (ms here : List Moment) (e m f : ℕ) → Leaver ms e m f → last_installed m here < f → is_left_out e m here ms ≡ true
left_out ms here e m f h newer =
    find_line (leaves_out e (members_of e ms) m (last_installed m here)) f h.members ms h.line
    (and_both _ _ (and_both _ _ (and_both _ _ (below f e h.earlier) (below (last_installed m here) f newer)) (ap not h.without)) (any_at (λ j. has h.members j) h.k (nodes_of (members_of e ms)) h.among h.with))

-- ---- where the member has promised

letters_so : (M : Memberships) (ms : List Moment) (e m f : ℕ) (ls : List Letter) → Leaver ms e m f → (M.epoch e).counted ≡ false → ((M.node m).showed e).installed < f → AllByRecursion (Had M e) ls → AllByRecursion LetterSo ls
    → list_any (shows_from m) ls ≡ true → list_any (λ (l : Letter). (l.from == m) && is_left_out e m l.before ms) ls ≡ true
letters_so M ms e m f [] h uncounted newer had so is = absurd (false_true is)
letters_so M ms e m f (l ∷ ls) h uncounted newer had so is = by_test (shows_from m l) refl is (λ k. letters_so M ms e m f ls h uncounted newer had.1 so.1 k)
  where
    by_from : l.from ≡ m → is_some (history_record (says l.bytes)) ≡ true → is_left_out e m l.before ms ≡ true
    by_from same some =
        left_out ms l.before e m f h
        (up_to (last_installed m l.before) ((M.node m).showed e).installed f
        (subst (λ j. last_installed j l.before ≤ ((M.node j).showed e).installed) same (letter_last M e l uncounted had.0 so.0 some)) newer)

    by_test : (t : Bool) → shows_from m l ≡ t → (t || list_any (shows_from m) ls) ≡ true → (list_any (shows_from m) ls ≡ true → list_any (λ (z : Letter). (z.from == m) && is_left_out e m z.before ms) ls ≡ true)
        → (((l.from == m) && is_left_out e m l.before ms) || list_any (λ (z : Letter). (z.from == m) && is_left_out e m z.before ms) ls) ≡ true
    by_test true at k next =
        let parts : ((l.from == m) ≡ true) × (is_some (history_record (says l.bytes)) ≡ true) = and_cases (l.from == m) _ at in
        or_first _ _ (and_both _ _ parts.0 (by_from (same_number l.from m parts.0) parts.1))
    by_test false at k next = or_second _ _ (next k)

-- ---- what the coordinator has installed

pub tied_installed : (c : Cluster) (M : Memberships) (n : ℕ) (disk : NodeRecord) (node : Node) → NodeTied c M n disk node → disk.installed ≡ (M.node n).saved.installed
tied_installed c M n disk Down h = sym (ap (λ (r : Saved). r.installed) h.0.saved)
tied_installed c M n disk (Up x) h = by_seat x.seat x.attempt h.0
  where
    by_seat : (seat : Seat) (o : Option AttemptState) → SeatTied c M n disk o seat → disk.installed ≡ (M.node n).saved.installed
    by_seat (Forming s) o k = ap (λ (r : NodeRecord). r.installed) k.1 ∙ sym (ap (λ (r : Saved). r.installed) k.0.saved)
    by_seat (Member s) o k = ap (λ (r : NodeRecord). r.installed) k.1 ∙ sym (ap (λ (r : Saved). r.installed) k.0.saved)

-- in the session of an attempt that is not counted it has what it showed
own_shown : (c : Cluster) (M : Memberships) (n e : ℕ) → Holds (setting_of c) M → (M.node n).session ≡ e → 0 < e → (M.epoch e).counted ≡ false → (M.node n).saved.installed ≡ ((M.node n).showed e).installed
own_shown c M n e holds session some uncounted =
    let ok : NodeOk M.epoch n (M.node n) = holds.node n in
    let some_session : 0 < (M.node n).session = subst (λ k. 0 < k) (sym session) some in
    let most : (M.node n).saved.installed ≤ e = subst (λ k. (M.node n).saved.installed ≤ k) (sym (ok.session some_session) ∙ session) ok.installed in
    let differ : (M.node n).saved.installed ≢ e =
    λ same. false_true (sym uncounted ∙ subst (λ k. (M.epoch k).counted ≡ true) same (ok.fits.counted (subst (λ k. 0 < k) (sym same) some))) in
    let before : (M.node n).saved.installed < (M.node n).session = subst (λ k. (M.node n).saved.installed < k) (sym session) (strictly (M.node n).saved.installed e most differ) in
    ap (λ (r : Saved). r.installed) (sym (ok.showed_again some_session before)) ∙ ap (λ k. ((M.node n).showed k).installed) session

-- ---- the newest record in hand

shown_installed : (from : ℕ) (m : Message) (p : Promised) (b : Body) → promised_by m (shown_by from b) ≡ Some p → p.shown.summary.installed ≡ (record_in b).installed
shown_installed from m p (body.Promise e newest members valid flagged committed pending) is = ap (λ (q : Promised). q.shown.summary.installed) (sym (same_some _ p is))
shown_installed from m p _ is = absurd (none_some p is)

answer_installed : (M : Memberships) (e members : ℕ) (p : Promised) → IsAnswer M e members p → ((M.node p.shown.summary.node).showed e).installed ≡ p.shown.summary.installed
answer_installed M e members p h = ap (λ (r : Saved). r.installed) h.showed ∙ sym (shown_installed p.shown.summary.node p.message p p.message.body h.shown)

to_all : (P : Promised → Type 0) (ps : List Promised) → AllByRecursion P ps → All P ps
to_all P [] h = All-nil P
to_all P (p ∷ ps) h = All-cons P p ps h.0 (to_all P ps h.1)

all_two : (P Q : Promised → Type 0) (ps : List Promised) → All P ps → All Q ps → All (λ p. P p × Q p) ps
all_two P Q [] h k = All-nil (λ p. P p × Q p)
all_two P Q (p ∷ ps) h k = All-cons (λ q. P q × Q q) p ps (All-head P p ps h, All-head Q p ps k) (all_two P Q ps (All-tail P p ps h) (All-tail Q p ps k))

not_has : (b : Bool) → not b ≡ true → b ≡ false
not_has true h = absurd (false_true h)
not_has false h = refl

-- the end that was given, and what is known of the attempt then
record Cause (M : Memberships) (a : AttemptState) (m : ℕ) : Type 0 where
  excluded : IsExcluded a m
  uncounted : (M.epoch a.plan.epoch).counted ≡ false

cause_of : (M : Memberships) (last : Last) (a : AttemptState) (m : ℕ) → LastTied M last → IsGivenBy last a (end.Excluded m) → Cause M a m
cause_of M None a m h given = absurd given
cause_of M (Some l) a m h given = subst (λ z. Cause M z m) (sym given.0) (record { excluded = (caused_by_call l.0 l.1).end (end.Excluded m) given.1; uncounted = h m given.1 })

pub excluded_so : (c : Cluster) (M : Memberships) (n : ℕ) (told : Delivered) (v : Nodes) (x : UpNode) (disk : NodeRecord) (a : AttemptState) (m : ℕ) (last : Last) (s : Scene) → Holds (setting_of c) M → NodeTied c M n disk (Up x) → x.attempt ≡ Some a
    → LastTied M last → IsGivenBy last a (end.Excluded m) → AttemptsDiffer s.moments → Notes s.moments n (site (Up x) disk) → Goes n told v M (site (Up x) disk) s → AllJudged s.moments → SiteSo s.moments n (site (Up x) disk)
    → is_excluded a.plan.epoch m s.moments ≡ true
excluded_so c M n told v x disk a m last s holds tied is latest given differ notes goes judged here =
    of_any (λ p. (p.shown.summary.node == m) && is_left_out_by newest p.shown) (λ p. IsAnswer M e a.plan.members p × HeardFrom ms n e p.shown.summary.node) (is_excluded e m ms ≡ true) a.promises
    (found_among (λ j. list_any (λ p. (p.shown.summary.node == j) && is_left_out_by newest p.shown) a.promises) a.plan.nodes m cause.excluded.least).0
    (all_two (IsAnswer M e a.plan.members) (λ p. HeardFrom ms n e p.shown.summary.node) a.promises t.co.has.answers kept.heard) by_promise
  where
    ms : List Moment
    ms = s.moments

    e : ℕ
    e = a.plan.epoch

    t : Tied c M n a
    t = tied_of c M n disk x a tied is

    cause : Cause M a m
    cause = cause_of M last a m latest given

    newest : Shown
    newest = cause.excluded.newest

    note : noted.AttemptNoted ms n a
    note = subst (noted.AttemptIn ms n) is notes.up.attempt

    kept : AttemptKept M ms n (record_of x) a
    kept = subst (AttemptIn M ms n (record_of x)) is goes.here.up.attempt

    session : (M.node n).session ≡ e
    session = t.session ∙ sym t.co.epoch

    some : 0 < e
    some = (holds.epoch e).tried_positive t.co.has.tried

    f : ℕ
    f = newest.summary.installed

    best : ((p : Promised) × Contains a.promises p × (p.shown ≡ newest))
    best = (newest_is_taken a.promises newest cause.excluded.is_newest).0

    k : ℕ
    k = best.0.shown.summary.node

    answer : IsAnswer M e a.plan.members best.0
    answer = All-contains (IsAnswer M e a.plan.members) a.promises best.0 t.co.has.answers best.1

    tells : IsTold ms k f newest.summary.members
    tells =
        subst (λ (z : Shown). IsTold ms k z.summary.installed z.summary.members) best.2
        (All-contains (PromiseSo ms) a.promises best.0 (to_all (PromiseSo ms) a.promises (subst (sites.AttemptIn ms) is here.node)) best.1)

    nodes : a.plan.nodes ≡ nodes_of (members_of e ms)
    nodes = t.co.has.nodes ∙ ap (λ set. numbers_to set most_nodes) (sym note.members)

    leaver : 0 < f → has newest.summary.members m ≡ false → Leaver ms e m f
    leaver some_f without = record {
      members = newest.summary.members;
      k = k;
      line = (tells some_f).0;
      earlier = subst (λ j. j < e) (answer_installed M e a.plan.members best.0 answer ∙ ap (λ (z : Shown). z.summary.installed) best.2) ((holds.node k).showed_installed e answer.answered);
      without = without;
      with = (and_cases (nat_le k 32) (has newest.summary.members k) (tells some_f).1).1;
      among = subst (λ ns. list_any (λ j. j == k) ns ≡ true) nodes (member_of_plan M a k t.co.has ∙ answer.member);
    }

    by_place : (u : Bool) → (m == coordinator e) ≡ u → ((M.node m).showed e).installed < f → HeardFrom ms n e m → Leaver ms e m f
        → (if u then is_left_out e m ms ms else list_any (λ (l : Letter). (l.from == m) && is_left_out e m l.before ms) (promises e ms)) ≡ true
    by_place true same newer heard h =
        left_out ms ms e m f h
        (up_to (last_installed m ms) ((M.node m).showed e).installed f
        (subst (λ j. last_installed j ms ≤ ((M.node j).showed e).installed) (sym (same_number m (coordinator e) same ∙ kept.own))
        (subst (λ j. last_installed n ms ≤ j) (tied_installed c M n disk (Up x) tied ∙ own_shown c M n e holds session some cause.uncounted) here.last)) newer)
    by_place false other newer (inl at) h = absurd (false_true (sym other ∙ itself m (coordinator e) (at ∙ sym kept.own)))
    by_place false other newer (inr told) h = letters_so M ms e m f (promises e ms) h cause.uncounted newer (promises_had M e ms goes.sound) (promises_so e ms differ judged) told

    by_promise : (p : Promised) → ((p.shown.summary.node == m) && is_left_out_by newest p.shown) ≡ true → IsAnswer M e a.plan.members p × HeardFrom ms n e p.shown.summary.node → is_excluded e m ms ≡ true
    by_promise p out known =
        let parts : ((p.shown.summary.node == m) ≡ true) × (is_left_out_by newest p.shown ≡ true) = and_cases (p.shown.summary.node == m) (is_left_out_by newest p.shown) out in
        let at : p.shown.summary.node ≡ m = same_number p.shown.summary.node m parts.0 in
        let two : ((p.shown.flagged && nat_lt p.shown.summary.installed f) ≡ true) × (not (has newest.summary.members p.shown.summary.node) ≡ true) = and_cases (p.shown.flagged && nat_lt p.shown.summary.installed f) (not (has newest.summary.members p.shown.summary.node)) parts.1 in
        let older : p.shown.summary.installed < f = less p.shown.summary.installed f (and_cases p.shown.flagged (nat_lt p.shown.summary.installed f) two.0).1 in
        let newer : ((M.node m).showed e).installed < f =
        subst (λ j. ((M.node j).showed e).installed < f) at (subst (λ j. j < f) (sym (answer_installed M e a.plan.members p known.0)) older) in
        by_place (m == coordinator e) refl newer (subst (HeardFrom ms n e) at known.1) (leaver (some_below p.shown.summary.installed f older) (subst (λ j. has newest.summary.members j ≡ false) at (not_has (has newest.summary.members p.shown.summary.node) two.1)))
