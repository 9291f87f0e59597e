-- Where an attempt ends for want of votes, what it names of its entries is shown.
use Rattle.std.specs.Prelude.{ℕ, ◌≡◌, ◌==◌, ◌&&◌, ◌⊎◌, not, Bool, true, false, Contains, List, [], ◌∷◌, Option, None, Some, IfSome, filter, find, is_some, if◌then◌else◌}
use Rattle.std.specs.List.{AllByRecursion, filter_map, list_all, list_any}
use Rattle.std.proofs.Common.{refl, sym, ap, subst, ◌∙◌, inl, inr}
use Rattle.attempt_laws.proofs.Plain.{plain_has_no_votes}
use Rattle.attempt_laws.proofs.Sends.{found_entry}
use Rattle.cl_base.specs.Keys as keys_of
use Rattle.cl_base.specs.Sets.{has}
use Rattle.cl_base.specs.Seizings.{SeizeResult, bare}
use Rattle.cl_base.specs.declared.header.Header.{Header}
use Rattle.cl_base.specs.declared.seizing.Lack.{Lack}
use Rattle.cl_base.specs.declared.seizing.Obstacle.TheVariants as obstacle
use Rattle.cl_base.specs.declared.seizing.SeizeEnd.TheVariants as end
use Rattle.cmm_attempt.proofs.Basics.{and_cases, false_true, none_some, or_cases, same_number, same_some}
use Rattle.cmm_attempt.specs.Attempts.{AttemptState}
use Rattle.cmm_attempt.specs.Counts.{first_short, is_enabled, is_short, lack_by, lack_in, lack_of, lack_under, short_pending}
use Rattle.cmm_attempt.specs.Plans.{is_reachable}
use Rattle.cmm_attempt.specs.Calls.{IsReached}
use Rattle.cmm_attempt.specs.Promises.{holds_valid, is_from}
use Rattle.cmm_attempt.specs.Seizings.{may_follow, next_by}
use Rattle.cmm_attempt.specs.declared.counting.BothVotes.{BothVotes}
use Rattle.cmm_attempt.specs.declared.attached.AttachedDevice.{AttachedDevice}
use Rattle.cmm_attempt.specs.declared.promised.Promised.{Promised}
use Rattle.cmm_attempt.specs.declared.seizing.Seizing.{Seizing}
use Rattle.history.specs.Attempts.{attached_members, is_ended_so, is_unregistered, reads_without, some_member}
use Rattle.history.specs.Member.{members_of}
use Rattle.history.specs.Moment.{Moment}
use Rattle.history.specs.Setting.{paths_of}
use Rattle.quorum_votes.specs.Tables.{VoteTable}
use Rattle.run_history.proofs.Lists.{more}
use Rattle.run_seizings.proofs.Progress.{or_left, or_right, same_is}
use Rattle.run_outcomes.proofs.results.Stays.{both_true}
use Rattle.run_outcomes.specs.results.Shown.{EndShown, EntryTold, IsAmong, ObstacleShown, PlanShown, PromiseShown, Rests, ShowsNot, Was, WasTried}
use Rattle.run_outcomes.specs.results.Tried.{Tried, is_unheld}
use Rattle.run_outcomes.proofs.counts.Stages.{IsOneOf, has_quorum}
use Rattle.run_outcomes.proofs.results.Promises.{none_found}
use Rattle.run_history.specs.WorldLines.{IsDevice}
use Rattle.seize.specs.declared.kind.SeizeKind.{SeizeKind}
use Rattle.seize.specs.declared.kind.SeizeKind.TheVariants.{Plain, Vote}

-- ---- how a seizing ended, as an obstacle of its device

abbrev Barred : Header → List Moment → ℕ → ℕ → Type 0
Barred h ms e d = list_all (is_unregistered h e d ms) (attached_members h d (members_of e ms)) ≡ true

abbrev Ended : Header → List Moment → ℕ → ℕ → SeizeResult → Type 0
Ended h ms e d (end.Held keys) = Unit {0}
Ended h ms e d (end.NotRegistered keys) = Barred h ms e d
Ended h ms e d r = is_ended_so h e d ms (bare r) ≡ true

told_ended : (h : Header) (ms : List Moment) (e d n : ℕ) (r : SeizeResult) → ((keys : List ℕ) → r ≡ end.NotRegistered keys → Barred h ms e d) → EndShown h e d ms n r → Ended h ms e d r
told_ended h ms e d n (end.NotRegistered keys) f k = f keys refl
told_ended h ms e d n (end.Held keys) f k = k
told_ended h ms e d n (end.Greater w) f k = k
told_ended h ms e d n end.Expelled f k = k
told_ended h ms e d n (end.Contended key) f k = k
told_ended h ms e d n end.Fault f k = k

-- ---- what is named

-- what is known of the attempt, where it ends for want of these votes
pub record Known (h : Header) (ms : List Moment) (v : VoteTable) (s : AttemptState) : Type 0 where
  pub members : members_of s.plan.epoch ms ≡ s.plan.members
  pub plan : PlanShown h s.plan
  pub promises : AllByRecursion (PromiseShown h ms s.plan.epoch) s.promises
  pub rests : Rests (Was h ms s.plan.epoch) s
  pub reached : IsReached s
  pub both : BothVotes
  pub given : s.votes ≡ Some both
  pub one : IsOneOf v both

-- the votes that are too few are one of both
pub one_of : (both : BothVotes) (members set : ℕ) (v : VoteTable) → first_short both members set ≡ Some v → IsOneOf v both
one_of both members set v is = by_first (is_short both.committed members set) is
  where
    by_pending : (o : Option VoteTable) → both.pending ≡ o → short_pending o members set ≡ Some v → IsOneOf v both
    by_pending None at none = absurd (none_some v none)
    by_pending (Some w) at some = by_test (is_short w members set) some
      where
        by_test : (b : Bool) → (if b then Some w else None) ≡ Some v → IsOneOf v both
        by_test true here = inr (at ∙ here)
        by_test false none = absurd (none_some v none)

    by_first : (b : Bool) → (if b then Some both.committed else short_pending both.pending members set) ≡ Some v → IsOneOf v both
    by_first true here = inl (sym (same_some both.committed v here))
    by_first false there = by_pending both.pending refl there

-- ---- who may not seize the device

not_true : (b : Bool) → not b ≡ true → b ≡ false
not_true true e = absurd (false_true e)
not_true false e = refl

-- who has promised so
sent_without : (h : Header) (ms : List Moment) (e d n : ℕ) (ps : List Promised) → IsDevice h d → ShowsNot ps d n → AllByRecursion (PromiseShown h ms e) ps → is_unregistered h e d ms n ≡ true
sent_without h ms e d n [] is some k = absurd (false_true some)
sent_without h ms e d n (p ∷ ps) is some k =
    by_cases (or_cases (is_from n p && not (has p.shown.valid d)) (list_any (λ q. is_from n q && not (has q.shown.valid d)) ps) some) k.0 (λ more. sent_without h ms e d n ps is more k.1)
  where
    by_shown : p.shown.summary.node ≡ n → has p.shown.valid d ≡ false → PromiseShown h ms e p → is_unregistered h e d ms n ≡ true
    by_shown at none shows =
        or_left (is_unheld h e d ms n) (some_member e ms (reads_without h d n)) (subst (λ j. is_unheld h e d ms j ≡ true) at (shows d is none).unheld)

    by_cases : ((is_from n p && not (has p.shown.valid d)) ≡ true) ⊎ (list_any (λ q. is_from n q && not (has q.shown.valid d)) ps ≡ true) → PromiseShown h ms e p
        → (list_any (λ q. is_from n q && not (has q.shown.valid d)) ps ≡ true → is_unregistered h e d ms n ≡ true) → is_unregistered h e d ms n ≡ true
    by_cases (inl here) shown next =
        let two : (is_from n p ≡ true) × (not (has p.shown.valid d) ≡ true) = and_cases (is_from n p) (not (has p.shown.valid d)) here in
        by_shown (same_number p.shown.summary.node n two.0) (not_true (has p.shown.valid d) two.1) shown
    by_cases (inr later) shown next = next later

-- of those of these nodes that pass the first test, all pass the second
all_passing : (test then_so : ℕ → Bool) (ns : List ℕ) → ((n : ℕ) → IsAmong n ns → test n ≡ true → then_so n ≡ true) → list_all then_so (filter test ns) ≡ true
all_passing test then_so [] h = refl
all_passing test then_so (m ∷ ns) h =
    by_test (test m) refl (all_passing test then_so ns (λ n among is. h n (or_right (m == n) (list_any (λ j. j == n) ns) among) is))
  where
    by_test : (b : Bool) → test m ≡ b → list_all then_so (filter test ns) ≡ true → list_all then_so (if b then m ∷ filter test ns else filter test ns) ≡ true
    by_test true is rest = both_true (then_so m) (list_all then_so (filter test ns)) (h m (or_left (m == m) (list_any (λ j. j == m) ns) (same_is m)) is) rest
    by_test false is rest = rest

-- who is attached and may not be asked next: it does not hold the device valid, was asked, or its key was not read
may_cases : (a b c d : Bool) → a ≡ true → (a && b && not c && d) ≡ false → (b ≡ false) ⊎ ((c ≡ true) ⊎ (d ≡ false))
may_cases true true true d i k = inr (inl refl)
may_cases true true false true i k = absurd (false_true (sym k))
may_cases true true false false i k = inr (inr refl)
may_cases true false c d i k = inl refl
may_cases false b c d i k = absurd (false_true i)

-- a quorum device is seized for its votes
is_vote : (h : Header) (ms : List Moment) (v : VoteTable) (s : AttemptState) (z : Seizing) → Known h ms v s → Contains s.devices z → is_enabled v z.attached.device ≡ true → z.kind ≡ Vote
is_vote h ms v s z k listed counts = by_kind z.kind refl
  where
    by_kind : (kind : SeizeKind) → z.kind ≡ kind → kind ≡ Vote
    by_kind Vote is = refl
    by_kind Plain is =
        absurd (false_true (sym (plain_has_no_votes s k.both z k.reached k.given listed is) ∙ has_quorum v k.both z.attached.device k.one counts))

pub barred_all : (h : Header) (ms : List Moment) (v : VoteTable) (s : AttemptState) (z : Seizing) (keys : List ℕ) → Known h ms v s → EntryTold (Was h ms s.plan.epoch) s.plan s.promises z → z.kind ≡ Vote
    → z.result ≡ Some (end.NotRegistered keys) → Barred h ms s.plan.epoch z.attached.device
barred_all h ms v s z keys k told kind result =
    subst (λ j. list_all (is_unregistered h e d ms) (attached_members h d j) ≡ true) (sym k.members)
    (subst (λ ns. list_all (is_unregistered h e d ms) (filter (λ m. has (paths_of h d) m) ns) ≡ true) k.plan.nodes
    (all_passing (λ m. has (paths_of h d) m) (is_unregistered h e d ms) s.plan.nodes (λ n among path. one n among (subst (λ j. has j n ≡ true) (sym told.place.nodes) path))))
  where
    e : ℕ
    e = s.plan.epoch

    d : ℕ
    d = z.attached.device

    device : IsDevice h d
    device = told.place.device

    tried : (n : ℕ) (seen : List ℕ) → Tried h e d ms n seen → is_unregistered h e d ms n ≡ true
    tried n seen t = t.without device

    unread : (n m : ℕ) → Tried h e d ms m keys → list_any (λ key. key == keys_of.key_of s.plan.cluster n) keys ≡ false → is_unregistered h e d ms n ≡ true
    unread n m t none =
        or_right (is_unheld h e d ms n) (some_member e ms (reads_without h d n))
        (t.read n (subst (λ c. not (list_any (λ key. key == keys_of.key_of c n) keys) ≡ true) k.plan.cluster (ap not none)))

    by_asked : (n m : ℕ) → Tried h e d ms m keys → z.seizer ≡ Some m → (z.seizer ≡ Some n) ⊎ WasTried (Was h ms e) d n → is_unregistered h e d ms n ≡ true
    by_asked n m t seizer (inl last) = tried n keys (subst (λ j. Tried h e d ms j keys) (same_some m n (sym seizer ∙ last)) t)
    by_asked n m t seizer (inr earlier) = tried n earlier.0 earlier.1

    by_left : (n m : ℕ) → IsAmong n s.plan.nodes → Tried h e d ms m keys → z.seizer ≡ Some m
        → (holds_valid s.promises d n ≡ false) ⊎ ((has z.asked n ≡ true) ⊎ (list_any (λ key. key == keys_of.key_of s.plan.cluster n) keys ≡ false)) → is_unregistered h e d ms n ≡ true
    by_left n m among t seizer (inl not_valid) = sent_without h ms e d n s.promises device (told.shows n among not_valid) k.promises
    by_left n m among t seizer (inr (inl asked)) = by_asked n m t seizer (told.asked n asked)
    by_left n m among t seizer (inr (inr none)) = unread n m t none

    by_seizer : (o : Option ℕ) → z.seizer ≡ o → (n : ℕ) → IsAmong n s.plan.nodes → has z.attached.nodes n ≡ true → is_unregistered h e d ms n ≡ true
    by_seizer None at n among path = sent_without h ms e d n s.promises device (told.shows n among ((told.nobody at).1 n among path)) k.promises
    by_seizer (Some m) at n among path =
        by_left n m among (told.told m (end.NotRegistered keys) at result) at
        (may_cases (has z.attached.nodes n) (holds_valid s.promises d n) (has z.asked n) (list_any (λ key. key == keys_of.key_of s.plan.cluster n) keys) path
        (none_found (may_follow s.plan.cluster s.promises z keys) s.plan.nodes n
        (subst (λ q. next_by s.plan.cluster s.promises s.plan.nodes z q (end.NotRegistered keys) ≡ None) kind (told.left keys (ap (λ (y : Option ℕ). is_some y) at) result)) among))

    one : (n : ℕ) → IsAmong n s.plan.nodes → has z.attached.nodes n ≡ true → is_unregistered h e d ms n ≡ true
    one n among path = by_seizer z.seizer refl n among path

-- how it ended is shown
ended_so : (h : Header) (ms : List Moment) (v : VoteTable) (s : AttemptState) (z : Seizing) (r : SeizeResult) → Known h ms v s → EntryTold (Was h ms s.plan.epoch) s.plan s.promises z → z.kind ≡ Vote
    → z.result ≡ Some r → Ended h ms s.plan.epoch z.attached.device r
ended_so h ms v s z r k told kind is = by_seizer z.seizer refl
  where
    barred : (keys : List ℕ) → r ≡ end.NotRegistered keys → Barred h ms s.plan.epoch z.attached.device
    barred keys same = barred_all h ms v s z keys k told kind (is ∙ ap Some same)

    by_seizer : (o : Option ℕ) → z.seizer ≡ o → Ended h ms s.plan.epoch z.attached.device r
    by_seizer (Some n) at = told_ended h ms s.plan.epoch z.attached.device n r barred (told.told n r at is)
    by_seizer None at =
        let none : end.NotRegistered [] ≡ r = same_some (end.NotRegistered []) r (sym (told.nobody at).0 ∙ is) in
        subst (λ y. Ended h ms s.plan.epoch z.attached.device y) none (barred [] (sym none))

-- of a device, as far as its entry tells
lack_shown : (h : Header) (ms : List Moment) (v : VoteTable) (s : AttemptState) (a : AttachedDevice) (x : Lack) → Known h ms v s → is_enabled v a.device ≡ true → lack_of s.plan s.devices a ≡ Some x
    → ObstacleShown h s.plan.epoch x.device ms x.obstacle
lack_shown h ms v s a x k counts is = by_reach (is_reachable s.plan a) is
  where
    e : ℕ
    e = s.plan.epoch

    named : (y : Lack) → ObstacleShown h e y.device ms y.obstacle → Some y ≡ Some x → ObstacleShown h e x.device ms x.obstacle
    named y shown same = subst (λ (z : Lack). ObstacleShown h e z.device ms z.obstacle) (same_some y x same) shown

    by_result : (r : Option SeizeResult) → ((z : SeizeResult) → r ≡ Some z → Ended h ms e a.device z) → lack_by a.device r ≡ Some x
        → ObstacleShown h e x.device ms x.obstacle
    by_result None shown is = absurd (none_some x is)
    by_result (Some (end.Held keys)) shown is = absurd (none_some x is)
    by_result (Some (end.NotRegistered keys)) shown is = named _ (shown (end.NotRegistered keys) refl) is
    by_result (Some (end.Greater w)) shown is = named _ (shown (end.Greater w) refl) is
    by_result (Some end.Expelled) shown is = named _ (shown end.Expelled refl) is
    by_result (Some (end.Contended key)) shown is = named _ (shown (end.Contended key) refl) is
    by_result (Some end.Fault) shown is = named _ (shown end.Fault refl) is

    by_entry : (o : Option Seizing) → ((z : Seizing) → o ≡ Some z → (r : SeizeResult) → z.result ≡ Some r → Ended h ms e a.device r) → lack_in a.device o ≡ Some x
        → ObstacleShown h e x.device ms x.obstacle
    by_entry None shown is = absurd (none_some x is)
    by_entry (Some z) shown is = by_result z.result (λ r same. shown z refl r same) is

    -- the entry that is found
    entry : (z : Seizing) → find (λ y. y.attached.device == a.device) s.devices ≡ Some z → (r : SeizeResult) → z.result ≡ Some r → Ended h ms e a.device r
    entry z found r same =
        let two : ((z.attached.device == a.device) ≡ true) × Contains s.devices z = found_entry (λ y. y.attached.device == a.device) s.devices z found in
        let at : z.attached.device ≡ a.device = same_number z.attached.device a.device two.0 in
        let told : EntryTold (Was h ms e) s.plan s.promises z = found_told s.devices z k.rests.entries found in
        subst (λ d. Ended h ms e d r) at (ended_so h ms v s z r k told (is_vote h ms v s z k two.1 (subst (λ d. is_enabled v d ≡ true) (sym at) counts)) same)
      where
        found_told : (es : List Seizing) (z : Seizing) → AllByRecursion (EntryTold (Was h ms e) s.plan s.promises) es → find (λ y. y.attached.device == a.device) es ≡ Some z
            → EntryTold (Was h ms e) s.plan s.promises z
        found_told [] z all found = absurd (none_some z found)
        found_told (y ∷ es) z all found = by_test (y.attached.device == a.device) found (λ rest. found_told es z all.1 rest)
          where
            by_test : (b : Bool) → (if b then Some y else find (λ i. i.attached.device == a.device) es) ≡ Some z
                → (find (λ i. i.attached.device == a.device) es ≡ Some z → EntryTold (Was h ms e) s.plan s.promises z) → EntryTold (Was h ms e) s.plan s.promises z
            by_test true here rest = subst (λ i. EntryTold (Was h ms e) s.plan s.promises i) (same_some y z here) all.0
            by_test false there rest = rest there

    by_reach : (t : Bool)
        → (if t then lack_in a.device (find (λ z. z.attached.device == a.device) s.devices) else Some (record { device = a.device; obstacle = obstacle.NoPath })) ≡ Some x
        → ObstacleShown h e x.device ms x.obstacle
    by_reach true is = by_entry (find (λ z. z.attached.device == a.device) s.devices) entry is
    by_reach false is = named _ tt is

under_shown : (h : Header) (ms : List Moment) (v : VoteTable) (s : AttemptState) (a : AttachedDevice) (x : Lack) → Known h ms v s
    → lack_under v s.plan s.devices a ≡ Some x → ObstacleShown h s.plan.epoch x.device ms x.obstacle
under_shown h ms v s a x k is = by_test (is_enabled v a.device) refl is
  where
    by_test : (t : Bool) → is_enabled v a.device ≡ t → (if t then lack_of s.plan s.devices a else None) ≡ Some x → ObstacleShown h s.plan.epoch x.device ms x.obstacle
    by_test true counts is = lack_shown h ms v s a x k counts is
    by_test false off is = absurd (none_some x is)

pub lacks_shown : (h : Header) (ms : List Moment) (v : VoteTable) (s : AttemptState) (attached : List AttachedDevice) → Known h ms v s
    → AllByRecursion (λ (x : Lack). ObstacleShown h s.plan.epoch x.device ms x.obstacle) (filter_map (lack_under v s.plan s.devices) attached)
lacks_shown h ms v s [] k = tt
lacks_shown h ms v s (a ∷ attached) k =
    more (λ (x : Lack). ObstacleShown h s.plan.epoch x.device ms x.obstacle) (lack_under v s.plan s.devices a) (filter_map (lack_under v s.plan s.devices) attached)
    (one (lack_under v s.plan s.devices a) refl) (lacks_shown h ms v s attached k)
  where
    one : (o : Option Lack) → lack_under v s.plan s.devices a ≡ o → IfSome o (λ (x : Lack). ObstacleShown h s.plan.epoch x.device ms x.obstacle)
    one None is = tt
    one (Some x) is = under_shown h ms v s a x k is
