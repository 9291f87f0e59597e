-- An attempt that ends for want of votes counts its members and the enabled devices that are not listed as lacking, to each of which a member has a path.
use Rattle.std.specs.Prelude.{ℕ, ◌+◌, ◌-◌, ◌≡◌, ◌<◌, ◌≤◌, ◌==◌, ◌&&◌, ◌||◌, ◌⊎◌, nat_lt, not, Bool, true, false, if◌then◌else◌, List, [], filter, length, map, Option, None, Some, is_some, slice_get, unwrap_or}
use Rattle.std.specs.List.{filter_map, find, list_any}
use Rattle.std.proofs.Common.{refl, sym, ap, subst, ◌∙◌, arith, inl, inr}
use Rattle.attempt_laws.specs.Laws.{is_held_in}
use Rattle.cl_base.specs.Sets.{has}
use Rattle.cl_base.specs.declared.header.Header.{Header}
use Rattle.cl_base.specs.declared.seizing.Lack.{Lack}
use Rattle.cmm_attempt.proofs.Basics.{false_true, none_some, same_some}
use Rattle.cmm_attempt.specs.Attempts.{AttemptState}
use Rattle.cmm_attempt.specs.Counts.{first_short, is_enabled as is_counted, is_enabled_pending, is_quorum, is_short, lack_by, lack_in, lack_under, reached_set, short_pending}
use Rattle.cmm_attempt.specs.Plans.{is_reachable}
use Rattle.cmm_attempt.specs.Seizings.{all_settled, held_set, is_held_by}
use Rattle.cmm_attempt.specs.declared.attached.AttachedDevice.{AttachedDevice}
use Rattle.cmm_attempt.specs.declared.counting.BothVotes.{BothVotes}
use Rattle.cmm_attempt.specs.declared.plan.Plan.{Plan}
use Rattle.cmm_attempt.specs.declared.seizing.Seizing.{Seizing}
use Rattle.cmm_attempt.specs.declared.step.AttemptEnd.{AttemptEnd}
use Rattle.cmm_attempt.specs.declared.step.AttemptEnd.TheVariants as end
use Rattle.history.specs.Attempts.{counts, is_listed, may_be_enough}
use Rattle.history.specs.Setting.{nodes_of, paths_in, paths_of}
use Rattle.quorum_votes.specs.Tables.{VoteTable}
use Rattle.quorum_votes.specs.Votes.{held_of, needed_of}
use Rattle.world_model.specs.First.{attached_from}
use Rattle.run_outcomes.specs.counts.Shorts.{IsPlaced, IsPossible, IsSettled, ShortBy, is_sought}
use Rattle.run_outcomes.proofs.counts.Places.{OfHeader, IsAt, at_device, at_place, listed_at, reached_at}
use Rattle.run_outcomes.proofs.counts.Tried.{EntryOf, entry_at, held_at}
use Rattle.run_outcomes.specs.counts.Laws.{AreNamed}
use Rattle.run_outcomes.proofs.counts.Named.{lacks_named}
use Rattle.run_outcomes.proofs.counts.Shares.{Holds, Lists, Reaches, counts_so, enough_so}
use Rattle.run_outcomes.proofs.counts.Lacks.{under_device, told_unless, lack_tests, none_of}

-- ---- what is counted

-- of a device of the header: whether it counts is whether nothing is told of it, and so is whether a member has a path
record CountsOne (v : VoteTable) (plan : Plan) (ds : List Seizing) (set d : ℕ) (a : AttachedDevice) : Type 0 where
  enabled : is_counted v d ≡ true → has set d ≡ not (is_some (lack_under v plan ds a))
  reached : has set d ≡ true → is_reachable plan a ≡ true
  unlisted : has set d ≡ true → is_some (lack_under v plan ds a) ≡ false
  unreached : is_counted v d ≡ true → is_reachable plan a ≡ false → is_some (lack_under v plan ds a) ≡ true

not_not : (b : Bool) → b ≡ not (not b)
not_not true = refl
not_not false = refl

abbrev Stage : AttemptState → BothVotes → ℕ → Type 0
Stage s both set = IsPossible s set ⊎ IsSettled s both set

-- v is one of both
abbrev pub IsOneOf : VoteTable → BothVotes → Type 0
IsOneOf v both = (v ≡ both.committed) ⊎ (both.pending ≡ Some v)

or_first : (a b : Bool) → a ≡ true → (a || b) ≡ true
or_first true b h = refl
or_first false b h = absurd (false_true h)

or_second : (a b : Bool) → b ≡ true → (a || b) ≡ true
or_second true b h = refl
or_second false b h = h

pub has_quorum : (v : VoteTable) (both : BothVotes) (d : ℕ) → IsOneOf v both → is_counted v d ≡ true → is_quorum both d ≡ true
has_quorum v both d (inl is) e = or_first _ (is_enabled_pending both.pending d) (subst (λ z. is_counted z d ≡ true) is e)
has_quorum v both d (inr is) e = or_second (is_counted both.committed d) _ (subst (λ o. is_enabled_pending o d ≡ true) (sym is) e)

possible_one : (h : Header) (v : VoteTable) (plan : Plan) (ds : List Seizing) (set d : ℕ) (a : AttachedDevice) → OfHeader h plan → set ≡ reached_set plan → ds ≡ [] → IsAt 1 h.devices d a → CountsOne v plan ds set d a
possible_one h v plan ds set d a of is none at = record {
  enabled = λ e. by_reach e (is_reachable plan a) refl;
  reached = λ e. sym reach ∙ e;
  unlisted = λ e. lacks_nothing (sym reach ∙ e);
  unreached = λ e f. ap is_some (lack_tests v plan ds a true false (ap (is_counted v) device ∙ e) f);
}
  where
    device : a.device ≡ d
    device = at_device 1 h.devices d a at

    reach : has set d ≡ is_reachable plan a
    reach = ap (λ z. has z d) (is ∙ ap over of.attached) ∙ reached_at plan h.devices d a of.few at
      where
        over : List AttachedDevice → ℕ
        over all = reached_set (record plan { attached = all })

    lacks_nothing : is_reachable plan a ≡ true → is_some (lack_under v plan ds a) ≡ false
    lacks_nothing f =
        ap is_some (lack_tests v plan ds a (is_counted v a.device) true refl f)
        ∙ none_of (is_counted v a.device) (lack_in a.device (find (λ e. e.attached.device == a.device) ds)) (ap (λ zs. is_some (lack_in a.device (find (λ (e : Seizing). e.attached.device == a.device) zs))) none)

    by_reach : is_counted v d ≡ true → (r : Bool) → is_reachable plan a ≡ r → has set d ≡ not (is_some (lack_under v plan ds a))
    by_reach e true f = reach ∙ (f ∙ ap not (sym (lacks_nothing f)))
    by_reach e false f = reach ∙ (f ∙ ap not (sym (ap is_some (lack_tests v plan ds a true false (ap (is_counted v) device ∙ e) f))))

settled_one : (h : Header) (v : VoteTable) (both : BothVotes) (plan : Plan) (ds : List Seizing) (set d : ℕ) (a : AttachedDevice) → OfHeader h plan → IsOneOf v both → set ≡ held_set ds → all_settled ds ≡ true
    → map (λ (e : Seizing). e.attached) ds ≡ filter (is_sought plan both) plan.attached → IsAt 1 h.devices d a → CountsOne v plan ds set d a
settled_one h v both plan ds set d a of one is all listed at = by_entry (entry_at (is_sought plan both) 1 h.devices d a ds at lists all)
  where
    device : a.device ≡ d
    device = at_device 1 h.devices d a at

    lists : map (λ (e : Seizing). e.attached) ds ≡ filter (is_sought plan both) (attached_from 1 h.devices)
    lists = listed ∙ ap (filter (is_sought plan both)) of.attached

    held : has set d ≡ is_held_in ds d
    held = ap (λ z. has z d) is ∙ held_at (is_sought plan both) h.devices ds d of.few lists

    unreached_is : is_counted v d ≡ true → is_reachable plan a ≡ false → is_some (lack_under v plan ds a) ≡ true
    unreached_is e f = ap is_some (lack_tests v plan ds a true false (ap (is_counted v) device ∙ e) f)

    by_entry : ((is_sought plan both a ≡ false) × (is_held_in ds d ≡ false)) ⊎ ((is_sought plan both a ≡ true) × EntryOf ds d) → CountsOne v plan ds set d a
    by_entry (inl out) = record {
      enabled = λ e. held ∙ (out.1 ∙ ap not (sym (unreached_is e (not_reached e))));
      reached = λ e. absurd (false_true (sym out.1 ∙ (sym held ∙ e)));
      unlisted = λ e. absurd (false_true (sym out.1 ∙ (sym held ∙ e)));
      unreached = unreached_is;
    }
      where
        second_false : (b c : Bool) → b ≡ true → (b && c) ≡ false → c ≡ false
        second_false true c h k = k
        second_false false c h k = absurd (false_true h)

        not_reached : is_counted v d ≡ true → is_reachable plan a ≡ false
        not_reached e = second_false (is_quorum both a.device) (is_reachable plan a) (has_quorum v both a.device one (ap (is_counted v) device ∙ e)) out.0
    by_entry (inr (some, x)) = record {
      enabled = λ e. held ∙ (x.held ∙ (not_not (is_held_by x.entry.result) ∙ ap not (sym (told_unless a.device x.entry.result x.settled) ∙ sym (ap is_some (tests true (ap (is_counted v) device ∙ e))))));
      reached = λ e. is_reached;
      unlisted = λ e. ap is_some (tests (is_counted v a.device) refl)
          ∙ none_of (is_counted v a.device) (lack_by a.device x.entry.result) (told_unless a.device x.entry.result x.settled ∙ ap not (sym x.held ∙ (sym held ∙ e)));
      unreached = unreached_is;
    }
      where
        second : (b c : Bool) → (b && c) ≡ true → c ≡ true
        second true c h = h
        second false c h = absurd (false_true h)

        is_reached : is_reachable plan a ≡ true
        is_reached = second (is_quorum both a.device) (is_reachable plan a) some

        found : find (λ (e : Seizing). e.attached.device == a.device) ds ≡ Some x.entry
        found = ap (λ n. find (λ (e : Seizing). e.attached.device == n) ds) device ∙ x.found

        tests : (t : Bool) → is_counted v a.device ≡ t → lack_under v plan ds a ≡ (if t then lack_by a.device x.entry.result else None)
        tests t e = lack_tests v plan ds a t true e is_reached ∙ ap (λ o. if t then lack_in a.device o else None) found

one_counts : (h : Header) (v : VoteTable) (both : BothVotes) (s : AttemptState) (set d : ℕ) (a : AttachedDevice) → OfHeader h s.plan → IsOneOf v both → Stage s both set → IsAt 1 h.devices d a → CountsOne v s.plan s.devices set d a
one_counts h v both s set d a of one (inl possible) at = possible_one h v s.plan s.devices set d a of possible.0 possible.1 at
one_counts h v both s set d a of one (inr settled) at = settled_one h v both s.plan s.devices set d a of one settled.0 settled.1 settled.2 at

-- ---- the list of what is lacking

record DeviceAt (h : Header) (d : ℕ) : Type 0 where
  a : AttachedDevice
  at : IsAt 1 h.devices d a
  nodes : a.nodes ≡ paths_of h d

device_at_place : (h : Header) (d : ℕ) → 1 ≤ d → d ≤ length h.devices → DeviceAt h d
device_at_place h d low high = subst (DeviceAt h) (whole d low) (record { a = record { device = 1 + (d - 1); nodes = paths_in (slice_get h.devices (d - 1)) }; at = at_place 1 h.devices (d - 1) (within d (length h.devices) low high); nodes = ap (λ i. paths_in (slice_get h.devices i)) (less_one d low) })
  where
    whole : (d : ℕ) → 1 ≤ d → 1 + (d - 1) ≡ d
    whole d l = omega (arith, l)

    within : (d n : ℕ) → 1 ≤ d → d ≤ n → d - 1 < n
    within d n l m = omega (arith, l, m)

    less_one : (d : ℕ) → 1 ≤ d → d - 1 ≡ (1 + (d - 1)) - 1
    less_one d l = omega (arith, l)

lacks_of : VoteTable → AttemptState → List Lack
lacks_of v s = filter_map (lack_under v s.plan s.devices) s.plan.attached

listed_is : (h : Header) (v : VoteTable) (s : AttemptState) (d : ℕ) (a : AttachedDevice) → OfHeader h s.plan → IsAt 1 h.devices d a → is_listed d (lacks_of v s) ≡ is_some (lack_under v s.plan s.devices a)
unfolding lacks_of
listed_is h v s d a of at = ap (λ all. is_listed d (filter_map (lack_under v s.plan s.devices) all)) of.attached ∙ listed_at (lack_under v s.plan s.devices) (λ b x is. (under_device v s.plan s.devices b x is).1) 1 h.devices d a at

lists_so : (h : Header) (v : VoteTable) (both : BothVotes) (s : AttemptState) (set : ℕ) → OfHeader h s.plan → IsOneOf v both → IsPlaced h v → Stage s both set → Lists v (lacks_of v s) set
lists_so h v both s set of one placed stage d low high e =
    let x : DeviceAt h d = device_at_place h d low (placed d low e) in
    (one_counts h v both s set d x.a of one stage x.at).enabled e ∙ ap not (sym (listed_is h v s d x.a of x.at))

paths_same : (h : Header) (s : AttemptState) (d : ℕ) (x : DeviceAt h d) → OfHeader h s.plan → is_reachable s.plan x.a ≡ true → list_any (λ m. has (paths_of h d) m) (nodes_of s.plan.members) ≡ true
paths_same h s d x of reached = subst (λ ns. list_any (λ m. has (paths_of h d) m) ns ≡ true) of.nodes (subst (λ set. list_any (λ m. has set m) s.plan.nodes ≡ true) x.nodes reached)

reaches_so : (h : Header) (v : VoteTable) (both : BothVotes) (s : AttemptState) (set : ℕ) → OfHeader h s.plan → IsOneOf v both → IsPlaced h v → Stage s both set → Reaches h v s.plan.members (lacks_of v s)
reaches_so h v both s set of one placed stage d low high e unlisted = paths_same h s d x of (by_reach (is_reachable s.plan x.a) refl)
  where
    x : DeviceAt h d
    x = device_at_place h d low (placed d low e)

    by_reach : (t : Bool) → is_reachable s.plan x.a ≡ t → t ≡ true
    by_reach true f = refl
    by_reach false f = absurd (false_true (sym unlisted ∙ (listed_is h v s d x.a of x.at ∙ (one_counts h v both s set d x.a of one stage x.at).unreached e f)))

-- under other votes: what counts is not listed
holds_so : (h : Header) (w v : VoteTable) (both : BothVotes) (s : AttemptState) (set : ℕ) → OfHeader h s.plan → IsOneOf v both → IsPlaced h w → Stage s both set → Holds h w s.plan.members set (lacks_of v s)
holds_so h w v both s set of one placed stage d low high e there =
    let x : DeviceAt h d = device_at_place h d low (placed d low e) in
    let c : CountsOne v s.plan s.devices set d x.a = one_counts h v both s set d x.a of one stage x.at in
    (listed_is h v s d x.a of x.at ∙ c.unlisted there, paths_same h s d x of (c.reached there))

-- ---- the end

have_in : AttemptEnd → ℕ
have_in (end.Votes have need lacking) = have
have_in _ = 0

need_in : AttemptEnd → ℕ
need_in (end.Votes have need lacking) = need
need_in _ = 0

lacking_in : AttemptEnd → List Lack
lacking_in (end.Votes have need lacking) = lacking
lacking_in _ = []

-- it is counted under the committed votes, or, where these may be enough, with the pending update
abbrev pub CountsUnder : Header → BothVotes → ℕ → ℕ → ℕ → List Lack → Type 0
CountsUnder h both members have need lacking =
    (counts h both.committed members have need lacking ≡ true)
    ⊎ ((may_be_enough h both.committed members lacking ≡ true) × (counts h (unwrap_or both.pending both.committed) members have need lacking ≡ true))

-- which votes are too few
first_of : (both : BothVotes) (members set : ℕ) (v : VoteTable) → first_short both members set ≡ Some v → (v ≡ both.committed) ⊎ ((is_short both.committed members set ≡ false) × (both.pending ≡ Some v))
first_of both members set v is = by_test (is_short both.committed members set) refl is
  where
    by_pending : (o : Option VoteTable) → short_pending o members set ≡ Some v → o ≡ Some v
    by_pending None is = absurd (none_some v is)
    by_pending (Some w) is = by_short (is_short w members set) is
      where
        by_short : (t : Bool) → (if t then Some w else None) ≡ Some v → Some w ≡ Some v
        by_short true is = is
        by_short false is = absurd (none_some v is)

    by_test : (t : Bool) → is_short both.committed members set ≡ t → (if t then Some both.committed else short_pending both.pending members set) ≡ Some v → (v ≡ both.committed) ⊎ ((is_short both.committed members set ≡ false) × (both.pending ≡ Some v))
    by_test true e is = inl (sym (same_some both.committed v is))
    by_test false e is = inr (e, by_pending both.pending is)

enough : (a b : ℕ) → nat_lt a b ≡ false → b ≤ a
enough a b h = grind arith

pub short_counts : (h : Header) (s : AttemptState) (both : BothVotes) (have need : ℕ) (lacking : List Lack) → OfHeader h s.plan → IsPlaced h both.committed → IsPlaced h (unwrap_or both.pending both.committed) → s.votes ≡ Some both
    → ShortBy s (end.Votes have need lacking) → CountsUnder h both s.plan.members have need lacking
unfolding have_in need_in lacking_in lacks_of
short_counts h s both have need lacking of placed placed_all given x = by_first (first_of both s.plan.members x.set x.v (subst (λ (b : BothVotes). first_short b s.plan.members x.set ≡ Some x.v) same x.short))
  where
    same : x.both ≡ both
    same = same_some x.both both (sym x.given ∙ given)

    stage : Stage s both x.set
    stage = subst (λ b. Stage s b x.set) same x.stage

    lacks : lacking ≡ lacks_of x.v s
    lacks = ap lacking_in x.is

    counted : IsOneOf x.v both → IsPlaced h x.v → counts h x.v s.plan.members have need lacking ≡ true
    counted one here =
        subst (λ zs. counts h x.v s.plan.members have need zs ≡ true) (sym lacks)
        (counts_so h x.v s.plan.members x.set have need (lacks_of x.v s) (lists_so h x.v both s x.set of one here stage) (reaches_so h x.v both s x.set of one here stage) (ap have_in x.is) (ap need_in x.is))

    by_first : (x.v ≡ both.committed) ⊎ ((is_short both.committed s.plan.members x.set ≡ false) × (both.pending ≡ Some x.v)) → CountsUnder h both s.plan.members have need lacking
    by_first (inl is) = inl (subst (λ v. counts h v s.plan.members have need lacking ≡ true) is (counted (inl is) (subst (IsPlaced h) (sym is) placed)))
    by_first (inr (many, is)) =
        let all : unwrap_or both.pending both.committed ≡ x.v = ap (λ (o : Option VoteTable). unwrap_or o both.committed) is in
        inr (
          subst (λ zs. may_be_enough h both.committed s.plan.members zs ≡ true) (sym lacks)
              (enough_so h both.committed s.plan.members x.set (lacks_of x.v s) (holds_so h both.committed x.v both s x.set of (inr is) placed stage) (enough (held_of both.committed s.plan.members x.set) (needed_of both.committed) many)),
          subst (λ v. counts h v s.plan.members have need lacking ≡ true) (sym all) (counted (inr is) (subst (IsPlaced h) all placed_all)),
        )

-- .. and what it names as lacking
pub short_names : (h : Header) (s : AttemptState) (have need : ℕ) (lacking : List Lack) → OfHeader h s.plan → ShortBy s (end.Votes have need lacking) → AreNamed h s.plan.members lacking
unfolding lacking_in
short_names h s have need lacking of x = subst (AreNamed h s.plan.members) (sym (ap lacking_in x.is)) (lacks_named h x.v s.plan s.devices of)
