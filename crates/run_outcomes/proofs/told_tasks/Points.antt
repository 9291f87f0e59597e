-- At each point of a run where an attempt seizes devices the lines show its members, its votes, and what is valid to whom.
use Rattle.std.specs.Prelude.{ℕ, ◌≡◌, ◌<◌, ◌≤◌, ◌^◌, ◌==◌, ◌&&◌, ◌||◌, not, Bool, true, false, List, [], ◌∷◌, ◌++◌, find, length, Option, None, Some, IfSome, is_some, option_map}
use Rattle.std.specs.List.{AllByRecursion, list_all, list_any}
use Rattle.std.specs.Option.{option_and_then}
use Rattle.std.proofs.Common.{arith, refl, sym, ap, subst, ◌∙◌}
use Rattle.cl_base.specs.Limits.{most_devices}
use Rattle.cl_base.specs.Sets.{has}
use Rattle.cl_base.specs.declared.header.Header.{Header}
use Rattle.cmm_attempt.proofs.Basics.{and_cases, false_true, same_number}
use Rattle.cmm_attempt.specs.Attempts.{AttemptState}
use Rattle.cmm_attempt.specs.Counts.{is_quorum}
use Rattle.cmm_attempt.specs.Promises.{holds_valid}
use Rattle.cmm_attempt.specs.declared.attached.AttachedDevice.{AttachedDevice}
use Rattle.cmm_attempt.specs.declared.counting.BothVotes.{BothVotes}
use Rattle.cmm_attempt.specs.declared.phase.Phase.{Phase}
use Rattle.cmm_attempt.specs.declared.phase.Phase.TheVariants.{Choosing, Collecting, Installing, Over, SeizingOthers, SeizingVotes}
use Rattle.attempt_laws.specs.Asking.{numbers_of}
use Rattle.attempt_laws.specs.Staying.{IsBefore}
use Rattle.cmm_attempt.specs.Calls.{IsReached}
use Rattle.history.specs.Contact.{others}
use Rattle.history.specs.Letters.{Letter, says}
use Rattle.history.specs.Member as member
use Rattle.history.specs.Member.{attempt_of, members_of}
use Rattle.history.specs.Moment.{Moment}
use Rattle.history.specs.Queue as told
use Rattle.history.specs.Records.{NodeRecord, is_newest, own_record, promises, records_told}
use Rattle.history.specs.Seizing.{acts_for, is_install, is_number}
use Rattle.history.specs.Setting.{Setting, all_to, coordinator, nodes_of, paths_of}
use Rattle.history.specs.UnderWay.{is_under_way}
use Rattle.history.specs.Validated.{is_valid, validity}
use Rattle.history_setting.specs.Settings.{setting_of}
use Rattle.run_history.specs.Happenings.{Happening, MayAllHappen, all_happened}
use Rattle.run_history.specs.Scenes.{Scene, first_scene}
use Rattle.run_history.specs.Shapes.{Due, ShapedFrom, nothing}
use Rattle.run_history.specs.WorldLines.{AreDisks, IsDevice}
use Rattle.run_packets.specs.views.Laws.{NoneForeign}
use Rattle.world_model.specs.First.{attached_from, first_cluster}
use Rattle.run_messages.proofs.Reaching.{IsSmall}
use Rattle.run_outcomes.specs.phases.Kept.{In}
use Rattle.run_outcomes.specs.phases.Laws.{CountsFor, HasAttempt, NewestCounts, SeizesTold, is_installing, is_seizing}
use Rattle.run_outcomes.specs.saves.Kept.{IsAt}
use Rattle.run_outcomes.specs.tasks.Entries.{LedBy}
use Rattle.run_outcomes.specs.tasks.Laws.{OwnSo, OwnTasksAreAsked, ShowsAreTold}
use Rattle.run_outcomes.specs.tasks.OwnTasks.{PathsSo, Shows}
use Rattle.run_outcomes.specs.tasks.Quiet.{AreQuiet}
use Rattle.run_outcomes.specs.tasks.Showing.{OwnIsShown}
use Rattle.run_outcomes.proofs.told_tasks.Best.{Newest, newest_found}
use Rattle.run_outcomes.proofs.told_tasks.Placed.{devices_so, led_so, numbers_so, paths_so}
use Rattle.run_outcomes.proofs.told_tasks.Plans.{PlanSo, run_plan}
use Rattle.run_outcomes.proofs.told_tasks.Quiet.{same_members, same_promises, same_record}
use Rattle.run_outcomes.proofs.told_tasks.Closed.{same_acts, same_validity, way_before_all}
use Rattle.run_outcomes.proofs.told_tasks.Settled.{others_by}
use Rattle.run_outcomes.proofs.phases.Leading.{Has}
use Rattle.run_outcomes.proofs.phases.Own.{HasOwn, run_own}
use Rattle.run_outcomes.proofs.phases.Promised.{Facts, HasIt, facts, has_it}
use Rattle.run_outcomes.proofs.phases.Runs.{run_takes}
use Rattle.run_outcomes.proofs.phases.Seizes.{seizings_are_told}
use Rattle.run_outcomes.proofs.phases.Votes.{votes_are_told}
use Rattle.run_outcomes.specs.tasks.Lasting.{drops, lasts_open}

-- ---- where the queue is told

neither : (a b : Bool) → (a || b) ≡ false → (a ≡ false) × (b ≡ false)
neither true b k = absurd (false_true (sym k))
neither false b k = (refl, k)

pub untold_off : (S : Setting) (n : ℕ) (ms : List Moment) → lasts_open S n ms ≡ false → told.is_untold S n (attempt_of n ms) ms ≡ false
untold_off S n [] closed = refl
untold_off S n (x ∷ ms) closed = (neither (told.is_untold S n (attempt_of n (x ∷ ms)) (x ∷ ms)) (lasts_open S n ms && not (drops n ms x)) closed).0

-- the own record is told, and which devices are valid
pub record Closed (S : Setting) (n e : ℕ) (ms : List Moment) : Type 0 where
  pub own : is_some (own_record e ms) ≡ true
  pub sure : list_any (λ d. has (paths_of S.header d) n && told.is_open (validity S.header n d ms)) (all_to (length S.header.devices)) ≡ false

closed_by : (S : Setting) (n e : ℕ) (ms : List Moment) → coordinator e ≡ n → acts_for (coordinator e) e ms ≡ true → is_under_way e ms ≡ true → lasts_open S n ms ≡ false → Closed S n e ms
closed_by S n e ms own acts way closed = by_parts (subst (λ o. told.is_untold S n o ms ≡ false) last (untold_off S n ms closed))
  where
    number_so : (o : Option ℕ) → is_number e o ≡ true → o ≡ Some e
    number_so None k = absurd (false_true k)
    number_so (Some f) k = ap Some (same_number f e k)

    last : attempt_of n ms ≡ Some e
    last = ap (λ k. attempt_of k ms) (sym own) ∙ number_so (attempt_of (coordinator e) ms) (and_cases (is_number e (attempt_of (coordinator e) ms)) _ way).0

    here : acts_for n e ms ≡ true
    here = subst (λ k. acts_for k e ms ≡ true) own acts

    session : is_number e (member.session_of n ms) ≡ true
    session = (and_cases (is_number e (member.session_of n ms)) (not (list_any (is_install n e) ms)) here).0

    right : (a b c : Bool) → a ≡ true → b ≡ true → (a && b && c) ≡ false → c ≡ false
    right true true c h k z = z
    right false b c h k z = absurd (false_true h)
    right true false c h k z = absurd (false_true k)

    some_so : (a b : Bool) → a ≡ true → (a && not b) ≡ false → b ≡ true
    some_so true true h k = refl
    some_so true false h k = absurd (false_true (sym k))
    some_so false b h k = absurd (false_true h)

    by_parts : told.is_untold S n (Some e) ms ≡ false → Closed S n e ms
    by_parts off =
        let rest : ((acts_for n e ms && not (is_some (own_record e ms))) || list_any (λ d. has (paths_of S.header d) n && told.is_open (validity S.header n d ms)) (all_to (length S.header.devices))) ≡ false =
        right (is_number e (member.session_of n ms)) (is_under_way e ms) _ session way off in
        let two : ((acts_for n e ms && not (is_some (own_record e ms))) ≡ false) × (list_any (λ d. has (paths_of S.header d) n && told.is_open (validity S.header n d ms)) (all_to (length S.header.devices)) ≡ false) =
        neither (acts_for n e ms && not (is_some (own_record e ms))) _ rest in
        record { own = some_so (acts_for n e ms) (is_some (own_record e ms)) here two.0; sure = two.1 }

-- ---- the newest record

record Found (e : ℕ) (ms : List Moment) : Type 0 where
  r : NodeRecord
  is : told.newest_in_hand e ms ≡ Some r

newest_so : (e : ℕ) (ms : List Moment) → is_some (own_record e ms) ≡ true → Found e ms
newest_so e ms some = by_own (own_record e ms) refl some
  where
    by_own : (o : Option NodeRecord) → own_record e ms ≡ o → is_some o ≡ true → Found e ms
    by_own None at k = absurd (false_true k)
    by_own (Some own) at k =
        let n : Newest (own ∷ records_told (promises e ms)) = newest_found own (records_told (promises e ms)) in
        record {
          r = n.record_found;
          is = ap (λ o. option_and_then (λ (records : List NodeRecord). find (is_newest records) records) (option_map (λ z. z ∷ records_told (promises e ms)) o)) at ∙ n.found;
        }

-- ---- what is valid

sure_each : (P : ℕ → Bool) (xs : List AttachedDevice) → list_any P (numbers_of xs) ≡ false → AllByRecursion (λ (a : AttachedDevice). P a.device ≡ false) xs
sure_each P [] k = tt
sure_each P (a ∷ xs) k = let two : (P a.device ≡ false) × (list_any P (numbers_of xs) ≡ false) = neither (P a.device) (list_any P (numbers_of xs)) k in (two.0, sure_each P xs two.1)

sure_with : (p o : Bool) → p ≡ true → (p && o) ≡ false → o ≡ false
sure_with true o h k = k
sure_with false o h k = absurd (false_true h)

-- ---- at a point

-- what the lines up to there show of the attempt, as those up to a mark do
pub record Shown_at (S : Setting) (n : ℕ) (b : AttemptState) (marked : List Moment) : Type 0 where
  pub newest : NodeRecord
  pub both : BothVotes
  pub found : told.newest_in_hand b.plan.epoch marked ≡ Some newest
  pub given : b.votes ≡ Some both
  pub shows : Shows S b.plan b.promises both newest marked
  pub coordinates : b.plan.coordinator ≡ n
  pub own : coordinator b.plan.epoch ≡ n
  pub reached : IsReached b
  pub members : members_of b.plan.epoch marked ≡ b.plan.members
  pub goes : (acts_for n b.plan.epoch marked && is_under_way b.plan.epoch marked && told.all_promised b.plan.epoch marked) ≡ true

not_installing : (p : Phase) → is_seizing p ≡ true → not (is_installing p) ≡ true
not_installing SeizingVotes is = refl
not_installing SeizingOthers is = refl
not_installing Collecting is = refl
not_installing Choosing is = refl
not_installing Installing is = absurd (false_true is)
not_installing Over is = refl

-- an attempt that seizes devices has not installed
pub seizing_before : (p : Phase) → is_seizing p ≡ true → IsBefore p
seizing_before Collecting is = tt
seizing_before Choosing is = tt
seizing_before SeizingVotes is = tt
seizing_before SeizingOthers is = tt
seizing_before Installing is = absurd (false_true is)
seizing_before Over is = absurd (false_true is)

all_paths : (h : Header) → length h.devices ≤ most_devices → AllByRecursion (PathsSo (setting_of h)) (attached_from 1 h.devices)
all_paths h few = both_of (attached_from 1 h.devices) (paths_so h) (devices_so h)
  where
    within : (a b : ℕ) → a ≤ b → b ≤ 16 → a ≤ 32
    within a b i j = omega (arith, i, j)

    both_of : (xs : List AttachedDevice) → AllByRecursion (λ (a : AttachedDevice). a.nodes ≡ paths_of h a.device) xs → AllByRecursion (λ (a : AttachedDevice). IsDevice h a.device) xs
        → AllByRecursion (PathsSo (setting_of h)) xs
    both_of [] k l = tt
    both_of (a ∷ xs) k l = ((k.0, l.0.0, within a.device (length h.devices) l.0.1 few), both_of xs k.1 l.1)

pub shown_at : OwnTasksAreAsked → ShowsAreTold → OwnIsShown → (h : Header) (cells : ℕ) (hs : List Happening) (last : Due) → length h.devices ≤ most_devices → h.cluster < 2 ^ 32 → AreDisks h
    → MayAllHappen (first_cluster h) (first_scene h cells) hs → ShapedFrom (first_cluster h) (first_scene h cells) nothing hs last
    → NoneForeign (first_cluster h) (first_scene h cells) hs → (n : ℕ) (b : AttemptState)
    → HasAttempt (all_happened (first_cluster h) (first_scene h cells) hs) n b → is_seizing b.phase ≡ true → (marked newer : List Moment)
    → (all_happened (first_cluster h) (first_scene h cells) hs).moments ≡ newer ++ marked → AreQuiet n marked newer
    → lasts_open (setting_of h) n (all_happened (first_cluster h) (first_scene h cells) hs).moments ≡ false → Shown_at (setting_of h) n b marked
shown_at own shown mine h cells hs last few small disks may shaped native n b at seizing marked newer parts quiet closed =
    record { newest = f.r; both = counts.both; found = found; given = counts.given; shows = shows; coordinates = known.coordinates; own = known.own; reached = known.reached; members = members ∙ known.members; goes = goes }
  where
    s : Scene
    s = all_happened (first_cluster h) (first_scene h cells) hs

    e : ℕ
    e = b.plan.epoch

    it : HasIt (s.nodes.node n) b
    it = has_it (s.nodes.node n) b at

    size : IsSmall h
    size = record { few = few; small = small }

    known : Facts s.moments n b
    known =
        facts h cells s size (record { happenings = hs; may = may; is = refl }) n b at (run_takes h cells hs size may native n it.x b it.up it.has)
        (subst (In HasOwn) it.has (subst (IsAt (Has HasOwn)) it.up (run_own h cells hs few small may n)))

    planned : PlanSo (first_cluster h) b
    planned = subst (In (PlanSo (first_cluster h))) it.has (subst (IsAt (Has (PlanSo (first_cluster h)))) it.up (run_plan h cells hs few small may n))

    so : OwnSo it.x b
    so = own h cells hs last few small disks may shaped native n it.x b it.up it.has

    led : LedBy b.plan
    led = led_so b.plan (members_of e s.moments) h.devices (sym known.nodes) known.has so.least planned.0

    way : SeizesTold b s.moments
    way = seizings_are_told h cells hs few small may native n b at

    three : (acts_for (coordinator e) e s.moments && is_under_way e s.moments) ≡ true
    three = (and_cases (acts_for (coordinator e) e s.moments && is_under_way e s.moments) (told.all_promised e s.moments) (way.seizes ∙ seizing)).0

    clear : Closed (setting_of h) n e s.moments
    clear =
        let two : (acts_for (coordinator e) e s.moments ≡ true) × (is_under_way e s.moments ≡ true) = and_cases (acts_for (coordinator e) e s.moments) (is_under_way e s.moments) three in
        closed_by (setting_of h) n e s.moments known.own two.0 two.1 closed

    f : Found e s.moments
    f = newest_so e s.moments clear.own

    counts : NewestCounts (setting_of h) b s.moments
    counts = votes_are_told h cells hs few small may n b at seizing

    for_it : CountsFor (setting_of h) counts.both f.r
    for_it = subst (λ o. IfSome o (CountsFor (setting_of h) counts.both)) f.is counts.newest

    whole : newer ++ marked ≡ s.moments
    whole = sym parts

    found : told.newest_in_hand e marked ≡ Some f.r
    found =
        ap (λ o. option_and_then (λ (records : List NodeRecord). find (is_newest records) records) (option_map (λ own. own ∷ records_told (promises e marked)) o))
        (sym (same_record n e marked newer known.own quiet) ∙ ap (own_record e) whole)
        ∙ (ap (λ ls. option_and_then (λ (records : List NodeRecord). find (is_newest records) records) (option_map (λ own. own ∷ records_told ls) (own_record e s.moments)))
        (sym (same_promises n e marked newer known.own quiet) ∙ ap (promises e) whole) ∙ f.is)

    members : members_of e marked ≡ members_of e s.moments
    members = sym (same_members n e marked newer known.own quiet) ∙ ap (members_of e) whole

    promised : promises e marked ≡ promises e s.moments
    promised = sym (same_promises n e marked newer known.own quiet) ∙ ap (promises e) whole

    goes : (acts_for n e marked && is_under_way e marked && told.all_promised e marked) ≡ true
    goes =
        ap (λ q. q && is_under_way e marked && told.all_promised e marked)
        (sym (same_acts n e marked newer quiet) ∙ (ap (acts_for n e) whole ∙ (ap (λ k. acts_for k e s.moments) (sym known.own) ∙ (and_cases (acts_for (coordinator e) e s.moments) (is_under_way e s.moments) three).0)))
        ∙ (ap (λ q. q && told.all_promised e marked)
        (way_before_all n e marked newer known.own quiet (ap (is_under_way e) whole ∙ (and_cases (acts_for (coordinator e) e s.moments) (is_under_way e s.moments) three).1))
        ∙ (ap (λ ls. list_all (λ k. list_any (λ (z : Letter). z.from == k) ls) (others e (members_of e marked))) promised
        ∙ (ap (λ g. list_all (told.has_promised e s.moments) (others e g)) members
        ∙ (and_cases (acts_for (coordinator e) e s.moments && is_under_way e s.moments) (told.all_promised e s.moments) (way.seizes ∙ seizing)).1)))

    others_here : others e (members_of e s.moments) ≡ led.others
    others_here = others_by b.plan led (members_of e s.moments) (known.own ∙ sym known.coordinates) known.nodes

    each_valid : (xs : List AttachedDevice) → AllByRecursion (λ (a : AttachedDevice). IsDevice h a.device) xs
        → AllByRecursion (λ (a : AttachedDevice). (has (paths_of h a.device) n && told.is_open (validity h n a.device s.moments)) ≡ false) xs
        → AllByRecursion (λ (a : AttachedDevice). a.nodes ≡ paths_of h a.device) xs
        → AllByRecursion (λ (a : AttachedDevice). is_quorum counts.both a.device ≡ true → has a.nodes b.plan.coordinator ≡ true
        → is_valid (validity h b.plan.coordinator a.device marked) ≡ holds_valid b.promises a.device b.plan.coordinator) xs
    each_valid [] devices sure paths = tt
    each_valid (a ∷ xs) devices sure paths = (
      (λ votes path.
          let path_so : has (paths_of h a.device) n ≡ true = subst (λ set. has set n ≡ true) paths.0 (subst (λ k. has a.nodes k ≡ true) known.coordinates path) in
          ap (λ k. is_valid (validity h k a.device marked)) known.coordinates
          ∙ (ap is_valid (sym (same_validity h n a.device marked newer quiet) ∙ ap (validity h n a.device) whole)
          ∙ (mine h cells hs last few small disks may shaped native n it.x b counts.both it.up it.has seizing counts.given a.device devices.0 votes path_so
          (sure_with (has (paths_of h a.device) n) (told.is_open (validity h n a.device s.moments)) path_so sure.0)
          ∙ ap (holds_valid b.promises a.device) (sym known.coordinates)))),
      each_valid xs devices.1 sure.1 paths.1,
    )

    attached : b.plan.attached ≡ attached_from 1 h.devices
    attached = planned.0

    shows : Shows (setting_of h) b.plan b.promises counts.both f.r marked
    shows = record {
      led = led;
      devices = ap numbers_of attached ∙ numbers_so h.devices;
      paths = subst (AllByRecursion (PathsSo (setting_of h))) (sym attached) (all_paths h few);
      own = known.own ∙ sym known.coordinates;
      members = ap nodes_of members ∙ known.nodes;
      cluster = planned.1;
      voting = for_it.devices;
      shown = λ d m low high other.
          ap (list_any (λ (z : Letter). (z.from == m) && has (told.valid_in (says z.bytes)) d)) (sym (same_promises n e marked newer known.own quiet) ∙ ap (promises e) whole)
          ∙ shown h cells hs last few small disks may shaped native n b at (seizing_before b.phase seizing) d m low high (subst (λ ns. list_any (λ k. k == m) ns ≡ true) (sym others_here) other);
      valid =
          subst
          (AllByRecursion (λ (a : AttachedDevice). is_quorum counts.both a.device ≡ true → has a.nodes b.plan.coordinator ≡ true
          → is_valid (validity h b.plan.coordinator a.device marked) ≡ holds_valid b.promises a.device b.plan.coordinator)) (sym attached)
          (each_valid (attached_from 1 h.devices) (devices_so h)
          (sure_each (λ d. has (paths_of h d) n && told.is_open (validity h n d s.moments)) (attached_from 1 h.devices)
          (ap (list_any (λ d. has (paths_of h d) n && told.is_open (validity h n d s.moments))) (numbers_so h.devices) ∙ clear.sure)) (paths_so h));
    }
