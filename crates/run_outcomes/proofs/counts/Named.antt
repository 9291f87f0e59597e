-- The devices that an attempt names as lacking are some of the header's, in order, and where no member has a path to one it says so.
use Rattle.std.specs.Prelude.{ℕ, ◌+◌, ◌-◌, ◌≡◌, ◌≤◌, ◌==◌, ◌||◌, not, Bool, true, false, if◌then◌else◌, List, [], ◌∷◌, filter, length, Option, None, Some, slice_get, suc}
use Rattle.std.specs.List.{AllByRecursion, cons_option, filter_map, find, list_any}
use Rattle.std.proofs.Common.{refl, sym, ap, subst, ◌∙◌, arith, inl, inr}
use Rattle.cl_base.specs.Seizings.{SeizeResult}
use Rattle.cl_base.specs.Sets.{has}
use Rattle.cl_base.specs.declared.header.Header.{Header}
use Rattle.cl_base.specs.declared.header.HeaderDevice.{HeaderDevice}
use Rattle.cl_base.specs.declared.seizing.Lack.{Lack}
use Rattle.cl_base.specs.declared.seizing.Obstacle.TheVariants as obstacle
use Rattle.cl_base.specs.declared.seizing.SeizeEnd.TheVariants as told
use Rattle.cmm_attempt.proofs.Basics.{none_some, same_some}
use Rattle.cmm_attempt.specs.Counts.{is_enabled, lack_by, lack_in, lack_of, lack_under}
use Rattle.cmm_attempt.specs.Plans.{is_reachable}
use Rattle.cmm_attempt.specs.declared.attached.AttachedDevice.{AttachedDevice}
use Rattle.cmm_attempt.specs.declared.plan.Plan.{Plan}
use Rattle.cmm_attempt.specs.declared.seizing.Seizing.{Seizing}
use Rattle.history.specs.Attempts.{attached_members, is_no_path}
use Rattle.history.specs.Setting.{nodes_of, paths_in, paths_of}
use Rattle.quorum_votes.specs.Tables.{VoteTable}
use Rattle.world_model.specs.First.{attached_from}
use Rattle.run_outcomes.specs.counts.Laws.{AreNamed, IsInOrder, NamesPath}
use Rattle.run_outcomes.proofs.counts.Lacks.{under_device}
use Rattle.run_outcomes.proofs.counts.Places.{IsAt, OfHeader, TellsOwn, at_device, at_low, device_of}

-- ---- in order

order_from : (f : AttachedDevice → Option Lack) → TellsOwn f → (k : ℕ) (hs : List HeaderDevice) (low high : ℕ) → low ≤ k → k + length hs ≤ high + 1 → IsInOrder low high (filter_map f (attached_from k hs))
order_from f own k [] low high least most = tt
order_from f own k (x ∷ hs) low high least most = by_lack (f (device_of k x)) (own (device_of k x)) (λ j below. order_from f own (k + 1) hs j high below (next (length hs) most))
  where
    next : (n : ℕ) → k + suc n ≤ high + 1 → (k + 1) + n ≤ high + 1
    next n l = omega (arith, l)

    within : (n : ℕ) → k + suc n ≤ high + 1 → k ≤ high
    within n l = omega (arith, l)

    more : low ≤ k + 1
    more = omega (arith, least)

    rest : List Lack
    rest = filter_map f (attached_from (k + 1) hs)

    by_lack : (o : Option Lack) → ((y : Lack) → o ≡ Some y → y.device ≡ k) → ((j : ℕ) → j ≤ k + 1 → IsInOrder j high rest) → IsInOrder low high (cons_option o rest)
    by_lack None at h = h low more
    by_lack (Some y) at h =
        let here : k ≡ y.device = sym (at y refl) in
        (subst (λ d. low ≤ d) here least, subst (λ d. d ≤ high) here (within (length hs) most), h (y.device + 1) (subst (λ d. d + 1 ≤ k + 1) here (same (k + 1))))
      where
        same : (n : ℕ) → n ≤ n
        same n = omega arith

-- ---- each of them

all_told : (P : Lack → Type 0) (f : AttachedDevice → Option Lack) (k : ℕ) (hs : List HeaderDevice) → ((d : ℕ) (a : AttachedDevice) → IsAt k hs d a → (x : Lack) → f a ≡ Some x → P x) → AllByRecursion P (filter_map f (attached_from k hs))
all_told P f k [] h = tt
all_told P f k (x ∷ hs) h = by_lack (f (device_of k x)) (h k (device_of k x) (inl (refl, refl))) (all_told P f (k + 1) hs (λ d a at. h d a (inr at)))
  where
    by_lack : (o : Option Lack) → ((y : Lack) → o ≡ Some y → P y) → AllByRecursion P (filter_map f (attached_from (k + 1) hs)) → AllByRecursion P (cons_option o (filter_map f (attached_from (k + 1) hs)))
    by_lack None here rest = rest
    by_lack (Some y) here rest = (here y refl, rest)

-- ---- who has a path

pub at_paths : (k : ℕ) (hs : List HeaderDevice) (d : ℕ) (a : AttachedDevice) → IsAt k hs d a → a.nodes ≡ paths_in (slice_get hs (d - k))
at_paths k [] d a at = absurd at
at_paths k (x ∷ hs) d a (inl here) = ap (λ (z : AttachedDevice). z.nodes) here.1 ∙ ap (λ i. paths_in (slice_get (x ∷ hs) i)) (no_more k d here.0)
  where
    no_more : (k d : ℕ) → d ≡ k → 0 ≡ d - k
    no_more k d e = omega (arith, e)
at_paths k (x ∷ hs) d a (inr there) = at_paths (k + 1) hs d a there ∙ ap (λ i. paths_in (slice_get (x ∷ hs) i)) (one_more k d (at_low (k + 1) hs d a there))
  where
    one_more : (k d : ℕ) → k + 1 ≤ d → suc (d - (k + 1)) ≡ d - k
    one_more k d l = omega (arith, l)

none_passes : (test : ℕ → Bool) (ns : List ℕ) → not (list_any test ns) ≡ (length (filter test ns) == 0)
none_passes test [] = refl
none_passes test (n ∷ ns) = by_test (test n) (none_passes test ns)
  where
    by_test : (t : Bool) → not (list_any test ns) ≡ (length (filter test ns) == 0) → not (t || list_any test ns) ≡ (length (if t then n ∷ filter test ns else filter test ns) == 0)
    by_test true h = some (length (filter test ns))
      where
        some : (k : ℕ) → false ≡ (suc k == 0)
        some k = grind arith
    by_test false h = h

lack_path : (plan : Plan) (ds : List Seizing) (a : AttachedDevice) (x : Lack) → lack_of plan ds a ≡ Some x → is_no_path x.obstacle ≡ not (is_reachable plan a)
lack_path plan ds a x is = by_reach (is_reachable plan a) is
  where
    named : (y : Lack) (b : Bool) → is_no_path y.obstacle ≡ b → Some y ≡ Some x → is_no_path x.obstacle ≡ b
    named y b at same = ap (λ (z : Lack). is_no_path z.obstacle) (sym (same_some y x same)) ∙ at

    by_result : (r : Option SeizeResult) → lack_by a.device r ≡ Some x → is_no_path x.obstacle ≡ false
    by_result None is = absurd (none_some x is)
    by_result (Some (told.Held keys)) is = absurd (none_some x is)
    by_result (Some (told.NotRegistered keys)) is = named _ false refl is
    by_result (Some (told.Greater w)) is = named _ false refl is
    by_result (Some told.Expelled) is = named _ false refl is
    by_result (Some (told.Contended key)) is = named _ false refl is
    by_result (Some told.Fault) is = named _ false refl is

    by_entry : (o : Option Seizing) → lack_in a.device o ≡ Some x → is_no_path x.obstacle ≡ false
    by_entry None is = absurd (none_some x is)
    by_entry (Some e) is = by_result e.result is

    by_reach : (t : Bool) → (if t then lack_in a.device (find (λ e. e.attached.device == a.device) ds) else Some (record { device = a.device; obstacle = obstacle.NoPath })) ≡ Some x → is_no_path x.obstacle ≡ not t
    by_reach true is = by_entry (find (λ e. e.attached.device == a.device) ds) is
    by_reach false is = named _ true refl is

under_path : (v : VoteTable) (plan : Plan) (ds : List Seizing) (a : AttachedDevice) (x : Lack) → lack_under v plan ds a ≡ Some x → is_no_path x.obstacle ≡ not (is_reachable plan a)
under_path v plan ds a x is = by_test (is_enabled v a.device) is
  where
    by_test : (t : Bool) → (if t then lack_of plan ds a else None) ≡ Some x → is_no_path x.obstacle ≡ not (is_reachable plan a)
    by_test true is = lack_path plan ds a x is
    by_test false is = absurd (none_some x is)

names_path : (h : Header) (v : VoteTable) (plan : Plan) (ds : List Seizing) (d : ℕ) (a : AttachedDevice) (x : Lack) → OfHeader h plan → IsAt 1 h.devices d a → lack_under v plan ds a ≡ Some x → NamesPath h plan.members x
names_path h v plan ds d a x of at is =
    let device : d ≡ x.device = sym ((under_device v plan ds a x is).1 ∙ at_device 1 h.devices d a at) in
    under_path v plan ds a x is
    ∙ (ap (λ set. not (list_any (λ m. has set m) plan.nodes)) (at_paths 1 h.devices d a at)
    ∙ (ap (λ ns. not (list_any (λ m. has (paths_of h d) m) ns)) of.nodes
    ∙ (none_passes (λ m. has (paths_of h d) m) (nodes_of plan.members) ∙ ap (λ j. length (attached_members h j plan.members) == 0) device)))

-- ---- all of them

pub lacks_named : (h : Header) (v : VoteTable) (plan : Plan) (ds : List Seizing) → OfHeader h plan → AreNamed h plan.members (filter_map (lack_under v plan ds) plan.attached)
lacks_named h v plan ds of = subst (λ all. AreNamed h plan.members (filter_map (lack_under v plan ds) all)) (sym of.attached) (record {
  order = order_from (lack_under v plan ds) (λ b x is. (under_device v plan ds b x is).1) 1 h.devices 1 (length h.devices) (omega arith) (last (length h.devices));
  paths = all_told (NamesPath h plan.members) (lack_under v plan ds) 1 h.devices (λ d a at x is. names_path h v plan ds d a x of at is);
})
  where
    last : (n : ℕ) → 1 + n ≤ n + 1
    last n = omega arith
