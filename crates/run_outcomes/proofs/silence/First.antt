-- The least member whose answer is missing by the lines is the one for which the attempt waits first.
use Rattle.std.specs.Prelude.{ℕ, ◌==◌, ◌||◌, ◌≡◌, not, Bool, true, false, List, [], ◌∷◌, Some, filter, find, length, if◌then◌else◌}
use Rattle.std.specs.List.{list_any}
use Rattle.std.proofs.Common.{arith, refl, sym, ap, subst, ◌∙◌}
use Rattle.cl_base.specs.declared.header.Header.{Header}
use Rattle.cmm_attempt.proofs.Basics.{false_true, same_number, same_some}
use Rattle.cmm_attempt.specs.Attempts.{AttemptState, is_missing}
use Rattle.history.specs.Attempts as told
use Rattle.history.specs.Contact.{others}
use Rattle.history.specs.Member.{members_of}
use Rattle.history.specs.Queue.{has_work}
use Rattle.history.specs.Seizing.{is_number}
use Rattle.history.specs.Setting.{coordinator, nodes_of}
use Rattle.history_setting.specs.Settings.{setting_of}
use Rattle.run_history.specs.Happenings.{Happening, MayAllHappen, all_happened}
use Rattle.run_history.specs.Scenes.{Scene, first_scene}
use Rattle.run_messages.proofs.Reaching.{IsSmall}
use Rattle.world_model.specs.First.{first_cluster}
use Rattle.run_outcomes.specs.phases.Laws.{HasAttempt}
use Rattle.run_outcomes.specs.silence.Laws.{AwaitedAreTold, AwaitedTold, FirstIsTold, OthersAreTold, OwnPartIsTold}
use Rattle.run_outcomes.specs.tasks.AsksGiven.{IsLeft}
use Rattle.run_outcomes.proofs.phases.Promised.{HasIt, has_it, in_filter as in_but}
use Rattle.run_outcomes.proofs.silence.Outgone.{Of, Seen}
use Rattle.run_outcomes.proofs.silence.OutgoneRuns.{seen_at}
use Rattle.run_outcomes.proofs.silence.Turns.{in_filter}

-- ---- lists

or_first : (a b : Bool) → a ≡ true → (a || b) ≡ true
or_first true b h = refl
or_first false b h = absurd (false_true h)

or_second : (a b : Bool) → b ≡ true → (a || b) ≡ true
or_second true b h = refl
or_second false b h = h

itself : (n : ℕ) → (n == n) ≡ true
itself n = grind arith

-- two tests that agree on each of them find the same
find_same : (P Q : ℕ → Bool) (ns : List ℕ) → ((m : ℕ) → list_any (λ k. k == m) ns ≡ true → P m ≡ Q m) → find P ns ≡ find Q ns
find_same P Q [] f = refl
find_same P Q (n ∷ ns) f = ap (λ b. if b then Some n else find P ns) (f n (or_first (n == n) (list_any (λ k. k == n) ns) (itself n))) ∙ ap (λ o. if Q n then Some n else o) (find_same P Q ns (λ m is. f m (or_second (n == m) (list_any (λ k. k == m) ns) is)))

-- what is found is found among the others, where it is another
find_other : (P : ℕ → Bool) (c m : ℕ) (ns : List ℕ) → (m == c) ≡ false → find P ns ≡ Some m → find P (filter (λ j. not (j == c)) ns) ≡ Some m
find_other P c m [] other h = h
find_other P c m (n ∷ ns) other h = by_tests (P n) refl (n == c) refl (λ k. find_other P c m ns other k) h
  where
    differs : (n == c) ≡ true → n ≡ m → ⊥
    differs own same = false_true (sym other ∙ subst (λ k. (k == c) ≡ true) same own)

    skip : (b : Bool) → P n ≡ b → b ≡ false → find P (n ∷ filter (λ j. not (j == c)) ns) ≡ find P (filter (λ j. not (j == c)) ns)
    skip b is none = ap (λ t. if t then Some n else find P (filter (λ j. not (j == c)) ns)) (is ∙ none)

    by_tests : (p : Bool) → P n ≡ p → (q : Bool) → (n == c) ≡ q → (find P ns ≡ Some m → find P (filter (λ j. not (j == c)) ns) ≡ Some m) → (if p then Some n else find P ns) ≡ Some m
        → find P (if not q then n ∷ filter (λ j. not (j == c)) ns else filter (λ j. not (j == c)) ns) ≡ Some m
    by_tests true is true own rest k = absurd (differs own (same_some n m k))
    by_tests true is false not_own rest k = ap (λ t. if t then Some n else find P (filter (λ j. not (j == c)) ns)) is ∙ k
    by_tests false is true own rest k = rest k
    by_tests false is false not_own rest k = skip (P n) refl is ∙ rest k

-- ---- an attempt that a node has at a point of a run

record At (h : Header) (s : Scene) (n : ℕ) (a : AttemptState) : Type 0 where
  own : coordinator a.plan.epoch ≡ n
  nodes : nodes_of (members_of a.plan.epoch s.moments) ≡ a.plan.nodes

at_point : (h : Header) (cells : ℕ) (hs : List Happening) → IsSmall h → MayAllHappen (first_cluster h) (first_scene h cells) hs
    → (let s : Scene = all_happened (first_cluster h) (first_scene h cells) hs in IsLeft s.links.next → (n : ℕ) (a : AttemptState) → HasAttempt s n a → At h s n a)
at_point h cells hs size may left n a at =
    let s : Scene = all_happened (first_cluster h) (first_scene h cells) hs in
    let it : HasIt (s.nodes.node n) a = has_it (s.nodes.node n) a at in
    let seen : Seen h s = seen_at h cells s size (record { happenings = hs; may = may; is = refl }) in
    let of : Of h s.moments n it.x a = seen.attempts left n it.x a it.up it.has in
    record { own = of.so.own; nodes = ap nodes_of of.so.of.1 ∙ sym of.nodes }

-- each other member
other_same : (h : Header) (s : Scene) (n : ℕ) (a : AttemptState) → At h s n a → AwaitedTold h a s.moments → (m : ℕ) → list_any (λ k. k == m) a.plan.nodes ≡ true → (m == coordinator a.plan.epoch) ≡ false
    → told.is_missing (setting_of h) a.plan.epoch s.moments m ≡ is_missing a m
other_same h s n a k awaited m among other =
    let e : ℕ = a.plan.epoch in
    ap (λ b. if b then has_work (setting_of h) m s.moments else list_any (told.is_unanswered e s.moments m) (told.questions (length h.devices))) other
    ∙ awaited m (in_filter (λ j. not (j == coordinator e)) m (nodes_of (members_of e s.moments)) (ap not other) (subst (λ ns. list_any (λ j. j == m) ns ≡ true) (sym k.nodes) among))

pub first_is_told : AwaitedAreTold → OwnPartIsTold → FirstIsTold
first_is_told awaited own h cells hs last nodes few small disks may shaped native boots left n a at shut =
    ap (find (told.is_missing (setting_of h) e s.moments)) k.nodes ∙ find_same (told.is_missing (setting_of h) e s.moments) (is_missing a) a.plan.nodes (λ m among. each m among (m == coordinator e) refl)
  where
    s : Scene
    s = all_happened (first_cluster h) (first_scene h cells) hs

    e : ℕ
    e = a.plan.epoch

    k : At h s n a
    k = at_point h cells hs (record { few = few; small = small }) may left n a at

    each : (m : ℕ) → list_any (λ j. j == m) a.plan.nodes ≡ true → (b : Bool) → (m == coordinator e) ≡ b → told.is_missing (setting_of h) e s.moments m ≡ is_missing a m
    each m among true is =
        ap (λ b. if b then has_work (setting_of h) m s.moments else list_any (told.is_unanswered e s.moments m) (told.questions (length h.devices))) is
        ∙ subst (λ j. has_work (setting_of h) j s.moments ≡ is_missing a j) (sym (same_number m (coordinator e) is ∙ k.own)) (own h cells hs last nodes few small disks may shaped native boots left n a at shut)
    each m among false is = other_same h s n a k (awaited h cells hs last nodes few small disks may shaped native boots left n a at) m among is

pub others_are_told : AwaitedAreTold → OthersAreTold
others_are_told awaited h cells hs last nodes few small disks may shaped native boots left n a at m found = by_own (m == coordinator e) refl
  where
    s : Scene
    s = all_happened (first_cluster h) (first_scene h cells) hs

    e : ℕ
    e = a.plan.epoch

    k : At h s n a
    k = at_point h cells hs (record { few = few; small = small }) may left n a at

    but : List ℕ
    but = filter (λ j. not (j == coordinator e)) a.plan.nodes

    among : (ns : List ℕ) (j : ℕ) → list_any (λ i. i == j) (filter (λ i. not (i == coordinator e)) ns) ≡ true → (list_any (λ i. i == j) ns ≡ true) × ((j == coordinator e) ≡ false)
    among ns j is = ((in_but (coordinator e) j ns is).0, unless (j == coordinator e) (in_but (coordinator e) j ns is).1)
      where
        unless : (b : Bool) → not b ≡ true → b ≡ false
        unless true z = absurd (false_true z)
        unless false z = refl

    same : find (told.is_missing (setting_of h) e s.moments) but ≡ find (is_missing a) but
    same = find_same (told.is_missing (setting_of h) e s.moments) (is_missing a) but
        (λ j is. other_same h s n a k (awaited h cells hs last nodes few small disks may shaped native boots left n a at) j (among a.plan.nodes j is).0 (among a.plan.nodes j is).1)

    by_own : (b : Bool) → (m == coordinator e) ≡ b → told.may_be_silent (setting_of h) e m s.moments ≡ true
    by_own true is = or_first (m == coordinator e) (is_number m (find (told.is_missing (setting_of h) e s.moments) (others e (members_of e s.moments)))) is
    by_own false is =
        or_second (m == coordinator e) (is_number m (find (told.is_missing (setting_of h) e s.moments) (others e (members_of e s.moments))))
        (ap (is_number m) (ap (λ ns. find (told.is_missing (setting_of h) e s.moments) (filter (λ j. not (j == coordinator e)) ns)) k.nodes ∙ (same ∙ find_other (is_missing a) (coordinator e) m a.plan.nodes is found)) ∙ itself m)
