-- A request that comes, and one that is answered, leave each node with one that waits at most; so there are at most 32.
use Rattle.std.specs.Prelude.{ℕ, suc, ◌≡◌, ◌≤◌, ◌<◌, ◌==◌, ◌||◌, nat_lt, Bool, true, false, List, [], ◌∷◌, ◌++◌, Option, None, Some, length, map, if◌then◌else◌}
use Rattle.std.specs.List.{AllByRecursion, IsDistinct, list_any}
use Rattle.std.proofs.Common.{refl, sym, subst, true≢false, arith}
use Rattle.std.proofs.lemmas.List.{length-map}
use Rattle.std.proofs.lemmas.Map.Steps.{length-le_from_distinct_below}
use Rattle.proposals.specs.declared.arrived.Arrival.{Arrival}
use Rattle.proposals.specs.declared.arrived.Arrival.TheVariants.{New, Waits, Answered, Past}
use Rattle.proposals.specs.declared.arrived.Arrived.{Arrived}
use Rattle.proposals.specs.declared.arrived.Kept.{Kept}
use Rattle.proposals.specs.Arrivals.{after_kept, answer_first, answered, arrival_of, is_from, waits_or_is_new, with_arrival}
use Rattle.proposals.specs.OneEach.{HasOneEach}
use Rattle.proposals.specs.State.{State, kept_at}

-- at first none waits
pub none_wait : HasOneEach []
unfolding IsDistinct
none_wait = tt

-- One more waits behind the others.

both_false : (first second : Bool) → (first || second) ≡ false → (first ≡ false) × (second ≡ false)
both_false false second h = (refl, h)
both_false true second h = absurd (true≢false h)

behind : (n : ℕ) (a : Arrived) (before : List Arrived) → (n == a.from) ≡ false → AllByRecursion (λ m. (n == m) ≡ false) (map (λ (b : Arrived). b.from) before)
    → AllByRecursion (λ m. (n == m) ≡ false) (map (λ (b : Arrived). b.from) (before ++ a ∷ []))
behind n a [] ne h = (ne, tt)
behind n a (b ∷ before) ne h = (h.0, behind n a before ne h.1)

one_more : (before : List Arrived) (a : Arrived) → list_any (is_from a.from) before ≡ false → HasOneEach before → HasOneEach (before ++ a ∷ [])
unfolding IsDistinct
one_more [] a none h = (tt, tt)
one_more (b ∷ before) a none h =
    let two : ((b.from == a.from) ≡ false) × (list_any (is_from a.from) before ≡ false) = both_false (b.from == a.from) (list_any (is_from a.from) before) none in
    (behind b.from a before two.0 h.0, one_more before a two.1 h.1)

-- A request that is new is of a node of which none waits.

abbrev IsNew : Arrival → Type 0
IsNew New = Unit {0}
IsNew _ = ⊥

none_waits : (waits : Bool) → IsNew (waits_or_is_new waits) → waits ≡ false
none_waits true h = absurd h
none_waits false h = refl

none_waits_by : (k : Option Kept) (number : ℕ) (waits : Bool) → IsNew (after_kept k number waits) → waits ≡ false
none_waits_by None number waits h = none_waits waits h
none_waits_by (Some k) number waits h = by_tests (nat_lt number k.number) (number == k.number) h
  where
    by_tests : (past again : Bool) → IsNew (if past then Past else (if again then Answered else waits_or_is_new waits)) → waits ≡ false
    by_tests true again new = absurd new
    by_tests false true new = absurd new
    by_tests false false new = none_waits waits new

-- it is new only so, where the arrival is the one that the state tells
arrived_as : (s : State) (a : Arrived) (k : Arrival) → (IsNew k → list_any (is_from a.from) s.arrived ≡ false) → HasOneEach s.arrived → HasOneEach (with_arrival s a k).arrived
arrived_as s a New new h = one_more s.arrived a (new tt) h
arrived_as s a Waits new h = h
arrived_as s a Answered new h = h
arrived_as s a Past new h = h

pub arrival_keeps : (s : State) (a : Arrived) → HasOneEach s.arrived → HasOneEach (with_arrival s a (arrival_of s a.from a.number)).arrived
arrival_keeps s a h =
    arrived_as s a (arrival_of s a.from a.number) (none_waits_by (kept_at s.answers a.from) a.number (list_any (is_from a.from) s.arrived)) h

-- The first is answered.

answer_keeps : (s : State) (arrived : List Arrived) (text : List ℕ) → HasOneEach s.arrived → HasOneEach arrived → HasOneEach (answer_first s arrived text).arrived
unfolding IsDistinct
answer_keeps s [] text h k = h
answer_keeps s (a ∷ rest) text h k = k.1

pub answered_keeps : (s : State) (text : List ℕ) → HasOneEach s.arrived → HasOneEach (answered s text).arrived
answered_keeps s text h = answer_keeps s s.arrived text h h

-- There are as many as nodes.

abbrev pub IsOfNode : Arrived → Type 0
IsOfNode a = (1 ≤ a.from) × (a.from ≤ 32)

not_zero : (n : ℕ) → 1 ≤ n → (0 == n) ≡ false
not_zero n h = grind (arith, h)

none_zero : (arrived : List Arrived) → AllByRecursion IsOfNode arrived → AllByRecursion (λ m. (0 == m) ≡ false) (map (λ (a : Arrived). a.from) arrived)
none_zero [] h = tt
none_zero (a ∷ rest) h = (not_zero a.from h.0.0, none_zero rest h.1)

found_low : (q n : ℕ) (later : Bool) → ((q == n) || later) ≡ true → n ≤ 32 → (later ≡ true → q < 33) → q < 33
found_low q n later h low then_low = by_test (q == n) refl h
  where
    by_test : (b : Bool) → (q == n) ≡ b → (b || later) ≡ true → q < 33
    by_test true is told = grind (arith, is, low)
    by_test false is told = then_low told

all_low : (arrived : List Arrived) (q : ℕ) → AllByRecursion IsOfNode arrived → list_any (λ m. q == m) (map (λ (a : Arrived). a.from) arrived) ≡ true → q < 33
all_low [] q h found = absurd (true≢false (sym found))
all_low (a ∷ rest) q h found = found_low q a.from (list_any (λ m. q == m) (map (λ (b : Arrived). b.from) rest)) found h.0.1 (all_low rest q h.1)

fewer : (n : ℕ) → suc n ≤ 33 → n ≤ 32
fewer n h = omega (arith, h)

pub at_most_32 : (arrived : List Arrived) → AllByRecursion IsOfNode arrived → HasOneEach arrived → length arrived ≤ 32
unfolding IsDistinct
at_most_32 arrived nodes h =
    let froms : List ℕ = map (λ (a : Arrived). a.from) arrived in
    subst (λ n. n ≤ 32) (length-map arrived (λ (a : Arrived). a.from))
    (fewer (length froms)
    (length-le_from_distinct_below (0 ∷ froms) 33 (none_zero arrived nodes, h)
    (λ q found. found_low q 0 (list_any (λ m. q == m) froms) found (omega arith) (all_low arrived q nodes))))
