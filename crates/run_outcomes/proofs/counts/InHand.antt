-- Of the records that a coordinator has in hand none exceeds that of the node which its attempt names, as long as the attempt is not counted.
use Rattle.std.specs.Prelude.{ℕ, ◌+◌, ◌-◌, ◌≡◌, ◌<◌, ◌≤◌, ◌==◌, ◌&&◌, ◌||◌, nat_lt, not, Bool, true, false, if◌then◌else◌, List, [], ◌∷◌, filter, length}
use Rattle.std.specs.List.{AllByRecursion, list_any}
use Rattle.std.proofs.Common.{refl, sym, ap, subst, ◌∙◌, arith, inl, inr}
use Rattle.cmm_attempt.proofs.Basics.{false_true}
use Rattle.history.specs.Moment.{Moment}
use Rattle.history.specs.Records.{NodeRecord as Shown, committed_of, exceeds, is_newest, promises, records_told}
use Rattle.membership_machine.specs.Events.{HasNewest}
use Rattle.membership_machine.specs.Records.{IsBehind, Saved}
use Rattle.membership_machine.specs.State.{Memberships}
use Rattle.run_messages.proofs.records.Letters.{HasShown, Shows, has_from, promises_had, told_records}
use Rattle.run_messages.specs.records.Kept.{HeardFrom}
use Rattle.run_messages.specs.records.Shown.{IsOf, ShownBy, flag}
use Rattle.run_messages.specs.records.Sound.{AllSound, ShowsSo}

true_false : true ≡ false → ⊥
true_false h = false_true (sym h)

not_true : (b : Bool) → (b ≡ true → ⊥) → b ≡ false
not_true true h = absurd (h refl)
not_true false h = refl

pub or_parts : (a b : Bool) → (a || b) ≡ false → (a ≡ false) × (b ≡ false)
or_parts true b h = absurd (true_false h)
or_parts false b h = (refl, h)

-- ---- two records

pub committed_is : (r : Shown) (s : Saved) → IsOf r s → committed_of r ≡ s.committed
committed_is r s h = less_so (length r.texts) (flag r.pending) s.committed (ap length h.texts ∙ h.pending)
  where
    less_so : (k f c : ℕ) → k ≡ c + f → (k - f) ≡ c
    less_so k f c e = omega (arith, e)

-- a record that is behind another does not exceed it
not_exceeds : (best r : Shown) (sb s : Saved) → IsOf best sb → IsOf r s → IsBehind s sb → exceeds r best ≡ false
not_exceeds best r sb s b h (inl less) =
    not_true (exceeds r best) (λ e. apart best.installed r.installed (length best.texts) (length r.texts) (committed_of best) (committed_of r) e
    (subst (λ z. z < best.installed) (sym h.installed) (subst (λ z. s.installed < z) (sym b.installed) less)))
  where
    apart : (bi ri bl rl bc rc : ℕ) → ((nat_lt bi ri || ((ri == bi) && nat_lt bl rl)) || (not (nat_lt ri bi || ((bi == ri) && nat_lt rl bl)) && nat_lt bc rc)) ≡ true → ri < bi → ⊥
    apart bi ri bl rl bc rc e l = grind arith
not_exceeds best r sb s b h (inr (same, inl less)) =
    not_true (exceeds r best) (λ e. apart best.installed r.installed (length best.texts) (length r.texts) (committed_of best) (committed_of r) e
    (h.installed ∙ (same ∙ sym b.installed))
    (subst (λ z. z < length best.texts) (ap length (sym h.texts)) (subst (λ z. length s.entries < z) (ap length (sym b.texts)) less)))
  where
    apart : (bi ri bl rl bc rc : ℕ) → ((nat_lt bi ri || ((ri == bi) && nat_lt bl rl)) || (not (nat_lt ri bi || ((bi == ri) && nat_lt rl bl)) && nat_lt bc rc)) ≡ true → ri ≡ bi → rl < bl → ⊥
    apart bi ri bl rl bc rc e same l = grind arith
not_exceeds best r sb s b h (inr (same, inr rest)) =
    not_true (exceeds r best) (λ e. apart best.installed r.installed (length best.texts) (length r.texts) (committed_of best) (committed_of r) e
    (h.installed ∙ (same ∙ sym b.installed)) (ap length h.texts ∙ (rest.0 ∙ sym (ap length b.texts)))
    (subst (λ z. z ≤ committed_of best) (sym (committed_is r s h)) (subst (λ z. s.committed ≤ z) (sym (committed_is best sb b)) rest.1)))
  where
    apart : (bi ri bl rl bc rc : ℕ) → ((nat_lt bi ri || ((ri == bi) && nat_lt bl rl)) || (not (nat_lt ri bi || ((bi == ri) && nat_lt rl bl)) && nat_lt bc rc)) ≡ true → ri ≡ bi → rl ≡ bl → rc ≤ bc → ⊥
    apart bi ri bl rl bc rc e same count l = grind arith

-- ---- the records in hand

shown_by : (M : Memberships) (e : ℕ) (r : Shown) → (M.epoch e).counted ≡ false → Shows M e r → ShownBy M e r
shown_by M e r uncounted h = record { node = h.node; member = h.promise.member; answered = h.promise.answered; is = by_shows h.promise.shows }
  where
    by_shows : ShowsSo M e h.node h.saved → IsOf r ((M.node h.node).showed e)
    by_shows (inl at) = subst (λ z. IsOf r z) (sym at) h.is
    by_shows (inr at) = absurd (true_false (sym at.1 ∙ uncounted))

all_shown : (M : Memberships) (e : ℕ) (rs : List Shown) → (M.epoch e).counted ≡ false → AllByRecursion (Shows M e) rs → AllByRecursion (ShownBy M e) rs
all_shown M e [] uncounted h = tt
all_shown M e (r ∷ rs) uncounted h = (shown_by M e r uncounted h.0, all_shown M e rs uncounted h.1)

-- that of node k is among these, and none exceeds it
pub record HasNewestOf (M : Memberships) (e k : ℕ) (records : List Shown) : Type 0 where
  pub best : Shown
  pub is : IsOf best ((M.node k).showed e)
  pub among : (test : Shown → Bool) → list_any test records ≡ false → test best ≡ false
  pub newest : is_newest records best ≡ true

none_exceeds : (M : Memberships) (e k : ℕ) (best : Shown) (rs : List Shown) → HasNewest M e k → IsOf best ((M.node k).showed e) → AllByRecursion (ShownBy M e) rs → list_any (λ other. exceeds other best) rs ≡ false
none_exceeds M e k best [] newest is h = refl
none_exceeds M e k best (r ∷ rs) newest is h =
    both_not (exceeds r best) _ (not_exceeds best r ((M.node k).showed e) ((M.node h.0.node).showed e) is h.0.is (newest.none_newer h.0.node h.0.member)) (none_exceeds M e k best rs newest is h.1)
  where
    both_not : (a b : Bool) → a ≡ false → b ≡ false → (a || b) ≡ false
    both_not true b h i = h
    both_not false b h i = i

pub in_hand : (M : Memberships) (n e k : ℕ) (ms : List Moment) (own : Shown) → (M.epoch e).counted ≡ false → AllSound M ms → HasNewest M e k → (M.epoch e).members n ≡ true → (M.node n).answered e ≡ true
    → IsOf own ((M.node n).showed e) → HeardFrom ms n e k → HasNewestOf M e k (own ∷ records_told (promises e ms))
unfolding shown_by
in_hand M n e k ms own uncounted sound newest member answered is heard = by_heard heard
  where
    records : List Shown
    records = own ∷ records_told (promises e ms)

    all : AllByRecursion (ShownBy M e) records
    all = (record { node = n; member = member; answered = answered; is = is }, all_shown M e (records_told (promises e ms)) uncounted (told_records M e (promises e ms) (promises_had M e ms sound)))

    newest_is : (best : Shown) → IsOf best ((M.node k).showed e) → is_newest records best ≡ true
    newest_is best of = ap not (none_exceeds M e k best records newest of all)

    by_heard : HeardFrom ms n e k → HasNewestOf M e k records
    by_heard (inl at) =
        let of : IsOf own ((M.node k).showed e) = subst (λ j. IsOf own ((M.node j).showed e)) (sym at) is in
        record { best = own; is = of; among = λ test none. (or_parts (test own) _ none).0; newest = newest_is own of }
    by_heard (inr told) =
        let h : HasShown M e k (records_told (promises e ms)) = has_from M e k (promises e ms) (promises_had M e ms sound) told in
        let so : ShownBy M e h.shown = shown_by M e h.shown uncounted h.shows.shows in
        let of : IsOf h.shown ((M.node k).showed e) = subst (λ j. IsOf h.shown ((M.node j).showed e)) h.shows.from so.is in
        record { best = h.shown; is = of; among = λ test none. h.among test (or_parts (test own) _ none).1; newest = newest_is h.shown of }

-- ---- so a test that it passes is passed by one of the newest

any_filter : (p test : Shown → Bool) (rs : List Shown) → list_any test (filter p rs) ≡ false → list_any (λ r. p r && test r) rs ≡ false
any_filter p test [] h = refl
any_filter p test (r ∷ rs) h = by_test (p r) h (λ rest. any_filter p test rs rest)
  where
    by_test : (t : Bool) → list_any test (if t then r ∷ filter p rs else filter p rs) ≡ false → (list_any test (filter p rs) ≡ false → list_any (λ z. p z && test z) rs ≡ false)
        → ((t && test r) || list_any (λ z. p z && test z) rs) ≡ false
    by_test true h next =
        let parts : (test r ≡ false) × (list_any test (filter p rs) ≡ false) = or_parts (test r) _ h in
        ap (λ b. b || list_any (λ z. p z && test z) rs) parts.0 ∙ next parts.1
    by_test false h next = next h

pub newest_passes : (M : Memberships) (e k : ℕ) (records : List Shown) (test : Shown → Bool) → (h : HasNewestOf M e k records) → test h.best ≡ true → list_any test (filter (is_newest records) records) ≡ true
newest_passes M e k records test h passes = by_any (list_any test (filter (is_newest records) records)) refl
  where
    and_both : (a b : Bool) → a ≡ true → b ≡ true → (a && b) ≡ true
    and_both true b h i = i
    and_both false b h i = absurd (false_true h)

    by_any : (t : Bool) → list_any test (filter (is_newest records) records) ≡ t → t ≡ true
    by_any true is = refl
    by_any false is =
        absurd (true_false (sym (and_both (is_newest records h.best) (test h.best) h.newest passes) ∙ h.among (λ r. is_newest records r && test r) (any_filter (is_newest records) test records is)))
