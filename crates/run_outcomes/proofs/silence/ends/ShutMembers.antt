-- Lines behind which an attempt is under way, and its coordinator is no member, have not made it one.
use Rattle.std.specs.Prelude.{ℕ, ◌≡◌, ◌==◌, ◌&&◌, ◌||◌, not, Bool, true, false, List, [], ◌∷◌, Option, None, Some, is_some, if◌then◌else◌}
use Rattle.std.specs.List.{list_any}
use Rattle.std.proofs.Common.{refl, sym, subst, ◌∙◌}
use Rattle.cmm_attempt.proofs.Basics.{and_cases, false_true}
use Rattle.history.specs.Member.{attempt_of, in_collect, member_of}
use Rattle.history.specs.Moment.{Moment}
use Rattle.history.specs.Order.{since}
use Rattle.history.specs.Seizing.{is_attempt, is_number}
use Rattle.history.specs.Setting.{coordinator}
use Rattle.history.specs.Trace.{attempt, down, member, saved, up}
use Rattle.history.specs.UnderWay.{is_over, is_under_way}
use Rattle.run_outcomes.proofs.silence.ends.ShutSessions.{enters_anew}

-- the node becomes a member with this line
abbrev pub joins : ℕ → Moment → Bool
joins n (member m f) = m == n
joins n _ = false

-- ---- an attempt that is under way

not_first : (a b : Bool) → not (a || b) ≡ true → a ≡ false
not_first true b h = absurd (false_true h)
not_first false b h = refl

-- a line behind which it is under way doesn't end it
pub none_over : (e : ℕ) (x : Moment) (ms : List Moment) → is_attempt e x ≡ false → is_under_way e (x ∷ ms) ≡ true → is_over e x ≡ false
none_over e x ms none is =
    let parts : (is_number e (attempt_of (coordinator e) (x ∷ ms)) ≡ true) × (not (list_any (is_over e) (since (is_attempt e) (x ∷ ms))) ≡ true) = and_cases _ _ is in
    not_first (is_over e x) (list_any (is_over e) (since (is_attempt e) ms)) (subst (λ t. not (list_any (is_over e) (if t then [] else x ∷ since (is_attempt e) ms)) ≡ true) none parts.1)

-- .. and begins no other of its coordinator
pub none_begins : (e f members : ℕ) (ms : List Moment) → (f == e) ≡ false → is_under_way e (attempt f members ∷ ms) ≡ true → (coordinator f == coordinator e) ≡ true → ⊥
none_begins e f members ms other way own =
    let parts : (is_number e (attempt_of (coordinator e) (attempt f members ∷ ms)) ≡ true) × (not (list_any (is_over e) (since (is_attempt e) (attempt f members ∷ ms))) ≡ true) = and_cases _ _ way in
    false_true (sym other ∙ subst (λ t. is_number e (if t then Some f else attempt_of (coordinator e) ms) ≡ true) own parts.0)

-- ---- a line

-- it was no member before, and the line leaves it so
abbrev Stays : ℕ → List Moment → Moment → Type 0
Stays n ms x = (is_some (member_of n ms) ≡ false) × (joins n x ≡ false)

unless : (b : Bool) (o : Option ℕ) → b ≡ false → is_some (if b then None else o) ≡ false → is_some o ≡ false
unless true o off h = absurd (false_true (sym off))
unless false o off h = h

refuted : (b : Bool) → (b ≡ true → ⊥) → b ≡ false
refuted true h = absurd (h refl)
refuted false h = refl

pub member_one : (n e : ℕ) (x : Moment) (ms : List Moment) → coordinator e ≡ n → is_attempt e x ≡ false → is_under_way e (x ∷ ms) ≡ true → enters_anew n ms x ≡ false → is_some (member_of n (x ∷ ms)) ≡ false → Stays n ms x
member_one n e (up m) ms own young way same h = (unless (m == n) (member_of n ms) same h, refl)
member_one n e (down m why) ms own young way same h =
    (unless (m == n) (member_of n ms) (subst (λ k. (m == k) ≡ false) own (none_over e (down m why) ms young way)) h, refl)
member_one n e (saved m) ms own young way same h = (unless ((m == n) && in_collect n ms) (member_of n ms) same h, refl)
member_one n e (attempt f members) ms own young way same h =
    (unless (coordinator f == n) (member_of n ms) (refuted (coordinator f == n) (λ is. none_begins e f members ms young way (subst (λ k. (coordinator f == k) ≡ true) (sym own) is))) h, refl)
member_one n e (member m f) ms own young way same h = by_test (m == n) h
  where
    by_test : (b : Bool) → is_some (if b then Some f else member_of n ms) ≡ false → (is_some (member_of n ms) ≡ false) × (b ≡ false)
    by_test true i = absurd (false_true (sym i))
    by_test false i = (i, refl)
member_one n e _ ms own young way same h = (h, refl)
