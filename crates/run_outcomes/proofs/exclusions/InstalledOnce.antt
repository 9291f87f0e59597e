-- No node installs a number twice.
use Rattle.std.specs.Prelude.{ℕ, ◌==◌, ◌&&◌, ◌≡◌, ◌≤◌, ◌<◌, ◌⊎◌, Bool, true, false, List, [], ◌∷◌, if◌then◌else◌}
use Rattle.std.specs.List.{list_any}
use Rattle.std.proofs.Common.{arith, refl, sym, subst, ◌∙◌, inl, inr}
use Rattle.cmm_attempt.proofs.Basics.{and_cases, false_true, or_cases, same_number}
use Rattle.history.specs.Member.{last_installed}
use Rattle.history.specs.Moment.{Moment}
use Rattle.history.specs.Order.{Always}
use Rattle.history.specs.Seizing.{is_install}
use Rattle.history.specs.Trace.{installed}
use Rattle.run_history.specs.Happenings.{all_happened}
use Rattle.run_history.specs.Scenes.{first_scene}
use Rattle.world_model.specs.First.{first_cluster}
use Rattle.run_outcomes.specs.exclusions.Sites.{AllJudged, Rises}
use Rattle.run_outcomes.specs.silence.Ticks.{InstalledOnce, IsFirstInstall}
use Rattle.run_outcomes.proofs.exclusions.Runs.{run_went}

rises_all : (ms : List Moment) → AllJudged ms → Always Rises ms
rises_all [] h = tt
rises_all (x ∷ before) h = (h.0.rises, rises_all before h.1)

same_le : (a b : ℕ) → a ≡ b → a ≤ b
same_le a b h = omega (arith, h)

less_le : (a b c : ℕ) → a ≤ b → b < c → a ≤ c
less_le a b c h k = omega (arith, h, k)

not_less : (a b : ℕ) → a ≤ b → b < a → ⊥
not_less a b h k = grind (arith, h, k)

-- what a node has installed is at most what it installed last
at_most_last : (n e : ℕ) (ms : List Moment) → Always Rises ms → list_any (is_install n e) ms ≡ true → e ≤ last_installed n ms
at_most_last n e [] h there = absurd (false_true there)
at_most_last n e (installed m f ∷ ms) h there = by_node (m == n) refl (λ old. at_most_last n e ms h.1 old) (or_cases ((m == n) && (f == e)) (list_any (is_install n e) ms) there)
  where
    by_node : (b : Bool) → (m == n) ≡ b → (list_any (is_install n e) ms ≡ true → e ≤ last_installed n ms) → (((m == n) && (f == e)) ≡ true) ⊎ (list_any (is_install n e) ms ≡ true) → e ≤ (if b then f else last_installed n ms)
    by_node true own old (inl here) = same_le e f (sym (same_number f e (and_cases (m == n) (f == e) here).1))
    by_node true own old (inr before) = less_le e (last_installed n ms) f (old before) (subst (λ k. last_installed k ms < f) (same_number m n own) h.0)
    by_node false other old (inl here) = absurd (false_true (sym other ∙ (and_cases (m == n) (f == e) here).0))
    by_node false other old (inr before) = old before
at_most_last n e (_ ∷ ms) h there = at_most_last n e ms h.1 there

refuted : (b : Bool) → (b ≡ true → ⊥) → b ≡ false
refuted true f = absurd (f refl)
refuted false f = refl

one_first : (x : Moment) (ms : List Moment) → Always Rises ms → Rises ms x → IsFirstInstall ms x
one_first (installed n e) ms h rises = refuted (list_any (is_install n e) ms) (λ there. not_less e (last_installed n ms) (at_most_last n e ms h there) rises)
one_first _ ms h rises = tt

all_first : (ms : List Moment) → Always Rises ms → Always IsFirstInstall ms
all_first [] h = tt
all_first (x ∷ before) h = (one_first x before h.1 h.0, all_first before h.1)

pub installed_once : InstalledOnce
installed_once h cells hs few small may = let rises : Always Rises (all_happened (first_cluster h) (first_scene h cells) hs).moments = rises_all (all_happened (first_cluster h) (first_scene h cells) hs).moments (run_went h cells hs few small may).judged in
    all_first (all_happened (first_cluster h) (first_scene h cells) hs).moments rises
