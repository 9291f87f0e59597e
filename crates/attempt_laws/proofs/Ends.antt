-- What ends an attempt, and what goes again.
use Rattle.std.proofs.Common.{◌≡◌, ◌≢◌, ℕ, ◌+◌, ◌⊎◌, inl, inr, List, [], ◌∷◌, map, refl, ap, ◌∙◌, arith}
use Rattle.std.specs.Prelude.{◌==◌, ◌&&◌, not, filter, nat_le, Bool, true, false, Option, Some, None, IsSome, if◌then◌else◌}
use Rattle.std.specs.List.{find}
use Rattle.cmm_attempt.specs.Installs.{send_install}
use Rattle.cmm_attempt.specs.Attempts.{AttemptState, has_readied, install_in, Turn, with_steps, waits, is_over, is_missing, again_in, silenced, ticked, later, ticking, taking, knowing, voting}
use Rattle.cmm_attempt.specs.Calls.{end_in}
use Rattle.cmm_attempt.proofs.Basics.{false_true, if_either}
use Rattle.attempt_laws.specs.Ending.{NacksEnd, ForeignEnds, LeftOutEnds, TooFewEnds}
use Rattle.attempt_laws.specs.Repeating.{CollectsGoAgain, RequestsGoAgain, InstallsGoAgain, NothingElseGoes}
use Rattle.attempt_laws.proofs.Walk.{if_with}

itself : (n : ℕ) → (n == n) ≡ true
itself n = grind arith

pub nacks_end : NacksEnd
unfolding taking
nacks_end s from m q over is = rw (is, over, itself s.plan.epoch) refl

pub foreign_ends : ForeignEnds
unfolding voting
foreign_ends s both n is = rw is refl

pub left_out_ends : LeftOutEnds
unfolding voting knowing
left_out_ends s both n none is = rw (none, is) refl

pub too_few_ends : TooFewEnds
unfolding voting knowing
too_few_ends s both v none no_left_out is = rw (none, no_left_out, is) refl

-- Ticks.

pub collects_go_again : CollectsGoAgain
unfolding ticking
collects_go_again s is third = rw (is, third) refl

same_filter : (p q : ℕ → Bool) → ((n : ℕ) → p n ≡ q n) → (ns : List ℕ) → filter p ns ≡ filter q ns
same_filter p q same [] = refl
same_filter p q same (n ∷ ns) = ap (λ b. if b then n ∷ filter p ns else filter p ns) (same n) ∙ ap (λ rest. if q n then n ∷ rest else rest) (same_filter p q same ns)

-- of another node than the coordinator the Ready is missing
other_unready : (a own ready : Bool) → (not a && (if a then not own else not ready)) ≡ (not a && not ready)
other_unready true own ready = refl
other_unready false own ready = refl

pub installs_go_again : InstallsGoAgain
unfolding ticking
installs_go_again s is third =
    let there : ℕ → Bool = λ n. n == s.plan.coordinator in
    rw (is, third)
    (ap (λ ns. map (send_install s.plan (install_in s)) ns)
    (same_filter (λ n. not (there n) && (if there n then not s.own_ready else not (has_readied s.readies n))) (λ n. not (there n) && not (has_readied s.readies n))
    (λ n. other_unready (there n) s.own_ready (has_readied s.readies n)) s.plan.nodes))

pub requests_go_again : RequestsGoAgain
unfolding ticking
requests_go_again s (inl is) third = rw (is, third) refl
requests_go_again s (inr is) third = rw (is, third) refl

abbrev EndsOrWaits : Turn → Type 0
EndsOrWaits t = IsSome (end_in t.steps) ⊎ (t.steps ≡ [])

silenced_ends : (s : AttemptState) (o : Option ℕ) → EndsOrWaits (silenced s o)
silenced_ends s None = inr refl
silenced_ends s (Some n) = inl refl

not_fourth_by : (t : ℕ) (b : Bool) → nat_le 8 t ≡ b → t ≢ 3 → ((if b then 8 else t + 1) == 4) ≡ true → ⊥
not_fourth_by t true e ne h = false_true h
not_fourth_by t false e ne h = ne (third t h)
  where
    third : (t : ℕ) → ((t + 1) == 4) ≡ true → t ≡ 3
    third t h = grind arith

pub nothing_else_goes : NothingElseGoes
unfolding ticking
nothing_else_goes s ne =
    let t : AttemptState = record s { ticks = later s.ticks } in
    if_either EndsOrWaits (is_over s.phase) (waits s) (ticked t) (inr refl)
    (if_either EndsOrWaits (nat_le 8 t.ticks) (silenced t (find (is_missing t) t.plan.nodes)) (if t.ticks == 4 then with_steps t (again_in t t.phase) else waits t)
    (silenced_ends t (find (is_missing t) t.plan.nodes))
    (if_with EndsOrWaits (t.ticks == 4) (t.ticks == 4) (with_steps t (again_in t t.phase)) (waits t) refl
    (λ e. absurd (not_fourth_by s.ticks (nat_le 8 s.ticks) refl ne e)) (λ _. inr refl)))
