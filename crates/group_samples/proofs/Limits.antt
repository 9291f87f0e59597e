-- Limits: where none is configured each is kept, and goals that pass one.
use Rattle.std.proofs.Common.{◌≡◌, inl, inr, ℕ, ◌<◌, true, false, refl, arith, List, [], ◌∷◌}
use Rattle.std.proofs.lemmas.List.Elements.{All-head}
use Rattle.std.specs.List.{Contains}
use Rattle.load_limits.specs.declared.limits.Limit.{Limit}
use Rattle.cl_base.specs.Sets.{has}
use Rattle.decision_laws.specs.Limits.{IsWithin}
use Rattle.load_limits.specs.Loads.{load}
use Rattle.placement.specs.Loads.{factors_of, is_fixed}
use Rattle.placement.specs.Resources.{is_stop_failed}
use Rattle.rg_props.specs.Lookups.{named}
use Rattle.group_samples.specs.SampleAllowed.{h}
use Rattle.group_samples.specs.SampleConfigurations.{g}
use Rattle.group_samples.specs.SampleGoals.{both_there, l, limit, limited, one_there}

pub none_is_there : (l : Limit) → Contains [] l → ⊥
none_is_there l (k, below, same) = search arith

-- goals that pass a limit, by groups that are not fixed
pub both : IsWithin (limited 1) both_there limit → ⊥
unfolding has is_fixed is_stop_failed load
both (inl le) = absurd (omega arith)
both (inr fixed) =
    let is : false ≡ true = All-head (λ (e : List ℕ × ℕ). has e.1 1 ≡ true → 0 < load l (factors_of (named (limited 1).groups.groups e.0)) → is_fixed (limited 1).groups both_there e.0 ≡ true) (g, 1) ((h, 1) ∷ []) fixed refl (omega arith) in
    cc is

pub too_heavy : IsWithin (limited 2) one_there limit → ⊥
unfolding has is_fixed is_stop_failed load
too_heavy (inl le) = absurd (omega arith)
too_heavy (inr fixed) =
    let is : false ≡ true = All-head (λ (e : List ℕ × ℕ). has e.1 1 ≡ true → 0 < load l (factors_of (named (limited 2).groups.groups e.0)) → is_fixed (limited 2).groups one_there e.0 ≡ true) (g, 1) ((h, 0) ∷ []) fixed refl (omega arith) in
    cc is
