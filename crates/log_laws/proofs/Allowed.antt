-- Where an update is not refused, no refusal fits.
use Rattle.std.proofs.Common.{◌≡◌, ℕ, Bool, true, false, not, Option, None, Some, IsSome, is_some, List, refl, find, option_map}
use Rattle.std.specs.List.{AllByRecursion}
use Rattle.cl_base.specs.declared.refusal.Thing.{Thing}
use Rattle.cl_base.specs.declared.refusal.Thing.TheVariants.{Named}
use Rattle.rg_props.specs.declared.affinity.Affine.{Affine}
use Rattle.rg_props.specs.Lookups.{named}
use Rattle.rg_props.specs.Values.{or_else}
use Rattle.ccr_tables.specs.declared.update.Update.{Update}
use Rattle.ccr_tables.specs.Refusals.{exists_in, first_fit, first_missing, is_bad_property_in, is_bad_setting_in, is_same_in, missing, refusal_of, unknown_in, user_in}
use Rattle.ccr_tables.specs.State.{ConfigState}
use Rattle.ccr_tables.specs.Uses.{first_named}
use Rattle.log_laws.specs.Laws.{IsThere}
use Rattle.log_laws.proofs.Alls.{each, none_found}

-- what the update names is there, what it makes is not, and what it takes away is not named
pub record Fits (s : ConfigState) (u : Update) : Type 0 where
  pub there : unknown_in s u ≡ None
  pub new : exists_in s u ≡ false
  pub free : user_in s u ≡ None

pub fits : (s : ConfigState) (u : Update) → refusal_of s u ≡ None → Fits s u
fits s u none = by (unknown_in s u) (exists_in s u) (user_in s u) refl refl refl none
  where
    by : (thing : Option Thing) (exists : Bool) (user : Option (List ℕ)) → unknown_in s u ≡ thing → exists_in s u ≡ exists → user_in s u ≡ user
        → first_fit thing exists user (is_same_in s u) (is_bad_property_in s u) (is_bad_setting_in s u) ≡ None → Fits s u
    by None false None there new free none = record { there = there; new = new; free = free }
    by (Some thing) exists user there new free none = cc none
    by None true user there new free none = cc none
    by None false (Some name) there new free none = cc none

pub first_none : {X : Type 0} (a b : Option X) → or_else a b ≡ None → a ≡ None
first_none None b h = refl
first_none (Some x) b h = cc h

pub second_none : {X : Type 0} (a b : Option X) → or_else a b ≡ None → b ≡ None
second_none None b h = h
second_none (Some x) b h = cc h

-- what is not missing is there
pub is_there : {X : Type 0} (found : Option X) (thing : Thing) → missing found thing ≡ None → IsSome found
is_there None thing h = cc h
is_there (Some x) thing h = refl

so : (b : Bool) → not b ≡ false → b ≡ true
so true h = refl
so false h = cc h

not_mapped : {X Y : Type 0} (f : X → Y) (o : Option X) → option_map f o ≡ None → o ≡ None
not_mapped f None h = refl
not_mapped f (Some x) h = cc h

pub are_there : {X : Type 0} (things : List (List ℕ × X)) (names : List (List ℕ)) → first_missing things names ≡ None → AllByRecursion (IsThere things) names
are_there things names none =
    each (λ name. not (is_some (named things name)) ≡ false) (IsThere things) (λ name h. so (is_some (named things name)) h) names
    (none_found (λ name. not (is_some (named things name))) names (not_mapped (λ name. Named name) (find (λ name. not (is_some (named things name))) names) none))

pub affine_are_there : {X : Type 0} (things : List (List ℕ × X)) (affinities : List Affine)
    → option_map (λ (a : Affine). Named a.group) (find (λ a. not (is_some (named things a.group))) affinities) ≡ None → AllByRecursion (λ a. IsThere things a.group) affinities
affine_are_there things affinities none =
    each (λ (a : Affine). not (is_some (named things a.group)) ≡ false) (λ a. IsThere things a.group) (λ a h. so (is_some (named things a.group)) h) affinities
    (none_found (λ (a : Affine). not (is_some (named things a.group))) affinities (not_mapped (λ (a : Affine). Named a.group) (find (λ a. not (is_some (named things a.group))) affinities) none))

-- none of the things passes the test
pub none_passes : {X : Type 0} (test : X → Bool) (things : List (List ℕ × X)) → first_named test things ≡ None → AllByRecursion (λ e. test e.1 ≡ false) things
none_passes test things none = none_found (λ e. test e.1) things (not_mapped (λ e. e.0) (find (λ e. test e.1) things) none)
