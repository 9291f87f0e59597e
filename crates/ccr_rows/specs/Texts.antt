-- How the values of rows are written.
use Rattle.std.specs.Prelude.{ℕ, Bool, true, false, List, [], ◌∷◌, ◌++◌, codes}
use Rattle.std.specs.List.{filter, flat_map}
use Rattle.std.specs.Fmt.{decimal}
use Rattle.cl_base.specs.Methods.{has_method}
use Rattle.cl_base.specs.declared.history.FailoverMode.{FailoverMode}
use Rattle.cl_base.specs.declared.history.FailoverMode.TheVariants as mode
use Rattle.quorum_votes.specs.declared.state.DevState.{DevState}
use Rattle.quorum_votes.specs.declared.state.DevState.TheVariants.{Absent, Enabled, Disabled}
use Rattle.load_limits.specs.declared.limits.Factor.{Factor}
use Rattle.rg_props.specs.declared.affinity.Affine.{Affine}
use Rattle.rg_props.specs.Affinities.{affinity_sign}
use Rattle.ccr_tables.specs.declared.address.Weight.{Weight}
use Rattle.update_words.specs.Methods.{all_methods, method_text}
use Rattle.update_words.specs.Words.{weight_text}

-- items with commas (44) between, or `none`
abbrev pub with_commas : {A : Type 0} → (A → List ℕ) → List A → List ℕ
with_commas text [] = codes "none"
with_commas text (x ∷ xs) = text x ++ flat_map (λ y. 44 ∷ text y) xs

-- a name as it is
abbrev pub name_text : List ℕ → List ℕ
name_text name = name

abbrev pub names_text : List (List ℕ) → List ℕ
names_text names = with_commas name_text names

-- the sign before the name of the group
abbrev pub affinity_text : Affine → List ℕ
affinity_text a = affinity_sign a.affinity ++ a.group

abbrev pub affinities_text : List Affine → List ℕ
affinities_text affinities = with_commas affinity_text affinities

-- NAME@N
abbrev pub factor_text : Factor → List ℕ
factor_text f = f.name ++ 64 ∷ decimal f.load

abbrev pub factors_text : List Factor → List ℕ
factors_text factors = with_commas factor_text factors

-- W@N,W@N,..
abbrev pub weights_text : List Weight → List ℕ
weights_text weights = with_commas weight_text weights

-- a truth value
abbrev pub choice_text : Bool → List ℕ
choice_text true = codes "TRUE"
choice_text false = codes "FALSE"

abbrev pub mode_text : FailoverMode → List ℕ
mode_text mode.None = codes "NONE"
mode_text mode.Soft = codes "SOFT"
mode_text mode.Hard = codes "HARD"
mode_text mode.RestartOnly = codes "RESTART_ONLY"
mode_text mode.LogOnly = codes "LOG_ONLY"

abbrev pub device_text : DevState → List ℕ
device_text Absent = codes "absent"
device_text Enabled = codes "enabled"
device_text Disabled = codes "disabled"

-- the methods of the set by commas
unfoldable pub methods_text : ℕ → List ℕ
methods_text methods = with_commas method_text (filter (has_method methods) all_methods)

-- whether the cluster allows one resource of a type alone
abbrev pub single_text : Bool → List ℕ
single_text true = codes "single"
single_text false = codes "multi"

-- whether a group with a resource of a type may be online on one node at most
abbrev pub failover_text : Bool → List ℕ
failover_text true = codes "failover"
failover_text false = codes "any"
