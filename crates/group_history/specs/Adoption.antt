-- Adoption: what a start takes over breaks no Maximum_primaries and no strong affinity of the configuration of its base.
use Rattle.std.specs.Prelude.{◌≡◌, ◌≤◌, ℕ, ◌&&◌, ◌||◌, not, Bool, true, List, ◌∷◌, length, Option, None, is_none, IfSome, if◌then◌else◌}
use Rattle.std.specs.List.{list_all, filter, AllByRecursion}
use Rattle.rg_props.specs.declared.affinity.Affine.{Affine}
use Rattle.rg_props.specs.declared.affinity.Affinity.TheVariants.{MinusMinus}
use Rattle.rg_props.specs.declared.group.Group.{Group}
use Rattle.rg_props.specs.Affinities.{is_close, same_affinity}
use Rattle.sequencer_laws.specs.Situations.{Situation, has_up}
use Rattle.history.specs.Moment.{Moment}
use Rattle.history.specs.Order.{Always}
use Rattle.history.specs.Setting.{nodes_of}
use Rattle.history.specs.Starts.{Start, completed}
use Rattle.group_history.specs.Setting.{Groups}
use Rattle.group_history.specs.AllowedCalls.{situation_of}
use Rattle.group_history.specs.Adopting.{adopt_due, before_adopts}

-- the members on which the group is up
abbrev pub nodes_up : Situation → List ℕ → List ℕ
nodes_up s group = filter (has_up s group) (nodes_of s.members)

-- where the group is up on the node, a target of `++` and `+++` is up there, and no target of `--`
abbrev pub agrees : Situation → ℕ → Affine → Bool
agrees s n a = (not (is_close a.affinity) || has_up s a.group n) && not (same_affinity a.affinity MinusMinus && has_up s a.group n)

abbrev pub keeps_affinities : Situation → List ℕ → Group → ℕ → Bool
keeps_affinities s group g n = not (has_up s group n) || list_all (agrees s n) g.affinities

pub record IsInOrder (s : Situation) (group : List ℕ) (g : Group) : Type 0 where
  pub primaries : length (nodes_up s group) ≤ g.maximum
  pub affinities : list_all (keeps_affinities s group g) (nodes_of s.members) ≡ true

abbrev pub AllInOrder : Situation → List (List ℕ × Group) → Type 0
AllInOrder s groups = AllByRecursion (λ e. IsInOrder s e.0 e.1) groups

-- the start of which the newest moment is the last line, its `adopt` lines with it
abbrev pub taken_over : Groups → List Moment → Option Start
taken_over S moments = if is_none (adopt_due S moments) then completed (before_adopts moments) else None

abbrev pub IsTakenOver : Groups → List Moment → Moment → Type 0
IsTakenOver S before x =
    IfSome (taken_over S (x ∷ before)) (λ s. AllInOrder (situation_of S s.epoch (x ∷ before)) (situation_of S s.epoch (x ∷ before)).table.groups)

abbrev pub Adoption : Groups → List Moment → Type 0
Adoption S moments = Always (IsTakenOver S) moments
