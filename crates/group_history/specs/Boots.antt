-- What happened on a node since the boot in which it installed a membership: "the boot of n" is its last `up` line before `installed n e`.
use Rattle.std.specs.Prelude.{ℕ, ◌&&◌, ◌||◌, Bool, false, List, [], ◌∷◌, ◌++◌, if◌then◌else◌}
use Rattle.history.specs.Moment.{Moment}
use Rattle.history.specs.Seizing.{is_boot, is_install}

-- what each moment since that boot gives, with what was before it; newest first
abbrev pub gathered_in : {A : Type 0} → ℕ → ℕ → Bool → (List Moment → Moment → List A) → List Moment → List A
gathered_in n e is_installed f [] = []
gathered_in n e is_installed f (x ∷ before) =
    if is_installed && is_boot n x then [] else f before x ++ gathered_in n e (is_installed || is_install n e x) f before

abbrev pub gathered : {A : Type 0} → ℕ → ℕ → (List Moment → Moment → List A) → List Moment → List A
gathered n e f moments = gathered_in n e false f moments
