-- A run step by step: what a beginning of the steps leads to.
use Rattle.std.proofs.Common.{◌≡◌, ℕ, ◌+◌, ◌<◌, List, [], ◌∷◌, ◌++◌, get_or, length, take, refl, sym, ap, ◌∙◌, arith}
use Rattle.std.proofs.lemmas.List.{take_more}
use Rattle.pgr_device.specs.declared.run.Step.{Step}
use Rattle.pgr_device.specs.declared.run.Step.TheVariants.{Command, PowerLoss}
use Rattle.pgr_device.specs.Device.{Device}
use Rattle.pgr_device.specs.Runs.{run, IsRunInPart}
use Rattle.pgr_device.specs.Spc.{step}

run_append : (d : Device) (xs ys : List Step) → run d (xs ++ ys) ≡ run (run d xs) ys
run_append d [] ys = refl
run_append d (Command node c ∷ xs) ys = run_append (step d node c).after xs ys
run_append d (PowerLoss ∷ xs) ys = run_append d xs ys

pub came_on : (old mid new : Device) (steps : List Step) (i : ℕ) (s : Step) → mid ≡ run old (take i steps) → i < length steps → s ≡ get_or steps i s → new ≡ run mid (s ∷ [])
    → new ≡ run old (take (i + 1) steps)
came_on old mid new steps i s came lt is goes =
    goes ∙ ap (λ (d : Device). run d (s ∷ [])) came ∙ sym (run_append old (take i steps) (s ∷ []))
    ∙ ap (λ (r : Step). run old (take i steps ++ r ∷ [])) is ∙ ap (run old) (sym (take_more steps i s lt))

pub in_part : (old mid new : Device) (steps : List Step) (i : ℕ) (s : Step) → mid ≡ run old (take i steps) → i < length steps → s ≡ get_or steps i s → new ≡ run mid (s ∷ [])
    → IsRunInPart old steps new
in_part old mid new steps i s came lt is goes = record { taken = i + 1; within = omega (arith, lt); after = came_on old mid new steps i s came lt is goes }
