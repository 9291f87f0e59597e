-- Each step that a coordinator takes part in leads on to the tasks of the lines.
use Rattle.std.specs.Prelude.{ℕ, ◌≡◌, ◌⊎◌, ◌++◌, true, [], ◌∷◌}
use Rattle.std.proofs.Common.{inl, inr}
use Rattle.cmm_attempt.proofs.Basics.{false_true}
use Rattle.run_history.specs.Happenings.{Happening, all_happened}
use Rattle.run_history.specs.Happenings.Happening.{Arrives, Commands, Strays, Takes, Writes}
use Rattle.run_history.specs.Scenes.{first_scene}
use Rattle.world_model.specs.First.{first_cluster}
use Rattle.run_outcomes.proofs.own_steps.Arrivals.{IsArrival, arrivals_lead}
use Rattle.run_outcomes.proofs.own_steps.Besides.{IsOwnDoing, besides_lead}
use Rattle.run_outcomes.proofs.own_steps.So.{steps_are_so}
use Rattle.run_outcomes.proofs.own_steps.Steps.{LeadsThere, OwnStepsLead, takes_part}

takes_either : (x : Happening) (n : ℕ) → takes_part n x ≡ true → IsArrival x ⊎ IsOwnDoing x
takes_either (Arrives number p m now ends) n part = inl tt
takes_either (Strays number p) n part = inl tt
takes_either (Takes m now ends i) n part = inr tt
takes_either (Commands m d q now ends) n part = inr tt
takes_either (Writes m d value now ends) n part = inr tt
takes_either _ n part = absurd (false_true part)

pub own_steps_lead : OwnStepsLead
own_steps_lead h cells hs x last nodes few small disks may shaped native boots left had n part = by_either (takes_either x n part)
  where
    by_either : IsArrival x ⊎ IsOwnDoing x
        → LeadsThere h (all_happened (first_cluster h) (first_scene h cells) hs) x (all_happened (first_cluster h) (first_scene h cells) (hs ++ x ∷ [])) n
    by_either (inl is) = arrivals_lead steps_are_so h cells hs x last nodes few small disks may shaped native boots left is had n part
    by_either (inr is) = besides_lead steps_are_so h cells hs x last nodes few small disks may shaped native boots left is had n part
