-- Whatever happens, what a node installs it does with the record that the lines tell.
use Rattle.std.specs.Prelude.{◌≡◌, ◌⊎◌, List, [], ◌∷◌, Option, None, Some}
use Rattle.std.proofs.Common.{sym, subst, inl, inr}
use Rattle.cl_base.specs.declared.header.Header.{Header}
use Rattle.node_model.specs.declared.input.Input.TheVariants as input
use Rattle.world_model.specs.First.{first_cluster}
use Rattle.run_history.specs.Happenings.{Happening, MayHappen}
use Rattle.run_history.specs.Happenings.Happening.{Arrives, Begins, Commands, Loses, Misses, Notes, Refuses, Repeats, Speaks, Strays, Takes, Writes}
use Rattle.run_history.specs.Rounds.{Progress}
use Rattle.run_history.specs.Scenes.{Scene}
use Rattle.run_history.specs.Shapes.{Comes, Due, IsDue, IsThis, Opens, Want}
use Rattle.run_history.specs.Shapes as want
use Rattle.run_history.specs.Stages.{site_of}
use Rattle.run_devices.specs.validity.Kept.{readying}
use Rattle.run_devices.proofs.validity.Courses.{IsTrusting}
use Rattle.run_devices.proofs.validity.Moments.{AgreesAt, Differs, Known, arrives_strict, commands_strict, readies_around, takes_strict, writes_strict}
use Rattle.run_devices.proofs.validity.Steps.{Around}
use Rattle.run_devices.proofs.validity.Wants.{Kept, trusting_or}

due_agrees : (h : Header) (s : Scene) (w : Want) (wants : List Want) (x : Happening) → IsThis w x → MayHappen (first_cluster h) s x → Known h s → Differs h s x
    → Kept h s (w ∷ wants) → AgreesAt h s x
due_agrees h s (want.Note e) wants (Notes f) is may b differ k = tt
due_agrees h s (want.Take n i) wants (Takes m now ends j) is may b differ k = by_input (trusting_or j may.1)
  where
    by_input : (j ≡ input.CommandDue) ⊎ IsTrusting j → AgreesAt h s (Takes m now ends j)
    by_input (inr trusts) = (takes_strict h s m now ends j may b differ trusts k.so).1
    by_input (inl due) =
        subst (λ z. AgreesAt h s (Takes m now ends z)) (sym due)
        (readies_around h s m now ends (subst (λ z. MayHappen (first_cluster h) s (Takes m now ends z)) due may) b (subst (λ z. Differs h s (Takes m now ends z)) due differ) k.so).1
due_agrees h s (want.Deliver number x) wants (Arrives j y m now ends) is may b differ k = (arrives_strict h s j y m now ends may b differ k.so).1
due_agrees h s (want.Deliver number x) wants (Strays j y) is may b differ k = tt
due_agrees h s (want.Miss number x) wants (Misses j y) is may b differ k = tt
due_agrees h s (want.Lose number x) wants (Loses j y) is may b differ k = tt
due_agrees h s (want.Repeat number x) wants (Repeats j y) is may b differ k = tt
due_agrees h s (want.Command n) wants (Commands m d q now ends) is may b differ k =
    (commands_strict h s m d q now ends may b differ (subst (λ z. Around h s z (readying (site_of s.nodes z))) (sym is) k.so)).1
due_agrees h s (want.Write n d value) wants (Writes m e v now ends) is may b differ k = (writes_strict h s m e v now ends may b differ k.so).1
due_agrees h s (want.Refuse n d value why) wants (Refuses m e v w) is may b differ k = tt
due_agrees h s _ wants _ is may b differ k = absurd is

opens_agree : (h : Header) (s : Scene) (rounds : Option Progress) (x : Happening) → Opens s rounds x → AgreesAt h s x
opens_agree h s None (Speaks e) opens = tt
opens_agree h s (Some p) (Begins e) opens = tt
opens_agree h s (Some p) (Notes e) opens = tt
opens_agree h s _ _ opens = absurd opens

pub agrees_at : (h : Header) (s : Scene) (d : Due) (x : Happening) → IsDue s d x → MayHappen (first_cluster h) s x → Known h s → Differs h s x → Kept h s d.wants → AgreesAt h s x
agrees_at h s d x due may b differ k = by_wants d.wants due k
  where
    by_wants : (wants : List Want) → Comes s wants d.rounds x → Kept h s wants → AgreesAt h s x
    by_wants [] comes l = opens_agree h s d.rounds x comes
    by_wants (w ∷ wants) comes l = due_agrees h s w wants x comes may b differ l
