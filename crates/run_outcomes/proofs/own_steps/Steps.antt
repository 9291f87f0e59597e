-- What is left to show of a step that a coordinator takes part in itself.
use Rattle.std.specs.Prelude.{ℕ, ◌≡◌, ◌==◌, ◌≤◌, ◌<◌, ◌^◌, ◌⊎◌, ◌++◌, nat_lt, Bool, true, false, List, [], ◌∷◌, length, None, Some}
use Rattle.std.specs.List.{AllByRecursion}
use Rattle.cl_base.specs.Limits.{most_devices, most_nodes}
use Rattle.cl_base.specs.declared.header.Header.{Header}
use Rattle.cmm_attempt.specs.Attempts.{AttemptState}
use Rattle.cmm_attempt.specs.Calls.{Call, May, With_votes, turn}
use Rattle.cmm_attempt.specs.declared.counting.BothVotes.{BothVotes}
use Rattle.history.specs.Queue as told
use Rattle.history_setting.specs.Settings.{setting_of}
use Rattle.node_model.specs.Attempts.{is_choosing}
use Rattle.node_model.specs.declared.node.Node.TheVariants.{Up}
use Rattle.node_model.specs.declared.node.UpNode.{UpNode}
use Rattle.run_devices.specs.queues.Laws.{Same}
use Rattle.run_devices.specs.queues.Told.{leads}
use Rattle.run_history.specs.Happenings.{Happening, MayAllHappen, all_happened}
use Rattle.run_history.specs.Happenings.Happening.{Arrives, Commands, Strays, Takes, Writes}
use Rattle.run_history.specs.Scenes.{Scene, first_scene}
use Rattle.run_history.specs.Shapes.{Due, ShapedFrom, nothing}
use Rattle.run_history.specs.WorldLines.{AreDisks}
use Rattle.run_outcomes.proofs.onward.Leads.{StepSo}
use Rattle.run_outcomes.proofs.outward.Resting.{IsRested, LeadersHave}
use Rattle.run_outcomes.proofs.told_tasks.Led.{LedOn}
use Rattle.run_outcomes.proofs.told_tasks.Queues.{SeizersHave}
use Rattle.run_outcomes.specs.phases.Laws.{is_seizing}
use Rattle.run_outcomes.specs.tasks.Laws.{OfEachLeft}
use Rattle.run_outcomes.specs.tasks.Left.{IsClosed}
use Rattle.run_packets.specs.native.Laws.{BootsInHeader}
use Rattle.run_packets.specs.views.Laws.{NoneForeign}
use Rattle.world_model.specs.First.{first_cluster}

-- node n takes part in it
abbrev pub takes_part : ℕ → Happening → Bool
takes_part n (Takes m now ends i) = m == n
takes_part n (Arrives number x m now ends) = x.to == n
takes_part n (Strays number x) = x.to == n
takes_part n (Commands m d k now ends) = m == n
takes_part n (Writes m d value now ends) = m == n
takes_part n _ = false

-- P of each thing that happens, of the scene before it and the one after it. A packet number is left behind it, and nodes of the header alone boot.
abbrev pub OfEachStep : (Header → Scene → Happening → Scene → Type 0) → Type 0
OfEachStep P = (h : Header) (cells : ℕ) (hs : List Happening) (x : Happening) (last : Due) → h.nodes ≤ most_nodes → length h.devices ≤ most_devices → h.cluster < 2 ^ 32 → AreDisks h
    → MayAllHappen (first_cluster h) (first_scene h cells) (hs ++ x ∷ []) → ShapedFrom (first_cluster h) (first_scene h cells) nothing (hs ++ x ∷ []) last
    → NoneForeign (first_cluster h) (first_scene h cells) (hs ++ x ∷ []) → AllByRecursion (BootsInHeader h) (hs ++ x ∷ [])
    → nat_lt (all_happened (first_cluster h) (first_scene h cells) (hs ++ x ∷ [])).links.next (2 ^ 63) ≡ true
    → P h (all_happened (first_cluster h) (first_scene h cells) hs) x (all_happened (first_cluster h) (first_scene h cells) (hs ++ x ∷ []))

-- Where coordinators had their tasks before it, one that takes part in it and whose attempt seizes devices has them after it, or has come to them as `LedOn` has it.
abbrev pub LeadsThere : Header → Scene → Happening → Scene → ℕ → Type 0
LeadsThere h s x t n = (y : UpNode) (a : AttemptState) (both : BothVotes) → t.nodes.node n ≡ Up y → y.attempt ≡ Some a → is_seizing a.phase ≡ true → a.votes ≡ Some both → IsClosed h t n
    → Same y.tasks (told.tasks_of (setting_of h) n t.moments) ⊎ LedOn (setting_of h) n y a both t.moments

abbrev pub OwnStepsLead : Type 0
OwnStepsLead = OfEachStep (λ h s x t. SeizersHave h s → (n : ℕ) → takes_part n x ≡ true → LeadsThere h s x t n)

-- .. and one that leads, without an attempt after it, has its tasks, or none
abbrev pub RestsThere : Header → Scene → Happening → Scene → ℕ → Type 0
RestsThere h s x t n = (y : UpNode) → t.nodes.node n ≡ Up y → y.attempt ≡ None → leads n t.moments ≡ true → IsClosed h t n → IsRested y (told.tasks_of (setting_of h) n t.moments)

abbrev pub OwnStepsRest : Type 0
OwnStepsRest = OfEachStep (λ h s x t. LeadersHave h s → (n : ℕ) → takes_part n x ≡ true → RestsThere h s x t n)

-- ---- what is known of a coordinator whose attempt takes a call

-- the call, which may be taken, has led to b, or the votes have that were asked for and given at once
abbrev pub Follows : AttemptState → Call → AttemptState → Type 0
Follows a k b = May a k × ((b ≡ (turn a k).after) ⊎ ((v : BothVotes) × (is_choosing (turn a k).after.phase ≡ true) × (b ≡ (turn (turn a k).after (With_votes v)).after)))

abbrev pub StepsAreSo : Type 0
StepsAreSo = OfEachLeft (λ h s. SeizersHave h s → (n : ℕ) (w : UpNode) (a b : AttemptState) (both : BothVotes) (k : Call) → s.nodes.node n ≡ Up w → w.attempt ≡ Some a → IsClosed h s n
    → Follows a k b → is_seizing b.phase ≡ true → b.votes ≡ Some both → StepSo (setting_of h) (first_cluster h) n w k b both s.moments)
