-- Steps without an end, a start and a wish for votes: what is sent to the members, and what is asked of them.
use Rattle.std.proofs.Common.{◌≡◌, ℕ, List, [], ◌∷◌, map, refl}
use Rattle.std.specs.Prelude.{◌==◌, false, Option, Some, None}
use Rattle.std.specs.List.{filter_map, cons_option}
use Rattle.seize.specs.declared.kind.SeizeKind.{SeizeKind}
use Rattle.cl_base.specs.Seizings.{SeizeResult}
use Rattle.wire.specs.declared.message.Body.{Body}
use Rattle.wire.specs.declared.message.Body.TheVariants as body
use Rattle.cmm_attempt.specs.declared.phase.Phase.{Phase}
use Rattle.cmm_attempt.specs.declared.phase.Phase.TheVariants.{Collecting, Choosing, SeizingVotes, SeizingOthers, Installing, Over}
use Rattle.cmm_attempt.specs.Plans.{others_of}
use Rattle.cmm_attempt.specs.Seizings.{request, request_body, request_by, request_for, again_by, again_for}
use Rattle.cmm_attempt.specs.Calls.{end_in, starts_in, wish_in}
use Rattle.cmm_attempt.proofs.Basics.{if_either}
use Rattle.cmm_attempt.specs.declared.plan.Plan.{Plan}
use Rattle.cmm_attempt.specs.declared.seizing.Seizing.{Seizing}
use Rattle.cmm_attempt.specs.declared.step.Step.{Step}
use Rattle.cmm_attempt.specs.declared.step.Step.TheVariants.{Send, SeizeHere, NeedVotes, InstallHere, StartHere, Ended}
use Rattle.cmm_attempt.specs.Installs.{send_to, send_start}
use Rattle.cmm_attempt.specs.Attempts.{AttemptState, silent_others, install_in, installs, installed, collects, again_in}

pub record IsQuiet (steps : List Step) : Type 0 where
  pub end : end_in steps ≡ None
  pub start : starts_in steps ≡ false
  pub wish : wish_in steps ≡ None

abbrev pub IsQuietStep : Step → Type 0
IsQuietStep (Send to message) = Unit {0}
IsQuietStep (SeizeHere d kind) = Unit {0}
IsQuietStep (InstallHere i) = Unit {0}
IsQuietStep (NeedVotes n) = ⊥
IsQuietStep StartHere = ⊥
IsQuietStep (Ended e) = ⊥

abbrev pub IsQuietMaybe : Option Step → Type 0
IsQuietMaybe None = Unit {0}
IsQuietMaybe (Some x) = IsQuietStep x

pub quiet_none : IsQuiet []
quiet_none = record { end = refl; start = refl; wish = refl }

pub quiet_cons : (x : Step) (xs : List Step) → IsQuietStep x → IsQuiet xs → IsQuiet (x ∷ xs)
quiet_cons (Send to message) xs q h = record { end = h.end; start = h.start; wish = h.wish }
quiet_cons (SeizeHere d kind) xs q h = record { end = h.end; start = h.start; wish = h.wish }
quiet_cons (InstallHere i) xs q h = record { end = h.end; start = h.start; wish = h.wish }
quiet_cons (NeedVotes n) xs q h = absurd q
quiet_cons StartHere xs q h = absurd q
quiet_cons (Ended e) xs q h = absurd q

quiet_option : (o : Option Step) (xs : List Step) → IsQuietMaybe o → IsQuiet xs → IsQuiet (cons_option o xs)
quiet_option None xs q h = h
quiet_option (Some x) xs q h = quiet_cons x xs q h

pub quiet_sends : (plan : Plan) (b : Body) (ns : List ℕ) → IsQuiet (map (send_to plan b) ns)
quiet_sends plan b [] = quiet_none
quiet_sends plan b (n ∷ ns) = quiet_cons (send_to plan b n) (map (send_to plan b) ns) tt (quiet_sends plan b ns)

pub quiet_request : (plan : Plan) (kind : SeizeKind) (d n : ℕ) → IsQuietStep (request plan kind d n)
quiet_request plan kind d n =
    if_either IsQuietStep (n == plan.coordinator) (SeizeHere d kind) (Send n (record { sender = plan.coordinator; body = request_body plan kind d })) tt tt

quiet_request_by : (plan : Plan) (e : Seizing) (r : Option SeizeResult) (o : Option ℕ) → IsQuietMaybe (request_by plan e r o)
quiet_request_by plan e None (Some n) = quiet_request plan e.kind e.attached.device n
quiet_request_by plan e None None = tt
quiet_request_by plan e (Some r) o = tt

pub quiet_requests : (plan : Plan) (es : List Seizing) → IsQuiet (filter_map (request_for plan) es)
quiet_requests plan [] = quiet_none
quiet_requests plan (e ∷ es) =
    quiet_option (request_for plan e) (filter_map (request_for plan) es) (quiet_request_by plan e e.result e.seizer) (quiet_requests plan es)

quiet_again_by : (plan : Plan) (e : Seizing) (r : Option SeizeResult) (o : Option ℕ) → IsQuietMaybe (again_by plan e r o)
quiet_again_by plan e None (Some n) =
    if_either IsQuietMaybe (n == plan.coordinator) None (Some (request plan e.kind e.attached.device n)) tt (quiet_request plan e.kind e.attached.device n)
quiet_again_by plan e None None = tt
quiet_again_by plan e (Some r) o = tt

pub quiet_again : (plan : Plan) (es : List Seizing) → IsQuiet (filter_map (again_for plan) es)
quiet_again plan [] = quiet_none
quiet_again plan (e ∷ es) =
    quiet_option (again_for plan e) (filter_map (again_for plan) es) (quiet_again_by plan e e.result e.seizer) (quiet_again plan es)

pub quiet_installs : (s : AttemptState) → IsQuiet (installs s)
quiet_installs s = quiet_sends s.plan (body.Install (install_in s)) (silent_others s)

pub quiet_collects : (s : AttemptState) → IsQuiet (collects s)
quiet_collects s = quiet_sends s.plan (body.Collect s.plan.epoch s.plan.members) (silent_others s)

pub quiet_starts : (s : AttemptState) → IsQuiet (map (send_start s.plan) (others_of s.plan))
quiet_starts s = quiet_sends s.plan (body.Start s.plan.epoch) (others_of s.plan)

pub quiet_installed : (s : AttemptState) → IsQuiet (installed s).steps
quiet_installed s = quiet_cons (InstallHere (install_in s)) (installs s) tt (quiet_installs s)

pub quiet_asked : (plan : Plan) (kind : SeizeKind) (d n : ℕ) → IsQuiet (request plan kind d n ∷ [])
quiet_asked plan kind d n = quiet_cons (request plan kind d n) [] (quiet_request plan kind d n) quiet_none

pub quiet_again_in : (s : AttemptState) (phase : Phase) → IsQuiet (again_in s phase)
quiet_again_in s Collecting = quiet_collects s
quiet_again_in s Choosing = quiet_none
quiet_again_in s SeizingVotes = quiet_again s.plan s.devices
quiet_again_in s SeizingOthers = quiet_again s.plan s.devices
quiet_again_in s Installing = quiet_installs s
quiet_again_in s Over = quiet_none
