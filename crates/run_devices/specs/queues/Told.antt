-- What the lines tell of the tasks of a node at shared devices: as `tasks_of` of `history`, and open (None) from where they come from what is not
-- told here, until they are dropped.
use Rattle.std.specs.Prelude.{ℕ, ◌==◌, ◌&&◌, ◌||◌, not, ◌≡◌, Bool, true, false, if◌then◌else◌, List, [], ◌∷◌, length, Option, Some, None, is_some, option_map}
use Rattle.std.specs.List.{list_any}
use Rattle.cl_base.specs.Sets.{has}
use Rattle.wire.specs.declared.message.Body.{Body}
use Rattle.wire.specs.declared.message.Body.TheVariants as body
use Rattle.history.specs.Letters.{Letter, letter_of, says}
use Rattle.history.specs.Member.{attempt_of, in_collect, number_of}
use Rattle.history.specs.Moment.{Moment}
use Rattle.history.specs.Names as name
use Rattle.history.specs.Names.{Name}
use Rattle.history.specs.Queue.{Task, answer_told, is_open, is_write, joinings, moved, requested, tasks_of}
use Rattle.history.specs.Seizing.{acts_for, is_number, seizing_of}
use Rattle.history.specs.Setting.{Setting, all_to, coordinator, paths_of}
use Rattle.history.specs.Trace.{up, down, saved, installed, attempt, ended_votes, ended_excluded, ended_foreign, delivered, device}
use Rattle.history.specs.Validated.{is_valid, validity}
use Rattle.node_model.specs.Members.{is_foreign_seizing}
use Rattle.world_model.specs.First.{first_cluster}

-- ---- its own seizings

-- n coordinates this attempt, which is its session, and which it has not installed: it may seize devices for it itself
abbrev pub leads_for : ℕ → Option ℕ → List Moment → Bool
leads_for n None moments = false
leads_for n (Some e) moments = acts_for n e moments

abbrev pub leads : ℕ → List Moment → Bool
leads n moments = leads_for n (attempt_of n moments) moments

-- ---- a request to seize

-- its bytes say what its line says, of the attempt of its sender
abbrev pub is_spelled : Setting → ℕ → Option ℕ → Option Body → Bool
is_spelled S n number (Some (body.SeizeQuorum e members d)) = is_number e number && not (is_foreign_seizing (first_cluster S.header) n members d)
is_spelled S n number (Some (body.SeizeData e members d)) = is_number e number && not (is_foreign_seizing (first_cluster S.header) n members d)
is_spelled S n number _ = false

abbrev pub acts_in : ℕ → Option ℕ → List Moment → Bool
acts_in n None before = false
acts_in n (Some e) before = acts_for n e before

-- a quorum device is seized by the key that the record of n calls valid
abbrev pub is_trusted : Setting → ℕ → ℕ → List Moment → Bool
is_trusted S n d before = is_valid (validity S.header n d before)

abbrev pub is_plain : Setting → ℕ → Letter → List Moment → Bool
is_plain S n l before = is_spelled S n (number_of l) (says l.bytes)

abbrev pub sought : Setting → ℕ → Letter → List Moment → Name → Option (List Task) → Option (List Task)
sought S n l before (name.SeizeQuorum d) tasks =
    if is_plain S n l before && (is_trusted S n d before || not (acts_in n (number_of l) before)) then option_map (requested S n (Some l) before) tasks else None
sought S n l before (name.SeizeData d) tasks = if is_plain S n l before then option_map (requested S n (Some l) before) tasks else None
sought S n l before _ tasks = tasks

abbrev pub brought : Setting → ℕ → Option Letter → List Moment → Option (List Task) → Option (List Task)
brought S n None before tasks = tasks
brought S n (Some l) before tasks = sought S n l before l.name tasks

-- ---- an install

-- d is attached to n, was seized for e, and the trace does not tell whether it was valid to n
abbrev pub is_unsure : Setting → ℕ → ℕ → List Moment → ℕ → Bool
is_unsure S n e before d = has (paths_of S.header d) n && is_some (seizing_of S.header e d before) && is_open (validity S.header n d before)

-- it brings the joinings of `history`, but where a stop left open whether such a device is valid
abbrev pub joined : Setting → ℕ → ℕ → List Moment → Option (List Task)
joined S n e before = if list_any (is_unsure S n e before) (all_to (length S.header.devices)) then None else Some (joinings S n e before)

-- ---- the tasks of n

-- what a moment makes of what is told. An attempt that ends for its votes, or for a member, leaves seizings of its own that are over.
abbrev pub told_after : Setting → ℕ → Moment → List Moment → Option (List Task) → Option (List Task)
told_after S n (up m) before tasks = if m == n then Some [] else tasks
told_after S n (down m why) before tasks = if m == n then Some [] else tasks
told_after S n (saved m) before tasks = if (m == n) && in_collect n before then Some [] else tasks
told_after S n (attempt e members) before tasks = if coordinator e == n then Some [] else tasks
told_after S n (ended_votes e have need lacking) before tasks = if coordinator e == n then None else tasks
told_after S n (ended_excluded e m) before tasks = if coordinator e == n then None else tasks
told_after S n (ended_foreign e m) before tasks = if coordinator e == n then None else tasks
told_after S n (installed m e) before tasks = if m == n then joined S n e before else tasks
told_after S n (delivered p a m) before tasks = if m == n then brought S n (letter_of p before) before tasks else tasks
told_after S n (device m d done reply) before tasks = if (m == n) && not (is_write done) then option_map (moved (answer_told reply)) tasks else tasks
told_after S n _ before tasks = tasks

abbrev pub unless : Bool → Option (List Task) → Option (List Task)
unless true tasks = None
unless false tasks = tasks

-- open while n leads, and from then on until its tasks are dropped
abbrev pub told_tasks : Setting → ℕ → List Moment → Option (List Task)
told_tasks S n [] = Some []
told_tasks S n (x ∷ before) = unless (leads n (x ∷ before)) (told_after S n x before (told_tasks S n before))

-- Where they are told, they are what `history` has.
abbrev pub ToldAsInHistory : Type 0
ToldAsInHistory = (S : Setting) (n : ℕ) (moments : List Moment) (tasks : List Task) → told_tasks S n moments ≡ Some tasks → tasks_of S n moments ≡ tasks
