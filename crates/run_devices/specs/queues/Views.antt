-- What is told of the tasks of a node by its lines alone, as `told_tasks` has it, or with two things more: that a node which is asked to seize a quorum device holds it valid, and
-- that as it installs another's session its last Promise shows what it holds so.
use Rattle.std.specs.Prelude.{ℕ, ◌==◌, ◌&&◌, ◌||◌, not, ◌≡◌, Bool, true, false, if◌then◌else◌, List, [], ◌∷◌, length, Option, Some, None, option_map}
use Rattle.std.specs.List.{list_any}
use Rattle.cl_base.specs.Sets.{has}
use Rattle.history.specs.Letters.{Letter, letter_of}
use Rattle.history.specs.Member.{in_collect, number_of}
use Rattle.history.specs.Moment.{Moment}
use Rattle.history.specs.Names as name
use Rattle.history.specs.Names.{Name}
use Rattle.history.specs.Queue.{Task, answer_told, is_open, is_write, joinings, moved, requested, shown_valid}
use Rattle.history.specs.Seizing.{Seizing, seizing_of}
use Rattle.history.specs.Setting.{Setting, all_to, coordinator, key_of, paths_of}
use Rattle.history.specs.Trace.{up, down, saved, installed, attempt, ended_votes, ended_excluded, ended_foreign, delivered, device}
use Rattle.history.specs.Validated.{Open, validity}
use Rattle.run_history.specs.WorldLines.{IsDevice}
use Rattle.run_devices.specs.queues.Told.{acts_in, is_plain, is_trusted, is_unsure, leads, unless}

pub record View : Type 0 where
  pub setting : Setting
  -- by the lines alone
  pub alone : Bool

-- a node that is asked to seize quorum device d holds it valid
abbrev pub trusts : View → ℕ → ℕ → List Moment → Bool
trusts S n d before = not S.alone || is_trusted S.setting n d before

abbrev pub sought : View → ℕ → Letter → List Moment → Name → Option (List Task) → Option (List Task)
sought S n l before (name.SeizeQuorum d) tasks =
    if is_plain S.setting n l before && (trusts S n d before || not (acts_in n (number_of l) before)) then option_map (requested S.setting n (Some l) before) tasks else None
sought S n l before (name.SeizeData d) tasks = if is_plain S.setting n l before then option_map (requested S.setting n (Some l) before) tasks else None
sought S n l before _ tasks = tasks

abbrev pub brought : View → ℕ → Option Letter → List Moment → Option (List Task) → Option (List Task)
brought S n None before tasks = tasks
brought S n (Some l) before tasks = sought S n l before l.name tasks

-- a coordinator's own install leaves open whether d is valid to it
abbrev pub stays_open : View → ℕ → ℕ → List Moment → ℕ → Bool
stays_open S n e before d = (coordinator e == n) && (has (paths_of S.setting.header d) n && is_open (validity S.setting.header n d (installed n e ∷ before)))

abbrev pub leaves_open : View → ℕ → ℕ → List Moment → ℕ → Bool
leaves_open S n e before d = if S.alone then is_unsure S.setting n e before d else stays_open S n e before d

abbrev pub joined : View → ℕ → ℕ → List Moment → Option (List Task)
joined S n e before = if list_any (leaves_open S n e before) (all_to (length S.setting.header.devices)) then None else Some (joinings S.setting n e before)

abbrev pub told_after : View → ℕ → Moment → List Moment → Option (List Task) → Option (List Task)
told_after S n (up m) before tasks = if m == n then Some [] else tasks
told_after S n (down m why) before tasks = if m == n then Some [] else tasks
told_after S n (saved m) before tasks = if (m == n) && in_collect n before then Some [] else tasks
told_after S n (attempt e members) before tasks = if coordinator e == n then Some [] else tasks
told_after S n (ended_votes e have need lacking) before tasks = if coordinator e == n then None else tasks
told_after S n (ended_excluded e m) before tasks = if coordinator e == n then None else tasks
told_after S n (ended_foreign e m) before tasks = if coordinator e == n then None else tasks
told_after S n (installed m e) before tasks = if m == n then joined S n e before else tasks
told_after S n (delivered p a m) before tasks = if m == n then brought S n (letter_of p before) before tasks else tasks
told_after S n (device m d done reply) before tasks = if (m == n) && not (is_write done) then option_map (moved (answer_told reply)) tasks else tasks
told_after S n _ before tasks = tasks

abbrev pub told_tasks : View → ℕ → List Moment → Option (List Task)
told_tasks S n [] = Some []
told_tasks S n (x ∷ before) = unless (leads n (x ∷ before)) (told_after S n x before (told_tasks S n before))

-- Of device d, which another seized for e with the key of n, it is open by the lines whether it is valid to n.
pub record IsAsk (S : Setting) (n e d : ℕ) (before : List Moment) : Type 0 where
  pub found : Seizing
  pub device : IsDevice S.header d
  pub path : has (paths_of S.header d) n ≡ true
  pub seized : seizing_of S.header e d before ≡ Some found
  pub other : (found.seizer == n) ≡ false
  pub seen : list_any (λ key. key == key_of S.header n) found.keys ≡ true
  pub stays : validity S.header n d before ≡ Open

-- .. and n holds it as its last Promise shows it
abbrev pub ShownAs : Setting → ℕ → ℕ → ℕ → List Moment → Type 0
ShownAs S n e held before = (d : ℕ) → IsAsk S n e d before → has (shown_valid n before) d ≡ has held d
