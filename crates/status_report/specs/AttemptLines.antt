-- How an attempt on a membership begins, or ends without one.
use Rattle.std.specs.Prelude.{ℕ, List, [], ◌∷◌, ◌++◌, codes}
use Rattle.std.specs.Fmt.{decimal}
use Rattle.cl_base.specs.Numbers.{set_text}
use Rattle.cl_base.specs.declared.seizing.Lack.{Lack}
use Rattle.cl_base.specs.declared.seizing.Obstacle.{Obstacle}
use Rattle.cl_base.specs.declared.seizing.Obstacle.TheVariants.{NoPath, Seizing}
use Rattle.cl_base.specs.declared.seizing.SeizeEnd.{SeizeEnd}
use Rattle.cl_base.specs.declared.seizing.SeizeEnd.TheVariants.{Held, NotRegistered, Greater, Expelled, Contended, Fault}
use Rattle.status_report.specs.declared.attempt_entry.AttemptEntry.{AttemptEntry}
use Rattle.status_report.specs.declared.attempt_entry.AttemptEntry.TheVariants.{Begun, Votes, Superseded, Silent, Excluded, Foreign}
use Rattle.status_report.specs.Words.{hex, joined, spaced}

-- a word is decimal, a key hexadecimal; a device that is held is no obstacle, so `held` never comes
abbrev pub end_text : SeizeEnd Unit → List ℕ
end_text (Held u) = codes "held"
end_text (NotRegistered u) = codes "not-registered"
end_text (Greater word) = codes "greater-" ++ decimal word
end_text Expelled = codes "expelled"
end_text (Contended key) = codes "contended-" ++ hex key
end_text Fault = codes "fault"

abbrev pub obstacle_text : Obstacle → List ℕ
obstacle_text NoPath = codes "no-path"
obstacle_text (Seizing end) = end_text end

-- the device and the obstacle, with a colon (58) between
abbrev pub lack_text : Lack → List ℕ
lack_text lack = decimal lack.device ++ 58 ∷ obstacle_text lack.obstacle

-- the devices with spaces (32) between, or `none`
abbrev pub lacking_text : List Lack → List ℕ
lacking_text [] = codes "none"
lacking_text (lack ∷ lacks) = joined 32 lack_text (lack ∷ lacks)

abbrev pub attempt_text : AttemptEntry → List ℕ
attempt_text (Begun epoch members) = spaced (codes "attempt" ∷ decimal epoch ∷ set_text members ∷ [])
attempt_text (Votes epoch have need lacking) =
    spaced (codes "ended" ∷ decimal epoch ∷ codes "votes" ∷ decimal have ∷ decimal need ∷ lacking_text lacking ∷ [])
attempt_text (Superseded epoch by) = spaced (codes "ended" ∷ decimal epoch ∷ codes "superseded" ∷ decimal by ∷ [])
attempt_text (Silent epoch node) = spaced (codes "ended" ∷ decimal epoch ∷ codes "silent" ∷ decimal node ∷ [])
attempt_text (Excluded epoch node) = spaced (codes "ended" ∷ decimal epoch ∷ codes "excluded" ∷ decimal node ∷ [])
attempt_text (Foreign epoch node) = spaced (codes "ended" ∷ decimal epoch ∷ codes "foreign" ∷ decimal node ∷ [])
