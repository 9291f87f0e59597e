-- What a membership starts with.
use Rattle.std.specs.Prelude.{ℕ, Bool, true, false, List, [], ◌++◌, codes, ◌∷◌}
use Rattle.std.specs.Fmt.{decimal}
use Rattle.cl_base.specs.Numbers.{set_text}
use Rattle.status_report.specs.declared.start_entry.AdoptedFlags.{AdoptedFlags}
use Rattle.status_report.specs.declared.start_entry.StartEntry.{StartEntry}
use Rattle.status_report.specs.declared.start_entry.StartEntry.TheVariants.{Started, Base, Adopted}
use Rattle.status_report.specs.Words.{spaced}

-- the letter of a flag that is set
abbrev pub letter_if : Bool → List ℕ → List ℕ
letter_if true letter = letter
letter_if false letter = []

abbrev pub flags_text : AdoptedFlags → List ℕ
flags_text flags =
    letter_if flags.pre (codes "p") ++ (letter_if flags.run (codes "r") ++ (letter_if flags.mon (codes "m")
    ++ (letter_if flags.faulted (codes "f") ++ letter_if flags.stop_failed (codes "s"))))

abbrev pub start_text : StartEntry → List ℕ
start_text (Started epoch members held base) =
    spaced (codes "start" ∷ decimal epoch ∷ set_text members ∷ codes "held" ∷ set_text held ∷ codes "base" ∷ decimal base ∷ [])
start_text (Base epoch place words) = spaced (codes "base" ∷ decimal epoch ∷ decimal place ∷ words ∷ [])
start_text (Adopted epoch node resource flags) =
    spaced (codes "adopt" ∷ decimal epoch ∷ decimal node ∷ resource ∷ flags_text flags ∷ [])
