-- What the words of the command line ask for where nothing is read.
use Rattle.std.specs.Prelude.{ℕ, if◌then◌else◌, List, [], ◌∷◌, Option, Some, None, codes}
use Rattle.std.specs.Str.{bytes_eq}
use Rattle.clreplay.specs.declared.help.Answer.{Answer}
use Rattle.clreplay.specs.declared.help.Answer.TheVariants.{Help, Version}

-- the one word `--help`, or the one word `--version`
abbrev pub answer_of : List (List ℕ) → Option Answer
answer_of [] = None
answer_of (word ∷ []) = if bytes_eq word (codes "--help") then Some Help else if bytes_eq word (codes "--version") then Some Version else None
answer_of (word ∷ other ∷ words) = None
