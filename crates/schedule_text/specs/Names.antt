-- The words that name the commands to a device.
use Rattle.std.specs.Prelude.{ℕ, List, [], ◌∷◌, Option, find, codes}
use Rattle.std.specs.Str.{bytes_eq}
use Rattle.schedule_text.specs.declared.command_name.CommandName.{CommandName}
use Rattle.schedule_text.specs.declared.command_name.CommandName.TheVariants.{Register, Ignore, Reserve, Release, Clear, Preempt, Keys, Holder, Read, Write, Word, Swap}

abbrev pub name_text : CommandName → List ℕ
name_text Register = codes "register"
name_text Ignore = codes "ignore"
name_text Reserve = codes "reserve"
name_text Release = codes "release"
name_text Clear = codes "clear"
name_text Preempt = codes "preempt"
name_text Keys = codes "keys"
name_text Holder = codes "holder"
name_text Read = codes "read"
name_text Write = codes "write"
name_text Word = codes "word"
name_text Swap = codes "swap"

abbrev pub all_names : List CommandName
all_names = Read ∷ Write ∷ Keys ∷ Holder ∷ Word ∷ Swap ∷ Register ∷ Ignore ∷ Reserve ∷ Release ∷ Clear ∷ Preempt ∷ []

-- the command that a word names
unfoldable pub name_in : List ℕ → Option CommandName
name_in word = find (λ k. bytes_eq (name_text k) word) all_names
