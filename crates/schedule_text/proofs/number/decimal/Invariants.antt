use Rattle.std.proofs.Common.{◌≡◌, drop}
use Rattle.schedule_text.specs.declared.number.Numeral.TheVariants.{Within}
use Rattle.schedule_text.proofs.NumberLemmas.{read_on}
use Rattle.schedule_text.proofs.number.decimal.Given as goal

abbrev pub invariant-loop-place : goal.invariant-loop-place
invariant-loop-place l = read_on (Within l.number) (drop l.place l.word) ≡ read_on (Within 0) l.word
