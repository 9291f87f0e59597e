-- What the text of an answer is read as.
use Rattle.std.specs.Prelude.{ℕ, List, [], ◌∷◌, Option, Some, None, codes, if◌then◌else◌}
use Rattle.std.specs.Option.{option_map}
use Rattle.std.specs.Str.{bytes_eq}
use Rattle.cl_base.specs.declared.refusal.Refusal.TheVariants as refusal
use Rattle.status_report.specs.declared.command_entry.Answer.{Answer}
use Rattle.status_report.specs.declared.command_entry.Answer.TheVariants.{Ask, Refused}
use Rattle.rg_props.specs.Values.{or_else}
use Rattle.rg_props.specs.Words.{decimal_in, name_in, parts_at}
use Rattle.answer_words.specs.declared.spelling.OperandWord.{OperandWord}
use Rattle.answer_words.specs.declared.spelling.OperandWord.TheVariants as reason
use Rattle.answer_words.specs.Operands.{names_in, node_in, one, thing_in, two}
use Rattle.answer_words.specs.Spellings.{operand_word_in, plain_refusal_in, refused_command_in, whole_answer_in}

-- the operands behind each of the words that operands follow
abbrev pub refused_by : OperandWord → List (List ℕ) → Option Answer
refused_by reason.Ask operands = one node_in (λ node. Ask node) operands
refused_by reason.Unknown operands = one thing_in (λ thing. Refused (refusal.Unknown thing)) operands
refused_by reason.InUse operands = one name_in (λ name. Refused (refusal.InUse name)) operands
refused_by reason.NotListed operands = one node_in (λ node. Refused (refusal.NotListed node)) operands
refused_by reason.Cycle operands = one names_in (λ names. Refused (refusal.Cycle names)) operands
refused_by reason.LoseQuorum operands = two decimal_in decimal_in (λ have need. Refused (refusal.LoseQuorum have need)) operands
refused_by reason.RecordFull operands = one decimal_in (λ length. Refused (refusal.RecordFull length)) operands

-- none, where no operands follow the word
abbrev pub refused_if : Option OperandWord → List (List ℕ) → Option Answer
refused_if None operands = None
refused_if (Some word) operands = refused_by word operands

-- one word behind `refused`: a refusal over the configuration, or one whatever it is
abbrev pub plainly_refused : List ℕ → Option Answer
plainly_refused word = or_else (option_map (λ why. Refused why) (plain_refusal_in word)) (refused_command_in word)

-- the word behind `refused`, and its operands
abbrev pub refused : List ℕ → List (List ℕ) → Option Answer
refused word [] = plainly_refused word
refused word (operand ∷ operands) = refused_if (operand_word_in word) (operand ∷ operands)

-- the words of an answer
abbrev pub answer_of : List (List ℕ) → Option Answer
answer_of [] = None
answer_of (word ∷ []) = whole_answer_in word
answer_of (first ∷ word ∷ operands) = if bytes_eq first (codes "refused") then refused word operands else None

-- the answer that the text tells, cut at each space (32)
unfoldable pub answer_in : List ℕ → Option Answer
answer_in text = answer_of (parts_at 32 text)
