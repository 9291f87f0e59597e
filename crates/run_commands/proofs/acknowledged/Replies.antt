-- The text of a reply is read as `ok` only where it is.
use Rattle.std.specs.Prelude.{ℕ, ◌≡◌, ◌==◌, Bool, true, false, List, [], ◌∷◌, ◌++◌, Option, None, Some, codes, if◌then◌else◌}
use Rattle.std.specs.Option.{option_map}
use Rattle.std.proofs.Common.{refl, sym, ap, ◌∙◌}
use Rattle.std.proofs.lemmas.List.Elements.{All-from_recursion}
use Rattle.std.proofs.lemmas.List.Splits.{slice_split_at}
use Rattle.std.specs.Str.{bytes_eq}
use Rattle.cl_base.specs.declared.refusal.Refusal.{Refusal}
use Rattle.rg_props.specs.Values.{and_then, or_else}
use Rattle.cl_base.specs.declared.refusal.Refusal.TheVariants as refusal
use Rattle.rg_props.specs.Words.{decimal_in, name_in, parts_at}
use Rattle.status_report.specs.CommandLines.{reply_text}
use Rattle.status_report.specs.declared.command_entry.Answer.{Answer}
use Rattle.status_report.specs.declared.command_entry.Answer.TheVariants as answer
use Rattle.answer_words.proofs.Cuts.{spaceless}
use Rattle.answer_words.proofs.Replies.{answer_read}
use Rattle.answer_words.specs.Laws.{IsAnswer}
use Rattle.answer_words.specs.Answers.{answer_in, answer_of, plainly_refused, refused, refused_by, refused_if}
use Rattle.answer_words.specs.Operands.{names_in, node_in, one, thing_in, two}
use Rattle.answer_words.specs.Spellings.{operand_word_in, plain_refusal_in, refused_command_in, whole_answer_in}
use Rattle.answer_words.specs.declared.spelling.OperandWord.{OperandWord}
use Rattle.answer_words.specs.declared.spelling.OperandWord.TheVariants as reason

some_answer : (a b : Answer) → Some a ≡ Some b → a ≡ b
some_answer a b e = cc

map_no : {A : Type 0} (make : A → Answer) (o : Option A) → ((x : A) → make x ≡ answer.Ok → ⊥) → option_map make o ≡ Some answer.Ok → ⊥
map_no make None never e = cc
map_no make (Some x) never e = never x (some_answer (make x) answer.Ok e)

then_no : {A C : Type 0} (make : A → C → Answer) (o : Option A) (p : Option C) → ((x : A) (y : C) → make x y ≡ answer.Ok → ⊥) → and_then o (λ a. option_map (λ b. make a b) p) ≡ Some answer.Ok → ⊥
then_no make None p never e = cc
then_no make (Some x) p never e = map_no (λ b. make x b) p (never x) e

one_no : {A : Type 0} (read : List ℕ → Option A) (make : A → Answer) (operands : List (List ℕ)) → ((x : A) → make x ≡ answer.Ok → ⊥) → one read make operands ≡ Some answer.Ok → ⊥
one_no read make [] never e = cc
one_no read make (word ∷ []) never e = map_no make (read word) never e
one_no read make (word ∷ next ∷ words) never e = cc

two_no : {A C : Type 0} (first : List ℕ → Option A) (second : List ℕ → Option C) (make : A → C → Answer) (operands : List (List ℕ)) → ((x : A) (y : C) → make x y ≡ answer.Ok → ⊥) → two first second make operands ≡ Some answer.Ok → ⊥
two_no first second make [] never e = cc
two_no first second make (word ∷ []) never e = cc
two_no first second make (word ∷ next ∷ []) never e = then_no make (first word) (second next) never e
two_no first second make (word ∷ next ∷ more ∷ words) never e = cc

operands_no : (word : OperandWord) (operands : List (List ℕ)) → refused_by word operands ≡ Some answer.Ok → ⊥
operands_no reason.Ask operands e = one_no node_in (λ node. answer.Ask node) operands (λ x z. cc) e
operands_no reason.Unknown operands e = one_no thing_in (λ thing. answer.Refused (refusal.Unknown thing)) operands (λ x z. cc) e
operands_no reason.InUse operands e = one_no name_in (λ name. answer.Refused (refusal.InUse name)) operands (λ x z. cc) e
operands_no reason.NotListed operands e = one_no node_in (λ node. answer.Refused (refusal.NotListed node)) operands (λ x z. cc) e
operands_no reason.Cycle operands e = one_no names_in (λ names. answer.Refused (refusal.Cycle names)) operands (λ x z. cc) e
operands_no reason.LoseQuorum operands e = two_no decimal_in decimal_in (λ have need. answer.Refused (refusal.LoseQuorum have need)) operands (λ x y z. cc) e
operands_no reason.RecordFull operands e = one_no decimal_in (λ length. answer.Refused (refusal.RecordFull length)) operands (λ x z. cc) e

command_no : (word : List ℕ) → refused_command_in word ≡ Some answer.Ok → ⊥
unfolding refused_command_in
command_no word e = by (bytes_eq word (codes "unknown-command")) (bytes_eq word (codes "missing-operand")) (bytes_eq word (codes "bad-value")) (bytes_eq word (codes "not-member")) (bytes_eq word (codes "queue-full")) e
  where
    by : (a b c d f : Bool)
        → (if a then Some answer.UnknownCommand else if b then Some answer.MissingOperand else if c then Some answer.BadValue else if d then Some answer.NotMember else if f then Some answer.QueueFull else None) ≡ Some answer.Ok → ⊥
    by true b c d f z = cc
    by false true c d f z = cc
    by false false true d f z = cc
    by false false false true f z = cc
    by false false false false true z = cc
    by false false false false false z = cc

plain_no : (word : List ℕ) → plainly_refused word ≡ Some answer.Ok → ⊥
plain_no word e = by (plain_refusal_in word) e
  where
    by : (o : Option Refusal) → or_else (option_map (λ why. answer.Refused why) o) (refused_command_in word) ≡ Some answer.Ok → ⊥
    by None z = command_no word z
    by (Some why) z = cc

refused_no : (word : List ℕ) (operands : List (List ℕ)) → refused word operands ≡ Some answer.Ok → ⊥
refused_no word [] e = plain_no word e
refused_no word (operand ∷ operands) e = by (operand_word_in word) e
  where
    by : (o : Option OperandWord) → refused_if o (operand ∷ operands) ≡ Some answer.Ok → ⊥
    by None z = cc
    by (Some k) z = operands_no k (operand ∷ operands) z

words_no : (parts : List (List ℕ)) → answer_of (codes "refused" ∷ parts) ≡ Some answer.Ok → ⊥
unfolding whole_answer_in
words_no [] e = cc
words_no (word ∷ words) e = refused_no word words e

-- what is refused is not `ok`
text_no : (rest : List ℕ) → answer_in (codes "refused" ++ 32 ∷ rest) ≡ Some answer.Ok → ⊥
unfolding answer_in
text_no rest e =
    words_no (parts_at 32 rest)
    (sym (ap answer_of (slice_split_at (λ b. b == 32) (codes "refused") 32 rest (All-from_recursion (λ b. (b == 32) ≡ false) (codes "refused") (spaceless (codes "refused") refl)) refl)) ∙ e)

same_read : (a : Answer) → IsAnswer a → answer_in (reply_text a) ≡ Some answer.Ok → a ≡ answer.Ok
same_read a is e = some_answer a answer.Ok (sym (answer_read a is) ∙ e)

pub reply_ok : (reply : Answer) → answer_in (reply_text reply) ≡ Some answer.Ok → reply ≡ answer.Ok
reply_ok answer.Ok e = refl
reply_ok answer.Unknown e = same_read answer.Unknown tt e
reply_ok answer.UnknownCommand e = same_read answer.UnknownCommand tt e
reply_ok answer.MissingOperand e = same_read answer.MissingOperand tt e
reply_ok answer.BadValue e = same_read answer.BadValue tt e
reply_ok answer.NotMember e = same_read answer.NotMember tt e
reply_ok (answer.Ask node) e = absurd (text_no _ e)
reply_ok answer.QueueFull e = same_read answer.QueueFull tt e
reply_ok (answer.Refused r) e = absurd (text_no _ e)
