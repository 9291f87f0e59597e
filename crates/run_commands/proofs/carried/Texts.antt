-- An answer that the president gives has the text that it is read from.
use Rattle.std.specs.Prelude.{ℕ, ◌^◌, ◌<◌, ◌≡◌, ◌==◌, ◌&&◌, nat_le, nat_lt, not, Bool, true, false, List, [], ◌∷◌, ◌++◌, length, Option, None, Some, IfSome, option_map, codes, if◌then◌else◌}
use Rattle.std.specs.Fmt.{decimal}
use Rattle.std.specs.Char.{is_ascii_digit}
use Rattle.std.specs.List.{join_with_byte, list_all}
use Rattle.std.specs.Str.{bytes_eq}
use Rattle.std.specs.Str.Parse.{digits_value}
use Rattle.std.proofs.Common.{refl, sym, ap, subst, ◌∙◌, arith, append-nil, append_assoc, rules, ltb-true}
use Rattle.std.proofs.lemmas.Bool.Decides.{nat_tests}
use Rattle.std.proofs.lemmas.Fmt.{decimal-digits_value}
use Rattle.std.proofs.lemmas.List.Splits.{join_with_byte-slice_split}
use Rattle.std.proofs.lemmas.Slice.Eq.{bytes_eq-Decides}
use Rattle.std.proofs.lemmas.Str.Parse.{IsNumeralModel, numerals_by_value}
use Rattle.answer_words.specs.Answers.{answer_in, answer_of, plainly_refused, refused, refused_by, refused_if}
use Rattle.answer_words.specs.Operands.{names_in, node_in, numbered_or_named, one, thing_in, two}
use Rattle.answer_words.specs.Spellings.{operand_word_in, plain_refusal_in, refused_command_in, whole_answer_in}
use Rattle.answer_words.specs.declared.spelling.OperandWord.{OperandWord}
use Rattle.answer_words.specs.declared.spelling.OperandWord.TheVariants as reason
use Rattle.cl_base.specs.Limits.{most_nodes}
use Rattle.cl_base.specs.declared.refusal.Refusal.{Refusal}
use Rattle.cl_base.specs.declared.refusal.Refusal.TheVariants as refusal
use Rattle.cl_base.specs.declared.refusal.Thing.TheVariants.{Named}
use Rattle.cl_base.specs.declared.header.Header.{Header}
use Rattle.cmm_attempt.proofs.Basics.{and_cases, none_some, same_some}
use Rattle.history.specs.Contents.{answer_text}
use Rattle.history_setting.specs.Settings.{setting_of}
use Rattle.rg_props.specs.Values.{and_then, items_from, or_else}
use Rattle.rg_props.specs.Words.{decimal_in, has_no_leading_zero, is_decimal, is_name, name_in, parts_at, within}
use Rattle.status_report.specs.CommandLines.{refusal_text, thing_text}
use Rattle.status_report.specs.Words.{joined, spaced}
use Rattle.status_report.specs.declared.command_entry.Answer.{Answer}
use Rattle.status_report.specs.declared.command_entry.Answer.TheVariants as answer
use Rattle.run_commands.proofs.carried.Causes.{ReadsAnswers}

-- ---- options

if_some : {A : Type 0} → (P : A → Type 0) (b : Bool) (x : A) (o : Option A) → (b ≡ true → P x) → IfSome o P → IfSome (if b then Some x else o) P
if_some P true x o h rest = h refl
if_some P false x o h rest = rest

if_given : {A : Type 0} → (P : A → Type 0) (b : Bool) (o : Option A) → (b ≡ true → IfSome o P) → IfSome (if b then o else None) P
if_given P true o h = h refl
if_given P false o h = tt

mapped_some : {A B : Type 0} → (P : B → Type 0) (f : A → B) (o : Option A) → IfSome o (λ a. P (f a)) → IfSome (option_map f o) P
mapped_some P f None h = tt
mapped_some P f (Some a) h = h

either_some : {A : Type 0} → (P : A → Type 0) (a b : Option A) → IfSome a P → IfSome b P → IfSome (or_else a b) P
either_some P None b h k = k
either_some P (Some a) b h k = h

word_is : (word w : List ℕ) → bytes_eq word w ≡ true → w ≡ word
word_is word w h = sym ((bytes_eq-Decides word w).0 h)

-- ---- numbers and names

abbrev Digits : List ℕ → Type 0
Digits word = list_all is_ascii_digit word ≡ true

digits : IsNumeralModel Digits (digits_value 10)
digits = numerals_by_value Digits (search rules)

leads : (b : ℕ) (word : List ℕ) → has_no_leading_zero (b ∷ word) ≡ true → b ≡ 48 → length (b ∷ word) ≡ 1
leads b word h is = grind (arith, nat_tests)

longer : (b : ℕ) (word : List ℕ) → 0 < length (b ∷ word)
longer b word = omega arith

decimal_says : (word : List ℕ) → is_decimal word ≡ true → digits_value 10 word < 2 ^ 64 → decimal (digits_value 10 word) ≡ word
decimal_says [] h small = absurd (cc)
decimal_says (b ∷ word) h small =
    let two : _ = and_cases (not (length (b ∷ word) == 0) && has_no_leading_zero (b ∷ word)) (list_all is_ascii_digit (b ∷ word)) h in
    decimal-digits_value digits (b ∷ word) two.1 (longer b word) (λ is. leads b word (and_cases (not (length (b ∷ word) == 0)) (has_no_leading_zero (b ∷ word)) two.0).1 is) small

number_says : (word : List ℕ) → IfSome (decimal_in word) (λ n. decimal n ≡ word)
number_says word =
    if_some (λ n. decimal n ≡ word) (is_decimal word && nat_lt (digits_value 10 word) (2 ^ 64)) (digits_value 10 word) None
    (λ h. let two : _ = and_cases (is_decimal word) (nat_lt (digits_value 10 word) (2 ^ 64)) h in decimal_says word two.0 (ltb-true (digits_value 10 word) (2 ^ 64) two.1)) tt

within_says : (P : ℕ → Type 0) (least most : ℕ) (o : Option ℕ) → IfSome o P → IfSome (within least most o) P
within_says P least most None h = tt
within_says P least most (Some n) h = if_some P (nat_le least n && nat_le n most) n None (λ e. h) tt

node_says : (word : List ℕ) → IfSome (node_in word) (λ n. decimal n ≡ word)
unfolding node_in
node_says word = within_says (λ n. decimal n ≡ word) 1 most_nodes (decimal_in word) (number_says word)

name_says : (word : List ℕ) → IfSome (name_in word) (λ n. n ≡ word)
unfolding name_in
name_says word = if_some (λ n. n ≡ word) (is_name word) word None (λ e. refl) tt

thing_says : (word : List ℕ) → IfSome (thing_in word) (λ t. thing_text t ≡ word)
unfolding thing_in
thing_says word = by (decimal_in word) (name_in word) (number_says word) (name_says word)
  where
    by : (n : Option ℕ) (m : Option (List ℕ)) → IfSome n (λ k. decimal k ≡ word) → IfSome m (λ k. k ≡ word) → IfSome (numbered_or_named n m) (λ t. thing_text t ≡ word)
    by (Some n) m h k = h
    by None m h k = mapped_some (λ t. thing_text t ≡ word) (λ bytes. Named bytes) m k

-- ---- lists of names

names_are : (before parts : List (List ℕ)) → IfSome (items_from name_in before parts) (λ names. names ≡ before ++ parts)
names_are before [] = sym (append-nil before)
names_are before (part ∷ parts) = by (name_in part) (name_says part) (names_are (before ++ part ∷ []) parts)
  where
    by : (o : Option (List ℕ)) → IfSome o (λ n. n ≡ part) → IfSome (items_from name_in (before ++ part ∷ []) parts) (λ names. names ≡ (before ++ part ∷ []) ++ parts)
        → IfSome (and_then o (λ x. items_from name_in (before ++ x ∷ []) parts)) (λ names. names ≡ before ++ part ∷ parts)
    by None h rest = tt
    by (Some n) h rest =
        subst (λ z. IfSome (items_from name_in (before ++ z ∷ []) parts) (λ names. names ≡ before ++ part ∷ parts)) (sym h)
        (subst (λ z. IfSome (items_from name_in (before ++ part ∷ []) parts) (λ names. names ≡ z)) (append_assoc before (part ∷ []) parts) rest)

joined_is : (c : ℕ) (words : List (List ℕ)) → joined c (λ w. w) words ≡ join_with_byte c words
joined_is c [] = refl
joined_is c (word ∷ []) = append-nil word
joined_is c (word ∷ next ∷ words) = ap (λ rest. word ++ c ∷ rest) (joined_is c (next ∷ words))

names_say : (word : List ℕ) → IfSome (names_in word) (λ names. joined 44 (λ n. n) names ≡ word)
unfolding names_in
names_say word = by (items_from name_in [] (parts_at 44 word)) (names_are [] (parts_at 44 word))
  where
    by : (o : Option (List (List ℕ))) → IfSome o (λ names. names ≡ parts_at 44 word) → IfSome o (λ names. joined 44 (λ n. n) names ≡ word)
    by None h = tt
    by (Some names) h = ap (λ (z : List (List ℕ)). joined 44 (λ n. n) z) h ∙ (joined_is 44 (parts_at 44 word) ∙ join_with_byte-slice_split 44 word)

-- ---- answers

-- the text of an answer of the president
abbrev shown : Answer → Option (List ℕ)
shown answer.Ok = Some (codes "ok")
shown (answer.Refused r) = Some (codes "refused " ++ refusal_text r)
shown _ = None

-- these are the words of the answer
abbrev Says : List ℕ → Answer → Type 0
Says text a = IfSome (shown a) (λ t. t ≡ text)

whole_says : (word : List ℕ) → IfSome (whole_answer_in word) (Says word)
unfolding whole_answer_in
whole_says word =
    if_some (Says word) (bytes_eq word (codes "ok")) answer.Ok _ (word_is word (codes "ok"))
    (if_some (Says word) (bytes_eq word (codes "unknown")) answer.Unknown None (λ e. tt) tt)

command_says : (word text : List ℕ) → IfSome (refused_command_in word) (Says text)
unfolding refused_command_in
command_says word text =
    if_some (Says text) (bytes_eq word (codes "unknown-command")) answer.UnknownCommand _ (λ e. tt)
    (if_some (Says text) (bytes_eq word (codes "missing-operand")) answer.MissingOperand _ (λ e. tt)
    (if_some (Says text) (bytes_eq word (codes "bad-value")) answer.BadValue _ (λ e. tt)
    (if_some (Says text) (bytes_eq word (codes "not-member")) answer.NotMember _ (λ e. tt)
    (if_some (Says text) (bytes_eq word (codes "queue-full")) answer.QueueFull None (λ e. tt) tt))))

abbrev IsPlain : List ℕ → Refusal → Type 0
IsPlain word r = refusal_text r ≡ word

plain_says : (word : List ℕ) → IfSome (plain_refusal_in word) (IsPlain word)
unfolding plain_refusal_in
plain_says word =
    if_some (IsPlain word) (bytes_eq word (codes "exists")) refusal.Exists _ (word_is word (codes "exists"))
    (if_some (IsPlain word) (bytes_eq word (codes "managed")) refusal.Managed _ (word_is word (codes "managed"))
    (if_some (IsPlain word) (bytes_eq word (codes "unmanaged")) refusal.Unmanaged _ (word_is word (codes "unmanaged"))
    (if_some (IsPlain word) (bytes_eq word (codes "same-value")) refusal.SameValue _ (word_is word (codes "same-value"))
    (if_some (IsPlain word) (bytes_eq word (codes "too-many")) refusal.TooMany _ (word_is word (codes "too-many"))
    (if_some (IsPlain word) (bytes_eq word (codes "bad-property")) refusal.BadProperty _ (word_is word (codes "bad-property"))
    (if_some (IsPlain word) (bytes_eq word (codes "bad-setting")) refusal.BadSetting _ (word_is word (codes "bad-setting"))
    (if_some (IsPlain word) (bytes_eq word (codes "still-up")) refusal.StillUp _ (word_is word (codes "still-up"))
    (if_some (IsPlain word) (bytes_eq word (codes "single")) refusal.Single _ (word_is word (codes "single"))
    (if_some (IsPlain word) (bytes_eq word (codes "no-mark")) refusal.NoMark _ (word_is word (codes "no-mark"))
    (if_some (IsPlain word) (bytes_eq word (codes "node-is-member")) refusal.NodeIsMember _ (word_is word (codes "node-is-member"))
    (if_some (IsPlain word) (bytes_eq word (codes "device-not-held")) refusal.DeviceNotHeld _ (word_is word (codes "device-not-held"))
    (if_some (IsPlain word) (bytes_eq word (codes "node-has-vote")) refusal.NodeHasVote None (word_is word (codes "node-has-vote")) tt))))))))))))

-- behind `refused`
abbrev behind : List ℕ → List (List ℕ) → List ℕ
behind word operands = spaced (codes "refused" ∷ word ∷ operands)

plainly_says : (word : List ℕ) → IfSome (plainly_refused word) (Says (behind word []))
plainly_says word =
    either_some (Says (behind word [])) (option_map (λ why. answer.Refused why) (plain_refusal_in word)) (refused_command_in word)
    (mapped_some (Says (behind word [])) (λ why. answer.Refused why) (plain_refusal_in word) (by (plain_refusal_in word) (plain_says word))) (command_says word (behind word []))
  where
    by : (o : Option Refusal) → IfSome o (IsPlain word) → IfSome o (λ why. Says (behind word []) (answer.Refused why))
    by None h = tt
    by (Some r) h = ap (λ t. codes "refused " ++ t) h

abbrev word_of : OperandWord → List ℕ
word_of reason.Ask = codes "ask"
word_of reason.Unknown = codes "unknown"
word_of reason.InUse = codes "in-use"
word_of reason.NotListed = codes "not-listed"
word_of reason.Cycle = codes "cycle"
word_of reason.LoseQuorum = codes "lose-quorum"
word_of reason.RecordFull = codes "record-full"

abbrev IsWord : List ℕ → OperandWord → Type 0
IsWord word r = word_of r ≡ word

operand_says : (word : List ℕ) → IfSome (operand_word_in word) (IsWord word)
unfolding operand_word_in
operand_says word =
    if_some (IsWord word) (bytes_eq word (codes "ask")) reason.Ask _ (word_is word (codes "ask"))
    (if_some (IsWord word) (bytes_eq word (codes "unknown")) reason.Unknown _ (word_is word (codes "unknown"))
    (if_some (IsWord word) (bytes_eq word (codes "in-use")) reason.InUse _ (word_is word (codes "in-use"))
    (if_some (IsWord word) (bytes_eq word (codes "not-listed")) reason.NotListed _ (word_is word (codes "not-listed"))
    (if_some (IsWord word) (bytes_eq word (codes "cycle")) reason.Cycle _ (word_is word (codes "cycle"))
    (if_some (IsWord word) (bytes_eq word (codes "lose-quorum")) reason.LoseQuorum _ (word_is word (codes "lose-quorum"))
    (if_some (IsWord word) (bytes_eq word (codes "record-full")) reason.RecordFull None (word_is word (codes "record-full")) tt))))))

one_says : {A : Type 0} → (read : List ℕ → Option A) (make : A → Answer) (P : List ℕ → A → Type 0) (word : List ℕ) (operands : List (List ℕ)) → ((w : List ℕ) → IfSome (read w) (P w))
    → ((w : List ℕ) (a : A) → P w a → Says (behind word (w ∷ [])) (make a)) → IfSome (one read make operands) (Says (behind word operands))
one_says {A} read make P word [] reads says = tt
one_says {A} read make P word (w ∷ v ∷ vs) reads says = tt
one_says {A} read make P word (w ∷ []) reads says = by (read w) (reads w)
  where
    by : (o : Option A) → IfSome o (P w) → IfSome (option_map make o) (Says (behind word (w ∷ [])))
    by None h = tt
    by (Some a) h = says w a h

two_say : (word : List ℕ) (operands : List (List ℕ)) → ((w v : List ℕ) (have need : ℕ) → decimal have ≡ w → decimal need ≡ v → Says (behind word (w ∷ v ∷ [])) (answer.Refused (refusal.LoseQuorum have need)))
    → IfSome (two decimal_in decimal_in (λ have need. answer.Refused (refusal.LoseQuorum have need)) operands) (Says (behind word operands))
two_say word [] says = tt
two_say word (w ∷ []) says = tt
two_say word (w ∷ v ∷ u ∷ us) says = tt
two_say word (w ∷ v ∷ []) says = by (decimal_in w) (decimal_in v) (number_says w) (number_says v)
  where
    by : (a b : Option ℕ) → IfSome a (λ n. decimal n ≡ w) → IfSome b (λ n. decimal n ≡ v)
        → IfSome (and_then a (λ have. option_map (λ need. answer.Refused (refusal.LoseQuorum have need)) b)) (Says (behind word (w ∷ v ∷ [])))
    by None b h k = tt
    by (Some have) None h k = tt
    by (Some have) (Some need) h k = says w v have need h k

by_says : (r : OperandWord) (operands : List (List ℕ)) → IfSome (refused_by r operands) (Says (behind (word_of r) operands))
by_says reason.Ask operands = one_says node_in (λ node. answer.Ask node) (λ w n. decimal n ≡ w) (codes "ask") operands node_says (λ w n h. tt)
by_says reason.Unknown operands =
    one_says thing_in (λ thing. answer.Refused (refusal.Unknown thing)) (λ w t. thing_text t ≡ w) (codes "unknown") operands thing_says (λ w t h. ap (λ z. behind (codes "unknown") (z ∷ [])) h)
by_says reason.InUse operands =
    one_says name_in (λ name. answer.Refused (refusal.InUse name)) (λ w n. n ≡ w) (codes "in-use") operands name_says (λ w n h. ap (λ z. behind (codes "in-use") (z ∷ [])) h)
by_says reason.NotListed operands =
    one_says node_in (λ node. answer.Refused (refusal.NotListed node)) (λ w n. decimal n ≡ w) (codes "not-listed") operands node_says (λ w n h. ap (λ z. behind (codes "not-listed") (z ∷ [])) h)
by_says reason.Cycle operands =
    one_says names_in (λ names. answer.Refused (refusal.Cycle names)) (λ w names. joined 44 (λ n. n) names ≡ w) (codes "cycle") operands names_say (λ w names h. ap (λ z. behind (codes "cycle") (z ∷ [])) h)
by_says reason.LoseQuorum operands =
    two_say (codes "lose-quorum") operands
    (λ w v have need h k. ap (λ z. behind (codes "lose-quorum") (z ∷ decimal need ∷ [])) h ∙ ap (λ z. behind (codes "lose-quorum") (w ∷ z ∷ [])) k)
by_says reason.RecordFull operands =
    one_says decimal_in (λ size. answer.Refused (refusal.RecordFull size)) (λ w n. decimal n ≡ w) (codes "record-full") operands number_says (λ w n h. ap (λ z. behind (codes "record-full") (z ∷ [])) h)

refused_says : (word : List ℕ) (operands : List (List ℕ)) → IfSome (refused word operands) (Says (behind word operands))
refused_says word [] = plainly_says word
refused_says word (w ∷ ws) = by (operand_word_in word) (operand_says word)
  where
    by : (o : Option OperandWord) → IfSome o (IsWord word) → IfSome (refused_if o (w ∷ ws)) (Says (behind word (w ∷ ws)))
    by None h = tt
    by (Some r) h = subst (λ z. IfSome (refused_by r (w ∷ ws)) (Says (behind z (w ∷ ws)))) h (by_says r (w ∷ ws))

words_say : (words : List (List ℕ)) → IfSome (answer_of words) (Says (spaced words))
words_say [] = tt
words_say (word ∷ []) = whole_says word
words_say (first ∷ word ∷ operands) =
    if_given (Says (spaced (first ∷ word ∷ operands))) (bytes_eq first (codes "refused")) (refused word operands)
    (λ h. subst (λ z. IfSome (refused word operands) (Says (spaced (z ∷ word ∷ operands)))) (word_is first (codes "refused") h) (refused_says word operands))

spaced_is : (words : List (List ℕ)) → spaced words ≡ join_with_byte 32 words
spaced_is [] = refl
spaced_is (word ∷ []) = refl
spaced_is (word ∷ next ∷ words) = ap (λ rest. word ++ 32 ∷ rest) (spaced_is (next ∷ words))

text_says : (text : List ℕ) → IfSome (answer_in text) (Says text)
unfolding answer_in
text_says text = subst (λ z. IfSome (answer_of (parts_at 32 text)) (Says z)) (spaced_is (parts_at 32 text) ∙ join_with_byte-slice_split 32 text) (words_say (parts_at 32 text))

as_shown : (h : Header) (a : Answer) → answer_text (setting_of h) a ≡ shown a
as_shown h answer.Ok = refl
as_shown h (answer.Refused r) = refl
as_shown h answer.Unknown = refl
as_shown h answer.UnknownCommand = refl
as_shown h answer.MissingOperand = refl
as_shown h answer.BadValue = refl
as_shown h answer.NotMember = refl
as_shown h (answer.Ask node) = refl
as_shown h answer.QueueFull = refl

if_there : {A : Type 0} → (P : A → Type 0) (o : Option A) (x : A) → o ≡ Some x → IfSome o P → P x
if_there P None x is h = absurd (none_some x is)
if_there P (Some y) x is h = subst P (same_some y x is) h

pub answers_read : (h : Header) → ReadsAnswers (setting_of h)
answers_read h text reply t reads is =
    if_there (λ z. z ≡ text) (shown reply) t (sym (as_shown h reply) ∙ is) (if_there (Says text) (answer_in text) reply reads (text_says text))
