-- The texts of the president's answers, and of the requests of nodes, are read.
use Rattle.std.specs.Prelude.{ℕ, ◌≡◌, ◌==◌, not, Bool, true, false, List, [], ◌∷◌, ◌++◌, map, Option, None, Some, IfSome, Ok, Err, codes, option_map, if◌then◌else◌}
use Rattle.std.specs.List.{list_all}
use Rattle.std.specs.Str.{bytes_eq}
use Rattle.std.proofs.Common.{refl, sym, ap, subst, ◌∙◌, arith}
use Rattle.std.proofs.lemmas.Bool.Decides.{nat_tests}
use Rattle.std.proofs.lemmas.List.Elements.{All-from_recursion}
use Rattle.std.proofs.lemmas.List.Splits.{slice_split_at}
use Rattle.std.proofs.lemmas.Slice.Eq.{bytes_eq-Decides}
use Rattle.std.specs.Fmt.{decimal}
use Rattle.admin_words.specs.Answers.{Spelled}
use Rattle.admin_words.specs.Commands.{acting, as_request, command_in, command_of, name_request, request_in}
use Rattle.admin_words.specs.Spellings.{tool_named}
use Rattle.admin_words.specs.declared.error.WordError.TheVariants.{UnknownCommand}
use Rattle.answer_words.specs.Answers.{answer_in, answer_of, plainly_refused, refused, refused_by, refused_if}
use Rattle.answer_words.specs.Operands.{names_in, node_in, one, thing_in, two}
use Rattle.answer_words.specs.Spellings.{operand_word_in, plain_refusal_in, refused_command_in}
use Rattle.answer_words.specs.declared.spelling.OperandWord.{OperandWord}
use Rattle.answer_words.specs.declared.spelling.OperandWord.TheVariants as reason
use Rattle.answer_words.proofs.Cuts.{spaceless}
use Rattle.answer_words.proofs.Replies.{answer_read}
use Rattle.ccr_tables.specs.declared.command.AdminCommand.{AdminCommand}
use Rattle.ccr_tables.specs.declared.command.AdminCommand.TheVariants as wish
use Rattle.cl_base.specs.Names.{IsName}
use Rattle.cl_base.specs.declared.command.Ask.{Ask}
use Rattle.cl_base.specs.declared.command.Ask.TheVariants.{Move, Restart}
use Rattle.cl_base.specs.declared.header.Version.{Version}
use Rattle.cl_base.specs.declared.header.Version.TheVariants.{One, Two}
use Rattle.cl_base.specs.declared.refusal.Refusal.{Refusal}
use Rattle.cl_base.specs.declared.refusal.Refusal.TheVariants as refusal
use Rattle.history_setting.proofs.Canonical.{canonical_words_are_read}
use Rattle.node_model.specs.Members.{is_ok}
use Rattle.rg_props.specs.Values.{and_then}
use Rattle.rg_props.specs.Words.{decimal_in, name_in, parts_at}
use Rattle.status_report.proofs.Lists.{Lacks}
use Rattle.status_report.specs.CommandLines.{reply_text, thing_text}
use Rattle.status_report.specs.Words.{joined, spaced}
use Rattle.status_report.specs.declared.command_entry.Answer.{Answer}
use Rattle.status_report.specs.declared.command_entry.Answer.TheVariants as answer
use Rattle.update_words.specs.Joined.{spaced as spaced_words}
use Rattle.update_words.specs.Words.{ask_words_of}
use Rattle.word_laws.proofs.Reading.{name_known, name_word}
use Rattle.word_laws.proofs.Split.{EachLacks, parts_joined}
use Rattle.run_commands.specs.carried.Guards.{is_silent}
use Rattle.run_commands.proofs.carried.Asides.{text_of}
use Rattle.run_commands.specs.Reads.{IsPresidents, IsRead}

-- ---- answers

abbrev IsLoud : Answer → Type 0
IsLoud reply = is_silent reply ≡ false

abbrev AreLoud : Option Answer → Type 0
AreLoud o = IfSome o IsLoud

-- an answer that is read back
loud_read : (a : Answer) → IsLoud a → answer_in (reply_text a) ≡ Some a → IsPresidents (reply_text a)
loud_read a loud is = subst AreLoud (sym is) loud

one_loud : {A : Type 0} → (read : List ℕ → Option A) (make : A → Answer) → ((a : A) → IsLoud (make a)) → (operands : List (List ℕ)) → AreLoud (one read make operands)
one_loud read make loud [] = tt
one_loud read make loud (w ∷ v ∷ vs) = tt
one_loud {A} read make loud (w ∷ []) = by (read w)
  where
    by : (o : Option A) → AreLoud (option_map make o)
    by None = tt
    by (Some a) = loud a

two_loud : (make : ℕ → ℕ → Answer) → ((a b : ℕ) → IsLoud (make a b)) → (operands : List (List ℕ)) → AreLoud (two decimal_in decimal_in make operands)
two_loud make loud [] = tt
two_loud make loud (w ∷ []) = tt
two_loud make loud (w ∷ v ∷ u ∷ us) = tt
two_loud make loud (w ∷ v ∷ []) = by (decimal_in w) (decimal_in v)
  where
    by : (a b : Option ℕ) → AreLoud (and_then a (λ x. option_map (λ y. make x y) b))
    by None b = tt
    by (Some a) None = tt
    by (Some a) (Some b) = loud a b

-- a word that refusals alone have
abbrev OfRefusal : OperandWord → Type 0
OfRefusal reason.Ask = ⊥
OfRefusal _ = Unit {0}

by_loud : (r : OperandWord) (operands : List (List ℕ)) → OfRefusal r → AreLoud (refused_by r operands)
by_loud reason.Ask operands is = absurd is
by_loud reason.Unknown operands is = one_loud thing_in (λ thing. answer.Refused (refusal.Unknown thing)) (λ a. refl) operands
by_loud reason.InUse operands is = one_loud name_in (λ name. answer.Refused (refusal.InUse name)) (λ a. refl) operands
by_loud reason.NotListed operands is = one_loud node_in (λ node. answer.Refused (refusal.NotListed node)) (λ a. refl) operands
by_loud reason.Cycle operands is = one_loud names_in (λ names. answer.Refused (refusal.Cycle names)) (λ a. refl) operands
by_loud reason.LoseQuorum operands is = two_loud (λ have need. answer.Refused (refusal.LoseQuorum have need)) (λ a b. refl) operands
by_loud reason.RecordFull operands is = one_loud decimal_in (λ size. answer.Refused (refusal.RecordFull size)) (λ a. refl) operands

refused_loud : (word : List ℕ) (r : OperandWord) (operands : List (List ℕ)) → operand_word_in word ≡ Some r → OfRefusal r → AreLoud (plainly_refused word) → AreLoud (refused word operands)
refused_loud word r [] is of_it plain = plain
refused_loud word r (w ∷ ws) is of_it plain = subst (λ o. AreLoud (refused_if o (w ∷ ws))) (sym is) (by_loud r (w ∷ ws) of_it)

same_byte : (c : ℕ) → (c == c) ≡ true
same_byte c = grind (arith, nat_tests)

part_before : (word rest : List ℕ) → Lacks 32 word → parts_at 32 (word ++ 32 ∷ rest) ≡ word ∷ parts_at 32 rest
part_before word rest h = slice_split_at (λ b. b == 32) word 32 rest (All-from_recursion (λ b. (b == 32) ≡ false) word h) (same_byte 32)

-- the text of a refusal with operands
behind_loud : (word : List ℕ) (r : OperandWord) (next : List ℕ) (words : List (List ℕ)) → list_all (λ b. not (b == 32)) word ≡ true → operand_word_in word ≡ Some r → OfRefusal r
    → AreLoud (plainly_refused word) → IsPresidents (spaced (codes "refused" ∷ spaced (word ∷ next ∷ words) ∷ []))
unfolding answer_in
behind_loud word r next words lacks is of_it plain =
    subst (λ ws. AreLoud (answer_of ws))
    (sym (part_before (codes "refused") (spaced (word ∷ next ∷ words)) (spaceless (codes "refused") refl)
    ∙ ap (λ (ws : List (List ℕ)). codes "refused" ∷ ws) (part_before word (spaced (next ∷ words)) (spaceless word lacks))))
    (refused_loud word r (parts_at 32 (spaced (next ∷ words))) is of_it plain)

pub refusal_loud : (r : Refusal) → IsPresidents (reply_text (answer.Refused r))
unfolding operand_word_in plain_refusal_in refused_command_in
refusal_loud (refusal.Unknown t) = behind_loud (codes "unknown") reason.Unknown (thing_text t) [] refl refl tt tt
refusal_loud (refusal.InUse by) = behind_loud (codes "in-use") reason.InUse by [] refl refl tt tt
refusal_loud (refusal.NotListed n) = behind_loud (codes "not-listed") reason.NotListed (decimal n) [] refl refl tt tt
refusal_loud (refusal.Cycle names) = behind_loud (codes "cycle") reason.Cycle (joined 44 (λ name. name) names) [] refl refl tt tt
refusal_loud (refusal.LoseQuorum have need) = behind_loud (codes "lose-quorum") reason.LoseQuorum (decimal have) (decimal need ∷ []) refl refl tt tt
refusal_loud (refusal.RecordFull n) = behind_loud (codes "record-full") reason.RecordFull (decimal n) [] refl refl tt tt
refusal_loud refusal.Exists = loud_read (answer.Refused refusal.Exists) refl (answer_read (answer.Refused refusal.Exists) tt)
refusal_loud refusal.Managed = loud_read (answer.Refused refusal.Managed) refl (answer_read (answer.Refused refusal.Managed) tt)
refusal_loud refusal.Unmanaged = loud_read (answer.Refused refusal.Unmanaged) refl (answer_read (answer.Refused refusal.Unmanaged) tt)
refusal_loud refusal.SameValue = loud_read (answer.Refused refusal.SameValue) refl (answer_read (answer.Refused refusal.SameValue) tt)
refusal_loud refusal.TooMany = loud_read (answer.Refused refusal.TooMany) refl (answer_read (answer.Refused refusal.TooMany) tt)
refusal_loud refusal.BadProperty = loud_read (answer.Refused refusal.BadProperty) refl (answer_read (answer.Refused refusal.BadProperty) tt)
refusal_loud refusal.BadSetting = loud_read (answer.Refused refusal.BadSetting) refl (answer_read (answer.Refused refusal.BadSetting) tt)
refusal_loud refusal.StillUp = loud_read (answer.Refused refusal.StillUp) refl (answer_read (answer.Refused refusal.StillUp) tt)
refusal_loud refusal.Single = loud_read (answer.Refused refusal.Single) refl (answer_read (answer.Refused refusal.Single) tt)
refusal_loud refusal.NoMark = loud_read (answer.Refused refusal.NoMark) refl (answer_read (answer.Refused refusal.NoMark) tt)
refusal_loud refusal.NodeIsMember = loud_read (answer.Refused refusal.NodeIsMember) refl (answer_read (answer.Refused refusal.NodeIsMember) tt)
refusal_loud refusal.DeviceNotHeld = loud_read (answer.Refused refusal.DeviceNotHeld) refl (answer_read (answer.Refused refusal.DeviceNotHeld) tt)
refusal_loud refusal.NodeHasVote = loud_read (answer.Refused refusal.NodeHasVote) refl (answer_read (answer.Refused refusal.NodeHasVote) tt)

true_false : true ≡ false → ⊥
true_false e = cc

-- an answer that a president gives
pub answer_loud : (a : Answer) → is_silent a ≡ false → IsPresidents (reply_text a)
answer_loud answer.Ok loud = loud_read answer.Ok refl (answer_read answer.Ok tt)
answer_loud (answer.Refused r) loud = refusal_loud r
answer_loud answer.Unknown loud = absurd (true_false loud)
answer_loud answer.UnknownCommand loud = absurd (true_false loud)
answer_loud answer.MissingOperand loud = absurd (true_false loud)
answer_loud answer.BadValue loud = absurd (true_false loud)
answer_loud answer.NotMember loud = absurd (true_false loud)
answer_loud (answer.Ask n) loud = absurd (true_false loud)
answer_loud answer.QueueFull loud = absurd (true_false loud)

-- ---- requests

restart_none : (v : Version) (ws : List (List ℕ)) → command_in v (codes "restart" ∷ ws) ≡ Err UnknownCommand
unfolding command_in tool_named
restart_none One ws = refl
restart_none Two ws = refl

move_none : (v : Version) (ws : List (List ℕ)) → command_in v (codes "move" ∷ ws) ≡ Err UnknownCommand
unfolding command_in tool_named
move_none One ws = refl
move_none Two ws = refl

err_ok : (r : Spelled) (a : AdminCommand) → r ≡ Err UnknownCommand → r ≡ Ok a → ⊥
err_ok r a none is = cc

no_words : (v : Version) (a : AdminCommand) → command_in v [] ≡ Ok a → ⊥
unfolding command_in
no_words v a e = cc

asks_so : (a : AdminCommand) (text : List ℕ) → text_of a ≡ Some text → is_ok (as_request (Ok a)) ≡ true
asks_so (wish.Change u) text is = refl
asks_so (wish.Act ask) text is = refl
asks_so (wish.Status q) text is = cc
asks_so (wish.Rows name) text is = cc

-- words of a command that is a request are read as a request
words_asked : (v : Version) (ws : List (List ℕ)) (a : AdminCommand) (text : List ℕ) → command_in v ws ≡ Ok a → text_of a ≡ Some text → is_ok (request_in v ws) ≡ true
unfolding request_in
words_asked v [] a text is asks = absurd (no_words v a is)
words_asked v (w ∷ ws) a text is asks = by_tests (bytes_eq w (codes "restart")) (bytes_eq w (codes "move")) refl refl
  where
    by_tests : (p q : Bool) → bytes_eq w (codes "restart") ≡ p → bytes_eq w (codes "move") ≡ q
        → is_ok (if p then acting Restart (name_request ws) else if q then acting Move (name_request ws) else as_request (command_in v (w ∷ ws))) ≡ true
    by_tests true q one other =
        absurd (err_ok (command_in v (codes "restart" ∷ ws)) a (restart_none v ws) (subst (λ (z : List ℕ). command_in v (z ∷ ws) ≡ Ok a) ((bytes_eq-Decides w (codes "restart")).0 one) is))
    by_tests false true one other =
        absurd (err_ok (command_in v (codes "move" ∷ ws)) a (move_none v ws) (subst (λ (z : List ℕ). command_in v (z ∷ ws) ≡ Ok a) ((bytes_eq-Decides w (codes "move")).0 other) is))
    by_tests false false one other = subst (λ r. is_ok (as_request r) ≡ true) (sym is) (asks_so a text asks)

some_is : (a b : List ℕ) → Some a ≡ Some b → a ≡ b
some_is a b e = cc

none_is : (t : List ℕ) → None ≡ Some t → ⊥
none_is t e = cc

-- so the canonical words of a command are, which is how a node asks for it
pub command_read : (v : Version) (words : List ℕ) (a : AdminCommand) (text : List ℕ) → command_of v words ≡ Ok a → text_of a ≡ Some text → IsRead v text
command_read v words (wish.Change u) text is asks =
    subst (IsRead v) (some_is _ text asks) (words_asked v _ (wish.Change u) text (canonical_words_are_read v words (wish.Change u) is) asks)
command_read v words (wish.Act ask) text is asks =
    subst (IsRead v) (some_is _ text asks) (words_asked v _ (wish.Act ask) text (canonical_words_are_read v words (wish.Act ask) is) asks)
command_read v words (wish.Status q) text is asks = absurd (none_is text asks)
command_read v words (wish.Rows name) text is asks = absurd (none_is text asks)

-- ---- what monitors ask for

-- a restart and a move
abbrev pub IsMonitors : Ask → Type 0
IsMonitors (Restart r) = IsName r
IsMonitors (Move r) = IsName r
IsMonitors _ = ⊥

as_they_are : (ws : List (List ℕ)) → map (λ w. w) ws ≡ ws
as_they_are [] = refl
as_they_are (w ∷ ws) = ap (λ (rest : List (List ℕ)). w ∷ rest) (as_they_are ws)

asked_parts : (w r : List ℕ) → EachLacks 32 (λ (z : List ℕ). z) (w ∷ r ∷ []) → parts_at 32 (spaced_words (w ∷ r ∷ [])) ≡ w ∷ r ∷ []
asked_parts w r h = parts_joined 32 (λ (z : List ℕ). z) w (r ∷ []) h ∙ as_they_are (w ∷ r ∷ [])

pub monitor_read : (v : Version) (a : Ask) → IsMonitors a → IsRead v (ask_words_of a)
unfolding request_in
monitor_read v (Restart r) is =
    subst (λ ws. is_ok (request_in v ws) ≡ true) (sym (asked_parts (codes "restart") r (refl, (name_word r is, tt)))) (rw (name_known r is) refl)
monitor_read v (Move r) is =
    subst (λ ws. is_ok (request_in v ws) ≡ true) (sym (asked_parts (codes "move") r (refl, (name_word r is, tt)))) (rw (name_known r is) refl)
monitor_read v _ is = absurd is
