-- Reading answers to commands and lines of tables back.
use Rattle.std.proofs.Common.{◌≡◌, ◌≢◌, ℕ, ◌/◌, ◌%◌, ◌<◌, suc, Bool, true, false, ◌==◌, if◌then◌else◌, List, [], ◌∷◌, ◌++◌, length, slice_index, Option, Some, None, Result, Ok, Err, refl, ap, subst, append-nil, append_assoc, codes, arith}
use Rattle.std.specs.List.{AllByRecursion, flat_map}
use Rattle.std.specs.Fmt.{decimal}
use Rattle.std.specs.Char.{digit_value}
use Rattle.std.specs.Str.Parse.{AllDigits}
use Rattle.std.proofs.lemmas.Fmt.{decimal_is_IsNumeral}
use Rattle.std.proofs.lemmas.Bool.{eqb-true}
use Rattle.hex.specs.Hex.{encode_with, encode_lower, lower_digits, decode_of, hex_digit_value, IsBytes}
use Rattle.hex.specs.declared.error.FromHexError.{FromHexError}
use Rattle.hex.proofs.HexLemmas.{IsDigits-lower_digits, decode_of-encode_lower}
use Rattle.cl_base.specs.Names.{IsName}
use Rattle.cl_base.specs.declared.refusal.Thing.{Thing}
use Rattle.cl_base.specs.declared.refusal.Thing.TheVariants.{Named, Numbered}
use Rattle.cl_base.specs.declared.refusal.Refusal.TheVariants as refusal
use Rattle.status_report.specs.declared.command_entry.Answer.{Answer}
use Rattle.status_report.specs.declared.command_entry.Answer.TheVariants as answer
use Rattle.status_report.specs.declared.status_entry.TableLine.{TableLine}
use Rattle.status_report.specs.declared.status_entry.TableLine.TheVariants.{Generation, Checksum, Row}
use Rattle.cl_base.specs.declared.packet.MessageKind.{MessageKind}
use Rattle.cl_base.specs.declared.packet.MessageName.{MessageName}
use Rattle.status_report.specs.Words.{joined}
use Rattle.status_report.specs.AddressLines.{target_text}
use Rattle.status_report.specs.PacketLines.{kind_text as message_kind_text, numbered_text, message_text}
use Rattle.status_report.specs.CommandLines.{thing_text, reply_text}
use Rattle.status_report.specs.Entries.{IsNumber, IsNumbered, IsMessage, IsThing, IsAnswer, IsTableLine, IsKey}
use Rattle.status_report.proofs.Reading.{after, number_at, last, more, number, name_is_word}
use Rattle.status_report.proofs.Lists.{Lacks, Item, items_of, items_again, all_items, starts_digit, decimal_starts, letter_starts, name_starts, word_lacks_comma}
use Rattle.status_report.proofs.Parts.{choose, part, message_kind_at, kind_then}

-- ---- answers

abbrev thing_of : List ℕ → Thing
thing_of text = if starts_digit text then Numbered (number_at text).0 else Named text

decimal_alone : (n : ℕ) → IsNumber n → starts_digit (decimal n) ≡ true
decimal_alone n h = subst (λ (t : List ℕ). starts_digit t ≡ true) (append-nil (decimal n)) (decimal_starts n [] h)

thing_again : (t : Thing) → IsThing t → thing_of (thing_text t) ≡ t
thing_again (Named name) h = rw (name_starts name h) refl
thing_again (Numbered n) h = rw (decimal_alone n h, last (number n h)) refl

unfoldable pub is_empty : List ℕ → Bool
is_empty [] = true
is_empty (b ∷ bs) = false

name_stands : (name rest : List ℕ) → IsName name → is_empty (name ++ rest) ≡ false
unfolding is_empty
name_stands [] rest h = absurd (omega (arith, h.0))
name_stands (b ∷ name) rest h = refl

nothing_stands : is_empty [] ≡ true
unfolding is_empty
nothing_stands = refl

abbrev names_of : List ℕ → List (List ℕ)
names_of text = if is_empty text then [] else items_of 44 (λ (w : List ℕ). w) text

name_item : (name : List ℕ) → IsName name → Item 44 (λ (w : List ℕ). w) (λ (w : List ℕ). w) name
name_item name h = (word_lacks_comma name (name_is_word name h), refl)

names_again : (names : List (List ℕ)) → AllByRecursion IsName names → names_of (joined 44 (λ (w : List ℕ). w) names) ≡ names
names_again [] h = rw nothing_stands refl
names_again (n ∷ ns) h =
    rw (name_stands n (flat_map (λ (y : List ℕ). 44 ∷ y) ns) h.0, items_again 44 (λ (w : List ℕ). w) (λ (w : List ℕ). w) n ns (all_items IsName (Item 44 (λ (w : List ℕ). w) (λ (w : List ℕ). w)) name_item (n ∷ ns) h)) refl

abbrev pub reply_of : List ℕ → Answer
reply_of = choose answer.Ok
    ((codes "unknown", λ t. answer.Unknown) ∷ (codes "refused unknown-command", λ t. answer.UnknownCommand) ∷ (codes "refused missing-operand", λ t. answer.MissingOperand)
    ∷ (codes "refused bad-value", λ t. answer.BadValue) ∷ (codes "refused not-member", λ t. answer.NotMember) ∷ (codes "refused ask ", λ t. answer.Ask (number_at t).0)
    ∷ (codes "refused queue-full", λ t. answer.QueueFull) ∷ (codes "refused unknown ", λ t. answer.Refused (refusal.Unknown (thing_of t)))
    ∷ (codes "refused in-use ", λ t. answer.Refused (refusal.InUse t)) ∷ (codes "refused not-listed ", λ t. answer.Refused (refusal.NotListed (number_at t).0))
    ∷ (codes "refused cycle ", λ t. answer.Refused (refusal.Cycle (names_of t)))
    ∷ (codes "refused lose-quorum ", part number_at (λ have t. answer.Refused (refusal.LoseQuorum have (number_at t).0)))
    ∷ (codes "refused record-full ", λ t. answer.Refused (refusal.RecordFull (number_at t).0))
    ∷ (codes "refused exists", λ t. answer.Refused refusal.Exists) ∷ (codes "refused managed", λ t. answer.Refused refusal.Managed) ∷ (codes "refused unmanaged", λ t. answer.Refused refusal.Unmanaged)
    ∷ (codes "refused same-value", λ t. answer.Refused refusal.SameValue) ∷ (codes "refused too-many", λ t. answer.Refused refusal.TooMany) ∷ (codes "refused bad-property", λ t. answer.Refused refusal.BadProperty)
    ∷ (codes "refused bad-setting", λ t. answer.Refused refusal.BadSetting) ∷ (codes "refused still-up", λ t. answer.Refused refusal.StillUp) ∷ (codes "refused single", λ t. answer.Refused refusal.Single)
    ∷ (codes "refused no-mark", λ t. answer.Refused refusal.NoMark) ∷ (codes "refused node-is-member", λ t. answer.Refused refusal.NodeIsMember) ∷ (codes "refused device-not-held", λ t. answer.Refused refusal.DeviceNotHeld)
    ∷ (codes "refused node-has-vote", λ t. answer.Refused refusal.NodeHasVote) ∷ [])

pub reply_again : (a : Answer) → IsAnswer a → reply_of (reply_text a) ≡ a
reply_again answer.Ok h = refl
reply_again answer.Unknown h = refl
reply_again answer.UnknownCommand h = refl
reply_again answer.MissingOperand h = refl
reply_again answer.BadValue h = refl
reply_again answer.NotMember h = refl
reply_again (answer.Ask node) h = rw (last (number node h)) refl
reply_again answer.QueueFull h = refl
reply_again (answer.Refused (refusal.Unknown t)) h = rw (thing_again t h) refl
reply_again (answer.Refused (refusal.InUse by)) h = refl
reply_again (answer.Refused (refusal.NotListed node)) h = rw (last (number node h)) refl
reply_again (answer.Refused (refusal.Cycle names)) h = rw (names_again names h) refl
reply_again (answer.Refused (refusal.LoseQuorum have need)) h = rw (more (number have h.0), last (number need h.1)) refl
reply_again (answer.Refused (refusal.RecordFull length)) h = rw (last (number length h)) refl
reply_again (answer.Refused refusal.Exists) h = refl
reply_again (answer.Refused refusal.Managed) h = refl
reply_again (answer.Refused refusal.Unmanaged) h = refl
reply_again (answer.Refused refusal.SameValue) h = refl
reply_again (answer.Refused refusal.TooMany) h = refl
reply_again (answer.Refused refusal.BadProperty) h = refl
reply_again (answer.Refused refusal.BadSetting) h = refl
reply_again (answer.Refused refusal.StillUp) h = refl
reply_again (answer.Refused refusal.Single) h = refl
reply_again (answer.Refused refusal.NoMark) h = refl
reply_again (answer.Refused refusal.NodeIsMember) h = refl
reply_again (answer.Refused refusal.DeviceNotHeld) h = refl
reply_again (answer.Refused refusal.NodeHasVote) h = refl

-- ---- lines of tables

-- whether the byte c is there
unfoldable pub has_byte : ℕ → List ℕ → Bool
has_byte c [] = false
has_byte c (b ∷ bs) = if b == c then true else has_byte c bs

unfoldable pub key_before : List ℕ → List ℕ × List ℕ
key_before [] = ([], [])
key_before (b ∷ bs) = if b == 9 then ([], b ∷ bs) else (b ∷ (key_before bs).0, (key_before bs).1)

no_byte : (c : ℕ) (text : List ℕ) → Lacks c text → has_byte c text ≡ false
unfolding has_byte
no_byte c [] h = refl
no_byte c (b ∷ text) h = rw (h.0, no_byte c text h.1) refl

not_same : (b c : ℕ) (test : Bool) → (b == c) ≡ test → b ≢ c → test ≡ false
not_same b c true e ne = absurd (ne (eqb-true b c e))
not_same b c false e ne = refl

tab_stands : (key value : List ℕ) → IsKey key → has_byte 9 (key ++ 9 ∷ value) ≡ true
unfolding has_byte
tab_stands [] value h = refl
tab_stands (b ∷ key) value h = rw (not_same b 9 (b == 9) refl h.0, tab_stands key value h.1) refl

key_again : (key value : List ℕ) → IsKey key → key_before (key ++ 9 ∷ value) ≡ (key, 9 ∷ value)
unfolding key_before
key_again [] value h = refl
key_again (b ∷ key) value h = rw (not_same b 9 (b == 9) refl h.0, key_again key value h.1) refl

digit_no_tab : (b : ℕ) (test : Bool) → (b == 9) ≡ test → digit_value b < 10 → test ≡ false
digit_no_tab b true e low = let same : b ≡ 9 = eqb-true b 9 e in absurd (omega (arith, subst (λ (v : ℕ). digit_value v < 10) same low))
digit_no_tab b false e low = refl

digits_lack_tab : (ds : List ℕ) → AllDigits 10 ds → Lacks 9 ds
digits_lack_tab [] h = tt
digits_lack_tab (d ∷ ds) h = (digit_no_tab d (d == 9) refl h.0, digits_lack_tab ds h.1)

generation_no_tab : (n : ℕ) → IsNumber n → has_byte 9 (codes "ccr_gennum " ++ decimal n) ≡ false
unfolding has_byte
generation_no_tab n h = no_byte 9 (decimal n) (digits_lack_tab (decimal n) (decimal_is_IsNumeral n h).0.1)

-- a byte that is no digit stands among none
hex_digit_other : (c k : ℕ) (test : Bool) → hex_digit_value c ≡ None → (slice_index lower_digits k == c) ≡ test → k < 16 → test ≡ false
hex_digit_other c k true none e low = let same : slice_index lower_digits k ≡ c = eqb-true (slice_index lower_digits k) c e in absurd (cc (IsDigits-lower_digits k low, ap hex_digit_value same, none))
hex_digit_other c k false none e low = refl

hex_lacks : (c : ℕ) → hex_digit_value c ≡ None → (bytes : List ℕ) → IsBytes bytes → Lacks c (encode_lower bytes)
unfolding encode_with
hex_lacks c none [] h = tt
hex_lacks c none (b ∷ bytes) h =
    let fits : b < 256 = h 0 in (
      hex_digit_other c (b / 16) (slice_index lower_digits (b / 16) == c) none refl (omega arith),
      (hex_digit_other c (b % 16) (slice_index lower_digits (b % 16) == c) none refl (omega arith), hex_lacks c none bytes (λ k. h (suc k))),
    )

checksum_no_tab : (digest : List ℕ) → IsBytes digest → has_byte 9 (codes "ccr_checksum " ++ encode_lower digest) ≡ false
unfolding has_byte
checksum_no_tab digest h = no_byte 9 (encode_lower digest) (hex_lacks 9 refl digest h)

abbrev decoded : Result (List ℕ) FromHexError → List ℕ
decoded (Ok bytes) = bytes
decoded (Err e) = []

unfoldable pub bytes_of : List ℕ → List ℕ
bytes_of text = decoded (decode_of text)

pub bytes_again : (bytes : List ℕ) → IsBytes bytes → bytes_of (encode_lower bytes) ≡ bytes
unfolding bytes_of
bytes_again bytes h = ap decoded (decode_of-encode_lower bytes h)

abbrev pub table_of : List ℕ → TableLine
table_of text =
    if has_byte 9 text then Row (key_before text).0 (after (key_before text).1)
    else choose (Generation 0) ((codes "ccr_gennum ", λ t. Generation (number_at t).0) ∷ (codes "ccr_checksum ", λ t. Checksum (bytes_of t)) ∷ []) text

-- what follows the first word
abbrev pub line_of : TableLine → List ℕ
line_of (Generation n) = codes "ccr_gennum " ++ decimal n
line_of (Checksum digest) = codes "ccr_checksum " ++ encode_lower digest
line_of (Row key value) = key ++ 9 ∷ value

pub table_again : (l : TableLine) → IsTableLine l → table_of (line_of l) ≡ l
table_again (Generation n) h = rw (generation_no_tab n h, last (number n h)) refl
table_again (Checksum digest) h = rw (checksum_no_tab digest h, bytes_again digest h) refl
table_again (Row key value) h = rw (tab_stands key value h.0, key_again key value h.0) refl

-- ---- messages

either : (t x : Bool) → x ≡ true → (if t then true else x) ≡ true
either true x h = refl
either false x h = h

space_stands : (word rest : List ℕ) → has_byte 32 (word ++ 32 ∷ rest) ≡ true
unfolding has_byte
space_stands [] rest = refl
space_stands (b ∷ word) rest = either (b == 32) (has_byte 32 (word ++ 32 ∷ rest)) (space_stands word rest)

-- a number and what stands behind the space after it, where there is a space
abbrev numbered_at : List ℕ → Option ℕ × List ℕ
numbered_at text = if has_byte 32 text then (Some (number_at text).0, after (number_at text).1) else (None, text)

-- a message, and what stands behind the space after it
unfoldable pub message_at : List ℕ → MessageName × List ℕ
message_at text =
    let kind = message_kind_at text in
    let numbered = numbered_at kind.1 in
    (record { kind = kind.0; number = numbered.0 }, numbered.1)

message_same : (k : MessageKind) (n : Option ℕ) (digits : List ℕ) → IsNumbered n → has_byte 32 digits ≡ false
    → message_at (numbered_text (message_kind_text k) n ++ 32 ∷ digits) ≡ (record { kind = k; number = n }, digits)
unfolding message_at
message_same k None digits h alone = rw (kind_then k digits, alone) refl
message_same k (Some n) digits h alone =
    rw (append_assoc (message_kind_text k) (32 ∷ decimal n) (32 ∷ digits), kind_then k (decimal n ++ 32 ∷ digits), space_stands (decimal n) digits, more (number n h) digits) refl

pub message_again : (m : MessageName) (bytes : List ℕ) → IsMessage m → IsBytes bytes → message_at (message_text m ++ 32 ∷ encode_lower bytes) ≡ (m, encode_lower bytes)
message_again m bytes h are = message_same m.kind m.number (encode_lower bytes) h (no_byte 32 (encode_lower bytes) (hex_lacks 32 refl bytes are))

-- ---- nodes that serve

abbrev pub target_of : List ℕ → Option ℕ
target_of text = if starts_digit text then Some (number_at text).0 else None

pub target_again : (node : Option ℕ) → IsNumbered node → target_of (target_text node) ≡ node
target_again None h = rw (letter_starts 110 (111 ∷ 110 ∷ 101 ∷ []) refl) refl
target_again (Some n) h = rw (decimal_alone n h, last (number n h)) refl
