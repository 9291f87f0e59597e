-- Texts cut at a byte, and the bytes that digits have.
use Rattle.std.proofs.Common.{◌≡◌, ◌≢◌, ℕ, zero, suc, ◌/◌, ◌%◌, ◌^◌, ◌<◌, List, [], ◌∷◌, ◌++◌, length, get_or, slice_index, take, drop, true, false, refl, ap, subst, sym, ◌∙◌, append_assoc, arith, Bor}
use Rattle.std.specs.Prelude.{All, Option, Some, None, MatchOption, codes, nat_eq}
use Rattle.std.specs.Fmt.{decimal}
use Rattle.std.specs.Int.{IsInRange, w32, to_be_bytes, bytes_high_first, byte_at, byte_len}
use Rattle.std.proofs.lemmas.List.{append_cancel_left, take-append-le, take_all, take-append-drop}
use Rattle.std.specs.Cmp.Lexicographic.{pointwise, bytes_decides, nat_list_eq_equiv}
use Rattle.std.proofs.lemmas.List.Elements.{All-head, All-tail, All-cons, All-nil, All-from_get_or}
use Rattle.std.proofs.lemmas.Fmt.{decimal_is_IsNumeral, decimal_injective}
use Rattle.std.proofs.lemmas.Str.Parse.{digit_at}
use Rattle.hex.specs.Hex.{encode_with, encode_lower, lower_digits, decode_of, hex_digit_value, IsBytes}
use Rattle.hex.proofs.HexLemmas.{IsDigits-lower_digits, decode_of-encode_lower}
use Rattle.sha2.specs.Sha256.{sha256, digest_bytes, final_hash, initial_hash_256}
use Rattle.sha2.proofs.Facts256.{length-sha256}
use Rattle.ccr_text.specs.TableText.{IsDigest, gennum_line, checksum_line}

abbrev pub Lacks : ℕ → List ℕ → Type 0
Lacks c xs = All (λ b. b ≢ c) xs

pub lacks_none : (c : ℕ) (a b : List ℕ) → Lacks c (a ++ c ∷ b) → ⊥
lacks_none c [] b h = All-head (λ x. x ≢ c) c b h refl
lacks_none c (x ∷ a) b h = lacks_none c a b (All-tail (λ x. x ≢ c) x (a ++ c ∷ b) h)

-- a text is cut at its first c in one way
pub cut_same : (c : ℕ) (a b x y : List ℕ) → Lacks c a → Lacks c b → a ++ c ∷ x ≡ b ++ c ∷ y → (a ≡ b) × (x ≡ y)
cut_same c [] [] x y ha hb e = (refl, cc)
cut_same c [] (b ∷ bs) x y ha hb e = let same : b ≡ c = cc in absurd (All-head (λ x. x ≢ c) b bs hb same)
cut_same c (a ∷ front) [] x y ha hb e = let same : a ≡ c = cc in absurd (All-head (λ x. x ≢ c) a front ha same)
cut_same c (a ∷ front) (b ∷ bs) x y ha hb e =
    let heads : a ≡ b = cc in
    let tails : front ++ c ∷ x ≡ bs ++ c ∷ y = cc in
    let both = cut_same c front bs x y (All-tail (λ x. x ≢ c) a front ha) (All-tail (λ x. x ≢ c) b bs hb) tails in
    let fronts : front ≡ bs = both.0 in
    ((cc), both.1)

pub decimal_lacks : (n : ℕ) → n < 2 ^ 64 → Lacks 10 (decimal n)
decimal_lacks n fits = All-from_get_or (λ b. b ≢ 10) (decimal n) 0 (λ i low.
    let digit : IsInRange 48 57 (get_or (decimal n) i 0) = digit_at (decimal n) i (decimal_is_IsNumeral n fits).0.1 low in
    λ e. omega (arith, digit.0, e))

digit_lacks : (k : ℕ) → k < 16 → slice_index lower_digits k ≢ 10
digit_lacks k low e = cc (IsDigits-lower_digits k low, ap hex_digit_value e)

pub hex_lacks : (bytes : List ℕ) → IsBytes bytes → Lacks 10 (encode_lower bytes)
unfolding encode_with
hex_lacks [] h = All-nil (λ b. b ≢ 10)
hex_lacks (b ∷ bytes) h =
    let fits : b < 256 = h 0 in
    All-cons (λ b. b ≢ 10) (slice_index lower_digits (b / 16)) (slice_index lower_digits (b % 16) ∷ encode_lower bytes) (digit_lacks (b / 16) (omega arith))
    (All-cons (λ b. b ≢ 10) (slice_index lower_digits (b % 16)) (encode_lower bytes) (digit_lacks (b % 16) (omega arith)) (hex_lacks bytes (λ k. h (suc k))))

pub encode_same : (a b : List ℕ) → IsBytes a → IsBytes b → encode_lower a ≡ encode_lower b → a ≡ b
encode_same a b ha hb e = cc (decode_of-encode_lower a ha, decode_of-encode_lower b hb, ap decode_of e)

-- ---- a digest is of bytes

bytes_nil : IsBytes []
bytes_nil i = omega arith

bytes_cons : (x : ℕ) (xs : List ℕ) → x < 256 → IsBytes xs → IsBytes (x ∷ xs)
bytes_cons x xs low h zero = low
bytes_cons x xs low h (suc i) = h i

bytes_append : (a b : List ℕ) → IsBytes a → IsBytes b → IsBytes (a ++ b)
bytes_append [] b ha hb = hb
bytes_append (x ∷ a) b ha hb = bytes_cons x (a ++ b) (ha 0) (bytes_append a b (λ k. ha (suc k)) hb)

byte_low : (k n : ℕ) → byte_at k n < 256
byte_low zero n = omega arith
byte_low (suc k) n = omega arith

bytes_number : (k n : ℕ) → IsBytes (bytes_high_first k n)
bytes_number zero n = bytes_nil
bytes_number (suc k) n = bytes_cons (byte_at k n) (bytes_high_first k n) (byte_low k n) (bytes_number k n)

bytes_words : (words : List ℕ) (k : ℕ) → IsBytes (digest_bytes words k)
unfolding digest_bytes
bytes_words words zero = bytes_nil
bytes_words words (suc k) = bytes_append (digest_bytes words k) (to_be_bytes w32 (slice_index words k)) (bytes_words words k) (bytes_number (byte_len w32) (slice_index words k))

sha_bytes : (message : List ℕ) → IsBytes (sha256 message)
unfolding sha256
sha_bytes message = bytes_words (final_hash initial_hash_256 message) 8

pub sha_is_digest : (message : List ℕ) → IsDigest (sha256 message)
sha_is_digest message = record { size = length-sha256 message; bytes = sha_bytes message }

-- ---- a line with a tag

pub regroup : (tag body rest : List ℕ) → (tag ++ (body ++ 10 ∷ [])) ++ rest ≡ tag ++ (body ++ 10 ∷ rest)
regroup tag body rest = append_assoc tag (body ++ 10 ∷ []) rest ∙ ap (λ t. tag ++ t) (append_assoc body (10 ∷ []) rest)

pub tagged_same : (tag a b x y : List ℕ) → Lacks 10 a → Lacks 10 b → (tag ++ (a ++ 10 ∷ [])) ++ x ≡ (tag ++ (b ++ 10 ∷ [])) ++ y → (a ≡ b) × (x ≡ y)
tagged_same tag a b x y ha hb e = cut_same 10 a b x y ha hb (append_cancel_left tag _ _ (sym (regroup tag a x) ∙ e ∙ regroup tag b y))

pub gennum_same : (m n : ℕ) (x y : List ℕ) → m < 2 ^ 64 → n < 2 ^ 64 → gennum_line m ++ x ≡ gennum_line n ++ y → (m ≡ n) × (x ≡ y)
gennum_same m n x y fm fn e =
    let parts = tagged_same (codes "ccr_gennum ") (decimal m) (decimal n) x y (decimal_lacks m fm) (decimal_lacks n fn) e in
    (decimal_injective m n fm fn parts.0, parts.1)

pub checksum_same : (a b x y : List ℕ) → IsDigest a → IsDigest b → checksum_line a ++ x ≡ checksum_line b ++ y → (a ≡ b) × (x ≡ y)
checksum_same a b x y ha hb e =
    let parts = tagged_same (codes "ccr_checksum ") (encode_lower a) (encode_lower b) x y (hex_lacks a ha.bytes) (hex_lacks b hb.bytes) e in
    (encode_same a b ha.bytes hb.bytes parts.0, parts.1)

-- ---- texts that no line begins

abbrev pub NoTagged : List ℕ → List ℕ → Type 0
NoTagged tag text = (body rest : List ℕ) → Lacks 10 body → text ≢ tag ++ (body ++ 10 ∷ rest)

pub no_gennum : (text : List ℕ) → NoTagged (codes "ccr_gennum ") text → (n : ℕ) (rest : List ℕ) → n < 2 ^ 64 → text ≢ gennum_line n ++ rest
no_gennum text none n rest fits e = none (decimal n) rest (decimal_lacks n fits) (e ∙ regroup (codes "ccr_gennum ") (decimal n) rest)

pub no_checksum : (text : List ℕ) → NoTagged (codes "ccr_checksum ") text → (d rest : List ℕ) → IsDigest d → text ≢ checksum_line d ++ rest
no_checksum text none d rest h e = none (encode_lower d) rest (hex_lacks d h.bytes) (e ∙ regroup (codes "ccr_checksum ") (encode_lower d) rest)

tagged_body : (tag text a b x y : List ℕ) → Lacks 10 a → Lacks 10 b → text ≡ tag ++ (a ++ 10 ∷ x) → text ≡ tag ++ (b ++ 10 ∷ y) → a ≡ b
tagged_body tag text a b x y ha hb ea eb = (cut_same 10 a b x y ha hb (append_cancel_left tag _ _ (sym ea ∙ eb))).0

-- the digits after the tag spell no number
pub other_gennum : (text digits more : List ℕ) → text ≡ codes "ccr_gennum " ++ (digits ++ 10 ∷ more) → Lacks 10 digits → ((n : ℕ) → n < 2 ^ 64 → digits ≢ decimal n) → (n : ℕ) (rest : List ℕ) → n < 2 ^ 64 → text ≢ gennum_line n ++ rest
other_gennum text digits more is lacks none n rest fits e =
    none n fits (tagged_body (codes "ccr_gennum ") text digits (decimal n) more rest lacks (decimal_lacks n fits) is (e ∙ regroup (codes "ccr_gennum ") (decimal n) rest))

pub other_checksum : (text digits more : List ℕ) → text ≡ codes "ccr_checksum " ++ (digits ++ 10 ∷ more) → Lacks 10 digits → ((d : List ℕ) → IsDigest d → digits ≢ encode_lower d) → (d rest : List ℕ) → IsDigest d → text ≢ checksum_line d ++ rest
other_checksum text digits more is lacks none d rest h e =
    none d h (tagged_body (codes "ccr_checksum ") text digits (encode_lower d) more rest lacks (hex_lacks d h.bytes) is (e ∙ regroup (codes "ccr_checksum ") (encode_lower d) rest))

-- the text has no such front
pub no_front : (tag text : List ℕ) → pointwise nat_eq (take (length tag) text) tag ≡ false → NoTagged tag text
no_front tag text other body rest lacks e =
    let front : take (length tag) text ≡ tag = ap (take (length tag)) e ∙ take-append-le (length tag) tag (body ++ 10 ∷ rest) (omega arith) ∙ take_all (length tag) tag (omega arith) in
    let same : pointwise nat_eq tag tag ≡ true = nat_list_eq_equiv.refl tag in
    cc (ap (λ f. pointwise nat_eq f tag) front)

pub front_is : (tag text rest : List ℕ) → pointwise nat_eq (take (length tag) text) tag ≡ true → rest ≡ drop (length tag) text → text ≡ tag ++ rest
front_is tag text rest same is =
    sym (take-append-drop (length tag) text)
    ∙ ap (λ f. f ++ drop (length tag) text) ((bytes_decides (take (length tag) text) tag).0 same)
    ∙ ap (λ r. tag ++ r) (sym is)

-- a text without a newline has no line
pub no_line : (tag text after : List ℕ) → text ≡ tag ++ after → Lacks 10 after → NoTagged tag text
no_line tag text after is lacks body rest low e =
    let same : after ≡ body ++ 10 ∷ rest = append_cancel_left tag _ _ (sym is ∙ e) in
    lacks_none 10 body rest (subst (Lacks 10) same lacks)

pub tagged_from : (tag text after : List ℕ) → text ≡ tag ++ after → (r : Option (Bor (List ℕ) × Bor (List ℕ))) → MatchOption r (Lacks 10 after) (λ p. (after ≡ p.0.now ++ 10 ∷ p.1.now) × Lacks 10 p.0.now) → MatchOption r (NoTagged tag text) (λ p. (text ≡ tag ++ (p.0.now ++ 10 ∷ p.1.now)) × Lacks 10 p.0.now)
tagged_from tag text after is None h = no_line tag text after is h
tagged_from tag text after is (Some p) h = (is ∙ ap (λ t. tag ++ t) h.0, h.1)
