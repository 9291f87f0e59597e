-- What the fields of a line are, where they are what they should be.
use Rattle.std.proofs.Common.{◌≡◌, ℕ, ◌+◌, ◌<◌, ◌≤◌, ◌^◌, ◌==◌, ◌&&◌, ◌||◌, nat_le, nat_lt, Bool, true, false, if◌then◌else◌, List, [], ◌∷◌, length, slice_index, Option, Some, None, Result, Ok, Err, IfOk, refl, sym, subst, ◌∙◌, arith, ltb-true, leb-true}
use Rattle.cl_base.proofs.SetLemmas.{has_with, or_bit_value, none_of_zero}
use Rattle.cl_base.specs.Names.{IsName, is_letter, is_name_byte}
use Rattle.cl_base.specs.Sets.{has, set_with}
use Rattle.cl_base.specs.declared.header.Header.{Header}
use Rattle.cl_base.specs.declared.header.Version.{Version}
use Rattle.cl_base.specs.declared.header.Version.TheVariants.{One, Two}
use Rattle.schedule_text.specs.Allowed.{AreNodes, AreWithin, IsDevice, IsNode}
use Rattle.schedule_text.specs.Fields.{are_calls, are_rounds, both, calls_in, client_in, device_in, is_client, is_name, is_port, is_second, listed, named_in, node_in, nodes_from, port_in, rounds_in, second_in, tested, with_node}
use Rattle.schedule_text.specs.Versions.{most_nodes_of}
use Rattle.schedule_text.specs.Words.{decimal_in, is_decimal, numeral_of}
use Rattle.schedule_text.specs.declared.kind.Kind.{Kind}
use Rattle.schedule_text.specs.declared.kind.Kind.TheVariants as kind
use Rattle.schedule_text.specs.declared.line.SoFar.{SoFar}
use Rattle.schedule_text.specs.declared.number.Numeral.{Numeral}
use Rattle.schedule_text.specs.declared.number.Numeral.TheVariants.{Within, Beyond}
use Rattle.schedule_text.proofs.NodeLemmas.{more_nodes}
use Rattle.std.specs.Str.Parse.{digits_value}
use Rattle.std.specs.List.{list_all}
use Rattle.std.proofs.lemmas.List.Sums.{AllPass-from_list_all}

-- ---- fields, one after another

pub both_read : (A B : Type 0) (P : A → Type 0) (Q : B → Type 0) (a : Result A Kind) (b : Result B Kind) → IfOk a P → IfOk b Q → IfOk (both a b) (λ f. P f.0 × Q f.1)
both_read A B P Q (Ok a) (Ok b) p q = (p, q)
both_read A B P Q (Ok a) (Err k) p q = tt
both_read A B P Q (Err k) (Ok b) p q = tt
both_read A B P Q (Err k) (Err other) p q = tt

pub any_read : (A : Type 0) (a : Result A Kind) → IfOk a (λ x. Unit {0})
any_read A (Ok a) = tt
any_read A (Err k) = tt

pub left_true : (a b : Bool) → (a && b) ≡ true → a ≡ true
left_true true b h = refl
left_true false b h = h

pub right_true : (a b : Bool) → (a && b) ≡ true → b ≡ true
right_true true b h = h
right_true false b h = absurd (cc)

-- ---- numbers

-- a decimal number that is read has 64 bits
abbrev pub FitsWord : Option Numeral → Type 0
FitsWord None = Unit {0}
FitsWord (Some Beyond) = Unit {0}
FitsWord (Some (Within n)) = n < 2 ^ 64

numeral_fits : (n : ℕ) (t : Bool) → nat_lt n (2 ^ 64) ≡ t → FitsWord (Some (if t then Within n else Beyond))
numeral_fits n true is = ltb-true n (2 ^ 64) is
numeral_fits n false is = tt

decimal_fits_if : (w : List ℕ) (t : Bool) → FitsWord (if t then Some (numeral_of (digits_value 10 w)) else None)
decimal_fits_if w true = numeral_fits (digits_value 10 w) (nat_lt (digits_value 10 w) (2 ^ 64)) refl
decimal_fits_if w false = tt

pub decimal_fits : (w : List ℕ) → FitsWord (decimal_in w)
decimal_fits w = decimal_fits_if w (is_decimal w)

tested_if : (test : ℕ → Bool) (n : ℕ) (t : Bool) → test n ≡ t → n < 2 ^ 64 → IfOk (if t then Ok n else Err kind.Number) (λ m. (test m ≡ true) × (m < 2 ^ 64))
tested_if test n true is fits = (is, fits)
tested_if test n false is fits = tt

pub tested_read : (test : ℕ → Bool) (o : Option Numeral) → FitsWord o → IfOk (tested test o) (λ n. (test n ≡ true) × (n < 2 ^ 64))
tested_read test None fits = tt
tested_read test (Some Beyond) fits = tt
tested_read test (Some (Within n)) fits = tested_if test n (test n) refl fits

-- what holds of what is read, and what follows
pub so_read : (A : Type 0) (P Q : A → Type 0) (a : Result A Kind) → ((x : A) → P x → Q x) → IfOk a P → IfOk a Q
so_read A P Q (Ok a) f p = f a p
so_read A P Q (Err k) f p = tt

listed_if : (most there n : ℕ) (range here : Bool) → (nat_le 1 n && nat_le n most) ≡ range → nat_le n there ≡ here
    → IfOk (if range then (if here then Ok n else Err kind.Unknown) else Err kind.Number) (λ m. (1 ≤ m) × (m ≤ most) × (m ≤ there))
listed_if most there n true true range here =
    (leb-true 1 n (left_true (nat_le 1 n) (nat_le n most) range), leb-true n most (right_true (nat_le 1 n) (nat_le n most) range), leb-true n there here)
listed_if most there n true false range here = tt
listed_if most there n false here_is range here = tt

pub listed_read : (most there : ℕ) (o : Option Numeral) → IfOk (listed most there o) (λ n. (1 ≤ n) × (n ≤ most) × (n ≤ there))
listed_read most there None = tt
listed_read most there (Some Beyond) = tt
listed_read most there (Some (Within n)) = listed_if most there n (nat_le 1 n && nat_le n most) (nat_le n there) refl refl

pub node_read : (h : Header) (w : List ℕ) → IfOk (node_in h w) (IsNode h)
unfolding node_in
node_read h w = listed_read (most_nodes_of h.version) h.nodes (decimal_in w)

pub device_read : (h : Header) (w : List ℕ) → IfOk (device_in h w) (IsDevice h)
unfolding device_in
device_read h w = listed_read 16 (length h.devices) (decimal_in w)

pub calls_read : (w : List ℕ) → IfOk (calls_in w) (λ n. (1 ≤ n) × (n ≤ 1000))
unfolding calls_in
calls_read w = so_read ℕ (λ n. (are_calls n ≡ true) × (n < 2 ^ 64)) (λ n. (1 ≤ n) × (n ≤ 1000)) (tested are_calls (decimal_in w))
    (λ n h. (leb-true 1 n (left_true (nat_le 1 n) (nat_le n 1000) h.0), leb-true n 1000 (right_true (nat_le 1 n) (nat_le n 1000) h.0)))
    (tested_read are_calls (decimal_in w) (decimal_fits w))

pub rounds_read : (s : SoFar) (w : List ℕ) → IfOk (rounds_in s w) (λ n. (1 ≤ n) × (n ≤ 100) × (s.rounds + n ≤ 100000))
unfolding rounds_in
rounds_read s w = so_read ℕ (λ n. (are_rounds s n ≡ true) × (n < 2 ^ 64)) (λ n. (1 ≤ n) × (n ≤ 100) × (s.rounds + n ≤ 100000)) (tested (are_rounds s) (decimal_in w))
    (λ n h. ranges n h.0) (tested_read (are_rounds s) (decimal_in w) (decimal_fits w))
  where
    ranges : (n : ℕ) → are_rounds s n ≡ true → (1 ≤ n) × (n ≤ 100) × (s.rounds + n ≤ 100000)
    ranges n is =
        let two : (nat_le 1 n && nat_le n 100) ≡ true = left_true (nat_le 1 n && nat_le n 100) (nat_le (s.rounds + n) 100000) is in (
          leb-true 1 n (left_true (nat_le 1 n) (nat_le n 100) two),
          leb-true n 100 (right_true (nat_le 1 n) (nat_le n 100) two),
          leb-true (s.rounds + n) 100000 (right_true (nat_le 1 n && nat_le n 100) (nat_le (s.rounds + n) 100000) is),
        )

pub second_read : (s : SoFar) (w : List ℕ) → IfOk (second_in s w) (λ n. (s.clock ≤ n) × (n < 2 ^ 64))
unfolding second_in
second_read s w = so_read ℕ (λ n. (is_second s n ≡ true) × (n < 2 ^ 64)) (λ n. (s.clock ≤ n) × (n < 2 ^ 64)) (tested (is_second s) (decimal_in w))
    (λ n h. (leb-true s.clock n h.0, h.1)) (tested_read (is_second s) (decimal_in w) (decimal_fits w))

pub client_read : (w : List ℕ) → IfOk (client_in w) (λ n. n < 2 ^ 32)
unfolding client_in
client_read w = so_read ℕ (λ n. (is_client n ≡ true) × (n < 2 ^ 64)) (λ n. n < 2 ^ 32) (tested is_client (decimal_in w))
    (λ n h. ltb-true n (2 ^ 32) h.0) (tested_read is_client (decimal_in w) (decimal_fits w))

pub port_read : (w : List ℕ) → IfOk (port_in w) (λ n. n < 2 ^ 16)
unfolding port_in
port_read w = so_read ℕ (λ n. (is_port n ≡ true) × (n < 2 ^ 64)) (λ n. n < 2 ^ 16) (tested is_port (decimal_in w))
    (λ n h. ltb-true n (2 ^ 16) h.0) (tested_read is_port (decimal_in w) (decimal_fits w))

-- ---- names

holds_name : (w : List ℕ) → is_name w ≡ true → IsName w
holds_name w h =
    let three = left_true (nat_le 1 (length w) && nat_le (length w) 32 && is_letter (slice_index w 0)) (list_all is_name_byte w) h in
    let two = left_true (nat_le 1 (length w) && nat_le (length w) 32) (is_letter (slice_index w 0)) three in (
      leb-true 1 (length w) (left_true (nat_le 1 (length w)) (nat_le (length w) 32) two),
      leb-true (length w) 32 (right_true (nat_le 1 (length w)) (nat_le (length w) 32) two),
      right_true (nat_le 1 (length w) && nat_le (length w) 32) (is_letter (slice_index w 0)) three,
      AllPass-from_list_all is_name_byte w (right_true (nat_le 1 (length w) && nat_le (length w) 32 && is_letter (slice_index w 0)) (list_all is_name_byte w) h),
    )

named_if : (w : List ℕ) (t : Bool) → is_name w ≡ t → IfOk (if t then Ok w else Err kind.Line) IsName
named_if w true is = holds_name w is
named_if w false is = tt

pub named_read : (w : List ℕ) → IfOk (named_in w) IsName
unfolding named_in
named_read w = named_if w (is_name w) refl

-- ---- sets of nodes

pub few_nodes : (v : Version) (n : ℕ) → n ≤ most_nodes_of v → n ≤ 32
few_nodes One n le = omega (arith, le)
few_nodes Two n le = le

pub has_one_more : (set n : ℕ) → 1 ≤ n → n ≤ 32 → (m : ℕ) → has (set_with set n) m ≡ ((m == n) || has set m)
has_one_more set n low high m = subst (λ x. has x m ≡ ((m == n) || has set m)) (or_bit_value set n high) (has_with set n low high m)

pub one_node_more : (set n most : ℕ) → AreWithin most set → 1 ≤ n → n ≤ 32 → n ≤ most → AreNodes most (set_with set n)
one_node_more set n most within low high here = more_nodes (Ok set) (Ok n) set n (set_with set n) 32 most refl within (low, high, here) (has_one_more set n low high)

with_node_read : (h : Header) (before node : Result ℕ Kind) → IfOk before (AreWithin h.nodes) → IfOk node (IsNode h) → IfOk (with_node before node) (AreNodes h.nodes)
with_node_read h (Ok set) (Ok n) within is = one_node_more set n h.nodes within is.0 (few_nodes h.version n is.1) is.2
with_node_read h (Ok set) (Err k) within is = tt
with_node_read h (Err k) (Ok n) within is = tt
with_node_read h (Err k) (Err other) within is = tt

nodes_kept : (h : Header) (before : Result ℕ Kind) (words : List (List ℕ)) → IfOk before (AreNodes h.nodes) → IfOk (nodes_from h before words) (AreNodes h.nodes)
nodes_kept h before [] are = are
nodes_kept h before (w ∷ words) are =
    nodes_kept h (with_node before (node_in h w)) words
    (with_node_read h before (node_in h w) (so_read ℕ (AreNodes h.nodes) (AreWithin h.nodes) before (λ set a. a.1) are) (node_read h w))

pub none_within : (most : ℕ) → AreWithin most 0
none_within most = λ n h. absurd (differ (sym (none_of_zero n) ∙ h))
  where
    differ : false ≡ true → ⊥
    differ h = absurd (cc)

pub nodes_read : (h : Header) (w : List ℕ) (words : List (List ℕ)) → IfOk (nodes_from h (Ok 0) (w ∷ words)) (AreNodes h.nodes)
nodes_read h w words = nodes_kept h (with_node (Ok 0) (node_in h w)) words (with_node_read h (Ok 0) (node_in h w) (none_within h.nodes) (node_read h w))
