use Rattle.std.proofs.Common.{◌≡◌, ℕ, suc, zero, ◌+◌, ◌*◌, ◌/◌, ◌<◌, ◌≤◌, ◌++◌, ◌==◌, not, true, false, ◌≢◌, List, [], ◌∷◌, inl, inr, Option, Some, None, length, map, filter, get_or, set, refl, sym, ap, ◌∙◌, subst, arith, append_assoc, length-append, length-set}
use Rattle.std.specs.List.{find}
use Rattle.std.specs.Option.{option_map}
use Rattle.std.proofs.lemmas.List.{append-nil, length_push, get_or-map, get_or_append_left, get_or-append-add, set-append_left}
use Rattle.std.proofs.lemmas.Bool.{cases_lt}
use Rattle.std.proofs.lemmas.Bool.Decides.{nat_tests}
use Rattle.interconnect.specs.declared.by_number.Place.{Place}
use Rattle.interconnect.specs.Places.{Keyed, with_key, live, IsAscending, Numbered, kept, sweeping, IsRoomy, IsKept}

pub test_same : (a b : ℕ) → a ≡ b → (a == b) ≡ true
test_same a b e = grind (arith, nat_tests)

pub test_other : (a b : ℕ) → a ≢ b → (a == b) ≡ false
test_other a b e = grind (arith, nat_tests)

-- the packet of a number, and those of others
abbrev pub named : ℕ → List Keyed → Option Keyed
named n held = find (λ h. h.number == n) held

abbrev pub others : ℕ → List Keyed → List Keyed
others n held = filter (λ h. not (h.number == n)) held

-- numbers that rise

pub ascending_ends : (low next : ℕ) (ps : List Place) → IsAscending low ps next → low ≤ next
ascending_ends low next [] a = a
ascending_ends low next (p ∷ rest) a = let m = a.0 in let k = ascending_ends (p.number + 1) next rest a.1 in omega arith

pub ascending_lower : (low base next : ℕ) (ps : List Place) → base ≤ low → IsAscending low ps next → IsAscending base ps next
ascending_lower low base next [] b a = omega arith
ascending_lower low base next (p ∷ rest) b a = (let m = a.0 in omega arith, a.1)

pub ascending_front : (low next : ℕ) (xs ys : List Place) → IsAscending low (xs ++ ys) next → IsAscending low xs next
ascending_front low next [] ys a = ascending_ends low next ys a
ascending_front low next (p ∷ rest) ys a = (a.0, ascending_front (p.number + 1) next rest ys a.1)

pub ascending_back : (low next : ℕ) (xs ys : List Place) → IsAscending low (xs ++ ys) next → IsAscending low ys next
ascending_back low next [] ys a = a
ascending_back low next (p ∷ rest) ys a =
    ascending_lower (p.number + 1) low next ys (let m = a.0 in omega arith) (ascending_back (p.number + 1) next rest ys a.1)

pub ascending_without : (low next : ℕ) (xs : List Place) (p : Place) (ys : List Place) → IsAscending low (xs ++ p ∷ ys) next → IsAscending low (xs ++ ys) next
ascending_without low next [] p ys a = ascending_lower (p.number + 1) low next ys (let m = a.0 in omega arith) a.1
ascending_without low next (x ∷ rest) p ys a = (a.0, ascending_without (x.number + 1) next rest p ys a.1)

pub ascending_push : (low next : ℕ) (ps : List Place) (p : Place) → IsAscending low ps next → p.number ≡ next
    → IsAscending low (ps ++ p ∷ []) (next + 1)
ascending_push low next [] p a e = (omega arith, omega arith)
ascending_push low next (x ∷ rest) p a e = (a.0, ascending_push (x.number + 1) next rest p a.1 e)

pub ascending_next : (low next : ℕ) (ps : List Place) → IsAscending low ps next → IsAscending low ps (next + 1)
ascending_next low next [] a = omega arith
ascending_next low next (p ∷ rest) a = (a.0, ascending_next (p.number + 1) next rest a.1)

pub ascending_set : (low next : ℕ) (ps : List Place) (i : ℕ) (p q : Place) → IsAscending low ps next → i < length ps → p ≡ get_or ps i p
    → q.number ≡ p.number → IsAscending low (set ps i q) next
ascending_set low next [] i p q a l e n = absurd (omega arith)
ascending_set low next (x ∷ rest) zero p q a l e n =
    let same : q.number ≡ x.number = n ∙ ap (λ (v : Place). v.number) e in
    (rw same a.0, rw same a.1)
ascending_set low next (x ∷ rest) (suc i) p q a l e n = (a.0, ascending_set (x.number + 1) next rest i p q a.1 (omega arith) e n)

low_number : (low next : ℕ) (ps : List Place) (i : ℕ) → IsAscending low ps next → i < length ps → low ≤ get_or (map (λ p. p.number) ps) i 0
low_number low next [] i a l = absurd (omega arith)
low_number low next (x ∷ rest) zero a l = a.0
low_number low next (x ∷ rest) (suc i) a l =
    let m = a.0 in let k = low_number (x.number + 1) next rest i a.1 (omega arith) in omega arith

pub ascending_pairs : (low next : ℕ) (ps : List Place) (i k : ℕ) → IsAscending low ps next → i < k → k < length ps
    → get_or (map (λ p. p.number) ps) i 0 < get_or (map (λ p. p.number) ps) k 0
ascending_pairs low next [] i k a l m = absurd (omega arith)
ascending_pairs low next (x ∷ rest) i zero a l m = absurd (omega arith)
ascending_pairs low next (x ∷ rest) zero (suc k) a l m = let n = low_number (x.number + 1) next rest k a.1 (omega arith) in omega arith
ascending_pairs low next (x ∷ rest) (suc i) (suc k) a l m = ascending_pairs (x.number + 1) next rest i k a.1 (omega arith) (omega arith)

low_place : (low next : ℕ) (ps : List Place) (i : ℕ) (p : Place) → IsAscending low ps next → i < length ps → p ≡ get_or ps i p → low ≤ p.number
low_place low next [] i p a l e = absurd (omega arith)
low_place low next (x ∷ rest) zero p a l e = let n : p.number ≡ x.number = ap (λ (v : Place). v.number) e in let m = a.0 in omega arith
low_place low next (x ∷ rest) (suc i) p a l e =
    let m = a.0 in let k = low_place (x.number + 1) next rest i p a.1 (omega arith) e in omega arith

abbrev pub numbers_of : List Place → List ℕ
numbers_of ps = map (λ p. p.number) ps

abbrev pub Pairs : List Place → Type 0
Pairs ps = (i k : ℕ) → i < k → k < length ps → get_or (numbers_of ps) i 0 < get_or (numbers_of ps) k 0

pub below_more : (ps : List Place) (m n : ℕ) (p : Place) → Pairs ps → m < length ps → p ≡ get_or ps m p → p.number < n
    → (k : ℕ) → k < m + 1 → get_or (numbers_of ps) k 0 < n
below_more ps m n p pairs l e less k b =
    let here : get_or (numbers_of ps) m 0 ≡ p.number = get_or-map (λ (v : Place). v.number) ps m p 0 l ∙ ap (λ (v : Place). v.number) (sym e) in
    elim (cases_lt k m) as (λ _. get_or (numbers_of ps) k 0 < n) [
      | inl lower ↦ let q = pairs k m lower l in omega arith
      | inr upper ↦ let same : m ≡ k = omega arith in subst (λ (j : ℕ). get_or (numbers_of ps) j 0 < n) same (omega arith)
    ]

pub from_more : (ps : List Place) (m n : ℕ) (p : Place) → Pairs ps → m < length ps → p ≡ get_or ps m p → n ≤ p.number
    → (k : ℕ) → m ≤ k → k < length ps → n ≤ get_or (numbers_of ps) k 0
from_more ps m n p pairs l e more k b t =
    let here : get_or (numbers_of ps) m 0 ≡ p.number = get_or-map (λ (v : Place). v.number) ps m p 0 l ∙ ap (λ (v : Place). v.number) (sym e) in
    elim (cases_lt m k) as (λ _. n ≤ get_or (numbers_of ps) k 0) [
      | inl upper ↦ let q = pairs m k upper t in omega arith
      | inr lower ↦ let same : m ≡ k = omega arith in subst (λ (j : ℕ). n ≤ get_or (numbers_of ps) j 0) same (omega arith)
    ]

-- a packet of another number in front, and of this one

named_over : (o : Option ℕ) (k n : ℕ) (held : List Keyed) → k ≢ n → named n (with_key k o held) ≡ named n held
named_over None k n held e = refl
named_over (Some key) k n held e =
    let t : (k == n) ≡ false = test_other k n e in rw t refl

others_over : (o : Option ℕ) (k n : ℕ) (held : List Keyed) → k ≢ n → others n (with_key k o held) ≡ with_key k o (others n held)
others_over None k n held e = refl
others_over (Some key) k n held e =
    let t : (k == n) ≡ false = test_other k n e in rw t refl

named_here : (o : Option ℕ) (n : ℕ) (held : List Keyed) → named n held ≡ None → option_map (λ h. h.key) (named n (with_key n o held)) ≡ o
named_here None n held none = rw none refl
named_here (Some key) n held none =
    let t : (n == n) ≡ true = test_same n n refl in rw t refl

others_here : (o : Option ℕ) (n : ℕ) (held : List Keyed) → others n (with_key n o held) ≡ others n held
others_here None n held = refl
others_here (Some key) n held =
    let t : (n == n) ≡ true = test_same n n refl in rw t refl

abbrev pub Misses : List Place → ℕ → Type 0
Misses ps n = (k : ℕ) → k < length ps → get_or (map (λ p. p.number) ps) k 0 ≢ n

pub named_none : (low next : ℕ) (ps : List Place) (n : ℕ) → IsAscending low ps next → Misses ps n → named n (live ps) ≡ None
named_none low next [] n a none = refl
named_none low next (p ∷ rest) n a none =
    named_over p.key p.number n (live rest) (none 0 (omega arith))
    ∙ named_none (p.number + 1) next rest n a.1 (λ k l. none (suc k) (omega arith))

pub others_all : (low next : ℕ) (ps : List Place) (n : ℕ) → IsAscending low ps next → Misses ps n → others n (live ps) ≡ live ps
others_all low next [] n a none = refl
others_all low next (p ∷ rest) n a none =
    others_over p.key p.number n (live rest) (none 0 (omega arith))
    ∙ ap (λ (held : List Keyed). with_key p.number p.key held) (others_all (p.number + 1) next rest n a.1 (λ k l. none (suc k) (omega arith)))

-- all numbers are above
above : (low next : ℕ) (ps : List Place) (n : ℕ) → IsAscending low ps next → n < low → Misses ps n
above low next ps n a l k b s = let m = low_number low next ps k a b in omega arith

abbrev pub key_of : Option Keyed → Option ℕ
key_of o = option_map (λ h. h.key) o

pub named_at : (low next : ℕ) (ps : List Place) (i : ℕ) (p : Place) → IsAscending low ps next → i < length ps → p ≡ get_or ps i p
    → key_of (named p.number (live ps)) ≡ p.key
named_at low next [] i p a l e = absurd (omega arith)
named_at low next (x ∷ rest) zero p a l e =
    subst (λ (v : Place). key_of (named v.number (live (x ∷ rest))) ≡ v.key) (sym e)
    (named_here x.key x.number (live rest)
    (named_none (x.number + 1) next rest x.number a.1 (above (x.number + 1) next rest x.number a.1 (omega arith))))
named_at low next (x ∷ rest) (suc i) p a l e =
    let m = low_place (x.number + 1) next rest i p a.1 (omega arith) e in
    ap (λ (o : Option Keyed). key_of o) (named_over x.key x.number p.number (live rest) (λ (s : x.number ≡ p.number). omega arith))
    ∙ named_at (x.number + 1) next rest i p a.1 (omega arith) e

pub others_at : (low next : ℕ) (ps : List Place) (i : ℕ) (p q : Place) → IsAscending low ps next → i < length ps → p ≡ get_or ps i p → q.key ≡ None
    → live (set ps i q) ≡ others p.number (live ps)
others_at low next [] i p q a l e h = absurd (omega arith)
others_at low next (x ∷ rest) zero p q a l e h =
    let gone : with_key q.number q.key (live rest) ≡ live rest = rw h refl in
    gone
    ∙ sym (others_all (x.number + 1) next rest x.number a.1 (above (x.number + 1) next rest x.number a.1 (omega arith)))
    ∙ sym (others_here x.key x.number (live rest))
    ∙ ap (λ (v : Place). others v.number (live (x ∷ rest))) (sym e)
others_at low next (x ∷ rest) (suc i) p q a l e h =
    let m = low_place (x.number + 1) next rest i p a.1 (omega arith) e in
    ap (λ (held : List Keyed). with_key x.number x.key held) (others_at (x.number + 1) next rest i p q a.1 (omega arith) e h)
    ∙ sym (others_over x.key x.number p.number (live rest) (λ (s : x.number ≡ p.number). omega arith))

-- lists of places

with_key_append : (n : ℕ) (o : Option ℕ) (xs ys : List Keyed) → with_key n o xs ++ ys ≡ with_key n o (xs ++ ys)
with_key_append n None xs ys = refl
with_key_append n (Some key) xs ys = refl

pub live_append : (xs ys : List Place) → live (xs ++ ys) ≡ live xs ++ live ys
live_append [] ys = refl
live_append (p ∷ rest) ys =
    ap (λ (held : List Keyed). with_key p.number p.key held) (live_append rest ys) ∙ sym (with_key_append p.number p.key (live rest) (live ys))

length_with : (n : ℕ) (o : Option ℕ) (xs : List Keyed) → length xs ≤ length (with_key n o xs)
length_with n None xs = omega arith
length_with n (Some key) xs = omega arith

-- emptying a place makes the packets no more
pub live_emptied : (ps : List Place) (i : ℕ) (q : Place) → q.key ≡ None → length (live (set ps i q)) ≤ length (live ps)
live_emptied [] i q h = omega arith
live_emptied (x ∷ rest) zero q h =
    let gone : with_key q.number q.key (live rest) ≡ live rest = rw h refl in
    rw gone (length_with x.number x.key (live rest))
live_emptied (x ∷ rest) (suc i) q h =
    let k = live_emptied rest i q h in
    elim x.key as (λ (o : Option ℕ). length (with_key x.number o (live (set rest i q))) ≤ length (with_key x.number o (live rest))) [
      | None ↦ k
      | Some v ↦ omega arith
    ]

-- a step of sweeping

sweep_live_at : (o : Option ℕ) (swept rest : List Place) (p : Place) → p.key ≡ o → live (kept o p swept ++ rest) ≡ live swept ++ with_key p.number o (live rest)
sweep_live_at None swept rest p e = live_append swept rest
sweep_live_at (Some key) swept rest p e =
    ap (λ (ps : List Place). live ps) (append_assoc swept (p ∷ []) rest) ∙ live_append swept (p ∷ rest)
    ∙ ap (λ (o : Option ℕ). live swept ++ with_key p.number o (live rest)) e

pub sweeping_live : (swept unswept : List Place) → live ((sweeping swept unswept).swept ++ (sweeping swept unswept).unswept) ≡ live (swept ++ unswept)
sweeping_live swept [] = ap (λ (ps : List Place). live ps) (sym (append-nil swept))
sweeping_live swept (p ∷ rest) = sweep_live_at p.key swept rest p refl ∙ sym (live_append swept (p ∷ rest))

sweep_ascending_at : (o : Option ℕ) (low next : ℕ) (swept rest : List Place) (p : Place) → IsAscending low (swept ++ p ∷ rest) next
    → IsAscending low (kept o p swept ++ rest) next
sweep_ascending_at None low next swept rest p a = ascending_without low next swept p rest a
sweep_ascending_at (Some key) low next swept rest p a = subst (λ (ps : List Place). IsAscending low ps next) (sym (append_assoc swept (p ∷ []) rest)) a

pub sweeping_ascending : (low next : ℕ) (swept unswept : List Place) → IsAscending low (swept ++ unswept) next
    → IsAscending low ((sweeping swept unswept).swept ++ (sweeping swept unswept).unswept) next
sweeping_ascending low next swept [] a = subst (λ (ps : List Place). IsAscending low ps next) (append-nil swept) a
sweeping_ascending low next swept (p ∷ rest) a = sweep_ascending_at p.key low next swept rest p a

sweep_spread_at : (o : Option ℕ) (swept rest : List Place) (p : Place) (most slack : ℕ)
    → 2 * (3 * length swept + 3 * length (with_key p.number o (live rest)) + (length rest + 1)) ≤ 9 * most + 2 * (slack + 1)
    → 2 * (3 * length (kept o p swept) + 3 * length (live rest) + length rest) ≤ 9 * most + 2 * slack
sweep_spread_at None swept rest p most slack h = omega arith
sweep_spread_at (Some v) swept rest p most slack h = omega (arith, length_push swept p)

pub sweeping_roomy : (swept unswept : List Place) (most slack wait : ℕ) → IsRoomy swept unswept most (slack + 1) wait → slack ≤ 3 → wait ≤ 2
    → IsRoomy (sweeping swept unswept).swept (sweeping swept unswept).unswept most slack 1
sweeping_roomy swept [] most slack wait r s w =
    let few : length (live swept) ≤ most = subst (λ (ps : List Place). length (live ps) ≤ most) (append-nil swept) r.few in
    let spread = r.spread in
    record { few = few; spread = omega arith; waiting = omega arith }
sweeping_roomy swept (p ∷ rest) most slack wait r s w =
    let spread : 2 * (3 * length swept + 3 * length (with_key p.number p.key (live rest)) + (length rest + 1)) ≤ 9 * most + 2 * (slack + 1) = let k = r.spread in omega arith in
    record {
      few = subst (λ (held : List Keyed). length held ≤ most) (sym (sweeping_live swept (p ∷ rest))) r.few;
      spread = sweep_spread_at p.key swept rest p most slack spread;
      waiting = let k = r.waiting in omega arith;
    }

-- a packet comes

pub live_push : (swept unswept : List Place) (p : Place) (key : ℕ) → p.key ≡ Some key
    → live (swept ++ (unswept ++ p ∷ [])) ≡ live (swept ++ unswept) ++ (record { number = p.number; key = key }) ∷ []
live_push swept unswept p key e =
    ap (λ (ps : List Place). live ps) (sym (append_assoc swept unswept (p ∷ []))) ∙ live_append (swept ++ unswept) (p ∷ [])
    ∙ ap (λ (o : Option ℕ). live (swept ++ unswept) ++ with_key p.number o []) e

pub roomy_push : (swept unswept : List Place) (p : Place) (key most : ℕ) → IsRoomy swept unswept most 0 1 → p.key ≡ Some key
    → length (live (swept ++ unswept)) < most → IsRoomy swept (unswept ++ p ∷ []) most 4 2
roomy_push swept unswept p key most r e l =
    let h : Keyed = record { number = p.number; key = key } in
    let lives : live (unswept ++ p ∷ []) ≡ live unswept ++ h ∷ [] = live_push [] unswept p key e in
    let spread = r.spread in
    let waiting = r.waiting in
    let size = length_push unswept p in
    record {
      few = rw (live_push swept unswept p key e) (omega (arith, length_push (live (swept ++ unswept)) h));
      spread = rw lives (omega (arith, length_push (live unswept) h));
      waiting = omega arith;
    }

pub ascending_push_behind : (next : ℕ) (swept unswept : List Place) (p : Place) → IsAscending 1 (swept ++ unswept) next → p.number ≡ next
    → IsAscending 1 (swept ++ (unswept ++ p ∷ [])) (next + 1)
ascending_push_behind next swept unswept p a e =
    subst (λ (ps : List Place). IsAscending 1 ps (next + 1)) (append_assoc swept unswept (p ∷ [])) (ascending_push 1 next (swept ++ unswept) p a e)

-- a number that was looked for in both lists

at_number : (ps : List Place) (i n : ℕ) (p : Place) → i < length ps → get_or (numbers_of ps) i 0 ≡ n → p ≡ get_or ps i p → p.number ≡ n
at_number ps i n p l is e = ap (λ (v : Place). v.number) e ∙ sym (get_or-map (λ (v : Place). v.number) ps i p 0 l) ∙ is

in_front : (xs ys : List Place) (i : ℕ) (p : Place) → i < length xs → p ≡ get_or xs i p → p ≡ get_or (xs ++ ys) i p
in_front xs ys i p l e = e ∙ sym (get_or_append_left xs ys p i l)

behind : (xs ys : List Place) (i : ℕ) (p : Place) → p ≡ get_or ys i p → p ≡ get_or (xs ++ ys) (length xs + i) p
behind xs ys i p e = e ∙ sym (get_or-append-add xs ys i p)

misses_both : (xs ys : List Place) (n : ℕ) → Misses xs n → Misses ys n → Misses (xs ++ ys) n
misses_both [] ys n a b k l = b k l
misses_both (x ∷ rest) ys n a b zero l = a 0 (omega arith)
misses_both (x ∷ rest) ys n a b (suc k) l = misses_both rest ys n (λ j m. a (suc j) (omega arith)) b k (omega arith)

pub found_front : (next : ℕ) (xs ys : List Place) (i n : ℕ) (p : Place) → IsAscending 1 (xs ++ ys) next
    → (i < length xs) × (get_or (numbers_of xs) i 0 ≡ n) → p ≡ get_or xs i p → key_of (named n (live (xs ++ ys))) ≡ p.key
found_front next xs ys i n p a at e =
    ap (λ (m : ℕ). key_of (named m (live (xs ++ ys)))) (sym (at_number xs i n p at.0 at.1 e))
    ∙ named_at 1 next (xs ++ ys) i p a (let l = at.0 in omega (arith, length-append xs ys)) (in_front xs ys i p at.0 e)

pub found_behind : (next : ℕ) (xs ys : List Place) (i n : ℕ) (p : Place) → IsAscending 1 (xs ++ ys) next
    → (i < length ys) × (get_or (numbers_of ys) i 0 ≡ n) → p ≡ get_or ys i p → key_of (named n (live (xs ++ ys))) ≡ p.key
found_behind next xs ys i n p a at e =
    ap (λ (m : ℕ). key_of (named m (live (xs ++ ys)))) (sym (at_number ys i n p at.0 at.1 e))
    ∙ named_at 1 next (xs ++ ys) (length xs + i) p a (let l = at.0 in omega (arith, length-append xs ys)) (behind xs ys i p e)

pub found_none : (next : ℕ) (xs ys : List Place) (n : ℕ) → IsAscending 1 (xs ++ ys) next → Misses xs n → Misses ys n → named n (live (xs ++ ys)) ≡ None
found_none next xs ys n a b c = named_none 1 next (xs ++ ys) n a (misses_both xs ys n b c)

pub kept_none : (next : ℕ) (xs ys : List Place) (n : ℕ) → IsAscending 1 (xs ++ ys) next → Misses xs n → Misses ys n → others n (live (xs ++ ys)) ≡ live (xs ++ ys)
kept_none next xs ys n a b c = others_all 1 next (xs ++ ys) n a (misses_both xs ys n b c)

-- a place is emptied

pub taken_front : (next : ℕ) (xs ys : List Place) (i n : ℕ) (p q : Place) → IsAscending 1 (xs ++ ys) next
    → (i < length xs) × (get_or (numbers_of xs) i 0 ≡ n) → p ≡ get_or xs i p → q.key ≡ None → live (set xs i q ++ ys) ≡ others n (live (xs ++ ys))
taken_front next xs ys i n p q a at e h =
    ap (λ (ps : List Place). live ps) (sym (set-append_left xs ys i q at.0))
    ∙ others_at 1 next (xs ++ ys) i p q a (let l = at.0 in omega (arith, length-append xs ys)) (in_front xs ys i p at.0 e) h
    ∙ ap (λ (m : ℕ). others m (live (xs ++ ys))) (at_number xs i n p at.0 at.1 e)

set_behind : (xs ys : List Place) (i : ℕ) (q : Place) → set (xs ++ ys) (length xs + i) q ≡ xs ++ set ys i q
set_behind [] ys i q = ap (λ (k : ℕ). set ys k q) (let e : 0 + i ≡ i = omega arith in e)
set_behind (x ∷ rest) ys i q =
    ap (λ (k : ℕ). set (x ∷ (rest ++ ys)) k q) (let e : suc (length rest) + i ≡ suc (length rest + i) = omega arith in e)
    ∙ ap (λ (ps : List Place). x ∷ ps) (set_behind rest ys i q)

pub taken_behind : (next : ℕ) (xs ys : List Place) (i n : ℕ) (p q : Place) → IsAscending 1 (xs ++ ys) next
    → (i < length ys) × (get_or (numbers_of ys) i 0 ≡ n) → p ≡ get_or ys i p → q.key ≡ None → live (xs ++ set ys i q) ≡ others n (live (xs ++ ys))
taken_behind next xs ys i n p q a at e h =
    ap (λ (ps : List Place). live ps) (sym (set_behind xs ys i q))
    ∙ others_at 1 next (xs ++ ys) (length xs + i) p q a (let l = at.0 in omega (arith, length-append xs ys)) (behind xs ys i p e) h
    ∙ ap (λ (m : ℕ). others m (live (xs ++ ys))) (at_number ys i n p at.0 at.1 e)

pub kept_front : (xs ys : List Place) (i : ℕ) (p q : Place) (room behind most next : ℕ) → IsKept xs ys room behind most next → i < length xs
    → p ≡ get_or xs i p → q.number ≡ p.number → q.key ≡ None → IsKept (set xs i q) ys room behind most next
kept_front xs ys i p q room behind most next k l e n h =
    let same : set (xs ++ ys) i q ≡ set xs i q ++ ys = set-append_left xs ys i q l in
    let few = k.roomy.few in
    let spread = k.roomy.spread in
    let fewer : length (live (set xs i q ++ ys)) ≤ length (live (xs ++ ys)) =
    subst (λ (ps : List Place). length (live ps) ≤ length (live (xs ++ ys))) same (live_emptied (xs ++ ys) i q h) in
    record {
      ascending = subst (λ (ps : List Place). IsAscending 1 ps next) same
          (ascending_set 1 next (xs ++ ys) i p q k.ascending (omega (arith, length-append xs ys)) (in_front xs ys i p l e) n);
      roomy = record { few = omega arith; spread = omega (arith, length-set xs i q); waiting = k.roomy.waiting };
      room = k.room;
      room_behind = k.room_behind;
    }

pub kept_behind : (xs ys : List Place) (i : ℕ) (p q : Place) (room room' most next : ℕ) → IsKept xs ys room room' most next → i < length ys
    → p ≡ get_or ys i p → q.number ≡ p.number → q.key ≡ None → IsKept xs (set ys i q) room room' most next
kept_behind xs ys i p q room room' most next k l e n h =
    let same : set (xs ++ ys) (length xs + i) q ≡ xs ++ set ys i q = set_behind xs ys i q in
    let few = k.roomy.few in
    let spread = k.roomy.spread in
    let waiting = k.roomy.waiting in
    let fewer : length (live (xs ++ set ys i q)) ≤ length (live (xs ++ ys)) =
    subst (λ (ps : List Place). length (live ps) ≤ length (live (xs ++ ys))) same (live_emptied (xs ++ ys) (length xs + i) q h) in
    record {
      ascending = subst (λ (ps : List Place). IsAscending 1 ps next) same
          (ascending_set 1 next (xs ++ ys) (length xs + i) p q k.ascending (omega (arith, length-append xs ys)) (behind xs ys i p e) n);
      roomy = record {
        few = omega arith;
        spread = omega (arith, length-set ys i q, live_emptied ys i q h);
        waiting = omega (arith, length-set ys i q);
      };
      room = k.room;
      room_behind = k.room_behind;
    }

-- between two steps of sweeping

pub record IsSweeping (swept unswept : List Place) (room room' most next slack wait : ℕ) (held : List Keyed) : Type 0 where
  pub ascending : IsAscending 1 (swept ++ unswept) next
  pub roomy : IsRoomy swept unswept most slack wait
  pub shows : live (swept ++ unswept) ≡ held
  pub room_is : 3 * most + 4 ≤ 2 * room
  pub behind_is : 3 * most + 4 ≤ 2 * room'

pub pushed : (swept unswept unswept' : List Place) (room room' room'' most next : ℕ) (p : Place) (key : ℕ) → IsKept swept unswept room room' most next
    → unswept' ≡ unswept ++ p ∷ [] → p.key ≡ Some key → p.number ≡ next → length (live (swept ++ unswept)) < most → room'' ≡ room'
    → IsSweeping swept unswept' room room'' most (next + 1) 4 2 (live (swept ++ unswept) ++ (record { number = p.number; key = key }) ∷ [])
pushed swept unswept unswept' room room' room'' most next p key k is e n few same =
    let behind = k.room_behind in
    rw is (record {
      ascending = ascending_push_behind next swept unswept p k.ascending n;
      roomy = roomy_push swept unswept p key most k.roomy e few;
      shows = live_push swept unswept p key e;
      room_is = k.room;
      behind_is = omega arith;
    })

pub swept_once : (swept unswept swept' unswept' : List Place) (room room' new new' most next slack wait : ℕ) (held : List Keyed)
    → IsSweeping swept unswept room room' most next (slack + 1) wait held → slack ≤ 3 → wait ≤ 2
    → swept' ≡ (sweeping swept unswept).swept → unswept' ≡ (sweeping swept unswept).unswept
    → ((n : ℕ) → n ≤ room → n ≤ room' → n ≤ new) → ((n : ℕ) → n ≤ room → n ≤ room' → n ≤ new')
    → IsSweeping swept' unswept' new new' most next slack 1 held
swept_once swept unswept swept' unswept' room room' new new' most next slack wait held k s w e f a b =
    let r = k.room_is in
    let t = k.behind_is in
    let front : (3 * most + 5) / 2 ≤ room = omega arith in
    let behind : (3 * most + 5) / 2 ≤ room' = omega arith in
    rw (e, f) (record {
      ascending = sweeping_ascending 1 next swept unswept k.ascending;
      roomy = sweeping_roomy swept unswept most slack wait k.roomy s w;
      shows = sweeping_live swept unswept ∙ k.shows;
      room_is = let n = a ((3 * most + 5) / 2) front behind in omega arith;
      behind_is = let n = b ((3 * most + 5) / 2) front behind in omega arith;
    })

pub kept_after : (swept unswept : List Place) (room room' most next : ℕ) (held : List Keyed) → IsSweeping swept unswept room room' most next 0 1 held
    → IsKept swept unswept room room' most next
kept_after swept unswept room room' most next held k =
    record { ascending = k.ascending; roomy = k.roomy; room = k.room_is; room_behind = k.behind_is }

-- there is room for one more swept place
pub room_for : (swept unswept : List Place) (n room room' most next slack wait : ℕ) (held : List Keyed) → IsSweeping swept unswept room room' most next slack wait held
    → slack ≤ 4 → n ≡ length swept → n < room
room_for swept unswept n room room' most next slack wait held k s e =
    let spread = k.roomy.spread in let room_is = k.room_is in omega arith

pub pushed_view : (old : Numbered) (held held' : List Keyed) (next most key : ℕ) → (let v : Numbered = record { held = held; next = next; most = most } in v ≡ old)
    → held' ≡ held ++ (let h : Keyed = record { number = next; key = key } in h) ∷ []
    → (let v : Numbered = record { held = held'; next = next + 1; most = most } in v ≡ record {
      held = old.held ++ (let h : Keyed = record { number = old.next; key = key } in h) ∷ [];
      next = old.next + 1;
      most = old.most;
    })
pushed_view old held held' next most key v e =
    subst (λ (o : Numbered). (let w : Numbered = record { held = held'; next = next + 1; most = most } in w ≡ record {
      held = o.held ++ (let h : Keyed = record { number = o.next; key = key } in h) ∷ [];
      next = o.next + 1;
      most = o.most;
    })) v (ap (λ (l : List Keyed). let w : Numbered = record { held = l; next = next + 1; most = most } in w) e)

pub removed_view : (old : Numbered) (held held' : List Keyed) (next most n : ℕ) → (let v : Numbered = record { held = held; next = next; most = most } in v ≡ old)
    → held' ≡ others n held → (let v : Numbered = record { held = held'; next = next; most = most } in v ≡ record old { held = others n old.held })
removed_view old held held' next most n v e =
    subst (λ (o : Numbered). (let w : Numbered = record { held = held'; next = next; most = most } in w ≡ record o { held = others n o.held })) v
    (ap (λ (l : List Keyed). let w : Numbered = record { held = l; next = next; most = most } in w) e)
