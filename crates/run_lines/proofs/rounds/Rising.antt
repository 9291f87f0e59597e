-- Packets in flight rise by their numbers: all of one kind are listed by their numbers, or found one number after another.
use Rattle.std.specs.Prelude.{ℕ, zero, suc, ◌+◌, ◌==◌, ◌≡◌, ◌≢◌, ◌≤◌, ◌<◌, ◌⊎◌, ◌++◌, not, Bool, true, false, List, [], ◌∷◌, map, filter, Option, None, Some, if◌then◌else◌}
use Rattle.std.proofs.Common.{refl, sym, ap, subst, ◌∙◌, inl, inr, arith}
use Rattle.cmm_attempt.proofs.Basics.{false_true, if_either, none_some}
use Rattle.interconnect.specs.Links.{Links, NumbersRise, Packet, appending, crowding, dropping, oldest_on, packet_of, refusing, removing, resending, sending}
use Rattle.run_history.specs.Rounds.{numbers_below}

same_or : (a b : ℕ) → (a ≡ b) ⊎ (a ≢ b)
same_or a b = by_test (a == b) refl
  where
    is_same : (a == b) ≡ true → a ≡ b
    is_same e = grind arith

    is_not : (a == b) ≡ false → a ≢ b
    is_not e f = grind arith

    by_test : (t : Bool) → (a == b) ≡ t → (a ≡ b) ⊎ (a ≢ b)
    by_test true e = inl (is_same e)
    by_test false e = inr (is_not e)

is_other : (a b : ℕ) → a ≢ b → (a == b) ≡ false
is_other a b ne = grind arith

is_self : (a : ℕ) → (a == a) ≡ true
is_self a = grind arith

-- ---- they rise

rises_above : (low next : ℕ) (ps : List Packet) → NumbersRise low ps next → low ≤ next
rises_above low next [] h = h
rises_above low next (p ∷ ps) h = above low p.number next h.0 (rises_above (p.number + 1) next ps h.1)
  where
    above : (a b c : ℕ) → a ≤ b → b + 1 ≤ c → a ≤ c
    above a b c h k = omega (arith, h, k)

rises_from : (a b next : ℕ) (ps : List Packet) → a ≤ b → NumbersRise b ps next → NumbersRise a ps next
rises_from a b next [] le h = trans a b next le h
  where
    trans : (x y z : ℕ) → x ≤ y → y ≤ z → x ≤ z
    trans x y z h k = omega (arith, h, k)
rises_from a b next (p ∷ ps) le h = (trans a b p.number le h.0, h.1)
  where
    trans : (x y z : ℕ) → x ≤ y → y ≤ z → x ≤ z
    trans x y z h k = omega (arith, h, k)

rises_to : (low next : ℕ) (ps : List Packet) → NumbersRise low ps next → NumbersRise low ps (next + 1)
rises_to low next [] h = more low next h
  where
    more : (x y : ℕ) → x ≤ y → x ≤ y + 1
    more x y k = omega (arith, k)
rises_to low next (p ∷ ps) h = (h.0, rises_to (p.number + 1) next ps h.1)

rises_less : (keeps : Packet → Bool) (low next : ℕ) (ps : List Packet) → NumbersRise low ps next → NumbersRise low (filter keeps ps) next
rises_less keeps low next [] h = h
rises_less keeps low next (p ∷ ps) h =
    if_either (λ qs. NumbersRise low qs next) (keeps p) (p ∷ filter keeps ps) (filter keeps ps) (h.0, rises_less keeps (p.number + 1) next ps h.1)
    (rises_from low (p.number + 1) next (filter keeps ps) (more low p.number h.0) (rises_less keeps (p.number + 1) next ps h.1))
  where
    more : (x y : ℕ) → x ≤ y → x ≤ y + 1
    more x y k = omega (arith, k)

rises_more : (low next : ℕ) (ps : List Packet) (q : Packet) → q.number ≡ next → NumbersRise low ps next → NumbersRise low (ps ++ q ∷ []) (next + 1)
rises_more low next [] q is h = (subst (λ k. low ≤ k) (sym is) h, last q.number next is)
  where
    last : (x y : ℕ) → x ≡ y → x + 1 ≤ y + 1
    last x y k = omega (arith, k)
rises_more low next (p ∷ ps) q is h = (h.0, rises_more (p.number + 1) next ps q is h.1)

abbrev pub Rises : Links → Type 0
Rises l = NumbersRise 0 l.packets l.next

pub rises_removing : (l : Links) (k : ℕ) → Rises l → Rises (removing l k)
rises_removing l k h = rises_less (λ (p : Packet). not (p.number == k)) 0 l.next l.packets h

rises_dropping : (l : Links) (k : ℕ) (o : Option ℕ) → Rises l → Rises (dropping l k o).after
rises_dropping l k None h = h
rises_dropping l k (Some oldest) h = rises_removing l oldest h

rises_crowding : (l : Links) (k a b : ℕ) → Rises l → Rises (crowding l k a b).after
rises_crowding l k a b h = if_either (λ o. Rises o.after) _ (dropping l k (oldest_on l.packets a b)) _ (rises_dropping l k (oldest_on l.packets a b) h) h

pub rises_sending : (l : Links) (a b : ℕ) (bytes : List ℕ) → Rises l → Rises (sending l a b bytes).after
rises_sending l a b bytes h =
    if_either (λ o. Rises o.after) _ (refusing l) (crowding (appending l a b bytes) l.next a b) (rises_to 0 l.next l.packets h)
    (rises_crowding (appending l a b bytes) l.next a b (rises_more 0 l.next l.packets (record { number = l.next; from = a; to = b; bytes = bytes }) refl h))

pub rises_resending : (l : Links) (o : Option Packet) → Rises l → Rises (resending l o)
rises_resending l None h = h
rises_resending l (Some p) h = rises_sending l p.from p.to p.bytes h

-- ---- what is in flight was so before, but for packets of new numbers

-- the links after have no other packet of a number that was given before
pub record Later (before after : Links) : Type 0 where
  pub next : before.next ≤ after.next
  pub old : (k : ℕ) (x : Packet) → k < before.next → packet_of after.packets k ≡ Some x → packet_of before.packets k ≡ Some x

pub later_same : (l : Links) → Later l l
later_same l = record { next = omega arith; old = λ k x less at. at }

pub later_then : (a b c : Links) → Later a b → Later b c → Later a c
later_then a b c h k = record {
  next = trans a.next b.next c.next h.next k.next;
  old = λ n x less at. h.old n x less (k.old n x (before n a.next b.next less h.next) at);
}
  where
    trans : (x y z : ℕ) → x ≤ y → y ≤ z → x ≤ z
    trans x y z h k = omega (arith, h, k)

    before : (x y z : ℕ) → x < y → y ≤ z → x < z
    before x y z h k = omega (arith, h, k)

-- all but those of this number
abbrev without : List Packet → ℕ → List Packet
without ps j = filter (λ (p : Packet). not (p.number == j)) ps

-- none of that number is left
none_lost : (ps : List Packet) (j k : ℕ) (x : Packet) → j ≡ k → packet_of (without ps j) k ≡ Some x → ⊥
none_lost [] j k x e at = none_some x at
none_lost (p ∷ ps) j k x e at = by_test (p.number == j) refl at (λ g. none_lost ps j k x e g)
  where
    by_key : (b : Bool) → b ≡ false → (if b then Some p else packet_of (without ps j) k) ≡ Some x → (packet_of (without ps j) k ≡ Some x → ⊥) → ⊥
    by_key true isnt g rest = absurd (false_true (sym isnt))
    by_key false isnt g rest = rest g

    by_test : (b : Bool) → (p.number == j) ≡ b → packet_of (if not b then p ∷ without ps j else without ps j) k ≡ Some x → (packet_of (without ps j) k ≡ Some x → ⊥) → ⊥
    by_test true is g rest = rest g
    by_test false is g rest = by_key (p.number == k) (subst (λ z. (p.number == z) ≡ false) e is) g rest

same_number : (a b : ℕ) → (a == b) ≡ true → a ≡ b
same_number a b t = grind arith

-- what is found among others was there
found_less : (ps : List Packet) (j k : ℕ) (x : Packet) → packet_of (without ps j) k ≡ Some x → packet_of ps k ≡ Some x
found_less [] j k x at = at
found_less (p ∷ ps) j k x at = by_test (p.number == j) refl at (λ g. found_less ps j k x g)
  where
    kept : (b : Bool) → (if b then Some p else packet_of (without ps j) k) ≡ Some x → (packet_of (without ps j) k ≡ Some x → packet_of ps k ≡ Some x) → (if b then Some p else packet_of ps k) ≡ Some x
    kept true g rest = g
    kept false g rest = rest g

    lost : (b : Bool) → (b ≡ true → ⊥) → packet_of ps k ≡ Some x → (if b then Some p else packet_of ps k) ≡ Some x
    lost true isnt g = absurd (isnt refl)
    lost false isnt g = g

    by_test : (b : Bool) → (p.number == j) ≡ b → packet_of (if not b then p ∷ without ps j else without ps j) k ≡ Some x
        → (packet_of (without ps j) k ≡ Some x → packet_of ps k ≡ Some x) → packet_of (p ∷ ps) k ≡ Some x
    by_test true is g rest = lost (p.number == k) (λ t. none_lost ps j k x (sym (same_number p.number j is) ∙ same_number p.number k t) g) (rest g)
    by_test false is g rest = kept (p.number == k) g rest

pub later_removing : (l : Links) (k : ℕ) → Later l (removing l k)
later_removing l k = record { next = omega arith; old = λ n x less at. found_less l.packets k n x at }

found_more : (ps : List Packet) (q x : Packet) (k : ℕ) → q.number ≢ k → packet_of (ps ++ q ∷ []) k ≡ Some x → packet_of ps k ≡ Some x
found_more [] q x k ne at = subst (λ b. (if b then Some q else None) ≡ Some x) (is_other q.number k ne) at
found_more (p ∷ ps) q x k ne at = by_key (p.number == k) at (λ g. found_more ps q x k ne g)
  where
    by_key : (b : Bool) → (if b then Some p else packet_of (ps ++ q ∷ []) k) ≡ Some x → (packet_of (ps ++ q ∷ []) k ≡ Some x → packet_of ps k ≡ Some x)
        → (if b then Some p else packet_of ps k) ≡ Some x
    by_key true g rest = g
    by_key false g rest = rest g

later_appending : (l : Links) (a b : ℕ) (bytes : List ℕ) → Later l (appending l a b bytes)
later_appending l a b bytes = record {
  next = more l.next;
  old = λ n x less at. found_more l.packets (record { number = l.next; from = a; to = b; bytes = bytes }) x n (apart n l.next less) at;
}
  where
    more : (j : ℕ) → j ≤ j + 1
    more j = omega arith

    apart : (i j : ℕ) → i < j → j ≢ i
    apart i j h e = omega (arith, h, e)

later_dropping : (l : Links) (k : ℕ) (o : Option ℕ) → Later l (dropping l k o).after
later_dropping l k None = later_same l
later_dropping l k (Some oldest) = later_removing l oldest

later_crowding : (l : Links) (k a b : ℕ) → Later l (crowding l k a b).after
later_crowding l k a b = if_either (λ o. Later l o.after) _ (dropping l k (oldest_on l.packets a b)) _ (later_dropping l k (oldest_on l.packets a b)) (later_same l)

pub later_sending : (l : Links) (a b : ℕ) (bytes : List ℕ) → Later l (sending l a b bytes).after
later_sending l a b bytes =
    let m : Links = appending l a b bytes in
    if_either (λ o. Later l o.after) _ (refusing l) (crowding m l.next a b) (record { next = more l.next; old = λ n x less at. at })
    (later_then l m (crowding m l.next a b).after (later_appending l a b bytes) (later_crowding m l.next a b))
  where
    more : (j : ℕ) → j ≤ j + 1
    more j = omega arith

pub later_resending : (l : Links) (o : Option Packet) → Later l (resending l o)
later_resending l None = later_same l
later_resending l (Some p) = later_sending l p.from p.to p.bytes

-- ---- the packets of one kind, by their numbers

-- so many numbers from this one on
abbrev counted : ℕ → ℕ → List ℕ
counted low zero = []
counted low (suc k) = low ∷ counted (low + 1) k

one_on : (low k : ℕ) → counted low k ++ (low + k) ∷ [] ≡ counted low (suc k)
one_on low zero = ap (λ j. j ∷ []) (no_more low)
  where
    no_more : (j : ℕ) → j + 0 ≡ j
    no_more j = omega arith
one_on low (suc k) = ap (λ ks. low ∷ ks) (ap (λ j. counted (low + 1) k ++ j ∷ []) (moved low k) ∙ one_on (low + 1) k)
  where
    moved : (i j : ℕ) → i + suc j ≡ (i + 1) + j
    moved i j = omega arith

below_from : (k : ℕ) → numbers_below k ≡ counted 0 k
below_from zero = refl
below_from (suc k) = ap (λ ks. ks ++ k ∷ []) (below_from k) ∙ (ap (λ j. counted 0 k ++ j ∷ []) (start k) ∙ one_on 0 k)
  where
    start : (j : ℕ) → j ≡ 0 + j
    start j = omega arith

-- the kind of the packet of a number, if one is in flight
abbrev pub kind_of : (Packet → Bool) → Option Packet → Bool
kind_of kind None = false
kind_of kind (Some p) = kind p

filter_same : (f g : ℕ → Bool) (low k : ℕ) → ((j : ℕ) → low ≤ j → f j ≡ g j) → filter f (counted low k) ≡ filter g (counted low k)
filter_same f g low zero same = refl
filter_same f g low (suc k) same =
    ap (λ b. if b then low ∷ filter f (counted (low + 1) k) else filter f (counted (low + 1) k)) (same low (omega arith))
    ∙ ap (λ ks. if g low then low ∷ ks else ks) (filter_same f g (low + 1) k (λ j le. same j (less low j le)))
  where
    less : (i j : ℕ) → i + 1 ≤ j → i ≤ j
    less i j h = omega (arith, h)

none_kept : (low k : ℕ) → filter (λ (j : ℕ). false) (counted low k) ≡ []
none_kept low zero = refl
none_kept low (suc k) = none_kept (low + 1) k

-- none has a number below those that rise
none_below : (ps : List Packet) (low next k : ℕ) → NumbersRise low ps next → k < low → packet_of ps k ≡ None
none_below [] low next k h less = refl
none_below (p ∷ ps) low next k h less =
    ap (λ b. if b then Some p else packet_of ps k) (is_other p.number k (apart k low p.number less h.0)) ∙ none_below ps (p.number + 1) next k h.1 (more k low p.number less h.0)
  where
    apart : (a b c : ℕ) → a < b → b ≤ c → c ≢ a
    apart a b c h k e = omega (arith, h, k, e)

    more : (a b c : ℕ) → a < b → b ≤ c → a < c + 1
    more a b c h k = omega (arith, h, k)

abbrev pub numbers_of : List Packet → List ℕ
numbers_of ps = map (λ (p : Packet). p.number) ps

split_numbers : (b : Bool) (p : Packet) (ps : List Packet) → numbers_of (if b then p ∷ ps else ps) ≡ (if b then p.number ∷ numbers_of ps else numbers_of ps)
split_numbers true p ps = refl
split_numbers false p ps = refl

same_end : (i j : ℕ) → i + suc j ≡ (i + 1) + j
same_end i j = omega arith

listed_from : (kind : Packet → Bool) (k low : ℕ) (ps : List Packet) → NumbersRise low ps (low + k)
    → numbers_of (filter kind ps) ≡ filter (λ j. kind_of kind (packet_of ps j)) (counted low k)
listed_from kind k low [] h = sym (none_kept low k)
listed_from kind zero low (p ∷ ps) h = absurd (none_left low p.number h.0 (rises_above (p.number + 1) (low + 0) ps h.1))
  where
    none_left : (a b : ℕ) → a ≤ b → b + 1 ≤ a + 0 → ⊥
    none_left a b h k = omega (arith, h, k)
listed_from kind (suc k) low (p ∷ ps) h =
    by_number (same_or p.number low) (λ g. listed_from kind k (low + 1) ps g) (λ g. listed_from kind k (low + 1) (p ∷ ps) g)
  where
    behind : (a b j : ℕ) → a ≡ b → b + 1 ≤ j → a ≢ j
    behind a b j e h f = omega (arith, e, h, f)

    other_numbers : p.number ≡ low → (j : ℕ) → low + 1 ≤ j → kind_of kind (packet_of (p ∷ ps) j) ≡ kind_of kind (packet_of ps j)
    other_numbers e j le = ap (λ b. kind_of kind (if b then Some p else packet_of ps j)) (is_other p.number j (behind p.number low j e le))

    above : (a b : ℕ) → a ≤ b → b ≢ a → a + 1 ≤ b
    above a b h ne = grind (arith, h, ne)

    last : (j : ℕ) → j < j + 1
    last j = omega arith

    by_number : (p.number ≡ low) ⊎ (p.number ≢ low)
        → (NumbersRise (low + 1) ps ((low + 1) + k) → numbers_of (filter kind ps) ≡ filter (λ j. kind_of kind (packet_of ps j)) (counted (low + 1) k))
        → (NumbersRise (low + 1) (p ∷ ps) ((low + 1) + k) → numbers_of (filter kind (p ∷ ps)) ≡ filter (λ j. kind_of kind (packet_of (p ∷ ps) j)) (counted (low + 1) k))
        → numbers_of (filter kind (p ∷ ps)) ≡ filter (λ j. kind_of kind (packet_of (p ∷ ps) j)) (counted low (suc k))
    by_number (inl e) less same =
        let others : List ℕ = filter (λ j. kind_of kind (packet_of (p ∷ ps) j)) (counted (low + 1) k) in
        let rest : numbers_of (filter kind ps) ≡ others =
        less (subst (λ j. NumbersRise (j + 1) ps ((low + 1) + k)) e (subst (λ j. NumbersRise (p.number + 1) ps j) (same_end low k) h.1))
        ∙ sym (filter_same (λ j. kind_of kind (packet_of (p ∷ ps) j)) (λ j. kind_of kind (packet_of ps j)) (low + 1) k (other_numbers e)) in
        split_numbers (kind p) p (filter kind ps)
        ∙ (ap (λ ks. if kind p then p.number ∷ ks else ks) rest
        ∙ (ap (λ j. if kind p then j ∷ others else others) e
        ∙ ap (λ b. if kind_of kind (if b then Some p else packet_of ps low) then low ∷ others else others) (sym (subst (λ j. (p.number == j) ≡ true) e (is_self p.number)))))
    by_number (inr ne) less same =
        same (above low p.number h.0 ne, subst (λ j. NumbersRise (p.number + 1) ps j) (same_end low k) h.1)
        ∙ ap (λ o. if kind_of kind o then low ∷ filter (λ j. kind_of kind (packet_of (p ∷ ps) j)) (counted (low + 1) k) else filter (λ j. kind_of kind (packet_of (p ∷ ps) j)) (counted (low + 1) k))
        (sym (none_below (p ∷ ps) (low + 1) (low + suc k) low (above low p.number h.0 ne, h.1) (last low)))

-- the numbers of all packets of a kind are those below the next whose packet is of it
pub numbers_kept : (kind : Packet → Bool) (l : Links) → Rises l → numbers_of (filter kind l.packets) ≡ filter (λ j. kind_of kind (packet_of l.packets j)) (numbers_below l.next)
numbers_kept kind l h =
    listed_from kind l.next 0 l.packets (subst (λ j. NumbersRise 0 l.packets j) (start l.next) h) ∙ ap (λ ks. filter (λ j. kind_of kind (packet_of l.packets j)) ks) (sym (below_from l.next))
  where
    start : (j : ℕ) → j ≡ 0 + j
    start j = omega arith
