-- The packets in flight, as they stand in the slab: what is under the keys when one comes or leaves.
use Rattle.std.proofs.Common.{◌≡◌, ◌≢◌, ℕ, suc, zero, ◌+◌, ◌<◌, ◌≤◌, ◌^◌, ◌++◌, ◌==◌, not, cond, true, false, Bool, List, [], ◌∷◌, Option, Some, None, IsSome, length, filter, get_or, remove, refl, sym, ap, ◌∙◌, subst, arith}
use Rattle.std.specs.List.{find, count_by}
use Rattle.std.specs.Prelude.{is_some}
use Rattle.std.specs.Option.{option_map}
use Rattle.std.proofs.lemmas.List.{map_push, length-map, length_push}
use Rattle.slab.specs.Slab.{Slab, get, slab_len, ContainsKey, Updates}
use Rattle.interconnect.specs.declared.flight.Held.{Held}
use Rattle.interconnect.specs.Places.{Keyed, Numbered}
use Rattle.interconnect.specs.Stored.{Stored, stored, all_stored, Agrees}
use Rattle.interconnect.specs.Flights.{IsRising, IsHolding}
use Rattle.interconnect.proofs.Places.{test_same, test_other}
use Rattle.interconnect.proofs.Lists.{filter_mapped, find_mapped}
use Rattle.interconnect.proofs.Shown.{named, others, low_at, HasPlace, others_remove}
use Rattle.interconnect.proofs.Indexes.{keyless}

-- a packet that the slab holds under a key, with that key
abbrev pub with_its_key : ℕ → Held → Stored
with_its_key key h = record { number = h.number; key = key; from = h.from; to = h.to; chain = h.chain }

no_key : (key : ℕ) → (let o : Option ℕ = Some key in o ≡ None) → ⊥
no_key key e = cc

some_key : (a b : ℕ) → (let o : Option ℕ = Some a in o ≡ Some b) → a ≡ b
some_key a b e = cc

some_held : (a b : Held) → (let o : Option Held = Some a in o ≡ Some b) → a ≡ b
some_held a b e = cc

-- what a key that is in use finds

held_of : (packets : Slab Held) (k : Keyed) (h : Held) → option_map (λ h. h.number) (get packets k.key) ≡ Some k.number → get packets k.key ≡ Some h
    → stored packets k ≡ with_its_key k.key h
held_of packets k h e g =
    let n : h.number ≡ k.number = some_key h.number k.number (ap (λ (o : Option Held). option_map (λ h. h.number) o) (sym g) ∙ e) in
    rw (g, n) refl

found_at : (p : Stored → Bool) (packets : Slab Held) (b : Bool) (k : Keyed) (rest : List Keyed) (key : ℕ) (h : Held)
    → option_map (λ h. h.number) (get packets k.key) ≡ Some k.number → get packets key ≡ Some h
    → (Some key ≡ option_map (λ s. s.key) (find p (all_stored packets rest)) → find p (all_stored packets rest) ≡ Some (with_its_key key h))
    → Some key ≡ option_map (λ s. s.key) (cond b (Some (stored packets k)) (find p (all_stored packets rest)))
    → cond b (Some (stored packets k)) (find p (all_stored packets rest)) ≡ Some (with_its_key key h)
found_at p packets true k rest key h a g later e =
    let same : key ≡ k.key = some_key key k.key e in
    ap Some (held_of packets k h a (ap (λ (n : ℕ). get packets n) (sym same) ∙ g) ∙ ap (λ (n : ℕ). with_its_key n h) (sym same))
found_at p packets false k rest key h a g later e = later e

pub found_under : (p : Stored → Bool) (packets : Slab Held) (held : List Keyed) (key : ℕ) (h : Held) → Agrees packets held → get packets key ≡ Some h
    → Some key ≡ option_map (λ s. s.key) (find p (all_stored packets held)) → find p (all_stored packets held) ≡ Some (with_its_key key h)
found_under p packets [] key h a g e = absurd (no_key key e)
found_under p packets (k ∷ rest) key h a g e =
    found_at p packets (p (stored packets k)) k rest key h a.0 g (found_under p packets rest key h a.1 g) e

some_number : (o : Option Held) (n : ℕ) → option_map (λ h. h.number) o ≡ Some n → IsSome o
some_number None n e = absurd (no_key n (sym e))
some_number (Some h) n e = refl

in_use_at : (p : Stored → Bool) (packets : Slab Held) (b : Bool) (k : Keyed) (rest : List Keyed) (key : ℕ)
    → option_map (λ h. h.number) (get packets k.key) ≡ Some k.number
    → (Some key ≡ option_map (λ s. s.key) (find p (all_stored packets rest)) → ContainsKey packets key)
    → Some key ≡ option_map (λ s. s.key) (cond b (Some (stored packets k)) (find p (all_stored packets rest))) → ContainsKey packets key
in_use_at p packets true k rest key a later e =
    subst (λ (n : ℕ). IsSome (get packets n)) (sym (some_key key k.key e)) (some_number (get packets k.key) k.number a)
in_use_at p packets false k rest key a later e = later e

pub in_use : (p : Stored → Bool) (packets : Slab Held) (held : List Keyed) (key : ℕ) → Agrees packets held
    → Some key ≡ option_map (λ s. s.key) (find p (all_stored packets held)) → ContainsKey packets key
in_use p packets [] key a e = absurd (no_key key e)
in_use p packets (k ∷ rest) key a e = in_use_at p packets (p (stored packets k)) k rest key a.0 (in_use p packets rest key a.1) e

key_stored : (packets : Slab Held) (o : Option Keyed) → option_map (λ s. s.key) (option_map (stored packets) o) ≡ option_map (λ h. h.key) o
key_stored packets None = refl
key_stored packets (Some h) = refl

-- a number is looked for among the packets as among their keys
pub key_named : (packets : Slab Held) (held : List Keyed) (n : ℕ)
    → option_map (λ h. h.key) (find (λ h. h.number == n) held) ≡ option_map (λ s. s.key) (named n (all_stored packets held))
key_named packets held n =
    sym (ap (λ (o : Option Stored). option_map (λ s. s.key) o) (find_mapped (stored packets) (λ (s : Stored). s.number == n) held)
    ∙ key_stored packets (find (λ h. h.number == n) held))

some_stored : (s : Stored) → (let o : Option ℕ = None in o ≡ option_map (λ s. s.key) (Some s)) → ⊥
some_stored s e = cc

pub not_found : (o : Option Stored) → None ≡ option_map (λ s. s.key) o → o ≡ None
not_found None e = refl
not_found (Some s) e = absurd (some_stored s e)

pub others_stored : (packets : Slab Held) (held : List Keyed) (n : ℕ) → others n (all_stored packets held) ≡ all_stored packets (filter (λ h. not (h.number == n)) held)
others_stored packets held n = filter_mapped (stored packets) (λ (s : Stored). not (s.number == n)) held

-- another key changes

same_at : (packets new : Slab Held) (k : Keyed) → get new k.key ≡ get packets k.key → stored new k ≡ stored packets k
same_at packets new k e = rw e refl

abbrev pub Lacks : ℕ → List Keyed → Type 0
Lacks key [] = Unit {0}
Lacks key (k ∷ rest) = (k.key ≢ key) × Lacks key rest

pub stored_frame : (packets new : Slab Held) (key : ℕ) (slot : Option Held) (held : List Keyed) → Updates packets new key slot → Lacks key held
    → all_stored new held ≡ all_stored packets held
stored_frame packets new key slot [] u l = refl
stored_frame packets new key slot (k ∷ rest) u l =
    ap (λ (s : Stored). s ∷ all_stored new rest) (same_at packets new k (u.others k.key l.0))
    ∙ ap (λ (ss : List Stored). stored packets k ∷ ss) (stored_frame packets new key slot rest u l.1)

pub agrees_frame : (packets new : Slab Held) (key : ℕ) (slot : Option Held) (held : List Keyed) → Updates packets new key slot → Lacks key held
    → Agrees packets held → Agrees new held
agrees_frame packets new key slot [] u l a = tt
agrees_frame packets new key slot (k ∷ rest) u l a =
    (ap (λ (o : Option Held). option_map (λ h. h.number) o) (u.others k.key l.0) ∙ a.0, agrees_frame packets new key slot rest u l.1 a.1)

-- a packet comes

vacant_lacks : (packets : Slab Held) (key : ℕ) (held : List Keyed) → get packets key ≡ None → Agrees packets held → Lacks key held
vacant_lacks packets key [] g a = tt
vacant_lacks packets key (k ∷ rest) g a = (
  λ (s : k.key ≡ key). no_key k.number (sym a.0 ∙ ap (λ (o : Option Held). option_map (λ h. h.number) o) (ap (λ (n : ℕ). get packets n) s ∙ g)),
  vacant_lacks packets key rest g a.1,
)

agrees_push : (packets : Slab Held) (held : List Keyed) (k : Keyed) → Agrees packets held → option_map (λ h. h.number) (get packets k.key) ≡ Some k.number
    → Agrees packets (held ++ k ∷ [])
agrees_push packets [] k a e = (e, tt)
agrees_push packets (x ∷ rest) k a e = (a.0, agrees_push packets rest k a.1 e)

pub stored_push : (packets new : Slab Held) (held : List Keyed) (key : ℕ) (h : Held) → Agrees packets held → get packets key ≡ None
    → Updates packets new key (Some h)
    → all_stored new (held ++ (record { number = h.number; key = key }) ∷ []) ≡ all_stored packets held ++ with_its_key key h ∷ []
stored_push packets new held key h a g u =
    let k : Keyed = record { number = h.number; key = key } in
    let got : stored new k ≡ with_its_key key h = rw u.changed refl in
    map_push (stored new) held k ∙ rw (got, stored_frame packets new key (Some h) held u (vacant_lacks packets key held g a)) refl

pub holding_push : (packets new : Slab Held) (numbers : Numbered) (key next : ℕ) (h : Held) → IsHolding packets numbers → get packets key ≡ None
    → Updates packets new key (Some h) → slab_len new ≡ slab_len packets + 1 → new.capacity ≡ packets.capacity
    → IsHolding new (record { held = numbers.held ++ (record { number = h.number; key = key }) ∷ []; next = next; most = numbers.most })
holding_push packets new numbers key next h k g u more room =
    let new_one : Keyed = record { number = h.number; key = key } in
    let all = k.all in let enough = k.enough in let short = k.short in
    record {
      agrees = agrees_push new numbers.held new_one
          (agrees_frame packets new key (Some h) numbers.held u (vacant_lacks packets key numbers.held g k.agrees) k.agrees) (rw u.changed refl);
      all = omega (arith, length_push numbers.held new_one);
      enough = rw room enough;
      short = rw room short;
    }

-- a packet leaves

-- the numbers are all above that of the key's packet, or all below it
others_lack : (packets : Slab Held) (key : ℕ) (h : Held) (k : Keyed) → get packets key ≡ Some h
    → option_map (λ h. h.number) (get packets k.key) ≡ Some k.number → k.number ≢ h.number → k.key ≢ key
others_lack packets key h k g a other same =
    other (some_key k.number h.number (sym a ∙ ap (λ (o : Option Held). option_map (λ h. h.number) o) (ap (λ (n : ℕ). get packets n) same ∙ g)))

kept_above : (low next : ℕ) (packets : Slab Held) (held : List Keyed) (key : ℕ) (h : Held) → IsRising low (all_stored packets held) next → Agrees packets held
    → get packets key ≡ Some h → h.number < low → keyless key (all_stored packets held) ≡ all_stored packets held
kept_above low next packets [] key h r a g b = refl
kept_above low next packets (k ∷ rest) key h r a g b =
    let m = r.0 in
    let t : (k.key == key) ≡ false = test_other k.key key (others_lack packets key h k g a.0 (λ (s : k.number ≡ h.number). omega arith)) in
    rw t (ap (λ (l : List Stored). stored packets k ∷ l) (kept_above (k.number + 1) next packets rest key h r.1 a.1 g (omega arith)))

keyless_remove : (low next : ℕ) (packets : Slab Held) (held : List Keyed) (i : ℕ) (key : ℕ) (h : Held) → IsRising low (all_stored packets held) next
    → Agrees packets held → get packets key ≡ Some h → i < length (all_stored packets held)
    → with_its_key key h ≡ get_or (all_stored packets held) i (with_its_key key h) → keyless key (all_stored packets held) ≡ remove (all_stored packets held) i
keyless_remove low next packets [] i key h r a g l e = absurd (omega arith)
keyless_remove low next packets (k ∷ rest) zero key h r a g l e =
    let same : key ≡ k.key = ap (λ (s : Stored). s.key) e in
    let n : h.number ≡ k.number = ap (λ (s : Stored). s.number) e in
    let t : (k.key == key) ≡ true = test_same k.key key (sym same) in
    rw t (kept_above (k.number + 1) next packets rest key h r.1 a.1 g (omega arith))
keyless_remove low next packets (k ∷ rest) (suc i) key h r a g l e =
    let above = low_at (k.number + 1) next (all_stored packets rest) i (with_its_key key h) r.1 (omega arith) e in
    let t : (k.key == key) ≡ false = test_other k.key key (others_lack packets key h k g a.0 (λ (s : k.number ≡ h.number). omega arith)) in
    rw t (ap (λ (q : List Stored). stored packets k ∷ q) (keyless_remove (k.number + 1) next packets rest i key h r.1 a.1 g (omega arith) e))

-- without the packet of a key is without that of its number
pub keyless_is : (packets : Slab Held) (held : List Keyed) (key n next : ℕ) (h : Held) → IsRising 1 (all_stored packets held) next → Agrees packets held
    → get packets key ≡ Some h → HasPlace (all_stored packets held) n (with_its_key key h) → keyless key (all_stored packets held) ≡ others n (all_stored packets held)
keyless_is packets held key n next h r a g p =
    keyless_remove 1 next packets held p.place key h r a g p.low p.is
    ∙ sym (others_remove 1 next (all_stored packets held) p.place (with_its_key key h) r p.low p.is)
    ∙ ap (λ (m : ℕ). others m (all_stored packets held)) p.at

-- the keys of other numbers
lacks_over : (b : Bool) (key : ℕ) (k : Keyed) (rest : List Keyed) → (not b ≡ true → k.key ≢ key) → Lacks key rest → Lacks key (cond (not b) (k ∷ rest) rest)
lacks_over true key k rest other l = l
lacks_over false key k rest other l = (other refl, l)

other_number : (a b : ℕ) → not (a == b) ≡ true → a ≢ b
other_number a b t e = absurd (cc (test_same a b e, t))

others_lacks : (packets : Slab Held) (held : List Keyed) (key : ℕ) (h : Held) → Agrees packets held → get packets key ≡ Some h
    → Lacks key (filter (λ k. not (k.number == h.number)) held)
others_lacks packets [] key h a g = tt
others_lacks packets (k ∷ rest) key h a g =
    lacks_over (k.number == h.number) key k (filter (λ k. not (k.number == h.number)) rest)
    (λ t. others_lack packets key h k g a.0 (other_number k.number h.number t)) (others_lacks packets rest key h a.1 g)

agrees_over : (b : Bool) (packets : Slab Held) (k : Keyed) (rest : List Keyed) → option_map (λ h. h.number) (get packets k.key) ≡ Some k.number
    → Agrees packets rest → Agrees packets (cond b (k ∷ rest) rest)
agrees_over true packets k rest e a = (e, a)
agrees_over false packets k rest e a = a

agrees_filter : (p : Keyed → Bool) (packets : Slab Held) (held : List Keyed) → Agrees packets held → Agrees packets (filter p held)
agrees_filter p packets [] a = tt
agrees_filter p packets (k ∷ rest) a = agrees_over (p k) packets k (filter p rest) a.0 (agrees_filter p packets rest a.1)

length-remove_one : {X : Type 0} (xs : List X) (i : ℕ) → i < length xs → length (remove xs i) + 1 ≡ length xs
length-remove_one [] i l = absurd (omega arith)
length-remove_one (x ∷ rest) zero l = omega arith
length-remove_one (x ∷ rest) (suc i) l = let k = length-remove_one rest i (omega arith) in omega arith

one_less : (packets : Slab Held) (held : List Keyed) (n next : ℕ) (s : Stored) → IsRising 1 (all_stored packets held) next → HasPlace (all_stored packets held) n s
    → length (filter (λ k. not (k.number == n)) held) + 1 ≡ length held
one_less packets held n next s r p =
    let same : all_stored packets (filter (λ k. not (k.number == n)) held) ≡ remove (all_stored packets held) p.place =
    sym (others_stored packets held n) ∙ ap (λ (m : ℕ). others m (all_stored packets held)) (sym p.at)
    ∙ others_remove 1 next (all_stored packets held) p.place s r p.low p.is in
    let size : length (filter (λ k. not (k.number == n)) held) ≡ length (remove (all_stored packets held) p.place) =
    sym (length-map (filter (λ k. not (k.number == n)) held) (stored packets)) ∙ ap (λ (l : List Stored). length l) same in
    omega (arith, length-remove_one (all_stored packets held) p.place p.low, length-map held (stored packets))

pub stored_without : (packets new : Slab Held) (held : List Keyed) (key n : ℕ) (h : Held) → Agrees packets held → get packets key ≡ Some h → h.number ≡ n
    → Updates packets new key None → all_stored new (filter (λ k. not (k.number == n)) held) ≡ others n (all_stored packets held)
stored_without packets new held key n h a g e u =
    let lacks : Lacks key (filter (λ k. not (k.number == n)) held) =
    subst (λ (m : ℕ). Lacks key (filter (λ k. not (k.number == m)) held)) e (others_lacks packets held key h a g) in
    stored_frame packets new key None (filter (λ k. not (k.number == n)) held) u lacks ∙ sym (others_stored packets held n)

pub holding_without : (packets new : Slab Held) (numbers : Numbered) (key n : ℕ) (h : Held) → IsHolding packets numbers → get packets key ≡ Some h
    → IsRising 1 (all_stored packets numbers.held) numbers.next → HasPlace (all_stored packets numbers.held) n (with_its_key key h)
    → Updates packets new key None → slab_len new + 1 ≡ slab_len packets → new.capacity ≡ packets.capacity
    → IsHolding new (record numbers { held = filter (λ k. not (k.number == n)) numbers.held })
holding_without packets new numbers key n h k g r p u less room =
    let all = k.all in let enough = k.enough in let short = k.short in
    let lacks : Lacks key (filter (λ k. not (k.number == n)) numbers.held) =
    subst (λ (m : ℕ). Lacks key (filter (λ k. not (k.number == m)) numbers.held)) p.at (others_lacks packets numbers.held key h k.agrees g) in
    record {
      agrees = agrees_frame packets new key None (filter (λ k. not (k.number == n)) numbers.held) u lacks
          (agrees_filter (λ k. not (k.number == n)) packets numbers.held k.agrees);
      all = omega (arith, one_less packets numbers.held n numbers.next (with_its_key key h) r p);
      enough = rw room enough;
      short = rw room short;
    }

key_is : (k : Keyed) → (let o : Option ℕ = None in o ≡ option_map (λ h. h.key) (Some k)) → ⊥
key_is k e = cc

no_keyed : (o : Option Keyed) → None ≡ option_map (λ h. h.key) o → o ≡ None
no_keyed None e = refl
no_keyed (Some k) e = absurd (key_is k e)

some_keyed : (k : Keyed) → (let o : Option Keyed = Some k in o ≡ None) → ⊥
some_keyed k e = cc

none_in : (b : Bool) (k : Keyed) (rest : List Keyed) (n : ℕ) → cond b (Some k) (find (λ h. h.number == n) rest) ≡ None
    → (find (λ h. h.number == n) rest ≡ None → filter (λ h. not (h.number == n)) rest ≡ rest)
    → cond (not b) (k ∷ filter (λ h. not (h.number == n)) rest) (filter (λ h. not (h.number == n)) rest) ≡ k ∷ rest
none_in true k rest n e later = absurd (some_keyed k e)
none_in false k rest n e later = ap (λ (l : List Keyed). k ∷ l) (later e)

gone_none : (held : List Keyed) (n : ℕ) → find (λ h. h.number == n) held ≡ None → filter (λ h. not (h.number == n)) held ≡ held
gone_none [] n e = refl
gone_none (k ∷ rest) n e = none_in (k.number == n) k rest n e (gone_none rest n)

-- where there is no packet of a number, no key is taken away
pub none_gone : (held : List Keyed) (n : ℕ) → None ≡ option_map (λ h. h.key) (find (λ h. h.number == n) held) → filter (λ h. not (h.number == n)) held ≡ held
none_gone held n e = gone_none held n (no_keyed (find (λ h. h.number == n) held) e)

pub holding_next : (packets : Slab Held) (numbers : Numbered) (next : ℕ) → IsHolding packets numbers → IsHolding packets (record numbers { next = next })
holding_next packets numbers next k = record { agrees = k.agrees; all = k.all; enough = k.enough; short = k.short }

pub holding_none : (packets : Slab Held) (most next : ℕ) → packets.slots ≡ [] → most ≤ packets.capacity → packets.capacity ≤ 2 ^ 32
    → IsHolding packets (record { held = []; next = next; most = most })
holding_none packets most next empty enough short =
    record { agrees = tt; all = ap (λ (l : List (Option Held)). count_by is_some l) empty; enough = enough; short = short }
