use Rattle.std.proofs.Common.{◌≡◌, ℕ, ◌++◌, ◌==◌, ◌&&◌, not, cond, true, false, Bool, List, [], ◌∷◌, Option, Some, None, length, map, filter, refl, sym, ap, ◌∙◌, subst, arith}
use Rattle.std.specs.List.{find}
use Rattle.std.specs.Option.{option_map}
use Rattle.std.specs.Prelude.{slice_get}
use Rattle.std.proofs.lemmas.Bool.Decides.{nat_tests}
use Rattle.std.proofs.lemmas.List.{append-nil, map-append, length-map}
use Rattle.std.proofs.lemmas.List.Elements.{filter-append}
use Rattle.std.proofs.lemmas.List.Sums.{length-filter}
use Rattle.interconnect.specs.Stored.{Stored}
use Rattle.interconnect.specs.Links.{Packet, packet_of, is_on, count_on, oldest_on}
use Rattle.interconnect.specs.Keys.{AreNodes, IsOther, keys_on, is_stored_on, IsIndex}
use Rattle.interconnect.specs.Flights.{shown, all_shown, IsRising}
use Rattle.interconnect.proofs.Shown.{named, others, HasPlace, others_remove}
use Rattle.interconnect.proofs.Lists.{filter_mapped, find_mapped, first_filtered, filter_removed, filter_comm}

abbrev pub on : ℕ → ℕ → List Stored → List ℕ
on from to held = map (λ h. h.key) (filter (is_stored_on from to) held)

-- the table tells the count and the oldest of a link

pub count_shown : (pool : List (Option (List ℕ))) (held : List Stored) (from to : ℕ) → count_on (all_shown pool held) from to ≡ length (on from to held)
count_shown pool held from to =
    sym (length-filter (is_on from to) (all_shown pool held))
    ∙ ap (λ (l : List Packet). length l) (filter_mapped (shown pool) (is_on from to) held)
    ∙ length-map (filter (is_stored_on from to) held) (shown pool)
    ∙ sym (length-map (filter (is_stored_on from to) held) (λ (h : Stored). h.key))

number_shown : (pool : List (Option (List ℕ))) (o : Option Stored) → option_map (λ p. p.number) (option_map (shown pool) o) ≡ option_map (λ h. h.number) o
number_shown pool None = refl
number_shown pool (Some h) = refl

-- the keys of the table, as they are looked for
pub oldest_key : (held : List Stored) (from to : ℕ) → slice_get (on from to held) 0 ≡ option_map (λ h. h.key) (find (is_stored_on from to) held)
oldest_key held from to = first_filtered (λ (h : Stored). h.key) (is_stored_on from to) held

pub oldest_shown : (pool : List (Option (List ℕ))) (held : List Stored) (from to : ℕ)
    → oldest_on (all_shown pool held) from to ≡ option_map (λ h. h.number) (find (is_stored_on from to) held)
oldest_shown pool held from to =
    ap (λ (o : Option Packet). option_map (λ p. p.number) o) (find_mapped (shown pool) (is_on from to) held)
    ∙ number_shown pool (find (is_stored_on from to) held)

pub packet_shown : (pool : List (Option (List ℕ))) (held : List Stored) (n : ℕ) → packet_of (all_shown pool held) n ≡ option_map (shown pool) (named n held)
packet_shown pool held n = find_mapped (shown pool) (λ (p : Packet). p.number == n) held

pub others_shown : (pool : List (Option (List ℕ))) (held : List Stored) (n : ℕ) → filter (λ p. not (p.number == n)) (all_shown pool held) ≡ all_shown pool (others n held)
others_shown pool held n = filter_mapped (shown pool) (λ (p : Packet). not (p.number == n)) held

-- the table once a packet came

both : (a b c d : ℕ) → ((a == b) && (c == d)) ≡ true → (a ≡ b) × (c ≡ d)
both a b c d t = grind (arith, nat_tests)

on_push : (f t : ℕ) (held : List Stored) (h : Stored) → on f t (held ++ h ∷ []) ≡ on f t held ++ map (λ h. h.key) (cond (is_stored_on f t h) (h ∷ []) [])
on_push f t held h =
    ap (λ (l : List Stored). map (λ h. h.key) l) (filter-append (is_stored_on f t) held (h ∷ []))
    ∙ map-append (λ (v : Stored). v.key) (filter (is_stored_on f t) held) (filter (is_stored_on f t) (h ∷ []))

index_push_at : (b : Bool) (links new : List (List ℕ)) (held : List Stored) (h : Stored) (f t : ℕ) → IsIndex links held → AreNodes f t
    → keys_on new h.from h.to ≡ keys_on links h.from h.to ++ h.key ∷ []
    → (IsOther f t h.from h.to → keys_on new f t ≡ keys_on links f t)
    → is_stored_on f t h ≡ b → keys_on new f t ≡ on f t (held ++ h ∷ [])
index_push_at true links new held h f t k nodes own other s =
    let is : (h.from ≡ f) × (h.to ≡ t) = both h.from f h.to t s in
    let mine : keys_on new f t ≡ keys_on links f t ++ h.key ∷ [] =
    subst (λ (m : ℕ). keys_on new f m ≡ keys_on links f m ++ h.key ∷ []) is.1
    (subst (λ (m : ℕ). keys_on new m h.to ≡ keys_on links m h.to ++ h.key ∷ []) is.0 own) in
    mine ∙ ap (λ (l : List ℕ). l ++ h.key ∷ []) (k f t nodes)
    ∙ sym (on_push f t held h ∙ ap (λ (c : Bool). on f t held ++ map (λ h. h.key) (cond c (h ∷ []) [])) s)
index_push_at false links new held h f t k nodes own other s =
    other s ∙ k f t nodes
    ∙ sym (on_push f t held h ∙ ap (λ (c : Bool). on f t held ++ map (λ h. h.key) (cond c (h ∷ []) [])) s ∙ append-nil (on f t held))

pub index_push : (links new : List (List ℕ)) (held : List Stored) (h : Stored) → IsIndex links held
    → keys_on new h.from h.to ≡ keys_on links h.from h.to ++ h.key ∷ []
    → ((f t : ℕ) → AreNodes f t → IsOther f t h.from h.to → keys_on new f t ≡ keys_on links f t)
    → IsIndex new (held ++ h ∷ [])
index_push links new held h k own other f t nodes =
    index_push_at (is_stored_on f t h) links new held h f t k nodes own (other f t nodes) refl

-- the table once a packet left

-- the others, by their keys
abbrev pub keyless : ℕ → List Stored → List Stored
keyless key held = filter (λ h. not (h.key == key)) held

on_others : (f t key : ℕ) (held : List Stored) → on f t (keyless key held) ≡ filter (λ k. not (k == key)) (on f t held)
on_others f t key held =
    ap (λ (l : List Stored). map (λ h. h.key) l) (filter_comm (is_stored_on f t) (λ (h : Stored). not (h.key == key)) held)
    ∙ sym (filter_mapped (λ (h : Stored). h.key) (λ (k : ℕ). not (k == key)) (filter (is_stored_on f t) held))

on_kept : (f t n next : ℕ) (held : List Stored) (h : Stored) → IsRising 1 held next → HasPlace held n h → is_stored_on f t h ≡ false
    → on f t (others n held) ≡ on f t held
on_kept f t n next held h r p s =
    ap (λ (m : ℕ). on f t (others m held)) (sym p.at)
    ∙ ap (λ (l : List Stored). on f t l) (others_remove 1 next held p.place h r p.low p.is)
    ∙ ap (λ (l : List Stored). map (λ h. h.key) l) (filter_removed (is_stored_on f t) held p.place h p.low p.is s)

index_remove_at : (b : Bool) (links new : List (List ℕ)) (held : List Stored) (h : Stored) (f t n next : ℕ) → IsIndex links held → AreNodes f t
    → IsRising 1 held next → HasPlace held n h → keyless h.key held ≡ others n held
    → keys_on new h.from h.to ≡ filter (λ k. not (k == h.key)) (keys_on links h.from h.to)
    → (IsOther f t h.from h.to → keys_on new f t ≡ keys_on links f t)
    → is_stored_on f t h ≡ b → keys_on new f t ≡ on f t (others n held)
index_remove_at true links new held h f t n next k nodes r p same own other s =
    let is : (h.from ≡ f) × (h.to ≡ t) = both h.from f h.to t s in
    let mine : keys_on new f t ≡ filter (λ k. not (k == h.key)) (keys_on links f t) =
    subst (λ (m : ℕ). keys_on new f m ≡ filter (λ k. not (k == h.key)) (keys_on links f m)) is.1
    (subst (λ (m : ℕ). keys_on new m h.to ≡ filter (λ k. not (k == h.key)) (keys_on links m h.to)) is.0 own) in
    mine ∙ ap (λ (l : List ℕ). filter (λ k. not (k == h.key)) l) (k f t nodes) ∙ sym (on_others f t h.key held)
    ∙ ap (λ (l : List Stored). on f t l) same
index_remove_at false links new held h f t n next k nodes r p same own other s =
    other s ∙ k f t nodes ∙ sym (on_kept f t n next held h r p s)

pub index_remove : (links new : List (List ℕ)) (held : List Stored) (h : Stored) (n next : ℕ) → IsIndex links held → IsRising 1 held next → HasPlace held n h
    → keyless h.key held ≡ others n held
    → keys_on new h.from h.to ≡ filter (λ k. not (k == h.key)) (keys_on links h.from h.to)
    → ((f t : ℕ) → AreNodes f t → IsOther f t h.from h.to → keys_on new f t ≡ keys_on links f t)
    → IsIndex new (others n held)
index_remove links new held h n next k r p same own other f t nodes =
    index_remove_at (is_stored_on f t h) links new held h f t n next k nodes r p same own (other f t nodes) refl
