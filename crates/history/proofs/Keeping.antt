-- Kept follows from Lineage and the places of updates; and no two acknowledged updates have one place.
use Rattle.std.proofs.Common.{◌≡◌, ◌⊎◌, inl, inr, ⊎_elim, ℕ, ◌+◌, ◌-◌, ◌<◌, ◌==◌, zero, suc, Bool, true, false, ◌||◌, refl, sym, subst, List, [], ◌∷◌, ◌++◌, append_assoc, append-nil, map, length, length-append, take, take-add, drop, arith, Option, Some, slice_get, get_or, eq-or-lt_of_le}
use Rattle.std.specs.List.{AllByRecursion, list_any}
use Rattle.std.proofs.lemmas.Option.{slice_get_within, get_or_from_slice_get, slice_get_read}
use Rattle.std.proofs.lemmas.List.{get_or_append_left, get_or-append-add}
use Rattle.std.proofs.Math.Seq.{take-append_seam}
use Rattle.history.specs.Deeds.{Deed, Update, Started, Proposed, Acked, OfEach, start_numbers, has_started, base_in, acks, proposed_in, acked_in, in_force}
use Rattle.history.specs.Lineage.{Lineage, StandsOn, Continues, AllDiffer, last_below}
use Rattle.history.specs.Placed.{Placed}
use Rattle.history.specs.Kept.{Kept, StandsIn}
use Rattle.history.proofs.Among.{In, all_at, all_of}
use Rattle.history.proofs.Below.{Last, last_above}
use Rattle.history.proofs.Ordered.{Begins, IsAt, in_order, placed_at, same_number}

-- ---- lists

get_middle : {A : Type 0} (xs ys zs : List A) (i : ℕ) (w : A) → slice_get ys i ≡ Some w → slice_get (xs ++ ys ++ zs) (length xs + i) ≡ Some w
get_middle xs ys zs i w h =
    let inside : i < length ys = slice_get_within ys i w h in
    let here : get_or ys i w ≡ w = get_or_from_slice_get ys i w w h in
    let whole : length (xs ++ ys ++ zs) ≡ length xs + length ys + length zs = rw (length-append, length-append) refl in
    let front : length (xs ++ ys) ≡ length xs + length ys = rw (length-append) refl in
    slice_get_read (xs ++ ys ++ zs) (length (xs ++ ys ++ zs)) (length xs + i) w refl (omega (arith, whole, inside))
    (sym (rw (get_or_append_left (xs ++ ys) zs w (length xs + i) (omega (arith, front, inside)), get_or-append-add xs ys i w) here))

or_cases : (a b : Bool) → (a || b) ≡ true → (a ≡ true) ⊎ (b ≡ true)
or_cases true b h = inl refl
or_cases false b h = inr h

is_same : (a b : ℕ) → (a == b) ≡ true → b ≡ a
is_same a b h = grind arith

started_among : (numbers : List ℕ) (e : ℕ) → list_any (λ f. f == e) numbers ≡ true → In e numbers
started_among [] e h = absurd (cc)
started_among (f ∷ numbers) e h =
    ⊎_elim (λ x. inl (is_same f e x)) (λ x. inr (started_among numbers e x)) (or_cases (f == e) (list_any (λ k. k == e) numbers) h)

begins_with : {A : Type 0} (first whole : List A) → Begins first whole → first ≡ take (length first) whole
begins_with first whole h = rw h.is (sym (take-append_seam first h.rest))

-- ---- bases

-- the base of f goes on from that of e with what is acknowledged in e
record Holds (ds : List Deed) (e f : ℕ) : Type 0 where
  pub rest : List (List ℕ)
  pub is : base_in f ds ≡ base_in e ds ++ acked_in e ds ++ rest

ended : (old acked proposed new : List (List ℕ)) (k : ℕ) → acked ≡ take k proposed → new ≡ old ++ take k proposed → new ≡ old ++ acked ++ []
ended old acked proposed new k e h = rw (e, h, append-nil) refl

joined : (old acked proposed new : List (List ℕ)) (k : ℕ) → acked ≡ take k proposed → new ≡ old ++ take (k + 1) proposed
    → new ≡ old ++ acked ++ take 1 (drop k proposed)
joined old acked proposed new k e h = rw (e, h, take-add k 1 proposed, append_assoc old (take k proposed) (take 1 (drop k proposed))) refl

-- f stands on e
stands_on : (ds : List Deed) (e f : ℕ) → Begins (acked_in e ds) (proposed_in e ds)
    → Continues (base_in e ds) (proposed_in e ds) (length (acked_in e ds)) (base_in f ds) → Holds ds e f
stands_on ds e f p (inl h) = record {
  rest = [];
  is = ended (base_in e ds) (acked_in e ds) (proposed_in e ds) (base_in f ds) (length (acked_in e ds)) (begins_with (acked_in e ds) (proposed_in e ds) p) h;
}
stands_on ds e f p (inr h) = record {
  rest = take 1 (drop (length (acked_in e ds)) (proposed_in e ds));
  is = joined (base_in e ds) (acked_in e ds) (proposed_in e ds) (base_in f ds) (length (acked_in e ds)) (begins_with (acked_in e ds) (proposed_in e ds) p) h;
}

-- f stands on g, and g holds what was acknowledged in e
goes_on : (ds : List Deed) (e f g : ℕ) → Holds ds e g → (more : List (List ℕ)) → base_in f ds ≡ base_in g ds ++ more → Holds ds e f
goes_on ds e f g h more is = record { rest = h.rest ++ more; is = rw (is, h.is) (append_assoc (base_in e ds ++ acked_in e ds) h.rest more) }

continues_with : (old proposed : List (List ℕ)) (k : ℕ) (new : List (List ℕ)) → Continues old proposed k new → (more : List (List ℕ)) × (new ≡ old ++ more)
continues_with old proposed k new (inl h) = (take k proposed, h)
continues_with old proposed k new (inr h) = (take (k + 1) proposed, h)

holds : (ds : List Deed) → Lineage ds → Placed ds → (e : ℕ) → In e (start_numbers ds)
    → (n f : ℕ) → f < n → In f (start_numbers ds) → e < f → Holds ds e f
holds ds l p e ie zero f below if' lt = absurd (omega (arith, below))
holds ds l p e ie (suc n) f below if' lt = by_last (last_above f (start_numbers ds) e ie lt) (holds ds l p e ie n)
  where
    stands : StandsOn ds f (last_below f (start_numbers ds))
    stands = all_at (λ (x : ℕ). StandsOn ds x (last_below x (start_numbers ds))) (start_numbers ds) f l.stands if'

    by_last : Last f (start_numbers ds) → ((g : ℕ) → g < n → In g (start_numbers ds) → e < g → Holds ds e g) → Holds ds e f
    by_last b earlier = by_order (eq-or-lt_of_le (b.greatest e ie lt))
      where
        on : Continues (base_in b.last ds) (proposed_in b.last ds) (length (acked_in b.last ds)) (base_in f ds)
        on = subst (λ (o : Option ℕ). StandsOn ds f o) b.is stands

        by_order : (e ≡ b.last) ⊎ (e < b.last) → Holds ds e f
        by_order (inl same) =
            stands_on ds e f (in_order ds p e)
            (subst (λ (g : ℕ). Continues (base_in g ds) (proposed_in g ds) (length (acked_in g ds)) (base_in f ds)) (sym same) on)
        by_order (inr less) =
            let more : (more : List (List ℕ)) × (base_in f ds ≡ base_in b.last ds ++ more) =
            continues_with (base_in b.last ds) (proposed_in b.last ds) (length (acked_in b.last ds)) (base_in f ds) on in
            goes_on ds e f b.last (earlier b.last (omega (arith, b.below, below)) b.among less) more.0 more.1

holds_in : (ds : List Deed) → Lineage ds → Placed ds → (e f : ℕ) → has_started e ds ≡ true → has_started f ds ≡ true → e < f → Holds ds e f
holds_in ds l p e f se sf lt = holds ds l p e (started_among (start_numbers ds) e se) (suc f) f (omega arith) (started_among (start_numbers ds) f sf) lt

-- ---- Kept

one_less : (a i p : ℕ) → p ≡ a + i + 1 → p - 1 ≡ a + i
one_less a i p h = omega (arith, h)

-- each greater membership begins with what was in force
pub begins : (ds : List Deed) → Lineage ds → Placed ds → (e f : ℕ) → has_started e ds ≡ true → has_started f ds ≡ true
    → e < f → (rest : List (List ℕ)) × (base_in f ds ≡ in_force e ds ++ rest)
begins ds l p e f se sf lt =
    let h : Holds ds e f = holds_in ds l p e f se sf lt in
    (h.rest, h.is)

in_numbers : (numbers : List ℕ) (f : ℕ) → In f numbers → list_any (λ k. k == f) numbers ≡ true
in_numbers [] f i = absurd i
in_numbers (k ∷ numbers) f (inl e) = subst (λ (x : ℕ). ((k == x) || list_any (λ j. j == x) numbers) ≡ true) (sym e) (rw (same_number k) refl)
in_numbers (k ∷ numbers) f (inr i) = after (k == f) (list_any (λ j. j == f) numbers) (in_numbers numbers f i)
  where
    after : (a b : Bool) → b ≡ true → (a || b) ≡ true
    after a b h = grind arith

pub kept : (ds : List Deed) → Lineage ds → Placed ds → Kept ds
kept ds l p = all_of (λ (u : Update). AllByRecursion (λ f. u.epoch < f → StandsIn (base_in f ds) u) (start_numbers ds)) (acks ds)
    (λ u iu. all_of (λ f. u.epoch < f → StandsIn (base_in f ds) u) (start_numbers ds) (λ f if' lt. stands u iu f if' lt))
  where
    stands : (u : Update) → In u (acks ds) → (f : ℕ) → In f (start_numbers ds) → u.epoch < f → StandsIn (base_in f ds) u
    stands u iu f if' lt =
        let at : IsAt ds u = placed_at ds p l.once u iu in
        let h : Holds ds u.epoch f = holds_in ds l p u.epoch f at.started (in_numbers (start_numbers ds) f if') lt in
        rw (h.is, one_less (length (base_in u.epoch ds)) at.index u.place at.place)
        (get_middle (base_in u.epoch ds) (acked_in u.epoch ds) h.rest at.index u.words at.words)

-- ---- no two places are one

-- the update v has a place that u does not have
other_place : (base_u acked_u base_v acked_v index place_u place_v : ℕ) → place_u ≡ base_u + index + 1 → index < acked_u → place_v ≡ base_v + acked_v + 1
    → base_u + acked_u < base_v + 1 → (place_u == place_v) ≡ false
other_place base_u acked_u base_v acked_v index place_u place_v a b c d = grind arith

same_base : (base acked index place_u place_v : ℕ) → place_u ≡ base + index + 1 → index < acked → place_v ≡ base + acked + 1 → (place_u == place_v) ≡ false
same_base base acked index place_u place_v a b c = grind arith

greater_base : (base_u base_v acked_v index place_u place_v : ℕ) → place_u ≡ base_u + index + 1 → place_v ≡ base_v + acked_v + 1
    → base_v + (acked_v + 1) < base_u + 1 → (place_u == place_v) ≡ false
greater_base base_u base_v acked_v index place_u place_v a c d = grind arith

length_of : (old acked rest new : List (List ℕ)) → new ≡ old ++ acked ++ rest → length old + length acked < length new + 1
length_of old acked rest new h =
    let whole : length new ≡ length old + length acked + length rest = rw (h, length-append, length-append) refl in
    omega (arith, whole)

which : (a b : ℕ) → (a ≡ b) ⊎ (a < b) ⊎ (b < a)
which a b = grind arith

-- u was acknowledged before v
differs : (before : List Deed) (v : Update) → Lineage (Acked v ∷ before) → Placed (Acked v ∷ before) → (u : Update) → In u (acks before) → (u.place == v.place) ≡ false
differs before v l p u i = go (which u.epoch v.epoch)
  where
    at : IsAt before u
    at = placed_at before p.1 l.once u i

    inside : at.index < length (acked_in u.epoch before)
    inside = slice_get_within (acked_in u.epoch before) at.index u.words at.words

    go : (u.epoch ≡ v.epoch) ⊎ (u.epoch < v.epoch) ⊎ (v.epoch < u.epoch) → (u.place == v.place) ≡ false
    go (inl same) =
        let here : u.place ≡ length (base_in v.epoch before) + at.index + 1 = subst (λ (e : ℕ). u.place ≡ length (base_in e before) + at.index + 1) same at.place in
        let within : at.index < length (acked_in v.epoch before) = subst (λ (e : ℕ). at.index < length (acked_in e before)) same inside in
        same_base (length (base_in v.epoch before)) (length (acked_in v.epoch before)) at.index u.place v.place here within p.0.place
    go (inr (inl less)) =
        let h : Holds (Acked v ∷ before) u.epoch v.epoch = holds_in (Acked v ∷ before) l p u.epoch v.epoch at.started p.0.started less in
        let after : IsAt (Acked v ∷ before) u = placed_at (Acked v ∷ before) p l.once u (inr i) in
        let within : after.index < length (acked_in u.epoch (Acked v ∷ before)) = slice_get_within (acked_in u.epoch (Acked v ∷ before)) after.index u.words after.words in
        other_place (length (base_in u.epoch before)) (length (acked_in u.epoch (Acked v ∷ before))) (length (base_in v.epoch before)) (length (acked_in v.epoch before))
        after.index u.place v.place after.place within p.0.place
        (length_of (base_in u.epoch before) (acked_in u.epoch (Acked v ∷ before)) h.rest (base_in v.epoch before) h.is)
    go (inr (inr more)) =
        let h : Holds (Acked v ∷ before) v.epoch u.epoch = holds_in (Acked v ∷ before) l p v.epoch u.epoch p.0.started at.started more in
        let longer : length (acked_in v.epoch (Acked v ∷ before)) ≡ length (acked_in v.epoch before) + 1 = rw (same_number v.epoch, length-append) refl in
        greater_base (length (base_in u.epoch before)) (length (base_in v.epoch before)) (length (acked_in v.epoch before)) at.index u.place v.place at.place p.0.place
        (subst (λ (k : ℕ). length (base_in v.epoch before) + k < length (base_in u.epoch before) + 1) longer
        (length_of (base_in v.epoch before) (acked_in v.epoch (Acked v ∷ before)) h.rest (base_in u.epoch before) h.is))

none_has : (us : List Update) (place : ℕ) → ((u : Update) → In u us → (u.place == place) ≡ false) → list_any (λ f. f == place) (map (λ (u : Update). u.place) us) ≡ false
none_has [] place h = refl
none_has (u ∷ us) place h = rw (h u (inl refl)) (none_has us place (λ w i. h w (inr i)))

pub places_differ : (ds : List Deed) → OfEach Lineage ds → Placed ds → AllDiffer (map (λ (u : Update). u.place) (acks ds))
places_differ [] l p = tt
places_differ (Started s updates ∷ before) l p = places_differ before l.1 p.1
places_differ (Proposed u ∷ before) l p = places_differ before l.1 p.1
places_differ (Acked v ∷ before) l p = (none_has (acks before) v.place (λ u i. differs before v l.0 p u i), places_differ before l.1 p.1)
