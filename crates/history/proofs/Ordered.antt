-- What the places of updates come to: those that are acknowledged are the first of those that were proposed, each at its place.
use Rattle.std.proofs.Common.{◌≡◌, ◌⊎◌, inl, inr, ℕ, ◌+◌, ◌<◌, ◌==◌, Bool, true, false, ◌||◌, refl, sym, subst, List, [], ◌∷◌, ◌++◌, append_assoc, append-nil, length, length-append, arith, Some, slice_get, get_or, if◌then◌else◌}
use Rattle.std.specs.List.{list_any}
use Rattle.std.proofs.lemmas.Option.{slice_get_within, get_or_from_slice_get, slice_get_read}
use Rattle.std.proofs.lemmas.List.{get_or_append_left}
use Rattle.std.proofs.Math.Seq.{get_or-append_seam}
use Rattle.history.specs.Starts.{Start}
use Rattle.history.specs.Deeds.{Deed, Update, Started, Proposed, Acked, start_numbers, has_started, base_in, acks, proposed_in, acked_in}
use Rattle.history.specs.Lineage.{AllDiffer}
use Rattle.history.specs.Placed.{Placed}
use Rattle.history.proofs.Among.{In, true_or_false}

-- ---- numbers and lists

pub same_number : (n : ℕ) → (n == n) ≡ true
same_number n = grind arith

pub are_same : (a b : ℕ) → (a == b) ≡ true → a ≡ b
are_same a b h = grind arith

pub get_left : {A : Type 0} (xs ys : List A) (i : ℕ) (w : A) → slice_get xs i ≡ Some w → slice_get (xs ++ ys) i ≡ Some w
get_left xs ys i w h =
    let inside : i < length xs = slice_get_within xs i w h in
    let here : get_or xs i w ≡ w = get_or_from_slice_get xs i w w h in
    let whole : length (xs ++ ys) ≡ length xs + length ys = length-append xs ys in
    slice_get_read (xs ++ ys) (length (xs ++ ys)) i w refl (omega (arith, whole, inside)) (sym (rw (get_or_append_left xs ys w i inside) here))

pub get_seam : {A : Type 0} (xs : List A) (y : A) (ys : List A) → slice_get (xs ++ y ∷ ys) (length xs) ≡ Some y
get_seam xs y ys =
    let whole : length (xs ++ y ∷ ys) ≡ length xs + length (y ∷ ys) = length-append xs (y ∷ ys) in
    let more : 0 < length (y ∷ ys) = omega arith in
    slice_get_read (xs ++ y ∷ ys) (length (xs ++ y ∷ ys)) (length xs) y refl (omega (arith, whole, more)) (sym (get_or-append_seam xs y ys y))

some_same : {A : Type 0} (a b : A) → Some a ≡ Some b → a ≡ b
some_same a b e = cc

-- ---- the acknowledged are the first of the proposed

pub record Begins {A : Type 0} (first whole : List A) : Type 0 where
  pub rest : List A
  pub is : whole ≡ first ++ rest

-- the element behind them
record Next {A : Type 0} (first whole : List A) (w : A) : Type 0 where
  pub rest : List A
  pub is : whole ≡ first ++ w ∷ rest

next_of : {A : Type 0} (first rest : List A) (w : A) → slice_get (first ++ rest) (length first) ≡ Some w → Next first (first ++ rest) w
next_of first [] w h =
    let inside : length first < length (first ++ []) = slice_get_within (first ++ []) (length first) w h in
    let whole : length (first ++ []) ≡ length first = rw append-nil refl in
    absurd (omega (arith, inside, whole))
next_of first (r ∷ rest) w h =
    let same : r ≡ w = some_same r w (rw (get_seam first r rest) at h) in
    record { rest = rest; is = rw same refl }

more_proposed : {A : Type 0} (first whole : List A) (w : A) (b : Bool) → Begins first whole → Begins first (whole ++ (if b then w ∷ [] else []))
more_proposed first whole w true h = record { rest = h.rest ++ w ∷ []; is = rw h.is (append_assoc first h.rest (w ∷ [])) }
more_proposed first whole w false h = record { rest = h.rest; is = rw (append-nil) h.is }

one_further : {A : Type 0} (whole first rest : List A) (w : A) (after : List A) → whole ≡ first ++ rest → first ++ rest ≡ first ++ w ∷ after → whole ≡ (first ++ w ∷ []) ++ after
one_further whole first rest w after a b = rw (append_assoc first (w ∷ []) after, a) b

one_acked : {A : Type 0} (first whole : List A) (w : A) → Begins first whole → slice_get whole (length first) ≡ Some w → Begins (first ++ w ∷ []) whole
one_acked first whole w h got =
    let next : Next first (first ++ h.rest) w = next_of first h.rest w (subst (λ xs. slice_get xs (length first) ≡ Some w) h.is got) in
    record { rest = next.rest; is = one_further whole first h.rest w next.rest h.is next.is }

pub in_order : (ds : List Deed) → Placed ds → (e : ℕ) → Begins (acked_in e ds) (proposed_in e ds)
in_order [] p e = record { rest = []; is = refl }
in_order (Started s updates ∷ before) p e = in_order before p.1 e
in_order (Proposed u ∷ before) p e = more_proposed (acked_in e before) (proposed_in e before) u.words (u.epoch == e) (in_order before p.1 e)
in_order (Acked u ∷ before) p e = go (true_or_false (u.epoch == e)) (in_order before p.1 e)
  where
    go : ((u.epoch == e) ≡ true) ⊎ ((u.epoch == e) ≡ false) → Begins (acked_in e before) (proposed_in e before) → Begins (acked_in e (Acked u ∷ before)) (proposed_in e before)
    go (inl y) h =
        rw y (one_acked (acked_in e before) (proposed_in e before) u.words h
        (subst (λ (f : ℕ). slice_get (proposed_in f before) (length (acked_in f before)) ≡ Some u.words) (are_same u.epoch e y) p.0.words))
    go (inr n) h = rw n (rw (append-nil) h)

-- ---- each at its place

pub record IsAt (ds : List Deed) (u : Update) : Type 0 where
  pub index : ℕ
  pub place : u.place ≡ length (base_in u.epoch ds) + index + 1
  pub words : slice_get (acked_in u.epoch ds) index ≡ Some u.words
  pub started : has_started u.epoch ds ≡ true

or_right : (a b : Bool) → b ≡ true → (a || b) ≡ true
or_right a b h = grind arith

-- the update stays at its place when another number starts
on_start : (ds : List Deed) (s : Start) (updates : List (List ℕ)) (u : Update) → AllDiffer (start_numbers (Started s updates ∷ ds)) → IsAt ds u → IsAt (Started s updates ∷ ds) u
on_start ds s updates u differ h = go (true_or_false (s.epoch == u.epoch))
  where
    go : ((s.epoch == u.epoch) ≡ true) ⊎ ((s.epoch == u.epoch) ≡ false) → IsAt (Started s updates ∷ ds) u
    go (inl y) =
        let none : list_any (λ f. f == u.epoch) (start_numbers ds) ≡ false =
        subst (λ (k : ℕ). list_any (λ f. f == k) (start_numbers ds) ≡ false) (are_same s.epoch u.epoch y) differ.0 in
        absurd (cc (none, h.started))
    go (inr n) = record {
      index = h.index;
      place = rw n h.place;
      words = h.words;
      started = or_right (s.epoch == u.epoch) (list_any (λ f. f == u.epoch) (start_numbers ds)) h.started;
    }

pub placed_at : (ds : List Deed) → Placed ds → AllDiffer (start_numbers ds) → (u : Update) → In u (acks ds) → IsAt ds u
placed_at [] p d u i = absurd i
placed_at (Started s updates ∷ before) p d u i = on_start before s updates u d (placed_at before p.1 d.1 u i)
placed_at (Proposed v ∷ before) p d u i =
    let h : IsAt before u = placed_at before p.1 d u i in
    record { index = h.index; place = h.place; words = h.words; started = h.started }
placed_at (Acked v ∷ before) p d u (inl e) = subst (λ (x : Update). IsAt (Acked v ∷ before) x) (sym e) (record {
  index = length (acked_in v.epoch before);
  place = p.0.place;
  words = rw (same_number v.epoch) (get_seam (acked_in v.epoch before) v.words []);
  started = p.0.started;
})
placed_at (Acked v ∷ before) p d u (inr i) =
    let h : IsAt before u = placed_at before p.1 d u i in
    record {
      index = h.index;
      place = h.place;
      words = get_left (acked_in u.epoch before) (if v.epoch == u.epoch then v.words ∷ [] else []) h.index u.words h.words;
      started = h.started;
    }
