-- The `start` lines of a trace in which no `base` line is due are those of its deeds, members and held devices and all.
use Rattle.std.proofs.Common.{◌≡◌, ◌⊎◌, inl, inr, ℕ, ◌+◌, ◌==◌, nat_lt, Bool, true, false, refl, sym, subst, List, [], ◌∷◌, ◌++◌, length, length-append, arith, Option, Some, None, if◌then◌else◌}
use Rattle.std.specs.Option.{option_and_then}
use Rattle.history.specs.Moment.{Moment}
use Rattle.history.specs.Trace.{start, base, propose, ack}
use Rattle.history.specs.Starts.{Start, StartLines, starts, start_so_far, base_so_far, base_due}
use Rattle.history.specs.Deeds.{Acked, Deed, Proposed, Started, deeds, once_complete}
use Rattle.machine_base.proofs.Puts.{true_or_false}

-- the starts of deeds
abbrev pub starts_in : List Deed → List Start
starts_in [] = []
starts_in (Started s updates ∷ before) = s ∷ starts_in before
starts_in (Proposed u ∷ before) = starts_in before
starts_in (Acked u ∷ before) = starts_in before

-- a start of which k `base` lines stand, and that is not complete
abbrev pending : Option Start → ℕ → List Start
pending None k = []
pending (Some s) k = if nat_lt k s.count then s ∷ [] else []

abbrev due_if : Bool → ℕ → ℕ → Option (ℕ × ℕ)
due_if b e v = if b then Some (e, v) else None

-- the line that is due then
abbrev due_after : Option Start → ℕ → Option (ℕ × ℕ)
due_after o k = option_and_then (λ (s : Start). due_if (nat_lt k s.count) s.epoch (k + 1)) o

none_due : (o : Option Start) (k : ℕ) → None ≡ due_after o k → pending o k ≡ []
none_due None k h = refl
none_due (Some s) k h = go (nat_lt k s.count) h
  where
    go : (b : Bool) → None ≡ due_if b s.epoch (k + 1) → (if b then s ∷ [] else []) ≡ []
    go true e = absurd (cc e)
    go false e = refl

-- ---- a start line

above_zero : (count : ℕ) → nat_lt 0 count ≡ true → (0 == count) ≡ false
above_zero count h = grind arith

not_above : (count : ℕ) → nat_lt 0 count ≡ false → (0 == count) ≡ true
not_above count h = grind arith

begun : (s : Start) (ds : List Deed) (numbers : List Start) → numbers ≡ starts_in ds
    → s ∷ numbers ≡ pending (Some s) 0 ++ starts_in (once_complete (if 0 == s.count then Some s else None) [] ds)
begun s ds numbers h = go (true_or_false (nat_lt 0 s.count))
  where
    go : (nat_lt 0 s.count ≡ true) ⊎ (nat_lt 0 s.count ≡ false)
        → s ∷ numbers ≡ pending (Some s) 0 ++ starts_in (once_complete (if 0 == s.count then Some s else None) [] ds)
    go (inl y) = rw (y, above_zero s.count y, h) refl
    go (inr n) = rw (n, not_above s.count n, h) refl

-- ---- a base line

goes_on : (k count : ℕ) → nat_lt k count ≡ true → (k + 1 == count) ≡ false → nat_lt (k + 1) count ≡ true
goes_on k count h i = grind arith

is_last : (k count : ℕ) → (k + 1 == count) ≡ true → nat_lt (k + 1) count ≡ false
is_last k count h = grind arith

one_more : (o : Option Start) (k : ℕ) (line : ℕ × ℕ) (updates : List (List ℕ)) (ds : List Deed) (numbers : List Start)
    → Some line ≡ due_after o k
    → numbers ≡ pending o k ++ starts_in ds
    → numbers ≡ pending o (k + 1) ++ starts_in (once_complete (option_and_then (λ (s : Start). if k + 1 == s.count then Some s else None) o) updates ds)
one_more None k line updates ds numbers due h = absurd (cc due)
one_more (Some s) k line updates ds numbers due h = go (true_or_false (nat_lt k s.count)) (true_or_false (k + 1 == s.count))
  where
    some_none : Some line ≡ None → ⊥
    some_none e = cc e

    go : (nat_lt k s.count ≡ true) ⊎ (nat_lt k s.count ≡ false) → (k + 1 == s.count ≡ true) ⊎ (k + 1 == s.count ≡ false)
        → numbers ≡ pending (Some s) (k + 1) ++ starts_in (once_complete (if k + 1 == s.count then Some s else None) updates ds)
    go (inr n) which = absurd (some_none (rw n at due))
    go (inl y) (inl last) =
        let now : numbers ≡ s ∷ starts_in ds = rw y at h in
        rw (last, is_last k s.count last) now
    go (inl y) (inr more) =
        let now : numbers ≡ s ∷ starts_in ds = rw y at h in
        rw (more, goes_on k s.count y more) now

-- ---- together

left_with : (numbers first rest : List Start) → first ≡ [] → numbers ≡ first ++ rest → numbers ≡ rest
left_with numbers first rest e h = subst (λ (xs : List Start). numbers ≡ xs ++ rest) e h

at_length : (updates : List (List ℕ)) (words : List ℕ) → length (updates ++ words ∷ []) ≡ length updates + 1
at_length updates words = length-append updates (words ∷ [])

abbrev IsSo : List Moment → Type 0
IsSo moments = starts moments ≡ pending (start_so_far moments) (length (base_so_far moments)) ++ starts_in (deeds moments)

nothing_due : (before : List Moment) → None ≡ base_due before → IsSo before → starts before ≡ starts_in (deeds before)
nothing_due before due h =
    left_with (starts before) (pending (start_so_far before) (length (base_so_far before))) (starts_in (deeds before))
    (none_due (start_so_far before) (length (base_so_far before)) due) h

on_base : (e v : ℕ) (words : List ℕ) (before : List Moment) → Some (e, v) ≡ base_due before → IsSo before → IsSo (base e v words ∷ before)
on_base e v words before due h =
    rw (at_length (base_so_far before) words)
    (one_more (start_so_far before) (length (base_so_far before)) (e, v) (base_so_far before ++ words ∷ []) (deeds before) (starts before) due h)

is_so : (moments : List Moment) → StartLines moments → IsSo moments
is_so [] lines = refl
is_so (start e members held count ∷ before) lines =
    begun (record { epoch = e; members = members; held = held; count = count }) (deeds before) (starts before)
    (nothing_due before lines.0 (is_so before lines.1))
is_so (base e v words ∷ before) lines = on_base e v words before lines.0 (is_so before lines.1)
is_so (propose e v words ∷ before) lines = nothing_due before lines.0 (is_so before lines.1)
is_so (ack e v words ∷ before) lines = nothing_due before lines.0 (is_so before lines.1)
is_so (_ ∷ before) lines = nothing_due before lines.0 (is_so before lines.1)

pub starts_are_deeds : (moments : List Moment) → StartLines moments → base_due moments ≡ None → starts moments ≡ starts_in (deeds moments)
starts_are_deeds moments lines none = nothing_due moments (sym none) (is_so moments lines)
