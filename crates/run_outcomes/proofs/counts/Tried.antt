-- The devices of the header that were seized: of each the result, and whether it is held.
use Rattle.std.specs.Prelude.{ℕ, ◌+◌, ◌≡◌, ◌<◌, ◌≤◌, ◌==◌, ◌&&◌, ◌||◌, ◌⊎◌, Bool, true, false, if◌then◌else◌, List, [], ◌∷◌, filter, fold, length, map, Some, is_some, suc}
use Rattle.std.specs.List.{find}
use Rattle.std.proofs.Common.{refl, sym, ap, subst, ◌∙◌, arith, inl, inr}
use Rattle.attempt_laws.specs.Laws.{is_held_in}
use Rattle.cl_base.proofs.SetLemmas.{none_of_zero}
use Rattle.cl_base.specs.Sets.{has, set_with}
use Rattle.cl_base.specs.declared.header.HeaderDevice.{HeaderDevice}
use Rattle.cmm_attempt.proofs.Basics.{false_true}
use Rattle.cmm_attempt.specs.Seizings.{all_settled, held_set, is_held_by}
use Rattle.cmm_attempt.specs.declared.attached.AttachedDevice.{AttachedDevice}
use Rattle.cmm_attempt.specs.declared.seizing.Seizing.{Seizing}
use Rattle.world_model.specs.First.{attached_from}
use Rattle.run_outcomes.proofs.counts.Places.{device_of, IsAt, at_low, not_same, above_next, same_next, next_above, same_is, has_set_with, turned}

-- ---- what was seized

head_same : (a b : AttachedDevice) (xs ys : List AttachedDevice) → a ∷ xs ≡ b ∷ ys → a ≡ b
head_same a b xs ys e = ap (λ zs. head_or a zs) e
  where
    head_or : AttachedDevice → List AttachedDevice → AttachedDevice
    head_or a [] = a
    head_or a (z ∷ zs) = z

rest_same : (a b : AttachedDevice) (xs ys : List AttachedDevice) → a ∷ xs ≡ b ∷ ys → xs ≡ ys
rest_same a b xs ys e = ap rest_of e
  where
    rest_of : List AttachedDevice → List AttachedDevice
    rest_of [] = []
    rest_of (z ∷ zs) = zs

no_cons : (a : AttachedDevice) (xs : List AttachedDevice) → [] ≡ a ∷ xs → ⊥
no_cons a xs e = cc

abbrev pub Lists : (AttachedDevice → Bool) → ℕ → List HeaderDevice → List Seizing → Type 0
Lists p k hs ds = map (λ (e : Seizing). e.attached) ds ≡ filter p (attached_from k hs)

-- the first of them is seized, or is not
data FirstIs (p : AttachedDevice → Bool) (k : ℕ) (x : HeaderDevice) (hs : List HeaderDevice) (ds : List Seizing) : Type 0 where
  Passed : (none : p (device_of k x) ≡ false) (rest : Lists p (k + 1) hs ds) → FirstIs p k x hs ds
  Taken : (e : Seizing) (es : List Seizing) (some : p (device_of k x) ≡ true) (is : ds ≡ e ∷ es) (at : e.attached ≡ device_of k x) (rest : Lists p (k + 1) hs es) → FirstIs p k x hs ds

first_is : (p : AttachedDevice → Bool) (k : ℕ) (x : HeaderDevice) (hs : List HeaderDevice) (ds : List Seizing) → Lists p k (x ∷ hs) ds → FirstIs p k x hs ds
first_is p k x hs ds h = by_test (p (device_of k x)) refl h
  where
    by_list : (es : List Seizing) → p (device_of k x) ≡ true → map (λ (e : Seizing). e.attached) es ≡ device_of k x ∷ filter p (attached_from (k + 1) hs) → FirstIs p k x hs es
    by_list [] some is = absurd (no_cons (device_of k x) (filter p (attached_from (k + 1) hs)) is)
    by_list (e ∷ es) some is = Taken e es some refl (head_same e.attached (device_of k x) _ _ is) (rest_same e.attached (device_of k x) _ _ is)

    by_test : (t : Bool) → p (device_of k x) ≡ t → map (λ (e : Seizing). e.attached) ds ≡ (if t then device_of k x ∷ filter p (attached_from (k + 1) hs) else filter p (attached_from (k + 1) hs)) → FirstIs p k x hs ds
    by_test true e h = by_list ds e h
    by_test false e h = Passed e h

at_number : (e : Seizing) (k : ℕ) (x : HeaderDevice) → e.attached ≡ device_of k x → e.attached.device ≡ k
at_number e k x is = ap (λ (a : AttachedDevice). a.device) is

none_held : (p : AttachedDevice → Bool) (k : ℕ) (hs : List HeaderDevice) (d : ℕ) (ds : List Seizing) → d < k → Lists p k hs ds → is_held_in ds d ≡ false
none_held p k [] d [] less h = refl
none_held p k [] d (e ∷ es) less h = absurd (no_cons e.attached (map (λ (z : Seizing). z.attached) es) (sym h))
none_held p k (x ∷ hs) d ds less h = by_first (λ zs rest. none_held p (k + 1) hs d zs (above_next d k less) rest) (first_is p k x hs ds h)
  where
    by_first : ((zs : List Seizing) → Lists p (k + 1) hs zs → is_held_in zs d ≡ false) → FirstIs p k x hs ds → is_held_in ds d ≡ false
    by_first next (Passed none rest) = next ds rest
    by_first next (Taken e es some is at rest) =
        ap (λ zs. is_held_in zs d) is
        ∙ (ap (λ b. (b && is_held_by e.result) || is_held_in es d) (ap (λ j. j == d) (at_number e k x at) ∙ not_same d k less) ∙ next es rest)

abbrev held_on : ℕ → List Seizing → ℕ
held_on start zs = fold (λ (z : ℕ) (e : Seizing). if is_held_by e.result then set_with z e.attached.device else z) start zs

held_from : (p : AttachedDevice → Bool) (k : ℕ) (hs : List HeaderDevice) (ds : List Seizing) (set d : ℕ) → 1 ≤ k → k + length hs ≤ 33 → Lists p k hs ds
    → has (held_on set ds) d ≡ (has set d || is_held_in ds d)
held_from p k [] [] set d low high h = sym (or_false (has set d))
  where
    or_false : (b : Bool) → (b || false) ≡ b
    or_false true = refl
    or_false false = refl
held_from p k [] (e ∷ es) set d low high h = absurd (no_cons e.attached (map (λ (z : Seizing). z.attached) es) (sym h))
held_from p k (x ∷ hs) ds set d low high h =
    by_first (λ zs start rest. held_from p (k + 1) hs zs start d (one_more k low) (same_room k (length hs) high) rest) (first_is p k x hs ds h)
  where
    one_more : (k : ℕ) → 1 ≤ k → 1 ≤ k + 1
    one_more k l = grind arith

    same_room : (k n : ℕ) → k + suc n ≤ 33 → (k + 1) + n ≤ 33
    same_room k n l = omega (arith, l)

    room : (k n : ℕ) → k + suc n ≤ 33 → k ≤ 32
    room k n l = omega (arith, l)

    by_test : (n : ℕ) (t rest : Bool) → 1 ≤ n → n ≤ 32 → (has (if t then set_with set n else set) d || rest) ≡ (has set d || (((n == d) && t) || rest))
    by_test n true rest low high = ap (λ b. b || rest) (has_set_with set n d low high ∙ ap (λ b. b || has set d) (turned d n)) ∙ by_bools (n == d) (has set d) rest
      where
        by_bools : (a b c : Bool) → ((a || b) || c) ≡ (b || ((a && true) || c))
        by_bools true true c = refl
        by_bools true false c = refl
        by_bools false true c = refl
        by_bools false false c = refl
    by_test n false rest low high = by_bools (n == d) (has set d) rest
      where
        by_bools : (a b c : Bool) → (b || c) ≡ (b || ((a && false) || c))
        by_bools true true c = refl
        by_bools true false c = refl
        by_bools false true c = refl
        by_bools false false c = refl

    by_first : ((zs : List Seizing) (start : ℕ) → Lists p (k + 1) hs zs → has (held_on start zs) d ≡ (has start d || is_held_in zs d)) → FirstIs p k x hs ds → has (held_on set ds) d ≡ (has set d || is_held_in ds d)
    by_first next (Passed none rest) = next ds set rest
    by_first next (Taken e es some is at rest) =
        ap (λ zs. has (held_on set zs) d) is
        ∙ (next es (if is_held_by e.result then set_with set e.attached.device else set) rest
        ∙ (by_test e.attached.device (is_held_by e.result) (is_held_in es d) (subst (λ n. 1 ≤ n) (sym (at_number e k x at)) low) (subst (λ n. n ≤ 32) (sym (at_number e k x at)) (room k (length hs) high))
        ∙ ap (λ zs. has set d || is_held_in zs d) (sym is)))

-- the entry of device d, whose seizing has ended
pub record EntryOf (ds : List Seizing) (d : ℕ) : Type 0 where
  pub entry : Seizing
  pub found : find (λ (e : Seizing). e.attached.device == d) ds ≡ Some entry
  pub held : is_held_in ds d ≡ is_held_by entry.result
  pub settled : is_some entry.result ≡ true

and_parts : (a b : Bool) → (a && b) ≡ true → (a ≡ true) × (b ≡ true)
and_parts true b h = (refl, h)
and_parts false b h = absurd (false_true h)

pub entry_at : (p : AttachedDevice → Bool) (k : ℕ) (hs : List HeaderDevice) (d : ℕ) (a : AttachedDevice) (ds : List Seizing) → IsAt k hs d a → Lists p k hs ds → all_settled ds ≡ true
    → ((p a ≡ false) × (is_held_in ds d ≡ false)) ⊎ ((p a ≡ true) × EntryOf ds d)
entry_at p k [] d a ds at h settled = absurd at
entry_at p k (x ∷ hs) d a ds (inl here) h settled = by_first (first_is p k x hs ds h)
  where
    by_first : FirstIs p k x hs ds → ((p a ≡ false) × (is_held_in ds d ≡ false)) ⊎ ((p a ≡ true) × EntryOf ds d)
    by_first (Passed none rest) = inl (ap p here.1 ∙ none, none_held p (k + 1) hs d ds (same_next d k here.0) rest)
    by_first (Taken e es some is number rest) =
        let at : (e.attached.device == d) ≡ true = same_is e.attached.device d (at_number e k x number ∙ sym here.0) in
        inr (
          ap p here.1 ∙ some,
          record {
            entry = e;
            found = ap (λ zs. find (λ (z : Seizing). z.attached.device == d) zs) is ∙ ap (λ b. if b then Some e else find (λ (z : Seizing). z.attached.device == d) es) at;
            held = ap (λ zs. is_held_in zs d) is
                ∙ (ap (λ b. (b && is_held_by e.result) || is_held_in es d) at ∙ (ap (λ b. is_held_by e.result || b) (none_held p (k + 1) hs d es (same_next d k here.0) rest) ∙ or_false (is_held_by e.result)));
            settled = (and_parts (is_some e.result) (all_settled es) (subst (λ zs. all_settled zs ≡ true) is settled)).0;
          },
        )
      where
        or_false : (b : Bool) → (b || false) ≡ b
        or_false true = refl
        or_false false = refl
entry_at p k (x ∷ hs) d a ds (inr there) h settled = by_first (λ zs rest all. entry_at p (k + 1) hs d a zs there rest all) (first_is p k x hs ds h)
  where
    by_first : ((zs : List Seizing) → Lists p (k + 1) hs zs → all_settled zs ≡ true → ((p a ≡ false) × (is_held_in zs d ≡ false)) ⊎ ((p a ≡ true) × EntryOf zs d)) → FirstIs p k x hs ds → ((p a ≡ false) × (is_held_in ds d ≡ false)) ⊎ ((p a ≡ true) × EntryOf ds d)
    by_first next (Passed none rest) = next ds rest settled
    by_first next (Taken e es some is number rest) =
        let other : (e.attached.device == d) ≡ false = ap (λ j. j == d) (at_number e k x number) ∙ next_above k d (at_low (k + 1) hs d a there) in
        let held : is_held_in ds d ≡ is_held_in es d = ap (λ zs. is_held_in zs d) is ∙ ap (λ b. (b && is_held_by e.result) || is_held_in es d) other in
        with_first held (ap (λ zs. find (λ (z : Seizing). z.attached.device == d) zs) is ∙ ap (λ b. if b then Some e else find (λ (z : Seizing). z.attached.device == d) es) other)
        (next es rest (and_parts (is_some e.result) (all_settled es) (subst (λ zs. all_settled zs ≡ true) is settled)).1)
      where
        with_first : is_held_in ds d ≡ is_held_in es d → find (λ (z : Seizing). z.attached.device == d) ds ≡ find (λ (z : Seizing). z.attached.device == d) es
            → ((p a ≡ false) × (is_held_in es d ≡ false)) ⊎ ((p a ≡ true) × EntryOf es d) → ((p a ≡ false) × (is_held_in ds d ≡ false)) ⊎ ((p a ≡ true) × EntryOf ds d)
        with_first held found (inl none) = inl (none.0, held ∙ none.1)
        with_first held found (inr h) = inr (h.0, record { entry = h.1.entry; found = found ∙ h.1.found; held = held ∙ h.1.held; settled = h.1.settled })

pub held_at : (p : AttachedDevice → Bool) (hs : List HeaderDevice) (ds : List Seizing) (d : ℕ) → length hs ≤ 16 → Lists p 1 hs ds → has (held_set ds) d ≡ is_held_in ds d
held_at p hs ds d few h = held_from p 1 hs ds 0 d (omega arith) (room (length hs) few) h ∙ ap (λ b. b || is_held_in ds d) (none_of_zero d)
  where
    room : (n : ℕ) → n ≤ 16 → 1 + n ≤ 33
    room n l = omega (arith, l)
