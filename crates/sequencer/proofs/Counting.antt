-- On which members a group is up, counted in one pass over the resources or member by member: it is the same.
use Rattle.std.proofs.Common.{◌≡◌, ◌≢◌, ◌⊎◌, inl, inr, ℕ, zero, suc, ◌+◌, ◌<◌, arith, get_or, ◌==◌, Bool, true, false, not, ◌&&◌, ◌||◌, List, [], ◌∷◌, length, drop, filter, refl, sym, ap, ◌∙◌}
use Rattle.std.proofs.Math.Dec.{eqb}
use Rattle.std.proofs.lemmas.Bool.{eq-eqb}
use Rattle.std.proofs.lemmas.Bool.Decides.{eqb_tells}
use Rattle.std.specs.List.{list_any, slice_get}
use Rattle.std.specs.Option.{option_map_or}
use Rattle.std.specs.Str.{bytes_eq}
use Rattle.cl_base.specs.Sets.{has}
use Rattle.placement.proofs.Scans.{any_at, any_over}
use Rattle.rg_props.specs.declared.group.Resource.{Resource}
use Rattle.rg_props.specs.Table.{GroupTable}
use Rattle.rg_view.specs.declared.view.GroupView.{GroupView}
use Rattle.sequencer.specs.Counted.{is_up_among, is_up_at, is_up_by}
use Rattle.sequencer.specs.Standing.{is_group_up, is_up, is_up_in}
use Rattle.sequencer.specs.Starting.{is_up_elsewhere, others_up}

or_next : (a b c w : Bool) → (a || (b || c)) ≡ w → ((a || b) || c) ≡ w
or_next true b c w h = h
or_next false b c w h = h

or_none : (a w : Bool) → (a || false) ≡ w → a ≡ w
or_none true w h = h
or_none false w h = h

-- the step of the loop, and its end
pub goes_on : {X : Type 0} (p : X → Bool) (xs : List X) (i : ℕ) (a b w : Bool) → (a || list_any p (drop i xs)) ≡ w → b ≡ (a || option_map_or p (slice_get xs i) false)
    → (b || list_any p (drop (i + 1) xs)) ≡ w
goes_on p xs i a b w h e =
    ap (λ (c : Bool). c || list_any p (drop (i + 1) xs)) e
    ∙ or_next a (option_map_or p (slice_get xs i) false) (list_any p (drop (i + 1) xs)) w (ap (λ (c : Bool). a || c) (sym (any_at p xs i)) ∙ h)

pub at_end : {X : Type 0} (p : X → Bool) (xs : List X) (i : ℕ) (a w : Bool) → (a || list_any p (drop i xs)) ≡ w → i ≡ length xs → a ≡ w
at_end p xs i a w h e = or_none a w (ap (λ (c : Bool). a || c) (sym (any_over p xs i e)) ∙ h)

-- the element of the loop
pub at_item : {X : Type 0} (p : X → Bool) (xs : List X) (i : ℕ) (x : X) → i < length xs → x ≡ get_or xs i x → p x ≡ option_map_or p (slice_get xs i) false
at_item p [] i x lt e = absurd (omega arith)
at_item p (y ∷ ys) zero x lt e = ap p e
at_item p (y ∷ ys) (suc i) x lt e = at_item p ys i x (omega arith) e

-- ---- a member is where it is

same_any : {X : Type 0} (p q : X → Bool) → ((x : X) → p x ≡ q x) → (xs : List X) → list_any p xs ≡ list_any q xs
same_any p q same [] = refl
same_any p q same (x ∷ xs) = rw (same x, same_any p q same xs) refl

-- whether m is among these
abbrev is_in : ℕ → List ℕ → Bool
is_in m ns = list_any (λ n. m == n) ns

first_is_in : (m : ℕ) (ns : List ℕ) → is_in m (m ∷ ns) ≡ true
first_is_in m ns = ap (λ (b : Bool). b || is_in m ns) (eq-eqb m m refl)

or_true : (b : Bool) → (b || true) ≡ true
or_true true = refl
or_true false = refl

later_is_in : (m n : ℕ) (ns : List ℕ) → is_in m ns ≡ true → is_in m (n ∷ ns) ≡ true
later_is_in m n ns t = ap (λ (b : Bool). (m == n) || b) t ∙ or_true (m == n)

both : (a u : Bool) → (u || (a && u)) ≡ u
both true true = refl
both true false = refl
both false true = refl
both false false = refl

module _ (v : GroupView) (name : List ℕ) (m : ℕ) where
  at_member : (n : ℕ) (among rest : Bool) → rest ≡ (among && is_up v name m) → (is_up_at v name m n || rest) ≡ (((m == n) || among) && is_up v name m)
  at_member n among rest e = by (eqb_tells m n)
    where
      by : ((eqb m n ≡ true) × (m ≡ n)) ⊎ ((eqb m n ≡ false) × (m ≢ n)) → (is_up_at v name m n || rest) ≡ (((m == n) || among) && is_up v name m)
      by (inl tells) = rw (tells.0, e, sym (ap (is_up v name) tells.1)) (both among (is_up v name m))
      by (inr tells) = rw (tells.0, e) refl

  up_at_members : (members : List ℕ) → is_up_among v members name m ≡ (is_in m members && is_up v name m)
  up_at_members [] = refl
  up_at_members (n ∷ members) = at_member n (is_in m members) (is_up_among v members name m) (up_at_members members)

module _ (t : GroupTable) (v : GroupView) (members group : List ℕ) where
  same_up : (m : ℕ) → is_in m members ≡ true → (e : List ℕ × Resource) → is_up_by v members group m e ≡ is_up_in v group m e
  same_up m among e = ap (λ (b : Bool). bytes_eq e.1.group group && b) (up_at_members v e.0 m members ∙ ap (λ (b : Bool). b && is_up v e.0 m) among)

  is_up_so : (m : ℕ) → is_in m members ≡ true → list_any (is_up_by v members group m) t.resources ≡ is_group_up t v group m
  unfolding is_group_up
  is_up_so m among = same_any (is_up_by v members group m) (is_up_in v group m) (same_up m among) t.resources

same_kept : (p q : ℕ → Bool) (ms : List ℕ) → ((m : ℕ) → is_in m ms ≡ true → p m ≡ q m) → filter p ms ≡ filter q ms
same_kept p q [] same = refl
same_kept p q (m ∷ ms) same =
    rw (same m (first_is_in m ms), same_kept p q ms (λ k among. same k (later_is_in k m ms among))) refl

-- counted in the set, and member by member
pub same_count : (t : GroupTable) (v : GroupView) (members group : List ℕ) (n up : ℕ) → ((m : ℕ) → has up m ≡ list_any (is_up_by v members group m) t.resources)
    → length (filter (λ m. not (m == n) && has up m) members) ≡ others_up t v members group n
same_count t v members group n up is =
    ap (λ (ms : List ℕ). length ms)
    (same_kept (λ m. not (m == n) && has up m) (is_up_elsewhere t v group n) members
    (λ m among. ap (λ (b : Bool). not (m == n) && b) (is m ∙ is_up_so t v members group m among)))
