-- A state that is set is found at its place, and no other place's changes.
use Rattle.std.proofs.Common.{◌≡◌, ℕ, Bool, true, false, cond, ◌||◌, List, [], ◌∷◌, Option, None, Some, fold, refl, sym, ap, ◌∙◌}
use Rattle.std.specs.List.{find, list_any}
use Rattle.std.specs.Option.{unwrap_or}
use Rattle.rg_props.specs.declared.group.Resource.{Resource}
use Rattle.rg_props.specs.Lookups.{named}
use Rattle.rg_props.specs.Table.{GroupTable}
use Rattle.cl_base.specs.Sets.{has}
use Rattle.rg_view.specs.declared.name_at.NameAt.{NameAt}
use Rattle.rg_view.specs.declared.states.ResourceAt.{ResourceAt}
use Rattle.rg_view.specs.Goals.{goal_of}
use Rattle.rg_view.specs.PlaceLaws.{one_place, same_place_equiv}
use Rattle.rg_view.specs.Places.{place, same_place}
use Rattle.rg_view.specs.States.{is_state_of, place_of_state, state_at, state_of, states_with, unmarked}
use Rattle.rgm_state.specs.Changes.{unfaulted}
use Rattle.rgm_president.specs.Goals.{ended_for, ended_of, ended_outside}
use Rattle.sequencer_laws.specs.Flags.{Flags}
use Rattle.sequencer_laws.specs.Views.{flags_of}

picked : (a b : Bool) (s u : ResourceAt) → a ≡ b → unwrap_or (cond a (Some s) None) u ≡ cond b s u
picked a true s u e = rw e refl
picked a false s u e = rw e refl

taken_over : (a b c : Bool) (s y u : ResourceAt) (rest : Option ResourceAt) → a ≡ b → c ≡ b → unwrap_or (cond a (Some s) rest) u ≡ cond b s (unwrap_or (cond c (Some y) rest) u)
taken_over a true c s y u rest ea ec = rw ea refl
taken_over a false c s y u rest ea ec = rw (ea, ec) refl

module _ (s : ResourceAt) (name : List ℕ) (n : ℕ) where
  abbrev own : Bool
  own = same_place (place_of_state s) (place name n)

  asked : same_place (place name n) (place_of_state s) ≡ own
  asked = same_place_equiv.symm (place name n) (place_of_state s)

  passed : (y : ResourceAt) (b : Bool) (rest old : Option ResourceAt) → is_state_of s.resource s.node y ≡ false → is_state_of name n y ≡ b
      → unwrap_or rest (unmarked name n) ≡ cond own s (unwrap_or old (unmarked name n))
      → unwrap_or (cond b (Some y) rest) (unmarked name n) ≡ cond own s (unwrap_or (cond b (Some y) old) (unmarked name n))
  passed y true rest old other here ih =
      let not_own : own ≡ false = ap (same_place (place_of_state s)) (one_place (place name n) (place_of_state y) here) ∙ other in
      rw not_own refl
  passed y false rest old other here ih = ih

  pub set_at : (xs : List ResourceAt) → state_of (states_with xs s) name n ≡ cond own s (state_of xs name n)
  set_at [] = picked (same_place (place name n) (place_of_state s)) own s (unmarked name n) asked
  set_at (y ∷ ys) = by (is_state_of s.resource s.node y) refl (set_at ys)
    where
      by : (b : Bool) → is_state_of s.resource s.node y ≡ b → state_of (states_with ys s) name n ≡ cond own s (state_of ys name n)
          → state_of (cond b (s ∷ ys) (y ∷ states_with ys s)) name n ≡ cond own s (state_of (y ∷ ys) name n)
      by true is ih =
          taken_over (same_place (place name n) (place_of_state s)) own (is_state_of name n y) s y (unmarked name n) (find (is_state_of name n) ys) asked
          (ap (same_place (place name n)) (sym (one_place (place_of_state s) (place_of_state y) is)) ∙ asked)
      by false is ih = passed y (is_state_of name n y) (find (is_state_of name n) (states_with ys s)) (find (is_state_of name n) ys) is refl ih

-- a state stands at the place that it is looked up at
pub at_place : (xs : List ResourceAt) (r : List ℕ) (n : ℕ) → place_of_state (state_of xs r n) ≡ place r n
at_place [] r n = refl
at_place (y ∷ ys) r n = by (is_state_of r n y) refl (at_place ys r n)
  where
    by : (b : Bool) → is_state_of r n y ≡ b → place_of_state (state_of ys r n) ≡ place r n → place_of_state (unwrap_or (cond b (Some y) (find (is_state_of r n) ys)) (unmarked r n)) ≡ place r n
    by true is ih = sym (one_place (place r n) (place_of_state y) is)
    by false is ih = ih

-- One that has the flags that were there before changes no flag.
pub flags_kept : (xs : List ResourceAt) (s : ResourceAt) → flags_of s ≡ flags_of (state_of xs s.resource s.node) → (name : List ℕ) (n : ℕ)
    → flags_of (state_of (states_with xs s) name n) ≡ flags_of (state_of xs name n)
flags_kept xs s same name n = ap flags_of (set_at s name n xs) ∙ by (own s name n) refl
  where
    by : (b : Bool) → own s name n ≡ b → flags_of (cond b s (state_of xs name n)) ≡ flags_of (state_of xs name n)
    by true is = same ∙ ap (λ (q : NameAt). flags_of (state_of xs q.name q.node)) (one_place (place_of_state s) (place name n) is)
    by false is = refl

-- What the end of one mark leaves as it is, the end of all leaves.
module _ {V : Type 0} (what : List ResourceAt → V) (kept : (r : List ℕ) (xs : List ResourceAt) (k : ℕ) → what (unfaulted r xs k) ≡ what xs) where
  outside_keeps : (goals : List (List ℕ × ℕ)) (group r : List ℕ) (ns : List ℕ) (xs : List ResourceAt) → what (fold (ended_outside goals group r) xs ns) ≡ what xs
  outside_keeps goals group r [] xs = refl
  outside_keeps goals group r (k ∷ ks) xs = outside_keeps goals group r ks (ended_outside goals group r xs k) ∙ by (has (goal_of goals group) k)
    where
      by : (b : Bool) → what (cond b xs (unfaulted r xs k)) ≡ what xs
      by true = refl
      by false = kept r xs k

  all_ended_keep : (t : GroupTable) (goals : List (List ℕ × ℕ)) (members : List ℕ) (rs : List (List ℕ)) (xs : List ResourceAt)
      → what (fold (ended_for t goals members) xs rs) ≡ what xs
  all_ended_keep t goals members [] xs = refl
  all_ended_keep t goals members (r ∷ rs) xs = all_ended_keep t goals members rs (ended_for t goals members xs r) ∙ by (named t.resources r)
    where
      by : (o : Option Resource) → what (ended_of goals members r xs o) ≡ what xs
      by None = refl
      by (Some x) = outside_keeps goals x.group r members xs

-- The end of a mark changes no flag.
module _ (name : List ℕ) (n : ℕ) where
  abbrev flags_in : List ResourceAt → Flags
  flags_in xs = flags_of (state_of xs name n)

  unfaulted_keeps : (r : List ℕ) (xs : List ResourceAt) (k : ℕ) → flags_in (unfaulted r xs k) ≡ flags_in xs
  unfaulted_keeps r xs k = by (state_of xs r k).faulted
    where
      cleared : ResourceAt
      cleared = record (state_of xs r k) { faulted = false }

      by : (b : Bool) → flags_in (cond b (states_with xs cleared) xs) ≡ flags_in xs
      by true = flags_kept xs cleared (ap (λ (q : NameAt). flags_of (state_of xs q.name q.node)) (sym (at_place xs r k))) name n
      by false = refl

  pub ended_keeps : (t : GroupTable) (goals : List (List ℕ × ℕ)) (members : List ℕ) (rs : List (List ℕ)) (xs : List ResourceAt)
      → flags_in (fold (ended_for t goals members) xs rs) ≡ flags_in xs
  ended_keeps t goals members rs xs = all_ended_keep flags_in unfaulted_keeps t goals members rs xs

-- Nor does it change what a test tells of any state that does not look at the mark.
module _ (test : ResourceAt → Bool) (blind : (s : ResourceAt) → test (record s { faulted = false }) ≡ test s) where
  any_kept : (s y : ResourceAt) (xs : List ResourceAt) → state_at xs s.resource s.node ≡ Some y → test s ≡ test y → list_any test (states_with xs s) ≡ list_any test xs
  any_kept s y [] found same = cc found
  any_kept s y (x ∷ xs) found same = by (is_state_of s.resource s.node x) found (λ rest. any_kept s y xs rest same)
    where
      inside : Some x ≡ Some y → x ≡ y
      inside h = cc h

      by : (b : Bool) → cond b (Some x) (state_at xs s.resource s.node) ≡ Some y → (state_at xs s.resource s.node ≡ Some y → list_any test (states_with xs s) ≡ list_any test xs)
          → list_any test (cond b (s ∷ xs) (x ∷ states_with xs s)) ≡ list_any test (x ∷ xs)
      by true found rest = ap (λ (b : Bool). b || list_any test xs) (same ∙ sym (ap test (inside found)))
      by false found rest = ap (λ (b : Bool). test x || b) (rest found)

  any_unfaulted : (r : List ℕ) (xs : List ResourceAt) (k : ℕ) → list_any test (unfaulted r xs k) ≡ list_any test xs
  any_unfaulted r xs k = by (state_at xs r k) refl
    where
      without : Option ResourceAt → List ResourceAt
      without o = cond (unwrap_or o (unmarked r k)).faulted (states_with xs (record (unwrap_or o (unmarked r k)) { faulted = false })) xs

      set : (y : ResourceAt) → state_at xs r k ≡ Some y → (b : Bool) → list_any test (cond b (states_with xs (record y { faulted = false })) xs) ≡ list_any test xs
      set y is false = refl
      set y is true =
          let place : place_of_state y ≡ place r k = ap (λ (o : Option ResourceAt). place_of_state (unwrap_or o (unmarked r k))) (sym is) ∙ at_place xs r k in
          any_kept (record y { faulted = false }) y xs (ap (λ (q : NameAt). state_at xs q.name q.node) place ∙ is) (blind y)

      by : (o : Option ResourceAt) → state_at xs r k ≡ o → list_any test (unfaulted r xs k) ≡ list_any test xs
      by None is = ap (λ (o : Option ResourceAt). list_any test (without o)) is
      by (Some y) is = ap (λ (o : Option ResourceAt). list_any test (without o)) is ∙ set y is y.faulted

  pub any_ended : (t : GroupTable) (goals : List (List ℕ × ℕ)) (members : List ℕ) (rs : List (List ℕ)) (xs : List ResourceAt)
      → list_any test (fold (ended_for t goals members) xs rs) ≡ list_any test xs
  any_ended t goals members rs xs = all_ended_keep (list_any test) any_unfaulted t goals members rs xs
