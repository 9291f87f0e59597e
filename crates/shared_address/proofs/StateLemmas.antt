-- Addresses by their names.
use Rattle.std.proofs.Common.{◌≡◌, ℕ, Bool, true, false, cond, List, [], ◌∷◌, Option, None, Some, unwrap_or, IsSome, Result, Ok, Err, OnErr, refl, sym, ap, subst, ◌∙◌}
use Rattle.std.specs.Map.{lookup, remove_entry, set_value}
use Rattle.std.specs.Str.{bytes_eq}
use Rattle.std.specs.Cmp.Lexicographic.{same_text}
use Rattle.indexmap.specs.IndexMap.{insert_entry}
use Rattle.cl_base.specs.contracts.name.NamePartialEq.TheImpl.{eq-value}
use Rattle.shared_address.specs.States.{AddressState, fresh}
use Rattle.shared_address.specs.Choosing.{chosen, Request}
use Rattle.shared_address.specs.History.{requests_for, state_after, state_of, with_state, Asked, Dropped, Event, StandsFor}
use Rattle.cl_base.proofs.NameLemmas.{same_names, text_flips, texts_pass}

module _ (name : List ℕ) (es : List (List ℕ × AddressState)) where
  pub name_found : lookup (eq-value.it name) es ≡ lookup (bytes_eq name) es
  name_found = ap (λ (test : List ℕ → Bool). lookup test es) (λ i k. same_names name k i)

  pub name_removed : remove_entry (eq-value.it name) es ≡ remove_entry (bytes_eq name) es
  name_removed = ap (λ (test : List ℕ → Bool). remove_entry test es) (λ i k. same_names name k i)

  -- an address that is there takes the state
  pub name_set : (old s : AddressState) → Some old ≡ lookup (eq-value.it name) es → set_value (eq-value.it name) es s ≡ with_state es name s
  name_set old s h = ap (λ (test : List ℕ → Bool). set_value test es s) (λ i k. same_names name k i) ∙ put es (sym name_found ∙ sym h)
    where
      put : (es : List (List ℕ × AddressState)) → lookup (bytes_eq name) es ≡ Some old → set_value (bytes_eq name) es s ≡ insert_entry bytes_eq es name s
      put [] h = cc h
      put (e ∷ es) h = by (bytes_eq name e.0) h (put es)
        where
          by : (b : Bool) → cond b (Some e.1) (lookup (bytes_eq name) es) ≡ Some old → (lookup (bytes_eq name) es ≡ Some old → set_value (bytes_eq name) es s ≡ insert_entry bytes_eq es name s)
              → cond b ((e.0, s) ∷ es) (e ∷ set_value (bytes_eq name) es s) ≡ cond b ((e.0, s) ∷ es) (e ∷ insert_entry bytes_eq es name s)
          by true _ _ = refl
          by false h rest = ap (λ (xs : List (List ℕ × AddressState)). e ∷ xs) (rest h)

  -- with the state that it has, nothing changes
  pub state_kept : (old : AddressState) → Some old ≡ lookup (eq-value.it name) es → set_value (eq-value.it name) es old ≡ es
  state_kept old h = kept es (sym h)
    where
      kept : (es : List (List ℕ × AddressState)) → lookup (eq-value.it name) es ≡ Some old → set_value (eq-value.it name) es old ≡ es
      kept [] h = refl
      kept (e ∷ es) h = by (eq-value.it name e.0) h (kept es)
        where
          by : (b : Bool) → cond b (Some e.1) (lookup (eq-value.it name) es) ≡ Some old → (lookup (eq-value.it name) es ≡ Some old → set_value (eq-value.it name) es old ≡ es)
              → cond b ((e.0, old) ∷ es) (e ∷ set_value (eq-value.it name) es old) ≡ e ∷ es
          by true h _ = let same : e.1 ≡ old = cc h in λ i. (e.0, sym same i) ∷ es
          by false h rest = ap (λ (xs : List (List ℕ × AddressState)). e ∷ xs) (rest h)

  pub known_state : (old : AddressState) → Some old ≡ lookup (eq-value.it name) es → state_of es name ≡ old
  known_state old h = ap (λ (o : Option AddressState). unwrap_or o fresh) (sym name_found ∙ sym h)

  pub unknown_state : None ≡ lookup (eq-value.it name) es → state_of es name ≡ fresh
  unknown_state h = ap (λ (o : Option AddressState). unwrap_or o fresh) (sym name_found ∙ sym h)

  pub unknown_has_none : None ≡ lookup (eq-value.it name) es → IsSome (lookup (bytes_eq name) es) → ⊥
  unknown_has_none h some =
      let none : IsSome {T = AddressState} None = subst (λ (o : Option AddressState). IsSome o) (sym name_found ∙ sym h) some in
      cc none

  pub name_inserted : (s : AddressState) → insert_entry eq-value.it es name s ≡ with_state es name s
  name_inserted s = ap (λ (eq : List ℕ → List ℕ → Bool). insert_entry eq es name s) (λ i x y. same_names x y i)

-- a lookup afterwards, by names or by their bytes
pub found_at : {X : Type 0} (name other : List ℕ) (old new : List (List ℕ × X)) (found : Option X)
    → lookup (eq-value.it other) new ≡ cond (eq-value.it name other) found (lookup (eq-value.it other) old)
    → lookup (bytes_eq other) new ≡ cond (bytes_eq name other) found (lookup (bytes_eq other) old)
found_at {X} name other old new found h =
    let test : eq-value.it other ≡ bytes_eq other = λ i k. same_names other k i in
    sym (ap (λ (t : List ℕ → Bool). lookup t new) test) ∙ h ∙ ap (λ (b : Bool). cond b found (lookup (eq-value.it other) old)) (same_names name other)
    ∙ ap (λ (t : List ℕ → Bool). cond (bytes_eq name other) found (lookup t old)) test

put_first : (name q : List ℕ) (k : List ℕ) (x s : AddressState) (rest : Option AddressState) → bytes_eq name k ≡ true
    → cond (bytes_eq q k) (Some s) rest ≡ cond (bytes_eq name q) (Some s) (cond (bytes_eq q k) (Some x) rest)
put_first name q k x s rest h =
    let same : bytes_eq q k ≡ bytes_eq name q = text_flips q k ∙ ap (λ (m : List ℕ). bytes_eq m q) (sym (same_text name k (sym h))) in
    by (bytes_eq q k) (bytes_eq name q) same
  where
    by : (p q : Bool) → p ≡ q → cond p (Some s) rest ≡ cond q (Some s) (cond p (Some x) rest)
    by true true _ = refl
    by true false h = cc h
    by false true h = cc h
    by false false _ = refl

put_past : (name q : List ℕ) (k : List ℕ) (x s : AddressState) (rest : Option AddressState) → bytes_eq name k ≡ false
    → cond (bytes_eq q k) (Some x) (cond (bytes_eq name q) (Some s) rest) ≡ cond (bytes_eq name q) (Some s) (cond (bytes_eq q k) (Some x) rest)
put_past name q k x s rest h = by (bytes_eq q k) (bytes_eq name q) (λ there. ap (λ (m : List ℕ). bytes_eq name m) (same_text q k (sym there)) ∙ h)
  where
    by : (p r : Bool) → (p ≡ true → r ≡ false) → cond p (Some x) (cond r (Some s) rest) ≡ cond r (Some s) (cond p (Some x) rest)
    by true true h = cc (h refl)
    by true false _ = refl
    by false true _ = refl
    by false false _ = refl

found_put : (es : List (List ℕ × AddressState)) (name q : List ℕ) (s : AddressState)
    → lookup (bytes_eq q) (with_state es name s) ≡ cond (bytes_eq name q) (Some s) (lookup (bytes_eq q) es)
found_put [] name q s = ap (λ (b : Bool). cond b (Some s) None) (text_flips q name)
found_put (e ∷ es) name q s = by (bytes_eq name e.0) refl (found_put es name q s)
  where
    by : (b : Bool) → bytes_eq name e.0 ≡ b → lookup (bytes_eq q) (with_state es name s) ≡ cond (bytes_eq name q) (Some s) (lookup (bytes_eq q) es)
        → lookup (bytes_eq q) (cond b ((e.0, s) ∷ es) (e ∷ with_state es name s)) ≡ cond (bytes_eq name q) (Some s) (cond (bytes_eq q e.0) (Some e.1) (lookup (bytes_eq q) es))
    by true h rest = put_first name q e.0 e.1 s (lookup (bytes_eq q) es) h
    by false h rest = ap (λ (o : Option AddressState). cond (bytes_eq q e.0) (Some e.1) o) rest ∙ put_past name q e.0 e.1 s (lookup (bytes_eq q) es) h

unwrapped : (b : Bool) (found o : Option AddressState) → unwrap_or (cond b found o) fresh ≡ cond b (unwrap_or found fresh) (unwrap_or o fresh)
unwrapped true found o = refl
unwrapped false found o = refl

-- the states afterwards: this at the name, each other as it was
abbrev pub Puts : List (List ℕ × AddressState) → List (List ℕ × AddressState) → List ℕ → AddressState → Type 0
Puts old new name s = (q : List ℕ) → state_of new q ≡ cond (bytes_eq name q) s (state_of old q)

puts_state : (es : List (List ℕ × AddressState)) (name : List ℕ) (s : AddressState) → Puts es (with_state es name s) name s
puts_state es name s q = ap (λ (o : Option AddressState). unwrap_or o fresh) (found_put es name q s) ∙ unwrapped (bytes_eq name q) (Some s) (lookup (bytes_eq q) es)

pub puts_from : (old new : List (List ℕ × AddressState)) (name : List ℕ) (s : AddressState) → new ≡ with_state old name s → Puts old new name s
puts_from old new name s is q = ap (λ (es : List (List ℕ × AddressState)). state_of es q) is ∙ puts_state old name s q

pub puts_fresh : (old new : List (List ℕ × AddressState)) (name : List ℕ)
    → ((q : List ℕ) → lookup (eq-value.it q) new ≡ cond (eq-value.it name q) None (lookup (eq-value.it q) old)) → Puts old new name fresh
puts_fresh old new name h q = ap (λ (o : Option AddressState). unwrap_or o fresh) (found_at name q old new None (h q)) ∙ unwrapped (bytes_eq name q) None (lookup (bytes_eq q) old)

module _ (old new : List (List ℕ × AddressState)) (name : List ℕ) (s : AddressState) (puts : Puts old new name s) where
  pub state_is : state_of new name ≡ s
  state_is = puts name ∙ ap (λ (b : Bool). cond b s (state_of old name)) (texts_pass name name refl)

  pub others_stay : (q : List ℕ) → bytes_eq name q ≡ false → state_of new q ≡ state_of old q
  others_stay q h = puts q ∙ ap (λ (b : Bool). cond b s (state_of old q)) h

  pub stands_asked : (r : Request) → s ≡ (chosen (state_of old name) r).after → (events : List Event) → StandsFor old events → StandsFor new (Asked name r ∷ events)
  stands_asked r is events stands q = puts q ∙ by (bytes_eq name q) refl
    where
      by : (b : Bool) → bytes_eq name q ≡ b → cond b s (state_of old q) ≡ state_after (cond b (r ∷ requests_for q events) (requests_for q events))
      by true h = is ∙ ap (λ (x : AddressState). (chosen x r).after) (stands name ∙ ap (λ (m : List ℕ). state_after (requests_for m events)) (same_text name q (sym h)))
      by false h = stands q

  pub stands_dropped : s ≡ fresh → (events : List Event) → StandsFor old events → StandsFor new (Dropped name ∷ events)
  stands_dropped is events stands q = puts q ∙ by (bytes_eq name q)
    where
      by : (b : Bool) → cond b s (state_of old q) ≡ state_after (cond b [] (requests_for q events))
      by true = is
      by false = stands q

pub on_err_always : {T E Q : Type 0} (r : Result T E) → Q → OnErr r Q
on_err_always (Ok x) q = tt
on_err_always (Err e) q = q
