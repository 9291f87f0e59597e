-- Orders that are given at another second, and a decision without any.
use Rattle.std.proofs.Common.{◌≡◌, ℕ, ◌+◌, List, [], ◌∷◌, ◌++◌, Option, None, Some, fold, length, length-append, refl, ap, sym, ◌∙◌, arith}
use Rattle.cl_base.specs.declared.method.Method.{Method}
use Rattle.ccr_tables.specs.State.{ConfigState}
use Rattle.rg_view.specs.declared.orders.Outstanding.{Outstanding}
use Rattle.rg_view.specs.Orders.{order_of}
use Rattle.rgm_president.specs.Decisions.{Turn, call_on, ordered, ordered_unless, with_turn}
use Rattle.rgm_president.specs.State.{PresidentState}
use Rattle.rgm_president.specs.Steady.{at_second}
use Rattle.rgm_president.proofs.Calls.{call_same}

-- the turn at another second
abbrev pub turn_at : ℕ → Turn → Turn
turn_at a t = record t { president = at_second a t.president }

not_empty : {X : Type 0} (xs : List X) (x : X) → xs ++ x ∷ [] ≡ [] → ⊥
not_empty xs x none =
    let long : length (xs ++ x ∷ []) ≡ 0 = ap length none in
    let parts : length (xs ++ x ∷ []) ≡ length xs + length (x ∷ []) = length-append xs (x ∷ []) in
    absurd (omega (arith, long, parts))

module _ (c : ConfigState) (resources : List (List ℕ)) where
  ordered_same : (a n : ℕ) (t : Turn) (call : Option (List ℕ × Method)) → ordered n (turn_at a t) call ≡ turn_at a (ordered n t call)
  ordered_same a n t None = refl
  ordered_same a n t (Some call) = refl

  unless_same : (a n : ℕ) (t : Turn) (o : Option Outstanding)
      → ordered_unless c resources n (turn_at a t) o ≡ turn_at a (ordered_unless c resources n t o)
  unless_same a n t (Some o) = refl
  unless_same a n t None =
      ap (λ call. ordered n (turn_at a t) call) (call_same c resources a t.president.view n)
      ∙ ordered_same a n t (call_on c resources t.president.view n)

  -- each turn
  turns_same : (a : ℕ) (t : Turn) (nodes : List ℕ)
      → fold (with_turn c resources) (turn_at a t) nodes ≡ turn_at a (fold (with_turn c resources) t nodes)
  unfolding with_turn
  turns_same a t [] = refl
  turns_same a t (n ∷ ns) =
      ap (λ u. fold (with_turn c resources) u ns) (unless_same a n t (order_of t.president.view.outstanding n))
      ∙ turns_same a (with_turn c resources t n) ns

  call_taken : (n : ℕ) (t : Turn) (call : Option (List ℕ × Method)) → (ordered n t call).orders ≡ [] → ordered n t call ≡ t
  call_taken n t None none = refl
  call_taken n t (Some call) none = absurd (not_empty t.orders _ none)

  turn_taken : (n : ℕ) (t : Turn) (o : Option Outstanding) → (ordered_unless c resources n t o).orders ≡ [] → ordered_unless c resources n t o ≡ t
  turn_taken n t (Some o) none = refl
  turn_taken n t None none = call_taken n t (call_on c resources t.president.view n) none

  -- where no order is given nothing changes
  pub none_given : (t : Turn) (nodes : List ℕ) → (fold (with_turn c resources) t nodes).orders ≡ []
      → fold (with_turn c resources) t nodes ≡ t
  unfolding with_turn
  none_given t [] none = refl
  none_given t (n ∷ ns) none =
      let rest : fold (with_turn c resources) (with_turn c resources t n) ns ≡ with_turn c resources t n = none_given (with_turn c resources t n) ns none in
      let here : (with_turn c resources t n).orders ≡ [] = ap (λ (u : Turn). u.orders) (sym rest) ∙ none in
      rest ∙ turn_taken n t (order_of t.president.view.outstanding n) here

  -- so it is at another second
  pub none_later : (a b : ℕ) (p : PresidentState) (nodes : List ℕ)
      → (fold (with_turn c resources) (record { president = at_second a p; orders = [] }) nodes).orders ≡ []
      → fold (with_turn c resources) (record { president = at_second b p; orders = [] }) nodes ≡ record { president = at_second b p; orders = [] }
  none_later a b p nodes none =
      turns_same b (record { president = at_second a p; orders = [] }) nodes
      ∙ ap (λ (t : Turn). turn_at b t) (none_given (record { president = at_second a p; orders = [] }) nodes none)
