-- The order of what is asked: a clear alone has one.
use Rattle.std.proofs.Common.{◌≡◌, ℕ, [], ◌∷◌, Option, None, Some, refl, ap, sym, ◌∙◌}
use Rattle.std.proofs.lemmas.Option.{none-some, same_Some}
use Rattle.cl_base.specs.declared.command.Ask.{Ask}
use Rattle.cl_base.specs.declared.command.Ask.TheVariants.{Restart, Move, Remaster, Evacuate, Clear}
use Rattle.rgm_president.specs.Acts.{order_asked}
use Rattle.rgm_president.specs.State.{PresidentState, next_order}
use Rattle.wire.specs.declared.message.Order.{Order}
use Rattle.node_model.specs.Presidents.{orders_for}
use Rattle.node_presidents.specs.Presidents.{cleared_at}

none_at : (p : PresidentState) (ask : Ask) → cleared_at ask ≡ None → [] ≡ orders_for p ask
none_at p (Clear r n) h = absurd (none-some n (sym h))
none_at p (Restart r) h = refl
none_at p (Move r) h = refl
none_at p (Remaster g) h = refl
none_at p (Evacuate n) h = refl

none_of : (p : PresidentState) (ask : Ask) → order_asked p ask ≡ None → [] ≡ orders_for p ask
none_of p (Clear r n) h = absurd (none-some (next_order p r None) (sym h))
none_of p (Restart r) h = refl
none_of p (Move r) h = refl
none_of p (Remaster g) h = refl
none_of p (Evacuate n) h = refl

one_of : (p : PresidentState) (ask : Ask) (n : ℕ) (o : Order) → cleared_at ask ≡ Some n → order_asked p ask ≡ Some o → (n, o) ∷ [] ≡ orders_for p ask
one_of p (Clear r m) n o at is = ap (λ (k : ℕ). (k, o) ∷ []) (sym (same_Some m n at)) ∙ ap (λ (d : Order). (m, d) ∷ []) (sym (same_Some (next_order p r None) o is))
one_of p (Restart r) n o at is = absurd (none-some n at)
one_of p (Move r) n o at is = absurd (none-some n at)
one_of p (Remaster g) n o at is = absurd (none-some n at)
one_of p (Evacuate m) n o at is = absurd (none-some n at)

pub no_node : (p : PresidentState) (ask : Ask) (cleared : Option ℕ) → cleared ≡ cleared_at ask → cleared ≡ None → [] ≡ orders_for p ask
no_node p ask cleared at none = none_at p ask (sym at ∙ none)

pub no_order : (p : PresidentState) (ask : Ask) (order : Option Order) → order ≡ order_asked p ask → order ≡ None → [] ≡ orders_for p ask
no_order p ask order is none = none_of p ask (sym is ∙ none)

pub one_order : (p : PresidentState) (ask : Ask) (cleared : Option ℕ) (order : Option Order) (n : ℕ) (o : Order)
    → cleared ≡ cleared_at ask → order ≡ order_asked p ask → cleared ≡ Some n → order ≡ Some o → (n, o) ∷ [] ≡ orders_for p ask
one_order p ask cleared order n o at is here now = one_of p ask n o (sym at ∙ here) (sym is ∙ now)
