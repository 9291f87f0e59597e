-- What the calls rest on after an order was given.
use Rattle.std.proofs.Common.{◌≡◌, ℕ, ◌+◌, List, Option, None, Some, Result, Ok, Err, IfOk, IfSome, refl, ap}
use Rattle.cl_base.specs.declared.method.Method.{Method}
use Rattle.ccr_tables.specs.State.{ConfigState}
use Rattle.rg_view.specs.Orders.{order_of}
use Rattle.sequencer.specs.Fields.{OutlookFields}
use Rattle.sequencer.specs.Shown.{FollowsOrder, Shows}
use Rattle.rgm_president.specs.Decisions.{outlook_over}
use Rattle.rgm_president.specs.State.{PresidentState, with_order}

some_more : {A : Type 0} (P Q : A → Type 0) → ((x : A) → P x → Q x) → (left : Option A) → IfSome left P → IfSome left Q
some_more P Q more None h = h
some_more P Q more (Some x) h = more x h

ok_more : {A E : Type 0} (P Q : A → Type 0) → ((x : A) → P x → Q x) → (r : Result (Option A) E) → IfOk r (λ left. IfSome left P) → IfOk r (λ left. IfSome left Q)
ok_more P Q more (Ok left) h = some_more P Q more left h
ok_more P Q more (Err e) h = h

-- It shows what the rule gives, as it did before.
pub holds_after : {E : Type 0} (c : ConfigState) (resources : List (List ℕ)) (p q : PresidentState) (n : ℕ) (r : List ℕ) (m : Option Method) (old : OutlookFields)
    → order_of p.view.outstanding n ≡ None → Shows c.groups old (outlook_over c resources p.view) → q ≡ with_order p n r m
    → (found : Result (Option OutlookFields) E) → IfOk found (λ left. IfSome left (λ o. FollowsOrder c.groups c.types c.limits resources r q.view old o))
    → IfOk found (λ left. IfSome left (λ o. Shows c.groups o (outlook_over c resources q.view)))
holds_after c resources p q n r m old free shows is found follows =
    ok_more (λ o. FollowsOrder c.groups c.types c.limits resources r q.view old o) (λ o. Shows c.groups o (outlook_over c resources q.view))
    (λ o f. f p.view (record { node = n; number = p.given + 1; resource = r; method = m }) (ap (λ (x : PresidentState). x.view) is) refl free shows) found follows
