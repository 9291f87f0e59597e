-- Orders that go again.
use Rattle.std.proofs.Common.{◌≡◌, ℕ, if◌then◌else◌, List, [], ◌∷◌, ◌++◌, Option, None, Some, Result, refl, ap, subst, sym, ◌∙◌}
use Rattle.std.specs.Prelude.{OnOk}
use Rattle.std.specs.List.{flat_map}
use Rattle.cl_base.specs.Limits.{most_nodes}
use Rattle.cl_base.specs.Numbers.{numbers_to}
use Rattle.cl_base.proofs.SetLemmas.{none_of_zero}
use Rattle.rgm_president.specs.State.{PresidentState}
use Rattle.node_model.specs.declared.output.Output.{Output}
use Rattle.node_model.specs.declared.presidency.Presidency.{Presidency}
use Rattle.node_model.specs.Groups.{order_again, order_again_to, order_at, orders_again_of}
use Rattle.node_groups.specs.Again.{orders_again_at}

none_each : (p : PresidentState) (ns : List ℕ) → flat_map (order_again 0 p) ns ≡ []
none_each p [] = refl
none_each p (n ∷ ns) = ap (λ os. os ++ flat_map (order_again 0 p) ns) (ap (λ b. if b then order_again_to n (order_at n p) else []) (none_of_zero n)) ∙ none_each p ns

none_by : (found : Option Presidency) → orders_again_at 0 found ≡ []
unfolding orders_again_of
none_by None = refl
none_by (Some p) = none_each p.groups (numbers_to p.groups.view.members most_nodes)

at_end : (os : List Output) → os ≡ os ++ []
at_end [] = refl
at_end (o ∷ os) = ap (λ rest. o ∷ rest) (at_end os)

-- none is due
pub none_again : (due : ℕ) (found : Option Presidency) (given : List Output) → due ≡ 0 → given ≡ given ++ orders_again_at due found
none_again due found given is = at_end given ∙ ap (λ os. given ++ os) (sym (ap (λ d. orders_again_at d found) is ∙ none_by found))

-- those of all members that are due
pub each_again : {T E : Type 0} → (due : ℕ) (found : Option Presidency) (p : Presidency) (listed : List ℕ) (result : Result T E) (given after : List Output)
    → found ≡ Some p → listed ≡ numbers_to p.groups.view.members most_nodes → OnOk result (after ≡ given ++ flat_map (order_again due p.groups) listed)
    → OnOk result (after ≡ given ++ orders_again_at due found)
unfolding orders_again_of
each_again due found p listed result given after some is h =
    subst (λ f. OnOk result (after ≡ given ++ orders_again_at due f)) (sym some)
    (subst (λ ns. OnOk result (after ≡ given ++ flat_map (order_again due p.groups) ns)) is h)
