-- What a tick leaves to do.
use Rattle.std.proofs.Common.{◌≡◌, ℕ, true, false, ◌++◌, Option, Some, None, is_some, refl, ap, sym, subst, ◌∙◌}
use Rattle.cl_base.specs.declared.method.Outcome.{Outcome}
use Rattle.heartbeats.specs.State.{State}
use Rattle.heartbeats.specs.Views.{ticked}
use Rattle.sent_orders.specs.Ticks as sent
use Rattle.node_model.specs.declared.cluster.Cluster.{Cluster}
use Rattle.node_model.specs.declared.input.Input.TheVariants.{Tick}
use Rattle.node_model.specs.declared.node.UpNode.{UpNode}
use Rattle.node_model.specs.declared.presidency.Presidency.{Presidency}
use Rattle.node_model.specs.Configurations.{configured_at}
use Rattle.node_model.specs.Deciding.{deciding}
use Rattle.node_model.specs.Groups.{orders_again_by, orders_again_of, own_order, own_turn}
use Rattle.node_model.specs.Plans.{Plan, and_then}
use Rattle.node_model.specs.Plans.Plan.{Stays, Falls, Says, Saves}
use Rattle.node_model.specs.Ticks.{again_output, attempt_ticked, going_again, later}
use Rattle.node_model.specs.Updates.{later_presidency, prepares_again, with_later}
use Rattle.node_groups.specs.Again.{orders_again_at}
use Rattle.node_updates.specs.Again.{orders_due}
use Rattle.node_updates.specs.declared.again.Again.{Again}
use Rattle.node.specs.declared.due.AttemptDue.{AttemptDue}
use Rattle.node.specs.declared.due.Due.TheVariants.{Attempt, Govern}
use Rattle.node.specs.Due.{again_of, attempt_of, attempt_rest, governed, rest_of, sent_and_decided}
use Rattle.node.specs.Ticks.{left_of}
use Rattle.node.proofs.Again.{beating, same_prepares}

-- plans that begin alike and go on alike are alike
same_after : (p : Plan) (f g : UpNode → Plan) → ((x : UpNode) → f x ≡ g x) → and_then p f ≡ and_then p g
same_after (Stays x) f g same = same x
same_after (Falls why) f g same = refl
same_after (Says os rest) f g same = ap (λ r. Says os r) (same_after rest f g same)
same_after (Saves s rest) f g same = ap (λ r. Saves s r) (same_after rest f g same)

same_orders : (p : Presidency) (office : Option Presidency) (due : ℕ) → due ≡ sent.due p.sent → orders_again_by (Some p) office ≡ orders_again_at due office
same_orders p None due is = refl
same_orders p (Some q) due is = ap (λ d. orders_again_of d q.groups) (sym is)

same_output : (x y : UpNode) (p : Presidency) (again : Again) → x.presidency ≡ Some p → again.prepares.items ≡ prepares_again x → again.orders ≡ sent.due p.sent
    → again_output x y ≡ again_of again y
same_output x y p again office prepares orders =
    ap (λ o. prepares_again x ++ orders_again_by o y.presidency) office
    ∙ ap (λ os. prepares_again x ++ os) (same_orders p y.presidency again.orders orders)
    ∙ ap (λ os. os ++ orders_again_at again.orders y.presidency) (sym prepares)

-- a president governs
by_office : (c : Cluster) (me : ℕ) (outcome : Outcome) (x : UpNode) (again : Again) (office : Option Presidency) → x.presidency ≡ office → is_some (later_presidency office) ≡ true
    → again.prepares.items ≡ prepares_again x → again.orders ≡ orders_due office
    → left_of c me outcome x office ≡ governed c me outcome again (later c x)
by_office c me outcome x again None is some prepares orders = absurd (cc)
by_office c me outcome x again (Some p) is some prepares orders =
    ap (λ plan. and_then plan (attempt_of c me))
    (same_after (own_turn c me outcome (later c x) (own_order me (later c x))) (going_again c me x) (sent_and_decided c me again)
    (λ y. ap (λ os. Says os (deciding c me y)) (same_output x y p again is prepares orders)))

later_is : (c : Cluster) (x y : UpNode) (set : ℕ) (beats : State) → set ≡ configured_at c x → beats ≡ ticked x.beats set → y ≡ with_later (beating x beats) → y ≡ later c x
later_is c x y set beats configured is now = now ∙ ap (λ b. with_later (beating x b)) (is ∙ ap (λ s. ticked x.beats s) configured)

pub governs_rest : (c : Cluster) (me : ℕ) (outcome : Outcome) (x y : UpNode) (set : ℕ) (beats : State) (again : Again) → set ≡ configured_at c x → beats ≡ ticked x.beats set → y ≡ with_later (beating x beats)
    → is_some y.presidency ≡ true → again.prepares.items ≡ prepares_again (beating x beats) → again.orders ≡ orders_due x.presidency
    → left_of c me outcome x x.presidency ≡ rest_of c me outcome y Tick (Govern again)
governs_rest c me outcome x y set beats again configured is now some prepares orders =
    by_office c me outcome x again x.presidency refl (subst (λ z. is_some z.presidency ≡ true) (later_is c x y set beats configured is now) some) (prepares ∙ same_prepares x beats) orders
    ∙ ap (λ z. governed c me outcome again z) (sym (later_is c x y set beats configured is now))

-- a node that is no president has at most something to do for attempts
without_office : (c : Cluster) (me : ℕ) (outcome : Outcome) (x : UpNode) (office : Option Presidency) → is_some (later_presidency office) ≡ false
    → left_of c me outcome x office ≡ attempt_of c me (later c x)
without_office c me outcome x None none = refl
without_office c me outcome x (Some p) none = absurd (cc)

pub attempts_rest : (c : Cluster) (me : ℕ) (outcome : Outcome) (x y z : UpNode) (set : ℕ) (beats : State) (due : AttemptDue) → set ≡ configured_at c x → beats ≡ ticked x.beats set → y ≡ with_later (beating x beats)
    → is_some y.presidency ≡ false → attempt_ticked c me y y.attempt ≡ attempt_rest c me z due
    → left_of c me outcome x x.presidency ≡ rest_of c me outcome z Tick (Attempt due)
attempts_rest c me outcome x y z set beats due configured is now none rest =
    without_office c me outcome x x.presidency (subst (λ u. is_some u.presidency ≡ false) (later_is c x y set beats configured is now) none)
    ∙ ap (λ u. attempt_of c me u) (sym (later_is c x y set beats configured is now)) ∙ rest
