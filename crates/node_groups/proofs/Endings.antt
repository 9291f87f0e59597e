-- The president takes the outcome of an order, decides, and goes on with what waits.
use Rattle.std.proofs.Common.{◌≡◌, ℕ, Bool, true, false, if◌then◌else◌, List, Option, None, Some, Result, Ok, refl, ap, subst, sym, ◌∙◌, true≢false}
use Rattle.std.specs.Option.{option_map}
use Rattle.ccr_tables.specs.State.{ConfigState}
use Rattle.cl_base.specs.declared.method.Outcome.{Outcome}
use Rattle.cmm_member.specs.Records.{NodeRecord}
use Rattle.record_disk.specs.Savings.{Saving}
use Rattle.rg_view.specs.Orders.{order_of}
use Rattle.rg_view.specs.declared.orders.Outstanding.{Outstanding}
use Rattle.rg_view.specs.declared.view.GroupView.{GroupView}
use Rattle.rgm_president.specs.Acts.{with_done}
use Rattle.rgm_president.specs.State.{PresidentState}
use Rattle.rgm_state.specs.Outcomes as order
use Rattle.node_model.specs.declared.cluster.Cluster.{Cluster}
use Rattle.node_model.specs.declared.node.UpNode.{UpNode}
use Rattle.node_model.specs.declared.output.Output.{Output}
use Rattle.node_model.specs.declared.presidency.Presidency.{Presidency}
use Rattle.node_model.specs.declared.stop.Stop.{Stop}
use Rattle.node_model.specs.Configurations.{in_force}
use Rattle.node_model.specs.Deciding.{deciding}
use Rattle.node_model.specs.Groups.{done_at, with_ended}
use Rattle.node_model.specs.Plans.{Follows, Gives, and_then}
use Rattle.node_model.specs.Plans.Plan.{Stays}
use Rattle.node_model.specs.Presidents.{handling}
use Rattle.node_model.proofs.Plans.{done_then, gives_follows}
use Rattle.node_groups.specs.Ending.{Ends, after_end, ended_under, ending, ends_at, ends_by}

-- Of an order that is not outstanding nothing changes.

not_found : (s : ConfigState) (number now : ℕ) (outcome : Outcome) (v : GroupView) (found : Option Outstanding) → order.is_numbered number found ≡ false → order.ended_if s number outcome now v found ≡ v
not_found s number now outcome v None fails = refl
not_found s number now outcome v (Some o) fails = ap (λ b. if b then order.ended s o outcome now v else v) fails

pub not_done : (s : ConfigState) (from number now : ℕ) (outcome : Outcome) (p : PresidentState) → order.is_due p.view from number ≡ false → with_done s from number outcome now p ≡ p
not_done s from number now outcome p fails = ap (λ v. record p { view = v }) (not_found s number now outcome p.view (order_of p.view.outstanding from) fails)

-- It counts.

ended_if : {K : Type 0} → (saving : K → NodeRecord → Saving K) (due : Bool) (c : Cluster) (me : ℕ) (x y z : UpNode) (p q : Presidency) (result : Result UpNode Stop) (given mid after : List Output) (disk left : K)
    → due ≡ true → y ≡ record x { presidency = Some (if due then q else p) } → Gives (deciding c me y) given (Ok z) mid → Follows saving (handling c me z) mid disk result after left
    → Follows saving (if due then and_then (deciding c me (record x { presidency = Some q })) (handling c me) else Stays x) given disk result after left
ended_if saving true c me x y z p q result given mid after disk left holds same decides handles =
    done_then saving (deciding c me (record x { presidency = Some q })) (handling c me) given mid after disk disk left z result
    (gives_follows saving (deciding c me (record x { presidency = Some q })) given mid (Ok z) disk (subst (λ u. Gives (deciding c me u) given (Ok z) mid) same decides)) handles
ended_if saving false c me x y z p q result given mid after disk left holds same decides handles = absurd (true≢false (sym holds))

ended_by : {K : Type 0} → (saving : K → NodeRecord → Saving K) (found : Option Presidency) (c : Cluster) (me from number : ℕ) (x y z : UpNode) (outcome : Outcome) (result : Result UpNode Stop) (given mid after : List Output) (disk left : K)
    → ends_by found from number ≡ true → y ≡ record x { presidency = option_map (ended_under (in_force c x) from number outcome x.second) found }
    → Gives (deciding c me y) given (Ok z) mid → Follows saving (handling c me z) mid disk result after left
    → Follows saving (done_at c me x from number outcome found) given disk result after left
unfolding ends_at ended_under
ended_by saving None c me from number x y z outcome result given mid after disk left holds same decides handles = absurd (true≢false (sym holds))
ended_by saving (Some p) c me from number x y z outcome result given mid after disk left holds same decides handles =
    ended_if saving (order.is_due p.groups.view from number) c me x y z p (with_ended c x p from number outcome) result given mid after disk left holds same decides handles

pub order_ended : {K : Type 0} → (saving : K → NodeRecord → Saving K) (c : Cluster) (me from number : ℕ) (x z : UpNode) (outcome : Outcome) (taken : Bool) (result : Result UpNode Stop) (given mid after : List Output) (disk left : K)
    → Ends c me x from number outcome taken z given mid → taken ≡ true → Follows saving (handling c me z) mid disk result after left
    → Follows saving (ending c me x from number outcome) given disk result after left
unfolding Ends after_end ending
order_ended saving c me from number x z outcome true result given mid after disk left h holds handles =
    ended_by saving x.presidency c me from number x (record x { presidency = option_map (ended_under (in_force c x) from number outcome x.second) x.presidency }) z outcome result given mid after disk left h.0 refl h.1 handles
order_ended saving c me from number x z outcome false result given mid after disk left h holds handles = absurd (true≢false (sym holds))

pub end_decided : (c : Cluster) (me from number : ℕ) (x y z : UpNode) (outcome : Outcome) (taken : Bool) (given mid : List Output)
    → taken ≡ ends_by x.presidency from number → taken ≡ true → y ≡ after_end c x from number outcome → Gives (deciding c me y) given (Ok z) mid
    → Ends c me x from number outcome taken z given mid
unfolding Ends
end_decided c me from number x y z outcome true given mid is holds same decides = (sym is, subst (λ u. Gives (deciding c me u) given (Ok z) mid) same decides)
end_decided c me from number x y z outcome false given mid is holds same decides = absurd (true≢false (sym holds))

-- It does not.

passed_if : {K : Type 0} → (saving : K → NodeRecord → Saving K) (due : Bool) (c : Cluster) (me : ℕ) (x y : UpNode) (p q : Presidency) (given : List Output) (disk : K)
    → x.presidency ≡ Some p → due ≡ false → y ≡ record x { presidency = Some (if due then q else p) }
    → Follows saving (if due then and_then (deciding c me (record x { presidency = Some q })) (handling c me) else Stays x) given disk (Ok y) given disk
passed_if saving true c me x y p q given disk found fails same = absurd (true≢false fails)
passed_if saving false c me x y p q given disk found fails same = (same ∙ ap (λ f. record x { presidency = f }) (sym found), refl, refl)

passed_by : {K : Type 0} → (saving : K → NodeRecord → Saving K) (found : Option Presidency) (c : Cluster) (me from number : ℕ) (x y : UpNode) (outcome : Outcome) (given : List Output) (disk : K)
    → x.presidency ≡ found → ends_by found from number ≡ false → y ≡ record x { presidency = option_map (ended_under (in_force c x) from number outcome x.second) found }
    → Follows saving (done_at c me x from number outcome found) given disk (Ok y) given disk
unfolding ends_at ended_under
passed_by saving None c me from number x y outcome given disk is fails same = (same ∙ ap (λ f. record x { presidency = f }) (sym is), refl, refl)
passed_by saving (Some p) c me from number x y outcome given disk is fails same =
    passed_if saving (order.is_due p.groups.view from number) c me x y p (with_ended c x p from number outcome) given disk is fails same

pub end_passed : {K : Type 0} → (saving : K → NodeRecord → Saving K) (c : Cluster) (me from number : ℕ) (x y : UpNode) (outcome : Outcome) (taken : Bool) (given mid : List Output) (disk : K)
    → Ends c me x from number outcome taken y given mid → taken ≡ false → Follows saving (ending c me x from number outcome) given disk (Ok y) mid disk
unfolding Ends after_end ending
end_passed saving c me from number x y outcome true given mid disk h fails = absurd (true≢false fails)
end_passed saving c me from number x y outcome false given mid disk h fails =
    subst (λ g. Follows saving (done_at c me x from number outcome x.presidency) given disk (Ok y) g disk) (sym h.2)
    (passed_by saving x.presidency c me from number x y outcome given disk refl h.0 h.1)

pub end_lacking : (c : Cluster) (me from number : ℕ) (x y : UpNode) (outcome : Outcome) (taken : Bool) (given : List Output)
    → taken ≡ ends_by x.presidency from number → taken ≡ false → y ≡ after_end c x from number outcome → Ends c me x from number outcome taken y given given
unfolding Ends
end_lacking c me from number x y outcome true given is fails same = absurd (true≢false fails)
end_lacking c me from number x y outcome false given is fails same = (sym is, same, refl)
