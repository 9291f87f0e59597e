-- A Prepared of a member is taken: with the last one the president goes on.
use Rattle.std.proofs.Common.{◌≡◌, ◌&&◌, ℕ, Bool, true, false, if◌then◌else◌, Option, Some, None, Result, Ok, Err, List, refl, ap, sym, subst, ◌∙◌}
use Rattle.cmm_member.specs.Records.{NodeRecord}
use Rattle.proposals.specs.Proposing.{is_prepared, prepared_by}
use Rattle.record_disk.specs.Savings.{Saving}
use Rattle.node_model.specs.declared.cluster.Cluster.{Cluster}
use Rattle.node_model.specs.declared.node.UpNode.{UpNode}
use Rattle.node_model.specs.declared.output.Output.{Output}
use Rattle.node_model.specs.declared.presidency.Presidency.{Presidency}
use Rattle.node_model.specs.declared.stop.Stop.{Stop}
use Rattle.node_model.specs.Plans.{Plan, Follows, IsDone, and_then}
use Rattle.node_model.specs.Plans.Plan.{Stays}
use Rattle.node_model.specs.Presidents.{acknowledging, handling}
use Rattle.node_model.specs.Seats.{is_in, is_member}
use Rattle.node_model.specs.Updates.{is_of_member, on_prepared, prepared_at}
use Rattle.node_model.proofs.Plans.{done_then, stopped_then}
use Rattle.node_updates.specs.Preparing.{goes_on}

gone : (c : Cluster) (me : ℕ) (y : UpNode) (b : Bool) → (if b then and_then (acknowledging c me y) (handling c me) else Stays y) ≡ goes_on c me y b
unfolding goes_on
gone c me y true = refl
gone c me y false = refl

stays : (c : Cluster) (me : ℕ) (y : UpNode) → Stays y ≡ goes_on c me y false
unfolding goes_on
stays c me y = refl

pub of_another : (c : Cluster) (me : ℕ) (x : UpNode) (from e place : ℕ) (b : Bool) → b ≡ is_of_member x from e → b ≡ false → on_prepared c me x from e place ≡ goes_on c me x false
of_another c me x from e place b is cannot = ap (λ (k : Bool). if k then prepared_at c me x from place x.presidency else Stays x) (sym is ∙ cannot) ∙ stays c me x

pub of_none : (c : Cluster) (me : ℕ) (x : UpNode) (from e place : ℕ) (b : Bool) → b ≡ is_of_member x from e → b ≡ true → x.presidency ≡ None
    → on_prepared c me x from e place ≡ goes_on c me x false
of_none c me x from e place b is member none =
    ap (λ (k : Bool). if k then prepared_at c me x from place x.presidency else Stays x) (sym is ∙ member)
    ∙ ap (λ o. prepared_at c me x from place o) none
    ∙ stays c me x

pub of_president : (c : Cluster) (me : ℕ) (x : UpNode) (p q : Presidency) (from e place : ℕ) (b last : Bool) → b ≡ is_of_member x from e → b ≡ true → x.presidency ≡ Some p
    → q ≡ record p { proposals = prepared_by p.proposals from place } → last ≡ is_prepared q.proposals
    → on_prepared c me x from e place ≡ goes_on c me (record x { presidency = Some q }) last
of_president c me x p q from e place b last is member office prepared all =
    ap (λ (k : Bool). if k then prepared_at c me x from place x.presidency else Stays x) (sym is ∙ member)
    ∙ ap (λ o. prepared_at c me x from place o) office
    ∙ ap (λ (k : Presidency). prepared_so k) (sym prepared)
    ∙ ap (λ (k : Bool). if k then and_then (acknowledging c me y) (handling c me) else Stays y) (sym all)
    ∙ gone c me y last
  where
    y : UpNode
    y = record x { presidency = Some q }

    prepared_so : Presidency → Plan
    prepared_so k = if is_prepared k.proposals then and_then (acknowledging c me (record x { presidency = Some k })) (handling c me) else Stays (record x { presidency = Some k })

pub then_handles : {K : Type 0} → (saving : K → NodeRecord → Saving K) (c : Cluster) (me : ℕ) (x y : UpNode) (given mid after : List Output) (disk between left : K) (result : Result UpNode Stop)
    → IsDone saving (acknowledging c me x) given disk y mid between → Follows saving (handling c me y) mid between result after left → Follows saving (goes_on c me x true) given disk result after left
unfolding goes_on
then_handles saving c me x y given mid after disk between left result done follows = done_then saving (acknowledging c me x) (handling c me) given mid after disk between left y result done follows

pub stops_there : {K : Type 0} → (saving : K → NodeRecord → Saving K) (c : Cluster) (me : ℕ) (x : UpNode) (given after : List Output) (disk left : K) (stop : Stop)
    → Follows saving (acknowledging c me x) given disk (Err stop) after left → Follows saving (goes_on c me x true) given disk (Err stop) after left
unfolding goes_on
stops_there saving c me x given after disk left stop h = stopped_then saving (acknowledging c me x) (handling c me) given after disk left stop h

first : (a b : Bool) → (a && b) ≡ true → a ≡ true
first true b h = refl
first false b h = absurd (cc)

pub of_a_member : (x : UpNode) (from e : ℕ) (b : Bool) → b ≡ is_of_member x from e → b ≡ true → is_member x.seat ≡ true
of_a_member x from e b is holds = first (is_member x.seat) (is_in x e) (first (is_member x.seat && is_in x e) _ (sym is ∙ holds))
