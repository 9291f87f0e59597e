-- What the first request asks for is done, and it is answered.
use Rattle.std.proofs.Common.{◌≡◌, ℕ, Bool, true, false, if◌then◌else◌, List, [], ◌∷◌, ◌++◌, Option, None, Some, Ok, refl, subst, sym, ap, ◌∙◌, true≢false}
use Rattle.std.proofs.lemmas.List.{append-nil}
use Rattle.ccr_tables.specs.State.{ConfigState}
use Rattle.cl_base.specs.declared.command.Ask.{Ask}
use Rattle.proposals.specs.State.{first_in}
use Rattle.proposals.specs.declared.arrived.Arrived.{Arrived}
use Rattle.status_report.specs.declared.command_entry.Answer.TheVariants as answer
use Rattle.node_model.specs.declared.cluster.Cluster.{Cluster}
use Rattle.node_model.specs.declared.node.UpNode.{UpNode}
use Rattle.node_model.specs.declared.output.Output.{Output}
use Rattle.node_model.specs.declared.presidency.Presidency.{Presidency}
use Rattle.node_model.specs.Configurations.{in_force}
use Rattle.node_model.specs.Deciding.{may_order, orders_sent}
use Rattle.node_model.specs.Plans.{Gives}
use Rattle.node_model.specs.Plans.Plan.{Stays, Says}
use Rattle.node_model.specs.Presidents.{answering_first, orders_for, with_act}
use Rattle.node_presidents.specs.Presidents.{acting_at, acting_by, acts_by, acts_on, answering_at, answering_by, asked_lines, asked_so, asked_under, asking_by}

-- It is taken up, under this configuration.
pub first_taken : (c : Cluster) (me : ℕ) (x : UpNode) (p q : Presidency) (s : ConfigState) (ask : Ask) (given after : List Output)
    → x.presidency ≡ Some p → s ≡ in_force c x → q ≡ asked_under s me x.requests x.second ask p (first_in p.proposals.arrived)
    → after ≡ given ++ asked_lines me ask p (first_in p.proposals.arrived)
    → Gives (asking_by c me x ask x.presidency) given (Ok (record x { presidency = Some q })) after
first_taken c me x p q s ask given after is under now told =
    let so : q ≡ asked_under (in_force c x) me x.requests x.second ask p (first_in p.proposals.arrived)
    = now ∙ ap (λ (k : ConfigState). asked_under k me x.requests x.second ask p (first_in p.proposals.arrived)) under in
    subst (λ found. Gives (asking_by c me x ask found) given (Ok (record x { presidency = Some q })) after) (sym is)
    (ap (λ (k : Presidency). record x { presidency = Some k }) so, told)

-- Nothing is taken up.

stays_so : (c : Cluster) (me : ℕ) (x y : UpNode) (p : Presidency) (ask : Ask) (first : Option Arrived) (given after : List Output)
    → acts_on p first ≡ false → x.presidency ≡ Some p → y ≡ record x { presidency = Some (asked_under (in_force c x) me x.requests x.second ask p first) } → after ≡ given ++ asked_lines me ask p first
    → Gives (acting_at c me x p ask first) given (Ok y) after
stays_so c me x y p ask None given after none is now told = (now ∙ ap (λ found. record x { presidency = found }) (sym is), told ∙ append-nil given)
stays_so c me x y p ask (Some a) given after none is now told = by_test (may_order p.groups) none now told
  where
    by_test : (b : Bool) → b ≡ false → y ≡ record x { presidency = Some (if b then asked_so (in_force c x) me x.requests x.second ask p a else p) }
        → after ≡ given ++ (if b then orders_sent me (orders_for p.groups ask) else [])
        → Gives (if b then Says (orders_sent me (orders_for p.groups ask)) (answering_first c me x (with_act c me x p a ask) a answer.Ok) else Stays x) given (Ok y) after
    by_test true off here lines = absurd (true≢false off)
    by_test false off here lines = (here ∙ ap (λ found. record x { presidency = found }) (sym is), lines ∙ append-nil given)

nothing_by : (c : Cluster) (me : ℕ) (x y : UpNode) (ask : Ask) (found : Option Presidency) (given after : List Output)
    → x.presidency ≡ found → acts_by found ≡ false → Gives (asking_by c me x ask found) given (Ok y) after → Gives (acting_by c me x ask found) given (Ok y) after
nothing_by c me x y ask None given after is none h = h
nothing_by c me x y ask (Some p) given after is none h = stays_so c me x y p ask (first_in p.proposals.arrived) given after none is h.0 h.1

pub nothing_follows : (c : Cluster) (me : ℕ) (x y : UpNode) (ask : Ask) (some : Bool) (given after : List Output)
    → some ≡ acts_by x.presidency → some ≡ false → Gives (asking_by c me x ask x.presidency) given (Ok y) after → Gives (acting_by c me x ask x.presidency) given (Ok y) after
nothing_follows c me x y ask some given after is none h = nothing_by c me x y ask x.presidency given after refl (subst (λ b. b ≡ false) is none) h

-- It is answered after that.

acts_so : (c : Cluster) (me : ℕ) (x y up : UpNode) (p : Presidency) (ask : Ask) (listed : List Arrived) (given mid after : List Output)
    → acts_on p (first_in listed) ≡ true → first_in p.proposals.arrived ≡ first_in listed
    → y ≡ record x { presidency = Some (asked_under (in_force c x) me x.requests x.second ask p (first_in listed)) } → mid ≡ given ++ asked_lines me ask p (first_in listed)
    → Gives (answering_by c me y answer.Ok y.presidency) mid (Ok up) after → Gives (acting_at c me x p ask (first_in listed)) given (Ok up) after
acts_so c me x y up p ask [] given mid after some first now told h = absurd (true≢false (sym some))
acts_so c me x y up p ask (a ∷ listed) given mid after some first now told h = by_test (may_order p.groups) some now told
  where
    by_test : (b : Bool) → b ≡ true → y ≡ record x { presidency = Some (if b then asked_so (in_force c x) me x.requests x.second ask p a else p) }
        → mid ≡ given ++ (if b then orders_sent me (orders_for p.groups ask) else [])
        → Gives (if b then Says (orders_sent me (orders_for p.groups ask)) (answering_first c me x (with_act c me x p a ask) a answer.Ok) else Stays x) given (Ok up) after
    by_test false off here lines = absurd (true≢false (sym off))
    by_test true off here lines =
        let q : Presidency = asked_so (in_force c x) me x.requests x.second ask p a in
        let z : UpNode = record x { presidency = Some q } in
        let moved : Gives (answering_at c me z q answer.Ok (first_in p.proposals.arrived)) mid (Ok up) after
        = subst (λ (n : UpNode). Gives (answering_by c me n answer.Ok n.presidency) mid (Ok up) after) here h in
        subst (λ (g : List Output). Gives (answering_first c me z q a answer.Ok) g (Ok up) after) lines
        (subst (λ (found : Option Arrived). Gives (answering_at c me z q answer.Ok found) mid (Ok up) after) first moved)

answers_by : (c : Cluster) (me : ℕ) (x y up : UpNode) (ask : Ask) (found : Option Presidency) (given mid after : List Output)
    → acts_by found ≡ true → Gives (asking_by c me x ask found) given (Ok y) mid → Gives (answering_by c me y answer.Ok y.presidency) mid (Ok up) after
    → Gives (acting_by c me x ask found) given (Ok up) after
answers_by c me x y up ask None given mid after some h answers = absurd (true≢false (sym some))
answers_by c me x y up ask (Some p) given mid after some h answers = acts_so c me x y up p ask p.proposals.arrived given mid after some refl h.0 h.1 answers

pub answers_then : (c : Cluster) (me : ℕ) (x y up : UpNode) (ask : Ask) (some : Bool) (given mid after : List Output)
    → some ≡ acts_by x.presidency → some ≡ true → Gives (asking_by c me x ask x.presidency) given (Ok y) mid → Gives (answering_by c me y answer.Ok y.presidency) mid (Ok up) after
    → Gives (acting_by c me x ask x.presidency) given (Ok up) after
answers_then c me x y up ask some given mid after is so h answers = answers_by c me x y up ask x.presidency given mid after (subst (λ b. b ≡ true) is so) h answers
