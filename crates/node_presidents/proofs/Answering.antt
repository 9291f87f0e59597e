-- The first request is answered, if there is one, and then the president decides.
use Rattle.std.proofs.Common.{◌≡◌, ℕ, Bool, true, false, List, [], ◌∷◌, Option, None, Some, Ok, refl, subst, sym, true≢false}
use Rattle.std.proofs.lemmas.Option.{none-some}
use Rattle.proposals.specs.Arrivals.{answer_first, answered}
use Rattle.proposals.specs.State.{State, first_in}
use Rattle.proposals.specs.declared.arrived.Arrived.{Arrived}
use Rattle.status_report.specs.declared.command_entry.Answer.{Answer}
use Rattle.node_model.specs.declared.cluster.Cluster.{Cluster}
use Rattle.node_model.specs.declared.node.UpNode.{UpNode}
use Rattle.node_model.specs.declared.output.Output.{Output}
use Rattle.node_model.specs.declared.presidency.Presidency.{Presidency}
use Rattle.node_model.specs.Deciding.{deciding, is_any}
use Rattle.node_model.specs.Plans.{Gives}
use Rattle.node_model.specs.Presidents.{answered_by}
use Rattle.node_presidents.specs.Presidents.{answering_at, answering_by, giving_at, giving_by, has_first}

none_first : (s : State) (listed : List Arrived) (text : List ℕ) → first_in listed ≡ None → answer_first s listed text ≡ s
none_first s [] text none = refl
none_first s (a ∷ listed) text none = absurd (none-some a (sym none))

pub nothing_answered : (s : State) (text : List ℕ) → first_in s.arrived ≡ None → answered s text ≡ s
nothing_answered s text none = none_first s s.arrived text none

nothing_at : (c : Cluster) (me : ℕ) (x y : UpNode) (p : Presidency) (told : Answer) (listed : List Arrived) (given after : List Output)
    → is_any listed ≡ false → Gives (giving_at me x p told (first_in listed)) given (Ok y) after → Gives (answering_at c me x p told (first_in listed)) given (Ok y) after
nothing_at c me x y p told [] given after none h = h
nothing_at c me x y p told (a ∷ listed) given after none h = absurd (true≢false none)

nothing_by : (c : Cluster) (me : ℕ) (x y : UpNode) (told : Answer) (found : Option Presidency) (given after : List Output)
    → has_first found ≡ false → Gives (giving_by me x told found) given (Ok y) after → Gives (answering_by c me x told found) given (Ok y) after
nothing_by c me x y told None given after none h = h
nothing_by c me x y told (Some p) given after none h = nothing_at c me x y p told p.proposals.arrived given after none h

-- no request is there
pub nothing_follows : (c : Cluster) (me : ℕ) (x y : UpNode) (told : Answer) (some : Bool) (given after : List Output)
    → some ≡ has_first x.presidency → some ≡ false → Gives (giving_by me x told x.presidency) given (Ok y) after → Gives (answering_by c me x told x.presidency) given (Ok y) after
nothing_follows c me x y told some given after is none h = nothing_by c me x y told x.presidency given after (subst (λ b. b ≡ false) is none) h

decides_at : (c : Cluster) (me : ℕ) (x y up : UpNode) (p : Presidency) (told : Answer) (listed : List Arrived) (given mid after : List Output)
    → is_any listed ≡ true → Gives (giving_at me x p told (first_in listed)) given (Ok y) mid → Gives (deciding c me y) mid (Ok up) after
    → Gives (answering_at c me x p told (first_in listed)) given (Ok up) after
decides_at c me x y up p told [] given mid after some h decides = absurd (true≢false (sym some))
decides_at c me x y up p told (a ∷ listed) given mid after some h decides =
    subst (λ g. Gives (deciding c me (answered_by me x p a told)) g (Ok up) after) h.1
    (subst (λ z. Gives (deciding c me z) mid (Ok up) after) h.0 decides)

decides_by : (c : Cluster) (me : ℕ) (x y up : UpNode) (told : Answer) (found : Option Presidency) (given mid after : List Output)
    → has_first found ≡ true → Gives (giving_by me x told found) given (Ok y) mid → Gives (deciding c me y) mid (Ok up) after
    → Gives (answering_by c me x told found) given (Ok up) after
decides_by c me x y up told None given mid after some h decides = absurd (true≢false (sym some))
decides_by c me x y up told (Some p) given mid after some h decides = decides_at c me x y up p told p.proposals.arrived given mid after some h decides

-- one is there
pub decides_then : (c : Cluster) (me : ℕ) (x y up : UpNode) (told : Answer) (some : Bool) (given mid after : List Output)
    → some ≡ has_first x.presidency → some ≡ true → Gives (giving_by me x told x.presidency) given (Ok y) mid → Gives (deciding c me y) mid (Ok up) after
    → Gives (answering_by c me x told x.presidency) given (Ok up) after
decides_then c me x y up told some given mid after is so h decides = decides_by c me x y up told x.presidency given mid after (subst (λ b. b ≡ true) is so) h decides
