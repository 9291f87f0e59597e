-- A tick is what goes at it, and then what is left of it.
use Rattle.std.proofs.Common.{◌≡◌, ℕ, Bool, true, false, List, [], ◌∷◌, ◌++◌, Option, Some, None, if◌then◌else◌, Result, OnOk, refl, ap, sym, subst, ◌∙◌, append-nil}
use Rattle.cl_base.specs.declared.method.Outcome as method
use Rattle.status_report.specs.declared.entry.Entry.TheVariants as trace
use Rattle.status_report.specs.declared.node_entry.NodeEntry.TheVariants as note
use Rattle.node_model.specs.declared.cluster.Cluster.{Cluster}
use Rattle.node_model.specs.declared.input.Input.TheVariants.{Tick}
use Rattle.node_model.specs.declared.node.Node.{Node}
use Rattle.node_model.specs.declared.node.Node.TheVariants as node
use Rattle.node_model.specs.declared.node.UpNode.{UpNode}
use Rattle.node_model.specs.declared.output.Output.{Output}
use Rattle.node_model.specs.declared.output.Output.TheVariants.{Tells}
use Rattle.node_model.specs.declared.presidency.Presidency.{Presidency}
use Rattle.node_model.specs.Deciding.{deciding_by}
use Rattle.node_model.specs.Groups.{orders_again_by, own_order_of, own_turn}
use Rattle.node_model.specs.Plans.{Plan, and_then}
use Rattle.node_model.specs.Plans.Plan.{Stays, Says}
use Rattle.node_model.specs.Seats.{is_member}
use Rattle.node_model.specs.Steps.{DiskRules, Outcome, carried}
use Rattle.node_model.specs.Ticks.{going_again, governing, later, ticked_output}
use Rattle.node_model.specs.Updates.{later_presidency, prepares_again_by}
use Rattle.node.specs.declared.due.AttemptDue.TheVariants.{Nothing}
use Rattle.node.specs.declared.due.Due.{Due}
use Rattle.node.specs.declared.due.Due.TheVariants.{Attempt}
use Rattle.node.specs.Due.{attempt_of, finished, moved, rest_of}
use Rattle.node.specs.Ticks.{left_of}

-- A node that is no president has no order of its own, sends nothing again, and decides nothing.

order_by : (me : ℕ) (member : Bool) (office : Option Presidency) → office ≡ None → (if member then own_order_of me office else None) ≡ None
order_by me true office none = ap (own_order_of me) none
order_by me false office none = refl

nothing_again : (c : Cluster) (me : ℕ) (before x : UpNode) → before.presidency ≡ None → x.presidency ≡ None → going_again c me before x ≡ Says [] (Stays x)
nothing_again c me before x none now =
    ap (λ o. Says (prepares_again_by before o ++ orders_again_by o x.presidency) (deciding_by c me x x.presidency)) none
    ∙ ap (λ o. Says [] (deciding_by c me x o)) now

nothing_governed : (c : Cluster) (me : ℕ) (outcome : method.Outcome) (before x : UpNode) → before.presidency ≡ None → x.presidency ≡ None → governing c me outcome before x ≡ Says [] (Stays x)
nothing_governed c me outcome before x none now =
    ap (λ o. and_then (own_turn c me outcome x o) (going_again c me before)) (order_by me (is_member x.seat) x.presidency now)
    ∙ nothing_again c me before x none now

abbrev left : {K : Type 0} → Node → List Output → K → Outcome K
left after told disk = record { after = after; given = told; disk = disk }

abbrev head : Cluster → ℕ → UpNode → List Output
head c me x = ([] ++ Tells (trace.Node me note.Ticked) ∷ []) ++ ticked_output c x (later c x)

by_office : {K : Type 0} → (rules : DiskRules K) (c : Cluster) (me : ℕ) (outcome : method.Outcome) (x : UpNode) (disk : K) (office : Option Presidency) → x.presidency ≡ office
    → carried rules.saving me (left_of c me outcome x office) (head c me x) disk ≡ carried rules.saving me (and_then (governing c me outcome x (later c x)) (attempt_of c me)) (head c me x) disk
by_office rules c me outcome x disk (Some p) is = refl
by_office rules c me outcome x disk None is =
    sym (ap (λ plan. carried rules.saving me (and_then plan (attempt_of c me)) (head c me x) disk) (nothing_governed c me outcome x (later c x) is (ap later_presidency is))
    ∙ ap (λ os. carried rules.saving me (attempt_of c me (later c x)) os disk) (append-nil (head c me x)))

pub ticked_is : {K : Type 0} → (rules : DiskRules K) (c : Cluster) (me : ℕ) (outcome : method.Outcome) (x : UpNode) (rest : Plan) (given : List Output) (disk : K)
    → left_of c me outcome x x.presidency ≡ rest → given ≡ head c me x
    → carried rules.saving me rest given disk ≡ moved rules c me outcome (node.Up x) disk Tick
ticked_is rules c me outcome x rest given disk is told =
    ap (λ p. carried rules.saving me p given disk) (sym is) ∙ ap (λ os. carried rules.saving me (left_of c me outcome x x.presidency) os disk) told
    ∙ by_office rules c me outcome x disk x.presidency refl

pub all_done : {K : Type 0} → (rules : DiskRules K) (c : Cluster) (me : ℕ) (outcome : method.Outcome) (x y : UpNode) (n : Node) (due : Due) (before given : List Output) (disk : K)
    → n ≡ node.Up x → before ≡ [] → given ≡ (before ++ Tells (trace.Node me note.Ticked) ∷ []) ++ ticked_output c x (later c x)
    → left_of c me outcome x x.presidency ≡ rest_of c me outcome y Tick due → due ≡ Attempt Nothing
    → left (node.Up y) given disk ≡ moved rules c me outcome n disk Tick
all_done rules c me outcome x y n due before given disk up none told rest nothing =
    ticked_is rules c me outcome x (Stays y) given disk (rest ∙ ap (λ d. rest_of c me outcome y Tick d) nothing) (told ∙ ap (λ b. (b ++ Tells (trace.Node me note.Ticked) ∷ []) ++ ticked_output c x (later c x)) none)
    ∙ ap (λ z. moved rules c me outcome z disk Tick) (sym up)

pub rest_done : {K T E : Type 0} → (rules : DiskRules K) (c : Cluster) (me : ℕ) (outcome : method.Outcome) (x y : UpNode) (n : Node) (due : Due) (before given : List Output) (disk : K) (end : Outcome K) (result : Result T E)
    → n ≡ node.Up x → before ≡ [] → given ≡ (before ++ Tells (trace.Node me note.Ticked) ∷ []) ++ ticked_output c x (later c x)
    → left_of c me outcome x x.presidency ≡ rest_of c me outcome y Tick due
    → OnOk result (end ≡ finished rules.saving c me outcome (node.Up y) Tick due given disk)
    → OnOk result (end ≡ moved rules c me outcome n disk Tick)
rest_done {K = K} rules c me outcome x y n due before given disk end result up none told rest =
    subst (λ (o : Outcome K). OnOk result (end ≡ o))
    (ticked_is rules c me outcome x (rest_of c me outcome y Tick due) given disk rest (told ∙ ap (λ b. (b ++ Tells (trace.Node me note.Ticked) ∷ []) ++ ticked_output c x (later c x)) none)
    ∙ ap (λ z. moved rules c me outcome z disk Tick) (sym up))
