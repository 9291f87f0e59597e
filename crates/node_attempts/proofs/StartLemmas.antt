-- What is saved first, and what is followed after it.
use Rattle.std.proofs.Common.{◌≡◌, ℕ, Bool, is_some, OnOk, IfErr, refl, inr, sym, subst, ap, ◌∙◌, true, false, if◌then◌else◌, List, [], ◌∷◌, ◌++◌, Option, None, Some, Result, Ok, Err}
use Rattle.std.specs.Option.{option_map}
use Rattle.std.proofs.lemmas.Bool.{false≢true}
use Rattle.std.proofs.lemmas.Option.{none-some, same_Some}
use Rattle.cmm_attempt.specs.Attempts.{AttemptState, Turn, beginning}
use Rattle.cmm_attempt.specs.declared.step.AttemptEnd.{AttemptEnd}
use Rattle.cmm_attempt.specs.declared.step.Step.{Step}
use Rattle.cmm_member.specs.Nodes.{NodeState, installed_with, started}
use Rattle.cmm_member.specs.Records.{NodeRecord}
use Rattle.record_disk.specs.Savings.{Saving}
use Rattle.status_report.specs.declared.attempt_entry.AttemptEntry.TheVariants as attempt
use Rattle.status_report.specs.declared.entry.Entry.TheVariants as entry
use Rattle.status_report.specs.declared.node_entry.NodeEntry.TheVariants.{Saved}
use Rattle.wire.specs.declared.message.Install.{Install}
use Rattle.node_model.specs.declared.cluster.Cluster.{Cluster}
use Rattle.node_model.specs.declared.node.UpNode.{UpNode}
use Rattle.node_model.specs.declared.output.Output.{Output}
use Rattle.node_model.specs.declared.output.Output.TheVariants.{Tells}
use Rattle.node_model.specs.declared.presidency.Presidency.{Presidency}
use Rattle.node_model.specs.declared.seat.Seat.{Seat}
use Rattle.node_model.specs.declared.seat.Seat.TheVariants.{Forming, Member}
use Rattle.node_model.specs.declared.stop.Stop.{Stop}
use Rattle.node_model.specs.declared.stop.Stop.TheVariants.{Down, NoMemory}
use Rattle.node_model.specs.Attempts.{begins_install, changed_by, ending, entering, going_on, install_of, installed_in, installing_here, is_choosing, led, member_by, own_promise, own_ready, performed, performed_all, presiding, resting, started_so, starting_as, starting_here, starting_with, starts_now, under_way}
use Rattle.node_model.specs.Entries.{keeping, unknown_lines}
use Rattle.node_model.specs.Plans.{Plan, Follows, Gives, IsDone, KeepFails}
use Rattle.node_model.specs.Plans.Plan.{Stays, Says, Saves}
use Rattle.node_model.specs.Seats.{record_of}
use Rattle.node_model.proofs.Plans.{done_then, follows_saves, follows_says, gives_follows}
use Rattle.node_attempts.specs.Told.{asking_none, end_told, membership_told, seated, settling, start_told, voted}
use Rattle.node_model.specs.Left.{left_so}

-- memory has run out
pub no_memory : {K : Type 0} → (saving : K → NodeRecord → Saving K) (plan : Plan) (given after : List Output) (disk left : K) (stop : Stop) → stop ≡ NoMemory → Follows saving plan given disk (Err stop) after left
no_memory saving plan given after disk left stop none = subst (λ (s : Stop). Follows saving plan given disk (Err s) after left) (sym none) tt

-- the save is not done
pub not_kept : {K : Type 0} → (saving : K → NodeRecord → Saving K) (r : NodeRecord) (rest : Plan) (given after : List Output) (disk left : K) (stop : Stop) → KeepFails (saving disk r) given after left stop → Follows saving (Saves r rest) given disk (Err stop) after left
not_kept saving r rest given after disk left (Down why) fails = inr fails
not_kept saving r rest given after disk left NoMemory fails = tt

-- the save is done, and told
pub kept_then : {K : Type 0} → (saving : K → NodeRecord → Saving K) (me : ℕ) (x : UpNode) (rest : Plan) (given mid after : List Output) (disk between left : K) (r : Result UpNode Stop)
    → (saving disk (record_of x)).lost ≡ None → between ≡ (saving disk (record_of x)).after → mid ≡ given ++ Tells (entry.Node me Saved) ∷ []
    → Follows saving rest mid between r after left → Follows saving (keeping me x rest) given disk r after left
kept_then saving me x rest given mid after disk between left r saved now told h =
    follows_saves saving (record_of x) (Says (Tells (entry.Node me Saved) ∷ []) rest) given after disk left r saved
    (follows_says saving (Tells (entry.Node me Saved) ∷ []) rest given after (saving disk (record_of x)).after left r
    (subst (λ (g : List Output). Follows saving rest g (saving disk (record_of x)).after r after left) told
    (subst (λ d. Follows saving rest mid d r after left) now h)))

-- the record has changed, and what is told follows its save
pub told_kept : {K : Type 0} → (saving : K → NodeRecord → Saving K) (c : Cluster) (me : ℕ) (a : AttemptState) (x : UpNode) (given mid after : List Output) (disk between : K) (r : Result UpNode Stop)
    → (saving disk (record_of x)).lost ≡ None → between ≡ (saving disk (record_of x)).after → mid ≡ given ++ Tells (entry.Node me Saved) ∷ []
    → Gives (start_told c me a x) mid r after → Follows saving (membership_told c me a true x) given disk r after between
told_kept saving c me a x given mid after disk between r saved now told gives =
    kept_then saving me x (start_told c me a x) given mid after disk between between r saved now told (gives_follows saving (start_told c me a x) mid after r between gives)

-- The node as the membership starts.

abbrev member_if : NodeState → Bool → Option (NodeState × Bool)
member_if s b = if b then Some (started s, is_some s.saved.entries.pending) else None

becomes : (e : ℕ) (s t : NodeState) (changed b : Bool) → starts_now s e ≡ b → member_by e (Forming s) ≡ Some (t, changed) → starts_now s e ≡ true
becomes e s t changed true test is = test
becomes e s t changed false test is = absurd (none-some (t, changed) (subst (λ (z : Bool). member_if s z ≡ Some (t, changed)) test is))

remains : (e : ℕ) (s : NodeState) (b : Bool) → starts_now s e ≡ b → member_by e (Forming s) ≡ None → starts_now s e ≡ false
remains e s true test is = absurd (none-some (started s, is_some s.saved.entries.pending) (sym (subst (λ (z : Bool). member_if s z ≡ None) test is)))
remains e s false test is = test

pub starts : {K : Type 0} → (saving : K → NodeRecord → Saving K) (c : Cluster) (me : ℕ) (x y : UpNode) (a : AttemptState) (seat : Seat) (t : NodeState) (changed : Bool) (given after : List Output) (disk left : K) (r : Result UpNode Stop)
    → member_by a.plan.epoch seat ≡ Some (t, changed) → y ≡ entering (record x { seat = Member t; attempt = None; presidency = Some (presiding c me x a) }) a.plan.epoch
    → Follows saving (membership_told c me a changed y) given disk r after left → Follows saving (starting_with c me x a seat) given disk r after left
starts saving c me x y a (Member s) t changed given after disk left r is so h = absurd (none-some (t, changed) is)
starts saving c me x y a (Forming s) t changed given after disk left r is so h =
    let e = a.plan.epoch in
    let test : starts_now s e ≡ true = becomes e s t changed (starts_now s e) refl is in
    let now : NodeState × Bool = (started s, is_some s.saved.entries.pending) in
    let new : NodeState × Bool = (t, changed) in
    let both : now ≡ new =
    same_Some now new (subst (λ (z : Bool). member_if s z ≡ Some (t, changed)) test is) in
    let so_started : y ≡ starting_as c me x a s = so ∙ ap (λ (n : NodeState). entering (record x { seat = Member n; attempt = None; presidency = Some (presiding c me x a) }) e) (sym (ap (λ (p : NodeState × Bool). p.0) both)) in
    subst (λ (b : Bool). Follows saving (if b then started_so c me a s (starting_as c me x a s) else Stays x) given disk r after left) (sym test)
    (subst (λ (z : UpNode). Follows saving (membership_told c me a (is_some s.saved.entries.pending) z) given disk r after left) so_started
    (subst (λ (b : Bool). Follows saving (membership_told c me a b y) given disk r after left) (sym (ap (λ (p : NodeState × Bool). p.1) both)) h))

pub starts_not : {K : Type 0} → (saving : K → NodeRecord → Saving K) (c : Cluster) (me : ℕ) (x : UpNode) (a : AttemptState) (seat : Seat) (given : List Output) (disk : K) (up : UpNode)
    → member_by a.plan.epoch seat ≡ None → up ≡ x → IsDone saving (starting_with c me x a seat) given disk up given disk
starts_not saving c me x a (Member s) given disk up is same = (same, refl, refl)
starts_not saving c me x a (Forming s) given disk up is same =
    subst (λ (b : Bool). IsDone saving (if b then started_so c me a s (starting_as c me x a s) else Stays x) given disk up given disk) (sym (remains a.plan.epoch s (starts_now s a.plan.epoch) refl is)) (same, refl, refl)

-- The attempt begins.
pub leads : {K : Type 0} → (saving : K → NodeRecord → Saving K) (c : Cluster) (me : ℕ) (x y : UpNode) (p members : ℕ) (turn : Turn) (given mid after : List Output) (disk between left : K) (r : Result UpNode Stop)
    → (saving disk (record_of x)).lost ≡ None → between ≡ (saving disk (record_of x)).after
    → mid ≡ ((given ++ Tells (entry.Node me Saved) ∷ []) ++ Tells (entry.Attempt (attempt.Begun p members)) ∷ []) ++ unknown_lines me x.requests.waiting
    → y ≡ asking_none x → turn ≡ beginning p members (own_promise me x p) c.attached c.id
    → Follows saving (going_on c me y turn) mid between r after left → Follows saving (led c me (asking_none x) x.requests.waiting p members) given disk r after left
leads saving c me x y p members turn given mid after disk between left r saved now told same begins h =
    let now_on = (saving disk (record_of x)).after in
    let first : Turn = beginning p members (own_promise me x p) c.attached c.id in
    let head : List Output = given ++ Tells (entry.Node me Saved) ∷ [] in
    let begun : List Output = head ++ Tells (entry.Attempt (attempt.Begun p members)) ∷ [] in
    kept_then saving me (asking_none x) (Says (Tells (entry.Attempt (attempt.Begun p members)) ∷ []) (Says (unknown_lines me x.requests.waiting) (going_on c me (asking_none x) first))) given head after disk now_on left r saved refl refl
    (follows_says saving (Tells (entry.Attempt (attempt.Begun p members)) ∷ []) (Says (unknown_lines me x.requests.waiting) (going_on c me (asking_none x) first)) head after now_on left r
    (follows_says saving (unknown_lines me x.requests.waiting) (going_on c me (asking_none x) first) begun after now_on left r
    (subst (λ (g : List Output). Follows saving (going_on c me (asking_none x) first) g now_on r after left) told
    (subst (λ d. Follows saving (going_on c me (asking_none x) first) mid d r after left) now
    (subst (λ (z : UpNode). Follows saving (going_on c me z first) mid between r after left) same
    (subst (λ (t : Turn). Follows saving (going_on c me y t) mid between r after left) begins h))))))

-- A turn, with the votes where they are wanted.

goes_as : (c : Cluster) (me : ℕ) (x : UpNode) (t : Turn) (b : Bool) → is_choosing t.after.phase ≡ b → performed c me (under_way x (voted c t).after) (voted c t).steps ≡ going_on c me x t
goes_as c me x t true test = rw test refl
goes_as c me x t false test = rw test refl

pub goes : {K : Type 0} → (saving : K → NodeRecord → Saving K) (c : Cluster) (me : ℕ) (x y : UpNode) (t : Turn) (steps : List Step) (given after : List Output) (disk left : K) (r : Result UpNode Stop)
    → y ≡ under_way x (voted c t).after → steps ≡ (voted c t).steps → Follows saving (performed c me y steps) given disk r after left → Follows saving (going_on c me x t) given disk r after left
goes saving c me x y t steps given after disk left r so are h =
    subst (λ (plan : Plan). Follows saving plan given disk r after left) (goes_as c me x t (is_choosing t.after.phase) refl)
    (subst (λ (z : UpNode). Follows saving (performed c me z (voted c t).steps) given disk r after left) so
    (subst (λ (s : List Step). Follows saving (performed c me y s) given disk r after left) are h))

-- The node as the president of a membership that starts.

abbrev as_president : UpNode → Presidency → ℕ → UpNode
as_president n p e = entering (record n { attempt = None; presidency = Some p }) e

sits_so : {K : Type 0} → (saving : K → NodeRecord → Saving K) (c : Cluster) (me : ℕ) (x z y : UpNode) (a : AttemptState) (e : ℕ) (m : Option (NodeState × Bool)) (changed : Bool) (p : Presidency) (given after : List Output) (disk left : K) (r : Result UpNode Stop)
    → member_by a.plan.epoch x.seat ≡ m → z ≡ seated x m → Some changed ≡ option_map (λ q. q.1) m → y ≡ as_president z p e → p ≡ presiding c me x a → e ≡ a.plan.epoch
    → Follows saving (membership_told c me a changed y) given disk r after left → Follows saving (starting_with c me (under_way x a) a x.seat) given disk r after left
sits_so saving c me x z y a e None changed p given after disk left r is seat one new known same h = absurd (none-some changed (sym one))
sits_so saving c me x z y a e (Some q) changed p given after disk left r is seat one new known same h =
    let so : y ≡ as_president (seated x (Some q)) (presiding c me x a) a.plan.epoch =
    new ∙ ap (λ (n : UpNode). as_president n p e) seat ∙ ap (λ (w : Presidency). as_president (seated x (Some q)) w e) known ∙ ap (λ (k : ℕ). as_president (seated x (Some q)) (presiding c me x a) k) same in
    starts saving c me (under_way x a) y a x.seat q.0 q.1 given after disk left r is so
    (subst (λ (b : Bool). Follows saving (membership_told c me a b y) given disk r after left) (same_Some changed q.1 one) h)

pub sits : {K : Type 0} → (saving : K → NodeRecord → Saving K) (c : Cluster) (me : ℕ) (x z y : UpNode) (a : AttemptState) (e e2 : ℕ) (one : Option Bool) (changed : Bool) (p : Presidency) (given after : List Output) (disk left : K) (r s : Result UpNode Stop)
    → e ≡ a.plan.epoch → e2 ≡ a.plan.epoch → z ≡ seated x (member_by e x.seat) → one ≡ option_map (λ q. q.1) (member_by e x.seat) → one ≡ Some changed → y ≡ as_president z p e2 → p ≡ presiding c me x a → s ≡ r
    → Follows saving (membership_told c me a changed y) given disk r after left → Follows saving (starting_with c me (under_way x a) a x.seat) given disk s after left
sits saving c me x z y a e e2 one changed p given after disk left r s at at2 seat is some new known same h =
    subst (λ (o : Result UpNode Stop). Follows saving (starting_with c me (under_way x a) a x.seat) given disk o after left) (sym same)
    (sits_so saving c me x z y a e2 (member_by a.plan.epoch x.seat) changed p given after disk left r refl
    (seat ∙ ap (λ (k : ℕ). seated x (member_by k x.seat)) at) (sym some ∙ is ∙ ap (λ (k : ℕ). option_map (λ (q : NodeState × Bool). q.1) (member_by k x.seat)) at) new known at2 h)

no_member : (m : Option (NodeState × Bool)) → None ≡ option_map (λ q. q.1) m → m ≡ None
no_member None one = refl
no_member (Some q) one = absurd (none-some q.1 one)

-- nothing starts, and the attempt goes on
pub sits_not : {K : Type 0} → (saving : K → NodeRecord → Saving K) (c : Cluster) (me : ℕ) (x z u : UpNode) (a : AttemptState) (e : ℕ) (one : Option Bool) (given : List Output) (disk : K) (w : Result (Unit {0}) Stop) (s : Result UpNode Stop)
    → e ≡ a.plan.epoch → z ≡ seated x (member_by e x.seat) → one ≡ option_map (λ q. q.1) (member_by e x.seat) → one ≡ None → OnOk w (u ≡ under_way z a) → IfErr w (λ k. k ≡ NoMemory) → s ≡ left_so u w
    → Follows saving (starting_with c me (under_way x a) a x.seat) given disk s given disk
sits_not saving c me x z u a e one given disk (Ok t) s at seat is none after only same =
    let gone : member_by e x.seat ≡ None = no_member (member_by e x.seat) (sym none ∙ is) in
    let here : u ≡ under_way x a = after ∙ ap (λ (n : UpNode). under_way n a) (seat ∙ ap (λ (m : Option (NodeState × Bool)). seated x m) gone) in
    subst (λ (o : Result UpNode Stop). Follows saving (starting_with c me (under_way x a) a x.seat) given disk o given disk) (sym same)
    (starts_not saving c me (under_way x a) a x.seat given disk u (subst (λ (k : ℕ). member_by k x.seat ≡ None) at gone) here)
sits_not saving c me x z u a e one given disk (Err stop) s at seat is none after only same =
    subst (λ (o : Result UpNode Stop). Follows saving (starting_with c me (under_way x a) a x.seat) given disk o given disk) (sym same)
    (no_memory saving (starting_with c me (under_way x a) a x.seat) given given disk disk stop only)

abbrev without : UpNode → Option AttemptState → UpNode
without x o = record x { attempt = o }

-- y is the node without its attempt
pub starts_here : {K : Type 0} → (saving : K → NodeRecord → Saving K) (c : Cluster) (me : ℕ) (x y : UpNode) (a : AttemptState) (left_in : Option AttemptState) (given after : List Output) (disk left : K) (r : Result UpNode Stop)
    → Some a ≡ x.attempt → y ≡ without x left_in → Follows saving (starting_with c me (under_way y a) a y.seat) given disk r after left → Follows saving (starting_here c me x x.attempt) given disk r after left
starts_here saving c me x y a left_in given after disk left r is so h =
    let whole : under_way y a ≡ x = ap (λ (n : UpNode). under_way n a) so ∙ ap (λ (o : Option AttemptState). without x o) is in
    let seat : y.seat ≡ x.seat = ap (λ (n : UpNode). n.seat) so in
    subst (λ (o : Option AttemptState). Follows saving (starting_here c me x o) given disk r after left) is
    (subst (λ (n : UpNode). Follows saving (starting_with c me n a x.seat) given disk r after left) whole
    (subst (λ (s : Seat). Follows saving (starting_with c me (under_way y a) a s) given disk r after left) seat h))

-- the coordinator has begun an install, and may have no device to join
pub readies_then : {K : Type 0} → (saving : K → NodeRecord → Saving K) (c : Cluster) (me : ℕ) (x : UpNode) (steps : List Step) (b : Bool) (given mid after : List Output) (disk between left : K) (up : UpNode) (r : Result UpNode Stop)
    → b ≡ true → b ≡ begins_install steps → IsDone saving (performed_all c me x steps) given disk up mid between → Follows saving (own_ready c me up) mid between r after left → Follows saving (performed c me x steps) given disk r after left
readies_then saving c me x steps b given mid after disk between left up r holds is done h =
    done_then saving (performed_all c me x steps) (λ y. if begins_install steps then own_ready c me y else Stays y) given mid after disk between left up r done
    (subst (λ (z : Bool). Follows saving (if z then own_ready c me up else Stays up) mid between r after left) (sym holds ∙ is) h)

abbrev with_seat : UpNode → Seat → UpNode
with_seat x s = record x { seat = s }

-- the node's record is that of the install now
installs_by : {K : Type 0} → (saving : K → NodeRecord → Saving K) (c : Cluster) (me : ℕ) (x z : UpNode) (i : Install) (seat : Seat) (given after : List Output) (disk left : K) (r : Result UpNode Stop)
    → z ≡ with_seat x (install_of i seat) → changed_by i seat ≡ true → Follows saving (settling c me z i) given disk r after left → Follows saving (installing_here c me x i seat) given disk r after left
installs_by saving c me x z i (Member s) given after disk left r so holds h = absurd (false≢true holds)
installs_by saving c me x z i (Forming s) given after disk left r so holds h =
    subst (λ (b : Bool). Follows saving (if b then settling c me (with_seat x (Forming (installed_with s i))) i else Stays x) given disk r after left) (sym holds)
    (subst (λ (n : UpNode). Follows saving (settling c me n i) given disk r after left) (so ∙ ap (λ (b : Bool). with_seat x (if b then Forming (installed_with s i) else Forming s)) holds) h)

pub installs_so : {K : Type 0} → (saving : K → NodeRecord → Saving K) (c : Cluster) (me : ℕ) (x z : UpNode) (i : Install) (changed : Bool) (given after : List Output) (disk left : K) (r s : Result UpNode Stop)
    → z ≡ installed_in i x → changed ≡ changed_by i x.seat → changed ≡ true → s ≡ r → Follows saving (settling c me z i) given disk r after left → Follows saving (installing_here c me x i x.seat) given disk s after left
installs_so saving c me x z i changed given after disk left r s so is holds same h =
    subst (λ (o : Result UpNode Stop). Follows saving (installing_here c me x i x.seat) given disk o after left) (sym same) (installs_by saving c me x z i x.seat given after disk left r so (sym is ∙ holds) h)

-- whatever the node is left as, this is told
pub ends_so : (me : ℕ) (x y : UpNode) (a : AttemptState) (e : AttemptEnd) (given after : List Output) (r : Result (Unit {0}) Stop)
    → Some a ≡ x.attempt → y ≡ resting x → ((z : UpNode) → Gives (end_told me z a e) given (left_so z r) after) → Gives (ending me x e x.attempt) given (left_so y r) after
ends_so me x y a e given after r is so told =
    subst (λ (o : Option AttemptState). Gives (ending me x e o) given (left_so y r) after) is
    (subst (λ (n : UpNode). Gives (end_told me (resting x) a e) given (left_so n r) after) (sym so) (told (resting x)))
