-- An update is proposed: it is told, saved, and then sent.
use Rattle.std.proofs.Common.{◌≡◌, ℕ, ◌==◌, Bool, true, false, if◌then◌else◌, List, [], ◌∷◌, ◌++◌, None, Some, Result, Ok, Err, refl, inr, ap, subst, sym, ◌∙◌}
use Rattle.cmm_member.specs.Records.{NodeRecord}
use Rattle.record_disk.specs.Savings.{Saving}
use Rattle.wire.specs.declared.message.Body.TheVariants as body
use Rattle.node_model.specs.declared.cluster.Cluster.{Cluster}
use Rattle.node_model.specs.declared.node.UpNode.{UpNode}
use Rattle.node_model.specs.declared.output.Output.{Output}
use Rattle.node_model.specs.declared.presidency.Presidency.{Presidency}
use Rattle.node_model.specs.declared.stop.Stop.{Stop}
use Rattle.node_model.specs.declared.stop.Stop.TheVariants.{Down, NoMemory}
use Rattle.node_model.specs.Plans.{Plan, Follows, KeepFails}
use Rattle.node_model.specs.Plans.Plan.{Stays, Says, Saves}
use Rattle.node_model.specs.Presidents.{acknowledging, next_place, others_of, proposed_by, proposing_so, sent_to}
use Rattle.node_model.specs.Seats.{record_of, session_of, state_of}
use Rattle.node_model.proofs.Plans.{follows_saves, follows_says}
use Rattle.node_presidents.specs.Presidents.{acknowledgement, asked_of, holding_next, proposal, proposed_line, proposing_by, saved_line}

-- what is told before the save, and all that is told until the update is sent
abbrev told_first : UpNode → List ℕ → List Output → List Output
told_first x text given = given ++ proposed_line (session_of x) (next_place x) text ∷ []

abbrev told_all : ℕ → UpNode → List ℕ → List Output → List Output
told_all me x text given = (told_first x text given ++ saved_line me ∷ []) ++ sent_to (others_of me x) (body.Prepare (session_of x) (next_place x) text)

-- what follows: a president alone acknowledges at once
abbrev rest_of : Cluster → ℕ → UpNode → Bool → Plan
rest_of c me y alone = if alone then acknowledging c me y else Stays y

proposed_so : {K : Type 0} → (saving : K → NodeRecord → Saving K) (c : Cluster) (me : ℕ) (x y : UpNode) (text : List ℕ) (given after : List Output) (disk left : K) (result : Result UpNode Stop)
    → (saving disk (record_of y)).lost ≡ None → Follows saving (rest_of c me y (others_of me x == 0)) (told_all me x text given) (saving disk (record_of y)).after result after left
    → Follows saving (proposing_so c me x text y) given disk result after left
proposed_so saving c me x y text given after disk left result saved h =
    let sent = sent_to (others_of me x) (body.Prepare (session_of x) (next_place x) text) in
    let rest = rest_of c me y (others_of me x == 0) in
    let told = told_first x text given in
    follows_says saving (proposed_line (session_of x) (next_place x) text ∷ []) (Saves (record_of y) (Says (saved_line me ∷ []) (Says sent rest))) given after disk left result
    (follows_saves saving (record_of y) (Says (saved_line me ∷ []) (Says sent rest)) told after disk left result saved
    (follows_says saving (saved_line me ∷ []) (Says sent rest) told after (saving disk (record_of y)).after left result
    (follows_says saving sent rest (told ++ saved_line me ∷ []) after (saving disk (record_of y)).after left result h)))

held_is : (c : Cluster) (me : ℕ) (x y : UpNode) (p : Presidency) (text : List ℕ) (place others : ℕ) → place ≡ next_place x → others ≡ others_of me x → x.presidency ≡ Some p
    → y ≡ asked_of (holding_next c x text) place others x.presidency → y ≡ proposed_by c me x p text
unfolding holding_next
held_is c me x y p text place others at to is held =
    held ∙ ap (λ n. asked_of (holding_next c x text) n others x.presidency) at ∙ ap (λ n. asked_of (holding_next c x text) (next_place x) n x.presidency) to ∙ ap (λ found. asked_of (holding_next c x text) (next_place x) (others_of me x) found) is

told_is : (me : ℕ) (x : UpNode) (text : List ℕ) (epoch place others : ℕ) (given told mid : List Output) → epoch ≡ session_of x → place ≡ next_place x → others ≡ others_of me x
    → told ≡ given ++ proposed_line epoch place text ∷ [] → mid ≡ (told ++ saved_line me ∷ []) ++ sent_to others (body.Prepare epoch place text) → mid ≡ told_all me x text given
told_is me x text epoch place others given told mid in_it at to first all =
    all ∙ ap (λ os. (os ++ saved_line me ∷ []) ++ sent_to others (body.Prepare epoch place text)) first
    ∙ ap (λ n. ((given ++ proposed_line n place text ∷ []) ++ saved_line me ∷ []) ++ sent_to others (body.Prepare n place text)) in_it
    ∙ ap (λ n. ((given ++ proposed_line (session_of x) n text ∷ []) ++ saved_line me ∷ []) ++ sent_to others (body.Prepare (session_of x) n text)) at
    ∙ ap (λ n. (told_first x text given ++ saved_line me ∷ []) ++ sent_to n (body.Prepare (session_of x) (next_place x) text)) to

-- it is saved and sent, and then ..
proposed_then : {K : Type 0} → (saving : K → NodeRecord → Saving K) (c : Cluster) (me : ℕ) (x y : UpNode) (p : Presidency) (text : List ℕ) (epoch place others : ℕ) (alone : Bool)
    (given told mid after : List Output) (disk between left : K) (result : Result UpNode Stop)
    → epoch ≡ session_of x → place ≡ next_place x → others ≡ others_of me x → x.presidency ≡ Some p → y ≡ asked_of (holding_next c x text) place others x.presidency
    → told ≡ given ++ proposed_line epoch place text ∷ [] → mid ≡ (told ++ saved_line me ∷ []) ++ sent_to others (body.Prepare epoch place text)
    → (saving disk (record_of y)).lost ≡ None → between ≡ (saving disk (record_of y)).after → (others == 0) ≡ alone
    → Follows saving (rest_of c me y alone) mid between result after left → Follows saving (proposing_by c me x text x.presidency) given disk result after left
proposed_then saving c me x y p text epoch place others alone given told mid after disk between left result in_it at to is held first all saved kept test h =
    let same = held_is c me x y p text place others at to is held in
    let at_all = subst (λ os. Follows saving (rest_of c me y alone) os between result after left) (told_is me x text epoch place others given told mid in_it at to first all) h in
    let at_disk = subst (λ d. Follows saving (rest_of c me y alone) (told_all me x text given) d result after left) kept at_all in
    let at_test = subst (λ b. Follows saving (rest_of c me y b) (told_all me x text given) (saving disk (record_of y)).after result after left) (sym test ∙ ap (λ n. n == 0) to) at_disk in
    let whole = proposed_so saving c me x y text given after disk left result saved at_test in
    subst (λ found. Follows saving (proposing_by c me x text found) given disk result after left) (sym is)
    (subst (λ z. Follows saving (proposing_so c me x text z) given disk result after left) same whole)

asked_is : (c : Cluster) (x u y : UpNode) (text : List ℕ) (place others : ℕ) → u ≡ holding_next c x text → y ≡ asked_of u place others u.presidency → y ≡ asked_of (holding_next c x text) place others x.presidency
unfolding holding_next
asked_is c x u y text place others is h = subst (λ z. y ≡ asked_of z place others z.presidency) is h

-- a president alone
pub proposed_alone : {K : Type 0} → (saving : K → NodeRecord → Saving K) (c : Cluster) (me : ℕ) (x u y : UpNode) (p : Presidency) (text : List ℕ) (epoch place others : ℕ)
    (given told mid after : List Output) (disk between left : K) (result : Result UpNode Stop)
    → epoch ≡ session_of x → place ≡ next_place x → others ≡ others_of me x → x.presidency ≡ Some p → u ≡ holding_next c x text → y ≡ asked_of u place others u.presidency
    → told ≡ given ++ proposed_line epoch place text ∷ [] → mid ≡ (told ++ saved_line me ∷ []) ++ sent_to others (body.Prepare epoch place text)
    → (saving disk (state_of y.seat).saved).lost ≡ None → between ≡ (saving disk (state_of y.seat).saved).after → (others == 0) ≡ true
    → Follows saving (acknowledgement c me y) mid between result after left → Follows saving (proposal c me x text x.presidency) given disk result after left
unfolding acknowledgement proposal
proposed_alone saving c me x u y p text epoch place others given told mid after disk between left result in_it at to is held asked first all saved kept test h =
    proposed_then saving c me x y p text epoch place others true given told mid after disk between left result in_it at to is (asked_is c x u y text place others held asked) first all saved kept test h

-- the other members are asked
pub proposed_asks : {K : Type 0} → (saving : K → NodeRecord → Saving K) (c : Cluster) (me : ℕ) (x u y : UpNode) (p : Presidency) (text : List ℕ) (epoch place others : ℕ)
    (given told mid : List Output) (disk between : K)
    → epoch ≡ session_of x → place ≡ next_place x → others ≡ others_of me x → x.presidency ≡ Some p → u ≡ holding_next c x text → y ≡ asked_of u place others u.presidency
    → told ≡ given ++ proposed_line epoch place text ∷ [] → mid ≡ (told ++ saved_line me ∷ []) ++ sent_to others (body.Prepare epoch place text)
    → (saving disk (state_of y.seat).saved).lost ≡ None → between ≡ (saving disk (state_of y.seat).saved).after → (others == 0) ≡ false
    → Follows saving (proposal c me x text x.presidency) given disk (Ok y) mid between
unfolding proposal
proposed_asks saving c me x u y p text epoch place others given told mid disk between in_it at to is held asked first all saved kept test =
    proposed_then saving c me x y p text epoch place others false given told mid mid disk between between (Ok y) in_it at to is (asked_is c x u y text place others held asked) first all saved kept test (refl, refl, refl)

lost_in : {K : Type 0} → (saving : K → NodeRecord → Saving K) (l : Output) (r : NodeRecord) (rest : Plan) (given after : List Output) (disk left : K) (stop : Stop)
    → KeepFails (saving disk r) (given ++ l ∷ []) after left stop → Follows saving (Says (l ∷ []) (Saves r rest)) given disk (Err stop) after left
lost_in saving l r rest given after disk left (Down why) h = inr h
lost_in saving l r rest given after disk left NoMemory h = tt

-- the save is lost
pub proposal_lost : {K : Type 0} → (saving : K → NodeRecord → Saving K) (c : Cluster) (me : ℕ) (x u y : UpNode) (p : Presidency) (text : List ℕ) (epoch place others : ℕ)
    (given told after : List Output) (disk left : K) (stop : Stop)
    → epoch ≡ session_of x → place ≡ next_place x → others ≡ others_of me x → x.presidency ≡ Some p → u ≡ holding_next c x text → y ≡ asked_of u place others u.presidency
    → told ≡ given ++ proposed_line epoch place text ∷ [] → KeepFails (saving disk (state_of y.seat).saved) told after left stop
    → Follows saving (proposal c me x text x.presidency) given disk (Err stop) after left
unfolding proposal
proposal_lost saving c me x u y p text epoch place others given told after disk left stop in_it at to is held asked first fails =
    let same = held_is c me x y p text place others at to is (asked_is c x u y text place others held asked) in
    let told_so : told ≡ told_first x text given =
    first ∙ ap (λ n. given ++ proposed_line n place text ∷ []) in_it ∙ ap (λ n. given ++ proposed_line (session_of x) n text ∷ []) at in
    let sent = sent_to (others_of me x) (body.Prepare (session_of x) (next_place x) text) in
    let rest = Says (saved_line me ∷ []) (Says sent (rest_of c me y (others_of me x == 0))) in
    let whole = lost_in saving (proposed_line (session_of x) (next_place x) text) (record_of y) rest given after disk left stop
    (subst (λ os. KeepFails (saving disk (record_of y)) os after left stop) told_so fails) in
    subst (λ found. Follows saving (proposing_by c me x text found) given disk (Err stop) after left) (sym is)
    (subst (λ z. Follows saving (proposing_so c me x text z) given disk (Err stop) after left) same whole)

-- no president proposes anything
pub proposes_nothing : {K : Type 0} → (saving : K → NodeRecord → Saving K) (c : Cluster) (me : ℕ) (x : UpNode) (text : List ℕ) (given : List Output) (disk : K)
    → x.presidency ≡ None → Follows saving (proposal c me x text x.presidency) given disk (Ok x) given disk
unfolding proposal
proposes_nothing saving c me x text given disk is = subst (λ found. Follows saving (proposing_by c me x text found) given disk (Ok x) given disk) (sym is) (refl, refl, refl)
