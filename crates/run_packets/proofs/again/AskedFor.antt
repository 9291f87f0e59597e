-- While fewer than 2^63 lines are said an Answer that comes to a member is to a Request that had come to the president since it became a member.
use Rattle.std.specs.Prelude.{ℕ, ◌≡◌, ◌≢◌, ◌==◌, ◌&&◌, ◌||◌, Bool, true, false, List, ◌∷◌, Option, Some}
use Rattle.std.proofs.Common.{refl, ap, sym, subst, ◌∙◌}
use Rattle.cl_base.specs.declared.header.Header.{Header}
use Rattle.cmm_attempt.proofs.Basics.{and_cases, false_true, none_some, same_number, same_some}
use Rattle.history.specs.Letters.{Letter, is_letter, letter_of, passes, reached, says}
use Rattle.history.specs.Member.{member_of}
use Rattle.history.specs.Moment.{Moment}
use Rattle.history.specs.Names as name
use Rattle.history.specs.Names.{named, same_name}
use Rattle.history.specs.Order.{Always}
use Rattle.history.specs.Setting.{coordinator}
use Rattle.history.specs.Trace.{delivered}
use Rattle.history_setting.specs.Settings.{setting_of}
use Rattle.node_model.specs.declared.node.Node.{Node}
use Rattle.node_model.specs.declared.node.Node.TheVariants.{Down, Up}
use Rattle.node_model.specs.declared.seat.Seat.{Seat}
use Rattle.node_model.specs.declared.seat.Seat.TheVariants.{Forming, Member}
use Rattle.run_commands.proofs.acknowledged.Laws.{reads}
use Rattle.run_commands.proofs.acknowledged.OwnLaws.{answers_in_each}
use Rattle.run_commands.proofs.acknowledged.OwnReads.{reads_own}
use Rattle.run_commands.proofs.acknowledged.Pendings.{acks_pending_in_each}
use Rattle.run_commands.proofs.carried.Causes.{AnswerOwn, ArrivedSo}
use Rattle.run_commands.proofs.carried.Flying.{arrived_so}
use Rattle.run_commands.proofs.carried.Laws.{reads as reads_words}
use Rattle.run_commands.proofs.carried.Runs.{FewLines, carries_of}
use Rattle.run_commands.specs.acknowledged.Askings.{IsLetterOf, is_request}
use Rattle.run_commands.specs.acknowledged.Requested.{IsToAnother, WasSent}
use Rattle.run_history.specs.Scenes.{Scene}
use Rattle.run_messages.proofs.Reaching.{IsReached, IsSmall}
use Rattle.run_messages.proofs.Runs.{memberships_of_each_run}
use Rattle.run_messages.specs.Laws.{IsSeated, membership_in}
use Rattle.run_packets.proofs.prepares.Lines.{same_number as is_itself}
use Rattle.wire.specs.declared.message.Body.{Body}
use Rattle.wire.specs.declared.message.Body.TheVariants as body
use Rattle.wire.specs.declared.message.Message.{Message}
use Rattle.world_model.specs.First.{first_cluster}
use Rattle.world_model.specs.Sends.{name_of}
use Rattle.run_packets.specs.again.Ages.{HasAnswer, HeardIn, NodeHeard, current}
use Rattle.run_packets.specs.again.Asking.{Heard, heard_in}
use Rattle.run_packets.specs.again.Coming.{HasCome, IsAskedFor, ToldWell, is_asking}
use Rattle.run_packets.specs.again.Exchanges.{exchanged_in, is_answer_in, is_request_in, memberships}
use Rattle.run_packets.proofs.again.Carried.{told_in_each}
use Rattle.run_packets.proofs.again.Exchanged.{exchanged_since}
use Rattle.run_packets.proofs.again.Holding.{AreAskedFor}
use Rattle.run_packets.proofs.again.Memberships.{letters_at, number_sent, reached_before, same_membership}

-- ---- tests

both_true : (a b : Bool) → a ≡ true → b ≡ true → (a && b) ≡ true
both_true a b h k = cc

or_left : (a b : Bool) → a ≡ true → (a || b) ≡ true
or_left true b h = refl
or_left false b h = cc

-- an Answer that is heard is what the message says
some_heard : (b : Body) (e q : ℕ) → heard_in b ≡ Some (record { epoch = e; number = q }) → (R : Type 0) → ((text : List ℕ) → b ≡ body.Answer e q text → R) → R
some_heard (body.Answer f r text) e q is R so =
    so text (ap (λ (z : Heard). body.Answer z.epoch z.number text) (same_some (record { epoch = f; number = r }) (record { epoch = e; number = q }) is))
some_heard _ e q is R so = absurd (none_some (record { epoch = e; number = q }) is)

-- whether it is a Request of this membership is read off its bytes
request_read : (q e : ℕ) (o : Option Body) → is_request q e o ≡ true → (R : Type 0) → ((text : List ℕ) → o ≡ Some (body.Request e q text) → R) → R
request_read q e (Some (body.Request f r text)) is R so =
    let two : ((f == e) ≡ true) × ((r == q) ≡ true) = and_cases (f == e) (r == q) is in
    so text (ap (λ z. Some (body.Request z r text)) (same_number f e two.0) ∙ ap (λ z. Some (body.Request e z text)) (same_number r q two.1))
request_read q e _ is R so = absurd (false_true is)

-- ---- a member

-- the Request was sent since n became a member
asked_in : (n c q e : ℕ) (ms : List Moment) → ToldWell ms → member_of n ms ≡ Some e → (j : Letter) → WasSent j ms → is_asking n c q e j ≡ true → is_request_in n c q (memberships n ms) j ≡ true
asked_in n c q e ms told member j was asking =
    let two : (is_letter (name.Request q) n c j ≡ true) × (is_request q e (says j.bytes) ≡ true) = and_cases (is_letter (name.Request q) n c j) (is_request q e (says j.bytes)) asking in
    let from : ((j.from == n) ≡ true) = (and_cases (same_name j.name (name.Request q)) (j.from == n) (and_cases (same_name j.name (name.Request q) && (j.from == n)) (j.to == c) two.0).0).1 in
    request_read q e (says j.bytes) two.1 (is_request_in n c q (memberships n ms) j ≡ true)
    (λ text said.
    both_true (is_letter (name.Request q) n c j) (memberships n j.before == memberships n ms) two.0
    (ap (λ k. k == memberships n ms) (same_membership n e q text j (same_number j.from n from) said ms told.fresh member was) ∙ is_itself (memberships n ms)))

-- what is known of the letters of a scene
record Lettered (ms : List Moment) : Type 0 where
  told : ToldWell ms
  others : Always IsToAnother ms

answered_so : (n number from e q : ℕ) (text : List ℕ) (m : Message) (ms : List Moment) → m.body ≡ body.Answer e q text → ArrivedSo (delivered number from n ∷ ms) n from m → Lettered ms → member_of n ms ≡ Some e
    → HasAnswer n e (current n (delivered number from n ∷ ms)) q
answered_so n number from e q text m ms is z k member =
    exchanged_since n (coordinator e) q (delivered number from n ∷ ms) (or_left (passes (is_answer_in n (coordinator e) q (memberships n ms)) (letter_of number ms)) (exchanged_in n (coordinator e) q (memberships n ms) ms)
    (ap (passes (is_answer_in n (coordinator e) q (memberships n ms))) z.here ∙ answer))
  where
    called : z.letter.name ≡ name.Answer q
    called = z.called ∙ ap (λ (b : Body). named (name_of b)) is

    own : z.letter.from ≡ coordinator e
    own = subst (AnswerOwn z.letter.from) is z.own

    other : z.letter.to ≢ z.letter.from
    other = letters_at IsToAnother (λ j. (r : ℕ) → j.name ≡ name.Answer r → j.to ≢ j.from) (λ p a b c bytes before so. so) number ms z.letter k.others z.here q called

    came : HasCome z.letter.to z.letter.from q e z.letter.before
    came = letters_at (IsLetterOf IsAskedFor) IsAskedFor (λ p a b c bytes before so. so) number ms z.letter k.told.answers z.here e q text other (z.says_so ∙ ap (λ b. Some b) is)

    here : HasCome n (coordinator e) q e z.letter.before
    here = subst (λ i. HasCome i (coordinator e) q e z.letter.before) z.to (subst (λ c. HasCome z.letter.to c q e z.letter.before) own came)

    letter_so : is_letter (name.Answer q) (coordinator e) n z.letter ≡ true
    letter_so =
        both_true (same_name z.letter.name (name.Answer q) && (z.letter.from == coordinator e)) (z.letter.to == n)
        (both_true (same_name z.letter.name (name.Answer q)) (z.letter.from == coordinator e) (subst (λ c. same_name c (name.Answer q) ≡ true) (sym called) (is_itself q)) (ap (λ c. c == coordinator e) own ∙ is_itself (coordinator e)))
        (ap (λ i. i == n) z.to ∙ is_itself n)

    answer : is_answer_in n (coordinator e) q (memberships n ms) z.letter ≡ true
    answer =
        both_true (is_letter (name.Answer q) (coordinator e) n z.letter) (reached (is_request_in n (coordinator e) q (memberships n ms)) z.letter.before) letter_so
        (reached_before (is_asking n (coordinator e) q e) (is_request_in n (coordinator e) q (memberships n ms)) z.letter ms (number_sent number ms z.letter z.here) (asked_in n (coordinator e) q e ms k.told member) here)

-- ---- each scene of a run

letters_of : (h : Header) (cells : ℕ) (s : Scene) → IsSmall h → IsReached h cells s → FewLines s.moments → Lettered s.moments
letters_of h cells s size r few =
    subst (λ (t : Scene). FewLines t.moments → Lettered t.moments) r.is
    (λ lines. record {
      told = told_in_each h cells r.happenings size r.may lines;
      others = (answers_in_each (setting_of h) h cells r.happenings (reads h) (reads_own h) size r.may lines (acks_pending_in_each h cells r.happenings size.few size.small r.may)).others;
    }) few

seats_at : (h : Header) (cells : ℕ) (s : Scene) (n : ℕ) → IsSmall h → IsReached h cells s → IsSeated s.moments n (s.nodes.node n)
seats_at h cells s n size r = subst (λ (t : Scene). IsSeated t.moments n (t.nodes.node n)) r.is (memberships_of_each_run h cells r.happenings size.few size.small r.may n)

pub asked_for_each : (h : Header) (cells : ℕ) → IsSmall h → (s : Scene) → IsReached h cells s → FewLines s.moments → AreAskedFor (first_cluster h) s
asked_for_each h cells size s r few number x m now ends may = by_node (s.nodes.node x.to) (seats_at h cells s x.to size r)
  where
    z : ArrivedSo (delivered number x.from x.to ∷ s.moments) x.to x.from m
    z = arrived_so s.moments s.links number x m may.0 may.1 (carries_of (setting_of h) h cells s (reads_words h) size r few).flying

    by_seat : (seat : Seat) → member_of x.to s.moments ≡ membership_in seat → HeardIn (heard_in m.body) x.to (current x.to (delivered number x.from x.to ∷ s.moments)) seat
    by_seat (Forming t) seated = tt
    by_seat (Member t) seated = λ q is.
        some_heard m.body t.session q is (HasAnswer x.to t.session (current x.to (delivered number x.from x.to ∷ s.moments)) q)
        (λ text says_so. answered_so x.to number x.from t.session q text m s.moments says_so z (letters_of h cells s size r few) seated)

    by_node : (node : Node) → IsSeated s.moments x.to node → NodeHeard (heard_in m.body) x.to (delivered number x.from x.to ∷ s.moments) node
    by_node Down seated = tt
    by_node (Up y) seated = by_seat y.seat seated
