-- The queue of a node is what it asked: each command that waits has its line, with its words, in this membership.
use Rattle.std.specs.Prelude.{ℕ, ◌≡◌, ◌<◌, ◌≤◌, ◌==◌, ◌++◌, Bool, true, false, List, [], ◌∷◌, Option, None, Some, IfSome, option_map, if◌then◌else◌, ◌||◌}
use Rattle.std.specs.List.{AllByRecursion, list_any}
use Rattle.std.proofs.Common.{refl, sym, ap, subst, ◌∙◌}
use Rattle.cmm_attempt.proofs.Basics.{if_either, none_some, same_some}
use Rattle.request_queue.specs.Queue as queue
use Rattle.request_queue.specs.Queue.{Queue, found, oldest}
use Rattle.request_queue.specs.declared.request.Request.{Request}
use Rattle.history.specs.Member.{member_of}
use Rattle.history.specs.Moment.{Moment}
use Rattle.history.specs.Order.{before_last, since}
use Rattle.history.specs.Requests.{before_asking, command_before, command_of, is_asking}
use Rattle.history.specs.Seizing.{is_boot}
use Rattle.history.specs.Setting.{Setting}
use Rattle.std.specs.Option.{option_and_then}
use Rattle.node_model.specs.Seats.{is_member}
use Rattle.node_model.specs.declared.seat.Seat.{Seat}
use Rattle.node_model.specs.declared.seat.Seat.TheVariants.{Forming, Member}
use Rattle.node_model.specs.declared.node.UpNode.{UpNode}
use Rattle.run_history.proofs.Lists.{all_and}
use Rattle.run_messages.specs.Laws.{membership_in}
use Rattle.run_commands.specs.carried.Guards.{Command, FoundTold, MayMove, Move, QueueGoes, pair_of, told_number, waiting_after}
use Rattle.run_commands.specs.carried.Guards.Move.{Answers, Joins, Same}
use Rattle.run_commands.proofs.carried.Lines.{SameAsked, has_asked}

-- a request that waits: a command's has its line, asked in the membership v; a monitor's has none
pub record Waits (S : Setting) (n : ℕ) (ms : List Moment) (v : Option ℕ) (last : ℕ) (r : Request) : Type 0 where
  pub number : r.number ≤ last
  pub words : r.told ≡ true → command_of S n r.number ms ≡ Some r.text
  pub member : r.told ≡ true → member_of n (before_asking n r.number ms) ≡ v
  pub other : r.told ≡ false → has_asked n r.number ms ≡ false

-- .. and no command has a number above the last; a node that is no member has none that waits
pub record Queued (S : Setting) (n : ℕ) (ms : List Moment) (v : Option ℕ) (q : Queue) : Type 0 where
  pub waits : AllByRecursion (Waits S n ms v q.asked) q.waiting
  pub fresh : (k : ℕ) → q.asked < k → has_asked n k ms ≡ false
  pub none : v ≡ None → q.waiting ≡ []

-- the command that came has its line
pub record NowSo (S : Setting) (n : ℕ) (ms : List Moment) (last : ℕ) (c : Command) : Type 0 where
  pub number : c.number ≤ last
  pub words : (text : List ℕ) → c.text ≡ Some text → command_of S n c.number ms ≡ Some text
  pub member : member_of n (before_asking n c.number ms) ≡ c.session

-- ---- it stays so

wait_stays : (S : Setting) (n : ℕ) (before after : List Moment) (v : Option ℕ) (last : ℕ) (r : Request) → SameAsked S n before after → Waits S n before v last r → Waits S n after v last r
wait_stays S n before after v last r f h = record {
  number = h.number;
  words = λ told. f.command r.number ∙ h.words told;
  member = λ told. ap (λ ms. member_of n ms) (f.asking r.number) ∙ h.member told;
  other = λ told. f.asked r.number ∙ h.other told;
}

waits_stay : (S : Setting) (n : ℕ) (before after : List Moment) (v : Option ℕ) (last : ℕ) (rs : List Request) → SameAsked S n before after → AllByRecursion (Waits S n before v last) rs
    → AllByRecursion (Waits S n after v last) rs
waits_stay S n before after v last [] f h = tt
waits_stay S n before after v last (r ∷ rs) f h = (wait_stays S n before after v last r f h.0, waits_stay S n before after v last rs f h.1)

pub queued_stays : (S : Setting) (n : ℕ) (before after : List Moment) (v : Option ℕ) (q : Queue) → SameAsked S n before after → Queued S n before v q → Queued S n after v q
queued_stays S n before after v q f h = record {
  waits = waits_stay S n before after v q.asked q.waiting f h.waits;
  fresh = λ k above. f.asked k ∙ h.fresh k above;
  none = h.none;
}

pub now_stays : (S : Setting) (n : ℕ) (before after : List Moment) (last : ℕ) (c : Command) → SameAsked S n before after → NowSo S n before last c → NowSo S n after last c
now_stays S n before after last c f h = record {
  number = h.number;
  words = λ text is. f.command c.number ∙ h.words text is;
  member = ap (λ ms. member_of n ms) (f.asking c.number) ∙ h.member;
}

-- with the same numbers and the same that waits
pub queued_same : (S : Setting) (n : ℕ) (ms : List Moment) (v w : Option ℕ) (q p : Queue) → p.waiting ≡ q.waiting → p.asked ≡ q.asked → w ≡ v → Queued S n ms v q → Queued S n ms w p
queued_same S n ms v w q p waiting asked same h = record {
  waits =
      subst (λ k. AllByRecursion (Waits S n ms w k) p.waiting) (sym asked)
      (subst (λ u. AllByRecursion (Waits S n ms u q.asked) p.waiting) (sym same) (subst (λ rs. AllByRecursion (Waits S n ms v q.asked) rs) (sym waiting) h.waits));
  fresh = λ k above. h.fresh k (subst (λ j. j < k) asked above);
  none = λ is. waiting ∙ h.none (sym same ∙ is);
}

-- nothing waits any more, in whichever membership
pub queued_none : (S : Setting) (n : ℕ) (ms : List Moment) (v w : Option ℕ) (q p : Queue) → p.waiting ≡ [] → p.asked ≡ q.asked → Queued S n ms v q → Queued S n ms w p
queued_none S n ms v w q p waiting asked h = record {
  waits = subst (λ rs. AllByRecursion (Waits S n ms w p.asked) rs) (sym waiting) tt;
  fresh = λ k above. h.fresh k (subst (λ j. j < k) asked above);
  none = λ is. waiting;
}

-- ---- the queue moves

answered_waits : (P : Request → Type 0) (q : Queue) (k : ℕ) → AllByRecursion P q.waiting → AllByRecursion P (queue.answered q k).waiting
answered_waits P q k h = by_list q.waiting h h
  where
    by_list : (rs : List Request) → AllByRecursion P rs → AllByRecursion P q.waiting → AllByRecursion P (queue.left_of q rs k).waiting
    by_list [] all whole = whole
    by_list (r ∷ rs) all whole = if_either (λ (z : Queue). AllByRecursion P z.waiting) (r.number == k) (record q { waiting = rs; age = 0 }) q all.1 whole

answered_none : (q : Queue) (k : ℕ) → q.waiting ≡ [] → (queue.answered q k).waiting ≡ []
answered_none q k h = subst (λ rs. (queue.left_of q rs k).waiting ≡ []) (sym h) h

joined_waits : (S : Setting) (n : ℕ) (ms : List Moment) (v : Option ℕ) (last : ℕ) (o : Option Command) (x : UpNode) (r : Request) → membership_in x.seat ≡ v → IfSome o (NowSo S n ms last)
    → MayMove o x (Joins r) → Waits S n ms v last r
joined_waits S n ms v last None x r seat so may = absurd (none_some may.0.command may.0.is)
joined_waits S n ms v last (Some c) x r seat so may =
    let same : c ≡ may.0.command = same_some c may.0.command may.0.is in
    let number : c.number ≡ r.number = ap (λ (z : Command). z.number) same ∙ may.0.number in
    record {
      number = subst (λ k. k ≤ last) number so.number;
      words = λ told. subst (λ k. command_of S n k ms ≡ Some r.text) number (so.words r.text (ap (λ (z : Command). z.text) same ∙ may.1));
      member = λ told. subst (λ k. member_of n (before_asking n k ms) ≡ v) number (so.member ∙ (ap (λ (z : Command). z.session) same ∙ (may.0.session ∙ seat)));
      other = λ told. absurd (true_not_false (sym may.2 ∙ told));
    }
  where
    true_not_false : true ≡ false → ⊥
    true_not_false e = cc

-- what follows a move is as true
pub queue_goes : (S : Setting) (n : ℕ) (ms : List Moment) (v w : Option ℕ) (o : Option Command) (x : UpNode) (q : Queue) → membership_in x.seat ≡ v → w ≡ v → IfSome o (NowSo S n ms x.requests.asked)
    → QueueGoes o x q → Queued S n ms v x.requests → Queued S n ms w q
queue_goes S n ms v w o x q seat same so goes h = by_move goes.move goes.waiting goes.may
  where
    by_move : (m : Move) → q.waiting ≡ waiting_after m x → MayMove o x m → Queued S n ms w q
    by_move Same waiting may = queued_same S n ms v w x.requests q waiting goes.asked same h
    by_move (Answers k) waiting may =
        queued_same S n ms v w (record x.requests { waiting = (queue.answered x.requests k).waiting }) q waiting goes.asked same (record {
          waits = answered_waits (Waits S n ms v x.requests.asked) x.requests k h.waits;
          fresh = h.fresh;
          none = λ is. answered_none x.requests k (h.none is);
        })
    by_move (Joins r) waiting may =
        queued_same S n ms v w (record x.requests { waiting = x.requests.waiting ++ r ∷ [] }) q waiting goes.asked same (record {
          waits = all_and (Waits S n ms v x.requests.asked) x.requests.waiting r h.waits (joined_waits S n ms v x.requests.asked o x r seat so may);
          fresh = h.fresh;
          none = λ is. absurd (a_member x may.3 (seat ∙ is));
        })
      where
        a_member : (y : UpNode) → is_member y.seat ≡ true → membership_in y.seat ≡ None → ⊥
        a_member y at is = by_seat y.seat at is
          where
            by_seat : (seat : Seat) → is_member seat ≡ true → membership_in seat ≡ None → ⊥
            by_seat (Forming s) at is = cc
            by_seat (Member s) at is = cc

-- ---- what is sent of the oldest

before_nothing : (test : Moment → Bool) (xs : List Moment) → list_any test xs ≡ false → before_last test xs ≡ []
before_nothing test [] h = refl
before_nothing test (x ∷ xs) h = by_test (test x) h (before_nothing test xs)
  where
    by_test : (b : Bool) → (b || list_any test xs) ≡ false → (list_any test xs ≡ false → before_last test xs ≡ []) → (if b then xs else before_last test xs) ≡ []
    by_test true k rest = cc
    by_test false k rest = rest k

nothing_asked : (S : Setting) (n k : ℕ) (ms : List Moment) → has_asked n k ms ≡ false → command_of S n k ms ≡ None
nothing_asked S n k ms h = ap (λ xs. command_before S xs) (before_nothing (is_asking n k) (since (is_boot n) ms) h)

request_says : (S : Setting) (n : ℕ) (ms : List Moment) (v : Option ℕ) (last : ℕ) (r : Request) → Waits S n ms v last r → IfSome (command_of S n r.number ms) (λ words. r.text ≡ words)
request_says S n ms v last r h = by_told r.told refl
  where
    by_told : (b : Bool) → r.told ≡ b → IfSome (command_of S n r.number ms) (λ words. r.text ≡ words)
    by_told true is = subst (λ (o : Option (List ℕ)). IfSome o (λ words. r.text ≡ words)) (sym (h.words is)) refl
    by_told false is = subst (λ (o : Option (List ℕ)). IfSome o (λ words. r.text ≡ words)) (sym (nothing_asked S n r.number ms (h.other is))) tt

pub oldest_says : (S : Setting) (n : ℕ) (ms : List Moment) (v : Option ℕ) (q : Queue) (k : ℕ) (text : List ℕ) → Queued S n ms v q → option_map pair_of (oldest q) ≡ Some (k, text)
    → IfSome (command_of S n k ms) (λ words. text ≡ words)
oldest_says S n ms v q k text h is = by_list q.waiting h.waits is
  where
    by_list : (rs : List Request) → AllByRecursion (Waits S n ms v q.asked) rs → option_map pair_of (queue.oldest_in rs) ≡ Some (k, text) → IfSome (command_of S n k ms) (λ words. text ≡ words)
    by_list [] all e = absurd (none_some (k, text) e)
    by_list (r ∷ rs) all e =
        let same : pair_of r ≡ (k, text) = same_some (pair_of r) (k, text) e in
        subst (λ (p : ℕ × List ℕ). IfSome (command_of S n p.0 ms) (λ words. p.1 ≡ words)) same (request_says S n ms v q.asked r all.0)

-- the command of a request that is found was asked in this membership
pub found_member : (S : Setting) (n : ℕ) (ms : List Moment) (v : Option ℕ) (x : UpNode) (k : ℕ) → Queued S n ms v x.requests → FoundTold x k → member_of n (before_asking n k ms) ≡ v
found_member S n ms v x k h f = by_list x.requests.waiting h.waits f.is
  where
    by_list : (rs : List Request) → AllByRecursion (Waits S n ms v x.requests.asked) rs → found rs f.asked ≡ Some f.request → member_of n (before_asking n k ms) ≡ v
    by_list [] all e = absurd (none_some f.request e)
    by_list (r ∷ rs) all e = by_test (r.number == f.asked) e
      where
        by_test : (b : Bool) → (if b then Some r else None) ≡ Some f.request → member_of n (before_asking n k ms) ≡ v
        by_test true at =
            let same : r ≡ f.request = same_some r f.request at in
            subst (λ j. member_of n (before_asking n j ms) ≡ v) (ap (λ (z : Request). z.number) same ∙ f.number) (all.0.member (ap (λ (z : Request). z.told) same ∙ f.told))
        by_test false at = absurd (none_some f.request at)

-- .. and so was one that an acknowledgement takes out of the queue
pub taken_member : (S : Setting) (n : ℕ) (ms : List Moment) (v : Option ℕ) (q : Queue) (k : ℕ) → Queued S n ms v q → option_and_then told_number (oldest q) ≡ Some k → member_of n (before_asking n k ms) ≡ v
taken_member S n ms v q k h is = by_list q.waiting h.waits is
  where
    by_list : (rs : List Request) → AllByRecursion (Waits S n ms v q.asked) rs → option_and_then told_number (queue.oldest_in rs) ≡ Some k → member_of n (before_asking n k ms) ≡ v
    by_list [] all e = absurd (none_some k e)
    by_list (r ∷ rs) all e = by_told r.told refl e
      where
        by_told : (b : Bool) → r.told ≡ b → (if b then Some r.number else None) ≡ Some k → member_of n (before_asking n k ms) ≡ v
        by_told true so at = subst (λ j. member_of n (before_asking n j ms) ≡ v) (same_some r.number k at) (all.0.member so)
        by_told false so at = absurd (none_some k at)
