-- A request that waits at a node was asked for in its membership, with its words, if it is an update's.
use Rattle.std.specs.Prelude.{ℕ, ◌≡◌, ◌≤◌, Bool, true, false, List, [], ◌∷◌, Option, None, Some, Ok, option_map}
use Rattle.std.specs.List.{AllByRecursion}
use Rattle.std.specs.Option.{option_and_then}
use Rattle.std.proofs.Common.{refl, sym, ap, subst, ◌∙◌, inl, inr}
use Rattle.admin_words.specs.Commands.{request_of}
use Rattle.admin_words.specs.declared.request.Request.TheVariants as wish
use Rattle.ccr_tables.specs.declared.update.Update.{Update}
use Rattle.cmm_attempt.proofs.Basics.{none_some, same_some}
use Rattle.request_queue.specs.Queue as queue
use Rattle.request_queue.specs.Queue.{Queue, oldest}
use Rattle.request_queue.specs.declared.request.Request.{Request}
use Rattle.update_words.specs.Words.{words_of}
use Rattle.history.specs.Member.{member_of}
use Rattle.history.specs.Moment.{Moment}
use Rattle.history.specs.Requests.{asked_in, before_asking, command_before, command_of, words_before}
use Rattle.history.specs.Order.{before_last, since}
use Rattle.history.specs.Requests.{is_asking}
use Rattle.history.specs.Seizing.{is_boot, is_number}
use Rattle.history.specs.Setting.{Setting, coordinator}
use Rattle.node_model.specs.declared.cluster.Cluster.{Cluster}
use Rattle.node_model.specs.Seats.{version_of}
use Rattle.run_history.proofs.Idle.{if_true}
use Rattle.run_commands.specs.carried.Guards.{pair_of}
use Rattle.run_commands.proofs.carried.Queues.{Queued, Waits}
use Rattle.run_commands.specs.acknowledged.Askings.{AskedOnce}
use Rattle.run_commands.specs.acknowledged.Guards.{IsIn}
use Rattle.run_commands.specs.acknowledged.Steps.{Backed, IsQuiet}
use Rattle.run_commands.proofs.acknowledged.Askings.{asked_text, is_numbered}
use Rattle.run_commands.proofs.acknowledged.Requests.{own_comes}

-- what is read of canonical words as an update has these words
abbrev pub ReadsUpdates : Cluster → Setting → Type 0
ReadsUpdates c S = (words text : List ℕ) (u : Update) → S.canonical words ≡ Some text → request_of (version_of c) text ≡ Ok (wish.Change u) → words_of u ≡ text

-- the words of a command are canonical
command_words : (c : Cluster) (S : Setting) (ms : List Moment) (text : List ℕ) (u : Update) → ReadsUpdates c S → command_before S ms ≡ Some text → request_of (version_of c) text ≡ Ok (wish.Change u) → words_of u ≡ text
command_words c S ms text u reads is read = by (words_before ms) is
  where
    by : (o : Option (List ℕ)) → option_and_then S.canonical o ≡ Some text → words_of u ≡ text
    by None e = absurd (none_some text e)
    by (Some words) e = reads words text u e read

pub waiting_says : (c : Cluster) (S : Setting) (n e last : ℕ) (ms : List Moment) (r : Request) (u : Update) → ReadsUpdates c S → Waits S n ms (Some e) last r → IsQuiet c r → request_of (version_of c) r.text ≡ Ok (wish.Change u)
    → asked_in S e n r.number ms ≡ Some (words_of u)
waiting_says c S n e last ms r u reads h quiet read = by_told r.told refl
  where
    by_told : (b : Bool) → r.told ≡ b → asked_in S e n r.number ms ≡ Some (words_of u)
    by_told false is = absurd (quiet is u read)
    by_told true is =
        let words : command_of S n r.number ms ≡ Some r.text = h.words is in
        if_true (is_number e (member_of n (before_asking n r.number ms))) (command_of S n r.number ms) None (is_numbered e (member_of n (before_asking n r.number ms)) (h.member is))
        ∙ (words ∙ ap (λ t. Some t) (sym (command_words c S (before_last (is_asking n r.number) (since (is_boot n) ms)) r.text u reads words read)))

-- each of those that wait
one_of : (P : Request → Type 0) (r : Request) (rs : List Request) → AllByRecursion P rs → IsIn r rs → P r
one_of P r [] h is = absurd is
one_of P r (x ∷ xs) h (inl e) = subst P (sym e) h.0
one_of P r (x ∷ xs) h (inr k) = one_of P r xs h.1 k

-- one of the president's own has come
pub own_backed : (c : Cluster) (S : Setting) (n e : ℕ) (ms : List Moment) (v : Option ℕ) (q : Queue) (r : Request) → ReadsUpdates c S → AskedOnce ms → coordinator e ≡ n → v ≡ Some e → Queued S n ms v q
    → AllByRecursion (IsQuiet c) q.waiting → IsIn r q.waiting → Backed S c e ms n r.number r.text
own_backed c S n e ms v q r reads once own at h quiet is u read =
    own_comes S n r.number e (words_of u) ms once (sym own)
    (asked_text S n r.number e (words_of u) ms
    (waiting_says c S n e q.asked ms r u reads (subst (λ z. Waits S n ms z q.asked r) at (one_of (Waits S n ms v q.asked) r q.waiting h.waits is)) (one_of (IsQuiet c) r q.waiting quiet is) read))

-- the oldest may be sent
pub oldest_says : (c : Cluster) (S : Setting) (n e k : ℕ) (text : List ℕ) (ms : List Moment) (v : Option ℕ) (q : Queue) (u : Update) → ReadsUpdates c S → ((f : ℕ) → v ≡ Some f → f ≡ e) → Queued S n ms v q
    → AllByRecursion (IsQuiet c) q.waiting → option_map pair_of (oldest q) ≡ Some (k, text) → request_of (version_of c) text ≡ Ok (wish.Change u) → asked_in S e n k ms ≡ Some (words_of u)
oldest_says c S n e k text ms v q u reads at h quiet is read = by_list q.waiting h.waits quiet h.none is
  where
    by_seat : (r : Request) (w : Option ℕ) → v ≡ w → Waits S n ms w q.asked r → IsQuiet c r → (w ≡ None → ⊥) → r.number ≡ k → r.text ≡ text → asked_in S e n k ms ≡ Some (words_of u)
    by_seat r None same wait calm some number words = absurd (some refl)
    by_seat r (Some f) same wait calm some number words =
        subst (λ j. asked_in S e n j ms ≡ Some (words_of u)) number
        (subst (λ g. asked_in S g n r.number ms ≡ Some (words_of u)) (at f same)
        (waiting_says c S n f q.asked ms r u reads wait calm (ap (λ t. request_of (version_of c) t) words ∙ read)))

    by_list : (rs : List Request) → AllByRecursion (Waits S n ms v q.asked) rs → AllByRecursion (IsQuiet c) rs → (v ≡ None → rs ≡ []) → option_map pair_of (queue.oldest_in rs) ≡ Some (k, text)
        → asked_in S e n k ms ≡ Some (words_of u)
    by_list [] all calm none e = absurd (none_some (k, text) e)
    by_list (r ∷ rs) all calm none e =
        let same : pair_of r ≡ (k, text) = same_some (pair_of r) (k, text) e in
        by_seat r v refl all.0 calm.0 (λ e. some_one r rs (none e)) (ap (λ (p : ℕ × List ℕ). p.0) same) (ap (λ (p : ℕ × List ℕ). p.1) same)
      where
        some_one : (x : Request) (xs : List Request) → x ∷ xs ≡ [] → ⊥
        some_one x xs z = cc

-- .. where the node is a member, and the number is no more than the last
pub oldest_goes : (S : Setting) (n e k : ℕ) (text : List ℕ) (ms : List Moment) (v : Option ℕ) (q : Queue) → ((f : ℕ) → v ≡ Some f → f ≡ e) → Queued S n ms v q → option_map pair_of (oldest q) ≡ Some (k, text)
    → (v ≡ Some e) × (k ≤ q.asked)
oldest_goes S n e k text ms v q at h is = by_list q.waiting h.waits h.none is
  where
    by_seat : (w : Option ℕ) → v ≡ w → (w ≡ None → ⊥) → v ≡ Some e
    by_seat None same some = absurd (some refl)
    by_seat (Some f) same some = same ∙ ap (λ g. Some g) (at f same)

    by_list : (rs : List Request) → AllByRecursion (Waits S n ms v q.asked) rs → (v ≡ None → rs ≡ []) → option_map pair_of (queue.oldest_in rs) ≡ Some (k, text) → (v ≡ Some e) × (k ≤ q.asked)
    by_list [] all none z = absurd (none_some (k, text) z)
    by_list (r ∷ rs) all none z =
        let same : pair_of r ≡ (k, text) = same_some (pair_of r) (k, text) z in
        (by_seat v refl (λ no. some_one r rs (none no)), subst (λ j. j ≤ q.asked) (ap (λ (p : ℕ × List ℕ). p.0) same) all.0.number)
      where
        some_one : (x : Request) (xs : List Request) → x ∷ xs ≡ [] → ⊥
        some_one x xs y = cc
