-- Each small step of a node: its attempt is the one under way by the lines, what it promised rests on what the lines tell, and each line is judged.
use Rattle.std.specs.Prelude.{ℕ, ◌<◌, ◌≡◌, ◌≤◌, ◌==◌, ◌++◌, Bool, true, false, List, [], ◌∷◌, length, Option, None, Some, All, ◌+◌, nat_le}
use Rattle.std.specs.List.{list_any}
use Rattle.std.proofs.Common.{refl, sym, ap, subst, ◌∙◌, arith, inl, inr}
use Rattle.attempt_laws.proofs.Stays.{plan_begins}
use Rattle.ccr_commit.specs.Entries.{all_committed}
use Rattle.cl_base.specs.declared.panic.Panic.TheVariants as panic
use Rattle.cmm_attempt.specs.Attempts.{AttemptState}
use Rattle.cmm_attempt.specs.Calls.{Call, IsDevice, turn}
use Rattle.cmm_attempt.specs.declared.step.AttemptEnd.{AttemptEnd}
use Rattle.cmm_attempt.specs.declared.step.AttemptEnd.TheVariants as end
use Rattle.cmm_member.specs.Nodes.{NodeState}
use Rattle.cmm_member.specs.Records.{NodeRecord}
use Rattle.history.specs.Attempts.{stands_against, stops_of}
use Rattle.history.specs.Contact.{AttemptsDiffer}
use Rattle.history.specs.Member.{members_of}
use Rattle.history.specs.Moment.{Moment, Told}
use Rattle.history.specs.Order.{since, under_way}
use Rattle.history.specs.Seizing.{is_attempt, is_boot}
use Rattle.history.specs.Setting.{coordinator}
use Rattle.history.specs.Trace.{down, up}
use Rattle.node_model.specs.Attempts.{base_lines, ended_entry, own_promise, resting, started_entry, starting_as}
use Rattle.node_model.specs.Configurations.{in_force}
use Rattle.node_model.specs.Entries.{unknown_lines}
use Rattle.node_model.specs.Members.{rested_by}
use Rattle.node_model.specs.Seats.{promised_of, promising, record_of, session_of}
use Rattle.node_model.specs.declared.cluster.Cluster.{Cluster}
use Rattle.node_model.specs.declared.node.Node.{Node}
use Rattle.node_model.specs.declared.node.Node.TheVariants.{Down, Up}
use Rattle.node_model.specs.declared.node.UpNode.{UpNode}
use Rattle.node_model.specs.declared.output.Output.{Output}
use Rattle.refinement.specs.Doings.{Act, Change, Doing, Site, acted, adopted_by, after_all, changed, effect, first_lines, given_all, gives, gone_line, last_lines, of_node, said, saved_lines, site, superseded_lines}
use Rattle.refinement.specs.Doings.Act.{Accepts, Dates, Ends, Gives, Goes_on, Hears, Makes, Minds, Notes, Queues, Spreads, Stores, Takes, Ticks, Waits, Works, Writes}
use Rattle.refinement.specs.Doings.Change.{Acks, Admits, Commits, Counts, Distrusts, Installs, Leads, Prepares, Promises, Proposes, Sits, Starts}
use Rattle.refinement.specs.Doings.Doing.{Comes_up, Does, Forgets, Goes_down, Loses, Saves}
use Rattle.refinement.specs.Guards.{Asks, May, MayAct, MayAll, MayChange, Says}
use Rattle.refinement.specs.Ties.{Delivered}
use Rattle.run_attempts.proofs.Tried.{passing_grows}
use Rattle.run_attempts.proofs.Walk.{act_calm}
use Rattle.run_history.proofs.Idle.{if_true, passing_append}
use Rattle.run_history.proofs.Lists.{both}
use Rattle.run_history.proofs.Small.{AllSmall, IsSmall, IsSmallAct}
use Rattle.run_history.proofs.UnderWay.{passing_under}
use Rattle.run_history.specs.Scenes.{Scene, passing, telling}
use Rattle.run_messages.proofs.Doings.{first_good, then_good}
use Rattle.run_messages.specs.Outputs.{AreGood}
use Rattle.run_messages.specs.records.Losses.{AllApart, DoingApart, IsLoss}
use Rattle.schedule_text.specs.declared.event.Event.TheVariants.{Tick}
use Rattle.status_report.specs.declared.attempt_entry.AttemptEntry.TheVariants as attempt_entry
use Rattle.status_report.specs.declared.entry.Entry.{Entry}
use Rattle.status_report.specs.declared.entry.Entry.TheVariants as entry
use Rattle.status_report.specs.declared.node_entry.DownCause.{DownCause}
use Rattle.status_report.specs.declared.node_entry.DownCause.TheVariants as cause
use Rattle.status_report.specs.declared.node_entry.NodeEntry.TheVariants as note
use Rattle.wire.specs.declared.message.Body.{Body}
use Rattle.wire.specs.declared.message.Body.TheVariants as body
use Rattle.run_attempts.specs.endings.Laws.{epoch_of, ticks_of}
use Rattle.run_attempts.specs.endings.Once.{AllOnce, WaitAt, WaitIn, left_after, one}
use Rattle.run_attempts.specs.endings.Nacks.{BodySo, HasBooted, HasStopped, IsBegun, IsMadeBy, IsTried}
use Rattle.run_attempts.specs.endings.Sites.{AllJudged, AttemptHas, AttemptIn, AttemptSo, Came, HandSo, IsFine, Judged, SiteSo, UpSo}
use Rattle.run_attempts.specs.endings.Steps.{AllFit, ChangeFits, DoingFits, EndSo}
use Rattle.run_attempts.specs.endings.Ways.{way_of, without}
use Rattle.run_attempts.proofs.endings.Attempts.{first_has, member_told, promised_told}
use Rattle.run_attempts.proofs.endings.Goes.{Quietly, Went, quiet_goes, quiet_self, quiet_told, site_quiet, went_quiet, went_then}
use Rattle.run_attempts.proofs.endings.Grows.{Stays, grows_begun, hand_stays, made_by, stays_grow, stays_one, up_stays}
use Rattle.run_attempts.proofs.endings.Sends.{adopted_fine, base_fine, first_fine, last_fine, said_fine, ticked_fine, unknown_fine}
use Rattle.run_attempts.proofs.endings.Waits.{doing_waits, wait_less}
use Rattle.node_model.specs.Ticks.{later, ticked_output}
use Rattle.run_attempts.proofs.endings.Shows.{by_collect, by_nack}
use Rattle.run_attempts.proofs.endings.Stands.{IsEven, IsMere, SameStand, act_has, act_stands, change_has, change_seat, change_stands, seat_self, seat_so, stand_so, still, turn_epoch}
use Rattle.run_attempts.proofs.endings.Ways.{IsOwnLine, ended_none, is_on, itself, or_first, others_stay, others_tick}

-- ---- a line of node n that begins no attempt

line_went : (n : ℕ) (told : Delivered) (e : Entry) (ms : List Moment) (x : Site) → Judged ms (Told e) → ((f : ℕ) → is_attempt f (Told e) ≡ false) → IsOwnLine n e → SiteSo (Told e ∷ ms) n x → AllJudged ms → HandSo ms n told
    → Went n told ms x (Told e ∷ ms)
line_went n told e ms x one none own so h hand =
    let s : Stays ms (Told e ∷ ms) = stays_one (Told e) ms none in
    record {
      judged = (one, h);
      site_so = so;
      grows = stays_grow n ms (Told e ∷ ms) s;
      ways = λ k ne way. others_stay n k e ms ne own way;
      ticks = λ k f ne at. others_tick n k f e ms ne at own;
      hand = hand_stays ms (Told e ∷ ms) n told s hand;
    }

made_stays : (before after : List Moment) (n q : ℕ) → Stays before after → IsMadeBy before n q → IsMadeBy after n q
made_stays before after n q s h = made_by before after n q (s.tried q) (s.stopped n) h

-- ---- a node goes down

down_way : (n : ℕ) (why : DownCause) (ms : List Moment) → way_of n (down n why ∷ ms) ≡ None
down_way n why ms = if_true (n == n) None (way_of n ms) (itself n n refl)

down_went : (n : ℕ) (told : Delivered) (why : DownCause) (disk : NodeRecord) (s : Scene) → IsMadeBy (down n why ∷ s.moments) n disk.promised → AllJudged s.moments → HandSo s.moments n told
    → Went n told s.moments (site Down disk) (passing n (gone_line n why) s).moments
down_went n told why disk s made h hand =
    line_went n told (entry.Node n (note.Down why)) s.moments (site Down disk) (record { way = tt; superseded = tt; silent = tt; promises = tt; names = tt; waited = tt; says_so = tt }) (λ f. refl) refl (record { way = down_way n why s.moments; disk = made; up = tt }) h hand

down_stays : (n : ℕ) (why : DownCause) (ms : List Moment) → Stays ms (down n why ∷ ms)
down_stays n why ms = stays_one (down n why) ms (λ f. refl)

-- ---- an attempt ends

nacked : (ms : List Moment) (n e q : ℕ) (told : Delivered) → coordinator e ≡ n → Says (λ b. b ≡ body.Nack e q) told → HandSo ms n told → stands_against e q ms ≡ true
nacked ms n e q None own says hand = absurd says
nacked ms n e q (Some d) own says hand = by_nack ms n d.0 e q (subst (Came ms n d.0) says hand) own

eighth : (t k : ℕ) → nat_le 8 t ≡ true → t ≤ k → 8 ≤ k
eighth t k is h = grind arith

ended_judged : (ms : List Moment) (n : ℕ) (a : AttemptState) (told : Delivered) (ticks : Bool) (why : AttemptEnd) → coordinator a.plan.epoch ≡ n → way_of n ms ≡ Some a.plan.epoch → HandSo ms n told → (ticks ≡ true → under_way ms ≡ Some (Tick n)) → AttemptHas ms n a → a.ticks ≤ ticks_of a.plan.epoch ms
    → EndSo told ticks a why → Judged ms (Told (entry.Attempt (ended_entry a.plan.epoch why)))
ended_judged ms n a told ticks (end.Votes have need lacking) own way hand under has wait so = record { way = is_on n a.plan.epoch ms own way; superseded = tt; silent = tt; promises = (so.0, promised_told ms n a own has so.1); names = tt; waited = tt; says_so = tt }
ended_judged ms n a told ticks (end.Superseded q) own way hand under has wait so = record { way = is_on n a.plan.epoch ms own way; superseded = nacked ms n a.plan.epoch q told own so hand; silent = tt; promises = tt; names = tt; waited = tt; says_so = tt }
ended_judged ms n a told ticks (end.Silent m) own way hand under has wait so = record { way = is_on n a.plan.epoch ms own way; superseded = tt; silent = under so.0 ∙ ap (λ k. Some (Tick k)) (sym own); promises = tt; names = member_told ms n a m has so.1; waited = eighth a.ticks (ticks_of a.plan.epoch ms) so.2 wait; says_so = tt }
ended_judged ms n a told ticks (end.Foreign m) own way hand under has wait so = record { way = is_on n a.plan.epoch ms own way; superseded = tt; silent = tt; promises = promised_told ms n a own has so.0; names = member_told ms n a m has so.1; waited = tt; says_so = tt }
ended_judged ms n a told ticks (end.Excluded m) own way hand under has wait so = record { way = is_on n a.plan.epoch ms own way; superseded = tt; silent = tt; promises = tt; names = member_told ms n a m has so; waited = tt; says_so = tt }

ended_own : (n e : ℕ) (why : AttemptEnd) → coordinator e ≡ n → IsOwnLine n (entry.Attempt (ended_entry e why))
ended_own n e (end.Votes have need lacking) own = own
ended_own n e (end.Superseded q) own = own
ended_own n e (end.Silent m) own = own
ended_own n e (end.Foreign m) own = own
ended_own n e (end.Excluded m) own = own

ended_no_attempt : (f e : ℕ) (why : AttemptEnd) → is_attempt f (Told (entry.Attempt (ended_entry e why))) ≡ false
ended_no_attempt f e (end.Votes have need lacking) = refl
ended_no_attempt f e (end.Superseded q) = refl
ended_no_attempt f e (end.Silent m) = refl
ended_no_attempt f e (end.Foreign m) = refl
ended_no_attempt f e (end.Excluded m) = refl

ended_way : (n e : ℕ) (why : AttemptEnd) (ms : List Moment) → way_of n (Told (entry.Attempt (ended_entry e why)) ∷ ms) ≡ without e (way_of n ms)
ended_way n e (end.Votes have need lacking) ms = refl
ended_way n e (end.Superseded q) ms = refl
ended_way n e (end.Silent m) ms = refl
ended_way n e (end.Foreign m) ms = refl
ended_way n e (end.Excluded m) ms = refl

own_of : (n promised e : ℕ) (o : Option ℕ) → o ≡ Some e → AttemptSo n promised o → AttemptSo n promised (Some e)
own_of n promised e o is h = subst (AttemptSo n promised) is h

waited_by : (ms : List Moment) (n : ℕ) (left : Bool) (a : AttemptState) → WaitIn ms n left (Some a) → a.ticks ≤ ticks_of a.plan.epoch ms
waited_by ms n left a h = fewer a.ticks (one left) (ticks_of a.plan.epoch ms) h.1
  where
    fewer : (a b k : ℕ) → a + b ≤ k → a ≤ k
    fewer a b k h = omega (arith, h)

ends_went : (c : Cluster) (n : ℕ) (told : Delivered) (ticks left : Bool) (x : UpNode) (disk : NodeRecord) (a : AttemptState) (why : AttemptEnd) (s : Scene) → WaitIn s.moments n left x.attempt → x.attempt ≡ Some a → EndSo told ticks a why
    → (ticks ≡ true → under_way s.moments ≡ Some (Tick n)) → AllJudged s.moments → SiteSo s.moments n (site (Up x) disk) → HandSo s.moments n told
    → Went n told s.moments (site (Up (resting x)) disk) (passing n (said c n x (Ends a why)) s).moments
ends_went c n told ticks left x disk a why s wait is so under h k hand =
    let e : ℕ = a.plan.epoch in
    let own : AttemptSo n (promised_of x) (Some e) = own_of n (promised_of x) e (epoch_of x.attempt) (ap epoch_of is) k.up.attempt in
    let way : way_of n s.moments ≡ Some e = k.way ∙ ap epoch_of is in
    let line : Entry = entry.Attempt (ended_entry e why) in
    let stays : Stays s.moments (Told line ∷ s.moments) = stays_one (Told line) s.moments (λ f. ended_no_attempt f e why) in
    line_went n told line s.moments (site (Up (resting x)) disk) (ended_judged s.moments n a told ticks why own.0 way hand under (subst (AttemptIn s.moments n) is k.up.has_so) (waited_by s.moments n left a (subst (WaitIn s.moments n left) is wait)) so) (λ f. ended_no_attempt f e why) (ended_own n e why own.0) (record {
      way = ended_way n e why s.moments ∙ ended_none e (way_of n s.moments) way;
      disk = made_stays s.moments (Told line ∷ s.moments) n disk.promised stays k.disk;
      up = seat_so (Told line ∷ s.moments) n x (resting x) (seat_self x (resting x) refl) tt tt (up_stays n s.moments (Told line ∷ s.moments) x stays k.up);
    }) h hand

-- ---- an attempt starts

starts_went : (c : Cluster) (n : ℕ) (told : Delivered) (x : UpNode) (kept disk : NodeRecord) (a : AttemptState) (k : Call) (st : NodeState) (s : Scene) → MayChange c n told x (Starts a k st) → IsMadeBy s.moments n disk.promised
    → AreGood n (last_lines c n x (Starts a k st)) → AllJudged s.moments → SiteSo s.moments n (site (Up x) kept) → HandSo s.moments n told
    → Went n told s.moments (site (Up (changed c n x (Starts a k st))) disk) (passing n (last_lines c n x (Starts a k st)) s).moments
starts_went c n told x kept disk a k st s may made good h so hand =
    let after : AttemptState = (turn a k).after in
    let y : UpNode = changed c n x (Starts a k st) in
    let e : ℕ = after.plan.epoch in
    let same : Some e ≡ epoch_of x.attempt = turn_epoch c told x a k may.0 may.2 in
    let own : AttemptSo n (promised_of x) (Some e) = own_of n (promised_of x) e (epoch_of x.attempt) (sym same) so.up.attempt in
    let way : way_of n s.moments ≡ Some e = so.way ∙ sym same in
    let line : Entry = entry.Start (started_entry after (length (all_committed st.saved.entries).committed)) in
    let t : Scene = telling line s in
    let stays : Stays s.moments t.moments = stays_one (Told line) s.moments (λ f. refl) in
    let first : Went n told s.moments (site (Up y) disk) t.moments =
    line_went n told line s.moments (site (Up y) disk) (record { way = is_on n e s.moments own.0 way; superseded = tt; silent = tt; promises = tt; names = tt; waited = tt; says_so = tt }) (λ f. refl) own.0 (record {
      way = ended_none e (way_of n s.moments) way;
      disk = made_stays s.moments t.moments n disk.promised stays made;
      up = seat_so t.moments n x y (change_seat c n told x (Starts a k st) tt may) tt tt (up_stays n s.moments t.moments x stays so.up);
    }) h hand in
    let rest : List Output = base_lines e 0 (all_committed st.saved.entries).committed ++ (adopted_by c after (starting_as c n x after st) ++ of_node n (note.Member e) ∷ []) in
    let q : Quietly t.moments (passing n rest t).moments =
    quiet_goes n rest t (both (IsFine t.moments n) (base_lines e 0 (all_committed st.saved.entries).committed) _ (base_fine t.moments n e 0 (all_committed st.saved.entries).committed)
    (both (IsFine t.moments n) (adopted_by c after (starting_as c n x after st)) _ (adopted_fine t.moments n e (in_force c (starting_as c n x after st)) (starting_as c n x after st).presidency) (tt, tt))) good.1 first.judged in
    went_then n told s.moments t.moments (passing n rest t).moments (site (Up y) disk) (site (Up y) disk) first (went_quiet n told t.moments (passing n rest t).moments (site (Up y) disk) q first.site_so first.hand)

-- ---- a promise

up_promised : (ms : List Moment) (n p : ℕ) (y : UpNode) → promised_of y ≡ p → session_of y ≡ p → IsMadeBy ms n p → AttemptSo n p (epoch_of y.attempt) → AttemptIn ms n y.attempt → UpSo ms n y
up_promised ms n p y promised session made attempt has = record {
  made = subst (IsMadeBy ms n) (sym promised) made;
  life = λ other. absurd (other (session ∙ sym promised));
  attempt = subst (λ q. AttemptSo n q (epoch_of y.attempt)) (sym promised) attempt;
  has_so = has;
}

rest_promised : (x : UpNode) (p : ℕ) (o : Option AttemptState) → promised_of (rested_by (promising x p) o) ≡ p
rest_promised x p None = refl
rest_promised x p (Some a) = refl

rest_session : (x : UpNode) (p : ℕ) (o : Option AttemptState) → session_of (rested_by (promising x p) o) ≡ p
rest_session x p None = refl
rest_session x p (Some a) = refl

rest_attempt : (x : UpNode) (p : ℕ) (o : Option AttemptState) → epoch_of (rested_by (promising x p) o).attempt ≡ None
rest_attempt x p None = refl
rest_attempt x p (Some a) = refl

rest_has : (ms : List Moment) (n : ℕ) (x : UpNode) (p : ℕ) (o : Option AttemptState) → AttemptIn ms n (rested_by (promising x p) o).attempt
rest_has ms n x p None = tt
rest_has ms n x p (Some a) = tt

none_so : (n p : ℕ) (o : Option ℕ) → o ≡ None → AttemptSo n p o
none_so n p o is = subst (AttemptSo n p) (sym is) tt

-- what a Collect of p tells
collect_begun : (ms : List Moment) (n p : ℕ) (told : Delivered) → Says (Asks p) told → HandSo ms n told → IsBegun ms p
collect_begun ms n p None says hand = absurd says
collect_begun ms n p (Some d) says hand = by_body d.1.body says hand.stands
  where
    by_body : (b : Body) → Asks p b → BodySo ms d.0 b → IsBegun ms p
    by_body (body.Collect e members) is so = subst (IsBegun ms) is so
    by_body _ is so = absurd is

collected : (ms : List Moment) (n e p : ℕ) (told : Delivered) → coordinator e ≡ n → e < p → Says (Asks p) told → HandSo ms n told → stands_against e p ms ≡ true
collected ms n e p None own less says hand = absurd says
collected ms n e p (Some d) own less says hand = by_body d.1.body says hand
  where
    by_body : (b : Body) → Asks p b → Came ms n d.0 b → stands_against e p ms ≡ true
    by_body (body.Collect f members) is came = subst (λ q. stands_against e q ms ≡ true) is (by_collect ms n d.0 e f members came own (subst (λ q. e < q) (sym is) less) came.stands.1)
    by_body _ is came = absurd is

below : (e q p : ℕ) → e ≤ q → q < p → e < p
below e q p h k = omega (arith, h, k)

positive : (a b : ℕ) → a < b → 0 < b
positive a b h = omega (arith, h)

promises_went : (c : Cluster) (n : ℕ) (told : Delivered) (x : UpNode) (disk : NodeRecord) (p : ℕ) (s : Scene) → MayChange c n told x (Promises p) → AreGood n (last_lines c n x (Promises p)) → AllJudged s.moments
    → SiteSo s.moments n (site (Up x) disk) → HandSo s.moments n told
    → (let y : UpNode = changed c n x (Promises p) in Went n told s.moments (site (Up y) (record_of y)) (passing n (last_lines c n x (Promises p)) s).moments)
promises_went c n told x disk p s may good h k hand = by_attempt x.attempt refl (then_good n (superseded_lines p x.attempt) (unknown_lines n x.requests.waiting) good)
  where
    y : UpNode
    y = changed c n x (Promises p)

    made : (ms : List Moment) → IsTried ms p → IsMadeBy ms n p
    made ms tried some = inl tried

    up_so : (ms : List Moment) → IsTried ms p → UpSo ms n y
    up_so ms tried = up_promised ms n p y (rest_promised x p x.attempt) (rest_session x p x.attempt) (made ms tried) (none_so n p (epoch_of y.attempt) (rest_attempt x p x.attempt)) (rest_has ms n x p x.attempt)

    begun : IsBegun s.moments p
    begun = collect_begun s.moments n p told may.0 hand

    by_attempt : (o : Option AttemptState) → x.attempt ≡ o → AreGood n (unknown_lines n x.requests.waiting) → Went n told s.moments (site (Up y) (record_of y)) (passing n (superseded_lines p o ++ unknown_lines n x.requests.waiting) s).moments
    by_attempt None is good =
        went_quiet n told s.moments _ (site (Up y) (record_of y)) (quiet_goes n (unknown_lines n x.requests.waiting) s (unknown_fine s.moments n n x.requests.waiting) good h) (record {
          way = k.way ∙ (ap epoch_of is ∙ sym (rest_attempt x p x.attempt));
          disk = (up_so s.moments begun.1).made;
          up = up_so s.moments begun.1;
        }) hand
    by_attempt (Some a) is good =
        let e : ℕ = a.plan.epoch in
        let own : AttemptSo n (promised_of x) (Some e) = own_of n (promised_of x) e (epoch_of x.attempt) (ap epoch_of is) k.up.attempt in
        let way : way_of n s.moments ≡ Some e = k.way ∙ ap epoch_of is in
        let line : Entry = entry.Attempt (attempt_entry.Superseded e p) in
        let t : Scene = telling line s in
        let stays : Stays s.moments t.moments = stays_one (Told line) s.moments (λ f. refl) in
        let first : Went n told s.moments (site (Up y) (record_of y)) t.moments =
        line_went n told line s.moments (site (Up y) (record_of y))
        (record { way = is_on n e s.moments own.0 way; superseded = collected s.moments n e p told own.0 (below e (promised_of x) p own.2 may.1) may.0 hand; silent = tt; promises = tt; names = tt; waited = tt; says_so = tt }) (λ f. refl) own.0 (record {
          way = ended_none e (way_of n s.moments) way ∙ sym (rest_attempt x p x.attempt);
          disk = (up_so t.moments (stays.tried p begun.1)).made;
          up = up_so t.moments (stays.tried p begun.1);
        }) h hand in
        went_then n told s.moments t.moments _ (site (Up y) (record_of y)) (site (Up y) (record_of y)) first
        (went_quiet n told t.moments _ (site (Up y) (record_of y)) (quiet_goes n (unknown_lines n x.requests.waiting) t (unknown_fine t.moments n n x.requests.waiting) good first.judged) first.site_so first.hand)

-- ---- an attempt begins

leads_went : (c : Cluster) (n : ℕ) (told : Delivered) (x : UpNode) (disk : NodeRecord) (p members : ℕ) (s : Scene) → All IsDevice c.attached → MayChange c n told x (Leads p members) → told ≡ None → AreGood n (last_lines c n x (Leads p members))
    → AllJudged s.moments → SiteSo s.moments n (site (Up x) disk)
    → (let y : UpNode = changed c n x (Leads p members) in let after : List Moment = (passing n (last_lines c n x (Leads p members)) s).moments in AttemptsDiffer after → Went n told s.moments (site (Up y) (record_of y)) after)
leads_went c n told x disk p members s fits may none good h k differ =
    let y : UpNode = changed c n x (Leads p members) in
    let z : UpNode = record (promising x p) { greatest = p } in
    let own : coordinator p ≡ n = may.1 in
    let line : Entry = entry.Attempt (attempt_entry.Begun p members) in
    let t : Scene = telling line s in
    let epoch : epoch_of y.attempt ≡ Some p = ap Some (plan_begins p members (own_promise n z p) c.attached c.id).of_epoch in
    let tried : IsTried t.moments p = or_first (p == p) (list_any (is_attempt p) s.moments) (itself p p refl) in
    let up_so : UpSo t.moments n y = up_promised t.moments n p y refl refl (λ some. inl tried) (subst (AttemptSo n p) (sym epoch) (own, positive (promised_of x) p may.0, self_most p))
    (first_has t.moments n p members (own_promise n z p) c.attached c.id fits refl (if_true (p == p) members (members_of p s.moments) (itself p p refl))) in
    let first : Went n told s.moments (site (Up y) (record_of y)) t.moments = record {
      judged = (record { way = tt; superseded = tt; silent = tt; promises = tt; names = tt; waited = tt; says_so = tt }, h);
      site_so = record { way = if_true (coordinator p == n) (Some p) (way_of n s.moments) (itself (coordinator p) n own) ∙ sym epoch; disk = up_so.made; up = up_so };
      grows = grows_begun n p members s.moments (passing_grows n (unknown_lines n x.requests.waiting) t differ).0.0 own;
      ways = λ j ne way. others_stay n j line s.moments ne own way;
      ticks = λ j e ne at. others_tick n j e line s.moments ne at own;
      hand = subst (λ d. HandSo t.moments n d) (sym none) tt;
    } in
    went_then n told s.moments t.moments _ (site (Up y) (record_of y)) (site (Up y) (record_of y)) first
    (went_quiet n told t.moments _ (site (Up y) (record_of y)) (quiet_goes n (unknown_lines n x.requests.waiting) t (unknown_fine t.moments n n x.requests.waiting) good.1 first.judged) first.site_so first.hand)
  where
    self_most : (q : ℕ) → q ≤ q
    self_most q = omega arith

-- ---- changes that are saved, or that leave the record

-- the site with what leaves promise, session and attempt
stand_site : (ms : List Moment) (n : ℕ) (x y : UpNode) (kept disk : NodeRecord) → SameStand x y → AttemptIn ms n y.attempt → IsMadeBy ms n disk.promised → SiteSo ms n (site (Up x) kept) → SiteSo ms n (site (Up y) disk)
stand_site ms n x y kept disk same has made h = record { way = h.way ∙ sym same.attempt; disk = made; up = stand_so ms n x y same has h.up }

even_went : (c : Cluster) (n : ℕ) (told : Delivered) (x : UpNode) (disk : NodeRecord) (change : Change) (s : Scene) → IsEven change → MayChange c n told x change → AreGood n (first_lines n change ++ saved_lines c n x change) → AllJudged s.moments
    → SiteSo s.moments n (site (Up x) disk) → HandSo s.moments n told
    → (let y : UpNode = changed c n x change in Went n told s.moments (site (Up y) (record_of y)) (passing n (first_lines n change ++ saved_lines c n x change) s).moments)
even_went c n told x disk change s even may good h k hand =
    let y : UpNode = changed c n x change in
    let same : SameStand x y = change_stands c n told x change even may in
    let has : AttemptIn s.moments n y.attempt = change_has c s.moments n told x change even may hand k.up in
    let os : List Output = first_lines n change ++ saved_lines c n x change in
    went_quiet n told s.moments (passing n os s).moments (site (Up y) (record_of y))
    (quiet_goes n os s (both (IsFine s.moments n) (first_lines n change) (saved_lines c n x change) (first_fine s.moments n n change) (tt, last_fine c s.moments n n x change even)) good h)
    (stand_site s.moments n x y disk (record_of y) same has (stand_so s.moments n x y same has k.up).made k) hand

-- the line that says that it was saved comes first
after_saved : (n : ℕ) (told : Delivered) (x y : Site) (os : List Output) (s : Scene) → AllJudged s.moments → SiteSo s.moments n x → HandSo s.moments n told
    → (let t : Scene = telling (entry.Node n note.Saved) s in AllJudged t.moments → SiteSo t.moments n x → HandSo t.moments n told → Went n told t.moments y (passing n os t).moments)
    → Went n told s.moments y (passing n (of_node n note.Saved ∷ os) s).moments
after_saved n told x y os s h k hand next =
    let t : Scene = telling (entry.Node n note.Saved) s in
    let q : Quietly s.moments t.moments = quiet_told (entry.Node n note.Saved) s.moments tt h in
    went_then n told s.moments t.moments (passing n os t).moments x y (went_quiet n told s.moments t.moments x q k hand)
    (next q.judged (site_quiet n s.moments t.moments x q k) (hand_stays s.moments t.moments n told q.stays hand))

saved_went : (c : Cluster) (n : ℕ) (told : Delivered) (ticks : Bool) (x : UpNode) (disk : NodeRecord) (change : Change) (s : Scene) → All IsDevice c.attached → MayChange c n told x change → ChangeFits told ticks change → AreGood n (first_lines n change ++ saved_lines c n x change)
    → AllJudged s.moments → SiteSo s.moments n (site (Up x) disk) → HandSo s.moments n told → AttemptsDiffer (passing n (first_lines n change ++ saved_lines c n x change) s).moments
    → (let y : UpNode = changed c n x change in Went n told s.moments (site (Up y) (record_of y)) (passing n (first_lines n change ++ saved_lines c n x change) s).moments)
saved_went c n told ticks x disk (Promises p) s devices may fits good h k hand differ =
    after_saved n told (site (Up x) disk) _ (last_lines c n x (Promises p)) s h k hand (λ h2 k2 hand2. promises_went c n told x disk p (telling (entry.Node n note.Saved) s) may good.1 h2 k2 hand2)
saved_went c n told ticks x disk (Leads p members) s devices may fits good h k hand differ =
    after_saved n told (site (Up x) disk) _ (last_lines c n x (Leads p members)) s h k hand (λ h2 k2 hand2. leads_went c n told x disk p members (telling (entry.Node n note.Saved) s) devices may fits good.1 h2 k2 differ)
saved_went c n told ticks x disk (Starts a call st) s devices may fits good h k hand differ =
    let y : UpNode = changed c n x (Starts a call st) in
    after_saved n told (site (Up x) disk) (site (Up y) (record_of y)) (last_lines c n x (Starts a call st)) s h k hand
    (λ h2 k2 hand2. starts_went c n told x disk (record_of y) a call st (telling (entry.Node n note.Saved) s) may (seat_so _ n x y (change_seat c n told x (Starts a call st) tt may) tt tt k2.up).made good.1 h2 k2 hand2)
saved_went c n told ticks x disk (Counts a call st i) s devices may fits good h k hand differ = even_went c n told x disk (Counts a call st i) s tt may good h k hand
saved_went c n told ticks x disk (Installs st i) s devices may fits good h k hand differ = even_went c n told x disk (Installs st i) s tt may good h k hand
saved_went c n told ticks x disk (Sits st e) s devices may fits good h k hand differ = even_went c n told x disk (Sits st e) s tt may good h k hand
saved_went c n told ticks x disk (Distrusts d) s devices may fits good h k hand differ = even_went c n told x disk (Distrusts d) s tt may good h k hand
saved_went c n told ticks x disk (Admits at command a d) s devices may fits good h k hand differ = even_went c n told x disk (Admits at command a d) s tt may good h k hand
saved_went c n told ticks x disk (Proposes st p text) s devices may fits good h k hand differ = even_went c n told x disk (Proposes st p text) s tt may good h k hand
saved_went c n told ticks x disk (Acks st p q left text) s devices may fits good h k hand differ = even_went c n told x disk (Acks st p q left text) s tt may good h k hand
saved_went c n told ticks x disk (Prepares st text) s devices may fits good h k hand differ = even_went c n told x disk (Prepares st text) s tt may good h k hand
saved_went c n told ticks x disk (Commits st) s devices may fits good h k hand differ = even_went c n told x disk (Commits st) s tt may good h k hand

-- one that leaves the record as it is, so that there is nothing to save
made_even : (c : Cluster) (n : ℕ) (told : Delivered) (x : UpNode) (disk : NodeRecord) (change : Change) (s : Scene) → IsEven change → MayChange c n told x change → AreGood n (first_lines n change ++ last_lines c n x change) → AllJudged s.moments
    → SiteSo s.moments n (site (Up x) disk) → HandSo s.moments n told → Went n told s.moments (site (Up (changed c n x change)) disk) (passing n (first_lines n change ++ last_lines c n x change) s).moments
made_even c n told x disk change s even may good h k hand =
    let y : UpNode = changed c n x change in
    let os : List Output = first_lines n change ++ last_lines c n x change in
    went_quiet n told s.moments (passing n os s).moments (site (Up y) disk)
    (quiet_goes n os s (both (IsFine s.moments n) (first_lines n change) (last_lines c n x change) (first_fine s.moments n n change) (last_fine c s.moments n n x change even)) good h)
    (stand_site s.moments n x y disk disk (change_stands c n told x change even may) (change_has c s.moments n told x change even may hand k.up) k.disk k) hand

no_promise : (x : UpNode) (p : ℕ) → promised_of x < p → record_of (rested_by (promising x p) x.attempt) ≡ record_of x → ⊥
no_promise x p less same = not_less (promised_of x) p less (sym (rest_promised x p x.attempt) ∙ ap (λ (r : NodeRecord). r.promised) same)
  where
    not_less : (a b : ℕ) → a < b → b ≡ a → ⊥
    not_less a b h is = omega (arith, h, is)

made_went : (c : Cluster) (n : ℕ) (told : Delivered) (x : UpNode) (disk : NodeRecord) (change : Change) (s : Scene) → MayAct c n told x (Makes change) → AreGood n (first_lines n change ++ last_lines c n x change) → AllJudged s.moments
    → SiteSo s.moments n (site (Up x) disk) → HandSo s.moments n told → Went n told s.moments (site (Up (changed c n x change)) disk) (passing n (first_lines n change ++ last_lines c n x change) s).moments
made_went c n told x disk (Promises p) s may good h k hand = absurd (no_promise x p may.0.1 may.1)
made_went c n told x disk (Leads p members) s may good h k hand = absurd (act_calm c n told x (Makes (Leads p members)) may (Leads p members) refl)
made_went c n told x disk (Starts a call st) s may good h k hand = starts_went c n told x disk disk a call st s may.0 k.disk good h k hand
made_went c n told x disk (Counts a call st i) s may good h k hand = made_even c n told x disk (Counts a call st i) s tt may.0 good h k hand
made_went c n told x disk (Installs st i) s may good h k hand = made_even c n told x disk (Installs st i) s tt may.0 good h k hand
made_went c n told x disk (Sits st e) s may good h k hand = made_even c n told x disk (Sits st e) s tt may.0 good h k hand
made_went c n told x disk (Distrusts d) s may good h k hand = made_even c n told x disk (Distrusts d) s tt may.0 good h k hand
made_went c n told x disk (Admits at command a d) s may good h k hand = made_even c n told x disk (Admits at command a d) s tt may.0 good h k hand
made_went c n told x disk (Proposes st p text) s may good h k hand = made_even c n told x disk (Proposes st p text) s tt may.0 good h k hand
made_went c n told x disk (Acks st p q left text) s may good h k hand = made_even c n told x disk (Acks st p q left text) s tt may.0 good h k hand
made_went c n told x disk (Prepares st text) s may good h k hand = made_even c n told x disk (Prepares st text) s tt may.0 good h k hand
made_went c n told x disk (Commits st) s may good h k hand = made_even c n told x disk (Commits st) s tt may.0 good h k hand

-- ---- a save is lost

stopped_now : (n : ℕ) (why : DownCause) (ms : List Moment) → IsLoss why → HasStopped (down n why ∷ ms) n
stopped_now n cause.Stopped ms loss = or_first (n == n) (list_any (stops_of n) ms) (itself n n refl)
stopped_now n (cause.Panic panic.Disk) ms loss = or_first (n == n) (list_any (stops_of n) ms) (itself n n refl)
stopped_now n _ ms loss = absurd loss

lost_even : (c : Cluster) (n : ℕ) (told : Delivered) (x : UpNode) (change : Change) (why : DownCause) (ms : List Moment) → IsEven change → MayChange c n told x change → HandSo ms n told → UpSo ms n x → IsMadeBy (down n why ∷ ms) n (promised_of (changed c n x change))
lost_even c n told x change why ms even may hand so =
    made_stays ms (down n why ∷ ms) n (promised_of (changed c n x change)) (down_stays n why ms) (stand_so ms n x (changed c n x change) (change_stands c n told x change even may) (change_has c ms n told x change even may hand so) so).made

-- the promise that is left
lost_made : (c : Cluster) (n : ℕ) (told : Delivered) (x : UpNode) (change : Change) (why : DownCause) (ms : List Moment) → MayChange c n told x change → IsLoss why → HandSo ms n told → UpSo ms n x
    → IsMadeBy (down n why ∷ ms) n (promised_of (changed c n x change))
lost_made c n told x (Promises p) why ms may loss hand so =
    subst (IsMadeBy (down n why ∷ ms) n) (sym (rest_promised x p x.attempt)) (λ some. inl ((down_stays n why ms).tried p (collect_begun ms n p told may.0 hand).1))
lost_made c n told x (Leads p members) why ms may loss hand so = λ some. inr (may.1, stopped_now n why ms loss)
lost_made c n told x (Starts a call st) why ms may loss hand so =
    let y : UpNode = changed c n x (Starts a call st) in
    made_stays ms (down n why ∷ ms) n (promised_of y) (down_stays n why ms) (seat_so ms n x y (change_seat c n told x (Starts a call st) tt may) tt tt so).made
lost_made c n told x (Counts a call st i) why ms may loss hand so = lost_even c n told x (Counts a call st i) why ms tt may hand so
lost_made c n told x (Installs st i) why ms may loss hand so = lost_even c n told x (Installs st i) why ms tt may hand so
lost_made c n told x (Sits st e) why ms may loss hand so = lost_even c n told x (Sits st e) why ms tt may hand so
lost_made c n told x (Distrusts d) why ms may loss hand so = lost_even c n told x (Distrusts d) why ms tt may hand so
lost_made c n told x (Admits at command a d) why ms may loss hand so = lost_even c n told x (Admits at command a d) why ms tt may hand so
lost_made c n told x (Proposes st p text) why ms may loss hand so = lost_even c n told x (Proposes st p text) why ms tt may hand so
lost_made c n told x (Acks st p q left text) why ms may loss hand so = lost_even c n told x (Acks st p q left text) why ms tt may hand so
lost_made c n told x (Prepares st text) why ms may loss hand so = lost_even c n told x (Prepares st text) why ms tt may hand so
lost_made c n told x (Commits st) why ms may loss hand so = lost_even c n told x (Commits st) why ms tt may hand so

-- the lines before the save, and then the node is down
gone_went : (n : ℕ) (told : Delivered) (change : Change) (why : DownCause) (x : Site) (disk : NodeRecord) (s : Scene) → AreGood n (first_lines n change ++ gone_line n why) → AllJudged s.moments → SiteSo s.moments n x → HandSo s.moments n told
    → ((ms : List Moment) → SiteSo ms n x → HandSo ms n told → IsMadeBy (down n why ∷ ms) n disk.promised) → Went n told s.moments (site Down disk) (passing n (first_lines n change ++ gone_line n why) s).moments
gone_went n told change why x disk s good h k hand made =
    let t : Scene = passing n (first_lines n change) s in
    let q : Quietly s.moments t.moments = quiet_goes n (first_lines n change) s (first_fine s.moments n n change) (first_good n (first_lines n change) (gone_line n why) good) h in
    let first : Went n told s.moments x t.moments = went_quiet n told s.moments t.moments x q k hand in
    subst (λ (z : Scene). Went n told s.moments (site Down disk) z.moments) (sym (passing_append n (first_lines n change) (gone_line n why) s))
    (went_then n told s.moments t.moments (passing n (gone_line n why) t).moments x (site Down disk) first (down_went n told why disk t (made t.moments first.site_so first.hand) first.judged first.hand))

-- ---- each small step

booted_now : (n e : ℕ) (ms : List Moment) → HasBooted (up n ∷ ms) n e
booted_now n e ms = or_first (n == n) (list_any (is_boot n) (since (is_attempt e) ms)) (itself n n refl)

-- the clock ticks
ticks_went : (c : Cluster) (n : ℕ) (told : Delivered) (x : UpNode) (disk : NodeRecord) (s : Scene) → AreGood n (said c n x Ticks) → AllJudged s.moments → SiteSo s.moments n (site (Up x) disk) → HandSo s.moments n told
    → Went n told s.moments (site (Up (acted c n x Ticks)) disk) (passing n (said c n x Ticks) s).moments
ticks_went c n told x disk s good h k hand =
    let y : UpNode = acted c n x Ticks in
    let line : Entry = entry.Node n note.Ticked in
    let t : Scene = telling line s in
    let os : List Output = ticked_output c x (later c x) in
    let stays : Stays s.moments t.moments = stays_one (Told line) s.moments (λ f. refl) in
    let so : UpSo t.moments n x = up_stays n s.moments t.moments x stays k.up in
    let first : Went n told s.moments (site (Up y) disk) t.moments =
    line_went n told line s.moments (site (Up y) disk) (record { way = tt; superseded = tt; silent = tt; promises = tt; names = tt; waited = tt; says_so = tt }) (λ f. refl) refl (record {
      way = k.way;
      disk = made_stays s.moments t.moments n disk.promised stays k.disk;
      up = stand_so t.moments n x y (still x y refl refl) so.has_so so;
    }) h hand in
    went_then n told s.moments t.moments (passing n os t).moments (site (Up y) disk) (site (Up y) disk) first
    (went_quiet n told t.moments (passing n os t).moments (site (Up y) disk) (quiet_goes n os t (ticked_fine t.moments n c x (later c x)) good.1 first.judged) first.site_so first.hand)

mere_went : (c : Cluster) (n : ℕ) (told : Delivered) (ticks : Bool) (x : UpNode) (disk : NodeRecord) (a : Act) (s : Scene) → IsMere a → MayAct c n told x a → IsSmallAct a → DoingFits told ticks (site (Up x) disk) (Does a) → AreGood n (said c n x a)
    → AllJudged s.moments → SiteSo s.moments n (site (Up x) disk) → HandSo s.moments n told → Went n told s.moments (site (Up (acted c n x a)) disk) (passing n (said c n x a) s).moments
mere_went c n told ticks x disk a s mere may small fits good h k hand =
    let y : UpNode = acted c n x a in
    went_quiet n told s.moments (passing n (said c n x a) s).moments (site (Up y) disk) (quiet_goes n (said c n x a) s (said_fine c s.moments n told ticks x a mere may small fits k.way k.up hand) good h)
    (stand_site s.moments n x y disk disk (act_stands c n told x a mere may) (act_has c s.moments n told x a mere may hand k.up) k.disk k) hand

act_went : (c : Cluster) (n : ℕ) (told : Delivered) (ticks left : Bool) (x : UpNode) (disk : NodeRecord) (a : Act) (s : Scene) → WaitIn s.moments n left x.attempt → MayAct c n told x a → IsSmallAct a → DoingFits told ticks (site (Up x) disk) (Does a) → AreGood n (said c n x a)
    → (ticks ≡ true → under_way s.moments ≡ Some (Tick n)) → AllJudged s.moments → SiteSo s.moments n (site (Up x) disk) → HandSo s.moments n told → Went n told s.moments (site (Up (acted c n x a)) disk) (passing n (said c n x a) s).moments
act_went c n told ticks left x disk (Ends a why) s wait may small fits good under h k hand = ends_went c n told ticks left x disk a why s wait fits.0 fits.1 under h k hand
act_went c n told ticks left x disk (Makes change) s wait may small fits good under h k hand = made_went c n told x disk change s may good h k hand
act_went c n told ticks left x disk (Hears from b) s wait may small fits good under h k hand = mere_went c n told ticks x disk (Hears from b) s tt may small fits good h k hand
act_went c n told ticks left x disk Ticks s wait may small fits good under h k hand = ticks_went c n told x disk s good h k hand
act_went c n told ticks left x disk Waits s wait may small fits good under h k hand = mere_went c n told ticks x disk Waits s tt may small fits good h k hand
act_went c n told ticks left x disk (Goes_on a call) s wait may small fits good under h k hand = mere_went c n told ticks x disk (Goes_on a call) s tt may small fits good h k hand
act_went c n told ticks left x disk (Queues a d kind) s wait may small fits good under h k hand = mere_went c n told ticks x disk (Queues a d kind) s tt may small fits good h k hand
act_went c n told ticks left x disk (Accepts kind e members d) s wait may small fits good under h k hand = mere_went c n told ticks x disk (Accepts kind e members d) s tt may small fits good h k hand
act_went c n told ticks left x disk (Takes at command a) s wait may small fits good under h k hand = mere_went c n told ticks x disk (Takes at command a) s tt may small fits good h k hand
act_went c n told ticks left x disk (Stores d value a) s wait may small fits good under h k hand = mere_went c n told ticks x disk (Stores d value a) s tt may small fits good h k hand
act_went c n told ticks left x disk (Writes to b) s wait may small fits good under h k hand = mere_went c n told ticks x disk (Writes to b) s tt may small fits good h k hand
act_went c n told ticks left x disk (Gives os) s wait may small fits good under h k hand = mere_went c n told ticks x disk (Gives os) s tt may small fits good h k hand
act_went c n told ticks left x disk (Spreads receivers b) s wait may small fits good under h k hand = mere_went c n told ticks x disk (Spreads receivers b) s tt may small fits good h k hand
act_went c n told ticks left x disk (Minds q p) s wait may small fits good under h k hand = mere_went c n told ticks x disk (Minds q p) s tt may small fits good h k hand
act_went c n told ticks left x disk (Notes from place p) s wait may small fits good under h k hand = mere_went c n told ticks x disk (Notes from place p) s tt may small fits good h k hand
act_went c n told ticks left x disk (Dates now) s wait may small fits good under h k hand = mere_went c n told ticks x disk (Dates now) s tt may small fits good h k hand
act_went c n told ticks left x disk (Works w) s wait may small fits good under h k hand = mere_went c n told ticks x disk (Works w) s tt may small fits good h k hand

doing_went : (c : Cluster) (n : ℕ) (told : Delivered) (ticks left : Bool) (node : Node) (disk : NodeRecord) (d : Doing) (s : Scene) → All IsDevice c.attached → WaitAt s.moments n left node → May c n told (site node disk) d → IsSmall d → DoingFits told ticks (site node disk) d → DoingApart told d
    → AreGood n (gives c n (site node disk) d) → (ticks ≡ true → under_way s.moments ≡ Some (Tick n)) → AllJudged s.moments → SiteSo s.moments n (site node disk) → HandSo s.moments n told
    → (let t : Scene = passing n (gives c n (site node disk) d) s in AttemptsDiffer t.moments → Went n told s.moments (effect c n (site node disk) d) t.moments)
doing_went c n told ticks left Down disk Comes_up s devices wait may small fits apart good under h k hand differ =
    let t : Scene = passing n (of_node n note.Up ∷ []) s in
    let q : Quietly s.moments t.moments = quiet_told (entry.Node n note.Up) s.moments tt h in
    record {
      judged = q.judged;
      site_so = record {
        way = q.ways n ∙ k.way;
        disk = made_stays s.moments t.moments n disk.promised q.stays k.disk;
        up = record { made = made_stays s.moments t.moments n disk.promised q.stays k.disk; life = λ other. booted_now n disk.promised s.moments; attempt = tt; has_so = tt };
      };
      grows = stays_grow n s.moments t.moments q.stays;
      ways = λ j ne own. q.ways j;
      ticks = λ j e ne own. q.ticks e;
      hand = hand_stays s.moments t.moments n told q.stays hand;
    }
doing_went c n told ticks left (Up x) disk Comes_up s devices wait may small fits apart good under h k hand differ = absurd may
doing_went c n told ticks left node disk (Goes_down why) s devices wait may small fits apart good under h k hand differ =
    down_went n told why disk s (made_stays s.moments (down n why ∷ s.moments) n disk.promised (down_stays n why s.moments) k.disk) h hand
doing_went c n told ticks left Down disk (Does a) s devices wait may small fits apart good under h k hand differ = absurd may
doing_went c n told ticks left (Up x) disk (Does a) s devices wait may small fits apart good under h k hand differ = act_went c n told ticks left x disk a s wait may small fits good under h k hand
doing_went c n told ticks left Down disk (Saves change) s devices wait may small fits apart good under h k hand differ = absurd may
doing_went c n told ticks left (Up x) disk (Saves change) s devices wait may small fits apart good under h k hand differ = saved_went c n told ticks x disk change s devices may fits good h k hand differ
doing_went c n told ticks left Down disk (Loses change why) s devices wait may small fits apart good under h k hand differ = absurd may
doing_went c n told ticks left (Up x) disk (Loses change why) s devices wait may small fits apart good under h k hand differ =
    gone_went n told change why (site (Up x) disk) (record_of (changed c n x change)) s good h k hand (λ ms so came. lost_made c n told x change why ms may apart came so.up)
doing_went c n told ticks left Down disk (Forgets change why) s devices wait may small fits apart good under h k hand differ = absurd may
doing_went c n told ticks left (Up x) disk (Forgets change why) s devices wait may small fits apart good under h k hand differ =
    gone_went n told change why (site (Up x) disk) disk s good h k hand (λ ms so came. made_stays ms (down n why ∷ ms) n disk.promised (down_stays n why ms) so.disk)

-- one after another
pub record AllWent (n : ℕ) (told : Delivered) (before : List Moment) (x : Site) (after : List Moment) : Type 0 where
  pub went : Went n told before x after
  pub waits : WaitAt after n false x.node

pub all_went : (c : Cluster) (n : ℕ) (told : Delivered) (ticks left : Bool) (x : Site) (ds : List Doing) (s : Scene) → All IsDevice c.attached → WaitAt s.moments n left x.node → AllOnce left ds → MayAll c n told x ds → AllSmall ds → AllFit c n told ticks x ds
    → AllApart told ds → AreGood n (given_all c n x ds) → (ticks ≡ true → under_way s.moments ≡ Some (Tick n)) → AllJudged s.moments → SiteSo s.moments n x → HandSo s.moments n told
    → (let t : Scene = passing n (given_all c n x ds) s in AttemptsDiffer t.moments → AllWent n told s.moments (after_all c n x ds) t.moments)
all_went c n told ticks left x [] s devices wait once may small fits apart good under h k hand differ =
    record { went = went_quiet n told s.moments s.moments x (quiet_self s.moments h) k hand; waits = wait_less s.moments n left x.node wait }
all_went c n told ticks left x (d ∷ ds) s devices wait once may small fits apart good under h k hand differ =
    let os : List Output = gives c n x d in
    let y : Site = effect c n x d in
    let more : List Output = given_all c n y ds in
    let t : Scene = passing n os s in
    let last : AttemptsDiffer (passing n more t).moments = subst (λ (z : Scene). AttemptsDiffer z.moments) (passing_append n os more s) differ in
    let first : Went n told s.moments y t.moments = doing_went c n told ticks left x.node x.disk d s devices wait may.0 small.0 fits.0 apart.0 (first_good n os more good) under h k hand (passing_grows n more t last).0 in
    let rest : AllWent n told t.moments (after_all c n y ds) (passing n more t).moments =
    all_went c n told ticks (left_after left d) y ds t devices (doing_waits c n told left x.node x.disk d s may.0 small.0 once.0 wait) once.1 may.1 small.1 fits.1 apart.1 (then_good n os more good) (λ is. passing_under n os s ∙ under is) first.judged first.site_so first.hand last in
    subst (λ (z : Scene). AllWent n told s.moments (after_all c n y ds) z.moments) (sym (passing_append n os more s))
    (record { went = went_then n told s.moments t.moments (passing n more t).moments y (after_all c n y ds) first rest.went; waits = rest.waits })
