-- What is owed after the last device command of a task, in an event in which a node does its command.
use Rattle.std.specs.Prelude.{ℕ, ◌%◌, ◌<◌, ◌≤◌, ◌≡◌, ◌≢◌, ◌++◌, ◌==◌, ◌&&◌, ◌||◌, nat_le, Bool, true, false, if◌then◌else◌, List, [], ◌∷◌, Option, None, Some, is_some}
use Rattle.std.specs.List.{list_any}
use Rattle.std.specs.Option.{option_and_then}
use Rattle.std.proofs.Common.{refl, ap, sym, subst, ◌∙◌, arith}
use Rattle.std.proofs.lemmas.Bool.Decides.{nat_tests}
use Rattle.std.proofs.lemmas.List.Folds.{list_any-append}
use Rattle.cl_base.specs.declared.header.Header.{Header}
use Rattle.cmm_attempt.proofs.Basics.{false_true, none_some}
use Rattle.device_queue.specs.Queue.{due_device, next_of}
use Rattle.history.specs.Member as member
use Rattle.history.specs.Messages.{onto, owner_of}
use Rattle.history.specs.Moment.{Moment}
use Rattle.history.specs.Setting.{coordinator}
use Rattle.node_model.specs.Seats.{is_member, node_numbered, session_of}
use Rattle.node_model.specs.declared.node.Node.TheVariants.{Up}
use Rattle.node_model.specs.declared.node.UpNode.{UpNode}
use Rattle.node_model.specs.declared.seat.Seat.{Seat}
use Rattle.node_model.specs.declared.seat.Seat.TheVariants.{Forming, Member}
use Rattle.pgr_device.specs.Device.{Device}
use Rattle.pgr_device.specs.declared.command.PrCommand.{PrCommand}
use Rattle.run_devices.specs.readings.Sites.{UpIn}
use Rattle.run_history.specs.Happenings.{commanded_at}
use Rattle.run_history.specs.Scenes.{Scene}
use Rattle.run_messages.specs.Laws.{IsSeated, membership_in}
use Rattle.wire.specs.Spelling.{IsNode}
use Rattle.world_model.specs.Devices.{due_of}
use Rattle.world_model.specs.First.{first_cluster}
use Rattle.run_outcomes.specs.reports.Facts.{Facts}
use Rattle.run_outcomes.proofs.reports.Asking.{IsAsked}
use Rattle.run_outcomes.proofs.reports.Commanding.{IsLedBy}
use Rattle.run_outcomes.proofs.reports.Replies.{session_is}

-- ---- entries

pub onto_both : (ms xs ys : List Moment) → onto ms (xs ++ ys) ≡ onto (onto ms xs) ys
onto_both ms [] ys = refl
onto_both ms (x ∷ xs) ys = onto_both (x ∷ ms) xs ys

or_first : (a b : Bool) → a ≡ true → (a || b) ≡ true
or_first true b h = refl
or_first false b h = absurd (false_true h)

or_later : (a b : Bool) → b ≡ true → (a || b) ≡ true
or_later true b h = refl
or_later false b h = h

pub any_first : (test : Moment → Bool) (xs ys : List Moment) → list_any test xs ≡ true → list_any test (xs ++ ys) ≡ true
any_first test xs ys h = list_any-append test xs ys ∙ or_first (list_any test xs) (list_any test ys) h

pub any_later : (test : Moment → Bool) (xs ys : List Moment) → list_any test ys ≡ true → list_any test (xs ++ ys) ≡ true
any_later test xs ys h = list_any-append test xs ys ∙ or_later (list_any test xs) (list_any test ys) h

-- ---- the node

numbered : (k : ℕ) → IsNode k → node_numbered k ≡ Some k
numbered k h = by_test (nat_le 1 k && nat_le k 32) (both k h.0 h.1)
  where
    both : (k : ℕ) → 1 ≤ k → k ≤ 32 → (nat_le 1 k && nat_le k 32) ≡ true
    both k low high = grind (arith, nat_tests)

    by_test : (b : Bool) → b ≡ true → (if b then Some k else None) ≡ Some k
    by_test true is = refl
    by_test false is = absurd (false_true is)

not_member : (seat : Seat) → membership_in seat ≡ None → is_member seat ≡ false
not_member (Forming z) none = refl
not_member (Member z) none = absurd (none_some z.session (sym none))

apart_from : (a b : ℕ) → (a == b) ≡ false → a ≢ b
apart_from a b h same = equal a b h same
  where
    equal : (a b : ℕ) → (a == b) ≡ false → a ≡ b → ⊥
    equal a b h same = grind (arith, h, same)

pub due_next : (x : UpNode) (z : ℕ × PrCommand) → due_of x ≡ Some z → is_some (next_of x.tasks) ≡ true
due_next x z is = by_both (due_device x.tasks) (next_of x.tasks) is
  where
    by_both : (d : Option ℕ) (k : Option PrCommand) → option_and_then {U = ℕ × PrCommand} (λ e. option_and_then {U = ℕ × PrCommand} (λ q. Some (e, q)) k) d ≡ Some z → is_some k ≡ true
    by_both d (Some k) at = refl
    by_both None None at = absurd (none_some z at)
    by_both (Some d) None at = absurd (none_some z at)

pub commanded_nodes : (s : Scene) (n d : ℕ) (o : Option Device) (k : PrCommand) → (commanded_at s n d o k).scene.nodes ≡ s.nodes
commanded_nodes s n d None k = refl
commanded_nodes s n d (Some x) k = refl

-- a session of another's, in which the node is
pub record Within (h : Header) (s : Scene) (n : ℕ) (w : UpNode) (e : ℕ) : Type 0 where
  pub some : 0 < e
  pub in_e : session_of w ≡ e
  pub led : IsLedBy (first_cluster h) n (coordinator e) w
  pub owner : owner_of (member.session_of n s.moments) ≡ coordinator e
  pub seat : is_member w.seat ≡ false
  pub apart : session_of w % 64 ≢ n

pub within_of : (h : Header) (cells : ℕ) (s : Scene) (n : ℕ) (w : UpNode) → Facts h cells s → s.nodes.node n ≡ Up w → (k : IsAsked n s.moments) → Within h s n w k.epoch
within_of h cells s n w f at k =
    let e : ℕ = k.epoch in
    let is : (0 < session_of w) × (session_of w ≡ e) = session_is h s n e w (subst (UpIn h s.moments n) at (f.at.reading.sites n).up) k.session in
    record {
      some = subst (λ j. 0 < j) is.1 is.0;
      in_e = is.1;
      led = (ap (λ j. node_numbered (j % 64)) is.1 ∙ numbered (coordinator e) k.node, k.other);
      owner = ap owner_of k.session;
      seat = not_member w.seat (sym (subst (IsSeated s.moments n) at (f.known.seated n)) ∙ k.none);
      apart = subst (λ j. j % 64 ≢ n) (sym is.1) (apart_from (e % 64) n k.other);
    }
