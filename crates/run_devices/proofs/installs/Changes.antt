-- Each change of a node keeps what its attempt has of its seizings.
use Rattle.std.specs.Prelude.{ℕ, ◌++◌, ◌≡◌, false, List, [], ◌∷◌, Option, None, Some}
use Rattle.std.specs.List.{list_any}
use Rattle.std.proofs.Common.{refl, sym, subst, ◌∙◌, inl}
use Rattle.attempt_laws.proofs.Stays.{plan_begins}
use Rattle.attempt_laws.specs.Asking.{numbers_of}
use Rattle.ccr_commit.specs.Entries.{all_committed}
use Rattle.cl_base.specs.declared.header.Header.{Header}
use Rattle.cmm_attempt.proofs.Basics.{none_some}
use Rattle.cmm_attempt.specs.Attempts.{AttemptState, beginning}
use Rattle.cmm_attempt.specs.Calls.{turn}
use Rattle.cmm_member.specs.Records.{NodeRecord}
use Rattle.history.specs.Contact.{AttemptsDiffer}
use Rattle.history.specs.Moment.{Moment}
use Rattle.history.specs.Seizing.{is_attempt, keys_seized}
use Rattle.membership_machine.specs.State.{Memberships}
use Rattle.node_model.specs.Attempts.{base_lines, own_promise, starting_as}
use Rattle.node_model.specs.Entries.{unknown_lines}
use Rattle.node_model.specs.Members.{rested_by}
use Rattle.node_model.specs.Seats.{promising}
use Rattle.node_model.specs.declared.cluster.Cluster.{Cluster}
use Rattle.node_model.specs.declared.node.UpNode.{UpNode}
use Rattle.refinement.specs.Doings.{Change, adopted_by, changed, first_lines, last_lines, of_node, superseded_lines}
use Rattle.refinement.specs.Doings.Change.{Acks, Admits, Commits, Counts, Distrusts, Installs, Leads, Prepares, Promises, Proposes, Sits, Starts}
use Rattle.refinement.specs.Guards.{MayChange}
use Rattle.refinement.specs.Ties.{Delivered}
use Rattle.status_report.specs.declared.node_entry.NodeEntry.TheVariants as note
use Rattle.run_seizings.proofs.Progress.{no_truth}
use Rattle.run_seizings.proofs.Promising.{ChangeMay}
use Rattle.run_devices.proofs.valid.Members.{seizer_member}
use Rattle.run_devices.specs.installs.Shown.{BodyShown, EndedAs, Shown}
use Rattle.run_devices.proofs.installs.Acts.{OptMine, mine_of}
use Rattle.run_devices.proofs.installs.Calls.{Known, Mine, NobodyHas, ShownNow, installs_so}
use Rattle.run_devices.proofs.installs.Links.{Gives, Says, gives_append}
use Rattle.run_devices.proofs.installs.Silent.{adopted_give, bases_give, superseded_gives, unknown_gives}
use Rattle.run_devices.proofs.installs.Turns.{Rests, first_ends}
use Rattle.run_devices.specs.readings.Readings.{AreInOrder}
use Rattle.run_devices.proofs.readings.Order.{apart_of}

-- those that rest on what the lines show by now
abbrev pub StirsChange : Change → Type 0
StirsChange (Counts a q s i) = Unit {0}
StirsChange (Leads p members) = Unit {0}
StirsChange (Installs s i) = Unit {0}
StirsChange _ = ⊥

pub first_gives : (P : Says) (n : ℕ) (ch : Change) → Gives P n (first_lines n ch)
first_gives P n (Admits on command a d) = tt
first_gives P n (Proposes s p text) = tt
first_gives P n _ = tt

-- ---- an attempt that begins was not seized for

nobody_yet : (h : Header) (K : Shown) (ms : List Moment) (p : ℕ) → AttemptsDiffer ms → ShownNow h K ms → list_any (is_attempt p) ms ≡ false → NobodyHas K p
nobody_yet h K ms p differ now new k d = now k p d ∙ by_keys (keys_seized h k p d ms) refl
  where
    by_keys : (o : Option (List ℕ)) → keys_seized h k p d ms ≡ o → keys_seized h k p d ms ≡ None
    by_keys None is = is
    by_keys (Some keys) is = absurd (no_truth (sym new ∙ (seizer_member h ms k p d keys differ is).begun))

begun_mine : (K : Shown) (high p members n : ℕ) (c : Cluster) (z : UpNode) → AreInOrder (numbers_of c.attached) → NobodyHas K p
    → Mine K high (beginning p members (own_promise n z p) c.attached c.id).after
begun_mine K high p members n c z apart nobody =
    let a : AttemptState = (beginning p members (own_promise n z p) c.attached c.id).after in
    let none : NobodyHas K a.plan.epoch = subst (λ e. NobodyHas K e) (sym (plan_begins p members (own_promise n z p) c.attached c.id).of_epoch) nobody in
    record {
      before = λ before. inl none;
      shown = record {
        seizing = λ is.
            let r : Rests (EndedAs K a.plan.epoch) a = (first_ends (EndedAs K a.plan.epoch) p members (own_promise n z p) c.attached c.id (apart_of (numbers_of c.attached) apart)).0 is in
            (r.0, r.2);
        installing = λ phase. λ k d keys seized. absurd (none_some keys (sym (none k d) ∙ seized));
      };
    }

-- ---- each change

abbrev pub Changed : Header → Cluster → Memberships → ℕ → ℕ → Shown → UpNode → List Moment → Change → Type 0
Changed h c M n high K x ms ch = OptMine K high (changed c n x ch).attempt × Gives (BodyShown K M ms) n (last_lines c n x ch)

pub change_mine : (h : Header) (c : Cluster) (M : Memberships) (n : ℕ) (told : Delivered) (high : ℕ) (K : Shown) (disk : NodeRecord) (x : UpNode) (ms : List Moment) (ch : Change)
    → AreInOrder (numbers_of c.attached) → AttemptsDiffer ms → MayChange c n told x ch → ChangeMay h x ch → Known h c M n told high K disk x ms → (StirsChange ch → ShownNow h K ms)
    → ((p members : ℕ) → ch ≡ Leads p members → list_any (is_attempt p) ms ≡ false) → OptMine K high x.attempt → Changed h c M n high K x ms ch
change_mine h c M n told high K disk x ms (Promises p) apart differ may guard k now new mine = (
  by_attempt x.attempt,
  gives_append (BodyShown K M ms) n (superseded_lines p x.attempt) (unknown_lines n x.requests.waiting)
      (superseded_gives (BodyShown K M ms) n p x.attempt) (unknown_gives (BodyShown K M ms) n x.requests.waiting),
)
  where
    by_attempt : (o : Option AttemptState) → OptMine K high (rested_by (promising x p) o).attempt
    by_attempt None = tt
    by_attempt (Some a) = tt
change_mine h c M n told high K disk x ms (Leads p members) apart differ may guard k now new mine = (
  begun_mine K high p members n c (record (promising x p) { greatest = p }) apart (nobody_yet h K ms p differ (now tt) (new p members refl)),
  unknown_gives (BodyShown K M ms) n x.requests.waiting,
)
change_mine h c M n told high K disk x ms (Counts a q s i) apart differ may guard k now new mine =
    ((installs_so h c M n told high K disk x ms a q i k (now tt) may.0 may.2 guard may.3 (mine_of K high x.attempt a may.0 mine)).mine, tt)
change_mine h c M n told high K disk x ms (Installs s i) apart differ may guard k now new mine = (mine, tt)
change_mine h c M n told high K disk x ms (Starts a q s) apart differ may guard k now new mine =
    let y : AttemptState = (turn a q).after in
    let P : Says = BodyShown K M ms in (
      tt,
      gives_append P n (base_lines y.plan.epoch 0 (all_committed s.saved.entries).committed) (adopted_by c y (starting_as c n x y s) ++ of_node n (note.Member y.plan.epoch) ∷ [])
          (bases_give P n y.plan.epoch 0 (all_committed s.saved.entries).committed)
          (gives_append P n (adopted_by c y (starting_as c n x y s)) (of_node n (note.Member y.plan.epoch) ∷ []) (adopted_give P n c y (starting_as c n x y s)) tt),
    )
change_mine h c M n told high K disk x ms (Sits s e) apart differ may guard k now new mine = (mine, tt)
change_mine h c M n told high K disk x ms (Distrusts d) apart differ may guard k now new mine = (mine, tt)
change_mine h c M n told high K disk x ms (Admits on command a d) apart differ may guard k now new mine = (mine, tt)
change_mine h c M n told high K disk x ms (Proposes s p text) apart differ may guard k now new mine = (mine, tt)
change_mine h c M n told high K disk x ms (Acks s p q left text) apart differ may guard k now new mine = (mine, tt)
change_mine h c M n told high K disk x ms (Prepares s text) apart differ may guard k now new mine = (mine, tt)
change_mine h c M n told high K disk x ms (Commits s) apart differ may guard k now new mine = (mine, tt)
