-- What the lines and messages of a node leave of what other nodes have proposed, and of their ticks.
use Rattle.std.specs.Prelude.{ℕ, ◌≡◌, ◌≢◌, ◌==◌, ◌&&◌, ◌||◌, Bool, false, List, [], ◌∷◌, None, Some}
use Rattle.std.specs.List.{list_any}
use Rattle.std.proofs.Common.{refl, sym, subst, ◌∙◌, arith}
use Rattle.cmm_attempt.proofs.Basics.{same_number}
use Rattle.history.specs.Contact.{is_proposal}
use Rattle.history.specs.Order.{before_last}
use Rattle.history.specs.Messages.{pending_place}
use Rattle.history.specs.Moment.{Moment, Told}
use Rattle.history.specs.Names as name
use Rattle.history.specs.Names.{Name, named, same_name}
use Rattle.history.specs.Setting.{coordinator}
use Rattle.node_model.specs.declared.output.Output.{Output}
use Rattle.node_model.specs.declared.output.Output.TheVariants.{Sends, Tells}
use Rattle.run_history.proofs.Idle.{if_false}
use Rattle.run_history.specs.Scenes.{Scene, passing, posting, telling}
use Rattle.run_messages.specs.Outputs.{AreGood, NoPacket}
use Rattle.run_packets.specs.prepares.Proposals.{AreSo, IsSo}
use Rattle.status_report.specs.declared.entry.Entry.{Entry}
use Rattle.status_report.specs.declared.entry.Entry.TheVariants as entry
use Rattle.status_report.specs.declared.node_entry.NodeEntry.TheVariants as note
use Rattle.status_report.specs.declared.update_entry.UpdateEntry.TheVariants as update
use Rattle.wire.specs.declared.message.Body.{Body}
use Rattle.world_model.specs.Sends.{name_of}
use Rattle.run_packets.proofs.repeats.Lines.{by_sent, dropped_ticks, posting_last, posting_place, posting_proposals, sent_line, since_prepare}

-- ---- of other nodes

other_false : (a b : ℕ) → (a ≡ b → ⊥) → (a == b) ≡ false
other_false a b h = grind (arith, h)

ticks_elsewhere : (j m v n : ℕ) (e : Entry) (os : List Output) (ms : List Moment) → j ≢ n → NoPacket e → IsSo [] n (Tells e) os → since_prepare j m v (Told e ∷ ms) ≡ since_prepare j m v ms
ticks_elsewhere j m v n (entry.Node k note.Ticked) os ms other good so = if_false (k == j) _ (since_prepare j m v ms) (other_false k j (λ is. other (sym is ∙ same_number k n so)))
ticks_elsewhere j m v n (entry.Packet e) os ms other good so = absurd good
ticks_elsewhere j m v n _ os ms other good so = refl

place_elsewhere : (j f n : ℕ) (e : Entry) (os : List Output) (ms : List Moment) → j ≢ n → coordinator f ≡ j → IsSo [] n (Tells e) os → pending_place f (Told e ∷ ms) ≡ pending_place f ms
place_elsewhere j f n (entry.Update (update.Proposed e v text)) os ms other own so =
    if_false (e == f) (Some v) (pending_place f ms) (other_false e f (λ is. other (sym own ∙ (subst (λ z. coordinator z ≡ n) is so.0))))
place_elsewhere j f n (entry.Update (update.Acknowledged e v text)) os ms other own so =
    if_false (e == f) None (pending_place f ms) (other_false e f (λ is. other (sym own ∙ (subst (λ z. coordinator z ≡ n) is (same_number (coordinator e) n so)))))
place_elsewhere j f n _ os ms other own so = refl

sends_elsewhere : (j m v n to : ℕ) (b : Body) (s : Scene) → j ≢ n → since_prepare j m v (posting n to (record { sender = n; body = b }) s).moments ≡ since_prepare j m v s.moments
sends_elsewhere j m v n to b s other =
    by_sent (λ t. since_prepare j m v t.moments ≡ since_prepare j m v s.moments) n to b s
    (λ o. dropped_ticks j m v o (sent_line n to b s)
    ∙ if_false ((n == j) && (to == m) && same_name (named (name_of b)) (name.Prepare v)) (Some 0) (since_prepare j m v s.moments)
    (first_false (n == j) (to == m) (same_name (named (name_of b)) (name.Prepare v)) (other_false n j (λ is. other (sym is))))) refl
  where
    first_false : (a b d : Bool) → a ≡ false → (a && b && d) ≡ false
    first_false a b d h = cc

pub passing_elsewhere : (j m v n : ℕ) (os : List Output) (s : Scene) → j ≢ n → AreGood n os → AreSo [] n os → since_prepare j m v (passing n os s).moments ≡ since_prepare j m v s.moments
passing_elsewhere j m v n [] s other good so = refl
passing_elsewhere j m v n (Tells e ∷ os) s other good so = passing_elsewhere j m v n os (telling e s) other good.1 so.1 ∙ ticks_elsewhere j m v n e os s.moments other good.0 so.0
passing_elsewhere j m v n (Sends to b ∷ os) s other good so =
    passing_elsewhere j m v n os (posting n to (record { sender = n; body = b }) s) other good.1 so.1 ∙ sends_elsewhere j m v n to b s other

pub places_elsewhere : (j f n : ℕ) (os : List Output) (s : Scene) → j ≢ n → coordinator f ≡ j → AreSo [] n os → pending_place f (passing n os s).moments ≡ pending_place f s.moments
places_elsewhere j f n [] s other own so = refl
places_elsewhere j f n (Tells e ∷ os) s other own so = places_elsewhere j f n os (telling e s) other own so.1 ∙ place_elsewhere j f n e os s.moments other own so.0
places_elsewhere j f n (Sends to b ∷ os) s other own so = places_elsewhere j f n os (posting n to (record { sender = n; body = b }) s) other own so.1 ∙ posting_place f n to b s

proposals_line : (j f w n : ℕ) (e : Entry) (os : List Output) (ms : List Moment) → j ≢ n → coordinator f ≡ j → IsSo [] n (Tells e) os → list_any (is_proposal f w) (Told e ∷ ms) ≡ list_any (is_proposal f w) ms
proposals_line j f w n (entry.Update (update.Proposed e v text)) os ms other own so =
    other_or ((e == f) && (v == w)) (list_any (is_proposal f w) ms) (not_both (e == f) (v == w) (other_false e f (λ is. other (sym own ∙ (subst (λ z. coordinator z ≡ n) is so.0)))))
  where
    not_both : (a b : Bool) → a ≡ false → (a && b) ≡ false
    not_both a b h = cc

    other_or : (a b : Bool) → a ≡ false → (a || b) ≡ b
    other_or a b h = cc
proposals_line j f w n _ os ms other own so = refl

last_line : (j f w n : ℕ) (e : Entry) (os : List Output) (ms : List Moment) → j ≢ n → coordinator f ≡ j → IsSo [] n (Tells e) os → before_last (is_proposal f w) (Told e ∷ ms) ≡ before_last (is_proposal f w) ms
last_line j f w n (entry.Update (update.Proposed e v text)) os ms other own so =
    if_false ((e == f) && (v == w)) ms (before_last (is_proposal f w) ms) (not_both (e == f) (v == w) (other_false e f (λ is. other (sym own ∙ (subst (λ z. coordinator z ≡ n) is so.0)))))
  where
    not_both : (a b : Bool) → a ≡ false → (a && b) ≡ false
    not_both a b h = cc
last_line j f w n _ os ms other own so = refl

pub proposals_elsewhere : (j f w n : ℕ) (os : List Output) (s : Scene) → j ≢ n → coordinator f ≡ j → AreSo [] n os → list_any (is_proposal f w) (passing n os s).moments ≡ list_any (is_proposal f w) s.moments
proposals_elsewhere j f w n [] s other own so = refl
proposals_elsewhere j f w n (Tells e ∷ os) s other own so = proposals_elsewhere j f w n os (telling e s) other own so.1 ∙ proposals_line j f w n e os s.moments other own so.0
proposals_elsewhere j f w n (Sends to b ∷ os) s other own so = proposals_elsewhere j f w n os (posting n to (record { sender = n; body = b }) s) other own so.1 ∙ posting_proposals f w n to b s

pub last_elsewhere : (j f w n : ℕ) (os : List Output) (s : Scene) → j ≢ n → coordinator f ≡ j → AreSo [] n os → before_last (is_proposal f w) (passing n os s).moments ≡ before_last (is_proposal f w) s.moments
last_elsewhere j f w n [] s other own so = refl
last_elsewhere j f w n (Tells e ∷ os) s other own so = last_elsewhere j f w n os (telling e s) other own so.1 ∙ last_line j f w n e os s.moments other own so.0
last_elsewhere j f w n (Sends to b ∷ os) s other own so = last_elsewhere j f w n os (posting n to (record { sender = n; body = b }) s) other own so.1 ∙ posting_last f w n to b s
