-- A president sends an Answer to another node.
use Rattle.std.specs.Prelude.{ℕ, ◌≡◌, ◌≢◌, Bool, true, false, List, ◌∷◌, Option, Some}
use Rattle.std.proofs.Common.{refl, sym, ap, subst, ◌∙◌, inl}
use Rattle.answer_words.specs.Answers.{answer_in}
use Rattle.cmm_attempt.proofs.Basics.{and_cases}
use Rattle.proposals.specs.declared.arrived.Kept.{Kept}
use Rattle.status_report.specs.declared.command_entry.Answer.TheVariants as answer
use Rattle.wire.specs.Spelling.{spelling}
use Rattle.wire.specs.declared.message.Body.TheVariants as body
use Rattle.history.specs.Moment.{Moment}
use Rattle.history.specs.Names as name
use Rattle.history.specs.Names.{Name, named}
use Rattle.history.specs.Setting.{Setting, coordinator}
use Rattle.node_model.specs.declared.cluster.Cluster.{Cluster}
use Rattle.refinement.specs.Widths.{LetterFits}
use Rattle.world_model.specs.Sends.{is_sent, name_of}
use Rattle.run_history.specs.Scenes.{Scene, posting}
use Rattle.run_commands.proofs.acknowledged.Granting.{IsAcked, open_in, sent_grants}
use Rattle.run_commands.specs.acknowledged.AnsweringGuards.{Due}
use Rattle.run_commands.proofs.acknowledged.Remote.{IsOpenTo}
use Rattle.run_commands.proofs.acknowledged.Settled.{AnswersAreSettled, IsSettled}
use Rattle.run_commands.proofs.acknowledged.Fresh.{NotTo, line_waits}
use Rattle.run_commands.proofs.acknowledged.Passing.{dropped_line, posting_stays, sent_line}
use Rattle.run_commands.proofs.acknowledged.Quiet.{requested_more, says_it, settled_more}
use Rattle.run_commands.proofs.acknowledged.Remotes.{Lasts}

-- ---- lines

lasts_same : (S : Setting) (c : Cluster) (n e : ℕ) (d : Due) (answers : List (Option Kept)) (ms : List Moment) → Lasts S c n e d answers ms ms
lasts_same S c n e d answers ms = record { requested = λ m q text h. h; settled = λ m q h. h; waits = λ h. h }

lasts_more : (S : Setting) (c : Cluster) (n e : ℕ) (d : Due) (answers : List (Option Kept)) (before : List Moment) (x : Moment) (ms : List Moment) → NotTo (IsOpenTo n d answers) e x → Lasts S c n e d answers before ms
    → Lasts S c n e d answers before (x ∷ ms)
lasts_more S c n e d answers before x ms never h = record {
  requested = λ m q text is. requested_more m q e text x ms (h.requested m q text is);
  settled = λ m q is. settled_more S c e m q x ms (h.settled m q is);
  waits = λ is. line_waits S (IsOpenTo n d answers) e x ms never (h.waits is);
}

same_question : (q p : ℕ) → name.Answer q ≡ name.Answer p → q ≡ p
same_question q p e = cc

-- the Answer is not to one that waits
pub sent_lasts : (S : Setting) (c : Cluster) (n e to q : ℕ) (text : List ℕ) (d : Due) (answers : List (Option Kept)) (s : Scene) → (IsOpenTo n d answers to q → ⊥)
    → Lasts S c n e d answers s.moments (posting n to (record { sender = n; body = body.Answer e q text }) s).moments
sent_lasts S c n e to q text d answers s never =
    posting_stays n to (body.Answer e q text) (Lasts S c n e d answers s.moments) s (λ p why ms h. lasts_more S c n e d answers s.moments (dropped_line p why) ms tt h)
    (λ p is. lasts_more S c n e d answers s.moments (sent_line p n to (body.Answer e q text)) s.moments
    (λ at r called f. never (subst (λ z. IsOpenTo n d answers to z) (sym (same_question q r called)) f)) (lasts_same S c n e d answers s.moments))
    (λ none. lasts_same S c n e d answers s.moments)

-- ---- the law

same_answer : (e q f p : ℕ) (text words : List ℕ) → Some (body.Answer e q text) ≡ Some (body.Answer f p words) → (e ≡ f) × (q ≡ p) × (text ≡ words)
same_answer e q f p text words h = (cc, cc, cc)

pub sent_settled : (S : Setting) (c : Cluster) (n e to q : ℕ) (text : List ℕ) (s : Scene) → LetterFits (record { from = n; body = body.Answer e q text })
    → ((p : ℕ) → is_sent s.links (record { sender = n; body = body.Answer e q text }) ≡ true → to ≢ n → answer_in text ≡ Some answer.Ok → IsSettled S c e to q (sent_line p n to (body.Answer e q text) ∷ s.moments))
    → AnswersAreSettled S c s.moments → AnswersAreSettled S c (posting n to (record { sender = n; body = body.Answer e q text }) s).moments
sent_settled S c n e to q text s fits settled h =
    posting_stays n to (body.Answer e q text) (AnswersAreSettled S c) s (λ p why ms k. (tt, k))
    (λ p is. (
      λ f r words ne said ok.
          let same : (e ≡ f) × (q ≡ r) × (text ≡ words) = same_answer e q f r text words (sym (says_it n (body.Answer e q text) fits (and_cases _ _ is).0) ∙ said) in
          subst (λ z. IsSettled S c z to r (sent_line p n to (body.Answer e q text) ∷ s.moments)) same.0
          (subst (λ z. IsSettled S c e to z (sent_line p n to (body.Answer e q text) ∷ s.moments)) same.1 (settled p is ne (ap answer_in same.2 ∙ ok))),
      h,
    ))
    (λ none. h)

-- ---- what is owed

-- once it is sent, the request is granted
pub sent_granted : (S : Setting) (c : Cluster) (n e to q : ℕ) (text words : List ℕ) (s : Scene) → coordinator e ≡ n → IsAcked e words s.moments → open_in S e to q words s.moments ≡ true
    → is_sent s.links (record { sender = n; body = body.Answer e q text }) ≡ true → IsSettled S c e to q (posting n to (record { sender = n; body = body.Answer e q text }) s).moments
sent_granted S c n e to q text words s own acked opens sends =
    posting_stays n to (body.Answer e q text) (IsSettled S c e to q) s (λ p why ms h. settled_more S c e to q (dropped_line p why) ms h) (λ p is. granted_line p) (λ none. absurd (never _ sends none))
  where
    never : (b : Bool) → b ≡ true → b ≡ false → ⊥
    never b x y = cc

    granted_line : (p : ℕ) → IsSettled S c e to q (sent_line p n to (body.Answer e q text) ∷ s.moments)
    granted_line p = inl (sent_grants S to q e p n words (name_of (body.Answer e q text)) (spelling (record { sender = n; body = body.Answer e q text })) s.moments (sym own) refl acked opens)
