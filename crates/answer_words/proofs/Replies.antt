-- The text of each answer is read as this answer.
use Rattle.std.proofs.Common.{◌≡◌, ℕ, List, [], ◌∷◌, Some, refl, ap, ◌∙◌, codes}
use Rattle.std.specs.Fmt.{decimal}
use Rattle.cl_base.specs.declared.refusal.Refusal.{Refusal}
use Rattle.cl_base.specs.declared.refusal.Refusal.TheVariants as refusal
use Rattle.status_report.specs.CommandLines.{reply_text, thing_text}
use Rattle.status_report.specs.Words.{joined, spaced}
use Rattle.status_report.specs.declared.command_entry.Answer.{Answer}
use Rattle.status_report.specs.declared.command_entry.Answer.TheVariants as answer
use Rattle.answer_words.specs.Answers.{answer_in, answer_of, refused}
use Rattle.answer_words.specs.Laws.{IsAnswer, IsRefusal}
use Rattle.answer_words.specs.Spellings.{operand_word_in, plain_refusal_in, refused_command_in, whole_answer_in}
use Rattle.answer_words.proofs.Cuts.{EachLacks, refused_cut, spaceless}
use Rattle.answer_words.proofs.Operands.{name_known, name_word, names_known, names_word, node_known, node_word, number_known, number_word, thing_known, thing_word}

behind_refused : (word : List ℕ) (words : List (List ℕ)) → EachLacks 32 (word ∷ words) → answer_in (spaced (codes "refused" ∷ spaced (word ∷ words) ∷ [])) ≡ refused word words
unfolding answer_in
behind_refused word words h = ap answer_of (refused_cut word words h)

pub refusal_read : (r : Refusal) → IsRefusal r → answer_in (reply_text (answer.Refused r)) ≡ Some (answer.Refused r)
unfolding answer_in operand_word_in plain_refusal_in
refusal_read (refusal.Unknown t) h = behind_refused (codes "unknown") (thing_text t ∷ []) (spaceless (codes "unknown") refl, (thing_word t h, tt)) ∙ rw (thing_known t h) refl
refusal_read refusal.Exists h = refl
refusal_read (refusal.InUse by) h = behind_refused (codes "in-use") (by ∷ []) (spaceless (codes "in-use") refl, (name_word by h, tt)) ∙ rw (name_known by h) refl
refusal_read refusal.Managed h = refl
refusal_read refusal.Unmanaged h = refl
refusal_read refusal.SameValue h = refl
refusal_read (refusal.NotListed n) h =
    behind_refused (codes "not-listed") (decimal n ∷ []) (spaceless (codes "not-listed") refl, (node_word n h, tt)) ∙ rw (node_known n h) refl
refusal_read refusal.TooMany h = refl
refusal_read refusal.BadProperty h = refl
refusal_read refusal.BadSetting h = refl
refusal_read refusal.StillUp h = refl
refusal_read (refusal.Cycle names) h =
    behind_refused (codes "cycle") (joined 44 (λ name. name) names ∷ []) (spaceless (codes "cycle") refl, (names_word names h, tt)) ∙ rw (names_known names h) refl
refusal_read refusal.Single h = refl
refusal_read refusal.NoMark h = refl
refusal_read refusal.NodeIsMember h = refl
refusal_read refusal.DeviceNotHeld h = refl
refusal_read refusal.NodeHasVote h = refl
refusal_read (refusal.LoseQuorum have need) h =
    behind_refused (codes "lose-quorum") (decimal have ∷ decimal need ∷ []) (spaceless (codes "lose-quorum") refl, (number_word have h.0, (number_word need h.1, tt)))
    ∙ rw (number_known have h.0, number_known need h.1) refl
refusal_read (refusal.RecordFull n) h =
    behind_refused (codes "record-full") (decimal n ∷ []) (spaceless (codes "record-full") refl, (number_word n h, tt)) ∙ rw (number_known n h) refl

pub answer_read : (a : Answer) → IsAnswer a → answer_in (reply_text a) ≡ Some a
unfolding answer_in operand_word_in plain_refusal_in refused_command_in whole_answer_in
answer_read answer.Ok h = refl
answer_read answer.Unknown h = refl
answer_read answer.UnknownCommand h = refl
answer_read answer.MissingOperand h = refl
answer_read answer.BadValue h = refl
answer_read answer.NotMember h = refl
answer_read (answer.Ask n) h = behind_refused (codes "ask") (decimal n ∷ []) (spaceless (codes "ask") refl, (node_word n h, tt)) ∙ rw (node_known n h) refl
answer_read answer.QueueFull h = refl
answer_read (answer.Refused r) h = refusal_read r h
