-- What passed up to each step of a joining.
use Rattle.std.proofs.Common.{◌≡◌, ◌≢◌, ℕ, ◌==◌, List, [], ◌∷◌, Option, Some, None, Ok, refl, sym, ap, subst, ◌∙◌}
use Rattle.std.proofs.lemmas.Bool.{cond_both, eqb-true, eqb-false}
use Rattle.std.proofs.lemmas.Option.{none-some, same_Some}
use Rattle.pgr_device.specs.declared.command.PrCommand.TheVariants as command
use Rattle.pgr_device.specs.declared.command.PrAnswer.TheVariants as answer
use Rattle.seize.specs.declared.kind.JoinResult.{JoinResult}
use Rattle.seize.specs.declared.kind.JoinResult.TheVariants.{Joined, Late, Fault}
use Rattle.seize.specs.declared.step.JoinStep.{JoinStep}
use Rattle.seize.specs.declared.step.JoinStep.TheVariants.{Register, ReadWord, Ended}
use Rattle.seize.specs.Answers.{Answer, word_told, is_good}
use Rattle.seize.specs.Endings.{HasFailed}
use Rattle.seize.specs.Exchanges.{Exchange, exchanged, join_fed, join_exchanges, word_read}
use Rattle.seize.specs.Joining.{JoinState, begun, command_at, result_at, result_of, compared, next_step, taken}
use Rattle.cl_base.specs.Keys.{key_of}
use Rattle.seize.proofs.Failures.{from_good, from_word, word_failed, ignore_failed}

abbrev registered : JoinState → Answer → Exchange
registered s a = record { command = command.Ignore (key_of s.cluster s.me); answer = a }

abbrev pub IsEnding : JoinState → JoinResult → List Exchange → Type 0
IsEnding s Joined es = es ≡ word_read s.epoch ∷ registered s (Ok answer.Good) ∷ []
IsEnding s (Late word) es = (word ≢ s.epoch) × (es ≡ word_read word ∷ registered s (Ok answer.Good) ∷ [])
IsEnding s Fault es = HasFailed es

abbrev IsPast : JoinState → JoinStep → List Exchange → Type 0
IsPast s Register es = es ≡ []
IsPast s ReadWord es = es ≡ registered s (Ok answer.Good) ∷ []
IsPast s (Ended result) es = IsEnding s result es

past_compared : (s : JoinState) (es : List Exchange) (a : Answer) (told : Option ℕ) → word_told a ≡ told
    → es ≡ registered s (Ok answer.Good) ∷ [] → IsEnding s (compared s told) (record { command = command.Word; answer = a } ∷ es)
past_compared s es a None e h = word_failed a e
past_compared s es a (Some word) e h =
    let all : (record { command = command.Word; answer = a } ∷ es) ≡ word_read word ∷ registered s (Ok answer.Good) ∷ []
    = ap (λ b. record { command = command.Word; answer = b } ∷ es) (sym (from_word a word e)) ∙ ap (λ earlier. word_read word ∷ earlier) h in
    cond_both (word == s.epoch) Joined (Late word) (λ r. IsEnding s r (record { command = command.Word; answer = a } ∷ es))
    (λ same. all ∙ ap (λ n. word_read n ∷ registered s (Ok answer.Good) ∷ []) (eqb-true word s.epoch same))
    (λ other. (eqb-false word s.epoch other, all))

past_next : (s : JoinState) (step : JoinStep) (es : List Exchange) (a : Answer) → IsPast s step es
    → IsPast s (next_step s step a) (exchanged (command_at s step) a es)
past_next s Register es a h =
    cond_both (is_good a) ReadWord (Ended Fault) (λ x. IsPast s x (registered s a ∷ es))
    (λ good. ap (λ b. registered s b ∷ es) (sym (from_good a good)) ∙ ap (λ none. registered s (Ok answer.Good) ∷ none) h)
    (ignore_failed (key_of s.cluster s.me) a)
past_next s ReadWord es a h = past_compared s es a (word_told a) refl h
past_next s (Ended result) es a h = h

-- the step after these answers
abbrev reached : JoinState → List Answer → JoinStep
reached s [] = s.step
reached s (a ∷ earlier) = next_step s (reached s earlier) a

fed_is : (s : JoinState) (answers : List Answer) → join_fed s answers ≡ record s { step = reached s answers }
fed_is s [] = refl
fed_is s (a ∷ earlier) = ap (λ t. taken t a) (fed_is s earlier)

past : (s : JoinState) → s.step ≡ Register → (answers : List Answer) → IsPast s (reached s answers) (join_exchanges s answers)
past s first [] = subst (λ x. IsPast s x []) (sym first) refl
past s first (a ∷ earlier) =
    subst (λ t. IsPast s (next_step s (reached s earlier) a) (exchanged (command_at t t.step) a (join_exchanges s earlier))) (sym (fed_is s earlier))
    (past_next s (reached s earlier) (join_exchanges s earlier) a (past s first earlier))

ended_at : (step : JoinStep) (result : JoinResult) → result_at step ≡ Some result → step ≡ Ended result
ended_at (Ended other) result e = ap Ended (same_Some _ _ e)
ended_at step result e = absurd (none-some _ e)

pub join_ending : (epoch me cluster : ℕ) (answers : List Answer) (result : JoinResult) → result_of (join_fed (begun epoch me cluster) answers) ≡ Some result
    → IsEnding (begun epoch me cluster) result (join_exchanges (begun epoch me cluster) answers)
join_ending epoch me cluster answers result e =
    let s : JoinState = begun epoch me cluster in
    subst (λ x. IsPast s x (join_exchanges s answers)) (ended_at (reached s answers) result (sym (ap result_of (fed_is s answers)) ∙ e))
    (past s refl answers)
