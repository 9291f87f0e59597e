-- How many bytes fields have.
use Rattle.std.proofs.Common.{◌≡◌, ℕ, ◌+◌, ◌*◌, List, [], ◌∷◌, ◌++◌, length, Option, refl, ◌∙◌, arith}
use Rattle.std.specs.List.{flat_map, sum_by}
use Rattle.std.specs.Option.{option_to_list}
use Rattle.std.proofs.lemmas.List.{length-append}
use Rattle.std.proofs.lemmas.List.Concat.{length-flat_map}
use Rattle.std.proofs.lemmas.List.Sums.{sum_by-cons}
use Rattle.byteorder.specs.Numbers.{length-bytes_high_first}
use Rattle.cl_base.specs.Seizings.{SeizeResult}
use Rattle.cl_base.specs.declared.seizing.SeizeEnd.TheVariants as seized
use Rattle.wire.specs.declared.lists.Reading.{Reading}
use Rattle.wire.specs.declared.report.ResourceReport.{ResourceReport}
use Rattle.wire.specs.declared.report.GroupReport.{GroupReport}
use Rattle.wire.specs.declared.report.Report.{Report}
use Rattle.wire.specs.declared.message.Body.{Body}
use Rattle.wire.specs.declared.message.Body.TheVariants as body
use Rattle.wire.specs.Spelling.{number, word, truth_byte, method_byte, text, list, at_most_one, seconds_of, reading, resource_report, group_report, report, seized_result, fields}
use Rattle.wire.specs.Lengths.{text_length, words_length, list_length, updates_length, reading_length, resource_length, group_length, report_length, result_length, fields_length, SpellingsHaveTheirLength}

number_is : (k n : ℕ) → length (number k n) ≡ k
unfolding number
number_is k n = length-bytes_high_first k n

text_is : (t : List ℕ) → length (text t) ≡ text_length t
unfolding text
text_is t = omega (arith, length-append (number 4 (length t)) t, number_is 4 (length t))

-- one field and those after it
join : (xs ys : List ℕ) (a b : ℕ) → length xs ≡ a → length ys ≡ b → length (xs ++ ys) ≡ a + b
join xs ys a b e f = omega (arith, length-append xs ys, e, f)

last : (xs : List ℕ) (a : ℕ) → length xs ≡ a → length (xs ++ []) ≡ a
last xs a e = omega (arith, length-append xs [], e)

same_sum : {A : Type 0} (f g : A → ℕ) → ((x : A) → f x ≡ g x) → (xs : List A) → sum_by f xs ≡ sum_by g xs
same_sum f g e [] = refl
same_sum f g e (x ∷ xs) = omega (arith, sum_by-cons f x xs, sum_by-cons g x xs, e x, same_sum f g e xs)

list_is : {A : Type 0} (spell : A → List ℕ) (len : A → ℕ) → ((x : A) → length (spell x) ≡ len x) → (xs : List A) → length (list spell xs) ≡ list_length len xs
unfolding list
list_is spell len e xs =
    omega (arith, length-append (number 2 (length xs)) (flat_map spell xs), number_is 2 (length xs), length-flat_map spell xs, same_sum (λ x. length (spell x)) len e xs)

eights : (xs : List ℕ) → sum_by (λ _. 8) xs ≡ 8 * length xs
eights [] = refl
eights (x ∷ xs) = omega (arith, sum_by-cons (λ (_ : ℕ). 8) x xs, eights xs)

words_are : (xs : List ℕ) → length (list word xs) ≡ words_length xs
words_are xs = omega (arith, list_is word (λ _. 8) (number_is 8) xs, eights xs)

reading_is : (r : Reading) → length (reading r) ≡ reading_length r
reading_is r = omega (arith, last (list word r.keys) (words_length r.keys) (words_are r.keys))

resource_is : (r : ResourceReport) → length (resource_report r) ≡ resource_length r
resource_is r = join (text r.resource) _ (text_length r.resource) 1 (text_is r.resource) refl

group_is : (r : GroupReport) → length (group_report r) ≡ group_length r
group_is r =
    join (text r.group) _ _ _ (text_is r.group) (join (list word (seconds_of r.failures)) _ _ _ (words_are (seconds_of r.failures)) (last (at_most_one word r.moved) _ (words_are (option_to_list r.moved))))
    ∙ omega arith

report_is : (r : Report) → length (report r) ≡ report_length r
report_is r =
    join (list resource_report r.resources) _ _ _ (list_is resource_report resource_length resource_is r.resources) (last (list group_report r.groups) _ (list_is group_report group_length group_is r.groups))

updates_are : (committed : List (List ℕ)) (pending : Option (List ℕ)) (ys : List ℕ) (b : ℕ) → length ys ≡ b → length (list text committed ++ (at_most_one text pending ++ ys)) ≡ updates_length committed pending + b
updates_are committed pending ys b e =
    join (list text committed) _ _ _ (list_is text text_length text_is committed) (join (at_most_one text pending) ys _ _ (list_is text text_length text_is (option_to_list pending)) e)
    ∙ omega arith

result_is : (r : SeizeResult) → length (seized_result r) ≡ result_length r
result_is (seized.Held keys) = omega (arith, join (word 0) _ _ _ (number_is 8 0) (last (list word keys) _ (words_are keys)))
result_is (seized.NotRegistered keys) = omega (arith, join (word 0) _ _ _ (number_is 8 0) (last (list word keys) _ (words_are keys)))
result_is (seized.Greater w) = omega (arith, join (word w) _ _ _ (number_is 8 w) (last (list word []) _ (words_are [])))
result_is seized.Expelled = omega (arith, join (word 0) _ _ _ (number_is 8 0) (last (list word []) _ (words_are [])))
result_is (seized.Contended key) = omega (arith, join (word key) _ _ _ (number_is 8 key) (last (list word []) _ (words_are [])))
result_is seized.Fault = omega (arith, join (word 0) _ _ _ (number_is 8 0) (last (list word []) _ (words_are [])))

-- two numbers of 8 bytes, and what follows them
two : (m n : ℕ) (ys : List ℕ) (b : ℕ) → length ys ≡ b → length (word m ++ (word n ++ ys)) ≡ 16 + b
two m n ys b e = join (word m) _ 8 _ (number_is 8 m) (join (word n) ys 8 b (number_is 8 n) e) ∙ omega arith

-- an epoch and a set, and what follows them
with_set : (m n : ℕ) (ys : List ℕ) (b : ℕ) → length ys ≡ b → length (word m ++ (number 4 n ++ ys)) ≡ 12 + b
with_set m n ys b e = join (word m) _ 8 _ (number_is 8 m) (join (number 4 n) ys 4 b (number_is 4 n) e) ∙ omega arith

fields_are : (b : Body) → length (fields b) ≡ fields_length b
fields_are (body.Heartbeat promised session member) = two promised session _ 1 refl
fields_are (body.Collect epoch members) = with_set epoch members [] 0 refl
fields_are (body.Promise epoch installed members valid flagged committed pending) =
    two epoch installed _ _ (join (number 4 members) _ 4 _ (number_is 4 members) (join (number 4 valid) _ 4 _ (number_is 4 valid) (join (truth_byte flagged ∷ []) _ 1 _ refl (updates_are committed pending [] 0 refl))))
    ∙ omega arith
fields_are (body.Nack epoch promised) = two epoch promised [] 0 refl
fields_are (body.SeizeQuorum epoch members device) = with_set epoch members _ 1 refl
fields_are (body.SeizeData epoch members device) = with_set epoch members _ 1 refl
fields_are (body.Seized epoch device outcome) =
    join (word epoch) _ 8 _ (number_is 8 epoch) (join (device ∷ []) _ 1 _ refl (last (seized_result outcome) _ (result_is outcome))) ∙ omega arith
fields_are (body.Install i) =
    with_set i.epoch i.members _ _ (updates_are i.committed i.pending _ _ (last (list reading i.readings) _ (list_is reading reading_length reading_is i.readings)))
    ∙ omega arith
fields_are (body.Ready epoch joined told) = with_set epoch joined _ _ (last (report told) _ (report_is told))
fields_are (body.Start epoch) = last (word epoch) 8 (number_is 8 epoch)
fields_are (body.Prepare epoch place update) = two epoch place _ _ (last (text update) _ (text_is update))
fields_are (body.Prepared epoch place) = two epoch place [] 0 refl
fields_are (body.Commit epoch place) = two epoch place [] 0 refl
fields_are (body.Order o) = two o.epoch o.number _ _ (join (method_byte o.method ∷ []) _ 1 _ refl (last (text o.resource) _ (text_is o.resource))) ∙ omega arith
fields_are (body.Done epoch order outcome) = two epoch order _ 1 refl
fields_are (body.Request epoch request words) = two epoch request _ _ (last (text words) _ (text_is words))
fields_are (body.Answer epoch request words) = two epoch request _ _ (last (text words) _ (text_is words))
fields_are (body.Excluded epoch newest) = two epoch newest [] 0 refl

pub spellings : SpellingsHaveTheirLength
spellings m = omega (arith, last (fields m.body) _ (fields_are m.body))
