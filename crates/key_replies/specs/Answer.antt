-- The answer to a judged pair, in bytes.
use Rattle.std.specs.Prelude.{ℕ, Bool, true, false, List, [], ◌∷◌, ◌++◌, Result, Ok, Err}
use Rattle.text.specs.Text.{pick, bytes}
use Rattle.text_number.specs.Number.{decimal}
use Rattle.key_values.specs.declared.value.Reply.{Reply}
use Rattle.key_values.specs.declared.value.Reply.TheVariants as A
use Rattle.key_values.specs.declared.value.Judgement.{Judgement}
use Rattle.key_values.specs.declared.value.Judgement.TheVariants as J

-- numbers in decimal
unfoldable pub reply_bytes : Reply → List ℕ
reply_bytes A.Silent = []
reply_bytes A.Reject = bytes "Reject"
reply_bytes A.NotUnderstood = bytes "NotUnderstood"
reply_bytes A.Yes = bytes "Yes"
reply_bytes A.No = bytes "No"
reply_bytes A.None = bytes "None"
reply_bytes A.Rfc3720 = bytes "RFC3720"
reply_bytes (A.Number n) = decimal 10 n

abbrev pub is_silent : Reply → Bool
is_silent A.Silent = true
is_silent A.Reject = false
is_silent A.NotUnderstood = false
is_silent A.Yes = false
is_silent A.No = false
is_silent A.None = false
is_silent A.Rfc3720 = false
is_silent (A.Number n) = false

-- the name, =, the reply and a zero byte; good declarations get no answer
abbrev pub answer_from : List ℕ → Reply → List ℕ
answer_from start r = pick (is_silent r) [] ((start ++ reply_bytes r) ++ (0 ∷ []))

unfoldable pub answer_text : List ℕ → Reply → List ℕ
answer_text n r = answer_from (n ++ (61 ∷ [])) r

-- a refused pair gets none
abbrev pub reply_in : Result Judgement ℕ → Reply
reply_in (Err status) = A.Silent
reply_in (Ok (J.Said r)) = r
reply_in (Ok (J.Settles x r)) = r

abbrev pub said_text : List ℕ → Result Judgement ℕ → List ℕ
said_text n j = answer_text n (reply_in j)
