-- What writing answers to the words of a response.
use Rattle.std.specs.Prelude.{ℕ, List, length, ltb, Result, Ok, Err}
use Rattle.field.specs.Field.{pick}
use Rattle.response_header.specs.Response.{max_data_length}
use Rattle.response_writer.specs.Writing.{Outcome, writing}
use Rattle.response_header.specs.declared.Numbers.{Numbers}
use Rattle.response_header.specs.declared.Response.{Response}
use Rattle.response_words.specs.ResponseWords.{unfit_refusal}
use Rattle.response_words.specs.declared.Unfit.{Unfit}

abbrev pub numbers_of : ℕ → ℕ → ℕ → Numbers
numbers_of s e m = record { stat_sn = s; exp_cmd_sn = e; max_cmd_sn = m }

-- Words that are no response have writing's refusals too, after BUFFER.
unfoldable pub write_words : Result Response Unfit → List ℕ → Numbers → Outcome
write_words (Ok r) out n = writing max_data_length out r n
write_words (Err u) out n = pick (ltb (length out) 48) (record { answer = 1; bytes = out }) (record { answer = unfit_refusal max_data_length u.stated; bytes = out })
