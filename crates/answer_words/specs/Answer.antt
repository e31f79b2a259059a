-- A session's answer as four words: what came, and its values, 0 where it has none; and as one number, where it has one value at most.
use Rattle.std.specs.Prelude.{ℕ, ◌%◌, ◌/◌, ◌^◌, List, [], ◌∷◌, Result, Ok, Err}
use Rattle.refusal.specs.declared.Refusal.{Refusal}
use Rattle.refusal.specs.Refusal.{number}
use Rattle.task_book.specs.Steps as T
use Rattle.window.specs.Book as W
use Rattle.book.specs.Book.{Reply, numbers, next_is, holding, length_is, Answer, refused, immediate, opened, window, sent, acknowledged, run, resent, moved, told}

-- the connection that a command came on; 4 where it has none
abbrev pub origin_word : W.Origin → ℕ
origin_word W.none = 4
origin_word (W.connection c) = c

abbrev pub window_words : W.Answer → List ℕ
window_words W.kept = 33 ∷ 0 ∷ 0 ∷ 0 ∷ []
window_words W.duplicate = 34 ∷ 0 ∷ 0 ∷ 0 ∷ []
window_words W.passed = 35 ∷ 0 ∷ 0 ∷ 0 ∷ []
window_words W.beyond = 36 ∷ 0 ∷ 0 ∷ 0 ∷ []
window_words W.nothing = 38 ∷ 0 ∷ 0 ∷ 0 ∷ []
window_words (W.command n t o) = 40 ∷ n ∷ t ∷ origin_word o ∷ []
window_words (W.void n) = 39 ∷ n ∷ 0 ∷ 0 ∷ []
window_words (W.logged_out e v) = 32 ∷ e ∷ v ∷ 0 ∷ []
window_words (W.refused n) = n ∷ 0 ∷ 0 ∷ 0 ∷ []

-- who holds a number: 41 for nobody, 39 for a void one, 42 for a held one
abbrev pub holder_words : W.Holder → List ℕ
holder_words W.free = 41 ∷ 0 ∷ 0 ∷ 0 ∷ []
holder_words W.heldVoid = 39 ∷ 0 ∷ 0 ∷ 0 ∷ []
holder_words (W.held_by t o) = 42 ∷ t ∷ origin_word o ∷ 0 ∷ []

-- a length is answered as reading is: 0, which is no refusal
abbrev pub reply_words : Reply → List ℕ
reply_words (numbers e m) = 32 ∷ e ∷ m ∷ 0 ∷ []
reply_words (next_is n) = 32 ∷ n ∷ 0 ∷ 0 ∷ []
reply_words (holding h) = holder_words h
reply_words (length_is n) = 0 ∷ n ∷ 0 ∷ 0 ∷ []

-- a transfer: 32 for a header that is written, and with their place, their count and the R2Ts still open for data that came; 43 for a run, 44 for numbers
-- that are acknowledged
abbrev pub moved_words : T.Answer → List ℕ
moved_words (T.refused n) = n ∷ 0 ∷ 0 ∷ 0 ∷ []
moved_words (T.data_in h) = 32 ∷ 0 ∷ 0 ∷ 0 ∷ []
moved_words (T.r2t h) = 32 ∷ 0 ∷ 0 ∷ 0 ∷ []
moved_words (T.came f n k) = 32 ∷ f ∷ n ∷ k ∷ []
moved_words (T.run f n) = 43 ∷ f ∷ n ∷ 0 ∷ []
moved_words (T.acknowledged n) = 44 ∷ n ∷ 0 ∷ 0 ∷ []

-- a refusal's number; 32 for what is done; 33 to 40 for kept, duplicate, passed, beyond, immediate, nothing, void and a command
abbrev pub answer_words : Answer → List ℕ
answer_words (refused n) = n ∷ 0 ∷ 0 ∷ 0 ∷ []
answer_words immediate = 37 ∷ 0 ∷ 0 ∷ 0 ∷ []
answer_words opened = 32 ∷ 0 ∷ 0 ∷ 0 ∷ []
answer_words (window a) = window_words a
answer_words (sent n) = 32 ∷ n ∷ 0 ∷ 0 ∷ []
answer_words (acknowledged n) = 32 ∷ n ∷ 0 ∷ 0 ∷ []
answer_words (run f n) = 32 ∷ f ∷ n ∷ 0 ∷ []
answer_words (resent t) = 32 ∷ t ∷ 0 ∷ 0 ∷ []
answer_words (moved a x) = moved_words a
answer_words (told r) = reply_words r

-- a value under an answer's number, or a refusal
abbrev pub value_words : ℕ → Result ℕ Refusal → List ℕ
value_words a (Ok n) = a ∷ n ∷ 0 ∷ 0 ∷ []
value_words a (Err f) = answer_words (refused (number f))

-- an answer of one value at most, as one number: what came, and above its 32 bits the value
abbrev pub packed : ℕ → List ℕ
packed r = r % 2 ^ 32 ∷ r / 2 ^ 32 ∷ 0 ∷ 0 ∷ []
