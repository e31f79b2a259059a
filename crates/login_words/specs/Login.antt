-- A login between requests, and its answer, as words.
use Rattle.std.specs.Prelude.{ℕ, ◌≡◌, Bool, true, false, not, ◌&&◌, List, [], ◌∷◌, eqb, Result, Ok, Err}
use Rattle.field.specs.Field.{pick}
use Rattle.refusal.specs.Refusal.{number, status}
use Rattle.refusal.specs.declared.Refusal.{Refusal}
use Rattle.words.specs.Words.{word, fits, is_set, flag_word}
use Rattle.login_book.specs.Login.{Outcome}
use Rattle.login_types.specs.Agree.{book_of, answer_of, Stays}
use Rattle.login_types.specs.declared.state.State.{State}
use Rattle.login_types.specs.declared.state.Accepted.{Accepted}

-- ---- a login between requests

-- what C keeps of a login: eight numbers, the twelve values in force, and which keys came
pub record LoginWords : Type 0 where
  pub numbers : List ℕ
  pub values : List ℕ
  pub seen : List Bool

abbrev pub login_words : List ℕ → List ℕ → List Bool → LoginWords
login_words n v k = record { numbers = n; values = v; seen = k }

-- the numbers: over, begun, judged, stage, ISID, TSIH, CID, gathered
abbrev pub login_fits : List ℕ → Bool
login_fits n = ((fits n 1 0 && fits n 1 1) && (fits n 1 2 && fits n 8 3)) && ((fits n 16 5 && fits n 16 6) && fits n 16 7)

-- The login that the words are. Numbers that don't fit are those of no login, and stand for one that is over: no word is cut.
unfoldable pub login_of : LoginWords → State
login_of w = pick (login_fits w.numbers)
    (record {
      over = is_set (word w.numbers 0);
      begun = is_set (word w.numbers 1);
      judged = is_set (word w.numbers 2);
      stage = word w.numbers 3;
      isid = word w.numbers 4;
      tsih = word w.numbers 5;
      cid = word w.numbers 6;
      gathered = word w.numbers 7;
      settled = record { seen = w.seen; parameters = record { values = w.values } };
    })
    (record {
      over = true;
      begun = false;
      judged = false;
      stage = 0;
      isid = 0;
      tsih = 0;
      cid = 0;
      gathered = 0;
      settled = record { seen = w.seen; parameters = record { values = w.values } };
    })

-- the words of a login
abbrev pub words_of : State → LoginWords
words_of l = login_words
    (flag_word l.over ∷ flag_word l.begun ∷ flag_word l.judged ∷ l.stage ∷ l.isid ∷ l.tsih ∷ l.cid ∷ l.gathered ∷ [])
    l.settled.parameters.values l.settled.seen

-- ---- a request

-- the refusal's number or 0, its status, the stage, T, CSG, NSG, TSIH, and the length of the text
abbrev pub login_answer_words : Result Accepted Refusal → List ℕ
login_answer_words (Err f) = number f ∷ status f ∷ 0 ∷ 0 ∷ 0 ∷ 0 ∷ 0 ∷ 0 ∷ []
login_answer_words (Ok a) = 0 ∷ 0 ∷ a.stage ∷ flag_word a.transit ∷ a.csg ∷ a.nsg ∷ a.tsih ∷ a.length ∷ []

-- "A refusal .. changes nothing, but 6 ends that login."
abbrev pub changes_nothing : Result Accepted Refusal → Bool
changes_nothing (Err f) = not (eqb (number f) 6)
changes_nothing (Ok a) = false

-- the login's words stay, or all of them are those of the login after the request
abbrev pub Kept : Bool → (l m : LoginWords) → Type 0
Kept true l m = m ≡ l
Kept false l m = m ≡ words_of (login_of m)

-- The answer's words w, the login's words m, the gather area g' and the text output t' after a request on the words l and the areas g and t are
-- those of its outcome.
pub record LoginSaid (l : LoginWords) (g t : List ℕ) (o : Outcome) (w : List ℕ) (m : LoginWords) (g' t' : List ℕ) : Type 0 where
  pub answer : Result Accepted Refusal
  pub words : w ≡ login_answer_words answer
  pub outcome : ◌≡◌ {A = Outcome} (record { book = book_of (login_of m); answer = answer_of answer t'; gather = g'; text = t' }) o
  pub stays : Stays answer (login_of l) (login_of m)
  pub kept : Kept (changes_nothing answer) l m
  pub areas : changes_nothing answer ≡ true → (g' ≡ g) × (t' ≡ t)
