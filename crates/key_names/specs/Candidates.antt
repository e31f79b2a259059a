-- The candidates of a name: the known names that share its length and its first letter. A name is compared whole with these alone.
use Rattle.std.specs.Prelude.{ℕ, zero, suc, ◌≤◌, ◌<◌, Bool, true, ◌&&◌, List, [], ◌∷◌, ◌≡◌, eqb, length, get_or}
use Rattle.text.specs.Text.{pick, has}
use Rattle.key_table.specs.Table.{name_at}

-- the name of key k has n bytes, of which c is the first
unfoldable pub shares : ℕ → ℕ → ℕ → Bool
shares n c k = eqb (length (name_at k)) n && eqb (get_or (name_at k) 0 0) c

-- of the m numbers from k on, those that are good
abbrev pub good_from : (ℕ → Bool) → ℕ → ℕ → List ℕ
good_from f zero k = []
good_from f (suc m) k = pick (f k) (k ∷ good_from f m (suc k)) (good_from f m (suc k))

-- the candidates of a length and a first letter, by their keys, in the order of the names
unfoldable pub candidates : ℕ → ℕ → List ℕ
candidates n c = good_from (shares n c) 28 0

-- the candidates of a name
unfoldable pub candidates_of : List ℕ → List ℕ
candidates_of name = candidates (length name) (get_or name 0 0)

-- What is proved of the candidates of every length and letter: they are exactly the known names that share both, and never more than two.
pub record Lawful (n c : ℕ) : Type 0 where
  pub only : (k : ℕ) → has k (candidates n c) ≡ true → (k < 28) × (length (name_at k) ≡ n) × (get_or (name_at k) 0 0 ≡ c)
  pub every : (k : ℕ) → k < 28 → length (name_at k) ≡ n → get_or (name_at k) 0 0 ≡ c → has k (candidates n c) ≡ true
  pub two : length (candidates n c) ≤ 2
