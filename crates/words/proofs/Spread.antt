-- A list of k words, word by word: what a write to some of them leaves is seen there.
use mathlib.Core.Path.{◌≡◌, refl, ap}
use mathlib.Core.List.{List, [], ◌∷◌}
use Prim.Native.Nat.{ℕ, zero, suc}
use native.Mathlib.Omega.{arith}
use lib.ListN.{length}
use Rattle.words.specs.Words.{word}

rest : List ℕ → List ℕ
rest [] = []
rest (x ∷ l) = l

unfoldable pub words_of : ℕ → List ℕ → List ℕ
unfolding rest
words_of zero l = []
words_of (suc k) l = word l 0 ∷ words_of k (rest l)

pub spread : (k : ℕ) (l : List ℕ) → length l ≡ k → words_of k l ≡ l
unfolding words_of rest
spread zero [] h = refl
spread zero (x ∷ l) h = absurd (omega arith)
spread (suc k) [] h = absurd (omega arith)
spread (suc k) (x ∷ l) h = ap (λ (r : List ℕ). x ∷ r) (spread k l (omega arith))
