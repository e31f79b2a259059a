-- What a call changes of a record is where the words stand one by one.
use Prim.Native.Nat.{ℕ}
use mathlib.Core.Path.{◌≡◌, refl, subst}
use mathlib.Core.List.{List}
use lib.ListN.{length, set}
use Rattle.words.specs.Words.{flag_word}
use Rattle.words.proofs.Flags.{flag-back}
use Rattle.words.proofs.Spread.{words_of, spread}
use Rattle.task_book.specs.declared.Numbering.{Numbering}
use Rattle.task_book.specs.declared.DataInSequence.{DataInSequence}
use Rattle.task_book.specs.declared.DataOutSequence.{DataOutSequence}
use Rattle.task.specs.Agree.{with_data_in, with_r2t, with_data_out}
use Rattle.task_words.specs.TaskWords.{task_of}

abbrev numbered : List ℕ → Numbering → List ℕ
numbered n x = set (set (set (set n 4 x.sent) 5 x.acknowledged) 6 (flag_word x.any_data_in)) 7 x.snack_tag

-- where all words stand one by one
spread-both : (P : List ℕ → List ℕ → Type 0) (n w : List ℕ) → length n ≡ 12 → length w ≡ 4 → P (words_of 12 n) (words_of 4 w) → P n w
spread-both P n w hn hw x =
    subst (λ (l : List ℕ). P l w) (spread 12 n hn) (subst (λ (l : List ℕ). P (words_of 12 n) l) (spread 4 w hw) x)

pub data_in_kept : (n w : List ℕ) (x : Numbering) (s : DataInSequence) → length n ≡ 12 → length w ≡ 4
    → task_of (set (numbered n x) 8 s.burst) (set w 1 s.offset) ≡ with_data_in (task_of n w) x s
unfolding task_of words_of
data_in_kept n w x s hn hw =
    spread-both (λ a b. task_of (set (numbered a x) 8 s.burst) (set b 1 s.offset) ≡ with_data_in (task_of a b) x s) n w hn hw
    (rw (flag-back x.any_data_in))

pub r2t_kept : (n w : List ℕ) (x : Numbering) (s : DataOutSequence) (k : ℕ) → length n ≡ 12 → length w ≡ 4
    → task_of (set (set (numbered n x) 9 s.data_sn) 11 k) (set (set w 2 s.asked) 3 s.came) ≡ with_r2t (task_of n w) x s k
unfolding task_of words_of
r2t_kept n w x s k hn hw =
    spread-both (λ a b. task_of (set (set (numbered a x) 9 s.data_sn) 11 k) (set (set b 2 s.asked) 3 s.came) ≡ with_r2t (task_of a b) x s k)
    n w hn hw (rw (flag-back x.any_data_in))

pub data_out_kept : (n w : List ℕ) (s : DataOutSequence) (i k : ℕ) → length n ≡ 12 → length w ≡ 4
    → task_of (set (set (set n 9 s.data_sn) 10 i) 11 k) (set (set w 2 s.asked) 3 s.came) ≡ with_data_out (task_of n w) s i k
unfolding task_of words_of
data_out_kept n w s i k hn hw =
    spread-both (λ a b. task_of (set (set (set a 9 s.data_sn) 10 i) 11 k) (set (set b 2 s.asked) 3 s.came) ≡ with_data_out (task_of a b) s i k)
    n w hn hw refl
