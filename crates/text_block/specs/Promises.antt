-- What the code finds of a first pair, for its contracts. This follows the code; the rules are in Block.
use Rattle.std.specs.Prelude.{ℕ, Bool, true, false, List, length, ◌≡◌, ◌<◌, Result, Ok, Err}
use Rattle.text_block.specs.Block.{name_in, end_in}
use Rattle.text_block.specs.declared.block.Span.{Span}

-- the form of the first pair is good; its name and its value end here, and a byte follows each
pub record Spanned (s : List ℕ) (good : Bool) (p : Span) : Type 0 where
  pub right : good ≡ true
  pub name : p.eq ≡ length (name_in s)
  pub value : p.end ≡ end_in s
  pub cut : p.eq < p.end
  pub inside : p.end < length s

-- the form of the first pair is not good; its name and its value end here all the same
pub record Broken (s : List ℕ) (good : Bool) (p : Span) : Type 0 where
  pub right : good ≡ false
  pub name : p.eq ≡ length (name_in s)
  pub value : p.end ≡ end_in s

-- the scan of a first pair, whose form is good or not: its name ends at the first =, or with the text where there is none
abbrev pub SpanOf : List ℕ → Bool → Result Span Span → Type 0
SpanOf s good (Ok p) = Spanned s good p
SpanOf s good (Err p) = Broken s good p
