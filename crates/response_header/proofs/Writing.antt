-- What the layers above may know of a written header, so that they never open its definition.
use mathlib.Core.Path.{◌≡◌, refl, ◌∙◌}
use mathlib.Core.List.{List, [], ◌∷◌}
use Prim.Native.Nat.{ℕ}
use lib.ListN.{length, replicate, length-replicate}
use lib.Seq.{sets, length-sets}
use Rattle.field.specs.Field.{bytes_of}
use Rattle.response_header.specs.Response.{Field, place, kind_fields, numbers_fields, header_bytes}
use Rattle.response_header.specs.declared.Numbers.{Numbers}
use Rattle.response_header.specs.declared.Response.{Response}

length-place : (fs : List Field) (l : List ℕ) → length (place fs l) ≡ length l
length-place [] l = refl
length-place (f ∷ fs) l = length-place fs (sets l f.at (bytes_of f.size f.value)) ∙ length-sets l f.at (bytes_of f.size f.value)

-- a written header is 48 bytes
pub length-header : (r : Response) (n : Numbers) → length (header_bytes r n) ≡ 48
unfolding header_bytes
length-header r n =
    length-place (kind_fields r) (place (numbers_fields n) (replicate 48 0))
    ∙ length-place (numbers_fields n) (replicate 48 0)
    ∙ length-replicate {A = ℕ} 48 0
