-- The edges of EBV-8, computed. Assumes nothing.
use Rattle.std.specs.Prelude.{◌≡◌, refl, [], ◌∷◌}
use Rattle.bits.specs.Bits.{field_at}
use Rattle.ebv.specs.Ebv.{refused, whole, pointer_at}

pub record Cases : Type 0 where
  pub largest : pointer_at (0xFF ∷ 0xFF ∷ 0x7F ∷ []) 24 0 ≡ whole 2097151 3
  pub fourth : pointer_at (0x80 ∷ 0x80 ∷ 0x80 ∷ 0x05 ∷ []) 32 0 ≡ refused 7
  pub short : pointer_at (0x80 ∷ 0x05 ∷ []) 15 0 ≡ refused 7

pub cases : Cases
unfolding pointer_at field_at
cases = record { largest = refl; fourth = refl; short = refl }
