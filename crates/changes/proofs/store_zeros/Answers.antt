-- `changes::store_zeros` meets its contract: past its end a buffer reads 0. Assumes nothing.
use Rattle.bits.specs.Words.{store}
use mathlib.Core.Path.{ap}
use Prim.Native.Nat.{◌+◌}
use mathlib.Core.List.{[], ◌∷◌}
use native.Mathlib.Omega.{arith}
use Rattle.changes.proofs.Words.{from-words, made-same, zero-byte, zero_word}
use Rattle.changes.proofs.store_zeros.Goals as goal

pub returns : goal.returns
returns c = let a = c.args in
    made-same a.work _ (λ j. store (a.at + j) 0) a.n (λ j l. ap (store (a.at + j)) (zero_word j)) (rw (from-words a.at (0 ∷ []) a.n (λ j. rw (zero-byte j) (omega arith))) at c.store_bits.ensures)
