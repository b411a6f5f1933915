-- `stores::value` meets its contract: from bit 0 on it is a word. Assumes nothing.
use mathlib.Core.Path.{◌≡◌, sym, ap, ◌∙◌}
use Prim.Native.Nat.{ℕ, ◌+◌, ◌*◌}
use native.Mathlib.Omega.{arith}
use Rattle.bits.specs.Bits.{field_at}
use Rattle.bits.proofs.Windows.{field-word}
use Rattle.stores.proofs.value.Goals as goal

pub returns-in-0 : goal.returns-in-0
returns-in-0 c = let a = c.args in
    let known = c.type_inv.bytes in
    let z : 16 * a.j ≡ a.from + 16 * a.j = omega (arith, c.in-0.is) in
    c.word.ensures ∙ sym (field-word a.bytes.now a.j (λ j. omega (arith, known j))) ∙ ap (λ (p : ℕ). field_at a.bytes.now p 16) z
