-- `bits::alike_at_once` meets its contract: bits are alike where their fields are equal. Assumes nothing.
use mathlib.Core.Path.{sym, ap₂, ◌∙◌}
use lib.Dec.{eqb}
use Rattle.bits.proofs.Equal.{alike-fields}
use Rattle.bits.proofs.alike_at_once.Goals as goal

pub returns : goal.returns
returns c =
    let a = c.args in
    ap₂ eqb c.wide_field.ensures c.wide_field-2.ensures ∙ sym (alike-fields a.a.now a.i a.b.now a.j a.n)
