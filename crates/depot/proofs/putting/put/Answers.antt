-- `depot::putting::put` meets its contract: each run stands behind the one before. Assumes nothing.
use Rattle.depot.proofs.Shapes.{bits-open, length-open}
use Rattle.fields.proofs.Behind.{length_from}
use Rattle.fields.specs.Steps.{field_bits}
use Rattle.replies.proofs.Laws.{packed_none}
use Rattle.bits.proofs.Bits.{length-bits}
use Rattle.bits.specs.Bits.{bits_from}
use lib.ListN.{length, length-append}
use Prim.Native.Nat.{◌+◌}
use mathlib.Core.List.{[], ◌++◌}
use mathlib.Core.Path.{◌≡◌, refl, sym, ap₂, ◌∙◌}
use borrow.Author.Rules.{rules}
use native.Mathlib.Omega.{arith}
use Rattle.depot.proofs.putting.put.Goals as goal

pub returns : goal.returns
returns c =
    let l = c.args.l in
    let first = c.args.room.now in
    let m = c.args.payload.now in
    let xs = field_bits l.front in
    let ys = xs ++ field_bits l.middle in
    let zs = ys ++ field_bits l.back in
    let ws = zs ++ bits_from m 0 l.body in
    let a : length xs ≡ c.put_field.new.self.at = length-bits l.front.bits l.front.value ∙ omega (arith, c.put_field.ensures.moved) in
    let b : length ys ≡ c.put_field-2.new.self.at = length-append xs (field_bits l.middle) ∙ ap₂ ◌+◌ a (length-bits l.middle.bits l.middle.value) ∙ sym c.put_field-2.ensures.moved in
    let d : length zs ≡ c.put_field-3.new.self.at = length-append ys (field_bits l.back) ∙ ap₂ ◌+◌ b (length-bits l.back.bits l.back.value) ∙ sym c.put_field-3.ensures.moved in
    let e : length ws ≡ c.put_payload.new.self.at = length-append zs (bits_from m 0 l.body) ∙ ap₂ ◌+◌ d (length_from m 0 l.body) ∙ sym c.put_payload.ensures.moved in
    search rules ∙ c.put_check.ensures.sealed _ first (omega (arith, c.put_field.ensures.moved, c.put_field-2.ensures.moved, c.put_field-3.ensures.moved, c.put_payload.ensures.moved, c.put_field-4.ensures.moved, length-open l m)) (bits-open l m)
    (c.put_field-4.ensures.put ws first e (c.put_payload.ensures.put zs first d (c.put_field-3.ensures.put ys first b (c.put_field-2.ensures.put xs first a (c.put_field.ensures.put [] first refl (sym (packed_none first)))))))
