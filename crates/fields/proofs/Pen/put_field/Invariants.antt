-- `fields::Pen::put_field` meets its contract. Invariant: the highest k bits stand behind the others. Assumes nothing.
use Rattle.fields.specs.Steps.{Goes}
use Rattle.bits.specs.Bits.{bits_of}
use lib.ListN.{length}
use mathlib.Core.Path.{◌≡◌}
use Prim.Native.Nat.{◌+◌, ◌-◌, ◌/◌, ◌^◌, ◌≤◌}
use Rattle.fields.proofs.Pen.put_field.Given as goal

abbrev pub invariant-loop-k : goal.invariant-loop-k
invariant-loop-k l =
    let old = l.initial.self in
    (l.k ≤ l.f.bits) × (l.self.room.ghost_name ≡ old.room.ghost_name) × (length l.self.room.now ≡ length old.room.now) × (l.self.at ≡ old.at + l.k)
    × Goes old.room.now old.at (bits_of l.k (l.f.value / 2 ^ (l.f.bits - l.k))) l.self.room.now
