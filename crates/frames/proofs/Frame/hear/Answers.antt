-- `frames::Frame::hear` meets its contract: code by code. Assumes nothing.
use borrow.Author.Tests.{le-ltb, ne_eqb}
use Prim.Native.Nat.{◌≤◌}
use native.Mathlib.Omega.{arith}
use Rattle.bits.specs.Bits.{field_at}
use Rattle.bits.proofs.Fields.{field-first}
use Rattle.frames.specs.Frames.{heard_of}
use Rattle.frames.proofs.Codes.{two-above, four-above}
use Rattle.frames.proofs.Frame.hear.Goals as goal

pub returns-in-192 : goal.returns-in-192
unfolding heard_of
returns-in-192 c = let f = c.args.self.now in let m = f.bytes.now in rw c.plain.ensures (simp (le-ltb _ _ f.whole.1, le-ltb _ _ f.whole.0, ← field-first m 0 2 6, ← field-first m 0 4 4, ← c.code.ensures, c.in-192.is))

pub returns-in-193 : goal.returns-in-193
unfolding heard_of
returns-in-193 c = let f = c.args.self.now in let m = f.bytes.now in rw c.exact.ensures (simp (le-ltb _ _ f.whole.1, le-ltb _ _ f.whole.0, ← field-first m 0 2 6, ← field-first m 0 4 4, ← c.code.ensures, c.in-193.is))

pub returns-in-194 : goal.returns-in-194
unfolding heard_of
returns-in-194 c = let f = c.args.self.now in let m = f.bytes.now in rw c.read.ensures (simp (le-ltb _ _ f.whole.1, le-ltb _ _ f.whole.0, ← field-first m 0 2 6, ← field-first m 0 4 4, ← c.code.ensures, c.in-194.is))

pub returns-in-195 : goal.returns-in-195
unfolding heard_of
returns-in-195 c = let f = c.args.self.now in let m = f.bytes.now in rw c.write.ensures (simp (le-ltb _ _ f.whole.1, le-ltb _ _ f.whole.0, ← field-first m 0 2 6, ← field-first m 0 4 4, ← c.code.ensures, c.in-195.is))

pub returns-in-196 : goal.returns-in-196
unfolding heard_of
returns-in-196 c = let f = c.args.self.now in let m = f.bytes.now in rw (c.exact-in-196.ensures, c.field.ensures.0) (simp (le-ltb _ _ f.whole.1, le-ltb _ _ f.whole.0, ← field-first m 0 2 6, ← field-first m 0 4 4, ← c.code.ensures, c.in-196.is))

pub returns-in-197 : goal.returns-in-197
unfolding heard_of
returns-in-197 c = let f = c.args.self.now in let m = f.bytes.now in rw (c.exact-in-197.ensures, c.field-in-197.ensures.0, c.field-in-197-2.ensures.0) (simp (le-ltb _ _ f.whole.1, le-ltb _ _ f.whole.0, ← field-first m 0 2 6, ← field-first m 0 4 4, ← c.code.ensures, c.in-197.is))

pub returns-in-198 : goal.returns-in-198
unfolding heard_of
returns-in-198 c = let f = c.args.self.now in let m = f.bytes.now in rw (c.exact-in-198.ensures, c.field-in-198.ensures.0) (simp (le-ltb _ _ f.whole.1, le-ltb _ _ f.whole.0, ← field-first m 0 2 6, ← field-first m 0 4 4, ← c.code.ensures, c.in-198.is))

pub returns-in-199 : goal.returns-in-199
unfolding heard_of
returns-in-199 c = let f = c.args.self.now in let m = f.bytes.now in rw c.block_write.ensures (simp (le-ltb _ _ f.whole.1, le-ltb _ _ f.whole.0, ← field-first m 0 2 6, ← field-first m 0 4 4, ← c.code.ensures, c.in-199.is))

pub returns-in-200 : goal.returns-in-200
unfolding heard_of
returns-in-200 c = let f = c.args.self.now in let m = f.bytes.now in rw c.block_erase.ensures (simp (le-ltb _ _ f.whole.1, le-ltb _ _ f.whole.0, ← field-first m 0 2 6, ← field-first m 0 4 4, ← c.code.ensures, c.in-200.is))

pub returns-in-201 : goal.returns-in-201
unfolding heard_of
returns-in-201 c = let f = c.args.self.now in let m = f.bytes.now in rw c.permalock.ensures (simp (le-ltb _ _ f.whole.1, le-ltb _ _ f.whole.0, ← field-first m 0 2 6, ← field-first m 0 4 4, ← c.code.ensures, c.in-201.is))

pub returns-in-0-to-191 : goal.returns-in-0-to-191
unfolding heard_of
returns-in-0-to-191 c =
    let f = c.args.self.now in
    let m = f.bytes.now in
    let r = c.in-0-to-191.in-0-to-191-own.rest in
    let least : 192 ≤ field_at m 0 8 = omega (arith, c.requires) in
    simp (le-ltb _ _ f.whole.1, le-ltb _ _ f.whole.0, ne_eqb _ _ (two-above m 0 (omega arith)), ne_eqb _ _ (two-above m 1 (omega arith)), ne_eqb _ _ (four-above m 8 (omega arith)), ne_eqb _ _ (four-above m 9 (omega arith)), ne_eqb _ _ (four-above m 10 (omega arith)), ← c.code.ensures, ne_eqb _ _ r.0.0.0.0.0.0.0.0.0.1, ne_eqb _ _ r.0.0.0.0.0.0.0.0.1, ne_eqb _ _ r.0.0.0.0.0.0.0.1, ne_eqb _ _ r.0.0.0.0.0.0.1, ne_eqb _ _ r.0.0.0.0.0.1, ne_eqb _ _ r.0.0.0.0.1, ne_eqb _ _ r.0.0.0.1, ne_eqb _ _ r.0.0.1, ne_eqb _ _ r.0.1, ne_eqb _ _ r.1)
