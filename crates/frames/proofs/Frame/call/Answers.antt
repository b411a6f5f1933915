-- `frames::Frame::call` meets its contract: code by code. Assumes nothing.
use Prim.Native.Nat.{◌≤◌}
use native.Mathlib.Omega.{arith}
use borrow.Author.Tests.{le-ltb, ne_eqb}
use Rattle.bits.specs.Bits.{field_at}
use Rattle.frames.specs.Frames.{heard_of}
use Rattle.frames.proofs.Codes.{two-bits, four-bits, four-above}
use Rattle.frames.proofs.Frame.call.Goals as goal

pub returns-in-0-to-63 : goal.returns-in-0-to-63
unfolding heard_of
returns-in-0-to-63 c = let f = c.args.self.now in let m = f.bytes.now in
    rw c.query_rep.ensures (simp (le-ltb _ _ f.whole.1, le-ltb _ _ f.whole.0, two-bits m 0 (omega (arith, c.code.ensures)) (omega (arith, c.code.ensures))))

pub returns-in-64-to-127 : goal.returns-in-64-to-127
unfolding heard_of
returns-in-64-to-127 c = let f = c.args.self.now in let m = f.bytes.now in
    rw c.ack.ensures (simp (le-ltb _ _ f.whole.1, le-ltb _ _ f.whole.0, two-bits m 1 (omega (arith, c.code.ensures)) (omega (arith, c.code.ensures))))

pub returns-in-128-to-143 : goal.returns-in-128-to-143
unfolding heard_of
returns-in-128-to-143 c = let f = c.args.self.now in let m = f.bytes.now in
    rw c.query.ensures (simp (le-ltb _ _ f.whole.1, le-ltb _ _ f.whole.0, two-bits m 2 (omega (arith, c.code.ensures)) (omega (arith, c.code.ensures)), four-bits m 8 (omega (arith, c.code.ensures)) (omega (arith, c.code.ensures))))

pub returns-in-144-to-159 : goal.returns-in-144-to-159
unfolding heard_of
returns-in-144-to-159 c = let f = c.args.self.now in let m = f.bytes.now in
    rw c.query_adjust.ensures (simp (le-ltb _ _ f.whole.1, le-ltb _ _ f.whole.0, two-bits m 2 (omega (arith, c.code.ensures)) (omega (arith, c.code.ensures)), four-bits m 9 (omega (arith, c.code.ensures)) (omega (arith, c.code.ensures))))

pub returns-in-160-to-175 : goal.returns-in-160-to-175
unfolding heard_of
returns-in-160-to-175 c = let f = c.args.self.now in let m = f.bytes.now in
    rw c.select.ensures (simp (le-ltb _ _ f.whole.1, le-ltb _ _ f.whole.0, two-bits m 2 (omega (arith, c.code.ensures)) (omega (arith, c.code.ensures)), four-bits m 10 (omega (arith, c.code.ensures)) (omega (arith, c.code.ensures))))

pub returns-in-176-to-255 : goal.returns-in-176-to-255
unfolding heard_of
returns-in-176-to-255 c = let f = c.args.self.now in let m = f.bytes.now in
    let code : 176 ≤ field_at m 0 8 = omega (arith, c.code.ensures) in
    simp (le-ltb _ _ f.whole.1, le-ltb _ _ f.whole.0, two-bits m 2 (omega arith) (omega (arith, c.code.ensures, c.requires)), ne_eqb _ _ (four-above m 8 (omega arith)), ne_eqb _ _ (four-above m 9 (omega arith)), ne_eqb _ _ (four-above m 10 (omega arith)), ne_eqb (field_at m 0 8) 192 (omega (arith, c.code.ensures, c.requires)), ne_eqb (field_at m 0 8) 193 (omega (arith, c.code.ensures, c.requires)), ne_eqb (field_at m 0 8) 194 (omega (arith, c.code.ensures, c.requires)), ne_eqb (field_at m 0 8) 195 (omega (arith, c.code.ensures, c.requires)), ne_eqb (field_at m 0 8) 196 (omega (arith, c.code.ensures, c.requires)), ne_eqb (field_at m 0 8) 197 (omega (arith, c.code.ensures, c.requires)), ne_eqb (field_at m 0 8) 198 (omega (arith, c.code.ensures, c.requires)), ne_eqb (field_at m 0 8) 199 (omega (arith, c.code.ensures, c.requires)), ne_eqb (field_at m 0 8) 200 (omega (arith, c.code.ensures, c.requires)), ne_eqb (field_at m 0 8) 201 (omega (arith, c.code.ensures, c.requires)))
