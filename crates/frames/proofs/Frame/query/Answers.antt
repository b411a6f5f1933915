-- `frames::Frame::query` meets its contract: the length decides, then the CRC-5; all fields stand in the first three bytes. Assumes nothing.
use borrow.Author.Tests.{eq-eqb, ne_eqb}
use Prim.Native.Nat.{ℕ, ◌+◌, ◌/◌, ◌%◌, ◌^◌, ◌≤◌, ◌<◌}
use mathlib.Core.Path.{◌≡◌, refl, sym, ap, ◌∙◌}
use native.Mathlib.Omega.{arith}
use lib.ListN.{get_or}
use Rattle.bits.specs.Bits.{field_at}
use Rattle.bits.proofs.Windows.{through-window}
use Rattle.frames.proofs.Codes.{passed}
use Rattle.frames.specs.Frames.{checksum5_right}
use Rattle.frames.proofs.Frame.query.Goals as goal

pub returns-then-from-crc5 : goal.returns-then-from-crc5
unfolding checksum5_right
returns-then-from-crc5 c =
    let m = c.args.self.now.bytes.now in
    let bytes : (j : ℕ) → get_or m j 0 < 256 = c.args.self.now.lent in
    let is = c.window-x.ensures in
    let field : (i n s : ℕ) → i + n + s ≡ 24 → n + s ≤ 24 → c.window-x.result / 2 ^ s % 2 ^ n ≡ field_at m i n =
    λ i n s e l. ap (λ (x : ℕ). x / 2 ^ s % 2 ^ n) is ∙ sym (through-window m 0 i n s bytes e l) in
    simp (passed _ _ (sym c.long.ensures ∙ c.in_ok-long.was), ← field 17 5 2 refl (omega arith), ← c.part.ensures, ← c.from.ensures, ← c.crc5.ensures, ne_eqb _ _ c.if-from-crc5.true)

pub returns : goal.returns
unfolding checksum5_right
returns c =
    let m = c.args.self.now.bytes.now in
    let bytes : (j : ℕ) → get_or m j 0 < 256 = c.args.self.now.lent in
    let is = c.window-x.ensures in
    let field : (i n s : ℕ) → i + n + s ≡ 24 → n + s ≤ 24 → c.window-x.result / 2 ^ s % 2 ^ n ≡ field_at m i n =
    λ i n s e l. ap (λ (x : ℕ). x / 2 ^ s % 2 ^ n) is ∙ sym (through-window m 0 i n s bytes e l) in
    rw (c.part-q.ensures, c.part-target.ensures, c.part-session.ensures, c.part-sel.ensures, field 8 2 14 refl (omega arith), field 12 1 11 refl (omega arith), field 10 2 12 refl (omega arith), field 13 4 7 refl (omega arith))
    (simp (passed _ _ (sym c.long.ensures ∙ c.in_ok-long.was), ← field 17 5 2 refl (omega arith), ← c.part.ensures, ← c.from.ensures, ← c.crc5.ensures, eq-eqb _ _ c.if-from-crc5.false))
