-- `tag::radio::hearing` meets its contract: a frame by what was heard of it. Assumes nothing.
use Prim.Native.Nat.{ℕ, ◌≤◌}
use mathlib.Core.Path.{◌≡◌, sym, ap, ◌∙◌}
use mathlib.Core.List.{List}
use native.Mathlib.Omega.{arith}
use Rattle.bits.specs.Bits.{field_at}
use Rattle.frames.specs.Frames.{heard_of}
use Rattle.frames.proofs.Ones.{said-one}
use Rattle.states.specs.Numbers.{numbers_in}
use Rattle.tag.proofs.Tables.{placed}
use Rattle.tag.proofs.ByNumber.{call-placed}
use Rattle.tag.proofs.Entry.{heard-calling, heard-command}
use Rattle.tag.proofs.radio.hearing.Goals as goal

-- the frame's bytes and bits are those lent
same-heard : (x y : List ℕ) (j k : ℕ) → (x ≡ y) × (j ≡ k) → heard_of x j ≡ heard_of y k
same-heard x y j k h = ap (λ (f : List ℕ). heard_of f j) h.0 ∙ ap (λ (n : ℕ). heard_of y n) h.1

pub calling-requires-clause-call_placed : goal.calling-requires-clause-call_placed
calling-requires-clause-call_placed c = call-placed c.in-Some.said.bytes.now c.in-Some.said.bits c.in-Ok.c c.in-Ok.ensures

pub returns-in-Ok : goal.returns-in-Ok
returns-in-Ok c = let a = c.args in let b = c.in-Some.said in
    let e = c.in-Ok.ensures ∙ same-heard b.bytes.now a.frame.now b.bits a.n c.in-Some.ensures.says in
    c.calling.ensures ∙ heard-calling (numbers_in a.r) c.requires.fit a.image.now a.frame.now a.n a.fresh a.room.now a.s c.in-Ok.c e

pub command-requires-clause-placed : goal.command-requires-clause-placed
command-requires-clause-placed c = placed c.in-Some.said.bytes.now c.in-Some.said.bits _ (sym c.in-Ok-hear.ensures)

pub returns-in-Ok-hear : goal.returns-in-Ok-hear
returns-in-Ok-hear c = let a = c.args in let b = c.in-Some.said in
    let e = sym (c.in-Ok-hear.ensures ∙ same-heard b.bytes.now a.frame.now b.bits a.n c.in-Some.ensures.says) in
    let code : 192 ≤ field_at b.bytes.now 0 8 = omega (arith, c.if-code-lt192.false, c.code.ensures) in
    c.command.ensures ∙ heard-command (numbers_in a.r) c.requires.fit a.image.now a.frame.now a.n a.fresh a.room.now a.s _ (said-one b.bytes.now b.bits _ code (sym c.in-Ok-hear.ensures)) e
