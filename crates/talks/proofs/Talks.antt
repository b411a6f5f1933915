-- The talk of a depot and a tag. Assumes nothing.
use Prim.Native.Nat.{ℕ, ◌/◌}
use mathlib.Core.Path.{◌≡◌, refl}
use mathlib.Core.Bool.{Bool, true, false, not, ◌||◌}
use mathlib.Core.List.{List}
use native.Mathlib.Omega.{arith}
use lib.Dec.{eqb, ltb}
use lib.ListN.{length}
use borrow.Author.Tests.{ne_eqb, le-ltb}
use Rattle.states.specs.Commands.{asks_of}
use Rattle.depot.specs.declared.Command.{Command}
use Rattle.depot.specs.declared.Command.TheVariants as command
use Rattle.depot.specs.Limits.{within}
use Rattle.depot.specs.Heard.{Call, made, order_of}
use Rattle.depot.proofs.Bounds.{Within, within-so}
use Rattle.depot.proofs.Heard.{made_so}
use Rattle.bits.proofs.Below.{and_right}
use Rattle.talks.specs.Talks.{Talks}
use Rattle.talks.proofs.Obeyed.{obeyed}
use Rattle.talks.proofs.Answered.{answered}

-- an UpDn that says something, by the depot's limits and by the tag's
turns : (a b c : Bool) → (a || (b || c)) ≡ true → not (c || a || b) ≡ false
turns true b true e = refl
turns true b false e = refl
turns false true true e = refl
turns false true false e = refl
turns false false c e = rw e

-- what a command within the limits brings is not bad
fine : (o : Command) (d n k : ℕ) → within o d ≡ true → Within o d → (asks_of (order_of o d n k)).bad ≡ false
fine (command.QueryRep s) d n k w h = refl
fine command.Ack d n k w h = refl
fine (command.Query r) d n k w h = refl
fine (command.QueryAdjust s u) d n k w h = turns (eqb u 0) (eqb u 3) (eqb u 6) (and_right (ltb s 4) (eqb u 0 || (eqb u 3 || eqb u 6)) w)
fine (command.Select t a p l) d n k w h = simp (le-ltb 4 t (omega (arith, h.0)), ne_eqb p.bank 0 (λ z. omega (arith, z, h.3)))
fine command.Nak d n k w h = refl
fine command.ReqRn d n k w h = refl
fine (command.Read p c) d n k w h = refl
fine (command.Write p x) d n k w h = refl
fine (command.Kill x) d n k w h = refl
fine (command.Lock x z) d n k w h = refl
fine (command.Access x) d n k w h = refl
fine (command.BlockWrite p) d n k w h = ne_eqb (d / 2) 0 (λ z. omega (arith, z, h.1.0, h.1.1))
fine (command.BlockErase p c) d n k w h = ne_eqb c 0 (λ z. omega (arith, z, h.1.0))
fine (command.ReadPermalock p c) d n k w h = ne_eqb c 0 (λ z. omega (arith, z, h.1.0))
fine (command.Permalock p) d n k w h = ne_eqb (d / 2) 0 (λ z. omega (arith, z, h.1.0, h.1.1))

taken : (c : Call) (into : List ℕ) → (made c into).number ≡ 0 → (asks_of (order_of c.command (length c.payload) c.number c.cover)).bad ≡ false
taken c into e =
    let w = (made_so c.command c.payload c.number c.cover into e).0 in
    fine c.command (length c.payload) c.number c.cover w (within-so c.command (length c.payload) w)

pub talks : Talks
talks = record { obeyed_so = obeyed; answered_so = λ c into h e. answered c into h e; taken_so = taken }
