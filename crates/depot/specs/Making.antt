-- THE FRAME of each command, as a depot makes it (RULES 12.2 and 12.3; 3.5 to 3.8 and 11.1). Assumes nothing.
use Rattle.std.specs.Prelude.{ℕ, ◌+◌, ◌*◌, ◌/◌, ◌%◌, cond, not, Result, Ok, Err, List, [], ◌∷◌, ◌++◌, ltb, length}
use Rattle.std.specs.Int.Bits.{bit_xor}
use Rattle.bits.specs.Bits.{bits_from, bits_of}
use Rattle.bits.specs.First.{first}
use Rattle.crc.specs.Crc5.{crc5_of}
use Rattle.replies.specs.Replies.{checked}
use Rattle.replies.specs.Pack.{packed}
use Rattle.depot.specs.declared.Place.{Place}
use Rattle.depot.specs.declared.Command.{Command}
use Rattle.depot.specs.declared.Command.TheVariants as command
use Rattle.depot.specs.declared.NotMade.{NotMade}
use Rattle.depot.specs.declared.NotMade.TheVariants as refusal
use Rattle.depot.specs.Limits.{within}

-- a field: its value, and how many bits it has; fields side by side
abbrev pub Field : Type 0
Field = ℕ × ℕ

abbrev pub fields : List Field → List ℕ
fields [] = []
fields (f ∷ fs) = bits_of f.1 f.0 ++ fields fs

-- 3.6: a pointer in its shortest form: groups of seven bits, the highest first, each but the last with a 1 before it
abbrev pub shortest : ℕ → List Field
shortest p =
    let low : Field = (p % 128, 8) in
    let middle : Field = (128 + p / 128 % 128, 8) in
    cond (ltb p 128) (low ∷ [])
    (cond (ltb p 16384) (middle ∷ low ∷ []) ((128 + p / 16384 % 128, 8) ∷ middle ∷ low ∷ []))

-- what stands at a frame's end
pub data Check : Type 0 where
  none : Check
  crc5 : Check
  crc16 : Check

abbrev pub sealed : Check → List ℕ → List ℕ
sealed none bs = bs
sealed crc5 bs = bs ++ bits_of 5 (crc5_of bs)
sealed crc16 bs = checked bs

-- a frame: fields, so many bits of the payload, fields, and a check over all of these
pub record Shape : Type 0 where
  pub head : List Field
  pub body : ℕ
  pub tail : List Field
  pub check : Check

abbrev pub shaped : Check → List Field → ℕ → List Field → Shape
shaped k head body tail = record { head = head; body = body; tail = tail; check = k }

-- a command to one tag ends with the number that it carries and a CRC-16
abbrev pub to_one : ℕ → List Field → ℕ → Shape
to_one n head body = shaped crc16 head body ((n, 16) ∷ [])

-- a bank and a pointer between the fields before and after them
abbrev pub pointing : List Field → Place → List Field → List Field
pointing before p after = before ++ ((p.bank, 2) ∷ (shortest p.pointer ++ after))

-- THE COMMANDS: d is how many bytes the payload has, n the number carried, c the cover number. RFU, Kill's three bits and truncate are 0
abbrev pub shape_of : Command → ℕ → ℕ → ℕ → Shape
shape_of (command.QueryRep k) d n c = shaped none ((0, 2) ∷ (k, 2) ∷ []) 0 []
shape_of command.Ack d n c = shaped none ((1, 2) ∷ []) 0 ((n, 16) ∷ [])
shape_of (command.Query r) d n c =
    shaped crc5
    ((8, 4) ∷ (r.dr, 1) ∷ (r.m, 2) ∷ (r.trext, 1) ∷ (r.sel, 2) ∷ (r.session, 2) ∷ (r.target, 1) ∷ (r.q, 4) ∷ []) 0 []
shape_of (command.QueryAdjust k u) d n c = shaped none ((9, 4) ∷ (k, 2) ∷ (u, 3) ∷ []) 0 []
shape_of (command.Select t a p l) d n c = shaped crc16 (pointing ((10, 4) ∷ (t, 3) ∷ (a, 3) ∷ []) p ((l, 8) ∷ [])) l ((0, 1) ∷ [])
shape_of command.Nak d n c = shaped none ((0xC0, 8) ∷ []) 0 []
shape_of command.ReqRn d n c = to_one n ((0xC1, 8) ∷ []) 0
shape_of (command.Read p k) d n c = to_one n (pointing ((0xC2, 8) ∷ []) p ((k, 8) ∷ [])) 0
shape_of (command.Write p w) d n c = to_one n (pointing ((0xC3, 8) ∷ []) p ((bit_xor w c, 16) ∷ [])) 0
shape_of (command.Kill w) d n c = to_one n ((0xC4, 8) ∷ (bit_xor w c, 16) ∷ (0, 3) ∷ []) 0
shape_of (command.Lock m a) d n c = to_one n ((0xC5, 8) ∷ (m, 10) ∷ (a, 10) ∷ []) 0
shape_of (command.Access w) d n c = to_one n ((0xC6, 8) ∷ (bit_xor w c, 16) ∷ []) 0
shape_of (command.BlockWrite p) d n c = to_one n (pointing ((0xC7, 8) ∷ []) p ((d / 2, 8) ∷ [])) (8 * d)
shape_of (command.BlockErase p k) d n c = to_one n (pointing ((0xC8, 8) ∷ []) p ((k, 8) ∷ [])) 0
shape_of (command.ReadPermalock p k) d n c = to_one n (pointing ((0xC9, 8) ∷ (0, 8) ∷ (0, 1) ∷ []) p ((k, 8) ∷ [])) 0
shape_of (command.Permalock p) d n c = to_one n (pointing ((0xC9, 8) ∷ (0, 8) ∷ (1, 1) ∷ []) p ((d / 2, 8) ∷ [])) (8 * d)

-- the bits of a frame with the payload m
abbrev pub shape_bits : Shape → List ℕ → List ℕ
shape_bits s m = sealed s.check (fields s.head ++ (bits_from m 0 s.body ++ fields s.tail))

unfoldable pub frame_bits : Command → List ℕ → ℕ → ℕ → List ℕ
frame_bits o m n c = shape_bits (shape_of o (length m) n c) m

-- all that making leaves: the answer's number, the bits of the frame, and the room
pub record Sent : Type 0 where
  pub number : ℕ
  pub bits : ℕ
  pub room : List ℕ

abbrev pub sending : ℕ → ℕ → List ℕ → Sent
sending number bits room = record { number = number; bits = bits; room = room }

-- the numbers of the refusals (RULES 5)
abbrev pub number_of : NotMade → ℕ
number_of refusal.Beyond = 9
number_of refusal.NoRoom = 4

-- the number and values of each answer in the code
abbrev pub sent : Result ℕ NotMade → List ℕ → Sent
sent (Ok n) room = sending 0 n room
sent (Err r) room = sending (number_of r) 0 room

-- MAKING: 9 for a command beyond the limits, 4 for a frame without room; else the frame's bits in the room
unfoldable pub make_of : Command → List ℕ → ℕ → ℕ → List ℕ → Sent
make_of o m n c room =
    let bits = frame_bits o m n c in
    first ((sending 9 0 room, not (within o (length m))) ∷ (sending 4 0 room, ltb (length room) ((length bits + 7) / 8)) ∷ [])
    (sending 0 (length bits) (packed bits room))
