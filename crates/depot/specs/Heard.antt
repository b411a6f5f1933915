-- THE DEPOT'S FRAMES as the tag hears them (RULES 12.6): what a frame that was made says by the tag's own definitions. Proof: `heard-so` in
-- proofs/Heard. Assumes nothing.
use Rattle.std.specs.Prelude.{ℕ, ◌/◌, ◌≤◌, ◌<◌, ◌≡◌, cond, List, ltb, length}
use Rattle.std.specs.Int.Bits.{bit_xor}
use Rattle.bits.specs.Words.{Bytes}
use Rattle.bits.specs.Bits.{bits_from, field_at}
use Rattle.ebv.specs.Ebv.{pointer_at, whole}
use Rattle.frames.specs.declared.Order.{Order}
use Rattle.frames.specs.declared.Order.TheVariants as order
use Rattle.frames.specs.Message as heard
use Rattle.frames.specs.Frames.{span, heard_of}
use Rattle.depot.specs.declared.Place.{Place}
use Rattle.depot.specs.declared.Command.{Command}
use Rattle.depot.specs.declared.Command.TheVariants as command
use Rattle.depot.specs.Making.{Sent, fields, shape_of, make_of}

-- the bytes of a pointer's shortest form
abbrev pub ebv_bytes : ℕ → ℕ
ebv_bytes p = cond (ltb p 128) 1 (cond (ltb p 16384) 2 3)

-- the number by which a frame names its tag: 0 for those that go to every tag, and for an ACK, whose number is a part of its order
abbrev pub carried : Command → ℕ → ℕ
carried (command.QueryRep k) n = 0
carried command.Ack n = 0
carried (command.Query r) n = 0
carried (command.QueryAdjust k u) n = 0
carried (command.Select t a p l) n = 0
carried command.Nak n = 0
carried command.ReqRn n = n
carried (command.Read p k) n = n
carried (command.Write p w) n = n
carried (command.Kill w) n = n
carried (command.Lock m a) n = n
carried (command.Access w) n = n
carried (command.BlockWrite p) n = n
carried (command.BlockErase p k) n = n
carried (command.ReadPermalock p k) n = n
carried (command.Permalock p) n = n

-- the first bit of the payload in the frame, behind the fields before it
abbrev pub brought_at : Command → ℕ → ℕ → ℕ → ℕ
brought_at o d n c = length (fields (shape_of o d n c).head)

-- the order of a command with a payload of d bytes, the number n and the cover number c; words and halves as sent
abbrev pub order_of : Command → ℕ → ℕ → ℕ → Order
order_of (command.QueryRep k) d n c = order.QueryRep k
order_of command.Ack d n c = order.Ack n
order_of (command.Query r) d n c = order.Query r.sel r.target (record { session = r.session; q = r.q })
order_of (command.QueryAdjust k u) d n c = order.QueryAdjust k u
order_of (command.Select t a p l) d n c =
    order.Select (record { target = t; action = a; bits = span p.bank p.pointer l; truncate = 0 }) (brought_at (command.Select t a p l) d n c)
order_of command.Nak d n c = order.Nak
order_of command.ReqRn d n c = order.ReqRn
order_of (command.Read p k) d n c = order.Read (span p.bank p.pointer k)
order_of (command.Write p w) d n c = order.Write (span p.bank p.pointer 1) (bit_xor w c)
order_of (command.Kill w) d n c = order.Kill (bit_xor w c)
order_of (command.Lock m a) d n c = order.Lock m a
order_of (command.Access w) d n c = order.Access (bit_xor w c)
order_of (command.BlockWrite p) d n c = order.BlockWrite (span p.bank p.pointer (d / 2)) (brought_at (command.BlockWrite p) d n c)
order_of (command.BlockErase p k) d n c = order.BlockErase (span p.bank p.pointer k)
order_of (command.ReadPermalock p k) d n c = order.ReadPermalock 0 (span p.bank p.pointer k)
order_of (command.Permalock p) d n c = order.Permalock 0 (span p.bank p.pointer (d / 2)) (brought_at (command.Permalock p) d n c)

-- words and halves are of 16 bits
abbrev pub Words : Command → Type 0
Words (command.QueryRep k) = Unit {0}
Words command.Ack = Unit {0}
Words (command.Query r) = Unit {0}
Words (command.QueryAdjust k u) = Unit {0}
Words (command.Select t a p l) = Unit {0}
Words command.Nak = Unit {0}
Words command.ReqRn = Unit {0}
Words (command.Read p k) = Unit {0}
Words (command.Write p w) = w < 65536
Words (command.Kill w) = w < 65536
Words (command.Lock m a) = Unit {0}
Words (command.Access w) = w < 65536
Words (command.BlockWrite p) = Unit {0}
Words (command.BlockErase p k) = Unit {0}
Words (command.ReadPermalock p k) = Unit {0}
Words (command.Permalock p) = Unit {0}

-- a call of `make` as its types have it: a command, its payload, the number that it carries and a cover number, of bytes and words
pub record Call : Type 0 where
  pub command : Command
  pub payload : List ℕ
  pub number : ℕ
  pub cover : ℕ
  pub words : Words command
  pub known : Bytes payload
  pub small : (number < 65536) × (cover < 65536)

abbrev pub made : Call → List ℕ → Sent
made c room = make_of c.command c.payload c.number c.cover room

-- what a frame has besides: its pointer in its shortest form, from bit i on; the fields of a Query that the tag reads over, and Kill's three bits
abbrev pub Shortest : List ℕ → ℕ → ℕ → Place → Type 0
Shortest m n i p = pointer_at m n i ≡ whole p.pointer (ebv_bytes p.pointer)

abbrev pub Besides : Command → List ℕ → ℕ → Type 0
Besides (command.QueryRep k) m n = Unit {0}
Besides command.Ack m n = Unit {0}
Besides (command.Query r) m n = (field_at m 4 1 ≡ r.dr) × (field_at m 5 2 ≡ r.m) × (field_at m 7 1 ≡ r.trext)
Besides (command.QueryAdjust k u) m n = Unit {0}
Besides (command.Select t a p l) m n = Shortest m n 12 p
Besides command.Nak m n = Unit {0}
Besides command.ReqRn m n = Unit {0}
Besides (command.Read p k) m n = Shortest m n 10 p
Besides (command.Write p w) m n = Shortest m n 10 p
Besides (command.Kill w) m n = field_at m 24 3 ≡ 0
Besides (command.Lock x a) m n = Unit {0}
Besides (command.Access w) m n = Unit {0}
Besides (command.BlockWrite p) m n = Shortest m n 10 p
Besides (command.BlockErase p k) m n = Shortest m n 10 p
Besides (command.ReadPermalock p k) m n = Shortest m n 19 p
Besides (command.Permalock p) m n = Shortest m n 19 p

-- what each frame says that is made: the command and its number; its payload, where the order says; what it has besides; and no EBV of
-- fewer bytes says a pointer
pub record Heard : Type 0 where
  pub said : (c : Call) (room : List ℕ) → (made c room).number ≡ 0
      → heard_of (made c room).room (made c room).bits
      ≡ heard.said (record { number = carried c.command c.number; order = order_of c.command (length c.payload) c.number c.cover })
  pub brought : (c : Call) (room : List ℕ) → (made c room).number ≡ 0
      → let n = (shape_of c.command (length c.payload) c.number c.cover).body in
      bits_from (made c room).room (brought_at c.command (length c.payload) c.number c.cover) n ≡ bits_from c.payload 0 n
  pub besides : (c : Call) (room : List ℕ) → (made c room).number ≡ 0 → Besides c.command (made c room).room (made c room).bits
  pub none_shorter : (m : List ℕ) (n i p e : ℕ) → pointer_at m n i ≡ whole p e → ebv_bytes p ≤ e
