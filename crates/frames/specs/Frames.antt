-- What a frame says (RULES 3.5 to 3.8 and 11.1): n bits in the bytes m, the first bit highest. Assumes nothing.
use Rattle.std.specs.Prelude.{ℕ, ◌+◌, ◌-◌, ◌*◌, Bool, cond, not, ◌||◌, List, [], ◌∷◌, eqb, ltb, length}
use Rattle.bits.specs.Bits.{field_at, bits_from}
use Rattle.bits.specs.First.{first}
use Rattle.crc.specs.Crc.{crc_of}
use Rattle.crc.specs.Crc5.{crc5_of}
use Rattle.ebv.specs.Ebv.{Read, pointer_at}
use Rattle.ebv.specs.Ebv as pointer
use Rattle.frames.specs.declared.Span.{Span}
use Rattle.frames.specs.declared.Choice.{Choice}
use Rattle.frames.specs.declared.Command.{Command}
use Rattle.frames.specs.declared.Order.{Order}
use Rattle.frames.specs.declared.Order.TheVariants as order
use Rattle.frames.specs.Message.{Message}
use Rattle.frames.specs.Message as heard

-- the CRC-16 at a frame's end is that of all bits before it
unfoldable pub checksum_right : List ℕ → ℕ → Bool
checksum_right m n = eqb (field_at m (n - 16) 16) (crc_of (bits_from m 0 (n - 16)))

-- the CRC-5 at a Query's end is that of the 17 bits before it
unfoldable pub checksum5_right : List ℕ → Bool
checksum5_right m = eqb (field_at m 17 5) (crc5_of (bits_from m 0 17))

-- the command c, in a frame of exactly k bits whose CRC is right
abbrev pub taken : ℕ → ℕ → Bool → Command → Message
taken n k right c = first ((heard.refused 7, not (eqb n k)) ∷ (heard.refused 8, not right) ∷ []) (heard.said c)

-- the order o, in a frame of exactly k bits; its number stands before the CRC-16
abbrev pub exactly : List ℕ → ℕ → ℕ → Order → Message
exactly m n k o = taken n k (checksum_right m n) (record { number = field_at m (n - 32) 16; order = o })

-- an order that names no handle has the number 0; and one in a frame of exactly k bits, without a CRC
abbrev pub to_all : Order → Command
to_all o = record { number = 0; order = o }

abbrev pub plainly : ℕ → ℕ → Order → Message
plainly n k o = cond (eqb n k) (heard.said (to_all o)) (heard.refused 7)

-- what follows a pointer of the value p and e bytes
abbrev pub pointed : Read → (ℕ → ℕ → Message) → Message
pointed (pointer.refused k) f = heard.refused k
pointed (pointer.whole p e) f = f p e

abbrev pub span : ℕ → ℕ → ℕ → Span
span b p c = record { bank = b; pointer = p; count = c }

-- 11.1: a Query: DR, M and TRext are read over; then Sel, session, target and Q
abbrev pub query_frame : List ℕ → ℕ → Message
query_frame m n =
    taken n 22 (checksum5_right m)
    (to_all (order.Query (field_at m 8 2) (field_at m 12 1) (record { session = field_at m 10 2; q = field_at m 13 4 })))

-- 11.1: a Select: target, action, bank, a pointer that counts bits, the mask's length, the mask and the truncate bit
abbrev pub select_frame : List ℕ → ℕ → Message
select_frame m n =
    pointed (pointer_at m n 12)
    (λ p e.
    let l = field_at m (12 + 8 * e) 8 in
    let end = 20 + 8 * e + l in
    let c : Choice = record { target = field_at m 4 3; action = field_at m 7 3; bits = span (field_at m 10 2) p l; truncate = field_at m end 1 } in
    taken n (37 + 8 * e + l) (checksum_right m n) (to_all (order.Select c (20 + 8 * e))))

-- 3.7: layout and length of the commands with a pointer
abbrev pub read_frame : List ℕ → ℕ → Message
read_frame m n =
    pointed (pointer_at m n 10) (λ p e. exactly m n (50 + 8 * e) (order.Read (span (field_at m 8 2) p (field_at m (10 + 8 * e) 8))))

abbrev pub write_frame : List ℕ → ℕ → Message
write_frame m n =
    pointed (pointer_at m n 10) (λ p e. exactly m n (58 + 8 * e) (order.Write (span (field_at m 8 2) p 1) (field_at m (10 + 8 * e) 16)))

abbrev pub block_write_frame : List ℕ → ℕ → Message
block_write_frame m n =
    pointed (pointer_at m n 10)
    (λ p e. let c = field_at m (10 + 8 * e) 8 in
    exactly m n (50 + 8 * e + 16 * c) (order.BlockWrite (span (field_at m 8 2) p c) (18 + 8 * e)))

abbrev pub block_erase_frame : List ℕ → ℕ → Message
block_erase_frame m n =
    pointed (pointer_at m n 10) (λ p e. exactly m n (50 + 8 * e) (order.BlockErase (span (field_at m 8 2) p (field_at m (10 + 8 * e) 8))))

-- bit 16 says whether it reads or locks
abbrev pub permalock_frame : List ℕ → ℕ → Message
permalock_frame m n =
    pointed (pointer_at m n 19)
    (λ p e.
    let s = span (field_at m 17 2) p (field_at m (19 + 8 * e) 8) in
    cond (eqb (field_at m 16 1) 0) (exactly m n (59 + 8 * e) (order.ReadPermalock (field_at m 8 8) s))
    (exactly m n (59 + 8 * e + 16 * s.count) (order.Permalock (field_at m 8 8) s (27 + 8 * e))))

-- 11.1 and 3.8: the codes, of two, four and eight bits, with layout and length of the others; QueryRep, ACK, QueryAdjust and NAK have no CRC
unfoldable pub heard_of : List ℕ → ℕ → Message
heard_of m n =
    let code = field_at m 0 8 in
    first
    ((heard.refused 7, ltb (8 * length m) n || ltb n 4)
    ∷ (plainly n 4 (order.QueryRep (field_at m 2 2)), eqb (field_at m 0 2) 0)
    ∷ (plainly n 18 (order.Ack (field_at m 2 16)), eqb (field_at m 0 2) 1)
    ∷ (query_frame m n, eqb (field_at m 0 4) 8)
    ∷ (plainly n 9 (order.QueryAdjust (field_at m 4 2) (field_at m 6 3)), eqb (field_at m 0 4) 9)
    ∷ (select_frame m n, eqb (field_at m 0 4) 10)
    ∷ (plainly n 8 order.Nak, eqb code 0xC0)
    ∷ (exactly m n 40 order.ReqRn, eqb code 0xC1)
    ∷ (read_frame m n, eqb code 0xC2)
    ∷ (write_frame m n, eqb code 0xC3)
    ∷ (exactly m n 59 (order.Kill (field_at m 8 16)), eqb code 0xC4)
    ∷ (exactly m n 60 (order.Lock (field_at m 8 10) (field_at m 18 10)), eqb code 0xC5)
    ∷ (exactly m n 56 (order.Access (field_at m 8 16)), eqb code 0xC6)
    ∷ (block_write_frame m n, eqb code 0xC7)
    ∷ (block_erase_frame m n, eqb code 0xC8)
    ∷ (permalock_frame m n, eqb code 0xC9)
    ∷ [])
    (heard.refused 7)
