-- A frame of each command, every row of the table of replies, and the edges of both (RULES 12.1 to 12.5), computed. Assumes nothing.
use Rattle.std.specs.Prelude.{ℕ, ◌+◌, ◌*◌, ◌≡◌, refl, true, false, List, [], ◌∷◌, map, length, replicate}
use Rattle.bits.specs.Bits.{field_at, bits_of}
use Rattle.crc.specs.Crc.{crc_of}
use Rattle.crc.specs.Crc5.{crc5_of}
use Rattle.frames.specs.Frames.{checksum_right}
use Rattle.replies.specs.Pack.{filled, packed}
use Rattle.replies.specs.Replies.{checked}
use Rattle.depot.specs.declared.Place.{Place}
use Rattle.depot.specs.declared.Round.{Round}
use Rattle.depot.specs.declared.Command.{Command}
use Rattle.depot.specs.declared.Command.TheVariants as command
use Rattle.depot.specs.Limits.{within}
use Rattle.depot.specs.Making.{Sent, fields, shortest, frame_bits, sending, make_of}
use Rattle.readings.specs.Reading.{Told, error, words, number, done, refused, asked, shown}
use Rattle.depot.specs.Reading.{read_of}

abbrev pub place : ℕ → ℕ → Place
place b p = record { bank = b; pointer = p }

abbrev pub round : ℕ → ℕ → ℕ → ℕ → ℕ → ℕ → ℕ → Round
round dr m trext sel session target q =
    record { dr = dr; m = m; trext = trext; sel = sel; session = session; target = target; q = q }

-- a frame with the number ABCDh and the cover number FFFFh, into 12 bytes AAh; and into a room of one's own
abbrev pub made : Command → List ℕ → Sent
made o d = make_of o d 0xABCD 0xFFFF (replicate 12 0xAA)

abbrev pub into : Command → List ℕ → Sent
into o room = make_of o [] 0xABCD 0xFFFF room

-- 255 bits of a mask, the last bit of the bytes spare; and the frame of a Select with it
abbrev mask : List ℕ
mask = 0x1C ∷ 0x71 ∷ 0xC7 ∷ 0x1C ∷ 0x71 ∷ 0xC7 ∷ 0x1C ∷ 0x71 ∷ 0xC7 ∷ 0x1C ∷ 0x71 ∷ 0xC7 ∷ 0x1C ∷ 0x71 ∷ 0xC7 ∷ 0x1C ∷ 0x71 ∷ 0xC7 ∷ 0x1C ∷ 0x71 ∷ 0xC7 ∷ 0x1C ∷ 0x71 ∷ 0xC7 ∷ 0x1C ∷ 0x71 ∷ 0xC7 ∷ 0x1C ∷ 0x71 ∷ 0xC7 ∷ 0x1C ∷ 0x71 ∷ []

abbrev longest : List ℕ
longest = 0xA9 ∷ 0xFF ∷ 0xFF ∷ 0xF7 ∷ 0xFF ∷ 0xF1 ∷ 0xC7 ∷ 0x1C ∷ 0x71 ∷ 0xC7 ∷ 0x1C ∷ 0x71 ∷ 0xC7 ∷ 0x1C ∷ 0x71 ∷ 0xC7 ∷ 0x1C ∷ 0x71 ∷ 0xC7 ∷ 0x1C ∷ 0x71 ∷ 0xC7 ∷ 0x1C ∷ 0x71 ∷ 0xC7 ∷ 0x1C ∷ 0x71 ∷ 0xC7 ∷ 0x1C ∷ 0x71 ∷ 0xC7 ∷ 0x1C ∷ 0x71 ∷ 0xC7 ∷ 0x1C ∷ 0x71 ∷ 0xC7 ∷ 0x09 ∷ 0x57 ∷ 0x90 ∷ []

-- THE FRAME of each command, as worked from the papers in frames' own cases
pub record Frames : Type 0 where
  pub query_rep : made (command.QueryRep 3) [] ≡ sending 0 4 (0x30 ∷ replicate 11 0xAA)
  pub ack : made command.Ack [] ≡ sending 0 18 (0x6A ∷ 0xF3 ∷ 0x40 ∷ replicate 9 0xAA)
  pub query : made (command.Query (round 1 2 1 2 3 1 9)) [] ≡ sending 0 22 (0x8D ∷ 0xBC ∷ 0x80 ∷ replicate 9 0xAA)
  pub query_adjust : made (command.QueryAdjust 1 6) [] ≡ sending 0 9 (0x97 ∷ 0x00 ∷ replicate 10 0xAA)
  pub select : made (command.Select 4 0 (place 1 32) 32) (0x30 ∷ 0x34 ∷ 0x02 ∷ 0x57 ∷ []) ≡ sending 0 77 (0xA8 ∷ 0x12 ∷ 0x02 ∷ 0x03 ∷ 0x03 ∷ 0x40 ∷ 0x25 ∷ 0x75 ∷ 0x45 ∷ 0x48 ∷ replicate 2 0xAA)
  pub nak : made command.Nak [] ≡ sending 0 8 (0xC0 ∷ replicate 11 0xAA)
  pub req_rn : made command.ReqRn [] ≡ sending 0 40 (0xC1 ∷ 0xAB ∷ 0xCD ∷ 0xEB ∷ 0xC1 ∷ replicate 7 0xAA)
  pub read : made (command.Read (place 3 234) 5) [] ≡ sending 0 66 (0xC2 ∷ 0xE0 ∷ 0x5A ∷ 0x81 ∷ 0x6A ∷ 0xF3 ∷ 0x51 ∷ 0xFC ∷ 0x80 ∷ replicate 3 0xAA)
  -- covered: 1234h, 5678h and 5678h are sent
  pub write : made (command.Write (place 1 2) 0xEDCB) [] ≡ sending 0 66 (0xC3 ∷ 0x40 ∷ 0x84 ∷ 0x8D ∷ 0x2A ∷ 0xF3 ∷ 0x4C ∷ 0xCC ∷ 0x80 ∷ replicate 3 0xAA)
  pub kill : made (command.Kill 0xA987) [] ≡ sending 0 59 (0xC4 ∷ 0x56 ∷ 0x78 ∷ 0x15 ∷ 0x79 ∷ 0xA6 ∷ 0x7A ∷ 0xC0 ∷ replicate 4 0xAA)
  pub access : made (command.Access 0xA987) [] ≡ sending 0 56 (0xC6 ∷ 0x56 ∷ 0x78 ∷ 0xAB ∷ 0xCD ∷ 0xFA ∷ 0xA0 ∷ replicate 5 0xAA)
  pub lock : made (command.Lock 0x300 0x200) [] ≡ sending 0 60 (0xC5 ∷ 0xC0 ∷ 0x20 ∷ 0x0A ∷ 0xBC ∷ 0xD4 ∷ 0xEE ∷ 0x90 ∷ replicate 4 0xAA)
  pub block_write : made (command.BlockWrite (place 3 4)) (0x11 ∷ 0x11 ∷ 0x22 ∷ 0x22 ∷ []) ≡ sending 0 90 (0xC7 ∷ 0xC1 ∷ 0x00 ∷ 0x84 ∷ 0x44 ∷ 0x48 ∷ 0x88 ∷ 0xAA ∷ 0xF3 ∷ 0x60 ∷ 0x45 ∷ 0x80 ∷ [])
  pub block_erase : made (command.BlockErase (place 3 4) 2) [] ≡ sending 0 58 (0xC8 ∷ 0xC1 ∷ 0x00 ∷ 0xAA ∷ 0xF3 ∷ 0x7F ∷ 0xAF ∷ 0x40 ∷ replicate 4 0xAA)
  pub read_permalock : made (command.ReadPermalock (place 3 0) 1) [] ≡ sending 0 67 (0xC9 ∷ 0x00 ∷ 0x60 ∷ 0x00 ∷ 0x35 ∷ 0x79 ∷ 0xAB ∷ 0x31 ∷ 0xE0 ∷ replicate 3 0xAA)
  pub permalock : made (command.Permalock (place 3 0)) (0x80 ∷ 0x00 ∷ []) ≡ sending 0 83 (0xC9 ∷ 0x00 ∷ 0xE0 ∷ 0x00 ∷ 0x30 ∷ 0x00 ∷ 0x15 ∷ 0x79 ∷ 0xAE ∷ 0x7C ∷ 0x80 ∷ 0xAA ∷ [])
  -- a mask of no bits; and of 9, whose seven spare bits are not sent
  pub select_none : made (command.Select 0 0 (place 1 0) 0) [] ≡ sending 0 45 (0xA0 ∷ 0x10 ∷ 0x00 ∷ 0x02 ∷ 0x82 ∷ 0x88 ∷ replicate 6 0xAA)
  pub select_spare : made (command.Select 3 2 (place 1 5) 9) (0xA7 ∷ 0x80 ∷ []) ≡ sending 0 54 (0xA6 ∷ 0x90 ∷ 0x50 ∷ 0x9A ∷ 0x78 ∷ 0xA9 ∷ 0x9C ∷ replicate 5 0xAA)
  pub select_spare_set : made (command.Select 3 2 (place 1 5) 9) (0xA7 ∷ 0xFF ∷ []) ≡ sending 0 54 (0xA6 ∷ 0x90 ∷ 0x50 ∷ 0x9A ∷ 0x78 ∷ 0xA9 ∷ 0x9C ∷ replicate 5 0xAA)
  pub select_longest : make_of (command.Select 4 7 (place 3 0x1FFFFF) 255) mask 0xABCD 0xFFFF (replicate 40 0xAA) ≡ sending 0 316 longest
  -- the longest frame has 521 bytes
  pub permalock_longest : length (frame_bits (command.Permalock (place 3 0x1FFFFF)) (replicate 510 0) 0xABCD 0xFFFF) ≡ 4163

pub frames : Frames
unfolding make_of frame_bits packed filled bits_of crc_of crc5_of checked
frames = record {
  query_rep = refl;
  ack = refl;
  query = refl;
  query_adjust = refl;
  select = refl;
  nak = refl;
  req_rn = refl;
  read = refl;
  write = refl;
  kill = refl;
  access = refl;
  lock = refl;
  block_write = refl;
  block_erase = refl;
  read_permalock = refl;
  permalock = refl;
  select_none = refl;
  select_spare = refl;
  select_spare_set = refl;
  select_longest = refl;
  permalock_longest = refl;
}

-- a pointer's bytes at the head of four
abbrev pointer : ℕ → List ℕ
pointer p = packed (fields (shortest p)) (replicate 4 0xAA)

-- a pointer in its shortest form, and the frame of a Read of one word there
pub record Pointers : Type 0 where
  pub ebv_0 : pointer 0 ≡ 0x00 ∷ replicate 3 0xAA
  pub ebv_127 : pointer 127 ≡ 0x7F ∷ replicate 3 0xAA
  pub ebv_128 : pointer 128 ≡ 0x81 ∷ 0x00 ∷ replicate 2 0xAA
  pub ebv_16383 : pointer 16383 ≡ 0xFF ∷ 0x7F ∷ replicate 2 0xAA
  pub ebv_16384 : pointer 16384 ≡ 0x81 ∷ 0x80 ∷ 0x00 ∷ 0xAA ∷ []
  pub ebv_2097151 : pointer 2097151 ≡ 0xFF ∷ 0xFF ∷ 0x7F ∷ 0xAA ∷ []
  pub read_0 : made (command.Read (place 3 0) 1) [] ≡ sending 0 58 (0xC2 ∷ 0xC0 ∷ 0x00 ∷ 0x6A ∷ 0xF3 ∷ 0x59 ∷ 0xE1 ∷ 0x40 ∷ replicate 4 0xAA)
  pub read_127 : made (command.Read (place 3 127) 1) [] ≡ sending 0 58 (0xC2 ∷ 0xDF ∷ 0xC0 ∷ 0x6A ∷ 0xF3 ∷ 0x7C ∷ 0x47 ∷ 0x80 ∷ replicate 4 0xAA)
  pub read_128 : made (command.Read (place 3 128) 1) [] ≡ sending 0 66 (0xC2 ∷ 0xE0 ∷ 0x40 ∷ 0x00 ∷ 0x6A ∷ 0xF3 ∷ 0x6A ∷ 0x92 ∷ 0xC0 ∷ replicate 3 0xAA)
  pub read_16383 : made (command.Read (place 3 16383) 1) [] ≡ sending 0 66 (0xC2 ∷ 0xFF ∷ 0xDF ∷ 0xC0 ∷ 0x6A ∷ 0xF3 ∷ 0x7B ∷ 0xBF ∷ 0x80 ∷ replicate 3 0xAA)
  pub read_16384 : made (command.Read (place 3 16384) 1) [] ≡ sending 0 74 (0xC2 ∷ 0xE0 ∷ 0x60 ∷ 0x00 ∷ 0x00 ∷ 0x6A ∷ 0xF3 ∷ 0x71 ∷ 0xBE ∷ 0xC0 ∷ replicate 2 0xAA)
  pub read_2097151 : made (command.Read (place 3 2097151) 1) [] ≡ sending 0 74 (0xC2 ∷ 0xFF ∷ 0xFF ∷ 0xDF ∷ 0xC0 ∷ 0x6A ∷ 0xF3 ∷ 0x7B ∷ 0x48 ∷ 0x00 ∷ replicate 2 0xAA)

pub pointers : Pointers
unfolding make_of frame_bits packed filled bits_of crc_of crc5_of checked
pointers = record {
  ebv_0 = refl;
  ebv_127 = refl;
  ebv_128 = refl;
  ebv_16383 = refl;
  ebv_16384 = refl;
  ebv_2097151 = refl;
  read_0 = refl;
  read_127 = refl;
  read_128 = refl;
  read_16383 = refl;
  read_16384 = refl;
  read_2097151 = refl;
}

-- the room
pub record Rooms : Type 0 where
  -- bytes beyond the frame stay; it fits exactly; it is a byte short: 4, and no byte changes
  pub spare : into (command.Read (place 3 234) 5) (replicate 11 0x55) ≡ sending 0 66 (0xC2 ∷ 0xE0 ∷ 0x5A ∷ 0x81 ∷ 0x6A ∷ 0xF3 ∷ 0x51 ∷ 0xFC ∷ 0x80 ∷ 0x55 ∷ 0x55 ∷ [])
  pub exact : into (command.Read (place 3 234) 5) (replicate 9 0x55) ≡ sending 0 66 (0xC2 ∷ 0xE0 ∷ 0x5A ∷ 0x81 ∷ 0x6A ∷ 0xF3 ∷ 0x51 ∷ 0xFC ∷ 0x80 ∷ [])
  pub short : into (command.Read (place 3 234) 5) (replicate 8 0x55) ≡ sending 4 0 (replicate 8 0x55)
  pub none : into command.Nak [] ≡ sending 4 0 []
  pub one : into command.Nak (0x55 ∷ []) ≡ sending 0 8 (0xC0 ∷ [])
  -- a frame of 4 bits has one byte, filled with 0 bits; one of 9 bits has two
  pub last_byte : into (command.QueryRep 3) (0xFF ∷ []) ≡ sending 0 4 (0x30 ∷ [])
  pub nine_bits : into (command.QueryAdjust 1 6) (0xFF ∷ []) ≡ sending 4 0 (0xFF ∷ [])

pub rooms : Rooms
unfolding make_of frame_bits packed filled bits_of crc_of crc5_of checked
rooms = record {
  spare = refl;
  exact = refl;
  short = refl;
  none = refl;
  one = refl;
  last_byte = refl;
  nine_bits = refl;
}

-- commands with their payload, each past one limit
abbrev past_limits : List (Command × List ℕ)
past_limits =
    (command.Read (place 4 0) 1, [])
    ∷ (command.Read (place 3 0x200000) 1, [])
    ∷ (command.Read (place 3 0) 256, [])
    ∷ (command.Write (place 4 0) 0, [])
    ∷ (command.Write (place 3 0x200000) 0, [])
    ∷ (command.Lock 0x400 0, [])
    ∷ (command.Lock 0 0x400, [])
    ∷ (command.BlockWrite (place 4 0), replicate 2 0)
    ∷ (command.BlockWrite (place 3 0x200000), replicate 2 0)
    ∷ (command.BlockWrite (place 3 0), [])
    ∷ (command.BlockWrite (place 3 0), replicate 3 0)
    ∷ (command.BlockWrite (place 3 0), replicate 512 0)
    ∷ (command.BlockErase (place 4 0) 1, [])
    ∷ (command.BlockErase (place 3 0x200000) 1, [])
    ∷ (command.BlockErase (place 3 0) 0, [])
    ∷ (command.BlockErase (place 3 0) 256, [])
    ∷ (command.ReadPermalock (place 4 0) 1, [])
    ∷ (command.ReadPermalock (place 3 0x200000) 1, [])
    ∷ (command.ReadPermalock (place 3 0) 0, [])
    ∷ (command.ReadPermalock (place 3 0) 256, [])
    ∷ (command.Permalock (place 4 0), replicate 2 0)
    ∷ (command.Permalock (place 3 0x200000), replicate 2 0)
    ∷ (command.Permalock (place 3 0), [])
    ∷ (command.Permalock (place 3 0), replicate 3 0)
    ∷ (command.Permalock (place 3 0), replicate 512 0)
    ∷ (command.Select 5 0 (place 1 0) 8, 0 ∷ [])
    ∷ (command.Select 0 8 (place 1 0) 8, 0 ∷ [])
    ∷ (command.Select 0 0 (place 0 0) 8, 0 ∷ [])
    ∷ (command.Select 0 0 (place 4 0) 8, 0 ∷ [])
    ∷ (command.Select 0 0 (place 1 0x200000) 8, 0 ∷ [])
    ∷ (command.Select 0 0 (place 1 0) 256, replicate 32 0)
    ∷ (command.Select 0 0 (place 1 0) 9, 0 ∷ [])
    ∷ (command.Select 0 0 (place 1 0) 8, 0 ∷ 0 ∷ [])
    ∷ (command.Query (round 2 0 0 0 0 0 0), [])
    ∷ (command.Query (round 0 4 0 0 0 0 0), [])
    ∷ (command.Query (round 0 0 2 0 0 0 0), [])
    ∷ (command.Query (round 0 0 0 4 0 0 0), [])
    ∷ (command.Query (round 0 0 0 0 4 0 0), [])
    ∷ (command.Query (round 0 0 0 0 0 2 0), [])
    ∷ (command.Query (round 0 0 0 0 0 0 16), [])
    ∷ (command.QueryAdjust 4 0, [])
    ∷ (command.QueryAdjust 0 1, [])
    ∷ (command.QueryAdjust 0 7, [])
    ∷ (command.QueryAdjust 0 8, [])
    ∷ (command.QueryRep 4, [])
    ∷ []

-- each is 9, and no byte changes; in a room that is too small as well (a QueryRep's when it has no byte), so 9 is before 4
pub beyond : map (λ (c : Command × List ℕ). make_of c.0 c.1 0xABCD 0xFFFF (0x55 ∷ [])) past_limits ≡ replicate (length past_limits) (sending 9 0 (0x55 ∷ []))
unfolding make_of
beyond = refl

pub beyond-no-room : into (command.QueryRep 4) [] ≡ sending 9 0 []
unfolding make_of
beyond-no-room = refl

-- the last that is within each limit, with the bytes of its payload
abbrev last_within : List (Command × ℕ)
last_within =
    (command.Query (round 1 3 1 3 3 1 15), 0)
    ∷ (command.QueryAdjust 3 3, 0)
    ∷ (command.QueryAdjust 3 0, 0)
    ∷ (command.QueryRep 3, 0)
    ∷ (command.Select 4 7 (place 3 0x1FFFFF) 255, 32)
    ∷ (command.Read (place 3 0x1FFFFF) 255, 0)
    ∷ (command.Read (place 0 0) 0, 0)
    ∷ (command.Write (place 3 0x1FFFFF) 0xFFFF, 0)
    ∷ (command.Lock 0x3FF 0x3FF, 0)
    ∷ (command.BlockWrite (place 3 0x1FFFFF), 510)
    ∷ (command.BlockErase (place 3 0x1FFFFF) 255, 0)
    ∷ (command.ReadPermalock (place 1 0x1FFFFF) 255, 0)
    ∷ (command.Permalock (place 1 0x1FFFFF), 510)
    ∷ []

pub edges : map (λ (c : Command × ℕ). within c.0 c.1) last_within ≡ replicate (length last_within) true
edges = refl

-- what the first n bits of the bytes m say, in reply to a command with the handle BEEFh
abbrev pub told : Command → List ℕ → ℕ → List ℕ → Told
told o d n m = read_of o d 0xBEEF n m

-- a new number; the handle; PC and two words; a success without words, with one and with two; an error
abbrev pub fresh : List ℕ
fresh = 0x12 ∷ 0x34 ∷ 0xF1 ∷ 0x36 ∷ []

abbrev pub handled : List ℕ
handled = 0xBE ∷ 0xEF ∷ 0xD3 ∷ 0x33 ∷ []

abbrev pub acked : List ℕ
acked = 0x10 ∷ 0x00 ∷ 0x30 ∷ 0x34 ∷ 0x02 ∷ 0x57 ∷ 0x92 ∷ 0x97 ∷ []

abbrev pub success : List ℕ
success = 0x5F ∷ 0x77 ∷ 0xFA ∷ 0x11 ∷ 0x00 ∷ []

abbrev pub one : List ℕ
one = 0x71 ∷ 0x00 ∷ 0x5F ∷ 0x77 ∷ 0xDF ∷ 0x0F ∷ 0x80 ∷ []

abbrev pub two : List ℕ
two = 0x71 ∷ 0x00 ∷ 0x30 ∷ 0x00 ∷ 0xDF ∷ 0x77 ∷ 0xDE ∷ 0x43 ∷ 0x00 ∷ []

abbrev pub failed : List ℕ
failed = 0x82 ∷ 0x5F ∷ 0x77 ∷ 0xF6 ∷ 0xA8 ∷ 0x80 ∷ []

-- EVERY ROW of the table of replies
pub record Replies : Type 0 where
  -- a number without a CRC-16
  pub query : told (command.Query (round 0 0 0 0 0 0 0)) [] 16 (0x12 ∷ 0x34 ∷ []) ≡ number 0x1234
  pub query_adjust : told (command.QueryAdjust 0 0) [] 16 (0x12 ∷ 0x34 ∷ []) ≡ number 0x1234
  pub query_rep : told (command.QueryRep 0) [] 16 (0x12 ∷ 0x34 ∷ []) ≡ number 0x1234
  -- PC and L words, L from the PC: 2, 0
  pub ack : told command.Ack [] 64 acked ≡ words 3 0
  pub ack_alone : told command.Ack [] 32 (0x00 ∷ 0x00 ∷ 0xE2 ∷ 0xF0 ∷ []) ≡ words 1 0
  -- the new number; the handle
  pub req_rn : told command.ReqRn [] 32 fresh ≡ number 0x1234
  pub access : told (command.Access 0x1234) [] 32 handled ≡ number 0xBEEF
  pub kill_first : told (command.Kill 0x1234) [] 32 handled ≡ number 0xBEEF
  -- done
  pub kill_second : told (command.Kill 0x1234) [] 33 success ≡ done
  pub write : told (command.Write (place 1 2) 0x1234) [] 33 success ≡ done
  pub lock : told (command.Lock 0x300 0x200) [] 33 success ≡ done
  pub block_write : told (command.BlockWrite (place 3 4)) (replicate 4 0x11) 33 success ≡ done
  pub block_erase : told (command.BlockErase (place 3 4) 2) [] 33 success ≡ done
  pub permalock : told (command.Permalock (place 3 0)) (replicate 2 0x80) 33 success ≡ done
  -- the words asked for; with count 0 as many as there are
  pub read : told (command.Read (place 2 0) 2) [] 65 two ≡ words 2 1
  pub read_permalock : told (command.ReadPermalock (place 3 0) 1) [] 49 one ≡ words 1 1
  pub read_one : told (command.Read (place 2 1) 0) [] 49 one ≡ words 1 1
  pub read_two : told (command.Read (place 2 0) 0) [] 65 two ≡ words 2 1
  pub read_three : told (command.Read (place 2 0) 0) [] 81 (0x71 ∷ 0x00 ∷ 0x30 ∷ 0x00 ∷ 0x89 ∷ 0x1A ∷ 0x5F ∷ 0x77 ∷ 0xA4 ∷ 0x9E ∷ 0x00 ∷ []) ≡ words 3 1
  -- an error's code
  pub kill_error : told (command.Kill 0x1234) [] 41 failed ≡ error 0x04
  pub write_error : told (command.Write (place 1 2) 0x1234) [] 41 failed ≡ error 0x04
  pub lock_error : told (command.Lock 0x300 0x200) [] 41 failed ≡ error 0x04
  pub block_write_error : told (command.BlockWrite (place 3 4)) (replicate 4 0x11) 41 failed ≡ error 0x04
  pub block_erase_error : told (command.BlockErase (place 3 4) 2) [] 41 failed ≡ error 0x04
  pub permalock_error : told (command.Permalock (place 3 0)) (replicate 2 0x80) 41 failed ≡ error 0x04
  pub read_error : told (command.Read (place 3 0) 0) [] 41 failed ≡ error 0x04
  pub read_permalock_error : told (command.ReadPermalock (place 3 0) 1) [] 41 failed ≡ error 0x04
  -- whatever it is
  pub read_error_ff : told (command.Read (place 3 0) 0) [] 41 (0xFF ∷ 0xDF ∷ 0x77 ∷ 0xFF ∷ 0x79 ∷ 0x00 ∷ []) ≡ error 0xFF
  -- no reply answers these: 8, else 15
  pub nak_8 : told command.Nak [] 16 (0x12 ∷ 0x34 ∷ []) ≡ refused 8
  pub nak_15 : told command.Nak [] 32 fresh ≡ refused 15
  pub select_8 : told (command.Select 4 0 (place 1 32) 8) (0x30 ∷ []) 16 (0x12 ∷ 0x34 ∷ []) ≡ refused 8
  pub select_15 : told (command.Select 4 0 (place 1 32) 8) (0x30 ∷ []) 32 fresh ≡ refused 15

pub replies : Replies
unfolding read_of checksum_right field_at crc_of
replies = record {
  query = refl;
  query_adjust = refl;
  query_rep = refl;
  ack = refl;
  ack_alone = refl;
  req_rn = refl;
  access = refl;
  kill_first = refl;
  kill_second = refl;
  write = refl;
  lock = refl;
  block_write = refl;
  block_erase = refl;
  permalock = refl;
  read = refl;
  read_permalock = refl;
  read_one = refl;
  read_two = refl;
  read_three = refl;
  kill_error = refl;
  write_error = refl;
  lock_error = refl;
  block_write_error = refl;
  block_erase_error = refl;
  permalock_error = refl;
  read_error = refl;
  read_permalock_error = refl;
  read_error_ff = refl;
  nak_8 = refl;
  nak_15 = refl;
  select_8 = refl;
  select_15 = refl;
}

-- each refusal, and its order
pub record Refusals : Type 0 where
  -- 9 before 8, and before 15
  pub beyond_short : told (command.Read (place 4 0) 0) [] 15 [] ≡ refused 9
  pub beyond_wrong : told (command.Read (place 4 0) 0) [] 41 (0x00 ∷ 0x00 ∷ 0x00 ∷ 0x00 ∷ 0x00 ∷ 0x00 ∷ []) ≡ refused 9
  pub beyond_other : told (command.BlockWrite (place 3 4)) (replicate 3 0x11) 32 handled ≡ refused 9
  pub beyond_right : told (command.BlockWrite (place 3 4)) (replicate 3 0x11) 33 success ≡ refused 9
  pub beyond_drawn : told (command.QueryRep 4) [] 16 (0x12 ∷ 0x34 ∷ []) ≡ refused 9
  -- 8: under 16 bits, past the bytes lent, a wrong CRC-16; before 15
  pub empty : told (command.Read (place 3 0) 0) [] 0 [] ≡ refused 8
  pub under : told (command.Read (place 3 0) 0) [] 15 (0x00 ∷ 0x00 ∷ []) ≡ refused 8
  pub past : told (command.Read (place 3 0) 0) [] 41 (0x82 ∷ 0x5F ∷ 0x77 ∷ 0xF6 ∷ 0xA8 ∷ []) ≡ refused 8
  pub past_one : told (command.Access 0x1234) [] 33 handled ≡ refused 8
  pub wrong : told (command.Access 0x1234) [] 32 (0xBE ∷ 0xEF ∷ 0xD3 ∷ 0x32 ∷ []) ≡ refused 8
  pub wrong_other : told (command.Access 0x1234) [] 32 (0xBE ∷ 0xEE ∷ 0xC3 ∷ 0x13 ∷ []) ≡ refused 8
  pub wrong_long : told (command.Write (place 1 2) 0x1234) [] 34 success ≡ refused 8
  pub wrong_pc : told command.Ack [] 48 (0x10 ∷ 0x00 ∷ 0x30 ∷ 0x34 ∷ 0x13 ∷ 0xDB ∷ []) ≡ refused 8
  pub drawn_under : told (command.QueryRep 0) [] 15 (0x12 ∷ 0x34 ∷ []) ≡ refused 8
  pub drawn_past : told (command.QueryRep 0) [] 16 (0x12 ∷ []) ≡ refused 8
  -- 15: another length, its CRC-16 right
  pub no_bits : told (command.Write (place 1 2) 0x1234) [] 16 (0x00 ∷ 0x00 ∷ []) ≡ refused 15
  pub long : told (command.Write (place 1 2) 0x1234) [] 34 (0x5F ∷ 0x77 ∷ 0xBA ∷ 0x11 ∷ 0x40 ∷ []) ≡ refused 15
  pub done_as_words : told (command.Read (place 3 0) 0) [] 33 success ≡ refused 15
  pub words_as_done : told (command.Write (place 1 2) 0x1234) [] 49 one ≡ refused 15
  pub few : told (command.Read (place 2 0) 3) [] 65 two ≡ refused 15
  pub many : told (command.ReadPermalock (place 3 0) 1) [] 65 two ≡ refused 15
  pub odd : told (command.Read (place 3 0) 0) [] 50 (0x71 ∷ 0x00 ∷ 0x2F ∷ 0xBB ∷ 0xCB ∷ 0x9E ∷ 0x80 ∷ []) ≡ refused 15
  pub done_as_handle : told (command.Access 0x1234) [] 33 success ≡ refused 15
  pub error_as_handle : told (command.Access 0x1234) [] 41 failed ≡ refused 15
  pub error_as_new : told command.ReqRn [] 41 failed ≡ refused 15
  pub pc_says_more : told command.Ack [] 48 (0x10 ∷ 0x00 ∷ 0x30 ∷ 0x34 ∷ 0x13 ∷ 0xDA ∷ []) ≡ refused 15
  pub pc_says_less : told command.Ack [] 64 (0x08 ∷ 0x00 ∷ 0x30 ∷ 0x34 ∷ 0x02 ∷ 0x57 ∷ 0x85 ∷ 0x51 ∷ []) ≡ refused 15
  -- a number that is drawn has no CRC-16
  pub drawn_long : told (command.QueryRep 0) [] 17 (0x12 ∷ 0x34 ∷ 0x00 ∷ []) ≡ refused 15
  pub drawn_checked : told (command.Query (round 0 0 0 0 0 0 0)) [] 32 fresh ≡ refused 15
  -- another kind: the first bit
  pub done_with_1 : told (command.Write (place 1 2) 0x1234) [] 33 (0xDF ∷ 0x77 ∷ 0xE1 ∷ 0x89 ∷ 0x00 ∷ []) ≡ refused 15
  pub error_with_0 : told (command.Write (place 1 2) 0x1234) [] 41 (0x02 ∷ 0x5F ∷ 0x77 ∷ 0xCD ∷ 0xF2 ∷ 0x80 ∷ []) ≡ refused 15
  pub words_with_1 : told (command.Read (place 3 0) 0) [] 49 (0xF1 ∷ 0x00 ∷ 0x5F ∷ 0x77 ∷ 0x8A ∷ 0x27 ∷ 0x00 ∷ []) ≡ refused 15
  -- another handle
  pub handle_other : told (command.Access 0x1234) [] 32 (0xBE ∷ 0xEE ∷ 0xC3 ∷ 0x12 ∷ []) ≡ refused 15
  pub kill_other : told (command.Kill 0x1234) [] 32 (0xBE ∷ 0xEE ∷ 0xC3 ∷ 0x12 ∷ []) ≡ refused 15
  pub done_other : told (command.Write (place 1 2) 0x1234) [] 33 (0x5F ∷ 0x77 ∷ 0x72 ∷ 0x01 ∷ 0x80 ∷ []) ≡ refused 15
  pub words_other : told (command.Read (place 3 0) 0) [] 65 (0x71 ∷ 0x00 ∷ 0x30 ∷ 0x00 ∷ 0xDF ∷ 0x77 ∷ 0x56 ∷ 0x53 ∷ 0x80 ∷ []) ≡ refused 15
  pub error_other : told (command.Read (place 3 0) 0) [] 41 (0x82 ∷ 0x5F ∷ 0x77 ∷ 0x7E ∷ 0xB8 ∷ 0x00 ∷ []) ≡ refused 15

pub refusals : Refusals
unfolding read_of checksum_right field_at crc_of
refusals = record {
  beyond_short = refl;
  beyond_wrong = refl;
  beyond_other = refl;
  beyond_right = refl;
  beyond_drawn = refl;
  empty = refl;
  under = refl;
  past = refl;
  past_one = refl;
  wrong = refl;
  wrong_other = refl;
  wrong_long = refl;
  wrong_pc = refl;
  drawn_under = refl;
  drawn_past = refl;
  no_bits = refl;
  long = refl;
  done_as_words = refl;
  words_as_done = refl;
  few = refl;
  many = refl;
  odd = refl;
  done_as_handle = refl;
  error_as_handle = refl;
  error_as_new = refl;
  pc_says_more = refl;
  pc_says_less = refl;
  drawn_long = refl;
  drawn_checked = refl;
  done_with_1 = refl;
  error_with_0 = refl;
  words_with_1 = refl;
  handle_other = refl;
  kill_other = refl;
  done_other = refl;
  words_other = refl;
  error_other = refl;
}

-- bits and bytes past the count mean nothing
pub record Spare : Type 0 where
  pub error_spare : told (command.Read (place 3 0) 0) [] 41 (0x82 ∷ 0x5F ∷ 0x77 ∷ 0xF6 ∷ 0xA8 ∷ 0xFF ∷ []) ≡ error 0x04
  pub error_beyond : told (command.Read (place 3 0) 0) [] 41 (0x82 ∷ 0x5F ∷ 0x77 ∷ 0xF6 ∷ 0xA8 ∷ 0xD5 ∷ 0x12 ∷ 0x34 ∷ []) ≡ error 0x04
  pub done_spare : told (command.Lock 0x300 0x200) [] 33 (0x5F ∷ 0x77 ∷ 0xFA ∷ 0x11 ∷ 0x7F ∷ 0xFF ∷ []) ≡ done
  pub words_spare : told (command.Read (place 3 0) 0) [] 49 (0x71 ∷ 0x00 ∷ 0x5F ∷ 0x77 ∷ 0xDF ∷ 0x0F ∷ 0xFF ∷ 0x00 ∷ 0x00 ∷ 0x00 ∷ 0x00 ∷ []) ≡ words 1 1
  pub number_beyond : told command.ReqRn [] 32 (0x12 ∷ 0x34 ∷ 0xF1 ∷ 0x36 ∷ 0xFF ∷ []) ≡ number 0x1234
  pub drawn_beyond : told (command.QueryRep 0) [] 16 (0x12 ∷ 0x34 ∷ 0xFF ∷ 0xFF ∷ []) ≡ number 0x1234
  pub epc_beyond : told command.Ack [] 32 (0x00 ∷ 0x00 ∷ 0xE2 ∷ 0xF0 ∷ 0xFF ∷ []) ≡ words 1 0
  pub refused_beyond : told (command.QueryRep 0) [] 15 (0x12 ∷ 0x34 ∷ 0xFF ∷ []) ≡ refused 8

pub spare : Spare
unfolding read_of checksum_right field_at crc_of
spare = record {
  error_spare = refl;
  error_beyond = refl;
  done_spare = refl;
  words_spare = refl;
  number_beyond = refl;
  drawn_beyond = refl;
  epc_beyond = refl;
  refused_beyond = refl;
}

-- a Read that asks for 0 words is answered with 1 to 4,096, whatever they are
pub record Most : Type 0 where
  pub none : (h : ℕ) (m : List ℕ) → (shown h 33 m (asked h 33 m 0)).1 ≡ false
  pub past : (h : ℕ) (m : List ℕ) → (shown h (33 + 16 * 4097) m (asked h (33 + 16 * 4097) m 0)).1 ≡ false
  pub all : (h : ℕ) (m : List ℕ) → (shown h (33 + 16 * 4096) m (asked h (33 + 16 * 4096) m 0)).0 ≡ words 4096 1

pub most : Most
most = record { none = λ h m. refl; past = λ h m. refl; all = λ h m. refl }
