-- A frame of each command and the edges of frames (RULES 3.5 to 3.8 and 11.1), computed. Assumes nothing.
use Rattle.std.specs.Prelude.{ℕ, ◌≡◌, refl, List, [], ◌∷◌, take}
use Rattle.bits.specs.Bits.{field_at}
use Rattle.crc.specs.Crc.{crc_of}
use Rattle.crc.specs.Crc5.{crc5_of}
use Rattle.ebv.specs.Ebv.{pointer_at}
use Rattle.frames.specs.declared.Span.{Span}
use Rattle.frames.specs.declared.Choice.{Choice}
use Rattle.frames.specs.declared.Order.{Order}
use Rattle.frames.specs.declared.Order.TheVariants as order
use Rattle.frames.specs.Message.{Message}
use Rattle.frames.specs.Message as heard
use Rattle.frames.specs.Frames.{span, heard_of, checksum_right, checksum5_right}

-- an order with the number ABCDh
abbrev said : Order → Message
said o = heard.said (record { number = 0xABCD; order = o })

-- USER words 234 to 238
abbrev reads : List ℕ
reads = 0xC2 ∷ 0xE0 ∷ 0x5A ∷ 0x81 ∷ 0x6A ∷ 0xF3 ∷ 0x51 ∷ 0xFC ∷ 0x80 ∷ []

pub record Cases : Type 0 where
  pub nak : heard_of (0xC0 ∷ []) 8 ≡ heard.said (record { number = 0; order = order.Nak })
  pub nak_long : heard_of (0xC0 ∷ 0 ∷ []) 9 ≡ heard.refused 7
  pub req_rn : heard_of (0xC1 ∷ 0xAB ∷ 0xCD ∷ 0xEB ∷ 0xC1 ∷ []) 40 ≡ said order.ReqRn
  pub read : heard_of reads 66 ≡ said (order.Read (span 3 234 5))
  pub write : heard_of (0xC3 ∷ 0x40 ∷ 0x84 ∷ 0x8D ∷ 0x2A ∷ 0xF3 ∷ 0x4C ∷ 0xCC ∷ 0x80 ∷ []) 66 ≡ said (order.Write (span 1 2 1) 0x1234)
  pub kill : heard_of (0xC4 ∷ 0x56 ∷ 0x78 ∷ 0x15 ∷ 0x79 ∷ 0xA6 ∷ 0x7A ∷ 0xC0 ∷ []) 59 ≡ said (order.Kill 0x5678)
  pub lock : heard_of (0xC5 ∷ 0xC0 ∷ 0x20 ∷ 0x0A ∷ 0xBC ∷ 0xD4 ∷ 0xEE ∷ 0x90 ∷ []) 60 ≡ said (order.Lock 0x300 0x200)
  pub access : heard_of (0xC6 ∷ 0x56 ∷ 0x78 ∷ 0xAB ∷ 0xCD ∷ 0xFA ∷ 0xA0 ∷ []) 56 ≡ said (order.Access 0x5678)
  pub block_write : heard_of (0xC7 ∷ 0xC1 ∷ 0x00 ∷ 0x84 ∷ 0x44 ∷ 0x48 ∷ 0x88 ∷ 0xAA ∷ 0xF3 ∷ 0x60 ∷ 0x45 ∷ 0x80 ∷ []) 90 ≡ said (order.BlockWrite (span 3 4 2) 26)
  pub block_erase : heard_of (0xC8 ∷ 0xC1 ∷ 0x00 ∷ 0xAA ∷ 0xF3 ∷ 0x7F ∷ 0xAF ∷ 0x40 ∷ []) 58 ≡ said (order.BlockErase (span 3 4 2))
  pub read_permalock : heard_of (0xC9 ∷ 0x00 ∷ 0x60 ∷ 0x00 ∷ 0x35 ∷ 0x79 ∷ 0xAB ∷ 0x31 ∷ 0xE0 ∷ []) 67 ≡ said (order.ReadPermalock 0 (span 3 0 1))
  pub permalock : heard_of (0xC9 ∷ 0x00 ∷ 0xE0 ∷ 0x00 ∷ 0x30 ∷ 0x00 ∷ 0x15 ∷ 0x79 ∷ 0xAE ∷ 0x7C ∷ 0x80 ∷ []) 83 ≡ said (order.Permalock 0 (span 3 0 1) 35)
  pub unknown : heard_of (0xCA ∷ 0xAB ∷ 0xCD ∷ 0x1B ∷ 0x30 ∷ []) 40 ≡ heard.refused 7
  pub long : heard_of reads 67 ≡ heard.refused 7
  pub short : heard_of reads 65 ≡ heard.refused 7
  pub beyond : heard_of (take 8 reads) 66 ≡ heard.refused 7
  pub none : heard_of [] 0 ≡ heard.refused 7
  pub fourth : heard_of (0xC2 ∷ 0xE0 ∷ 0x20 ∷ 0x20 ∷ 0x01 ∷ 0x41 ∷ 0x6A ∷ 0xF3 ∷ 0x40 ∷ 0xCD ∷ 0x40 ∷ []) 82 ≡ heard.refused 7
  pub wrong : heard_of (0xC1 ∷ 0xAB ∷ 0xCD ∷ 0xEB ∷ 0xC0 ∷ []) 40 ≡ heard.refused 8
  pub wrong_and_long : heard_of (0xC1 ∷ 0xAB ∷ 0xCD ∷ 0xEB ∷ 0xC0 ∷ 0 ∷ []) 41 ≡ heard.refused 7

pub cases : Cases
unfolding heard_of checksum_right pointer_at field_at crc_of
cases = record {
  nak = refl;
  nak_long = refl;
  req_rn = refl;
  read = refl;
  write = refl;
  kill = refl;
  lock = refl;
  access = refl;
  block_write = refl;
  block_erase = refl;
  read_permalock = refl;
  permalock = refl;
  unknown = refl;
  long = refl;
  short = refl;
  beyond = refl;
  none = refl;
  fourth = refl;
  wrong = refl;
  wrong_and_long = refl;
}

-- an order to every tag, which has no number
abbrev to_tags : Order → Message
to_tags o = heard.said (record { number = 0; order = o })

-- Query: Sel 10, session 3, target B, Q = 9, with DR, M and TRext set
abbrev queries : List ℕ
queries = 0x8D ∷ 0xBC ∷ 0x80 ∷ []

-- Select of SL: 30340257h from bit 32 of EPC on; and 255 bits of USER from bit 1FFFFFh on, a pointer of 21 bits
abbrev selects : List ℕ
selects = 0xA8 ∷ 0x12 ∷ 0x02 ∷ 0x03 ∷ 0x03 ∷ 0x40 ∷ 0x25 ∷ 0x75 ∷ 0x45 ∷ 0x48 ∷ []

abbrev longest : List ℕ
longest = 0xA9 ∷ 0xFF ∷ 0xFF ∷ 0xF7 ∷ 0xFF ∷ 0xF1 ∷ 0xC7 ∷ 0x1C ∷ 0x71 ∷ 0xC7 ∷ 0x1C ∷ 0x71 ∷ 0xC7 ∷ 0x1C ∷ 0x71 ∷ 0xC7 ∷ 0x1C ∷ 0x71 ∷ 0xC7 ∷ 0x1C ∷ 0x71 ∷ 0xC7 ∷ 0x1C ∷ 0x71 ∷ 0xC7 ∷ 0x1C ∷ 0x71 ∷ 0xC7 ∷ 0x1C ∷ 0x71 ∷ 0xC7 ∷ 0x1C ∷ 0x71 ∷ 0xC7 ∷ 0x1C ∷ 0x71 ∷ 0xC7 ∷ 0x09 ∷ 0x57 ∷ 0x90 ∷ []

abbrev choice : ℕ → ℕ → Span → ℕ → Choice
choice target action bits truncate = record { target = target; action = action; bits = bits; truncate = truncate }

-- the frames of inventory: each of the five, and their edges
pub record Rounds : Type 0 where
  pub query_rep : heard_of (0x30 ∷ []) 4 ≡ to_tags (order.QueryRep 3)
  pub spare : heard_of (0x3F ∷ []) 4 ≡ to_tags (order.QueryRep 3)
  pub ack : heard_of (0x6A ∷ 0xF3 ∷ 0x40 ∷ []) 18 ≡ to_tags (order.Ack 0xABCD)
  pub query : heard_of queries 22 ≡ to_tags (order.Query 2 1 (record { session = 3; q = 9 }))
  pub query_adjust : heard_of (0x97 ∷ 0x00 ∷ []) 9 ≡ to_tags (order.QueryAdjust 1 6)
  pub select : heard_of selects 77 ≡ to_tags (order.Select (choice 4 0 (span 1 32 32) 0) 28)
  pub select_truncate : heard_of (0xA6 ∷ 0x90 ∷ 0x50 ∷ 0x9F ∷ 0xFD ∷ 0x97 ∷ 0x44 ∷ []) 54 ≡ to_tags (order.Select (choice 3 2 (span 1 5 9) 1) 28)
  pub select_longest : heard_of longest 316 ≡ to_tags (order.Select (choice 4 7 (span 3 0x1FFFFF 255) 0) 44)
  -- 7: other lengths, a mask cut off, a pointer of four bytes, and codes of no command
  pub bits_0 : heard_of (0x30 ∷ []) 0 ≡ heard.refused 7
  pub bits_3 : heard_of (0x30 ∷ []) 3 ≡ heard.refused 7
  pub bits_5 : heard_of (0x30 ∷ []) 5 ≡ heard.refused 7
  pub beyond : heard_of [] 4 ≡ heard.refused 7
  pub ack_17 : heard_of (0x6A ∷ 0xF3 ∷ 0x40 ∷ []) 17 ≡ heard.refused 7
  pub ack_19 : heard_of (0x6A ∷ 0xF3 ∷ 0x40 ∷ []) 19 ≡ heard.refused 7
  pub query_21 : heard_of queries 21 ≡ heard.refused 7
  pub query_23 : heard_of queries 23 ≡ heard.refused 7
  pub query_adjust_8 : heard_of (0x95 ∷ []) 8 ≡ heard.refused 7
  pub query_adjust_10 : heard_of (0x97 ∷ 0x00 ∷ []) 10 ≡ heard.refused 7
  pub select_cut : heard_of selects 40 ≡ heard.refused 7
  pub select_short : heard_of selects 76 ≡ heard.refused 7
  pub select_long : heard_of selects 78 ≡ heard.refused 7
  pub select_fourth : heard_of (0xA8 ∷ 0x18 ∷ 0x08 ∷ 0x08 ∷ 0x00 ∷ 0x10 ∷ 0x3A ∷ 0x5C ∷ 0xD1 ∷ []) 72 ≡ heard.refused 7
  pub code_1011 : heard_of (0xB0 ∷ []) 8 ≡ heard.refused 7
  pub code_111 : heard_of (0xE0 ∷ []) 8 ≡ heard.refused 7
  -- 8: a wrong CRC-5, and a wrong CRC-16; but 7 comes first
  pub query_wrong : heard_of (0x8D ∷ 0xBC ∷ 0x84 ∷ []) 22 ≡ heard.refused 8
  pub query_wrong_and_long : heard_of (0x8D ∷ 0xBC ∷ 0x84 ∷ []) 23 ≡ heard.refused 7
  pub select_wrong : heard_of (0xA8 ∷ 0x12 ∷ 0x02 ∷ 0x03 ∷ 0x03 ∷ 0x40 ∷ 0x25 ∷ 0x75 ∷ 0x45 ∷ 0x40 ∷ []) 77 ≡ heard.refused 8

pub rounds : Rounds
unfolding heard_of checksum_right checksum5_right pointer_at field_at crc_of crc5_of
rounds = record {
  query_rep = refl;
  spare = refl;
  ack = refl;
  query = refl;
  query_adjust = refl;
  select = refl;
  select_truncate = refl;
  select_longest = refl;
  bits_0 = refl;
  bits_3 = refl;
  bits_5 = refl;
  beyond = refl;
  ack_17 = refl;
  ack_19 = refl;
  query_21 = refl;
  query_23 = refl;
  query_adjust_8 = refl;
  query_adjust_10 = refl;
  select_cut = refl;
  select_short = refl;
  select_long = refl;
  select_fourth = refl;
  code_1011 = refl;
  code_111 = refl;
  query_wrong = refl;
  query_wrong_and_long = refl;
  select_wrong = refl;
}
