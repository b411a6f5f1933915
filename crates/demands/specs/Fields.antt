-- What a frame's bits say (RULES 3.6 to 3.8 and 11.1), as facts: codes, places and lengths of each command, and EBV-8 pointers group by group.
-- Assumes nothing.
use Rattle.std.specs.Prelude.{ℕ, ◌+◌, ◌-◌, ◌*◌, ◌≤◌, ◌<◌, ◌≡◌, ◌≢◌, ◌⊎◌, List, length}
use Rattle.bits.specs.Bits.{field_at, bits_from}
use Rattle.ebv.specs.Ebv.{pointer_at}
use Rattle.ebv.specs.Ebv as pointer
use Rattle.frames.specs.declared.Order.{Order}
use Rattle.frames.specs.declared.Order.TheVariants as order
use Rattle.frames.specs.Message as heard
use Rattle.frames.specs.Frames.{span, heard_of}
use Rattle.crc.specs.Crc.{crc_of}
use Rattle.crc.specs.Crc5.{crc5_of}

-- a frame's last 16 bits are the CRC-16 of those before them
abbrev pub Summed : List ℕ → ℕ → Type 0
Summed f n = field_at f (n - 16) 16 ≡ crc_of (bits_from f 0 (n - 16))

-- the frame of n bits is the order o where n is k and the CRC-16 is right, its number standing before the CRC-16; with another length it is
-- 7, with this one and a wrong CRC-16 it is 8
pub record Takes (f : List ℕ) (n k : ℕ) (o : Order) : Type 0 where
  pub right : n ≡ k → Summed f n → heard_of f n ≡ heard.said (record { number = field_at f (k - 32) 16; order = o })
  pub length : n ≢ k → heard_of f n ≡ heard.refused 7
  pub checksum : n ≡ k → (Summed f n → ⊥) → heard_of f n ≡ heard.refused 8

-- a frame of k bits without a CRC; and one with a checksum and no number
pub record Plain (f : List ℕ) (n k : ℕ) (o : Order) : Type 0 where
  pub right : n ≡ k → heard_of f n ≡ heard.said (record { number = 0; order = o })
  pub length : n ≢ k → heard_of f n ≡ heard.refused 7

pub record Checked (f : List ℕ) (n k : ℕ) (sum : Type 0) (o : Order) : Type 0 where
  pub right : n ≡ k → sum → heard_of f n ≡ heard.said (record { number = 0; order = o })
  pub length : n ≢ k → heard_of f n ≡ heard.refused 7
  pub checksum : n ≡ k → (sum → ⊥) → heard_of f n ≡ heard.refused 8

-- after a pointer at bit i of the value p in e bytes; without one it is 7
abbrev pub After : List ℕ → ℕ → ℕ → (ℕ → ℕ → Type 0) → Type 0
After f n i P = ((p e : ℕ) → pointer_at f n i ≡ pointer.whole p e → P p e)
    × (pointer_at f n i ≡ pointer.refused 7 → heard_of f n ≡ heard.refused 7)

-- a frame of n bits, at least 4, in bytes that hold them; the first two, four or eight are its code
pub record Coded (f : List ℕ) (n : ℕ) : Type 0 where
  pub query_rep : field_at f 0 2 ≡ 0 → Plain f n 4 (order.QueryRep (field_at f 2 2))
  pub ack : field_at f 0 2 ≡ 1 → Plain f n 18 (order.Ack (field_at f 2 16))
  -- DR, M and TRext, four bits, are read over; then Sel, session, target and Q; the CRC-5 covers them all
  pub query : field_at f 0 4 ≡ 8
      → Checked f n 22 (field_at f 17 5 ≡ crc5_of (bits_from f 0 17))
      (order.Query (field_at f 8 2) (field_at f 12 1) (record { session = field_at f 10 2; q = field_at f 13 4 }))
  pub query_adjust : field_at f 0 4 ≡ 9 → Plain f n 9 (order.QueryAdjust (field_at f 4 2) (field_at f 6 3))
  -- target, action, bank, pointer, length, the mask and the truncate bit
  pub select : field_at f 0 4 ≡ 10
      → After f n 12 (λ p e. let l = field_at f (12 + 8 * e) 8 in
      Checked f n (37 + 8 * e + l) (Summed f n)
      (order.Select (record { target = field_at f 4 3; action = field_at f 7 3; bits = span (field_at f 10 2) p l; truncate = field_at f (20 + 8 * e + l) 1 })
      (20 + 8 * e)))
  pub nak : field_at f 0 8 ≡ 0xC0 → Plain f n 8 order.Nak
  pub req_rn : field_at f 0 8 ≡ 0xC1 → Takes f n 40 order.ReqRn
  pub read : field_at f 0 8 ≡ 0xC2
      → After f n 10 (λ p e. Takes f n (50 + 8 * e) (order.Read (span (field_at f 8 2) p (field_at f (10 + 8 * e) 8))))
  pub write : field_at f 0 8 ≡ 0xC3
      → After f n 10 (λ p e. Takes f n (58 + 8 * e) (order.Write (span (field_at f 8 2) p 1) (field_at f (10 + 8 * e) 16)))
  pub kill : field_at f 0 8 ≡ 0xC4 → Takes f n 59 (order.Kill (field_at f 8 16))
  pub lock : field_at f 0 8 ≡ 0xC5 → Takes f n 60 (order.Lock (field_at f 8 10) (field_at f 18 10))
  pub access : field_at f 0 8 ≡ 0xC6 → Takes f n 56 (order.Access (field_at f 8 16))
  pub block_write : field_at f 0 8 ≡ 0xC7
      → After f n 10 (λ p e. let c = field_at f (10 + 8 * e) 8 in
      Takes f n (50 + 8 * e + 16 * c) (order.BlockWrite (span (field_at f 8 2) p c) (18 + 8 * e)))
  pub block_erase : field_at f 0 8 ≡ 0xC8
      → After f n 10 (λ p e. Takes f n (50 + 8 * e) (order.BlockErase (span (field_at f 8 2) p (field_at f (10 + 8 * e) 8))))
  -- an RFU byte, a bit that is 0 where it reads, bank, pointer and range; and where it locks the mask
  pub permalock_read : field_at f 0 8 ≡ 0xC9 → field_at f 16 1 ≡ 0
      → After f n 19 (λ p e. let s = span (field_at f 17 2) p (field_at f (19 + 8 * e) 8) in
      Takes f n (59 + 8 * e) (order.ReadPermalock (field_at f 8 8) s))
  pub permalock : field_at f 0 8 ≡ 0xC9 → field_at f 16 1 ≢ 0
      → After f n 19 (λ p e. let c = field_at f (19 + 8 * e) 8 in
      Takes f n (59 + 8 * e + 16 * c) (order.Permalock (field_at f 8 8) (span (field_at f 17 2) p c) (27 + 8 * e)))
  pub unknown : ((0xB0 ≤ field_at f 0 8) × (field_at f 0 8 < 0xC0)) ⊎ (0xC9 < field_at f 0 8) → heard_of f n ≡ heard.refused 7

-- groups of eight bits from bit i on, each but the last at least 80h: one to three, within the frame's n bits
pub record Groups (f : List ℕ) (n i : ℕ) : Type 0 where
  pub one : i + 8 ≤ n → field_at f i 8 < 128 → pointer_at f n i ≡ pointer.whole (field_at f i 8) 1
  pub two : i + 16 ≤ n → 128 ≤ field_at f i 8 → field_at f (i + 8) 8 < 128
      → pointer_at f n i ≡ pointer.whole ((field_at f i 8 - 128) * 128 + field_at f (i + 8) 8) 2
  pub three : i + 24 ≤ n → 128 ≤ field_at f i 8 → 128 ≤ field_at f (i + 8) 8 → field_at f (i + 16) 8 < 128
      → pointer_at f n i ≡ pointer.whole (((field_at f i 8 - 128) * 128 + (field_at f (i + 8) 8 - 128)) * 128 + field_at f (i + 16) 8) 3
  pub four : 128 ≤ field_at f i 8 → 128 ≤ field_at f (i + 8) 8 → 128 ≤ field_at f (i + 16) 8 → pointer_at f n i ≡ pointer.refused 7
  pub short : n < i + 8 → pointer_at f n i ≡ pointer.refused 7
  pub short_two : n < i + 16 → 128 ≤ field_at f i 8 → pointer_at f n i ≡ pointer.refused 7
  pub short_three : n < i + 24 → 128 ≤ field_at f i 8 → 128 ≤ field_at f (i + 8) 8 → pointer_at f n i ≡ pointer.refused 7

pub record Fields : Type 0 where
  pub coded : (f : List ℕ) (n : ℕ) → 4 ≤ n → n ≤ 8 * length f → Coded f n
  pub groups : (f : List ℕ) (n i : ℕ) → Groups f n i
  pub none : (f : List ℕ) (n : ℕ) → (n < 4) ⊎ (8 * length f < n) → heard_of f n ≡ heard.refused 7
