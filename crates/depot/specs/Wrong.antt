-- Wrong answers that the promises of making and reading rule out, computed (RULES 12.2 to 12.5). Assumes nothing.
use Rattle.std.specs.Prelude.{ℕ, ◌+◌, ◌≡◌, [], ◌∷◌, get_or, replicate}
use Rattle.std.proofs.Common.{sym, ap, ◌∙◌, arith}
use Rattle.depot.specs.declared.Command.TheVariants as command
use Rattle.depot.specs.Making.{Sent, sending}
use Rattle.readings.specs.Reading.{Told, error, words, number, done, refused}
use Rattle.depot.specs.Cases.{place, round, made, into, frames, pointers, rooms, beyond-no-room, told, fresh, success, refusals}

-- byte i of the room
abbrev byte : ℕ → Sent → ℕ
byte i s = get_or s.room i 0

-- what is read, as a number: a refusal by its own
abbrev kind : Told → ℕ
kind (error e) = 100
kind (words k i) = 200 + k
kind (number w) = 300
kind done = 400
kind (refused k) = k

-- a value that is one thing is no other that a number tells from it
module _ {A : Type 0} (f : A → ℕ) where
  other : (x a b : A) → x ≡ a → (f a ≡ f b → ⊥) → x ≡ b → ⊥
  other x a b e n w = n (ap f (sym e ∙ w))

-- MAKING: a Write sent uncovered, its CRC-16 right; and covered with a CRC-16 over the word uncovered
pub write-uncovered : made (command.Write (place 1 2) 0xEDCB) []
    ≡ sending 0 66 (0xC3 ∷ 0x40 ∷ 0xBB ∷ 0x72 ∷ 0xEA ∷ 0xF3 ∷ 0x6D ∷ 0xFC ∷ 0x80 ∷ replicate 3 0xAA) → ⊥
write-uncovered = other (byte 2) _ _ _ frames.write (λ z. omega (arith, z))

pub write-crc-before : made (command.Write (place 1 2) 0xEDCB) []
    ≡ sending 0 66 (0xC3 ∷ 0x40 ∷ 0x84 ∷ 0x8D ∷ 0x2A ∷ 0xF3 ∷ 0x6D ∷ 0xFC ∷ 0x80 ∷ replicate 3 0xAA) → ⊥
write-crc-before = other (byte 6) _ _ _ frames.write (λ z. omega (arith, z))

-- a pointer of 127 in two bytes
pub pointer-long : made (command.Read (place 3 127) 1) []
    ≡ sending 0 66 (0xC2 ∷ 0xE0 ∷ 0x1F ∷ 0xC0 ∷ 0x6A ∷ 0xF3 ∷ 0x65 ∷ 0xA0 ∷ 0x40 ∷ replicate 3 0xAA) → ⊥
pointer-long = other (λ s. s.bits) _ _ _ pointers.read_127 (λ z. omega (arith, z))

-- a frame that writes beyond its last byte, and one that leaves the spare bits of it
pub beyond-last : made command.Nak [] ≡ sending 0 8 (0xC0 ∷ 0x00 ∷ replicate 10 0xAA) → ⊥
beyond-last = other (byte 1) _ _ _ frames.nak (λ z. omega (arith, z))

pub spare-kept : into (command.QueryRep 3) (0xFF ∷ []) ≡ sending 0 4 (0x3F ∷ []) → ⊥
spare-kept = other (byte 0) _ _ _ rooms.last_byte (λ z. omega (arith, z))

-- 4 where it must be 9; and a refusal that changes a byte
pub room-first : into (command.QueryRep 4) [] ≡ sending 4 0 [] → ⊥
room-first = other (λ s. s.number) _ _ _ beyond-no-room (λ z. omega (arith, z))

pub refused-changes : into (command.Read (place 3 234) 5) (replicate 8 0x55) ≡ sending 4 0 (0xC2 ∷ replicate 7 0x55) → ⊥
refused-changes = other (byte 0) _ _ _ rooms.short (λ z. omega (arith, z))

-- READING: a success of 33 bits as the words of a Read that asks for 0
pub done-read : told (command.Read (place 3 0) 0) [] 33 success ≡ words 0 1 → ⊥
done-read = other kind _ _ _ refusals.done_as_words (λ z. omega (arith, z))

-- an error with another tag's handle, and another tag's success
pub error_other : told (command.Read (place 3 0) 0) [] 41 (0x82 ∷ 0x5F ∷ 0x77 ∷ 0x7E ∷ 0xB8 ∷ 0x00 ∷ []) ≡ error 0x04 → ⊥
error_other = other kind _ _ _ refusals.error_other (λ z. omega (arith, z))

pub done_other : told (command.Write (place 1 2) 0x1234) [] 33 (0x5F ∷ 0x77 ∷ 0x72 ∷ 0x01 ∷ 0x80 ∷ []) ≡ done → ⊥
done_other = other kind _ _ _ refusals.done_other (λ z. omega (arith, z))

-- a reply with a wrong CRC-16
pub wrong-read : told (command.Access 0x1234) [] 32 (0xBE ∷ 0xEF ∷ 0xD3 ∷ 0x32 ∷ []) ≡ number 0xBEEF → ⊥
wrong-read = other kind _ _ _ refusals.wrong (λ z. omega (arith, z))

-- 15 where it must be 8, 8 where it must be 15, and 8 where it must be 9
pub other-first : told (command.Write (place 1 2) 0x1234) [] 34 success ≡ refused 15 → ⊥
other-first = other kind _ _ _ refusals.wrong_long (λ z. omega (arith, z))

pub drawn_checked : told (command.Query (round 0 0 0 0 0 0 0)) [] 32 fresh ≡ refused 8 → ⊥
drawn_checked = other kind _ _ _ refusals.drawn_checked (λ z. omega (arith, z))

pub checksum-first : told (command.Read (place 4 0) 0) [] 15 [] ≡ refused 8 → ⊥
checksum-first = other kind _ _ _ refusals.beyond_short (λ z. omega (arith, z))
