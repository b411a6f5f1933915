-- What the code makes on the way: bytes of numbers, numbers one bit late. Assumes nothing.
use Rattle.std.specs.Prelude.{ℕ, zero, suc, ◌+◌, ◌*◌, ◌/◌, ◌%◌, ◌^◌, List, set}
use Rattle.replies.specs.declared.Reply.{Reply}
use Rattle.replies.specs.Replies.{reply_length}

-- the bytes that a reply takes
abbrev pub reply_bytes : Reply → ℕ
reply_bytes r = (reply_length r + 7) / 8

-- a room with the k low bytes of v from byte i on, the highest first
unfoldable pub with_bytes : ℕ → List ℕ → ℕ → ℕ → List ℕ
with_bytes zero room i v = room
with_bytes (suc k) room i v = set (with_bytes k room i (v / 256)) (i + k) (v % 256)

-- w, of n + 1 bits, one bit late: the last bit of what stands before it, and w without its own
abbrev pub late : ℕ → ℕ → ℕ → ℕ
late n before w = before % 2 * 2 ^ n + w / 2

-- a room with a handle and a CRC-16 one bit late from byte i on, and the bit that is left
unfoldable pub ended : List ℕ → ℕ → ℕ → ℕ → ℕ → List ℕ
ended room i before handle sum = set (with_bytes 4 room i (late 31 before (handle * 65536 + sum))) (i + 4) (sum % 2 * 128)
