-- THE TAG'S REPLIES as a depot reads them, and nothing else (RULES 12.7 and 12.8). Proof: `reads_so` in proofs/Readings. Assumes nothing.
use Rattle.std.specs.Prelude.{ℕ, ◌+◌, ◌*◌, ◌/◌, ◌≤◌, ◌<◌, ◌≡◌, ◌⊎◌, true, Option, Some, List, length}
use Rattle.bits.specs.Words.{word_at}
use Rattle.bits.specs.Bits.{bits_from, words_bits}
use Rattle.replies.specs.declared.Reply.{Reply}
use Rattle.replies.specs.declared.Reply.TheVariants as reply
use Rattle.replies.specs.Replies.{reply_bits}
use Rattle.replies.specs.Pack.{packed}
use Rattle.depot.specs.declared.Command.{Command}
use Rattle.readings.specs.declared.Awaited.{Awaited}
use Rattle.readings.specs.declared.Awaited.TheVariants as await
use Rattle.depot.specs.Limits.{within}
use Rattle.readings.specs.Reading.{Told}
use Rattle.depot.specs.Reading.{awaited_by, read_of}
use Rattle.readings.specs.Reading as told

-- what a reply of the tag says; silence has no bits to read, which is 8
abbrev pub meant : Reply → Told
meant reply.Silence = told.refused 8
meant (reply.Number w) = told.number w
meant (reply.Success h) = told.done
meant (reply.Words i k h) = told.words k 1
meant (reply.Error e h) = told.error e
meant (reply.Drawn w) = told.number w
meant (reply.Epc i k) = told.words k 0

-- the replies to each kind of command, from a tag with the handle h and the image m
pub data Replies (m : List ℕ) (h : ℕ) : Option Awaited → Reply → Type 0 where
  silence : (a : Option Awaited) → Replies m h a reply.Silence
  drawn : (w : ℕ) → w < 65536 → Replies m h (Some await.Drawn) (reply.Drawn w)
  epc : (i : ℕ) → word_at m i < 65536 → Replies m h (Some await.Epc) (reply.Epc i (word_at m i / 2048 + 1))
  renewed : (w : ℕ) → w < 65536 → Replies m h (Some await.Renewed) (reply.Number w)
  handle : Replies m h (Some await.Handle) (reply.Number h)
  first-half : Replies m h (Some await.Half) (reply.Number h)
  second-half : Replies m h (Some await.Half) (reply.Success h)
  half-error : (e : ℕ) → e < 256 → Replies m h (Some await.Half) (reply.Error e h)
  success : Replies m h (Some await.Done) (reply.Success h)
  error : (e : ℕ) → e < 256 → Replies m h (Some await.Done) (reply.Error e h)
  words : (n i k : ℕ) → (n ≡ 0) ⊎ (n ≡ k) → 1 ≤ k → k ≤ 4096 → Replies m h (Some (await.Words n)) (reply.Words i k h)
  words-error : (n e : ℕ) → e < 256 → Replies m h (Some (await.Words n)) (reply.Error e h)

abbrev pub IsRefused : Told → Type 0
IsRefused (told.error e) = ⊥
IsRefused (told.words k i) = ⊥
IsRefused (told.number w) = ⊥
IsRefused told.done = ⊥
IsRefused (told.refused k) = Unit {0}

-- a command c with its payload d, and the number h that it carried
pub record Read (c : Command) (d : List ℕ) (h : ℕ) : Type 0 where
  -- each reply, in whatever room holds it, is read as what it says
  pub as_meant : (m room : List ℕ) (r : Reply) → Replies m h (awaited_by c) r → length (reply_bits m r) ≤ 8 * length room
      → read_of c d h (length (reply_bits m r)) (packed (reply_bits m r) room) ≡ meant r
  -- what is read is a reply to this command, with this handle: its bits are the bits of one that says just that
  pub only : (n : ℕ) (b : List ℕ) → (IsRefused (read_of c d h n b) → ⊥)
      → (m : List ℕ) × (r : Reply) × Replies m h (awaited_by c) r × (read_of c d h n b ≡ meant r) × (bits_from b 0 n ≡ reply_bits m r)
  -- replies that look alike say the same
  pub apart : (m n : List ℕ) (r s : Reply) → Replies m h (awaited_by c) r → Replies n h (awaited_by c) s → reply_bits m r ≡ reply_bits n s → meant r ≡ meant s
  -- bits and bytes past the count mean nothing
  pub past : (n : ℕ) (a b : List ℕ) → bits_from a 0 n ≡ bits_from b 0 n → n ≤ 8 * length a → n ≤ 8 * length b → read_of c d h n a ≡ read_of c d h n b

-- of every command within the limits; and the words of a reply stand where reading says
pub record Reads : Type 0 where
  pub read_so : (c : Command) (d : List ℕ) (h : ℕ) → within c (length d) ≡ true → h < 65536 → Read c d h
  pub its_words : (m room : List ℕ) (i k h : ℕ) → length (reply_bits m (reply.Words i k h)) ≤ 8 * length room
      → bits_from (packed (reply_bits m (reply.Words i k h)) room) 1 (16 * k) ≡ words_bits m i k
  pub its_epc : (m room : List ℕ) (i k : ℕ) → length (reply_bits m (reply.Epc i k)) ≤ 8 * length room
      → bits_from (packed (reply_bits m (reply.Epc i k)) room) 0 (16 * k) ≡ words_bits m i k
