-- What the library's copies and fills leave of a room: bytes of a number, words of an image, zeros. Assumes nothing.
use Prim.Native.Nat.{ℕ, zero, suc, ◌+◌, ◌*◌, ◌/◌, ◌%◌, ◌^◌, ◌<◌, ◌≤◌}
use mathlib.Core.Path.{◌≡◌, refl, sym, ap, ap₂, ◌∙◌}
use mathlib.Core.List.{List, [], ◌∷◌, ◌++◌}
use native.Mathlib.Nat.{div-one, pow-suc}
use native.Mathlib.Numerals.{add-one}
use native.Mathlib.Omega.{arith}
use lib.ListN.{length, get_or, take, drop, set, replicate, length-set, length-drop}
use lib.Seq.{get_or-drop, drop-drop, paste}
use lib.Pow.{pow-add}
use Rattle.std.proofs.lemmas.List.{take_more, length-take-le}
use Rattle.std.proofs.lemmas.List.Edits.{fill_more, paste_all}
use borrow.Rule.Slice.PartMut.{put_mid}
use Rattle.std.specs.Int.{byte_at, bytes_high_first}
use Rattle.bits.specs.Words.{with_word}
use Rattle.bits.specs.Bits.{words_bits, bits_from}
use Rattle.bits.proofs.Bits.{words-bits}
use Rattle.replies.specs.Pack.{packed}
use Rattle.replies.specs.Steps.{with_bytes}
use Rattle.replies.proofs.Laws.{packed_none}
use Rattle.replies.proofs.Packing.{bytes-split, byte-copied, byte-zeroed}

-- one byte more of a part that is written
one-put : (i k : ℕ) (room : List ℕ) (b : ℕ) (ys : List ℕ) → i < length room → put_mid i (suc k) room (b ∷ ys) ≡ put_mid (suc i) k (set room i b) ys
one-put i k [] b ys h = absurd (omega arith)
one-put zero k (x ∷ room) b ys h = refl
one-put (suc i) k (x ∷ room) b ys h = ap (λ (l : List ℕ). x ∷ l) (one-put i k room b ys (omega arith))

none-put : (i : ℕ) (room : List ℕ) → put_mid i 0 room [] ≡ room
none-put zero room = refl
none-put (suc i) [] = refl
none-put (suc i) (x ∷ room) = ap (λ (l : List ℕ). x ∷ l) (none-put i room)

-- the highest of k + 1 bytes
bytes-pow : (n : ℕ) → 256 ^ n ≡ 2 ^ (8 * n)
bytes-pow zero = refl
bytes-pow (suc n) =
    let e : 8 * suc n ≡ 8 * n + 8 = omega arith in
    pow-suc 256 n ∙ ap (λ (x : ℕ). x * 256) (bytes-pow n) ∙ sym (ap (λ (x : ℕ). 2 ^ x) e ∙ pow-add 2 (8 * n) 8)

highest : (k v : ℕ) → byte_at k v ≡ v / 2 ^ (8 * k) % 256
highest zero v = ap (λ (x : ℕ). x % 256) (sym (div-one v))
highest (suc k) v = ap (λ (x : ℕ). v / x % 256) (bytes-pow (suc k))

from-front : (k i v : ℕ) (room : List ℕ) → with_bytes (suc k) room i v ≡ with_bytes k (set room i (byte_at k v)) (suc i) v
unfolding with_bytes
from-front k i v room =
    let e : suc k ≡ 1 + k = omega arith in
    let z : i + 0 ≡ i = omega arith in
    ap (λ (n : ℕ). with_bytes n room i v) e
    ∙ bytes-split 1 k room i v
    ∙ rw (z, add-one i, highest k v)

put-bytes : (k i v : ℕ) (room : List ℕ) → i + k ≤ length room → put_mid i k room (bytes_high_first k v) ≡ with_bytes k room i v
unfolding with_bytes
put-bytes zero i v room h = none-put i room
put-bytes (suc k) i v room h =
    one-put i k room (byte_at k v) (bytes_high_first k v) (omega arith)
    ∙ put-bytes k (suc i) v (set room i (byte_at k v)) (rw length-set (omega arith))
    ∙ sym (from-front k i v room)

-- the k bytes of a number, the highest first, copied over a room from byte i on
pub stored : (k i v : ℕ) (room : List ℕ) {ys : List ℕ} {n : ℕ} → ys ≡ bytes_high_first k v → n ≡ k → i + k ≤ length room → put_mid i n room ys ≡ with_bytes k room i v
stored k i v room e f h = ap₂ (λ (n : ℕ) (ys : List ℕ). put_mid i n room ys) f e ∙ put-bytes k i v room h

-- a word stored as two bytes
pub word-bytes : (room : List ℕ) (j w : ℕ) → w < 65536 → with_word room j w ≡ with_bytes 2 room (2 * j) w
unfolding with_word with_bytes
word-bytes room j w h =
    let z : 2 * j + 0 ≡ 2 * j = omega arith in
    let high : w / 256 % 256 ≡ w / 256 = omega arith in
    rw (z, high)

-- the same, copied byte by byte
length-high : (k v : ℕ) → length (bytes_high_first k v) ≡ k
length-high zero v = refl
length-high (suc k) v = ap suc (length-high k v)

pub pasted : (k i v : ℕ) (room : List ℕ) {ys : List ℕ} → ys ≡ bytes_high_first k v → i + k ≤ length room → paste room i ys k ≡ with_bytes k room i v
pasted k i v room e h =
    ap (λ (ys : List ℕ). paste room i ys k) e
    ∙ paste_all room i (bytes_high_first k v) k (sym (length-high k v))
    ∙ ap (λ (l : List ℕ). take i room ++ (bytes_high_first k v ++ l)) (sym (drop-drop k i room))
    ∙ put-bytes k i v room h

-- one byte more at a room's front
front-more : (ys : List ℕ) (y : ℕ) (room : List ℕ) → length ys < length room → set (ys ++ drop (length ys) room) (length ys) y ≡ (ys ++ y ∷ []) ++ drop (suc (length ys)) room
front-more ys y [] h = absurd (omega arith)
front-more [] y (x ∷ room) h = refl
front-more (a ∷ ys) y (x ∷ room) h = ap (λ (l : List ℕ). a ∷ l) (front-more ys y room (omega arith))

-- k bytes of an image, and as many bytes of 0, at a room's front
module _ (m : List ℕ) (known : (i : ℕ) → get_or m i 0 < 256) (from : ℕ) (room : List ℕ) where
  bytes-copied : (k : ℕ) → 2 * from + k ≤ length m → k ≤ length room → take k (drop (2 * from) m) ++ drop k room ≡ packed (bits_from m (16 * from) (8 * k)) room
  bytes-copied zero h f = sym (packed_none room)
  bytes-copied (suc k) h f =
      let part = drop (2 * from) m in
      let inside : k < length part = rw (length-drop (2 * from) m) (omega arith) in
      let long : length (take k part) ≡ k = length-take-le k part (omega arith) in
      let one : suc k ≡ k + 1 = omega arith in
      let here : get_or part k 0 ≡ get_or m (2 * from + k) 0 = get_or-drop (2 * from) m k 0 in
      let more : take (suc k) part ≡ take k part ++ get_or part k 0 ∷ [] = rw one (take_more part k 0 inside) in
      let next : set (take k part ++ drop k room) k (get_or part k 0) ≡ (take k part ++ get_or part k 0 ∷ []) ++ drop (suc k) room = rw long at (front-more (take k part) (get_or part k 0) room (rw long (omega arith))) in
      ap (λ (l : List ℕ). l ++ drop (suc k) room) more
      ∙ sym next
      ∙ ap (set (take k part ++ drop k room) k) here
      ∙ byte-copied m from k room (known (2 * from + k)) (bytes-copied k (omega arith) (omega arith))
      ∙ ap (λ (n : ℕ). packed (bits_from m (16 * from) (8 * n)) room) (sym one)

  pub copied : (count : ℕ) {n : ℕ} {ys : List ℕ} → 2 * (from + count) ≤ length m → 2 * count ≤ length room → n ≡ 2 * count → ys ≡ take n (drop (2 * from) m)
      → ys ++ drop (2 * count) room ≡ packed (words_bits m from count) room
  copied count h f n e =
      let z : 8 * (2 * count) ≡ 16 * count = omega arith in
      ap (λ (l : List ℕ). l ++ drop (2 * count) room) (e ∙ ap (λ (k : ℕ). take k (drop (2 * from) m)) n)
      ∙ bytes-copied (2 * count) (omega arith) f
      ∙ ap (λ (bs : List ℕ). packed bs room) (ap (bits_from m (16 * from)) z ∙ words-bits m from count known)

bytes-zeroed : (room : List ℕ) (k : ℕ) → k ≤ length room → replicate k 0 ++ drop k room ≡ packed (replicate (8 * k) 0) room
bytes-zeroed room zero h = sym (packed_none room)
bytes-zeroed room (suc k) h =
    let one : suc k ≡ k + 1 = omega arith in
    ap (λ (n : ℕ). replicate n 0 ++ drop n room) one
    ∙ sym (fill_more k 0 room (omega arith))
    ∙ byte-zeroed k room (bytes-zeroed room k (omega arith))
    ∙ ap (λ (n : ℕ). packed (replicate (8 * n) 0) room) (sym one)

pub zeroed : (room : List ℕ) (count : ℕ) {ys : List ℕ} → 2 * count ≤ length room → ys ≡ replicate (2 * count) 0 → ys ++ drop (2 * count) room ≡ packed (replicate (16 * count) 0) room
zeroed room count h e =
    let z : 8 * (2 * count) ≡ 16 * count = omega arith in
    ap (λ (l : List ℕ). l ++ drop (2 * count) room) e ∙ bytes-zeroed room (2 * count) h ∙ ap (λ (n : ℕ). packed (replicate n 0) room) z
