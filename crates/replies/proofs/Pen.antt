-- Bits written one bit late, with the CRC-16's register beside them. Assumes nothing.
use Prim.Native.Nat.{ℕ, suc, ◌+◌, ◌-◌, ◌*◌, ◌/◌, ◌%◌, ◌^◌, ◌<◌, ◌≤◌}
use mathlib.Core.Path.{◌≡◌, refl, sym, ap, ap₂, ◌∙◌}
use mathlib.Core.List.{List, [], ◌∷◌, ◌++◌, append_assoc}
use native.Mathlib.Numerals.{add-one}
use native.Mathlib.Omega.{arith}
use lib.ListN.{length, get_or, set, length-append}
use Rattle.bits.specs.Words.{word_at}
use Rattle.bits.specs.Bits.{bits_of, bits_from, field_at}
use Rattle.bits.proofs.Bits.{length-bits}
use Rattle.bits.proofs.Digits.{bits-join, bits-late}
use Rattle.crc.specs.Crc.{run, crc_of}
use Rattle.crc.proofs.Runs.{run-append}
use Rattle.replies.specs.Pack.{filled, packed}
use Rattle.replies.specs.Replies.{checked}
use Rattle.bits.specs.Bits.{words_bits}
use Rattle.replies.specs.Steps.{with_bytes, late, ended}
use Rattle.bits.proofs.Fields.{field_lt, words-four}
use Rattle.replies.proofs.Laws.{packed_none, length-words, bits-words, all_shown}
use Rattle.replies.proofs.Packing.{next, next-bytes}

-- the bits so far: all but the last, which is that of `before`, fill the i first bytes of the room; the register has seen them all
pub record Pen (bits first room : List ℕ) (i before register : ℕ) : Type 0 where
  pub whole : List ℕ
  pub full : length whole ≡ 8 * i
  pub ends : bits ≡ whole ++ (before % 2 ∷ [])
  pub stands : room ≡ packed whole first
  pub seen : register ≡ run 0xFFFF bits

pub begun : (b : ℕ) (room : List ℕ) {r : ℕ} → r ≡ run 0xFFFF (b % 2 ∷ []) → Pen (b % 2 ∷ []) room room 0 b r
begun b room e = record { whole = []; full = refl; ends = refl; stands = sym (packed_none room); seen = e }

-- k bytes more
pub wrote : {bits first room : List ℕ} {i before r : ℕ} → Pen bits first room i before r → (n k w : ℕ) {s : ℕ} → suc n ≡ 8 * k → w < 2 ^ suc n
    → s ≡ run r (bits_of (suc n) w) → Pen (bits ++ bits_of (suc n) w) first (with_bytes k room i (late n before w)) (i + k) w s
wrote {bits} {first} {room} {i} {before} p n k w e h q =
    record {
      whole = p.whole ++ bits_of (suc n) (late n before w);
      full = simp (length-append, length-bits) (omega (arith, p.full));
      ends =
          ap (λ (l : List ℕ). l ++ bits_of (suc n) w) p.ends
          ∙ append_assoc p.whole (before % 2 ∷ []) (bits_of (suc n) w)
          ∙ ap (λ (l : List ℕ). p.whole ++ l) (bits-late n before w h)
          ∙ sym (append_assoc p.whole (bits_of (suc n) (late n before w)) (w % 2 ∷ []));
      stands =
          ap (λ (l : List ℕ). with_bytes k l i (late n before w)) p.stands
          ∙ sym (next-bytes k i p.whole (late n before w) first p.full)
          ∙ ap (λ (j : ℕ). packed (p.whole ++ bits_of j (late n before w)) first) (sym e);
      seen = q ∙ ap (λ (x : ℕ). run x (bits_of (suc n) w)) p.seen ∙ sym (run-append 0xFFFF bits (bits_of (suc n) w));
    }

-- the last bit, in a byte of its own
closed : {bits first room : List ℕ} {i before r : ℕ} → Pen bits first room i before r → set room i (before % 2 * 128) ≡ packed bits first
unfolding filled
closed {bits} {first} {room} {i} {before} p =
    let e : before % 2 * 128 ≡ before % 2 * 128 + 0 = omega arith in
    ap₂ (λ (l : List ℕ) (x : ℕ). set l i x) p.stands e
    ∙ sym (ap (λ (l : List ℕ). packed l first) p.ends ∙ next i p.whole (before % 2) [] first p.full (omega arith))

-- the handle and the CRC-16 behind the bits so far
pub all_told : {bits first room : List ℕ} {i before r h : ℕ} → Pen bits first room i before r → h < 65536
    → ended room i before h (65535 - run r (bits_of 16 h)) ≡ packed (checked (bits ++ bits_of 16 h)) first
unfolding ended checked crc_of
all_told {bits} {first} {room} {i} {before} {r} {h} p l =
    let sum = 65535 - run r (bits_of 16 h) in
    let w = h * 65536 + sum in
    let seen : run r (bits_of 16 h) ≡ run 0xFFFF (bits ++ bits_of 16 h) = rw p.seen (sym (run-append 0xFFFF bits (bits_of 16 h))) in
    let last : w % 2 ≡ sum % 2 = omega arith in
    let both : bits ++ bits_of 32 w ≡ (bits ++ bits_of 16 h) ++ bits_of 16 sum = ap (λ (bs : List ℕ). bits ++ bs) (bits-join 16 16 h sum (omega arith)) ∙ sym (append_assoc bits (bits_of 16 h) (bits_of 16 sum)) in
    ap (λ (x : ℕ). set (with_bytes 4 room i (late 31 before w)) (i + 4) (x * 128)) (sym last)
    ∙ closed (wrote p 31 4 w refl (omega arith) refl)
    ∙ ap (λ (bs : List ℕ). packed bs first) (both ∙ ap (λ (x : ℕ). (bits ++ bits_of 16 h) ++ bits_of 16 (65535 - x)) seen)

-- a 1 and a code
pub flagged : (code : ℕ) (room : List ℕ) {r : ℕ} → code < 256 → r ≡ run 0xFFFF (1 ∷ bits_of 8 code) → Pen (1 ∷ bits_of 8 code) room (set room 0 (128 + code / 2)) 1 code r
unfolding with_bytes
flagged code room h e =
    let s : (128 + code / 2) % 256 ≡ 128 + code / 2 = omega arith in
    rw s at (wrote (begun 1 room refl) 7 1 code refl h e)

-- a number and its CRC-16
pub numbered : (n : ℕ) (room : List ℕ) → n < 65536 → with_bytes 4 room 0 (n * 65536 + (65535 - run 0xFFFF (bits_of 16 n))) ≡ packed (checked (bits_of 16 n)) room
unfolding checked crc_of
numbered n room h =
    let sum = 65535 - run 0xFFFF (bits_of 16 n) in
    ap (λ (l : List ℕ). with_bytes 4 l 0 (n * 65536 + sum)) (sym (packed_none room))
    ∙ sym (next-bytes 4 0 [] (n * 65536 + sum) room refl)
    ∙ ap (λ (bs : List ℕ). packed bs room) (bits-join 16 16 n sum (omega arith))

-- the words of an image behind a 0, the first j of them written
abbrev pub Sent : List ℕ → ℕ → ℕ → List ℕ → List ℕ → ℕ → ℕ → Type 0
Sent m from j first room before register = Pen (0 ∷ words_bits m from j) first room (2 * j) before register

-- one word more
pub one_more : (m : List ℕ) (from j : ℕ) {first room : List ℕ} {before r w s : ℕ} → Sent m from j first room before r → w ≡ word_at m (from + j) → w < 65536
    → s ≡ run r (bits_of 16 w) → Sent m from (j + 1) first (with_bytes 2 room (2 * j) (late 15 before w)) w s
unfolding words_bits
one_more m from j {w = w} p e h q =
    let n : 2 * (j + 1) ≡ 2 * j + 2 = omega arith in
    rw (n, add-one j, ← e) (wrote p 15 2 w refl h q)

-- four words more
module _ (m : List ℕ) (known : (i : ℕ) → get_or m i 0 < 256) where
  pub four-more : (from j : ℕ) {first room : List ℕ} {before r w s : ℕ} → Sent m from j first room before r → w ≡ field_at m (16 * (from + j)) 64
      → s ≡ run r (bits_of 64 w) → Sent m from (j + 4) first (with_bytes 8 room (2 * j) (late 63 before w)) w s
  four-more from j {w = w} p e q =
      let n : 2 * (j + 4) ≡ 2 * j + 8 = omega arith in
      rw (n, words-four m known from j, ← e) (wrote p 63 8 w refl (rw e (field_lt m (16 * (from + j)) 64)) q)

-- the whole bytes of a number behind bits that are whole bytes
behind : (bits first : List ℕ) {room : List ℕ} (i k v : ℕ) → length bits ≡ 8 * i → room ≡ packed bits first → with_bytes k room i v ≡ packed (bits ++ bits_of (8 * k) v) first
behind bits first i k v l e = ap (λ (r : List ℕ). with_bytes k r i v) e ∙ sym (next-bytes k i bits v first l)

-- a number without a CRC-16
pub alone : (n : ℕ) (room : List ℕ) → with_bytes 2 room 0 n ≡ packed (bits_of 16 n) room
alone n room = behind [] room 0 2 n refl (sym (packed_none room))

-- words of an image behind j of them: one, and four
module _ (m : List ℕ) (from j : ℕ) (first : List ℕ) {room : List ℕ} (e : room ≡ packed (words_bits m from j) first) where
  more : (k n w : ℕ) → words_bits m from (j + n) ≡ words_bits m from j ++ bits_of (8 * k) w → with_bytes k room (2 * j) w ≡ packed (words_bits m from (j + n)) first
  more k n w f =
      behind (words_bits m from j) first (2 * j) k w (length-words m from j ∙ omega arith) e ∙ ap (λ (bs : List ℕ). packed bs first) (sym f)

  pub word-behind : {w : ℕ} → w ≡ word_at m (from + j) → with_bytes 2 room (2 * j) w ≡ packed (words_bits m from (j + 1)) first
  unfolding words_bits
  word-behind {w = w} h = more 2 1 w (rw (add-one j, h))

  pub four-behind : ((i : ℕ) → get_or m i 0 < 256) → {w : ℕ} → w ≡ field_at m (16 * (from + j)) 64 → with_bytes 8 room (2 * j) w ≡ packed (words_bits m from (j + 4)) first
  four-behind known {w = w} h = more 8 4 w (rw h (words-four m known from j))

-- words of an image, and the CRC-16 of the bits that then stand in the room
pub summed : (m : List ℕ) (from count : ℕ) (first : List ℕ) {room : List ℕ} → 2 * count ≤ length first → room ≡ packed (words_bits m from count) first
    → with_bytes 2 room (2 * count) (crc_of (bits_from room 0 (16 * count))) ≡ packed (checked (words_bits m from count)) first
unfolding checked
summed m from count first h e =
    let bs = words_bits m from count in
    let l = length-words m from count in
    let stand : bits_from (packed bs first) 0 (16 * count) ≡ bs = ap (bits_from (packed bs first) 0) (sym l) ∙ all_shown bs first (bits-words m from count) (omega arith) in
    behind bs first (2 * count) 2 _ (l ∙ omega arith) e ∙ ap (λ (cs : List ℕ). packed (bs ++ bits_of 16 (crc_of cs)) first) (ap (λ (r : List ℕ). bits_from r 0 (16 * count)) e ∙ stand)
