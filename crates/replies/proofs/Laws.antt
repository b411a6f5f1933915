-- What a caller may use of a packed room, and how long replies are. Assumes nothing.
use Prim.Native.Nat.{ℕ, zero, suc, ◌+◌, ◌-◌, ◌*◌, ◌/◌, ◌%◌, ◌^◌, ◌<◌, ◌≤◌}
use mathlib.Core.Path.{◌≡◌, refl, sym, ap, ap₂, ◌∙◌}
use mathlib.Core.List.{List, [], ◌∷◌, ◌++◌}
use native.Mathlib.Nat.{add_comm, mul_assoc, zero-div, add-mul-div_right, pow-suc}
use native.Mathlib.Omega.{arith}
use native.Mathlib.Decide.{dec_lt}
use lib.ListN.{length, get_or, drop, length-append, length-drop}
use lib.Seq.{get_or-drop}
use lib.Pow.{pow_pos, pow-add, high}
use Rattle.bits.specs.Words.{word_at}
use Rattle.bits.specs.Bits.{bits_of, bit_at, bits_from}
use Rattle.bits.proofs.Bits.{length-bits}
use Rattle.bits.proofs.Digits.{Bits, bits-of, bits-and, bits-drop, bit-above}
use Rattle.crc.specs.Crc.{crc_of}
use Rattle.replies.specs.Pack.{filled, packed}
use Rattle.replies.specs.Replies.{checked, reply_bits, reply_length}
use Rattle.replies.specs.Steps.{reply_bytes}
use Rattle.bits.specs.Bits.{words_bits}
use Rattle.replies.specs.declared.Reply.{Reply}
use Rattle.replies.specs.declared.Reply.TheVariants.{Silence, Number, Success, Words, Error, Drawn, Epc}

pub packed_none : (room : List ℕ) → packed [] room ≡ room
unfolding packed
packed_none [] = refl
packed_none (x ∷ room) = refl

pub length-packed : (bs room : List ℕ) → length (packed bs room) ≡ length room
unfolding packed
length-packed bs [] = refl
length-packed [] (x ∷ room) = refl
length-packed (b ∷ bs) (x ∷ room) = ap suc (length-packed (drop 7 bs) room)

-- bytes beyond the last bit stay
pub beyond : (bs room : List ℕ) (i : ℕ) → (length bs + 7) / 8 ≤ i → get_or (packed bs room) i 0 ≡ get_or room i 0
unfolding packed
beyond bs [] i h = refl
beyond [] (x ∷ room) i h = refl
beyond (b ∷ bs) (x ∷ room) zero h = absurd (omega arith)
beyond (b ∷ bs) (x ∷ room) (suc i) h = beyond (drop 7 bs) room i (simp length-drop (omega arith))

-- how long replies are, and that they are bits
pub length-words : (m : List ℕ) (i k : ℕ) → length (words_bits m i k) ≡ 16 * k
unfolding words_bits
length-words m i zero = refl
length-words m i (suc k) = simp (length-append, length-bits, length-words m i k) (omega arith)

pub length-reply : (m : List ℕ) (r : Reply) → length (reply_bits m r) ≡ reply_length r
unfolding checked
length-reply m Silence = refl
length-reply m (Number n) = simp (length-append, length-bits)
length-reply m (Success h) = simp (length-append, length-bits)
length-reply m (Words i k h) = simp (length-append, length-bits, length-words m i k) (omega arith)
length-reply m (Error e h) = simp (length-append, length-bits)
length-reply m (Drawn n) = length-bits 16 n
length-reply m (Epc i k) = simp (length-append, length-bits, length-words m i k)

pub bits-words : (m : List ℕ) (i k : ℕ) → Bits (words_bits m i k)
unfolding words_bits
bits-words m i zero = tt
bits-words m i (suc k) = bits-and (words_bits m i k) (bits_of 16 (word_at m (i + k))) (bits-words m i k) (bits-of 16 (word_at m (i + k)))

bits-checked : (bs : List ℕ) → Bits bs → Bits (checked bs)
unfolding checked
bits-checked bs h = bits-and bs (bits_of 16 (crc_of bs)) h (bits-of 16 (crc_of bs))

pub bits-reply : (m : List ℕ) (r : Reply) → Bits (reply_bits m r)
bits-reply m Silence = tt
bits-reply m (Number n) = bits-checked (bits_of 16 n) (bits-of 16 n)
bits-reply m (Success h) = bits-checked (0 ∷ bits_of 16 h) (omega arith, bits-of 16 h)
bits-reply m (Words i k h) =
    bits-checked (0 ∷ (words_bits m i k ++ bits_of 16 h)) (omega arith, bits-and (words_bits m i k) (bits_of 16 h) (bits-words m i k) (bits-of 16 h))
bits-reply m (Error e h) =
    bits-checked (1 ∷ (bits_of 8 e ++ bits_of 16 h)) (omega arith, bits-and (bits_of 8 e) (bits_of 16 h) (bits-of 8 e) (bits-of 16 h))
bits-reply m (Drawn n) = bits-of 16 n
bits-reply m (Epc i k) = bits-checked (words_bits m i k) (bits-words m i k)

filled-lt : (w : ℕ) (bs : List ℕ) → Bits bs → filled w bs < 2 ^ w
unfolding filled
filled-lt zero bs h = omega arith
filled-lt (suc w) [] h = pow_pos (suc w)
filled-lt (suc w) (b ∷ bs) h = rw (pow-suc 2 w) (bit-above b (2 ^ w) (filled w bs) h.0 (filled-lt w bs h.1))

-- bit i of a filled number is bit i of the list, or 0 past its end
filled-bit : (w i k : ℕ) (bs : List ℕ) → Bits bs → i + suc k ≡ w → filled w bs / 2 ^ k % 2 ≡ get_or bs i 0
unfolding filled
filled-bit zero i k bs h e = absurd (omega arith)
filled-bit (suc w) i k [] h e = ap (λ (x : ℕ). x % 2) (zero-div (2 ^ k))
filled-bit (suc w) zero k (b ∷ bs) h e =
    let z : k ≡ w = omega arith in
    let d : b < 2 = h.0 in
    rw (z, high b w (filled-lt w bs h.1)) (omega arith)
filled-bit (suc w) (suc i) k (b ∷ bs) h e =
    let z : w ≡ suc i + k = omega arith in
    let t : b * 2 ^ w + filled w bs ≡ filled w bs + b * 2 ^ i * 2 * 2 ^ k = ap (λ (n : ℕ). b * 2 ^ n + filled w bs) z ∙ rw (pow-add 2 (suc i) k, pow-suc 2 i) (shuffle b (2 ^ i) (2 ^ k) (filled w bs)) in
    rw (t, add-mul-div_right (filled w bs) (b * 2 ^ i * 2) (pow_pos k)) (even (filled w bs / 2 ^ k) (b * 2 ^ i) ∙ filled-bit w i k bs h.1 (omega arith))
  where
    shuffle : (b p q f : ℕ) → b * (p * 2 * q) + f ≡ f + b * p * 2 * q
    shuffle b p q f = rw (add_comm (b * (p * 2 * q)) f, mul_assoc (b * p) 2 q, mul_assoc b p (2 * q), mul_assoc p 2 q)

    even : (x y : ℕ) → (x + y * 2) % 2 ≡ x % 2
    even x y = omega arith

-- bit i of a packed room is bit i of the list; past the list's end, in its last byte, it is 0
pub shown : (bs room : List ℕ) (i : ℕ) → Bits bs → i / 8 < (length bs + 7) / 8 → i / 8 < length room → bit_at (packed bs room) i ≡ get_or bs i 0
unfolding packed
shown bs [] i h s r = absurd (omega arith)
shown [] (x ∷ room) i h s r = absurd (omega arith)
shown (b ∷ bs) (x ∷ room) i h s r =
    go (λ l. shown (drop 7 bs) room (i - 8) (bits-drop 7 bs h.1) (simp length-drop (omega arith)) (omega arith)) (dec_lt i 8)
  where
    go : (8 ≤ i → bit_at (packed (drop 7 bs) room) (i - 8) ≡ get_or (drop 7 bs) (i - 8) 0) → Dec (i < 8)
        → bit_at (packed (b ∷ bs) (x ∷ room)) i ≡ get_or (b ∷ bs) i 0
    go again (yes l) =
        let q : i / 8 ≡ 0 = omega arith in
        let m : i % 8 ≡ i = omega arith in
        rw (q, m) (filled-bit 8 i (7 - i) (b ∷ bs) h (omega arith))
    go again (no l) =
        let q : i / 8 ≡ suc ((i - 8) / 8) = omega arith in
        let m : i % 8 ≡ (i - 8) % 8 = omega arith in
        let n : i ≡ suc (7 + (i - 8)) = omega arith in
        let t : get_or (drop 7 bs) (i - 8) 0 ≡ get_or (b ∷ bs) i 0 = get_or-drop 7 bs (i - 8) 0 ∙ sym (ap (λ (k : ℕ). get_or (b ∷ bs) k 0) n) in
        rw (q, m) (again (omega arith) ∙ t)

-- the bits that a room has from bit i on, by what it shows of each
read_back : (bs room : List ℕ) (i : ℕ) → ((k : ℕ) → k < length bs → bit_at room (i + k) ≡ get_or bs k 0) → bits_from room i (length bs) ≡ bs
read_back [] room i h = refl
read_back (b ∷ bs) room i h =
    let z : i + 0 ≡ i = omega arith in
    ap₂ ◌∷◌ (ap (bit_at room) (sym z) ∙ h 0 (omega arith))
    (read_back bs room (i + 1) (λ k l. (let e : i + 1 + k ≡ i + suc k = omega arith in rw e (h (suc k) (omega arith)))))

-- bits that fit their room can be read back from it
pub all_shown : (bs room : List ℕ) → Bits bs → length bs ≤ 8 * length room → bits_from (packed bs room) 0 (length bs) ≡ bs
all_shown bs room h f =
    read_back bs (packed bs room) 0 (λ k l. (let z : 0 + k ≡ k = omega arith in rw z (shown bs room k h (omega arith) (omega arith))))

-- what the room shows of a reply that fits it: its bits, then zeros to the end of the byte
pub reply-shown : (m room : List ℕ) (r : Reply) (i : ℕ) → reply_bytes r ≤ length room → i < 8 * reply_bytes r
    → bit_at (packed (reply_bits m r) room) i ≡ get_or (reply_bits m r) i 0
reply-shown m room r i f h =
    let e : (length (reply_bits m r) + 7) / 8 ≡ reply_bytes r = ap (λ (n : ℕ). (n + 7) / 8) (length-reply m r) in
    shown (reply_bits m r) room i (bits-reply m r) (rw e (omega arith)) (omega arith)
