-- Laws of bits packed into a room byte by byte. Assumes nothing.
use Prim.Native.Nat.{ℕ, zero, suc, ◌+◌, ◌*◌, ◌/◌, ◌%◌, ◌^◌, ◌<◌, ◌≤◌}
use mathlib.Core.Path.{◌≡◌, refl, sym, ap, ap₂, ◌∙◌}
use mathlib.Core.List.{List, [], ◌∷◌, ◌++◌, append_assoc, append-nil}
use native.Mathlib.Nat.{add-suc, add-zero, div-one}
use native.Mathlib.Omega.{arith}
use lib.ListN.{length, get_or, drop, set, replicate, length-append, length-replicate, length-drop, drop_of_length-le, replicate-append-replicate}
use lib.Seq.{drop-append-le}
use lib.Pow.{mod-pow-add, shr-shr}
use Rattle.bits.specs.Bits.{bits_of, bits_from}
use Rattle.bits.proofs.Bits.{length-bits, bits-split, bits-append, byte-tail}
use Rattle.replies.specs.Pack.{filled, packed}
use Rattle.replies.specs.Steps.{with_bytes}
use Rattle.replies.proofs.Laws.{packed_none}

filled-bits : (w v : ℕ) → filled w (bits_of w v) ≡ v % 2 ^ w
unfolding bits_of filled
filled-bits zero v = omega arith
filled-bits (suc w) v = ap (λ (x : ℕ). v / 2 ^ w % 2 * 2 ^ w + x) (filled-bits w v) ∙ sym (mod-pow-add v 1 w) ∙ (let e : 1 + w ≡ suc w = omega arith in rw e)

filled-append : (w : ℕ) (xs bs : List ℕ) → w ≤ length xs → filled w (xs ++ bs) ≡ filled w xs
unfolding filled
filled-append zero xs bs h = refl
filled-append (suc w) [] bs h = absurd (omega arith)
filled-append (suc w) (a ∷ xs) bs h = ap (λ (x : ℕ). a * 2 ^ w + x) (filled-append w xs bs (omega arith))

-- behind k whole bytes, one more byte or a part of one
pub next : (k : ℕ) (xs : List ℕ) (b : ℕ) (bs room : List ℕ) → length xs ≡ 8 * k → length bs ≤ 7
    → packed (xs ++ b ∷ bs) room ≡ set (packed xs room) k (filled 8 (b ∷ bs))
unfolding packed
next k [] b bs [] h s = refl
next k (a ∷ xs) b bs [] h s = refl
next zero [] b bs (x ∷ room) h s = ap (λ (l : List ℕ). filled 8 (b ∷ bs) ∷ l) (rw (drop_of_length-le bs s) (packed_none room))
next (suc k) [] b bs (x ∷ room) h s = absurd (omega arith)
next zero (a ∷ xs) b bs (x ∷ room) h s = absurd (omega arith)
next (suc k) (a ∷ xs) b bs (x ∷ room) h s =
    let long : 7 ≤ length xs = omega arith in
    let rest : length (drop 7 xs) ≡ 8 * k = simp length-drop (omega arith) in
    ap₂ ◌∷◌ (filled-append 8 (a ∷ xs) (b ∷ bs) (omega arith))
    (rw (drop-append-le 7 xs (b ∷ bs) long) (next k (drop 7 xs) b bs room rest s))

-- one byte more, and k bytes of one number
pub next-byte : (i : ℕ) (xs : List ℕ) (v : ℕ) (room : List ℕ) → length xs ≡ 8 * i → packed (xs ++ bits_of 8 v) room ≡ set (packed xs room) i (v % 256)
unfolding bits_of
next-byte i xs v room h = next i xs (v / 128 % 2) (bits_of 7 v) room h (omega arith) ∙ ap (set (packed xs room) i) (filled-bits 8 v)

pub next-bytes : (k i : ℕ) (xs : List ℕ) (v : ℕ) (room : List ℕ) → length xs ≡ 8 * i → packed (xs ++ bits_of (8 * k) v) room ≡ with_bytes k (packed xs room) i v
unfolding with_bytes bits_of
next-bytes zero i xs v room h = ap (λ (l : List ℕ). packed l room) (append-nil xs)
next-bytes (suc k) i xs v room h =
    let e : 8 * suc k ≡ 8 * k + 8 = omega arith in
    let l : length (xs ++ bits_of (8 * k) (v / 256)) ≡ 8 * (i + k) = simp (length-append, length-bits) (omega arith) in
    ap (λ (bs : List ℕ). packed (xs ++ bs) room) (ap (λ (n : ℕ). bits_of n v) e ∙ bits-split (8 * k) 8 v)
    ∙ ap (λ (bs : List ℕ). packed bs room) (sym (append_assoc xs (bits_of (8 * k) (v / 256)) (bits_of 8 v)))
    ∙ next-byte (i + k) (xs ++ bits_of (8 * k) (v / 256)) v room l
    ∙ ap (λ (r : List ℕ). set r (i + k) (v % 256)) (next-bytes k i xs (v / 256) room h)

-- the bytes of one number in two parts
pub bytes-split : (a b : ℕ) (room : List ℕ) (i v : ℕ) → with_bytes (a + b) room i v ≡ with_bytes b (with_bytes a room i (v / 2 ^ (8 * b))) (i + a) v
unfolding with_bytes
bytes-split a zero room i v = rw (add-zero a, div-one v)
bytes-split a (suc b) room i v =
    let e : 8 * suc b ≡ 8 + 8 * b = omega arith in
    let p : i + (a + b) ≡ i + a + b = omega arith in
    let q : v / 256 / 2 ^ (8 * b) ≡ v / 2 ^ (8 * suc b) = shr-shr v 8 (8 * b) ∙ ap (λ (n : ℕ). v / 2 ^ n) (sym e) in
    rw (add-suc a b, p, bytes-split a b room i (v / 256), q)

length_from : (m : List ℕ) (i n : ℕ) → length (bits_from m i n) ≡ n
length_from m i zero = refl
length_from m i (suc n) = ap suc (length_from m (i + 1) n)

-- one byte of an image more
pub byte-copied : (m : List ℕ) (from k : ℕ) (room₀ : List ℕ) {room : List ℕ} → get_or m (2 * from + k) 0 < 256 → room ≡ packed (bits_from m (16 * from) (8 * k)) room₀
    → set room k (get_or m (2 * from + k) 0) ≡ packed (bits_from m (16 * from) (8 * (k + 1))) room₀
byte-copied m from k room₀ h e =
    let b = get_or m (2 * from + k) 0 in
    let xs = bits_from m (16 * from) (8 * k) in
    let n : 8 * (k + 1) ≡ 8 * k + 8 = omega arith in
    let low : b % 256 ≡ b = omega (arith, h) in
    rw (e, n, bits-append m (16 * from) (8 * k) 8, byte-tail m (2 * from + k) 8 (16 * from + 8 * k) (omega arith) (omega arith))
    (sym (next-byte k xs b room₀ (length_from m (16 * from) (8 * k)) ∙ ap (set (packed xs room₀) k) low))

-- one byte of 0 more
pub byte-zeroed : (k : ℕ) (first : List ℕ) {room : List ℕ} → room ≡ packed (replicate (8 * k) 0) first → set room k 0 ≡ packed (replicate (8 * (k + 1)) 0) first
unfolding bits_of
byte-zeroed k first e =
    let n : 8 * (k + 1) ≡ 8 * k + 8 = omega arith in
    rw (e, n, ← replicate-append-replicate {A = ℕ} (8 * k) 8 0) (sym (next-byte k (replicate (8 * k) 0) 0 first (simp length-replicate)))
