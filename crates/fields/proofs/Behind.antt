-- Bits put into a room behind others: one, and then any run of them. Assumes nothing.
use Prim.Native.Nat.{ℕ, zero, suc, ◌+◌, ◌-◌, ◌*◌, ◌/◌, ◌%◌, ◌^◌, ◌<◌, ◌≤◌}
use mathlib.Core.Path.{◌≡◌, refl, sym, ap, ap₂, ◌∙◌}
use mathlib.Core.List.{List, [], ◌∷◌, ◌++◌, append_assoc, append-nil}
use native.Mathlib.Nat.{suc-add, add-mul, mul_assoc, pow-suc, zero-mul, add-zero}
use native.Mathlib.Numerals.{add-one}
use native.Mathlib.Omega.{arith}
use lib.ListN.{length, get_or, set, take, drop, length-append, length-drop, take-append-drop}
use lib.Seq.{set-set, get_or-set_same, length-take-le}
use lib.Pow.{pow-add, pow_pos, high, shr-shr}
use Rattle.bits.specs.Bits.{bit_at, bits_of, bits_from}
use Rattle.bits.proofs.Bits.{bits-split, bits-append}
use Rattle.replies.specs.Pack.{filled, packed}
use Rattle.replies.proofs.Laws.{length-packed}
use Rattle.replies.proofs.Packing.{next}
use Rattle.fields.specs.Steps.{with_bit, Goes}

-- a byte's bits fill its top
none : (w : ℕ) → filled w [] ≡ 0
unfolding filled
none zero = refl
none (suc w) = refl

scaled : (k j : ℕ) (ys : List ℕ) → length ys ≡ k → filled (k + j) ys ≡ filled k ys * 2 ^ j
unfolding filled
scaled zero j [] e = none (0 + j) ∙ sym (zero-mul (2 ^ j))
scaled zero j (y ∷ ys) e = absurd (omega arith)
scaled (suc k) j [] e = absurd (omega arith)
scaled (suc k) j (y ∷ ys) e =
    rw (suc-add k j, pow-add 2 k j, scaled k j ys (omega arith), add-mul (y * 2 ^ k) (filled k ys) (2 ^ j), mul_assoc y (2 ^ k) (2 ^ j))

one_more : (k b : ℕ) (ys : List ℕ) → length ys ≡ k → filled (k + 1) (ys ++ b ∷ []) ≡ filled k ys * 2 + b
unfolding filled
one_more zero b [] e = omega arith
one_more zero b (y ∷ ys) e = absurd (omega arith)
one_more (suc k) b [] e = absurd (omega arith)
one_more (suc k) b (y ∷ ys) e =
    let p : k + 1 ≡ suc k = add-one k in
    rw (suc-add k 1, one_more k b ys (omega arith), p, pow-suc 2 k, ← mul_assoc y (2 ^ k) 2) (omega arith)

byte_more : (k b : ℕ) (ys : List ℕ) → length ys ≡ k → k < 8 → filled 8 (ys ++ b ∷ []) ≡ with_bit (filled 8 ys) k b
byte_more k b ys e h =
    let l : length (ys ++ b ∷ []) ≡ k + 1 = length-append ys (b ∷ []) ∙ ap (λ (n : ℕ). n + 1) e in
    let p : (k + 1) + (7 - k) ≡ 8 = omega arith in
    let q : k + (8 - k) ≡ 8 = omega arith in
    let old : filled 8 ys / 2 ^ (8 - k) ≡ filled k ys = ap (λ (n : ℕ). filled n ys / 2 ^ (8 - k)) (sym q) ∙ ap (λ (x : ℕ). x / 2 ^ (8 - k)) (scaled k (8 - k) ys e ∙ sym (add-zero (filled k ys * 2 ^ (8 - k)))) ∙ high (filled k ys) (8 - k) (pow_pos (8 - k)) in
    ap (λ (n : ℕ). filled n (ys ++ b ∷ [])) (sym p)
    ∙ scaled (k + 1) (7 - k) (ys ++ b ∷ []) l
    ∙ ap (λ (x : ℕ). x * 2 ^ (7 - k)) (one_more k b ys e ∙ ap (λ (x : ℕ). x * 2 + b) (sym old))

-- a bit behind k whole bytes and a part of one
behind : (k b : ℕ) (ws ys first : List ℕ) → length ws ≡ 8 * k → length ys < 8 → k < length first → get_or (packed (ws ++ ys) first) k 0 < 256
    → packed ((ws ++ ys) ++ b ∷ []) first ≡ set (packed (ws ++ ys) first) k (with_bit (get_or (packed (ws ++ ys) first) k 0) (length ys) b)
behind k b ws [] first l s h old =
    let x = get_or (packed (ws ++ []) first) k 0 in
    let v : filled 8 (b ∷ []) ≡ with_bit x 0 b = byte_more 0 b [] refl (omega arith) ∙ ap (λ (q : ℕ). (q * 2 + b) * 2 ^ 7) (none_over (filled 8 []) (none 8) x old) in
    ap (λ (l : List ℕ). packed (l ++ b ∷ []) first) (append-nil ws)
    ∙ next k ws b [] first l (omega arith)
    ∙ ap₂ (λ (r : List ℕ) (y : ℕ). set r k y) (ap (λ (l : List ℕ). packed l first) (sym (append-nil ws))) v
  where
    none_over : (a : ℕ) → a ≡ 0 → (x : ℕ) → x < 256 → a / 2 ^ (8 - 0) ≡ x / 2 ^ (8 - 0)
    none_over a e x h = omega arith
behind k b ws (y ∷ ys) first l s h old =
    let was : packed (ws ++ y ∷ ys) first ≡ set (packed ws first) k (filled 8 (y ∷ ys)) = next k ws y ys first l (omega arith) in
    let len : length (ys ++ b ∷ []) ≤ 7 = simp length-append (omega arith) in
    let top : get_or (packed (ws ++ y ∷ ys) first) k 0 ≡ filled 8 (y ∷ ys) = ap (λ (r : List ℕ). get_or r k 0) was ∙ get_or-set_same (packed ws first) k (filled 8 (y ∷ ys)) 0 (rw (length-packed ws first) h) in
    ap (λ (l : List ℕ). packed l first) (append_assoc ws (y ∷ ys) (b ∷ []))
    ∙ next k ws y (ys ++ b ∷ []) first l len
    ∙ ap (set (packed ws first) k) (byte_more (length (y ∷ ys)) b (y ∷ ys) refl s ∙ ap (λ (x : ℕ). with_bit x (length (y ∷ ys)) b) (sym top))
    ∙ sym (ap (λ (r : List ℕ). set r k (with_bit (get_or (packed (ws ++ y ∷ ys) first) k 0) (length (y ∷ ys)) b)) was ∙ set-set (packed ws first) k (filled 8 (y ∷ ys)) _)

-- one bit behind i bits
pub goes-bit : (room : List ℕ) (i b : ℕ) → i < 8 * length room → get_or room (i / 8) 0 < 256
    → Goes room i (b ∷ []) (set room (i / 8) (with_bit (get_or room (i / 8) 0) (i % 8) b))
goes-bit room i b h old xs first l e =
    let k = i / 8 in
    let whole = take (8 * k) xs in
    let part = drop (8 * k) xs in
    let back : whole ++ part ≡ xs = take-append-drop (8 * k) xs in
    let long : length whole ≡ 8 * k = length-take-le (8 * k) xs (omega arith) in
    let short : length part ≡ i % 8 = length-drop (8 * k) xs ∙ omega (arith, l) in
    let fits : k < length first = omega (arith, sym (length-packed xs first), ap length e) in
    let low : get_or (packed (whole ++ part) first) k 0 < 256 = rw (back, ← e) old in
    sym (
    ap (λ (l : List ℕ). packed (l ++ b ∷ []) first) (sym back)
    ∙ behind k b whole part first long (omega (arith, short)) fits low
    ∙ ap₂ (λ (r : List ℕ) (n : ℕ). set r k (with_bit (get_or r k 0) n b)) (ap (λ (l : List ℕ). packed l first) back ∙ sym e) short)

-- nothing, and runs one behind the other
pub goes_none : (room : List ℕ) (i : ℕ) → Goes room i [] room
goes_none room i xs first l e = e ∙ ap (λ (bs : List ℕ). packed bs first) (sym (append-nil xs))

pub goes_on : {room mid after : List ℕ} (i j : ℕ) (bs cs : List ℕ) → i + length bs ≡ j → Goes room i bs mid → Goes mid j cs after → Goes room i (bs ++ cs) after
goes_on i j bs cs n p q xs first l e =
    q (xs ++ bs) first (length-append xs bs ∙ ap (λ (x : ℕ). x + length bs) l ∙ n) (p xs first l e)
    ∙ ap (λ (bs : List ℕ). packed bs first) (append_assoc xs bs cs)

-- what a byte with one bit more is made of
pub byte_fits : (k old b : ℕ) → k < 8 → old < 256 → b < 2 → with_bit old k b < 256
byte_fits zero old b h o l = omega arith
byte_fits (suc zero) old b h o l = omega arith
byte_fits (suc (suc zero)) old b h o l = omega arith
byte_fits (suc (suc (suc zero))) old b h o l = omega arith
byte_fits (suc (suc (suc (suc zero)))) old b h o l = omega arith
byte_fits (suc (suc (suc (suc (suc zero))))) old b h o l = omega arith
byte_fits (suc (suc (suc (suc (suc (suc zero)))))) old b h o l = omega arith
byte_fits (suc (suc (suc (suc (suc (suc (suc zero))))))) old b h o l = omega arith
byte_fits (suc (suc (suc (suc (suc (suc (suc (suc k)))))))) old b h o l = absurd (omega arith)

-- a number's bits, one after the other
pub last_bit : (x : ℕ) → bits_of 1 x ≡ x % 2 ∷ []
unfolding bits_of
last_bit x = let e : x / 1 % 2 ≡ x % 2 = omega arith in rw e

pub field-more : (n k v : ℕ) → k < n → bits_of (k + 1) (v / 2 ^ (n - (k + 1))) ≡ bits_of k (v / 2 ^ (n - k)) ++ bits_of 1 (v / 2 ^ (n - 1 - k))
field-more n k v h =
    let a : n - (k + 1) + 1 ≡ n - k = omega arith in
    let b : n - (k + 1) ≡ n - 1 - k = omega arith in
    bits-split k 1 (v / 2 ^ (n - (k + 1)))
    ∙ ap₂ (λ (x y : ℕ). bits_of k x ++ bits_of 1 y) (shr-shr v (n - (k + 1)) 1 ∙ ap (λ (x : ℕ). v / 2 ^ x) a) (ap (λ (x : ℕ). v / 2 ^ x) b)

-- where a loop over a number's bits begins
pub start : (i n v : ℕ) (room : List ℕ) → Goes room i (bits_of 0 (v / 2 ^ (n - 0))) room
unfolding bits_of
start i n v room = goes_none room i

pub length_from : (m : List ℕ) (i n : ℕ) → length (bits_from m i n) ≡ n
length_from m i zero = refl
length_from m i (suc n) = ap suc (length_from m (i + 1) n)

pub payload-more : (m : List ℕ) (k : ℕ) → bits_from m 0 (k + 1) ≡ bits_from m 0 k ++ bit_at m k ∷ []
payload-more m k = let z : 0 + k ≡ k = omega arith in bits-append m 0 k 1 ∙ rw z
