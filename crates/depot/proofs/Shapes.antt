-- The bits of a frame as the code lays it out are those of its shape. Assumes nothing.
use Prim.Native.Nat.{ℕ, zero, suc, ◌+◌, ◌*◌, ◌/◌, ◌%◌, ◌^◌, ◌≤◌}
use mathlib.Core.Path.{◌≡◌, refl, sym, ap, ap₂, ◌∙◌}
use mathlib.Core.Bool.{Bool, true, false, cond}
use mathlib.Core.List.{List, [], ◌∷◌, ◌++◌, append_assoc, append-nil}
use native.Mathlib.Nat.{mod-add-div, mod-lt, mul_comm, add_comm, add-zero}
use native.Mathlib.Omega.{arith}
use lib.Bits.{bit_xor}
use lib.Dec.{ltb}
use lib.ListN.{length, take, length-append}
use lib.Seq.{take_all}
use lib.Pow.{pow_pos}
use Rattle.bits.specs.Bits.{bits_from, bits_of}
use Rattle.bits.proofs.Bits.{length-bits, low_bits, bit-lt}
use Rattle.bits.proofs.Digits.{Bits, bits-of, bits-and, bits-join}
use Rattle.crc.specs.Crc.{crc_of}
use Rattle.crc.specs.Crc5.{crc5_of}
use Rattle.replies.specs.Replies.{checked}
use Rattle.depot.specs.declared.Place.{Place}
use Rattle.depot.specs.declared.Command.{Command}
use Rattle.depot.specs.declared.Command.TheVariants as command
use Rattle.depot.specs.declared.laying.Layout.{Layout}
use Rattle.depot.specs.Limits.{within}
use Rattle.depot.specs.Making.{Field, fields, shortest, sealed, pointing, shape_of, frame_bits}
use Rattle.fields.specs.Steps.{field_bits, seal_bits}
use Rattle.depot.specs.Steps.{field, ebv, layout_of, Narrow, total_of, open_bits}
use Rattle.depot.proofs.Bounds.{Within, within-so}
use Rattle.fields.proofs.Behind.{length_from}

-- a number's low bits are those of its rest
pub low : (w v : ℕ) → bits_of w (v % 2 ^ w) ≡ bits_of w v
low w v =
    let e : v / 2 ^ w * 2 ^ w + v % 2 ^ w ≡ v = add_comm (v / 2 ^ w * 2 ^ w) (v % 2 ^ w) ∙ ap (λ (x : ℕ). v % 2 ^ w + x) (mul_comm (v / 2 ^ w) (2 ^ w)) ∙ mod-add-div v (2 ^ w) in
    sym (low_bits w (v / 2 ^ w) (v % 2 ^ w)) ∙ ap (bits_of w) e

-- fields side by side as one number, behind one of n bits
abbrev width_on : ℕ → List Field → ℕ
width_on n [] = n
width_on n (f ∷ fs) = width_on (n + f.1) fs

abbrev value_on : ℕ → List Field → ℕ
value_on v [] = v
value_on v (f ∷ fs) = value_on (v * 2 ^ f.1 + f.0 % 2 ^ f.1) fs

joined : (n v : ℕ) (fs : List Field) → bits_of n v ++ fields fs ≡ bits_of (width_on n fs) (value_on v fs)
joined n v [] = append-nil (bits_of n v)
joined n v (f ∷ fs) =
    sym (append_assoc (bits_of n v) (bits_of f.1 f.0) (fields fs))
    ∙ ap (λ (bs : List ℕ). bs ++ fields fs)
    (ap (λ (bs : List ℕ). bits_of n v ++ bs) (sym (low f.1 f.0)) ∙ sym (bits-join n f.1 v (f.0 % 2 ^ f.1) (mod-lt f.0 (pow_pos f.1))))
    ∙ joined (n + f.1) (v * 2 ^ f.1 + f.0 % 2 ^ f.1) fs

pub fields-append : (fs gs : List Field) → fields (fs ++ gs) ≡ fields fs ++ fields gs
fields-append [] gs = refl
fields-append (f ∷ fs) gs = ap (λ (bs : List ℕ). bits_of f.1 f.0 ++ bs) (fields-append fs gs) ∙ sym (append_assoc (bits_of f.1 f.0) (fields fs) (fields gs))

-- a pointer
pub pointer : (p : ℕ) → field_bits (ebv p) ≡ fields (shortest p)
pointer p = go (ltb p 128) (ltb p 16384)
  where
    go : (a b : Bool)
        → field_bits (cond a (field (p % 128) 8) (cond b (field ((128 + p / 128 % 128) * 256 + p % 128) 16) (field ((128 + p / 16384 % 128) * 65536 + ((128 + p / 128 % 128) * 256 + p % 128)) 24)))
        ≡ fields (cond a ((p % 128, 8) ∷ []) (cond b ((128 + p / 128 % 128, 8) ∷ (p % 128, 8) ∷ []) ((128 + p / 16384 % 128, 8) ∷ (128 + p / 128 % 128, 8) ∷ (p % 128, 8) ∷ [])))
    go true b = sym (append-nil (bits_of 8 (p % 128)))
    go false true =
        bits-join 8 8 (128 + p / 128 % 128) (p % 128) (omega arith)
        ∙ ap (λ (bs : List ℕ). bits_of 8 (128 + p / 128 % 128) ++ bs) (sym (append-nil (bits_of 8 (p % 128))))
    go false false =
        bits-join 8 16 (128 + p / 16384 % 128) ((128 + p / 128 % 128) * 256 + p % 128) (omega arith)
        ∙ ap (λ (bs : List ℕ). bits_of 8 (128 + p / 16384 % 128) ++ bs)
        (bits-join 8 8 (128 + p / 128 % 128) (p % 128) (omega arith) ∙ ap (λ (bs : List ℕ). bits_of 8 (128 + p / 128 % 128) ++ bs) (sym (append-nil (bits_of 8 (p % 128)))))

-- a place between two numbers
placed : (v n : ℕ) (p : Place) (w k : ℕ) (before : List Field) → fields before ≡ bits_of n v
    → fields (pointing before p ((w, k) ∷ [])) ≡ (bits_of (n + 2) (v * 4 + p.bank % 4) ++ field_bits (ebv p.pointer)) ++ bits_of k w
placed v n p w k before e =
    fields-append before ((p.bank, 2) ∷ (shortest p.pointer ++ ((w, k) ∷ [])))
    ∙ ap₂ (λ (xs bs : List ℕ). xs ++ (bits_of 2 p.bank ++ bs)) e
    (fields-append (shortest p.pointer) ((w, k) ∷ []) ∙ ap₂ ◌++◌ (sym (pointer p.pointer)) (append-nil (bits_of k w)))
    ∙ sym (append_assoc (bits_of n v) (bits_of 2 p.bank) (field_bits (ebv p.pointer) ++ bits_of k w))
    ∙ ap (λ (bs : List ℕ). bs ++ (field_bits (ebv p.pointer) ++ bits_of k w))
    (ap (λ (bs : List ℕ). bits_of n v ++ bs) (sym (low 2 p.bank)) ∙ sym (bits-join n 2 v (p.bank % 4) (omega arith)))
    ∙ sym (append_assoc (bits_of (n + 2) (v * 4 + p.bank % 4)) (field_bits (ebv p.pointer)) (bits_of k w))

-- no bits
nothing : bits_of 0 0 ≡ []
unfolding bits_of
nothing = refl

-- the fields before the payload and those behind it, command by command
abbrev head_bits : Layout → List ℕ
head_bits l = (field_bits l.front ++ field_bits l.middle) ++ field_bits l.back

one : (n v : ℕ) → bits_of n v ≡ (bits_of n v ++ bits_of 0 0) ++ bits_of 0 0
one n v = rw (nothing, append-nil (bits_of n v), append-nil (bits_of n v))

two : (n v k w : ℕ) → bits_of n v ++ (bits_of k w ++ []) ≡ (bits_of n v ++ bits_of k w) ++ bits_of 0 0
two n v k w = rw (nothing, append-nil (bits_of k w), append-nil (bits_of n v ++ bits_of k w))

three : (xs ys zs : List ℕ) → xs ++ (ys ++ (zs ++ [])) ≡ (xs ++ ys) ++ zs
three xs ys zs = rw (append-nil zs) (sym (append_assoc xs ys zs))

head-laid : (c : Command) (d n k : ℕ) → fields (shape_of c d n k).head ≡ head_bits (layout_of c d n k)
head-laid (command.QueryRep s) d n k = joined 2 0 ((s, 2) ∷ []) ∙ (let e : 0 * 4 + s % 4 ≡ s % 4 = omega arith in ap (bits_of 4) e) ∙ one 4 (s % 4)
head-laid command.Ack d n k = append-nil (bits_of 2 1) ∙ one 2 1
head-laid (command.Query r) d n k =
    joined 4 8 ((r.dr, 1) ∷ (r.m, 2) ∷ (r.trext, 1) ∷ (r.sel, 2) ∷ (r.session, 2) ∷ (r.target, 1) ∷ (r.q, 4) ∷ []) ∙ one 17 _
head-laid (command.QueryAdjust s u) d n k = joined 4 9 ((s, 2) ∷ (u, 3) ∷ []) ∙ one 9 _
head-laid (command.Select t a p l) d n k = placed _ 10 p l 8 ((10, 4) ∷ (t, 3) ∷ (a, 3) ∷ []) (joined 4 10 ((t, 3) ∷ (a, 3) ∷ []))
head-laid command.Nak d n k = append-nil (bits_of 8 0xC0) ∙ one 8 0xC0
head-laid command.ReqRn d n k = append-nil (bits_of 8 0xC1) ∙ one 8 0xC1
head-laid (command.Read p w) d n k = placed 0xC2 8 p w 8 ((0xC2, 8) ∷ []) (append-nil (bits_of 8 0xC2))
head-laid (command.Write p w) d n k = placed 0xC3 8 p (bit_xor w k) 16 ((0xC3, 8) ∷ []) (append-nil (bits_of 8 0xC3))
head-laid (command.Kill w) d n k = three (bits_of 8 0xC4) (bits_of 16 (bit_xor w k)) (bits_of 3 0)
head-laid (command.Lock m a) d n k = three (bits_of 8 0xC5) (bits_of 10 m) (bits_of 10 a)
head-laid (command.Access w) d n k = two 8 0xC6 16 (bit_xor w k)
head-laid (command.BlockWrite p) d n k = placed 0xC7 8 p (d / 2) 8 ((0xC7, 8) ∷ []) (append-nil (bits_of 8 0xC7))
head-laid (command.BlockErase p w) d n k = placed 0xC8 8 p w 8 ((0xC8, 8) ∷ []) (append-nil (bits_of 8 0xC8))
head-laid (command.ReadPermalock p w) d n k = placed (0xC9 * 512) 17 p w 8 ((0xC9, 8) ∷ (0, 8) ∷ (0, 1) ∷ []) (joined 8 0xC9 ((0, 8) ∷ (0, 1) ∷ []))
head-laid (command.Permalock p) d n k = placed (0xC9 * 512 + 1) 17 p (d / 2) 8 ((0xC9, 8) ∷ (0, 8) ∷ (1, 1) ∷ []) (joined 8 0xC9 ((0, 8) ∷ (1, 1) ∷ []))

tail-laid : (c : Command) (d n k : ℕ) → fields (shape_of c d n k).tail ≡ field_bits (layout_of c d n k).tail
tail-laid (command.QueryRep s) d n k = sym nothing
tail-laid command.Ack d n k = append-nil (bits_of 16 n)
tail-laid (command.Query r) d n k = sym nothing
tail-laid (command.QueryAdjust s u) d n k = sym nothing
tail-laid (command.Select t a p l) d n k = append-nil (bits_of 1 0)
tail-laid command.Nak d n k = sym nothing
tail-laid command.ReqRn d n k = append-nil (bits_of 16 n)
tail-laid (command.Read p w) d n k = append-nil (bits_of 16 n)
tail-laid (command.Write p w) d n k = append-nil (bits_of 16 n)
tail-laid (command.Kill w) d n k = append-nil (bits_of 16 n)
tail-laid (command.Lock m a) d n k = append-nil (bits_of 16 n)
tail-laid (command.Access w) d n k = append-nil (bits_of 16 n)
tail-laid (command.BlockWrite p) d n k = append-nil (bits_of 16 n)
tail-laid (command.BlockErase p w) d n k = append-nil (bits_of 16 n)
tail-laid (command.ReadPermalock p w) d n k = append-nil (bits_of 16 n)
tail-laid (command.Permalock p) d n k = append-nil (bits_of 16 n)

body-laid : (c : Command) (d n k : ℕ) → (shape_of c d n k).body ≡ (layout_of c d n k).body
body-laid (command.QueryRep s) d n k = refl
body-laid command.Ack d n k = refl
body-laid (command.Query r) d n k = refl
body-laid (command.QueryAdjust s u) d n k = refl
body-laid (command.Select t a p l) d n k = refl
body-laid command.Nak d n k = refl
body-laid command.ReqRn d n k = refl
body-laid (command.Read p w) d n k = refl
body-laid (command.Write p w) d n k = refl
body-laid (command.Kill w) d n k = refl
body-laid (command.Lock m a) d n k = refl
body-laid (command.Access w) d n k = refl
body-laid (command.BlockWrite p) d n k = refl
body-laid (command.BlockErase p w) d n k = refl
body-laid (command.ReadPermalock p w) d n k = refl
body-laid (command.Permalock p) d n k = refl

pub open-laid : (c : Command) (d n k : ℕ) (m : List ℕ)
    → fields (shape_of c d n k).head ++ (bits_from m 0 (shape_of c d n k).body ++ fields (shape_of c d n k).tail) ≡ open_bits (layout_of c d n k) m
open-laid c d n k m =
    let l = layout_of c d n k in
    rw (head-laid c d n k, tail-laid c d n k, body-laid c d n k) (sym (append_assoc (head_bits l) (bits_from m 0 l.body) (field_bits l.tail)))

-- its check
sealed-laid : (c : Command) (d n k : ℕ) (bs : List ℕ) → length bs + (layout_of c d n k).check ≡ total_of (layout_of c d n k)
    → sealed (shape_of c d n k).check bs ≡ seal_bits (layout_of c d n k).check bs
sealed-laid (command.QueryRep s) d n k bs h = refl
sealed-laid command.Ack d n k bs h = refl
sealed-laid (command.Query r) d n k bs h = ap (λ (cs : List ℕ). bs ++ bits_of 5 (crc5_of cs)) (sym (take_all 17 bs (omega (arith, h))))
sealed-laid (command.QueryAdjust s u) d n k bs h = refl
sealed-laid (command.Select t a p l) d n k bs h = refl
sealed-laid command.Nak d n k bs h = refl
sealed-laid command.ReqRn d n k bs h = refl
sealed-laid (command.Read p w) d n k bs h = refl
sealed-laid (command.Write p w) d n k bs h = refl
sealed-laid (command.Kill w) d n k bs h = refl
sealed-laid (command.Lock m a) d n k bs h = refl
sealed-laid (command.Access w) d n k bs h = refl
sealed-laid (command.BlockWrite p) d n k bs h = refl
sealed-laid (command.BlockErase p w) d n k bs h = refl
sealed-laid (command.ReadPermalock p w) d n k bs h = refl
sealed-laid (command.Permalock p) d n k bs h = refl

pub length-open : (l : Layout) (m : List ℕ) → length (open_bits l m) + l.check ≡ total_of l
length-open l m =
    ap (λ (x : ℕ). x + l.check)
    (length-append ((head_bits l) ++ bits_from m 0 l.body) (field_bits l.tail)
    ∙ ap₂ ◌+◌ (length-append (head_bits l) (bits_from m 0 l.body)
    ∙ ap₂ ◌+◌ (length-append (field_bits l.front ++ field_bits l.middle) (field_bits l.back)
    ∙ ap₂ ◌+◌ (length-append (field_bits l.front) (field_bits l.middle)
    ∙ ap₂ ◌+◌ (length-bits l.front.bits l.front.value) (length-bits l.middle.bits l.middle.value)) (length-bits l.back.bits l.back.value)) (length_from m 0 l.body)) (length-bits l.tail.bits l.tail.value))

-- bits with their CRC-16
pub summed : (bs : List ℕ) → length (checked bs) ≡ length bs + 16
unfolding checked
summed bs = length-append bs (bits_of 16 (crc_of bs)) ∙ ap (λ (x : ℕ). length bs + x) (length-bits 16 (crc_of bs))

length-sealed : (c : Command) (d n k : ℕ) (bs : List ℕ) → length (seal_bits (layout_of c d n k).check bs) ≡ length bs + (layout_of c d n k).check
length-sealed (command.QueryRep s) d n k bs = sym (add-zero (length bs))
length-sealed command.Ack d n k bs = sym (add-zero (length bs))
length-sealed (command.Query r) d n k bs = length-append bs (bits_of 5 (crc5_of (take 17 bs))) ∙ ap (λ (x : ℕ). length bs + x) (length-bits 5 (crc5_of (take 17 bs)))
length-sealed (command.QueryAdjust s u) d n k bs = sym (add-zero (length bs))
length-sealed (command.Select t a p l) d n k bs = summed bs
length-sealed command.Nak d n k bs = sym (add-zero (length bs))
length-sealed command.ReqRn d n k bs = summed bs
length-sealed (command.Read p w) d n k bs = summed bs
length-sealed (command.Write p w) d n k bs = summed bs
length-sealed (command.Kill w) d n k bs = summed bs
length-sealed (command.Lock m a) d n k bs = summed bs
length-sealed (command.Access w) d n k bs = summed bs
length-sealed (command.BlockWrite p) d n k bs = summed bs
length-sealed (command.BlockErase p w) d n k bs = summed bs
length-sealed (command.ReadPermalock p w) d n k bs = summed bs
length-sealed (command.Permalock p) d n k bs = summed bs

-- THE FRAME: the bits that the code puts, and how many they are
pub frame-laid : (c : Command) (m : List ℕ) (n k : ℕ)
    → frame_bits c m n k ≡ seal_bits (layout_of c (length m) n k).check (open_bits (layout_of c (length m) n k) m)
unfolding frame_bits
frame-laid c m n k =
    let l = layout_of c (length m) n k in
    ap (sealed (shape_of c (length m) n k).check) (open-laid c (length m) n k m)
    ∙ sealed-laid c (length m) n k (open_bits l m) (length-open l m)

pub frame-length : (c : Command) (m : List ℕ) (n k : ℕ) → length (frame_bits c m n k) ≡ total_of (layout_of c (length m) n k)
frame-length c m n k =
    let l = layout_of c (length m) n k in
    ap length (frame-laid c m n k) ∙ length-sealed c (length m) n k (open_bits l m) ∙ length-open l m

-- its sums are small
ebv-bits : (p : ℕ) → (ebv p).bits ≤ 24
ebv-bits p = go (ltb p 128) (ltb p 16384)
  where
    go : (a b : Bool)
        → (cond a (field (p % 128) 8) (cond b (field ((128 + p / 128 % 128) * 256 + p % 128) 16) (field ((128 + p / 16384 % 128) * 65536 + ((128 + p / 128 % 128) * 256 + p % 128)) 24))).bits ≤ 24
    go true b = omega arith
    go false true = omega arith
    go false false = omega arith

pub narrow : (c : Command) (d n k : ℕ) → within c d ≡ true → Narrow (layout_of c d n k)
narrow c d n k e = go c (within-so c d e)
  where
    go : (c : Command) → Within c d → Narrow (layout_of c d n k)
    go (command.QueryRep s) h = (omega arith, omega arith, omega arith, omega arith, omega arith, omega arith, λ e. absurd (omega (arith, e)))
    go command.Ack h = (omega arith, omega arith, omega arith, omega arith, omega arith, omega arith, λ e. absurd (omega (arith, e)))
    go (command.Query r) h = (omega arith, omega arith, omega arith, omega arith, omega arith, omega arith, λ e. omega arith)
    go (command.QueryAdjust s u) h = (omega arith, omega arith, omega arith, omega arith, omega arith, omega arith, λ e. absurd (omega (arith, e)))
    go (command.Select t a p l) h = (omega arith, ebv-bits p.pointer, omega arith, omega (arith, h.4), omega arith, omega arith, λ e. absurd (omega (arith, e)))
    go command.Nak h = (omega arith, omega arith, omega arith, omega arith, omega arith, omega arith, λ e. absurd (omega (arith, e)))
    go command.ReqRn h = (omega arith, omega arith, omega arith, omega arith, omega arith, omega arith, λ e. absurd (omega (arith, e)))
    go (command.Read p w) h = (omega arith, ebv-bits p.pointer, omega arith, omega arith, omega arith, omega arith, λ e. absurd (omega (arith, e)))
    go (command.Write p w) h = (omega arith, ebv-bits p.pointer, omega arith, omega arith, omega arith, omega arith, λ e. absurd (omega (arith, e)))
    go (command.Kill w) h = (omega arith, omega arith, omega arith, omega arith, omega arith, omega arith, λ e. absurd (omega (arith, e)))
    go (command.Lock m a) h = (omega arith, omega arith, omega arith, omega arith, omega arith, omega arith, λ e. absurd (omega (arith, e)))
    go (command.Access w) h = (omega arith, omega arith, omega arith, omega arith, omega arith, omega arith, λ e. absurd (omega (arith, e)))
    go (command.BlockWrite p) h = (omega arith, ebv-bits p.pointer, omega arith, omega (arith, h.1.2), omega arith, omega arith, λ e. absurd (omega (arith, e)))
    go (command.BlockErase p w) h = (omega arith, ebv-bits p.pointer, omega arith, omega arith, omega arith, omega arith, λ e. absurd (omega (arith, e)))
    go (command.ReadPermalock p w) h = (omega arith, ebv-bits p.pointer, omega arith, omega arith, omega arith, omega arith, λ e. absurd (omega (arith, e)))
    go (command.Permalock p) h = (omega arith, ebv-bits p.pointer, omega arith, omega (arith, h.1.2), omega arith, omega arith, λ e. absurd (omega (arith, e)))

bits-from : (m : List ℕ) (i n : ℕ) → Bits (bits_from m i n)
bits-from m i zero = tt
bits-from m i (suc n) = (bit-lt m i, bits-from m (i + 1) n)

pub bits-open : (l : Layout) (m : List ℕ) → Bits (open_bits l m)
bits-open l m =
    bits-and ((head_bits l) ++ bits_from m 0 l.body) (field_bits l.tail)
    (bits-and (head_bits l) (bits_from m 0 l.body)
    (bits-and (field_bits l.front ++ field_bits l.middle) (field_bits l.back)
    (bits-and (field_bits l.front) (field_bits l.middle) (bits-of l.front.bits l.front.value) (bits-of l.middle.bits l.middle.value)) (bits-of l.back.bits l.back.value))
    (bits-from m 0 l.body))
    (bits-of l.tail.bits l.tail.value)
