-- Each frame that is made is heard as its command. Assumes nothing.
use Prim.Native.Nat.{ℕ, ◌+◌, ◌-◌, ◌*◌, ◌/◌, ◌%◌, ◌^◌, ◌≤◌, ◌<◌}
use mathlib.Core.Path.{◌≡◌, refl, sym, ap, ap₂, ◌∙◌}
use mathlib.Core.Bool.{Bool, true, false, cond, not}
use mathlib.Core.List.{List, [], ◌∷◌, ◌++◌, append-nil}
use native.Mathlib.Omega.{arith}
use lib.Bits.{bit_xor, xor_lt}
use lib.Dec.{eqb, ltb}
use lib.ListN.{length, take, length-append}
use borrow.Author.Tests.{ltb-false}
use Rattle.bits.specs.Bits.{bits_from, field_at, bits_of}
use Rattle.bits.proofs.Bits.{length-bits}
use Rattle.bits.proofs.Digits.{Bits, bits-of, bits-and}
use Rattle.crc.specs.Crc.{crc_of}
use Rattle.crc.specs.Crc5.{crc5_of}
use Rattle.frames.specs.declared.Order.{Order}
use Rattle.frames.specs.declared.Order.TheVariants as order
use Rattle.frames.specs.Message as heard
use Rattle.ebv.specs.Ebv.{pointer_at}
use Rattle.frames.specs.Frames.{span, checksum_right, exactly, heard_of}
use Rattle.frames.specs.Frames as frames
use Rattle.replies.specs.Replies.{checked}
use Rattle.replies.specs.Pack.{packed}
use Rattle.replies.proofs.Laws.{all_shown, length-packed}
use Rattle.depot.specs.declared.Place.{Place}
use Rattle.depot.specs.declared.Round.{Round}
use Rattle.depot.specs.declared.Command.{Command}
use Rattle.depot.specs.declared.Command.TheVariants as command
use Rattle.depot.specs.Limits.{within}
use Rattle.depot.specs.Making.{Field, fields, pointing, shape_bits, to_one, shape_of, frame_bits, sending, make_of}
use Rattle.depot.specs.Heard.{ebv_bytes, carried, brought_at, order_of, Words, Call, made, Shortest, Besides, Heard}
use Rattle.fields.specs.Steps.{seal_bits}
use Rattle.depot.specs.Steps.{layout_of, open_bits}
use Rattle.depot.proofs.Bounds.{Placed, Queried, Within, within-so}
use Rattle.fields.proofs.Behind.{length_from}
use Rattle.depot.proofs.Shapes.{summed, frame-laid, bits-open}
use Rattle.depot.proofs.Standing.{parts, stand, whole, field_of}
use Rattle.depot.proofs.Pointers.{none_shorter}
use Rattle.depot.proofs.Hearing.{taken_so, exactly-so, plainly-so, named, by_name, query_rep, ack, query, query_adjust, select, place-width, place_read, whole5}
use Rattle.depot.proofs.Hearing as hearing

-- fields, payload and fields, each where it stands
pub record Opened (m d : List ℕ) (head : List Field) (body : ℕ) (tail : List Field) : Type 0 where
  pub head_in : bits_from m 0 (length (fields head)) ≡ fields head
  pub body_in : bits_from m (length (fields head)) body ≡ bits_from d 0 body
  pub tail_in : bits_from m (length (fields head) + body) (length (fields tail)) ≡ fields tail

abbrev open_of : List ℕ → List Field → ℕ → List Field → List ℕ
open_of d head body tail = fields head ++ (bits_from d 0 body ++ fields tail)

open-width : (d : List ℕ) (head : List Field) (body : ℕ) (tail : List Field) → length (open_of d head body tail) ≡ length (fields head) + (body + length (fields tail))
open-width d head body tail =
    length-append (fields head) (bits_from d 0 body ++ fields tail)
    ∙ ap (λ (x : ℕ). length (fields head) + x) (length-append (bits_from d 0 body) (fields tail) ∙ ap (λ (x : ℕ). x + length (fields tail)) (length_from d 0 body))

opened : (m d : List ℕ) (head : List Field) (body : ℕ) (tail : List Field) → bits_from m 0 (length (open_of d head body tail)) ≡ open_of d head body tail
    → Opened m d head body tail
opened m d head body tail e =
    let payload = bits_from d 0 body in
    let n = length_from d 0 body in
    let a = parts m (fields head) (payload ++ fields tail) 0 (length (open_of d head body tail)) (length-append (fields head) (payload ++ fields tail)) e in
    let z : 0 + length (fields head) ≡ length (fields head) = omega arith in
    let b = parts m payload (fields tail) (length (fields head)) (length (payload ++ fields tail)) (length-append payload (fields tail)) (ap (λ (i : ℕ). bits_from m i (length (payload ++ fields tail))) (sym z) ∙ a.1) in
    record {
      head_in = a.0;
      body_in = ap (bits_from m (length (fields head))) (sym n) ∙ b.0;
      tail_in = ap (λ (k : ℕ). bits_from m (length (fields head) + k) (length (fields tail))) (sym n) ∙ b.1;
    }

fields_bits : (fs : List Field) → Bits (fields fs)
fields_bits [] = tt
fields_bits (f ∷ fs) = bits-and (bits_of f.1 f.0) (fields fs) (bits-of f.1 f.0) (fields_bits fs)

-- a frame with a CRC-16, and one to one tag
pub record Checked (m d : List ℕ) (n : ℕ) (head : List Field) (body : ℕ) (tail : List Field) : Type 0 where
  pub right : checksum_right m n ≡ true
  pub inside : Opened m d head body tail
  pub size : n ≡ length (fields head) + (body + length (fields tail)) + 16

checked-frame : (m d : List ℕ) (n : ℕ) (head : List Field) (body : ℕ) (tail : List Field) → n ≡ length (checked (open_of d head body tail))
    → bits_from m 0 n ≡ checked (open_of d head body tail) → Checked m d n head body tail
checked-frame m d n head body tail l e =
    let w = whole m (open_of d head body tail) n (l ∙ summed (open_of d head body tail)) e in
    record {
      right = w.1;
      inside = opened m d head body tail w.0;
      size = l ∙ summed (open_of d head body tail) ∙ ap (λ (x : ℕ). x + 16) (open-width d head body tail);
    }

pub record Addressed (m d : List ℕ) (n : ℕ) (head : List Field) (body h : ℕ) : Type 0 where
  pub right : checksum_right m n ≡ true
  pub head_in : bits_from m 0 (length (fields head)) ≡ fields head
  pub body_in : bits_from m (length (fields head)) body ≡ bits_from d 0 body
  pub number : field_at m (n - 32) 16 ≡ h
  pub size : n ≡ length (fields head) + body + 32

one_width : (v w : ℕ) → length (fields ((v, w) ∷ [])) ≡ w
one_width v w = ap length (append-nil (bits_of w v)) ∙ length-bits w v

addressed : (m d : List ℕ) (n : ℕ) (head : List Field) (body h : ℕ) → h < 65536 → n ≡ length (shape_bits (to_one h head body) d)
    → bits_from m 0 n ≡ shape_bits (to_one h head body) d → Addressed m d n head body h
addressed m d n head body h s l e =
    let c = checked-frame m d n head body ((h, 16) ∷ []) l e in
    let size : n ≡ length (fields head) + body + 32 = c.size ∙ omega (arith, one_width h 16) in
    let z : n - 32 ≡ length (fields head) + body = omega (arith, size) in
    record {
      right = c.right;
      head_in = c.inside.head_in;
      body_in = c.inside.body_in;
      number =
          field_of m (n - 32) 16 h s
          (ap₂ (bits_from m) z (sym (one_width h 16)) ∙ c.inside.tail_in ∙ append-nil (bits_of 16 h));
      size = size;
    }

-- WHAT EACH FRAME SAYS
module _ (d : List ℕ) (n k : ℕ) (small : n < 65536) (m : List ℕ) (size : ℕ) (there : size ≤ 8 * length m) where
  -- the frame of c stands in m
  abbrev Stands : Command → Type 0
  Stands c = (size ≡ length (shape_bits (shape_of c (length d) n k) d)) × (bits_from m 0 size ≡ shape_bits (shape_of c (length d) n k) d)

  abbrev Says : Command → Type 0
  Says c = (heard_of m size ≡ heard.said (record { number = carried c n; order = order_of c (length d) n k }))
      × (bits_from m (brought_at c (length d) n k) (shape_of c (length d) n k).body ≡ bits_from d 0 (shape_of c (length d) n k).body)
      × Besides c m size

  -- a command to one tag: its fields before the payload
  to-one : (head : List Field) (body : ℕ) → (size ≡ length (shape_bits (to_one n head body) d)) × (bits_from m 0 size ≡ shape_bits (to_one n head body) d)
      → Addressed m d size head body n
  to-one head body s = addressed m d size head body n small s.0 s.1

  req_rn : Stands command.ReqRn → Says command.ReqRn
  req_rn s =
      let head : List Field = (0xC1, 8) ∷ [] in
      let a = to-one head 0 s in
      let f = stand m 0 head (omega arith, tt) a.head_in in
      let l = one_width 0xC1 8 in
      let n40 : size ≡ 40 = a.size ∙ omega (arith, l) in
      (by_name m size (omega (arith, n40)) there 0xC1 (omega arith) (omega arith) f.0 ∙ exactly-so m size 40 n order.ReqRn n40 a.right a.number, refl, tt)

  -- fields of j bits, a place and one field more
  pub record Pointed (before : List Field) (j : ℕ) (p : Place) (v w body : ℕ) : Type 0 where
    pub front : bits_from m 0 (length (fields before)) ≡ fields before
    pub place : hearing.Placed m size j p v w
    pub right : checksum_right m size ≡ true
    pub number : field_at m (size - 32) 16 ≡ n
    pub wide : length (fields (pointing before p ((v, w) ∷ []))) ≡ j + 2 + 8 * ebv_bytes p.pointer + w
    pub body_in : bits_from m (length (fields (pointing before p ((v, w) ∷ [])))) body ≡ bits_from d 0 body
    pub total : size ≡ j + 34 + 8 * ebv_bytes p.pointer + w + body

  pointed : (before : List Field) (j : ℕ) (p : Place) (v w body : ℕ) → length (fields before) ≡ j → Placed p → v < 2 ^ w
      → (let head = pointing before p ((v, w) ∷ []) in (size ≡ length (shape_bits (to_one n head body) d)) × (bits_from m 0 size ≡ shape_bits (to_one n head body) d))
      → Pointed before j p v w body
  pointed before j p v w body b h l s =
      let head = pointing before p ((v, w) ∷ []) in
      let a = to-one head body s in
      let wide : length (fields head) ≡ j + 2 + 8 * ebv_bytes p.pointer + w = place-width before p v w ∙ omega (arith, b) in
      let r = place_read m size j before p v w b h l (omega (arith, a.size)) a.head_in in
      record { front = r.0; place = r.1; right = a.right; number = a.number; wide = wide; body_in = a.body_in; total = a.size ∙ omega (arith, wide) }

  -- one code of eight bits before the place
  abbrev one : ℕ → List Field
  one code = (code, 8) ∷ []

  -- a place and one field of w bits, and no payload
  naming : (code v w k : ℕ) (o : ℕ → ℕ → ℕ → Order) (p : Place) → 192 ≤ code → code < 208 → k ≡ 42 + w
      → named m size code ≡ frames.pointed (pointer_at m size 10) (λ q e. exactly m size (k + 8 * e) (o (field_at m 8 2) q (field_at m (10 + 8 * e) w)))
      → Placed p → v < 2 ^ w
      → (let head = pointing (one code) p ((v, w) ∷ []) in (size ≡ length (shape_bits (to_one n head 0) d)) × (bits_from m 0 size ≡ shape_bits (to_one n head 0) d))
      → (heard_of m size ≡ heard.said (record { number = n; order = o p.bank p.pointer v })) × Shortest m size 10 p
  naming code v w k o p low high z r h l s =
      let a = pointed (one code) 8 p v w 0 (one_width code 8) h l s in
      let f = stand m 0 (one code) (omega (arith, high), tt) a.front in
      let e = ebv_bytes p.pointer in (
        by_name m size (omega (arith, a.total)) there code low high f.0
            ∙ r
            ∙ rw (a.place.pointer, a.place.bank, a.place.after) (exactly-so m size (k + 8 * e) n (o p.bank p.pointer v) (a.total ∙ omega (arith, z)) a.right a.number),
        a.place.pointer,
      )

  read : (p : Place) (w : ℕ) → Placed p → w < 256 → Stands (command.Read p w) → Says (command.Read p w)
  read p w h l s =
      let a = naming 0xC2 w 8 50 (λ b q c. order.Read (span b q c)) p (omega arith) (omega arith) refl refl h l s in (a.0, refl, a.1)

  block_erase : (p : Place) (w : ℕ) → Placed p → w < 256 → Stands (command.BlockErase p w) → Says (command.BlockErase p w)
  block_erase p w h l s =
      let a = naming 0xC8 w 8 50 (λ b q c. order.BlockErase (span b q c)) p (omega arith) (omega arith) refl refl h l s in (a.0, refl, a.1)

  write : (p : Place) (w : ℕ) → Placed p → bit_xor w k < 65536 → Stands (command.Write p w) → Says (command.Write p w)
  write p w h l s =
      let a = naming 0xC3 (bit_xor w k) 16 58 (λ b q c. order.Write (span b q 1) c) p (omega arith) (omega arith) refl refl h l s in (a.0, refl, a.1)

  block_write : (p : Place) → Placed p → length d % 2 ≡ 0 → length d < 512 → Stands (command.BlockWrite p) → Says (command.BlockWrite p)
  block_write p h even most s =
      let c = length d / 2 in
      let a = pointed (one 0xC7) 8 p c 8 (8 * length d) (one_width 0xC7 8) h (omega arith) s in
      let f = stand m 0 (one 0xC7) (omega arith, tt) a.front in
      let e = ebv_bytes p.pointer in
      let z : 18 + 8 * e ≡ brought_at (command.BlockWrite p) (length d) n k = omega (arith, a.wide) in (
        by_name m size (omega (arith, a.total)) there 0xC7 (omega arith) (omega arith) f.0
            ∙ rw (a.place.pointer, a.place.bank, a.place.after)
            (exactly-so m size (50 + 8 * e + 16 * c) n (order.BlockWrite (span p.bank p.pointer c) (18 + 8 * e)) (a.total ∙ omega (arith, even)) a.right a.number)
            ∙ ap (λ (x : ℕ). heard.said (record { number = n; order = order.BlockWrite (span p.bank p.pointer c) x })) z,
        a.body_in,
        a.place.pointer,
      )

  -- a code and fields without a place
  kill : (w : ℕ) → bit_xor w k < 65536 → Stands (command.Kill w) → Says (command.Kill w)
  kill w l s =
      let head : List Field = (0xC4, 8) ∷ (bit_xor w k, 16) ∷ (0, 3) ∷ [] in
      let a = to-one head 0 s in
      let f = stand m 0 head (omega arith, (l, (omega arith, tt))) a.head_in in
      let wide : length (fields head) ≡ 27 = simp (length-append, length-bits) in
      let all : size ≡ 59 = a.size ∙ omega (arith, wide) in (
        by_name m size (omega (arith, all)) there 0xC4 (omega arith) (omega arith) f.0
            ∙ rw f.1.0 (exactly-so m size 59 n (order.Kill (bit_xor w k)) all a.right a.number),
        refl,
        f.1.1.0,
      )

  access : (w : ℕ) → bit_xor w k < 65536 → Stands (command.Access w) → Says (command.Access w)
  access w l s =
      let head : List Field = (0xC6, 8) ∷ (bit_xor w k, 16) ∷ [] in
      let a = to-one head 0 s in
      let f = stand m 0 head (omega arith, (l, tt)) a.head_in in
      let wide : length (fields head) ≡ 24 = simp (length-append, length-bits) in
      let all : size ≡ 56 = a.size ∙ omega (arith, wide) in (
        by_name m size (omega (arith, all)) there 0xC6 (omega arith) (omega arith) f.0
            ∙ rw f.1.0 (exactly-so m size 56 n (order.Access (bit_xor w k)) all a.right a.number),
        refl,
        tt,
      )

  lock : (x y : ℕ) → x < 1024 → y < 1024 → Stands (command.Lock x y) → Says (command.Lock x y)
  lock x y g h s =
      let head : List Field = (0xC5, 8) ∷ (x, 10) ∷ (y, 10) ∷ [] in
      let a = to-one head 0 s in
      let f = stand m 0 head (omega arith, (g, (h, tt))) a.head_in in
      let wide : length (fields head) ≡ 28 = simp (length-append, length-bits) in
      let all : size ≡ 60 = a.size ∙ omega (arith, wide) in (
        by_name m size (omega (arith, all)) there 0xC5 (omega arith) (omega arith) f.0
            ∙ rw (f.1.0, f.1.1.0) (exactly-so m size 60 n (order.Lock x y) all a.right a.number),
        refl,
        tt,
      )

  -- BlockPermalock: a code, RFU and the bit that says whether it locks
  abbrev three : ℕ → List Field
  three bit = (0xC9, 8) ∷ (0, 8) ∷ (bit, 1) ∷ []

  read-permalock : (p : Place) (w : ℕ) → Placed p → w < 256 → Stands (command.ReadPermalock p w) → Says (command.ReadPermalock p w)
  read-permalock p w h l s =
      let a = pointed (three 0) 17 p w 8 0 (simp (length-append, length-bits)) h l s in
      let f = stand m 0 (three 0) (omega arith, (omega arith, (omega arith, tt))) a.front in
      let e = ebv_bytes p.pointer in (
        by_name m size (omega (arith, a.total)) there 0xC9 (omega arith) (omega arith) f.0
            ∙ rw (a.place.pointer, a.place.bank, a.place.after, f.1.1.0, f.1.0) (exactly-so m size (59 + 8 * e) n (order.ReadPermalock 0 (span p.bank p.pointer w)) (a.total ∙ omega arith) a.right a.number),
        refl,
        a.place.pointer,
      )

  permalock : (p : Place) → Placed p → length d % 2 ≡ 0 → length d < 512 → Stands (command.Permalock p) → Says (command.Permalock p)
  permalock p h even most s =
      let c = length d / 2 in
      let a = pointed (three 1) 17 p c 8 (8 * length d) (simp (length-append, length-bits)) h (omega arith) s in
      let f = stand m 0 (three 1) (omega arith, (omega arith, (omega arith, tt))) a.front in
      let e = ebv_bytes p.pointer in
      let z : 27 + 8 * e ≡ brought_at (command.Permalock p) (length d) n k = omega (arith, a.wide) in (
        by_name m size (omega (arith, a.total)) there 0xC9 (omega arith) (omega arith) f.0
            ∙ rw (a.place.pointer, a.place.bank, a.place.after, f.1.1.0, f.1.0)
            (exactly-so m size (59 + 8 * e + 16 * c) n (order.Permalock 0 (span p.bank p.pointer c) (27 + 8 * e)) (a.total ∙ omega (arith, even)) a.right a.number)
            ∙ ap (λ (x : ℕ). heard.said (record { number = n; order = order.Permalock 0 (span p.bank p.pointer c) x })) z,
        a.body_in,
        a.place.pointer,
      )

  -- those without a check
  plain : (head tail : List Field) → size ≡ length (open_of d head 0 tail) → bits_from m 0 size ≡ open_of d head 0 tail
      → Opened m d head 0 tail × (size ≡ length (fields head) + length (fields tail))
  plain head tail l e =
      (opened m d head 0 tail (ap (bits_from m 0) (sym l) ∙ e), l ∙ open-width d head 0 tail ∙ omega arith)

  nak : Stands command.Nak → Says command.Nak
  nak s =
      let head : List Field = (0xC0, 8) ∷ [] in
      let a = plain head [] s.0 s.1 in
      let f = stand m 0 head (omega arith, tt) a.0.head_in in
      let all : size ≡ 8 = a.1 ∙ omega (arith, one_width 0xC0 8) in
      (by_name m size (omega (arith, all)) there 0xC0 (omega arith) (omega arith) f.0 ∙ plainly-so size 8 order.Nak all, refl, tt)

  query-reps : (q : ℕ) → q < 4 → Stands (command.QueryRep q) → Says (command.QueryRep q)
  query-reps q h s =
      let head : List Field = (0, 2) ∷ (q, 2) ∷ [] in
      let a = plain head [] s.0 s.1 in
      let f = stand m 0 head (omega arith, (h, tt)) a.0.head_in in
      let wide : length (fields head) ≡ 4 = simp (length-append, length-bits) in
      let all : size ≡ 4 = a.1 ∙ omega (arith, wide) in
      (query_rep m size (omega (arith, all)) there f.0 ∙ rw f.1.0 (plainly-so size 4 (order.QueryRep q) all), refl, tt)

  acks : Stands command.Ack → Says command.Ack
  acks s =
      let head : List Field = (1, 2) ∷ [] in
      let a = plain head ((n, 16) ∷ []) s.0 s.1 in
      let f = stand m 0 head (omega arith, tt) a.0.head_in in
      let z : length (fields head) + 0 ≡ 2 = omega (arith, one_width 1 2) in
      let number : field_at m 2 16 ≡ n = field_of m 2 16 n small (ap₂ (bits_from m) (sym z) (sym (one_width n 16)) ∙ a.0.tail_in ∙ append-nil (bits_of 16 n)) in
      let all : size ≡ 18 = a.1 ∙ omega (arith, one_width 1 2, one_width n 16) in
      (ack m size (omega (arith, all)) there f.0 ∙ rw number (plainly-so size 18 (order.Ack n) all), refl, tt)

  adjusts : (q u : ℕ) → q < 4 → u < 8 → Stands (command.QueryAdjust q u) → Says (command.QueryAdjust q u)
  adjusts q u g h s =
      let head : List Field = (9, 4) ∷ (q, 2) ∷ (u, 3) ∷ [] in
      let a = plain head [] s.0 s.1 in
      let f = stand m 0 head (omega arith, (g, (h, tt))) a.0.head_in in
      let wide : length (fields head) ≡ 9 = simp (length-append, length-bits) in
      let all : size ≡ 9 = a.1 ∙ omega (arith, wide) in
      (query_adjust m size (omega (arith, all)) there f.0 ∙ rw (f.1.0, f.1.1.0) (plainly-so size 9 (order.QueryAdjust q u) all), refl, tt)

  -- with a CRC-5
  queries : (r : Round) → Queried r → Stands (command.Query r) → Says (command.Query r)
  queries r h s =
      let head : List Field = (8, 4) ∷ (r.dr, 1) ∷ (r.m, 2) ∷ (r.trext, 1) ∷ (r.sel, 2) ∷ (r.session, 2) ∷ (r.target, 1) ∷ (r.q, 4) ∷ [] in
      let wide : length (fields head) ≡ 17 = simp (length-append, length-bits) in
      let bs = open_of d head 0 [] in
      let same : length bs ≡ 17 = open-width d head 0 [] ∙ omega (arith, wide) in
      let all : size ≡ 22 = s.0 ∙ length-append bs (bits_of 5 (crc5_of bs)) ∙ omega (arith, same, length-bits 5 (crc5_of bs)) in
      let w = whole5 m bs size (bits-open-of head) same all s.1 in
      let o = opened m d head 0 [] (ap (bits_from m 0) same ∙ w.0) in
      let f = stand m 0 head (omega arith, (h.0, (h.1, (h.2, (h.3, (h.4, (h.5, (h.6, tt)))))))) o.head_in in (
        query m size (omega (arith, all)) there f.0
            ∙ rw (f.1.1.1.1.0, f.1.1.1.1.1.0, f.1.1.1.1.1.1.0, f.1.1.1.1.1.1.1.0) (taken_so size 22 _ _ all w.1),
        refl,
        (f.1.0, f.1.1.0, f.1.1.1.0),
      )
    where
      bits-open-of : (head : List Field) → Bits (open_of d head 0 [])
      bits-open-of head = bits-and (fields head) [] (fields_bits head) tt

  selects : (t a : ℕ) (p : Place) (l : ℕ) → t < 8 → a < 8 → Placed p → l < 256 → Stands (command.Select t a p l) → Says (command.Select t a p l)
  selects t a p l g i h b s =
      let before : List Field = (10, 4) ∷ (t, 3) ∷ (a, 3) ∷ [] in
      let head = pointing before p ((l, 8) ∷ []) in
      let c = checked-frame m d size head l ((0, 1) ∷ []) s.0 s.1 in
      let e = ebv_bytes p.pointer in
      let short : length (fields before) ≡ 10 = simp (length-append, length-bits) in
      let wide : length (fields head) ≡ 20 + 8 * e = place-width before p l 8 ∙ omega (arith, short) in
      let all : size ≡ 37 + 8 * e + l = c.size ∙ omega (arith, wide, one_width 0 1) in
      let r = place_read m size 10 before p l 8 short h b (omega (arith, all, wide)) c.inside.head_in in
      let f = stand m 0 before (omega arith, (g, (i, tt))) r.0 in
      let z : length (fields head) + l ≡ 20 + 8 * e + l = ap (λ (x : ℕ). x + l) wide in
      let cut : field_at m (20 + 8 * e + l) 1 ≡ 0 = field_of m (20 + 8 * e + l) 1 0 (omega arith) (ap₂ (bits_from m) (sym z) (sym (one_width 0 1)) ∙ c.inside.tail_in ∙ append-nil (bits_of 1 0)) in (
        select m size (omega (arith, all)) there f.0
            ∙ rw (r.1.pointer, r.1.bank, r.1.after, f.1.0, f.1.1.0, cut) (taken_so size (37 + 8 * e + l) _ _ all c.right)
            ∙ ap (λ (x : ℕ). heard.said (record { number = 0; order = order.Select (record { target = t; action = a; bits = span p.bank p.pointer l; truncate = 0 }) x })) (sym wide),
        c.inside.body_in,
        r.1.pointer,
      )

  -- EVERY COMMAND within the limits
  says : (c : Command) → Within c (length d) → Words c → k < 65536 → Stands c → Says c
  says (command.QueryRep q) h w b s = query-reps q h s
  says command.Ack h w b s = acks s
  says (command.Query r) h w b s = queries r h s
  says (command.QueryAdjust q u) h w b s = adjusts q u h.0 h.1 s
  says (command.Select t a p l) h w b s = selects t a p l (omega (arith, h.0)) h.1 h.2 h.4 s
  says command.Nak h w b s = nak s
  says command.ReqRn h w b s = req_rn s
  says (command.Read p x) h w b s = read p x h.0 h.1 s
  says (command.Write p x) h w b s = write p x h (xor_lt 16 x k w b) s
  says (command.Kill x) h w b s = kill x (xor_lt 16 x k w b) s
  says (command.Lock x y) h w b s = lock x y h.0 h.1 s
  says (command.Access x) h w b s = access x (xor_lt 16 x k w b) s
  says (command.BlockWrite p) h w b s = block_write p h.0 h.1.0 h.1.2 s
  says (command.BlockErase p x) h w b s = block_erase p x h.0 h.1.1 s
  says (command.ReadPermalock p x) h w b s = read-permalock p x h.0 h.1.1 s
  says (command.Permalock p) h w b s = permalock p h.0 h.1.0 h.1.2 s

-- what making leaves where it answers 0
pub made_so : (c : Command) (d : List ℕ) (n k : ℕ) (room : List ℕ) → (make_of c d n k room).number ≡ 0
    → (within c (length d) ≡ true) × (make_of c d n k room ≡ sending 0 (length (frame_bits c d n k)) (packed (frame_bits c d n k) room)) × (length (frame_bits c d n k) ≤ 8 * length room)
unfolding make_of
made_so c d n k room e = go (within c (length d)) (ltb (length room) ((length (frame_bits c d n k) + 7) / 8)) refl refl e
  where
    go : (a b : Bool) → within c (length d) ≡ a → ltb (length room) ((length (frame_bits c d n k) + 7) / 8) ≡ b
        → (cond (not a) (sending 9 0 room) (cond b (sending 4 0 room) (sending 0 (length (frame_bits c d n k)) (packed (frame_bits c d n k) room)))).number ≡ 0
        → (within c (length d) ≡ true) × ((cond (not a) (sending 9 0 room) (cond b (sending 4 0 room) (sending 0 (length (frame_bits c d n k)) (packed (frame_bits c d n k) room)))) ≡ sending 0 (length (frame_bits c d n k)) (packed (frame_bits c d n k) room)) × (length (frame_bits c d n k) ≤ 8 * length room)
    go false b p q e = absurd (omega (arith, e))
    go true true p q e = absurd (omega (arith, e))
    go true false p q e = (p, refl, omega (arith, ltb-false (length room) ((length (frame_bits c d n k) + 7) / 8) q))

bits-sealed : (j : ℕ) (bs : List ℕ) → Bits bs → Bits (seal_bits j bs)
unfolding checked
bits-sealed j bs b = go (eqb j 16) (eqb j 5)
  where
    go : (x y : Bool) → Bits (cond x (checked bs) (cond y (bs ++ bits_of 5 (crc5_of (take 17 bs))) bs))
    go true y = bits-and bs (bits_of 16 (crc_of bs)) b (bits-of 16 (crc_of bs))
    go false true = bits-and bs (bits_of 5 (crc5_of (take 17 bs))) b (bits-of 5 (crc5_of (take 17 bs)))
    go false false = b

pub bits-frame : (c : Command) (d : List ℕ) (n k : ℕ) → Bits (frame_bits c d n k)
bits-frame c d n k =
    let l = layout_of c (length d) n k in rw (frame-laid c d n k) (bits-sealed l.check (open_bits l d) (bits-open l d))

-- the frame that stands in the room
module _ (c : Call) (room : List ℕ) where
  there : length (frame_bits c.command c.payload c.number c.cover) ≤ 8 * length room
      → length (frame_bits c.command c.payload c.number c.cover) ≤ 8 * length (packed (frame_bits c.command c.payload c.number c.cover) room)
  there h = omega (arith, h, length-packed (frame_bits c.command c.payload c.number c.cover) room)

  frame-says : within c.command (length c.payload) ≡ true
      → (h : length (frame_bits c.command c.payload c.number c.cover) ≤ 8 * length room)
      → Says c.payload c.number c.cover c.small.0 (packed (frame_bits c.command c.payload c.number c.cover) room)
      (length (frame_bits c.command c.payload c.number c.cover)) (there h) c.command
  unfolding frame_bits
  frame-says e h =
      says c.payload c.number c.cover c.small.0 (packed (frame_bits c.command c.payload c.number c.cover) room)
      (length (frame_bits c.command c.payload c.number c.cover)) (there h) c.command
      (within-so c.command (length c.payload) e) c.words c.small.1
      (refl, all_shown (frame_bits c.command c.payload c.number c.cover) room (bits-frame c.command c.payload c.number c.cover) h)

-- what the frame says, in a room where making answers 0
frame-in : (c : Call) (room : List ℕ) → (made c room).number ≡ 0
    → (heard_of (made c room).room (made c room).bits ≡ heard.said (record { number = carried c.command c.number; order = order_of c.command (length c.payload) c.number c.cover }))
    × (let n = (shape_of c.command (length c.payload) c.number c.cover).body in
    bits_from (made c room).room (brought_at c.command (length c.payload) c.number c.cover) n ≡ bits_from c.payload 0 n)
    × Besides c.command (made c room).room (made c room).bits
frame-in c room e = let s = made_so c.command c.payload c.number c.cover room e in rw s.1 (frame-says c room s.0 s.2)

pub heard-so : Heard
heard-so =
    record {
      said = λ c room e. (frame-in c room e).0;
      brought = λ c room e. (frame-in c room e).1;
      besides = λ c room e. (frame-in c room e).2;
      none_shorter = none_shorter;
    }
