-- Steps of the tag's own reading, for bits of which the fields are known. Assumes nothing.
use Prim.Native.Nat.{ℕ, ◌+◌, ◌-◌, ◌*◌, ◌/◌, ◌^◌, ◌≤◌, ◌<◌}
use mathlib.Core.Path.{◌≡◌, refl, sym, ap, ap₂, ◌∙◌}
use mathlib.Core.Bool.{Bool, true}
use mathlib.Core.List.{List, [], ◌∷◌, ◌++◌, append-nil}
use native.Mathlib.Omega.{arith}
use lib.Dec.{eqb}
use lib.ListN.{length, length-append}
use borrow.Author.Tests.{eq-eqb, le-ltb}
use Rattle.bits.specs.Bits.{bits_from, field_at, bits_of}
use Rattle.bits.specs.First.{first}
use Rattle.bits.proofs.Bits.{length-bits}
use Rattle.bits.proofs.Fields.{field-first}
use Rattle.bits.proofs.Digits.{Bits}
use Rattle.crc.specs.Crc5.{crc5_of}
use Rattle.crc.proofs.Linear.{of5, run-lt}
use Rattle.ebv.specs.Ebv.{pointer_at, whole}
use Rattle.frames.specs.declared.Order.{Order}
use Rattle.frames.specs.declared.Command.{Command}
use Rattle.frames.specs.Message.{Message}
use Rattle.frames.specs.Message as heard
use Rattle.frames.specs.Frames.{checksum_right, checksum5_right, taken, exactly, plainly, to_all, query_frame, select_frame, read_frame, write_frame, block_write_frame, block_erase_frame, permalock_frame, heard_of}
use Rattle.frames.specs.Steps.{query_rep_frame, ack_frame, query_adjust_frame, nak_frame, req_rn_frame, kill_frame, lock_frame, access_frame}
use Rattle.frames.proofs.Codes.{two-bits, four-bits}
use Rattle.depot.specs.declared.Place.{Place}
use Rattle.depot.specs.Making.{Field, fields, shortest, pointing}
use Rattle.depot.specs.Heard.{ebv_bytes}
use Rattle.depot.proofs.Shapes.{fields-append}
use Rattle.depot.proofs.Standing.{parts, field_of}
use Rattle.depot.proofs.Pointers.{width, pointer_read}

-- a frame of exactly k bits whose CRC is right
pub taken_so : (n k : ℕ) (right : Bool) (c : Command) → n ≡ k → right ≡ true → taken n k right c ≡ heard.said c
taken_so n k right c e r = rw r (simp (eq-eqb n k e))

pub exactly-so : (m : List ℕ) (n k h : ℕ) (o : Order) → n ≡ k → checksum_right m n ≡ true → field_at m (n - 32) 16 ≡ h
    → exactly m n k o ≡ heard.said (record { number = h; order = o })
exactly-so m n k h o e r f =
    taken_so n k (checksum_right m n) (record { number = field_at m (n - 32) 16; order = o }) e r
    ∙ ap (λ (x : ℕ). heard.said (record { number = x; order = o })) f

pub plainly-so : (n k : ℕ) (o : Order) → n ≡ k → plainly n k o ≡ heard.said (to_all o)
plainly-so n k o e = simp (eq-eqb n k e)

-- a code of eight bits chooses its frame
abbrev pub named : List ℕ → ℕ → ℕ → Message
named m n code =
    first
    ((nak_frame n, eqb code 0xC0)
    ∷ (req_rn_frame m n, eqb code 0xC1)
    ∷ (read_frame m n, eqb code 0xC2)
    ∷ (write_frame m n, eqb code 0xC3)
    ∷ (kill_frame m n, eqb code 0xC4)
    ∷ (lock_frame m n, eqb code 0xC5)
    ∷ (access_frame m n, eqb code 0xC6)
    ∷ (block_write_frame m n, eqb code 0xC7)
    ∷ (block_erase_frame m n, eqb code 0xC8)
    ∷ (permalock_frame m n, eqb code 0xC9)
    ∷ [])
    (heard.refused 7)

module _ (m : List ℕ) (n : ℕ) (a : 4 ≤ n) (b : n ≤ 8 * length m) where
  pub by_name : (code : ℕ) → 192 ≤ code → code < 208 → field_at m 0 8 ≡ code → heard_of m n ≡ named m n code
  unfolding heard_of
  by_name code low high e =
      let two : field_at m 0 2 ≡ 3 = two-bits m 3 (omega (arith, e)) (omega (arith, e)) in
      let four : field_at m 0 4 ≡ 12 = four-bits m 12 (omega (arith, e)) (omega (arith, e)) in
      simp (le-ltb _ _ a, le-ltb _ _ b, two, four, e)

  pub query_rep : field_at m 0 2 ≡ 0 → heard_of m n ≡ query_rep_frame m n
  unfolding heard_of
  query_rep e = simp (le-ltb _ _ a, le-ltb _ _ b, e)

  pub ack : field_at m 0 2 ≡ 1 → heard_of m n ≡ ack_frame m n
  unfolding heard_of
  ack e = simp (le-ltb _ _ a, le-ltb _ _ b, e)

  -- the codes of four bits
  top : (k : ℕ) → field_at m 0 4 ≡ k → field_at m 0 2 ≡ k / 4
  top k e = sym (field-first m 0 2 2) ∙ ap (λ (x : ℕ). x / 4) e

  pub query : field_at m 0 4 ≡ 8 → heard_of m n ≡ query_frame m n
  unfolding heard_of
  query e = simp (le-ltb _ _ a, le-ltb _ _ b, top 8 e, e)

  pub query_adjust : field_at m 0 4 ≡ 9 → heard_of m n ≡ query_adjust_frame m n
  unfolding heard_of
  query_adjust e = simp (le-ltb _ _ a, le-ltb _ _ b, top 9 e, e)

  pub select : field_at m 0 4 ≡ 10 → heard_of m n ≡ select_frame m n
  unfolding heard_of
  select e = simp (le-ltb _ _ a, le-ltb _ _ b, top 10 e, e)

-- the fields about a place: those before it, of j bits, then the bank, the pointer and one field more
pub record Placed (m : List ℕ) (n j : ℕ) (p : Place) (v w : ℕ) : Type 0 where
  pub bank : field_at m j 2 ≡ p.bank
  pub pointer : pointer_at m n (j + 2) ≡ whole p.pointer (ebv_bytes p.pointer)
  pub after : field_at m (j + 2 + 8 * ebv_bytes p.pointer) w ≡ v

pub place-width : (before : List Field) (p : Place) (v w : ℕ) → length (fields (pointing before p ((v, w) ∷ []))) ≡ length (fields before) + 2 + 8 * ebv_bytes p.pointer + w
place-width before p v w =
    ap length (fields-append before ((p.bank, 2) ∷ (shortest p.pointer ++ ((v, w) ∷ []))) ∙ ap (λ (bs : List ℕ). fields before ++ (bits_of 2 p.bank ++ bs)) (fields-append (shortest p.pointer) ((v, w) ∷ [])))
    ∙ length-append (fields before) (bits_of 2 p.bank ++ (fields (shortest p.pointer) ++ (bits_of w v ++ [])))
    ∙ ap (λ (x : ℕ). length (fields before) + x)
    (length-append (bits_of 2 p.bank) (fields (shortest p.pointer) ++ (bits_of w v ++ []))
    ∙ ap₂ ◌+◌ (length-bits 2 p.bank) (length-append (fields (shortest p.pointer)) (bits_of w v ++ []) ∙ ap₂ ◌+◌ (width p.pointer) (ap length (append-nil (bits_of w v)) ∙ length-bits w v)))
    ∙ omega arith

pub place_read : (m : List ℕ) (n j : ℕ) (before : List Field) (p : Place) (v w : ℕ) → length (fields before) ≡ j → (p.bank < 4) × (p.pointer < 0x200000) → v < 2 ^ w
    → length (fields (pointing before p ((v, w) ∷ []))) ≤ n
    → bits_from m 0 (length (fields (pointing before p ((v, w) ∷ [])))) ≡ fields (pointing before p ((v, w) ∷ []))
    → (bits_from m 0 (length (fields before)) ≡ fields before) × Placed m n j p v w
place_read m n j before p v w l h s f e =
    let bank = bits_of 2 p.bank in
    let pointer = fields (shortest p.pointer) in
    let after = bits_of w v ++ [] in
    let all : fields (pointing before p ((v, w) ∷ [])) ≡ fields before ++ (bank ++ (pointer ++ after)) = fields-append before ((p.bank, 2) ∷ (shortest p.pointer ++ ((v, w) ∷ []))) ∙ ap (λ (bs : List ℕ). fields before ++ (bank ++ bs)) (fields-append (shortest p.pointer) ((v, w) ∷ [])) in
    let wide = place-width before p v w in
    let one = length-bits 2 p.bank in
    let two = width p.pointer in
    let three : length after ≡ w = ap length (append-nil (bits_of w v)) ∙ length-bits w v in
    let last : length (pointer ++ after) ≡ 8 * ebv_bytes p.pointer + w = length-append pointer after ∙ ap₂ ◌+◌ two three in
    let rest : length (bank ++ (pointer ++ after)) ≡ 2 + (8 * ebv_bytes p.pointer + w) = length-append bank (pointer ++ after) ∙ ap₂ ◌+◌ one last in
    let a = parts m (fields before) (bank ++ (pointer ++ after)) 0 (length (fields (pointing before p ((v, w) ∷ [])))) (wide ∙ omega (arith, rest)) (e ∙ all) in
    let x : 0 + length (fields before) ≡ j = omega (arith, l) in
    let b = parts m bank (pointer ++ after) j (length (bank ++ (pointer ++ after))) (length-append bank (pointer ++ after)) (ap (λ (i : ℕ). bits_from m i (length (bank ++ (pointer ++ after)))) (sym x) ∙ a.1) in
    let y : j + length bank ≡ j + 2 = ap (λ (i : ℕ). j + i) one in
    let c = parts m pointer after (j + 2) (length (pointer ++ after)) (length-append pointer after) (ap (λ (i : ℕ). bits_from m i (length (pointer ++ after))) (sym y) ∙ b.1) in
    let z : j + 2 + length pointer ≡ j + 2 + 8 * ebv_bytes p.pointer = ap (λ (i : ℕ). j + 2 + i) two in (
      a.0,
      record {
        bank = field_of m j 2 p.bank h.0 (ap (bits_from m j) (sym one) ∙ b.0);
        pointer = pointer_read m n (j + 2) p.pointer h.1 (omega (arith, wide, l, f)) c.0;
        after =
            field_of m (j + 2 + 8 * ebv_bytes p.pointer) w v s
            (ap₂ (bits_from m) (sym z) (sym three) ∙ c.1 ∙ append-nil (bits_of w v));
      },
    )

-- the CRC-5 behind 17 bits
crc5-lt : (bs : List ℕ) → Bits bs → crc5_of bs < 32
unfolding crc5_of
crc5-lt bs b = run-lt of5 bs 0x09 (omega arith) b

pub whole5 : (m bs : List ℕ) (n : ℕ) → Bits bs → length bs ≡ 17 → n ≡ 22 → bits_from m 0 n ≡ bs ++ bits_of 5 (crc5_of bs) → (bits_from m 0 17 ≡ bs) × (checksum5_right m ≡ true)
unfolding checksum5_right
whole5 m bs n b l k e =
    let sum = bits_of 5 (crc5_of bs) in
    let p = parts m bs sum 0 n (k ∙ omega (arith, l, length-bits 5 (crc5_of bs))) e in
    let z : 0 + length bs ≡ 17 = omega (arith, l) in
    let same : bits_from m 0 17 ≡ bs = ap (bits_from m 0) (sym l) ∙ p.0 in
    let f : field_at m 17 5 ≡ crc5_of bs = field_of m 17 5 (crc5_of bs) (crc5-lt bs b) (ap₂ (bits_from m) (sym z) (sym (length-bits 5 (crc5_of bs))) ∙ p.1) in
    (same, rw (f, same) (eq-eqb (crc5_of bs) (crc5_of bs) refl))
