-- The tag's replies are read as what they say, and nothing else is read. Assumes nothing.
use Rattle.std.specs.Prelude.{Option, Some}
use Prim.Native.Nat.{ℕ, zero, suc, ◌+◌, ◌*◌, ◌/◌, ◌^◌, ◌≤◌, ◌<◌}
use mathlib.Core.Path.{◌≡◌, refl, sym, ap, ap₂, ◌∙◌}
use mathlib.Core.Logic.{◌⊎◌, inl, inr}
use mathlib.Core.Bool.{Bool, true, false, cond, ◌&&◌}
use mathlib.Core.List.{List, [], ◌∷◌, ◌++◌, append-nil, append_assoc}
use native.Mathlib.Numerals.{add-one}
use native.Mathlib.Omega.{arith}
use lib.Dec.{eqb, ltb}
use lib.ListN.{length, length-append}
use borrow.Author.Tests.{eq-eqb, ne_eqb, lt-ltb}
use Rattle.bits.specs.Words.{word_at}
use Rattle.bits.specs.Bits.{bits_from, field_at, bits_of, words_bits}
use Rattle.bits.proofs.Bits.{length-bits}
use Rattle.bits.proofs.Fields.{field-first}
use Rattle.frames.specs.Frames.{checksum_right}
use Rattle.replies.specs.declared.Reply.{Reply}
use Rattle.replies.specs.declared.Reply.TheVariants as reply
use Rattle.replies.specs.Replies.{checked, reply_bits}
use Rattle.replies.specs.Pack.{packed}
use Rattle.replies.proofs.Laws.{all_shown, length-packed, length-reply, bits-reply, length-words}
use Rattle.depot.specs.declared.Command.{Command}
use Rattle.readings.specs.declared.Awaited.{Awaited}
use Rattle.readings.specs.declared.Awaited.TheVariants as await
use Rattle.depot.specs.Limits.{within}
use Rattle.depot.specs.Making.{Field, fields}
use Rattle.readings.specs.Reading.{Told, asked}
use Rattle.depot.specs.Reading.{read_of}
use Rattle.readings.specs.Steps.{is_drawn, kind_rows, awaited_rows}
use Rattle.readings.specs.Steps as steps
use Rattle.depot.specs.Reading.{awaited_by}
use Rattle.depot.specs.Meant.{meant, Replies}
use Rattle.depot.specs.Meant as meaning
use Rattle.depot.proofs.Answers.{read_short, read_told}
use Rattle.fields.proofs.Behind.{last_bit}
use Rattle.depot.proofs.Shapes.{summed}
use Rattle.depot.proofs.Standing.{parts, Small, Stand, stand, whole, field_of}

-- the replies as fields
success-fields : (h : ℕ) → 0 ∷ bits_of 16 h ≡ fields ((0, 1) ∷ (h, 16) ∷ [])
success-fields h = ap₂ ◌++◌ (sym (last_bit 0)) (sym (append-nil (bits_of 16 h)))

error-fields : (e h : ℕ) → (1 ∷ bits_of 8 e) ++ bits_of 16 h ≡ fields ((1, 1) ∷ (e, 8) ∷ (h, 16) ∷ [])
error-fields e h = ap₂ ◌++◌ (sym (last_bit 1)) (ap (λ (bs : List ℕ). bits_of 8 e ++ bs) (sym (append-nil (bits_of 16 h))))

-- n bits of m, of which the CRC-16 is right, by the fields before it
module _ (m : List ℕ) (n : ℕ) where
  fields_in : (fs : List Field) → Small fs → n ≡ length (checked (fields fs)) → bits_from m 0 n ≡ checked (fields fs) → Stand m 0 fs × (checksum_right m n ≡ true)
  fields_in fs s l e = let w = whole m (fields fs) n (l ∙ summed (fields fs)) e in (stand m 0 fs s w.0, w.1)

  -- a row that holds, behind a CRC-16 that is right
  told-right : (h : ℕ) (a : Option Awaited) → is_drawn a ≡ false → checksum_right m n ≡ true → steps.saying (awaited_rows h n m a) ≡ steps.saying (kind_rows h n m a)
  told-right h a e r = rw (e, r)

-- the first word of several
words-first : (m : List ℕ) (i k : ℕ) → words_bits m i (suc k) ≡ bits_of 16 (word_at m i) ++ words_bits m (i + 1) k
unfolding words_bits
words-first m i zero = let z : i + 0 ≡ i = omega arith in rw z (sym (append-nil (bits_of 16 (word_at m i))))
words-first m i (suc k) =
    let z : i + suc k ≡ i + 1 + k = omega arith in
    ap₂ ◌++◌ (words-first m i k) (ap (λ (j : ℕ). bits_of 16 (word_at m j)) z)
    ∙ append_assoc (bits_of 16 (word_at m i)) (words_bits m (i + 1) k) (bits_of 16 (word_at m (i + 1 + k)))

-- the words of a reply where they stand
module _ (m : List ℕ) (h : ℕ) (p : List ℕ) (n i k : ℕ) where
  pub shown-in : n ≡ length (reply_bits m (reply.Words i k h)) → bits_from p 0 n ≡ reply_bits m (reply.Words i k h)
      → (checksum_right p n ≡ true) × (bits_from p 0 1 ≡ bits_of 1 0) × (bits_from p 1 (16 * k) ≡ words_bits m i k) × (bits_from p (1 + 16 * k) 16 ≡ bits_of 16 h)
  shown-in l e =
      let ws = words_bits m i k in
      let bs = (0 ∷ ws) ++ bits_of 16 h in
      let w = whole p bs n (l ∙ summed bs) e in
      let long : length (0 ∷ ws) ≡ 1 + 16 * k = omega (arith, length-words m i k) in
      let a = parts p (0 ∷ ws) (bits_of 16 h) 0 (length bs) (length-append (0 ∷ ws) (bits_of 16 h)) w.0 in
      let b = parts p (0 ∷ []) ws 0 (length (0 ∷ ws)) (omega arith) a.0 in
      let z : 0 + length (0 ∷ ws) ≡ 1 + 16 * k = omega (arith, long) in (
        w.1,
        b.0 ∙ sym (last_bit 0),
        ap (bits_from p 1) (sym (length-words m i k)) ∙ b.1,
        ap₂ (bits_from p) (sym z) (sym (length-bits 16 h)) ∙ a.1,
      )

  pub epc-in : n ≡ length (reply_bits m (reply.Epc i k)) → bits_from p 0 n ≡ reply_bits m (reply.Epc i k)
      → (checksum_right p n ≡ true) × (bits_from p 0 (16 * k) ≡ words_bits m i k)
  epc-in l e =
      let w = whole p (words_bits m i k) n (l ∙ summed (words_bits m i k)) e in
      (w.1, ap (bits_from p 0) (sym (length-words m i k)) ∙ w.0)

-- a row of which a part fails
passed : (a b c : Bool) (x y : Told) → b ≡ false → cond (a && (b && c)) x y ≡ y
passed true b c x y e = rw e
passed false b c x y e = refl

-- a reply that stands in the first n bits of p
module _ (m : List ℕ) (h : ℕ) (small : h < 65536) (p : List ℕ) (n : ℕ) where
  abbrev In : Reply → Type 0
  In r = (n ≡ length (reply_bits m r)) × (bits_from p 0 n ≡ reply_bits m r)

  abbrev Reads : Option Awaited → Reply → Type 0
  Reads a r = steps.saying (awaited_rows h n p a) ≡ meant r

  drawn-so : (w : ℕ) → w < 65536 → In (reply.Drawn w) → Reads (Some await.Drawn) (reply.Drawn w)
  drawn-so w b s =
      let size : n ≡ 16 = s.0 ∙ length-bits 16 w in
      rw (field_of p 0 16 w b (ap (bits_from p 0) (sym size) ∙ s.1)) (simp (eq-eqb n 16 size))

  number_in : (w : ℕ) → w < 65536 → In (reply.Number w) → (n ≡ 32) × (field_at p 0 16 ≡ w) × (checksum_right p n ≡ true)
  number_in w b s =
      let one : List Field = (w, 16) ∷ [] in
      let same : bits_of 16 w ≡ fields one = sym (append-nil (bits_of 16 w)) in
      let f = fields_in p n one (b, tt) (s.0 ∙ ap (λ (bs : List ℕ). length (checked bs)) same) (s.1 ∙ ap checked same) in
      (s.0 ∙ summed (bits_of 16 w) ∙ ap (λ (x : ℕ). x + 16) (length-bits 16 w), f.0.0, f.1)

  renewed-so : (w : ℕ) → w < 65536 → In (reply.Number w) → Reads (Some await.Renewed) (reply.Number w)
  renewed-so w b s = let f = number_in w b s in rw (f.1, f.2) (simp (eq-eqb n 32 f.0))

  handle-so : In (reply.Number h) → Reads (Some await.Handle) (reply.Number h)
  handle-so s = let f = number_in h small s in rw (f.1, f.2) (simp (eq-eqb n 32 f.0, eq-eqb h h refl))

  first_so : In (reply.Number h) → Reads (Some await.Half) (reply.Number h)
  first_so s = let f = number_in h small s in rw (f.1, f.2) (simp (eq-eqb n 32 f.0, eq-eqb h h refl))

  success-in : In (reply.Success h) → (n ≡ 33) × (field_at p 0 1 ≡ 0) × (field_at p 1 16 ≡ h) × (checksum_right p n ≡ true)
  success-in s =
      let two : List Field = (0, 1) ∷ (h, 16) ∷ [] in
      let same = success-fields h in
      let f = fields_in p n two (omega arith, (small, tt)) (s.0 ∙ ap (λ (bs : List ℕ). length (checked bs)) same) (s.1 ∙ ap checked same) in
      (s.0 ∙ summed (0 ∷ bits_of 16 h) ∙ omega (arith, length-bits 16 h), f.0.0, f.0.1.0, f.1)

  success-so : In (reply.Success h) → Reads (Some await.Done) (reply.Success h)
  success-so s = let f = success-in s in rw (f.1, f.2, f.3, f.0) (simp (eq-eqb h h refl))

  second_so : In (reply.Success h) → Reads (Some await.Half) (reply.Success h)
  second_so s = let f = success-in s in rw (f.1, f.2, f.3, f.0) (simp (eq-eqb h h refl))

  error-in : (e : ℕ) → e < 256 → In (reply.Error e h) → (n ≡ 41) × (field_at p 0 1 ≡ 1) × (field_at p 1 8 ≡ e) × (field_at p 9 16 ≡ h) × (checksum_right p n ≡ true)
  error-in e b s =
      let three : List Field = (1, 1) ∷ (e, 8) ∷ (h, 16) ∷ [] in
      let same = error-fields e h in
      let f = fields_in p n three (omega arith, (b, (small, tt))) (s.0 ∙ ap (λ (bs : List ℕ). length (checked bs)) same) (s.1 ∙ ap checked same) in
      (s.0 ∙ ap (λ (bs : List ℕ). length (checked bs)) same ∙ summed (fields three) ∙ simp (length-append, length-bits), f.0.0, f.0.1.0, f.0.1.1.0, f.1)

  error-so : (e : ℕ) → e < 256 → In (reply.Error e h) → Reads (Some await.Done) (reply.Error e h)
  error-so e b s = let f = error-in e b s in rw (f.1, f.2, f.3, f.4, f.0) (simp (eq-eqb h h refl))

  half-error-so : (e : ℕ) → e < 256 → In (reply.Error e h) → Reads (Some await.Half) (reply.Error e h)
  half-error-so e b s = let f = error-in e b s in rw (f.1, f.2, f.3, f.4, f.0) (simp (eq-eqb h h refl))

  words-error-so : (c e : ℕ) → e < 256 → In (reply.Error e h) → Reads (Some (await.Words c)) (reply.Error e h)
  words-error-so c e b s =
      let f = error-in e b s in
      let k = asked h n p c in
      let other : eqb n (33 + 16 * k) ≡ false = ne_eqb n (33 + 16 * k) (λ q. omega (arith, f.0, q)) in
      rw f.4 (passed (ltb 0 k && ltb k 4097) _ _ _ _ other ∙ rw (f.1, f.2, f.3, f.0) (simp (eq-eqb h h refl)))

  words-so : (c i k : ℕ) → (c ≡ 0) ⊎ (c ≡ k) → 1 ≤ k → k ≤ 4096 → In (reply.Words i k h) → Reads (Some (await.Words c)) (reply.Words i k h)
  words-so c i k d l t s =
      let f = shown-in m h p n i k s.0 s.1 in
      let size : n ≡ 33 + 16 * k = s.0 ∙ length-reply m (reply.Words i k h) ∙ omega arith in
      let zero_in : field_at p 0 1 ≡ 0 = field_of p 0 1 0 (omega arith) f.1 in
      let handle-in : field_at p (1 + 16 * k) 16 ≡ h = field_of p (1 + 16 * k) 16 h small f.3 in
      rw (asked-so c k d size l, f.0) (simp (lt-ltb 0 k l, lt-ltb k 4097 (omega arith), eq-eqb n (33 + 16 * k) size, zero_in, handle-in, eq-eqb h h refl))
    where
      asked-so : (c k : ℕ) → (c ≡ 0) ⊎ (c ≡ k) → n ≡ 33 + 16 * k → 1 ≤ k → asked h n p c ≡ k
      asked-so c k (inl e) size l = rw e (omega (arith, size))
      asked-so c k (inr e) size l = simp (ne_eqb c 0 (λ z. omega (arith, e, z, l))) e

  epc-so : (i : ℕ) → word_at m i < 65536 → In (reply.Epc i (word_at m i / 2048 + 1)) → Reads (Some await.Epc) (reply.Epc i (word_at m i / 2048 + 1))
  epc-so i b s =
      let l = word_at m i / 2048 in
      let f = epc-in m h p n i (l + 1) s.0 s.1 in
      let size : n ≡ 16 * (l + 2) = s.0 ∙ length-reply m (reply.Epc i (l + 1)) ∙ omega arith in
      let q = parts p (bits_of 16 (word_at m i)) (words_bits m (i + 1) l) 0 (16 * (l + 1)) (omega (arith, length-bits 16 (word_at m i), length-words m (i + 1) l)) (f.1 ∙ ap (words_bits m i) (add-one l) ∙ words-first m i l) in
      let pc : field_at p 0 16 ≡ word_at m i = field_of p 0 16 (word_at m i) b (ap (bits_from p 0) (sym (length-bits 16 (word_at m i))) ∙ q.0) in
      let top : field_at p 0 5 ≡ l = sym (field-first p 0 5 11) ∙ ap (λ (x : ℕ). x / 2 ^ 11) pc in
      rw (top, f.0) (simp (eq-eqb n (16 * (l + 2)) size))

  -- each reply is read as what it says
  meant-so : (a : Option Awaited) (r : Reply) → Replies m h a r → In r → 16 ≤ n → Reads a r
  meant-so a r (meaning.silence b) s l = absurd (omega (arith, s.0))
  meant-so a r (meaning.drawn w b) s l = drawn-so w b s
  meant-so a r (meaning.epc i b) s l = epc-so i b s
  meant-so a r (meaning.renewed w b) s l = renewed-so w b s
  meant-so a r meaning.handle s l = handle-so s
  meant-so a r meaning.first-half s l = first_so s
  meant-so a r meaning.second-half s l = second_so s
  meant-so a r (meaning.half-error e b) s l = half-error-so e b s
  meant-so a r meaning.success s l = success-so s
  meant-so a r (meaning.error e b) s l = error-so e b s
  meant-so a r (meaning.words c i k d x y) s l = words-so c i k d x y s
  meant-so a r (meaning.words-error c e b) s l = words-error-so c e b s

-- a reply that is not silent has 16 bits at least
long-enough : (m : List ℕ) (h : ℕ) (a : Option Awaited) (r : Reply) → Replies m h a r → (r ≡ reply.Silence) ⊎ (16 ≤ length (reply_bits m r))
long-enough m h a r (meaning.silence b) = inl refl
long-enough m h a r (meaning.drawn w b) = inr (omega (arith, length-reply m r))
long-enough m h a r (meaning.epc i b) = inr (omega (arith, length-reply m r))
long-enough m h a r (meaning.renewed w b) = inr (omega (arith, length-reply m r))
long-enough m h a r meaning.handle = inr (omega (arith, length-reply m r))
long-enough m h a r meaning.first-half = inr (omega (arith, length-reply m r))
long-enough m h a r meaning.second-half = inr (omega (arith, length-reply m r))
long-enough m h a r (meaning.half-error e b) = inr (omega (arith, length-reply m r))
long-enough m h a r meaning.success = inr (omega (arith, length-reply m r))
long-enough m h a r (meaning.error e b) = inr (omega (arith, length-reply m r))
long-enough m h a r (meaning.words c i k d x y) = inr (omega (arith, length-reply m r))
long-enough m h a r (meaning.words-error c e b) = inr (omega (arith, length-reply m r))

-- READING, of a command within the limits
module _ (c : Command) (d : List ℕ) (h : ℕ) (inside : within c (length d) ≡ true) (small : h < 65536) where
  pub as_meant : (m room : List ℕ) (r : Reply) → Replies m h (awaited_by c) r → length (reply_bits m r) ≤ 8 * length room
      → read_of c d h (length (reply_bits m r)) (packed (reply_bits m r) room) ≡ meant r
  as_meant m room r x f = go (long-enough m h (awaited_by c) r x)
    where
      there : length (reply_bits m r) ≤ 8 * length (packed (reply_bits m r) room)
      there = omega (arith, f, length-packed (reply_bits m r) room)

      go : (r ≡ reply.Silence) ⊎ (16 ≤ length (reply_bits m r)) → read_of c d h (length (reply_bits m r)) (packed (reply_bits m r) room) ≡ meant r
      go (inl e) = rw e (sym (read_short c d h 0 (packed [] room) inside (omega arith)))
      go (inr l) =
          sym (read_told c d h (length (reply_bits m r)) (packed (reply_bits m r) room) inside l there)
          ∙ meant-so m h small (packed (reply_bits m r) room) (length (reply_bits m r)) (awaited_by c) r x (refl, all_shown (reply_bits m r) room (bits-reply m r) f) l
