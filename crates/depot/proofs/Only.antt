-- Nothing else is read: bits that are not refused are those of a reply that says what was read. Assumes nothing.
use Rattle.std.specs.Prelude.{Option, Some, None}
use Prim.Native.Nat.{ℕ, zero, suc, ◌+◌, ◌-◌, ◌*◌, ◌/◌, ◌%◌, ◌≤◌, ◌<◌}
use mathlib.Core.Path.{◌≡◌, refl, sym, ap, ap₂, subst, ◌∙◌}
use mathlib.Core.Logic.{◌⊎◌, inl, inr}
use mathlib.Core.Bool.{Bool, true, false, cond, not, ◌&&◌}
use mathlib.Core.List.{List, [], ◌∷◌, ◌++◌}
use native.Mathlib.Omega.{arith}
use native.Mathlib.Decide.{dec_le}
use lib.Dec.{eqb, ltb}
use lib.ListN.{length, get_or}
use borrow.Author.Tests.{eqb-true, ltb-true}
use Rattle.bits.specs.Words.{word_at}
use Rattle.bits.specs.Bits.{bits_from, field_at, bits_of, words_bits}
use Rattle.bits.proofs.Bits.{bits-append}
use Rattle.bits.proofs.Below.{and_left, and_right}
use Rattle.bits.proofs.Fields.{field-bits, field_lt, field-append, field-first}
use Rattle.crc.specs.Crc.{crc_of}
use Rattle.frames.specs.Frames.{checksum_right}
use Rattle.replies.specs.declared.Reply.{Reply}
use Rattle.replies.specs.declared.Reply.TheVariants as reply
use Rattle.replies.specs.Replies.{checked, reply_bits}
use Rattle.depot.specs.declared.Command.{Command}
use Rattle.readings.specs.declared.Awaited.{Awaited}
use Rattle.readings.specs.declared.Awaited.TheVariants as await
use Rattle.depot.specs.Limits.{within}
use Rattle.readings.specs.Reading.{Told, Row, words, number, refused, drawn, epc, renewed, handle, success, failure, shown, asked, wrong_sum}
use Rattle.depot.specs.Reading.{read_of}
use Rattle.readings.specs.Steps.{is_drawn, kind_rows, awaited_rows, saying}
use Rattle.depot.specs.Reading.{awaited_by}
use Rattle.depot.specs.Meant.{meant, Replies, IsRefused}
use Rattle.depot.specs.Meant as answers
use Rattle.depot.proofs.Answers.{read_short, read_past, read_told}
use Rattle.fields.proofs.Behind.{last_bit}

-- bytes of some bits, and the words in them
bytes_from : List ℕ → ℕ → ℕ → List ℕ
bytes_from b i zero = []
bytes_from b i (suc n) = field_at b i 8 ∷ bytes_from b (i + 8) n

byte_at : (b : List ℕ) (i n j : ℕ) → j < n → get_or (bytes_from b i n) j 0 ≡ field_at b (i + 8 * j) 8
unfolding bytes_from
byte_at b i zero j h = absurd (omega arith)
byte_at b i (suc n) zero h = let z : i + 8 * 0 ≡ i = omega arith in ap (λ (x : ℕ). field_at b x 8) (sym z)
byte_at b i (suc n) (suc j) h = let z : i + 8 + 8 * j ≡ i + 8 * suc j = omega arith in byte_at b (i + 8) n j (omega arith) ∙ ap (λ (x : ℕ). field_at b x 8) z

word-at : (b : List ℕ) (i k j : ℕ) → j < k → word_at (bytes_from b i (2 * k)) j ≡ field_at b (i + 16 * j) 16
unfolding word_at
word-at b i k j h =
    let y : i + 8 * (2 * j) ≡ i + 16 * j = omega arith in
    let z : i + 8 * (2 * j + 1) ≡ i + 16 * j + 8 = omega arith in
    ap₂ (λ (x y : ℕ). x * 256 + y) (byte_at b i (2 * k) (2 * j) (omega arith) ∙ ap (λ (x : ℕ). field_at b x 8) y) (byte_at b i (2 * k) (2 * j + 1) (omega arith) ∙ ap (λ (x : ℕ). field_at b x 8) z)
    ∙ sym (field-append b (i + 16 * j) 8 8)

words-from : (b : List ℕ) (i k : ℕ) → bits_from b i (16 * k) ≡ words_bits (bytes_from b i (2 * k)) 0 k
unfolding words_bits
words-from b i k = go k (omega arith)
  where
    go : (j : ℕ) → j ≤ k → bits_from b i (16 * j) ≡ words_bits (bytes_from b i (2 * k)) 0 j
    go zero h = refl
    go (suc j) h =
        let e : 16 * suc j ≡ 16 * j + 16 = omega arith in
        let z : 0 + j ≡ j = omega arith in
        ap (bits_from b i) e ∙ bits-append b i (16 * j) 16
        ∙ ap₂ ◌++◌ (go j (omega arith)) (sym (field-bits b (i + 16 * j) 16) ∙ ap (bits_of 16) (sym (word-at b i k j (omega arith)) ∙ ap (word_at (bytes_from b i (2 * k))) (sym z)))

drawn-not : true ≡ false → ⊥
drawn-not e = subst (λ (b : Bool). cond b (Unit {0}) ⊥) e tt

-- n bits of b, read for a command with the number h
module _ (h n : ℕ) (b : List ℕ) where
  -- bits whose CRC-16 is right are the bits before it with their CRC-16
  rest : (j : ℕ) → n ≡ j + 16 → checksum_right b n ≡ true → bits_from b 0 n ≡ checked (bits_from b 0 j)
  unfolding checked checksum_right
  rest j e r =
      let z : n - 16 ≡ j = omega (arith, e) in
      let y : 0 + j ≡ j = omega arith in
      let sum : field_at b j 16 ≡ crc_of (bits_from b 0 j) = rw z at (eqb-true (field_at b (n - 16) 16) (crc_of (bits_from b 0 (n - 16))) r) in
      ap (bits_from b 0) e ∙ bits-append b 0 j 16
      ∙ ap (λ (bs : List ℕ). bits_from b 0 j ++ bs) (ap (λ (i : ℕ). bits_from b i 16) y ∙ sym (field-bits b j 16) ∙ ap (bits_of 16) sum)

  -- a reply that says x
  abbrev Said : Option Awaited → Told → Type 0
  Said a x = (m : List ℕ) × (r : Reply) × Replies m h a r × (x ≡ meant r) × (bits_from b 0 n ≡ reply_bits m r)

  abbrev Sound : Option Awaited → Row → Type 0
  Sound a r = r.1 ≡ true → Said a r.0

  -- a first bit, and the handle at bit j
  bit-first : (j v : ℕ) → field_at b 0 1 ≡ v → v < 2 → bits_from b 0 (1 + j) ≡ v ∷ bits_from b 1 j
  bit-first j v f l =
      let z : v % 2 ≡ v = omega arith in
      bits-append b 0 1 j ∙ ap (λ (bs : List ℕ). bs ++ bits_from b 1 j) (sym (field-bits b 0 1) ∙ ap (bits_of 1) f ∙ last_bit v ∙ ap (λ (x : ℕ). x ∷ []) z)

  handle-at : (j : ℕ) → field_at b j 16 ≡ h → bits_from b j 16 ≡ bits_of 16 h
  handle-at j f = sym (field-bits b j 16) ∙ ap (bits_of 16) f

  module _ (right : checksum_right b n ≡ true) where
    number_is : (w : ℕ) → n ≡ 32 → field_at b 0 16 ≡ w → bits_from b 0 n ≡ reply_bits [] (reply.Number w)
    number_is w e f = rest 16 e right ∙ ap checked (sym (field-bits b 0 16) ∙ ap (bits_of 16) f)

    handle-is : (handle h n b).1 ≡ true → bits_from b 0 n ≡ reply_bits [] (reply.Number h)
    handle-is e =
        number_is h (eqb-true n 32 (and_left (eqb n 32) (eqb (field_at b 0 16) h) e)) (eqb-true (field_at b 0 16) h (and_right (eqb n 32) (eqb (field_at b 0 16) h) e))

    success-is : (success h n b).1 ≡ true → bits_from b 0 n ≡ reply_bits [] (reply.Success h)
    success-is e =
        let f = and_right (eqb n 33) (eqb (field_at b 0 1) 0 && eqb (field_at b 1 16) h) e in
        let size = eqb-true n 33 (and_left (eqb n 33) (eqb (field_at b 0 1) 0 && eqb (field_at b 1 16) h) e) in
        let top = eqb-true (field_at b 0 1) 0 (and_left (eqb (field_at b 0 1) 0) (eqb (field_at b 1 16) h) f) in
        let low = eqb-true (field_at b 1 16) h (and_right (eqb (field_at b 0 1) 0) (eqb (field_at b 1 16) h) f) in
        rest 17 size right ∙ ap checked (bit-first 16 0 top (omega arith) ∙ ap (λ (bs : List ℕ). 0 ∷ bs) (handle-at 1 low))

    failure-is : (failure h n b).1 ≡ true → bits_from b 0 n ≡ reply_bits [] (reply.Error (field_at b 1 8) h)
    failure-is e =
        let f = and_right (eqb n 41) (eqb (field_at b 0 1) 1 && eqb (field_at b 9 16) h) e in
        let size = eqb-true n 41 (and_left (eqb n 41) (eqb (field_at b 0 1) 1 && eqb (field_at b 9 16) h) e) in
        let top = eqb-true (field_at b 0 1) 1 (and_left (eqb (field_at b 0 1) 1) (eqb (field_at b 9 16) h) f) in
        let low = eqb-true (field_at b 9 16) h (and_right (eqb (field_at b 0 1) 1) (eqb (field_at b 9 16) h) f) in
        rest 25 size right
        ∙ ap checked (bit-first 24 1 top (omega arith) ∙ ap (λ (bs : List ℕ). 1 ∷ bs) (bits-append b 1 8 16 ∙ ap₂ ◌++◌ (sym (field-bits b 1 8)) (handle-at 9 low)))

    shown-is : (k : ℕ) → (shown h n b k).1 ≡ true → (0 < k) × (k < 4097) × (bits_from b 0 n ≡ reply_bits (bytes_from b 1 (2 * k)) (reply.Words 0 k h))
    shown-is k e =
        let some = ltb 0 k && ltb k 4097 in
        let tests = eqb (field_at b 0 1) 0 && eqb (field_at b (1 + 16 * k) 16) h in
        let many = and_left some (eqb n (33 + 16 * k) && tests) e in
        let f = and_right some (eqb n (33 + 16 * k) && tests) e in
        let size = eqb-true n (33 + 16 * k) (and_left (eqb n (33 + 16 * k)) tests f) in
        let g = and_right (eqb n (33 + 16 * k)) tests f in
        let top = eqb-true (field_at b 0 1) 0 (and_left (eqb (field_at b 0 1) 0) (eqb (field_at b (1 + 16 * k) 16) h) g) in
        let low = eqb-true (field_at b (1 + 16 * k) 16) h (and_right (eqb (field_at b 0 1) 0) (eqb (field_at b (1 + 16 * k) 16) h) g) in (
          ltb-true 0 k (and_left (ltb 0 k) (ltb k 4097) many),
          ltb-true k 4097 (and_right (ltb 0 k) (ltb k 4097) many),
          rest (1 + (16 * k + 16)) (size ∙ omega arith) right
              ∙ ap checked (bit-first (16 * k + 16) 0 top (omega arith) ∙ ap (λ (bs : List ℕ). 0 ∷ bs) (bits-append b 1 (16 * k) 16 ∙ ap₂ ◌++◌ (words-from b 1 k) (handle-at (1 + 16 * k) low))),
        )

    -- each row, for the kinds that have it
    epc-sound : Sound (Some await.Epc) (epc h n b)
    epc-sound e =
        let l = field_at b 0 5 in
        let m = bytes_from b 0 (2 * (l + 1)) in
        let pc : word_at m 0 ≡ field_at b 0 16 = word-at b 0 (l + 1) 0 (omega arith) in
        let long : word_at m 0 / 2048 ≡ l = ap (λ (x : ℕ). x / 2048) pc ∙ field-first b 0 5 11 in (
          m,
          reply.Epc 0 (word_at m 0 / 2048 + 1),
          answers.epc 0 (rw pc (field_lt b 0 16)),
          ap (λ (x : ℕ). words (x + 1) 0) (sym long),
          rest (16 * (l + 1)) (eqb-true n (16 * (l + 2)) e ∙ omega arith) right ∙ ap checked (words-from b 0 (l + 1)) ∙ ap (λ (x : ℕ). checked (words_bits m 0 (x + 1))) (sym long),
        )

    renewed-sound : Sound (Some await.Renewed) (renewed h n b)
    renewed-sound e = ([], reply.Number (field_at b 0 16), answers.renewed (field_at b 0 16) (field_lt b 0 16), refl, number_is (field_at b 0 16) (eqb-true n 32 e) refl)

    shown-sound : (c : ℕ) → Sound (Some (await.Words c)) (shown h n b (asked h n b c))
    shown-sound c e =
        let k = asked h n b c in
        let s = shown-is k e in
        (bytes_from b 1 (2 * k), reply.Words 0 k h, answers.words c 0 k (by (eqb c 0) refl) s.0 (omega (arith, s.1)), refl, s.2)
      where
        by : (t : Bool) → eqb c 0 ≡ t → (c ≡ 0) ⊎ (c ≡ cond t ((n - 33) / 16) c)
        by true z = inl (eqb-true c 0 z)
        by false z = inr refl

    -- the first row that holds, if any
    abbrev Sounds : Option Awaited → List Row → Type 0
    Sounds a [] = Unit {0}
    Sounds a (r ∷ rows) = Sound a r × Sounds a rows

    pick : (a : Option Awaited) (rows : List Row) → Sounds a rows → (IsRefused (saying rows) → ⊥) → Said a (saying rows)
    pick a [] s none = absurd (none tt)
    pick a (r ∷ rows) s none = go r.1 refl (pick a rows s.1) none
      where
        go : (t : Bool) → r.1 ≡ t → ((IsRefused (saying rows) → ⊥) → Said a (saying rows)) → (IsRefused (cond t r.0 (saying rows)) → ⊥) → Said a (cond t r.0 (saying rows))
        go true e again none = s.0 e
        go false e again none = again none

    kind-sound : (a : Option Awaited) → is_drawn a ≡ false → Sounds a (kind_rows h n b a)
    kind-sound (Some await.Drawn) e = absurd (drawn-not e)
    kind-sound (Some await.Epc) e = (epc-sound, tt)
    kind-sound (Some await.Renewed) e = (renewed-sound, tt)
    kind-sound (Some await.Handle) e = ((λ f. ([], reply.Number h, answers.handle, refl, handle-is f)), tt)
    kind-sound (Some await.Half) e = (
      (λ f. ([], reply.Number h, answers.first-half, refl, handle-is f)),
      (
        (λ f. ([], reply.Success h, answers.second-half, refl, success-is f)),
        ((λ f. ([], reply.Error (field_at b 1 8) h, answers.half-error (field_at b 1 8) (field_lt b 1 8), refl, failure-is f)), tt),
      ),
    )
    kind-sound (Some await.Done) e = (
      (λ f. ([], reply.Success h, answers.success, refl, success-is f)),
      ((λ f. ([], reply.Error (field_at b 1 8) h, answers.error (field_at b 1 8) (field_lt b 1 8), refl, failure-is f)), tt),
    )
    kind-sound (Some (await.Words c)) e = (
      shown-sound c,
      ((λ f. ([], reply.Error (field_at b 1 8) h, answers.words-error c (field_at b 1 8) (field_lt b 1 8), refl, failure-is f)), tt),
    )
    kind-sound None e = tt

  drawn-sound : (IsRefused (saying (drawn h n b ∷ [])) → ⊥) → Said (Some await.Drawn) (saying (drawn h n b ∷ []))
  drawn-sound none = go (eqb n 16) refl none
    where
      go : (t : Bool) → eqb n 16 ≡ t → (IsRefused (cond t (number (field_at b 0 16)) (refused 15)) → ⊥) → Said (Some await.Drawn) (cond t (number (field_at b 0 16)) (refused 15))
      go true e none = ([], reply.Drawn (field_at b 0 16), answers.drawn (field_at b 0 16) (field_lt b 0 16), refl, ap (bits_from b 0) (eqb-true n 16 e) ∙ sym (field-bits b 0 16))
      go false e none = absurd (none tt)

  checked-sound : (a : Option Awaited) → is_drawn a ≡ false → (IsRefused (saying (wrong_sum h n b ∷ kind_rows h n b a)) → ⊥) → Said a (saying (wrong_sum h n b ∷ kind_rows h n b a))
  checked-sound a e none = go (checksum_right b n) refl none
    where
      go : (t : Bool) → checksum_right b n ≡ t → (IsRefused (cond (not t) (refused 8) (saying (kind_rows h n b a))) → ⊥) → Said a (cond (not t) (refused 8) (saying (kind_rows h n b a)))
      go true r none = pick r a (kind_rows h n b a) (kind-sound r a e) none
      go false r none = absurd (none tt)

  only-there : (a : Option Awaited) → (IsRefused (saying (awaited_rows h n b a)) → ⊥) → Said a (saying (awaited_rows h n b a))
  only-there (Some await.Drawn) none = drawn-sound none
  only-there (Some await.Epc) none = checked-sound (Some await.Epc) refl none
  only-there (Some await.Renewed) none = checked-sound (Some await.Renewed) refl none
  only-there (Some await.Handle) none = checked-sound (Some await.Handle) refl none
  only-there (Some await.Half) none = checked-sound (Some await.Half) refl none
  only-there (Some await.Done) none = checked-sound (Some await.Done) refl none
  only-there (Some (await.Words k)) none = checked-sound (Some (await.Words k)) refl none
  only-there None none = checked-sound None refl none

pub only : (c : Command) (d : List ℕ) (h : ℕ) → within c (length d) ≡ true → (n : ℕ) (b : List ℕ) → (IsRefused (read_of c d h n b) → ⊥)
    → (m : List ℕ) × (r : Reply) × Replies m h (awaited_by c) r × (read_of c d h n b ≡ meant r) × (bits_from b 0 n ≡ reply_bits m r)
only c d h inside n b none = go (dec_le 16 n) (dec_le n (8 * length b))
  where
    go : Dec (16 ≤ n) → Dec (n ≤ 8 * length b)
        → (m : List ℕ) × (r : Reply) × Replies m h (awaited_by c) r × (read_of c d h n b ≡ meant r) × (bits_from b 0 n ≡ reply_bits m r)
    go (no l) t = absurd (none (rw (← read_short c d h n b inside (omega (arith, l))) tt))
    go (yes l) (no t) = absurd (none (rw (← read_past c d h n b inside (omega (arith, t))) tt))
    go (yes l) (yes t) =
        let e = read_told c d h n b inside l t in
        rw (← e) (only-there h n b (awaited_by c) (λ x. none (rw (← e) x)))
