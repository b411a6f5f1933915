-- What a tag does with a frame that a depot made: D2's lines, with the depot's own words. Assumes nothing.
use Prim.Native.Nat.{ℕ, ◌+◌, ◌-◌, ◌*◌, ◌/◌, ◌≤◌, ◌<◌}
use mathlib.Core.Path.{◌≡◌, refl, sym, ap, ap₂, ◌∙◌}
use mathlib.Core.Logic.{◌≢◌}
use mathlib.Core.Bool.{Bool}
use mathlib.Core.List.{List}
use native.Mathlib.Omega.{arith}
use lib.Bits.{bit_xor, bit_or}
use lib.ListN.{length, get_or}
use Rattle.bits.specs.Words.{word_at, Store, store, Bytes}
use Rattle.bits.specs.Bits.{bit_at, bits_from, field_at}
use Rattle.bits.specs.Below.{below}
use Rattle.bits.proofs.Bits.{bits-append, word-bits}
use Rattle.bits.proofs.Below.{below-same}
use Rattle.crc.proofs.Xor.{xor-cancel}
use Rattle.image.specs.declared.Layout.{Layout}
use Rattle.frames.specs.declared.Round.{Round}
use Rattle.frames.specs.declared.Order.TheVariants as order
use Rattle.frames.specs.Message as heard
use Rattle.frames.specs.Frames.{span}
use Rattle.rights.specs.Rights.{bank_of}
use Rattle.demands.specs.Facts.{Writable, PermaLockable, Selected}
use Rattle.demands.specs.Calls.{Aside, Program, Idle}
use Rattle.demands.specs.Commands.{Says, Radio, Demand2, words_to, pc_sent}
use Rattle.depot.specs.declared.Place.{Place}
use Rattle.depot.specs.declared.Command.{Command}
use Rattle.depot.specs.declared.Command.TheVariants as command
use Rattle.depot.specs.Making.{shape_of}
use Rattle.depot.specs.Heard.{Words, Call, made, carried, brought_at, order_of}
use Rattle.depot.proofs.Bounds.{Within, within-so}
use Rattle.fields.proofs.Behind.{length_from}
use Rattle.depot.proofs.Standing.{parts, field_of}
use Rattle.depot.proofs.Heard.{heard-so, made_so}
use Rattle.talks.specs.Talks.{Sending, call_of, air_of, Obeyed}

-- a part of equal runs of bits
same-run : (a b : List ℕ) (i j n : ℕ) → bits_from a i n ≡ bits_from b j n → (x w : ℕ) → x + w ≤ n → bits_from a (i + x) w ≡ bits_from b (j + x) w
same-run a b i j n e x w h =
    let r = n - (x + w) in
    let z : n ≡ x + (w + r) = omega (arith, h) in
    let xs = bits_from b j x in
    let ys = bits_from b (j + x) (w + r) in
    let p = parts a xs ys i n (z ∙ sym (ap₂ ◌+◌ (length_from b j x) (length_from b (j + x) (w + r)))) (e ∙ ap (bits_from b j) z ∙ bits-append b j x (w + r)) in
    let f : bits_from a (i + x) (w + r) ≡ ys = ap₂ (λ (k l : ℕ). bits_from a (i + k) l) (sym (length_from b j x)) (sym (length_from b (j + x) (w + r))) ∙ p.1 in
    let us = bits_from b (j + x) w in
    let vs = bits_from b (j + x + w) r in
    let q = parts a us vs (i + x) (w + r) (sym (ap₂ ◌+◌ (length_from b (j + x) w) (length_from b (j + x + w) r))) (f ∙ bits-append b (j + x) w r) in
    ap (bits_from a (i + x)) (sym (length_from b (j + x) w)) ∙ q.0

same_bit : (a b : List ℕ) (i j n : ℕ) → bits_from a i n ≡ bits_from b j n → (x : ℕ) → x < n → bit_at a (i + x) ≡ bit_at b (j + x)
same_bit a b i j n e x h = ap (λ (l : List ℕ). get_or l 0 0) (same-run a b i j n e x 1 (omega arith))

-- the payload's words in a frame
word-sent : (f d : List ℕ) (at : ℕ) → Bytes d → bits_from f at (8 * length d) ≡ bits_from d 0 (8 * length d) → (j : ℕ) → j < length d / 2 → field_at f (at + 16 * j) 16 ≡ word_at d j
unfolding word_at
word-sent f d at known e j h =
    let z : 0 + 16 * j ≡ 16 * j = omega arith in
    field_of f (at + 16 * j) 16 (word_at d j) (omega (arith, known (2 * j), known (2 * j + 1)))
    (same-run f d at 0 (8 * length d) e (16 * j) 16 (omega (arith, h)) ∙ ap (λ (i : ℕ). bits_from d i 16) z ∙ word-bits d j (known (2 * j + 1)))

module _ (A : Program) (meets : Demand2 A) (y : Layout) (s : Sending) (r : Aside) (q : Round) (idle : Idle y s.image) where
  abbrev d : List ℕ
  d = s.payload

  says : (o : Command) (w : Words o) → let c = call_of s o w in
      (made c s.into).number ≡ 0 → Says (air_of s c) (carried o s.number) (order_of o (length d) s.number s.cover)
  says o w e = heard-so.said (call_of s o w) s.into e

  inside : (o : Command) (w : Words o) → (made (call_of s o w) s.into).number ≡ 0 → Within o (length d)
  inside o w e = within-so o (length d) (made_so o d s.number s.cover s.into e).0

  lines : (c : Call) → Radio A y (air_of s c) r q
  lines c = meets.radio y (air_of s c) r q idle

  abbrev at_of : Command → ℕ
  at_of o = brought_at o (length d) s.number s.cover

  -- the words of a BlockWrite, and the bits of a BlockPermalock and of a Select, are the payload's
  brought : (o : Command) (w : Words o) → (made (call_of s o w) s.into).number ≡ 0
      → let n = (shape_of o (length d) s.number s.cover).body in bits_from (air_of s (call_of s o w)).frame (at_of o) n ≡ bits_from d 0 n
  brought o w e = heard-so.brought (call_of s o w) s.into e

  abbrev frame_of : (o : Command) → Words o → List ℕ
  frame_of o w = (air_of s (call_of s o w)).frame

  words-sent : (p : Place) → (made (call_of s (command.BlockWrite p) tt) s.into).number ≡ 0 → (j : ℕ) → j < length d / 2
      → field_at (frame_of (command.BlockWrite p) tt) (at_of (command.BlockWrite p) + 16 * j) 16 ≡ word_at d j
  words-sent p e = word-sent (frame_of (command.BlockWrite p) tt) d (at_of (command.BlockWrite p)) s.known (brought (command.BlockWrite p) tt e)

  masks-sent : (p : Place) → (made (call_of s (command.Permalock p) tt) s.into).number ≡ 0 → (j : ℕ) → j < length d / 2
      → field_at (frame_of (command.Permalock p) tt) (at_of (command.Permalock p) + 16 * j) 16 ≡ word_at d j
  masks-sent p e = word-sent (frame_of (command.Permalock p) tt) d (at_of (command.Permalock p)) s.known (brought (command.Permalock p) tt e)

  writable : (secured : Bool) (p : Place) (e : (made (call_of s (command.BlockWrite p) tt) s.into).number ≡ 0)
      → Writable y s.image secured p.bank p.pointer (length d / 2) (word_at d (1 - p.pointer))
      → Writable y s.image secured p.bank p.pointer (length d / 2) (pc_sent (air_of s (call_of s (command.BlockWrite p) tt)) (at_of (command.BlockWrite p)) p.pointer)
  writable secured p e f =
      record {
        within = f.within;
        right = f.right;
        length = λ t. rw (words-sent p e (1 - p.pointer) (omega (arith, t.1, t.2))) (f.length t);
        few = f.few;
      }

  lockable : (p : Place) (e : (made (call_of s (command.Permalock p) tt) s.into).number ≡ 0)
      → PermaLockable y s.image p.pointer (length d / 2) d 0
      → PermaLockable y s.image p.pointer (length d / 2) (frame_of (command.Permalock p) tt) (at_of (command.Permalock p))
  lockable p e f =
      record {
        within = f.within;
        blocks = λ k l b. f.blocks k l (λ z. b (same_bit (frame_of (command.Permalock p) tt) d (at_of (command.Permalock p)) 0 (8 * length d) (brought (command.Permalock p) tt e) k (omega (arith, l)) ∙ z));
        user = f.user;
      }

  module _ (t a : ℕ) (p : Place) (l : ℕ) (e : (made (call_of s (command.Select t a p l) tt) s.into).number ≡ 0) where
    selected : Selected y s.image d p.bank p.pointer l 0
        → Selected y s.image (frame_of (command.Select t a p l) tt) p.bank p.pointer l (at_of (command.Select t a p l))
    selected f =
        record {
          begins = f.begins;
          ends = f.ends;
          bits = λ j h. f.bits j h ∙ sym (same_bit (frame_of (command.Select t a p l) tt) d (at_of (command.Select t a p l)) 0 l (brought (command.Select t a p l) tt e) j h);
        }

    back : Selected y s.image (frame_of (command.Select t a p l) tt) p.bank p.pointer l (at_of (command.Select t a p l))
        → Selected y s.image d p.bank p.pointer l 0
    back f =
        record {
          begins = f.begins;
          ends = f.ends;
          bits = λ j h. f.bits j h ∙ same_bit (frame_of (command.Select t a p l) tt) d (at_of (command.Select t a p l)) 0 l (brought (command.Select t a p l) tt e) j h;
        }

    takeable : (t ≤ 4) × (p.bank ≢ 0) × (◌≡◌ {A = ℕ} 0 0)
    takeable = let h = inside (command.Select t a p l) tt e in (omega (arith, h.0), (λ z. omega (arith, z, h.3)), refl)

  pub obeyed : Obeyed A y s r q
  obeyed =
      record {
        says = says;
        each = λ o w st f t x e. x (says o w e);
        read = λ secured k p n j f e. (lines (call_of s (command.Read p n) tt)).read secured s.number k p.bank p.pointer n j f (says (command.Read p n) tt e);
        block_erase = λ secured k p n f e.
            (let h = inside (command.BlockErase p n) tt e in
            (lines (call_of s (command.BlockErase p n) tt)).block_erase secured s.number k p.bank p.pointer n h.1.0 f (says (command.BlockErase p n) tt e));
        lock = λ k mask action f e. (lines (call_of s (command.Lock mask action) tt)).lock s.number k mask action f (says (command.Lock mask action) tt e);
        permalock_read = λ k p n u f e.
            (let h = inside (command.ReadPermalock p n) tt e in
            (lines (call_of s (command.ReadPermalock p n) tt)).permalock_read s.number k p.pointer n h.1.0 f
            (says (command.ReadPermalock p n) tt e ∙ ap (λ (b : ℕ). heard.said (record { number = s.number; order = order.ReadPermalock 0 (span b p.pointer n) })) u));
        write = λ secured p w b f e.
            (let z = xor-cancel w s.cover in
            (rw z at ((lines (call_of s (command.Write p w) b)).write secured s.number s.cover p.bank p.pointer (bit_xor w s.cover) (rw z f))) (says (command.Write p w) b e));
        kill_first = λ secured w b f e.
            (let z = xor-cancel w s.cover in
            (rw z at ((lines (call_of s (command.Kill w) b)).kill_first secured s.number s.cover (bit_xor w s.cover) f)) (says (command.Kill w) b e));
        kill_second = λ secured w up b f g e.
            (lines (call_of s (command.Kill w) b)).kill_second secured s.number s.cover (bit_xor w s.cover) up f (xor-cancel w s.cover ∙ g) (says (command.Kill w) b e);
        access-first = λ secured w b e.
            (let z = xor-cancel w s.cover in
            (rw z at ((lines (call_of s (command.Access w) b)).access-first secured s.number s.cover (bit_xor w s.cover))) (says (command.Access w) b e));
        access-second = λ secured w up b f g e.
            (lines (call_of s (command.Access w) b)).access-second secured s.number s.cover (bit_xor w s.cover) up f (xor-cancel w s.cover ∙ g) (says (command.Access w) b e);
        block_write = λ secured k p f e.
            (let c = call_of s (command.BlockWrite p) tt in
            let at = at_of (command.BlockWrite p) in
            let n = length d / 2 in
            let o = (bank_of y p.bank).at + p.pointer in
            let h = inside (command.BlockWrite p) tt e in
            let z : words_to o (air_of s c).frame at n ≡ below (λ j. store (o + j) (word_at d j)) n = below-same {A = Store} (λ j. store (o + j) (field_at (air_of s c).frame (at + 16 * j) 16)) (λ j. store (o + j) (word_at d j)) n (λ j l. ap (store (o + j)) (words-sent p e j l)) in
            (rw z at ((lines c).block_write secured s.number k p.bank p.pointer n at (omega (arith, h.1.0, h.1.1)) (writable secured p e f))) (says (command.BlockWrite p) tt e));
        permalock = λ k p u f e.
            (let c = call_of s (command.Permalock p) tt in
            let at = at_of (command.Permalock p) in
            let n = length d / 2 in
            let o = y.perma.at + p.pointer in
            let h = inside (command.Permalock p) tt e in
            let z : below (λ j. store (o + j) (bit_or (word_at s.image (o + j)) (field_at (air_of s c).frame (at + 16 * j) 16))) n ≡ below (λ j. store (o + j) (bit_or (word_at s.image (o + j)) (word_at d j))) n = below-same {A = Store} (λ j. store (o + j) (bit_or (word_at s.image (o + j)) (field_at (air_of s c).frame (at + 16 * j) 16))) (λ j. store (o + j) (bit_or (word_at s.image (o + j)) (word_at d j))) n (λ j l. ap (λ (x : ℕ). store (o + j) (bit_or (word_at s.image (o + j)) x)) (masks-sent p e j l)) in
            (rw z at ((lines c).permalock s.number k p.pointer n at (omega (arith, h.1.0, h.1.1)) (lockable p e f))) (says (command.Permalock p) tt e ∙ ap (λ (b : ℕ). heard.said (record { number = s.number; order = order.Permalock 0 (span b p.pointer n) at })) u));
        select_matching = λ st t a p l n f e. (lines (call_of s (command.Select t a p l) tt)).rounds.select_matching st _ _ n (takeable t a p l e) (selected t a p l e f) (says (command.Select t a p l) tt e);
        select_other = λ st t a p l n f e. (lines (call_of s (command.Select t a p l) tt)).rounds.select_other st _ _ n (takeable t a p l e) (λ x. f (back t a p l e x)) (says (command.Select t a p l) tt e);
      }
