-- What a frame's bits say, from the definitions of `frames` and `ebv`. Assumes nothing.
use Prim.Native.Nat.{ℕ, ◌+◌, ◌-◌, ◌*◌, ◌/◌, ◌≤◌, ◌<◌}
use mathlib.Core.Path.{◌≡◌, refl, sym, ap, ap₂, ◌∙◌}
use mathlib.Core.Logic.{◌⊎◌, inl, inr}
use mathlib.Core.Bool.{Bool, true, false, cond, not}
use mathlib.Core.List.{List}
use native.Mathlib.Omega.{arith}
use lib.Dec.{eqb, ltb}
use lib.ListN.{length}
use borrow.Author.Tests.{eq-eqb, ne_eqb, lt-ltb, le-ltb}
use Rattle.bits.specs.Bits.{field_at}
use Rattle.bits.proofs.Fields.{field-first}
use Rattle.frames.proofs.Codes.{two-above, four-above}
use Rattle.ebv.specs.Ebv.{Read, groups, pointer_at}
use Rattle.ebv.specs.Ebv as pointer
use Rattle.frames.specs.declared.Order.{Order}
use Rattle.frames.specs.Message.{Message}
use Rattle.frames.specs.Message as heard
use Rattle.frames.specs.Frames.{checksum_right, checksum5_right, to_all, plainly, taken, exactly, pointed, query_frame, select_frame, read_frame, write_frame, block_write_frame, block_erase_frame, permalock_frame, heard_of}
use Rattle.frames.specs.Steps.{query_rep_frame, ack_frame, query_adjust_frame, nak_frame, req_rn_frame, kill_frame, lock_frame, access_frame}
use Rattle.demands.specs.Fields.{Takes, Plain, Checked, After, Coded, Groups, Fields}

chosen : (m x y : Message) (b t : Bool) → m ≡ cond b x y → b ≡ t → m ≡ cond t x y
chosen m x y b t h e = h ∙ ap (λ (s : Bool). cond s x y) e

module _ (f : List ℕ) (n : ℕ) where
  takes : (k : ℕ) (o : Order) → heard_of f n ≡ exactly f n k o → Takes f n k o
  unfolding checksum_right
  takes k o h =
      record {
        right = λ e c. h ∙ ap₂ by (eq-eqb n k e) (eq-eqb _ _ c) ∙ ap (λ (x : ℕ). heard.said (record { number = field_at f (x - 32) 16; order = o })) e;
        length = λ d. h ∙ ap (λ (t : Bool). by t (checksum_right f n)) (ne_eqb n k d);
        checksum = λ e c. h ∙ ap₂ by (eq-eqb n k e) (ne_eqb _ _ c);
      }
    where
      by : Bool → Bool → Message
      by t u = cond (not t) (heard.refused 7) (cond (not u) (heard.refused 8) (heard.said (record { number = field_at f (n - 32) 16; order = o })))

  -- a frame without a CRC, and one with a checksum and no number
  plain-so : (k : ℕ) (o : Order) → heard_of f n ≡ plainly n k o → Plain f n k o
  plain-so k o h = record { right = λ e. h ∙ ap by (eq-eqb n k e); length = λ d. h ∙ ap by (ne_eqb n k d) }
    where
      by : Bool → Message
      by t = cond t (heard.said (to_all o)) (heard.refused 7)

  checks : (k a b : ℕ) (o : Order) → heard_of f n ≡ taken n k (eqb a b) (to_all o) → Checked f n k (a ≡ b) o
  checks k a b o h =
      record {
        right = λ e c. h ∙ ap₂ by (eq-eqb n k e) (eq-eqb a b c);
        length = λ d. h ∙ ap (λ (t : Bool). by t (eqb a b)) (ne_eqb n k d);
        checksum = λ e c. h ∙ ap₂ by (eq-eqb n k e) (ne_eqb a b c);
      }
    where
      by : Bool → Bool → Message
      by t u = cond (not t) (heard.refused 7) (cond (not u) (heard.refused 8) (heard.said (to_all o)))

  follows : (i : ℕ) (g : ℕ → ℕ → Message) (P : ℕ → ℕ → Type 0) → heard_of f n ≡ pointed (pointer_at f n i) g → ((p e : ℕ) → heard_of f n ≡ g p e → P p e) → After f n i P
  follows i g P h q = (λ p e d. q p e (h ∙ ap (λ (r : Read). pointed r g) d), λ d. h ∙ ap (λ (r : Read). pointed r g) d)

  -- the first two and four bits by the first eight
  two : field_at f 0 2 ≡ field_at f 0 8 / 64
  two = sym (field-first f 0 2 6)

  four : field_at f 0 4 ≡ field_at f 0 8 / 16
  four = sym (field-first f 0 4 4)

  two-by-four : field_at f 0 2 ≡ field_at f 0 4 / 4
  two-by-four = sym (field-first f 0 2 2)

  module _ (least : 4 ≤ n) (most : n ≤ 8 * length f) where
    few : ltb (8 * length f) n ≡ false
    few = le-ltb (8 * length f) n most

    some : ltb n 4 ≡ false
    some = le-ltb n 4 least

    Unknown : Type 0
    Unknown = ((0xB0 ≤ field_at f 0 8) × (field_at f 0 8 < 0xC0)) ⊎ (0xC9 < field_at f 0 8)

    late : Unknown → 0xB0 ≤ field_at f 0 8
    unfolding Unknown
    late (inl l) = l.0
    late (inr l) = omega (arith, l)

    unknown-so : Unknown → heard_of f n ≡ heard.refused 7
    unfolding heard_of Unknown
    unknown-so d =
        rw (few, some, ne_eqb _ _ (two-above f 0 (omega (arith, late d))), ne_eqb _ _ (two-above f 1 (omega (arith, late d))), ne_eqb _ _ (four-above f 8 (omega (arith, late d))), ne_eqb _ _ (four-above f 9 (omega (arith, late d))), ne_eqb _ _ (four-above f 10 (omega (arith, late d))), no d 0xC0 (omega arith) (omega arith), no d 0xC1 (omega arith) (omega arith), no d 0xC2 (omega arith) (omega arith), no d 0xC3 (omega arith) (omega arith), no d 0xC4 (omega arith) (omega arith), no d 0xC5 (omega arith) (omega arith), no d 0xC6 (omega arith) (omega arith), no d 0xC7 (omega arith) (omega arith), no d 0xC8 (omega arith) (omega arith), no d 0xC9 (omega arith) (omega arith))
      where
        no : ((0xB0 ≤ field_at f 0 8) × (field_at f 0 8 < 0xC0)) ⊎ (0xC9 < field_at f 0 8) → (c : ℕ) → 0xC0 ≤ c → c ≤ 0xC9 → eqb (field_at f 0 8) c ≡ false
        no (inl l) c a b = ne_eqb (field_at f 0 8) c (λ z. omega (arith, l.1, a, z))
        no (inr l) c a b = ne_eqb (field_at f 0 8) c (λ z. omega (arith, l, b, z))

    coded_so : Coded f n
    unfolding heard_of checksum_right checksum5_right Unknown
    coded_so =
        record {
          query_rep = λ c. let h : heard_of f n ≡ query_rep_frame f n = rw (few, some, c) in plain-so _ _ h;
          ack = λ c. let h : heard_of f n ≡ ack_frame f n = rw (few, some, c) in plain-so _ _ h;
          query = λ c. let h : heard_of f n ≡ query_frame f n = rw (few, some, two-by-four, c) in checks _ _ _ _ h;
          query_adjust = λ c. let h : heard_of f n ≡ query_adjust_frame f n = rw (few, some, two-by-four, c) in plain-so _ _ h;
          select = λ c. let h : heard_of f n ≡ select_frame f n = rw (few, some, two-by-four, c) in follows 12 _ _ h (λ p e h. checks _ _ _ _ h);
          nak = λ c. let h : heard_of f n ≡ nak_frame n = rw (few, some, two, four, c) in plain-so _ _ h;
          req_rn = λ c. let h : heard_of f n ≡ req_rn_frame f n = rw (few, some, two, four, c) in takes _ _ h;
          read = λ c. let h : heard_of f n ≡ read_frame f n = rw (few, some, two, four, c) in follows 10 _ _ h (λ p e h. takes _ _ h);
          write = λ c. let h : heard_of f n ≡ write_frame f n = rw (few, some, two, four, c) in follows 10 _ _ h (λ p e h. takes _ _ h);
          kill = λ c. let h : heard_of f n ≡ kill_frame f n = rw (few, some, two, four, c) in takes _ _ h;
          lock = λ c. let h : heard_of f n ≡ lock_frame f n = rw (few, some, two, four, c) in takes _ _ h;
          access = λ c. let h : heard_of f n ≡ access_frame f n = rw (few, some, two, four, c) in takes _ _ h;
          block_write = λ c. let h : heard_of f n ≡ block_write_frame f n = rw (few, some, two, four, c) in follows 10 _ _ h (λ p e h. takes _ _ h);
          block_erase = λ c. let h : heard_of f n ≡ block_erase_frame f n = rw (few, some, two, four, c) in follows 10 _ _ h (λ p e h. takes _ _ h);
          permalock_read = λ c z.
              let h : heard_of f n ≡ permalock_frame f n = rw (few, some, two, four, c) in
              follows 19 _ _ h (λ p e h. takes _ _ (chosen _ _ _ _ true h (eq-eqb (field_at f 16 1) 0 z)));
          permalock = λ c z.
              let h : heard_of f n ≡ permalock_frame f n = rw (few, some, two, four, c) in
              follows 19 _ _ h (λ p e h. takes _ _ (chosen _ _ _ _ false h (ne_eqb (field_at f 16 1) 0 z)));
          unknown = unknown-so;
        }

  -- a pointer's groups, by the bounds and the first bit of each
  module _ (i : ℕ) where
    third : Bool → Bool → ℕ → Read
    third s t acc = cond s (pointer.refused 7) (cond t (pointer.whole (acc * 128 + field_at f (i + 16) 8) 3) (pointer.refused 7))

    second : Bool → Bool → Read → ℕ → Read
    second s t r acc = cond s (pointer.refused 7) (cond t (pointer.whole (acc * 128 + field_at f (i + 8) 8) 2) r)

    by-groups : pointer_at f n i
        ≡ cond (ltb n (i + 8)) (pointer.refused 7)
        (cond (ltb (field_at f i 8) 128) (pointer.whole (field_at f i 8) 1)
        (second (ltb n (i + 16)) (ltb (field_at f (i + 8) 8) 128)
        (third (ltb n (i + 24)) (ltb (field_at f (i + 16) 8) 128) ((field_at f i 8 - 128) * 128 + (field_at f (i + 8) 8 - 128))) (field_at f i 8 - 128)))
    unfolding pointer_at second third
    by-groups =
        let a : i + 0 ≡ i = omega arith in
        let b : i + 8 + 8 ≡ i + 16 = omega arith in
        let c : i + 16 + 8 ≡ i + 24 = omega arith in
        let d : (x : ℕ) → 0 + x ≡ x = λ x. omega arith in
        rw (a, b, c, d (field_at f i 8), d (field_at f i 8 - 128))

    groups-so : Groups f n i
    unfolding second third
    groups-so =
        record {
          one = λ a p. by-groups ∙ rw (le-ltb n (i + 8) a, lt-ltb (field_at f i 8) 128 p);
          two = λ a p q.
              by-groups
              ∙ rw (le-ltb n (i + 8) (omega (arith, a)), le-ltb (field_at f i 8) 128 p, le-ltb n (i + 16) a, lt-ltb (field_at f (i + 8) 8) 128 q);
          three = λ a p q r.
              by-groups
              ∙ rw (le-ltb n (i + 8) (omega (arith, a)), le-ltb (field_at f i 8) 128 p, le-ltb n (i + 16) (omega (arith, a)), le-ltb (field_at f (i + 8) 8) 128 q, le-ltb n (i + 24) a, lt-ltb (field_at f (i + 16) 8) 128 r);
          four = λ p q r.
              by-groups
              ∙ rw (le-ltb (field_at f i 8) 128 p, le-ltb (field_at f (i + 8) 8) 128 q, le-ltb (field_at f (i + 16) 8) 128 r)
              (any (ltb n (i + 8)) (ltb n (i + 16)) (ltb n (i + 24)));
          short = λ l. by-groups ∙ rw (lt-ltb n (i + 8) l);
          short_two = λ l p. by-groups ∙ rw (le-ltb (field_at f i 8) 128 p, lt-ltb n (i + 16) l) (any (ltb n (i + 8)) true true);
          short_three = λ l p q.
              by-groups
              ∙ rw (le-ltb (field_at f i 8) 128 p, le-ltb (field_at f (i + 8) 8) 128 q, lt-ltb n (i + 24) l)
              (any (ltb n (i + 8)) (ltb n (i + 16)) true);
        }
      where
        any : (s t u : Bool) → cond s (pointer.refused 7) (cond t (pointer.refused 7) (cond u (pointer.refused 7) (pointer.refused 7))) ≡ pointer.refused 7
        any true t u = refl
        any false true u = refl
        any false false true = refl
        any false false false = refl

pub fields-so : Fields
unfolding heard_of
fields-so =
    record {
      coded = coded_so;
      groups = groups-so;
      none = λ f n d. none_so f n d;
    }
  where
    none_so : (f : List ℕ) (n : ℕ) → (n < 4) ⊎ (8 * length f < n) → heard_of f n ≡ heard.refused 7
    none_so f n (inl l) = first-or (ltb (8 * length f) n) (lt-ltb n 4 l)
      where
        first-or : (s : Bool) → ltb n 4 ≡ true → heard_of f n ≡ heard.refused 7
        first-or s e = go (ltb (8 * length f) n) refl
          where
            go : (s : Bool) → ltb (8 * length f) n ≡ s → heard_of f n ≡ heard.refused 7
            go true q = rw q
            go false q = rw (q, e)
    none_so f n (inr l) = rw (lt-ltb (8 * length f) n l)
