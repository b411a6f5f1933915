-- The port's table is what the code does, and its mask chooses the words that may be written. Assumes nothing.
use Rattle.std.specs.Prelude.{Option, None, Some}
use Prim.Native.Nat.{ℕ, zero, suc, ◌+◌, ◌-◌, ◌*◌, ◌/◌, ◌%◌, ◌≤◌, ◌<◌}
use mathlib.Core.Path.{◌≡◌, refl, sym, ap, ap₂, ◌∙◌, subst}
use mathlib.Core.Bool.{true≢false, Bool, true, false, cond, not, ◌&&◌, ◌||◌, and-true, and-false}
use mathlib.Core.List.{List, [], ◌∷◌, ◌++◌}
use native.Mathlib.Omega.{arith}
use native.Mathlib.Nat.{lt-div-mul-add}
use native.Mathlib.Numerals.{add-one}
use native.Mathlib.Decide.{dec_lt}
use lib.Dec.{eqb, ltb}
use lib.ListN.{length, get_or, set, take, length-append}
use lib.Seq.{get_or-set_same, get_or-set_other}
use borrow.Author.Tests.{ltb-false, eqb-true, eqb-false, lt-ltb, le-ltb, eq-eqb, ne_eqb}
use Rattle.bits.specs.Words.{word_at, Store, store, after}
use Rattle.bits.specs.Bits.{field_at}
use Rattle.bits.specs.Below.{every}
use Rattle.bits.proofs.Below.{same_test, every-at}
use Rattle.bits.proofs.Windows.{field-word}
use Rattle.image.specs.declared.Layout.{Layout}
use Rattle.image.specs.Layout.{layout_of, pairs_in}
use Rattle.image.specs.Content.{count_in, lock_word}
use Rattle.image.specs.Rules.{Header}
use Rattle.image.specs.Steps.{ready_row}
use Rattle.rights.specs.Rights.{pwd_bit, block_open}
use Rattle.rights.proofs.Searches.{block-alike}
use Rattle.replies.specs.Pack.{packed}
use Rattle.stores.specs.Stores.{change_stores}
use Rattle.stores.specs.Steps.{Made, chosen}
use Rattle.stores.proofs.Changes.{change-needs}
use Rattle.tag.specs.declared.Live.{Live}
use Rattle.tag.specs.declared.Session.{Session}
use Rattle.tag.specs.Session.{off_session}
use Rattle.tag.specs.Result.{Result, leaves, lost, first_of}
use Rattle.states.specs.Commands.{is_killed, access_word}
use Rattle.tag.specs.Table.{is_off, live_of}
use Rattle.tag.specs.Steps.{gives, kept, needed_for, on_session, held_row, front_row}
use Rattle.tag.specs.Port.{bit_of, register_to, with_killed, with_unwritten, bad_count, bad_data, read_bits, read_of, port_open, port_writes, written_words, port_words, some_unwritten, write_of}
use Rattle.tag.specs.PortSteps.{end_row, read_row, read_room, after_killed, write_end, passing, Masked}
use Rattle.tag.proofs.Plans.{none_or}
use Rattle.tag.proofs.Fronts.{own_row, held-own, Passed, front-passes, front-stops, front-over}

-- the first of three tests that holds
module _ (a b c : Bool) where
  pub or-first : a ≡ true → true ≡ (a || b || c)
  or-first p = rw p

  pub or-second : a ≡ false → b ≡ true → true ≡ (a || b || c)
  or-second p q = rw (p, q)

  pub or-third : a ≡ false → b ≡ false → c ≡ (a || b || c)
  or-third p q = rw (p, q)

-- whether the port may write, from the words that are asked
module _ (a b c : Bool) where
  and_first : a ≡ false → false ≡ (a && b && c)
  and_first p = rw p

  and_second : a ≡ true → b ≡ false → false ≡ (a && b && c)
  and_second p q = rw (p, q)

  and-third : a ≡ true → b ≡ true → c ≡ (a && b && c)
  and-third p q = rw (p, q)

module _ (y : Layout) (m : List ℕ) where
  upper : access_word y m 0 ≡ word_at m (y.reserved.at + 2)
  upper = let z : y.reserved.at + 2 + 0 ≡ y.reserved.at + 2 = omega arith in ap (word_at m) z

  pub closed-upper : (word_at m (y.reserved.at + 2) ≡ 0 → ⊥) → false ≡ port_open y m
  closed-upper h =
      and_first (eqb (access_word y m 0) 0) (eqb (access_word y m 1) 0) (eqb (pwd_bit (lock_word y m) 4) 0) (ne_eqb (access_word y m 0) 0 (λ e. h (sym upper ∙ e)))

  pub closed-lower : word_at m (y.reserved.at + 2) ≡ 0 → (access_word y m 1 ≡ 0 → ⊥) → false ≡ port_open y m
  closed-lower z h =
      and_second (eqb (access_word y m 0) 0) (eqb (access_word y m 1) 0) (eqb (pwd_bit (lock_word y m) 4) 0) (eq-eqb (access_word y m 0) 0 (upper ∙ z)) (ne_eqb (access_word y m 1) 0 h)

  pub open-by-bit : word_at m (y.reserved.at + 2) ≡ 0 → access_word y m 1 ≡ 0 → eqb (pwd_bit (lock_word y m) 4) 0 ≡ port_open y m
  open-by-bit z h =
      and-third (eqb (access_word y m 0) 0) (eqb (access_word y m 1) 0) (eqb (pwd_bit (lock_word y m) 4) 0) (eq-eqb (access_word y m 0) 0 (upper ∙ z)) (eq-eqb (access_word y m 1) 0 h)

-- what 13 leaves of a count and of data
pub fits_count : (y : Layout) (at count : ℕ) → bad_count y at count ≡ false → (count ≡ 0 → ⊥) × (count ≤ 255) × (at + count ≤ y.user.words)
fits_count y at count e =
    let a = none_or (eqb count 0 || ltb 255 count) (ltb y.user.words (at + count)) e in
    let b = none_or (eqb count 0) (ltb 255 count) a.0 in
    (eqb-false count 0 b.0, ltb-false 255 count b.1, ltb-false _ _ a.1)

pub fits-data : (y : Layout) (at : ℕ) (d : List ℕ) → bad_data y at d ≡ false
    → (bad_count y at (length d / 2) ≡ false) × (length d / 2 ≤ pairs_in y)
fits-data y at d e =
    let a = none_or (not (eqb (length d % 2) 0) || bad_count y at (length d / 2)) (ltb (pairs_in y) (length d / 2)) e in
    let b = none_or (not (eqb (length d % 2) 0)) (bad_count y at (length d / 2)) a.0 in
    (b.1, ltb-false _ _ a.1)

-- words of USER lie in the image, and WORK has pairs for them
pub words-in : (y : Layout) (m : List ℕ) (at count : ℕ) → Header y m → bad_count y at count ≡ false → 2 * (y.user.at + at + count) ≤ length m
words-in y m at count g e = omega (arith, (fits_count y at count e).2, g.whole)

pub pairs-in : (y : Layout) (m : List ℕ) (at : ℕ) (d : List ℕ) → Header y m → bad_data y at d ≡ false
    → (length d / 2 < 256) × (y.user.at + at + length d / 2 ≤ y.work.at) × (y.work.at < 65536) × (2 * (y.work.at + 1 + 2 * (length d / 2)) ≤ length m)
pairs-in y m at d g e =
    let a = fits-data y at d e in
    let b = fits_count y at (length d / 2) a.0 in
    (omega (arith, b.1), omega (arith, b.2), omega arith, omega (arith, g.whole, g.work.least, a.1))

-- a number that is the first of two that is not 0
pub row_zero : (a b : ℕ) {r : ℕ} → r ≡ cond (eqb a 0) b a → r ≡ 0 → (a ≡ 0) × (b ≡ 0)
row_zero a b {r} e z = go (eqb a 0) refl
  where
    go : (t : Bool) → eqb a 0 ≡ t → (a ≡ 0) × (b ≡ 0)
    go true q = (eqb-true a 0 q, sym (ap (λ (t : Bool). cond t b a) q) ∙ sym e ∙ z)
    go false q = absurd (eqb-false a 0 q (sym (ap (λ (t : Bool). cond t b a) q) ∙ sym e ∙ z))

-- 13 and 4 of a read
abbrev last_row : Bool → Bool → ℕ
last_row f g = cond f 13 (cond g 4 0)

module _ (y : Layout) (at count n : ℕ) where
  pub end-bad : bad_count y at count ≡ true → 13 ≡ end_row y at count n
  unfolding end_row
  end-bad e = sym (ap (λ (b : Bool). last_row b (ltb n (2 * count))) e)

  pub end-small : bad_count y at count ≡ false → n < 2 * count → 4 ≡ end_row y at count n
  unfolding end_row
  end-small e h = sym (ap₂ last_row e (lt-ltb n (2 * count) h))

  pub end_fits : bad_count y at count ≡ false → 2 * count ≤ n → 0 ≡ end_row y at count n
  unfolding end_row
  end_fits e h = sym (ap₂ last_row e (le-ltb n (2 * count) h))

  -- what 0 leaves of them
  pub end-zero : end_row y at count n ≡ 0 → (bad_count y at count ≡ false) × (2 * count ≤ n)
  unfolding end_row
  end-zero z = go (bad_count y at count) (ltb n (2 * count)) refl refl z
    where
      go : (f g : Bool) → bad_count y at count ≡ f → ltb n (2 * count) ≡ g → last_row f g ≡ 0 → (bad_count y at count ≡ false) × (2 * count ≤ n)
      go true g p q h = absurd (omega arith)
      go false true p q h = absurd (omega arith)
      go false false p q h = (p, ltb-false n (2 * count) q)

-- a read's number and room as the code finds them
module _ (h : ℕ) (m : List ℕ) (at count n : ℕ) where
  pub row-front : {v : ℕ} → v ≡ front_row h m → (v ≡ 0 → ⊥) → v ≡ read_row h m at count n
  unfolding read_row
  row-front {v} e z = let t : eqb (front_row h m) 0 ≡ false = ne_eqb (front_row h m) 0 (λ k. z (e ∙ k)) in e ∙ rw t

  pub row-end : front_row h m ≡ 0 → end_row (layout_of m) at count n ≡ read_row h m at count n
  unfolding read_row
  row-end z = let t : eqb (front_row h m) 0 ≡ true = eq-eqb (front_row h m) 0 z in rw t

  pub row_none : read_row h m at count n ≡ 0 → (front_row h m ≡ 0) × (end_row (layout_of m) at count n ≡ 0)
  unfolding read_row
  row_none z = row_zero (front_row h m) (end_row (layout_of m) at count n) refl z

  pub own-zero : front_row h m ≡ 0 → h ≡ 0
  unfolding front_row
  own-zero z = (row_zero (ready_row m) h refl z).1

  pub ready-front : front_row h m ≡ 0 → ready_row m ≡ 0
  unfolding front_row
  ready-front z = (row_zero (ready_row m) h refl z).0

-- the front of a good image is the session's own, and of any other the image's
module _ (h : ℕ) (m : List ℕ) where
  pub front-own : ready_row m ≡ 0 → front_row h m ≡ h
  unfolding front_row
  front-own z = let t : eqb (ready_row m) 0 ≡ true = eq-eqb (ready_row m) 0 z in rw t

  pub front-image : (ready_row m ≡ 0 → ⊥) → front_row h m ≡ ready_row m
  unfolding front_row
  front-image z = let t : eqb (ready_row m) 0 ≡ false = ne_eqb (ready_row m) 0 z in rw t

module _ (killed : Bool) (m : List ℕ) (at count : ℕ) (room : List ℕ) where
  pub room-kept : {r : ℕ} → (r ≡ 0 → ⊥) → room ≡ read_room r killed m at count room
  unfolding read_room
  room-kept {r} z = let t : eqb r 0 ≡ false = ne_eqb r 0 z in rw t

  pub room-shown : {r : ℕ} → r ≡ 0 → read_room r killed m at count room ≡ packed (read_bits (layout_of m) m killed at count) room
  unfolding read_room
  room-shown {r} z = let t : eqb r 0 ≡ true = eq-eqb r 0 z in rw t

-- the table of a read, from its number
module _ (m : List ℕ) (at count : ℕ) (room : List ℕ) (v : Session) {h r : ℕ} (holds : h ≡ held_row v.power) (row : r ≡ read_row h m at count (length room)) where
  pub read-stops : (r ≡ 0 → ⊥) → leaves r v m room ≡ first_of (read_of v m at count room)
  unfolding read_of read_row end_row
  read-stops z = go (eqb (front_row h m) 0) refl
    where
      own : h ≡ own_row v.power (not (live_of v.power).held)
      own = holds ∙ held-own v.power

      last : (f g : Bool) (x : Result) → (last_row f g ≡ 0 → ⊥) → leaves (last_row f g) v m room ≡ cond f (leaves 13 v m room) (cond g (leaves 4 v m room) x)
      last true g x n = refl
      last false true x n = refl
      last false false x n = absurd (n refl)

      go : (t : Bool) → eqb (front_row h m) 0 ≡ t → leaves r v m room ≡ first_of (read_of v m at count room)
      go true q =
          let e = row ∙ ap (λ (t : Bool). cond t (last_row (bad_count (layout_of m) at count) (ltb (length room) (2 * count))) (front_row h m)) q in
          let p = front-passes v m (not (live_of v.power).held) own refl (eqb-true (front_row h m) 0 q) in
          ap (λ (k : ℕ). leaves k v m room) e
          ∙ last (bad_count (layout_of m) at count) (ltb (length room) (2 * count)) _ (λ k. z (e ∙ k))
          ∙ sym (front-over v m (not (live_of v.power).held) p (λ k. leaves k v m room) _)
      go false q =
          let e = row ∙ ap (λ (t : Bool). cond t (last_row (bad_count (layout_of m) at count) (ltb (length room) (2 * count))) (front_row h m)) q in
          ap (λ (k : ℕ). leaves k v m room) e ∙ front-stops v m (not (live_of v.power).held) own refl (λ k. leaves k v m room) _ (eqb-false (front_row h m) 0 q)

  module _ (z : r ≡ 0) where
    passed : Passed v.power m (not (live_of v.power).held)
    passed = front-passes v m (not (live_of v.power).held) (holds ∙ held-own v.power) refl (row_none h m at count (length room) (sym row ∙ z)).0

    ended : (bad_count (layout_of m) at count ≡ false) × (2 * count ≤ length room)
    ended = end-zero (layout_of m) at count (length room) (row_none h m at count (length room) (sym row ∙ z)).1

    pub read-counts : bad_count (layout_of m) at count ≡ false
    read-counts = ended.0

    -- the session afterwards
    shown_by : (p : Option Live) → is_off p ≡ false → (k : Bool) → cond k (after_killed p) (record { power = p }) ≡ register_to (live_of p) (cond k (with_killed (live_of p).register) (live_of p).register)
    shown_by None h k = absurd (true≢false h)
    shown_by (Some l) h true = refl
    shown_by (Some l) h false = refl

    pub read-shows : (k : Bool) → k ≡ is_killed (live_of v.power).state
        → gives 0 (cond k (after_killed v.power) v) (16 * count) 0 m (packed (read_bits (layout_of m) m k at count) room) ≡ first_of (read_of v m at count room)
    unfolding read_of
    read-shows k e =
        let on = (none_or (is_off v.power) (not (eqb (count_in (layout_of m) m) 0)) passed.ready).0 in
        let small : ltb (length room) (2 * count) ≡ false = le-ltb (length room) (2 * count) ended.1 in
        ap (λ (s : Session). gives 0 s (16 * count) 0 m (packed (read_bits (layout_of m) m k at count) room)) (shown_by v.power on k)
        ∙ ap (λ (b : Bool). gives 0 (register_to (live_of v.power) (cond b (with_killed (live_of v.power).register) (live_of v.power).register)) (16 * count) 0 m (packed (read_bits (layout_of m) m b at count) room)) e
        ∙ past (bad_count (layout_of m) at count) (ltb (length room) (2 * count)) _ ended.0 small
        ∙ sym (front-over v m (not (live_of v.power).held) passed (λ k. leaves k v m room) _)
      where
        past : (f g : Bool) (x : Result) → f ≡ false → g ≡ false → x ≡ cond f (leaves 13 v m room) (cond g (leaves 4 v m room) x)
        past f g x p q = rw (p, q)

    pub read_killed : (k : Bool) → k ≡ is_killed (live_of v.power).state → k ≡ true
        → gives 0 (after_killed v.power) (16 * count) 0 m (packed (read_bits (layout_of m) m k at count) room) ≡ first_of (read_of v m at count room)
    read_killed k e t =
        ap (λ (b : Bool). gives 0 (cond b (after_killed v.power) v) (16 * count) 0 m (packed (read_bits (layout_of m) m k at count) room)) (sym t) ∙ read-shows k e

    pub read-lives : (k : Bool) → k ≡ is_killed (live_of v.power).state → k ≡ false
        → gives 0 v (16 * count) 0 m (packed (read_bits (layout_of m) m k at count) room) ≡ first_of (read_of v m at count room)
    read-lives k e t =
        ap (λ (b : Bool). gives 0 (cond b (after_killed v.power) v) (16 * count) 0 m (packed (read_bits (layout_of m) m k at count) room)) (sym t) ∙ read-shows k e

-- a mask's next byte
masked-byte : (b : Bool) → eqb (bit_of (not b)) 0 ≡ b
masked-byte true = refl
masked-byte false = refl

unmasked : (b : Bool) → 1 - bit_of (not b) ≡ bit_of b
unmasked true = refl
unmasked false = refl

pub no-mask : (y : Layout) (m : List ℕ) (at : ℕ) (z : List ℕ) → Masked y m at z 0 0
no-mask y m at z = record { same = λ j h. absurd (omega arith); count = refl }

pub mask_next : (y : Layout) (m : List ℕ) (at : ℕ) (z : List ℕ) (j k v : ℕ) → j < length z → v ≡ bit_of (not (block_open y m (at + j)))
    → Masked y m at z j k → Masked y m at (set z j v) (j + 1) (k + (1 - v))
mask_next y m at z j k v h e p =
    record {
      same = λ i l. go i l (dec_lt i j);
      count =
          rw (add-one j) (ap₂ ◌+◌ p.count (ap (λ (x : ℕ). 1 - x) e ∙ unmasked (block_open y m (at + j))));
    }
  where
    go : (i : ℕ) → i < j + 1 → Dec (i < j) → eqb (get_or (set z j v) i 0) 0 ≡ block_open y m (at + i)
    go i l (yes s) = rw (get_or-set_other z j i v 0 (λ q. omega arith)) (p.same i s)
    go i l (no s) =
        let q : i ≡ j = omega arith in
        rw q (ap (λ (x : ℕ). eqb x 0) (get_or-set_same z j v 0 h ∙ e) ∙ masked-byte (block_open y m (at + j)))

-- the lock at hand is that of the words from i up to the next block
pub record Known (y : Layout) (m : List ℕ) (i locked next : ℕ) : Type 0 where
  pub ahead : i ≤ next
  pub bit : locked < 2
  pub same : (k : ℕ) → i ≤ k → k < next → locked ≡ bit_of (not (block_open y m k))

pub known-none : (y : Layout) (m : List ℕ) (i : ℕ) → Known y m i 0 i
known-none y m i = record { ahead = omega arith; bit = omega arith; same = λ k l s. absurd (omega (arith, l, s)) }

pub known-new : (y : Layout) (m : List ℕ) (i : ℕ) {locked next : ℕ} → 0 < y.block → locked ≡ bit_of (not (block_open y m i)) → locked < 2
    → next ≡ (i / y.block + 1) * y.block → (i < next) × Known y m i locked next
known-new y m i {locked} {next} w e b n =
    let s : i < next = omega (arith, n, lt-div-mul-add {a = i} {b = y.block} w) in
    (s, record { ahead = omega (arith, s); bit = b; same = λ k l r. e ∙ ap (λ (t : Bool). bit_of (not t)) (sym (block-alike y m i k w l (omega (arith, n, r)))) })

pub known-old : {y : Layout} {m : List ℕ} {i locked next : ℕ} → Known y m i locked next → (i ≡ next → ⊥) → (i < next) × Known y m i locked next
known-old k h = (omega (arith, k.ahead, h), k)

pub known_next : {y : Layout} {m : List ℕ} {i locked next : ℕ} → Known y m i locked next → i < next → Known y m (i + 1) locked next
known_next k s = record { ahead = omega (arith, s); bit = k.bit; same = λ j l r. k.same j (omega (arith, l)) r }

-- numbers that pass a test
passing-most : (t : ℕ → Bool) (n : ℕ) → passing t n ≤ n
passing-most t zero = omega arith
passing-most t (suc n) = go (passing-most t n) (t n)
  where
    go : passing t n ≤ n → (b : Bool) → passing t n + bit_of b ≤ suc n
    go h true = omega arith
    go h false = omega arith

every-passing : (t : ℕ → Bool) (n : ℕ) → every t n ≡ eqb (passing t n) n
every-passing t zero = refl
every-passing t (suc n) = go (every-passing t n) (t n)
  where
    go : every t n ≡ eqb (passing t n) n → (b : Bool) → every t n && b ≡ eqb (passing t n + bit_of b) (suc n)
    go h true =
        and-true (every t n)
        ∙ h
        ∙ same_test (eqb (passing t n) n) (eqb (passing t n + 1) (suc n)) (λ e. eq-eqb (passing t n + 1) (suc n) (omega (arith, eqb-true (passing t n) n e))) (λ e. eq-eqb (passing t n) n (omega (arith, eqb-true (passing t n + 1) (suc n) e)))
    go h false = and-false (every t n) ∙ sym (ne_eqb (passing t n + 0) (suc n) (λ e. omega (arith, passing-most t n)))

passing-same : (t u : ℕ → Bool) (n : ℕ) → ((j : ℕ) → t j ≡ u j) → passing t n ≡ passing u n
passing-same t u zero h = refl
passing-same t u (suc n) h = ap₂ ◌+◌ (passing-same t u n h) (ap bit_of (h n))

-- where every word is open, a mask of zeros
pub mask-clear : (y : Layout) (m : List ℕ) (at : ℕ) (z : List ℕ) (n : ℕ) → ((j : ℕ) → j < n → get_or z j 0 ≡ 0) → every (λ j. block_open y m (at + j)) n ≡ true
    → Masked y m at z n n
mask-clear y m at z n h e =
    let t : ℕ → Bool = λ j. block_open y m (at + j) in
    record {
      same = λ j l. eq-eqb (get_or z j 0) 0 (h j l) ∙ sym (every-at t n e j l);
      count = sym (eqb-true (passing t n) n (sym (every-passing t n) ∙ e));
    }

-- where the port may write, the words that the mask leaves are those that may be written
module _ (y : Layout) (m : List ℕ) (at : ℕ) (opened : port_open y m ≡ true) where
  by-block : (i : ℕ) → port_writes y m i ≡ block_open y m i
  by-block i = ap (λ (b : Bool). b && block_open y m i) opened

  pub chosen-written : (d z : List ℕ) (n : ℕ) → ((j : ℕ) → get_or d j 0 < 256) → ((j : ℕ) → j < n → eqb (get_or z j 0) 0 ≡ block_open y m (at + j))
      → chosen (y.user.at + at) d 0 z n ≡ written_words y m at d n
  chosen-written d z zero bytes h = refl
  chosen-written d z (suc n) bytes h =
      let e : 0 + 16 * n ≡ 16 * n = omega arith in
      ap₂ ◌++◌ (chosen-written d z n bytes (λ j l. h j (omega arith)))
      (ap₂ (λ (b : Bool) (v : ℕ). cond b (store (y.user.at + at + n) v ∷ []) []) (h n (omega arith) ∙ sym (by-block (at + n))) (ap (λ (p : ℕ). field_at d p 16) e ∙ field-word d n bytes))

  pub written_count : (d : List ℕ) (n : ℕ) → length (written_words y m at d n) ≡ passing (λ j. block_open y m (at + j)) n
  written_count d zero = refl
  written_count d (suc n) =
      length-append (written_words y m at d n) (cond (port_writes y m (at + n)) (store (y.user.at + at + n) (word_at d n) ∷ []) [])
      ∙ ap₂ ◌+◌ (written_count d n) (one (port_writes y m (at + n)) ∙ ap bit_of (by-block (at + n)))
    where
      one : (b : Bool) → length (cond b (store (y.user.at + at + n) (word_at d n) ∷ []) []) ≡ bit_of b
      one true = refl
      one false = refl

  pub unwritten-some : (n : ℕ) → some_unwritten y m at n ≡ not (eqb (passing (λ j. block_open y m (at + j)) n) n)
  unwritten-some n =
      ap not
      (every-passing (λ j. port_writes y m (at + j)) n
      ∙ ap (λ (k : ℕ). eqb k n) (passing-same (λ j. port_writes y m (at + j)) (λ j. block_open y m (at + j)) n (λ j. by-block (at + j))))

  -- a change of what the mask leaves
  module _ (d : List ℕ) {z : List ℕ} {n k : ℕ} (p : Masked y m at z n k) where
    pub made-written : {s c : ℕ} {m₁ : List ℕ} → ((j : ℕ) → get_or d j 0 < 256) → Made (change_stores y.work.at (chosen (y.user.at + at) d 0 z n)) s m m₁ c
        → Made (change_stores y.work.at (written_words y m at d n)) s m m₁ c
    made-written {s} {c} {m₁} bytes h = subst (λ (xs : List Store). Made (change_stores y.work.at xs) s m m₁ c) (chosen-written d z n bytes p.same) h

    pub written-needs : length (change_stores y.work.at (written_words y m at d n)) ≡ needed_for k
    written-needs = change-needs y.work.at (written_words y m at d n) ∙ ap needed_for (written_count d n ∙ sym p.count)

    pub unwritten-by : some_unwritten y m at n ≡ not (eqb k n)
    unwritten-by = unwritten-some n ∙ ap (λ (x : ℕ). not (eqb x n)) (sym p.count)

-- where it may not, none is
module _ (y : Layout) (m : List ℕ) (at : ℕ) (closed : port_open y m ≡ false) where
  not_written : (i : ℕ) → port_writes y m i ≡ false
  not_written i = ap (λ (b : Bool). b && block_open y m i) closed

  pub none_written : (d : List ℕ) (n : ℕ) → written_words y m at d n ≡ []
  none_written d zero = refl
  none_written d (suc n) =
      ap₂ (λ (xs : List Store) (b : Bool). xs ++ cond b (store (y.user.at + at + n) (word_at d n) ∷ []) []) (none_written d n) (not_written (at + n))

  pub none-unwritten : (n : ℕ) → (n ≡ 0 → ⊥) → some_unwritten y m at n ≡ true
  none-unwritten zero h = absurd (h refl)
  none-unwritten (suc n) h =
      let t = every (λ j. port_writes y m (at + j)) n in
      ap not (ap (λ (b : Bool). t && b) (not_written (at + n)) ∙ and-false t)

-- a write's rows
module _ (m : List ℕ) (at : ℕ) (d : List ℕ) (s : ℕ) where
  module _ (v : Session) {h row : ℕ} (own : h ≡ held_row v.power) (is : row ≡ front_row h m) where
    pub write-stops : (row ≡ 0 → ⊥) → leaves row v m [] ≡ first_of (write_of change_stores v m at d s)
    unfolding write_of
    write-stops z = front-stops v m (not (live_of v.power).held) (own ∙ held-own v.power) is (λ k. leaves k v m []) _ z

    pub write-passes : row ≡ 0 → Passed v.power m (not (live_of v.power).held)
    write-passes z = front-passes v m (not (live_of v.power).held) (own ∙ held-own v.power) is z

  module _ (l : Live) (p : Passed (Some l) m (not l.held)) where
    pub write-counts : bad_data (layout_of m) at d ≡ true → kept 13 l m [] ≡ first_of (write_of change_stores (on_session l) m at d s)
    unfolding write_of write_end
    write-counts e = sym (front-over (on_session l) m (not l.held) p (λ k. kept k l m []) _ ∙ ap (λ (b : Bool). cond b (kept 13 l m []) (write_end l (layout_of m) m at d s)) e)

    pub write-live : bad_data (layout_of m) at d ≡ false → write_end l (layout_of m) m at d s ≡ first_of (write_of change_stores (on_session l) m at d s)
    unfolding write_of write_end
    write-live e = sym (front-over (on_session l) m (not l.held) p (λ k. kept k l m []) _ ∙ ap (λ (b : Bool). cond b (kept 13 l m []) (write_end l (layout_of m) m at d s)) e)

-- a write's ends
module _ (l : Live) (y : Layout) (m : List ℕ) (at : ℕ) (d : List ℕ) (s : ℕ) where
  stores : List Store → List Store
  stores ss = change_stores y.work.at ss

  made : Bool → List Store → Bool → Result
  made k ss u =
      gives 0 (register_to l (cond k (with_killed l.register) (with_unwritten u l.register))) 0 (length (stores ss)) (after m (stores ss)) []

  ends : Bool → List Store → Bool → Result
  ends k ss u = cond (ltb s (length (stores ss))) (lost m (stores ss) s []) (made k ss u)

  end_is : (k : Bool) (ss : List Store) (u : Bool) → is_killed l.state ≡ k → port_words y m k at d ≡ ss → some_unwritten y m at (length d / 2) ≡ u
      → ends k ss u ≡ write_end l y m at d s
  unfolding write_end ends made stores
  end_is k ss u e f g =
      let n = length d / 2 in
      sym (ap (λ (b : Bool). ends b (port_words y m b at d) (some_unwritten y m at n)) e ∙ ap₂ (ends k) f g)

  nothing : (k u : Bool) → made k [] u ≡ ends k [] u
  unfolding ends stores
  nothing k u = sym (ap (λ (b : Bool). cond b (lost m (stores []) s []) (made k [] u)) (le-ltb s 0 (omega arith)))

  pub write_killed : is_killed l.state ≡ true → gives 0 (register_to l (with_killed l.register)) 0 0 m [] ≡ write_end l y m at d s
  unfolding made stores
  write_killed e = nothing true (some_unwritten y m at (length d / 2)) ∙ end_is true [] (some_unwritten y m at (length d / 2)) e refl refl

  pub write-closed : is_killed l.state ≡ false → port_open y m ≡ false → (length d / 2 ≡ 0 → ⊥)
      → gives 0 (register_to l (with_unwritten true l.register)) 0 0 m [] ≡ write_end l y m at d s
  unfolding made stores
  write-closed e o n = nothing false true ∙ end_is false [] true e (none_written y m at o d (length d / 2)) (none-unwritten y m at o (length d / 2) n)

  module _ (ss : List Store) (u : Bool) (e : is_killed l.state ≡ false) (f : written_words y m at d (length d / 2) ≡ ss)
      (g : some_unwritten y m at (length d / 2) ≡ u) where
    pub write-cut : s < length (change_stores y.work.at ss)
        → gives 11 off_session 0 s (after m (take s (change_stores y.work.at ss))) [] ≡ write_end l y m at d s
    unfolding ends stores
    write-cut h = sym (ap (λ (b : Bool). cond b (lost m (stores ss) s []) (made false ss u)) (lt-ltb s (length (stores ss)) h)) ∙ end_is false ss u e f g

    pub write_done : length (change_stores y.work.at ss) ≤ s
        → gives 0 (register_to l (with_unwritten u l.register)) 0 (length (change_stores y.work.at ss)) (after m (change_stores y.work.at ss)) []
        ≡ write_end l y m at d s
    unfolding ends made stores
    write_done h = sym (ap (λ (b : Bool). cond b (lost m (stores ss) s []) (made false ss u)) (le-ltb s (length (stores ss)) h)) ∙ end_is false ss u e f g
