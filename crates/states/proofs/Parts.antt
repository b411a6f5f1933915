-- A record's parts are what was packed, and no two records have the same. Assumes nothing.
use Prim.Native.Nat.{ℕ, ◌+◌, ◌*◌, ◌/◌, ◌%◌, ◌^◌, ◌<◌}
use mathlib.Core.Path.{◌≡◌, sym, ap, ◌∙◌}
use native.Mathlib.Omega.{arith}
use Rattle.states.specs.declared.Record.{Record}
use Rattle.states.specs.declared.Numbers.{Numbers}
use Rattle.states.specs.Numbers.{numbers_in}
use Rattle.states.specs.Steps.{four_of}

-- the lowest of parts of 8 bits, and of 16, and what stands above it
own8 : (a x : ℕ) → a < 256 → (a + 256 * x) % 256 ≡ a
own8 a x h = omega arith

above8 : (a x : ℕ) → a < 256 → (a + 256 * x) / 256 ≡ x
above8 a x h = omega arith

own16 : (a x : ℕ) → a < 65536 → (a + 65536 * x) % 65536 ≡ a
own16 a x h = omega arith

above16 : (a x : ℕ) → a < 65536 → (a + 65536 * x) / 65536 ≡ x
above16 a x h = omega arith

-- eight parts, one upon the other
stacked : (a b c d z : ℕ) → four_of a b c d + 2 ^ 32 * z ≡ a + 256 * (b + 256 * (c + 256 * (d + 256 * z)))
stacked a b c d z = omega arith

down2 : (v : ℕ) → v / 65536 ≡ v / 256 / 256
down2 v = omega arith

down3 : (v : ℕ) → v / 2 ^ 24 ≡ v / 65536 / 256
down3 v = omega arith

down4 : (v : ℕ) → v / 2 ^ 32 ≡ v / 2 ^ 24 / 256
down4 v = omega arith

down5 : (v : ℕ) → v / 2 ^ 40 ≡ v / 2 ^ 32 / 256
down5 v = omega arith

down6 : (v : ℕ) → v / 2 ^ 48 ≡ v / 2 ^ 40 / 256
down6 v = omega arith

down7 : (v : ℕ) → v / 2 ^ 56 ≡ v / 2 ^ 48 / 256
down7 v = omega arith

by-words2 : (v : ℕ) → v / 2 ^ 32 ≡ v / 65536 / 65536
by-words2 v = omega arith

by-words3 : (v : ℕ) → v / 2 ^ 48 ≡ v / 2 ^ 32 / 65536
by-words3 v = omega arith

module _ (a b c d e f g h : ℕ) (la : a < 256) (lb : b < 256) (lc : c < 256) (ld : d < 256) (le : e < 256) (lf : f < 256) (lg : g < 256) (v : ℕ) (is : v ≡ four_of a b c d + 2 ^ 32 * four_of e f g h) where
  x7 : ℕ
  x7 = h

  x6 : ℕ
  x6 = g + 256 * x7

  x5 : ℕ
  x5 = f + 256 * x6

  x4 : ℕ
  x4 = e + 256 * x5

  x3 : ℕ
  x3 = d + 256 * x4

  x2 : ℕ
  x2 = c + 256 * x3

  x1 : ℕ
  x1 = b + 256 * x2

  whole : v ≡ a + 256 * x1
  unfolding x1 x2 x3 x4 x5 x6 x7
  whole = is ∙ stacked a b c d (four_of e f g h)

  at1 : v / 256 ≡ x1
  at1 = ap (λ (y : ℕ). y / 256) whole ∙ above8 a x1 la

  at2 : v / 65536 ≡ x2
  unfolding x1
  at2 = down2 v ∙ ap (λ (y : ℕ). y / 256) at1 ∙ above8 b x2 lb

  at3 : v / 2 ^ 24 ≡ x3
  unfolding x2
  at3 = down3 v ∙ ap (λ (y : ℕ). y / 256) at2 ∙ above8 c x3 lc

  at4 : v / 2 ^ 32 ≡ x4
  unfolding x3
  at4 = down4 v ∙ ap (λ (y : ℕ). y / 256) at3 ∙ above8 d x4 ld

  at5 : v / 2 ^ 40 ≡ x5
  unfolding x4
  at5 = down5 v ∙ ap (λ (y : ℕ). y / 256) at4 ∙ above8 e x5 le

  at6 : v / 2 ^ 48 ≡ x6
  unfolding x5
  at6 = down6 v ∙ ap (λ (y : ℕ). y / 256) at5 ∙ above8 f x6 lf

  pub eighth : v / 2 ^ 56 ≡ h
  unfolding x6 x7
  eighth = down7 v ∙ ap (λ (y : ℕ). y / 256) at6 ∙ above8 g x7 lg

  pub first : v % 2 ^ 8 ≡ a
  first = ap (λ (y : ℕ). y % 256) whole ∙ own8 a x1 la

  pub second : v / 2 ^ 8 % 2 ^ 8 ≡ b
  unfolding x1
  second = ap (λ (y : ℕ). y % 256) at1 ∙ own8 b x2 lb

  pub third : v / 2 ^ 16 % 2 ^ 8 ≡ c
  unfolding x2
  third = ap (λ (y : ℕ). y % 256) at2 ∙ own8 c x3 lc

  pub fourth : v / 2 ^ 24 % 2 ^ 8 ≡ d
  unfolding x3
  fourth = ap (λ (y : ℕ). y % 256) at3 ∙ own8 d x4 ld

  pub fifth : v / 2 ^ 32 % 2 ^ 8 ≡ e
  unfolding x4
  fifth = ap (λ (y : ℕ). y % 256) at4 ∙ own8 e x5 le

  pub sixth : v / 2 ^ 40 % 2 ^ 8 ≡ f
  unfolding x5
  sixth = ap (λ (y : ℕ). y % 256) at5 ∙ own8 f x6 lf

  pub seventh : v / 2 ^ 48 % 2 ^ 8 ≡ g
  unfolding x6
  seventh = ap (λ (y : ℕ). y % 256) at6 ∙ own8 g x7 lg

module _ (a b c d : ℕ) (la : a < 65536) (lb : b < 65536) (lc : c < 65536) where
  pub first16 : (a + 65536 * (b + 65536 * (c + 65536 * d))) % 2 ^ 16 ≡ a
  first16 = own16 a (b + 65536 * (c + 65536 * d)) la

  up1 : (a + 65536 * (b + 65536 * (c + 65536 * d))) / 2 ^ 16 ≡ b + 65536 * (c + 65536 * d)
  up1 = above16 a (b + 65536 * (c + 65536 * d)) la

  up2 : (a + 65536 * (b + 65536 * (c + 65536 * d))) / 2 ^ 32 ≡ c + 65536 * d
  up2 = by-words2 _ ∙ ap (λ (y : ℕ). y / 65536) up1 ∙ above16 b (c + 65536 * d) lb

  pub second16 : (a + 65536 * (b + 65536 * (c + 65536 * d))) / 2 ^ 16 % 2 ^ 16 ≡ b
  second16 = ap (λ (y : ℕ). y % 65536) up1 ∙ own16 b (c + 65536 * d) lb

  pub third16 : (a + 65536 * (b + 65536 * (c + 65536 * d))) / 2 ^ 32 % 2 ^ 16 ≡ c
  third16 = ap (λ (y : ℕ). y % 65536) up2 ∙ own16 c d lc

  pub fourth16 : (a + 65536 * (b + 65536 * (c + 65536 * d))) / 2 ^ 48 ≡ d
  fourth16 = by-words3 _ ∙ ap (λ (y : ℕ). y / 65536) up2 ∙ above16 c d lc

-- numbers are equal by their fields
pub equal : (v w : Numbers) → v.state ≡ w.state → v.held ≡ w.held → v.reg ≡ w.reg → v.covered ≡ w.covered → v.half ≡ w.half → v.round ≡ w.round → v.q ≡ w.q → v.flags ≡ w.flags
    → v.number ≡ w.number → v.cover ≡ w.cover → v.upper ≡ w.upper → v.slot ≡ w.slot → v ≡ w
equal v w a b c d e f g h i j k l =
    λ t. record { state = a t; held = b t; reg = c t; covered = d t; half = e t; round = f t; q = g t; flags = h t; number = i t; cover = j t; upper = k t; slot = l t }

-- what was packed is what is read
module _ (v : Numbers) (x y : ℕ) (ex : x ≡ four_of v.state v.held v.reg v.covered) (ey : y ≡ four_of v.half v.round v.q v.flags)
    (state : v.state < 256) (held : v.held < 256) (reg : v.reg < 256) (covered : v.covered < 256) (half : v.half < 256) (round : v.round < 256) (q : v.q < 256)
    (number : v.number < 65536) (cover : v.cover < 65536) (upper : v.upper < 65536) where
  low : x + 2 ^ 32 * y ≡ four_of v.state v.held v.reg v.covered + 2 ^ 32 * four_of v.half v.round v.q v.flags
  low = rw (ex, ey)

  pub packed-parts : numbers_in (record { low = x + 2 ^ 32 * y; high = v.number + 65536 * (v.cover + 65536 * (v.upper + 65536 * v.slot)) }) ≡ v
  packed-parts =
      equal _ v
      (first _ _ _ _ _ _ _ _ state held reg covered half round q _ low) (second _ _ _ _ _ _ _ _ state held reg covered half round q _ low)
      (third _ _ _ _ _ _ _ _ state held reg covered half round q _ low) (fourth _ _ _ _ _ _ _ _ state held reg covered half round q _ low)
      (fifth _ _ _ _ _ _ _ _ state held reg covered half round q _ low) (sixth _ _ _ _ _ _ _ _ state held reg covered half round q _ low)
      (seventh _ _ _ _ _ _ _ _ state held reg covered half round q _ low) (eighth _ _ _ _ _ _ _ _ state held reg covered half round q _ low)
      (first16 _ _ _ v.slot number cover upper) (second16 _ _ _ v.slot number cover upper) (third16 _ _ _ v.slot number cover upper) (fourth16 _ _ _ v.slot number cover upper)

-- a number is told by its lowest part and what stands above it
by8 : (n : ℕ) → n ≡ n % 256 + 256 * (n / 256)
by8 n = omega arith

by16 : (n : ℕ) → n ≡ n % 65536 + 65536 * (n / 65536)
by16 n = omega arith

module _ (a b : ℕ) where
  from8 : a % 256 ≡ b % 256 → a / 256 ≡ b / 256 → a ≡ b
  from8 p q = by8 a ∙ (λ i. p i + 256 * q i) ∙ sym (by8 b)

  from16 : a % 65536 ≡ b % 65536 → a / 65536 ≡ b / 65536 → a ≡ b
  from16 p q = by16 a ∙ (λ i. p i + 65536 * q i) ∙ sym (by16 b)

-- a record is told by its numbers, so that no two records stand for the same
module _ (a b : Record) (e : numbers_in a ≡ numbers_in b) where
  x : ℕ
  x = a.low

  y : ℕ
  y = b.low

  low_same : x ≡ y
  unfolding x y
  low_same =
      let seventh = from8 (x / 2 ^ 48) (y / 2 ^ 48) (ap (λ (v : Numbers). v.q) e) (sym (down7 x) ∙ ap (λ (v : Numbers). v.flags) e ∙ down7 y) in
      let sixth = from8 (x / 2 ^ 40) (y / 2 ^ 40) (ap (λ (v : Numbers). v.round) e) (sym (down6 x) ∙ seventh ∙ down6 y) in
      let fifth = from8 (x / 2 ^ 32) (y / 2 ^ 32) (ap (λ (v : Numbers). v.half) e) (sym (down5 x) ∙ sixth ∙ down5 y) in
      let fourth = from8 (x / 2 ^ 24) (y / 2 ^ 24) (ap (λ (v : Numbers). v.covered) e) (sym (down4 x) ∙ fifth ∙ down4 y) in
      let third = from8 (x / 2 ^ 16) (y / 2 ^ 16) (ap (λ (v : Numbers). v.reg) e) (sym (down3 x) ∙ fourth ∙ down3 y) in
      let second = from8 (x / 2 ^ 8) (y / 2 ^ 8) (ap (λ (v : Numbers). v.held) e) (sym (down2 x) ∙ third ∙ down2 y) in
      from8 x y (ap (λ (v : Numbers). v.state) e) second

  high_same : a.high ≡ b.high
  high_same =
      let third = from16 (a.high / 2 ^ 32) (b.high / 2 ^ 32) (ap (λ (v : Numbers). v.upper) e) (sym (by-words3 a.high) ∙ ap (λ (v : Numbers). v.slot) e ∙ by-words3 b.high) in
      let second = from16 (a.high / 2 ^ 16) (b.high / 2 ^ 16) (ap (λ (v : Numbers). v.cover) e) (sym (by-words2 a.high) ∙ third ∙ by-words2 b.high) in
      from16 a.high b.high (ap (λ (v : Numbers). v.number) e) second

  pub one-record : a ≡ b
  unfolding x y
  one-record = λ i. record { low = low_same i; high = high_same i }
