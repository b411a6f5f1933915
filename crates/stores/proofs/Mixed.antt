-- Torn stores word by word: a store cut between its bytes is the store of a word joined of the old and the new. Such a word may stand where both may, and
-- a run of stores whose last is torn keeps and leaves what a run of whole ones does. Assumes nothing.
use Prim.Native.Nat.{ℕ, zero, suc, ◌+◌, ◌-◌, ◌*◌, ◌/◌, ◌%◌, ◌^◌, ◌≤◌, ◌<◌, ◌∣◌}
use mathlib.Core.Path.{◌≡◌, refl, sym, ap, ◌∙◌, subst}
use mathlib.Core.Logic.{◌≢◌}
use mathlib.Core.Bool.{Bool, true, false, cond}
use mathlib.Core.List.{List, [], ◌∷◌, ◌++◌}
use native.Mathlib.Nat.{dvd-add, dvd-mul_left, dvd-mul_left_of_dvd, dvd-mod_iff, mod-eq-zero_of_dvd, dvd_of_mod-eq-zero, mod-mod_of_dvd}
use native.Mathlib.Omega.{arith}
use native.Mathlib.Decide.{dec_le, dec_lt}
use lib.Dec.{eqb, leb, ltb}
use lib.Pow.{pow-add}
use lib.ListN.{length, get_or, set, length-set}
use lib.Seq.{take-nil, set-get_or, set_comm, set_out, get_or-set_same, get_or-set_other}
use borrow.Author.Tests.{eqb-true, eqb-false, ltb-true, leb-true, lt-ltb, le-leb, eq-eqb}
use Rattle.bits.specs.Words.{word_at, with_word, Store, after}
use Rattle.bits.proofs.Words.{length-with, word-with-same, word-with-other}
use Rattle.bits.proofs.Stores.{Avoids, Fine, Fits, last, after-fine}
use Rattle.image.specs.declared.Layout.{Layout}
use Rattle.image.specs.Layout.{end}
use Rattle.image.specs.Steps.{spare_in}
use Rattle.image.proofs.Fits.{Ok}
use Rattle.stores.specs.Cuts.{Cut, with_byte, cut_after}
use Rattle.stores.proofs.Sane.{Stays}

-- what is made of the store that the power fails in: nothing, its high byte, or its low byte
pub data Tear : Type 0 where
  none : Tear
  high : Tear
  low : Tear

-- the high byte of a and the low byte of b
abbrev pub joined : ℕ → ℕ → ℕ
joined a b = a / 256 * 256 + b % 256

-- the word where a stood and v was to be stored
abbrev mixed : Tear → ℕ → ℕ → ℕ
mixed none a v = a
mixed high a v = joined v a
mixed low a v = joined a v

-- the bytes m after what is made of the store s, and after k whole stores of a list and what is made of the next
abbrev pub mix : Tear → List ℕ → Store → List ℕ
mix none m s = m
mix high m s = with_word m s.at (mixed high (word_at m s.at) s.value)
mix low m s = with_word m s.at (mixed low (word_at m s.at) s.value)

abbrev pub mix_after : ℕ → Tear → List ℕ → List Store → List ℕ
mix_after k t m [] = m
mix_after zero t m (s ∷ ss) = mix t m s
mix_after (suc k) t m (s ∷ ss) = mix_after k t (with_word m s.at s.value) ss

-- multiples of a power of 2, byte by byte
joined-low : (a b s : ℕ) → a % 2 ^ s ≡ 0 → b % 2 ^ s ≡ 0 → joined a b % 2 ^ s ≡ 0
joined-low a b s p q = go (dec_le s 8)
  where
    go : Dec (s ≤ 8) → joined a b % 2 ^ s ≡ 0
    go (yes l) =
        let e : 8 - s + s ≡ 8 = omega arith in
        let d : 2 ^ s ∣ 256 = rw (sym (pow-add 2 (8 - s) s) ∙ ap (λ (x : ℕ). 2 ^ x) e) at (dvd-mul_left (2 ^ s) (2 ^ (8 - s))) in
        mod-eq-zero_of_dvd (2 ^ s)
        (dvd-add (2 ^ s) (dvd-mul_left_of_dvd (2 ^ s) d (a / 256)) ((dvd-mod_iff (2 ^ s) {m = b} d).1 (dvd_of_mod-eq-zero (2 ^ s) q)))
    go (no l) =
        let e : s - 8 + 8 ≡ s = omega arith in
        let d : 256 ∣ 2 ^ s = rw (sym (pow-add 2 (s - 8) 8) ∙ ap (λ (x : ℕ). 2 ^ x) e) at (dvd-mul_left 256 (2 ^ (s - 8))) in
        let x : a % 256 ≡ 0 = sym (mod-mod_of_dvd 256 a d) ∙ ap (λ (r : ℕ). r % 256) p in
        let z : b % 256 ≡ 0 = sym (mod-mod_of_dvd 256 b d) ∙ ap (λ (r : ℕ). r % 256) q in
        let f : joined a b ≡ a = omega arith in
        rw f p

joined-stands : (y : Layout) (i a b : ℕ) → Ok y i a → Ok y i b → Ok y i (joined a b)
joined-stands y i a b = go (eqb i y.status.at) (eqb i (y.status.at + 1)) (eqb i (y.epc.at + 1)) (eqb (i + 1) (end y.perma))
  where
    test : Bool → Bool → Bool → Bool → ℕ → Bool
    test l k p r v = cond l (ltb v 1024) (cond k (ltb v 2) (cond p (leb (v / 2048 + 2) y.epc.words) (cond r (eqb (v % 2 ^ spare_in y) 0) true)))

    go : (l k p r : Bool) → test l k p r a ≡ true → test l k p r b ≡ true → test l k p r (joined a b) ≡ true
    go true k p r e f = let x = ltb-true a 1024 e in let z = ltb-true b 1024 f in lt-ltb (joined a b) 1024 (omega arith)
    go false true p r e f = let x = ltb-true a 2 e in let z = ltb-true b 2 f in lt-ltb (joined a b) 2 (omega arith)
    go false false true r e f = let x = leb-true (a / 2048 + 2) y.epc.words e in le-leb (joined a b / 2048 + 2) y.epc.words (omega arith)
    go false false false true e f = eq-eqb _ _ (joined-low a b (spare_in y) (eqb-true _ _ e) (eqb-true _ _ f))
    go false false false false e f = refl

-- a word joined of two that may stand may stand
pub joined-stays : (y : Layout) (h : List ℕ) (i a b : ℕ) → Stays y h i a → Stays y h i b → Stays y h i (joined a b)
joined-stays y h i a b p q = (λ l. omega (arith, p.0 l, q.0 l), joined-stands y i a b p.1 q.1)

-- one torn store
mix-length : (t : Tear) (m : List ℕ) (s : Store) → length (mix t m s) ≡ length m
mix-length none m s = refl
mix-length high m s = length-with m s.at _
mix-length low m s = length-with m s.at _

mix-other : (t : Tear) (m : List ℕ) (s : Store) (i : ℕ) → i ≢ s.at → word_at (mix t m s) i ≡ word_at m i
mix-other none m s i n = refl
mix-other high m s i n = word-with-other m s.at _ i n
mix-other low m s i n = word-with-other m s.at _ i n

mix-word : (t : Tear) (m : List ℕ) (s : Store) → 2 * s.at + 1 < length m → word_at (mix t m s) s.at ≡ mixed t (word_at m s.at) s.value
mix-word none m s h = refl
mix-word high m s h = word-with-same m s.at _ h
mix-word low m s h = word-with-same m s.at _ h

-- a run: its length, what it avoids, and its parts
pub run_length : (k : ℕ) (t : Tear) (m : List ℕ) (ss : List Store) → length (mix_after k t m ss) ≡ length m
run_length k t m [] = refl
run_length zero t m (s ∷ ss) = mix-length t m s
run_length (suc k) t m (s ∷ ss) = run_length k t (with_word m s.at s.value) ss ∙ length-with m s.at s.value

pub run-avoids : (k : ℕ) (t : Tear) (m : List ℕ) (ss : List Store) (i : ℕ) → Avoids i ss → word_at (mix_after k t m ss) i ≡ word_at m i
run-avoids k t m [] i a = refl
run-avoids zero t m (s ∷ ss) i a = mix-other t m s i a.0
run-avoids (suc k) t m (s ∷ ss) i a = run-avoids k t (with_word m s.at s.value) ss i a.1 ∙ word-with-other m s.at s.value i a.0

pub run-whole : (t : Tear) (m : List ℕ) (ss : List Store) → mix_after (length ss) t m ss ≡ after m ss
run-whole t m [] = refl
run-whole t m (s ∷ ss) = run-whole t (with_word m s.at s.value) ss

pub run-first : (k : ℕ) (t : Tear) (m : List ℕ) (xs ys : List Store) → k < length xs → mix_after k t m (xs ++ ys) ≡ mix_after k t m xs
run-first k t m [] ys h = absurd (omega arith)
run-first zero t m (x ∷ xs) ys h = refl
run-first (suc k) t m (x ∷ xs) ys h = run-first k t (with_word m x.at x.value) xs ys (omega arith)

pub run-second : (k : ℕ) (t : Tear) (m : List ℕ) (xs ys : List Store) → mix_after (length xs + k) t m (xs ++ ys) ≡ mix_after k t (after m xs) ys
run-second k t m [] ys = let e : 0 + k ≡ k = omega arith in rw e
run-second k t m (x ∷ xs) ys =
    let e : suc (length xs) + k ≡ suc (length xs + k) = omega arith in
    rw e (run-second k t (with_word m x.at x.value) xs ys)

-- where both parts of a list, cut anywhere, leave what has a property, so does the list
pub run-parts : (P : List ℕ → Type 0) (m : List ℕ) (xs ys : List Store) → ((k : ℕ) (t : Tear) → k < length xs → P (mix_after k t m xs))
    → ((k : ℕ) (t : Tear) → P (mix_after k t (after m xs) ys)) → (k : ℕ) (t : Tear) → P (mix_after k t m (xs ++ ys))
run-parts P m xs ys f g k t = go (dec_lt k (length xs))
  where
    go : Dec (k < length xs) → P (mix_after k t m (xs ++ ys))
    go (yes l) = subst P (sym (run-first k t m xs ys l)) (f k t l)
    go (no l) =
        let q : length xs + (k - length xs) ≡ k = omega arith in
        subst (λ (j : ℕ). P (mix_after j t m (xs ++ ys))) q (subst P (sym (run-second (k - length xs) t m xs ys)) (g (k - length xs) t))

-- a run cut so, and then all of its stores from the first: as all of them once
pub run-again : (k : ℕ) (t : Tear) (m : List ℕ) (ss : List Store) (i : ℕ) → last i (word_at (mix_after k t m ss) i) ss ≡ last i (word_at m i) ss
unfolding last
run-again k t m [] i = refl
run-again zero t m (s ∷ ss) i = go (eqb i s.at) refl
  where
    go : (b : Bool) → eqb i s.at ≡ b → last i (cond b s.value (word_at (mix t m s) i)) ss ≡ last i (cond b s.value (word_at m i)) ss
    go true e = refl
    go false e = ap (λ (d : ℕ). last i d ss) (mix-other t m s i (eqb-false i s.at e))
run-again (suc k) t m (s ∷ ss) i = go (run-again k t (with_word m s.at s.value) ss i) (eqb i s.at) refl
  where
    n : List ℕ
    n = with_word m s.at s.value

    go : last i (word_at (mix_after k t n ss) i) ss ≡ last i (word_at n i) ss → (b : Bool) → eqb i s.at ≡ b
        → last i (cond b s.value (word_at (mix_after k t n ss) i)) ss ≡ last i (cond b s.value (word_at m i)) ss
    go ih true e = refl
    go ih false e = ih ∙ ap (λ (d : ℕ). last i d ss) (word-with-other m s.at s.value i (eqb-false i s.at e))

-- where each word below w satisfies a rule of its place that joining keeps, and each value stored too, each word does afterwards
module _ (ok : ℕ → ℕ → Type 0) (joins : (i a b : ℕ) → ok i a → ok i b → ok i (joined a b)) (w : ℕ) where
  mixed-ok : (t : Tear) (i a v : ℕ) → ok i a → ok i v → ok i (mixed t a v)
  mixed-ok none i a v p q = p
  mixed-ok high i a v p q = joins i v a q p
  mixed-ok low i a v p q = joins i a v p q

  mix-fine : (t : Tear) (m : List ℕ) (s : Store) → 2 * w ≤ length m → ok s.at s.value → Fine w ok m → Fine w ok (mix t m s)
  mix-fine t m s size o f i l = go (eqb i s.at) refl
    where
      go : (b : Bool) → eqb i s.at ≡ b → ok i (word_at (mix t m s) i)
      go true e =
          let q = eqb-true i s.at e in
          rw (q, mix-word t m s (omega arith)) (mixed-ok t s.at (word_at m s.at) s.value (f s.at (omega arith)) o)
      go false e = rw (mix-other t m s i (eqb-false i s.at e)) (f i l)

  pub run-fine : (k : ℕ) (t : Tear) (m : List ℕ) (ss : List Store) → 2 * w ≤ length m → Fits ok ss → Fine w ok m → Fine w ok (mix_after k t m ss)
  run-fine k t m [] size o f = f
  run-fine zero t m (s ∷ ss) size o f = mix-fine t m s size o.0 f
  run-fine (suc k) t m (s ∷ ss) size o f =
      run-fine k t (with_word m s.at s.value) ss (rw length-with size) o.1 (after-fine ok w m (s ∷ []) size (o.0, tt) f)

-- the words' low bytes are bytes, and stay so
abbrev pub Lows : List ℕ → Type 0
Lows m = (i : ℕ) → get_or m (2 * i + 1) 0 < 256

with-lows : (m : List ℕ) (i v : ℕ) → Lows m → Lows (with_word m i v)
unfolding with_word
with-lows m i v h j = go (dec_lt (2 * i + 1) (length m)) (eqb j i) refl
  where
    go : Dec (2 * i + 1 < length m) → (b : Bool) → eqb j i ≡ b → get_or (set (set m (2 * i) (v / 256)) (2 * i + 1) (v % 256)) (2 * j + 1) 0 < 256
    go (yes l) true e =
        rw (eqb-true j i e, get_or-set_same (set m (2 * i) (v / 256)) (2 * i + 1) (v % 256) 0 (rw length-set l)) (omega arith)
    go (no l) true e =
        rw (set_out (set m (2 * i) (v / 256)) (2 * i + 1) (v % 256) (rw length-set (omega arith)), get_or-set_other m (2 * i) (2 * j + 1) (v / 256) 0 (omega arith)) (h j)
    go d false e =
        let n = eqb-false j i e in
        rw (get_or-set_other (set m (2 * i) (v / 256)) (2 * i + 1) (2 * j + 1) (v % 256) 0 (omega arith), get_or-set_other m (2 * i) (2 * j + 1) (v / 256) 0 (omega arith)) (h j)

mix-lows : (t : Tear) (m : List ℕ) (s : Store) → Lows m → Lows (mix t m s)
mix-lows none m s h = h
mix-lows high m s h = with-lows m s.at _ h
mix-lows low m s h = with-lows m s.at _ h

run-lows : (k : ℕ) (t : Tear) (m : List ℕ) (ss : List Store) → Lows m → Lows (mix_after k t m ss)
run-lows k t m [] h = h
run-lows zero t m (s ∷ ss) h = mix-lows t m s h
run-lows (suc k) t m (s ∷ ss) h = run-lows k t (with_word m s.at s.value) ss (with-lows m s.at s.value h)

-- one byte of a store: by where the byte stands
mix-high : (m : List ℕ) (s : Store) → Lows m → set m (2 * s.at) (s.value / 256) ≡ mix high m s
unfolding word_at with_word
mix-high m s h =
    let i = 2 * s.at in
    let b = get_or m (i + 1) 0 in
    let l = h s.at in
    let p : joined s.value (get_or m i 0 * 256 + b) / 256 ≡ s.value / 256 = omega arith in
    let q : joined s.value (get_or m i 0 * 256 + b) % 256 ≡ b = omega arith in
    rw (p, q, set_comm m i (i + 1) (s.value / 256) b (omega arith), set-get_or m (i + 1) 0)

mix-low : (m : List ℕ) (s : Store) → Lows m → set m (2 * s.at + 1) (s.value % 256) ≡ mix low m s
unfolding word_at with_word
mix-low m s h =
    let i = 2 * s.at in
    let a = get_or m i 0 in
    let l = h s.at in
    let p : joined (a * 256 + get_or m (i + 1) 0) s.value / 256 ≡ a = omega arith in
    let q : joined (a * 256 + get_or m (i + 1) 0) s.value % 256 ≡ s.value % 256 = omega arith in
    rw (p, q, set-get_or m i 0)

-- byte j as a list of the same length has it that was stored into there
set-as : (m n : List ℕ) (j a : ℕ) → length n ≡ length m → set m j (get_or (set n j a) j 0) ≡ set m j a
set-as m n j a e = go (dec_lt j (length m))
  where
    go : Dec (j < length m) → set m j (get_or (set n j a) j 0) ≡ set m j a
    go (yes l) = rw (get_or-set_same n j a 0 (rw e l))
    go (no l) = rw (set_out m j a (omega arith), set_out m j (get_or (set n j a) j 0) (omega arith))

abbrev pub tear_of : ℕ → Store → Tear
tear_of j s = cond (eqb j (2 * s.at + 1)) low (cond (eqb j (2 * s.at)) high none)

byte-mix : (j : ℕ) (m : List ℕ) (s : Store) → Lows m → with_byte j (with_word m s.at s.value) m ≡ mix (tear_of j s) m s
unfolding with_word
byte-mix j m s h = go (eqb j (2 * s.at + 1)) refl (eqb j (2 * s.at)) refl
  where
    n : List ℕ
    n = set m (2 * s.at) (s.value / 256)

    go : (a : Bool) → eqb j (2 * s.at + 1) ≡ a → (b : Bool) → eqb j (2 * s.at) ≡ b
        → set m j (get_or (set n (2 * s.at + 1) (s.value % 256)) j 0) ≡ mix (cond a low (cond b high none)) m s
    go true e b f = rw (eqb-true j (2 * s.at + 1) e) (set-as m n (2 * s.at + 1) (s.value % 256) (length-set m (2 * s.at) (s.value / 256)) ∙ mix-low m s h)
    go false e true f =
        rw (eqb-true j (2 * s.at) f)
        (ap (set m (2 * s.at)) (get_or-set_other n (2 * s.at + 1) (2 * s.at) (s.value % 256) 0 (omega arith)) ∙ set-as m m (2 * s.at) (s.value / 256) refl ∙ mix-high m s h)
    go false e false f =
        rw (get_or-set_other n (2 * s.at + 1) j (s.value % 256) 0 (eqb-false j (2 * s.at + 1) e), get_or-set_other m (2 * s.at) j (s.value / 256) 0 (eqb-false j (2 * s.at) f))
        (set-get_or m j 0)

-- what a cut by bytes makes of the store that it tears
abbrev pub tear_at : ℕ → ℕ → List Store → Tear
tear_at j k [] = none
tear_at j zero (s ∷ ss) = tear_of j s
tear_at j (suc k) (s ∷ ss) = tear_at j k ss

pub tear-seam : (j : ℕ) (xs : List Store) (s : Store) (ys : List Store) → tear_at j (length xs) (xs ++ s ∷ ys) ≡ tear_of j s
tear-seam j [] s ys = refl
tear-seam j (x ∷ xs) s ys = tear-seam j xs s ys

pub cut-mix : (c : Cut) (m : List ℕ) (ss : List Store) → Lows m → cut_after c m ss ≡ mix_after c.whole (tear_at c.byte c.whole ss) m ss
cut-mix c m ss h = go c.whole m ss h
  where
    go : (k : ℕ) (m : List ℕ) (ss : List Store) → Lows m → cut_after (record { whole = k; byte = c.byte }) m ss ≡ mix_after k (tear_at c.byte k ss) m ss
    go k m [] h = rw (take-nil k) (set-get_or m c.byte 0)
    go zero m (s ∷ ss) h = byte-mix c.byte m s h
    go (suc k) m (s ∷ ss) h = go k (with_word m s.at s.value) ss (with-lows m s.at s.value h)

-- so what holds of a run whose last store is torn holds of a cut by bytes
pub cut_by : (P : List ℕ → Type 0) (m : List ℕ) (ss : List Store) → Lows m → ((k : ℕ) (t : Tear) → P (mix_after k t m ss)) → (c : Cut) → P (cut_after c m ss)
cut_by P m ss h f c = subst P (sym (cut-mix c m ss h)) (f c.whole (tear_at c.byte c.whole ss))

pub cut-lows : (c : Cut) (m : List ℕ) (ss : List Store) → Lows m → Lows (cut_after c m ss)
cut-lows c m ss h = cut_by Lows m ss h (λ k t. run-lows k t m ss h) c
