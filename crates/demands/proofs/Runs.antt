-- Any run: each call leaves a good image, keeps what is to be kept, and pending words only of a kind that keeps it; where a word is torn, each of its bits is
-- the old one or the new one. Assumes nothing.
use Prim.Native.Nat.{ℕ, zero, suc, ◌+◌, ◌-◌, ◌*◌, ◌/◌, ◌%◌, ◌^◌, ◌≤◌, ◌<◌}
use mathlib.Core.Path.{◌≡◌, refl, sym, ap, ap₂, ◌∙◌, subst}
use mathlib.Core.Logic.{◌⊎◌, inl, inr, ⊎_elim, ⊎_map}
use mathlib.Core.List.{List, [], ◌∷◌, ◌++◌}
use native.Mathlib.Nat.{le-div_iff_mul-le, div-mul-le_self}
use native.Mathlib.Omega.{arith}
use native.Mathlib.Decide.{dec_lt}
use lib.Dec.{ltb}
use lib.ListN.{length}
use lib.Pow.{field, mod-mod-pow, shr-shr}
use lib.Seq.{set-get_or}
use Rattle.bits.specs.Words.{word_at, Store, store, after, All}
use Rattle.bits.proofs.Stores.{Fine, Fits, all_append, all-imp}
use Rattle.image.specs.declared.Layout.{Layout}
use Rattle.image.specs.Layout.{layout_of, end, blocks_in}
use Rattle.image.specs.Content.{permalock, count_in, pending}
use Rattle.image.specs.Rules.{Header, Good}
use Rattle.image.proofs.Answers.{check-good, good-check}
use Rattle.image.proofs.Fits.{go-below}
use Rattle.rights.specs.Rights.{pwd_bit, perma_bit}
use Rattle.stores.specs.Stores.{staged, finished, change_stores, settling, epc_crc, power_stores}
use Rattle.stores.specs.Cuts.{Cut, with_byte, cut_after}
use Rattle.stores.proofs.Sane.{none-pending}
use Rattle.stores.proofs.Mixed.{joined, Lows, run-fine, cut_by, cut-lows}
use Rattle.stores.proofs.Cuts.{change-left, power-left}
use Rattle.tag.specs.declared.Session.{Session}
use Rattle.tag.specs.Result.{Result, leaves, first_of}
use Rattle.tag.specs.Port.{bad_count, refusals, read_of}
use Rattle.demands.specs.Calls.{Call, power_up, frame, ask, release, register, read, write, Tag, answer_of, torn, Turn, run_image}
use Rattle.demands.specs.Demands.{Storing, by_radio, by_port, lasting, Kept, AnyRun}
use Rattle.demands.proofs.Sound.{PairKept, Keeps, Sound, free-keeps}
use Rattle.demands.proofs.Plans.{Plan, no-plan, plan-change}
use Rattle.demands.proofs.Rows.{Refused, Acting, words_of, acts, first-each}
use Rattle.demands.proofs.Cuts.{power-torn, torn-lasting}

-- some store of the list puts v at word i
abbrev Puts : List Store → ℕ → ℕ → Type 0
Puts [] i v = ⊥
Puts (s ∷ ss) i v = ((s.at ≡ i) × (s.value ≡ v)) ⊎ Puts ss i v

all-puts : (ss : List Store) → All (λ s. Puts ss s.at s.value) ss
all-puts [] = tt
all-puts (s ∷ ss) = (inl (refl, refl), all-imp (λ x. Puts ss x.at x.value) (λ x. Puts (s ∷ ss) x.at x.value) (λ x h. inr h) ss (all-puts ss))

puts-all : (P : Store → Type 0) (ss : List Store) → All P ss → (i v : ℕ) → Puts ss i v → P (store i v)
puts-all P [] a i v h = absurd h
puts-all P (s ∷ ss) a i v (inl h) = subst (λ (x : ℕ). P (store x v)) h.0 (subst (λ (x : ℕ). P (store s.at x)) h.1 a.0)
puts-all P (s ∷ ss) a i v (inr h) = puts-all P ss a.1 i v h

all-and : (P Q : Store → Type 0) (ss : List Store) → All P ss → All Q ss → All (λ s. P s × Q s) ss
all-and P Q [] a b = tt
all-and P Q (s ∷ ss) a b = ((a.0, b.0), all-and P Q ss a.1 b.1)

-- each byte of v is that of a or that of p
record Between (a p v : ℕ) : Type 0 where
  high : (v / 256 ≡ a / 256) ⊎ (v / 256 ≡ p / 256)
  low : (v % 256 ≡ a % 256) ⊎ (v % 256 ≡ p % 256)

between-old : (a p v : ℕ) → v ≡ a → Between a p v
between-old a p v e = record { high = inl (ap (λ (x : ℕ). x / 256) e); low = inl (ap (λ (x : ℕ). x % 256) e) }

between-new : (a p v : ℕ) → v ≡ p → Between a p v
between-new a p v e = record { high = inr (ap (λ (x : ℕ). x / 256) e); low = inr (ap (λ (x : ℕ). x % 256) e) }

between-joined : (w p a b : ℕ) → Between w p a → Between w p b → Between w p (joined a b)
between-joined w p a b f g =
    let h : joined a b / 256 ≡ a / 256 = omega arith in
    let l : joined a b % 256 ≡ b % 256 = omega arith in
    record { high = ⊎_map (λ e. h ∙ e) (λ e. h ∙ e) f.high; low = ⊎_map (λ e. l ∙ e) (λ e. l ∙ e) g.low }

between-same : (a p v : ℕ) → Between a p v → p ≡ a → v ≡ a
between-same a p v b e = go b.high b.low
  where
    go : (v / 256 ≡ a / 256) ⊎ (v / 256 ≡ p / 256) → (v % 256 ≡ a % 256) ⊎ (v % 256 ≡ p % 256) → v ≡ a
    go (inl h) (inl l) = omega arith
    go (inl h) (inr l) = omega arith
    go (inr h) (inl l) = omega arith
    go (inr h) (inr l) = omega arith

-- words with the same low byte have the same low eight bits, and so the others
low_bits : (v a t : ℕ) → t < 8 → v % 256 ≡ a % 256 → v / 2 ^ t % 2 ≡ a / 2 ^ t % 2
low_bits v a t l e = bit v ∙ ap (λ (x : ℕ). x / 2 ^ t % 2) e ∙ sym (bit a)
  where
    bit : (n : ℕ) → n / 2 ^ t % 2 ≡ n % 256 / 2 ^ t % 2
    bit n =
        let e : 7 - t + 1 + t ≡ 8 = omega arith in
        sym (mod-mod-pow (n / 2 ^ t) (7 - t) 1) ∙ ap (λ (x : ℕ). x % 2) (sym (field n (7 - t + 1) t) ∙ ap (λ (x : ℕ). n % 2 ^ x / 2 ^ t) e)

high_bits : (v a t : ℕ) → 8 ≤ t → v / 256 ≡ a / 256 → v / 2 ^ t % 2 ≡ a / 2 ^ t % 2
high_bits v a t l e = bit v ∙ ap (λ (x : ℕ). x / 2 ^ (t - 8) % 2) e ∙ sym (bit a)
  where
    bit : (n : ℕ) → n / 2 ^ t % 2 ≡ n / 256 / 2 ^ (t - 8) % 2
    bit n = let e : 8 + (t - 8) ≡ t = omega arith in ap (λ (x : ℕ). x % 2) (sym (shr-shr n 8 (t - 8) ∙ ap (λ (x : ℕ). n / 2 ^ x) e))

-- a bit of v, and a pair's two bits, which stand in one byte
between-bit : (a p v t : ℕ) → Between a p v → (v / 2 ^ t % 2 ≡ a / 2 ^ t % 2) ⊎ (v / 2 ^ t % 2 ≡ p / 2 ^ t % 2)
between-bit a p v t b = go (dec_lt t 8)
  where
    go : Dec (t < 8) → (v / 2 ^ t % 2 ≡ a / 2 ^ t % 2) ⊎ (v / 2 ^ t % 2 ≡ p / 2 ^ t % 2)
    go (yes l) = ⊎_map (low_bits v a t l) (low_bits v p t l) b.low
    go (no l) = let h : 8 ≤ t = omega arith in ⊎_map (high_bits v a t h) (high_bits v p t h) b.high

SamePair : ℕ → ℕ → ℕ → Type 0
SamePair v a k = (perma_bit v k ≡ perma_bit a k) × (pwd_bit v k ≡ pwd_bit a k)

between-pair : (a p v k : ℕ) → Between a p v → SamePair v a k ⊎ SamePair v p k
unfolding SamePair
between-pair a p v zero b =
    let h : 8 ≤ 8 = omega arith in
    let i : 8 ≤ 9 = omega arith in
    ⊎_map (λ e. (high_bits v a 8 h e, high_bits v a 9 i e)) (λ e. (high_bits v p 8 h e, high_bits v p 9 i e)) b.high
between-pair a p v (suc k) b =
    let h : 8 - 2 * suc k < 8 = omega arith in
    let i : 9 - 2 * suc k < 8 = omega arith in
    ⊎_map (λ e. (low_bits v a (8 - 2 * suc k) h e, low_bits v a (9 - 2 * suc k) i e)) (λ e. (low_bits v p (8 - 2 * suc k) h e, low_bits v p (9 - 2 * suc k) i e)) b.low

-- where a word of an image may come from: the image m, EPC word 0, or between m and the words ss, which f tells by their places
abbrev Comes : Layout → List ℕ → List Store → (ℕ → ℕ) → ℕ → ℕ → Type 0
Comes y m ss f i v = (v ≡ word_at m i) ⊎ ((i ≡ y.epc.at) ⊎ (Puts ss i (f i) × Between (word_at m i) (f i) v))

-- the same, for words outside WORK only
abbrev Below : Layout → List ℕ → List Store → (ℕ → ℕ) → ℕ → ℕ → Type 0
Below y m ss f i v = i < y.work.at → Comes y m ss f i v

module _ (y : Layout) (m : List ℕ) (ss : List Store) (f : ℕ → ℕ) where
  comes-joined : (i a b : ℕ) → Comes y m ss f i a → Comes y m ss f i b → Comes y m ss f i (joined a b)
  comes-joined i a b (inl p) (inl q) = inl (omega arith)
  comes-joined i a b (inl p) (inr (inl q)) = inr (inl q)
  comes-joined i a b (inl p) (inr (inr q)) = inr (inr (q.0, between-joined (word_at m i) (f i) a b (between-old (word_at m i) (f i) a p) q.1))
  comes-joined i a b (inr (inl p)) c = inr (inl p)
  comes-joined i a b (inr (inr p)) (inl q) = inr (inr (p.0, between-joined (word_at m i) (f i) a b p.1 (between-old (word_at m i) (f i) b q)))
  comes-joined i a b (inr (inr p)) (inr (inl q)) = inr (inl q)
  comes-joined i a b (inr (inr p)) (inr (inr q)) = inr (inr (p.0, between-joined (word_at m i) (f i) a b p.1 q.1))

  below-joined : (i a b : ℕ) → Below y m ss f i a → Below y m ss f i b → Below y m ss f i (joined a b)
  below-joined i a b p q = λ l. comes-joined i a b (p l) (q l)

  -- stores in WORK, and those of ss, cut anywhere, make such an image
  comes-after : (xs : List Store) → Lows m → 2 * y.work.at ≤ length m → Fits (Below y m ss f) xs → (c : Cut) → Fine y.work.at (Comes y m ss f) (cut_after c m xs)
  comes-after xs h l e =
      cut_by (Fine y.work.at (Comes y m ss f)) m xs h (λ k t i b. run-fine (Below y m ss f) below-joined y.work.at k t m xs l e (λ i l b. inl refl) i b b)

  staged-below : (xs : List Store) (a : ℕ) → y.work.at ≤ a → Fits (Below y m ss f) (staged a xs)
  staged-below [] a l = tt
  staged-below (x ∷ xs) a l = (λ b. absurd (omega arith), (λ b. absurd (omega arith), staged-below xs (a + 2) (omega arith)))

  finished-below : (xs : List Store) → Fits (Below y m ss f) xs → Fits (Below y m ss f) (finished y.work.at xs)
  finished-below [] e = tt
  finished-below (x ∷ xs) e =
      all_append (λ s. Below y m ss f s.at s.value) (x ∷ xs) (store y.work.at 0 ∷ []) e (λ b. absurd (omega arith), tt)

  own_below : All (λ s. s.value ≡ f s.at) ss → Fits (Below y m ss f) ss
  own_below u =
      all-imp (λ s. (s.value ≡ f s.at) × Puts ss s.at s.value) (λ s. Below y m ss f s.at s.value)
      (λ s h b. inr (inr (subst (λ (x : ℕ). Puts ss s.at x) h.0 h.1, between-new (word_at m s.at) (f s.at) s.value h.0))) ss
      (all-and (λ s. s.value ≡ f s.at) (λ s. Puts ss s.at s.value) ss u (all-puts ss))

  change-below : All (λ s. s.value ≡ f s.at) ss → Fits (Below y m ss f) (change_stores y.work.at ss)
  change-below u = go ss (own_below u)
    where
      P : Store → Type 0
      P s = Below y m ss f s.at s.value

      go : (xs : List Store) → Fits (Below y m ss f) xs → Fits (Below y m ss f) (change_stores y.work.at xs)
      go [] e = tt
      go (x ∷ xs) e =
          all_append P (staged (y.work.at + 1) (x ∷ xs) ++ (store y.work.at (length (x ∷ xs)) ∷ [])) (finished y.work.at (x ∷ xs))
          (all_append P (staged (y.work.at + 1) (x ∷ xs)) (store y.work.at (length (x ∷ xs)) ∷ []) (staged-below (x ∷ xs) (y.work.at + 1) (omega arith)) (λ b. absurd (omega arith), tt))
          (finished-below (x ∷ xs) e)

power_below : (y : Layout) (m : List ℕ) (f : ℕ → ℕ) → All (λ s. s.value ≡ f s.at) (pending y m) → Fits (Below y m (pending y m) f) (power_stores y m)
unfolding power_stores
power_below y m f u =
    all_append (λ s. Below y m (pending y m) f s.at s.value) (settling y m) (store y.epc.at (epc_crc y (after m (settling y m))) ∷ [])
    (finished-below y m (pending y m) f (pending y m) (own_below y m (pending y m) f u)) (λ b. inr (inl refl), tt)

-- EPC word 0 is free, and a word that stays keeps everything
module _ (y : Layout) (m : List ℕ) (g : Header y m) where
  epc-keeps : (v : ℕ) → Keeps y m y.epc.at v
  epc-keeps v = free-keeps y m g y.epc.at v (omega arith) (omega arith)

  stays-keeps : (i v : ℕ) → v ≡ word_at m i → Keeps y m i v
  stays-keeps i v e =
      record {
        header = λ l. e;
        tid = λ l n. e;
        locks = λ q k l p. (ap (λ (x : ℕ). perma_bit x k) e ∙ p, ap (λ (x : ℕ). pwd_bit x k) e);
        killed = λ q p. e ∙ p;
        blocks = λ l n t p. ap (λ (x : ℕ). x / 2 ^ t % 2) e ∙ p;
        words = λ l n p. e;
      }

  -- a word of USER is in a block that exists
  block-small : (i : ℕ) → i < y.user.words → i / y.block < blocks_in y
  unfolding blocks_in
  block-small i l =
      let b = y.block in
      let q : (i / b + 1) * b ≤ y.user.words + (b - 1) = omega (arith, div-mul-le_self i b, g.block_least) in
      let r : i / b + 1 ≤ (y.user.words + (b - 1)) / b = (le-div_iff_mul-le {k = b} {x = i / b + 1} {y = y.user.words + (b - 1)} (omega (arith, g.block_least))).1 q in
      omega (arith, r)

  perma-word : (b : ℕ) → b < blocks_in y → b / 16 < y.perma.words
  perma-word b l = omega (arith, g.perma.least, l)

-- what came from m keeps what m had: words of n that keep, and n's own words of a plan
module _ (y : Layout) (m n : List ℕ) (ss : List Store) (g : Good y m) (h : Good y n) (p : Plan y m ss) (c : Fine y.work.at (Comes y m ss p.value) n) where
  hd : Header y m
  hd = g.header

  put_keeps : (i v : ℕ) → Puts ss i v → Keeps y m i v
  put_keeps i v q = (puts-all (Sound y m) ss p.sound i v q).keeps

  between-keeps : (i v u : ℕ) → Keeps y m i v → Between (word_at m i) v u → Keeps y m i u
  unfolding SamePair
  between-keeps i v u k b =
      record {
        header = λ l. same (k.header l);
        tid = λ l n. same (k.tid l n);
        locks = λ q j l e.
            (let s = k.locks q j l e in ⊎_elim (λ d. (d.0 ∙ e, d.1)) (λ d. (d.0 ∙ s.0, d.1 ∙ s.1)) (between-pair (word_at m i) v u j b));
        killed = λ q e. same (k.killed q e ∙ sym e) ∙ e;
        blocks = λ l n t e. ⊎_elim (λ d. d ∙ e) (λ d. d ∙ k.blocks l n t e) (between-bit (word_at m i) v u t b);
        words = λ l n e. same (k.words l n e);
      }
    where
      same : v ≡ word_at m i → u ≡ word_at m i
      same = between-same (word_at m i) v u b

  words-keep : Fine y.work.at (Keeps y m) n
  words-keep i l = go (c i l)
    where
      go : Comes y m ss p.value i (word_at n i) → Keeps y m i (word_at n i)
      go (inl e) = stays-keeps y m hd i (word_at n i) e
      go (inr (inl e)) = subst (λ (x : ℕ). Keeps y m x (word_at n i)) (sym e) (epc-keeps y m hd (word_at n i))
      go (inr (inr q)) = between-keeps i (p.value i) (word_at n i) (put_keeps i (p.value i) q.0) q.1

  -- a word that a store of ss goes to has its old value or that store's, or is EPC word 0
  put-again : (i v : ℕ) → i < y.work.at → Puts ss i v → Keeps y n i v
  unfolding SamePair
  put-again i v l q = go (c i l)
    where
      k : Keeps y m i v
      k = put_keeps i v q

      own : v ≡ p.value i
      own = puts-all (λ s. s.value ≡ p.value s.at) ss p.single i v q

      -- where words of USER are put, PERMA stays
      perma-same : y.user.at ≤ i → i < end y.user → permalock y n ((i - y.user.at) / y.block) ≡ permalock y m ((i - y.user.at) / y.block)
      perma-same a b =
          let k = (i - y.user.at) / y.block in
          let w : k / 16 < y.perma.words = perma-word y m hd k (block-small y m hd (i - y.user.at) (omega arith)) in
          ap (λ (x : ℕ). x / 2 ^ (15 - k % 16) % 2) (word (y.perma.at + k / 16) (omega (arith, w)) (c (y.perma.at + k / 16) (omega (arith, w, hd.work.at))))
        where
          word : (j : ℕ) → y.perma.at ≤ j → Comes y m ss p.value j (word_at n j) → word_at n j ≡ word_at m j
          word j l (inl e) = e
          word j l (inr (inl e)) = absurd (omega (arith, hd))
          word j l (inr (inr r)) =
              ⊎_elim (λ u. absurd (omega (arith, l, puts-all (λ s. s.at < y.perma.at) ss u j (p.value j) r.0)))
              (λ u. absurd (omega (arith, hd, b, puts-all (λ s. y.perma.at ≤ s.at) ss u i v q))) p.apart

      -- what stands in n came from m or from the store itself
      still : Between (word_at m i) v (word_at n i) → Keeps y n i v
      still b =
          record {
            header = λ l. back (k.header l);
            tid = λ l n. back (k.tid l n);
            locks = λ z j l e. ⊎_elim (λ d. pair z j l d.0 d.1 e) (λ d. (sym d.0 ∙ e, sym d.1)) (between-pair (word_at m i) v (word_at n i) j b);
            killed = λ z e. (puts-all (Sound y m) ss p.sound i v q).kills z;
            blocks = λ l h t e. ⊎_elim (λ d. k.blocks l h t (sym d ∙ e)) (λ d. sym d ∙ e) (between-bit (word_at m i) v (word_at n i) t b);
            words = λ l n e. back (k.words l n (sym (perma-same l n) ∙ e));
          }
        where
          back : v ≡ word_at m i → v ≡ word_at n i
          back e = e ∙ sym (between-same (word_at m i) v (word_at n i) b e)

          pair : i ≡ y.status.at → (j : ℕ) → j < 5 → perma_bit (word_at n i) j ≡ perma_bit (word_at m i) j → pwd_bit (word_at n i) j ≡ pwd_bit (word_at m i) j
              → PairKept (word_at n i) v j
          pair z j l c d e = let s = k.locks z j l (sym c ∙ e) in (s.0, s.1 ∙ sym d)

      go : Comes y m ss p.value i (word_at n i) → Keeps y n i v
      go (inl e) = still (between-old (word_at m i) v (word_at n i) e)
      go (inr (inl e)) = subst (λ (x : ℕ). Keeps y n x v) (sym e) (epc-keeps y n h.header v)
      go (inr (inr r)) = still (subst (λ (x : ℕ). Between (word_at m i) x (word_at n i)) (sym own) r.1)

  put-sound : (s : Store) → Sound y m s × Puts ss s.at s.value → Sound y n s
  put-sound s (f, q) = record { goes = f.goes; ok = f.ok; keeps = put-again s.at s.value (go-below y m hd s.at f.goes).1 q; kills = f.kills }

  again-plan : Plan y n ss
  again-plan =
      record {
        sound = all-imp (λ s. Sound y m s × Puts ss s.at s.value) (Sound y n) put-sound ss (all-and (Sound y m) (λ s. Puts ss s.at s.value) ss p.sound (all-puts ss));
        few = p.few;
        value = p.value;
        single = p.single;
        apart = p.apart;
      }

-- a good image whose pending words keep what is to be kept
record Steady (y : Layout) (m : List ℕ) : Type 0 where
  sound : Good y m
  plan : Plan y m (pending y m)

-- n may follow m
record Step (y : Layout) (m n : List ℕ) : Type 0 where
  keeps : Fine y.work.at (Keeps y m) n
  steady : Steady y n

stay : (y : Layout) (m : List ℕ) → Steady y m → Step y m m
stay y m s = record { keeps = λ i l. stays-keeps y m s.sound.header i (word_at m i) refl; steady = s }

advance : (y : Layout) (m n : List ℕ) (ss : List Store) → Good y m → Good y n → (p : Plan y m ss) → Fine y.work.at (Comes y m ss p.value) n
    → (pending y n ≡ ss) ⊎ (pending y n ≡ []) → Step y m n
advance y m n ss g h p c r =
    record {
      keeps = words-keep y m n ss g h p c;
      steady = record { sound = h; plan = ⊎_elim (λ e. subst (Plan y n) (sym e) (again-plan y m n ss g h p c)) (λ e. subst (Plan y n) (sym e) (no-plan y n)) r };
    }

-- a power-up, and a change, each cut anywhere
power-step : (y : Layout) (m : List ℕ) → Steady y m → Lows m → (c : Cut) → Step y m (cut_after c m (power_stores y m))
power-step y m s h c =
    let f = power-left y m h s.sound c in
    advance y m (cut_after c m (power_stores y m)) (pending y m) s.sound f.0 s.plan
    (comes-after y m (pending y m) s.plan.value (power_stores y m) h (omega (arith, s.sound.header.whole)) (power_below y m s.plan.value s.plan.single) c)
    f.1

change-step : (y : Layout) (m : List ℕ) → Steady y m → Lows m → count_in y m ≡ 0 → (ws : List Store) → Plan y m ws → (c : Cut)
    → Step y m (cut_after c m (change_stores y.work.at ws))
change-step y m s h z [] p c = cut_by (Step y m) m [] h (λ k t. stay y m s) c
change-step y m s h z (x ∷ xs) p c =
    let ws = x ∷ xs in
    let f = change-left y m ws h s.sound z (plan-change y m s.sound ws z p (omega arith)) c in
    advance y m (cut_after c m (change_stores y.work.at ws)) ws s.sound f.0 p
    (comes-after y m ws p.value (change_stores y.work.at ws) h (omega (arith, s.sound.header.whole)) (change-below y m ws p.value p.single) c)
    f.1

-- every call; and the words' low bytes stay bytes
module _ (y : Layout) (m : List ℕ) (s : Steady y m) (h : Lows m) (v : Session) where
  tag : Tag
  tag = record { session = v; image = m }

  Next : List ℕ → Type 0
  Next n = Step y m n × Lows n

  -- both images are m
  same_next : (j : ℕ) (n o : List ℕ) → n ≡ m → o ≡ m → Next (with_byte j n o)
  unfolding Next
  same_next j n o p q = subst Next (sym (ap₂ (with_byte j) p q ∙ set-get_or m j 0)) (stay y m s, h)

  acting-next : (c : Storing) (k j : ℕ) → Acting y tag c (words_of tag c) → Next (torn answer_of tag (lasting c k) j)
  unfolding tag Next
  acting-next c k j a =
      let d : Cut = record { whole = k; byte = j } in
      let xs = change_stores y.work.at (words_of tag c) in
      subst Next (sym (torn-lasting tag c k j ∙ ap₂ (with_byte j) (a.image (suc k)) (a.image k)))
      (change-step y m s h a.idle (words_of tag c) a.plan d, cut-lows d m xs h)

  command-next : (c : Storing) (k j : ℕ) → Next (torn answer_of tag (lasting c k) j)
  unfolding tag
  command-next c k j = go (acts y tag c (suc k) s.sound) (acts y tag c k s.sound)
    where
      go : Refused m (answer_of tag (lasting c (suc k))) ⊎ Acting y tag c (words_of tag c) → Refused m (answer_of tag (lasting c k)) ⊎ Acting y tag c (words_of tag c)
          → Next (torn answer_of tag (lasting c k) j)
      go (inl p) (inl q) = subst Next (sym (torn-lasting tag c k j)) (same_next j _ _ p.0 q.0)
      go (inr a) q = acting-next c k j a
      go (inl p) (inr a) = acting-next c k j a

  read_same : (at count : ℕ) (room : List ℕ) → (first_of (read_of v m at count room)).image ≡ m
  unfolding read_of
  read_same at count room =
      first-each (λ (r : Result). r.image ≡ m) (refusals v m room (bad_count (layout_of m) at count) ++ ((leaves 4 v m room, ltb (length room) (2 * count)) ∷ [])) _
      (λ e. refl, (λ e. refl, (λ e. refl, (λ e. refl, (λ e. refl, (λ e. refl, (λ e. refl, tt))))))) refl

  next : (c : Call) (j : ℕ) → Next (torn answer_of tag c j)
  unfolding tag Next
  next (power_up k) j =
      let d : Cut = record { whole = k; byte = j } in
      subst Next (sym (power-torn y m s.sound d))
      (subst (λ (z : Layout). Next (cut_after d m (power_stores z m))) s.sound.layout (power-step y m s h d, cut-lows d m (power_stores y m) h))
  next (frame f bits fresh room k) j = command-next (by_radio f bits fresh room) k j
  next ask j = same_next j m m refl refl
  next release j = same_next j m m refl refl
  next register j = same_next j m m refl refl
  next (read at count room) j = same_next j _ _ (read_same at count room) (read_same at count room)
  next (write at d k) j = command-next (by_port at d) k j

-- one step after the other
keeps_then : (y : Layout) (m n : List ℕ) → Good y m → Fine y.work.at (Keeps y m) n → (i v : ℕ) → i < y.work.at → Keeps y n i v → Keeps y m i v
keeps_then y m n g f i v l k =
    record {
      header = λ a. k.header a ∙ (f i l).header a;
      tid = λ a b. k.tid a b ∙ (f i l).tid a b;
      locks = λ q j a e. (let s = (f i l).locks q j a e in let r = k.locks q j a s.0 in (r.0, r.1 ∙ s.1));
      killed = λ q e. k.killed q ((f i l).killed q e);
      blocks = λ a b t e. k.blocks a b t ((f i l).blocks a b t e);
      words = λ a b e. k.words a b (locked a b e) ∙ (f i l).words a b e;
    }
  where
    locked : y.user.at ≤ i → i < end y.user → permalock y m ((i - y.user.at) / y.block) ≡ 1 → permalock y n ((i - y.user.at) / y.block) ≡ 1
    locked a b e =
        let j = (i - y.user.at) / y.block in
        let w : j / 16 < y.perma.words = perma-word y m g.header j (block-small y m g.header (i - y.user.at) (omega arith)) in
        (f (y.perma.at + j / 16) (omega (arith, w, g.header.work.at))).blocks (omega arith) (omega (arith, w)) (15 - j % 16) e

runs : (y : Layout) (m : List ℕ) (cs : List Turn) → Steady y m → Lows m → Step y m (run_image answer_of m cs) × Lows (run_image answer_of m cs)
unfolding Next tag
runs y m [] s h = (stay y m s, h)
runs y m (c ∷ cs) s h =
    let n = torn answer_of (record { session = c.session; image = m }) c.call c.byte in
    let a : Step y m n × Lows n = next y m s h c.session c.call c.byte in
    let b = runs y n cs a.0.steady a.1 in (
      record { keeps = λ i l. keeps_then y m n s.sound a.0.keeps i (word_at (run_image answer_of n cs) i) l (b.0.keeps i l); steady = b.0.steady },
      b.1,
    )

pub run-append : (m : List ℕ) (cs ds : List Turn) → run_image answer_of m (cs ++ ds) ≡ run_image answer_of (run_image answer_of m cs) ds
run-append m [] ds = refl
run-append m (c ∷ cs) ds = run-append (torn answer_of (record { session = c.session; image = m }) c.call c.byte) cs ds

-- what is kept word by word is what the buyer asks to be kept
kept : (y : Layout) (m n : List ℕ) → Good y m → Step y m n → Kept y m n
kept y m n g s =
    let hd = g.header in
    let f = s.keeps in
    record {
      sound = good-check y n s.steady.sound;
      header = λ i l. (f i (omega arith)).header l;
      tid = λ i a b. (f i (omega arith)).tid a b;
      locks = λ k l e. ((f y.status.at (omega arith)).locks refl k l e).0;
      pairs = λ k l e. ((f y.status.at (omega arith)).locks refl k l e).1;
      killed = λ e. (f (y.status.at + 1) (omega arith)).killed refl e;
      blocks = λ b l e. (let w : b / 16 < y.perma.words = perma-word y m hd b l in
          (f (y.perma.at + b / 16) (omega (arith, w))).blocks (omega arith) (omega (arith, w)) (15 - b % 16) e);
      words = λ i l e. (let z : y.user.at + i - y.user.at ≡ i = omega arith in
          (f (y.user.at + i) (omega arith)).words (omega arith) (omega arith) (ap (λ (x : ℕ). permalock y m (x / y.block)) z ∙ e));
    }

pub any-run : AnyRun answer_of
any-run y m before later bytes idle =
    let g = check-good m y idle.sound in
    let s : Steady y m = record { sound = g; plan = subst (Plan y m) (sym (none-pending y m idle.nothing)) (no-plan y m) } in
    let a = runs y m before s (λ i. bytes (2 * i + 1)) in
    let n = run_image answer_of m before in
    rw (run-append m before later) (kept y n (run_image answer_of n later) a.0.steady.sound (runs y n later a.0.steady a.1).0)
