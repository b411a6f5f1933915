-- The words that commands and SPI writes store: where they go, that they may stand there, and what they keep. Assumes nothing.
use Prim.Native.Nat.{ℕ, zero, suc, ◌+◌, ◌-◌, ◌*◌, ◌/◌, ◌%◌, ◌^◌, ◌≤◌, ◌<◌}
use mathlib.Core.Path.{◌≡◌, refl, subst}
use mathlib.Core.Bool.{false≢true, Bool, true, false, ◌&&◌}
use mathlib.Core.List.{List}
use native.Mathlib.Nat.{mod-one}
use native.Mathlib.Omega.{arith}
use lib.Bits.{bit_or}
use borrow.Author.Tests.{eqb-true}
use Rattle.bits.specs.Words.{word_at, Store, store}
use Rattle.bits.proofs.Below.{and_right}
use Rattle.bits.proofs.Bits.{zero-low}
use Rattle.bits.proofs.Fields.{or-keeps, or-zero}
use Rattle.image.specs.declared.Layout.{Layout}
use Rattle.image.specs.Layout.{end, blocks_in}
use Rattle.image.specs.Content.{permalock, length_of, may_go}
use Rattle.image.specs.Rules.{Header, Content}
use Rattle.image.specs.Steps.{spare_in}
use Rattle.image.proofs.Fits.{Ok, ok-if, go-low, go-high, spare-least, spare-most, spare-word, spare-bit}
use Rattle.rights.specs.Rights.{bank_of, pwd_bit, perma_bit, opens, pair_of, block_open, may_write}

-- a pair that is permalocked in the lock word a keeps both its bits in v
abbrev pub PairKept : ℕ → ℕ → ℕ → Type 0
PairKept a v k = perma_bit a k ≡ 1 → (perma_bit v k ≡ 1) × (pwd_bit v k ≡ pwd_bit a k)

-- v may stand at word i of an image that came from m: header, TID, permalocks and the words of permalocked blocks are as they were
pub record Keeps (y : Layout) (m : List ℕ) (i v : ℕ) : Type 0 where
  pub header : i < 16 → v ≡ word_at m i
  pub tid : y.tid.at ≤ i → i < end y.tid → v ≡ word_at m i
  pub locks : i ≡ y.status.at → (k : ℕ) → k < 5 → PairKept (word_at m i) v k
  pub killed : i ≡ y.status.at + 1 → word_at m i ≡ 1 → v ≡ 1
  pub blocks : y.perma.at ≤ i → i < end y.perma → (t : ℕ) → word_at m i / 2 ^ t % 2 ≡ 1 → v / 2 ^ t % 2 ≡ 1
  pub words : y.user.at ≤ i → i < end y.user → permalock y m ((i - y.user.at) / y.block) ≡ 1 → v ≡ word_at m i

-- a word that a change of m may store
pub record Sound (y : Layout) (m : List ℕ) (s : Store) : Type 0 where
  pub goes : may_go y s.at ≡ true
  pub ok : Ok y s.at s.value
  pub keeps : Keeps y m s.at s.value
  pub kills : s.at ≡ y.status.at + 1 → s.value ≡ 1

module _ (y : Layout) (m : List ℕ) (g : Header y m) where
  size : y.perma.words ≡ (blocks_in y + 15) / 16
  size = omega (arith, g.perma.least, g.perma.most)

  -- a word before PERMA is the last before WORK only where there is no PERMA
  before-perma : (i v : ℕ) → i < y.perma.at → i + 1 ≡ end y.perma → v % 2 ^ spare_in y ≡ 0
  before-perma i v l q = let z : spare_in y ≡ 0 = omega (arith, size) in rw z (mod-one v)

  -- past STATUS and before TID nothing is to be kept
  pub free-keeps : (i v : ℕ) → y.status.at + 1 < i → i < y.tid.at → Keeps y m i v
  free-keeps i v a b =
      record {
        header = λ l. absurd (omega arith);
        tid = λ l n. absurd (omega arith);
        locks = λ q k l. absurd (omega arith);
        killed = λ q e. absurd (omega arith);
        blocks = λ l n t e. absurd (omega arith);
        words = λ l n e. absurd (omega arith);
      }

  -- a word of RESERVED
  reserved-sound : (i v : ℕ) → y.reserved.at ≤ i → i < end y.reserved → Sound y m (store i v)
  reserved-sound i v a b =
      record {
        goes = go-low y m g i (omega arith) (omega arith);
        ok = ok-if y i v (λ q. absurd (omega arith)) (λ q. absurd (omega arith)) (λ q. absurd (omega arith)) (λ q. absurd (omega arith));
        keeps = free-keeps i v (omega arith) (omega arith);
        kills = λ q. absurd (omega arith);
      }

  -- a word of EPC; where it is the PC, its length fits
  epc-sound : (i v : ℕ) → y.epc.at ≤ i → i < end y.epc → (i ≡ y.epc.at + 1 → length_of v + 2 ≤ y.epc.words) → Sound y m (store i v)
  epc-sound i v a b pc =
      record {
        goes = go-low y m g i (omega arith) (omega arith);
        ok = ok-if y i v (λ q. absurd (omega arith)) (λ q. absurd (omega arith)) pc (before-perma i v (omega arith));
        keeps = free-keeps i v (omega arith) (omega arith);
        kills = λ q. absurd (omega arith);
      }

  -- a word of USER in a block that is not permalocked
  pub user-sound : (i v : ℕ) → i < y.user.words → block_open y m i ≡ true → Sound y m (store (y.user.at + i) v)
  user-sound i v b o =
      record {
        goes = go-high y m g (y.user.at + i) (omega arith) (omega arith);
        ok = ok-if y (y.user.at + i) v (λ q. absurd (omega arith)) (λ q. absurd (omega arith)) (λ q. absurd (omega arith)) (before-perma (y.user.at + i) v (omega arith));
        keeps =
            record {
              header = λ l. absurd (omega arith);
              tid = λ l n. absurd (omega arith);
              locks = λ q k l. absurd (omega arith);
              killed = λ q e. absurd (omega arith);
              blocks = λ l n t e. absurd (omega arith);
              words = λ l n e. absurd (closed e);
            };
        kills = λ q. absurd (omega arith);
      }
    where
      closed : permalock y m ((y.user.at + i - y.user.at) / y.block) ≡ 1 → ⊥
      closed e =
          let z : y.user.at + i - y.user.at ≡ i = omega arith in
          let p : permalock y m (i / y.block) ≡ 0 = eqb-true _ _ o in
          let q : permalock y m (i / y.block) ≡ 1 = rw z at e in
          omega (arith, p, q)

  -- the lock word: ten bits, and each permalock stays
  pub lock-sound : (v : ℕ) → v < 1024 → ((k : ℕ) → k < 5 → PairKept (word_at m y.status.at) v k) → Sound y m (store y.status.at v)
  lock-sound v l h =
      record {
        goes = go-low y m g y.status.at (omega arith) (omega arith);
        ok = ok-if y y.status.at v (λ q. l) (λ q. absurd (omega arith)) (λ q. absurd (omega arith)) (λ q. absurd (omega arith));
        keeps =
            record {
              header = λ l. absurd (omega arith);
              tid = λ l n. absurd (omega arith);
              locks = λ q k l. h k l;
              killed = λ q e. absurd (omega arith);
              blocks = λ l n t e. absurd (omega arith);
              words = λ l n e. absurd (omega arith);
            };
        kills = λ q. absurd (omega arith);
      }

  -- the killed word
  pub killed-sound : Sound y m (store (y.status.at + 1) 1)
  killed-sound =
      record {
        goes = go-low y m g (y.status.at + 1) (omega arith) (omega arith);
        ok = ok-if y (y.status.at + 1) 1 (λ q. absurd (omega arith)) (λ q. omega arith) (λ q. absurd (omega arith)) (λ q. absurd (omega arith));
        keeps =
            record {
              header = λ l. absurd (omega arith);
              tid = λ l n. absurd (omega arith);
              locks = λ q k l. absurd (omega arith);
              killed = λ q e. refl;
              blocks = λ l n t e. absurd (omega arith);
              words = λ l n e. absurd (omega arith);
            };
        kills = λ q. refl;
      }

  -- a word of PERMA with bits added, none of them of a block that doesn't exist
  pub perma-sound : (i b : ℕ) → i < y.perma.words → Content y m → ((t : ℕ) → t < 16 → blocks_in y ≤ 16 * i + (15 - t) → b / 2 ^ t % 2 ≡ 0)
      → Sound y m (store (y.perma.at + i) (bit_or (word_at m (y.perma.at + i)) b))
  perma-sound i b l c h =
      record {
        goes = go-high y m g (y.perma.at + i) (omega arith) (omega arith);
        ok = ok-if y (y.perma.at + i) _ (λ q. absurd (omega arith)) (λ q. absurd (omega arith)) (λ q. absurd (omega arith))
            (λ q. zero-low _ (spare_in y) (λ t s. spare t s (omega arith)));
        keeps =
            record {
              header = λ l. absurd (omega arith);
              tid = λ l n. absurd (omega arith);
              locks = λ q k l. absurd (omega arith);
              killed = λ q e. absurd (omega arith);
              blocks = λ l n t e. or-keeps (word_at m (y.perma.at + i)) b t e;
              words = λ l n e. absurd (omega arith);
            };
        kills = λ q. absurd (omega arith);
      }
    where
      spare : (t : ℕ) → t < spare_in y → i + 1 ≡ y.perma.words → bit_or (word_at m (y.perma.at + i)) b / 2 ^ t % 2 ≡ 0
      spare t s q =
          let w = y.perma.words in
          let z : w - 1 ≡ i = omega arith in
          let least : blocks_in y ≤ 16 * i + (15 - t) = subst (λ (x : ℕ). blocks_in y ≤ 16 * x + (15 - t)) z (spare-least (blocks_in y) w t size s) in
          or-zero (word_at m (y.perma.at + i)) b t
          (subst (λ (x : ℕ). word_at m (y.perma.at + x) / 2 ^ t % 2 ≡ 0) z
          (rw (spare-word (blocks_in y) w t size s, spare-bit (blocks_in y) w t size s) at
          (c.spare (16 * (w - 1) + (15 - t)) (spare-least (blocks_in y) w t size s) (spare-most (blocks_in y) w t size s))))
          (h t (omega (arith, s)) least)

  -- a word of a bank that may be written
  pub bank-sound : (q : Bool) (b i v : ℕ) → b < 4 → i < (bank_of y b).words → may_write y m q b i ≡ true → (b ≡ 1 → i ≡ 1 → length_of v + 2 ≤ y.epc.words)
      → Sound y m (store ((bank_of y b).at + i) v)
  bank-sound q zero i v s l e pc = reserved-sound (y.reserved.at + i) v (omega arith) (omega arith)
  bank-sound q (suc zero) i v s l e pc = epc-sound (y.epc.at + i) v (omega arith) (omega arith) (λ z. pc refl (omega arith))
  bank-sound q (suc (suc zero)) i v s l e pc = absurd (tid-closed (opens q (word_at m y.status.at) (pair_of 2 i)) (block_open y m i) e)
    where
      tid-closed : (a o : Bool) → a && false && true && true ≡ true → ⊥
      tid-closed true o e = false≢true e
      tid-closed false o e = false≢true e
  bank-sound q (suc (suc (suc zero))) i v s l e pc = user-sound i v l (and_right (opens q (word_at m y.status.at) (pair_of 3 i) && true && true) (block_open y m i) e)
  bank-sound q (suc (suc (suc (suc b)))) i v s l e pc = absurd (omega arith)
