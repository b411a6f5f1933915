-- A register's run is linear, whatever its width and generator. Assumes nothing.
use Prim.Native.Nat.{ℕ, zero, suc, ◌+◌, ◌*◌, ◌/◌, ◌%◌, ◌^◌, ◌<◌}
use mathlib.Core.Path.{◌≡◌, refl, sym, ap, ap₂, ◌∙◌}
use mathlib.Core.List.{List, [], ◌∷◌, ◌++◌}
use native.Mathlib.Nat.{mod-lt}
use native.Mathlib.Omega.{arith}
use lib.Pow.{pow_pos, shr_lt}
use lib.Bits.{bit_xor, xor_shr, xor_mod, xor_lt, xor_self, xor_zero_r}
use Rattle.bits.proofs.Digits.{Bits}
use Rattle.crc.specs.Crc.{run}
use Rattle.crc.specs.Crc5.{run5}
use Rattle.crc.proofs.Xor.{xor-medial, xor-shl}

-- one shift of a register of k + 1 bits with the generator g
abbrev pub shift_on : ℕ → ℕ → ℕ → ℕ → ℕ
shift_on k g r b = bit_xor (r * 2 % 2 ^ suc k) (bit_xor (r / 2 ^ k) b * g)

-- a register of k + 1 bits that runs over a list of bits by such shifts
pub record Register (k : ℕ) (run : ℕ → List ℕ → ℕ) : Type 0 where
  pub generator : ℕ
  pub fits : generator < 2 ^ suc k
  pub none : (r : ℕ) → run r [] ≡ r
  pub more : (r b : ℕ) (bs : List ℕ) → run r (b ∷ bs) ≡ run (shift_on k generator r b) bs

pub of16 : Register 15 run
of16 = record { generator = 0x1021; fits = omega arith; none = λ r. refl; more = λ r b bs. refl }

pub of5 : Register 4 run5
of5 = record { generator = 0x09; fits = omega arith; none = λ r. refl; more = λ r b bs. refl }

module _ (k g : ℕ) (fits : g < 2 ^ suc k) where
  tap : (p q : ℕ) → p < 2 → q < 2 → bit_xor p q * g ≡ bit_xor (p * g) (q * g)
  tap zero q hp hq = let z : 0 * g ≡ 0 = omega arith in rw z
  tap (suc zero) zero hp hq = let z : 0 * g ≡ 0 = omega arith in rw z (sym (xor_zero_r (1 * g)))
  tap (suc zero) (suc zero) hp hq = let z : 0 * g ≡ 0 = omega arith in z ∙ sym (xor_self (1 * g))
  tap (suc zero) (suc (suc q)) hp hq = absurd (omega arith)
  tap (suc (suc p)) q hp hq = absurd (omega arith)

  tap-lt : (p : ℕ) → p < 2 → p * g < 2 ^ suc k
  tap-lt zero hp = let z : 0 * g ≡ 0 = omega arith in rw z (pow_pos (suc k))
  tap-lt (suc zero) hp = let z : 1 * g ≡ g = omega arith in rw z fits
  tap-lt (suc (suc p)) hp = absurd (omega arith)

  -- the bit that leaves
  out : (r b : ℕ) → r < 2 ^ suc k → b < 2 → bit_xor (r / 2 ^ k) b < 2
  out r b hr hb = let e : 1 + k ≡ suc k = omega arith in xor_lt 1 (r / 2 ^ k) b (shr_lt 1 k (rw e hr)) hb

  double : (r s : ℕ) → bit_xor r s * 2 % 2 ^ suc k ≡ bit_xor (r * 2 % 2 ^ suc k) (s * 2 % 2 ^ suc k)
  double r s = ap (λ (x : ℕ). x % 2 ^ suc k) (sym (xor-shl 1 r s)) ∙ xor_mod (r * 2) (s * 2) (suc k)

  shift-linear : (r s b c : ℕ) → r < 2 ^ suc k → s < 2 ^ suc k → b < 2 → c < 2 → shift_on k g (bit_xor r s) (bit_xor b c) ≡ bit_xor (shift_on k g r b) (shift_on k g s c)
  shift-linear r s b c hr hs hb hc =
      ap₂ bit_xor (double r s)
      (ap (λ (x : ℕ). bit_xor x (bit_xor b c) * g) (xor_shr r s k)
      ∙ ap (λ (x : ℕ). x * g) (xor-medial (r / 2 ^ k) (s / 2 ^ k) b c)
      ∙ tap _ _ (out r b hr hb) (out s c hs hc))
      ∙ xor-medial (r * 2 % 2 ^ suc k) (s * 2 % 2 ^ suc k) (bit_xor (r / 2 ^ k) b * g) (bit_xor (s / 2 ^ k) c * g)

  shift-lt : (r b : ℕ) → r < 2 ^ suc k → b < 2 → shift_on k g r b < 2 ^ suc k
  shift-lt r b hr hb =
      xor_lt (suc k) (r * 2 % 2 ^ suc k) (bit_xor (r / 2 ^ k) b * g) (mod-lt (r * 2) (pow_pos (suc k))) (tap-lt (bit_xor (r / 2 ^ k) b) (out r b hr hb))

abbrev pub zip : List ℕ → List ℕ → List ℕ
zip [] cs = []
zip (b ∷ bs) [] = []
zip (b ∷ bs) (c ∷ cs) = bit_xor b c ∷ zip bs cs

-- two runs of one length, added
abbrev pub Same : List ℕ → List ℕ → Type 0
Same [] [] = Unit {0}
Same [] (c ∷ cs) = ⊥
Same (b ∷ bs) [] = ⊥
Same (b ∷ bs) (c ∷ cs) = Same bs cs

pub run-linear : {k : ℕ} {run : ℕ → List ℕ → ℕ} → Register k run → (bs cs : List ℕ) (r s : ℕ) → r < 2 ^ suc k → s < 2 ^ suc k → Bits bs → Bits cs → Same bs cs
    → run (bit_xor r s) (zip bs cs) ≡ bit_xor (run r bs) (run s cs)
run-linear R [] [] r s hr hs hb hc h = R.none (bit_xor r s) ∙ sym (ap₂ bit_xor (R.none r) (R.none s))
run-linear R [] (c ∷ cs) r s hr hs hb hc h = absurd h
run-linear R (b ∷ bs) [] r s hr hs hb hc h = absurd h
run-linear {k} {run} R (b ∷ bs) (c ∷ cs) r s hr hs hb hc h =
    let g = R.generator in
    R.more (bit_xor r s) (bit_xor b c) (zip bs cs)
    ∙ ap (λ (x : ℕ). run x (zip bs cs)) (shift-linear k g R.fits r s b c hr hs hb.0 hc.0)
    ∙ run-linear R bs cs (shift_on k g r b) (shift_on k g s c) (shift-lt k g R.fits r b hr hb.0) (shift-lt k g R.fits s c hs hc.0) hb.1 hc.1 h
    ∙ sym (ap₂ bit_xor (R.more r b bs) (R.more s c cs))

-- a run in two parts, and that it stays in the register
pub run_on : {k : ℕ} {run : ℕ → List ℕ → ℕ} → Register k run → (r : ℕ) (xs ys : List ℕ) → run r (xs ++ ys) ≡ run (run r xs) ys
run_on {run = run} R r [] ys = ap (λ (x : ℕ). run x ys) (sym (R.none r))
run_on {k} {run} R r (x ∷ xs) ys =
    R.more r x (xs ++ ys) ∙ run_on R (shift_on k R.generator r x) xs ys ∙ ap (λ (s : ℕ). run s ys) (sym (R.more r x xs))

pub run-lt : {k : ℕ} {run : ℕ → List ℕ → ℕ} → Register k run → (bs : List ℕ) (r : ℕ) → r < 2 ^ suc k → Bits bs → run r bs < 2 ^ suc k
run-lt R [] r hr hb = rw (R.none r) hr
run-lt {k} R (b ∷ bs) r hr hb =
    rw (R.more r b bs) (run-lt R bs (shift_on k R.generator r b) (shift-lt k R.generator R.fits r b hr hb.0) hb.1)
