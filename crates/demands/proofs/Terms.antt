-- The terms of the demands come to what the rules say. Assumes nothing.
use Prim.Native.Nat.{ℕ, zero, suc, ◌+◌, ◌-◌, ◌*◌, ◌/◌, ◌≤◌, ◌<◌}
use mathlib.Core.Path.{◌≡◌, refl, ap, ap₂}
use mathlib.Core.Logic.{◌≢◌}
use mathlib.Core.Bool.{Bool, true, false, cond}
use mathlib.Core.List.{List, [], ◌∷◌, ◌++◌}
use native.Mathlib.Omega.{arith}
use native.Mathlib.Nat.{le-div_iff_mul-le}
use lib.ListN.{get_or}
use Rattle.bits.specs.Words.{word_at, with_word, Store, store, after}
use Rattle.bits.specs.Bits.{bits_of, words_bits}
use Rattle.bits.specs.Below.{below}
use Rattle.crc.specs.Crc.{run, shift, crc_of}
use Rattle.crc.specs.Crc5.{run5, shift5, crc5_of}
use Rattle.image.specs.declared.Layout.{Layout}
use Rattle.image.specs.Layout.{layout_of, blocks_in}
use Rattle.image.specs.Content.{pair_at, pending}
use Rattle.replies.specs.Replies.{checked}
use Rattle.replies.specs.Pack.{filled, packed}
use Rattle.replies.proofs.Laws.{packed_none}
use Rattle.states.specs.declared.Flags.{Flags}
use Rattle.states.specs.Inventory.{flag_at, with_flag}
use Rattle.stores.specs.Stores.{finished, epc_crc, power_stores}
use Rattle.tag.specs.Port.{number_in}
use Rattle.demands.specs.Terms.{divided, divided5, Acting, Headed, Words, Bits, Terms}
use Rattle.demands.proofs.Rights.{lock-masked}
use Rattle.demands.proofs.Fields.{fields-so}
use Rattle.demands.proofs.Images.{images-so}
use Rattle.bits.proofs.Fields.{field_lt, field-bit}

power-list : (y : Layout) (m : List ℕ) (ss : List Store) → pending y m ≡ ss
    → power_stores y m ≡ finished y.work.at ss ++ (store y.epc.at (epc_crc y (after m (finished y.work.at ss))) ∷ [])
unfolding power_stores
power-list y m ss e = ap (λ (xs : List Store). finished y.work.at xs ++ (store y.epc.at (epc_crc y (after m (finished y.work.at xs))) ∷ [])) e

words-so : (y : Layout) (m : List ℕ) → Words y m
words-so y m =
    record {
      lock = refl;
      killed = refl;
      kill = λ i. refl;
      access = λ i. refl;
      pc = refl;
      perma = λ b. refl;
      count = refl;
      pairs = refl;
      settled = λ e. power-list y m [] (ap (below (pair_at y m)) e);
      pends = λ s ss e. power-list y m (s ∷ ss) e;
    }

bits-so : (m : List ℕ) → Bits m
unfolding checked filled packed
bits-so m =
    record {
      silence = refl;
      number = λ n. refl;
      success = λ h. refl;
      words = λ i k h. refl;
      error = λ e h. refl;
      drawn = λ n. refl;
      epc = λ i k. refl;
      none = packed_none;
      byte = λ b c d e f g h i x bs room. ap (λ (v : ℕ). v ∷ packed bs room) (omega arith);
      last = λ b x room. ap₂ ◌∷◌ (omega arith) (packed_none room);
    }

blocks-so : (y : Layout) (b : ℕ) → 1 ≤ y.block → (b < blocks_in y → b * y.block < y.user.words) × (b * y.block < y.user.words → b < blocks_in y)
unfolding blocks_in
blocks-so y b least =
    let k = y.block in
    let x = y.user.words + (k - 1) in
    let both = le-div_iff_mul-le {k = k} {x = b + 1} {y = x} (omega (arith, least)) in (
      λ l. let q : (b + 1) * k ≤ x = both.0 (omega (arith, l)) in omega (arith, q, least),
      λ l. let q : (b + 1) * k ≤ x = omega (arith, l, least) in let r : b + 1 ≤ x / k = both.1 q in omega (arith, r),
    )

register-so : (u k : Bool) → number_in (record { unwritten = u; killed = k }) ≡ cond u 2 0 + cond k 1 0
register-so true true = refl
register-so true false = refl
register-so false true = refl
register-so false false = refl

word-so : (m : List ℕ) (i : ℕ) → word_at m i ≡ 256 * get_or m (2 * i) 0 + get_or m (2 * i + 1) 0
unfolding word_at
word-so m i = omega arith

header-so : (m : List ℕ) → Headed m (layout_of m)
unfolding layout_of
header-so m = record { block = refl; status = refl; reserved = refl; epc = refl; tid = refl; user = refl; perma = refl; work = refl }

runs : (r : ℕ) (bs : List ℕ) → run r bs ≡ divided r bs
runs r [] = refl
runs r (b ∷ bs) = runs (shift r b) bs

crc-so : (bs : List ℕ) → crc_of bs ≡ 0xFFFF - divided 0xFFFF bs
unfolding crc_of
crc-so bs = ap (λ (r : ℕ). 0xFFFF - r) (runs 0xFFFF bs)

runs5 : (r : ℕ) (bs : List ℕ) → run5 r bs ≡ divided5 r bs
runs5 r [] = refl
runs5 r (b ∷ bs) = runs5 (shift5 r b) bs

crc5-so : (bs : List ℕ) → crc5_of bs ≡ divided5 0x09 bs
unfolding crc5_of
crc5-so bs = runs5 0x09 bs

-- the five flags, one by one

set_so : (f : Flags) (t : ℕ) (b : Bool) → t ≤ 4 → flag_at (with_flag f t b) t ≡ b
set_so f zero b l = refl
set_so f (suc zero) b l = refl
set_so f (suc (suc zero)) b l = refl
set_so f (suc (suc (suc zero))) b l = refl
set_so f (suc (suc (suc (suc zero)))) b l = refl
set_so f (suc (suc (suc (suc (suc t))))) b l = absurd (omega arith)

kept-so : (f : Flags) (t k : ℕ) (b : Bool) → t ≤ 4 → k ≤ 4 → k ≢ t → flag_at (with_flag f t b) k ≡ flag_at f k
kept-so f zero zero b l m d = absurd (d refl)
kept-so f zero (suc zero) b l m d = refl
kept-so f zero (suc (suc zero)) b l m d = refl
kept-so f zero (suc (suc (suc zero))) b l m d = refl
kept-so f zero (suc (suc (suc (suc zero)))) b l m d = refl
kept-so f (suc zero) zero b l m d = refl
kept-so f (suc zero) (suc zero) b l m d = absurd (d refl)
kept-so f (suc zero) (suc (suc zero)) b l m d = refl
kept-so f (suc zero) (suc (suc (suc zero))) b l m d = refl
kept-so f (suc zero) (suc (suc (suc (suc zero)))) b l m d = refl
kept-so f (suc (suc zero)) zero b l m d = refl
kept-so f (suc (suc zero)) (suc zero) b l m d = refl
kept-so f (suc (suc zero)) (suc (suc zero)) b l m d = absurd (d refl)
kept-so f (suc (suc zero)) (suc (suc (suc zero))) b l m d = refl
kept-so f (suc (suc zero)) (suc (suc (suc (suc zero)))) b l m d = refl
kept-so f (suc (suc (suc zero))) zero b l m d = refl
kept-so f (suc (suc (suc zero))) (suc zero) b l m d = refl
kept-so f (suc (suc (suc zero))) (suc (suc zero)) b l m d = refl
kept-so f (suc (suc (suc zero))) (suc (suc (suc zero))) b l m d = absurd (d refl)
kept-so f (suc (suc (suc zero))) (suc (suc (suc (suc zero)))) b l m d = refl
kept-so f (suc (suc (suc (suc zero)))) zero b l m d = refl
kept-so f (suc (suc (suc (suc zero)))) (suc zero) b l m d = refl
kept-so f (suc (suc (suc (suc zero)))) (suc (suc zero)) b l m d = refl
kept-so f (suc (suc (suc (suc zero)))) (suc (suc (suc zero))) b l m d = refl
kept-so f (suc (suc (suc (suc zero)))) (suc (suc (suc (suc zero)))) b l m d = absurd (d refl)
kept-so f (suc (suc (suc (suc (suc t))))) k b l m d = absurd (omega arith)
kept-so f zero (suc (suc (suc (suc (suc k))))) b l m d = absurd (omega arith)
kept-so f (suc zero) (suc (suc (suc (suc (suc k))))) b l m d = absurd (omega arith)
kept-so f (suc (suc zero)) (suc (suc (suc (suc (suc k))))) b l m d = absurd (omega arith)
kept-so f (suc (suc (suc zero))) (suc (suc (suc (suc (suc k))))) b l m d = absurd (omega arith)
kept-so f (suc (suc (suc (suc zero)))) (suc (suc (suc (suc (suc k))))) b l m d = absurd (omega arith)

acting-so : (t : ℕ) (b : Bool) → Acting t b
acting-so t b =
    record {
      action0 = (refl, refl);
      action1 = (refl, refl);
      action2 = (refl, refl);
      action3 = (refl, refl);
      action4 = (refl, refl);
      action5 = (refl, refl);
      action6 = (refl, refl);
      action7 = (refl, refl);
    }

pub terms-so : Terms
unfolding bits_of words_bits with_word
terms-so =
    record {
      word = word-so;
      stored = λ m i v ss. refl;
      stored_all = λ m. refl;
      bit = λ m i. refl;
      field = λ m i n t l. field-bit m i n t l;
      small = field_lt;
      number = λ n v. refl;
      number_all = λ v. refl;
      row = λ m i k. refl;
      row_none = λ m i. refl;
      counted = λ f n. refl;
      counted_none = λ f. refl;
      each = λ t n. refl;
      each_none = λ t. refl;
      run = λ m i n. refl;
      run_none = λ m i. refl;
      bytes = λ m h. h;
      torn = λ j n m. refl;
      crc = crc-so;
      crc5 = crc5-so;
      flags = λ f. record { read = (refl, refl, refl, refl, refl); set = set_so f; kept = kept-so f };
      actions = acting-so;
      header = header-so;
      images = images-so;
      words = words-so;
      bits = bits-so;
      fields = fields-so;
      banks = λ y. (refl, refl, refl, refl);
      blocks = blocks-so;
      work = λ y w e. omega (arith, e);
      pc_length = λ pc. refl;
      pairs = λ lock k. (refl, refl);
      locked = lock-masked;
      faults = (refl, refl, refl);
      unchanged = λ w. refl;
      change = λ w s ss. refl;
      stage = λ a s ss. refl;
      staged_all = λ a. refl;
      register = λ r. register-so r.unwritten r.killed;
      cleared = refl;
      off = refl;
      under = λ f st held r. refl;
      first_flags = refl;
      fell = λ q n k. (refl, refl, refl, refl, refl);
      spanned = λ b p c. refl;
      plain = λ q h. refl;
      outcome = λ o m room. refl;
      leaving = λ n s m room. refl;
      giving = λ n s k j m room. refl;
    }
