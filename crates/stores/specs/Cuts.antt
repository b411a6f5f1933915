-- What a cut leaves (RULES D3), stated over the stores of a change and of power-up: a byte is stored whole or not at all, a word may be
-- torn. Assumes nothing.
use Rattle.std.specs.Prelude.{ℕ, suc, ◌+◌, ◌*◌, ◌≤◌, ◌<◌, ◌≡◌, true, cond, List, [], ◌∷◌, eqb, length, get_or, set, take}
use Rattle.bits.specs.Words.{Bytes, word_at, Store, after, All}
use Rattle.image.specs.declared.Layout.{Layout}
use Rattle.image.specs.Layout.{layout_of, pairs_in}
use Rattle.image.specs.Content.{count_in, may_go}
use Rattle.image.specs.Rules.{Content, Good}
use Rattle.stores.specs.Stores.{change_stores, power_stores, power_up}

-- the words ss, stored in order, are a change that a command may make of the image m
pub record Change (y : Layout) (m : List ℕ) (ss : List Store) : Type 0 where
  pub some : 0 < length ss
  pub few : length ss ≤ pairs_in y
  pub places : All (λ s. may_go y s.at ≡ true) ss
  pub rules : (k : ℕ) → Content y (after m (take k ss))

-- where the power fails: so many stores are whole, and of the next one byte is made, if it is one of that store's word; else nothing of
-- it is
pub record Cut : Type 0 where
  pub whole : ℕ
  pub byte : ℕ

-- the image m, but byte j as n has it
abbrev pub with_byte : ℕ → List ℕ → List ℕ → List ℕ
with_byte j n m = set m j (get_or n j 0)

-- the image m after the stores ss, cut so
abbrev pub cut_after : Cut → List ℕ → List Store → List ℕ
cut_after c m ss = with_byte c.byte (after m (take (suc c.whole) ss)) (after m (take c.whole ss))

-- after a power-up that is cut so; after several; and after a change that is cut so and then those
abbrev pub cut_power_up : Cut → List ℕ → List ℕ
cut_power_up c m = cut_after c m (power_stores (layout_of m) m)

abbrev pub cut_power_ups : List Cut → List ℕ → List ℕ
cut_power_ups [] m = m
cut_power_ups (c ∷ cs) m = cut_power_ups cs (cut_power_up c m)

abbrev pub cut_image : Layout → List ℕ → List Store → Cut → List Cut → List ℕ
cut_image y m ss c cs = cut_power_ups cs (cut_after c m (change_stores y.work.at ss))

-- the stores that count as made: the whole ones, and one more where the byte is the low one of the pending count (whatever the next store
-- is: only the count's own, number 2n + 1, takes it past 2n)
abbrev pub reaches : Layout → Cut → ℕ
reaches y c = c.whole + cond (eqb c.byte (2 * y.work.at + 1)) 1 0

-- from a good image with nothing pending: at most 2n stores made, and the first whole power-up leaves every word outside WORK as if the
-- change had never come; more, and as if it had finished. Every image on the way is good.
pub record CutLaws (y : Layout) (m : List ℕ) (ss : List Store) : Type 0 where
  pub old : (c : Cut) (cs : List Cut) → reaches y c ≤ 2 * length ss
      → (i : ℕ) → i < y.work.at → word_at (power_up (cut_image y m ss c cs)) i ≡ word_at (power_up m) i
  pub new : (c : Cut) (cs : List Cut) → 2 * length ss < reaches y c
      → (i : ℕ) → i < y.work.at → word_at (power_up (cut_image y m ss c cs)) i ≡ word_at (power_up (after m ss)) i
  pub good : (c : Cut) (cs : List Cut) → Good y (cut_image y m ss c cs)
  pub stored : Good y (after m ss)

abbrev pub Cuts : Type 0
Cuts = (y : Layout) (m : List ℕ) (ss : List Store) → Bytes m → Good y m → count_in y m ≡ 0 → Change y m ss → CutLaws y m ss
