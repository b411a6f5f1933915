-- What a good image is (RULES 1.2 to 1.15), once more with the rules' own numbers. Assumes nothing.
use Rattle.std.specs.Prelude.{ℕ, ◌+◌, ◌*◌, ◌≤◌, ◌<◌, ◌≡◌, ◌⊎◌, true, List, length, take}
use Rattle.bits.specs.Words.{word_at, after}
use Rattle.image.specs.declared.Layout.{Layout}
use Rattle.image.specs.declared.Section.{Section}
use Rattle.image.specs.Layout.{layout_of, blocks_in, pairs_in}
use Rattle.image.specs.Content.{lock_word, killed_word, length_of, pc_word, permalock, count_in, pending, may_go}
use Rattle.image.specs.Rules.{Good}

-- a word in a section; a section that stands behind s and has a to b words
abbrev pub In : Section → ℕ → Type 0
In s o = (s.at ≤ o) × (o < s.at + s.words)

abbrev pub Behind : Section → Section → ℕ → ℕ → Type 0
Behind t s a b = (t.at ≡ s.at + s.words) × (a ≤ t.words) × (t.words ≤ b)

-- the header
pub record Head (y : Layout) (m : List ℕ) : Type 0 where
  pub sections : word_at m 0 ≡ 7
  pub block : (1 ≤ y.block) × (y.block ≤ 4096)
  pub status : (y.status.at ≡ 16) × (y.status.words ≡ 2)
  pub reserved : Behind y.reserved y.status 4 64
  pub epc : Behind y.epc y.reserved 2 33
  pub tid : Behind y.tid y.epc 0 64
  pub user : Behind y.user y.tid 0 4096
  pub blocks : blocks_in y ≤ 256
  pub perma : (y.perma.at ≡ y.user.at + y.user.words) × (blocks_in y ≤ 16 * y.perma.words) × (16 * y.perma.words < blocks_in y + 16)
  pub work : (y.work.at ≡ y.perma.at + y.perma.words) × (y.work.words ≡ 1 + 2 * pairs_in y)
  pub pairs : (16 ≤ pairs_in y) × (pairs_in y ≤ 255)
  pub whole : length m ≡ 2 * (y.work.at + y.work.words)

-- where a pending value may go
abbrev pub Goes : Layout → ℕ → Type 0
Goes y o = In y.status o ⊎ In y.reserved o ⊎ In y.epc o ⊎ In y.user o ⊎ In y.perma o

-- the content: lock word, killed word, the PC's length, spare permalocks, the pending count and where its values go
pub record Body (y : Layout) (m : List ℕ) : Type 0 where
  pub lock : lock_word y m < 1024
  pub killed : killed_word y m < 2
  pub pc : length_of (pc_word y m) + 2 ≤ y.epc.words
  pub spare : (b : ℕ) → blocks_in y ≤ b → b < 16 * y.perma.words → permalock y m b ≡ 0
  pub count : count_in y m ≤ pairs_in y
  pub places : (j : ℕ) → j < count_in y m → Goes y (word_at m (y.work.at + 1 + 2 * j))

-- an image is good just where its header is, and its content as it stands and after each of the pending values
pub record Images : Type 0 where
  pub good_so : (y : Layout) (m : List ℕ) → Good y m
      → (y ≡ layout_of m) × Head y m × ((k : ℕ) → Body y (after m (take k (pending y m))))
  pub so_good : (y : Layout) (m : List ℕ) → y ≡ layout_of m → Head y m → ((k : ℕ) → Body y (after m (take k (pending y m)))) → Good y m
  pub goes : (y : Layout) (o : ℕ) → (may_go y o ≡ true → Goes y o) × (Goes y o → may_go y o ≡ true)
  pub most : (y : Layout) (m : List ℕ) → Good y m → length m ≤ 9604
