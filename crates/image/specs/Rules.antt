-- The rules of RULES 1 as facts, for whoever builds on a good image. Equal to the tests by `header-both` and `content-both`. Assumes
-- nothing.
use Rattle.std.specs.Prelude.{ℕ, ◌+◌, ◌*◌, ◌^◌, ◌≤◌, ◌<◌, ◌≡◌, true, List, length, take}
use Rattle.bits.specs.Words.{word_at, after}
use Rattle.image.specs.declared.Section.{Section}
use Rattle.image.specs.declared.Layout.{Layout}
use Rattle.image.specs.Layout.{layout_of, end, up, blocks_in, pairs_in}
use Rattle.image.specs.Content.{lock_word, killed_word, pc_word, length_of, permalock, count_in, pair_at, pending, may_go}

-- 1.3 and 1.4: a section stands at o and has a to b words
pub record Stands (s : Section) (o a b : ℕ) : Type 0 where
  pub at : s.at ≡ o
  pub least : a ≤ s.words
  pub most : s.words ≤ b

-- 1.2 to 1.8
pub record Header (y : Layout) (m : List ℕ) : Type 0 where
  pub sections : word_at m 0 ≡ 7
  pub block_least : 1 ≤ y.block
  pub block_most : y.block ≤ 4096
  pub status : Stands y.status 16 2 2
  pub reserved : Stands y.reserved (end y.status) 4 64
  pub epc : Stands y.epc (end y.reserved) 2 33
  pub tid : Stands y.tid (end y.epc) 0 64
  pub user : Stands y.user (end y.tid) 0 4096
  pub blocks : blocks_in y ≤ 256
  pub perma : Stands y.perma (end y.user) (up (blocks_in y) 16) (up (blocks_in y) 16)
  pub work : Stands y.work (end y.perma) (1 + 2 * pairs_in y) (1 + 2 * pairs_in y)
  pub pairs_least : 16 ≤ pairs_in y
  pub pairs_most : pairs_in y ≤ 255
  pub whole : length m ≡ 2 * end y.work

-- 1.9 to 1.14
pub record Content (y : Layout) (m : List ℕ) : Type 0 where
  pub lock : lock_word y m < 2 ^ 10
  pub killed : killed_word y m ≤ 1
  pub pc : length_of (pc_word y m) + 2 ≤ y.epc.words
  pub spare : (i : ℕ) → blocks_in y ≤ i → i < 16 * y.perma.words → permalock y m i ≡ 0
  pub count : count_in y m ≤ pairs_in y
  pub places : (j : ℕ) → j < count_in y m → may_go y (pair_at y m j).at ≡ true

-- 1.2 to 1.15: m is a good image of the layout y; the content rules hold after none of the pending values, and again after each of them
pub record Good (y : Layout) (m : List ℕ) : Type 0 where
  pub layout : y ≡ layout_of m
  pub header : Header y m
  pub content : (k : ℕ) → Content y (after m (take k (pending y m)))
