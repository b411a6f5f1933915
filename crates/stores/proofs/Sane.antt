-- Images with one header: good ones, word by word, and what their pending words come to. Assumes nothing.
use Prim.Native.Nat.{ℕ, ◌+◌, ◌*◌, ◌≤◌, ◌<◌}
use mathlib.Core.Path.{◌≡◌, refl, sym, ap, ap₂, ◌∙◌, subst}
use mathlib.Core.Logic.{◌≢◌}
use mathlib.Core.Bool.{true}
use mathlib.Core.List.{List, [], ◌∷◌}
use native.Mathlib.Omega.{arith}
use lib.ListN.{length, take}
use Rattle.bits.specs.Words.{word_at, Store, store, after, All}
use Rattle.bits.specs.Below.{below}
use Rattle.bits.proofs.Below.{below-same}
use Rattle.bits.proofs.Bits.{words_same}
use Rattle.bits.proofs.Stores.{Under, Fine, Fits, all_take, all-imp, all-below, below_all, after-fine, fine-fits}
use Rattle.crc.specs.Crc.{crc_of}
use Rattle.image.specs.declared.Layout.{Layout}
use Rattle.image.specs.Layout.{layout_of, pairs_in}
use Rattle.image.specs.Content.{count_in, pair_at, pending, may_go, pc_word, length_of}
use Rattle.image.specs.Rules.{Header, Content, Good}
use Rattle.image.proofs.Fits.{Ok, at-pc, content-fine, fine-content, go-below, same_count, same-pair}
use Rattle.stores.specs.Stores.{epc_crc}

-- v may stand at word i of an image with the header of h
abbrev pub Stays : Layout → List ℕ → ℕ → ℕ → Type 0
Stays y h i v = (i < 16 → v ≡ word_at h i) × Ok y i v

abbrev pub Goes : Layout → List Store → Type 0
Goes y ss = All (λ s. may_go y s.at ≡ true) ss

-- a good image with the header and the length of h
pub record Sane (y : Layout) (h n : List ℕ) : Type 0 where
  pub size : length n ≡ length h
  pub words : Fine y.work.at (Stays y h) n
  pub count : count_in y n ≤ pairs_in y
  pub goes : Goes y (pending y n)
  pub fits : Fits (Stays y h) (pending y n)

-- equal outside WORK, EPC word 0 left out
abbrev pub Alike : Layout → List ℕ → List ℕ → Type 0
Alike y m n = (i : ℕ) → i < y.work.at → i ≢ y.epc.at → word_at m i ≡ word_at n i

-- the image with its pending words stored
abbrev pub settled : Layout → List ℕ → List ℕ
settled y m = after m (pending y m)

pub none-pending : (y : Layout) (m : List ℕ) → count_in y m ≡ 0 → pending y m ≡ []
none-pending y m z = ap (below (pair_at y m)) z

pub pending-same : (y : Layout) (m n : List ℕ) → ((i : ℕ) → y.work.at ≤ i → word_at n i ≡ word_at m i) → pending y n ≡ pending y m
pending-same y m n e =
    ap (below (pair_at y n)) (e y.work.at (omega arith))
    ∙ below-same (pair_at y n) (pair_at y m) (count_in y m)
    (λ j l. ap₂ store (e (y.work.at + 1 + 2 * j) (omega arith)) (e (y.work.at + 1 + 2 * j + 1) (omega arith)))

module _ (y : Layout) (h : List ℕ) (g : Header y h) where
  pub goes-under : (ss : List Store) → Goes y ss → Under y.work.at ss
  goes-under ss a = all-imp (λ s. may_go y s.at ≡ true) (λ s. s.at < y.work.at) (λ s e. (go-below y h g s.at e).1) ss a

  goes-fits : (ss : List Store) → Goes y ss → Fits (Ok y) ss → Fits (Stays y h) ss
  goes-fits [] a f = tt
  goes-fits (s ∷ ss) a f = ((λ l. absurd (late l), f.0), goes-fits ss a.1 f.1)
    where
      late : s.at < 16 → ⊥
      late l = omega (arith, go-below y h g s.at a.0)

  stays-fine : (m : List ℕ) → Fine y.work.at (Stays y h) m → Fine y.work.at (Ok y) m
  stays-fine m f i l = (f i l).1

  -- words stored in order after each of which the rules hold may stand where they go
  pub rules-fit : (m : List ℕ) (ss : List Store) → length m ≡ length h → Goes y ss → ((k : ℕ) → Content y (after m (take k ss))) → Fits (Stays y h) ss
  rules-fit m ss q a c =
      goes-fits ss a (fine-fits (Ok y) y.work.at m ss (omega (arith, g.whole)) (goes-under ss a) (λ k. content-fine y h g _ (c k)))

  -- the CRC-16 depends on the words outside WORK, EPC word 0 left out
  pub crc-same : (m n : List ℕ) → Fine y.work.at (Stays y h) m → Alike y m n → epc_crc y m ≡ epc_crc y n
  crc-same m n f a =
      let e : pc_word y m ≡ pc_word y n = a (y.epc.at + 1) (omega arith) (omega arith) in
      let l : length_of (pc_word y m) + 2 ≤ y.epc.words = at-pc y h g _ (f (y.epc.at + 1) (omega arith)).1 in
      rw (← e) (ap crc_of (words_same m n (y.epc.at + 1) (length_of (pc_word y m) + 1) (λ i p q. a i (omega arith) (omega arith))))

-- a good image is sane, and with its header every sane one is good
pub good-sane : (y : Layout) (m : List ℕ) → Good y m → Sane y m m
good-sane y m g =
    let goes : Goes y (pending y m) = all-below (λ s. may_go y s.at ≡ true) (pair_at y m) (count_in y m) (g.content 0).places in
    record {
      size = refl;
      words = λ i l. (λ s. refl, content-fine y m g.header m (g.content 0) i l);
      count = (g.content 0).count;
      goes = goes;
      fits = rules-fit y m g.header m (pending y m) refl goes g.content;
    }

pub sane-header : (y : Layout) (h n : List ℕ) → Header y h → Sane y h n → Header y n
sane-header y h n g s =
    record {
      sections = (s.words 0 (omega (arith, g.status.at, g.reserved.at, g.epc.at, g.tid.at, g.user.at, g.perma.at, g.work.at))).0 (omega arith) ∙ g.sections;
      block_least = g.block_least;
      block_most = g.block_most;
      status = g.status;
      reserved = g.reserved;
      epc = g.epc;
      tid = g.tid;
      user = g.user;
      blocks = g.blocks;
      perma = g.perma;
      work = g.work;
      pairs_least = g.pairs_least;
      pairs_most = g.pairs_most;
      whole = s.size ∙ g.whole;
    }

same_layout : (h n : List ℕ) → ((i : ℕ) → i < 16 → word_at n i ≡ word_at h i) → layout_of n ≡ layout_of h
unfolding layout_of
same_layout h n e =
    rw (e 1 (omega arith), e 2 (omega arith), e 3 (omega arith), e 4 (omega arith), e 5 (omega arith), e 6 (omega arith), e 7 (omega arith), e 8 (omega arith), e 9 (omega arith), e 10 (omega arith), e 11 (omega arith), e 12 (omega arith), e 13 (omega arith), e 14 (omega arith), e 15 (omega arith))

pub sane-good : (y : Layout) (h n : List ℕ) → Good y h → Sane y h n → Good y n
sane-good y h n g s =
    let hd = g.header in
    let hn = sane-header y h n hd s in
    let under = goes-under y h hd (pending y n) s.goes in
    let fits : Fits (Ok y) (pending y n) = all-imp (λ x. Stays y h x.at x.value) (λ x. Ok y x.at x.value) (λ x f. f.1) (pending y n) s.fits in
    record {
      layout = g.layout ∙ sym (same_layout h n (λ i l. (s.words i (omega arith)).0 l));
      header = hn;
      content = λ k.
          let ss = take k (pending y n) in
          let u : Under y.work.at ss = all_take (λ x. x.at < y.work.at) k (pending y n) under in
          fine-content y h hd (after n ss)
          (after-fine (Ok y) y.work.at n ss (omega (arith, s.size, hd.whole)) (all_take (λ x. Ok y x.at x.value) k (pending y n) fits) (stays-fine y h hd n s.words))
          (rw (same_count y n hn ss u) s.count)
          (λ j l. subst (λ (p : Store). may_go y p.at ≡ true) (sym (same-pair y n hn ss u j))
          (below_all (λ x. may_go y x.at ≡ true) (pair_at y n) (count_in y n) s.goes j (rw (same_count y n hn ss u) at l)));
    }

-- an image that the power-up of m may leave: sane, and with the same words once its own pending words are stored
abbrev pub Follows : Layout → List ℕ → List ℕ → List ℕ → Type 0
Follows y h m n = Sane y h n × Alike y (settled y n) (settled y m)

pub follows-trans : (y : Layout) (h m n p : List ℕ) → Follows y h m n → Follows y h n p → Follows y h m p
follows-trans y h m n p f r = (r.0, λ i l d. r.1 i l d ∙ f.1 i l d)

-- where nothing is pending
pub cleared : (y : Layout) (h m n : List ℕ) → length n ≡ length h → count_in y n ≡ 0 → Fine y.work.at (Stays y h) n → Alike y n (settled y m) → Follows y h m n
cleared y h m n size z f a =
    let none = none-pending y n z in (
      record { size = size; words = f; count = omega (arith, z); goes = rw none tt; fits = rw none tt },
      subst (λ (ss : List Store). Alike y (after n ss) (settled y m)) (sym none) a,
    )
