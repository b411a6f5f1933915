-- A good image by the rules' own numbers. Assumes nothing.
use Prim.Native.Nat.{ℕ, ◌+◌}
use mathlib.Core.Path.{◌≡◌}
use mathlib.Core.Logic.{inl, inr, ⊎_elim}
use mathlib.Core.Bool.{true, ◌||◌, or-true}
use mathlib.Core.List.{List}
use native.Mathlib.Omega.{arith}
use lib.Dec.{leb, ltb}
use borrow.Author.Tests.{leb-true, ltb-true, le-leb, lt-ltb}
use Rattle.bits.proofs.Below.{and_left, and_right, and_both, or_cases}
use Rattle.image.specs.declared.Layout.{Layout}
use Rattle.image.specs.declared.Section.{Section}
use Rattle.image.specs.Content.{inside, may_go}
use Rattle.image.specs.Rules.{Header, Content}
use Rattle.image.proofs.Answers.{good-size}
use Rattle.demands.specs.Images.{In, Head, Goes, Body, Images}

in-so : (s : Section) (o : ℕ) → inside s o ≡ true → In s o
in-so s o e = (leb-true _ _ (and_left (leb s.at o) (ltb o (s.at + s.words)) e), ltb-true _ _ (and_right (leb s.at o) (ltb o (s.at + s.words)) e))

goes_so : (y : Layout) (o : ℕ) → may_go y o ≡ true → Goes y o
goes_so y o e =
    let a = inside y.status o in
    let b = inside y.reserved o in
    let c = inside y.epc o in
    let d = inside y.user o in
    let f = inside y.perma o in
    ⊎_elim
    (λ h. ⊎_elim
    (λ h. ⊎_elim (λ h. ⊎_elim (λ h. inl (in-so y.status o h)) (λ h. inr (inl (in-so y.reserved o h))) (or_cases a b h)) (λ h. inr (inr (inl (in-so y.epc o h)))) (or_cases (a || b) c h))
    (λ h. inr (inr (inr (inl (in-so y.user o h))))) (or_cases (a || b || c) d h)) (λ h. inr (inr (inr (inr (in-so y.perma o h))))) (or_cases (a || b || c || d) f e)

there : (s : Section) (o : ℕ) → In s o → inside s o ≡ true
there s o h = and_both (leb s.at o) (ltb o (s.at + s.words)) (le-leb _ _ h.0) (lt-ltb _ _ h.1)

goes-if : (y : Layout) (o : ℕ) → Goes y o → may_go y o ≡ true
goes-if y o (inl h) = simp (there y.status o h)
goes-if y o (inr (inl h)) = simp (there y.reserved o h, or-true)
goes-if y o (inr (inr (inl h))) = simp (there y.epc o h, or-true)
goes-if y o (inr (inr (inr (inl h)))) = simp (there y.user o h, or-true)
goes-if y o (inr (inr (inr (inr h)))) = simp (there y.perma o h, or-true)

head-if : (y : Layout) (m : List ℕ) → Header y m → Head y m
head-if y m h =
    record {
      sections = h.sections;
      block = (h.block_least, h.block_most);
      status = (h.status.at, omega (arith, h.status.least, h.status.most));
      reserved = (h.reserved.at, h.reserved.least, h.reserved.most);
      epc = (h.epc.at, h.epc.least, h.epc.most);
      tid = (h.tid.at, h.tid.least, h.tid.most);
      user = (h.user.at, h.user.least, h.user.most);
      blocks = h.blocks;
      perma = (h.perma.at, omega (arith, h.perma.least, h.perma.most), omega (arith, h.perma.least, h.perma.most));
      work = (h.work.at, omega (arith, h.work.least, h.work.most));
      pairs = (h.pairs_least, h.pairs_most);
      whole = h.whole;
    }

if-head : (y : Layout) (m : List ℕ) → Head y m → Header y m
if-head y m h =
    record {
      sections = h.sections;
      block_least = h.block.0;
      block_most = h.block.1;
      status = record { at = h.status.0; least = omega (arith, h.status.1); most = omega (arith, h.status.1) };
      reserved = record { at = h.reserved.0; least = h.reserved.1; most = h.reserved.2 };
      epc = record { at = h.epc.0; least = h.epc.1; most = h.epc.2 };
      tid = record { at = h.tid.0; least = h.tid.1; most = h.tid.2 };
      user = record { at = h.user.0; least = h.user.1; most = h.user.2 };
      blocks = h.blocks;
      perma = record { at = h.perma.0; least = omega (arith, h.perma.1, h.perma.2); most = omega (arith, h.perma.1, h.perma.2) };
      work = record { at = h.work.0; least = omega (arith, h.work.1); most = omega (arith, h.work.1) };
      pairs_least = h.pairs.0;
      pairs_most = h.pairs.1;
      whole = h.whole;
    }

body-if : (y : Layout) (m : List ℕ) → Content y m → Body y m
body-if y m c =
    record { lock = c.lock; killed = omega (arith, c.killed); pc = c.pc; spare = c.spare; count = c.count; places = λ j l. goes_so y _ (c.places j l) }

if-body : (y : Layout) (m : List ℕ) → Body y m → Content y m
if-body y m c =
    record { lock = c.lock; killed = omega (arith, c.killed); pc = c.pc; spare = c.spare; count = c.count; places = λ j l. goes-if y _ (c.places j l) }

pub images-so : Images
images-so =
    record {
      good_so = λ y m g. (g.layout, head-if y m g.header, λ k. body-if y _ (g.content k));
      so_good = λ y m l h b. record { layout = l; header = if-head y m h; content = λ k. if-body y _ (b k) };
      goes = λ y o. (goes_so y o, goes-if y o);
      most = λ y m g. good-size y m g;
    }
