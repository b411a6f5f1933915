-- The tests of a good image say what the rules say, both ways. Assumes nothing.
use Prim.Native.Nat.{ℕ, zero, suc, ◌+◌, ◌-◌, ◌*◌, ◌%◌, ◌≤◌, ◌<◌}
use mathlib.Core.Path.{◌≡◌, refl}
use mathlib.Core.Logic.{◌↔◌}
use mathlib.Core.Bool.{true, ◌&&◌}
use mathlib.Core.List.{List, [], ◌∷◌}
use native.Mathlib.Omega.{arith}
use native.Mathlib.Nat.{div-lt_iff_lt-mul, le-div_iff_mul-le}
use lib.Dec.{eqb, leb}
use lib.ListN.{take}
use borrow.Author.Tests.{ltb-true, leb-true, eqb-true, eqb-false, not-true, lt-ltb, le-leb, eq-eqb, ne_eqb}
use Rattle.bits.specs.Words.{Store, with_word, after}
use Rattle.bits.specs.Below.{all}
use Rattle.bits.proofs.Below.{and_left, and_right, and_both, same_test, every-at, every-all, all-each, each_all}
use Rattle.image.specs.declared.Section.{Section}
use Rattle.image.specs.declared.Layout.{Layout}
use Rattle.image.specs.Layout.{end, up, within, stands, header_rules, header_good, blocks_in}
use Rattle.image.specs.Content.{permalock, pair_at, may_go, pending, content_rules, rules_hold, again_after, content_good}
use Rattle.image.specs.Rules.{Stands, Header, Content}
use Rattle.image.specs.Steps.{start_rules, bank_rules, perma_rules, work_rules, header_steps}

within-fact : (a b x : ℕ) → within a b x ≡ true → (a ≤ x) × (x ≤ b)
within-fact a b x e = (leb-true a x (and_left (leb a x) (leb x b) e), leb-true x b (and_right (leb a x) (leb x b) e))

within-test : (a b x : ℕ) → a ≤ x → x ≤ b → within a b x ≡ true
within-test a b x p q = and_both (leb a x) (leb x b) (le-leb a x p) (le-leb x b q)

stands-fact : (s : Section) (o a b : ℕ) → stands s o a b ≡ true → Stands s o a b
stands-fact s o a b e =
    let w = within-fact a b s.words (and_right (eqb s.at o) (within a b s.words) e) in
    record { at = eqb-true s.at o (and_left (eqb s.at o) (within a b s.words) e); least = w.0; most = w.1 }

stands-test : (s : Section) (o a b : ℕ) → Stands s o a b → stands s o a b ≡ true
stands-test s o a b h = and_both (eqb s.at o) (within a b s.words) (eq-eqb s.at o h.at) (within-test a b s.words h.least h.most)

header-fact : (y : Layout) (m : List ℕ) → header_good y m ≡ true → Header y m
unfolding header_good
header-fact y m e =
    let t = all-each (header_rules y m) e in
    let t₃ = t.1.1.1 in
    let t₆ = t₃.1.1.1 in
    let t₉ = t₆.1.1.1 in
    record {
      sections = eqb-true _ _ t.0;
      block_least = (within-fact _ _ _ t.1.0).0;
      block_most = (within-fact _ _ _ t.1.0).1;
      status = stands-fact _ _ _ _ t.1.1.0;
      reserved = stands-fact _ _ _ _ t₃.0;
      epc = stands-fact _ _ _ _ t₃.1.0;
      tid = stands-fact _ _ _ _ t₃.1.1.0;
      user = stands-fact _ _ _ _ t₆.0;
      blocks = leb-true _ _ t₆.1.0;
      perma = stands-fact _ _ _ _ t₆.1.1.0;
      work = stands-fact _ _ _ _ t₉.0;
      pairs_least = (within-fact _ _ _ t₉.1.0).0;
      pairs_most = (within-fact _ _ _ t₉.1.0).1;
      whole = eqb-true _ _ t₉.1.1.0;
    }

header-test : (y : Layout) (m : List ℕ) → Header y m → header_good y m ≡ true
unfolding header_good
header-test y m h =
    each_all (header_rules y m) (
      eq-eqb _ _ h.sections,
      (
        within-test _ _ _ h.block_least h.block_most,
        (
          stands-test _ _ _ _ h.status,
          (
            stands-test _ _ _ _ h.reserved,
            (
              stands-test _ _ _ _ h.epc,
              (
                stands-test _ _ _ _ h.tid,
                (
                  stands-test _ _ _ _ h.user,
                  (
                    le-leb _ _ h.blocks,
                    (
                      stands-test _ _ _ _ h.perma,
                      (
                        stands-test _ _ _ _ h.work,
                        (
                          within-test _ _ _ h.pairs_least h.pairs_most,
                          (eq-eqb _ _ h.whole, tt),
                        ),
                      ),
                    ),
                  ),
                ),
              ),
            ),
          ),
        ),
      ),
    )

-- w words of 16 bits for u words of USER in blocks of b, by multiplication
module _ (u b w : ℕ) (some : 1 ≤ b) where
  all-if : up u b ≤ 16 * w → u ≤ 16 * b * w
  all-if l = omega (arith, (div-lt_iff_lt-mul {k = b} {x = u + (b - 1)} {y = 16 * w + 1} some).0 (omega (arith, l)))

  if-all : u ≤ 16 * b * w → up u b ≤ 16 * w
  if-all l = omega (arith, (div-lt_iff_lt-mul {k = b} {x = u + (b - 1)} {y = 16 * w + 1} some).1 (omega (arith, l, some)))

module _ (u b : ℕ) (some : 1 ≤ b) where
  begun-if : (w : ℕ) → 16 * w ≤ up u b + 15 → 16 * b * w < u + 16 * b
  begun-if zero l = omega (arith, some)
  begun-if (suc k) l = omega (arith, some, (le-div_iff_mul-le {k = b} {x = 16 * k + 1} {y = u + (b - 1)} some).0 (omega (arith, l)))

  if-begun : (w : ℕ) → 16 * b * w < u + 16 * b → 16 * w ≤ up u b + 15
  if-begun zero l = omega arith
  if-begun (suc k) l = omega (arith, (le-div_iff_mul-le {k = b} {x = 16 * k + 1} {y = u + (b - 1)} some).1 (omega (arith, l, some)))

pub header-both : (y : Layout) (m : List ℕ) → (header_good y m ≡ true) ↔ Header y m
header-both y m = (header-fact y m, header-test y m)

-- the code's steps ask the same
header-steps : (y : Layout) (m : List ℕ) → Header y m → all (header_steps y m) ≡ true
unfolding blocks_in
header-steps y m h =
    let odd : y.work.words % 2 ≡ 0 → ⊥ = omega arith in
    let perma : Stands y.perma (end y.user) 0 16 = record { at = h.perma.at; least = omega arith; most = omega (arith, h.blocks, h.perma.most) } in
    let work : Stands y.work (end y.perma) 33 511 = record { at = h.work.at; least = omega arith; most = omega arith } in
    each_all (header_steps y m) (
      each_all (start_rules y m) (eq-eqb _ _ h.sections, (within-test _ _ _ h.block_least h.block_most, (stands-test _ _ _ _ h.status, tt))),
      (
        each_all (bank_rules y) (
          stands-test _ _ _ _ h.reserved,
          (stands-test _ _ _ _ h.epc, (stands-test _ _ _ _ h.tid, (stands-test _ _ _ _ h.user, tt))),
        ),
        (
          each_all (perma_rules y) (
            stands-test _ _ _ _ perma,
            (
              le-leb _ _ (all-if y.user.words y.block y.perma.words h.block_least (omega (arith, h.perma.least))),
              (lt-ltb _ _ (begun-if y.user.words y.block h.block_least y.perma.words (omega (arith, h.perma.most))), tt),
            ),
          ),
          (
            each_all (work_rules y m) (stands-test _ _ _ _ work, (simp (ne_eqb _ _ odd), (eq-eqb _ _ h.whole, tt))),
            tt,
          ),
        ),
      ),
    )

steps-header : (y : Layout) (m : List ℕ) → all (header_steps y m) ≡ true → Header y m
unfolding blocks_in
steps-header y m e =
    let t = all-each (header_steps y m) e in
    let a = all-each (start_rules y m) t.0 in
    let b = all-each (bank_rules y) t.1.0 in
    let p = all-each (perma_rules y) t.1.1.0 in
    let w = all-each (work_rules y m) t.1.1.1.0 in
    let least : 1 ≤ y.block = (within-fact _ _ _ a.1.0).0 in
    let perma : Stands y.perma (end y.user) 0 16 = stands-fact _ _ _ _ p.0 in
    let all : blocks_in y ≤ 16 * y.perma.words = if-all y.user.words y.block y.perma.words least (leb-true _ _ p.1.0) in
    let begun : 16 * y.perma.words ≤ blocks_in y + 15 = if-begun y.user.words y.block least y.perma.words (ltb-true _ _ p.1.1.0) in
    let work : Stands y.work (end y.perma) 33 511 = stands-fact _ _ _ _ w.0 in
    let odd : y.work.words % 2 ≡ 0 → ⊥ = eqb-false _ _ (not-true _ w.1.0) in
    record {
      sections = eqb-true _ _ a.0;
      block_least = (within-fact _ _ _ a.1.0).0;
      block_most = (within-fact _ _ _ a.1.0).1;
      status = stands-fact _ _ _ _ a.1.1.0;
      reserved = stands-fact _ _ _ _ b.0;
      epc = stands-fact _ _ _ _ b.1.0;
      tid = stands-fact _ _ _ _ b.1.1.0;
      user = stands-fact _ _ _ _ b.1.1.1.0;
      blocks = omega (arith, all, perma.most);
      perma = record { at = perma.at; least = omega (arith, all); most = omega (arith, begun) };
      work = record { at = work.at; least = omega (arith, odd); most = omega (arith, odd) };
      pairs_least = omega (arith, work.least);
      pairs_most = omega (arith, work.most);
      whole = eqb-true _ _ w.1.1.0;
    }

pub same-header : (y : Layout) (m : List ℕ) → header_good y m ≡ all (header_steps y m)
same-header y m = same_test _ _ (λ e. header-steps y m (header-fact y m e)) (λ e. header-test y m (steps-header y m e))

rules-fact : (y : Layout) (m : List ℕ) → rules_hold y m ≡ true → Content y m
unfolding rules_hold
rules-fact y m e =
    let t = all-each (content_rules y m) e in
    let t₃ = t.1.1.1 in
    record {
      lock = ltb-true _ _ t.0;
      killed = leb-true _ _ t.1.0;
      pc = leb-true _ _ t.1.1.0;
      spare = λ i least most.
          let z : blocks_in y + (i - blocks_in y) ≡ i = omega arith in
          rw z at (eqb-true (permalock y m (blocks_in y + (i - blocks_in y))) 0
          (every-at (λ k. eqb (permalock y m (blocks_in y + k)) 0) (16 * y.perma.words - blocks_in y) t₃.0 (i - blocks_in y) (omega arith)));
      count = leb-true _ _ t₃.1.0;
      places = λ j l. every-at (λ j. may_go y (pair_at y m j).at) _ t₃.1.1.0 j l;
    }

rules-test : (y : Layout) (m : List ℕ) → Content y m → rules_hold y m ≡ true
unfolding rules_hold
rules-test y m h =
    each_all (content_rules y m) (
      lt-ltb _ _ h.lock,
      (
        le-leb _ _ h.killed,
        (
          le-leb _ _ h.pc,
          (
            every-all (λ k. eqb (permalock y m (blocks_in y + k)) 0) (16 * y.perma.words - blocks_in y) (λ k l. eq-eqb _ 0 (h.spare (blocks_in y + k) (omega arith) (omega arith))),
            (
              le-leb _ _ h.count,
              (every-all (λ j. may_go y (pair_at y m j).at) _ h.places, tt),
            ),
          ),
        ),
      ),
    )

pub rules-both : (y : Layout) (m : List ℕ) → (rules_hold y m ≡ true) ↔ Content y m
rules-both y m = (rules-fact y m, rules-test y m)

-- the rules hold before and after each store of a list, or after each number of its stores
again-fact : (y : Layout) (m : List ℕ) (ss : List Store) → rules_hold y m && again_after y m ss ≡ true → (k : ℕ) → rules_hold y (after m (take k ss)) ≡ true
again-fact y m [] e zero = and_left (rules_hold y m) true e
again-fact y m [] e (suc k) = and_left (rules_hold y m) true e
again-fact y m (s ∷ ss) e zero = and_left (rules_hold y m) (again_after y m (s ∷ ss)) e
again-fact y m (s ∷ ss) e (suc k) = again-fact y (with_word m s.at s.value) ss (and_right (rules_hold y m) (again_after y m (s ∷ ss)) e) k

again-test : (y : Layout) (m : List ℕ) (ss : List Store) → ((k : ℕ) → rules_hold y (after m (take k ss)) ≡ true) → rules_hold y m && again_after y m ss ≡ true
again-test y m [] h = and_both (rules_hold y m) true (h 0) refl
again-test y m (s ∷ ss) h =
    and_both (rules_hold y m) (again_after y m (s ∷ ss)) (h 0) (again-test y (with_word m s.at s.value) ss (λ k. h (suc k)))

pub content-both : (y : Layout) (m : List ℕ) → (content_good y m ≡ true) ↔ ((k : ℕ) → Content y (after m (take k (pending y m))))
unfolding content_good
content-both y m = (
  λ e k. rules-fact y _ (again-fact y m (pending y m) e k),
  λ h. again-test y m (pending y m) (λ k. rules-test y _ (h k)),
)
