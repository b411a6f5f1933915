-- The law of cuts. A change's stores after its count are the first that power-up makes of the image then. A torn pending word is stored again; a torn count is
-- one of the two that it was torn between, since a count is one byte; torn pairs mean nothing while the count is 0. Assumes nothing.
use Prim.Native.Nat.{ℕ, zero, suc, ◌+◌, ◌-◌, ◌*◌, ◌≤◌, ◌<◌}
use mathlib.Core.Path.{◌≡◌, refl, sym, ap, ap₂, ◌∙◌, subst}
use mathlib.Core.Logic.{◌⊎◌, inl, inr, ⊎_map}
use mathlib.Core.Bool.{Bool, true, false, cond}
use mathlib.Core.List.{List, [], ◌∷◌, ◌++◌, append_assoc}
use native.Mathlib.Omega.{arith}
use native.Mathlib.Decide.{dec_lt}
use lib.Dec.{eqb}
use lib.ListN.{length}
use borrow.Author.Tests.{eqb-true, eqb-false}
use Rattle.bits.specs.Words.{word_at, with_word, Store, store, after}
use Rattle.bits.specs.Below.{below}
use Rattle.bits.proofs.Below.{length-below}
use Rattle.bits.proofs.Words.{length-with, word-with-same, word-with-other}
use Rattle.bits.proofs.Stores.{Under, Fine, Fits, under-avoids, length-after, after-append, after-avoids, after-fine, word-with, word_after, last}
use Rattle.image.specs.declared.Layout.{Layout}
use Rattle.image.specs.Layout.{layout_of, end}
use Rattle.image.specs.Content.{count_in, pair_at, pending}
use Rattle.image.specs.Rules.{Good}
use Rattle.image.proofs.Fits.{ok-if}
use Rattle.stores.specs.Stores.{staged, finished, change_stores, epc_crc, settling, power_stores, power_up}
use Rattle.stores.specs.Cuts.{Change, Cut, cut_after, cut_power_up, cut_power_ups, reaches, Cuts}
use Rattle.stores.proofs.Runs.{length-staged}
use Rattle.stores.proofs.Pairs.{staged-avoids, announced-pairs}
use Rattle.stores.proofs.Changes.{finished-other}
use Rattle.stores.proofs.Sane.{Stays, Goes, Sane, Alike, settled, none-pending, pending-same, goes-under, rules-fit, crc-same, good-sane, sane-good, Follows, follows-trans, cleared}
use Rattle.stores.proofs.Mixed.{Tear, none, high, low, joined, mix, mix_after, Lows, tear_at, tear-seam, joined-stays, cut-mix, cut_by, cut-lows, run_length, run-avoids, run-whole, run-first, run-second, run-parts, run-again, run-fine}

finished-some : (w : ℕ) (ss : List Store) → 0 < length ss → finished w ss ≡ ss ++ (store w 0 ∷ [])
finished-some w [] h = absurd (omega arith)
finished-some w (s ∷ ss) h = refl

finished-clears : (y : Layout) (m : List ℕ) → 2 * y.work.at + 1 < length m → count_in y (after m (settling y m)) ≡ 0
finished-clears y m h = go (count_in y m) refl
  where
    go : (c : ℕ) → count_in y m ≡ c → word_at (after m (finished y.work.at (below (pair_at y m) (count_in y m)))) y.work.at ≡ 0
    go zero z = rw (ap (below (pair_at y m)) z) z
    go (suc c) z =
        let some : 0 < length (below (pair_at y m) (count_in y m)) = omega (arith, length-below (pair_at y m) (count_in y m)) in
        rw (finished-some y.work.at (below (pair_at y m) (count_in y m)) some, after-append)
        (word-with-same (after m (below (pair_at y m) (count_in y m))) y.work.at 0 (rw length-after h))

-- n may follow m, and all that was pending is, or nothing
abbrev Leads : Layout → List ℕ → List ℕ → List ℕ → Type 0
Leads y h m n = Follows y h m n × ((pending y n ≡ pending y m) ⊎ (pending y n ≡ []))

leads-trans : (y : Layout) (h m n p : List ℕ) → Leads y h m n → Leads y h n p → Leads y h m p
leads-trans y h m n p (f, inl d) (r, inl e) = (follows-trans y h m n p f r, inl (e ∙ d))
leads-trans y h m n p (f, inr d) (r, inl e) = (follows-trans y h m n p f r, inr (e ∙ d))
leads-trans y h m n p (f, d) (r, inr e) = (follows-trans y h m n p f r, inr e)

clears : (y : Layout) (h m n : List ℕ) → length n ≡ length h → count_in y n ≡ 0 → Fine y.work.at (Stays y h) n → Alike y n (settled y m) → Leads y h m n
clears y h m n q z f a = (cleared y h m n q z f a, inr (none-pending y n z))

module _ (y : Layout) (h : List ℕ) (g : Good y h) where
  size_of : (m : List ℕ) → Sane y h m → length m ≡ 2 * end y.work
  size_of m s = s.size ∙ g.header.whole

  room_of : (m : List ℕ) → Sane y h m → 2 * y.work.at + 1 < length m
  room_of m s = omega (arith, size_of m s, g.header.work.least)

  epc-under : y.epc.at < y.work.at
  epc-under = omega (arith, g.header.epc.least, g.header.tid.at, g.header.user.at, g.header.perma.at, g.header.work.at)

  -- any value may stand at EPC word 0
  epc-free : (v : ℕ) → Stays y h y.epc.at v
  epc-free v = (λ l. absurd (late l), ok-if y y.epc.at v (λ q. absurd (lock q)) (λ q. absurd (killed q)) (λ q. absurd (omega arith)) (λ q. absurd (last_of q)))
    where
      late : y.epc.at < 16 → ⊥
      late l = omega (arith, g.header.epc.at, g.header.reserved.at, g.header.status.at)

      lock : y.epc.at ≡ y.status.at → ⊥
      lock q = omega (arith, g.header.epc.at, g.header.reserved.at, g.header.reserved.least, g.header.status.at)

      killed : y.epc.at ≡ y.status.at + 1 → ⊥
      killed q = omega (arith, g.header.epc.at, g.header.reserved.at, g.header.reserved.least, g.header.status.at, g.header.status.least)

      last_of : y.epc.at + 1 ≡ end y.perma → ⊥
      last_of q = omega (arith, g.header.epc.least, g.header.tid.at, g.header.user.at, g.header.perma.at)

  -- an image with the words of m from WORK on, and below it words that its pending words make the same
  keeps : (m n : List ℕ) → Sane y h m → length n ≡ length m → ((i : ℕ) → y.work.at ≤ i → word_at n i ≡ word_at m i) → Fine y.work.at (Stays y h) n
      → ((i : ℕ) → i < y.work.at → last i (word_at n i) (pending y m) ≡ last i (word_at m i) (pending y m)) → Leads y h m n
  keeps m n s q e f a =
      let p : pending y n ≡ pending y m = pending-same y m n e in (
        (
          record {
            size = q ∙ s.size;
            words = f;
            count = rw (e y.work.at (omega arith)) s.count;
            goes = subst (λ (ss : List Store). Goes y ss) (sym p) s.goes;
            fits = subst (λ (ss : List Store). Fits (Stays y h) ss) (sym p) s.fits;
          },
          λ i l d.
              ap (λ (ss : List Store). word_at (after n ss) i) p
              ∙ word_after n (pending y m) i (omega (arith, q, size_of m s))
              ∙ a i l
              ∙ sym (word_after m (pending y m) i (omega (arith, size_of m s))),
        ),
        inl p,
      )

  -- the count stored again as it is
  recounted : (m : List ℕ) (v : ℕ) → Sane y h m → v ≡ count_in y m → Leads y h m (with_word m y.work.at v)
  recounted m v s e =
      keeps m (with_word m y.work.at v) s (length-with m y.work.at v) (λ i l. same i)
      (λ i l. rw (same i) (s.words i l)) (λ i l. ap (λ (d : ℕ). last i d (pending y m)) (same i))
    where
      go : (i : ℕ) → (b : Bool) → eqb i y.work.at ≡ b → word_at (with_word m y.work.at v) i ≡ word_at m i
      go i true q = rw (eqb-true i y.work.at q) (word-with-same m y.work.at v (room_of m s) ∙ e)
      go i false q = word-with-other m y.work.at v i (eqb-false i y.work.at q)

      same : (i : ℕ) → word_at (with_word m y.work.at v) i ≡ word_at m i
      same i = go i (eqb i y.work.at) refl

  -- a count is one byte
  count_most : (m : List ℕ) → Sane y h m → count_in y m < 256
  count_most m s = omega (arith, s.count, g.header.pairs_most)

  module _ (m : List ℕ) (s : Sane y h m) where
    -- cut among the pending words: a torn one is stored again
    words-torn : (k : ℕ) (t : Tear) → Leads y h m (mix_after k t m (pending y m))
    words-torn k t =
        let under : Under y.work.at (pending y m) = goes-under y h g.header (pending y m) s.goes in
        keeps m (mix_after k t m (pending y m)) s (run_length k t m (pending y m))
        (λ i l. run-avoids k t m (pending y m) i (under-avoids y.work.at i (pending y m) l under))
        (run-fine (Stays y h) (joined-stays y h) y.work.at k t m (pending y m) (omega (arith, size_of m s)) s.fits s.words)
        (λ i l. run-again k t m (pending y m) i)

    -- all pending words stored, and then the count 0
    made : Leads y h m (settled y m)
    made = subst (Leads y h m) (run-whole none m (pending y m)) (words-torn (length (pending y m)) none)

    zeroed : Leads y h m (with_word (settled y m) y.work.at 0)
    zeroed =
        clears y h m (with_word (settled y m) y.work.at 0) (length-with (settled y m) y.work.at 0 ∙ made.0.0.size)
        (word-with-same (settled y m) y.work.at 0 (room_of (settled y m) made.0.0))
        (λ i l. rw (word-with-other (settled y m) y.work.at 0 i (omega arith)) (made.0.0.words i l))
        (λ i l d. word-with-other (settled y m) y.work.at 0 i (omega arith))

    -- a count torn on its way to 0 is the count or 0
    zero-torn : (k : ℕ) (t : Tear) → Leads y h m (mix_after k t (settled y m) (store y.work.at 0 ∷ []))
    zero-torn (suc k) t = zeroed
    zero-torn zero none = made
    zero-torn zero high =
        let e : joined 0 (count_in y (settled y m)) ≡ count_in y (settled y m) = omega (arith, count_most (settled y m) made.0.0) in
        leads-trans y h m (settled y m) _ made (recounted (settled y m) (joined 0 (count_in y (settled y m))) made.0.0 e)
    zero-torn zero low =
        let e : joined (count_in y (settled y m)) 0 ≡ 0 = omega (arith, count_most (settled y m) made.0.0) in
        rw e zeroed

    -- the pending words, and the count 0 after them
    settling-torn : (k : ℕ) (t : Tear) → Leads y h m (mix_after k t m (settling y m))
    settling-torn k t = go (pending y m) refl
      where
        go : (xs : List Store) → pending y m ≡ xs → Leads y h m (mix_after k t m (finished y.work.at xs))
        go [] e = ((s, λ i l n. refl), inl refl)
        go (x ∷ xs) e =
            run-parts (Leads y h m) m (x ∷ xs) (store y.work.at 0 ∷ [])
            (λ j u l. subst (λ (ss : List Store). Leads y h m (mix_after j u m ss)) e (words-torn j u))
            (λ j u. subst (λ (ss : List Store). Leads y h m (mix_after j u (after m ss) (store y.work.at 0 ∷ []))) e (zero-torn j u)) k t

    -- and the CRC-16 last
    done : List ℕ
    done = after m (settling y m)

    done_none : count_in y done ≡ 0
    unfolding done
    done_none = finished-clears y m (room_of m s)

    done-low : (i : ℕ) → i < y.work.at → word_at done i ≡ word_at (settled y m) i
    unfolding done
    done-low i l = finished-other y.work.at m (pending y m) i l

    done-size : length done ≡ length h
    unfolding done
    done-size = length-after m (settling y m) ∙ s.size

    done-fine : Fine y.work.at (Stays y h) done
    done-fine i l = rw (done-low i l) (made.0.0.words i l)

    sum-torn : (v k : ℕ) (t : Tear) → Leads y h m (mix_after k t done (store y.epc.at v ∷ []))
    sum-torn v k t =
        let c = store y.epc.at v ∷ [] in
        clears y h m (mix_after k t done c) (run_length k t done c ∙ done-size)
        (run-avoids k t done c y.work.at (omega (arith, epc-under), tt) ∙ done_none)
        (run-fine (Stays y h) (joined-stays y h) y.work.at k t done c (omega (arith, done-size, g.header.whole)) (epc-free v, tt) done-fine)
        (λ i l d. run-avoids k t done c i (d, tt) ∙ done-low i l)

    -- a power-up cut anywhere
    power-torn : (k : ℕ) (t : Tear) → Leads y h m (mix_after k t m (power_stores y m))
    unfolding power_stores done
    power-torn =
        run-parts (Leads y h m) m (settling y m) (store y.epc.at (epc_crc y (after m (settling y m))) ∷ [])
        (λ k t l. settling-torn k t) (sum-torn (epc_crc y (after m (settling y m))))

    -- a word after a whole one
    power-up-word : (i : ℕ) → i < y.work.at
        → word_at (after m (power_stores y m)) i ≡ cond (eqb i y.epc.at) (epc_crc y (settled y m)) (word_at (settled y m) i)
    unfolding power_stores done
    power-up-word i l =
        rw after-append
        (word-with done y.epc.at (epc_crc y done) i (omega (arith, done-size, g.header.whole))
        ∙ ap₂ (λ (x z : ℕ). cond (eqb i y.epc.at) x z) (crc-same y h g.header done (settled y m) done-fine (λ j p n. done-low j p)) (done-low i l))

    power-up-clears : count_in y (after m (power_stores y m)) ≡ 0
    unfolding power_stores done
    power-up-clears = rw after-append (word-with-other done y.epc.at (epc_crc y done) y.work.at (omega (arith, epc-under)) ∙ done_none)

  layout-of : (m : List ℕ) → Sane y h m → y ≡ layout_of m
  layout-of m s = (sane-good y h m g s).layout

  cuts-follow : (m : List ℕ) (cs : List Cut) → Lows m → Sane y h m → Leads y h m (cut_power_ups cs m)
  cuts-follow m [] b s = ((s, λ i l d. refl), inl refl)
  cuts-follow m (c ∷ cs) b s =
      let f : Leads y h m (cut_power_up c m) =
      subst (λ (z : Layout). Leads y h m (cut_after c m (power_stores z m))) (layout-of m s) (cut_by (Leads y h m) m (power_stores y m) b (power-torn m s) c) in
      leads-trans y h m (cut_power_up c m) (cut_power_ups cs (cut_power_up c m)) f
      (cuts-follow (cut_power_up c m) cs (cut-lows c m (power_stores (layout_of m) m) b) f.0.0)

  -- images that come to the same words are the same after a whole power-up
  power-alike : (m n : List ℕ) → Sane y h m → Sane y h n → Alike y (settled y m) (settled y n) → (i : ℕ) → i < y.work.at
      → word_at (after m (power_stores y m)) i ≡ word_at (after n (power_stores y n)) i
  power-alike m n s t a i l = power-up-word m s i l ∙ go (eqb i y.epc.at) refl ∙ sym (power-up-word n t i l)
    where
      go : (b : Bool) → eqb i y.epc.at ≡ b
          → cond b (epc_crc y (settled y m)) (word_at (settled y m) i) ≡ cond b (epc_crc y (settled y n)) (word_at (settled y n) i)
      go true q = crc-same y h g.header (settled y m) (settled y n) (made m s).0.0.words a
      go false q = a i l (eqb-false i y.epc.at q)

  -- whatever follows m comes to what m comes to
  comes-to : (m n : List ℕ) (cs : List Cut) → Lows n → Sane y h m → Follows y h m n → (i : ℕ) → i < y.work.at
      → word_at (power_up (cut_power_ups cs n)) i ≡ word_at (power_up m) i
  comes-to m n cs b s f i l =
      let r : Follows y h m (cut_power_ups cs n) = follows-trans y h m n (cut_power_ups cs n) f (cuts-follow n cs b f.0).0 in
      rw (← layout-of (cut_power_ups cs n) r.0, ← layout-of m s) (power-alike (cut_power_ups cs n) m r.0 s r.1 i l)

-- a change's stores: the pairs, the count, and what finishes it
stores-of : (w : ℕ) (ss : List Store) → 0 < length ss → change_stores w ss ≡ staged (w + 1) ss ++ (store w (length ss) ∷ finished w ss)
stores-of w [] h = absurd (omega arith)
stores-of w (s ∷ ss) h = append_assoc (staged (w + 1) (s ∷ ss)) (store w (length (s ∷ ss)) ∷ []) (finished w (s ∷ ss))

module _ (y : Layout) (m : List ℕ) (ss : List Store) (g : Good y m) (z : count_in y m ≡ 0) (c : Change y m ss) where
  fit : Fits (Stays y m) ss
  fit = rules-fit y m g.header m ss refl c.places c.rules

  under : Under y.work.at ss
  under = goes-under y m g.header ss c.places

  sane : Sane y m m
  sane = good-sane y m g

  pairs : List Store
  pairs = staged (y.work.at + 1) ss

  pairs-size : length pairs ≡ 2 * length ss
  unfolding pairs
  pairs-size = length-staged (y.work.at + 1) ss

  -- the pairs staged, and a count over them
  counted : ℕ → List ℕ
  counted v = with_word (after m pairs) y.work.at v

  counted-size : (v : ℕ) → length (counted v) ≡ length m
  unfolding counted
  counted-size v = length-with (after m pairs) y.work.at v ∙ length-after m pairs

  counted-count : (v : ℕ) → count_in y (counted v) ≡ v
  unfolding counted
  counted-count v = word-with-same (after m pairs) y.work.at v (rw length-after (room_of y m g m sane))

  pairs-past : (i : ℕ) → i < y.work.at + 1 → word_at (after m pairs) i ≡ word_at m i
  unfolding pairs
  pairs-past i l = after-avoids m pairs i (staged-avoids i (y.work.at + 1) ss l)

  counted-other : (v i : ℕ) → i < y.work.at → word_at (counted v) i ≡ word_at m i
  unfolding counted
  counted-other v i l = word-with-other (after m pairs) y.work.at v i (omega arith) ∙ pairs-past i (omega arith)

  counted-pending : pending y (counted (length ss)) ≡ ss
  unfolding counted pairs
  counted-pending =
      let b = g.header in
      ap (below (pair_at y (counted (length ss)))) (counted-count (length ss))
      ∙ ap (λ (x : List ℕ). below (pair_at y x) (length ss)) (sym (after-append m pairs (store y.work.at (length ss) ∷ [])))
      ∙ announced-pairs m y.work.at (length ss) ss (omega (arith, c.few))

  counted-sane : Sane y m (counted (length ss))
  counted-sane =
      record {
        size = counted-size (length ss);
        words = λ i l. rw (counted-other (length ss) i l) (sane.words i l);
        count = rw (counted-count (length ss)) c.few;
        goes = subst (λ (xs : List Store). Goes y xs) (sym counted-pending) c.places;
        fits = subst (λ (xs : List Store). Fits (Stays y m) xs) (sym counted-pending) fit;
      }

  -- the image with the change made, and the one whose pending words are the change
  stored-none : count_in y (after m ss) ≡ 0
  stored-none = after-avoids m ss y.work.at (under-avoids y.work.at y.work.at ss (omega arith) under) ∙ z

  stored-alike : Alike y (after m ss) (settled y (after m ss))
  stored-alike i l d = ap (λ (xs : List Store). word_at (after (after m ss) xs) i) (sym (none-pending y (after m ss) stored-none))

  stored-sane : Sane y m (after m ss)
  stored-sane =
      (cleared y m (after m ss) (after m ss) (length-after m ss) stored-none
      (after-fine (Stays y m) y.work.at m ss (omega (arith, g.header.whole)) fit sane.words) stored-alike).0

  counted-follows : Follows y m (after m ss) (counted (length ss))
  counted-follows = (
    counted-sane,
    λ i l d.
        ap (λ (xs : List Store). word_at (after (counted (length ss)) xs) i) counted-pending
        ∙ word_after (counted (length ss)) ss i (rw counted-size (omega (arith, g.header.whole)))
        ∙ ap (λ (v : ℕ). last i v ss) (counted-other (length ss) i l)
        ∙ sym (word_after m ss i (omega (arith, g.header.whole)))
        ∙ stored-alike i l d,
  )

  -- what a cut after k stores leaves comes to the old words, or to the new ones
  record Leaves (k : ℕ) (n : List ℕ) : Type 0 where
    old : k ≤ 2 * length ss → Follows y m m n
    new : 2 * length ss < k → Follows y m (after m ss) n
    pends : (pending y n ≡ ss) ⊎ (pending y n ≡ [])

  -- while the count is 0 the pairs mean nothing
  idle : (k : ℕ) (n : List ℕ) → k ≤ 2 * length ss → length n ≡ length m → ((i : ℕ) → i < y.work.at → word_at n i ≡ word_at m i) → count_in y n ≡ 0 → Leaves k n
  idle k n l q e d =
      record {
        old = λ p.
            cleared y m m n q d (λ i b. rw (e i b) (sane.words i b))
            (λ i b x. e i b ∙ sym (ap (λ (xs : List Store). word_at (after m xs) i) (none-pending y m z)));
        new = λ p. absurd (omega arith);
        pends = inr (none-pending y n d);
      }

  -- cut among the pairs
  early : (r k : ℕ) (t : Tear) → r ≤ 2 * length ss → Leaves r (mix_after k t m pairs)
  unfolding pairs
  early r k t l = idle r (mix_after k t m pairs) l (run_length k t m pairs) (λ i b. past i (omega arith)) (past y.work.at (omega arith) ∙ z)
    where
      past : (i : ℕ) → i < y.work.at + 1 → word_at (mix_after k t m pairs) i ≡ word_at m i
      past i b = run-avoids k t m pairs i (staged-avoids i (y.work.at + 1) ss b)

  few : length ss < 256
  few = omega (arith, c.few, g.header.pairs_most)

  before : count_in y (after m pairs) ≡ 0
  before = pairs-past y.work.at (omega arith) ∙ z

  -- at the count: its low byte decides
  at_count : (a b : Bool) → Leaves (2 * length ss + cond a 1 0) (mix (cond a low (cond b high none)) (after m pairs) (store y.work.at (length ss)))
  unfolding counted
  at_count true b =
      let e : joined (count_in y (after m pairs)) (length ss) ≡ length ss = omega (arith, few, before) in
      record { old = λ q. absurd (omega arith); new = λ q. rw e counted-follows; pends = inl (rw e counted-pending) }
  at_count false true =
      let e : joined (length ss) (count_in y (after m pairs)) ≡ 0 = omega (arith, few, before) in
      rw e (idle (2 * length ss + 0) (counted 0) (omega arith) (counted-size 0) (counted-other 0) (counted-count 0))
  at_count false false = idle (2 * length ss + 0) (after m pairs) (omega arith) (length-after m pairs) (λ i l. pairs-past i (omega arith)) before

  -- cut after the count
  late : (r k : ℕ) (t : Tear) → 2 * length ss < r → Leaves r (mix_after k t (counted (length ss)) (finished y.work.at ss))
  late r k t l =
      let f : Leads y m (counted (length ss)) (mix_after k t (counted (length ss)) (finished y.work.at ss)) =
      subst (λ (xs : List Store). Leads y m (counted (length ss)) (mix_after k t (counted (length ss)) (finished y.work.at xs))) counted-pending
      (settling-torn y m g (counted (length ss)) counted-sane k t) in
      record {
        old = λ q. absurd (omega arith);
        new = λ q. follows-trans y m (after m ss) (counted (length ss)) _ counted-follows f.0;
        pends = ⊎_map (λ e. e ∙ counted-pending) (λ e. e) f.1;
      }

  rest : List Store
  rest = store y.work.at (length ss) ∷ finished y.work.at ss

  bit-most : (b : Bool) → cond b 1 0 ≤ 1
  bit-most true = omega arith
  bit-most false = omega arith

  mix-leaves : (k j : ℕ) → Leaves (reaches y (record { whole = k; byte = j })) (mix_after k (tear_at j k (pairs ++ rest)) m (pairs ++ rest))
  unfolding counted rest
  mix-leaves k j = go (dec_lt k (2 * length ss))
    where
      low_byte : Bool
      low_byte = eqb j (2 * y.work.at + 1)

      r : ℕ
      r = k + cond low_byte 1 0

      t : Tear
      t = tear_at j k (pairs ++ rest)

      behind : (i : ℕ) → length pairs + i ≡ k → Leaves r (mix_after i t (after m pairs) rest)
      behind zero e =
          let d : k ≡ 2 * length ss = omega (arith, pairs-size) in
          let q : k ≡ length pairs = omega arith in
          subst (λ (x : ℕ). Leaves (x + cond low_byte 1 0) (mix t (after m pairs) (store y.work.at (length ss)))) (sym d)
          (subst (λ (u : Tear). Leaves (2 * length ss + cond low_byte 1 0) (mix u (after m pairs) (store y.work.at (length ss))))
          (sym (ap (λ (x : ℕ). tear_at j x (pairs ++ rest)) q ∙ tear-seam j pairs (store y.work.at (length ss)) (finished y.work.at ss)))
          (at_count low_byte (eqb j (2 * y.work.at))))
      behind (suc i) e = late r i t (omega (arith, pairs-size))

      go : Dec (k < 2 * length ss) → Leaves r (mix_after k t m (pairs ++ rest))
      go (yes l) =
          subst (Leaves r) (sym (run-first k t m pairs rest (omega (arith, pairs-size)))) (early r k t (omega (arith, bit-most low_byte)))
      go (no l) =
          let q : length pairs + (k - length pairs) ≡ k = omega (arith, pairs-size) in
          subst (λ (x : ℕ). Leaves r (mix_after x t m (pairs ++ rest))) q
          (subst (Leaves r) (sym (run-second (k - length pairs) t m pairs rest)) (behind (k - length pairs) q))

  module _ (b : Lows m) (d : Cut) where
    image : List ℕ
    image = cut_after d m (change_stores y.work.at ss)

    image-leaves : Leaves (reaches y d) image
    unfolding image rest pairs
    image-leaves =
        subst (λ (xs : List Store). Leaves (reaches y d) (cut_after d m xs)) (sym (stores-of y.work.at ss c.some))
        (subst (Leaves (reaches y d)) (sym (cut-mix d m (pairs ++ rest) b)) (mix-leaves d.whole d.byte))

    image-lows : Lows image
    unfolding image
    image-lows = cut-lows d m (change_stores y.work.at ss) b

    image-sane : Sane y m image
    image-sane = go (dec_lt (2 * length ss) (reaches y d))
      where
        go : Dec (2 * length ss < reaches y d) → Sane y m image
        go (yes l) = (image-leaves.new l).0
        go (no l) = (image-leaves.old (omega arith)).0

    image-good : (ds : List Cut) → Good y (cut_power_ups ds image)
    image-good ds = sane-good y m (cut_power_ups ds image) g (cuts-follow y m g image ds image-lows image-sane).0.0

pub cuts : Cuts
unfolding image
cuts y m ss bytes g z c =
    let b : Lows m = λ i. bytes (2 * i + 1) in
    record {
      old = λ d ds l. comes-to y m g m (image y m ss g z c b d) ds (image-lows y m ss g z c b d) (sane y m ss g z c) ((image-leaves y m ss g z c b d).old l);
      new = λ d ds l.
          comes-to y m g (after m ss) (image y m ss g z c b d) ds (image-lows y m ss g z c b d) (stored-sane y m ss g z c) ((image-leaves y m ss g z c b d).new l);
      good = λ d ds. image-good y m ss g z c b d ds;
      stored = sane-good y m (after m ss) g (stored-sane y m ss g z c);
    }

-- one cut leaves a good image: of a change, with all of its words pending or none; of a power-up, with all that was or nothing
pub change-left : (y : Layout) (m : List ℕ) (ss : List Store) → Lows m → Good y m → count_in y m ≡ 0 → Change y m ss → (d : Cut)
    → let n = cut_after d m (change_stores y.work.at ss) in Good y n × ((pending y n ≡ ss) ⊎ (pending y n ≡ []))
unfolding image
change-left y m ss b g z c d = (image-good y m ss g z c b d [], (image-leaves y m ss g z c b d).pends)

pub power-left : (y : Layout) (m : List ℕ) → Lows m → Good y m → (d : Cut)
    → let n = cut_after d m (power_stores y m) in Good y n × ((pending y n ≡ pending y m) ⊎ (pending y n ≡ []))
power-left y m b g d =
    let f = cut_by (Leads y m m) m (power_stores y m) b (power-torn y m g m (good-sane y m g)) d in
    (sane-good y m _ g f.0.0, f.1)

-- a whole power-up: a good image; EPC word 0 is the CRC-16, the other words are those of the pending words stored; nothing is pending
pub power-good : (y : Layout) (m : List ℕ) → Good y m → Good y (after m (power_stores y m))
power-good y m g =
    subst (Good y) (run-whole none m (power_stores y m))
    (sane-good y m _ g (power-torn y m g m (good-sane y m g) (length (power_stores y m)) none).0.0)

pub power-word : (y : Layout) (m : List ℕ) → Good y m → (i : ℕ) → i < y.work.at
    → word_at (after m (power_stores y m)) i ≡ cond (eqb i y.epc.at) (epc_crc y (settled y m)) (word_at (settled y m) i)
power-word y m g i l = power-up-word y m g m (good-sane y m g) i l

pub power-settles : (y : Layout) (m : List ℕ) → Good y m → count_in y (after m (power_stores y m)) ≡ 0
power-settles y m g = power-up-clears y m g m (good-sane y m g)
