-- The limits as facts about the numbers of a command. Assumes nothing.
use Prim.Native.Nat.{ℕ, ◌+◌, ◌/◌, ◌%◌, ◌<◌}
use mathlib.Core.Path.{◌≡◌, refl}
use mathlib.Core.Bool.{Bool, true, false, ◌&&◌, ◌||◌}
use lib.Dec.{eqb, ltb}
use borrow.Author.Tests.{ltb-true, eqb-true}
use native.Mathlib.Omega.{arith}
use Rattle.bits.proofs.Below.{and_left, and_right}
use Rattle.depot.specs.declared.Place.{Place}
use Rattle.depot.specs.declared.Round.{Round}
use Rattle.depot.specs.declared.Command.{Command}
use Rattle.depot.specs.declared.Command.TheVariants as command
use Rattle.depot.specs.Limits.{placed, whole_words, counted, query_within, within}

abbrev pub Placed : Place → Type 0
Placed p = (p.bank < 4) × (p.pointer < 0x200000)

abbrev pub Queried : Round → Type 0
Queried r = (r.dr < 2) × (r.m < 4) × (r.trext < 2) × (r.sel < 4) × (r.session < 4) × (r.target < 2) × (r.q < 16)

abbrev pub Counted : ℕ → Type 0
Counted n = (0 < n) × (n < 256)

abbrev pub Whole : ℕ → Type 0
Whole d = (d % 2 ≡ 0) × (0 < d) × (d < 512)

abbrev pub Within : Command → ℕ → Type 0
Within (command.QueryRep k) d = k < 4
Within command.Ack d = Unit {0}
Within (command.Query r) d = Queried r
Within (command.QueryAdjust k u) d = (k < 4) × (u < 8)
Within (command.Select t a p l) d = (t < 5) × (a < 8) × Placed p × (0 < p.bank) × (l < 256) × (d ≡ (l + 7) / 8)
Within command.Nak d = Unit {0}
Within command.ReqRn d = Unit {0}
Within (command.Read p n) d = Placed p × (n < 256)
Within (command.Write p w) d = Placed p
Within (command.Kill w) d = Unit {0}
Within (command.Lock m a) d = (m < 1024) × (a < 1024)
Within (command.Access w) d = Unit {0}
Within (command.BlockWrite p) d = Placed p × Whole d
Within (command.BlockErase p n) d = Placed p × Counted n
Within (command.ReadPermalock p n) d = Placed p × Counted n
Within (command.Permalock p) d = Placed p × Whole d

-- two tests at once
two : (a b c d : ℕ) → ltb a b && ltb c d ≡ true → (a < b) × (c < d)
two a b c d e = (ltb-true a b (and_left (ltb a b) (ltb c d) e), ltb-true c d (and_right (ltb a b) (ltb c d) e))

placed-so : (p : Place) → placed p ≡ true → Placed p
placed-so p e = two p.bank 4 p.pointer 0x200000 e

counted-so : (n : ℕ) → counted n ≡ true → Counted n
counted-so n e = two 0 n n 256 e

whole-so : (d : ℕ) → whole_words d ≡ true → Whole d
whole-so d e =
    let f = two 0 d d 512 (and_right (eqb (d % 2) 0) (ltb 0 d && ltb d 512) e) in
    (eqb-true (d % 2) 0 (and_left (eqb (d % 2) 0) (ltb 0 d && ltb d 512) e), f.0, f.1)

query-so : (r : Round) → query_within r ≡ true → Queried r
query-so r e =
    let link = ltb r.dr 2 && (ltb r.m 4 && ltb r.trext 2) in
    let who = ltb r.sel 4 && ltb r.session 4 in
    let which = ltb r.target 2 && ltb r.q 16 in
    let a = and_left link (who && which) e in
    let b = two r.m 4 r.trext 2 (and_right (ltb r.dr 2) (ltb r.m 4 && ltb r.trext 2) a) in
    let c = and_right link (who && which) e in
    let f = two r.sel 4 r.session 4 (and_left who which c) in
    let g = two r.target 2 r.q 16 (and_right who which c) in
    (ltb-true r.dr 2 (and_left (ltb r.dr 2) (ltb r.m 4 && ltb r.trext 2) a), b.0, b.1, f.0, f.1, g.0, g.1)

-- UpDn 0, 3 or 6
up-down : (u : ℕ) → (eqb u 0 || (eqb u 3 || eqb u 6)) ≡ true → u < 8
up-down u e = go (eqb u 0) (eqb u 3) refl refl
  where
    go : (a b : Bool) → eqb u 0 ≡ a → eqb u 3 ≡ b → u < 8
    go true b p q = let z : u ≡ 0 = eqb-true _ _ p in omega arith
    go false true p q = let z : u ≡ 3 = eqb-true _ _ q in omega arith
    go false false p q = let z : u ≡ 6 = eqb-true _ _ (rw (p, q) at e) in omega arith

pub within-so : (c : Command) (d : ℕ) → within c d ≡ true → Within c d
within-so (command.QueryRep k) d e = ltb-true _ _ e
within-so command.Ack d e = tt
within-so (command.Query r) d e = query-so r e
within-so (command.QueryAdjust k u) d e =
    let turns = eqb u 0 || (eqb u 3 || eqb u 6) in (ltb-true k 4 (and_left (ltb k 4) turns e), up-down u (and_right (ltb k 4) turns e))
within-so (command.Select t a p l) d e =
    let flag = ltb t 5 && ltb a 8 in
    let place = ltb 0 p.bank && placed p in
    let mask = eqb d ((l + 7) / 8) in
    let f = and_right (ltb l 256) (flag && (place && mask)) e in
    let g = two t 5 a 8 (and_left flag (place && mask) f) in
    let h = and_right flag (place && mask) f in
    let i = and_left place mask h in (
      g.0,
      g.1,
      placed-so p (and_right (ltb 0 p.bank) (placed p) i),
      ltb-true 0 p.bank (and_left (ltb 0 p.bank) (placed p) i),
      ltb-true l 256 (and_left (ltb l 256) (flag && (place && mask)) e),
      eqb-true d ((l + 7) / 8) (and_right place mask h),
    )
within-so command.Nak d e = tt
within-so command.ReqRn d e = tt
within-so (command.Read p n) d e = (placed-so p (and_left (placed p) (ltb n 256) e), ltb-true n 256 (and_right (placed p) (ltb n 256) e))
within-so (command.Write p w) d e = placed-so p e
within-so (command.Kill w) d e = tt
within-so (command.Lock m a) d e = two m 1024 a 1024 e
within-so (command.Access w) d e = tt
within-so (command.BlockWrite p) d e = (placed-so p (and_left (placed p) (whole_words d) e), whole-so d (and_right (placed p) (whole_words d) e))
within-so (command.BlockErase p n) d e = (placed-so p (and_left (placed p) (counted n) e), counted-so n (and_right (placed p) (counted n) e))
within-so (command.ReadPermalock p n) d e = (placed-so p (and_left (placed p) (counted n) e), counted-so n (and_right (placed p) (counted n) e))
within-so (command.Permalock p) d e = (placed-so p (and_left (placed p) (whole_words d) e), whole-so d (and_right (placed p) (whole_words d) e))

pub words-within : (p : Place) (d : ℕ) → placed p && whole_words d ≡ true → d < 512
words-within p d e = (whole-so d (and_right (placed p) (whole_words d) e)).2
