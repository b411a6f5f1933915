-- With 12 in the place of 14 every frame is answered as by the former table. Assumes nothing.
use Rattle.std.specs.Prelude.{Option, None, Some}
use Prim.Native.Nat.{ℕ}
use mathlib.Core.Path.{◌≡◌, refl, ap, ◌∙◌}
use mathlib.Core.Bool.{Bool, true, false, cond, not, ◌&&◌, ◌||◌}
use mathlib.Core.List.{List, [], ◌∷◌}
use lib.Dec.{eqb}
use lib.ListN.{take, drop}
use borrow.Author.Tests.{eqb-true}
use Rattle.bits.specs.First.{first}
use Rattle.image.specs.declared.Layout.{Layout}
use Rattle.states.specs.declared.Half.{Half}
use Rattle.states.specs.declared.Half.TheVariants as half
use Rattle.states.specs.declared.Link.{Link}
use Rattle.states.specs.declared.Part.{Part}
use Rattle.states.specs.declared.Part.TheVariants as part
use Rattle.states.specs.Commands.{asks_of, link_of, uncovered, kill_word, access_word, halves_row}
use Rattle.stores.specs.Stores.{change_stores}
use Rattle.tag.specs.Result.{Result}
use Rattle.tag.specs.Table.{Input, layout, state_of, command, halves, wrong_password, broken_halves, dropped, frame_of}
use Rattle.demands.specs.Former.{breaks, broken, formerly, Former}
use Rattle.demands.proofs.Rows.{Rows}

-- one number is not two
not-two : (n : ℕ) → eqb n 12 && eqb n 14 ≡ false
not-two n = go (eqb n 12) refl
  where
    go : (b : Bool) → eqb n 12 ≡ b → b && eqb n 14 ≡ false
    go true e = ap (λ (k : ℕ). eqb k 14) (eqb-true n 12 e)
    go false e = refl

-- a password that is right, and an ACK with the handle
right : (b : Bool) → eqb (cond b 0 12) 12 || eqb (cond b 0 12) 14 ≡ not b
right true = refl
right false = refl

to-this : (b : Bool) → eqb (cond b 14 0) 12 || eqb (cond b 14 0) 14 ≡ b
to-this true = refl
to-this false = refl

both-were : (y : Layout) (m : List ℕ) (k : Link) (a : Option Half) (p : Part) → eqb (halves_row y m k a p) 12 || eqb (halves_row y m k a p) 14 ≡ breaks y m k a p
both-were y m k None p = refl
both-were y m k (Some (half.Access up)) part.Between = refl
both-were y m k (Some (half.Access up)) (part.Access h) = right (eqb up (access_word y m 0) && eqb (uncovered k.cover h) (access_word y m 1))
both-were y m k (Some (half.Access up)) (part.Kill h) = refl
both-were y m k (Some (half.Access up)) (part.To n) = to-this (eqb k.handle n)
both-were y m k (Some (half.Access up)) part.Other = refl
both-were y m k (Some (half.Kill up)) part.Between = refl
both-were y m k (Some (half.Kill up)) (part.Access h) = refl
both-were y m k (Some (half.Kill up)) (part.Kill h) = right (eqb up (kill_word y m 0) && eqb (uncovered k.cover h) (kill_word y m 1))
both-were y m k (Some (half.Kill up)) (part.To n) = to-this (eqb k.handle n)
both-were y m k (Some (half.Kill up)) part.Other = refl

-- what rows leave, as an older log has it
logged : Rows → Rows
logged [] = []
logged (r ∷ rs) = (formerly r.0, r.1) ∷ logged rs

first-logged : (rs : Rows) (last : Result) → formerly (first rs last) ≡ first (logged rs) (formerly last)
unfolding logged
first-logged [] last = refl
first-logged (r ∷ rs) last = go r.1 ∙ ap (λ (x : Result). cond r.1 (formerly r.0) x) (first-logged rs last)
  where
    go : (b : Bool) → formerly (cond b r.0 (first rs last)) ≡ cond b (formerly r.0) (formerly (first rs last))
    go true = refl
    go false = refl

-- two neighbours that leave the same are one row
merged : (a b c : Bool) (x z : Result) → a || b ≡ c → cond a x (cond b x z) ≡ cond c x z
merged true b c x z e = ap (λ (t : Bool). cond t x z) e
merged false b c x z e = ap (λ (t : Bool). cond t x z) e

pub former-so : Former
unfolding frame_of logged
former-so =
    record {
      apart = λ i. not-two (halves i);
      together = were;
      order = λ i. refl;
      logs = λ i.
          let t = frame_of change_stores i in
          first-logged t.rows t.done
          ∙ ap (first (take 8 t.rows)) (merged (wrong_password i) (broken_halves i) (broken i) (dropped i 12) (first (drop 10 t.rows) t.done) (were i));
    }
  where
    were : (i : Input) → wrong_password i || broken_halves i ≡ broken i
    were i = let k = link_of (state_of i) in both-were (layout i) i.image k k.half (asks_of (command i).order).part
