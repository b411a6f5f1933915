-- Answer 12 as it was before broken halves got 14 (RULES 5.14), so that a 12 in older logs can be read. Assumes nothing.
use Rattle.std.specs.Prelude.{ℕ, ◌≡◌, Bool, true, false, cond, not, ◌&&◌, ◌||◌, List, [], ◌∷◌, ◌++◌, eqb, take, drop, Option, None, Some}
use Rattle.image.specs.declared.Layout.{Layout}
use Rattle.states.specs.declared.Half.{Half}
use Rattle.states.specs.declared.Half.TheVariants as half
use Rattle.states.specs.declared.Link.{Link}
use Rattle.states.specs.declared.Part.{Part}
use Rattle.states.specs.declared.Part.TheVariants as part
use Rattle.states.specs.Commands.{asks_of, link_of, uncovered, kill_word, access_word}
use Rattle.stores.specs.Stores.{change_stores}
use Rattle.tag.specs.Result.{Result, first_of, Answers}
use Rattle.demands.specs.Demands.{numbers_of}
use Rattle.tag.specs.Table.{Input, layout, state_of, command, wrong_password, broken_halves, dropped, frame_of}

-- the lower half makes a wrong password, or another command to this tag comes between the halves
abbrev pub breaks : Layout → List ℕ → Link → Option Half → Part → Bool
breaks y m k None p = false
breaks y m k (Some (half.Access up)) part.Between = false
breaks y m k (Some (half.Access up)) (part.Access h) = not (eqb up (access_word y m 0) && eqb (uncovered k.cover h) (access_word y m 1))
breaks y m k (Some (half.Access up)) (part.Kill h) = true
breaks y m k (Some (half.Access up)) (part.To n) = eqb k.handle n
breaks y m k (Some (half.Access up)) part.Other = true
breaks y m k (Some (half.Kill up)) part.Between = false
breaks y m k (Some (half.Kill up)) (part.Access h) = true
breaks y m k (Some (half.Kill up)) (part.Kill h) = not (eqb up (kill_word y m 0) && eqb (uncovered k.cover h) (kill_word y m 1))
breaks y m k (Some (half.Kill up)) (part.To n) = eqb k.handle n
breaks y m k (Some (half.Kill up)) part.Other = true

abbrev pub broken : Input → Bool
broken i = let k = link_of (state_of i) in breaks (layout i) i.image k k.half (asks_of (command i).order).part

-- the table with that one row in the place of the two, which are numbers 8 and 9 of its list, from 0 on
abbrev pub former_of : Input → Answers
former_of i =
    let t = frame_of change_stores i in
    record { rows = take 8 t.rows ++ (dropped i 12, broken i) ∷ drop 10 t.rows; done = t.done }

-- an answer with the number k where it has n; and as an older log has it
abbrev pub renumbered : ℕ → ℕ → Result → Result
renumbered n k r =
    let number = cond (eqb r.number n) k r.number in
    record { number = number; session = r.session; reply = r.reply; stores = r.stores; value = r.value; image = r.image; room = r.room }

abbrev pub formerly : Result → Result
formerly r = renumbered 14 12 r

-- the two never both apply, and together they are what 12 was; that table has the former order, and with 12 in the place of 14 every frame
-- is answered as by it
pub record Former : Type 0 where
  pub apart : (i : Input) → wrong_password i && broken_halves i ≡ false
  pub together : (i : Input) → wrong_password i || broken_halves i ≡ broken i
  pub order : (i : Input) → numbers_of (former_of i).rows ≡ 1 ∷ 2 ∷ 3 ∷ 5 ∷ 6 ∷ 7 ∷ 8 ∷ 9 ∷ 12 ∷ 10 ∷ 4 ∷ 11 ∷ []
  pub logs : (i : Input) → formerly (first_of (frame_of change_stores i)) ≡ first_of (former_of i)
