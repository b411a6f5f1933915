-- The port as the code answers it: the outcome of a call, and a transfer's ends. Assumes nothing.
use Rattle.std.specs.Prelude.{ℕ, zero, suc, ◌+◌, ◌*◌, ◌/◌, ◌<◌, ◌≡◌, Bool, cond, List, [], eqb, ltb, length, get_or, Option, None, Some}
use Rattle.bits.specs.Words.{after}
use Rattle.image.specs.declared.Layout.{Layout}
use Rattle.image.specs.Layout.{layout_of}
use Rattle.rights.specs.Rights.{block_open}
use Rattle.replies.specs.Pack.{packed}
use Rattle.stores.specs.Stores.{change_stores}
use Rattle.tag.specs.declared.Live.{Live}
use Rattle.tag.specs.declared.Register.{Register}
use Rattle.tag.specs.declared.Session.{Session}
use Rattle.tag.specs.Session.{off_session, on}
use Rattle.tag.specs.Result.{Result, lost}
use Rattle.states.specs.Commands.{is_killed}
use Rattle.tag.specs.Steps.{gives, front_row}
use Rattle.tag.specs.Port.{bit_of, register_to, with_killed, with_unwritten, bad_count, read_bits, port_words, some_unwritten}

-- a session with its port held or free
abbrev pub held_to : Live → Bool → Session
held_to l b = on l.flags l.state b l.register

-- the register after a write
abbrev pub wrote_to : Layout → List ℕ → Live → ℕ → ℕ → Register
wrote_to y m l at n = cond (is_killed l.state) (with_killed l.register) (with_unwritten (some_unwritten y m at n) l.register)

-- a read's answer past 6, for a room of n bytes: 13, 4, or 0
unfoldable pub end_row : Layout → ℕ → ℕ → ℕ → ℕ
end_row y at count n = cond (bad_count y at count) 13 (cond (ltb n (2 * count)) 4 0)

-- its answer, by the session's h: the first row that holds, or 0; and its room then
unfoldable pub read_row : ℕ → List ℕ → ℕ → ℕ → ℕ → ℕ
read_row h m at count n = cond (eqb (front_row h m) 0) (end_row (layout_of m) at count n) (front_row h m)

unfoldable pub read_room : ℕ → Bool → List ℕ → ℕ → ℕ → List ℕ → List ℕ
read_room row killed m at count room = cond (eqb row 0) (packed (read_bits (layout_of m) m killed at count) room) room

-- the session with bit 0 set, under power
abbrev pub after_killed : Option Live → Session
after_killed None = off_session
after_killed (Some l) = register_to l (with_killed l.register)

-- a write that 13 does not stop
unfoldable pub write_end : Live → Layout → List ℕ → ℕ → List ℕ → ℕ → Result
write_end l y m at d power =
    let stores = change_stores y.work.at (port_words y m (is_killed l.state) at d) in
    cond (ltb power (length stores)) (lost m stores power [])
    (gives 0 (register_to l (wrote_to y m l at (length d / 2))) 0 (length stores) (after m stores) [])

-- how many of the numbers below n pass a test
abbrev pub passing : (ℕ → Bool) → ℕ → ℕ
passing t zero = 0
passing t (suc n) = passing t n + bit_of (t n)

-- byte j of the mask z is 0 where USER word at + j stands in an open block, for n words, k of them in open blocks
pub record Masked (y : Layout) (m : List ℕ) (at : ℕ) (z : List ℕ) (n k : ℕ) : Type 0 where
  pub same : (j : ℕ) → j < n → eqb (get_or z j 0) 0 ≡ block_open y m (at + j)
  pub count : k ≡ passing (λ j. block_open y m (at + j)) n
