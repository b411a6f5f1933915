-- A record read as the code does it, and that of Off: which records are those of sessions under power, and of which. Equal to `session_of` by `fit-near`
-- and `unfit-off` (proofs/Records). Assumes nothing.
use Rattle.std.specs.Prelude.{ℕ, ◌/◌, ◌%◌, ◌^◌, Bool, cond, not, ◌&&◌, ◌||◌, eqb, leb, ltb}
use Rattle.frames.specs.declared.Round.{Round}
use Rattle.states.specs.declared.Link.{Link}
use Rattle.states.specs.declared.State.{State}
use Rattle.states.specs.declared.State.TheVariants as state
use Rattle.states.specs.declared.Numbers.{Numbers}
use Rattle.states.specs.declared.Record.{Record}
use Rattle.states.specs.Numbers.{numbers_in}
use Rattle.tag.specs.declared.Session.{Session}
use Rattle.tag.specs.Records.{link_from, on_of}

-- the record of Off
abbrev pub off_record : Record
off_record = record { low = 0; high = 0 }

-- the state of numbers that have one: Open and Secured, and those without a cover
abbrev pub linked_state : ℕ → Link → State
linked_state st k = cond (eqb st 5) (state.Open k) (state.Secured k)

abbrev pub bare_state : ℕ → Round → ℕ → ℕ → State
bare_state st q n slot =
    cond (eqb st 2) (state.Arbitrate q slot)
    (cond (eqb st 3) (state.Reply q n) (cond (eqb st 4) (state.Acknowledged q n) (cond (eqb st 1) state.Ready state.Killed)))

unfoldable pub state_from : Numbers → Link → State
state_from v k = cond (eqb v.state 5 || eqb v.state 6) (linked_state v.state k) (bare_state v.state k.round v.number v.slot)

unfoldable pub near_of : Numbers → Session
near_of v = on_of v (state_from v (link_from v))

-- a state under power; and port, register, cover and flags within their bits
abbrev pub no_state : Numbers → Bool
no_state v = eqb v.state 0 || ltb 7 v.state

abbrev pub too_large : Numbers → Bool
too_large v = (ltb 1 v.held || ltb 3 v.reg) || (ltb 1 v.covered || ltb 31 v.flags)

-- a cover number and an upper half are 0 where there is none, and the half is one of three
unfoldable pub numbers_fit : Numbers → Bool
numbers_fit v = (not (eqb v.covered 0) || eqb v.cover 0) && cond (eqb v.half 0) (eqb v.upper 0) (leb v.half 2)

-- no round, number, cover, half or slot
unfoldable pub idle_fits : Record → Bool
idle_fits r = eqb r.high 0 && eqb (r.low / 2 ^ 40 % 2 ^ 16) 0

-- a state without a cover holds only what belongs to it; many parts are asked at once
unfoldable pub bare_fits : Record → Numbers → Bool
bare_fits r v =
    eqb (r.low / 2 ^ 24 % 2 ^ 16) 0
    && cond (eqb v.state 2) (eqb (r.high % 2 ^ 48) 0) (cond (eqb v.state 3 || eqb v.state 4) (ltb r.high (2 ^ 16)) (idle_fits r))

-- a state holds only what belongs to it
unfoldable pub state_fits : Record → Numbers → Bool
state_fits r v = cond (eqb v.state 5 || eqb v.state 6) (eqb v.slot 0 && numbers_fit v) (bare_fits r v)

-- the record is that of a session under power
unfoldable pub fits_of : Record → Bool
fits_of r = let v = numbers_in r in not (no_state v) && not (too_large v) && state_fits r v
