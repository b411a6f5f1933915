-- The session's rules over its numbers, as the code asks them. Equal to the definitions by the laws of proofs/ByNumber. Assumes nothing.
use Rattle.std.specs.Prelude.{ℕ, ◌%◌, ◌^◌, Bool, true, false, cond, not, ◌&&◌, ◌||◌, List, eqb, ltb}
use Rattle.std.specs.Int.Bits.{bit_and, bit_xor}
use Rattle.image.specs.declared.Layout.{Layout}
use Rattle.frames.specs.declared.Choice.{Choice}
use Rattle.frames.specs.declared.Order.{Order}
use Rattle.states.specs.declared.Numbers.{Numbers}
use Rattle.states.specs.declared.Part.{Part}
use Rattle.states.specs.declared.Part.TheVariants as part
use Rattle.states.specs.declared.Who.{Who}
use Rattle.states.specs.declared.Who.TheVariants as who
use Rattle.states.specs.declared.Asks.{Asks}
use Rattle.states.specs.Commands.{asks_of, kill_word, access_word, zero_access}
use Rattle.states.specs.Inventory.{flag_after}
use Rattle.states.specs.Steps.{gate_by, picked}

-- a state without a cover, in a round; Open or Secured, with another cover and half; port and register stay
abbrev pub bare_to : Numbers → ℕ → ℕ → ℕ → ℕ → ℕ → ℕ → Numbers
bare_to v st f k q n slot =
    record {
      state = st;
      held = v.held;
      reg = v.reg;
      covered = 0;
      half = 0;
      round = k;
      q = q;
      flags = f;
      number = n;
      cover = 0;
      upper = 0;
      slot = slot;
    }

abbrev pub linked_to : Numbers → ℕ → ℕ → ℕ → ℕ → ℕ → Numbers
linked_to v st covered cover half upper =
    record {
      state = st;
      held = v.held;
      reg = v.reg;
      covered = covered;
      half = half;
      round = v.round;
      q = v.q;
      flags = v.flags;
      number = v.number;
      cover = cover;
      upper = upper;
      slot = v.slot;
    }

-- a state after the one of number k, and not Killed
abbrev pub past : Numbers → ℕ → Bool
past v k = ltb k v.state && ltb v.state 7

abbrev pub hears_in : Who → Numbers → ℕ → Bool
hears_in who.Everyone v n = not (eqb v.state 7)
hears_in who.InRound v n = past v 1
hears_in (who.InSession k) v n = past v 1 && eqb v.round k
hears_in who.Replied v n = past v 2
hears_in who.Acknowledged v n = past v 3 && eqb v.number n
hears_in who.Linked v n = past v 4 && eqb v.number n
hears_in who.Secured v n = eqb v.state 6 && eqb v.number n

-- a word or half as sent, without its cover, which is 0 where there is none
abbrev pub bare_of : Numbers → ℕ → ℕ
bare_of v w = bit_xor w v.cover

abbrev pub wrong_in : Numbers → ℕ → Asks → Bool
wrong_in v n a = not (hears_in a.who v n) || (a.cover && eqb v.covered 0) || a.bad

-- answers 12 and 14, or 0, while the upper half of an Access waits, and of a Kill
abbrev pub access_row : Layout → List ℕ → Numbers → Part → ℕ
access_row y m v part.Between = 0
access_row y m v (part.Access h) = cond (eqb v.upper (access_word y m 0) && eqb (bare_of v h) (access_word y m 1)) 0 12
access_row y m v (part.Kill h) = 14
access_row y m v (part.To n) = cond (eqb v.number n) 14 0
access_row y m v part.Other = 14

abbrev pub kill_row : Layout → List ℕ → Numbers → Part → ℕ
kill_row y m v part.Between = 0
kill_row y m v (part.Access h) = 14
kill_row y m v (part.Kill h) = cond (eqb v.upper (kill_word y m 0) && eqb (bare_of v h) (kill_word y m 1)) 0 12
kill_row y m v (part.To n) = cond (eqb v.number n) 14 0
kill_row y m v part.Other = 14

abbrev pub halves_in : Layout → List ℕ → Numbers → Part → ℕ
halves_in y m v p = cond (eqb v.half 0) 0 (cond (eqb v.half 1) (access_row y m v p) (kill_row y m v p))

abbrev pub gate_in : Layout → List ℕ → Numbers → ℕ → Order → ℕ
gate_in y m v n o = gate_by (wrong_in v n (asks_of o)) (halves_in y m v (asks_of o).part)

-- what commands leave
abbrev pub used_in : Numbers → Numbers
used_in v = linked_to v v.state 0 0 v.half v.upper

abbrev pub halved_in : Numbers → ℕ → ℕ → Numbers
halved_in v half upper = linked_to v v.state 0 0 half upper

abbrev pub fallen_in : Numbers → Numbers
fallen_in v = bare_to v 2 v.flags v.round v.q 0 v.slot

abbrev pub numbered_in : Layout → List ℕ → ℕ → Numbers → Numbers
numbered_in y m fresh v =
    cond (eqb v.state 4) (bare_to v (cond (zero_access y m) 6 5) v.flags v.round v.q fresh 0)
    (linked_to v v.state 1 fresh v.half v.upper)

abbrev pub secured_in : Numbers → Numbers
secured_in v = linked_to v 6 0 0 0 0

abbrev pub killed_in : Numbers → Numbers
killed_in v = bare_to v 7 v.flags 0 0 0 0

abbrev pub acknowledged_in : Numbers → Numbers
acknowledged_in v = cond (eqb v.state 3) (bare_to v 4 v.flags v.round v.q v.number 0) (used_in v)

abbrev pub idle_in : Numbers → ℕ → Numbers
idle_in v f = bare_to v 1 f 0 0 0 0

-- the bit of flag t, 0 to 4, among the flags; the flag itself, of a session or SL; and the flags with it inverted
abbrev pub bit_for : ℕ → ℕ
bit_for t = cond (eqb t 0) 1 (cond (eqb t 1) 2 (cond (eqb t 2) 4 (cond (eqb t 3) 8 (cond (eqb t 4) 16 0))))

abbrev pub is_set : ℕ → ℕ → Bool
is_set f bit = not (eqb (bit_and f bit) 0)

abbrev pub flag_in : ℕ → ℕ → Bool
flag_in f t = cond (ltb t 4) (is_set f (bit_for t)) (is_set f 16)

abbrev pub inverted_in : ℕ → ℕ → ℕ
inverted_in f t = bit_xor f (bit_for t)

-- QueryAdjust and QueryRep from Acknowledged on
abbrev pub left_in : Numbers → Numbers
left_in v = idle_in v (inverted_in v.flags v.round)

-- Query's first step; whether its Sel means the tag, and whether it matches
abbrev pub queried_in : Numbers → ℕ → ℕ
queried_in v k = cond (past v 3 && eqb v.round k) (inverted_in v.flags k) v.flags

abbrev pub meant : ℕ → Bool → Bool
meant sel sl = cond (ltb sel 2) true (cond (eqb sel 2) (not sl) (eqb sel 3 && sl))

abbrev pub matches_in : ℕ → ℕ → ℕ → ℕ → Bool
matches_in f sel t k = cond (not (meant sel (is_set f 16))) false (picked (flag_in f k) (eqb t 1) (eqb t 0))

abbrev pub slot_out : ℕ → ℕ → ℕ
slot_out q fresh = fresh % 2 ^ q

abbrev pub turned_by : ℕ → ℕ → Bool → Bool → ℕ
turned_by f bit old new = cond (picked old new (not new)) f (bit_xor f bit)

abbrev pub selected_by : ℕ → ℕ → ℕ → Bool → ℕ
selected_by f t a match = let old = is_set f (bit_for t) in turned_by f (bit_for t) old (flag_after t a match old)

abbrev pub selected_in : Numbers → Choice → Bool → Numbers
selected_in v c match = idle_in v (selected_by v.flags c.target c.action match)
