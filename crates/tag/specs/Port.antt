-- The SPI port (RULES 4): asking, releasing, the register, reads and writes of USER, each with its answers in order. Assumes nothing.
use Rattle.std.specs.Prelude.{ℕ, zero, suc, ◌+◌, ◌*◌, ◌/◌, ◌%◌, Bool, true, false, cond, not, ◌&&◌, ◌||◌, List, [], ◌∷◌, ◌++◌, eqb, ltb, length, replicate}
use Rattle.bits.specs.Words.{word_at, Store, store}
use Rattle.bits.specs.Bits.{words_bits}
use Rattle.bits.specs.Below.{every}
use Rattle.image.specs.declared.Layout.{Layout}
use Rattle.image.specs.Layout.{layout_of, pairs_in}
use Rattle.image.specs.Content.{lock_word}
use Rattle.rights.specs.Rights.{pwd_bit, block_open}
use Rattle.tag.specs.declared.Register.{Register}
use Rattle.tag.specs.declared.Live.{Live}
use Rattle.tag.specs.declared.Session.{Session}
use Rattle.tag.specs.Session.{on, clear}
use Rattle.tag.specs.Result.{Result, leaves, replying, storing, lost, Answers}
use Rattle.states.specs.Commands.{is_linked, is_killed, zero_access}
use Rattle.tag.specs.Table.{live_of, first_rows, answered, port_rows}

-- a session with another register
abbrev pub register_to : Live → Register → Session
register_to l r = on l.flags l.state l.held r

-- 4.1: asking is granted unless the state is Open or Secured or the port is held
unfoldable pub ask_of : Session → Answers
ask_of s =
    let l = live_of s.power in
    record { rows = port_rows s (l.held || is_linked l.state); done = answered 0 (on l.flags l.state true l.register) }

-- 4.7: releasing and reading the register need the port held
unfoldable pub release_of : Session → Answers
release_of s =
    let l = live_of s.power in record { rows = port_rows s (not l.held); done = answered 0 (on l.flags l.state false l.register) }

-- 4.5: bit 1, some word wasn't written; bit 0, killed
abbrev pub bit_of : Bool → ℕ
bit_of b = cond b 1 0

abbrev pub number_in : Register → ℕ
number_in r = 2 * bit_of r.unwritten + bit_of r.killed

-- 4.6: the register as a number, and cleared
unfoldable pub register_of : Session → Answers
register_of s =
    let l = live_of s.power in
    let value = number_in l.register in
    record {
      rows = port_rows s (not l.held);
      done = record { number = 0; session = register_to l clear; reply = 0; stores = 0; value = value; image = []; room = [] };
    }

-- set bits last
abbrev pub with_killed : Register → Register
with_killed r = record { unwritten = r.unwritten; killed = true }

abbrev pub with_unwritten : Bool → Register → Register
with_unwritten b r = record { unwritten = r.unwritten || b; killed = r.killed }

-- the answers before a transfer's own: what each leaves is everything
abbrev pub refusals : Session → List ℕ → List ℕ → Bool → List (Result × Bool)
refusals s m room bad =
    let everything : ℕ → Result = λ n. leaves n s m room in
    first_rows everything s m (not (live_of s.power).held) ++ ((everything 13, bad) ∷ [])

-- count words of USER from word `at` on: none, more than 255, or past its end
abbrev pub bad_count : Layout → ℕ → ℕ → Bool
bad_count y at count = eqb count 0 || ltb 255 count || ltb y.user.words (at + count)

-- 4.3 and 4.8: what a read shows: count words, or zeros when Killed
abbrev pub read_bits : Layout → List ℕ → Bool → ℕ → ℕ → List ℕ
read_bits y m killed at count = cond killed (replicate (16 * count) 0) (words_bits m (y.user.at + at) count)

-- order 1, 2, 3, 5, 6, 13, 4
unfoldable pub read_of : Session → List ℕ → ℕ → ℕ → List ℕ → Answers
read_of s m at count room =
    let l = live_of s.power in
    let killed = is_killed l.state in
    record {
      rows =
          refusals s m room (bad_count (layout_of m) at count) ++ ((leaves 4 s m room, ltb (length room) (2 * count)) ∷ []);
      done =
          replying (16 * count) (read_bits (layout_of m) m killed at count)
          (leaves 0 (register_to l (cond killed (with_killed l.register) l.register)) m room);
    }

-- 4.4: the port may write; and a USER word that it may write
abbrev pub port_open : Layout → List ℕ → Bool
port_open y m = zero_access y m && eqb (pwd_bit (lock_word y m) 4) 0

abbrev pub port_writes : Layout → List ℕ → ℕ → Bool
port_writes y m i = port_open y m && block_open y m i

-- those of the n words of d, for USER words from `at` on, that may be written
abbrev pub written_words : Layout → List ℕ → ℕ → List ℕ → ℕ → List Store
written_words y m at d zero = []
written_words y m at d (suc n) =
    written_words y m at d n ++ cond (port_writes y m (at + n)) (store (y.user.at + at + n) (word_at d n) ∷ []) []

-- odd data, a bad count, or more words than W
abbrev pub bad_data : Layout → ℕ → List ℕ → Bool
bad_data y at d = not (eqb (length d % 2) 0) || bad_count y at (length d / 2) || ltb (pairs_in y) (length d / 2)

-- what a write stores, and whether some word wasn't written; nothing when Killed
abbrev pub port_words : Layout → List ℕ → Bool → ℕ → List ℕ → List Store
port_words y m killed at d = cond killed [] (written_words y m at d (length d / 2))

abbrev pub some_unwritten : Layout → List ℕ → ℕ → ℕ → Bool
some_unwritten y m at n = not (every (λ j. port_writes y m (at + j)) n)

-- order 1, 2, 3, 5, 6, 13, 11; a write has no room. `change` is how words are stored: `change_stores` in every promise
module _ (change : ℕ → List Store → List Store) where
  unfoldable pub write_of : Session → List ℕ → ℕ → List ℕ → ℕ → Answers
  write_of s m at d power =
      let y = layout_of m in
      let l = live_of s.power in
      let stores = change y.work.at (port_words y m (is_killed l.state) at d) in
      let new = cond (is_killed l.state) (with_killed l.register) (with_unwritten (some_unwritten y m at (length d / 2)) l.register) in
      record {
        rows = refusals s m [] (bad_data y at d) ++ ((lost m stores power [], ltb power (length stores)) ∷ []);
        done = storing stores (leaves 0 (register_to l new) m []);
      }
