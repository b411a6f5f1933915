-- THE LIMITS of a command that a depot is asked for (RULES 12.1); its payload has d bytes. Assumes nothing.
use Rattle.std.specs.Prelude.{ℕ, ◌+◌, ◌/◌, ◌%◌, Bool, true, ◌&&◌, ◌||◌, eqb, ltb}
use Rattle.depot.specs.declared.Place.{Place}
use Rattle.depot.specs.declared.Round.{Round}
use Rattle.depot.specs.declared.Command.{Command}
use Rattle.depot.specs.declared.Command.TheVariants as command

-- bank 0 to 3, and a pointer of at most 21 bits
abbrev pub placed : Place → Bool
placed p = ltb p.bank 4 && ltb p.pointer 0x200000

-- 1 to 255 words in an even number of bytes; and a number from 1 to 255
abbrev pub whole_words : ℕ → Bool
whole_words d = eqb (d % 2) 0 && (ltb 0 d && ltb d 512)

abbrev pub counted : ℕ → Bool
counted n = ltb 0 n && ltb n 256

-- what a Query's fields hold
abbrev pub query_within : Round → Bool
query_within r =
    (ltb r.dr 2 && (ltb r.m 4 && ltb r.trext 2)) && ((ltb r.sel 4 && ltb r.session 4) && (ltb r.target 2 && ltb r.q 16))

-- a flag and an action, a bank from 1 on, and exactly the bytes of the mask
abbrev pub select_within : ℕ → ℕ → Place → ℕ → ℕ → Bool
select_within t a p l d = ltb l 256 && ((ltb t 5 && ltb a 8) && ((ltb 0 p.bank && placed p) && eqb d ((l + 7) / 8)))

abbrev pub within : Command → ℕ → Bool
within (command.QueryRep k) d = ltb k 4
within command.Ack d = true
within (command.Query r) d = query_within r
within (command.QueryAdjust k u) d = ltb k 4 && (eqb u 0 || (eqb u 3 || eqb u 6))
within (command.Select t a p l) d = select_within t a p l d
within command.Nak d = true
within command.ReqRn d = true
within (command.Read p n) d = placed p && ltb n 256
within (command.Write p w) d = placed p
within (command.Kill w) d = true
within (command.Lock m a) d = ltb m 1024 && ltb a 1024
within (command.Access w) d = true
within (command.BlockWrite p) d = placed p && whole_words d
within (command.BlockErase p n) d = placed p && counted n
within (command.ReadPermalock p n) d = placed p && counted n
within (command.Permalock p) d = placed p && whole_words d
