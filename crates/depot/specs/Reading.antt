-- WHAT A REPLY SAYS to a depot (RULES 12.4 and 12.5): n bits in the bytes m, answering a command with its payload d and the number h. Assumes
-- nothing.
use Rattle.std.specs.Prelude.{ℕ, ◌*◌, not, ◌||◌, Option, Some, None, List, ◌∷◌, ltb, length}
use Rattle.bits.specs.First.{first}
use Rattle.readings.specs.declared.Awaited.{Awaited}
use Rattle.readings.specs.declared.Awaited.TheVariants as await
use Rattle.readings.specs.Reading.{Told, refused, rows_of}
use Rattle.depot.specs.declared.Command.{Command}
use Rattle.depot.specs.declared.Command.TheVariants as command
use Rattle.depot.specs.Limits.{within}

-- the replies that each command awaits, by their kind, if any
abbrev pub awaited_by : Command → Option Awaited
awaited_by (command.QueryRep k) = Some await.Drawn
awaited_by command.Ack = Some await.Epc
awaited_by (command.Query r) = Some await.Drawn
awaited_by (command.QueryAdjust k u) = Some await.Drawn
awaited_by (command.Select t a p l) = None
awaited_by command.Nak = None
awaited_by command.ReqRn = Some await.Renewed
awaited_by (command.Read p k) = Some (await.Words k)
awaited_by (command.Write p w) = Some await.Done
awaited_by (command.Kill w) = Some await.Half
awaited_by (command.Lock m a) = Some await.Done
awaited_by (command.Access w) = Some await.Handle
awaited_by (command.BlockWrite p) = Some await.Done
awaited_by (command.BlockErase p k) = Some await.Done
awaited_by (command.ReadPermalock p k) = Some (await.Words k)
awaited_by (command.Permalock p) = Some await.Done

-- READING: 9 for a command beyond the limits; 8 for under 16 bits, past the bytes lent, or a wrong CRC-16; 15 for no reply that is awaited
unfoldable pub read_of : Command → List ℕ → ℕ → ℕ → List ℕ → Told
read_of o d h n m =
    first ((refused 9, not (within o (length d))) ∷ (refused 8, ltb n 16 || ltb (8 * length m) n) ∷ rows_of h n m (awaited_by o)) (refused 15)
