-- A frame as the code lays it out, in numbers of some bits; and bits put into a room behind others. Assumes nothing.
use Rattle.std.specs.Prelude.{ℕ, ◌+◌, ◌*◌, ◌/◌, ◌%◌, ◌≤◌, ◌≡◌, cond, List, ◌++◌, ltb}
use Rattle.std.specs.Int.Bits.{bit_xor}
use Rattle.bits.specs.Bits.{bits_from}
use Rattle.depot.specs.declared.Place.{Place}
use Rattle.depot.specs.declared.Round.{Round}
use Rattle.depot.specs.declared.Command.{Command}
use Rattle.depot.specs.declared.Command.TheVariants as command
use Rattle.fields.specs.declared.Field.{Field}
use Rattle.fields.specs.Steps.{field_bits}
use Rattle.depot.specs.declared.laying.Layout.{Layout}

abbrev pub field : ℕ → ℕ → Field
field v n = record { value = v; bits = n }

abbrev pub ebv : ℕ → Field
ebv p =
    let middle = (128 + p / 128 % 128) * 256 + p % 128 in
    cond (ltb p 128) (field (p % 128) 8) (cond (ltb p 16384) (field middle 16) (field ((128 + p / 16384 % 128) * 65536 + middle) 24))

abbrev pub plain : ℕ → ℕ → ℕ → Layout
plain v n k = record { front = field v n; middle = field 0 0; back = field 0 0; body = 0; tail = field 0 0; check = k }

abbrev pub placed : ℕ → ℕ → Place → Layout
placed v n p = record (plain (v * 4 + p.bank % 4) (n + 2) 0) { middle = ebv p.pointer }

abbrev pub addressed : Field → Field → Field → ℕ → ℕ → Layout
addressed front middle back h k = record { front = front; middle = middle; back = back; body = 0; tail = field h 16; check = k }

abbrev pub pointing : ℕ → ℕ → Place → Field → ℕ → ℕ → Layout
pointing v n p back body h = record (placed v n p) { back = back; body = body; tail = field h 16; check = 16 }

abbrev pub select_of : ℕ → ℕ → Place → ℕ → Layout
select_of t a p l =
    let front = ((10 * 8 + t % 8) * 8 + a % 8) * 4 + p.bank % 4 in
    record { front = field front 12; middle = ebv p.pointer; back = field l 8; body = l; tail = field 0 1; check = 16 }

abbrev pub query_of : Round → Layout
query_of r =
    let link = ((8 * 2 + r.dr % 2) * 4 + r.m % 4) * 2 + r.trext % 2 in
    let who = ((link * 4 + r.sel % 4) * 4 + r.session % 4) * 2 + r.target % 2 in
    plain (who * 16 + r.q % 16) 17 5

abbrev pub layout_of : Command → ℕ → ℕ → ℕ → Layout
layout_of (command.QueryRep k) d n c = plain (k % 4) 4 0
layout_of command.Ack d n c = addressed (field 1 2) (field 0 0) (field 0 0) n 0
layout_of (command.Query r) d n c = query_of r
layout_of (command.QueryAdjust k u) d n c = plain ((9 * 4 + k % 4) * 8 + u % 8) 9 0
layout_of (command.Select t a p l) d n c = select_of t a p l
layout_of command.Nak d n c = plain 0xC0 8 0
layout_of command.ReqRn d n c = addressed (field 0xC1 8) (field 0 0) (field 0 0) n 16
layout_of (command.Read p k) d n c = pointing 0xC2 8 p (field k 8) 0 n
layout_of (command.Write p w) d n c = pointing 0xC3 8 p (field (bit_xor w c) 16) 0 n
layout_of (command.Kill w) d n c = addressed (field 0xC4 8) (field (bit_xor w c) 16) (field 0 3) n 16
layout_of (command.Lock m a) d n c = addressed (field 0xC5 8) (field m 10) (field a 10) n 16
layout_of (command.Access w) d n c = addressed (field 0xC6 8) (field (bit_xor w c) 16) (field 0 0) n 16
layout_of (command.BlockWrite p) d n c = pointing 0xC7 8 p (field (d / 2) 8) (8 * d) n
layout_of (command.BlockErase p k) d n c = pointing 0xC8 8 p (field k 8) 0 n
layout_of (command.ReadPermalock p k) d n c = pointing (0xC9 * 512) 17 p (field k 8) 0 n
layout_of (command.Permalock p) d n c = pointing (0xC9 * 512 + 1) 17 p (field (d / 2) 8) (8 * d) n

-- a layout whose sums are small; a CRC-5 stands behind 17 bits
abbrev pub Narrow : Layout → Type 0
Narrow l =
    (l.front.bits ≤ 32) × (l.middle.bits ≤ 24) × (l.back.bits ≤ 16) × (l.body ≤ 4096) × (l.tail.bits ≤ 16) × (l.check ≤ 16)
    × (l.check ≡ 5 → 17 ≤ l.front.bits)

abbrev pub total_of : Layout → ℕ
total_of l = l.front.bits + l.middle.bits + l.back.bits + l.body + l.tail.bits + l.check

-- the bits of a layout, without its check
abbrev pub open_bits : Layout → List ℕ → List ℕ
open_bits l m = (((field_bits l.front ++ field_bits l.middle) ++ field_bits l.back) ++ bits_from m 0 l.body) ++ field_bits l.tail
