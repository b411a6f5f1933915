-- The answers of both operations, by what was asked before. Assumes nothing.
use Prim.Native.Nat.{ℕ, ◌+◌, ◌*◌, ◌/◌, ◌<◌, ◌≤◌}
use mathlib.Core.Path.{◌≡◌, sym, ap, ◌∙◌}
use mathlib.Core.Bool.{true, false, or-true}
use mathlib.Core.List.{List}
use lib.ListN.{length}
use borrow.Author.Tests.{lt-ltb, le-ltb}
use Rattle.replies.specs.Pack.{packed}
use Rattle.depot.specs.declared.Command.{Command}
use Rattle.depot.specs.Limits.{within}
use Rattle.depot.specs.Making.{frame_bits, sending, make_of}
use Rattle.readings.specs.Reading.{refused, rows_of}
use Rattle.depot.specs.Reading.{read_of}
use Rattle.fields.specs.Steps.{seal_bits}
use Rattle.readings.specs.Steps.{awaited_rows, saying}
use Rattle.depot.specs.Steps.{layout_of, total_of, open_bits}
use Rattle.depot.specs.Reading.{awaited_by}
use Rattle.readings.proofs.Rows.{rows-awaited}
use Rattle.depot.proofs.Shapes.{frame-laid, frame-length}

-- a command with its payload m, the number n and the cover number k, into a room
module _ (c : Command) (m : List ℕ) (n k : ℕ) (room : List ℕ) where
  pub make-beyond : within c (length m) ≡ false → sending 9 0 room ≡ make_of c m n k room
  unfolding make_of
  make-beyond e = simp e

  module _ (e : within c (length m) ≡ true) (t : ℕ) (f : t ≡ total_of (layout_of c (length m) n k)) where
    bytes : (length (frame_bits c m n k) + 7) / 8 ≡ (t + 7) / 8
    bytes = ap (λ (x : ℕ). (x + 7) / 8) (frame-length c m n k ∙ sym f)

    pub make-short : length room < (t + 7) / 8 → sending 4 0 room ≡ make_of c m n k room
    unfolding make_of
    make-short h = simp (e, bytes, lt-ltb _ _ h)

    pub make-whole : (t + 7) / 8 ≤ length room → (after : List ℕ)
        → after ≡ packed (seal_bits (layout_of c (length m) n k).check (open_bits (layout_of c (length m) n k) m)) room
        → sending 0 t after ≡ make_of c m n k room
    unfolding make_of
    make-whole h after g = simp (e, bytes, le-ltb _ _ h) (rw (g, ← frame-laid c m n k, f, ← frame-length c m n k))

-- n bits of m as a reply to a command with its payload d and the number h
module _ (c : Command) (d : List ℕ) (h n : ℕ) (m : List ℕ) where
  pub read-beyond : within c (length d) ≡ false → refused 9 ≡ read_of c d h n m
  unfolding read_of
  read-beyond e = simp e

  module _ (e : within c (length d) ≡ true) where
    pub read_short : n < 16 → refused 8 ≡ read_of c d h n m
    unfolding read_of
    read_short l = simp (e, lt-ltb _ _ l)

    pub read_past : 8 * length m < n → refused 8 ≡ read_of c d h n m
    unfolding read_of
    read_past l = simp (e, lt-ltb _ _ l, or-true)

    pub read-there : 16 ≤ n → n ≤ 8 * length m → saying (rows_of h n m (awaited_by c)) ≡ read_of c d h n m
    unfolding read_of
    read-there a b = simp (e, le-ltb _ _ a, le-ltb _ _ b)

    pub read_told : 16 ≤ n → n ≤ 8 * length m → saying (awaited_rows h n m (awaited_by c)) ≡ read_of c d h n m
    read_told a b = ap saying (sym (rows-awaited h n m (awaited_by c))) ∙ read-there a b
